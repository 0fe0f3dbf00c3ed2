-- What a form keeps: everything but the rule that the arguments of a call break.
-- For: `selected`, src/forms.rt; `without_late`, specs/Forms.antt
-- By: cases of the operand, and of what its name or its type means; no induction
use Rattle.std.proofs.Common.{◌≡◌, ℕ, ◌≤◌, List, [], ◌∷◌, length, refl, sym, ap, subst, ◌∙◌}
use Rattle.std.specs.Prelude.{Option, Some, None, Result, Ok, Err, slice_set, true, false, cond, codes}
use Rattle.std.specs.Str.{bytes_eq}
use Rattle.std.proofs.Math.Seq.{set_out}
use Rattle.golf_base.specs.declared.Memory.{Memory}
use Rattle.golf_syntax_trees.specs.declared.declarations.Decl.{Decl}
use Rattle.golf_syntax_trees.specs.declared.declarations.Decl.TheVariants as d
use Rattle.golf_check_types.specs.declared.fault.TypeFault.{TypeFault}
use Rattle.golf_check_types.specs.declared.fault.TypeFault.TheVariants as answers
use Rattle.golf_check_types.specs.declared.types.Layer.{Layer}
use Rattle.golf_check_types.specs.declared.types.Base.{Base}
use Rattle.golf_check_types.specs.declared.types.Base.TheVariants as base
use Rattle.golf_check_types.specs.declared.types.GoType.{GoType}
use Rattle.golf_check_types.specs.declared.operands.Operand.{Operand}
use Rattle.golf_check_types.specs.declared.operands.Operand.TheVariants as operand
use Rattle.golf_check_types.specs.declared.operands.BuiltIn.{BuiltIn}
use Rattle.golf_check_types.specs.declared.operands.BuiltIn.TheVariants as built_in
use Rattle.golf_check_types.specs.declared.operands.Package.{Package}
use Rattle.golf_check_types.specs.declared.operands.Given.{Given}
use Rattle.golf_check_types.specs.declared.operands.Given.TheVariants as given_as
use Rattle.golf_check_types.specs.declared.scopes.Member.{Member}
use Rattle.golf_check_types.specs.declared.scopes.Member.TheVariants as members
use Rattle.golf_check_types.specs.declared.scopes.FileScope.{FileScope}
use Rattle.golf_check_types.specs.declared.scopes.Scope.{Scope}
use Rattle.golf_check_types.specs.Faults.{IsFirst, AnswersOrFault}
use Rattle.golf_check_types.specs.Types.{given, given_type, type_of, type_given}
use Rattle.golf_check_types.specs.Scopes.{member}
use Rattle.golf_check_types.specs.Expressions.{Judged, leaf, value, called_name, struct_member, condition_member}
use Rattle.golf_check_types.specs.Expressions.{condition_method, mutex_method, group_method, read_method, base_member}
use Rattle.golf_check_types.specs.Expressions.{type_member, value_member, has_type, package_selected, selected_from}
use Rattle.golf_check_types.specs.Expressions.{package_member, without_package}
use Rattle.golf_check_types.specs.Calls.{called_with}
use Rattle.golf_check_types.specs.Files.{with_forms, globals_above}
use Rattle.golf_check_names.specs.Forms.{without_late, AnswersOperand, called_form, formed_decl}

given_late : (m : Operand) → given (without_late m) ≡ given m
given_late (operand.Nothing late) = refl
given_late m = refl

-- the same form gives the same value
pub same_given : (m n : Operand) → without_late m ≡ without_late n → given m ≡ given n
same_given m n h = sym (given_late m) ∙ ap given h ∙ given_late n

given_type_of : (t : Option GoType) → t ≡ type_given (given_type t)
given_type_of None = refl
given_type_of (Some t) = refl

pub type_of_given : (m : Operand) → type_of m ≡ type_given (given m)
type_of_given (operand.Value t) = given_type_of t
type_of_given (operand.Outcome t) = given_type_of t
type_of_given (operand.Variable w t) = given_type_of t
type_of_given (operand.Field i t) = given_type_of t
type_of_given (operand.Element t) = given_type_of t
type_of_given m = refl

parens_late : (m : Operand) → without_late (without_package (without_late m)) ≡ without_late (without_package m)
parens_late (operand.Nothing late) = refl
parens_late m = refl

pub same_parens : (m n : Operand) → without_late m ≡ without_late n
    → without_late (without_package m) ≡ without_late (without_package n)
same_parens m n h = sym (parens_late m) ∙ ap (λ x. without_late (without_package x)) h ∙ parens_late n

selected_late : (l : ℕ) (f : FileScope) (n : List ℕ) (m : Operand)
    → (selected_from l f n (without_late m)).meaning ≡ (selected_from l f n m).meaning
selected_late l f n (operand.Nothing late) = refl
selected_late l f n m = refl

pub same_selected : (l : ℕ) (f : FileScope) (n : List ℕ) (m k : Operand) → without_late m ≡ without_late k
    → (selected_from l f n m).meaning ≡ (selected_from l f n k).meaning
same_selected l f n m k h = sym (selected_late l f n m) ∙ ap (λ x. (selected_from l f n x).meaning) h
    ∙ selected_late l f n k

-- What breaks a rule after a dot is not known.

Refused : ℕ → ℕ → Judged → Type 0
Refused r l j = IsFirst r l j.faults → operand.Unknown ≡ j.meaning

named_refused : (r l k : ℕ) (b : Option BuiltIn) → Refused r l (called_name k b)
unfolding Refused
named_refused r l k None h = refl
named_refused r l k (Some b) h = absurd h

package_refused : (r l k : ℕ) (p : Package) (n : List ℕ) → Refused r l (package_selected k p n)
unfolding Refused
package_refused r l k p n =
    elim (has_type p n) as (λ b. Refused r l
    (cond b (leaf operand.TypeName []) (called_name k (package_member p n)))) [
      | true ↦ (λ h. absurd h)
      | false ↦
          named_refused r l k (package_member p n)
    ]

struct_refused : (r l k : ℕ) (f : FileScope) (n : ℕ) (m : Option Member) → Refused r l (struct_member k f n m)
unfolding Refused
struct_refused r l k f n None h = refl
struct_refused r l k f n (Some (members.Field i)) h = absurd h
struct_refused r l k f n (Some (members.Method g)) h = absurd h

condition_refused : (r l k : ℕ) (n : List ℕ) → Refused r l (condition_member k n)
unfolding Refused condition_member
condition_refused r l k n =
    elim (bytes_eq n (codes "L")) as (λ b. Refused r l
    (cond b (leaf (value base.Mutex) []) (called_name k (condition_method n)))) [
      | true ↦ (λ h. absurd h)
      | false ↦
          named_refused r l k (condition_method n)
    ]

base_refused : (r l k : ℕ) (f : FileScope) (n : List ℕ) (b : Base) → Refused r l (base_member k f n b)
unfolding Refused
base_refused r l k f n (base.Pointer s) h = struct_refused r l k f s (member f s n) h
base_refused r l k f n base.Mutex h = named_refused r l k (mutex_method n) h
base_refused r l k f n base.Group h = named_refused r l k (group_method n) h
base_refused r l k f n base.ReadWriteMutex h = named_refused r l k (read_method n) h
base_refused r l k f n base.Condition h = condition_refused r l k n h
base_refused r l k f n _ h = refl

type_refused : (r l k : ℕ) (f : FileScope) (n : List ℕ) (xs : List Layer) (b : Base)
    → Refused r l (type_member k f n xs b)
unfolding Refused
type_refused r l k f n [] b h = base_refused r l k f n b h
type_refused r l k f n (x ∷ xs) b h = refl

value_refused : (r l k : ℕ) (f : FileScope) (n : List ℕ) (v : Given) → Refused r l (value_member k f n v)
unfolding Refused
value_refused r l k f n (given_as.Typed t) h = type_refused r l k f n t.layers t.base h
value_refused r l k f n given_as.Nil h = refl
value_refused r l k f n given_as.Unknown h = refl

selected_refused : (r l k : ℕ) (f : FileScope) (n : List ℕ) (m : Operand) → Refused r l (selected_from k f n m)
unfolding Refused
selected_refused r l k f n (operand.Package p) h = package_refused r l k p n h
selected_refused r l k f n (operand.Value t) h = value_refused r l k f n (given_type t) h
selected_refused r l k f n (operand.Outcome t) h = value_refused r l k f n (given_type t) h
selected_refused r l k f n (operand.Variable w t) h = value_refused r l k f n (given_type t) h
selected_refused r l k f n (operand.Field i t) h = value_refused r l k f n (given_type t) h
selected_refused r l k f n (operand.Element t) h = value_refused r l k f n (given_type t) h
selected_refused r l k f n (operand.Constant c b) h = value_refused r l k f n (given (operand.Constant c b)) h
selected_refused r l k f n _ h = refl

-- the same of the answer that refuses
pub refused_selector : (l : ℕ) (f : FileScope) (n : List ℕ) (m : Operand) (a : Result Operand TypeFault) (e : TypeFault)
    (r k : ℕ) → a ≡ Err e → e ≡ answers.At r k
    → AnswersOrFault a (selected_from l f n m).faults (λ x. x ≡ (selected_from l f n m).meaning)
    → operand.Unknown ≡ (selected_from l f n m).meaning
unfolding Refused
refused_selector l f n m a e r k was is h =
    selected_refused k r l f n m (subst (λ b. AnswersOrFault b (selected_from l f n m).faults
    (λ x. x ≡ (selected_from l f n m).meaning)) (was ∙ ap Err is) h)

-- Calls.

pub called_form_late : (f : FileScope) (m : Operand) → called_form f (without_late m) ≡ called_form f m
called_form_late f (operand.Nothing late) = refl
called_form_late f m = refl

built_in_late : (l : ℕ) (s : Scope) (b : BuiltIn) (xs : List Judged)
    → without_late (called_with l s (operand.BuiltIn b) xs).meaning ≡ without_late
    (called_form s.file (operand.BuiltIn b))
built_in_late l s built_in.SetFinalizer [] = refl
built_in_late l s built_in.SetFinalizer (x ∷ []) = refl
built_in_late l s built_in.SetFinalizer (x ∷ (y ∷ ys)) = refl
built_in_late l s b xs = refl

called_late : (l : ℕ) (s : Scope) (m : Operand) (xs : List Judged)
    → without_late (called_with l s m xs).meaning ≡ without_late (called_form s.file m)
called_late l s (operand.BuiltIn b) xs = built_in_late l s b xs
called_late l s m xs = refl

pub same_called : (l : ℕ) (s : Scope) (m n : Operand) (xs : List Judged) → without_late m ≡ without_late n
    → without_late (called_form s.file m) ≡ without_late (called_with l s n xs).meaning
same_called l s m n xs h =
    ap without_late (sym (called_form_late s.file m) ∙ ap (called_form s.file) h ∙ called_form_late s.file n)
    ∙ sym (called_late l s n xs)

pub called_forms : (r : Result Operand Memory) (l : ℕ) (s : Scope) (m n : Operand) (xs : List Judged)
    → AnswersOperand r (called_form s.file m) → without_late m ≡ without_late n
    → AnswersOperand r (called_with l s n xs).meaning
called_forms (Ok k) l s m n xs h e = h ∙ same_called l s m n xs e
called_forms (Err e) l s m n xs h p = tt

-- Declarations.

pub set_past : (xs : List (Option GoType)) (i : ℕ) (t : Option GoType) → length xs ≤ i → slice_set xs i t ≡ xs
set_past xs i t h = set_out xs i t h

pub with_forms_step : (f : FileScope) (g : ℕ) (x : Decl) (xs : List Decl)
    → with_forms f g (x ∷ xs) ≡ with_forms (formed_decl f g x) (globals_above g x) xs
with_forms_step f g (d.Var v) xs = refl
with_forms_step f g (d.Const l n c) xs = refl
with_forms_step f g (d.Struct l n fields) xs = refl
with_forms_step f g (d.Func x) xs = refl
