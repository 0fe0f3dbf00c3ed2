-- The stores of what was received: new names, names that are there, and `_`.
-- For: `statements_fit`, src/lib.rt
-- By: cases of the name; no induction
use Rattle.std.proofs.Common.{◌≡◌, ◌⊎◌, inl, inr, ℕ, ◌==◌, Bool, true, false, cond, not, ◌&&◌, ◌||◌, List, [], ◌∷◌}
use Rattle.std.proofs.Common.{◌++◌, Option, Some, None, refl, sym, subst, slice_get}
use Rattle.std.proofs.lemmas.Slice.Eq.{bytes_eq-Decides}
use Rattle.std.specs.Str.{bytes_eq}
use Rattle.std.specs.Prelude.{is_some}
use Rattle.std.specs.Option.{option_map}
use Rattle.golf_theory.specs.Membership.{In, Every}
use Rattle.golf_theory.proofs.Lists.{Every-from, Every-append}
use Rattle.golf_data.specs.declared.code.Instr.{Instr}
use Rattle.golf_check_types.specs.declared.types.Base.TheVariants as base
use Rattle.golf_check_types.specs.declared.types.GoType.{GoType}
use Rattle.golf_check_types.specs.declared.operands.Given.TheVariants as given_as
use Rattle.golf_check_types.specs.declared.operands.Where.TheVariants as place
use Rattle.golf_check_types.specs.declared.operands.Operand.{Operand}
use Rattle.golf_check_types.specs.declared.operands.Operand.TheVariants as operand
use Rattle.golf_check_types.specs.declared.locals.Local.{Local}
use Rattle.golf_check_types.specs.declared.scopes.Scope.{Scope}
use Rattle.golf_check_types.specs.Faults.{broken}
use Rattle.golf_check_types.specs.Types.{plain, type_of, assignable}
use Rattle.golf_check_types.specs.Names.{look, is_blank}
use Rattle.golf_check_types.specs.Scopes.{meaning, or_else, local_operand, is_reserved, is_here, is_at_depth}
use Rattle.golf_check_types.specs.Statements.{behind, is_new, kept_local, kept_faults, pair_differs, kept_pair_faults}
use Rattle.golf_check_types.specs.Statements.{pair_faults, one_new, pair, bool_type, assigned_name, put_in_faults}
use Rattle.golf_check_types.specs.Statements.{takes_value}
use Rattle.golf_model_typing.specs.Types.{ValueType, Shape, FunctionTypes, Types}
use Rattle.golf_model_typing.specs.Shapes.{slot_types}
use Rattle.golf_code_layout.specs.Piece.{Piece, op}
use Rattle.golf_code_shapes.specs.Has.{shape, Has}
use Rattle.golf_code_shapes.proofs.Pieces.{every-self, has-empty, has-op, has-then}
use Rattle.golf_code_of.specs.declared.tables.Tables.{Tables}
use Rattle.golf_code_of.specs.Expressions.{name}
use Rattle.golf_code_of.specs.Statements.{stores_to, stores_name, stores_new, stores_pair}
use Rattle.golf_code_shapes.specs.Types.{value_type}
use Rattle.golf_code_shapes.specs.Sound.{LocalFits, ScopeFits, TurnsOperands}
use Rattle.golf_code_shapes.specs.StatementFlow.{Slotted}
use Rattle.golf_code_shapes.proofs.Typings.{none-left, none-right, kept}
use Rattle.golf_code_shapes.proofs.Names.{Named, name-means, name-stores, blank-stores, looked-up}
use Rattle.golf_code_shapes.proofs.Flows.{then-in, locals-wider, slotted-left, slotted-right, scope-wider, scope-more}

-- one name that stands twice is not new
same-known : (s : Scope) (n m : List ℕ) → pair_differs s n m ≡ true → bytes_eq n m ≡ true → is_new s n ≡ false
unfolding pair_differs
same-known s n m d e = by (is_reserved n) (is_reserved m) (bytes_eq n m) (is_new s n) d e
  where
    by : (a b c x : Bool) → (not a && (not b && not (c && x))) ≡ true → c ≡ true → x ≡ false
    by true b c x d e = cc
    by false true c x d e = cc
    by false false true true d e = cc
    by false false true false d e = refl
    by false false false x d e = cc

-- names that are there are assigned
pub kept-known : (l : ℕ) (s : Scope) (n m : List ℕ) (v : GoType) → pair_faults l s n m (Some v) ≡ []
    → kept_faults l s n (Some v) ++ kept_faults l s m bool_type ≡ []
kept-known l s n m v none =
    let rest = none-right (broken l 2 (pair_differs s n m)) _ none in
    let both = none-left (kept_pair_faults l s n m (Some v)) _ rest in
    let new = kept l 24 (is_new s n || is_new s m) (none-right (kept_pair_faults l s n m (Some v)) _ rest) in
    let differs = kept l 2 (pair_differs s n m) (none-left (broken l 2 (pair_differs s n m)) _ none) in
    by (bytes_eq n m) refl both new differs
  where
    neither : (a b : Bool) → a ≡ false → b ≡ false → (a || b) ≡ true → ⊥
    neither true b p q r = cc
    neither false true p q r = cc
    neither false false p q r = cc

    by : (b : Bool) → bytes_eq n m ≡ b → cond b [] (kept_faults l s n (Some v) ++ kept_faults l s m bool_type) ≡ []
        → (is_new s n || is_new s m) ≡ true → pair_differs s n m ≡ true → kept_faults l s n (Some v)
        ++ kept_faults l s m bool_type ≡ []
    by false e h new differs = h
    by true e h new differs =
        let old = same-known s n m differs e in
        absurd (neither (is_new s n) (is_new s m) old
        (subst (λ k. is_new s k ≡ false) ((bytes_eq-Decides n m).0 e) old) new)

module _ (types : Types) (t : Tables) (ft : FunctionTypes) where
  abbrev Fits : List ℕ → Scope → Type 0
  Fits = ScopeFits types t ft

  -- assigned names

  stores-known : (l : ℕ) (s : Scope) (A : List ℕ) (p : Option Operand) (v : GoType)
      → ((m : Operand) → p ≡ Some m → (m ≡ operand.Blank) ⊎ Named types t ft A s m) → is_some p ≡ true
      → put_in_faults l p (Some v) ≡ [] → takes_value p ≡ true
      → TurnsOperands types ft A (stores_to l t p) (value_type v ∷ []) []
  unfolding put_in_faults
  stores-known l s A None v h there none takes = cc
  stores-known l s A (Some m) v h there none takes =
      elim (h m refl) as (λ z. TurnsOperands types ft A (name l t m).store (value_type v ∷ []) []) [
        | inl e ↦ subst (λ z. TurnsOperands types ft A (name l t z).store (value_type v ∷ []) []) (sym e)
            (blank-stores types t ft A s l (value_type v))
        | inr n ↦ named m n none takes
      ]
    where
      named : (m : Operand) → Named types t ft A s m → put_in_faults l (Some m) (Some v) ≡ []
          → takes_value (Some m) ≡ true → TurnsOperands types ft A (name l t m).store (value_type v ∷ []) []
      named operand.Blank n none takes = absurd n
      named operand.Unknown n none takes = absurd n
      named m n none takes = name-stores types t ft A s l m v n takes
          (kept l 9 (assignable (given_as.Typed v) (type_of m)) none)

  means-assigned : (s : Scope) (A : List ℕ) (n : List ℕ) → Fits A s → (m : Operand) → assigned_name s n ≡ Some m
      → (m ≡ operand.Blank) ⊎ Named types t ft A s m
  unfolding assigned_name
  means-assigned s A n ok m e = by-blank (is_blank n) e
    where
      by-blank : (b : Bool) → cond b (Some operand.Blank) (meaning s n) ≡ Some m → (m ≡ operand.Blank)
          ⊎ Named types t ft A s m
      by-blank true q = let same : operand.Blank ≡ m = cc in inl (sym same)
      by-blank false q = inr (name-means types t ft A s n ok m q)

  -- one name left of `=`
  pub stores-assigned : (l : ℕ) (s : Scope) (A : List ℕ) (n : List ℕ) (v : GoType) → Fits A s
      → is_some (assigned_name s n) ≡ true → put_in_faults l (assigned_name s n) (Some v) ≡ []
      → takes_value (assigned_name s n) ≡ true
      → TurnsOperands types ft A (stores_name l t s n) (value_type v ∷ []) []
  stores-assigned l s A n v ok there none takes =
      stores-known l s A (assigned_name s n) v (means-assigned s A n ok) there none takes

  -- names left of `:=`

  -- a local of this block, which is assigned
  here-means : (l : ℕ) (s : Scope) (A : List ℕ) (n : List ℕ) (v : GoType) (o : Option Local)
      → ((d : Local) → o ≡ Some d → LocalFits types t ft A d) → is_at_depth o s.depth ≡ true
      → kept_local l s.depth o (Some v) ≡ [] → (rest : Option Operand)
      → (w : Operand) × (or_else (option_map local_operand o) rest ≡ Some w)
      × TurnsOperands types ft A (name l t w).store (value_type v ∷ []) []
  here-means l s A n v None h at none rest = cc
  here-means l s A n v (Some d) h at none rest =
      let f = h d refl in
      let test : (b : Bool) → b ≡ true → cond b (broken l 9 (assignable (given_as.Typed v) d.of_type)) [] ≡ []
      → assignable (given_as.Typed v) d.of_type ≡ true = by-depth d in
      let fit = test (d.depth == s.depth) at none in (
        local_operand d,
        refl,
        subst (λ o. TurnsOperands types ft A (name l t (operand.Variable (place.Slot d.slot) o)).store
            (value_type v ∷ []) [])
            (sym f.1)
            (name-stores types t ft A s l (operand.Variable (place.Slot d.slot) (Some f.0)) v (f.2, f.3) refl
            (subst (λ o. assignable (given_as.Typed v) o ≡ true) f.1 fit)),
      )
    where
      by-depth : (d : Local) (b : Bool) → b ≡ true
          → cond b (broken l 9 (assignable (given_as.Typed v) d.of_type)) [] ≡ []
          → assignable (given_as.Typed v) d.of_type ≡ true
      by-depth d true e q = kept l 9 _ q
      by-depth d false e q = cc

  stores-here : (l : ℕ) (s : Scope) (A : List ℕ) (n : List ℕ) (v : GoType) → Fits A s → is_here s n ≡ true
      → kept_faults l s n (Some v) ≡ [] → TurnsOperands types ft A (stores_to l t (meaning s n)) (value_type v ∷ []) []
  unfolding is_here kept_faults meaning
  stores-here l s A n v ok at none =
      let h = here-means l s A n v (look s.locals n)
      (λ d e. looked-up types t ft A s s.locals n ok.locals d e) at none _ in
      subst (λ o. TurnsOperands types ft A (stores_to l t o) (value_type v ∷ []) []) (sym h.1) h.2

  -- a name that is not new is `_` or in this block
  stores-old : (l : ℕ) (s : Scope) (A : List ℕ) (n : List ℕ) (v : GoType) → Fits A s → is_new s n ≡ false
      → kept_faults l s n (Some v) ≡ [] → TurnsOperands types ft A (stores_name l t s n) (value_type v ∷ []) []
  unfolding assigned_name
  stores-old l s A n v ok old none = by-blank (is_blank n) (is_here s n) refl old
    where
      by-blank : (b h : Bool) → is_here s n ≡ h → (not b && not h) ≡ false
          → TurnsOperands types ft A (stores_to l t (cond b (Some operand.Blank) (meaning s n))) (value_type v ∷ []) []
      by-blank true h e q = blank-stores types t ft A s l (value_type v)
      by-blank false true e q = stores-here l s A n v ok e none
      by-blank false false e q = cc

  -- What one name takes: the slots that are assigned then, and the locals that are declared.
  pub record Taken (l : ℕ) (s at : Scope) (n : List ℕ) (v : GoType) (A : List ℕ) : Type 0 where
    pub slots : List ℕ
    pub more : Every (λ i. In i slots) A
    pub declares : Every (LocalFits types t ft slots) (one_new (is_new s n) n (Some v) at).declares
    pub has : (ops : List ValueType) (exits : List Shape)
        → Has types ft (stores_new l t s at n) (shape (value_type v ∷ ops) A) (shape ops slots) exits

  pub new-slot : (l i : ℕ) (v : ValueType) (A : List ℕ) (ops : List ValueType) (exits : List Shape)
      → slice_get (slot_types ft) i ≡ Some v
      → Has types ft (op l (Instr.Store i)) (shape (v ∷ ops) A) (shape ops (i ∷ A)) exits
  new-slot l i v A ops exits typed = has-op types ft (Instr.Store i) l (shape (v ∷ ops) A) (shape ops (i ∷ A)) exits
      (λ full k m. (v, ops, typed, refl, m))

  pub one-taken : (l : ℕ) (s at : Scope) (n : List ℕ) (v : GoType) (A : List ℕ)
      → (is_new s n ≡ false → TurnsOperands types ft A (stores_name l t s n) (value_type v ∷ []) [])
      → Slotted ft at.next (one_new (is_new s n) n (Some v) at).slots → Taken l s at n v A
  one-taken l s at n v A old slots = by-new (is_new s n) refl slots
    where
      by-new : (b : Bool) → is_new s n ≡ b → Slotted ft at.next (one_new b n (Some v) at).slots → Taken l s at n v A
      by-new true e h = record {
        slots = at.next ∷ A;
        more = Every-from (λ j. In j (at.next ∷ A)) A (λ j m. inr m);
        declares = subst (λ b. Every (LocalFits types t ft (at.next ∷ A)) (one_new b n (Some v) at).declares) (sym e)
            ((v, refl, inl refl, h.0), tt);
        has = λ ops exits. subst (λ b. Has types ft (cond b (op l (Instr.Store at.next)) (stores_name l t s n))
            (shape (value_type v ∷ ops) A) (shape ops (at.next ∷ A)) exits) (sym e)
            (new-slot l at.next (value_type v) A ops exits h.0);
      }
      by-new false e h = record {
        slots = A;
        more = every-self A;
        declares = subst (λ b. Every (LocalFits types t ft A) (one_new b n (Some v) at).declares) (sym e) tt;
        has = λ ops exits. subst (λ b. Has types ft (cond b (op l (Instr.Store at.next)) (stores_name l t s n))
            (shape (value_type v ∷ ops) A) (shape ops A) exits) (sym e) (old e ops exits);
      }

  -- Two names: `ok` stands on top, and the value below it.
  pub record PairTaken (l : ℕ) (s : Scope) (n m : List ℕ) (v : GoType) (A : List ℕ) : Type 0 where
    pub slots : List ℕ
    pub more : Every (λ i. In i slots) A
    pub fits : Fits slots (behind s (pair l n m (Some v) s))
    pub has : (ops : List ValueType) (exits : List Shape)
        → Has types ft (stores_pair l t s n m (Some v)) (shape (ValueType.Bool ∷ value_type v ∷ ops) A)
        (shape ops slots) exits

  pub pair-taken : (l : ℕ) (s : Scope) (n m : List ℕ) (v : GoType) (A : List ℕ) → Fits A s
      → pair_faults l s n m (Some v) ≡ [] → Slotted ft s.next (pair l n m (Some v) s).slots → PairTaken l s n m v A
  pair-taken l s n m v A ok none slots =
      let one = one_new (is_new s n) n (Some v) s in
      let s1 = behind s one in
      let two = one_new (is_new s m) m bool_type s1 in
      let kept-both = kept-known l s n m v none in
      let kept-n = none-left (kept_faults l s n (Some v)) (kept_faults l s m bool_type) kept-both in
      let kept-m = none-right (kept_faults l s n (Some v)) (kept_faults l s m bool_type) kept-both in
      let x = one-taken l s s1 m (plain base.Bool) A (λ e. stores-old l s A m (plain base.Bool) ok e kept-m)
      (slotted-right types t ft s.next s1.next one.slots two.slots refl slots) in
      let y = one-taken l s s n v x.slots (λ e. stores-old l s x.slots n v
      (scope-wider types t ft A x.slots s x.more ok) e kept-n)
      (slotted-left types t ft s.next one.slots two.slots slots) in
      let more = then-in A x.slots y.slots x.more y.more in
      record {
        slots = y.slots;
        more = more;
        fits = scope-more types t ft A y.slots s (pair l n m (Some v) s) more ok
            (Every-append (LocalFits types t ft y.slots) one.declares two.declares y.declares
            (locals-wider types t ft x.slots y.slots y.more two.declares x.declares));
        has = λ ops exits.
            has-then types ft _ _ (shape (ValueType.Bool ∷ value_type v ∷ ops) A) (shape (value_type v ∷ ops) x.slots)
            (shape ops y.slots) exits (x.has (value_type v ∷ ops) exits)
            (has-then types ft _ Piece.Empty (shape (value_type v ∷ ops) x.slots) (shape ops y.slots)
            (shape ops y.slots) exits (y.has ops exits) (has-empty types ft (shape ops y.slots) exits));
      }
