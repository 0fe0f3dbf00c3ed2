-- Globals have the types of what they begin with, and receivers and parameters have types.
-- For: `DeclarationsKnown`, `NamesFitAll` (golf_code_shapes/specs/GlobalLaws.antt)
-- By: induction over the list of declarations
use Rattle.std.proofs.Common.{◌≡◌, ◌⊎◌, inl, inr, ℕ, zero, suc, ◌+◌, ◌<◌, not, true, List, [], ◌∷◌, length, flat_map}
use Rattle.std.proofs.Common.{slice_get, slice_set, Option, Some, None, unwrap_or, refl, sym, ap, ◌∙◌, subst, arith}
use Rattle.std.specs.Option.{option_and_then}
use Rattle.golf_theory.specs.Membership.{Every}
use Rattle.golf_syntax_trees.specs.declared.types.TypeExpr.{TypeExpr}
use Rattle.golf_syntax_trees.specs.declared.expressions.Expr.{Expr}
use Rattle.golf_syntax_trees.specs.declared.statements.Var.{Var}
use Rattle.golf_syntax_trees.specs.declared.statements.VarContent.{VarContent}
use Rattle.golf_syntax_trees.specs.declared.statements.VarContent.TheVariants as content
use Rattle.golf_syntax_trees.specs.declared.declarations.Func.{Func}
use Rattle.golf_syntax_trees.specs.declared.declarations.Decl.{Decl}
use Rattle.golf_syntax_trees.specs.declared.declarations.Decl.TheVariants as d
use Rattle.golf_check_types.specs.declared.types.Base.TheVariants as base
use Rattle.golf_check_types.specs.declared.types.GoType.{GoType}
use Rattle.golf_check_types.specs.declared.scopes.Imports.{Imports}
use Rattle.golf_check_types.specs.declared.scopes.Members.{Members}
use Rattle.golf_check_types.specs.declared.scopes.FileScope.{FileScope}
use Rattle.golf_check_types.specs.declared.scopes.Scope.{Scope}
use Rattle.golf_check_types.specs.Types.{plain, type_given, is_nil}
use Rattle.golf_check_types.specs.Scopes.{meaning_in}
use Rattle.golf_check_types.specs.Written.{write}
use Rattle.golf_check_types.specs.Expressions.{used, given_by}
use Rattle.golf_check_types.specs.Judgments.{judge}
use Rattle.golf_check_types.specs.Files.{Above, next_above, none_above, function_faults, name_faults, names_faults}
use Rattle.golf_check_types.specs.Files.{method_is, struct_number, content_faults, field_fault, type_faults}
use Rattle.golf_check_types.specs.Files.{main_faults, import_faults, content_type, global_types, bare_file, with_types}
use Rattle.golf_check_types.specs.Files.{with_imports, no_imports, outside, formed_content, with_forms, file_scope}
use Rattle.golf_check_types.specs.Files.{initial_walk, decl_walked, walk_faults, Broken}
use Rattle.golf_model_typing.specs.Types.{FunctionTypes, with_shapes}
use Rattle.golf_model_typing.proofs.Gets.{slice_set-same}
use Rattle.golf_code_of.specs.ExpressionCode.{piece_at}
use Rattle.golf_code_of.specs.Files.{tables_of}
use Rattle.golf_code_shapes.specs.Sound.{IsKnown, FileFits, ScopeFits}
use Rattle.golf_code_shapes.specs.FileLaws.{entry_signature, types_of_code, initial_scope, initial_type}
use Rattle.golf_code_shapes.specs.FileLaws.{ParametersAreKnown, DeclarationsAreKnown, NamesFit, scope_of}
use Rattle.golf_code_shapes.proofs.Typings.{none-left, none-right, kept}
use Rattle.golf_code_shapes.proofs.Literals.{written-known}
use Rattle.golf_code_shapes.proofs.Simples.{value-of, typed}
use Rattle.golf_code_shapes.proofs.WholeFiles.{text-below}
use Rattle.golf_code_shapes.specs.Parts.{contents_of}
use Rattle.golf_code_shapes.specs.NameLaws.{named_with, GlobalsAreKnown, WellNamed}
use Rattle.golf_check_types.proofs.Alike.{written-alike, fields-alike}
use Rattle.golf_code_shapes.proofs.Callees.{NameKnown, fields-known, receiver-known, pointers, names-mean}
use Rattle.golf_code_shapes.proofs.Mains.{main-fits}
use Rattle.golf_code_shapes.specs.GlobalLaws.{DeclarationsKnown, NamesFitAll}
use Rattle.golf_code_shapes.proofs.Forms.{form-stays}

-- Lists of types.

set-other : {X : Type 0} (xs : List X) (i : ℕ) (v : X) (k : ℕ) → k < i → slice_get (slice_set xs i v) k ≡ slice_get xs k
set-other [] i v k l = refl
set-other (x ∷ xs) zero v k l = absurd (omega (arith, l))
set-other (x ∷ xs) (suc i) v zero l = refl
set-other (x ∷ xs) (suc i) v (suc k) l = set-other xs i v k (omega (arith, l))

set-past : {X : Type 0} (xs : List X) (i : ℕ) (v : X) (k : ℕ) → i < k → slice_get (slice_set xs i v) k ≡ slice_get xs k
set-past [] i v k l = refl
set-past (x ∷ xs) zero v zero l = absurd (omega (arith, l))
set-past (x ∷ xs) zero v (suc k) l = refl
set-past (x ∷ xs) (suc i) v zero l = absurd (omega (arith, l))
set-past (x ∷ xs) (suc i) v (suc k) l = set-past xs i v k (omega (arith, l))

-- so many types, those of the list if it has them
padded : ℕ → List (Option GoType) → List (Option GoType)
padded zero os = []
padded (suc n) [] = Some (plain base.Int) ∷ padded n []
padded (suc n) (o ∷ os) = Some (unwrap_or o (plain base.Int)) ∷ padded n os

padded-known : (n : ℕ) (os : List (Option GoType)) → GlobalsAreKnown (padded n os) n
unfolding padded
padded-known zero os k l = absurd (omega (arith, l))
padded-known (suc n) [] zero l = (plain base.Int, refl)
padded-known (suc n) [] (suc k) l = padded-known n [] k (omega (arith, l))
padded-known (suc n) (o ∷ os) zero l = (unwrap_or o (plain base.Int), refl)
padded-known (suc n) (o ∷ os) (suc k) l = padded-known n os k (omega (arith, l))

padded-keeps : (n : ℕ) (os : List (Option GoType)) (k : ℕ) (t : GoType) → k < n → slice_get os k ≡ Some (Some t)
    → slice_get (padded n os) k ≡ Some (Some t)
unfolding padded
padded-keeps zero os k t l e = absurd (omega (arith, l))
padded-keeps (suc n) [] zero t l e = cc
padded-keeps (suc n) [] (suc k) t l e = cc
padded-keeps (suc n) (o ∷ os) zero t l e = let is : o ≡ Some t =
    cc in ap (λ (o : Option GoType). Some (Some (unwrap_or o (plain base.Int)))) is
padded-keeps (suc n) (o ∷ os) (suc k) t l e = padded-keeps n os k t (omega (arith, l)) e

fewer-known : (os : List (Option GoType)) (n m : ℕ) → n < m + 1 → GlobalsAreKnown os m → GlobalsAreKnown os n
fewer-known os n m l h k less = h k (omega (arith, l, less))

abbrev first_types : FunctionTypes
first_types = with_shapes entry_signature []

-- The scope in which the globals above are formed.

content-is : (f : FileScope) (l g : ℕ) (c : VarContent)
    → formed_content f l g c ≡ record f { globals = (formed_content f l g c).globals }
content-is f l g (content.Zero w) = refl
content-is f l g (content.Typed w e) = refl
content-is f l g (content.Untyped e) = refl

forms-are : (f : FileScope) (g : ℕ) (xs : List Decl)
    → with_forms f g xs ≡ record f { globals = (with_forms f g xs).globals }
forms-are f g [] = refl
forms-are f g (d.Const l n c ∷ xs) = forms-are f g xs
forms-are f g (d.Struct l n fields ∷ xs) = forms-are f g xs
forms-are f g (d.Func x ∷ xs) = forms-are f g xs
forms-are f g (d.Var v ∷ xs) =
    let next = formed_content f v.line g v.content in
    forms-are next (g + 1) xs ∙ ap (λ (z : FileScope). record z { globals = (with_forms next (g + 1) xs).globals })
    (content-is f v.line g v.content)

content-below : (f : FileScope) (l g : ℕ) (c : VarContent) (k : ℕ) → k < g
    → slice_get (formed_content f l g c).globals k ≡ slice_get f.globals k
content-below f l g (content.Zero w) k less = refl
content-below f l g (content.Typed w e) k less = refl
content-below f l g (content.Untyped e) k less = set-other f.globals g _ k less

forms-below : (f : FileScope) (g : ℕ) (xs : List Decl) (k : ℕ) → k < g
    → slice_get (with_forms f g xs).globals k ≡ slice_get f.globals k
forms-below f g [] k less = refl
forms-below f g (d.Const l n c ∷ xs) k less = forms-below f g xs k less
forms-below f g (d.Struct l n fields ∷ xs) k less = forms-below f g xs k less
forms-below f g (d.Func x ∷ xs) k less = forms-below f g xs k less
forms-below f g (d.Var v ∷ xs) k less = forms-below (formed_content f v.line g v.content) (g + 1) xs k
    (omega (arith, less)) ∙ content-below f v.line g v.content k less

content-past : (f : FileScope) (l g : ℕ) (c : VarContent) (k : ℕ) → g < k
    → slice_get (formed_content f l g c).globals k ≡ slice_get f.globals k
content-past f l g (content.Zero w) k more = refl
content-past f l g (content.Typed w e) k more = refl
content-past f l g (content.Untyped e) k more = set-past f.globals g _ k more

-- methods have a struct
has-struct : (ms : List Members) (o : Option ℕ) (n : List ℕ) (q : ℕ) → method_is ms o n q ≡ true → (k : ℕ)
    × (o ≡ Some k)
has-struct ms None n q e = cc
has-struct ms (Some k) n q e = (k, refl)

below-next : (k g : ℕ) → k < g + 1 → (k < g) ⊎ (k ≡ g)
below-next k g less = grind (arith, less)

module _ (i : Imports) (xs : List Decl) (w : WellNamed i xs) where
  abbrev begin : Scope
  begin = outside (bare_file i xs)

  -- the names of the file whose globals have these types
  abbrev at : List (Option GoType) → FileScope
  at globals = named_with i xs globals

  -- an expression that breaks no rule if all globals have types has a type, or is nil
  has-type : (globals : List (Option GoType)) (l : ℕ) (e : Expr)
      → GlobalsAreKnown globals (length (flat_map contents_of xs)) → used l (judge e l (outside (at globals))) ≡ []
      → not (is_nil (given_by (judge e l (outside (at globals))))) ≡ true
      → IsKnown (type_given (given_by (judge e l (outside (at globals)))))
  has-type globals l e known none not-nil =
      let t = tables_of xs in
      let f = at globals in
      let s = outside f in
      let types = types_of_code t f xs in
      let mean = names-mean i xs globals w known in
      let file : FileFits types t f = record { texts = text-below xs; names = mean.names; members = mean.members } in
      let fits : ScopeFits types t first_types [] s = record { file = file; locals = tt; result = refl } in
      let v = typed types t first_types [] s (given_by (judge e l s)) (piece_at t l s e) not-nil
      (value-of types t first_types l e s [] fits none) in
      (v.0, v.1)

  module _ (formed : List (Option GoType)) where
    abbrev final : FileScope
    final = at formed

    -- what a global of a written type has
    written-global : (gs : List (Option GoType)) (g l : ℕ) (x : TypeExpr) → slice_get gs g ≡ Some (write x 0 begin).type
        → (write x l begin).faults ≡ []
        → (t : GoType) × ((write x l (initial_scope final g)).type ≡ Some t) × (slice_get gs g ≡ Some (Some t))
    written-global gs g l x is none =
        let k = written-known x l begin none in (
          k.0,
          written-alike (initial_scope final g) begin (pointers i xs formed w (Some g)) x l l ∙ k.1,
          is
              ∙ ap Some (written-alike begin begin (λ n. refl) x 0 l ∙ k.1),
        )

    -- what a global has whose initialiser breaks no rule, if the globals above it are formed
    formed-global : (gs : List (Option GoType)) (g l : ℕ) (e : Expr) → GlobalsAreKnown gs g
        → ((k : ℕ) → k < g → slice_get formed k ≡ slice_get gs k)
        → (initial_walk l (content.Untyped e) (initial_scope final g)).faults ≡ []
        → (t : GoType) × (type_given (given_by (judge e l (initial_scope final g))) ≡ Some t)
        × (type_given (given_by (judge e l (outside (at gs)))) ≡ Some t)
    formed-global gs g l e known below none =
        let j = judge e l (initial_scope final g) in
        let clean = none-left j.faults _ (none-left (used l j) _ none) in
        let many = length (flat_map contents_of xs) + g in
        let ps = padded many gs in
        let here : judge e l (outside (at gs)) ≡ j =
        form-stays final gs g (λ k less. ap (option_and_then (λ t. t)) (sym (below k less))) e l clean in
        let there : judge e l (outside (at ps)) ≡ j =
        form-stays final ps g (λ k less. let t = known k less in ap (option_and_then (λ t. t))
        (padded-keeps many gs k t.0 (omega (arith, less)) t.1 ∙ sym t.1 ∙ sym (below k less))) e l clean in
        let t = has-type ps l e (fewer-known ps (length (flat_map contents_of xs)) many (omega arith)
        (padded-known many gs)) (subst (λ z. used l z ≡ []) (sym there) (none-left (used l j) _ none))
        (subst (λ z. not (is_nil (given_by z)) ≡ true) (sym there) (kept l 23 _ (none-right (used l j) _ none))) in
        let is : type_given (given_by j) ≡ Some t.0 = ap (λ z. type_given (given_by z)) (sym there) ∙ t.1 in
        (t.0, is, ap (λ z. type_given (given_by z)) here ∙ is)

    one-global : (gs : List (Option GoType)) (g l : ℕ) (c : VarContent) → GlobalsAreKnown gs g
        → ((k : ℕ) → k < g → slice_get formed k ≡ slice_get gs k) → slice_get gs g ≡ Some (content_type begin c)
        → content_faults l begin c ≡ [] → (initial_walk l c (initial_scope final g)).faults ≡ []
        → (t : GoType) × (initial_type l c (initial_scope final g) ≡ Some t)
        × (slice_get (formed_content (at gs) l g c).globals g ≡ Some (Some t))
    one-global gs g l (content.Zero x) known below is written none = written-global gs g l x is written
    one-global gs g l (content.Typed x e) known below is written none = written-global gs g l x is written
    one-global gs g l (content.Untyped e) known below is written none =
        let t = formed-global gs g l e known below none in
        (t.0, t.1, slice_set-same gs g (type_given (given_by (judge e l (outside (at gs))))) None is ∙ ap Some t.2)

    parameters-are : (f : Func) (a : Above) → name_faults (bare_file i xs) a (d.Func f) ≡ []
        → type_faults begin (d.Func f) ≡ [] → ParametersAreKnown (outside final) f
    parameters-are f a names types = record {
      receiver = λ r is.
          let clean = subst (λ o. function_faults (bare_file i xs) a f o ≡ []) is names in
          let k = has-struct (bare_file i xs).structs
          (struct_number (meaning_in (bare_file i xs) r.type_name)) f.name a.functions (kept f.line 5 _ clean) in
          (plain (base.Pointer k.0), receiver-known final r.type_name k.0 k.1);
      parameters = subst (Every NameKnown) (sym
          (fields-alike (outside final) begin (pointers i xs formed w None) f.parameters))
          (fields-known f.line begin f.parameters
          (none-left (flat_map (field_fault f.line begin) f.parameters) _ types));
    }

    -- what is known if the global of this number is the next
    record Next (gs : List (Option GoType)) (g : ℕ) (rest : List Decl) : Type 0 where
      pub known : GlobalsAreKnown gs g
      pub written : (j : ℕ) → slice_get gs (g + j) ≡ slice_get (flat_map (global_types begin) rest) j
      pub forms : (with_forms (at gs) g rest).globals ≡ formed

    same-below : (gs : List (Option GoType)) (g : ℕ) (rest : List Decl) → Next gs g rest → (k : ℕ) → k < g
        → slice_get formed k ≡ slice_get gs k
    same-below gs g rest h k less = ap (λ (z : List (Option GoType)). slice_get z k) (sym h.forms)
        ∙ forms-below (at gs) g rest k less

    next-global : (gs : List (Option GoType)) (g : ℕ) (v : Var) (rest : List Decl) → Next gs g (d.Var v ∷ rest)
        → (t : GoType) → slice_get (formed_content (at gs) v.line g v.content).globals g ≡ Some (Some t)
        → Next (formed_content (at gs) v.line g v.content).globals (g + 1) rest
    next-global gs g v rest h t is =
        let new = (formed_content (at gs) v.line g v.content).globals in
        record {
          known = λ k less. elim (below-next k g less) [
            | inl l ↦ let o = h.known k l in (o.0, content-below (at gs) v.line g v.content k l ∙ o.1)
            | inr e ↦ (t, subst (λ j. slice_get new j ≡ Some (Some t)) (sym e) is)
          ];
          written = λ j.
              let at-next : g + 1 + j ≡ g + (suc j) = omega arith in
              content-past (at gs) v.line g v.content (g + 1 + j) (omega arith) ∙ ap (slice_get gs) at-next
              ∙ h.written (suc j);
          forms = subst (λ (z : FileScope). (with_forms z (g + 1) rest).globals ≡ formed)
              (content-is (at gs) v.line g v.content) h.forms;
        }

    all-known : (rest : List Decl) (gs : List (Option GoType)) (g : ℕ) (a : Above)
        → names_faults (bare_file i xs) a rest ≡ [] → flat_map (type_faults begin) rest ≡ []
        → walk_faults final g rest ≡ [] → Next gs g rest → DeclarationsAreKnown final g rest
    all-known [] gs g a names types none h = tt
    all-known (d.Const l n c ∷ rest) gs g a names types none h =
        let x = d.Const l n c in (
          tt,
          all-known rest gs g (next_above a x) (none-right (name_faults (bare_file i xs) a x) _ names) types
              (none-right (decl_walked final g x).faults _ none)
              (record { known = h.known; written = h.written; forms = h.forms }),
        )
    all-known (d.Struct l n fs ∷ rest) gs g a names types none h =
        let x = d.Struct l n fs in (
          tt,
          all-known rest gs g (next_above a x) (none-right (name_faults (bare_file i xs) a x) _ names)
              (none-right (type_faults begin x) _ types) (none-right (decl_walked final g x).faults _ none)
              (record { known = h.known; written = h.written; forms = h.forms }),
        )
    all-known (d.Func f ∷ rest) gs g a names types none h =
        let x = d.Func f in (
          parameters-are f a (none-left (name_faults (bare_file i xs) a x) _ names)
              (none-left (type_faults begin x) _ types),
          all-known rest gs g (next_above a x) (none-right (name_faults (bare_file i xs) a x) _ names)
              (none-right (type_faults begin x) _ types) (none-right (decl_walked final g x).faults _ none)
              (record { known = h.known; written = h.written; forms = h.forms }),
        )
    all-known (d.Var v ∷ rest) gs g a names types none h =
        let x = d.Var v in
        let zero-more : g + 0 ≡ g = omega arith in
        let t = one-global gs g v.line v.content h.known (same-below gs g (x ∷ rest) h)
        (ap (slice_get gs) (sym zero-more) ∙ h.written 0) (none-left (type_faults begin x) _ types)
        (none-left (decl_walked final g x).faults _ none) in
        let next = next-global gs g v rest h t.0 t.2 in
        let new = (formed_content (at gs) v.line g v.content).globals in (
          record { of_type = t.0; begins = t.1; known = same-below new (g + 1) rest next g (omega arith) ∙ t.2 },
          all-known rest new (g + 1) (next_above a x) (none-right (name_faults (bare_file i xs) a x) _ names)
              (none-right (type_faults begin x) _ types) (none-right (decl_walked final g x).faults _ none) next,
        )

-- the names of a file, whose globals have the types of their forms
forms-final : (i : Imports) (xs : List Decl) → file_scope i xs ≡ named_with i xs (file_scope i xs).globals
forms-final i xs = forms-are (with_types (bare_file i xs) xs) 0 xs

known-final : (i : Imports) (xs : List Decl) → WellNamed i xs → walk_faults (file_scope i xs) 0 xs ≡ []
    → DeclarationsAreKnown (named_with i xs (file_scope i xs).globals) 0 xs
known-final i xs w none =
    let gs = flat_map (global_types (outside (bare_file i xs))) xs in
    all-known i xs w (file_scope i xs).globals xs gs 0 none_above w.names w.types
    (subst (λ (f : FileScope). walk_faults f 0 xs ≡ []) (forms-final i xs) none)
    (record {
      known = λ k less. absurd (omega (arith, less));
      written = λ j. let is : 0 + j ≡ j = omega arith in ap (slice_get gs) is;
      forms = refl;
    })

pub declarations-known : DeclarationsKnown
declarations-known i xs w none = subst (λ (f : FileScope). DeclarationsAreKnown f 0 xs) (sym (forms-final i xs))
    (known-final i xs w none)

globals-known : (f : FileScope) (g : ℕ) (xs : List Decl) → DeclarationsAreKnown f g xs → (k : ℕ)
    → k < length (flat_map contents_of xs) → (t : GoType) × (slice_get f.globals (g + k) ≡ Some (Some t))
globals-known f g [] h k less = absurd (omega (arith, less))
globals-known f g (d.Const l n c ∷ xs) h k less = globals-known f g xs h.1 k less
globals-known f g (d.Struct l n fs ∷ xs) h k less = globals-known f g xs h.1 k less
globals-known f g (d.Func x ∷ xs) h k less = globals-known f g xs h.1 k less
globals-known f g (d.Var v ∷ xs) h zero less = let one = h.0 in let is : g + 0 ≡ g =
    omega arith in (one.of_type, ap (slice_get f.globals) is ∙ one.known)
globals-known f g (d.Var v ∷ xs) h (suc k) less =
    let rest = globals-known f (g + 1) xs h.1 k (omega (arith, less)) in
    let is : g + suc k ≡ g + 1 + k = omega arith in
    (rest.0, ap (slice_get f.globals) is ∙ rest.1)

pub names-fit : NamesFitAll
unfolding Broken
names-fit file none =
    let xs = file.declarations in
    let i = with_imports no_imports file.imports in
    let t = tables_of xs in
    let bare = bare_file i xs in
    let behind-imports = none-right (import_faults no_imports file.imports) _ none in
    let behind-names = none-right (names_faults bare none_above xs) _ behind-imports in
    let behind-types = none-right (flat_map (type_faults (outside bare)) xs) _ behind-names in
    let walked = none-right (main_faults xs) (walk_faults (scope_of file) 0 xs) behind-types in
    let w : WellNamed i xs = record {
      names = none-left (names_faults bare none_above xs) _ behind-imports;
      types = none-left (flat_map (type_faults (outside bare)) xs) _ behind-names;
    } in
    let gs = (scope_of file).globals in
    let f = named_with i xs gs in
    let known = known-final i xs w walked in
    let mean = names-mean i xs gs w (λ k less. let g = globals-known f 0 xs known k less in let is : 0 + k
    ≡ k = omega arith in (g.0, ap (slice_get gs) (sym is) ∙ g.1)) in
    subst (λ (z : FileScope). NamesFit t z xs) (sym (forms-final i xs))
    (record {
      names = mean.names;
      members = mean.members;
      declarations = known;
      main = main-fits i xs gs t w (none-left (main_faults xs) _ behind-types);
    })
