-- Arguments have the first slots.
-- For: `functions_agree`, src/lib.rt; `named`, specs/Functions.antt
-- By: induction over the list of locals, and over the list of parameters
use Rattle.std.proofs.Common.{◌≡◌, ℕ, zero, suc, ◌+◌, List, [], ◌∷◌, ◌++◌, length, map, Option, Some, None, refl, sym}
use Rattle.std.proofs.Common.{◌∙◌, subst, slice_get, arith, append_assoc, append-nil, length-append}
use Rattle.golf_syntax_trees.specs.declared.declarations.Receiver.{Receiver}
use Rattle.golf_syntax_trees.specs.declared.declarations.Func.{Func}
use Rattle.golf_data.specs.declared.value.Value.{Value}
use Rattle.golf_check_types.specs.declared.types.GoType.{GoType}
use Rattle.golf_check_types.specs.declared.locals.Local.{Local}
use Rattle.golf_check_types.specs.declared.scopes.FileScope.{FileScope}
use Rattle.golf_check_types.specs.declared.scopes.Scope.{Scope}
use Rattle.golf_check_types.specs.Statements as W
use Rattle.golf_check_types.specs.Statements.{behind}
use Rattle.golf_check_types.specs.Files.{outside, receiver_walk, parameter_walk, all_typed_names, body_scope}
use Rattle.golf_meaning_source.specs.Does.{Stored, SlotsRise, Known}
use Rattle.golf_meaning_statements.specs.Functions.{named}

-- the slots of these locals are the numbers from this one on, and the next one is that
abbrev Numbered : ℕ → List Local → Type 0
Numbered k [] = Unit {0}
Numbered k (d ∷ ds) = (d.slot ≡ k) × Numbered (k + 1) ds

abbrev Entered : List Local → ℕ → Type 0
Entered ds next = Numbered 0 ds × (length ds ≡ next)

numbered-one : (ds : List Local) (k : ℕ) (d : Local) → Numbered k ds → d.slot ≡ k + length ds
    → Numbered k (ds ++ d ∷ [])
numbered-one [] k d h e = (e ∙ nothing-more k, tt)
  where
    nothing-more : (j : ℕ) → j + length {A = Local} [] ≡ j
    nothing-more j = omega arith
numbered-one (x ∷ ds) k d h e = (h.0, numbered-one ds (k + 1) d h.1 (e ∙ one-more k (length ds)))
  where
    one-more : (j m : ℕ) → j + suc m ≡ j + 1 + m
    one-more j m = omega arith

one-entered : (ds : List Local) (next : ℕ) (d : Local) → d.slot ≡ next → Entered ds next
    → Entered (ds ++ d ∷ []) (next + 1)
one-entered ds next d e h =
    let long = length-append ds (d ∷ []) in
    let l = h.1 in
    (numbered-one ds 0 d h.0 (e ∙ sym l ∙ from-zero (length ds)), omega (arith, long, l))
  where
    from-zero : (j : ℕ) → j ≡ 0 + j
    from-zero j = omega arith

parameters-entered : (l : ℕ) (ps : List (List ℕ × Option GoType)) (s : Scope) → Entered s.locals s.next
    → Entered (behind s (W.in_order (map (parameter_walk l) ps) s)).locals
    (behind s (W.in_order (map (parameter_walk l) ps) s)).next
parameters-entered l [] s h = subst (λ ds. Entered ds (s.next + 0)) (sym (append-nil s.locals))
    (subst (λ k. Entered s.locals k) (same s.next) h)
  where
    same : (j : ℕ) → j ≡ j + 0
    same j = omega arith
parameters-entered l (p ∷ ps) s h =
    let w = parameter_walk l p s in
    let s1 = behind s w in
    let v = W.in_order (map (parameter_walk l) ps) s1 in
    let one : Entered s1.locals s1.next = one-entered s.locals s.next _ refl h in
    let rest = parameters-entered l ps s1 one in
    let long = length-append w.slots v.slots in
    subst (λ ds. Entered ds (s.next + length (w.slots ++ v.slots))) (append_assoc s.locals w.declares v.declares)
    (subst (λ k. Entered ((s.locals ++ w.declares) ++ v.declares) k) (omega (arith, long)) rest)

receiver-entered : (l : ℕ) (file : Scope) (o : Option Receiver) (s : Scope) → Entered s.locals s.next
    → Entered (behind s (receiver_walk l file o s)).locals (behind s (receiver_walk l file o s)).next
receiver-entered l file None s h = parameters-entered l [] s h
receiver-entered l file (Some r) s h = one-entered s.locals s.next _ refl h

body-entered : (names : FileScope) (f : Func)
    → Entered (body_scope (outside names) f).locals (body_scope (outside names) f).next
body-entered names f =
    let out = outside names in
    let s0 : Scope = record out { result = (body_scope out f).result } in
    let s1 = behind s0 (receiver_walk f.line out f.receiver s0) in
    parameters-entered f.line (all_typed_names out f.parameters) s1
    (receiver-entered f.line out f.receiver s0 (tt, refl))

at-length : (xs : List Value) (y : Value) (ys : List Value) (n : ℕ) → n ≡ length xs
    → slice_get (xs ++ y ∷ ys) n ≡ Some y
at-length [] y ys n e = subst (λ k. slice_get (y ∷ ys) k ≡ Some y) (sym e) refl
at-length (x ∷ xs) y ys zero e = absurd (omega (arith, e))
at-length (x ∷ xs) y ys (suc n) e = at-length xs y ys n (omega (arith, e))

stored-named : (ds : List Local) (prefix vs zs : List Value) (k : ℕ) → k ≡ length prefix → Numbered k ds
    → length vs ≡ length ds → Stored ds (named ds vs) (prefix ++ (vs ++ zs))
stored-named [] prefix [] zs k e h long = tt
stored-named [] prefix (v ∷ vs) zs k e h long = absurd (omega (arith, long))
stored-named (d ∷ ds) prefix [] zs k e h long = absurd (omega (arith, long))
stored-named (d ∷ ds) prefix (v ∷ vs) zs k e h long = (
  refl,
  at-length prefix v (vs ++ zs) d.slot (h.0 ∙ e),
  subst (λ xs. Stored ds (named ds vs) xs) (append_assoc prefix (v ∷ []) (vs ++ zs))
      (stored-named ds (prefix ++ v ∷ []) vs zs (k + 1)
      (let q = length-append prefix (v ∷ []) in omega (arith, e, q)) h.1 (omega (arith, long))),
)

rising-numbered : (ds : List Local) (k next : ℕ) → Numbered k ds → k + length ds ≡ next → SlotsRise k next ds
rising-numbered [] k next h e = omega (arith, e)
rising-numbered (d ∷ ds) k next h e =
    let q = h.0 in (
      omega (arith, q),
      subst (λ j. SlotsRise (j + 1) next ds) (sym q)
          (rising-numbered ds (k + 1) next h.1 (omega (arith, e))),
    )

-- the arguments are the values of receiver and parameters
pub body-known : (names : FileScope) (f : Func) (vs zs : List Value) → length vs ≡ (body_scope (outside names) f).next
    → Known (body_scope (outside names) f).locals (body_scope (outside names) f).next
    (named (body_scope (outside names) f).locals vs) (vs ++ zs)
body-known names f vs zs e =
    let h = body-entered names f in
    let ds = (body_scope (outside names) f).locals in
    let l = h.1 in
    record {
      stored = stored-named ds [] vs zs 0 refl h.0 (e ∙ sym l);
      rising = rising-numbered ds 0 (body_scope (outside names) f).next h.0 (omega (arith, l));
    }
