-- What is found at a number, by the place of its key.
-- For: `index_of`, `key_of` (src/places.rt) and `get` (src/heap.rt)
-- By: induction over the list of places for an object's slot; otherwise the laws of ranks
use Rattle.std.proofs.Common.{◌≡◌, ℕ, zero, suc, true, false, cond, List, [], ◌∷◌, get_or, Option, Some, None}
use Rattle.std.proofs.Common.{◌==◌, refl, sym, ap, ◌∙◌, slice_get, option_map, subst}
use Rattle.std.specs.Prelude.{IsSome, is_some}
use Rattle.std.proofs.lemmas.Bool.{eqb-true, eq-eqb, ne_eqb}
use Rattle.std.proofs.lemmas.Option.{slice_get-map, get_or_from_slice_get}
use Rattle.slab.specs.Slab.{get}
use Rattle.golf_data.specs.declared.value.Object.{Object}
use Rattle.golf_theory.specs.Maps.{find, Rises, rank}
use Rattle.golf_heap.specs.declared.places.ObjectKey.{ObjectKey}
use Rattle.golf_heap.specs.Kept.{keyed, gathered, object_in, HoldsPlaces}
use Rattle.golf_theory.proofs.Ranks.{at_key, find-rank}
use Rattle.golf_heap.proofs.Gathering.{Slots, full, find-gathered, held-at, Rises-keyed}

-- the key that is found is the one at the rank of the number, if it has that number
pub find-keyed : (k i : ℕ) (ps : List ObjectKey) (o : Option ObjectKey) → Rises 1 (keyed ps) → i ≡ rank k (keyed ps)
    → slice_get ps i ≡ o → find k (keyed ps) ≡ at_key k (option_map (λ (p : ObjectKey). (p.number, p.key)) o)
find-keyed k i ps o r e s =
    find-rank k 1 (keyed ps) r
    ∙ ap (λ (n : ℕ). at_key k (slice_get (keyed ps) n)) (sym e)
    ∙ ap (at_key k) (slice_get-map (λ (p : ObjectKey). (p.number, p.key)) ps i
    ∙ ap (option_map (λ (p : ObjectKey). (p.number, p.key))) s)

pub there : (k i : ℕ) (ps : List ObjectKey) (p : ObjectKey) → Rises 1 (keyed ps) → i ≡ rank k (keyed ps)
    → slice_get ps i ≡ Some p → p.number ≡ k → Some p.key ≡ find k (keyed ps)
there k i ps p r e s same = sym (find-keyed k i ps (Some p) r e s
    ∙ ap (λ b. cond b (Some p.key) None) (eq-eqb k p.number (sym same)))

pub elsewhere : (k i : ℕ) (ps : List ObjectKey) (p : ObjectKey) → Rises 1 (keyed ps) → i ≡ rank k (keyed ps)
    → slice_get ps i ≡ Some p → (p.number ≡ k → ⊥) → None ≡ find k (keyed ps)
elsewhere k i ps p r e s other = sym (find-keyed k i ps (Some p) r e s
    ∙ ap (λ b. cond b (Some p.key) None) (ne_eqb k p.number (λ t. other (sym t))))

pub nowhere : (k i : ℕ) (ps : List ObjectKey) → Rises 1 (keyed ps) → i ≡ rank k (keyed ps) → slice_get ps i ≡ None
    → None ≡ find k (keyed ps)
nowhere k i ps r e s = sym (find-keyed k i ps None r e s)

-- the object after the key
pub found-at : (s : Slots) (ps : List ObjectKey) (k key : ℕ) (e : ℕ × Object) → Some key ≡ find k (keyed ps)
    → Some e ≡ get s key → Some e.1 ≡ find k (gathered s ps)
found-at s ps k key e f g = sym (find-gathered s k ps ∙ ap (option_map (λ n. object_in (get s n))) (sym f)
    ∙ ap (λ o. Some (object_in o)) (sym g))

pub found-none : (s : Slots) (ps : List ObjectKey) (k : ℕ) → None ≡ find k (keyed ps) → None ≡ find k (gathered s ps)
found-none s ps k f = sym (find-gathered s k ps ∙ ap (option_map (λ n. object_in (get s n))) (sym f))

pub never-empty : (s : Slots) (ps : List ObjectKey) (k key : ℕ) → HoldsPlaces s ps → Some key ≡ find k (keyed ps)
    → None ≡ get s key → ⊥
never-empty s ps k key h f g = let q = held-at s k key ps h (sym f) in cc

with_key : (k : ℕ) (o : Option ObjectKey) → IsSome (at_key k (option_map (λ (p : ObjectKey). (p.number, p.key)) o))
    → (p : ObjectKey) × (o ≡ Some p) × (p.number ≡ k)
with_key k None h = absurd (cc)
with_key k (Some p) h =
    elim (k == p.number) as (λ b. k == p.number ≡ b → IsSome (cond b (Some p.key) None) → (q : ObjectKey)
    × (Some p ≡ Some q) × (q.number ≡ k)) [
      | true ↦ λ t i. (p, refl, sym (eqb-true k p.number t))
      | false ↦ λ t i. absurd (cc)
    ] refl h

some-keyed : (s : Slots) (ps : List ObjectKey) (k : ℕ) → IsSome (find k (gathered s ps)) → IsSome (find k (keyed ps))
some-keyed s ps k h = elim (find k (keyed ps)) as (λ o. find k (keyed ps) ≡ o → IsSome o) [
  | None ↦ λ e. absurd (let n : find k (gathered s ps) ≡ None = find-gathered s k ps
      ∙ ap (option_map (λ key. object_in (get s key))) e in cc)
  | Some key ↦ λ e. refl
] refl

-- the place of a number that is there stands at its rank
pub present : (s : Slots) (ps : List ObjectKey) (k i : ℕ) → Rises 1 (keyed ps) → i ≡ rank k (keyed ps)
    → IsSome (find k (gathered s ps)) → (p : ObjectKey) × (slice_get ps i ≡ Some p) × (p.number ≡ k)
present s ps k i r e h = with_key k (slice_get ps i)
    (ap is_some (sym (find-keyed k i ps (slice_get ps i) r e refl)) ∙ some-keyed s ps k h)

pub slot-of : (s : Slots) (ps : List ObjectKey) (i : ℕ) (p : ObjectKey) → HoldsPlaces s ps → slice_get ps i ≡ Some p
    → (x : Object)
    × (get s p.key ≡ Some (p.number, x))
slot-of s [] i p h at = absurd (cc)
slot-of s (q ∷ ps) zero p h at =
    let same : q ≡ p = cc in
    let x = full q.number (get s q.key) h.0 in
    (x.0, subst (λ (z : ObjectKey). get s z.key ≡ Some (z.number, x.0)) same x.1)
slot-of s (q ∷ ps) (suc i) p h at = slot-of s ps i p h.1 at

-- what is read at the rank of a number that is there is its place
pub placed : (s : Slots) (ps : List ObjectKey) (k i : ℕ) (q : ObjectKey) → Rises 1 (gathered s ps)
    → i ≡ rank k (keyed ps)
    → IsSome (find k (gathered s ps)) → q ≡ get_or ps i q → (slice_get ps i ≡ Some q) × (q.number ≡ k)
placed s ps k i q r e some is =
    let p = present s ps k i (Rises-keyed s 1 ps r) e some in
    let same : q ≡ p.0 = is ∙ get_or_from_slice_get ps i p.0 q p.1 in
    (p.1 ∙ ap Some (sym same), ap (λ (z : ObjectKey). z.number) same ∙ p.2)
