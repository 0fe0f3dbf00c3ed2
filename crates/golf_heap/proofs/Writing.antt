-- An object that was written in its slot.
-- For: `IsStored` (golf_heap/specs/Kept.antt) and `get_mut` (src/heap.rt)
-- By: induction over the list of places, and over the list of slots
use Rattle.std.proofs.Common.{◌≡◌, ◌≢◌, inl, inr, ℕ, zero, suc, ◌<◌, ◌≤◌, cond, List, [], ◌∷◌, set, get_or, Option}
use Rattle.std.proofs.Common.{Some, None, is_some, count_by, refl, sym, ap, ◌∙◌, arith, slice_get, subst}
use Rattle.std.proofs.lemmas.Bool.{cases_eq, eq-eqb, ne_eqb}
use Rattle.std.proofs.lemmas.List.Sums.{sum_by-cons}
use Rattle.slab.specs.Slab.{get, with_value, Updates}
use Rattle.slab.proofs.SlabLemmas.{Updates-with_value}
use Rattle.golf_data.specs.declared.value.Object.{Object}
use Rattle.golf_theory.specs.Maps.{put, Rises}
use Rattle.golf_theory.proofs.Placing.{put_below}
use Rattle.golf_heap.specs.declared.places.ObjectKey.{ObjectKey}
use Rattle.golf_heap.specs.Objects.{IsNumbered}
use Rattle.golf_heap.specs.Kept.{keyed, gathered, object_in, IsObjectOf, HoldsPlaces, IsStored}
use Rattle.golf_heap.proofs.Numbers.{IsNumbered-replaced}
use Rattle.golf_heap.proofs.Gathering.{Slots, Rises-keyed, Rises-gathered}

of : (k : ℕ) (o : Option (ℕ × Object)) (e : ℕ × Object) → IsObjectOf k o → o ≡ Some e → e.0 ≡ k
of k o e h g = subst (IsObjectOf k) g h

abbrev amount : {X : Type 0} → Option X → ℕ
amount o = cond (is_some o) 1 0

weight : {X : Type 0} (o : Option X) (y : X) → o ≡ Some y → amount o ≡ 1
weight None y g = absurd (cc)
weight (Some z) y g = refl

count-written : {X : Type 0} (slots : List (Option X)) (k : ℕ) (x y : X) → get_or slots k None ≡ Some y
    → count_by is_some (set slots k (Some x)) ≡ count_by is_some slots
count-written [] k x y g = refl
count-written (o ∷ os) zero x y g = omega (
  arith,
  sum_by-cons (λ o. cond (is_some o) 1 0) o os,
  sum_by-cons (λ o. cond (is_some o) 1 0) (Some x) os,
  weight o y g,
)
count-written (o ∷ os) (suc k) x y g = omega (
  arith,
  count-written os k x y g,
  sum_by-cons (λ o. cond (is_some o) 1 0) o os,
  sum_by-cons (λ o. cond (is_some o) 1 0) o (set os k (Some x)),
)

-- the slot of the key had e, and is this one now
pub record IsChanged (s after : Slots) (key : ℕ) (e : ℕ × Object) (slot : Option (ℕ × Object)) : Type 0 where
  pub was : get s key ≡ Some e
  pub updates : Updates s after key slot

-- places of greater numbers have other slots
gathered-elsewhere : (j : ℕ) (s after : Slots) (key : ℕ) (e : ℕ × Object) (slot : Option (ℕ × Object))
    (ps : List ObjectKey)
    → Rises j (keyed ps) → e.0 < j → HoldsPlaces s ps → IsChanged s after key e slot → gathered after ps ≡ gathered s ps
gathered-elsewhere j s after key e slot [] r l h c = refl
gathered-elsewhere j s after key e slot (q ∷ ps) r l h c =
    let differ : q.key ≢ key = λ same. let n =
    of q.number (get s q.key) e h.0 (ap (get s) same ∙ c.was) in omega (arith, n, l, r.0) in
    ap (λ o. (q.number, object_in o) ∷ gathered after ps) (c.updates.others q.key differ)
    ∙ ap (λ (es : List (ℕ × Object)). (q.number, object_in (get s q.key)) ∷ es)
    (gathered-elsewhere (suc q.number) s after key e slot ps r.1 (omega (arith, l, r.0)) h.1 c)

-- the object of the place becomes another one
pub gathered-written : {s after : Slots} {p : ObjectKey} {e : ℕ × Object} {w : Object} (j i : ℕ) (ps : List ObjectKey)
    → Rises j (keyed ps) → HoldsPlaces s ps → slice_get ps i ≡ Some p → IsChanged s after p.key e (Some (e.0, w))
    → gathered after ps ≡ put p.number w (gathered s ps)
gathered-written j i [] r h at c = absurd (cc)
gathered-written {s} {after} {p} {e} {w} j zero (q ∷ ps) r h at c =
    let same : q ≡ p = cc in
    let n : e.0 ≡ q.number = of q.number (get s q.key) e h.0 (ap (λ (z : ObjectKey). get s z.key) same ∙ c.was) in
    let m : p.number ≡ q.number = ap (λ (z : ObjectKey). z.number) (sym same) in
    ap (λ o. (q.number, object_in o) ∷ gathered after ps)
    (ap (λ (z : ObjectKey). get after z.key) same ∙ c.updates.changed)
    ∙ ap (λ (es : List (ℕ × Object)). (q.number, w) ∷ es)
    (gathered-elsewhere (suc q.number) s after p.key e (Some (e.0, w)) ps r.1 (omega (arith, n)) h.1 c)
    ∙ ap (λ (es : List (ℕ × Object)). (q.number, w) ∷ es)
    (sym (put_below p.number w (suc q.number) (gathered s ps) (omega (arith, m))
    (Rises-gathered s (suc q.number) ps r.1)))
    ∙ ap (λ b. (q.number, cond b w (object_in (get s q.key))) ∷ put p.number w (gathered s ps))
    (sym (eq-eqb p.number q.number m))
gathered-written {s} {after} {p} {e} {w} j (suc i) (q ∷ ps) r h at c =
    let n : e.0 ≡ p.number = number_at i ps h.1 at in
    let l : q.number < p.number = less (suc q.number) i ps r.1 at in
    let differ : q.key ≢ p.key = λ same. let m =
    of q.number (get s q.key) e h.0 (ap (get s) same ∙ c.was) in omega (arith, n, m, l) in
    ap (λ o. (q.number, object_in o) ∷ gathered after ps) (c.updates.others q.key differ)
    ∙ ap (λ (es : List (ℕ × Object)). (q.number, object_in (get s q.key)) ∷ es)
    (gathered-written (suc q.number) i ps r.1 h.1 at c)
    ∙ ap (λ b. (q.number, cond b w (object_in (get s q.key))) ∷ put p.number w (gathered s ps))
    (sym (ne_eqb p.number q.number (λ t. omega (arith, t, l))))
  where
    number_at : (i : ℕ) (ps : List ObjectKey) → HoldsPlaces s ps → slice_get ps i ≡ Some p → e.0 ≡ p.number
    number_at i [] h at = absurd (cc)
    number_at zero (q ∷ ps) h at = let same : q ≡ p =
        cc in of p.number (get s p.key) e (subst (λ (z : ObjectKey). IsObjectOf z.number (get s z.key)) same h.0) c.was
    number_at (suc i) (q ∷ ps) h at = number_at i ps h.1 at

    less : (j i : ℕ) (ps : List ObjectKey) → Rises j (keyed ps) → slice_get ps i ≡ Some p → j ≤ p.number
    less j i [] r at = absurd (cc)
    less j zero (q ∷ ps) r at = let same : q ≡ p = cc in omega (arith, r.0, ap (λ (z : ObjectKey). z.number) same)
    less j (suc i) (q ∷ ps) r at = let t = less (suc q.number) i ps r.1 at in omega (arith, t, r.0)

Holds-written : (s after : Slots) (key : ℕ) (e : ℕ × Object) (w : Object) (ps : List ObjectKey) → HoldsPlaces s ps
    → IsChanged s after key e (Some (e.0, w)) → HoldsPlaces after ps
Holds-written s after key e w [] h c = tt
Holds-written s after key e w (q ∷ ps) h c = (
  elim (cases_eq q.key key) [
    | inl same ↦ subst (IsObjectOf q.number) (sym (ap (get after) same ∙ c.updates.changed))
        (of q.number (get s q.key) e h.0 (ap (get s) same ∙ c.was))
    | inr differ ↦ subst (IsObjectOf q.number) (sym (c.updates.others q.key differ)) h.0
  ],
  Holds-written s after key e w ps h.1 c,
)

changed : (s : Slots) (key : ℕ) (e : ℕ × Object) (w : Object) → get s key ≡ Some e
    → IsChanged s (with_value s key (e.0, w)) key e (Some (e.0, w))
changed s key e w g = record { was = g; updates = Updates-with_value s key (e.0, w) (ap is_some g) }

pub IsStored-written : (s : Slots) (ps : List ObjectKey) (last i : ℕ) (p : ObjectKey) (e : ℕ × Object) (w : Object)
    → IsStored s ps last → slice_get ps i ≡ Some p → get s p.key ≡ Some e
    → IsStored (with_value s p.key (e.0, w)) ps last
IsStored-written s ps last i p e w t at g =
    let c = changed s p.key e w g in
    let r = Rises-keyed s 1 ps t.numbers.rises in
    record {
      numbers =
          subst (λ (es : List (ℕ × Object)). IsNumbered (record { objects = es; last = last }))
          (sym (gathered-written 1 i ps r t.held at c))
          (IsNumbered-replaced (record { objects = gathered s ps; last = last }) p.number w t.numbers);
      held = Holds-written s (with_value s p.key (e.0, w)) p.key e w ps t.held c;
      only = count-written s.slots p.key (e.0, w) e g ∙ t.only;
    }

pub view-written : (s : Slots) (ps : List ObjectKey) (last i : ℕ) (p : ObjectKey) (e : ℕ × Object) (w : Object)
    → IsStored s ps last → slice_get ps i ≡ Some p → get s p.key ≡ Some e
    → gathered (with_value s p.key (e.0, w)) ps ≡ put p.number w (gathered s ps)
view-written s ps last i p e w t at g = gathered-written 1 i ps (Rises-keyed s 1 ps t.numbers.rises) t.held at
    (changed s p.key e w g)
