-- Lists: prefixes, members by place, and the entries of a pass.
-- For: `step`, src/guarded.rt; `own`, specs/History.antt
-- By: induction over the list of entries, and over the list in which the member is
use Rattle.std.proofs.Common.{◌≡◌, ◌≢◌, ℕ, zero, suc, ◌+◌, ◌==◌, ◌⊎◌, inl, inr, Bool, true, false, cond, List, [], ◌∷◌}
use Rattle.std.proofs.Common.{◌++◌, length, set, refl, sym, ap, ◌∙◌, subst, arith, eq-eqb, ne_eqb, append_assoc}
use Rattle.std.proofs.lemmas.List.{append-nil}
use mathlib.Core.Option.{some, some-injective, some-ne-none}
use mathlib.Core.List.{IsPrefix}
use lib.ListN.{get_elem?}
use Rattle.golf_theory.specs.Membership.{Every}
use Rattle.golf_world.specs.declared.history.HistoryEntry.{HistoryEntry}
use Rattle.golf_world.specs.History.{entry, own, own_from}

pub prefix_self : {A : Type 0} (xs : List A) → IsPrefix xs xs
prefix_self xs = ([], append-nil xs)

pub prefix_push : {A : Type 0} (xs ys zs : List A) → IsPrefix xs ys → IsPrefix xs (ys ++ zs)
prefix_push xs ys zs p = (p.0 ++ zs, sym (append_assoc xs p.0 zs) ∙ ap (λ l. l ++ zs) p.1)

pub prefixes_push : {A : Type 0} (os : List (List A)) (ys zs : List A) → Every (λ o. IsPrefix o ys) os
    → Every (λ o. IsPrefix o (ys ++ zs)) os
prefixes_push [] ys zs h = tt
prefixes_push (o ∷ os) ys zs h = (prefix_push o ys zs h.0, prefixes_push os ys zs h.1)

-- what stands in a list with one item more
pub at_push : {A : Type 0} (l : List A) (a b : A) (j : ℕ) → get_elem? (l ++ a ∷ []) j ≡ some b
    → (get_elem? l j ≡ some b) ⊎ ((j ≡ length l) × (a ≡ b))
at_push [] a b zero e = inr (refl, some-injective a b e)
at_push [] a b (suc j) e = absurd (some-ne-none b (sym e))
at_push (x ∷ xs) a b zero e = inl e
at_push (x ∷ xs) a b (suc j) e = elim (at_push xs a b j e) [ inl h ↦ inl h | inr t ↦ inr (ap suc t.0, t.1) ]

-- what stands where a list was set
pub set_at : {A : Type 0} (l : List A) (i : ℕ) (a b : A) → get_elem? l i ≡ some a → get_elem? (set l i b) i ≡ some b
set_at [] i a b e = absurd (some-ne-none a (sym e))
set_at (x ∷ xs) zero a b e = refl
set_at (x ∷ xs) (suc i) a b e = set_at xs i a b e

pub own_from-mine : (p t k n : ℕ) (es : List HistoryEntry) → k ≡ t + length es
    → own_from p t (es ++ entry p n ∷ []) ≡ own_from p t es ++ (k, n) ∷ []
own_from-mine p t k n [] e = subst (λ (b : Bool). cond {A = List (ℕ × ℕ)} b ((t, n) ∷ []) [] ≡ (k, n) ∷ [])
    (sym (eq-eqb p p refl)) (let h : t ≡ k = omega arith in ap (λ (x : ℕ). (x, n) ∷ []) h)
own_from-mine p t k n (x ∷ es) e =
    let ih = own_from-mine p (t + 1) k n es (omega arith) in
    elim (x.pass == p) as (λ b. cond b ((t, x.number) ∷ own_from p (t + 1) (es ++ entry p n ∷ []))
    (own_from p (t + 1) (es ++ entry p n ∷ [])) ≡ cond b ((t, x.number) ∷ own_from p (t + 1) es)
    (own_from p (t + 1) es) ++ (k, n) ∷ []) [
      | true ↦ ap (λ l. (t, x.number) ∷ l) ih
      | false ↦ ih
    ]

pub own_from-other : (p q t n : ℕ) (es : List HistoryEntry) → q ≢ p
    → own_from p t (es ++ entry q n ∷ []) ≡ own_from p t es
own_from-other p q t n [] ne = subst (λ (b : Bool). cond {A = List (ℕ × ℕ)} b ((t, n) ∷ []) [] ≡ [])
    (sym (ne_eqb q p ne)) refl
own_from-other p q t n (x ∷ es) ne =
    let ih = own_from-other p q (t + 1) n es ne in
    elim (x.pass == p) as (λ b. cond b ((t, x.number) ∷ own_from p (t + 1) (es ++ entry q n ∷ []))
    (own_from p (t + 1) (es ++ entry q n ∷ [])) ≡ cond b ((t, x.number) ∷ own_from p (t + 1) es)
    (own_from p (t + 1) es)) [
      | true ↦ ap (λ l. (t, x.number) ∷ l) ih
      | false ↦ ih
    ]

-- an entry of a pass is one more of it, and none of another
pub own-mine : (p k n : ℕ) (es : List HistoryEntry) → k ≡ length es → own p (es ++ entry p n ∷ []) ≡ own p es ++ (k, n)
    ∷ []
own-mine p k n es e = own_from-mine p 0 k n es (omega arith)

pub own-other : (p q n : ℕ) (es : List HistoryEntry) → q ≢ p → own p (es ++ entry q n ∷ []) ≡ own p es
own-other p q n es ne = own_from-other p q 0 n es ne
