-- Each state whose numbers and tickets are in order is alike to itself, and what is alike to an alike state is alike.
-- For: `IsAlike`, specs/Alike.antt
-- By: induction over the lists of pairs
use Rattle.std.proofs.Common.{◌≡◌, ℕ, ◌<◌, ◌≤◌, ◌==◌, true, false, cond, List, [], ◌∷◌, ◌++◌, Some, inl, inr, ◌⊎◌, refl}
use Rattle.std.proofs.Common.{sym, ap, ◌∙◌, subst}
use Rattle.std.specs.Prelude.{nat_lt, option_map}
use Rattle.std.proofs.lemmas.Bool.{eqb-true, eq-eqb}
use Rattle.golf_theory.specs.Membership.{In}
use Rattle.golf_theory.specs.Maps.{Entry, find}
use Rattle.golf_theory.proofs.MapEntries.{Entry-find}
use Rattle.golf_theory.proofs.MapFinds.{Entry-below}
use Rattle.golf_model.specs.Views.{GoroutineView}
use Rattle.golf_model.specs.State.{State}
use Rattle.golf_model.specs.Waiters.{ticket_of}
use Rattle.golf_model.specs.Futures.{Numbered}
use Rattle.golf_model_futures.specs.Orderly.{IsOrderly}
use Rattle.golf_explore_laws.specs.Alike.{blank, IsAlike, AreEarly}
use Rattle.golf_explore_laws.proofs.Alike.Partners.{waits-moved, partner-of, alike-flip, flips, In-flips}

-- ---- a state and itself

abbrev selves : List (ℕ × GoroutineView) → List (ℕ × ℕ)
selves [] = []
selves (e ∷ es) = (e.0, e.0) ∷ selves es

In-selves : (g h : ℕ) (es : List (ℕ × GoroutineView)) → In (g, h) (selves es)
    → (g ≡ h) × ((x : GoroutineView) × Entry es g x)
In-selves g h [] i = absurd i
In-selves g h (e ∷ es) (inl k) =
    let x : g ≡ e.0 = ap (λ (p : ℕ × ℕ). p.0) k in
    let y : h ≡ e.0 = ap (λ (p : ℕ × ℕ). p.1) k in (x ∙ sym y, (e.1, inl (x, refl)))
In-selves g h (e ∷ es) (inr i) = let r = In-selves g h es i in (r.0, (r.1.0, inr r.1.1))

Entry-selves : (g : ℕ) (x : GoroutineView) (es : List (ℕ × GoroutineView)) → Entry es g x → In (g, g) (selves es)
Entry-selves g x [] i = absurd i
Entry-selves g x (e ∷ es) (inl k) = inl (ap (λ c. let p : ℕ × ℕ = (c, c) in p) k.0)
Entry-selves g x (e ∷ es) (inr i) = inr (Entry-selves g x es i)

inner : (r q : GoroutineView) → Some r ≡ Some q → r ≡ q
inner r q e = cc

early-orderly : (s : State) → IsOrderly s → AreEarly s
early-orderly s o g r f b =
    o.goroutines.below g r (record { entry = Entry-find g s.goroutines r f; blocked = b })

pub alike-self : (s : State) → Numbered s → IsOrderly s → 2 ≤ s.next_goroutine → IsAlike s s
alike-self s n o two = (
  selves s.goroutines,
  record {
    others = refl;
    entries = λ g h i. ap (λ c. option_map blank (find c s.goroutines)) (In-selves g h s.goroutines i).0;
    left = λ g r f. (g, Entry-selves g r s.goroutines (Entry-find g s.goroutines r f));
    right = λ g r f. (g, Entry-selves g r s.goroutines (Entry-find g s.goroutines r f));
    one = λ g h k l i j. ap (λ c. c == k) (In-selves g h s.goroutines i).0
        ∙ ap (λ c. h == c) (In-selves k l s.goroutines j).0;
    zero_one = λ g h i. let e = (In-selves g h s.goroutines i).0 in (ap (λ c. c == 0) e, ap (λ c. c == 1) e);
    given = λ g h i.
        let p = In-selves g h s.goroutines i in
        let l = Entry-below s.next_goroutine s.goroutines g p.1.0 n.goroutines_below p.1.1 in
        (l, subst (λ c. c < s.next_goroutine) p.0 l);
    two = (two, two);
    order = λ g h k l i j r q u v fr fq fu fv w wr wu.
        let er = inner r q (sym fr ∙ ap (λ c. find c s.goroutines) (In-selves g h s.goroutines i).0 ∙ fq) in
        let eu = inner u v (sym fu ∙ ap (λ c. find c s.goroutines) (In-selves k l s.goroutines j).0 ∙ fv) in
        ap (λ (x : GoroutineView). nat_lt (ticket_of x.mode) (ticket_of u.mode)) er
        ∙ ap (λ (x : GoroutineView). nat_lt (ticket_of q.mode) (ticket_of x.mode)) eu;
    early = (early-orderly s o, early-orderly s o);
  },
)

-- ---- one after another

abbrev join_one : ℕ × ℕ → List (ℕ × ℕ) → List (ℕ × ℕ)
join_one p [] = []
join_one p (q ∷ qs) = cond (p.1 == q.0) ((p.0, q.1) ∷ join_one p qs) (join_one p qs)

abbrev joins : List (ℕ × ℕ) → List (ℕ × ℕ) → List (ℕ × ℕ)
joins [] qs = []
joins (p ∷ ps) qs = join_one p qs ++ joins ps qs

abbrev Through : List (ℕ × ℕ) → List (ℕ × ℕ) → ℕ → ℕ → Type 0
Through ps qs g k = (h : ℕ) × In (g, h) ps × In (h, k) qs

pair-of : (a b c d : ℕ) → a ≡ c → b ≡ d → ◌≡◌ {A = ℕ × ℕ} (a, b) (c, d)
pair-of a b c d e f = cc

append-cases : (x : ℕ × ℕ) (xs ys : List (ℕ × ℕ)) → In x (xs ++ ys) → In x xs ⊎ In x ys
append-cases x [] ys i = inr i
append-cases x (y ∷ xs) ys (inl e) = inl (inl e)
append-cases x (y ∷ xs) ys (inr i) = elim (append-cases x xs ys i) [ inl a ↦ inl (inr a) | inr a ↦ inr a ]

append-left : (x : ℕ × ℕ) (xs ys : List (ℕ × ℕ)) → In x xs → In x (xs ++ ys)
append-left x [] ys i = absurd i
append-left x (y ∷ xs) ys (inl e) = inl e
append-left x (y ∷ xs) ys (inr i) = inr (append-left x xs ys i)

append-right : (x : ℕ × ℕ) (xs ys : List (ℕ × ℕ)) → In x ys → In x (xs ++ ys)
append-right x [] ys i = i
append-right x (y ∷ xs) ys i = inr (append-right x xs ys i)

In-join_one : (p : ℕ × ℕ) (qs : List (ℕ × ℕ)) (g k : ℕ) → In (g, k) (join_one p qs)
    → (g ≡ p.0) × In (p.1, k) qs
In-join_one p [] g k i = absurd i
In-join_one p (q ∷ qs) g k i =
    elim (p.1 == q.0) as (λ b. p.1 == q.0 ≡ b → In (g, k) (cond b ((p.0, q.1) ∷ join_one p qs) (join_one p qs))
    → (g ≡ p.0) × In (p.1, k) (q ∷ qs)) [
      | true ↦ λ b c. elim c [
        | inl e ↦ (
          ap (λ (x : ℕ × ℕ). x.0) e,
          inl (pair-of p.1 k q.0 q.1 (eqb-true p.1 q.0 b) (ap (λ (x : ℕ × ℕ). x.1) e)),
        )
        | inr d ↦ let r = In-join_one p qs g k d in (r.0, inr r.1)
      ]
      | false ↦ λ b c. let r = In-join_one p qs g k c in (r.0, inr r.1)
    ] refl i

join_one-In : (p : ℕ × ℕ) (qs : List (ℕ × ℕ)) (k : ℕ) → In (p.1, k) qs → In (p.0, k) (join_one p qs)
join_one-In p [] k i = absurd i
join_one-In p (q ∷ qs) k i =
    elim (p.1 == q.0) as (λ b. p.1 == q.0 ≡ b → In (p.0, k) (cond b ((p.0, q.1) ∷ join_one p qs) (join_one p qs))) [
      | true ↦ λ b. elim i [
        | inl e ↦ inl (pair-of p.0 k p.0 q.1 refl (ap (λ (x : ℕ × ℕ). x.1) e))
        | inr d ↦ inr (join_one-In p qs k d)
      ]
      | false ↦ λ b. elim i [
        | inl e ↦ let y = eq-eqb p.1 q.0 (ap (λ (x : ℕ × ℕ). x.0) e) in cc
        | inr d ↦ join_one-In p qs k d
      ]
    ] refl

In-joins : (ps qs : List (ℕ × ℕ)) (g k : ℕ) → In (g, k) (joins ps qs) → Through ps qs g k
In-joins [] qs g k i = absurd i
In-joins (p ∷ ps) qs g k i = elim (append-cases (g, k) (join_one p qs) (joins ps qs) i) [
  | inl a ↦ let r = In-join_one p qs g k a in (p.1, inl (pair-of g p.1 p.0 p.1 r.0 refl), r.1)
  | inr a ↦ let r = In-joins ps qs g k a in (r.0, inr r.1, r.2)
]

joins-In : (ps qs : List (ℕ × ℕ)) (g h k : ℕ) → In (g, h) ps → In (h, k) qs → In (g, k) (joins ps qs)
joins-In [] qs g h k i j = absurd i
joins-In (p ∷ ps) qs g h k (inl e) j =
    append-left (g, k) (join_one p qs) (joins ps qs)
    (subst (λ c. In (c, k) (join_one p qs)) (sym (ap (λ (x : ℕ × ℕ). x.0) e))
    (join_one-In p qs k (subst (λ c. In (c, k) qs) (ap (λ (x : ℕ × ℕ). x.1) e) j)))
joins-In (p ∷ ps) qs g h k (inr i) j = append-right (g, k) (join_one p qs) (joins ps qs) (joins-In ps qs g h k i j)

pub alike-then : (s t u : State) → IsAlike s t → IsAlike t u → IsAlike s u
alike-then s t u (ps, a) (qs, b) = (
  joins ps qs,
  record {
    others = a.others ∙ b.others;
    entries = λ g k i. let p = In-joins ps qs g k i in a.entries g p.0 p.1 ∙ b.entries p.0 k p.2;
    left = λ g r f.
        let p = a.left g r f in
        let q = partner-of ps s t a g p.0 p.1 r f in
        let w = b.left p.0 q.0 q.1 in (w.0, joins-In ps qs g p.0 w.0 p.1 w.1);
    right = λ k r f.
        let w = b.right k r f in
        let q = partner-of (flips qs) u t (alike-flip qs t u b) k w.0 (In-flips w.0 k qs w.1) r f in
        let p = a.right w.0 q.0 q.1 in (p.0, joins-In ps qs p.0 w.0 k p.1 w.1);
    one = λ g h k l i j.
        let p = In-joins ps qs g h i in
        let q = In-joins ps qs k l j in a.one g p.0 k q.0 p.1 q.1 ∙ b.one p.0 h q.0 l p.2 q.2;
    zero_one = λ g k i.
        let p = In-joins ps qs g k i in
        let x = a.zero_one g p.0 p.1 in
        let y = b.zero_one p.0 k p.2 in (x.0 ∙ y.0, x.1 ∙ y.1);
    given = λ g k i. let p = In-joins ps qs g k i in ((a.given g p.0 p.1).0, (b.given p.0 k p.2).1);
    two = (a.two.0, b.two.1);
    order = λ g h k l i j r q x v fr fq fx fv o wr wx.
        let p = In-joins ps qs g h i in
        let w = In-joins ps qs k l j in
        let m = partner-of ps s t a g p.0 p.1 r fr in
        let n = partner-of ps s t a k w.0 w.1 x fx in
        a.order g p.0 k w.0 p.1 w.1 r m.0 x n.0 fr m.1 fx n.1 o wr wx
        ∙ b.order p.0 h w.0 l p.2 w.2 m.0 q n.0 v m.1 fq n.1 fv o (waits-moved o r m.0 m.2 wr)
        (waits-moved o x n.0 n.2 wx);
    early = (a.early.0, b.early.1);
  },
)
