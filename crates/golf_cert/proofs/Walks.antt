-- A walk from its beginning to its end.
-- For: `IsWalkUnderWay`, `HasLevels` (golf_cert/specs/LevelWalk.antt) and `walk_through` (src/walk.rt)
-- By: induction over the list of places of a way; otherwise what one more turn of the walk keeps
use Rattle.std.proofs.Common.{◌≡◌, ℕ, suc, ◌+◌, ◌<◌, ◌≤◌, ◌⊎◌, inl, inr, List, [], ◌∷◌, length, get_or, replicate, refl}
use Rattle.std.proofs.Common.{sym, ap, ◌∙◌, subst, arith, below_more, length-append}
use Rattle.std.proofs.lemmas.Bool.{cases_eq, cases_lt}
use Rattle.std.proofs.lemmas.List.{get_or-replicate, get_or_past, length-replicate}
use Rattle.golf_theory.specs.Membership.{In, Every}
use Rattle.golf_theory.specs.Counts.{times}
use Rattle.golf_theory.proofs.Lists.{In-get_or, Every-from, Every-at, Every-weaker}
use Rattle.golf_theory.proofs.Times.{In-times, times-In, length-counted, sum-bits}
use Rattle.golf_model.specs.declared.graph.GraphParts.{GraphParts}
use Rattle.golf_model.specs.Graph.{node_count, Justifies, IsInRange}
use Rattle.golf_cert.specs.declared.walk.Walk.{Walk}
use Rattle.golf_cert.specs.Levels.{IsWay}
use Rattle.golf_cert.specs.Steps.{place_count}
use Rattle.golf_cert.specs.LevelWalk.{claimed_all, HasWay, IsLevelled, IsWalkUnderWay, HasLevels}
use Rattle.golf_mark.proofs.Ranges.{Justifies-below}
use Rattle.golf_cert.proofs.Claims.{level_of, IsSteady, Grows, Grows-at, claim_all-steady}

-- each member has a place
pub place_of : (xs : List ℕ) (p : ℕ) → In p xs → (k : ℕ) × (k < length xs) × (get_or xs k 0 ≡ p)
place_of [] p h = absurd h
place_of (x ∷ xs) p (inl e) = (0, omega arith, sym e)
place_of (x ∷ xs) p (inr h) = let r = place_of xs p h in (suc r.0, omega (arith, r.1), r.2)

-- a root alone is such a list, and one that ends with a place goes on to what it justifies
pub HasWay-root : (g : GraphParts) (p : ℕ) → In p g.roots → HasWay g p 1
HasWay-root g p h = ([], (inl h, tt), refl)

pub HasWay-step : (g : GraphParts) (q p level : ℕ) → HasWay g q level → Justifies g q p → HasWay g p (level + 1)
HasWay-step g q p level w j = (q ∷ w.0, (inr (q, inl refl, j), w.1), omega (arith, w.2))

-- levels of which each root has the first, and each place that is justified one that is at most one more
pub record IsRelaxed (g : GraphParts) (w : Walk) : Type 0 where
  pub roots : (p : ℕ) → In p g.roots → level_of w p ≡ 1
  pub steps : (q p : ℕ) → 0 < level_of w q → Justifies g q p → (0 < level_of w p) × (level_of w p ≤ level_of w q + 1)

-- are at most the length of any list
pub relaxed_level : (g : GraphParts) (w : Walk) → IsRelaxed g w → (xs : List ℕ) → IsWay g xs → (p : ℕ) → In p xs
    → (0 < level_of w p) × (level_of w p ≤ length xs)
relaxed_level g w r [] d p h = absurd h
relaxed_level g w r (x ∷ xs) d p (inr h) = let k = relaxed_level g w r xs d.1 p h in (k.0, omega (arith, k.1))
relaxed_level g w r (x ∷ xs) d p (inl e) =
    subst (λ (y : ℕ). (0 < level_of w y) × (level_of w y ≤ length (x ∷ xs))) (sym e) (elim d.0 [
      | inl root ↦ let one = r.roots x root in (omega (arith, one), omega (arith, one))
      | inr t ↦
          let k = relaxed_level g w r xs d.1 t.0 t.1 in
          let s = r.steps t.0 x k.0 t.2 in (s.0, omega (arith, s.1, k.1))
    ])

-- what is listed is a place, and stands once
pub listed_below : (g : GraphParts) (w : Walk) → IsLevelled g w → (p : ℕ) → 0 < level_of w p → p < place_count g
listed_below g w l p h = elim (cases_lt p (length w.levels)) [
  | inl low ↦ omega (arith, low, l.size)
  | inr past ↦ absurd (omega (arith, h, get_or_past w.levels p 0 past))
]

pub listed_has : (g : GraphParts) (w : Walk) → IsLevelled g w → (p : ℕ) → In p w.order → 0 < level_of w p
listed_has g w l p h = elim (cases_eq (level_of w p) 0) [
  | inl zero ↦ absurd (omega (arith, l.none p zero, times-In p w.order h))
  | inr some ↦ omega arith
]

pub has_listed : (g : GraphParts) (w : Walk) → IsLevelled g w → (p : ℕ) → 0 < level_of w p → In p w.order
has_listed g w l p h = In-times p w.order (omega (arith, l.once p h))

-- the list is no longer than there are places
pub order_short : (g : GraphParts) (w : Walk) → IsLevelled g w → length w.order ≤ place_count g
order_short g w l =
    let words : List ℕ = replicate (place_count g) 1 in
    let at : (x : ℕ) → x < place_count g → get_or words x 0 ≡ 1 = λ x low. get_or-replicate (place_count g) x 1 0 low in
    let counted = length-counted w.order words (λ x. elim (cases_eq (level_of w x) 0) [
      | inl zero ↦ omega (arith, l.none x zero)
      | inr some ↦
          let has : 0 < level_of w x = omega arith in
          omega (arith, l.once x has, at x (listed_below g w l x has))
    ]) in
    let bits = sum-bits words (λ x. elim (cases_lt x (place_count g)) [
      | inl low ↦ omega (arith, at x low)
      | inr past ↦ omega (arith, get_or_past words x 0 (omega (arith, length-replicate {A = ℕ} (place_count g) 1)))
    ]) in
    omega (arith, counted, bits, length-replicate {A = ℕ} (place_count g) 1)

-- nothing has a level yet
pub empty-steady : (g : GraphParts) (w : Walk) → w.levels ≡ replicate (place_count g) 0 → w.order ≡ [] → IsSteady g 1 w
empty-steady g w levels order =
    let zero : (p : ℕ) → level_of w p ≡ 0 = λ p. ap (λ (l : List ℕ). get_or l p 0) levels
    ∙ elim (cases_lt p (place_count g)) [
      | inl low ↦ get_or-replicate (place_count g) p 0 0 low
      | inr past ↦ get_or_past (replicate (place_count g) 0) p 0
          (omega (arith, length-replicate {A = ℕ} (place_count g) 0))
    ] in
    record {
      levelled = record {
        size = ap length levels ∙ length-replicate {A = ℕ} (place_count g) 0;
        none = λ p _. ap (times p) order;
        once = λ p h. absurd (omega (arith, h, zero p));
        ways = λ p h. absurd (omega (arith, h, zero p));
        rising = λ i j _ low. absurd (omega (arith, low, ap length order));
        small = λ k low. absurd (omega (arith, low, ap length order));
      };
      most = λ p. omega (arith, zero p);
      room = omega arith;
    }

root_low : (g : GraphParts) → IsInRange g → (p : ℕ) → In p g.roots → p < place_count g
root_low g fit p h = let b = Every-at (λ y. y < node_count g) g.roots p fit.roots h in omega (arith, b)

grown : (x y : Walk) → Grows x y → length x.order ≤ length y.order
grown x y f = omega (arith, ap length f.added.1, length-append x.order f.added.0)

-- the roots have the first level
pub begins : (g : GraphParts) (w v : Walk) → IsInRange g → w.levels ≡ replicate (place_count g) 0 → w.order ≡ []
    → v ≡ claimed_all 1 g.roots w → IsWalkUnderWay g v 0
begins g w v fit levels order is =
    let all : Every (λ p. (p < place_count g) × HasWay g p 1) g.roots =
    Every-from (λ p. (p < place_count g) × HasWay g p 1) g.roots (λ p h. (root_low g fit p h, HasWay-root g p h)) in
    let c = claim_all-steady g 1 (omega arith) g.roots w (empty-steady g w levels order) all in
    subst (λ (u : Walk). IsWalkUnderWay g u 0) (sym is) record {
      levelled = c.0.levelled;
      within = omega arith;
      near = λ low p.
          let has = listed_has g (claimed_all 1 g.roots w) c.0.levelled (get_or (claimed_all 1 g.roots w).order 0 0)
          (In-get_or (claimed_all 1 g.roots w).order 0 0 low) in
          omega (arith, c.0.most p, has);
      roots = λ p h. omega (arith, c.2 p h, c.0.most p);
      done = λ k h. absurd (omega (arith, h));
    }

-- the next place is scanned: all that it justifies is in these lists
pub goes_on : {g : GraphParts} {a b : Walk} {turn p level : ℕ} (first second : List ℕ) → IsInRange g
    → IsWalkUnderWay g a turn → turn < length a.order → get_or a.order turn 0 ≡ p → level ≡ level_of a p + 1
    → ((q : ℕ) → Justifies g p q → In q first ⊎ In q second) → Every (Justifies g p) first
    → Every (Justifies g p) second
    → b ≡ claimed_all level second (claimed_all level first a) → IsWalkUnderWay g b (turn + 1)
goes_on {g} {a} {b} {turn} {p} {level} first second fit u low at is parts left right result =
    let positive : 0 < level = omega (arith, is) in
    let here : 0 < level_of a p = listed_has g a u.levelled p
    (subst (λ (x : ℕ). In x a.order) at (In-get_or a.order turn 0 low)) in
    let near : (q : ℕ) → level_of a q ≤ level = λ q. omega (arith, u.near low q, ap (level_of a) at, is) in
    let way : HasWay g p (level_of a p) = u.levelled.ways p here in
    let Fits : ℕ → Type 0 = λ q. (q < place_count g) × HasWay g q level in
    let fits : (q : ℕ) → Justifies g p q → Fits q =
    λ q j. (Justifies-below g fit p q j, subst (HasWay g q) (sym is) (HasWay-step g p q (level_of a p) way j)) in
    let m : Walk = claimed_all level first a in
    let v : Walk = claimed_all level second m in
    let f = claim_all-steady g level positive first a
    (record {
      levelled = u.levelled;
      most = near;
      room = omega (arith, is, u.levelled.small turn low, ap (level_of a) at);
    })
    (Every-weaker (Justifies g p) Fits fits first left) in
    let s = claim_all-steady g level positive second m f.0 (Every-weaker (Justifies g p) Fits fits second right) in
    let kept : (q : ℕ) → 0 < level_of a q → level_of v q ≡ level_of a q =
    λ q h. s.1.kept q (omega (arith, f.1.kept q h, h)) ∙ f.1.kept q h in
    let placed : (k : ℕ) → k < length a.order → get_or v.order k 0 ≡ get_or a.order k 0 =
    λ k h. Grows-at m v k s.1 (omega (arith, h, grown a m f.1)) ∙ Grows-at a m k f.1 h in
    let same_level : (k : ℕ) → k < length a.order → level_of v (get_or v.order k 0) ≡ level_of a (get_or a.order k 0) =
    λ k h.
    ap (level_of v) (placed k h) ∙ kept (get_or a.order k 0)
    (listed_has g a u.levelled (get_or a.order k 0) (In-get_or a.order k 0 h)) in
    subst (λ (z : Walk). IsWalkUnderWay g z (turn + 1)) (sym result) record {
      levelled = s.0.levelled;
      within = omega (arith, low, grown a m f.1, grown m v s.1);
      near = λ more q.
          omega (
            arith,
            s.0.most q,
            s.0.levelled.rising turn (turn + 1) (omega arith) more,
            same_level turn low,
            ap (level_of a) at,
            is,
          );
      roots = λ q h. kept q (omega (arith, u.roots q h)) ∙ u.roots q h;
      done = below_more _ _
          (λ k h q j.
          let low' : k < length a.order = omega (arith, h, u.within) in
          let d = u.done k h q (subst (λ (x : ℕ). Justifies g x q) (placed k low') j) in (
            omega (arith, kept q d.0, d.0),
            omega (arith, kept q d.0, d.1, same_level k low'),
          ))
          (λ q j.
          let mine : Justifies g p q = subst (λ (x : ℕ). Justifies g x q) (placed turn low ∙ at) j in
          let some : 0 < level_of v q = elim (parts q mine) [
            | inl i ↦ omega (arith, s.1.kept q (f.2 q i), f.2 q i)
            | inr i ↦ s.2 q i
          ] in (
            some,
            omega (arith, s.0.most q, same_level turn low, ap (level_of a) at, is),
          ));
    }

-- all listed places are scanned
pub ends : (g : GraphParts) (w : Walk) (turn : ℕ) → IsWalkUnderWay g w turn → length w.order ≤ turn → HasLevels g w
ends g w turn u all =
    let relaxed : IsRelaxed g w = record {
      roots = u.roots;
      steps = λ q p some j.
          let k = place_of w.order q (has_listed g w u.levelled q some) in
          let d = u.done k.0 (omega (arith, k.1, all)) p (subst (λ (x : ℕ). Justifies g x p) (sym k.2) j) in
          (d.0, omega (arith, d.1, ap (level_of w) k.2));
    } in
    record {
      size = u.levelled.size;
      levels = λ p h. record {
        way = u.levelled.ways p h;
        least = λ earlier d. (relaxed_level g w relaxed (p ∷ earlier) d p (inl refl)).1;
      };
      least = λ p d. (relaxed_level g w relaxed (p ∷ d.0) d.1 p (inl refl)).0;
      none = u.levelled.none;
      once = u.levelled.once;
      rising = u.levelled.rising;
      small = λ p. elim (cases_eq (level_of w p) 0) [
        | inl zero ↦ omega (arith, zero)
        | inr some ↦
            let k = place_of w.order p (has_listed g w u.levelled p (omega arith)) in
            omega (arith, u.levelled.small k.0 k.1, ap (level_of w) k.2, k.1, order_short g w u.levelled)
      ];
      short = order_short g w u.levelled;
    }

-- what has a level is a place, and what is listed has a level
pub level_below : (g : GraphParts) (w : Walk) → HasLevels g w → (p : ℕ) → 0 < level_of w p → p < place_count g
level_below g w l p h = elim (cases_lt p (length w.levels)) [
  | inl low ↦ omega (arith, low, l.size)
  | inr past ↦ absurd (omega (arith, h, get_or_past w.levels p 0 past))
]

pub order_level : (g : GraphParts) (w : Walk) → HasLevels g w → (p : ℕ) → In p w.order → 0 < level_of w p
order_level g w l p h = elim (cases_eq (level_of w p) 0) [
  | inl zero ↦ absurd (omega (arith, l.none p zero, times-In p w.order h))
  | inr some ↦ omega arith
]
