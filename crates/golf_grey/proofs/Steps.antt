-- Each step keeps the balance.
-- For: `Balanced`, specs/Rule.antt
-- By: cases of whether a view is the one that is changed; for a property of each of two lists, induction over the first
use Rattle.std.proofs.Common.{◌≡◌, ◌≢◌, ℕ, zero, suc, ◌+◌, ◌<◌, ◌≤◌, List, [], ◌∷◌, ◌++◌, length, set, refl, sym, ap}
use Rattle.std.proofs.Common.{◌∙◌, subst, arith, ⊎_elim, length-append}
use Rattle.std.specs.Prelude.{sum_by}
use Rattle.std.proofs.lemmas.List.Sums.{sum_by-append, sum_by_push}
use mathlib.Core.Option.{some, some-injective, some-ne-none}
use lib.ListN.{get_elem?}
use Rattle.crossbeam_deque.specs.Tasks.{Pushes, Takes, Finds, FindsFew, Forks, Merges}
use Rattle.crossbeam_deque.proofs.Lists.{at_set, at_snoc}
use Rattle.golf_grey.specs.declared.rule.GreyView.{GreyView}
use Rattle.golf_grey.specs.Rule.{grey, all_parts, unbound, first_view, PlacesBelow, count, BalancedAt, Balanced, Pushed}
use Rattle.golf_grey.specs.Rule.{TakesPlaces, head_of, second_of, Named, WasEmpty, IsEven, left_view, right_view}
use Rattle.golf_grey.specs.Rule.{both_views}
use Rattle.golf_grey.specs.Rule.{spent_view}
use Rattle.golf_theory.proofs.Sums.{total_set, total_at, total_alone, total_length}

abbrev IsIdle : GreyView → Type 0
IsIdle v = v.parts ≡ 0 → (v.pushed ≡ []) × (v.taken ≡ [])

abbrev IsSilent : GreyView → Type 0
IsSilent v = v.pushers ≡ 0 → v.pushed ≡ []

abbrev Knows : ℕ → ℕ → GreyView → Type 0
Knows places capacity v = 0 < v.parts → (v.places ≡ places) × (v.capacity ≡ capacity)

each_set : (P : GreyView → Type 0) (views : List GreyView) (port : ℕ) (w : GreyView) → P w
    → ((k : ℕ) (v : GreyView) → get_elem? views k ≡ some v → P v) → (k : ℕ) (v : GreyView)
    → get_elem? (set views port w) k ≡ some v → P v
each_set P views port w mine all k v e =
    ⊎_elim (λ (t : (k ≡ port) × (w ≡ v)). subst P t.1 mine)
    (λ (t : (k ≢ port) × (get_elem? views k ≡ some v)). all k v t.1) (at_set views port k w v e)

each_snoc : (P : GreyView → Type 0) (views : List GreyView) (w : GreyView) → P w
    → ((k : ℕ) (v : GreyView) → get_elem? views k ≡ some v → P v) → (k : ℕ) (v : GreyView)
    → get_elem? (views ++ w ∷ []) k ≡ some v → P v
each_snoc P views w mine all k v e = ⊎_elim (λ (was : get_elem? views k ≡ some v). all k v was)
    (λ (same : w ≡ v). subst P same mine) (at_snoc views w v k e)

below_both : (n : ℕ) (xs ys : List ℕ) → PlacesBelow n xs → PlacesBelow n ys → PlacesBelow n (xs ++ ys)
below_both n [] ys a b = b
below_both n (x ∷ xs) ys a b = (a.0, below_both n xs ys a.1 b)

below_left : (n : ℕ) (xs ys : List ℕ) → PlacesBelow n (xs ++ ys) → PlacesBelow n xs
below_left n [] ys a = tt
below_left n (x ∷ xs) ys a = (a.0, below_left n xs ys a.1)

below_right : (n : ℕ) (xs ys : List ℕ) → PlacesBelow n (xs ++ ys) → PlacesBelow n ys
below_right n [] ys a = a
below_right n (x ∷ xs) ys a = below_right n xs ys a.1

none_below : (n : ℕ) (xs : List ℕ) → length xs ≡ 0 → PlacesBelow n xs
none_below n [] e = tt
none_below n (x ∷ xs) e = absurd (omega arith)

none_weighs : (h : ℕ → ℕ) (xs : List ℕ) → length xs ≡ 0 → sum_by h xs ≡ 0
none_weighs h [] e = refl
none_weighs h (x ∷ xs) e = absurd (omega arith)

none_both : (xs ys : List ℕ) → xs ≡ [] → ys ≡ [] → xs ++ ys ≡ []
none_both xs ys a b = rw (a, b) refl

pub begins : Balanced [] (first_view ∷ [])
begins = (
  unbound,
  unbound,
  record {
    parts = refl;
    pushers = refl;
    balance = λ h. refl;
    idle = one IsIdle (λ _. (refl, refl));
    silent = one IsSilent (λ _. refl);
    same = one (Knows unbound unbound) (λ _. (refl, refl));
    low = tt;
    few = omega arith;
  },
)
  where
    one : (P : GreyView → Type 0) → P first_view → (k : ℕ) (v : GreyView) → get_elem? (first_view ∷ []) k ≡ some v → P v
    one P mine zero v e = subst P (some-injective first_view v e) mine
    one P mine (suc k) v e = absurd (some-ne-none v (sym e))

-- all that was pushed was pushed by the view that may push
pushed_by_one : (places capacity : ℕ) (h : ℕ → ℕ) (items : List ℕ) (views : List GreyView) (port : ℕ) (v : GreyView)
    → BalancedAt places capacity items views → get_elem? views port ≡ some v → v.pushers ≡ 1
    → sum_by (λ u. sum_by h u.pushed) views ≡ sum_by h v.pushed
pushed_by_one places capacity h items views port v b at one =
    total_alone (λ (u : GreyView). u.pushers) (λ (u : GreyView). sum_by h u.pushed) views port v at
    (λ k u there none. ap (sum_by h) (b.silent k u there none)) (b.pushers ∙ sym one)

-- a view that has a part now says that more was pushed or taken, and what lies in the deque is another list
module _ (places capacity : ℕ) (items more : List ℕ) (views : List GreyView) (port : ℕ) (v : GreyView)
    (s : BalancedAt places capacity items views) (at : get_elem? views port ≡ some v) (live : 0 < v.parts)
    (pushed taken : List ℕ) where
  abbrev w : GreyView
  w = grey v.parts v.pushers v.places v.capacity pushed taken

  moved : IsSilent w → ((h : ℕ → ℕ) → sum_by h pushed + sum_by h v.taken + sum_by h items ≡ sum_by h v.pushed
      + sum_by h taken + sum_by h more) → PlacesBelow places more
      → sum_by (λ (u : GreyView). count u.pushed) (set views port w) ≤ capacity
      → BalancedAt places capacity more (set views port w)
  moved silent balance low few = record {
    parts = omega (arith, total_set (λ (u : GreyView). u.parts) views port v w at, s.parts);
    pushers = omega (arith, total_set (λ (u : GreyView). u.pushers) views port v w at, s.pushers);
    balance = λ h. omega (
      arith,
      total_set (λ (u : GreyView). sum_by h u.pushed) views port v w at,
      total_set (λ (u : GreyView). sum_by h u.taken) views port v w at,
      s.balance h,
      balance h,
    );
    idle = each_set IsIdle views port w (λ none. absurd (omega arith)) s.idle;
    silent = each_set IsSilent views port w silent s.silent;
    same = each_set (Knows places capacity) views port w (λ _. s.same port v at live) s.same;
    low = low;
    few = few;
  }

pub pushes : (port : ℕ) (v : GreyView) (xs : List ℕ) → 0 < v.parts → v.pushers ≡ 1 → PlacesBelow v.places xs
    → length v.pushed + length xs ≤ v.capacity → Pushes Balanced port v xs (Pushed v xs)
pushes port v xs live one below fits items views b at =
    let w : GreyView = grey v.parts v.pushers v.places v.capacity (v.pushed ++ xs) v.taken in
    let s = b.2 in
    let mine = s.same port v at live in (
      w,
      (
        b.0,
        b.1,
        moved b.0 b.1 items (items ++ xs) views port v s at live (v.pushed ++ xs) v.taken
            (λ none. absurd (omega arith))
            (λ h. omega (arith, sum_by-append h v.pushed xs, sum_by-append h items xs))
            (below_both b.0 items xs s.low (subst (λ (n : ℕ). PlacesBelow n xs) mine.0 below))
            (omega (
              arith,
              total_set (λ (u : GreyView). count u.pushed) views port v w at,
              pushed_by_one b.0 b.1 (λ _. 1) items views port v s at one,
              sum_by-append (λ (x : ℕ). 1) v.pushed xs,
              total_length v.pushed,
              total_length xs,
              fits,
              mine.1,
            )),
      ),
      record { view = refl },
    )

pub alone : (f : GreyView → ℕ) (items : List ℕ) (views : List GreyView) (port : ℕ) (v : GreyView) → Balanced items views
    → get_elem? views port ≡ some v → v.parts ≡ all_parts → ((u : GreyView) → u.pushed ≡ [] → u.taken ≡ [] → f u ≡ 0)
    → sum_by f views ≡ f v
alone f items views port v b at all none =
    total_alone (λ (u : GreyView). u.parts) f views port v at
    (λ k u there zero_is. let i = b.2.idle k u there zero_is in none u i.0 i.1) (b.2.parts ∙ sym all)

pushed_alone : (h : ℕ → ℕ) (items : List ℕ) (views : List GreyView) (port : ℕ) (v : GreyView) → Balanced items views
    → get_elem? views port ≡ some v → v.parts ≡ all_parts → sum_by h v.pushed ≡ sum_by h v.taken + sum_by h items
pushed_alone h items views port v b at all =
    omega (
      arith,
      b.2.balance h,
      alone (λ (u : GreyView). sum_by h u.pushed) items views port v b at all (λ u p t. ap (sum_by h) p),
      alone (λ (u : GreyView). sum_by h u.taken) items views port v b at all (λ u p t. ap (sum_by h) t),
    )

pub takes : (port : ℕ) (v : GreyView) → 0 < v.parts → Takes Balanced port v 1 (TakesPlaces v)
takes port v live xs items views _ _ b at =
    let w : GreyView = grey v.parts v.pushers v.places v.capacity v.pushed (v.taken ++ xs) in
    let s = b.2 in
    let mine = s.same port v at live in (
      w,
      (
        b.0,
        b.1,
        moved b.0 b.1 (xs ++ items) items views port v s at live v.pushed (v.taken ++ xs)
            (s.silent port v at)
            (λ h. omega (arith, sum_by-append h v.taken xs, sum_by-append h xs items))
            (below_right b.0 xs items s.low)
            (omega (arith, total_set (λ (u : GreyView). count u.pushed) views port v w at, s.few)),
      ),
      record {
        view = refl;
        low = subst (λ (n : ℕ). PlacesBelow n xs) (sym mine.0) (below_left b.0 xs items s.low);
        few = omega (
          arith,
          s.balance (λ _. 1),
          total_at (λ (u : GreyView). count u.taken) views port v at,
          sum_by-append (λ (x : ℕ). 1) xs items,
          s.few,
          mine.1,
          total_length v.taken,
          total_length xs,
          length-append v.taken xs,
        );
        bound = λ all. let e = pushed_alone (λ (x : ℕ). 1) (xs ++ items) views port v b at all in omega (
          arith,
          e,
          total_length v.pushed,
          total_length v.taken,
          total_length (xs ++ items),
          length-append xs items,
          length-append v.taken xs,
        );
      },
    )

-- who has every part takes the last of what it pushed: then the deque is empty, and its places and pushes count anew,
-- under any two numbers
renews : (port : ℕ) (v : GreyView) (places capacity : ℕ) → v.parts ≡ all_parts → length v.pushed ≡ length v.taken + 1
    → (xs items : List ℕ) (views : List GreyView) → 0 < length xs → Balanced (xs ++ items) views
    → get_elem? views port ≡ some v
    → Balanced items (set views port (grey v.parts v.pushers places capacity [] []))
renews port v places capacity all last xs items views some_one b at =
    let w : GreyView = grey v.parts v.pushers places capacity [] [] in
    let gone : GreyView = grey 0 0 0 0 [] [] in
    let s = b.2 in
    let empty : length items ≡ 0 = omega (
      arith,
      pushed_alone (λ (x : ℕ). 1) (xs ++ items) views port v b at all,
      total_length v.pushed,
      total_length v.taken,
      total_length (xs ++ items),
      length-append xs items,
      some_one,
      last,
    ) in (
      places,
      capacity,
      record {
        parts = omega (arith, total_set (λ (u : GreyView). u.parts) views port v w at, s.parts);
        pushers = omega (arith, total_set (λ (u : GreyView). u.pushers) views port v w at, s.pushers);
        balance = λ h. omega (
          arith,
          total_set (λ (u : GreyView). sum_by h u.pushed) views port v w at,
          total_set (λ (u : GreyView). sum_by h u.taken) views port v w at,
          alone (λ (u : GreyView). sum_by h u.pushed) (xs ++ items) views port v b at all (λ u p t. ap (sum_by h) p),
          alone (λ (u : GreyView). sum_by h u.taken) (xs ++ items) views port v b at all (λ u p t. ap (sum_by h) t),
          none_weighs h items empty,
        );
        idle = each_set IsIdle views port w (λ zero_is. (refl, refl)) s.idle;
        silent = each_set IsSilent views port w (λ _. refl) s.silent;
        same = λ k u e live. ⊎_elim
            (λ (t : (k ≡ port) × (w ≡ u)). subst (Knows places capacity) t.1 (λ _. (refl, refl)) live)
            (λ (t : (k ≢ port) × (get_elem? views k ≡ some u)). absurd (
            let rest = total_set (λ (y : GreyView). y.parts) views port v gone at in
            let there = total_at (λ (y : GreyView). y.parts) (set views port gone) k u
            (kept views k port gone u t.0 t.1) in
            omega (arith, rest, there, s.parts, all, live)))
            (at_set views port k w u e);
        low = none_below places items empty;
        few = omega (
          arith,
          total_set (λ (u : GreyView). count u.pushed) views port v w at,
          alone (λ (u : GreyView). count u.pushed) (xs ++ items) views port v b at all
              (λ u p t. ap (sum_by (λ _. 1)) p),
        );
      },
    )
  where
    kept : (l : List GreyView) (k j : ℕ) (x u : GreyView) → k ≢ j → get_elem? l k ≡ some u
        → get_elem? (set l j x) k ≡ some u
    kept [] k j x u apart e = absurd (some-ne-none u (sym e))
    kept (y ∷ ys) zero zero x u apart e = absurd (apart refl)
    kept (y ∷ ys) zero (suc j) x u apart e = e
    kept (y ∷ ys) (suc k) zero x u apart e = e
    kept (y ∷ ys) (suc k) (suc j) x u apart e = kept ys k j x u (λ same. apart (ap suc same)) e

pub names : (port : ℕ) (v : GreyView) → v.parts ≡ all_parts → length v.pushed ≡ length v.taken + 1
    → Takes Balanced port v 1 (λ xs w. Named v w)
names port v all last xs items views some_one _ b at = (
  grey v.parts v.pushers (second_of v.pushed) (head_of v.pushed) [] [],
  renews port v (second_of v.pushed) (head_of v.pushed) all last xs items views some_one b at,
  record { view = refl },
)

pub finds : (port : ℕ) (v : GreyView) → Finds Balanced port v (WasEmpty v)
finds port v views b at = (port, views, b, at)

pub even : (v : GreyView) → WasEmpty v → IsEven v
even v found all h = omega (arith, pushed_alone h [] found.1 found.0 v found.2 found.3 all)

pub forks : (port : ℕ) (v : GreyView) → 1 < v.parts → Forks Balanced port v (left_view v) (right_view v)
forks port v two items views b at =
    let w : GreyView = left_view v in
    let r : GreyView = right_view v in
    let vs : List GreyView = set views port w in
    let s = b.2 in
    let mine = s.same port v at (omega arith) in (
      b.0,
      b.1,
      record {
        parts = omega (
          arith,
          sum_by_push (λ (u : GreyView). u.parts) vs r,
          total_set (λ (u : GreyView). u.parts) views port v w at,
          s.parts,
        );
        pushers = omega (
          arith,
          sum_by_push (λ (u : GreyView). u.pushers) vs r,
          total_set (λ (u : GreyView). u.pushers) views port v w at,
          s.pushers,
        );
        balance = λ h. omega (
          arith,
          sum_by_push (λ (u : GreyView). sum_by h u.pushed) vs r,
          sum_by_push (λ (u : GreyView). sum_by h u.taken) vs r,
          total_set (λ (u : GreyView). sum_by h u.pushed) views port v w at,
          total_set (λ (u : GreyView). sum_by h u.taken) views port v w at,
          s.balance h,
        );
        idle = each_snoc IsIdle vs r (λ _. (refl, refl))
            (each_set IsIdle views port w (λ none. absurd (omega arith)) s.idle);
        silent = each_snoc IsSilent vs r (λ _. refl) (each_set IsSilent views port w (s.silent port v at) s.silent);
        same = each_snoc (Knows b.0 b.1) vs r (λ _. mine) (each_set (Knows b.0 b.1) views port w (λ _. mine) s.same);
        low = s.low;
        few = omega (
          arith,
          sum_by_push (λ (u : GreyView). count u.pushed) vs r,
          total_set (λ (u : GreyView). count u.pushed) views port v w at,
          s.few,
        );
      },
    )

pub merges : (port : ℕ) (v : GreyView) (other : ℕ) (u : GreyView) → 0 < v.parts
    → Merges Balanced port v other u (both_views v u) spent_view
merges port v other u live items views b at apart at' =
    let both : GreyView = both_views v u in
    let vs : List GreyView = set views port both in
    let s = b.2 in
    let mine = s.same port v at live in
    let theirs : get_elem? views other ≡ some u =
    ⊎_elim (λ (t : (other ≡ port) × (both ≡ u)). absurd (apart t.0))
    (λ (t : (other ≢ port) × (get_elem? views other ≡ some u)). t.1) (at_set views port other both u at') in (
      b.0,
      b.1,
      record {
        parts = omega (
          arith,
          total_set (λ (y : GreyView). y.parts) views port v both at,
          total_set (λ (y : GreyView). y.parts) vs other u spent_view at',
          s.parts,
        );
        pushers = omega (
          arith,
          total_set (λ (y : GreyView). y.pushers) views port v both at,
          total_set (λ (y : GreyView). y.pushers) vs other u spent_view at',
          s.pushers,
        );
        balance = λ h. omega (
          arith,
          total_set (λ (y : GreyView). sum_by h y.pushed) views port v both at,
          total_set (λ (y : GreyView). sum_by h y.taken) views port v both at,
          total_set (λ (y : GreyView). sum_by h y.pushed) vs other u spent_view at',
          total_set (λ (y : GreyView). sum_by h y.taken) vs other u spent_view at',
          sum_by-append h v.pushed u.pushed,
          sum_by-append h v.taken u.taken,
          s.balance h,
        );
        idle = each_set IsIdle vs other spent_view (λ _. (refl, refl))
            (each_set IsIdle views port both (λ none. absurd (omega arith)) s.idle);
        silent = each_set IsSilent vs other spent_view (λ _. refl)
            (each_set IsSilent views port both (λ none. none_both v.pushed u.pushed (s.silent port v at (omega arith))
            (s.silent other u theirs (omega arith))) s.silent);
        same = each_set (Knows b.0 b.1) vs other spent_view (λ l. absurd (omega arith))
            (each_set (Knows b.0 b.1) views port both (λ _. mine) s.same);
        low = s.low;
        few = omega (
          arith,
          total_set (λ (y : GreyView). count y.pushed) views port v both at,
          total_set (λ (y : GreyView). count y.pushed) vs other u spent_view at',
          sum_by-append (λ (x : ℕ). 1) v.pushed u.pushed,
          s.few,
        );
      },
    )

pub finds_few : (most port : ℕ) (v : GreyView) → most ≡ 0 → FindsFew Balanced most port v (WasEmpty v)
finds_few most port v none [] views few b at = finds port v views b at
finds_few most port v none (x ∷ xs) views few b at = absurd (omega arith)
