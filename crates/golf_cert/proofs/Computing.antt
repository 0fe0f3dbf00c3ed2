-- Computed levels and reasons are the derived ones.
-- For: `reason_to` (golf_cert/specs/ComputedLevels.antt) and `ReasonsComputed` (golf_cert/specs/Laws.antt)
-- By: induction over the rounds, which are the levels; and over the list of places of a way
use Rattle.std.proofs.Common.{◌≡◌, ℕ, zero, suc, ◌+◌, ◌-◌, ◌<◌, ◌≤◌, ◌⊎◌, inl, inr, Bool, true, false, not, ◌&&◌, List}
use Rattle.std.proofs.Common.{[], ◌∷◌, ◌++◌, length, get_or, replicate, Option, Some, None, refl, sym, ap, ◌∙◌, subst}
use Rattle.std.proofs.Common.{arith}
use Rattle.std.specs.Prelude.{find, option_map, unwrap_or}
use Rattle.std.specs.List.{range_with_len}
use Rattle.std.proofs.lemmas.Bool.{not-true, cases_Bool, cases_eq, cases_lt, and_parts, and_from}
use Rattle.std.proofs.lemmas.List.{get_or_push, get_or_append_left, get_or-replicate, get_or_past, length-replicate}
use Rattle.std.proofs.lemmas.List.{length_push}
use Rattle.golf_theory.specs.Membership.{In, is_in}
use Rattle.golf_theory.specs.Counts.{times}
use Rattle.golf_theory.proofs.Lists.{In-filter, In-filter_old}
use Rattle.golf_theory.proofs.Tests.{is_in-from, In-from, not_in-from, is_in-out, cases_in}
use Rattle.golf_theory.proofs.Times.{times-cons_same, times-cons_other, times-none, length-counted, sum-bits}
use Rattle.golf_model.specs.declared.graph.GraphParts.{GraphParts}
use Rattle.golf_model.specs.Graph.{Least, justifies, is_justified_next, IsInRange}
use Rattle.golf_model.proofs.GraphLaws.{justifies-sound, justifies-complete, LeastFollows, next-sound, next-complete}
use Rattle.golf_mark.proofs.Ranges.{Least-below}
use Rattle.golf_cert.specs.Levels.{IsWay, IsLevel, IsLeastBefore, IsReason}
use Rattle.golf_cert.specs.LevelWalk.{HasWay}
use Rattle.golf_cert.specs.Steps.{place_count}
use Rattle.golf_cert.specs.ComputedLevels.{within, is_at_level, level_in, least_before, places_to, reason_to}
use Rattle.golf_cert.specs.Laws.{ReasonsComputed}
use Rattle.golf_cert.proofs.Trails.{way_to, level_once}
use Rattle.golf_cert.proofs.Walks.{HasWay-root, HasWay-step}
use Rattle.golf_cert.proofs.ReasonLaws.{reason_last, reason_once}

-- ---- the first number that satisfies a test

In-range : (a n p : ℕ) → a ≤ p → p < a + n → In p (range_with_len a n)
In-range a zero p low high = absurd (omega arith)
In-range a (suc n) p low high = elim (cases_eq p a) [
  | inl e ↦ inl e
  | inr apart ↦ inr (In-range (a + 1) n p (omega arith) (omega arith))
]

-- it passes, and none before it does
pub record IsFirst (test : ℕ → Bool) (a n k : ℕ) : Type 0 where
  pub passes : test k ≡ true
  pub from : a ≤ k
  pub below : k < a + n
  pub none : (j : ℕ) → a ≤ j → j < k → test j ≡ false

find-first : (test : ℕ → Bool) (a n k : ℕ) → find test (range_with_len a n) ≡ Some k → IsFirst test a n k
find-first test a zero k e = absurd (cc)
find-first test a (suc n) k e = elim (cases_Bool (test a)) [
  | inl met ↦
      let is : k ≡ a = cc in
      record {
        passes = ap test is ∙ met;
        from = omega arith;
        below = omega arith;
        none = λ j low high. absurd (omega (arith, is, low, high));
      }
  | inr unmet ↦
      let rest : find test (range_with_len (a + 1) n) ≡ Some k = cc in
      let r = find-first test (a + 1) n k rest in
      record {
        passes = r.passes;
        from = omega (arith, r.from);
        below = omega (arith, r.below);
        none = λ j low high. elim (cases_eq j a) [
          | inl same ↦ ap test same
              ∙ unmet
          | inr apart ↦ r.none j (omega arith) high
        ];
      }
]

find-none : (test : ℕ → Bool) (a n : ℕ) → find test (range_with_len a n) ≡ None → (j : ℕ) → a ≤ j → j < a + n
    → test j ≡ false
find-none test a zero e j low high = absurd (omega arith)
find-none test a (suc n) e j low high = elim (cases_Bool (test a)) [
  | inl met ↦ absurd (cc)
  | inr unmet ↦
      let rest : find test (range_with_len (a + 1) n) ≡ None = cc in
      elim (cases_eq j a) [
        | inl same ↦ ap test same
            ∙ unmet
        | inr apart ↦ find-none test (a + 1) n rest j (omega arith) (omega arith)
      ]
]

cases_option : (o : Option ℕ) → (o ≡ None) ⊎ ((k : ℕ) × (o ≡ Some k))
cases_option None = inl refl
cases_option (Some k) = inr (k, refl)

-- ---- rounds

pub within-sound : (g : GraphParts) (n p : ℕ) → In p (within g n) → (level : ℕ) × HasWay g p level × (level ≤ n)
unfolding within
within-sound g zero p h = absurd h
within-sound g (suc n) p h = elim (next-sound g (within g n) p
    (In-filter (is_justified_next g (within g n)) p (range_with_len 0 (place_count g)) h).1) [
      | inl root ↦ (1, HasWay-root g p root, omega arith)
      | inr j ↦ let w = within-sound g n j.0 j.1 in (w.0 + 1, HasWay-step g j.0 p w.0 w.1 j.2, omega (arith, w.2))
    ]

within-complete : (g : GraphParts) → IsInRange g → (n p : ℕ) (earlier : List ℕ) → IsWay g (p ∷ earlier)
    → length (p ∷ earlier) ≤ n → In p (within g n)
unfolding within
within-complete g fit zero p earlier d short = absurd (omega arith)
within-complete g fit (suc n) p earlier d short =
    let low = Least-below g fit p (earlier, d) in
    let next : LeastFollows g (within g n) p = elim d.0 [
      | inl root ↦ inl root
      | inr t ↦
          let r = way_to g earlier d.1 t.0 t.1 in
          let shorter : length (t.0 ∷ r.0) ≤ n = omega (arith, r.2, short) in
          inr (t.0, within-complete g fit n t.0 r.0 r.1 shorter, t.2)
    ] in
    In-filter_old (is_justified_next g (within g n)) p (range_with_len 0 (place_count g))
    (next-complete g (within g n) p next) (In-range 0 (place_count g) p (omega arith) (omega (arith, low)))

level-sound : (g : GraphParts) → IsInRange g → (n p : ℕ) → is_at_level g n p ≡ true → IsLevel g p n
level-sound g fit n p h =
    let b = and_parts (is_in p (within g n)) (not (is_in p (within g (n - 1)))) h in
    let w = within-sound g n p (In-from p (within g n) b.0) in
    let out = not_in-from p (within g (n - 1)) (not-true (is_in p (within g (n - 1))) b.1) in
    let least : (earlier : List ℕ) → IsWay g (p ∷ earlier) → n ≤ length (p ∷ earlier) =
    λ earlier d. elim (cases_lt (length (p ∷ earlier)) n) [
      | inl less ↦ absurd (out (within-complete g fit (n - 1) p earlier d (omega arith)))
      | inr far ↦ far
    ] in
    record { way = (w.1.0, w.1.1, omega (arith, w.1.2, w.2, least w.1.0 w.1.1)); least = least }

level-complete : (g : GraphParts) → IsInRange g → (n p : ℕ) → IsLevel g p n → is_at_level g n p ≡ true
level-complete g fit n p l =
    let out : In p (within g (n - 1)) → ⊥ = λ h. let w =
    within-sound g (n - 1) p h in omega (arith, l.least w.1.0 w.1.1, w.1.2, w.2, l.way.2) in
    and_from (is_in p (within g n)) (not (is_in p (within g (n - 1))))
    (is_in-from p (within g n) (within-complete g fit n p l.way.0 l.way.1 (omega (arith, l.way.2))))
    (ap not (is_in-out p (within g (n - 1)) out))

-- ---- no level is above the count of places

-- a list has one with the same members, each once, that is no longer
single : (g : GraphParts) (xs : List ℕ) → IsWay g xs → (ys : List ℕ) × IsWay g ys × ((p : ℕ) → In p xs → In p ys)
    × ((p : ℕ) → times p ys ≤ 1)
single g [] d = ([], tt, λ p h. h, λ p. omega arith)
single g (x ∷ xs) d =
    let r = single g xs d.1 in
    elim (cases_in x r.0) [
      | inl there ↦ (
        r.0,
        r.1,
        λ p h. elim h [ inl e ↦ subst (λ (q : ℕ). In q r.0) (sym e) there | inr i ↦ r.2 p i ],
        r.3,
      )
      | inr new ↦ (
        x ∷ r.0,
        (elim d.0 [ inl root ↦ inl root | inr t ↦ inr (t.0, r.2 t.0 t.1, t.2) ], r.1),
        λ p h. elim h [ inl e ↦ inl e | inr i ↦ inr (r.2 p i) ],
        λ p. elim (cases_eq x p) [
          | inl e ↦ omega (
            arith,
            subst (λ (q : ℕ). times q (x ∷ r.0) ≡ 1) e
                (times-cons_same x r.0 ∙ ap (λ (n : ℕ). 1 + n) (times-none x r.0 new)),
          )
          | inr apart ↦ omega (arith, times-cons_other p x r.0 apart, r.3 p)
        ],
      )
    ]

-- so it is no longer than there are places
short_way : (g : GraphParts) → IsInRange g → (ys : List ℕ) → IsWay g ys → ((p : ℕ) → times p ys ≤ 1)
    → length ys ≤ place_count g
short_way g fit ys d once =
    let words : List ℕ = replicate (place_count g) 1 in
    let size : length words ≡ place_count g = length-replicate {A = ℕ} (place_count g) 1 in
    let at : (x : ℕ) → x < place_count g → get_or words x 0 ≡ 1 = λ x low. get_or-replicate (place_count g) x 1 0 low in
    let counted = length-counted ys words (λ x. elim (cases_in x ys) [
      | inl there ↦
          let r = way_to g ys d x there in
          omega (arith, once x, at x (Least-below g fit x (r.0, r.1)))
      | inr out ↦ omega (arith, times-none x ys out)
    ]) in
    let bits = sum-bits words (λ x. elim (cases_lt x (place_count g)) [
      | inl low ↦ omega (arith, at x low)
      | inr past ↦ omega (arith, get_or_past words x 0 (omega (arith, size)))
    ]) in
    omega (arith, counted, bits, size)

-- a place of the least closed set is in one of the rounds
pub in_round : (g : GraphParts) → IsInRange g → (p : ℕ) → Least g p → In p (within g (place_count g))
in_round g fit p d =
    let s = single g (p ∷ d.0) d.1 in
    let r = way_to g s.0 s.1 p (s.2 p (inl refl)) in
    within-complete g fit (place_count g) p r.0 r.1 (omega (arith, r.2, short_way g fit s.0 s.1 s.3))

-- and so in one for the first time
no_round : (g : GraphParts) (p most : ℕ) → ((j : ℕ) → 1 ≤ j → j < 1 + most → is_at_level g j p ≡ false) → (n : ℕ)
    → n ≤ most → In p (within g n) → ⊥
unfolding within
no_round g p most none zero low h = h
no_round g p most none (suc n) low h = elim (cases_in p (within g n)) [
  | inl before ↦ no_round g p most none n (omega arith) before
  | inr out ↦
      let before : suc n - 1 ≡ n = omega arith in
      let gone : not (is_in p (within g (suc n - 1))) ≡ true =
      subst (λ (m : ℕ). not (is_in p (within g m)) ≡ true) (sym before) (ap not (is_in-out p (within g n) out)) in
      let met : is_at_level g (suc n) p ≡ true =
      and_from (is_in p (within g (suc n))) (not (is_in p (within g (suc n - 1))))
      (is_in-from p (within g (suc n)) h) gone in
      let unmet = none (suc n) (omega arith) (omega arith) in
      cc
]

level_in-some : (g : GraphParts) → IsInRange g → (p level : ℕ) → level_in g p ≡ Some level → IsLevel g p level
unfolding level_in
level_in-some g fit p level e = level-sound g fit level p
    (find-first (λ n. is_at_level g n p) 1 (place_count g) level e).passes

level_in-none : (g : GraphParts) → IsInRange g → (p : ℕ) → level_in g p ≡ None → Least g p → ⊥
unfolding level_in
level_in-none g fit p e d = no_round g p (place_count g) (find-none (λ n. is_at_level g n p) 1 (place_count g) e)
    (place_count g) (omega arith) (in_round g fit p d)

-- ---- the least place before another one

least_before-some : (g : GraphParts) → IsInRange g → (level next q : ℕ) → least_before g level next ≡ Some q
    → IsLeastBefore g level next q
unfolding least_before
least_before-some g fit level next q e =
    let f = find-first (λ p. is_at_level g level p && justifies g p next) 0 (place_count g) q e in
    let b = and_parts (is_at_level g level q) (justifies g q next) f.passes in
    record {
      at_level = level-sound g fit level q b.0;
      justifies = justifies-sound g q next b.1;
      least = λ other l j. elim (cases_lt other q) [
        | inl less ↦
            let met = and_from (is_at_level g level other) (justifies g other next) (level-complete g fit level other l)
            (justifies-complete g other next j) in
            let unmet = f.none other (omega arith) less in
            absurd (cc)
        | inr far ↦ far
      ];
    }

-- a place above the first level has one
least_before-none : (g : GraphParts) → IsInRange g → (n p : ℕ) → IsLevel g p (n + 1) → least_before g n p ≡ None → n ≡ 0
unfolding least_before
least_before-none g fit n p l e = elim l.way.1.0 [
  | inl root ↦ omega (arith, l.least [] (inl root, tt))
  | inr t ↦
      let r = way_to g l.way.0 l.way.1.1 t.0 t.1 in
      let least : (earlier : List ℕ) → IsWay g (t.0 ∷ earlier) → n ≤ length (t.0 ∷ earlier) =
      λ earlier d. omega (arith, l.least (t.0 ∷ earlier) (inr (t.0, inl refl, t.2), d)) in
      let level : IsLevel g t.0 n = record {
        way = (r.0, r.1, omega (arith, r.2, l.way.2, least r.0 r.1));
        least = least;
      } in
      let met = and_from (is_at_level g n t.0) (justifies g t.0 p) (level-complete g fit n t.0 level)
      (justifies-complete g t.0 p t.2) in
      let unmet = find-none (λ q. is_at_level g n q && justifies g q p) 0 (place_count g) e t.0 (omega arith)
      (omega (arith, Least-below g fit t.0 (r.0, r.1))) in
      absurd (cc)
]

-- ---- reasons

-- a reason goes on to a place that its last one is the least before
reason_push : (g : GraphParts) (q p : ℕ) (xs : List ℕ) → IsReason g q xs → IsLevel g p (length xs + 1)
    → IsLeastBefore g (length xs) p q → IsReason g p (xs ++ p ∷ [])
reason_push g q p xs r l least =
    let ys : List ℕ = xs ++ p ∷ [] in
    let size : length ys ≡ length xs + 1 = length_push xs p in
    let left : (k : ℕ) → k < length xs → get_or ys k 0 ≡ get_or xs k 0 =
    λ k low. get_or_append_left xs (p ∷ []) 0 k low in
    record {
      level = subst (IsLevel g p) (sym size) l;
      ends = (xs, refl);
      before = λ k low. elim (cases_lt (k + 1) (length xs)) [
        | inl inside ↦
            subst (λ (x : ℕ). IsLeastBefore g (k + 1) x (get_or ys k 0)) (sym (left (k + 1) inside))
            (subst (λ (x : ℕ). IsLeastBefore g (k + 1) (get_or xs (k + 1) 0) x) (sym (left k (omega (arith, inside))))
            (r.before k inside))
        | inr end ↦
            let last : length xs ≡ k + 1 = omega (arith, low, end, size) in
            let next : get_or ys (k + 1) 0 ≡ p = get_or_push xs p 0 (k + 1) last in
            let before : length xs - 1 ≡ k = omega (arith, last) in
            let here : get_or ys k 0 ≡ q = left k (omega (arith, last))
            ∙ subst (λ (j : ℕ). get_or xs j 0 ≡ q) before ((reason_last g q xs r).1) in
            subst (λ (x : ℕ). IsLeastBefore g (k + 1) x (get_or ys k 0)) (sym next)
            (subst (λ (x : ℕ). IsLeastBefore g (k + 1) p x) (sym here)
            (subst (λ (n : ℕ). IsLeastBefore g n p q) last least))
      ];
    }

places_to-reason : (g : GraphParts) → IsInRange g → (level p : ℕ) → IsLevel g p level
    → IsReason g p (places_to g level p)
unfolding places_to
places_to-reason g fit zero p l = absurd (omega (arith, l.way.2))
places_to-reason g fit (suc n) p l =
    let next : suc n ≡ n + 1 = omega arith in
    let up : IsLevel g p (n + 1) = subst (IsLevel g p) next l in
    elim (cases_option (least_before g n p)) [
      | inl none ↦
          let is : unwrap_or (option_map (places_to g n) (least_before g n p)) [] ++ p ∷ [] ≡ p ∷ [] =
          ap (λ (o : Option ℕ). unwrap_or (option_map (places_to g n) o) [] ++ p ∷ []) none in
          let one : n ≡ 0 = least_before-none g fit n p up none in
          subst (IsReason g p) (sym is) record {
            level = subst (λ (m : ℕ). IsLevel g p (m + 1)) one up;
            ends = ([], refl);
            before = λ k low. absurd (omega (arith, low));
          }
      | inr some ↦
          let q : ℕ = some.0 in
          let is : unwrap_or (option_map (places_to g n) (least_before g n p)) [] ++ p ∷ [] ≡ places_to g n q ++ p
          ∷ [] = ap (λ (o : Option ℕ). unwrap_or (option_map (places_to g n) o) [] ++ p ∷ []) some.1 in
          let least = least_before-some g fit n p q some.1 in
          let r = places_to-reason g fit n q least.at_level in
          let size : length (places_to g n q) ≡ n =
          level_once g q (length (places_to g n q)) n r.level least.at_level in
          subst (IsReason g p) (sym is) (reason_push g q p (places_to g n q) r
          (subst (λ (m : ℕ). IsLevel g p (m + 1)) (sym size) up)
          (subst (λ (m : ℕ). IsLeastBefore g m p q) (sym size) least))
    ]

reason_to-reason : (g : GraphParts) → IsInRange g → (p : ℕ) → Least g p → IsReason g p (reason_to g p)
unfolding reason_to
reason_to-reason g fit p d = elim (cases_option (level_in g p)) [
  | inl none ↦ absurd (level_in-none g fit p none d)
  | inr some ↦
      let is : reason_to g p ≡ places_to g some.0 p =
      ap (λ (o : Option ℕ). unwrap_or (option_map (λ level. places_to g level p) o) []) some.1 in
      subst (IsReason g p) (sym is) (places_to-reason g fit some.0 p (level_in-some g fit p some.0 some.1))
]

reason_to-none : (g : GraphParts) → IsInRange g → (p : ℕ) → (Least g p → ⊥) → reason_to g p ≡ []
unfolding reason_to
reason_to-none g fit p out = elim (cases_option (level_in g p)) [
  | inl none ↦ ap (λ (o : Option ℕ). unwrap_or (option_map (λ level. places_to g level p) o) []) none
  | inr some ↦ let l = level_in-some g fit p some.0 some.1 in absurd (out (l.way.0, l.way.1))
]

pub reasons_computed : ReasonsComputed
reasons_computed g fit p = (
  λ places. (
    λ r.
        let d : Least g p = (r.level.way.0, r.level.way.1) in
        (d, reason_once g p places (reason_to g p) r (reason_to-reason g fit p d)),
    λ h. subst (IsReason g p) (sym h.1) (reason_to-reason g fit p h.0),
  ),
  reason_to-none g fit p,
)
