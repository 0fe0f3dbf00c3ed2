-- Small cases of the definitions, by computation.
use Rattle.std.proofs.Common.{◌≡◌, ℕ, Bool, true, false, not, ◌==◌, ◌||◌, ◌&&◌, List, [], ◌∷◌, Some, None, refl, nat_lt}
use Rattle.golf_theory.specs.Membership.{is_in, any_of, all_of}
use Rattle.golf_theory.specs.Maps.{find, put, add, only, keys_where, keys, map_values}
use Rattle.golf_theory.specs.Least.{least}
use Rattle.golf_theory.specs.Counts.{times, rows_times}

abbrev three : List (ℕ × ℕ)
three = (1, 10) ∷ (4, 40) ∷ (6, 60) ∷ []

found : find 4 three ≡ Some 40
found = refl

absent : find 5 three ≡ None
absent = refl

changed_in_place : put 4 7 three ≡ (1, 10) ∷ (4, 7) ∷ (6, 60) ∷ []
changed_in_place = refl

absent_stays_away : put 5 7 three ≡ three
absent_stays_away = refl

added_last : add 9 90 three ≡ (1, 10) ∷ (4, 40) ∷ (6, 60) ∷ (9, 90) ∷ []
added_last = refl

cut_at_four : only (λ k. not (k == 4)) three ≡ (1, 10) ∷ (6, 60) ∷ []
cut_at_four = refl

keys_of_large_values : keys_where (λ k x. nat_lt 30 x) three ≡ 4 ∷ 6 ∷ []
keys_of_large_values = refl

keys_in_order : keys three ≡ 1 ∷ 4 ∷ 6 ∷ []
keys_in_order = refl

values_become_keys : map_values (λ k x. k) three ≡ (1, 1) ∷ (4, 4) ∷ (6, 6) ∷ []
values_become_keys = refl

member : is_in 3 (1 ∷ 3 ∷ []) ≡ true
member = refl

no_member : is_in 2 (1 ∷ 3 ∷ []) ≡ false
no_member = refl

-- nothing passes in the empty list, and everything does
empty_tests : any_of (λ (x : ℕ). true) [] ≡ false
empty_tests = refl

empty_holds : all_of (λ (x : ℕ). false) [] ≡ true
empty_holds = refl

-- 1 is a root, 1 leads to 4, 4 leads to 2, and 3 leads to 5
abbrev follows : List ℕ → ℕ → Bool
follows got x = (x == 1) || (((x == 4) && is_in 1 got) || (((x == 2) && is_in 4 got) || ((x == 5) && is_in 3 got)))

-- found in the order in which they follow, the newest first, whatever the order of the candidates
reached : least follows (1 ∷ 2 ∷ 3 ∷ 4 ∷ 5 ∷ []) ≡ 2 ∷ 4 ∷ 1 ∷ []
reached = refl

reached_from_behind : least follows (5 ∷ 4 ∷ 3 ∷ 2 ∷ 1 ∷ []) ≡ 2 ∷ 4 ∷ 1 ∷ []
reached_from_behind = refl

stands_twice : times 3 (3 ∷ 1 ∷ 3 ∷ []) ≡ 2
stands_twice = refl

stands_in_two_rows : rows_times 3 ((3 ∷ []) ∷ (1 ∷ 3 ∷ []) ∷ []) ≡ 2
stands_in_two_rows = refl
