-- A code of two goroutines: each run of it ends within three turns, whoever goes first.
-- For: `IsRanked`, specs/Closed.antt; `AlwaysEnds`, specs/Laws.antt
-- By: computing the turns of its five states
use Rattle.std.proofs.Common.{ℕ, List, [], ◌∷◌, inl, inr, refl, arith}
use Rattle.golf_data.specs.declared.code.Code.{Code}
use Rattle.golf_data.specs.declared.code.Instr.{Instr}
use Rattle.golf_model.specs.State.{State, start}
use Rattle.golf_model.proofs.Examples.Writing.{code_with, function}
use Rattle.golf_explore_laws.specs.Closed.{after_turn, IsRanked}
use Rattle.golf_explore_laws.specs.Laws.{EndsWithin, AlwaysEnds}
use Rattle.golf_explore_laws.proofs.MainLaws.{ranked_lists_end, ranked_lists_always_end}
use Rattle.golf_explore_laws.proofs.Examples.Tables.{ranked-by}

abbrev starting : Code
starting = code_with [] (function 0 0 1 (Instr.Go 1 0 ∷ Instr.Return ∷ []) ∷ function 0 0 11 (Instr.Return ∷ []) ∷ [])

-- goroutine 1 has started goroutine 2
abbrev started : State
started = after_turn starting (start starting) 0 0

-- goroutine 2 returned first
abbrev alone : State
alone = after_turn starting started 1 0

abbrev ranked : List (State × ℕ)
ranked =
    (start starting, 3) ∷ (started, 2) ∷ (alone, 1) ∷ (after_turn starting started 0 0, 0)
    ∷ (after_turn starting alone 0 0, 0) ∷ []

is-ranked : IsRanked starting ranked 3
is-ranked =
    ranked-by starting ranked 3 (inl refl) (
      inr (refl, (1 ∷ []) ∷ [], (((2, omega arith, refl), omega arith), omega arith)),
      (
        inr (
          refl,
          (3 ∷ []) ∷ (2 ∷ []) ∷ [],
          (
            ((0, omega arith, refl), omega arith),
            (((1, omega arith, refl), omega arith), omega arith),
          ),
        ),
        (
          inr (refl, (4 ∷ []) ∷ [], (((0, omega arith, refl), omega arith), omega arith)),
          (
            inl refl,
            (inl refl, tt),
          ),
        ),
      ),
    )

pub starting_ends_within_three : EndsWithin 3 starting
starting_ends_within_three = ranked_lists_end starting ranked 3 is-ranked

pub starting_always_ends : AlwaysEnds starting
starting_always_ends = ranked_lists_always_end starting ranked 3 is-ranked
