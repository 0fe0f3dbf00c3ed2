-- A `select` with two ready cases: both of its turns are in the list.
-- For: `last_choice` and `IsRanked`, specs/Closed.antt; `EndsWithin`, specs/Laws.antt
-- By: computing the turns of its states
use Rattle.std.proofs.Common.{◌≡◌, ℕ, List, [], ◌∷◌, ◌++◌, Some, None, inl, inr, refl, arith}
use Rattle.golf_data.specs.declared.code.Code.{Code}
use Rattle.golf_data.specs.declared.code.Instr.{Instr}
use Rattle.golf_data.specs.declared.code.CaseKind.{CaseKind}
use Rattle.golf_model.specs.State.{State, start}
use Rattle.golf_model.proofs.Examples.Writing.{code_with, function, new_channel, case}
use Rattle.golf_explore_laws.specs.Closed.{turn_last_choice, after_turn, IsRanked}
use Rattle.golf_explore_laws.specs.Laws.{EndsWithin}
use Rattle.golf_explore_laws.proofs.MainLaws.{ranked_lists_end}
use Rattle.golf_explore_laws.proofs.Examples.Tables.{ranked-by}

-- both cases receive from the same closed channel
abbrev choosing : Code
choosing =
    code_with []
    (function 0 0 1 (new_channel 0 ++ (Instr.Dup ∷ Instr.Close ∷ Instr.Dup
    ∷ Instr.Select (case CaseKind.Take 6 ∷ case CaseKind.Take 7 ∷ []) None ∷ Instr.Return ∷ Instr.Return ∷ []))
    ∷ [])

abbrev next : State → ℕ → State
next s choice = after_turn choosing s 0 choice

abbrev made : State
made = next (next (start choosing) 0) 0

abbrev closed : State
closed = next (next made 0) 0

-- goroutine 1 stands at the `select`
abbrev selecting : State
selecting = next closed 0

abbrev ranked : List (State × ℕ)
ranked =
    (start choosing, 7) ∷ (next (start choosing) 0, 6) ∷ (made, 5) ∷ (next made 0, 4) ∷ (closed, 3) ∷ (selecting, 2)
    ∷ (next selecting 0, 1) ∷ (next selecting 1, 1) ∷ (next (next selecting 0) 0, 0) ∷ (next (next selecting 1) 0, 0)
    ∷ []

is-ranked : IsRanked choosing ranked 7
is-ranked =
    ranked-by choosing ranked 7 (inl refl) (
      inr (refl, (1 ∷ []) ∷ [], (((6, omega arith, refl), omega arith), omega arith)),
      (
        inr (refl, (2 ∷ []) ∷ [], (((5, omega arith, refl), omega arith), omega arith)),
        (
          inr (refl, (3 ∷ []) ∷ [], (((4, omega arith, refl), omega arith), omega arith)),
          (
            inr (refl, (4 ∷ []) ∷ [], (((3, omega arith, refl), omega arith), omega arith)),
            (
              inr (refl, (5 ∷ []) ∷ [], (((2, omega arith, refl), omega arith), omega arith)),
              (
                inr (
                  refl,
                  (6 ∷ 7 ∷ []) ∷ [],
                  (
                    ((1, omega arith, refl), ((1, omega arith, refl), omega arith)),
                    omega arith,
                  ),
                ),
                (
                  inr (refl, (8 ∷ []) ∷ [], (((0, omega arith, refl), omega arith), omega arith)),
                  (
                    inr (refl, (9 ∷ []) ∷ [], (((0, omega arith, refl), omega arith), omega arith)),
                    (
                      inl refl,
                      (inl refl, tt),
                    ),
                  ),
                ),
              ),
            ),
          ),
        ),
      ),
    )

pub choosing_ends_within_seven : EndsWithin 7 choosing
choosing_ends_within_seven = ranked_lists_end choosing ranked 7 is-ranked

-- its goroutine has two choices
pub two_choices : turn_last_choice choosing selecting (Some 1) ≡ 1
two_choices = refl
