-- Frame-local turns that follow a turn, and how they are recognised.
use Rattle.std.specs.Prelude.{◌≡◌, ℕ, Bool, false, ◌&&◌, List, [], ◌∷◌, ◌++◌, Option, Some, None}
use Rattle.golf_data.specs.declared.code.Code.{Code}
use Rattle.golf_model.specs.Views.{FrameView, GoroutineView}
use Rattle.golf_model.specs.State.{State, is_running, ending}
use Rattle.golf_model.specs.Futures.{Leads}
use Rattle.golf_explore_laws.specs.After.{after, after_all}
use Rattle.golf_explore_laws.specs.Closed.{IsPlain}
use Rattle.golf_explore_laws.specs.Local.{frame_is_local, AreLocalTurns}
use Rattle.golf_explore.specs.VisitLists.{TurnsHappen, GoesPlainly}

-- ---- whether the next turn is frame-local

abbrev pub frames_are_local : Code → List FrameView → Bool
frames_are_local code [] = false
frames_are_local code (f ∷ fs) = frame_is_local code f fs f.leaving

-- the goroutine runs, and its next turn is frame-local
abbrev pub goroutine_is_local : Code → Option GoroutineView → Bool
goroutine_is_local code None = false
goroutine_is_local code (Some r) = is_running r.mode && frames_are_local code r.frames

-- ---- turns

-- frame-local turns lead from the first state to the second, and their numbers were added at the end
pub record HasSettled (code : Code) (s t : State) (before numbers : List ℕ) : Type 0 where
  pub more : List ℕ
  pub adds : numbers ≡ before ++ more
  pub local : AreLocalTurns code s more
  pub led : t ≡ after_all code s more
  pub goes : ending t ≡ None
  pub leads : Leads code t

-- The turn of this number and frame-local ones after it lead from the first state to the second, and these are their
-- numbers. The program has not ended before the last one. If the second state is plain, so is each state between.
pub record HasTakenAndSettled (code : Code) (s : State) (number : ℕ) (t : State) (numbers : List ℕ) : Type 0 where
  pub more : List ℕ
  pub are : numbers ≡ number ∷ more
  pub local : AreLocalTurns code (after code s number) more
  pub led : t ≡ after_all code (after code s number) more
  pub goes_on : TurnsHappen code s numbers
  pub goes : IsPlain t → GoesPlainly code s numbers
  pub leads : Leads code t
