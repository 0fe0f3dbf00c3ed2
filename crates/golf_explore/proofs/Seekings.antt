-- A state that turns reach is that of their run.
-- For: `attempt`, src/attempts.rt; `judge`, src/successors.rt; `IsFound` and `Shows`, specs/Sought.antt
-- By: cases of what is sought; for the first turns, induction over their number
use Rattle.std.proofs.Common.{◌≡◌, ℕ, zero, suc, ◌+◌, ◌<◌, List, [], ◌∷◌, ◌++◌, length, length-append, take, slice_get}
use Rattle.std.proofs.Common.{Some, None, Bool, true, Result, Ok, Err, IfOk}
use Rattle.std.proofs.Common.{sym, ap, subst, ◌∙◌, arith}
use Rattle.golf_data.specs.declared.code.Code.{Code}
use Rattle.golf_model.specs.State.{State, ending, start}
use Rattle.golf_model.specs.LiveSet.{dead}
use Rattle.golf_explore_laws.specs.After.{silent, after, after_all}
use Rattle.golf_explore_laws.specs.Closed.{IsPlain}
use Rattle.golf_explore_laws.specs.Laws.{is_panic, is_asleep}
use Rattle.golf_explore_laws.proofs.Visiting.{silent-dead}
use Rattle.golf_explore.specs.declared.attempts.Reached.{Reached}
use Rattle.golf_explore.specs.declared.sought.Sought.{Sought}
use Rattle.golf_explore.specs.Sought.{IsFound, IsReached, Shows}
use Rattle.golf_explore.specs.Results.{run_of}
use Rattle.golf_explore.specs.VisitLists.{GoesPlainly, IsTrail, has_ended_by}
use Rattle.golf_explore.proofs.TurnLists.{goes-append, run-goes}

-- the first turns and one more
take-suc-next : {X : Type 0} (ns : List X) (i : ℕ) (x : X) → slice_get ns i ≡ Some x
    → take (suc i) ns ≡ take i ns ++ x ∷ []
take-suc-next [] i x h = cc
take-suc-next (n ∷ ns) zero x h = let e : n ≡ x = cc in ap (λ z. z ∷ []) e
take-suc-next (n ∷ ns) (suc i) x h = ap (λ t. n ∷ t) (take-suc-next ns i x h)

pub take-next : {X : Type 0} (ns : List X) (i : ℕ) (x : X) → slice_get ns i ≡ Some x
    → take (i + 1) ns ≡ take i ns ++ x ∷ []
take-next ns i x h = let one : i + 1 ≡ suc i = omega arith in ap (λ k. take k ns) one ∙ take-suc-next ns i x h

-- one turn more goes on too
pub goes-more : (code : Code) (ns : List ℕ) (i x : ℕ) → slice_get ns i ≡ Some x
    → GoesPlainly code (start code) (take i ns)
    → ending (after_all code (start code) (take i ns)) ≡ None
    → IsPlain (after code (after_all code (start code) (take i ns)) x) → GoesPlainly code (start code) (take (i + 1) ns)
goes-more code ns i x at goes on plain = subst (GoesPlainly code (start code)) (sym (take-next ns i x at))
    (goes-append code (take i ns) (x ∷ []) (start code) goes (on, plain, tt))

module _ (code : Code) (ns : List ℕ) (s : State) (led : s ≡ after_all code (start code) ns)
    (goes : GoesPlainly code (start code) ns) where
  ran : silent (run_of code ns) ≡ s
  ran = run-goes code ns (start code) goes ∙ sym led

  run-found : (sought : Sought) → IsFound sought s → IsFound sought (run_of code ns)
  run-found Sought.Leak h =
      (ap ending ran ∙ h.0, λ none. h.1 (sym (ap dead ran) ∙ silent-dead (run_of code ns) ∙ none))
  run-found Sought.Panic h = ap (has_ended_by is_panic) ran ∙ h
  run-found Sought.Asleep h = ap (has_ended_by is_asleep) ran ∙ h

  -- the run of these turns shows what was sought
  pub shown : (sought : Sought) → 0 < length ns → IsFound sought s → Shows code sought ns
  shown sought some h = (some, run-found sought h)

-- what was found is shown
pub shows-if : {E : Type 0} (code : Code) (ns : List ℕ) (r : Reached) → IsReached code ns r → (sought : Sought)
    → 0 < length ns → (result : Result Bool E) → IfOk result (λ found. found ≡ true → IsFound sought r.state)
    → IfOk result (λ found. found ≡ true → Shows code sought ns)
shows-if code ns r reached sought some (Ok found) h =
    λ is. shown code ns r.state reached.led reached.goes sought some (h is)
shows-if code ns r reached sought some (Err e) h = tt

-- turns to a state with a dead goroutine show a leak
pub trail-shows : (code : Code) (ns more : List ℕ) (s : State) → IsTrail code ns s → ending s ≡ None
    → s.finalisers ≡ [] → (dead s ≡ [] → ⊥) → more ≡ ns → Shows code Sought.Leak more
trail-shows code ns more s trail on none dies is = subst (Shows code Sought.Leak) (sym is)
    (shown code ns s trail.led (trail.goes (λ goes. none)) Sought.Leak trail.some (on, dies))

pub some-longer : (ns more : List ℕ) (n : ℕ) → more ≡ ns ++ n ∷ [] → 0 < length more
some-longer ns more n is = let a = ap length is in let b = length-append ns (n ∷ []) in omega (arith, a, b)
