-- The classic leak: a schedule reports it, so no closed list without dead goroutines exists for it.
-- For: `NeverReports` and `NeverLeaks`, specs/Laws.antt
-- By: computing one run
use Rattle.std.proofs.Common.{◌≡◌, List, [], ◌∷◌, ◌++◌, map, inl, refl, sym, ◌∙◌}
use Rattle.golf_theory.specs.Membership.{In}
use Rattle.golf_data.specs.declared.code.Code.{Code}
use Rattle.golf_data.specs.declared.code.Instr.{Instr}
use Rattle.golf_model.specs.State.{State}
use Rattle.golf_model.specs.Reach.{reach}
use Rattle.golf_model.specs.Runs.{stops}
use Rattle.golf_model.specs.LiveSet.{dead, live_list}
use Rattle.golf_model.proofs.Examples.Writing.{after, code_with, function, new_channel, turns, lowest, second}
use Rattle.golf_explore_laws.specs.Laws.{NeverLeaks, NeverReports}

-- function 1 receives from a channel that only its own goroutine has
abbrev leaking : Code
leaking =
    code_with []
    (function 0 0 1 (new_channel 0 ++ (Instr.Go 1 1 ∷ Instr.Collect ∷ Instr.Return ∷ []))
    ∷ function 1 1 11 (Instr.Load 0 ∷ Instr.Receive ∷ Instr.Drop ∷ Instr.Return ∷ [])
    ∷ [])

leaker_is_dead : dead (after leaking (lowest 3 ++ second 2)) ≡ 2 ∷ []
unfolding reach live_list
leaker_is_dead = refl

pub leaking_leaks : NeverLeaks leaking → ⊥
leaking_leaks never = let h = sym leaker_is_dead ∙ never (turns (lowest 3 ++ second 2)) refl in cc

found_dead : map dead (stops leaking (turns (lowest 3 ++ (second 2 ++ lowest 1)))) ≡ (2 ∷ []) ∷ []
unfolding reach live_list
found_dead = refl

none-dead : (ps : List State) → ((p : State) → In p ps → dead p ≡ []) → map dead ps ≡ (2 ∷ []) ∷ [] → ⊥
none-dead [] never h = cc
none-dead (p ∷ ps) never h = let e = never p (inl refl) in let f : dead p ≡ 2 ∷ [] = cc in let g = sym f ∙ e in cc

pub leaking_is_reported : NeverReports leaking → ⊥
leaking_is_reported never = none-dead (stops leaking (turns (lowest 3 ++ (second 2 ++ lowest 1))))
    (never (turns (lowest 3 ++ (second 2 ++ lowest 1)))) found_dead
