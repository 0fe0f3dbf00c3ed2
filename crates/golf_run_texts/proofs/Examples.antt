-- Texts and the writes of a small run, worked out by hand.
use Rattle.std.proofs.Common.{◌≡◌, refl, ℕ, true, false, List, [], ◌∷◌, ◌++◌, replicate, None}
use Rattle.std.specs.Prelude.{codes}
use Rattle.std.specs.Fmt.{digits}
use Rattle.golf_data.specs.declared.code.Code.{Code}
use Rattle.golf_data.specs.declared.code.Instr.{Instr}
use Rattle.golf_data.specs.declared.value.Value.{Value}
use Rattle.golf_model.specs.LiveSet.{live_list}
use Rattle.golf_model.specs.Reach.{reach}
use Rattle.golf_model.proofs.Examples.Writing.{function, push, new_channel, code_with, lowest, second}
use Rattle.golf_cert.specs.ComputedLevels.{within, least_in_order, level_in, least_before, places_to, reason_to}
use Rattle.golf_why.specs.Explanations.{certificate_size, reached_in}
use Rattle.golf_run_schedules.specs.declared.options.RunOptions.{RunOptions}
use Rattle.golf_run_schedules.specs.declared.schedule.Schedule.{Schedule}
use Rattle.golf_run_texts.specs.Output.{events_of, last_of, end_of}
use Rattle.golf_run_texts.specs.Texts.{history_line}
use Rattle.golf_run_texts.specs.Writes.{Write, event_writes_of, writes_of}

-- it prints, leaves a goroutine after, collects and prints again
abbrev leak : Code
leak =
    code_with []
    (function 0 0 1 (push 1 ∷ Instr.Print 1
    ∷ (new_channel 0 ++ (Instr.Go 1 1 ∷ Instr.Collect ∷ push 2 ∷ Instr.Print 1 ∷ Instr.Return ∷ [])))
    ∷ function 1 1 11 (Instr.Load 0 ∷ Instr.Receive ∷ Instr.Drop ∷ Instr.Return ∷ [])
    ∷ [])

-- goroutine 2 comes to its wait before the collection
abbrev choices : RunOptions
choices = record {
  schedule = Schedule.Choices (lowest 5 ++ (second 2 ++ lowest 4));
  turns = 100;
  every = None;
  markers = 1;
  recover = true;
  why = false;
}

abbrev silent : ℕ → List Write
silent n = replicate n (Write.ToOut [])

pub leak_writes : writes_of leak choices
    ≡ silent 1 ++ (Write.ToOut (codes "1\n") ∷ silent 6
    ++ (Write.ToErr (codes "collection 1: marked 0, reported 1, kept 0, reclaimed 1, objects 0\n")
    ∷ Write.ToErr (codes "goroutine 2: chan receive at line 12, started at line 5\n")
    ∷ silent 1
    ++ (Write.ToOut (codes "2\n") ∷ silent 1
    ++ (Write.ToErr [] ∷ []))))
unfolding event_writes_of writes_of events_of last_of end_of reach live_list digits
leak_writes = refl

-- goroutine 2 waits on a channel that a global holds
abbrev held : Code
held =
    code_with (Value.Nil ∷ [])
    (function 0 0 1 (new_channel 0 ++ (Instr.StoreGlobal 0 ∷ Instr.LoadGlobal 0 ∷ Instr.Go 1 1 ∷ Instr.Collect
    ∷ Instr.Return ∷ []))
    ∷ function 1 1 11 (Instr.Load 0 ∷ Instr.Receive ∷ Instr.Drop ∷ Instr.Return ∷ [])
    ∷ [])

abbrev asked : RunOptions
asked = record {
  schedule = Schedule.Choices (lowest 5 ++ (second 2 ++ lowest 2));
  turns = 100;
  every = None;
  markers = 1;
  recover = false;
  why = true;
}

pub held_writes : writes_of held asked
    ≡ silent 8 ++ (Write.ToErr (codes "collection 1: marked 1, reported 0, kept 0, reclaimed 0, objects 1\n")
    ∷ Write.ToErr (codes "certificate 1: 2 places\n")
    ∷ Write.ToErr (codes "goroutine 2: chan receive at line 12, reached by object 1\n")
    ∷ silent 1) ++ (Write.ToErr [] ∷ [])
unfolding event_writes_of writes_of events_of last_of end_of reach live_list digits certificate_size reached_in
    least_in_order within level_in least_before places_to reason_to
held_writes = refl

pub three_turns : history_line (0 ∷ 10 ∷ 2 ∷ []) ≡ codes "history: 0,10,2\n"
unfolding history_line digits
three_turns = refl

pub no_turn : history_line [] ≡ codes "history: \n"
unfolding history_line
no_turn = refl
