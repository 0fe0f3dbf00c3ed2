-- The goroutine after its innermost frame was cleared.
use Rattle.golf_data.specs.declared.code.Code.{Code}
use Rattle.golf_data.specs.declared.goroutine.Mode.{Mode}
use Rattle.golf_model.specs.Views.{GoroutineView}
use Rattle.golf_model.specs.Wakes.{on_top}
use Rattle.golf_model.specs.ClearedSlots.{cleared}

abbrev pub tidied_in : Code → GoroutineView → Mode → GoroutineView
tidied_in code r Mode.Running = record r { frames = on_top (cleared code) r.frames }
tidied_in code r (Mode.Blocked kind line waits ticket) = r

-- if it runs, its innermost frame is cleared
abbrev pub tidied : Code → GoroutineView → GoroutineView
tidied code r = tidied_in code r r.mode
