-- How a blocked goroutine goes on, in terms of the definitions.
use Rattle.golf_model.specs.Views.{GoroutineView}
use Rattle.golf_model.specs.Wakes.{released, resumed, unwound}
use Rattle.golf_state.specs.declared.frames.Wakening.{Wakening}
use Rattle.golf_state.specs.Looked.{values_of}

abbrev pub wakened : Wakening → GoroutineView → GoroutineView
wakened Wakening.Released r = released r
wakened (Wakening.Served wait given) r = resumed wait (values_of given) r
wakened (Wakening.Unwound x) r = unwound x r
