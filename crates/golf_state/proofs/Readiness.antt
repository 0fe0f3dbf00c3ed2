-- Goroutines that can be woken without more memory.
-- For: `AllReady` (golf_state_goroutines/specs/Ready.antt) and `HasRoom` (golf_state_goroutines/specs/Roominess.antt)
-- By: induction over the list of places
use Rattle.std.proofs.Common.{◌≡◌, ℕ, suc, ◌-◌, ◌≤◌, true, false, cond, List, [], ◌∷◌, ◌++◌, length, Some, ◌==◌}
use Rattle.std.proofs.Common.{refl, sym, ap, ◌∙◌, subst, arith, slice_get, slice_set}
use Rattle.std.proofs.lemmas.List.{length-set}
use Rattle.std.proofs.lemmas.Option.{slice_get_within}
use Rattle.golf_data.specs.declared.goroutine.Frame.{Frame}
use Rattle.golf_data.specs.declared.goroutine.Mode.{Mode}
use Rattle.golf_model.specs.Views.{GoroutineView}
use Rattle.golf_model.specs.State.{is_running}
use Rattle.golf_theory.specs.Maps.{find, put}
use Rattle.golf_theory.proofs.Readings.{set-here}
use Rattle.golf_state_goroutines.specs.Places.{running_of}
use Rattle.golf_state_goroutines.specs.Ready.{HasRoomToWake, AllReady}
use Rattle.golf_state_goroutines.specs.Roominess.{HasRoom, HasRoomIn, IsReadyIn}
use Rattle.golf_state.specs.Wakenings.{wakened}
use Rattle.golf_state.specs.declared.frames.Wakening.{Wakening}
use Rattle.golf_data.specs.declared.goroutine.Goroutine.{Goroutine}

-- the innermost frame was changed
pub room-set : (fs : List Frame) (f w : Frame) → slice_get fs (length fs - 1) ≡ Some f → 2 ≤ w.values.spare
    → HasRoom (slice_set fs (length fs - 1) w)
room-set fs f w at l =
    let within = slice_get_within fs (length fs - 1) f at in
    let same : slice_get (slice_set fs (length fs - 1) w) (length (slice_set fs (length fs - 1) w) - 1) ≡ Some w =
    ap (λ n. slice_get (slice_set fs (length fs - 1) w) (n - 1)) (length-set fs (length fs - 1) w)
    ∙ set-here fs (length fs - 1) w within in
    subst HasRoomIn (sym same) l

pub running-ready : (m : Mode) (fs : List Frame) → is_running m ≡ true → IsReadyIn m fs
running-ready Mode.Running fs h = tt
running-ready (Mode.Blocked kind line waits ticket) fs h = cc

pub blocked-room : (m : Mode) (fs : List Frame) → is_running m ≡ false → IsReadyIn m fs → HasRoom fs
blocked-room Mode.Running fs h r = cc
blocked-room (Mode.Blocked kind line waits ticket) fs h r = r

pub ready-at : (ps : List (ℕ × Goroutine)) (g : ℕ) (x : Goroutine) → AllReady ps → find g ps ≡ Some x
    → IsReadyIn x.mode x.frames
ready-at [] g x r h = cc
ready-at (p ∷ ps) g x r h = elim (g == p.0) as (λ b. cond b (Some p.1) (find g ps) ≡ Some x
    → IsReadyIn x.mode x.frames) [
      | true ↦ λ i. let same : p.1 ≡ x = cc in subst (λ (y : Goroutine). IsReadyIn y.mode y.frames) same r.0
      | false ↦ λ i. ready-at ps g x r.1 i
    ] h

pub ready-put : (ps : List (ℕ × Goroutine)) (g : ℕ) (x : Goroutine) → AllReady ps → IsReadyIn x.mode x.frames
    → AllReady (put g x ps)
ready-put [] g x r h = tt
ready-put (p ∷ ps) g x r h = (
  elim (g == p.0) as (λ b. HasRoomToWake (p.0, cond b x p.1)) [
    | true ↦ h
    | false ↦ r.0
  ],
  ready-put ps g x r.1 h,
)

pub ready-push : (ps : List (ℕ × Goroutine)) (q : ℕ × Goroutine) → AllReady ps → HasRoomToWake q
    → AllReady (ps ++ q ∷ [])
ready-push [] q r h = (h, tt)
ready-push (p ∷ ps) q r h = (r.0, ready-push ps q r.1 h)

pub wakened-runs : (how : Wakening) (r : GoroutineView) → is_running (wakened how r).mode ≡ true
wakened-runs Wakening.Released r = refl
wakened-runs (Wakening.Served wait given) r = refl
wakened-runs (Wakening.Unwound x) r = refl

-- no more run than there are
pub running-few : (es : List (ℕ × GoroutineView)) → length (running_of es) ≤ length es
running-few [] = omega arith
running-few (e ∷ es) = let h = running-few
    es in elim (is_running e.1.mode) as (λ b. length (cond b (e.0 ∷ running_of es) (running_of es)) ≤ suc (length es)) [
      | true ↦ omega arith
      | false ↦ omega arith
    ]
