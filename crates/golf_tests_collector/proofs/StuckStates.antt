-- The state of the tests has its numbers in order, and refers to what is there.
-- For: `stuck_state`, src/collections/states.rt
-- By: computing
use Rattle.std.proofs.Common.{◌≡◌, ℕ, ◌+◌, false, List, [], ◌∷◌, None, inl, refl, ap, ◌∙◌, arith}
use Rattle.golf_theory.specs.Membership.{Every}
use Rattle.golf_theory.proofs.MapEntries.{Entry-Every}
use Rattle.golf_data.specs.declared.value.Object.{Object}
use Rattle.golf_data.specs.declared.value.Value.{Value}
use Rattle.golf_data.specs.declared.goroutine.Mode.{Mode}
use Rattle.golf_data.specs.declared.goroutine.Side.{Side}
use Rattle.golf_data.specs.declared.goroutine.Wait.{Wait}
use Rattle.golf_data.specs.declared.goroutine.WaitKind.{WaitKind}
use Rattle.golf_model.specs.Changes.{make, block, spawn}
use Rattle.golf_model.specs.Futures.{Numbered}
use Rattle.golf_model.specs.Views.{FrameView, GoroutineView}
use Rattle.golf_model.specs.Presence.{Present, IsWhole}
use Rattle.golf_model.specs.Refs.{object_refs, goroutine_refs}
use Rattle.golf_model.specs.State.{State}
use Rattle.golf_state.specs.Looked.{looked_up, advanced, opening}

abbrev pub channel_of : List Value → Object
channel_of buffer = Object.Chan (record { capacity = 0; buffer = buffer; closed = false; zero = Value.Nil })

abbrev pub started_at_3 : List FrameView → GoroutineView
started_at_3 frames = record { frames = frames; mode = Mode.Running; started = 3 }

abbrev pub receive_from : ℕ → Wait
receive_from o = record {
  object = record { 0 = o };
  side = Side.Receive;
  value = Value.Nil;
  target = None;
  with_ok = false;
}

abbrev pub blocked : ℕ → List Wait → State → State
blocked g waits s = looked_up g (λ r. block g WaitKind.Receive 5 waits (advanced 0 0 r)) s

abbrev pub stuck : State
stuck = blocked 2 (receive_from 1 ∷ []) (spawn (started_at_3 []) (make (channel_of []) (opening [] [] 1)))

-- the states one after another: opened, with the channel, with the goroutine, and with it blocked; and what each was
-- made of
pub record IsBuilt (globals : List Value) (first second : List FrameView) (buffer : List Value) (waits : List Wait)
    (g o : ℕ) (s0 s1 s2 s3 : State) : Type 0 where
  pub no_globals : globals ≡ []
  pub no_first : first ≡ []
  pub no_second : second ≡ []
  pub no_buffer : buffer ≡ []
  pub one_wait : waits ≡ receive_from o ∷ []
  pub opened : s0 ≡ opening globals first 1
  pub channel : s1 ≡ make (channel_of buffer) s0
  pub object : o ≡ s0.last_object + 1
  pub goroutine : s2 ≡ spawn (started_at_3 second) s1
  pub number : g ≡ s1.next_goroutine
  pub stands : s3 ≡ blocked g waits s2

pub stuck-is : {globals : List Value} {first second : List FrameView} {buffer : List Value} {waits : List Wait}
    {g o : ℕ} {s0 s1 s2 s3 : State} → IsBuilt globals first second buffer waits g o s0 s1 s2 s3 → s3 ≡ stuck
stuck-is {first = first} {waits = waits} {g} {o} {s0} {s1} {s2} b =
    let at0 : s0 ≡ opening [] [] 1 = b.opened ∙ ap (λ (vs : List Value). opening vs first 1) b.no_globals
    ∙ ap (λ (fs : List FrameView). opening [] fs 1) b.no_first in
    let at1 : s1 ≡ make (channel_of []) (opening [] [] 1) = b.channel
    ∙ ap (λ (vs : List Value). make (channel_of vs) s0) b.no_buffer ∙ ap (make (channel_of [])) at0 in
    let at2 : s2 ≡ spawn (started_at_3 []) (make (channel_of []) (opening [] [] 1)) = b.goroutine
    ∙ ap (λ (fs : List FrameView). spawn (started_at_3 fs) s1) b.no_second ∙ ap (spawn (started_at_3 [])) at1 in
    let object : o ≡ 1 = b.object ∙ ap (λ (s : State). s.last_object + 1) at0 in
    let who : g ≡ 2 = b.number ∙ ap (λ (s : State). s.next_goroutine) at1 in
    b.stands ∙ ap (λ (s : State). blocked g waits s) at2
    ∙ ap (λ (k : ℕ). blocked k waits (spawn (started_at_3 []) (make (channel_of []) (opening [] [] 1)))) who
    ∙ ap (λ (ws : List Wait). blocked 2 ws (spawn (started_at_3 []) (make (channel_of []) (opening [] [] 1))))
    (b.one_wait ∙ ap (λ (k : ℕ). receive_from k ∷ []) object)

pub stuck-numbered : Numbered stuck
stuck-numbered = record {
  objects_rise = (omega arith, tt);
  objects_below = (omega arith, tt);
  finalisers_rise = tt;
  finalisers_below = tt;
  goroutines_rise = (omega arith, (omega arith, (omega arith, tt)));
  goroutines_below = (omega arith, (omega arith, (omega arith, tt)));
  globals = tt;
  queue = tt;
  in_objects = (tt, tt);
  in_goroutines = (tt, (tt, ((omega arith, tt), tt)));
}

pub stuck-whole : IsWhole stuck
stuck-whole = record {
  globals = tt;
  queue = tt;
  finalised = λ o f h. absurd h;
  objects = Entry-Every (λ o x. Every (Present stuck) (object_refs x)) stuck.objects (tt, tt);
  goroutines = Entry-Every (λ g r. Every (Present stuck) (goroutine_refs r)) stuck.goroutines
      (tt, (tt, ((inl refl, tt), tt)));
}
