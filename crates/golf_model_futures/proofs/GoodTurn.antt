-- Each instruction, and each turn, moves what its goroutine refers to.
-- For: `changes`, `turn_changes`, golf_model/specs/Turn.antt; `Sound`, specs/Invariant.antt
-- By: cases of the instruction; no induction
use Rattle.std.proofs.Common.{◌≡◌, ℕ, true, false, cond, List, [], ◌∷◌, Option, Some, None, refl, subst, ◌==◌}
use Rattle.std.specs.Prelude.{pos, int_lt, int_le}
use Rattle.std.proofs.lemmas.Bool.{eqb-true}
use Rattle.golf_theory.specs.Membership.{Every}
use Rattle.golf_theory.specs.Maps.{find}
use Rattle.golf_theory.proofs.MapEntries.{Entry-find}
use Rattle.golf_data.specs.declared.value.Value.{Value}
use Rattle.golf_data.specs.declared.value.Object.{Object}
use Rattle.golf_data.specs.declared.code.Code.{Code}
use Rattle.golf_data.specs.declared.code.Instr.{Instr}
use Rattle.golf_data.specs.declared.code.CodeLine.{CodeLine}
use Rattle.golf_data.specs.declared.goroutine.Leaving.{Leaving}
use Rattle.golf_data.specs.declared.goroutine.PanicKind.{PanicKind}
use Rattle.golf_model.specs.Views.{FrameView, GoroutineView}
use Rattle.golf_model.specs.Values.{text_of, line_bytes}
use Rattle.golf_model.specs.State.{State}
use Rattle.golf_model.specs.Changes.{Change}
use Rattle.golf_model.specs.Actors.{Actor}
use Rattle.golf_model.specs.Arithmetic.{sum, difference, product, quotient, remainder}
use Rattle.golf_model.specs.Collections.{is_setting}
use Rattle.golf_model.specs.Turn.{prints, panics_with, changes, line_at, return_line, acting, performs, frame_changes}
use Rattle.golf_model.specs.Turn.{goroutine_changes, turn_of, turn_changes}
use Rattle.golf_model.specs.Refs.{frames_refs, goroutine_refs, leaving_refs}
use Rattle.golf_model.specs.Finalisers.{begins_queued}
use Rattle.golf_model.specs.Calls.{leaves_returning, leaves_unwinding}
use Rattle.golf_model_futures.specs.Invariant.{AllGood, Sound, ActorIn, Unfinalised}
use Rattle.golf_model_futures.proofs.RefLaws.{frames-head, frames-tail, goroutine-frames}
use Rattle.golf_model_futures.proofs.Goodness.{good-sound}
use Rattle.golf_model_futures.proofs.Acting.{Ground, all-on_some, all-taking_one, all-taking, good-goes, good-jumps}
use Rattle.golf_model_futures.proofs.Acting.{good-panics}
use Rattle.golf_model_futures.proofs.GoodCalculating.{good-pushes, good-loads, good-stores, good-loads_global}
use Rattle.golf_model_futures.proofs.GoodCalculating.{good-stores_global, good-drops, good-doubles, good-doubles_two}
use Rattle.golf_model_futures.proofs.GoodCalculating.{good-negates, good-inverts, good-computes, good-divides}
use Rattle.golf_model_futures.proofs.GoodCalculating.{good-compares, good-equates, good-jumps_unless}
use Rattle.golf_model_futures.proofs.GoodStructures.{good-gets_field, good-sets_field, good-gets_element}
use Rattle.golf_model_futures.proofs.GoodStructures.{good-sets_element, good-measures, sound-makes, sound-makes_struct}
use Rattle.golf_model_futures.proofs.GoodStructures.{sound-makes_slice, sound-makes_channel, sound-makes_condition}
use Rattle.golf_model_futures.proofs.GoodChannels.{good-sends, good-receives, good-closes, good-selects}
use Rattle.golf_model_futures.proofs.GoodSync.{good-locks, good-unlocks, good-adds, good-waits, good-write_locks}
use Rattle.golf_model_futures.proofs.GoodSync.{good-write_unlocks, good-read_locks, good-read_unlocks, good-gets_mutex}
use Rattle.golf_model_futures.proofs.GoodSync.{good-awaits, good-signals, good-broadcasts}
use Rattle.golf_model_futures.proofs.GoodCalls.{good-calls, good-spawns, good-defers, good-returns, good-returns_value}
use Rattle.golf_model_futures.proofs.GoodCalls.{good-leaves_returning, good-leaves_unwinding, sound-finalises}
use Rattle.golf_model_futures.proofs.GoodCalls.{good-unfinalises, good-begins_queued}

module _ (O G F : ℕ → Type 0) (code : Code) (s : State) (c : Ground s O G) where
  module _ (a : Actor) (i : ActorIn O G a) where
    good-prints : (k : ℕ) → AllGood O G (prints code a k)
    good-prints k = all-taking (AllGood O G) tt O k _ a.frame.operands i.frame.operands
        (λ vs rest h r. all-on_some (AllGood O G) tt _ (line_bytes code.texts vs)
        (λ bytes e. (tt, good-goes O G a i rest r)))

    good-panics_with : AllGood O G (panics_with a)
    good-panics_with = all-taking_one (AllGood O G) tt O _ a.frame.operands i.frame.operands
        (λ x rest h r. all-on_some (AllGood O G) tt _ (text_of x) (λ k e. good-panics O G a i (PanicKind.Custom k)))

    good : (cs : List Change) → AllGood O G cs → Sound O G F s.last_object cs
    good cs h = good-sound O G F s.last_object cs h

    -- one line for each instruction
    pub sound_changes : (k : Instr) (choice : ℕ) → (is_setting k ≡ true → (o : ℕ) → Unfinalised s o → F o)
        → Sound O G F s.last_object (changes code k a choice s)
    sound_changes (Instr.Int m) choice allowed =
        good (changes code (Instr.Int m) a choice s) (good-pushes O G s c a i (Value.Int m) tt)
    sound_changes (Instr.Bool b) choice allowed =
        good (changes code (Instr.Bool b) a choice s) (good-pushes O G s c a i (Value.Bool b) tt)
    sound_changes (Instr.Text k) choice allowed =
        good (changes code (Instr.Text k) a choice s) (good-pushes O G s c a i (Value.Text k) tt)
    sound_changes Instr.Unit choice allowed =
        good (changes code Instr.Unit a choice s) (good-pushes O G s c a i Value.Unit tt)
    sound_changes Instr.Nil choice allowed =
        good (changes code Instr.Nil a choice s) (good-pushes O G s c a i Value.Nil tt)
    sound_changes (Instr.Load k) choice allowed =
        good (changes code (Instr.Load k) a choice s) (good-loads O G s c a i k)
    sound_changes (Instr.Store k) choice allowed =
        good (changes code (Instr.Store k) a choice s) (good-stores O G s c a i k)
    sound_changes (Instr.LoadGlobal k) choice allowed =
        good (changes code (Instr.LoadGlobal k) a choice s) (good-loads_global O G s c a i k)
    sound_changes (Instr.StoreGlobal k) choice allowed =
        good (changes code (Instr.StoreGlobal k) a choice s) (good-stores_global O G s c a i k)
    sound_changes Instr.Drop choice allowed = good (changes code Instr.Drop a choice s) (good-drops O G s c a i)
    sound_changes Instr.Dup choice allowed = good (changes code Instr.Dup a choice s) (good-doubles O G s c a i)
    sound_changes Instr.Dup2 choice allowed = good (changes code Instr.Dup2 a choice s) (good-doubles_two O G s c a i)
    sound_changes Instr.Neg choice allowed = good (changes code Instr.Neg a choice s) (good-negates O G s c a i)
    sound_changes Instr.Not choice allowed = good (changes code Instr.Not a choice s) (good-inverts O G s c a i)
    sound_changes Instr.Add choice allowed = good (changes code Instr.Add a choice s) (good-computes O G s c a i sum)
    sound_changes Instr.Sub choice allowed =
        good (changes code Instr.Sub a choice s) (good-computes O G s c a i difference)
    sound_changes Instr.Mul choice allowed =
        good (changes code Instr.Mul a choice s) (good-computes O G s c a i product)
    sound_changes Instr.Div choice allowed =
        good (changes code Instr.Div a choice s) (good-divides O G s c a i quotient)
    sound_changes Instr.Rem choice allowed =
        good (changes code Instr.Rem a choice s) (good-divides O G s c a i remainder)
    sound_changes Instr.Eq choice allowed = good (changes code Instr.Eq a choice s) (good-equates O G s c a i)
    sound_changes Instr.Less choice allowed =
        good (changes code Instr.Less a choice s) (good-compares O G s c a i int_lt)
    sound_changes Instr.AtMost choice allowed =
        good (changes code Instr.AtMost a choice s) (good-compares O G s c a i int_le)
    sound_changes (Instr.Jump target) choice allowed =
        good (changes code (Instr.Jump target) a choice s) (good-jumps O G a i target a.frame.operands i.frame.operands)
    sound_changes (Instr.JumpIfNot target) choice allowed =
        good (changes code (Instr.JumpIfNot target) a choice s) (good-jumps_unless O G s c a i target)
    sound_changes (Instr.NewStruct t) choice allowed = sound-makes_struct O G s c a i F code t
    sound_changes Instr.NewMutex choice allowed =
        sound-makes O G s c a i F (Object.Mutex false) a.frame.operands tt i.frame.operands
    sound_changes Instr.NewGroup choice allowed =
        sound-makes O G s c a i F (Object.Group (pos 0)) a.frame.operands tt i.frame.operands
    sound_changes Instr.NewRw choice allowed =
        sound-makes O G s c a i F (Object.Rw (pos 0)) a.frame.operands tt i.frame.operands
    sound_changes Instr.NewCond choice allowed = sound-makes_condition O G s c a i F
    sound_changes (Instr.Field k) choice allowed =
        good (changes code (Instr.Field k) a choice s) (good-gets_field O G s c a i k)
    sound_changes (Instr.SetField k) choice allowed =
        good (changes code (Instr.SetField k) a choice s) (good-sets_field O G s c a i k)
    sound_changes (Instr.NewSlice zero) choice allowed = sound-makes_slice O G s c a i F zero
    sound_changes (Instr.NewChan zero) choice allowed = sound-makes_channel O G s c a i F zero
    sound_changes Instr.Index choice allowed =
        good (changes code Instr.Index a choice s) (good-gets_element O G s c a i)
    sound_changes Instr.SetIndex choice allowed =
        good (changes code Instr.SetIndex a choice s) (good-sets_element O G s c a i)
    sound_changes Instr.Len choice allowed = good (changes code Instr.Len a choice s) (good-measures O G s c a i)
    sound_changes Instr.Send choice allowed = good (changes code Instr.Send a choice s) (good-sends O G s c a i)
    sound_changes Instr.Receive choice allowed =
        good (changes code Instr.Receive a choice s) (good-receives O G s c a i false)
    sound_changes Instr.ReceiveOk choice allowed =
        good (changes code Instr.ReceiveOk a choice s) (good-receives O G s c a i true)
    sound_changes Instr.Close choice allowed = good (changes code Instr.Close a choice s) (good-closes O G s c a i)
    sound_changes (Instr.Select cases otherwise) choice allowed =
        good (changes code (Instr.Select cases otherwise) a choice s) (good-selects O G s c a i choice cases otherwise)
    sound_changes Instr.Lock choice allowed = good (changes code Instr.Lock a choice s) (good-locks O G s c a i)
    sound_changes Instr.Unlock choice allowed = good (changes code Instr.Unlock a choice s) (good-unlocks O G s c a i)
    sound_changes Instr.GroupAdd choice allowed = good (changes code Instr.GroupAdd a choice s) (good-adds O G s c a i)
    sound_changes Instr.GroupWait choice allowed =
        good (changes code Instr.GroupWait a choice s) (good-waits O G s c a i)
    sound_changes Instr.RwLock choice allowed =
        good (changes code Instr.RwLock a choice s) (good-write_locks O G s c a i)
    sound_changes Instr.RwUnlock choice allowed =
        good (changes code Instr.RwUnlock a choice s) (good-write_unlocks O G s c a i)
    sound_changes Instr.ReadLock choice allowed =
        good (changes code Instr.ReadLock a choice s) (good-read_locks O G s c a i)
    sound_changes Instr.ReadUnlock choice allowed =
        good (changes code Instr.ReadUnlock a choice s) (good-read_unlocks O G s c a i)
    sound_changes Instr.CondMutex choice allowed =
        good (changes code Instr.CondMutex a choice s) (good-gets_mutex O G s c a i)
    sound_changes Instr.CondWait choice allowed =
        good (changes code Instr.CondWait a choice s) (good-awaits O G s c a i)
    sound_changes Instr.CondSignal choice allowed =
        good (changes code Instr.CondSignal a choice s) (good-signals O G s c a i)
    sound_changes Instr.CondBroadcast choice allowed =
        good (changes code Instr.CondBroadcast a choice s) (good-broadcasts O G s c a i)
    sound_changes (Instr.Call f k) choice allowed =
        good (changes code (Instr.Call f k) a choice s) (good-calls O G s c a i code f k)
    sound_changes (Instr.Go f k) choice allowed =
        good (changes code (Instr.Go f k) a choice s) (good-spawns O G s c a i code f k)
    sound_changes (Instr.Defer f k) choice allowed =
        good (changes code (Instr.Defer f k) a choice s) (good-defers O G s c a i f k)
    sound_changes Instr.Return choice allowed = good (changes code Instr.Return a choice s) (good-returns O G s c a i)
    sound_changes Instr.ReturnValue choice allowed =
        good (changes code Instr.ReturnValue a choice s) (good-returns_value O G s c a i)
    sound_changes (Instr.Print k) choice allowed = good (changes code (Instr.Print k) a choice s) (good-prints k)
    sound_changes Instr.Collect choice allowed =
        good (changes code Instr.Collect a choice s) (good-goes O G a i a.frame.operands i.frame.operands)
    sound_changes (Instr.SetFinalizer f) choice allowed = sound-finalises O G s c a i F (λ o h. allowed refl o h) f
    sound_changes Instr.ClearFinalizer choice allowed =
        good (changes code Instr.ClearFinalizer a choice s) (good-unfinalises O G s c a i)
    sound_changes Instr.Panic choice allowed = good _ good-panics_with

  -- a finaliser is set if the code can do so
  abbrev pub Allows : Type 0
  Allows = (f at : ℕ) (l : CodeLine) → line_at code f at ≡ Some l → is_setting l.instr ≡ true → (o : ℕ)
      → Unfinalised s o → F o

  module _ (allows : Allows) where
    module _ (g : ℕ) (j : G g) (r : GoroutineView) (e : Every O (goroutine_refs r)) where
      acting-in : (f : FrameView) (fs : List FrameView) (line : ℕ) → Every O (frames_refs (f ∷ fs))
          → ActorIn O G (acting g r f fs line)
      acting-in f fs line h = record { number = j; frame = frames-head O f fs h; callers = frames-tail O f fs h }

      sound-performs : (f : FrameView) (fs : List FrameView) (choice : ℕ) (m : Option CodeLine)
          → line_at code f.function f.at ≡ m → Every O (frames_refs (f ∷ fs))
          → Sound O G F s.last_object (performs code g r f fs choice s m)
      sound-performs f fs choice None is h = tt
      sound-performs f fs choice (Some l) is h =
          sound_changes (acting g r f fs l.line) (acting-in f fs l.line h) l.instr choice (allows f.function f.at l is)

      sound-frame : (f : FrameView) (fs : List FrameView) (choice : ℕ) (leaving : Leaving) → f.leaving ≡ leaving
          → Every O (frames_refs (f ∷ fs)) → Sound O G F s.last_object (frame_changes code g r f fs choice s leaving)
      sound-frame f fs choice Leaving.No is h = sound-performs f fs choice (line_at code f.function f.at) refl h
      sound-frame f fs choice (Leaving.Returning v) is h =
          let i = acting-in f fs (return_line code f) h in
          good-sound O G F s.last_object (leaves_returning code (acting g r f fs (return_line code f)) v f.deferred)
          (good-leaves_returning O G s c (acting g r f fs (return_line code f)) i code v f.deferred
          (subst (λ x. Every O (leaving_refs x)) is i.frame.leaving) i.frame.deferred)
      sound-frame f fs choice (Leaving.Unwinding x) is h =
          let i = acting-in f fs x.line h in
          good-sound O G F s.last_object (leaves_unwinding code (acting g r f fs x.line) x f.deferred)
          (good-leaves_unwinding O G s c (acting g r f fs x.line) i code x f.deferred i.frame.deferred)

      sound-goroutine : (choice : ℕ) (fs : List FrameView) → Every O (frames_refs fs)
          → Sound O G F s.last_object (goroutine_changes code g r choice s fs)
      sound-goroutine choice [] h = elim (g == 0) as (λ b. g == 0 ≡ b
          → Sound O G F s.last_object (cond b (begins_queued code r s.queue) [])) [
            | true ↦ λ t. good-sound O G F s.last_object (begins_queued code r s.queue)
                (good-begins_queued O G code r s.queue (subst G (eqb-true g 0 t) j) e c.queue)
            | false ↦ λ t. tt
          ] refl
      sound-goroutine choice (f ∷ fs) h = sound-frame f fs choice f.leaving refl h

    sound-turn_of : (g choice : ℕ) → G g → (m : Option GoroutineView)
        → ((r : GoroutineView) → m ≡ Some r → Every O (goroutine_refs r))
        → Sound O G F s.last_object (turn_of code g choice s m)
    sound-turn_of g choice j None h = tt
    sound-turn_of g choice j (Some r) h = sound-goroutine g j r (h r refl) choice r.frames
        (goroutine-frames O r (h r refl))

    -- the turn of a member
    pub sound_turn : (choice : ℕ) (m : Option ℕ) → ((g : ℕ) → m ≡ Some g → G g)
        → Sound O G F s.last_object (turn_changes code choice s m)
    sound_turn choice None h = tt
    sound_turn choice (Some g) h = sound-turn_of g choice (h g refl) (find g s.goroutines)
        (λ r e. c.goroutines g r (h g refl) (Entry-find g s.goroutines r e))
