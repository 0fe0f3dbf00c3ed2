-- A frame-local turn reads the frames of its goroutine alone, and changes nothing else.
-- For: `local_instructions` and `local_turns`, src/lib.rt; `is_local` and `IsLocal`, specs/Local.antt
-- By: cases of the instruction and of its operands; induction over the operands that a deferred call takes
use Rattle.std.proofs.Common.{◌≡◌, ℕ, zero, suc, ◌/◌, Bool, true, false, not, ◌||◌, List, [], ◌∷◌, length, Option}
use Rattle.std.proofs.Common.{Some, None, option_and_then, inl, inr, refl, sym, ap, ◌∙◌, subst, ℤ, slice_get}
use Rattle.golf_theory.specs.Maps.{find, IsRising}
use Rattle.golf_theory.proofs.MapFinds.{find-put, put-put, find-Entry}
use Rattle.golf_theory.proofs.MapKeys.{keys_where-put_same}
use Rattle.golf_data.specs.declared.value.Value.{Value}
use Rattle.golf_data.specs.declared.code.Code.{Code}
use Rattle.golf_data.specs.declared.code.Instr.{Instr}
use Rattle.golf_data.specs.declared.code.CodeLine.{CodeLine}
use Rattle.golf_data.specs.declared.goroutine.Deferred.{Deferred}
use Rattle.golf_data.specs.declared.goroutine.Fault.{Fault}
use Rattle.golf_data.specs.declared.goroutine.Leaving.{Leaving}
use Rattle.golf_data.specs.declared.goroutine.Mode.{Mode}
use Rattle.golf_data.specs.declared.goroutine.PanicKind.{PanicKind}
use Rattle.golf_model.specs.Views.{FrameView, GoroutineView}
use Rattle.golf_model.specs.State.{State, runnable, can_run, not_empty, call_frame, start}
use Rattle.golf_model.specs.Changes.{Change, become, output, apply_all}
use Rattle.golf_model.specs.Actors.{Actor, with_frames, next, stands, dies, leaves, on_some, taking_one, taking_two}
use Rattle.golf_model.specs.Actors.{taking_from, choose}
use Rattle.golf_model.specs.Calls.{is_full, enters, handed_back, returns_to, unwinds_to, returns_by, begins_deferred}
use Rattle.golf_model.specs.Calls.{leaves_returning, leaves_unwinding}
use Rattle.golf_model.specs.Wakes.{unwinding}
use Rattle.golf_model.specs.Arithmetic.{two_ints}
use Rattle.golf_model.specs.Values.{int_of, bool_of, text_of, line_bytes, equality, is_zero}
use Rattle.golf_model.specs.ClearedSlots.{cleared, clears, clearing}
use Rattle.golf_model.specs.Turn.{line_at, return_line, acting, performs, frame_changes, goroutine_changes}
use Rattle.golf_model.specs.Turn.{turn_of, turn_changes}
use Rattle.golf_model.specs.Turn.{is_collection, line_collects, frame_collects, frames_collect, goroutine_collects}
use Rattle.golf_model.specs.Turn.{whose_turn, step}
use Rattle.golf_explore_laws.specs.After.{silent}
use Rattle.golf_explore_laws.specs.Local.{instr_is_local, line_is_local, leaving_is_local, frame_is_local, printing}
use Rattle.golf_explore_laws.specs.Local.{StandsAlone, LocalInstructions, IsLocal, becomes, LocalTurns}
use Rattle.golf_explore_laws.proofs.Choices.{stepped}

not-true : (b : Bool) → not b ≡ true → b ≡ false
not-true true h = cc
not-true false h = refl

-- ---- the changes of an instruction

module _ (a : Actor) where
  alone : (f : FrameView) → StandsAlone a (stands a f)
  alone f = inr (None, f, a.callers, refl)

  on_some-alone : {X : Type 0} (act : X → List Change) (m : Option X) → ((x : X) → StandsAlone a (act x))
      → StandsAlone a (on_some act m)
  on_some-alone act None h = inl refl
  on_some-alone act (Some x) h = h x

  leaves-alone : (vs : List Value) (m : Option Value) → StandsAlone a (leaves a vs m)
  leaves-alone vs None = inl refl
  leaves-alone vs (Some v) = alone _

  one-alone : (act : Value → List Value → List Change) (vs : List Value)
      → ((v : Value) (rest : List Value) → StandsAlone a (act v rest)) → StandsAlone a (taking_one act vs)
  one-alone act [] h = inl refl
  one-alone act (v ∷ vs) h = h v vs

  two-alone : (act : Value → Value → List Value → List Change) (vs : List Value)
      → ((x y : Value) (rest : List Value) → StandsAlone a (act x y rest)) → StandsAlone a (taking_two act vs)
  two-alone act [] h = inl refl
  two-alone act (y ∷ []) h = inl refl
  two-alone act (y ∷ x ∷ vs) h = h x y vs

  from-alone : (n : ℕ) (taken vs : List Value) (act : List Value → List Value → List Change)
      → ((taken rest : List Value) → StandsAlone a (act taken rest)) → StandsAlone a (taking_from n taken act vs)
  from-alone zero taken vs act h = h taken vs
  from-alone (suc n) taken [] act h = inl refl
  from-alone (suc n) taken (v ∷ vs) act h = from-alone n (v ∷ taken) vs act h

  choose-alone : (b : Bool) (first second : List Change) → StandsAlone a first → StandsAlone a second
      → StandsAlone a (choose b first second)
  choose-alone true first second h k = h
  choose-alone false first second h k = k

  ints-alone : (act : ℤ → ℤ → List Value → List Change) (vs : List Value)
      → ((m n : ℤ) (rest : List Value) → StandsAlone a (act m n rest)) → StandsAlone a (two_ints act vs)
  ints-alone act vs h = two-alone _ vs (λ x y rest. on_some-alone _ (int_of x)
      (λ m. on_some-alone _ (int_of y) (λ n. h m n rest)))

  -- ---- frames that come and go

  enters-alone : (frames : List FrameView) (f : FrameView) → not (is_full frames) ≡ true
      → StandsAlone a (enters a frames f)
  enters-alone frames f h = subst (λ b. StandsAlone a (choose b (dies a PanicKind.StackOverflow)
      (Change.Become a.number (with_frames a (f ∷ frames)) ∷ []))) (sym (not-true (is_full frames) h))
      (inr (None, f, frames, refl))

  to-alone : (v : Option Value) (fs : List FrameView) → not_empty fs ≡ true → StandsAlone a (returns_to a v fs)
  to-alone v [] h = cc
  to-alone v (f ∷ fs) h = inr (None, handed_back a.frame.discards v f, fs, refl)

  unwinds-alone : (x : Fault) (fs : List FrameView) → not_empty fs ≡ true → StandsAlone a (unwinds_to a x fs)
  unwinds-alone x [] h = cc
  unwinds-alone x (f ∷ fs) h = inr (None, unwinding x f, fs, refl)

  by-alone : (v : Option Value) (rest : List Value) (ds : List Deferred)
      → (not_empty ds || not_empty a.callers) ≡ true → StandsAlone a (returns_by a v rest ds)
  by-alone v rest [] h = to-alone v a.callers h
  by-alone v rest (d ∷ ds) h = alone _

  begins-alone : (code : Code) (d : Deferred) (ds : List Deferred) → not (is_full (a.frame ∷ a.callers)) ≡ true
      → StandsAlone a (begins_deferred code a d ds)
  begins-alone code d ds h = on_some-alone _ (call_frame code d.function d.arguments true)
      (λ f. enters-alone (record a.frame { deferred = ds } ∷ a.callers) f h)

  returning-alone : (code : Code) (v : Option Value) (ds : List Deferred)
      → leaving_is_local ds a.frame a.callers ≡ true → StandsAlone a (leaves_returning code a v ds)
  returning-alone code v [] h = to-alone v a.callers h
  returning-alone code v (d ∷ ds) h = begins-alone code d ds h

  unwinding-alone : (code : Code) (x : Fault) (ds : List Deferred)
      → leaving_is_local ds a.frame a.callers ≡ true → StandsAlone a (leaves_unwinding code a x ds)
  unwinding-alone code x [] h = unwinds-alone x a.callers h
  unwinding-alone code x (d ∷ ds) h = begins-alone code d ds h

pub local-instructions : LocalInstructions
local-instructions code (Instr.Int n) a l choice other s t = (refl, alone a _)
local-instructions code (Instr.Bool b) a l choice other s t = (refl, alone a _)
local-instructions code (Instr.Text k) a l choice other s t = (refl, alone a _)
local-instructions code Instr.Unit a l choice other s t = (refl, alone a _)
local-instructions code Instr.Nil a l choice other s t = (refl, alone a _)
local-instructions code (Instr.Load i) a l choice other s t = (refl, leaves-alone a _ _)
local-instructions code (Instr.Store i) a l choice other s t =
    (refl, one-alone a _ a.frame.operands (λ v rest. on_some-alone a _ (slice_get a.frame.slots i) (λ old. alone a _)))
local-instructions code Instr.Drop a l choice other s t = (refl, one-alone a _ a.frame.operands (λ v rest. alone a _))
local-instructions code Instr.Dup a l choice other s t = (refl, one-alone a _ a.frame.operands (λ v rest. alone a _))
local-instructions code Instr.Dup2 a l choice other s t = (refl, two-alone a _ a.frame.operands (λ x y rest. alone a _))
local-instructions code Instr.Neg a l choice other s t =
    (refl, one-alone a _ a.frame.operands (λ v rest. on_some-alone a _ (int_of v) (λ n. alone a _)))
local-instructions code Instr.Not a l choice other s t =
    (refl, one-alone a _ a.frame.operands (λ v rest. on_some-alone a _ (bool_of v) (λ b. alone a _)))
local-instructions code Instr.Add a l choice other s t = (refl, ints-alone a _ a.frame.operands (λ m n rest. alone a _))
local-instructions code Instr.Sub a l choice other s t = (refl, ints-alone a _ a.frame.operands (λ m n rest. alone a _))
local-instructions code Instr.Mul a l choice other s t = (refl, ints-alone a _ a.frame.operands (λ m n rest. alone a _))
local-instructions code Instr.Div a l choice other s t =
    (refl, ints-alone a _ a.frame.operands (λ m n rest. choose-alone a (is_zero n) _ _ (alone a _) (alone a _)))
local-instructions code Instr.Rem a l choice other s t =
    (refl, ints-alone a _ a.frame.operands (λ m n rest. choose-alone a (is_zero n) _ _ (alone a _) (alone a _)))
local-instructions code Instr.Eq a l choice other s t =
    (refl, two-alone a _ a.frame.operands (λ x y rest. on_some-alone a _ (equality x y) (λ b. alone a _)))
local-instructions code Instr.Less a l choice other s t =
    (refl, ints-alone a _ a.frame.operands (λ m n rest. alone a _))
local-instructions code Instr.AtMost a l choice other s t =
    (refl, ints-alone a _ a.frame.operands (λ m n rest. alone a _))
local-instructions code (Instr.Jump target) a l choice other s t = (refl, alone a _)
local-instructions code (Instr.JumpIfNot target) a l choice other s t = (
  refl,
  one-alone a _ a.frame.operands (λ x rest. on_some-alone a _ (bool_of x)
      (λ b. choose-alone a b _ _ (alone a _) (alone a _))),
)
local-instructions code (Instr.Defer f n) a l choice other s t =
    (refl, from-alone a n [] a.frame.operands _ (λ taken rest. alone a _))
local-instructions code Instr.Panic a l choice other s t =
    (refl, one-alone a _ a.frame.operands (λ x rest. on_some-alone a _ (text_of x) (λ k. alone a _)))
local-instructions code (Instr.Print n) a l choice other s t = (
  refl,
  from-alone a n [] a.frame.operands _ (λ vs rest. on_some-alone a _ (line_bytes code.texts vs)
      (λ bytes. inr (Some bytes, next a.frame rest, a.callers, refl))),
)
local-instructions code (Instr.Call g n) a l choice other s t = (
  refl,
  from-alone a n [] a.frame.operands _ (λ arguments rest. on_some-alone a _ (call_frame code g arguments false)
      (λ f. enters-alone a (next a.frame rest ∷ a.callers) f l)),
)
local-instructions code Instr.Return a l choice other s t = (refl, by-alone a None a.frame.operands a.frame.deferred l)
local-instructions code Instr.ReturnValue a l choice other s t =
    (refl, one-alone a _ a.frame.operands (λ v rest. by-alone a (Some v) rest a.frame.deferred l))
local-instructions code _ a l choice other s t = cc

-- ---- the turn of a goroutine

collects-never : (i : Instr) (f : FrameView) (fs : List FrameView) → instr_is_local i f fs ≡ true
    → is_collection i ≡ false
collects-never Instr.Collect f fs h = cc
collects-never _ f fs h = refl

module _ (code : Code) (g : ℕ) (r : GoroutineView) (f : FrameView) (fs : List FrameView) where
  line : (choice other : ℕ) (s t : State) (m : Option CodeLine) → line_is_local m f fs ≡ true
      → (performs code g r f fs choice s m ≡ performs code g r f fs other t m)
      × StandsAlone (acting g r f fs 0) (performs code g r f fs choice s m)
  line choice other s t None h = cc
  line choice other s t (Some l) h = local-instructions code l.instr (acting g r f fs l.line) h choice other s t

  frame : (choice other : ℕ) (s t : State) (m : Leaving) → frame_is_local code f fs m ≡ true
      → (frame_changes code g r f fs choice s m ≡ frame_changes code g r f fs other t m)
      × StandsAlone (acting g r f fs 0) (frame_changes code g r f fs choice s m)
  frame choice other s t Leaving.No h = line choice other s t (line_at code f.function f.at) h
  frame choice other s t (Leaving.Returning v) h =
      (refl, returning-alone (acting g r f fs (return_line code f)) code v f.deferred h)
  frame choice other s t (Leaving.Unwinding x) h =
      (refl, unwinding-alone (acting g r f fs x.line) code x f.deferred h)

line-collects-not : (f : FrameView) (fs : List FrameView) (m : Option CodeLine) → line_is_local m f fs ≡ true
    → line_collects m ≡ false
line-collects-not f fs None h = refl
line-collects-not f fs (Some l) h = collects-never l.instr f fs h

frame-collects-not : (code : Code) (f : FrameView) (fs : List FrameView) (m : Leaving)
    → frame_is_local code f fs m ≡ true → frame_collects code f m ≡ false
frame-collects-not code f fs Leaving.No h = line-collects-not f fs (line_at code f.function f.at) h
frame-collects-not code f fs (Leaving.Returning v) h = refl
frame-collects-not code f fs (Leaving.Unwinding x) h = refl

pub or-true : (b : Bool) → (b || true) ≡ true
or-true true = refl
or-true false = refl

pub some-same : (m : Option GoroutineView) (x y : GoroutineView) → m ≡ Some x → m ≡ Some y → x ≡ y
some-same m x y h k = let e : Some x ≡ Some y = sym h ∙ k in cc

module _ (code : Code) (g : ℕ) (r : GoroutineView) (is : IsLocal code r) where
  abbrev a : Actor
  a = acting g r is.frame is.callers 0

  -- its changes, whatever the state
  abbrev cs : List Change
  cs = frame_changes code g r is.frame is.callers 0 (start code) is.frame.leaving

  turn-is : (s : State) (choice : ℕ) (m : Option ℕ) → m ≡ Some g → find g s.goroutines ≡ Some r
      → turn_changes code choice s m ≡ cs
  turn-is s choice m who found =
      ap (turn_changes code choice s) who
      ∙ ap (turn_of code g choice s) found
      ∙ ap (goroutine_changes code g r choice s) is.frames
      ∙ (frame code g r is.frame is.callers choice 0 s (start code) is.frame.leaving is.local).0

  abbrev collects : State → Option ℕ → Bool
  collects s m = goroutine_collects code (option_and_then (λ h. find h s.goroutines) m)

  collects-not : (s : State) (m : Option ℕ) → m ≡ Some g → find g s.goroutines ≡ Some r → collects s m ≡ false
  collects-not s m who found =
      ap (collects s) who
      ∙ ap (goroutine_collects code) found
      ∙ ap (frames_collect code) is.frames
      ∙ frame-collects-not code is.frame is.callers is.frame.leaving is.local

  -- with these frames, the first one cleared
  abbrev with : FrameView → List FrameView → GoroutineView
  with f fs = with_frames a (cleared code f ∷ fs)

  abbrev became : StandsAlone a cs → Option GoroutineView
  became (inl e) = None
  became (inr x) = Some (with x.1 x.2)

  -- the first frame is cleared after the changes that lead to these frames
  then-cleared : (f : FrameView) (fs : List FrameView) (s u : State) (m : Option ℕ) → m ≡ Some g
      → find g s.goroutines ≡ Some r → find g u.goroutines ≡ Some r
      → let t = become g (with_frames a (f ∷ fs)) u in
      apply_all (clearing code (collects s m || false) m t) t ≡ become g (with f fs) u
  then-cleared f fs s u m who found there =
      let t = become g (with_frames a (f ∷ fs)) u in
      ap (λ b. apply_all (clearing code (b || false) m t) t) (collects-not s m who found)
      ∙ ap (λ k. apply_all (clearing code false k t) t) who
      ∙ ap (λ o. apply_all (clears code g o) t) (find-put g (with_frames a (f ∷ fs)) u.goroutines r there)
      ∙ ap (λ (gs : List (ℕ × GoroutineView)). record u { goroutines = gs })
      (put-put g (with f fs) (with_frames a (f ∷ fs)) u.goroutines)

  by-changes : (xs : List Change) → cs ≡ xs → (s : State) (c : ℕ) → whose_turn s c ≡ Some g
      → find g s.goroutines ≡ Some r → step code s c ≡ stepped code s xs (whose_turn s c)
  by-changes xs e s c who found = ap (λ ys. stepped code s ys (whose_turn s c))
      (turn-is s (c / length (runnable s)) (whose_turn s c) who found ∙ e)

  steps-with : (text : Option (List ℕ)) (f : FrameView) (fs : List FrameView)
      → cs ≡ printing text (Change.Become g (with_frames a (f ∷ fs)) ∷ []) → (s : State) (c : ℕ)
      → whose_turn s c ≡ Some g → find g s.goroutines ≡ Some r
      → silent (step code s c) ≡ become g (with f fs) (silent s)
  steps-with None f fs e s c who found = ap silent (by-changes _ e s c who found
      ∙ then-cleared f fs s s (whose_turn s c) who found found)
  steps-with (Some bytes) f fs e s c who found = ap silent (by-changes _ e s c who found
      ∙ then-cleared f fs s (output bytes s) (whose_turn s c) who found found)

  steps-by : (x : StandsAlone a cs) (s : State) (c : ℕ) → whose_turn s c ≡ Some g → find g s.goroutines ≡ Some r
      → silent (step code s c) ≡ becomes g (became x) (silent s)
  steps-by (inl e) s c who found = ap silent (by-changes [] e s c who found
      ∙ ap (λ b. apply_all (clearing code b (whose_turn s c) s) s) (or-true (collects s (whose_turn s c))))
  steps-by (inr x) s c who found = steps-with x.0 x.1 x.2 x.3 s c who found

  -- it can run before and after, whatever its number
  runs-still : (s : State) (f : FrameView) (fs : List FrameView)
      → can_run s.queue g r ≡ can_run s.queue g (with f fs)
  runs-still s f fs =
      ap (λ m. can_run s.queue g (record r { mode = m })) is.runs
      ∙ ap (λ gs. can_run s.queue g (record { frames = gs; mode = Mode.Running; started = r.started })) is.frames

  same-by : (x : StandsAlone a cs) (s : State) → IsRising s.goroutines → find g s.goroutines ≡ Some r
      → runnable (becomes g (became x) s) ≡ runnable s
  same-by (inl e) s rises found = refl
  same-by (inr x) s rises found =
      keys_where-put_same (can_run s.queue) g (with x.1 x.2) s.goroutines
      (λ y i. let same : y ≡ r = some-same (find g s.goroutines) y r (find-Entry s.goroutines g y rises i) found in ap
      (can_run s.queue g) same ∙ runs-still s x.1 x.2)

  runs-after : (x : StandsAlone a cs) (q : GoroutineView) → became x ≡ Some q → q.mode ≡ Mode.Running
  runs-after (inl e) q h = cc
  runs-after (inr x) q h = let same : with x.1 x.2 ≡ q = cc in ap (λ (z : GoroutineView). z.mode) (sym same)

pub local-turns : LocalTurns
local-turns code g r is =
    let x = (frame code g r is.frame is.callers 0 0 (start code) (start code) is.frame.leaving is.local).1 in
    record {
      after = became code g r is x;
      runs = runs-after code g r is x;
      steps = steps-by code g r is x;
      same = same-by code g r is x;
    }
