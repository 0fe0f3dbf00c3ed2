-- What was printed before changes nothing: a state with more output goes the same way.
-- For: `printing_is_apart`, src/lib.rt; `prefixed`, specs/EarlierOutput.antt
-- By: induction over the lists of events, of changes and of offers
use Rattle.std.proofs.Common.{◌≡◌, ℕ, ◌+◌, ◌/◌, Bool, true, false, not, ◌&&◌, ◌||◌, List, [], ◌∷◌, ◌++◌, length, Option}
use Rattle.std.proofs.Common.{Some, None, refl, ap, ◌∙◌, append_assoc}
use Rattle.golf_theory.specs.Maps.{find}
use Rattle.golf_data.specs.declared.value.Value.{Value}
use Rattle.golf_data.specs.declared.code.CaseKind.{CaseKind}
use Rattle.golf_data.specs.declared.value.Object.{Object}
use Rattle.golf_data.specs.declared.code.Code.{Code}
use Rattle.golf_data.specs.declared.code.Instr.{Instr}
use Rattle.golf_data.specs.declared.code.CodeLine.{CodeLine}
use Rattle.golf_data.specs.declared.goroutine.Leaving.{Leaving}
use Rattle.golf_data.specs.declared.report.Book.{Book}
use Rattle.golf_model.specs.Views.{FrameView, GoroutineView}
use Rattle.golf_model.specs.State.{State, not_empty, runnable}
use Rattle.golf_model.specs.Changes.{Change, apply, apply_all, requeue, requeue_at, requeue_by}
use Rattle.golf_model.specs.Actors.{Actor, choose, at_reference_or}
use Rattle.golf_model.specs.Selects.{Offer, Taken, offers_of, is_nil_or_channel, all_on_channels, is_ready_on}
use Rattle.golf_model.specs.Selects.{is_ready, kept_if, ready, proceeds_by, chosen, selects_one, selects_from}
use Rattle.golf_model.specs.ClearedSlots.{clearing}
use Rattle.golf_model.specs.Turn.{changes, line_at, performs, frame_changes, goroutine_changes, turn_of, turn_changes}
use Rattle.golf_model.specs.Turn.{whose_turn, turned, cleared_after, step, wants_collection, clears_nothing}
use Rattle.golf_model.specs.Reach.{reach, sources}
use Rattle.golf_model.specs.Collections.{plain_collect, queue_outside}
use Rattle.golf_model.specs.Runs.{Event, has_ended, collected_if, happens_in, happens, run}
use Rattle.golf_model_futures.specs.EarlierOutput.{prefixed}
use Rattle.golf_model.specs.Reports.{entries, entry_of}

-- `select`
module _ (w : List ℕ) (s : State) where
  same-on_channel : (v : Value) → is_nil_or_channel (prefixed w s) v ≡ is_nil_or_channel s v
  same-on_channel _ = refl

  same-on_channels : (xs : List Offer) → all_on_channels (prefixed w s) xs ≡ all_on_channels s xs
  same-on_channels [] = refl
  same-on_channels (x ∷ xs) = ap (λ b. b && all_on_channels (prefixed w s) xs) (same-on_channel x.channel)
      ∙ ap (λ b. is_nil_or_channel s x.channel && b) (same-on_channels xs)

  same-ready_on : (kind : CaseKind) (v : Value) → is_ready_on kind (prefixed w s) v ≡ is_ready_on kind s v
  same-ready_on kind _ = refl

  same-ready : (xs : List Offer) → ready (prefixed w s) xs ≡ ready s xs
  same-ready [] = refl
  same-ready (x ∷ xs) = ap (λ b. kept_if b x (ready (prefixed w s) xs)) (same-ready_on x.kind x.channel)
      ∙ ap (kept_if (is_ready s x) x) (same-ready xs)

  same-proceeds_by : (a : Actor) (after : FrameView) (kind : CaseKind) (v : Value) (o : ℕ)
      → proceeds_by a after kind v (prefixed w s) o ≡ proceeds_by a after kind v s o
  same-proceeds_by a after CaseKind.Send v o = refl
  same-proceeds_by a after CaseKind.Take v o = refl
  same-proceeds_by a after CaseKind.TakeOk v o = refl

  same-proceeds_at : (a : Actor) (after : FrameView) (kind : CaseKind) (v c : Value)
      → at_reference_or [] (proceeds_by a after kind v (prefixed w s)) c ≡ at_reference_or []
      (proceeds_by a after kind v s) c
  same-proceeds_at a after kind v (Value.Ref o) = same-proceeds_by a after kind v o.0
  same-proceeds_at a after kind v _ = refl

  same-one : (a : Actor) (rest : List Value) (xs : List Offer) (otherwise : Option ℕ) (m : Option Offer)
      → selects_one a rest (prefixed w s) xs otherwise m ≡ selects_one a rest s xs otherwise m
  same-one a rest xs otherwise None = refl
  same-one a rest xs otherwise (Some x) =
      same-proceeds_at a (record a.frame { at = x.target; operands = rest }) x.kind x.value x.channel

  same-selects : (a : Actor) (choice : ℕ) (otherwise : Option ℕ) (m : Option Taken)
      → selects_from a (prefixed w s) choice otherwise m ≡ selects_from a s choice otherwise m
  same-selects a choice otherwise None = refl
  same-selects a choice otherwise (Some t) =
      ap (λ b. choose b (selects_one a t.1 (prefixed w s) t.0 otherwise (chosen choice (ready (prefixed w s) t.0))) [])
      (same-on_channels t.0)
      ∙ ap (λ cs. choose (all_on_channels s t.0) cs [])
      (ap (λ xs. selects_one a t.1 (prefixed w s) t.0 otherwise (chosen choice xs)) (same-ready t.0)
      ∙ same-one a t.1 t.0 otherwise (chosen choice (ready s t.0)))

module _ (w : List ℕ) (code : Code) where
  same-changes : (i : Instr) (a : Actor) (choice : ℕ) (s : State)
      → changes code i a choice (prefixed w s) ≡ changes code i a choice s
  same-changes (Instr.Select cases otherwise) a choice s =
      same-selects w s a choice otherwise (offers_of cases a.frame.operands)
  same-changes _ a choice s = refl

  same-performs : (g : ℕ) (r : GoroutineView) (f : FrameView) (callers : List FrameView) (choice : ℕ) (s : State)
      (m : Option CodeLine) → performs code g r f callers choice (prefixed w s) m
      ≡ performs code g r f callers choice s m
  same-performs g r f callers choice s None = refl
  same-performs g r f callers choice s (Some l) = same-changes l.instr _ choice s

  same-frame : (g : ℕ) (r : GoroutineView) (f : FrameView) (callers : List FrameView) (choice : ℕ) (s : State)
      (m : Leaving) → frame_changes code g r f callers choice (prefixed w s) m
      ≡ frame_changes code g r f callers choice s m
  same-frame g r f callers choice s Leaving.No = same-performs g r f callers choice s (line_at code f.function f.at)
  same-frame g r f callers choice s (Leaving.Returning v) = refl
  same-frame g r f callers choice s (Leaving.Unwinding x) = refl

  same-goroutine : (g : ℕ) (r : GoroutineView) (choice : ℕ) (s : State) (fs : List FrameView)
      → goroutine_changes code g r choice (prefixed w s) fs ≡ goroutine_changes code g r choice s fs
  same-goroutine g r choice s [] = refl
  same-goroutine g r choice s (f ∷ fs) = same-frame g r f fs choice s f.leaving

  same-turn_of : (g choice : ℕ) (s : State) (m : Option GoroutineView)
      → turn_of code g choice (prefixed w s) m ≡ turn_of code g choice s m
  same-turn_of g choice s None = refl
  same-turn_of g choice s (Some r) = same-goroutine g r choice s r.frames

  same-turn : (choice : ℕ) (s : State) (m : Option ℕ)
      → turn_changes code choice (prefixed w s) m ≡ turn_changes code choice s m
  same-turn choice s None = refl
  same-turn choice s (Some g) = same-turn_of g choice s (find g s.goroutines)

  -- requeueing
  passed-by : (locked : Bool) (g m : ℕ) (r : GoroutineView) (s : State)
      → requeue_by locked g m r (prefixed w s) ≡ prefixed w (requeue_by locked g m r s)
  passed-by true g m r s = refl
  passed-by false g m r s = refl

  passed-at : (x : Object) (g m : ℕ) (r : GoroutineView) (s : State)
      → requeue_at x g m r (prefixed w s) ≡ prefixed w (requeue_at x g m r s)
  passed-at (Object.Mutex locked) g m r s = passed-by locked g m r s
  passed-at _ g m r s = refl

  passed : (g m : ℕ) (r : Option GoroutineView) (x : Option Object) (s : State)
      → requeue g m r x (prefixed w s) ≡ prefixed w (requeue g m r x s)
  passed g m None x s = refl
  passed g m (Some r) None s = refl
  passed g m (Some r) (Some x) s = passed-at x g m r s

  same-apply : (c : Change) (s : State) → apply c (prefixed w s) ≡ prefixed w (apply c s)
  same-apply (Change.Output bytes) s = ap (λ (o : List ℕ). record s { output = o }) (append_assoc w s.output bytes)
  same-apply (Change.Requeue g m) s = passed g m (find g s.goroutines) (find m s.objects) s
  same-apply _ s = refl

  same-apply_all : (cs : List Change) (s : State) → apply_all cs (prefixed w s) ≡ prefixed w (apply_all cs s)
  same-apply_all [] s = refl
  same-apply_all (c ∷ cs) s = ap (apply_all cs) (same-apply c s) ∙ same-apply_all cs (apply c s)

  turned-prefixed : (s : State) (k : ℕ) → turned code (prefixed w s) k ≡ prefixed w (turned code s k)
  turned-prefixed s k =
      ap (λ (cs : List Change). apply_all cs (prefixed w s)) (same-turn (k / length (runnable s)) s (whose_turn s k))
      ∙ same-apply_all (turn_changes code (k / length (runnable s)) s (whose_turn s k)) s

  same-clearing : (b : Bool) (m : Option ℕ) (s : State) → clearing code b m (prefixed w s) ≡ clearing code b m s
  same-clearing true m s = refl
  same-clearing false None s = refl
  same-clearing false (Some g) s = refl

  same-clears : (s : State) (k : ℕ) → clears_nothing code (prefixed w s) k ≡ clears_nothing code s k
  same-clears s k = ap (λ (cs : List Change). wants_collection code s k || not (not_empty cs))
      (same-turn (k / length (runnable s)) s (whose_turn s k))

  pub step-prefixed : (s : State) (k : ℕ) → step code (prefixed w s) k ≡ prefixed w (step code s k)
  step-prefixed s k =
      let b = clears_nothing code s k in
      let t = turned code s k in
      ap (λ (c : Bool). let u : State = turned code (prefixed w s) k in apply_all
      (clearing code c (whose_turn s k) u) u) (same-clears s k)
      ∙ ap (λ (u : State). apply_all (clearing code b (whose_turn s k) u) u) (turned-prefixed s k)
      ∙ ap (λ (cs : List Change). apply_all cs (prefixed w t)) (same-clearing b (whose_turn s k) t)
      ∙ same-apply_all (cleared_after code s k) t

pub same-reach : (w : List ℕ) (s : State) (xs : List ℕ) → reach (prefixed w s) xs ≡ reach s xs
unfolding reach
same-reach w s xs = refl

pub collect-prefixed : (w : List ℕ) (s : State) → plain_collect (prefixed w s) ≡ prefixed w (plain_collect s)
collect-prefixed w s = ap (λ xs. queue_outside xs (prefixed w s)) (same-reach w s (sources s []))

pub same-entries : (w : List ℕ) (s : State) (gs : List ℕ) → entries (prefixed w s) gs ≡ entries s gs
same-entries w s [] = refl
same-entries w s (g ∷ gs) = ap (λ es. entry_of g (find g s.goroutines) ++ es) (same-entries w s gs)

-- runs
module _ (w : List ℕ) (code : Code) where
  collected-prefixed : (b : Bool) (s : State)
      → collected_if plain_collect code b (prefixed w s) ≡ prefixed w (collected_if plain_collect code b s)
  collected-prefixed true s = collect-prefixed w s
  collected-prefixed false s = refl

  happens-by : (b : Bool) (s : State) (e : Event)
      → happens_in plain_collect code b (prefixed w s) e ≡ prefixed w (happens_in plain_collect code b s e)
  happens-by true s e = refl
  happens-by false s (Event.Turn k) = ap (collected_if plain_collect code (wants_collection code s k))
      (step-prefixed w code s k) ∙ collected-prefixed (wants_collection code s k) (step code s k)
  happens-by false s Event.Collect = collect-prefixed w s

  pub happens-prefixed : (s : State) (e : Event) → happens code (prefixed w s) e ≡ prefixed w (happens code s e)
  happens-prefixed s e = happens-by (has_ended s) s e

  pub run-prefixed : (es : List Event) (s : State) → run code (prefixed w s) es ≡ prefixed w (run code s es)
  run-prefixed [] s = refl
  run-prefixed (e ∷ es) s = ap (λ t. run code t es) (happens-prefixed s e) ∙ run-prefixed es (happens code s e)
