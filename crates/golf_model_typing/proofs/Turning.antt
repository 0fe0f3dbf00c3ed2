-- A turn of a typed state has changes, and keeps types.
-- For: `turns_keep_types`, `start_is_typed` and `typed_states_move_on`, src/lib.rt
-- By: cases of the instruction; no induction
use Rattle.std.proofs.Common.{◌≡◌, ℕ, ◌/◌, ◌%◌, Bool, true, false, not, cond, ◌||◌, List, [], ◌∷◌, Option, Some, None}
use Rattle.std.proofs.Common.{◌==◌, ◌⊎◌, inl, inr, refl, sym, ap, ◌∙◌, subst, slice_get, arith, length}
use Rattle.std.specs.Prelude.{pos, int_le, int_lt, option_and_then, option_to_list}
use Rattle.std.proofs.lemmas.Bool.{and_parts, eq-eqb}
use Rattle.golf_theory.specs.Membership.{In, Every}
use Rattle.golf_theory.proofs.Lists.{In-slice_get}
use Rattle.golf_theory.proofs.MapEntries.{Entry-keys_where}
use Rattle.golf_theory.proofs.MapFinds.{find-Entry}
use Rattle.golf_data.specs.declared.value.Value.{Value}
use Rattle.golf_data.specs.declared.value.Object.{Object}
use Rattle.golf_data.specs.declared.code.Code.{Code}
use Rattle.golf_data.specs.declared.code.Instr.{Instr}
use Rattle.golf_data.specs.declared.code.CodeLine.{CodeLine}
use Rattle.golf_data.specs.declared.goroutine.Ending.{Ending}
use Rattle.golf_data.specs.declared.goroutine.Leaving.{Leaving}
use Rattle.golf_data.specs.declared.goroutine.Mode.{Mode}
use Rattle.golf_model.specs.Views.{FrameView, GoroutineView}
use Rattle.golf_model.specs.State.{State, start, is_running, not_empty, can_run, runnable, ending_of, ending}
use Rattle.golf_model.specs.Arithmetic.{sum, difference, product, quotient, remainder}
use Rattle.golf_model.specs.Actors.{Actor}
use Rattle.golf_model.specs.Changes.{apply_all}
use Rattle.golf_model.specs.Turn.{changes, line_at, return_line, acting, performs, frame_changes, goroutine_changes}
use Rattle.golf_model.specs.Turn.{turn_of, turn_changes, whose_turn, clears_nothing, turned, cleared_after}
use Rattle.golf_model.specs.Presence.{IsWhole, Present}
use Rattle.golf_model.specs.Refs.{frames_refs}
use Rattle.golf_model.specs.Futures.{Numbered}
use Rattle.golf_model_futures.proofs.RefLaws.{Vals, frames-head, goroutine-frames}
use Rattle.golf_model.specs.Finalisers.{begins_queued}
use Rattle.golf_model_futures.specs.Orderly.{IsOrderly}
use Rattle.golf_model_typing.specs.Types.{ValueType, Shape, FunctionTypes, Typing, signature, with_shapes, ValuesFit}
use Rattle.golf_model_typing.specs.Grows.{Grows}
use Rattle.golf_model_typing.specs.Shapes.{FunctionFits, InstructionFits, HasShapes}
use Rattle.golf_model_typing.specs.WellTyped.{FrameStands, LeavingFits, FramesFit, ModeFits, GoroutineFits, WellTyped}
use Rattle.golf_model_typing.specs.ProgressLaws.{TypedStatesMoveOn, TurnsKeepTypes, StartIsTyped}
use Rattle.golf_model_typing.proofs.Keeping.{typed-changes}
use Rattle.golf_model_typing.proofs.Changing.{or_true}
use Rattle.golf_model_typing.proofs.Acting.{Proceeds, ActorFits, proceeds-jumps, proceeds-goes, taken}
use Rattle.golf_model_typing.proofs.Clearing.{fits-clearing}
use Rattle.golf_model_typing.proofs.Calculating.{proceeds-pushes, proceeds-loads, proceeds-stores}
use Rattle.golf_model_typing.proofs.Calculating.{proceeds-loads_global, proceeds-stores_global, proceeds-drops}
use Rattle.golf_model_typing.proofs.Calculating.{proceeds-doubles, proceeds-doubles_two, proceeds-negates}
use Rattle.golf_model_typing.proofs.Calculating.{proceeds-inverts, proceeds-computes, proceeds-divides}
use Rattle.golf_model_typing.proofs.Calculating.{proceeds-compares, proceeds-equates, proceeds-jumps_unless}
use Rattle.golf_model_typing.proofs.Structures.{proceeds-makes, proceeds-makes_struct, proceeds-makes_slice}
use Rattle.golf_model_typing.proofs.Structures.{proceeds-makes_channel, proceeds-makes_condition, proceeds-gets_field}
use Rattle.golf_model_typing.proofs.Structures.{proceeds-sets_field, proceeds-gets_element, proceeds-sets_element}
use Rattle.golf_model_typing.proofs.Structures.{proceeds-measures}
use Rattle.golf_model_typing.proofs.Channels.{proceeds-sends, proceeds-receives, proceeds-closes}
use Rattle.golf_model_typing.proofs.Conditions.{proceeds-gets_mutex, proceeds-awaits, proceeds-signals}
use Rattle.golf_model_typing.proofs.Conditions.{proceeds-broadcasts}
use Rattle.golf_model_typing.proofs.Selecting.{proceeds-selects}
use Rattle.golf_model_typing.proofs.ReadersWriters.{proceeds-adds, proceeds-waits, proceeds-write_locks}
use Rattle.golf_model_typing.proofs.ReadersWriters.{proceeds-write_unlocks, proceeds-read_locks}
use Rattle.golf_model_typing.proofs.ReadersWriters.{proceeds-read_unlocks}
use Rattle.golf_model_typing.proofs.Printing.{proceeds-prints, proceeds-panics_with}
use Rattle.golf_model_typing.proofs.Finalising.{proceeds-finalises, proceeds-unfinalises}
use Rattle.golf_model_typing.proofs.Mutexes.{proceeds-locks, proceeds-unlocks}
use Rattle.golf_model_typing.proofs.Calls.{opens, proceeds-calls, proceeds-spawns, proceeds-defers, proceeds-returns}
use Rattle.golf_model_typing.proofs.Calls.{proceeds-returns_value, proceeds-leaves_returning}
use Rattle.golf_model_typing.proofs.Calls.{proceeds-leaves_unwinding, proceeds-begins_queued, slice_get-at}

one_only : {X : Type 0} (m : Option X) (a b : X) → m ≡ Some a → m ≡ Some b → a ≡ b
one_only m a b e f = cc

module _ (code : Code) (types : Typing) (shapes : HasShapes code types) (known : List (ℕ × ValueType)) (s : State)
    (w : WellTyped types known s) (whole : IsWhole s) (n : Numbered s) (orderly : IsOrderly s) where
  module _ (a : Actor) (ft : FunctionTypes) (sh : Shape) (i : ActorFits types known s a ft sh) (choice : ℕ) where
    -- once for each instruction
    proceeds-changes : (k : Instr) → InstructionFits types.of ft a.frame.at k sh
        → Proceeds types known s (changes code k a choice s)
    proceeds-changes (Instr.Int n) r = proceeds-pushes code types shapes known s w a ft sh i
        (Value.Int n) ValueType.Int refl r
    proceeds-changes (Instr.Bool b) r = proceeds-pushes code types shapes known s w a ft sh i
        (Value.Bool b) ValueType.Bool refl r
    proceeds-changes (Instr.Text j) r = proceeds-pushes code types shapes known s w a ft sh i
        (Value.Text j) ValueType.Text (refl, r.0) r.1
    proceeds-changes Instr.Unit r = proceeds-pushes code types shapes known s w a ft sh i Value.Unit
        ValueType.EmptyStruct refl r
    proceeds-changes Instr.Nil r = proceeds-pushes code types shapes known s w a ft sh i Value.Nil r.0 r.1 r.2
    proceeds-changes (Instr.Load j) r = proceeds-loads code types shapes known s w a ft sh i j r
    proceeds-changes (Instr.Store j) r = proceeds-stores code types shapes known s w a ft sh i j r
    proceeds-changes (Instr.LoadGlobal j) r = proceeds-loads_global code types shapes known s w a ft sh i j r
    proceeds-changes (Instr.StoreGlobal j) r = proceeds-stores_global code types shapes known s w a ft sh i j r
    proceeds-changes Instr.Drop r = proceeds-drops code types shapes known s w a ft sh i r.0 r.1
    proceeds-changes Instr.Dup r = proceeds-doubles code types shapes known s w a ft sh i r.0 r.1
    proceeds-changes Instr.Dup2 r = proceeds-doubles_two code types shapes known s w a ft sh i r
    proceeds-changes Instr.Neg r = proceeds-negates code types shapes known s w a ft sh i r
    proceeds-changes Instr.Not r = proceeds-inverts code types shapes known s w a ft sh i r
    proceeds-changes Instr.Add r = proceeds-computes code types shapes known s w a ft sh i sum r
    proceeds-changes Instr.Sub r = proceeds-computes code types shapes known s w a ft sh i difference r
    proceeds-changes Instr.Mul r = proceeds-computes code types shapes known s w a ft sh i product r
    proceeds-changes Instr.Div r = proceeds-divides code types shapes known s w a ft sh i quotient r
    proceeds-changes Instr.Rem r = proceeds-divides code types shapes known s w a ft sh i remainder r
    proceeds-changes Instr.Eq r = proceeds-equates code types shapes known s w a ft sh i r
    proceeds-changes Instr.Less r = proceeds-compares code types shapes known s w a ft sh i int_lt r
    proceeds-changes Instr.AtMost r = proceeds-compares code types shapes known s w a ft sh i int_le r
    proceeds-changes (Instr.Jump target) r =
        proceeds-jumps types known s a ft sh i target a.frame.operands sh.operands i.held r
    proceeds-changes (Instr.JumpIfNot target) r = proceeds-jumps_unless code types shapes known s w a ft sh i target r
    proceeds-changes (Instr.NewStruct j) r = proceeds-makes_struct code types shapes known s w a ft sh i j r
    proceeds-changes Instr.NewMutex r = proceeds-makes code types shapes known s w a ft sh i
        (Object.Mutex false) ValueType.Mutex a.frame.operands r.0 tt refl (taken types known s a ft sh i r.0 r.1) r.2
    proceeds-changes Instr.NewGroup r = proceeds-makes code types shapes known s w a ft sh i
        (Object.Group (pos 0)) ValueType.Group a.frame.operands r.0 tt refl (taken types known s a ft sh i r.0 r.1) r.2
    proceeds-changes Instr.NewRw r = proceeds-makes code types shapes known s w a ft sh i
        (Object.Rw (pos 0)) ValueType.Rw a.frame.operands r.0 tt refl (taken types known s a ft sh i r.0 r.1) r.2
    proceeds-changes Instr.NewCond r = proceeds-makes_condition code types shapes known s w a ft sh i r
    proceeds-changes (Instr.Field j) r = proceeds-gets_field code types shapes known s w a ft sh i j r
    proceeds-changes (Instr.SetField j) r = proceeds-sets_field code types shapes known s w a ft sh i j r
    proceeds-changes (Instr.NewSlice z) r = proceeds-makes_slice code types shapes known s w a ft sh i z r
    proceeds-changes (Instr.NewChan z) r = proceeds-makes_channel code types shapes known s w a ft sh i z r
    proceeds-changes Instr.Index r = proceeds-gets_element code types shapes known s w a ft sh i r
    proceeds-changes Instr.SetIndex r = proceeds-sets_element code types shapes known s w a ft sh i r
    proceeds-changes Instr.Len r = proceeds-measures code types shapes known s w a ft sh i r
    proceeds-changes Instr.Send r = proceeds-sends types known s w a ft sh i r
    proceeds-changes Instr.Receive r = proceeds-receives types known s w a ft sh i false r.0 r.1
    proceeds-changes Instr.ReceiveOk r = proceeds-receives types known s w a ft sh i true r.0 r.1
    proceeds-changes Instr.Close r = proceeds-closes types known s w a ft sh i r
    proceeds-changes (Instr.Select cases otherwise) r =
        proceeds-selects types known s w a ft sh i r.0 choice cases otherwise r.1 r.2
    proceeds-changes Instr.Lock r = proceeds-locks types known s w a ft sh i r
    proceeds-changes Instr.Unlock r = proceeds-unlocks types known s w a ft sh i r
    proceeds-changes Instr.GroupAdd r = proceeds-adds code types shapes known s w a ft sh i r
    proceeds-changes Instr.GroupWait r = proceeds-waits code types shapes known s w a ft sh i r
    proceeds-changes Instr.RwLock r = proceeds-write_locks code types shapes known s w a ft sh i r
    proceeds-changes Instr.RwUnlock r = proceeds-write_unlocks code types shapes known s w a ft sh i r
    proceeds-changes Instr.ReadLock r = proceeds-read_locks code types shapes known s w a ft sh i r
    proceeds-changes Instr.ReadUnlock r = proceeds-read_unlocks code types shapes known s w a ft sh i r
    proceeds-changes Instr.CondMutex r = proceeds-gets_mutex types known s w whole n orderly a ft sh i r
    proceeds-changes Instr.CondWait r = proceeds-awaits types known s w whole n orderly a ft sh i r
    proceeds-changes Instr.CondSignal r = proceeds-signals types known s w whole n orderly a ft sh i r
    proceeds-changes Instr.CondBroadcast r = proceeds-broadcasts types known s w whole n orderly a ft sh i r
    proceeds-changes (Instr.Call f n) r = proceeds-calls code types shapes known s a ft sh i f n r
    proceeds-changes (Instr.Go f n) r = proceeds-spawns code types shapes known s a ft sh i f n r
    proceeds-changes (Instr.Defer f n) r = proceeds-defers code types shapes known s a ft sh i f n r
    proceeds-changes Instr.Return r = proceeds-returns code types shapes known s a ft sh i r
    proceeds-changes Instr.ReturnValue r = proceeds-returns_value code types shapes known s a ft sh i r
    proceeds-changes (Instr.Print n) r = proceeds-prints code types shapes known s w a ft sh i n r
    proceeds-changes Instr.Collect r = proceeds-goes types known s a ft sh i a.frame.operands r.0
        (taken types known s a ft sh i r.0 r.1) r.2
    proceeds-changes (Instr.SetFinalizer f) r = proceeds-finalises code types shapes known s w a ft sh i f r
    proceeds-changes Instr.ClearFinalizer r = proceeds-unfinalises code types shapes known s w a ft sh i r
    proceeds-changes Instr.Panic r = proceeds-panics_with code types shapes known s w a ft sh i r

  -- a frame that stands has its instruction
  line-there : (f at : ℕ) (ft : FunctionTypes) (sh : Shape) → slice_get types.of.functions f ≡ Some (signature ft)
      → slice_get types.shapes f ≡ Some ft.shapes → slice_get ft.shapes at ≡ Some sh → (l : CodeLine)
      × (line_at code f at ≡ Some l) × InstructionFits types.of ft at l.instr sh
  line-there f at ft sh e d h =
      let found = shapes.functions f (signature ft) e in
      let same : found.0 ≡ ft.shapes = one_only (slice_get types.shapes f) found.0 ft.shapes found.2 d in
      let ok = subst (λ own. FunctionFits types.of found.1 (with_shapes (signature ft) own)) same found.4 in
      let l = ok.each at sh h in
      (l.0, ap (option_and_then (λ g. slice_get g.body at)) found.3 ∙ l.1, l.2)

  module _ (g : ℕ) (r : GoroutineView) (choice : ℕ) where
    proceeds-frame : (f : FrameView) (callers : List FrameView) → Vals (Present s) f.operands
        → FramesFit types known [] (f ∷ callers) → (l : Leaving) → f.leaving ≡ l
        → Proceeds types known s (frame_changes code g r f callers choice s l)
    proceeds-frame f callers p h Leaving.No e =
        let ft = h.0 in
        let stands : FrameStands types known ft [] f.at f.operands f.slots =
        subst (LeavingFits types known ft [] f.at f.operands f.slots) e h.1.1 in
        let line = line-there f.function f.at ft stands.shape h.1.0.typed h.1.0.shaped stands.here in
        let a = acting g r f callers line.0.line in
        let ok : ActorFits types known s a ft stands.shape = record {
          holds = record { base = h.1.0; callers = h.2 };
          no = e;
          held = subst (ValuesFit types.of known f.operands) (sym stands.lacks) stands.held;
          assigned = stands.assigned;
          present = p;
        } in
        subst (λ m. Proceeds types known s (performs code g r f callers choice s m)) (sym line.1)
        (proceeds-changes a ft stands.shape ok choice line.0.instr line.2)
    proceeds-frame f callers p h (Leaving.Returning v) e =
        proceeds-leaves_returning code types shapes known s (acting g r f callers (return_line code f)) h.0 v f.deferred
        (record { base = h.1.0; callers = h.2 }) refl
        (subst (LeavingFits types known h.0 [] f.at f.operands f.slots) e h.1.1) e
    proceeds-frame f callers p h (Leaving.Unwinding x) e =
        proceeds-leaves_unwinding code types shapes known s (acting g r f callers x.line) h.0 x f.deferred
        (record { base = h.1.0; callers = h.2 }) refl e

    proceeds-goroutine : (frames : List FrameView) → Every (Present s) (frames_refs frames)
        → FramesFit types known [] frames → ((g == 0) || not_empty frames) ≡ true → r.mode ≡ Mode.Running
        → (not (g == 0) || (not_empty frames || not_empty s.queue)) ≡ true
        → Proceeds types known s (goroutine_changes code g r choice s frames)
    proceeds-goroutine [] p h n m c = go (g == 0) n c
      where
        go : (b : Bool) → (b || false) ≡ true → (not b || not_empty s.queue) ≡ true
            → Proceeds types known s (cond b (begins_queued code r s.queue) [])
        go true n c = proceeds-begins_queued code types shapes known s r s.queue w.queue m c
        go false n c = cc
    proceeds-goroutine (f ∷ callers) p h n m c =
        proceeds-frame f callers (frames-head (Present s) f callers p).operands h f.leaving refl

  running-of : (m : Mode) → is_running m ≡ true → m ≡ Mode.Running
  running-of Mode.Running h = refl
  running-of (Mode.Blocked kind line waits ticket) h = cc

  module _ (choice : ℕ) where
    proceeds-turn : (g : ℕ) → In g (runnable s) → Proceeds types known s (turn_changes code choice s (Some g))
    proceeds-turn g i =
        let r = Entry-keys_where (can_run s.queue) s.goroutines g i in
        let parts = and_parts (is_running r.0.mode) _ r.2 in
        let mode = running-of r.0.mode parts.0 in
        let ok = w.goroutines g r.0 r.1 in
        subst (λ m. Proceeds types known s (turn_of code g choice s m))
        (sym (find-Entry s.goroutines g r.0 n.goroutines_rise r.1))
        (proceeds-goroutine g r.0 choice r.0.frames (goroutine-frames (Present s) r.0 (whole.goroutines g r.0 r.1))
        (subst (ModeFits types known r.0.frames) mode ok.0) ok.1 mode parts.1)

    pub proceeds-whose : (c : ℕ) (m : Option ℕ) → whose_turn s c ≡ m → (m ≡ None)
        ⊎ Proceeds types known s (turn_changes code choice s m)
    proceeds-whose c None e = inl refl
    proceeds-whose c (Some g) e = inr (proceeds-turn g (In-slice_get (runnable s) (c % length (runnable s)) g e))

-- a state without an ending has a goroutine that runs
awake : (m : Option Ending) (b : Bool) → ending_of m b ≡ None → b ≡ true
awake (Some x) b h = cc
awake None true h = refl
awake None false h = cc

some-of : (xs : List ℕ) (c : ℕ) → not_empty xs ≡ true → slice_get xs (c % length xs) ≡ None → ⊥
some-of [] c h e = cc
some-of (x ∷ xs) c h e = let i = slice_get-at (x ∷ xs) (c % length (x ∷ xs)) (omega arith) in let f = i.1 in cc

some-turn : (s : State) (c : ℕ) → ending s ≡ None → whose_turn s c ≡ None → ⊥
some-turn s c h e = some-of (runnable s) c (awake s.recorded (not_empty (runnable s)) h) e

pub move-on : TypedStatesMoveOn
move-on code types known s c shapes w whole n o h =
    elim (proceeds-whose code types shapes known s w whole n o (c / length (runnable s)) c (whose_turn s c) refl) [
      | inl e ↦ absurd (some-turn s c h e)
      | inr f ↦ f.moves
    ]

turned-typed : (code : Code) (types : Typing) (known : List (ℕ × ValueType)) (s : State) (c : ℕ) → HasShapes code types
    → WellTyped types known s → IsWhole s → Numbered s → IsOrderly s → (later : List (ℕ × ValueType))
    × WellTyped types later (turned code s c) × Grows known later
turned-typed code types known s c shapes w whole n o =
    elim (proceeds-whose code types shapes known s w whole n o (c / length (runnable s)) c (whose_turn s c) refl) [
      | inl e ↦ (
        known,
        subst (λ m. WellTyped types known
            (apply_all (turn_changes code (c / length (runnable s)) s m) s)) (sym e) w,
        λ o t h. h,
      )
      | inr f ↦ typed-changes types known (turn_changes code (c / length (runnable s)) s (whose_turn s c)) s w f.keeps
    ]

pub turns-keep-types : TurnsKeepTypes
turns-keep-types code types known s c shapes w whole n o =
    let t = turned-typed code types known s c shapes w whole n o in
    let u = typed-changes types t.0 (cleared_after code s c) (turned code s c) t.1
    (fits-clearing code types shapes t.0 (clears_nothing code s c) (whose_turn s c) (turned code s c) t.1) in
    (u.0, u.1, λ o t1 h. u.2 o t1 (t.2 o t1 h))

pub start-is-typed : StartIsTyped
start-is-typed code types shapes =
    let o = opens code types shapes [] (start code) 0 [] true shapes.first.0 shapes.first.1
    (subst (ValuesFit types.of [] []) (sym shapes.first.2) tt) in record {
      globals = shapes.globals;
      objects = λ p t x k e. cc;
      goroutines = λ g r e. elim e [
        | inl a ↦ subst (λ z. GoroutineFits types [] g z) (sym a.1) (tt, ap (λ b. b || false) (eq-eqb g 0 a.0))
        | inr d ↦ elim d [
          | inl a ↦ subst (λ z. GoroutineFits types [] g z) (sym a.1)
              (subst (λ m. FramesFit types [] [] (option_to_list m)
              × (((g == 0) || not_empty (option_to_list m)) ≡ true)) (sym o.is)
              ((with_shapes shapes.first.0 o.own, o.ok, tt), or_true (g == 0)))
          | inr b ↦ absurd b
        ]
      ];
      finalisers = λ p f e. absurd e;
      queue = tt;
      below = λ p t k. cc;
      fresh = λ p l. refl;
    }
