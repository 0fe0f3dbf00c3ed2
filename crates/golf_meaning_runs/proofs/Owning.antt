-- What becomes of the goroutine of a turn: its frames match its calls.
-- For: `FramesMatch`, golf_meaning_runs/specs/Books.antt.
-- By: cases of what the turn is in the life of the call, and of how its frame is left; induction over lists of waits.
use Rattle.std.proofs.Common.{◌≡◌, ℕ, true, false, List, [], ◌∷◌, ◌++◌, length, Option, Some, None, ◌⊎◌, inl, inr, refl}
use Rattle.std.proofs.Common.{ap, ◌∙◌, sym, subst, slice_get, Bool, false, ◌+◌, option_map}
use Rattle.std.specs.Prelude.{unwrap_or}
use Rattle.golf_theory.specs.Membership.{In, Every}
use Rattle.golf_data.specs.declared.value.Value.{Value}
use Rattle.golf_data.specs.declared.code.Code.{Code}
use Rattle.golf_data.specs.declared.code.Function.{Function}
use Rattle.golf_data.specs.declared.code.Instr.{Instr}
use Rattle.golf_data.specs.declared.goroutine.Deferred.{Deferred}
use Rattle.golf_data.specs.declared.goroutine.Fault.{Fault}
use Rattle.golf_data.specs.declared.goroutine.Leaving.{Leaving}
use Rattle.golf_data.specs.declared.goroutine.Mode.{Mode}
use Rattle.golf_data.specs.declared.goroutine.PanicKind.{PanicKind}
use Rattle.golf_data.specs.declared.goroutine.Side.{Side}
use Rattle.golf_data.specs.declared.goroutine.Wait.{Wait}
use Rattle.golf_data.specs.declared.goroutine.WaitKind.{WaitKind}
use Rattle.golf_model.specs.Views.{FrameView}
use Rattle.golf_model.specs.State.{State, opened}
use Rattle.golf_model.specs.Changes.{Change}
use Rattle.golf_model.specs.Actors.{Actor, with_frames, next, stands, panics, dies, on_some, blocks, choose}
use Rattle.golf_model.specs.Actors.{goes as turns_on}
use Rattle.golf_model.specs.Calls.{is_full, enters, returns_to, unwinds_to, returns_by}
use Rattle.golf_meaning_flat.specs.Worlds.{Operation, Halt, pushed}
use Rattle.golf_meaning_flat.specs.InstructionEffects.{Frame}
use Rattle.golf_meaning_flat.specs.Flat.{targets, lower}
use Rattle.golf_meaning_runs.specs.FlatSteps.{frame_of}
use Rattle.golf_meaning_runs.specs.VisibleOutcomes.{CalledBy, DefersBy, IsOfLock, AreOthers, stood, started_on, ServedGoOn}
use Rattle.golf_meaning_runs.specs.VisibleOutcomes.{Chooses}
use Rattle.golf_meaning_runs.specs.VisibleOutcomes.{ComesTo as C}
use Rattle.golf_meaning_runs.specs.TurnLaws.{After, WaitsAfter, WaitsFor}
use Rattle.golf_meaning_runs.specs.Life.{Now, Life}
use Rattle.golf_meaning_runs.specs.TurnsInLives.{operation, choice_of, Asked, Asking}
use Rattle.golf_meaning_runs.specs.TurnsInLives.{IsLived as L}
use Rattle.golf_meaning_runs.specs.Books.{RunTypes, shaping, AreArguments, with_turn}
use Rattle.golf_meaning_runs.specs.CallRecords.{Standing, Origin, Call, fresh, as_seen, beginning, origin_by}
use Rattle.golf_meaning_runs.specs.CallRecords.{is_unwinding, deferrals, with_start, starting, started_as}
use Rattle.golf_meaning_runs.specs.CallRecords.{starts as all_starts}
use Rattle.golf_meaning_runs.specs.Books.{operands_shown, CanBeCalledWith, StandsSo, HasLife, IsOnTop, LivesAt}
use Rattle.golf_meaning_runs.specs.Books.{MayServe}
use Rattle.golf_meaning_runs.specs.Books.{Top, Below, FramesStand, FramesMatch, HasMasks}
use Rattle.golf_meaning_runs.specs.Joins.{Calls, StartsOn, IsBegun, IsNoCall, Joined, AsksNoCall}
use Rattle.golf_meaning_runs.specs.Joins.{HasLeftSo, JoinsEnded, DeferredHaveRun, DefersAll, JoinsOnTop, JoinsTop, JoinsBelow}
use Rattle.golf_meaning_runs.specs.Books.{TiesOf}
use Rattle.golf_meaning_runs.proofs.Serving.{none-late}
use Rattle.golf_meaning_runs.proofs.Framing.{fresh-top, fresh-joins, fresh-ties}
use Rattle.golf_meaning_runs.proofs.Joining.{IsPlain, plain-no-call, deferrals-next, deferrals-plain, calls-deferral}
use Rattle.golf_meaning_runs.proofs.Joining.{all-ran, none-panicked, Comes, starts-next, starts-none, plain-starting, calls-starting, map-last}

-- A call that is left with its frame: it is joined, and all of its deferred calls have run
pub record Leaves (code : Code) (types : RunTypes) (a : Actor) (k : Call) : Type 0 where
  pub life : HasLife code types k
  pub joins : JoinsEnded k k.standing
  pub ran : DeferredHaveRun k (deferrals k.shown)
  pub so : HasLeftSo (is_unwinding a.frame.leaving) k
  pub ties : TiesOf code types k a.frame.discards

-- What becomes of the goroutine of a turn, whose innermost call is this one after the turn, and which passes these
-- arguments on. It stands with this frame in place of the one that was innermost; it starts a goroutine; it enters a
-- call; its innermost frame is gone by returning or by unwinding; it blocks; it ends the program; or no rule fits.
pub data Became (code : Code) (types : RunTypes) (s : State) (a : Actor) (k : Call) (ks : List Call)
    (arguments : List Value) (cs : List Change) : Type 0 where
  Stays : (f : FrameView) (before later : List Change) → cs ≡ before ++ (stands a f ++ later)
      → AreOthers s a.number before → AreOthers s a.number later
      → FramesMatch code types Mode.Running (f ∷ a.callers) (k ∷ ks) → Became code types s a k ks arguments cs
  Starts : (g : ℕ) (fn : Function) (f : FrameView) → (length arguments ≡ fn.params) × AreArguments types g arguments
      → cs ≡ Change.Spawn (started_on a (opened g arguments true fn)) ∷ stands a f
      → slice_get code.functions g ≡ Some fn → IsBegun (Origin.Starting (as_seen k)) g arguments
      → FramesMatch code types Mode.Running (f ∷ a.callers) (with_start s.next_goroutine g arguments k ∷ ks)
      → Became code types s a k ks arguments cs
  Enters : (x f : FrameView) → cs ≡ Change.Become a.number (with_frames a (x ∷ (f ∷ a.callers))) ∷ []
      → FramesMatch code types Mode.Running (x ∷ (f ∷ a.callers))
      (fresh (origin_by a.frame.leaving k) x.function arguments ∷ (k ∷ ks))
      → Became code types s a k ks arguments cs
  Returns : (v : Option Value) → cs ≡ returns_to a v a.callers → Leaves code types a k
      → k.standing ≡ Standing.Ended (Halt.Returned v) → is_unwinding a.frame.leaving ≡ false → Became code types s a k ks arguments cs
  Unwinds : (x : Fault) → cs ≡ unwinds_to a x a.callers → Leaves code types a k
      → is_unwinding a.frame.leaving ≡ true → Became code types s a k ks arguments cs
  Blocks : (f : FrameView) (kind : WaitKind) (waits : List Wait) (before : List Change) → cs ≡ before
      ++ blocks a f kind waits → AreOthers s a.number before
      → ((ticket : ℕ) → FramesMatch code types (Mode.Blocked kind a.line waits ticket) (f ∷ a.callers) (k ∷ ks))
      → Became code types s a k ks arguments cs
  Dies : (kind : PanicKind) → cs ≡ dies a kind → HasLife code types k → Became code types s a k ks arguments cs
  Stuck : cs ≡ [] → Became code types s a k ks arguments cs

-- ---- a frame that is not being left

module _ (code : Code) (types : RunTypes) (masks : HasMasks code) (s : State) (fn : Function) (a : Actor) (i : Instr)
    (k : Call) (ks : List Call) (is : slice_get code.functions k.function ≡ Some fn)
    (own : a.frame.function ≡ k.function) (given : AreArguments types k.function k.arguments)
    (idle : k.standing ≡ Standing.Goes) (staying : a.frame.leaving ≡ Leaving.No)
    (below : FramesStand code types (beginning k) a.callers ks) (joined : Joined k.shown k.got k.made)
    (defers : DefersAll k a.frame) (ties : TiesOf code types k a.frame.discards) where
  -- what it is if this was shown, or nothing, and if it ends so
  abbrev B : Option (Operation × Asked) → Option Halt → List Change → Type 0
  B m end cs = Became code types s a (with_turn m end k) ks (operands_shown m) cs

  divided : (v : Option Value)
      → ◌≡◌ {A = Standing} (Standing.Ended Halt.Divided) (Standing.Ended (Halt.Returned v)) → ⊥
  divided v e = cc

  asks-still : (q : Asked) (v : Option Value)
      → ◌≡◌ {A = Standing} (Standing.Asks q) (Standing.Ended (Halt.Returned v)) → ⊥
  asks-still q v e = cc

  -- it divides by zero
  divides : Life fn (shaping types k.function) k.arguments k.shown k.got (Now.Halted Halt.Divided) → (cs : List Change)
      → cs ≡ panics a PanicKind.DivideByZero → B None (Some Halt.Divided) cs
  divides life cs e = Became.Stays _ [] [] e tt tt (
    (fn, is, own, (given, (Now.Halted Halt.Divided, life, refl)), tt),
    (joined, none-late (with_turn None (Some Halt.Divided) k) a.frame defers, inl (λ v e. divided v e)),
    ties,
    below,
  )

  -- it has shown one operation more
  module _ (o : Operation) (q : Asked) where
    abbrev k1 : Call
    k1 = with_turn (Some (o, q)) None k

    abbrev asked : Now
    asked = Now.Asks a.frame.at (frame_of a.frame) k.shown

    abbrev AsksIt : Type 0
    AsksIt = Life fn (shaping types k.function) k.arguments (k.shown ++ o ∷ []) k.got asked

    -- it starts no goroutine
    ties-so : starting o.instr o.operands ≡ [] → TiesOf code types k1 a.frame.discards
    ties-so none = record {
      begun = ties.begun;
      by = ties.by;
      discards_so = ties.discards_so;
      made_live = ties.made_live;
      late_live = ties.late_live;
      starts_so = ties.starts_so ∙ sym (starts-none k.shown o none);
    }

    shown-top : (f : FrameView) (mode : Mode) → f.function ≡ k.function → f.discards ≡ a.frame.discards → starting o.instr o.operands ≡ []
        → AsksIt
        → Top types fn k1 f f.leaving mode → JoinsTop k1 f f.leaving mode
        → FramesMatch code types mode (f ∷ a.callers) (k1 ∷ ks)
    shown-top f mode same discards none life top joins = (
      (fn, is, same, (given, (asked, life, tt)), top),
      joins,
      subst (λ z. TiesOf code types k1 z) (sym discards) (ties-so none),
      below,
    )

    -- it is no call
    asks-so : IsNoCall o.instr → AsksNoCall k1
    asks-so plain = (k.shown, o, refl, (plain, joined))

    asks-on-top : IsNoCall o.instr → (f : FrameView) (mode : Mode) → JoinsOnTop k1 f (Standing.Asks q) mode
    asks-on-top plain f Mode.Running = inl (asks-so plain)
    asks-on-top plain f (Mode.Blocked kind line waits ticket) = asks-so plain

    -- with these deferred calls
    joins-so : IsNoCall o.instr → (f : FrameView) (mode : Mode) → f.leaving ≡ Leaving.No
        → f.deferred ≡ deferrals (k.shown ++ o ∷ []) → JoinsTop k1 f f.leaving mode
    joins-so plain f mode stays ds = subst (λ l. JoinsTop k1 f l mode) (sym stays)
        (asks-on-top plain f mode, (defers.0, ds))

    plain-joins : IsPlain o.instr → (f : FrameView) (mode : Mode) → f.leaving ≡ Leaving.No
        → f.deferred ≡ a.frame.deferred → JoinsTop k1 f f.leaving mode
    plain-joins plain f mode stays ds = joins-so (plain-no-call o.instr plain) f mode stays
        (ds ∙ defers.1 ∙ sym (deferrals-plain k.shown o plain))

    -- it panics
    unwinds : IsPlain o.instr → (end : Option Halt) → AsksIt → (kind : PanicKind) (cs : List Change) → cs ≡ panics a kind
        → B (Some (o, q)) end cs
    unwinds plain end life kind cs e = Became.Stays _ [] [] e tt tt (
      (fn, is, own, (given, (asked, life, tt)), tt),
      (
        inl (asks-so (plain-no-call o.instr plain)),
        none-late k1 a.frame (defers.0, defers.1 ∙ sym (deferrals-plain k.shown o plain)),
        inl (λ v e. asks-still q v e),
      ),
      ties-so (plain-starting o.instr o.operands plain),
      below,
    )

    -- it goes on, with this answer
    goes-on : (f : FrameView) (values : List Value) → AsksIt → f.function ≡ k.function
        → f.discards ≡ a.frame.discards → starting o.instr o.operands ≡ [] → f.leaving ≡ Leaving.No → JoinsTop k1 f f.leaving Mode.Running → f.operands ≡ pushed values q.rest → LivesAt types fn k1 q.ranks f.at f.slots values q.rest
        → FramesMatch code types Mode.Running (f ∷ a.callers) (k1 ∷ ks)
    goes-on f values life same discards none kept joins ops lives =
        shown-top f Mode.Running same discards none life (subst (λ z. Top types fn k1 f z Mode.Running) (sym kept)
        (values, ops, lives)) joins

    -- a wait of a call that asks
    module _ (f : FrameView) (Answering : ℕ → Type 0)
        (lives : (to : ℕ) (values : List Value) → Answering to
        → LivesAt types fn k1 q.ranks to f.slots values q.rest) where
      serves-there : (ws : List Wait) → Answering f.at → ServedGoOn ws → Every (MayServe types fn k1 q f) ws
      serves-there [] there h = tt
      serves-there (w ∷ ws) there h = (
        (
          λ values. subst (λ t. LivesAt types fn k1 q.ranks (unwrap_or t f.at) f.slots values q.rest) (sym h.0)
              (lives f.at values there),
          λ lock. lives f.at [] there,
        ),
        serves-there ws there h.1,
      )

      no-lock : (side : Side) → (side ≡ Side.Send) ⊎ (side ≡ Side.Receive) → IsOfLock side → ⊥
      no-lock side (inl e) lock = subst IsOfLock e lock
      no-lock side (inr e) lock = subst IsOfLock e lock

      serves-chosen : (ts : List ℕ) → ((t : ℕ) → In t ts → Answering t) → (ws : List Wait) → Chooses ts ws
          → Every (MayServe types fn k1 q f) ws
      serves-chosen ts leads [] h = tt
      serves-chosen ts leads (w ∷ ws) h = (
        (
          λ values. subst (λ t. LivesAt types fn k1 q.ranks (unwrap_or t f.at) f.slots values q.rest) (sym h.0.1)
              (lives h.0.0 values (leads h.0.0 h.0.2)),
          λ lock. absurd (no-lock w.side h.0.3 lock),
        ),
        serves-chosen ts leads ws h.1,
      )

    -- what an operation comes to, if its instruction is neither a call, nor `go`, nor `defer`
    module _ (shown : Instr) (Answering : ℕ → Type 0) (Waiting : ℕ → List Wait → Type 0)
        (asking : Asking fn (shaping types k.function) k.arguments k.shown k.got o a q.rest Answering (lower q.ranks))
        (serves : (to : ℕ) (ws : List Wait) → Waiting to ws → Every (MayServe types fn k1 q (stood a to q.rest)) ws)
        (plain : IsPlain o.instr) (none : (n : ℕ) → CalledBy shown n → ⊥) (no_deferral : DefersBy shown → ⊥) where
      by-coming : (end : Option Halt) (cs : List Change) → C code s a shown o.operands q.rest Answering Waiting cs
          → B (Some (o, q)) end cs
      by-coming end cs (C.NoRule e) = Became.Stuck e
      by-coming end cs (C.Answered to values before later there e h j) =
          Became.Stays (stood a to (pushed values q.rest)) before later e h j
          (goes-on (stood a to (pushed values q.rest)) values asking.asks own refl
          (plain-starting o.instr o.operands plain) staying
          (plain-joins plain (stood a to (pushed values q.rest)) Mode.Running staying refl) refl
          (asking.lives_on to values there))
      by-coming end cs (C.Waits to kind waits before there e h) =
          Became.Blocks (stood a to q.rest) kind waits before e h
          (λ ticket. shown-top (stood a to q.rest) (Mode.Blocked kind a.line waits ticket) own refl
          (plain-starting o.instr o.operands plain) asking.asks
          (subst (λ y. Top types fn k1 (stood a to q.rest) y (Mode.Blocked kind a.line waits ticket)) (sym staying)
          (refl, serves to waits there))
          (plain-joins plain (stood a to q.rest) (Mode.Blocked kind a.line waits ticket) staying refl))
      by-coming end cs (C.Calls to g fn1 there called found e) = absurd (none g called)
      by-coming end cs (C.Starts to g fn1 there called found e) = absurd (none g called)
      by-coming end cs (C.Defers to d there by e) = absurd (no_deferral by)
      by-coming end cs (C.Panics kind e) = unwinds plain end asking.asks kind cs e
      by-coming end cs (C.Dies kind e) = Became.Dies kind e (fn, is, (given, (asked, asking.asks, tt)))

  -- ---- it has shown a call instruction, a `go` or a `defer`

  module _ (j : Instr) (vs rest : List Value)
      (asking : Asking fn (shaping types k.function) k.arguments k.shown k.got (operation j vs) a rest (After a) (λ to. 0))
      (passes : (n : ℕ) → CalledBy j n → CanBeCalledWith code types n vs) (end : Option Halt) where
    abbrev q : Asked
    q = record { ranks = []; rest = rest }

    abbrev o : Operation
    o = operation j vs

    abbrev k2 : Call
    k2 = k1 o q

    abbrev after : FrameView
    after = next a.frame rest

    lived : HasLife code types k2
    lived = (fn, is, (given, (asked o q, asking.asks, tt)))

    -- it calls
    module _ (g : ℕ) (called : Calls j g) (of : CalledBy j g) (fn1 : Function)
        (found : slice_get code.functions g ≡ Some fn1) where
      abbrev first : FrameView
      first = opened g vs false fn1

      abbrev new : Call
      new = fresh (Origin.Calling (as_seen k2)) g vs

      caller-below : FramesStand code types (beginning new) (after ∷ a.callers) (k2 ∷ ks)
      caller-below = (
        (
          fn,
          is,
          own,
          (given, (asked o q, asking.asks, tt)),
          subst (λ l. Below types fn k2 after l) (sym staying) (refl, λ values. asking.lives_on (a.frame.at + 1) values refl),
        ),
        subst (λ l. JoinsBelow (beginning new) k2 after l) (sym staying)
            (refl, (k.shown, o, refl, (called, refl, joined)), (defers.0, defers.1 ∙ sym (calls-none called))),
        ties-so o q (calls-starting j g vs called),
        below,
      )
        where
          calls-none : Calls j g → deferrals (k.shown ++ o ∷ []) ≡ deferrals k.shown
          calls-none c = deferrals-next k.shown o ∙ calls-deferral j g vs (deferrals k.shown) c

      is-entered : FramesMatch code types Mode.Running (first ∷ (after ∷ a.callers))
          (fresh (origin_by a.frame.leaving k2) g vs ∷ (k2 ∷ ks))
      is-entered = subst (λ l. FramesMatch code types Mode.Running (first ∷ (after ∷ a.callers))
          (fresh (origin_by l k2) g vs ∷ (k2 ∷ ks))) (sym staying) (
            fresh-top code types masks (Origin.Calling (as_seen k2)) g vs false fn1 found (passes g of fn1 found),
            fresh-joins (Origin.Calling (as_seen k2)) g vs false fn1,
            fresh-ties code types (Origin.Calling (as_seen k2)) g vs false (k.shown, o, refl, (called, refl)) (lived, tt) refl,
            caller-below,
          )

      enters-by : (full : Bool) (cs : List Change) → cs ≡ choose full (dies a PanicKind.StackOverflow)
          (Change.Become a.number (with_frames a (first ∷ (after ∷ a.callers))) ∷ []) → B (Some (o, q)) end cs
      enters-by true cs e = Became.Dies PanicKind.StackOverflow e lived
      enters-by false cs e = Became.Enters first after e is-entered

    calls-by : (g : ℕ) → Calls j g → CalledBy j g → (m : Option Function) → slice_get code.functions g ≡ m
        → (cs : List Change)
        → cs ≡ on_some (enters a (after ∷ a.callers)) (option_map (opened g vs false) m) → B (Some (o, q)) end cs
    calls-by g called of None found cs e = Became.Stuck e
    calls-by g called of (Some fn1) found cs e =
        enters-by g called of fn1 found (is_full (after ∷ a.callers)) cs e

    -- it starts a goroutine
    starts-by : (g : ℕ) → StartsOn j g → CalledBy j g → IsNoCall j → deferrals (k.shown ++ o ∷ []) ≡ deferrals k.shown
        → starting j vs ≡ (g, vs) ∷ [] → (m : Option Function) → slice_get code.functions g ≡ m → (cs : List Change)
        → cs ≡ on_some (λ x. Change.Spawn (started_on a x) ∷ turns_on a rest) (option_map (opened g vs true) m)
        → B (Some (o, q)) end cs
    starts-by g starts of plain same one None found cs e = Became.Stuck e
    starts-by g starts of plain same one (Some fn1) found cs e =
        let c = with_start s.next_goroutine g vs k2 in
        Became.Starts g fn1 after (passes g of fn1 found) e found (k.shown, o, refl, (starts, refl)) (
          (
            fn,
            is,
            own,
            (given, (asked o q, asking.asks, tt)),
            subst (λ l. Top types fn c after l Mode.Running) (sym staying)
                ([], refl, asking.lives_on (a.frame.at + 1) [] refl),
          ),
          subst (λ l. JoinsTop c after l Mode.Running) (sym staying)
              (inl (asks-so o q plain), (defers.0, defers.1 ∙ sym same)),
          record {
            begun = ties.begun;
            by = ties.by;
            discards_so = ties.discards_so;
            made_live = ties.made_live;
            late_live = ties.late_live;
            starts_so = map-last started_as k.spawned (record { number = s.next_goroutine; function = g; arguments = vs })
                ∙ ap (λ zs. zs ++ ((g, vs) ∷ [])) ties.starts_so
                ∙ ap (λ zs. all_starts k.shown ++ zs) (sym one) ∙ sym (starts-next k.shown o);
          },
          below,
        )

    -- it defers a call
    abbrev deferring : ℕ → FrameView
    deferring f = record a.frame {
      at = a.frame.at + 1;
      operands = rest;
      deferred = record { function = f; arguments = vs } ∷ a.frame.deferred;
    }

    defers-by : (f : ℕ) → IsNoCall j → starting j vs ≡ []
        → deferrals (k.shown ++ o ∷ []) ≡ record { function = f; arguments = vs } ∷ deferrals k.shown
        → (cs : List Change) → cs ≡ stands a (deferring f) → B (Some (o, q)) end cs
    defers-by f plain none more cs e = Became.Stays (deferring f) [] [] e tt tt
        (goes-on o q (deferring f) [] asking.asks own refl none staying
        (joins-so o q plain (deferring f) Mode.Running staying
        (ap (λ ds. record { function = f; arguments = vs } ∷ ds) defers.1 ∙ sym more)) refl
        (asking.lives_on (a.frame.at + 1) [] refl))

  returned : (v : Option Value) (rest : List Value)
      → Life fn (shaping types k.function) k.arguments k.shown k.got (Now.Halted (Halt.Returned v))
      → (ds : List Deferred) → a.frame.deferred ≡ ds → (cs : List Change) → cs ≡ returns_by a v rest ds
      → B None (Some (Halt.Returned v)) cs
  returned v rest life [] last cs e =
      let k2 = with_turn None (Some (Halt.Returned v)) k in
      Became.Returns v e (record {
        life = (fn, is, (given, (Now.Halted (Halt.Returned v), life, refl)));
        joins = joined;
        ran = all-ran k2 a.frame last (none-late k2 a.frame defers);
        so = subst (λ l. HasLeftSo (is_unwinding l) k2) (sym staying) ((v, refl), none-panicked k2 defers.0);
        ties = ties;
      }) refl (ap is_unwinding staying)
  returned v rest life (d ∷ ds) last cs e = Became.Stays _ [] [] e tt tt (
    (fn, is, own, (given, (Now.Halted (Halt.Returned v), life, refl)), refl),
    (
      joined,
      none-late (with_turn None (Some (Halt.Returned v)) k) a.frame defers,
      none-panicked (with_turn None (Some (Halt.Returned v)) k) defers.0,
      tt,
    ),
    ties,
    below,
  )

  -- nothing was shown, and it stands there
  silent : (to : ℕ) (d : Frame) → Life fn (shaping types k.function) k.arguments k.shown k.got (Now.Stands to d)
      → (cs : List Change) → cs ≡ stands a (record a.frame { at = to; slots = d.slots; operands = d.operands })
      → B None None cs
  silent to d life cs e =
      let f : FrameView = record a.frame { at = to; slots = d.slots; operands = d.operands } in
      Became.Stays f [] [] e tt tt (
        (
          fn,
          is,
          own,
          (given, (Now.Stands to d, life, subst (λ z. StandsSo z (Now.Stands to d)) (sym idle) tt)),
          subst (λ l. Top types fn k f l Mode.Running) (sym staying)
              (subst (λ m. IsOnTop types fn k f m Mode.Running) (sym idle) life),
        ),
        subst (λ l. JoinsTop k f l Mode.Running) (sym staying)
            (subst (λ z. JoinsOnTop k f z Mode.Running) (sym idle) joined, defers),
        ties,
        below,
      )

  after-served : (o : Operation) (rest : List Value)
      → Asking fn (shaping types k.function) k.arguments k.shown k.got o a rest (After a) (λ to. 0)
      → (to : ℕ) (ws : List Wait) → WaitsAfter a to ws
      → Every (MayServe types fn (k1 o (record { ranks = []; rest = rest })) (record { ranks = []; rest = rest })
      (stood a to rest)) ws
  after-served o rest asking to ws h = serves-there o (record { ranks = []; rest = rest }) (stood a to rest)
      (After a) asking.lives_on ws h.0 h.1

  choice-served : (ts : List ℕ) (o : Operation) (rest : List Value)
      → Asking fn (shaping types k.function) k.arguments k.shown k.got o a rest (λ to. In to ts) (lower ts)
      → (to : ℕ) (ws : List Wait) → WaitsFor ts to ws
      → Every (MayServe types fn (k1 o (record { ranks = ts; rest = rest })) (record { ranks = ts; rest = rest })
      (stood a to rest)) ws
  choice-served ts o rest asking to ws (inl h) =
      serves-there o (record { ranks = ts; rest = rest }) (stood a to rest) (λ z. In z ts) asking.lives_on ws h.0 h.1
  choice-served ts o rest asking to ws (inr h) =
      serves-chosen o (record { ranks = ts; rest = rest }) (stood a to rest) (λ z. In z ts) asking.lives_on ts
      (λ t m. m) ws h

  -- an operation without targets, by its instruction
  by-instr : (j : Instr) (vs rest : List Value) → j ≡ i
      → Asking fn (shaping types k.function) k.arguments k.shown k.got (operation j vs) a rest (After a) (λ to. 0)
      → ((n : ℕ) → CalledBy j n → CanBeCalledWith code types n vs) → (end : Option Halt) (cs : List Change)
      → Comes code a j vs rest cs → C code s a j vs rest (After a) (WaitsAfter a) cs
      → B (Some (operation j vs, record { ranks = []; rest = rest })) end cs
  by-instr (Instr.Call f n) vs rest same asking passes end cs comes h =
      calls-by (Instr.Call f n) vs rest asking passes end f refl refl (slice_get code.functions f) refl cs comes
  by-instr (Instr.Go f n) vs rest same asking passes end cs comes h =
      starts-by (Instr.Go f n) vs rest asking passes end f refl refl tt
      (deferrals-next k.shown (operation (Instr.Go f n) vs)) refl (slice_get code.functions f) refl cs comes
  by-instr (Instr.Defer f n) vs rest same asking passes end cs comes h =
      defers-by (Instr.Defer f n) vs rest asking passes end f tt refl
      (deferrals-next k.shown (operation (Instr.Defer f n) vs)) cs comes
  by-instr j vs rest same asking passes end cs comes h =
      by-coming (operation j vs) (record { ranks = []; rest = rest }) j (After a) (WaitsAfter a) asking
      (after-served (operation j vs) rest asking) tt (λ n c. c) (λ d. d) end cs h

  pub by-life : (m : Option (Operation × Asked)) (end : Option Halt) (cs : List Change)
      → ((vs : List Value) (q : Asked) → m ≡ Some (operation i vs, q) → (n : ℕ) → CalledBy i n
      → CanBeCalledWith code types n vs)
      → ((vs : List Value) (q : Asked) → m ≡ Some (operation i vs, q) → Comes code a i vs q.rest cs)
      → L code s fn (shaping types k.function) k.arguments k.shown k.got a i m end cs → B m end cs
  by-life m end cs passes comes (L.Silent to d life none goes e) =
      subst (λ z. B z end cs) (sym none) (subst (λ z. B None z cs) (sym goes) (silent to d life cs e))
  by-life m end cs passes comes (L.Returns v rest life none ends e) =
      subst (λ z. B z end cs) (sym none) (subst (λ z. B None z cs) (sym ends)
      (returned v rest life a.frame.deferred refl cs e))
  by-life m end cs passes comes (L.Divides life none ends e) =
      subst (λ z. B z end cs) (sym none) (subst (λ z. B None z cs) (sym ends) (divides life cs e))
  by-life m end cs passes comes (L.NoRule e) = Became.Stuck e
  by-life m end cs passes comes (L.Shows vs rest asking some h) =
      subst (λ z. B z end cs) (sym some) (by-instr i vs rest refl asking
      (passes vs (record { ranks = []; rest = rest }) some) end cs
      (comes vs (record { ranks = []; rest = rest }) some) h)
  by-life m end cs passes comes (L.Chooses cases otherwise vs rest same asking some h) =
      let ts = targets cases otherwise in
      subst (λ z. B z end cs) (sym some)
      (by-coming (operation (choice_of cases otherwise) vs) (record { ranks = ts; rest = rest }) i (λ to. In to ts)
      (WaitsFor ts) asking (choice-served ts (operation (choice_of cases otherwise) vs) rest asking) tt
      (λ n called. absurd (subst (λ z. CalledBy z n) same called))
      (λ d. absurd (subst DefersBy same d)) end cs h)
  by-life m end cs passes comes (L.Throws v n asks rest some e) =
      subst (λ z. B z end cs) (sym some) (unwinds (operation Instr.Panic (v ∷ []))
      (record { ranks = []; rest = rest }) tt end asks (PanicKind.Custom n) cs e)
