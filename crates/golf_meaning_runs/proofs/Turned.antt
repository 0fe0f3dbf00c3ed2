-- After the changes of a turn the goroutines match their calls.
-- For: `FramesMatch` and `calls_after`, golf_meaning_runs/specs/Books.antt.
-- By: cases of what becomes of the goroutine of the turn; no induction.
use Rattle.std.proofs.Common.{◌≡◌, ℕ, ◌==◌, Bool, true, false, not, cond, List, [], ◌∷◌, ◌++◌, length, Option, Some}
use Rattle.std.proofs.Common.{None, refl, ap, sym, ◌∙◌, subst, slice_get, arith}
use Rattle.std.proofs.lemmas.Bool.{eqb-true, eqb-false, ne_eqb, eq-eqb}
use Rattle.golf_theory.specs.Membership.{Every}
use Rattle.golf_theory.specs.Maps.{find, put, add, only, IsRising}
use Rattle.golf_theory.specs.Maps.{AllBelow as KeysBelow}
use Rattle.golf_theory.proofs.MapFinds.{find-put, find-put_other, find-add, find-add_other, find-add_old, find-only}
use Rattle.golf_theory.proofs.MapFinds.{find-only_out, find_above}
use Rattle.golf_data.specs.declared.value.Value.{Value}
use Rattle.golf_data.specs.declared.code.Code.{Code}
use Rattle.golf_data.specs.declared.code.Function.{Function}
use Rattle.golf_data.specs.declared.goroutine.Ending.{Ending}
use Rattle.golf_data.specs.declared.goroutine.Fault.{Fault}
use Rattle.golf_data.specs.declared.goroutine.Mode.{Mode}
use Rattle.golf_data.specs.declared.goroutine.PanicKind.{PanicKind}
use Rattle.golf_data.specs.declared.goroutine.Wait.{Wait}
use Rattle.golf_data.specs.declared.goroutine.WaitKind.{WaitKind}
use Rattle.golf_model.specs.Views.{FrameView, GoroutineView}
use Rattle.golf_model.specs.State.{State, opened}
use Rattle.golf_model.specs.Wakes.{unwinding}
use Rattle.golf_model.specs.Changes.{Change, become, block, spawn, finish, apply, apply_all}
use Rattle.golf_model.specs.Actors.{Actor, with_frames, standing, stands, dies, blocks, choose}
use Rattle.golf_model.specs.Calls.{ends, handed_back, returns_to, unwinds_to}
use Rattle.golf_meaning_flat.specs.Worlds.{Halt}
use Rattle.golf_meaning_runs.specs.VisibleOutcomes.{AreOthers, started_on}
use Rattle.golf_meaning_runs.specs.Books.{RunTypes, AreArguments, Book, turned_call, passed}
use Rattle.golf_meaning_runs.specs.CallRecords.{Standing, Origin, Call, Beginning, fresh, as_seen, beginning, is_unwinding}
use Rattle.golf_meaning_runs.specs.CallRecords.{leaving_so, noted_below, with_start, noting_start}
use Rattle.golf_meaning_runs.specs.Books.{rebooked, calls_after, frames_in, frames_at, left_by, HasLife}
use Rattle.golf_meaning_runs.specs.Books.{FramesStand, FramesMatch, CallHasLeft, begun_by, HasMasks}
use Rattle.golf_meaning_runs.specs.Joins.{GoesNoMore, IsBegun}
use Rattle.golf_meaning_runs.proofs.Framing.{fresh-top, fresh-joins, fresh-ties, returned-matches}
use Rattle.golf_meaning_runs.proofs.Framing.{unwound-below}
use Rattle.golf_meaning_runs.proofs.Joining.{ended-more, ended-so, left-so}
use Rattle.golf_meaning_runs.proofs.Others.{Fits, one-some, none-some, Keeps, keeps-start, keeps-all, keeps-become}
use Rattle.golf_meaning_runs.proofs.Owning.{Leaves, Became}
use Rattle.golf_meaning_runs.proofs.Rebooking.{rebooked-same, rebooked-more, rebooked-fewer, left-same, left-more}
use Rattle.golf_meaning_runs.proofs.Rebooking.{entered, turned-beginning, left-fewer, below-live, matches-live, none-below}

-- the calls of a goroutine that a turn has started, in the state that it leaves
abbrev pub started_calls : Code → State → ℕ → Book → State → ℕ → List Call
started_calls code s g b t h = begun_by code (frames_at s g) (b g) (frames_at t h)

-- and those of the goroutine of the turn, which notes who has started
abbrev pub own_calls : Code → State → ℕ → Book → State → List Call
own_calls code s g b t = noting_start s.next_goroutine (started_calls code s g b t s.next_goroutine)
    (calls_after code s.queue (frames_at s g) (frames_at t g) (b g))

-- the calls of the goroutine that have left with its turn
abbrev pub calls_left : Code → State → ℕ → Book → State → List Call
calls_left code s g b t = left_by code (frames_at s g) (frames_at t g) (b g)

-- each goroutine matches its calls, unless the run has ended, and each call has a life
pub record Done (code : Code) (types : RunTypes) (s : State) (g : ℕ) (b : Book) (t : State) : Type 0 where
  pub lives : Every (HasLife code types) (own_calls code s g b t)
  pub begun : Every (HasLife code types) (started_calls code s g b t s.next_goroutine)
  pub left : Every (CallHasLeft code types) (calls_left code s g b t)
  pub fits : t.recorded ≡ None → (q : GoroutineView) → find g t.goroutines ≡ Some q
      → FramesMatch code types q.mode q.frames (own_calls code s g b t)
  pub others : t.recorded ≡ None → (h : ℕ) (q : GoroutineView) → (h ≡ g → ⊥) → find h t.goroutines ≡ Some q
      → FramesMatch code types q.mode q.frames (cond (h == s.next_goroutine) (started_calls code s g b t h) (b h))

-- the changes of two lists
apply-append : (xs ys : List Change) (s : State) → apply_all (xs ++ ys) s ≡ apply_all ys (apply_all xs s)
apply-append [] ys s = refl
apply-append (x ∷ xs) ys s = apply-append xs ys (apply x s)

-- no goroutine is new
module _ (code : Code) (types : RunTypes) (b : Book) (s : State) (g : ℕ) (t : State)
    (absent : find s.next_goroutine t.goroutines ≡ None) where
  begins-none : (fs : List FrameView) (ks : List Call) → begun_by code fs ks [] ≡ []
  begins-none [] ks = refl
  begins-none (f ∷ fs) [] = refl
  begins-none (f ∷ fs) (k ∷ ks) = refl

  starts-none : started_calls code s g b t s.next_goroutine ≡ []
  starts-none = ap (λ (m : Option GoroutineView). begun_by code (frames_at s g) (b g) (frames_in m)) absent
      ∙ begins-none (frames_at s g) (b g)

  none-begun : Every (HasLife code types) (started_calls code s g b t s.next_goroutine)
  none-begun = subst (Every (HasLife code types)) (sym starts-none) tt

  pub none-started : (ks : List Call)
      → noting_start s.next_goroutine (started_calls code s g b t s.next_goroutine) ks ≡ ks
  none-started ks = ap (λ z. noting_start s.next_goroutine z ks) starts-none

  others-fit : ((h : ℕ) (q : GoroutineView) → (h ≡ g → ⊥) → find h t.goroutines ≡ Some q
      → FramesMatch code types q.mode q.frames (b h))
      → (h : ℕ) (q : GoroutineView) → (h ≡ g → ⊥) → find h t.goroutines ≡ Some q
      → FramesMatch code types q.mode q.frames (cond (h == s.next_goroutine) (started_calls code s g b t h) (b h))
  others-fit fit h q ne e = elim (h == s.next_goroutine) as (λ z. h == s.next_goroutine ≡ z
      → FramesMatch code types q.mode q.frames (cond z (started_calls code s g b t h) (b h))) [
        | true ↦ λ i. absurd (none-some q (sym absent
            ∙ ap (λ j. find j t.goroutines) (sym (eqb-true h s.next_goroutine i))
            ∙ e))
        | false ↦ λ i. fit h q ne e
      ] refl

  -- a turn after which an ending is recorded
  done-ended : (e : Ending) → t.recorded ≡ Some e → Every (HasLife code types) (own_calls code s g b t)
      → Every (CallHasLeft code types) (calls_left code s g b t) → Done code types s g b t
  done-ended e is lives left = record {
    lives = lives;
    begun = none-begun;
    left = left;
    fits = λ none q f. absurd (none-some e (sym none ∙ is));
    others = λ none h q ne f. absurd (none-some e (sym none ∙ is));
  }

  -- a turn after which the goroutine is this one
  pub done-going : (q : GoroutineView) (calls : List Call) → find g t.goroutines ≡ Some q
      → own_calls code s g b t ≡ calls → FramesMatch code types q.mode q.frames calls
      → Every (CallHasLeft code types) (calls_left code s g b t)
      → ((h : ℕ) (x : GoroutineView) → (h ≡ g → ⊥) → find h t.goroutines ≡ Some x
      → FramesMatch code types x.mode x.frames (b h)) → Done code types s g b t
  done-going q calls found own m left fit = record {
    lives = subst (Every (HasLife code types)) (sym own) (matches-live code types q.mode q.frames calls m);
    begun = none-begun;
    left = left;
    fits = λ none x e. subst (λ (z : GoroutineView). FramesMatch code types z.mode z.frames (own_calls code s g b t))
        (one-some q x (sym found ∙ e)) (subst (λ ks. FramesMatch code types q.mode q.frames ks) (sym own) m);
    others = λ none h x ne e. others-fit fit h x ne e;
  }

module _ (code : Code) (types : RunTypes) (masks : HasMasks code) (b : Book) (s : State)
    (rising : IsRising s.goroutines) (fits : Fits code types b s)
    (fresh_number : find s.next_goroutine s.goroutines ≡ None)
    (a : Actor) (r : GoroutineView) (found : find a.number s.goroutines ≡ Some r) (runs : r.mode ≡ Mode.Running)
    (frames : r.frames ≡ a.frame ∷ a.callers) (k : Call) (ks : List Call) (calls : b a.number ≡ k ∷ ks)
    (below : FramesStand code types (beginning k) a.callers ks) where
  abbrev g : ℕ
  g = a.number

  -- the innermost call after the turn, and what it requeues
  abbrev after : Call
  after = turned_call code a.frame a.frame.leaving k

  abbrev arguments : List Value
  arguments = passed code a.frame a.frame.leaving

  -- if it leaves
  abbrev gone_so : Call
  gone_so = leaving_so a.frame.leaving after

  -- the call below notes it
  abbrev left_with : List Call
  left_with = noted_below k.origin gone_so ks

  -- a turn leaves how a call was begun
  same-beginning : beginning after ≡ beginning k
  same-beginning = turned-beginning code a.frame a.frame.leaving k

  below-after : FramesStand code types (beginning after) a.callers ks
  below-after = subst (λ z. FramesStand code types z a.callers ks) (sym same-beginning) below

  abbrev D : State → Type 0
  D t = Done code types s g b t

  frames-before : frames_at s g ≡ a.frame ∷ a.callers
  frames-before = ap frames_in found ∙ frames

  calls-are : (t : State) (fs : List FrameView) → frames_at t g ≡ fs
      → calls_after code s.queue (frames_at s g) (frames_at t g) (b g) ≡ rebooked code a.frame a.callers fs k ks
  calls-are t fs e =
      ap (λ z. calls_after code s.queue z (frames_at t g) (b g)) frames-before
      ∙ ap (λ z. calls_after code s.queue (a.frame ∷ a.callers) z (b g)) e
      ∙ ap (λ z. calls_after code s.queue (a.frame ∷ a.callers) fs z) calls

  -- no goroutine is new
  own-is : (t : State) (fs : List FrameView) → find s.next_goroutine t.goroutines ≡ None → frames_at t g ≡ fs
      → own_calls code s g b t ≡ rebooked code a.frame a.callers fs k ks
  own-is t fs absent e =
      none-started code types b s g t absent (calls_after code s.queue (frames_at s g) (frames_at t g) (b g))
      ∙ calls-are t fs e

  left-is : (t : State) (fs : List FrameView) → frames_at t g ≡ fs
      → calls_left code s g b t ≡ left_by code (a.frame ∷ a.callers) fs (k ∷ ks)
  left-is t fs e = ap (λ z. left_by code z (frames_at t g) (b g)) frames-before
      ∙ ap (λ z. left_by code (a.frame ∷ a.callers) z (b g)) e ∙ ap (λ z. left_by code (a.frame ∷ a.callers) fs z) calls

  -- so many calls have left, if these are its frames
  abbrev LeftWith : List FrameView → Type 0
  LeftWith fs = Every (CallHasLeft code types) (left_by code (a.frame ∷ a.callers) fs (k ∷ ks))

  with-left : (t : State) (fs : List FrameView) → frames_at t g ≡ fs → LeftWith fs
      → Every (CallHasLeft code types) (calls_left code s g b t)
  with-left t fs e h = subst (Every (CallHasLeft code types)) (sym (left-is t fs e)) h

  none-left : (f : FrameView) → LeftWith (f ∷ a.callers)
  none-left f = subst (Every (CallHasLeft code types)) (sym (left-same code a.frame k ks f a.callers)) tt

  start : Keeps code types b s rising fits g r s
  start = keeps-start code types b s rising fits g r found

  -- the number of a goroutine that is there is not the next one
  not-next : (h : ℕ) (q : GoroutineView) → find h s.goroutines ≡ Some q → h ≡ s.next_goroutine → ⊥
  not-next h q e same = none-some q (sym fresh_number ∙ ap (λ j. find j s.goroutines) (sym same) ∙ e)

  -- if no goroutine is new, none has the next number
  absent-by : (t : State) → KeysBelow t.next_goroutine t.goroutines → t.next_goroutine ≡ s.next_goroutine
      → find s.next_goroutine t.goroutines ≡ None
  absent-by t bounded e = find_above t.next_goroutine t.goroutines s.next_goroutine bounded (omega (arith, e))

  -- the goroutine stands with these frames
  by-keeping : (t : State) → KeysBelow t.next_goroutine t.goroutines → (q : GoroutineView)
      → Keeps code types b s rising fits g q t → (cs : List Call) → rebooked code a.frame a.callers q.frames k ks ≡ cs
      → FramesMatch code types q.mode q.frames cs → LeftWith q.frames → D t
  by-keeping t bounded q keeps cs own m left =
      let frames = ap frames_in keeps.own in
      done-going code types b s g t (absent-by t bounded keeps.next) q cs keeps.own
      (own-is t q.frames (absent-by t bounded keeps.next) frames ∙ own) m
      (with-left t q.frames frames left) keeps.others

  -- it becomes this one, after some changes of others
  become-keeps : (before : List Change) → AreOthers s g before → (q : GoroutineView) → q.mode ≡ Mode.Running
      → Keeps code types b s rising fits g q (become g q (apply_all before s))
  become-keeps before i q e = keeps-become code types b s rising fits g r q (apply_all before s) e
      (keeps-all code types b s rising fits g r runs before i s start)

  stays : (f : FrameView) (before later : List Change) → AreOthers s g before → AreOthers s g later
      → FramesMatch code types Mode.Running (f ∷ a.callers) (after ∷ ks) → (t : State)
      → KeysBelow t.next_goroutine t.goroutines → t ≡ apply_all (before ++ (stands a f ++ later)) s → D t
  stays f before later i j m t bounded e =
      let q = standing a f in
      let keeps = keeps-all code types b s rising fits g q refl later j (become g q (apply_all before s))
      (become-keeps before i q refl) in
      by-keeping t bounded q (subst (λ u. Keeps code types b s rising fits g q u)
      (sym (e ∙ apply-append before (stands a f ++ later) s)) keeps) (after ∷ ks)
      (rebooked-same code a.frame k ks f a.callers) m (none-left f)

  enters : (x f : FrameView) → FramesMatch code types Mode.Running (x ∷ (f ∷ a.callers))
      (entered code a.frame k ks x.function ∷ (after ∷ ks)) → (t : State) → KeysBelow t.next_goroutine t.goroutines
      → t ≡ apply_all (Change.Become g (with_frames a (x ∷ (f ∷ a.callers))) ∷ []) s → D t
  enters x f m t bounded e =
      let q = with_frames a (x ∷ (f ∷ a.callers)) in
      by-keeping t bounded q (subst (λ u. Keeps code types b s rising fits g q u) (sym e) (become-keeps [] tt q refl))
      (entered code a.frame k ks x.function ∷ (after ∷ ks)) (rebooked-more code a.frame k ks x f a.callers) m
      (subst (Every (CallHasLeft code types)) (sym (left-more code a.frame k ks x f a.callers)) tt)

  blocks-it : (f : FrameView) (kind : WaitKind) (waits : List Wait) (before : List Change) → AreOthers s g before
      → ((ticket : ℕ) → FramesMatch code types (Mode.Blocked kind a.line waits ticket) (f ∷ a.callers) (after ∷ ks))
      → (t : State) → KeysBelow t.next_goroutine t.goroutines → t ≡ apply_all (before ++ blocks a f kind waits) s → D t
  blocks-it f kind waits before i m t bounded e =
      let u = apply_all before s in
      let keeps = keeps-all code types b s rising fits g r runs before i s start in
      let q : GoroutineView = record (standing a f) { mode = Mode.Blocked kind a.line waits u.next_ticket } in
      let same : t ≡ block g kind a.line waits (standing a f) u = e ∙ apply-append before (blocks a f kind waits) s in
      let own : find g t.goroutines ≡ Some q = ap (λ (v : State). find g v.goroutines) same
      ∙ find-put g q u.goroutines r keeps.own in
      done-going code types b s g t (absent-by t bounded (ap (λ (v : State). v.next_goroutine) same ∙ keeps.next)) q
      (after ∷ ks) own (own-is t q.frames (absent-by t bounded (ap (λ (v : State). v.next_goroutine) same ∙ keeps.next))
      (ap frames_in own) ∙ rebooked-same code a.frame k ks f a.callers)
      (m u.next_ticket) (with-left t q.frames (ap frames_in own) (none-left f))
      (λ h x ne f. keeps.others h x ne (sym (find-put_other g q u.goroutines h ne)
      ∙ ap (λ (v : State). find h v.goroutines) (sym same) ∙ f))

  dies-so : (kind : PanicKind) → HasLife code types after → (t : State) → KeysBelow t.next_goroutine t.goroutines
      → t ≡ apply_all (dies a kind) s → D t
  dies-so kind life t bounded e =
      let own : find g t.goroutines ≡ Some r = ap (λ (v : State). find g v.goroutines) e ∙ found in
      done-ended code types b s g t (absent-by t bounded (ap (λ (v : State). v.next_goroutine) e))
      (Ending.Panicked kind (record { 0 = g }) a.line) (ap (λ (v : State). v.recorded) e)
      (subst (Every (HasLife code types)) (sym
      (own-is t r.frames (absent-by t bounded (ap (λ (v : State). v.next_goroutine) e)) (ap frames_in own) ∙ ap (λ fs. rebooked code a.frame a.callers fs k ks) frames
      ∙ rebooked-same code a.frame k ks a.frame a.callers)) (life, below-live code types (beginning k) a.callers ks below))
      (with-left t r.frames (ap frames_in own) (subst LeftWith (sym frames) (none-left a.frame)))

  -- ---- a goroutine that is started

  module _ (n : ℕ) (fn : Function) (f : FrameView)
      (count : (length arguments ≡ fn.params) × AreArguments types n arguments)
      (is : slice_get code.functions n ≡ Some fn) (begun : IsBegun (Origin.Starting (as_seen after)) n arguments)
      (m : FramesMatch code types Mode.Running (f ∷ a.callers) (with_start s.next_goroutine n arguments after ∷ ks)) where
    abbrev starter : Call
    starter = with_start s.next_goroutine n arguments after

    abbrev first_frame : FrameView
    first_frame = opened n arguments true fn

    abbrev new : GoroutineView
    new = started_on a first_frame

    abbrev own : GoroutineView
    own = standing a f

    abbrev u : State
    u = become g own (spawn new s)

    own-found : find g u.goroutines ≡ Some own
    own-found = find-put g own (add s.next_goroutine new s.goroutines) r
        (find-add_old s.next_goroutine new s.goroutines g r found)

    new-found : find s.next_goroutine u.goroutines ≡ Some new
    new-found = find-put_other g own (add s.next_goroutine new s.goroutines) s.next_goroutine
        (λ e. not-next g r found (sym e)) ∙ find-add s.next_goroutine new s.goroutines fresh_number

    other-found : (h : ℕ) → (h ≡ g → ⊥) → (h ≡ s.next_goroutine → ⊥) → find h u.goroutines ≡ find h s.goroutines
    other-found h ne nn = find-put_other g own (add s.next_goroutine new s.goroutines) h ne
        ∙ find-add_other s.next_goroutine new s.goroutines h nn

    begun-is : started_calls code s g b u s.next_goroutine ≡ fresh (Origin.Starting (as_seen after)) n arguments ∷ []
    begun-is =
        ap (λ (m : Option GoroutineView). begun_by code (frames_at s g) (b g) (frames_in m)) new-found
        ∙ ap (λ fs. begun_by code fs (b g) (first_frame ∷ [])) frames-before
        ∙ ap (λ cs. begun_by code (a.frame ∷ a.callers) cs (first_frame ∷ [])) calls

    new-fits : FramesMatch code types Mode.Running (first_frame ∷ []) (started_calls code s g b u s.next_goroutine)
    new-fits = subst (λ cs. FramesMatch code types Mode.Running (first_frame ∷ []) cs) (sym begun-is) (
      fresh-top code types masks (Origin.Starting (as_seen after)) n arguments true fn is count,
      fresh-joins (Origin.Starting (as_seen after)) n arguments true fn,
      fresh-ties code types (Origin.Starting (as_seen after)) n arguments true begun
          ((matches-live code types Mode.Running (f ∷ a.callers) (starter ∷ ks) m).0, tt) tt,
      tt,
    )

    starts : (t : State) → t ≡ u → D t
    starts t e = subst D (sym e) (record {
      lives = subst (Every (HasLife code types)) (sym own-calls)
          (matches-live code types Mode.Running (f ∷ a.callers) (starter ∷ ks) m);
      begun = matches-live code types Mode.Running (first_frame ∷ [])
          (started_calls code s g b u s.next_goroutine) new-fits;
      left = with-left u (f ∷ a.callers) (ap frames_in own-found) (none-left f);
      fits = λ none q i. subst (λ (z : GoroutineView). FramesMatch code types z.mode z.frames (own_calls code s g b u))
          (one-some own q (sym own-found ∙ i))
          (subst (λ cs. FramesMatch code types Mode.Running (f ∷ a.callers) cs) (sym own-calls) m);
      others = λ none h q ne i. elim (h == s.next_goroutine) as (λ z. h == s.next_goroutine ≡ z
          → FramesMatch code types q.mode q.frames (cond z (started_calls code s g b u h) (b h))) [
            | true ↦ λ x.
                let same : h ≡ s.next_goroutine = eqb-true h s.next_goroutine x in
                subst (λ j. FramesMatch code types q.mode q.frames (started_calls code s g b u j)) (sym same)
                (subst (λ (z : GoroutineView). FramesMatch code types z.mode z.frames
                (started_calls code s g b u s.next_goroutine))
                (one-some new q (sym new-found ∙ ap (λ j. find j u.goroutines) (sym same) ∙ i)) new-fits)
            | false ↦ λ x. fits h q (sym (other-found h ne (λ same. eqb-false h s.next_goroutine x same)) ∙ i)
          ] refl;
    })
      where
        own-calls : own_calls code s g b u ≡ starter ∷ ks
        own-calls =
            ap (λ z. noting_start s.next_goroutine z (calls_after code s.queue (frames_at s g) (frames_at u g) (b g)))
            begun-is ∙ ap (λ z. noting_start s.next_goroutine (fresh (Origin.Starting (as_seen after)) n arguments ∷ []) z)
            (calls-are u (f ∷ a.callers) (ap frames_in own-found) ∙ rebooked-same code a.frame k ks f a.callers)

  -- ---- the innermost frame is gone

  -- a goroutine without a frame has ended
  record Gone (t : State) : Type 0 where
    no_frames : frames_at t g ≡ []
    own_none : (q : GoroutineView) → find g t.goroutines ≡ Some q → q.frames ≡ []
    same : (h : ℕ) → (h ≡ g → ⊥) → find h t.goroutines ≡ find h s.goroutines
    next : t.next_goroutine ≡ s.next_goroutine

  gone-by : (number : Bool) → a.number == 0 ≡ number
      → Gone (apply_all (choose number (Change.Become 0 (with_frames a []) ∷ []) (Change.Leave a.number ∷ [])) s)
  gone-by true e =
      let q = with_frames a [] in
      let zero_is : g ≡ 0 = eqb-true g 0 e in
      let own : find g (put 0 q s.goroutines) ≡ Some q = ap (λ j. find j (put 0 q s.goroutines)) zero_is
      ∙ find-put 0 q s.goroutines r (ap (λ j. find j s.goroutines) (sym zero_is) ∙ found) in record {
        no_frames = ap frames_in own;
        own_none = λ x i. ap (λ (z : GoroutineView). z.frames) (sym (one-some q x (sym own ∙ i)));
        same = λ h ne. find-put_other 0 q s.goroutines h (λ same. ne (same ∙ sym zero_is));
        next = refl;
      }
  gone-by false e =
      let own : find g (only (λ h. not (h == g)) s.goroutines) ≡ None =
      find-only_out (λ h. not (h == g)) s.goroutines g (ap not (eq-eqb g g refl)) in record {
        no_frames = ap frames_in own;
        own_none = λ x i. absurd (none-some x (sym own ∙ i));
        same = λ h ne. find-only (λ j. not (j == g)) s.goroutines h (ap not (ne_eqb h g ne));
        next = refl;
      }

  gone : Gone (apply_all (ends a) s)
  gone = gone-by (a.number == 0) refl

  module _ (ended : CallHasLeft code types gone_so) (alone : a.callers ≡ []) (t : State)
      (bounded : KeysBelow t.next_goroutine t.goroutines) where
    no-calls : ks ≡ []
    no-calls = none-below code types (beginning k) ks
        (subst (λ fs. FramesStand code types (beginning k) fs ks) alone below)

    gone-calls : find s.next_goroutine t.goroutines ≡ None → frames_at t g ≡ [] → own_calls code s g b t ≡ []
    gone-calls absent e = own-is t [] absent e ∙ ap (noted_below k.origin gone_so) no-calls

    call-left : frames_at t g ≡ [] → Every (CallHasLeft code types) (calls_left code s g b t)
    call-left e = with-left t [] e (ended, tt)

    ends-so : Gone t → D t
    ends-so x =
        let absent = absent-by t bounded x.next in record {
          lives = subst (Every (HasLife code types)) (sym (gone-calls absent x.no_frames)) tt;
          begun = none-begun code types b s g t absent;
          left = call-left x.no_frames;
          fits = λ none q i. subst (λ fs. FramesMatch code types q.mode fs (own_calls code s g b t))
              (sym (x.own_none q i))
              (subst (λ cs. FramesMatch code types q.mode [] cs) (sym (gone-calls absent x.no_frames)) tt);
          others = λ none. others-fit code types b s g t absent (λ h q ne i. fits h q (sym (x.same h ne) ∙ i));
        }

    -- with an ending
    ends-all : (e : Ending) → t ≡ finish e (apply_all (ends a) s) → D t
    ends-all e is =
        done-ended code types b s g t (absent-by t bounded (ap (λ (v : State). v.next_goroutine) is ∙ gone.next)) e
        (ap (λ (v : State). v.recorded) is)
        (subst (Every (HasLife code types)) (sym (gone-calls
        (absent-by t bounded (ap (λ (v : State). v.next_goroutine) is ∙ gone.next))
        (ap (λ (v : State). frames_at v g) is ∙ gone.no_frames)))
        tt) (call-left (ap (λ (v : State). frames_at v g) is ∙ gone.no_frames))

    ends-returning : (first : Bool) → t ≡ apply_all (ends a ++ choose first (Change.Finish Ending.Returned ∷ []) []) s
        → D t
    ends-returning true is = ends-all Ending.Returned
        (is ∙ apply-append (ends a) (Change.Finish Ending.Returned ∷ []) s)
    ends-returning false is = ends-so (subst Gone (sym (is ∙ apply-append (ends a) [] s)) gone)

  -- with its frame the call has left
  one-left : CallHasLeft code types gone_so → (f g : FrameView) (fs : List FrameView) → a.callers ≡ f ∷ fs → LeftWith (g ∷ fs)
  one-left ended f g fs is = subst (λ z. Every (CallHasLeft code types) (left_by code (a.frame ∷ z) (g ∷ fs) (k ∷ ks)))
      (sym is) (subst (Every (CallHasLeft code types)) (sym (left-fewer code a.frame k ks f g fs)) (ended, tt))

  -- with all of its deferred calls it has left
  has-left : GoesNoMore after.standing → Leaves code types a after → CallHasLeft code types gone_so
  has-left ended h = record {
    life = h.life;
    ended = ended;
    joins = ended-so after (is_unwinding a.frame.leaving) after.standing h.joins;
    ran = h.ran;
    so = left-so after (is_unwinding a.frame.leaving) (is_unwinding a.frame.leaving) h.so;
    begun = h.ties.begun;
    by = h.ties.by;
    made_live = h.ties.made_live;
    late_live = h.ties.late_live;
    starts_so = h.ties.starts_so;
  }

  noted-is : noted_below gone_so.origin gone_so ks ≡ left_with
  noted-is = ap (λ (z : Beginning). noted_below z.origin gone_so ks) same-beginning

  returns : Leaves code types a after → (v : Option Value) → after.standing ≡ Standing.Ended (Halt.Returned v)
      → is_unwinding a.frame.leaving ≡ false → (callers : List FrameView) → a.callers ≡ callers → (t : State)
      → KeysBelow t.next_goroutine t.goroutines → t ≡ apply_all (returns_to a v callers) s → D t
  returns h v stands no_panic [] alone t bounded e =
      ends-returning (has-left (subst GoesNoMore (sym stands) tt) h) alone t bounded (a.number == 1) e
  returns h v stands no_panic (f ∷ fs) is t bounded e =
      let ended = has-left (subst GoesNoMore (sym stands) tt) h in
      let q = with_frames a (handed_back a.frame.discards v f ∷ fs) in
      by-keeping t bounded q (subst (λ u. Keeps code types b s rising fits g q u) (sym e) (become-keeps [] tt q refl))
      left_with
      (ap (λ z. rebooked code a.frame z (handed_back a.frame.discards v f ∷ fs) k ks) is
      ∙ rebooked-fewer code a.frame k ks f (handed_back a.frame.discards v f) fs)
      (subst (λ cs. FramesMatch code types Mode.Running (handed_back a.frame.discards v f ∷ fs) cs)
      noted-is
      (returned-matches code types gone_so h.life v stands no_panic a.frame.discards h.ties.discards_so f fs ks
      (subst (λ z. FramesStand code types (beginning after) z ks) is below-after)))
      (one-left ended f (handed_back a.frame.discards v f) fs is)

  unwinds : Leaves code types a after → (x : Fault) → is_unwinding a.frame.leaving ≡ true → (callers : List FrameView)
      → a.callers ≡ callers → (t : State) → KeysBelow t.next_goroutine t.goroutines
      → t ≡ apply_all (unwinds_to a x callers) s → D t
  unwinds h x panics [] alone t bounded e =
      ends-all (has-left (ended-more after after.standing h.joins) h) alone t bounded
      (Ending.Panicked x.kind (record { 0 = a.number }) x.line)
      (e ∙ apply-append (ends a) (Change.Finish (Ending.Panicked x.kind (record { 0 = a.number }) x.line) ∷ []) s)
  unwinds h x panics (f ∷ fs) is t bounded e =
      let ended = has-left (ended-more after after.standing h.joins) h in
      let q = with_frames a (unwinding x f ∷ fs) in
      by-keeping t bounded q (subst (λ u. Keeps code types b s rising fits g q u) (sym e) (become-keeps [] tt q refl))
      left_with
      (ap (λ z. rebooked code a.frame z (unwinding x f ∷ fs) k ks) is
      ∙ rebooked-fewer code a.frame k ks f (unwinding x f) fs)
      (subst (λ cs. FramesMatch code types Mode.Running (unwinding x f ∷ fs) cs) noted-is
      (unwound-below code types gone_so h.life panics x f fs ks
      (subst (λ z. FramesStand code types (beginning after) z ks) is below-after)))
      (one-left ended f (unwinding x f) fs is)

  -- whatever became of the goroutine, if a rule fitted
  pub done : (cs : List Change) → Became code types s a after ks arguments cs → (cs ≡ [] → ⊥) → (t : State)
      → KeysBelow t.next_goroutine t.goroutines → t ≡ apply_all cs s → D t
  done cs (Became.Stays f before later e i j m) fit t bounded is =
      stays f before later i j m t bounded (is ∙ ap (λ z. apply_all z s) e)
  done cs (Became.Starts n fn f count e found begun m) fit t bounded is =
      starts n fn f count found begun m t (is ∙ ap (λ z. apply_all z s) e)
  done cs (Became.Enters x f e m) fit t bounded is = enters x f m t bounded (is ∙ ap (λ z. apply_all z s) e)
  done cs (Became.Returns v e h stands no_panic) fit t bounded is =
      returns h v stands no_panic a.callers refl t bounded (is ∙ ap (λ z. apply_all z s) e)
  done cs (Became.Unwinds x e h panics) fit t bounded is =
      unwinds h x panics a.callers refl t bounded (is ∙ ap (λ z. apply_all z s) e)
  done cs (Became.Blocks f kind waits before e i m) fit t bounded is =
      blocks-it f kind waits before i m t bounded (is ∙ ap (λ z. apply_all z s) e)
  done cs (Became.Dies kind e life) fit t bounded is = dies-so kind life t bounded (is ∙ ap (λ z. apply_all z s) e)
  done cs (Became.Stuck e) fit t bounded is = absurd (fit e)
