-- The calls of a run are joined.
-- For: `RunsAreJoined`, golf_meaning_runs/specs/JoinedRuns.antt; the law `runs_are_joined`, src/lib.rt.
-- By: cases of how a frame is left, and of how its call stands; induction over lists of frames and of calls.
use Rattle.std.proofs.Common.{◌⊎◌, ℕ, Bool, List, [], ◌∷◌, map, inl, inr}
use Rattle.golf_theory.specs.Membership.{Every}
use Rattle.golf_theory.proofs.Lists.{Every-weaker}
use Rattle.golf_syntax_trees.specs.declared.declarations.File.{File}
use Rattle.golf_data.specs.declared.code.Code.{Code}
use Rattle.golf_data.specs.declared.code.Function.{Function}
use Rattle.golf_data.specs.declared.goroutine.Leaving.{Leaving}
use Rattle.golf_data.specs.declared.goroutine.Mode.{Mode}
use Rattle.golf_model.specs.Views.{FrameView}
use Rattle.golf_model_typing.specs.Types.{ValueType, Shape}
use Rattle.golf_code_of.specs.Files.{CodeOf}
use Rattle.golf_code_never_stuck.specs.Reached.{IsProgram}
use Rattle.golf_code_never_stuck.proofs.Reaching.{files-have-shapes}
use Rattle.golf_meaning_runs.specs.CallRecords.{Standing, CallSnapshot, Call, Beginning, call_of, beginning, beginners}
use Rattle.golf_meaning_runs.specs.Joins.{JoinsOnTop, JoinsTop, JoinsBelow}
use Rattle.golf_meaning_runs.specs.Books.{RunTypes, one_of, HasLife, IsOnTop, Top, AreLived, TiesOf, FramesStand}
use Rattle.golf_meaning_runs.specs.Books.{FramesMatch, CallHasLeft, book_of, left_of}
use Rattle.golf_meaning_runs.specs.Laws.{IsMeant}
use Rattle.golf_meaning_runs.specs.JoinedRuns.{IsAnsweredSo, IsInnermost, Awaits, RunsNow, AreBelow}
use Rattle.golf_meaning_runs.specs.JoinedRuns.{AreJoined, AreMeant, IsTied, HasLeftJoined, RunsAreJoined}
use Rattle.golf_meaning_runs.proofs.Runs.{types, live-meant, booked-run}

-- ---- without frames

module _ (code : Code) (types : RunTypes) where
  answered-so : (fn : Function) (k : Call) (f : FrameView) (o : Standing) (mode : Mode) → IsOnTop types fn k f o mode
      → JoinsOnTop k f o mode → IsAnsweredSo k o
  answered-so fn k f Standing.Goes mode t h = h
  answered-so fn k f (Standing.Asks q) Mode.Running t (inl h) = inl h
  answered-so fn k f (Standing.Asks q) Mode.Running t (inr (v, h, e)) = inr (v, h)
  answered-so fn k f (Standing.Asks q) (Mode.Blocked kind line waits ticket) t h = inl h
  answered-so fn k f (Standing.Ended i) Mode.Running t h = absurd t
  answered-so fn k f (Standing.Ended i) (Mode.Blocked kind line waits ticket) t h = absurd t

  innermost-so : (fn : Function) (k : Call) (f : FrameView) (l : Leaving) (mode : Mode) → Top types fn k f l mode
      → JoinsTop k f l mode → IsInnermost k
  innermost-so fn k f Leaving.No mode t h = inl (answered-so fn k f k.standing mode t h.0, h.1.0)
  innermost-so fn k f (Leaving.Returning v) mode t h = inr (h.0, (f.deferred, h.1.0, h.1.1))
  innermost-so fn k f (Leaving.Unwinding x) mode t h = inr (h.0, (f.deferred, h.1.0, h.1.1))

  below-so : (above : Beginning) (k : Call) (f : FrameView) (l : Leaving) → JoinsBelow above k f l
      → Awaits above k ⊎ RunsNow above k
  below-so above k f Leaving.No h = inl (h.0, h.1, h.2.0)
  below-so above k f (Leaving.Returning v) h = inr (h.0.0, h.0.1, (f.deferred, h.0.2.0, h.0.2.1))
  below-so above k f (Leaving.Unwinding x) h = inr (h.0.0, h.0.1, (f.deferred, h.0.2.0, h.0.2.1))

  -- a call that has a frame
  abbrev IsHeld : Call → Type 0
  IsHeld k = (d : Bool) × TiesOf code types k d

  all-below : (above : Beginning) (fs : List FrameView) (ks : List Call) → FramesStand code types above fs ks
      → AreBelow above ks × Every IsHeld ks
  all-below above [] [] h = (h, tt)
  all-below above [] (k ∷ ks) h = absurd h
  all-below above (f ∷ fs) [] h = absurd h
  all-below above (f ∷ fs) (k ∷ ks) h =
      let rest = all-below (beginning k) fs ks h.3 in
      ((below-so above k f f.leaving h.1, rest.0), ((f.discards, h.2), rest.1))

  all-joined : (mode : Mode) (fs : List FrameView) (ks : List Call) → FramesMatch code types mode fs ks
      → AreJoined ks × Every IsHeld ks
  all-joined mode [] [] h = (tt, tt)
  all-joined mode [] (k ∷ ks) h = absurd h
  all-joined mode (f ∷ fs) [] h = absurd h
  all-joined mode (f ∷ fs) (k ∷ ks) h =
      let rest = all-below (beginning k) fs ks h.3 in
      ((innermost-so h.0.0 k f f.leaving mode h.0.4 h.1, rest.0), ((f.discards, h.2), rest.1))

-- ---- calls mean their sources

module _ (file : File) (program : IsProgram file) (shapes : List (List Shape)) (known : List (ℕ × ValueType)) where
  all-meant : (xs : List CallSnapshot) → AreLived (CodeOf file) (types file program shapes known) xs → AreMeant file xs
  all-meant xs h = Every-weaker (λ (x : CallSnapshot). HasLife (CodeOf file) (types file program shapes known) (call_of x))
      (λ (x : CallSnapshot). IsMeant file (call_of x)) (λ x l. live-meant file program shapes known (call_of x) l) xs h

  tied : (k : Call) → IsHeld (CodeOf file) (types file program shapes known) k → IsTied file k
  tied k h = record {
    begun = h.1.begun;
    by = all-meant (beginners k.origin) h.1.by;
    made = all-meant (map one_of k.made) h.1.made_live;
    late = all-meant (map one_of k.late) h.1.late_live;
    started = h.1.starts_so;
  }

  left-joined : (k : Call) → CallHasLeft (CodeOf file) (types file program shapes known) k → HasLeftJoined file k
  left-joined k h = record {
    joins = h.joins;
    ran = h.ran;
    so = h.so;
    tied = record {
      begun = h.begun;
      by = all-meant (beginners k.origin) h.by;
      made = all-meant (map one_of k.made) h.made_live;
      late = all-meant (map one_of k.late) h.late_live;
      started = h.starts_so;
    };
  }

pub runs-are-joined : RunsAreJoined
runs-are-joined file program events =
    let x = files-have-shapes file program in
    let b = booked-run file program events in
    let code = CodeOf file in
    let all = types file program x.0 b.0 in record {
      going = λ none g r entry.
          let h = all-joined code all r.mode r.frames (book_of code events g) (b.1.going none g r entry) in
          (h.0, Every-weaker (IsHeld code all) (IsTied file) (tied file program x.0 b.0) (book_of code events g) h.1);
      first = b.1.first;
      left = Every-weaker (CallHasLeft code all) (HasLeftJoined file) (left-joined file program x.0 b.0)
          (left_of code events) b.1.left;
    }
