-- A turn of a run after which each goroutine matches its calls.
-- For: `FramesMatch` and `turned_book`, golf_meaning_runs/specs/Books.antt.
-- By: cases of the goroutine of the turn, of its innermost frame and of how that is left; no induction.
use Rattle.std.proofs.Common.{◌≡◌, ℕ, ◌==◌, Bool, true, false, cond, List, [], ◌∷◌, Option, Some, None, refl, ap, sym}
use Rattle.std.proofs.Common.{◌∙◌, subst, slice_get, arith}
use Rattle.std.specs.Prelude.{option_map, option_and_then, option_to_list}
use Rattle.std.proofs.Common.{◌++◌, length, ◌-◌, inl, inr}
use Rattle.std.proofs.lemmas.Bool.{eqb-true}
use Rattle.golf_theory.specs.Membership.{Every}
use Rattle.golf_theory.specs.Maps.{put, find, IsRising}
use Rattle.golf_theory.specs.Maps.{AllBelow as KeysBelow}
use Rattle.golf_theory.proofs.MapFinds.{find-put, find-put_other, find_above}
use Rattle.golf_data.specs.declared.value.Value.{Value}
use Rattle.golf_data.specs.declared.code.Code.{Code}
use Rattle.golf_data.specs.declared.code.CodeLine.{CodeLine}
use Rattle.golf_data.specs.declared.code.Function.{Function}
use Rattle.golf_data.specs.declared.goroutine.Deferred.{Deferred}
use Rattle.golf_data.specs.declared.goroutine.Leaving.{Leaving}
use Rattle.golf_data.specs.declared.goroutine.Mode.{Mode}
use Rattle.golf_data.specs.declared.goroutine.Queued.{Queued}
use Rattle.golf_model.specs.Views.{FrameView, GoroutineView}
use Rattle.golf_model.specs.State.{State, opened}
use Rattle.golf_model.specs.Changes.{Change, apply_all}
use Rattle.golf_model.specs.Actors.{Actor, on_some}
use Rattle.golf_model.specs.Finalisers.{begins_queued}
use Rattle.golf_model.specs.Turn.{changes, line_at, return_line, acting, performs, frame_changes, goroutine_changes}
use Rattle.golf_model.specs.Turn.{turn_of}
use Rattle.golf_meaning_runs.specs.FrameShapes.{FitsShaping}
use Rattle.golf_meaning_runs.specs.VisibleOutcomes.{CalledBy}
use Rattle.golf_meaning_runs.specs.Life.{frame, Now, Life}
use Rattle.golf_meaning_runs.specs.TurnsInLives.{answer, operation, Asked, shows, ends_with}
use Rattle.golf_meaning_runs.proofs.Turning.{turns-are-lived}
use Rattle.golf_meaning_runs.specs.Books.{RunTypes, shaping, Shaped, AreArguments, Book}
use Rattle.golf_meaning_runs.specs.CallRecords.{Standing, Origin, Call, fresh, beginning, beginners}
use Rattle.golf_meaning_runs.specs.Joins.{IsOutermostOf, OutermostIs, IsBegun, IsOutermost, DiscardsSo, Joined, DefersAll, JoinsOnTop, JoinsTop}
use Rattle.golf_meaning_runs.specs.Books.{AreLived, TiesOf, FramesStand, popped}
use Rattle.golf_meaning_flat.specs.Worlds.{pushed}
use Rattle.golf_meaning_flat.specs.Flat.{lower}
use Rattle.golf_meaning_runs.specs.Books.{settled_by, with_turn, line_shows, line_ends, turned_call, operands_shown}
use Rattle.golf_meaning_runs.specs.Books.{passed, calls_after, frames_in, frames_at, left_by, CanBeCalledWith, HasLife}
use Rattle.golf_meaning_runs.specs.Books.{IsOnTop}
use Rattle.golf_meaning_runs.specs.Books.{Top, FramesMatch, HasMasks}
use Rattle.golf_meaning_runs.proofs.Framing.{fresh-top, fresh-joins, fresh-ties, answer-is, settled-lives}
use Rattle.golf_meaning_runs.proofs.Joining.{comes}
use Rattle.golf_meaning_runs.proofs.Others.{Fits, runs-awake}
use Rattle.golf_meaning_runs.proofs.Owning.{Became, by-life}
use Rattle.golf_meaning_runs.proofs.Leaving.{by-returning, by-unwinding}
use Rattle.golf_meaning_runs.proofs.Turned.{Done, done-going, done, none-started}
use Rattle.golf_meaning_runs.specs.Books.{CallHasLeft}

-- Each call has a life, and unless the run has ended each goroutine matches its calls. The outermost calls are those of
-- goroutines 0 and 1, or were begun by `go`.
pub record Booked (code : Code) (types : RunTypes) (s : State) (b : Book) : Type 0 where
  pub lives : (h : ℕ) → Every (HasLife code types) (b h)
  pub fits : s.recorded ≡ None → Fits code types b s
  pub outer : (h : ℕ) → OutermostIs (IsOutermostOf h) (b h)

-- the first call of a goroutine that no call began
pub first-fits : (code : Code) (types : RunTypes) (masks : HasMasks code) (by : Origin) (g : ℕ) (vs : List Value)
    (fn : Function) → beginners by ≡ [] → IsOutermost by → DiscardsSo by true → IsBegun by g vs → slice_get code.functions g ≡ Some fn → (length vs ≡ fn.params) × AreArguments types g vs
    → FramesMatch code types Mode.Running (opened g vs true fn ∷ []) (fresh by g vs ∷ [])
first-fits code types masks by g vs fn none first discards begun is count = (
  fresh-top code types masks by g vs true fn is count,
  fresh-joins by g vs true fn,
  fresh-ties code types by g vs true begun (subst (AreLived code types) (sym none) tt) discards,
  first,
)

-- a call whose last answer is written down
record Settled (code : Code) (types : RunTypes) (fn : Function) (k : Call) (f : FrameView) (settled : Call)
    : Type 0 where
  begins : beginning settled ≡ beginning k
  joined : Joined settled.shown settled.got settled.made
  defers : DefersAll settled f
  ties : TiesOf code types settled f.discards
  same : settled.function ≡ k.function
  given : AreArguments types settled.function settled.arguments
  idle : settled.standing ≡ Standing.Goes
  life : Life fn (shaping types settled.function) settled.arguments settled.shown settled.got
      (Now.Stands f.at (frame f.slots f.operands))

-- of none or one value the top comes first and last
pushed-one : (v : Option Value) (rest : List Value) → option_to_list v ++ rest ≡ pushed (option_to_list v) rest
pushed-one None rest = refl
pushed-one (Some v) rest = refl

-- the last operation is answered: it was no call, or its call has returned the answer
settled-joins : (k : Call) (f : FrameView) (q : Asked) → JoinsOnTop k f (Standing.Asks q) Mode.Running
    → Joined k.shown
    (k.got ++ answer (lower q.ranks f.at) (popped (length f.operands - length q.rest) [] f.operands) ∷ []) k.made
settled-joins k f q (inl (os, o, shown, (plain, joined))) =
    let a = answer (lower q.ranks f.at) (popped (length f.operands - length q.rest) [] f.operands) in
    subst (λ z. Joined z (k.got ++ a ∷ []) k.made) (sym shown) (Joined.Other o a joined plain)
settled-joins k f q (inr (v, (os, o, shown, (made, x, made_is, called, returned, joined)), ops)) =
    let a = answer (lower q.ranks f.at) (popped (length f.operands - length q.rest) [] f.operands) in
    let values : a.values ≡ option_to_list v =
    ap (λ zs. popped (length zs - length q.rest) [] zs) (ops ∙ pushed-one v q.rest)
    ∙ answer-is (option_to_list v) q.rest in
    subst (λ z. Joined k.shown (k.got ++ a ∷ []) z) (sym made_is)
    (subst (λ z. Joined z (k.got ++ a ∷ []) (made ++ x ∷ [])) (sym shown)
    (Joined.Returned o a x v joined called returned values))

settles : (code : Code) (types : RunTypes) (fn : Function) (k : Call) (f : FrameView) (m : Standing)
    → JoinsOnTop k f m Mode.Running → DefersAll k f → TiesOf code types k f.discards
    → AreArguments types k.function k.arguments → k.standing ≡ m
    → Shaped types k.function f.at (frame f.slots f.operands) → IsOnTop types fn k f m Mode.Running
    → Settled code types fn k f (settled_by m f k)
settles code types fn k f (Standing.Ended i) joins all ties given e fits h = absurd h
settles code types fn k f Standing.Goes joins all ties given e fits h = record {
  begins = refl;
  joined = joins;
  defers = all;
  ties = ties;
  same = refl;
  given = given;
  idle = e;
  life = h;
}
settles code types fn k f (Standing.Asks q) joins all ties given e fits h = record {
  begins = refl;
  joined = settled-joins k f q joins;
  defers = all;
  ties = ties;
  same = refl;
  given = given;
  idle = refl;
  life = settled-lives types fn k f q fits h;
}

-- the innermost frame has the shape of its place, and its function fits its shapes; and what a goroutine with these
-- frames requeues in its turn, and the entries of the queue, have as many values as the functions have parameters
pub record PassesOn (code : Code) (types : RunTypes) (s : State) (frames : List FrameView) : Type 0 where
  pub stands : (f : FrameView) (callers : List FrameView) → frames ≡ f ∷ callers → f.leaving ≡ Leaving.No
      → Shaped types f.function f.at (frame f.slots f.operands)
  pub fitting : (f : FrameView) (callers : List FrameView) → frames ≡ f ∷ callers → f.leaving ≡ Leaving.No
      → (fn : Function) → slice_get code.functions f.function ≡ Some fn → FitsShaping fn (shaping types f.function)
  pub operands : (f : FrameView) (callers : List FrameView) (l : CodeLine) → frames ≡ f ∷ callers
      → f.leaving ≡ Leaving.No → line_at code f.function f.at ≡ Some l
      → (vs : List Value) (q : Asked) → shows l.instr f.operands ≡ Some (operation l.instr vs, q) → (n : ℕ)
      → CalledBy l.instr n → CanBeCalledWith code types n vs
  pub deferred : (f : FrameView) (callers : List FrameView) → frames ≡ f ∷ callers
      → Every (λ (d : Deferred). CanBeCalledWith code types d.function d.arguments) f.deferred
  pub queue : Every (λ (q : Queued). CanBeCalledWith code types q.function (Value.Ref q.object ∷ [])) s.queue

module _ (code : Code) (types : RunTypes) (masks : HasMasks code) (b : Book) (s : State)
    (rising : IsRising s.goroutines) (bounded : KeysBelow s.next_goroutine s.goroutines) (fits : Fits code types b s)
    (choice g : ℕ) (r : GoroutineView) (found : find g s.goroutines ≡ Some r) (runs : r.mode ≡ Mode.Running)
    (passes : PassesOn code types s r.frames) where
  fresh-number : find s.next_goroutine s.goroutines ≡ None
  fresh-number = find_above s.next_goroutine s.goroutines s.next_goroutine bounded (omega arith)

  -- ---- a goroutine with this innermost frame

  module _ (f : FrameView) (callers : List FrameView) (frames : r.frames ≡ f ∷ callers) (k : Call) (ks : List Call)
      (calls : b g ≡ k ∷ ks) (here : FramesMatch code types Mode.Running (f ∷ callers) (k ∷ ks)) where
    abbrev a : ℕ → Actor
    a line = acting g r f callers line

    -- what becomes of it, as it is left so
    abbrev Becomes : ℕ → Leaving → List Change → Type 0
    Becomes line left cs = Became code types s (a line) (turned_call code f left k) ks (passed code f left) cs

    by-line : f.leaving ≡ Leaving.No → (m : Option CodeLine) → line_at code f.function f.at ≡ m
        → (performs code g r f callers choice s m ≡ [] → ⊥) → (line : ℕ)
        × Becomes line Leaving.No (performs code g r f callers choice s m)
    by-line staying None e fit = absurd (fit refl)
    by-line staying (Some l) e fit =
        let o = here.0 in
        let fn = o.0 in
        let kk = settled_by k.standing f k in
        let top : IsOnTop types fn k f k.standing Mode.Running =
        subst (λ left. Top types fn k f left Mode.Running) staying o.4 in
        let fits = passes.stands f callers frames staying in
        let joins : JoinsTop k f Leaving.No Mode.Running =
        subst (λ left. JoinsTop k f left Mode.Running) staying here.1 in
        let x = settles code types fn k f k.standing joins.0 joins.1 here.2 o.3.0 refl
        (subst (λ n. Shaped types n f.at (frame f.slots f.operands)) o.2 fits) top in
        let at : slice_get fn.body f.at ≡ Some l =
        sym (ap (λ (m : Option Function). option_and_then (λ fn. slice_get fn.body f.at) m)
        (ap (λ n. slice_get code.functions n) o.2 ∙ o.1)) ∙ e in
        let lived = turns-are-lived code fn (shaping types kk.function) kk.arguments kk.shown kk.got
        (a l.line) choice s l at (subst (λ n. FitsShaping fn (shaping types n)) (o.2 ∙ sym x.same)
        (passes.fitting f callers frames staying fn (ap (λ n. slice_get code.functions n) o.2 ∙ o.1))) x.life
        (subst (λ n. Shaped types n f.at (frame f.slots f.operands)) (o.2 ∙ sym x.same) fits)
        (runs-awake s rising g r found runs) in
        let is : slice_get code.functions kk.function ≡ Some fn = ap (λ n. slice_get code.functions n) x.same ∙ o.1 in
        let became = by-life code types masks s fn (a l.line) l.instr kk ks is
        (o.2 ∙ sym x.same) x.given x.idle staying
        (subst (λ z. FramesStand code types z callers ks) (sym x.begins) here.3) x.joined x.defers x.ties
        (shows l.instr f.operands)
        (ends_with l.instr f.at (frame f.slots f.operands)) (changes code l.instr (a l.line) choice s)
        (passes.operands f callers l frames staying e) (comes code (a l.line) choice s l.instr) lived in (
          l.line,
          subst (λ m. Became code types s (a l.line) (with_turn (line_shows m f) (line_ends m f) kk) ks
              (operands_shown (line_shows m f)) (changes code l.instr (a l.line) choice s)) (sym e) became,
        )

    by-leaving : (left : Leaving) → f.leaving ≡ left → (frame_changes code g r f callers choice s left ≡ [] → ⊥)
        → (line : ℕ) × Becomes line left (frame_changes code g r f callers choice s left)
    by-leaving Leaving.No e fit = by-line e (line_at code f.function f.at) refl fit
    by-leaving (Leaving.Returning v) e fit = (
      return_line code f,
      by-returning code types masks s (a (return_line code f)) k ks here v e f.deferred refl
          (passes.deferred f callers frames),
    )
    by-leaving (Leaving.Unwinding x) e fit =
        (x.line, by-unwinding code types masks s (a x.line) k ks here x e f.deferred refl (passes.deferred f callers frames))

    by-frame : (frame_changes code g r f callers choice s f.leaving ≡ [] → ⊥) → (t : State)
        → KeysBelow t.next_goroutine t.goroutines
        → t ≡ apply_all (frame_changes code g r f callers choice s f.leaving) s → Done code types s g b t
    by-frame fit t above e =
        let x = by-leaving f.leaving refl fit in
        done code types masks b s rising fits fresh-number (a x.0) r found runs frames k ks calls here.3
        (frame_changes code g r f callers choice s f.leaving) x.1 fit t above e

  -- ---- goroutine 0, which begins an entry of its queue

  module _ (is_first : g ≡ 0) (none : r.frames ≡ []) (q : Queued) (queue : List Queued) (first : s.queue ≡ q ∷ queue)
      (fn : Function) (takes : CanBeCalledWith code types q.function (Value.Ref q.object ∷ []))
      (is : slice_get code.functions q.function ≡ Some fn) where
    abbrev x : FrameView
    x = opened q.function (Value.Ref q.object ∷ []) true fn

    abbrev begun : GoroutineView
    begun = record r { frames = x ∷ [] }

    begins : (t : State) → KeysBelow t.next_goroutine t.goroutines
        → t ≡ apply_all (Change.TakeQueued ∷ (Change.Become 0 begun ∷ [])) s → Done code types s g b t
    begins t above e =
        let next : t.next_goroutine ≡ s.next_goroutine = ap (λ (v : State). v.next_goroutine) e in
        let at0 : find 0 s.goroutines ≡ Some r = ap (λ j. find j s.goroutines) (sym is_first) ∙ found in
        let own : find g t.goroutines ≡ Some begun = ap (λ (v : State). find g v.goroutines) e
        ∙ ap (λ j. find j (put 0 begun s.goroutines)) is_first ∙ find-put 0 begun s.goroutines r at0 in
        let before : frames_at s g ≡ [] = ap frames_in found ∙ none in
        done-going code types b s g t (find_above t.next_goroutine t.goroutines s.next_goroutine above
        (omega (arith, next))) begun (fresh Origin.Finalising q.function (Value.Ref q.object ∷ []) ∷ []) own
        (none-started code types b s g t (find_above t.next_goroutine t.goroutines s.next_goroutine above
        (omega (arith, next))) (calls_after code s.queue (frames_at s g) (frames_at t g) (b g))
        ∙ ap (λ z. calls_after code z (frames_at s g) (frames_at t g) (b g)) first
        ∙ ap (λ z. calls_after code (q ∷ queue) z (frames_at t g) (b g)) before
        ∙ ap (λ z. calls_after code (q ∷ queue) [] z (b g)) (ap frames_in own))
        (subst (λ mode. FramesMatch code types mode (x ∷ [])
        (fresh Origin.Finalising q.function (Value.Ref q.object ∷ []) ∷ []))
        (sym runs)
        (first-fits code types masks Origin.Finalising q.function (Value.Ref q.object ∷ []) fn refl tt tt
        (q.object.0, refl) is (takes fn is)))
        (subst (λ z. Every (CallHasLeft code types) (left_by code z (frames_at t g) (b g))) (sym before) tt)
        (λ h y ne i. fits h y (sym (find-put_other 0 begun s.goroutines h (λ same. ne (same ∙ sym is_first)))
        ∙ ap (λ (v : State). find h v.goroutines) (sym e) ∙ i))

  by-function : g ≡ 0 → r.frames ≡ [] → (q : Queued) (queue : List Queued) → s.queue ≡ q ∷ queue
      → CanBeCalledWith code types q.function (Value.Ref q.object ∷ []) → (m : Option Function)
      → slice_get code.functions q.function ≡ m → (cs : List Change)
      → cs ≡ on_some (λ y. Change.TakeQueued ∷ (Change.Become 0 (record r { frames = y ∷ [] }) ∷ []))
      (option_map (opened q.function (Value.Ref q.object ∷ []) true) m)
      → (cs ≡ [] → ⊥) → (t : State) → KeysBelow t.next_goroutine t.goroutines → t ≡ apply_all cs s
      → Done code types s g b t
  by-function is_first none q queue first takes None e cs made fit t above is = absurd (fit made)
  by-function is_first none q queue first takes (Some fn) e cs made fit t above is =
      begins is_first none q queue first fn takes e t above (is ∙ ap (λ z. apply_all z s) made)

  by-queue : g ≡ 0 → r.frames ≡ [] → (queue : List Queued) → s.queue ≡ queue → (begins_queued code r queue ≡ [] → ⊥)
      → (t : State) → KeysBelow t.next_goroutine t.goroutines → t ≡ apply_all (begins_queued code r queue) s
      → Done code types s g b t
  by-queue is_first none [] e fit t above is = absurd (fit refl)
  by-queue is_first none (q ∷ queue) e fit t above is =
      by-function is_first none q queue e (subst
      (λ qs. Every (λ (q : Queued). CanBeCalledWith code types q.function (Value.Ref q.object ∷ [])) qs) e
      passes.queue).0
      (slice_get code.functions q.function) refl (begins_queued code r (q ∷ queue)) refl fit t above is

  by-number : r.frames ≡ [] → (first : Bool) → g == 0 ≡ first → (cond first (begins_queued code r s.queue) [] ≡ [] → ⊥)
      → (t : State) → KeysBelow t.next_goroutine t.goroutines
      → t ≡ apply_all (cond first (begins_queued code r s.queue) []) s → Done code types s g b t
  by-number none true e fit t above is = by-queue (eqb-true g 0 e) none s.queue refl fit t above is
  by-number none false e fit t above is = absurd (fit refl)

  by-calls : (f : FrameView) (callers : List FrameView) → r.frames ≡ f ∷ callers → (cs : List Call) → b g ≡ cs
      → FramesMatch code types Mode.Running (f ∷ callers) cs
      → (frame_changes code g r f callers choice s f.leaving ≡ [] → ⊥) → (t : State)
      → KeysBelow t.next_goroutine t.goroutines
      → t ≡ apply_all (frame_changes code g r f callers choice s f.leaving) s → Done code types s g b t
  by-calls f callers frames [] e h fit t above is = absurd h
  by-calls f callers frames (k ∷ ks) e h fit t above is = by-frame f callers frames k ks e h fit t above is

  by-frames : (fs : List FrameView) → r.frames ≡ fs → (goroutine_changes code g r choice s fs ≡ [] → ⊥) → (t : State)
      → KeysBelow t.next_goroutine t.goroutines → t ≡ apply_all (goroutine_changes code g r choice s fs) s
      → Done code types s g b t
  by-frames [] e fit t above is = by-number e (g == 0) refl fit t above is
  by-frames (f ∷ callers) e fit t above is =
      by-calls f callers e (b g) refl (subst (λ mode. FramesMatch code types mode (f ∷ callers) (b g)) runs
      (subst (λ fs. FramesMatch code types r.mode fs (b g)) e (fits g r found))) fit t above is

  -- the turn of the goroutine
  pub turn-done : (turn_of code g choice s (find g s.goroutines) ≡ [] → ⊥) → (t : State)
      → KeysBelow t.next_goroutine t.goroutines → t ≡ apply_all (turn_of code g choice s (find g s.goroutines)) s
      → Done code types s g b t
  turn-done fit t above is =
      by-frames r.frames refl (λ e. fit (ap (turn_of code g choice s) found ∙ e)) t above
      (is ∙ ap (λ m. apply_all (turn_of code g choice s m) s) found)
