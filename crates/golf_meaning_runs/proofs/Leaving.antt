-- What becomes of a goroutine whose innermost frame is being left.
-- For: `FramesMatch`, golf_meaning_runs/specs/Books.antt.
-- By: cases of how the frame is left, and of its deferred calls; no induction.
use Rattle.std.proofs.Common.{◌≡◌, Bool, true, false, List, [], ◌∷◌, ◌++◌, Option, Some, None, refl, ap, sym, ◌∙◌}
use Rattle.std.proofs.Common.{subst, slice_get, map}
use Rattle.std.specs.Prelude.{option_map}
use Rattle.golf_theory.specs.Membership.{In, Every}
use Rattle.golf_data.specs.declared.value.Value.{Value}
use Rattle.golf_data.specs.declared.code.Code.{Code}
use Rattle.golf_data.specs.declared.code.Function.{Function}
use Rattle.golf_data.specs.declared.goroutine.Deferred.{Deferred}
use Rattle.golf_data.specs.declared.goroutine.Fault.{Fault}
use Rattle.golf_data.specs.declared.goroutine.Leaving.{Leaving}
use Rattle.golf_data.specs.declared.goroutine.Mode.{Mode}
use Rattle.golf_data.specs.declared.goroutine.PanicKind.{PanicKind}
use Rattle.golf_model.specs.Views.{FrameView}
use Rattle.golf_model.specs.State.{State, opened}
use Rattle.golf_model.specs.Changes.{Change}
use Rattle.golf_model.specs.Actors.{Actor, with_frames, dies, on_some, choose}
use Rattle.golf_model.specs.Calls.{is_full, enters, leaves_returning, leaves_unwinding}
use Rattle.golf_meaning_flat.specs.Worlds.{Halt}
use Rattle.golf_meaning_runs.specs.Books.{RunTypes, first_arguments, CanBeCalledWith, Top}
use Rattle.golf_meaning_runs.specs.CallRecords.{Standing, Origin, Call, Beginning, fresh, as_seen, beginning, origin_by}
use Rattle.golf_meaning_runs.specs.CallRecords.{is_unwinding, deferrals}
use Rattle.golf_meaning_runs.specs.Joins.{HasLeftSo, IsBegun, JoinsEnded, deferred_of, StillDefers, JoinsTop, DefersIt, JoinsBelow}
use Rattle.golf_meaning_runs.specs.Books.{HasLife}
use Rattle.golf_meaning_runs.specs.Books.{Below}
use Rattle.golf_meaning_runs.specs.Books.{FramesStand, FramesMatch, HasMasks}
use Rattle.golf_meaning_runs.proofs.Framing.{fresh-top, fresh-joins, fresh-ties}
use Rattle.golf_meaning_runs.proofs.Joining.{ended-more, all-ran, in-middle}
use Rattle.golf_meaning_runs.proofs.Owning.{Leaves, Became}

returning : (v : Option Value) → Leaving.Returning v ≡ Leaving.No → ⊥
returning v e = cc

unwinds : (x : Fault) → Leaving.Unwinding x ≡ Leaving.No → ⊥
unwinds x e = cc

module _ (code : Code) (types : RunTypes) (masks : HasMasks code) (s : State) (a : Actor) (k : Call) (ks : List Call)
    (here : FramesMatch code types Mode.Running (a.frame ∷ a.callers) (k ∷ ks)) where
  -- the frame as it is while a deferred call runs
  abbrev waiting : List Deferred → FrameView
  waiting ds = record a.frame { deferred = ds }

  left-below : (l : Leaving) (fn : Function) (ds : List Deferred) → (l ≡ Leaving.No → ⊥)
      → Top types fn k a.frame l Mode.Running → Below types fn k (waiting ds) l
  left-below Leaving.No fn ds n h = absurd (n refl)
  left-below (Leaving.Returning v) fn ds n h = h
  left-below (Leaving.Unwinding x) fn ds n h = h

  -- the calls that are deferred: the latest first
  left-defers : (l : Leaving) → (l ≡ Leaving.No → ⊥) → JoinsTop k a.frame l Mode.Running
      → JoinsEnded k k.standing × StillDefers k [] a.frame
  left-defers Leaving.No n h = absurd (n refl)
  left-defers (Leaving.Returning v) n h = (h.0, h.1)
  left-defers (Leaving.Unwinding x) n h = (h.0, h.1)

  deferred-below : (above : Beginning) (l : Leaving) → (l ≡ Leaving.No → ⊥) → JoinsTop k a.frame l Mode.Running
      → (f : FrameView) → DefersIt above k f → JoinsBelow above k f l
  deferred-below above Leaving.No n j f h = absurd (n refl)
  deferred-below above (Leaving.Returning v) n j f h = (h, j.2)
  deferred-below above (Leaving.Unwinding x) n j f h = (h, j.2)

  origin-left : (l : Leaving) → (l ≡ Leaving.No → ⊥) → origin_by l k ≡ Origin.Deferring (as_seen k)
  origin-left Leaving.No n = absurd (n refl)
  origin-left (Leaving.Returning v) n = refl
  origin-left (Leaving.Unwinding x) n = refl

  lived : HasLife code types k
  lived = let o = here.0 in (o.0, o.1, o.3)

  module _ (left : a.frame.leaving ≡ Leaving.No → ⊥) (d : Deferred) (ds : List Deferred)
      (next : a.frame.deferred ≡ d ∷ ds) where
    abbrev by : Origin
    by = Origin.Deferring (as_seen k)

    is-left : JoinsEnded k k.standing × StillDefers k [] a.frame
    is-left = left-defers a.frame.leaving left here.1

    still : map deferred_of k.late ++ (d ∷ ds) ≡ deferrals k.shown
    still = ap (λ es. map deferred_of k.late ++ es) (sym next) ∙ is-left.1.0

    begun : IsBegun by d.function d.arguments
    begun = (
      ended-more k k.standing is-left.0,
      subst (λ es. In d es) still (in-middle (map deferred_of k.late) d ds),
    )

    all-below : FramesStand code types (beginning (fresh by d.function d.arguments)) (waiting ds ∷ a.callers) (k ∷ ks)
    all-below = let o = here.0 in (
      (o.0, o.1, o.2, o.3, left-below a.frame.leaving o.0 ds left o.4),
      deferred-below (beginning (fresh by d.function d.arguments)) a.frame.leaving left here.1 (waiting ds)
          (refl, is-left.0, (still, is-left.1.1)),
      here.2,
      here.3,
    )

    enters-it : (fn : Function) → slice_get code.functions d.function ≡ Some fn
        → CanBeCalledWith code types d.function d.arguments → (full : Bool)
        → Became code types s a k ks d.arguments
        (choose full (dies a PanicKind.StackOverflow)
        (Change.Become a.number (with_frames a (opened d.function d.arguments true fn ∷ (waiting ds ∷ a.callers)))
        ∷ []))
    enters-it fn e takes true = Became.Dies PanicKind.StackOverflow refl lived
    enters-it fn e takes false = Became.Enters (opened d.function d.arguments true fn) (waiting ds) refl
        (subst (λ z. FramesMatch code types Mode.Running
        (opened d.function d.arguments true fn ∷ (waiting ds ∷ a.callers)) (fresh z d.function d.arguments ∷ (k ∷ ks)))
        (sym (origin-left a.frame.leaving left)) (
          fresh-top code types masks by d.function d.arguments true fn e (takes fn e),
          fresh-joins by d.function d.arguments true fn,
          fresh-ties code types by d.function d.arguments true begun (lived, tt) tt,
          all-below,
        ))

    begins : CanBeCalledWith code types d.function d.arguments → (m : Option Function)
        → slice_get code.functions d.function ≡ m
        → Became code types s a k ks d.arguments
        (on_some (enters a (waiting ds ∷ a.callers)) (option_map (opened d.function d.arguments true) m))
    begins takes None e = Became.Stuck refl
    begins takes (Some fn) e = enters-it fn e takes (is_full (waiting ds ∷ a.callers))

  -- all deferred calls have run
  leaves : (a.frame.leaving ≡ Leaving.No → ⊥) → HasLeftSo (is_unwinding a.frame.leaving) k → a.frame.deferred ≡ []
      → Leaves code types a k
  leaves left so last = let h = left-defers a.frame.leaving left here.1 in record {
    life = lived;
    joins = h.0;
    ran = all-ran k a.frame last h.1;
    so = so;
    ties = here.2;
  }

  pub by-returning : (v : Option Value) → a.frame.leaving ≡ Leaving.Returning v → (ds : List Deferred)
      → a.frame.deferred ≡ ds → Every (λ (d : Deferred). CanBeCalledWith code types d.function d.arguments) ds
      → Became code types s a k ks (first_arguments ds) (leaves_returning code a v ds)
  by-returning v e [] last takes =
      let o = here.0 in
      let ended : k.standing ≡ Standing.Ended (Halt.Returned v) =
      subst (λ left. Top types o.0 k a.frame left Mode.Running) e o.4 in
      let j = subst (λ left. JoinsTop k a.frame left Mode.Running) e here.1 in
      Became.Returns v refl (leaves (λ n. returning v (sym e ∙ n))
      (subst (λ l. HasLeftSo (is_unwinding l) k) (sym e) ((v, ended), j.2)) last) ended (ap is_unwinding e)
  by-returning v e (d ∷ ds) last takes = begins (λ n. returning v (sym e ∙ n)) d ds last takes.0
      (slice_get code.functions d.function) refl

  pub by-unwinding : (x : Fault) → a.frame.leaving ≡ Leaving.Unwinding x → (ds : List Deferred)
      → a.frame.deferred ≡ ds → Every (λ (d : Deferred). CanBeCalledWith code types d.function d.arguments) ds
      → Became code types s a k ks (first_arguments ds) (leaves_unwinding code a x ds)
  by-unwinding x e [] last takes =
      let j = subst (λ left. JoinsTop k a.frame left Mode.Running) e here.1 in
      Became.Unwinds x refl (leaves (λ n. unwinds x (sym e ∙ n))
      (subst (λ l. HasLeftSo (is_unwinding l) k) (sym e) j.2) last) (ap is_unwinding e)
  by-unwinding x e (d ∷ ds) last takes = begins (λ n. unwinds x (sym e ∙ n)) d ds last takes.0
      (slice_get code.functions d.function) refl
