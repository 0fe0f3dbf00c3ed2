-- After the clearing of a turn the goroutine refers to less, and a cut state is cleared like the whole one.
-- For: `clearing`, `clears`, golf_model/specs/ClearedSlots.antt
-- By: cases of the goroutine, its mode and its frames; no induction
use Rattle.std.proofs.Common.{◌≡◌, ℕ, Bool, true, false, List, [], ◌∷◌, Option, Some, None, refl, ap, subst}
use Rattle.golf_theory.specs.Membership.{Every}
use Rattle.golf_theory.specs.Maps.{find}
use Rattle.golf_theory.proofs.MapEntries.{Entry-find}
use Rattle.golf_theory.proofs.MapFinds.{find-only}
use Rattle.golf_data.specs.declared.code.Code.{Code}
use Rattle.golf_data.specs.declared.goroutine.Mode.{Mode}
use Rattle.golf_model.specs.Views.{FrameView, GoroutineView}
use Rattle.golf_model.specs.State.{State, is_running}
use Rattle.golf_model.specs.Changes.{apply_all}
use Rattle.golf_model.specs.ClearedSlots.{mask_at, stays_in, cleared, clears_in, clears, clearing}
use Rattle.golf_model.specs.Collections.{cut}
use Rattle.golf_model.specs.Refs.{frames_refs, goroutine_refs}
use Rattle.golf_model_futures.specs.Invariant.{AllGood, Closed, FrameIn}
use Rattle.golf_model_futures.proofs.RefLaws.{vals-cleared, frames-cons, frames-head, frames-tail, goroutine-frames}
use Rattle.golf_model_futures.proofs.RefLaws.{goroutine-waits, goroutine-both}

module _ (O : ℕ → Type 0) (code : Code) where
  frame-cleared : (f : FrameView) → FrameIn O f → FrameIn O (cleared code f)
  frame-cleared f a = record {
    slots = vals-cleared O
        (stays_in f.leaving (mask_at code f.function f.at)) 0 f.slots a.slots;
    operands = a.operands;
    deferred =
        a.deferred;
    leaving = a.leaving;
  }

  -- a goroutine that is cleared refers to less
  pub goroutine-cleared : (r : GoroutineView) (f : FrameView) (fs : List FrameView) → r.frames ≡ f ∷ fs
      → Every O (goroutine_refs r) → Every O (goroutine_refs (record r { frames = cleared code f ∷ fs }))
  goroutine-cleared r f fs e a =
      let b = subst (λ (z : List FrameView). Every O (frames_refs z)) e (goroutine-frames O r a) in
      goroutine-both O (record r { frames = cleared code f ∷ fs })
      (frames-cons O (cleared code f) fs (frame-cleared f (frames-head O f fs b)) (frames-tail O f fs b))
      (goroutine-waits O r a)

module _ (O G : ℕ → Type 0) (code : Code) (g : ℕ) where
  good-clears_in : (r : GoroutineView) (m : Mode) (fs : List FrameView) → r.frames ≡ fs
      → (m ≡ Mode.Running → G g × Every O (goroutine_refs r)) → AllGood O G (clears_in code g r m fs)
  good-clears_in r Mode.Running [] e a = tt
  good-clears_in r Mode.Running (f ∷ fs) e a = ((((a refl).0), goroutine-cleared O code r f fs e (a refl).1), tt)
  good-clears_in r (Mode.Blocked kind line waits ticket) fs e a = tt

  good-clears : (m : Option GoroutineView)
      → ((r : GoroutineView) → m ≡ Some r → r.mode ≡ Mode.Running → G g × Every O (goroutine_refs r))
      → AllGood O G (clears code g m)
  good-clears None h = tt
  good-clears (Some r) h = good-clears_in r r.mode r.frames refl (h r refl)

-- clearing concerns the goroutine alone, and only if it runs
pub good-clearing : (O G : ℕ → Type 0) (code : Code) (b : Bool) (m : Option ℕ) (t : State)
    → ((g : ℕ) (r : GoroutineView) → m ≡ Some g → find g t.goroutines ≡ Some r → r.mode ≡ Mode.Running → G g
    × Every O (goroutine_refs r)) → AllGood O G (clearing code b m t)
good-clearing O G code true m t h = tt
good-clearing O G code false None t h = tt
good-clearing O G code false (Some g) t h = good-clears O G code g (find g t.goroutines) (λ r e s. h g r refl e s)

pub closed-clearing : (O G : ℕ → Type 0) (code : Code) (b : Bool) (m : Option ℕ) (t : State) → Closed t O G
    → AllGood O G (clearing code b m t)
closed-clearing O G code b m t c = good-clearing O G code b m t (λ g r i e s.
    let n = Entry-find g t.goroutines r e in
    let j = c.running g r n (ap is_running s) in (j, c.goroutines g r j n))

-- no finaliser is set or cleared
same-finalisers : (code : Code) (t : State) (g : ℕ) (r : GoroutineView) (m : Mode) (fs : List FrameView)
    → (apply_all (clears_in code g r m fs) t).finalisers ≡ t.finalisers
same-finalisers code t g r Mode.Running [] = refl
same-finalisers code t g r Mode.Running (f ∷ fs) = refl
same-finalisers code t g r (Mode.Blocked kind line waits ticket) fs = refl

finalisers-clears : (code : Code) (t : State) (g : ℕ) (m : Option GoroutineView)
    → (apply_all (clears code g m) t).finalisers ≡ t.finalisers
finalisers-clears code t g None = refl
finalisers-clears code t g (Some r) = same-finalisers code t g r r.mode r.frames

pub finalisers-clearing : (code : Code) (b : Bool) (m : Option ℕ) (t : State)
    → (apply_all (clearing code b m t) t).finalisers ≡ t.finalisers
finalisers-clearing code true m t = refl
finalisers-clearing code false None t = refl
finalisers-clearing code false (Some g) t = finalisers-clears code t g (find g t.goroutines)

-- the same is cleared in a state in which the goroutine stays
pub same-clearing : (stays kept : ℕ → Bool) (code : Code) (b : Bool) (m : Option ℕ) (t : State)
    → ((g : ℕ) → m ≡ Some g → stays g ≡ true) → clearing code b m (cut stays kept t) ≡ clearing code b m t
same-clearing stays kept code true m t h = refl
same-clearing stays kept code false None t h = refl
same-clearing stays kept code false (Some g) t h = ap (clears code g) (find-only stays t.goroutines g (h g refl))
