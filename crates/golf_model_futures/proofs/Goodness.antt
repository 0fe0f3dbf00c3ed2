-- Good changes: wider sets, and lists of them.
-- For: `Good`, `AllGood`, `Sound`, specs/Invariant.antt
-- By: induction over the list of changes
use Rattle.std.proofs.Common.{ℕ, List, [], ◌∷◌, ◌++◌, inl}
use Rattle.golf_theory.specs.Membership.{Every}
use Rattle.golf_theory.proofs.Lists.{Every-weaker}
use Rattle.golf_model.specs.Values.{value_refs}
use Rattle.golf_model.specs.Wakes.{Waking}
use Rattle.golf_model.specs.Changes.{Change}
use Rattle.golf_model.specs.Refs.{object_refs, frames_refs, wait_refs, goroutine_refs}
use Rattle.golf_model_futures.specs.Invariant.{Good, GoodWaking, AllGood, Nothing, Sound, objects_after, last_after}
use Rattle.golf_model_futures.specs.Invariant.{finalisable_after}

module _ (O O' G G' F F' : ℕ → Type 0) (o : (x : ℕ) → O x → O' x) (g : (x : ℕ) → G x → G' x)
    (f : (x : ℕ) → F x → F' x) where
  wider : (xs : List ℕ) → Every O xs → Every O' xs
  wider xs a = Every-weaker O O' o xs a

  waking-wider : (how : Waking) → GoodWaking O how → GoodWaking O' how
  waking-wider (Waking.Closing zero) a = wider (value_refs zero) a
  waking-wider Waking.AtZero a = tt
  waking-wider (Waking.ToReaders below) a = tt

  -- what is good for sets is good for wider ones
  pub good-wider : (c : Change) → Good O G F c → Good O' G' F' c
  good-wider (Change.Make x) a = wider (object_refs x) a
  good-wider (Change.Replace p x) a = (o p a.0, wider (object_refs x) a.1)
  good-wider (Change.SetGlobal i v) a = wider (value_refs v) a
  good-wider (Change.Become h r) a = (g h a.0, wider (goroutine_refs r) a.1)
  good-wider (Change.Block h kind line waits r) a =
      (g h a.0, wider (frames_refs r.frames) a.1, wider (wait_refs waits) a.2)
  good-wider (Change.Spawn r) a = wider (goroutine_refs r) a
  good-wider (Change.Leave h) a = g h a
  good-wider (Change.SetFinaliser p k) a = (o p a.0, f p a.1)
  good-wider (Change.ClearFinaliser p) a = o p a
  good-wider (Change.WakeAll p how) a = (o p a.0, waking-wider how a.1)
  good-wider (Change.Requeue h m) a = (g h a.0, o m a.1)
  good-wider _ a = tt

pub all_good-append : (O G : ℕ → Type 0) (cs ds : List Change) → AllGood O G cs → AllGood O G ds
    → AllGood O G (cs ++ ds)
all_good-append O G [] ds a b = b
all_good-append O G (c ∷ cs) ds a b = (a.0, all_good-append O G cs ds a.1 b)

pub keeps_objects : (O : ℕ → Type 0) (n : ℕ) (c : Change) (x : ℕ) → O x → objects_after c O n x
keeps_objects O n (Change.Make y) x a = inl a
keeps_objects O n _ x a = a

-- a list of good changes is sound for any finalisable ones
pub good-sound : (O G F : ℕ → Type 0) (n : ℕ) (cs : List Change) → AllGood O G cs → Sound O G F n cs
good-sound O G F n [] a = tt
good-sound O G F n (c ∷ cs) a = (
  good-wider O O G G Nothing F (λ x h. h) (λ x h. h) (λ x h. absurd h) c a.0,
  good-sound (objects_after c O n) G (finalisable_after c F) (last_after c n) cs
      (all-wider O (objects_after c O n) G cs (keeps_objects O n c) a.1),
)
  where
    all-wider : (O O' G : ℕ → Type 0) (cs : List Change) → ((x : ℕ) → O x → O' x) → AllGood O G cs → AllGood O' G cs
    all-wider O O' G cs o a = Every-weaker (Good O G Nothing) (Good O' G Nothing)
        (good-wider O O' G G Nothing Nothing o (λ x h. h) (λ x h. h)) cs a
