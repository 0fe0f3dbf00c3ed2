-- Lists of good changes, one after another, keep closed sets closed and leave what is outside them.
-- For: `Closed`, `Confined`, `Sound`, specs/Invariant.antt; `apply_all`, golf_model/specs/Changes.antt
-- By: induction over the list of changes
use Rattle.std.proofs.Common.{ℕ, ◌+◌, ◌<◌, List, [], ◌∷◌, inl, inr, sym, subst, arith}
use Rattle.golf_model.specs.State.{State}
use Rattle.golf_model.specs.Changes.{Change, apply, apply_all}
use Rattle.golf_model_futures.specs.Invariant.{Closed, Confined, Sound, objects_after, last_after, finalisable_after}
use Rattle.golf_model_futures.proofs.Goodness.{good-wider}
use Rattle.golf_model_futures.proofs.Closing.{closed_change}
use Rattle.golf_model_futures.proofs.Confining.{confined_change, confined-same, confined-then}

module _ (O G : ℕ → Type 0) where
  -- what was made is a member already, since fresh numbers are
  after-in : (n : ℕ) (c : Change) → O (n + 1) → (o : ℕ) → objects_after c O n o → O o
  after-in n (Change.Make x) i o a = elim a [ inl b ↦ b | inr b ↦ subst O (sym b) i ]
  after-in n _ i o a = a

-- wider sets stay wider after a change
module _ (O O' G F F' : ℕ → Type 0) (w : (o : ℕ) → O o → O' o) (u : (o : ℕ) → F o → F' o) (n : ℕ) where
  objects-wider : (c : Change) (o : ℕ) → objects_after c O n o → objects_after c O' n o
  objects-wider (Change.Make x) o a = elim a [ inl b ↦ inl (w o b) | inr b ↦ inr b ]
  objects-wider _ o a = w o a

  finalisable-wider : (c : Change) (o : ℕ) → finalisable_after c F o → finalisable_after c F' o
  finalisable-wider (Change.SetFinaliser p k) o a = a
  finalisable-wider _ o a = u o a

-- what is among these is among those: of objects, of goroutines, and of objects that may get a finaliser
pub record Wider (O O' G G' F F' : ℕ → Type 0) : Type 0 where
  pub objects : (o : ℕ) → O o → O' o
  pub goroutines : (g : ℕ) → G g → G' g
  pub finalisable : (o : ℕ) → F o → F' o

pub sound-wider : (n : ℕ) (cs : List Change) {O O' G G' F F' : ℕ → Type 0} → Wider O O' G G' F F' → Sound O G F n cs
    → Sound O' G' F' n cs
sound-wider n [] wider a = tt
sound-wider n (c ∷ cs) {O} {O'} {G} {G'} {F} {F'} wider a =
    let later : Wider (objects_after c O n) (objects_after c O' n) G G' (finalisable_after c F)
    (finalisable_after c F') = record {
      objects = objects-wider O O' G F F' wider.objects wider.finalisable n c;
      goroutines = wider.goroutines;
      finalisable = finalisable-wider O O' G F F' wider.objects wider.finalisable n c;
    } in (
      good-wider O O' G G' F F' wider.objects wider.goroutines wider.finalisable c a.0,
      sound-wider (last_after c n) cs later a.1,
    )

module _ (O G : ℕ → Type 0) where
  -- fresh numbers stay in the set
  pub fresh-after : (n : ℕ) (c : Change) → ((o : ℕ) → n < o → O o) → (o : ℕ) → last_after c n < o → O o
  fresh-after n (Change.Make x) h o l = h o (omega arith)
  fresh-after n _ h o l = h o l

  pub rest-sound : (F : ℕ → Type 0) (n : ℕ) (c : Change) (cs : List Change) → ((o : ℕ) → n < o → O o)
      → Sound (objects_after c O n) G (finalisable_after c F) (last_after c n) cs
      → Sound O G (finalisable_after c F) (last_after c n) cs
  rest-sound F n c cs h a =
      let wider : Wider (objects_after c O n) O G G (finalisable_after c F) (finalisable_after c F) =
      record {
        objects = after-in O G n c (h (n + 1) (omega arith));
        goroutines = λ g i. i;
        finalisable = λ o i. i;
      } in
      sound-wider (last_after c n) cs wider a

  -- sound changes keep the sets closed, and change nothing outside them
  pub closed_changes : (F : ℕ → Type 0) (n : ℕ) (cs : List Change) (s : State) → ((o : ℕ) → n < o → O o) → Closed s O G
      → Sound O G F n cs → Closed (apply_all cs s) O G
  closed_changes F n [] s h c a = c
  closed_changes F n (d ∷ cs) s h c a = closed_changes (finalisable_after d F) (last_after d n) cs (apply d s)
      (fresh-after n d h) (closed_change O G F s d c a.0) (rest-sound F n d cs h a.1)

  pub confined_changes : (F : ℕ → Type 0) (n : ℕ) (cs : List Change) (s : State) → ((o : ℕ) → n < o → O o)
      → Closed s O G → Sound O G F n cs → Confined O G s (apply_all cs s)
  confined_changes F n [] s h c a = confined-same O G s
  confined_changes F n (d ∷ cs) s h c a =
      confined-then O G s (apply d s) (apply_all cs (apply d s)) (confined_change O G F s d c a.0)
      (confined_changes (finalisable_after d F) (last_after d n) cs (apply d s) (fresh-after n d h)
      (closed_change O G F s d c a.0) (rest-sound F n d cs h a.1))
