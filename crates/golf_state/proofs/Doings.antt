-- What a goroutine in its turn does, by the changes of the state.
-- For: `does` (golf_state/specs/ActorChanges.antt) and `proceed`, `block_at` (src/outcome.rt)
-- By: induction over the list of changes, and over the entries of the map; otherwise computing
use Rattle.std.proofs.Common.{◌≡◌, ℕ, suc, true, List, [], ◌∷◌, ◌++◌, Option, Some, refl, sym, ap, ◌∙◌, subst}
use Rattle.std.specs.Prelude.{drop, IsSome, slice_get}
use Rattle.golf_data.specs.declared.value.Value.{Value}
use Rattle.golf_data.specs.declared.goroutine.Mode.{Mode}
use Rattle.golf_theory.specs.Maps.{find, put, Rises, IsRising}
use Rattle.golf_theory.proofs.MapFinds.{find-put, put-put}
use Rattle.golf_model.specs.Views.{FrameView, GoroutineView}
use Rattle.golf_model.specs.State.{State}
use Rattle.golf_model.specs.Wakes.{on_top}
use Rattle.golf_model.specs.Changes.{Change, apply_all, become}
use Rattle.golf_model.specs.Actors.{Actor, next, stands, standing}
use Rattle.golf_state.specs.Looked.{on_goroutine, frames_of, frames_in, reframed, runs, is_running_in}
use Rattle.golf_state.specs.FrameChanges.{went, exchanged_in}
use Rattle.golf_state.proofs.PlaceLaws.{put-same}
use Rattle.golf_state.specs.Operands.{operands_of, top_operands}
use Rattle.golf_state.specs.ActorChanges.{does, does_by, Stands}

Rises-unput : {X : Type 0} (j g : ℕ) (v : X) (es : List (ℕ × X)) → Rises j (put g v es) → Rises j es
Rises-unput j g v [] r = tt
Rises-unput j g v (e ∷ es) r = (r.0, Rises-unput (suc e.0) g v es r.1)

-- a goroutine that stands at an instruction, in its turn
abbrev pub actor_of : {g after : ℕ} {s : State} → Stands g after s → ℕ → Actor
actor_of {g} st line = record { number = g; frame = st.frame; callers = st.callers; started = st.started; line = line }

pub apply_all-append : (xs ys : List Change) (s : State) → apply_all (xs ++ ys) s ≡ apply_all ys (apply_all xs s)
apply_all-append [] ys s = refl
apply_all-append (c ∷ xs) ys s = apply_all-append xs ys _

module _ (g after : ℕ) (s : State) (st : Stands g after s) where
  pub does-is : (act : Actor → List Change) (line : ℕ) → does act g line s ≡ apply_all (act (actor_of st line)) s
  does-is act line = ap (λ (o : Option GoroutineView). apply_all (does_by act g line o) s) st.found

  pub frames-is : frames_of g s ≡ st.frame ∷ st.callers
  frames-is = ap frames_in st.found

  pub runs-is : runs g s ≡ true
  runs-is = ap is_running_in st.found

  -- it has these frames
  pub reframed-is : (fs : List FrameView)
      → reframed g fs s ≡ become g (record { frames = fs; mode = Mode.Running; started = st.started }) s
  reframed-is fs = ap (λ (o : Option GoroutineView). on_goroutine (λ r. become g (record r { frames = fs })) o s)
      st.found

  -- its innermost frame changes
  pub stands-is : (change : FrameView → FrameView) (fs : List FrameView) (line : ℕ) → fs ≡ on_top change (frames_of g s)
      → reframed g fs s ≡ apply_all (stands (actor_of st line) (change st.frame)) s
  stands-is change fs line e =
      reframed-is fs ∙ ap (λ (gs : List FrameView). become g
      (record { frames = gs; mode = Mode.Running; started = st.started }) s) (e ∙ ap (on_top change) frames-is)

  -- the frame that goes on at a place
  pub went-next : (taken : ℕ) (vs : List Value)
      → went after taken vs st.frame ≡ next st.frame (vs ++ drop taken st.frame.operands)
  went-next taken vs = ap (λ n. record st.frame { at = n; operands = vs ++ drop taken st.frame.operands }) st.next

  pub operands-is : operands_of g s ≡ st.frame.operands
  operands-is = ap top_operands frames-is

  -- the same changes give the same state
  pub does-same : (act other : Actor → List Change) (line : ℕ) → act (actor_of st line) ≡ other (actor_of st line)
      → does act g line s ≡ does other g line s
  does-same act other line e = does-is act line ∙ ap (λ (cs : List Change). apply_all cs s) e ∙ sym (does-is other line)

  -- the frame of the goroutine, once it was changed
  pub found-after : (f : FrameView) (line : ℕ) (t : State) → t ≡ apply_all (stands (actor_of st line) f) s
      → find g t.goroutines ≡ Some (standing (actor_of st line) f)
  found-after f line t e = ap (λ (u : State). find g u.goroutines) e
      ∙ find-put g (standing (actor_of st line) f) s.goroutines (standing (actor_of st line) st.frame) st.found

  -- and once that is taken back
  pub taken-back : (f : FrameView) (line : ℕ) (t : State) (fs : List FrameView) → IsRising t.goroutines
      → t ≡ apply_all (stands (actor_of st line) f) s → fs ≡ st.frame ∷ st.callers → reframed g fs t ≡ s
  taken-back f line t fs r e is =
      let old = standing (actor_of st line) st.frame in
      let v = standing (actor_of st line) f in
      let rises : IsRising s.goroutines = Rises-unput 0 g v s.goroutines
      (subst (λ (u : State). IsRising u.goroutines) e r) in
      ap (λ (o : Option GoroutineView). on_goroutine (λ q. become g (record q { frames = fs })) o t)
      (found-after f line t e)
      ∙ ap (λ (gs : List FrameView). become g (record { frames = gs; mode = Mode.Running; started = st.started }) t) is
      ∙ ap (become g old) e
      ∙ ap (λ (es : List (ℕ × GoroutineView)). record s { goroutines = es })
      (put-put g old v s.goroutines ∙ put-same g 0 old s.goroutines rises st.found)

-- the top operand is exchanged, if there is one
pub exchanged-is : (after : ℕ) (v : Value) (f : FrameView) (os : List Value) → IsSome (slice_get os 0)
    → exchanged_in after v f os ≡ record f { at = after; operands = v ∷ drop 1 os }
exchanged-is after v f [] h = cc
exchanged-is after v f (w ∷ os) h = refl
