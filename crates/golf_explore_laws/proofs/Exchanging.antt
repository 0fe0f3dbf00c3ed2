-- A frame-local turn and the turn of another goroutine can be exchanged.
-- For: the laws of closed lists, src/lib.rt; `step`, golf_model/specs/Turn.antt; `IsLocal`, specs/Local.antt
-- By: the changes of both turns; cases of the entry that is cleared after them
use Rattle.std.proofs.Common.{◌≡◌, ℕ, suc, ◌/◌, ◌%◌, ◌<◌, Bool, true, false, not, ◌||◌, List, [], ◌∷◌}
use Rattle.std.proofs.Common.{length, Option, Some, None, ◌==◌, slice_get, inl, inr, refl, sym, ap, ◌∙◌}
use Rattle.std.proofs.Common.{arith}
use Rattle.golf_theory.specs.Maps.{find}
use Rattle.golf_theory.specs.Membership.{In}
use Rattle.golf_theory.proofs.MapEntries.{Entry-find, In-keys_where}
use Rattle.golf_theory.proofs.MapFinds.{find-put_other, find-Entry, Entry-below, put-swap}
use Rattle.golf_data.specs.declared.code.Code.{Code}
use Rattle.golf_data.specs.declared.goroutine.Mode.{Mode}
use Rattle.golf_model.specs.Views.{FrameView, GoroutineView}
use Rattle.golf_model.specs.State.{State, can_run, runnable, not_empty}
use Rattle.golf_model.specs.Changes.{Change, become, apply_all}
use Rattle.golf_model.specs.ClearedSlots.{cleared, clears_in, clears, clearing}
use Rattle.golf_model.specs.Turn.{turn_changes, whose_turn, goroutine_collects, step}
use Rattle.golf_model.specs.Futures.{Numbered}
use Rattle.golf_explore_laws.specs.Local.{IsLocal}
use Rattle.golf_explore_laws.proofs.Choices.{mod-within, stepped}
use Rattle.golf_explore_laws.proofs.LocalTurns.{or-true, some-same}
use Rattle.golf_explore_laws.proofs.Others.{Any, Other, Runs, sound-other, same-turn, changes-commute, entry-kept}

-- ---- what is cleared after the turn of another goroutine

module _ (code : Code) (g h : ℕ) (other : Other g h) where
  module _ (q : GoroutineView) (s : State) where
    clears_in-commute : (r : GoroutineView) (m : Mode) (fs : List FrameView)
        → apply_all (clears_in code h r m fs) (become g q s) ≡ become g q (apply_all (clears_in code h r m fs) s)
    clears_in-commute r Mode.Running [] = refl
    clears_in-commute r Mode.Running (f ∷ fs) = ap (λ (gs : List (ℕ × GoroutineView)). record s { goroutines = gs })
        (put-swap h g (record r { frames = cleared code f ∷ fs }) q s.goroutines other)
    clears_in-commute r (Mode.Blocked kind line waits ticket) fs = refl

    clears-commute : (m : Option GoroutineView)
        → apply_all (clears code h m) (become g q s) ≡ become g q (apply_all (clears code h m) s)
    clears-commute None = refl
    clears-commute (Some r) = clears_in-commute r r.mode r.frames

    clearing-commutes : (b : Bool) → apply_all (clearing code b (Some h) (become g q s)) (become g q s)
        ≡ become g q (apply_all (clearing code b (Some h) s) s)
    clearing-commutes true = refl
    clearing-commutes false =
        ap (λ (m : Option GoroutineView). apply_all (clears code h m) (become g q s))
        (find-put_other g q s.goroutines h other)
        ∙ clears-commute (find h s.goroutines)

  module _ (s : State) where
    clears_in-kept : (r : GoroutineView) (m : Mode) (fs : List FrameView)
        → find g (apply_all (clears_in code h r m fs) s).goroutines ≡ find g s.goroutines
    clears_in-kept r Mode.Running [] = refl
    clears_in-kept r Mode.Running (f ∷ fs) =
        find-put_other h (record r { frames = cleared code f ∷ fs }) s.goroutines g (λ e. other (sym e))
    clears_in-kept r (Mode.Blocked kind line waits ticket) fs = refl

    clears-kept : (m : Option GoroutineView)
        → find g (apply_all (clears code h m) s).goroutines ≡ find g s.goroutines
    clears-kept None = refl
    clears-kept (Some r) = clears_in-kept r r.mode r.frames

    clearing-kept : (b : Bool)
        → find g (apply_all (clearing code b (Some h) s) s).goroutines ≡ find g s.goroutines
    clearing-kept true = refl
    clearing-kept false = clears-kept (find h s.goroutines)

-- ---- turns of two goroutines

module _ (code : Code) (s : State) (g : ℕ) (r : GoroutineView) (ordered : Numbered s)
    (found : find g s.goroutines ≡ Some r) (on : r.mode ≡ Mode.Running) where
  runs : Runs g s
  runs q e = ap (λ (z : GoroutineView). z.mode)
      (some-same (find g s.goroutines) q r (find-Entry s.goroutines g q ordered.goroutines_rise e) found) ∙ on

  given : g < s.next_goroutine
  given = Entry-below s.next_goroutine s.goroutines g r ordered.goroutines_below (Entry-find g s.goroutines r found)

  module _ (h k : ℕ) (whose : whose_turn s k ≡ Some h) (other : Other g h) where
    abbrev choice : ℕ
    choice = k / length (runnable s)

    -- the changes of the other turn
    abbrev cs : List Change
    cs = turn_changes code choice s (Some h)

    abbrev nothing : List (ℕ × GoroutineView) → Bool
    nothing gs = goroutine_collects code (find h gs) || not (not_empty cs)

    -- the other turn, in this state or in the state after the frame-local turn
    abbrev by : State → State
    by t = let u = apply_all cs t in apply_all (clearing code (nothing t.goroutines) (Some h) u) u

    here : step code s k ≡ by s
    here = ap (λ m. stepped code s (turn_changes code choice s m) m) whose

    module _ (q : GoroutineView) (goes : q.mode ≡ Mode.Running) (same : runnable (become g q s) ≡ runnable s) where
      abbrev t : State
      t = become g q s

      there : step code t k ≡ by t
      there =
          ap (λ (gs : List ℕ). stepped code t (turn_changes code (k / length gs) t (slice_get gs (k % length gs)))
          (slice_get gs (k % length gs))) same
          ∙ ap (λ m. stepped code t (turn_changes code choice t m) m) whose
          ∙ ap (λ ds. stepped code t ds (Some h)) (same-turn g code h choice q s other goes runs)

      commutes : by t ≡ become g q (by s)
      commutes =
          ap (λ (m : Option GoroutineView). let u = apply_all cs t in apply_all
          (clearing code (goroutine_collects code m || not (not_empty cs)) (Some h) u) u)
          (find-put_other g q s.goroutines h other)
          ∙ ap (λ u. apply_all (clearing code (nothing s.goroutines) (Some h) u) u)
          (changes-commute g Any Any s.last_object cs q s goes given (sound-other g s runs code h other choice))
          ∙ clearing-commutes code g h other q (apply_all cs s) (nothing s.goroutines)

      pub step-becomes : step code t k ≡ become g q (step code s k)
      step-becomes = there ∙ commutes ∙ ap (become g q) (sym here)

    -- the entry of the goroutine stays
    pub step-keeps : find g (step code s k).goroutines ≡ Some r
    step-keeps =
        ap (λ (u : State). find g u.goroutines) here
        ∙ clearing-kept code g h other (apply_all cs s) (nothing s.goroutines)
        ∙ entry-kept g Any Any s.last_object cs r s found on (sound-other g s runs code h other choice)

-- ---- the number of a turn

runs-always : (code : Code) (s : State) (g : ℕ) (r : GoroutineView) → IsLocal code r → can_run s.queue g r ≡ true
runs-always code s g r is =
    ap (λ m. can_run s.queue g (record r { mode = m })) is.runs
    ∙ ap (λ fs. can_run s.queue g (record { frames = fs; mode = Mode.Running; started = r.started })) is.frames
    ∙ or-true (not (g == 0))

pub place-of : (x : ℕ) (xs : List ℕ) → In x xs → (i : ℕ) × (i < length xs) × (slice_get xs i ≡ Some x)
place-of x [] h = absurd h
place-of x (y ∷ ys) (inl e) = (0, omega arith, ap Some (sym e))
place-of x (y ∷ ys) (inr h) = let p = place-of x ys h in let below = p.1 in (suc p.0, omega (arith, below), p.2)

-- a goroutine at a frame-local instruction takes the turn of some number
pub turn-of : (code : Code) (s : State) (g : ℕ) (r : GoroutineView) → find g s.goroutines ≡ Some r → IsLocal code r
    → (n : ℕ) × (whose_turn s n ≡ Some g)
turn-of code s g r found is =
    let p = place-of g (runnable s)
    (In-keys_where (can_run s.queue) s.goroutines g r (Entry-find g s.goroutines r found)
    (runs-always code s g r is)) in
    let below = p.1 in
    (p.0, ap (slice_get (runnable s)) (mod-within p.0 (length (runnable s)) below) ∙ p.2)
