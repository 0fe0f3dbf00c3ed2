-- A state has no dead goroutine exactly when the marking has set the flag of each blocked one.
-- For: `has_unset` and `has_dead`, src/dead_goroutines.rt
-- By: induction over the flags
use Rattle.std.proofs.Common.{◌≡◌, ℕ, zero, suc, Bool, true, false, List, [], ◌∷◌, map, length, take, Some, slice_get}
use Rattle.std.proofs.Common.{inl, inr, refl, sym, ap, ◌∙◌, arith}
use Rattle.golf_base.specs.declared.ids.GoroutineId.{GoroutineId}
use Rattle.golf_theory.specs.Membership.{In}
use Rattle.golf_theory.specs.Flags.{left_out}
use Rattle.golf_model.specs.Sleepers.{Sleeper}
use Rattle.golf_model.specs.State.{State}
use Rattle.golf_model.specs.LiveSet.{dead}
use Rattle.golf_model.specs.Reports.{numbers}
use Rattle.golf_model.specs.Futures.{Numbered}
use Rattle.golf_model.specs.Presence.{IsWhole}
use Rattle.golf_model.specs.declared.graph.Marked.{Marked}
use Rattle.golf_mark.specs.MarkingResult.{MarksLeast}
use Rattle.golf_snapshot.specs.Parts.{live_parts}
use Rattle.golf_reclaim.proofs.Translating.{dead-flags}

-- ---- the flags one after another

pub get-unset : (flags : List Bool) (i : ℕ) → slice_get flags i ≡ Some false → In false flags
get-unset [] i h = cc
get-unset (b ∷ flags) zero h = inl cc
get-unset (b ∷ flags) (suc i) h = inr (get-unset flags i h)

pub none-so-far : (flags : List Bool) (i : ℕ) → slice_get flags i ≡ Some true → (In false (take i flags) → ⊥)
    → In false (take (suc i) flags) → ⊥
none-so-far [] i h none k = cc
none-so-far (b ∷ flags) zero h none (inl e) = cc
none-so-far (b ∷ flags) zero h none (inr k) = k
none-so-far (b ∷ flags) (suc i) h none (inl e) = none (inl e)
none-so-far (b ∷ flags) (suc i) h none (inr k) = none-so-far flags i h (λ j. none (inr j)) k

-- ---- the goroutines whose flags are false

none-out : (flags : List Bool) (gs : List GoroutineId) → (In false flags → ⊥) → left_out flags gs ≡ []
none-out [] gs h = refl
none-out (b ∷ flags) [] h = refl
none-out (true ∷ flags) (g ∷ gs) h = none-out flags gs (λ i. h (inr i))
none-out (false ∷ flags) (g ∷ gs) h = absurd (h (inl refl))

some-out : (flags : List Bool) (gs : List GoroutineId) → length flags ≡ length gs → In false flags
    → numbers (left_out flags gs) ≡ [] → ⊥
some-out [] gs l i e = i
some-out (b ∷ flags) [] l i e = cc
some-out (true ∷ flags) (g ∷ gs) l (inl i) e = cc
some-out (true ∷ flags) (g ∷ gs) l (inr i) e = some-out flags gs (omega (arith, l)) i e
some-out (false ∷ flags) (g ∷ gs) l i e = cc

map-length : (xs : List Sleeper) → length (map (λ (x : Sleeper). x.goroutine) xs) ≡ length xs
map-length [] = refl
map-length (x ∷ xs) = ap suc (map-length xs)

module _ (s : State) (n : Numbered s) (w : IsWhole s) (m : Marked) (h : MarksLeast (live_parts s) m) where
  abbrev sleeping : List GoroutineId
  sleeping = map (λ (x : Sleeper). x.goroutine) (live_parts s).sleepers

  pub all-live : (In false m.awake → ⊥) → dead s ≡ []
  all-live none = sym (dead-flags s n w m h) ∙ ap numbers (none-out m.awake sleeping none)

  pub one-dead : In false m.awake → dead s ≡ [] → ⊥
  one-dead i e = some-out m.awake sleeping (h.awake_count ∙ sym (map-length (live_parts s).sleepers)) i
      (dead-flags s n w m h ∙ e)
