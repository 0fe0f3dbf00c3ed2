-- Sleepers of three lists: one more, and one read.
-- For: `Sleepers`, src/sleepers.rt; `sleepers_of`, specs/Sleepers.antt.
-- By: induction over the three lists, which are of one length.
use Rattle.std.proofs.Common.{◌≡◌, ℕ, zero, suc, ◌<◌, List, map, [], ◌∷◌, ◌++◌, length, refl, ap, arith, slice_get}
use Rattle.std.specs.Prelude.{option_map}
use Rattle.golf_base.specs.declared.ids.GoroutineId.{GoroutineId}
use Rattle.golf_model.specs.Sleepers.{Sleeper, sleepers_of}

abbrev sleeper : GoroutineId → List ℕ → List ℕ → Sleeper
sleeper g w r = record { goroutine = g; waits = w; references = r }

-- one more
pub sleepers-push : (gs : List GoroutineId) (ws rs : List (List ℕ)) (g : GoroutineId) (w r : List ℕ)
    → length ws ≡ length gs → length rs ≡ length gs
    → sleepers_of (gs ++ g ∷ []) (ws ++ w ∷ []) (rs ++ r ∷ []) ≡ sleepers_of gs ws rs ++ sleeper g w r ∷ []
sleepers-push [] [] [] g w r a b = refl
sleepers-push [] [] (z ∷ rs) g w r a b = absurd (omega (arith, b))
sleepers-push [] (y ∷ ws) rs g w r a b = absurd (omega (arith, a))
sleepers-push (x ∷ gs) [] rs g w r a b = absurd (omega (arith, a))
sleepers-push (x ∷ gs) (y ∷ ws) [] g w r a b = absurd (omega (arith, b))
sleepers-push (x ∷ gs) (y ∷ ws) (z ∷ rs) g w r a b =
    ap (λ (l : List Sleeper). sleeper x y z ∷ l) (sleepers-push gs ws rs g w r (omega (arith, a)) (omega (arith, b)))

-- as many as goroutines
pub length-sleepers : (gs : List GoroutineId) (ws rs : List (List ℕ)) → length ws ≡ length gs → length rs ≡ length gs
    → length (sleepers_of gs ws rs) ≡ length gs
length-sleepers [] ws rs a b = refl
length-sleepers (x ∷ gs) [] rs a b = absurd (omega (arith, a))
length-sleepers (x ∷ gs) (y ∷ ws) [] a b = absurd (omega (arith, b))
length-sleepers (x ∷ gs) (y ∷ ws) (z ∷ rs) a b =
    omega (arith, length-sleepers gs ws rs (omega (arith, a)) (omega (arith, b)))

-- what each part of the sleeper at a place is
pub goroutines-at : (gs : List GoroutineId) (ws rs : List (List ℕ)) (i : ℕ) → length ws ≡ length gs
    → length rs ≡ length gs → option_map (λ (x : Sleeper). x.goroutine) (slice_get (sleepers_of gs ws rs) i)
    ≡ slice_get gs i
goroutines-at [] ws rs i a b = refl
goroutines-at (x ∷ gs) [] rs i a b = absurd (omega (arith, a))
goroutines-at (x ∷ gs) (y ∷ ws) [] i a b = absurd (omega (arith, b))
goroutines-at (x ∷ gs) (y ∷ ws) (z ∷ rs) zero a b = refl
goroutines-at (x ∷ gs) (y ∷ ws) (z ∷ rs) (suc i) a b = goroutines-at gs ws rs i (omega (arith, a)) (omega (arith, b))

pub waits-at : (gs : List GoroutineId) (ws rs : List (List ℕ)) (i : ℕ) → length ws ≡ length gs → length rs ≡ length gs
    → option_map (λ (x : Sleeper). x.waits) (slice_get (sleepers_of gs ws rs) i) ≡ slice_get ws i
waits-at [] [] rs i a b = refl
waits-at [] (y ∷ ws) rs i a b = absurd (omega (arith, a))
waits-at (x ∷ gs) [] rs i a b = absurd (omega (arith, a))
waits-at (x ∷ gs) (y ∷ ws) [] i a b = absurd (omega (arith, b))
waits-at (x ∷ gs) (y ∷ ws) (z ∷ rs) zero a b = refl
waits-at (x ∷ gs) (y ∷ ws) (z ∷ rs) (suc i) a b = waits-at gs ws rs i (omega (arith, a)) (omega (arith, b))

pub references-at : (gs : List GoroutineId) (ws rs : List (List ℕ)) (i : ℕ) → length ws ≡ length gs
    → length rs ≡ length gs → option_map (λ (x : Sleeper). x.references) (slice_get (sleepers_of gs ws rs) i)
    ≡ slice_get rs i
references-at [] ws [] i a b = refl
references-at [] ws (z ∷ rs) i a b = absurd (omega (arith, b))
references-at (x ∷ gs) [] rs i a b = absurd (omega (arith, a))
references-at (x ∷ gs) (y ∷ ws) [] i a b = absurd (omega (arith, b))
references-at (x ∷ gs) (y ∷ ws) (z ∷ rs) zero a b = refl
references-at (x ∷ gs) (y ∷ ws) (z ∷ rs) (suc i) a b = references-at gs ws rs i (omega (arith, a)) (omega (arith, b))

-- what all of them wait on
pub waits-all : (gs : List GoroutineId) (ws rs : List (List ℕ)) → length ws ≡ length gs → length rs ≡ length gs
    → map (λ (x : Sleeper). x.waits) (sleepers_of gs ws rs) ≡ ws
waits-all [] [] rs a b = refl
waits-all [] (y ∷ ws) rs a b = absurd (omega (arith, a))
waits-all (x ∷ gs) [] rs a b = absurd (omega (arith, a))
waits-all (x ∷ gs) (y ∷ ws) [] a b = absurd (omega (arith, b))
waits-all (x ∷ gs) (y ∷ ws) (z ∷ rs) a b =
    ap (λ (l : List (List ℕ)). y ∷ l) (waits-all gs ws rs (omega (arith, a)) (omega (arith, b)))

-- a sleeper that is there is a goroutine
pub sleeper-there : (gs : List GoroutineId) (ws rs : List (List ℕ)) (xs : List Sleeper) (i : ℕ) → length ws ≡ length gs
    → length rs ≡ length gs → sleepers_of gs ws rs ≡ xs → i < length xs → i < length gs
sleeper-there gs ws rs xs i a b is low = omega (arith, low, ap length is, length-sleepers gs ws rs a b)
