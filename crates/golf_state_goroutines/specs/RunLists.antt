-- The model of the running goroutines: their numbers, and the numbers for which there is room.
use Rattle.std.specs.Prelude.{ℕ, Bool, false, ◌||◌, ◌&&◌, ◌==◌, ◌/◌, ◌^◌, nat_lt, List, Option, Some, None}
use Rattle.golf_theory.specs.Maps.{Entry}
use Rattle.golf_theory.specs.Membership.{In, any_of}
use Rattle.golf_theory.specs.Stored.{placed, without}
use Rattle.golf_model.specs.State.{not_empty}
use Rattle.golf_state_goroutines.specs.Goroutines.{AllUnder}
use Rattle.golf_state_goroutines.specs.declared.run_blocks.RunBlock.{RunBlock}

-- the numbers of those that run, in rising order; there is room for the 256 numbers from 256 times a key on
pub record Runners : Type 0 where
  pub numbers : List ℕ
  pub keys : List ℕ

-- removes the number
abbrev pub runs_without : ℕ → Runners → Runners
runs_without g r = record r { numbers = without g r.numbers }

-- adds the number
abbrev pub runs_with : ℕ → Runners → Runners
runs_with g r = record r { numbers = placed g r.numbers }

-- whether the block is there, and has the key
abbrev pub is_open : ℕ → Option RunBlock → Bool
is_open k None = false
is_open k (Some b) = b.key == k

module _ {V : Type 0} where
  -- whether one of the 256 numbers is there
  abbrev pub has_place : ℕ → List (ℕ × V) → Bool
  has_place k ps = any_of (λ p. p.0 / 256 == k) ps

  -- whether a goroutine of the block runs, or is there
  abbrev pub is_needed : List (ℕ × V) → RunBlock → Bool
  is_needed ps b = not_empty b.running.items || (nat_lt b.key (2 ^ 24) && has_place b.key ps)

  -- there is room for each of these to run
  abbrev pub CanStart : List ℕ → List (ℕ × V) → Type 0
  CanStart ks ps = (g : ℕ) (x : V) → Entry ps g x → In (g / 256) ks

  -- each of these has a number above all in the list
  abbrev pub AreAbove : List ℕ → List (ℕ × V) → Type 0
  AreAbove ns ps = (g : ℕ) (x : V) → Entry ps g x → AllUnder g ns
