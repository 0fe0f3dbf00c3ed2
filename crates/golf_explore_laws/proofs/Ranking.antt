-- Each run ends within as many turns as the bound of the opening state.
-- For: `ranked_lists_end`, src/lib.rt; `IsRankedUpTo`, `ReachesBelow`, specs/StandIns.antt
-- By: induction over the list of events, and over the list of states that stand for each other
use Rattle.std.proofs.Common.{◌≡◌, ℕ, ◌+◌, ◌%◌, ◌<◌, ◌≤◌, Bool, true, false, List, [], ◌∷◌, length, None, refl, sym, ap}
use Rattle.std.proofs.Common.{subst, arith}
use Rattle.std.proofs.lemmas.Nat.{mod_below}
use Rattle.golf_theory.specs.Membership.{In}
use Rattle.golf_data.specs.declared.code.Code.{Code}
use Rattle.golf_model.specs.State.{State, runnable, ending, start}
use Rattle.golf_model.specs.Turn.{step}
use Rattle.golf_model.specs.Collections.{plain_collect}
use Rattle.golf_model.specs.Runs.{Event, has_ended, happens_in, run}
use Rattle.golf_model.specs.Futures.{Numbered}
use Rattle.golf_model_futures.proofs.Leading.{numbered-start, numbered-step}
use Rattle.golf_explore_laws.specs.After.{silent, after}
use Rattle.golf_explore_laws.specs.Closed.{IsPlain}
use Rattle.golf_explore_laws.specs.Laws.{turns_in, EndsWithin}
use Rattle.golf_explore_laws.proofs.Choices.{some-run, turn-by-choice}
use Rattle.golf_explore_laws.specs.StandIns.{StandsFor, AreStandIns, last_from, ReachesBelow, IsRankedUpTo}
use Rattle.golf_explore_laws.proofs.LocalKeeps.{numbered-silent}
use Rattle.golf_explore_laws.proofs.StandIns.{Follows, Keeps, last-keeps, goes-on, follows}
use Rattle.golf_explore_laws.proofs.Visiting.{none-from, silent-step, turn-happens, collection-happens}

-- a state with an ending stays
ended-stays : (code : Code) (s : State) → has_ended s ≡ true → (es : List Event) → has_ended (run code s es) ≡ true
ended-stays code s h [] = h
ended-stays code s h (e ∷ es) =
    subst (λ (t : State). has_ended (run code t es) ≡ true) (sym (ap (λ b. happens_in plain_collect code b s e) h))
    (ended-stays code s h es)

module _ (code : Code) (For : State → State → Type 0) (ranked : List (State × ℕ)) (most : ℕ) (is : StandsFor code For)
    (falls : IsRankedUpTo code For ranked most) where
  abbrev Below : State → ℕ → Type 0
  Below = ReachesBelow For ranked

  -- the state reaches a listed one below a lower bound
  abbrev Falls : ℕ → State → Type 0
  Falls bound t = (lower : ℕ) × (lower < bound) × Below t lower

  -- ---- turns

  listed-turn : (u : State) (rank k : ℕ) → In (u, rank) ranked → ending u ≡ None → Falls rank (after code u k)
  listed-turn u rank k i goes =
      let p = turn-by-choice code u k goes in
      subst (Falls rank) (sym (ap silent p.2))
      (falls.falls u rank i goes (k % length (runnable u)) p.0
      (mod_below k (length (runnable u)) (some-run u goes), p.1))

  below-before : (s : State) (us : List State) (bound : ℕ) → AreStandIns For s us → Below (last_from s us) bound
      → Below s (length us + bound)
  below-before s [] bound are z = let same : bound ≡ 0 + bound = omega arith in subst (Below s) same z
  below-before s (u ∷ us) bound are z =
      let y = below-before u us bound are.1 z in
      let l = y.2 in
      (u ∷ y.0, y.1, omega (arith, l), (are.0, y.3), y.4)

  falls-by : (s : State) (ts : List State) (rank k bound : ℕ) → length ts + rank ≤ bound
      → In (last_from s ts, rank) ranked → ending (last_from s ts) ≡ None → Follows code For s ts k
      → Falls bound (after code s k)
  falls-by s ts rank k bound within i goes (Follows.Inside us l are leads) = (
    length us + rank,
    omega (arith, l, within),
    (
      us,
      rank,
      omega arith,
      are,
      subst (λ (t : State). In (t, rank) ranked) (sym leads) i,
    ),
  )
  falls-by s ts rank k bound within i goes (Follows.Behind us j l are leads) =
      let f = subst (Falls rank) (sym leads) (listed-turn (last_from s ts) rank j i goes) in
      let below = f.1 in
      (length us + f.0, omega (arith, l, within, below), below-before (after code s k) us f.0 are f.2)

  -- ---- runs

  -- the numbers are in order, and the state reaches a listed one below this bound, output apart
  abbrev Has : ℕ → State → Type 0
  Has bound s = Numbered s × Below (silent s) bound

  listed-keeps : (bound : ℕ) (s : State) (p : Has bound s) → Keeps code For is (silent s) (last_from (silent s) p.1.0)
  listed-keeps bound s p = last-keeps code For is (silent s) p.1.0 p.1.3 (numbered-silent s p.0)

  listed-on : (bound : ℕ) (s : State) (p : Has bound s) → ending s ≡ None
      → ending (last_from (silent s) p.1.0) ≡ None
  listed-on bound s p goes =
      goes-on code For is (silent s) (last_from (silent s) p.1.0) (listed-keeps bound s p) goes

  has-plain : (bound : ℕ) (s : State) → Has bound s → IsPlain s
  has-plain bound s p goes = (listed-keeps bound s p).plain
      (falls.plain (last_from (silent s) p.1.0) p.1.1 p.1.4 (listed-on bound s p goes))

  stepped-falls : (s : State) (bound k : ℕ) → Has bound s → ending s ≡ None → (lower : ℕ) × (lower < bound)
      × Has lower (step code s k)
  stepped-falls s bound k p goes =
      let f = falls-by (silent s) p.1.0 p.1.1 k bound p.1.2 p.1.4 (listed-on bound s p goes)
      (follows code For is (silent s) p.1.0 k (numbered-silent s p.0) goes p.1.3) in
      (f.0, f.1, (numbered-step code s k p.0, subst (λ (t : State). Below t f.0) (sym (silent-step code s k)) f.2))

  ends : (es : List Event) (s : State) (bound : ℕ) (b : Bool) → has_ended s ≡ b → Has bound s → bound ≤ turns_in es
      → has_ended (run code s es) ≡ true
  ends es s bound true h i l = ended-stays code s h es
  ends [] s bound false h i l =
      let f = stepped-falls s bound 0 i (none-from (ending s) h) in
      let below = f.1 in
      absurd (omega (arith, l, below))
  ends (Event.Turn k ∷ es) s bound false h i l =
      let goes = none-from (ending s) h in
      let f = stepped-falls s bound k i goes in
      let below = f.1 in
      let t = step code s k in
      subst (λ (u : State). has_ended (run code u es) ≡ true) (turn-happens code s goes k (has-plain f.0 t f.2))
      (ends es t f.0 (has_ended t) refl f.2 (omega (arith, l, below)))
  ends (Event.Collect ∷ es) s bound false h i l =
      subst (λ (u : State). has_ended (run code u es) ≡ true)
      (collection-happens code s (none-from (ending s) h) (has-plain bound s i))
      (ends es s bound (has_ended s) refl i l)

  pub ends-within : EndsWithin most code
  ends-within events l = ends events (start code) most (has_ended (start code)) refl
      (numbered-start code, falls.opening) l
