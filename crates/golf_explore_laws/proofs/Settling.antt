-- Each state of each run reaches a listed one, output apart, if the list is closed up to states that stand for others.
-- For: the laws of closed lists, src/lib.rt; `IsClosedUpTo`, specs/StandIns.antt
-- By: induction over the list of events, and over the list of states that stand for each other
use Rattle.std.proofs.Common.{◌≡◌, ℕ, ◌%◌, Bool, false, List, [], ◌∷◌, length, Option, Some, None, refl, sym, ap, ◌∙◌}
use Rattle.std.proofs.Common.{subst}
use Rattle.std.proofs.lemmas.Nat.{mod_below}
use Rattle.golf_theory.specs.Membership.{In}
use Rattle.golf_data.specs.declared.code.Code.{Code}
use Rattle.golf_data.specs.declared.goroutine.Ending.{Ending}
use Rattle.golf_model.specs.State.{State, runnable, ending, start}
use Rattle.golf_model.specs.Turn.{step}
use Rattle.golf_model.specs.LiveSet.{dead}
use Rattle.golf_model.specs.Collections.{plain_collect}
use Rattle.golf_model.specs.Runs.{Event, run}
use Rattle.golf_model.specs.Futures.{Numbered}
use Rattle.golf_model_futures.proofs.Leading.{numbered-start, numbered-step}
use Rattle.golf_explore_laws.specs.After.{silent, after}
use Rattle.golf_explore_laws.specs.Closed.{NoneDead, NoneEnds}
use Rattle.golf_explore_laws.specs.Laws.{NeverLeaks, NeverReports, NeverEnds}
use Rattle.golf_explore_laws.specs.StandIns.{kind_of, AsksKind, StandsFor, AreStandIns, last_from, ReachesIn}
use Rattle.golf_explore_laws.specs.StandIns.{IsClosedUpTo}
use Rattle.golf_explore_laws.proofs.Choices.{some-run, turn-by-choice}
use Rattle.golf_explore_laws.proofs.LocalKeeps.{numbered-silent}
use Rattle.golf_explore_laws.proofs.StandIns.{none-kind, Follows, Keeps, last-keeps, goes-on, follows}
use Rattle.golf_explore_laws.proofs.Visiting.{run-kept, stops-kept, silent-step, silent-dead, collect-plain}

-- ---- endings

-- whether there is one of these endings
abbrev pub ends_by : (Ending → Bool) → Option Ending → Bool
ends_by is_one None = false
ends_by is_one (Some e) = is_one e

module _ (is_one : Ending → Bool) where
  none-by : (m : Option Ending) → ((e : Ending) → m ≡ Some e → is_one e ≡ false) → ends_by is_one m ≡ false
  none-by None h = refl
  none-by (Some e) h = h e refl

  -- endings of the same kind are both of these endings, or neither is
  pub same-kind : AsksKind is_one → (m n : Option Ending) → kind_of m ≡ kind_of n → ends_by is_one m ≡ ends_by is_one n
  same-kind asks None n h = ap (ends_by is_one) (sym (none-kind n (sym h)))
  same-kind asks (Some e) None h = ap (ends_by is_one) (none-kind (Some e) h)
  same-kind asks (Some e) (Some f) h = asks e f h

module _ (code : Code) (For : State → State → Type 0) (visited : List State) (is : StandsFor code For)
    (closed : IsClosedUpTo code For visited) where
  abbrev Reaches : State → Type 0
  Reaches = ReachesIn For visited

  -- ---- turns

  listed-turn : (u : State) (k : ℕ) → In u visited → ending u ≡ None → Reaches (after code u k)
  listed-turn u k i goes =
      let p = turn-by-choice code u k goes in
      subst Reaches (sym (ap silent p.2))
      (closed.turns u i goes (k % length (runnable u)) p.0
      (mod_below k (length (runnable u)) (some-run u goes), p.1))

  reaches-before : (s : State) (us : List State) → AreStandIns For s us → Reaches (last_from s us) → Reaches s
  reaches-before s [] are z = z
  reaches-before s (u ∷ us) are z = let y = reaches-before u us are.1 z in (u ∷ y.0, (are.0, y.1), y.2)

  reaches-by : (s : State) (ts : List State) (k : ℕ) → In (last_from s ts) visited → ending (last_from s ts) ≡ None
      → Follows code For s ts k → Reaches (after code s k)
  reaches-by s ts k i goes (Follows.Inside us l are leads) =
      (us, are, subst (λ (t : State). In t visited) (sym leads) i)
  reaches-by s ts k i goes (Follows.Behind us j l are leads) =
      reaches-before (after code s k) us are (subst Reaches (sym leads) (listed-turn (last_from s ts) j i goes))

  -- ---- runs

  -- the numbers are in order, and the state reaches a listed one, output apart
  abbrev Has : State → Type 0
  Has s = Numbered s × Reaches (silent s)

  abbrev listed : (s : State) → Has s → State
  listed s p = last_from (silent s) p.1.0

  listed-keeps : (s : State) (p : Has s) → Keeps code For is (silent s) (listed s p)
  listed-keeps s p = last-keeps code For is (silent s) p.1.0 p.1.1 (numbered-silent s p.0)

  listed-on : (s : State) (p : Has s) → ending s ≡ None → ending (listed s p) ≡ None
  listed-on s p goes = goes-on code For is (silent s) (listed s p) (listed-keeps s p) goes

  has-step : (s : State) (k : ℕ) → Has s → ending s ≡ None → Has (step code s k)
  has-step s k p goes = (
    numbered-step code s k p.0,
    subst Reaches (sym (silent-step code s k)) (reaches-by (silent s) p.1.0 k p.1.2 (listed-on s p goes)
        (follows code For is (silent s) p.1.0 k (numbered-silent s p.0) goes p.1.1)),
  )

  has-collect : (s : State) → Has s → ending s ≡ None → Has (plain_collect s)
  has-collect s p goes =
      subst Has (sym (collect-plain s
      ((listed-keeps s p).plain (closed.plain (listed s p) p.1.2 (listed-on s p goes))))) p

  has-run : (events : List Event) → Has (run code (start code) events)
  has-run events = run-kept code Has has-step has-collect events (start code) (numbered-start code, closed.opening)

  -- no run has one of these endings if states that stand for each other have one, or have none
  pub never-ends : (is_one : Ending → Bool)
      → ((s : State) (ts : List State) → Numbered s → AreStandIns For s ts
      → ends_by is_one (ending (last_from s ts)) ≡ ends_by is_one (ending s))
      → NoneEnds is_one visited → NeverEnds is_one code
  never-ends is_one same none events e h =
      let s = run code (start code) events in
      let p = has-run events in
      ap (ends_by is_one) (sym h)
      ∙ sym (same (silent s) p.1.0 (numbered-silent s p.0) p.1.1)
      ∙ none-by is_one (ending (listed s p)) (λ f k. none (listed s p) f p.1.2 k)

  -- of endings whose kind is asked
  pub never-ends-kind : (is_one : Ending → Bool) → AsksKind is_one → NoneEnds is_one visited → NeverEnds is_one code
  never-ends-kind is_one asks = never-ends is_one (λ s ts ordered are.
      same-kind is_one asks (ending (last_from s ts)) (ending s) (last-keeps code For is s ts are ordered).kind)

  module _ (alive : NoneDead visited) where
    alive-here : (s : State) → Has s → ending s ≡ None → dead s ≡ []
    alive-here s p goes =
        sym (silent-dead s) ∙ (listed-keeps s p).alive (alive (listed s p) p.1.2 (listed-on s p goes))

    pub never-leaks : NeverLeaks code
    never-leaks events goes = alive-here (run code (start code) events) (has-run events) goes

    pub never-reports : NeverReports code
    never-reports events p h =
        let r = stops-kept code Has has-step has-collect events (start code) p
        (numbered-start code, closed.opening) h in
        alive-here p r.0 r.1
