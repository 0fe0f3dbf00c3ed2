-- The explanation of a state's marking, and of the waiting goroutines that are live (profile).
use Rattle.std.specs.Prelude.{◌≡◌, ℕ, ◌+◌, List, [], ◌∷◌, ◌++◌, map, length, Option, Some, None, slice_get}
use Rattle.golf_theory.specs.Maps.{find}
use Rattle.golf_data.specs.declared.report.Entry.{Entry}
use Rattle.golf_model.specs.declared.graph.GraphParts.{GraphParts}
use Rattle.golf_model.specs.Graph.{sleeper_count}
use Rattle.golf_model.specs.State.{State}
use Rattle.golf_model.specs.Reports.{entry_of}
use Rattle.golf_snapshot.specs.Parts.{live_parts}
use Rattle.golf_cert.specs.ComputedLevels.{least_in_order, reason_in}
use Rattle.golf_cert.specs.Reasons.{HasReasons}
use Rattle.golf_why.specs.declared.explanation.Reached.{Reached}
use Rattle.golf_why.specs.declared.explanation.Explanation.{Explanation}
use Rattle.golf_why.specs.Members.{members_before}

-- the number of places of the certificate of the state's marking: each place of the least closed set once
unfoldable pub certificate_size : State → ℕ
certificate_size s = length (least_in_order (live_parts s))

-- how each sleeper is blocked, as a report says it
abbrev pub sleeper_entries_in : State → GraphParts → List (Option Entry)
sleeper_entries_in s g = map (λ x. slice_get (entry_of x.goroutine.0 (find x.goroutine.0 s.goroutines)) 0) g.sleepers

-- the explanation of a sleeper that is blocked so, by the places of its reason; empty without a reason, since it is
-- then dead
abbrev pub reached_by : GraphParts → Entry → List ℕ → List Reached
reached_by g e [] = []
reached_by g e (p ∷ ps) = record {
  goroutine = e.goroutine;
  wait = e.wait;
  line = e.line;
  by = members_before g (p ∷ ps);
} ∷ []

-- the explanation of the sleeper of this number
abbrev pub reached_at : GraphParts → ℕ → Option Entry → List Reached
reached_at g k None = []
reached_at g k (Some e) = reached_by g e (reason_in g k)

-- the explanations of the sleepers from this number on
abbrev pub reached_from : GraphParts → ℕ → List (Option Entry) → List Reached
reached_from g k [] = []
reached_from g k (o ∷ os) = reached_at g k o ++ reached_from g (k + 1) os

-- the goroutines other than 0 that wait and are live, in rising order of number, each with the way to it
unfoldable pub reached_in : State → List Reached
reached_in s = reached_from (live_parts s) 0 (sleeper_entries_in s (live_parts s))

abbrev pub listed : Option Reached → List Reached
listed None = []
listed (Some r) = r ∷ []

-- the explanation was made from this state
pub record Explains (s : State) (e : Explanation) : Type 0 where
  pub graph : e.graph ≡ live_parts s
  pub sleeper_entries : e.sleeper_entries ≡ sleeper_entries_in s e.graph
  pub reasons : HasReasons e.graph e.reasons
  pub places : e.places ≡ certificate_size s

-- the reasons are those of the explanation's graph, and each sleeper has its entry
pub record IsExplanation (e : Explanation) : Type 0 where
  pub reasons : HasReasons e.graph e.reasons
  pub entries : length e.sleeper_entries ≡ sleeper_count e.graph
