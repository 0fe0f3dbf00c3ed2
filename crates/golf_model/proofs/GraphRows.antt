-- Rows that are the inverse of a graph's children, and of what its sleepers wait on.
-- For: `parents` and `waiters`, src/graph.rt; `IsInverseBelow`, golf_rows/specs/Rows.antt.
-- By: what stands at a place of a list; no induction.
use Rattle.std.proofs.Common.{◌≡◌, ℕ, ◌<◌, List, [], length, map, Option, ap, sym, subst, ◌∙◌}
use Rattle.std.specs.Prelude.{unwrap_or}
use Rattle.std.proofs.lemmas.List.{length-map}
use Rattle.std.proofs.lemmas.Option.{slice_get-map, unwrap_or-slice_get}
use Rattle.golf_theory.specs.Membership.{Every}
use Rattle.golf_theory.proofs.Lists.{Every-map}
use Rattle.golf_rows.specs.Rows.{row_of, IsInverseBelow}
use Rattle.golf_rows.proofs.Adding.{IsInverseBelow-same}
use Rattle.golf_model.specs.Sleepers.{Sleeper}
use Rattle.golf_model.specs.declared.graph.GraphParts.{GraphParts}
use Rattle.golf_model.specs.Graph.{IsInRange, node_count, sleeper_count, children_of, sleeper_waits}

abbrev all_waits : GraphParts → List (List ℕ)
all_waits g = map (λ (x : Sleeper). x.waits) g.sleepers

pub parents-inverse : (g : GraphParts) (count : ℕ) (rows : List (List ℕ)) → count ≡ node_count g
    → IsInverseBelow (node_count g) count (row_of g.children) rows
    → IsInverseBelow (node_count g) (node_count g) (children_of g) rows
parents-inverse g count rows is w =
    subst (λ (k : ℕ). IsInverseBelow (node_count g) k (children_of g) rows) is
    (IsInverseBelow-same (node_count g) count (row_of g.children) (children_of g) rows
    (λ n. sym (unwrap_or-slice_get g.children n [])) w)

waits-row : (g : GraphParts) (s : ℕ) → row_of (all_waits g) s ≡ sleeper_waits g s
waits-row g s = sym (unwrap_or-slice_get (all_waits g) s [])
    ∙ ap (λ (o : Option (List ℕ)). unwrap_or o []) (slice_get-map (λ (x : Sleeper). x.waits) g.sleepers s)

pub waiters-inverse : (g : GraphParts) (count : ℕ) (waits rows : List (List ℕ)) → waits ≡ all_waits g
    → count ≡ node_count g → IsInverseBelow (length waits) count (row_of waits) rows
    → IsInverseBelow (sleeper_count g) (node_count g) (sleeper_waits g) rows
waiters-inverse g count waits rows same is w =
    let own : IsInverseBelow (length (all_waits g)) count (row_of (all_waits g)) rows =
    subst (λ (l : List (List ℕ)). IsInverseBelow (length l) count (row_of l) rows) same w in
    let size : length (all_waits g) ≡ sleeper_count g = length-map g.sleepers (λ (x : Sleeper). x.waits) in
    subst (λ (b : ℕ). IsInverseBelow b (node_count g) (sleeper_waits g) rows) size
    (subst (λ (k : ℕ). IsInverseBelow (length (all_waits g)) k (sleeper_waits g) rows) is
    (IsInverseBelow-same (length (all_waits g)) count (row_of (all_waits g)) (sleeper_waits g) rows
    (waits-row g) own))

-- what they wait on are nodes
pub waits-below : (g : GraphParts) (count : ℕ) (waits : List (List ℕ)) → IsInRange g → waits ≡ all_waits g
    → count ≡ node_count g → Every (Every (λ n. n < count)) waits
waits-below g count waits fit same is =
    subst (λ (l : List (List ℕ)). Every (Every (λ n. n < count)) l) (sym same)
    (subst (λ (k : ℕ). Every (Every (λ n. n < k)) (all_waits g)) (sym is)
    (Every-map (λ (w : List ℕ). Every (λ n. n < node_count g) w) (λ (x : Sleeper). x.waits) g.sleepers fit.waits))
