-- A certificate under check.
use Rattle.std.specs.Prelude.{◌≡◌, ◌<◌, ◌↔◌, ℕ, List, Bool, Option, MatchOption, length, take}
use Rattle.golf_theory.specs.Membership.{In}
use Rattle.golf_model.specs.declared.graph.GraphParts.{GraphParts}
use Rattle.golf_model.specs.Graph.{Justifies}
use Rattle.golf_cert.specs.declared.links.Link.{Link}
use Rattle.golf_cert.specs.declared.links.Link.TheVariants.{Root, Child, Woken, Held}
use Rattle.golf_marks.specs.Flags.{IsSet}
use Rattle.golf_cert.specs.Links.{placed_by, places_of, IsJustifiedAmong, AreJustifiedBelow}
use Rattle.golf_cert.specs.Steps.{place_count}

-- all places that a place justifies are placed, or the place itself is not placed
abbrev pub IsPlacedOn : GraphParts → List Bool → ℕ → Type 0
IsPlacedOn g placed p = IsSet placed p → (q : ℕ) → Justifies g p q → IsSet placed q

-- the links below the bound are justified, and exactly their places are placed
pub record IsVerifying (g : GraphParts) (links : List Link) (bound : ℕ) (placed : List Bool) : Type 0 where
  pub size : length placed ≡ place_count g
  pub justified : AreJustifiedBelow g links bound
  pub placed_first : (p : ℕ) → IsSet placed p ↔ In p (places_of g (take bound links))

-- the link is no root link
abbrev pub IsUnrooted : Link → Type 0
IsUnrooted (Root node) = ⊥
IsUnrooted (Child from to) = Unit {0}
IsUnrooted (Woken node sleeper) = Unit {0}
IsUnrooted (Held sleeper node) = Unit {0}

-- `None` exactly when the link is not justified, and else the place that it places
abbrev pub TellsPlace : GraphParts → (ℕ → Type 0) → Link → Option ℕ → Type 0
TellsPlace g Placed link found =
    MatchOption found (IsJustifiedAmong g Placed link → ⊥)
    (λ place. (place ≡ placed_by g link) × (place < place_count g) × IsJustifiedAmong g Placed link)
