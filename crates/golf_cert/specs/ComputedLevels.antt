-- Levels and reasons, computed by rounds over all places, and by the smallest place that satisfies a test.
use Rattle.std.specs.Prelude.{◌-◌, ◌&&◌, ◌++◌, ℕ, zero, suc, Bool, not, List, [], ◌∷◌, Option, filter, find, option_map}
use Rattle.std.specs.Prelude.{unwrap_or}
use Rattle.std.specs.List.{range_with_len}
use Rattle.golf_theory.specs.Membership.{is_in}
use Rattle.golf_model.specs.declared.graph.GraphParts.{GraphParts}
use Rattle.golf_model.specs.Graph.{sleeper_place, justifies, is_justified_next}
use Rattle.golf_cert.specs.Steps.{place_count}

-- the places of at most this level: each round has the roots, and the places that the round before justifies
unfoldable pub within : GraphParts → ℕ → List ℕ
within g zero = []
within g (suc level) = filter (is_justified_next g (within g level)) (range_with_len 0 (place_count g))

-- the places of the least closed set, in rising order; no level is above the count of places
unfoldable pub least_in_order : GraphParts → List ℕ
least_in_order g = within g (place_count g)

-- whether the place is of this level: this round has it, and the one before does not
abbrev pub is_at_level : GraphParts → ℕ → ℕ → Bool
is_at_level g level p = is_in p (within g level) && not (is_in p (within g (level - 1)))

-- the level of a place; a place outside the least closed set has none
unfoldable pub level_in : GraphParts → ℕ → Option ℕ
level_in g p = find (λ level. is_at_level g level p) (range_with_len 1 (place_count g))

-- the smallest place of this level that justifies the next one
unfoldable pub least_before : GraphParts → ℕ → ℕ → Option ℕ
least_before g level next = find (λ p. is_at_level g level p && justifies g p next) (range_with_len 0 (place_count g))

-- the places of a reason of this length that ends with the place
unfoldable pub places_to : GraphParts → ℕ → ℕ → List ℕ
places_to g zero p = []
places_to g (suc level) p = unwrap_or (option_map (places_to g level) (least_before g level p)) [] ++ p ∷ []

-- the reason of a place, or the empty list outside the least closed set
unfoldable pub reason_to : GraphParts → ℕ → List ℕ
reason_to g p = unwrap_or (option_map (λ level. places_to g level p) (level_in g p)) []

-- the reason of a sleeper, or the empty list outside the least closed set
abbrev pub reason_in : GraphParts → ℕ → List ℕ
reason_in g sleeper = reason_to g (sleeper_place g sleeper)
