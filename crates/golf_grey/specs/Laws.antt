-- The limit of what an empty deque tells a hand.
use Rattle.std.specs.Prelude.{◌≡◌, ◌<◌, ℕ, List}
use mathlib.Core.Option.{some}
use lib.ListN.{get_elem?}
use Rattle.golf_grey.specs.declared.rule.GreyView.{GreyView}
use Rattle.golf_grey.specs.Rule.{all_parts, Balanced, WasEmpty}

-- In each state of the rule, a hand that finds its deque empty is told what was true already, unless it has all parts.
-- Another hand may have taken all places, and no view except for its own changes then. So a look that finds a deque
-- empty and leaves the view unchanged tells nothing that can be used later.
abbrev pub TellsNothingNew : Type 0
TellsNothingNew = (items : List ℕ) (views : List GreyView) (port : ℕ) (v : GreyView) → Balanced items views
    → get_elem? views port ≡ some v → v.parts < all_parts → WasEmpty v
