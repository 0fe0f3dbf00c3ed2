use Rattle.std.proofs.Common.{Bool, List, ℕ}
use denote.Text.{Utf8}
use denote.Shadow.{shadow}
use Rattle.golf_command_words.specs.Values.{GainsNumbers, numbers_of}
use Rattle.golf_command_words.proofs.values.add_numbers.Given as goal

-- what the rest gains from here on, the whole text gains
abbrev pub invariant-loop-more : goal.invariant-loop-more
invariant-loop-more l = shadow (Utf8 l.left)
    × ((is_list : Bool) (new : List ℕ) → GainsNumbers (numbers_of l.more l.left) l.list new is_list
    → GainsNumbers (numbers_of l.fn.most l.text) l.fn.list new is_list)

abbrev pub decreases-loop-more : goal.decreases-loop-more
decreases-loop-more l = l.more
