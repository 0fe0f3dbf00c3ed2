-- The result of a marking.
use Rattle.golf_model.specs.declared.graph.GraphParts.{GraphParts}
use Rattle.golf_model.specs.declared.graph.Marked.{Marked}
use Rattle.golf_model.specs.Graph.{node_count, sleeper_count, Least}
use Rattle.golf_marks.specs.Flags.{HasMarked}

-- the marked places are the least closed set of the graph
abbrev pub MarksLeast : GraphParts → Marked → Type 0
MarksLeast g m = HasMarked (node_count g) (sleeper_count g) (Least g) m
