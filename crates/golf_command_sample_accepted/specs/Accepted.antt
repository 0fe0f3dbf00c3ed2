-- The property of every generated file.
use Rattle.std.specs.Prelude.{ℕ, ◌≤◌, length}
use Rattle.golf_syntax_trees.specs.declared.declarations.File.{File}
use Rattle.golf_syntax_trees.specs.Reads.{Reads}
use Rattle.golf_check_types.specs.Files.{Typed}
use Rattle.golf_command_sample.specs.File.{file, most_parts}

-- this tree reads the file of n parts and breaks no rule, and the file has at most 1,048,576 bytes
pub record IsAcceptedBy (n : ℕ) (tree : File) : Type 0 where
  pub short : length (file n) ≤ 1048576
  pub reads : Reads (file n) tree
  pub typed : Typed tree

abbrev pub AlwaysAccepted : Type 0
AlwaysAccepted = (n : ℕ) → 1 ≤ n → n ≤ most_parts → (tree : File) × IsAcceptedBy n tree
