-- The law of the meanings of a file, as a statement.
use Rattle.std.specs.Prelude.{◌≡◌, true}
use Rattle.std.specs.List.{list_all}
use Rattle.golf_syntax_trees.specs.declared.declarations.File.{File}
use Rattle.golf_syntax_trees.specs.Declarations.{decl_good}
use Rattle.golf_check_types.specs.Files.{Typed}
use Rattle.golf_meaning_runs.specs.FileLaws.{MeaningsSound}

-- in a well-formed file that breaks no rule, the meaning of each function lacks no rule
abbrev pub FilesSound : Type 0
FilesSound = (file : File) → Typed file → list_all decl_good file.declarations ≡ true → MeaningsSound file
