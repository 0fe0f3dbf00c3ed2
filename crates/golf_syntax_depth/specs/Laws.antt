-- The laws of depth, as statements.
use Rattle.std.specs.Prelude.{◌≤◌, List}
use Rattle.golf_lex_tokens.specs.declared.token.Token.{Token}
use Rattle.golf_lex_tokens.specs.Cost.{costs}
use Rattle.golf_syntax_trees.specs.declared.declarations.File.{File}
use Rattle.golf_syntax_trees.specs.Reads.{Prints, ReadsTokens, most}
use Rattle.golf_syntax_depth.specs.Depths.{largest, file_depth}

abbrev pub DepthIsWithinCost : Type 0
DepthIsWithinCost = (tokens : List Token) (file : File) → Prints file tokens → file_depth file ≤ largest (costs tokens)

abbrev pub FilesAreShallow : Type 0
FilesAreShallow = (tokens : List Token) (file : File) → ReadsTokens tokens file → file_depth file ≤ most
