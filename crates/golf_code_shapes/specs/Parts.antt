-- The parts of the declarations of a file, in source order (Go specification, "Declarations and scope").
use Rattle.std.specs.Prelude.{List, [], ◌∷◌}
use Rattle.golf_syntax_trees.specs.declared.statements.VarContent.{VarContent}
use Rattle.golf_syntax_trees.specs.declared.declarations.Field.{Field}
use Rattle.golf_syntax_trees.specs.declared.declarations.Func.{Func}
use Rattle.golf_syntax_trees.specs.declared.declarations.Decl.{Decl}
use Rattle.golf_syntax_trees.specs.declared.declarations.Decl.TheVariants as d

-- the initial value of a global
abbrev pub contents_of : Decl → List VarContent
contents_of (d.Var v) = v.content ∷ []
contents_of _ = []

-- the fields of a struct
abbrev pub structs_of : Decl → List (List Field)
structs_of (d.Struct l n fields) = fields ∷ []
structs_of _ = []

-- a function or method
abbrev pub functions_of : Decl → List Func
functions_of (d.Func f) = f ∷ []
functions_of _ = []
