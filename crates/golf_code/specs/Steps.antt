-- Declarations one after another, by their facts, and how a walk over them ends.
use Rattle.std.specs.Prelude.{◌≡◌, List, [], ◌∷◌, ◌++◌, Option, Some, None}
use Rattle.golf_syntax_trees.specs.declared.declarations.Decl.{Decl}
use Rattle.golf_data.specs.declared.value.Value.{Value}
use Rattle.golf_data.specs.declared.code.Function.{Function}
use Rattle.golf_check_types.specs.declared.facts.Fact.{Fact}
use Rattle.golf_check_types.specs.declared.scopes.FileScope.{FileScope}
use Rattle.golf_code_layout.specs.declared.emitted.Emitted.{Emitted}
use Rattle.golf_code_layout.specs.Emission.{onto}
use Rattle.golf_code_of.specs.declared.surroundings.Making.{Making}
use Rattle.golf_code_of.specs.declared.tables.Tables.{Tables}
use Rattle.golf_code_of.specs.Table.{Texts}
use Rattle.golf_code_facts.specs.Files.{constants_by, DeclsBy, decls_by, file_by}
use Rattle.golf_code.specs.declared.walk.Walk.{Walk}

-- a declaration was skipped, and its value was added if it is a constant: the constants in the end stay the same
abbrev pub SkipsOver : Texts → Decl → List Fact → List Value → List Fact → List Value → Type 0
SkipsOver texts x fs vs gs ws = (xs : List Decl) → vs ++ constants_by texts (x ∷ xs) fs ≡ ws
    ++ constants_by texts xs gs

-- the end of a walk: the parts of all initialisers, the functions and methods that follow, and all functions to be made
pub record Ended : Type 0 where
  pub emitted : List Emitted
  pub own : List Function
  pub made : List Making

abbrev pub ended_by : List Emitted → List Making → DeclsBy → Ended
ended_by ms made xs = record { emitted = onto ms xs.initials; own = xs.functions.own; made = made ++ xs.functions.made }

-- the end of a walk if these declarations follow
abbrev pub ended : Walk → List Decl → Ended
ended w xs =
    let d = w.writer.draft in
    ended_by w.initials d.made (decls_by d.tables.now w.gives.now w.signatures.now w.globals d.functions xs
    w.writer.facts)

-- the end with these functions before the others
abbrev pub with_own : List Function → Ended → Ended
with_own fs e = record e { own = fs ++ e.own }

abbrev pub in_list : Option Function → List Function
in_list None = []
in_list (Some f) = f ∷ []

-- a walk skipped a declaration, which is this function or none
abbrev pub WalksDeclaration : Option Function → Walk → Decl → Walk → Type 0
WalksDeclaration own old x new = (xs : List Decl) → ended old (x ∷ xs) ≡ with_own (in_list own) (ended new xs)

-- a walk is before all declarations of a file with these facts
abbrev pub Starts : Tables → FileScope → List Fact → Walk → Type 0
Starts t f facts w = (xs : List Decl) → ended w xs ≡ ended_by [] [] (file_by t f xs facts)
