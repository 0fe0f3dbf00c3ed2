-- The declarations of the head of a function (Go specification, "Function declarations", "Method declarations"), the
-- clauses of calls that check declarations, and the walks over the declarations of a file.
use Rattle.std.specs.Prelude.{◌≡◌, ℕ, List, ◌∷◌, ◌++◌, [], map, flat_map, Option, Some, None, Result}
use Rattle.golf_syntax_trees.specs.declared.declarations.Receiver.{Receiver}
use Rattle.golf_syntax_trees.specs.declared.declarations.Func.{Func}
use Rattle.golf_syntax_trees.specs.declared.declarations.Decl.{Decl}
use Rattle.golf_syntax_trees.specs.declared.declarations.File.{File}
use Rattle.golf_check_types.specs.declared.fault.TypeFault.{TypeFault}
use Rattle.golf_check_types.specs.declared.types.GoType.{GoType}
use Rattle.golf_check_types.specs.declared.scopes.FileScope.{FileScope}
use Rattle.golf_check_types.specs.declared.scopes.Scope.{Scope}
use Rattle.golf_check_types.specs.Faults.{Fault, AnswersOrFault}
use Rattle.golf_check_types.specs.Statements.{Walk, Walked, nothing, breaks, behind, in_order, walk}
use Rattle.golf_check_bodies.specs.declared.checker.Checker.{Checker}
use Rattle.golf_check_types.specs.Files.{receiver_type, parameter_walk, end_faults, of_function, names_faults}
use Rattle.golf_check_types.specs.Files.{none_above, type_faults, main_faults, with_types, with_forms, walk_faults}
use Rattle.golf_check_types.specs.Files.{outside, file_scope, with_imports, no_imports}

-- the name of a receiver with its type
abbrev pub receiver_name : Scope → Option Receiver → Option (List ℕ × Option GoType)
receiver_name file None = None
receiver_name file (Some r) = Some (r.name, receiver_type file r.type_name)

abbrev pub optional_parameter : ℕ → Option (List ℕ × Option GoType) → Walk
optional_parameter l None s = nothing
optional_parameter l (Some p) s = parameter_walk l p s

-- the walks of a body and of its end
abbrev pub body_walks : Func → List Walk
body_walks f = in_order (map walk f.body) ∷ (λ s. breaks (end_faults f)) ∷ []

-- the walks of parameters of these names and types, and of the body after them
abbrev pub inner_walks : Func → List (List ℕ × Option GoType) → List Walk
inner_walks f ps = in_order (map (parameter_walk f.line) ps) ∷ body_walks f

-- the walks of a receiver, of parameters, and of the body after them
abbrev pub head_walks : Func → Option (List ℕ × Option GoType) → List (List ℕ × Option GoType) → List Walk
head_walks f r ps = optional_parameter f.line r ∷ inner_walks f ps

-- how many slots receiver and parameters have
abbrev pub arguments : Func → Option (List ℕ × Option GoType) → List (List ℕ × Option GoType) → Scope → ℕ
arguments f r ps s =
    let t = behind s (optional_parameter f.line r s) in
    (behind t (in_order (map (parameter_walk f.line) ps) t)).next

-- the walk of a function with this head, with its fact
abbrev pub function_walked : Func → Option (List ℕ × Option GoType) → List (List ℕ × Option GoType) → Walk
function_walked f r ps s = of_function (arguments f r ps s) s (in_order (head_walks f r ps) s)

-- The clause of a call for a head and its body: besides that of a statement, the answer is how many slots receiver and
-- parameters have.
abbrev pub Counts : Result ℕ TypeFault → Walked → ℕ → Checker → Checker → Type 0
Counts result w n old new = AnswersOrFault result w.faults
    (λ k. (k ≡ n) × ((new.scope ≡ behind old.scope w) × (new.facts ≡ old.facts ++ w.facts)))

-- The clause of a call for a declaration: an answer comes only if no rule is broken. Then the scope is as before, and
-- the facts of the declaration were added.
abbrev pub Stays : {A : Type 0} → Result A TypeFault → Walked → Checker → Checker → Type 0
Stays result w old new = AnswersOrFault result w.faults
    (λ _. (new.scope ≡ old.scope) × (new.facts ≡ old.facts ++ w.facts))

-- the names of a file with their types, as written and by form
abbrev pub typed_file : FileScope → List Decl → FileScope
typed_file f xs = with_forms (with_types f xs) 0 xs

-- the faults of the walks over declarations, in the scope outside all functions in which names have no types yet
abbrev pub named_faults : Scope → List Decl → List Fault
named_faults s xs = names_faults s.file none_above xs
    ++ (flat_map (type_faults s) xs ++ (main_faults xs ++ walk_faults (typed_file s.file xs) 0 xs))

-- the scope of a file outside all functions
unfoldable pub scope_of : File → Scope
scope_of f = outside (file_scope (with_imports no_imports f.imports) f.declarations)
