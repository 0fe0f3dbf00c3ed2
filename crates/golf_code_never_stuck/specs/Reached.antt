-- The states that the code of a typed file reaches, and the states that moves reach from a state (Go specification,
-- "Program execution"; this runtime's rule).
use Rattle.std.specs.Prelude.{◌≡◌, ℕ, Bool, true, [], None}
use Rattle.std.specs.List.{list_all}
use Rattle.golf_data.specs.declared.code.Code.{Code}
use Rattle.golf_syntax_trees.specs.declared.declarations.File.{File}
use Rattle.golf_syntax_trees.specs.Declarations.{decl_good}
use Rattle.golf_check_types.specs.Files.{Typed}
use Rattle.golf_model.specs.State.{State, ending}
use Rattle.golf_model.specs.Turn.{step}
use Rattle.golf_model.specs.Collections.{sets_finalisers, real_collect}
use Rattle.golf_model.specs.Futures.{Leads}
use Rattle.golf_code_of.specs.Files.{CodeOf}

-- a well-formed file that breaks no rule
pub record IsProgram (file : File) : Type 0 where
  pub good : list_all decl_good file.declarations ≡ true
  pub typed : Typed file

-- the code is that of such a file, and moves reach the state from its opening state
pub record ReachedState (code : Code) (s : State) : Type 0 where
  pub file : File
  pub program : IsProgram file
  pub coded : code ≡ CodeOf file
  pub leads : Leads code s

-- the states that moves reach from s: by turns, collections with or without recovery, and the emptying of the output
pub data LeadsOn (code : Code) (s : State) : State → Type 0 where
  Here : LeadsOn code s s
  Turn : (t : State) (c : ℕ) → LeadsOn code s t → ending t ≡ None → LeadsOn code s (step code t c)
  Collection : (t : State) (recover : Bool) → LeadsOn code s t → ending t ≡ None
      → LeadsOn code s (real_collect t recover (sets_finalisers code))
  Emptied : (t : State) → LeadsOn code s t → LeadsOn code s (record t { output = [] })
