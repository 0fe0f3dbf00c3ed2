-- Function 0, and functions that are made for `go` and `defer`, against what was worked out by hand.
-- For: `EntryMeaning`, `MadeMeaning`, specs/MadeFunctions.antt; `made_in`, specs/Files.antt
-- By: computing, with the equations for literals
use Rattle.std.specs.Prelude.{◌≡◌, ℕ, negsuc, List, [], ◌∷◌, Some, None, codes}
use Rattle.std.proofs.Common.{refl, ap₂}
use Rattle.golf_syntax_trees.specs.declared.statements.VarContent.{VarContent}
use Rattle.golf_syntax_trees.specs.declared.statements.VarContent.TheVariants as content
use Rattle.golf_syntax_trees.specs.declared.declarations.Decl.{Decl}
use Rattle.golf_syntax_trees.specs.declared.declarations.Decl.TheVariants as d
use Rattle.golf_data.specs.declared.value.Value.{Value}
use Rattle.golf_data.specs.declared.code.Instr.{Instr}
use Rattle.golf_check_types.specs.declared.types.Layer.TheVariants as layer
use Rattle.golf_check_types.specs.declared.types.Base.TheVariants as base
use Rattle.golf_check_types.specs.declared.operands.BuiltIn.TheVariants as built_in
use Rattle.golf_check_types.specs.Files.{outside}
use Rattle.golf_code_of.specs.declared.surroundings.Making.{Making}
use Rattle.golf_code_of.specs.Statements as L
use Rattle.golf_code_of.proofs.Examples.Writing as w
use Rattle.golf_code_of.proofs.Examples.Writing.{file, tables, scope, outermost, plain, layered}
use Rattle.golf_meaning_flat.specs.Worlds.{Answer, Halt, End, Told}
use Rattle.golf_meaning_source.specs.Operations.{Gives, gives, both, then_do, visible}
use Rattle.golf_meaning_source.specs.ExpressionMeaning.{Meant}
use Rattle.golf_meaning_statements.specs.Steps.{parts}
use Rattle.golf_meaning_statements.specs.Functions.{begins}
use Rattle.golf_meaning_statements.specs.MadeFunctions.{then_returns, MadeMeaning, EntryMeaning}
use Rattle.golf_meaning_statements.proofs.OnLiterals.{on_literals}
use Rattle.golf_meaning_statements.proofs.Samples as s
use Rattle.golf_meaning_statements.proofs.Samples.{strictly, Sample, values, name, integer}
use Rattle.golf_meaning_statements.proofs.SamplesOfExpressions.{gives_on}
use Rattle.golf_meaning_statements.proofs.Bodies.{ref, int, shown, answer, ends}

-- ---- function 0

abbrev five : Sample
five = integer (codes "5")

abbrev seven : Sample
seven = integer (codes "7")

abbrev variable : List ℕ → VarContent → Decl
variable n x = d.Var (record { line = 1; name = n; content = x })

-- var a = 5; var b int; var e = 7
abbrev globals : List Decl
globals = variable (codes "a") (content.Untyped five.tree)
    ∷ variable (codes "b") (content.Zero (w.named (codes "int")).tree)
    ∷ variable (codes "e") (content.Untyped seven.tree) ∷ []

abbrev sets : ℕ → Meant → Gives
sets g m = then_do (gives_on m 1 (record (outside file) { initialises = Some g }) [])
    (visible strictly (Instr.StoreGlobal g) [])

abbrev entry : List Answer → Meant → Meant → Told
entry answers m k = then_returns (both (both (sets 0 m) (both (gives []) (both (sets 2 k) (gives []))))
    (visible strictly (Instr.Call 3 0) [] []) (begins answers))

-- each initialiser stores its value, in source order, and then `main` is called, which is function 3
pub sets_each_global : EntryMeaning strictly tables file 3 globals (answer [] ∷ answer [] ∷ answer [] ∷ []) 0
    ≡ ends (shown (Instr.StoreGlobal 0) (int 5 ∷ []) ∷ shown (Instr.StoreGlobal 2) (int 7 ∷ [])
    ∷ shown (Instr.Call 3 0) [] ∷ []) (End.Halts (Halt.Returned None))
unfolding on_literals
sets_each_global = ap₂ (entry (answer [] ∷ answer [] ∷ answer [] ∷ [])) five.same seven.same

-- it waits for `main`
pub waits_for_main : EntryMeaning strictly tables file 3 globals (answer [] ∷ answer [] ∷ []) 0
    ≡ ends (shown (Instr.StoreGlobal 0) (int 5 ∷ []) ∷ shown (Instr.StoreGlobal 2) (int 7 ∷ [])
    ∷ shown (Instr.Call 3 0) [] ∷ []) (End.Halts Halt.Waits)
unfolding on_literals
waits_for_main = ap₂ (entry (answer [] ∷ answer [] ∷ [])) five.same seven.same

-- ---- functions that are made

abbrev unlock : Making
unlock = record { operation = built_in.Unlock; parameters = plain base.Mutex ∷ []; line = 1 }

abbrev done : Making
done = record { operation = built_in.Done; parameters = plain base.Group ∷ []; line = 1 }

abbrev close : Making
close = record { operation = built_in.Close; parameters = layered layer.Chan base.Int ∷ []; line = 1 }

-- defer mu.Unlock(); go wg.Done(): one function each, in this order
pub one_for_each_statement : ((L.in_order (parts (values (s.defer_alone (s.dot (name (codes "mu")) (codes "Unlock"))
    ∷ s.go_alone (s.dot (name (codes "wg")) (codes "Done")) ∷ [])))).lay outermost scope).made ≡ unlock ∷ done ∷ []
unfolding on_literals
one_for_each_statement = refl

pub unlocks_once : MadeMeaning strictly unlock (ref 5 ∷ []) (answer [] ∷ []) 0
    ≡ ends (shown Instr.Unlock (ref 5 ∷ []) ∷ []) (End.Halts (Halt.Returned None))
unlocks_once = refl

pub done_adds_minus_one : MadeMeaning strictly done (ref 6 ∷ []) (answer [] ∷ []) 0
    ≡ ends (shown Instr.GroupAdd (ref 6 ∷ Value.Int (negsuc 0) ∷ []) ∷ []) (End.Halts (Halt.Returned None))
done_adds_minus_one = refl

pub closes_once : MadeMeaning strictly close (ref 0 ∷ []) (answer [] ∷ []) 0
    ≡ ends (shown Instr.Close (ref 0 ∷ []) ∷ []) (End.Halts (Halt.Returned None))
closes_once = refl

-- a lock that is held waits
pub a_made_function_waits : MadeMeaning strictly (record unlock { operation = built_in.Lock }) (ref 5 ∷ []) [] 0
    ≡ ends (shown Instr.Lock (ref 5 ∷ []) ∷ []) (End.Halts Halt.Waits)
a_made_function_waits = refl
