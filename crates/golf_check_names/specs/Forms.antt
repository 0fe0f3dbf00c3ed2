-- The forms of expressions: what they are, whatever rules they break (Go specification, "Variable declarations": a
-- variable has the type of its initialiser).
use Rattle.std.specs.Prelude.{◌≡◌, ℕ, slice_get, None, Result, Ok, Err}
use Rattle.golf_base.specs.declared.Memory.{Memory}
use Rattle.golf_syntax_trees.specs.declared.declarations.Decl.{Decl}
use Rattle.golf_syntax_trees.specs.declared.declarations.Decl.TheVariants as d
use Rattle.golf_check_types.specs.declared.operands.Operand.{Operand}
use Rattle.golf_check_types.specs.declared.operands.Operand.TheVariants as operand
use Rattle.golf_check_types.specs.declared.scopes.FileScope.{FileScope}
use Rattle.golf_check_types.specs.Calls.{signature_result, built_in_result}
use Rattle.golf_check_types.specs.Files.{formed_content}

-- a call without a result, whatever rule its arguments break
abbrev pub without_late : Operand → Operand
without_late (operand.Nothing late) = operand.Nothing None
without_late m = m

-- the answer is this operand, except for the rule that the arguments of a call break
abbrev pub AnswersOperand : Result Operand Memory → Operand → Type 0
AnswersOperand (Ok m) found = without_late m ≡ without_late found
AnswersOperand (Err e) found = Unit {0}

-- what a call gives, whatever its arguments are
abbrev pub called_form : FileScope → Operand → Operand
called_form f (operand.Function k) = signature_result (slice_get f.functions k)
called_form f (operand.Method k) = signature_result (slice_get f.functions k)
called_form f (operand.BuiltIn b) = built_in_result b None
called_form f _ = operand.Outcome None

-- the types after one more declaration; g is the number of globals above it
abbrev pub formed_decl : FileScope → ℕ → Decl → FileScope
formed_decl f g (d.Var v) = formed_content f v.line g v.content
formed_decl f g _ = f
