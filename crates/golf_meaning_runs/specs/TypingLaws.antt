-- The laws of meanings that break no typing rule, as statements.
use Rattle.std.specs.Prelude.{◌≡◌, ℕ, true, [], ◌∷◌, ◌++◌, List, Option}
use Rattle.golf_syntax_trees.specs.declared.expressions.Expr.{Expr}
use Rattle.golf_syntax_trees.specs.declared.expressions.UnaryOperator.{UnaryOperator}
use Rattle.golf_syntax_trees.specs.declared.expressions.BinaryOperator.{BinaryOperator}
use Rattle.golf_syntax_trees.specs.declared.statements.Stmt.{Stmt}
use Rattle.golf_syntax_trees.specs.declared.declarations.Func.{Func}
use Rattle.golf_syntax_trees.specs.Statements.{stmt_form}
use Rattle.golf_data.specs.declared.value.Value.{Value}
use Rattle.golf_code_shapes.specs.FunctionLaws.{FunctionIsFit, parameter_slots}
use Rattle.golf_meaning_flat.specs.Worlds.{Answer, World}
use Rattle.golf_check_types.specs.declared.scopes.Scope.{Scope}
use Rattle.golf_check_types.specs.declared.types.Base.TheVariants as base
use Rattle.golf_check_types.specs.declared.types.GoType.{GoType}
use Rattle.golf_check_types.specs.declared.scopes.FileScope.{FileScope}
use Rattle.golf_check_types.specs.Files.{outside}
use Rattle.golf_check_types.specs.Faults.{broken}
use Rattle.golf_check_types.specs.Types.{has_base}
use Rattle.golf_check_types.specs.Names.{is_blank}
use Rattle.golf_check_types.specs.Judgments.{Judge, judge}
use Rattle.golf_check_types.specs.Statements.{walk}
use Rattle.golf_check_types.specs.Expressions.{Judged, used, given_by, named, unary_judged, binary_judged, index_judged}
use Rattle.golf_model_typing.specs.Types.{ValueType, Types}
use Rattle.golf_code_of.specs.declared.tables.Tables.{Tables}
use Rattle.golf_meaning_source.specs.Operations.{Taking, Gives, both, then_do}
use Rattle.golf_meaning_source.specs.Names.{Env}
use Rattle.golf_meaning_source.specs.ExpressionMeaning.{outer, meant}
use Rattle.golf_meaning_source.specs.Exprs.{Does, Location, name_does, unary_does, binary_does, element_type, read}
use Rattle.golf_meaning_statements.specs.Statements.{step}
use Rattle.golf_meaning_statements.specs.Functions.{Meaning}
use Rattle.golf_meaning_runs.specs.SoundFlows.{EndSound, StatementIsSound}
use Rattle.golf_meaning_runs.specs.Sound.{SoundPart, IsOf, YieldsBy, ShownBySource, Held, NamesHaveValues, FileTaken}
use Rattle.golf_meaning_runs.specs.Meets.{Meets}

module _ (taking : Taking) where
  -- if the operand can be used as a value, it gives one
  abbrev pub GivesItsValue : ℕ → Judged → Gives → Type 0
  GivesItsValue l j f = used l j ≡ [] → YieldsBy taking (given_by j) f

  abbrev pub UnaryFits : Type 0
  UnaryFits = (l : ℕ) (s : Scope) (o : UnaryOperator) (j : Judged) (f : Gives) → GivesItsValue l j f
      → (unary_judged l s o j).faults ≡ [] → ShownBySource taking (unary_judged l s o j).meaning
      (then_do f (unary_does taking o (unary_judged l s o j).meaning))

  abbrev pub BinaryFits : Type 0
  BinaryFits = (l : ℕ) (o : BinaryOperator) (j k : Judged) (f g : Gives) → GivesItsValue l j f → GivesItsValue l k g
      → (binary_judged l o j k).faults ≡ [] → ShownBySource taking (binary_judged l o j k).meaning (binary_does o f g)

  -- reads an element of a slice
  abbrev pub IndexFits : Type 0
  IndexFits = (l : ℕ) (j k : Judged) (f g : Gives) (env : Env) → GivesItsValue l j f → GivesItsValue l k g
      → (index_judged l j k).faults ≡ [] → ShownBySource taking (index_judged l j k).meaning
      (then_do (both f g) (read taking env (Location.Element (element_type (index_judged l j k).meaning))))

  abbrev pub OperatorsFit : Type 0
  OperatorsFit = UnaryFits × BinaryFits × IndexFits

  -- a name that is used as a value gives its value, if names mean what the types of the code say
  abbrev pub NamesGive : Type 0
  NamesGive = (types : Types) (t : Tables) (l : ℕ) (s : Scope) (env : Env) (n : List ℕ)
      → FileTaken taking types t s.file → NamesHaveValues taking s.locals env
      → GivesItsValue l (named l s n) ((name_does taking t (is_blank n) n (outer s n)).value env)

  -- a condition that breaks no rule gives one truth value
  abbrev pub IsTruth : List Value → Type 0
  IsTruth vs = (v : Value) × (vs ≡ v ∷ []) × IsOf taking ValueType.Bool v

  abbrev pub ConditionsDecide : Type 0
  ConditionsDecide = (l : ℕ) (j : Judged) (f : Gives) → GivesItsValue l j f → used l j
      ++ broken l 8 (has_base base.Bool (given_by j)) ≡ [] → (w : World) → SoundPart taking IsTruth (f w)

  -- an expression that breaks no rule gives what its judgment says, if names have values of their types
  abbrev pub ExpressionIsSound : Types → Tables → Judge → (ℕ → Scope → Does) → Type 0
  ExpressionIsSound types t j d =
      (l : ℕ) (s : Scope) (env : Env) → FileTaken taking types t s.file → NamesHaveValues taking s.locals env
      → (j l s).faults ≡ [] → Meets taking types t s.locals s.file env (j l s).meaning ((d l s).value env)
      ((d l s).place env) ((d l s).parts env)

  abbrev pub ExpressionsAreSound : Type 0
  ExpressionsAreSound = (types : Types) (t : Tables) (e : Expr)
      → ExpressionIsSound types t (judge e) (meant taking t e).does

  -- a well-formed statement that breaks no rule lacks no rule
  abbrev pub StatementsAreSound : Type 0
  StatementsAreSound = (types : Types) (t : Tables) (x : Stmt) → (stmt_form x).good ≡ true
      → StatementIsSound taking types t (walk x) (step taking t x).deed

  -- one argument of the type of each receiver and parameter
  abbrev pub ArgumentsFit : List (Option GoType) → List Value → Type 0
  ArgumentsFit [] [] = Unit {0}
  ArgumentsFit [] (v ∷ vs) = ⊥
  ArgumentsFit (o ∷ os) [] = ⊥
  ArgumentsFit (o ∷ os) (v ∷ vs) = Held taking o v × ArgumentsFit os vs

  -- with such arguments, the meaning of a function that breaks no rule lacks no rule
  abbrev pub FunctionsAreSound : Type 0
  FunctionsAreSound = (types : Types) (t : Tables) (names : FileScope) (f : Func) (k : ℕ) (arguments : List Value)
      (answers : List Answer) (n : ℕ) → FileTaken taking types t names → FunctionIsFit (outside names) f
      → ArgumentsFit (parameter_slots (outside names) f) arguments
      → EndSound taking.strict (Meaning taking t (outside names) k f arguments answers n).end
