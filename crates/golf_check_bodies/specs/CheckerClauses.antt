-- The clauses of the checker's methods. An answer comes only if no rule is broken, and then the checker is where the
-- walk of the definitions is.
use Rattle.std.specs.Prelude.{◌≡◌, ℕ, Result, List, ◌++◌, map, flat_map, Option}
use Rattle.golf_syntax_trees.specs.declared.expressions.Expr.{Expr}
use Rattle.golf_check_types.specs.declared.fault.TypeFault.{TypeFault}
use Rattle.golf_check_types.specs.declared.types.Base.{Base}
use Rattle.golf_check_types.specs.declared.types.GoType.{GoType}
use Rattle.golf_check_types.specs.declared.facts.Fact.{Fact}
use Rattle.golf_check_types.specs.declared.operands.Operand.{Operand}
use Rattle.golf_check_types.specs.declared.operands.Given.{Given}
use Rattle.golf_check_types.specs.Faults.{AnswersOrFault}
use Rattle.golf_check_types.specs.Expressions.{Judged, facts_of, put_facts, used, named_or_used, given_by}
use Rattle.golf_check_types.specs.Statements.{Walked, behind, received, carried}
use Rattle.golf_check_bodies.specs.declared.checker.Checker.{Checker}

-- the checker with these facts added
abbrev pub with_facts : Checker → List Fact → Checker
with_facts c fs = record c { facts = c.facts ++ fs }

-- The answer is what an expression is, and the facts of its parts were added.
abbrev pub Judges : Result Operand TypeFault → Judged → Checker → Checker → Type 0
Judges result j old new = AnswersOrFault result j.faults (λ m. (m ≡ j.meaning) × (new ≡ with_facts old j.inner))

-- the same, and its own fact was added, too
abbrev pub JudgesWhole : Result Operand TypeFault → Judged → Checker → Checker → Type 0
JudgesWhole result j old new = AnswersOrFault result j.faults
    (λ m. (m ≡ j.meaning) × (new ≡ with_facts old (facts_of j)))

-- the same for an expression that is used as a value
abbrev pub GivesValue : Result Given TypeFault → Judged → Checker → Checker → Type 0
GivesValue result j old new = AnswersOrFault result (used old.line j)
    (λ v. (v ≡ given_by j) × (new ≡ with_facts old (facts_of j)))

-- the same for an expression that can be a name of any kind
abbrev pub GivesAnyKind : Result Operand TypeFault → Judged → Checker → Checker → Type 0
GivesAnyKind result j old new = AnswersOrFault result (named_or_used old.line j)
    (λ m. (m ≡ j.meaning) × (new ≡ with_facts old (facts_of j)))

-- the same for several expressions that are used as values
abbrev pub GivesAll : Result (List Given) TypeFault → List Judged → Checker → Checker → Type 0
GivesAll result js old new = AnswersOrFault result (flat_map (used old.line) js)
    (λ vs. (vs ≡ map given_by js) × (new ≡ with_facts old (flat_map facts_of js)))

-- the same for the values for fields of these names; the place of its field comes before each value
abbrev pub Puts : Option Base → List (List ℕ) → Result (List Given) TypeFault → List Judged → Checker → Checker → Type 0
Puts b names result js old new = AnswersOrFault result (flat_map (used old.line) js)
    (λ vs. (vs ≡ map given_by js) × (new ≡ with_facts old (put_facts old.scope.file b names js)))

-- The answer is the type of the received value, and the facts of the parts were added.
abbrev pub AnswersReceived : Result (Option GoType) TypeFault → Expr → Checker → Checker → Type 0
AnswersReceived result e old new = AnswersOrFault result (received old.line e old.scope).faults
    (λ t. (t ≡ carried old.line e old.scope) × (new ≡ with_facts old (received old.line e old.scope).facts))

-- A statement that leaves the scope as it is: its facts were added.
abbrev pub AddsFacts : {A : Type 0} → Result A TypeFault → Walked → Checker → Checker → Type 0
AddsFacts result w old new = AnswersOrFault result w.faults (λ _. new ≡ with_facts old w.facts)

-- Any statement: the scope is the one after it, and its facts were added. The line is that of its last part.
abbrev pub Walks : {A : Type 0} → Result A TypeFault → Walked → Checker → Checker → Type 0
Walks result w old new = AnswersOrFault result w.faults
    (λ _. (new.scope ≡ behind old.scope w) × (new.facts ≡ old.facts ++ w.facts))
