-- Faults: the broken rules in the order of the walk, and what an answer says about them.
use Rattle.std.specs.Prelude.{◌≡◌, ℕ, Bool, cond, List, [], ◌∷◌, Result, Ok, Err}
use Rattle.golf_check_types.specs.declared.fault.TypeFault.{TypeFault}
use Rattle.golf_check_types.specs.declared.fault.TypeFault.TheVariants as answers

-- a broken rule and its line
pub record Fault : Type 0 where
  pub rule : ℕ
  pub line : ℕ

-- the rule is broken on this line, unless the test holds
abbrev pub broken : ℕ → ℕ → Bool → List Fault
broken line rule holds = cond holds [] (record { rule = rule; line = line } ∷ [])

-- the first fault is this rule on this line
abbrev pub IsFirst : ℕ → ℕ → List Fault → Type 0
IsFirst rule line [] = ⊥
IsFirst rule line (f ∷ fs) = record { rule = rule; line = line } ≡ f

-- The reason why a check stops: memory, at any time, or the first broken rule.
abbrev pub StopsAt : TypeFault → List Fault → Type 0
StopsAt answers.Memory faults = Unit {0}
StopsAt (answers.At line rule) faults = IsFirst rule line faults

-- An answer comes only if no rule is broken. Without an answer, memory ran out or the first broken rule is reported.
abbrev pub AnswersOrFault : {A : Type 0} → Result A TypeFault → List Fault → (A → Type 0) → Type 0
AnswersOrFault (Ok a) faults Good = (faults ≡ []) × Good a
AnswersOrFault (Err e) faults Good = StopsAt e faults
