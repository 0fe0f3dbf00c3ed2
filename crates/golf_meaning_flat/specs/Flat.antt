-- The meaning of flat code, up to a number of instructions.
use Rattle.std.specs.Prelude.{ℕ, zero, suc, ◌+◌, ◌==◌, nat_lt, cond, Bool, List, [], ◌∷◌, map, Option, Some, None}
use Rattle.std.specs.Prelude.{slice_get}
use Rattle.std.specs.Option.{option_map}
use Rattle.golf_data.specs.declared.code.Instr.{Instr}
use Rattle.golf_data.specs.declared.code.CodeLine.{CodeLine}
use Rattle.golf_data.specs.declared.code.SelectCase.{SelectCase}
use Rattle.golf_model.specs.Values.{bool_of}
use Rattle.golf_data.specs.Effects.{cases_taken}
use Rattle.golf_meaning_flat.specs.Worlds.{Misfit, Halt, Told, World, Part, halted, cut_short, bind, pushed}
use Rattle.golf_meaning_flat.specs.InstructionEffects.{Frame, miscount, on_kind, one, some_from, gets, Doing, doing}

-- Clauses of a `select`: the place of the clause that begins at a target is the number of targets below that target.

abbrev pub targets : List SelectCase → Option ℕ → List ℕ
targets [] None = []
targets [] (Some t) = t ∷ []
targets (c ∷ cs) o = c.target ∷ targets cs o

abbrev pub lower : List ℕ → ℕ → ℕ
lower [] t = 0
lower (x ∷ xs) t = cond (nat_lt x t) (suc (lower xs t)) (lower xs t)

abbrev pub relabelled : (ℕ → ℕ) → SelectCase → SelectCase
relabelled label c = record { kind = c.kind; target = label c.target }

-- the target of the clause at a place
abbrev pub default_of : (ℕ → ℕ) → ℕ → Option ℕ → Option ℕ
default_of label clause None = None
default_of label clause (Some t) = cond (label t == clause) (Some t) None

abbrev pub clause_of : (ℕ → ℕ) → ℕ → List SelectCase → Option ℕ → Option ℕ
clause_of label clause [] o = default_of label clause o
clause_of label clause (c ∷ cs) o = cond (label c.target == clause) (Some c.target) (clause_of label clause cs o)

-- acts on the clause that the answer names; the answer must name one
abbrev pub on_clause : {A X : Type 0} → (X → Part A) → World → Option X → Part A
on_clause act w None = miscount w
on_clause act w (Some x) = act x

-- takes the operands of all cases; the answer names the clause, and gives the values at its target
abbrev pub picks : List Bool → (ℕ → ℕ) → List SelectCase → Option ℕ → Frame → World → Part (ℕ × Frame)
picks gives label cs o c w =
    some_from w (cases_taken cs) [] (λ vs rest.
    bind (gets gives (Instr.Select (map (relabelled label) cs) (option_map label o)) vs w) (λ a u.
    on_clause (λ t. Part.Gives (t, record { slots = c.slots; operands = pushed a.values rest }) u) u
    (clause_of label a.clause cs o))) c.operands

-- takes a truth value from the top
abbrev pub tests : Frame → World → Part (Bool × Frame)
tests c w = one w (λ x rest. on_kind (λ b. Part.Gives (b, record { slots = c.slots; operands = rest }) w) w (bool_of x))
    c.operands

-- the continuation from a place
abbrev pub Next : Type 0
Next = ℕ → Frame → World → Told

abbrev pub ended : {A : Type 0} → Part A → (A → World → Told) → Told
ended (Part.Gives a w) next = next a w
ended (Part.Stops h os) next = halted h os

abbrev pub does : List Bool → Doing → Next → Next
does gives (Doing.Acts f) next at c w = ended (f c w) (next (at + 1))
does gives (Doing.Jumps t) next at c w = next t c w
does gives (Doing.Tests t) next at c w = ended (tests c w) (λ r u. next (cond r.0 (at + 1) t) r.1 u)
does gives (Doing.Chooses cs o) next at c w =
    ended (picks gives (lower (targets cs o)) cs o c w) (λ r u. next r.0 r.1 u)

abbrev pub at_line : List Bool → Option CodeLine → Next → Next
at_line gives None next at c w = halted (Halt.Unfit Misfit.OfRule) w.operations
at_line gives (Some l) next at c w = does gives (doing gives l.instr) next at c w

-- at most n of these instructions, from a place; `gives` says which functions give a value
abbrev pub exec : List Bool → List CodeLine → ℕ → Next
exec gives code zero at c w = cut_short w
exec gives code (suc n) at c w = at_line gives (slice_get code at) (exec gives code n) at c w
