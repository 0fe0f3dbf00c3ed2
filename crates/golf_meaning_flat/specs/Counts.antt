-- How many values the answer to an operation has.
use Rattle.std.specs.Prelude.{ℕ, ◌==◌, Bool, false, cond, List, [], ◌∷◌, length, Option, Some, None}
use Rattle.golf_data.specs.declared.code.Instr.{Instr}
use Rattle.golf_data.specs.declared.code.SelectCase.{SelectCase}
use Rattle.golf_data.specs.Effects.{left, case_left}
use Rattle.golf_meaning_flat.specs.Worlds.{Answer}

-- as many values as clause k of a `select` leaves
abbrev pub clause_left : ℕ → List SelectCase → Option ℕ → Option ℕ
clause_left k [] None = None
clause_left k [] (Some t) = cond (t == k) (Some 0) None
clause_left k (c ∷ cs) o = cond (c.target == k) (Some (case_left c.kind)) (clause_left k cs o)

-- as many values as the operation leaves, where `gives` says which functions give a value; for a choice, as many as the
-- clause that the answer names leaves
abbrev pub answer_left : List Bool → Instr → ℕ → Option ℕ
answer_left gives (Instr.Select cases otherwise) k = clause_left k cases otherwise
answer_left gives i k = cond (k == 0) (Some (left gives i)) None

abbrev pub is_so_many : Option ℕ → ℕ → Bool
is_so_many None n = false
is_so_many (Some m) n = m == n

abbrev pub is_counted : List Bool → Instr → Answer → Bool
is_counted gives i a = is_so_many (answer_left gives i a.clause) (length a.values)
