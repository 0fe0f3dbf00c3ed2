-- The branches of `if` and `else if` on flat parts: the blocks that each begins, and their ends.
use Rattle.std.specs.Prelude.{ℕ, zero, suc, List, [], ◌∷◌, ◌++◌}
use Rattle.golf_code_of.specs.Statements.{within}
use Rattle.golf_code_layout.specs.declared.emitted.Emitted.{Emitted}
use Rattle.golf_code_layout.specs.declared.emitted.Emitted.TheVariants as emit
use Rattle.golf_code_facts.specs.Statements.{LayBy}
use Rattle.golf_code_expressions.specs.declared.writer.Writer.{Writer}
use Rattle.golf_code_statements.specs.declared.targets.Targets.{Targets}
use Rattle.golf_code_statements.specs.Lays.{around, after}

abbrev pub with_parts : Writer → List Emitted → Writer
with_parts w ms = record { facts = w.facts; draft = record w.draft { emitted = ms } }

-- the two blocks of an `if` with an `else` begin
abbrev pub two_begun : Writer → Writer
two_begun w = with_parts w ((w.draft.emitted ++ emit.Block ∷ []) ++ emit.Block ∷ [])

-- the first branch, which goes on at the end of both, and the end of the inner block
abbrev pub branched : ℕ → LayBy → Targets → Writer → Writer
branched l x u w =
    let v = after (two_begun w) (x (within 2 (around w u)) w.facts) in
    with_parts v ((v.draft.emitted ++ emit.Exit l 1 ∷ []) ++ emit.End ∷ [])

-- n blocks end
abbrev pub shut : ℕ → List Emitted → List Emitted
shut zero ms = ms
shut (suc n) ms = shut n ms ++ emit.End ∷ []
