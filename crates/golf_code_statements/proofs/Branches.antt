-- How the blocks of `else if` begin one in another, and end all at once.
-- For: `else_at` and `otherwise_at`, src/statements.rt; specs/Branches.antt
-- By: computing; induction over the number of blocks
use Rattle.std.proofs.Common.{◌≡◌, ℕ, zero, suc, ◌+◌, List, [], ◌∷◌, ◌++◌, map, refl, sym, ap, ◌∙◌}
use Rattle.std.specs.Prelude.{Option}
use Rattle.golf_syntax_trees.specs.declared.expressions.Expr.{Expr}
use Rattle.golf_syntax_trees.specs.declared.statements.Simple.{Simple}
use Rattle.golf_syntax_trees.specs.declared.statements.Stmt.{Stmt}
use Rattle.golf_syntax_trees.specs.declared.statements.Stmt.TheVariants as st
use Rattle.golf_syntax_trees.specs.declared.statements.Clause.TheOpen as S
use Rattle.golf_syntax_trees.specs.declared.statements.Clause.TheFolds.{fold-roll-Stmt}
use Rattle.golf_code_layout.specs.declared.emitted.Emitted.{Emitted}
use Rattle.golf_code_layout.specs.declared.emitted.Emitted.TheVariants as emit
use Rattle.golf_code_of.specs.declared.tables.Tables.{Tables}
use Rattle.golf_code_facts.specs.Statements.{LayBy, or_else, then_lay, else_lay}
use Rattle.golf_code_facts.specs.Selects.{ClauseBy}
use Rattle.golf_code_facts.specs.StatementCode.{stmt_by, clause_by_step, stmt_by_step}
use Rattle.golf_code_expressions.specs.declared.writer.Writer.{Writer}
use Rattle.golf_code_statements.specs.declared.targets.Targets.{Targets}
use Rattle.golf_code_statements.specs.Lays.{around, after}
use Rattle.golf_code_statements.specs.Branches.{with_parts, branched, shut}
use Rattle.golf_code_statements.proofs.Seams.{written, made_twice}

-- one target further in
abbrev inner : Targets → Targets
inner u = record { breaks = u.breaks + 1; continues = u.continues + 1 }

-- a block ends
abbrev ends : Writer → Writer
ends w = with_parts w (w.draft.emitted ++ emit.End ∷ [])

-- a branch, what stands behind `else`, and the end of both
joins : (l : ℕ) (x y : LayBy) (u : Targets) (w : Writer)
    → ends (after (branched l x u w) (y (around (branched l x u w) (inner u)) (branched l x u w).facts)) ≡ after w
    (or_else l x y (around w u) w.facts)
joins l x y u w =
    let v = branched l x u w in
    let g = y (around v (inner u)) v.facts in
    ap (written g.left) (made_twice w.draft _ _ g.laid.made)

shut-once : (n : ℕ) (ms : List Emitted) → shut n (ms ++ emit.End ∷ []) ≡ shut (suc n) ms
shut-once zero ms = refl
shut-once (suc n) ms = ap (λ (xs : List Emitted). xs ++ emit.End ∷ []) (shut-once n ms)

module _ (t : Tables) where
  by-IfElse : (l : ℕ) (first : Option Simple) (test : Expr) (body : List Stmt) (next : Stmt)
      → stmt_by t (st.IfElse l first test body next) ≡ else_lay t l first test (map (stmt_by t) body) (stmt_by t next)
  unfolding stmt_by
  by-IfElse l first test body next = ap (stmt_by t) (sym (st.rolls-IfElse l first test body next))
      ∙ fold-roll-Stmt ClauseBy LayBy (clause_by_step t) (stmt_by_step t) (S.IfElse l first test body next)

  -- a branch is written, what stands behind `else`, and the end of both
  pub branch_ended : (l : ℕ) (x y : LayBy) (u v : Targets) (w b o : Writer) (ms : List Emitted) → b ≡ branched l x u w
      → v ≡ inner u → o ≡ after b (y (around b v) b.facts) → ms ≡ o.draft.emitted ++ emit.End ∷ []
      → with_parts o ms ≡ after w (or_else l x y (around w u) w.facts)
  branch_ended l x y u v w b o ms branch deeper other ended =
      ap (with_parts o) ended
      ∙ (ap ends other
      ∙ (ap (λ z. ends (after b (y (around b z) b.facts))) deeper
      ∙ (ap (λ c. ends (after c (y (around c (inner u)) c.facts))) branch
      ∙ joins l x y u w)))

  -- one branch more
  pub branches : (whole : Writer) (n : ℕ) (u v : Targets) (w b : Writer) (last next : Stmt) (l : ℕ)
      (first : Option Simple) (test k : Expr) (body sts : List Stmt)
      → with_parts (after w (stmt_by t last (around w u) w.facts))
      (shut n (after w (stmt_by t last (around w u) w.facts)).draft.emitted) ≡ whole
      → last ≡ st.IfElse l first test body next → k ≡ test → sts ≡ body
      → b ≡ branched l (then_lay t l first k (map (stmt_by t) sts)) u w → v ≡ inner u
      → with_parts (after b (stmt_by t next (around b v) b.facts))
      (shut (suc n) (after b (stmt_by t next (around b v) b.facts)).draft.emitted) ≡ whole
  branches whole n u v w b last next l first test k body sts h is same also branch deeper =
      let x = then_lay t l first test (map (stmt_by t) body) in
      let here : b ≡ branched l x u w = branch
      ∙ (ap (λ e. branched l (then_lay t l first e (map (stmt_by t) sts)) u w) same
      ∙ ap (λ zs. branched l (then_lay t l first test (map (stmt_by t) zs)) u w) also) in
      let o = after b (stmt_by t next (around b v) b.facts) in
      let one : ends o ≡ after w (or_else l x (stmt_by t next) (around w u) w.facts) =
      branch_ended l x (stmt_by t next) u v w b o (o.draft.emitted ++ emit.End ∷ []) here deeper refl refl in
      let all : ends o ≡ after w (stmt_by t last (around w u) w.facts) = one
      ∙ sym (ap (λ z. after w (stmt_by t z (around w u) w.facts)) is
      ∙ ap (λ (z : LayBy). after w (z (around w u) w.facts)) (by-IfElse l first test body next)) in
      ap (with_parts o) (sym (shut-once n o.draft.emitted))
      ∙ (ap (λ (z : Writer). with_parts z (shut n z.draft.emitted)) all
      ∙ h)
