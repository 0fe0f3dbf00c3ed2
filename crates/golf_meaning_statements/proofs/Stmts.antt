-- The code of every statement does what the statement does.
-- For: `step`, golf_meaning_statements/specs/Statements.antt; the law `statements_mean`, src/lib.rt.
-- By: induction over the tree of a statement, one step for each kind.
use Rattle.std.proofs.Common.{◌≡◌, ℕ, List, [], ◌∷◌, map, refl, sym, subst}
use Rattle.golf_syntax_trees.specs.declared.statements.Header.{Header}
use Rattle.golf_syntax_trees.specs.declared.statements.Header.TheVariants as header
use Rattle.golf_syntax_trees.specs.declared.statements.Stmt.{Stmt, roll-Stmt}
use Rattle.golf_syntax_trees.specs.declared.statements.Clause.{Clause, roll-Clause}
use Rattle.golf_syntax_trees.specs.declared.statements.Clause.TheOpen.{Stmt-F, Clause-F}
use Rattle.golf_syntax_trees.specs.declared.statements.Clause.TheOpen as F
use Rattle.golf_syntax_trees.specs.declared.statements.Clause.TheFolds.{fold-roll-Stmt, fold-roll-Clause, map-Stmt}
use Rattle.golf_syntax_trees.specs.declared.statements.Clause.TheFolds.{map-Clause}
use Rattle.golf_syntax_trees.proofs.StatementInduction.{KnownClause, KnownStmt, bare_clauses, bare_stmts, ClauseLayer}
use Rattle.golf_syntax_trees.proofs.StatementInduction.{StmtLayer, bare_clause, bare_stmt, every-stmt, carried}
use Rattle.golf_data.specs.declared.code.Instr.{Instr}
use Rattle.golf_check_types.specs.Statements as W
use Rattle.golf_code_of.specs.declared.tables.Tables.{Tables}
use Rattle.golf_code_of.specs.Statements.{StatementPart}
use Rattle.golf_code_of.specs.Statements as L
use Rattle.golf_code_of.specs.Loops as O
use Rattle.golf_code_of.specs.Selects.{ClausePart}
use Rattle.golf_code_of.specs.StatementCode.{stmt_part, clause_part, stmt_part_step, clause_part_step}
use Rattle.golf_meaning_statements.specs.Selects.{ClauseStep}
use Rattle.golf_meaning_statements.specs.Statements.{step, clause_step, step_step, clause_step_step}
use Rattle.golf_meaning_statements.specs.Steps.{Step, parts, in_order, block, forever, while, in_loop, stepping}
use Rattle.golf_meaning_statements.specs.Steps.{optional, then_deed, for_deed}
use Rattle.golf_meaning_statements.specs.Follows.{StatementMeans}
use Rattle.golf_meaning_statements.specs.Laws.{StatementsMean}
use Rattle.golf_meaning_statements.proofs.Flowing.{StepMeans, EachMeans, means-order, means-block, means-then}
use Rattle.golf_meaning_statements.proofs.Simples.{means-simple, means-var, means-return, means-begin, means-break}
use Rattle.golf_meaning_statements.proofs.Simples.{means-continue}
use Rattle.golf_meaning_statements.proofs.Conditions.{means-optional, means-if, means-else}
use Rattle.golf_meaning_statements.proofs.Ranges.{means-range}
use Rattle.golf_meaning_statements.proofs.Choices.{ClauseMeans, EachClause, case-means, default-means, means-select}
use Rattle.golf_meaning_statements.proofs.Loops.{means-forever, means-while, means-stepping}
use Rattle.golf_meaning_source.specs.Operations.{Taking}

module _ (taking : Taking) where
  module _ (t : Tables) where
    -- one layer of a statement, and of a clause
    abbrev pub step_layer : Stmt-F Clause Stmt → Step
    step_layer y = step_step taking t (map-Stmt Clause Stmt ClauseStep Step (clause_step taking t) (step taking t) y)

    abbrev pub clause_layer : Clause-F Clause Stmt → ClauseStep
    clause_layer y = clause_step_step taking t
        (map-Clause Clause Stmt ClauseStep Step (clause_step taking t) (step taking t) y)

    pub step-rolls : (y : Stmt-F Clause Stmt) → step taking t (roll-Stmt y) ≡ step_layer y
    unfolding step clause_step
    step-rolls = fold-roll-Stmt ClauseStep Step (clause_step_step taking t) (step_step taking t)

    pub clause-rolls : (y : Clause-F Clause Stmt) → clause_step taking t (roll-Clause y) ≡ clause_layer y
    unfolding step clause_step
    clause-rolls = fold-roll-Clause ClauseStep Step (clause_step_step taking t) (step_step taking t)

    -- a step carries along the part whose code it means
    carries : (y : Stmt-F ClauseStep Step)
        → (step_step taking t y).part ≡ stmt_part_step t
        (map-Stmt ClauseStep Step ClausePart StatementPart (λ c. c.part) (λ x. x.part) y)
    carries y = refl

    carries-clause : (y : Clause-F ClauseStep Step)
        → (clause_step_step taking t y).part ≡ clause_part_step t
        (map-Clause ClauseStep Step ClausePart StatementPart (λ c. c.part) (λ x. x.part) y)
    carries-clause (F.Case k c body) = refl
    carries-clause (F.Default k body) = refl

    pub step-part : (x : Stmt) → (step taking t x).part ≡ stmt_part t x
    unfolding stmt_part clause_part step clause_step
    step-part = carried ClauseStep Step (clause_step_step taking t) (step_step taking t) ClausePart StatementPart
        (clause_part_step t) (stmt_part_step t) (λ c. c.part) (λ x. x.part) carries-clause carries

    abbrev P : Stmt → Type 0
    P x = StepMeans taking (step taking t x)

    abbrev Q : Clause → Type 0
    Q c = ClauseMeans taking (clause_step taking t c)

    abbrev steps_of : List (KnownStmt P) → List Step
    steps_of xs = map (step taking t) (bare_stmts P xs)

    each-means : (xs : List (KnownStmt P)) → EachMeans taking (steps_of xs)
    each-means [] = tt
    each-means (x ∷ xs) = (x.1, each-means xs)

    own-clause : (y : ClauseLayer Q P) → ClauseMeans taking (clause_layer (bare_clause Q P y))
    own-clause (F.Case k c body) = case-means taking t k c (steps_of body) (each-means body)
    own-clause (F.Default k body) = default-means taking k (steps_of body) (each-means body)

    each-clause : (cs : List (KnownClause Q)) → EachClause taking (map (clause_step taking t) (bare_clauses Q cs))
    each-clause [] = tt
    each-clause (c ∷ cs) = (c.1, each-clause cs)

    header-means : (l : ℕ) (h : Header) (xs : List (KnownStmt P))
        → StatementMeans taking (O.for_part t l h (parts (steps_of xs))).walk
        (O.for_part t l h (parts (steps_of xs))).lay (for_deed taking t l h (steps_of xs))
    header-means l header.Forever xs =
        let p = O.forever l (O.in_loop 1 0 (L.block (parts (steps_of xs)))) in
        means-block taking p.walk p.lay (forever (in_loop 1 0 (block (steps_of xs))))
        (means-forever taking (steps_of xs) (each-means xs) l)
    header-means l (header.While e) xs =
        let p = O.while t l e (O.in_loop 1 0 (L.block (parts (steps_of xs)))) in
        means-block taking p.walk p.lay (while taking t l e (in_loop 1 0 (block (steps_of xs))))
        (means-while taking (steps_of xs) (each-means xs) t l e)
    header-means l (header.Steps first test post) xs =
        let x = L.optional t first in
        let y = O.stepping t l test (L.optional t post) (O.in_loop 2 0 (L.block (parts (steps_of xs)))) in
        let d = stepping taking t l test post (in_loop 2 0 (block (steps_of xs))) in
        means-block taking (W.then x.walk y.walk) (L.then_lay x.lay x.walk y.lay)
        (then_deed x (optional taking t first) d)
        (means-then taking x.walk y.walk x.lay y.lay (optional taking t first) d (means-optional taking t l first)
        (means-stepping taking (steps_of xs) (each-means xs) t l test post))
    header-means l (header.Range names e) xs = means-range taking (steps_of xs) (each-means xs) t l names e

    own : (y : StmtLayer Q P) → StepMeans taking (step_layer (bare_stmt Q P y))
    own (F.Var v) = means-var taking t v.line v.name v.content
    own (F.Simple x) = means-simple taking t x
    own (F.Go l f xs) = means-begin taking t l Instr.Go (λ j m. refl) f xs
    own (F.Defer l f xs) = means-begin taking t l Instr.Defer (λ j m. refl) f xs
    own (F.Return l e) = means-return taking t l e
    own (F.Break l) = means-break taking l
    own (F.Continue l) = means-continue taking l
    own (F.Block l body) = means-block taking (L.in_order (parts (steps_of body))).walk
        (L.in_order (parts (steps_of body))).lay (in_order (steps_of body))
        (means-order taking (steps_of body) (each-means body))
    own (F.If l first test body) = means-if taking t l first test (steps_of body) (each-means body)
    own (F.IfElse l first test body otherwise) =
        means-else taking t l first test (steps_of body) (step taking t otherwise.0) (each-means body) otherwise.1
    own (F.For l h body) = header-means l h body
    own (F.Select l cs) = means-select taking l (map (clause_step taking t) (bare_clauses Q cs)) (each-clause cs)

    rolled : (y : StmtLayer Q P) → P (roll-Stmt (bare_stmt Q P y))
    rolled y = subst (StepMeans taking) (sym (step-rolls (bare_stmt Q P y))) (own y)

    clause-rolled : (y : ClauseLayer Q P) → Q (roll-Clause (bare_clause Q P y))
    clause-rolled y = subst (ClauseMeans taking) (sym (clause-rolls (bare_clause Q P y))) (own-clause y)

    pub step-means : (x : Stmt) → P x
    step-means = every-stmt Q P clause-rolled rolled

  pub statements-mean : StatementsMean taking
  statements-mean t x = subst (λ (p : StatementPart). StatementMeans taking p.walk p.lay (step taking t x).deed)
      (step-part t x)
      (step-means t x)
