-- Every well-formed statement that breaks no rule is unfit by an answer alone.
-- For: `statements_fit`, src/lib.rt
-- By: one step for each kind of statement, and an induction over the tree of a statement
use Rattle.std.proofs.Common.{◌≡◌, ℕ, ◌+◌, Bool, true, false, not, ◌&&◌, cond, List, [], ◌∷◌, map, refl, sym, ap, ◌∙◌}
use Rattle.std.proofs.Common.{subst, arith}
use Rattle.std.proofs.lemmas.Bool.{and_parts, leb-true}
use Rattle.std.specs.Prelude.{nat_le, is_some}
use Rattle.std.specs.List.{list_all}
use Rattle.golf_data.specs.declared.code.Instr.{Instr}
use Rattle.golf_syntax_trees.specs.declared.statements.Header.{Header}
use Rattle.golf_syntax_trees.specs.declared.statements.Header.TheVariants as header
use Rattle.golf_syntax_trees.specs.declared.statements.Stmt.{Stmt, roll-Stmt}
use Rattle.golf_syntax_trees.specs.declared.statements.Clause.{Clause, roll-Clause}
use Rattle.golf_syntax_trees.specs.declared.statements.Clause.TheOpen as F
use Rattle.golf_syntax_trees.specs.declared.statements.Clause.TheFolds.{fold-roll-Stmt, fold-roll-Clause, map-Stmt}
use Rattle.golf_syntax_trees.specs.declared.statements.Clause.TheFolds.{map-Clause}
use Rattle.golf_syntax_trees.proofs.StatementInduction.{KnownClause, KnownStmt, bare_clauses, bare_stmts, ClauseLayer}
use Rattle.golf_syntax_trees.proofs.StatementInduction.{StmtLayer, bare_clause, bare_stmt, every-stmt}
use Rattle.golf_syntax_trees.specs.Simple.{header_simple, header_expr, post_simple, all_of, header_good, comm_good}
use Rattle.golf_syntax_trees.specs.Statements.{StmtForm, ClauseForm, stmts_good, defaults, stmt_form_step}
use Rattle.golf_syntax_trees.specs.Statements.{clause_form_step, stmt_form, clause_form}
use Rattle.golf_check_types.specs.Statements as W
use Rattle.golf_model_typing.specs.Types.{Types}
use Rattle.golf_code_of.specs.declared.tables.Tables.{Tables}
use Rattle.golf_code_of.specs.Statements as L
use Rattle.golf_code_of.specs.Statements.{past, within}
use Rattle.golf_code_of.specs.Loops as O
use Rattle.golf_code_of.proofs.Walks.{statement}
use Rattle.golf_meaning_statements.specs.Steps.{Step, parts, in_order, block, in_loop, optional, stepping, then_deed}
use Rattle.golf_meaning_statements.specs.Steps.{for_deed, forever, while}
use Rattle.golf_meaning_statements.specs.Selects.{ClauseStep, clause_parts, no_default, one_default}
use Rattle.golf_meaning_statements.specs.Statements.{step, clause_step}
use Rattle.golf_meaning_statements.proofs.Stmts.{step_layer, clause_layer, step-rolls, clause-rolls, step-part}
use Rattle.golf_meaning_runs.specs.SoundFlows.{StatementIsSound}
use Rattle.golf_meaning_runs.specs.TypingLaws.{StatementsAreSound}
use Rattle.golf_meaning_runs.proofs.Blocks.{Fits, EachFits, order-fits, block-fits, then-fits, return-fits}
use Rattle.golf_meaning_runs.proofs.Blocks.{break-fits, continue-fits, if-fits, else-fits, forever-fits, while-fits}
use Rattle.golf_meaning_runs.proofs.SimpleKinds.{simple-fits, optional-fits, var-fits, stepping-fits}
use Rattle.golf_meaning_runs.proofs.Begins.{begin-fits}
use Rattle.golf_meaning_runs.proofs.Ranges.{range-fits}
use Rattle.golf_meaning_runs.proofs.Choices.{ClauseFits, EachClause, default-fits, case-fits, select-fits}
use Rattle.golf_meaning_source.specs.Operations.{Taking}

module _ (taking : Taking) where
  module _ (types : Types) (t : Tables) where
    abbrev Right : Step → Type 0
    Right x = Fits taking types t x.part.walk x.deed

    abbrev P : Stmt → Type 0
    P x = (stmt_form x).good ≡ true → Right (step taking t x)

    -- a clause, and whether it is `default`
    abbrev Q : Clause → Type 0
    Q c = (is_some (clause_step taking t c).part.kind ≡ not (clause_form c).default)
        × ((clause_form c).good ≡ true → ClauseFits taking types t (clause_step taking t c))

    abbrev steps_of : List (KnownStmt P) → List Step
    steps_of xs = map (step taking t) (bare_stmts P xs)

    abbrev forms : List (KnownStmt P) → List StmtForm
    forms xs = map stmt_form (bare_stmts P xs)

    abbrev clauses_of : List (KnownClause Q) → List ClauseStep
    clauses_of cs = map (clause_step taking t) (bare_clauses Q cs)

    abbrev clause_forms : List (KnownClause Q) → List ClauseForm
    clause_forms cs = map clause_form (bare_clauses Q cs)

    each : (xs : List (KnownStmt P)) → stmts_good (forms xs) ≡ true → EachFits taking types t (steps_of xs)
    each [] h = tt
    each (x ∷ xs) h = let b = and_parts (stmt_form x.0).good (stmts_good (forms xs)) h in (x.1 b.0, each xs b.1)

    order : (xs : List (KnownStmt P)) → stmts_good (forms xs) ≡ true
        → Fits taking types t (L.in_order (parts (steps_of xs))).walk (in_order (steps_of xs))
    order xs h = order-fits taking types t (steps_of xs) (each xs h)

    each-clause : (cs : List (KnownClause Q)) → list_all (λ (c : ClauseForm). c.good) (clause_forms cs) ≡ true
        → EachClause taking types t (clauses_of cs)
    each-clause [] h = tt
    each-clause (c ∷ cs) h = let b = and_parts (clause_form c.0).good
        (list_all (λ (d : ClauseForm). d.good) (clause_forms cs)) h in (c.1.1 b.0, each-clause cs b.1)

    -- a well-formed `select` has one `default` at most

    none-default : (cs : List (KnownClause Q)) → defaults (clause_forms cs) ≡ 0
        → no_default (clause_parts (clauses_of cs)) ≡ true
    none-default [] h = refl
    none-default (c ∷ cs) h = by (clause_form c.0).default c.1.0 h (none-default cs)
      where
        by : (b : Bool) → is_some (clause_step taking t c.0).part.kind ≡ not b
            → cond b 1 0 + defaults (clause_forms cs) ≡ 0
            → (defaults (clause_forms cs) ≡ 0 → no_default (clause_parts (clauses_of cs)) ≡ true)
            → no_default (clause_parts (clauses_of (c ∷ cs))) ≡ true
        by true e f g = absurd (omega (arith, f))
        by false e f g = ap (λ b. b && no_default (clause_parts (clauses_of cs))) e ∙ g (omega (arith, f))

    one-default : (cs : List (KnownClause Q)) → nat_le (defaults (clause_forms cs)) 1 ≡ true
        → one_default (clause_parts (clauses_of cs)) ≡ true
    one-default [] h = refl
    one-default (c ∷ cs) h = by (clause_form c.0).default c.1.0 h (one-default cs)
      where
        by : (b : Bool) → is_some (clause_step taking t c.0).part.kind ≡ not b
            → nat_le (cond b 1 0 + defaults (clause_forms cs)) 1 ≡ true
            → (nat_le (defaults (clause_forms cs)) 1 ≡ true → one_default (clause_parts (clauses_of cs)) ≡ true)
            → one_default (clause_parts (clauses_of (c ∷ cs))) ≡ true
        by true e f g = ap (λ b. cond b (one_default (clause_parts (clauses_of cs)))
            (no_default (clause_parts (clauses_of cs)))) e
            ∙ none-default cs (let q = leb-true (1 + defaults (clause_forms cs)) 1 f in omega (arith, q))
        by false e f g = ap (λ b. cond b (one_default (clause_parts (clauses_of cs)))
            (no_default (clause_parts (clauses_of cs)))) e
            ∙ g (subst (λ n. nat_le n 1 ≡ true) (let q : 0 + defaults (clause_forms cs) ≡ defaults
            (clause_forms cs) = omega arith in q) f)

    loop : (l : ℕ) (h : Header) (xs : List (KnownStmt P)) → header_good h ≡ true → stmts_good (forms xs) ≡ true
        → Fits taking types t (O.for_part t l h (parts (steps_of xs))).walk (for_deed taking t l h (steps_of xs))
    loop l header.Forever xs g b = block-fits taking types t
        (W.looping (W.in_block (L.in_order (parts (steps_of xs))).walk)) (forever (in_loop 1 0 (block (steps_of xs))))
        (forever-fits taking types t (L.in_order (parts (steps_of xs))).walk (in_order (steps_of xs)) (order xs b) 1 0)
    loop l (header.While e) xs g b =
        block-fits taking types t (W.behind_test l e (W.looping (W.in_block (L.in_order (parts (steps_of xs))).walk)))
        (while taking t l e (in_loop 1 0 (block (steps_of xs))))
        (while-fits taking types t (L.in_order (parts (steps_of xs))).walk (in_order (steps_of xs))
        (order xs b) 1 0 l e)
    loop l (header.Range names e) xs g b =
        range-fits taking types t (L.in_order (parts (steps_of xs))).walk (in_order (steps_of xs))
        (order xs b) l names e
    loop l (header.Steps first test post) xs g b =
        let posts = (and_parts (all_of header_expr test) (all_of post_simple post)
        (and_parts (all_of header_simple first) _ g).1).1 in
        let w = W.behind_optional l test (W.then (L.optional t post).walk
        (W.looping (W.in_block (L.in_order (parts (steps_of xs))).walk))) in
        let d = stepping taking t l test post (in_loop 2 0 (block (steps_of xs))) in
        block-fits taking types t (W.then (L.optional t first).walk w)
        (then_deed (L.optional t first) (optional taking t first) d)
        (then-fits taking types t (L.optional t first) w (optional taking t first) d
        (optional-fits taking types t first)
        (stepping-fits taking types t 2 0 l test post posts (L.in_order (parts (steps_of xs))).walk
        (in_order (steps_of xs)) (order xs b)))

    at : (y : StmtLayer Q P) → (stmt_form_step
        (map-Stmt Clause Stmt ClauseForm StmtForm clause_form stmt_form (bare_stmt Q P y))).good ≡ true
        → Right (step_layer taking t (bare_stmt Q P y))
    at (F.Var v) g = var-fits taking types t v.line v.name v.content
    at (F.Simple x) g = simple-fits taking types t x
    at (F.Go l f xs) g = begin-fits taking types t Instr.Go (λ j m. refl) (λ j m k. refl) l f xs
    at (F.Defer l f xs) g = begin-fits taking types t Instr.Defer (λ j m. refl) (λ j m k. refl) l f xs
    at (F.Return l e) g = return-fits taking types t l e
    at (F.Break l) g = break-fits taking types t l
    at (F.Continue l) g = continue-fits taking types t l
    at (F.Block l xs) g = block-fits taking types t (L.in_order (parts (steps_of xs))).walk (in_order (steps_of xs))
        (order xs g)
    at (F.If l first test xs) g =
        let b = (and_parts (header_expr test) (stmts_good (forms xs))
        (and_parts (all_of header_simple first) _ g).1).1 in
        if-fits taking types t l test (L.optional t first) (optional taking t first)
        (optional-fits taking types t first) (L.in_order (parts (steps_of xs))).walk (in_order (steps_of xs))
        (order xs b)
    at (F.IfElse l first test xs o) g =
        let rest = and_parts (header_expr test) _ (and_parts (all_of header_simple first) _ g).1 in
        let b = and_parts (stmts_good (forms xs)) _ rest.1 in
        let other = (and_parts (stmt_form o.0).good _ b.1).0 in
        else-fits taking types t l test (L.optional t first) (optional taking t first)
        (optional-fits taking types t first) (L.in_order (parts (steps_of xs))).walk (in_order (steps_of xs))
        (order xs b.0) (step taking t o.0).part (step taking t o.0).deed (o.1 other)
        (λ a s. within 1 (past a ((L.then_part t l first test (parts (steps_of xs))).lay (within 2 a) s)))
    at (F.For l h xs) g = let b = and_parts (header_good h) (stmts_good (forms xs)) g in loop l h xs b.0 b.1
    at (F.Select l cs) g = let b = and_parts
        (list_all (λ (c : ClauseForm). c.good) (clause_forms cs)) _ g in select-fits taking types t l (clauses_of cs)
        (each-clause cs b.0) (one-default cs b.1)

    clause-at : (y : ClauseLayer Q P) → (is_some (clause_layer taking t (bare_clause Q P y)).part.kind ≡ not
        (clause_form_step (map-Clause Clause Stmt ClauseForm StmtForm clause_form stmt_form
        (bare_clause Q P y))).default)
        × ((clause_form_step (map-Clause Clause Stmt ClauseForm StmtForm clause_form stmt_form
        (bare_clause Q P y))).good ≡ true → ClauseFits taking types t (clause_layer taking t (bare_clause Q P y)))
    clause-at (F.Case k c xs) = (
      refl,
      λ g. case-fits taking types t k c (steps_of xs)
          (each xs (and_parts (comm_good c) (stmts_good (forms xs)) g).1),
    )
    clause-at (F.Default k xs) = (refl, λ g. default-fits taking types t k (steps_of xs) (each xs g))

    rolled : (y : StmtLayer Q P) → P (roll-Stmt (bare_stmt Q P y))
    rolled y g =
        let good = subst (λ (f : StmtForm). f.good ≡ true)
        (fold-roll-Stmt ClauseForm StmtForm clause_form_step stmt_form_step (bare_stmt Q P y)) g in
        subst Right (sym (step-rolls taking t (bare_stmt Q P y))) (at y good)

    clause-rolled : (y : ClauseLayer Q P) → Q (roll-Clause (bare_clause Q P y))
    clause-rolled y =
        let is = sym (fold-roll-Clause ClauseForm StmtForm clause_form_step stmt_form_step (bare_clause Q P y)) in
        subst (λ (f : ClauseForm). (is_some (clause_step taking t (roll-Clause (bare_clause Q P y))).part.kind
        ≡ not f.default) × (f.good ≡ true → ClauseFits taking types t
        (clause_step taking t (roll-Clause (bare_clause Q P y))))) is
        (subst (λ (c : ClauseStep). (is_some c.part.kind ≡ not
        (clause_form_step (map-Clause Clause Stmt ClauseForm StmtForm clause_form stmt_form
        (bare_clause Q P y))).default) × ((clause_form_step
        (map-Clause Clause Stmt ClauseForm StmtForm clause_form stmt_form (bare_clause Q P y))).good ≡ true
        → ClauseFits taking types t c))
        (sym (clause-rolls taking t (bare_clause Q P y))) (clause-at y))

    pub right-stmt : (x : Stmt) → P x
    right-stmt = every-stmt Q P clause-rolled rolled

  pub statements-fit : StatementsAreSound taking
  statements-fit types t x good = subst (λ w. StatementIsSound taking types t w (step taking t x).deed)
      (ap (λ (p : L.StatementPart). p.walk) (step-part taking t x) ∙ statement t x) (right-stmt types t x good)
