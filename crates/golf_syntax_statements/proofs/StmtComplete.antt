-- A statement that is printed is read.
-- For: `stmt_at` (golf_syntax_statements/specs/StatementReader.antt) and `read` (src/statements.rt)
-- By: induction over the tree of a statement, and over the lists of statements and of clauses in it
use Rattle.std.proofs.Common.{◌≡◌, ◌⊎◌, inl, inr, ℕ, ◌+◌, ◌≤◌, Bool, true, false, cond, ◌&&◌, List, [], ◌∷◌, ◌++◌, map}
use Rattle.std.proofs.Common.{refl, ap, sym, subst, ◌∙◌, arith, append_assoc}
use Rattle.std.specs.Prelude.{Option, Some, None, nat_le}
use Rattle.std.specs.List.{list_all}
use Rattle.golf_lex_tokens.specs.declared.token.Token.{Token}
use Rattle.golf_lex_tokens.specs.declared.token.TokenKind.{TokenKind}
use Rattle.golf_lex_tokens.specs.declared.token.TokenKind.TheVariants as kinds
use Rattle.golf_lex_tokens.specs.declared.token.Punctuation.{Punctuation}
use Rattle.golf_lex_tokens.specs.declared.token.Punctuation.TheVariants as punctuations
use Rattle.golf_lex_tokens.specs.declared.token.Keyword.{Keyword}
use Rattle.golf_lex_tokens.specs.declared.token.Keyword.TheVariants as keywords
use Rattle.golf_syntax_trees.specs.declared.expressions.Expr.{Expr, out-roll-Expr}
use Rattle.golf_syntax_trees.specs.declared.expressions.Expr.TheVariants as ex
use Rattle.golf_syntax_trees.specs.declared.expressions.Expr.TheOpen as F
use Rattle.golf_syntax_trees.specs.declared.statements.Simple.{Simple}
use Rattle.golf_syntax_trees.specs.declared.statements.Communication.{Communication}
use Rattle.golf_syntax_trees.specs.declared.statements.Header.{Header}
use Rattle.golf_syntax_trees.specs.declared.statements.Stmt.{Stmt}
use Rattle.golf_syntax_trees.specs.declared.statements.Stmt.TheVariants as st
use Rattle.golf_syntax_trees.specs.declared.statements.Clause.{Clause}
use Rattle.golf_syntax_trees.specs.declared.statements.Clause.TheVariants as cl
use Rattle.golf_syntax_trees.specs.Words as words
use Rattle.golf_syntax_trees.specs.Words.{Word, on_line, separated, closed, behind}
use Rattle.golf_syntax_trees.specs.Expressions.{print_expr, Form}
use Rattle.golf_syntax_trees.specs.Simple.{optional, all_of, print_simple, simple_form, print_header, print_comm}
use Rattle.golf_syntax_trees.specs.Simple.{comm_good, header_simple, header_expr, header_good}
use Rattle.golf_syntax_trees.specs.Statements.{print_call, call_good, ClauseWords, clauses, print_block, print_stmt}
use Rattle.golf_syntax_trees.specs.Statements.{print_clause, StmtForm, ClauseForm, stmts_good, defaults, stmt_form}
use Rattle.golf_syntax_trees.specs.Statements.{clause_form}
use Rattle.golf_syntax_expressions.specs.Plan.{◌>>=◌, Done, Ask, run, given}
use Rattle.golf_syntax_expressions.specs.Front.{after, after_kind, after_keyword, after_keyword_kind, name_at, name_of}
use Rattle.golf_syntax_expressions.specs.Starts.{keyword_start, start_from}
use Rattle.golf_syntax_expressions.specs.ExpressionReader.{Level, Climb, Prefixed, expr_at}
use Rattle.golf_syntax_expressions.specs.SimpleStatementReader.{behind_expr, kind_by, kind_at, expression_at, follow_at}
use Rattle.golf_syntax_expressions.specs.SimpleStatementReader.{simple_at}
use Rattle.golf_syntax_expressions.proofs.Fronts.{both, Spelt, nothing, kind-then, punctuation-then, split, first, ends}
use Rattle.golf_syntax_expressions.proofs.Fronts.{behind-punctuation, behind-keyword, not-after}
use Rattle.golf_syntax_expressions.proofs.ExprShapes as expr_shape
use Rattle.golf_syntax_expressions.proofs.ExprFronts.{start-first, true-le, then}
use Rattle.golf_syntax_expressions.proofs.ExprSteps.{expr-Level}
use Rattle.golf_syntax_expressions.proofs.ExprComplete.{expr-complete, prefixed-complete}
use Rattle.golf_syntax_expressions.proofs.Moves.{prefixed-none}
use Rattle.golf_syntax_expressions.proofs.SimpleLines.{simple-complete}
use Rattle.golf_syntax_statements.specs.VariableReader.{var_at}
use Rattle.golf_syntax_statements.specs.StatementReader.{OfStmt, Body, Clauses, CaseBody, just, found, GoesFrom, body}
use Rattle.golf_syntax_statements.specs.StatementReader.{block}
use Rattle.golf_syntax_statements.specs.StatementReader.{call_in, call_of, call_at, returned, is_branch_kind, is_branch}
use Rattle.golf_syntax_statements.specs.StatementReader.{else_plan, simple_plan, keyword_plan, kind_plan, body_behind}
use Rattle.golf_syntax_statements.specs.StatementReader.{case_behind, begins_kind, begins_clause, clause_body}
use Rattle.golf_syntax_statements.specs.StatementReader.{clause_plan}
use Rattle.golf_syntax_statements.specs.StatementReader.{clauses_from, stmt_at}
use Rattle.golf_syntax_statements.proofs.Nothing.{IsStop, semicolon, open_brace, close_brace, colon, Stops, stops}
use Rattle.golf_syntax_statements.proofs.Nothing.{no-expr, no-simple}
use Rattle.golf_syntax_statements.proofs.StmtSound.{exclusive}
use Rattle.golf_syntax_statements.proofs.VarLaws.{var-complete}
use Rattle.golf_syntax_statements.proofs.HeaderReads.{test-complete, header-complete}
use Rattle.golf_syntax_statements.proofs.CommLaws.{comm-complete}
use Rattle.golf_syntax_statements.proofs.StmtShapes as shape
use Rattle.golf_syntax_statements.proofs.StmtSteps.{stmt-is}

-- a punctuation mark that ends statements come first
pub record Ended (ts : List Token) : Type 0 where
  pub punctuation : Punctuation
  pub stop : IsStop punctuation
  pub behind : List Token
  pub is : after punctuation ts ≡ Some behind

stopped : (ts : List Token) → Ended ts → Stops ts
stopped ts e = stops e.punctuation e.stop (punctuation-then e.punctuation ts e.is nothing)

ended : {ws : List Word} {ts rest : List Token} (m : Punctuation) → IsStop m → Spelt (words.punctuation m ∷ ws) ts rest
    → Ended ts
ended m s h = let b = behind-punctuation m h in record { punctuation = m; stop = s; behind = b.0; is = b.1 }

-- a punctuation mark is no keyword
no-keyword : (m : Punctuation) (w : Keyword) (ts us : List Token) → after m ts ≡ Some us → after_keyword w ts ≡ None
no-keyword m w ts us e = let f = first (punctuation-then m ts e nothing) in ap (after_keyword w) f.2
    ∙ ap (λ q. after_keyword_kind w q f.1) f.3

abbrev StmtRead : Stmt → Type 0
StmtRead s = (stmt_form s).good ≡ true → (ts rest : List Token) → Spelt (print_stmt s) ts rest → Ended rest
    → stmt_at OfStmt ts ≡ Some (s, rest)

abbrev BranchRead : Stmt → Type 0
BranchRead s = (stmt_form s).branch ≡ true → (ts rest : List Token) → Spelt (print_stmt s) ts rest → is_branch ts ≡ true

-- a statement is read if one that may stand after `else` begins as such
record IsRead (s : Stmt) : Type 0 where
  reads : StmtRead s
  branch : BranchRead s

abbrev Parts : Type 0
Parts = List ((s : Stmt) × IsRead s)

abbrev stmts : Parts → List Stmt
stmts ys = map (λ p. p.0) ys

-- a first word on a line
opened : {ws : List Word} {ts rest : List Token} (l : ℕ) (k : TokenKind) → Spelt (on_line l (words.word k ∷ ws)) ts rest
    → (us : List Token) × (stmt_at OfStmt ts ≡ run stmt_at (kind_plan l k us ts)) × (is_branch ts ≡ is_branch_kind k)
    × Spelt ws us rest
opened {ws} {ts} {rest} l k h =
    let f = first h in (
      f.1,
      ap (stmt_at OfStmt) f.2 ∙ stmt-is OfStmt (f.0 ∷ f.1)
          ∙ ap (λ n. run stmt_at (kind_plan n f.0.kind f.1 (f.0 ∷ f.1))) f.4
          ∙ ap (λ q. run stmt_at (kind_plan l q f.1 (f.0 ∷ f.1))) f.3
          ∙ ap (λ q. run stmt_at (kind_plan l k f.1 q)) (sym f.2),
      ap is_branch f.2 ∙ ap is_branch_kind f.3,
      f.5,
    )

-- no statement begins with a closing brace, a `case` or a `default`
no-stmt-brace : (ts us : List Token) → after punctuations.CloseBrace ts ≡ Some us → stmt_at OfStmt ts ≡ None
no-stmt-brace ts us e =
    let h = punctuation-then punctuations.CloseBrace ts e nothing in
    let f = first h in
    ap (stmt_at OfStmt) f.2 ∙ stmt-is OfStmt (f.0 ∷ f.1)
    ∙ ap (λ k. run stmt_at (kind_plan f.0.line k f.1 (f.0 ∷ f.1))) f.3
    ∙ ap (λ o. o >>= λ x. Some (st.Simple x.0, x.1))
    (ap (simple_at false) (sym f.2) ∙ no-simple false punctuations.CloseBrace close_brace h)

not-closing : (ts : List Token) (x : Stmt × List Token) → stmt_at OfStmt ts ≡ Some x
    → after punctuations.CloseBrace ts ≡ None
not-closing ts x e = at (after punctuations.CloseBrace ts) refl
  where
    at : (o : Option (List Token)) → after punctuations.CloseBrace ts ≡ o → after punctuations.CloseBrace ts ≡ None
    at None p = p
    at (Some us) p = absurd (never (sym (no-stmt-brace ts us p) ∙ e))
      where
        never : ◌≡◌ {A = Option (Stmt × List Token)} None (Some x) → ⊥
        never q = cc

no-case : (t : Token) (ts : List Token) (w : Keyword) → t.kind ≡ kinds.Keyword w
    → ((us : List Token) → keyword_start w us ≡ None) → simple_at false (t ∷ ts) ≡ None
unfolding simple_at kind_at expression_at start_from
no-case t ts w is none =
    let f = start-first {ws = []} {ts = t ∷ ts} {rest = ts} false (kinds.Keyword w)
    (kind-then t (kinds.Keyword w) is nothing) in
    let no_name : name_at (t ∷ ts) ≡ None = ap (λ k. name_of k ts) is in
    let no_expr = expr-Level false 1 (t ∷ ts)
    ∙ ap (λ o. o >>= λ x. expr_at (Climb false 1 x.0) x.1) (prefixed-none false (t ∷ ts) f.2 (f.1 ∙ none f.0)) in
    ap (λ o. o >>= λ x. Some (record { line = t.line; kind = x.0 }, x.1))
    (ap (kind_by false (t ∷ ts)) no_name ∙ ap (λ o. o >>= λ e. behind_expr false e.0 e.1 (follow_at e.1)) no_expr)

no-stmt-clause : (ts : List Token) → begins_clause ts ≡ true → stmt_at OfStmt ts ≡ None
no-stmt-clause [] b = absurd (never b)
  where
    never : false ≡ true → ⊥
    never e = cc
no-stmt-clause (t ∷ ts) b = stmt-is OfStmt (t ∷ ts) ∙ at t.kind refl b
  where
    word : (w : Keyword) → t.kind ≡ kinds.Keyword w → begins_kind (kinds.Keyword w) ≡ true
        → run stmt_at (keyword_plan t.line w ts (t ∷ ts)) ≡ None
    word keywords.Case is b = ap (λ o. o >>= λ x. Some (st.Simple x.0, x.1))
        (no-case t ts keywords.Case is (λ us. refl))
    word keywords.Default is b = ap (λ o. o >>= λ x. Some (st.Simple x.0, x.1))
        (no-case t ts keywords.Default is (λ us. refl))
    word _ is b = cc

    at : (k : TokenKind) → t.kind ≡ k → begins_kind k ≡ true → run stmt_at (kind_plan t.line k ts (t ∷ ts)) ≡ None
    at (kinds.Keyword w) is b = word w is b
    at (kinds.Punctuation m) is b = absurd (never b)
      where
        never : false ≡ true → ⊥
        never e = cc
    at _ is b = cc

not-clause : (ts : List Token) (x : Stmt × List Token) → stmt_at OfStmt ts ≡ Some x → begins_clause ts ≡ false
not-clause ts x e = at (begins_clause ts) refl
  where
    at : (b : Bool) → begins_clause ts ≡ b → begins_clause ts ≡ false
    at false p = p
    at true p = absurd (never (sym (no-stmt-clause ts p) ∙ e))
      where
        never : ◌≡◌ {A = Option (Stmt × List Token)} None (Some x) → ⊥
        never q = cc

-- a statement among others, and what follows it
one-read : (y : (s : Stmt) × IsRead s) (done : List Stmt) (ts mid : List Token) → (stmt_form y.0).good ≡ true
    → Spelt (print_stmt y.0) ts mid → Ended mid →
    stmt_at (Body done) ts ≡ run stmt_at (body_behind (done ++ y.0 ∷ []) mid (after punctuations.Semicolon mid))
one-read y done ts mid good h e =
    stmt-is (Body done) ts ∙ then (λ s. run stmt_at
    (body_behind (done ++ s.0 ∷ []) s.1 (after punctuations.Semicolon s.1))) (stmt_at OfStmt ts) (y.0, mid)
    (y.1.reads good ts mid h e)

same-found : {A : Type 0} (o : Option (A × List Token)) → (o >>= λ x. Some x) ≡ o
same-found None = refl
same-found (Some x) = refl

-- statements up to the brace that closes them
body-read : (ys : Parts) (y : (s : Stmt) × IsRead s) (done : List Stmt) (ts mid rest : List Token)
    → stmts_good (map stmt_form (stmts (y ∷ ys))) ≡ true →
    Spelt (print_stmt y.0 ++ behind punctuations.Semicolon (map print_stmt (stmts ys))) ts mid
    → after punctuations.CloseBrace mid ≡ Some rest → stmt_at (Body done) ts ≡ Some (done ++ stmts (y ∷ ys), rest)
body-read [] y done ts mid rest good h c =
    let s = split (print_stmt y.0) [] h in
    let brace = punctuation-then punctuations.CloseBrace mid c nothing in
    one-read y done ts mid (both (stmt_form y.0).good true good).0
    (subst (λ m. Spelt (print_stmt y.0) ts m) (ends s.2) s.1) (ended punctuations.CloseBrace close_brace brace)
    ∙ ap (λ o. run stmt_at (body_behind (done ++ y.0 ∷ []) mid o))
    (not-after punctuations.Semicolon (kinds.Punctuation punctuations.CloseBrace) (λ us. refl) brace)
    ∙ ap (λ o. run stmt_at (given o (just (done ++ y.0 ∷ [])))) c
body-read (z ∷ zs) y done ts mid rest good h c =
    let s = split (print_stmt y.0) (behind punctuations.Semicolon (map print_stmt (stmts (z ∷ zs)))) h in
    let b = behind-punctuation punctuations.Semicolon s.2 in
    let g = both (stmt_form y.0).good (stmts_good (map stmt_form (stmts (z ∷ zs)))) good in
    one-read y done ts s.0 g.0 s.1 (ended punctuations.Semicolon semicolon s.2)
    ∙ ap (λ o. run stmt_at (body_behind (done ++ y.0 ∷ []) s.0 o)) b.1
    ∙ same-found (stmt_at (Body (done ++ y.0 ∷ [])) b.0)
    ∙ body-read zs z (done ++ y.0 ∷ []) b.0 mid rest g.1 b.2 c
    ∙ ap (λ xs. Some (xs, rest)) (append_assoc done (y.0 ∷ []) (stmts (z ∷ zs)))

-- statements after an opening brace
braced : (A : Type 0) (ys : Parts) (ts rest : List Token) (more : GoesFrom A)
    → stmts_good (map stmt_form (stmts ys)) ≡ true
    →
    Spelt (separated punctuations.Semicolon (map print_stmt (stmts ys)) ++ words.punctuation punctuations.CloseBrace
    ∷ []) ts rest → run stmt_at (body ts (after punctuations.CloseBrace ts) more) ≡ run stmt_at
    (more (stmts ys, rest))
braced A [] ts rest more good h =
    let c = behind-punctuation punctuations.CloseBrace h in ap (λ o. run stmt_at (body ts o more)) c.1
    ∙ ap (λ us. run stmt_at (more ([], us))) (ends c.2)
braced A (y ∷ ys) ts rest more good h =
    let s = split (separated punctuations.Semicolon (map print_stmt (stmts (y ∷ ys))))
    (words.punctuation punctuations.CloseBrace ∷ []) h in
    let c = behind-punctuation punctuations.CloseBrace s.2 in
    let close = c.1 ∙ ap Some (ends c.2) in
    let g = both (stmt_form y.0).good (stmts_good (map stmt_form (stmts ys))) good in
    let r = body-read ys y [] ts s.0 rest good s.1 close in
    let w = split (print_stmt y.0) (behind punctuations.Semicolon (map print_stmt (stmts ys))) s.1 in
    ap (λ o. run stmt_at (body ts o more))
    (not-closing ts (y.0, w.0) (y.1.reads g.0 ts w.0 w.1 (follows ys w.0 s.0 w.2 close)))
    ∙ then (λ x. run stmt_at (more x)) (stmt_at (Body []) ts) (stmts (y ∷ ys), rest) r
  where
    follows : (ys : Parts) (ts mid : List Token)
        → Spelt (behind punctuations.Semicolon (map print_stmt (stmts ys))) ts mid
        → after punctuations.CloseBrace mid ≡ Some rest → Ended ts
    follows [] ts mid h c = record {
      punctuation = punctuations.CloseBrace;
      stop = close_brace;
      behind = rest;
      is = ap (after punctuations.CloseBrace) (ends h) ∙ c;
    }
    follows (z ∷ zs) ts mid h c = ended punctuations.Semicolon semicolon h

block-read : (A : Type 0) (ys : Parts) (ts rest : List Token) (more : GoesFrom A)
    → stmts_good (map stmt_form (stmts ys)) ≡ true → Spelt (print_block (map print_stmt (stmts ys))) ts rest
    → run stmt_at (block ts more) ≡ run stmt_at (more (stmts ys, rest))
block-read A ys ts rest more good h =
    let o = behind-punctuation punctuations.OpenBrace h in
    ap (λ q. run stmt_at (given q (λ us. body us (after punctuations.CloseBrace us) more))) o.1
    ∙ braced A ys o.0 rest more good o.2

-- a call that is printed is read
call-complete : (f : Expr) (xs : List Expr) (ts rest : List Token) → call_good f xs ≡ true
    → Spelt (print_call f xs) ts rest → Stops rest → call_at ts ≡ Some ((f, xs), rest)
unfolding call_at
call-complete f xs ts rest good h s =
    let e = ex.Call f xs in
    let top = ap (λ (y : Form). y.top) (expr_shape.form-Call f xs) in
    then (λ e. call_of e.0 >>= λ c. Some (c, e.1)) (expr_at (Prefixed false) ts) (e, rest)
    (prefixed-complete e false ts rest (record {
      good = ap (λ (y : Form). y.good) (expr_shape.form-Call f xs) ∙ good;
      clear = refl;
      spelt = subst (λ ws. Spelt ws ts rest) (sym (expr_shape.print-Call f xs)) h;
    })
    (omega (arith, top)) s.ends.quiet)
    ∙ then (λ c. Some (c, rest)) (call_of e) (f, xs)
    (ap call_of (sym (ex.rolls-Call f xs)) ∙ ap call_in (out-roll-Expr (F.Call f xs)))

-- a statement of a clause, and what follows it
case-one : (y : (s : Stmt) × IsRead s) (done : List Stmt) (ts mid : List Token) → (stmt_form y.0).good ≡ true
    → Spelt (print_stmt y.0) ts mid → Ended mid →
    stmt_at (CaseBody done) ts ≡ run stmt_at (case_behind (done ++ y.0 ∷ []) mid (after punctuations.Semicolon mid))
case-one y done ts mid good h e =
    let r = y.1.reads good ts mid h e in
    stmt-is (CaseBody done) ts
    ∙ ap (λ b. run stmt_at (cond b (just done ts)
    (Ask OfStmt ts (λ s. case_behind (done ++ s.0 ∷ []) s.1 (after punctuations.Semicolon s.1)))))
    (not-clause ts (y.0, mid) r)
    ∙ then (λ s. run stmt_at (case_behind (done ++ s.0 ∷ []) s.1 (after punctuations.Semicolon s.1)))
    (stmt_at OfStmt ts) (y.0, mid) r

append-nil : (xs : List Stmt) → xs ++ [] ≡ xs
append-nil [] = refl
append-nil (x ∷ xs) = ap (λ ys. x ∷ ys) (append-nil xs)

-- statements up to the next clause
case-closed : (ys : Parts) (done : List Stmt) (ts mid : List Token) → stmts_good (map stmt_form (stmts ys)) ≡ true
    → Spelt (closed (map print_stmt (stmts ys))) ts mid → begins_clause mid ≡ true
    → stmt_at (CaseBody done) ts ≡ Some (done ++ stmts ys, mid)
case-closed [] done ts mid good h b =
    ap (stmt_at (CaseBody done)) (ends h) ∙ stmt-is (CaseBody done) mid
    ∙ ap (λ c. run stmt_at (cond c (just done mid)
    (Ask OfStmt mid (λ s. case_behind (done ++ s.0 ∷ []) s.1 (after punctuations.Semicolon s.1))))) b
    ∙ ap (λ xs. Some (xs, mid)) (sym (append-nil done))
case-closed (y ∷ ys) done ts mid good h b =
    let s = split (print_stmt y.0) (words.punctuation punctuations.Semicolon ∷ closed (map print_stmt (stmts ys))) h in
    let c = behind-punctuation punctuations.Semicolon s.2 in
    let g = both (stmt_form y.0).good (stmts_good (map stmt_form (stmts ys))) good in
    case-one y done ts s.0 g.0 s.1 (ended punctuations.Semicolon semicolon s.2)
    ∙ ap (λ o. run stmt_at (case_behind (done ++ y.0 ∷ []) s.0 o)) c.1
    ∙ same-found (stmt_at (CaseBody (done ++ y.0 ∷ [])) c.0)
    ∙ case-closed ys (done ++ y.0 ∷ []) c.0 mid g.1 c.2 b
    ∙ ap (λ xs. Some (xs, mid)) (append_assoc done (y.0 ∷ []) (stmts ys))

-- statements up to the brace of the `select`
case-last : (ys : Parts) (y : (s : Stmt) × IsRead s) (done : List Stmt) (ts mid rest : List Token)
    → stmts_good (map stmt_form (stmts (y ∷ ys))) ≡ true →
    Spelt (print_stmt y.0 ++ behind punctuations.Semicolon (map print_stmt (stmts ys))) ts mid
    → after punctuations.CloseBrace mid ≡ Some rest
    → stmt_at (CaseBody done) ts ≡ Some (done ++ stmts (y ∷ ys), mid)
case-last [] y done ts mid rest good h c =
    let s = split (print_stmt y.0) [] h in
    let brace = punctuation-then punctuations.CloseBrace mid c nothing in
    case-one y done ts mid (both (stmt_form y.0).good true good).0
    (subst (λ m. Spelt (print_stmt y.0) ts m) (ends s.2) s.1) (ended punctuations.CloseBrace close_brace brace)
    ∙ ap (λ o. run stmt_at (case_behind (done ++ y.0 ∷ []) mid o))
    (not-after punctuations.Semicolon (kinds.Punctuation punctuations.CloseBrace) (λ us. refl) brace)
    ∙ ap (λ o. run stmt_at (given o (λ us. just (done ++ y.0 ∷ []) mid))) c
case-last (z ∷ zs) y done ts mid rest good h c =
    let s = split (print_stmt y.0) (behind punctuations.Semicolon (map print_stmt (stmts (z ∷ zs)))) h in
    let b = behind-punctuation punctuations.Semicolon s.2 in
    let g = both (stmt_form y.0).good (stmts_good (map stmt_form (stmts (z ∷ zs)))) good in
    case-one y done ts s.0 g.0 s.1 (ended punctuations.Semicolon semicolon s.2)
    ∙ ap (λ o. run stmt_at (case_behind (done ++ y.0 ∷ []) s.0 o)) b.1
    ∙ same-found (stmt_at (CaseBody (done ++ y.0 ∷ [])) b.0)
    ∙ case-last zs z (done ++ y.0 ∷ []) b.0 mid rest g.1 b.2 c
    ∙ ap (λ xs. Some (xs, mid)) (append_assoc done (y.0 ∷ []) (stmts (z ∷ zs)))

-- the first statement of some is not a closing brace
no-brace : (y : (s : Stmt) × IsRead s) (ts mid : List Token) → (stmt_form y.0).good ≡ true
    → Spelt (print_stmt y.0) ts mid → Ended mid → after punctuations.CloseBrace ts ≡ None
no-brace y ts mid g h e = not-closing ts (y.0, mid) (y.1.reads g ts mid h e)

-- what a clause is made of
record CaseOf (c : Clause) : Type 0 where
  line : ℕ
  comm : Communication
  body : Parts
  is : c ≡ cl.Case line comm (stmts body)

record DefaultOf (c : Clause) : Type 0 where
  line : ℕ
  body : Parts
  is : c ≡ cl.Default line (stmts body)

abbrev ClauseRead : Clause → Type 0
ClauseRead c = CaseOf c ⊎ DefaultOf c

abbrev Cases : Type 0
Cases = List ((c : Clause) × ClauseRead c)

abbrev cases : Cases → List Clause
cases cs = map (λ p. p.0) cs

-- no clauses: the brace
no-clauses : (seen : Bool) (done : List Clause) (ts rest : List Token) → after punctuations.CloseBrace ts ≡ Some rest
    → stmt_at (Clauses seen done) ts ≡ Some (done, rest)
no-clauses seen done ts rest e =
    let f = first (punctuation-then punctuations.CloseBrace ts e nothing) in
    ap (stmt_at (Clauses seen done)) f.2 ∙ stmt-is (Clauses seen done) (f.0 ∷ f.1)
    ∙ ap (λ k. run stmt_at (clauses_from seen done f.0.line k f.1)) f.3 ∙ ap (λ us. Some (done, us)) (ends f.5)

-- the first word of a clause
case-first : {ws : List Word} {ts rest : List Token} (seen : Bool) (done : List Clause) (l : ℕ) (w : Keyword)
    → Spelt (on_line l (words.keyword w ∷ ws)) ts rest →
    (us : List Token) × (stmt_at (Clauses seen done) ts ≡ run stmt_at (clauses_from seen done l (kinds.Keyword w) us))
    × (begins_clause ts ≡ begins_kind (kinds.Keyword w)) × Spelt ws us rest
case-first seen done l w h =
    let f = first h in (
      f.1,
      ap (stmt_at (Clauses seen done)) f.2 ∙ stmt-is (Clauses seen done) (f.0 ∷ f.1)
          ∙ ap (λ n. run stmt_at (clauses_from seen done n f.0.kind f.1)) f.4
          ∙ ap (λ k. run stmt_at (clauses_from seen done l k f.1)) f.3,
      ap begins_clause f.2 ∙ ap begins_kind f.3,
      f.5,
    )

-- the statements of a clause and the clauses after them, if those after are read
module _ (later : Bool) (done : List Clause) (wrap : List Stmt → Clause) (b : Parts)
    (good : stmts_good (map stmt_form (stmts b)) ≡ true) where
  last-clause : (us mid rest : List Token)
      → Spelt (words.punctuation punctuations.Colon ∷ separated punctuations.Semicolon (map print_stmt (stmts b))) us
      mid → after punctuations.CloseBrace mid ≡ Some rest
      → run stmt_at (clause_plan later done wrap us) ≡ Some (done ++ wrap (stmts b) ∷ [], rest)
  last-clause us mid rest h c =
      let k = behind-punctuation punctuations.Colon h in
      ap (λ o. run stmt_at (given o (λ vs. clause_body later done wrap vs (after punctuations.CloseBrace vs)))) k.1
      ∙ at b good k.0 k.2
    where
      at : (b : Parts) → stmts_good (map stmt_form (stmts b)) ≡ true → (vs : List Token)
          → Spelt (separated punctuations.Semicolon (map print_stmt (stmts b))) vs mid
          → run stmt_at (clause_body later done wrap vs (after punctuations.CloseBrace vs)) ≡ Some
          (done ++ wrap (stmts b) ∷ [], rest)
      at [] good vs h =
          let e = ap (after punctuations.CloseBrace) (ends h) ∙ c in
          ap (λ o. run stmt_at (clause_body later done wrap vs o)) e
          ∙ same-found (stmt_at (Clauses later (done ++ wrap [] ∷ [])) vs)
          ∙ no-clauses later (done ++ wrap [] ∷ []) vs rest e
      at (y ∷ ys) good vs h =
          let w = split (print_stmt y.0) (behind punctuations.Semicolon (map print_stmt (stmts ys))) h in
          let g = both (stmt_form y.0).good (stmts_good (map stmt_form (stmts ys))) good in
          ap (λ o. run stmt_at (clause_body later done wrap vs o)) (no-brace y vs w.0 g.0 w.1 (follows ys w.0 w.2))
          ∙ then (λ b. run stmt_at (Ask (Clauses later (done ++ wrap b.0 ∷ [])) b.1 found)) (stmt_at (CaseBody []) vs)
          (stmts (y ∷ ys), mid) (case-last ys y [] vs mid rest good h c)
          ∙ same-found (stmt_at (Clauses later (done ++ wrap (stmts (y ∷ ys)) ∷ [])) mid)
          ∙ no-clauses later (done ++ wrap (stmts (y ∷ ys)) ∷ []) mid rest c
        where
          follows : (ys : Parts) (ts : List Token)
              → Spelt (behind punctuations.Semicolon (map print_stmt (stmts ys))) ts mid → Ended ts
          follows [] ts h = record {
            punctuation = punctuations.CloseBrace;
            stop = close_brace;
            behind = rest;
            is = ap (after punctuations.CloseBrace) (ends h) ∙ c;
          }
          follows (z ∷ zs) ts h = ended punctuations.Semicolon semicolon h

  front-clause : (us next rest : List Token) (found_all : List Clause)
      → Spelt (words.punctuation punctuations.Colon ∷ closed (map print_stmt (stmts b))) us next
      → begins_clause next ≡ true → stmt_at (Clauses later (done ++ wrap (stmts b) ∷ [])) next ≡ Some (found_all, rest)
      → run stmt_at (clause_plan later done wrap us) ≡ Some (found_all, rest)
  front-clause us next rest found_all h n r =
      let k = behind-punctuation punctuations.Colon h in
      ap (λ o. run stmt_at (given o (λ vs. clause_body later done wrap vs (after punctuations.CloseBrace vs)))) k.1
      ∙ ap (λ o. run stmt_at (clause_body later done wrap k.0 o)) (at b good k.0 k.2)
      ∙ then (λ b. run stmt_at (Ask (Clauses later (done ++ wrap b.0 ∷ [])) b.1 found)) (stmt_at (CaseBody []) k.0)
      (stmts b, next) (case-closed b [] k.0 next good k.2 n)
      ∙ same-found (stmt_at (Clauses later (done ++ wrap (stmts b) ∷ [])) next) ∙ r
    where
      clear : (ts : List Token) (o : Option (List Token)) → begins_clause ts ≡ true
          → after punctuations.CloseBrace ts ≡ o → o ≡ None
      clear ts None b e = refl
      clear ts (Some us) b e = absurd (exclusive ts us b e)

      at : (b : Parts) → stmts_good (map stmt_form (stmts b)) ≡ true → (vs : List Token)
          → Spelt (closed (map print_stmt (stmts b))) vs next → after punctuations.CloseBrace vs ≡ None
      at [] good vs h = ap (after punctuations.CloseBrace) (ends h)
          ∙ clear next (after punctuations.CloseBrace next) n refl
      at (y ∷ ys) good vs h =
          let w = split (print_stmt y.0) (words.punctuation punctuations.Semicolon ∷ closed (map print_stmt (stmts ys)))
          h in
          no-brace y vs w.0 (both (stmt_form y.0).good (stmts_good (map stmt_form (stmts ys))) good).0 w.1
          (ended punctuations.Semicolon semicolon w.2)

-- the words after the opening of a clause
abbrev tail_words : List (List Word) → Cases → List Word
tail_words body [] = separated punctuations.Semicolon body
tail_words body (d ∷ ds) = closed body ++ clauses (map print_clause (cases (d ∷ ds)))

clauses-words : (c : Clause) (cs : Cases)
    → clauses (print_clause c ∷ map print_clause (cases cs)) ≡ (print_clause c).opening
    ++ tail_words (print_clause c).body cs
clauses-words c [] = refl
clauses-words c (d ∷ ds) = refl

abbrev case_opening : ℕ → Communication → List Word
case_opening l c = on_line l (words.keyword keywords.Case ∷ (print_comm c ++ words.punctuation punctuations.Colon ∷ []))

abbrev default_opening : ℕ → List Word
default_opening l = on_line l (words.keyword keywords.Default ∷ words.punctuation punctuations.Colon ∷ [])

case-words : (c : Clause) (k : CaseOf c)
    → print_clause c ≡ record { opening = case_opening k.line k.comm; body = map print_stmt (stmts k.body) }
case-words c k = ap print_clause k.is ∙ shape.print-Case k.line k.comm (stmts k.body)

default-words : (c : Clause) (k : DefaultOf c)
    → print_clause c ≡ record { opening = default_opening k.line; body = map print_stmt (stmts k.body) }
default-words c k = ap print_clause k.is ∙ shape.print-Default k.line (stmts k.body)

-- clauses begin with the word of a clause
clauses-begin : (d : (c : Clause) × ClauseRead c) (ds : Cases) (ts rest : List Token)
    → Spelt (clauses (map print_clause (cases (d ∷ ds)))) ts rest → begins_clause ts ≡ true
clauses-begin d ds ts rest h = at d.1 (subst (λ ws. Spelt ws ts rest) (clauses-words d.0 ds) h)
  where
    at : ClauseRead d.0 → Spelt ((print_clause d.0).opening ++ tail_words (print_clause d.0).body ds) ts rest
        → begins_clause ts ≡ true
    at (inl k) g = (case-first true [] k.line keywords.Case
        (subst (λ (w : ClauseWords). Spelt (w.opening ++ tail_words w.body ds) ts rest) (case-words d.0 k) g)).2
    at (inr k) g = (case-first true [] k.line keywords.Default
        (subst (λ (w : ClauseWords). Spelt (w.opening ++ tail_words w.body ds) ts rest) (default-words d.0 k) g)).2

-- after the words before its colon a clause is read with those after it
tail : (wrap : List Stmt → Clause) (b : Parts) (later : Bool) (done : List Clause) (cs : Cases)
    (us mid rest : List Token) → stmts_good (map stmt_form (stmts b)) ≡ true
    → after punctuations.CloseBrace mid ≡ Some rest →
    ((next : List Token) → Spelt (clauses (map print_clause (cases cs))) next mid
    → stmt_at (Clauses later (done ++ wrap (stmts b) ∷ [])) next ≡ Some
    ((done ++ wrap (stmts b) ∷ []) ++ cases cs, rest)) →
    Spelt (words.punctuation punctuations.Colon ∷ tail_words (map print_stmt (stmts b)) cs) us mid
    → run stmt_at (clause_plan later done wrap us) ≡ Some ((done ++ wrap (stmts b) ∷ []) ++ cases cs, rest)
tail wrap b later done [] us mid rest good c ih h = last-clause later done wrap b good us mid rest h c
    ∙ ap (λ xs. Some (xs, rest)) (sym (clause-nil (done ++ wrap (stmts b) ∷ [])))
  where
    clause-nil : (xs : List Clause) → xs ++ [] ≡ xs
    clause-nil [] = refl
    clause-nil (x ∷ xs) = ap (λ ys. x ∷ ys) (clause-nil xs)
tail wrap b later done (d ∷ ds) us mid rest good c ih h =
    let s = split (words.punctuation punctuations.Colon ∷ closed (map print_stmt (stmts b)))
    (clauses (map print_clause (cases (d ∷ ds)))) h in
    front-clause later done wrap b good us s.0 rest ((done ++ wrap (stmts b) ∷ []) ++ cases (d ∷ ds)) s.1
    (clauses-begin d ds s.0 mid s.2) (ih s.0 s.2)

-- clauses up to the brace of the `select`
clauses-read : (cs : Cases) (seen : Bool) (done : List Clause) (ts mid rest : List Token)
    → list_all (λ c. c.good) (map clause_form (cases cs)) ≡ true
    → cond seen 1 0 + defaults (map clause_form (cases cs)) ≤ 1 →
    Spelt (clauses (map print_clause (cases cs))) ts mid → after punctuations.CloseBrace mid ≡ Some rest
    → stmt_at (Clauses seen done) ts ≡ Some (done ++ cases cs, rest)
clauses-read [] seen done ts mid rest good few h c =
    no-clauses seen done ts rest (ap (after punctuations.CloseBrace) (ends h) ∙ c)
    ∙ ap (λ xs. Some (xs, rest)) (sym (clause-nil done))
  where
    clause-nil : (xs : List Clause) → xs ++ [] ≡ xs
    clause-nil [] = refl
    clause-nil (x ∷ xs) = ap (λ ys. x ∷ ys) (clause-nil xs)
clauses-read (d ∷ ds) seen done ts mid rest good few h c =
    at (λ later more next g f n. clauses-read ds later more next mid rest g f n c) d.1
    (subst (λ ws. Spelt ws ts mid) (clauses-words d.0 ds) h)
  where
    goods : ((clause_form d.0).good ≡ true) × (list_all (λ c. c.good) (map clause_form (cases ds)) ≡ true)
    goods = both (clause_form d.0).good (list_all (λ c. c.good) (map clause_form (cases ds))) good

    of-case : ((later : Bool) (more : List Clause) (next : List Token)
        → list_all (λ c. c.good) (map clause_form (cases ds)) ≡ true
        → cond later 1 0 + defaults (map clause_form (cases ds)) ≤ 1
        → Spelt (clauses (map print_clause (cases ds))) next mid
        → stmt_at (Clauses later more) next ≡ Some (more ++ cases ds, rest)) → (k : CaseOf d.0)
        → Spelt (case_opening k.line k.comm ++ tail_words (map print_stmt (stmts k.body)) ds) ts mid
        → stmt_at (Clauses seen done) ts ≡ Some (done ++ d.0 ∷ cases ds, rest)
    of-case again k g =
        let f = case-first seen done k.line keywords.Case g in
        let form_is = ap clause_form k.is ∙ shape.form-Case k.line k.comm (stmts k.body) in
        let goods_in = both (comm_good k.comm) (stmts_good (map stmt_form (stmts k.body)))
        (sym (ap (λ (q : ClauseForm). q.good) form_is) ∙ goods.0) in
        let none = ap {B = ℕ} (λ (q : ClauseForm). cond q.default 1 0) form_is in
        let w = split (print_comm k.comm) (words.punctuation punctuations.Colon
        ∷ tail_words (map print_stmt (stmts k.body)) ds)
        (subst (λ ws. Spelt ws f.0 mid) (append_assoc (print_comm k.comm)
        (words.punctuation punctuations.Colon ∷ []) (tail_words (map print_stmt (stmts k.body)) ds)) f.3) in
        f.1
        ∙ ap (λ o. run stmt_at (given o (λ c. clause_plan seen done (cl.Case k.line c.0) c.1)))
        (comm-complete k.comm f.0 w.0 goods_in.0 w.1 (stops punctuations.Colon colon w.2))
        ∙ tail (cl.Case k.line k.comm) k.body seen done ds w.0 mid rest goods_in.1 c
        (λ next n. again seen (done ++ cl.Case k.line k.comm (stmts k.body) ∷ []) next goods.1
        (omega (arith, none, few)) n) w.2
        ∙ ap (λ xs. Some (xs, rest)) (append_assoc done (cl.Case k.line k.comm (stmts k.body) ∷ []) (cases ds)
        ∙ ap (λ x. done ++ x ∷ cases ds) (sym k.is))

    of-default : ((later : Bool) (more : List Clause) (next : List Token)
        → list_all (λ c. c.good) (map clause_form (cases ds)) ≡ true
        → cond later 1 0 + defaults (map clause_form (cases ds)) ≤ 1
        → Spelt (clauses (map print_clause (cases ds))) next mid
        → stmt_at (Clauses later more) next ≡ Some (more ++ cases ds, rest)) → (k : DefaultOf d.0)
        → Spelt (default_opening k.line ++ tail_words (map print_stmt (stmts k.body)) ds) ts mid
        → stmt_at (Clauses seen done) ts ≡ Some (done ++ d.0 ∷ cases ds, rest)
    of-default again k g =
        let f = case-first seen done k.line keywords.Default g in
        let form_is = ap clause_form k.is ∙ shape.form-Default k.line (stmts k.body) in
        let good_in = sym (ap (λ (q : ClauseForm). q.good) form_is) ∙ goods.0 in
        let one = ap {B = ℕ} (λ (q : ClauseForm). cond q.default 1 0) form_is in
        f.1
        ∙ ap (λ b. run stmt_at (cond b (Done None) (clause_plan true done (cl.Default k.line) f.0)))
        (unseen seen (omega (arith, one, few)))
        ∙ tail (cl.Default k.line) k.body true done ds f.0 mid rest good_in c
        (λ next n. again true (done ++ cl.Default k.line (stmts k.body) ∷ []) next goods.1
        (omega (arith, one, few)) n) f.3
        ∙ ap (λ xs. Some (xs, rest)) (append_assoc done (cl.Default k.line (stmts k.body) ∷ []) (cases ds)
        ∙ ap (λ x. done ++ x ∷ cases ds) (sym k.is))
      where
        unseen : (b : Bool) → cond b 1 0 ≤ 0 → b ≡ false
        unseen false h = refl
        unseen true h = absurd (omega arith)

    at : ((later : Bool) (more : List Clause) (next : List Token)
        → list_all (λ c. c.good) (map clause_form (cases ds)) ≡ true
        → cond later 1 0 + defaults (map clause_form (cases ds)) ≤ 1
        → Spelt (clauses (map print_clause (cases ds))) next mid
        → stmt_at (Clauses later more) next ≡ Some (more ++ cases ds, rest)) → ClauseRead d.0
        → Spelt ((print_clause d.0).opening ++ tail_words (print_clause d.0).body ds) ts mid
        → stmt_at (Clauses seen done) ts ≡ Some (done ++ d.0 ∷ cases ds, rest)
    at again (inl k) g = of-case again k (subst (λ (w : ClauseWords). Spelt (w.opening ++ tail_words w.body ds) ts mid)
        (case-words d.0 k) g)
    at again (inr k) g = of-default again k
        (subst (λ (w : ClauseWords). Spelt (w.opening ++ tail_words w.body ds) ts mid) (default-words d.0 k) g)

absurd-false : {A : Type 0} → false ≡ true → A
absurd-false e = absurd (never e)
  where
    never : false ≡ true → ⊥
    never e = cc

-- a statement that begins with this word
by-line : (x : Stmt) (l : ℕ) (k : TokenKind) (ws : List Word) (f : StmtForm)
    → print_stmt x ≡ on_line l (words.word k ∷ ws) → stmt_form x ≡ f →
    (f.good ≡ true → (us ts rest : List Token) → Spelt ws us rest → Ended rest
    → run stmt_at (kind_plan l k us ts) ≡ Some (x, rest)) → (f.branch ≡ true → is_branch_kind k ≡ true) → IsRead x
by-line x l k ws f p q goes br = record {
  reads = λ good ts rest h e. let o = opened l k (subst (λ vs. Spelt vs ts rest) p h) in o.1
      ∙ goes (sym (ap (λ (y : StmtForm). y.good) q) ∙ good) o.0 ts rest o.3 e;
  branch = λ b ts rest h. let o = opened l k (subst (λ vs. Spelt vs ts rest) p h) in o.2
      ∙ br (sym (ap (λ (y : StmtForm). y.branch) q) ∙ b);
}

-- what begins as a simple statement is read as one
simple-goes : (t : Token) (ts : List Token) (x : Simple × List Token) → simple_at false (t ∷ ts) ≡ Some x
    → (k : TokenKind) → t.kind ≡ k → run stmt_at (kind_plan t.line k ts (t ∷ ts)) ≡ Some (st.Simple x.0, x.1)
simple-goes t ts x e k is = at k is
  where
    never : {A : Type 0} → simple_at false (t ∷ ts) ≡ None → A
    never n = absurd (no-some (sym n ∙ e))
      where
        no-some : ◌≡◌ {A = Option (Simple × List Token)} None (Some x) → ⊥
        no-some q = cc

    read : run stmt_at (simple_plan (t ∷ ts)) ≡ Some (st.Simple x.0, x.1)
    read = then (λ x. Some (st.Simple x.0, x.1)) (simple_at false (t ∷ ts)) x e

    word : (w : Keyword) → t.kind ≡ kinds.Keyword w
        → run stmt_at (keyword_plan t.line w ts (t ∷ ts)) ≡ Some (st.Simple x.0, x.1)
    word keywords.Var is = never (no-case t ts keywords.Var is (λ us. refl))
    word keywords.Go is = never (no-case t ts keywords.Go is (λ us. refl))
    word keywords.Defer is = never (no-case t ts keywords.Defer is (λ us. refl))
    word keywords.Return is = never (no-case t ts keywords.Return is (λ us. refl))
    word keywords.Break is = never (no-case t ts keywords.Break is (λ us. refl))
    word keywords.Continue is = never (no-case t ts keywords.Continue is (λ us. refl))
    word keywords.If is = never (no-case t ts keywords.If is (λ us. refl))
    word keywords.For is = never (no-case t ts keywords.For is (λ us. refl))
    word keywords.Select is = never (no-case t ts keywords.Select is (λ us. refl))
    word _ is = read

    punctuation : (m : Punctuation) → t.kind ≡ kinds.Punctuation m
        → run stmt_at (kind_plan t.line (kinds.Punctuation m) ts (t ∷ ts)) ≡ Some (st.Simple x.0, x.1)
    punctuation punctuations.OpenBrace is =
        never (no-simple false punctuations.OpenBrace open_brace
        (punctuation-then punctuations.OpenBrace (t ∷ ts)
        (ap (λ k. after_kind punctuations.OpenBrace k ts) is) nothing))
    punctuation _ is = read

    at : (k : TokenKind) → t.kind ≡ k → run stmt_at (kind_plan t.line k ts (t ∷ ts)) ≡ Some (st.Simple x.0, x.1)
    at (kinds.Keyword w) is = word w is
    at (kinds.Punctuation m) is = punctuation m is
    at _ is = read

simple-nothing : simple_at false [] ≡ None
unfolding simple_at
simple-nothing = refl

simple-stmt : (x : Simple) → IsRead (st.Simple x)
simple-stmt x = record {
  reads = λ good ts rest h e. at (sym (ap (λ (y : StmtForm). y.good) (shape.form-Simple x)) ∙ good) ts rest
      (subst (λ ws. Spelt ws ts rest) (shape.print-Simple x) h) e;
  branch = λ b ts rest h. absurd-false (sym (ap (λ (y : StmtForm). y.branch) (shape.form-Simple x)) ∙ b);
}
  where
    none : (rest : List Token) → Some (x, rest) ≡ simple_at false [] → ⊥
    none rest e = no-some (e ∙ simple-nothing)
      where
        no-some : ◌≡◌ {A = Option (Simple × List Token)} (Some (x, rest)) None → ⊥
        no-some q = cc

    at : (simple_form x.kind).good ≡ true → (ts rest : List Token) → Spelt (print_simple x) ts rest → Ended rest
        → stmt_at OfStmt ts ≡ Some (st.Simple x, rest)
    at good [] rest h e = absurd (none rest (sym (simple-complete false x [] rest good refl h (stopped rest e).ends)))
    at good (t ∷ ts) rest h e = stmt-is OfStmt (t ∷ ts)
        ∙ simple-goes t ts (x, rest) (simple-complete false x (t ∷ ts) rest good refl h (stopped rest e).ends) t.kind
        refl

returned-stmt : (l : ℕ) (o : Option Expr) → IsRead (st.Return l o)
returned-stmt l None = by-line (st.Return l None) l (kinds.Keyword keywords.Return) _ _ (shape.print-Return l None)
    (shape.form-Return l None)
    (λ good us ts rest h e. ap (returned l us)
    (ap (expr_at (Level false 1)) (ends h)
    ∙ no-expr false 1 e.punctuation e.stop (punctuation-then e.punctuation rest e.is nothing))
    ∙ ap (λ q. Some (st.Return l None, q)) (ends h)) absurd-false
returned-stmt l (Some v) = by-line (st.Return l (Some v)) l (kinds.Keyword keywords.Return) _ _
    (shape.print-Return l (Some v)) (shape.form-Return l (Some v))
    (λ good us ts rest h e. ap (returned l us)
    (expr-complete v false us rest (record { good = good; clear = refl; spelt = h }) (stopped rest e).ends.quiet))
    absurd-false

abbrev if_words : Option Simple → List Word
if_words i = optional (λ y. print_simple y ++ words.punctuation punctuations.Semicolon ∷ []) i

if-stmt : (l : ℕ) (i : Option Simple) (e : Expr) (b : Parts) → IsRead (st.If l i e (stmts b))
if-stmt l i v b = by-line (st.If l i v (stmts b)) l (kinds.Keyword keywords.If) _ _ (shape.print-If l i v (stmts b))
    (shape.form-If l i v (stmts b)) (λ good us ts rest h e.
    let g = both (all_of header_simple i) (header_expr v && stmts_good (map stmt_form (stmts b))) good in
    let k = both (header_expr v) (stmts_good (map stmt_form (stmts b))) g.1 in
    let w = split (if_words i ++ print_expr v) (print_block (map print_stmt (stmts b)))
    (subst (λ ws. Spelt ws us rest) (sym (append_assoc (if_words i) (print_expr v)
    (print_block (map print_stmt (stmts b))))) h) in
    ap (λ o. run stmt_at (given o (λ x. block x.1 (λ b. else_plan l x.0 b.0 b.1 (after_keyword keywords.Else b.1)))))
    (test-complete (i, v) us w.0 rest _ g.0 k.0 w.1 w.2)
    ∙ block-read Stmt b w.0 rest (λ b. else_plan l (i, v) b.0 b.1 (after_keyword keywords.Else b.1)) k.1 w.2
    ∙ ap (λ o. run stmt_at (else_plan l (i, v) (stmts b) rest o))
    (no-keyword e.punctuation keywords.Else rest e.behind e.is)) (λ y. refl)

if-else-stmt : (l : ℕ) (i : Option Simple) (e : Expr) (b : Parts) (o : Stmt) → IsRead o
    → IsRead (st.IfElse l i e (stmts b) o)
if-else-stmt l i v b o r = by-line (st.IfElse l i v (stmts b) o) l (kinds.Keyword keywords.If) _ _
    (shape.print-IfElse l i v (stmts b) o) (shape.form-IfElse l i v (stmts b) o) (λ good us ts rest h e.
    let blk = print_block (map print_stmt (stmts b)) in
    let els = words.keyword keywords.Else ∷ print_stmt o in
    let g = both (all_of header_simple i) (header_expr v
    && (stmts_good (map stmt_form (stmts b)) && ((stmt_form o).good && (stmt_form o).branch))) good in
    let k = both (header_expr v) (stmts_good (map stmt_form (stmts b)) && ((stmt_form o).good && (stmt_form o).branch))
    g.1 in
    let m = both (stmts_good (map stmt_form (stmts b))) ((stmt_form o).good && (stmt_form o).branch) k.1 in
    let n = both (stmt_form o).good (stmt_form o).branch m.1 in
    let w = split (if_words i ++ print_expr v) (blk ++ els)
    (subst (λ ws. Spelt ws us rest) (sym (append_assoc (if_words i) (print_expr v) (blk ++ els))) h) in
    let q = split blk els w.2 in
    let z = behind-keyword keywords.Else q.2 in
    ap (λ o. run stmt_at (given o (λ x. block x.1 (λ b. else_plan l x.0 b.0 b.1 (after_keyword keywords.Else b.1)))))
    (test-complete (i, v) us w.0 q.0 _ g.0 k.0 w.1 q.1)
    ∙ block-read Stmt b w.0 q.0 (λ b. else_plan l (i, v) b.0 b.1 (after_keyword keywords.Else b.1)) m.0 q.1
    ∙ ap (λ p. run stmt_at (else_plan l (i, v) (stmts b) q.0 p)) z.1
    ∙ ap (λ c. run stmt_at (cond c (Ask OfStmt z.0 (λ s. just (st.IfElse l i v (stmts b) s.0) s.1)) (Done None)))
    (r.branch n.1 z.0 rest z.2)
    ∙ then (λ s. Some (st.IfElse l i v (stmts b) s.0, s.1)) (stmt_at OfStmt z.0) (o, rest) (r.reads n.0 z.0 rest z.2 e))
    (λ y. refl)

for-stmt : (l : ℕ) (i : Header) (b : Parts) → IsRead (st.For l i (stmts b))
for-stmt l i b = by-line (st.For l i (stmts b)) l (kinds.Keyword keywords.For) _ _ (shape.print-For l i (stmts b))
    (shape.form-For l i (stmts b)) (λ good us ts rest h e.
    let g = both (header_good i) (stmts_good (map stmt_form (stmts b))) good in
    let w = split (print_header i) (print_block (map print_stmt (stmts b))) h in
    ap (λ o. run stmt_at (given o (λ h. block h.1 (λ b. just (st.For l h.0 b.0) b.1))))
    (header-complete w.0 rest _ w.2 i us g.0 w.1)
    ∙ block-read Stmt b w.0 rest (λ b. just (st.For l i b.0) b.1) g.1 w.2) absurd-false

select-stmt : (l : ℕ) (cs : Cases) → IsRead (st.Select l (cases cs))
select-stmt l cs = by-line (st.Select l (cases cs)) l (kinds.Keyword keywords.Select) _ _
    (shape.print-Select l (cases cs)) (shape.form-Select l (cases cs)) (λ good us ts rest h e.
    let g = both (list_all (λ c. c.good) (map clause_form (cases cs)))
    (nat_le (defaults (map clause_form (cases cs))) 1) good in
    let few = true-le (defaults (map clause_form (cases cs))) 1 g.1 in
    let o = behind-punctuation punctuations.OpenBrace h in
    let w = split (clauses (map print_clause (cases cs))) (words.punctuation punctuations.CloseBrace ∷ []) o.2 in
    let c = behind-punctuation punctuations.CloseBrace w.2 in
    ap (λ o. run stmt_at (given o (λ us. Ask (Clauses false []) us (λ c. just (st.Select l c.0) c.1)))) o.1
    ∙ then (λ c. Some (st.Select l c.0, c.1)) (stmt_at (Clauses false []) o.0) (cases cs, rest)
    (clauses-read cs false [] o.0 w.0 rest g.0 (omega (arith, few)) w.1 (c.1 ∙ ap Some (ends c.2)))) absurd-false

-- every statement that is printed is read
is_read : (s : Stmt) → IsRead s
is_read = shape.each IsRead ClauseRead
    (λ v. by-line (st.Var v) v.line (kinds.Keyword keywords.Var) _ _ (shape.print-Var v) (shape.form-Var v)
    (λ good us ts rest h e. then (λ v. Some (st.Var v.0, v.1)) (var_at v.line us) (v, rest)
    (var-complete v us rest good h (stopped rest e))) absurd-false)
    simple-stmt
    (λ l f xs. by-line (st.Go l f xs) l (kinds.Keyword keywords.Go) _ _ (shape.print-Go l f xs) (shape.form-Go l f xs)
    (λ good us ts rest h e. then (λ c. Some (st.Go l c.0.0 c.0.1, c.1)) (call_at us) ((f, xs), rest)
    (call-complete f xs us rest good h (stopped rest e))) absurd-false)
    (λ l f xs. by-line (st.Defer l f xs) l (kinds.Keyword keywords.Defer) _ _ (shape.print-Defer l f xs)
    (shape.form-Defer l f xs)
    (λ good us ts rest h e. then (λ c. Some (st.Defer l c.0.0 c.0.1, c.1)) (call_at us) ((f, xs), rest)
    (call-complete f xs us rest good h (stopped rest e))) absurd-false)
    returned-stmt
    (λ l. by-line (st.Break l) l (kinds.Keyword keywords.Break) _ _ (shape.print-Break l) (shape.form-Break l)
    (λ good us ts rest h e. ap (λ q. Some (st.Break l, q)) (ends h)) absurd-false)
    (λ l. by-line (st.Continue l) l (kinds.Keyword keywords.Continue) _ _ (shape.print-Continue l)
    (shape.form-Continue l) (λ good us ts rest h e. ap (λ q. Some (st.Continue l, q)) (ends h)) absurd-false)
    (λ l b. by-line (st.Block l (stmts b)) l (kinds.Punctuation punctuations.OpenBrace) _ _
    (shape.print-Block l (stmts b)) (shape.form-Block l (stmts b))
    (λ good us ts rest h e. braced Stmt b us rest (λ b. just (st.Block l b.0) b.1) good h) (λ y. refl))
    if-stmt if-else-stmt for-stmt select-stmt
    (λ l c b. inl (record { line = l; comm = c; body = b; is = refl }))
    (λ l b. inr (record { line = l; body = b; is = refl }))

-- a statement is read before a `;` or a brace
pub stmt-complete : (s : Stmt) (ts rest : List Token) → (stmt_form s).good ≡ true → Spelt (print_stmt s) ts rest
    → Ended rest → stmt_at OfStmt ts ≡ Some (s, rest)
stmt-complete s ts rest good h e = (is_read s).reads good ts rest h e

-- so are statements in braces, after the opening one
pub block-complete : (A : Type 0) (b : List Stmt) (ts rest : List Token) (more : GoesFrom A)
    → stmts_good (map stmt_form b) ≡ true → Spelt (print_block (map print_stmt b)) ts rest
    → run stmt_at (block ts more) ≡ run stmt_at (more (b, rest))
block-complete A b ts rest more good h =
    let same = parts b in
    block-read A (with b) ts rest more (subst (λ (q : List Stmt). stmts_good (map stmt_form q) ≡ true) (sym same) good)
    (subst (λ (q : List Stmt). Spelt (print_block (map print_stmt q)) ts rest) (sym same) h)
    ∙ ap (λ (q : List Stmt). run stmt_at (more (q, rest))) same
  where
    with : List Stmt → Parts
    with [] = []
    with (s ∷ ss) = (s, is_read s) ∷ with ss

    parts : (b : List Stmt) → stmts (with b) ≡ b
    parts [] = refl
    parts (s ∷ ss) = ap (λ q. s ∷ q) (parts ss)
