-- What is read as a statement is one that is printed there.
-- For: `stmt_at` (golf_syntax_statements/specs/StatementReader.antt) and `read` (src/statements.rt)
-- By: cases of the first token, for each step of a plan; the induction over the steps is `reads-keeps`
use Rattle.std.proofs.Common.{◌≡◌, ◌⊎◌, inl, inr, ℕ, ◌+◌, ◌≤◌, ◌*◌, suc, length, Bool, true, false, cond, ◌&&◌, List}
use Rattle.std.proofs.Common.{[], ◌∷◌, ◌++◌, map, refl, ap, sym, subst, ◌∙◌, arith, append_assoc}
use Rattle.std.specs.Prelude.{Option, Some, None, nat_le}
use Rattle.std.specs.List.{list_all}
use Rattle.golf_lex_tokens.specs.declared.token.Token.{Token}
use Rattle.golf_lex_tokens.specs.declared.token.TokenKind.{TokenKind}
use Rattle.golf_lex_tokens.specs.declared.token.TokenKind.TheVariants as kinds
use Rattle.golf_lex_tokens.specs.declared.token.Punctuation.{Punctuation}
use Rattle.golf_lex_tokens.specs.declared.token.Punctuation.TheVariants as punctuations
use Rattle.golf_lex_tokens.specs.declared.token.Keyword.{Keyword}
use Rattle.golf_lex_tokens.specs.declared.token.Keyword.TheVariants as keywords
use Rattle.golf_syntax_trees.specs.declared.expressions.Expr.{Expr, out-Expr, roll-Expr, roll-out-Expr}
use Rattle.golf_syntax_trees.specs.declared.expressions.Expr.TheVariants as ex
use Rattle.golf_syntax_trees.specs.declared.expressions.Expr.TheOpen as F
use Rattle.golf_syntax_trees.specs.declared.expressions.Expr.TheOpen.{Expr-F}
use Rattle.golf_syntax_trees.specs.declared.expressions.Element.{Element}
use Rattle.golf_syntax_trees.specs.declared.statements.Stmt.{Stmt}
use Rattle.golf_syntax_trees.specs.declared.statements.Stmt.TheVariants as st
use Rattle.golf_syntax_trees.specs.declared.statements.Clause.{Clause}
use Rattle.golf_syntax_trees.specs.declared.statements.Clause.TheVariants as cl
use Rattle.golf_syntax_trees.specs.Words as words
use Rattle.golf_syntax_trees.specs.Words.{Word, on_line, separated, closed}
use Rattle.golf_syntax_trees.specs.Expressions.{print_expr, form, Form}
use Rattle.golf_syntax_trees.specs.Simple.{optional, all_of, print_simple, print_comm, header_simple, header_expr}
use Rattle.golf_syntax_trees.specs.Simple.{header_good}
use Rattle.golf_syntax_trees.specs.Statements.{print_call, call_good, ClauseWords, clauses, print_block, print_stmt}
use Rattle.golf_syntax_trees.specs.Statements.{print_clause, StmtForm, ClauseForm, stmts_good, defaults, stmt_form}
use Rattle.golf_syntax_trees.specs.Statements.{clause_form}
use Rattle.golf_syntax_expressions.specs.Plan.{◌>>=◌, Done, Ask}
use Rattle.golf_syntax_expressions.specs.Front.{after, after_kind, after_keyword}
use Rattle.golf_syntax_expressions.specs.ExpressionReader.{Level, Prefixed, expr_at}
use Rattle.golf_syntax_expressions.specs.SimpleStatementReader.{simple_at}
use Rattle.golf_syntax_expressions.proofs.Plans.{bind_some, Keeps, keeps-given, reads-keeps}
use Rattle.golf_syntax_expressions.proofs.Fronts.{some-same, and-true, found as found-keeps, Spelt, nothing, kind-then}
use Rattle.golf_syntax_expressions.proofs.Fronts.{punctuation-then, keyword-then, join}
use Rattle.golf_syntax_expressions.proofs.ExprShapes as expr_shape
use Rattle.golf_syntax_expressions.proofs.ExprFronts.{le-true}
use Rattle.golf_syntax_expressions.proofs.ExprSound.{expr-sound, prefixed-is-sound}
use Rattle.golf_syntax_expressions.proofs.SimpleLines.{on-line-then, simple-sound}
use Rattle.golf_syntax_statements.specs.VariableReader.{var_at}
use Rattle.golf_syntax_statements.specs.HeaderReader.{Test, test_at, header_at}
use Rattle.golf_syntax_statements.specs.CommunicationReader.{comm_at}
use Rattle.golf_syntax_statements.specs.StatementReader.{StatementMode, OfStmt, Body, Clauses, CaseBody, StatementTree}
use Rattle.golf_syntax_statements.specs.StatementReader.{just, GoesFrom, body}
use Rattle.golf_syntax_statements.specs.StatementReader.{block, call_in, call_of, call_at, returned, is_branch_kind}
use Rattle.golf_syntax_statements.specs.StatementReader.{is_branch, else_plan, if_plan, for_plan, select_plan}
use Rattle.golf_syntax_statements.specs.StatementReader.{simple_plan}
use Rattle.golf_syntax_statements.specs.StatementReader.{keyword_plan, kind_plan, body_behind, case_behind, begins_kind}
use Rattle.golf_syntax_statements.specs.StatementReader.{begins_clause, clause_body, clause_plan, clauses_from}
use Rattle.golf_syntax_statements.specs.StatementReader.{stmt_plan}
use Rattle.golf_syntax_statements.specs.StatementReader.{stmt_at}
use Rattle.golf_syntax_statements.proofs.VarLaws.{var-sound}
use Rattle.golf_syntax_statements.proofs.HeaderLaws.{test-sound, header-sound}
use Rattle.golf_syntax_statements.proofs.CommLaws.{comm-sound}
use Rattle.golf_syntax_statements.proofs.StmtShapes as shape

-- a well-formed statement in these tokens, up to those that are left; it may stand after `else` if they begin so
pub record IsStmt (ts : List Token) (x : Stmt × List Token) : Type 0 where
  pub words : Spelt (print_stmt x.0) ts x.1
  pub good : (stmt_form x.0).good ≡ true
  pub branch : is_branch ts ≡ true → (stmt_form x.0).branch ≡ true

-- statements that were read, after those that were read before, up to the brace that closes them
pub record BodyRead (done : List Stmt) (ts : List Token) (x : List Stmt × List Token) : Type 0 where
  pub first : Stmt
  pub more : List Stmt
  pub are : x.0 ≡ done ++ first ∷ more
  pub good : stmts_good (map stmt_form (first ∷ more)) ≡ true
  pub mid : List Token
  pub words : Spelt (separated punctuations.Semicolon (map print_stmt (first ∷ more))) ts mid
  pub close : after punctuations.CloseBrace mid ≡ Some x.1

-- up to the next clause, with a semicolon after each
record BeforeClause (more : List Stmt) (ts rest : List Token) : Type 0 where
  next : begins_clause rest ≡ true
  words : Spelt (closed (map print_stmt more)) ts rest

-- up to the brace of the `select`
record BeforeBrace (more : List Stmt) (ts rest : List Token) : Type 0 where
  first : Stmt
  others : List Stmt
  are : more ≡ first ∷ others
  behind : List Token
  close : after punctuations.CloseBrace rest ≡ Some behind
  words : Spelt (separated punctuations.Semicolon (map print_stmt (first ∷ others))) ts rest

record CaseRead (done : List Stmt) (ts : List Token) (x : List Stmt × List Token) : Type 0 where
  more : List Stmt
  are : x.0 ≡ done ++ more
  good : stmts_good (map stmt_form more) ≡ true
  ended : BeforeClause more ts x.1 ⊎ BeforeBrace more ts x.1

-- clauses that were read: none before the brace, and else one begins here
abbrev Begun : List Clause → List Token → Type 0
Begun [] ts = (us : List Token) × (after punctuations.CloseBrace ts ≡ Some us)
Begun (c ∷ cs) ts = begins_clause ts ≡ true

record ClausesRead (seen : Bool) (done : List Clause) (ts : List Token) (x : List Clause × List Token) : Type 0 where
  more : List Clause
  are : x.0 ≡ done ++ more
  good : list_all (λ c. c.good) (map clause_form more) ≡ true
  few : cond seen 1 0 + defaults (map clause_form more) ≤ 1
  begun : Begun more ts
  mid : List Token
  words : Spelt (clauses (map print_clause more)) ts mid
  close : after punctuations.CloseBrace mid ≡ Some x.1

abbrev Sound : (m : StatementMode) → List Token → StatementTree m × List Token → Type 0
Sound OfStmt ts x = IsStmt ts x
Sound (Body done) ts x = BodyRead done ts x
Sound (Clauses seen done) ts x = ClausesRead seen done ts x
Sound (CaseBody done) ts x = CaseRead done ts x

-- statements in braces
record IsBlock (ts : List Token) (x : List Stmt × List Token) : Type 0 where
  words : Spelt (print_block (map print_stmt x.0)) ts x.1
  good : stmts_good (map stmt_form x.0) ≡ true

-- after the opening brace
body-keeps : (A : Type 0) (Q : A × List Token → Type 0) (before ts : List Token)
    → Spelt (words.punctuation punctuations.OpenBrace ∷ []) before ts → (more : GoesFrom A)
    → ((x : List Stmt × List Token) → IsBlock before x → Keeps Sound Q (more x)) →
    (o : Option (List Token)) → after punctuations.CloseBrace ts ≡ o → Keeps Sound Q (body ts o more)
body-keeps A Q before ts b more k (Some us) e =
    k ([], us) (record { words = join b (punctuation-then punctuations.CloseBrace ts e nothing); good = refl })
body-keeps A Q before ts b more k None e = λ x r.
    k x (subst (λ (q : List Stmt). IsBlock before (q, x.1)) (sym r.are)
    (record {
      words = join b (join r.words (punctuation-then punctuations.CloseBrace r.mid r.close nothing));
      good = r.good;
    }))

block-keeps : (A : Type 0) (Q : A × List Token → Type 0) (ts : List Token) (more : GoesFrom A)
    → ((x : List Stmt × List Token) → IsBlock ts x → Keeps Sound Q (more x)) → Keeps Sound Q (block ts more)
block-keeps A Q ts more k = keeps-given Sound Q (after punctuations.OpenBrace ts)
    (λ us. body us (after punctuations.CloseBrace us) more) (λ us e.
    body-keeps A Q ts us (punctuation-then punctuations.OpenBrace ts e nothing) more k
    (after punctuations.CloseBrace us) refl)

-- a call
call-is : (e : Expr) (c : Expr × List Expr) → call_of e ≡ Some c → e ≡ ex.Call c.0 c.1
call-is e c h = at (out-Expr e) refl h
  where
    at : (x : Expr-F Expr Element) → out-Expr e ≡ x → call_in x ≡ Some c → e ≡ ex.Call c.0 c.1
    at (F.Call f xs) is q = sym (roll-out-Expr e) ∙ ap roll-Expr is ∙ ex.rolls-Call f xs
        ∙ ap (λ (d : Expr × List Expr). ex.Call d.0 d.1) (some-same (f, xs) c q)
    at _ is q = cc

record IsCall (ts : List Token) (x : (Expr × List Expr) × List Token) : Type 0 where
  words : Spelt (print_call x.0.0 x.0.1) ts x.1
  good : call_good x.0.0 x.0.1 ≡ true

call-sound : (ts : List Token) (x : (Expr × List Expr) × List Token) → call_at ts ≡ Some x → IsCall ts x
unfolding call_at
call-sound ts x e =
    let a = bind_some (expr_at (Prefixed false) ts) (λ e. call_of e.0 >>= λ c. Some (c, e.1)) x e in
    let b = bind_some (call_of a.0.0) (λ c. Some (c, a.0.1)) x a.2 in
    let k = prefixed-is-sound false ts a.0 a.1 in
    let same = call-is a.0.0 b.0 b.1 in
    subst (IsCall ts) (some-same (b.0, a.0.1) x b.2) (record {
      words = subst (λ ws. Spelt ws ts a.0.1) (ap print_expr same ∙ expr_shape.print-Call b.0.0 b.0.1) k.words;
      good = sym (ap (λ y. (form y).good) same ∙ ap (λ (f : Form). f.good) (expr_shape.form-Call b.0.0 b.0.1)) ∙ k.good;
    })

module _ (t : Token) (ts : List Token) where
  abbrev One : Stmt × List Token → Type 0
  One x = IsStmt (t ∷ ts) x

  -- a statement that begins with this token, made of its words
  made : (x : Stmt) (rest : List Token) (ws : List Word) (f : StmtForm) → print_stmt x ≡ on_line t.line ws
      → stmt_form x ≡ f → Spelt ws (t ∷ ts) rest → f.good ≡ true → (is_branch_kind t.kind ≡ true → f.branch ≡ true)
      → One (x, rest)
  made x rest ws f p q h g b = record {
    words = subst (λ vs. Spelt vs (t ∷ ts) rest) (sym p) (on-line-then ws t ts rest h);
    good = ap (λ (y : StmtForm). y.good) q ∙ g;
    branch = λ k. ap (λ (y : StmtForm). y.branch) q ∙ b k;
  }

  -- no word but `if` stands after `else`
  no-branch : (k : Keyword) (b : Bool) → t.kind ≡ kinds.Keyword k → is_branch_kind (kinds.Keyword k) ≡ false
      → is_branch_kind t.kind ≡ true → b ≡ true
  no-branch k b is other begins = absurd (never (sym begins ∙ ap is_branch_kind is ∙ other))
    where
      never : true ≡ false → ⊥
      never e = cc

  simple-keeps : is_branch_kind t.kind ≡ false → Keeps Sound One (simple_plan (t ∷ ts))
  simple-keeps other = found-keeps One (simple_at false (t ∷ ts) >>= λ x. Some (st.Simple x.0, x.1)) (λ x e.
      let a = bind_some (simple_at false (t ∷ ts)) (λ x. Some (st.Simple x.0, x.1)) x e in
      let k = simple-sound false (t ∷ ts) a.0 a.1 in
      subst One (some-same (st.Simple a.0.0, a.0.1) x a.2) (record {
        words = subst (λ ws. Spelt ws (t ∷ ts) a.0.1) (sym (shape.print-Simple a.0.0)) k.words;
        good = ap (λ (y : StmtForm). y.good) (shape.form-Simple a.0.0) ∙ k.good;
        branch = λ begins. absurd (never (sym begins ∙ other));
      }))
    where
      never : true ≡ false → ⊥
      never e = cc

  returned-keeps : t.kind ≡ kinds.Keyword keywords.Return → (o : Option (Expr × List Token))
      → expr_at (Level false 1) ts ≡ o → Keeps Sound One (Done (returned t.line ts o))
  returned-keeps is None e = made (st.Return t.line None) ts _ _ (shape.print-Return t.line None)
      (shape.form-Return t.line None) (kind-then t _ is nothing) refl (no-branch keywords.Return false is refl)
  returned-keeps is (Some x) e =
      let k = expr-sound false ts x e in
      made (st.Return t.line (Some x.0)) x.1 _ _ (shape.print-Return t.line (Some x.0))
      (shape.form-Return t.line (Some x.0)) (kind-then t _ is k.words) k.good
      (no-branch keywords.Return false is refl)

  if-keeps : t.kind ≡ kinds.Keyword keywords.If → Keeps Sound One (if_plan t.line ts)
  if-keeps is = keeps-given Sound One (test_at ts)
      (λ x. block x.1 (λ b. else_plan t.line x.0 b.0 b.1 (after_keyword keywords.Else b.1))) (λ x e.
      let c = test-sound ts x e in
      block-keeps Stmt One x.1 (λ b. else_plan t.line x.0 b.0 b.1 (after_keyword keywords.Else b.1))
      (λ b k. at x.0 b.0 b.1 (join c.words k.words) c.first c.good k.good (after_keyword keywords.Else b.1) refl))
    where
      at : (x : Test) (b : List Stmt) (us : List Token)
          → Spelt ((optional (λ y. print_simple y ++ words.punctuation punctuations.Semicolon ∷ []) x.0
          ++ print_expr x.1) ++ print_block (map print_stmt b)) ts us →
          all_of header_simple x.0 ≡ true → header_expr x.1 ≡ true → stmts_good (map stmt_form b) ≡ true
          → (o : Option (List Token)) → after_keyword keywords.Else us ≡ o
          → Keeps Sound One (else_plan t.line x b us o)
      at x b us h f g k None e =
          made (st.If t.line x.0 x.1 b) us _ _ (shape.print-If t.line x.0 x.1 b) (shape.form-If t.line x.0 x.1 b)
          (kind-then t _ is (subst (λ ws. Spelt ws ts us)
          (append_assoc (optional (λ y. print_simple y ++ words.punctuation punctuations.Semicolon ∷ []) x.0)
          (print_expr x.1) (print_block (map print_stmt b))) h))
          (and-true (all_of header_simple x.0) (header_expr x.1 && stmts_good (map stmt_form b)) f
          (and-true (header_expr x.1) (stmts_good (map stmt_form b)) g k)) (λ y. refl)
      at x b us h f g k (Some vs) e = by (is_branch vs) refl
        where
          by : (y : Bool) → is_branch vs ≡ y → Keeps Sound One
              (cond y (Ask OfStmt vs (λ s. just (st.IfElse t.line x.0 x.1 b s.0) s.1)) (Done None))
          by false q = tt
          by true q = λ s r.
              let opt = optional (λ y. print_simple y ++ words.punctuation punctuations.Semicolon ∷ []) x.0 in
              let blk = print_block (map print_stmt b) in
              let els = words.keyword keywords.Else ∷ print_stmt s.0 in
              let all = join h (keyword-then keywords.Else us e r.words) in
              made (st.IfElse t.line x.0 x.1 b s.0) s.1 _ _ (shape.print-IfElse t.line x.0 x.1 b s.0)
              (shape.form-IfElse t.line x.0 x.1 b s.0)
              (kind-then t _ is (subst (λ ws. Spelt ws ts s.1)
              (append_assoc (opt ++ print_expr x.1) blk els ∙ append_assoc opt (print_expr x.1) (blk ++ els)) all))
              (and-true (all_of header_simple x.0)
              (header_expr x.1 && (stmts_good (map stmt_form b)
              && ((stmt_form s.0).good && (stmt_form s.0).branch))) f
              (and-true (header_expr x.1) (stmts_good (map stmt_form b)
              && ((stmt_form s.0).good && (stmt_form s.0).branch)) g
              (and-true (stmts_good (map stmt_form b)) ((stmt_form s.0).good && (stmt_form s.0).branch) k
              (and-true (stmt_form s.0).good (stmt_form s.0).branch r.good (r.branch q))))) (λ y. refl)

  for-keeps : t.kind ≡ kinds.Keyword keywords.For → Keeps Sound One (for_plan t.line ts)
  for-keeps is = keeps-given Sound One (header_at ts) (λ h. block h.1 (λ b. just (st.For t.line h.0 b.0) b.1)) (λ h e.
      let c = header-sound ts h e in
      block-keeps Stmt One h.1 (λ b. just (st.For t.line h.0 b.0) b.1) (λ b k.
      made (st.For t.line h.0 b.0) b.1 _ _ (shape.print-For t.line h.0 b.0) (shape.form-For t.line h.0 b.0)
      (kind-then t _ is (join c.words k.words))
      (and-true (header_good h.0) (stmts_good (map stmt_form b.0)) c.good k.good)
      (no-branch keywords.For false is refl)))

  select-keeps : t.kind ≡ kinds.Keyword keywords.Select → Keeps Sound One (select_plan t.line ts)
  select-keeps is = keeps-given Sound One (after punctuations.OpenBrace ts)
      (λ us. Ask (Clauses false []) us (λ c. just (st.Select t.line c.0) c.1)) (λ us e c r.
      let few = r.few in
      subst (λ (q : List Clause). One (st.Select t.line q, c.1)) (sym r.are)
      (made (st.Select t.line r.more) c.1 _ _ (shape.print-Select t.line r.more) (shape.form-Select t.line r.more)
      (kind-then t _ is (punctuation-then punctuations.OpenBrace ts e
      (join r.words (punctuation-then punctuations.CloseBrace r.mid r.close nothing))))
      (and-true (list_all (λ c. c.good) (map clause_form r.more)) (nat_le (defaults (map clause_form r.more)) 1) r.good
      (le-true (defaults (map clause_form r.more)) 1 (omega arith))) (no-branch keywords.Select false is refl)))

  keyword-keeps : (k : Keyword) → t.kind ≡ kinds.Keyword k → Keeps Sound One (keyword_plan t.line k ts (t ∷ ts))
  keyword-keeps keywords.Var is = found-keeps One (var_at t.line ts >>= λ v. Some (st.Var v.0, v.1)) (λ x e.
      let a = bind_some (var_at t.line ts) (λ v. Some (st.Var v.0, v.1)) x e in
      let k = var-sound t ts a.0 is a.1 in
      subst One (some-same (st.Var a.0.0, a.0.1) x a.2) (record {
        words = subst (λ ws. Spelt ws (t ∷ ts) a.0.1) (sym (shape.print-Var a.0.0)) k.words;
        good = ap (λ (y : StmtForm). y.good) (shape.form-Var a.0.0) ∙ k.good;
        branch = no-branch keywords.Var _ is refl;
      }))
  keyword-keeps keywords.Go is = found-keeps One (call_at ts >>= λ c. Some (st.Go t.line c.0.0 c.0.1, c.1)) (λ x e.
      let a = bind_some (call_at ts) (λ c. Some (st.Go t.line c.0.0 c.0.1, c.1)) x e in
      let k = call-sound ts a.0 a.1 in
      subst One (some-same (st.Go t.line a.0.0.0 a.0.0.1, a.0.1) x a.2)
      (made (st.Go t.line a.0.0.0 a.0.0.1) a.0.1 _ _ (shape.print-Go t.line a.0.0.0 a.0.0.1)
      (shape.form-Go t.line a.0.0.0 a.0.0.1) (kind-then t _ is k.words) k.good
      (no-branch keywords.Go false is refl)))
  keyword-keeps keywords.Defer is = found-keeps One (call_at ts >>= λ c. Some (st.Defer t.line c.0.0 c.0.1, c.1))
      (λ x e.
      let a = bind_some (call_at ts) (λ c. Some (st.Defer t.line c.0.0 c.0.1, c.1)) x e in
      let k = call-sound ts a.0 a.1 in
      subst One (some-same (st.Defer t.line a.0.0.0 a.0.0.1, a.0.1) x a.2)
      (made (st.Defer t.line a.0.0.0 a.0.0.1) a.0.1 _ _ (shape.print-Defer t.line a.0.0.0 a.0.0.1)
      (shape.form-Defer t.line a.0.0.0 a.0.0.1) (kind-then t _ is k.words) k.good
      (no-branch keywords.Defer false is refl)))
  keyword-keeps keywords.Return is = returned-keeps is (expr_at (Level false 1) ts) refl
  keyword-keeps keywords.Break is = made (st.Break t.line) ts _ _ (shape.print-Break t.line) (shape.form-Break t.line)
      (kind-then t _ is nothing) refl (no-branch keywords.Break false is refl)
  keyword-keeps keywords.Continue is = made (st.Continue t.line) ts _ _ (shape.print-Continue t.line)
      (shape.form-Continue t.line) (kind-then t _ is nothing) refl (no-branch keywords.Continue false is refl)
  keyword-keeps keywords.If is = if-keeps is
  keyword-keeps keywords.For is = for-keeps is
  keyword-keeps keywords.Select is = select-keeps is
  keyword-keeps _ is = simple-keeps (ap is_branch_kind is)

  punctuation-keeps : (m : Punctuation) → t.kind ≡ kinds.Punctuation m
      → Keeps Sound One (kind_plan t.line (kinds.Punctuation m) ts (t ∷ ts))
  punctuation-keeps punctuations.OpenBrace is =
      body-keeps Stmt One (t ∷ ts) ts (kind-then t _ is nothing) (λ b. just (st.Block t.line b.0) b.1) (λ b k.
      made (st.Block t.line b.0) b.1 _ _ (shape.print-Block t.line b.0) (shape.form-Block t.line b.0) k.words k.good
      (λ y. refl)) (after punctuations.CloseBrace ts) refl
  punctuation-keeps _ is = simple-keeps (ap is_branch_kind is)

  kind-keeps : (k : TokenKind) → t.kind ≡ k → Keeps Sound One (kind_plan t.line k ts (t ∷ ts))
  kind-keeps (kinds.Keyword k) is = keyword-keeps k is
  kind-keeps (kinds.Punctuation m) is = punctuation-keeps m is
  kind-keeps _ is = simple-keeps (ap is_branch_kind is)

body-behind-keeps : (done : List Stmt) (ts : List Token) (s : Stmt × List Token) → IsStmt ts s
    → (o : Option (List Token)) → after punctuations.Semicolon s.1 ≡ o
    → Keeps Sound (Sound (Body done) ts) (body_behind (done ++ s.0 ∷ []) s.1 o)
body-behind-keeps done ts s k None e = keeps-given Sound (Sound (Body done) ts) (after punctuations.CloseBrace s.1)
    (just (done ++ s.0 ∷ [])) (λ us c.
    record {
      first = s.0;
      more = [];
      are = refl;
      good = and-true (stmt_form s.0).good true k.good refl;
      mid = s.1;
      words = join k.words nothing;
      close = c;
    })
body-behind-keeps done ts s k (Some us) e = λ y r.
    record {
      first = s.0;
      more = r.first ∷ r.more;
      are = r.are ∙ append_assoc done (s.0 ∷ []) (r.first ∷ r.more);
      good = and-true (stmt_form s.0).good (stmts_good (map stmt_form (r.first ∷ r.more))) k.good r.good;
      mid = r.mid;
      words = join k.words (punctuation-then punctuations.Semicolon s.1 e r.words);
      close = r.close;
    }

case-behind-keeps : (done : List Stmt) (ts : List Token) (s : Stmt × List Token) → IsStmt ts s
    → (o : Option (List Token)) → after punctuations.Semicolon s.1 ≡ o
    → Keeps Sound (Sound (CaseBody done) ts) (case_behind (done ++ s.0 ∷ []) s.1 o)
case-behind-keeps done ts s k None e = keeps-given Sound (Sound (CaseBody done) ts) (after punctuations.CloseBrace s.1)
    (λ us. just (done ++ s.0 ∷ []) s.1) (λ us c.
    record {
      more = s.0 ∷ [];
      are = refl;
      good = and-true (stmt_form s.0).good true k.good refl;
      ended = inr (record {
        first = s.0;
        others = [];
        are = refl;
        behind = us;
        close = c;
        words = join k.words nothing;
      });
    })
case-behind-keeps done ts s k (Some us) e = λ y r.
    record {
      more = s.0 ∷ r.more;
      are = r.are ∙ append_assoc done (s.0 ∷ []) r.more;
      good = and-true (stmt_form s.0).good (stmts_good (map stmt_form r.more)) k.good r.good;
      ended = at r.more y.1 r.ended;
    }
  where
    at : (more : List Stmt) (rest : List Token) → BeforeClause more us rest ⊎ BeforeBrace more us rest
        → BeforeClause (s.0 ∷ more) ts rest ⊎ BeforeBrace (s.0 ∷ more) ts rest
    at more rest (inl b) = inl (record {
      next = b.next;
      words = join k.words (punctuation-then punctuations.Semicolon s.1 e b.words);
    })
    at more rest (inr b) = inr (record {
      first = s.0;
      others = b.first ∷ b.others;
      are = ap (λ q. s.0 ∷ q) b.are;
      behind = b.behind;
      close = b.close;
      words =
          join k.words (punctuation-then punctuations.Semicolon s.1 e b.words);
    })

-- no clause begins at a brace
pub exclusive : (ts us : List Token) → begins_clause ts ≡ true → after punctuations.CloseBrace ts ≡ Some us → ⊥
exclusive [] us b c = absurd (never b)
  where
    never : false ≡ true → ⊥
    never e = cc
exclusive (t ∷ ts) us b c = at t.kind b c
  where
    at : (k : TokenKind) → begins_kind k ≡ true → after_kind punctuations.CloseBrace k ts ≡ Some us → ⊥
    at (kinds.Keyword w) b c = cc
    at (kinds.Punctuation m) b c = absurd (never b)
      where
        never : false ≡ true → ⊥
        never e = cc
    at _ b c = cc

-- what stands after the colon of a clause
module _ (seen : Bool) (done : List Clause) (ts : List Token) (l : ℕ) where
  -- a clause and those after it
  record Head (wrap : List Stmt → Clause) (opening : List Word) (good default : Bool) : Type 0 where
    words : (b : List Stmt) → print_clause (wrap b) ≡ record { opening = opening; body = map print_stmt b }
    form : (b : List Stmt) → clause_form (wrap b)
        ≡ record { default = default; good = good && stmts_good (map stmt_form b) }

  -- the words of a clause before others, and of the last one
  front-words : (wrap : List Stmt → Clause) (opening : List Word) (good default : Bool) → Head wrap opening good default
      → (b : List Stmt) (c : Clause) (cs : List Clause) →
      clauses (map print_clause (wrap b ∷ c ∷ cs)) ≡ opening
      ++ (closed (map print_stmt b) ++ clauses (map print_clause (c ∷ cs)))
  front-words wrap opening good default k b c cs =
      ap (λ (w : ClauseWords). w.opening ++ (closed w.body ++ clauses (map print_clause (c ∷ cs)))) (k.words b)

  last-words : (wrap : List Stmt → Clause) (opening : List Word) (good default : Bool) → Head wrap opening good default
      → (b : List Stmt) → clauses (map print_clause (wrap b ∷ [])) ≡ opening
      ++ separated punctuations.Semicolon (map print_stmt b)
  last-words wrap opening good default k b =
      ap (λ (w : ClauseWords). w.opening ++ separated punctuations.Semicolon w.body) (k.words b)

  -- a clause with its statements, before the clauses that were read after it
  cons : (wrap : List Stmt → Clause) (opening : List Word) (default : Bool) → Head wrap opening true default
      → (later : Bool) → (cond later 1 0 ≡ cond seen 1 0 + cond default 1 0) → begins_clause ts ≡ true →
      (us rest : List Token) → Spelt opening ts us → (b : List Stmt) → stmts_good (map stmt_form b) ≡ true
      → BeforeClause b us rest ⊎ ((Spelt (separated punctuations.Semicolon (map print_stmt b)) us rest)
      × ((vs : List Token) × (after punctuations.CloseBrace rest ≡ Some vs))) →
      (x : List Clause × List Token) → ClausesRead later (done ++ wrap b ∷ []) rest x → ClausesRead seen done ts x
  cons wrap opening default k later count beg us rest h b g ended x r =
      at r.more r.are r.good r.few r.begun r.mid r.words r.close ended
    where
      at : (more : List Clause) → x.0 ≡ (done ++ wrap b ∷ []) ++ more
          → list_all (λ c. c.good) (map clause_form more) ≡ true → cond later 1 0 + defaults (map clause_form more) ≤ 1
          → Begun more rest → (mid : List Token) → Spelt (clauses (map print_clause more)) rest mid
          → after punctuations.CloseBrace mid ≡ Some x.1 →
          BeforeClause b us rest ⊎ ((Spelt (separated punctuations.Semicolon (map print_stmt b)) us rest)
          × ((vs : List Token) × (after punctuations.CloseBrace rest ≡ Some vs))) → ClausesRead seen done ts x
      at [] are good few begun mid w close (inl n) = absurd (exclusive rest begun.0 n.next begun.1)
      at (c ∷ cs) are good few begun mid w close (inr n) = absurd (exclusive rest n.1.0 begun n.1.1)
      at [] are good few begun mid w close (inr n) =
          let d = ap {B = ℕ} (λ (f : ClauseForm). cond f.default 1 0) (k.form b) in
          record {
            more = wrap b ∷ [];
            are = are ∙ append_assoc done (wrap b ∷ []) [];
            good = and-true (clause_form (wrap b)).good true (ap (λ (f : ClauseForm). f.good) (k.form b) ∙ g) refl;
            few = omega (arith, d, count);
            begun = beg;
            mid = rest;
            words = subst (λ ws. Spelt ws ts rest) (sym (last-words wrap opening true default k b)) (join h n.0);
            close = subst (λ q. after punctuations.CloseBrace q ≡ Some x.1) (sym w.are) close;
          }
      at (c ∷ cs) are good few begun mid w close (inl n) =
          let d = ap {B = ℕ} (λ (f : ClauseForm). cond f.default 1 0) (k.form b) in
          record {
            more = wrap b ∷ c ∷ cs;
            are = are ∙ append_assoc done (wrap b ∷ []) (c ∷ cs);
            good = and-true (clause_form (wrap b)).good (list_all (λ c. c.good) (map clause_form (c ∷ cs)))
                (ap (λ (f : ClauseForm). f.good) (k.form b) ∙ g) good;
            few = omega (arith, d, count);
            begun = beg;
            mid = mid;
            words = subst (λ ws. Spelt ws ts mid) (sym (front-words wrap opening true default k b c cs))
                (join h (join n.words w));
            close = close;
          }

  clause-keeps : (wrap : List Stmt → Clause) (opening : List Word) (default : Bool)
      → Head wrap (opening ++ words.punctuation punctuations.Colon ∷ []) true default → (later : Bool)
      → (cond later 1 0 ≡ cond seen 1 0 + cond default 1 0) → begins_clause ts ≡ true →
      (us : List Token) → Spelt opening ts us
      → Keeps Sound (Sound (Clauses seen done) ts) (clause_plan later done wrap us)
  clause-keeps wrap opening default k later count beg us h =
      keeps-given Sound (Sound (Clauses seen done) ts) (after punctuations.Colon us)
      (λ vs. clause_body later done wrap vs (after punctuations.CloseBrace vs))
      (λ vs e. at vs (join h (punctuation-then punctuations.Colon us e nothing))
      (after punctuations.CloseBrace vs) refl)
    where
      at : (vs : List Token) → Spelt (opening ++ words.punctuation punctuations.Colon ∷ []) ts vs
          → (o : Option (List Token)) → after punctuations.CloseBrace vs ≡ o
          → Keeps Sound (Sound (Clauses seen done) ts) (clause_body later done wrap vs o)
      at vs w (Some qs) e = λ x r. cons wrap _ default k later count beg vs vs w [] refl (inr (nothing, (qs, e))) x r
      at vs w None e = λ b r x s. cons wrap _ default k later count beg vs b.1 w b.0
          (ap (λ q. stmts_good (map stmt_form q)) r.are ∙ r.good) (by b r r.ended) x s
        where
          by : (b : List Stmt × List Token) (r : CaseRead [] vs b) → BeforeClause r.more vs b.1
              ⊎ BeforeBrace r.more vs b.1 → BeforeClause b.0 vs b.1
              ⊎ ((Spelt (separated punctuations.Semicolon (map print_stmt b.0)) vs b.1)
              × ((qs : List Token) × (after punctuations.CloseBrace b.1 ≡ Some qs)))
          by b r (inl n) = inl (subst (λ q. BeforeClause q vs b.1) (sym r.are) n)
          by b r (inr n) = inr (
            subst (λ q. Spelt (separated punctuations.Semicolon (map print_stmt q)) vs b.1)
                (sym (r.are ∙ n.are)) n.words,
            (n.behind, n.close),
          )

module _ (seen : Bool) (done : List Clause) (t : Token) (ts : List Token) where
  abbrev Kept : List Clause × List Token → Type 0
  Kept x = ClausesRead seen done (t ∷ ts) x

  default-keeps : t.kind ≡ kinds.Keyword keywords.Default → (b : Bool) → seen ≡ b
      → Keeps Sound Kept (cond b (Done None) (clause_plan true done (cl.Default t.line) ts))
  default-keeps is true e = tt
  default-keeps is false e =
      clause-keeps seen done (t ∷ ts) t.line (cl.Default t.line)
      (on_line t.line (words.keyword keywords.Default ∷ [])) true
      (record { words = shape.print-Default t.line; form = shape.form-Default t.line }) true
      (ap {B = ℕ} (λ b. cond b 1 0 + 1) (sym e)) (ap begins_kind is) ts
      (on-line-then _ t ts ts (kind-then t _ is nothing))

  case-keyword-keeps : (k : Keyword) → t.kind ≡ kinds.Keyword k
      → Keeps Sound Kept (clauses_from seen done t.line (kinds.Keyword k) ts)
  case-keyword-keeps keywords.Case is = keeps-given Sound Kept (comm_at ts)
      (λ c. clause_plan seen done (cl.Case t.line c.0) c.1) (λ c e.
      let k = comm-sound ts c e in
      clause-keeps seen done (t ∷ ts) t.line (cl.Case t.line c.0)
      (on_line t.line (words.keyword keywords.Case ∷ print_comm c.0)) false
      (record {
        words = λ b. shape.print-Case t.line c.0 b;
        form = λ b. shape.form-Case t.line c.0 b
            ∙ ap (λ g. record { default = false; good = g && stmts_good (map stmt_form b) }) k.good;
      }) seen
      (add-none (cond seen 1 0)) (ap begins_kind is)
      c.1 (on-line-then _ t ts c.1 (kind-then t _ is k.words)))
    where
      add-none : (n : ℕ) → n ≡ n + 0
      add-none n = omega arith
  case-keyword-keeps keywords.Default is = default-keeps is seen refl
  case-keyword-keeps _ is = tt

  clause-punctuation-keeps : (m : Punctuation) → t.kind ≡ kinds.Punctuation m
      → Keeps Sound Kept (clauses_from seen done t.line (kinds.Punctuation m) ts)
  clause-punctuation-keeps punctuations.CloseBrace is =
      let close : after punctuations.CloseBrace (t ∷ ts) ≡ Some ts =
      ap (λ k. after_kind punctuations.CloseBrace k ts) is in
      record {
        more = [];
        are = sym (append-nil done);
        good = refl;
        few = at-most seen;
        begun = (ts, close);
        mid = t
            ∷ ts;
        words = nothing;
        close = close;
      }
    where
      append-nil : (xs : List Clause) → xs ++ [] ≡ xs
      append-nil [] = refl
      append-nil (x ∷ xs) = ap (λ ys. x ∷ ys) (append-nil xs)

      at-most : (b : Bool) → cond b 1 0 + 0 ≤ 1
      at-most true = omega arith
      at-most false = omega arith
  clause-punctuation-keeps _ is = tt

  clauses-keeps : (k : TokenKind) → t.kind ≡ k → Keeps Sound Kept (clauses_from seen done t.line k ts)
  clauses-keeps (kinds.Keyword k) is = case-keyword-keeps k is
  clauses-keeps (kinds.Punctuation m) is = clause-punctuation-keeps m is
  clauses-keeps _ is = tt

case-keeps : (done : List Stmt) (ts : List Token) (b : Bool) → begins_clause ts ≡ b
    → Keeps Sound (Sound (CaseBody done) ts)
    (cond b (just done ts) (Ask OfStmt ts (λ s. case_behind (done ++ s.0 ∷ []) s.1 (after punctuations.Semicolon s.1))))
case-keeps done ts true e = record {
  more = [];
  are = sym (append-nil done);
  good = refl;
  ended = inl (record { next = e; words = nothing });
}
  where
    append-nil : (xs : List Stmt) → xs ++ [] ≡ xs
    append-nil [] = refl
    append-nil (x ∷ xs) = ap (λ ys. x ∷ ys) (append-nil xs)
case-keeps done ts false e = λ s k. case-behind-keeps done ts s k (after punctuations.Semicolon s.1) refl

plan-sound : (m : StatementMode) (ts : List Token) → Keeps Sound (Sound m ts) (stmt_plan m ts)
plan-sound OfStmt [] = tt
plan-sound OfStmt (t ∷ ts) = kind-keeps t ts t.kind refl
plan-sound (Body done) ts = λ s k. body-behind-keeps done ts s k (after punctuations.Semicolon s.1) refl
plan-sound (Clauses seen done) [] = tt
plan-sound (Clauses seen done) (t ∷ ts) = clauses-keeps seen done t ts t.kind refl
plan-sound (CaseBody done) ts = case-keeps done ts (begins_clause ts) refl

-- what is read is a statement
pub stmt-sound : (ts : List Token) (x : Stmt × List Token) → stmt_at OfStmt ts ≡ Some x → IsStmt ts x
unfolding stmt_at
stmt-sound ts x e = reads-keeps Token StatementMode StatementTree stmt_plan Sound plan-sound
    (suc (2 * length ts + 0)) OfStmt ts x e

pub body-sound : (ts : List Token) (x : List Stmt × List Token) → stmt_at (Body []) ts ≡ Some x → BodyRead [] ts x
unfolding stmt_at
body-sound ts x e = reads-keeps Token StatementMode StatementTree stmt_plan Sound plan-sound (suc (2 * length ts + 1))
    (Body []) ts x e
