-- A statement is read as its plan says, and reading it leaves fewer tokens.
-- For: `stmt_at`, `stmt_plan` (golf_syntax_statements/specs/StatementReader.antt)
-- By: induction over the list of words that are spelt; otherwise cases of the first token
use Rattle.std.proofs.Common.{◌≡◌, ℕ, suc, ◌+◌, ◌*◌, ◌≤◌, ◌<◌, Bool, true, false, cond, List, [], ◌∷◌, ◌++◌, length}
use Rattle.std.proofs.Common.{refl, ap, subst, arith}
use Rattle.std.specs.Prelude.{Option, Some, None}
use Rattle.golf_lex_tokens.specs.declared.token.Token.{Token}
use Rattle.golf_lex_tokens.specs.declared.token.TokenKind.{TokenKind}
use Rattle.golf_lex_tokens.specs.declared.token.TokenKind.TheVariants as kinds
use Rattle.golf_lex_tokens.specs.declared.token.Punctuation.{Punctuation}
use Rattle.golf_lex_tokens.specs.declared.token.Punctuation.TheVariants as punctuations
use Rattle.golf_lex_tokens.specs.declared.token.Keyword.{Keyword}
use Rattle.golf_lex_tokens.specs.declared.token.Keyword.TheVariants as keywords
use Rattle.golf_syntax_trees.specs.declared.expressions.Expr.{Expr}
use Rattle.golf_syntax_trees.specs.declared.statements.Simple.{Simple}
use Rattle.golf_syntax_trees.specs.declared.statements.Var.{Var}
use Rattle.golf_syntax_trees.specs.declared.statements.Stmt.{Stmt}
use Rattle.golf_syntax_trees.specs.declared.statements.Stmt.TheVariants as st
use Rattle.golf_syntax_trees.specs.declared.statements.Clause.{Clause}
use Rattle.golf_syntax_trees.specs.declared.statements.Clause.TheVariants as cl
use Rattle.golf_syntax_trees.specs.Words.{Word, on_line}
use Rattle.golf_syntax_trees.specs.Simple.{print_simple_kind}
use Rattle.golf_syntax_expressions.specs.Plan.{◌>>=◌, Done, Ask, run}
use Rattle.golf_syntax_expressions.specs.Front.{after, after_keyword, name_at}
use Rattle.golf_syntax_expressions.specs.ExpressionReader.{Level, Prefixed, expr_at}
use Rattle.golf_syntax_expressions.specs.SimpleStatementReader.{simple_at}
use Rattle.golf_syntax_expressions.proofs.Plans.{bind_some, Leaves, Within, within-given, whole-is, whole-leaves}
use Rattle.golf_syntax_expressions.proofs.Fronts.{some-same, Spelt, after-shorter, keyword-shorter, name-shorter}
use Rattle.golf_syntax_expressions.proofs.ExprSound.{prefixed-is-sound, expr-sound}
use Rattle.golf_syntax_expressions.proofs.SimpleLines.{Unlined, unlined-kind, simple-sound}
use Rattle.golf_syntax_statements.specs.VariableReader.{content_at, var_at}
use Rattle.golf_syntax_statements.specs.HeaderReader.{Test, test_at, header_at}
use Rattle.golf_syntax_statements.specs.CommunicationReader.{comm_at}
use Rattle.golf_syntax_statements.specs.StatementReader.{StatementMode, OfStmt, Body, Clauses, CaseBody, StatementTree}
use Rattle.golf_syntax_statements.specs.StatementReader.{StmtPlan, just, GoesFrom}
use Rattle.golf_syntax_statements.specs.StatementReader.{body, block, call_of, call_at, returned, is_branch, else_plan}
use Rattle.golf_syntax_statements.specs.StatementReader.{if_plan, for_plan, select_plan, simple_plan, keyword_plan}
use Rattle.golf_syntax_statements.specs.StatementReader.{kind_plan, body_behind, case_behind, begins_clause}
use Rattle.golf_syntax_statements.specs.StatementReader.{clause_body}
use Rattle.golf_syntax_statements.specs.StatementReader.{clause_plan, clauses_from, stmt_plan, rank, stmt_at}
use Rattle.golf_syntax_statements.proofs.VarLaws.{content-sound}
use Rattle.golf_syntax_statements.proofs.HeaderLaws.{test-sound, header-sound}
use Rattle.golf_syntax_statements.proofs.CommLaws.{comm-sound}

-- words leave no more than there was
spelt-length : (ws : List Word) (ts rest : List Token) → Spelt ws ts rest → length rest + length ws ≡ length ts
spelt-length [] ts rest h = let e : length ts ≡ length rest = ap length h.are in omega arith
spelt-length (w ∷ ws) [] rest h = absurd h.are
spelt-length (w ∷ ws) (t ∷ ts) rest h = let e = spelt-length ws ts rest (record { are = h.are.1 }) in omega arith

pub spelt-within : (ws : List Word) (ts rest : List Token) → Spelt ws ts rest → length rest ≤ length ts
spelt-within ws ts rest h = let e = spelt-length ws ts rest h in omega arith

abbrev size : StatementMode → List Token → ℕ
size m ts = 2 * length ts + rank m

abbrev pub gap : StatementMode → ℕ
gap OfStmt = 1
gap (Body done) = 1
gap (Clauses seen done) = 1
gap (CaseBody done) = 0

abbrev Fits : {A : Type 0} → ℕ → ℕ → ℕ → StmtPlan A → Type 0
Fits bound g all p = Within size gap bound g all p

-- what is found without asking leaves so much less
leaves-bind : {A X : Type 0} (g all : ℕ) (o : Option X) (f : X → Option (A × List Token))
    → ((x : X) → o ≡ Some x → Leaves g all (f x)) → Leaves g all (o >>= f)
leaves-bind g all None f k = tt
leaves-bind g all (Some x) f k = k x refl

body-fits : (A : Type 0) (bound g all : ℕ) (ts : List Token) (more : GoesFrom A) → 2 * length ts + 1 < bound
    → ((x : List Stmt × List Token) → length x.1 ≤ length ts → Fits bound g all (more x)) → (o : Option (List Token))
    → after punctuations.CloseBrace ts ≡ o → Fits bound g all (body ts o more)
body-fits A bound g all ts more h k (Some us) e = let q =
    after-shorter punctuations.CloseBrace ts us e in k ([], us) (omega arith)
body-fits A bound g all ts more h k None e = (omega arith, λ x l. k x (omega arith))

block-fits : (A : Type 0) (bound g all : ℕ) (ts : List Token) (more : GoesFrom A) → 2 * length ts < bound
    → ((x : List Stmt × List Token) → suc (length x.1) ≤ length ts → Fits bound g all (more x))
    → Fits bound g all (block ts more)
block-fits A bound g all ts more h k = within-given size gap bound g all (after punctuations.OpenBrace ts)
    (λ us. body us (after punctuations.CloseBrace us) more) (λ us e.
    let q = after-shorter punctuations.OpenBrace ts us e in body-fits A bound g all us more (omega arith)
    (λ x l. k x (omega arith)) (after punctuations.CloseBrace us) refl)

var-within : (l : ℕ) (ts : List Token) (x : Var × List Token) → var_at l ts ≡ Some x → length x.1 ≤ length ts
unfolding var_at
var-within l ts x e =
    let a = bind_some (name_at ts) (λ n. content_at n.1 >>= λ c. Some
    (record { line = l; name = n.0; content = c.0 }, c.1)) x e in
    let b = bind_some (content_at a.0.1) (λ c. Some (record { line = l; name = a.0.0; content = c.0 }, c.1)) x a.2 in
    let n = name-shorter ts a.0.1 a.0.0 a.1 in
    let w = spelt-within _ a.0.1 b.0.1 (content-sound a.0.1 b.0 b.1).words in
    let s : length b.0.1 ≡ length x.1 = ap (λ (y : Var × List Token). length y.1)
    (some-same (record { line = l; name = a.0.0; content = b.0.0 }, b.0.1) x b.2) in
    omega arith

call-within : (ts : List Token) (x : (Expr × List Expr) × List Token) → call_at ts ≡ Some x → length x.1 ≤ length ts
unfolding call_at
call-within ts x e =
    let a = bind_some (expr_at (Prefixed false) ts) (λ e. call_of e.0 >>= λ c. Some (c, e.1)) x e in
    let b = bind_some (call_of a.0.0) (λ c. Some (c, a.0.1)) x a.2 in
    let w = spelt-within _ ts a.0.1 (prefixed-is-sound false ts a.0 a.1).words in
    let s : length a.0.1 ≡ length x.1 = ap (λ (y : (Expr × List Expr) × List Token). length y.1)
    (some-same (b.0, a.0.1) x b.2) in
    omega arith

unlined-shorter : (l : ℕ) (ws : List Word) (ts rest : List Token) → Unlined ws → Spelt (on_line l ws) ts rest
    → suc (length rest) ≤ length ts
unlined-shorter l ws ts rest u h = let e =
    spelt-length (on_line l (u.first ∷ u.more)) ts rest
    (subst (λ vs. Spelt (on_line l vs) ts rest) u.are h) in omega arith

simple-shorter : (header : Bool) (ts : List Token) (x : Simple × List Token) → simple_at header ts ≡ Some x
    → suc (length x.1) ≤ length ts
simple-shorter header ts x e = unlined-shorter x.0.line (print_simple_kind x.0.kind) ts x.1 (unlined-kind x.0.kind)
    (simple-sound header ts x e).words

module _ (l : ℕ) (t : Token) (ts : List Token) where
  abbrev FitsOne : StmtPlan Stmt → Type 0
  FitsOne p = Fits (2 * suc (length ts) + 0) 1 (suc (length ts)) p

  simple-fits : FitsOne (simple_plan (t ∷ ts))
  simple-fits = leaves-bind 1 (suc (length ts)) (simple_at false (t ∷ ts)) (λ x. Some (st.Simple x.0, x.1))
      (λ x e. let s = simple-shorter false (t ∷ ts) x e in omega arith)

  returned-fits : (o : Option (Expr × List Token)) → expr_at (Level false 1) ts ≡ o
      → Leaves 1 (suc (length ts)) (returned l ts o)
  returned-fits None e = omega arith
  returned-fits (Some x) e = let w = spelt-within _ ts x.1 (expr-sound false ts x e).words in omega arith

  else-fits : (x : Test) (done : List Stmt) (us : List Token) → length us ≤ length ts → (o : Option (List Token))
      → after_keyword keywords.Else us ≡ o → FitsOne (else_plan l x done us o)
  else-fits x done us h None e = omega arith
  else-fits x done us h (Some vs) e = let q = keyword-shorter keywords.Else us vs e in at q (is_branch vs)
    where
      at : suc (length vs) ≡ length us → (b : Bool)
          → FitsOne (cond b (Ask OfStmt vs (λ s. just (st.IfElse l x.0 x.1 done s.0) s.1)) (Done None))
      at q true = (omega arith, λ y k. omega arith)
      at q false = tt

  if-fits : FitsOne (if_plan l ts)
  if-fits = within-given size gap _ 1 _ (test_at ts)
      (λ x. block x.1 (λ b. else_plan l x.0 b.0 b.1 (after_keyword keywords.Else b.1))) (λ x e.
      let w = spelt-within _ ts x.1 (test-sound ts x e).words in
      block-fits Stmt _ 1 _ x.1 (λ b. else_plan l x.0 b.0 b.1 (after_keyword keywords.Else b.1)) (omega arith)
      (λ b k. else-fits x.0 b.0 b.1 (omega arith) (after_keyword keywords.Else b.1) refl))

  for-fits : FitsOne (for_plan l ts)
  for-fits = within-given size gap _ 1 _ (header_at ts) (λ h. block h.1 (λ b. just (st.For l h.0 b.0) b.1)) (λ h e.
      let w = spelt-within _ ts h.1 (header-sound ts h e).words in
      block-fits Stmt _ 1 _ h.1 (λ b. just (st.For l h.0 b.0) b.1) (omega arith) (λ b k. omega arith))

  select-fits : FitsOne (select_plan l ts)
  select-fits = within-given size gap _ 1 _ (after punctuations.OpenBrace ts)
      (λ us. Ask (Clauses false []) us (λ c. just (st.Select l c.0) c.1)) (λ us e.
      let q = after-shorter punctuations.OpenBrace ts us e in (omega arith, λ c k. omega arith))

  keyword-fits : (k : Keyword) → FitsOne (keyword_plan l k ts (t ∷ ts))
  keyword-fits keywords.Var = leaves-bind 1 (suc (length ts)) (var_at l ts) (λ v. Some (st.Var v.0, v.1))
      (λ v e. let w = var-within l ts v e in omega arith)
  keyword-fits keywords.Go = leaves-bind 1 (suc (length ts)) (call_at ts) (λ c. Some (st.Go l c.0.0 c.0.1, c.1))
      (λ c e. let w = call-within ts c e in omega arith)
  keyword-fits keywords.Defer = leaves-bind 1 (suc (length ts)) (call_at ts) (λ c. Some (st.Defer l c.0.0 c.0.1, c.1))
      (λ c e. let w = call-within ts c e in omega arith)
  keyword-fits keywords.Return = returned-fits (expr_at (Level false 1) ts) refl
  keyword-fits keywords.Break = omega arith
  keyword-fits keywords.Continue = omega arith
  keyword-fits keywords.If = if-fits
  keyword-fits keywords.For = for-fits
  keyword-fits keywords.Select = select-fits
  keyword-fits _ = simple-fits

  punctuation-fits : (m : Punctuation) → FitsOne (kind_plan l (kinds.Punctuation m) ts (t ∷ ts))
  punctuation-fits punctuations.OpenBrace =
      body-fits Stmt _ 1 _ ts (λ b. just (st.Block l b.0) b.1) (omega arith) (λ x k. omega arith)
      (after punctuations.CloseBrace ts) refl
  punctuation-fits _ = simple-fits

  kind-fits : (k : TokenKind) → FitsOne (kind_plan l k ts (t ∷ ts))
  kind-fits (kinds.Keyword k) = keyword-fits k
  kind-fits (kinds.Punctuation m) = punctuation-fits m
  kind-fits _ = simple-fits

module _ (all : ℕ) where
  body-behind-fits : (done : List Stmt) (ts : List Token) → suc (length ts) ≤ all → (o : Option (List Token))
      → after punctuations.Semicolon ts ≡ o → Fits (2 * all + 1) 1 all (body_behind done ts o)
  body-behind-fits done ts h (Some us) e = let q =
      after-shorter punctuations.Semicolon ts us e in (omega arith, λ x k. omega arith)
  body-behind-fits done ts h None e = within-given size gap _ 1 _ (after punctuations.CloseBrace ts) (just done)
      (λ us f. let q = after-shorter punctuations.CloseBrace ts us f in omega arith)

  case-behind-fits : (done : List Stmt) (ts : List Token) → suc (length ts) ≤ all → (o : Option (List Token))
      → after punctuations.Semicolon ts ≡ o → Fits (2 * all + 1) 0 all (case_behind done ts o)
  case-behind-fits done ts h (Some us) e = let q =
      after-shorter punctuations.Semicolon ts us e in (omega arith, λ x k. omega arith)
  case-behind-fits done ts h None e = within-given size gap _ 0 _ (after punctuations.CloseBrace ts)
      (λ us. just done ts) (λ us f. omega arith)

  clause-body-fits : (seen : Bool) (done : List Clause) (wrap : List Stmt → Clause) (ts : List Token)
      → suc (length ts) ≤ all → (o : Option (List Token)) → after punctuations.CloseBrace ts ≡ o
      → Fits (2 * all + 0) 1 all (clause_body seen done wrap ts o)
  clause-body-fits seen done wrap ts h (Some us) e = (omega arith, λ x k. omega arith)
  clause-body-fits seen done wrap ts h None e = (omega arith, λ b k. (omega arith, λ y m. omega arith))

  clause-fits : (seen : Bool) (done : List Clause) (wrap : List Stmt → Clause) (ts : List Token) → suc (length ts) ≤ all
      → Fits (2 * all + 0) 1 all (clause_plan seen done wrap ts)
  clause-fits seen done wrap ts h = within-given size gap _ 1 _ (after punctuations.Colon ts)
      (λ us. clause_body seen done wrap us (after punctuations.CloseBrace us)) (λ us e.
      let q = after-shorter punctuations.Colon ts us e in clause-body-fits seen done wrap us (omega arith)
      (after punctuations.CloseBrace us) refl)

case-fits : (done : List Stmt) (ts : List Token) (b : Bool)
    → Fits (2 * length ts + 1) 0 (length ts)
    (cond b (just done ts) (Ask OfStmt ts (λ s. case_behind (done ++ s.0 ∷ []) s.1 (after punctuations.Semicolon s.1))))
case-fits done ts true = omega arith
case-fits done ts false = (
  omega arith,
  λ s k. case-behind-fits (length ts) (done ++ s.0 ∷ []) s.1 (omega arith)
      (after punctuations.Semicolon s.1) refl,
)

module _ (seen : Bool) (done : List Clause) (l : ℕ) (ts : List Token) where
  default-fits : (b : Bool) → Fits (2 * suc (length ts) + 0) 1 (suc (length ts))
      (cond b (Done None) (clause_plan true done (cl.Default l) ts))
  default-fits true = tt
  default-fits false = clause-fits (suc (length ts)) true done (cl.Default l) ts (omega arith)

  clause-keyword-fits : (k : Keyword) → Fits (2 * suc (length ts) + 0) 1 (suc (length ts))
      (clauses_from seen done l (kinds.Keyword k) ts)
  clause-keyword-fits keywords.Case = within-given size gap _ 1 _ (comm_at ts)
      (λ c. clause_plan seen done (cl.Case l c.0) c.1) (λ c e.
      let w = spelt-within _ ts c.1 (comm-sound ts c e).words in clause-fits (suc (length ts)) seen done
      (cl.Case l c.0) c.1 (omega arith))
  clause-keyword-fits keywords.Default = default-fits seen
  clause-keyword-fits _ = tt

  clause-punctuation-fits : (m : Punctuation)
      → Fits (2 * suc (length ts) + 0) 1 (suc (length ts)) (clauses_from seen done l (kinds.Punctuation m) ts)
  clause-punctuation-fits punctuations.CloseBrace = omega arith
  clause-punctuation-fits _ = tt

  clauses-fits : (k : TokenKind) → Fits (2 * suc (length ts) + 0) 1 (suc (length ts)) (clauses_from seen done l k ts)
  clauses-fits (kinds.Keyword k) = clause-keyword-fits k
  clauses-fits (kinds.Punctuation m) = clause-punctuation-fits m
  clauses-fits _ = tt

stmt-fits : (m : StatementMode) (ts : List Token) → Within size gap (size m ts) (gap m) (length ts) (stmt_plan m ts)
stmt-fits OfStmt [] = tt
stmt-fits OfStmt (t ∷ ts) = kind-fits t.line t ts t.kind
stmt-fits (Body done) ts = (
  omega arith,
  λ s k. body-behind-fits (length ts) (done ++ s.0 ∷ []) s.1 (omega arith) (after punctuations.Semicolon s.1) refl,
)
stmt-fits (Clauses seen done) [] = tt
stmt-fits (Clauses seen done) (t ∷ ts) = clauses-fits seen done t.line ts t.kind
stmt-fits (CaseBody done) ts = case-fits done ts (begins_clause ts)

-- what is read is what the plan finds
pub stmt-is : (m : StatementMode) (ts : List Token) → stmt_at m ts ≡ run stmt_at (stmt_plan m ts)
unfolding stmt_at
stmt-is m ts = whole-is Token StatementMode StatementTree stmt_plan size gap stmt-fits m ts

-- what is left is shorter
pub stmt-leaves : (m : StatementMode) (ts : List Token) → Leaves (gap m) (length ts) (stmt_at m ts)
unfolding stmt_at
stmt-leaves m ts = whole-leaves Token StatementMode StatementTree stmt_plan size gap stmt-fits m ts
