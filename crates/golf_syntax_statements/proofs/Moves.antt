-- Reading goes on as the plan of a statement says.
-- For: `move_at`, `waited` (golf_syntax_statements/specs/Moves.antt) and `stmt_move`, `read` (src/statements.rt)
-- By: induction over the list of what waits for the statement; otherwise cases of the next token
use Rattle.std.proofs.Common.{◌≡◌, ℕ, ◌+◌, ◌*◌, ◌<◌, arith, subst, length-append, Bool, true, false, cond, List, []}
use Rattle.std.proofs.Common.{◌∷◌, ◌++◌, length, refl, ap, sym, ◌∙◌}
use Rattle.std.specs.Prelude.{Option, Some, None, IfSome}
use Rattle.std.specs.Borrow.{Bor}
use Rattle.golf_lex_tokens.specs.declared.token.Token.{Token}
use Rattle.golf_lex_tokens.specs.declared.token.TokenKind.{TokenKind}
use Rattle.golf_lex_tokens.specs.declared.token.TokenKind.TheVariants as kinds
use Rattle.golf_lex_tokens.specs.declared.token.Punctuation.{Punctuation}
use Rattle.golf_lex_tokens.specs.declared.token.Punctuation.TheVariants as punctuations
use Rattle.golf_lex_tokens.specs.declared.token.Keyword.{Keyword}
use Rattle.golf_lex_tokens.specs.declared.token.Keyword.TheVariants as keywords
use Rattle.golf_syntax_trees.specs.declared.expressions.Expr.{Expr, out-roll-Expr}
use Rattle.golf_syntax_trees.specs.declared.expressions.Expr.TheVariants as ex
use Rattle.golf_syntax_trees.specs.declared.expressions.Expr.TheOpen as E
use Rattle.golf_syntax_trees.specs.declared.statements.Communication.{Communication}
use Rattle.golf_syntax_trees.specs.declared.statements.Header.{Header}
use Rattle.golf_syntax_trees.specs.declared.statements.Stmt.{Stmt, out-roll-Stmt}
use Rattle.golf_syntax_trees.specs.declared.statements.Stmt.TheVariants as st
use Rattle.golf_syntax_trees.specs.declared.statements.Clause.{Clause}
use Rattle.golf_syntax_trees.specs.declared.statements.Clause.TheVariants as cl
use Rattle.golf_syntax_trees.specs.declared.statements.Clause.TheOpen as F
use Rattle.golf_syntax_expressions.specs.Plan.{◌>>=◌, Done, Ask, run, given}
use Rattle.golf_syntax_expressions.specs.Front.{after, after_kind, after_keyword}
use Rattle.golf_syntax_expressions.proofs.Plans.{bind-assoc, bind-same, waits-last, waits-none, Leaves}
use Rattle.golf_syntax_statements.specs.CommunicationReader.{comm_at}
use Rattle.golf_syntax_statements.specs.HeaderReader.{Test, test_at, header_at}
use Rattle.golf_syntax_statements.specs.StatementReader.{OfStmt, Body, Clauses, CaseBody, found, just, body, block}
use Rattle.golf_syntax_statements.specs.StatementReader.{block_at, call_in, call_of, else_plan, if_plan, for_plan}
use Rattle.golf_syntax_statements.specs.StatementReader.{kind_plan, body_behind, case_behind, begins_clause}
use Rattle.golf_syntax_statements.specs.StatementReader.{clause_body}
use Rattle.golf_syntax_statements.specs.StatementReader.{clause_plan, clauses_from, stmt_at}
use Rattle.golf_syntax_statements.specs.declared.pending.Owner.{Owner}
use Rattle.golf_syntax_statements.specs.declared.pending.Owner.TheVariants as owners
use Rattle.golf_syntax_statements.specs.declared.pending.Select.{Select}
use Rattle.golf_syntax_statements.specs.declared.pending.Head.{Head}
use Rattle.golf_syntax_statements.specs.declared.pending.Pending.{Pending}
use Rattle.golf_syntax_statements.specs.declared.pending.Pending.TheVariants as pendings
use Rattle.golf_syntax_trees.proofs.Parts.{block_parts}
use Rattle.golf_syntax_statements.specs.declared.pending.Move.{Move}
use Rattle.golf_syntax_statements.specs.declared.pending.Move.TheVariants as moves
use Rattle.golf_syntax_statements.specs.Moves.{FoundStatement, moved, weight, move_at, owned, closed_at, body_at, grown}
use Rattle.golf_syntax_statements.specs.Moves.{selected, clause_at, case_at, headed_by, headed_at, colon_at}
use Rattle.golf_syntax_statements.specs.Moves.{selected_by, pending_at, waited, statements_in, statements_of}
use Rattle.golf_syntax_statements.proofs.StmtSteps.{stmt-is, stmt-leaves}

-- the last of those that wait goes on first
pub waited-last : (fs : List Pending) (f : Pending) (o : FoundStatement)
    → waited (fs ++ f ∷ []) o ≡ waited fs (o >>= pending_at f)
waited-last = waits-last pending_at

-- one move more
pub went-found : {s : Stmt} {o r : FoundStatement} (fs gs : List Pending) (f : Pending) (n : Move) (ts : List Token)
    → waited fs (move_at n ts) ≡ r → n ≡ moves.Found s → fs ≡ gs ++ f ∷ [] → o ≡ pending_at f (s, ts) → waited gs o ≡ r
went-found {s} fs gs f n ts i p q e =
    ap (waited gs) e ∙ sym (waited-last gs f (Some (s, ts)))
    ∙ ap (λ (hs : List Pending). waited hs (Some (s, ts))) (sym q)
    ∙ ap (λ (m : Move). waited fs (move_at m ts)) (sym p) ∙ i

pub went-done : (fs : List Pending) (n : Move) (s : Stmt) (ts : List Token) (r : FoundStatement)
    → waited fs (move_at n ts) ≡ r
    → n ≡ moves.Found s → fs ≡ [] → Some (s, ts) ≡ r
went-done fs n s ts r i p q = ap (λ (hs : List Pending). waited hs (Some (s, ts))) (sym q)
    ∙ ap (λ (m : Move). waited fs (move_at m ts)) (sym p) ∙ i

pub went-wait : (fs gs : List Pending) (f : Pending) (n : Move) (ts : List Token) (o r : FoundStatement)
    → waited fs (move_at n ts) ≡ r → n ≡ moves.Wait f → gs ≡ fs ++ f ∷ [] → o ≡ stmt_at OfStmt ts → waited gs o ≡ r
went-wait fs gs f n ts o r i p q e =
    ap (waited gs) e ∙ ap (λ (hs : List Pending). waited hs (stmt_at OfStmt ts)) q
    ∙ waited-last fs f (stmt_at OfStmt ts) ∙ ap (λ (m : Move). waited fs (move_at m ts)) (sym p) ∙ i

pub went-on : (fs : List Pending) (n m : Move) (ts : List Token) (o r : FoundStatement) → waited fs (move_at n ts) ≡ r
    → n ≡ m
    → o ≡ move_at m ts → waited fs o ≡ r
went-on fs n m ts o r i p e = ap (waited fs) e ∙ ap (λ (k : Move). waited fs (move_at k ts)) (sym p) ∙ i

pub waited-none : (fs : List Pending) → waited fs None ≡ None
waited-none = waits-none pending_at

-- the rest of statements in braces
pub body-goes : (o : Owner) (done : List Stmt) (ts : List Token)
    → (stmt_at (Body done) ts >>= closed_at o) ≡ (stmt_at OfStmt ts >>= pending_at (pendings.Body o done))
body-goes o done ts =
    ap (λ q. q >>= closed_at o) (stmt-is (Body done) ts)
    ∙ bind-assoc (stmt_at OfStmt ts) (λ s. run stmt_at
    (body_behind (done ++ s.0 ∷ []) s.1 (after punctuations.Semicolon s.1))) (closed_at o)
    ∙ bind-same (stmt_at OfStmt ts) _ _ (λ s. at (done ++ s.0 ∷ []) s.1 (after punctuations.Semicolon s.1))
  where
    close : (xs : List Stmt) (q : Option (List Token))
        → (run stmt_at (given q (just xs)) >>= closed_at o) ≡ (q >>= λ us. closed_at o (xs, us))
    close xs (Some us) = refl
    close xs None = refl

    at : (xs : List Stmt) (us : List Token) (q : Option (List Token))
        → (run stmt_at (body_behind xs us q) >>= closed_at o) ≡ body_at o xs us q
    at xs us (Some vs) = bind-assoc (stmt_at (Body xs) vs) (λ x. Some x) (closed_at o)
    at xs us None = close xs (after punctuations.CloseBrace us)

abbrev pub Next : Type 0
Next = Option (Move × Bor (List Token))

-- the same with what a move left under other names
pub went-so : (fs gs : List Pending) (o q : Next) (r : FoundStatement) → gs ≡ fs → q ≡ o → waited fs (moved o) ≡ r
    → waited gs (moved q) ≡ r
went-so fs gs o q r a b e = ap (λ (hs : List Pending). waited hs (moved q)) a ∙ ap (λ (x : Next). waited fs (moved x)) b
    ∙ e

-- nothing is found if a move finds nothing
pub went-nowhere : (fs : List Pending) (q : Next) (r : FoundStatement) → q ≡ None → waited fs (moved q) ≡ r → None ≡ r
went-nowhere fs q r n e = sym (waited-none fs) ∙ ap (λ (x : Next). waited fs (moved x)) (sym n) ∙ e

pub went-further : (fs : List Pending) (q : Next) (m : Move) (b : Bor (List Token)) (r : FoundStatement)
    → q ≡ Some (m, b)
    → waited fs (moved q) ≡ r → waited fs (move_at m b.now) ≡ r
went-further fs q m b r p e = ap (λ (x : Next). waited fs (moved x)) (sym p) ∙ e

-- the measure falls
pub less-than : (o q : Next) (m : Move) (b : Bor (List Token)) (bound : ℕ) → q ≡ Some (m, b) → q ≡ o
    → IfSome o (λ x. weight x.0 + 8 * length x.1.now < bound) → weight m + 8 * length b.now < bound
less-than o q m b bound p e h = let P : Next → Type 0 =
    λ y. IfSome y (λ x. weight x.0 + 8 * length x.1.now < bound) in subst P (sym e ∙ p) h

pub smaller-found : {gs ws : List Pending} {s : Stmt} (fs : List Pending) (f : Pending) (n m : Move) (ts : List Token)
    (b : Bor (List Token)) → n ≡ moves.Found s → fs ≡ gs ++ f ∷ [] → ws ≡ gs
    → weight m + 8 * length b.now < 8 * length ts + 3
    → weight m + 8 * length b.now + 3 * length ws < weight n + 8 * length ts + 3 * length fs
smaller-found {gs} {ws} fs f n m ts b p q a l =
    let z : weight n ≡ 0 = ap weight p in
    let x : length fs ≡ length gs + 1 = ap length q ∙ length-append gs (f ∷ []) in
    let y : length ws ≡ length gs = ap length a in
    omega arith

pub smaller-wait : (fs ws : List Pending) (f : Pending) (n m : Move) (ts : List Token) (b : Bor (List Token))
    → n ≡ moves.Wait f → ws ≡ fs ++ f ∷ [] → weight m + 8 * length b.now < 8 * length ts
    → weight m + 8 * length b.now + 3 * length ws < weight n + 8 * length ts + 3 * length fs
smaller-wait fs ws f n m ts b p q l =
    let z : weight n ≡ 4 = ap weight p in
    let x : length ws ≡ length fs + 1 = ap length q ∙ length-append fs (f ∷ []) in
    omega arith

pub smaller-on : (fs ws : List Pending) (n m : Move) (ts : List Token) (b : Bor (List Token)) → weight n ≡ 1 → ws ≡ fs
    → weight m + 8 * length b.now < 8 * length ts
    → weight m + 8 * length b.now + 3 * length ws < weight n + 8 * length ts + 3 * length fs
smaller-on fs ws n m ts b z a l = let y : length ws ≡ length fs = ap length a in omega arith

pub body-next : (o : Owner) (done : List Stmt) (ts us : List Token) → Some us ≡ after punctuations.Semicolon ts
    → (stmt_at OfStmt us >>= pending_at (pendings.Body o done)) ≡ body_at o done ts (after punctuations.Semicolon ts)
body-next o done ts us e = sym (body-goes o done us) ∙ ap (body_at o done ts) e

pub body-begins : (o : Owner) (ts : List Token)
    → run stmt_at (body ts None (owned o)) ≡ (stmt_at OfStmt ts >>= pending_at (pendings.Body o []))
unfolding closed_at
body-begins o ts = body-goes o [] ts

-- the statements of a clause, if another clause begins or a statement
pub clause-ends : (s : Select) (h : Head) (done : List Stmt) (ts : List Token) → begins_clause ts ≡ true
    → clause_at s h done ts ≡ selected (grown s h done) ts
unfolding clause_at
clause-ends s h done ts e =
    ap (λ q. q >>= λ b. selected (grown s h b.0) b.1)
    (stmt-is (CaseBody done) ts ∙ ap (λ b. run stmt_at
    (cond b (just done ts) (Ask OfStmt ts
    (λ s. case_behind (done ++ s.0 ∷ []) s.1 (after punctuations.Semicolon s.1))))) e)

pub clause-then : (s : Select) (h : Head) (done : List Stmt) (ts : List Token) (g : Select) → g ≡ grown s h done
    → begins_clause ts ≡ true → selected g ts ≡ clause_at s h done ts
clause-then s h done ts g p e = ap (λ (x : Select). selected x ts) p ∙ sym (clause-ends s h done ts e)

abbrev more : Select → Head → List Stmt × List Token → FoundStatement
more s h b = selected (grown s h b.0) b.1

pub clause-goes : (s : Select) (h : Head) (done : List Stmt) (ts : List Token) → begins_clause ts ≡ false
    → clause_at s h done ts ≡ (stmt_at OfStmt ts >>= pending_at (pendings.Clause s h done))
unfolding clause_at
clause-goes s h done ts e =
    ap (λ q. q >>= more s h) (stmt-is (CaseBody done) ts
    ∙ ap (λ b. run stmt_at (cond b (just done ts)
    (Ask OfStmt ts (λ s. case_behind (done ++ s.0 ∷ []) s.1 (after punctuations.Semicolon s.1))))) e)
    ∙ bind-assoc (stmt_at OfStmt ts) (λ s. run stmt_at
    (case_behind (done ++ s.0 ∷ []) s.1 (after punctuations.Semicolon s.1))) (more s h)
    ∙ bind-same (stmt_at OfStmt ts) _ _ (λ x. at (done ++ x.0 ∷ []) x.1 (after punctuations.Semicolon x.1))
  where
    close : (xs : List Stmt) (us : List Token) (q : Option (List Token))
        → (run stmt_at (given q (λ vs. just xs us)) >>= more s h) ≡ (q >>= λ vs. selected (grown s h xs) us)
    close xs us (Some vs) = refl
    close xs us None = refl

    at : (xs : List Stmt) (us : List Token) (q : Option (List Token))
        → (run stmt_at (case_behind xs us q) >>= more s h) ≡ case_at s h xs us q
    at xs us (Some vs) = bind-assoc (stmt_at (CaseBody xs) vs) (λ x. Some x) (more s h)
    at xs us None = close xs us (after punctuations.CloseBrace us)

-- what is found if the clauses of a `select` are read so
abbrev closes : Select → Option (List Clause × List Token) → FoundStatement
closes s o = o >>= λ c. Some (st.Select s.line c.0, c.1)

-- a clause after its head
headed-goes : (s : Select) (h : Head) (seen : Bool) (wrap : List Stmt → Clause)
    → ((b : List Stmt) → grown s h b ≡ record { line = s.line; has_default = seen; clauses = s.clauses ++ wrap b ∷ [] })
    →
    (ts : List Token) (q : Option (List Token))
    → closes s (run stmt_at (clause_body seen s.clauses wrap ts q)) ≡ headed_by s h ts q
unfolding selected clause_at
headed-goes s h seen wrap k ts (Some us) =
    bind-assoc (stmt_at (Clauses seen (s.clauses ++ wrap [] ∷ [])) ts) (λ x. Some x)
    (λ c. Some (st.Select s.line c.0, c.1)) ∙ ap (λ g. selected g ts) (sym (k []))
headed-goes s h seen wrap k ts None =
    bind-assoc (stmt_at (CaseBody []) ts) (λ b. stmt_at (Clauses seen (s.clauses ++ wrap b.0 ∷ [])) b.1 >>= λ x. Some x)
    (λ c. Some (st.Select s.line c.0, c.1))
    ∙ bind-same (stmt_at (CaseBody []) ts) _ _
    (λ b. bind-assoc (stmt_at (Clauses seen (s.clauses ++ wrap b.0 ∷ [])) b.1) (λ x. Some x)
    (λ c. Some (st.Select s.line c.0, c.1)) ∙ ap (λ g. selected g b.1) (sym (k b.0)))

colon-goes : (s : Select) (h : Head) (seen : Bool) (wrap : List Stmt → Clause)
    → ((b : List Stmt) → grown s h b ≡ record { line = s.line; has_default = seen; clauses = s.clauses ++ wrap b ∷ [] })
    →
    (q : Option (List Token)) → closes s (run stmt_at
    (given q (λ us. clause_body seen s.clauses wrap us (after punctuations.CloseBrace us)))) ≡ (q >>= headed_at s h)
unfolding headed_at
colon-goes s h seen wrap k None = refl
colon-goes s h seen wrap k (Some us) = headed-goes s h seen wrap k us (after punctuations.CloseBrace us)

case-goes : (s : Select) (l : ℕ) (q : Option (Communication × List Token))
    → closes s (run stmt_at (given q (λ c. clause_plan s.has_default s.clauses (cl.Case l c.0) c.1))) ≡
    (q >>= λ c. colon_at s (record { line = l; communication = Some c.0 }) c.1)
case-goes s l None = refl
case-goes s l (Some c) = colon-goes s (record { line = l; communication = Some c.0 }) s.has_default (cl.Case l c.0)
    (λ b. refl) (after punctuations.Colon c.1)

default-goes : (s : Select) (l : ℕ) (ts : List Token) (b : Bool)
    → closes s (run stmt_at (cond b (Done None) (clause_plan true s.clauses (cl.Default l) ts))) ≡ cond b None
    (colon_at s (record { line = l; communication = None }) ts)
default-goes s l ts true = refl
default-goes s l ts false = colon-goes s (record { line = l; communication = None }) true (cl.Default l) (λ b. refl)
    (after punctuations.Colon ts)

-- a clause by its first token
clauses-go : (s : Select) (l : ℕ) (k : TokenKind) (ts : List Token)
    → closes s (run stmt_at (clauses_from s.has_default s.clauses l k ts)) ≡ selected_by s l k ts
clauses-go s l (kinds.Keyword k) ts = at k
  where
    at : (k : Keyword) → closes s (run stmt_at (clauses_from s.has_default s.clauses l (kinds.Keyword k) ts))
        ≡ selected_by s l (kinds.Keyword k) ts
    at keywords.Case = case-goes s l (comm_at ts)
    at keywords.Default = default-goes s l ts s.has_default
    at _ = refl
clauses-go s l (kinds.Punctuation m) ts = at m
  where
    at : (m : Punctuation) → closes s (run stmt_at (clauses_from s.has_default s.clauses l (kinds.Punctuation m) ts))
        ≡ selected_by s l (kinds.Punctuation m) ts
    at punctuations.CloseBrace = refl
    at _ = refl
clauses-go s l _ ts = refl

pub selected-none : (s : Select) (ts : List Token) → length ts ≡ 0 → None ≡ selected s ts
unfolding selected
selected-none s [] e = sym (ap (closes s) (stmt-is (Clauses s.has_default s.clauses) []))
selected-none s (t ∷ ts) e = absurd (omega (arith, e))

pub selected-first : (s : Select) (t : Token) (ts : List Token) → selected s (t ∷ ts) ≡ selected_by s t.line t.kind ts
unfolding selected
selected-first s t ts = ap (closes s) (stmt-is (Clauses s.has_default s.clauses) (t ∷ ts))
    ∙ clauses-go s t.line t.kind ts

pub selected-split : (s : Select) (t : Token) (us ts : List Token) → ts ≡ t ∷ us
    → selected_by s t.line t.kind us ≡ selected s ts
selected-split s t us ts e = sym (selected-first s t us) ∙ ap (selected s) (sym e)

-- a statement by its first token
pub stmt-none : (ts : List Token) → length ts ≡ 0 → None ≡ stmt_at OfStmt ts
stmt-none [] e = sym (stmt-is OfStmt [])
stmt-none (t ∷ ts) e = absurd (omega (arith, e))

pub stmt-first : (t : Token) (ts : List Token)
    → stmt_at OfStmt (t ∷ ts) ≡ run stmt_at (kind_plan t.line t.kind ts (t ∷ ts))
stmt-first t ts = stmt-is OfStmt (t ∷ ts)

pub stmt-split : (t : Token) (us ts : List Token) → ts ≡ t ∷ us
    → run stmt_at (kind_plan t.line t.kind us ts) ≡ stmt_at OfStmt ts
stmt-split t us ts e = ap (λ (xs : List Token). run stmt_at (kind_plan t.line t.kind us xs)) e ∙ sym (stmt-first t us)
    ∙ ap (stmt_at OfStmt) (sym e)

-- a statement with a body, after what its head is
pub if-goes : (l : ℕ) (ts us : List Token) (x : Test) (o : Owner) → o ≡ owners.If l x.0 x.1 → Some (x, us) ≡ test_at ts
    → run stmt_at (block us (owned o)) ≡ run stmt_at (if_plan l ts)
if-goes l ts us x o p q = ap (λ (y : Owner). run stmt_at (block us (owned y))) p
    ∙ ap (λ o. run stmt_at (given o (λ x. block x.1 (λ b. else_plan l x.0 b.0 b.1 (after_keyword keywords.Else b.1)))))
    q

pub for-goes : (l : ℕ) (ts us : List Token) (h : Header) (o : Owner) → o ≡ owners.For l h → Some (h, us) ≡ header_at ts
    → run stmt_at (block us (owned o)) ≡ run stmt_at (for_plan l ts)
for-goes l ts us h o p q = ap (λ (y : Owner). run stmt_at (block us (owned y))) p
    ∙ ap (λ o. run stmt_at (given o (λ x. block x.1 (λ b. just (st.For l x.0 b.0) b.1)))) q

-- what is found is shorter
pub stmt-shorter : (ts us : List Token) (s : Stmt) → Some (s, us) ≡ stmt_at OfStmt ts → length us < length ts
stmt-shorter ts us s e = at (stmt_at OfStmt ts) (stmt-leaves OfStmt ts) e
  where
    at : (o : FoundStatement) → Leaves 1 (length ts) o → Some (s, us) ≡ o → length us < length ts
    at (Some x) l f = let q : length x.1 ≡ length us = cc in omega arith
    at None l f = cc

-- a block is a statement
pub block-none : (ts : List Token) → after punctuations.OpenBrace ts ≡ None → block_at ts ≡ None
block-none ts e = ap (λ o. run stmt_at (given o (λ us. body us (after punctuations.CloseBrace us) found))) e

abbrev statements_at : Stmt × List Token → Option (List Stmt × List Token)
statements_at x = statements_of x.0 >>= λ b. Some (b, x.1)

block-body : (l : ℕ) (ts : List Token) (o : Option (List Token))
    → run stmt_at (body ts o found) ≡ (run stmt_at (body ts o (λ b. just (st.Block l b.0) b.1)) >>= statements_at)
block-body l ts (Some us) = sym (ap (λ o. o >>= λ b. Some (b, us)) (block_parts l []))
block-body l ts None =
    bind-same (stmt_at (Body []) ts) (λ b. Some b) (λ b. statements_at (st.Block l b.0, b.1))
    (λ b. sym (ap (λ o. o >>= λ c. Some (c, b.1)) (block_parts l b.0)))
    ∙ sym (bind-assoc (stmt_at (Body []) ts) (λ b. Some (st.Block l b.0, b.1)) statements_at)

block-stmt : (ts us : List Token) → after punctuations.OpenBrace ts ≡ Some us
    → block_at ts ≡ (stmt_at OfStmt ts >>= statements_at)
block-stmt [] us e = cc
block-stmt (t ∷ ts) us e = at t.kind refl e
  where
    opened : t.kind ≡ kinds.Punctuation punctuations.OpenBrace → after_kind punctuations.OpenBrace t.kind ts ≡ Some us
        → block_at (t ∷ ts) ≡ (stmt_at OfStmt (t ∷ ts) >>= statements_at)
    opened is f =
        ap (λ k. run stmt_at (given (after_kind punctuations.OpenBrace k ts)
        (λ us. body us (after punctuations.CloseBrace us) found))) is
        ∙ block-body t.line ts (after punctuations.CloseBrace ts)
        ∙ sym (ap (λ o. o >>= statements_at) (stmt-first t ts
        ∙ ap (λ k. run stmt_at (kind_plan t.line k ts (t ∷ ts))) is))

    punctuation : (m : Punctuation) → t.kind ≡ kinds.Punctuation m
        → after_kind punctuations.OpenBrace (kinds.Punctuation m) ts ≡ Some us
        → block_at (t ∷ ts) ≡ (stmt_at OfStmt (t ∷ ts) >>= statements_at)
    punctuation punctuations.OpenBrace is f = opened is e
    punctuation _ is f = cc

    at : (k : TokenKind) → t.kind ≡ k → after_kind punctuations.OpenBrace k ts ≡ Some us
        → block_at (t ∷ ts) ≡ (stmt_at OfStmt (t ∷ ts) >>= statements_at)
    at (kinds.Punctuation m) is f = punctuation m is f
    at _ is f = cc

pub block-some : (ts us vs : List Token) (s : Stmt) (b : List Stmt) → after punctuations.OpenBrace ts ≡ Some us
    → stmt_at OfStmt ts ≡ Some (s, vs) → statements_of s ≡ Some b → block_at ts ≡ Some (b, vs)
block-some ts us vs s b e f g = block-stmt ts us e ∙ ap (λ o. o >>= statements_at) f
    ∙ ap (λ o. o >>= λ c. Some (c, vs)) g

pub block-other : (ts us vs : List Token) (s : Stmt) → after punctuations.OpenBrace ts ≡ Some us
    → stmt_at OfStmt ts ≡ Some (s, vs) → statements_of s ≡ None → block_at ts ≡ None
block-other ts us vs s e f g = block-stmt ts us e ∙ ap (λ o. o >>= statements_at) f
    ∙ ap (λ o. o >>= λ c. Some (c, vs)) g

pub block-nothing : (ts us : List Token) → after punctuations.OpenBrace ts ≡ Some us → stmt_at OfStmt ts ≡ None
    → block_at ts ≡ None
block-nothing ts us e f = block-stmt ts us e ∙ ap (λ o. o >>= statements_at) f

pub ruleset body_steps = (body-begins)

pub ruleset read_steps = (waited-last, waited-none)

pub ruleset shorter_steps = (stmt-shorter)

pub ruleset braces_steps = (block-none, block-some, block-other, block-nothing)
