-- The code of a `select` by its facts is its code.
-- For: `select_lay`, golf_code_facts/specs/Selects.antt.
-- By: induction over the list of clauses.
-- The operands of all clauses are judged in the scope of their clause,
-- and stand in that of the `select`, which judges alike.
use Rattle.std.proofs.Common.{◌≡◌, ℕ, suc, ◌+◌, true, List, [], ◌∷◌, ◌++◌, length, map, refl, sym, ap, ◌∙◌}
use Rattle.std.proofs.Common.{append_assoc, append-nil}
use Rattle.std.proofs.Math.Seq.{drop-append_seam}
use Rattle.golf_syntax_trees.specs.declared.expressions.Expr.{Expr}
use Rattle.golf_syntax_trees.specs.declared.statements.Communication.{Communication}
use Rattle.golf_syntax_trees.specs.declared.statements.Communication.TheVariants as comm
use Rattle.golf_data.specs.declared.code.Instr.{Instr}
use Rattle.golf_check_types.specs.declared.facts.Fact.{Fact}
use Rattle.golf_check_types.specs.declared.facts.Fact.TheVariants as fact
use Rattle.golf_check_types.specs.declared.scopes.Scope.{Scope}
use Rattle.golf_check_types.specs.Scopes.{begun}
use Rattle.golf_check_types.specs.Facts.{new_target}
use Rattle.golf_check_types.specs.Expressions.{Judged, facts_of}
use Rattle.golf_check_types.specs.Judgments.{judge, judge_at}
use Rattle.golf_check_types.specs.Statements as W
use Rattle.golf_check_types.specs.Statements.{Walked, behind, carried, assigned, assigned_name}
use Rattle.golf_check_types.proofs.NamesAlone.{judged-by-names}
use Rattle.golf_code_layout.specs.Piece.{Piece, all, op}
use Rattle.golf_code_of.specs.declared.surroundings.Around.{Around}
use Rattle.golf_code_of.specs.declared.tables.Tables.{Tables}
use Rattle.golf_code_of.specs.Expressions.{Made}
use Rattle.golf_code_of.specs.ExpressionCode.{piece_at}
use Rattle.golf_code_of.specs.Statements.{Laid, StatementPart, past, wrapped, in_order}
use Rattle.golf_code_of.specs.Selects as C
use Rattle.golf_code_of.specs.Selects.{ClausePart, case_to, default_or, in_clause, breaking}
use Rattle.golf_code_facts.specs.Facts.{skip}
use Rattle.golf_code_facts.specs.Expressions.{taken_at, pushed_at}
use Rattle.golf_code_facts.specs.Statements.{LaidBy, LayBy, by, piece_by, stores_next, stores_two, past_two}
use Rattle.golf_code_facts.specs.Statements.{in_order as in_order_by}
use Rattle.golf_code_facts.specs.Selects.{ClauseBy, operands_by, takes_in, case_clause, default_clause, cases_from}
use Rattle.golf_code_facts.specs.Selects.{default_from, operands_all, choice, clauses_lay, select_lay}
use Rattle.golf_code_facts.proofs.Expressions.{made-alone, past-alone, made-among, past-among}
use Rattle.golf_code_facts.proofs.Simple.{stored, first_fact, second_fact, pair_stored}
use Rattle.golf_code_facts.proofs.Parts.{Follows, on_after}

-- expressions are judged alike in two scopes
abbrev pub Alike : Scope → Scope → Type 0
Alike r s = (x : Expr) (l : ℕ) → judge x l s ≡ judge x l r

alike-begun : (r s : Scope) → Alike r s → Alike r (begun s)
alike-begun r s h x l = judged-by-names (s.depth + 1) s.result s.breaks s.loops s.next x l s ∙ h x l

-- after what declares nothing
alike-behind : (r s : Scope) (w : Walked) → w.declares ≡ [] → Alike r s → Alike r (behind s w)
alike-behind r s w e h x l =
    ap (λ ds. judge x l (record s { locals = s.locals ++ ds; next = (behind s w).next })) e
    ∙ ap (λ ls. judge x l (record s { locals = ls; next = (behind s w).next })) (append-nil s.locals)
    ∙ judged-by-names s.depth s.result s.breaks s.loops (behind s w).next x l s ∙ h x l

-- the code of an expression is that of its facts, and so the same wherever it is judged alike
pub coded-alike : (t : Tables) (l : ℕ) (r s : Scope) (e : Expr) → judge e l s ≡ judge e l r
    → piece_at t l s e ≡ piece_at t l r e
coded-alike t l r s e h = ap (λ (x : Made). x.piece)
    (sym (made-alone t l s e []) ∙ ap (λ (j : Judged). taken_at t l (facts_of j ++ []) e) h ∙ made-alone t l r e [])

-- what a clause is by its facts
pub record ClauseFollows (c : ClausePart) (k : ClauseBy) : Type 0 where
  pub calm : (l : ℕ) (s : Scope) → (c.walk l s).declares ≡ []
  pub kind : c.kind ≡ k.kind
  pub line : c.line ≡ k.line
  pub operands : (l : ℕ) (r s : Scope) → Alike r s → (rest : List Fact)
      → k.operands l ((c.walk l s).facts ++ rest) ≡ c.operands l r
  pub counted : (l : ℕ) (s : Scope) (rest : List Fact) → skip ((c.walk l s).facts ++ rest) ≡ rest
  pub code : (l : ℕ) (a : Around) (s : Scope) (rest : List Fact)
      → k.lay a ((c.walk l s).facts ++ rest) ≡ by (c.lay l a s) rest

-- Communications.

module _ (t : Tables) (l k : ℕ) where
  abbrev comm_facts : Communication → Scope → List Fact
  comm_facts c s = (W.communication l k c s).facts

  operands-coded : (c : Communication) (s : Scope) (rest : List Fact)
      → operands_by t c l (comm_facts c s ++ rest) ≡ C.operands_of t c l s
  operands-coded (comm.Send c e) s rest =
      let fs = comm_facts (comm.Send c e) s ++ rest in
      ap (λ (x : Made). all (x.piece ∷ pushed_at t l (skip fs) e ∷ []))
      (made-among t l s c (facts_of (judge_at l s e)) rest)
      ∙ ap (λ gs. all (piece_at t l s c ∷ pushed_at t l gs e ∷ []))
      (past-among t l s c (facts_of (judge_at l s e)) rest)
      ∙ ap (λ (y : Made). all (piece_at t l s c ∷ y.piece ∷ [])) (made-alone t l s e rest)
  operands-coded (comm.Receive e) s rest = ap (λ (x : Made). x.piece) (made-alone t l s e rest)
  operands-coded (comm.Define n e) s rest =
      ap (λ (x : Made). x.piece) (made-among t l s e (new_target s (carried l e s) ∷ []) rest)
  operands-coded (comm.Assign n e) s rest =
      ap (λ (x : Made). x.piece) (made-among t l s e (fact.Target (assigned s n) ∷ []) rest)
  operands-coded (comm.DefineReceived n m e) s rest =
      ap (λ (x : Made). x.piece) (made-among t l s e
      (first_fact l t s n (carried l e s) ∷ (second_fact l t s n m (carried l e s) ∷ [])) rest)

  operands-alike : (c : Communication) (r s : Scope) → Alike r s → C.operands_of t c l s ≡ C.operands_of t c l r
  operands-alike (comm.Send c e) r s h = ap (λ p. all (p ∷ piece_at t l s e ∷ [])) (coded-alike t l r s c (h c l))
      ∙ ap (λ p. all (piece_at t l r c ∷ p ∷ [])) (coded-alike t l r s e (h e l))
  operands-alike (comm.Receive e) r s h = coded-alike t l r s e (h e l)
  operands-alike (comm.Define n e) r s h = coded-alike t l r s e (h e l)
  operands-alike (comm.Assign n e) r s h = coded-alike t l r s e (h e l)
  operands-alike (comm.DefineReceived n m e) r s h = coded-alike t l r s e (h e l)

  taken-in : (c : Communication) (s : Scope) (rest : List Fact)
      → takes_in t k c (comm_facts c s ++ rest) ≡ piece_by (C.takes_in t l k c s) rest
  taken-in (comm.Send c e) s rest =
      ap (λ fs. piece_by Piece.Empty (skip fs)) (past-among t l s c (facts_of (judge_at l s e)) rest)
      ∙ ap (piece_by Piece.Empty) (past-alone t l s e rest)
  taken-in (comm.Receive e) s rest = ap (piece_by (op k Instr.Drop)) (past-alone t l s e rest)
  taken-in (comm.Define n e) s rest = ap (stores_next k t) (past-among t l s e (new_target s (carried l e s) ∷ []) rest)
  taken-in (comm.Assign n e) s rest =
      ap (stores_next k t) (past-among t l s e (fact.Target (assigned s n) ∷ []) rest)
      ∙ ap (λ p. piece_by p rest) (stored k t (assigned_name s n))
  taken-in (comm.DefineReceived n m e) s rest =
      ap (λ fs. piece_by (stores_two k t fs) (past_two fs))
      (past-among t l s e (first_fact k t s n (carried l e s) ∷ (second_fact k t s n m (carried l e s) ∷ [])) rest)
      ∙ ap (λ p. piece_by p rest) (pair_stored k t s n m (carried l e s) rest)

-- Clauses.

module _ (xs : List StatementPart) (ks : List LayBy) (f : Follows (in_order xs) (in_order_by ks)) where
  on_breaking : Follows (breaking (in_order xs)) (in_order_by ks)
  on_breaking = record { code = λ a s rest. f.code a (record s { breaks = true }) rest }

  pub on_case : (t : Tables) (k : ℕ) (c : Communication) → ClauseFollows (C.case_clause t k c xs) (case_clause t k c ks)
  on_case t k c = record {
    calm = λ l s. refl;
    kind = refl;
    line = refl;
    operands = λ l r s h rest.
        let s0 = begun s in
        let B = ((breaking (in_order xs)).walk (behind s0 (W.communication l k c s0))).facts in
        ap (operands_by t c l) (append_assoc (W.communication l k c s0).facts B rest)
        ∙ operands-coded t l k c s0 (B ++ rest) ∙ operands-alike t l k c r s0 (alike-begun r s h);
    counted = λ l s rest. drop-append_seam
        (W.then (W.communication l k c) (breaking (in_order xs)).walk (begun s)).facts rest;
    code = λ l a s rest.
        (on_after (C.communication t l k c) (breaking (in_order xs)) (C.takes_in t l k c) (takes_in t k c)
        (in_order_by ks)
        (record { code = taken-in t l k c }) (λ a s. refl) on_breaking).code a (begun s) rest;
  }

  pub on_default : (k : ℕ) → ClauseFollows (C.default_clause k xs) (default_clause k ks)
  on_default k = record {
    calm = λ l s. refl;
    kind = refl;
    line = refl;
    operands = λ l r s h rest. refl;
    counted = λ l s rest. drop-append_seam ((breaking (in_order xs)).walk (begun s)).facts rest;
    code = λ l a s rest. on_breaking.code a (begun s) rest;
  }

-- a clause, and the same by its facts
pub record EachClause : Type 0 where
  pub part : ClausePart
  pub by : ClauseBy
  pub follows : ClauseFollows part by

abbrev pub parts : List EachClause → List ClausePart
parts cs = map (λ c. c.part) cs

abbrev pub lays : List EachClause → List ClauseBy
lays cs = map (λ c. c.by) cs

as-many : (cs : List EachClause) → length (lays cs) ≡ length (parts cs)
as-many [] = refl
as-many (c ∷ cs) = ap (λ n. suc n) (as-many cs)

same-cases : (i : ℕ) (cs : List EachClause) → cases_from i (lays cs) ≡ C.cases_from i (parts cs)
same-cases i [] = refl
same-cases i (c ∷ cs) = ap (λ k. case_to i k ++ cases_from (i + 1) (lays cs)) (sym c.follows.kind)
    ∙ ap (λ rest. case_to i c.part.kind ++ rest) (same-cases (i + 1) cs)

same-default : (i : ℕ) (cs : List EachClause) → default_from i (lays cs) ≡ C.default_from i (parts cs)
same-default i [] = refl
same-default i (c ∷ cs) = ap (λ k. default_or i k (default_from (i + 1) (lays cs))) (sym c.follows.kind)
    ∙ ap (λ rest. default_or i c.part.kind rest) (same-default (i + 1) cs)

module _ (l : ℕ) where
  abbrev clause_facts : List EachClause → Scope → List Fact
  clause_facts cs s = (W.in_order (map (λ (c : ClausePart). c.walk l) (parts cs)) s).facts

  all-operands : (cs : List EachClause) (r s : Scope) → Alike r s → (rest : List Fact)
      → operands_all l (lays cs) (clause_facts cs s ++ rest) ≡ map (λ (c : ClausePart). c.operands l r) (parts cs)
  all-operands [] r s h rest = refl
  all-operands (c ∷ cs) r s h rest =
      let s1 = behind s (c.part.walk l s) in
      ap (λ fs. c.by.operands l fs ∷ operands_all l (lays cs) (skip fs))
      (append_assoc (c.part.walk l s).facts (clause_facts cs s1) rest)
      ∙ ap (λ p. p ∷ operands_all l (lays cs) (skip ((c.part.walk l s).facts ++ (clause_facts cs s1 ++ rest))))
      (c.follows.operands l r s h (clause_facts cs s1 ++ rest))
      ∙ ap (λ fs. c.part.operands l r ∷ operands_all l (lays cs) fs)
      (c.follows.counted l s (clause_facts cs s1 ++ rest))
      ∙ ap (λ ps. c.part.operands l r ∷ ps) (all-operands cs r s1
      (alike-behind r s (c.part.walk l s) (c.follows.calm l s) h) rest)

  chosen : (cs : List EachClause) (s : Scope) (rest : List Fact)
      → choice l (lays cs) (clause_facts cs s ++ rest) ≡ C.choice l (parts cs) s
  chosen cs s rest =
      ap (λ ps. all (all ps ∷ Piece.Choose l (cases_from 0 (lays cs)) (default_from 0 (lays cs)) ∷ []))
      (all-operands cs s s (λ x k. refl) rest)
      ∙ ap (λ xs. all (pushed ∷ Piece.Choose l xs (default_from 0 (lays cs)) ∷ [])) (same-cases 0 cs)
      ∙ ap (λ o. all (pushed ∷ Piece.Choose l (C.cases_from 0 (parts cs)) o ∷ [])) (same-default 0 cs)
    where
      pushed : Piece
      pushed = all (map (λ (c : ClausePart). c.operands l s) (parts cs))

  all-laid : (p : Piece) (cs : List EachClause) (a : Around) (s : Scope) (rest : List Fact)
      → clauses_lay p (lays cs) a (clause_facts cs s ++ rest) ≡ by (C.clauses_lay l p (parts cs) a s) rest
  all-laid p [] a s rest = refl
  all-laid p (c ∷ cs) a s rest =
      ap (λ fs. step (length (lays cs)) c.by.line (c.by.lay (in_clause (length (lays cs)) a) fs))
      (append_assoc (c.part.walk l s).facts (clause_facts cs s1) rest)
      ∙ ap (λ n. step n c.by.line (c.by.lay (in_clause n a) ((c.part.walk l s).facts ++ (clause_facts cs s1 ++ rest))))
      (as-many cs)
      ∙ ap (λ k. step (length (parts cs)) k (c.by.lay (in_clause (length (parts cs)) a)
      ((c.part.walk l s).facts ++ (clause_facts cs s1 ++ rest)))) (sym c.follows.line)
      ∙ ap (step (length (parts cs)) c.part.line)
      (c.follows.code l (in_clause (length (parts cs)) a) s (clause_facts cs s1 ++ rest))
      ∙ ap (last x) (all-laid (all (Piece.Block p ∷ x.piece ∷ Piece.Exit c.part.line (length (parts cs)) ∷ [])) cs
      (past a x) s1 rest)
    where
      s1 : Scope
      s1 = behind s (c.part.walk l s)

      x : Laid
      x = c.part.lay l (in_clause (length (parts cs)) a) s

      last : Laid → LaidBy → LaidBy
      last y g = by (record { piece = g.laid.piece; made = y.made ++ g.laid.made }) g.left

      step : ℕ → ℕ → LaidBy → LaidBy
      step n line y = last y.laid (clauses_lay (all (Piece.Block p ∷ y.laid.piece ∷ Piece.Exit line n ∷ [])) (lays cs)
          (past a y.laid) y.left)

  pub on_select : (cs : List EachClause) → Follows (C.select_part l (parts cs)) (select_lay l (lays cs))
  on_select cs = record {
    code = λ a s rest.
        ap (λ p. end (clauses_lay p (lays cs) a (clause_facts cs s ++ rest))) (chosen cs s rest)
        ∙ ap end (all-laid (C.choice l (parts cs) s) cs a s rest);
  }
    where
      end : LaidBy → LaidBy
      end g = by (wrapped Piece.Block g.laid) g.left
