-- What holds of every statement and clause if it holds of each kind by its parts; and what a fold carries along.
-- For: the inductions over statements of the crates above
-- By: induction over the tree of a statement
use Rattle.std.proofs.Common.{◌≡◌, List, [], ◌∷◌, map, refl, sym, ap, ◌∙◌, subst}
use Rattle.golf_syntax_trees.specs.declared.statements.Stmt.{Stmt, roll-Stmt}
use Rattle.golf_syntax_trees.specs.declared.statements.Clause.{Clause, roll-Clause}
use Rattle.golf_syntax_trees.specs.declared.statements.Clause.TheOpen.{Stmt-F, Clause-F}
use Rattle.golf_syntax_trees.specs.declared.statements.Clause.TheOpen as F
use Rattle.golf_syntax_trees.specs.declared.statements.Clause.TheFolds.{fold-Stmt, fold-Clause, fold-roll-Stmt}
use Rattle.golf_syntax_trees.specs.declared.statements.Clause.TheFolds.{fold-roll-Clause, ind-Stmt, ind-Clause}
use Rattle.golf_syntax_trees.specs.declared.statements.Clause.TheFolds.{map-Stmt, map-Clause}

-- a clause and a statement of which it is known
abbrev pub KnownClause : (Clause → Type 0) → Type 0
KnownClause Q = (c : Clause) × Q c

abbrev pub KnownStmt : (Stmt → Type 0) → Type 0
KnownStmt P = (x : Stmt) × P x

-- the clauses and the statements alone
abbrev pub bare_clauses : (Q : Clause → Type 0) → List (KnownClause Q) → List Clause
bare_clauses Q cs = map (λ (p : KnownClause Q). p.0) cs

abbrev pub bare_stmts : (P : Stmt → Type 0) → List (KnownStmt P) → List Stmt
bare_stmts P xs = map (λ (p : KnownStmt P). p.0) xs

module _ (Q : Clause → Type 0) (P : Stmt → Type 0) where
  -- one layer of a clause or a statement, of whose parts it is known
  abbrev pub ClauseLayer : Type 0
  ClauseLayer = Clause-F (KnownClause Q) (KnownStmt P)

  abbrev pub StmtLayer : Type 0
  StmtLayer = Stmt-F (KnownClause Q) (KnownStmt P)

  -- the layer alone
  abbrev pub bare_clause : ClauseLayer → Clause-F Clause Stmt
  bare_clause y = map-Clause (KnownClause Q) (KnownStmt P) Clause Stmt (λ p. p.0) (λ p. p.0) y

  abbrev pub bare_stmt : StmtLayer → Stmt-F Clause Stmt
  bare_stmt y = map-Stmt (KnownClause Q) (KnownStmt P) Clause Stmt (λ p. p.0) (λ p. p.0) y

  module _ (on_clause : (y : ClauseLayer) → Q (roll-Clause (bare_clause y)))
      (on : (y : StmtLayer) → P (roll-Stmt (bare_stmt y))) where
    pub every-stmt : (x : Stmt) → P x
    every-stmt = ind-Stmt Q P (λ x y is. subst (λ z. Q (roll-Clause z)) is (on_clause y))
        (λ x y is. subst (λ z. P (roll-Stmt z)) is (on y))

    pub every-clause : (c : Clause) → Q c
    every-clause = ind-Clause Q P (λ x y is. subst (λ z. Q (roll-Clause z)) is (on_clause y))
        (λ x y is. subst (λ z. P (roll-Stmt z)) is (on y))

-- A fold into `C` and `D` carries along a fold into `A` and `B` if each of its steps does.
module _ (C D : Type 0) (f : Clause-F C D → C) (g : Stmt-F C D → D) (A B : Type 0) (j : Clause-F A B → A)
    (k : Stmt-F A B → B)
    (into_clause : C → A) (into : D → B)
    (carries_clause : (y : Clause-F C D) → into_clause (f y) ≡ j (map-Clause C D A B into_clause into y))
    (carries : (y : Stmt-F C D) → into (g y) ≡ k (map-Stmt C D A B into_clause into y)) where
  abbrev whole_clause : Clause → C
  whole_clause = fold-Clause C D f g

  abbrev whole : Stmt → D
  whole = fold-Stmt C D f g

  abbrev part_clause : Clause → A
  part_clause = fold-Clause A B j k

  abbrev part : Stmt → B
  part = fold-Stmt A B j k

  abbrev Q : Clause → Type 0
  Q c = into_clause (whole_clause c) ≡ part_clause c

  abbrev P : Stmt → Type 0
  P x = into (whole x) ≡ part x

  all-stmts : (xs : List (KnownStmt P)) → map into (map whole (bare_stmts P xs)) ≡ map part (bare_stmts P xs)
  all-stmts [] = refl
  all-stmts (x ∷ xs) = ap (λ b. b ∷ map into (map whole (bare_stmts P xs))) x.1
      ∙ ap (λ bs. part x.0 ∷ bs) (all-stmts xs)

  all-clauses : (cs : List (KnownClause Q))
      → map into_clause (map whole_clause (bare_clauses Q cs)) ≡ map part_clause (bare_clauses Q cs)
  all-clauses [] = refl
  all-clauses (c ∷ cs) = ap (λ a. a ∷ map into_clause (map whole_clause (bare_clauses Q cs))) c.1
      ∙ ap (λ bs. part_clause c.0 ∷ bs) (all-clauses cs)

  at : (y : StmtLayer Q P) → k (map-Stmt C D A B into_clause into
      (map-Stmt Clause Stmt C D whole_clause whole (bare_stmt Q P y))) ≡ k
      (map-Stmt Clause Stmt A B part_clause part (bare_stmt Q P y))
  at (F.Var v) = refl
  at (F.Simple x) = refl
  at (F.Go l e xs) = refl
  at (F.Defer l e xs) = refl
  at (F.Return l e) = refl
  at (F.Break l) = refl
  at (F.Continue l) = refl
  at (F.Block l xs) = ap (λ bs. k (F.Block l bs)) (all-stmts xs)
  at (F.If l first test xs) = ap (λ bs. k (F.If l first test bs)) (all-stmts xs)
  at (F.IfElse l first test xs o) = ap (λ bs. k (F.IfElse l first test bs (into (whole o.0)))) (all-stmts xs)
      ∙ ap (λ b. k (F.IfElse l first test (map part (bare_stmts P xs)) b)) o.1
  at (F.For l h xs) = ap (λ bs. k (F.For l h bs)) (all-stmts xs)
  at (F.Select l cs) = ap (λ bs. k (F.Select l bs)) (all-clauses cs)

  at-clause : (y : ClauseLayer Q P) → j (map-Clause C D A B into_clause into
      (map-Clause Clause Stmt C D whole_clause whole (bare_clause Q P y))) ≡ j
      (map-Clause Clause Stmt A B part_clause part (bare_clause Q P y))
  at-clause (F.Case l c xs) = ap (λ bs. j (F.Case l c bs)) (all-stmts xs)
  at-clause (F.Default l xs) = ap (λ bs. j (F.Default l bs)) (all-stmts xs)

  rolled : (y : StmtLayer Q P) → P (roll-Stmt (bare_stmt Q P y))
  rolled y = ap into (fold-roll-Stmt C D f g (bare_stmt Q P y))
      ∙ carries (map-Stmt Clause Stmt C D whole_clause whole (bare_stmt Q P y)) ∙ at y
      ∙ sym (fold-roll-Stmt A B j k (bare_stmt Q P y))

  clause-rolled : (y : ClauseLayer Q P) → Q (roll-Clause (bare_clause Q P y))
  clause-rolled y = ap into_clause (fold-roll-Clause C D f g (bare_clause Q P y))
      ∙ carries_clause (map-Clause Clause Stmt C D whole_clause whole (bare_clause Q P y)) ∙ at-clause y
      ∙ sym (fold-roll-Clause A B j k (bare_clause Q P y))

  pub carried : (x : Stmt) → into (fold-Stmt C D f g x) ≡ fold-Stmt A B j k x
  carried = every-stmt Q P clause-rolled rolled

  pub carried-clause : (c : Clause) → into_clause (fold-Clause C D f g c) ≡ fold-Clause A B j k c
  carried-clause = every-clause Q P clause-rolled rolled
