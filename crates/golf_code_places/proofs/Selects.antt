-- The code of `select` has at most eight instructions and made parameters for each of its words.
-- For: `bodies_are_small`, src/lib.rt
-- By: induction over the list of clauses
use Rattle.std.proofs.Common.{ℕ, ◌+◌, ◌*◌, ◌≤◌, true, List, [], ◌∷◌, length, map, arith, length-append}
use Rattle.golf_lex_tokens.specs.declared.token.Punctuation.TheVariants as punctuations
use Rattle.golf_syntax_trees.specs.declared.statements.Communication.{Communication}
use Rattle.golf_syntax_trees.specs.declared.statements.Communication.TheVariants as comm
use Rattle.golf_syntax_trees.specs.Words.{punctuation}
use Rattle.golf_syntax_trees.specs.Expressions.{print_expr}
use Rattle.golf_syntax_trees.specs.Simple.{print_comm}
use Rattle.golf_syntax_trees.specs.Statements.{ClauseWords}
use Rattle.golf_check_types.specs.declared.scopes.Scope.{Scope}
use Rattle.golf_check_types.specs.Scopes.{begun}
use Rattle.golf_check_types.specs.Statements.{behind, carried}
use Rattle.golf_code_layout.specs.Piece.{Piece, size, all}
use Rattle.golf_code_of.specs.declared.tables.Tables.{Tables}
use Rattle.golf_code_of.specs.declared.surroundings.Around.{Around}
use Rattle.golf_code_of.specs.Statements.{StatementPart, past, in_order}
use Rattle.golf_code_of.specs.Selects.{ClausePart, operands_of, takes_in, communication, breaking, case_clause}
use Rattle.golf_code_of.specs.Selects.{default_clause, choice, in_clause, clauses_lay, select_part}
use Rattle.golf_code_places.proofs.Words.{clause_total, clauses_total}
use Rattle.golf_code_places.proofs.Exprs.{expr-small}
use Rattle.golf_code_places.proofs.Light.{parameters-append, weight, Light, store-name, store-pair}

-- the operands in any scope, the code after the choice, and the way to the end
abbrev pub ClauseLight : ℕ → ClausePart → Type 0
ClauseLight n c = (l : ℕ) (a : Around) (s at : Scope) → size (c.operands l at) + (weight (c.lay l a s) + 1) ≤ 8 * n

abbrev pub EachClauseLight : List ClausePart → List ClauseWords → Type 0
EachClauseLight [] ws = Unit {0}
EachClauseLight (c ∷ cs) [] = ⊥
EachClauseLight (c ∷ cs) (w ∷ ws) = ClauseLight (clause_total w) c × EachClauseLight cs ws

operands-light : (t : Tables) (c : Communication) (l : ℕ) (s : Scope)
    → size (operands_of t c l s) ≤ 8 * length (print_comm c)
operands-light t (comm.Send c e) l s =
    let h = (expr-small t c l s).piece in
    let i = (expr-small t e l s).piece in
    let w = length-append (print_expr c) (punctuation punctuations.Arrow ∷ print_expr e) in
    omega (arith, h, i, w)
operands-light t (comm.Receive e) l s = let h = (expr-small t e l s).piece in omega (arith, h)
operands-light t (comm.Define n e) l s = let h = (expr-small t e l s).piece in omega (arith, h)
operands-light t (comm.Assign n e) l s = let h = (expr-small t e l s).piece in omega (arith, h)
operands-light t (comm.DefineReceived n m e) l s = let h = (expr-small t e l s).piece in omega (arith, h)

takes-light : (t : Tables) (l k : ℕ) (c : Communication) (s : Scope) → size (takes_in t l k c s) ≤ 12
takes-light t l k (comm.Assign n e) s = let h = store-name t k s n in omega (arith, h)
takes-light t l k (comm.DefineReceived n m e) s = store-pair t k s n m (carried l e s)
takes-light t l k _ s = omega arith

pub light-case : (t : Tables) (k : ℕ) (c : Communication) (xs : List StatementPart) (n m : ℕ) → Light n (in_order xs)
    → length (print_comm c) + n + 2 ≤ m → ClauseLight m (case_clause t k c xs)
light-case t k c xs n m h more l a s at =
    let o = operands-light t c l at in
    let first = (communication t l k c).lay a (begun s) in
    let inside = behind (begun s) ((communication t l k c).walk (begun s)) in
    let second = (breaking (in_order xs)).lay (past a first) inside in
    let e = takes-light t l k c (begun s) in
    let f = h (past a first) (record inside { breaks = true }) in
    omega (arith, o, e, f, more)

pub light-default : (k : ℕ) (xs : List StatementPart) (n m : ℕ) → Light n (in_order xs) → n + 1 ≤ m
    → ClauseLight m (default_clause k xs)
light-default k xs n m h more l a s at = let f = h a (record (begun s) { breaks = true }) in omega (arith, f, more)

clauses-light : (l : ℕ) (cs : List ClausePart) (ws : List ClauseWords) → EachClauseLight cs ws
    → (p : Piece) (a : Around) (s at : Scope)
    → size (all (map (λ (c : ClausePart). c.operands l at) cs)) + weight (clauses_lay l p cs a s) ≤ size p
    + 8 * clauses_total ws
clauses-light l [] ws h p a s at = omega arith
clauses-light l (c ∷ cs) [] h p a s at = absurd h
clauses-light l (c ∷ cs) (w ∷ ws) h p a s at =
    let x = c.lay l (in_clause (length cs) a) s in
    let q = all (Piece.Block p ∷ x.piece ∷ Piece.Exit c.line (length cs) ∷ []) in
    let rest = clauses_lay l q cs (past a x) (behind s (c.walk l s)) in
    let e = h.0 l (in_clause (length cs) a) s at in
    let f = clauses-light l cs ws h.1 q (past a x) (behind s (c.walk l s)) at in
    let g = parameters-append x.made rest.made in
    omega (arith, e, f, g)

pub light-select : (l : ℕ) (cs : List ClausePart) (ws : List ClauseWords) (k : ℕ) → EachClauseLight cs ws
    → clauses_total ws + 1 ≤ k → Light k (select_part l cs)
light-select l cs ws k h more a s = let e = clauses-light l cs ws h (choice l cs s) a s s in omega (arith, e, more)
