-- The code of `select` (Go specification, "Select statements"). The operands and the choice are on the line of
-- `select`, the rest of a clause on its own.
use Rattle.std.specs.Prelude.{ℕ, ◌+◌, true, List, [], ◌∷◌, ◌++◌, length, map, Option, Some, None}
use Rattle.golf_syntax_trees.specs.declared.statements.Communication.{Communication}
use Rattle.golf_syntax_trees.specs.declared.statements.Communication.TheVariants as comm
use Rattle.golf_data.specs.declared.code.Instr.{Instr}
use Rattle.golf_data.specs.declared.code.SelectCase.{SelectCase}
use Rattle.golf_data.specs.declared.code.CaseKind.{CaseKind}
use Rattle.golf_check_types.specs.declared.scopes.Scope.{Scope}
use Rattle.golf_check_types.specs.Scopes.{begun}
use Rattle.golf_check_types.specs.Statements as W
use Rattle.golf_check_types.specs.Statements.{Walk, behind, carried}
use Rattle.golf_code_layout.specs.Piece.{Piece, all, op}
use Rattle.golf_code_of.specs.declared.tables.Tables.{Tables}
use Rattle.golf_code_of.specs.ExpressionCode.{piece_at}
use Rattle.golf_code_of.specs.declared.surroundings.Around.{Around}
use Rattle.golf_code_of.specs.Statements.{Lay, StatementPart, laid, wrapped, past, then_lay, in_order, stores_name}
use Rattle.golf_code_of.specs.Statements.{stores_pair}

-- A clause: its walk, its kind (none for `default`), the code of its operands on the line of `select`, the code after
-- the choice, and its own line.
pub record ClausePart : Type 0 where
  pub walk : ℕ → Walk
  pub kind : Option CaseKind
  pub operands : ℕ → Scope → Piece
  pub lay : ℕ → Lay
  pub line : ℕ

-- Communications.

abbrev pub kind_of : Communication → CaseKind
kind_of (comm.Send c e) = CaseKind.Send
kind_of (comm.Receive e) = CaseKind.Take
kind_of (comm.Define n e) = CaseKind.Take
kind_of (comm.Assign n e) = CaseKind.Take
kind_of (comm.DefineReceived n m e) = CaseKind.TakeOk

abbrev pub operands_of : Tables → Communication → ℕ → Scope → Piece
operands_of t (comm.Send c e) l s = all (piece_at t l s c ∷ piece_at t l s e ∷ [])
operands_of t (comm.Receive e) l s = piece_at t l s e
operands_of t (comm.Define n e) l s = piece_at t l s e
operands_of t (comm.Assign n e) l s = piece_at t l s e
operands_of t (comm.DefineReceived n m e) l s = piece_at t l s e

-- the code of a chosen receive after the choice, for the received values
abbrev pub takes_in : Tables → ℕ → ℕ → Communication → Scope → Piece
takes_in t l k (comm.Send c e) s = Piece.Empty
takes_in t l k (comm.Receive e) s = op k Instr.Drop
takes_in t l k (comm.Define n e) s = op k (Instr.Store s.next)
takes_in t l k (comm.Assign n e) s = stores_name k t s n
takes_in t l k (comm.DefineReceived n m e) s = stores_pair k t s n m (carried l e s)

-- Clauses, each in a block of its own, which `break` leaves.

abbrev pub breaking : StatementPart → StatementPart
breaking x = record { walk = W.breaking x.walk; lay = λ a s. x.lay a (record s { breaks = true }) }

abbrev pub communication : Tables → ℕ → ℕ → Communication → StatementPart
communication t l k c = record { walk = W.communication l k c; lay = λ a s. laid (takes_in t l k c s) }

abbrev pub case_lay : Tables → ℕ → ℕ → Communication → List StatementPart → Lay
case_lay t l k c body a s = then_lay (communication t l k c).lay (communication t l k c).walk
    (breaking (in_order body)).lay a (begun s)

abbrev pub case_clause : Tables → ℕ → Communication → List StatementPart → ClausePart
case_clause t k c body = record {
  walk = λ l. W.case_walk l k c (map (λ (x : StatementPart). x.walk) body);
  kind = Some (kind_of c);
  operands = operands_of t c;
  lay = λ l. case_lay t l k c body;
  line = k;
}

abbrev pub default_clause : ℕ → List StatementPart → ClausePart
default_clause k body = record {
  walk = λ l. W.default_walk (map (λ (x : StatementPart). x.walk) body);
  kind = None;
  operands = λ l s. Piece.Empty;
  lay = λ l a s. (breaking (in_order body)).lay a (begun s);
  line = k;
}

-- Seen from the choice, the clause of this number begins at the target of this number.

abbrev pub case_to : ℕ → Option CaseKind → List SelectCase
case_to i None = []
case_to i (Some kind) = record { kind = kind; target = i } ∷ []

abbrev pub cases_from : ℕ → List ClausePart → List SelectCase
cases_from i [] = []
cases_from i (c ∷ cs) = case_to i c.kind ++ cases_from (i + 1) cs

abbrev pub default_or : ℕ → Option CaseKind → Option ℕ → Option ℕ
default_or i None later = Some i
default_or i (Some kind) later = later

abbrev pub default_from : ℕ → List ClausePart → Option ℕ
default_from i [] = None
default_from i (c ∷ cs) = default_or i c.kind (default_from (i + 1) cs)

-- the operands of all cases in source order, and the choice
abbrev pub choice : ℕ → List ClausePart → Scope → Piece
choice l cs s = all (all (map (λ c. c.operands l s) cs) ∷ Piece.Choose l (cases_from 0 cs) (default_from 0 cs) ∷ [])

-- the surroundings seen from a clause: the end of the `select` comes after the beginnings of the later clauses
abbrev pub in_clause : ℕ → Around → Around
in_clause later a = record { breaks = later; continues = a.continues + (later + 1); functions = a.functions }

-- The clauses after p, seen from which the first of them begins at target 0. Each clause begins at the end of the code
-- before it, and leads to the end of all.
abbrev pub clauses_lay : ℕ → Piece → List ClausePart → Lay
clauses_lay l p [] a s = laid p
clauses_lay l p (c ∷ cs) a s =
    let x = c.lay l (in_clause (length cs) a) s in
    let rest = clauses_lay l (all (Piece.Block p ∷ x.piece ∷ Piece.Exit c.line (length cs) ∷ [])) cs (past a x)
    (behind s (c.walk l s)) in
    record { piece = rest.piece; made = x.made ++ rest.made }

abbrev pub select_part : ℕ → List ClausePart → StatementPart
select_part l cs = record {
  walk = W.in_order (map (λ c. c.walk l) cs);
  lay = λ a s. wrapped Piece.Block (clauses_lay l (choice l cs s) cs a s);
}
