-- The code of `select` by its facts. The facts of each clause begin with their number, so that the operands of all
-- clauses are found before any body.
use Rattle.std.specs.Prelude.{ℕ, ◌+◌, List, [], ◌∷◌, ◌++◌, length, Option, Some, None}
use Rattle.golf_syntax_trees.specs.declared.statements.Communication.{Communication}
use Rattle.golf_syntax_trees.specs.declared.statements.Communication.TheVariants as comm
use Rattle.golf_data.specs.declared.code.Instr.{Instr}
use Rattle.golf_data.specs.declared.code.SelectCase.{SelectCase}
use Rattle.golf_data.specs.declared.code.CaseKind.{CaseKind}
use Rattle.golf_check_types.specs.declared.facts.Fact.{Fact}
use Rattle.golf_code_layout.specs.Piece.{Piece, all, op}
use Rattle.golf_code_of.specs.declared.tables.Tables.{Tables}
use Rattle.golf_code_of.specs.Statements.{laid, wrapped, past}
use Rattle.golf_code_of.specs.Selects.{kind_of, case_to, default_or, in_clause}
use Rattle.golf_code_facts.specs.Facts.{past_one, skip}
use Rattle.golf_code_facts.specs.Expressions.{pushed_at}
use Rattle.golf_code_facts.specs.Statements.{LayBy, PieceBy, by, piece_by, stores_next, stores_two, past_two, after}
use Rattle.golf_code_facts.specs.Statements.{in_order}

-- A clause: its kind (none for `default`), the code of its operands on the line of `select`, the code after the choice,
-- and its own line.
pub record ClauseBy : Type 0 where
  pub kind : Option CaseKind
  pub operands : ℕ → List Fact → Piece
  pub lay : LayBy
  pub line : ℕ

-- Communications.

abbrev pub operands_by : Tables → Communication → ℕ → List Fact → Piece
operands_by t (comm.Send c e) l fs = all (pushed_at t l fs c ∷ pushed_at t l (skip fs) e ∷ [])
operands_by t (comm.Receive e) l fs = pushed_at t l fs e
operands_by t (comm.Define n e) l fs = pushed_at t l fs e
operands_by t (comm.Assign n e) l fs = pushed_at t l fs e
operands_by t (comm.DefineReceived n m e) l fs = pushed_at t l fs e

-- after the operands: the code of a chosen receive for the received values
abbrev pub takes_in : Tables → ℕ → Communication → List Fact → PieceBy
takes_in t k (comm.Send c e) fs = piece_by Piece.Empty (skip (skip fs))
takes_in t k (comm.Receive e) fs = piece_by (op k Instr.Drop) (skip fs)
takes_in t k (comm.Define n e) fs = stores_next k t (skip fs)
takes_in t k (comm.Assign n e) fs = stores_next k t (skip fs)
takes_in t k (comm.DefineReceived n m e) fs = piece_by (stores_two k t (skip fs)) (past_two (skip fs))

-- Clauses.

abbrev pub case_lay : Tables → ℕ → Communication → List LayBy → LayBy
case_lay t k c body a fs = after (takes_in t k c) (in_order body) a (past_one fs)

abbrev pub case_clause : Tables → ℕ → Communication → List LayBy → ClauseBy
case_clause t k c body = record {
  kind = Some (kind_of c);
  operands = λ l fs. operands_by t c l (past_one fs);
  lay = case_lay t k c body;
  line = k;
}

abbrev pub default_clause : ℕ → List LayBy → ClauseBy
default_clause k body = record {
  kind = None;
  operands = λ l fs. Piece.Empty;
  lay = λ a fs. in_order body a (past_one fs);
  line = k;
}

abbrev pub cases_from : ℕ → List ClauseBy → List SelectCase
cases_from i [] = []
cases_from i (c ∷ cs) = case_to i c.kind ++ cases_from (i + 1) cs

abbrev pub default_from : ℕ → List ClauseBy → Option ℕ
default_from i [] = None
default_from i (c ∷ cs) = default_or i c.kind (default_from (i + 1) cs)

-- the operands of all clauses in source order
abbrev pub operands_all : ℕ → List ClauseBy → List Fact → List Piece
operands_all l [] fs = []
operands_all l (c ∷ cs) fs = c.operands l fs ∷ operands_all l cs (skip fs)

abbrev pub choice : ℕ → List ClauseBy → List Fact → Piece
choice l cs fs = all (all (operands_all l cs fs) ∷ Piece.Choose l (cases_from 0 cs) (default_from 0 cs) ∷ [])

-- the clauses after p, seen from which the first of them begins at target 0
abbrev pub clauses_lay : Piece → List ClauseBy → LayBy
clauses_lay p [] a fs = by (laid p) fs
clauses_lay p (c ∷ cs) a fs =
    let x = c.lay (in_clause (length cs) a) fs in
    let rest = clauses_lay (all (Piece.Block p ∷ x.laid.piece ∷ Piece.Exit c.line (length cs) ∷ [])) cs
    (past a x.laid) x.left in
    by (record { piece = rest.laid.piece; made = x.laid.made ++ rest.laid.made }) rest.left

abbrev pub select_lay : ℕ → List ClauseBy → LayBy
select_lay l cs a fs = let g = clauses_lay (choice l cs fs) cs a fs in by (wrapped Piece.Block g.laid) g.left
