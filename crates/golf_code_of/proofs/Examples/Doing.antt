-- How the small statements of the examples are written: each with its code, by the equations for its kind.
use Rattle.std.proofs.Common.{◌≡◌, ℕ, pos, ◌&&◌, not, List, [], ◌∷◌, ◌++◌, map, Some, None, refl, ap, ◌∙◌}
use Rattle.golf_syntax_trees.specs.declared.statements.UpdateOperator.{UpdateOperator}
use Rattle.golf_syntax_trees.specs.declared.statements.Simple.{Simple}
use Rattle.golf_syntax_trees.specs.declared.statements.SimpleKind.{SimpleKind}
use Rattle.golf_syntax_trees.specs.declared.statements.SimpleKind.TheVariants as simple
use Rattle.golf_syntax_trees.specs.declared.statements.VarContent.TheVariants as content
use Rattle.golf_syntax_trees.specs.declared.statements.Header.TheVariants as header
use Rattle.golf_syntax_trees.specs.declared.statements.RangeNames.{RangeNames}
use Rattle.golf_syntax_trees.specs.declared.statements.Communication.TheVariants as comm
use Rattle.golf_syntax_trees.specs.declared.statements.Stmt.{Stmt}
use Rattle.golf_syntax_trees.specs.declared.statements.Stmt.TheVariants as st
use Rattle.golf_syntax_trees.specs.declared.statements.Clause.{Clause}
use Rattle.golf_syntax_trees.specs.declared.statements.Clause.TheVariants as cl
use Rattle.golf_data.specs.declared.code.Instr.{Instr}
use Rattle.golf_data.specs.declared.code.CodeLine.{CodeLine}
use Rattle.golf_data.specs.declared.code.CaseKind.{CaseKind}
use Rattle.golf_check_types.specs.declared.types.Base.TheVariants as base
use Rattle.golf_check_types.specs.declared.facts.Fact.TheVariants as fact
use Rattle.golf_check_types.specs.declared.scopes.Scope.{Scope}
use Rattle.golf_check_types.specs.Faults.{broken}
use Rattle.golf_check_types.specs.Facts.{new_target}
use Rattle.golf_check_types.specs.Types.{has_base, type_given, is_nil, element, assignable}
use Rattle.golf_check_types.specs.Names.{is_blank}
use Rattle.golf_check_types.specs.Scopes.{is_here, is_reserved, may_be_declared, begun}
use Rattle.golf_check_types.specs.Written.{WriteType}
use Rattle.golf_check_types.specs.Expressions.{Judged, used, named_or_used, given_by, facts_of}
use Rattle.golf_check_types.specs.Calls.{call_judged}
use Rattle.golf_check_types.specs.Judgments.{Judge, judge}
use Rattle.golf_check_types.specs.Statements as W
use Rattle.golf_code_layout.specs.Piece.{Piece, all, op, placed}
use Rattle.golf_code_of.specs.Values.{push, zero_value}
use Rattle.golf_code_of.specs.ExpressionCode.{Coded, coded, argument}
use Rattle.golf_code_of.specs.declared.surroundings.Making.{Making}
use Rattle.golf_code_of.specs.Calls.{ArgumentCode, makings, beginning, pushes}
use Rattle.golf_code_of.specs.Statements as C
use Rattle.golf_code_of.specs.Statements.{StatementPart, laid, wrapped}
use Rattle.golf_code_of.specs.Loops as L
use Rattle.golf_code_of.specs.Selects as S
use Rattle.golf_code_of.specs.Selects.{ClausePart}
use Rattle.golf_code_of.specs.StatementCode.{stmt_part, clause_part}
use Rattle.golf_code_of.proofs.StmtCodes as s
use Rattle.golf_code_of.proofs.Examples.Writing.{WrittenType, Sample, known, tables, scope, outermost}

-- Simple statements.

pub record SimpleSample : Type 0 where
  pub tree : Simple
  pub value : StatementPart
  pub same : C.simple_part tables tree ≡ value

abbrev pub simply : ℕ → SimpleKind → Simple
simply l kind = record { line = l; kind = kind }

-- a simple statement in terms of what its expressions are, and of their code
abbrev action_of : ℕ → Judge → Coded → StatementPart
action_of l j c = record {
  walk = λ s. W.judges ((j l s).faults ++ W.action_faults l (j l s).meaning)
      (facts_of (j l s));
  lay = λ a s. laid (all ((c.code l s).piece ∷ C.drops l (j l s).meaning ∷ []));
}

abbrev pub action : ℕ → Sample → SimpleSample
action l x = record {
  tree = simply l (simple.Expression x.tree);
  value = action_of l x.value.judge x.value;
  same = known x (action_of l);
}

abbrev send_of : ℕ → Judge → Coded → Judge → Coded → StatementPart
send_of l j c k d = record {
  walk = λ s. W.judges (used l (j l s) ++ (used l (k l s) ++ W.send_faults l (given_by (j l s)) (given_by (k l s))))
      (facts_of (j l s) ++ facts_of (k l s));
  lay = λ a s. laid (all ((c.code l s).piece ∷ (d.code l s).piece ∷ op l Instr.Send ∷ []));
}

abbrev pub send : ℕ → Sample → Sample → SimpleSample
send l x y = record {
  tree = simply l (simple.Send x.tree y.tree);
  value = send_of l x.value.judge x.value y.value.judge y.value;
  same = known x (λ j c. send_of l j c (judge y.tree) (coded tables y.tree))
      ∙ known y (send_of l x.value.judge x.value);
}

abbrev step_of : ℕ → Instr → Judge → Coded → StatementPart
step_of l i j c = record {
  walk = λ s. W.judges (named_or_used l (j l s) ++ W.step_faults l (j l s).meaning) (facts_of (j l s));
  lay = λ a s. laid (C.updates l (c.code l s) (op l (Instr.Int (pos 1))) i);
}

abbrev pub increment : ℕ → Sample → SimpleSample
increment l x = record {
  tree = simply l (simple.Increment x.tree);
  value = step_of l Instr.Add x.value.judge x.value;
  same = known x (step_of l Instr.Add);
}

abbrev pub decrement : ℕ → Sample → SimpleSample
decrement l x = record {
  tree = simply l (simple.Decrement x.tree);
  value = step_of l Instr.Sub x.value.judge x.value;
  same = known x (step_of l Instr.Sub);
}

abbrev assign_of : ℕ → Judge → Coded → Judge → Coded → StatementPart
assign_of l j c k d = record {
  walk = λ s. W.judges ((j l s).faults ++
      (W.left_faults l (j l s).meaning ++ (used l (k l s) ++ W.assign_faults l (j l s).meaning (given_by (k l s)))))
      (facts_of (j l s) ++ facts_of (k l s));
  lay = λ a s. laid (C.assigns (c.code l s) (d.code l s).piece);
}

abbrev pub assign : ℕ → Sample → Sample → SimpleSample
assign l x y = record {
  tree = simply l (simple.Assign x.tree y.tree);
  value = assign_of l x.value.judge x.value y.value.judge y.value;
  same = known x (λ j c. assign_of l j c (judge y.tree) (coded tables y.tree))
      ∙ known y (assign_of l x.value.judge x.value);
}

abbrev update_of : ℕ → UpdateOperator → Judge → Coded → Judge → Coded → StatementPart
update_of l o j c k d = record {
  walk = λ s. W.judges (named_or_used l (j l s)
      ++ (used l (k l s) ++ W.update_faults l (j l s).meaning (given_by (k l s))))
      (facts_of (j l s) ++ facts_of (k l s));
  lay = λ a s. laid (C.updates l (c.code l s) (d.code l s).piece (C.update_instr o));
}

abbrev pub update : ℕ → Sample → UpdateOperator → Sample → SimpleSample
update l x o y = record {
  tree = simply l (simple.Update x.tree o y.tree);
  value = update_of l o x.value.judge x.value y.value.judge y.value;
  same = known x (λ j c. update_of l o j c (judge y.tree) (coded tables y.tree))
      ∙ known y (update_of l o x.value.judge x.value);
}

abbrev define_of : ℕ → List ℕ → Judge → Coded → StatementPart
define_of l n j c = record {
  walk = λ s. W.declares_one s n (type_given (given_by (j l s)))
      (used l (j l s) ++ (broken l 2 (not (is_blank n) && not (is_reserved n))
      ++ (broken l 23 (not (is_nil (given_by (j l s)))) ++ broken l 24 (not (is_here s n)))))
      (facts_of (j l s) ++ new_target s (type_given (given_by (j l s))) ∷ []);
  lay = λ a s. laid (all ((c.code l s).piece ∷ op l (Instr.Store s.next) ∷ []));
}

abbrev pub define : ℕ → List ℕ → Sample → SimpleSample
define l n x = record {
  tree = simply l (simple.Define n x.tree);
  value = define_of l n x.value.judge x.value;
  same = known x (define_of l n);
}

abbrev received_of : ℕ → Judge → Scope → W.Walked
received_of l j s = W.judges (used l (j l s) ++ W.receive_faults l (given_by (j l s))) (facts_of (j l s))

abbrev define_received_of : ℕ → List ℕ → List ℕ → Judge → Coded → StatementPart
define_received_of l n m j c = record {
  walk = λ s. W.both (received_of l j s) (W.pair l n m (element (given_by (j l s))) s);
  lay = λ a s. laid (all ((c.code l s).piece ∷ op l Instr.ReceiveOk
      ∷ C.stores_pair l tables s n m (element (given_by (j l s))) ∷ []));
}

abbrev pub define_received : ℕ → List ℕ → List ℕ → Sample → SimpleSample
define_received l n m x = record {
  tree = simply l (simple.DefineReceived n m x.tree);
  value = define_received_of l n m x.value.judge x.value;
  same = known x (define_received_of l n m);
}

abbrev assign_received_of : ℕ → List ℕ → List ℕ → Judge → Coded → StatementPart
assign_received_of l n m j c = record {
  walk = λ s. W.both (received_of l j s) (W.assign_pair l n m (element (given_by (j l s))) s);
  lay = λ a s. laid (all ((c.code l s).piece ∷ op l Instr.ReceiveOk ∷ C.stores_name l tables s m
      ∷ C.stores_name l tables s n ∷ []));
}

abbrev pub assign_received : ℕ → List ℕ → List ℕ → Sample → SimpleSample
assign_received l n m x = record {
  tree = simply l (simple.AssignReceived n m x.tree);
  value = assign_received_of l n m x.value.judge x.value;
  same = known x (assign_received_of l n m);
}

-- Statements.

pub record StmtSample : Type 0 where
  pub tree : Stmt
  pub value : StatementPart
  pub same : stmt_part tables tree ≡ value

abbrev pub does : SimpleSample → StmtSample
does x = record { tree = st.Simple x.tree; value = x.value; same = s.part-Simple tables x.tree ∙ x.same }

abbrev pub return_value : ℕ → Sample → StmtSample
return_value l x = record {
  tree = st.Return l (Some x.tree);
  value = record {
    walk = λ s. W.judges (used l (x.value.judge l s)
        ++ W.result_faults l s.result (given_by (x.value.judge l s))) (facts_of (x.value.judge l s));
    lay = λ a s. laid (all ((x.value.code l s).piece ∷ op l Instr.ReturnValue ∷ []));
  };
  same = s.part-Return tables l (Some x.tree)
      ∙ known x (λ j c. record {
        walk = λ s. W.judges (used l (j l s) ++ W.result_faults l s.result (given_by (j l s)))
            (facts_of (j l s));
        lay = λ a s. laid (all ((c.code l s).piece ∷ op l Instr.ReturnValue ∷ []));
      });
}

abbrev pub return_nothing : ℕ → StmtSample
return_nothing l = record {
  tree = st.Return l None;
  value = C.return_part tables l None;
  same = s.part-Return tables l None;
}

abbrev pub break : ℕ → StmtSample
break l = record { tree = st.Break l; value = C.break_part l; same = s.part-Break tables l }

abbrev pub continue : ℕ → StmtSample
continue l = record { tree = st.Continue l; value = C.continue_part l; same = s.part-Continue tables l }

abbrev pub trees : List StmtSample → List Stmt
trees xs = map (λ x. x.tree) xs

abbrev pub parts : List StmtSample → List StatementPart
parts xs = map (λ x. x.value) xs

pub all-same : (xs : List StmtSample) → map (stmt_part tables) (trees xs) ≡ parts xs
all-same [] = refl
all-same (x ∷ xs) = ap (λ p. p ∷ map (stmt_part tables) (trees xs)) x.same ∙ ap (λ ps. x.value ∷ ps) (all-same xs)

abbrev pub block : ℕ → List StmtSample → StmtSample
block l xs = record {
  tree = st.Block l (trees xs);
  value = C.block (parts xs);
  same = s.part-Block tables l (trees xs)
      ∙ ap (λ ps. C.block ps) (all-same xs);
}

-- a test, and what stands after it
abbrev tested_of : ℕ → StatementPart → Judge → Coded → StatementPart
tested_of l x j c = record {
  walk = λ s. W.both (W.judges (used l (j l s) ++ broken l 8 (has_base base.Bool (given_by (j l s))))
      (facts_of (j l s))) (x.walk s);
  lay = λ a s. wrapped (λ p. all ((c.code l s).piece ∷ Piece.Unless l 0 ∷ p ∷ [])) (x.lay a s);
}

abbrev pub if_then : ℕ → Sample → List StmtSample → StmtSample
if_then l x xs = record {
  tree = st.If l None x.tree (trees xs);
  value = C.in_block (C.ends_here (C.then C.nothing (tested_of l (C.block (parts xs)) x.value.judge x.value)));
  same = s.part-If tables l None x.tree (trees xs)
      ∙ (ap (λ ps. C.if_part tables l None x.tree ps) (all-same xs)
      ∙ known x (λ j c. C.in_block (C.ends_here (C.then C.nothing (tested_of l (C.block (parts xs)) j c)))));
}

abbrev pub if_first_then : ℕ → SimpleSample → Sample → List StmtSample → StmtSample
if_first_then l i x xs = record {
  tree = st.If l (Some i.tree) x.tree (trees xs);
  value = C.in_block (C.ends_here (C.then i.value (tested_of l (C.block (parts xs)) x.value.judge x.value)));
  same = s.part-If tables l (Some i.tree) x.tree (trees xs)
      ∙ (ap (λ ps. C.if_part tables l (Some i.tree) x.tree ps) (all-same xs)
      ∙ (ap (λ p. C.in_block (C.ends_here (C.then p (C.behind_test tables l x.tree (C.block (parts xs)))))) i.same
      ∙ known x (λ j c. C.in_block (C.ends_here (C.then i.value (tested_of l (C.block (parts xs)) j c))))));
}

abbrev pub if_else : ℕ → Sample → List StmtSample → StmtSample → StmtSample
if_else l x xs y = record {
  tree = st.IfElse l None x.tree (trees xs) y.tree;
  value = C.in_block (C.or_else l (C.then C.nothing (tested_of l (C.block (parts xs)) x.value.judge x.value)) y.value);
  same = s.part-IfElse tables l None x.tree (trees xs) y.tree
      ∙ (ap (λ ps. C.else_part tables l None x.tree ps (stmt_part tables y.tree)) (all-same xs)
      ∙ (ap (λ p. C.else_part tables l None x.tree (parts xs) p) y.same
      ∙ known x (λ j c. C.in_block (C.or_else l
      (C.then C.nothing (tested_of l (C.block (parts xs)) j c)) y.value))));
}

-- loops

abbrev pub forever : ℕ → List StmtSample → StmtSample
forever l xs = record {
  tree = st.For l header.Forever (trees xs);
  value = L.for_part tables l header.Forever (parts xs);
  same = s.part-For tables l header.Forever (trees xs) ∙ ap (λ ps. L.for_part tables l header.Forever ps) (all-same xs);
}

abbrev while_of : ℕ → StatementPart → Judge → Coded → StatementPart
while_of l body j c = C.in_block (record {
  walk = λ s. W.both (W.judges (used l (j l s) ++ broken l 8 (has_base base.Bool (given_by (j l s))))
      (facts_of (j l s))) (body.walk s);
  lay = λ a s. wrapped (λ p. L.round (all ((c.code l s).piece ∷ Piece.Unless l 1 ∷ p ∷ Piece.Exit l 0 ∷ [])))
      (body.lay a s);
})

abbrev pub while : ℕ → Sample → List StmtSample → StmtSample
while l x xs = record {
  tree = st.For l (header.While x.tree) (trees xs);
  value = while_of l (L.in_loop 1 0 (C.block (parts xs))) x.value.judge x.value;
  same = s.part-For tables l (header.While x.tree) (trees xs)
      ∙ (ap (λ ps. L.for_part tables l (header.While x.tree) ps) (all-same xs)
      ∙ known x (while_of l (L.in_loop 1 0 (C.block (parts xs)))));
}

abbrev pub steps_empty : ℕ → List StmtSample → StmtSample
steps_empty l xs = record {
  tree = st.For l (header.Steps None None None) (trees xs);
  value = L.for_part tables l (header.Steps None None None) (parts xs);
  same = s.part-For tables l (header.Steps None None None) (trees xs)
      ∙ ap (λ ps. L.for_part tables l (header.Steps None None None) ps) (all-same xs);
}

abbrev stepping_of : ℕ → StatementPart → StatementPart → Judge → Coded → StatementPart
stepping_of l post body j c = record {
  walk = λ s. W.both (W.judges (used l (j l s) ++ broken l 8 (has_base base.Bool (given_by (j l s))))
      (facts_of (j l s))) (W.then (W.counted post.walk) body.walk s);
  lay = λ a s.
      let p = post.lay a s in
      wrapped (λ b. L.round (all (all ((c.code l s).piece ∷ Piece.Unless l 1 ∷ []) ∷ Piece.Block b ∷ p.piece
      ∷ Piece.Exit l 0 ∷ []))) (body.lay (C.past a p) (W.behind s (post.walk s)));
}

abbrev pub steps : ℕ → SimpleSample → Sample → SimpleSample → List StmtSample → StmtSample
steps l i x p xs = record {
  tree = st.For l (header.Steps (Some i.tree) (Some x.tree) (Some p.tree)) (trees xs);
  value = C.in_block (C.then i.value (stepping_of l p.value
      (L.in_loop 2 0 (C.block (parts xs))) x.value.judge x.value));
  same = s.part-For tables l (header.Steps (Some i.tree) (Some x.tree) (Some p.tree)) (trees xs)
      ∙ (ap (λ ps. L.for_part tables l (header.Steps (Some i.tree) (Some x.tree) (Some p.tree)) ps) (all-same xs)
      ∙ (ap (λ q. C.in_block (C.then q (L.stepping tables l (Some x.tree) (C.simple_part tables p.tree)
      (L.in_loop 2 0 (C.block (parts xs)))))) i.same
      ∙ (ap (λ q. C.in_block (C.then i.value
      (L.stepping tables l (Some x.tree) q (L.in_loop 2 0 (C.block (parts xs)))))) p.same
      ∙ known x (λ j c. C.in_block (C.then i.value
      (stepping_of l p.value (L.in_loop 2 0 (C.block (parts xs))) j c))))));
}

abbrev range_of : ℕ → RangeNames → StatementPart → Judge → Coded → StatementPart
range_of l names body j c = C.in_block (record {
  walk = λ s. W.both (W.judges (used l (j l s) ++ W.range_faults l names (given_by (j l s)))
      (facts_of (j l s) ++ fact.Hidden s.next ∷ [])) (W.then (W.range_slots names (given_by (j l s))) body.walk s);
  lay = λ a s. let v = given_by (j l s) in wrapped (L.range_piece l names v (c.code l s).piece s)
      (body.lay a (W.behind s (W.range_slots names v s)));
})

abbrev pub range_over : ℕ → RangeNames → Sample → List StmtSample → StmtSample
range_over l names x xs = record {
  tree = st.For l (header.Range names x.tree) (trees xs);
  value = range_of l names (L.in_loop 2 0 (C.block (parts xs))) x.value.judge x.value;
  same = s.part-For tables l (header.Range names x.tree) (trees xs)
      ∙ (ap (λ ps. L.for_part tables l (header.Range names x.tree) ps) (all-same xs)
      ∙ known x (range_of l names (L.in_loop 2 0 (C.block (parts xs)))));
}

-- `go` and `defer`

abbrev begin_of : ℕ → (ℕ → ℕ → Instr) → (ℕ → Scope → List Judged) → (ℕ → Scope → List ArgumentCode) → Judge → Coded
    → StatementPart
begin_of l begin js given_args j c = record {
  walk = λ s. W.judges
      ((call_judged l s (j l s) (js l s)).faults
      ++ (W.done_faults l (call_judged l s (j l s) (js l s)).meaning
      ++ broken l 12 (W.may_be_begun (j l s).meaning)))
      (call_judged l s (j l s) (js l s)).inner;
  lay = λ a s. record {
    piece = all ((c.code l s).piece ∷ pushes (given_args l s)
        ∷ beginning l begin a.functions (j l s).meaning (given_args l s) ∷ []);
    made = makings l (j l s).meaning (given_args l s);
  };
}

-- without arguments, and with one
abbrev begin_alone : ℕ → (ℕ → ℕ → Instr) → Judge → Coded → StatementPart
begin_alone l begin = begin_of l begin (λ l s. []) (λ l s. [])

abbrev begin_with : ℕ → (ℕ → ℕ → Instr) → Judge → Coded → Judge → Coded → StatementPart
begin_with l begin j c k d = begin_of l begin (λ l s. k l s ∷ []) (λ l s. argument l s d ∷ []) j c

abbrev pub go : ℕ → Sample → Sample → StmtSample
go l x y = record {
  tree = st.Go l x.tree (y.tree ∷ []);
  value = begin_with l Instr.Go x.value.judge x.value y.value.judge y.value;
  same = s.part-Go tables l x.tree (y.tree ∷ [])
      ∙ (known x (λ j c. begin_with l Instr.Go j c (judge y.tree) (coded tables y.tree))
      ∙ known y (begin_with l Instr.Go x.value.judge x.value));
}

abbrev pub defer : ℕ → Sample → Sample → StmtSample
defer l x y = record {
  tree = st.Defer l x.tree (y.tree ∷ []);
  value = begin_with l Instr.Defer x.value.judge x.value y.value.judge y.value;
  same = s.part-Defer tables l x.tree (y.tree ∷ [])
      ∙ (known x (λ j c. begin_with l Instr.Defer j c (judge y.tree) (coded tables y.tree))
      ∙ known y (begin_with l Instr.Defer x.value.judge x.value));
}

abbrev pub defer_alone : ℕ → Sample → StmtSample
defer_alone l x = record {
  tree = st.Defer l x.tree [];
  value = begin_alone l Instr.Defer x.value.judge x.value;
  same = s.part-Defer tables l x.tree [] ∙ known x (begin_alone l Instr.Defer);
}

-- Clauses.

pub record ClauseSample : Type 0 where
  pub tree : Clause
  pub value : ClausePart
  pub same : clause_part tables tree ≡ value

-- a clause that communicates so, with this kind, these operands and this code after the choice
abbrev clause_of : ℕ → CaseKind → (ℕ → W.Walk) → (ℕ → Scope → Piece) → (ℕ → Scope → Piece) → List StatementPart
    → ClausePart
clause_of k kind w operands takes body = record {
  walk = λ l. W.counted (W.in_block (W.then (w l)
      (W.breaking (W.in_order (map (λ (x : StatementPart). x.walk) body)))));
  kind = Some kind;
  operands = operands;
  lay = λ l a s. C.then_lay (λ b r. laid (takes l r)) (w l) (S.breaking (C.in_order body)).lay a (begun s);
  line = k;
}

abbrev sends_of : ℕ → List StatementPart → Judge → Coded → Judge → Coded → ClausePart
sends_of k body j c m d = clause_of k CaseKind.Send (λ l. (send_of l j c m d).walk)
    (λ l s. all ((c.code l s).piece ∷ (d.code l s).piece ∷ [])) (λ l s. Piece.Empty) body

abbrev pub case_send : ℕ → Sample → Sample → List StmtSample → ClauseSample
case_send k x y xs = record {
  tree = cl.Case k (comm.Send x.tree y.tree) (trees xs);
  value = sends_of k (parts xs) x.value.judge x.value y.value.judge y.value;
  same = s.clause-Case tables k (comm.Send x.tree y.tree) (trees xs)
      ∙ (ap (λ ps. S.case_clause tables k (comm.Send x.tree y.tree) ps) (all-same xs)
      ∙ (known x (λ j c. sends_of k (parts xs) j c (judge y.tree) (coded tables y.tree))
      ∙ known y (sends_of k (parts xs) x.value.judge x.value)));
}

abbrev takes_of : ℕ → List StatementPart → Judge → Coded → ClausePart
takes_of k body j c = clause_of k CaseKind.Take (λ l s. received_of l j s) (λ l s. (c.code l s).piece)
    (λ l s. op k Instr.Drop) body

abbrev pub case_receive : ℕ → Sample → List StmtSample → ClauseSample
case_receive k x xs = record {
  tree = cl.Case k (comm.Receive x.tree) (trees xs);
  value = takes_of k (parts xs) x.value.judge x.value;
  same = s.clause-Case tables k (comm.Receive x.tree) (trees xs)
      ∙ (ap (λ ps. S.case_clause tables k (comm.Receive x.tree) ps) (all-same xs) ∙ known x (takes_of k (parts xs)));
}

abbrev defines_of : ℕ → List ℕ → List StatementPart → Judge → Coded → ClausePart
defines_of k n body j c = clause_of k CaseKind.Take
    (λ l s. W.both (received_of l j s) (W.define_name k n (element (given_by (j l s))) s)) (λ l s. (c.code l s).piece)
    (λ l s. op k (Instr.Store s.next)) body

abbrev pub case_define : ℕ → List ℕ → Sample → List StmtSample → ClauseSample
case_define k n x xs = record {
  tree = cl.Case k (comm.Define n x.tree) (trees xs);
  value = defines_of k n (parts xs) x.value.judge x.value;
  same = s.clause-Case tables k (comm.Define n x.tree) (trees xs)
      ∙ (ap (λ ps. S.case_clause tables k (comm.Define n x.tree) ps) (all-same xs)
      ∙ known x (defines_of k n (parts xs)));
}

abbrev assigns_of : ℕ → List ℕ → List StatementPart → Judge → Coded → ClausePart
assigns_of k n body j c = clause_of k CaseKind.Take
    (λ l s. W.both (received_of l j s) (W.assign_name k n (element (given_by (j l s))) s)) (λ l s. (c.code l s).piece)
    (λ l s. C.stores_name k tables s n) body

abbrev pub case_assign : ℕ → List ℕ → Sample → List StmtSample → ClauseSample
case_assign k n x xs = record {
  tree = cl.Case k (comm.Assign n x.tree) (trees xs);
  value = assigns_of k n (parts xs) x.value.judge x.value;
  same = s.clause-Case tables k (comm.Assign n x.tree) (trees xs)
      ∙ (ap (λ ps. S.case_clause tables k (comm.Assign n x.tree) ps) (all-same xs)
      ∙ known x (assigns_of k n (parts xs)));
}

abbrev pairs_of : ℕ → List ℕ → List ℕ → List StatementPart → Judge → Coded → ClausePart
pairs_of k n m body j c = clause_of k CaseKind.TakeOk
    (λ l s. W.both (received_of l j s) (W.pair k n m (element (given_by (j l s))) s)) (λ l s. (c.code l s).piece)
    (λ l s. C.stores_pair k tables s n m (element (given_by (j l s)))) body

abbrev pub case_define_received : ℕ → List ℕ → List ℕ → Sample → List StmtSample → ClauseSample
case_define_received k n m x xs = record {
  tree = cl.Case k (comm.DefineReceived n m x.tree) (trees xs);
  value = pairs_of k n m (parts xs) x.value.judge x.value;
  same = s.clause-Case tables k (comm.DefineReceived n m x.tree) (trees xs)
      ∙ (ap (λ ps. S.case_clause tables k (comm.DefineReceived n m x.tree) ps) (all-same xs)
      ∙ known x (pairs_of k n m (parts xs)));
}

abbrev pub default : ℕ → List StmtSample → ClauseSample
default k xs = record {
  tree = cl.Default k (trees xs);
  value = S.default_clause k (parts xs);
  same = s.clause-Default tables k (trees xs) ∙ ap (λ ps. S.default_clause k ps) (all-same xs);
}

abbrev pub clauses : List ClauseSample → List Clause
clauses cs = map (λ c. c.tree) cs

pub clauses-same : (cs : List ClauseSample)
    → map (clause_part tables) (clauses cs) ≡ map (λ (c : ClauseSample). c.value) cs
clauses-same [] = refl
clauses-same (c ∷ cs) = ap (λ p. p ∷ map (clause_part tables) (clauses cs)) c.same
    ∙ ap (λ ps. c.value ∷ ps) (clauses-same cs)

abbrev pub select : ℕ → List ClauseSample → StmtSample
select l cs = record {
  tree = st.Select l (clauses cs);
  value = S.select_part l (map (λ c. c.value) cs);
  same = s.part-Select tables l (clauses cs) ∙ ap (λ ps. S.select_part l ps) (clauses-same cs);
}

-- Variables.

abbrev zero_of : ℕ → List ℕ → WriteType → StatementPart
zero_of l n w = record {
  walk = λ s. W.declares_one s n (w l s).type ((w l s).faults ++ broken l 2 (may_be_declared s n))
      (new_target s (w l s).type ∷ []);
  lay = λ a s. laid (all (op l (push (zero_value (w l s).type)) ∷ op l (Instr.Store s.next) ∷ []));
}

abbrev pub var_zero : ℕ → List ℕ → WrittenType → StmtSample
var_zero l n t = record {
  tree = st.Var (record { line = l; name = n; content = content.Zero t.tree });
  value = zero_of l n t.value;
  same = s.part-Var tables (record { line = l; name = n; content = content.Zero t.tree })
      ∙ ap (λ w. zero_of l n w) t.same;
}

abbrev typed_of : ℕ → List ℕ → WriteType → Judge → Coded → StatementPart
typed_of l n w j c = record {
  walk = λ s. W.declares_one s n (w l s).type
      ((w l s).faults ++ (used l (j l s) ++ (broken l 2 (may_be_declared s n)
      ++ broken l 9 (assignable (given_by (j l s)) (w l s).type))))
      (facts_of (j l s) ++ new_target s (w l s).type ∷ []);
  lay = λ a s. laid (all ((c.code l s).piece ∷ op l (Instr.Store s.next) ∷ []));
}

abbrev pub var_typed : ℕ → List ℕ → WrittenType → Sample → StmtSample
var_typed l n t x = record {
  tree = st.Var (record { line = l; name = n; content = content.Typed t.tree x.tree });
  value = typed_of l n t.value x.value.judge x.value;
  same = s.part-Var tables (record { line = l; name = n; content = content.Typed t.tree x.tree })
      ∙ (ap (λ w. typed_of l n w (judge x.tree) (coded tables x.tree)) t.same ∙ known x (typed_of l n t.value));
}

abbrev untyped_of : ℕ → List ℕ → Judge → Coded → StatementPart
untyped_of l n j c = record {
  walk = λ s. W.declares_one s n (type_given (given_by (j l s)))
      (used l (j l s) ++ (broken l 2 (may_be_declared s n) ++ broken l 23 (not (is_nil (given_by (j l s))))))
      (facts_of (j l s) ++ new_target s (type_given (given_by (j l s))) ∷ []);
  lay = λ a s. laid (all ((c.code l s).piece ∷ op l (Instr.Store s.next) ∷ []));
}

abbrev pub var_untyped : ℕ → List ℕ → Sample → StmtSample
var_untyped l n x = record {
  tree = st.Var (record { line = l; name = n; content = content.Untyped x.tree });
  value = untyped_of l n x.value.judge x.value;
  same =
      s.part-Var tables (record { line = l; name = n; content = content.Untyped x.tree }) ∙ known x (untyped_of l n);
}

-- The code of statements one after the other, from place 0 on, and that code worked out.

abbrev pub code : List StmtSample → List CodeLine
code xs = placed ((C.in_order (map (stmt_part tables) (trees xs))).lay outermost scope).piece 0 []

pub works_out : (xs : List StmtSample) → code xs ≡ placed ((C.in_order (parts xs)).lay outermost scope).piece 0 []
works_out xs = ap (λ ps. placed ((C.in_order ps).lay outermost scope).piece 0 []) (all-same xs)

-- the functions that are made for statements, in order
abbrev pub functions_made : List StmtSample → List Making
functions_made xs = ((C.in_order (map (stmt_part tables) (trees xs))).lay outermost scope).made

pub makings-work_out : (xs : List StmtSample) → functions_made xs ≡ ((C.in_order (parts xs)).lay outermost scope).made
makings-work_out xs = ap (λ ps. ((C.in_order ps).lay outermost scope).made) (all-same xs)
