use Rattle.std.proofs.Common.{◌+◌, ◌*◌, List, length, ap, sym, ◌∙◌}
use Rattle.golf_syntax_statements.specs.declared.pending.Pending.{Pending}
use Rattle.golf_syntax_statements.specs.declared.pending.Move.{Move}
use Rattle.golf_syntax_statements.specs.declared.pending.Move.TheVariants as moves
use Rattle.golf_syntax_statements.specs.StatementReader.{OfStmt, stmt_at}
use Rattle.golf_syntax_statements.specs.Moves.{move_at, waited, moved, weight}
use Rattle.golf_syntax_statements.proofs.Moves.{went-done, went-found, went-wait, went-on, went-so, went-nowhere}
use Rattle.golf_syntax_statements.proofs.Moves.{went-further, less-than, smaller-found, smaller-wait, smaller-on}
use Rattle.golf_syntax_statements.proofs.statements.read.Goals.{in-Found+in-Some+in_ok-next-in-Some}
use Rattle.golf_syntax_statements.proofs.statements.read.Goals.{in-Seek+in_ok-next-in-Seek}
use Rattle.golf_syntax_statements.proofs.statements.read.Goals.{in-Wait+in_ok-push-in-Wait+in_ok-next-in-Wait}
use Rattle.golf_syntax_statements.proofs.statements.read.Goals.{in-Clauses+in_ok-next-in-Clauses}
use Rattle.golf_syntax_statements.proofs.statements.read.Goals.{in-Headed+in_ok-next-in-Headed}
use Rattle.golf_syntax_statements.proofs.statements.read.Goals as goal

pub moves-init : goal.moves-init
moves-init c =
    ap (λ (m : Move). waited c.new-waiting.result (move_at m c.args.tokens.now)) c.in_ok-now.ensures
    ∙ ap (λ (w : List Pending). waited w (stmt_at OfStmt c.args.tokens.now)) c.new-waiting.ensures

pub returns-in-None : goal.returns-in-None
returns-in-None c = record {
  value = went-done c.moves.waiting c.moves.now c.in-Found.found c.moves.rest.now _
      c.moves.invariant (sym c.into_inner.ensures ∙ c.in-Found.is) c.in-None.ensures.0;
}

pub returns-in_default : goal.returns-in_default
returns-in_default c = record {
  value = went-nowhere c.match-into_inner.waiting c.match-into_inner.next
      (stmt_at OfStmt c.args.tokens.now) c.in_default.is (elim c.match-into_inner.branch [
        | in-Found+in-Some+in_ok-next-in-Some w ↦
            went-so w.pop.new.self c.match-into_inner.waiting w.in_ok-next-in-Some.next c.match-into_inner.next
            (stmt_at OfStmt c.args.tokens.now) w.waiting-is w.next-is
            (went-found c.moves.waiting w.pop.new.self w.in-Some.pending c.moves.now c.moves.rest.now c.moves.invariant
            (sym c.into_inner.ensures ∙ w.in-Found.is) w.in-Some.ensures w.in_ok-next-in-Some.ensures.value)
        | in-Seek+in_ok-next-in-Seek w ↦ went-so c.moves.waiting c.match-into_inner.waiting w.in_ok-next-in-Seek.next
            c.match-into_inner.next (stmt_at OfStmt c.args.tokens.now) w.waiting-is w.next-is
            (went-on c.moves.waiting c.moves.now moves.Seek c.moves.rest.now (moved w.in_ok-next-in-Seek.next)
            (stmt_at OfStmt c.args.tokens.now) c.moves.invariant
            (sym c.into_inner.ensures ∙ w.in-Seek.is) w.in_ok-next-in-Seek.ensures.value)
        | in-Wait+in_ok-push-in-Wait+in_ok-next-in-Wait w ↦
            went-so w.push.new.self c.match-into_inner.waiting w.in_ok-next-in-Wait.next c.match-into_inner.next
            (stmt_at OfStmt c.args.tokens.now) w.waiting-is w.next-is
            (went-wait c.moves.waiting w.push.new.self w.in-Wait.pending c.moves.now c.moves.rest.now
            (moved w.in_ok-next-in-Wait.next) (stmt_at OfStmt c.args.tokens.now) c.moves.invariant
            (sym c.into_inner.ensures ∙ w.in-Wait.is) w.in_ok-push-in-Wait.ensures.ok
            w.in_ok-next-in-Wait.ensures.value)
        | in-Clauses+in_ok-next-in-Clauses w ↦
            went-so c.moves.waiting c.match-into_inner.waiting w.in_ok-next-in-Clauses.next c.match-into_inner.next
            (stmt_at OfStmt c.args.tokens.now) w.waiting-is w.next-is
            (went-on c.moves.waiting c.moves.now (moves.Clauses w.in-Clauses.select) c.moves.rest.now
            (moved w.in_ok-next-in-Clauses.next) (stmt_at OfStmt c.args.tokens.now) c.moves.invariant
            (sym c.into_inner.ensures ∙ w.in-Clauses.is) w.in_ok-next-in-Clauses.ensures.value)
        | in-Headed+in_ok-next-in-Headed w ↦ went-so c.moves.waiting c.match-into_inner.waiting
            w.in_ok-next-in-Headed.next
            c.match-into_inner.next (stmt_at OfStmt c.args.tokens.now) w.waiting-is w.next-is
            (went-on c.moves.waiting c.moves.now (moves.Headed w.in-Headed.select w.in-Headed.head) c.moves.rest.now
            (moved w.in_ok-next-in-Headed.next) (stmt_at OfStmt c.args.tokens.now) c.moves.invariant
            (sym c.into_inner.ensures ∙ w.in-Headed.is) w.in_ok-next-in-Headed.ensures.value)
      ]);
}

pub moves-smaller : goal.moves-smaller
moves-smaller c = elim c.match-into_inner.branch [
  | in-Found+in-Some+in_ok-next-in-Some w ↦
      smaller-found c.moves.waiting w.in-Some.pending c.moves.now c.in-Some-next.moved c.moves.rest.now
      c.in-Some-next.behind (sym c.into_inner.ensures ∙ w.in-Found.is) w.in-Some.ensures w.waiting-is
      (less-than w.in_ok-next-in-Some.next c.match-into_inner.next c.in-Some-next.moved c.in-Some-next.behind
      (8 * length c.moves.rest.now + 3) c.in-Some-next.is w.next-is w.in_ok-next-in-Some.ensures.less)
  | in-Seek+in_ok-next-in-Seek w ↦ smaller-on c.moves.waiting c.match-into_inner.waiting c.moves.now
      c.in-Some-next.moved c.moves.rest.now c.in-Some-next.behind
      (ap weight (sym c.into_inner.ensures ∙ w.in-Seek.is)) w.waiting-is
      (less-than w.in_ok-next-in-Seek.next c.match-into_inner.next c.in-Some-next.moved c.in-Some-next.behind
      (8 * length c.moves.rest.now) c.in-Some-next.is w.next-is w.in_ok-next-in-Seek.ensures.less)
  | in-Wait+in_ok-push-in-Wait+in_ok-next-in-Wait w ↦
      smaller-wait c.moves.waiting c.match-into_inner.waiting w.in-Wait.pending c.moves.now c.in-Some-next.moved
      c.moves.rest.now c.in-Some-next.behind (sym c.into_inner.ensures ∙ w.in-Wait.is)
      (w.waiting-is ∙ w.in_ok-push-in-Wait.ensures.ok)
      (less-than w.in_ok-next-in-Wait.next c.match-into_inner.next c.in-Some-next.moved c.in-Some-next.behind
      (8 * length c.moves.rest.now) c.in-Some-next.is w.next-is w.in_ok-next-in-Wait.ensures.less)
  | in-Clauses+in_ok-next-in-Clauses w ↦ smaller-on c.moves.waiting c.match-into_inner.waiting c.moves.now
      c.in-Some-next.moved c.moves.rest.now c.in-Some-next.behind
      (ap weight (sym c.into_inner.ensures ∙ w.in-Clauses.is)) w.waiting-is
      (less-than w.in_ok-next-in-Clauses.next c.match-into_inner.next c.in-Some-next.moved c.in-Some-next.behind
      (8 * length c.moves.rest.now) c.in-Some-next.is w.next-is w.in_ok-next-in-Clauses.ensures.less)
  | in-Headed+in_ok-next-in-Headed w ↦ smaller-on c.moves.waiting c.match-into_inner.waiting c.moves.now
      c.in-Some-next.moved c.moves.rest.now c.in-Some-next.behind
      (ap weight (sym c.into_inner.ensures ∙ w.in-Headed.is)) w.waiting-is
      (less-than w.in_ok-next-in-Headed.next c.match-into_inner.next c.in-Some-next.moved c.in-Some-next.behind
      (8 * length c.moves.rest.now) c.in-Some-next.is w.next-is w.in_ok-next-in-Headed.ensures.less)
]

pub moves-preserved : goal.moves-preserved
moves-preserved c = went-further c.match-into_inner.waiting c.match-into_inner.next c.in-Some-next.moved
    c.in-Some-next.behind (stmt_at OfStmt c.args.tokens.now) c.in-Some-next.is (elim c.match-into_inner.branch [
      | in-Found+in-Some+in_ok-next-in-Some w ↦
          went-so w.pop.new.self c.match-into_inner.waiting w.in_ok-next-in-Some.next c.match-into_inner.next
          (stmt_at OfStmt c.args.tokens.now) w.waiting-is w.next-is
          (went-found c.moves.waiting w.pop.new.self w.in-Some.pending c.moves.now c.moves.rest.now c.moves.invariant
          (sym c.into_inner.ensures ∙ w.in-Found.is) w.in-Some.ensures w.in_ok-next-in-Some.ensures.value)
      | in-Seek+in_ok-next-in-Seek w ↦ went-so c.moves.waiting c.match-into_inner.waiting w.in_ok-next-in-Seek.next
          c.match-into_inner.next (stmt_at OfStmt c.args.tokens.now) w.waiting-is w.next-is
          (went-on c.moves.waiting c.moves.now moves.Seek c.moves.rest.now (moved w.in_ok-next-in-Seek.next)
          (stmt_at OfStmt c.args.tokens.now) c.moves.invariant
          (sym c.into_inner.ensures ∙ w.in-Seek.is) w.in_ok-next-in-Seek.ensures.value)
      | in-Wait+in_ok-push-in-Wait+in_ok-next-in-Wait w ↦
          went-so w.push.new.self c.match-into_inner.waiting w.in_ok-next-in-Wait.next c.match-into_inner.next
          (stmt_at OfStmt c.args.tokens.now) w.waiting-is w.next-is
          (went-wait c.moves.waiting w.push.new.self w.in-Wait.pending c.moves.now c.moves.rest.now
          (moved w.in_ok-next-in-Wait.next) (stmt_at OfStmt c.args.tokens.now) c.moves.invariant
          (sym c.into_inner.ensures ∙ w.in-Wait.is) w.in_ok-push-in-Wait.ensures.ok w.in_ok-next-in-Wait.ensures.value)
      | in-Clauses+in_ok-next-in-Clauses w ↦
          went-so c.moves.waiting c.match-into_inner.waiting w.in_ok-next-in-Clauses.next
          c.match-into_inner.next (stmt_at OfStmt c.args.tokens.now) w.waiting-is w.next-is
          (went-on c.moves.waiting c.moves.now (moves.Clauses w.in-Clauses.select) c.moves.rest.now
          (moved w.in_ok-next-in-Clauses.next) (stmt_at OfStmt c.args.tokens.now) c.moves.invariant
          (sym c.into_inner.ensures ∙ w.in-Clauses.is) w.in_ok-next-in-Clauses.ensures.value)
      | in-Headed+in_ok-next-in-Headed w ↦ went-so c.moves.waiting c.match-into_inner.waiting
          w.in_ok-next-in-Headed.next
          c.match-into_inner.next (stmt_at OfStmt c.args.tokens.now) w.waiting-is w.next-is
          (went-on c.moves.waiting c.moves.now (moves.Headed w.in-Headed.select w.in-Headed.head) c.moves.rest.now
          (moved w.in_ok-next-in-Headed.next) (stmt_at OfStmt c.args.tokens.now) c.moves.invariant
          (sym c.into_inner.ensures ∙ w.in-Headed.is) w.in_ok-next-in-Headed.ensures.value)
    ])
