use Rattle.std.proofs.Common.{◌∙◌, ◌+◌, ℕ, List, length, refl, sym, ap, subst, arith}
use Rattle.golf_theory.specs.Membership.{In}
use Rattle.golf_theory.proofs.Lists.{In-push}
use Rattle.golf_theory.proofs.Times.{none-times}
use Rattle.golf_model.specs.declared.graph.GraphParts.{GraphParts}
use Rattle.golf_marks.specs.Seats.{known, claimed}
use Rattle.golf_mark.specs.ScannerState.{with_seat}
use Rattle.golf_mark.specs.UnderWay.{IsScanned}
use Rattle.golf_mark.proofs.Winning.{keeps_known}
use Rattle.golf_mark.proofs.Settling.{looked, idle_looked, passes_over, settled_at, won_known}
use Rattle.golf_mark.proofs.finish.settle_at.Goals as goal

pub returns-then-not-is_marked-clause-idle : goal.returns-then-not-is_marked-clause-idle
returns-then-not-is_marked-clause-idle c =
    idle_looked c.args.marks.now c.args.scanner.now c.is_marked.new.seat c.requires.idle c.is_marked.ensures.same
    c.is_marked.ensures.claimed

pub returns-then-not-is_marked-clause-covered : goal.returns-then-not-is_marked-clause-covered
returns-then-not-is_marked-clause-covered c =
    let a = c.args.scanner.now in
    passes_over c.args.marks.now c.args.todo.now c.args.place a (with_seat a c.is_marked.new.seat)
    (record {
      claimed = c.is_marked.ensures.claimed;
      known = λ p h. subst (λ (l : List ℕ). In p l) (sym c.if-not-is_marked.ensures.known) h;
    }) refl
    (λ i _. none-times c.args.place (claimed a.seat) (c.is_marked.ensures.unclaimed c.if-not-is_marked.true) i)
    c.requires.covered

pub scan-requires-clause-fits : goal.scan-requires-clause-fits
scan-requires-clause-fits c =
    let a = c.args.scanner.now in
    looked c.args.marks.now (with_seat a c.is_marked.new.seat)
    (omega (arith, c.is_marked.ensures.bounded, ap length c.is_marked.ensures.claimed))
    (idle_looked c.args.marks.now a c.is_marked.new.seat c.requires.idle c.is_marked.ensures.same
    c.is_marked.ensures.claimed)

pub scan-requires-clause-known : goal.scan-requires-clause-known
scan-requires-clause-known c = subst (λ (l : List ℕ). In c.args.place l) (sym c.if-not-is_marked.ensures.known)
    (In-push c.args.place (known c.args.scanner.now.seat))

pub settle_won-requires-clause-won : goal.settle_won-requires-clause-won
settle_won-requires-clause-won c =
    won_known c.args.marks.now (with_seat c.args.scanner.now c.is_marked.new.seat) c.scan.new.scanner
    c.requires.idle.none c.scan.ensures.wins

pub returns-clause-covered : goal.returns-clause-covered
returns-clause-covered c =
    c.settle_won.ensures.covered c.args.todo.now (c.args.place + 1)
    (settled_at c.args.marks.now c.args.todo.now c.args.place c.args.scanner.now c.scan.new.scanner
    c.is_marked.new.seat c.requires.idle.none
    (record {
      claimed = c.is_marked.ensures.claimed;
      known = keeps_known c.args.scanner.now.seat c.is_marked.new.seat c.args.place
          c.if-not-is_marked.ensures.known;
    })
    c.scan.ensures.wins
    (subst (λ (d : GraphParts). IsScanned d (known c.scan.new.scanner.seat) c.args.place)
    (sym c.requires.graph) c.scan.ensures.scanned)
    c.requires.covered)

pub returns-clause-keeps : goal.returns-clause-keeps
returns-clause-keeps c = record {
  known = λ p h. c.settle_won.ensures.keeps.known p
      (c.scan.ensures.wins.known p (keeps_known c.args.scanner.now.seat c.is_marked.new.seat c.args.place
      c.if-not-is_marked.ensures.known p h));
  parts = c.settle_won.ensures.keeps.parts ∙ c.scan.ensures.wins.parts ∙ c.is_marked.ensures.same.parts;
}
