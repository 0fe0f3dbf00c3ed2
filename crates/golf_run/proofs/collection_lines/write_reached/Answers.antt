use Rattle.std.proofs.Common.{◌+◌, ◌<◌, ◌≤◌, map, length, get_or, refl, ap, subst, None, ◌∙◌, arith}
use Rattle.std.specs.Io.KnownBytes.{Appends}
use Rattle.std.proofs.lemmas.List.{map-append, take_all}
use Rattle.golf_why.specs.Explanations.{reached_at, reached_from}
use Rattle.golf_run_texts.specs.Texts.{reached_line}
use Rattle.golf_run_texts.specs.Output.{joined}
use Rattle.golf_run.specs.Lines.{HasWritten}
use Rattle.golf_run.proofs.Lines.{loop-next, loop-cut}
use Rattle.golf_run.proofs.Sleepers.{at-is}
use Rattle.golf_run.proofs.collection_lines.write_reached.Goals as goal

pub returns-in_err-write_sleeper : goal.returns-in_err-write_sleeper
returns-in_err-write_sleeper g c =
    let why = c.args.why.now in
    let k = c.loop-sleeper.sleeper in
    let here = ap (λ o. map reached_line (reached_at why.graph k o)) (at-is why.sleeper_entries k) in
    let within : k < length why.sleeper_entries = omega
    (arith, c.requires.entries, c.loop-sleeper-test.true, c.sleepers-sleeper-end.ensures) in
    loop-cut (λ n o. map reached_line (reached_at why.graph n o))
    (λ n os. map reached_line (reached_from why.graph n os)) (λ n. refl)
    (λ n o os. map-append reached_line (reached_at why.graph n o) (reached_from why.graph (n + 1) os))
    why.sleeper_entries k None _ within c.loop-sleeper.invariant.written c.loop-sleeper.invariant.steady
    (record {
      fault = c.in_err-write_sleeper.field-0.0;
      outcome = c.write_sleeper.result;
      was = c.in_err-write_sleeper.was;
      written = subst (λ ls. HasWritten c.write_sleeper.result ls (g.E.Sink.written c.loop-sleeper.err)
          (g.E.Sink.written c.write_sleeper.new.err) (g.E.Sink.faults c.loop-sleeper.err)
          (g.E.Sink.faults c.write_sleeper.new.err)) here c.write_sleeper.ensures;
      failed = c.from_residual.ensures.0;
      same = c.from_residual.ensures.1;
    })

pub loop-sleeper-preserved : goal.loop-sleeper-preserved
loop-sleeper-preserved g c =
    let why = c.args.why.now in
    let k = c.loop-sleeper.sleeper in
    let here = ap (λ o. map reached_line (reached_at why.graph k o)) (at-is why.sleeper_entries k) in
    let within : k < length why.sleeper_entries = omega
    (arith, c.requires.entries, c.loop-sleeper-test.true, c.sleepers-sleeper-end.ensures) in
    let w = subst (λ ls. HasWritten c.write_sleeper.result ls (g.E.Sink.written c.loop-sleeper.err)
    (g.E.Sink.written c.write_sleeper.new.err) (g.E.Sink.faults c.loop-sleeper.err)
    (g.E.Sink.faults c.write_sleeper.new.err)) here c.write_sleeper.ensures in
    let done = subst (λ r. HasWritten r (map reached_line (reached_at why.graph k (get_or why.sleeper_entries k None)))
    (g.E.Sink.written c.loop-sleeper.err) (g.E.Sink.written c.write_sleeper.new.err)
    (g.E.Sink.faults c.loop-sleeper.err) (g.E.Sink.faults c.write_sleeper.new.err)) c.in_ok-write_sleeper.was w in
    record {
      written = loop-next (λ n o. map reached_line (reached_at why.graph n o))
          (λ n os. map reached_line (reached_from why.graph n os)) (λ n. refl)
          (λ n o os. map-append reached_line (reached_at why.graph n o) (reached_from why.graph (n + 1) os))
          why.sleeper_entries k None _ _ _ within c.loop-sleeper.invariant.written done.0;
      steady = done.1 ∙ c.loop-sleeper.invariant.steady;
    }

pub returns : goal.returns
returns g c =
    let why = c.args.why.now in
    let all : length why.sleeper_entries ≤ c.loop-sleeper.sleeper =
    omega (arith, c.requires.entries, c.loop-sleeper-test.false, c.sleepers-sleeper-end.ensures) in (
      subst (λ os. Appends (g.E.Sink.written c.args.err.now) (g.E.Sink.written c.loop-sleeper.err)
          (joined (map reached_line (reached_from why.graph 0 os))))
          (take_all c.loop-sleeper.sleeper why.sleeper_entries all) c.loop-sleeper.invariant.written,
      c.loop-sleeper.invariant.steady,
    )
