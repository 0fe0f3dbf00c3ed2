use Rattle.std.proofs.Common.{◌≡◌, ◌∙◌, ◌+◌, ◌-◌, ◌≤◌, true, refl, sym, ap, arith, take, drop, get_or, length}
use Rattle.std.proofs.lemmas.List.Sums.{count_by-le-length}
use Rattle.std.proofs.lemmas.List.{length-take}
use Rattle.std.specs.Prelude.{Some, None, Ok, Err, nat_eq}
use Rattle.golf_lex_tokens.specs.Bytes.{newlines}
use Rattle.golf_lex_tokens.specs.Lexes.{Lexes, IsFault}
use Rattle.golf_lex.specs.declared.automaton.Growth.TheVariants.{To, Over, Fault}
use Rattle.golf_lex.specs.Automaton.{growth, begun, is_complete, step_by}
use Rattle.golf_lex.specs.Output.{with_lexemes, finished}
use Rattle.golf_lex.specs.LexemeScan.{ended}
use Rattle.golf_lex.proofs.Follows.{over-complete}
use Rattle.golf_lex.proofs.Runs.{fault-at, fault-end}
use Rattle.golf_lex.proofs.Loop.{ended-line, run-more, reads-more, reads-next, run-end, reads-end, reads-lexes}
use Rattle.golf_lex.proofs.Faults.{answers-fault, answers-accepts, answers-refuses}
use Rattle.golf_lex.proofs.lexer.tokens.Goals as goal
use Rattle.golf_lex.proofs.lexer.tokens.Goals.{in-To, in-Over+in-Some+in_ok-add-in-Over}

-- no lexeme begins with the byte that ends one
no-begin : (c : goal.Joined-output) → IsFault c.args.bytes.now c.loop-i.i
no-begin c =
    let b = get_or c.args.bytes.now c.loop-i.i 0 in
    let over : growth c.loop-i.state b ≡ Over = sym c.extend.ensures ∙ c.in-Over.is in
    let none : begun b ≡ None = sym c.begin.ensures ∙ c.in_default.is in
    fault-at c.args.bytes.now c.loop-i.i b c.loop-i.state c.loop-i-test.true (refl) c.loop-i.invariant.ran
    (ap (λ g. step_by g (begun b)) over ∙ none)

pub returns-in_default-clause-answer : goal.returns-in_default-clause-answer
returns-in_default-clause-answer c = answers-fault c.args.bytes.now c.loop-i.i c.fault.result c.fault.ensures
    (no-begin c)

pub returns-in_default-clause-accepts : goal.returns-in_default-clause-accepts
returns-in_default-clause-accepts c = answers-accepts c.args.bytes.now (Err c.fault.result)
    (returns-in_default-clause-answer c)

pub returns-in_default-clause-refuses : goal.returns-in_default-clause-refuses
returns-in_default-clause-refuses c = answers-refuses c.args.bytes.now (Err c.fault.result)
    (returns-in_default-clause-answer c)

pub add-requires-clause-complete : goal.add-requires-clause-complete
add-requires-clause-complete c = over-complete c.loop-i.state (get_or c.args.bytes.now c.loop-i.i 0)
    (sym c.extend.ensures ∙ c.in-Over.is)

-- the byte can stand in no text that lexes
no-growth : (c : goal.Joined-output-5) → IsFault c.args.bytes.now c.loop-i.i
no-growth c =
    let b = get_or c.args.bytes.now c.loop-i.i 0 in
    let stops : growth c.loop-i.state b ≡ Fault = sym c.extend.ensures ∙ c.in-Fault.is in
    fault-at c.args.bytes.now c.loop-i.i b c.loop-i.state c.loop-i-test.true refl c.loop-i.invariant.ran
    (ap (λ g. step_by g (begun b)) stops)

pub returns-in-Fault-clause-answer : goal.returns-in-Fault-clause-answer
returns-in-Fault-clause-answer c = answers-fault c.args.bytes.now c.loop-i.i c.fault-in-Fault.result
    c.fault-in-Fault.ensures (no-growth c)

pub returns-in-Fault-clause-accepts : goal.returns-in-Fault-clause-accepts
returns-in-Fault-clause-accepts c = answers-accepts c.args.bytes.now (Err c.fault-in-Fault.result)
    (returns-in-Fault-clause-answer c)

pub returns-in-Fault-clause-refuses : goal.returns-in-Fault-clause-refuses
returns-in-Fault-clause-refuses c = answers-refuses c.args.bytes.now (Err c.fault-in-Fault.result)
    (returns-in-Fault-clause-answer c)

pub loop-i-preserved : goal.loop-i-preserved
loop-i-preserved c = elim c.match-extend.branch [
  | in-To w ↦
      let b = get_or c.args.bytes.now c.loop-i.i 0 in
      let grows : growth c.loop-i.state b ≡ To w.in-To.next = sym c.extend.ensures ∙ w.in-To.is in
      record {
        begun = rw w.start-is (omega arith);
        line = rw (w.start-is, w.output-is) c.loop-i.invariant.line;
        ran = rw w.state-is (run-more c.args.bytes.now c.loop-i.i c.loop-i.state w.in-To.next c.loop-i-test.true
            c.loop-i.invariant.ran (ap (λ g. step_by g (begun b)) grows));
        reads = rw (w.start-is, w.state-is, w.output-is)
            (reads-more c.loop-i.output c.args.bytes.now c.loop-i.start c.loop-i.i c.loop-i.state w.in-To.next
            c.loop-i.invariant.begun c.loop-i-test.true grows ∙ c.loop-i.invariant.reads);
      }
  | in-Over+in-Some+in_ok-add-in-Over w ↦
      let bytes = c.args.bytes.now in
      let b = get_or bytes c.loop-i.i 0 in
      let text = take (c.loop-i.i - c.loop-i.start) (drop c.loop-i.start bytes) in
      let over : growth c.loop-i.state b ≡ Over = sym c.extend.ensures ∙ w.in-Over.is in
      let fresh : begun b ≡ Some w.in-Some.next = sym w.begin.ensures ∙ w.in-Some.is in
      let written : w.add.new.self ≡ with_lexemes c.loop-i.output (ended c.loop-i.state text) =
      w.in_ok-add-in-Over.ensures in
      let moved : (with_lexemes c.loop-i.output (ended c.loop-i.state text)).line ≡ c.loop-i.output.line
      + newlines text = ended-line c.loop-i.output c.loop-i.state text (over-complete c.loop-i.state b over) in
      let few : newlines text ≤ length text = count_by-le-length (λ x. nat_eq x 10) text in
      let size : length text ≤ c.loop-i.i - c.loop-i.start =
      omega (arith, length-take (c.loop-i.i - c.loop-i.start) (drop c.loop-i.start bytes)) in
      let line_before : c.loop-i.output.line ≤ c.loop-i.start + 1 = c.loop-i.invariant.line in
      let begun_before : c.loop-i.start ≤ c.loop-i.i = c.loop-i.invariant.begun in
      record {
        begun = rw w.start-is (omega arith);
        line = rw (w.start-is, w.output-is, written, moved) (omega arith);
        ran = rw w.state-is (run-more bytes c.loop-i.i c.loop-i.state w.in-Some.next c.loop-i-test.true
            c.loop-i.invariant.ran (ap (λ g. step_by g (begun b)) over ∙ fresh));
        reads = rw (w.start-is, w.state-is, w.output-is, written)
            (reads-next c.loop-i.output bytes c.loop-i.start c.loop-i.i c.loop-i.state w.in-Some.next c.loop-i-test.true
            over fresh ∙ c.loop-i.invariant.reads);
      }
]

-- the file ends within a lexeme
cut-off : (c : goal.Joined-output-7) → IsFault c.args.bytes.now (length c.args.bytes.now)
cut-off c = fault-end c.args.bytes.now c.loop-i.state
    (run-end c.args.bytes.now c.loop-i.i c.loop-i.state c.loop-i-test.false c.loop-i.invariant.ran)
    (sym c.is_complete.ensures ∙ c.if-not-is_complete.true)

pub returns-then-not-is_complete-clause-answer : goal.returns-then-not-is_complete-clause-answer
returns-then-not-is_complete-clause-answer c =
    answers-fault c.args.bytes.now (length c.args.bytes.now) c.fault-then-not-is_complete.result
    c.fault-then-not-is_complete.ensures (cut-off c)

pub returns-then-not-is_complete-clause-accepts : goal.returns-then-not-is_complete-clause-accepts
returns-then-not-is_complete-clause-accepts c =
    answers-accepts c.args.bytes.now (Err c.fault-then-not-is_complete.result)
    (returns-then-not-is_complete-clause-answer c)

pub returns-then-not-is_complete-clause-refuses : goal.returns-then-not-is_complete-clause-refuses
returns-then-not-is_complete-clause-refuses c =
    answers-refuses c.args.bytes.now (Err c.fault-then-not-is_complete.result)
    (returns-then-not-is_complete-clause-answer c)

lexed : (c : goal.In_ok-finish) → Lexes c.args.bytes.now c.in_ok-finish.field-0
lexed c =
    let bytes = c.args.bytes.now in
    let whole : is_complete c.loop-i.state ≡ true = sym c.is_complete.ensures ∙ c.if-not-is_complete.false in
    let written : c.add-2.new.self ≡ with_lexemes c.loop-i.output
    (ended c.loop-i.state (take (length bytes - c.loop-i.start) (drop c.loop-i.start bytes))) =
    c.in_ok-add.ensures in
    let last : c.in_ok-finish.field-0 ≡ finished c.add-2.new.self = c.in_ok-finish.ensures in
    let read_all = sym (reads-end c.loop-i.output bytes c.loop-i.start c.loop-i.i c.loop-i.state c.loop-i-test.false
    whole) ∙ c.loop-i.invariant.reads in
    reads-lexes bytes c.in_ok-finish.field-0
    (sym read_all ∙ sym (ap (λ o. Some (finished o)) written) ∙ sym (ap Some last))

pub returns-clause-answer : goal.returns-clause-answer
returns-clause-answer c = lexed c

pub returns-clause-accepts : goal.returns-clause-accepts
returns-clause-accepts c = answers-accepts c.args.bytes.now (Ok c.in_ok-finish.field-0) (lexed c)

pub returns-clause-refuses : goal.returns-clause-refuses
returns-clause-refuses c = answers-refuses c.args.bytes.now (Ok c.in_ok-finish.field-0) (lexed c)
