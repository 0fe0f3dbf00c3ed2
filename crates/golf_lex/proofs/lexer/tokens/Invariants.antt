use Rattle.std.proofs.Common.{◌≡◌, ◌+◌, ◌-◌, ◌≤◌, [], take, drop}
use Rattle.std.specs.Prelude.{Some}
use Rattle.golf_lex.specs.declared.automaton.State.TheVariants.{Blank}
use Rattle.golf_lex.specs.Automaton.{run}
use Rattle.golf_lex.specs.Output.{empty, read}
use Rattle.golf_lex.proofs.lexer.tokens.Given as goal

-- The automaton has run over the bytes so far, and what is written, the lexeme so far and the rest make the tokens.
abbrev pub invariant-loop-i : goal.invariant-loop-i
invariant-loop-i l = record {
  begun : l.start ≤ l.i;
  line : l.output.line ≤ l.start + 1;
  ran : run Blank (take l.i l.bytes) ≡ Some l.state;
  reads : read l.output l.state (take (l.i - l.start) (drop l.start l.bytes)) (drop l.i l.bytes)
      ≡ read empty Blank [] l.bytes;
}
