use Rattle.std.proofs.Common.{true≢false, sym, ◌∙◌}
use Rattle.golf_meaning.proofs.Laws.{own-code}
use Rattle.golf_command.proofs.meaning.agreement.Goals as goal

-- the code of a file is that of the file
pub unreachable-requires : goal.unreachable-requires
unreachable-requires c =
    let own = own-code c.args.checked.now c.in_ok-code.code c.in_ok-code.ensures in
    true≢false (sym (c.in_ok-same.ensures.exact.1 own) ∙ c.if-not-same.true)
