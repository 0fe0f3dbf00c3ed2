use Rattle.std.proofs.Common.{sym, ◌∙◌}
use Rattle.golf_state_queues.proofs.Guessing.{place-guessed}
use Rattle.golf_state_queues.proofs.queues.place_of.Goals as goal

pub returns-then-stands_at-clause-place : goal.returns-then-stands_at-clause-place
returns-then-stands_at-clause-place c =
    sym (place-guessed c.args.key _ c.args.queues.now c.requires (sym c.stands_at.ensures ∙ c.if-stands_at.true)).place

pub returns-then-stands_at-clause-within : goal.returns-then-stands_at-clause-within
returns-then-stands_at-clause-within c =
    (place-guessed c.args.key _ c.args.queues.now c.requires (sym c.stands_at.ensures ∙ c.if-stands_at.true)).within
