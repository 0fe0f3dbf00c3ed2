use Rattle.std.proofs.Common.{Some, refl, sym, ap, ◌∙◌}
use Rattle.golf_explore_words.specs.declared.line.Request.{Request}
use Rattle.golf_explore_command.proofs.Calling.{misused, no-memory, versioned}
use Rattle.golf_explore_command.proofs.top.explorer.Goals as goal

pub returns-in-Ok-None : goal.returns-in-Ok-None
returns-in-Ok-None g c = misused _ _ _ _ _ _ _ _ _ _ _ c.end-in-Ok-None.result c.args.shows
    (sym c.in-Ok-None.ensures.request ∙ c.in-Ok-None.field-0-is) refl refl c.end-in-Ok-None.ensures

pub returns-in-Err : goal.returns-in-Err
returns-in-Err g c = no-memory _ _ _ _ _ _ _ _ _ _ _ c.end-in-Err.result c.args.shows c.in-Err.ensures.memory refl
    c.end-in-Err.ensures

pub returns-in-Ok-Some-Version : goal.returns-in-Ok-Some-Version
returns-in-Ok-Some-Version g c = versioned _ _ _ _ _ _ _ _ _ _ _ c.end.result c.args.shows
    (sym c.in-Ok-Some-Version.ensures.request ∙ c.in-Ok-Some-Version.field-0-is
    ∙ ap (λ (r : Request). Some r) c.in-Ok-Some-Version.field-0-0-is) refl refl c.end.ensures
