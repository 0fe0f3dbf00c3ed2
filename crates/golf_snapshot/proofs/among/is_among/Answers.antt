use Rattle.std.proofs.Common.{◌∙◌}
use Rattle.golf_snapshot.proofs.Members.{found-among}
use Rattle.golf_snapshot.proofs.among.is_among.Goals as goal

pub returns : goal.returns
returns c = c.is_ok.ensures.value ∙ found-among c.args.goroutines.now c.args.g.0 c.binary_search.result c.requires
    c.binary_search.ensures.position
