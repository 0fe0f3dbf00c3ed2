use Rattle.golf_mark.proofs.Readying.{all_fit}
use Rattle.golf_mark.proofs.markers.run_markers.Goals as goal

pub run_all-requires-clause-fits : goal.run_all-requires-clause-fits
run_all-requires-clause-fits g c κs within =
    let h = all_fit c.args.shared.now.marks.now c.args.shared.now.pool.now c.args.markers.items c.requires.fresh in
    rw c.as_mut_slice.ensures.value h
