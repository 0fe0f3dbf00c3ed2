use Rattle.std.proofs.Common.{ℕ, ◌<◌, ◌++◌, List, length, reverse, sym, subst, ap, ◌∙◌, arith}
use Rattle.std.proofs.lemmas.Option.{slice_get-get_or}
use Rattle.golf_explore.specs.declared.visits.Visit.{Visit}
use Rattle.golf_explore.specs.VisitLists.{Joins, IsPathTo}
use Rattle.golf_explore.proofs.Parents.{joins-up, joins-path, reverse-adds}
use Rattle.golf_explore.proofs.paths.path_to.Goals as goal

pub loop-here-preserved : goal.loop-here-preserved
loop-here-preserved c =
    let visits : List Visit = c.args.visits.now in
    let here = c.loop-here.here in
    let came = c.in-Some.came in
    let within : here < length visits = c.loop-here.invariant.within in
    let got = slice_get-get_or visits here _ within in
    let below : came.parent < here = c.requires.below here _ came got c.in-Some.is in
    let adds = c.in_ok-add_backwards.ensures
    ∙ ap (λ (ns : List ℕ). c.loop-here.path.items ++ reverse ns) c.as_slice.ensures in
    record {
      within = omega (arith, within, below);
      joins = subst (λ (ns : List ℕ). Joins visits came.parent ns c.args.at)
          (reverse-adds c.loop-here.path.items came.numbers ∙ ap reverse (sym adds))
          (joins-up visits here c.args.at _ came
          (reverse c.loop-here.path.items) got c.in-Some.is c.loop-here.invariant.joins);
    }

pub returns : goal.returns
returns c =
    let visits : List Visit = c.args.visits.now in
    let here = c.loop-here.here in
    let got = slice_get-get_or visits here _ c.loop-here.invariant.within in
    subst (IsPathTo visits c.args.at) (sym (c.from_vec.ensures ∙ c.reverse.ensures.items))
    (joins-path visits here c.args.at _ (reverse c.loop-here.path.items) got c.in_default.is
    c.loop-here.invariant.joins)
