use Rattle.std.proofs.Common.{List, length, slice_get, sym, ap, ◌∙◌, arith}
use Rattle.golf_explore.specs.declared.visits.Edge.{Edge}
use Rattle.golf_explore.proofs.full_search.Exploration.new.Goals as goal

pub returns : goal.returns
returns c = record {
  visits = c.in_ok-visits.ensures;
  within = omega (arith, ap length c.new-edges.ensures);
  done = λ at s es got h. let none = ap (λ (xs : List (List Edge)). slice_get xs at) (sym c.new-edges.ensures)
      ∙ got in cc;
}
