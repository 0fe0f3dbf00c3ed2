use Rattle.std.proofs.Common.{◌≡◌, ℕ, ◌+◌, ◌/◌, List, [], replicate, sym, ap, ◌∙◌, subst, arith}
use Rattle.atomic_table.specs.Table.{opening}
use Rattle.golf_marks.specs.declared.rule.Plan.{Plan}
use Rattle.golf_marks.specs.Places.{place_count, word_count}
use Rattle.golf_marks.specs.Rule.{Holds, graph_of, first_view}
use Rattle.golf_marks.proofs.Steps.{begins}
use Rattle.golf_marks.proofs.marks.Marks.new.Goals as goal

pub of_words-requires : goal.of_words-requires
of_words-requires c =
    let plan : Plan = record { graph = c.of.result; seats = c.args.seats } in
    let count : (c.nodes-nodes.result + c.sleepers-sleepers.result) / 64 + 1 ≡ word_count (graph_of plan) =
    omega (arith, c.nodes-nodes.ensures.count, c.sleepers-sleepers.ensures, ap place_count c.of.ensures) in
    let words : c.as_slice.result.now ≡ replicate (word_count (graph_of plan)) 0 = c.as_slice.ensures.value
    ∙ c.in_ok-words.ensures.items_if_clones_equal (λ y h. h) ∙ ap (λ (n : ℕ). replicate n 0) count in
    subst (λ (ws : List ℕ). Holds plan (opening ws [] (first_view plan))) (sym words) (begins plan c.requires)
