use Rattle.std.proofs.Common.{◌≡◌, ℕ, List, ap, ◌∙◌, arith, rules}
use Rattle.std.specs.Prelude.{insert as insert_item}
use Rattle.golf_theory.specs.Maps.{rank}
use Rattle.golf_theory.proofs.Ranks.{rank-within}
use Rattle.golf_blocks.proofs.EntryLaws.{insert-rank}
use Rattle.golf_blocks.proofs.entries.put_entry.Goals as goal

pub insert-requires : goal.insert-requires
insert-requires g c =
    let es = c.args.entries.now.items in
    omega (
      arith,
      c.rank_of-at.ensures,
      ap (λ (xs : List (ℕ × _)). rank c.args.key xs) c.as_slice.ensures.value,
      rank-within c.args.key es,
      c.args.entries.now.ok.0,
    )

pub returns-clause-ok : goal.returns-clause-ok
returns-clause-ok g c =
    let es = c.args.entries.now.items in
    let inserted : c.insert.new.self.items ≡ insert_item es c.rank_of-at.result (c.args.key, c.args.value) =
    search rules in
    inserted ∙ ap (λ (i : ℕ). insert_item es i (c.args.key, c.args.value))
    (c.rank_of-at.ensures ∙ ap (λ (xs : List (ℕ × _)). rank c.args.key xs) c.as_slice.ensures.value)
    ∙ insert-rank c.args.key c.args.value es
