use Rattle.std.proofs.Common.{◌≡◌, ℕ, List, ◌∷◌, [], ◌++◌, ap, ◌∙◌, subst, sym, slice_set}
use Rattle.std.proofs.lemmas.Option.{get_or_from_slice_get}
use Rattle.golf_rows.specs.Rows.{row_of, AddsTo}
use Rattle.golf_rows.proofs.Adding.{AddsTo-one}
use Rattle.golf_rows.proofs.rows.add.Goals as goal

pub returns-clause-ok : goal.returns-clause-ok
returns-clause-ok c =
    let rows = c.args.rows.now in
    let was : c.item_mut-row.result.now ≡ row_of rows c.args.number =
    sym (get_or_from_slice_get rows c.args.number c.item_mut-row.result.now [] c.item_mut-row.ensures.value) in
    let is : c.push.new.self ≡ row_of rows c.args.number ++ c.args.member ∷ [] = c.in_ok-push.ensures.ok
    ∙ ap (λ (row : List ℕ). row ++ c.args.member ∷ []) was in
    subst (λ (row : List ℕ). AddsTo (λ n. n ≡ c.args.number) c.args.member rows (slice_set rows c.args.number row))
    (sym is) (AddsTo-one rows c.args.member c.args.number c.requires)
