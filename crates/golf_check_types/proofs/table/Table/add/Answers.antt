use Rattle.std.proofs.Common.{◌≡◌, ◌∙◌, ap, sym}
use Rattle.std.specs.Prelude.{None}
use Rattle.golf_check_types.specs.Names.{number_of, with_found}
use Rattle.golf_check_types.proofs.TableLaws.{insert-view, view_of}
use Rattle.golf_check_types.proofs.table.Table.add.Goals as goal

pub returns-in_ok-insert-in-None : goal.returns-in_ok-insert-in-None
returns-in_ok-insert-in-None c =
    let m = c.self.inside.entries in
    let n = c.args.name.now in
    let none : number_of (view_of m.entries) n ≡ None = ap (λ t. number_of t n) c.self.view_is ∙ sym c.number_of.ensures
    ∙ c.in-None.is in
    rw (← c.self.view_is) (ap view_of c.in_ok-insert-in-None.ensures.entries
    ∙ insert-view m c.in_ok-copy-in-None.copy n c.args.number
    (c.in_ok-copy-in-None.ensures.items_if_clones_equal (λ x y e. e)) none
    ∙ ap (λ o. with_found o (view_of m.entries) n c.args.number) (sym none))
