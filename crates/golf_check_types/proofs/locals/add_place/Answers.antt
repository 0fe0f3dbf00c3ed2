use Rattle.std.proofs.Common.{◌∙◌, ap, []}
use Rattle.std.specs.Prelude.{unwrap_or}
use Rattle.golf_check_types.specs.Places.{places_at, with_place}
use Rattle.golf_check_types.proofs.PlaceLaws.{put_law, at_name}
use Rattle.golf_check_types.proofs.locals.add_place.Goals as goal

pub returns : goal.returns
returns c = λ n.
    let name = c.args.name.now in
    let old = c.args.places.now in
    put_law name old c.insert.new.self (with_place (places_at old name) c.args.place)
    (record {
      key = c.in_ok-key.key;
      between = c.remove.new.self;
      places = c.push.new.self;
      key_is = c.in_ok-key.ensures.items_if_clones_equal (λ x y e. e);
      places_are = c.in_ok-push.ensures.ok ∙ ap (λ o. with_place o c.args.place)
          (c.unwrap_or-own.ensures ∙ ap (unwrap_or c.remove.result) c.new.ensures
          ∙ ap (λ o. unwrap_or o []) c.remove.ensures.value);
      removed = c.remove.ensures.updates;
      inserted = c.in_ok-insert.ensures.updates;
    })
    n
    ∙ at_name name n (places_at old) (λ ps. with_place ps c.args.place)
