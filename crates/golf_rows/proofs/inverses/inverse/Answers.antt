use Rattle.std.proofs.Common.{◌≡◌, ℕ, [], List, length, map, get_or, ap, sym, subst, ◌∙◌, arith}
use Rattle.std.proofs.lemmas.List.{drop_all, length-map}
use Rattle.std.proofs.lemmas.Option.{get_or_from_slice_get}
use Rattle.golf_theory.specs.Membership.{In}
use Rattle.golf_base.specs.Roomy.{Roomy}
use Rattle.golf_rows.specs.Rows.{row_of, AddsTo, IsInverseBelow}
use Rattle.golf_rows.specs.Rooms.{in_rows, occurrences, room_for, spare_at}
use Rattle.golf_rows.proofs.Adding.{IsInverseBelow-none, IsInverseBelow-more}
use Rattle.golf_rows.proofs.Counting.{rows-next}
use Rattle.golf_rows.proofs.Filling.{spare-empty, items-empty}
use Rattle.golf_rows.proofs.inverses.inverse.Goals as goal

pub loop-at-init : goal.loop-at-init
loop-at-init c =
    let rows = c.args.rows.now in
    let counts = c.in_ok-counts.counts in
    let is : c.in_ok-inverse.inverse ≡ map room_for counts = c.in_ok-inverse.ensures
    ∙ ap (map room_for) c.as_slice.ensures in
    record {
      room = λ n. ap (λ (rs : List (Roomy ℕ)). spare_at rs n) is ∙ spare-empty counts n
          ∙ c.in_ok-counts.ensures.counts n;
      entered = subst (λ (rs : List (Roomy ℕ)). IsInverseBelow 0 c.args.count (row_of rows)
          (map (λ (r : Roomy ℕ). r.items) rs)) (sym is)
          (IsInverseBelow-none c.args.count (row_of rows) (map (λ (r : Roomy ℕ). r.items) (map room_for counts))
          (length-map (map room_for counts) (λ (r : Roomy ℕ). r.items) ∙ length-map counts room_for
          ∙ c.in_ok-counts.ensures.length) (items-empty counts));
    }

pub add_to_all-requires : goal.add_to_all-requires
add_to_all-requires c = λ n.
    let rows = c.args.rows.now in
    let i = c.loop-at.at in
    let is : get_or rows i [] ≡ c.row.result.now = get_or_from_slice_get rows i c.row.result.now [] c.row.ensures in
    omega (
      arith,
      c.loop-at.invariant.room n,
      rows-next n i rows (omega (arith, c.len-at-end.ensures)),
      ap (occurrences n) is,
    )

pub loop-at-preserved : goal.loop-at-preserved
loop-at-preserved c =
    let rows = c.args.rows.now in
    let i = c.loop-at.at in
    let old = c.loop-at.inverse in
    let new = c.add_to_all.new.self in
    let is : get_or rows i [] ≡ c.row.result.now = get_or_from_slice_get rows i c.row.result.now [] c.row.ensures in
    let size : length (map (λ (r : Roomy ℕ). r.items) new) ≡ length (map (λ (r : Roomy ℕ). r.items) old) =
    length-map new (λ (r : Roomy ℕ). r.items) ∙ c.add_to_all.ensures.length
    ∙ sym (length-map old (λ (r : Roomy ℕ). r.items)) in
    record {
      room = λ n. omega (
        arith,
        c.loop-at.invariant.room n,
        c.add_to_all.ensures.room n,
        rows-next n i rows (omega (arith, c.len-at-end.ensures)),
        ap (occurrences n) is,
      );
      entered = IsInverseBelow-more c.args.count (row_of rows) i (map (λ (r : Roomy ℕ). r.items) old)
          (map (λ (r : Roomy ℕ). r.items) new) size c.loop-at.invariant.entered
          (subst (λ (row : List ℕ). AddsTo (λ n. In n row) i (map (λ (r : Roomy ℕ). r.items) old)
          (map (λ (r : Roomy ℕ). r.items) new)) (sym is) c.add_to_all.ensures.added);
    }

pub into_flat-requires : goal.into_flat-requires
into_flat-requires c = λ n. c.loop-at.invariant.room n
    ∙ ap (in_rows n) (drop_all c.loop-at.at c.args.rows.now (omega (arith, c.len-at-end.ensures)))

pub returns : goal.returns
returns c =
    let rows = c.args.rows.now in
    let all : c.loop-at.at ≡ length rows = omega (arith, c.len-at-end.ensures) in
    subst (λ (inverse : List (List ℕ)). IsInverseBelow (length rows) c.args.count (row_of rows) inverse)
    (sym c.into_flat.ensures)
    (subst (λ (k : ℕ). IsInverseBelow k c.args.count (row_of rows) (map (λ (r : Roomy ℕ). r.items) c.loop-at.inverse))
    all c.loop-at.invariant.entered)
