use Rattle.std.proofs.Common.{◌≡◌, ◌+◌, ℕ, List, length, take, map, get_or, ap, sym, subst, ◌∙◌, arith}
use Rattle.std.proofs.lemmas.List.{take_all}
use Rattle.golf_theory.specs.Membership.{In}
use Rattle.golf_base.specs.Roomy.{Roomy}
use Rattle.golf_rows.specs.Rows.{AddsTo}
use Rattle.golf_rows.specs.Rooms.{occurrences, spare_at}
use Rattle.golf_rows.proofs.Adding.{AddsTo-one, AddsTo-next}
use Rattle.golf_rows.proofs.Filling.{length-given, items-given, spare-there-items, has-room, spare-next}
use Rattle.golf_rows.proofs.rooms.RoomyRows.add_to_all.Goals as goal

pub add-requires : goal.add-requires
add-requires c = has-room c.loop-number.self c.args.self.now c.args.numbers.now c.loop-number.number-index
    (omega arith) c.requires c.loop-number.invariant.room

pub loop-number-preserved : goal.loop-number-preserved
loop-number-preserved c =
    let old = c.loop-number.self in
    let numbers = c.args.numbers.now in
    let i = c.loop-number.number-index in
    let n = get_or numbers i 0 in
    let x = c.args.member in
    let some = has-room old c.args.self.now numbers i (omega arith) c.requires c.loop-number.invariant.room in
    let items = λ (rows : List (Roomy ℕ)). map (λ (r : Roomy ℕ). r.items) rows in
    record {
      size = ap (λ (rows : List (Roomy ℕ)). length rows) c.add.ensures ∙ length-given old n x
          ∙ c.loop-number.invariant.size;
      room = λ k. ap (λ (rows : List (Roomy ℕ)). spare_at rows k + occurrences k (take (i + 1) numbers)) c.add.ensures
          ∙ spare-next old numbers i x (omega arith) some k ∙ c.loop-number.invariant.room k;
      added = AddsTo-next x i numbers (items c.args.self.now) (items old) (items c.add.new.self)
          (omega arith) c.loop-number.invariant.added
          (subst (λ (rows : List (List ℕ)). AddsTo (λ k. k ≡ n) x (items old) rows)
          (sym (ap items c.add.ensures ∙ items-given old n x))
          (AddsTo-one (items old) x n (spare-there-items old n some)));
    }

pub returns-clause-added : goal.returns-clause-added
returns-clause-added c = subst (λ (l : List ℕ). AddsTo (λ n. In n l) c.args.member
    (map (λ (r : Roomy ℕ). r.items) c.args.self.now) (map (λ (r : Roomy ℕ). r.items) c.loop-number.self))
    (take_all c.loop-number.number-index c.args.numbers.now (omega arith)) c.loop-number.invariant.added
