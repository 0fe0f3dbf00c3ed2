use Rattle.std.proofs.Common.{◌≡◌, ◌+◌, ◌<◌, ℕ, List, length, get_or, set, ap, ap₂, sym, subst, subst₂, ◌∙◌, arith}
use Rattle.std.proofs.Common.{length-set}
use Rattle.std.proofs.lemmas.Grind.{common_steps}
use Rattle.golf_base.specs.Roomy.{Roomy}
use Rattle.golf_rows.specs.Rooms.{given, spare_at, roomy_from, AreRooms}
use Rattle.golf_rows.proofs.Filling.{room-at, rooms-given, roomy-given-all}
use Rattle.golf_rows.proofs.rooms.RoomyRows.add.Goals as goal

pub bounds-as_slice-number : goal.bounds-as_slice-number
bounds-as_slice-number c =
    let r = c.self.inside in
    let some = subst (λ (rows : List (Roomy ℕ)). 0 < spare_at rows c.args.number) (sym c.self.view_is) c.requires in
    let p = room-at 0 r.ends r.nexts r.members (length r.members) c.args.number c.self.invariant.0 some in
    omega (arith, p.0, ap length c.as_slice.ensures)

pub offset_bounds-as_slice-number : goal.offset_bounds-as_slice-number
offset_bounds-as_slice-number c =
    let r = c.self.inside in
    let some = subst (λ (rows : List (Roomy ℕ)). 0 < spare_at rows c.args.number) (sym c.self.view_is) c.requires in
    let p = room-at 0 r.ends r.nexts r.members (length r.members) c.args.number c.self.invariant.0 some in
    grind (arith, common_steps, p.0, ap length c.as_slice.ensures)

pub set-requires : goal.set-requires
set-requires c =
    let r = c.self.inside in
    let some = subst (λ (rows : List (Roomy ℕ)). 0 < spare_at rows c.args.number) (sym c.self.view_is) c.requires in
    let p = room-at 0 r.ends r.nexts r.members (length r.members) c.args.number c.self.invariant.0 some in
    omega (arith, p.2, p.3, ap (λ (nexts : List ℕ). get_or nexts c.args.number 0) c.as_slice.ensures)

pub overflow_add-next : goal.overflow_add-next
overflow_add-next c =
    let r = c.self.inside in
    let some = subst (λ (rows : List (Roomy ℕ)). 0 < spare_at rows c.args.number) (sym c.self.view_is) c.requires in
    let p = room-at 0 r.ends r.nexts r.members (length r.members) c.args.number c.self.invariant.0 some in
    grind (
      arith,
      common_steps,
      p.2,
      p.3,
      c.self.invariant.1,
      ap (λ (nexts : List ℕ). get_or nexts c.args.number 0) c.as_slice.ensures,
    )

pub set-requires-2 : goal.set-requires-2
set-requires-2 c =
    let r = c.self.inside in
    let some = subst (λ (rows : List (Roomy ℕ)). 0 < spare_at rows c.args.number) (sym c.self.view_is) c.requires in
    (room-at 0 r.ends r.nexts r.members (length r.members) c.args.number c.self.invariant.0 some).0

pub invariant_of-self : goal.invariant_of-self
invariant_of-self c =
    let r = c.self.inside in
    let n = c.args.number in
    let some = subst (λ (rows : List (Roomy ℕ)). 0 < spare_at rows n) (sym c.self.view_is) c.requires in
    let next = ap (λ (nexts : List ℕ). get_or nexts n 0) c.as_slice.ensures in
    let nexts : c.set-2.new.self ≡ set r.nexts n (get_or r.nexts n 0 + 1) = c.set-2.ensures
    ∙ ap (λ (k : ℕ). set r.nexts n (k + 1)) next in
    let size : length r.members ≡ length c.set.new.self =
    sym (ap (λ (xs : List ℕ). length xs) c.set.ensures ∙ length-set r.members _ c.args.member) in (
      subst₂ (λ (ns : List ℕ) (bound : ℕ). AreRooms 0 r.ends ns bound) (sym nexts) size
          (rooms-given 0 r.ends r.nexts r.members (length r.members) n c.self.invariant.0 some),
      omega (arith, size, c.self.invariant.1),
    )

pub returns : goal.returns
returns c =
    let r = c.self.inside in
    let n = c.args.number in
    let some = subst (λ (rows : List (Roomy ℕ)). 0 < spare_at rows n) (sym c.self.view_is) c.requires in
    let next = ap (λ (nexts : List ℕ). get_or nexts n 0) c.as_slice.ensures in
    let nexts : c.set-2.new.self ≡ set r.nexts n (get_or r.nexts n 0 + 1) = c.set-2.ensures
    ∙ ap (λ (k : ℕ). set r.nexts n (k + 1)) next in
    let members : c.set.new.self ≡ set r.members (get_or r.nexts n 0) c.args.member = c.set.ensures
    ∙ ap (λ (k : ℕ). set r.members k c.args.member) next in
    ap₂ (λ (ns ms : List ℕ). roomy_from 0 r.ends ns ms) nexts members
    ∙ roomy-given-all r.ends r.nexts r.members n c.args.member c.self.invariant.0 some
    ∙ ap (λ (rows : List (Roomy ℕ)). given rows n c.args.member) c.self.view_is
