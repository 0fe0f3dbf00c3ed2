use Rattle.std.proofs.Common.{◌≡◌, ◌<◌, ℕ, Some, None, sym, ◌∙◌, subst}
use Rattle.slab.specs.Slab.{Updates, get}
use Rattle.golf_heap.specs.Objects.{NumberedObjects}
use Rattle.golf_heap.proofs.Stored.{IsStored-room, IsStored-appended, view-appended}
use Rattle.golf_heap.proofs.heap.Heap.append.Goals as goal

pub invariant_of-self : goal.invariant_of-self
invariant_of-self c = IsStored-room c.self.inside.slots c.reserve.new.self c.self.inside.places.items c.self.inside.last
    c.reserve.ensures.rest_kept c.self.invariant

pub invariant_of-self-in_err-push : goal.invariant_of-self-in_err-push
invariant_of-self-in_err-push c =
    rw c.in_err-push.ensures.items
    (IsStored-room c.self.inside.slots c.reserve.new.self c.self.inside.places.items c.self.inside.last
    c.reserve.ensures.rest_kept c.self.invariant)

pub invariant_of-self-2 : goal.invariant_of-self-2
invariant_of-self-2 c =
    let room = IsStored-room c.self.inside.slots c.reserve.new.self c.self.inside.places.items c.self.inside.last
    c.reserve.ensures.rest_kept c.self.invariant in
    let key = c.in_ok-key.key in
    let u : Updates c.reserve.new.self c.insert_reserved.new.self key (Some (c.args.number, c.args.object)) =
    subst (λ (k : ℕ). Updates c.reserve.new.self c.insert_reserved.new.self k
    (Some (c.args.number, c.args.object)))
    (c.insert_reserved.ensures.key ∙ sym c.vacant_key-vacant.ensures.value ∙ sym c.in_ok-key.ensures) c.insert_reserved.ensures.updates in
    let v = subst (λ (k : ℕ). get c.reserve.new.self k ≡ None) (sym c.in_ok-key.ensures) c.vacant_key-vacant.ensures.vacant in
    rw c.in_ok-push.ensures.items
    (IsStored-appended c.reserve.new.self c.insert_reserved.new.self key c.args.number c.self.inside.last
    c.args.object c.self.inside.places.items room
    (record { vacant = v; updates = u; above = subst (λ (h : NumberedObjects). h.last < c.args.number) (sym c.self.view_is) c.requires }) c.insert_reserved.ensures.len)

pub returns-clause-ok : goal.returns-clause-ok
returns-clause-ok c =
    let room = IsStored-room c.self.inside.slots c.reserve.new.self c.self.inside.places.items c.self.inside.last
    c.reserve.ensures.rest_kept c.self.invariant in
    let key = c.in_ok-key.key in
    let u : Updates c.reserve.new.self c.insert_reserved.new.self key (Some (c.args.number, c.args.object)) =
    subst (λ (k : ℕ). Updates c.reserve.new.self c.insert_reserved.new.self k
    (Some (c.args.number, c.args.object)))
    (c.insert_reserved.ensures.key ∙ sym c.vacant_key-vacant.ensures.value ∙ sym c.in_ok-key.ensures) c.insert_reserved.ensures.updates in
    let v = subst (λ (k : ℕ). get c.reserve.new.self k ≡ None) (sym c.in_ok-key.ensures) c.vacant_key-vacant.ensures.vacant in
    rw (← c.self.view_is, c.in_ok-push.ensures.items)
    (view-appended c.self.inside.slots c.reserve.new.self c.insert_reserved.new.self key c.args.number
    c.self.inside.last c.args.object c.self.inside.places.items c.reserve.ensures.rest_kept room.held
    (record { vacant = v; updates = u; above = subst (λ (h : NumberedObjects). h.last < c.args.number) (sym c.self.view_is) c.requires }))

pub invariant_of-self-in_err-key : goal.invariant_of-self-in_err-key
invariant_of-self-in_err-key c = IsStored-room c.self.inside.slots c.reserve.new.self c.self.inside.places.items c.self.inside.last
    c.reserve.ensures.rest_kept c.self.invariant
