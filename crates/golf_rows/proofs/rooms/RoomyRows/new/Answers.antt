use Rattle.std.proofs.Common.{◌≡◌, ◌+◌, ◌-◌, ℕ, [], ◌∷◌, ◌++◌, List, length, get_or, ap, ap₂, sym, subst₂, ◌∙◌, arith}
use Rattle.std.proofs.lemmas.List.{map_more}
use Rattle.golf_base.specs.Roomy.{Roomy}
use Rattle.golf_rows.specs.Rooms.{room_for, roomy_from, AreRooms}
use Rattle.golf_rows.proofs.Filling.{rooms-open, roomy-open, last-open}
use Rattle.golf_rows.proofs.rooms.RoomyRows.new.Goals as goal

pub loop-room-preserved : goal.loop-room-preserved
loop-room-preserved c =
    let rooms = c.args.rooms.now in
    let i = c.loop-room.room-index in
    let room = get_or rooms i 0 in
    let l = c.loop-room in
    let end = c.in_ok-end.end in
    let is : end ≡ l.end + room = c.in_ok-end.ensures in
    let ends = c.in_ok-push-2.ensures.ok in
    let nexts = c.in_ok-push.ensures.ok in
    let room-is : end - l.end ≡ room = omega (arith, is) in
    record {
      lie = subst₂ (λ (es ns : List ℕ). AreRooms 0 es ns end) (sym ends) (sym nexts)
          (rooms-open 0 l.ends l.nexts l.end end end l.invariant.lie (omega (arith, is)) (omega arith));
      last = ap (λ (es : List ℕ). get_or (0 ∷ es) (length es) 0) ends ∙ last-open 0 l.ends end;
      rows = λ members.
          ap₂ (λ (es ns : List ℕ). roomy_from 0 es ns members) ends nexts
          ∙ roomy-open 0 l.ends l.nexts members l.end end l.invariant.lie l.invariant.last
          ∙ ap₂ (λ (rows : List (Roomy ℕ)) (n : ℕ). rows ++ room_for n ∷ []) (l.invariant.rows members) room-is
          ∙ sym (map_more room_for rooms i 0 (omega arith));
    }
