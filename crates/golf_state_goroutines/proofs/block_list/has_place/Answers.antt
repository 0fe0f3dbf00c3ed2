use Rattle.std.proofs.Common.{◌≡◌, ◌*◌, ◌<◌, ◌^◌, ◌&&◌, ℕ, rules, sym, ap, ◌∙◌, arith, slice_get}
use Rattle.std.specs.Prelude.{option_map}
use Rattle.std.proofs.lemmas.Bool.{lt-ltb}
use Rattle.golf_theory.specs.Maps.{rank}
use Rattle.golf_state_goroutines.specs.RunLists.{has_place}
use Rattle.golf_state_goroutines.proofs.RunLaws.{next-tells, none-tells}
use Rattle.golf_state_goroutines.proofs.block_list.has_place.Given.{Over}
use Rattle.golf_state_goroutines.proofs.block_list.has_place.Goals.{After-next}
use Rattle.golf_state_goroutines.proofs.block_list.has_place.Goals as goal

-- the first of the 256 numbers
first : (g : Over) (c : After-next g) → c.in-Some.low ≡ c.args.key * 256
first g c = search rules

small : (g : Over) (c : After-next g) → c.args.key < 2 ^ 24
small g c = let low : c.args.key * 256 < 2 ^ 32 = search rules in omega (arith, low)

pub returns-in-Some-next : goal.returns-in-Some-next
returns-in-Some-next g c =
    let at = (goal.at.returns-in-Some-next g c).After-next in
    let ps = c.args.places.now in
    let k = c.args.key in
    next-tells ps k c.in-Some-next.number c.in-Some-next.ensures.rises
    (c.in-Some-next.ensures.next
    ∙ ap (λ (n : ℕ). option_map (λ (e : ℕ × _). e.0) (slice_get ps (rank n ps))) (first g at))
    ∙ ap (λ t. t && has_place k ps) (sym (lt-ltb k (2 ^ 24) (small g at)))

pub returns-in-None-next : goal.returns-in-None-next
returns-in-None-next g c =
    let at = (goal.at.returns-in-None-next g c).After-next in
    let ps = c.args.places.now in
    let k = c.args.key in
    none-tells ps k c.in-None-next.ensures.rises
    (c.in-None-next.ensures.next
    ∙ ap (λ (n : ℕ). option_map (λ (e : ℕ × _). e.0) (slice_get ps (rank n ps))) (first g at))
    ∙ ap (λ t. t && has_place k ps) (sym (lt-ltb k (2 ^ 24) (small g at)))
