-- The objects and goroutines of the places of a reason.
use Rattle.std.specs.Prelude.{ℕ, ◌-◌, ◌<◌, nat_lt, cond, List, map, take, length, slice_get, unwrap_or}
use Rattle.golf_model.specs.declared.graph.GraphParts.{GraphParts}
use Rattle.golf_model.specs.Graph.{node_count, sleeper_count, goroutine_at}
use Rattle.golf_cert.specs.declared.links.Link.{Link}
use Rattle.golf_cert.specs.declared.links.Link.TheVariants.{Root, Child, Woken, Held}
use Rattle.golf_why.specs.declared.members.Member.{Member}
use Rattle.golf_why.specs.declared.members.Member.TheVariants as member

-- the object of a node, or the goroutine of a sleeper
abbrev pub member_at : GraphParts → ℕ → Member
member_at g p =
    cond (nat_lt p (node_count g))
    (member.Object (unwrap_or (slice_get g.numbers p) (record { 0 = 0 })))
    (member.Goroutine (unwrap_or (goroutine_at g (p - node_count g)) (record { 0 = 0 })))

-- the members of all places except for the last one
abbrev pub members_before : GraphParts → List ℕ → List Member
members_before g places = map (member_at g) (take (length places - 1) places)

-- the link places a place of the graph
abbrev pub IsPlacedIn : GraphParts → Link → Type 0
IsPlacedIn g (Root node) = node < node_count g
IsPlacedIn g (Child from to) = to < node_count g
IsPlacedIn g (Woken node sleeper) = sleeper < sleeper_count g
IsPlacedIn g (Held sleeper node) = node < node_count g
