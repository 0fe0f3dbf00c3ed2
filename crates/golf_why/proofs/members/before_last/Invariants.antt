use Rattle.std.proofs.Common.{◌≡◌, map, take}
use Rattle.golf_cert.specs.Links.{places_of}
use Rattle.golf_why.specs.Members.{member_at}
use Rattle.golf_why.proofs.members.before_last.Given as goal

-- what the first links place
abbrev pub invariant-loop-link : goal.invariant-loop-link
invariant-loop-link l = l.members ≡ map (member_at l.graph) (places_of l.graph (take l.link-index l.before))
