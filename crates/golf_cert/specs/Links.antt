-- Links of a graph: the place that each one places, and when it is justified.
use Rattle.std.specs.Prelude.{◌≡◌, ◌<◌, ◌⊎◌, ◌↔◌, ℕ, List, map, take, length, slice_get, Some}
use Rattle.golf_theory.specs.Membership.{In}
use Rattle.golf_model.specs.declared.graph.GraphParts.{GraphParts}
use Rattle.golf_model.specs.declared.graph.Marked.{Marked}
use Rattle.golf_model.specs.Graph.{Justifies, Least, node_count, sleeper_count, sleeper_place, children_of}
use Rattle.golf_model.specs.Graph.{sleeper_waits, sleeper_references}
use Rattle.golf_marks.specs.Flags.{IsSet}
use Rattle.golf_cert.specs.declared.links.Link.{Link}
use Rattle.golf_cert.specs.declared.links.Verdict.{Verdict}
use Rattle.golf_cert.specs.declared.links.Verdict.TheVariants.{Proved, Refused}
use Rattle.golf_cert.specs.declared.links.Link.TheVariants.{Root, Child, Woken, Held}

-- the place that a link places
abbrev pub placed_by : GraphParts → Link → ℕ
placed_by g (Root node) = node
placed_by g (Child from to) = to
placed_by g (Woken node sleeper) = sleeper_place g sleeper
placed_by g (Held sleeper node) = node

-- the places that links place, in their order
abbrev pub places_of : GraphParts → List Link → List ℕ
places_of g links = map (placed_by g) links

-- a link is justified if it is a root link of a root, or an edge whose source is placed
abbrev pub IsJustifiedAmong : GraphParts → (ℕ → Type 0) → Link → Type 0
IsJustifiedAmong g Placed (Root node) = In node g.roots
IsJustifiedAmong g Placed (Child from to) = Placed from × In to (children_of g from)
IsJustifiedAmong g Placed (Woken node sleeper) = Placed node × In node (sleeper_waits g sleeper)
IsJustifiedAmong g Placed (Held sleeper node) = Placed (sleeper_place g sleeper)
    × In node (sleeper_references g sleeper)

-- a link is justified if these places were placed before it
abbrev pub IsJustifiedBy : GraphParts → List ℕ → Link → Type 0
IsJustifiedBy g before link = IsJustifiedAmong g (λ p. In p before) link

-- the link of this number, from 0, is justified by the links before it
abbrev pub IsJustifiedAt : GraphParts → List Link → ℕ → Type 0
IsJustifiedAt g links i = (link : Link) × (slice_get links i ≡ Some link)
    × IsJustifiedBy g (places_of g (take i links)) link

-- each link of a number below the bound is justified by the links before it
abbrev pub AreJustifiedBelow : GraphParts → List Link → ℕ → Type 0
AreJustifiedBelow g links bound = (i : ℕ) → i < bound → IsJustifiedAt g links i

-- each link is justified by the links before it
abbrev pub AreJustified : GraphParts → List Link → Type 0
AreJustified g links = AreJustifiedBelow g links (length links)

-- the roots are placed, and all places that a placed place justifies
pub record IsClosedSet (g : GraphParts) (Placed : ℕ → Type 0) : Type 0 where
  pub roots : (p : ℕ) → In p g.roots → Placed p
  pub justified : (p q : ℕ) → Placed p → Justifies g p q → Placed q

-- the roots are among these places, and all places that one of them justifies
abbrev pub ContainsLeast : GraphParts → List ℕ → Type 0
ContainsLeast g places = IsClosedSet g (λ p. In p places)

-- the link of this number is the first that is not justified; past the last one: all are justified, and a place is
-- missing
abbrev pub IsRefusedAt : GraphParts → List Link → ℕ → Type 0
IsRefusedAt g links i =
    ((i < length links) × AreJustifiedBelow g links i × (IsJustifiedAt g links i → ⊥))
    ⊎ ((i ≡ length links) × AreJustified g links × (ContainsLeast g (places_of g links) → ⊥))

-- the meaning of a verdict on the links of a certificate
pub record IsVerdictOn (g : GraphParts) (links : List Link) (verdict : Verdict) : Type 0 where
  pub proved : (verdict ≡ Proved) ↔ (AreJustified g links × ContainsLeast g (places_of g links))
  pub refused : (i : ℕ) → (verdict ≡ Refused i) ↔ IsRefusedAt g links i
  pub least : verdict ≡ Proved → (p : ℕ) → In p (places_of g links) ↔ Least g p

-- the flags of a marking have each place of the least closed set
pub record CoversLeast (g : GraphParts) (m : Marked) : Type 0 where
  pub flags : (p : ℕ) → p < node_count g → Least g p → IsSet m.flags p
  pub awake : (s : ℕ) → s < sleeper_count g → Least g (sleeper_place g s) → IsSet m.awake s
