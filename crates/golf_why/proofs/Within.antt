-- What justified links place is there.
-- For: `before_last`, src/members.rt; `IsPlacedIn`, specs/Members.antt
-- By: cases of the link; induction over the list of links
use Rattle.std.proofs.Common.{◌≡◌, ℕ, zero, suc, ◌-◌, ◌<◌, List, [], ◌∷◌, map, length, take, get_or, Some, refl, sym}
use Rattle.std.proofs.Common.{ap, subst, ◌∙◌, arith}
use Rattle.std.specs.Prelude.{slice_get}
use Rattle.std.proofs.lemmas.List.{length-map, take-map}
use Rattle.golf_theory.proofs.Lists.{Every-at}
use Rattle.golf_model.specs.declared.graph.GraphParts.{GraphParts}
use Rattle.golf_model.specs.Graph.{node_count, children_of, sleeper_references, IsInRange}
use Rattle.golf_mark.proofs.Ranges.{children-nodes, references-nodes, waits-below}
use Rattle.golf_cert.specs.declared.links.Link.{Link}
use Rattle.golf_cert.specs.declared.links.Link.TheVariants.{Root, Child, Woken, Held}
use Rattle.golf_cert.specs.Links.{placed_by, places_of, IsJustifiedBy, AreJustified}
use Rattle.golf_why.specs.Members.{member_at, members_before, IsPlacedIn}

justified-within : (g : GraphParts) → IsInRange g → (before : List ℕ) (link : Link) → IsJustifiedBy g before link
    → IsPlacedIn g link
justified-within g fit before (Root node) h = Every-at (λ p. p < node_count g) g.roots node fit.roots h
justified-within g fit before (Child from to) h =
    Every-at (λ p. p < node_count g) (children_of g from) to (children-nodes g fit from) h.1
justified-within g fit before (Woken node sleeper) h = waits-below g sleeper node h.1
justified-within g fit before (Held sleeper node) h =
    Every-at (λ p. p < node_count g) (sleeper_references g sleeper) node (references-nodes g fit sleeper) h.1

got-same : (links : List Link) (i : ℕ) (d x : Link) → slice_get links i ≡ Some x → get_or links i d ≡ x
got-same [] i d x e = cc
got-same (y ∷ ys) zero d x e = cc
got-same (y ∷ ys) (suc i) d x e = got-same ys i d x e

get-taken : (links : List Link) (n i : ℕ) (d : Link) → i < length (take n links)
    → (get_or (take n links) i d ≡ get_or links i d) × (i < length links)
get-taken [] zero i d l = absurd (omega (arith, l))
get-taken [] (suc n) i d l = absurd (omega (arith, l))
get-taken (y ∷ ys) zero i d l = absurd (omega (arith, l))
get-taken (y ∷ ys) (suc n) zero d l = (refl, omega arith)
get-taken (y ∷ ys) (suc n) (suc i) d l = let r = get-taken ys n i d (omega (arith, l)) in (r.0, omega (arith, r.1))

-- each of the first links
pub within-at : (g : GraphParts) (links : List Link) (n i : ℕ) (d : Link) → IsInRange g → AreJustified g links
    → i < length (take n links) → IsPlacedIn g (get_or (take n links) i d)
within-at g links n i d fit all l =
    let t = get-taken links n i d l in
    let j = all i t.1 in
    subst (IsPlacedIn g) (sym (got-same links i d j.0 j.1) ∙ sym t.0)
    (justified-within g fit (places_of g (take i links)) j.0 j.2)

-- what all but the last place
pub before-is : (g : GraphParts) (links : List Link)
    → map (member_at g) (places_of g (take (length links - 1) links)) ≡ members_before g (places_of g links)
before-is g links =
    ap (map (member_at g)) (sym (take-map (placed_by g) (length links - 1) links))
    ∙ ap (λ n. map (member_at g) (take (n - 1) (places_of g links))) (sym (length-map links (placed_by g)))
