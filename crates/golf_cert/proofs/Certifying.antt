-- A certificate, link by link.
-- For: `AreJustified`, `ContainsLeast` (golf_cert/specs/Links.antt) and `links_of`, `certify` (src/certificates.rt)
-- By: what one more link keeps, as the loop needs it; no induction
use Rattle.std.proofs.Common.{◌≡◌, ℕ, ◌+◌, ◌<◌, ◌≤◌, inl, inr, List, [], ◌∷◌, ◌++◌, length, get_or, take, refl, sym, ap}
use Rattle.std.proofs.Common.{◌∙◌, subst, arith}
use Rattle.std.specs.Prelude.{slice_get}
use Rattle.std.proofs.lemmas.Bool.{cases_lt}
use Rattle.std.proofs.lemmas.List.{map-append, length_push, take_more, take-append-le, take_all, take_at, get_or-take}
use Rattle.std.proofs.lemmas.List.{length-take-le}
use Rattle.golf_theory.specs.Membership.{In}
use Rattle.golf_theory.proofs.Lists.{In-get_or}
use Rattle.golf_theory.proofs.Times.{In-times}
use Rattle.golf_theory.proofs.Derivations.{Reached-root, Reached-step}
use Rattle.golf_model.specs.declared.graph.GraphParts.{GraphParts}
use Rattle.golf_model.specs.Graph.{Justifies, Least}
use Rattle.golf_cert.specs.declared.walk.Walk.{Walk}
use Rattle.golf_cert.specs.declared.links.Link.{Link}
use Rattle.golf_cert.specs.Links.{placed_by, places_of, IsJustifiedBy, AreJustified, ContainsLeast}
use Rattle.golf_cert.specs.LevelWalk.{HasLevels}
use Rattle.golf_cert.specs.Parents.{IsNextLevel, AddsLink}
use Rattle.golf_cert.proofs.FlagLaws.{slice_get-left, slice_get-last}
use Rattle.golf_cert.proofs.Walks.{place_of, order_level}
use Rattle.golf_cert.proofs.Claims.{level_of}

-- one more link that those before it justify
pub justified_push : (g : GraphParts) (links : List Link) (link : Link) → AreJustified g links
    → IsJustifiedBy g (places_of g links) link → AreJustified g (links ++ link ∷ [])
justified_push g links link all j i low = elim (cases_lt i (length links)) [
  | inl below ↦
      let r = all i below in
      let prefix : take i (links ++ link ∷ []) ≡ take i links =
      take-append-le i links (link ∷ []) (omega (arith, below)) in (
        r.0,
        slice_get-left links (link ∷ []) i r.0 r.1,
        subst (λ (l : List Link). IsJustifiedBy g (places_of g l) r.0) (sym prefix) r.2,
      )
  | inr past ↦
      let same : i ≡ length links = omega (arith, low, past, length_push links link) in
      let prefix : take i (links ++ link ∷ []) ≡ links = take_at links (link ∷ []) i (sym same) in (
        link,
        ap (slice_get (links ++ link ∷ [])) same ∙ slice_get-last links link,
        subst (λ (l : List Link). IsJustifiedBy g (places_of g l) link) (sym prefix) j,
      )
]

-- the links place the first places of the list
pub record IsCertifying (g : GraphParts) (order : List ℕ) (i : ℕ) (links : List Link) : Type 0 where
  pub places : places_of g links ≡ take i order
  pub justified : AreJustified g links

pub certified_none : (g : GraphParts) (order : List ℕ) (links : List Link) → links ≡ [] → IsCertifying g order 0 links
certified_none g order links is = subst (IsCertifying g order 0)
    (sym is) record { places = refl; justified = λ i low. absurd (omega (arith, low)) }

-- the next place gets its link
pub certified_more : (g : GraphParts) (w : Walk) (i : ℕ) (old new : List Link) → HasLevels g w → i < length w.order
    → IsCertifying g w.order i old → AddsLink g w.levels (get_or w.order i 0) old new
    → IsCertifying g w.order (i + 1) new
certified_more g w i old new levels low c (link, is, placed, to) =
    let p : ℕ = get_or w.order i 0 in
    let before : (from : ℕ) → IsNextLevel g w.levels from p → In from (take i w.order) = λ from l.
    let here : In from w.order = In-times from w.order (omega (arith, levels.once from l.is_levelled)) in
    let k = place_of w.order from here in
    let first : k.0 < i = elim (cases_lt k.0 i) [
      | inl less ↦ less
      | inr more ↦ absurd (omega (arith, levels.rising i k.0 more k.1, ap (level_of w) k.2, l.is_next))
    ] in
    let at : get_or (take i w.order) k.0 0 ≡ from = get_or-take i w.order k.0 0 first ∙ k.2 in
    subst (λ (x : ℕ). In x (take i w.order)) at
    (In-get_or (take i w.order) k.0 0 (omega (arith, first, low, length-take-le i w.order (omega (arith, low))))) in
    let j : IsJustifiedBy g (places_of g old) link =
    subst (λ (l : List ℕ). IsJustifiedBy g l link) (sym c.places) (to (take i w.order) before) in
    subst (IsCertifying g w.order (i + 1)) (sym is) record {
      places = map-append (placed_by g) old (link ∷ []) ∙ ap (λ (l : List ℕ). l ++ placed_by g link ∷ []) c.places
          ∙ ap (λ (x : ℕ). take i w.order ++ x ∷ []) placed ∙ sym (take_more w.order i 0 low);
      justified = justified_push g old link c.justified j;
    }

-- all places have their links
pub certified_all : (g : GraphParts) (w : Walk) (i : ℕ) (links : List Link) → length w.order ≤ i
    → IsCertifying g w.order i links → places_of g links ≡ w.order
certified_all g w i links all c = c.places ∙ take_all i w.order all

-- links that place all listed places leave nothing out
pub certified_closed : (g : GraphParts) (w : Walk) (links : List Link) → HasLevels g w → places_of g links ≡ w.order
    → ContainsLeast g (places_of g links)
certified_closed g w links levels is =
    let listed : (p : ℕ) → Least g p → In p (places_of g links) =
    λ p d. subst (λ (l : List ℕ). In p l) (sym is)
    (In-times p w.order (omega (arith, levels.once p (levels.least p d)))) in
    record {
      roots = λ p h. listed p (Reached-root (λ q. In q g.roots) (Justifies g) p h);
      justified = λ p q h j.
          let l = levels.levels p (order_level g w levels p (subst (λ (k : List ℕ). In p k) is h)) in
          listed q (Reached-step (λ x. In x g.roots) (Justifies g) p q (l.way.0, l.way.1) j);
    }
