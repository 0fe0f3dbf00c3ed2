-- From a place back to a root, parent by parent.
-- For: `IsReason` (golf_cert/specs/Levels.antt) and `links_to` (src/reasons.rt), `link_to` (src/certificates.rt)
-- By: induction over the list of places of a way, and over the links of a trail
use Rattle.std.proofs.Common.{◌≡◌, ℕ, ◌+◌, ◌-◌, ◌<◌, ◌≤◌, inl, inr, List, [], ◌∷◌, ◌++◌, length, get_or, take, Option}
use Rattle.std.proofs.Common.{None, refl, sym, ap, ◌∙◌, subst, arith}
use Rattle.std.specs.Prelude.{reverse}
use Rattle.std.proofs.lemmas.Bool.{cases_eq, cases_lt}
use Rattle.std.proofs.lemmas.List.{map-append, length-map, length_push, length-reverse, reverse-append}
use Rattle.std.proofs.lemmas.List.{get_or_append_left, get_or_push, get_or-reverse, get_or-take, take-map}
use Rattle.std.proofs.lemmas.List.{length-take-le}
use Rattle.golf_theory.specs.Membership.{In}
use Rattle.golf_theory.proofs.Lists.{In-get_or}
use Rattle.golf_model.specs.declared.graph.GraphParts.{GraphParts}
use Rattle.golf_model.specs.Graph.{node_count}
use Rattle.golf_cert.specs.declared.walk.Walk.{Walk}
use Rattle.golf_cert.specs.declared.links.Link.{Link}
use Rattle.golf_cert.specs.declared.links.Link.TheVariants.{Root, Child, Woken, Held}
use Rattle.golf_cert.specs.Links.{placed_by, places_of, IsJustifiedBy, AreJustified}
use Rattle.golf_cert.specs.Levels.{IsWay, IsLevel, IsLeastBefore, IsReason}
use Rattle.golf_cert.specs.LevelWalk.{HasLevels}
use Rattle.golf_cert.specs.Parents.{parent_in, IsNextLevel, IsParent, HasParents}
use Rattle.golf_cert.proofs.Lists.{slice_get_at}
use Rattle.golf_cert.proofs.Claims.{level_of}

-- a place has one level
pub level_once : (g : GraphParts) (p a b : ℕ) → IsLevel g p a → IsLevel g p b → a ≡ b
level_once g p a b la lb = omega (arith, la.least lb.way.0 lb.way.1, lb.least la.way.0 la.way.1, la.way.2, lb.way.2)

-- each entry of a list ends a list that is no longer
pub way_to : (g : GraphParts) (xs : List ℕ) → IsWay g xs → (q : ℕ) → In q xs → (earlier : List ℕ)
    × IsWay g (q ∷ earlier) × (length (q ∷ earlier) ≤ length xs)
way_to g [] d q h = absurd h
way_to g (x ∷ xs) d q (inl e) = (xs, subst (λ (y : ℕ). IsWay g (y ∷ xs)) (sym e) d, omega arith)
way_to g (x ∷ xs) d q (inr h) = let r = way_to g xs d.1 q h in (r.0, r.1, omega (arith, r.2))

module _ (g : GraphParts) (w : Walk) (levels : HasLevels g w) where
  pub level_is : (p level : ℕ) → IsLevel g p level → level_of w p ≡ level
  level_is p level l = level_once g p (level_of w p) level (levels.levels p (levels.least p (l.way.0, l.way.1))) l

  -- a place without one that leads to it is a root, and of the first level
  pub first_level : (p : ℕ) → 0 < level_of w p → ((q : ℕ) → IsNextLevel g w.levels q p → ⊥) → (level_of w p ≡ 1)
      × In p g.roots
  first_level p some none =
      let l = levels.levels p some in
      elim l.way.1.0 [
        | inl root ↦ (omega (arith, some, l.least [] (inl root, tt)), root)
        | inr t ↦
            let r = way_to g l.way.0 l.way.1.1 t.0 t.1 in
            let has : 0 < level_of w t.0 = levels.least t.0 (r.0, r.1) in
            let m = levels.levels t.0 has in
            let low = m.least r.0 r.1 in
            let high = l.least (t.0 ∷ m.way.0) (inr (t.0, inl refl, t.2), m.way.1) in
            absurd (none t.0 (record {
              is_levelled = has;
              is_next = omega (arith, low, high, r.2, m.way.2, l.way.2);
              justifies = t.2;
            }))
      ]

  -- a parent is the least place of its level that justifies the next one
  pub parent_least : (p parent : ℕ) → IsParent g w.levels parent p → IsLeastBefore g (level_of w parent) p parent
  parent_least p parent i = record {
    at_level = levels.levels parent i.leads.is_levelled;
    justifies = i.leads.justifies;
    least = λ other l j.
        let is = level_is other (level_of w parent) l in
        i.least other (record {
          is_levelled = omega (arith, is, i.leads.is_levelled);
          is_next = omega (arith, is, i.leads.is_next);
          justifies = j;
        });
  }

only : (p x : ℕ) (before : List ℕ) → In p before → In x (p ∷ []) → In x before
only p x before h (inl e) = subst (λ (y : ℕ). In y before) (sym e) h
only p x before h (inr none) = absurd none

-- what justifies a link by one place justifies it by any that have it
pub justified_among : (g : GraphParts) (p : ℕ) (before : List ℕ) (link : Link) → In p before
    → IsJustifiedBy g (p ∷ []) link → IsJustifiedBy g before link
justified_among g p before (Root node) h j = j
justified_among g p before (Child from to) h j = (only p from before h j.0, j.1)
justified_among g p before (Woken node sleeper) h j = (only p node before h j.0, j.1)
justified_among g p before (Held sleeper node) h j = (only p (node_count g + sleeper) before h j.0, j.1)

-- links so far, the newest first: from the start back to a place
pub record IsTrail (g : GraphParts) (w : Walk) (start at : ℕ) (links : List Link) : Type 0 where
  pub reached : 0 < level_of w at
  pub count : level_of w at + length links ≡ level_of w start
  pub first : get_or (places_of g links ++ at ∷ []) 0 0 ≡ start
  pub steps : (k : ℕ) → k < length links → IsLeastBefore g (level_of w start - (k + 1))
      (get_or (places_of g links ++ at ∷ []) k 0) (get_or (places_of g links ++ at ∷ []) (k + 1) 0)
  pub justified : (k : ℕ) → k < length links
      → IsJustifiedBy g (get_or (places_of g links ++ at ∷ []) (k + 1) 0 ∷ []) (get_or links k (Root 0))

-- the places of links back to a place, with it
abbrev trail : GraphParts → List Link → ℕ → List ℕ
trail g links at = places_of g links ++ at ∷ []

trail_length : (g : GraphParts) (links : List Link) (at : ℕ) → length (trail g links at) ≡ length links + 1
trail_length g links at = omega (arith, length_push (places_of g links) at, length-map links (placed_by g))

trail_last : (g : GraphParts) (links : List Link) (at : ℕ) → get_or (trail g links at) (length links) 0 ≡ at
trail_last g links at = get_or_push (places_of g links) at 0 (length links) (length-map links (placed_by g))

-- one more link
places_push : (g : GraphParts) (links : List Link) (link : Link) → places_of g (links ++ link ∷ []) ≡ places_of g links
    ++ placed_by g link ∷ []
places_push g links link = map-append (placed_by g) links (link ∷ [])

pub trail_goes_on : {g : GraphParts} {w : Walk} {start at parent : ℕ} {links new : List Link} (link : Link)
    → HasLevels g w → IsTrail g w start at links → IsParent g w.levels parent at
    → new ≡ links ++ link ∷ [] → placed_by g link ≡ at → IsJustifiedBy g (parent ∷ []) link
    → IsTrail g w start parent new
trail_goes_on {g} {w} {start} {at} {parent} {links} {new} link levels t i is placed justified =
    let old : List ℕ = trail g links at in
    let places : places_of g (links ++ link ∷ []) ≡ old = places_push g links link
    ∙ ap (λ (p : ℕ). places_of g links ++ p ∷ []) placed in
    let size : length old ≡ length links + 1 = trail_length g links at in
    let prefix : (k : ℕ) → k < length links + 1 → get_or (trail g (links ++ link ∷ []) parent) k 0 ≡ get_or old k 0 =
    λ k h. ap (λ (l : List ℕ). get_or (l ++ parent ∷ []) k 0) places
    ∙ get_or_append_left old (parent ∷ []) 0 k (omega (arith, h, size)) in
    let end : get_or (trail g (links ++ link ∷ []) parent) (length links + 1) 0 ≡ parent =
    ap (λ (l : List ℕ). get_or (l ++ parent ∷ []) (length links + 1) 0) places
    ∙ get_or_push old parent 0 (length links + 1) size in
    let last : get_or old (length links) 0 ≡ at = trail_last g links at in
    let more : length (links ++ link ∷ []) ≡ length links + 1 = length_push links link in
    subst (IsTrail g w start parent) (sym is) record {
      reached = i.leads.is_levelled;
      count = omega (arith, t.count, i.leads.is_next, more);
      first = prefix 0 (omega arith) ∙ t.first;
      steps = λ k h. elim (cases_lt k (length links)) [
        | inl low ↦
            subst (λ (x : ℕ). IsLeastBefore g (level_of w start - (k + 1)) x
            (get_or (trail g (links ++ link ∷ []) parent) (k + 1) 0)) (sym (prefix k (omega (arith, low))))
            (subst (λ (x : ℕ). IsLeastBefore g (level_of w start - (k + 1)) (get_or old k 0) x)
            (sym (prefix (k + 1) (omega (arith, low)))) (t.steps k low))
        | inr high ↦
            let same : k ≡ length links = omega (arith, h, high, more) in
            let level : level_of w parent ≡ level_of w start - (k + 1) =
            omega (arith, same, t.count, i.leads.is_next) in
            let a : get_or (trail g (links ++ link ∷ []) parent) k 0 ≡ at = prefix k (omega (arith, same))
            ∙ ap (λ (x : ℕ). get_or old x 0) same ∙ last in
            let b : get_or (trail g (links ++ link ∷ []) parent) (k + 1) 0 ≡ parent =
            ap (λ (x : ℕ). get_or (trail g (links ++ link ∷ []) parent) (x + 1) 0) same ∙ end in
            subst (λ (x : ℕ). IsLeastBefore g (level_of w start - (k + 1)) x
            (get_or (trail g (links ++ link ∷ []) parent) (k + 1) 0)) (sym a)
            (subst (λ (x : ℕ). IsLeastBefore g (level_of w start - (k + 1)) at x) (sym b)
            (subst (λ (x : ℕ). IsLeastBefore g x at parent) level (parent_least g w levels at parent i)))
      ];
      justified = λ k h. elim (cases_lt k (length links)) [
        | inl low ↦
            subst (λ (x : ℕ). IsJustifiedBy g (x ∷ []) (get_or (links ++ link ∷ []) k (Root 0)))
            (sym (prefix (k + 1) (omega (arith, low))))
            (subst (IsJustifiedBy g (get_or old (k + 1) 0 ∷ []))
            (sym (get_or_append_left links (link ∷ []) (Root 0) k low)) (t.justified k low))
        | inr high ↦
            let same : k ≡ length links = omega (arith, h, high, more) in
            let b : get_or (trail g (links ++ link ∷ []) parent) (k + 1) 0 ≡ parent =
            ap (λ (x : ℕ). get_or (trail g (links ++ link ∷ []) parent) (x + 1) 0) same ∙ end in
            subst (λ (x : ℕ). IsJustifiedBy g (x ∷ []) (get_or (links ++ link ∷ []) k (Root 0))) (sym b)
            (subst (IsJustifiedBy g (parent ∷ [])) (sym (get_or_push links link (Root 0) k (sym same))) justified)
      ];
    }

-- the other way round
places-reverse : (g : GraphParts) (links : List Link) → places_of g (reverse links) ≡ reverse (places_of g links)
places-reverse g [] = refl
places-reverse g (x ∷ xs) =
    ap (places_of g) (reverse-append (x ∷ []) xs) ∙ map-append (placed_by g) (reverse xs) (x ∷ [])
    ∙ ap (λ (l : List ℕ). l ++ placed_by g x ∷ []) (places-reverse g xs)
    ∙ sym (reverse-append (placed_by g x ∷ []) (places_of g xs))

-- a list that begins so ends so the other way round
reverse_ends : (xs : List ℕ) (x : ℕ) → 0 < length xs → get_or xs 0 0 ≡ x → (before : List ℕ)
    × (reverse xs ≡ before ++ x ∷ [])
reverse_ends [] x low e = absurd (omega arith)
reverse_ends (y ∷ ys) x low e = (reverse ys, reverse-append (y ∷ []) ys ∙ ap (λ (z : ℕ). reverse ys ++ z ∷ []) e)

module _ (g : GraphParts) (w : Walk) (parents : List (Option ℕ)) (start at : ℕ) (links all result : List Link)
    (levels : HasLevels g w) (h : HasParents g w.levels parents)
    (t : IsTrail g w start at links) (none : parent_in parents at ≡ None) (pushed : all ≡ links ++ Root at ∷ [])
    (turned : result ≡ reverse all) where
  root : (level_of w at ≡ 1) × In at g.roots
  root = first_level g w levels at t.reached (h.none at none)

  placed : places_of g result ≡ reverse (trail g links at)
  placed = ap (places_of g) turned ∙ places-reverse g all ∙ ap (λ (l : List Link). reverse (places_of g l)) pushed
      ∙ ap reverse (places_push g links (Root at))

  count : length (trail g links at) ≡ level_of w start
  count = omega (arith, trail_length g links at, t.count, root.0)

  size : length (places_of g result) ≡ level_of w start
  size = ap length placed ∙ length-reverse (trail g links at) ∙ count

  item : (k : ℕ) → k < level_of w start → get_or (places_of g result) k 0 ≡ get_or (trail g links at)
      (level_of w start - 1 - k) 0
  item k low = ap (λ (l : List ℕ). get_or l k 0) placed
      ∙ get_or-reverse (trail g links at) k 0 (omega (arith, low, count))
      ∙ ap (λ (n : ℕ). get_or (trail g links at) (n - 1 - k) 0) count

  pub trail_reason : IsReason g start (places_of g result)
  trail_reason = record {
    level = subst (IsLevel g start) (sym size) (levels.levels start (omega (arith, t.count, t.reached)));
    ends = let r = reverse_ends (trail g links at) start
        (omega (arith, trail_length g links at)) t.first in (r.0, placed ∙ r.1);
    before = λ k low.
        let low' : k + 1 < level_of w start = omega (arith, low, size) in
        let n : ℕ = level_of w start in
        let j : ℕ = n - 1 - (k + 1) in
        let a : get_or (places_of g result) k 0 ≡ get_or (trail g links at) (j + 1) 0 = item k (omega (arith, low'))
        ∙ ap (λ (x : ℕ). get_or (trail g links at) x 0) (omega (arith, low')) in
        let b : get_or (places_of g result) (k + 1) 0 ≡ get_or (trail g links at) j 0 = item (k + 1) low' in
        let level : n - (j + 1) ≡ k + 1 = omega (arith, low') in
        subst (λ (x : ℕ). IsLeastBefore g (k + 1) x (get_or (places_of g result) k 0)) (sym b)
        (subst (λ (x : ℕ). IsLeastBefore g (k + 1) (get_or (trail g links at) j 0) x) (sym a)
        (subst (λ (x : ℕ). IsLeastBefore g x (get_or (trail g links at) j 0) (get_or (trail g links at) (j + 1) 0))
        level (t.steps j (omega (arith, low', t.count, root.0)))));
  }

  pub trail_justified : AreJustified g result
  trail_justified i low =
      let n : ℕ = level_of w start in
      let total : length all ≡ n = omega (arith, ap length pushed, length_push links (Root at), t.count, root.0) in
      let low' : i < n = omega (arith, low, ap length turned, length-reverse all, total) in
      let link : Link = get_or result i (Root 0) in
      let is : link ≡ get_or all (n - 1 - i) (Root 0) = ap (λ (l : List Link). get_or l i (Root 0)) turned
      ∙ get_or-reverse all i (Root 0) (omega (arith, low', total))
      ∙ ap (λ (m : ℕ). get_or all (m - 1 - i) (Root 0)) total in
      let Goal : Link → Type 0 = IsJustifiedBy g (places_of g (take i result)) in (
        link,
        slice_get_at result i (Root 0) low,
        subst Goal (sym is) (elim (cases_eq i 0) [
          | inl first ↦
              let m : n - 1 - i ≡ length links = omega (arith, first, t.count, root.0) in
              let e : get_or all (n - 1 - i) (Root 0) ≡ Root at =
              ap (λ (l : List Link). get_or l (n - 1 - i) (Root 0)) pushed
              ∙ get_or_push links (Root at) (Root 0) (n - 1 - i) (sym m) in
              subst Goal (sym e) root.1
          | inr later ↦
              let m : ℕ = n - 1 - i in
              let below : m < length links = omega (arith, later, low', t.count, root.0) in
              let e : get_or all m (Root 0) ≡ get_or links m (Root 0) =
              ap (λ (l : List Link). get_or l m (Root 0)) pushed
              ∙ get_or_append_left links (Root at ∷ []) (Root 0) m below in
              let j : ℕ = i - 1 in
              let prefix : places_of g (take i result) ≡ take i (places_of g result) =
              sym (take-map (placed_by g) i result) in
              let there : get_or (take i (places_of g result)) j 0 ≡ get_or (trail g links at) (m + 1) 0 =
              get_or-take i (places_of g result) j 0 (omega (arith, later)) ∙ item j (omega (arith, later, low'))
              ∙ ap (λ (x : ℕ). get_or (trail g links at) x 0) (omega (arith, later, low')) in
              let long : length (take i (places_of g result)) ≡ i =
              length-take-le i (places_of g result) (omega (arith, low', size)) in
              let inside : In (get_or (trail g links at) (m + 1) 0) (places_of g (take i result)) =
              subst (λ (l : List ℕ). In (get_or (trail g links at) (m + 1) 0) l) (sym prefix)
              (subst (λ (x : ℕ). In x (take i (places_of g result))) there
              (In-get_or (take i (places_of g result)) j 0 (omega (arith, later, long)))) in
              subst Goal (sym e) (justified_among g (get_or (trail g links at) (m + 1) 0) (places_of g (take i result))
              (get_or links m (Root 0)) inside (t.justified m below))
        ]),
      )
