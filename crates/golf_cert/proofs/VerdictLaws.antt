-- What a certificate that is checked comes to.
-- For: `IsVerdictOn` (golf_cert/specs/Links.antt) and `verify`, `place_by` (src/verdicts.rt)
-- By: induction over the number of links that are checked; otherwise what one more link keeps
use Rattle.std.proofs.Common.{◌≡◌, ℕ, zero, suc, ◌+◌, ◌<◌, ◌≤◌, inl, inr, List, [], ◌∷◌, ◌++◌, length, get_or, set}
use Rattle.std.proofs.Common.{take, replicate, Option, Some, None, Bool, true, false, refl, sym, ap, ◌∙◌, subst, arith}
use Rattle.std.proofs.Common.{below_more}
use Rattle.std.specs.Prelude.{◌↔◌, slice_get, MatchOption}
use Rattle.std.proofs.lemmas.Bool.{cases_lt, cases_order}
use Rattle.std.proofs.lemmas.List.{map-append, length-map, length-set, length-replicate, take_all, take-map}
use Rattle.std.proofs.lemmas.List.{get_or-take, length-take-le}
use Rattle.std.proofs.lemmas.Option.{slice_get_within}
use Rattle.golf_theory.specs.Membership.{In}
use Rattle.golf_theory.proofs.Lists.{Every-at, In-left, In-right, In-cases}
use Rattle.golf_theory.proofs.Derivations.{Reached-root, Reached-step, Reached-least}
use Rattle.golf_model.specs.declared.graph.GraphParts.{GraphParts}
use Rattle.golf_model.specs.Graph.{Justifies, Least, sleeper_place, node_count, IsInRange}
use Rattle.golf_cert.specs.declared.links.Link.{Link}
use Rattle.golf_cert.specs.declared.links.Link.TheVariants.{Root, Child, Woken, Held}
use Rattle.golf_cert.specs.declared.links.Verdict.{Verdict}
use Rattle.golf_cert.specs.declared.links.Verdict.TheVariants.{Proved, Refused}
use Rattle.golf_marks.specs.Flags.{IsSet}
use Rattle.golf_cert.specs.Links.{placed_by, places_of, IsJustifiedAmong, IsJustifiedBy, AreJustifiedBelow}
use Rattle.golf_cert.specs.Links.{AreJustified, IsClosedSet, ContainsLeast, IsRefusedAt, IsVerdictOn}
use Rattle.golf_cert.specs.Steps.{place_count}
use Rattle.golf_cert.specs.Verification.{IsVerifying, TellsPlace}
use Rattle.golf_marks.proofs.Flags.{IsSet-set, set-IsSet}
use Rattle.golf_cert.proofs.FlagLaws.{unset, same_item}
use Rattle.golf_cert.proofs.Walks.{place_of}

-- a link stays justified if all places of one kind are of the other
pub justified_among : (g : GraphParts) (P Q : ℕ → Type 0) (link : Link) → ((p : ℕ) → P p → Q p)
    → IsJustifiedAmong g P link → IsJustifiedAmong g Q link
justified_among g P Q (Root node) f j = j
justified_among g P Q (Child from to) f j = (f from j.0, j.1)
justified_among g P Q (Woken node sleeper) f j = (f node j.0, j.1)
justified_among g P Q (Held sleeper node) f j = (f (sleeper_place g sleeper) j.0, j.1)

-- the prefix with one more item
take_push : {X : Type 0} (xs : List X) (i : ℕ) (x : X) → slice_get xs i ≡ Some x → take (suc i) xs ≡ take i xs ++ x ∷ []
take_push [] i x e = absurd (cc)
take_push (y ∷ xs) zero x e = let same : y ≡ x = cc in ap (λ (z : _). z ∷ []) same
take_push (y ∷ xs) (suc i) x e = ap (λ (l : List _). y ∷ l) (take_push xs i x e)

places_next : (g : GraphParts) (links : List Link) (i : ℕ) (link : Link) → slice_get links i ≡ Some link
    → places_of g (take (i + 1) links) ≡ places_of g (take i links) ++ placed_by g link ∷ []
places_next g links i link e =
    let one : i + 1 ≡ suc i = omega arith in
    let next : take (i + 1) links ≡ take (suc i) links = ap (λ (n : ℕ). take n links) one in
    ap (places_of g) (next ∙ take_push links i link e) ∙ map-append (placed_by g) (take i links) (link ∷ [])

pub verifying_none : (g : GraphParts) (links : List Link) (placed : List Bool)
    → placed ≡ replicate (place_count g) false → IsVerifying g links 0 placed
verifying_none g links placed is = record {
  size = ap length is ∙ length-replicate {A = Bool} (place_count g) false;
  justified = λ i low. absurd (omega (arith, low));
  placed_first = λ p. (
    λ h. absurd (unset (place_count g) p (subst (λ (l : List Bool). IsSet l p) is h)),
    λ h. absurd h,
  );
}

-- the next link is justified, and its place is placed
pub verifying_more : (g : GraphParts) (links : List Link) (i place : ℕ) (link : Link) (placed : List Bool)
    → IsVerifying g links i placed → slice_get links i ≡ Some link → place ≡ placed_by g link → place < place_count g
    → IsJustifiedAmong g (IsSet placed) link → IsVerifying g links (i + 1) (set placed place true)
verifying_more g links i place link placed v get is low j =
    let next = places_next g links i link get in
    let fits : place < length placed = omega (arith, low, v.size) in
    record {
      size = length-set placed place true ∙ v.size;
      justified = below_more _ _ v.justified (
        link,
        get,
        justified_among g (IsSet placed) (λ p. In p (places_of g (take i links))) link
            (λ p s. (v.placed_first p).0 s) j,
      );
      placed_first = λ p. (
        λ h. subst (λ (l : List ℕ). In p l) (sym next) (elim (IsSet-set placed place p fits h) [
          | inl e ↦ In-right p (places_of g (take i links)) (placed_by g link ∷ []) (inl (e ∙ is))
          | inr s ↦ In-left p (places_of g (take i links)) (placed_by g link ∷ []) ((v.placed_first p).0 s)
        ]),
        λ h. set-IsSet placed place p fits (elim
            (In-cases p (places_of g (take i links)) (placed_by g link ∷ []) (subst (λ (l : List ℕ). In p l) next h)) [
              | inl k ↦ inr ((v.placed_first p).1 k)
              | inr k ↦ elim k [ inl e ↦ inl (e ∙ sym is) | inr none ↦ absurd none ]
            ]),
      );
    }

-- the next link is not justified
pub verifying_fails : (g : GraphParts) (links : List Link) (i : ℕ) (link : Link) (placed : List Bool)
    → IsVerifying g links i placed → slice_get links i ≡ Some link → (IsJustifiedAmong g (IsSet placed) link → ⊥)
    → IsRefusedAt g links i
verifying_fails g links i link placed v get none = inl (
  slice_get_within links i link get,
  v.justified,
  λ (other, there, j).
      let it : other ≡ link = same_item links i other link there get in
      none (justified_among g (λ p. In p (places_of g (take i links))) (IsSet placed) link
      (λ p h. (v.placed_first p).1 h) (subst (IsJustifiedBy g (places_of g (take i links))) it j)),
)

-- all links are justified, and what is placed is what they place
pub verifying_ends : (g : GraphParts) (links : List Link) (i : ℕ) (placed : List Bool) → i ≡ length links
    → IsVerifying g links i placed → AreJustified g links × ((p : ℕ) → IsSet placed p ↔ In p (places_of g links))
verifying_ends g links i placed end v =
    let all : take i links ≡ links = take_all i links (omega (arith, end)) in (
      λ k low. v.justified k (omega (arith, low, end)),
      λ p. (
        λ h. subst (λ (l : List Link). In p (places_of g l)) all ((v.placed_first p).0 h),
        λ h. (v.placed_first p).1 (subst (λ (l : List Link). In p (places_of g l)) (sym all) h),
      ),
    )

pub closed_alike : (g : GraphParts) (P Q : ℕ → Type 0) → ((p : ℕ) → P p ↔ Q p) → IsClosedSet g P → IsClosedSet g Q
closed_alike g P Q same c = record {
  roots = λ p h. (same p).0 (c.roots p h);
  justified = λ p q h j. (same q).0 (c.justified p q ((same p).1 h) j);
}

-- what justified links place is in the least closed set
link_least : (g : GraphParts) (before : List ℕ) (link : Link) → ((q : ℕ) → In q before → Least g q)
    → IsJustifiedBy g before link → Least g (placed_by g link)
link_least g before (Root node) f j = Reached-root (λ p. In p g.roots) (Justifies g) node j
link_least g before (Child from to) f j =
    Reached-step (λ p. In p g.roots) (Justifies g) from to (f from j.0) (Justifies.child j.1)
link_least g before (Woken node sleeper) f j =
    Reached-step (λ p. In p g.roots) (Justifies g) node (sleeper_place g sleeper) (f node j.0)
    (Justifies.wakes sleeper refl j.1)
link_least g before (Held sleeper node) f j =
    Reached-step (λ p. In p g.roots) (Justifies g) (sleeper_place g sleeper) node (f (sleeper_place g sleeper) j.0)
    (Justifies.refers sleeper refl j.1)

get_or-map : (g : GraphParts) (links : List Link) (i : ℕ) (link : Link) → slice_get links i ≡ Some link
    → get_or (places_of g links) i 0 ≡ placed_by g link
get_or-map g [] i link e = absurd (cc)
get_or-map g (x ∷ xs) zero link e = let same : x ≡ link = cc in ap (placed_by g) same
get_or-map g (x ∷ xs) (suc i) link e = get_or-map g xs i link e

places_least : (g : GraphParts) (links : List Link) (n : ℕ) → AreJustifiedBelow g links n → (i : ℕ) → i < n
    → Least g (get_or (places_of g links) i 0)
places_least g links zero all i low = absurd (omega (arith, low))
places_least g links (suc n) all i low = elim (cases_lt i n) [
  | inl less ↦ places_least g links n (λ k h. all k (omega (arith, h))) i less
  | inr more ↦
      let r = all i low in
      let before : (q : ℕ) → In q (places_of g (take i links)) → Least g q = λ q h.
      let h' : In q (take i (places_of g links)) =
      subst (λ (l : List ℕ). In q l) (sym (take-map (placed_by g) i links)) h in
      let k = place_of (take i (places_of g links)) q h' in
      let within : i ≤ length (places_of g links) =
      omega (arith, slice_get_within links i r.0 r.1, length-map links (placed_by g)) in
      let first : k.0 < i = omega (arith, k.1, length-take-le i (places_of g links) within) in
      subst (Least g) (sym (get_or-take i (places_of g links) k.0 0 first) ∙ k.2)
      (places_least g links n (λ m h. all m (omega (arith, h))) k.0 (omega (arith, first, low))) in
      subst (Least g) (sym (get_or-map g links i r.0 r.1)) (link_least g (places_of g (take i links)) r.0 before r.2)
]

pub placed_least : (g : GraphParts) (links : List Link) → AreJustified g links → ContainsLeast g (places_of g links)
    → (p : ℕ) → In p (places_of g links) ↔ Least g p
placed_least g links all c p = (
  λ h. let k = place_of (places_of g links) p h in subst (Least g) k.2
      (places_least g links (length links) all k.0 (omega (arith, k.1, length-map links (placed_by g)))),
  λ d. Reached-least (λ q. In q g.roots) (Justifies g) (λ q. In q (places_of g links)) c.roots
      (λ q x h j. c.justified q x h j) p d,
)

-- a certificate is refused at one entry, or proved
refused_once : (g : GraphParts) (links : List Link) (i j : ℕ) → IsRefusedAt g links i → IsRefusedAt g links j → i ≡ j
refused_once g links i j (inl a) (inl b) = elim (cases_order i j) [
  | inl e ↦ e
  | inr o ↦ elim o [ inl less ↦ absurd (a.2 (b.1 i less)) | inr more ↦ absurd (b.2 (a.1 j more)) ]
]
refused_once g links i j (inl a) (inr b) = absurd (a.2 (b.1 i a.0))
refused_once g links i j (inr a) (inl b) = absurd (b.2 (a.1 j b.0))
refused_once g links i j (inr a) (inr b) = a.0 ∙ sym b.0

refused_proved : (g : GraphParts) (links : List Link) (i : ℕ) → IsRefusedAt g links i → AreJustified g links
    → ContainsLeast g (places_of g links) → ⊥
refused_proved g links i (inl a) all c = a.2 (all i a.0)
refused_proved g links i (inr a) all c = a.2 c

proved_refused : (i : ℕ) → Proved ≡ Refused i → ⊥
proved_refused i e = cc

refused_same : (i j : ℕ) → Refused i ≡ Refused j → i ≡ j
refused_same i j e = cc

pub told_proved : (g : GraphParts) (links : List Link) → AreJustified g links → ContainsLeast g (places_of g links)
    → IsVerdictOn g links Proved
told_proved g links all c = record {
  proved = (λ _. (all, c), λ _. refl);
  refused = λ i. (λ e. absurd (proved_refused i e), λ r. absurd (refused_proved g links i r all c));
  least = λ _. placed_least g links all c;
}

pub told_refused : (g : GraphParts) (links : List Link) (i : ℕ) → IsRefusedAt g links i
    → IsVerdictOn g links (Refused i)
told_refused g links i r = record {
  proved = (λ e. absurd (proved_refused i (sym e)), λ h. absurd (refused_proved g links i r h.0 h.1));
  refused = λ j. (
    λ e. subst (IsRefusedAt g links) (refused_same i j e) r,
    λ s. ap (λ (k : ℕ). let v : Verdict = Refused k in v) (refused_once g links i j r s),
  );
  least = λ e. absurd (proved_refused i (sym e));
}

-- a root is justified if it is one
pub root_tells : (g : GraphParts) (P : ℕ → Type 0) (roots : List Bool) (node : ℕ) (found : Option ℕ) → IsInRange g
    → ((p : ℕ) → IsSet roots p ↔ In p g.roots)
    → MatchOption found (IsSet roots node → ⊥) (λ place. (place ≡ node) × IsSet roots node)
    → TellsPlace g P (Root node) found
root_tells g P roots node None fit law h = λ j. h ((law node).1 j)
root_tells g P roots node (Some place) fit law h =
    let there : In node g.roots = (law node).0 h.1 in
    let low = Every-at (λ y. y < node_count g) g.roots node fit.roots there in
    (h.0, omega (arith, h.0, low), there)
