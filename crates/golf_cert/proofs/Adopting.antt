-- Parents, found one after the other.
-- For: `HasParentsBelow` (golf_cert/specs/Parents.antt) and `adopt_all`, `parents_of` (src/parents.rt)
-- By: induction over the list of places that a parent justifies
use Rattle.std.proofs.Common.{◌≡◌, ℕ, ◌+◌, ◌<◌, ◌≤◌, ◌⊎◌, inl, inr, List, [], ◌∷◌, length, get_or, set, replicate, Bool}
use Rattle.std.proofs.Common.{true, eqb, Option, Some, None, refl, sym, ap, ◌∙◌, subst, arith}
use Rattle.std.specs.Prelude.{◌&&◌, is_none}
use Rattle.std.proofs.lemmas.Bool.{cases_eq, cases_lt, cases_Bool, eq-eqb, eqb-true, cond-true, cond-false, and_parts}
use Rattle.std.proofs.lemmas.Bool.{and_from, both_ways}
use Rattle.std.proofs.lemmas.List.{length-set, get_or-set_same, get_or-set_other, get_or_past, get_or-replicate}
use Rattle.std.proofs.lemmas.List.{length-replicate}
use Rattle.golf_theory.specs.Membership.{In, Every}
use Rattle.golf_theory.proofs.Lists.{Every-from}
use Rattle.golf_mark.proofs.Ranges.{Justifies-below}
use Rattle.golf_cert.proofs.StepLaws.{referred-justifies, woken-justifies, justified-in}
use Rattle.golf_model.specs.declared.graph.GraphParts.{GraphParts}
use Rattle.golf_model.specs.Graph.{Justifies, IsInRange, sleeper_count}
use Rattle.golf_rows.specs.Rows.{row_of}
use Rattle.golf_cert.specs.declared.walk.Walk.{Walk}
use Rattle.golf_cert.specs.Steps.{place_count, referred_by, HasSleeperRows}
use Rattle.golf_cert.specs.LevelWalk.{HasLevels}
use Rattle.golf_cert.specs.Parents.{parent_in, IsNextLevel, IsParent, HasParentsBelow, HasParents, adopted, adopted_all}

is_none-none : (o : Option ℕ) → is_none o ≡ true → o ≡ None
is_none-none None e = refl
is_none-none (Some x) e = absurd (cc)

none-is_none : (o : Option ℕ) → o ≡ None → is_none o ≡ true
none-is_none None e = refl
none-is_none (Some x) e = absurd (cc)

some_none : (o : Option ℕ) (x : ℕ) → o ≡ Some x → o ≡ None → ⊥
some_none o x e f = cc

same_some : (x y : ℕ) → Some x ≡ Some y → x ≡ y
same_some x y e = cc

-- the test of an adoption
abbrev adopts : List ℕ → ℕ → ℕ → List (Option ℕ) → Bool
adopts levels parent p parents = eqb (get_or levels p 0) (get_or levels parent 0 + 1) && is_none (parent_in parents p)

pub size-adopted : (levels : List ℕ) (parent p : ℕ) (parents : List (Option ℕ))
    → length (adopted levels parent p parents) ≡ length parents
size-adopted levels parent p parents =
    let Done : List (Option ℕ) → Type 0 = λ l. length l ≡ length parents in
    elim (cases_Bool (adopts levels parent p parents)) [
      | inl fits ↦ subst Done (sym (cond-true (adopts levels parent p parents)
          (set parents p (Some parent)) parents fits)) (length-set parents p (Some parent))
      | inr fails ↦ subst Done (sym (cond-false (adopts levels parent p parents)
          (set parents p (Some parent)) parents fails)) refl
    ]

pub size-adopted_all : (levels : List ℕ) (parent : ℕ) (ps : List ℕ) (parents : List (Option ℕ))
    → length (adopted_all levels parent ps parents) ≡ length parents
size-adopted_all levels parent [] parents = refl
size-adopted_all levels parent (p ∷ ps) parents = size-adopted_all levels parent ps (adopted levels parent p parents)
    ∙ size-adopted levels parent p parents

-- fewer are done
pub HasParentsBelow-fewer : (g : GraphParts) (levels : List ℕ) (bound : ℕ) (Done Fewer : ℕ → Type 0)
    (parents : List (Option ℕ)) → ((p : ℕ) → Fewer p → Done p) → HasParentsBelow g levels bound Done parents
    → HasParentsBelow g levels bound Fewer parents
HasParentsBelow-fewer g levels bound Done Fewer parents f h = record {
  size = h.size;
  none = λ p e from seen l. h.none p e from (elim seen [ inl low ↦ inl low | inr s ↦ inr (s.0, f p s.1) ]) l;
  some = h.some;
}

module _ (g : GraphParts) (levels : List ℕ) (parent : ℕ) (levelled : 0 < get_or levels parent 0) where
  adopt-found : (p : ℕ) (Done : ℕ → Type 0) (parents : List (Option ℕ)) → p < place_count g → Justifies g parent p
      → HasParentsBelow g levels parent Done parents
      → HasParentsBelow g levels parent (λ q. Done q ⊎ (q ≡ p)) (adopted levels parent p parents)
  adopt-found p Done parents low j h =
      let Goal : List (Option ℕ) → Type 0 = HasParentsBelow g levels parent (λ q. Done q ⊎ (q ≡ p)) in
      elim (cases_Bool (adopts levels parent p parents)) [
        | inl fits ↦
            let parts = and_parts (eqb (get_or levels p 0) (get_or levels parent 0 + 1))
            (is_none (parent_in parents p)) fits in
            let next : get_or levels p 0 ≡ get_or levels parent 0 + 1 =
            eqb-true (get_or levels p 0) (get_or levels parent 0 + 1) parts.0 in
            let free : parent_in parents p ≡ None = is_none-none (parent_in parents p) parts.1 in
            let here : get_or (set parents p (Some parent)) p None ≡ Some parent =
            get_or-set_same parents p (Some parent) None (omega (arith, low, h.size)) in
            let mine : IsParent g levels parent p = record {
              leads = record { is_levelled = levelled; is_next = next; justifies = j };
              least = λ other l. elim (cases_lt other parent) [
                | inl less ↦ absurd (h.none p free other (inl less) l)
                | inr more ↦ more
              ];
            } in
            subst Goal (sym (cond-true (adopts levels parent p parents) (set parents p (Some parent)) parents fits))
            record {
              size = length-set parents p (Some parent) ∙ h.size;
              none = λ q e from seen l. elim (cases_eq q p) [
                | inl same ↦ absurd (some_none (get_or (set parents p (Some parent)) p None) parent here
                    (subst (λ (x : ℕ). get_or (set parents p (Some parent)) x None ≡ None) same e))
                | inr apart ↦ h.none q (sym (get_or-set_other parents p q (Some parent) None apart) ∙ e) from
                    (elim seen [
                      | inl less ↦ inl less
                      | inr s ↦ elim s.1 [ inl d ↦ inr (s.0, d) | inr same ↦ absurd (apart same) ]
                    ]) l
              ];
              some = λ q x e. elim (cases_eq q p) [
                | inl same ↦
                    let e' : get_or (set parents p (Some parent)) p None ≡ Some x =
                    subst (λ (y : ℕ). get_or (set parents p (Some parent)) y None ≡ Some x) same e in
                    let is : x ≡ parent = same_some x parent (sym e' ∙ here) in
                    subst (λ (y : ℕ). IsParent g levels x y) (sym same)
                    (subst (λ (y : ℕ). IsParent g levels y p) (sym is) mine)
                | inr apart ↦ h.some q x (sym (get_or-set_other parents p q (Some parent) None apart) ∙ e)
              ];
            }
        | inr fails ↦ subst Goal (sym (cond-false (adopts levels parent p parents)
            (set parents p (Some parent)) parents fails)) record {
              size = h.size;
              none = λ q e from seen l. elim seen [
                | inl less ↦ h.none q e from (inl less) l
                | inr s ↦ elim s.1 [
                  | inl d ↦ h.none q e from (inr (s.0, d)) l
                  | inr same ↦ absurd (both_ways (adopts levels parent p parents) fails
                      (and_from (eqb (get_or levels p 0) (get_or levels parent 0 + 1)) (is_none (parent_in parents p))
                      (eq-eqb (get_or levels p 0) (get_or levels parent 0 + 1)
                      (ap (λ (x : ℕ). get_or levels x 0) (sym same) ∙ l.is_next
                      ∙ ap (λ (x : ℕ). get_or levels x 0 + 1) s.0))
                      (none-is_none (parent_in parents p) (subst (λ (x : ℕ). parent_in parents x ≡ None) same e))))
                ]
              ];
              some = h.some;
            }
      ]

  pub adopt_all-found : (ps : List ℕ) (Done : ℕ → Type 0) (parents : List (Option ℕ))
      → Every (λ p. (p < place_count g) × Justifies g parent p) ps → HasParentsBelow g levels parent Done parents
      → HasParentsBelow g levels parent (λ q. Done q ⊎ In q ps) (adopted_all levels parent ps parents)
  adopt_all-found [] Done parents a h = HasParentsBelow-fewer g levels parent Done (λ q. Done q ⊎ ⊥) parents
      (λ q d. elim d [ inl x ↦ x | inr none ↦ absurd none ]) h
  adopt_all-found (p ∷ ps) Done parents a h =
      let one = adopt-found p Done parents a.0.0 a.0.1 h in
      let rest = adopt_all-found ps (λ q. Done q ⊎ (q ≡ p)) (adopted levels parent p parents) a.1 one in
      HasParentsBelow-fewer g levels parent (λ q. (Done q ⊎ (q ≡ p)) ⊎ In q ps) (λ q. Done q ⊎ (q ≡ p ⊎ In q ps))
      (adopted_all levels parent ps (adopted levels parent p parents))
      (λ q d. elim d [ inl x ↦ inl (inl x) | inr i ↦ elim i [ inl e ↦ inl (inr e) | inr k ↦ inr k ] ]) rest

-- all that the place leads to is done
pub next_found : (g : GraphParts) (levels : List ℕ) (parent : ℕ) (Done : ℕ → Type 0) (parents : List (Option ℕ))
    → ((q : ℕ) → IsNextLevel g levels parent q → Done q) → HasParentsBelow g levels parent Done parents
    → HasParentsBelow g levels (parent + 1) (λ _. ⊥) parents
next_found g levels parent Done parents all h = record {
  size = h.size;
  none = λ q e from seen l. elim seen [
    | inl low ↦ elim (cases_lt from parent) [
      | inl less ↦ h.none q e from (inl less) l
      | inr more ↦
          let same : from ≡ parent = omega (arith, low, more) in
          h.none q e from (inr (same, all q (subst (λ (x : ℕ). IsNextLevel g levels x q) same l))) l
    ]
    | inr s ↦ absurd s.1
  ];
  some = h.some;
}

-- a place is made the parent of all that it leads to, in two parts
pub record Adopts (g : GraphParts) (w : Walk) (rows : List (List ℕ)) (parent : ℕ)
    (old new : List (Option ℕ)) : Type 0 where
  pub levels : List ℕ
  pub first : List ℕ
  pub second : List ℕ
  pub middle : List (Option ℕ)
  pub levels_are : levels ≡ w.levels
  pub first_is : first ≡ referred_by g parent
  pub second_is : second ≡ row_of rows parent
  pub is_levelled : 0 < get_or levels parent 0
  pub first_done : middle ≡ adopted_all levels parent first old
  pub second_done : new ≡ adopted_all levels parent second middle

-- the place was made the parent of all that it leads to
pub adopted_found : {g : GraphParts} {w : Walk} {rows : List (List ℕ)} {parent : ℕ} {a b : List (Option ℕ)}
    → IsInRange g → HasSleeperRows g (sleeper_count g) rows → Adopts g w rows parent a b
    → HasParentsBelow g w.levels parent (λ _. ⊥) a → HasParentsBelow g w.levels (parent + 1) (λ _. ⊥) b
adopted_found {g} {w} {rows} {parent} {a} {b} fit woken adopts h =
    let L : List ℕ = w.levels in
    let R : List ℕ = referred_by g parent in
    let S : List ℕ = row_of rows parent in
    let F : List ℕ → List ℕ → List (Option ℕ) → List (Option ℕ) = λ l xs ps. adopted_all l parent xs ps in
    let one_done : adopts.middle ≡ F L R a = adopts.first_done
    ∙ ap (λ (l : List ℕ). F l adopts.first a) adopts.levels_are ∙ ap (λ (xs : List ℕ). F L xs a) adopts.first_is in
    let two_done : b ≡ F L S (F L R a) = adopts.second_done
    ∙ ap (λ (l : List ℕ). F l adopts.second adopts.middle) adopts.levels_are
    ∙ ap (λ (xs : List ℕ). F L xs adopts.middle) adopts.second_is ∙ ap (F L S) one_done in
    let has : 0 < get_or L parent 0 = subst
    (λ (l : List ℕ). 0 < get_or l parent 0) adopts.levels_are adopts.is_levelled in
    let Kind : ℕ → Type 0 = λ p. (p < place_count g) × Justifies g parent p in
    let one = adopt_all-found g L parent has R (λ _. ⊥) a
    (Every-from Kind R (λ p i. let j = referred-justifies g rows fit woken parent p
    i in (Justifies-below g fit parent p j, j))) h in
    let two = adopt_all-found g L parent has S (λ q. ⊥ ⊎ In q R) (F L R a)
    (Every-from Kind S (λ p i. let j = woken-justifies g rows fit woken parent p
    i in (Justifies-below g fit parent p j, j))) one in
    subst (HasParentsBelow g L (parent + 1) (λ _. ⊥)) (sym two_done)
    (next_found g L parent (λ q. (⊥ ⊎ In q R) ⊎ In q S) (F L S (F L R a))
    (λ q l. elim (justified-in g rows fit woken parent q l.justifies) [ inl i ↦ inl (inr i) | inr i ↦ inr i ]) two)

-- nobody has a parent yet
pub no_parents : (g : GraphParts) (levels : List ℕ) (parents : List (Option ℕ))
    → parents ≡ replicate (place_count g) None → HasParentsBelow g levels 0 (λ _. ⊥) parents
no_parents g levels parents is =
    let none : (p : ℕ) → parent_in parents p ≡ None = λ p. ap (λ (l : List (Option ℕ)). get_or l p None) is
    ∙ elim (cases_lt p (place_count g)) [
      | inl low ↦ get_or-replicate (place_count g) p None None low
      | inr past ↦ get_or_past (replicate (place_count g) None) p None
          (omega (arith, length-replicate {A = Option ℕ} (place_count g) None))
    ] in
    record {
      size = ap length is ∙ length-replicate {A = Option ℕ} (place_count g) None;
      none = λ p e from seen l. elim seen [ inl low ↦ absurd (omega (arith, low)) | inr s ↦ absurd s.1 ];
      some = λ p x e. absurd (some_none (parent_in parents p) x e (none p));
    }

-- all places were gone through
pub all_found : (g : GraphParts) (w : Walk) (bound : ℕ) (parents : List (Option ℕ)) → HasLevels g w
    → place_count g ≤ bound → HasParentsBelow g w.levels bound (λ _. ⊥) parents → HasParents g w.levels parents
all_found g w bound parents h all b = record {
  size = b.size;
  none = λ p e from l. b.none p e from (inl (elim (cases_lt from (length w.levels)) [
    | inl low ↦ omega (arith, low, h.size, all)
    | inr past ↦ absurd (omega (arith, l.is_levelled, get_or_past w.levels from 0 past))
  ])) l;
  some = b.some;
}
