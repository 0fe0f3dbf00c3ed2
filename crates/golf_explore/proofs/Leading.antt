-- What the turns of one visit add to the list.
-- For: `add_choices`, `add_places` and `expand`, src/successors.rt; `HasAddedTurns` and `HasExpanded`,
-- specs/VisitLists.antt
-- By: the facts of one more turn; no induction over the list
use Rattle.std.proofs.Common.{◌≡◌, ℕ, zero, suc, ◌+◌, ◌*◌, ◌<◌, true, false, List, [], ◌∷◌, ◌++◌, length, Some, None}
use Rattle.std.proofs.Common.{is_some, get_or, slice_get, ◌⊎◌, inl, inr, refl, sym, ap, ◌∙◌, subst, arith, append-nil}
use Rattle.std.proofs.Common.{append_assoc, length-append}
use Rattle.std.proofs.lemmas.Option.{slice_get-get_or}
use Rattle.golf_theory.specs.Membership.{In}
use Rattle.golf_theory.proofs.Lists.{In-right}
use Rattle.golf_data.specs.declared.code.Code.{Code}
use Rattle.golf_model.specs.State.{State, runnable, ending, start}
use Rattle.golf_explore_laws.specs.After.{silent, after, after_all}
use Rattle.golf_explore_laws.specs.Closed.{after_turn, turn_last_choice, IsTurn}
use Rattle.golf_explore.specs.declared.visits.Edge.{Edge}
use Rattle.golf_explore.specs.declared.visits.Visit.{Visit}
use Rattle.golf_explore.specs.Ranks.{SettlesBy}
use Rattle.golf_explore.specs.VisitLists.{states, AreVisits, IsPathTo, IsPathFor, VisitsGrow, HasAdded}
use Rattle.golf_explore.specs.VisitLists.{EdgesGrow, HasAddedTurns, HasExpanded, HasVisited, HasChoices, IsDone}
use Rattle.golf_explore.specs.VisitLists.{AreDone}
use Rattle.golf_explore.proofs.Growing.{grows-same, grows-trans, grown-by, grown-get, grown-back, get-states}
use Rattle.golf_explore.proofs.Growing.{get-within, get-pushed}

pub below-or-last : (k n : ℕ) → k < suc n → (k < n) ⊎ (k ≡ n)
below-or-last zero zero l = inr refl
below-or-last zero (suc n) l = inl (omega arith)
below-or-last (suc k) zero l = absurd (omega (arith, l))
below-or-last (suc k) (suc n) l = elim (below-or-last k n (omega (arith, l))) [
  | inl h ↦ inl (omega (arith, h))
  | inr e ↦
      inr (ap suc e)
]

pub path-grown : (code : Code) (old new : List Visit) (at : ℕ) (path : List ℕ) → VisitsGrow old new
    → IsPathFor code old at path → IsPathFor code new at path
path-grown code old new at path g p = record {
  goes = p.goes;
  stands = grown-get old new g at (after_all code (start code) path) p.stands;
  on = p.on;
}

pub edges-same : (es : List Edge) → EdgesGrow es es
edges-same es = ([], sym (append-nil es))

module _ (code : Code) (old : List Visit) (s : State) where
  -- ---- choices at a place

  pub turned-none : (es : List Edge) (place count : ℕ) → AreVisits code old
      → HasAddedTurns code old old es es s place count 0
  turned-none es place count are = record {
    grows = grows-same old;
    visits = are;
    edges = edges-same es;
    has = λ choice below. absurd (omega (arith, below));
  }

  module _ (mid new : List Visit) (before at now : List Edge) (place count choice number : ℕ)
      (t : HasAddedTurns code old mid before at s place count choice)
      (a : HasAdded code mid new at now (after code s number)) (is : number ≡ choice * count + place) where
    more-has : (k : ℕ) → (k < choice) ⊎ (k ≡ choice)
        → SettlesBy code (states new) now (after code s (k * count + place))
    more-has k (inl below) = grown-by mid new a.grows code at now (a.edge ∷ [], a.adds)
        (after code s (k * count + place)) (t.has k below)
    more-has k (inr last) =
        subst (λ n. SettlesBy code (states new) now (after code s n)) (is ∙ ap (λ c. c * count + place) (sym last))
        (a.edge, subst (In a.edge) (sym a.adds) (In-right a.edge at (a.edge ∷ []) (inl refl)), a.has)

    pub turned-more : HasAddedTurns code old new before now s place count (choice + 1)
    turned-more = record {
      grows = grows-trans old mid new t.grows a.grows;
      visits = a.visits;
      edges = (
        t.edges.0 ++ a.edge ∷ [],
        a.adds ∙ ap (λ (es : List Edge). es ++ a.edge ∷ []) t.edges.1 ∙ append_assoc before t.edges.0 (a.edge ∷ []),
      );
      has = λ k below. more-has k (below-or-last k choice (omega (arith, below)));
    }

  -- ---- places

  -- the states after the turns at the places below this one settle in the list
  abbrev pub HasPlaces : List Visit → List Edge → ℕ → Type 0
  HasPlaces new es count = (place choice : ℕ) → place < count → IsTurn code s place choice
      → SettlesBy code (states new) es (after_turn code s place choice)

  module _ (mid new : List Visit) (at now : List Edge) (place choices : ℕ) (were : HasPlaces mid at place)
      (last : turn_last_choice code s (slice_get (runnable s) place) < choices) where
    more-places : VisitsGrow mid new → EdgesGrow at now
        → ((choice : ℕ) → choice < choices
        → SettlesBy code (states new) now (after code s (choice * length (runnable s) + place)))
        → (k choice : ℕ) → (k < place) ⊎ (k ≡ place) → IsTurn code s k choice
        → SettlesBy code (states new) now (after_turn code s k choice)
    more-places g m has k choice (inl below) t =
        grown-by mid new g code at now m (after_turn code s k choice) (were k choice below t)
    more-places g m has k choice (inr is) t =
        let u = subst (λ p. IsTurn code s p choice) is t in
        let up = u.1 in
        subst (λ p. SettlesBy code (states new) now (after_turn code s p choice)) (sym is)
        (has choice (omega (arith, up, last)))

    pub places-more : (count : ℕ) → HasAddedTurns code mid new at now s place count choices
        → count ≡ length (runnable s)
        → HasPlaces new now (place + 1)
    places-more count t is k choice below =
        more-places t.grows t.edges
        (λ c b. subst (λ n. SettlesBy code (states new) now (after code s (c * n + place))) is (t.has c b)) k choice
        (below-or-last k place (omega (arith, below)))

  pub expanded : (new : List Visit) (es : List Edge) (count : ℕ) → VisitsGrow old new → AreVisits code new
      → HasPlaces new es count → count ≡ length (runnable s) → HasExpanded code old new es s
  expanded new es count g are has all = record {
    grows = g;
    visits = are;
    done = λ goes place choice t. let below = t.0 in has place choice (omega (arith, below, all)) t;
  }

-- ---- the visit whose turns they are

-- an index into a slice of the visits
pub indexed : (vs ws : List Visit) (at : ℕ) (d : Visit) → at < length vs → ws ≡ vs
    → slice_get vs at ≡ Some (get_or ws at d)
indexed vs ws at d l e = slice_get-get_or vs at d l ∙ ap (λ (xs : List Visit). Some (get_or xs at d)) (sym e)

module _ (code : Code) (old : List Visit) (at : ℕ) (v : Visit) (got : slice_get old at ≡ Some v) where
  stands : (s : State) → slice_get (states old) at ≡ Some s → silent v.state ≡ s
  stands s h = let e : Some (silent v.state) ≡ Some s = sym (get-states old at v got) ∙ h in cc

  pub visited-end : AreVisits code old → is_some (ending v.state) ≡ true → (before now : List (List Edge))
      → now ≡ before ++ [] ∷ [] → HasVisited code old old before now at
  visited-end are ends before now adds = record {
    grows = grows-same old;
    visits = are;
    ways = [];
    adds = adds;
    done = λ s h goes. let e : is_some (ending v.state) ≡ false = ap is_some (ap ending (stands s h) ∙ goes) in let f =
        sym ends ∙ e in cc;
  }

  pub path-leads : AreVisits code old → (path : List ℕ) → IsPathTo old at path
      → after_all code (start code) path ≡ silent v.state
  path-leads are path p = (p code are (silent v.state) (get-states old at v got)).0

  pub path-for : AreVisits code old → (path : List ℕ) → IsPathTo old at path → ending v.state ≡ None
      → IsPathFor code old at path
  path-for are path p goes =
      let l = p code are (silent v.state) (get-states old at v got) in
      record { goes = l.1; stands = get-states old at v got ∙ ap Some (sym l.0); on = ap ending l.0 ∙ goes }

  pub choices-for : AreVisits code old → (path : List ℕ) → IsPathTo old at path → (cs : List ℕ)
      → HasChoices code v.state cs → HasChoices code (after_all code (start code) path) cs
  choices-for are path p cs h = subst (λ (s : State). HasChoices code s cs) (sym (path-leads are path p))
      (record { count = h.count; each = h.each })

  pub visited-all : AreVisits code old → (path : List ℕ) → IsPathTo old at path → (new : List Visit)
      → (ways : List Edge) → HasExpanded code old new ways (after_all code (start code) path)
      → (before now : List (List Edge)) → now ≡ before ++ ways ∷ [] → HasVisited code old new before now at
  visited-all are path p new ways e before now adds = record {
    grows = e.grows;
    visits = e.visits;
    ways = ways;
    adds = adds;
    done = λ s h. subst (λ (t : State). IsDone code (states new) ways t) (path-leads are path p ∙ stands s h) e.done;
  }

-- ---- the visits that are done

module _ (code : Code) (mid new : List Visit) (before now : List (List Edge)) (at : ℕ) (within : at < length mid)
    (more : HasVisited code mid new before now at) (count : length before ≡ at)
    (were : AreDone code (states mid) before) where
  done-at : (k : ℕ) (s : State) (es : List Edge)
      → (slice_get before k ≡ Some es) ⊎ ((k ≡ length before) × (es ≡ more.ways)) → slice_get (states new) k ≡ Some s
      → IsDone code (states new) es s
  done-at k s es (inl got) h goes place choice t =
      let below = get-within before k es got in
      grown-by mid new more.grows code es es (edges-same es) (after_turn code s place choice)
      (were k s es got (grown-back mid new more.grows k s (omega (arith, below, count, within)) h) goes place choice t)
  done-at k s es (inr last) h goes place choice t =
      let here : slice_get (states new) at ≡ Some s = ap (slice_get (states new)) (sym (last.0 ∙ count)) ∙ h in
      subst (λ ws. IsDone code (states new) ws s) (sym last.1)
      (more.done s (grown-back mid new more.grows at s within here)) goes place choice t

  pub done-more : AreDone code (states new) now
  done-more k s es got h = done-at k s es
      (get-pushed before more.ways k es (sym (ap (λ (xs : List (List Edge)). slice_get xs k) more.adds) ∙ got)) h

  pub count-more : length now ≡ at + 1
  count-more =
      let a = ap length more.adds in
      let b = length-append before (more.ways ∷ []) in
      omega (arith, a, b, count)
