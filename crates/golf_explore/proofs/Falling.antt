-- Ranks that fall along the edges of all visits: each run ends.
-- For: `have_ranks`, src/visit_ranks.rt; `Exploration::step`, src/full_search.rt; `Fall`, specs/Ranks.antt
-- By: induction over the list of states and that of ranks; the law of ranked lists
use Rattle.std.proofs.Common.{◌≡◌, ℕ, zero, suc, ◌+◌, ◌<◌, List, [], ◌∷◌, length, Some, None, slice_get}
use Rattle.std.proofs.Common.{take, ◌⊎◌, inl, inr, refl, sym, ap, ◌∙◌, subst, arith}
use Rattle.golf_theory.specs.Membership.{In}
use Rattle.golf_theory.proofs.Lists.{In-cases, In-slice_get}
use Rattle.golf_data.specs.declared.code.Code.{Code}
use Rattle.golf_model.specs.State.{State, ending, start}
use Rattle.golf_explore_laws.specs.Closed.{after_turn, IsTurn, IsPlain}
use Rattle.golf_explore_laws.specs.Laws.{AlwaysEnds, IsLocalOrAlike}
use Rattle.golf_explore_laws.specs.StandIns.{last_from, ReachesBelow}
use Rattle.golf_explore_laws.proofs.MainLaws.{alike_ranked_lists_end}
use Rattle.golf_explore.specs.declared.visits.Edge.{Edge}
use Rattle.golf_explore.specs.declared.visits.Visit.{Visit}
use Rattle.golf_explore.specs.Ranks.{SettlesBy, LeadsLower, AreLower, Fall}
use Rattle.golf_explore.specs.VisitLists.{states, AreVisits, AreDone}
use Rattle.golf_explore.proofs.Growing.{states-length, get-within}
use Rattle.golf_explore.proofs.Leading.{below-or-last}
use Rattle.golf_explore.proofs.Parents.{some-same}
use Rattle.golf_explore.proofs.Standing.{reaches}
use Rattle.golf_explore.proofs.Seekings.{take-next}

-- ---- places

pub In-get : {X : Type 0} (xs : List X) (x : X) → In x xs → (i : ℕ) × (i < length xs) × (slice_get xs i ≡ Some x)
In-get [] x h = absurd h
In-get (y ∷ xs) x (inl e) = (0, omega arith, ap Some (sym e))
In-get (y ∷ xs) x (inr h) = let r = In-get xs x h in let l = r.1 in (suc r.0, omega (arith, l), r.2)

pub get-there : {X : Type 0} (xs : List X) (i : ℕ) → i < length xs → (x : X) × (slice_get xs i ≡ Some x)
get-there [] i l = absurd (omega (arith, l))
get-there (x ∷ xs) zero l = (x, refl)
get-there (x ∷ xs) (suc i) l = get-there xs i (omega (arith, l))

-- ---- edges one after another

pub lower-more : (ranks : List ℕ) (rank : ℕ) (es : List Edge) (i : ℕ) (e : Edge) → slice_get es i ≡ Some e
    → AreLower ranks rank (take i es) → LeadsLower ranks rank e → AreLower ranks rank (take (i + 1) es)
lower-more ranks rank es i e got were lower f h =
    elim (In-cases f (take i es) (e ∷ []) (subst (In f) (take-next es i e got) h)) [
      | inl j ↦ were f j
      | inr j ↦ elim j [ inl is ↦ subst (LeadsLower ranks rank) (sym is) lower | inr n ↦ absurd n ]
    ]

-- a visit more
module _ (edges : List (List Edge)) (ranks : List ℕ) (at : ℕ) (es : List Edge) (rank : ℕ)
    (got : slice_get edges at ≡ Some es) (ranked : slice_get ranks at ≡ Some rank)
    (lower : AreLower ranks rank es) where
  falls-at : (k : ℕ) (fs : List Edge) → (k < at) ⊎ (k ≡ at)
      → ((k : ℕ) (fs : List Edge) → k < at → slice_get edges k ≡ Some fs
      → (r : ℕ) × (slice_get ranks k ≡ Some r) × AreLower ranks r fs)
      → slice_get edges k ≡ Some fs → (r : ℕ) × (slice_get ranks k ≡ Some r) × AreLower ranks r fs
  falls-at k fs (inl below) were h = were k fs below h
  falls-at k fs (inr is) were h =
      let same = some-same (slice_get edges at) es fs got (ap (slice_get edges) (sym is) ∙ h) in
      (rank, ap (slice_get ranks) is ∙ ranked, subst (AreLower ranks rank) same lower)

  pub falls-more : ((k : ℕ) (fs : List Edge) → k < at → slice_get edges k ≡ Some fs
      → (r : ℕ) × (slice_get ranks k ≡ Some r) × AreLower ranks r fs)
      → (k : ℕ) (fs : List Edge) → k < at + 1 → slice_get edges k ≡ Some fs
      → (r : ℕ) × (slice_get ranks k ≡ Some r) × AreLower ranks r fs
  falls-more were k fs below h = falls-at k fs (below-or-last k at (omega (arith, below))) were h

-- ---- states with their ranks

abbrev pairs : List State → List ℕ → List (State × ℕ)
pairs [] rs = []
pairs (s ∷ ss) [] = []
pairs (s ∷ ss) (r ∷ rs) = (s, r) ∷ pairs ss rs

same-pair : (s t : State) (q r : ℕ) → t ≡ s → q ≡ r → ◌≡◌ {A = State × ℕ} (s, r) (t, q)
same-pair s t q r e f =
    subst (λ (u : State). ◌≡◌ {A = State × ℕ} (u, r) (t, q)) e (ap (λ (n : ℕ). (t, n)) (sym f))

pairs-put : (ss : List State) (rs : List ℕ) (i : ℕ) (s : State) (r : ℕ) → slice_get ss i ≡ Some s
    → slice_get rs i ≡ Some r → In (s, r) (pairs ss rs)
pairs-put [] rs i s r h k = cc
pairs-put (t ∷ ss) [] i s r h k = cc
pairs-put (t ∷ ss) (q ∷ rs) zero s r h k =
    let e : t ≡ s = cc in
    let f : q ≡ r = cc in
    inl (same-pair s t q r e f)
pairs-put (t ∷ ss) (q ∷ rs) (suc i) s r h k = inr (pairs-put ss rs i s r h k)

pairs-get : (ss : List State) (rs : List ℕ) (s : State) (r : ℕ) → In (s, r) (pairs ss rs)
    → (i : ℕ) × (slice_get ss i ≡ Some s) × (slice_get rs i ≡ Some r)
pairs-get [] rs s r h = absurd h
pairs-get (t ∷ ss) [] s r h = absurd h
pairs-get (t ∷ ss) (q ∷ rs) s r (inl e) =
    (0, ap (λ (p : State × ℕ). Some p.0) (sym e), ap (λ (p : State × ℕ). Some p.1) (sym e))
pairs-get (t ∷ ss) (q ∷ rs) s r (inr h) = let p = pairs-get ss rs s r h in (suc p.0, p.1, p.2)

-- ---- all visits

module _ (code : Code) (vs : List Visit) (edges : List (List Edge)) (are : AreVisits code vs)
    (done : AreDone code (states vs) edges) (all : length edges ≡ length vs) (ranks : List ℕ)
    (falls : Fall edges ranks) where
  abbrev ranked : List (State × ℕ)
  ranked = pairs (states vs) ranks

  edges-at : (i : ℕ) (s : State) → slice_get (states vs) i ≡ Some s → (es : List Edge) × (slice_get edges i ≡ Some es)
  edges-at i s h =
      let below = get-within (states vs) i s h in
      let e = states-length vs in
      get-there edges i (omega (arith, below, e, all))

  -- by an edge that falls
  settles-below : (s : State) (rank : ℕ) (es : List Edge) → AreLower ranks rank es → SettlesBy code (states vs) es s
      → (lower : ℕ) × (lower < rank) × ReachesBelow (IsLocalOrAlike code) ranked s lower
  settles-below s rank es lower by =
      let e = by.0 in
      let at = reaches code (states vs) e s by.2 in
      let low = lower e by.1 in
      let few = at.few in
      let sum = low.2 in (
        length at.ts + low.0,
        omega (arith, few, sum),
        (
          at.ts,
          low.0,
          omega arith,
          at.are,
          pairs-put (states vs) ranks e.to (last_from s at.ts) low.0 at.stands low.1,
        ),
      )

  turn-falls : (s : State) (rank : ℕ) → In (s, rank) ranked → ending s ≡ None → (place choice : ℕ)
      → IsTurn code s place choice
      → (lower : ℕ) × (lower < rank)
      × ReachesBelow (IsLocalOrAlike code) ranked (after_turn code s place choice) lower
  turn-falls s rank i goes place choice t =
      let p = pairs-get (states vs) ranks s rank i in
      let es = edges-at p.0 s p.1 in
      let f = falls p.0 es.0 es.1 in
      let same : f.0 ≡ rank = some-same (slice_get ranks p.0) f.0 rank f.1 p.2 in
      settles-below (after_turn code s place choice) rank es.0 (subst (λ r. AreLower ranks r es.0) same f.2)
      (done p.0 s es.0 es.1 p.1 goes place choice t)

  plain : (s : State) (rank : ℕ) → In (s, rank) ranked → IsPlain s
  plain s rank i goes =
      let p = pairs-get (states vs) ranks s rank i in
      (are.well s (In-slice_get (states vs) p.0 s p.1) goes).0

  pub always-ends : AlwaysEnds code
  always-ends =
      let o = In-get (states vs) (start code) are.opening in
      let es = edges-at o.0 (start code) o.2 in
      let f = falls o.0 es.0 es.1 in (
        f.0,
        alike_ranked_lists_end code ranked f.0 (record {
          opening = ([], f.0, omega arith, tt, pairs-put (states vs) ranks o.0 (start code) f.0 o.2 f.1);
          plain = plain;
          falls = turn-falls;
        }),
      )
