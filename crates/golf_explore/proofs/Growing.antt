-- Lists of visits that grow at the end.
-- For: `add`, `add_choices`, `add_places`, `expand`, src/successors.rt; `AreVisits`, specs/VisitLists.antt
-- By: induction over the list of visits
use Rattle.std.proofs.Common.{◌≡◌, ℕ, zero, suc, ◌<◌, ◌≤◌, List, [], ◌∷◌, ◌++◌, length, Option, Some, None, slice_get}
use Rattle.std.proofs.Common.{◌⊎◌, inl, inr, refl, sym, ap, ◌∙◌, subst, arith, append-nil, append_assoc}
use Rattle.golf_theory.specs.Membership.{In}
use Rattle.golf_theory.proofs.Lists.{In-left, In-cases, In-slice_get}
use Rattle.golf_data.specs.declared.code.Code.{Code}
use Rattle.golf_model.specs.State.{State, start}
use Rattle.golf_explore_laws.specs.After.{silent, after, after_all}
use Rattle.golf_explore_laws.specs.Closed.{IsPlain}
use Rattle.golf_explore_laws.proofs.Visiting.{silent-dead}
use Rattle.golf_explore.specs.declared.visits.Came.{Came}
use Rattle.golf_explore.specs.declared.visits.Edge.{Edge}
use Rattle.golf_explore.specs.declared.visits.Visit.{Visit}
use Rattle.golf_explore.specs.AlikeStates.{SameOrAlike}
use Rattle.golf_explore.specs.Ranks.{SettlesAt, SettlesBy}
use Rattle.golf_explore.specs.VisitLists.{states, LeadsTo, IsNext, IsFrom, IsWell, AreVisits, VisitsGrow, HasPushed}
use Rattle.golf_explore.specs.VisitLists.{EdgesGrow}
use Rattle.golf_explore.specs.VisitLists.{HasAdded}
use Rattle.golf_explore.specs.FrameLocalTurns.{HasTakenAndSettled}
use Rattle.golf_explore.proofs.Settled.{silent-all}

-- ---- places

states-append : (xs ys : List Visit) → states (xs ++ ys) ≡ states xs ++ states ys
states-append [] ys = refl
states-append (x ∷ xs) ys = ap (λ (zs : List State). silent x.state ∷ zs) (states-append xs ys)

pub states-length : (xs : List Visit) → length (states xs) ≡ length xs
states-length [] = refl
states-length (x ∷ xs) = ap suc (states-length xs)

get-left : (xs ys : List State) (i : ℕ) (s : State) → slice_get xs i ≡ Some s → slice_get (xs ++ ys) i ≡ Some s
get-left [] ys i s h = cc
get-left (x ∷ xs) ys zero s h = h
get-left (x ∷ xs) ys (suc i) s h = get-left xs ys i s h

pub get-within : {X : Type 0} (xs : List X) (i : ℕ) (s : X) → slice_get xs i ≡ Some s → i < length xs
get-within [] i s h = cc
get-within (x ∷ xs) zero s h = omega arith
get-within (x ∷ xs) (suc i) s h = let l = get-within xs i s h in omega (arith, l)

get-back : (xs ys : List State) (i : ℕ) (s : State) → i < length xs → slice_get (xs ++ ys) i ≡ Some s
    → slice_get xs i ≡ Some s
get-back [] ys i s l h = absurd (omega (arith, l))
get-back (x ∷ xs) ys zero s l h = h
get-back (x ∷ xs) ys (suc i) s l h = get-back xs ys i s (omega (arith, l)) h

pub get-states : (xs : List Visit) (i : ℕ) (v : Visit) → slice_get xs i ≡ Some v
    → slice_get (states xs) i ≡ Some (silent v.state)
get-states [] i v h = cc
get-states (x ∷ xs) zero v h = ap (λ (o : Option Visit).
    elim o as (λ _. Option State) [ None ↦ None | Some w ↦ Some (silent w.state) ]) h
get-states (x ∷ xs) (suc i) v h = get-states xs i v h

pub get-pushed : {X : Type 0} (xs : List X) (x : X) (i : ℕ) (v : X) → slice_get (xs ++ x ∷ []) i ≡ Some v
    → (slice_get xs i ≡ Some v) ⊎ ((i ≡ length xs) × (v ≡ x))
get-pushed [] x zero v h = let e : x ≡ v = cc in inr (refl, sym e)
get-pushed [] x (suc i) v h = cc
get-pushed (y ∷ xs) x zero v h = inl h
get-pushed (y ∷ xs) x (suc i) v h = elim (get-pushed xs x i v h) [ inl g ↦ inl g | inr g ↦ inr (ap suc g.0, g.1) ]

get-last : (xs : List State) (x : State) → slice_get (xs ++ x ∷ []) (length xs) ≡ Some x
get-last [] x = refl
get-last (y ∷ xs) x = get-last xs x

length-more : (xs ys : List Visit) → length xs ≤ length (xs ++ ys)
length-more [] ys = omega arith
length-more (x ∷ xs) ys = let l = length-more xs ys in omega (arith, l)

-- ---- growing

pub grows-same : (vs : List Visit) → VisitsGrow vs vs
grows-same vs = ([], sym (append-nil vs))

pub grows-trans : (a b c : List Visit) → VisitsGrow a b → VisitsGrow b c → VisitsGrow a c
grows-trans a b c g h = (g.0 ++ h.0, h.1 ∙ ap (λ (xs : List Visit). xs ++ h.0) g.1 ∙ append_assoc a g.0 h.0)

module _ (old new : List Visit) (g : VisitsGrow old new) where
  grown : states new ≡ states old ++ states g.0
  grown = ap states g.1 ∙ states-append old g.0

  pub grown-in : (s : State) → In s (states old) → In s (states new)
  grown-in s h = subst (In s) (sym grown) (In-left s (states old) (states g.0) h)

  pub grown-get : (i : ℕ) (s : State) → slice_get (states old) i ≡ Some s → slice_get (states new) i ≡ Some s
  grown-get i s h = ap (λ (xs : List State). slice_get xs i) grown ∙ get-left (states old) (states g.0) i s h

  grown-at : (code : Code) (e : Edge) (s : State) → SettlesAt code (states old) e s → SettlesAt code (states new) e s
  grown-at code e s h = (h.0, h.1, h.2, h.3, grown-get e.to h.1 h.4, h.5)

  -- so do the edges
  pub grown-by : (code : Code) (before now : List Edge) → EdgesGrow before now → (s : State)
      → SettlesBy code (states old) before s → SettlesBy code (states new) now s
  grown-by code before now m s h =
      (h.0, subst (In h.0) (sym m.1) (In-left h.0 before m.0 h.1), grown-at code h.0 s h.2)

  -- the first places are as they were
  pub grown-back : (i : ℕ) (s : State) → i < length old → slice_get (states new) i ≡ Some s
      → slice_get (states old) i ≡ Some s
  grown-back i s l h = let e = states-length old in get-back (states old) (states g.0) i s (omega (arith, l, e))
      (ap (λ (xs : List State). slice_get xs i) (sym grown) ∙ h)

  pub grown-length : length old ≤ length new
  grown-length = subst (λ (vs : List Visit). length old ≤ length vs) (sym g.1) (length-more old g.0)

  grown-from : (code : Code) (at : ℕ) (s : State) (came : Option Came) → IsFrom code old at s came
      → IsFrom code new at s came
  grown-from code at s None h = h
  grown-from code at s (Some came) h = record {
    earlier = h.earlier;
    parent = h.parent;
    stands = grown-get came.parent h.parent h.stands;
    leads = h.leads;
  }

-- ---- one more visit

pub pushed-grows : (old new : List Visit) (s : State) (came : Option Came) → HasPushed old new s came
    → VisitsGrow old new
pushed-grows old new s came p = (p.0 ∷ [], p.1)

module _ (code : Code) (old new : List Visit) (s : State) (came : Option Came) (p : HasPushed old new s came) where
  pub pushed-at : slice_get (states new) (length old) ≡ Some (silent s)
  pushed-at =
      ap (λ (vs : List Visit). slice_get (states vs) (length old)) p.1
      ∙ ap (λ (xs : List State). slice_get xs (length old)) (states-append old (p.0 ∷ []))
      ∙ ap (slice_get (states old ++ silent p.0.state ∷ [])) (sym (states-length old))
      ∙ get-last (states old) (silent p.0.state)
      ∙ ap (λ (v : State). Some (silent v)) p.2

  -- a new visit of a state to which turns lead from an earlier one, or of the opening state
  module _ (from : IsFrom code old (length old) (silent s) came) (well : IsWell (silent s)) where
    from-new : (at : ℕ) (v : Visit) → (slice_get old at ≡ Some v) ⊎ ((at ≡ length old) × (v ≡ p.0))
        → ((v : Visit) → slice_get old at ≡ Some v → IsFrom code old at (silent v.state) v.came)
        → IsFrom code old at (silent v.state) v.came
    from-new at v (inl h) were = were v h
    from-new at v (inr h) were =
        subst (λ k. IsFrom code old k (silent v.state) v.came) (sym h.0)
        (subst (λ (w : Visit). IsFrom code old (length old) (silent w.state) w.came) (sym h.1)
        (subst (λ (t : State). IsFrom code old (length old) (silent t) p.0.came) (sym p.2)
        (subst (IsFrom code old (length old) (silent s)) (sym p.3) from)))

    from-pushed : ((at : ℕ) (v : Visit) → slice_get old at ≡ Some v → IsFrom code old at (silent v.state) v.came)
        → (at : ℕ) (v : Visit) → slice_get new at ≡ Some v → IsFrom code new at (silent v.state) v.came
    from-pushed were at v h =
        grown-from old new (pushed-grows old new s came p) code at (silent v.state) v.came
        (from-new at v (get-pushed old p.0 at v (sym (ap (λ (vs : List Visit). slice_get vs at) p.1) ∙ h)) (were at))

    well-pushed : ((t : State) → In t (states old) → IsWell t) → (t : State) → In t (states new) → IsWell t
    well-pushed were t i = elim (In-cases t (states old) (states (p.0 ∷ []))
        (subst (In t) (ap states p.1 ∙ states-append old (p.0 ∷ [])) i)) [
          | inl h ↦ were t h
          | inr h ↦ elim h [ inl e ↦ subst IsWell (sym (e ∙ ap silent p.2)) well | inr n ↦ absurd n ]
        ]

    pub visits-pushed : AreVisits code old → AreVisits code new
    visits-pushed are = record {
      opening = grown-in old new (pushed-grows old new s came p) (start code) are.opening;
      from = from-pushed are.from;
      well = well-pushed are.well;
    }

-- the list of the visit of the opening state
pub visits-opened : (code : Code) (new : List Visit) (s : State) → s ≡ start code → HasPushed [] new s None
    → IsWell (start code) → AreVisits code new
visits-opened code new s is p well =
    let from : silent s ≡ start code = ap silent is in
    let good : IsWell (silent s) = subst IsWell (sym from) well in
    record {
      opening = subst (λ (t : State). In t (states new)) from
          (In-slice_get (states new) 0 (silent s) (pushed-at code [] new s None p));
      from = from-pushed code [] new s None p from good (λ at v h. cc);
      well = well-pushed code [] new s None p from good (λ t i. absurd i);
    }

-- ---- one more state

-- a turn and frame-local ones after it lead to this state
module _ (code : Code) (t : State) (number : ℕ) (s : State) (numbers : List ℕ)
    (taken : HasTakenAndSettled code t number s numbers) where
  abbrev u : State
  u = after code t number

  quiet : silent s ≡ after_all code u taken.more
  quiet = ap silent taken.led ∙ silent-all code taken.more u refl

  -- the edge to it
  module _ (old new : List Visit) (grows : VisitsGrow old new) (are : AreVisits code new) (e : Edge)
      (v : State) (stands : slice_get (states new) e.to ≡ Some v) (same : SameOrAlike (silent s) v)
      (turns : e.turns ≡ length numbers) where
    settles : SettlesAt code (states new) e u
    settles = (
      taken.more,
      v,
      ap length (sym taken.are) ∙ sym turns,
      taken.local,
      stands,
      subst (λ (w : State). SameOrAlike w v) quiet same,
    )

    pub added-by : (before now : List Edge) → now ≡ before ++ e ∷ [] → HasAdded code old new before now u
    added-by before now adds = record { grows = grows; visits = are; edge = e; adds = adds; has = settles }

  quiet-well : IsWell s → IsWell (silent s)
  quiet-well well goes = ((well goes).0, silent-dead s ∙ (well goes).1)

  leads : IsPlain s → LeadsTo code t numbers (silent s)
  leads plain = (ap (after_all code t) taken.are ∙ sym quiet, taken.goes plain)

  -- it is visited now, from the visit at this place
  pub added-visits : (old new : List Visit) (at : ℕ) → AreVisits code old → slice_get (states old) at ≡ Some t
      → IsWell s → HasPushed old new s (Some (record { parent = at; numbers = numbers })) → AreVisits code new
  added-visits old new at are h well p =
      let came : Option Came = Some (record { parent = at; numbers = numbers }) in
      let below = get-within (states old) at t h in
      let same = states-length old in
      let next : IsNext code old (length old) (silent s) (record { parent = at; numbers = numbers }) = record {
        earlier = omega (arith, below, same);
        parent = t;
        stands = h;
        leads = leads (λ goes. (well goes).0);
      } in
      visits-pushed code old new s came p next (quiet-well well) are
