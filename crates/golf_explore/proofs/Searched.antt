-- What holds of all visits once each is done.
-- For: `Exploration` and `opened`, src/full_search.rt; `has_panic` and `has_sleep`, src/endings.rt; `TellsSearch`,
-- specs/Results.antt
-- By: the laws of closed lists, and induction over the list of visits
use Rattle.std.proofs.Common.{◌≡◌, ℕ, ◌<◌, ◌==◌, List, [], ◌∷◌, length, Bool, true, false, Option, Some}
use Rattle.std.proofs.Common.{None, Result, Ok, Err, IfOk, slice_get, inl, inr, refl, sym, ap, ◌∙◌, arith}
use Rattle.std.proofs.lemmas.Bool.{or_parts}
use Rattle.golf_theory.specs.Membership.{In}
use Rattle.golf_theory.proofs.Lists.{In-slice_get}
use Rattle.golf_theory.proofs.Tests.{from_any_of}
use Rattle.golf_data.specs.declared.code.Code.{Code}
use Rattle.golf_data.specs.declared.goroutine.Ending.{Ending}
use Rattle.golf_model.specs.State.{State, ending, start}
use Rattle.golf_model.specs.LiveSet.{live_list}
use Rattle.golf_explore_laws.specs.After.{silent}
use Rattle.golf_explore_laws.specs.Closed.{after_turn, IsTurn, NoneDead, NoneEnds}
use Rattle.golf_explore_laws.specs.Laws.{is_panic, is_asleep, IsLocalOrAlike}
use Rattle.golf_explore_laws.specs.StandIns.{kind_of, AsksKind, last_from, ReachesIn, IsClosedUpTo}
use Rattle.golf_explore_laws.proofs.MainLaws.{alike_lists_never_leak, alike_lists_never_report}
use Rattle.golf_explore_laws.proofs.MainLaws.{alike_lists_report_nobody, alike_lists_never_end}
use Rattle.golf_explore.specs.declared.full_search.Exploration.{Exploration}
use Rattle.golf_explore.specs.declared.full_search.Explored.{Explored}
use Rattle.golf_explore.specs.declared.full_search.Visited.{Visited}
use Rattle.golf_explore.specs.declared.visits.Edge.{Edge}
use Rattle.golf_explore.specs.declared.visits.Visit.{Visit}
use Rattle.golf_explore.specs.Ranks.{HaveRanks}
use Rattle.golf_explore.specs.VisitLists.{states, IsWell, AreVisits, AreDone, ends_by}
use Rattle.golf_explore.specs.VisitLists.{has_ended_by, HasVisited}
use Rattle.golf_explore.specs.Results.{run_of, some_ended, CanEnd, Decides, EndsIf, TellsSearch, CountsVisits}
use Rattle.golf_explore.specs.Results.{Unless}
use Rattle.golf_explore.specs.Results.{HasSearchedOn}
use Rattle.golf_explore.proofs.Growing.{states-length, get-states, grown-length}
use Rattle.golf_explore.proofs.Leading.{done-more, count-more}
use Rattle.golf_explore.proofs.Falling.{In-get, get-there, always-ends}
use Rattle.golf_explore.proofs.Led.{led-to}
use Rattle.golf_explore.proofs.Standing.{reaches}
use Rattle.golf_explore.proofs.TurnLists.{run-goes}

-- ---- which endings depend on the kind alone

is-panic : (e : Ending) → is_panic e ≡ (kind_of (Some e) == 2)
is-panic Ending.Returned = refl
is-panic (Ending.Panicked kind goroutine line) = refl
is-panic Ending.Asleep = refl

is-asleep : (e : Ending) → is_asleep e ≡ (kind_of (Some e) == 3)
is-asleep Ending.Returned = refl
is-asleep (Ending.Panicked kind goroutine line) = refl
is-asleep Ending.Asleep = refl

panic-asks : AsksKind is_panic
panic-asks e f h = is-panic e ∙ ap (λ k. k == 2) h ∙ sym (is-panic f)

asleep-asks : AsksKind is_asleep
asleep-asks e f h = is-asleep e ∙ ap (λ k. k == 3) h ∙ sym (is-asleep f)

-- ---- endings

module _ (code : Code) (vs : List Visit) (are : AreVisits code vs) where
  -- a run has the ending of a visit
  visit-ends : (is_one : Ending → Bool) (v : Visit) → In v vs → has_ended_by is_one v.state ≡ true → CanEnd is_one code
  visit-ends is_one v i e =
      let at = In-get vs v i in
      let p = led-to code vs are at.0 (silent v.state) (get-states vs at.0 v at.2) in
      let ran : silent (run_of code p.0) ≡ silent v.state = run-goes code p.0 (start code) p.1.1 ∙ p.1.0 in
      (p.0, ap (has_ended_by is_one) ran ∙ e)

  -- the states of visits none of which has such an ending
  none-ends : (is_one : Ending → Bool) (ws : List Visit) → some_ended is_one ws ≡ false → NoneEnds is_one (states ws)
  none-ends is_one [] f s e i h = absurd i
  none-ends is_one (w ∷ ws) f s e (inl is) h =
      ap (ends_by is_one) (sym h ∙ ap ending is) ∙ (or_parts (has_ended_by is_one w.state) (some_ended is_one ws) f).0
  none-ends is_one (w ∷ ws) f s e (inr i) h =
      none-ends is_one ws (or_parts (has_ended_by is_one w.state) (some_ended is_one ws) f).1 s e i h

  pub decides : (is_one : Ending → Bool) → AsksKind is_one → IsClosedUpTo code (IsLocalOrAlike code) (states vs)
      → (flag : Bool) → flag ≡ some_ended is_one vs
      → Decides is_one code flag
  decides is_one asks closed true is =
      let r = from_any_of (λ (v : Visit). has_ended_by is_one v.state) vs (sym is) in visit-ends is_one r.0 r.1 r.2
  decides is_one asks closed false is =
      alike_lists_never_end code (states vs) is_one closed asks (none-ends is_one vs (sym is))

module _ (code : Code) (vs : List Visit) (edges : List (List Edge)) (are : AreVisits code vs)
    (done : AreDone code (states vs) edges) (all : length edges ≡ length vs) where
  -- the state after a turn of a visit settles in the list by an edge
  settles : (at : ℕ) (s : State) → at < length edges → slice_get (states vs) at ≡ Some s → ending s ≡ None
      → (place choice : ℕ) → IsTurn code s place choice
      → ReachesIn (IsLocalOrAlike code) (states vs) (after_turn code s place choice)
  settles at s within got goes place choice t =
      let es = get-there edges at within in
      let d = done at s es.0 es.1 got goes place choice t in
      let u = after_turn code s place choice in
      let r = reaches code (states vs) d.0 u d.2 in
      (r.ts, r.are, In-slice_get (states vs) d.0.to (last_from u r.ts) r.stands)

  closed : IsClosedUpTo code (IsLocalOrAlike code) (states vs)
  closed = record {
    opening = ([], tt, are.opening);
    plain = λ s i goes. (are.well s i goes).0;
    turns = λ s i goes place choice t.
        let r = In-get (states vs) s i in
        let l = r.1 in
        let e = states-length vs in
        settles r.0 s (omega (arith, l, e, all)) r.2 goes place choice t;
  }

  alive : NoneDead (states vs)
  alive s i goes = (are.well s i goes).1

  ends-if : (ends : Bool) → (ends ≡ true → HaveRanks edges) → EndsIf code ends
  ends-if true ranks = let have = ranks refl in always-ends code vs edges are done all have.0 have.1
  ends-if false ranks = tt

  pub all-visited : (count : ℕ) (ends : Bool) (told : Visited) → count ≡ length vs → (ends ≡ true → HaveRanks edges)
      → CountsVisits vs count ends told → TellsSearch code (Explored.AllVisited told)
  all-visited count ends told counted ranks h = (
    alike_lists_never_leak code (states vs) closed alive,
    alike_lists_never_report code (states vs) closed alive,
    alike_lists_report_nobody code (states vs) closed alive,
    (states vs, closed, states-length vs ∙ sym counted ∙ sym h.states),
    decides code vs are is_panic panic-asks closed told.panics h.panics,
    decides code vs are is_asleep asleep-asks closed told.sleeps h.sleeps,
    ends-if told.ends (λ yes. ranks (sym h.ends ∙ yes)),
  )

pub opening-well : (code : Code) → IsWell (start code)
unfolding live_list
opening-well code goes = (refl, refl)

-- ---- a step of the search

-- what holds if the search goes on leads to something else
if-it-goes-on : {E P Q : Type 0} (code : Code) → (P → Q) → (r : Result (Option Explored) E) → IfOk r (Unless code P)
    → IfOk r (Unless code Q)
if-it-goes-on code f (Ok None) h = f h
if-it-goes-on code f (Ok (Some explored)) h = h
if-it-goes-on code f (Err e) h = tt

-- one more visit is done
pub still-exploring : {E : Type 0} (code : Code) (mid new : Exploration) (at : ℕ) → length mid.edges ≡ at
    → at < length mid.visits.list → AreDone code (states mid.visits.list) mid.edges → (r : Result (Option Explored) E)
    → IfOk r (Unless code (HasVisited code mid.visits.list new.visits.list mid.edges new.edges at))
    → IfOk r (Unless code (HasSearchedOn code mid new))
still-exploring code mid new at count within were =
    if-it-goes-on code (λ more.
    let grown = grown-length mid.visits.list new.visits.list more.grows in
    let longer = count-more code mid.visits.list new.visits.list mid.edges new.edges at within more count were in
    record {
      exploring = record {
        visits = more.visits;
        within = omega (arith, within, grown, longer);
        done = done-more code mid.visits.list new.visits.list mid.edges new.edges at within more count were;
      };
      one = omega (arith, count, longer);
    })
