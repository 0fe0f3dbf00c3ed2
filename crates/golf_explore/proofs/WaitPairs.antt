-- The waits of goroutines and of their partners.
-- For: `add_waits`, `add_waits_at`, `waits_of` and `have_same_order`, src/alike_states.rt; `HasWaits`,
-- specs/AlikeStates.antt
-- By: induction over the list of waits
use Rattle.std.proofs.Common.{◌≡◌, ℕ, ◌+◌, ◌<◌, List, [], ◌∷◌, ◌++◌, map, Option, Some, Result, Ok, Err, OnOk}
use Rattle.std.proofs.Common.{slice_get, ◌⊎◌, inl, inr, sym, ap, ◌∙◌, subst, arith}
use Rattle.std.specs.List.Sorted.{IsPermutation}
use Rattle.std.proofs.lemmas.List.Sorted.{Contains-permutation}
use Rattle.golf_theory.specs.Maps.{find}
use Rattle.golf_theory.specs.Membership.{In}
use Rattle.golf_theory.proofs.Lists.{In-left, In-right, In-Contains, Contains-In}
use Rattle.golf_data.specs.declared.goroutine.Wait.{Wait}
use Rattle.golf_model.specs.Views.{GoroutineView}
use Rattle.golf_model.specs.State.{State}
use Rattle.golf_model.specs.Waiters.{ticket_of, waits_of}
use Rattle.golf_model.specs.Refs.{waited}
use Rattle.golf_explore.specs.declared.alike_states.WaitPair.{WaitPair}
use Rattle.golf_explore.specs.AlikeStates.{partner, wait_pair_of, wait_pair, AddsWaits, AddsWaitsAt, HasWaits}
use Rattle.golf_explore.proofs.Leading.{below-or-last}
use Rattle.golf_explore.proofs.Parents.{some-same}

-- the wait on the object is among those that were added
waited-in : (ticket twin o : ℕ) (ws : List Wait) → In o (waited ws)
    → In (record { object = o; ticket = ticket; twin = twin }) (map (wait_pair_of ticket twin) ws)
waited-in ticket twin o [] i = absurd i
waited-in ticket twin o (w ∷ ws) (inl e) =
    inl (ap (λ n. let p : WaitPair = record { object = n; ticket = ticket; twin = twin } in p) e)
waited-in ticket twin o (w ∷ ws) (inr i) = inr (waited-in ticket twin o ws i)

adds : (r q : GoroutineView) (ws : List Wait) (old new : List WaitPair) → waits_of r.mode ≡ ws
    → new ≡ old ++ map (wait_pair_of (ticket_of r.mode) (ticket_of q.mode)) ws → AddsWaits r q old new
adds r q ws old new waits is =
    let more = map (wait_pair_of (ticket_of r.mode) (ticket_of q.mode)) ws in
    record {
      grows = λ w i. subst (In w) (sym is) (In-left w old more i);
      has = λ o i. subst (In (wait_pair o r q)) (sym is) (In-right (wait_pair o r q) old more
          (waited-in (ticket_of r.mode) (ticket_of q.mode) o ws (subst (λ xs. In o (waited xs)) waits i)));
    }

pub adds-waits : {U E : Type 0} (r q : GoroutineView) (ws : List Wait) (ticket twin : ℕ) (old new : List WaitPair)
    (result : Result U E) → waits_of r.mode ≡ ws → ticket ≡ ticket_of r.mode → twin ≡ ticket_of q.mode
    → OnOk result (new ≡ old ++ map (wait_pair_of ticket twin) ws) → OnOk result (AddsWaits r q old new)
adds-waits r q ws ticket twin old new (Ok u) waits a b is =
    adds r q ws old new waits (is ∙ ap (λ n. old ++ map (wait_pair_of n twin) ws) a
    ∙ ap (λ n. old ++ map (wait_pair_of (ticket_of r.mode) n) ws) b)
adds-waits r q ws ticket twin old new (Err e) waits a b is = tt

pub adds-at : {U E : Type 0} (s : State) (g : ℕ) (t : State) (h : ℕ) (r q : GoroutineView) (old new : List WaitPair)
    (result : Result U E) → find g s.goroutines ≡ Some r → find h t.goroutines ≡ Some q
    → OnOk result (AddsWaits r q old new) → OnOk result (AddsWaitsAt s g t (Some h) old new)
adds-at s g t h r q old new (Err e) f k a = tt
adds-at s g t h r q old new (Ok u) f k a = record {
  grows = a.grows;
  has = λ l v w is fv fw o i.
      let same : h ≡ l = cc in
      let one : r ≡ v = some-same (find g s.goroutines) r v f fv in
      let two : q ≡ w = some-same (find h t.goroutines) q w k (ap (λ n. find n t.goroutines) same ∙ fw) in
      subst (λ (x : GoroutineView). In (wait_pair o v x) new) two
      (subst (λ (x : GoroutineView). In (wait_pair o x q) new) one
      (a.has o (subst (λ (x : GoroutineView). In o (waited (waits_of x.mode))) (sym one) i)));
}

-- the waits of one goroutine more
pub has-more : (s : State) (gs : List ℕ) (t : State) (hs to : List ℕ) (at g : ℕ) (other : Option ℕ)
    (old new : List WaitPair) → slice_get gs at ≡ Some g → other ≡ partner hs to at → HasWaits s gs t hs to at old
    → AddsWaitsAt s g t other old new → HasWaits s gs t hs to (at + 1) new
has-more s gs t hs to at g other old new here is were a i k h r q below e p f l o m =
    more (below-or-last i at (omega (arith, below)))
  where
    more : (i < at) ⊎ (i ≡ at) → In (wait_pair o r q) new
    more (inl b) = a.grows (wait_pair o r q) (were i k h r q b e p f l o m)
    more (inr b) =
        let same : g ≡ k = some-same (slice_get gs at) g k here (ap (slice_get gs) (sym b) ∙ e) in
        a.has h r q (is ∙ ap (partner hs to) (sym b) ∙ p) (ap (λ n. find n s.goroutines) same ∙ f) l o m

-- in another order
pub has-sorted : (s : State) (gs : List ℕ) (t : State) (hs to : List ℕ) (count : ℕ) (old new : List WaitPair)
    → IsPermutation old new → HasWaits s gs t hs to count old → HasWaits s gs t hs to count new
has-sorted s gs t hs to count old new same has i g h r q below e p f k o m =
    In-Contains new (wait_pair o r q) (Contains-permutation old new (wait_pair o r q) same
    (Contains-In old (wait_pair o r q) (has i g h r q below e p f k o m)))
