-- The turns from the opening state to a visit, found by way of parents.
-- For: `add_backwards` and `path_to`, src/paths.rt; `Joins` and `IsPathTo`, specs/VisitLists.antt
-- By: the facts of one visit; induction over the list of numbers
use Rattle.std.proofs.Common.{◌≡◌, ℕ, zero, suc, List, [], ◌∷◌, ◌++◌, length, drop, Option, Some, None, slice_get}
use Rattle.std.proofs.Common.{refl, sym, ap, ◌∙◌, subst, reverse, append_assoc}
use Rattle.std.proofs.lemmas.List.{reverse-append, reverse-reverse}
use Rattle.golf_data.specs.declared.code.Code.{Code}
use Rattle.golf_model.specs.State.{State, start}
use Rattle.golf_explore_laws.specs.After.{silent}
use Rattle.golf_explore.specs.declared.visits.Came.{Came}
use Rattle.golf_explore.specs.declared.visits.Visit.{Visit}
use Rattle.golf_explore.specs.VisitLists.{states, IsNext, IsFrom, AreVisits, LeadsTo, Joins, IsPathTo}
use Rattle.golf_explore.proofs.Growing.{get-states}
use Rattle.golf_explore.proofs.TurnLists.{leads-append}

pub some-same : {X : Type 0} (m : Option X) (s t : X) → m ≡ Some s → m ≡ Some t → s ≡ t
some-same m s t h k = let e : Some s ≡ Some t = sym h ∙ k in cc

-- what a visit says of the turns that led to it
pub came-from : (code : Code) (visits : List Visit) (at : ℕ) (v : Visit) (came : Came) → AreVisits code visits
    → slice_get visits at ≡ Some v → v.came ≡ Some came → IsNext code visits at (silent v.state) came
came-from code visits at v came are h c = subst (IsFrom code visits at (silent v.state)) c (are.from at v h)

pub joins-up : (visits : List Visit) (here at : ℕ) (v : Visit) (came : Came) (ns : List ℕ)
    → slice_get visits here ≡ Some v → v.came ≡ Some came → Joins visits here ns at
    → Joins visits came.parent (came.numbers ++ ns) at
joins-up visits here at v came ns h c joins code are s t hs ht =
    let n = came-from code visits here v came are h c in
    let is = some-same (slice_get (states visits) came.parent) n.parent s n.stands hs in
    let first = subst (λ (u : State). LeadsTo code u came.numbers (silent v.state)) is n.leads in
    leads-append code s (silent v.state) t came.numbers ns first
    (joins code are (silent v.state) t (get-states visits here v h) ht)

-- at the opening state
pub joins-path : (visits : List Visit) (here at : ℕ) (v : Visit) (ns : List ℕ) → slice_get visits here ≡ Some v
    → v.came ≡ None → Joins visits here ns at → IsPathTo visits at ns
joins-path visits here at v ns h c joins code are t ht =
    let from : silent v.state ≡ start code = subst (IsFrom code visits here (silent v.state)) c (are.from here v h) in
    subst (λ (u : State). LeadsTo code u ns t) from (joins code are (silent v.state) t (get-states visits here v h) ht)

-- ---- numbers, the last one first

pub reverse-adds : (ns more : List ℕ) → more ++ reverse ns ≡ reverse (ns ++ reverse more)
reverse-adds ns more = sym (reverse-append ns (reverse more) ∙ ap (λ xs. xs ++ reverse ns) (reverse-reverse more))

pub drop-all : (ns : List ℕ) → drop (length ns) ns ≡ []
drop-all [] = refl
drop-all (n ∷ ns) = drop-all ns

drop-more : (ns : List ℕ) (at x : ℕ) → slice_get ns at ≡ Some x → drop at ns ≡ x ∷ drop (suc at) ns
drop-more [] at x h = cc
drop-more (n ∷ ns) zero x h = let e : n ≡ x = cc in ap (λ z. z ∷ ns) e
drop-more (n ∷ ns) (suc at) x h = drop-more ns at x h

-- one number more of those from a place on
pub back-more : (ns path : List ℕ) (at x : ℕ) → slice_get ns at ≡ Some x
    → (path ++ reverse (drop (suc at) ns)) ++ x ∷ [] ≡ path ++ reverse (drop at ns)
back-more ns path at x h =
    append_assoc path (reverse (drop (suc at) ns)) (x ∷ [])
    ∙ ap (λ xs. path ++ xs) (sym (reverse-append (x ∷ []) (drop (suc at) ns)))
    ∙ ap (λ xs. path ++ reverse xs) (sym (drop-more ns at x h))
