-- The entries that are reported, one goroutine after another, and whom they name.
-- For: `entries`, src/reported.rt; `entries`, golf_model/specs/Reports.antt
-- By: induction over the list of goroutines
use Rattle.std.proofs.Common.{◌≡◌, ℕ, ◌+◌, ◌<◌, List, [], ◌∷◌, ◌++◌, length, map, take, get_or, Option, Some, None, inl}
use Rattle.std.proofs.Common.{inr, refl, ap, subst, ◌∙◌, append_assoc, append-nil}
use Rattle.std.proofs.lemmas.List.{take_more, map-append}
use Rattle.golf_theory.specs.Maps.{find}
use Rattle.golf_theory.specs.Membership.{In}
use Rattle.golf_theory.proofs.Lists.{In-cases}
use Rattle.golf_base.specs.declared.ids.GoroutineId.{GoroutineId}
use Rattle.golf_data.specs.declared.goroutine.Mode.{Mode}
use Rattle.golf_data.specs.declared.report.Entry.{Entry}
use Rattle.golf_model.specs.Views.{GoroutineView}
use Rattle.golf_model.specs.State.{State}
use Rattle.golf_model.specs.Reports.{numbers, entry_by, entry_of, entries}

entries-append : (s : State) (gs hs : List ℕ) → entries s (gs ++ hs) ≡ entries s gs ++ entries s hs
entries-append s [] hs = refl
entries-append s (g ∷ gs) hs =
    rw (entries-append s gs hs, append_assoc (entry_of g (find g s.goroutines)) (entries s gs) (entries s hs))

numbers-more : (gs : List GoroutineId) (i : ℕ) (d : GoroutineId) → i < length gs
    → numbers (take (i + 1) gs) ≡ numbers (take i gs) ++ (get_or gs i d).0 ∷ []
numbers-more gs i d l = ap numbers (take_more gs i d l) ∙ map-append (λ x. x.0) (take i gs) (get_or gs i d ∷ [])

pub entries-more : (s : State) (gs : List GoroutineId) (i : ℕ) (d : GoroutineId) (old new : List Entry) → i < length gs
    → old ≡ entries s (numbers (take i gs)) → new ≡ old
    ++ entry_of (get_or gs i d).0 (find (get_or gs i d).0 s.goroutines) → new ≡ entries s (numbers (take (i + 1) gs))
entries-more s gs i d old new l so made =
    rw (made, so, numbers-more gs i d l, entries-append s (numbers (take i gs)) ((get_or gs i d).0 ∷ []), append-nil)

pub numbers-ids : (gs : List GoroutineId)
    → map (λ (n : ℕ). let g : GoroutineId = record { 0 = n } in g) (numbers gs) ≡ gs
numbers-ids [] = refl
numbers-ids (g ∷ gs) = rw (numbers-ids gs)

-- ---- whom entries name

entry_by-named : (g started k : ℕ) (mode : Mode) → In k (map (λ (e : Entry). e.goroutine.0) (entry_by g started mode))
    → k ≡ g
entry_by-named g started k Mode.Running h = absurd h
entry_by-named g started k (Mode.Blocked kind line waits ticket) h = elim h [ inl e ↦ e | inr i ↦ absurd i ]

entry_of-named : (g k : ℕ) (r : Option GoroutineView) → In k (map (λ (e : Entry). e.goroutine.0) (entry_of g r)) → k ≡ g
entry_of-named g k None h = absurd h
entry_of-named g k (Some r) h = entry_by-named g r.started k r.mode h

-- none but those of the list
pub entries-name : (s : State) (k : ℕ) (gs : List ℕ) → In k (map (λ (e : Entry). e.goroutine.0) (entries s gs))
    → In k gs
entries-name s k [] h = h
entries-name s k (g ∷ gs) h =
    let first : List Entry = entry_of g (find g s.goroutines) in
    elim (In-cases k (map (λ (e : Entry). e.goroutine.0) first) (map (λ (e : Entry). e.goroutine.0) (entries s gs))
    (subst (In k) (map-append (λ (e : Entry). e.goroutine.0) first (entries s gs)) h)) [
      | inl i ↦ inl (entry_of-named g k (find g s.goroutines) i)
      | inr i ↦ inr (entries-name s k gs i)
    ]
