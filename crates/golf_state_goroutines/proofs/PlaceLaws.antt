-- Goroutines by number, and their views.
-- For: `plain_entries` (golf_state_goroutines/specs/Places.antt), src/places.rt and src/roster.rt
-- By: induction over the list of goroutines
use Rattle.std.proofs.Common.{◌≡◌, ℕ, true, false, cond, List, [], ◌∷◌, ◌++◌, ◌==◌, refl, ap, sym, ◌∙◌}
use Rattle.std.proofs.Common.{Option, Some, None, Bool, inl, inr}
use Rattle.std.specs.Prelude.{option_map, is_some}
use Rattle.std.proofs.lemmas.List.{map-append}
use Rattle.golf_data.specs.declared.goroutine.Goroutine.{Goroutine}
use Rattle.golf_theory.specs.Flags.{kept}
use Rattle.golf_theory.specs.Maps.{Entry, find, put, only, AllBelow}
use Rattle.golf_model.specs.Views.{GoroutineView, goroutine_view}
use Rattle.golf_model.specs.State.{is_running}
use Rattle.golf_state_goroutines.specs.Goroutines.{AllUnder}
use Rattle.golf_state_goroutines.specs.Places.{plain_entry, plain_entries, running_of}

pub find-plain : (g : ℕ) (ps : List (ℕ × Goroutine)) → find g (plain_entries ps) ≡ option_map goroutine_view (find g ps)
find-plain g [] = refl
find-plain g (p ∷ ps) = elim (g == p.0) as (λ b. cond b (Some (goroutine_view p.1)) (find g (plain_entries ps))
    ≡ option_map goroutine_view (cond b (Some p.1) (find g ps))) [
      | true ↦ refl
      | false ↦ find-plain g ps
    ]

pub some-plain : (g : ℕ) (ps : List (ℕ × Goroutine)) → is_some (find g (plain_entries ps)) ≡ true
    → is_some (find g ps) ≡ true
some-plain g ps h = some (find g ps) (ap is_some (sym (find-plain g ps)) ∙ h)
  where
    some : (o : Option Goroutine) → is_some (option_map goroutine_view o) ≡ true → is_some o ≡ true
    some None h = h
    some (Some x) h = refl

pub put-plain : (g : ℕ) (x : Goroutine) (ps : List (ℕ × Goroutine))
    → plain_entries (put g x ps) ≡ put g (goroutine_view x) (plain_entries ps)
put-plain g x [] = refl
put-plain g x (p ∷ ps) =
    ap (λ (es : List (ℕ × GoroutineView)). (p.0, goroutine_view (cond (g == p.0) x p.1)) ∷ es) (put-plain g x ps)
    ∙ ap (λ (v : GoroutineView). (p.0, v) ∷ put g (goroutine_view x) (plain_entries ps)) (elim (g == p.0) as
    (λ b. goroutine_view (cond b x p.1) ≡ cond b (goroutine_view x) (goroutine_view p.1)) [
      | true ↦ refl
      | false ↦ refl
    ])

pub only-plain : (t : ℕ → Bool) (ps : List (ℕ × Goroutine)) → plain_entries (only t ps) ≡ only t (plain_entries ps)
only-plain t [] = refl
only-plain t (p ∷ ps) = elim (t p.0) as (λ b. plain_entries (cond b (p ∷ only t ps) (only t ps))
    ≡ cond b (plain_entry p ∷ only t (plain_entries ps)) (only t (plain_entries ps))) [
      | true ↦ ap (λ (es : List (ℕ × GoroutineView)). plain_entry p ∷ es) (only-plain t ps)
      | false ↦ only-plain t ps
    ]

pub entries-append : (ps qs : List (ℕ × Goroutine)) → plain_entries (ps ++ qs) ≡ plain_entries ps ++ plain_entries qs
entries-append ps qs = map-append plain_entry ps qs

pub below-plain : (n : ℕ) (ps : List (ℕ × Goroutine)) → AllBelow n (plain_entries ps) → AllBelow n ps
below-plain n [] a = tt
below-plain n (p ∷ ps) a = (a.0, below-plain n ps a.1)

pub Entry-kept : {X : Type 0} (bs : List Bool) (es : List (ℕ × X)) (k : ℕ) (x : X) → Entry (kept bs es) k x → Entry es k x
Entry-kept [] es k x h = absurd h
Entry-kept (b ∷ bs) [] k x h = h
Entry-kept (b ∷ bs) (e ∷ es) k x h =
    elim b as (λ c. Entry (cond c (e ∷ kept bs es) (kept bs es)) k x → Entry (e ∷ es) k x) [
      | true ↦ λ i. elim i [ inl q ↦ inl q | inr j ↦ inr (Entry-kept bs es k x j) ]
      | false ↦ λ i. inr (Entry-kept bs es k x i)
    ] h

-- the keys of the entries stay
pub Entry-put : {X : Type 0} (g : ℕ) (v : X) (es : List (ℕ × X)) (k : ℕ) (x : X) → Entry (put g v es) k x → (y : X)
    × Entry es k y
Entry-put g v [] k x h = absurd h
Entry-put g v (e ∷ es) k x (inl h) = (e.1, inl (h.0, refl))
Entry-put g v (e ∷ es) k x (inr h) = let rest = Entry-put g v es k x h in (rest.0, inr rest.1)

-- all of them are below
pub under-next : (n : ℕ) (es : List (ℕ × GoroutineView)) (runs : List ℕ) → runs ≡ running_of es → AllBelow n es
    → AllUnder n runs
under-next n es runs is a = rw is (under n es a)
  where
    under : (n : ℕ) (es : List (ℕ × GoroutineView)) → AllBelow n es → AllUnder n (running_of es)
    under n [] a = tt
    under n (e ∷ es) a = elim (is_running e.1.mode) as (λ b. AllUnder n
        (cond b (e.0 ∷ running_of es) (running_of es))) [
          | true ↦ (a.0, under n es a.1)
          | false ↦ under n es a.1
        ]
