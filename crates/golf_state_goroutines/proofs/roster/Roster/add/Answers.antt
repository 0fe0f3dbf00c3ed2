use Rattle.std.proofs.Common.{◌≡◌, ◌++◌, ℕ, List, [], ◌∷◌, inl, refl, sym, ap, ◌∙◌, subst}
use Rattle.golf_data.specs.declared.goroutine.Goroutine.{Goroutine}
use Rattle.golf_theory.specs.Stored.{placed}
use Rattle.golf_theory.specs.Maps.{Entry}
use Rattle.golf_state_goroutines.proofs.Listing.{Entry-right}
use Rattle.golf_state_goroutines.specs.Goroutines.{Goroutines, AllUnder, IsNone}
use Rattle.golf_state_goroutines.specs.RunLists.{Runners}
use Rattle.golf_state_goroutines.proofs.Middles.{placed-last, under-none}
use Rattle.golf_state_goroutines.proofs.roster.Roster.add.Goals as goal

pub start-requires-clause-room : goal.start-requires-clause-room
start-requires-clause-room c =
    let p = c.args.place in
    c.in_ok-append.ensures.room p.0 p.1
    (subst (λ (es : List (ℕ × Goroutine)). Entry es p.0 p.1) (sym c.in_ok-append.ensures.ok)
    (Entry-right c.self.inside.places ((p.0, p.1) ∷ []) p.0 p.1 (inl (refl, refl))))

pub start-requires-clause-none : goal.start-requires-clause-none
start-requires-clause-none c =
    let g : ℕ = c.args.place.0 in
    subst (λ (ns : List ℕ). IsNone g ns) (sym c.in_ok-append.ensures.numbers)
    (under-none g c.self.inside.runs.numbers
    (subst (λ (w : Goroutines). AllUnder g w.running) (sym c.self.view_is) c.requires.under))

pub returns-clause-ok : goal.returns-clause-ok
returns-clause-ok c =
    let p = c.args.place in
    let u = subst (λ (w : Goroutines). AllUnder p.0 w.running) (sym c.self.view_is) c.requires.under in
    rw (← c.self.view_is)
    (both c.append.new.places (c.self.inside.places ++ p ∷ []) c.start.new.self.numbers
    (c.self.inside.runs.numbers ++ p.0 ∷ []) c.in_ok-append.ensures.ok
    (ap (λ (r : Runners). r.numbers) c.start.ensures ∙ ap (placed p.0) c.in_ok-append.ensures.numbers
    ∙ placed-last p.0 c.self.inside.runs.numbers u))
  where
    both : (ps qs : List (ℕ × Goroutine)) (ns ms : List ℕ) → ps ≡ qs → ns ≡ ms
        → ◌≡◌ {A = Goroutines} (record { places = ps; running = ns }) (record { places = qs; running = ms })
    both ps qs ns ms e f = λ i. record { places = e i; running = f i }
