use Rattle.std.proofs.Common.{◌≡◌, ℕ, [], ◌∷◌, not, ◌&&◌, List, length, drop, refl, sym, ap, ◌∙◌, arith}
use Rattle.std.proofs.lemmas.List.{length-map}
use Rattle.golf_data.specs.declared.goroutine.Queued.{Queued}
use Rattle.golf_model.specs.State.{not_empty}
use Rattle.golf_model.specs.Changes.{behind_first}
use Rattle.golf_state_goroutines.specs.Places.{plain_entry, plain_entries, starts_idle}
use Rattle.golf_state.proofs.PlaceLaws.{runs-idle, runs-busy}
use Rattle.golf_state.proofs.Readiness.{running-few}
use Rattle.golf_state.proofs.state.State.runnable.Goals as goal

drop-one : (xs : List ℕ) → drop 1 xs ≡ behind_first xs
drop-one [] = refl
drop-one (x ∷ xs) = refl

pub new-requires-clause-few : goal.new-requires-clause-few
new-requires-clause-few c =
    let s = c.self.inside in
    let k = c.self.invariant.kept in
    let all = ap (λ (xs : List ℕ). length xs) k.running in
    omega (
      arith,
      all,
      running-few (plain_entries s.roster.places),
      length-map s.roster.places plain_entry,
      k.few,
      k.limit,
    )

pub new-requires-else-has_no_call-clause-few : goal.new-requires-else-has_no_call-clause-few
new-requires-else-has_no_call-clause-few c =
    let s = c.self.inside in
    let k = c.self.invariant.kept in
    let all = ap (λ (xs : List ℕ). length xs) k.running in
    omega (
      arith,
      all,
      running-few (plain_entries s.roster.places),
      length-map s.roster.places plain_entry,
      k.few,
      k.limit,
    )

pub returns-then-has_no_call-clause-all : goal.returns-then-has_no_call-clause-all
returns-then-has_no_call-clause-all c =
    let s = c.self.inside in
    let k = c.self.invariant.kept in
    let test = c.has_no_call.ensures ∙ ap (λ (qs : List Queued). not (not_empty qs)
    && starts_idle (plain_entries s.roster.places)) c.as_slice.ensures in
    rw (← c.self.view_is)
    (c.new.ensures ∙ drop-one s.roster.running ∙ ap behind_first k.running
    ∙ runs-idle s.queue (plain_entries s.roster.places) k.rises (sym test ∙ c.if-has_no_call.true))

pub returns-else-has_no_call-clause-all : goal.returns-else-has_no_call-clause-all
returns-else-has_no_call-clause-all c =
    let s = c.self.inside in
    let k = c.self.invariant.kept in
    let test = c.has_no_call.ensures ∙ ap (λ (qs : List Queued). not (not_empty qs)
    && starts_idle (plain_entries s.roster.places)) c.as_slice.ensures in
    rw (← c.self.view_is)
    (c.new-else-has_no_call.ensures ∙ k.running
    ∙ runs-busy s.queue (plain_entries s.roster.places) k.rises (sym test ∙ c.if-has_no_call.false))
