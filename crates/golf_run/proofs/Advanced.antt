-- What turns in one go, and the event after them, come to.
-- For: `advance` and `go_through`, src/turns.rt
-- By: cases of the outcome of the turns; no induction
use Rattle.std.proofs.Common.{◌≡◌, ℕ, ◌+◌, Bool, true, false, List, Option, Some, None, refl, sym, ap, subst, ◌∙◌}
use Rattle.std.proofs.Common.{arith}
use Rattle.std.specs.Prelude.{Result, Ok, Err, IsErr, IsErrAnd, is_some}
use Rattle.std.specs.Io.KnownBytes.{Appends}
use Rattle.std.proofs.KnownBytes.{Appends-nil}
use Rattle.golf_base.specs.Causes.{Rose, WritesPrefix}
use Rattle.golf_data.specs.declared.code.Code.{Code}
use Rattle.golf_model.specs.State.{State, ending}
use Rattle.golf_model.specs.Turn.{step, wants_collection}
use Rattle.golf_model.specs.Runs.{Event}
use Rattle.golf_machine.specs.Batches.{HasGoneOn, HasCome, HasTaken}
use Rattle.golf_machine.specs.declared.turns.Turned.{Turned}
use Rattle.golf_machine.specs.declared.turns.Turned.TheVariants as t
use Rattle.golf_run_texts.specs.Writes.{emptied}
use Rattle.golf_run.specs.declared.fault.RunFault.{RunFault}
use Rattle.golf_run.specs.declared.fault.RunFault.TheVariants as faults
use Rattle.golf_run.specs.OneEvent.{HasTurned, turned, prints, collects}
use Rattle.golf_run.specs.PendingEvents.{HasTakenCollection}
use Rattle.golf_run.specs.EventBatches.{HasComeTo, HasStopped, HasAdvanced}
use Rattle.golf_run.proofs.Silent.{come-goes}
use Rattle.golf_run.proofs.Turning.{loud-turn, quiet-turn}

-- what the last turn of them printed was not written to its end
pub record IsCutOff (answer : Result (Option Bool) RunFault) (mid : State) (out out' : Option (List ℕ))
    (f f' : ℕ) : Type 0 where
  pub printed : List ℕ
  pub same : printed ≡ mid.output
  pub failed : IsErr answer
  pub fault : IsErrAnd answer (λ x. x ≡ faults.Write)
  pub prefix : WritesPrefix out out' printed
  pub rose : Rose f f'

-- it was written, and is no more there
pub record IsWritten (mid new : State) (out out' : Option (List ℕ)) (f f' : ℕ) : Type 0 where
  pub printed : List ℕ
  pub same : printed ≡ mid.output
  pub stands : new ≡ emptied mid
  pub got : Appends out out' printed
  pub steady : f' ≡ f

module _ {code : Code} {old : State} {before after : List Event} {n m : ℕ} (goes : ending old ≡ None) where
  abbrev come-of : (h : HasCome code old before after n m) → HasComeTo code old (Event.Turn h.number) before after n m
  come-of h = record { state = h.state; earlier = h.earlier; begins = goes; silent = h.went; count = h.one_more }

  pub broken-advanced : {answer : Result (Option Bool) RunFault} {turned : Turned} {mid : State}
      {out out' : Option (List ℕ)} {f f' : ℕ} (new : State) → HasTaken (Some turned) code old mid before after n m
      → IsCutOff answer mid out out' f f'
      → HasAdvanced answer code old new before after n m out out' f f'
  broken-advanced {answer = Ok x} new h w = let i = w.failed in cc
  broken-advanced {answer = Err faults.Memory} new h w = let a = w.fault in cc
  broken-advanced {answer = Err faults.Write} {out = out} {out' = out'} new h w = (
    Event.Turn h.0.number,
    come-of h.0,
    (
      subst (WritesPrefix out out')
          (w.same ∙ ap (λ (s : State). s.output) h.1) w.prefix,
      w.rose,
    ),
  )

  written : {turned : Turned} {mid new : State} {out out' : Option (List ℕ)} {f f' : ℕ}
      (h : HasTaken (Some turned) code old mid before after n m) → IsWritten mid new out out' f f' → (b : Bool)
      → b ≡ wants_collection code h.0.state h.0.number
      → HasAdvanced (Ok (Some b)) code old new before after n m out out' f f'
  written {out = out} {out' = out'} h w b is = (
    Event.Turn h.0.number,
    come-of h.0,
    (
      is,
      w.stands ∙ ap emptied h.1,
      subst (Appends out out') (w.same ∙ ap (λ (s : State). s.output) h.1) w.got,
      w.steady,
    ),
  )

  pub loud-advanced : {turned : Turned} {mid new : State} {out out' : Option (List ℕ)} {f f' : ℕ}
      → HasTaken (Some turned) code old mid before after n m → IsWritten mid new out out' f f'
      → turned ≡ t.WantsCollection
      → HasAdvanced (Ok (Some true)) code old new before after n m out out' f f'
  loud-advanced {turned = turned} h w e =
      written h w true (sym (loud-turn turned code h.0.state (step code h.0.state h.0.number) h.0.number e h.2))

  pub quiet-advanced : {turned : Turned} {mid new : State} {out out' : Option (List ℕ)} {f f' : ℕ}
      → HasTaken (Some turned) code old mid before after n m → IsWritten mid new out out' f f'
      → (turned ≡ t.WantsCollection → ⊥)
      → HasAdvanced (Ok (Some false)) code old new before after n m out out' f f'
  quiet-advanced {turned = turned} h w other =
      written h w false (sym (quiet-turn turned code h.0.state (step code h.0.state h.0.number) h.0.number other refl
      (come-goes (come-of h.0)) h.2))

  -- no turn is next: a collection
  module _ {mid : State} {later : List Event} {k : ℕ} (h : HasGoneOn code old mid before after n m) (same : k ≡ m)
      (out : Option (List ℕ)) (f : ℕ) where
    pub collection-advanced : HasTakenCollection true after later
        → HasAdvanced (Ok (Some true)) code old mid before later n k out out f f
    collection-advanced e = (
      Event.Collect,
      record {
        state = mid;
        earlier = m;
        begins = goes;
        silent = subst (λ (es : List Event). HasGoneOn code old mid before es n m) e h;
        count =
            (let z : k ≡ m + 0 = omega (arith, same) in z);
      },
      (refl, refl, Appends-nil out, refl),
    )

-- what was answered
pub none-is : {X : Type 0} (o : Option X) → is_some o ≡ false → o ≡ None
none-is None e = refl
none-is (Some x) e = cc

pub taken-none : {code : Code} {old mid : State} {before after : List Event} {n m : ℕ} {o : Option Turned} → o ≡ None
    → HasTaken o code old mid before after n m → HasGoneOn code old mid before after n m
taken-none {o = None} e h = h.0
taken-none {o = Some x} e h = cc

pub taken-some : {code : Code} {old mid : State} {before after : List Event} {n m : ℕ} {o : Option Turned}
    {turned : Turned} → o ≡ Some turned → HasTaken o code old mid before after n m
    → HasTaken (Some turned) code old mid before after n m
taken-some {code} {old} {mid} {before} {after} {n} {m} e h = subst (λ x. HasTaken x code old mid before after n m) e h

-- an event came about, and what it prints was written
pub record CameAbout (wants : Bool) (code : Code) (old new : State) (before after : List Event) (n m : ℕ)
    (out out' : Option (List ℕ)) (f f' : ℕ) : Type 0 where
  pub event : Event
  pub come : HasComeTo code old event before after n m
  pub wants_one : wants ≡ collects code event come.state
  pub stands : new ≡ turned code event come.state
  pub got : Appends out out' (prints code event come.state)
  pub steady : f' ≡ f

pub advanced-some : {o : Option Bool} {b : Bool} {code : Code} {old new : State} {before after : List Event} {n m : ℕ}
    {out out' : Option (List ℕ)} {f f' : ℕ} → o ≡ Some b
    → HasAdvanced (Ok o) code old new before after n m out out' f f'
    → CameAbout b code old new before after n m out out' f f'
advanced-some {o = None} e h = cc
advanced-some {o = Some x} {b = b} e h =
    let same : x ≡ b = cc in
    record { event = h.0; come = h.1; wants_one = sym same ∙ h.2.0; stands = h.2.1; got = h.2.2; steady = h.2.3 }

-- an event did not come about
pub record CameNot (e : RunFault) (code : Code) (old new : State) (before after : List Event) (n m : ℕ)
    (out out' : Option (List ℕ)) (f f' : ℕ) : Type 0 where
  pub event : Event
  pub come : HasComeTo code old event before after n m
  pub failed : HasTurned (Err e) code event come.state new out out' f f'

pub advanced-not : {r : Result (Option Bool) RunFault} {e : RunFault} {code : Code} {old new : State}
    {before after : List Event} {n m : ℕ} {out out' : Option (List ℕ)} {f f' : ℕ} → r ≡ Err e
    → HasAdvanced r code old new before after n m out out' f f' → CameNot e code old new before after n m out out' f f'
advanced-not {code = code} {old = old} {new = new} {before = before} {after = after} {n = n} {m = m} {out = out}
    {out' = out'} {f = f} {f' = f'} is h =
    let a = subst (λ x. HasAdvanced x code old new before after n m out out' f f') is h in
    record { event = a.0; come = a.1; failed = a.2 }

-- no event is left
pub record CameToEnd (code : Code) (old new : State) (before after : List Event) (n m : ℕ) (out out' : Option (List ℕ))
    (f f' : ℕ) : Type 0 where
  pub stopped : HasStopped code old new before after n m
  pub out_same : out' ≡ out
  pub steady : f' ≡ f

pub advanced-none : {o : Option Bool} {code : Code} {old new : State} {before after : List Event} {n m : ℕ}
    {out out' : Option (List ℕ)} {f f' : ℕ} → o ≡ None → HasAdvanced (Ok o) code old new before after n m out out' f f'
    → CameToEnd code old new before after n m out out' f f'
advanced-none {o = None} e h = record { stopped = h.0; out_same = h.1; steady = h.2 }
advanced-none {o = Some x} e h = cc
