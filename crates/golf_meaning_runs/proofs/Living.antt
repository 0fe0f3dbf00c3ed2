-- What a call has shown is what its code means with the answers that it got.
-- For: `LivesMean`, golf_meaning_runs/specs/Life.antt; the law `lives_mean`, src/lib.rt.
-- By: induction over the life of the call.
use Rattle.std.proofs.Common.{◌≡◌, ℕ, suc, ◌+◌, Bool, List, [], ◌∷◌, ◌++◌, Some, refl, ap, sym, ◌∙◌, slice_get, arith}
use Rattle.std.proofs.Common.{append_assoc, append-nil, Option}
use Rattle.golf_data.specs.declared.value.Value.{Value}
use Rattle.golf_data.specs.declared.code.CodeLine.{CodeLine}
use Rattle.golf_data.specs.declared.code.Function.{Function}
use Rattle.golf_meaning_flat.specs.Worlds.{Operation, Answer, Halt, Told, World, Part, halted}
use Rattle.golf_meaning_flat.specs.InstructionEffects.{Frame, Doing, doing}
use Rattle.golf_meaning_flat.specs.Flat.{targets, lower, picks, tests, Next, ended, does, at_line, exec}
use Rattle.golf_meaning_runs.specs.FrameShapes.{Shaping, giving_by}
use Rattle.golf_meaning_runs.specs.FlatSteps.{Stepped, stepped_by, stepped, then_next}
use Rattle.golf_meaning_runs.specs.Life.{world, frame, Now, first_slots, Life, HasShown, LivesMean}
use Rattle.golf_meaning_runs.proofs.Needing.{needed-decide}

ended-is : {A : Type 0} (p : Part A) (f : A → World → Told) (g : A → World → Stepped) (next : Next)
    → ((x : A) (u : World) → f x u ≡ then_next (g x u) next) → ended p f ≡ then_next (stepped_by p g) next
ended-is (Part.Gives x u) f g next h = h x u
ended-is (Part.Stops h os) f g next k = refl

does-is : (gives : List Bool) (d : Doing) (next : Next) (at : ℕ) (c : Frame) (w : World)
    → does gives d next at c w ≡ then_next (stepped gives d at c w) next
does-is gives (Doing.Acts f) next at c w = ended-is (f c w) _ _ next (λ d u. refl)
does-is gives (Doing.Jumps t) next at c w = refl
does-is gives (Doing.Tests t) next at c w = ended-is (tests c w) _ _ next (λ r u. refl)
does-is gives (Doing.Chooses cs o) next at c w =
    ended-is (picks gives (lower (targets cs o)) cs o c w) _ _ next (λ r u. refl)

module _ (fn : Function) (shaping : Option Shaping) (arguments : List Value) where
  abbrev gives : List Bool
  gives = giving_by shaping

  -- one instruction
  pub one : (at : ℕ) (l : CodeLine) (c : Frame) (w : World) (k : ℕ) → slice_get fn.body at ≡ Some l
      → exec gives fn.body (suc k) at c w ≡ then_next (stepped gives (doing gives l.instr) at c w)
      (exec gives fn.body k)
  one at l c w k is = ap (λ o. at_line gives o (exec gives fn.body k) at c w) is
      ∙ does-is gives (doing gives l.instr) (exec gives fn.body k) at c w

  abbrev From : List Answer → ℕ → Told
  From got n = exec gives fn.body n 0 (frame (first_slots fn arguments) []) (world got [])

  -- after so many instructions the code is there, whatever answers follow
  abbrev Comes : List Operation → List Answer → ℕ → Frame → Type 0
  Comes os got at c = (j : ℕ) × ((k : ℕ) (more : List Answer)
      → From (got ++ more) (j + k) ≡ exec gives fn.body k at c (world more os))

  abbrev There : List Operation → List Answer → Now → Type 0
  There os got (Now.Stands at c) = Comes os got at c
  There os got (Now.Asks at c before) = Comes before got at c
      × ((l : CodeLine) × (slice_get fn.body at ≡ Some l)
      × (stepped gives (doing gives l.instr) at c (world [] before) ≡ Stepped.Halts Halt.Waits os))
  There os got (Now.Halted h) = (n : ℕ) × ((more : List Answer) → From (got ++ more) n ≡ halted h os)

  there : {os : List Operation} {got : List Answer} {now : Now} → Life fn shaping arguments os got now
      → There os got now
  there (Life.Begins e) = (0, λ k more. ap (λ n. From more n) (omega arith))
  there (Life.Turns {os} {got} {at} {c} l to d life is step) =
      let h = there life in (
        h.0 + 1,
        λ k more.
            ap (λ n. From (got ++ more) n) (omega arith) ∙ h.1 (suc k) more ∙ one at l c (world more os) k is
            ∙ ap (λ z. then_next z (exec gives fn.body k)) (step (world more os)),
      )
  there (Life.Clears {os} {got} {at} {c} slots life alike) =
      let h = there life in
      (h.0, λ k more. h.1 k more ∙ needed-decide gives fn.body k at c.slots slots c.operands (world more os) alike)
  there (Life.Shows {os} {got} {at} {c} l o life good is step) = (there life, (l, is, step))
  there (Life.Answered {os} {before} {got} {at} {c} l a to d life good is step) =
      let h = (there life).0 in (
        h.0 + 1,
        λ k more.
            ap (λ n. From ((got ++ a ∷ []) ++ more) n) (omega arith)
            ∙ ap (λ xs. From xs (h.0 + suc k)) (append_assoc got (a ∷ []) more)
            ∙ h.1 (suc k) (a ∷ more) ∙ one at l c (world (a ∷ more) before) k is
            ∙ ap (λ z. then_next z (exec gives fn.body k)) (step more),
      )
  there (Life.Halts {os} {got} {at} {c} l h life is step) =
      let r = there life in (
        r.0 + 1,
        λ more. r.1 1 more ∙ one at l c (world more os) 0 is
            ∙ ap (λ z. then_next z (exec gives fn.body 0)) (step (world more os)),
      )

  shown : (os : List Operation) (got : List Answer) (now : Now) → There os got now
      → HasShown gives fn arguments os got now
  shown os got (Now.Stands at c) h = (h.0 + 0, ap (λ xs. From xs (h.0 + 0)) (sym (append-nil got)) ∙ h.1 0 [])
  shown os got (Now.Asks at c before) h =
      let g = h.0 in (
        g.0 + 1,
        ap (λ xs. From xs (g.0 + 1)) (sym (append-nil got)) ∙ g.1 1 []
            ∙ one at h.1.0 c (world [] before) 0 h.1.1 ∙ ap (λ z. then_next z (exec gives fn.body 0)) h.1.2,
      )
  shown os got (Now.Halted h) r = (r.0, ap (λ xs. From xs r.0) (sym (append-nil got)) ∙ r.1 [])

pub lives-mean : LivesMean
lives-mean fn shaping arguments os got now life =
    shown fn shaping arguments os got now (there fn shaping arguments life)
