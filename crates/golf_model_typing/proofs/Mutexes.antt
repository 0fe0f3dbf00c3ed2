-- Mutexes: their turns have changes, and keep types.
-- For: `locks` and `unlocks`, golf_model/specs/Mutexes.antt; `turns_keep_types`, src/lib.rt
-- By: cases of the mutex and of who waits first; no induction
use Rattle.std.proofs.Common.{◌≡◌, ℕ, ◌+◌, Bool, true, false, List, [], ◌∷◌, Option, Some, None, refl}
use Rattle.golf_theory.specs.Maps.{find}
use Rattle.golf_data.specs.declared.value.Value.{Value}
use Rattle.golf_data.specs.declared.code.Instr.{Instr}
use Rattle.golf_data.specs.declared.goroutine.PanicKind.{PanicKind}
use Rattle.golf_data.specs.declared.goroutine.Side.{Side}
use Rattle.golf_data.specs.declared.goroutine.WaitKind.{WaitKind}
use Rattle.golf_model.specs.State.{State}
use Rattle.golf_model.specs.Waiters.{Waiter, waits_of, first, bare_wait}
use Rattle.golf_model.specs.Changes.{Change}
use Rattle.golf_model.specs.Actors.{Actor, next, taking_one, at_reference, at_mutex}
use Rattle.golf_model.specs.Mutexes.{locks, locks_by, unlocks, unlocks_by, hands_over}
use Rattle.golf_model_typing.specs.Types.{ValueType, Shape, FunctionTypes, Typing, HasType, ValuesFit}
use Rattle.golf_model_typing.specs.Shapes.{LeadsToShape, InstructionFits, Takes}
use Rattle.golf_model_typing.specs.WellTyped.{WellTyped, ChangesFit}
use Rattle.golf_model_typing.proofs.Changing.{released-at}
use Rattle.golf_model_typing.proofs.Acting.{Proceeds, of-taking_one, of-reference, of-mutex, ActorFits}
use Rattle.golf_model_typing.proofs.Acting.{proceeds-panics, proceeds-dies, proceeds-goes, proceeds-blocks, taken}
use Rattle.golf_model_typing.proofs.Acting.{on_no, lands}
use Rattle.golf_model_typing.proofs.Channels.{first-typed}

module _ (types : Typing) (known : List (ℕ × ValueType)) (s : State) (w : WellTyped types known s) (a : Actor)
    (ft : FunctionTypes) (sh : Shape) (i : ActorFits types known s a ft sh) where
  abbrev Goes : List Change → Type 0
  Goes cs = Proceeds types known s cs

  proceeds-locks_by : (rest : List Value) (ts : List ValueType) (o : ℕ) (locked : Bool)
      → ValuesFit types.of known rest ts → LeadsToShape ft ts sh.assigned (a.frame.at + 1)
      → HasType known o ValueType.Mutex
      → Goes (locks_by a rest o locked)
  proceeds-locks_by rest ts o false hs l k =
      record {
        moves = refl;
        keeps = (
          (ValueType.Mutex, k, refl),
          (proceeds-goes types known s a ft sh i rest ts hs l).keeps,
        );
      }
  proceeds-locks_by rest ts o true hs l k =
      proceeds-blocks types known s a ft sh i (next a.frame rest) WaitKind.Lock
      (bare_wait o Side.Lock ∷ []) i.holds.base (
        (
          k,
          on_no types known s a ft sh i [] (a.frame.at + 1) rest a.frame.slots
              (lands ts sh.assigned l hs i.assigned),
        ),
        tt,
      ) ((λ e. cc), tt) i.holds.callers

  -- an instruction on a mutex, which is locked or not
  on-mutex : (act : ℕ → Bool → List Value → List Change) (r : Takes ft a.frame.at sh (ValueType.Mutex ∷ []) [])
      → ((o : ℕ) (locked : Bool) (rest : List Value) → HasType known o ValueType.Mutex
      → ValuesFit types.of known rest r.0 → Goes (act o locked rest))
      → Goes (taking_one (λ m rest. at_reference a (λ o. at_mutex (λ b. act o b rest) (find o s.objects)) m)
      a.frame.operands)
  on-mutex act r h = of-taking_one types known s Goes _ a.frame.operands ValueType.Mutex r.0
      (taken types known s a ft sh i (ValueType.Mutex ∷ r.0) r.1) i.present
      (λ x rest hx hs p. of-reference types known s Goes a _ x ValueType.Mutex tt hx p
      (proceeds-panics types known s a ft PanicKind.NilPointer i.holds)
      (λ o k there. of-mutex types known s Goes w o ValueType.Mutex k there _ refl (λ b. h o b rest k hs)))

  pub proceeds-locks : InstructionFits types.of ft a.frame.at Instr.Lock sh → Goes (locks a s)
  proceeds-locks r = on-mutex (λ o b rest. locks_by a rest o b) r
      (λ o b rest k hs. proceeds-locks_by rest r.0 o b hs r.2 k)

  pub hands-over : (t : State) (o : ℕ) (m : Option Waiter) → first o Side.Lock s.goroutines ≡ m
      → HasType known o ValueType.Mutex → ChangesFit types known t (hands_over o m)
  hands-over t o None q k = ((ValueType.Mutex, k, refl), tt)
  hands-over t o (Some u) q k =
      let is = first-typed types known s w o Side.Lock u q in (
        released-at types known u.number u.wait (waits_of u.goroutine.mode) u.goroutine (λ e. let f = is.side_is in cc)
            (λ e. let f = is.side_is in cc) is.in_waits is.blocked,
        tt,
      )

  proceeds-unlocks_by : (rest : List Value) (ts : List ValueType) (o : ℕ) (locked : Bool)
      → ValuesFit types.of known rest ts → LeadsToShape ft ts sh.assigned (a.frame.at + 1)
      → HasType known o ValueType.Mutex
      → Goes (unlocks_by a rest s o locked)
  proceeds-unlocks_by rest ts o false hs l k = proceeds-dies types known s a ft PanicKind.UnlockUnlocked
  proceeds-unlocks_by rest ts o true hs l k =
      record {
        moves = refl;
        keeps = (
          (proceeds-goes types known s a ft sh i rest ts hs l).keeps.0,
          hands-over _ o (first o Side.Lock s.goroutines) refl k,
        );
      }

  pub proceeds-unlocks : InstructionFits types.of ft a.frame.at Instr.Unlock sh → Goes (unlocks a s)
  proceeds-unlocks r = on-mutex (λ o b rest. unlocks_by a rest s o b) r
      (λ o b rest k hs. proceeds-unlocks_by rest r.0 o b hs r.2 k)
