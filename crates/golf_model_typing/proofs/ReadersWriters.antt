-- Wait groups, and reader and writer mutexes: their turns have changes, and keep types.
-- For: `write_locks` and `read_locks`, golf_model/specs/ReadersWriters.antt; `adds`, golf_model/specs/Mutexes.antt
-- By: cases of the count and of who waits first; no induction
use Rattle.std.proofs.Common.{◌≡◌, ℕ, ◌+◌, Bool, true, false, List, [], ◌∷◌, Option, Some, None, ◌||◌, refl, ℤ, pos}
use Rattle.std.proofs.Common.{nat_lt}
use Rattle.std.specs.Prelude.{int_lt, int_le, is_some, ◌-ℤ◌}
use Rattle.golf_theory.specs.Maps.{find}
use Rattle.golf_data.specs.declared.value.Value.{Value}
use Rattle.golf_data.specs.declared.code.Code.{Code}
use Rattle.golf_data.specs.declared.code.Instr.{Instr}
use Rattle.golf_data.specs.declared.goroutine.PanicKind.{PanicKind}
use Rattle.golf_data.specs.declared.goroutine.Side.{Side}
use Rattle.golf_data.specs.declared.goroutine.WaitKind.{WaitKind}
use Rattle.golf_model.specs.Values.{is_zero, is_minus_one}
use Rattle.golf_model.specs.State.{State}
use Rattle.golf_model.specs.Waiters.{Waiter, waits_of, waiter_ticket, first, bare_wait}
use Rattle.golf_model.specs.Wakes.{Waking}
use Rattle.golf_model.specs.Changes.{Change}
use Rattle.golf_model.specs.Actors.{Actor, next, choose, taking_one, at_reference, at_rw}
use Rattle.golf_model.specs.Arithmetic.{sum}
use Rattle.golf_model.specs.Mutexes.{adds, waits}
use Rattle.golf_model.specs.ReadersWriters.{counted, to_readers, to_writer, serves_first, serves, write_locks}
use Rattle.golf_model.specs.ReadersWriters.{write_locks_by, write_unlocks, write_unlocks_by, read_locks, read_locks_by}
use Rattle.golf_model.specs.ReadersWriters.{read_unlocks, read_unlocks_by, most_readers}
use Rattle.golf_model_typing.specs.Types.{ValueType, Shape, FunctionTypes, Typing, HasType, ValuesFit}
use Rattle.golf_model_typing.specs.Shapes.{LeadsToShape, Takes, InstructionFits, HasShapes}
use Rattle.golf_model_typing.specs.WellTyped.{LeavingFits, WellTyped, ChangesFit}
use Rattle.golf_model_typing.proofs.Changing.{released-at}
use Rattle.golf_model_typing.proofs.Acting.{Proceeds, of-choose, of-int, of-reference, of-group, of-rw, ActorFits}
use Rattle.golf_model_typing.proofs.Acting.{proceeds-panics, proceeds-dies, proceeds-goes, proceeds-blocks, on_no}
use Rattle.golf_model_typing.proofs.Acting.{lands, takes-one, takes-two}
use Rattle.golf_model_typing.proofs.Channels.{first-typed}

module _ (code : Code) (types : Typing) (shapes : HasShapes code types) (known : List (ℕ × ValueType)) (s : State)
    (w : WellTyped types known s) (a : Actor) (ft : FunctionTypes) (sh : Shape)
    (i : ActorFits types known s a ft sh) where
  abbrev Goes : List Change → Type 0
  Goes cs = Proceeds types known s cs

  -- blocking on an object of this kind
  stays : (rest : List Value) (ts : List ValueType) → ValuesFit types.of known rest ts
      → LeadsToShape ft ts sh.assigned (a.frame.at + 1)
      → LeavingFits types known ft [] (a.frame.at + 1) rest a.frame.slots a.frame.leaving
  stays rest ts hs l = on_no types known s a ft sh i [] (a.frame.at + 1) rest a.frame.slots
      (lands ts sh.assigned l hs i.assigned)

  pub proceeds-adds : InstructionFits types.of ft a.frame.at Instr.GroupAdd sh → Goes (adds a s)
  proceeds-adds r = takes-two types known s a ft sh i ValueType.Group ValueType.Int _ [] r
      (λ x y rest hx hy hs p. of-int types known s Goes _ y hy
      (λ d. of-reference types known s Goes a _ x ValueType.Group tt hx p
      (proceeds-panics types known s a ft PanicKind.NilPointer i.holds)
      (λ o k there. of-group types known s Goes w o ValueType.Group k there _ refl
      (λ n. of-choose types known s Goes (int_lt (sum n d) (pos 0)) _ _
      (proceeds-panics types known s a ft PanicKind.NegativeGroup i.holds)
      (record {
        moves = refl;
        keeps = (
          (ValueType.Group, k, refl),
          ((proceeds-goes types known s a ft sh i rest r.0 hs r.2).keeps.0, woken o (is_zero (sum n d)) _),
        );
      })))))
    where
      woken : (o : ℕ) (b : Bool) (t : State)
          → ChangesFit types known t (choose b (Change.WakeAll o Waking.AtZero ∷ []) [])
      woken o true t = (tt, tt)
      woken o false t = tt

  pub proceeds-waits : InstructionFits types.of ft a.frame.at Instr.GroupWait sh → Goes (waits a s)
  proceeds-waits r = takes-one types known s a ft sh i ValueType.Group _ [] r
      (λ x rest h hs p. of-reference types known s Goes a _ x ValueType.Group tt h p
      (proceeds-panics types known s a ft PanicKind.NilPointer i.holds)
      (λ o k there. of-group types known s Goes w o ValueType.Group k there _ refl
      (λ n. of-choose types known s Goes (is_zero n) _ _ (proceeds-goes types known s a ft sh i rest r.0 hs r.2)
      (proceeds-blocks types known s a ft sh i (next a.frame rest) WaitKind.Group
      (bare_wait o Side.Group ∷ []) i.holds.base ((k, stays rest r.0 hs r.2), tt)
      ((λ e. cc), tt) i.holds.callers))))

  -- handing a reader and writer mutex on to a writer
  writer : (t : State) (o : ℕ) (u : Waiter) → first o Side.Write s.goroutines ≡ Some u
      → HasType known o ValueType.Rw → ChangesFit types known t (to_writer o u)
  writer t o u e k =
      let is = first-typed types known s w o Side.Write u e in (
        (ValueType.Rw, k, refl),
        (
          released-at types known u.number u.wait (waits_of u.goroutine.mode) u.goroutine
              (λ q. let f = is.side_is in cc) (λ q. let f = is.side_is in cc) is.in_waits is.blocked,
          tt,
        ),
      )

  -- handing it on
  served : (t : State) (o : ℕ) (m n : Option Waiter) → first o Side.Write s.goroutines ≡ m
      → HasType known o ValueType.Rw → ChangesFit types known t (serves_first o s.goroutines m n)
  served t o None n e k = ((ValueType.Rw, k, refl), (tt, tt))
  served t o (Some u) None e k = writer t o u e k
  served t o (Some u) (Some v) e k = go (nat_lt (waiter_ticket v) (waiter_ticket u))
    where
      go : (b : Bool) → ChangesFit types known t
          (choose b (to_readers o (Some (waiter_ticket u)) s.goroutines) (to_writer o u))
      go true = ((ValueType.Rw, k, refl), (tt, tt))
      go false = writer t o u e k

  on-rw : (act : ℕ → ℤ → List Value → List Change) (r : Takes ft a.frame.at sh (ValueType.Rw ∷ []) [])
      → ((o : ℕ) (n : ℤ) (rest : List Value) → HasType known o ValueType.Rw → ValuesFit types.of known rest r.0
      → Goes (act o n rest)) → Goes (taking_one
      (λ m rest. at_reference a (λ o. at_rw (λ n. act o n rest) (find o s.objects)) m) a.frame.operands)
  on-rw act r h = takes-one types known s a ft sh i ValueType.Rw _ [] r
      (λ x rest hx hs p. of-reference types known s Goes a _ x ValueType.Rw tt hx p
      (proceeds-panics types known s a ft PanicKind.NilPointer i.holds)
      (λ o k there. of-rw types known s Goes w o ValueType.Rw k there _ refl (λ n. h o n rest k hs)))

  pub proceeds-write_locks : InstructionFits types.of ft a.frame.at Instr.RwLock sh → Goes (write_locks a s)
  proceeds-write_locks r = on-rw (λ o n rest. write_locks_by a rest o n) r
      (λ o n rest k hs. of-choose types known s Goes (is_zero n) _ _
      (record {
        moves = refl;
        keeps = (
          (ValueType.Rw, k, refl),
          (proceeds-goes types known s a ft sh i rest r.0 hs r.2).keeps,
        );
      })
      (proceeds-blocks types known s a ft sh i (next a.frame rest) WaitKind.WriteLock
      (bare_wait o Side.Write ∷ []) i.holds.base ((k, stays rest r.0 hs r.2), tt) ((λ e. cc), tt) i.holds.callers))

  pub proceeds-write_unlocks : InstructionFits types.of ft a.frame.at Instr.RwUnlock sh → Goes (write_unlocks a s)
  proceeds-write_unlocks r = on-rw (λ o n rest. write_unlocks_by a rest s o n) r
      (λ o n rest k hs. of-choose types known s Goes (is_minus_one n) _ _
      (record {
        moves = refl;
        keeps = (
          (proceeds-goes types known s a ft sh i rest r.0 hs r.2).keeps.0,
          served _ o (first o Side.Write s.goroutines) (first o Side.Read s.goroutines) refl k,
        );
      })
      (proceeds-dies types known s a ft PanicKind.UnlockUnlockedRw))

  pub proceeds-read_locks : InstructionFits types.of ft a.frame.at Instr.ReadLock sh → Goes (read_locks a s)
  proceeds-read_locks r = on-rw (λ o n rest. read_locks_by a rest s o n) r
      (λ o n rest k hs. of-choose types known s Goes (is_minus_one n || is_some (first o Side.Write s.goroutines)) _ _
      (proceeds-blocks types known s a ft sh i (next a.frame rest) WaitKind.ReadLock
      (bare_wait o Side.Read ∷ []) i.holds.base ((k, stays rest r.0 hs r.2), tt) ((λ e. cc), tt) i.holds.callers)
      (of-choose types known s Goes (int_le (pos most_readers) n) _ _
      (proceeds-dies types known s a ft PanicKind.ReaderLimit)
      (record {
        moves = refl;
        keeps = (
          (ValueType.Rw, k, refl),
          (proceeds-goes types known s a ft sh i rest r.0 hs r.2).keeps,
        );
      })))

  pub proceeds-read_unlocks : InstructionFits types.of ft a.frame.at Instr.ReadUnlock sh → Goes (read_unlocks a s)
  proceeds-read_unlocks r = on-rw (λ o n rest. read_unlocks_by a rest s o n) r
      (λ o n rest k hs. of-choose types known s Goes (int_lt (pos 0) n) _ _
      (record {
        moves = refl;
        keeps = (
          (proceeds-goes types known s a ft sh i rest r.0 hs r.2).keeps.0,
          left _ o (n -ℤ pos 1) (is_zero (n -ℤ pos 1)) k,
        );
      })
      (proceeds-dies types known s a ft PanicKind.RUnlockUnlocked))
    where
      left : (t : State) (o : ℕ) (n : ℤ) (b : Bool) → HasType known o ValueType.Rw
          → ChangesFit types known t (choose b (serves o s.goroutines) (counted o n ∷ []))
      left t o n true k = served t o (first o Side.Write s.goroutines) (first o Side.Read s.goroutines) refl k
      left t o n false k = ((ValueType.Rw, k, refl), tt)
