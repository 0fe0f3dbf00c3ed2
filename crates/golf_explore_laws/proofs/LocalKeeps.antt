-- A frame-local turn keeps the ending and the finalisers; each turn keeps the dead goroutines.
-- For: the laws of closed lists, src/lib.rt; `IsLocalTurn`, specs/Local.antt
-- By: induction over the list of turns
use Rattle.std.proofs.Common.{◌≡◌, ℕ, List, [], ◌∷◌, Option, Some, None, inl, inr, refl, sym, ap, ◌∙◌, subst, arith}
use Rattle.golf_theory.specs.Membership.{In}
use Rattle.golf_data.specs.declared.code.Code.{Code}
use Rattle.golf_model.specs.Views.{GoroutineView}
use Rattle.golf_model.specs.State.{State, runnable, not_empty, ending, ending_of}
use Rattle.golf_model.specs.Turn.{step}
use Rattle.golf_model.specs.LiveSet.{Node, dead}
use Rattle.golf_model.specs.Futures.{Numbered}
use Rattle.golf_model.proofs.Agreeing.{dead-sound, dead-complete}
use Rattle.golf_model_futures.proofs.Numbering.{numbered-rest}
use Rattle.golf_model_futures.proofs.Leading.{numbered-step}
use Rattle.golf_model_futures.proofs.DeadStill.{LiveObject, LiveGoroutine, goroutine-given, closed-live}
use Rattle.golf_model_futures.proofs.Staying.{step-closed, step-confined}
use Rattle.golf_model_futures.proofs.SameSight.{live-in}
use Rattle.golf_explore_laws.specs.After.{silent, after, after_all}
use Rattle.golf_explore_laws.specs.Local.{becomes, IsLocalTurn, AreLocalTurns}
use Rattle.golf_explore_laws.proofs.LocalTurns.{local-turns}
use Rattle.golf_explore_laws.proofs.Visiting.{silent-dead}

-- ---- the order of numbers

pub numbered-silent : (s : State) → Numbered s → Numbered (silent s)
numbered-silent s ordered = numbered-rest s ordered s.globals s.queue [] s.recorded ordered.globals ordered.queue

pub numbered-after : (code : Code) (s : State) (n : ℕ) → Numbered s → Numbered (after code s n)
numbered-after code s n ordered = numbered-silent (step code s n) (numbered-step code s n ordered)

-- ---- the ending and the finalisers

module _ (g : ℕ) where
  becomes-recorded : (m : Option GoroutineView) (s : State) → (becomes g m s).recorded ≡ s.recorded
  becomes-recorded None s = refl
  becomes-recorded (Some r) s = refl

  becomes-finalisers : (m : Option GoroutineView) (s : State) → (becomes g m s).finalisers ≡ s.finalisers
  becomes-finalisers None s = refl
  becomes-finalisers (Some r) s = refl

  becomes-ending : (m : Option GoroutineView) (s : State) → runnable (becomes g m s) ≡ runnable s
      → ending (becomes g m s) ≡ ending s
  becomes-ending m s same =
      ap (λ e. ending_of e (not_empty (runnable (becomes g m s)))) (becomes-recorded m s)
      ∙ ap (λ (gs : List ℕ). ending_of s.recorded (not_empty gs)) same

-- a frame-local turn keeps the ending and the finalisers
pub local-keeps : (code : Code) (s : State) (n : ℕ) → Numbered s → IsLocalTurn code s n
    → (ending (after code s n) ≡ ending s) × ((after code s n).finalisers ≡ s.finalisers)
local-keeps code s n ordered is =
    let turn = local-turns code is.g is.r is.local in
    let steps = turn.steps s n is.whose is.found in
    let same = turn.same (silent s) ordered.goroutines_rise is.found in (
      ap ending steps ∙ becomes-ending is.g turn.after (silent s) same,
      ap (λ (t : State). t.finalisers) steps ∙ becomes-finalisers is.g turn.after (silent s),
    )

-- so do frame-local turns one after another
pub locals-keep : (code : Code) (s : State) (ns : List ℕ) → Numbered s → AreLocalTurns code s ns
    → (ending (after_all code s ns) ≡ ending s) × ((after_all code s ns).finalisers ≡ s.finalisers)
locals-keep code s [] ordered are = (refl, refl)
locals-keep code s (n ∷ ns) ordered are =
    let one = local-keeps code s n ordered are.0 in
    let rest = locals-keep code (after code s n) ns (numbered-after code s n ordered) are.1 in
    (rest.0 ∙ one.0, rest.1 ∙ one.1)

-- ---- dead goroutines

-- a goroutine that is dead is dead after each turn
dead-stays : (code : Code) (s : State) (k g : ℕ) → Numbered s → In g (dead s) → In g (dead (after code s k))
dead-stays code s k g ordered i =
    let d = dead-sound s g i in
    let c = closed-live s ordered in
    let outside : LiveGoroutine s g → ⊥ = λ j. elim j [
      | inl a ↦ d.3 a
      | inr a ↦ absurd (let b = goroutine-given s ordered g d.0 d.1 in omega arith)
    ] in
    let f = step-confined code (LiveGoroutine s) (LiveObject s) s c k in
    let still = step-closed code (LiveGoroutine s) (LiveObject s) s c k in
    subst (λ (gs : List ℕ). In g gs) (sym (silent-dead (step code s k))) (dead-complete (step code s k) g (
      d.0,
      f.goroutines.there g d.0 outside d.1,
      d.2,
      λ l. outside (live-in (LiveObject s) (LiveGoroutine s) (step code s k) still (Node.AGoroutine g) l),
    ))

pub empty : (xs : List ℕ) → ((x : ℕ) → In x xs → ⊥) → xs ≡ []
empty [] h = refl
empty (x ∷ xs) h = absurd (h x (inl refl))

-- without dead goroutines after turns there were none before them
pub none-before : (code : Code) (s : State) (ns : List ℕ) → Numbered s → dead (after_all code s ns) ≡ [] → dead s ≡ []
none-before code s [] ordered none = none
none-before code s (n ∷ ns) ordered none =
    let later = none-before code (after code s n) ns (numbered-after code s n ordered) none in
    empty (dead s) (λ g i. subst (λ (gs : List ℕ). In g gs) later (dead-stays code s n g ordered i))
