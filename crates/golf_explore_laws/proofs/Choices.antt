-- A turn by any number is a turn by one of finitely many.
-- For: `turns_by_choice`, src/lib.rt; `turn_last_choice`, specs/Closed.antt
-- By: induction over the list of cases, and cases of the instruction
use Rattle.std.proofs.Common.{◌≡◌, ℕ, suc, ◌+◌, ◌-◌, ◌*◌, ◌%◌, ◌/◌, ◌<◌, ◌≤◌, Bool, true, false, not, ◌||◌, List, []}
use Rattle.std.proofs.Common.{◌∷◌, length, Option, Some, None, option_and_then, slice_get, refl, sym, ap, ◌∙◌, arith}
use Rattle.std.proofs.lemmas.Nat.{div-mul-add, mod-mul-add, mod_below}
use Rattle.golf_theory.specs.Maps.{find}
use Rattle.golf_data.specs.declared.value.Value.{Value}
use Rattle.golf_data.specs.declared.code.Code.{Code}
use Rattle.golf_data.specs.declared.code.Instr.{Instr}
use Rattle.golf_data.specs.declared.code.CodeLine.{CodeLine}
use Rattle.golf_data.specs.declared.code.SelectCase.{SelectCase}
use Rattle.golf_data.specs.declared.code.CaseKind.{CaseKind}
use Rattle.golf_data.specs.declared.goroutine.Ending.{Ending}
use Rattle.golf_data.specs.declared.goroutine.Leaving.{Leaving}
use Rattle.golf_model.specs.Views.{FrameView, GoroutineView}
use Rattle.golf_model.specs.State.{State, runnable, not_empty, ending, ending_of}
use Rattle.golf_model.specs.Changes.{Change, apply_all}
use Rattle.golf_model.specs.Actors.{Actor, choose}
use Rattle.golf_model.specs.Selects.{Offer, Taken, take_receive, take_send, take_case, and_case, offers_of, kept_if}
use Rattle.golf_model.specs.Selects.{is_ready, ready, all_on_channels, chosen, selects_one, selects_from}
use Rattle.golf_model.specs.ClearedSlots.{clearing}
use Rattle.golf_model.specs.Turn.{changes, acting, line_at, performs, frame_changes, goroutine_changes, turn_of}
use Rattle.golf_model.specs.Turn.{turn_changes, whose_turn, goroutine_collects, step}
use Rattle.golf_explore_laws.specs.Closed.{last_choice, line_last_choice, frame_last_choice, frames_last_choice}
use Rattle.golf_explore_laws.specs.Closed.{goroutine_last_choice, turn_last_choice}

-- ---- how many cases are ready

module _ (s : State) where
  kept-length : (b : Bool) (x : Offer) (xs : List Offer) (n : ℕ) → length xs ≤ n → length (kept_if b x xs) ≤ suc n
  kept-length true x xs n l = omega (arith, l)
  kept-length false x xs n l = omega (arith, l)

  ready-length : (xs : List Offer) → length (ready s xs) ≤ length xs
  ready-length [] = omega arith
  ready-length (x ∷ xs) = kept-length (is_ready s x) x (ready s xs) (length xs) (ready-length xs)

receive-length : (k : SelectCase) (t u : Taken) → take_receive k t ≡ Some u → length u.0 ≡ suc (length t.0)
receive-length k (os, []) u h = cc
receive-length k (os, c ∷ rest) u h = ap (λ (m : Option Taken). elim m as (λ _. ℕ) [ None ↦ 0 | Some v ↦ length v.0 ])
    (sym h)

send-length : (k : SelectCase) (t u : Taken) → take_send k t ≡ Some u → length u.0 ≡ suc (length t.0)
send-length k (os, []) u h = cc
send-length k (os, v ∷ []) u h = cc
send-length k (os, v ∷ c ∷ rest) u h = ap (λ (m : Option Taken). elim m as (λ _. ℕ) [ None ↦ 0 | Some v ↦ length v.0 ])
    (sym h)

case-length : (k : SelectCase) (kind : CaseKind) (t u : Taken) → take_case k kind t ≡ Some u
    → length u.0 ≡ suc (length t.0)
case-length k CaseKind.Send t u h = send-length k t u h
case-length k CaseKind.Take t u h = receive-length k t u h
case-length k CaseKind.TakeOk t u h = receive-length k t u h

and-length : (k : SelectCase) (m : Option Taken) (u : Taken) (n : ℕ) → ((t : Taken) → m ≡ Some t → length t.0 ≡ n)
    → and_case k m ≡ Some u → length u.0 ≡ suc n
and-length k None u n f h = cc
and-length k (Some t) u n f h = case-length k k.kind t u h ∙ ap suc (f t refl)

offers-length : (cases : List SelectCase) (operands : List Value) (t : Taken) → offers_of cases operands ≡ Some t
    → length t.0 ≡ length cases
offers-length [] operands t h = ap (λ (m : Option Taken). elim m as (λ _. ℕ) [ None ↦ 0 | Some v ↦ length v.0 ]) (sym h)
offers-length (k ∷ cases) operands t h =
    and-length k (offers_of cases operands) t (length cases) (offers-length cases operands) h

-- ---- one of the ready cases

plain-sum : (n k : ℕ) → k ≡ 0 * n + k
plain-sum n k = omega arith

pub mod-within : (k n : ℕ) → k < n → k % n ≡ k
mod-within k n l = ap (λ i. i % n) (plain-sum n k) ∙ mod-mul-add 0 n k l

-- a choice, counted round, is one of those below the number of ready cases
round : (n choice : ℕ) → 0 < n → choice % n % n ≡ choice % n
round n choice l = mod-within (choice % n) n (mod_below choice n l)

chosen-first : (xs : List Offer) (choice last : ℕ) → length xs ≤ suc last → (j : ℕ) × (j ≤ last)
    × (chosen choice xs ≡ chosen j xs)
chosen-first [] choice last l = (0, omega arith, refl)
chosen-first (x ∷ xs) choice last l =
    let n = length (x ∷ xs) in
    let b : choice % n < n = mod_below choice n (omega arith) in
    (choice % n, omega (arith, l, b), ap (slice_get (x ∷ xs)) (sym (round n choice (omega arith))))

module _ (code : Code) (s : State) where
  -- one of the choices up to the last one does the same
  abbrev Same : (ℕ → List Change) → ℕ → ℕ → Type 0
  Same act choice last = (j : ℕ) × (j ≤ last) × (act choice ≡ act j)

  same-selected : (a : Actor) (choice last : ℕ) (otherwise : Option ℕ) (m : Option Taken)
      → ((t : Taken) → m ≡ Some t → length t.0 ≤ suc last) → Same (λ k. selects_from a s k otherwise m) choice last
  same-selected a choice last otherwise None l = (0, omega arith, refl)
  same-selected a choice last otherwise (Some t) l =
      let r = ready-length s t.0 in
      let n = l t refl in
      let p = chosen-first (ready s t.0) choice last (omega (arith, r, n)) in
      (p.0, p.1, ap (λ x. choose (all_on_channels s t.0) (selects_one a t.1 s t.0 otherwise x) []) p.2)

  same-changes : (i : Instr) (a : Actor) (choice : ℕ) → Same (λ k. changes code i a k s) choice (last_choice i)
  same-changes (Instr.Select cases otherwise) a choice =
      same-selected a choice (length cases - 1) otherwise (offers_of cases a.frame.operands)
      (λ t h. let n = offers-length cases a.frame.operands t h in omega (arith, n))
  same-changes _ a choice = (0, omega arith, refl)

  same-performs : (g : ℕ) (r : GoroutineView) (f : FrameView) (callers : List FrameView) (choice : ℕ)
      (m : Option CodeLine) → Same (λ k. performs code g r f callers k s m) choice (line_last_choice m)
  same-performs g r f callers choice None = (0, omega arith, refl)
  same-performs g r f callers choice (Some l) = same-changes l.instr (acting g r f callers l.line) choice

  same-frame : (g : ℕ) (r : GoroutineView) (f : FrameView) (callers : List FrameView) (choice : ℕ) (m : Leaving)
      → Same (λ k. frame_changes code g r f callers k s m) choice (frame_last_choice code f m)
  same-frame g r f callers choice Leaving.No = same-performs g r f callers choice (line_at code f.function f.at)
  same-frame g r f callers choice (Leaving.Returning v) = (0, omega arith, refl)
  same-frame g r f callers choice (Leaving.Unwinding x) = (0, omega arith, refl)

  same-goroutine : (g : ℕ) (r : GoroutineView) (choice : ℕ) (fs : List FrameView)
      → Same (λ k. goroutine_changes code g r k s fs) choice (frames_last_choice code fs)
  same-goroutine g r choice [] = (0, omega arith, refl)
  same-goroutine g r choice (f ∷ fs) = same-frame g r f fs choice f.leaving

  same-turn_of : (g choice : ℕ) (m : Option GoroutineView)
      → Same (λ k. turn_of code g k s m) choice (goroutine_last_choice code m)
  same-turn_of g choice None = (0, omega arith, refl)
  same-turn_of g choice (Some r) = same-goroutine g r choice r.frames

  same-turn : (choice : ℕ) (m : Option ℕ) → Same (λ k. turn_changes code k s m) choice (turn_last_choice code s m)
  same-turn choice None = (0, omega arith, refl)
  same-turn choice (Some g) = same-turn_of g choice (find g s.goroutines)

-- ---- whose turn it is

awake : (m : Option Ending) (xs : List ℕ) → ending_of m (not_empty xs) ≡ None → 0 < length xs
awake (Some e) xs h = cc
awake None [] h = cc
awake None (x ∷ xs) h = omega arith

pub some-run : (s : State) → ending s ≡ None → 0 < length (runnable s)
some-run s goes = awake s.recorded (runnable s) goes

-- the step by the changes, and whose they are
abbrev pub stepped : Code → State → List Change → Option ℕ → State
stepped code s cs m =
    let t = apply_all cs s in apply_all (clearing code
    (goroutine_collects code (option_and_then (λ g. find g s.goroutines) m) || not (not_empty cs)) m t) t

module _ (code : Code) (s : State) (c : ℕ) (goes : ending s ≡ None) where
  abbrev m : ℕ
  m = length (runnable s)

  pub turn-by-choice : (choice : ℕ) × (choice ≤ turn_last_choice code s (whose_turn s c))
      × (step code s c ≡ step code s (choice * m + c % m))
  turn-by-choice =
      let p = same-turn code s (c / m) (whose_turn s c) in
      let d = p.0 * m + c % m in
      let below : c % m < m = mod_below c m (some-run s goes) in
      let place : d % m ≡ c % m = mod-mul-add p.0 m (c % m) below in
      let over : d / m ≡ p.0 = div-mul-add p.0 m (c % m) below in
      let who : whose_turn s d ≡ whose_turn s c = ap (slice_get (runnable s)) place in
      let does : turn_changes code (d / m) s (whose_turn s d) ≡ turn_changes code (c / m) s (whose_turn s c) =
      ap (λ k. turn_changes code k s (whose_turn s d)) over ∙ ap (turn_changes code p.0 s) who ∙ sym p.2 in (
        p.0,
        p.1,
        sym (ap (λ cs. stepped code s cs (whose_turn s d)) does
            ∙ ap (stepped code s (turn_changes code (c / m) s (whose_turn s c))) who),
      )
