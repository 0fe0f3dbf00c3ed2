-- Parts of the law of alike states, and what is cleared after a turn.
-- For: `AlikeStatesStandFor`, specs/Laws.antt
-- By: cases of the mode
use Rattle.std.proofs.Common.{◌≡◌, ℕ, false, List, [], ◌∷◌, Option, Some, None, refl, sym, ap, ◌∙◌, subst, inl, inr}
use Rattle.std.proofs.Common.{◌⊎◌}
use Rattle.golf_theory.specs.Membership.{In}
use Rattle.golf_data.specs.declared.code.Code.{Code}
use Rattle.golf_data.specs.declared.goroutine.Ending.{Ending}
use Rattle.golf_data.specs.declared.goroutine.Mode.{Mode}
use Rattle.golf_model.specs.Views.{FrameView, GoroutineView}
use Rattle.golf_model.specs.State.{State, is_running}
use Rattle.golf_model.specs.Wakes.{released}
use Rattle.golf_model.specs.ClearedSlots.{clears, clears_in}
use Rattle.golf_explore_laws.specs.After.{silent}
use Rattle.golf_explore_laws.specs.StandIns.{kind_of}
use Rattle.golf_explore_laws.specs.Alike.{untimed, blank, nameless, IsAlike, AreAlike}
use Rattle.golf_explore_laws.proofs.Alike.Partners.{alike-back}
use Rattle.golf_explore_laws.proofs.Alike.Changes.{alike-others}
use Rattle.golf_explore_laws.proofs.Alike.ChangeLists.{AllSimple}

pub are-alike-back : (s t : State) → AreAlike s t → AreAlike t s
are-alike-back s t p = (alike-back s t p.0, p.2, p.1)

pub alike-plain : (s t : State) → AreAlike s t → t.finalisers ≡ [] → s.finalisers ≡ []
alike-plain s t p e = ap (λ (u : State). u.finalisers) p.0.1.others ∙ e

pub alike-silent : (s t : State) → IsAlike s t → IsAlike (silent s) (silent t)
alike-silent s t p = (
  p.0,
  alike-others p.0 s t p.1 (silent s) (silent t) refl refl refl refl refl refl
      (ap (λ (u : State). record u { output = [] }) p.1.others),
)

nameless-kind : (m : Option Ending) → kind_of (nameless m) ≡ kind_of m
nameless-kind None = refl
nameless-kind (Some Ending.Returned) = refl
nameless-kind (Some (Ending.Panicked kind goroutine line)) = refl
nameless-kind (Some Ending.Asleep) = refl

-- recorded endings are of one kind
pub alike-recorded : (s t : State) → IsAlike s t → kind_of t.recorded ≡ kind_of s.recorded
alike-recorded s t p = sym (nameless-kind t.recorded)
    ∙ sym (ap (λ (u : State). kind_of u.recorded) p.1.others) ∙ nameless-kind s.recorded

-- ---- clearing

runs-back : (m : Mode) → Mode.Running ≡ untimed m → m ≡ Mode.Running
runs-back Mode.Running e = refl
runs-back (Mode.Blocked kind line waits ticket) e = cc

pub same-view : (r q : GoroutineView) → r.mode ≡ Mode.Running → blank r ≡ blank q → r ≡ q
same-view r q on e =
    let other : q.mode ≡ Mode.Running =
    runs-back q.mode (sym (ap untimed on) ∙ ap (λ (u : GoroutineView). u.mode) e) in
    ap (λ m. record r { mode = m }) on ∙ ap released e ∙ ap (λ m. record q { mode = m }) (sym other)

module _ (code : Code) (ps : List (ℕ × ℕ)) (g h : ℕ) (i : In (g, h) ps) where
  running-same : (r : GoroutineView) → r.mode ≡ Mode.Running → (m : Mode) (fs : List FrameView)
      → AllSimple ps (clears_in code g r m fs) (clears_in code h r m fs)
  running-same r on Mode.Running [] = refl
  running-same r on Mode.Running (f ∷ fs) = (_, [], refl, (h, i, on, refl), refl)
  running-same r on (Mode.Blocked kind line waits ticket) fs = refl

  blocked-none : (k : ℕ) (r : GoroutineView) (m : Mode) (fs : List FrameView) → is_running m ≡ false
      → clears_in code k r m fs ≡ []
  blocked-none k r Mode.Running fs b = cc
  blocked-none k r (Mode.Blocked kind line waits ticket) fs b = refl

  still-blocked : (m n : Mode) → untimed m ≡ untimed n → is_running m ≡ false → is_running n ≡ false
  still-blocked m Mode.Running e b = cc (runs-back m (sym e), b)
  still-blocked m (Mode.Blocked kind line waits ticket) e b = refl

  mode-cases : (m : Mode) → (m ≡ Mode.Running) ⊎ (is_running m ≡ false)
  mode-cases Mode.Running = inl refl
  mode-cases (Mode.Blocked kind line waits ticket) = inr refl

  -- what is cleared of a goroutine and of its partner
  pub clears-same : (r q : GoroutineView) → blank r ≡ blank q
      → AllSimple ps (clears code g (Some r)) (clears code h (Some q))
  clears-same r q e = elim (mode-cases r.mode) [
    | inl on ↦ subst (λ (u : GoroutineView). AllSimple ps (clears code g (Some r)) (clears code h (Some u)))
        (same-view r q on e) (running-same r on r.mode r.frames)
    | inr b ↦ subst (λ cs. AllSimple ps cs (clears code h (Some q))) (sym (blocked-none g r r.mode r.frames b))
        (blocked-none h q q.mode q.frames
        (still-blocked r.mode q.mode (ap (λ (u : GoroutineView). u.mode) e) b))
  ]
