-- A code that jumps to and fro: of its two states one is enough, because a frame-local turn leads back to it.
-- For: `SettlesIn`, `IsClosed`, specs/Closed.antt; the laws of closed lists, specs/Laws.antt
-- By: computing its two turns
use Rattle.std.proofs.Common.{◌≡◌, List, [], ◌∷◌, inl, inr, refl, sym, subst, arith}
use Rattle.golf_data.specs.declared.code.Code.{Code}
use Rattle.golf_data.specs.declared.code.Instr.{Instr}
use Rattle.golf_model.specs.State.{State, start}
use Rattle.golf_model.specs.LiveSet.{dead, live_list}
use Rattle.golf_model.proofs.Examples.Writing.{straight}
use Rattle.golf_explore_laws.specs.Local.{IsLocalTurn}
use Rattle.golf_explore_laws.specs.Closed.{after_turn, IsClosed, NoneDead}
use Rattle.golf_explore_laws.specs.Laws.{NeverLeaks}
use Rattle.golf_explore_laws.proofs.MainLaws.{closed_lists_never_leak}
use Rattle.golf_explore_laws.proofs.Examples.Tables.{closed-by}

abbrev swinging : Code
swinging = straight (Instr.Jump 1 ∷ Instr.Jump 0 ∷ [])

-- the state at the second jump is not listed
abbrev visited : List State
visited = start swinging ∷ []

abbrev away : State
away = after_turn swinging (start swinging) 0 0

back : IsLocalTurn swinging away 0
back = record {
  g = 1;
  r = _;
  whose = refl;
  found = refl;
  local = record {
    runs = refl;
    frame = _;
    callers = [];
    frames = refl;
    local = refl;
  };
}

closed : IsClosed swinging visited
closed =
    closed-by swinging visited (inl refl) (
      inr (refl, (0 ∷ []) ∷ [], (((0 ∷ [], (back, tt), refl), omega arith), omega arith)),
      tt,
    )

none-dead : NoneDead visited
unfolding live_list
none-dead s (inl e) goes = subst (λ (t : State). dead t ≡ []) (sym e) refl
none-dead s (inr h) goes = absurd h

pub swinging_never_leaks : NeverLeaks swinging
swinging_never_leaks = closed_lists_never_leak swinging visited closed none-dead
