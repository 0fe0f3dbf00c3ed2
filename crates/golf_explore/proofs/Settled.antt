-- Frame-local turns that follow a turn.
-- For: src/frame_local_turns.rt; `add`, src/successors.rt; `HasSettled` and `HasTakenAndSettled`,
-- specs/FrameLocalTurns.antt
-- By: induction over the list of numbers
use Rattle.std.proofs.Common.{◌≡◌, ℕ, true, ◌&&◌, List, [], ◌∷◌, ◌++◌, length, length-append, Option, Some, None}
use Rattle.std.proofs.Common.{refl, sym, ap, ◌∙◌, subst, arith, append-nil, append_assoc}
use Rattle.golf_theory.specs.Maps.{find}
use Rattle.golf_data.specs.declared.code.Code.{Code}
use Rattle.golf_data.specs.declared.goroutine.Mode.{Mode}
use Rattle.golf_model.specs.Views.{FrameView, GoroutineView}
use Rattle.golf_model.specs.State.{State, ending, start, is_running}
use Rattle.golf_model.specs.Turn.{whose_turn, step}
use Rattle.golf_model.specs.Futures.{Leads, Numbered}
use Rattle.golf_model_futures.proofs.Leading.{leads-numbered}
use Rattle.golf_explore_laws.specs.After.{silent, after, after_all}
use Rattle.golf_explore_laws.specs.Closed.{IsPlain}
use Rattle.golf_explore_laws.specs.Local.{IsLocal, IsLocalTurn, AreLocalTurns}
use Rattle.golf_explore_laws.proofs.LocalKeeps.{numbered-after, local-keeps, locals-keep}
use Rattle.golf_explore.specs.VisitLists.{TurnsHappen, GoesPlainly, IsTrail}
use Rattle.golf_explore.specs.FrameLocalTurns.{frames_are_local, goroutine_is_local, HasSettled, HasTakenAndSettled}
use Rattle.golf_explore.proofs.TurnLists.{all-append, goes-append, on-append, plainly-on}

-- ---- whether the next turn is frame-local

module _ (code : Code) where
  -- a goroutine that runs with these frames takes a frame-local turn
  frames-local : (r : GoroutineView) (fs : List FrameView) → r.mode ≡ Mode.Running → r.frames ≡ fs
      → frames_are_local code fs ≡ true → IsLocal code r
  frames-local r [] runs frames h = cc
  frames-local r (f ∷ fs) runs frames h =
      record { runs = runs; frame = f; callers = fs; frames = frames; local = h }

  mode-local : (r : GoroutineView) (m : Mode) → r.mode ≡ m → (is_running m && frames_are_local code r.frames) ≡ true
      → IsLocal code r
  mode-local r Mode.Running runs h = frames-local r r.frames runs refl h
  mode-local r (Mode.Blocked kind line waits ticket) runs h = cc

  goroutine-local : (m : Option GoroutineView) → goroutine_is_local code m ≡ true
      → (r : GoroutineView) × (m ≡ Some r) × IsLocal code r
  goroutine-local None h = cc
  goroutine-local (Some r) h = (r, refl, mode-local r r.mode refl h)

  pub turn-local : (s : State) (number g : ℕ) → whose_turn s number ≡ Some g
      → goroutine_is_local code (find g s.goroutines) ≡ true → IsLocalTurn code s number
  turn-local s number g whose h =
      let r = goroutine-local (find g s.goroutines) h in
      record { g = g; r = r.0; whose = whose; found = r.1; local = r.2 }

-- ---- frame-local turns one after another

module _ (code : Code) where
  local-append : (ns ms : List ℕ) (s : State) → AreLocalTurns code s ns → AreLocalTurns code (after_all code s ns) ms
      → AreLocalTurns code s (ns ++ ms)
  local-append [] ms s h k = k
  local-append (n ∷ ns) ms s h k = (h.0, local-append ns ms (after code s n) h.1 k)

  pub silent-all : (ns : List ℕ) (s : State) → silent s ≡ s → silent (after_all code s ns) ≡ after_all code s ns
  silent-all [] s h = h
  silent-all (n ∷ ns) s h = silent-all ns (after code s n) refl

  -- they begin in states without an ending, and reach plain states
  local-goes : (ns : List ℕ) (s : State) → Numbered s → AreLocalTurns code s ns → ending s ≡ None → s.finalisers ≡ []
      → GoesPlainly code s ns
  local-goes [] s ordered are goes none = tt
  local-goes (n ∷ ns) s ordered are goes none =
      let k = local-keeps code s n ordered are.0 in (
        goes,
        (λ on. k.1 ∙ none),
        local-goes ns (after code s n) (numbered-after code s n ordered) are.1 (k.0 ∙ goes) (k.1 ∙ none),
      )

  local-on : (ns : List ℕ) (s : State) → Numbered s → AreLocalTurns code s ns → ending s ≡ None → TurnsHappen code s ns
  local-on [] s ordered are goes = tt
  local-on (n ∷ ns) s ordered are goes = (
    goes,
    local-on ns (after code s n) (numbered-after code s n ordered) are.1
        ((local-keeps code s n ordered are.0).0 ∙ goes),
  )

  pub leads-after : (s : State) (n : ℕ) → Leads code s → ending s ≡ None → Leads code (after code s n)
  leads-after s n leads goes = Leads.Emptied (step code s n) (Leads.Turn s n leads goes)

  -- ---- a state that settles

  pub settled-none : (s : State) (ns : List ℕ) → ending s ≡ None → Leads code s → HasSettled code s s ns ns
  settled-none s ns goes leads =
      record { more = []; adds = sym (append-nil ns); local = tt; led = refl; goes = goes; leads = leads }

  settled-one : (s : State) (n : ℕ) (ns : List ℕ) → ending s ≡ None → Leads code s → IsLocalTurn code s n
      → HasSettled code s (after code s n) ns (ns ++ n ∷ [])
  settled-one s n ns goes leads is = record {
    more = n ∷ [];
    adds = refl;
    local = (is, tt);
    led = refl;
    goes = (local-keeps code s n (leads-numbered code s leads) is).0 ∙ goes;
    leads = leads-after s n leads goes;
  }

  pub settled-trans : (s t u : State) (before mid now : List ℕ) → HasSettled code s t before mid
      → HasSettled code t u mid now → HasSettled code s u before now
  settled-trans s t u before mid now p q = record {
    more = p.more ++ q.more;
    adds = q.adds ∙ ap (λ ns. ns ++ q.more) p.adds ∙ append_assoc before p.more q.more;
    local = local-append p.more q.more s p.local (subst (λ (v : State). AreLocalTurns code v q.more) p.led q.local);
    led = q.led ∙ ap (λ (v : State). after_all code v q.more) p.led ∙ sym (all-append code p.more q.more s);
    goes = q.goes;
    leads = q.leads;
  }

  -- by one frame-local turn more
  pub settled-more : (s t u : State) (n : ℕ) (before mid now : List ℕ) → HasSettled code s t before mid
      → IsLocalTurn code t n → u ≡ after code t n → now ≡ mid ++ n ∷ [] → HasSettled code s u before now
  settled-more s t u n before mid now p is next adds =
      settled-trans s t u before mid now p
      (subst (λ (v : State). HasSettled code t v mid now) (sym next)
      (subst (HasSettled code t (after code t n) mid) (sym adds) (settled-one t n mid p.goes p.leads is)))

  -- ---- a turn and frame-local ones after it

  module _ (s : State) (number : ℕ) (goes : ending s ≡ None) (leads : Leads code s) where
    abbrev u : State
    u = after code s number

    -- the program has ended after the turn
    pub taken-one : (t : State) (numbers : List ℕ) → t ≡ u → numbers ≡ number ∷ []
        → HasTakenAndSettled code s number t numbers
    taken-one t numbers is are = record {
      more = [];
      are = are;
      local = tt;
      led = is;
      goes_on = subst (TurnsHappen code s) (sym are) (goes, tt);
      goes = λ plain. subst (GoesPlainly code s) (sym are) (goes, subst IsPlain is plain, tt);
      leads = subst (Leads code) (sym is) (leads-after s number leads goes);
    }

    module _ (t : State) (numbers : List ℕ) (on : ending u ≡ None)
        (h : HasSettled code u t (number ∷ []) numbers) where
      ordered : Numbered u
      ordered = leads-numbered code u (leads-after s number leads goes)

      none-before : IsPlain t → u.finalisers ≡ []
      none-before plain = sym (ap (λ (v : State). v.finalisers) h.led ∙ (locals-keep code u h.more ordered h.local).1)
          ∙ plain h.goes

      pub taken-more : HasTakenAndSettled code s number t numbers
      taken-more = record {
        more = h.more;
        are = h.adds;
        local = h.local;
        led = h.led;
        goes_on = subst (TurnsHappen code s) (sym h.adds) (goes, local-on h.more u ordered h.local on);
        goes = λ plain. subst (GoesPlainly code s) (sym h.adds)
            (goes, (λ g. none-before plain), local-goes h.more u ordered h.local on (none-before plain));
        leads = h.leads;
      }

-- the turns of a path, and then these
pub trail-of : (code : Code) (path numbers : List ℕ) (number : ℕ) (t : State) → GoesPlainly code (start code) path
    → HasTakenAndSettled code (after_all code (start code) path) number t numbers → IsTrail code (path ++ numbers) t
trail-of code path numbers number t goes taken = record {
  led =
      taken.led
      ∙ sym (all-append code path numbers (start code)
      ∙ ap (after_all code (after_all code (start code) path)) taken.are);
  goes_on = on-append code path numbers (start code) (plainly-on code path (start code) goes) taken.goes_on;
  goes = λ plain. goes-append code path numbers (start code) goes (taken.goes plain);
  some =
      let a = length-append path numbers in let b = ap length taken.are in omega (arith, a, b);
}
