-- A turn of a sane state leads to a sane state.
-- For: `SaneVisits` and `settle_alone`, src/searched_visits.rt
-- By: the law of a turn; output is no part of what is claimed
use Rattle.std.proofs.Common.{◌≡◌, ℕ, zero, suc, List, [], ◌∷◌, ◌++◌, Option, Some, slice_get, sym, subst}
use Rattle.std.proofs.Common.{Result, Ok, Err, OnOk, OnErr}
use Rattle.std.proofs.Math.Logic.{∥∥₁_elim, ∥∥₁_map, ∥∥₁_prop}
use Rattle.std.specs.Coded.{Coded-set, coded_bool}
use Rattle.golf_theory.specs.Maps.{keys}
use Rattle.golf_theory.specs.Membership.{Every}
use Rattle.golf_theory.proofs.Lists.{Every-at, Every-from}
use Rattle.golf_theory.proofs.Tests.{In-from, is_in-from}
use Rattle.golf_data.specs.declared.code.Code.{Code}
use Rattle.golf_model.specs.State.{State, start}
use Rattle.golf_model.specs.Presence.{Present, IsWhole}
use Rattle.golf_model.specs.Turn.{step}
use Rattle.golf_model_futures.proofs.Presence.{sane-start, sane-step}
use Rattle.golf_explore_laws.specs.After.{silent, after}
use Rattle.golf_explore.specs.declared.visits.Came.{Came}
use Rattle.golf_explore.specs.declared.visits.Visit.{Visit}
use Rattle.golf_explore.specs.Sane.{IsSane}
use Rattle.golf_explore.specs.VisitLists.{states, HasPushed}

pub silent-sane : (s : State) → IsSane s → IsSane (silent s)
silent-sane s h = record {
  numbered = record {
    objects_rise = h.numbered.objects_rise;
    objects_below = h.numbered.objects_below;
    finalisers_rise = h.numbered.finalisers_rise;
    finalisers_below = h.numbered.finalisers_below;
    goroutines_rise = h.numbered.goroutines_rise;
    goroutines_below = h.numbered.goroutines_below;
    globals = h.numbered.globals;
    queue = h.numbered.queue;
    in_objects = h.numbered.in_objects;
    in_goroutines = h.numbered.in_goroutines;
  };
  whole = record {
    globals = h.whole.globals;
    queue = h.whole.queue;
    finalised = h.whole.finalised;
    objects = h.whole.objects;
    goroutines = h.whole.goroutines;
  };
}

pub start-sane : (code : Code) → IsSane (start code)
start-sane code = record { numbered = (sane-start code).numbered; whole = (sane-start code).whole }

pub after-sane : (code : Code) (s : State) (n : ℕ) → IsSane s → IsSane (after code s n)
after-sane code s n h =
    let t = sane-step code s n (record { numbered = h.numbered; whole = h.whole }) in
    silent-sane (step code s n) (record { numbered = t.numbered; whole = t.whole })

-- the state at a place of a list of sane states
pub sane-at : (ss : List State) (i : ℕ) (s : State) → Every IsSane ss → slice_get ss i ≡ Some s → IsSane s
sane-at [] i s h at = cc
sane-at (t ∷ ss) zero s h at = let e : t ≡ s = cc in subst IsSane e h.0
sane-at (t ∷ ss) (suc i) s h at = sane-at ss i s h.1 at

-- one visit more
sane-more : (vs : List Visit) (v : Visit) → Every IsSane (states vs) → IsSane v.state → Every IsSane (states (vs ++ v ∷ []))
sane-more [] v h one = (silent-sane v.state one, tt)
sane-more (w ∷ vs) v h one = (h.0, sane-more vs v h.1 one)

pub sane-pushed : (old new : List Visit) (s : State) (came : Option Came) → HasPushed old new s came
    → Every IsSane (states old) → IsSane s → Every IsSane (states new)
sane-pushed old new s came pushed h one = subst (λ vs. Every IsSane (states vs)) (sym pushed.1)
    (sane-more old pushed.0 h (subst IsSane (sym pushed.2) one))

-- ---- what is claimed of the list can be told of each state

-- Each member is there: whether a number is in a list has one proof, so a claim that hides its proof tells it.
present : (s : State) (os : List ℕ) → ∥ IsWhole s ∥₁ → (IsWhole s → Every (Present s) os) → Every (Present s) os
present s os w of = Every-from (Present s) os (λ o i. In-from o (keys s.objects)
    (∥∥₁_elim w (Coded-set coded_bool _ _) (λ h. is_in-from o (keys s.objects) (Every-at (Present s) os o (of h) i))))

pub whole-told : (s : State) → ∥ IsSane s ∥₁ → IsWhole s
whole-told s sane =
    let w = ∥∥₁_map sane (λ (h : IsSane s). h.whole) in
    record {
      globals = present s _ w (λ h. h.globals);
      queue = present s _ w (λ h. h.queue);
      finalised = λ o f e. In-from o (keys s.objects)
          (∥∥₁_elim w (Coded-set coded_bool _ _) (λ h. is_in-from o (keys s.objects) (h.finalised o f e)));
      objects = λ o x e. present s _ w (λ h. h.objects o x e);
      goroutines = λ g r e. present s _ w (λ h. h.goroutines g r e);
    }

pub sane-told : (ss : List State) (i : ℕ) (s : State) → ∥ Every IsSane ss ∥₁ → slice_get ss i ≡ Some s → ∥ IsSane s ∥₁
sane-told ss i s h at = ∥∥₁_map h (λ all. sane-at ss i s all at)

pub after-told : (code : Code) (s t : State) (n : ℕ) → t ≡ after code s n → ∥ IsSane s ∥₁ → ∥ IsSane t ∥₁
after-told code s t n is h = ∥∥₁_map h (λ sane. subst IsSane (sym is) (after-sane code s n sane))

pub pushed-told : (old new : List Visit) (s : State) (came : Option Came) → HasPushed old new s came
    → ∥ Every IsSane (states old) ∥₁ → ∥ IsSane s ∥₁ → ∥ Every IsSane (states new) ∥₁
pushed-told old new s came pushed h one = ∥∥₁_elim h ∥∥₁_prop
    (λ all. ∥∥₁_map one (λ sane. sane-pushed old new s came pushed all sane))

-- a visit was added, or the list is unchanged
pub either-told : {U E : Type 0} (old new : List Visit) (s : State) (came : Option Came) (result : Result U E)
    → OnOk result (HasPushed old new s came) → OnErr result (new ≡ old) → ∥ Every IsSane (states old) ∥₁
    → ∥ IsSane s ∥₁ → ∥ Every IsSane (states new) ∥₁
either-told old new s came (Ok u) ok err h one = pushed-told old new s came ok h one
either-told old new s came (Err e) ok err h one = subst (λ vs. ∥ Every IsSane (states vs) ∥₁) (sym err) h
