-- In every state that moves lead to, references are to objects that are there, and goroutines are in order.
-- For: `leads_whole`, `leads_orderly` and `order_is_kept`, src/lib.rt
-- By: induction over the moves that lead to the state
use Rattle.std.proofs.Common.{◌≡◌, ℕ, Bool, true, not, List, [], ◌∷◌, Some, inl, inr, refl, ap, ◌∙◌}
use Rattle.golf_theory.specs.Maps.{Entry, find, only}
use Rattle.golf_theory.specs.Membership.{In, Every, is_in}
use Rattle.golf_theory.proofs.Lists.{In-right, Every-at, Every-from}
use Rattle.golf_theory.proofs.MapEntries.{Entry-find, Entry-keys, Entry-only, Entry-Every}
use Rattle.golf_theory.proofs.MapFinds.{find-only}
use Rattle.golf_theory.proofs.Tests.{is_in-out}
use Rattle.golf_data.specs.declared.value.Object.{Object}
use Rattle.golf_data.specs.declared.code.Code.{Code}
use Rattle.golf_data.specs.declared.goroutine.Wait.{Wait}
use Rattle.golf_model.specs.Views.{GoroutineView}
use Rattle.golf_model.specs.Values.{value_refs, reference}
use Rattle.golf_model.specs.State.{State, start, is_running, first_goroutines}
use Rattle.golf_model.specs.Waiters.{waits_of}
use Rattle.golf_model.specs.Refs.{wait_refs}
use Rattle.golf_model.specs.Collections.{removed, retained, real_collect, sets_finalisers}
use Rattle.golf_model.specs.Futures.{Numbered, Leads}
use Rattle.golf_model.specs.Presence.{Present, IsWhole}
use Rattle.golf_model_futures.proofs.Leading.{leads-numbered}
use Rattle.golf_model_futures.proofs.Presence.{sane-start, sane-step}
use Rattle.golf_model_futures.proofs.RefLaws.{goroutine-waits}
use Rattle.golf_model_futures.proofs.Removing.{gone-dead}
use Rattle.golf_model_futures.specs.Orderly.{IsBlocked, HasMutex, IsOrderly}
use Rattle.golf_model_futures.proofs.FinaliserGoroutine.{lives}
use Rattle.golf_model_futures.proofs.Keeping.{order-only, order-step}
use Rattle.golf_model_futures.proofs.Whole.{whole-real}

-- what is waited on is a reference
waited-ref : (ws : List Wait) (u : Wait) → In u ws → In u.object.0 (wait_refs ws)
waited-ref [] u i = absurd i
waited-ref (w ∷ ws) u (inl e) = inl (ap (λ (z : Wait). z.object.0) e)
waited-ref (w ∷ ws) u (inr i) = inr (In-right u.object.0 (value_refs w.value) (wait_refs ws) (waited-ref ws u i))

pub leads-whole : (code : Code) (s : State) → Leads code s → IsWhole s
leads-whole code s Leads.Start = (sane-start code).whole
leads-whole code s (Leads.Turn t k l e) =
    (sane-step code t k (record { numbered = leads-numbered code t l; whole = leads-whole code t l })).whole
leads-whole code s (Leads.Collection t recover l e) =
    whole-real t recover (sets_finalisers code) (leads-numbered code t l) (leads-whole code t l)
leads-whole code s (Leads.Emptied t l) =
    let w = leads-whole code t l in record {
      globals = w.globals;
      queue = w.queue;
      finalised = w.finalised;
      objects = w.objects;
      goroutines = w.goroutines;
    }

-- what a collection leaves is as it was
left-found : (s : State) (recover may_set : Bool) → Numbered s → (o : ℕ) (x : Object) → find o s.objects ≡ Some x
    → Present (real_collect s recover may_set) o → find o (real_collect s recover may_set).objects ≡ Some x
left-found s recover may_set n o x e i =
    let kept : ℕ → Bool = λ p. is_in p (retained s (removed s recover may_set)) in
    let r = Entry-keys (only kept s.objects) o i in
    find-only kept s.objects o (Entry-only kept s.objects o r.0 r.1).0 ∙ e

-- a collection does not remove goroutine 0, and a condition that is waited on keeps its mutex
module _ (s : State) (recover may_set : Bool) (n : Numbered s) (w : IsWhole s) (h : IsOrderly s) where
  abbrev stays : ℕ → Bool
  stays g = not (is_in g (removed s recover may_set))

  left-mutex : (v : IsWhole (real_collect s recover may_set)) (g : ℕ) (r : GoroutineView)
      → Entry (only stays s.goroutines) g r → (u : Wait) → In u (waits_of r.mode) → HasMutex s.objects u
      → HasMutex (real_collect s recover may_set).objects u
  left-mutex v g r e u i m = λ side.
      let a = m side in
      let there : Present (real_collect s recover may_set) u.object.0 =
      Every-at (Present (real_collect s recover may_set)) (wait_refs (waits_of r.mode)) u.object.0
      (goroutine-waits (Present (real_collect s recover may_set)) r (v.goroutines g r e))
      (waited-ref (waits_of r.mode) u i) in
      let c = left-found s recover may_set n u.object.0 (Object.Cond (reference a.0)) a.2 there in
      let l = left-found s recover may_set n a.0 (Object.Mutex a.1) a.3
      (v.objects u.object.0 (Object.Cond (reference a.0))
      (Entry-find u.object.0 (real_collect s recover may_set).objects (Object.Cond (reference a.0)) c)).0 in
      (a.0, a.1, c, l)

  pub order-real : IsOrderly (real_collect s recover may_set)
  order-real = record {
    goroutines = order-only s.goroutines s.next_ticket h.goroutines stays
        (ap not (is_in-out 0 (removed s recover may_set) (λ i. (gone-dead s recover may_set 0 i).2 (lives s))));
    conditions = λ g r e.
        let b = h.conditions g r (Entry-only stays s.goroutines g r e).1 in
        Every-from (HasMutex (real_collect s recover may_set).objects) (waits_of r.mode)
        (λ u i. left-mutex (whole-real s recover may_set n w) g r e u i
        (Every-at (HasMutex s.objects) (waits_of r.mode) u b i));
  }

-- nobody is blocked in the opening state
nobody-blocked : (code : Code) (g : ℕ) (r : GoroutineView) → IsBlocked (first_goroutines code) g r → ⊥
nobody-blocked code g r b = elim b.entry [
  | inl a ↦ (let t : is_running r.mode ≡ true = ap
      (λ (z : GoroutineView). is_running z.mode) a.1 in let f = b.blocked in cc)
  | inr c ↦ elim c [
    | inl a ↦ (let t : is_running r.mode ≡ true = ap
        (λ (z : GoroutineView). is_running z.mode) a.1 in let f = b.blocked in cc)
    | inr a ↦ a
  ]
]

order-start : (code : Code) → IsOrderly (start code)
order-start code = record {
  goroutines = record {
    finaliser_goroutine = inl refl;
    frames = λ g r b. absurd (nobody-blocked code g r b);
    below = λ g r b. absurd (nobody-blocked code g r b);
    different = λ g h q r a b e. absurd (nobody-blocked code g q a);
  };
  conditions = λ g r e. Entry-Every (λ k q. Every (HasMutex []) (waits_of q.mode)) (first_goroutines code)
      (tt, (tt, tt)) g r e;
}

pub leads-orderly : (code : Code) (s : State) → Leads code s → IsOrderly s
leads-orderly code s Leads.Start = order-start code
leads-orderly code s (Leads.Turn t k l e) =
    order-step code t k (leads-numbered code t l).goroutines_rise (leads-orderly code t l)
leads-orderly code s (Leads.Collection t recover l e) =
    order-real t recover (sets_finalisers code) (leads-numbered code t l) (leads-whole code t l)
    (leads-orderly code t l)
leads-orderly code s (Leads.Emptied t l) = let h =
    leads-orderly code t l in record { goroutines = h.goroutines; conditions = h.conditions }
