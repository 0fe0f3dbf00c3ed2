-- A collection keeps closed sets: the finalised objects that it queues join them.
-- For: `plain_collect`, golf_model/specs/Collections.antt; `Closed`, specs/Invariant.antt
-- By: induction over the lists of entries, of waits and of queued calls
use Rattle.std.proofs.Common.{◌≡◌, ℕ, Bool, true, false, not, List, [], ◌∷◌, ◌++◌, ◌⊎◌, inl, inr, refl, sym, ap, ◌∙◌}
use Rattle.std.proofs.Common.{subst}
use Rattle.std.proofs.lemmas.Bool.{or_left, not-true, both_ways}
use Rattle.golf_theory.specs.Membership.{In, Every, is_in}
use Rattle.golf_theory.specs.Maps.{Entry, only, keys}
use Rattle.golf_theory.proofs.Lists.{In-left, In-right, In-filter, Every-from, Every-weaker}
use Rattle.golf_theory.proofs.Tests.{is_in-from}
use Rattle.golf_theory.proofs.MapEntries.{Entry-only, Entry-keys}
use Rattle.golf_theory.proofs.MapKeys.{keys-only}
use Rattle.golf_theory.proofs.LeastLaws.{least_closed}
use Rattle.golf_data.specs.declared.value.Object.{Object}
use Rattle.golf_data.specs.declared.goroutine.Queued.{Queued}
use Rattle.golf_data.specs.declared.goroutine.Wait.{Wait}
use Rattle.golf_model.specs.Views.{GoroutineView}
use Rattle.golf_model.specs.Values.{value_refs, refs}
use Rattle.golf_model.specs.State.{State}
use Rattle.golf_model.specs.Waiters.{waits_of}
use Rattle.golf_model.specs.Refs.{object_refs, frames_refs, wait_refs, goroutine_refs, queue_refs, waited, refs_where}
use Rattle.golf_model.specs.Refs.{refs_if, goroutine_refs_where}
use Rattle.golf_model.specs.Reach.{reach, sources, is_near}
use Rattle.golf_model.specs.Collections.{queued, plain_collect}
use Rattle.golf_model_futures.specs.Invariant.{Closed, Queueing}

pub In-refs_if : (b : Bool) (o : ℕ) (xs : List ℕ) → b ≡ true → In o xs → In o (refs_if b xs)
In-refs_if true o xs t h = h
In-refs_if false o xs t h = cc

-- the references of an entry that passes are among those of all that pass
pub In-goroutine_refs_where : (test : ℕ → Bool) (es : List (ℕ × GoroutineView)) (g o : ℕ) (r : GoroutineView)
    → Entry es g r → test g ≡ true → In o (goroutine_refs r) → In o (goroutine_refs_where test es)
In-goroutine_refs_where test [] g o r h t i = absurd h
In-goroutine_refs_where test (e ∷ es) g o r (inl h) t i =
    In-left o (refs_if (test e.0) (goroutine_refs e.1)) _
    (In-refs_if (test e.0) o (goroutine_refs e.1) (ap test (sym h.0) ∙ t)
    (subst (λ z. In o (goroutine_refs z)) h.1 i))
In-goroutine_refs_where test (e ∷ es) g o r (inr h) t i =
    In-right o (refs_if (test e.0) (goroutine_refs e.1)) _ (In-goroutine_refs_where test es g o r h t i)

pub In-refs_where : (test : ℕ → Bool) (es : List (ℕ × Object)) (p o : ℕ) (x : Object) → Entry es p x → test p ≡ true
    → In o (object_refs x) → In o (refs_where test es)
In-refs_where test [] p o x h t i = absurd h
In-refs_where test (e ∷ es) p o x (inl h) t i =
    In-left o (refs_if (test e.0) (object_refs e.1)) _
    (In-refs_if (test e.0) o (object_refs e.1) (ap test (sym h.0) ∙ t) (subst (λ z. In o (object_refs z)) h.1 i))
In-refs_where test (e ∷ es) p o x (inr h) t i =
    In-right o (refs_if (test e.0) (object_refs e.1)) _ (In-refs_where test es p o x h t i)

pub waited-refs : (ws : List Wait) (o : ℕ) → In o (waited ws) → In o (wait_refs ws)
waited-refs [] o h = absurd h
waited-refs (w ∷ ws) o (inl e) = inl e
waited-refs (w ∷ ws) o (inr h) = inr (In-right o (value_refs w.value) (wait_refs ws) (waited-refs ws o h))

-- if the search begins is reached
pub reach-from : (s : State) (xs : List ℕ) (o : ℕ) → In o xs → In o (reach s xs)
unfolding reach
reach-from s xs o h = least_closed (is_near s xs) (xs ++ refs_where (λ p. true) s.objects) o (In-left o xs _ h)
    (or_left (is_in o xs) _ (is_in-from o xs h))

-- what a goroutine waits on is reached
pub waited-reached : (s : State) (g : ℕ) (r : GoroutineView) (o : ℕ) → Entry s.goroutines g r
    → In o (waited (waits_of r.mode)) → In o (reach s (sources s []))
waited-reached s g r o e w =
    reach-from s (sources s []) o (In-right o (refs s.globals) _ (In-right o (queue_refs s.queue) _
    (In-left o (goroutine_refs_where (λ h. not (is_in h [])) s.goroutines) _
    (In-goroutine_refs_where (λ h. not (is_in h [])) s.goroutines g o r e refl
    (In-right o (frames_refs r.frames) _ (waited-refs (waits_of r.mode) o w))))))

abbrev pub Joined : State → (ℕ → Type 0) → ℕ → Type 0
Joined s O o = O o ⊎ Queueing s o

pub queue-append : (P : ℕ → Type 0) (xs ys : List Queued) → Every P (queue_refs xs) → Every P (queue_refs ys)
    → Every P (queue_refs (xs ++ ys))
queue-append P [] ys a b = b
queue-append P (x ∷ xs) ys a b = (a.0, queue-append P xs ys a.1 b)

pub queue-keys : (P : ℕ → Type 0) (es : List (ℕ × ℕ)) → Every P (keys es) → Every P (queue_refs (queued es))
queue-keys P [] a = tt
queue-keys P (e ∷ es) a = (a.0, queue-keys P es a.1)

module _ (O G : ℕ → Type 0) (s : State) (c : Closed s O G) where
  wider : (os : List ℕ) → Every O os → Every (Joined s O) os
  wider os a = Every-weaker O (Joined s O) (λ x h. inl h) os a

  newly_queued : Every (Joined s O) (queue_refs
      (queued (only (λ o. not (is_in o (reach s (sources s [])))) s.finalisers)))
  newly_queued =
      queue-keys (Joined s O) _ (subst (Every (Joined s O))
      (sym (keys-only (λ o. not (is_in o (reach s (sources s [])))) s.finalisers))
      (Every-from (Joined s O) _ (λ o h.
      let r = In-filter (λ p. not (is_in p (reach s (sources s [])))) o (keys s.finalisers) h in
      inr (r.0, not-true (is_in o (reach s (sources s []))) r.1))))

  pub closed-collect : Closed (plain_collect s) (Joined s O) G
  closed-collect = record {
    globals = wider (refs s.globals) c.globals;
    queue = queue-append (Joined s O) s.queue _ (wider (queue_refs s.queue) c.queue) newly_queued;
    finalised = λ p f x i e. wider (object_refs x)
        (c.finalised p f x (Entry-only (λ o. is_in o (reach s (sources s []))) s.finalisers p f i).1 e);
    objects = λ p x i e. elim i [
      | inl a ↦ wider (object_refs x) (c.objects p x a e)
      | inr a ↦ let r = Entry-keys s.finalisers p a.0 in wider (object_refs x) (c.finalised p r.0 x r.1 e)
    ];
    goroutines = λ g r i e. wider (goroutine_refs r) (c.goroutines g r i e);
    running = c.running;
    awake = λ g r o e w i. elim i [
      | inl a ↦ c.awake g r o e w a
      | inr a ↦ absurd (both_ways (is_in o (reach s (sources s []))) a.1
          (is_in-from o (reach s (sources s [])) (waited-reached s g r o e w)))
    ];
    zero_in = c.zero_in;
    new_objects = λ o h. inl (c.new_objects o h);
    new_goroutines = c.new_goroutines;
  }
