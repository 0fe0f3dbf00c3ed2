-- What a collection removes and frees: the removed goroutines are dead, and all that is live is retained.
-- For: `removed`, `retained`, golf_model/specs/Collections.antt
-- By: induction over the path by which a node is live
use Rattle.std.proofs.Common.{◌≡◌, ℕ, ◌+◌, ◌<◌, ◌≤◌, Bool, true, false, not, ◌||◌, List, inl, inr, refl, sym, arith}
use Rattle.std.proofs.Common.{nat_lt}
use Rattle.std.proofs.lemmas.Bool.{or_left, or_right, or_cases, not-true, not_from_false, both_ways, lt-ltb, le-ltb}
use Rattle.std.proofs.lemmas.Bool.{ltb-true, cases_Bool}
use Rattle.golf_theory.specs.Membership.{In, Every, is_in}
use Rattle.golf_theory.specs.Maps.{Entry, find, keys}
use Rattle.golf_theory.proofs.Lists.{In-left, In-right, In-cases, In-filter, Every-from}
use Rattle.golf_theory.proofs.Tests.{is_in-from, In-from, is_in-out, any_of-from}
use Rattle.golf_theory.proofs.MapEntries.{In-keys}
use Rattle.golf_theory.proofs.MapFinds.{Entry-below}
use Rattle.golf_theory.proofs.MapCuts.{only-same}
use Rattle.golf_theory.proofs.Derivations.{Reached-root, Reached-step, Reached-least}
use Rattle.golf_data.specs.declared.value.Object.{Object}
use Rattle.golf_model.specs.Views.{GoroutineView}
use Rattle.golf_model.specs.Values.{refs}
use Rattle.golf_model.specs.State.{State}
use Rattle.golf_model.specs.Refs.{object_refs, goroutine_refs, queue_refs, goroutine_refs_where, has_finaliser}
use Rattle.golf_model.specs.Refs.{refs_of_goroutine}
use Rattle.golf_model.specs.Reach.{RefersTo, reach, sources}
use Rattle.golf_model.specs.LiveSet.{Node, Live, LiveRoot, LiveStep, dead}
use Rattle.golf_model.specs.Collections.{plain_collect, prevents_removal, keeps, removed, retained, cut}
use Rattle.golf_model.specs.Futures.{Numbered}
use Rattle.golf_model.proofs.Agreeing.{reach-sound, reach-complete, dead-sound}
use Rattle.golf_model_futures.proofs.Collecting.{In-goroutine_refs_where, In-refs_where, reach-from, Joined}
use Rattle.golf_model_futures.proofs.Cutting.{parts}
use Rattle.golf_model_futures.proofs.DeadStill.{LiveObject, LiveGoroutine}
use Rattle.golf_model_futures.proofs.Flowing.{Flow}

-- what a reached object refers to is reached
pub reach-step : (s : State) (xs : List ℕ) (p o : ℕ) (x : Object) → In p (reach s xs) → Entry s.objects p x
    → In o (object_refs x) → In o (reach s xs)
reach-step s xs p o x h e i = reach-complete s xs o
    (Reached-step (λ q. In q xs) (RefersTo s) p o (reach-sound s xs p h) (x, e, i))

-- the tests of a collection that removes these goroutines: who stays, and which objects are kept
abbrev pub stays_by : List ℕ → ℕ → Bool
stays_by gone g = not (is_in g gone)

abbrev pub kept_by : State → List ℕ → ℕ → Bool
kept_by s gone o = is_in o (retained s gone) || nat_lt s.last_object o

module _ (s : State) (recover sets_finalisers : Bool) where
  gone-unkept : (b : Bool) (g : ℕ) → In g (removed s b sets_finalisers) → In g (dead s)
      × (keeps s sets_finalisers g ≡ false)
  gone-unkept true g h = let r = In-filter (λ k. not (keeps s sets_finalisers k)) g
      (dead s) h in (r.0, not-true (keeps s sets_finalisers g) r.1)
  gone-unkept false g h = absurd h

  -- a removed goroutine is there, and is not live
  pub gone-dead : (g : ℕ) → In g (removed s recover sets_finalisers) → (r : GoroutineView) × Entry s.goroutines g r
      × (Live s (Node.AGoroutine g) → ⊥)
  gone-dead g h = let d = dead-sound s g (gone-unkept recover g h).0 in (d.0, d.1, d.3)

  -- nothing that it reaches is finalised, and nothing is live if the code sets finalisers
  pub gone-prevents_removal : (g o : ℕ) → In g (removed s recover sets_finalisers)
      → In o (reach s (refs_of_goroutine (find g s.goroutines))) → prevents_removal s sets_finalisers o ≡ false
  gone-prevents_removal g o h i = elim (cases_Bool (prevents_removal s sets_finalisers o)) [
    | inl t ↦ absurd (both_ways (keeps s sets_finalisers g) (gone-unkept recover g h).1
        (any_of-from (prevents_removal s sets_finalisers) (reach s (refs_of_goroutine (find g s.goroutines))) o i t))
    | inr f ↦ f
  ]

-- these goroutines are there and not live; nothing that they reach is finalised, and nothing is live if the code sets
-- finalisers
pub record GoneOk (s : State) (sets_finalisers : Bool) (gone : List ℕ) : Type 0 where
  pub dead : (g : ℕ) → In g gone → (r : GoroutineView) × Entry s.goroutines g r × (Live s (Node.AGoroutine g) → ⊥)
  pub barred : (g o : ℕ) → In g gone → In o (reach s (refs_of_goroutine (find g s.goroutines)))
      → prevents_removal s sets_finalisers o ≡ false

pub removed-ok : (s : State) (recover sets_finalisers : Bool)
    → GoneOk s sets_finalisers (removed s recover sets_finalisers)
removed-ok s recover sets_finalisers = record {
  dead = gone-dead s recover sets_finalisers;
  barred = gone-prevents_removal s recover sets_finalisers;
}

module _ (s : State) (n : Numbered s) (gone : List ℕ)
    (dead_all : (g : ℕ) → In g gone → (r : GoroutineView) × Entry s.goroutines g r
    × (Live s (Node.AGoroutine g) → ⊥)) where
  pub stays-live : (g : ℕ) → Live s (Node.AGoroutine g) → stays_by gone g ≡ true
  stays-live g l = not_from_false (is_in g gone) (is_in-out g gone (λ h. (dead_all g h).2 l))

  pub stays-fresh : (g : ℕ) → s.next_goroutine ≤ g → stays_by gone g ≡ true
  stays-fresh g l = not_from_false (is_in g gone)
      (is_in-out g gone (λ h. let d = dead_all g h in let b = Entry-below s.next_goroutine s.goroutines g d.0
      n.goroutines_below d.1 in omega arith))

  pub kept-retained : (o : ℕ) → In o (retained s gone) → kept_by s gone o ≡ true
  kept-retained o h = or_left (is_in o (retained s gone)) _ (is_in-from o (retained s gone) h)

  pub kept-fresh : (o : ℕ) → s.last_object < o → kept_by s gone o ≡ true
  kept-fresh o l = or_right (is_in o (retained s gone)) _ (lt-ltb s.last_object o l)

  -- where the search for what is retained begins
  from_sources : (o : ℕ) → In o (sources s gone) → In o (reach s (sources s gone))
  from_sources o h = reach-from s (sources s gone) o h

  pub source-global : (o : ℕ) → In o (refs s.globals) → In o (sources s gone)
  source-global o h = In-left o (refs s.globals) _ h

  pub source-queue : (o : ℕ) → In o (queue_refs s.queue) → In o (sources s gone)
  source-queue o h = In-right o (refs s.globals) _ (In-left o (queue_refs s.queue) _ h)

  pub source-goroutine : (o g : ℕ) (r : GoroutineView) → Entry s.goroutines g r → stays_by gone g ≡ true
      → In o (goroutine_refs r) → In o (sources s gone)
  source-goroutine o g r e t h = In-right o (refs s.globals) _ (In-right o (queue_refs s.queue) _
      (In-left o (goroutine_refs_where (stays_by gone) s.goroutines) _
      (In-goroutine_refs_where (stays_by gone) s.goroutines g o r e t h)))

  pub source-finalised : (o p : ℕ) (x : Object) → In p (keys s.finalisers) → Entry s.objects p x → In o (object_refs x)
      → In o (sources s gone)
  source-finalised o p x k e h = In-right o (refs s.globals) _ (In-right o (queue_refs s.queue) _
      (In-right o (goroutine_refs_where (stays_by gone) s.goroutines) _
      (In-refs_where (has_finaliser s) s.objects p o x e (is_in-from p (keys s.finalisers) k) h)))

  -- live, and reached if it is an object
  abbrev Found : Node → Type 0
  Found (Node.AnObject o) = In o (reach s (sources s gone))
  Found (Node.AGoroutine g) = Unit {0}

  found_root : (x : Node) → LiveRoot s x → Found x
  found_root _ (LiveRoot.Global o i) = from_sources o (source-global o i)
  found_root _ (LiveRoot.InQueue o i) = from_sources o (source-queue o i)
  found_root _ (LiveRoot.InFinalised o p x k e i) = from_sources o (source-finalised o p x k e i)
  found_root _ (LiveRoot.Running g r e t) = tt
  found_root _ LiveRoot.FinaliserGoroutine = tt

  found_step : (q x : Node) → Live s q → Found q → LiveStep s q x → Found x
  found_step _ _ l f (LiveStep.InObject p o x e i) = reach-step s (sources s gone) p o x f e i
  found_step _ _ l f (LiveStep.InGoroutine g o r e i) = from_sources o (source-goroutine o g r e (stays-live g l) i)
  found_step _ _ l f (LiveStep.Awakened o g r e i) = tt

  live-found : (x : Node) → Live s x → Live s x × Found x
  live-found x l = Reached-least (LiveRoot s) (LiveStep s) (λ y. Live s y × Found y)
      (λ y r. (Reached-root (LiveRoot s) (LiveStep s) y r, found_root y r))
      (λ q y h t. (Reached-step (LiveRoot s) (LiveStep s) q y h.0 t, found_step q y h.0 h.1 t)) x l

  -- all that is live is retained
  pub live-retained : (o : ℕ) → Live s (Node.AnObject o) → In o (retained s gone)
  live-retained o l = In-left o (reach s (sources s gone)) _ (live-found (Node.AnObject o) l).1

  finalised-retained : (o : ℕ) → In o (keys s.finalisers) → In o (retained s gone)
  finalised-retained o h = In-right o (reach s (sources s gone)) _ h

  -- the closed sets of the state after the collection are within what it leaves
  pub live-kept : (o : ℕ) → Joined s (LiveObject s) o → kept_by s gone o ≡ true
  live-kept o (inl (inl l)) = kept-retained o (live-retained o l)
  live-kept o (inl (inr f)) = kept-fresh o f
  live-kept o (inr q) = kept-retained o (finalised-retained o q.0)

  pub live-stays : (g : ℕ) → LiveGoroutine s g → stays_by gone g ≡ true
  live-stays g (inl l) = stays-live g l
  live-stays g (inr f) = stays-fresh g f

  -- what is kept refers to what is kept
  kept-each : (xs : List ℕ) → ((o : ℕ) → In o xs → In o (sources s gone)) → Every (λ o. kept_by s gone o ≡ true) xs
  kept-each xs h = Every-from (λ o. kept_by s gone o ≡ true) xs
      (λ o i. kept-retained o (In-left o (reach s (sources s gone)) _ (from_sources o (h o i))))

  kept-refs : (p : ℕ) (x : Object) → kept_by s gone p ≡ true → Entry s.objects p x
      → Every (λ o. kept_by s gone o ≡ true) (object_refs x)
  kept-refs p x t e = elim (or_cases (is_in p (retained s gone)) (nat_lt s.last_object p) t) [
    | inl a ↦ elim (In-cases p (reach s (sources s gone)) (keys s.finalisers) (In-from p (retained s gone) a)) [
      | inl b ↦ Every-from (λ o. kept_by s gone o ≡ true) (object_refs x)
          (λ o i. kept-retained o (In-left o (reach s (sources s gone)) _ (reach-step s (sources s gone) p o x b e i)))
      | inr b ↦ kept-each (object_refs x) (λ o i. source-finalised o p x b e i)
    ]
    | inr a ↦ let l = ltb-true s.last_object p a in let b =
        Entry-below (s.last_object + 1) s.objects p x n.objects_below e in absurd (omega arith)
  ]

  pub flow-kept : Flow (λ o. kept_by s gone o ≡ true) (λ g. stays_by gone g ≡ true) s
  flow-kept = record {
    globals = kept-each (refs s.globals) source-global;
    queue = kept-each (queue_refs s.queue) source-queue;
    finalised = λ p f e. kept-retained p (finalised-retained p (In-keys s.finalisers p f e));
    objects = kept-refs;
    goroutines = λ g r t e. kept-each (goroutine_refs r) (λ o i. source-goroutine o g r e t i);
    new_objects = kept-fresh;
    new_goroutines = stays-fresh;
  }

  or-false : (a b : Bool) → b ≡ false → a ≡ (a || b)
  or-false true b e = refl
  or-false false b e = sym e

  -- the real collection is the plain one, cut
  pub collect-cut : cut (stays_by gone) (λ o. is_in o (retained s gone)) (plain_collect s) ≡ cut (stays_by gone)
      (kept_by s gone) (plain_collect s)
  collect-cut = parts (plain_collect s) _ _ _ _
      (only-same (λ o. is_in o (retained s gone)) (kept_by s gone) s.objects
      (λ p x e. let b = Entry-below (s.last_object + 1) s.objects p x n.objects_below e in or-false
      (is_in p (retained s gone)) (nat_lt s.last_object p) (le-ltb s.last_object p (omega arith)))) refl
