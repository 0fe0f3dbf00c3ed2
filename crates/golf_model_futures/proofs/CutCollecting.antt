-- A collection of a cut state is the collection, cut.
-- For: `plain_collect`, `cut`, golf_model/specs/Collections.antt
-- By: induction over the path by which an object is reached
use Rattle.std.proofs.Common.{◌≡◌, ℕ, Bool, true, not, List, [], ◌++◌, ◌⊎◌, inl, inr, refl, ap}
use Rattle.std.proofs.lemmas.Bool.{cases_Bool, not-false}
use Rattle.golf_theory.specs.Membership.{In, is_in}
use Rattle.golf_theory.specs.Maps.{Entry, only, keys}
use Rattle.golf_theory.proofs.Lists.{In-left, In-right, In-cases, Every-at}
use Rattle.golf_theory.proofs.Tests.{is_in-from, In-from, is_in-same}
use Rattle.golf_theory.proofs.MapEntries.{Entry-only, Entry-only_old, Entry-keys}
use Rattle.golf_theory.proofs.MapCuts.{only-same}
use Rattle.golf_theory.proofs.Derivations.{Reached-root, Reached-step, Reached-least, Reached-over}
use Rattle.golf_data.specs.declared.value.Object.{Object}
use Rattle.golf_data.specs.declared.goroutine.Queued.{Queued}
use Rattle.golf_model.specs.Views.{GoroutineView}
use Rattle.golf_model.specs.Values.{refs}
use Rattle.golf_model.specs.State.{State}
use Rattle.golf_model.specs.Refs.{object_refs, goroutine_refs, queue_refs, goroutine_refs_where, has_finaliser}
use Rattle.golf_model.specs.Reach.{RefersTo, Reach, reach, sources}
use Rattle.golf_model.specs.Collections.{queued, queue_outside, plain_collect, cut}
use Rattle.golf_model.specs.Futures.{Numbered}
use Rattle.golf_model.proofs.Agreeing.{reach-sound, reach-complete, refs_where-sound, goroutine_refs_where-sound}
use Rattle.golf_model_futures.proofs.Collecting.{In-goroutine_refs_where, In-refs_where}
use Rattle.golf_model_futures.proofs.Flowing.{Flow}
use Rattle.golf_model_futures.proofs.Apartness.{Lost, Gone, lost-refs, lost-step, Apart}
use Rattle.golf_model_futures.proofs.Removing.{GoneOk, stays_by}

-- two states that differ in finalisers and queue alone
parts : (t : State) (fs gs : List (ℕ × ℕ)) (qs rs : List Queued) → fs ≡ gs → qs ≡ rs
    → ◌≡◌ {A = State} (record t { finalisers = fs; queue = qs }) (record t { finalisers = gs; queue = rs })
parts t fs gs qs rs a b = λ i. record t { finalisers = a i; queue = b i }

-- what is queued depends on the finalised objects alone
pub queue_outside-same : (xs ys : List ℕ) (t : State) → ((o f : ℕ) → Entry t.finalisers o f → is_in o xs ≡ is_in o ys)
    → queue_outside xs t ≡ queue_outside ys t
queue_outside-same xs ys t h = parts t _ _ _ _ (only-same (λ o. is_in o xs) (λ o. is_in o ys) t.finalisers h)
    (ap (λ (fs : List (ℕ × ℕ)). t.queue ++ queued fs)
    (only-same (λ o. not (is_in o xs)) (λ o. not (is_in o ys)) t.finalisers (λ o f e. ap not (h o f e))))

-- if finalised objects are reached alike, the collections agree
pub cut_collect-by : (stays kept : ℕ → Bool) (t : State)
    → ((o f : ℕ) → Entry t.finalisers o f → is_in o (reach (cut stays kept t) (sources (cut stays kept t) [])) ≡ is_in o
    (reach t (sources t []))) → plain_collect (cut stays kept t) ≡ cut stays kept (plain_collect t)
cut_collect-by stays kept t h = queue_outside-same (reach (cut stays kept t) (sources (cut stays kept t) []))
    (reach t (sources t [])) (cut stays kept t) h

module _ (stays kept : ℕ → Bool) (t : State) where
  -- the sources of the cut state are sources
  sources-within : (o : ℕ) → In o (sources (cut stays kept t) []) → In o (sources t [])
  sources-within o h = elim (In-cases o (refs t.globals) _ h) [
    | inl a ↦ In-left o (refs t.globals) _ a
    | inr a ↦ In-right o (refs t.globals) _ (elim (In-cases o (queue_refs t.queue) _ a) [
      | inl b ↦ In-left o (queue_refs t.queue) _ b
      | inr b ↦ In-right o (queue_refs t.queue) _
          (elim (In-cases o (goroutine_refs_where (λ g. not (is_in g [])) (only stays t.goroutines)) _ b) [
            | inl c ↦
                let r = goroutine_refs_where-sound (λ g. not (is_in g [])) (only stays t.goroutines) o c in
                In-left o (goroutine_refs_where (λ g. not (is_in g [])) t.goroutines) _
                (In-goroutine_refs_where (λ g. not (is_in g [])) t.goroutines r.0 o r.1
                (Entry-only stays t.goroutines r.0 r.1 r.3).1 refl r.4)
            | inr c ↦
                let r = refs_where-sound (has_finaliser t) (only kept t.objects) o c in
                In-right o (goroutine_refs_where (λ g. not (is_in g [])) t.goroutines) _
                (In-refs_where (has_finaliser t) t.objects r.0 o r.1 (Entry-only kept t.objects r.0 r.1 r.3).1 r.2 r.4)
          ])
    ])
  ]

  pub reach-within : (o : ℕ) → In o (reach (cut stays kept t) (sources (cut stays kept t) []))
      → In o (reach t (sources t []))
  reach-within o h = reach-complete t (sources t []) o
      (Reached-over (λ p. In p (sources (cut stays kept t) [])) (RefersTo (cut stays kept t)) (λ p. In p (sources t []))
      (RefersTo t) (λ p. p)
      sources-within (λ q p a. (a.0, (Entry-only kept t.objects q a.0 a.1).1, a.2)) o
      (reach-sound (cut stays kept t) (sources (cut stays kept t) []) o h))

  -- a source of the cut state
  cut-global : (o : ℕ) → In o (refs t.globals) → In o (sources (cut stays kept t) [])
  cut-global o h = In-left o (refs t.globals) _ h

  cut-queue : (o : ℕ) → In o (queue_refs t.queue) → In o (sources (cut stays kept t) [])
  cut-queue o h = In-right o (refs t.globals) _ (In-left o (queue_refs t.queue) _ h)

  cut-goroutine : (o g : ℕ) (r : GoroutineView) → Entry t.goroutines g r → stays g ≡ true → In o (goroutine_refs r)
      → In o (sources (cut stays kept t) [])
  cut-goroutine o g r e s i = In-right o (refs t.globals) _ (In-right o (queue_refs t.queue) _
      (In-left o (goroutine_refs_where (λ h. not (is_in h [])) (only stays t.goroutines)) _
      (In-goroutine_refs_where (λ h. not (is_in h [])) (only stays t.goroutines) g o r
      (Entry-only_old stays t.goroutines g r s e) refl i)))

  cut-finalised : (o p : ℕ) (x : Object) → In p (keys t.finalisers) → Entry t.objects p x → kept p ≡ true
      → In o (object_refs x) → In o (sources (cut stays kept t) [])
  cut-finalised o p x k e s i = In-right o (refs t.globals) _ (In-right o (queue_refs t.queue) _
      (In-right o (goroutine_refs_where (λ h. not (is_in h [])) (only stays t.goroutines)) _
      (In-refs_where (has_finaliser t) (only kept t.objects) p o x (Entry-only_old kept t.objects p x s e)
      (is_in-from p (keys t.finalisers) k) i)))

-- if the code sets finalisers
module _ (s : State) (n : Numbered s) (gone : List ℕ) (ok : GoneOk s true gone) (kept : ℕ → Bool) (t : State)
    (O : ℕ → Type 0)
    (f : Flow (λ o. kept o ≡ true) (λ g. stays_by gone g ≡ true) t) (a : Apart s n gone ok O t) where
  -- reached in the cut state and kept, or lost
  abbrev There : ℕ → Type 0
  There o = (Reach (cut (stays_by gone) kept t) (sources (cut (stays_by gone) kept t) []) o × (kept o ≡ true))
      ⊎ Lost s n gone ok o

  root : (o : ℕ) → In o (sources (cut (stays_by gone) kept t) []) → kept o ≡ true → There o
  root o h k = inl (
    Reached-root (λ p. In p (sources (cut (stays_by gone) kept t) []))
        (RefersTo (cut (stays_by gone) kept t)) o h,
    k,
  )

  there-goroutine : (o g : ℕ) (r : GoroutineView) → Entry t.goroutines g r → In o (goroutine_refs r) → There o
  there-goroutine o g r e i = elim (cases_Bool (stays_by gone g)) [
    | inl m ↦ root o (cut-goroutine (stays_by gone) kept t o g r e m i)
        (Every-at (λ p. kept p ≡ true) (goroutine_refs r) o (f.goroutines g r m e) i)
    | inr m ↦ let h : Gone s n gone ok g =
        In-from g gone (not-false (is_in g gone) m) in inr (lost-refs s n gone ok g o r h (a.goroutines g r h e) i)
  ]

  there-source : (o : ℕ) → In o (sources t []) → There o
  there-source o h = elim (In-cases o (refs t.globals) _ h) [
    | inl b ↦ root o (cut-global (stays_by gone) kept t o b)
        (Every-at (λ p. kept p ≡ true) (refs t.globals) o f.globals b)
    | inr b ↦ elim (In-cases o (queue_refs t.queue) _ b) [
      | inl c ↦ root o (cut-queue (stays_by gone) kept t o c)
          (Every-at (λ p. kept p ≡ true) (queue_refs t.queue) o f.queue c)
      | inr c ↦ elim (In-cases o (goroutine_refs_where (λ g. not (is_in g [])) t.goroutines) _ c) [
        | inl d ↦ let r = goroutine_refs_where-sound
            (λ g. not (is_in g [])) t.goroutines o d in there-goroutine o r.0 r.1 r.3 r.4
        | inr d ↦
            let r = refs_where-sound (has_finaliser t) t.objects o d in
            let k = In-from r.0 (keys t.finalisers) r.2 in
            let e = Entry-keys t.finalisers r.0 k in
            let m = f.finalised r.0 e.0 e.1 in
            root o (cut-finalised (stays_by gone) kept t o r.0 r.1 k r.3 m r.4)
            (Every-at (λ p. kept p ≡ true) (object_refs r.1) o (f.objects r.0 r.1 m r.3) r.4)
      ]
    ]
  ]

  there-step : (q o : ℕ) → There q → RefersTo t q o → There o
  there-step q o (inl h) l = inl (
    Reached-step (λ p. In p (sources (cut (stays_by gone) kept t) [])) (RefersTo (cut (stays_by gone) kept t)) q o h.0
        (l.0, Entry-only_old kept t.objects q l.0 h.1 l.1, l.2),
    Every-at (λ p. kept p ≡ true) (object_refs l.0) o (f.objects q l.0 h.1 l.1) l.2,
  )
  there-step q o (inr h) l = inr (lost-step s n gone ok q o l.0 h (a.objects q l.0 h l.1) l.2)

  -- a finalised object that is reached is reached in the cut state
  finalised-there : (o k : ℕ) → Entry t.finalisers o k → There o
      → In o (reach (cut (stays_by gone) kept t) (sources (cut (stays_by gone) kept t) []))
  finalised-there o k e (inl h) = reach-complete (cut (stays_by gone) kept t)
      (sources (cut (stays_by gone) kept t) []) o h.0
  finalised-there o k e (inr l) = absurd (a.unfinalised o k l e)

  pub cut_collect : plain_collect (cut (stays_by gone) kept t) ≡ cut (stays_by gone) kept (plain_collect t)
  cut_collect = cut_collect-by (stays_by gone) kept t
      (λ o k e. is_in-same o _ _ (reach-within (stays_by gone) kept t o)
      (λ h. finalised-there o k e (Reached-least (λ p. In p (sources t [])) (RefersTo t) There there-source there-step o
      (reach-sound t (sources t []) o h))))
