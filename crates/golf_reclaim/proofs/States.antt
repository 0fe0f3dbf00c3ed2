-- The state after a collection, from what was found.
-- For: `collect`, src/collection.rt; `real_collect`, golf_model/specs/Collections.antt
-- By: induction over the list of entries
use Rattle.std.proofs.Common.{◌≡◌, ℕ, Bool, true, not, ◌&&◌, List, [], ◌∷◌, map, filter, ◌⊎◌, inl, inr}
use Rattle.std.proofs.Common.{◌++◌, refl, ap}
use Rattle.std.proofs.lemmas.Bool.{or_parts, both_ways, cases_Bool, not-false}
use Rattle.std.specs.Prelude.{is_some}
use Rattle.golf_theory.specs.Membership.{In, is_in}
use Rattle.golf_theory.specs.Maps.{find, keys}
use Rattle.golf_theory.proofs.Lists.{In-left, In-right, In-cases}
use Rattle.golf_theory.proofs.Tests.{is_in-from, In-from, is_in-same}
use Rattle.golf_theory.proofs.MapEntries.{In-keys}
use Rattle.golf_theory.proofs.MapFinds.{find-Entry, find-only}
use Rattle.golf_theory.proofs.Derivations.{Reached-least, Reached-over, Reached-root}
use Rattle.golf_base.specs.declared.ids.GoroutineId.{GoroutineId}
use Rattle.golf_model.specs.Values.{refs}
use Rattle.golf_model.specs.State.{State}
use Rattle.golf_model.specs.Refs.{queue_refs, goroutine_refs_where, has_finaliser, refs_of_goroutine}
use Rattle.golf_model.specs.Reach.{RefersTo, reach, sources}
use Rattle.golf_model.specs.LiveSet.{Node, LiveRoot, LiveStep, live_list, has_object}
use Rattle.golf_model.specs.Collections.{queue_outside, plain_collect, removed, retained, real_collect}
use Rattle.golf_model.specs.Futures.{Numbered}
use Rattle.golf_model.specs.Presence.{IsWhole}
use Rattle.golf_model.proofs.Agreeing.{reach-sound, reach-complete, refs_where-sound, goroutine_refs_where-sound}
use Rattle.golf_theory.specs.Flags.{kept}
use Rattle.golf_theory.proofs.Flagged.{kept-only}
use Rattle.golf_reclaim.proofs.Flags.{among-those}
use Rattle.golf_model_futures.proofs.Collecting.{In-goroutine_refs_where, reach-from}
use Rattle.golf_model_futures.proofs.CutCollecting.{queue_outside-same}
use Rattle.golf_model_futures.proofs.Removing.{gone-dead, stays_by, reach-step, removed-ok, source-global, source-queue}
use Rattle.golf_model_futures.proofs.Removing.{source-goroutine, source-finalised}

-- the keys of flagged entries are those that pass
kept-keys : {X : Type 0} (p : ℕ → Bool) (es : List (ℕ × X)) → kept (map (λ e. p e.0) es) (keys es) ≡ filter p (keys es)
kept-keys p [] = refl
kept-keys p (e ∷ es) = elim (cases_Bool (p e.0)) [
  | inl t ↦ rw (t, kept-keys p es)
  | inr f ↦ rw (f, kept-keys p es)
]

In-both : (o : ℕ) (xs ys zs ws : List ℕ) → (In o xs → In o ys) → (In o zs → In o ws) → In o (xs ++ zs)
    → In o (ys ++ ws)
In-both o xs ys zs ws f g h = elim (In-cases o xs zs h) [
  | inl a ↦ In-left o ys ws (f a)
  | inr b ↦ In-right o ys ws (g b)
]

module _ (s : State) (n : Numbered s) (recover sets : Bool) where
  from-source : (o : ℕ) → In o (sources s [])
      → (In o (reach s (sources s (removed s recover sets)))
      ⊎ ((g : ℕ) × In g (removed s recover sets) × In o (reach s (refs_of_goroutine (find g s.goroutines)))))
  from-source o h =
      let out : List ℕ = removed s recover sets in
      let dead_all = (removed-ok s recover sets).dead in
      elim (In-cases o (refs s.globals) _ h) [
        | inl a ↦ inl (reach-from s (sources s out) o (source-global s n out dead_all o a))
        | inr a ↦ elim (In-cases o (queue_refs s.queue) _ a) [
          | inl b ↦ inl (reach-from s (sources s out) o (source-queue s n out dead_all o b))
          | inr b ↦ elim (In-cases o (goroutine_refs_where (λ g. not (is_in g [])) s.goroutines) _ b) [
            | inl d ↦
                let r = goroutine_refs_where-sound (λ g. not (is_in g [])) s.goroutines o d in
                elim (cases_Bool (stays_by out r.0)) [
                  | inl t ↦ inl (reach-from s (sources s out) o (source-goroutine s n out dead_all o r.0 r.1 r.3 t r.4))
                  | inr f ↦
                      let are = find-Entry s.goroutines r.0 r.1 n.goroutines_rise r.3 in
                      inr (
                        r.0,
                        In-from r.0 out (not-false (is_in r.0 out) f),
                        reach-from s (refs_of_goroutine (find r.0 s.goroutines)) o (rw are r.4),
                      )
                ]
            | inr d ↦
                let r = refs_where-sound (has_finaliser s) s.objects o d in
                inl (reach-from s (sources s out) o
                (source-finalised s n out dead_all o r.0 r.1 (In-from r.0 (keys s.finalisers) r.2) r.3 r.4))
          ]
        ]
      ]

  from-reached : (o : ℕ) → In o (reach s (sources s []))
      → (In o (reach s (sources s (removed s recover sets)))
      ⊎ ((g : ℕ) × In g (removed s recover sets) × In o (reach s (refs_of_goroutine (find g s.goroutines)))))
  from-reached o h = Reached-least (λ p. In p (sources s [])) (RefersTo s)
      (λ p. In p (reach s (sources s (removed s recover sets)))
      ⊎ ((g : ℕ) × In g (removed s recover sets) × In p (reach s (refs_of_goroutine (find g s.goroutines)))))
      from-source
      (λ q p e l. elim e [
        | inl a ↦ inl (reach-step s (sources s (removed s recover sets)) q p l.0 a l.1 l.2)
        | inr a ↦ inr (a.0, a.1, reach-step s (refs_of_goroutine (find a.0 s.goroutines)) q p l.0 a.2 l.1 l.2)
      ]) o (reach-sound s (sources s []) o h)

  -- without them no more is reached
  fewer-sources : (o : ℕ) → In o (sources s (removed s recover sets)) → In o (sources s [])
  fewer-sources o =
      let all = goroutine_refs_where (λ g. not (is_in g [])) s.goroutines in
      let out = goroutine_refs_where (λ g. not (is_in g (removed s recover sets))) s.goroutines in
      In-both o (refs s.globals) (refs s.globals) _ _ (λ a. a)
      (In-both o (queue_refs s.queue) (queue_refs s.queue) _ _ (λ a. a)
      (In-both o out all _ _ (λ d. let r = goroutine_refs_where-sound (λ g. not (is_in g (removed s recover sets)))
      s.goroutines o d in In-goroutine_refs_where (λ g. not (is_in g [])) s.goroutines r.0 o r.1 r.3 refl r.4)
      (λ d. d)))

  fewer-reached : (o : ℕ) → In o (reach s (sources s (removed s recover sets))) → In o (reach s (sources s []))
  fewer-reached o h = reach-complete s (sources s []) o
      (Reached-over (λ p. In p (sources s (removed s recover sets))) (RefersTo s) (λ p. In p (sources s []))
      (RefersTo s) (λ p. p) fewer-sources (λ q p a. a) o (reach-sound s (sources s (removed s recover sets)) o h))

  -- a finalised object is reached without them if it is reached
  finalised-alike : (o : ℕ) → In o (keys s.finalisers)
      → is_in o (reach s (sources s (removed s recover sets))) ≡ is_in o (reach s (sources s []))
  finalised-alike o f = is_in-same o (reach s (sources s (removed s recover sets))) (reach s (sources s []))
      (fewer-reached o)
      (λ h. elim (from-reached o h) [
        | inl a ↦ a
        | inr l ↦ absurd (both_ways (has_finaliser s o)
            (or_parts (has_finaliser s o) (sets && has_object (live_list s) o)
            ((removed-ok s recover sets).barred l.0 o l.1 l.2)).0 (is_in-from o (keys s.finalisers) f))
      ])

  -- so what is queued is what the plain collection queues
  pub queued-alike : IsWhole s → (flags : List Bool)
      → flags ≡ map (λ e. is_in e.0 (reach s (sources s (removed s recover sets)))) s.objects
      → queue_outside (kept flags (keys s.objects)) s ≡ plain_collect s
  queued-alike w flags is = queue_outside-same (kept flags (keys s.objects)) (reach s (sources s [])) s (λ o f e.
      rw (
        is,
        kept-keys (λ k. is_in k (reach s (sources s (removed s recover sets)))) s.objects,
        among-those (λ k. is_in k (reach s (sources s (removed s recover sets)))) (keys s.objects) o
            (w.finalised o f e),
      )
      (finalised-alike o (In-keys s.finalisers o f e)))

  -- and the state after is the real collection
  pub collected : (t : State) (stays keep : List Bool) → t ≡ plain_collect s
      → stays ≡ map (λ e. not (is_in e.0 (removed s recover sets))) s.goroutines
      → keep ≡ map (λ e. is_in e.0 (retained s (removed s recover sets))) s.objects
      → ◌≡◌ {A = State} (record t { goroutines = kept stays t.goroutines; objects = kept keep t.objects })
      (real_collect s recover sets)
  collected t stays keep is who what = rw (
    is,
    who,
    what,
    kept-only (λ g. not (is_in g (removed s recover sets))) s.goroutines,
    kept-only (λ o. is_in o (retained s (removed s recover sets))) s.objects,
  )

-- goroutine 0 is removed by no collection
pub zero-stays : (s : State) (recover sets : Bool) (stays : List Bool)
    → stays ≡ map (λ e. not (is_in e.0 (removed s recover sets))) s.goroutines
    → is_some (find 0 s.goroutines) ≡ true → is_some (find 0 (kept stays s.goroutines)) ≡ true
zero-stays s recover sets stays who there =
    let p : ℕ → Bool = λ g. not (is_in g (removed s recover sets)) in
    let out : p 0 ≡ true = elim (cases_Bool (is_in 0 (removed s recover sets))) [
      | inl t ↦ absurd ((gone-dead s recover sets 0 (In-from 0 (removed s recover sets) t)).2
          (Reached-root (LiveRoot s) (LiveStep s) (Node.AGoroutine 0) LiveRoot.FinaliserGoroutine))
      | inr f ↦ ap not f
    ] in
    rw (who, kept-only p s.goroutines, find-only p s.goroutines 0 out) there

-- flags of the list of goroutines are flags of their entries
pub stays-are : {X : Type 0} (p : ℕ → Bool) (gs : List GoroutineId) (es : List (ℕ × X)) → map (λ g. g.0) gs ≡ keys es
    → map (λ g. p g.0) gs ≡ map (λ e. p e.0) es
stays-are p [] [] h = refl
stays-are p [] (e ∷ es) h = cc
stays-are p (g ∷ gs) [] h = cc
stays-are p (g ∷ gs) (e ∷ es) h =
    let first : g.0 ≡ e.0 = cc in
    let rest : map (λ (x : GoroutineId). x.0) gs ≡ keys es = cc in
    rw (first, stays-are p gs es rest)
