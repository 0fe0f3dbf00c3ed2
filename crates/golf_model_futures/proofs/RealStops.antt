-- A real collection of a state that earlier ones cut is one collection of the whole state that takes all of it.
-- For: `real_collect`, `removed`, golf_model/specs/Collections.antt
-- By: induction over the path by which an object is reached
use Rattle.std.proofs.Common.{◌≡◌, ℕ, ◌+◌, Bool, true, false, not, ◌&&◌, ◌||◌, List, ◌++◌, filter, Option, Some, None}
use Rattle.std.proofs.Common.{inl, inr, refl, sym, ap, ◌∙◌, subst, arith, nat_lt}
use Rattle.std.proofs.lemmas.Bool.{or_left, or_cases, and_parts, and_from, ltb-true}
use Rattle.golf_theory.specs.Membership.{In, Every, is_in}
use Rattle.golf_theory.specs.Maps.{Entry, find, only, keys}
use Rattle.golf_theory.proofs.Lists.{In-left, In-right, In-cases, In-filter, Every-from, Every-at, filter-same}
use Rattle.golf_theory.proofs.Lists.{filter-swap}
use Rattle.golf_theory.proofs.Tests.{is_in-from, In-from, is_in-append, same_test, any_of-from, from_any_of}
use Rattle.golf_theory.proofs.MapEntries.{Entry-find, Entry-only, Entry-only_old, Entry-keys}
use Rattle.golf_theory.proofs.MapFinds.{Entry-below, find-only}
use Rattle.golf_theory.proofs.MapCuts.{only-only, only-same}
use Rattle.golf_theory.proofs.Derivations.{Reached-root, Reached-step, Reached-least, Reached-over}
use Rattle.golf_data.specs.declared.code.Code.{Code}
use Rattle.golf_data.specs.declared.value.Object.{Object}
use Rattle.golf_model.specs.Views.{GoroutineView}
use Rattle.golf_model.specs.Values.{refs}
use Rattle.golf_model.specs.State.{State}
use Rattle.golf_model.specs.Refs.{object_refs, goroutine_refs, queue_refs, refs_where, goroutine_refs_where}
use Rattle.golf_model.specs.Refs.{has_finaliser, refs_of_goroutine}
use Rattle.golf_model.specs.Reach.{RefersTo, Reach, reach, sources}
use Rattle.golf_model.specs.LiveSet.{Node, Live, dead}
use Rattle.golf_model.specs.Collections.{plain_collect, prevents_removal, keeps, unkept, removed, retained, cut}
use Rattle.golf_model.specs.Collections.{sets_finalisers, real_collect}
use Rattle.golf_model.specs.Reports.{without}
use Rattle.golf_model.specs.Futures.{Numbered}
use Rattle.golf_model.proofs.Agreeing.{reach-sound, reach-complete, refs_where-sound, goroutine_refs_where-sound}
use Rattle.golf_model_futures.proofs.Collecting.{In-goroutine_refs_where, In-refs_where}
use Rattle.golf_model_futures.proofs.Cutting.{parts}
use Rattle.golf_model_futures.proofs.Flowing.{Flow}
use Rattle.golf_model_futures.proofs.Removing.{GoneOk, stays_by, kept_by, gone-dead, gone-prevents_removal}
use Rattle.golf_model_futures.proofs.SameSight.{live-in, live-cut, same-live_object, same-dead}
use Rattle.golf_model_futures.proofs.Modes.{Sim}

-- not in a longer list
pub stays-both : (xs ys : List ℕ) (g : ℕ) → (stays_by xs g && stays_by ys g) ≡ stays_by (xs ++ ys) g
stays-both xs ys g = neither (is_in g xs) (is_in g ys) ∙ sym (ap not (is_in-append g xs ys))
  where
    neither : (a b : Bool) → (not a && not b) ≡ not (a || b)
    neither true b = refl
    neither false b = refl

-- what is reached in a cut state
module _ (stays kept : ℕ → Bool) (t : State) (f : Flow (λ o. kept o ≡ true) (λ g. stays g ≡ true) t) where
  pub reach-into : (xs ys : List ℕ) → ((o : ℕ) → In o xs → In o ys × (kept o ≡ true)) → (o : ℕ) → In o (reach t xs)
      → In o (reach (cut stays kept t) ys) × (kept o ≡ true)
  reach-into xs ys h o i =
      let both = Reached-least (λ p. In p xs) (RefersTo t) (λ p. Reach (cut stays kept t) ys p × (kept p ≡ true))
      (λ p j. let r = h p j in (Reached-root (λ q. In q ys) (RefersTo (cut stays kept t)) p r.0, r.1))
      (λ q p b l. (
        Reached-step (λ k. In k ys) (RefersTo (cut stays kept t)) q p b.0
            (l.0, Entry-only_old kept t.objects q l.0 b.1 l.1, l.2),
        Every-at (λ k. kept k ≡ true) (object_refs l.0) p (f.objects q l.0 b.1 l.1) l.2,
      )) o (reach-sound t xs o i) in
      (reach-complete (cut stays kept t) ys o both.0, both.1)

  pub reach-back : (xs ys : List ℕ) → ((o : ℕ) → In o ys → In o xs) → (o : ℕ) → In o (reach (cut stays kept t) ys)
      → In o (reach t xs)
  reach-back xs ys h o i = reach-complete t xs o
      (Reached-over (λ p. In p ys) (RefersTo (cut stays kept t)) (λ p. In p xs) (RefersTo t) (λ p. p) h
      (λ q p l. (l.0, (Entry-only kept t.objects q l.0 l.1).1, l.2)) o (reach-sound (cut stays kept t) ys o i))

  -- the sources without some goroutines, and those of the cut state without others
  module _ (xs ys : List ℕ) (into : (g : ℕ) → stays_by xs g ≡ true → (stays g ≡ true) × (stays_by ys g ≡ true))
      (back : (g : ℕ) → stays g ≡ true → stays_by ys g ≡ true → stays_by xs g ≡ true) where
    in_globals : (o : ℕ) → In o (refs t.globals) → In o (sources (cut stays kept t) ys)
    in_globals o h = In-left o (refs t.globals) _ h

    in_queue : (o : ℕ) → In o (queue_refs t.queue) → In o (sources (cut stays kept t) ys)
    in_queue o h = In-right o (refs t.globals) _ (In-left o (queue_refs t.queue) _ h)

    in_goroutines : (o : ℕ) → In o (goroutine_refs_where (stays_by ys) (only stays t.goroutines))
        → In o (sources (cut stays kept t) ys)
    in_goroutines o h = In-right o (refs t.globals) _
        (In-right o (queue_refs t.queue) _ (In-left o
        (goroutine_refs_where (stays_by ys) (only stays t.goroutines)) _ h))

    in_finalised : (o : ℕ) → In o (refs_where (has_finaliser t) (only kept t.objects))
        → In o (sources (cut stays kept t) ys)
    in_finalised o h = In-right o (refs t.globals) _
        (In-right o (queue_refs t.queue) _ (In-right o
        (goroutine_refs_where (stays_by ys) (only stays t.goroutines)) _ h))

    pub sources-into : (o : ℕ) → In o (sources t xs) → In o (sources (cut stays kept t) ys) × (kept o ≡ true)
    sources-into o h = elim (In-cases o (refs t.globals) _ h) [
      | inl a ↦ (in_globals o a, Every-at (λ k. kept k ≡ true) (refs t.globals) o f.globals a)
      | inr a ↦ elim (In-cases o (queue_refs t.queue) _ a) [
        | inl b ↦ (in_queue o b, Every-at (λ k. kept k ≡ true) (queue_refs t.queue) o f.queue b)
        | inr b ↦ elim (In-cases o (goroutine_refs_where (stays_by xs) t.goroutines) _ b) [
          | inl d ↦
              let r = goroutine_refs_where-sound (stays_by xs) t.goroutines o d in
              let m = into r.0 r.2 in (
                in_goroutines o (In-goroutine_refs_where (stays_by ys) (only stays t.goroutines) r.0 o r.1
                    (Entry-only_old stays t.goroutines r.0 r.1 m.0 r.3) m.1 r.4),
                Every-at (λ k. kept k ≡ true) (goroutine_refs r.1) o (f.goroutines r.0 r.1 m.0 r.3) r.4,
              )
          | inr d ↦
              let r = refs_where-sound (has_finaliser t) t.objects o d in
              let e = Entry-keys t.finalisers r.0 (In-from r.0 (keys t.finalisers) r.2) in
              let m = f.finalised r.0 e.0 e.1 in (
                in_finalised o (In-refs_where (has_finaliser t) (only kept t.objects) r.0 o r.1
                    (Entry-only_old kept t.objects r.0 r.1 m r.3) r.2 r.4),
                Every-at (λ k. kept k ≡ true) (object_refs r.1) o (f.objects r.0 r.1 m r.3) r.4,
              )
        ]
      ]
    ]

    pub sources-back : (o : ℕ) → In o (sources (cut stays kept t) ys) → In o (sources t xs)
    sources-back o h = elim (In-cases o (refs t.globals) _ h) [
      | inl a ↦ In-left o (refs t.globals) _ a
      | inr a ↦ In-right o (refs t.globals) _ (elim (In-cases o (queue_refs t.queue) _ a) [
        | inl b ↦ In-left o (queue_refs t.queue) _ b
        | inr b ↦ In-right o (queue_refs t.queue) _
            (elim (In-cases o (goroutine_refs_where (stays_by ys) (only stays t.goroutines)) _ b) [
              | inl d ↦
                  let r = goroutine_refs_where-sound (stays_by ys) (only stays t.goroutines) o d in
                  let e = Entry-only stays t.goroutines r.0 r.1 r.3 in
                  In-left o (goroutine_refs_where (stays_by xs) t.goroutines) _
                  (In-goroutine_refs_where (stays_by xs) t.goroutines r.0 o r.1 e.1 (back r.0 e.0 r.2) r.4)
              | inr d ↦
                  let r = refs_where-sound (has_finaliser t) (only kept t.objects) o d in
                  In-right o (goroutine_refs_where (stays_by xs) t.goroutines) _
                  (In-refs_where (has_finaliser t) t.objects r.0 o r.1
                  (Entry-only kept t.objects r.0 r.1 r.3).1 r.2 r.4)
            ])
      ])
    ]

    -- what is retained
    pub retained-into : (o : ℕ) → In o (retained t xs) → In o (retained (cut stays kept t) ys) × (kept o ≡ true)
    retained-into o h = elim (In-cases o (reach t (sources t xs)) (keys t.finalisers) h) [
      | inl a ↦ let r = reach-into (sources t xs)
          (sources (cut stays kept t) ys) sources-into o
          a in (In-left o (reach (cut stays kept t) (sources (cut stays kept t) ys)) _ r.0, r.1)
      | inr a ↦ let e = Entry-keys t.finalisers o
          a in (In-right o (reach (cut stays kept t) (sources (cut stays kept t) ys)) _ a, f.finalised o e.0 e.1)
    ]

    pub retained-back : (o : ℕ) → In o (retained (cut stays kept t) ys) → In o (retained t xs)
    retained-back o h = elim (In-cases o (reach (cut stays kept t) (sources (cut stays kept t) ys))
        (keys t.finalisers) h) [
          | inl a ↦ In-left o (reach t (sources t xs)) _
              (reach-back (sources t xs) (sources (cut stays kept t) ys) sources-back o a)
          | inr a ↦ In-right o (reach t (sources t xs)) _ a
        ]

-- at a stop
module _ (code : Code) (gone : List ℕ) (kept : ℕ → Bool) (t : State) (n : Numbered t) (z : Sim code gone kept t) where
  pub flow : Flow (λ o. kept o ≡ true) (λ g. stays_by gone g ≡ true) t
  flow = z.agreement.flow z.related.O t z.related.mode

  same-prevents_removal : (b : Bool) (o : ℕ)
      → prevents_removal (cut (stays_by gone) kept t) b o ≡ prevents_removal t b o
  same-prevents_removal b o = ap (λ x. has_finaliser t o || (b && x))
      (same-live_object (stays_by gone) kept z.related.O z.G t z.related.closed z.related.within z.within flow.finalised
      o)

  refs-kept : (g : ℕ) (m : Option GoroutineView) → find g t.goroutines ≡ m → stays_by gone g ≡ true
      → Every (λ o. kept o ≡ true) (refs_of_goroutine m)
  refs-kept g None e s = tt
  refs-kept g (Some r) e s = flow.goroutines g r s (Entry-find g t.goroutines r e)

  -- what a goroutine that stays reaches is the same
  pub same-reached : (g o : ℕ) → stays_by gone g ≡ true → In o (reach t (refs_of_goroutine (find g t.goroutines)))
      → In o (reach (cut (stays_by gone) kept t) (refs_of_goroutine (find g (only (stays_by gone) t.goroutines))))
  same-reached g o s i =
      let xs : List ℕ = refs_of_goroutine (find g t.goroutines) in
      let a = refs-kept g (find g t.goroutines) refl s in
      subst (λ (m : Option GoroutineView). In o (reach (cut (stays_by gone) kept t) (refs_of_goroutine m)))
      (sym (find-only (stays_by gone) t.goroutines g s))
      (reach-into (stays_by gone) kept t flow xs xs (λ p j. (j, Every-at (λ k. kept k ≡ true) xs p a j)) o i).0

  pub same-reached_back : (g o : ℕ) → stays_by gone g ≡ true
      → In o (reach (cut (stays_by gone) kept t) (refs_of_goroutine (find g (only (stays_by gone) t.goroutines))))
      → In o (reach t (refs_of_goroutine (find g t.goroutines)))
  same-reached_back g o s i =
      let xs : List ℕ = refs_of_goroutine (find g t.goroutines) in
      reach-back (stays_by gone) kept t flow xs xs (λ p j. j) o
      (subst (λ (m : Option GoroutineView). In o (reach (cut (stays_by gone) kept t) (refs_of_goroutine m)))
      (find-only (stays_by gone) t.goroutines g s) i)

  same-keeps : (b : Bool) (g : ℕ) → stays_by gone g ≡ true → keeps (cut (stays_by gone) kept t) b g ≡ keeps t b g
  same-keeps b g s = same_test _ _
      (λ h. let r = from_any_of (prevents_removal (cut (stays_by gone) kept t) b) _ h in any_of-from
      (prevents_removal t b) (reach t (refs_of_goroutine (find g t.goroutines))) r.0 (same-reached_back g r.0 s r.1)
      (sym (same-prevents_removal b r.0) ∙ r.2))
      (λ h. let r = from_any_of (prevents_removal t b) _ h in any_of-from
      (prevents_removal (cut (stays_by gone) kept t) b)
      (reach (cut (stays_by gone) kept t) (refs_of_goroutine (find g (only (stays_by gone) t.goroutines)))) r.0
      (same-reached g r.0 s r.1) (same-prevents_removal b r.0 ∙ r.2))

  pub cut-dead : dead (cut (stays_by gone) kept t) ≡ filter (stays_by gone) (dead t)
  cut-dead = same-dead (stays_by gone) kept z.related.O z.G t z.related.closed z.related.within z.within flow.finalised

  pub cut-unkept : (b : Bool) → unkept (cut (stays_by gone) kept t) b ≡ without (unkept t b) gone
  cut-unkept b =
      ap (filter (λ g. not (keeps (cut (stays_by gone) kept t) b g))) cut-dead
      ∙ filter-same (λ g. not (keeps (cut (stays_by gone) kept t) b g)) (λ g. not (keeps t b g))
      (filter (stays_by gone) (dead t))
      (Every-from _ (filter (stays_by gone) (dead t))
      (λ g i. ap not (same-keeps b g (In-filter (stays_by gone) g (dead t) i).1)))
      ∙ filter-swap (λ g. not (keeps t b g)) (stays_by gone) (dead t)

  module _ (recover : Bool) where
    -- those that the real collection removes
    abbrev pub New : List ℕ
    New = removed (cut (stays_by gone) kept t) recover (sets_finalisers code)

    new-entry : (g : ℕ) → In g New → (r : GoroutineView) × (stays_by gone g ≡ true) × Entry t.goroutines g r
        × (Live t (Node.AGoroutine g) → ⊥)
    new-entry g h =
        let d = gone-dead (cut (stays_by gone) kept t) recover (sets_finalisers code) g h in
        let e = Entry-only (stays_by gone) t.goroutines g d.0 d.1 in (
          d.0,
          e.0,
          e.1,
          λ l. d.2 (live-cut (stays_by gone) kept z.related.O z.G t z.related.closed z.related.within
              z.within flow.finalised (Node.AGoroutine g) l).0,
        )

    -- all that were removed by then are as if removed at once
    pub all-ok : GoneOk t (sets_finalisers code) (gone ++ New)
    all-ok = record {
      dead = λ g h. elim (In-cases g gone New h) [
        | inl i ↦ let e = z.agreement.present z.related.O t z.related.mode g i in (
          e.0,
          e.1,
          λ l. cc (
            z.within g (live-in z.related.O z.G t z.related.closed (Node.AGoroutine g) l),
            ap not (is_in-from g gone i),
          ),
        )
        | inr i ↦ let e = new-entry g i in (e.0, e.2, e.3)
      ];
      barred = λ g o h j. elim (In-cases g gone New h) [
        | inl i ↦ z.agreement.barred z.related.O t n z.related.closed z.related.mode g o i j
        | inr i ↦ sym (same-prevents_removal (sets_finalisers code) o)
            ∙ gone-prevents_removal (cut (stays_by gone) kept t) recover (sets_finalisers code) g o i
            (same-reached g o (new-entry g i).1 j)
      ];
    }

    into : (g : ℕ) → stays_by (gone ++ New) g ≡ true → (stays_by gone g ≡ true) × (stays_by New g ≡ true)
    into g s = and_parts (stays_by gone g) (stays_by New g) (stays-both gone New g ∙ s)

    back : (g : ℕ) → stays_by gone g ≡ true → stays_by New g ≡ true → stays_by (gone ++ New) g ≡ true
    back g a b = sym (stays-both gone New g) ∙ and_from (stays_by gone g) (stays_by New g) a b

    same-kept : (p : ℕ) (x : Object) → Entry t.objects p x
        → (kept p && is_in p (retained (cut (stays_by gone) kept t) New)) ≡ kept_by t (gone ++ New) p
    same-kept p x e = same_test _ _
        (λ h. let r = and_parts (kept p) _ h in or_left (is_in p (retained t (gone ++ New))) _
        (is_in-from p (retained t (gone ++ New))
        (retained-back (stays_by gone) kept t flow (gone ++ New) New into back p (In-from p _ r.1))))
        (λ h. elim (or_cases (is_in p (retained t (gone ++ New))) (nat_lt t.last_object p) h) [
          | inl a ↦ let r = retained-into (stays_by gone) kept t flow (gone ++ New) New into back p
              (In-from p (retained t (gone ++ New)) a) in and_from (kept p) _ r.1 (is_in-from p _ r.0)
          | inr a ↦ let l = ltb-true t.last_object p a in let b =
              Entry-below (t.last_object + 1) t.objects p x n.objects_below e in absurd (omega arith)
        ])

    pub real-cut : real_collect (cut (stays_by gone) kept t) recover (sets_finalisers code) ≡ cut
        (stays_by (gone ++ New)) (kept_by t (gone ++ New)) (plain_collect t)
    real-cut =
        ap (cut (stays_by New) (λ o. is_in o (retained (cut (stays_by gone) kept t) New)))
        (z.agreement.agrees z.related.O t z.related.mode)
        ∙ parts (plain_collect t) _ _ _ _
        (only-only (λ o. is_in o (retained (cut (stays_by gone) kept t) New)) kept t.objects
        ∙ only-same _ (kept_by t (gone ++ New)) t.objects same-kept)
        (only-only (stays_by New) (stays_by gone) t.goroutines
        ∙ only-same _ (stays_by (gone ++ New)) t.goroutines (λ g r e. stays-both gone New g))
