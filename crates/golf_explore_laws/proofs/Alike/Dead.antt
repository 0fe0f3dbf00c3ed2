-- A state has dead goroutines if an alike one has some.
-- For: `AlikeStatesStandFor`, specs/Laws.antt; `dead`, golf_model/specs/LiveSet.antt
-- By: the live objects of one state, and the partners of its live goroutines, are closed for the other
use Rattle.std.proofs.Common.{◌≡◌, ℕ, ◌<◌, List, [], None, inl, inr, ◌⊎◌, refl, sym, ap, ◌∙◌, subst, arith, ◌++◌, ◌≤◌}
use Rattle.std.proofs.lemmas.Bool.{eqb-true, eq-eqb}
use Rattle.golf_theory.specs.Membership.{In, Every}
use Rattle.golf_theory.specs.Maps.{Entry, find}
use Rattle.golf_theory.proofs.MapEntries.{Entry-find}
use Rattle.golf_theory.proofs.MapFinds.{find-Entry, cases_find}
use Rattle.golf_data.specs.declared.value.Object.{Object}
use Rattle.golf_model.specs.Views.{GoroutineView}
use Rattle.golf_model.specs.Values.{refs}
use Rattle.golf_model.specs.State.{State}
use Rattle.golf_model.specs.Waiters.{waits_of}
use Rattle.golf_model.specs.LiveSet.{Node, dead}
use Rattle.golf_model.specs.Futures.{Numbered}
use Rattle.golf_model.specs.Refs.{frames_refs, wait_refs, goroutine_refs, queue_refs}
use Rattle.golf_model.proofs.Agreeing.{dead-sound, dead-complete}
use Rattle.golf_model_futures.specs.Invariant.{Closed}
use Rattle.golf_model_futures.proofs.DeadStill.{LiveObject, LiveGoroutine, closed-live}
use Rattle.golf_model_futures.proofs.SameSight.{live-in}
use Rattle.golf_explore_laws.specs.Alike.{blank, AlikeBy, AreAlike}
use Rattle.golf_explore_laws.proofs.Alike.Partners.{same-waits, same-running, waits-moved, partner-of, alike-flip}
use Rattle.golf_explore_laws.proofs.Alike.Partners.{flips, In-flips}
use Rattle.golf_explore_laws.proofs.LocalKeeps.{empty}

same-refs : (r q : GoroutineView) → blank r ≡ blank q → goroutine_refs r ≡ goroutine_refs q
same-refs r q e =
    ap (λ ws. frames_refs r.frames ++ wait_refs ws) (same-waits r q e)
    ∙ ap (λ (u : GoroutineView). frames_refs u.frames ++ wait_refs (waits_of q.mode)) e

module _ (ps : List (ℕ × ℕ)) (s t : State) (al : AlikeBy ps s t) (ns : Numbered s) (nt : Numbered t) where
  -- the partner of a live goroutine, or a number without a goroutine
  abbrev Lives : ℕ → Type 0
  Lives h = ((g : ℕ) × In (g, h) ps × LiveGoroutine s g) ⊎ (find h t.goroutines ≡ None)

  here : Closed s (LiveObject s) (LiveGoroutine s)
  here = closed-live s ns

  -- the partner in the first state
  back-of : (h : ℕ) (q : GoroutineView) → Entry t.goroutines h q → (g : ℕ) × In (g, h) ps × ((r : GoroutineView)
      × Entry s.goroutines g r × (blank q ≡ blank r))
  back-of h q e =
      let f = find-Entry t.goroutines h q nt.goroutines_rise e in
      let p = al.right h q f in
      let r = partner-of (flips ps) t s (alike-flip ps s t al) h p.0 (In-flips p.0 h ps p.1) q f in
      (p.0, p.1, (r.0, Entry-find p.0 s.goroutines r.0 r.1, r.2))

  objects-back : (p : ℕ) (x : Object) → Entry t.objects p x → Entry s.objects p x
  objects-back p x e = subst (λ (os : List (ℕ × Object)). Entry os p x)
      (sym (ap (λ (u : State). u.objects) al.others)) e

  same-one : (g k h : ℕ) → In (g, h) ps → In (k, h) ps → g ≡ k
  same-one g k h i j = eqb-true g k (al.one g h k h i j ∙ eq-eqb h h refl)

  not-there : (h : ℕ) (q : GoroutineView) → Entry t.goroutines h q → find h t.goroutines ≡ None → ⊥
  not-there h q e n = let f = find-Entry t.goroutines h q nt.goroutines_rise e in cc

  zero-lives : Lives 0
  zero-lives = elim (cases_find 0 t.goroutines) [
    | inl n ↦ inr n
    | inr q ↦
        let p = al.right 0 q.0 q.1 in
        let same = eqb-true p.0 0 ((al.zero_one p.0 0 p.1).0) in
        inl (p.0, p.1, subst (LiveGoroutine s) (sym same) here.zero_in)
  ]

  new-lives : (h : ℕ) → t.next_goroutine ≤ h → Lives h
  new-lives h l = elim (cases_find h t.goroutines) [
    | inl n ↦ inr n
    | inr q ↦
        let p = al.right h q.0 q.1 in
        let below = (al.given p.0 h p.1).1 in
        absurd (omega (arith, l, below))
  ]

  live-refs : (h : ℕ) (q : GoroutineView) → Lives h → Entry t.goroutines h q → Every (LiveObject s) (goroutine_refs q)
  live-refs h q (inl m) e =
      let p = back-of h q e in
      let same = same-one m.0 p.0 h m.1 p.1 in
      subst (Every (LiveObject s)) (sym (same-refs q p.2.0 p.2.2))
      (here.goroutines p.0 p.2.0 (subst (LiveGoroutine s) same m.2) p.2.1)
  live-refs h q (inr n) e = absurd (not-there h q e n)

  there : Closed t (LiveObject s) Lives
  there = record {
    globals = subst (λ vs. Every (LiveObject s) (refs vs)) (ap (λ (u : State). u.globals) al.others) here.globals;
    queue = subst (λ qs. Every (LiveObject s) (queue_refs qs)) (ap (λ (u : State). u.queue) al.others) here.queue;
    finalised = λ p f x i e. here.finalised p f x
        (subst (λ (fs : List (ℕ × ℕ)). Entry fs p f) (sym (ap (λ (u : State). u.finalisers) al.others)) i)
        (objects-back p x e);
    objects = λ p x i e. here.objects p x i (objects-back p x e);
    goroutines = λ h q m e. live-refs h q m e;
    running = λ h q e on.
        let p = back-of h q e in
        inl (p.0, p.1, here.running p.0 p.2.0 p.2.1 (sym (same-running q p.2.0 p.2.2) ∙ on));
    awake = λ h q o e w m.
        let p = back-of h q e in
        inl (p.0, p.1, here.awake p.0 p.2.0 o p.2.1 (waits-moved o q p.2.0 p.2.2 w) m);
    zero_in = zero-lives;
    new_objects = λ o l. here.new_objects o
        (subst (λ n. n < o) (sym (ap (λ (u : State). u.last_object) al.others)) l);
    new_goroutines = new-lives;
  }

  -- the partner of a dead goroutine is dead
  partner-dead : (g : ℕ) → In g (dead s) → (h : ℕ) × In h (dead t)
  partner-dead g i =
      let d = dead-sound s g i in
      let f = find-Entry s.goroutines g d.0 ns.goroutines_rise d.1 in
      let p = al.left g d.0 f in
      let q = partner-of ps s t al g p.0 p.1 d.0 f in
      let e = Entry-find p.0 t.goroutines q.0 q.1 in
      let given = (al.given g p.0 p.1).0 in (
        p.0,
        dead-complete t p.0 (
          q.0,
          e,
          sym (same-running d.0 q.0 q.2) ∙ d.2,
          λ l. elim (live-in (LiveObject s) Lives t there (Node.AGoroutine p.0) l) [
            | inl m ↦ elim (subst (LiveGoroutine s) (same-one m.0 g p.0 m.1 p.1) m.2) [
              | inl a ↦ d.3 a
              | inr fresh ↦ absurd (omega (arith, given, fresh))
            ]
            | inr n ↦ not-there p.0 q.0 e n
          ],
        ),
      )

pub alike-alive : (s t : State) → AreAlike s t → dead t ≡ [] → dead s ≡ []
alike-alive s t p none = empty (dead s) (λ g i.
    let h = partner-dead p.0.0 s t p.0.1 p.1.0 p.2.0 g i in
    subst (λ (gs : List ℕ). In h.0 gs) none h.1)
