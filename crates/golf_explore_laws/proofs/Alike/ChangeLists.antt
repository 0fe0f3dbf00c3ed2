-- Lists of changes that are the same up to the pairs keep states alike.
-- For: `IsAlike`, specs/Alike.antt
-- By: induction over the list of changes
use Rattle.std.proofs.Common.{◌≡◌, ℕ, List, [], ◌∷◌, ◌++◌, Some, inr, refl, sym, ap, subst}
use Rattle.golf_theory.specs.Membership.{In}
use Rattle.golf_data.specs.declared.goroutine.Mode.{Mode}
use Rattle.golf_data.specs.declared.goroutine.Ending.{Ending}
use Rattle.golf_model.specs.State.{State, not_empty}
use Rattle.golf_model.specs.Wakes.{Waking}
use Rattle.golf_model.specs.Changes.{Change, apply, apply_all}
use Rattle.golf_explore_laws.specs.Alike.{nameless, AlikeBy, IsAlike}
use Rattle.golf_explore_laws.proofs.Alike.Changes.{alike-make, alike-replace, alike-set_global, alike-set_finaliser}
use Rattle.golf_explore_laws.proofs.Alike.Changes.{alike-clear_finaliser, alike-take_queued, alike-output, alike-finish}
use Rattle.golf_explore_laws.proofs.Alike.Changes.{alike-become, alike-block, alike-leave}
use Rattle.golf_explore_laws.proofs.Alike.Waking.{alike-spawn, alike-wake_all, alike-requeue, WakeAlike}

-- the second change is the first one up to the pairs; a waking of all waiters is left out
abbrev pub Simple : List (ℕ × ℕ) → Change → Change → Type 0
Simple ps (Change.Become g r) d = (h : ℕ) × In (g, h) ps × (r.mode ≡ Mode.Running) × (d ≡ Change.Become h r)
Simple ps (Change.Block g kind line waits r) d = (h : ℕ) × In (g, h) ps × (d ≡ Change.Block h kind line waits r)
Simple ps (Change.Spawn r) d = (r.mode ≡ Mode.Running) × (d ≡ Change.Spawn r)
Simple ps (Change.Leave g) d = (h : ℕ) × In (g, h) ps × (d ≡ Change.Leave h)
Simple ps (Change.Finish e) d = (f : Ending) × (nameless (Some e) ≡ nameless (Some f)) × (d ≡ Change.Finish f)
Simple ps (Change.WakeAll o how) d = ⊥
Simple ps (Change.Requeue g m) d = (h : ℕ) × In (g, h) ps × (d ≡ Change.Requeue h m)
Simple ps c d = d ≡ c

-- or both wake the same goroutines
abbrev pub Same : List (ℕ × ℕ) → State → State → Change → Change → Type 0
Same ps s t (Change.WakeAll o how) d = (also : Waking) × WakeAlike ps s t o how also × (d ≡ Change.WakeAll o also)
Same ps s t c d = Simple ps c d

-- the pairs after a change
abbrev pub pairs_after : Change → State → State → List (ℕ × ℕ) → List (ℕ × ℕ)
pairs_after (Change.Spawn r) s t ps = (s.next_goroutine, t.next_goroutine) ∷ ps
pairs_after _ s t ps = ps

pub alike-change : (ps : List (ℕ × ℕ)) (s t : State) (c d : Change) → AlikeBy ps s t → Same ps s t c d
    → AlikeBy (pairs_after c s t ps) (apply c s) (apply d t)
alike-change ps s t (Change.Make x) d a e =
    subst (λ f. AlikeBy ps (apply (Change.Make x) s) (apply f t)) (sym e) (alike-make ps s t a x)
alike-change ps s t (Change.Replace o x) d a e =
    subst (λ f. AlikeBy ps (apply (Change.Replace o x) s) (apply f t)) (sym e) (alike-replace ps s t a o x)
alike-change ps s t (Change.SetGlobal i v) d a e =
    subst (λ f. AlikeBy ps (apply (Change.SetGlobal i v) s) (apply f t)) (sym e) (alike-set_global ps s t a i v)
alike-change ps s t (Change.Become g r) d a e =
    subst (λ f. AlikeBy ps (apply (Change.Become g r) s) (apply f t)) (sym e.3)
    (alike-become ps s t a g e.0 e.1 r e.2)
alike-change ps s t (Change.Block g kind line waits r) d a e =
    subst (λ f. AlikeBy ps (apply (Change.Block g kind line waits r) s) (apply f t)) (sym e.2)
    (alike-block ps s t a g e.0 e.1 kind line waits r)
alike-change ps s t (Change.Spawn r) d a e =
    subst (λ f. AlikeBy ((s.next_goroutine, t.next_goroutine) ∷ ps) (apply (Change.Spawn r) s) (apply f t)) (sym e.1)
    (alike-spawn ps s t a r e.0)
alike-change ps s t (Change.Leave g) d a e =
    subst (λ f. AlikeBy ps (apply (Change.Leave g) s) (apply f t)) (sym e.2) (alike-leave ps s t a g e.0 e.1)
alike-change ps s t (Change.Finish x) d a e =
    subst (λ f. AlikeBy ps (apply (Change.Finish x) s) (apply f t)) (sym e.2) (alike-finish ps s t a x e.0 e.1)
alike-change ps s t (Change.SetFinaliser o k) d a e =
    subst (λ f. AlikeBy ps (apply (Change.SetFinaliser o k) s) (apply f t)) (sym e) (alike-set_finaliser ps s t a o k)
alike-change ps s t (Change.ClearFinaliser o) d a e =
    subst (λ f. AlikeBy ps (apply (Change.ClearFinaliser o) s) (apply f t)) (sym e) (alike-clear_finaliser ps s t a o)
alike-change ps s t Change.TakeQueued d a e =
    subst (λ f. AlikeBy ps (apply Change.TakeQueued s) (apply f t)) (sym e) (alike-take_queued ps s t a)
alike-change ps s t (Change.Output bytes) d a e =
    subst (λ f. AlikeBy ps (apply (Change.Output bytes) s) (apply f t)) (sym e) (alike-output ps s t a bytes)
alike-change ps s t (Change.WakeAll o how) d a e =
    subst (λ f. AlikeBy ps (apply (Change.WakeAll o how) s) (apply f t)) (sym e.2)
    (alike-wake_all ps s t a how e.0 o e.1)
alike-change ps s t (Change.Requeue g m) d a e =
    subst (λ f. AlikeBy ps (apply (Change.Requeue g m) s) (apply f t)) (sym e.2) (alike-requeue ps s t a g e.0 e.1 m)

-- both lists are the same up to the pairs, change by change
abbrev pub AllSame : List (ℕ × ℕ) → State → State → List Change → List Change → Type 0
AllSame ps s t [] ds = ds ≡ []
AllSame ps s t (c ∷ cs) ds = (d : Change) × (es : List Change) × (ds ≡ d ∷ es) × Same ps s t c d
    × AllSame (pairs_after c s t ps) (apply c s) (apply d t) cs es

pub alike-changes : (ps : List (ℕ × ℕ)) (s t : State) (cs ds : List Change) → AlikeBy ps s t → AllSame ps s t cs ds
    → IsAlike (apply_all cs s) (apply_all ds t)
alike-changes ps s t [] ds a e = subst (λ fs. IsAlike s (apply_all fs t)) (sym e) (ps, a)
alike-changes ps s t (c ∷ cs) ds a e =
    subst (λ fs. IsAlike (apply_all cs (apply c s)) (apply_all fs t)) (sym e.2)
    (alike-changes (pairs_after c s t ps) (apply c s) (apply e.0 t) cs e.1 (alike-change ps s t c e.0 a e.3) e.4)

-- the same of lists that wake nobody
abbrev pub AllSimple : List (ℕ × ℕ) → List Change → List Change → Type 0
AllSimple ps [] ds = ds ≡ []
AllSimple ps (c ∷ cs) ds = (d : Change) × (es : List Change) × (ds ≡ d ∷ es) × Simple ps c d × AllSimple ps cs es

abbrev pub Sub : List (ℕ × ℕ) → List (ℕ × ℕ) → Type 0
Sub ps qs = (g h : ℕ) → In (g, h) ps → In (g, h) qs

simple-more : (ps qs : List (ℕ × ℕ)) → Sub ps qs → (c d : Change) → Simple ps c d → Simple qs c d
simple-more ps qs m (Change.Become g r) d e = (e.0, m g e.0 e.1, e.2, e.3)
simple-more ps qs m (Change.Block g kind line waits r) d e = (e.0, m g e.0 e.1, e.2)
simple-more ps qs m (Change.Leave g) d e = (e.0, m g e.0 e.1, e.2)
simple-more ps qs m (Change.Requeue g k) d e = (e.0, m g e.0 e.1, e.2)
simple-more ps qs m (Change.WakeAll o how) d e = absurd e
simple-more ps qs m _ d e = e

simples-more : (ps qs : List (ℕ × ℕ)) → Sub ps qs → (cs ds : List Change) → AllSimple ps cs ds → AllSimple qs cs ds
simples-more ps qs m [] ds e = e
simples-more ps qs m (c ∷ cs) ds e =
    (e.0, e.1, e.2, simple-more ps qs m c e.0 e.3, simples-more ps qs m cs e.1 e.4)

simple-same : (ps : List (ℕ × ℕ)) (s t : State) (c d : Change) → Simple ps c d → Same ps s t c d
simple-same ps s t (Change.WakeAll o how) d e = absurd e
simple-same ps s t _ d e = e

after-more : (ps : List (ℕ × ℕ)) (s t : State) (c : Change) → Sub ps (pairs_after c s t ps)
after-more ps s t (Change.Spawn r) g h i = inr i
after-more ps s t _ g h i = i

pub all-simple : (ps : List (ℕ × ℕ)) (s t : State) (cs ds : List Change) → AllSimple ps cs ds → AllSame ps s t cs ds
all-simple ps s t [] ds e = e
all-simple ps s t (c ∷ cs) ds e =
    let more = simples-more ps (pairs_after c s t ps) (after-more ps s t c) cs e.1 e.4 in (
      e.0,
      e.1,
      e.2,
      simple-same ps s t c e.0 e.3,
      all-simple (pairs_after c s t ps) (apply c s) (apply e.0 t) cs e.1 more,
    )

pub simple-append : (ps : List (ℕ × ℕ)) (cs ds es fs : List Change) → AllSimple ps cs ds → AllSimple ps es fs
    → AllSimple ps (cs ++ es) (ds ++ fs)
simple-append ps [] ds es fs p q = subst (λ xs. AllSimple ps es (xs ++ fs)) (sym p) q
simple-append ps (c ∷ cs) ds es fs p q =
    (p.0, p.1 ++ fs, ap (λ xs. xs ++ fs) p.2, p.3, simple-append ps cs p.1 es fs p.4 q)

-- simple changes, and then others
pub simple-then : (ps : List (ℕ × ℕ)) (s t : State) (c d : Change) (cs ds : List Change) → Simple ps c d
    → AllSame (pairs_after c s t ps) (apply c s) (apply d t) cs ds → AllSame ps s t (c ∷ cs) (d ∷ ds)
simple-then ps s t c d cs ds e rest = (d, ds, refl, simple-same ps s t c d e, rest)

-- the pairs after the changes are pairs too
pub alike-changes-by : (ps : List (ℕ × ℕ)) (s t : State) (cs ds : List Change) → AlikeBy ps s t → AllSame ps s t cs ds
    → (qs : List (ℕ × ℕ)) × Sub ps qs × AlikeBy qs (apply_all cs s) (apply_all ds t)
alike-changes-by ps s t [] ds a e = (ps, (λ g h i. i), subst (λ fs. AlikeBy ps s (apply_all fs t)) (sym e) a)
alike-changes-by ps s t (c ∷ cs) ds a e =
    let p = alike-changes-by (pairs_after c s t ps) (apply c s) (apply e.0 t) cs e.1 (alike-change ps s t c e.0 a e.3)
    e.4 in (
      p.0,
      (λ g h i. p.1 g h (after-more ps s t c g h i)),
      subst (λ fs. AlikeBy p.0 (apply_all cs (apply c s)) (apply_all fs t)) (sym e.2) p.2,
    )

-- there are changes in both lists, or in neither
pub same-empty : (ps : List (ℕ × ℕ)) (s t : State) (cs ds : List Change) → AllSame ps s t cs ds
    → not_empty cs ≡ not_empty ds
same-empty ps s t [] ds e = ap not_empty (sym e)
same-empty ps s t (c ∷ cs) ds e = ap not_empty (sym e.2)
