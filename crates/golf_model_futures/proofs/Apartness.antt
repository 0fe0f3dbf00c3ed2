-- What a removed goroutine reaches stays apart from all that goes on.
-- For: `recovery_unseen`, src/lib.rt; `plain_collect`, `removed`, golf_model/specs/Collections.antt
-- By: cases of how an object would be a member of the closed set; no induction
use Rattle.std.proofs.Common.{◌≡◌, ℕ, ◌≤◌, true, false, not, List, [], inl, inr, sym, ap, subst, arith}
use Rattle.std.proofs.lemmas.Bool.{or_parts, both_ways}
use Rattle.golf_theory.specs.Membership.{In, is_in}
use Rattle.golf_theory.specs.Maps.{Entry, find, keys}
use Rattle.golf_theory.proofs.Lists.{Every-at}
use Rattle.golf_theory.proofs.Tests.{is_in-from}
use Rattle.golf_theory.proofs.MapEntries.{Entry-only, In-keys, Entry-keys}
use Rattle.golf_theory.proofs.MapFinds.{find-Entry}
use Rattle.golf_theory.proofs.Derivations.{Reached-least}
use Rattle.golf_data.specs.declared.value.Object.{Object}
use Rattle.golf_model.specs.Views.{GoroutineView}
use Rattle.golf_model.specs.State.{State}
use Rattle.golf_model.specs.Refs.{object_refs, goroutine_refs, has_finaliser, refs_of_goroutine}
use Rattle.golf_model.specs.Reach.{RefersTo, reach, sources}
use Rattle.golf_model.specs.LiveSet.{Node, Live, live_list, has_object}
use Rattle.golf_model.specs.Collections.{plain_collect}
use Rattle.golf_model.specs.Futures.{Numbered, UpTo}
use Rattle.golf_model.proofs.Agreeing.{reach-sound, live_list-complete, has_object-complete}
use Rattle.golf_model_futures.specs.Invariant.{Confined}
use Rattle.golf_model_futures.proofs.Collecting.{reach-from, Joined}
use Rattle.golf_model_futures.proofs.DeadStill.{LiveObject}
use Rattle.golf_model_futures.proofs.Numbering.{object-in, goroutine-in}
use Rattle.golf_model_futures.proofs.Removing.{GoneOk, reach-step, stays_by}

-- if the code sets finalisers
module _ (s : State) (n : Numbered s) (gone : List ℕ) (ok : GoneOk s true gone) where
  abbrev pub Gone : ℕ → Type 0
  Gone g = In g gone

  -- reached from a goroutine that is removed
  abbrev pub Lost : ℕ → Type 0
  Lost o = (g : ℕ) × Gone g × In o (reach s (refs_of_goroutine (find g s.goroutines)))

  refs-of : (g : ℕ) (r : GoroutineView) → Entry s.goroutines g r
      → refs_of_goroutine (find g s.goroutines) ≡ goroutine_refs r
  refs-of g r e = ap refs_of_goroutine (find-Entry s.goroutines g r n.goroutines_rise e)

  pub lost-refs : (g o : ℕ) (r : GoroutineView) → Gone g → Entry s.goroutines g r → In o (goroutine_refs r) → Lost o
  lost-refs g o r h e i = (
    g,
    h,
    reach-from s (refs_of_goroutine (find g s.goroutines)) o
        (subst (λ (xs : List ℕ). In o xs) (sym (refs-of g r e)) i),
  )

  pub lost-step : (p o : ℕ) (x : Object) → Lost p → Entry s.objects p x → In o (object_refs x) → Lost o
  lost-step p o x l e i = (l.0, l.1, reach-step s (refs_of_goroutine (find l.0 s.goroutines)) p o x l.2 e i)

  lost-prevents_removal : (o : ℕ) → Lost o → (has_finaliser s o ≡ false) × (has_object (live_list s) o ≡ false)
  lost-prevents_removal o l = or_parts (has_finaliser s o) (has_object (live_list s) o) (ok.barred l.0 o l.1 l.2)

  pub lost-finalised : (o : ℕ) → Lost o → In o (keys s.finalisers) → ⊥
  lost-finalised o l h = both_ways (has_finaliser s o) (lost-prevents_removal o l).0
      (is_in-from o (keys s.finalisers) h)

  lost-live : (o : ℕ) → Lost o → Live s (Node.AnObject o) → ⊥
  lost-live o l h = both_ways (has_object (live_list s) o) (lost-prevents_removal o l).1
      (has_object-complete (live_list s) o (live_list-complete s (Node.AnObject o) h))

  lost-given : (o : ℕ) → Lost o → o ≤ s.last_object
  lost-given o l =
      let d = ok.dead l.0 l.1 in
      let xs : List ℕ = refs_of_goroutine (find l.0 s.goroutines) in
      let a : UpTo s.last_object xs = subst (UpTo s.last_object) (sym (refs-of l.0 d.0 d.1))
      (goroutine-in s n l.0 d.0 d.1) in
      Reached-least (λ p. In p xs) (RefersTo s) (λ p. p ≤ s.last_object)
      (λ p i. Every-at (λ q. q ≤ s.last_object) xs p a i)
      (λ q p h t. Every-at (λ k. k ≤ s.last_object) (object_refs t.0) p (object-in s n q t.0 t.1) t.2) o
      (reach-sound s xs o l.2)

  pub lost-apart : (o : ℕ) → Lost o → Joined s (LiveObject s) o → ⊥
  lost-apart o l (inl (inl h)) = lost-live o l h
  lost-apart o l (inl (inr f)) = let b = lost-given o l in omega arith
  lost-apart o l (inr q) = lost-finalised o l q.0

  -- what is lost is outside the closed set and has no finaliser, and it stands as it stood, and so do the goroutines
  pub record Apart (O : ℕ → Type 0) (t : State) : Type 0 where
    pub outside : (o : ℕ) → Lost o → O o → ⊥
    pub unfinalised : (o f : ℕ) → Lost o → Entry t.finalisers o f → ⊥
    pub objects : (p : ℕ) (x : Object) → Lost p → Entry t.objects p x → Entry s.objects p x
    pub goroutines : (g : ℕ) (r : GoroutineView) → Gone g → Entry t.goroutines g r → Entry s.goroutines g r

  pub apart-start : Apart (LiveObject s) s
  apart-start = record {
    outside = λ o l h. lost-apart o l (inl h);
    unfinalised = λ o f l e. lost-finalised o l (In-keys s.finalisers o f e);
    objects = λ p x l e. e;
    goroutines = λ g r h e. e;
  }

  pub apart-confined : (O G : ℕ → Type 0) (t u : State) → ((g : ℕ) → G g → stays_by gone g ≡ true) → Confined O G t u
      → Apart O t → Apart O u
  apart-confined O G t u sub f a = record {
    outside = a.outside;
    unfinalised = λ o k l e. a.unfinalised o k l (f.finalisers.back o k (a.outside o l) e);
    objects = λ p x l e. a.objects p x l (f.objects.back p x (a.outside p l) e);
    goroutines = λ g r h e. a.goroutines g r h
        (f.goroutines.back g r (λ m. cc (sub g m, ap not (is_in-from g gone h))) e);
  }

  pub apart-collect : (O : ℕ → Type 0) (t : State) → Apart O t → Apart (Joined t O) (plain_collect t)
  apart-collect O t a = record {
    outside = λ o l h. elim h [
      | inl m ↦ a.outside o l m
      | inr q ↦ let r = Entry-keys t.finalisers o q.0 in a.unfinalised o r.0 l r.1
    ];
    unfinalised = λ o f l e. a.unfinalised o f l
        (Entry-only (λ p. is_in p (reach t (sources t []))) t.finalisers o f e).1;
    objects = a.objects;
    goroutines = a.goroutines;
  }
