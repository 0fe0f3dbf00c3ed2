-- What is live, and what is seen at a collection, is the same in a cut state.
-- For: `Live`, golf_model/specs/LiveSet.antt; `sight`, golf_model/specs/Futures.antt
-- By: induction over the path by which a node is live
use Rattle.std.proofs.Common.{◌≡◌, ℕ, Bool, true, not, ◌&&◌, List, [], ◌∷◌, ◌++◌, filter, Option, refl, ap, ◌∙◌}
use Rattle.golf_theory.specs.Membership.{Every}
use Rattle.golf_theory.specs.Maps.{Entry, find, only, keys}
use Rattle.golf_theory.proofs.Lists.{Every-at, Every-from, In-filter, filter-same, filter-within}
use Rattle.golf_theory.proofs.Tests.{same_test}
use Rattle.golf_theory.proofs.MapEntries.{Entry-only, Entry-only_old, Entry-keys}
use Rattle.golf_theory.proofs.MapFinds.{find-only}
use Rattle.golf_theory.proofs.MapKeys.{keys-only, keys_where-only, keys_where-same}
use Rattle.golf_theory.proofs.Derivations.{Reached-root, Reached-step, Reached-least, Reached-over}
use Rattle.golf_data.specs.declared.report.Entry.{Entry as Reported}
use Rattle.golf_model.specs.Views.{GoroutineView}
use Rattle.golf_model.specs.Values.{refs}
use Rattle.golf_model.specs.State.{State, is_running}
use Rattle.golf_model.specs.Refs.{object_refs, goroutine_refs, queue_refs}
use Rattle.golf_model.specs.LiveSet.{Node, Live, LiveRoot, LiveStep, live_list, has_object, has_goroutine, live_objects}
use Rattle.golf_model.specs.LiveSet.{is_dead, dead}
use Rattle.golf_model.specs.Collections.{cut}
use Rattle.golf_model.specs.Reports.{entry_of, entries, without}
use Rattle.golf_model.specs.Futures.{sight}
use Rattle.golf_model.proofs.Agreeing.{live_list-sound, live_list-complete, has_object-sound, has_object-complete}
use Rattle.golf_model.proofs.Agreeing.{has_goroutine-sound, has_goroutine-complete}
use Rattle.golf_model_futures.specs.Invariant.{Closed}
use Rattle.golf_model_futures.proofs.Removing.{stays_by}

-- a member of the sets
abbrev pub Member : (ℕ → Type 0) → (ℕ → Type 0) → Node → Type 0
Member O G (Node.AnObject o) = O o
Member O G (Node.AGoroutine g) = G g

-- closed sets have all that is live
module _ (O G : ℕ → Type 0) (t : State) (c : Closed t O G) where
  root-in : (x : Node) → LiveRoot t x → Member O G x
  root-in _ (LiveRoot.Global o i) = Every-at O (refs t.globals) o c.globals i
  root-in _ (LiveRoot.InQueue o i) = Every-at O (queue_refs t.queue) o c.queue i
  root-in _ (LiveRoot.InFinalised o p x k e i) = let f =
      Entry-keys t.finalisers p k in Every-at O (object_refs x) o (c.finalised p f.0 x f.1 e) i
  root-in _ (LiveRoot.Running g r e u) = c.running g r e u
  root-in _ LiveRoot.FinaliserGoroutine = c.zero_in

  step-in : (q x : Node) → Member O G q → LiveStep t q x → Member O G x
  step-in _ _ m (LiveStep.InObject p o x e i) = Every-at O (object_refs x) o (c.objects p x m e) i
  step-in _ _ m (LiveStep.InGoroutine g o r e i) = Every-at O (goroutine_refs r) o (c.goroutines g r m e) i
  step-in _ _ m (LiveStep.Awakened o g r e i) = c.awake g r o e i m

  pub live-in : (x : Node) → Live t x → Member O G x
  live-in x l = Reached-least (LiveRoot t) (LiveStep t) (Member O G) root-in step-in x l

module _ (stays kept : ℕ → Bool) (O G : ℕ → Type 0) (t : State) (c : Closed t O G)
    (sub_o : (o : ℕ) → O o → kept o ≡ true) (sub_g : (g : ℕ) → G g → stays g ≡ true)
    (fin : (p f : ℕ) → Entry t.finalisers p f → kept p ≡ true) where
  root-within : (x : Node) → LiveRoot (cut stays kept t) x → LiveRoot t x
  root-within _ (LiveRoot.Global o i) = LiveRoot.Global o i
  root-within _ (LiveRoot.InQueue o i) = LiveRoot.InQueue o i
  root-within _ (LiveRoot.InFinalised o p x k e i) = LiveRoot.InFinalised o p x k (Entry-only kept t.objects p x e).1 i
  root-within _ (LiveRoot.Running g r e u) = LiveRoot.Running g r (Entry-only stays t.goroutines g r e).1 u
  root-within _ LiveRoot.FinaliserGoroutine = LiveRoot.FinaliserGoroutine

  step-within : (q x : Node) → LiveStep (cut stays kept t) q x → LiveStep t q x
  step-within _ _ (LiveStep.InObject p o x e i) = LiveStep.InObject p o x (Entry-only kept t.objects p x e).1 i
  step-within _ _ (LiveStep.InGoroutine g o r e i) =
      LiveStep.InGoroutine g o r (Entry-only stays t.goroutines g r e).1 i
  step-within _ _ (LiveStep.Awakened o g r e i) = LiveStep.Awakened o g r (Entry-only stays t.goroutines g r e).1 i

  pub live-within : (x : Node) → Live (cut stays kept t) x → Live t x
  live-within x l = Reached-over (LiveRoot (cut stays kept t)) (LiveStep (cut stays kept t)) (LiveRoot t) (LiveStep t)
      (λ y. y) root-within step-within x l

  abbrev Both : Node → Type 0
  Both x = Live (cut stays kept t) x × Member O G x

  both_root : (x : Node) → LiveRoot (cut stays kept t) x → Member O G x → Both x
  both_root x h m = (Reached-root (LiveRoot (cut stays kept t)) (LiveStep (cut stays kept t)) x h, m)

  both_step : (q x : Node) → Both q → LiveStep (cut stays kept t) q x → Member O G x → Both x
  both_step q x b h m = (Reached-step (LiveRoot (cut stays kept t)) (LiveStep (cut stays kept t)) q x b.0 h, m)

  root-cut : (x : Node) → LiveRoot t x → Both x
  root-cut _ (LiveRoot.Global o i) = both_root (Node.AnObject o) (LiveRoot.Global o i)
      (Every-at O (refs t.globals) o c.globals i)
  root-cut _ (LiveRoot.InQueue o i) = both_root (Node.AnObject o) (LiveRoot.InQueue o i)
      (Every-at O (queue_refs t.queue) o c.queue i)
  root-cut _ (LiveRoot.InFinalised o p x k e i) =
      let f = Entry-keys t.finalisers p k in
      both_root (Node.AnObject o) (LiveRoot.InFinalised o p x k (Entry-only_old kept t.objects p x (fin p f.0 f.1) e) i)
      (Every-at O (object_refs x) o (c.finalised p f.0 x f.1 e) i)
  root-cut _ (LiveRoot.Running g r e u) =
      let m = c.running g r e u in both_root (Node.AGoroutine g)
      (LiveRoot.Running g r (Entry-only_old stays t.goroutines g r (sub_g g m) e) u) m
  root-cut _ LiveRoot.FinaliserGoroutine = both_root (Node.AGoroutine 0) LiveRoot.FinaliserGoroutine c.zero_in

  step-cut : (q x : Node) → Both q → LiveStep t q x → Both x
  step-cut _ _ b (LiveStep.InObject p o x e i) =
      both_step (Node.AnObject p) (Node.AnObject o) b
      (LiveStep.InObject p o x (Entry-only_old kept t.objects p x (sub_o p b.1) e) i)
      (Every-at O (object_refs x) o (c.objects p x b.1 e) i)
  step-cut _ _ b (LiveStep.InGoroutine g o r e i) =
      both_step (Node.AGoroutine g) (Node.AnObject o) b
      (LiveStep.InGoroutine g o r (Entry-only_old stays t.goroutines g r (sub_g g b.1) e) i)
      (Every-at O (goroutine_refs r) o (c.goroutines g r b.1 e) i)
  step-cut _ _ b (LiveStep.Awakened o g r e i) =
      let m = c.awake g r o e i b.1 in
      both_step (Node.AnObject o) (Node.AGoroutine g) b
      (LiveStep.Awakened o g r (Entry-only_old stays t.goroutines g r (sub_g g m) e) i) m

  -- what is live is live in the cut state, and a member
  pub live-cut : (x : Node) → Live t x → Both x
  live-cut x l = Reached-least (LiveRoot t) (LiveStep t) Both root-cut step-cut x l

  pub same-live_object : (o : ℕ) → has_object (live_list (cut stays kept t)) o ≡ has_object (live_list t) o
  same-live_object o = same_test _ _
      (λ h. has_object-complete (live_list t) o
      (live_list-complete t (Node.AnObject o)
      (live-within (Node.AnObject o) (live_list-sound (cut stays kept t) (Node.AnObject o)
      (has_object-sound (live_list (cut stays kept t)) o h)))))
      (λ h. has_object-complete (live_list (cut stays kept t)) o
      (live_list-complete (cut stays kept t) (Node.AnObject o)
      (live-cut (Node.AnObject o) (live_list-sound t (Node.AnObject o) (has_object-sound (live_list t) o h))).0))

  pub same-live_goroutine : (g : ℕ) → has_goroutine (live_list (cut stays kept t)) g ≡ has_goroutine (live_list t) g
  same-live_goroutine g = same_test _ _
      (λ h. has_goroutine-complete (live_list t) g
      (live_list-complete t (Node.AGoroutine g)
      (live-within (Node.AGoroutine g) (live_list-sound (cut stays kept t) (Node.AGoroutine g)
      (has_goroutine-sound (live_list (cut stays kept t)) g h)))))
      (λ h. has_goroutine-complete (live_list (cut stays kept t)) g
      (live_list-complete (cut stays kept t) (Node.AGoroutine g)
      (live-cut (Node.AGoroutine g) (live_list-sound t (Node.AGoroutine g)
      (has_goroutine-sound (live_list t) g h))).0))

  pub same-live_objects : live_objects (cut stays kept t) ≡ live_objects t
  same-live_objects =
      filter-same (has_object (live_list (cut stays kept t))) (has_object (live_list t)) (keys (only kept t.objects))
      (Every-from _ (keys (only kept t.objects)) (λ o i. same-live_object o))
      ∙ ap (filter (has_object (live_list t))) (keys-only kept t.objects)
      ∙ filter-within (has_object (live_list t)) kept (keys t.objects)
      (λ o h. sub_o o (live-cut (Node.AnObject o)
      (live_list-sound t (Node.AnObject o) (has_object-sound (live_list t) o h))).1)

  pub same-dead : dead (cut stays kept t) ≡ filter stays (dead t)
  same-dead =
      keys_where-only (is_dead (live_list (cut stays kept t))) stays t.goroutines
      ∙ ap (filter stays) (keys_where-same (is_dead (live_list (cut stays kept t))) (is_dead (live_list t)) t.goroutines
      (λ g r e. ap (λ b. not (is_running r.mode) && not b) (same-live_goroutine g)))

-- entries of goroutines that stay
pub entries-cut : (stays kept : ℕ → Bool) (t : State) (gs : List ℕ) → Every (λ g. stays g ≡ true) gs
    → entries (cut stays kept t) gs ≡ entries t gs
entries-cut stays kept t [] h = refl
entries-cut stays kept t (g ∷ gs) h =
    ap (λ (m : Option GoroutineView). entry_of g m ++ entries (cut stays kept t) gs)
    (find-only stays t.goroutines g h.0)
    ∙ ap (λ (es : List Reported). entry_of g (find g t.goroutines) ++ es) (entries-cut stays kept t gs h.1)

-- what is seen right before a collection
pub same-sight : (gone : List ℕ) (kept : ℕ → Bool) (O G : ℕ → Type 0) (t : State) → Closed t O G
    → ((o : ℕ) → O o → kept o ≡ true) → ((g : ℕ) → G g → stays_by gone g ≡ true)
    → ((p f : ℕ) → Entry t.finalisers p f → kept p ≡ true) → sight gone (cut (stays_by gone) kept t) ≡ sight gone t
same-sight gone kept O G t c sub_o sub_g fin =
    let a = same-live_objects (stays_by gone) kept O G t c sub_o sub_g fin in
    let twice = ap (filter (stays_by gone)) (same-dead (stays_by gone) kept O G t c sub_o sub_g fin)
    ∙ filter-within (stays_by gone) (stays_by gone) (dead t) (λ g h. h) in
    let b = ap (entries (cut (stays_by gone) kept t)) twice
    ∙ entries-cut (stays_by gone) kept t (without (dead t) gone)
    (Every-from (λ g. stays_by gone g ≡ true) (without (dead t) gone)
    (λ g i. (In-filter (stays_by gone) g (dead t) i).1)) in
    λ i. record { live = a i; dead = b i }
