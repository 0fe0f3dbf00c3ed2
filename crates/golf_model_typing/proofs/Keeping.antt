-- Each kind of change that keeps types leaves a typed state, and so does a list of them.
-- For: `apply`, golf_model/specs/Changes.antt; the law `changes_keep_types`, src/lib.rt.
-- By: induction over the list of changes; cases of the kind of change.
use Rattle.std.proofs.Common.{◌≡◌, ℕ, ◌+◌, ◌≤◌, Bool, true, false, not, List, [], ◌∷◌, ◌++◌, Option, Some, None, ◌==◌}
use Rattle.std.proofs.Common.{◌||◌, inl, inr, refl, sym, ap, ◌∙◌, subst, arith, slice_set}
use Rattle.std.proofs.lemmas.Bool.{eqb-true, eqb-false}
use Rattle.golf_theory.specs.Maps.{Entry, find, put, add, insert, only, map_values}
use Rattle.golf_theory.specs.Membership.{Every}
use Rattle.golf_theory.proofs.Lists.{Every-weaker}
use Rattle.golf_theory.proofs.MapEntries.{Entry-find, Entry-put, Entry-add, Entry-only, Entry-map_values_back}
use Rattle.golf_theory.proofs.MapFinds.{cases_find, find-put, find-put_other, put-none, find-add, find-add_other}
use Rattle.golf_theory.proofs.MapFinds.{find-add_old}
use Rattle.golf_theory.proofs.Insert.{Entry-insert}
use Rattle.golf_data.specs.declared.value.Value.{Value}
use Rattle.golf_data.specs.declared.value.Object.{Object}
use Rattle.golf_data.specs.declared.goroutine.Ending.{Ending}
use Rattle.golf_data.specs.declared.goroutine.Mode.{Mode}
use Rattle.golf_data.specs.declared.goroutine.Wait.{Wait}
use Rattle.golf_data.specs.declared.goroutine.Queued.{Queued}
use Rattle.golf_model.specs.Views.{FrameView, GoroutineView}
use Rattle.golf_model.specs.State.{State, not_empty}
use Rattle.golf_model.specs.Wakes.{woken_by, released}
use Rattle.golf_model.specs.Changes.{Change, apply, apply_all, behind_first, become, moved, moved_waits, requeue_by}
use Rattle.golf_model.specs.Changes.{requeue}
use Rattle.golf_model_typing.specs.Types.{ValueType, Typing, HasType, ValuesFit, ObjectFits}
use Rattle.golf_model_typing.specs.Grows.{Grows}
use Rattle.golf_model_typing.specs.WellTyped.{BlockedFits, ModeFits, GoroutineFits, LacksNothing, FinaliserFits}
use Rattle.golf_model_typing.specs.WellTyped.{WellTyped, ChangeFits, ChangesFit}
use Rattle.golf_model_typing.proofs.Growing.{values-more, object-more, goroutine-more, call-more}
use Rattle.golf_model_typing.proofs.Changing.{values-set, or_true, released-at, lacks_none}
use Rattle.golf_model_typing.proofs.Waking.{woken-fits}

module _ (types : Typing) (known : List (ℕ × ValueType)) (s : State) (w : WellTyped types known s) where
  typed-goroutines : (gs : List (ℕ × GoroutineView)) (next ticket : ℕ)
      → ((g : ℕ) (r : GoroutineView) → Entry gs g r → GoroutineFits types known g r)
      → WellTyped types known (record s { goroutines = gs; next_goroutine = next; next_ticket = ticket })
  typed-goroutines gs next ticket h = record {
    globals = w.globals;
    objects = w.objects;
    goroutines = h;
    finalisers = w.finalisers;
    queue = w.queue;
    below = w.below;
    fresh = w.fresh;
  }

  typed-put : (g : ℕ) (r : GoroutineView) (ticket : ℕ) → GoroutineFits types known g r
      → WellTyped types known (record s { goroutines = put g r s.goroutines; next_ticket = ticket })
  typed-put g r ticket h = typed-goroutines (put g r s.goroutines) s.next_goroutine ticket
      (λ k q e. elim (Entry-put g r s.goroutines k q e) [
        | inl a ↦ subst (λ z. GoroutineFits types known k z) (sym a.1)
            (subst (λ n. GoroutineFits types known n r) (sym a.0) h)
        | inr a ↦ w.goroutines k q a
      ])

  typed-finalisers : (fs : List (ℕ × ℕ)) → ((o f : ℕ) → Entry fs o f → FinaliserFits types known o f)
      → WellTyped types known (record s { finalisers = fs })
  typed-finalisers fs h = record {
    globals = w.globals;
    objects = w.objects;
    goroutines = w.goroutines;
    finalisers = h;
    queue = w.queue;
    below = w.below;
    fresh = w.fresh;
  }

  typed-rest : (vs : List Value) (qs : List Queued) (bytes : List ℕ) (e : Option Ending)
      → ValuesFit types.of known vs types.of.globals
      → Every (λ (q : Queued). FinaliserFits types known q.object.0 q.function) qs
      → WellTyped types known (record s { globals = vs; queue = qs; output = bytes; recorded = e })
  typed-rest vs qs bytes e a b = record {
    globals = a;
    objects = w.objects;
    goroutines = w.goroutines;
    finalisers = w.finalisers;
    queue = b;
    below = w.below;
    fresh = w.fresh;
  }

  typed-replace : (o : ℕ) (t : ValueType) (x : Object) → HasType known o t → ObjectFits types.of known x t
      → WellTyped types known (record s { objects = put o x s.objects })
  typed-replace o t x k h = record {
    globals = w.globals;
    objects = λ p u y i e. elim (p == o) as (λ b. p == o ≡ b → ObjectFits types.of known y u) [
      | true ↦ λ q.
          let same : p ≡ o = eqb-true p o q in
          let one : u ≡ t = cc (ap (λ n. find n known) same, i, k) in
          elim (cases_find o s.objects) [
            | inl a ↦ w.objects p u y i (ap (λ es. find p es) (sym (put-none o x s.objects a)) ∙ e)
            | inr a ↦
                let is : x ≡ y = cc (ap (λ n. find n (put o x s.objects)) same, e, find-put o x s.objects a.0 a.1) in
                subst (λ z. ObjectFits types.of known z u) is (subst (ObjectFits types.of known x) (sym one) h)
          ]
      | false ↦ λ q. w.objects p u y i (sym (find-put_other o x s.objects p (eqb-false p o q)) ∙ e)
    ] refl;
    goroutines = w.goroutines;
    finalisers = w.finalisers;
    queue = w.queue;
    below = w.below;
    fresh = λ p l. elim (cases_find p (put o x s.objects)) [
      | inl a ↦ a
      | inr a ↦ absurd (let none = w.fresh p l in elim (p == o) as (λ b. p == o ≡ b → ⊥) [
        | true ↦ λ q.
            let same : p ≡ o = eqb-true p o q in
            let n : find o s.objects ≡ None = ap (λ m. find m s.objects) (sym same) ∙ none in
            let f : find p s.objects ≡ Some a.0 = ap (λ es. find p es) (sym (put-none o x s.objects n)) ∙ a.1 in
            cc (none, f)
        | false ↦ λ q. let f : find p s.objects ≡ Some a.0 = sym (find-put_other o x s.objects p (eqb-false p o q))
            ∙ a.1 in cc (none, f)
      ] refl)
    ];
  }

  -- the number of the next object is not known; once it is, everything else stays known
  pub known-more : (t : ValueType) → ((o : ℕ) (u : ValueType) → HasType known o u
      → HasType (add (s.last_object + 1) t known) o u) × HasType (add (s.last_object + 1) t known) (s.last_object + 1) t
  known-more t =
      let n = s.last_object + 1 in
      let unknown : find n known ≡ None = elim (cases_find n known) [
        | inl a ↦ a
        | inr a ↦ absurd
            (let b = w.below n a.0 a.1 in omega arith)
      ] in
      (λ o u i. find-add_old n t known o u i, find-add n t known unknown)

  -- a new object joins the known ones
  pub typed-make : (x : Object) (t : ValueType) → ObjectFits types.of known x t
      → WellTyped types (add (s.last_object + 1) t known) (apply (Change.Make x) s)
  typed-make x t h =
      let n = s.last_object + 1 in
      let later = add n t known in
      let unknown : find n known ≡ None = elim (cases_find n known) [
        | inl a ↦ a
        | inr a ↦ absurd
            (let b = w.below n a.0 a.1 in omega arith)
      ] in
      let new : find n later ≡ Some t = find-add n t known unknown in
      let grows : (o : ℕ) (u : ValueType) → HasType known o u → HasType later o u =
      λ o u i. find-add_old n t known o u i in
      let other : (p : ℕ) → (p ≡ n → ⊥) → find p later ≡ find p known = λ p q. find-add_other n t known p q in record {
        globals = values-more types known later grows s.globals types.of.globals w.globals;
        objects = λ p u y i e. elim (p == n) as (λ b. p == n ≡ b → ObjectFits types.of later y u) [
          | true ↦ λ q.
              let same : p ≡ n = eqb-true p n q in
              let one : t ≡ u = cc (ap (λ m. find m later) same, i, new) in
              let is : x ≡ y = cc (
                ap (λ m. find m (add n x s.objects)) same,
                e,
                find-add n x s.objects (w.fresh n (omega arith)),
              ) in
              subst (λ z. ObjectFits types.of later z u) is
              (subst (ObjectFits types.of later x) one (object-more types known later grows x t h))
          | false ↦ λ q. object-more types known later grows y u
              (w.objects p u y (sym (other p (eqb-false p n q)) ∙ i)
              (sym (find-add_other n x s.objects p (eqb-false p n q)) ∙ e))
        ] refl;
        goroutines = λ g r e. goroutine-more types known later grows g r (w.goroutines g r e);
        finalisers = λ o f e. call-more types known later grows f (Value.Ref (record { 0 = o }) ∷ [])
            (w.finalisers o f e);
        queue = Every-weaker (λ (q : Queued). FinaliserFits types known q.object.0 q.function)
            (λ (q : Queued). FinaliserFits types later q.object.0 q.function)
            (λ q i. call-more types known later grows q.function (Value.Ref q.object ∷ []) i) s.queue w.queue;
        below = λ p u i. elim (p == n) as (λ b. p == n ≡ b → p ≤ n) [
          | true ↦ λ q. let same : p ≡ n = eqb-true p n q in omega arith
          | false ↦ λ q. let b = w.below p u (sym (other p (eqb-false p n q)) ∙ i) in omega arith
        ] refl;
        fresh = λ p l. find-add_other n x s.objects p (λ q. omega arith) ∙ w.fresh p (omega arith);
      }

module _ (types : Typing) (known : List (ℕ × ValueType)) (s : State) (w : WellTyped types known s) where
  -- who lacks nothing can be released, and can wait for a mutex instead
  released-lacking : (g : ℕ) (r : GoroutineView) (m : Mode) → r.mode ≡ m → LacksNothing types known m
      → GoroutineFits types known g r → GoroutineFits types known g (released r)
  released-lacking g r Mode.Running e l h = (subst (ModeFits types known r.frames) e h.0, h.1)
  released-lacking g r (Mode.Blocked kind line [] ticket) e l h = absurd l
  released-lacking g r (Mode.Blocked kind line (u ∷ us) ticket) e l h =
      released-at types known g u (u ∷ us) r l.0 l.1 (inl refl) (subst (ModeFits types known r.frames) e h.0).0

  moved-lacking : (g m k : ℕ) (r : GoroutineView) (d : Mode) → HasType known m ValueType.Mutex
      → LacksNothing types known d → ModeFits types known r.frames d → ModeFits types known r.frames (moved m k d)
  moved-lacking g m k r Mode.Running t l h = h
  moved-lacking g m k r (Mode.Blocked kind line [] ticket) t l h = absurd l
  moved-lacking g m k r (Mode.Blocked kind line (u ∷ us) ticket) t l h = (go r.frames h.0, ((λ e. cc), tt))
    where
      go : (fs : List FrameView) → BlockedFits types known (u ∷ us) fs
          → BlockedFits types known (moved_waits m (u ∷ us)) fs
      go [] b = absurd b
      go (f ∷ fs) b = (b.0, b.1, ((t, lacks_none types known b.0 f u u.side l.0 l.1 b.2.0), tt), b.3)

  typed-requeue_by : (g m : ℕ) → HasType known m ValueType.Mutex → (locked : Bool) (r : GoroutineView)
      → LacksNothing types known r.mode → GoroutineFits types known g r
      → WellTyped types known (requeue_by locked g m r s)
  typed-requeue_by g m t false r l h = typed-replace types known (become g (released r) s)
      (typed-put types known s w g (released r) s.next_ticket (released-lacking g r r.mode refl l h)) m ValueType.Mutex
      (Object.Mutex true) t refl
  typed-requeue_by g m t true r l h = typed-put types known s w g (record r { mode = moved m s.next_ticket r.mode })
      (s.next_ticket + 1) (moved-lacking g m s.next_ticket r r.mode t l h.0, h.1)

  typed-requeue : (g m : ℕ) → HasType known m ValueType.Mutex → (r : Option GoroutineView) (x : Option Object)
      → find g s.goroutines ≡ r → ((q : GoroutineView) → find g s.goroutines ≡ Some q → LacksNothing types known q.mode)
      → WellTyped types known (requeue g m r x s)
  typed-requeue g m t None x e h = w
  typed-requeue g m t (Some r) None e h = w
  typed-requeue g m t (Some r) (Some (Object.Struct fields)) e h = w
  typed-requeue g m t (Some r) (Some (Object.Slice elements)) e h = w
  typed-requeue g m t (Some r) (Some (Object.Chan c)) e h = w
  typed-requeue g m t (Some r) (Some (Object.Mutex locked)) e h =
      typed-requeue_by g m t locked r (h r e) (w.goroutines g r (Entry-find g s.goroutines r e))
  typed-requeue g m t (Some r) (Some (Object.Group n)) e h = w
  typed-requeue g m t (Some r) (Some (Object.Rw n)) e h = w
  typed-requeue g m t (Some r) (Some (Object.Cond v)) e h = w

  behind : (qs : List Queued) → Every (λ (q : Queued). FinaliserFits types known q.object.0 q.function) qs
      → Every (λ (q : Queued). FinaliserFits types known q.object.0 q.function) (behind_first qs)
  behind [] h = tt
  behind (q ∷ qs) h = h.1

  has_frame : (g : ℕ) (waits : List Wait) (fs : List FrameView) → BlockedFits types known waits fs
      → ((g == 0) || not_empty fs) ≡ true
  has_frame g waits [] b = absurd b
  has_frame g waits (f ∷ fs) b = or_true (g == 0)

  pub typed-change : (c : Change) → ChangeFits types known s c → WellTyped types known (apply c s)
  typed-change (Change.Make x) a = absurd a
  typed-change (Change.Replace o x) a = typed-replace types known s w o a.0 x a.1 a.2
  typed-change (Change.SetGlobal i v) a =
      typed-rest types known s w (slice_set s.globals i v) s.queue s.output s.recorded
      (values-set types known s.globals types.of.globals i a.0 v a.1 a.2 w.globals) w.queue
  typed-change (Change.Become g r) a = typed-put types known s w g r s.next_ticket a
  typed-change (Change.Block g kind line waits r) a =
      typed-put types known s w g (record r { mode = Mode.Blocked kind line waits s.next_ticket }) (s.next_ticket + 1)
      (a, has_frame g waits r.frames a.0)
  typed-change (Change.Spawn r) a = typed-goroutines types known s w (add s.next_goroutine r s.goroutines)
      (s.next_goroutine + 1) s.next_ticket
      (λ g q e. elim (Entry-add s.next_goroutine r s.goroutines g q e) [
        | inl b ↦ subst
            (λ z. GoroutineFits types known g z) (sym b.1) (a.0, ap (λ b. (g == 0) || b) a.1 ∙ or_true (g == 0))
        | inr b ↦
            w.goroutines g q b
      ])
  typed-change (Change.Leave g) a = typed-goroutines types known s w
      (only (λ k. not (k == g)) s.goroutines) s.next_goroutine s.next_ticket
      (λ k q e. w.goroutines k q (Entry-only (λ j. not (j == g)) s.goroutines k q e).1)
  typed-change (Change.Finish e) a = typed-rest types known s w s.globals s.queue s.output (Some e) w.globals w.queue
  typed-change (Change.SetFinaliser o f) a = typed-finalisers types known s w (insert o f s.finalisers)
      (λ p k e. elim (Entry-insert o f s.finalisers p k e) [
        | inl b ↦ subst (λ n. FinaliserFits types known p n)
            (sym b.1) (subst (λ n. FinaliserFits types known n f) (sym b.0) a)
        | inr b ↦ w.finalisers p k b
      ])
  typed-change (Change.ClearFinaliser o) a =
      typed-finalisers types known s w (only (λ p. not (p == o)) s.finalisers)
      (λ p k e. w.finalisers p k (Entry-only (λ q. not (q == o)) s.finalisers p k e).1)
  typed-change Change.TakeQueued a = typed-rest types known s w s.globals
      (behind_first s.queue) s.output s.recorded w.globals (behind s.queue w.queue)
  typed-change (Change.Output bytes) a = typed-rest types known s w s.globals s.queue
      (s.output ++ bytes) s.recorded w.globals w.queue
  typed-change (Change.WakeAll o how) a =
      typed-goroutines types known s w (map_values (λ g. woken_by how o) s.goroutines) s.next_goroutine s.next_ticket
      (λ g q e.
      let r = Entry-map_values_back (λ h. woken_by how o) s.goroutines g q e in
      subst (λ z. GoroutineFits types known g z) (sym r.2)
      (woken-fits types known g o r.0 (w.goroutines g r.0 r.1) how a))
  typed-change (Change.Requeue g m) a = typed-requeue g m a.0 (find g s.goroutines) (find m s.objects) refl a.1

-- changes one after another
pub typed-changes : (types : Typing) (known : List (ℕ × ValueType)) (cs : List Change) (s : State)
    → WellTyped types known s → ChangesFit types known s cs → (later : List (ℕ × ValueType))
    × WellTyped types later (apply_all cs s) × Grows known later
typed-changes types known [] s w a = (known, w, λ o t h. h)
typed-changes types known (Change.Make x ∷ cs) s w a =
    let more = known-more types known s w a.0 in
    let r = typed-changes types (add (s.last_object + 1) a.0 known) cs (apply (Change.Make x) s)
    (typed-make types known s w x a.0 a.1) a.2 in
    (r.0, r.1, λ o t h. r.2 o t (more.0 o t h))
typed-changes types known (Change.Replace o x ∷ cs) s w a =
    typed-changes types known cs (apply (Change.Replace o x) s)
    (typed-change types known s w (Change.Replace o x) a.0) a.1
typed-changes types known (Change.SetGlobal i v ∷ cs) s w a =
    typed-changes types known cs (apply (Change.SetGlobal i v) s)
    (typed-change types known s w (Change.SetGlobal i v) a.0) a.1
typed-changes types known (Change.Become g r ∷ cs) s w a =
    typed-changes types known cs (apply (Change.Become g r) s)
    (typed-change types known s w (Change.Become g r) a.0) a.1
typed-changes types known (Change.Block g kind line waits r ∷ cs) s w a =
    typed-changes types known cs (apply (Change.Block g kind line waits r) s)
    (typed-change types known s w (Change.Block g kind line waits r) a.0) a.1
typed-changes types known (Change.Spawn r ∷ cs) s w a =
    typed-changes types known cs (apply (Change.Spawn r) s) (typed-change types known s w (Change.Spawn r) a.0) a.1
typed-changes types known (Change.Leave g ∷ cs) s w a =
    typed-changes types known cs (apply (Change.Leave g) s) (typed-change types known s w (Change.Leave g) a.0) a.1
typed-changes types known (Change.Finish e ∷ cs) s w a =
    typed-changes types known cs (apply (Change.Finish e) s) (typed-change types known s w (Change.Finish e) a.0) a.1
typed-changes types known (Change.SetFinaliser o f ∷ cs) s w a =
    typed-changes types known cs (apply (Change.SetFinaliser o f) s)
    (typed-change types known s w (Change.SetFinaliser o f) a.0) a.1
typed-changes types known (Change.ClearFinaliser o ∷ cs) s w a =
    typed-changes types known cs (apply (Change.ClearFinaliser o) s)
    (typed-change types known s w (Change.ClearFinaliser o) a.0) a.1
typed-changes types known (Change.TakeQueued ∷ cs) s w a =
    typed-changes types known cs (apply Change.TakeQueued s) (typed-change types known s w Change.TakeQueued a.0) a.1
typed-changes types known (Change.Output bytes ∷ cs) s w a =
    typed-changes types known cs (apply (Change.Output bytes) s)
    (typed-change types known s w (Change.Output bytes) a.0) a.1
typed-changes types known (Change.WakeAll o how ∷ cs) s w a =
    typed-changes types known cs (apply (Change.WakeAll o how) s)
    (typed-change types known s w (Change.WakeAll o how) a.0) a.1
typed-changes types known (Change.Requeue g m ∷ cs) s w a =
    typed-changes types known cs (apply (Change.Requeue g m) s)
    (typed-change types known s w (Change.Requeue g m) a.0) a.1
