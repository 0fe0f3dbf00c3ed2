-- Of alike states each turn of one is alike to a turn of the other.
-- For: `AlikeStatesStandFor`, specs/Laws.antt; `step`, golf_model/specs/Turn.antt
-- By: cases of the goroutine's next turn; the changes of both turns, and then what is cleared
use Rattle.std.proofs.Common.{◌≡◌, ℕ, ◌+◌, ◌*◌, ◌/◌, ◌%◌, ◌==◌, Bool, true, false, not, ◌&&◌, ◌||◌, cond, List, [], ◌∷◌}
use Rattle.std.proofs.Common.{length, Option, Some, None, slice_get, inl, inr, refl, sym, ap, ◌∙◌, subst}
use Rattle.std.proofs.lemmas.Bool.{eqb-true}
use Rattle.std.proofs.lemmas.Nat.{div-mul-add, mod-mul-add}
use Rattle.golf_theory.specs.Membership.{In}
use Rattle.golf_theory.specs.Maps.{find, IsRising}
use Rattle.golf_theory.proofs.Lists.{In-slice_get}
use Rattle.golf_theory.proofs.MapEntries.{Entry-find, In-keys_where, Entry-keys_where}
use Rattle.golf_theory.proofs.MapFinds.{find-Entry, cases_find}
use Rattle.golf_data.specs.declared.code.Code.{Code}
use Rattle.golf_data.specs.declared.code.CodeLine.{CodeLine}
use Rattle.golf_data.specs.declared.goroutine.Leaving.{Leaving}
use Rattle.golf_data.specs.declared.goroutine.Mode.{Mode}
use Rattle.golf_data.specs.declared.goroutine.Queued.{Queued}
use Rattle.golf_data.specs.declared.value.Value.{Value}
use Rattle.golf_model.specs.Views.{FrameView, GoroutineView}
use Rattle.golf_model.specs.State.{State, is_running, can_run, runnable, not_empty, ending, call_frame}
use Rattle.golf_model.specs.Changes.{Change, apply_all}
use Rattle.golf_model.specs.Actors.{on_some}
use Rattle.golf_model.specs.Finalisers.{begins_queued}
use Rattle.golf_model.specs.ClearedSlots.{clears, clearing}
use Rattle.golf_model.specs.Turn.{line_at, performs, frame_changes, goroutine_changes, turn_of, turn_changes}
use Rattle.golf_model.specs.Turn.{return_line, whose_turn, goroutine_collects, step}
use Rattle.golf_model_futures.specs.Orderly.{IsOrderly}
use Rattle.golf_model_futures.proofs.Keeping.{order-step}
use Rattle.golf_explore_laws.specs.After.{after}
use Rattle.golf_explore_laws.specs.Alike.{AlikeBy, IsAlike, IsWellOrdered, AreAlike}
use Rattle.golf_explore_laws.proofs.Alike.Partners.{partner-of, absent-of}
use Rattle.golf_explore_laws.proofs.Alike.Kinds.{can-same}
use Rattle.golf_explore_laws.proofs.Alike.Parts.{same-view, clears-same, alike-silent}
use Rattle.golf_explore_laws.proofs.Alike.ChangeLists.{AllSimple, AllSame, all-simple, alike-changes, alike-changes-by}
use Rattle.golf_explore_laws.proofs.Alike.ChangeLists.{same-empty}
use Rattle.golf_explore_laws.proofs.Alike.Instructions.{shown, all-same, instructions-same, leaves_returning-same}
use Rattle.golf_explore_laws.proofs.Alike.Instructions.{leaves_unwinding-same}
use Rattle.golf_explore_laws.proofs.Choices.{stepped}
use Rattle.golf_explore_laws.proofs.Exchanging.{place-of}
use Rattle.golf_explore_laws.proofs.Following.{whose}
use Rattle.golf_explore_laws.proofs.LocalKeeps.{numbered-after}

running-of : (m : Mode) → is_running m ≡ true → m ≡ Mode.Running
running-of Mode.Running e = refl
running-of (Mode.Blocked kind line waits ticket) e = cc

left-part : (b c : Bool) → (b && c) ≡ true → b ≡ true
left-part true c e = refl
left-part false c e = cc

-- ---- the changes of a goroutine and of its partner

module _ (ps : List (ℕ × ℕ)) (s t : State) (al : AlikeBy ps s t) (rs : IsRising s.goroutines)
    (rt : IsRising t.goroutines) (os : IsOrderly s) (ot : IsOrderly t) (code : Code) (choice g h : ℕ)
    (i : In (g, h) ps) (r : GoroutineView) (on : r.mode ≡ Mode.Running) where
  abbrev Same : List Change → List Change → Type 0
  Same = AllSame ps s t

  begun : (z : In (0, 0) ps) (q : Queued) (m : Option FrameView)
      → AllSimple ps (on_some (λ x. Change.TakeQueued ∷ Change.Become 0 (record r { frames = x ∷ [] }) ∷ []) m)
      (on_some (λ x. Change.TakeQueued ∷ Change.Become 0 (record r { frames = x ∷ [] }) ∷ []) m)
  begun z q None = refl
  begun z q (Some x) = (_, _, refl, refl, (_, [], refl, (0, z, on, refl), refl))

  begins-same : (z : In (0, 0) ps) (qs : List Queued)
      → AllSimple ps (begins_queued code r qs) (begins_queued code r qs)
  begins-same z [] = refl
  begins-same z (q ∷ qs) = begun z q (call_frame code q.function (Value.Ref q.object ∷ []) true)

  queued-same : (b : Bool) → g == 0 ≡ b
      → Same (cond b (begins_queued code r s.queue) []) (cond b (begins_queued code r t.queue) [])
  queued-same false e = refl
  queued-same true e =
      let zero = eqb-true g 0 e in
      let other = eqb-true h 0 (sym (al.zero_one g h i).0 ∙ e) in
      let z : In (0, 0) ps = subst (λ k. In (k, 0) ps) zero (subst (λ k. In (g, k) ps) other i) in
      subst (λ qs. Same (begins_queued code r s.queue) (begins_queued code r qs))
      (ap (λ (u : State). u.queue) al.others)
      (all-simple ps s t (begins_queued code r s.queue) (begins_queued code r s.queue) (begins-same z s.queue))

  performs-same : (f : FrameView) (fs : List FrameView) (m : Option CodeLine)
      → Same (performs code g r f fs choice s m) (performs code h r f fs choice t m)
  performs-same f fs None = refl
  performs-same f fs (Some l) = all-same ps s t al g h i f fs r.started l.line rs rt os ot _ _
      (instructions-same ps s t al g h i f fs r.started l.line rs rt os ot code l.instr choice)

  frame-same : (f : FrameView) (fs : List FrameView) (m : Leaving)
      → Same (frame_changes code g r f fs choice s m) (frame_changes code h r f fs choice t m)
  frame-same f fs Leaving.No = performs-same f fs (line_at code f.function f.at)
  frame-same f fs (Leaving.Returning v) = all-simple ps s t _ _
      (shown ps s t al g h i f fs r.started (return_line code f) _ _
      (leaves_returning-same ps s t al g h i f fs r.started (return_line code f) code v f.deferred))
  frame-same f fs (Leaving.Unwinding x) = all-simple ps s t _ _
      (shown ps s t al g h i f fs r.started x.line _ _
      (leaves_unwinding-same ps s t al g h i f fs r.started x.line code x f.deferred))

  pub goroutine-same : (fs : List FrameView)
      → Same (goroutine_changes code g r choice s fs) (goroutine_changes code h r choice t fs)
  goroutine-same [] = subst (λ b. Same (cond (g == 0) (begins_queued code r s.queue) [])
      (cond b (begins_queued code r t.queue) [])) (al.zero_one g h i).0 (queued-same (g == 0) refl)
  goroutine-same (f ∷ fs) = frame-same f fs f.leaving

-- ---- what is cleared after it

module _ (code : Code) (qs : List (ℕ × ℕ)) (u v : State) (al : AlikeBy qs u v) (g h : ℕ) (i : In (g, h) qs) where
  cleared-same : AllSimple qs (clears code g (find g u.goroutines)) (clears code h (find h v.goroutines))
  cleared-same = elim (cases_find g u.goroutines) [
    | inl n ↦
        subst (λ m. AllSimple qs (clears code g m) (clears code h (find h v.goroutines))) (sym n)
        (subst (λ m. AllSimple qs [] (clears code h m)) (sym (absent-of qs u v al g h i n)) refl)
    | inr x ↦
        let y = partner-of qs u v al g h i x.0 x.1 in
        subst (λ m. AllSimple qs (clears code g m) (clears code h (find h v.goroutines))) (sym x.1)
        (subst (λ m. AllSimple qs (clears code g (Some x.0)) (clears code h m)) (sym y.1)
        (clears-same code qs g h i x.0 y.0 y.2))
  ]

  pub alike-cleared : (b : Bool)
      → IsAlike (apply_all (clearing code b (Some g) u) u) (apply_all (clearing code b (Some h) v) v)
  alike-cleared true = (qs, al)
  alike-cleared false = alike-changes qs u v (clears code g (find g u.goroutines))
      (clears code h (find h v.goroutines)) al
      (all-simple qs u v (clears code g (find g u.goroutines)) (clears code h (find h v.goroutines)) cleared-same)

-- ---- the turn

module _ (code : Code) (s t : State) (p : AreAlike s t) (goes : ending s ≡ None) (k : ℕ) where
  abbrev ps : List (ℕ × ℕ)
  ps = p.0.0

  abbrev al : AlikeBy ps s t
  al = p.0.1

  abbrev choice : ℕ
  choice = k / length (runnable s)

  -- a goroutine that runs in both states, with its partner
  pub record Runner : Type 0 where
    pub g : ℕ
    pub h : ℕ
    pub r : GoroutineView
    pub pair : In (g, h) ps
    pub left : find g s.goroutines ≡ Some r
    pub right : find h t.goroutines ≡ Some r
    pub on : r.mode ≡ Mode.Running
    pub whose_left : whose_turn s k ≡ Some g
    pub number : ℕ
    pub over : number / length (runnable t) ≡ choice
    pub whose_right : whose_turn t number ≡ Some h

  runner : Runner
  runner =
      let w = whose s k goes in
      let e = Entry-keys_where (can_run s.queue) s.goroutines w.0
      (In-slice_get (runnable s) (k % length (runnable s)) w.0 w.1) in
      let f = find-Entry s.goroutines w.0 e.0 p.1.0.goroutines_rise e.1 in
      let j = al.left w.0 e.0 f in
      let q = partner-of ps s t al w.0 j.0 j.1 e.0 f in
      let on = running-of e.0.mode (left-part (is_running e.0.mode) _ e.2) in
      let same = same-view e.0 q.0 on q.2 in
      let place = place-of j.0 (runnable t) (In-keys_where (can_run t.queue) t.goroutines j.0 q.0
      (Entry-find j.0 t.goroutines q.0 q.1)
      (sym (can-same ps s t al w.0 j.0 j.1 e.0 q.0 q.2) ∙ e.2)) in
      record {
        g = w.0;
        h = j.0;
        r = e.0;
        pair = j.1;
        left = f;
        right = q.1 ∙ ap Some (sym same);
        on = on;
        whose_left = w.1;
        number = choice * length (runnable t) + place.0;
        over = div-mul-add choice (length (runnable t)) place.0 place.1;
        whose_right = ap (slice_get (runnable t)) (mod-mul-add choice (length (runnable t)) place.0 place.1) ∙ place.2;
      }

  module _ (x : Runner) where
    abbrev cs : List Change
    cs = turn_changes code choice s (Some x.g)

    abbrev ds : List Change
    ds = turn_changes code choice t (Some x.h)

    changes-same : AllSame ps s t cs ds
    changes-same =
        subst (λ m. AllSame ps s t (turn_of code x.g choice s m) ds) (sym x.left)
        (subst (λ m. AllSame ps s t (turn_of code x.g choice s (Some x.r)) (turn_of code x.h choice t m)) (sym x.right)
        (goroutine-same ps s t al p.1.0.goroutines_rise p.2.0.goroutines_rise p.1.1 p.2.1 code choice x.g x.h x.pair x.r
        x.on x.r.frames))

    -- whether nothing is cleared
    abbrev flag : List Change → Option GoroutineView → Bool
    flag es m = goroutine_collects code m || not (not_empty es)

    here : step code s k ≡ (let u = apply_all cs s in apply_all (clearing code (flag cs (find x.g s.goroutines))
        (Some x.g) u) u)
    here = ap (λ m. stepped code s (turn_changes code choice s m) m) x.whose_left

    there : step code t x.number ≡ (let v = apply_all ds t in apply_all (clearing code (flag ds (find x.h t.goroutines))
        (Some x.h) v) v)
    there =
        ap (λ m. stepped code t (turn_changes code (x.number / length (runnable t)) t m) m) x.whose_right
        ∙ ap (λ c. stepped code t (turn_changes code c t (Some x.h)) (Some x.h)) x.over

    flags-same : flag cs (find x.g s.goroutines) ≡ flag ds (find x.h t.goroutines)
    flags-same =
        ap (flag cs) (x.left ∙ sym x.right)
        ∙ ap (λ b. goroutine_collects code (find x.h t.goroutines) || not b) (same-empty ps s t cs ds changes-same)

    stepped-alike : IsAlike (step code s k) (step code t x.number)
    stepped-alike =
        let q = alike-changes-by ps s t cs ds al changes-same in
        let u = apply_all cs s in
        let v = apply_all ds t in
        subst (λ (y : State). IsAlike y (step code t x.number)) (sym here)
        (subst (IsAlike (apply_all (clearing code (flag cs (find x.g s.goroutines)) (Some x.g) u) u)) (sym there)
        (subst (λ b. IsAlike (apply_all (clearing code (flag cs (find x.g s.goroutines)) (Some x.g) u) u)
        (apply_all (clearing code b (Some x.h) v) v)) flags-same
        (alike-cleared code q.0 u v q.2 x.g x.h (q.1 x.g x.h x.pair) (flag cs (find x.g s.goroutines)))))

-- the state after a turn is in order, output apart
order-after : (code : Code) (s : State) (k : ℕ) → IsWellOrdered s → IsWellOrdered (after code s k)
order-after code s k p =
    let o = order-step code s k p.0.goroutines_rise p.1 in
    (numbered-after code s k p.0, record { goroutines = o.goroutines; conditions = o.conditions })

pub alike-turns : (code : Code) (s t : State) (p : AreAlike s t) → ending s ≡ None → (k : ℕ)
    → (j : ℕ) × AreAlike (after code s k) (after code t j)
alike-turns code s t p goes k =
    let x = runner code s t p goes k in (
      x.number,
      (
        alike-silent (step code s k) (step code t x.number) (stepped-alike code s t p goes k x),
        order-after code s k p.1,
        order-after code t x.number p.2,
      ),
    )
