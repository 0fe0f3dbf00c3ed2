-- Starting a goroutine, waking all that wait on an object, and passing on keep states alike.
-- For: `IsAlike`, specs/Alike.antt
-- By: cases of the goroutine, of the waking, and of the mode
use Rattle.std.proofs.Common.{◌≡◌, ℕ, ◌+◌, ◌<◌, ◌==◌, true, false, List, ◌∷◌, Option, Some, None, inl, inr, refl, sym}
use Rattle.std.proofs.Common.{ap, ◌∙◌, subst, arith, ◌⊎◌}
use Rattle.std.specs.Prelude.{nat_lt, option_map}
use Rattle.std.proofs.lemmas.Bool.{eqb-true, eqb-false, eq-eqb, ne_eqb}
use Rattle.golf_theory.specs.Membership.{In}
use Rattle.golf_theory.specs.Maps.{find, add, map_values}
use Rattle.golf_theory.proofs.MapFinds.{find-add, find-add_other, find-map_values, find-map_values_none, cases_find}
use Rattle.golf_data.specs.declared.value.Value.{Value}
use Rattle.golf_data.specs.declared.value.Object.{Object}
use Rattle.golf_data.specs.declared.goroutine.Mode.{Mode}
use Rattle.golf_data.specs.declared.goroutine.PanicKind.{PanicKind}
use Rattle.golf_data.specs.declared.goroutine.Side.{Side}
use Rattle.golf_data.specs.declared.goroutine.Wait.{Wait}
use Rattle.golf_model.specs.Views.{GoroutineView}
use Rattle.golf_model.specs.State.{State, is_running}
use Rattle.golf_model.specs.Waiters.{waits_of, ticket_of, blocked_line, wait_on, wait_for}
use Rattle.golf_model.specs.Wakes.{Waking, released, unwound, fault, woken_by, closed_on, closed_for, released_by}
use Rattle.golf_model.specs.Wakes.{reads_next}
use Rattle.golf_model.specs.Refs.{waited}
use Rattle.golf_model.specs.Changes.{become, spawn, replace, wake_all, requeue, requeue_at, moved}
use Rattle.golf_model_futures.proofs.Waking.{woken-cases}
use Rattle.golf_explore_laws.specs.Alike.{untimed, blank, WaitsOn, AlikeBy}
use Rattle.golf_explore_laws.proofs.Alike.Partners.{same-waits, waits-moved, partner-of, absent-of}
use Rattle.golf_explore_laws.proofs.Alike.Changes.{alike-replace, alike-become, alike-blocked}

-- ---- starting

module _ (ps : List (ℕ × ℕ)) (s t : State) (a : AlikeBy ps s t) where
  abbrev n : ℕ
  n = s.next_goroutine

  abbrev m : ℕ
  m = t.next_goroutine

  new-left : find n s.goroutines ≡ None
  new-left = elim (cases_find n s.goroutines) [
    | inl e ↦ e
    | inr x ↦ let p = a.left n x.0 x.1 in let l = (a.given n p.0 p.1).0 in absurd (omega (arith, l))
  ]

  new-right : find m t.goroutines ≡ None
  new-right = elim (cases_find m t.goroutines) [
    | inl e ↦ e
    | inr x ↦ let p = a.right m x.0 x.1 in let l = (a.given p.0 m p.1).1 in absurd (omega (arith, l))
  ]

  old-left : (g h : ℕ) → In (g, h) ps → g ≡ n → ⊥
  old-left g h i e = let l = (a.given g h i).0 in omega (arith, l, e)

  old-right : (g h : ℕ) → In (g, h) ps → h ≡ m → ⊥
  old-right g h i e = let l = (a.given g h i).1 in omega (arith, l, e)

  pair-left : (g h k l : ℕ) → ◌≡◌ {A = ℕ × ℕ} (g, h) (k, l) → g ≡ k
  pair-left g h k l e = ap (λ (p : ℕ × ℕ). p.0) e

  pair-right : (g h k l : ℕ) → ◌≡◌ {A = ℕ × ℕ} (g, h) (k, l) → h ≡ l
  pair-right g h k l e = ap (λ (p : ℕ × ℕ). p.1) e

  add-cases : (k : ℕ) (v : GoroutineView) (es : List (ℕ × GoroutineView)) (g : ℕ) (x : GoroutineView)
      → find k es ≡ None → find g (add k v es) ≡ Some x → ((g ≡ k) × (x ≡ v)) ⊎ (find g es ≡ Some x)
  add-cases k v es g x none f = elim (g == k) as (λ b. g == k ≡ b → ((g ≡ k) × (x ≡ v)) ⊎ (find g es ≡ Some x)) [
    | true ↦ λ b. let e = eqb-true g k b in
        let here : find g (add k v es) ≡ Some v = ap (λ j. find j (add k v es)) e ∙ find-add k v es none in
        inl (e, cc)
    | false ↦ λ b. inr (sym (find-add_other k v es g (eqb-false g k b)) ∙ f)
  ] refl

  not-low : (k c : ℕ) → c < k → (k == c) ≡ false
  not-low k c l = ne_eqb k c (λ e. omega (arith, l, e))

  early-add : (k : ℕ) (v : GoroutineView) (u : State)
      → ((g : ℕ) (x : GoroutineView) → find g u.goroutines ≡ Some x → is_running x.mode ≡ false
      → ticket_of x.mode < u.next_ticket) → v.mode ≡ Mode.Running → find k u.goroutines ≡ None
      → (g : ℕ) (x : GoroutineView) → find g (add k v u.goroutines) ≡ Some x → is_running x.mode ≡ false
      → ticket_of x.mode < u.next_ticket
  early-add k v u early on none g x f b = elim (add-cases k v u.goroutines g x none f) [
    | inl p ↦
        let yes : is_running x.mode ≡ true =
        ap (λ (z : GoroutineView). is_running z.mode) p.1 ∙ ap is_running on in
        cc
    | inr p ↦ early g x p b
  ]

  module _ (r : GoroutineView) (on : r.mode ≡ Mode.Running) where
    never : (o : ℕ) (x : GoroutineView) → x ≡ r → WaitsOn o x → ⊥
    never o x e w = let z : x.mode ≡ Mode.Running = ap (λ (y : GoroutineView). y.mode) e ∙ on in
        subst (λ k. In o (waited (waits_of k))) z w

    order-add : (g h k l : ℕ) → In (g, h) ((n, m) ∷ ps) → In (k, l) ((n, m) ∷ ps) → (x q u v : GoroutineView)
        → find g (add n r s.goroutines) ≡ Some x → find h (add m r t.goroutines) ≡ Some q
        → find k (add n r s.goroutines) ≡ Some u → find l (add m r t.goroutines) ≡ Some v → (o : ℕ)
        → WaitsOn o x → WaitsOn o u
        → nat_lt (ticket_of x.mode) (ticket_of u.mode) ≡ nat_lt (ticket_of q.mode) (ticket_of v.mode)
    order-add g h k l (inl e) j x q u v fx fq fu fv o wx wu =
        elim (add-cases n r s.goroutines g x new-left fx) [
          | inl p ↦ absurd (never o x p.1 wx)
          | inr p ↦ let none : find g s.goroutines ≡ None = ap (λ c. find c s.goroutines) (pair-left g h n m e)
              ∙ new-left in cc
        ]
    order-add g h k l (inr i) (inl e) x q u v fx fq fu fv o wx wu =
        elim (add-cases n r s.goroutines k u new-left fu) [
          | inl p ↦ absurd (never o u p.1 wu)
          | inr p ↦ let none : find k s.goroutines ≡ None = ap (λ c. find c s.goroutines) (pair-left k l n m e)
              ∙ new-left in cc
        ]
    order-add g h k l (inr i) (inr j) x q u v fx fq fu fv o wx wu =
        a.order g h k l i j x q u v
        (sym (find-add_other n r s.goroutines g (old-left g h i)) ∙ fx)
        (sym (find-add_other m r t.goroutines h (old-right g h i)) ∙ fq)
        (sym (find-add_other n r s.goroutines k (old-left k l j)) ∙ fu)
        (sym (find-add_other m r t.goroutines l (old-right k l j)) ∙ fv) o wx wu

    entries-add : (g h : ℕ) → In (g, h) ((n, m) ∷ ps)
        → option_map blank (find g (add n r s.goroutines)) ≡ option_map blank (find h (add m r t.goroutines))
    entries-add g h (inl e) =
        ap (λ c. option_map blank (find c (add n r s.goroutines))) (pair-left g h n m e)
        ∙ ap (option_map blank) (find-add n r s.goroutines new-left)
        ∙ ap (option_map blank) (sym (find-add m r t.goroutines new-right))
        ∙ ap (λ c. option_map blank (find c (add m r t.goroutines))) (sym (pair-right g h n m e))
    entries-add g h (inr i) =
        ap (option_map blank) (find-add_other n r s.goroutines g (old-left g h i)) ∙ a.entries g h i
        ∙ ap (option_map blank) (sym (find-add_other m r t.goroutines h (old-right g h i)))

    one-add : (g h k l : ℕ) → In (g, h) ((n, m) ∷ ps) → In (k, l) ((n, m) ∷ ps) → (g == k) ≡ (h == l)
    one-add g h k l (inl e) (inl f) =
        eq-eqb g k (pair-left g h n m e ∙ sym (pair-left k l n m f))
        ∙ sym (eq-eqb h l (pair-right g h n m e ∙ sym (pair-right k l n m f)))
    one-add g h k l (inl e) (inr j) =
        ne_eqb g k (λ c. old-left k l j (sym c ∙ pair-left g h n m e))
        ∙ sym (ne_eqb h l (λ c. old-right k l j (sym c ∙ pair-right g h n m e)))
    one-add g h k l (inr i) (inl f) =
        ne_eqb g k (λ c. old-left g h i (c ∙ pair-left k l n m f))
        ∙ sym (ne_eqb h l (λ c. old-right g h i (c ∙ pair-right k l n m f)))
    one-add g h k l (inr i) (inr j) = a.one g h k l i j

    zero-add : (g h : ℕ) → In (g, h) ((n, m) ∷ ps) → ((g == 0) ≡ (h == 0)) × ((g == 1) ≡ (h == 1))
    zero-add g h (inl e) =
        let x = pair-left g h n m e in
        let y = pair-right g h n m e in
        let p = a.two.0 in
        let q = a.two.1 in (
          not-low g 0 (omega (arith, x, p)) ∙ sym (not-low h 0 (omega (arith, y, q))),
          not-low g 1 (omega (arith, x, p)) ∙ sym (not-low h 1 (omega (arith, y, q))),
        )
    zero-add g h (inr i) = a.zero_one g h i

    given-add : (g h : ℕ) → In (g, h) ((n, m) ∷ ps) → (g < n + 1) × (h < m + 1)
    given-add g h (inl e) =
        let x = pair-left g h n m e in
        let y = pair-right g h n m e in (omega (arith, x), omega (arith, y))
    given-add g h (inr i) = let p = a.given g h i in let x = p.0 in let y = p.1 in (omega (arith, x), omega (arith, y))

    pub alike-spawn : AlikeBy ((n, m) ∷ ps) (spawn r s) (spawn r t)
    alike-spawn = record {
      others = a.others;
      entries = entries-add;
      left = λ g x f. elim (add-cases n r s.goroutines g x new-left f) [
        | inl p ↦ (m, inl (ap (λ c. let z : ℕ × ℕ = (c, m) in z) p.0))
        | inr p ↦ let w = a.left g x p in (w.0, inr w.1)
      ];
      right = λ h x f. elim (add-cases m r t.goroutines h x new-right f) [
        | inl p ↦ (n, inl (ap (λ c. let z : ℕ × ℕ = (n, c) in z) p.0))
        | inr p ↦ let w = a.right h x p in (w.0, inr w.1)
      ];
      one = one-add;
      zero_one = zero-add;
      given = given-add;
      two = let p = a.two.0 in let q = a.two.1 in (omega (arith, p), omega (arith, q));
      order = order-add;
      early = (early-add n r s a.early.0 on new-left, early-add m r t a.early.1 on new-right);
    }

-- ---- waking

untimed-twice : (m : Mode) → untimed m ≡ untimed (untimed m)
untimed-twice Mode.Running = refl
untimed-twice (Mode.Blocked kind line waits ticket) = refl

untimed-line : (m : Mode) → blocked_line m ≡ blocked_line (untimed m)
untimed-line Mode.Running = refl
untimed-line (Mode.Blocked kind line waits ticket) = refl

blank-twice : (r : GoroutineView) → blank r ≡ blank (blank r)
blank-twice r = ap (λ m. record r { mode = m }) (untimed-twice r.mode)

closed_for-blank : (zero : Value) (w : Wait) (side : Side) (r : GoroutineView)
    → blank (closed_for zero w side r) ≡ blank (closed_for zero w side (blank r))
closed_for-blank zero w Side.Receive r = refl
closed_for-blank zero w Side.Send r =
    ap (λ line. blank (unwound (fault PanicKind.SendClosed line) r)) (untimed-line r.mode)
closed_for-blank zero w _ r = blank-twice r

closed_on-blank : (zero : Value) (m : Option Wait) (r : GoroutineView)
    → blank (closed_on zero m r) ≡ blank (closed_on zero m (blank r))
closed_on-blank zero None r = blank-twice r
closed_on-blank zero (Some w) r = closed_for-blank zero w w.side r

released_by-blank : (m : Option Wait) (r : GoroutineView)
    → blank (released_by m r) ≡ blank (released_by m (blank r))
released_by-blank None r = blank-twice r
released_by-blank (Some w) r = refl

pub woken-closing : (zero : Value) (o : ℕ) (r q : GoroutineView) → blank r ≡ blank q
    → blank (woken_by (Waking.Closing zero) o r) ≡ blank (woken_by (Waking.Closing zero) o q)
woken-closing zero o r q e =
    closed_on-blank zero (wait_on o (waits_of r.mode)) r
    ∙ ap (λ ws. blank (closed_on zero (wait_on o ws) (blank r))) (same-waits r q e)
    ∙ ap (λ x. blank (closed_on zero (wait_on o (waits_of q.mode)) x)) e
    ∙ sym (closed_on-blank zero (wait_on o (waits_of q.mode)) q)

pub woken-at_zero : (o : ℕ) (r q : GoroutineView) → blank r ≡ blank q
    → blank (woken_by Waking.AtZero o r) ≡ blank (woken_by Waking.AtZero o q)
woken-at_zero o r q e =
    released_by-blank (wait_for o Side.Group (waits_of r.mode)) r
    ∙ ap (λ ws. blank (released_by (wait_for o Side.Group ws) (blank r))) (same-waits r q e)
    ∙ ap (λ x. blank (released_by (wait_for o Side.Group (waits_of q.mode)) x)) e
    ∙ sym (released_by-blank (wait_for o Side.Group (waits_of q.mode)) q)

pub woken-readers : (below under : Option ℕ) (o : ℕ) (r q : GoroutineView) → blank r ≡ blank q
    → reads_next below o r ≡ reads_next under o q
    → blank (woken_by (Waking.ToReaders below) o r) ≡ blank (woken_by (Waking.ToReaders under) o q)
woken-readers below under o r q e same =
    released_by-blank (reads_next below o r) r
    ∙ ap (λ m. blank (released_by m (blank r))) same
    ∙ ap (λ x. blank (released_by (reads_next under o q) x)) e
    ∙ sym (released_by-blank (reads_next under o q) q)

-- the two wakings do the same to each goroutine and its partner
abbrev pub WakeAlike : List (ℕ × ℕ) → State → State → ℕ → Waking → Waking → Type 0
WakeAlike ps s t o how also = (g h : ℕ) → In (g, h) ps → (r q : GoroutineView) → find g s.goroutines ≡ Some r
    → find h t.goroutines ≡ Some q → blank r ≡ blank q → blank (woken_by how o r) ≡ blank (woken_by also o q)

module _ (how : Waking) (p : ℕ) where
  -- who waits after the waking was not woken
  still-waits : (o : ℕ) (r : GoroutineView) → WaitsOn o (woken_by how p r) → woken_by how p r ≡ r
  still-waits o r w = elim (woken-cases how p r) [
    | inl e ↦ e
    | inr x ↦ absurd (subst (λ m. In o (waited (waits_of m))) x.1 w)
  ]

  still-blocked : (r : GoroutineView) → is_running (woken_by how p r).mode ≡ false → woken_by how p r ≡ r
  still-blocked r b = elim (woken-cases how p r) [
    | inl e ↦ e
    | inr x ↦ let y : is_running (woken_by how p r).mode ≡ true = ap is_running x.1 in cc
  ]

  back : (es : List (ℕ × GoroutineView)) (k : ℕ) (y : GoroutineView)
      → find k (map_values (λ g. woken_by how p) es) ≡ Some y
      → (x : GoroutineView) × (find k es ≡ Some x) × (woken_by how p x ≡ y)
  back es k y f = elim (cases_find k es) [
    | inl e ↦ let none = find-map_values_none (λ g. woken_by how p) es k e in cc
    | inr x ↦ let some = find-map_values (λ g. woken_by how p) es k x.0 x.1 in (x.0, x.1, cc)
  ]

  early-woken : (u : State)
      → ((g : ℕ) (x : GoroutineView) → find g u.goroutines ≡ Some x → is_running x.mode ≡ false
      → ticket_of x.mode < u.next_ticket)
      → (g : ℕ) (y : GoroutineView) → find g (map_values (λ g. woken_by how p) u.goroutines) ≡ Some y
      → is_running y.mode ≡ false → ticket_of y.mode < u.next_ticket
  early-woken u early g y f b =
      let x = back u.goroutines g y f in
      let e = still-blocked x.0 (ap (λ (z : GoroutineView). is_running z.mode) x.2 ∙ b) in
      let same : x.0 ≡ y = sym e ∙ x.2 in
      subst (λ (z : GoroutineView). ticket_of z.mode < u.next_ticket) same
      (early g x.0 x.1 (ap (λ (z : GoroutineView). is_running z.mode) same ∙ b))

module _ (ps : List (ℕ × ℕ)) (s t : State) (a : AlikeBy ps s t) (how also : Waking) (p : ℕ)
    (same : WakeAlike ps s t p how also) where
  unmoved : (o : ℕ) (x y : GoroutineView) → woken_by how p x ≡ y → WaitsOn o y → x ≡ y
  unmoved o x y e w = sym (still-waits how p o x (subst (WaitsOn o) (sym e) w)) ∙ e

  unmoved' : (o : ℕ) (x y : GoroutineView) → woken_by also p x ≡ y → WaitsOn o y → x ≡ y
  unmoved' o x y e w = sym (still-waits also p o x (subst (WaitsOn o) (sym e) w)) ∙ e

  entries-woken : (g h : ℕ) → In (g, h) ps
      → option_map blank (find g (wake_all p how s).goroutines)
      ≡ option_map blank (find h (wake_all p also t).goroutines)
  entries-woken g h i = elim (cases_find g s.goroutines) [
    | inl e ↦ ap (option_map blank) (find-map_values_none (λ k. woken_by how p) s.goroutines g e)
        ∙ sym (ap (option_map blank) (find-map_values_none (λ k. woken_by also p) t.goroutines h
        (absent-of ps s t a g h i e)))
    | inr x ↦ let q = partner-of ps s t a g h i x.0 x.1 in
        ap (option_map blank) (find-map_values (λ k. woken_by how p) s.goroutines g x.0 x.1)
        ∙ ap Some (same g h i x.0 q.0 x.1 q.1 q.2)
        ∙ sym (ap (option_map blank) (find-map_values (λ k. woken_by also p) t.goroutines h q.0 q.1))
  ]

  pub alike-wake_all : AlikeBy ps (wake_all p how s) (wake_all p also t)
  alike-wake_all = record {
    others = a.others;
    entries = entries-woken;
    left = λ g y f. let x = back how p s.goroutines g y f in a.left g x.0 x.1;
    right = λ h y f. let x = back also p t.goroutines h y f in a.right h x.0 x.1;
    one = a.one;
    zero_one = a.zero_one;
    given = a.given;
    two = a.two;
    order = λ g h k l i j r q u v fr fq fu fv o wr wu.
        let r' = back how p s.goroutines g r fr in
        let q' = back also p t.goroutines h q fq in
        let u' = back how p s.goroutines k u fu in
        let v' = back also p t.goroutines l v fv in
        let er = unmoved o r'.0 r r'.2 wr in
        let eu = unmoved o u'.0 u u'.2 wu in
        let bq : blank r ≡ blank q = some-blank r q (ap (option_map blank) (sym fr) ∙ entries-woken g h i
        ∙ ap (option_map blank) fq) in
        let bv : blank u ≡ blank v = some-blank u v (ap (option_map blank) (sym fu) ∙ entries-woken k l j
        ∙ ap (option_map blank) fv) in
        let eq' = unmoved' o q'.0 q q'.2 (waits-moved o r q bq wr) in
        let ev = unmoved' o v'.0 v v'.2 (waits-moved o u v bv wu) in
        a.order g h k l i j r q u v (r'.1 ∙ ap Some er) (q'.1 ∙ ap Some eq') (u'.1 ∙ ap Some eu) (v'.1 ∙ ap Some ev) o
        wr wu;
    early = (early-woken how p s a.early.0, early-woken also p t a.early.1);
  } where
    some-blank : (r q : GoroutineView) → Some (blank r) ≡ Some (blank q) → blank r ≡ blank q
    some-blank r q e = cc

-- ---- passing on

untimed-moved : (c n : ℕ) (m : Mode) → untimed (moved c n m) ≡ moved c 0 (untimed m)
untimed-moved c n Mode.Running = refl
untimed-moved c n (Mode.Blocked kind line waits ticket) = refl

moved-ticket : (c n : ℕ) (m : Mode) → is_running (moved c n m) ≡ false → ticket_of (moved c n m) ≡ n
moved-ticket c n Mode.Running b = cc
moved-ticket c n (Mode.Blocked kind line waits ticket) b = refl

abbrev move : ℕ → ℕ → GoroutineView → GoroutineView
move c n r = record r { mode = moved c n r.mode }

blank-moved : (c n k : ℕ) (r q : GoroutineView) → blank r ≡ blank q → blank (move c n r) ≡ blank (move c k q)
blank-moved c n k r q e =
    ap (λ x. record r { mode = x }) (untimed-moved c n r.mode)
    ∙ ap (λ (u : GoroutineView). record u { mode = moved c 0 u.mode }) e
    ∙ sym (ap (λ x. record q { mode = x }) (untimed-moved c k q.mode))

module _ (ps : List (ℕ × ℕ)) (s t : State) (a : AlikeBy ps s t) (g h : ℕ) (i : In (g, h) ps) (c : ℕ) where
  passed-at : (x : Object) (r q : GoroutineView) → blank r ≡ blank q
      → AlikeBy ps (requeue_at x g c r s) (requeue_at x h c q t)
  passed-at (Object.Mutex false) r q e =
      let same : released r ≡ released q = ap released e in
      subst (λ (v : GoroutineView). AlikeBy ps (replace c (Object.Mutex true) (become g (released r) s))
      (replace c (Object.Mutex true) (become h v t))) same
      (alike-replace ps (become g (released r) s) (become h (released r) t)
      (alike-become ps s t a g h i (released r) refl) c (Object.Mutex true))
  passed-at (Object.Mutex true) r q e = alike-blocked ps s t a g h i (move c s.next_ticket r) (move c t.next_ticket q)
      (blank-moved c s.next_ticket t.next_ticket r q e) (moved-ticket c s.next_ticket r.mode)
      (moved-ticket c t.next_ticket q.mode)
  passed-at _ r q e = a

  passed : (r q : Option GoroutineView) (x : Option Object) → option_map blank r ≡ option_map blank q
      → AlikeBy ps (requeue g c r x s) (requeue h c q x t)
  passed None None x e = a
  passed None (Some q) x e = cc
  passed (Some r) None x e = cc
  passed (Some r) (Some q) None e = a
  passed (Some r) (Some q) (Some x) e = let inner : blank r ≡ blank q = cc in passed-at x r q inner

  pub alike-requeue : AlikeBy ps (requeue g c (find g s.goroutines) (find c s.objects) s)
      (requeue h c (find h t.goroutines) (find c t.objects) t)
  alike-requeue = subst (λ (os : List (ℕ × Object)).
      AlikeBy ps (requeue g c (find g s.goroutines) (find c s.objects) s)
      (requeue h c (find h t.goroutines) (find c os) t)) (ap (λ (u : State). u.objects) a.others)
      (passed (find g s.goroutines) (find h t.goroutines) (find c s.objects) (a.entries g h i))
