-- Goroutines that are partners make two states alike.
-- For: `count_as_one`, src/alike_states.rt; `ArePartners`, specs/AlikeStates.antt
-- By: induction over the list of numbers and that of waits
use Rattle.std.proofs.Common.{◌≡◌, ℕ, zero, suc, ◌<◌, ◌≤◌, ◌==◌, nat_lt, Bool, true, false, List, [], ◌∷◌, length}
use Rattle.std.proofs.Common.{Option, Some, None, slice_get, get_or, ◌⊎◌, inl, inr, refl, sym, ap, ◌∙◌, subst, arith}
use Rattle.std.proofs.Common.{Result, Ok, Err, IfOk}
use Rattle.std.specs.Prelude.{option_and_then}
use Rattle.std.proofs.lemmas.List.{length-map}
use Rattle.golf_base.specs.declared.ids.GoroutineId.{GoroutineId}
use Rattle.golf_theory.specs.Maps.{find, keys, Rises, AllBelow}
use Rattle.golf_theory.specs.Membership.{In}
use Rattle.golf_theory.proofs.MapEntries.{Entry-find, In-keys}
use Rattle.golf_model.specs.Views.{GoroutineView}
use Rattle.golf_model.specs.State.{State}
use Rattle.golf_model.specs.Waiters.{ticket_of}
use Rattle.golf_model.specs.Reports.{numbers}
use Rattle.golf_model_futures.specs.Orderly.{IsOrderly}
use Rattle.golf_explore_laws.specs.After.{silent}
use Rattle.golf_explore_laws.specs.Alike.{rest, nameless, WaitsOn, AreEarly, AlikeBy, IsWellOrdered}
use Rattle.golf_explore.specs.declared.alike_states.WaitPair.{WaitPair}
use Rattle.golf_explore.specs.AlikeStates.{CountAsOne, IsSameBesides, partner, CanPair, wait_pair, ComesBefore}
use Rattle.golf_explore.specs.AlikeStates.{AreInOrder, ArePaired, AllCanPair, HaveSameOrder, ArePartners, HavePartners}
use Rattle.golf_explore.proofs.Growing.{get-within}
use Rattle.golf_explore.proofs.Falling.{In-get, get-there}
use Rattle.golf_explore.proofs.Parents.{some-same}

-- ---- numbers that rise

key-above : {X : Type 0} (j i g : ℕ) (es : List (ℕ × X)) → Rises j es → slice_get (keys es) i ≡ Some g → j ≤ g
key-above j i g [] r h = cc
key-above j zero g (e ∷ es) r h = let is : e.0 ≡ g = cc in let low = r.0 in omega (arith, is, low)
key-above j (suc i) g (e ∷ es) r h =
    let above = key-above (suc e.0) i g es r.1 h in let low = r.0 in omega (arith, above, low)

key-below : {X : Type 0} (n i g : ℕ) (es : List (ℕ × X)) → AllBelow n es → slice_get (keys es) i ≡ Some g → g < n
key-below n i g [] b h = cc
key-below n zero g (e ∷ es) b h = let is : e.0 ≡ g = cc in let below = b.0 in omega (arith, is, below)
key-below n (suc i) g (e ∷ es) b h = key-below n i g es b.1 h

-- a number has one place
one-place : {X : Type 0} (j i k g : ℕ) (es : List (ℕ × X)) → Rises j es → slice_get (keys es) i ≡ Some g
    → slice_get (keys es) k ≡ Some g → i ≡ k
one-place j i k g [] r h l = cc
one-place j zero zero g (e ∷ es) r h l = refl
one-place j zero (suc k) g (e ∷ es) r h l =
    let is : e.0 ≡ g = cc in let above = key-above (suc e.0) k g es r.1 l in absurd (omega (arith, is, above))
one-place j (suc i) zero g (e ∷ es) r h l =
    let is : e.0 ≡ g = cc in let above = key-above (suc e.0) i g es r.1 h in absurd (omega (arith, is, above))
one-place j (suc i) (suc k) g (e ∷ es) r h l = ap suc (one-place (suc e.0) i k g es r.1 h l)

-- ---- pairs by places

abbrev pairs : List ℕ → List ℕ → List ℕ → List (ℕ × ℕ)
pairs hs [] to = []
pairs hs (g ∷ gs) [] = []
pairs hs (g ∷ gs) (j ∷ to) = (g, get_or hs j 0) ∷ pairs hs gs to

partner-place : (hs to : List ℕ) (i h : ℕ) → partner hs to i ≡ Some h → (j : ℕ) × (slice_get to i ≡ Some j)
    × (slice_get hs j ≡ Some h)
partner-place hs to i h e = place (slice_get to i) refl e
  where
    place : (m : Option ℕ) → slice_get to i ≡ m → option_and_then (λ j. slice_get hs j) m ≡ Some h → (j : ℕ)
        × (slice_get to i ≡ Some j) × (slice_get hs j ≡ Some h)
    place None is e = cc
    place (Some j) is e = (j, is, e)

partner-at : (hs to : List ℕ) (i j h : ℕ) → slice_get to i ≡ Some j → slice_get hs j ≡ Some h
    → partner hs to i ≡ Some h
partner-at hs to i j h e f = ap (option_and_then (λ k. slice_get hs k)) e ∙ f

get-or-is : (hs : List ℕ) (j h : ℕ) → slice_get hs j ≡ Some h → get_or hs j 0 ≡ h
get-or-is [] j h e = cc
get-or-is (x ∷ hs) zero h e = cc
get-or-is (x ∷ hs) (suc j) h e = get-or-is hs j h e

pairs-put : (hs gs to : List ℕ) (i j g h : ℕ) → slice_get gs i ≡ Some g → slice_get to i ≡ Some j
    → slice_get hs j ≡ Some h → In (g, h) (pairs hs gs to)
pairs-put hs [] to i j g h e f k = cc
pairs-put hs (x ∷ gs) [] i j g h e f k = cc
pairs-put hs (x ∷ gs) (y ∷ to) zero j g h e f k =
    let a : x ≡ g = cc in
    let b : y ≡ j = cc in
    let c : get_or hs y 0 ≡ h = ap (λ n. get_or hs n 0) b ∙ get-or-is hs j h k in
    inl (same a c)
  where
    same : {g h x z : ℕ} → x ≡ g → z ≡ h → ◌≡◌ {A = ℕ × ℕ} (g, h) (x, z)
    same {g} {h} {x} {z} a c = subst (λ n. ◌≡◌ {A = ℕ × ℕ} (n, h) (x, z)) a
        (ap (λ (n : ℕ). let p : ℕ × ℕ = (x, n) in p) (sym c))
pairs-put hs (x ∷ gs) (y ∷ to) (suc i) j g h e f k = inr (pairs-put hs gs to i j g h e f k)

pairs-get : (hs gs to : List ℕ) (g h : ℕ) → In (g, h) (pairs hs gs to) → (i j : ℕ) × (slice_get gs i ≡ Some g)
    × (slice_get to i ≡ Some j) × (h ≡ get_or hs j 0)
pairs-get hs [] to g h i = absurd i
pairs-get hs (x ∷ gs) [] g h i = absurd i
pairs-get hs (x ∷ gs) (y ∷ to) g h (inl e) =
    (0, y, ap (λ (p : ℕ × ℕ). Some p.0) (sym e), refl, ap (λ (p : ℕ × ℕ). p.1) e)
pairs-get hs (x ∷ gs) (y ∷ to) g h (inr i) = let r = pairs-get hs gs to g h i in (suc r.0, r.1, r.2, r.3, r.4)

-- ---- waits in order

before-then : (u v w : WaitPair) → ComesBefore u v → ComesBefore v w → ComesBefore u w
before-then u v w (inl a) (inl b) = inl (omega (arith, a, b))
before-then u v w (inl a) (inr b) = let e = b.0 in inl (omega (arith, a, e))
before-then u v w (inr a) (inl b) = let e = a.0 in inl (omega (arith, e, b))
before-then u v w (inr a) (inr b) = inr (a.0 ∙ b.0, both a.1 b.1)
  where
    both : ((u.ticket < v.ticket) × (u.twin < v.twin)) ⊎ ((u.ticket ≡ v.ticket) × (u.twin ≡ v.twin))
        → ((v.ticket < w.ticket) × (v.twin < w.twin)) ⊎ ((v.ticket ≡ w.ticket) × (v.twin ≡ w.twin))
        → ((u.ticket < w.ticket) × (u.twin < w.twin)) ⊎ ((u.ticket ≡ w.ticket) × (u.twin ≡ w.twin))
    both (inl x) (inl y) =
        let a = x.0 in let b = x.1 in let c = y.0 in let d = y.1 in inl (omega (arith, a, c), omega (arith, b, d))
    both (inl x) (inr y) =
        let a = x.0 in let b = x.1 in let c = y.0 in let d = y.1 in inl (omega (arith, a, c), omega (arith, b, d))
    both (inr x) (inl y) =
        let a = x.0 in let b = x.1 in let c = y.0 in let d = y.1 in inl (omega (arith, a, c), omega (arith, b, d))
    both (inr x) (inr y) = inr (x.0 ∙ y.0, x.1 ∙ y.1)

order-tail : (w : WaitPair) (ws : List WaitPair) → AreInOrder (w ∷ ws) → AreInOrder ws
order-tail w ws h i u v a b = h (suc i) u v a b

head-before : (w : WaitPair) (ws : List WaitPair) (v : WaitPair) → AreInOrder (w ∷ ws) → In v ws → ComesBefore w v
head-before w [] v h i = absurd i
head-before w (x ∷ ws) v h (inl e) = subst (ComesBefore w) (sym e) (h 0 w x refl refl)
head-before w (x ∷ ws) v h (inr i) =
    before-then w x v (h 0 w x refl refl) (head-before x ws v (order-tail w (x ∷ ws) h) i)

either-before : (ws : List WaitPair) (v w : WaitPair) → AreInOrder ws → In v ws → In w ws
    → ComesBefore v w ⊎ ComesBefore w v
either-before [] v w h i j = absurd i
either-before (x ∷ ws) v w h (inl e) (inl f) = inl (inr (
  ap (λ (z : WaitPair). z.object) is,
  inr (ap (λ (z : WaitPair). z.ticket) is, ap (λ (z : WaitPair). z.twin) is),
))
  where
    is : v ≡ w
    is = e ∙ sym f
either-before (x ∷ ws) v w h (inl e) (inr j) =
    inl (subst (λ (z : WaitPair). ComesBefore z w) (sym e) (head-before x ws w h j))
either-before (x ∷ ws) v w h (inr i) (inl f) =
    inr (subst (λ (z : WaitPair). ComesBefore z v) (sym f) (head-before x ws v h i))
either-before (x ∷ ws) v w h (inr i) (inr j) = either-before ws v w (order-tail x ws h) i j

lt-yes : (a b : ℕ) → a < b → nat_lt a b ≡ true
lt-yes a b l = grind arith

lt-no : (a b : ℕ) → b ≤ a → nat_lt a b ≡ false
lt-no a b l = grind arith

-- of waits on one object the order of both tickets is the same
same-order : (v w : WaitPair) → v.object ≡ w.object → ComesBefore v w ⊎ ComesBefore w v
    → nat_lt v.ticket w.ticket ≡ nat_lt v.twin w.twin
same-order v w o (inl (inl a)) = absurd (omega (arith, o, a))
same-order v w o (inl (inr (_, inl a))) = lt-yes v.ticket w.ticket a.0 ∙ sym (lt-yes v.twin w.twin a.1)
same-order v w o (inl (inr (_, inr a))) =
    let x = a.0 in
    let y = a.1 in
    lt-no v.ticket w.ticket (omega (arith, x)) ∙ sym (lt-no v.twin w.twin (omega (arith, y)))
same-order v w o (inr (inl a)) = absurd (omega (arith, o, a))
same-order v w o (inr (inr (_, inl a))) =
    let x = a.0 in
    let y = a.1 in
    lt-no v.ticket w.ticket (omega (arith, x)) ∙ sym (lt-no v.twin w.twin (omega (arith, y)))
same-order v w o (inr (inr (_, inr a))) =
    let x = a.0 in
    let y = a.1 in
    lt-no v.ticket w.ticket (omega (arith, x)) ∙ sym (lt-no v.twin w.twin (omega (arith, y)))

-- ---- tests that agree

eq-yes : (a b : ℕ) → a ≡ b → (a == b) ≡ true
eq-yes a b e = grind arith

eq-from : (a b : ℕ) → (a == b) ≡ true → a ≡ b
eq-from a b e = grind arith

test-both : (x y : Bool) → (x ≡ true → y ≡ true) → (y ≡ true → x ≡ true) → x ≡ y
test-both true true f g = refl
test-both true false f g = let e = f refl in cc
test-both false true f g = let e = g refl in cc
test-both false false f g = refl

-- ---- all together

six : {A B C D E F R : Type 0} (m : A → B → C → D → E → F → R) (a u : A) (b v : B) (c w : C) (d x : D) (e y : E)
    (f z : F) → a ≡ u → b ≡ v → c ≡ w → d ≡ x → e ≡ y → f ≡ z → m a b c d e f ≡ m u v w x y z
six m a u b v c w d x e y f z p q r h i j = cc

rest-same : (s t : State) → IsSameBesides s t → nameless s.recorded ≡ nameless t.recorded
    → rest (silent s) ≡ rest (silent t)
rest-same s t b e = six (λ globals objects last finalisers queue recorded.
    let u : State = record {
      globals = globals;
      objects = objects;
      finalisers = finalisers;
      goroutines = [];
      queue = queue;
      output = [];
      last_object = last;
      next_goroutine = 0;
      next_ticket = 0;
      recorded = recorded;
    } in
    u) s.globals t.globals s.objects t.objects s.last_object t.last_object s.finalisers t.finalisers s.queue t.queue
    (nameless s.recorded) (nameless t.recorded) b.globals b.objects b.last b.finalisers b.queue e

early : (s : State) → IsOrderly s → AreEarly s
early s o g r f b = o.goroutines.below g r (record { entry = Entry-find g s.goroutines r f; blocked = b })

module _ (s t : State) (to from : List ℕ)
    (p : ArePartners s (keys s.goroutines) t (keys t.goroutines) to from) (so : IsWellOrdered (silent s))
    (te : IsWellOrdered (silent t)) (b : IsSameBesides s t)
    (e : nameless s.recorded ≡ nameless t.recorded) where
  abbrev gs : List ℕ
  gs = keys s.goroutines

  abbrev hs : List ℕ
  hs = keys t.goroutines

  abbrev ps : List (ℕ × ℕ)
  ps = pairs hs gs to

  -- a pair stands at places
  record Placed (g h : ℕ) : Type 0 where
    i : ℕ
    j : ℕ
    left : slice_get gs i ≡ Some g
    there : slice_get to i ≡ Some j
    back : slice_get from j ≡ Some i
    right : slice_get hs j ≡ Some h
    fit : CanPair s g t h

  placed-at : (i g : ℕ) → slice_get gs i ≡ Some g → (h : ℕ) × (q : Placed g h) × (q.i ≡ i)
  placed-at i g e =
      let f = p.fit i g e in
      let k = partner-place hs to i f.0 f.1 in
      let l = p.paired i (get-within gs i g e) in
      let same : k.0 ≡ l.0 = some-same (slice_get to i) k.0 l.0 k.1 l.1 in (
        f.0,
        record {
          i = i;
          j = k.0;
          left = e;
          there = k.1;
          back = ap (slice_get from) same ∙ l.2;
          right = k.2;
          fit = f.2;
        },
        refl,
      )

  placed : (g h : ℕ) → In (g, h) ps → Placed g h
  placed g h m =
      let r = pairs-get hs gs to g h m in
      let q = placed-at r.0 g r.2 in
      let there : slice_get to r.0 ≡ Some q.1.j = ap (slice_get to) (sym q.2) ∙ q.1.there in
      let same : q.1.j ≡ r.1 = some-same (slice_get to r.0) q.1.j r.1 there r.3 in
      let is : q.0 ≡ h = sym (get-or-is hs q.1.j q.0 q.1.right) ∙ ap (λ n. get_or hs n 0) same ∙ sym r.4 in
      subst (Placed g) is q.1

  unpaired : (g h : ℕ) → (q : Placed g h) → partner hs to q.i ≡ Some h
  unpaired g h q = partner-at hs to q.i q.j h q.there q.right

  same-number : (g h k l : ℕ) → (q : Placed g h) → (r : Placed k l) → g ≡ k → h ≡ l
  same-number g h k l q r e =
      let i : q.i ≡ r.i = one-place 0 q.i r.i g s.goroutines so.0.goroutines_rise q.left (r.left ∙ ap Some (sym e)) in
      let j : q.j ≡ r.j = some-same (slice_get to q.i) q.j r.j q.there (ap (slice_get to) i ∙ r.there) in
      some-same (slice_get hs q.j) h l q.right (ap (slice_get hs) j ∙ r.right)

  same-partner : (g h k l : ℕ) → (q : Placed g h) → (r : Placed k l) → h ≡ l → g ≡ k
  same-partner g h k l q r e =
      let j : q.j ≡ r.j = one-place 0 q.j r.j h t.goroutines te.0.goroutines_rise q.right (r.right ∙ ap Some (sym e)) in
      let i : q.i ≡ r.i = some-same (slice_get from q.j) q.i r.i q.back (ap (slice_get from) j ∙ r.back) in
      some-same (slice_get gs q.i) g k q.left (ap (slice_get gs) i ∙ r.left)

  one : (g h k l : ℕ) → (q : Placed g h) → (r : Placed k l) → (g == k) ≡ (h == l)
  one g h k l q r = test-both (g == k) (h == l) (λ y. eq-yes h l (same-number g h k l q r (eq-from g k y)))
      (λ y. eq-yes g k (same-partner g h k l q r (eq-from h l y)))

  left : (g : ℕ) (r : GoroutineView) → find g s.goroutines ≡ Some r → (h : ℕ) × In (g, h) ps
  left g r f =
      let at = In-get gs g (In-keys s.goroutines g r (Entry-find g s.goroutines r f)) in
      let q = placed-at at.0 g at.2 in
      (q.0, pairs-put hs gs to q.1.i q.1.j g q.0 q.1.left q.1.there q.1.right)

  right : (h : ℕ) (q : GoroutineView) → find h t.goroutines ≡ Some q → (g : ℕ) × In (g, h) ps
  right h q f =
      let at = In-get hs h (In-keys t.goroutines h q (Entry-find h t.goroutines q f)) in
      let b = p.back at.0 at.1 in
      let within = get-within to b.0 at.0 b.2 in
      let same = p.count in
      let g = get-there gs b.0 (omega (arith, within, same)) in
      (g.0, pairs-put hs gs to b.0 at.0 g.0 h g.1 b.2 at.2)

  ordered : (g h k l : ℕ) → (x : Placed g h) → (y : Placed k l) → (r q u v : GoroutineView)
      → find g s.goroutines ≡ Some r → find h t.goroutines ≡ Some q → find k s.goroutines ≡ Some u
      → find l t.goroutines ≡ Some v → (o : ℕ) → WaitsOn o r → WaitsOn o u
      → nat_lt (ticket_of r.mode) (ticket_of u.mode) ≡ nat_lt (ticket_of q.mode) (ticket_of v.mode)
  ordered g h k l x y r q u v fr fq fu fv o wr wu =
      let ws = p.order.0 in
      let a = p.order.1 x.i g h r q (get-within gs x.i g x.left) x.left (unpaired g h x) fr fq o wr in
      let c = p.order.1 y.i k l u v (get-within gs y.i k y.left) y.left (unpaired k l y) fu fv o wu in
      same-order (wait_pair o r q) (wait_pair o u v) refl
      (either-before ws (wait_pair o r q) (wait_pair o u v) p.order.2 a c)

  alike : AlikeBy ps (silent s) (silent t)
  alike = record {
    others = rest-same s t b e;
    entries = λ g h i. (placed g h i).fit.0;
    left = left;
    right = right;
    one = λ g h k l i j. one g h k l (placed g h i) (placed k l j);
    zero_one = λ g h i. let f = (placed g h i).fit in (f.1, f.2);
    given = λ g h i. let q = placed g h i in (
      key-below s.next_goroutine q.i g s.goroutines so.0.goroutines_below q.left,
      key-below t.next_goroutine q.j h t.goroutines te.0.goroutines_below q.right,
    );
    two = b.two;
    order = λ g h k l i j. ordered g h k l (placed g h i) (placed k l j);
    early = (early (silent s) so.1, early (silent t) te.1);
  }

-- states whose goroutines are partners count as one
pub partners-count : (s t : State) → IsSameBesides s t → nameless s.recorded ≡ nameless t.recorded
    → HavePartners s t → CountAsOne (silent s) (silent t)
partners-count s t b e p so te =
    (pairs (keys t.goroutines) (keys s.goroutines) p.to, alike s t p.to p.from p.partners so te b e)

-- ---- answers

-- what the answer `true` says leads to something else
if-yes : {E P Q : Type 0} → (P → Q) → (r : Result Bool E) → IfOk r (λ same. same ≡ true → P)
    → IfOk r (λ same. same ≡ true → Q)
if-yes f (Ok same) h = λ yes. f (h yes)
if-yes f (Err e) h = tt

pub are-partners : {E : Type 0} (s : State) (gs : List GoroutineId) (t : State) (hs : List GoroutineId)
    (to from xs ys : List ℕ) (r : Result Bool E) → xs ≡ to → ys ≡ from → length xs ≡ length gs
    → ArePaired xs ys (length gs) → ArePaired ys xs (length hs) → AllCanPair s (numbers gs) t (numbers hs) xs
    → IfOk r (λ same. same ≡ true → HaveSameOrder s (numbers gs) t (numbers hs) xs)
    → IfOk r (λ same. same ≡ true → ArePartners s (numbers gs) t (numbers hs) to from)
are-partners s gs t hs to from xs ys r a b count paired back fit =
    let left = length-map gs (λ (g : GoroutineId). g.0) in
    let right = length-map hs (λ (g : GoroutineId). g.0) in
    if-yes (λ order. subst (λ zs. ArePartners s (numbers gs) t (numbers hs) zs from) a
    (subst (λ zs. ArePartners s (numbers gs) t (numbers hs) xs zs) b (record {
      count = count ∙ sym left;
      paired = subst (ArePaired xs ys) (sym left) paired;
      back = subst (ArePaired ys xs) (sym right) back;
      fit = fit;
      order = order;
    }))) r

pub have-partners : {E : Type 0} (s t : State) (xs ys : List ℕ) (to from : List ℕ) (r : Result Bool E)
    → xs ≡ keys s.goroutines → ys ≡ keys t.goroutines
    → IfOk r (λ same. same ≡ true → ArePartners s xs t ys to from) → IfOk r (λ same. same ≡ true → HavePartners s t)
have-partners s t xs ys to from r a b = if-yes (λ partners. record {
  to = to;
  from = from;
  partners = subst (λ zs. ArePartners s zs t (keys t.goroutines) to from) a
      (subst (λ zs. ArePartners s xs t zs to from) b partners);
}) r

pub count-partners : {E : Type 0} (s t : State) (r : Result Bool E) → IsSameBesides s t
    → nameless s.recorded ≡ nameless t.recorded → IfOk r (λ same. same ≡ true → HavePartners s t)
    → IfOk r (λ same. same ≡ true → CountAsOne (silent s) (silent t))
count-partners s t r besides recorded = if-yes (partners-count s t besides recorded) r
