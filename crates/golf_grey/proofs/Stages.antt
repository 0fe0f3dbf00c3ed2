-- The owners and the thieves of all deques, one after another.
-- For: `IsStage` and `AllFresh`, specs/Hands.antt
-- By: cases of which owner it is; for a place in a list, induction over the list
use Rattle.std.proofs.Common.{◌≡◌, ◌≢◌, ℕ, zero, suc, ◌+◌, ◌<◌, ◌≤◌, ◌⊎◌, List, [], ◌∷◌, ◌++◌, length, set, refl, sym}
use Rattle.std.proofs.Common.{ap, ◌∙◌, subst, arith, ⊎_elim, inl, inr, length-append}
use Rattle.std.proofs.Math.ListN.{length-set}
use mathlib.Core.Option.{some, some-injective, some-ne-none}
use lib.ListN.{get_elem?}
use Rattle.std.specs.Prelude.{sum_by}
use Rattle.crossbeam_deque.specs.Handles.{view, IsPassOf, worker_deque, stealer_deque, worker_flavor, stealer_flavor}
use Rattle.crossbeam_deque.specs.Handles.{worker_view, worker_index, worker_capacity}
use Rattle.crossbeam_deque.proofs.Lists.{at_set}
use Rattle.golf_theory.specs.Membership.{Every}
use Rattle.golf_grey.specs.declared.rule.GreyView.{GreyView}
use Rattle.golf_grey.specs.Rule.{left_view}
use Rattle.golf_grey.specs.Hands.{Thief, Owner, GreyPass, RowFits, RowIsNew, row_weight, sum_at, IsStage, IsFresh}
use Rattle.golf_grey.specs.Hands.{AllFresh}

pub push_cases : {A : Type 0} (l : List A) (a b : A) (j : ℕ) → get_elem? (l ++ a ∷ []) j ≡ some b
    → ((j < length l) × (get_elem? l j ≡ some b)) ⊎ ((j ≡ length l) × (a ≡ b))
push_cases [] a b zero e = inr (refl, some-injective a b e)
push_cases [] a b (suc j) e = absurd (some-ne-none b (sym e))
push_cases (x ∷ xs) a b zero e = inl (omega arith, e)
push_cases (x ∷ xs) a b (suc j) e = ⊎_elim (λ t. inl (let l = t.0 in omega arith, t.1)) (λ t. inr (ap suc t.0, t.1))
    (push_cases xs a b j e)

pub at_low : {A : Type 0} (l : List A) (j : ℕ) (a : A) → get_elem? l j ≡ some a → j < length l
at_low [] j a e = absurd (some-ne-none a (sym e))
at_low (x ∷ xs) zero a e = omega arith
at_low (x ∷ xs) (suc j) a e = omega (arith, at_low xs j a e)

-- an owner and a thief of one deque; the owner has p parts
pub record AreOfOneDeque (p : ℕ) (t : Thief) (w : Owner) : Type 0 where
  pub deque : worker_deque w ≡ stealer_deque t
  pub owner_flavor : worker_flavor w ≡ 0
  pub thief_flavor : stealer_flavor t ≡ 0
  pub parts : (worker_view w).parts ≡ p

pub stage_push : (thieves : List Thief) (owners : List Owner) (p k : ℕ) (t : Thief) (w : Owner) → length owners ≡ k
    → length thieves ≡ k → IsStage thieves p k owners → AreOfOneDeque p t w
    → IsStage (thieves ++ t ∷ []) p (k + 1) (owners ++ w ∷ [])
stage_push thieves owners p k t w ol tl s one = record {
  len = omega (arith, length-append owners (w ∷ []), length-append thieves (t ∷ []));
  each = λ j u x e d. ⊎_elim
      (λ (a : (j < length thieves) × (get_elem? thieves j ≡ some u)). ⊎_elim
      (λ (b : (j < length owners) × (get_elem? owners j ≡ some x)). s.each j u x a.1 b.1)
      (λ (b : (j ≡ length owners) × (w ≡ x)). absurd (omega arith))
      (push_cases owners w x j d))
      (λ (a : (j ≡ length thieves) × (t ≡ u)). ⊎_elim
      (λ (b : (j < length owners) × (get_elem? owners j ≡ some x)). absurd (omega arith))
      (λ (b : (j ≡ length owners) × (w ≡ x)).
      subst (λ (y : Owner). (worker_deque y ≡ stealer_deque u) × (worker_flavor y ≡ 0) × (stealer_flavor u ≡ 0)) b.1
      (subst (λ (y : Thief). (worker_deque w ≡ stealer_deque y) × (worker_flavor w ≡ 0) × (stealer_flavor y ≡ 0)) a.1
      (one.deque, one.owner_flavor, one.thief_flavor)))
      (push_cases owners w x j d))
      (push_cases thieves t u j e);
  low = λ j x d l. ⊎_elim
      (λ (b : (j < length owners) × (get_elem? owners j ≡ some x)). s.low j x b.1 (omega arith))
      (λ (b : (j ≡ length owners) × (w ≡ x)). subst (λ (y : Owner). (worker_view y).parts ≡ p) b.1 one.parts)
      (push_cases owners w x j d);
  high = λ j x d l. absurd (let h = at_low (owners ++ w ∷ []) j x d in omega (arith, length-append owners (w ∷ [])));
}

pub fresh_push : (c b : ℕ) (owners : List Owner) (w : Owner) → AllFresh c b owners → IsFresh c b w
    → AllFresh c b (owners ++ w ∷ [])
fresh_push c b owners w all one j x e = ⊎_elim
    (λ (a : (j < length owners) × (get_elem? owners j ≡ some x)). all j x a.1)
    (λ (a : (j ≡ length owners) × (w ≡ x)). subst (IsFresh c b) a.1 one) (push_cases owners w x j e)

-- x takes the place of w at j₀, an owner of the same deque: then those below m have p parts, the others one more
record TakesPlace (owners : List Owner) (p m j₀ : ℕ) (w x : Owner) : Type 0 where
  at : get_elem? owners j₀ ≡ some w
  deque : worker_deque x ≡ worker_deque w
  flavor : worker_flavor x ≡ worker_flavor w
  others : (j : ℕ) (u : Owner) → j ≢ j₀ → get_elem? owners j ≡ some u → (j < m → (worker_view u).parts ≡ p)
      × (m ≤ j → (worker_view u).parts ≡ p + 1)
  low : j₀ < m → (worker_view x).parts ≡ p
  high : m ≤ j₀ → (worker_view x).parts ≡ p + 1

-- the owner at k has changed its parts
stage_set : (thieves : List Thief) (owners : List Owner) (p k m j₀ : ℕ) (w x : Owner) → IsStage thieves p k owners
    → TakesPlace owners p m j₀ w x → IsStage thieves p m (set owners j₀ x)
stage_set thieves owners p k m j₀ w x s new = record {
  len = length-set owners j₀ x ∙ s.len;
  each = λ j t u e d. ⊎_elim
      (λ (a : (j ≡ j₀) × (x ≡ u)). let was = s.each j t w e (ap (λ (n : ℕ). get_elem? owners n) a.0 ∙ new.at) in
      subst (λ (y : Owner). (worker_deque y ≡ stealer_deque t) × (worker_flavor y ≡ 0) × (stealer_flavor t ≡ 0)) a.1
      (new.deque ∙ was.0, new.flavor ∙ was.1, was.2))
      (λ (a : (j ≢ j₀) × (get_elem? owners j ≡ some u)). s.each j t u e a.1)
      (at_set owners j₀ j x u d);
  low = λ j u d l. ⊎_elim
      (λ (a : (j ≡ j₀) × (x ≡ u)). subst (λ (y : Owner). (worker_view y).parts ≡ p) a.1
      (new.low (let e = a.0 in omega arith)))
      (λ (a : (j ≢ j₀) × (get_elem? owners j ≡ some u)). (new.others j u a.0 a.1).0 l)
      (at_set owners j₀ j x u d);
  high = λ j u d l. ⊎_elim
      (λ (a : (j ≡ j₀) × (x ≡ u)). subst (λ (y : Owner). (worker_view y).parts ≡ p + 1) a.1
      (new.high (let e = a.0 in omega arith)))
      (λ (a : (j ≢ j₀) × (get_elem? owners j ≡ some u)). (new.others j u a.0 a.1).1 l)
      (at_set owners j₀ j x u d);
}

-- a part less at k
pub stage_up : (thieves : List Thief) (owners : List Owner) (p k : ℕ) (w x : Owner) → get_elem? owners k ≡ some w
    → worker_deque x ≡ worker_deque w → worker_flavor x ≡ worker_flavor w
    → (worker_view x).parts ≡ p → IsStage thieves p k owners → IsStage thieves p (k + 1) (set owners k x)
stage_up thieves owners p k w x at deque flavor parts s = stage_set thieves owners p k (k + 1) k w x s (record {
  at = at;
  deque = deque;
  flavor = flavor;
  others = λ j u apart e. ((λ l. s.low j u e (omega arith)), λ l. s.high j u e (omega arith));
  low = λ _. parts;
  high = λ l. absurd (omega arith);
})

-- a part more at k
pub stage_down : (thieves : List Thief) (owners : List Owner) (p k : ℕ) (w x : Owner) → get_elem? owners k ≡ some w
    → worker_deque x ≡ worker_deque w → worker_flavor x ≡ worker_flavor w
    → (worker_view x).parts ≡ p + 1 → IsStage thieves p (k + 1) owners → IsStage thieves p k (set owners k x)
stage_down thieves owners p k w x at deque flavor parts s = stage_set thieves owners p (k + 1) k k w x s (record {
  at = at;
  deque = deque;
  flavor = flavor;
  others = λ j u apart e. ((λ l. s.low j u e (omega arith)), λ l. s.high j u e (omega arith));
  low = λ l. absurd (omega arith);
  high = λ _. parts;
})

-- all have p parts, or one more than q
pub stage_turn : (thieves : List Thief) (owners : List Owner) (p q n : ℕ) → length owners ≤ n → q + 1 ≡ p
    → IsStage thieves p n owners → IsStage thieves q 0 owners
stage_turn thieves owners p q n whole one s =
    record {
      len = s.len;
      each = s.each;
      low = λ j w e l. absurd (omega arith);
      high = λ j w e l. s.low j w e (let h = at_low owners j w e in omega arith) ∙ sym one;
    }

pub stage_back : (thieves : List Thief) (owners : List Owner) (p q n : ℕ) → q + 1 ≡ p → IsStage thieves q 0 owners
    → IsStage thieves p (length owners) owners
stage_back thieves owners p q n one s = record {
  len = s.len;
  each = s.each;
  low = λ j w e l. s.high j w e (omega arith)
      ∙ one;
  high = λ j w e l. absurd (let h = at_low owners j w e in omega arith);
}

pub every_at : {X : Type 0} (P : X → Type 0) (xs : List X) → ((k : ℕ) (x : X) → get_elem? xs k ≡ some x → P x)
    → Every P xs
every_at P [] f = tt
every_at P (x ∷ xs) f = (f zero x refl, every_at P xs (λ k y at. f (suc k) y at))

pub exists_at : {A : Type 0} (l : List A) (j : ℕ) → j < length l → (a : A) × (get_elem? l j ≡ some a)
exists_at [] j h = absurd (omega arith)
exists_at (x ∷ xs) zero h = (x, refl)
exists_at (x ∷ xs) (suc j) h = exists_at xs j (omega arith)

pub stage_fifo : (thieves : List Thief) (p k : ℕ) (owners : List Owner) → IsStage thieves p k owners
    → (j : ℕ) (t : Thief) → get_elem? thieves j ≡ some t → stealer_flavor t ≡ 0
stage_fifo thieves p k owners s j t e = let w =
    exists_at owners j (let l = at_low thieves j t e in omega (arith, s.len)) in (s.each j t w.0 e w.1).2

-- a pass was cut off
pub fresh_set : (c b : ℕ) (owners : List Owner) (j : ℕ) (w x : Owner) → get_elem? owners j ≡ some w
    → worker_view x ≡ left_view (worker_view w) → worker_index x ≡ worker_index w
    → worker_capacity w ≤ worker_capacity x
    → AllFresh c b owners → AllFresh c b (set owners j x)
fresh_set c b owners j w x at cut index room all k u e = ⊎_elim
    (λ (a : (k ≡ j) × (x ≡ u)). let f = all j w at in
    subst (IsFresh c b) a.1 (record {
      pushers = ap (λ (v : GreyView). v.pushers) cut ∙ f.pushers;
      knows = (ap (λ (v : GreyView). v.places) cut ∙ f.knows.0, ap (λ (v : GreyView). v.capacity) cut ∙ f.knows.1);
      pushed = ap (λ (v : GreyView). v.pushed) cut ∙ f.pushed;
      taken = ap (λ (v : GreyView). v.taken) cut ∙ f.taken;
      index = omega (arith, index, f.index);
      room = omega (arith, room, f.room);
    }))
    (λ (a : (k ≢ j) × (get_elem? owners k ≡ some u)). all k u a.1)
    (at_set owners j k x u e)

pub new_push : (c b : ℕ) (row : List GreyPass) (p : GreyPass) → RowIsNew c b row → ((view p).places ≡ b)
    × ((view p).capacity ≡ c) × ((view p).taken ≡ []) → RowIsNew c b (row ++ p ∷ [])
new_push c b row p all one j q e = ⊎_elim
    (λ (a : (j < length row) × (get_elem? row j ≡ some q)). all j q a.1)
    (λ (a : (j ≡ length row) × (p ≡ q)). subst
    (λ (y : GreyPass). ((view y).places ≡ b) × ((view y).capacity ≡ c) × ((view y).taken ≡ [])) a.1 one)
    (push_cases row p q j e)

pub row_push : (thieves : List Thief) (row : List GreyPass) (j : ℕ) (p : GreyPass) → length row ≡ j
    → RowFits thieves row → ((t : Thief) → get_elem? thieves j ≡ some t → IsPassOf (stealer_deque t) p)
    → (view p).parts ≡ 1 → (view p).pushed ≡ [] → RowFits thieves (row ++ p ∷ [])
row_push thieves row j p len fits one parts pushed k t q e d = ⊎_elim
    (λ (a : (k < length row) × (get_elem? row k ≡ some q)). fits k t q e a.1)
    (λ (a : (k ≡ length row) × (p ≡ q)).
    let P : GreyPass → Type 0 = λ y. IsPassOf (stealer_deque t) y × ((view y).parts ≡ 1) × ((view y).pushed ≡ []) in
    subst P a.1 (one t (ap (λ (n : ℕ). get_elem? thieves n) (sym len ∙ sym a.0) ∙ e), parts, pushed))
    (push_cases row p q k d)

plus_none : (j : ℕ) → j + 0 ≡ j
plus_none j = omega arith

none_plus : (j : ℕ) → 0 + j ≡ j
none_plus j = omega arith

-- a numbered sum, after one more at its end
push_from : {X : Type 0} (f : ℕ → X → ℕ) (j : ℕ) (xs : List X) (x : X)
    → sum_at f j (xs ++ x ∷ []) ≡ sum_at f j xs + f (j + length xs) x
push_from f j [] x = omega (arith, ap (λ (n : ℕ). f n x) (plus_none j))
push_from f j (y ∷ ys) x = omega (arith, push_from f (j + 1) ys x, ap (λ (n : ℕ). f n x) (more j (length ys)))
  where
    more : (j n : ℕ) → (j + 1) + n ≡ j + suc n
    more j n = omega arith

pub push_at : {X : Type 0} (f : ℕ → X → ℕ) (xs : List X) (x : X) (n : ℕ) → n ≡ length xs
    → sum_at f 0 (xs ++ x ∷ []) ≡ sum_at f 0 xs + f n x
push_at f xs x n e = omega (
  arith,
  push_from f 0 xs x,
  ap (λ (k : ℕ). f k x) (none_plus (length xs)),
  ap (λ (k : ℕ). f k x) e,
)

-- and after one was changed
set_from : {X : Type 0} (f : ℕ → X → ℕ) (j : ℕ) (xs : List X) (k : ℕ) (v w : X) → get_elem? xs k ≡ some v
    → sum_at f j (set xs k w) + f (j + k) v ≡ sum_at f j xs + f (j + k) w
set_from f j [] k v w e = absurd (some-ne-none v (sym e))
set_from f j (x ∷ xs) zero v w e = omega
    (arith, ap (f j) (some-injective x v e), ap (λ (n : ℕ). f n v) (plus_none j), ap (λ (n : ℕ). f n w) (plus_none j))
set_from f j (x ∷ xs) (suc k) v w e = omega
    (arith, set_from f (j + 1) xs k v w e, ap (λ (n : ℕ). f n v) (more j k), ap (λ (n : ℕ). f n w) (more j k))
  where
    more : (j n : ℕ) → (j + 1) + n ≡ j + suc n
    more j n = omega arith

pub set_weighs : {X : Type 0} (f : ℕ → X → ℕ) (xs : List X) (k : ℕ) (v w : X) → get_elem? xs k ≡ some v
    → sum_at f 0 (set xs k w) + f k v ≡ sum_at f 0 xs + f k w
set_weighs f xs k v w e = omega (
  arith,
  set_from f 0 xs k v w e,
  ap (λ (n : ℕ). f n v) (none_plus k),
  ap (λ (n : ℕ). f n w) (none_plus k),
)

pub weight_push : (g : ℕ → ℕ → ℕ) (row : List GreyPass) (p : GreyPass) (n : ℕ) → n ≡ length row
    → row_weight g (row ++ p ∷ []) ≡ row_weight g row + sum_by (g n) (view p).taken
weight_push g row p n e = push_at (λ j (q : GreyPass). sum_by (g j) (view q).taken) row p n e

last_at : {A : Type 0} (l : List A) (a : A) (n : ℕ) → length l ≡ n → get_elem? (l ++ a ∷ []) n ≡ some a
last_at [] a zero e = refl
last_at [] a (suc n) e = absurd (omega arith)
last_at (x ∷ xs) a zero e = absurd (omega arith)
last_at (x ∷ xs) a (suc n) e = last_at xs a n (omega arith)

front_at : {A : Type 0} (l : List A) (a : A) (j : ℕ) (b : A) → get_elem? l j ≡ some b
    → get_elem? (l ++ a ∷ []) j ≡ some b
front_at [] a j b e = absurd (some-ne-none b (sym e))
front_at (x ∷ xs) a zero b e = e
front_at (x ∷ xs) a (suc j) b e = front_at xs a j b e

-- after a pop
pub at_end : {A : Type 0} (l more : List A) (a : A) (n : ℕ) → l ≡ more ++ a ∷ [] → n ≡ length more
    → get_elem? l n ≡ some a
at_end {A = A} l more a n is e = subst (λ (x : List A). get_elem? x n ≡ some a) (sym is) (last_at more a n (sym e))

pub longer : {A : Type 0} (l more : List A) (a : A) → l ≡ more ++ a ∷ [] → (j : ℕ) (b : A) → get_elem? more j ≡ some b
    → get_elem? l j ≡ some b
longer {A = A} l more a is j b e = subst (λ (x : List A). get_elem? x j ≡ some b) (sym is) (front_at more a j b e)
