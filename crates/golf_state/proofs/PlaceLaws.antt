-- What changes of places do to the map of goroutines, and to the list of those that run.
-- For: `plain_entries`, `running_of` (golf_state_goroutines/specs/Places.antt) and `Roster::get_mut`
-- By: induction over the entries of the map for one that is put; otherwise the laws of maps and cases
use Rattle.std.proofs.Common.{◌≡◌, ℕ, suc, ◌-◌, ◌<◌, ◌≤◌, Bool, true, false, not, cond, ◌&&◌, ◌||◌, List, [], ◌∷◌}
use Rattle.std.proofs.Common.{◌++◌, length, Option, Some, None, ◌==◌, refl, sym, ap, ◌∙◌, subst, arith}
use Rattle.std.specs.Prelude.{option_map, is_some}
use Rattle.std.proofs.lemmas.Bool.{not-true, eqb-true, eqb-false, eq-eqb, ne_eqb}
use Rattle.std.proofs.lemmas.List.{map-append}
use Rattle.golf_data.specs.declared.goroutine.Goroutine.{Goroutine}
use Rattle.golf_data.specs.declared.goroutine.Queued.{Queued}
use Rattle.golf_theory.specs.Maps.{find, put, add, only, keys_where, Rises, AllBelow}
use Rattle.golf_theory.specs.Stored.{placed, without}
use Rattle.golf_theory.proofs.MapFinds.{Entry-above, find-Entry, find-put, find-only}
use Rattle.golf_theory.proofs.MapKeys.{keys_where-same, keys_where-add, keys_where-put_out, keys_where-put_same}
use Rattle.golf_theory.proofs.MapKeys.{keys_where-only}
use Rattle.golf_theory.proofs.MapOrder.{Rises-put, AllBelow-put}
use Rattle.golf_theory.proofs.Placing.{keys_where-put_in, put_below}
use Rattle.golf_model.specs.Views.{GoroutineView, goroutine_view}
use Rattle.golf_model.specs.State.{is_running, not_empty, can_run}
use Rattle.golf_model.specs.Changes.{behind_first}
use Rattle.golf_state.specs.Inside.{AreKept}
use Rattle.golf_state.specs.Looked.{is_running_in, is_blocked_in}
use Rattle.golf_state_goroutines.specs.Places.{plain_entry, plain_entries, running_of, is_idle, starts_idle}
use Rattle.golf_state_goroutines.specs.Goroutines.{AllUnder, IsNone}
use Rattle.golf_state_goroutines.specs.Ready.{AllReady}
use Rattle.golf_state_goroutines.specs.Roominess.{IsReadyIn}
use Rattle.golf_blocks.proofs.Parts.{only-length}
use Rattle.golf_blocks.proofs.SpotLaws.{put-length}
use Rattle.golf_state_goroutines.proofs.PlaceLaws.{find-plain, put-plain, only-plain}
use Rattle.golf_state.proofs.Readiness.{ready-at, ready-put}

-- ---- what is put

module _ {X : Type 0} where
  -- a value that is put where it stands
  pub put-same : (k j : ℕ) (v : X) (es : List (ℕ × X)) → Rises j es → find k es ≡ Some v → put k v es ≡ es
  put-same k j v [] r h = refl
  put-same k j v (e ∷ es) r h =
      elim (k == e.0) as (λ b. k == e.0 ≡ b → cond b (Some e.1) (find k es) ≡ Some v → (e.0, cond b v e.1)
      ∷ put k v es ≡ e ∷ es) [
        | true ↦ λ t i.
            let same : k ≡ e.0 = eqb-true k e.0 t in
            let is : v ≡ e.1 = cc in
            ap (λ (w : X). (e.0, w) ∷ put k v es) is
            ∙ ap (λ (r : List (ℕ × X)). e ∷ r) (put_below k v (suc e.0) es (omega arith) r.1)
        | false ↦ λ t i. ap (λ (r : List (ℕ × X)). e ∷ r) (put-same k (suc e.0) v es r.1 i)
      ] refl h

-- ---- goroutines that are there

-- a goroutine that runs is there
pub running-there : (o : Option GoroutineView) → is_running_in o ≡ true → is_some o ≡ true
running-there None h = cc
running-there (Some v) h = refl

-- and so is one that is blocked
pub blocked-there : (o : Option GoroutineView) → is_blocked_in o ≡ true → is_some o ≡ true
blocked-there None h = cc
blocked-there (Some v) h = refl

-- one that is not
pub none-there : (b : Bool) (o : Option GoroutineView) → b ≡ is_some o → b ≡ false → o ≡ None
none-there b None e h = refl
none-there b (Some v) e h = cc

-- one that is there stays there
there-put : (g : ℕ) (v : GoroutineView) (k : ℕ) (es : List (ℕ × GoroutineView)) → is_some (find k es) ≡ true
    → is_some (find k (put g v es)) ≡ true
there-put g v k [] h = h
there-put g v k (e ∷ es) h = elim (k == e.0) as (λ b. is_some (cond b (Some e.1) (find k es)) ≡ true
    → is_some (cond b (Some (cond (g == e.0) v e.1)) (find k (put g v es))) ≡ true) [
      | true ↦ λ i. refl
      | false ↦ λ i. there-put g v k es i
    ] h

pub there-add : (k : ℕ) (es fs : List (ℕ × GoroutineView)) → is_some (find k es) ≡ true
    → is_some (find k (es ++ fs)) ≡ true
there-add k [] fs h = cc
there-add k (e ∷ es) fs h = elim (k == e.0) as (λ b. is_some (cond b (Some e.1) (find k es)) ≡ true
    → is_some (cond b (Some e.1) (find k (es ++ fs))) ≡ true) [
      | true ↦ λ i. refl
      | false ↦ λ i. there-add k es fs i
    ] h

pub there-left : (g k : ℕ) (es : List (ℕ × GoroutineView)) → k < g → is_some (find k es) ≡ true
    → is_some (find k (only (λ h. not (h == g)) es)) ≡ true
there-left g k es l h = ap (λ (o : Option GoroutineView). is_some o)
    (find-only (λ h. not (h == g)) es k (ap not (ne_eqb k g (λ e. omega (arith, e, l))))) ∙ h

pub push-at : (gs : List (ℕ × Goroutine)) (q : ℕ × Goroutine) (k : ℕ) (v : GoroutineView) → plain_entry q ≡ (k, v)
    → plain_entries (gs ++ q ∷ []) ≡ add k v (plain_entries gs)
push-at gs q k v e = map-append plain_entry gs (q ∷ []) ∙ ap (λ (p : ℕ × GoroutineView). plain_entries gs ++ p ∷ []) e

-- ---- none of those that run

none-above : (g j : ℕ) (es : List (ℕ × GoroutineView)) → g < j → Rises j es → IsNone g (running_of es)
none-above g j [] l r = tt
none-above g j (e ∷ es) l r = elim (is_running e.1.mode) as (λ b. IsNone g
    (cond b (e.0 ∷ running_of es) (running_of es))) [
      | true ↦ (λ i. omega (arith, i, l, r.0), none-above g (suc e.0) es (omega (arith, l, r.0)) r.1)
      | false ↦ none-above g (suc e.0) es (omega (arith, l, r.0)) r.1
    ]

none-where : (g j : ℕ) (es : List (ℕ × GoroutineView)) (v : GoroutineView) → Rises j es → find g es ≡ Some v
    → is_running v.mode ≡ false → IsNone g (running_of es)
none-where g j [] v r f b = tt
none-where g j (e ∷ es) v r f b = elim (g == e.0) as (λ t. g == e.0 ≡ t → cond t (Some e.1) (find g es) ≡ Some v
    → IsNone g (running_of (e ∷ es))) [
      | true ↦ λ t i.
          let is : e.1 ≡ v = cc in
          let same = eqb-true g e.0 t in
          let out : is_running e.1.mode ≡ false = ap (λ (r : GoroutineView). is_running r.mode) is ∙ b in
          rw out (none-above g (suc e.0) es (omega (arith, same)) r.1)
      | false ↦ λ t i.
          let rest = none-where g (suc e.0) es v r.1 i b in
          elim (is_running e.1.mode) as (λ c. IsNone g (cond c (e.0 ∷ running_of es) (running_of es))) [
            | true ↦ (λ q. eqb-false g e.0 t (sym q), rest)
            | false ↦ rest
          ]
    ] refl f

pub number-of : (p : ℕ × Goroutine) (n : ℕ) (v : GoroutineView) → plain_entry p ≡ (n, v) → p.0 ≡ n
number-of p n v e = ap (λ (d : ℕ × GoroutineView). d.0) e

-- ---- one has left

pub entries-left : (gs : List (ℕ × Goroutine)) (g : ℕ)
    → plain_entries (only (λ h. not (h == g)) gs) ≡ only (λ h. not (h == g)) (plain_entries gs)
entries-left gs g = only-plain (λ h. not (h == g)) gs

pub ready-left : (gs : List (ℕ × Goroutine)) (g : ℕ) → AllReady gs → AllReady (only (λ h. not (h == g)) gs)
ready-left [] g a = tt
ready-left (p ∷ gs) g a = elim (p.0 == g) as (λ b. AllReady
    (cond (not b) (p ∷ only (λ h. not (h == g)) gs) (only (λ h. not (h == g)) gs))) [
      | true ↦ ready-left gs g a.1
      | false ↦ (a.0, ready-left gs g a.1)
    ]

pub fewer-left : (gs : List (ℕ × Goroutine)) (g : ℕ) → length (only (λ h. not (h == g)) gs) ≤ length gs
fewer-left gs g = only-length (λ h. not (h == g)) gs

-- ---- the goroutine that a roster lends

module _ (gs : List (ℕ × Goroutine)) (g : ℕ) (x : Goroutine) (here : find g gs ≡ Some x)
    (rises : Rises 0 (plain_entries gs)) where
  pub lent-found : find g (plain_entries gs) ≡ Some (goroutine_view x)
  lent-found = find-plain g gs ∙ ap (option_map goroutine_view) here

  pub lent-runs : is_running_in (find g (plain_entries gs)) ≡ true → is_running x.mode ≡ true
  lent-runs h = ap is_running_in (sym lent-found) ∙ h

  pub lent-blocked : is_blocked_in (find g (plain_entries gs)) ≡ true → is_running x.mode ≡ false
  lent-blocked h = not-true (is_running x.mode) (ap is_blocked_in (sym lent-found) ∙ h)

  pub lent-ready : AllReady gs → IsReadyIn x.mode x.frames
  lent-ready ready = ready-at gs g x ready here

  -- it becomes another one
  pub lent-set : (y : Goroutine) → plain_entries (put g y gs) ≡ put g (goroutine_view y) (plain_entries gs)
  lent-set y = put-plain g y gs

  -- and those that run with it
  pub lent-kept : {running runs : List ℕ} {next : ℕ} (y : Goroutine) → AreKept gs running next
      → IsReadyIn y.mode y.frames
      → runs ≡ running_of (put g (goroutine_view y) (plain_entries gs))
      → AreKept (put g y gs) runs next
  lent-kept {next = next} y k ready is =
      let w = goroutine_view y in
      let es = plain_entries gs in
      let e = lent-set y in
      record {
        rises = subst (Rises 0) (sym e) (Rises-put 0 g w es k.rises);
        below = subst (AllBelow next) (sym e) (AllBelow-put next g w es k.below);
        zero = ap (λ (fs : List (ℕ × GoroutineView)). is_some (find 0 fs)) e ∙ there-put g w 0 es k.zero;
        running = is ∙ ap running_of (sym e);
        few = omega (arith, put-length g y gs, k.few);
        limit = k.limit;
        ready = ready-put gs g y k.ready ready;
      }

  pub put-there : (y : Goroutine) → is_some (find g (plain_entries (put g y gs))) ≡ true
  put-there y = ap (λ (es : List (ℕ × GoroutineView)). is_some (find g es)) (lent-set y)
      ∙ ap is_some (find-put g (goroutine_view y) (plain_entries gs) (goroutine_view x) lent-found)

  -- one that is blocked is none of those that run
  pub none-runs : (runs : List ℕ) → runs ≡ running_of (plain_entries gs) → is_running x.mode ≡ false → IsNone g runs
  none-runs runs is b = rw is (none-where g 0 (plain_entries gs) (goroutine_view x) rises lent-found b)

-- ---- those that run

module _ (es : List (ℕ × GoroutineView)) (g : ℕ) where
  pub runs-blocked : (v : GoroutineView) → is_running v.mode ≡ false
      → without g (running_of es) ≡ running_of (put g v es)
  runs-blocked v b = sym (keys_where-put_out (λ g r. is_running r.mode) g v es b)

  pub runs-woken : (old v : GoroutineView) → Rises 0 es → find g es ≡ Some old → is_running old.mode ≡ false
      → is_running v.mode ≡ true
      → placed g (running_of es) ≡ running_of (put g v es)
  runs-woken old v r f a b = sym (keys_where-put_in (λ g r. is_running r.mode) g v 0 es old r f a b)

  pub runs-same : (old v : GoroutineView) → Rises 0 es → find g es ≡ Some old → is_running old.mode ≡ is_running v.mode
      → running_of es ≡ running_of (put g v es)
  runs-same old v r f e =
      sym (keys_where-put_same (λ g r. is_running r.mode) g v es (λ x i.
      let same = find-Entry es g x r i in
      let is : x ≡ old = cc in
      ap (λ (r : GoroutineView). is_running r.mode) is ∙ e))

  pub runs-left : without g (running_of es) ≡ running_of (only (λ h. not (h == g)) es)
  runs-left = sym (keys_where-only (λ g r. is_running r.mode) (λ h. not (h == g)) es)

  pub runs-spawned : (v : GoroutineView) → is_running v.mode ≡ true → running_of es ++ g ∷ [] ≡ running_of (add g v es)
  runs-spawned v b = sym (keys_where-add (λ g r. is_running r.mode) g v es b)

-- ---- goroutine 0

above : (queue : List Queued) (g : ℕ) (r : GoroutineView) → (g ≡ 0 → ⊥) → can_run queue g r ≡ is_running r.mode
above queue g r n =
    ap (λ b. is_running r.mode && (not b || (not_empty r.frames || not_empty queue))) (ne_eqb g 0 n)
    ∙ elim (is_running r.mode) as (λ b. (b && true) ≡ b) [ true ↦ refl | false ↦ refl ]

runs_above : (queue : List Queued) (k : ℕ) (es : List (ℕ × GoroutineView)) → Rises (suc k) es
    → keys_where (can_run queue) es ≡ running_of es
runs_above queue k es r = keys_where-same (can_run queue) (λ g r. is_running r.mode) es
    (λ g x i. let a = Entry-above (suc k) es g x r i in above queue g x (λ e. omega (arith, a, e)))

find-low : (j k : ℕ) (es : List (ℕ × GoroutineView)) → k < j → Rises j es → find k es ≡ None
find-low j k [] l r = refl
find-low j k (e ∷ es) l r = ap (λ b. cond b (Some e.1) (find k es)) (ne_eqb k e.0 (λ q. omega (arith, q, l, r.0)))
    ∙ find-low (suc e.0) k es (omega (arith, l, r.0)) r.1

-- goroutine 0 is the first, if it is there
pub idle-found : (es : List (ℕ × GoroutineView)) (v : GoroutineView) → Rises 0 es → find 0 es ≡ Some v
    → is_idle v ≡ starts_idle es
idle-found [] v r h = cc
idle-found (e ∷ es) v r h = elim (0 == e.0) as (λ t. 0 == e.0 ≡ t → cond t (Some e.1) (find 0 es) ≡ Some v
    → is_idle v ≡ ((e.0 == 0) && is_idle e.1)) [
      | true ↦ λ t i.
          let same : v ≡ e.1 = cc in
          ap is_idle same ∙ ap (λ b. b && is_idle e.1) (sym (eq-eqb e.0 0 (sym (eqb-true 0 e.0 t))))
      | false ↦ λ t i. let none = find-low (suc e.0) 0 es (omega arith) r.1 in cc
    ] refl h

pub one-fewer : (xs : List ℕ) → length xs - 1 ≡ length (behind_first xs)
one-fewer [] = omega arith
one-fewer (x ∷ xs) = omega arith

-- if goroutine 0 has nothing to do, it runs by its mode alone, and is the first
pub runs-idle : (queue : List Queued) (es : List (ℕ × GoroutineView)) → Rises 0 es
    → (not (not_empty queue) && starts_idle es) ≡ true → behind_first (running_of es) ≡ keys_where (can_run queue) es
runs-idle queue [] r i = refl
runs-idle queue (e ∷ es) r i =
    rw (runs_above queue e.0 es r.1) (idle (e.0 == 0) (is_running e.1.mode) (not_empty e.1.frames) (not_empty queue) i)
  where
    idle : (z b c q : Bool) → (not q && (z && (b && not c))) ≡ true
        → behind_first (cond b (e.0 ∷ running_of es) (running_of es)) ≡ cond (b && (not z || (c || q)))
        (e.0 ∷ running_of es) (running_of es)
    idle z b c true i = cc
    idle true true true false i = cc
    idle true true false false i = refl
    idle true false c false i = cc
    idle false b c false i = cc

-- else those that run are all
pub runs-busy : (queue : List Queued) (es : List (ℕ × GoroutineView)) → Rises 0 es
    → (not (not_empty queue) && starts_idle es) ≡ false → running_of es ≡ keys_where (can_run queue) es
runs-busy queue [] r i = refl
runs-busy queue (e ∷ es) r i =
    rw (runs_above queue e.0 es r.1) (busy (e.0 == 0) (is_running e.1.mode) (not_empty e.1.frames) (not_empty queue) i)
  where
    busy : (z b c q : Bool) → (not q && (z && (b && not c))) ≡ false
        → cond b (e.0 ∷ running_of es) (running_of es) ≡ cond (b && (not z || (c || q))) (e.0 ∷ running_of es)
        (running_of es)
    busy z false c q i = refl
    busy false true c q i = refl
    busy true true true q i = refl
    busy true true false true i = refl
    busy true true false false i = cc

some-left : (xs : List ℕ) → 1 ≤ length xs → not_empty xs ≡ true
some-left [] l = absurd (omega (arith, l))
some-left (x ∷ xs) l = refl

-- of two that run one can
pub one-awake : (queue : List Queued) (es : List (ℕ × GoroutineView)) → Rises 0 es → 2 ≤ length (running_of es)
    → not_empty (keys_where (can_run queue) es) ≡ true
one-awake queue es r l = elim (not (not_empty queue)
    && starts_idle es) as (λ b. (not (not_empty queue) && starts_idle es) ≡ b
    → not_empty (keys_where (can_run queue) es) ≡ true) [
      | true ↦ λ i.
          let e = runs-idle queue es r i in
          let n = ap (λ (xs : List ℕ). length xs) e in
          some-left (keys_where (can_run queue) es) (omega (arith, l, n, one-fewer (running_of es)))
      | false ↦ λ i. let n = ap (λ (xs : List ℕ). length xs) (runs-busy queue es r i) in some-left
          (keys_where (can_run queue) es) (omega (arith, l, n))
    ] refl
