-- Each single change, done to alike goroutines of alike states, keeps states alike.
-- For: `IsAlike`, specs/Alike.antt
-- By: cases of the change
use Rattle.std.proofs.Common.{◌≡◌, ℕ, ◌+◌, ◌<◌, ◌≤◌, ◌==◌, Bool, true, false, not, List, Option, Some, None, inl, inr}
use Rattle.std.proofs.Common.{refl, sym, ap, ◌∙◌, subst, arith, ◌⊎◌}
use Rattle.std.specs.Prelude.{nat_lt, option_map}
use Rattle.std.proofs.lemmas.Bool.{eqb-true, eqb-false, eq-eqb, lt-ltb, le-ltb}
use Rattle.golf_theory.specs.Membership.{In}
use Rattle.golf_theory.specs.Maps.{find, put, only}
use Rattle.golf_theory.proofs.MapFinds.{find-put, find-put_other, put-none, find-only, find-only_out, cases_find}
use Rattle.golf_data.specs.declared.value.Value.{Value}
use Rattle.golf_data.specs.declared.value.Object.{Object}
use Rattle.golf_data.specs.declared.goroutine.Mode.{Mode}
use Rattle.golf_data.specs.declared.goroutine.Ending.{Ending}
use Rattle.golf_data.specs.declared.goroutine.Wait.{Wait}
use Rattle.golf_data.specs.declared.goroutine.WaitKind.{WaitKind}
use Rattle.golf_model.specs.Views.{GoroutineView}
use Rattle.golf_model.specs.State.{State, is_running}
use Rattle.golf_model.specs.Waiters.{waits_of, ticket_of}
use Rattle.golf_model.specs.Refs.{waited}
use Rattle.golf_model.specs.Changes.{become, block, leave, finish, make, replace, set_global, set_finaliser}
use Rattle.golf_model.specs.Changes.{clear_finaliser, take_queued, output}
use Rattle.golf_explore_laws.specs.Alike.{blank, nameless, rest, WaitsOn, AlikeBy}
use Rattle.golf_explore_laws.proofs.Alike.Partners.{waits-moved, partner-of}

-- ---- changes of all but goroutines

-- the same goroutines and next numbers, and the rest still equal
pub alike-others : (ps : List (ℕ × ℕ)) (s t : State) → AlikeBy ps s t → (x y : State)
    → x.goroutines ≡ s.goroutines → y.goroutines ≡ t.goroutines
    → x.next_goroutine ≡ s.next_goroutine → y.next_goroutine ≡ t.next_goroutine
    → x.next_ticket ≡ s.next_ticket → y.next_ticket ≡ t.next_ticket
    → rest x ≡ rest y → AlikeBy ps x y
alike-others ps s t a x y gx gy nx ny tx ty e = record {
  others = e;
  entries = λ g h i. ap (λ gs. option_map blank (find g gs)) gx ∙ a.entries g h i
      ∙ ap (λ gs. option_map blank (find h gs)) (sym gy);
  left = λ g r f. a.left g r (ap (find g) (sym gx) ∙ f);
  right = λ h q f. a.right h q (ap (find h) (sym gy) ∙ f);
  one = a.one;
  zero_one = a.zero_one;
  given = λ g h i. let p = a.given g h i in (
    subst (λ n. g < n) (sym nx) p.0,
    subst (λ n. h < n) (sym ny) p.1,
  );
  two = (subst (λ n. 2 ≤ n) (sym nx) a.two.0, subst (λ n. 2 ≤ n) (sym ny) a.two.1);
  order = λ g h k l i j r q u v fr fq fu fv.
      a.order g h k l i j r q u v (ap (find g) (sym gx) ∙ fr) (ap (find h) (sym gy) ∙ fq) (ap (find k) (sym gx) ∙ fu)
      (ap (find l) (sym gy) ∙ fv);
  early = (
    λ g r f b. subst (λ n. ticket_of r.mode < n) (sym tx) (a.early.0 g r (ap (find g) (sym gx) ∙ f) b),
    λ g r f b. subst (λ n. ticket_of r.mode < n) (sym ty) (a.early.1 g r (ap (find g) (sym gy) ∙ f) b),
  );
}

module _ (ps : List (ℕ × ℕ)) (s t : State) (a : AlikeBy ps s t) where
  pub alike-make : (x : Object) → AlikeBy ps (make x s) (make x t)
  alike-make x = alike-others ps s t a (make x s) (make x t) refl refl refl refl refl refl (ap (make x) a.others)

  pub alike-replace : (o : ℕ) (x : Object) → AlikeBy ps (replace o x s) (replace o x t)
  alike-replace o x = alike-others ps s t a (replace o x s) (replace o x t) refl refl refl refl refl refl
      (ap (replace o x) a.others)

  pub alike-set_global : (i : ℕ) (v : Value) → AlikeBy ps (set_global i v s) (set_global i v t)
  alike-set_global i v = alike-others ps s t a (set_global i v s) (set_global i v t) refl refl refl refl refl refl
      (ap (set_global i v) a.others)

  pub alike-set_finaliser : (o f : ℕ) → AlikeBy ps (set_finaliser o f s) (set_finaliser o f t)
  alike-set_finaliser o f = alike-others ps s t a (set_finaliser o f s) (set_finaliser o f t) refl refl refl refl refl
      refl (ap (set_finaliser o f) a.others)

  pub alike-clear_finaliser : (o : ℕ) → AlikeBy ps (clear_finaliser o s) (clear_finaliser o t)
  alike-clear_finaliser o = alike-others ps s t a (clear_finaliser o s) (clear_finaliser o t) refl refl refl refl refl
      refl (ap (clear_finaliser o) a.others)

  pub alike-take_queued : AlikeBy ps (take_queued s) (take_queued t)
  alike-take_queued = alike-others ps s t a (take_queued s) (take_queued t) refl refl refl refl refl refl
      (ap take_queued a.others)

  pub alike-output : (bytes : List ℕ) → AlikeBy ps (output bytes s) (output bytes t)
  alike-output bytes = alike-others ps s t a (output bytes s) (output bytes t) refl refl refl refl refl refl
      (ap (output bytes) a.others)

  pub alike-finish : (e f : Ending) → nameless (Some e) ≡ nameless (Some f) → AlikeBy ps (finish e s) (finish f t)
  alike-finish e f same = alike-others ps s t a (finish e s) (finish f t) refl refl refl refl refl refl
      (ap (λ (x : State). record x { recorded = nameless (Some e) }) a.others
      ∙ ap (λ (m : Option Ending). record (rest t) { recorded = m }) same)

-- ---- maps

-- what is found after a put
pub put-cases : (g : ℕ) (v : GoroutineView) (es : List (ℕ × GoroutineView)) (k : ℕ) (x : GoroutineView)
    → find k (put g v es) ≡ Some x → ((k ≡ g) × (x ≡ v)) ⊎ ((k ≡ g → ⊥) × (find k es ≡ Some x))
put-cases g v es k x f = elim (k == g) as (λ b. k == g ≡ b → ((k ≡ g) × (x ≡ v)) ⊎ ((k ≡ g → ⊥)
    × (find k es ≡ Some x))) [
      | true ↦ λ b. let same = eqb-true k g b in elim (cases_find g es) [
        | inl n ↦ let gone : find k es ≡ Some x = ap (find k) (sym (put-none g v es n)) ∙ f in
            let none : find k es ≡ None = ap (λ j. find j es) same ∙ n in cc
        | inr o ↦ let here = find-put g v es o.0 o.1 in
            let there : find g (put g v es) ≡ Some x = ap (λ j. find j (put g v es)) (sym same) ∙ f in
            inl (same, cc)
      ]
      | false ↦ λ b. inr (eqb-false k g b, sym (find-put_other g v es k (eqb-false k g b)) ∙ f)
    ] refl

-- it was there before
put-there : (g : ℕ) (v : GoroutineView) (es : List (ℕ × GoroutineView)) (k : ℕ) (x : GoroutineView)
    → find k (put g v es) ≡ Some x → (y : GoroutineView) × (find k es ≡ Some y)
put-there g v es k x f = elim (cases_find k es) [
  | inl n ↦ elim (put-cases g v es k x f) [
    | inl p ↦ let none : find g es ≡ None = ap (λ j. find j es) (sym p.0) ∙ n in
        let e : find k es ≡ Some x = ap (find k) (sym (put-none g v es none)) ∙ f in cc
    | inr p ↦ (x, p.1)
  ]
  | inr y ↦ y
]

blank-put : (g h : ℕ) (r q : GoroutineView) (es fs : List (ℕ × GoroutineView)) → blank r ≡ blank q
    → option_map blank (find g es) ≡ option_map blank (find h fs)
    → option_map blank (find g (put g r es)) ≡ option_map blank (find h (put h q fs))
blank-put g h r q es fs e same = elim (cases_find g es) [
  | inl n ↦ elim (cases_find h fs) [
    | inl m ↦ ap (λ x. option_map blank (find g x)) (put-none g r es n) ∙ same
        ∙ ap (λ x. option_map blank (find h x)) (sym (put-none h q fs m))
    | inr y ↦ let p : option_map blank (find g es) ≡ None = ap (option_map blank) n in
        let w : option_map blank (find h fs) ≡ Some (blank y.0) = ap (option_map blank) y.1 in cc
  ]
  | inr x ↦ elim (cases_find h fs) [
    | inl m ↦ let p : option_map blank (find g es) ≡ Some (blank x.0) = ap (option_map blank) x.1 in
        let w : option_map blank (find h fs) ≡ None = ap (option_map blank) m in cc
    | inr y ↦ ap (option_map blank) (find-put g r es x.0 x.1) ∙ ap Some e
        ∙ ap (option_map blank) (sym (find-put h q fs y.0 y.1))
  ]
]

no-waits : (o : ℕ) (r : GoroutineView) → r.mode ≡ Mode.Running → WaitsOn o r → ⊥
no-waits o r e w = subst (λ m. In o (waited (waits_of m))) e w

no-block : (r : GoroutineView) → r.mode ≡ Mode.Running → is_running r.mode ≡ false → ⊥
no-block r e b = let on : is_running r.mode ≡ true = ap is_running e in cc

-- who waits is blocked
pub blocked-of : (o : ℕ) (m : Mode) → In o (waited (waits_of m)) → is_running m ≡ false
blocked-of o Mode.Running w = absurd w
blocked-of o (Mode.Blocked kind line waits ticket) w = refl

-- ---- a goroutine and its partner become something

module _ (ps : List (ℕ × ℕ)) (s t : State) (a : AlikeBy ps s t) (g h : ℕ) (i : In (g, h) ps) where
  same-partner : (k l : ℕ) → In (k, l) ps → k ≡ g → l ≡ h
  same-partner k l j e = eqb-true l h (sym (a.one k l g h j i) ∙ eq-eqb k g e)

  same-partner_back : (k l : ℕ) → In (k, l) ps → l ≡ h → k ≡ g
  same-partner_back k l j e = eqb-true k g (a.one k l g h j i ∙ eq-eqb l h e)

  entries-put : (r q : GoroutineView) → blank r ≡ blank q → (k l : ℕ) → In (k, l) ps
      → option_map blank (find k (put g r s.goroutines)) ≡ option_map blank (find l (put h q t.goroutines))
  entries-put r q e k l j = elim (k == g) as (λ b. k == g ≡ b
      → option_map blank (find k (put g r s.goroutines)) ≡ option_map blank (find l (put h q t.goroutines))) [
        | true ↦ λ b. let x = eqb-true k g b in let y = same-partner k l j x in
            ap (λ n. option_map blank (find n (put g r s.goroutines))) x
            ∙ blank-put g h r q s.goroutines t.goroutines e (a.entries g h i)
            ∙ ap (λ n. option_map blank (find n (put h q t.goroutines))) (sym y)
        | false ↦ λ b. let x = eqb-false k g b in
            ap (option_map blank) (find-put_other g r s.goroutines k x) ∙ a.entries k l j
            ∙ ap (option_map blank) (sym (find-put_other h q t.goroutines l (λ y. x (same-partner_back k l j y))))
      ] refl

  early-become : (n : ℕ) (r : GoroutineView) (u : State)
      → ((k : ℕ) (x : GoroutineView) → find k u.goroutines ≡ Some x → is_running x.mode ≡ false
      → ticket_of x.mode < u.next_ticket) → r.mode ≡ Mode.Running
      → (k : ℕ) (x : GoroutineView) → find k (put n r u.goroutines) ≡ Some x → is_running x.mode ≡ false
      → ticket_of x.mode < u.next_ticket
  early-become n r u early on k x f b = elim (put-cases n r u.goroutines k x f) [
    | inl p ↦ absurd (no-block r on (ap (λ (z : GoroutineView). is_running z.mode) (sym p.1) ∙ b))
    | inr p ↦ early k x p.1 b
  ]

  pub alike-become : (r : GoroutineView) → r.mode ≡ Mode.Running → AlikeBy ps (become g r s) (become h r t)
  alike-become r on = record {
    others = a.others;
    entries = λ k l j. entries-put r r refl k l j;
    left = λ k x f. let y = put-there g r s.goroutines k x f in a.left k y.0 y.1;
    right = λ l x f. let y = put-there h r t.goroutines l x f in a.right l y.0 y.1;
    one = a.one;
    zero_one = a.zero_one;
    given = a.given;
    two = a.two;
    order = λ k l m n j jj x q u v fx fq fu fv o wx wu.
        elim (put-cases g r s.goroutines k x fx) [
          | inl p ↦ absurd (no-waits o r on (subst (WaitsOn o) p.1 wx))
          | inr p ↦ elim (put-cases g r s.goroutines m u fu) [
            | inl w ↦ absurd (no-waits o r on (subst (WaitsOn o) w.1 wu))
            | inr w ↦ a.order k l m n j jj x q u v p.1
                (sym (find-put_other h r t.goroutines l (λ y. p.0 (same-partner_back k l j y))) ∙ fq) w.1
                (sym (find-put_other h r t.goroutines n (λ y. w.0 (same-partner_back m n jj y))) ∙ fv) o wx wu
          ]
        ];
    early = (early-become g r s a.early.0 on, early-become h r t a.early.1 on);
  }

  -- ---- they block, with the next ticket each

  early-blocked : (n : ℕ) (r : GoroutineView) (u : State)
      → ((k : ℕ) (x : GoroutineView) → find k u.goroutines ≡ Some x → is_running x.mode ≡ false
      → ticket_of x.mode < u.next_ticket) → (is_running r.mode ≡ false → ticket_of r.mode ≡ u.next_ticket)
      → (k : ℕ) (x : GoroutineView) → find k (put n r u.goroutines) ≡ Some x → is_running x.mode ≡ false
      → ticket_of x.mode < u.next_ticket + 1
  early-blocked n r u early on k x f b = elim (put-cases n r u.goroutines k x f) [
    | inl p ↦ let same : ticket_of x.mode ≡ ticket_of r.mode = ap (λ (z : GoroutineView). ticket_of z.mode) p.1 in
        let own = on (ap (λ (z : GoroutineView). is_running z.mode) (sym p.1) ∙ b) in omega (arith, same, own)
    | inr p ↦ let l = early k x p.1 b in omega (arith, l)
  ]

  tickets-same : (b c d e : ℕ) → c ≤ b → e ≤ d → nat_lt b c ≡ nat_lt d e
  tickets-same b c d e l m = le-ltb b c l ∙ sym (le-ltb d e m)

  tickets-rise : (b c d e : ℕ) → b < c → d < e → nat_lt b c ≡ nat_lt d e
  tickets-rise b c d e l m = lt-ltb b c l ∙ sym (lt-ltb d e m)

  -- what the partner is after the put
  other-put : (r : GoroutineView) (k l : ℕ) → In (k, l) ps → (x : GoroutineView) → (k ≡ g → ⊥)
      → find l (put h r t.goroutines) ≡ Some x → find l t.goroutines ≡ Some x
  other-put r k l j x n f = sym (find-put_other h r t.goroutines l (λ y. n (same-partner_back k l j y))) ∙ f

  own-put : (r : GoroutineView) (k l : ℕ) → In (k, l) ps → (x : GoroutineView) → k ≡ g
      → find l (put h r t.goroutines) ≡ Some x → x ≡ r
  own-put r k l j x e f = elim (put-cases h r t.goroutines l x f) [
    | inl p ↦ p.1
    | inr p ↦ absurd (p.0 (same-partner k l j e))
  ]

  waits-blank : (o : ℕ) (x y r q : GoroutineView) → blank r ≡ blank q → x ≡ r → y ≡ q → WaitsOn o x → WaitsOn o y
  waits-blank o x y r q e p w i = subst (WaitsOn o) (sym w) (waits-moved o r q e (subst (WaitsOn o) p i))

  pub alike-blocked : (r q : GoroutineView) → blank r ≡ blank q
      → (is_running r.mode ≡ false → ticket_of r.mode ≡ s.next_ticket)
      → (is_running q.mode ≡ false → ticket_of q.mode ≡ t.next_ticket)
      → AlikeBy ps (record s { goroutines = put g r s.goroutines; next_ticket = s.next_ticket + 1 })
      (record t { goroutines = put h q t.goroutines; next_ticket = t.next_ticket + 1 })
  alike-blocked r q e fresh fresh' = record {
    others = a.others;
    entries = λ k l j. entries-put r q e k l j;
    left = λ k x f. let y = put-there g r s.goroutines k x f in a.left k y.0 y.1;
    right = λ l x f. let y = put-there h q t.goroutines l x f in a.right l y.0 y.1;
    one = a.one;
    zero_one = a.zero_one;
    given = a.given;
    two = a.two;
    order = λ k l m n j jj x y u v fx fy fu fv o wx wu.
        let bx = blocked-of o x.mode wx in
        let bu = blocked-of o u.mode wu in
        elim (put-cases g r s.goroutines k x fx) [
          | inl p ↦
              let ey = own-put q k l j y p.0 fy in
              let wy = waits-blank o x y r q e p.1 ey wx in
              let tx : ticket_of x.mode ≡ s.next_ticket =
              ap (λ (z : GoroutineView). ticket_of z.mode) p.1
              ∙ fresh (ap (λ (z : GoroutineView). is_running z.mode) (sym p.1) ∙ bx) in
              let ty : ticket_of y.mode ≡ t.next_ticket =
              ap (λ (z : GoroutineView). ticket_of z.mode) ey
              ∙ fresh' (ap (λ (z : GoroutineView). is_running z.mode) (sym ey) ∙ blocked-of o y.mode wy) in
              elim (put-cases g r s.goroutines m u fu) [
                | inl w ↦
                    let ev = own-put q m n jj v w.0 fv in
                    let wv = waits-blank o u v r q e w.1 ev wu in
                    let tu : ticket_of u.mode ≡ s.next_ticket =
                    ap (λ (z : GoroutineView). ticket_of z.mode) w.1
                    ∙ fresh (ap (λ (z : GoroutineView). is_running z.mode) (sym w.1) ∙ bu) in
                    let tv : ticket_of v.mode ≡ t.next_ticket =
                    ap (λ (z : GoroutineView). ticket_of z.mode) ev
                    ∙ fresh' (ap (λ (z : GoroutineView). is_running z.mode) (sym ev) ∙ blocked-of o v.mode wv) in
                    tickets-same (ticket_of x.mode) (ticket_of u.mode) (ticket_of y.mode) (ticket_of v.mode)
                    (omega (arith, tx, tu)) (omega (arith, ty, tv))
                | inr w ↦
                    let fv' = other-put q m n jj v w.0 fv in
                    let pv = partner-of ps s t a m n jj u w.1 in
                    let sv : pv.0 ≡ v = cc (pv.1, fv') in
                    let wv = waits-blank o u v u pv.0 pv.2 refl (sym sv) wu in
                    let lu = a.early.0 m u w.1 bu in
                    let lv = a.early.1 n v fv' (blocked-of o v.mode wv) in
                    tickets-same (ticket_of x.mode) (ticket_of u.mode) (ticket_of y.mode) (ticket_of v.mode)
                    (omega (arith, tx, lu)) (omega (arith, ty, lv))
              ]
          | inr p ↦
              let fy' = other-put q k l j y p.0 fy in
              let py = partner-of ps s t a k l j x p.1 in
              let sy : py.0 ≡ y = cc (py.1, fy') in
              let wy = waits-blank o x y x py.0 py.2 refl (sym sy) wx in
              let lx = a.early.0 k x p.1 bx in
              let ly = a.early.1 l y fy' (blocked-of o y.mode wy) in
              elim (put-cases g r s.goroutines m u fu) [
                | inl w ↦
                    let ev = own-put q m n jj v w.0 fv in
                    let wv = waits-blank o u v r q e w.1 ev wu in
                    let tu : ticket_of u.mode ≡ s.next_ticket =
                    ap (λ (z : GoroutineView). ticket_of z.mode) w.1
                    ∙ fresh (ap (λ (z : GoroutineView). is_running z.mode) (sym w.1) ∙ bu) in
                    let tv : ticket_of v.mode ≡ t.next_ticket =
                    ap (λ (z : GoroutineView). ticket_of z.mode) ev
                    ∙ fresh' (ap (λ (z : GoroutineView). is_running z.mode) (sym ev) ∙ blocked-of o v.mode wv) in
                    tickets-rise (ticket_of x.mode) (ticket_of u.mode) (ticket_of y.mode) (ticket_of v.mode)
                    (omega (arith, lx, tu)) (omega (arith, ly, tv))
                | inr w ↦ a.order k l m n j jj x y u v p.1 fy' w.1 (other-put q m n jj v w.0 fv) o wx wu
              ]
        ];
    early = (early-blocked g r s a.early.0 fresh, early-blocked h q t a.early.1 fresh');
  }

  pub alike-block : (kind : WaitKind) (line : ℕ) (waits : List Wait) (r : GoroutineView)
      → AlikeBy ps (block g kind line waits r s) (block h kind line waits r t)
  alike-block kind line waits r =
      alike-blocked (record r { mode = Mode.Blocked kind line waits s.next_ticket })
      (record r { mode = Mode.Blocked kind line waits t.next_ticket }) refl (λ b. refl) (λ b. refl)

  -- ---- they leave

  abbrev but : ℕ → ℕ → Bool
  but n k = not (k == n)

  only-there : (p : ℕ → Bool) (es : List (ℕ × GoroutineView)) (k : ℕ) (x : GoroutineView)
      → find k (only p es) ≡ Some x → find k es ≡ Some x
  only-there p es k x f = elim (p k) as (λ b. p k ≡ b → find k es ≡ Some x) [
    | true ↦ λ b. sym (find-only p es k b) ∙ f
    | false ↦ λ b. let none = find-only_out p es k b in cc
  ] refl

  pub alike-leave : AlikeBy ps (leave g s) (leave h t)
  alike-leave = record {
    others = a.others;
    entries = λ k l j. elim (k == g) as (λ b. k == g ≡ b
        → option_map blank (find k (only (but g) s.goroutines)) ≡ option_map blank
        (find l (only (but h) t.goroutines))) [
          | true ↦ λ b. let c = sym (a.one k l g h j i) ∙ b in
              ap (option_map blank) (find-only_out (but g) s.goroutines k (ap not b))
              ∙ sym (ap (option_map blank) (find-only_out (but h) t.goroutines l (ap not c)))
          | false ↦ λ b. let c = sym (a.one k l g h j i) ∙ b in
              ap (option_map blank) (find-only (but g) s.goroutines k (ap not b)) ∙ a.entries k l j
              ∙ sym (ap (option_map blank) (find-only (but h) t.goroutines l (ap not c)))
        ] refl;
    left = λ k x f. a.left k x (only-there (but g) s.goroutines k x f);
    right = λ l x f. a.right l x (only-there (but h) t.goroutines l x f);
    one = a.one;
    zero_one = a.zero_one;
    given = a.given;
    two = a.two;
    order = λ k l m n j jj x q u v fx fq fu fv.
        a.order k l m n j jj x q u v (only-there (but g) s.goroutines k x fx) (only-there (but h) t.goroutines l q fq)
        (only-there (but g) s.goroutines m u fu) (only-there (but h) t.goroutines n v fv);
    early = (
      λ k x f. a.early.0 k x (only-there (but g) s.goroutines k x f),
      λ k x f. a.early.1 k x (only-there (but h) t.goroutines k x f),
    );
  }
