-- Those in a queue, by rising ticket.
-- For: `join`, `last_before`, src/holders.rt; `Line`, src/line.rt; `held`, specs/WaitQueues.antt
-- By: induction over the list of holders
use Rattle.std.proofs.Common.{◌≡◌, ℕ, zero, suc, ◌<◌, ◌≤◌, true, false, cond, List, [], ◌∷◌, ◌++◌, ◌+◌, ◌-◌, not, Bool}
use Rattle.std.proofs.Common.{Option, take, drop, filter, length, get_or, Some, nat_lt, inl, inr, refl, sym, ap, ◌∙◌}
use Rattle.std.proofs.Common.{subst, arith, slice_get, slice_set}
use Rattle.std.specs.Prelude.{remove, IfSome}
use Rattle.std.proofs.lemmas.Bool.{cases_lt, ltb-true, ltb-false}
use Rattle.std.proofs.lemmas.List.{map-append}
use Rattle.std.proofs.lemmas.Option.{slice_get-get_or}
use Rattle.golf_theory.specs.Maps.{Entry, Rises, AllBelow, rank}
use Rattle.golf_theory.proofs.MapFinds.{Entry-above, Entry-below}
use Rattle.golf_theory.proofs.MapEntries.{Entry-add_new}
use Rattle.golf_theory.proofs.MapOrder.{Rises-less}
use Rattle.golf_state_queues.specs.Lines.{spots}
use Rattle.golf_state_queues.specs.WaitQueues.{held, has_anyone}
use Rattle.golf_state_queues.specs.declared.holders.TicketHolder.{TicketHolder}

module _ {X : Type 0} where
  -- ---- the front of a queue

  pub Entry-front : (k j : ℕ) (es : List (ℕ × X)) (u : ℕ) (x : X) → Rises j es → u < k → Entry es u x
      → Entry (take (rank k es) es) u x
  Entry-front k j [] u x r l i = absurd i
  Entry-front k j (e ∷ es) u x r l i = elim (nat_lt e.0 k) as (λ b. nat_lt e.0 k ≡ b
      → Entry (take (cond b (suc (rank k es)) 0) (e ∷ es)) u x) [
        | true ↦ λ t. elim i [ inl h ↦ inl h | inr h ↦ inr (Entry-front k (suc e.0) es u x r.1 l h) ]
        | false ↦ λ t. absurd (let past = ltb-false e.0 k t in elim i [
          | inl h ↦ omega (arith, past, h.0, l)
          | inr h ↦ let a = Entry-above (suc e.0) es u x r.1 h in omega (arith, past, a, l)
        ])
      ] refl

  pub Entry-take : (n : ℕ) (es : List (ℕ × X)) (u : ℕ) (x : X) → Entry (take n es) u x → Entry es u x
  Entry-take zero es u x i = absurd i
  Entry-take (suc n) [] u x i = absurd i
  Entry-take (suc n) (e ∷ es) u x i = elim i [ inl h ↦ inl h | inr h ↦ inr (Entry-take n es u x h) ]

  pub AllBelow-front : (k : ℕ) (es : List (ℕ × X)) → AllBelow k (take (rank k es) es)
  AllBelow-front k [] = tt
  AllBelow-front k (e ∷ es) = elim (nat_lt e.0 k) as (λ b. nat_lt e.0 k ≡ b
      → AllBelow k (take (cond b (suc (rank k es)) 0) (e ∷ es))) [
        | true ↦ λ t. (ltb-true e.0 k t, AllBelow-front k es)
        | false ↦ λ t. tt
      ] refl

  pub Rises-take : (n j : ℕ) (es : List (ℕ × X)) → Rises j es → Rises j (take n es)
  Rises-take zero j es r = tt
  Rises-take (suc n) j [] r = tt
  Rises-take (suc n) j (e ∷ es) r = (r.0, Rises-take n (suc e.0) es r.1)

  -- ---- the last of those before a key

  pub none-before : (k j : ℕ) (es : List (ℕ × X)) → Rises j es → rank k es ≡ 0 → (u : ℕ) (x : X) → Entry es u x → k ≤ u
  none-before k j [] r h u x i = absurd i
  none-before k j (e ∷ es) r h u x i = elim (nat_lt e.0 k) as (λ b. nat_lt e.0 k ≡ b → cond b (suc (rank k es)) 0 ≡ 0
      → k ≤ u) [
        | true ↦ λ t z. absurd (omega (arith, z))
        | false ↦ λ t z. let past = ltb-false e.0 k t in elim i [
          | inl y ↦ omega (arith, past, y.0)
          | inr y ↦ let a = Entry-above (suc e.0) es u x r.1 y in omega (arith, past, a)
        ]
      ] refl h

  pub record LastBefore (k : ℕ) (es : List (ℕ × X)) (e : ℕ × X) : Type 0 where
    pub there : Entry es e.0 e.1
    pub before : e.0 < k
    pub last : (u : ℕ) (x : X) → Entry es u x → u < k → u ≤ e.0

  -- one more in front, and then the last of the others, if one of them comes before the key
  last-more : (k i : ℕ) (f : ℕ × X) (es : List (ℕ × X)) (e : ℕ × X) → Rises (suc f.0) es → f.0 < k → rank k es ≡ i
      → slice_get (f ∷ es) i ≡ Some e
      → ((n : ℕ) → i ≡ suc n → slice_get es n ≡ Some e → LastBefore k es e) → LastBefore k (f ∷ es) e
  last-more k zero f es e r l z s more =
      let same : f ≡ e = cc in
      let number = ap (λ (d : ℕ × X). d.0) same in
      record {
        there = inl (sym number, sym (ap (λ (d : ℕ × X). d.1) same));
        before = omega (arith, number, l);
        last = λ u x y m. elim y [
          | inl q ↦ omega (arith, q.0, number)
          | inr q ↦ absurd (let a = none-before k (suc f.0) es r z u x q in omega (arith, a, m))
        ];
      }
  last-more k (suc n) f es e r l z s more =
      let m = more n refl s in
      record {
        there = inr m.there;
        before = m.before;
        last = λ u x y v. elim y [
          | inl q ↦ let a = Entry-above (suc f.0) es e.0 e.1 r m.there in omega (arith, a, q.0)
          | inr q ↦ m.last u x q v
        ];
      }

  pub last-before : (k j i : ℕ) (es : List (ℕ × X)) (e : ℕ × X) → Rises j es → rank k es ≡ suc i
      → slice_get es i ≡ Some e → LastBefore k es e
  last-before k j i [] e r h s = absurd (cc)
  last-before k j i (f ∷ es) e r h s = elim (nat_lt f.0 k) as (λ b. nat_lt f.0 k ≡ b
      → cond b (suc (rank k es)) 0 ≡ suc i → LastBefore k (f ∷ es) e) [
        | false ↦ λ t z. absurd (omega (arith, z))
        | true ↦ λ t z. let n : rank k es ≡ i =
            omega (arith, z) in last-more k i f es e r.1 (ltb-true f.0 k t) n s
            (λ m q g. last-before k (suc f.0) m es e r.1 (n ∙ q) g)
      ] refl h

  -- ---- the last of a list that rises

  pub Rises-drop : (n j : ℕ) (es : List (ℕ × X)) → Rises j es → Rises j (drop n es)
  Rises-drop zero j es r = r
  Rises-drop (suc n) j [] r = tt
  Rises-drop (suc n) j (e ∷ es) r = Rises-less j (suc e.0) (drop n es) (omega (arith, r.0))
      (Rises-drop n (suc e.0) es r.1)

  pub Rises-remove : (i j : ℕ) (es : List (ℕ × X)) → Rises j es → Rises j (remove es i)
  Rises-remove zero j [] r = tt
  Rises-remove (suc i) j [] r = tt
  Rises-remove zero j (e ∷ es) r = Rises-less j (suc e.0) es (omega (arith, r.0)) r.1
  Rises-remove (suc i) j (e ∷ es) r = (r.0, Rises-remove i (suc e.0) es r.1)

  Entry-last : (j k : ℕ) (v : X) (es : List (ℕ × X)) → Rises j (es ++ (k, v) ∷ []) → (u : ℕ) (x : X)
      → Entry (es ++ (k, v) ∷ []) u x → u ≤ k
  Entry-last j k v [] r u x i = elim i [ inl h ↦ omega (arith, h.0) | inr h ↦ absurd h ]
  Entry-last j k v (e ∷ es) r u x i = elim i [
    | inl h ↦ let a = Entry-above (suc e.0) (es ++ (k, v) ∷ []) k v r.1 (Entry-add_new k v es) in omega (arith, h.0, a)
    | inr h ↦ Entry-last (suc e.0) k v es r.1 u x h
  ]

  rank-above : (t j : ℕ) (es : List (ℕ × X)) → t ≤ j → Rises j es → rank t es ≡ 0
  rank-above t j [] l r = refl
  rank-above t j (e ∷ es) l r = elim (nat_lt e.0 t) as (λ b. nat_lt e.0 t ≡ b → cond b (suc (rank t es)) 0 ≡ 0) [
    | true ↦ λ q. absurd (let m = ltb-true e.0 t q in omega (arith, m, l, r.0))
    | false ↦ λ q. refl
  ] refl

  -- the last of those before a key, if they end with it
  pub front-ends : (t k : ℕ) (v : X) (xs es : List (ℕ × X)) → Rises 0 es → take (rank t es) es ≡ xs ++ (k, v) ∷ []
      → LastBefore t es (k, v)
  front-ends t k v xs es r e =
      let there : Entry (take (rank t es) es) k v =
      subst (λ (fs : List (ℕ × X)). Entry fs k v) (sym e) (Entry-add_new k v xs) in
      record {
        there = Entry-take (rank t es) es k v there;
        before = Entry-below t (take (rank t es) es) k v (AllBelow-front t es) there;
        last = λ u x i l. Entry-last 0 k v xs (subst (Rises 0) e (Rises-take (rank t es) 0 es r)) u x
            (subst (λ (fs : List (ℕ × X)). Entry fs u x) e (Entry-front t 0 es u x r l i));
      }

  -- nobody comes before the key
  pub front-none : (t : ℕ) (es : List (ℕ × X)) → Rises 0 es → take (rank t es) es ≡ [] → (u : ℕ) (x : X) → Entry es u x
      → t ≤ u
  front-none t es r e u x i = elim (cases_lt u t) [
    | inl l ↦ absurd (subst (λ (fs : List (ℕ × X)). Entry fs u x) e (Entry-front t 0 es u x r l i))
    | inr l ↦ l
  ]

-- ---- in memory: all entries

pub spots-take : (n : ℕ) (hs : List TicketHolder) → spots (take n hs) ≡ take n (spots hs)
spots-take zero hs = refl
spots-take (suc n) [] = refl
spots-take (suc n) (h ∷ hs) = ap (λ (es : List (ℕ × ℕ)). (h.ticket, h.goroutine.0) ∷ es) (spots-take n hs)

pub spots-drop : (n : ℕ) (hs : List TicketHolder) → spots (drop n hs) ≡ drop n (spots hs)
spots-drop zero hs = refl
spots-drop (suc n) [] = refl
spots-drop (suc n) (h ∷ hs) = spots-drop n hs

pub spots-push : (hs : List TicketHolder) (h : TicketHolder) → spots (hs ++ h ∷ []) ≡ spots hs
    ++ (h.ticket, h.goroutine.0) ∷ []
spots-push hs h = map-append (λ (h : TicketHolder). (h.ticket, h.goroutine.0)) hs (h ∷ [])

pub spots-remove : (i : ℕ) (hs : List TicketHolder) → spots (remove hs i) ≡ remove (spots hs) i
spots-remove zero [] = refl
spots-remove (suc i) [] = refl
spots-remove zero (h ∷ hs) = refl
spots-remove (suc i) (h ∷ hs) = ap (λ (es : List (ℕ × ℕ)). (h.ticket, h.goroutine.0) ∷ es) (spots-remove i hs)

pub Rises-set : (i j : ℕ) (hs : List TicketHolder) (m d : TicketHolder) → m.ticket ≡ (get_or hs i d).ticket
    → Rises j (spots hs) → Rises j (spots (slice_set hs i m))
Rises-set i j [] m d e r = tt
Rises-set zero j (h ∷ hs) m d e r = (subst (λ n. j ≤ n) (sym e) r.0, subst (λ n. Rises (suc n) (spots hs)) (sym e) r.1)
Rises-set (suc i) j (h ∷ hs) m d e r = (r.0, Rises-set i (suc h.ticket) hs m d e r.1)

pub Rises-some : (p : TicketHolder → Bool) (j : ℕ) (hs : List TicketHolder) → Rises j (spots hs)
    → Rises j (spots (filter p hs))
Rises-some p j [] r = tt
Rises-some p j (h ∷ hs) r = elim (p h) as (λ b. Rises j (spots (cond b (h ∷ filter p hs) (filter p hs)))) [
  | true ↦ (r.0, Rises-some p (suc h.ticket) hs r.1)
  | false ↦ Rises-less j (suc h.ticket) (spots (filter p hs)) (omega (arith, r.0)) (Rises-some p (suc h.ticket) hs r.1)
]

-- ---- in memory: those that are not gone

pub held-append : (xs ys : List TicketHolder) → held (xs ++ ys) ≡ held xs ++ held ys
held-append [] ys = refl
held-append (h ∷ xs) ys =
    elim h.is_gone as (λ b. cond b (held (xs ++ ys)) ((h.ticket, h.goroutine.0) ∷ held (xs ++ ys)) ≡ cond b (held xs)
    ((h.ticket, h.goroutine.0) ∷ held xs) ++ held ys) [
      | true ↦ held-append xs ys
      | false ↦ ap (λ (es : List (ℕ × ℕ)). (h.ticket, h.goroutine.0) ∷ es) (held-append xs ys)
    ]

pub Rises-held : (j : ℕ) (hs : List TicketHolder) → Rises j (spots hs) → Rises j (held hs)
Rises-held j [] r = tt
Rises-held j (h ∷ hs) r = elim h.is_gone as (λ b. Rises j (cond b (held hs) ((h.ticket, h.goroutine.0) ∷ held hs))) [
  | true ↦ Rises-less j (suc h.ticket) (held hs) (omega (arith, r.0)) (Rises-held (suc h.ticket) hs r.1)
  | false ↦ (r.0, Rises-held (suc h.ticket) hs r.1)
]

-- the front of the queue, cut at the rank of a ticket
pub held-front : (t j : ℕ) (hs : List TicketHolder) → Rises j (spots hs)
    → held (take (rank t (spots hs)) hs) ≡ take (rank t (held hs)) (held hs)
held-front t j [] r = refl
held-front t j (h ∷ hs) r =
    let e : ℕ × ℕ = (h.ticket, h.goroutine.0) in
    let n = rank t (spots hs) in
    let rest = held-front t (suc h.ticket) hs r.1 in
    elim (nat_lt h.ticket t) as (λ b. nat_lt h.ticket t ≡ b
    → held (take (cond b (suc n) 0) (h ∷ hs)) ≡ take (rank t (held (h ∷ hs))) (held (h ∷ hs))) [
      | true ↦ λ q. elim h.is_gone as (λ b. cond b (held (take n hs)) (e ∷ held (take n hs)) ≡ take
          (rank t (cond b (held hs) (e ∷ held hs))) (cond b (held hs) (e ∷ held hs))) [
            | true ↦ rest
            | false ↦ ap (λ (es : List (ℕ × ℕ)). e ∷ es) rest
                ∙ ap (λ b. take (cond b (suc (rank t (held hs))) 0) (e ∷ held hs)) (sym q)
          ]
      | false ↦ λ q.
          let none = rank-above t h.ticket (held (h ∷ hs)) (ltb-false h.ticket t q)
          (Rises-held h.ticket (h ∷ hs) (omega arith, r.1)) in
          sym (ap (λ (m : ℕ). take m (held (h ∷ hs))) none)
    ] refl

-- an entry that is marked is as one that is removed
pub held-mark : (i : ℕ) (hs : List TicketHolder) (m : TicketHolder) → m.is_gone ≡ true → i < length hs
    → held (slice_set hs i m) ≡ held (remove hs i)
held-mark i [] m g l = absurd (omega (arith, l))
held-mark zero (h ∷ hs) m g l = ap (λ b. cond b (held hs) ((m.ticket, m.goroutine.0) ∷ held hs)) g
held-mark (suc i) (h ∷ hs) m g l = ap (λ (es : List (ℕ × ℕ)). cond h.is_gone es ((h.ticket, h.goroutine.0) ∷ es))
    (held-mark i hs m g (omega (arith, l)))

-- entries that are gone are dropped
pub held-some : (hs : List TicketHolder) → held (filter (λ h. not h.is_gone) hs) ≡ held hs
held-some [] = refl
held-some (h ∷ hs) =
    let e : ℕ × ℕ = (h.ticket, h.goroutine.0) in
    let kept : List TicketHolder = filter (λ (x : TicketHolder). not x.is_gone) hs in
    elim h.is_gone as (λ b. h.is_gone ≡ b → held (cond (not b) (h ∷ kept) kept) ≡ cond b (held hs) (e ∷ held hs)) [
      | true ↦ λ q. held-some hs
      | false ↦ λ q. ap (λ b. cond b (held kept) (e ∷ held kept)) q ∙ ap (λ (es : List (ℕ × ℕ)). e ∷ es) (held-some hs)
    ] refl

-- and from the end on
pub held-cut : (i : ℕ) (hs : List TicketHolder) (d : TicketHolder) → i < length hs → (get_or hs i d).is_gone ≡ true
    → held (take i hs) ≡ held (take (suc i) hs)
held-cut i [] d l g = absurd (omega (arith, l))
held-cut zero (h ∷ hs) d l g = let none : List (ℕ × ℕ) =
    [] in sym (ap (λ b. cond b none ((h.ticket, h.goroutine.0) ∷ none)) g)
held-cut (suc i) (h ∷ hs) d l g = ap (λ (es : List (ℕ × ℕ)). cond h.is_gone es ((h.ticket, h.goroutine.0) ∷ es))
    (held-cut i hs d (omega (arith, l)) g)

-- the last entry is not gone
pub held-ends : (i : ℕ) (hs : List TicketHolder) (d : TicketHolder) → i < length hs → (get_or hs i d).is_gone ≡ false
    → held (take (suc i) hs) ≡ held (take i hs) ++ ((get_or hs i d).ticket, (get_or hs i d).goroutine.0) ∷ []
held-ends i [] d l g = absurd (omega (arith, l))
held-ends zero (h ∷ hs) d l g = let none : List (ℕ × ℕ) =
    [] in ap (λ b. cond b none ((h.ticket, h.goroutine.0) ∷ none)) g
held-ends (suc i) (h ∷ hs) d l g =
    let e : ℕ × ℕ = (h.ticket, h.goroutine.0) in
    let last : List (ℕ × ℕ) = ((get_or hs i d).ticket, (get_or hs i d).goroutine.0) ∷ [] in
    ap (λ (es : List (ℕ × ℕ)). cond h.is_gone es (e ∷ es)) (held-ends i hs d (omega (arith, l)) g)
    ∙ elim h.is_gone as (λ b. cond b (held (take i hs) ++ last) (e ∷ held (take i hs) ++ last) ≡ cond b
    (held (take i hs)) (e ∷ held (take i hs)) ++ last) [ true ↦ refl | false ↦ refl ]

pub held-end : (n : ℕ) (hs : List TicketHolder) (d : TicketHolder) → 0 < n → n ≤ length hs
    → IfSome (slice_get hs (n - 1)) (λ h. h.is_gone ≡ false) → held (take n hs) ≡ held (take (n - 1) hs)
    ++ ((get_or hs (n - 1) d).ticket, (get_or hs (n - 1) d).goroutine.0) ∷ []
held-end n hs d l m g =
    let within : n - 1 < length hs = omega (arith, l, m) in
    let is : (get_or hs (n - 1) d).is_gone ≡ false =
    subst (λ (o : Option TicketHolder). IfSome o (λ h. h.is_gone ≡ false))
    (slice_get-get_or hs (n - 1) d within) g in
    let next : suc (n - 1) ≡ n = omega (arith, l) in
    ap (λ (i : ℕ). held (take i hs)) (sym next) ∙ held-ends (n - 1) hs d within is

anyone-last : (es : List (ℕ × ℕ)) (e : ℕ × ℕ) → has_anyone (es ++ e ∷ []) ≡ true
anyone-last [] e = refl
anyone-last (f ∷ es) e = refl

-- whether anyone is left
pub held-any : (n : ℕ) (hs : List TicketHolder) → n ≤ length hs → held (take n hs) ≡ held hs
    → (0 < n → IfSome (slice_get hs (n - 1)) (λ h. h.is_gone ≡ false)) → nat_lt 0 n ≡ has_anyone (held hs)
held-any n hs m e g =
    let d : TicketHolder = record { ticket = 0; goroutine = record { 0 = 0 }; is_gone = false } in
    elim (nat_lt 0 n) as (λ b. nat_lt 0 n ≡ b → b ≡ has_anyone (held hs)) [
      | true ↦ λ q.
          let l = ltb-true 0 n q in
          sym (ap has_anyone (sym e ∙ held-end n hs d l m (g l))
          ∙ anyone-last (held (take (n - 1) hs)) ((get_or hs (n - 1) d).ticket, (get_or hs (n - 1) d).goroutine.0))
      | false ↦ λ q.
          let z : n ≡ 0 = omega (arith, ltb-false 0 n q) in
          ap has_anyone (ap (λ (i : ℕ). held (take i hs)) (sym z) ∙ e)
    ] refl

-- those before a ticket
pub held-before : (t r n : ℕ) (hs : List TicketHolder) → Rises 0 (spots hs) → r ≡ rank t (spots hs)
    → held (take n (take r hs)) ≡ held (take r hs) → take (rank t (held hs)) (held hs) ≡ held (take n (take r hs))
held-before t r n hs rises place same =
    sym (held-front t 0 hs rises) ∙ ap (λ (i : ℕ). held (take i hs)) (sym place) ∙ sym same
