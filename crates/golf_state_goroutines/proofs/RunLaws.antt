-- Blocks of running goroutines that are added and removed, and what a list of them shows.
-- For: src/run_list.rt, src/walks.rt
-- By: induction over the list of blocks
use Rattle.std.proofs.Common.{◌≡◌, ℕ, zero, suc, ◌<◌, ◌≤◌, ◌*◌, ◌/◌, ◌^◌, ◌&&◌, ◌||◌, Bool, true, false, cond, List, [], ◌∷◌, ◌++◌}
use Rattle.std.proofs.Common.{filter, length, Option, Some, None, ◌==◌, nat_lt, inl, inr, refl, sym, ap, ◌∙◌, arith, slice_get}
use Rattle.std.specs.Prelude.{insert, option_map}
use Rattle.std.proofs.lemmas.List.{length-map}
use Rattle.std.proofs.lemmas.Bool.{ltb-true, ltb-false, lt-ltb, eqb-true, eqb-false, eq-eqb, ne_eqb}
use Rattle.golf_base.specs.declared.ids.GoroutineId.{GoroutineId}
use Rattle.golf_theory.specs.Maps.{Entry, Rises, rank}
use Rattle.golf_theory.proofs.MapFinds.{Entry-above}
use Rattle.golf_theory.proofs.Ranks.{few}
use Rattle.golf_theory.specs.Membership.{In}
use Rattle.golf_blocks.proofs.Middles.{rank-least}
use Rattle.golf_model.specs.State.{not_empty}
use Rattle.golf_state_goroutines.specs.RunBlocks.{numbers, running_in, block_keys, IsRunBlock, AreRunBlocks, keyed_blocks}
use Rattle.golf_state_goroutines.specs.RunLists.{Runners, has_place, is_needed, is_open}
use Rattle.golf_state_goroutines.specs.declared.run_blocks.RunBlock.{RunBlock}
use Rattle.golf_state_goroutines.proofs.Listing.{in-entries}
use Rattle.golf_state_goroutines.proofs.Splits.{blocks-rise, limited}

pub same-runs : (ms ns ks ls : List ℕ) → ms ≡ ns → ks ≡ ls
    → ◌≡◌ {A = Runners} (record { numbers = ms; keys = ks }) (record { numbers = ns; keys = ls })
same-runs ms ns ks ls e f = ap (λ (xs : List ℕ). record { numbers = xs; keys = ks }) e
    ∙ ap (λ (xs : List ℕ). record { numbers = ns; keys = xs }) f

-- there are fewer of them than keys
pub blocks-few : (bs : List RunBlock) → AreRunBlocks 0 bs → length bs ≤ 2 ^ 24
blocks-few bs a =
    let n = few 0 (2 ^ 24) (keyed_blocks bs) (omega arith) (blocks-rise 0 bs a) (limited 0 bs a) in
    let f : RunBlock → ℕ × RunBlock = λ b. (b.key, b) in
    omega (arith, n, length-map bs f)

-- ---- a block is added

other-key : (k b : ℕ) → k ≤ b → (b ≡ k → ⊥) → suc k ≤ b
other-key k b l n = omega (arith, l, n)

pub blocks-insert : (j k : ℕ) (bs : List RunBlock) (c : RunBlock) → AreRunBlocks j bs → c.key ≡ k → j ≤ k
    → IsRunBlock c → is_open k (slice_get bs (rank k (keyed_blocks bs))) ≡ false
    → AreRunBlocks j (insert bs (rank k (keyed_blocks bs)) c)
blocks-insert j k [] c a e l is o = (omega (arith, e, l), is, tt)
blocks-insert j k (b ∷ bs) c a e l is o =
    elim (nat_lt b.key k) as (λ t. nat_lt b.key k ≡ t
    → is_open k (slice_get (b ∷ bs) (cond t (suc (rank k (keyed_blocks bs))) 0)) ≡ false
    → AreRunBlocks j (insert (b ∷ bs) (cond t (suc (rank k (keyed_blocks bs))) 0) c)) [
      | true ↦ λ t o.
          let less = ltb-true b.key k t in
          (a.0, a.1, blocks-insert (suc b.key) k bs c a.2 e (omega (arith, less)) is o)
      | false ↦ λ t o.
          let more = ltb-false b.key k t in
          let next = other-key k b.key more (eqb-false b.key k o) in
          (omega (arith, e, l), is, (omega (arith, e, next), a.1, a.2))
    ] refl o

pub running-insert : (bs : List RunBlock) (i : ℕ) (c : RunBlock) → numbers c.running.items ≡ []
    → running_in (insert bs i c) ≡ running_in bs
running-insert [] zero c e = ap (λ (ns : List ℕ). ns ++ []) e
running-insert [] (suc i) c e = ap (λ (ns : List ℕ). ns ++ []) e
running-insert (b ∷ bs) zero c e = ap (λ (ns : List ℕ). ns ++ running_in (b ∷ bs)) e
running-insert (b ∷ bs) (suc i) c e = ap (λ (ns : List ℕ). numbers b.running.items ++ ns) (running-insert bs i c e)

pub keys-new : (bs : List RunBlock) (i : ℕ) (c : RunBlock) → In c.key (block_keys (insert bs i c))
keys-new [] zero c = inl refl
keys-new [] (suc i) c = inl refl
keys-new (b ∷ bs) zero c = inl refl
keys-new (b ∷ bs) (suc i) c = inr (keys-new bs i c)

pub keys-old : (bs : List RunBlock) (i : ℕ) (c : RunBlock) (k : ℕ) → In k (block_keys bs)
    → In k (block_keys (insert bs i c))
keys-old [] i c k h = absurd h
keys-old (b ∷ bs) zero c k h = inr h
keys-old (b ∷ bs) (suc i) c k (inl e) = inl e
keys-old (b ∷ bs) (suc i) c k (inr h) = inr (keys-old bs i c k h)

-- the block is there
pub keys-open : (bs : List RunBlock) (i k : ℕ) → is_open k (slice_get bs i) ≡ true → In k (block_keys bs)
keys-open [] i k h = absurd (cc)
keys-open (b ∷ bs) zero k h = inl (sym (eqb-true b.key k h))
keys-open (b ∷ bs) (suc i) k h = inr (keys-open bs i k h)

-- ---- blocks are removed

blocks-less : (j k : ℕ) (bs : List RunBlock) → j ≤ k → AreRunBlocks k bs → AreRunBlocks j bs
blocks-less j k [] l a = tt
blocks-less j k (b ∷ bs) l a = (omega (arith, l, a.0), a.1, a.2)

pub blocks-filter : (p : RunBlock → Bool) (k : ℕ) (bs : List RunBlock) → AreRunBlocks k bs → AreRunBlocks k (filter p bs)
blocks-filter p k [] a = tt
blocks-filter p k (b ∷ bs) a = elim (p b) as (λ t. AreRunBlocks k (cond t (b ∷ filter p bs) (filter p bs))) [
  | true ↦ (a.0, a.1, blocks-filter p (suc b.key) bs a.2)
  | false ↦ blocks-less k (suc b.key) (filter p bs) (omega (arith, a.0)) (blocks-filter p (suc b.key) bs a.2)
]

none : (gs : List GoroutineId) → not_empty gs ≡ false → numbers gs ≡ []
none [] h = refl
none (g ∷ gs) h = absurd (cc)

left-false : (a b : Bool) → (a || b) ≡ false → a ≡ false
left-false true b h = h
left-false false b h = refl

right-true : (a b : Bool) → b ≡ true → (a || b) ≡ true
right-true true b h = refl
right-true false b h = h

module _ {V : Type 0} (ps : List (ℕ × V)) where
  pub unneeded : (b : RunBlock) → is_needed ps b ≡ false → numbers b.running.items ≡ []
  unneeded b h = none b.running.items
      (left-false (not_empty b.running.items) (nat_lt b.key (2 ^ 24) && has_place b.key ps) h)

  needed : (b : RunBlock) → b.key < 2 ^ 24 → has_place b.key ps ≡ true → is_needed ps b ≡ true
  needed b l h =
      right-true (not_empty b.running.items) (nat_lt b.key (2 ^ 24) && has_place b.key ps)
      (ap (λ t. t && has_place b.key ps) (lt-ltb b.key (2 ^ 24) l) ∙ h)

  pub keys-needed : (j : ℕ) (bs : List RunBlock) (k : ℕ) → AreRunBlocks j bs → In k (block_keys bs)
      → has_place k ps ≡ true → In k (block_keys (filter (is_needed ps) bs))
  keys-needed j [] k a h t = absurd h
  keys-needed j (b ∷ bs) k a h t = elim (is_needed ps b) as (λ u. is_needed ps b ≡ u → In k (block_keys (b ∷ bs))
      → In k (block_keys (cond u (b ∷ filter (is_needed ps) bs) (filter (is_needed ps) bs)))) [
        | true ↦ λ u i. elim i [
          | inl e ↦ inl e
          | inr h ↦ inr (keys-needed (suc b.key) bs k a.2 h t)
        ]
        | false ↦ λ u i. elim i [
          | inl e ↦
              let is = needed b a.1.limit (ap (λ (n : ℕ). has_place n ps) (sym e) ∙ t) in
              absurd (cc)
          | inr h ↦ keys-needed (suc b.key) bs k a.2 h t
        ]
      ] refl h

  -- ---- whether one of the 256 numbers is there, by the least number from the first of them on

  no-place : (k : ℕ) → ((g : ℕ) (x : V) → Entry ps g x → g / 256 ≡ k → ⊥) → has_place k ps ≡ false
  no-place k none = no-any ps (λ g x i. none g x i)
    where
      no-any : (es : List (ℕ × V)) → ((g : ℕ) (x : V) → Entry es g x → g / 256 ≡ k → ⊥) → has_place k es ≡ false
      no-any [] n = refl
      no-any (e ∷ es) n =
          ap (λ t. t || has_place k es) (ne_eqb (e.0 / 256) k (λ q. n e.0 e.1 (inl (refl, refl)) q))
          ∙ no-any es (λ g x i q. n g x (inr i) q)

  pub some-place : (k g : ℕ) (x : V) → Entry ps g x → g / 256 ≡ k → has_place k ps ≡ true
  some-place k g x i e = any-one ps i
    where
      any-one : (es : List (ℕ × V)) → Entry es g x → has_place k es ≡ true
      any-one [] h = absurd h
      any-one (d ∷ es) (inl h) = ap (λ t. t || has_place k es)
          (eq-eqb (d.0 / 256) k (ap (λ (n : ℕ). n / 256) (sym h.0) ∙ e))
      any-one (d ∷ es) (inr h) = right-true (d.0 / 256 == k) (has_place k es) (any-one es h)

  at-rank : (lo j : ℕ) (es : List (ℕ × V)) (g : ℕ) (x : V) → Rises j es → Entry es g x → lo ≤ g → (e : ℕ × V)
      × (slice_get es (rank lo es) ≡ Some e) × (e.0 ≤ g)
  at-rank lo j [] g x r i l = absurd i
  at-rank lo j (d ∷ es) g x r i l = elim (nat_lt d.0 lo) as (λ t. nat_lt d.0 lo ≡ t → (e : ℕ × V)
      × (slice_get (d ∷ es) (cond t (suc (rank lo es)) 0) ≡ Some e) × (e.0 ≤ g)) [
        | true ↦ λ t. elim i [
          | inl h ↦ absurd (let less = ltb-true d.0 lo t in omega (arith, less, h.0))
          | inr h ↦ at-rank lo (suc d.0) es g x r.1 h l
        ]
        | false ↦ λ t. (
          d,
          refl,
          elim i [
            | inl h ↦ omega (arith, h.0)
            | inr h ↦ let a = Entry-above (suc d.0) es g x r.1 h in omega (arith, a)
          ],
        )
      ] refl

  next-place : (k : ℕ) (e : ℕ × V) → Rises 0 ps → slice_get ps (rank (k * 256) ps) ≡ Some e
      → (e.0 / 256 == k) ≡ has_place k ps
  next-place k e r h = elim (e.0 / 256 == k) as (λ t. (e.0 / 256 == k) ≡ t → t ≡ has_place k ps) [
    | true ↦ λ t. sym (some-place k e.0 e.1 (in-entries ps (rank (k * 256) ps) e h) (eqb-true (e.0 / 256) k t))
    | false ↦ λ t. sym (no-place k (λ g x i q.
        let least = rank-least (k * 256) ps e h in
        let first = at-rank (k * 256) 0 ps g x r i (omega (arith, q)) in
        let read : Some e ≡ Some first.0 = sym h ∙ first.1 in
        let same : e ≡ first.0 = cc in
        eqb-false (e.0 / 256) k t
        (omega (arith, least, first.2, q, ap (λ (y : ℕ × V). y.0) same))))
  ] refl

  -- the least number from the first of the 256 on tells it
  pub next-tells : (k n : ℕ) → Rises 0 ps → Some n ≡ option_map (λ e. e.0) (slice_get ps (rank (k * 256) ps))
      → (n / 256 == k) ≡ has_place k ps
  next-tells k n r h = from (slice_get ps (rank (k * 256) ps)) refl h
    where
      from : (o : Option (ℕ × V)) → slice_get ps (rank (k * 256) ps) ≡ o → Some n ≡ option_map (λ e. e.0) o
          → (n / 256 == k) ≡ has_place k ps
      from None q h = absurd (cc)
      from (Some e) q h =
          let same : n ≡ e.0 = cc in
          ap (λ m. m / 256 == k) same ∙ next-place k e r q

  pub none-tells : (k : ℕ) → Rises 0 ps → None ≡ option_map (λ e. e.0) (slice_get ps (rank (k * 256) ps))
      → false ≡ has_place k ps
  none-tells k r h = sym (no-place k (λ g x i q.
      let first = at-rank (k * 256) 0 ps g x r i (omega (arith, q)) in
      let some : None ≡ Some first.0.0 = h ∙ ap (option_map (λ (e : ℕ × V). e.0)) first.1 in
      absurd (cc)))
