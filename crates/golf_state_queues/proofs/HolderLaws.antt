-- Queues after a change of one of them.
-- For: `enter`, `leave`, `holders`, src/queues.rt; `IsInOrder`, specs/WaitQueues.antt
-- By: induction over the list of queues, and over the list of waits
use Rattle.std.proofs.Common.{◌≡◌, ℕ, zero, suc, ◌<◌, Bool, true, false, cond, List, [], ◌∷◌, take, drop, length}
use Rattle.std.proofs.Common.{get_or, ◌++◌, nat_lt, Option, Some, None, ◌==◌, inl, inr, refl, sym, ap, ◌∙◌, subst}
use Rattle.std.proofs.Common.{arith, slice_get, slice_set}
use Rattle.std.specs.Prelude.{insert as insert_item, option_map}
use Rattle.std.proofs.lemmas.Bool.{cases_eq, eqb-true, eqb-false, eq-eqb, ne_eqb}
use Rattle.std.proofs.lemmas.List.{map-append}
use Rattle.std.proofs.lemmas.Option.{slice_get-map, get_or_from_slice_get}
use Rattle.golf_base.specs.declared.ids.ObjectId.{ObjectId}
use Rattle.golf_data.specs.declared.goroutine.Side.{Side}
use Rattle.golf_data.specs.declared.goroutine.Wait.{Wait}
use Rattle.golf_theory.specs.Maps.{Entry, find, put, insert, Rises, AllBelow, rank}
use Rattle.golf_theory.proofs.MapFinds.{cases_find, find-put, find-put_other}
use Rattle.golf_theory.proofs.MapOrder.{Rises-put}
use Rattle.golf_theory.proofs.Insert.{find-insert, find-insert_other, Rises-insert}
use Rattle.golf_theory.proofs.Ranks.{at_key, find-rank}
use Rattle.golf_state_queues.specs.WaitQueues.{WaitQueues, IsInOrder, AllRise, key, held, wait_queues_of, wait_queue_in}
use Rattle.golf_state_queues.specs.WaitQueues.{wait_queue_at, has_key, TicketsBelow, KeepsIn, KeepsWaiters, StandsIn}
use Rattle.golf_state_queues.specs.WaitQueues.{StandsInAll}
use Rattle.golf_state_queues.specs.declared.queues.Queue.{Queue}
use Rattle.golf_theory.proofs.Keyed.{set-keyed}

-- ---- if a queue stands

pub record Standing (k at : ℕ) (ls : WaitQueues) : Type 0 where
  pub entry : ℕ × List (ℕ × ℕ)
  pub here : slice_get ls at ≡ Some entry
  pub same : entry.0 ≡ k
  pub found : find k ls ≡ Some entry.1

looked : (k at : ℕ) (ls : WaitQueues) → Rises 0 ls → at ≡ rank k ls → (o : Option (ℕ × List (ℕ × ℕ)))
    → slice_get ls at ≡ o → find k ls ≡ at_key k o
looked k at ls r is o h = find-rank k 0 ls r ∙ ap (λ (n : ℕ). at_key k (slice_get ls n)) (sym is) ∙ ap (at_key k) h

pub stands : (k at : ℕ) (ls : WaitQueues) → Rises 0 ls → at ≡ rank k ls → has_key k (slice_get ls at) ≡ true
    → Standing k at ls
stands k at ls r is h = elim (slice_get ls at) as (λ o. slice_get ls at ≡ o → has_key k o ≡ true → Standing k at ls) [
  | None ↦ λ q i. absurd (cc)
  | Some e ↦ λ q i.
      let same = eqb-true e.0 k i in
      record {
        entry = e;
        here = q;
        same = same;
        found = looked k at ls r is (Some e) q
            ∙ ap (λ b. cond b (Some e.1) None) (eq-eqb k e.0 (sym same));
      }
] refl h

pub nowhere : (k at : ℕ) (ls : WaitQueues) → Rises 0 ls → at ≡ rank k ls → has_key k (slice_get ls at) ≡ false
    → find k ls ≡ None
nowhere k at ls r is h = elim (slice_get ls at) as (λ o. slice_get ls at ≡ o → has_key k o ≡ false → find k ls ≡ None) [
  | None ↦ λ q i. looked k at ls r is None q
  | Some e ↦ λ q i. looked k at ls r is (Some e) q
      ∙ ap (λ b. cond b (Some e.1) None) (ne_eqb k e.0 (λ s. eqb-false e.0 k i (sym s)))
] refl h

pub rise-found : (k : ℕ) (ls : WaitQueues) (es : List (ℕ × ℕ)) → AllRise ls → find k ls ≡ Some es → Rises 0 es
rise-found k [] es a h = absurd (cc)
rise-found k (e ∷ ls) es a h = elim (k == e.0) as (λ b. cond b (Some e.1) (find k ls) ≡ Some es → Rises 0 es) [
  | true ↦ λ i. let same : e.1 ≡ es = cc in subst (Rises 0) same a.0
  | false ↦ λ i. rise-found k ls es a.1 i
] h

pub rise-at : (k : ℕ) (ls : WaitQueues) → AllRise ls → Rises 0 (wait_queue_at k ls)
rise-at k ls a = elim (cases_find k ls) [
  | inl e ↦ subst (λ (o : Option (List (ℕ × ℕ))). Rises 0 (wait_queue_in o)) (sym e) tt
  | inr p ↦ subst (λ (o : Option (List (ℕ × ℕ))). Rises 0 (wait_queue_in o)) (sym p.1) (rise-found k ls p.0 a p.1)
]

-- ---- one queue is another one

pub record Changed (k : ℕ) (es : List (ℕ × ℕ)) (old new : WaitQueues) : Type 0 where
  pub here : wait_queue_at k new ≡ es
  pub others : (j : ℕ) → (j ≡ k → ⊥) → wait_queue_at j new ≡ wait_queue_at j old

pub changed-put : (k : ℕ) (es was : List (ℕ × ℕ)) (ls : WaitQueues) → find k ls ≡ Some was
    → Changed k es ls (put k es ls)
changed-put k es was ls h = record {
  here = ap wait_queue_in (find-put k es ls was h);
  others = λ j n. ap wait_queue_in (find-put_other k es ls j n);
}

pub changed-insert : (k : ℕ) (es : List (ℕ × ℕ)) (ls : WaitQueues) → find k ls ≡ None → Changed k es ls (insert k es ls)
changed-insert k es ls h = record {
  here = ap wait_queue_in (find-insert k es ls h);
  others = λ j n. ap wait_queue_in (find-insert_other k es ls j n);
}

module _ (k : ℕ) (es : List (ℕ × ℕ)) (old new : WaitQueues) (c : Changed k es old new) where
  pub keeps-changed : (P : ℕ → ℕ → Type 0) → KeepsIn P (wait_queue_at k old) es → KeepsWaiters P old new
  keeps-changed P h = λ j t g p i. elim (cases_eq j k) [
    | inl e ↦ subst (λ (n : ℕ). Entry (wait_queue_at n new) t g) (sym e)
        (subst (λ (fs : List (ℕ × ℕ)). Entry fs t g) (sym c.here)
        (h t g p (subst (λ (n : ℕ). Entry (wait_queue_at n old) t g) e i)))
    | inr n ↦ subst (λ (fs : List (ℕ × ℕ)). Entry fs t g) (sym (c.others j n)) i
  ]

  pub below-changed : (n : ℕ) → AllBelow n es → TicketsBelow n old → TicketsBelow n new
  below-changed n b a = λ j. elim (cases_eq j k) [
    | inl e ↦ subst (λ (m : ℕ). AllBelow n (wait_queue_at m new)) (sym e) (subst (AllBelow n) (sym c.here) b)
    | inr d ↦ subst (AllBelow n) (sym (c.others j d)) (a j)
  ]

pub all-put : (k : ℕ) (es : List (ℕ × ℕ)) (ls : WaitQueues) → Rises 0 es → AllRise ls → AllRise (put k es ls)
all-put k es [] r a = tt
all-put k es (e ∷ ls) r a = (
  elim (k == e.0) as (λ b. Rises 0 (cond b es e.1)) [ true ↦ r | false ↦ a.0 ],
  all-put k es ls r a.1,
)

pub all-insert : (k : ℕ) (es : List (ℕ × ℕ)) (ls : WaitQueues) → Rises 0 es → AllRise ls → AllRise (insert k es ls)
all-insert k es [] r a = (r, tt)
all-insert k es (e ∷ ls) r a = elim (nat_lt e.0 k) as (λ b. AllRise (cond b (e ∷ insert k es ls) ((k, es) ∷ e ∷ ls))) [
  | true ↦ (a.0, all-insert k es ls r a.1)
  | false ↦ (r, a)
]

pub order-put : (k : ℕ) (es : List (ℕ × ℕ)) (ls : WaitQueues) → Rises 0 es → IsInOrder ls → IsInOrder (put k es ls)
order-put k es ls r i = record { keys = Rises-put 0 k es ls i.keys; queues = all-put k es ls r i.queues }

pub order-insert : (k : ℕ) (es : List (ℕ × ℕ)) (ls : WaitQueues) → find k ls ≡ None → Rises 0 es → IsInOrder ls
    → IsInOrder (insert k es ls)
order-insert k es ls n r i = record {
  keys = Rises-insert 0 k es ls (omega arith) n i.keys;
  queues = all-insert k es ls r i.queues;
}

-- ---- in memory

queues-take : (n : ℕ) (qs : List Queue) → wait_queues_of (take n qs) ≡ take n (wait_queues_of qs)
queues-take zero qs = refl
queues-take (suc n) [] = refl
queues-take (suc n) (q ∷ qs) = ap (λ (ls : WaitQueues). (key q.object.0 q.side, held q.holders) ∷ ls) (queues-take n qs)

queues-drop : (n : ℕ) (qs : List Queue) → wait_queues_of (drop n qs) ≡ drop n (wait_queues_of qs)
queues-drop zero qs = refl
queues-drop (suc n) [] = refl
queues-drop (suc n) (q ∷ qs) = queues-drop n qs

pub queues-insert : (qs : List Queue) (i : ℕ) (q : Queue)
    → wait_queues_of (insert_item qs i q) ≡ insert_item (wait_queues_of qs) i (key q.object.0 q.side, held q.holders)
queues-insert qs i q =
    map-append (λ (q : Queue). (key q.object.0 q.side, held q.holders)) (take i qs) (q ∷ drop i qs)
    ∙ ap (λ (ls : WaitQueues). ls ++ (key q.object.0 q.side, held q.holders) ∷ wait_queues_of (drop i qs))
    (queues-take i qs)
    ∙ ap (λ (ls : WaitQueues). take i (wait_queues_of qs) ++ (key q.object.0 q.side, held q.holders) ∷ ls)
    (queues-drop i qs)

-- one more entry stands at its rank
pub insert-rank : (k : ℕ) (es : List (ℕ × ℕ)) (ls : WaitQueues) → insert_item ls (rank k ls) (k, es) ≡ insert k es ls
insert-rank k es [] = refl
insert-rank k es (e ∷ ls) = elim (nat_lt e.0 k) as (λ t. insert_item (e ∷ ls) (cond t (suc (rank k ls)) 0) (k, es)
    ≡ cond t (e ∷ insert k es ls) ((k, es) ∷ e ∷ ls)) [
      | true ↦ ap (λ (z : WaitQueues). e ∷ z) (insert-rank k es ls)
      | false ↦ refl
    ]

-- ---- along waits

pub all-kept : (t g : ℕ) (ws : List Wait) (old new : WaitQueues) → KeepsWaiters (λ u h. (u ≡ t) × (h ≡ g)) old new
    → StandsInAll t g ws old → StandsInAll t g ws new
all-kept t g [] old new k s = tt
all-kept t g (w ∷ ws) old new k s = (k (key w.object.0 w.side) t g (refl, refl) s.0, all-kept t g ws old new k s.1)

pub all-more : (t g i : ℕ) (ws : List Wait) (d : Wait) (ls : WaitQueues) → i < length ws
    → StandsInAll t g (take i ws) ls → StandsIn t g (get_or ws i d) ls → StandsInAll t g (take (suc i) ws) ls
all-more t g i [] d ls l s n = absurd (omega arith)
all-more t g zero (v ∷ ws) d ls l s n = (n, tt)
all-more t g (suc i) (v ∷ ws) d ls l s n = (s.0, all-more t g i ws d ls (omega arith) s.1 n)

-- ---- what is looked up

-- the queue of the key is that of the queue at the place
pub record QueueAt (qs : List Queue) (k at : ℕ) : Type 0 where
  pub queue : Queue
  pub here : slice_get qs at ≡ Some queue
  pub same : key queue.object.0 queue.side ≡ k
  pub found : find k (wait_queues_of qs) ≡ Some (held queue.holders)

queue-read : (qs : List Queue) (k at : ℕ) (o : Option Queue) → slice_get qs at ≡ o → Standing k at (wait_queues_of qs)
    → QueueAt qs k at
queue-read qs k at None h s =
    let none : slice_get (wait_queues_of qs) at ≡ None =
    slice_get-map (λ (q : Queue). (key q.object.0 q.side, held q.holders)) qs at
    ∙ ap (option_map (λ (q : Queue). (key q.object.0 q.side, held q.holders))) h in
    cc (sym none ∙ s.here)
queue-read qs k at (Some q) h s =
    let some : slice_get (wait_queues_of qs) at ≡ Some (key q.object.0 q.side, held q.holders) =
    slice_get-map (λ (q : Queue). (key q.object.0 q.side, held q.holders)) qs at
    ∙ ap (option_map (λ (q : Queue). (key q.object.0 q.side, held q.holders))) h in
    let both : ◌≡◌ {A = Option (ℕ × List (ℕ × ℕ))} (Some s.entry) (Some (key q.object.0 q.side, held q.holders)) =
    sym s.here ∙ some in
    let is : s.entry ≡ (key q.object.0 q.side, held q.holders) = cc both in
    record {
      queue = q;
      here = h;
      same = ap (λ (e : ℕ × List (ℕ × ℕ)). e.0) (sym is) ∙ s.same;
      found = s.found
          ∙ ap (λ (e : ℕ × List (ℕ × ℕ)). Some e.1) is;
    }

module _ (qs seen again : List Queue) (k found at : ℕ) (b : Bool) (e : seen ≡ qs) (f : again ≡ qs) (n : found ≡ k)
    (is : at ≡ rank found (wait_queues_of seen)) (t : b ≡ has_key found (slice_get (wait_queues_of again) at))
    (o : IsInOrder (wait_queues_of qs)) where
  place : at ≡ rank k (wait_queues_of qs)
  place = is ∙ ap (λ (j : ℕ). rank j (wait_queues_of seen)) n ∙ ap (λ (ps : List Queue). rank k (wait_queues_of ps)) e

  test : b ≡ has_key k (slice_get (wait_queues_of qs) at)
  test = t ∙ ap (λ (j : ℕ). has_key j (slice_get (wait_queues_of again) at)) n
      ∙ ap (λ (ps : List Queue). has_key k (slice_get (wait_queues_of ps) at)) f

  pub queue-there : b ≡ true → QueueAt qs k at
  queue-there h = queue-read qs k at (slice_get qs at) refl
      (stands k at (wait_queues_of qs) o.keys place (sym test ∙ h))

  pub queue-absent : b ≡ false → find k (wait_queues_of qs) ≡ None
  queue-absent h = nowhere k at (wait_queues_of qs) o.keys place (sym test ∙ h)

-- the queue at a place is another one
pub queues-set : (qs : List Queue) (k at : ℕ) (q r : Queue) → IsInOrder (wait_queues_of qs) → slice_get qs at ≡ Some q
    → key q.object.0 q.side ≡ k → r.object ≡ q.object → r.side ≡ q.side
    → wait_queues_of (slice_set qs at r) ≡ put k (held r.holders) (wait_queues_of qs)
queues-set qs k at q r o h s object side =
    let number : key r.object.0 r.side ≡ key q.object.0 q.side = ap (λ (x : ObjectId). key x.0 r.side) object
    ∙ ap (λ (x : Side). key q.object.0 x) side in
    set-keyed (λ (q : Queue). key q.object.0 q.side) (λ (q : Queue). held q.holders) 0 at qs q r o.keys h number
    ∙ ap (λ (j : ℕ). put j (held r.holders) (wait_queues_of qs)) s

-- the queues after the queue of a key became another one
pub record Rewritten (qs new : List Queue) (k : ℕ) (es : List (ℕ × ℕ)) : Type 0 where
  pub changed : Changed k es (wait_queues_of qs) (wait_queues_of new)
  pub order : IsInOrder (wait_queues_of new)

pub rewritten : (qs : List Queue) (k at : ℕ) (p r : Queue) → QueueAt qs k at → p ≡ get_or qs at p → r.object ≡ p.object
    → r.side ≡ p.side → IsInOrder (wait_queues_of qs) → Rises 0 (held r.holders)
    → Rewritten qs (slice_set qs at r) k (held r.holders)
rewritten qs k at p r q h object side o rises =
    let same : p ≡ q.queue = h ∙ get_or_from_slice_get qs at q.queue p q.here in
    let set = queues-set qs k at q.queue r o q.here q.same (object ∙ ap (λ (x : Queue). x.object) same)
    (side ∙ ap (λ (x : Queue). x.side) same) in
    let es = held r.holders in
    record {
      changed = subst (λ (ls : WaitQueues). Changed k es (wait_queues_of qs) ls) (sym set)
          (changed-put k es (held q.queue.holders) (wait_queues_of qs) q.found);
      order = subst IsInOrder (sym set) (order-put k es (wait_queues_of qs) rises o);
    }

pub holders-was : (qs : List Queue) (k at : ℕ) (p : Queue) → QueueAt qs k at → p ≡ get_or qs at p
    → held p.holders ≡ wait_queue_at k (wait_queues_of qs)
holders-was qs k at p q h =
    ap (λ (x : Queue). held x.holders) (h ∙ get_or_from_slice_get qs at q.queue p q.here)
    ∙ sym (ap wait_queue_in q.found)

-- and its tickets rise
pub rises-there : (qs : List Queue) (k at : ℕ) (p : Queue) → QueueAt qs k at → p ≡ get_or qs at p
    → IsInOrder (wait_queues_of qs) → Rises 0 (held p.holders)
rises-there qs k at p q h o = subst (Rises 0) (sym (holders-was qs k at p q h)) (rise-at k (wait_queues_of qs) o.queues)

pub inserted : (qs new : List Queue) (k at : ℕ) (r : Queue) → find k (wait_queues_of qs) ≡ None
    → at ≡ rank k (wait_queues_of qs) → new ≡ insert_item qs at r → key r.object.0 r.side ≡ k
    → IsInOrder (wait_queues_of qs) → Rises 0 (held r.holders) → Rewritten qs new k (held r.holders)
inserted qs new k at r none place is same o rises =
    let es = held r.holders in
    let set : wait_queues_of new ≡ insert k es (wait_queues_of qs) =
    ap wait_queues_of is ∙ queues-insert qs at r
    ∙ ap (λ (n : ℕ). insert_item (wait_queues_of qs) n (key r.object.0 r.side, es)) place
    ∙ ap (λ (n : ℕ). insert_item (wait_queues_of qs) (rank k (wait_queues_of qs)) (n, es)) same
    ∙ insert-rank k es (wait_queues_of qs) in
    record {
      changed = subst (λ (ls : WaitQueues). Changed k es (wait_queues_of qs) ls) (sym set)
          (changed-insert k es (wait_queues_of qs) none);
      order = subst IsInOrder (sym set) (order-insert k es (wait_queues_of qs) none rises o);
    }

pub place-is : (qs seen : List Queue) (k found at : ℕ) → seen ≡ qs → found ≡ k → at ≡ rank found (wait_queues_of seen)
    → at ≡ rank k (wait_queues_of qs)
place-is qs seen k found at e n is = is ∙ ap (λ (j : ℕ). rank j (wait_queues_of seen)) n
    ∙ ap (λ (ps : List Queue). rank k (wait_queues_of ps)) e
