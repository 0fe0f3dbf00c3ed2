-- A queue that stands where it was looked for first.
-- For: `place_of`, src/queues.rt
-- By: induction over the list of queues
use Rattle.std.proofs.Common.{◌≡◌, ℕ, zero, suc, ◌+◌, ◌<◌, ◌≤◌, true, cond, List, [], ◌∷◌, length, Some, ap, ◌∙◌, arith}
use Rattle.std.proofs.Common.{slice_get}
use Rattle.std.proofs.lemmas.Bool.{lt-ltb, le-ltb, eqb-true}
use Rattle.std.proofs.lemmas.List.{length-map}
use Rattle.golf_theory.specs.Maps.{Rises, rank}
use Rattle.golf_theory.proofs.Guesses.{at-least}
use Rattle.golf_state_queues.specs.WaitQueues.{has_key, held, key, wait_queues_of}
use Rattle.golf_state_queues.specs.declared.queues.Queue.{Queue}

module _ {X : Type 0} where
  rank-found : (j k i : ℕ) (es : List (ℕ × X)) → Rises j es → has_key k (slice_get es i) ≡ true → rank k es ≡ i
  rank-found j k i [] r h = cc
  rank-found j k zero (e ∷ es) r h =
      ap (λ t. cond t (suc (rank k es)) 0) (le-ltb e.0 k (omega (arith, eqb-true e.0 k h)))
  rank-found j k (suc i) (e ∷ es) r h = ap (λ t. cond t (suc (rank k es)) 0) (lt-ltb e.0 k (above es i e.0 r.1 h))
      ∙ ap suc (rank-found (suc e.0) k i es r.1 h)
    where
      above : (ds : List (ℕ × X)) (n m : ℕ) → Rises (suc m) ds → has_key k (slice_get ds n) ≡ true → m < k
      above [] n m s g = cc
      above (d ∷ ds) zero m s g = omega (arith, s.0, eqb-true d.0 k g)
      above (d ∷ ds) (suc n) m s g = let more = above ds n d.0 s.1 g in omega (arith, s.0, more)

  found-within : (k i : ℕ) (es : List (ℕ × X)) → has_key k (slice_get es i) ≡ true → i ≤ length es
  found-within k i [] h = cc
  found-within k zero (e ∷ es) h = omega arith
  found-within k (suc i) (e ∷ es) h = let l = found-within k i es h in omega (arith, l)

abbrev keyed : Queue → ℕ × List (ℕ × ℕ)
keyed q = (key q.object.0 q.side, held q.holders)

pub record IsPlace (k i : ℕ) (qs : List Queue) : Type 0 where
  pub place : rank k (wait_queues_of qs) ≡ i
  pub within : i ≤ length qs

-- the queue of the key is there
pub place-guessed : (k i : ℕ) (qs : List Queue) → Rises 0 (wait_queues_of qs)
    → has_key k (slice_get (wait_queues_of qs) i) ≡ true → IsPlace k i qs
place-guessed k i qs r h = record {
  place = rank-found 0 k i (wait_queues_of qs) r h;
  within = let l = found-within k i (wait_queues_of qs) h in let m = length-map qs keyed in omega (arith, l, m);
}
