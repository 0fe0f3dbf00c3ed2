-- What derived equality says of queues and finalisers, and the goroutine at a place by its number.
-- For: `same_queues`, `same_pairs` and `same_numbered`, src/equality.rt
-- By: no induction
use Rattle.std.proofs.Common.{◌≡◌, ℕ, ◌<◌, Bool, ◌&&◌, List, map, length, get_or, Some, option_map, sym, ap, ◌∙◌, subst}
use Rattle.std.proofs.Common.{rules, nat_eq, slice_get}
use Rattle.std.specs.Bool.{Decides}
use Rattle.std.specs.Cmp.Lexicographic.{pointwise}
use Rattle.std.proofs.lemmas.Option.{slice_get-map, slice_get-get_or}
use Rattle.std.proofs.lemmas.Slice.Eq.{slice_eq-Decides}
use Rattle.golf_base.specs.declared.ids.GoroutineId.{GoroutineId}
use Rattle.golf_data.specs.declared.goroutine.Queued.{Queued}
use Rattle.golf_data.specs.contracts.goroutine.QueuedPartialEq.TheImpl as queues
use Rattle.golf_theory.specs.Maps.{find, keys, IsRising}
use Rattle.golf_state_equality.proofs.Entries.{entry-decides}

queued-decides : (v w : Queued) → Decides (queues.eq-value.it v w) (v ≡ w)
queued-decides v w = search rules

pub queues-decide : (vs ws : List Queued) (r : Bool) → r ≡ pointwise queues.eq-value.it vs ws → Decides r (vs ≡ ws)
queues-decide = slice_eq-Decides queued-decides

abbrev are_same : ℕ × ℕ → ℕ × ℕ → Bool
are_same x y = nat_eq x.0 y.0 && nat_eq x.1 y.1

pair-decides : (x y : ℕ × ℕ) → Decides (are_same x y) (x ≡ y)
pair-decides x y = search rules

pub pairs-decide : (xs ys : List (ℕ × ℕ)) (r : Bool) → r ≡ pointwise are_same xs ys → Decides r (xs ≡ ys)
pairs-decide = slice_eq-Decides pair-decides

module _ {X : Type 0} (n : ℕ) (d : GoroutineId) where
  numbered-at : (es : List (ℕ × X)) (gs : List GoroutineId) → map (λ g. g.0) gs ≡ keys es → n < length gs
      → slice_get (keys es) n ≡ Some (get_or gs n d).0
  numbered-at es gs e l = ap (λ (ks : List ℕ). slice_get ks n) (sym e) ∙ slice_get-map (λ g. g.0) gs n
      ∙ ap (option_map (λ g. g.0)) (slice_get-get_or gs n d l)

  -- the entries at one place of two maps, whose keys these numbers are
  pub numbered-decide : (es fs : List (ℕ × X)) (gs hs : List GoroutineId) (r : Bool) → IsRising es → IsRising fs
      → map (λ g. g.0) gs ≡ keys es → map (λ g. g.0) hs ≡ keys fs
      → n < length gs → length gs ≡ length hs
      → Decides r (((get_or gs n d).0 ≡ (get_or hs n d).0) × (find (get_or gs n d).0 es ≡ find (get_or hs n d).0 fs))
      → Decides r (slice_get es n ≡ slice_get fs n)
  numbered-decide es fs gs hs r p q ge hf l same =
      entry-decides 0 es fs n (get_or gs n d).0 (get_or hs n d).0 r p q (numbered-at es gs ge l)
      (numbered-at fs hs hf (subst (λ k. n < k) same l))
