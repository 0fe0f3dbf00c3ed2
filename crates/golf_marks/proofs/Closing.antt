-- The flags at the end say what was claimed: the words are read, and the seats gathered.
-- For: `close` and `gather`, src/marks.rt.
-- By: arithmetic and cases of the seat; no induction.
use Rattle.std.proofs.Common.{◌≡◌, ℕ, ◌+◌, ◌<◌, ◌≤◌, ◌⊎◌, inl, inr, List, [], ◌∷◌, ◌++◌, length, get_or, false, sym, ap}
use Rattle.std.proofs.Common.{◌∙◌, subst, arith}
use Rattle.std.specs.Prelude.{◌==◌, ◌↔◌}
use Rattle.std.specs.List.Sorted.{IsStrictlyIncreasing}
use Rattle.std.proofs.lemmas.Bool.{eqb-true, eq-eqb}
use Rattle.std.proofs.lemmas.List.Sums.{sum_by_push}
use Rattle.golf_theory.specs.Membership.{In, Every}
use Rattle.golf_theory.specs.Counts.{times}
use Rattle.golf_theory.proofs.Lists.{In-left, In-right, In-cases, Every-left, Every-right}
use Rattle.golf_theory.proofs.Times.{times-append}
use Rattle.golf_model.specs.declared.graph.Marked.{Marked}
use Rattle.golf_marks.specs.declared.marks.Marks.{Marks}
use Rattle.golf_marks.specs.declared.marks.MarkSeat.{MarkSeat}
use Rattle.golf_marks.specs.Bits.{bit_at}
use Rattle.golf_marks.specs.Flags.{IsSet, HasMarked}
use Rattle.golf_marks.specs.Seats.{claimed, known, parts, claim_count, part_count, IsSeatOf}
use Rattle.golf_marks.proofs.Flags.{IsSet-below}

-- the marking has the bits of the words, first of the nodes, then of the sleepers, and the marked nodes in order
pub record HasBits (words : List ℕ) (nodes sleepers : ℕ) (m : Marked) : Type 0 where
  pub flag_count : length m.flags ≡ nodes
  pub flags : (k : ℕ) → k < nodes → get_or m.flags k false ≡ (bit_at words (0 + k) == 1)
  pub awake_count : length m.awake ≡ sleepers
  pub awake : (k : ℕ) → k < sleepers → get_or m.awake k false ≡ (bit_at words (nodes + k) == 1)
  pub rising : IsStrictlyIncreasing m.order
  pub members : (n : ℕ) → In n m.order ↔ IsSet m.flags n

-- flags that say which bits are set, if the bits count
pub HasMarked-words : (words : List ℕ) (count : ℕ → ℕ) (nodes sleepers : ℕ) (m : Marked)
    → ((p : ℕ) → bit_at words p ≡ count p) → ((p : ℕ) → count p ≤ 1) → HasBits words nodes sleepers m
    → HasMarked nodes sleepers (λ p. 0 < count p) m
HasMarked-words words count nodes sleepers m is once has = record {
  flag_count = has.flag_count;
  awake_count = has.awake_count;
  flags = λ p. (
    λ h.
        let low : p < nodes = omega (arith, IsSet-below m.flags p h) in
        let one : bit_at words (0 + p) ≡ 1 = eqb-true (bit_at words (0 + p)) 1 (sym (has.flags p low) ∙ h) in
        (low, omega (arith, one, is (0 + p), ap count (zero_plus p))),
    λ h.
        let one : bit_at words (0 + p) ≡ 1 = omega (arith, is (0 + p), ap count (zero_plus p), once p, h.1) in
        has.flags p h.0 ∙ eq-eqb (bit_at words (0 + p)) 1 one,
  );
  awake = λ s low. (
    λ h. let one : bit_at words (nodes + s) ≡ 1 =
        eqb-true (bit_at words (nodes + s)) 1 (sym (has.awake s low) ∙ h) in omega (arith, one, is (nodes + s)),
    λ h. let one : bit_at words (nodes + s) ≡ 1 = omega (arith, is (nodes + s), once (nodes + s), h) in has.awake s low
        ∙ eq-eqb (bit_at words (nodes + s)) 1 one,
  );
  rising = has.rising;
  order = has.members;
}
  where
    zero_plus : (p : ℕ) → 0 + p ≡ p
    zero_plus p = omega arith

-- of these seats all but the rest are taken in
pub record IsGathered (m : Marks) (all rest : List MarkSeat) (s : MarkSeat) : Type 0 where
  pub seats : Every (IsSeatOf m) rest
  pub seat : IsSeatOf m s
  pub parts : parts s + part_count rest ≡ part_count all
  pub claimed : (p : ℕ) → times p (claimed s) + claim_count p rest ≡ claim_count p all
  pub known : (p : ℕ) (t : MarkSeat) → In t all → In p (known t) → In t rest ⊎ In p (known s)

-- the last one is taken out first
pub gathers_first : (m : Marks) (all rest : List MarkSeat) (s : MarkSeat) → Every (IsSeatOf m) all → all ≡ rest ++ s
    ∷ [] → IsGathered m all rest s
gathers_first m all rest s seats is =
    let each = subst (λ (l : List MarkSeat). Every (IsSeatOf m) l) is seats in
    record {
      seats = Every-left (IsSeatOf m) rest (s ∷ []) each;
      seat = (Every-right (IsSeatOf m) rest (s ∷ []) each).0;
      parts = omega (arith, ap part_count is, sum_by_push (λ (t : MarkSeat). parts t) rest s);
      claimed = λ p. omega (arith, ap (claim_count p) is, sum_by_push (λ (t : MarkSeat). times p (claimed t)) rest s);
      known = λ p t h k. elim (In-cases t rest (s ∷ []) (subst (λ (l : List MarkSeat). In t l) is h)) [
        | inl i ↦ inl i
        | inr i ↦ elim i [ inl e ↦ inr (subst (λ (u : MarkSeat). In p (known u)) e k) | inr none ↦ absurd none ]
      ];
    }

-- the seat u has what the seats s and t had
pub record IsJoint (m : Marks) (s t u : MarkSeat) : Type 0 where
  pub seat : IsSeatOf m u
  pub parts : parts u ≡ parts s + parts t
  pub claimed : claimed u ≡ claimed s ++ claimed t
  pub known : known u ≡ known s ++ known t

-- one more is taken in
pub gathers_next : (m : Marks) (all old rest : List MarkSeat) (s t u : MarkSeat) → IsGathered m all old s → old ≡ rest
    ++ t ∷ [] → IsJoint m s t u → IsGathered m all rest u
gathers_next m all old rest s t u g is joint =
    let each = subst (λ (l : List MarkSeat). Every (IsSeatOf m) l) is g.seats in
    record {
      seats = Every-left (IsSeatOf m) rest (t ∷ []) each;
      seat = joint.seat;
      parts = omega (arith, g.parts, joint.parts, ap part_count is, sum_by_push (λ (x : MarkSeat). parts x) rest t);
      claimed = λ p. omega (
        arith,
        g.claimed p,
        ap (times p) joint.claimed,
        times-append p (claimed s) (claimed t),
        ap (claim_count p) is,
        sum_by_push (λ (x : MarkSeat). times p (claimed x)) rest t,
      );
      known = λ p x h k. elim (g.known p x h k) [
        | inl i ↦ elim (In-cases x rest (t ∷ []) (subst (λ (l : List MarkSeat). In x l) is i)) [
          | inl j ↦ inl j
          | inr j ↦ elim j [
            | inl e ↦ inr (subst (λ (l : List ℕ). In p l) (sym joint.known)
                (In-right p (known s) (known t) (subst (λ (y : MarkSeat). In p (known y)) e k)))
            | inr none ↦ absurd none
          ]
        ]
        | inr i ↦ inr (subst (λ (l : List ℕ). In p l) (sym joint.known) (In-left p (known s) (known t) i))
      ];
    }
