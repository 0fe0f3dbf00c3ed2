-- A new hand fits its pool; all hands push at most as often as each may.
-- For: `new`, src/new_pools.rt; `close`, src/pool.rt; `IsHandIn`, specs/Hands.antt
-- By: the parts of the hand, and arithmetic; no induction
use Rattle.std.proofs.Common.{◌≡◌, [], ◌∷◌, ℕ, ◌-◌, ◌<◌, ◌≤◌, List, length, refl, sym, ap, subst, arith}
use Rattle.std.specs.Prelude.{sum_by, ◌*◌, vec_capacity}
use Rattle.std.proofs.lemmas.List.Sums.{sum_by-le}
use Rattle.golf_theory.proofs.Sums.{total_length, get_or_of}
use Rattle.std.specs.Global.{Vec}
use mathlib.Core.Option.{some}
use lib.ListN.{get_elem?}
use Rattle.golf_grey.specs.declared.hand.GreyHand.{GreyHand}
use Rattle.golf_grey.specs.Rule.{all_parts}
use Rattle.golf_grey.specs.Hands.{Thief, Owner, GreyPass, AllHandsIn, pushed, pushed_by, OwnerFits, IsHandIn, IsNewHand}
use Rattle.golf_grey.specs.Hands.{IsRow, row_weight, rows_weight, IsStage, AllFresh, RowIsNew}
use Rattle.golf_grey.proofs.Stages.{at_low, exists_at}

pub owner_fits : (thieves : List Thief) (owners : List Owner) (c b n j : ℕ) (w : Owner) → n ≡ length thieves
    → n < all_parts → IsStage thieves (all_parts - n) n owners → AllFresh c b owners → get_elem? owners j ≡ some w
    → OwnerFits thieves c b j w
owner_fits thieves owners c b n j w n_is small s fresh d =
    let low = at_low owners j w d in
    let t = exists_at thieves j (omega (arith, s.len)) in
    record {
      deque = λ u e. (s.each j u w e d).0;
      flavor = (s.each j t.0 w t.1 d).1;
      parts = omega (arith, s.low j w d (omega (arith, s.len)), n_is);
      fresh = fresh j w d;
    }

-- the hand j is made of an owner and a row of passes; its lists of owners and rows are empty, with room for all thieves
pub record IsMadeOf (thieves : List Thief) (j : ℕ) (owner : Owner) (row : Vec GreyPass) (h : GreyHand) : Type 0 where
  pub own : h.own ≡ owner
  pub passes : h.passes ≡ row
  pub number : h.number ≡ j
  pub no_owner : h.owners.items ≡ []
  pub owner_room : length thieves ≤ vec_capacity h.owners
  pub no_row : h.rows.items ≡ []
  pub row_room : length thieves ≤ vec_capacity h.rows

pub hand_fits : (thieves : List Thief) (c b j : ℕ) (h : GreyHand) (own : Owner) (passes : Vec GreyPass)
    → IsMadeOf thieves j own passes h → j < length thieves → OwnerFits thieves c b j own → IsRow thieves passes.items
    → ((g : ℕ → ℕ → ℕ) → row_weight g passes.items ≡ 0) → RowIsNew c b passes.items → IsHandIn thieves c b h
    × IsNewHand h
hand_fits thieves c b j h own passes made low fits row none new =
    let made_new : RowIsNew c b h.passes.items =
    subst (λ (x : Vec GreyPass). RowIsNew c b x.items) (sym made.passes) new in
    let f : OwnerFits thieves c b h.number h.own =
    subst (λ (x : ℕ × Owner). OwnerFits thieves c b x.0 x.1) (λ i. (sym made.number i, sym made.own i)) fits in (
      record {
        row = subst (λ (x : Vec GreyPass). IsRow thieves x.items) (sym made.passes) row;
        low = omega (arith, made.number);
        own = f.deque;
        parts = f.parts;
        pushers = f.fresh.pushers;
        knows = f.fresh.knows;
        index = omega (arith, f.fresh.index);
        count = omega (arith, ap (λ (l : List ℕ). length l) f.fresh.pushed);
        room = f.fresh.room;
        few = omega (arith, ap (λ (l : List ℕ). length l) f.fresh.taken);
        row_knows = λ k p e. let n = made_new k p e in (n.0, n.1, omega (arith, ap (λ (l : List ℕ). length l) n.2));
        unused = λ p e. (made_new h.number p e).2;
        no_owner = made.no_owner;
        owner_room = made.owner_room;
        no_row = made.no_row;
        row_room = made.row_room;
      },
      record {
        none_pushed = f.fresh.pushed;
        none_taken = λ g. omega (
          arith,
          ap (sum_by (g h.number)) f.fresh.taken,
          none g,
          ap (λ (x : Vec GreyPass). row_weight g x.items) made.passes,
        );
      },
    )

-- all hands together push at most so often as each may
pub pushed_within : (thieves : List Thief) (capacity places : ℕ) (hands : List GreyHand)
    → AllHandsIn thieves capacity places hands → pushed_by (λ _. 1) hands ≤ length thieves * capacity
pushed_within thieves capacity places hands all =
    subst (λ (n : ℕ). pushed_by (λ _. 1) hands ≤ n * capacity) all.0
    (sum_by-le (λ (h : GreyHand). sum_by (λ _. 1) (pushed h)) capacity hands (λ k d low.
    let h = exists_at hands k low in
    subst (λ (x : GreyHand). sum_by (λ _. 1) (pushed x) ≤ capacity) (sym (get_or_of hands k h.0 d h.1))
    (omega (arith, (all.1 k h.0 h.1).count, total_length (pushed h.0)))))

pub no_rows : (g : ℕ → ℕ → ℕ) (rows : List (Vec GreyPass)) → length rows ≡ 0 → rows_weight g rows ≡ 0
no_rows g [] none = refl
no_rows g (r ∷ rows) none = absurd (omega arith)
