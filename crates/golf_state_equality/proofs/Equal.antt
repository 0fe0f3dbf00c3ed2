-- What derived equality says of values and waits, and of lists of them.
-- For: `same_values`, src/values.rt; `same_waits`, src/goroutines.rt
-- By: the parts of the two that are compared; no induction
use Rattle.std.proofs.Common.{◌≡◌, ℕ, Bool, true, false, ◌&&◌, List, Option, ap, ◌∙◌, rules, nat_eq}
use Rattle.std.specs.Bool.{Decides}
use Rattle.std.specs.Option.{option_eq}
use Rattle.std.specs.Cmp.{unsigned_Decides, booleans_Decides, first_so, second_so}
use Rattle.std.specs.Cmp.Lexicographic.{pointwise}
use Rattle.std.proofs.lemmas.Slice.Eq.{slice_eq-Decides}
use Rattle.golf_data.specs.declared.goroutine.Side.{Side}
use Rattle.golf_data.specs.declared.goroutine.Wait.{Wait}
use Rattle.golf_data.specs.declared.value.Value.{Value}
use Rattle.golf_data.specs.contracts.value.ValuePartialEq.TheImpl as values
use Rattle.golf_data.specs.contracts.goroutine.SidePartialEq.TheImpl as sides
use Rattle.golf_data.specs.contracts.goroutine.WaitPartialEq.TheImpl as waits

both : {P Q : Type 0} (a b : Bool) → Decides a P → Decides b Q → Decides (a && b) (P × Q)
both a b d e = (λ t. (d.0 (first_so a b t), e.0 (second_so a b t)), λ h. and-true a b (d.1 h.0) (e.1 h.1))
  where
    and-true : (a b : Bool) → a ≡ true → b ≡ true → (a && b) ≡ true
    and-true true b p q = q
    and-true false b p q = p

value-decides : (v w : Value) → Decides (values.eq-value.it v w) (v ≡ w)
value-decides v w = search rules

target-decides : (v w : Option ℕ) → Decides (option_eq nat_eq v w) (v ≡ w)
target-decides v w = search rules

side-decides : (v w : Side) → Decides (sides.eq-value.it v w) (v ≡ w)
side-decides v w = search rules

same-parts : (v w : Wait) → v.object.0 ≡ w.object.0 → v.side ≡ w.side → v.value ≡ w.value → v.target ≡ w.target
    → v.with_ok ≡ w.with_ok → v ≡ w
same-parts v w o s x t b =
    ap (λ z. record {
      object = record { 0 = z };
      side = v.side;
      value = v.value;
      target = v.target;
      with_ok = v.with_ok;
    }) o
    ∙ ap (λ z. record { object = w.object; side = z; value = v.value; target = v.target; with_ok = v.with_ok }) s
    ∙ ap (λ z. record { object = w.object; side = w.side; value = z; target = v.target; with_ok = v.with_ok }) x
    ∙ ap (λ z. record { object = w.object; side = w.side; value = w.value; target = z; with_ok = v.with_ok }) t
    ∙ ap (λ z. record { object = w.object; side = w.side; value = w.value; target = w.target; with_ok = z }) b

wait-decides : (v w : Wait) → Decides (waits.eq-value.it v w) (v ≡ w)
wait-decides v w =
    let d = both _ _ (value-decides v.value w.value)
    (both _ _ (unsigned_Decides v.object.0 w.object.0)
    (both _ _ (target-decides v.target w.target)
    (both _ _ (side-decides v.side w.side) (booleans_Decides v.with_ok w.with_ok)))) in (
      λ t. let p = d.0 t in same-parts v w p.1.0 p.1.1.1.0 p.0 p.1.1.0 p.1.1.1.1,
      λ e. d.1 (
        ap (λ (z : Wait). z.value) e,
        (
          ap (λ (z : Wait). z.object.0) e,
          (
            ap (λ (z : Wait). z.target) e,
            (ap (λ (z : Wait). z.side) e, ap (λ (z : Wait). z.with_ok) e),
          ),
        ),
      ),
    )

pub values-decide : (vs ws : List Value) (r : Bool) → r ≡ pointwise values.eq-value.it vs ws → Decides r (vs ≡ ws)
values-decide = slice_eq-Decides value-decides

pub waits-decide : (vs ws : List Wait) (r : Bool) → r ≡ pointwise waits.eq-value.it vs ws → Decides r (vs ≡ ws)
waits-decide = slice_eq-Decides wait-decides
