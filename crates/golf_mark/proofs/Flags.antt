-- One more flag is set.
-- For: `claim`, src/work.rt; `IsWorking`, specs/UnderWay.antt
-- By: cases of whether a place is the new one, and arithmetic; no induction
use Rattle.std.proofs.Common.{◌≡◌, ℕ, ◌+◌, ◌<◌, inl, inr, List, [], ◌∷◌, ◌++◌, length, get_or, set, Bool, true, false}
use Rattle.std.proofs.Common.{sym, ap, subst, arith}
use Rattle.std.proofs.lemmas.List.{length_push, length-set}
use Rattle.golf_theory.specs.Membership.{In}
use Rattle.golf_theory.proofs.Lists.{In-left, In-cases, In-push}
use Rattle.golf_base.specs.Roomy.{Roomy}
use Rattle.golf_marks.proofs.Flags.{IsSet-set, set-IsSet, unset_one}
use Rattle.golf_mark.specs.UnderWay.{IsWorking}

-- one more place is marked
pub IsWorking-more : (bits : List Bool) (old new : Roomy ℕ) (p : ℕ) → p < length bits → get_or bits p false ≡ false
    → new.items ≡ old.items ++ p ∷ [] → new.spare + 1 ≡ old.spare → IsWorking bits old → IsWorking (set bits p true) new
IsWorking-more bits old new p low off items spare w = record {
  room = omega (arith, unset_one bits p low off, w.room);
  counted = omega (
    arith,
    unset_one bits p low off,
    w.counted,
    ap length items,
    length_push old.items p,
    length-set bits p true,
  );
  listed = λ q. (
    λ h. set-IsSet bits p q low (elim (In-cases q old.items (p ∷ []) (subst (λ (l : List ℕ). In q l) items h)) [
      | inl i ↦ inr ((w.listed q).0 i)
      | inr i ↦ elim i [ inl e ↦ inl e | inr none ↦ absurd none ]
    ]),
    λ h. subst (λ (l : List ℕ). In q l) (sym items) (elim (IsSet-set bits p q low h) [
      | inl e ↦ subst (λ (x : ℕ). In x (old.items ++ p ∷ [])) (sym e) (In-push p old.items)
      | inr i ↦ In-left q old.items (p ∷ []) ((w.listed q).1 i)
    ]),
  );
}
