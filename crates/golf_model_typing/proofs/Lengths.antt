-- Lengths of operands and of their types, and the order of types that were pushed one by one.
-- For: `ValuesFit`, specs/Types.antt; `pushed`, specs/Shapes.antt
-- By: induction over the list of types
use Rattle.std.proofs.Common.{◌≡◌, ℕ, suc, ◌+◌, List, [], ◌∷◌, ◌++◌, length, refl, ap, arith}
use Rattle.golf_data.specs.declared.value.Value.{Value}
use Rattle.golf_model_typing.specs.Types.{ValueType, Types, ValuesFit}
use Rattle.golf_model_typing.specs.Shapes.{pushed}

pub values-length : (types : Types) (known : List (ℕ × ValueType)) (vs : List Value) (ts : List ValueType)
    → ValuesFit types known vs ts → length vs ≡ length ts
values-length types known [] [] h = refl
values-length types known [] (t ∷ ts) h = absurd h
values-length types known (v ∷ vs) [] h = absurd h
values-length types known (v ∷ vs) (t ∷ ts) h = ap suc (values-length types known vs ts h.1)

pub pushed-append : (ps ts rest : List ValueType) → pushed ps (ts ++ rest) ≡ pushed ps ts ++ rest
pushed-append [] ts rest = refl
pushed-append (p ∷ ps) ts rest = pushed-append ps (p ∷ ts) rest

pub pushed-pushed : (ps ts us : List ValueType) → pushed (pushed ps ts) us ≡ pushed ts (ps ++ us)
pushed-pushed [] ts us = refl
pushed-pushed (p ∷ ps) ts us = pushed-pushed ps (p ∷ ts) us

pub pushed-length : (ps ts : List ValueType) → length (pushed ps ts) ≡ length ps + length ts
pushed-length [] ts = omega arith
pushed-length (p ∷ ps) ts = let e = pushed-length ps (p ∷ ts) in omega (arith, e)
