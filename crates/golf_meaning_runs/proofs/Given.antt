-- What is given, by what the checker says of its type; values in pairs.
-- For: `YieldsBy` and `Yields`, specs/Sound.antt
-- By: cases of what is said of the type, and of how many values there are; no induction
use Rattle.std.proofs.Common.{◌≡◌, true, not, ◌&&◌, List, [], ◌∷◌, Some, refl, sym, ◌∙◌, arith}
use Rattle.std.proofs.lemmas.Bool.{and_parts}
use Rattle.golf_data.specs.declared.value.Value.{Value}
use Rattle.golf_model.specs.Values.{zero_of}
use Rattle.golf_check_types.specs.declared.types.Layer.{Layer}
use Rattle.golf_check_types.specs.declared.types.Layer.TheVariants as layer
use Rattle.golf_check_types.specs.declared.types.Base.{Base}
use Rattle.golf_check_types.specs.declared.types.Base.TheVariants as base
use Rattle.golf_check_types.specs.declared.types.GoType.{GoType}
use Rattle.golf_check_types.specs.declared.operands.Given.{Given}
use Rattle.golf_check_types.specs.declared.operands.Given.TheVariants as given_as
use Rattle.golf_check_types.specs.Types.{assignable, type_given, is_nil}
use Rattle.golf_code_of.specs.Values.{type_zero}
use Rattle.golf_model_typing.specs.Types.{ValueType}
use Rattle.golf_code_shapes.specs.Types.{layers_type, value_type}
use Rattle.golf_code_shapes.proofs.Givens as by
use Rattle.golf_meaning_source.specs.Operations.{Taking, Gives, fits}
use Rattle.golf_meaning_runs.specs.Sound.{is_of, One, Yields, YieldsBy, IsOf, AllFit}
use Rattle.golf_meaning_runs.proofs.ValueKinds.{fits-kind}
use Rattle.golf_meaning_runs.proofs.Calculus.{Two}

-- the zero value of a type
pub zero-fits : (xs : List Layer) (b : Base) → is_of (layers_type xs b) (zero_of (type_zero xs b)) ≡ true
zero-fits [] base.Int = refl
zero-fits (layer.Slice ∷ xs) b = refl
zero-fits _ b = refl

module _ (taking : Taking) where
  -- what is assignable to a type gives a value of it
  pub assigned-to : (g : Given) (e : GoType) (f : Gives) → assignable g (Some e) ≡ true → YieldsBy taking g f
      → Yields taking (value_type e) f
  assigned-to g e f = by.assigned (λ u. Yields taking u f) g e

  -- what is not nil has a type
  pub typed : (g : Given) (f : Gives) → not (is_nil g) ≡ true → YieldsBy taking g f → (e : GoType)
      × (type_given g ≡ Some e) × Yields taking (value_type e) f
  typed (given_as.Typed e) f holds h = (e, refl, h)
  typed given_as.Nil f holds h = cc
  typed given_as.Unknown f holds h = absurd h

  -- one value, and two
  pub at-one : (u : ValueType) (P : List Value → Type 0) → ((v : Value) → IsOf taking u v → P (v ∷ []))
      → (vs : List Value) → One taking u vs → P vs
  at-one u P h [] q = absurd q
  at-one u P h (v ∷ []) q = h v q
  at-one u P h (v ∷ (x ∷ vs)) q = absurd q

  pub at-two : (u t : ValueType) (P : List Value → Type 0)
      → ((v x : Value) → IsOf taking u v → IsOf taking t x → P (v ∷ (x ∷ []))) → (vs : List Value) → Two taking u t vs
      → P vs
  at-two u t P h [] q = absurd q
  at-two u t P h (v ∷ []) q = absurd q
  at-two u t P h (v ∷ (x ∷ [])) q = h v x q.0 q.1
  at-two u t P h (v ∷ (x ∷ (y ∷ vs))) q = absurd q

  -- what an answer leaves is two values of these types
  pub two-fit : (e d : GoType) (vs : List Value) → AllFit taking (Some e ∷ (Some d ∷ [])) vs
      → Two taking (value_type e) (value_type d) vs
  two-fit e d [] h = let n = h.0 in absurd (omega (arith, n))
  two-fit e d (v ∷ []) h = let n = h.0 in absurd (omega (arith, n))
  two-fit e d (v ∷ (x ∷ [])) h = (
    λ strict. sym (fits-kind e.layers e.base v)
        ∙ (and_parts (fits (Some e) v) (fits (Some d) x && true) (h.1 strict)).0,
    λ strict. sym (fits-kind d.layers d.base x)
        ∙ (and_parts (fits (Some d) x) true (and_parts (fits (Some e) v) (fits (Some d) x && true) (h.1 strict)).1).0,
  )
  two-fit e d (v ∷ (x ∷ (y ∷ vs))) h = let n = h.0 in absurd (omega (arith, n))
