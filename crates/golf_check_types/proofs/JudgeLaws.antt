-- What expressions with lists of parts are.
-- For: `judge`, specs/Judgments.antt
-- By: induction over the list of elements; else computing
use Rattle.std.proofs.Common.{◌≡◌, ℕ, List, [], ◌∷◌, map, refl, sym, ap, ◌∙◌}
use Rattle.std.proofs.lemmas.Simd.{map-map}
use Rattle.golf_syntax_trees.specs.declared.types.TypeExpr.{TypeExpr}
use Rattle.golf_syntax_trees.specs.declared.expressions.Expr.{Expr}
use Rattle.golf_syntax_trees.specs.declared.expressions.Element.{Element}
use Rattle.golf_syntax_trees.specs.declared.expressions.Expr.TheVariants as ex
use Rattle.golf_syntax_trees.specs.declared.expressions.Expr.TheOpen as EF
use Rattle.golf_syntax_trees.specs.declared.expressions.Expr.TheFolds.{fold-roll-Expr, fold-roll-Element, fold-Element}
use Rattle.golf_check_types.specs.declared.types.Layer.TheVariants as layer
use Rattle.golf_check_types.specs.declared.scopes.Scope.{Scope}
use Rattle.golf_check_types.specs.Types.{with_layer}
use Rattle.golf_check_types.specs.Scopes.{meaning}
use Rattle.golf_check_types.specs.Written.{write_at, pointer_to}
use Rattle.golf_check_types.specs.Expressions.{struct_literal, slice_literal}
use Rattle.golf_check_types.specs.Calls.{call_judged}
use Rattle.golf_check_types.specs.Judgments.{Judge, Put, judge, judge_at, value_at, judge_step, element_step}

pub judge-Call : (f : Expr) (xs : List Expr) (l : ℕ) (s : Scope)
    → judge (ex.Call f xs) l s ≡ call_judged l s (judge f l s) (map (judge_at l s) xs)
unfolding judge
judge-Call f xs l s =
    ap (λ j. j l s) (ap judge (sym (ex.rolls-Call f xs))
    ∙ fold-roll-Expr Judge Put judge_step element_step (EF.Call f xs))
    ∙ ap (call_judged l s (judge f l s)) (map-map (λ j. j l s) judge xs)

pub judge-SliceLiteral : (t : TypeExpr) (xs : List Expr) (l : ℕ) (s : Scope)
    → judge (ex.SliceLiteral t xs) l s ≡ slice_literal l (write_at l s t) (with_layer layer.Slice (write_at l s t).type)
    (map (judge_at l s) xs)
unfolding judge
judge-SliceLiteral t xs l s =
    ap (λ j. j l s) (ap judge (sym (ex.rolls-SliceLiteral t xs))
    ∙ fold-roll-Expr Judge Put judge_step element_step (EF.SliceLiteral t xs))
    ∙ ap (slice_literal l (write_at l s t) (with_layer layer.Slice (write_at l s t).type))
    (map-map (λ j. j l s) judge xs)

-- an element of a struct literal
put : Element → Put
put e = record { name = e.field; judge = judge e.value }

puts : (xs : List Element) → map (fold-Element Judge Put judge_step element_step) xs ≡ map put xs
unfolding judge put
puts [] = refl
puts (e ∷ es) =
    ap (λ p. p ∷ map (fold-Element Judge Put judge_step element_step) es)
    (fold-roll-Element Judge Put judge_step element_step (record { field = e.field; value = e.value }))
    ∙ ap (λ ps. put e ∷ ps) (puts es)

pub judge-StructLiteral : (n : List ℕ) (xs : List Element) (l : ℕ) (s : Scope)
    → judge (ex.StructLiteral n xs) l s ≡ struct_literal l s.file (pointer_to (meaning s n)) (map (λ e. e.field) xs)
    (map (value_at l s) xs)
unfolding judge put
judge-StructLiteral n xs l s =
    ap (λ j. j l s) (ap judge (sym (ex.rolls-StructLiteral n xs))
    ∙ fold-roll-Expr Judge Put judge_step element_step (EF.StructLiteral n xs))
    ∙ ap (λ ps. struct_literal l s.file (pointer_to (meaning s n)) (map (λ x. x.name) ps) (map (λ x. x.judge l s) ps))
    (puts xs)
    ∙ ap (λ names. struct_literal l s.file (pointer_to (meaning s n)) names (map (λ x. x.judge l s) (map put xs)))
    (map-map (λ x. x.name) put xs)
    ∙ ap (λ js. struct_literal l s.file (pointer_to (meaning s n)) (map (λ e. e.field) xs) js)
    (map-map (λ x. x.judge l s) put xs)
