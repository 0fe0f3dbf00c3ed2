-- The first of the elements and of the values that are left.
-- For: `all_fit`, src/literals.rt; `all_put_faults`, golf_check_types/specs/Expressions.antt
-- By: cases of the list of values; no induction
use Rattle.std.proofs.Common.{◌≡◌, ℕ, ◌+◌, ◌<◌, ◌≤◌, List, [], ◌∷◌, ◌++◌, map, drop, length, get_or, sym, ap, ◌∙◌}
use Rattle.std.proofs.Common.{arith}
use Rattle.std.specs.Prelude.{Option}
use Rattle.std.proofs.lemmas.List.{at_drop_more}
use Rattle.golf_syntax_trees.specs.declared.expressions.Element.{Element}
use Rattle.golf_check_types.specs.declared.types.Base.{Base}
use Rattle.golf_check_types.specs.declared.operands.Given.{Given}
use Rattle.golf_check_types.specs.declared.scopes.FileScope.{FileScope}
use Rattle.golf_check_types.specs.Expressions.{field_type, put_faults, all_put_faults}

pub first_put : {x : Element} {v : Given} (l : ℕ) (f : FileScope) (b : Option Base) (xs : List Element)
    (vs : List Given) (i : ℕ) → i < length xs → x ≡ get_or xs i x → 1 ≤ length vs → v ≡ get_or vs 0 v
    → all_put_faults l f b (map (λ e. e.field) (drop i xs)) vs ≡ put_faults l (field_type f b x.field) v
    ++ all_put_faults l f b (map (λ e. e.field) (drop (i + 1) xs)) (drop 1 vs)
first_put l f b xs [] i lt is len at = absurd (omega arith)
first_put {x} {v} l f b xs (w ∷ ws) i lt is len at =
    at_drop_more (λ ds. all_put_faults l f b (map (λ e. e.field) ds) (w ∷ ws)) xs i x lt
    ∙ (ap (λ (y : Element). put_faults l (field_type f b y.field) w
    ++ all_put_faults l f b (map (λ e. e.field) (drop (i + 1) xs)) ws) (sym is)
    ∙ ap (λ (u : Given). put_faults l (field_type f b x.field) u
    ++ all_put_faults l f b (map (λ e. e.field) (drop (i + 1) xs)) ws) (sym at))
