-- The graph that is gone through backwards.
-- For: `backward`, src/keep_rule.rt; `IsBackward`, specs/Backward.antt
-- By: putting the facts of the rows together; no induction
use Rattle.std.proofs.Common.{◌≡◌, ℕ, ◌<◌, Bool, List, [], length, sym, ap, ◌∙◌, subst, arith}
use Rattle.std.specs.Prelude.{◌↔◌}
use Rattle.std.proofs.lemmas.Option.{unwrap_or-slice_get}
use Rattle.golf_theory.specs.Membership.{In, Every}
use Rattle.golf_theory.proofs.Lists.{Every-from}
use Rattle.golf_base.specs.declared.ids.ObjectId.{ObjectId}
use Rattle.golf_model.specs.declared.graph.GraphParts.{GraphParts}
use Rattle.golf_model.specs.Sleepers.{Sleeper}
use Rattle.golf_model.specs.Graph.{node_count, children_of, AreNodes, IsInRange}
use Rattle.golf_rows.specs.Rows.{row_of, IsInverseBelow}
use Rattle.golf_final.specs.KeepRule.{Prevents}
use Rattle.golf_final.specs.Backward.{HasNumbers, IsBackward}
use Rattle.golf_final.proofs.Parts.{rows-below}

module _ (g : GraphParts) (range : IsInRange g) (flags : List Bool) (sets : Bool) (n : ℕ) (count : n ≡ node_count g)
    (numbers : List ObjectId) (has : HasNumbers 0 n numbers) (rows : List (List ℕ))
    (inverse : IsInverseBelow (node_count g) (node_count g) (children_of g) rows) (finalised : List Bool)
    (size : length finalised ≡ n) (roots : List ℕ)
    (all : (p : ℕ) → In p roots ↔ ((p < node_count g) × Prevents g flags sets p)) (sleepers : List Sleeper)
    (none : sleepers ≡ []) where
  abbrev pub made : GraphParts
  made = record { numbers = numbers; children = rows; finalised = finalised; roots = roots; sleepers = sleepers }

  pub made-in_range : IsInRange made
  made-in_range = record {
    numbered = has.count ∙ count ∙ sym inverse.row_count;
    flagged = size ∙ count ∙ sym inverse.row_count;
    numbers = has.rise;
    few = omega (arith, range.few, inverse.row_count, ap length none);
    children = rows-below (length rows) rows
        (λ m p i. let b = ((inverse.members m p).0 i).0 in omega (arith, b, inverse.row_count));
    roots = Every-from (λ p. p < length rows) roots
        (λ p i. let b = ((all p).0 i).0 in omega (arith, b, inverse.row_count));
    waits = subst (λ (xs : List Sleeper). Every (λ x. AreNodes made x.waits) xs) (sym none) tt;
    references = subst (λ (xs : List Sleeper). Every (λ x. AreNodes made x.references) xs) (sym none) tt;
  }

  same_row : (q : ℕ) → children_of made q ≡ row_of rows q
  same_row q = unwrap_or-slice_get rows q []

  pub made-backward : IsBackward g flags sets made
  made-backward = record {
    nodes = inverse.row_count;
    none = none;
    parents = λ p q. (
      λ h. (inverse.members q p).0 (subst (λ (l : List ℕ). In p l) (same_row q) h),
      λ h. subst (λ (l : List ℕ). In p l) (sym (same_row q)) ((inverse.members q p).1 h),
    );
    roots = all;
  }
