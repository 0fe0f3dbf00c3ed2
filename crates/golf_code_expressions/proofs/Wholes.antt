-- The code of an expression with a list of parts, by its facts; and what is written if facts are missing.
-- For: `expression`, src/expressions.rt; `left_side`, src/places.rt
-- By: induction over the tree of an expression, and over the list of arguments
use Rattle.std.proofs.Common.{◌≡◌, ℕ, suc, pos, true, cond, List, [], ◌∷◌, length, map, refl, sym, ap, subst, ◌∙◌}
use Rattle.std.specs.Prelude.{Result, Ok, Err}
use Rattle.golf_base.specs.declared.Memory.{Memory}
use Rattle.golf_syntax_trees.specs.declared.types.TypeExpr.{TypeExpr}
use Rattle.golf_syntax_trees.specs.declared.expressions.Expr.{Expr, roll-Expr}
use Rattle.golf_syntax_trees.specs.declared.expressions.Element.{Element}
use Rattle.golf_syntax_trees.specs.declared.expressions.Expr.TheVariants as ex
use Rattle.golf_syntax_trees.specs.declared.expressions.Expr.TheOpen.{Expr-F}
use Rattle.golf_syntax_trees.specs.declared.expressions.Expr.TheOpen as F
use Rattle.golf_syntax_trees.specs.declared.expressions.Expr.TheFolds.{fold-roll-Expr, ind-Expr}
use Rattle.golf_data.specs.declared.code.Instr.{Instr}
use Rattle.golf_check_types.specs.declared.facts.Fact.{Fact}
use Rattle.golf_check_types.specs.declared.operands.Operand.{Operand}
use Rattle.golf_code_layout.specs.Piece.{Piece, all, op}
use Rattle.golf_code_of.specs.declared.tables.Tables.{Tables}
use Rattle.golf_code_of.specs.Values.{makes}
use Rattle.golf_code_of.specs.Expressions.{Made, only, elements, slice_literal}
use Rattle.golf_check_types.specs.Calls.{sets_finaliser}
use Rattle.golf_code_of.specs.Calls.{pushes, calling, finalising, call}
use Rattle.golf_code_facts.specs.Facts.{type_of_value, operand_in, type_in, next_is, skip}
use Rattle.golf_code_facts.specs.Expressions.{Take, taking, taking_step, element_taking_step, arguments, pieces}
use Rattle.golf_code_expressions.specs.declared.places.LeftSide.TheVariants as place
use Rattle.golf_code_expressions.specs.declared.writer.Draft.{Draft}
use Rattle.golf_code_expressions.specs.declared.writer.Writer.{Writer}
use Rattle.golf_code_expressions.specs.WriterClauses.{with_piece, Extends}
use Rattle.golf_code_expressions.specs.Places.{HasLeftSide}

module _ (t : Tables) (l : ℕ) where
  abbrev P : Expr → Type 0
  P e = taking t e l [] ≡ only Piece.Empty

  abbrev Q : Element → Type 0
  Q x = Unit {0}

  rolled : (z : Expr-F Expr Element) → P (roll-Expr z)
  unfolding taking
  rolled z = ap (λ (k : Take). k l []) (fold-roll-Expr Take Take (taking_step t) element_taking_step z)

  -- if facts are missing there is no code
  pub no_facts : (e : Expr) → P e
  no_facts = ind-Expr P Q (λ x y is. rolled x) (λ x y is. tt)

  -- as many pieces as expressions
  pub as_many : (xs : List Expr) (fs : List Fact) → length (arguments l (map (taking t) xs) fs) ≡ length xs
  as_many [] fs = refl
  as_many (x ∷ xs) fs = ap (λ n. suc n) (as_many xs (skip fs))

  pieces_as_many : (xs : List Expr) (fs : List Fact) → length (pieces (arguments l (map (taking t) xs) fs)) ≡ length xs
  pieces_as_many [] fs = refl
  pieces_as_many (x ∷ xs) fs = ap (λ n. suc n) (pieces_as_many xs (skip fs))

  module _ (m : Fact) (fs : List Fact) where
    taking-Call : (f : Expr) (xs : List Expr)
        → taking t (ex.Call f xs) l (m ∷ fs) ≡ call l (next_is fs) (taking t f l fs).piece
        (arguments l (map (taking t) xs) (skip fs))
    unfolding taking
    taking-Call f xs = ap (λ (k : Take). k l (m ∷ fs))
        (ap (taking t) (sym (ex.rolls-Call f xs))
        ∙ fold-roll-Expr Take Take (taking_step t) element_taking_step (F.Call f xs))

    -- a call that sets a finaliser
    pub call_is : (e f : Expr) (xs ys : List Expr) → e ≡ ex.Call f xs → ys ≡ xs → sets_finaliser (next_is fs) ≡ true
        → finalising l (arguments l (map (taking t) ys) (skip fs)) ≡ (taking t e l (m ∷ fs)).piece
    call_is e f xs ys is also sets =
        ap (λ zs. finalising l (arguments l (map (taking t) zs) (skip fs))) also
        ∙ (ap (λ c. cond c (finalising l (arguments l (map (taking t) xs) (skip fs)))
        (all ((taking t f l fs).piece ∷ pushes (arguments l (map (taking t) xs) (skip fs))
        ∷ calling l (next_is fs) (length (arguments l (map (taking t) xs) (skip fs))) ∷ []))) (sym sets)
        ∙ sym (ap (λ z. (taking t z l (m ∷ fs)).piece) is ∙ ap (λ (x : Made). x.piece) (taking-Call f xs)))

    taking-Slice : (w : TypeExpr) (xs : List Expr)
        → taking t (ex.SliceLiteral w xs) l (m ∷ fs) ≡ slice_literal l (type_in m)
        (pieces (arguments l (map (taking t) xs) fs))
    unfolding taking
    taking-Slice w xs = ap (λ (k : Take). k l (m ∷ fs))
        (ap (taking t) (sym (ex.rolls-SliceLiteral w xs))
        ∙ fold-roll-Expr Take Take (taking_step t) element_taking_step (F.SliceLiteral w xs))

    pub slice_is : (e : Expr) (w : TypeExpr) (xs ys : List Expr) (o : Operand) → e ≡ ex.SliceLiteral w xs → ys ≡ xs
        → o ≡ operand_in m
        → all (op l (Instr.Int (pos (length ys))) ∷ op l (makes (type_of_value o))
        ∷ elements l 0 (pieces (arguments l (map (taking t) ys) fs)) ∷ []) ≡ (taking t e l (m ∷ fs)).piece
    slice_is e w xs ys o is also same =
        ap (λ n. all (op l (Instr.Int (pos n)) ∷ op l (makes (type_of_value o))
        ∷ elements l 0 (pieces (arguments l (map (taking t) ys) fs)) ∷ [])) (sym (pieces_as_many ys fs))
        ∙ ap (λ k. (slice_literal l (type_of_value k) (pieces (arguments l (map (taking t) ys) fs))).piece) same
        ∙ ap (λ zs. (slice_literal l (type_in m) (pieces (arguments l (map (taking t) zs) fs))).piece) also
        ∙ sym (ap (λ z. (taking t z l (m ∷ fs)).piece) is ∙ ap (λ (x : Made). x.piece) (taking-Slice w xs))

-- a piece is added whatever facts come next
pub skipped_over : {A : Type 0} (r : Result A Memory) (p : Piece) (old new : Writer) (fs : List Fact)
    → Extends r p (record { facts = fs; draft = old.draft }) new → Extends r p old new
skipped_over (Ok a) p old new fs h = h
skipped_over (Err e) p old new fs h = tt

-- Where facts are missing nothing is written.

abbrev written : List Fact → Draft → Writer
written fs d = record { facts = fs; draft = d }

pub none_written : (l : ℕ) (e : Expr) (w : Writer) → w.facts ≡ []
    → w.draft ≡ with_piece w.draft (taking w.draft.tables.now e l w.facts).piece
none_written l e w none =
    let t = w.draft.tables.now in
    ap (λ (x : Made). with_piece w.draft x.piece) (sym (no_facts t l e))
    ∙ ap (λ fs. with_piece w.draft (taking t e l fs).piece) (sym none)

pub no_place : (l : ℕ) (e : Expr) (w : Writer) (left : List Fact) → w.facts ≡ [] → left ≡ []
    → HasLeftSide l place.Nothing (taking w.draft.tables.now e l w.facts)
    × (written left w.draft ≡ written (skip w.facts)
    (with_piece w.draft (taking w.draft.tables.now e l w.facts).parts))
no_place l e w left none h =
    let t = w.draft.tables.now in
    let same : taking t e l w.facts ≡ only Piece.Empty = ap (taking t e l) none ∙ no_facts t l e in (
      subst (λ (x : Made). HasLeftSide l place.Nothing x) (sym same)
          (record { twice = refl; read = refl; store = refl }),
      ap (λ fs. written fs w.draft) h
          ∙ ap (λ fs. written (skip fs) w.draft) (sym none)
          ∙ ap (λ (x : Made). written (skip w.facts) (with_piece w.draft x.parts)) (sym same),
    )
