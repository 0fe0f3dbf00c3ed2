-- The code of every expression is small beside its words: one step for each kind of expression.
-- For: `bodies_are_small`, src/lib.rt
-- By: induction over the tree of an expression
use Rattle.std.proofs.Common.{◌≡◌, ℕ, ◌*◌, ◌≤◌, List, [], ◌∷◌, ◌++◌, length, map, refl, sym, ap, subst, arith}
use Rattle.std.proofs.Common.{length-append}
use Rattle.golf_lex_tokens.specs.declared.token.Punctuation.TheVariants as punctuations
use Rattle.golf_syntax_trees.specs.declared.expressions.Expr.{Expr, roll-Expr}
use Rattle.golf_syntax_trees.specs.declared.expressions.Element.{Element}
use Rattle.golf_syntax_trees.specs.declared.expressions.Expr.TheOpen as F
use Rattle.golf_syntax_trees.specs.declared.expressions.Expr.TheFolds.{fold-roll-Expr, map-Expr}
use Rattle.golf_syntax_trees.proofs.ExpressionInduction.{KnownExpr, KnownElement, bare_exprs, bare_elements, ExprLayer}
use Rattle.golf_syntax_trees.proofs.ExpressionInduction.{bare_expr, every-expr, fold-element}
use Rattle.golf_syntax_trees.specs.Words.{Word, punctuation, separated, name as word_name}
use Rattle.golf_syntax_trees.specs.Types.{print_type}
use Rattle.golf_syntax_trees.specs.Expressions.{binary_punctuation, print_step, print_element_step, print_expr}
use Rattle.golf_syntax_trees.specs.Expressions.{print_element}
use Rattle.golf_check_types.specs.declared.types.Layer.TheVariants as layer
use Rattle.golf_check_types.specs.declared.scopes.Scope.{Scope}
use Rattle.golf_check_types.specs.Types.{with_layer}
use Rattle.golf_check_types.specs.Scopes.{meaning}
use Rattle.golf_check_types.specs.Written.{write_at, pointer_to, made_base}
use Rattle.golf_check_types.specs.Expressions.{named, selected_from}
use Rattle.golf_code_layout.specs.Piece.{Piece, size, all}
use Rattle.golf_code_of.specs.declared.tables.Tables.{Tables}
use Rattle.golf_code_of.specs.Calls.{ArgumentCode}
use Rattle.golf_code_of.specs.ExpressionCode.{Coded, CodedPut, coded, argument}
use Rattle.golf_code_of.proofs.ExprCodes.{element_coded, element-coded-is, coded_layer, coded-rolls}
use Rattle.golf_code_places.proofs.Words.{total, separated-length}
use Rattle.golf_code_places.proofs.Small.{Small, alone, on-name, Beside, all-small, on-struct-literal, on-slice-literal}
use Rattle.golf_code_places.proofs.Small.{on-new-sync, on-selector, on-index, on-unary, on-binary, on-call}

module _ (t : Tables) where
  abbrev P : Expr → Type 0
  P e = (l : ℕ) (s : Scope) → Small (length (print_expr e)) ((coded t e).code l s)

  element-print-is : (x : Element) → print_element x ≡ print_element_step
      (record { field = x.field; value = print_expr x.value })
  element-print-is = fold-element (List Word) (List Word) print_step print_element_step

  module _ (l : ℕ) (s : Scope) where
    abbrev words : List (KnownExpr P) → List (List Word)
    words xs = map print_expr (bare_exprs P xs)

    abbrev pieces : List (KnownExpr P) → List Piece
    pieces xs = map (λ (c : Coded). (c.code l s).piece) (map (coded t) (bare_exprs P xs))

    beside : (xs : List (KnownExpr P)) → Beside (pieces xs) (words xs)
    beside [] = tt
    beside (x ∷ xs) = ((x.1 l s).piece, beside xs)

    pushed-are : (xs : List (KnownExpr P))
        → map (λ (a : ArgumentCode). a.piece) (map (argument l s) (map (coded t) (bare_exprs P xs))) ≡ pieces xs
    pushed-are [] = refl
    pushed-are (x ∷ xs) = ap (λ ps. ((coded t x.0).code l s).piece ∷ ps) (pushed-are xs)

    abbrev element-words : List (KnownElement P) → List (List Word)
    element-words xs = map print_element (bare_elements P xs)

    abbrev element-pieces : List (KnownElement P) → List Piece
    element-pieces xs = map (λ (c : CodedPut). (c.value.code l s).piece) (map (element_coded t) (bare_elements P xs))

    element-beside : (xs : List (KnownElement P)) → Beside (element-pieces xs) (element-words xs)
    element-beside [] = tt
    element-beside (x ∷ xs) =
        let one = (x.1 l s).piece in
        let print = ap length (element-print-is x.0) in
        let code = ap (λ (c : CodedPut). size (c.value.code l s).piece) (element-coded-is t x.0) in
        (omega (arith, one, print, code), element-beside xs)

    at : (y : ExprLayer P) → Small (length
        (print_step (map-Expr Expr Element (List Word) (List Word) print_expr print_element (bare_expr P y))))
        ((coded_layer t (bare_expr P y)).code l s)
    at (F.Name n) = on-name l t (named l s n).meaning
    at (F.Parens e) =
        let h = e.1 l s in
        let w = length-append (print_expr e.0) (punctuation punctuations.CloseParen ∷ []) in
        record { piece = omega (arith, h.piece, w); place = omega (arith, h.place, w) }
    at (F.StructLiteral n xs) =
        let few = separated-length punctuations.Comma (element-words xs) in
        let w = length-append (separated punctuations.Comma (element-words xs))
        (punctuation punctuations.CloseBrace ∷ []) in
        on-struct-literal l s.file (pointer_to (meaning s n)) _ (element-pieces xs) (element-words xs) _
        (element-beside xs) (omega (arith, few, w))
    at (F.SyncLiteral n) = on-new-sync l (made_base n) _ (omega arith)
    at (F.SliceLiteral w xs) =
        let few = separated-length punctuations.Comma (words xs) in
        let behind = length-append (separated punctuations.Comma (words xs))
        (punctuation punctuations.CloseBrace ∷ []) in
        let type = length-append (print_type w)
        (punctuation punctuations.OpenBrace ∷ (separated punctuations.Comma (words xs)
        ++ punctuation punctuations.CloseBrace ∷ [])) in
        on-slice-literal l (with_layer layer.Slice (write_at l s w).type) (pieces xs) (words xs) _ (beside xs)
        (omega (arith, few, behind, type))
    at (F.MakeSized w e) =
        let h = (e.1 l s).piece in
        let inner = length-append (print_type w) (punctuation punctuations.Comma ∷ print_expr e.0) in
        let whole = length-append (print_type w ++ punctuation punctuations.Comma ∷ print_expr e.0)
        (punctuation punctuations.CloseParen ∷ []) in
        alone _ _ (omega (arith, h, inner, whole))
    at (F.NewSync n) = on-new-sync l (made_base n) _ (omega arith)
    at (F.Selector e n) = on-selector l (selected_from l s.file n ((coded t e.0).judge l s).meaning).meaning
        ((coded t e.0).code l s) _ _ (e.1 l s)
        (let w = length-append (print_expr e.0) (punctuation punctuations.Dot ∷ word_name n ∷ []) in omega (arith, w))
    at (F.Index a i) =
        let inner = length-append (print_expr i.0) (punctuation punctuations.CloseBracket ∷ []) in
        let whole = length-append (print_expr a.0)
        (punctuation punctuations.OpenBracket ∷ (print_expr i.0 ++ punctuation punctuations.CloseBracket ∷ [])) in
        on-index l ((coded t a.0).code l s) ((coded t i.0).code l s) _ _ _ (a.1 l s) (i.1 l s)
        (omega (arith, inner, whole))
    at (F.Call f xs) =
        let few = separated-length punctuations.Comma (words xs) in
        let inner = length-append (separated punctuations.Comma (words xs))
        (punctuation punctuations.CloseParen ∷ []) in
        let whole = length-append (print_expr f.0)
        (punctuation punctuations.OpenParen ∷ (separated punctuations.Comma (words xs)
        ++ punctuation punctuations.CloseParen ∷ [])) in
        let args = subst (λ ps. size (all ps) ≤ 8 * total (words xs)) (sym (pushed-are xs))
        (all-small (pieces xs) (words xs) (beside xs)) in
        on-call l ((coded t f.0).judge l s).meaning ((coded t f.0).code l s) _ (words xs) _ _ (f.1 l s) args
        (omega (arith, few, inner, whole))
    at (F.Unary o e) = on-unary l o ((coded t e.0).code l s) _ _ (e.1 l s) (omega arith)
    at (F.Binary o a b) =
        let whole = length-append (print_expr a.0) (punctuation (binary_punctuation o) ∷ print_expr b.0) in
        on-binary l o ((coded t a.0).code l s) ((coded t b.0).code l s) _ _ _ (a.1 l s) (b.1 l s) (omega (arith, whole))
    at _ = alone _ _ (omega arith)

  rolled : (y : ExprLayer P) → P (roll-Expr (bare_expr P y))
  rolled y l s =
      subst (λ ws. Small (length ws) ((coded t (roll-Expr (bare_expr P y))).code l s))
      (sym (fold-roll-Expr (List Word) (List Word) print_step print_element_step (bare_expr P y)))
      (subst (λ (c : Coded). Small (length (print_step
      (map-Expr Expr Element (List Word) (List Word) print_expr print_element (bare_expr P y)))) (c.code l s))
      (sym (coded-rolls t (bare_expr P y))) (at l s y))

  pub expr-small : (e : Expr) → P e
  expr-small = every-expr P rolled
