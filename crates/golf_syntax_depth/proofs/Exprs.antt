-- An expression rises by its depth over its words.
-- For: Simples, Stmts
-- By: induction over the tree of an expression
use Rattle.std.proofs.Common.{◌≡◌, ℕ, ◌+◌, ◌≤◌, max, List, [], ◌∷◌, ◌++◌, map, refl, sym, subst, arith}
use Rattle.std.proofs.Math.Nat.{le-max_left, le-max_right, max-le}
use Rattle.golf_lex_tokens.specs.declared.token.TokenKind.TheVariants as kinds
use Rattle.golf_lex_tokens.specs.declared.token.Punctuation.TheVariants as punctuations
use Rattle.golf_lex_tokens.specs.declared.token.Keyword.TheVariants as keywords
use Rattle.golf_syntax_trees.specs.declared.expressions.UnaryOperator.{UnaryOperator}
use Rattle.golf_syntax_trees.specs.declared.expressions.UnaryOperator.TheVariants as unary
use Rattle.golf_syntax_trees.specs.declared.expressions.BinaryOperator.{BinaryOperator}
use Rattle.golf_syntax_trees.specs.declared.expressions.BinaryOperator.TheVariants as binary
use Rattle.golf_syntax_trees.specs.declared.expressions.Expr.{Expr, roll-Expr}
use Rattle.golf_syntax_trees.specs.declared.expressions.Element.{Element}
use Rattle.golf_syntax_trees.specs.declared.expressions.Expr.TheOpen as F
use Rattle.golf_syntax_trees.specs.declared.expressions.Expr.TheFolds.{fold-Element, fold-roll-Expr, map-Expr}
use Rattle.golf_syntax_trees.proofs.ExpressionInduction.{KnownExpr, KnownElement, bare_exprs, bare_elements, ExprLayer}
use Rattle.golf_syntax_trees.proofs.ExpressionInduction.{bare_expr, every-expr, fold-element}
use Rattle.golf_syntax_trees.specs.Words.{Word, word, punctuation, keyword, name, separated}
use Rattle.golf_syntax_trees.specs.Types.{sync, print_type}
use Rattle.golf_syntax_trees.specs.Expressions.{make, new, unary_punctuation, binary_punctuation, parens, braces}
use Rattle.golf_syntax_trees.specs.Expressions.{print_step, print_element_step, print_expr, print_element}
use Rattle.golf_syntax_depth.specs.Depths.{largest, type_depth, depth_step, element_depth_step, depth}
use Rattle.golf_syntax_depth.proofs.Peaks.{Adds, Rises, AllRise, Plain, Separates, empty, one, less, loose, both}
use Rattle.golf_syntax_depth.proofs.Peaks.{joined, word-before, plain-before, bracketed, separator-before}
use Rattle.golf_syntax_depth.proofs.Peaks.{separated-rises}
use Rattle.golf_syntax_depth.proofs.Types.{type-adds}

comma : Separates (punctuation punctuations.Comma)
comma c cs = refl

pub in-parens : (ws : List Word) {d : ℕ} → Rises ws d → Adds (parens ws []) (1 + d)
in-parens ws = bracketed (punctuation punctuations.OpenParen) (punctuation punctuations.CloseParen) ws (λ c cs. refl)
    (λ k c cs. refl)

pub in-braces : (ws : List Word) {d : ℕ} → Rises ws d → Adds (braces ws []) (1 + d)
in-braces ws = bracketed (punctuation punctuations.OpenBrace) (punctuation punctuations.CloseBrace) ws (λ c cs. refl)
    (λ k c cs. refl)

abbrev in-square : (ws : List Word) {d : ℕ} → Rises ws d
    → Adds (punctuation punctuations.OpenBracket ∷ (ws ++ punctuation punctuations.CloseBracket ∷ [])) (1 + d)
in-square ws = bracketed (punctuation punctuations.OpenBracket) (punctuation punctuations.CloseBracket) ws
    (λ c cs. refl) (λ k c cs. refl)

unary-plain : (o : UnaryOperator) → Plain (punctuation (unary_punctuation o))
unary-plain unary.Negate c cs = refl
unary-plain unary.Not c cs = refl
unary-plain unary.Receive c cs = refl

binary-plain : (o : BinaryOperator) → Plain (punctuation (binary_punctuation o))
binary-plain binary.Or c cs = refl
binary-plain binary.And c cs = refl
binary-plain binary.Equal c cs = refl
binary-plain binary.NotEqual c cs = refl
binary-plain binary.Less c cs = refl
binary-plain binary.AtMost c cs = refl
binary-plain binary.Greater c cs = refl
binary-plain binary.AtLeast c cs = refl
binary-plain binary.Add c cs = refl
binary-plain binary.Subtract c cs = refl
binary-plain binary.Multiply c cs = refl
binary-plain binary.Divide c cs = refl
binary-plain binary.Remainder c cs = refl

-- a text after a left operand: as deep as the operand, or as what stands after it
pub after-left : (xs ys : List Word) {d e : ℕ} → Adds xs d → Adds ys e → Adds (xs ++ ys) (max d e)
after-left xs ys {d} {e} a b =
    let same : e ≡ 0 + e = omega arith in
    less (max d e) (subst (λ m. max d e ≤ max d m) same (omega arith)) (both 0 xs ys a (omega arith) b)

-- a text and one after it, as deep as the second one
last : (xs ys : List Word) {d e : ℕ} → Adds xs d → Adds ys e → Adds (xs ++ ys) e
last xs ys {d} {e} a b = less e (le-max_right d e) (after-left xs ys a b)

abbrev P : Expr → Type 0
P e = Adds (print_expr e) (depth e)

abbrev element_depth : Element → ℕ
element_depth = fold-Element ℕ ℕ depth_step element_depth_step

arguments : (xs : List (KnownExpr P)) → AllRise (map print_expr (bare_exprs P xs)) (map depth (bare_exprs P xs))
arguments [] = tt
arguments (x ∷ xs) = (loose x.1, arguments xs)

element : (x : KnownElement P) → Rises (print_element x.0) (element_depth x.0)
element x =
    subst (λ ws. Rises ws (element_depth x.0))
    (sym (fold-element (List Word) (List Word) print_step print_element_step x.0))
    (subst (Rises (print_element_step (record { field = x.0.field; value = print_expr x.0.value })))
    (sym (fold-element ℕ ℕ depth_step element_depth_step x.0))
    (plain-before (name x.0.field) (punctuation punctuations.Colon ∷ print_expr x.0.value) (λ c cs. refl)
    (plain-before (punctuation punctuations.Colon) (print_expr x.0.value) (λ c cs. refl) (loose x.1))))

elements : (xs : List (KnownElement P)) → AllRise (map print_element (bare_elements P xs))
    (map element_depth (bare_elements P xs))
elements [] = tt
elements (x ∷ xs) = (element x, elements xs)

two-words : (v w : Word) → Plain v → Plain w → Adds (v ∷ w ∷ []) 1
two-words v w p q = less 1 (omega arith) (word-before v (w ∷ []) p (one w q))

at : (y : ExprLayer P) → Adds (print_step
    (map-Expr Expr Element (List Word) (List Word) print_expr print_element (bare_expr P y)))
    (depth_step (map-Expr Expr Element ℕ ℕ depth element_depth (bare_expr P y)))
at (F.Integer digits) = one (word (kinds.Integer digits)) (λ c cs. refl)
at (F.Text bytes) = one (word (kinds.Text bytes)) (λ c cs. refl)
at (F.Name n) = one (name n) (λ c cs. refl)
at (F.Parens e) = in-parens (print_expr e.0) (loose e.1)
at (F.StructLiteral n xs) =
    last (punctuation punctuations.Ampersand ∷ name n ∷ [])
    (braces (separated punctuations.Comma (map print_element (bare_elements P xs))) [])
    (two-words (punctuation punctuations.Ampersand) (name n) (λ c cs. refl) (λ c cs. refl))
    (in-braces (separated punctuations.Comma (map print_element (bare_elements P xs)))
    (separated-rises punctuations.Comma comma _ _ (elements xs)))
at (F.SyncLiteral n) =
    less 1 (omega arith)
    (word-before (punctuation punctuations.Ampersand) (name sync ∷ punctuation punctuations.Dot ∷ name n ∷ braces [] [])
    (λ c cs. refl)
    (word-before (name sync) (punctuation punctuations.Dot ∷ name n ∷ braces [] []) (λ c cs. refl)
    (word-before (punctuation punctuations.Dot) (name n ∷ braces [] []) (λ c cs. refl)
    (word-before (name n) (braces [] []) (λ c cs. refl) (in-braces [] empty)))))
at (F.SliceLiteral t xs) =
    less (1 + max (type_depth t) (largest (map depth (bare_exprs P xs))))
    (slice-bound (type_depth t) (largest (map depth (bare_exprs P xs))))
    (both 1 (punctuation punctuations.OpenBracket ∷ punctuation punctuations.CloseBracket ∷ [])
    (print_type t ++ braces (separated punctuations.Comma (map print_expr (bare_exprs P xs))) [])
    (in-square [] empty) (omega arith)
    (after-left (print_type t) (braces (separated punctuations.Comma (map print_expr (bare_exprs P xs))) [])
    (type-adds t)
    (in-braces (separated punctuations.Comma (map print_expr (bare_exprs P xs)))
    (separated-rises punctuations.Comma comma _ _ (arguments xs)))))
  where
    slice-bound : (d e : ℕ) → 1 + max d e ≤ max 1 (1 + max d (1 + e))
    slice-bound d e =
        let outer = le-max_right 1 (1 + max d (1 + e)) in
        let first = le-max_left d (1 + e) in
        let second = le-max_right d (1 + e) in
        let inner : max d e ≤ max d (1 + e) = max-le first (omega (arith, second)) in
        omega (arith, outer, inner)
at F.EmptyLiteral =
    less 1 (omega arith)
    (word-before (keyword keywords.Struct) (braces [] (braces [] [])) (λ c cs. refl)
    (last (braces [] []) (braces [] []) (in-braces [] empty) (in-braces [] empty)))
at (F.Make t) =
    last (name make ∷ []) (parens (print_type t) []) (one (name make) (λ c cs. refl))
    (in-parens (print_type t) (loose (type-adds t)))
at (F.MakeSized t e) =
    last (name make ∷ []) (parens (print_type t ++ punctuation punctuations.Comma ∷ print_expr e.0) [])
    (one (name make) (λ c cs. refl))
    (in-parens (print_type t ++ punctuation punctuations.Comma ∷ print_expr e.0)
    (joined (print_type t) (punctuation punctuations.Comma ∷ print_expr e.0) (loose (type-adds t))
    (separator-before (punctuation punctuations.Comma) (print_expr e.0) comma (loose e.1))))
at (F.New n) =
    last (name new ∷ []) (parens (name n ∷ []) []) (one (name new) (λ c cs. refl))
    (less 1 (omega arith) (in-parens (name n ∷ []) (loose (one (name n) (λ c cs. refl)))))
at (F.NewSync n) =
    last (name new ∷ []) (parens (name sync ∷ punctuation punctuations.Dot ∷ name n ∷ []) [])
    (one (name new) (λ c cs. refl))
    (less 1 (omega arith) (in-parens (name sync ∷ punctuation punctuations.Dot ∷ name n ∷ [])
    (loose (word-before (name sync) (punctuation punctuations.Dot ∷ name n ∷ []) (λ c cs. refl)
    (two-words (punctuation punctuations.Dot) (name n) (λ c cs. refl) (λ c cs. refl))))))
at (F.Selector e n) =
    less (depth e.0) (le-max_left (depth e.0) 1)
    (after-left (print_expr e.0) (punctuation punctuations.Dot ∷ name n ∷ []) e.1
    (two-words (punctuation punctuations.Dot) (name n) (λ c cs. refl) (λ c cs. refl)))
at (F.Index e i) =
    after-left (print_expr e.0) (punctuation punctuations.OpenBracket
    ∷ (print_expr i.0 ++ punctuation punctuations.CloseBracket ∷ [])) e.1 (in-square (print_expr i.0) (loose i.1))
at (F.Call f xs) =
    after-left (print_expr f.0) (parens (separated punctuations.Comma (map print_expr (bare_exprs P xs))) []) f.1
    (in-parens (separated punctuations.Comma (map print_expr (bare_exprs P xs)))
    (separated-rises punctuations.Comma comma _ _ (arguments xs)))
at (F.Unary o e) = word-before (punctuation (unary_punctuation o)) (print_expr e.0) (unary-plain o) e.1
at (F.Binary o a b) =
    after-left (print_expr a.0) (punctuation (binary_punctuation o) ∷ print_expr b.0) a.1
    (word-before (punctuation (binary_punctuation o)) (print_expr b.0) (binary-plain o) b.1)

rolled : (y : ExprLayer P) → P (roll-Expr (bare_expr P y))
rolled y =
    subst (λ ws. Adds ws (depth (roll-Expr (bare_expr P y))))
    (sym (fold-roll-Expr (List Word) (List Word) print_step print_element_step (bare_expr P y)))
    (subst (Adds (print_step (map-Expr Expr Element (List Word) (List Word) print_expr print_element (bare_expr P y))))
    (sym (fold-roll-Expr ℕ ℕ depth_step element_depth_step (bare_expr P y))) (at y))

pub expr-adds : (e : Expr) → Adds (print_expr e) (depth e)
expr-adds = every-expr P rolled

pub all-rise : (xs : List Expr) → AllRise (map print_expr xs) (map depth xs)
all-rise [] = tt
all-rise (x ∷ xs) = (loose (expr-adds x), all-rise xs)

pub arguments-rise : (xs : List Expr) → Rises (separated punctuations.Comma (map print_expr xs))
    (largest (map depth xs))
arguments-rise xs = separated-rises punctuations.Comma comma (map print_expr xs) (map depth xs) (all-rise xs)
