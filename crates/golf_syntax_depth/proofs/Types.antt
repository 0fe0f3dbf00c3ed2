-- A written type rises by its depth over its words.
-- For: Exprs, Simples, Files
-- By: induction over the tree of a type
use Rattle.std.proofs.Common.{ℕ, ◌+◌, List, [], ◌∷◌, refl, sym, subst, arith}
use Rattle.std.proofs.Math.Nat.{le-max_right}
use Rattle.golf_lex_tokens.specs.declared.token.Punctuation.TheVariants as punctuations
use Rattle.golf_lex_tokens.specs.declared.token.Keyword.TheVariants as keywords
use Rattle.golf_syntax_trees.specs.declared.types.TypeExpr.{TypeExpr, roll-TypeExpr}
use Rattle.golf_syntax_trees.specs.declared.types.TypeExpr.TheOpen as F
use Rattle.golf_syntax_trees.specs.declared.types.TypeExpr.TheFolds.{fold-roll-TypeExpr, map-TypeExpr}
use Rattle.golf_syntax_trees.proofs.TypeInduction.{TypeLayer, bare_type, every-type}
use Rattle.golf_syntax_trees.specs.Words.{Word, punctuation, keyword, name}
use Rattle.golf_syntax_trees.specs.Types.{sync, print_type_step, print_type}
use Rattle.golf_syntax_depth.specs.Depths.{type_depth_step, type_depth}
use Rattle.golf_syntax_depth.proofs.Peaks.{Adds, nothing, one, less, loose, word-before, both, bracketed}

abbrev P : TypeExpr → Type 0
P t = Adds (print_type t) (type_depth t)

at : (y : TypeLayer P) → Adds (print_type_step (map-TypeExpr TypeExpr (List Word) print_type (bare_type P y)))
    (type_depth_step (map-TypeExpr TypeExpr ℕ type_depth (bare_type P y)))
at (F.Named n) = one (name n) (λ c cs. refl)
at (F.Pointer n) = less 1 (omega arith) (word-before (punctuation punctuations.Star) (name n ∷ []) (λ c cs. refl)
    (one (name n) (λ c cs. refl)))
at (F.SyncPointer n) =
    less 1 (omega arith)
    (word-before (punctuation punctuations.Star) (name sync ∷ punctuation punctuations.Dot ∷ name n ∷ []) (λ c cs. refl)
    (word-before (name sync) (punctuation punctuations.Dot ∷ name n ∷ []) (λ c cs. refl)
    (word-before (punctuation punctuations.Dot) (name n ∷ []) (λ c cs. refl)
    (one (name n) (λ c cs. refl)))))
at (F.Slice t) =
    less (1 + type_depth t.0) (le-max_right (1 + 0) (1 + type_depth t.0))
    (both 1 (punctuation punctuations.OpenBracket ∷ punctuation punctuations.CloseBracket ∷ []) (print_type t.0)
    (bracketed (punctuation punctuations.OpenBracket) (punctuation punctuations.CloseBracket) [] (λ c cs. refl)
    (λ k c cs. refl) (loose nothing)) (omega arith) t.1)
at (F.Chan t) = word-before (keyword keywords.Chan) (print_type t.0) (λ c cs. refl) t.1
at (F.SendChan t) =
    less (1 + type_depth t.0) (omega arith)
    (word-before (keyword keywords.Chan) (punctuation punctuations.Arrow ∷ print_type t.0) (λ c cs. refl)
    (word-before (punctuation punctuations.Arrow) (print_type t.0) (λ c cs. refl) t.1))
at (F.ReceiveChan t) =
    less (1 + type_depth t.0) (omega arith)
    (word-before (punctuation punctuations.Arrow) (keyword keywords.Chan ∷ print_type t.0) (λ c cs. refl)
    (word-before (keyword keywords.Chan) (print_type t.0) (λ c cs. refl) t.1))
at F.EmptyStruct =
    less 1 (omega arith)
    (word-before (keyword keywords.Struct)
    (punctuation punctuations.OpenBrace ∷ punctuation punctuations.CloseBrace ∷ []) (λ c cs. refl)
    (bracketed (punctuation punctuations.OpenBrace) (punctuation punctuations.CloseBrace) [] (λ c cs. refl)
    (λ k c cs. refl) (loose nothing)))

rolled : (y : TypeLayer P) → P (roll-TypeExpr (bare_type P y))
rolled y =
    subst (λ ws. Adds ws (type_depth (roll-TypeExpr (bare_type P y))))
    (sym (fold-roll-TypeExpr (List Word) print_type_step (bare_type P y)))
    (subst (Adds (print_type_step (map-TypeExpr TypeExpr (List Word) print_type (bare_type P y))))
    (sym (fold-roll-TypeExpr ℕ type_depth_step (bare_type P y))) (at y))

pub type-adds : (t : TypeExpr) → Adds (print_type t) (type_depth t)
type-adds = every-type P rolled
