-- A file rises by its depth over its words, and so over the cost of its tokens.
-- For: `depth_is_within_cost`, `files_are_shallow`, src/lib.rt
-- By: cases of declarations; induction over words and tokens
use Rattle.std.proofs.Common.{◌≡◌, ℕ, ◌≤◌, max, Bool, true, false, cond, nat_lt, List, [], ◌∷◌, ◌++◌, sum, map, refl}
use Rattle.std.proofs.Common.{sym, ap, subst, arith, append_assoc, true≢false}
use Rattle.std.proofs.lemmas.Bool.{ltb-false}
use Rattle.std.proofs.Math.Nat.{le-max_left, le-max_right, max-le, zero-max}
use Rattle.golf_lex_tokens.specs.declared.token.Token.{Token}
use Rattle.golf_lex_tokens.specs.declared.token.TokenKind.TheVariants as kinds
use Rattle.golf_lex_tokens.specs.declared.token.Punctuation.TheVariants as punctuations
use Rattle.golf_lex_tokens.specs.declared.token.Keyword.TheVariants as keywords
use Rattle.golf_lex_tokens.specs.Cost.{counted, costs_from, costs}
use Rattle.golf_syntax_trees.specs.declared.declarations.Const.{Const}
use Rattle.golf_syntax_trees.specs.declared.declarations.Const.TheVariants as const
use Rattle.golf_syntax_trees.specs.declared.declarations.Import.{Import}
use Rattle.golf_syntax_trees.specs.declared.declarations.Import.TheVariants as imports
use Rattle.golf_syntax_trees.specs.declared.declarations.Field.{Field}
use Rattle.golf_syntax_trees.specs.declared.declarations.Receiver.{Receiver}
use Rattle.golf_syntax_trees.specs.declared.declarations.Func.{Func}
use Rattle.golf_syntax_trees.specs.declared.declarations.Decl.{Decl}
use Rattle.golf_syntax_trees.specs.declared.declarations.Decl.TheVariants as d
use Rattle.golf_syntax_trees.specs.declared.declarations.File.{File}
use Rattle.golf_syntax_trees.specs.Words.{Word, word, punctuation, keyword, name, behind, separated, closed}
use Rattle.golf_syntax_trees.specs.Words.{SpellsWords}
use Rattle.golf_syntax_trees.specs.declared.types.TypeExpr.{TypeExpr}
use Rattle.golf_syntax_trees.specs.Types.{print_type}
use Rattle.golf_syntax_trees.specs.Expressions.{parens, braces}
use Rattle.golf_syntax_trees.specs.Simple.{optional}
use Rattle.golf_syntax_trees.specs.Statements.{print_block, print_stmt}
use Rattle.golf_syntax_trees.specs.Declarations.{print_const, text, print_import, print_field, print_receiver}
use Rattle.golf_syntax_trees.specs.Declarations.{print_func, print_decl, package_words, print_file}
use Rattle.golf_syntax_trees.specs.Reads.{most, no_counts, is_affordable}
use Rattle.golf_syntax_depth.specs.Depths.{largest, of_option, type_depth, stmt_depth, field_depth, func_depth}
use Rattle.golf_syntax_depth.specs.Depths.{decl_depth, file_depth}
use Rattle.golf_syntax_depth.specs.Laws.{DepthIsWithinCost, FilesAreShallow}
use Rattle.golf_syntax_depth.proofs.Peaks.{Rises, AllRise, Separates, peak, empty, lower, loose, joined, plain-before}
use Rattle.golf_syntax_depth.proofs.Peaks.{separator, behind-rises, separated-rises, closed-rises, on-line}
use Rattle.golf_syntax_depth.proofs.Types.{type-adds}
use Rattle.golf_syntax_depth.proofs.Exprs.{in-parens, in-braces}
use Rattle.golf_syntax_depth.proofs.Simples.{var-rises, optional-rises}
use Rattle.golf_syntax_depth.proofs.Stmts.{block-rises, all-stmts-rise}

comma : Separates (punctuation punctuations.Comma)
comma c cs = refl

semicolon : Separates (punctuation punctuations.Semicolon)
semicolon c cs = refl

none-deep : (xs : List (List ℕ)) → AllRise (map (λ n. name n ∷ []) xs) (map (λ n. 0) xs)
none-deep [] = tt
none-deep (x ∷ xs) = (plain-before (name x) [] (λ c cs. refl) empty, none-deep xs)

type-rises : (t : TypeExpr) → Rises (print_type t) (type_depth t)
type-rises t = loose (type-adds t)

field-rises : (f : Field) → Rises (print_field f) (field_depth f)
field-rises f =
    plain-before (name f.first) (behind punctuations.Comma (map (λ n. name n ∷ []) f.more) ++ print_type f.of_type)
    (λ c cs. refl)
    (lower (type_depth f.of_type) (le-max_right (largest (map (λ n. 0) f.more)) (type_depth f.of_type))
    (joined (behind punctuations.Comma (map (λ n. name n ∷ []) f.more)) (print_type f.of_type)
    (behind-rises punctuations.Comma comma _ _ (none-deep f.more)) (type-rises f.of_type)))

fields-rise : (fs : List Field) → AllRise (map print_field fs) (map field_depth fs)
fields-rise [] = tt
fields-rise (f ∷ fs) = (field-rises f, fields-rise fs)

receiver-rises : (r : Receiver) → Rises (print_receiver r) 0
receiver-rises r =
    lower 0 (omega arith) (loose (in-parens (name r.name ∷ punctuation punctuations.Star ∷ name r.type_name ∷ [])
    (plain-before (name r.name) (punctuation punctuations.Star ∷ name r.type_name ∷ []) (λ c cs. refl)
    (plain-before (punctuation punctuations.Star) (name r.type_name ∷ []) (λ c cs. refl)
    (plain-before (name r.type_name) [] (λ c cs. refl) empty)))))

-- brackets, and what stands after them
parens-and-rest : (inner rest : List Word) → parens inner [] ++ rest ≡ parens inner rest
parens-and-rest inner rest = ap (λ ws. punctuation punctuations.OpenParen ∷ ws)
    (append_assoc inner (punctuation punctuations.CloseParen ∷ []) rest)

-- the words of the parameters, and what stands after their brackets
abbrev func-fields : Func → List Word
func-fields f = separated punctuations.Comma (map print_field f.parameters)

abbrev func-rest : Func → List Word
func-rest f = optional print_type f.result ++ print_block (map print_stmt f.body)

abbrev func-tail : Func → List Word
func-tail f = parens (func-fields f) (func-rest f)

func-rises : (f : Func) → Rises (print_func f) (func_depth f)
func-rises f =
    on-line f.line (keyword keywords.Func ∷ (optional print_receiver f.receiver ++ name f.name ∷ func-tail f))
    (plain-before (keyword keywords.Func) (optional print_receiver f.receiver ++ name f.name ∷ func-tail f)
    (λ c cs. refl)
    (lower (func_depth f) (le-max_right (of_option (λ (r : Receiver). 0) f.receiver) (func_depth f))
    (joined (optional print_receiver f.receiver) (name f.name ∷ func-tail f)
    (optional-rises print_receiver (λ r. 0) receiver-rises f.receiver)
    (plain-before (name f.name) (func-tail f) (λ c cs. refl)
    (subst (λ ws. Rises ws (func_depth f)) (parens-and-rest (func-fields f) (func-rest f))
    (joined (parens (func-fields f) []) (func-rest f)
    (loose (in-parens (func-fields f) (separated-rises punctuations.Comma comma _ _ (fields-rise f.parameters))))
    (joined (optional print_type f.result) (print_block (map print_stmt f.body))
    (optional-rises print_type type_depth type-rises f.result)
    (block-rises (map print_stmt f.body) (map stmt_depth f.body) (all-stmts-rise f.body)))))))))

const-rises : (x : Const) → Rises (print_const x) 0
const-rises (const.Integer digits) = plain-before (word (kinds.Integer digits)) [] (λ c cs. refl) empty
const-rises (const.Negative digits) =
    plain-before (punctuation punctuations.Minus) (word (kinds.Integer digits) ∷ []) (λ c cs. refl)
    (plain-before (word (kinds.Integer digits)) [] (λ c cs. refl) empty)
const-rises (const.Text bytes) = plain-before (word (kinds.Text bytes)) [] (λ c cs. refl) empty
const-rises const.True = plain-before (name _) [] (λ c cs. refl) empty
const-rises const.False = plain-before (name _) [] (λ c cs. refl) empty

decl-rises : (x : Decl) → Rises (print_decl x) (decl_depth x)
decl-rises (d.Const l n value) =
    on-line l (keyword keywords.Const ∷ name n ∷ punctuation punctuations.Assign ∷ print_const value)
    (plain-before (keyword keywords.Const) (name n ∷ punctuation punctuations.Assign ∷ print_const value) (λ c cs. refl)
    (plain-before (name n) (punctuation punctuations.Assign ∷ print_const value) (λ c cs. refl)
    (plain-before (punctuation punctuations.Assign) (print_const value) (λ c cs. refl) (const-rises value))))
decl-rises (d.Var v) = var-rises v
decl-rises (d.Struct l n fields) =
    on-line l (keyword keywords.Type ∷ name n ∷ keyword keywords.Struct
    ∷ braces (separated punctuations.Semicolon (map print_field fields)) [])
    (plain-before (keyword keywords.Type) (name n ∷ keyword keywords.Struct
    ∷ braces (separated punctuations.Semicolon (map print_field fields)) []) (λ c cs. refl)
    (plain-before (name n) (keyword keywords.Struct
    ∷ braces (separated punctuations.Semicolon (map print_field fields)) []) (λ c cs. refl)
    (plain-before (keyword keywords.Struct) (braces (separated punctuations.Semicolon (map print_field fields)) [])
    (λ c cs. refl)
    (loose (in-braces (separated punctuations.Semicolon (map print_field fields))
    (separated-rises punctuations.Semicolon semicolon _ _ (fields-rise fields)))))))
decl-rises (d.Func f) = func-rises f

decls-rise : (xs : List Decl) → AllRise (map print_decl xs) (map decl_depth xs)
decls-rise [] = tt
decls-rise (x ∷ xs) = (decl-rises x, decls-rise xs)

text-rises : (bytes : List ℕ) → Rises (text bytes) 0
text-rises bytes = plain-before (word (kinds.Text bytes)) [] (λ c cs. refl) empty

texts-rise : (xs : List (List ℕ)) → AllRise (map text xs) (map (λ x. 0) xs)
texts-rise [] = tt
texts-rise (x ∷ xs) = (text-rises x, texts-rise xs)

import-rises : (x : Import) → Rises (print_import x) 0
import-rises (imports.One l path) = on-line l (keyword keywords.Import ∷ text path)
    (plain-before (keyword keywords.Import) (text path) (λ c cs. refl) (text-rises path))
import-rises (imports.Group l paths) =
    on-line l (keyword keywords.Import ∷ parens (separated punctuations.Semicolon (map text paths)) [])
    (plain-before (keyword keywords.Import) (parens (separated punctuations.Semicolon (map text paths)) [])
    (λ c cs. refl)
    (lower 0 (omega arith) (loose (in-parens (separated punctuations.Semicolon (map text paths))
    (separated-rises punctuations.Semicolon semicolon _ _ (texts-rise paths))))))

imports-rise : (xs : List Import) → AllRise (map print_import xs) (map (λ x. 0) xs)
imports-rise [] = tt
imports-rise (x ∷ xs) = (import-rises x, imports-rise xs)

pub file-rises : (f : File) → Rises (print_file f) (file_depth f)
file-rises f =
    lower (file_depth f) (le-max_right 0 (file_depth f))
    (joined package_words (closed (map print_import f.imports) ++ closed (map print_decl f.declarations)) package-rises
    (lower (file_depth f) (le-max_right (largest (map (λ x. 0) f.imports)) (file_depth f))
    (joined (closed (map print_import f.imports)) (closed (map print_decl f.declarations))
    (closed-rises _ _ (imports-rise f.imports)) (closed-rises _ _ (decls-rise f.declarations)))))
  where
    package-rises : Rises package_words 0
    package-rises =
        plain-before (keyword keywords.Package) (name _ ∷ punctuation punctuations.Semicolon ∷ []) (λ c cs. refl)
        (plain-before (name _) (punctuation punctuations.Semicolon ∷ []) (λ c cs. refl)
        (separator (punctuation punctuations.Semicolon) semicolon))

-- ---- words and tokens

-- no count rises higher than the largest cost of the tokens that the words stand for
peak-is-a-cost : (counts : List ℕ) (ws : List Word) (ts : List Token) → SpellsWords ws ts []
    → peak counts ws ≤ max (sum counts) (largest (costs_from counts ts))
peak-is-a-cost counts [] ts h = le-max_left (sum counts) (largest (costs_from counts ts))
peak-is-a-cost counts (w ∷ ws) [] h = absurd h
peak-is-a-cost counts (w ∷ ws) (t ∷ ts) h =
    let rest = subst (λ k. peak (counted k counts) ws ≤ largest (costs_from counts (t ∷ ts))) h.0.0
    (peak-is-a-cost (counted t.kind counts) ws ts h.1) in
    let first = le-max_left (sum counts) (largest (costs_from counts (t ∷ ts))) in
    let second = le-max_right (sum counts) (largest (costs_from counts (t ∷ ts))) in
    max-le first (omega (arith, rest, second))

pub within-cost : DepthIsWithinCost
within-cost tokens file h =
    let deep = (file-rises file).peaks 0 [] in
    let cost = peak-is-a-cost no_counts (print_file file) tokens h in
    let zero-first = zero-max (largest (costs tokens)) in
    omega (arith, deep, cost, zero-first)

-- ---- the limit

affordable : (b rest : Bool) → cond b false rest ≡ true → (b ≡ false) × (rest ≡ true)
affordable true rest h = absurd (true≢false (sym h))
affordable false rest h = (refl, h)

not-more : (s : ℕ) → nat_lt most s ≡ false → s ≤ most
not-more s h = ltb-false most s h

-- where no token costs more than the limit no count rises higher
peak-is-affordable : (counts : List ℕ) (ws : List Word) → sum counts ≤ most
    → is_affordable counts (map (λ w. w.kind) ws) ≡ true → peak counts ws ≤ most
peak-is-affordable counts [] few h = few
peak-is-affordable counts (w ∷ ws) few h =
    let parts = affordable (nat_lt most (sum (counted w.kind counts)))
    (is_affordable (counted w.kind counts) (map (λ w. w.kind) ws)) h in
    max-le few (peak-is-affordable (counted w.kind counts) ws (not-more _ parts.0) parts.1)

pub shallow : FilesAreShallow
shallow tokens file h =
    let deep = (file-rises file).peaks 0 [] in
    let top = peak-is-affordable no_counts (print_file file) (omega arith) h.form.cost in
    omega (arith, deep, top)
