-- Each body of the code of a file has at most eight instructions for each word that the file prints; so its places fit.
-- For: `bodies_are_small` and `files_have_places`, src/lib.rt
-- By: induction over the list of declarations, and over the list of made functions
use Rattle.std.proofs.Common.{◌≡◌, ℕ, zero, suc, ◌+◌, ◌*◌, ◌^◌, ◌<◌, ◌≤◌, Bool, List, [], ◌∷◌, ◌++◌, length, map}
use Rattle.std.proofs.Common.{Option, Some, None, refl, sym, ap, arith, length-append}
use Rattle.std.specs.Prelude.{slice_get}
use Rattle.golf_lex_tokens.specs.declared.token.Token.{Token}
use Rattle.golf_lex_tokens.specs.declared.token.Punctuation.TheVariants as punctuations
use Rattle.golf_lex_tokens.specs.declared.token.Keyword.TheVariants as keywords
use Rattle.golf_syntax_trees.specs.declared.statements.Stmt.{Stmt}
use Rattle.golf_syntax_trees.specs.declared.statements.VarContent.{VarContent}
use Rattle.golf_syntax_trees.specs.declared.statements.VarContent.TheVariants as content
use Rattle.golf_syntax_trees.specs.declared.declarations.Func.{Func}
use Rattle.golf_syntax_trees.specs.declared.declarations.Decl.{Decl}
use Rattle.golf_syntax_trees.specs.declared.declarations.Decl.TheVariants as d
use Rattle.golf_syntax_trees.specs.declared.declarations.File.{File}
use Rattle.golf_syntax_trees.specs.Words.{Word, punctuation, keyword, name, separated, closed, SpellsWords}
use Rattle.golf_syntax_trees.specs.Types.{print_type}
use Rattle.golf_syntax_trees.specs.Expressions.{parens, print_expr}
use Rattle.golf_syntax_trees.specs.Simple.{print_content, optional}
use Rattle.golf_syntax_trees.specs.Statements.{print_block, print_stmt}
use Rattle.golf_syntax_trees.specs.Declarations.{print_field, print_receiver, print_func, print_decl, print_import}
use Rattle.golf_syntax_trees.specs.Declarations.{print_file}
use Rattle.golf_data.specs.declared.code.Function.{Function}
use Rattle.golf_data.specs.Places.{IsShort}
use Rattle.golf_check_types.specs.declared.types.GoType.{GoType}
use Rattle.golf_check_types.specs.declared.scopes.FileScope.{FileScope}
use Rattle.golf_check_types.specs.declared.scopes.Scope.{Scope}
use Rattle.golf_check_types.specs.Files.{outside, result_type, file_scope, with_imports, no_imports, body_scope}
use Rattle.golf_code_layout.specs.Piece.{size, all}
use Rattle.golf_code_layout.proofs.Sizes.{placed-size}
use Rattle.golf_code_of.specs.declared.tables.Tables.{Tables}
use Rattle.golf_code_of.specs.declared.surroundings.Making.{Making}
use Rattle.golf_code_of.specs.StatementCode.{stmt_part}
use Rattle.golf_code_of.specs.Files.{function, body_laid, last_return, function_of, functions_from, loads, made_body}
use Rattle.golf_code_of.specs.Files.{made_function, initial, initials, entry_body, giving, main_number, main_line}
use Rattle.golf_code_of.specs.Files.{tables_of, code_in, CodeOf}
use Rattle.golf_code_places.specs.Laws.{IsSmall, BodiesAreSmall, FilesHavePlaces}
use Rattle.golf_code_places.proofs.Words.{total, line-length, closed-length}
use Rattle.golf_code_places.proofs.Small.{operation-small}
use Rattle.golf_code_places.proofs.Exprs.{expr-small}
use Rattle.golf_code_places.proofs.Light.{parameters, parameters-append, weight, EachLight, light-order}
use Rattle.golf_code_places.proofs.Stmts.{stmt-light, block-words}
use Rattle.golf_code_places.proofs.Bytes.{tokens-few}

-- Functions of which each is small.

abbrev AreSmall : ℕ → List Function → Type 0
AreSmall n fs = (k : ℕ) → IsSmall n (slice_get fs k)

no-functions : (n : ℕ) → AreSmall n []
no-functions n zero = tt
no-functions n (suc k) = tt

one-more : (n : ℕ) (f : Function) (fs : List Function) → length f.body ≤ 8 * n → AreSmall n fs → AreSmall n (f ∷ fs)
one-more n f fs h rest zero = h
one-more n f fs h rest (suc k) = rest k

both-small : (n : ℕ) (fs gs : List Function) → AreSmall n fs → AreSmall n gs → AreSmall n (fs ++ gs)
both-small n [] gs h i = i
both-small n (f ∷ fs) gs h i = one-more n f (fs ++ gs) (h 0) (both-small n fs gs (λ k. h (suc k)) i)

-- Functions of the file.

abbrev words_of : List Decl → ℕ
words_of xs = total (map print_decl xs)

each : (t : Tables) (xs : List Stmt) → EachLight (map (stmt_part t) xs) (map print_stmt xs)
each t [] = tt
each t (x ∷ xs) = (stmt-light t x, each t xs)

body-light : (t : Tables) (file : Scope) (n : ℕ) (f : Func)
    → weight (body_laid t file n f) ≤ 8 * total (map print_stmt f.body)
body-light t file n f = light-order (map (stmt_part t) f.body) (map print_stmt f.body) (each t f.body) _
    (body_scope file f)

func-words : (f : Func) → total (map print_stmt f.body) + 2 ≤ length (print_func f)
func-words f =
    let inner = block-words (map print_stmt f.body) in
    let result = length-append (optional print_type f.result) (print_block (map print_stmt f.body)) in
    let rest = optional print_type f.result ++ print_block (map print_stmt f.body) in
    let fields = separated punctuations.Comma (map print_field f.parameters) in
    let between = length-append fields (punctuation punctuations.CloseParen ∷ rest) in
    let whole = length-append (optional print_receiver f.receiver) (name f.name ∷ parens fields rest) in
    let line = line-length f.line (keyword keywords.Func
    ∷ (optional print_receiver f.receiver ++ name f.name ∷ parens fields rest)) in
    omega (arith, inner, result, between, whole, line)

return-small : (l : ℕ) (e : Option GoType) → size (last_return l e) ≤ 2
return-small l None = omega arith
return-small l (Some e) = omega arith

function-small : (t : Tables) (gives : List Bool) (file : Scope) (n : ℕ) (f : Func)
    → length (function_of t gives file f (body_laid t file n f).piece).body ≤ 8 * length (print_func f)
function-small t gives file n f =
    let e = placed-size (all ((body_laid t file n f).piece ∷ last_return f.line (result_type file f.result) ∷ [])) 0
    [] in
    let b = body-light t file n f in
    let r = return-small f.line (result_type file f.result) in
    let w = func-words f in
    omega (arith, e, b, r, w)

own-small : (t : Tables) (gives : List Bool) (file : Scope) (n : ℕ) (xs : List Decl) (k : ℕ) → words_of xs ≤ k
    → AreSmall k (functions_from t gives file n xs).own
own-small t gives file n [] k h = no-functions k
own-small t gives file n (d.Const l c v ∷ xs) k h = own-small t gives file n xs k (omega (arith, h))
own-small t gives file n (d.Var v ∷ xs) k h = own-small t gives file n xs k (omega (arith, h))
own-small t gives file n (d.Struct l c fs ∷ xs) k h = own-small t gives file n xs k (omega (arith, h))
own-small t gives file n (d.Func f ∷ xs) k h =
    let e = function-small t gives file n f in
    one-more k _ _ (omega (arith, e, h)) (own-small t gives file (n + length (body_laid t file n f).made) xs k
    (omega (arith, h)))

made-light : (t : Tables) (gives : List Bool) (file : Scope) (n : ℕ) (xs : List Decl)
    → parameters (functions_from t gives file n xs).made ≤ 8 * words_of xs
made-light t gives file n [] = omega arith
made-light t gives file n (d.Const l c v ∷ xs) = let h = made-light t gives file n xs in omega (arith, h)
made-light t gives file n (d.Var v ∷ xs) = let h = made-light t gives file n xs in omega (arith, h)
made-light t gives file n (d.Struct l c fs ∷ xs) = let h = made-light t gives file n xs in omega (arith, h)
made-light t gives file n (d.Func f ∷ xs) =
    let x = body_laid t file n f in
    let rest = functions_from t gives file (n + length x.made) xs in
    let e = body-light t file n f in
    let w = func-words f in
    let g = parameters-append x.made rest.made in
    let h = made-light t gives file (n + length x.made) xs in
    omega (arith, e, w, g, h)

-- Functions that are made.

loads-size : (l i : ℕ) (ts : List (Option GoType)) → size (loads l i ts) ≡ length ts
loads-size l i [] = refl
loads-size l i (t ∷ ts) = let h = loads-size l (i + 1) ts in omega (arith, h)

made-size : (gives : List Bool) (m : Making) → length (made_function gives m).body ≤ length m.parameters + 3
made-size gives m =
    let e = placed-size (made_body m) 0 [] in
    let f = loads-size m.line 0 m.parameters in
    let g = operation-small m.line m.operation (length m.parameters) in
    omega (arith, e, f, g)

made-small : (gives : List Bool) (ms : List Making) (k : ℕ) → parameters ms + 3 ≤ 8 * k
    → AreSmall k (map (made_function gives) ms)
made-small gives [] k h = no-functions k
made-small gives (m ∷ ms) k h =
    let e = made-size gives m in
    one-more k (made_function gives m) (map (made_function gives) ms) (omega (arith, e, h))
    (made-small gives ms k (omega (arith, h)))

-- Function 0.

initial-small : (t : Tables) (s : Scope) (g l : ℕ) (x : VarContent)
    → size (initial t s g l x) ≤ 8 * length (print_content x)
initial-small t s g l (content.Zero e) = omega arith
initial-small t s g l (content.Typed e v) =
    let h = (expr-small t v l s).piece in
    let w = length-append (print_type e) (punctuation punctuations.Assign ∷ print_expr v) in
    omega (arith, h, w)
initial-small t s g l (content.Untyped v) = let h = (expr-small t v l s).piece in omega (arith, h)

initials-small : (t : Tables) (f : FileScope) (g : ℕ) (xs : List Decl) → size (initials t f g xs) ≤ 8 * words_of xs
initials-small t f g [] = omega arith
initials-small t f g (d.Const l c v ∷ xs) = let h = initials-small t f g xs in omega (arith, h)
initials-small t f g (d.Struct l c fs ∷ xs) = let h = initials-small t f g xs in omega (arith, h)
initials-small t f g (d.Func x ∷ xs) = let h = initials-small t f g xs in omega (arith, h)
initials-small t f g (d.Var v ∷ xs) =
    let e = initial-small t (record (outside f) { initialises = Some g }) g v.line v.content in
    let w = line-length v.line (keyword keywords.Var ∷ name v.name ∷ print_content v.content) in
    let h = initials-small t f (g + 1) xs in
    omega (arith, e, w, h)

entry-small : (t : Tables) (gives : List Bool) (f : FileScope) (main line : ℕ) (xs : List Decl)
    → length (function gives 0 0 line (entry_body t f main line xs)).body ≤ 8 * words_of xs + 2
entry-small t gives f main line xs =
    let e = placed-size (entry_body t f main line xs) 0 [] in
    let h = initials-small t f 0 xs in
    omega (arith, e, h)

-- The whole file.

file-words : (file : File) → words_of file.declarations + 3 ≤ length (print_file file)
file-words file =
    let imports = closed (map print_import file.imports) in
    let e = length-append imports (closed (map print_decl file.declarations)) in
    let f = closed-length (map print_decl file.declarations) in
    omega (arith, e, f)

code-small : (t : Tables) (f : FileScope) (xs : List Decl) (k : ℕ) → words_of xs + 3 ≤ k
    → AreSmall k (code_in t f xs).functions
code-small t f xs k h =
    let e = entry-small t (giving f) f (main_number f) (main_line xs) xs in
    let m = made-light t (giving f) (outside f) (length f.functions + 1) xs in
    one-more k _ _ (omega (arith, e, h))
    (both-small k _ _ (own-small t (giving f) (outside f) (length f.functions + 1) xs k (omega (arith, h)))
    (made-small (giving f) (functions_from t (giving f) (outside f) (length f.functions + 1) xs).made k
    (omega (arith, m, h))))

pub bodies-small : BodiesAreSmall
unfolding CodeOf
bodies-small file = code-small (tables_of file.declarations)
    (file_scope (with_imports no_imports file.imports) file.declarations) file.declarations (length (print_file file))
    (file-words file)

-- as many tokens as words
spelled-length : (ws : List Word) (ts : List Token) → SpellsWords ws ts [] → length ws ≡ length ts
spelled-length [] ts h = ap length (sym h)
spelled-length (w ∷ ws) [] h = absurd h
spelled-length (w ∷ ws) (t ∷ ts) h = ap suc (spelled-length ws ts h.1)

short-of : (o : Option Function) (n m : ℕ) → IsSmall n o → n ≤ 2 * m → m < 2 ^ 27 → IsShort o
short-of None n m h few less = tt
short-of (Some f) n m h few less = omega (arith, h, few, less)

pub files-have-places : FilesHavePlaces
files-have-places bytes file h few k =
    let e = spelled-length (print_file file) h.tokens h.reads.prints in
    let f = tokens-few bytes h.tokens h.lexes in
    short-of (slice_get (CodeOf file).functions k) (length (print_file file)) (length bytes) (bodies-small file k)
    (omega (arith, e, f)) few
