-- Bytes have at most two tokens for each of them: one for each lexeme that is a token, and a semicolon after it.
-- For: `tokens_are_few`, src/lib.rt
-- By: induction over the lists of lexemes, of items and of tokens
use Rattle.std.proofs.Common.{◌≡◌, ℕ, suc, ◌+◌, ◌*◌, ◌<◌, ◌≤◌, Bool, true, false, cond, List, [], ◌∷◌, ◌++◌, length}
use Rattle.std.proofs.Common.{refl, ap, arith, length-append}
use Rattle.std.specs.Prelude.{◌&&◌, nat_eq, codes}
use Rattle.golf_lex_tokens.specs.declared.token.Token.{Token}
use Rattle.golf_lex_tokens.specs.declared.token.TokenKind.{TokenKind}
use Rattle.golf_lex_tokens.specs.declared.token.TokenKind.TheVariants as kinds
use Rattle.golf_lex_tokens.specs.declared.token.Keyword.{Keyword}
use Rattle.golf_lex_tokens.specs.declared.token.Keyword.TheVariants as keywords
use Rattle.golf_lex_tokens.specs.declared.token.Punctuation.{Punctuation}
use Rattle.golf_lex_tokens.specs.declared.token.Punctuation.TheVariants as punctuations
use Rattle.golf_lex_tokens.specs.Bytes.{newlines}
use Rattle.golf_lex_tokens.specs.Spelling.{keyword_text, punctuation_text, is_word, is_integer, parts_text, Spells}
use Rattle.golf_lex_tokens.specs.Lexemes.{Class, Lexeme, lexemes_text, Forms, Cut}
use Rattle.golf_lex_tokens.specs.Lexemes as class
use Rattle.golf_lex_tokens.specs.Semicolons.{Item, newline_in, lexeme_items, items, may_end, line_ends, semicolon}
use Rattle.golf_lex_tokens.specs.Semicolons.{semicolon_behind, inserted, is_separator, closes, without_optional}
use Rattle.golf_lex_tokens.specs.Semicolons as item
use Rattle.golf_code_places.specs.Laws.{TokensAreFew}

-- A token has a byte.

keyword-bytes : (k : Keyword) → 0 < length (keyword_text k)
keyword-bytes keywords.Break = omega arith
keyword-bytes keywords.Case = omega arith
keyword-bytes keywords.Chan = omega arith
keyword-bytes keywords.Const = omega arith
keyword-bytes keywords.Continue = omega arith
keyword-bytes keywords.Default = omega arith
keyword-bytes keywords.Defer = omega arith
keyword-bytes keywords.Else = omega arith
keyword-bytes keywords.For = omega arith
keyword-bytes keywords.Func = omega arith
keyword-bytes keywords.Go = omega arith
keyword-bytes keywords.If = omega arith
keyword-bytes keywords.Import = omega arith
keyword-bytes keywords.Package = omega arith
keyword-bytes keywords.Range = omega arith
keyword-bytes keywords.Return = omega arith
keyword-bytes keywords.Select = omega arith
keyword-bytes keywords.Struct = omega arith
keyword-bytes keywords.Type = omega arith
keyword-bytes keywords.Var = omega arith
keyword-bytes keywords.Fallthrough = omega arith
keyword-bytes keywords.Goto = omega arith
keyword-bytes keywords.Interface = omega arith
keyword-bytes keywords.Map = omega arith
keyword-bytes keywords.Switch = omega arith

punctuation-bytes : (m : Punctuation) → 0 < length (punctuation_text m)
punctuation-bytes punctuations.Plus = omega arith
punctuation-bytes punctuations.Minus = omega arith
punctuation-bytes punctuations.Star = omega arith
punctuation-bytes punctuations.Slash = omega arith
punctuation-bytes punctuations.Percent = omega arith
punctuation-bytes punctuations.Equal = omega arith
punctuation-bytes punctuations.NotEqual = omega arith
punctuation-bytes punctuations.Less = omega arith
punctuation-bytes punctuations.AtMost = omega arith
punctuation-bytes punctuations.Greater = omega arith
punctuation-bytes punctuations.AtLeast = omega arith
punctuation-bytes punctuations.And = omega arith
punctuation-bytes punctuations.Or = omega arith
punctuation-bytes punctuations.Not = omega arith
punctuation-bytes punctuations.Arrow = omega arith
punctuation-bytes punctuations.Ampersand = omega arith
punctuation-bytes punctuations.OpenParen = omega arith
punctuation-bytes punctuations.CloseParen = omega arith
punctuation-bytes punctuations.OpenBracket = omega arith
punctuation-bytes punctuations.CloseBracket = omega arith
punctuation-bytes punctuations.OpenBrace = omega arith
punctuation-bytes punctuations.CloseBrace = omega arith
punctuation-bytes punctuations.Comma = omega arith
punctuation-bytes punctuations.Semicolon = omega arith
punctuation-bytes punctuations.Colon = omega arith
punctuation-bytes punctuations.Dot = omega arith
punctuation-bytes punctuations.Assign = omega arith
punctuation-bytes punctuations.Define = omega arith
punctuation-bytes punctuations.PlusAssign = omega arith
punctuation-bytes punctuations.MinusAssign = omega arith
punctuation-bytes punctuations.StarAssign = omega arith
punctuation-bytes punctuations.SlashAssign = omega arith
punctuation-bytes punctuations.PercentAssign = omega arith
punctuation-bytes punctuations.Increment = omega arith
punctuation-bytes punctuations.Decrement = omega arith

word-bytes : (bs : List ℕ) → is_word bs ≡ true → 0 < length bs
word-bytes [] h = cc
word-bytes (b ∷ bs) h = omega arith

integer-bytes : (bs : List ℕ) → is_integer bs ≡ true → 0 < length bs
integer-bytes [] h = cc
integer-bytes (b ∷ bs) h = omega arith

token-bytes : (k : TokenKind) (bytes : List ℕ) → Spells k bytes → 0 < length bytes
token-bytes (kinds.Name n) bytes h = let e = ap length h.spelled in let i = word-bytes n h.word in omega (arith, e, i)
token-bytes (kinds.Integer digits) bytes h = let e = ap length h.0 in let i =
    integer-bytes digits h.1 in omega (arith, e, i)
token-bytes (kinds.Text content) bytes h = let e = ap length h.spelled in let f =
    length-append (codes "\"") (parts_text h.parts ++ codes "\"") in omega (arith, e, f)
token-bytes (kinds.Keyword k) bytes h = let e = ap length h in let i = keyword-bytes k in omega (arith, e, i)
token-bytes (kinds.Punctuation m) bytes h = let e = ap length h in let i = punctuation-bytes m in omega (arith, e, i)

-- how many tokens there are among tokens and newlines
held : List Item → ℕ
held [] = 0
held (item.Newline ∷ xs) = held xs
held (item.Of token ∷ xs) = 1 + held xs

held-append : (xs ys : List Item) → held (xs ++ ys) ≡ held xs + held ys
unfolding held
held-append [] ys = omega arith
held-append (item.Newline ∷ xs) ys = held-append xs ys
held-append (item.Of token ∷ xs) ys = let h = held-append xs ys in omega (arith, h)

newline-held : (bytes : List ℕ) → held (newline_in bytes) ≡ 0
unfolding held
newline-held bytes = none (nat_eq (newlines bytes) 0)
  where
    none : (b : Bool) → held (cond b [] (item.Newline ∷ [])) ≡ 0
    none true = refl
    none false = refl

lexeme-held : (line : ℕ) (c : Class) (bytes : List ℕ) → Forms c bytes → held (lexeme_items line c bytes) ≤ length bytes
unfolding held
lexeme-held line (class.Of k) bytes h = let e = token-bytes k bytes h in omega (arith, e)
lexeme-held line _ bytes h = let e = newline-held bytes in omega (arith, e)

items-held : (line : ℕ) (ps : List Lexeme) → Cut ps → held (items line ps) ≤ length (lexemes_text ps)
unfolding held
items-held line [] h = omega arith
items-held line (p ∷ ps) h =
    let e = lexeme-held line p.class p.bytes h.0 in
    let f = items-held (line + newlines p.bytes) ps h.2 in
    let g = held-append (lexeme_items line p.class p.bytes) (items (line + newlines p.bytes) ps) in
    let k = length-append p.bytes (lexemes_text ps) in
    omega (arith, e, f, g, k)

one-behind : (token : Token) (xs : List Item) → length (semicolon_behind token xs) ≤ 1
one-behind token xs = few (may_end token.kind && line_ends xs)
  where
    few : (b : Bool) → length (cond b (semicolon token.line ∷ []) []) ≤ 1
    few true = omega arith
    few false = omega arith

inserted-few : (xs : List Item) → length (inserted xs) ≤ 2 * held xs
unfolding held
inserted-few [] = omega arith
inserted-few (item.Newline ∷ xs) = inserted-few xs
inserted-few (item.Of token ∷ xs) =
    let e = one-behind token xs in
    let f = inserted-few xs in
    let g = length-append (semicolon_behind token xs) (inserted xs) in
    omega (arith, e, f, g)

without-fewer : (ts : List Token) → length (without_optional ts) ≤ length ts
without-fewer [] = omega arith
without-fewer (t ∷ ts) = few (is_separator t.kind && closes ts) (without-fewer ts)
  where
    few : (b : Bool) → length (without_optional ts) ≤ length ts
        → length (cond b (without_optional ts) (t ∷ without_optional ts)) ≤ suc (length ts)
    few true h = omega arith
    few false h = omega arith

pub tokens-few : TokensAreFew
tokens-few bytes tokens h =
    let a = ap length h.text in
    let b = ap length h.are in
    let c = without-fewer (inserted (items 1 h.lexemes)) in
    let d = inserted-few (items 1 h.lexemes) in
    let e = items-held 1 h.lexemes h.cut in
    omega (arith, a, b, c, d, e)
