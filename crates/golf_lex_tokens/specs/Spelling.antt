-- How each token is spelled (Go specification, "Tokens" to "String literals").
use Rattle.std.specs.Prelude.{◌≡◌, ◌≢◌, ℕ, Bool, true, false, ◌&&◌, nat_le, List, [], ◌∷◌, ◌++◌, codes}
use Rattle.std.specs.List.{list_all}
use Rattle.golf_lex_tokens.specs.declared.token.TokenKind.{TokenKind}
use Rattle.golf_lex_tokens.specs.declared.token.TokenKind.TheVariants.{Name, Integer, Text, Keyword as KeywordToken}
use Rattle.golf_lex_tokens.specs.declared.token.TokenKind.TheVariants.{Punctuation as PunctuationToken}
use Rattle.golf_lex_tokens.specs.declared.token.Keyword.{Keyword}
use Rattle.golf_lex_tokens.specs.declared.token.Keyword.TheVariants as keywords
use Rattle.golf_lex_tokens.specs.declared.token.Punctuation.{Punctuation}
use Rattle.golf_lex_tokens.specs.declared.token.Punctuation.TheVariants as punctuations
use Rattle.golf_lex_tokens.specs.Bytes.{is_letter, is_digit, is_word_byte, is_ordinary}

-- the keywords (Go specification, "Keywords")
abbrev pub keyword_text : Keyword → List ℕ
keyword_text keywords.Break = codes "break"
keyword_text keywords.Case = codes "case"
keyword_text keywords.Chan = codes "chan"
keyword_text keywords.Const = codes "const"
keyword_text keywords.Continue = codes "continue"
keyword_text keywords.Default = codes "default"
keyword_text keywords.Defer = codes "defer"
keyword_text keywords.Else = codes "else"
keyword_text keywords.For = codes "for"
keyword_text keywords.Func = codes "func"
keyword_text keywords.Go = codes "go"
keyword_text keywords.If = codes "if"
keyword_text keywords.Import = codes "import"
keyword_text keywords.Package = codes "package"
keyword_text keywords.Range = codes "range"
keyword_text keywords.Return = codes "return"
keyword_text keywords.Select = codes "select"
keyword_text keywords.Struct = codes "struct"
keyword_text keywords.Type = codes "type"
keyword_text keywords.Var = codes "var"
keyword_text keywords.Fallthrough = codes "fallthrough"
keyword_text keywords.Goto = codes "goto"
keyword_text keywords.Interface = codes "interface"
keyword_text keywords.Map = codes "map"
keyword_text keywords.Switch = codes "switch"

-- the operators and punctuation marks of the accepted language (Go specification, "Operators and punctuation")
abbrev pub punctuation_text : Punctuation → List ℕ
punctuation_text punctuations.Plus = codes "+"
punctuation_text punctuations.Minus = codes "-"
punctuation_text punctuations.Star = codes "*"
punctuation_text punctuations.Slash = codes "/"
punctuation_text punctuations.Percent = codes "%"
punctuation_text punctuations.Equal = codes "=="
punctuation_text punctuations.NotEqual = codes "!="
punctuation_text punctuations.Less = codes "<"
punctuation_text punctuations.AtMost = codes "<="
punctuation_text punctuations.Greater = codes ">"
punctuation_text punctuations.AtLeast = codes ">="
punctuation_text punctuations.And = codes "&&"
punctuation_text punctuations.Or = codes "||"
punctuation_text punctuations.Not = codes "!"
punctuation_text punctuations.Arrow = codes "<-"
punctuation_text punctuations.Ampersand = codes "&"
punctuation_text punctuations.OpenParen = codes "("
punctuation_text punctuations.CloseParen = codes ")"
punctuation_text punctuations.OpenBracket = codes "["
punctuation_text punctuations.CloseBracket = codes "]"
punctuation_text punctuations.OpenBrace = codes "{"
punctuation_text punctuations.CloseBrace = codes "}"
punctuation_text punctuations.Comma = codes ","
punctuation_text punctuations.Semicolon = codes ";"
punctuation_text punctuations.Colon = codes ":"
punctuation_text punctuations.Dot = codes "."
punctuation_text punctuations.Assign = codes "="
punctuation_text punctuations.Define = codes ":="
punctuation_text punctuations.PlusAssign = codes "+="
punctuation_text punctuations.MinusAssign = codes "-="
punctuation_text punctuations.StarAssign = codes "*="
punctuation_text punctuations.SlashAssign = codes "/="
punctuation_text punctuations.PercentAssign = codes "%="
punctuation_text punctuations.Increment = codes "++"
punctuation_text punctuations.Decrement = codes "--"

-- whether it is a letter and then letters and digits: an identifier or a keyword
abbrev pub is_word : List ℕ → Bool
is_word [] = false
is_word (b ∷ bs) = is_letter b && list_all is_word_byte bs

-- whether it is `0`, or a digit from 1 to 9 and then digits
abbrev pub is_integer : List ℕ → Bool
is_integer [] = false
is_integer (b ∷ []) = is_digit b
is_integer (b ∷ bs) = (nat_le 49 b && nat_le b 57) && list_all is_digit bs

-- a part of a string between its quotes: a byte for itself, or an escape
pub data StringPart : Type 0 where
  Itself : ℕ → StringPart
  Newline : StringPart
  Tab : StringPart
  Backslash : StringPart
  Quote : StringPart

abbrev pub part_text : StringPart → List ℕ
part_text (Itself b) = b ∷ []
part_text Newline = codes "\\n"
part_text Tab = codes "\\t"
part_text Backslash = codes "\\\\"
part_text Quote = codes "\\\""

-- the byte for which a part stands
abbrev pub part_byte : StringPart → ℕ
part_byte (Itself b) = b
part_byte Newline = 10
part_byte Tab = 9
part_byte Backslash = 92
part_byte Quote = 34

abbrev pub is_part : StringPart → Bool
is_part (Itself b) = is_ordinary b
is_part _ = true

-- the parts, one after another
abbrev pub parts_text : List StringPart → List ℕ
parts_text [] = []
parts_text (p ∷ ps) = part_text p ++ parts_text ps

abbrev pub parts_bytes : List StringPart → List ℕ
parts_bytes [] = []
parts_bytes (p ∷ ps) = part_byte p ∷ parts_bytes ps

-- the bytes are parts between quotes, and the content is the bytes for which the parts stand
pub record Quotes (content bytes : List ℕ) : Type 0 where
  pub parts : List StringPart
  pub valid : list_all is_part parts ≡ true
  pub spelled : bytes ≡ codes "\"" ++ (parts_text parts ++ codes "\"")
  pub stands : content ≡ parts_bytes parts

-- the bytes are the name, which is a word and not a keyword
pub record Names (name bytes : List ℕ) : Type 0 where
  pub spelled : bytes ≡ name
  pub word : is_word name ≡ true
  pub no_keyword : (k : Keyword) → keyword_text k ≢ name

-- the bytes spell a token of this kind
abbrev pub Spells : TokenKind → List ℕ → Type 0
Spells (Name name) bytes = Names name bytes
Spells (Integer digits) bytes = (bytes ≡ digits) × (is_integer digits ≡ true)
Spells (Text content) bytes = Quotes content bytes
Spells (KeywordToken k) bytes = bytes ≡ keyword_text k
Spells (PunctuationToken m) bytes = bytes ≡ punctuation_text m
