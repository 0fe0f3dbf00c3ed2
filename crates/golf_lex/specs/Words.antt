-- Keywords, and words that are not keywords.
use Rattle.std.specs.Prelude.{ℕ, List, Option, Some, None, find}
use Rattle.std.specs.Str.{bytes_eq}
use Rattle.golf_lex_tokens.specs.declared.token.TokenKind.{TokenKind}
use Rattle.golf_lex_tokens.specs.declared.token.TokenKind.TheVariants.{Name, Keyword as KeywordToken}
use Rattle.golf_lex_tokens.specs.declared.token.Keyword.{Keyword}
use Rattle.golf_lex_tokens.specs.Spelling.{keyword_text}
use Rattle.golf_lex.specs.declared.words.TheConstants.{KEYWORDS}

-- the keyword of this spelling
abbrev pub keyword_of : List ℕ → Option Keyword
keyword_of word = find (λ k. bytes_eq (keyword_text k) word) KEYWORDS

abbrev pub word_kind_by : List ℕ → Option Keyword → TokenKind
word_kind_by word None = Name word
word_kind_by word (Some k) = KeywordToken k

-- a keyword or a name
abbrev pub word_kind : List ℕ → TokenKind
word_kind word = word_kind_by word (keyword_of word)
