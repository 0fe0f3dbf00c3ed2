-- The role of each token for the brackets around it.
use Rattle.golf_lex_tokens.specs.declared.token.TokenKind.{TokenKind}
use Rattle.golf_lex_tokens.specs.declared.token.TokenKind.TheVariants as kinds
use Rattle.golf_lex_tokens.specs.declared.token.Punctuation.{Punctuation}
use Rattle.golf_lex_tokens.specs.declared.token.Punctuation.TheVariants as punctuations
use Rattle.golf_syntax_segments.specs.declared.cost.Role.{Role}
use Rattle.golf_syntax_segments.specs.declared.cost.Role.TheVariants.{Opens, Closes, Separates, Ordinary}

abbrev pub role_of_punctuation : Punctuation → Role
role_of_punctuation punctuations.OpenParen = Opens
role_of_punctuation punctuations.OpenBracket = Opens
role_of_punctuation punctuations.OpenBrace = Opens
role_of_punctuation punctuations.CloseParen = Closes
role_of_punctuation punctuations.CloseBracket = Closes
role_of_punctuation punctuations.CloseBrace = Closes
role_of_punctuation punctuations.Semicolon = Separates
role_of_punctuation punctuations.Comma = Separates
role_of_punctuation _ = Ordinary

abbrev pub role_of : TokenKind → Role
role_of (kinds.Punctuation m) = role_of_punctuation m
role_of _ = Ordinary
