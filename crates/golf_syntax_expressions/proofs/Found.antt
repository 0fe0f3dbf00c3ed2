-- The readers' laws: what is found is printed so, and what is printed is read.
-- For: `types_found`, `expressions_found`, `simples_read` and the other laws of src/laws.rt.
-- By: cases of what the reader answers; no induction.
use Rattle.golf_syntax_expressions.specs.Laws.{EndsExpr, TypesFound, TypesRead, ExpressionsFound, ExpressionsRead}
use Rattle.golf_syntax_expressions.specs.Laws.{OperandsFound, OperandsRead, SimplesFound, SimplesRead}
use Rattle.std.proofs.Common.{List}
use Rattle.golf_lex_tokens.specs.declared.token.Token.{Token}
use Rattle.golf_syntax_expressions.proofs.ExprFronts.{Quiet}
use Rattle.golf_syntax_expressions.proofs.TypeLaws.{type-sound, type-complete}
use Rattle.golf_syntax_expressions.proofs.ExprSound.{expr-sound, prefixed-is-sound}
use Rattle.golf_syntax_expressions.proofs.ExprComplete.{expr-complete, prefixed-complete}
use Rattle.golf_syntax_expressions.proofs.SimpleLines.{simple-sound, simple-complete}

quiet : (ts : List Token) → EndsExpr ts → Quiet ts
quiet ts e = record { suffix = e.suffix; operator = e.operator }

pub types-found : TypesFound
types-found ts x e = let k = type-sound ts x e in record { words = k.words.are; good = k.good }

pub types-read : TypesRead
types-read ts x k dot = type-complete x.0 k.good ts x.1 (record { are = k.words }) dot

pub expressions-found : ExpressionsFound
expressions-found header ts x e = let k =
    expr-sound header ts x e in record { words = k.words.are; good = k.good; clear = k.clear }

pub expressions-read : ExpressionsRead
expressions-read header ts x k e = expr-complete x.0 header ts x.1
    (record { good = k.good; clear = k.clear; spelt = record { are = k.words } }) (quiet x.1 e)

pub operands-found : OperandsFound
operands-found header ts x e = let k = prefixed-is-sound header ts x
    e in record { is = record { words = k.words.are; good = k.good; clear = k.clear }; top = k.top }

pub operands-read : OperandsRead
operands-read header ts x k e = prefixed-complete x.0 header ts x.1
    (record { good = k.is.good; clear = k.is.clear; spelt = record { are = k.is.words } }) k.top (quiet x.1 e)

pub simples-found : SimplesFound
simples-found header ts x e = let k = simple-sound header ts x
    e in record { words = k.words.are; good = k.good; clear = k.clear }

pub simples-read : SimplesRead
simples-read header ts x k e = simple-complete header x.0 ts x.1 k.good k.clear (record { are = k.words })
    (record { quiet = quiet x.1 e.expr; follow = e.follow; define = e.define; comma = e.comma })
