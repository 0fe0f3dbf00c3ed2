-- The laws of what is found and of what is read, for each kind of text.
-- For: `VarsFound`, `StatementsRead` (golf_syntax_statements/specs/Laws.antt) and `statements_found` (src/laws.rt)
-- By: the lemmas of the other files, put together; no induction
use Rattle.std.proofs.Common.{inl, inr, ap, ◌∙◌, List, []}
use Rattle.golf_lex_tokens.specs.declared.token.Token.{Token}
use Rattle.golf_lex_tokens.specs.declared.token.Punctuation.TheVariants as punctuations
use Rattle.golf_syntax_expressions.proofs.Fronts.{nothing, punctuation-then}
use Rattle.golf_syntax_statements.specs.VariableReader.{var_at}
use Rattle.golf_syntax_statements.specs.Laws.{EndsStatement, VarsFound, VarsRead, TestsFound, TestsRead, HeadersFound}
use Rattle.golf_syntax_statements.specs.Laws.{HeadersRead, CommsFound, CommsRead, StatementsFound, StatementsRead}
use Rattle.golf_syntax_statements.proofs.Nothing.{semicolon, close_brace, colon, Stops, stops}
use Rattle.golf_syntax_statements.proofs.VarLaws.{var-sound, var-complete}
use Rattle.golf_syntax_statements.proofs.HeaderLaws.{test-sound, header-sound}
use Rattle.golf_syntax_statements.proofs.HeaderReads.{test-complete, header-complete}
use Rattle.golf_syntax_statements.proofs.CommLaws.{comm-sound, comm-complete}
use Rattle.golf_syntax_statements.proofs.StmtSound.{stmt-sound}
use Rattle.golf_syntax_statements.proofs.StmtComplete.{Ended, stmt-complete}

ends : (ts : List Token) → EndsStatement ts → Ended ts
ends ts (us, inl e) = record { punctuation = punctuations.Semicolon; stop = semicolon; behind = us; is = e }
ends ts (us, inr e) = record { punctuation = punctuations.CloseBrace; stop = close_brace; behind = us; is = e }

stopped : (ts : List Token) → EndsStatement ts → Stops ts
stopped ts (us, inl e) = stops punctuations.Semicolon semicolon (punctuation-then punctuations.Semicolon ts e nothing)
stopped ts (us, inr e) = stops punctuations.CloseBrace close_brace
    (punctuation-then punctuations.CloseBrace ts e nothing)

pub vars-found : VarsFound
vars-found word ts x is e = let k = var-sound word ts x is e in record { var = is; words = k.words.are; good = k.good }

pub vars-read : VarsRead
vars-read word ts x k e =
    ap (λ l. var_at l ts) k.words.0.1 ∙ var-complete x.0 ts x.1 k.good (record { are = k.words.1 }) (stopped x.1 e)

pub tests-found : TestsFound
tests-found ts x e = let k = test-sound ts x e in record { words = k.words.are; first = k.first; good = k.good }

pub tests-read : TestsRead
tests-read ts x k b = test-complete x.0 ts x.1 b.0 [] k.first k.good (record { are = k.words })
    (punctuation-then punctuations.OpenBrace x.1 b.1 nothing)

pub headers-found : HeadersFound
headers-found ts x e = let k = header-sound ts x e in record { words = k.words.are; good = k.good }

pub headers-read : HeadersRead
headers-read ts x k b = header-complete x.1 b.0 []
    (punctuation-then punctuations.OpenBrace x.1 b.1 nothing) x.0 ts k.good (record { are = k.words })

pub comms-found : CommsFound
comms-found ts x e = let k = comm-sound ts x e in record { words = k.words.are; good = k.good }

pub comms-read : CommsRead
comms-read ts us x k c = comm-complete x.0 ts x.1 k.good (record { are = k.words })
    (stops punctuations.Colon colon (punctuation-then punctuations.Colon x.1 c nothing))

pub statements-found : StatementsFound
statements-found ts x e = let k = stmt-sound ts x e in record { words = k.words.are; good = k.good }

pub statements-read : StatementsRead
statements-read ts x k e = stmt-complete x.0 ts x.1 k.good (record { are = k.words }) (ends x.1 e)
