-- The laws of what is found and of what is read, for imports and declarations.
-- For: `imports_found`, `imports_read`, `declarations_found` and `declarations_read`, src/laws.rt.
-- By: computing, from DeclSound.antt and DeclComplete.antt; no induction.
use Rattle.golf_syntax.specs.Laws.{ImportsFound, ImportsRead, DeclsFound, DeclsRead}
use Rattle.golf_syntax.proofs.DeclSound.{import-sound, decl-sound}
use Rattle.golf_syntax.proofs.DeclComplete.{import-complete, decl-complete}

pub imports-found : ImportsFound
imports-found word ts x is e = record { words = (import-sound word ts x is e).are }

pub imports-read : ImportsRead
imports-read ts x k = import-complete x.0 ts x.1 (record { are = k.words })

pub declarations-found : DeclsFound
declarations-found ts x e = let k = decl-sound ts x e in record { words = k.words.are; good = k.good }

pub declarations-read : DeclsRead
declarations-read ts us x k e = decl-complete x.0 ts x.1 us k.good (record { are = k.words }) e
