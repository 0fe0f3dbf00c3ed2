-- Bytes lex as one list of tokens, and one tree reads it.
-- For: the law `one_tree`, src/laws.rt.
-- By: computing, from the laws that bytes lex once and that one tree reads tokens; no induction.
use Rattle.std.proofs.Common.{subst}
use Rattle.golf_syntax_trees.specs.Reads.{ReadsTokens}
use Rattle.golf_lex.proofs.Scans.{lexes-once}
use Rattle.golf_syntax.specs.Laws.{OneTree}
use Rattle.golf_syntax.proofs.FileLaws.{one-reads}

pub one-tree : OneTree
one-tree bytes f g r s = one-reads r.tokens f g r.reads
    (subst (λ ts. ReadsTokens ts g) (lexes-once bytes s.tokens r.tokens s.lexes r.lexes) s.reads)
