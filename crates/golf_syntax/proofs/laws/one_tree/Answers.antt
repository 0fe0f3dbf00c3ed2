use Rattle.golf_syntax.proofs.OneTree.{one-tree}
use Rattle.golf_syntax.proofs.laws.one_tree.Goals as goal

pub returns : goal.returns
returns c = one-tree
