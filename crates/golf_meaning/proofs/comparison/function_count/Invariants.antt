use Rattle.std.proofs.Common.{◌≡◌, ◌≤◌, ◌+◌, drop}
use Rattle.golf_meaning_statements.specs.Files.{function_count as count_of}
use Rattle.golf_meaning.proofs.comparison.function_count.Given as goal

abbrev pub invariant-loop-declaration : goal.invariant-loop-declaration
invariant-loop-declaration l = record {
  so_far : l.count + count_of (drop l.declaration-index l.declarations) ≡ count_of l.declarations;
  few : l.count ≤ l.declaration-index;
}
