use Rattle.std.proofs.Common.{◌≡◌, drop}
use Rattle.golf_check_types.specs.Files.{path_faults, with_paths}
use Rattle.golf_check_names.proofs.imports.import_paths.Given as goal

abbrev pub invariant-loop-path : goal.invariant-loop-path
invariant-loop-path l = record {
  faults : path_faults l.line l.imports (drop l.path-index l.paths) ≡ path_faults l.line l.fn.imports l.paths;
  imports : with_paths l.imports (drop l.path-index l.paths) ≡ with_paths l.fn.imports l.paths;
}
