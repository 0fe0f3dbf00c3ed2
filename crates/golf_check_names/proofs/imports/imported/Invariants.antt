use Rattle.std.proofs.Common.{◌≡◌, drop}
use Rattle.golf_check_types.specs.Files.{import_faults, with_imports, no_imports}
use Rattle.golf_check_names.proofs.imports.imported.Given as goal

abbrev pub invariant-loop-import : goal.invariant-loop-import
invariant-loop-import l = record {
  faults : import_faults l.found (drop l.import-index l.imports) ≡ import_faults no_imports l.imports;
  imports : with_imports l.found (drop l.import-index l.imports) ≡ with_imports no_imports l.imports;
}
