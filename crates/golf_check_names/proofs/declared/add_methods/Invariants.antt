use Rattle.std.proofs.Common.{◌≡◌, drop}
use Rattle.golf_check_types.specs.Files.{methods_added}
use Rattle.golf_check_names.proofs.declared.add_methods.Given as goal

abbrev pub invariant-loop-decl : goal.invariant-loop-decl
invariant-loop-decl l = record {
  kept : l.naming ≡ record l.fn.naming { structs = l.naming.structs };
  methods : methods_added l.fn.naming l.number l.naming.structs (drop l.decl-index l.decls)
      ≡ methods_added l.fn.naming 0 l.fn.naming.structs l.decls;
}
