use Rattle.std.proofs.Common.{refl}
use Rattle.golf_check.proofs.Laws.{typed_scope}
use Rattle.golf_check.proofs.scopes.add_written_types.Goals as goal

pub returns : goal.returns
returns c =
    typed_scope c.args.scope.now _ c.args.decls.now c.in_ok-fields.fields c.in_ok-globals.globals
    c.in_ok-functions.functions c.requires c.in_ok-fields.ensures c.in_ok-globals.ensures c.in_ok-functions.ensures
    refl
