-- The tree breaks no rule.
-- For: `tree` (golf_command_sample_accepted/specs/Trees.antt)
-- By: induction over the number of parts
use Rattle.std.proofs.Common.{◌≡◌, ℕ, zero, suc, ◌+◌, ◌<◌, ◌≤◌, ◌^◌, ◌==◌, true, false, ◌&&◌, refl, ap, ◌∙◌, List, []}
use Rattle.std.proofs.Common.{◌∷◌, ◌++◌, codes, arith}
use Rattle.std.specs.Prelude.{Option, None, flat_map}
use Rattle.std.proofs.lemmas.Bool.Decides.{nat_tests}
use Rattle.golf_syntax_trees.specs.declared.types.TypeExpr.TheVariants as ty
use Rattle.golf_syntax_trees.specs.declared.types.TypeExpr.TheOpen as TF
use Rattle.golf_syntax_trees.specs.declared.declarations.Decl.{Decl}
use Rattle.golf_syntax_trees.specs.declared.declarations.Decl.TheVariants as d
use Rattle.golf_check_types.specs.declared.types.GoType.{GoType}
use Rattle.golf_check_types.specs.declared.operands.Signature.{Signature}
use Rattle.golf_check_types.specs.declared.scopes.Imports.{Imports}
use Rattle.golf_check_types.specs.declared.scopes.Entity.TheVariants as meant_as
use Rattle.golf_check_types.specs.declared.scopes.Member.TheVariants as member_as
use Rattle.golf_check_types.specs.declared.scopes.Members.{Members}
use Rattle.golf_check_types.specs.declared.scopes.Naming.{Naming}
use Rattle.golf_check_types.specs.declared.scopes.FileScope.{FileScope}
use Rattle.golf_check_types.specs.declared.scopes.Scope.{Scope}
use Rattle.golf_check_types.specs.Faults.{Fault, broken}
use Rattle.golf_check_types.specs.Names.{is_number}
use Rattle.golf_check_types.specs.Scopes.{meaning, type_name, value_name, call_name, package_name, is_reserved}
use Rattle.golf_check_types.specs.Written.{WriteType, write, write_step, named_base}
use Rattle.golf_check_types.specs.Files.{naming_of, methods_added, Above, next_above, none_above, may_be_named}
use Rattle.golf_check_types.specs.Files.{names_faults, type_faults, main_faults, is_main, outside, bare_file}
use Rattle.golf_check_types.specs.Files.{with_types, with_forms, file_scope, struct_types, global_types, function_types}
use Rattle.golf_check_types.specs.Files.{walk_faults, package_of, decl_faults, Broken, Typed}
use Rattle.golf_check_types.proofs.Seams.{none_of_both}
use Rattle.golf_code_of.proofs.TypeWrites as w
use Rattle.golf_command_sample_accepted.specs.Trees.{part_name, part_decl, part_line, parts_before, main_decl}
use Rattle.golf_command_sample_accepted.specs.Trees.{node_decl, root_decl, wait_func, later, tree}
use Rattle.golf_command_sample_accepted.proofs.Tables.{place, all_entries, all_meant, skip-word, found-part}
use Rattle.golf_command_sample_accepted.proofs.Tables.{naming-parts, add-main}
use Rattle.golf_command_sample_accepted.proofs.Judging.{int_written, part-keeps}
use Rattle.golf_command_sample_accepted.proofs.Mainly.{int_signature, main_signature, signatures, scope, main-keeps}
use Rattle.golf_command_sample_accepted.proofs.Mainly.{wait-keeps}

abbrev decls : ℕ → List Decl
decls n = node_decl ∷ root_decl ∷ d.Func wait_func ∷ later n

abbrev imported : Imports
imported = record { fmt = false; runtime = true; sync = false }

-- Names.

abbrev node_members : List Members
node_members = record {
  names = (codes "c", 0) ∷ (codes "next", 1) ∷ [];
  kinds = member_as.Field 0 ∷ member_as.Field 1
      ∷ [];
} ∷ []

abbrev bare_by : Naming → List Members → FileScope
bare_by k structs = record {
  imports = imported;
  names = k.names;
  entities = k.entities;
  structs = structs;
  fields = [];
  globals = [];
  functions = [];
}

abbrev whole_naming : ℕ → Naming
whole_naming n = record {
  constants = 0;
  globals = 1;
  functions = suc (suc n);
  names = (codes "Node", 0) ∷ (codes "root", 1) ∷ (codes "wait", 2) ∷ all_entries n;
  entities = meant_as.Struct 0 ∷ meant_as.Global 0 ∷ meant_as.Function 0 ∷ all_meant n;
  structs = node_members;
}

naming-all : (n : ℕ) → n < 2 ^ 32 → naming_of (decls n) ≡ whole_naming n
naming-all n small = naming-parts n (main_decl n (part_line n) ∷ []) (omega arith) ∙ add-main n n (part_line n)

methods-parts : (k : Naming) (structs : List Members) (n f : ℕ) (ds : List Decl)
    → ((g : ℕ) → methods_added k g structs ds ≡ structs) → methods_added k f structs (parts_before n ds) ≡ structs
methods-parts k structs zero f ds h = h f
methods-parts k structs (suc n) f ds h =
    methods-parts k structs n f (part_decl (suc n) (part_line n) ∷ ds) (λ g. h (g + 1))

abbrev bare : ℕ → FileScope
bare n = bare_by (whole_naming n) node_members

bare-is : (n : ℕ) → n < 2 ^ 32 → bare_file imported (decls n) ≡ bare n
bare-is n small =
    ap (λ k. bare_by k (methods_added k 0 k.structs (decls n))) (naming-all n small)
    ∙ ap (bare_by (whole_naming n)) (methods-parts (whole_naming n) node_members n 1 (main_decl n (part_line n) ∷ [])
    (λ g. refl))

-- Types.

flat-none : {B : Type 0} (g : Decl → List B) → ((k l : ℕ) → g (part_decl k l) ≡ []) → (n : ℕ) (ds : List Decl)
    → flat_map g (parts_before n ds) ≡ flat_map g ds
flat-none g h zero ds = refl
flat-none g h (suc n) ds = flat-none g h n (part_decl (suc n) (part_line n) ∷ ds)
    ∙ ap (λ xs. xs ++ flat_map g ds) (h (suc n) (part_line n))

flat-signatures : (g : Decl → List Signature) → ((k l : ℕ) → g (part_decl k l) ≡ int_signature ∷ [])
    → (n : ℕ) (ds : List Decl) → flat_map g (parts_before n ds) ≡ signatures n (flat_map g ds)
flat-signatures g h zero ds = refl
flat-signatures g h (suc n) ds = flat-signatures g h n (part_decl (suc n) (part_line n) ∷ ds)
    ∙ ap (λ xs. signatures n (xs ++ flat_map g ds)) (h (suc n) (part_line n))

abbrev chan_written : WriteType
chan_written = write_step (TF.Chan int_written)

abbrev node_written : WriteType
node_written = write_step (TF.Pointer (codes "Node"))

chan-write : write (ty.Chan (ty.Named (codes "int"))) ≡ chan_written
chan-write = w.write-Chan (ty.Named (codes "int")) ∙ ap (λ x. write_step (TF.Chan x)) (w.write-Named (codes "int"))

part-signature : (n k l : ℕ) → function_types (outside (bare n)) (part_decl k l) ≡ int_signature ∷ []
unfolding named_base
part-signature n k l = ap (λ (x : WriteType). record { parameters = (x 0 (outside (bare n))).type ∷ []; result = None }
    ∷ []) (w.write-Named (codes "int"))

abbrev typed_by : ℕ → WriteType → WriteType → List (List (Option GoType)) → List (Option GoType) → List Signature
    → FileScope
typed_by n x y fields globals functions =
    let s = outside (bare n) in
    record (bare n) {
      fields = ((x 0 s).type ∷ (y 0 s).type ∷ []) ∷ fields;
      globals = (y 0 s).type ∷ globals;
      functions = record { parameters = (x 0 s).type ∷ []; result = None } ∷ functions;
    }

types-are : (n : ℕ) → with_types (bare n) (decls n) ≡ (scope n).file
unfolding meaning named_base
types-are n =
    let s = outside (bare n) in
    let last = main_decl n (part_line n) ∷ [] in
    ap (λ x. typed_by n x (write (ty.Pointer (codes "Node"))) (flat_map (struct_types s) (later n))
    (flat_map (global_types s) (later n)) (flat_map (function_types s) (later n))) chan-write
    ∙ ap (λ y. typed_by n chan_written y (flat_map (struct_types s) (later n)) (flat_map (global_types s) (later n))
    (flat_map (function_types s) (later n))) (w.write-Pointer (codes "Node"))
    ∙ ap (λ a. typed_by n chan_written node_written a (flat_map (global_types s) (later n))
    (flat_map (function_types s) (later n))) (flat-none (struct_types s) (λ k l. refl) n last)
    ∙ ap (λ a. typed_by n chan_written node_written [] a (flat_map (function_types s) (later n)))
    (flat-none (global_types s) (λ k l. refl) n last)
    ∙ ap (λ a. typed_by n chan_written node_written [] [] a)
    (flat-signatures (function_types s) (part-signature n) n last)

forms-parts : (f : FileScope) (g n : ℕ) (ds : List Decl) → with_forms f g (parts_before n ds) ≡ with_forms f g ds
forms-parts f g zero ds = refl
forms-parts f g (suc n) ds = forms-parts f g n (part_decl (suc n) (part_line n) ∷ ds)

scope-is : (n : ℕ) → n < 2 ^ 32 → file_scope imported (decls n) ≡ (scope n).file
scope-is n small =
    ap (λ f. with_forms (with_types f (decls n)) 0 (decls n)) (bare-is n small)
    ∙ ap (λ f. with_forms f 0 (decls n)) (types-are n)
    ∙ forms-parts (scope n).file 1 n (main_decl n (part_line n) ∷ [])

-- Faults of names.

abbrev above : ℕ → Above
above zero = record { names = 3; structs = 1; functions = 1 }
above (suc n) = next_above (above n) (part_decl 0 0)

above-names : (n : ℕ) → (above n).names ≡ place n
above-names zero = refl
above-names (suc n) = omega (arith, above-names n)

is-same : (a b : ℕ) → a ≡ b → b == a ≡ true
is-same a b h = grind (arith, nat_tests)

part-named : (n j : ℕ) → j < n → n < 2 ^ 32 → may_be_named (bare n) (above j).names (part_name (suc j)) ≡ true
unfolding may_be_named type_name value_name call_name package_name is_reserved
part-named n j less small =
    let wide : n < 2 ^ 64 = omega arith in
    ap (λ o. is_number o (above j).names) (found-part n j ((codes "main", place n) ∷ []) less wide)
    ∙ is-same (above j).names (place j) (above-names j)

names-parts : (n m : ℕ) (ds : List Decl) → m ≤ n → n < 2 ^ 32
    → names_faults (bare n) (above 0) (parts_before m ds) ≡ names_faults (bare n) (above m) ds
names-parts n zero ds most small = refl
names-parts n (suc m) ds most small =
    names-parts n m (part_decl (suc m) (part_line m) ∷ ds) (omega arith) small
    ∙ ap (λ b. broken (part_line m) 2 (b && true) ++ names_faults (bare n) (above (suc m)) ds)
    (part-named n m (omega arith) small)

main-named : (n : ℕ) → may_be_named (bare n) (above n).names (codes "main") ≡ true
unfolding may_be_named type_name value_name call_name package_name is_reserved
main-named n = ap (λ o. is_number o (above n).names)
    (skip-word (codes "main") (λ k. refl) n ((codes "main", place n) ∷ []))
    ∙ is-same (above n).names (place n) (above-names n)

names-keep : (n : ℕ) → n < 2 ^ 32 → names_faults (bare n) none_above (decls n) ≡ []
unfolding may_be_named type_name value_name call_name package_name is_reserved
names-keep n small =
    names-parts n n (main_decl n (part_line n) ∷ []) (omega arith) small
    ∙ ap (λ b. broken (part_line n) 2 (b && true) ++ []) (main-named n)

-- Faults of written types.

part-written : (s : Scope) (k l : ℕ) → type_faults s (part_decl k l) ≡ []
unfolding named_base
part-written s k l = ap (λ (x : WriteType). ((x l s).faults ++ []) ++ []) (w.write-Named (codes "int"))

abbrev written_by : Scope → WriteType → WriteType → List Fault → List Fault
written_by s x y fs = ((x 5 s).faults ++ ((y 5 s).faults ++ []))
    ++ ((y 10 s).faults ++ ((((x 12 s).faults ++ []) ++ []) ++ fs))

types-keep : (n : ℕ) → flat_map (type_faults (outside (bare n))) (decls n) ≡ []
unfolding meaning named_base
types-keep n =
    let s = outside (bare n) in
    ap (λ x. written_by s x (write (ty.Pointer (codes "Node"))) (flat_map (type_faults s) (later n))) chan-write
    ∙ ap (λ y. written_by s chan_written y (flat_map (type_faults s) (later n))) (w.write-Pointer (codes "Node"))
    ∙ flat-none (type_faults s) (part-written s) n (main_decl n (part_line n) ∷ [])

-- `main` is there.

mains-parts : (n : ℕ) (ds : List Decl) → main_faults (parts_before n ds) ≡ main_faults ds
unfolding is_main
mains-parts zero ds = refl
mains-parts (suc n) ds = mains-parts n (part_decl (suc n) (part_line n) ∷ ds)

main-there : (n : ℕ) → main_faults (decls n) ≡ []
unfolding is_main
main-there n = mains-parts n (main_decl n (part_line n) ∷ [])

-- Bodies.

walks-parts : (n m : ℕ) (ds : List Decl)
    → walk_faults (scope n).file 1 (parts_before m ds) ≡ walk_faults (scope n).file 1 ds
walks-parts n zero ds = refl
walks-parts n (suc m) ds =
    walks-parts n m (part_decl (suc m) (part_line m) ∷ ds)
    ∙ ap (λ fs. fs ++ walk_faults (scope n).file 1 ds)
    (part-keeps (suc m) (part_line m) (all_entries n) (all_meant n) (signatures n (main_signature ∷ [])))

walks-keep : (n : ℕ) → n < 2 ^ 32 → walk_faults (scope n).file 0 (decls n) ≡ []
walks-keep n small =
    ap (λ fs. fs ++ walk_faults (scope n).file 1 (later n)) (wait-keeps n)
    ∙ walks-parts n n (main_decl n (part_line n) ∷ [])
    ∙ ap (λ fs. fs ++ []) (main-keeps n (part_line n) small)

decls-keep : (n : ℕ) → n < 2 ^ 32 → decl_faults imported (decls n) ≡ []
decls-keep n small =
    none_of_both _ _ (ap (λ f. names_faults f none_above (decls n)) (bare-is n small) ∙ names-keep n small)
    (none_of_both _ _ (ap (λ f. flat_map (type_faults (outside f)) (decls n)) (bare-is n small) ∙ types-keep n)
    (none_of_both _ _ (main-there n) (ap (λ f. walk_faults f 0 (decls n)) (scope-is n small) ∙ walks-keep n small)))

pub tree-typed : (n : ℕ) → n < 2 ^ 32 → Typed (tree n)
unfolding Broken package_of
tree-typed n small = decls-keep n small
