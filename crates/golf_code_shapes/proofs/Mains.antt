-- `main` takes nothing and gives nothing.
-- For: `main_fits`, src/lib.rt
-- By: induction over the list of declarations
use Rattle.std.proofs.Common.{◌≡◌, ℕ, ◌+◌, Bool, true, false, not, cond, fold, List, [], ◌∷◌, ◌++◌, length, map}
use Rattle.std.proofs.Common.{flat_map, Option, Some, None, refl, sym, ap, ◌∙◌, subst, slice_get, arith, append_assoc}
use Rattle.std.proofs.Common.{length-append}
use Rattle.std.proofs.lemmas.Bool.{and_parts}
use Rattle.std.specs.Prelude.{codes}
use Rattle.std.specs.Option.{option_map, option_and_then}
use Rattle.std.proofs.lemmas.Grind.{flat_map-append}
use Rattle.std.proofs.lemmas.Slice.Eq.{bytes_eq-Decides}
use Rattle.golf_syntax_trees.specs.declared.types.TypeExpr.{TypeExpr}
use Rattle.golf_syntax_trees.specs.declared.declarations.Field.{Field}
use Rattle.golf_syntax_trees.specs.declared.declarations.Receiver.{Receiver}
use Rattle.golf_syntax_trees.specs.declared.declarations.Func.{Func}
use Rattle.golf_syntax_trees.specs.declared.declarations.Decl.{Decl}
use Rattle.golf_syntax_trees.specs.declared.declarations.Decl.TheVariants as d
use Rattle.golf_check_types.specs.declared.types.GoType.{GoType}
use Rattle.golf_check_types.specs.declared.scopes.Entity.{Entity}
use Rattle.golf_check_types.specs.declared.scopes.Entity.TheVariants as meant
use Rattle.golf_check_types.specs.declared.scopes.Naming.{Naming}
use Rattle.golf_check_types.specs.declared.scopes.FileScope.{FileScope}
use Rattle.golf_check_types.specs.declared.scopes.Scope.{Scope}
use Rattle.golf_check_types.specs.Names.{number_of, is_number, is_blank}
use Rattle.golf_check_types.specs.Scopes.{is_reserved}
use Rattle.golf_check_types.specs.Statements as W
use Rattle.golf_check_types.specs.Statements.{behind}
use Rattle.golf_check_types.specs.Faults.{broken}
use Rattle.golf_check_types.specs.Files.{function_names, function_added, decl_added, no_names, naming_of, Above}
use Rattle.golf_check_types.specs.Files.{next_above, none_above, may_be_named, function_faults, name_faults}
use Rattle.golf_check_types.specs.Files.{names_faults, is_bare, is_main, fits_main, is_main_function, declares_main}
use Rattle.golf_check_types.specs.Files.{line_of, main_faults, bare_file, outside, all_typed_names, receiver_walk}
use Rattle.golf_check_types.specs.Files.{parameter_walk, result_type}
use Rattle.golf_code_of.specs.Files.{number_of_function, main_number}
use Rattle.golf_code_shapes.specs.Types.{value_type, known_types}
use Rattle.golf_code_shapes.specs.FunctionLaws.{result_scope, function_signature}
use Rattle.golf_code_shapes.specs.FileLaws.{types_of_code}
use Rattle.golf_code_shapes.proofs.Typings.{none-left, none-right, kept}
use Rattle.golf_code_shapes.specs.Parts.{functions_of}
use Rattle.golf_code_shapes.specs.NameLaws.{named_with, MainFits}
use Rattle.golf_model_typing.proofs.Gets.{slice_get-left}
use Rattle.golf_code_shapes.proofs.Gets.{get-behind}
use Rattle.golf_code_shapes.proofs.Meanings.{Counted, counted-decl}
use Rattle.golf_code_shapes.proofs.Callees.{function-there}

-- what a name means stays
function-keeps : (k : Naming) (r : Option Receiver) (n : List ℕ) (j : ℕ) (m : Entity) → slice_get k.entities j ≡ Some m
    → slice_get (function_added k r n).entities j ≡ Some m
function-keeps k None n j m e = slice_get-left k.entities _ j m e
function-keeps k (Some r) n j m e = e

decl-keeps : (k : Naming) (x : Decl) (j : ℕ) (m : Entity) → slice_get k.entities j ≡ Some m
    → slice_get (decl_added k x).entities j ≡ Some m
decl-keeps k (d.Func f) j m e = function-keeps k f.receiver f.name j m e
decl-keeps k _ j m e = slice_get-left k.entities _ j m e

naming-keeps : (k : Naming) (xs : List Decl) (j : ℕ) (m : Entity) → slice_get k.entities j ≡ Some m
    → slice_get (fold decl_added k xs).entities j ≡ Some m
naming-keeps k [] j m e = e
naming-keeps k (x ∷ xs) j m e = naming-keeps (decl_added k x) xs j m (decl-keeps k x j m e)

-- the declarations above are counted alike
record Above-is (a : Above) (k : Naming) : Type 0 where
  pub names : a.names ≡ length k.entities
  pub functions : a.functions ≡ k.functions

pushed-long : (ms : List Entity) (m : Entity) (n : ℕ) → n ≡ length ms → n + 1 ≡ length (ms ++ m ∷ [])
pushed-long ms m n e = let g = length-append ms (m ∷ []) in omega (arith, e, g)

same-zero : (n m : ℕ) → n ≡ m → n + 0 ≡ m
same-zero n m e = omega (arith, e)

function-above : (a : Above) (k : Naming) (f : Func) (r : Option Receiver) → f.receiver ≡ r → Above-is a k
    → Above-is (next_above a (d.Func f)) (function_added k r f.name)
function-above a k f None is h = record {
  names = subst (λ (r : Option Receiver). a.names + function_names r ≡ length (function_added k None f.name).entities)
      (sym is) (pushed-long k.entities (meant.Function k.functions) a.names h.names);
  functions = ap (λ n. n + 1) h.functions;
}
function-above a k f (Some r) is h = record {
  names = subst (λ (r : Option Receiver). a.names + function_names r ≡ length k.entities) (sym is)
      (same-zero a.names (length k.entities) h.names);
  functions = ap (λ n. n + 1) h.functions;
}

next-above : (a : Above) (k : Naming) (x : Decl) → Above-is a k → Above-is (next_above a x) (decl_added k x)
next-above a k (d.Const l n c) h = record {
  names = pushed-long k.entities _ a.names h.names;
  functions = same-zero a.functions k.functions h.functions;
}
next-above a k (d.Var v) h = record {
  names = pushed-long k.entities _ a.names h.names;
  functions = same-zero a.functions k.functions h.functions;
}
next-above a k (d.Struct l n fs) h = record {
  names = pushed-long k.entities _ a.names h.names;
  functions = same-zero a.functions k.functions h.functions;
}
next-above a k (d.Func f) h = function-above a k f f.receiver refl h

-- `main` is a function of these declarations without parameters and result
record MainIs (names : FileScope) (k : Naming) (xs : List Decl) : Type 0 where
  pub main : Func
  pub place : ℕ
  pub number : ℕ
  pub named : number_of names.names (codes "main") ≡ Some place
  pub means : slice_get k.entities place ≡ Some (meant.Function number)
  pub there : slice_get (flat_map functions_of xs) number ≡ Some main
  pub receiver : main.receiver ≡ None
  pub parameters : main.parameters ≡ []
  pub result : main.result ≡ None

bare-parts : (f : Func) (r : Option Receiver) (ps : List Field) (o : Option TypeExpr) → is_bare f r ps o ≡ true
    → (r ≡ None) × (ps ≡ []) × (o ≡ None)
bare-parts f None [] None e = (refl, refl, refl)
bare-parts f None [] (Some o) e = cc
bare-parts f None (p ∷ ps) o e = cc
bare-parts f (Some r) ps o e = cc

numbered : (o : Option ℕ) (k : ℕ) → is_number o k ≡ true → o ≡ Some k
numbered None k e = cc
numbered (Some j) k e = let is : j ≡ k = grind (arith, e) in ap Some is

named-main : (f : FileScope) (at : ℕ) (n : List ℕ) → is_main n ≡ true → may_be_named f at n ≡ true
    → number_of f.names (codes "main") ≡ Some at
unfolding is_main may_be_named
named-main f at n is may =
    let one = and_parts (not (is_blank n)) _ may in
    let two = and_parts (not (is_reserved n)) _ one.1 in
    subst (λ m. number_of f.names m ≡ Some at) ((bytes_eq-Decides n (codes "main")).0 is)
    (numbered (number_of f.names n) at two.1)

module _ (names : FileScope) (pre rest : List Decl) (k : Naming) (a : Above) (c : Counted pre k)
    (above : Above-is a k) where
  this-main : (f : Func) → name_faults names a (d.Func f) ≡ [] → declares_main (d.Func f) ≡ true
      → fits_main (d.Func f) ≡ true → MainIs names (fold decl_added k (d.Func f ∷ rest)) (pre ++ d.Func f ∷ rest)
  this-main f none is bare =
      let b = bare-parts f f.receiver f.parameters f.result bare in
      let clean = subst (λ r. function_faults names a f r ≡ []) b.0 none in
      let main = subst (λ r. is_main_function r f.name ≡ true) b.0 is in
      let may = and_parts (may_be_named names a.names f.name) _ (kept f.line 2 _ clean) in
      let new = subst (λ r. slice_get (function_added k r f.name).entities a.names ≡ Some (meant.Function k.functions))
      (sym b.0) (get-behind k.entities (meant.Function k.functions) [] a.names above.names) in
      record {
        main = f;
        place = a.names;
        number = k.functions;
        named = named-main names a.names f.name main may.0;
        means = naming-keeps (decl_added k (d.Func f)) rest a.names (meant.Function k.functions) new;
        there = subst (λ fs. slice_get fs k.functions ≡ Some f)
            (sym (flat_map-append functions_of pre (d.Func f ∷ rest)))
            (get-behind (flat_map functions_of pre) f (flat_map functions_of rest) k.functions c.functions);
        receiver = b.0;
        parameters = b.1;
        result = b.2;
      }

  main-here : (x : Decl) → name_faults names a x ≡ [] → declares_main x ≡ true → fits_main x ≡ true
      → MainIs names (fold decl_added k (x ∷ rest)) (pre ++ x ∷ rest)
  main-here (d.Func f) none is bare = this-main f none is bare
  main-here _ none is bare = cc

find-main : (names : FileScope) (pre xs : List Decl) (k : Naming) (a : Above) → Counted pre k → Above-is a k
    → names_faults names a xs ≡ [] → main_faults xs ≡ [] → MainIs names (fold decl_added k xs) (pre ++ xs)
find-main names pre [] k a c above none main = cc
find-main names pre (x ∷ xs) k a c above none main =
    by-test (declares_main x) refl main (λ h. find-main names (pre ++ x ∷ []) xs (decl_added k x) (next_above a x)
    (counted-decl pre x k c) (next-above a k x above) (none-right (name_faults names a x) _ none) h)
  where
    by-test : (b : Bool) → declares_main x ≡ b → cond b (broken (line_of x) 6 (fits_main x)) (main_faults xs) ≡ []
        → (main_faults xs ≡ [] → MainIs names (fold decl_added k (x ∷ xs)) ((pre ++ x ∷ []) ++ xs))
        → MainIs names (fold decl_added k (x ∷ xs)) (pre ++ x ∷ xs)
    by-test true is h more = main-here names pre xs k a c above x (none-left (name_faults names a x) _ none) is
        (kept (line_of x) 6 (fits_main x) h)
    by-test false is h more = subst (MainIs names (fold decl_added k (x ∷ xs))) (append_assoc pre (x ∷ []) xs) (more h)

-- the slots of a receiver and parameters
abbrev entry_slots : Scope → ℕ → Option Receiver → List Field → Scope → List (Option GoType)
entry_slots file l r ps s = (receiver_walk l file r s).slots
    ++ (W.in_order (map (parameter_walk l) (all_typed_names file ps)) (behind s (receiver_walk l file r s))).slots

pub main-fits : MainFits
main-fits i xs globals t w none =
    let f = named_with i xs globals in
    let out = outside f in
    let m = find-main (bare_file i xs) [] xs no_names none_above
    (record { constants = refl; globals = refl; functions = refl; structs = refl; entities = tt })
    (record { names = refl; functions = refl }) w.names none in
    let fn = m.main in
    let means = ap (option_and_then (slice_get (naming_of xs).entities)) m.named ∙ m.means in
    let is : main_number f ≡ m.number + 1 = ap number_of_function means in
    let s = result_scope out fn in
    let slots : known_types (entry_slots out fn.line fn.receiver fn.parameters s) ≡ [] =
    subst (λ r. known_types (entry_slots out fn.line r fn.parameters s) ≡ []) (sym m.receiver)
    (subst (λ ps. known_types (entry_slots out fn.line None ps s) ≡ []) (sym m.parameters) refl) in (
      function_signature t out fn,
      subst (λ n. slice_get (types_of_code t f xs).functions n ≡ Some (function_signature t out fn)) (sym is)
          (function-there i xs globals w t m.number fn m.there),
      slots,
      ap (λ o. option_map value_type (result_type out o)) m.result,
    )
