-- Heads of functions, scopes after them and with the written types, walks after parameters, and walks over a file.
-- For: `function`, src/functions.rt; `add_written_types`, src/scopes.rt; `checked_file`, src/files.rt
-- By: cases of the outcome
use Rattle.std.proofs.Common.{◌≡◌, ℕ, List, [], ◌∷◌, ◌++◌, map, refl, sym, ap, subst, ◌∙◌, append_assoc}
use Rattle.std.specs.Prelude.{Option, Some, None, Result, flat_map}
use Rattle.golf_syntax_trees.specs.declared.declarations.Receiver.{Receiver}
use Rattle.golf_syntax_trees.specs.declared.declarations.Func.{Func}
use Rattle.golf_syntax_trees.specs.declared.declarations.Decl.{Decl}
use Rattle.golf_syntax_trees.specs.declared.declarations.Import.{Import}
use Rattle.golf_syntax_trees.specs.declared.declarations.File.{File}
use Rattle.golf_syntax_trees.specs.declared.statements.Var.{Var}
use Rattle.golf_check_types.specs.declared.fault.TypeFault.{TypeFault}
use Rattle.golf_check_types.specs.declared.types.GoType.{GoType}
use Rattle.golf_check_types.specs.declared.operands.Signature.{Signature}
use Rattle.golf_check_types.specs.declared.facts.Fact.{Fact}
use Rattle.golf_check_types.specs.declared.scopes.FileScope.{FileScope}
use Rattle.golf_check_types.specs.declared.scopes.Imports.{Imports}
use Rattle.golf_check_types.specs.declared.scopes.Scope.{Scope}
use Rattle.golf_check_types.specs.Faults.{AnswersOrFault}
use Rattle.golf_check_types.specs.Statements.{Walk, Walked, in_order, both, behind}
use Rattle.golf_check_types.specs.Files.{receiver_walk, parameter_walk, all_typed_names, result_type, head_scope}
use Rattle.golf_check_types.specs.Files.{of_function, func_walk, initial_walk, outside, struct_types, global_types}
use Rattle.golf_check_types.specs.Files.{function_types, with_types, bare_file, file_scope, import_faults, no_imports}
use Rattle.golf_check_types.specs.Files.{with_imports, walk_faults, walk_facts, decl_faults, Broken, facts_in}
use Rattle.golf_check_types.proofs.Seams.{tells_behind}
use Rattle.golf_check_types.proofs.WalkLaws.{behind-both}
use Rattle.golf_check_bodies.specs.declared.checker.Checker.{Checker}
use Rattle.golf_check_bodies.specs.CheckerClauses.{Walks}
use Rattle.golf_check.specs.Heads.{receiver_name, optional_parameter, inner_walks, function_walked, Stays, scope_of}
use Rattle.golf_check.specs.Heads.{typed_file, named_faults}

receiver_walks : (l : ℕ) (file : Scope) (r : Option Receiver)
    → optional_parameter l (receiver_name file r) ≡ receiver_walk l file r
receiver_walks l file None = refl
receiver_walks l file (Some r) = refl

-- a function whose receiver declares so
walked_with : Func → Scope → Walk → Walked
walked_with f file w =
    let ps = all_typed_names file f.parameters in
    let s = head_scope file f in
    let t = behind s (w s) in
    of_function (behind t (in_order (map (parameter_walk f.line) ps) t)).next s (in_order (w ∷ inner_walks f ps) s)

func_walks : (f : Func) (file : Scope) → function_walked f (receiver_name file f.receiver)
    (all_typed_names file f.parameters) (head_scope file f) ≡ func_walk f file
unfolding walked_with
func_walks f file = ap (walked_with f file) (receiver_walks f.line file f.receiver)

-- the head of a function as it was found in the scope of its file
pub record HeadOf (f : Func) (file : Scope) : Type 0 where
  pub receiver : Option (List ℕ × Option GoType)
  pub parameters : List (List ℕ × Option GoType)
  pub result : Option GoType
  pub receiver_is : receiver ≡ receiver_name file f.receiver
  pub parameters_are : parameters ≡ all_typed_names file f.parameters
  pub result_is : result ≡ result_type file f.result

-- the answer for a head and its body is that for the function
pub func_tells : {A : Type 0} (a : Result A TypeFault) (f : Func) (old new : Checker) (head : HeadOf f old.scope)
    → Stays a (function_walked f head.receiver head.parameters (record old.scope { result = head.result })) old new
    → Stays a (func_walk f old.scope) old new
func_tells a f old new head h =
    let file = old.scope in
    subst (λ w. Stays a w old new)
    (ap (λ x. function_walked f x head.parameters (record file { result = head.result })) head.receiver_is
    ∙ ap (λ xs. function_walked f (receiver_name file f.receiver) xs (record file { result = head.result }))
    head.parameters_are
    ∙ ap (λ g. function_walked f (receiver_name file f.receiver) (all_typed_names file f.parameters)
    (record file { result = g })) head.result_is
    ∙ func_walks f file) h

back : Scope → Scope
back s = record s { locals = []; result = None; next = 0 }

-- after a function the scope is as before
pub left_scope : (s t u : Scope) (g : Option GoType) (w : Walked) → s ≡ outside s.file
    → t ≡ behind (record s { result = g }) w → u ≡ record t { locals = []; result = None; next = 0 } → u ≡ s
unfolding back
left_scope s t u g w is at left = left ∙ ap back at ∙ ap back is ∙ sym is

-- a walk that breaks nothing: the checker after it
pub record WalkPasses (w : Walked) (old : Checker) : Type 0 where
  pub after : Checker
  pub none : w.faults ≡ []
  pub scope_is : after.scope ≡ behind old.scope w
  pub facts_are : after.facts ≡ old.facts ++ w.facts

-- if the first walk breaks nothing, the answer of the second tells of both
then_tells : {A : Type 0} (r : Result A TypeFault) (a b : Walked) (old new : Checker) (first : WalkPasses a old)
    → Walks r b first.after new → Walks r (both a b) old new
then_tells r a b old new first h =
    tells_behind r a.faults b.faults (λ _. (new.scope ≡ behind first.after.scope b)
    × (new.facts ≡ first.after.facts ++ b.facts))
    (λ _. (new.scope ≡ behind old.scope (both a b)) × (new.facts ≡ old.facts ++ (a.facts ++ b.facts))) first.none
    (λ _ k. (
      k.0 ∙ ap (λ m. behind m b) first.scope_is ∙ behind-both old.scope a b,
      k.1
          ∙ (ap (λ fs. fs ++ b.facts) first.facts_are ∙ append_assoc old.facts a.facts b.facts),
    )) h

-- if the parameters break nothing, the answer for what stands after them tells of both
pub inner_tells : {A : Type 0} (r : Result A TypeFault) (l : ℕ) (ps : List (List ℕ × Option GoType)) (ws : List Walk)
    (old new : Checker) (passed : WalkPasses (in_order (map (parameter_walk l) ps) old.scope) old)
    → Walks r (in_order ws passed.after.scope) passed.after new
    → Walks r (in_order (in_order (map (parameter_walk l) ps) ∷ ws) old.scope) old new
inner_tells r l ps ws old new passed h =
    let a = in_order (map (parameter_walk l) ps) old.scope in
    then_tells r a (in_order ws (behind old.scope a)) old new passed
    (subst (λ m. Walks r (in_order ws m) passed.after new) passed.scope_is h)

-- a scope whose file has these types
with_written : Scope → List (List (Option GoType)) → List (Option GoType) → List Signature → Scope
with_written s fs gs hs = record s { file = record s.file { fields = fs; globals = gs; functions = hs } }

-- the same with the types that declarations have in this scope
written_in : FileScope → List Decl → Scope → Scope
written_in f xs s = record s {
  file = record f {
    fields = flat_map (struct_types s) xs;
    globals = flat_map (global_types s) xs;
    functions = flat_map (function_types s) xs;
  };
}

-- the types that are written, in the scope outside all functions
pub typed_scope : (s t : Scope) (xs : List Decl) (fs : List (List (Option GoType))) (gs : List (Option GoType))
    (hs : List Signature) → s ≡ outside s.file → fs ≡ flat_map (struct_types s) xs → gs ≡ flat_map (global_types s) xs
    → hs ≡ flat_map (function_types s) xs → t
    ≡ record s { file = record s.file { fields = fs; globals = gs; functions = hs } }
    → t ≡ outside (with_types s.file xs)
unfolding with_written written_in
typed_scope s t xs fs gs hs is fields globals functions at =
    at
    ∙ ap (λ (a : List (List (Option GoType))). with_written s a gs hs) fields
    ∙ ap (λ (a : List (Option GoType)). with_written s (flat_map (struct_types s) xs) a hs) globals
    ∙ ap (λ (a : List Signature). with_written s (flat_map (struct_types s) xs) (flat_map (global_types s) xs) a)
    functions
    ∙ ap (λ (u : Scope). written_in s.file xs u) is

-- Declarations are walked in the scope outside all functions.

pub var_stays : {A : Type 0} (r : Result A TypeFault) (v : Var) (g : ℕ) (old new : Checker)
    → old.scope ≡ outside old.scope.file → Stays r
    (initial_walk v.line v.content (record old.scope { initialises = Some g })) old new
    → Stays r (initial_walk v.line v.content (record (outside old.scope.file) { initialises = Some g })) old new
var_stays r v g old new is h = subst (λ u. Stays r
    (initial_walk v.line v.content (record u { initialises = Some g })) old new) is h

pub func_stays : {A : Type 0} (r : Result A TypeFault) (f : Func) (old new : Checker)
    → old.scope ≡ outside old.scope.file → Stays r (func_walk f old.scope) old new
    → Stays r (func_walk f (outside old.scope.file)) old new
func_stays r f old new is h = subst (λ u. Stays r (func_walk f u) old new) is h

-- Walks over the declarations of a file.

-- after the scope with all types the answer for the declarations is that for the file with its types
pub walked_tells : {A : Type 0} (r : Result A TypeFault) (f : FileScope) (s t : Scope) (old new : List Fact)
    (xs : List Decl) → t ≡ outside f → AnswersOrFault r (walk_faults t.file 0 xs)
    (λ _. (s ≡ t) × (new ≡ old ++ walk_facts t.file 0 xs))
    → AnswersOrFault r (walk_faults f 0 xs) (λ _. (s ≡ outside f) × (new ≡ old ++ walk_facts f 0 xs))
walked_tells r f s t old new xs is h = subst
    (λ (u : Scope). AnswersOrFault r (walk_faults u.file 0 xs) (λ _. (s ≡ u) × (new ≡ old ++ walk_facts u.file 0 xs)))
    is h

-- the answer for the walks in the scope without types is that for the declarations
pub named_tells : {A : Type 0} (r : Result A TypeFault) (i : Imports) (s t : Scope) (old new : List Fact)
    (xs : List Decl) → s ≡ outside (bare_file i xs) → old ≡ []
    → AnswersOrFault r (named_faults s xs) (λ _. (t ≡ outside (typed_file s.file xs))
    × (new ≡ old ++ walk_facts (typed_file s.file xs) 0 xs))
    → AnswersOrFault r (decl_faults i xs) (λ _. (t ≡ outside (file_scope i xs))
    × (new ≡ walk_facts (file_scope i xs) 0 xs))
named_tells r i s t old new xs is none h =
    let begun = subst (λ (fs : List Fact). AnswersOrFault r (named_faults s xs)
    (λ _. (t ≡ outside (typed_file s.file xs)) × (new ≡ fs ++ walk_facts (typed_file s.file xs) 0 xs))) none h in
    subst (λ (u : Scope). AnswersOrFault r (named_faults u xs)
    (λ _. (t ≡ outside (typed_file u.file xs)) × (new ≡ walk_facts (typed_file u.file xs) 0 xs))) is begun

-- the checker after the declarations of a file
abbrev pub FoundIn : Imports → List Decl → Checker → Type 0
FoundIn i ys x = (x.scope ≡ outside (file_scope i ys)) × (x.facts ≡ walk_facts (file_scope i ys) 0 ys)

-- if the imports break nothing, the answer for the declarations tells of the file
pub broken_tells : (r : Result Checker TypeFault) (f : File) (xs : List Import) (ys : List Decl) (i : Imports)
    → xs ≡ f.imports → ys ≡ f.declarations → import_faults no_imports xs ≡ [] → i ≡ with_imports no_imports xs
    → AnswersOrFault r (decl_faults i ys) (FoundIn i ys)
    → AnswersOrFault r (Broken f) (λ x. (x.scope ≡ scope_of f) × (x.facts ≡ facts_in f))
unfolding Broken facts_in scope_of
broken_tells r f xs ys i from at none is h =
    tells_behind r (import_faults no_imports f.imports) (decl_faults (with_imports no_imports f.imports) f.declarations)
    (FoundIn (with_imports no_imports f.imports) f.declarations)
    (FoundIn (with_imports no_imports f.imports) f.declarations)
    (sym (ap (import_faults no_imports) from) ∙ none)
    (λ x k. k)
    (subst (λ (j : Imports). AnswersOrFault r (decl_faults j f.declarations) (FoundIn j f.declarations))
    (is ∙ ap (with_imports no_imports) from)
    (subst (λ (zs : List Decl). AnswersOrFault r (decl_faults i zs) (FoundIn i zs)) at h))
