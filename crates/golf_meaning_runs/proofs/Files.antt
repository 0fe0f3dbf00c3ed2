-- The functions of the code of a file have the masks of their bodies, and types with as many parameters.
-- For: `HasMasks` and `HasParameters`, golf_meaning_runs/specs/Books.antt.
-- By: induction over the list of declarations, and over lists of functions.
use Rattle.std.proofs.Common.{◌≡◌, ℕ, zero, suc, ◌+◌, Bool, List, [], ◌∷◌, ◌++◌, length, map, Some, refl, ap, sym, ◌∙◌}
use Rattle.std.proofs.Common.{slice_get, length-append, arith}
use Rattle.std.proofs.lemmas.List.{length-map}
use Rattle.golf_syntax_trees.specs.declared.declarations.Decl.{Decl}
use Rattle.golf_syntax_trees.specs.declared.declarations.Decl.TheVariants as d
use Rattle.golf_syntax_trees.specs.declared.declarations.Func.{Func}
use Rattle.golf_syntax_trees.specs.declared.declarations.File.{File}
use Rattle.golf_data.specs.declared.code.Function.{Function}
use Rattle.golf_check_types.specs.declared.scopes.FileScope.{FileScope}
use Rattle.golf_check_types.specs.declared.scopes.Scope.{Scope}
use Rattle.golf_check_types.specs.Files.{outside, all_typed_names, receiver_walk, parameter_walk, body_scope}
use Rattle.golf_check_types.specs.Statements.{behind}
use Rattle.golf_check_types.specs.Statements as W
use Rattle.golf_live.specs.Live.{live}
use Rattle.golf_model_typing.specs.Types.{Signature}
use Rattle.golf_model_typing.specs.Types.{Shape}
use Rattle.golf_code_of.specs.declared.tables.Tables.{Tables}
use Rattle.golf_code_of.specs.declared.surroundings.Making.{Making}
use Rattle.golf_code_of.specs.Files.{body_laid, function_of, functions_from, giving, made_function, tables_of, code_in}
use Rattle.golf_code_of.specs.Files.{CodeOf}
use Rattle.golf_code_shapes.specs.Types.{known_type, known_types}
use Rattle.golf_code_shapes.specs.FunctionLaws.{result_scope, parameter_slots, made_signature}
use Rattle.golf_code_shapes.specs.FileLaws.{own_signatures, types_of_code, scope_of, types_of_file}
use Rattle.golf_code_shapes.proofs.Gets.{some-same}
use Rattle.golf_meaning_runs.specs.Books.{HasMasks, HasParameters}

-- each function of a list has the masks of its body
abbrev Masked : List Function → Type 0
Masked fs = (k : ℕ) (fn : Function) → slice_get fs k ≡ Some fn → fn.live ≡ live fn.slots fn.body

one-masked : (f : Function) (fs : List Function) → f.live ≡ live f.slots f.body → Masked fs → Masked (f ∷ fs)
one-masked f fs e h zero fn is = let same : f ≡ fn = cc in ap (λ (g : Function). g.live) (sym same) ∙ e
    ∙ ap (λ (g : Function). live g.slots g.body) same
one-masked f fs e h (suc k) fn is = h k fn is

none-masked : Masked []
none-masked k fn is = cc

append-masked : (fs gs : List Function) → Masked fs → Masked gs → Masked (fs ++ gs)
append-masked [] gs h i k fn is = i k fn is
append-masked (f ∷ fs) gs h i zero fn is = h zero fn is
append-masked (f ∷ fs) gs h i (suc k) fn is = append-masked fs gs (λ j g e. h (suc j) g e) i k fn is

made-masked : (gives : List Bool) (ms : List Making) → Masked (map (made_function gives) ms)
made-masked gives [] = none-masked
made-masked gives (m ∷ ms) = one-masked (made_function gives m) (map (made_function gives) ms) refl
    (made-masked gives ms)

own-masked : (t : Tables) (gives : List Bool) (file : Scope) (n : ℕ) (xs : List Decl)
    → Masked (functions_from t gives file n xs).own
own-masked t gives file n [] = none-masked
own-masked t gives file n (d.Func f ∷ xs) =
    one-masked (function_of t gives file f (body_laid t file n f).piece) _ refl
    (own-masked t gives file (n + length (body_laid t file n f).made) xs)
own-masked t gives file n (d.Const l m c ∷ xs) = own-masked t gives file n xs
own-masked t gives file n (d.Var v ∷ xs) = own-masked t gives file n xs
own-masked t gives file n (d.Struct l m fields ∷ xs) = own-masked t gives file n xs

code-masked : (t : Tables) (f : FileScope) (xs : List Decl) → Masked (code_in t f xs).functions
code-masked t f xs =
    let fs = functions_from t (giving f) (outside f) (length f.functions + 1) xs in
    one-masked _ (fs.own ++ map (made_function (giving f)) fs.made) refl
    (append-masked fs.own (map (made_function (giving f)) fs.made)
    (own-masked t (giving f) (outside f) (length f.functions + 1) xs) (made-masked (giving f) fs.made))

pub files-have-masks : (file : File) → HasMasks (CodeOf file)
unfolding CodeOf
files-have-masks file = code-masked (tables_of file.declarations) (scope_of file) file.declarations

-- functions and their types, in order

abbrev Paired : List Function → List Signature → Type 0
Paired [] [] = Unit {0}
Paired [] (g ∷ gs) = ⊥
Paired (f ∷ fs) [] = ⊥
Paired (f ∷ fs) (g ∷ gs) = (f.params ≡ length g.params) × Paired fs gs

paired-at : (fs : List Function) (gs : List Signature) (k : ℕ) (fn : Function) (sig : Signature) → Paired fs gs
    → slice_get fs k ≡ Some fn → slice_get gs k ≡ Some sig → fn.params ≡ length sig.params
paired-at [] gs k fn sig h e i = cc
paired-at (f ∷ fs) [] k fn sig h e i = cc
paired-at (f ∷ fs) (g ∷ gs) zero fn sig h e i = let a : f ≡ fn = cc in let b : g ≡ sig =
    cc in ap (λ (z : Function). z.params) (sym a) ∙ h.0 ∙ ap (λ (z : Signature). length z.params) b
paired-at (f ∷ fs) (g ∷ gs) (suc k) fn sig h e i = paired-at fs gs k fn sig h.1 e i

-- a function that is there has a signature
signature-of : (fs : List Function) (gs : List Signature) (k : ℕ) (fn : Function) → Paired fs gs
    → slice_get fs k ≡ Some fn → (sig : Signature) × (slice_get gs k ≡ Some sig) × (fn.params ≡ length sig.params)
signature-of [] gs k fn h e = absurd (cc)
signature-of (f ∷ fs) [] k fn h e = absurd h
signature-of (f ∷ fs) (g ∷ gs) zero fn h e =
    (g, refl, ap (λ (z : Function). z.params) (sym (some-same f fn e)) ∙ h.0)
signature-of (f ∷ fs) (g ∷ gs) (suc k) fn h e = signature-of fs gs k fn h.1 e

paired-append : (fs ps : List Function) (gs qs : List Signature) → Paired fs gs → Paired ps qs
    → Paired (fs ++ ps) (gs ++ qs)
paired-append [] ps [] qs h k = k
paired-append [] ps (g ∷ gs) qs h k = absurd h
paired-append (f ∷ fs) ps [] qs h k = absurd h
paired-append (f ∷ fs) ps (g ∷ gs) qs h k = (h.0, paired-append fs ps gs qs h.1 k)

made-paired : (gives : List Bool) (ms : List Making) → Paired (map (made_function gives) ms) (map made_signature ms)
made-paired gives [] = tt
made-paired gives (m ∷ ms) = (sym (length-map m.parameters known_type), made-paired gives ms)

-- receiver and parameters stand in the first slots
parameters-count : (names : FileScope) (f : Func)
    → (body_scope (outside names) f).next ≡ length (known_types (parameter_slots (outside names) f))
parameters-count names f =
    let out = outside names in
    let s = result_scope out f in
    let r = receiver_walk f.line out f.receiver s in
    let p = W.in_order (map (parameter_walk f.line) (all_typed_names out f.parameters)) (behind s r) in
    let many = length-append r.slots p.slots in
    let same = length-map (parameter_slots out f) known_type in
    omega (arith, many, same)

own-paired : (t : Tables) (gives : List Bool) (names : FileScope) (n : ℕ) (xs : List Decl)
    → Paired (functions_from t gives (outside names) n xs).own (own_signatures t (outside names) xs)
own-paired t gives names n [] = tt
own-paired t gives names n (d.Func f ∷ xs) =
    (parameters-count names f, own-paired t gives names (n + length (body_laid t (outside names) n f).made) xs)
own-paired t gives names n (d.Const l m c ∷ xs) = own-paired t gives names n xs
own-paired t gives names n (d.Var v ∷ xs) = own-paired t gives names n xs
own-paired t gives names n (d.Struct l m fields ∷ xs) = own-paired t gives names n xs

code-paired : (t : Tables) (f : FileScope) (xs : List Decl)
    → Paired (code_in t f xs).functions (types_of_code t f xs).functions
code-paired t f xs =
    let fs = functions_from t (giving f) (outside f) (length f.functions + 1) xs in (
      refl,
      paired-append fs.own (map (made_function (giving f)) fs.made) (own_signatures t (outside f) xs)
          (map made_signature fs.made) (own-paired t (giving f) f (length f.functions + 1) xs)
          (made-paired (giving f) fs.made),
    )

pub files-have-parameters : (file : File) (shapes : List (List Shape))
    → HasParameters (CodeOf file) (record { of = types_of_file file; shapes = shapes })
unfolding CodeOf
files-have-parameters file shapes k fn sig is typed =
    paired-at (code_in (tables_of file.declarations) (scope_of file) file.declarations).functions
    (types_of_code (tables_of file.declarations) (scope_of file) file.declarations).functions k fn sig
    (code-paired (tables_of file.declarations) (scope_of file) file.declarations) is typed

pub files-have-signatures : (file : File) (k : ℕ) (fn : Function) → slice_get (CodeOf file).functions k ≡ Some fn
    → (sig : Signature) × (slice_get (types_of_file file).functions k ≡ Some sig) × (fn.params ≡ length sig.params)
unfolding CodeOf
files-have-signatures file k fn is =
    signature-of (code_in (tables_of file.declarations) (scope_of file) file.declarations).functions
    (types_of_code (tables_of file.declarations) (scope_of file) file.declarations).functions k fn
    (code-paired (tables_of file.declarations) (scope_of file) file.declarations) is
