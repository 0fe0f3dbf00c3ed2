-- The functions of the code of a file, by their numbers.
-- For: `files_agree`, src/lib.rt
-- By: induction over the lists of declarations and of functions that are made; cases of a number
use Rattle.std.proofs.Common.{◌≡◌, ℕ, zero, suc, ◌+◌, Bool, false, List, [], ◌∷◌, ◌++◌, length, map, Some, refl, ap}
use Rattle.std.proofs.Common.{◌∙◌, subst, slice_get, arith, length-append}
use Rattle.std.proofs.lemmas.List.{length-map}
use Rattle.golf_syntax_trees.specs.declared.declarations.Decl.{Decl}
use Rattle.golf_syntax_trees.specs.declared.declarations.Decl.TheVariants as d
use Rattle.golf_syntax_trees.specs.declared.declarations.File.{File}
use Rattle.golf_data.specs.declared.value.Value.{Value}
use Rattle.golf_data.specs.declared.code.Function.{Function}
use Rattle.golf_check_types.specs.declared.scopes.FileScope.{FileScope}
use Rattle.golf_check_types.specs.declared.scopes.Scope.{Scope}
use Rattle.golf_check_types.specs.Files.{outside}
use Rattle.golf_code_of.specs.declared.tables.Tables.{Tables}
use Rattle.golf_code_of.specs.declared.surroundings.Making.{Making}
use Rattle.golf_code_of.specs.Files.{body_laid, function, function_of, functions_from, made_function, entry_body}
use Rattle.golf_code_of.specs.Files.{tables_of, giving, main_number, main_line, code_in, CodeOf}
use Rattle.golf_meaning_flat.specs.Worlds.{Answer, Told}
use Rattle.golf_meaning_flat.specs.Laws.{HasRules, Agree}
use Rattle.golf_meaning_source.specs.Operations.{Taking}
use Rattle.golf_meaning_statements.specs.Functions.{CodeMeaning}
use Rattle.golf_meaning_statements.specs.MadeFunctions.{EntryMeaning}
use Rattle.golf_meaning_statements.specs.Files.{function_count, made_meaning, meaning_at, names_of, made_in}
use Rattle.golf_meaning_statements.specs.Files.{all_functions, taking_in, MeaningOf}
use Rattle.golf_meaning_statements.specs.FunctionLaws.{FilesAgree}
use Rattle.golf_meaning_statements.proofs.Agreeing.{functions-agree}
use Rattle.golf_meaning_statements.proofs.MadeFunctions.{made-functions-agree, entry-agrees}

-- how many functions the code has

own-count : (t : Tables) (gives : List Bool) (file : Scope) (n : ℕ) (xs : List Decl)
    → length (functions_from t gives file n xs).own ≡ function_count xs
own-count t gives file n [] = refl
own-count t gives file n (d.Func f ∷ xs) =
    ap suc (own-count t gives file (n + length (body_laid t file n f).made) xs)
own-count t gives file n (d.Const l m c ∷ xs) = own-count t gives file n xs
own-count t gives file n (d.Var v ∷ xs) = own-count t gives file n xs
own-count t gives file n (d.Struct l m fs ∷ xs) = own-count t gives file n xs

counted : (file : File) → length (CodeOf file).functions ≡ all_functions file
unfolding CodeOf
counted file =
    let xs = file.declarations in
    let names = names_of file in
    let fs = functions_from (tables_of xs) (giving names) (outside names) (length names.functions + 1) xs in
    let own = own-count (tables_of xs) (giving names) (outside names) (length names.functions + 1) xs in
    let both = length-append fs.own (map (made_function (giving names)) fs.made) in
    let made = length-map fs.made (made_function (giving names)) in
    ap suc (both ∙ ap (λ (k : ℕ). k + length (map (made_function (giving names)) fs.made)) own
    ∙ ap (λ (k : ℕ). function_count xs + k) made)

-- each of them agrees with its meaning

same-function : (f g : Function) → Some f ≡ Some g → f ≡ g
same-function f g e = cc

module _ (taking : Taking) where
  -- the function agrees with this meaning
  abbrev DoesAs : (List Value → List Answer → ℕ → Told) → Function → Type 0
  DoesAs told fn = (arguments : List Value) (answers : List Answer) → length arguments ≡ fn.params
      → HasRules (told arguments answers)
      → Agree (told arguments answers) (CodeMeaning taking.gives fn arguments answers)

  module _ (t : Tables) (gives : List Bool) (names : FileScope) where
    made-agree : (ms : List Making) (k : ℕ) (fn : Function) → slice_get (map (made_function gives) ms) k ≡ Some fn
        → DoesAs (made_meaning taking ms k) fn
    made-agree [] k fn is = absurd (cc)
    made-agree (m ∷ ms) zero fn is = subst (DoesAs (made_meaning taking (m ∷ ms) zero))
        (same-function (made_function gives m) fn is) (made-functions-agree taking gives m)
    made-agree (m ∷ ms) (suc k) fn is = made-agree ms k fn is

    own-agree : (made : List Making) (n : ℕ) (xs : List Decl) (k : ℕ) (fn : Function)
        → slice_get ((functions_from t gives (outside names) n xs).own ++ map (made_function gives) made) k ≡ Some fn
        → DoesAs (meaning_at taking t (outside names) made n xs k) fn
    own-agree made n [] k fn is = made-agree made k fn is
    own-agree made n (d.Func f ∷ xs) zero fn is =
        subst (DoesAs (meaning_at taking t (outside names) made n (d.Func f ∷ xs) zero))
        (same-function (function_of t gives (outside names) f (body_laid t (outside names) n f).piece) fn is)
        (functions-agree taking t gives names n f)
    own-agree made n (d.Func f ∷ xs) (suc k) fn is =
        own-agree made (n + length (body_laid t (outside names) n f).made) xs k fn is
    own-agree made n (d.Const l m c ∷ xs) k fn is = own-agree made n xs k fn is
    own-agree made n (d.Var v ∷ xs) k fn is = own-agree made n xs k fn is
    own-agree made n (d.Struct l m fs ∷ xs) k fn is = own-agree made n xs k fn is

    entry-does : (main line : ℕ) (xs : List Decl)
        → DoesAs (λ arguments. EntryMeaning taking t names main xs)
        (function gives 0 0 line (entry_body t names main line xs))
    entry-does main line xs [] answers long ruled = entry-agrees taking t gives names main line xs answers ruled
    entry-does main line xs (v ∷ vs) answers long ruled = absurd (omega (arith, long))

agree-at : (file : File) (k : ℕ) (fn : Function)
    → slice_get (code_in (tables_of file.declarations) (names_of file) file.declarations).functions k ≡ Some fn
    → DoesAs (taking_in file false) (MeaningOf file k) fn
agree-at file zero fn is =
    let xs = file.declarations in
    let names = names_of file in
    let t = tables_of xs in
    let first = function (giving names) 0 0 (main_line xs) (entry_body t names (main_number names) (main_line xs) xs) in
    subst (DoesAs (taking_in file false) (MeaningOf file zero)) (same-function first fn is)
    (entry-does (taking_in file false) t (giving names) names (main_number names) (main_line xs) xs)
agree-at file (suc k) fn is =
    let names = names_of file in
    own-agree (taking_in file false) (tables_of file.declarations) (giving names) names (made_in file)
    (length names.functions + 1) file.declarations k fn is

pub files-agree : FilesAgree
unfolding CodeOf
files-agree file = (counted file, agree-at file)
