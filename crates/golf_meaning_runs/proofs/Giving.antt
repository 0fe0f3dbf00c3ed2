-- The functions of a file that give a value are those whose types say so.
-- For: `giving_in`, golf_meaning_statements/specs/Files.antt; `FileTaken`, specs/Sound.antt
-- By: induction over the lists of declarations, of signatures and of functions that are made
use Rattle.std.proofs.Common.{◌≡◌, ℕ, zero, suc, Bool, false, List, [], ◌∷◌, ◌++◌, map, Option, Some, None, refl, ap}
use Rattle.std.proofs.Common.{sym, ◌∙◌, slice_get}
use Rattle.std.specs.Prelude.{is_some, unwrap_or}
use Rattle.std.specs.Option.{option_map}
use Rattle.golf_syntax_trees.specs.declared.declarations.Decl.{Decl}
use Rattle.golf_syntax_trees.specs.declared.declarations.Decl.TheVariants as d
use Rattle.golf_syntax_trees.specs.declared.declarations.File.{File}
use Rattle.golf_check_types.specs.declared.types.GoType.{GoType}
use Rattle.golf_check_types.specs.declared.scopes.Scope.{Scope}
use Rattle.golf_check_types.specs.Files.{outside, result_type}
use Rattle.golf_code_of.specs.declared.surroundings.Making.{Making}
use Rattle.golf_code_of.specs.declared.tables.Tables.{Tables}
use Rattle.golf_code_of.specs.Files.{tables_of}
use Rattle.golf_model_typing.specs.Types.{Signature}
use Rattle.golf_code_shapes.specs.Types.{value_type}
use Rattle.golf_code_shapes.specs.FunctionLaws.{made_signature}
use Rattle.golf_code_shapes.specs.FileLaws.{own_signatures, scope_of, types_of_file}
use Rattle.golf_meaning_statements.specs.Files.{results_in, made_in, giving_in}

-- whether each of these gives a value
abbrev given : List Signature → List Bool
given sigs = map (λ (sig : Signature). is_some sig.result) sigs

given-append : (xs ys : List Signature) → given (xs ++ ys) ≡ given xs ++ given ys
given-append [] ys = refl
given-append (x ∷ xs) ys = ap (λ bs. is_some x.result ∷ bs) (given-append xs ys)

some-typed : (o : Option GoType) → is_some o ≡ is_some (option_map value_type o)
some-typed None = refl
some-typed (Some t) = refl

own-given : (t : Tables) (file : Scope) (xs : List Decl) → results_in file xs ≡ given (own_signatures t file xs)
own-given t file [] = refl
own-given t file (d.Func f ∷ xs) = ap (λ b. b ∷ results_in file xs) (some-typed (result_type file f.result))
    ∙ ap (λ bs. is_some (option_map value_type (result_type file f.result)) ∷ bs) (own-given t file xs)
own-given t file (d.Var v ∷ xs) = own-given t file xs
own-given t file (d.Const l n c ∷ xs) = own-given t file xs
own-given t file (d.Struct l n fields ∷ xs) = own-given t file xs

made-given : (ms : List Making) → map (λ (m : Making). false) ms ≡ given (map made_signature ms)
made-given [] = refl
made-given (m ∷ ms) = ap (λ bs. false ∷ bs) (made-given ms)

pub gives-are : (file : File) → giving_in file ≡ map (λ (sig : Signature). is_some sig.result)
    (types_of_file file).functions
gives-are file =
    let own = own_signatures (tables_of file.declarations) (outside (scope_of file)) file.declarations in
    ap (λ bs. false ∷ (bs ++ map (λ (m : Making). false) (made_in file)))
    (own-given (tables_of file.declarations) (outside (scope_of file)) file.declarations)
    ∙ ap (λ bs. false ∷ (given own ++ bs)) (made-given (made_in file))
    ∙ ap (λ bs. false ∷ bs) (sym (given-append own (map made_signature (made_in file))))

given-at : (sigs : List Signature) (k : ℕ) (sig : Signature) → slice_get sigs k ≡ Some sig
    → unwrap_or (slice_get (given sigs) k) false ≡ is_some sig.result
given-at [] k sig e = cc
given-at (s ∷ sigs) zero sig e = let same : s ≡ sig = cc in ap (λ (z : Signature). is_some z.result) same
given-at (s ∷ sigs) (suc k) sig e = given-at sigs k sig e

pub gives-by-type : (file : File) (k : ℕ) (callee : Signature)
    → slice_get (types_of_file file).functions k ≡ Some callee
    → unwrap_or (slice_get (giving_in file) k) false ≡ is_some callee.result
gives-by-type file k callee e = ap (λ bs. unwrap_or (slice_get bs k) false) (gives-are file)
    ∙ given-at (types_of_file file).functions k callee e
