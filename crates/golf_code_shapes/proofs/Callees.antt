-- The names and members of a file mean what the types of its code say.
-- For: `names_mean`, src/lib.rt
-- By: induction over the list of declarations, and over lists of fields and of parameters
use Rattle.std.proofs.Common.{◌≡◌, ℕ, zero, suc, ◌+◌, ◌<◌, List, [], ◌∷◌, ◌++◌, length, map, flat_map, Option, Some}
use Rattle.std.proofs.Common.{None, refl, sym, ap, ◌∙◌, subst, slice_get, arith, unwrap_or}
use Rattle.std.specs.Option.{option_map, option_and_then}
use Rattle.std.proofs.lemmas.List.{map-append}
use Rattle.std.proofs.lemmas.Option.{slice_get-get_or}
use Rattle.golf_theory.specs.Membership.{Every}
use Rattle.golf_theory.proofs.Lists.{Every-slice_get}
use Rattle.golf_data.specs.declared.value.Value.{Value}
use Rattle.golf_syntax_trees.specs.declared.types.TypeExpr.{TypeExpr}
use Rattle.golf_syntax_trees.specs.declared.declarations.Const.{Const}
use Rattle.golf_syntax_trees.specs.declared.declarations.Const.TheVariants as const
use Rattle.golf_syntax_trees.specs.declared.declarations.Field.{Field}
use Rattle.golf_syntax_trees.specs.declared.declarations.Func.{Func}
use Rattle.golf_syntax_trees.specs.declared.declarations.Decl.{Decl}
use Rattle.golf_syntax_trees.specs.declared.declarations.Decl.TheVariants as d
use Rattle.golf_check_types.specs.declared.types.Base.TheVariants as base
use Rattle.golf_check_types.specs.declared.types.GoType.{GoType}
use Rattle.golf_check_types.specs.declared.operands.Operand.{Operand}
use Rattle.golf_check_types.specs.declared.operands.Operand.TheVariants as operand
use Rattle.golf_check_types.specs.declared.operands.Where.TheVariants as place
use Rattle.golf_check_types.specs.declared.scopes.Imports.{Imports}
use Rattle.golf_check_types.specs.declared.scopes.Entity.{Entity}
use Rattle.golf_check_types.specs.declared.scopes.Entity.TheVariants as meant
use Rattle.golf_check_types.specs.declared.scopes.Member.{Member}
use Rattle.golf_check_types.specs.declared.scopes.Member.TheVariants as member_as
use Rattle.golf_check_types.specs.declared.scopes.Members.{Members}
use Rattle.golf_check_types.specs.declared.scopes.FileScope.{FileScope}
use Rattle.golf_check_types.specs.declared.scopes.Scope.{Scope}
use Rattle.golf_check_types.specs.Types.{plain}
use Rattle.golf_check_types.specs.Names.{number_of}
use Rattle.golf_check_types.specs.Scopes.{or_else, type_at, entry_operand, meaning_in, predeclared, meaning, kind_in}
use Rattle.golf_check_types.specs.Scopes.{member}
use Rattle.golf_check_types.specs.Statements as W
use Rattle.golf_check_types.specs.Statements.{behind}
use Rattle.golf_check_types.specs.Written.{write, pointer_to}
use Rattle.golf_check_types.specs.Files.{const_base, field_names, naming_of, struct_number, outside, bare_file}
use Rattle.golf_check_types.specs.Files.{all_typed_names, types_alone, struct_types, signature_of, function_types}
use Rattle.golf_check_types.specs.Files.{receiver_type, receiver_walk, parameter_walk, field_fault, type_faults}
use Rattle.golf_model_typing.specs.Types.{ValueType, Types, ValueFits}
use Rattle.golf_code_of.specs.Texts.{texts_of}
use Rattle.golf_code_of.specs.declared.tables.Tables.{Tables}
use Rattle.golf_code_of.specs.Values.{const_value, constant}
use Rattle.golf_code_of.specs.Files.{constants_in, tables_of}
use Rattle.golf_code_shapes.specs.Types.{base_type, value_type, known_type, known_types}
use Rattle.golf_code_shapes.specs.Sound.{IsKnown, Callee, NameFits, MemberFits}
use Rattle.golf_code_shapes.specs.FunctionLaws.{result_scope, function_signature}
use Rattle.golf_code_shapes.specs.FileLaws.{own_signatures, types_of_code}
use Rattle.golf_code_shapes.proofs.Typings.{none-left, none-right}
use Rattle.golf_code_shapes.proofs.Literals.{written-known}
use Rattle.golf_code_shapes.proofs.WholeFiles.{text-below}
use Rattle.golf_code_shapes.specs.Parts.{contents_of, structs_of, functions_of}
use Rattle.golf_code_shapes.specs.NameLaws.{named_with, GlobalsAreKnown, WellNamed, NamesMean}
use Rattle.golf_model_typing.proofs.Gets.{slice_get-left}
use Rattle.golf_code_shapes.proofs.Gets.{get-next, get-mapped, some-same}
use Rattle.golf_check_types.proofs.Alike.{fields-alike, result-alike, written-alike, pointers-alike}
use Rattle.golf_code_shapes.proofs.Meanings.{Means, counted}
use Rattle.golf_code_shapes.proofs.Methods.{IsMethod, Belongs, members-belong}

-- The parts of declarations in order.

pub signatures-are : (s : Scope) (xs : List Decl)
    → flat_map (function_types s) xs ≡ map (signature_of s) (flat_map functions_of xs)
signatures-are s [] = refl
signatures-are s (d.Const l n c ∷ xs) = signatures-are s xs
signatures-are s (d.Var v ∷ xs) = signatures-are s xs
signatures-are s (d.Struct l n fs ∷ xs) = signatures-are s xs
signatures-are s (d.Func f ∷ xs) = ap (λ ys. signature_of s f ∷ ys) (signatures-are s xs)

pub own-are : (t : Tables) (s : Scope) (xs : List Decl)
    → own_signatures t s xs ≡ map (function_signature t s) (flat_map functions_of xs)
own-are t s [] = refl
own-are t s (d.Const l n c ∷ xs) = own-are t s xs
own-are t s (d.Var v ∷ xs) = own-are t s xs
own-are t s (d.Struct l n fs ∷ xs) = own-are t s xs
own-are t s (d.Func f ∷ xs) = ap (λ ys. function_signature t s f ∷ ys) (own-are t s xs)

abbrev row_of : Scope → List Field → List (Option GoType)
row_of s fields = types_alone (all_typed_names s fields)

pub rows-are : (s : Scope) (xs : List Decl) → flat_map (struct_types s) xs ≡ map (row_of s) (flat_map structs_of xs)
rows-are s [] = refl
rows-are s (d.Const l n c ∷ xs) = rows-are s xs
rows-are s (d.Var v ∷ xs) = rows-are s xs
rows-are s (d.Func f ∷ xs) = rows-are s xs
rows-are s (d.Struct l n fs ∷ xs) = ap (λ ys. row_of s fs ∷ ys) (rows-are s xs)

-- Types that break no rule are known.

abbrev pub NameKnown : List ℕ × Option GoType → Type 0
NameKnown p = IsKnown p.1

one-known : (o : Option GoType) (ns : List (List ℕ)) (ps : List (List ℕ × Option GoType)) → IsKnown o
    → Every NameKnown ps → Every NameKnown (map (λ n. (n, o)) ns ++ ps)
one-known o [] ps k h = h
one-known o (n ∷ ns) ps k h = (k, one-known o ns ps k h)

typed-known : (l : ℕ) (s : Scope) (x : TypeExpr) → (write x l s).faults ≡ [] → IsKnown (write x 0 s).type
typed-known l s x none = let k = written-known x l s none in (k.0, written-alike s s (λ n. refl) x 0 l ∙ k.1)

pub fields-known : (l : ℕ) (s : Scope) (fs : List Field) → flat_map (field_fault l s) fs ≡ []
    → Every NameKnown (all_typed_names s fs)
fields-known l s [] none = tt
fields-known l s (f ∷ fs) none = one-known (write f.of_type 0 s).type (field_names f) (all_typed_names s fs)
    (typed-known l s f.of_type (none-left (field_fault l s f) _ none))
    (fields-known l s fs (none-right (field_fault l s f) _ none))

all-known : (ps : List (List ℕ × Option GoType)) → Every NameKnown ps → Every IsKnown (types_alone ps)
all-known [] h = tt
all-known (p ∷ ps) h = (h.0, all-known ps h.1)

one-long : (o : Option GoType) (ns : List (List ℕ)) (ps : List (List ℕ × Option GoType)) (ms : List (List ℕ))
    → length (types_alone ps) ≡ length ms → length (types_alone (map (λ n. (n, o)) ns ++ ps)) ≡ length (ns ++ ms)
one-long o [] ps ms e = e
one-long o (n ∷ ns) ps ms e = ap (λ n. suc n) (one-long o ns ps ms e)

typed-long : (s : Scope) (fs : List Field) → length (row_of s fs) ≡ length (flat_map field_names fs)
typed-long s [] = refl
typed-long s (f ∷ fs) = one-long (write f.of_type 0 s).type (field_names f) (all_typed_names s fs)
    (flat_map field_names fs) (typed-long s fs)

pub function-clean : (s : Scope) (xs : List Decl) (q : ℕ) (f : Func) → flat_map (type_faults s) xs ≡ []
    → slice_get (flat_map functions_of xs) q ≡ Some f → type_faults s (d.Func f) ≡ []
function-clean s [] zero f none e = cc
function-clean s [] (suc q) f none e = cc
function-clean s (d.Const l n c ∷ xs) q f none e = function-clean s xs q f none e
function-clean s (d.Var v ∷ xs) q f none e = function-clean s xs q f (none-right (type_faults s (d.Var v)) _ none) e
function-clean s (d.Struct l n fs ∷ xs) q f none e =
    function-clean s xs q f (none-right (type_faults s (d.Struct l n fs)) _ none) e
function-clean s (d.Func x ∷ xs) zero f none e = let is : x ≡ f =
    cc in subst (λ (y : Func). type_faults s (d.Func y) ≡ []) is (none-left (type_faults s (d.Func x)) _ none)
function-clean s (d.Func x ∷ xs) (suc q) f none e =
    function-clean s xs q f (none-right (type_faults s (d.Func x)) _ none) e

pub struct-clean : (s : Scope) (xs : List Decl) (k : ℕ) (fields : List Field) → flat_map (type_faults s) xs ≡ []
    → slice_get (flat_map structs_of xs) k ≡ Some fields → (l : ℕ) × (flat_map (field_fault l s) fields ≡ [])
struct-clean s [] zero f none e = cc
struct-clean s [] (suc q) f none e = cc
struct-clean s (d.Const l n c ∷ xs) q f none e = struct-clean s xs q f none e
struct-clean s (d.Var v ∷ xs) q f none e = struct-clean s xs q f (none-right (type_faults s (d.Var v)) _ none) e
struct-clean s (d.Func x ∷ xs) q f none e = struct-clean s xs q f (none-right (type_faults s (d.Func x)) _ none) e
struct-clean s (d.Struct l n fs ∷ xs) zero f none e = let is : fs ≡ f =
    cc in (
      l,
      subst (λ (y : List Field). flat_map (field_fault l s) y ≡ []) is
          (none-left (flat_map (field_fault l s) fs) _ none),
    )
struct-clean s (d.Struct l n fs ∷ xs) (suc q) f none e =
    struct-clean s xs q f (none-right (type_faults s (d.Struct l n fs)) _ none) e

-- Slots of receivers and parameters.

slots-are : (l : ℕ) (ps : List (List ℕ × Option GoType)) (s : Scope)
    → (W.in_order (map (parameter_walk l) ps) s).slots ≡ types_alone ps
slots-are l [] s = refl
slots-are l (p ∷ ps) s = ap (λ ts. p.1 ∷ ts) (slots-are l ps (behind s (parameter_walk l p s)))

-- a name that stands for a struct
pub struct-pointer : (f : FileScope) (o : Option Entity) (rest : Option Operand) (k : ℕ) → struct_number o ≡ Some k
    → pointer_to (or_else (option_map (entry_operand f) o) rest) ≡ Some (base.Pointer k)
struct-pointer f (Some (meant.Struct c)) rest k e = let is : c ≡ k = cc in ap (λ j. Some (base.Pointer j)) is
struct-pointer f _ rest k e = cc

pub receiver-known : (f : FileScope) (n : List ℕ) (k : ℕ) → struct_number (meaning_in f n) ≡ Some k
    → receiver_type (outside f) n ≡ Some (plain (base.Pointer k))
unfolding meaning
receiver-known f n k e = ap (option_map plain) (struct-pointer f (meaning_in f n) (predeclared f.imports n) k e)

module _ (i : Imports) (xs : List Decl) (globals : List (Option GoType)) (w : WellNamed i xs) where
  abbrev pub file : FileScope
  file = named_with i xs globals

  abbrev pub bare : FileScope
  bare = bare_file i xs

  abbrev out : Scope
  out = outside file

  abbrev begin : Scope
  begin = outside bare

  pub pointers : (o : Option ℕ) (n : List ℕ)
      → pointer_to (meaning (record (outside file) { initialises = o }) n) ≡ pointer_to (meaning (outside bare) n)
  pointers o n = pointers-alike bare (flat_map (struct_types begin) xs) globals (flat_map (function_types begin) xs) o n

  pub parameters-known : (q : ℕ) (f : Func) → slice_get (flat_map functions_of xs) q ≡ Some f
      → Every NameKnown (all_typed_names begin f.parameters)
  parameters-known q f there = fields-known f.line begin f.parameters
      (none-left (flat_map (field_fault f.line begin) f.parameters) _ (function-clean begin xs q f w.types there))

  pub function-there : (t : Tables) (q : ℕ) (f : Func) → slice_get (flat_map functions_of xs) q ≡ Some f
      → slice_get (types_of_code t file xs).functions (q + 1) ≡ Some (function_signature t out f)
  function-there t q f there =
      let types = types_of_code t file xs in
      let one = subst (λ sigs. slice_get sigs q ≡ Some (function_signature t out f)) (sym (own-are t out xs))
      (get-mapped (function_signature t out) (flat_map functions_of xs) q f there) in
      get-next _ _ q ∙ slice_get-left (own_signatures t out xs) _ q (function_signature t out f) one

  callee : (t : Tables) (q : ℕ) (f : Func) (receiver : List ValueType) → slice_get (flat_map functions_of xs) q ≡ Some f
      → known_types (receiver_walk f.line out f.receiver (result_scope out f)).slots ≡ receiver
      → Callee (types_of_code t file xs) t file q receiver
  callee t q f receiver there is =
      let r = receiver_walk f.line out f.receiver (result_scope out f) in
      let ps = all_typed_names out f.parameters in
      let s1 = behind (result_scope out f) r in
      let same = slots-are f.line ps s1 ∙ ap types_alone (fields-alike out begin (pointers None) f.parameters) in (
        signature_of begin f,
        function_signature t out f,
        subst (λ sigs. slice_get sigs q ≡ Some (signature_of begin f)) (sym (signatures-are begin xs))
            (get-mapped (signature_of begin) (flat_map functions_of xs) q f there),
        function-there t q f there,
        map-append known_type r.slots (W.in_order (map (parameter_walk f.line) ps) s1).slots
            ∙ ap (λ vs. vs ++ known_types (W.in_order (map (parameter_walk f.line) ps) s1).slots) is
            ∙ ap (λ ts. receiver ++ known_types ts) same,
        ap (option_map value_type) (result-alike out begin (pointers None) f.result),
        all-known (all_typed_names begin f.parameters) (parameters-known q f there),
      )

  plain-callee : (t : Tables) (q : ℕ) (f : Func) → slice_get (flat_map functions_of xs) q ≡ Some f → f.receiver ≡ None
      → Callee (types_of_code t file xs) t file q []
  plain-callee t q f there e = callee t q f [] there
      (subst (λ r. known_types (receiver_walk f.line out r (result_scope out f)).slots ≡ []) (sym e) refl)

  method-callee : (t : Tables) (s q : ℕ) → IsMethod xs (naming_of xs) s q
      → Callee (types_of_code t file xs) t file q (ValueType.Struct s ∷ [])
  method-callee t s q h =
      let f = h.method in
      let r = h.receiver in
      let is : known_types (receiver_type out r.type_name ∷ []) ≡ ValueType.Struct s ∷ [] =
      ap (λ o. known_types (o ∷ [])) (receiver-known file r.type_name s h.named) in
      callee t q f (ValueType.Struct s ∷ []) h.there
      (subst (λ o. known_types (receiver_walk f.line out o (result_scope out f)).slots ≡ ValueType.Struct s ∷ [])
      (sym h.has) is)

  row-there : (k : ℕ) (fields : List Field) → slice_get (flat_map structs_of xs) k ≡ Some fields
      → slice_get file.fields k ≡ Some (row_of begin fields)
  row-there k fields there = subst (λ rows. slice_get rows k ≡ Some (row_of begin fields)) (sym (rows-are begin xs))
      (get-mapped (row_of begin) (flat_map structs_of xs) k fields there)

  struct-there : (t : Tables) (k : ℕ) (fields : List Field) → slice_get (flat_map structs_of xs) k ≡ Some fields
      → slice_get (types_of_code t file xs).structs k ≡ Some (known_types (row_of begin fields))
  struct-there t k fields there = get-mapped known_types file.fields k (row_of begin fields) (row-there k fields there)

  const-fits : (c : Const) → ValueFits (types_of_code (tables_of xs) file xs) [] (const_value (texts_of xs) c)
      (base_type (const_base c))
  const-fits (const.Text bytes) = (refl, text-below xs bytes)
  const-fits _ = refl

  module _ (known : GlobalsAreKnown globals (length (flat_map contents_of xs))) where
    abbrev t : Tables
    t = tables_of xs

    abbrev types : Types
    types = types_of_code t file xs

    entry-fits : (m : Entity) → Means xs m → NameFits types t file (entry_operand file m)
    entry-fits (meant.Constant k b) h =
        let is : constant t k ≡ const_value (texts_of xs) h.0 =
        ap (λ o. unwrap_or o Value.Nil) (get-mapped (const_value (texts_of xs))
        (flat_map constants_in xs) k h.0 h.1) in
        subst (λ v. ValueFits types [] v (base_type b)) (sym is)
        (subst (λ z. ValueFits types [] (const_value (texts_of xs) h.0) (base_type z)) h.2 (const-fits h.0))
    entry-fits (meant.Global k) h =
        let g = known k h in
        let is : type_at globals k ≡ Some g.0 = ap (option_and_then (λ o. o)) g.1 in
        subst (λ o. NameFits types t file (operand.Variable (place.Global k) o)) (sym is)
        (get-mapped known_type globals k (Some g.0) g.1)
    entry-fits (meant.Struct k) h = (known_types (row_of begin h.0), struct-there t k h.0 h.1)
    entry-fits (meant.Function k) h = plain-callee t k h.0 h.1 h.2

    found-fits : (j : ℕ) (o : Option Entity) (m : Operand) → slice_get file.entities j ≡ o
        → option_map (entry_operand file) o ≡ Some m → NameFits types t file m
    found-fits j None m is e = cc
    found-fits j (Some x) m is e =
        let c = counted xs in
        subst (NameFits types t file) (some-same (entry_operand file x) m e)
        (entry-fits x (Every-slice_get (Means xs) (naming_of xs).entities j x c.entities is))

    name-fits : (o : Option ℕ) (m : Operand)
        → option_map (entry_operand file) (option_and_then (slice_get file.entities) o) ≡ Some m
        → NameFits types t file m
    name-fits None m e = cc
    name-fits (Some j) m e = found-fits j (slice_get file.entities j) m refl e

  field-fits : (t : Tables) (k i : ℕ) (fields : List Field) → slice_get (flat_map structs_of xs) k ≡ Some fields
      → i < length (flat_map field_names fields) → MemberFits (types_of_code t file xs) t file k (member_as.Field i)
  field-fits t k j fields there less =
      let row = row_of begin fields in
      let clean = struct-clean begin xs k fields w.types there in
      let long = typed-long begin fields in
      let at = slice_get-get_or row j None (omega (arith, less, long)) in
      let is = Every-slice_get IsKnown row j _
      (all-known (all_typed_names begin fields) (fields-known clean.0 begin fields clean.1)) at in
      let here : slice_get row j ≡ Some (Some is.0) = at ∙ ap Some is.1 in (
        known_types row,
        is.0,
        struct-there t k fields there,
        ap (option_and_then (λ ts. type_at ts j)) (row-there k fields there) ∙ ap (option_and_then (λ o. o)) here,
        get-mapped known_type row j (Some is.0) here,
      )

  belongs-fits : (t : Tables) (k : ℕ) (m : Member) → Belongs xs (naming_of xs) k m
      → MemberFits (types_of_code t file xs) t file k m
  belongs-fits t k (member_as.Field j) h = field-fits t k j h.0 h.1 h.2
  belongs-fits t k (member_as.Method q) h = method-callee t k q h

  kind-fits : (t : Tables) (k : ℕ) (ms : Members) (o : Option ℕ) (m : Member) → slice_get file.structs k ≡ Some ms
      → option_and_then (slice_get ms.kinds) o ≡ Some m → MemberFits (types_of_code t file xs) t file k m
  kind-fits t k ms None m is e = cc
  kind-fits t k ms (Some j) m is e = belongs-fits t k m
      (Every-slice_get (Belongs xs (naming_of xs) k) ms.kinds j m (members-belong xs k ms is) e)

  member-fits : (t : Tables) (k : ℕ) (n : List ℕ) (o : Option Members) (m : Member) → slice_get file.structs k ≡ o
      → option_and_then (λ ms. kind_in ms n) o ≡ Some m → MemberFits (types_of_code t file xs) t file k m
  member-fits t k n None m is e = cc
  member-fits t k n (Some ms) m is e = kind-fits t k ms (number_of ms.names n) m is e

pub names-mean : NamesMean
unfolding member
names-mean i xs globals w h = record {
  names = λ n m e. name-fits i xs globals w h (number_of (naming_of xs).names n) m e;
  members = λ k n m e. member-fits i xs globals w (tables_of xs) k n
      (slice_get (named_with i xs globals).structs k) m refl e;
}
