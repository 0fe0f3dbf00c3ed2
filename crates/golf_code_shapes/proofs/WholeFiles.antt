-- The code of a file whose names fit has shapes.
-- For: `files_fit`, src/lib.rt
-- By: induction over the list of declarations, and over the signatures with their functions
use Rattle.std.proofs.Common.{◌≡◌, ℕ, zero, suc, ◌+◌, ◌<◌, ◌≤◌, Bool, true, false, cond, fold, flat_map, List, [], ◌∷◌}
use Rattle.std.proofs.Common.{◌++◌, length, map, Option, Some, None, refl, sym, ap, ◌∙◌, subst, slice_get, arith}
use Rattle.std.proofs.Common.{append_assoc, length-append, option_to_list}
use Rattle.std.proofs.lemmas.Bool.{and_parts}
use Rattle.std.specs.List.{list_all, list_any}
use Rattle.std.specs.Str.{bytes_eq}
use Rattle.golf_theory.specs.Membership.{Every}
use Rattle.golf_theory.proofs.Lists.{Every-append}
use Rattle.golf_data.specs.declared.value.Value.{Value}
use Rattle.golf_data.specs.declared.code.Instr.{Instr}
use Rattle.golf_data.specs.declared.code.Function.{Function}
use Rattle.golf_syntax_trees.specs.declared.statements.VarContent.{VarContent}
use Rattle.golf_syntax_trees.specs.declared.statements.VarContent.TheVariants as content
use Rattle.golf_syntax_trees.specs.declared.declarations.Decl.{Decl}
use Rattle.golf_syntax_trees.specs.declared.declarations.Decl.TheVariants as d
use Rattle.golf_syntax_trees.specs.declared.declarations.File.{File}
use Rattle.golf_syntax_trees.specs.Simple.{all_of}
use Rattle.golf_syntax_trees.specs.Types.{type_form}
use Rattle.golf_syntax_trees.specs.Statements.{stmts_good, stmt_form}
use Rattle.golf_syntax_trees.specs.Declarations.{field_good, decl_good}
use Rattle.golf_model.specs.Values.{zeros_of}
use Rattle.golf_check_types.specs.declared.types.GoType.{GoType}
use Rattle.golf_check_types.specs.declared.scopes.FileScope.{FileScope}
use Rattle.golf_check_types.specs.declared.scopes.Scope.{Scope}
use Rattle.golf_check_types.specs.Types.{assignable}
use Rattle.golf_check_types.specs.Expressions.{used, given_by}
use Rattle.golf_check_types.specs.Judgments.{judge}
use Rattle.golf_check_types.specs.Files.{outside, globals_above, initial_walk, decl_walked, walk_faults, formed_content}
use Rattle.golf_check_types.specs.Files.{with_forms, with_types, bare_file, function_types, import_faults, names_faults}
use Rattle.golf_check_types.specs.Files.{none_above, type_faults, main_faults, with_imports, no_imports, Broken, Typed}
use Rattle.golf_model_typing.specs.Types.{ValueType, Shape, Signature, FunctionTypes, Types, with_shapes, ValueFits}
use Rattle.golf_model_typing.specs.Types.{ValuesFit}
use Rattle.golf_live.specs.Live.{live}
use Rattle.golf_model_typing.proofs.NeededSlots.{masked-fit}
use Rattle.golf_model_typing.specs.Shapes.{FunctionFits, MasksCover, HasShapes, pushed, LeadsToShape}
use Rattle.golf_code_layout.specs.Piece.{Piece, all, op}
use Rattle.golf_code_shapes.specs.Has.{shape, filled, Has}
use Rattle.golf_code_shapes.proofs.Pieces.{has-empty, has-op, has-then}
use Rattle.golf_code_shapes.proofs.Bodies.{ends-op, ends-then, ends-last, bodies-fit}
use Rattle.golf_code_of.specs.Table.{Texts, with_text, table_of, number_from, text_number}
use Rattle.golf_code_of.specs.Texts.{decl_texts, texts_of}
use Rattle.golf_code_of.specs.declared.tables.Tables.{Tables}
use Rattle.golf_code_of.specs.Values.{zero_value}
use Rattle.golf_code_of.specs.declared.surroundings.Making.{Making}
use Rattle.golf_code_of.specs.ExpressionCode.{piece_at}
use Rattle.golf_code_of.specs.Files.{function, function_of, body_laid, functions_from, made_function, initial, initials}
use Rattle.golf_code_of.specs.Files.{entry_body, main_number, main_line, tables_of, giving, code_in, CodeOf}
use Rattle.golf_code_shapes.specs.Types.{value_type, known_types}
use Rattle.golf_code_shapes.specs.Sound.{FileFits, ScopeFits, Pushes}
use Rattle.golf_code_shapes.specs.StatementFlow.{IsMaking, MadeFit}
use Rattle.golf_code_shapes.specs.FunctionLaws.{function_signature, made_signature, FunctionIsFit}
use Rattle.golf_code_shapes.specs.FileLaws.{entry_signature, own_signatures, made_in, types_of_code, scope_of}
use Rattle.golf_code_shapes.specs.FileLaws.{initial_scope}
use Rattle.golf_code_shapes.specs.FileLaws.{GlobalIsKnown, DeclarationIsKnown, DeclarationsAreKnown, NamesFit, FilesFit}
use Rattle.golf_code_shapes.proofs.Typings.{none-left, none-right, kept}
use Rattle.golf_code_shapes.proofs.Names.{given-to}
use Rattle.golf_code_shapes.proofs.Literals.{zero-fits, zero-same}
use Rattle.golf_code_shapes.proofs.Flows.{made-left, made-right}
use Rattle.golf_code_shapes.proofs.Simples.{value-of, typed}
use Rattle.golf_code_shapes.proofs.Functions.{functions-fit, made-functions-fit}

-- the types of function 0
abbrev first_types : FunctionTypes
first_types = with_shapes entry_signature []

-- Declarations that are known and break no rule.

record GlobalFits (f : FileScope) (g l : ℕ) (c : VarContent) : Type 0 where
  pub is_known : GlobalIsKnown f g l c
  pub none : (initial_walk l c (initial_scope f g)).faults ≡ []

abbrev DeclFits : FileScope → ℕ → Decl → Type 0
DeclFits f g (d.Var v) = GlobalFits f g v.line v.content
DeclFits f g (d.Func x) = FunctionIsFit (outside f) x
DeclFits f g _ = Unit {0}

abbrev DeclsFit : FileScope → ℕ → List Decl → Type 0
DeclsFit f g [] = Unit {0}
DeclsFit f g (x ∷ xs) = DeclFits f g x × DeclsFit f (globals_above g x) xs

decl-fits : (f : FileScope) (g : ℕ) (x : Decl) → (decl_walked f g x).faults ≡ [] → decl_good x ≡ true
    → DeclarationIsKnown f g x → DeclFits f g x
decl-fits f g (d.Const l n c) none good h = tt
decl-fits f g (d.Struct l n fields) none good h = tt
decl-fits f g (d.Var v) none good h = record { is_known = h; none = none }
decl-fits f g (d.Func x) none good h =
    let a = and_parts (list_all field_good x.parameters) _ good in
    let b = and_parts (all_of (λ t. (type_form t).good) x.result) (stmts_good (map stmt_form x.body)) a.1 in
    record { receiver = h.receiver; parameters = h.parameters; good = b.1; none = none }

decls-fit : (f : FileScope) (g : ℕ) (xs : List Decl) → walk_faults f g xs ≡ [] → list_all decl_good xs ≡ true
    → DeclarationsAreKnown f g xs → DeclsFit f g xs
decls-fit f g [] none good h = tt
decls-fit f g (x ∷ xs) none good h =
    let b = and_parts (decl_good x) (list_all decl_good xs) good in (
      decl-fits f g x (none-left (decl_walked f g x).faults _ none) b.0 h.0,
      decls-fit f (globals_above g x) xs (none-right (decl_walked f g x).faults _ none) b.1 h.1,
    )

-- Functions one by one.

abbrev Fitted : Types → List Signature → List Function → Type 0
Fitted types [] [] = Unit {0}
Fitted types [] (fn ∷ fns) = ⊥
Fitted types (sig ∷ sigs) [] = ⊥
Fitted types (sig ∷ sigs) (fn ∷ fns) = ((shapes : List Shape) × FunctionFits types fn (with_shapes sig shapes)
    × MasksCover fn shapes) × Fitted types sigs fns

-- with its masks, a function fits shapes that ask for no slot that is cleared
masked : (types : Types) (fn : Function) (sig : Signature) → fn.live ≡ live fn.slots fn.body
    → ((shapes : List Shape) × FunctionFits types fn (with_shapes sig shapes)) → (shapes : List Shape)
    × FunctionFits types fn (with_shapes sig shapes) × MasksCover fn shapes
masked types fn sig e h = masked-fit types fn (with_shapes sig h.0) h.1 e

shapes_in : (types : Types) (sigs : List Signature) (fns : List Function) → Fitted types sigs fns → List (List Shape)
shapes_in types [] fns h = []
shapes_in types (sig ∷ sigs) [] h = []
shapes_in types (sig ∷ sigs) (fn ∷ fns) h = h.0.0 ∷ shapes_in types sigs fns h.1

fitted-at : (types : Types) (sigs : List Signature) (fns : List Function) (h : Fitted types sigs fns) (f : ℕ)
    (sig : Signature) → slice_get sigs f ≡ Some sig
    → (own : List Shape) × (fn : Function) × (slice_get (shapes_in types sigs fns h) f ≡ Some own)
    × (slice_get fns f ≡ Some fn) × FunctionFits types fn (with_shapes sig own) × MasksCover fn own
unfolding shapes_in
fitted-at types [] fns h zero sig e = cc
fitted-at types [] fns h (suc f) sig e = cc
fitted-at types (x ∷ sigs) [] h f sig e = absurd h
fitted-at types (x ∷ sigs) (fn ∷ fns) h zero sig e = let q : x ≡ sig =
    cc in (h.0.0, fn, refl, refl, subst (λ (z : Signature). FunctionFits types fn (with_shapes z h.0.0)) q h.0.1, h.0.2)
fitted-at types (x ∷ sigs) (fn ∷ fns) h (suc f) sig e = fitted-at types sigs fns h.1 f sig e

fitted-append : (types : Types) (xs : List Signature) (fs : List Function) (ys : List Signature) (gs : List Function)
    → Fitted types xs fs → Fitted types ys gs → Fitted types (xs ++ ys) (fs ++ gs)
fitted-append types [] [] ys gs h k = k
fitted-append types [] (f ∷ fs) ys gs h k = absurd h
fitted-append types (x ∷ xs) [] ys gs h k = absurd h
fitted-append types (x ∷ xs) (f ∷ fs) ys gs h k = (h.0, fitted-append types xs fs ys gs h.1 k)

made-fitted : (types : Types) (gives : List Bool) (ms : List Making) → Every IsMaking ms
    → Fitted types (map made_signature ms) (map (made_function gives) ms)
made-fitted types gives [] h = tt
made-fitted types gives (m ∷ ms) h = (
  masked types (made_function gives m) (made_signature m) refl
      (made-functions-fit types gives m h.0),
  made-fitted types gives ms h.1,
)

-- functions that are made, after others
made-behind : (types : Types) (pre : List Signature) (ms : List Making) (n : ℕ) → n ≡ length pre → types.functions ≡ pre
    ++ map made_signature ms → MadeFit types n ms
made-behind types pre [] n e is = tt
made-behind types pre (m ∷ ms) n e is = (
  (made_signature m, subst (λ fs. slice_get fs n ≡ Some (made_signature m)) (sym is) (at-length pre n e), refl),
  made-behind types (pre ++ made_signature m ∷ []) ms (n + 1)
      (let f = length-append pre (made_signature m ∷ []) in omega (arith, e, f))
      (is ∙ sym (append_assoc pre (made_signature m ∷ []) (map made_signature ms))),
)
  where
    at-length : (pre : List Signature) (n : ℕ) → n ≡ length pre
        → slice_get (pre ++ (made_signature m ∷ map made_signature ms)) n ≡ Some (made_signature m)
    at-length [] n q = subst (λ k. slice_get (made_signature m ∷ map made_signature ms) k ≡ Some (made_signature m))
        (sym q) refl
    at-length (y ∷ ys) zero q = absurd (omega (arith, q))
    at-length (y ∷ ys) (suc n) q = at-length ys n (omega (arith, q))

own-fitted : (types : Types) (t : Tables) (gives : List Bool) (names : FileScope) (g n : ℕ) (xs : List Decl)
    → FileFits types t names → DeclsFit names g xs → MadeFit types n (functions_from t gives (outside names) n xs).made
    → Fitted types (own_signatures t (outside names) xs) (functions_from t gives (outside names) n xs).own
    × Every IsMaking (functions_from t gives (outside names) n xs).made
own-fitted types t gives names g n [] file h made = (tt, tt)
own-fitted types t gives names g n (d.Const l x c ∷ xs) file h made =
    own-fitted types t gives names g n xs file h.1 made
own-fitted types t gives names g n (d.Var v ∷ xs) file h made =
    own-fitted types t gives names (g + 1) n xs file h.1 made
own-fitted types t gives names g n (d.Struct l x fields ∷ xs) file h made =
    own-fitted types t gives names g n xs file h.1 made
own-fitted types t gives names g n (d.Func f ∷ xs) file h made =
    let x = body_laid t (outside names) n f in
    let rest = functions_from t gives (outside names) (n + length x.made) xs in
    let one = functions-fit types t gives names f n file h.0 (made-left types t first_types n x.made rest.made made) in
    let more = own-fitted types t gives names g (n + length x.made) xs file h.1
    (made-right types t first_types n (n + length x.made) x.made rest.made refl made) in (
      (
        masked types (function_of t gives (outside names) f x.piece)
            (function_signature t (outside names) f) refl one.0,
        more.0,
      ),
      Every-append IsMaking x.made rest.made one.1 more.1,
    )

-- Tables.

values-fit : (types : Types) (t : Tables) (s : Scope) → 0 < types.texts → (os : List (Option GoType))
    → ValuesFit types [] (zeros_of (map zero_value os)) (known_types os)
values-fit types t s few [] = tt
values-fit types t s few (None ∷ os) = (tt, values-fit types t s few os)
values-fit types t s few (Some e ∷ os) = (
  subst (λ v. ValueFits types [] v (value_type e)) (sym (zero-same types t first_types [] s e.layers e.base))
      (zero-fits types t first_types [] s few e.layers e.base),
  values-fit types t s few os,
)

structs-fit : (types : Types) (t : Tables) (s : Scope) → 0 < types.texts
    → (rows : List (List (Option GoType))) (k : ℕ) (ts : List ValueType) → slice_get (map known_types rows) k ≡ Some ts
    → (row : List Value) × (slice_get (map (map zero_value) rows) k ≡ Some row) × ValuesFit types [] (zeros_of row) ts
structs-fit types t s few [] zero ts e = cc
structs-fit types t s few [] (suc k) ts e = cc
structs-fit types t s few (os ∷ rows) zero ts e = let q : known_types os ≡ ts =
    cc in (
      map zero_value os,
      refl,
      subst (ValuesFit types [] (zeros_of (map zero_value os))) q
          (values-fit types t s few os),
    )
structs-fit types t s few (os ∷ rows) (suc k) ts e = structs-fit types t s few rows k ts e

global-type : (os : List (Option GoType)) (g : ℕ) (e : GoType) → slice_get os g ≡ Some (Some e)
    → slice_get (known_types os) g ≡ Some (value_type e)
global-type [] zero e h = cc
global-type [] (suc g) e h = cc
global-type (None ∷ os) zero e h = cc
global-type (Some x ∷ os) zero e h = let q : x ≡ e = cc in ap (λ (z : GoType). Some (value_type z)) q
global-type (o ∷ os) (suc g) e h = global-type os g e h

-- Numbers of texts, and of functions.

number-below : (n m : ℕ) (ts : Texts) (b : List ℕ) → 0 < m → n + length ts ≤ m → number_from n ts b < m
number-below n m [] b some l = some
number-below n m (x ∷ xs) b some l = by-test (bytes_eq b x) (number-below (n + 1) m xs b some (omega (arith, l)))
  where
    by-test : (z : Bool) → number_from (n + 1) xs b < m → cond z n (number_from (n + 1) xs b) < m
    by-test true h = omega (arith, l)
    by-test false h = h

table-grows : (ts table : Texts) → 0 < length table → 0 < length (fold with_text table ts)
table-grows [] table h = h
table-grows (t ∷ ts) table h = table-grows ts (with_text table t) (by-test (list_any (bytes_eq t) table))
  where
    by-test : (z : Bool) → 0 < length (cond z table (table ++ t ∷ []))
    by-test true = h
    by-test false = let f = length-append table (t ∷ []) in omega (arith, f)

pub text-below : (xs : List Decl) (b : List ℕ) → text_number (texts_of xs) b < length (texts_of xs)
unfolding text_number texts_of
text-below xs b =
    let ts = flat_map decl_texts xs in
    number-below 0 (length (table_of ts)) (table_of ts) b (table-grows ts ([] ∷ []) (omega arith)) (omega arith)

content-keeps : (f : FileScope) (l g : ℕ) (c : VarContent) → (formed_content f l g c).functions ≡ f.functions
content-keeps f l g (content.Zero w) = refl
content-keeps f l g (content.Typed w e) = refl
content-keeps f l g (content.Untyped e) = refl

forms-keep : (f : FileScope) (g : ℕ) (xs : List Decl) → (with_forms f g xs).functions ≡ f.functions
forms-keep f g [] = refl
forms-keep f g (d.Const l n c ∷ xs) = forms-keep f g xs
forms-keep f g (d.Struct l n fields ∷ xs) = forms-keep f g xs
forms-keep f g (d.Func x ∷ xs) = forms-keep f g xs
forms-keep f g (d.Var v ∷ xs) = forms-keep (formed_content f v.line g v.content) (g + 1) xs
    ∙ content-keeps f v.line g v.content

signatures-long : (s : Scope) (t : Tables) (file : Scope) (xs : List Decl)
    → length (flat_map (function_types s) xs) ≡ length (own_signatures t file xs)
signatures-long s t file [] = refl
signatures-long s t file (d.Const l n c ∷ xs) = signatures-long s t file xs
signatures-long s t file (d.Var v ∷ xs) = signatures-long s t file xs
signatures-long s t file (d.Struct l n fields ∷ xs) = signatures-long s t file xs
signatures-long s t file (d.Func x ∷ xs) = ap (λ n. suc n) (signatures-long s t file xs)

-- Function 0.

module _ (types : Types) (t : Tables) (f : FileScope) (file : FileFits types t f)
    (globals : types.globals ≡ known_types f.globals) where
  scope-fits : (g : ℕ) → ScopeFits types t first_types [] (initial_scope f g)
  scope-fits g = record { file = file; locals = tt; result = refl }

  global-stored : (l g : ℕ) (e : GoType) (p : Piece) (exits : List Shape) → slice_get f.globals g ≡ Some (Some e)
      → Pushes types first_types [] p (value_type e)
      → Has types first_types (all (p ∷ op l (Instr.StoreGlobal g) ∷ [])) (shape [] []) (shape [] []) exits
  global-stored l g e p exits known h =
      let v = value_type e in
      let at = subst (λ gs. slice_get gs g ≡ Some v) (sym globals) (global-type f.globals g e known) in
      has-then types first_types p _ (shape [] []) (shape (v ∷ []) []) (shape [] []) exits (h [] exits)
      (has-then types first_types (op l (Instr.StoreGlobal g)) Piece.Empty (shape (v ∷ []) []) (shape [] [])
      (shape [] []) exits
      (has-op types first_types (Instr.StoreGlobal g) l (shape (v ∷ []) []) (shape [] []) exits
      (λ full k m. (v, at, ([], refl, m)))) (has-empty types first_types (shape [] []) exits))

  initial-has : (l g : ℕ) (c : VarContent) (exits : List Shape) → GlobalFits f g l c
      → Has types first_types (initial t (initial_scope f g) g l c) (shape [] []) (shape [] []) exits
  initial-has l g (content.Zero w) exits h = has-empty types first_types (shape [] []) exits
  initial-has l g (content.Typed w e) exits h =
      let s = initial_scope f g in
      let j = judge e l s in
      let fit = subst (λ o. assignable (given_by j) o ≡ true) h.is_known.begins
      (kept l 9 _ (none-right (used l j) _ h.none)) in
      global-stored l g h.is_known.of_type (piece_at t l s e) exits h.is_known.known
      (given-to types t first_types [] s (given_by j) h.is_known.of_type (piece_at t l s e) fit
      (value-of types t first_types l e s [] (scope-fits g) (none-left (used l j) _ h.none)))
  initial-has l g (content.Untyped e) exits h =
      let s = initial_scope f g in
      let j = judge e l s in
      let v = typed types t first_types [] s (given_by j) (piece_at t l s e)
      (kept l 23 _ (none-right (used l j) _ h.none))
      (value-of types t first_types l e s [] (scope-fits g) (none-left (used l j) _ h.none)) in
      let one = h.is_known.begins in
      let two = v.1 in
      let same : v.0 ≡ h.is_known.of_type = some-same v.0 h.is_known.of_type (sym two ∙ one) in
      global-stored l g h.is_known.of_type (piece_at t l s e) exits h.is_known.known
      (subst (λ (z : GoType). Pushes types first_types [] (piece_at t l s e) (value_type z)) same v.2)
    where
      some-same : (a b : GoType) → Some a ≡ Some b → a ≡ b
      some-same a b q = cc

  initials-has : (g : ℕ) (xs : List Decl) (exits : List Shape) → DeclsFit f g xs
      → Has types first_types (initials t f g xs) (shape [] []) (shape [] []) exits
  initials-has g [] exits h = has-empty types first_types (shape [] []) exits
  initials-has g (d.Var v ∷ xs) exits h =
      has-then types first_types _ _ (shape [] []) (shape [] []) (shape [] []) exits
      (initial-has v.line g v.content exits h.0) (initials-has (g + 1) xs exits h.1)
  initials-has g (d.Const l n c ∷ xs) exits h = initials-has g xs exits h.1
  initials-has g (d.Struct l n fields ∷ xs) exits h = initials-has g xs exits h.1
  initials-has g (d.Func x ∷ xs) exits h = initials-has g xs exits h.1

  first-fits : (gives : List Bool) (xs : List Decl) (callee : Signature) → DeclsFit f 0 xs
      → slice_get types.functions (main_number f) ≡ Some callee → callee.params ≡ [] → callee.result ≡ None
      → (shapes : List Shape) × FunctionFits types
      (function gives 0 0 (main_line xs) (entry_body t f (main_number f) (main_line xs) xs))
      (with_shapes entry_signature shapes)
  first-fits gives xs callee h there params result =
      let l = main_line xs in
      let m = main_number f in
      let e = shape [] [] in
      let calls = has-op types first_types (Instr.Call m 0) l e e []
      (λ full k g. (
        callee,
        [],
        there,
        sym (ap length params),
        sym (ap (λ ps. pushed ps []) params),
        subst (λ r. LeadsToShape (filled first_types full) (option_to_list r ++ []) [] (k + 1)) (sym result) g,
      )) in
      let ends = ends-then types first_types (initials t f 0 xs) _ e e (initials-has 0 xs [] h)
      (ends-then types first_types (op l (Instr.Call m 0)) _ e e calls
      (ends-last types first_types (op l Instr.Return) e
      (ends-op types first_types Instr.Return l e (λ full k. refl)))) in
      bodies-fit types entry_signature (entry_body t f m l xs) []
      (function gives 0 0 l (entry_body t f m l xs)) ends tt refl refl

-- The whole code.

-- the functions of a file fit, and those that are made take what their operations take
own-code-fits : (t : Tables) (f : FileScope) (xs : List Decl)
    → ((bytes : List ℕ) → text_number t.texts bytes < length t.texts)
    → length f.functions ≡ length (own_signatures t (outside f) xs) → DeclsFit f 0 xs → NamesFit t f xs
    → Fitted (types_of_code t f xs) (own_signatures t (outside f) xs)
    (functions_from t (giving f) (outside f) (length f.functions + 1) xs).own × Every IsMaking (made_in t f xs)
own-code-fits t f xs texts count declarations h =
    let types = types_of_code t f xs in
    let n = length f.functions + 1 in
    let file : FileFits types t f = record { texts = texts; names = h.names; members = h.members } in
    let made : MadeFit types n (made_in t f xs) =
    made-behind types (entry_signature ∷ own_signatures t (outside f) xs) (made_in t f xs) n
    (omega (arith, count)) refl in
    own-fitted types t (giving f) f 0 n xs file declarations made

code-fits : (t : Tables) (f : FileScope) (xs : List Decl)
    → ((bytes : List ℕ) → text_number t.texts bytes < length t.texts)
    → length f.functions ≡ length (own_signatures t (outside f) xs) → DeclsFit f 0 xs → NamesFit t f xs
    → (shapes : List (List Shape)) × HasShapes (code_in t f xs) (record { of = types_of_code t f xs; shapes = shapes })
unfolding shapes_in
code-fits t f xs texts count declarations h =
    let types = types_of_code t f xs in
    let gives = giving f in
    let out = outside f in
    let own = own_signatures t out xs in
    let fs = functions_from t gives out (length f.functions + 1) xs in
    let some_text = texts [] in
    let few : 0 < types.texts = omega (arith, some_text) in
    let file : FileFits types t f = record { texts = texts; names = h.names; members = h.members } in
    let mine = own-code-fits t f xs texts count declarations h in
    let main = h.main in
    let first = masked types (function gives 0 0 (main_line xs) (entry_body t f (main_number f) (main_line xs) xs))
    entry_signature refl (first-fits types t f file refl gives xs main.0 declarations main.1 main.2 main.3) in
    let fns = (code_in t f xs).functions in
    let fitted : Fitted types types.functions fns = (
      first,
      fitted-append types own fs.own (map made_signature fs.made) (map (made_function gives) fs.made) mine.0
          (made-fitted types gives fs.made mine.1),
    ) in (
      shapes_in types types.functions fns fitted,
      record {
        texts = refl;
        globals = values-fit types t out few f.globals;
        structs = structs-fit types t out few f.fields;
        functions = fitted-at types types.functions fns fitted;
        first = (entry_signature, refl, refl);
      },
    )

-- the declarations of a file that breaks no rule
declarations-fit : (file : File) → Typed file → list_all decl_good file.declarations ≡ true
    → NamesFit (tables_of file.declarations) (scope_of file) file.declarations
    → (length (scope_of file).functions ≡ length (own_signatures (tables_of file.declarations)
    (outside (scope_of file)) file.declarations)) × DeclsFit (scope_of file) 0 file.declarations
unfolding Broken
declarations-fit file typed good h =
    let xs = file.declarations in
    let t = tables_of xs in
    let f = scope_of file in
    let bare = bare_file (with_imports no_imports file.imports) xs in
    let behind-imports = none-right (import_faults no_imports file.imports) _ typed in
    let behind-names = none-right (names_faults bare none_above xs) _ behind-imports in
    let behind-types = none-right (flat_map (type_faults (outside bare)) xs) _ behind-names in
    let none = none-right (main_faults xs) (walk_faults f 0 xs) behind-types in (
      ap length (forms-keep (with_types bare xs) 0 xs) ∙ signatures-long (outside bare) t (outside f) xs,
      decls-fit f 0 xs none good h.declarations,
    )

-- each function that is made for a file takes what its operation takes
pub made-are-fit : (file : File) → Typed file → list_all decl_good file.declarations ≡ true
    → NamesFit (tables_of file.declarations) (scope_of file) file.declarations
    → Every IsMaking (made_in (tables_of file.declarations) (scope_of file) file.declarations)
made-are-fit file typed good h =
    let xs = file.declarations in
    let d = declarations-fit file typed good h in
    (own-code-fits (tables_of xs) (scope_of file) xs (text-below xs) d.0 d.1 h).1

pub files-fit : FilesFit
unfolding CodeOf
files-fit file typed good h =
    let xs = file.declarations in
    let d = declarations-fit file typed good h in
    code-fits (tables_of xs) (scope_of file) xs (text-below xs) d.0 d.1 h
