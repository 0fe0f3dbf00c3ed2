-- The code of a file by its facts is its code.
-- For: `CodeBy`, golf_code_facts/specs/Files.antt; the law `files_follow`, src/lib.rt.
-- By: induction over the list of declarations; cases of the kind of declaration.
use Rattle.std.proofs.Common.{◌≡◌, ℕ, ◌+◌, Bool, List, [], ◌∷◌, ◌++◌, length, map, refl, sym, ap, ◌∙◌, append-nil}
use Rattle.std.specs.Prelude.{Option, Some, None, flat_map}
use Rattle.std.proofs.Math.Seq.{drop-append_seam}
use Rattle.golf_syntax_trees.specs.declared.types.TypeExpr.{TypeExpr}
use Rattle.golf_syntax_trees.specs.declared.expressions.Expr.{Expr}
use Rattle.golf_syntax_trees.specs.declared.statements.Stmt.{Stmt}
use Rattle.golf_syntax_trees.specs.declared.statements.VarContent.{VarContent}
use Rattle.golf_syntax_trees.specs.declared.statements.VarContent.TheVariants as content
use Rattle.golf_syntax_trees.specs.declared.declarations.Const.{Const}
use Rattle.golf_syntax_trees.specs.declared.declarations.Const.TheVariants as const
use Rattle.golf_syntax_trees.specs.declared.declarations.Receiver.{Receiver}
use Rattle.golf_syntax_trees.specs.declared.declarations.Func.{Func}
use Rattle.golf_syntax_trees.specs.declared.declarations.Decl.{Decl}
use Rattle.golf_syntax_trees.specs.declared.declarations.Decl.TheVariants as d
use Rattle.golf_data.specs.declared.value.Value.{Value}
use Rattle.golf_data.specs.declared.code.Instr.{Instr}
use Rattle.golf_check_types.specs.declared.facts.Fact.{Fact}
use Rattle.golf_check_types.specs.declared.facts.Fact.TheVariants as fact
use Rattle.golf_check_types.specs.declared.types.GoType.{GoType}
use Rattle.golf_check_types.specs.declared.operands.Signature.{Signature}
use Rattle.golf_check_types.specs.declared.scopes.Imports.{Imports}
use Rattle.golf_check_types.specs.declared.scopes.FileScope.{FileScope}
use Rattle.golf_check_types.specs.declared.scopes.Scope.{Scope}
use Rattle.golf_check_types.specs.Expressions.{facts_of}
use Rattle.golf_check_types.specs.Judgments.{judge_at}
use Rattle.golf_check_types.specs.Statements as W
use Rattle.golf_check_types.specs.Statements.{Walk, walk, behind}
use Rattle.golf_check_types.specs.Files.{outside, result_type, receiver_walk, parameter_walk, all_typed_names}
use Rattle.golf_check_types.specs.Files.{head_scope, body_scope, parts_walk, end_faults, decl_walked, walk_facts}
use Rattle.golf_check_types.specs.Files.{function_types, bare_file, with_types, with_forms, formed_content, file_scope}
use Rattle.golf_check_types.specs.Files.{with_imports, no_imports, facts_in, initial_walk}
use Rattle.golf_check_types.proofs.Alike.{result-alike, pointers-alike}
use Rattle.golf_check_types.proofs.WalkLaws.{behind-both, stays}
use Rattle.golf_code_layout.specs.Piece.{Piece, all, op}
use Rattle.golf_code_of.specs.declared.surroundings.Around.{Around}
use Rattle.golf_code_of.specs.declared.tables.Tables.{Tables}
use Rattle.golf_code_of.specs.Table.{Texts}
use Rattle.golf_code_of.specs.Texts.{texts_of}
use Rattle.golf_code_of.specs.Values.{const_value}
use Rattle.golf_code_of.specs.Expressions.{Made}
use Rattle.golf_code_of.specs.ExpressionCode.{piece_at}
use Rattle.golf_code_of.specs.Statements.{Laid, StatementPart}
use Rattle.golf_code_of.specs.StatementCode.{stmt_part}
use Rattle.golf_code_of.specs.Files.{function, function_of, body_part, body_laid, slots_of, last_return, functions_from}
use Rattle.golf_code_of.specs.Files.{initial, initials, constants_in, tables_of, code_in, CodeOf, giving, main_line}
use Rattle.golf_code_of.proofs.Walks.{walks-agree}
use Rattle.golf_code_facts.specs.Facts.{skip}
use Rattle.golf_code_facts.specs.Expressions.{pushed_at}
use Rattle.golf_code_facts.specs.Statements.{LaidBy, PieceBy, by, piece_by, in_order as in_order_by}
use Rattle.golf_code_facts.specs.Files.{past_const, past_content, past_decl, const_by, constants_by, tables_by, body_by}
use Rattle.golf_code_facts.specs.Files.{function_by, initial_by, DeclsBy, initial_before, function_before, decls_by}
use Rattle.golf_code_facts.specs.Files.{code_of, code_by, CodeBy}
use Rattle.golf_code_facts.specs.Laws.{FilesFollow}
use Rattle.golf_code_facts.proofs.Steps.{skipped}
use Rattle.golf_code_facts.proofs.Expressions.{made-alone, past-alone}
use Rattle.golf_code_facts.proofs.Statements.{body}
use Rattle.golf_code_facts.specs.StatementCode.{stmt_by}

-- Declarations that are passed over.

past-const : (f : FileScope) (g l : ℕ) (n : List ℕ) (c : Const) (rest : List Fact)
    → past_const c ((decl_walked f g (d.Const l n c)).facts ++ rest) ≡ rest
past-const f g l n (const.Integer digits) rest = refl
past-const f g l n (const.Negative digits) rest = refl
past-const f g l n (const.Text bytes) rest = refl
past-const f g l n const.True rest = refl
past-const f g l n const.False rest = refl

past-content : (l : ℕ) (x : VarContent) (s : Scope) (rest : List Fact)
    → past_content x ((initial_walk l x s).facts ++ rest) ≡ rest
past-content l (content.Zero w) s rest = refl
past-content l (content.Typed w e) s rest = skipped (judge_at l s e).meaning (judge_at l s e).inner rest
past-content l (content.Untyped e) s rest = skipped (judge_at l s e).meaning (judge_at l s e).inner rest

past-decl : (f : FileScope) (g : ℕ) (x : Decl) (rest : List Fact)
    → past_decl x ((decl_walked f g x).facts ++ rest) ≡ rest
past-decl f g (d.Const l n c) rest = past-const f g l n c rest
past-decl f g (d.Var v) rest = past-content v.line v.content (record (outside f) { initialises = Some g }) rest
past-decl f g (d.Struct l n fields) rest = refl
past-decl f g (d.Func x) rest = drop-append_seam (parts_walk x (outside f) (head_scope (outside f) x)).facts rest

-- Constants.

const-is : (texts : Texts) (f : FileScope) (g l : ℕ) (n : List ℕ) (c : Const) (rest : List Fact)
    → const_by texts c ((decl_walked f g (d.Const l n c)).facts ++ rest) ≡ const_value texts c
const-is texts f g l n (const.Integer digits) rest = refl
const-is texts f g l n (const.Negative digits) rest = refl
const-is texts f g l n (const.Text bytes) rest = refl
const-is texts f g l n const.True rest = refl
const-is texts f g l n const.False rest = refl

pub constants-are : (texts : Texts) (f : FileScope) (g : ℕ) (xs : List Decl)
    → constants_by texts xs (walk_facts f g xs) ≡ map (const_value texts) (flat_map constants_in xs)
constants-are texts f g [] = refl
constants-are texts f g (d.Const l n c ∷ xs) =
    ap (λ v. v ∷ constants_by texts xs (past_const c ((decl_walked f g (d.Const l n c)).facts ++ walk_facts f g xs)))
    (const-is texts f g l n c (walk_facts f g xs))
    ∙ ap (λ fs. const_value texts c ∷ constants_by texts xs fs) (past-const f g l n c (walk_facts f g xs))
    ∙ ap (λ vs. const_value texts c ∷ vs) (constants-are texts f g xs)
constants-are texts f g (d.Var v ∷ xs) = ap (constants_by texts xs) (past-decl f g (d.Var v) (walk_facts f (g + 1) xs))
    ∙ constants-are texts f (g + 1) xs
constants-are texts f g (d.Struct l n fields ∷ xs) = constants-are texts f g xs
constants-are texts f g (d.Func x ∷ xs) = ap (constants_by texts xs) (past-decl f g (d.Func x) (walk_facts f g xs))
    ∙ constants-are texts f g xs

-- Initialisers.

module _ (t : Tables) (f : FileScope) where
  stored-global : (g l : ℕ) (e : Expr) (rest : List Fact)
      → (let fs = facts_of (judge_at l (record (outside f) { initialises = Some g }) e)
      ++ rest in piece_by (all (pushed_at t l fs e ∷ op l (Instr.StoreGlobal g) ∷ [])) (skip fs))
      ≡ piece_by (all (piece_at t l (record (outside f) { initialises = Some g }) e ∷ op l (Instr.StoreGlobal g) ∷ []))
      rest
  stored-global g l e rest =
      let s = record (outside f) { initialises = Some g } in
      ap (λ (x : Made). piece_by (all (x.piece ∷ op l (Instr.StoreGlobal g) ∷ []))
      (skip (facts_of (judge_at l s e) ++ rest))) (made-alone t l s e rest)
      ∙ ap (piece_by (all (piece_at t l s e ∷ op l (Instr.StoreGlobal g) ∷ []))) (past-alone t l s e rest)

  initial-is : (g l : ℕ) (x : VarContent) (rest : List Fact)
      → initial_by t g l x ((initial_walk l x (record (outside f) { initialises = Some g })).facts ++ rest) ≡ piece_by
      (initial t (record (outside f) { initialises = Some g }) g l x) rest
  initial-is g l (content.Zero w) rest = refl
  initial-is g l (content.Typed w e) rest = stored-global g l e rest
  initial-is g l (content.Untyped e) rest = stored-global g l e rest

-- Functions.

-- parameters have no facts
receiver-told : (l : ℕ) (file : Scope) (r : Option Receiver) (s : Scope) → (receiver_walk l file r s).facts ≡ []
receiver-told l file None s = refl
receiver-told l file (Some r) s = refl

parameters-told : (l : ℕ) (ps : List (List ℕ × Option GoType)) (s : Scope)
    → (W.in_order (map (parameter_walk l) ps) s).facts ≡ []
parameters-told l [] s = refl
parameters-told l (p ∷ ps) s = parameters-told l ps (behind s (parameter_walk l p s))

module _ (t : Tables) (file : Scope) (x : Func) where
  abbrev body_walk : Walk
  body_walk = W.in_order (map walk x.body)

  abbrev start : Scope
  start = body_scope file x

  walks-are : (xs : List Stmt) → map (λ (p : StatementPart). p.walk) (map (stmt_part t) xs) ≡ map walk xs
  walks-are [] = refl
  walks-are (y ∷ ys) = ap (λ w. w ∷ map (λ (p : StatementPart). p.walk) (map (stmt_part t) ys))
      (walks-agree.statements t y)
      ∙ ap (λ ws. walk y ∷ ws) (walks-are ys)

  same-walk : (body_part t x).walk ≡ body_walk
  same-walk = ap W.in_order (walks-are x.body)

  -- the facts of a function are those of its body
  facts-are : (parts_walk x file (head_scope file x)).facts ≡ (body_walk start).facts
  facts-are =
      let s = head_scope file x in
      let u = behind s (receiver_walk x.line file x.receiver s) in
      let ps = W.in_order (map (parameter_walk x.line) (all_typed_names file x.parameters)) in
      ap (λ rs. rs ++ ((ps u).facts ++ ((body_walk start).facts ++ []))) (receiver-told x.line file x.receiver s)
      ∙ ap (λ qs. qs ++ ((body_walk start).facts ++ [])) (parameters-told x.line (all_typed_names file x.parameters) u)
      ∙ append-nil (body_walk start).facts

  slots-are : (behind (head_scope file x) (parts_walk x file (head_scope file x))).next ≡ slots_of t file x
  slots-are =
      let s = head_scope file x in
      let r = receiver_walk x.line file x.receiver s in
      let u = behind s r in
      let p = W.in_order (map (parameter_walk x.line) (all_typed_names file x.parameters)) u in
      let b = body_walk start in
      let e = W.both (W.breaks (end_faults x)) W.nothing in
      ap (λ (z : Scope). z.next) (sym (behind-both s r (W.both p (W.both b e))) ∙ sym (behind-both u p (W.both b e))
      ∙ sym (behind-both start b e) ∙ sym (stays (behind start b)))
      ∙ ap (λ (w : Walk). (behind start (w start)).next) (sym same-walk)

  -- the code of the body
  pub laid-is : (n : ℕ) (rest : List Fact)
      → body_by t n x ((fact.Function start.next
      (behind (head_scope file x) (parts_walk x file (head_scope file x))).next
      (length (parts_walk x file (head_scope file x)).facts) ∷ (parts_walk x file (head_scope file x)).facts) ++ rest)
      ≡ by (body_laid t file n x) rest
  laid-is n rest =
      ap (λ fs. of_body (fs ++ rest)) (facts-are ∙ ap (λ (w : Walk). (w start).facts) (sym same-walk))
      ∙ (body t x.body).code around start rest
    where
      around : Around
      around = record { breaks = 0; continues = 0; functions = n }

      of_body : List Fact → LaidBy
      of_body fs = in_order_by (map (stmt_by t) x.body) around fs

  pub function-is : (gives : List Bool) (b : Piece) (result : Option GoType) (n : ℕ)
      → result ≡ result_type file x.result
      → function_by gives x result (fact.Function start.next
      (behind (head_scope file x) (parts_walk x file (head_scope file x))).next n) b ≡ function_of t gives file x b
  function-is gives b result n h =
      ap (λ k. function gives start.next k x.line (all (b ∷ last_return x.line result ∷ []))) slots-are
      ∙ ap (λ r. function gives start.next (slots_of t file x) x.line (all (b ∷ last_return x.line r ∷ []))) h

module _ (t : Tables) (gives : List Bool) (b f : FileScope)
    (alike : (o : Option TypeExpr) → result_type (outside b) o ≡ result_type (outside f) o) where
  abbrev signatures : List Decl → List Signature
  signatures xs = flat_map (function_types (outside b)) xs

  pub decls-are : (g n : ℕ) (xs : List Decl)
      → decls_by t gives (signatures xs) g n xs (walk_facts f g xs)
      ≡ record { initials = initials t f g xs; functions = functions_from t gives (outside f) n xs }
  decls-are g n [] = refl
  decls-are g n (d.Const l c v ∷ xs) = ap (decls_by t gives (signatures xs) g n xs)
      (past-const f g l c v (walk_facts f g xs)) ∙ decls-are g n xs
  decls-are g n (d.Var v ∷ xs) =
      ap (λ (x : PieceBy). initial_before x.piece (decls_by t gives (signatures xs) (g + 1) n xs x.left))
      (initial-is t f g v.line v.content (walk_facts f (g + 1) xs))
      ∙ ap (initial_before (initial t (record (outside f) { initialises = Some g }) g v.line v.content))
      (decls-are (g + 1) n xs)
  decls-are g n (d.Struct l c fields ∷ xs) = decls-are g n xs
  decls-are g n (d.Func x ∷ xs) =
      ap step (laid-is t (outside f) x n (walk_facts f g xs))
      ∙ ap (λ h. function_before h made.made
      (decls_by t gives (signatures xs) g (n + length made.made) xs (walk_facts f g xs)))
      (function-is t (outside f) x gives made.piece (result_type (outside b) x.result)
      (length (parts_walk x (outside f) (head_scope (outside f) x)).facts) (alike x.result))
      ∙ ap (function_before (function_of t gives (outside f) x made.piece) made.made)
      (decls-are g (n + length made.made) xs)
    where
      made : Laid
      made = body_laid t (outside f) n x

      step : LaidBy → DeclsBy
      step y =
          function_before
          (function_by gives x (result_type (outside b) x.result)
          (fact.Function (body_scope (outside f) x).next
          (behind (head_scope (outside f) x) (parts_walk x (outside f) (head_scope (outside f) x))).next
          (length (parts_walk x (outside f) (head_scope (outside f) x)).facts)) y.laid.piece)
          y.laid.made (decls_by t gives (signatures xs) g (n + length y.laid.made) xs y.left)

-- Files.

-- the forms of globals change their types alone

form-alone : (f : FileScope) (l g : ℕ) (x : VarContent)
    → formed_content f l g x ≡ record f { globals = (formed_content f l g x).globals }
form-alone f l g (content.Zero w) = refl
form-alone f l g (content.Typed w e) = refl
form-alone f l g (content.Untyped e) = refl

forms-alone : (f : FileScope) (g : ℕ) (xs : List Decl)
    → with_forms f g xs ≡ record f { globals = (with_forms f g xs).globals }
forms-alone f g [] = refl
forms-alone f g (d.Const l n c ∷ xs) = forms-alone f g xs
forms-alone f g (d.Var v ∷ xs) =
    let h = formed_content f v.line g v.content in
    forms-alone h (g + 1) xs ∙ ap (λ (z : FileScope). record z { globals = (with_forms h (g + 1) xs).globals })
    (form-alone f v.line g v.content)
forms-alone f g (d.Struct l n fields ∷ xs) = forms-alone f g xs
forms-alone f g (d.Func x ∷ xs) = forms-alone f g xs

module _ (i : Imports) (xs : List Decl) where
  abbrev bare : FileScope
  bare = bare_file i xs

  abbrev whole : FileScope
  whole = file_scope i xs

  signatures-are : whole.functions ≡ flat_map (function_types (outside bare)) xs
  signatures-are = ap (λ (f : FileScope). f.functions) (forms-alone (with_types bare xs) 0 xs)

  results-alike : (o : Option TypeExpr) → result_type (outside bare) o ≡ result_type (outside whole) o
  results-alike o =
      sym (result-alike (outside formed) (outside bare)
      (pointers-alike bare (with_types bare xs).fields whole.globals (with_types bare xs).functions None) o)
      ∙ ap (λ (f : FileScope). result_type (outside f) o) (sym (forms-alone (with_types bare xs) 0 xs))
    where
      formed : FileScope
      formed = record (with_types bare xs) { globals = whole.globals }

  tables-are : tables_by xs (walk_facts whole 0 xs) ≡ tables_of xs
  tables-are = ap (λ vs. table vs) (constants-are (texts_of xs) whole 0 xs)
    where
      table : List Value → Tables
      table vs = record { texts = texts_of xs; constants = vs }

  pub code-is : code_by (tables_by xs (walk_facts whole 0 xs)) whole xs (walk_facts whole 0 xs) ≡ code_in
      (tables_of xs) whole xs
  code-is =
      let t = tables_of xs in
      let n = length whole.functions + 1 in
      let facts = walk_facts whole 0 xs in
      ap (λ u. code_by u whole xs facts) tables-are
      ∙ ap (λ ss. code_of t whole (main_line xs) (decls_by t (giving whole) ss 0 n xs facts)) signatures-are
      ∙ ap (code_of t whole (main_line xs)) (decls-are t (giving whole) bare whole results-alike 0 n xs)

pub files-follow : FilesFollow
unfolding CodeBy CodeOf facts_in
files-follow file = code-is (with_imports no_imports file.imports) file.declarations
