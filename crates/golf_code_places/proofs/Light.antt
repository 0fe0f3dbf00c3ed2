-- The code of statements without loops and selects has at most eight instructions and made parameters for each word.
-- For: `bodies_are_small`, src/lib.rt
-- By: induction over the list of statements, and over the list of arguments
use Rattle.std.proofs.Common.{◌≡◌, ℕ, ◌+◌, ◌*◌, ◌≤◌, Bool, true, false, cond, List, [], ◌∷◌, ◌++◌, length, map, Option}
use Rattle.std.proofs.Common.{Some, None, arith, length-append}
use Rattle.std.proofs.lemmas.List.{length-map}
use Rattle.golf_lex_tokens.specs.declared.token.Punctuation.TheVariants as punctuations
use Rattle.golf_syntax_trees.specs.declared.expressions.Expr.{Expr}
use Rattle.golf_syntax_trees.specs.declared.statements.Simple.{Simple}
use Rattle.golf_syntax_trees.specs.declared.statements.SimpleKind.{SimpleKind}
use Rattle.golf_syntax_trees.specs.declared.statements.SimpleKind.TheVariants as simple
use Rattle.golf_syntax_trees.specs.declared.statements.VarContent.{VarContent}
use Rattle.golf_syntax_trees.specs.declared.statements.VarContent.TheVariants as content
use Rattle.golf_syntax_trees.specs.Words.{Word, punctuation}
use Rattle.golf_syntax_trees.specs.Types.{print_type}
use Rattle.golf_syntax_trees.specs.Expressions.{print_expr}
use Rattle.golf_syntax_trees.specs.Simple.{update_punctuation, print_simple_kind, print_simple, print_content}
use Rattle.golf_data.specs.declared.code.Instr.{Instr}
use Rattle.golf_check_types.specs.declared.types.GoType.{GoType}
use Rattle.golf_check_types.specs.declared.types.Base.{Base}
use Rattle.golf_check_types.specs.declared.operands.Operand.{Operand}
use Rattle.golf_check_types.specs.declared.operands.Operand.TheVariants as operand
use Rattle.golf_check_types.specs.declared.scopes.Scope.{Scope}
use Rattle.golf_check_types.specs.Types.{type_given, given}
use Rattle.golf_check_types.specs.Scopes.{begun}
use Rattle.golf_check_types.specs.Judgments.{judge_at}
use Rattle.golf_check_types.specs.Statements.{behind, is_new, assigned_name, carried, one_new}
use Rattle.golf_code_layout.specs.Piece.{Piece, size, op}
use Rattle.golf_code_of.specs.declared.tables.Tables.{Tables}
use Rattle.golf_code_of.specs.declared.surroundings.Making.{Making}
use Rattle.golf_code_of.specs.declared.surroundings.Around.{Around}
use Rattle.golf_code_of.specs.Calls.{ArgumentCode, receiver_base, with_receiver, makings, beginning}
use Rattle.golf_code_of.specs.ExpressionCode.{argument_at}
use Rattle.golf_code_of.specs.Statements.{Laid, StatementPart, past, within, then, lay_all, in_order, block, stores_to}
use Rattle.golf_code_of.specs.Statements.{stores_name, stores_new, stores_pair, drops, simple_piece, simple_part}
use Rattle.golf_code_of.specs.Statements.{optional, first_value, var_part, begin_part, return_part, behind_test}
use Rattle.golf_code_of.specs.Statements.{ends_here, or_else}
use Rattle.golf_code_places.proofs.Words.{total, line-length}
use Rattle.golf_code_places.proofs.Small.{on-name, Beside, all-small}
use Rattle.golf_code_places.proofs.Exprs.{expr-small}

-- how many parameters the functions have that are made
abbrev pub parameters : List Making → ℕ
parameters [] = 0
parameters (m ∷ ms) = length m.parameters + parameters ms

pub parameters-append : (ms ns : List Making) → parameters (ms ++ ns) ≡ parameters ms + parameters ns
parameters-append [] ns = omega arith
parameters-append (m ∷ ms) ns = let h = parameters-append ms ns in omega (arith, h)

-- instructions and parameters
abbrev pub weight : Laid → ℕ
weight x = size x.piece + parameters x.made

-- at most eight for each of so many words
abbrev pub Light : ℕ → StatementPart → Type 0
Light n x = (a : Around) (s : Scope) → weight (x.lay a s) ≤ 8 * n

abbrev pub EachLight : List StatementPart → List (List Word) → Type 0
EachLight [] ws = Unit {0}
EachLight (x ∷ xs) [] = ⊥
EachLight (x ∷ xs) (w ∷ ws) = Light (length w) x × EachLight xs ws

-- Statements put together.

pub light-then : (x y : StatementPart) (n m k : ℕ) → Light n x → Light m y → n + m ≤ k → Light k (then x y)
light-then x y n m k h i more a s =
    let first = x.lay a s in
    let second = y.lay (past a first) (behind s (x.walk s)) in
    let e = h a s in
    let f = i (past a first) (behind s (x.walk s)) in
    let g = parameters-append first.made second.made in
    omega (arith, e, f, g, more)

pub light-order : (xs : List StatementPart) (ws : List (List Word)) → EachLight xs ws → Light (total ws) (in_order xs)
light-order [] ws h a s = omega arith
light-order (x ∷ xs) [] h a s = absurd h
light-order (x ∷ xs) (w ∷ ws) h a s =
    let first = x.lay a s in
    let second = lay_all xs (past a first) (behind s (x.walk s)) in
    let e = h.0 a s in
    let f = light-order xs ws h.1 (past a first) (behind s (x.walk s)) in
    let g = parameters-append first.made second.made in
    omega (arith, e, f, g)

pub light-block : (xs : List StatementPart) (ws : List (List Word)) → EachLight xs ws → Light (total ws) (block xs)
light-block xs ws h a s = light-order xs ws h a (begun s)

-- Simple statements.

module _ (t : Tables) (l : ℕ) where
  store-to : (o : Option Operand) → size (stores_to l t o) ≤ 6
  store-to None = omega arith
  store-to (Some m) = let h = (on-name l t m).place in omega (arith, h)

  pub store-name : (s : Scope) (n : List ℕ) → size (stores_name l t s n) ≤ 6
  store-name s n = store-to (assigned_name s n)

  store-new : (s at : Scope) (n : List ℕ) → size (stores_new l t s at n) ≤ 6
  store-new s at n = few (is_new s n) (stores_name l t s n) (store-name s n)
    where
      few : (b : Bool) (p : Piece) → size p ≤ 6 → size (cond b (op l (Instr.Store at.next)) p) ≤ 6
      few true p h = omega arith
      few false p h = h

  pub store-pair : (s : Scope) (n m : List ℕ) (e : Option GoType) → size (stores_pair l t s n m e) ≤ 12
  store-pair s n m e = let f = store-new s (behind s (one_new (is_new s n) n e s)) m in let g =
      store-new s s n in omega (arith, f, g)

  dropped : (m : Operand) → size (drops l m) ≤ 1
  dropped (operand.Nothing late) = omega arith
  dropped (operand.Variable w e) = omega arith
  dropped (operand.Constant k b) = omega arith
  dropped (operand.Truth b) = omega arith
  dropped operand.Nil = omega arith
  dropped operand.Blank = omega arith
  dropped (operand.Value e) = omega arith
  dropped (operand.Outcome e) = omega arith
  dropped (operand.Field i e) = omega arith
  dropped (operand.Element e) = omega arith
  dropped operand.Unknown = omega arith
  dropped (operand.Package q) = omega arith
  dropped (operand.Function k) = omega arith
  dropped (operand.Method k) = omega arith
  dropped (operand.BuiltIn b) = omega arith
  dropped (operand.Struct k) = omega arith
  dropped operand.TypeName = omega arith

  simple-light : (x : SimpleKind) (s : Scope) → size (simple_piece t l x s) ≤ 8 * length (print_simple_kind x)
  simple-light (simple.Expression e) s =
      let h = (expr-small t e l s).piece in
      let d = dropped (judge_at l s e).meaning in
      omega (arith, h, d)
  simple-light (simple.Send c e) s =
      let h = (expr-small t c l s).piece in
      let i = (expr-small t e l s).piece in
      let w = length-append (print_expr c) (punctuation punctuations.Arrow ∷ print_expr e) in
      omega (arith, h, i, w)
  simple-light (simple.Increment p) s =
      let h = (expr-small t p l s).place in
      let w = length-append (print_expr p) (punctuation punctuations.Increment ∷ []) in
      omega (arith, h, w)
  simple-light (simple.Decrement p) s =
      let h = (expr-small t p l s).place in
      let w = length-append (print_expr p) (punctuation punctuations.Decrement ∷ []) in
      omega (arith, h, w)
  simple-light (simple.Assign p e) s =
      let h = (expr-small t p l s).place in
      let i = (expr-small t e l s).piece in
      let w = length-append (print_expr p) (punctuation punctuations.Assign ∷ print_expr e) in
      omega (arith, h, i, w)
  simple-light (simple.Update p o e) s =
      let h = (expr-small t p l s).place in
      let i = (expr-small t e l s).piece in
      let w = length-append (print_expr p) (punctuation (update_punctuation o) ∷ print_expr e) in
      omega (arith, h, i, w)
  simple-light (simple.Define n e) s = let h = (expr-small t e l s).piece in omega (arith, h)
  simple-light (simple.DefineReceived n m e) s =
      let h = (expr-small t e l s).piece in
      let p = store-pair s n m (carried l e s) in
      omega (arith, h, p)
  simple-light (simple.AssignReceived n m e) s =
      let h = (expr-small t e l s).piece in
      let p = store-name s m in
      let q = store-name s n in
      omega (arith, h, p, q)

  -- Variables, go and defer, return.

  first-light : (x : VarContent) (s : Scope) → size (first_value t l x s) ≤ 8 * length (print_content x) + 1
  first-light (content.Zero e) s = omega arith
  first-light (content.Typed e v) s =
      let h = (expr-small t v l s).piece in
      let w = length-append (print_type e) (punctuation punctuations.Assign ∷ print_expr v) in
      omega (arith, h, w)
  first-light (content.Untyped v) s = let h = (expr-small t v l s).piece in omega (arith, h)

  pub light-var : (n : List ℕ) (x : VarContent) (k : ℕ) → length (print_content x) + 2 ≤ k → Light k (var_part t l n x)
  light-var n x k more a s = let h = first-light x s in omega (arith, h, more)

  pub light-returns : (e : Expr) (k : ℕ) → length (print_expr e) ≤ k → Light k (return_part t l (Some e))
  light-returns e k more a s = let h = (expr-small t e l s).piece in omega (arith, h, more)

  pub light-return : (k : ℕ) → 1 ≤ k → Light k (return_part t l None)
  light-return k more a s = omega (arith, more)

  beside : (xs : List Expr) (s : Scope) → Beside (map (λ (a : ArgumentCode). a.piece) (map (argument_at t l s) xs))
      (map print_expr xs)
  beside [] s = tt
  beside (x ∷ xs) s = ((expr-small t x l s).piece, beside xs s)

  beginning-light : (begin : ℕ → ℕ → Instr) (n : ℕ) (m : Operand) (xs : List ArgumentCode)
      → size (beginning l begin n m xs) + parameters (makings l m xs) ≤ length xs + 2
  beginning-light begin n (operand.BuiltIn b) xs =
      few (receiver_base b) (map (λ (x : ArgumentCode). type_given (given x.meaning)) xs)
      (length-map xs (λ (x : ArgumentCode). type_given (given x.meaning)))
    where
      few : (r : Option Base) (ts : List (Option GoType)) → length ts ≡ length xs
          → 1 + (length (with_receiver r ts) + 0) ≤ length xs + 2
      few None ts e = omega (arith, e)
      few (Some r) ts e = omega (arith, e)
  beginning-light begin n _ xs = omega arith

  pub light-begin : (begin : ℕ → ℕ → Instr) (f : Expr) (xs : List Expr) (k : ℕ)
      → length (print_expr f) + (total (map print_expr xs) + length xs) ≤ k → Light k (begin_part t l begin f xs)
  light-begin begin f xs k more a s =
      let h = (expr-small t f l s).piece in
      let i = all-small (map (λ (x : ArgumentCode). x.piece) (map (argument_at t l s) xs)) (map print_expr xs)
      (beside xs s) in
      let e = length-map xs (argument_at t l s) in
      let j = beginning-light begin a.functions (judge_at l s f).meaning (map (argument_at t l s) xs) in
      omega (arith, h, i, e, j, more)

pub light-simple : (t : Tables) (x : Simple) → Light (length (print_simple x)) (simple_part t x)
light-simple t x a s = let h = simple-light t x.line x.kind s in let w =
    line-length x.line (print_simple_kind x.kind) in omega (arith, h, w)

abbrev pub optional_words : Option Simple → ℕ
optional_words None = 0
optional_words (Some x) = length (print_simple x)

pub light-optional : (t : Tables) (o : Option Simple) (n : ℕ) → optional_words o ≤ n → Light n (optional t o)
light-optional t None n h a s = omega arith
light-optional t (Some x) n h a s = let i = light-simple t x a s in omega (arith, i, h)

-- Branches.

pub light-test : (t : Tables) (l : ℕ) (e : Expr) (x : StatementPart) (n k : ℕ) → Light n x
    → length (print_expr e) + n ≤ k
    → Light k (behind_test t l e x)
light-test t l e x n k h more a s = let i = (expr-small t e l s).piece in let j = h a s in omega (arith, i, j, more)

pub light-ends : (x : StatementPart) (n : ℕ) → Light n x → Light n (ends_here x)
light-ends x n h a s = h (within 1 a) s

pub light-or-else : (l : ℕ) (x y : StatementPart) (n m k : ℕ) → Light n x → Light m y → n + m + 1 ≤ k
    → Light k (or_else l x y)
light-or-else l x y n m k h i more a s =
    let first = x.lay (within 2 a) s in
    let second = y.lay (within 1 (past a first)) (behind s (x.walk s)) in
    let e = h (within 2 a) s in
    let f = i (within 1 (past a first)) (behind s (x.walk s)) in
    let g = parameters-append first.made second.made in
    omega (arith, e, f, g, more)
