-- The functions of a file that break no rule fit their types, and so do those that are made for `go` and `defer`.
-- For: `functions_fit` and `made_functions_fit`, src/lib.rt
-- By: induction over the list of parameters, and over the types that a made function takes
use Rattle.std.proofs.Common.{◌≡◌, ◌⊎◌, inl, inr, ℕ, zero, suc, ◌+◌, ◌<◌, ◌≤◌, true, List, [], ◌∷◌, ◌++◌, length, map}
use Rattle.std.proofs.Common.{Option, Some, None, refl, sym, ap, ◌∙◌, subst, slice_get, arith, append_assoc, append-nil}
use Rattle.std.proofs.Common.{length-append, negsuc}
use Rattle.std.proofs.lemmas.List.{length-map}
use Rattle.std.proofs.lemmas.Bool.{and_parts}
use Rattle.std.specs.Option.{option_map}
use Rattle.golf_theory.specs.Membership.{In, Every}
use Rattle.golf_theory.proofs.Lists.{Every-from}
use Rattle.golf_data.specs.declared.code.Instr.{Instr}
use Rattle.golf_syntax_trees.specs.declared.statements.Stmt.{Stmt}
use Rattle.golf_syntax_trees.specs.declared.declarations.Receiver.{Receiver}
use Rattle.golf_syntax_trees.specs.Statements.{stmts_good, stmt_form}
use Rattle.golf_check_types.specs.declared.types.GoType.{GoType}
use Rattle.golf_check_types.specs.declared.operands.BuiltIn.{BuiltIn}
use Rattle.golf_check_types.specs.declared.operands.BuiltIn.TheVariants as built_in
use Rattle.golf_check_types.specs.declared.scopes.Scope.{Scope}
use Rattle.golf_check_types.specs.Statements as W
use Rattle.golf_check_types.specs.Statements.{behind, walk}
use Rattle.golf_check_types.specs.Files.{outside, result_type, receiver_walk, receiver_type, parameter_walk}
use Rattle.golf_check_types.specs.Files.{all_typed_names}
use Rattle.golf_model_typing.specs.Types.{ValueType, Shape, FunctionTypes, Types, with_shapes}
use Rattle.golf_model_typing.specs.Shapes.{InstructionFits, slot_types, pushed}
use Rattle.golf_code_layout.specs.Piece.{Piece, all, op}
use Rattle.golf_code_shapes.specs.Has.{shape, filled, To, Has, StopsAfter}
use Rattle.golf_code_shapes.proofs.Pieces.{has-empty, has-op, has-then}
use Rattle.golf_code_shapes.proofs.Bodies.{ends-op, ends-then, ends-last, bodies-fit}
use Rattle.golf_code_of.specs.declared.tables.Tables.{Tables}
use Rattle.golf_code_of.specs.Values.{zero_value}
use Rattle.golf_code_of.specs.Calls.{operation}
use Rattle.golf_code_of.specs.Statements.{StatementPart}
use Rattle.golf_code_of.specs.StatementCode.{stmt_part}
use Rattle.golf_code_of.specs.Files.{body_part, body_laid, last_return, function_of, loads, made_body, made_function}
use Rattle.golf_code_of.proofs.Walks.{statement}
use Rattle.golf_code_shapes.specs.Types.{value_type, known_type, known_types}
use Rattle.golf_code_shapes.specs.Sound.{IsKnown, LocalFits, ScopeFits}
use Rattle.golf_code_shapes.specs.StatementFlow.{Slotted, TakesOperands}
use Rattle.golf_code_shapes.specs.FunctionLaws.{result_scope, function_signature, made_signature, FunctionsFit}
use Rattle.golf_code_shapes.specs.FunctionLaws.{MadeFunctionsFit}
use Rattle.golf_code_shapes.proofs.Typings.{none-left, none-right}
use Rattle.golf_code_shapes.proofs.Names.{push-fits}
use Rattle.golf_code_shapes.proofs.Literals.{zero-fits}
use Rattle.golf_code_shapes.proofs.Flows.{EachRight, right-order, scope-more, scope-quiet, slotted-left, slotted-right}
use Rattle.golf_code_shapes.proofs.Stmts.{right-stmt}

known-append : (xs ys : List (Option GoType)) → known_types (xs ++ ys) ≡ known_types xs ++ known_types ys
known-append [] ys = refl
known-append (x ∷ xs) ys = ap (λ vs. known_type x ∷ vs) (known-append xs ys)

-- slots that stand after others
slotted-behind : (ft : FunctionTypes) (pre : List ValueType) (xs : List (Option GoType)) (n : ℕ) → n ≡ length pre
    → slot_types ft ≡ pre ++ known_types xs → Slotted ft n xs
slotted-behind ft pre [] n e is = tt
slotted-behind ft pre (x ∷ xs) n e is = (
  subst (λ vs. slice_get vs n ≡ Some (known_type x)) (sym is) (at-length pre n e),
  slotted-behind ft (pre ++ known_type x ∷ []) xs (n + 1)
      (let f = length-append pre (known_type x ∷ []) in omega (arith, e, f))
      (is ∙ sym (append_assoc pre (known_type x ∷ []) (known_types xs))),
)
  where
    at-length : (pre : List ValueType) (n : ℕ) → n ≡ length pre
        → slice_get (pre ++ (known_type x ∷ known_types xs)) n ≡ Some (known_type x)
    at-length [] n q = subst (λ k. slice_get (known_type x ∷ known_types xs) k ≡ Some (known_type x)) (sym q) refl
    at-length (y ∷ ys) zero q = absurd (omega (arith, q))
    at-length (y ∷ ys) (suc n) q = at-length ys n (omega (arith, q))

module _ (types : Types) (t : Tables) (ft : FunctionTypes) where
  abbrev Fits : List ℕ → Scope → Type 0
  Fits = ScopeFits types t ft

  -- what is known if parameters have slots below n
  pub record Entered (n : ℕ) (s : Scope) : Type 0 where
    pub slots : List ℕ
    pub below : Every (λ i. i < n) slots
    pub fits : Fits slots s

  -- one parameter more, whose slot holds its argument
  one-parameter : (n : ℕ) (l : ℕ) (x : List ℕ) (o : Option GoType) (s : Scope) → Entered n s → IsKnown o → s.next < n
      → slice_get (slot_types ft) s.next ≡ Some (known_type o) → Entered n (behind s (parameter_walk l (x, o) s))
  one-parameter n l x o s h k less typed =
      let B : List ℕ = s.next ∷ h.slots in
      record {
        slots = B;
        below = (less, h.below);
        fits = scope-more types t ft h.slots B s (parameter_walk l (x, o) s)
            (Every-from (λ j. In j B) h.slots (λ j m. inr m)) h.fits
            ((k.0, k.1, inl refl, typed ∙ ap (λ z. Some (known_type z)) k.1), tt);
      }

  parameters : (n : ℕ) (l : ℕ) (ps : List (List ℕ × Option GoType)) (s : Scope) → Entered n s
      → Every (λ (p : List ℕ × Option GoType). IsKnown p.1) ps → s.next + length ps ≤ n
      → Slotted ft s.next (W.in_order (map (parameter_walk l) ps) s).slots
      → Entered n (behind s (W.in_order (map (parameter_walk l) ps) s))
  parameters n l [] s h known less slots = record {
    slots = h.slots;
    below = h.below;
    fits = scope-quiet types t ft h.slots s (W.in_order [] s) refl h.fits;
  }
  parameters n l (p ∷ ps) s h known less slots =
      let w = parameter_walk l p s in
      let s1 = behind s w in
      let v = W.in_order (map (parameter_walk l) ps) s1 in
      let one = one-parameter n l p.0 p.1 s h known.0 (omega (arith, less)) slots.0 in
      let rest = parameters n l ps s1 one known.1 (omega (arith, less)) slots.1 in
      let ok = rest.fits in
      record {
        slots = rest.slots;
        below = rest.below;
        fits = record {
          file = ok.file;
          locals = subst (Every (LocalFits types t ft rest.slots))
              (append_assoc s.locals w.declares v.declares) ok.locals;
          result = ok.result;
        };
      }

  receiver : (n : ℕ) (l : ℕ) (file : Scope) (o : Option Receiver) (s : Scope) → Entered n s
      → ((r : Receiver) → o ≡ Some r → IsKnown (receiver_type file r.type_name))
      → s.next + length (receiver_walk l file o s).slots ≤ n → Slotted ft s.next (receiver_walk l file o s).slots
      → Entered n (behind s (receiver_walk l file o s))
  receiver n l file None s h known less slots = record {
    slots = h.slots;
    below = h.below;
    fits = scope-quiet types t ft h.slots s (receiver_walk l file None s) refl h.fits;
  }
  receiver n l file (Some r) s h known less slots =
      one-parameter n l r.name (receiver_type file r.type_name) s h (known r refl) (omega (arith, less)) slots.0

  -- the return at the end
  last-ends : (l : ℕ) (o : Option GoType) (A : List ℕ) (s : Scope) → 0 < types.texts
      → ft.result ≡ option_map value_type o → StopsAfter types ft (last_return l o) (shape [] A)
  last-ends l None A s few is = ends-op types ft Instr.Return l (shape [] A) (λ full k. is)
  last-ends l (Some e) A s few is =
      ends-then types ft _ _ (shape [] A) (shape (value_type e ∷ []) A)
      (push-fits types t ft A s l (zero_value (Some e)) (value_type e)
      (zero-fits types t ft A s few e.layers e.base) [] [])
      (ends-last types ft (op l Instr.ReturnValue) (shape (value_type e ∷ []) A)
      (ends-op types ft Instr.ReturnValue l (shape (value_type e ∷ []) A) (λ full k. (value_type e, [], is, refl))))

  each-right : (xs : List Stmt) → stmts_good (map stmt_form xs) ≡ true → EachRight types t ft (map (stmt_part t) xs)
  each-right [] g = tt
  each-right (x ∷ xs) g = let b = and_parts (stmt_form x).good
      (stmts_good (map stmt_form xs)) g in (right-stmt types t ft x b.0, each-right xs b.1)

  walks-are : (xs : List Stmt) → map (λ (p : StatementPart). p.walk) (map (stmt_part t) xs) ≡ map walk xs
  walks-are [] = refl
  walks-are (x ∷ xs) = ap (λ w. w ∷ map (λ (p : StatementPart). p.walk) (map (stmt_part t) xs)) (statement t x)
      ∙ ap (λ ws. walk x ∷ ws) (walks-are xs)

parameters-long : (l : ℕ) (ps : List (List ℕ × Option GoType)) (s : Scope)
    → length (W.in_order (map (parameter_walk l) ps) s).slots ≡ length ps
parameters-long l [] s = refl
parameters-long l (p ∷ ps) s = ap (λ n. suc n) (parameters-long l ps (behind s (parameter_walk l p s)))

pub functions-fit : FunctionsFit
functions-fit types t gives names f n file ok made =
    let out = outside names in
    let s0 = result_scope out f in
    let r = receiver_walk f.line out f.receiver s0 in
    let s1 = behind s0 r in
    let ps = all_typed_names out f.parameters in
    let p = W.in_order (map (parameter_walk f.line) ps) s1 in
    let sb = behind s1 p in
    let b = (body_part t f).walk sb in
    let sig = function_signature t out f in
    let ft = with_shapes sig [] in
    let P = r.slots ++ p.slots in
    let N = length (known_types P) in
    let long = length-map P known_type in
    let parts = length-append r.slots p.slots in
    let count = parameters-long f.line ps s1 in
    let whole : Slotted ft 0 (P ++ b.slots) =
    slotted-behind ft [] (P ++ b.slots) 0 refl (sym (known-append P b.slots)) in
    let front : Slotted ft 0 P = slotted-left types t ft 0 P b.slots whole in
    let none = ok.none in
    let start : Entered types t ft N s0 = record {
      slots = [];
      below = tt;
      fits = record { file = file; locals = tt; result = refl };
    } in
    let one = receiver types t ft N f.line out f.receiver s0 start ok.receiver (omega (arith, long, parts))
    (slotted-left types t ft 0 r.slots p.slots front) in
    let two = parameters types t ft N f.line ps s1 one ok.parameters (omega (arith, long, parts, count))
    (slotted-right types t ft 0 s1.next r.slots p.slots refl front) in
    let behind-front = none-right p.faults _ (none-right r.faults _ none) in
    let clean = subst (λ ws. (W.in_order ws sb).faults ≡ []) (sym (walks-are types t ft f.body))
    (none-left (W.in_order (map walk f.body) sb).faults _ behind-front) in
    let h = right-order types t ft (map (stmt_part t) f.body) (each-right types t ft f.body ok.good)
    (record { breaks = 0; continues = 0; functions = n }) sb two.slots [] two.fits
    (record { breaks = λ q. cc; continues = λ q. cc })
    (slotted-right types t ft 0 sb.next P b.slots (omega (arith, parts)) whole) made clean in
    let leads = h.0 in
    let some_text = file.texts [] in
    let few : 0 < types.texts = omega (arith, some_text) in
    let piece = (body_laid t out n f).piece in
    let last = last_return f.line (result_type out f.result) in
    let ends = ends-then types ft piece _ (shape [] two.slots) (shape [] leads.0) leads.3
    (ends-last types ft last (shape [] leads.0)
    (last-ends types t ft f.line (result_type out f.result) leads.0 sb few refl)) in
    let all-long = length-append (known_types P) (known_types b.slots) in
    let rest-long = length-map b.slots known_type in (
      bodies-fit types sig (all (piece ∷ last ∷ [])) two.slots (function_of t gives out f piece) ends two.below
          (omega (arith, all-long, rest-long, long, parts)) refl,
      h.1,
    )

-- Functions that are made.

-- the slots below n
numbers : ℕ → List ℕ
numbers zero = []
numbers (suc n) = n ∷ numbers n

numbers-below : (n m : ℕ) → n ≤ m → Every (λ i. i < m) (numbers n)
unfolding numbers
numbers-below zero m l = tt
numbers-below (suc n) m l = (omega (arith, l), numbers-below n m (omega (arith, l)))

number-there : (n i : ℕ) → i < n → In i (numbers n)
unfolding numbers
number-there zero i l = absurd (omega (arith, l))
number-there (suc n) i l = elim (less-or-last i n l) as (λ z. In i (n ∷ numbers n)) [
  | inl e ↦ inl e
  | inr m ↦ inr
      (number-there n i m)
]
  where
    less-or-last : (i n : ℕ) → i < suc n → (i ≡ n) ⊎ (i < n)
    less-or-last zero zero m = inl refl
    less-or-last zero (suc k) m = inr (omega arith)
    less-or-last (suc j) zero m = absurd (omega (arith, m))
    less-or-last (suc j) (suc k) m = elim (less-or-last j k (omega (arith, m))) as (λ z. (suc j ≡ suc k)
        ⊎ (suc j < suc k)) [ inl e ↦ inl (ap (λ z. suc z) e) | inr q ↦ inr (omega (arith, q)) ]

module _ (types : Types) (ft : FunctionTypes) (A : List ℕ) where
  -- each parameter is pushed
  loads-has : (l i : ℕ) (pre : List ValueType) (xs : List (Option GoType)) → i ≡ length pre → slot_types ft ≡ pre
      ++ known_types xs → ((j : ℕ) → j < length (slot_types ft) → In j A) → (ops : List ValueType) (exits : List Shape)
      → Has types ft (loads l i xs) (shape ops A) (shape (pushed (known_types xs) ops) A) exits
  loads-has l i pre [] e is inside ops exits = has-empty types ft (shape ops A) exits
  loads-has l i pre (x ∷ xs) e is inside ops exits =
      let v = known_type x in
      let s = slotted-behind ft pre (x ∷ xs) i e is in
      let long = ap length is in
      let split = length-append pre (v ∷ known_types xs) in
      let one = length-append pre (v ∷ []) in
      has-then types ft (op l (Instr.Load i)) _ (shape ops A) (shape (v ∷ ops) A) _ exits
      (has-op types ft (Instr.Load i) l (shape ops A) (shape (v ∷ ops) A) exits
      (λ full k g. (v, inside i (omega (arith, e, long, split)), s.0, (ops, refl, g))))
      (loads-has l (i + 1) (pre ++ v ∷ []) xs (omega (arith, e, one))
      (is ∙ sym (append_assoc pre (v ∷ []) (known_types xs))) inside (v ∷ ops) exits)

  -- the instruction takes what is on top
  takes : (l : ℕ) (i : Instr) {ts : List ValueType} (us : List ValueType) → ts ≡ us
      → ((full : List Shape) (k : ℕ) → To (filled ft full) (shape [] A) (k + 1)
      → InstructionFits types (filled ft full) k i (shape (pushed us []) A))
      → Has types ft (op l i) (shape (pushed ts []) A) (shape [] A) []
  takes l i us same r = subst (λ vs. Has types ft (op l i) (shape (pushed vs []) A) (shape [] A) []) (sym same)
      (has-op types ft i l (shape (pushed us []) A) (shape [] A) [] r)

  -- the operation takes what its function is given
  operation-has : (l n : ℕ) (b : BuiltIn) (ts : List ValueType) → TakesOperands b ts
      → Has types ft (operation l b n) (shape (pushed ts []) A) (shape [] A) []
  operation-has l n built_in.Close ts h = takes l Instr.Close _ h.1 (λ full k g. (h.0, ([], refl, g)))
  operation-has l n built_in.Add ts h = takes l Instr.GroupAdd _ h (λ full k g. ([], refl, g))
  operation-has l n built_in.Done ts h = subst
      (λ us. Has types ft (operation l built_in.Done n) (shape (pushed us []) A) (shape [] A) []) (sym h)
      (has-then types ft (op l (Instr.Int (negsuc 0))) _ (shape (ValueType.Group ∷ []) A)
      (shape (ValueType.Int ∷ ValueType.Group ∷ []) A) (shape [] A) []
      (has-op types ft (Instr.Int (negsuc 0)) l (shape (ValueType.Group ∷ []) A)
      (shape (ValueType.Int ∷ ValueType.Group ∷ []) A) [] (λ full k g. (ValueType.Group ∷ [], refl, g)))
      (has-then types ft (op l Instr.GroupAdd) Piece.Empty (shape (ValueType.Int ∷ ValueType.Group ∷ []) A) (shape [] A)
      (shape [] A) []
      (takes l Instr.GroupAdd (ValueType.Group ∷ ValueType.Int ∷ []) refl (λ full k g. ([], refl, g)))
      (has-empty types ft (shape [] A) [])))
  operation-has l n built_in.Length ts h = absurd h
  operation-has l n built_in.Panic ts h = absurd h
  operation-has l n built_in.Print ts h = absurd h
  operation-has l n built_in.Collect ts h = absurd h
  operation-has l n built_in.SetFinalizer ts h = absurd h
  operation-has l n built_in.NewCondition ts h = absurd h
  operation-has l n b ts h = takes l _ _ h (λ full k g. ([], refl, g))

pub made-functions-fit : MadeFunctionsFit
made-functions-fit types gives m h =
    let sig = made_signature m in
    let ft = with_shapes sig [] in
    let ts = known_types m.parameters in
    let n = length ts in
    let A = numbers n in
    let l = m.line in
    let is : slot_types ft ≡ ts = append-nil ts in
    let long = ap length is in
    let inside : (j : ℕ) → j < length (slot_types ft) → In j A = λ j q. number-there n j (omega (arith, q, long)) in
    let loaded = loads-has types ft A l 0 [] m.parameters refl is inside [] [] in
    let done = operation-has types ft A l (length m.parameters) m.operation ts h in
    let body = made_body m in
    let count = length-map m.parameters known_type in
    let ends = ends-then types ft (loads l 0 m.parameters) _ (shape [] A) (shape (pushed ts []) A) loaded
    (ends-then types ft (operation l m.operation (length m.parameters)) _ (shape (pushed ts []) A) (shape [] A) done
    (ends-last types ft (op l Instr.Return) (shape [] A)
    (ends-op types ft Instr.Return l (shape [] A) (λ full k. refl)))) in
    bodies-fit types sig body A (made_function gives m) ends (numbers-below n n (omega arith))
    (omega (arith, long, count)) refl
