-- The code of `go` and `defer` leads on, and the functions that are made for it take what they are given.
-- For: `statements_fit`, src/lib.rt; `MadeFit`, specs/StatementFlow.antt
-- By: induction over the list of arguments; cases of the callee
use Rattle.std.proofs.Common.{◌≡◌, ℕ, ◌+◌, true, List, [], ◌∷◌, ◌++◌, map, length, Option, Some, None, refl, sym, ap}
use Rattle.std.proofs.Common.{◌∙◌, subst, slice_get, arith}
use Rattle.std.proofs.lemmas.List.{length-map}
use Rattle.std.proofs.lemmas.Bool.{eqb-true}
use Rattle.std.specs.Prelude.{flat_map}
use Rattle.golf_theory.specs.Membership.{Every}
use Rattle.golf_data.specs.declared.code.Instr.{Instr}
use Rattle.golf_syntax_trees.specs.declared.expressions.Expr.{Expr}
use Rattle.golf_check_types.specs.declared.types.Base.{Base}
use Rattle.golf_check_types.specs.declared.types.Base.TheVariants as base
use Rattle.golf_check_types.specs.declared.types.GoType.{GoType}
use Rattle.golf_check_types.specs.declared.operands.BuiltIn.{BuiltIn}
use Rattle.golf_check_types.specs.declared.operands.BuiltIn.TheVariants as built_in
use Rattle.golf_check_types.specs.declared.operands.Given.{Given}
use Rattle.golf_check_types.specs.declared.operands.Given.TheVariants as given_as
use Rattle.golf_check_types.specs.declared.operands.Operand.{Operand}
use Rattle.golf_check_types.specs.declared.operands.Operand.TheVariants as operand
use Rattle.golf_check_types.specs.declared.scopes.Scope.{Scope}
use Rattle.golf_check_types.specs.Faults.{broken}
use Rattle.golf_check_types.specs.Types.{plain, given, type_given, has_layer, takes, assignable}
use Rattle.golf_check_types.specs.Expressions.{Judged, used, named_or_used, given_by}
use Rattle.golf_check_types.specs.Calls.{argument_faults, same_number, parameter_faults, called_with, call_judged}
use Rattle.golf_check_types.specs.Calls.{built_in_faults, all_first}
use Rattle.golf_check_types.specs.Judgments.{Judge, judge, judge_at}
use Rattle.golf_check_types.specs.Statements as W
use Rattle.golf_check_types.specs.Statements.{done_faults, may_be_begun}
use Rattle.golf_model_typing.specs.Types.{ValueType, Shape, Signature, FunctionTypes, Types}
use Rattle.golf_model_typing.specs.Shapes.{InstructionFits, TakesArguments, pushed}
use Rattle.golf_code_layout.specs.Piece.{Piece, all, op}
use Rattle.golf_code_shapes.specs.Has.{shape, filled}
use Rattle.golf_code_shapes.proofs.Pieces.{has-empty, has-op, has-then}
use Rattle.golf_code_of.specs.declared.tables.Tables.{Tables}
use Rattle.golf_code_of.specs.Expressions.{Made}
use Rattle.golf_code_of.specs.Calls.{ArgumentCode, pushes, receiver_base, with_receiver, begun_parameters, makings}
use Rattle.golf_code_of.specs.Calls.{beginning}
use Rattle.golf_code_of.specs.ExpressionCode.{code_at, piece_at, argument_at}
use Rattle.golf_code_of.proofs.Judgments.{agree}
use Rattle.golf_code_of.specs.Statements.{begin_part}
use Rattle.golf_code_shapes.specs.Types.{base_type, value_type, known_type, known_types}
use Rattle.golf_code_shapes.specs.Sound.{ScopeFits, Shown, PushesGiven, Callee, TurnsOperands, Pushes, Silent}
use Rattle.golf_code_shapes.specs.Sound.{PushesReceiver}
use Rattle.golf_code_shapes.specs.StatementFlow.{IsMaking, MadeFit}
use Rattle.golf_code_shapes.proofs.Typings.{none-left, none-right, kept, sent-on, assigned-value}
use Rattle.golf_code_shapes.proofs.Literals.{Arg, judgeds, arg-gives}
use Rattle.golf_code_shapes.proofs.CallShapes.{arguments, Passes, Taken, passed, parts, one-passed, file-taken}
use Rattle.golf_code_shapes.proofs.Exprs.{fits}
use Rattle.golf_code_shapes.proofs.Flows.{Right, quiet}

module _ (types : Types) (t : Tables) (ft : FunctionTypes) (l : ℕ) (s : Scope) (A : List ℕ)
    (ok : ScopeFits types t ft A s) where
  abbrev Args : Type 0
  Args = List (Arg types t ft A s)

  arg : Expr → Arg types t ft A s
  arg e = record { judged = judge e l s; made = code_at t l s e; shows = fits types t ft e l s A ok }

  pub args : List Expr → Args
  args xs = map arg xs

  pub js-are : (xs : List Expr) → judgeds types t ft A s (args xs) ≡ map (judge_at l s) xs
  unfolding arg args
  js-are [] = refl
  js-are (x ∷ xs) = ap (λ js. judge x l s ∷ js) (js-are xs)

  argument_of : Expr → Judge → ArgumentCode
  argument_of e j = record { meaning = (j l s).meaning; piece = piece_at t l s e }

  pub arguments-are : (xs : List Expr) → arguments types t ft A s (args xs) ≡ map (argument_at t l s) xs
  unfolding arg args argument_of
  arguments-are [] = refl
  arguments-are (x ∷ xs) = ap (λ j. argument_of x j ∷ arguments types t ft A s (args xs)) (sym (agree t x))
      ∙ ap (λ ys. argument_at t l s x ∷ ys) (arguments-are xs)

module _ (types : Types) (t : Tables) (ft : FunctionTypes) (A : List ℕ) (s : Scope) where
  abbrev Js : List (Arg types t ft A s) → List Judged
  Js xs = judgeds types t ft A s xs

  -- a value has the type of its parameter; for nil that of an unknown one
  typed-value : (g : Given) (p : Piece) → PushesGiven types t ft A s.file g p
      → Pushes types ft A p (known_type (type_given g))
  typed-value (given_as.Typed e) p h = h
  typed-value given_as.Nil p h = h ValueType.Mutex tt
  typed-value given_as.Unknown p h = absurd h

  abbrev typed_args : List (Arg types t ft A s) → List (Option GoType)
  typed_args xs = map (λ (x : ArgumentCode). type_given (given x.meaning)) (arguments types t ft A s xs)

  all-typed : (l : ℕ) (xs : List (Arg types t ft A s)) → flat_map (used l) (Js xs) ≡ []
      → Passes types t ft A s (pushes (arguments types t ft A s xs)) (known_types (typed_args xs))
  all-typed l [] u = λ ops exits. has-empty types ft (shape ops A) exits
  all-typed l (x ∷ xs) u = λ ops exits.
      let e = known_type (type_given (given_by x.judged)) in
      has-then types ft x.made.piece _ (shape ops A) (shape (e ∷ ops) A) _ exits
      (typed-value (given_by x.judged) x.made.piece
      (arg-gives types t ft A s l x (none-left (used l x.judged) _ u)) ops exits)
      (all-typed l xs (none-right (used l x.judged) _ u) (e ∷ ops) exits)

  -- An instruction that begins a function.
  module _ (begin : ℕ → ℕ → Instr) (rule : (full : List Shape) (k : ℕ) (sh : Shape) (f n : ℕ)
      → TakesArguments types (filled ft full) k sh f n (λ callee. [])
      → InstructionFits types (filled ft full) k (begin f n) sh) where
    begins : (l f n : ℕ) (receiver args : Piece) → Taken types t ft A s f n receiver args
        → Silent types ft A (all (receiver ∷ args ∷ op l (begin f n) ∷ []))
    begins l f n receiver args c ops exits =
        let to = shape ops A in
        let stood = shape (pushed c.above (c.below ++ ops)) A in
        has-then types ft receiver _ (shape ops A) (shape (c.below ++ ops) A) to exits (c.receiver_turns ops exits)
        (has-then types ft args _ (shape (c.below ++ ops) A) stood to exits (c.arguments_pass (c.below ++ ops) exits)
        (has-then types ft (op l (begin f n)) Piece.Empty stood to to exits
        (has-op types ft (begin f n) l stood to exits
        (λ full at g. rule full at stood f n (c.callee, ops, c.there, c.count, sym (c.stand ops), g)))
        (has-empty types ft to exits)))

    -- a built-in operation: the function that is made has the types of receiver and arguments
    begins-made : (l next : ℕ) (b : BuiltIn) (receiver : Piece) (xs : List (Arg types t ft A s))
        → flat_map (used l) (Js xs) ≡ [] → PushesReceiver types ft A (receiver_base b) receiver
        → MadeFit types next (makings l (operand.BuiltIn b) (arguments types t ft A s xs))
        → Silent types ft A (all (receiver ∷ pushes (arguments types t ft A s xs)
        ∷ op l (begin next (length (begun_parameters b (arguments types t ft A s xs)))) ∷ []))
    begins-made l next b receiver xs u h made = by-receiver (receiver_base b) h made.0
      where
        by-receiver : (o : Option Base) → PushesReceiver types ft A o receiver → (callee : Signature)
            × (slice_get types.functions next ≡ Some callee)
            × (callee.params ≡ known_types (with_receiver o (typed_args xs)))
            → Silent types ft A (all (receiver ∷ pushes (arguments types t ft A s xs)
            ∷ op l (begin next (length (with_receiver o (typed_args xs)))) ∷ []))
        by-receiver None h c = begins l next (length (typed_args xs)) receiver (pushes (arguments types t ft A s xs))
            (record {
              callee = c.0;
              below = [];
              above = known_types (typed_args xs);
              there = c.1;
              count = sym (length-map (typed_args xs) known_type) ∙ ap length (sym c.2);
              stand = λ ops. ap (λ ps. pushed ps ops) c.2;
              receiver_turns = h;
              arguments_pass = all-typed l xs u;
            })
        by-receiver (Some r) h c = begins l next (length (with_receiver (Some r) (typed_args xs))) receiver
            (pushes (arguments types t ft A s xs)) (record {
              callee = c.0;
              below = base_type r ∷ [];
              above = known_types (typed_args xs);
              there = c.1;
              count = sym (length-map (with_receiver (Some r) (typed_args xs)) known_type) ∙ ap length (sym c.2);
              stand = λ ops. ap (λ ps. pushed ps ops) c.2;
              receiver_turns = h;
              arguments_pass = all-typed l xs u;
            })

    file-begins : (l k n : ℕ) (below : List ValueType) (c : Callee types t s.file k below) (receiver : Piece)
        (xs : List (Arg types t ft A s)) → ((ts ops : List ValueType)
        → pushed (below ++ ts) ops ≡ pushed ts (below ++ ops)) → n ≡ length (below ++ known_types c.0.parameters)
        → Passes types t ft A s (pushes (arguments types t ft A s xs)) (known_types c.0.parameters)
        → TurnsOperands types ft A receiver [] below
        → Silent types ft A (all (receiver ∷ pushes (arguments types t ft A s xs) ∷ op l (begin (k + 1) n) ∷ []))
    file-begins l k n below c receiver xs stand count pass hr =
        begins l (k + 1) n receiver (pushes (arguments types t ft A s xs))
        (file-taken types t ft A s k below c stand count pass hr)

    -- what may be begun
    on-begin : (l next : ℕ) (m : Operand) (x : Made) (xs : List (Arg types t ft A s)) → may_be_begun m ≡ true
        → (called_with l s m (Js xs)).faults ≡ [] → Shown types t ft A s.file m x
        → MadeFit types next (makings l m (arguments types t ft A s xs))
        → Silent types ft A (all (x.piece ∷ pushes (arguments types t ft A s xs)
        ∷ beginning l begin next m (arguments types t ft A s xs) ∷ []))
    on-begin l next (operand.Function k) x xs may none h made =
        let f = parts types t ft A s l (operand.Function k) xs none in
        let p = passed types t ft A s l k [] h.1 xs f.0 f.1 in
        file-begins l k (length (arguments types t ft A s xs)) [] h.1 x.piece xs (λ ts ops. refl) p.0 p.1 h.0
    on-begin l next (operand.Method k) x xs may none h made =
        let f = parts types t ft A s l (operand.Method k) xs none in
        let p = passed types t ft A s l k (ValueType.Struct h.0 ∷ []) h.2 xs f.0 f.1 in
        let e = p.0 in
        file-begins l k (length (arguments types t ft A s xs) + 1) (ValueType.Struct h.0 ∷ []) h.2 x.piece xs
        (λ ts ops. refl) (omega (arith, e)) p.1 h.1
    on-begin l next (operand.BuiltIn built_in.Close) x xs may none h made =
        begins-made l next built_in.Close x.piece xs
        (parts types t ft A s l (operand.BuiltIn built_in.Close) xs none).0 h made
    on-begin l next (operand.BuiltIn built_in.Lock) x xs may none h made =
        begins-made l next built_in.Lock x.piece xs
        (parts types t ft A s l (operand.BuiltIn built_in.Lock) xs none).0 h made
    on-begin l next (operand.BuiltIn built_in.Unlock) x xs may none h made =
        begins-made l next built_in.Unlock x.piece xs
        (parts types t ft A s l (operand.BuiltIn built_in.Unlock) xs none).0 h made
    on-begin l next (operand.BuiltIn built_in.Add) x xs may none h made =
        begins-made l next built_in.Add x.piece xs
        (parts types t ft A s l (operand.BuiltIn built_in.Add) xs none).0 h made
    on-begin l next (operand.BuiltIn built_in.Done) x xs may none h made =
        begins-made l next built_in.Done x.piece xs
        (parts types t ft A s l (operand.BuiltIn built_in.Done) xs none).0 h made
    on-begin l next (operand.BuiltIn built_in.WaitGroup) x xs may none h made =
        begins-made l next built_in.WaitGroup x.piece xs
        (parts types t ft A s l (operand.BuiltIn built_in.WaitGroup) xs none).0 h made
    on-begin l next (operand.BuiltIn built_in.WriteLock) x xs may none h made =
        begins-made l next built_in.WriteLock x.piece xs
        (parts types t ft A s l (operand.BuiltIn built_in.WriteLock) xs none).0 h made
    on-begin l next (operand.BuiltIn built_in.WriteUnlock) x xs may none h made =
        begins-made l next built_in.WriteUnlock x.piece xs
        (parts types t ft A s l (operand.BuiltIn built_in.WriteUnlock) xs none).0 h made
    on-begin l next (operand.BuiltIn built_in.ReadLock) x xs may none h made =
        begins-made l next built_in.ReadLock x.piece xs
        (parts types t ft A s l (operand.BuiltIn built_in.ReadLock) xs none).0 h made
    on-begin l next (operand.BuiltIn built_in.ReadUnlock) x xs may none h made =
        begins-made l next built_in.ReadUnlock x.piece xs
        (parts types t ft A s l (operand.BuiltIn built_in.ReadUnlock) xs none).0 h made
    on-begin l next (operand.BuiltIn built_in.WaitCondition) x xs may none h made =
        begins-made l next built_in.WaitCondition x.piece xs
        (parts types t ft A s l (operand.BuiltIn built_in.WaitCondition) xs none).0 h made
    on-begin l next (operand.BuiltIn built_in.Signal) x xs may none h made =
        begins-made l next built_in.Signal x.piece xs
        (parts types t ft A s l (operand.BuiltIn built_in.Signal) xs none).0 h made
    on-begin l next (operand.BuiltIn built_in.Broadcast) x xs may none h made =
        begins-made l next built_in.Broadcast x.piece xs
        (parts types t ft A s l (operand.BuiltIn built_in.Broadcast) xs none).0 h made
    on-begin l next operand.Unknown x xs may none h made = absurd h
    on-begin l next _ x xs may none h made = cc

  -- what is begun takes what it is given

  no-arguments : (l : ℕ) (xs : List (Arg types t ft A s)) → parameter_faults l [] (map given_by (Js xs)) ≡ []
      → typed_args xs ≡ []
  no-arguments l [] none = refl
  no-arguments l (x ∷ xs) none = let e = kept l 11 (same_number [] (map given_by (Js (x ∷ xs))))
      (none-right (argument_faults l [] (map given_by (Js (x ∷ xs)))) _ none) in absurd
      (omega (arith, eqb-true 0 (length (map given_by (Js (x ∷ xs)))) e))

  -- the type of a channel that can be closed
  typed-channel : (g : Given) (p : Piece) → has_layer takes g ≡ true → PushesGiven types t ft A s.file g p
      → (e : ValueType)
      × (known_type (type_given g) ≡ ValueType.Chan e)
  typed-channel (given_as.Typed a) p fit h = let c = sent-on a.layers a.base fit in (value_type c.0, c.2)
  typed-channel given_as.Nil p fit h = cc
  typed-channel given_as.Unknown p fit h = absurd h

  typed-int : (g : Given) (p : Piece) → assignable g (Some (plain base.Int)) ≡ true
      → PushesGiven types t ft A s.file g p
      → known_type (type_given g) ≡ ValueType.Int
  typed-int (given_as.Typed a) p fit h = assigned-value a (plain base.Int) fit
  typed-int given_as.Nil p fit h = cc
  typed-int given_as.Unknown p fit h = absurd h

  making-close : (l : ℕ) (xs : List (Arg types t ft A s)) → flat_map (used l) (Js xs) ≡ []
      → built_in_faults l built_in.Close (map given_by (Js xs)) ≡ [] → (e : ValueType)
      × (known_types (typed_args xs) ≡ ValueType.Chan e ∷ [])
  making-close l xs u none =
      let first = none-left (parameter_faults l (None ∷ []) (map given_by (Js xs))) _ none in
      let one = one-passed types t ft A s l xs
      (kept l 11 _ (none-right (argument_faults l (None ∷ []) (map given_by (Js xs))) _ first)) u in
      let fit = subst (λ ys. all_first (has_layer takes) (map given_by (Js ys)) ≡ true) one.1
      (kept l 16 _ (none-right (parameter_faults l (None ∷ []) (map given_by (Js xs))) _ none)) in
      let c = typed-channel (given_by one.0.judged) one.0.made.piece fit (arg-gives types t ft A s l one.0 one.2) in
      (c.0, ap (λ ys. known_types (typed_args ys)) one.1 ∙ ap (λ v. v ∷ []) c.1)

  making-add : (l : ℕ) (xs : List (Arg types t ft A s)) → flat_map (used l) (Js xs) ≡ []
      → parameter_faults l (Some (plain base.Int) ∷ []) (map given_by (Js xs)) ≡ []
      → known_types (typed_args xs) ≡ ValueType.Int ∷ []
  making-add l [] u none = let e = kept l 11 (same_number (Some (plain base.Int) ∷ []) [])
      (none-right (argument_faults l (Some (plain base.Int) ∷ []) []) _ none) in cc
  making-add l (x ∷ []) u none =
      let first = none-left (argument_faults l (Some (plain base.Int) ∷ []) (map given_by (Js (x ∷ [])))) _ none in
      let fit = kept l 9 (assignable (given_by x.judged) (Some (plain base.Int)))
      (none-left (broken l 9 (assignable (given_by x.judged) (Some (plain base.Int)))) _ first) in
      ap (λ v. v ∷ []) (typed-int (given_by x.judged) x.made.piece fit
      (arg-gives types t ft A s l x (none-left (used l x.judged) _ u)))
  making-add l (x ∷ (y ∷ ys)) u none = let e =
      kept l 11 (same_number (Some (plain base.Int) ∷ []) (map given_by (Js (x ∷ (y ∷ ys)))))
      (none-right (argument_faults l (Some (plain base.Int) ∷ []) (map given_by (Js (x ∷ (y ∷ ys))))) _ none) in absurd
      (omega (arith, eqb-true 1 (length (map given_by (Js (x ∷ (y ∷ ys))))) e))

  makings-fit : (l : ℕ) (m : Operand) (xs : List (Arg types t ft A s)) → may_be_begun m ≡ true
      → (called_with l s m (Js xs)).faults ≡ [] → Every IsMaking (makings l m (arguments types t ft A s xs))
  makings-fit l (operand.Function k) xs may none = tt
  makings-fit l (operand.Method k) xs may none = tt
  makings-fit l (operand.BuiltIn built_in.Close) xs may none = let f =
      parts types t ft A s l (operand.BuiltIn built_in.Close) xs none in (making-close l xs f.0 f.1, tt)
  makings-fit l (operand.BuiltIn built_in.Add) xs may none = let f =
      parts types t ft A s l (operand.BuiltIn built_in.Add) xs
      none in (ap (λ ts. ValueType.Group ∷ ts) (making-add l xs f.0 f.1), tt)
  makings-fit l (operand.BuiltIn built_in.Lock) xs may none = let f =
      parts types t ft A s l (operand.BuiltIn built_in.Lock) xs
      none in (ap (λ ts. ValueType.Mutex ∷ known_types ts) (no-arguments l xs f.1), tt)
  makings-fit l (operand.BuiltIn built_in.Unlock) xs may none = let f =
      parts types t ft A s l (operand.BuiltIn built_in.Unlock) xs
      none in (ap (λ ts. ValueType.Mutex ∷ known_types ts) (no-arguments l xs f.1), tt)
  makings-fit l (operand.BuiltIn built_in.Done) xs may none = let f =
      parts types t ft A s l (operand.BuiltIn built_in.Done) xs
      none in (ap (λ ts. ValueType.Group ∷ known_types ts) (no-arguments l xs f.1), tt)
  makings-fit l (operand.BuiltIn built_in.WaitGroup) xs may none = let f =
      parts types t ft A s l (operand.BuiltIn built_in.WaitGroup) xs
      none in (ap (λ ts. ValueType.Group ∷ known_types ts) (no-arguments l xs f.1), tt)
  makings-fit l (operand.BuiltIn built_in.WriteLock) xs may none = let f =
      parts types t ft A s l (operand.BuiltIn built_in.WriteLock) xs
      none in (ap (λ ts. ValueType.Rw ∷ known_types ts) (no-arguments l xs f.1), tt)
  makings-fit l (operand.BuiltIn built_in.WriteUnlock) xs may none = let f =
      parts types t ft A s l (operand.BuiltIn built_in.WriteUnlock) xs
      none in (ap (λ ts. ValueType.Rw ∷ known_types ts) (no-arguments l xs f.1), tt)
  makings-fit l (operand.BuiltIn built_in.ReadLock) xs may none = let f =
      parts types t ft A s l (operand.BuiltIn built_in.ReadLock) xs
      none in (ap (λ ts. ValueType.Rw ∷ known_types ts) (no-arguments l xs f.1), tt)
  makings-fit l (operand.BuiltIn built_in.ReadUnlock) xs may none = let f =
      parts types t ft A s l (operand.BuiltIn built_in.ReadUnlock) xs
      none in (ap (λ ts. ValueType.Rw ∷ known_types ts) (no-arguments l xs f.1), tt)
  makings-fit l (operand.BuiltIn built_in.WaitCondition) xs may none = let f =
      parts types t ft A s l (operand.BuiltIn built_in.WaitCondition) xs
      none in (ap (λ ts. ValueType.Cond ∷ known_types ts) (no-arguments l xs f.1), tt)
  makings-fit l (operand.BuiltIn built_in.Signal) xs may none = let f =
      parts types t ft A s l (operand.BuiltIn built_in.Signal) xs
      none in (ap (λ ts. ValueType.Cond ∷ known_types ts) (no-arguments l xs f.1), tt)
  makings-fit l (operand.BuiltIn built_in.Broadcast) xs may none = let f =
      parts types t ft A s l (operand.BuiltIn built_in.Broadcast) xs
      none in (ap (λ ts. ValueType.Cond ∷ known_types ts) (no-arguments l xs f.1), tt)
  makings-fit l operand.Unknown xs may none = tt
  makings-fit l _ xs may none = cc

module _ (types : Types) (t : Tables) (ft : FunctionTypes) where
  pub right-begin : (begin : ℕ → ℕ → Instr)
      → ((full : List Shape) (k : ℕ) (sh : Shape) (f n : ℕ)
      → TakesArguments types (filled ft full) k sh f n (λ callee. [])
      → InstructionFits types (filled ft full) k (begin f n) sh)
      → (l : ℕ) (f : Expr) (xs : List Expr) → Right types t ft (begin_part t l begin f xs)
  right-begin begin rule l f xs a s A exits ok ways slots made none =
      let j = judge f l s in
      let c = code_at t l s f in
      let js = map (judge_at l s) xs in
      let ys = args types t ft l s A ok xs in
      let called = none-left (call_judged l s j js).faults _ none in
      let may = kept l 12 (may_be_begun j.meaning)
      (none-right (done_faults l (call_judged l s j js).meaning) _
      (none-right (call_judged l s j js).faults _ none)) in
      let clean = subst (λ ks. (called_with l s j.meaning ks).faults ≡ []) (sym (js-are types t ft l s A ok xs))
      (none-right (named_or_used l j) (called_with l s j.meaning js).faults called) in
      let shown = fits types t ft f l s A ok (none-left j.faults _ (none-left (named_or_used l j) _ called)) in
      let same = arguments-are types t ft l s A ok xs in
      let made1 = subst (λ zs. MadeFit types a.functions (makings l j.meaning zs)) (sym same) made in
      let h = on-begin types t ft A s begin rule l a.functions j.meaning c ys may clean shown made1 in (
        quiet types t ft A exits s (W.begin_call l f xs s) _ refl ok
            (subst (λ zs. Silent types ft A (all
            (c.piece ∷ pushes zs ∷ beginning l begin a.functions j.meaning zs ∷ []))) same h [] exits),
        subst (λ zs. Every IsMaking (makings l j.meaning zs)) same
            (makings-fit types t ft A s l j.meaning ys may clean),
      )
