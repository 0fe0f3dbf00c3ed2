-- `go` and `defer`: receiver and arguments are evaluated, and a function begins with as many.
-- For: `begin_deed`, golf_meaning_statements/specs/Steps.antt; `statements_fit`, src/lib.rt
-- By: induction over the list of arguments; cases of what is called
use Rattle.std.proofs.Common.{◌≡◌, ℕ, suc, ◌+◌, true, List, [], ◌∷◌, ◌++◌, length, map, Option, Some, None, refl, sym}
use Rattle.std.proofs.Common.{ap, ◌∙◌, subst, arith}
use Rattle.std.proofs.lemmas.List.{length-map}
use Rattle.std.specs.Prelude.{flat_map}
use Rattle.golf_syntax_trees.specs.declared.expressions.Expr.{Expr}
use Rattle.golf_data.specs.declared.code.Instr.{Instr}
use Rattle.golf_check_types.specs.declared.types.Base.{Base}
use Rattle.golf_check_types.specs.declared.operands.BuiltIn.{BuiltIn}
use Rattle.golf_check_types.specs.declared.operands.BuiltIn.TheVariants as built_in
use Rattle.golf_check_types.specs.declared.operands.Operand.{Operand}
use Rattle.golf_check_types.specs.declared.operands.Operand.TheVariants as operand
use Rattle.golf_check_types.specs.declared.scopes.Scope.{Scope}
use Rattle.golf_check_types.specs.Expressions.{used, named_or_used}
use Rattle.golf_check_types.specs.Calls.{called_with}
use Rattle.golf_check_types.specs.Judgments.{judge_at}
use Rattle.golf_check_types.specs.Types.{type_given, given}
use Rattle.golf_check_types.specs.Statements as W
use Rattle.golf_check_types.specs.Statements.{may_be_begun, done_faults}
use Rattle.golf_model_typing.specs.Types.{Types}
use Rattle.golf_data.specs.Effects.{taken}
use Rattle.golf_code_of.specs.declared.tables.Tables.{Tables}
use Rattle.golf_code_of.specs.Calls as K
use Rattle.golf_code_of.specs.Calls.{receiver_base, with_receiver}
use Rattle.golf_code_of.specs.ExpressionCode.{argument_at}
use Rattle.golf_code_shapes.proofs.Typings.{none-left, none-right, kept}
use Rattle.golf_meaning_flat.specs.Worlds.{World, Part, bind}
use Rattle.golf_meaning_source.specs.Names.{Env}
use Rattle.golf_meaning_source.specs.Operations.{Taking, Gives, both, visible}
use Rattle.golf_meaning_source.specs.Exprs.{Location, ArgumentMeaning, values_of, if_none}
use Rattle.golf_meaning_statements.specs.Steps.{does_at, value_at, argument, beginning, begin_deals, begin_deed}
use Rattle.golf_meaning_runs.specs.Sound.{SoundPart, NamesHaveValues, FileTaken}
use Rattle.golf_meaning_runs.specs.Meets.{Many, GivesReceiver}
use Rattle.golf_meaning_runs.specs.SoundFlows.{Never}
use Rattle.golf_meaning_runs.proofs.Calculus.{sound-bind, Leaves}
use Rattle.golf_meaning_runs.proofs.Counts.{many-both, many-order, stored, EachOne}
use Rattle.golf_meaning_runs.proofs.Naming.{Me}
use Rattle.golf_meaning_runs.proofs.Flows.{fitting-on}
use Rattle.golf_meaning_runs.proofs.Simples.{still, shown, one-of}
use Rattle.golf_meaning_runs.proofs.Blocks.{Fits, goes-fits}

module _ (taking : Taking) where
  module _ (types : Types) (t : Tables) (l : ℕ) (s : Scope) (env : Env) (file : FileTaken taking types t s.file)
      (fit : NamesHaveValues taking s.locals env) where
    -- arguments

    each-value : (xs : List Expr) → flat_map (used l) (map (judge_at l s) xs) ≡ []
        → EachOne taking (map (λ (a : ArgumentMeaning). a.value) (map (argument taking t l s env) xs))
    each-value [] u = tt
    each-value (x ∷ xs) u = (
      one-of taking types t l s env file fit x (none-left (used l (judge_at l s x)) _ u),
      each-value xs (none-right (used l (judge_at l s x)) _ u),
    )

    as-long : (xs : List Expr) → length (map (λ (a : ArgumentMeaning). a.value) (map (argument taking t l s env) xs))
        ≡ length
        (map (argument_at t l s) xs)
    as-long [] = refl
    as-long (x ∷ xs) = ap (λ n. suc n) (as-long xs)

    values : (xs : List Expr) → flat_map (used l) (map (judge_at l s) xs) ≡ []
        → Many taking (length (map (argument_at t l s) xs)) (values_of (map (argument taking t l s env) xs))
    values xs u = subst (λ n. Many taking n (values_of (map (argument taking t l s env) xs))) (as-long xs)
        (many-order taking (map (λ (a : ArgumentMeaning). a.value) (map (argument taking t l s env) xs))
        (each-value xs u))

    -- an instruction takes receiver and arguments
    operates : (c k : ℕ) (i : Instr) (v vs : Gives) → Many taking c v → Many taking k vs → taken i ≡ c + k
        → Leaves taking i 0 → (w : World) → SoundPart taking (NamesHaveValues taking s.locals)
        (bind (both v vs w) (λ zs u. bind (visible taking i [] zs u) (λ us y. if_none us y (Part.Gives env y))))
    operates c k i v vs h g e many w = sound-bind taking (both v vs w)
        (λ zs u. bind (visible taking i [] zs u) (λ us y. if_none us y (Part.Gives env y))) (λ zs. length zs ≡ c + k)
        (NamesHaveValues taking s.locals) (many-both taking c k v vs h g w)
        (λ zs u len. stored taking (NamesHaveValues taking s.locals) env i zs u (len ∙ sym e) many fit)

    module _ (begin : ℕ → ℕ → Instr) (rule : (j m : ℕ) → taken (begin j m) ≡ m)
        (leaves : (j m : ℕ) → Leaves taking (begin j m) 0) (next : ℕ) (xs : List Expr) where
      abbrev Begun : Operand → Gives → World → Type 0
      Begun m v w = SoundPart taking (NamesHaveValues taking s.locals)
          (bind (both v (values_of (map (argument taking t l s env) xs)) w)
          (λ vs u. bind (beginning taking begin next m (map (argument_at t l s) xs) vs u)
          (λ us y. if_none us y (Part.Gives env y))))

      -- the function that is made for a built-in operation
      built-in : (b : BuiltIn) (v : Gives) → GivesReceiver taking (receiver_base b) v
          → flat_map (used l) (map (judge_at l s) xs) ≡ [] → (w : World) → Begun (operand.BuiltIn b) v w
      built-in b v h u = by (receiver_base b) h
        where
          by : (o : Option Base) → GivesReceiver taking o v → (w : World)
              → SoundPart taking (NamesHaveValues taking s.locals)
              (bind (both v (values_of (map (argument taking t l s env) xs)) w)
              (λ vs u. bind (visible taking (begin next
              (length (with_receiver o (map (λ (x : K.ArgumentCode). type_given (given x.meaning))
              (map (argument_at t l s) xs))))) [] vs u) (λ us y. if_none us y (Part.Gives env y))))
          by None g = operates 0 (length (map (argument_at t l s) xs))
              (begin next (length (with_receiver None
              (map (λ (x : K.ArgumentCode). type_given (given x.meaning)) (map (argument_at t l s) xs))))) v
              (values_of (map (argument taking t l s env) xs)) g (values xs u)
              (omega (
                arith,
                rule next (length (map (λ (x : K.ArgumentCode). type_given (given x.meaning))
                    (map (argument_at t l s) xs))),
                length-map (map (argument_at t l s) xs)
                    (λ (x : K.ArgumentCode). type_given (given x.meaning)),
              ))
              (leaves next (length (with_receiver None
              (map (λ (x : K.ArgumentCode). type_given (given x.meaning)) (map (argument_at t l s) xs)))))
          by (Some r) g = operates 1 (length (map (argument_at t l s) xs))
              (begin next (length (with_receiver (Some r)
              (map (λ (x : K.ArgumentCode). type_given (given x.meaning)) (map (argument_at t l s) xs))))) v
              (values_of (map (argument taking t l s env) xs)) g (values xs u)
              (omega (
                arith,
                rule next (length (with_receiver (Some r)
                    (map (λ (x : K.ArgumentCode). type_given (given x.meaning)) (map (argument_at t l s) xs)))),
                length-map (map (argument_at t l s) xs) (λ (x : K.ArgumentCode). type_given (given x.meaning)),
              ))
              (leaves next (length (with_receiver (Some r)
              (map (λ (x : K.ArgumentCode). type_given (given x.meaning)) (map (argument_at t l s) xs)))))

      begun : (m : Operand) (v : Gives) (p : Location) (q : Gives) → Me taking types t s env m v p q
          → (called_with l s m (map (judge_at l s) xs)).faults ≡ [] → may_be_begun m ≡ true → (w : World) → Begun m v w
      begun (operand.Function k) v p q h none may =
          operates 0 (length (map (argument_at t l s) xs)) (begin (k + 1) (length (map (argument_at t l s) xs))) v
          (values_of (map (argument taking t l s env) xs)) h.0
          (values xs (none-left (flat_map (used l) (map (judge_at l s) xs)) _ none))
          (omega (arith, rule (k + 1) (length (map (argument_at t l s) xs))))
          (leaves (k + 1) (length (map (argument_at t l s) xs)))
      begun (operand.Method k) v p q h none may =
          operates 1 (length (map (argument_at t l s) xs)) (begin (k + 1) (length (map (argument_at t l s) xs) + 1)) v
          (values_of (map (argument taking t l s env) xs)) h.1
          (values xs (none-left (flat_map (used l) (map (judge_at l s) xs)) _ none))
          (omega (arith, rule (k + 1) (length (map (argument_at t l s) xs) + 1)))
          (leaves (k + 1) (length (map (argument_at t l s) xs) + 1))
      begun (operand.BuiltIn built_in.Close) v p q h none may =
          built-in built_in.Close v h (none-left (flat_map (used l) (map (judge_at l s) xs)) _ none)
      begun (operand.BuiltIn built_in.Lock) v p q h none may =
          built-in built_in.Lock v h (none-left (flat_map (used l) (map (judge_at l s) xs)) _ none)
      begun (operand.BuiltIn built_in.Unlock) v p q h none may =
          built-in built_in.Unlock v h (none-left (flat_map (used l) (map (judge_at l s) xs)) _ none)
      begun (operand.BuiltIn built_in.Add) v p q h none may =
          built-in built_in.Add v h (none-left (flat_map (used l) (map (judge_at l s) xs)) _ none)
      begun (operand.BuiltIn built_in.Done) v p q h none may =
          built-in built_in.Done v h (none-left (flat_map (used l) (map (judge_at l s) xs)) _ none)
      begun (operand.BuiltIn built_in.WaitGroup) v p q h none may =
          built-in built_in.WaitGroup v h (none-left (flat_map (used l) (map (judge_at l s) xs)) _ none)
      begun (operand.BuiltIn built_in.WriteLock) v p q h none may =
          built-in built_in.WriteLock v h (none-left (flat_map (used l) (map (judge_at l s) xs)) _ none)
      begun (operand.BuiltIn built_in.WriteUnlock) v p q h none may =
          built-in built_in.WriteUnlock v h (none-left (flat_map (used l) (map (judge_at l s) xs)) _ none)
      begun (operand.BuiltIn built_in.ReadLock) v p q h none may =
          built-in built_in.ReadLock v h (none-left (flat_map (used l) (map (judge_at l s) xs)) _ none)
      begun (operand.BuiltIn built_in.ReadUnlock) v p q h none may =
          built-in built_in.ReadUnlock v h (none-left (flat_map (used l) (map (judge_at l s) xs)) _ none)
      begun (operand.BuiltIn built_in.WaitCondition) v p q h none may =
          built-in built_in.WaitCondition v h (none-left (flat_map (used l) (map (judge_at l s) xs)) _ none)
      begun (operand.BuiltIn built_in.Signal) v p q h none may =
          built-in built_in.Signal v h (none-left (flat_map (used l) (map (judge_at l s) xs)) _ none)
      begun (operand.BuiltIn built_in.Broadcast) v p q h none may =
          built-in built_in.Broadcast v h (none-left (flat_map (used l) (map (judge_at l s) xs)) _ none)
      begun operand.Unknown v p q h none may = absurd h
      begun _ v p q h none may = cc

      pub begins-with : (f : Expr) → (W.begin_call l f xs s).faults ≡ [] → (w : World)
          → SoundPart taking (NamesHaveValues taking s.locals) (begin_deals taking t l begin f xs next s env w)
      begins-with f none =
          let j = judge_at l s f in
          let call = (none-left (named_or_used l j ++ (called_with l s j.meaning (map (judge_at l s) xs)).faults) _
          none) in
          let rest = (none-right (named_or_used l j ++ (called_with l s j.meaning (map (judge_at l s) xs)).faults) _
          none) in
          let may = kept l 12 (may_be_begun j.meaning)
          (none-right (done_faults l (called_with l s j.meaning (map (judge_at l s) xs)).meaning) _ rest) in
          begun j.meaning (value_at taking t l s f env) ((does_at taking t l s f).place env)
          ((does_at taking t l s f).parts env)
          (shown taking types t l s env file fit f (none-left j.faults _ (none-left (named_or_used l j) _ call)))
          (none-right (named_or_used l j) _ call) may

  pub begin-fits : (types : Types) (t : Tables) (begin : ℕ → ℕ → Instr) → ((j m : ℕ) → taken (begin j m) ≡ m)
      → ((j m : ℕ) → Leaves taking (begin j m) 0) → (l : ℕ) (f : Expr) (xs : List Expr)
      → Fits taking types t (W.begin_call l f xs) (begin_deed taking t l begin f xs)
  begin-fits types t begin rule leaves l f xs =
      goes-fits taking types t (W.begin_call l f xs) (begin_deed taking t l begin f xs)
      (λ a s n env u file fit none. fitting-on taking (NamesHaveValues taking (s.locals ++ [])) Never Never Never
      (begin_deals taking t l begin f xs a.functions s env u)
      (still taking s.locals (begin_deals taking t l begin f xs a.functions s env u)
      (begins-with types t l s env file fit begin rule leaves a.functions xs f none u)))
