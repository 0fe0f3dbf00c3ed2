-- The meanings of function 0 and of the functions that are made lack no rule.
-- For: `MeaningsSound`, golf_meaning_runs/specs/FileLaws.antt; `meanings_sound`, src/lib.rt
-- By: cases of the operation; induction over the lists of declarations, of parameters and of functions that are made
use Rattle.std.proofs.Common.{◌≡◌, ℕ, zero, suc, ◌+◌, ◌==◌, Bool, cond, List, [], ◌∷◌, ◌++◌, length, length-append}
use Rattle.std.proofs.Common.{Option, Some, None, negsuc, refl, ap, ◌∙◌, slice_get, arith}
use Rattle.std.specs.Prelude.{is_some}
use Rattle.std.proofs.lemmas.List.{length-map}
use Rattle.golf_theory.specs.Membership.{Every}
use Rattle.golf_syntax_trees.specs.declared.expressions.Expr.{Expr}
use Rattle.golf_syntax_trees.specs.declared.statements.VarContent.{VarContent}
use Rattle.golf_syntax_trees.specs.declared.statements.VarContent.TheVariants as content
use Rattle.golf_syntax_trees.specs.declared.declarations.Decl.{Decl}
use Rattle.golf_syntax_trees.specs.declared.declarations.Decl.TheVariants as d
use Rattle.golf_data.specs.declared.value.Value.{Value}
use Rattle.golf_data.specs.declared.code.Instr.{Instr}
use Rattle.golf_data.specs.Effects.{taken}
use Rattle.golf_check_types.specs.declared.types.GoType.{GoType}
use Rattle.golf_check_types.specs.declared.operands.BuiltIn.{BuiltIn}
use Rattle.golf_check_types.specs.declared.operands.BuiltIn.TheVariants as built_in
use Rattle.golf_check_types.specs.declared.scopes.FileScope.{FileScope}
use Rattle.golf_check_types.specs.Expressions.{used}
use Rattle.golf_check_types.specs.Judgments.{judge}
use Rattle.golf_check_types.specs.Files.{initial_walk, decl_walked, walk_faults}
use Rattle.golf_model_typing.specs.Types.{ValueType, Signature, Types}
use Rattle.golf_code_of.specs.declared.surroundings.Making.{Making}
use Rattle.golf_code_of.specs.declared.tables.Tables.{Tables}
use Rattle.golf_code_shapes.specs.Types.{known_type, known_types}
use Rattle.golf_code_shapes.specs.StatementFlow.{TakesOperands, IsMaking}
use Rattle.golf_code_shapes.specs.FileLaws.{initial_scope}
use Rattle.golf_code_shapes.proofs.Typings.{none-left, none-right}
use Rattle.golf_meaning_flat.specs.Worlds.{Answer, Part}
use Rattle.golf_meaning_source.specs.Operations.{Taking, both, visible}
use Rattle.golf_meaning_source.specs.Exprs.{operation}
use Rattle.golf_meaning_statements.specs.Steps.{value_at}
use Rattle.golf_meaning_statements.specs.Functions.{begins}
use Rattle.golf_meaning_statements.specs.MadeFunctions.{then_returns, set_global, initial_does, initials_do}
use Rattle.golf_meaning_statements.specs.MadeFunctions.{EntryMeaning}
use Rattle.golf_meaning_statements.specs.Files.{made_meaning}
use Rattle.golf_meaning_runs.specs.Sound.{SoundPart, FileTaken}
use Rattle.golf_meaning_runs.specs.SoundFlows.{EndSound}
use Rattle.golf_meaning_runs.specs.Meets.{Many}
use Rattle.golf_meaning_runs.specs.FileLaws.{MadeArguments}
use Rattle.golf_meaning_runs.proofs.Calculus.{Leaves}
use Rattle.golf_meaning_runs.proofs.Counts.{many-both, many-then, none-left-over}
use Rattle.golf_meaning_runs.proofs.Simples.{one-of}

-- so many values has the answer to a call, if the function gives one
abbrev call_left : ℕ → Bool → Option ℕ
call_left k b = cond (k == 0) (Some (cond b 1 0)) None

module _ (taking : Taking) where
  returns-sound : (p : Part (List Value)) (K : List Value → Type 0) → SoundPart taking K p
      → EndSound taking.strict (then_returns p).end
  returns-sound (Part.Gives vs w) K h = tt
  returns-sound (Part.Stops s os) K h = h

  -- ---- functions that are made

  -- an operation that takes so many operands leaves nothing
  silent : (i : Instr) {ts : List ValueType} (os : List (Option GoType)) (vs : List Value) → known_types os ≡ ts
      → length vs ≡ length os → length ts ≡ taken i → Leaves taking i 0 → Many taking 0 (visible taking i [] vs)
  silent i os vs same long takes many = none-left-over taking i vs
      (omega (arith, long, length-map os known_type, ap length same, takes)) many

  operation-sound : (b : BuiltIn) (n : ℕ) (os : List (Option GoType)) (vs : List Value)
      → TakesOperands b (known_types os) → length vs ≡ length os → Many taking 0 (operation taking n b [] vs)
  operation-sound built_in.Close n os vs h long = silent Instr.Close os vs h.1 long refl (λ k. refl)
  operation-sound built_in.Lock n os vs h long = silent Instr.Lock os vs h long refl (λ k. refl)
  operation-sound built_in.Unlock n os vs h long = silent Instr.Unlock os vs h long refl (λ k. refl)
  operation-sound built_in.Add n os vs h long = silent Instr.GroupAdd os vs h long refl (λ k. refl)
  operation-sound built_in.Done n os vs h long = none-left-over taking Instr.GroupAdd (vs ++ Value.Int (negsuc 0) ∷ [])
      (omega (
        arith,
        length-append vs (Value.Int (negsuc 0) ∷ []),
        long,
        length-map os known_type,
        ap length h,
      )) (λ k. refl)
  operation-sound built_in.WaitGroup n os vs h long = silent Instr.GroupWait os vs h long refl (λ k. refl)
  operation-sound built_in.WriteLock n os vs h long = silent Instr.RwLock os vs h long refl (λ k. refl)
  operation-sound built_in.WriteUnlock n os vs h long = silent Instr.RwUnlock os vs h long refl (λ k. refl)
  operation-sound built_in.ReadLock n os vs h long = silent Instr.ReadLock os vs h long refl (λ k. refl)
  operation-sound built_in.ReadUnlock n os vs h long = silent Instr.ReadUnlock os vs h long refl (λ k. refl)
  operation-sound built_in.WaitCondition n os vs h long = silent Instr.CondWait os vs h long refl (λ k. refl)
  operation-sound built_in.Signal n os vs h long = silent Instr.CondSignal os vs h long refl (λ k. refl)
  operation-sound built_in.Broadcast n os vs h long = silent Instr.CondBroadcast os vs h long refl (λ k. refl)
  operation-sound built_in.Length n os vs h long = absurd h
  operation-sound built_in.Panic n os vs h long = absurd h
  operation-sound built_in.Print n os vs h long = absurd h
  operation-sound built_in.Collect n os vs h long = absurd h
  operation-sound built_in.SetFinalizer n os vs h long = absurd h
  operation-sound built_in.NewCondition n os vs h long = absurd h

  pub made-sound : (ms : List Making) (k : ℕ) (arguments : List Value) (answers : List Answer) (n : ℕ)
      → Every IsMaking ms → MadeArguments ms k arguments
      → EndSound taking.strict (made_meaning taking ms k arguments answers n).end
  made-sound [] k arguments answers n h given = absurd given
  made-sound (m ∷ ms) zero arguments answers n h given =
      returns-sound (operation taking (length m.parameters) m.operation [] arguments (begins answers))
      (λ vs. length vs ≡ 0)
      (operation-sound m.operation (length m.parameters) m.parameters arguments h.0 given (begins answers))
  made-sound (m ∷ ms) (suc k) arguments answers n h given = made-sound ms k arguments answers n h.1 given

  -- ---- function 0

  module _ (types : Types) (t : Tables) (names : FileScope) (file : FileTaken taking types t names) where
    set-sound : (g l : ℕ) (e : Expr) → used l (judge e l (initial_scope names g)) ≡ []
        → Many taking 0 (set_global taking t (initial_scope names g) g l e)
    set-sound g l e none =
        many-then taking 1 (value_at taking t l (initial_scope names g) e []) (visible taking (Instr.StoreGlobal g) [])
        (λ vs. length vs ≡ 0) (one-of taking types t l (initial_scope names g) [] file tt e none)
        (λ vs long. none-left-over taking (Instr.StoreGlobal g) vs long (λ k. refl))

    initial-sound : (g l : ℕ) (c : VarContent) → (initial_walk l c (initial_scope names g)).faults ≡ []
        → Many taking 0 (initial_does taking t (initial_scope names g) g l c)
    initial-sound g l (content.Zero of_type) none = λ w. refl
    initial-sound g l (content.Typed of_type e) none =
        set-sound g l e (none-left (used l (judge e l (initial_scope names g))) _ none)
    initial-sound g l (content.Untyped e) none =
        set-sound g l e (none-left (used l (judge e l (initial_scope names g))) _ none)

    initials-sound : (g : ℕ) (xs : List Decl) → walk_faults names g xs ≡ []
        → Many taking 0 (initials_do taking t names g xs)
    initials-sound g [] none = λ w. refl
    initials-sound g (d.Var v ∷ xs) none =
        many-both taking 0 0 (initial_does taking t (initial_scope names g) g v.line v.content)
        (initials_do taking t names (g + 1) xs)
        (initial-sound g v.line v.content (none-left (decl_walked names g (d.Var v)).faults _ none))
        (initials-sound (g + 1) xs (none-right (decl_walked names g (d.Var v)).faults _ none))
    initials-sound g (d.Const l x c ∷ xs) none =
        initials-sound g xs (none-right (decl_walked names g (d.Const l x c)).faults _ none)
    initials-sound g (d.Struct l x fields ∷ xs) none =
        initials-sound g xs (none-right (decl_walked names g (d.Struct l x fields)).faults _ none)
    initials-sound g (d.Func f ∷ xs) none =
        initials-sound g xs (none-right (decl_walked names g (d.Func f)).faults _ none)

    -- `main` gives no value
    main-leaves : (main : ℕ) (callee : Signature) → slice_get types.functions main ≡ Some callee → callee.result ≡ None
        → Leaves taking (Instr.Call main 0) 0
    main-leaves main callee there none =
        let gives = file.counts main callee there ∙ ap (λ (m : Option ValueType). is_some m) none in
        λ k. ap (call_left k) gives

    pub entry-sound : (main : ℕ) (xs : List Decl) (answers : List Answer) (n : ℕ) (callee : Signature)
        → walk_faults names 0 xs ≡ [] → slice_get types.functions main ≡ Some callee → callee.result ≡ None
        → EndSound taking.strict (EntryMeaning taking t names main xs answers n).end
    entry-sound main xs answers n callee none there result =
        let call = visible taking (Instr.Call main 0) [] [] in
        returns-sound (both (initials_do taking t names 0 xs) call (begins answers)) (λ vs. length vs ≡ 0)
        (many-both taking 0 0 (initials_do taking t names 0 xs) call (initials-sound 0 xs none)
        (none-left-over taking (Instr.Call main 0) [] refl (main-leaves main callee there result)) (begins answers))
