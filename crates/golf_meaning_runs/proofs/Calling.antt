-- What a call gives.
-- For: `plain_call` and `finaliser_call`, golf_check_types/specs/Calls.antt; `expressions_fit`, src/lib.rt
-- By: induction over the list of arguments; cases of what is called
use Rattle.std.proofs.Common.{◌≡◌, ℕ, suc, ◌+◌, ◌==◌, Bool, false, cond, List, [], ◌∷◌, ◌++◌, map, length}
use Rattle.std.proofs.Common.{length-append, Option, Some, None, refl, sym, ap, ◌∙◌, subst, arith, negsuc}
use Rattle.std.proofs.lemmas.Bool.{eqb-true}
use Rattle.std.specs.Prelude.{flat_map, is_some, slice_get}
use Rattle.std.specs.Option.{option_map}
use Rattle.golf_data.specs.declared.value.Value.{Value}
use Rattle.golf_data.specs.declared.code.Instr.{Instr}
use Rattle.golf_check_types.specs.declared.types.Base.TheVariants as base
use Rattle.golf_check_types.specs.declared.types.GoType.{GoType}
use Rattle.golf_check_types.specs.declared.operands.BuiltIn.{BuiltIn}
use Rattle.golf_check_types.specs.declared.operands.BuiltIn.TheVariants as built_in
use Rattle.golf_check_types.specs.declared.operands.Operand.{Operand}
use Rattle.golf_check_types.specs.declared.operands.Operand.TheVariants as operand
use Rattle.golf_check_types.specs.declared.scopes.Scope.{Scope}
use Rattle.golf_check_types.specs.Faults.{broken}
use Rattle.golf_check_types.specs.Types.{plain}
use Rattle.golf_check_types.specs.Expressions.{Judged, used, given_by}
use Rattle.golf_check_types.specs.Calls.{argument_faults, same_number, parameter_faults, signature_result, of_result}
use Rattle.golf_check_types.specs.Calls.{steady_faults, call_faults, called, plain_call, finaliser_call, called_with}
use Rattle.golf_check_types.specs.Calls.{sets_finaliser}
use Rattle.golf_model_typing.specs.Types.{Types, ValueType}
use Rattle.golf_code_of.specs.declared.tables.Tables.{Tables}
use Rattle.golf_code_of.specs.Calls.{receiver_base}
use Rattle.golf_code_layout.specs.Piece.{Piece}
use Rattle.golf_code_of.specs.Calls as C
use Rattle.golf_code_shapes.specs.Types.{value_type}
use Rattle.golf_code_shapes.specs.Sound.{Callee}
use Rattle.golf_code_shapes.proofs.Typings.{none-left, none-right, kept}
use Rattle.golf_meaning_flat.specs.Worlds.{World, Part, bind, asked, done, Answer}
use Rattle.golf_meaning_flat.specs.InstructionEffects.{miscount}
use Rattle.golf_data.specs.Effects.{taken}
use Rattle.golf_meaning_source.specs.Names.{Env}
use Rattle.golf_meaning_source.specs.Operations.{Taking, Gives, both, then_do, visible, panicking}
use Rattle.golf_meaning_source.specs.Exprs.{Location, ArgumentMeaning, left_types, operation, values_of, finaliser}
use Rattle.golf_meaning_source.specs.Exprs.{finalising}
use Rattle.golf_meaning_source.specs.Exprs.{call}
use Rattle.golf_meaning_runs.specs.Sound.{SoundPart, One, Yields, FileTaken}
use Rattle.golf_meaning_runs.specs.Meets.{Many, GivesReceiver}
use Rattle.golf_meaning_runs.proofs.Calculus.{Leaves}
use Rattle.golf_meaning_runs.proofs.Counts.{many-both, many-then, many-order, none-left-over, one-left, EachOne}
use Rattle.golf_meaning_runs.proofs.Naming.{Me}

-- an argument that was judged, and what it gives
pub record Arg : Type 0 where
  pub judged : Judged
  pub value : Gives

abbrev pub judgeds : List Arg → List Judged
judgeds xs = map (λ x. x.judged) xs

abbrev pub arguments : List Arg → List ArgumentMeaning
arguments xs = map (λ x. record { meaning = x.judged.meaning; value = x.value }) xs

length-args : (xs : List Arg) → length (map (λ (a : ArgumentMeaning). a.value) (arguments xs)) ≡ length (arguments xs)
length-args [] = refl
length-args (x ∷ xs) = ap (λ n. suc n) (length-args xs)

length-given : (xs : List Arg) → length (map given_by (judgeds xs)) ≡ length (arguments xs)
length-given [] = refl
length-given (x ∷ xs) = ap (λ n. suc n) (length-given xs)

-- as many arguments as parameters
counted : (l : ℕ) (ps : List (Option GoType)) (xs : List Arg) → parameter_faults l ps (map given_by (judgeds xs)) ≡ []
    → length (arguments xs) ≡ length ps
counted l ps xs none =
    let e = eqb-true (length ps) (length (map given_by (judgeds xs)))
    (kept l 11 (same_number ps (map given_by (judgeds xs)))
    (none-right (argument_faults l ps (map given_by (judgeds xs))) _ none)) in
    sym (length-given xs) ∙ sym e

-- the instruction of a piece that has one
abbrev only_instr : Piece → Instr
only_instr (Piece.Op i l) = i
only_instr _ = Instr.Nil

module _ (taking : Taking) where
  -- one of them gives a value if it stands as one
  abbrev pub Stands : ℕ → List Arg → Type 0
  Stands l [] = Unit {0}
  Stands l (x ∷ xs) = (used l x.judged ≡ [] → Many taking 1 x.value) × Stands l xs

  each-one : (l : ℕ) (xs : List Arg) → Stands l xs → flat_map (used l) (judgeds xs) ≡ []
      → EachOne taking (map (λ (a : ArgumentMeaning). a.value) (arguments xs))
  each-one l [] h u = tt
  each-one l (x ∷ xs) h u = (
    h.0 (none-left (used l x.judged) _ u),
    each-one l xs h.1 (none-right (used l x.judged) _ u),
  )

  many-values : (l : ℕ) (xs : List Arg) → Stands l xs → flat_map (used l) (judgeds xs) ≡ []
      → Many taking (length (arguments xs)) (values_of (arguments xs))
  many-values l xs h u = subst (λ n. Many taking n (values_of (arguments xs))) (length-args xs)
      (many-order taking (map (λ (a : ArgumentMeaning). a.value) (arguments xs)) (each-one l xs h u))

  module _ (types : Types) (t : Tables) (s : Scope) (env : Env) (file : FileTaken taking types t s.file) where
    -- the value of a call is what the call is
    abbrev Gi : Operand → Gives → Type 0
    Gi m f = Me taking types t s env m f Location.Nowhere (λ w. Part.Gives [] w)

    -- an operation on receiver and arguments, which leaves what its result is
    operates : (k : ℕ) (receiver : Gives) (xs : List Arg) (g : List Value → Gives) (L : List Value → Type 0)
        → Many taking k receiver → Many taking (length (arguments xs)) (values_of (arguments xs))
        → ((vs : List Value) → length vs ≡ k + length (arguments xs) → (w : World) → SoundPart taking L (g vs w))
        → (w : World) → SoundPart taking L (then_do (both receiver (values_of (arguments xs))) g w)
    operates k receiver xs g L hr ha h = many-then taking (k + length (arguments xs))
        (both receiver (values_of (arguments xs))) g L
        (many-both taking k (length (arguments xs)) receiver (values_of (arguments xs)) hr ha) h

    -- functions and methods of the file

    -- what leaves the values of a result
    abbrev Result : Option GoType → List Value → Type 0
    Result None vs = length vs ≡ 0
    Result (Some e) vs = One taking (value_type e) vs

    as-result : (r : Option GoType) (f : Gives) → ((w : World) → SoundPart taking (Result r) (f w)) → Gi (of_result r) f
    as-result None f h = h
    as-result (Some e) f h = h

    of-result : (r : Option GoType) (i : Instr) (vs : List Value) → length vs ≡ taken i
        → Leaves taking i (length (left_types (of_result r))) → (w : World)
        → SoundPart taking (Result r) (visible taking i (left_types (of_result r)) vs w)
    of-result None i vs len many = none-left-over taking i vs len many
    of-result (Some e) i vs len many = one-left taking i e vs len many

    -- a call has as many values as its result
    result-left : (r : Option GoType) (b : Bool) → b ≡ is_some (option_map value_type r) → (n : ℕ)
        → cond (n == 0) (Some (cond b 1 0)) None ≡ cond (n == 0) (Some (length (left_types (of_result r)))) None
    result-left None b e n = ap (λ z. cond (n == 0) (Some (cond z 1 0)) None) e
    result-left (Some t) b e n = ap (λ z. cond (n == 0) (Some (cond z 1 0)) None) e

    file-call : (l k c n : ℕ) (below : List ValueType) (callee : Callee types t s.file k below) (receiver : Gives)
        (xs : List Arg) → Many taking c receiver → Many taking (length (arguments xs)) (values_of (arguments xs))
        → n ≡ c + length (arguments xs)
        → Gi (signature_result (slice_get s.file.functions k))
        (then_do (both receiver (values_of (arguments xs)))
        (visible taking (Instr.Call (k + 1) n) (left_types (signature_result (slice_get s.file.functions k)))))
    file-call l k c n below callee receiver xs hr ha count =
        let gives = file.counts (k + 1) callee.1 callee.3 ∙ ap (λ (m : Option ValueType). is_some m) callee.5 in
        subst (λ o. Gi (signature_result o) (then_do (both receiver (values_of (arguments xs)))
        (visible taking (Instr.Call (k + 1) n) (left_types (signature_result o))))) (sym callee.2)
        (as-result callee.0.result _ (operates c receiver xs _ (Result callee.0.result) hr ha
        (λ vs len. of-result callee.0.result (Instr.Call (k + 1) n) vs (len ∙ sym count)
        (result-left callee.0.result _ gives))))

    parts : (l : ℕ) (m : Operand) (xs : List Arg) → (plain_call l s m (judgeds xs)).faults ≡ []
        → (flat_map (used l) (judgeds xs) ≡ []) × (call_faults l s.file m (map given_by (judgeds xs)) ≡ [])
    parts l m xs none = (
      none-left (flat_map (used l) (judgeds xs)) _ none,
      none-right (steady_faults l s.initialises m) _ (none-right (flat_map (used l) (judgeds xs)) _ none),
    )

    -- built-in calls

    silent : (k : ℕ) (receiver : Gives) (xs : List Arg) (i : Instr) → Many taking k receiver
        → Many taking (length (arguments xs)) (values_of (arguments xs)) → k + length (arguments xs) ≡ taken i
        → Leaves taking i 0 → Many taking 0 (then_do (both receiver (values_of (arguments xs))) (visible taking i []))
    silent k receiver xs i hr ha count many =
        operates k receiver xs (visible taking i []) (λ vs. length vs ≡ 0) hr ha
        (λ vs len. none-left-over taking i vs (len ∙ count) many)

    -- a method of package sync without an argument
    alone : (l : ℕ) (receiver : Gives) (xs : List Arg) (i : Instr) → Stands l xs
        → (flat_map (used l) (judgeds xs) ≡ []) × (parameter_faults l [] (map given_by (judgeds xs)) ≡ [])
        → Many taking 1 receiver → 1 ≡ taken i → Leaves taking i 0
        → Many taking 0 (then_do (both receiver (values_of (arguments xs))) (visible taking i []))
    alone l receiver xs i hs f h takes many = silent 1 receiver xs i h (many-values l xs hs f.0)
        (omega (arith, counted l [] xs f.1, takes)) many

    single : (k : ℕ) (receiver : Gives) (xs : List Arg) (i : Instr) (e : GoType) → Many taking k receiver
        → Many taking (length (arguments xs)) (values_of (arguments xs)) → k + length (arguments xs) ≡ taken i
        → Leaves taking i 1 → Yields taking (value_type e)
        (then_do (both receiver (values_of (arguments xs))) (visible taking i (Some e ∷ [])))
    single k receiver xs i e hr ha count many =
        operates k receiver xs (visible taking i (Some e ∷ [])) (One taking (value_type e)) hr ha
        (λ vs len. one-left taking i e vs (len ∙ count) many)

    -- a panic has no answer
    panics : (vs : List Value) → length vs ≡ 1 → Many taking 0 (panicking vs)
    panics [] len = absurd (omega (arith, len))
    panics (v ∷ []) len = λ w. answering w.answers w
      where
        answering : (answers : List Answer) (w : World)
            → SoundPart taking (λ (vs : List Value). length vs ≡ 0)
            (bind (asked answers (done w Instr.Panic (v ∷ []))) (λ a u. miscount u))
        answering [] w = tt
        answering (a ∷ later) w = tt
    panics (v ∷ (x ∷ vs)) len = absurd (omega (arith, len))

    on-built-in : (l : ℕ) (b : BuiltIn) (receiver : Gives) (xs : List Arg) → sets_finaliser (operand.BuiltIn b) ≡ false
        → Stands l xs → (plain_call l s (operand.BuiltIn b) (judgeds xs)).faults ≡ []
        → GivesReceiver taking (receiver_base b) receiver
        → Gi (called s.file (operand.BuiltIn b) (map given_by (judgeds xs)))
        (then_do (both receiver (values_of (arguments xs)))
        (operation taking (length (arguments xs)) b
        (left_types (called s.file (operand.BuiltIn b) (map given_by (judgeds xs))))))
    on-built-in l built_in.Length receiver xs e hs none h = let f =
        parts l (operand.BuiltIn built_in.Length) xs none in single 0 receiver xs Instr.Len (plain base.Int) h
        (many-values l xs hs f.0) (omega (arith, counted l (None ∷ []) xs (none-right (broken l 8 _) _ f.1)))
        (λ n. refl)
    on-built-in l built_in.Close receiver xs e hs none h = let f =
        parts l (operand.BuiltIn built_in.Close) xs none in silent 0 receiver xs Instr.Close h (many-values l xs hs f.0)
        (omega (
          arith,
          counted l (None ∷ []) xs
              (none-left (parameter_faults l (None ∷ []) (map given_by (judgeds xs))) _ f.1),
        )) (λ n. refl)
    on-built-in l built_in.Panic receiver xs e hs none h = let f =
        parts l (operand.BuiltIn built_in.Panic) xs none in operates 0 receiver xs panicking (λ vs. length vs ≡ 0) h
        (many-values l xs hs f.0) (λ vs len. panics vs (omega (arith, len, counted l (None ∷ []) xs f.1)))
    on-built-in l built_in.Print receiver xs e hs none h = let f =
        parts l (operand.BuiltIn built_in.Print) xs none in silent 0 receiver xs (Instr.Print (length (arguments xs))) h
        (many-values l xs hs f.0) (omega arith) (λ n. refl)
    on-built-in l built_in.Collect receiver xs e hs none h = let f =
        parts l (operand.BuiltIn built_in.Collect) xs none in silent 0 receiver xs Instr.Collect h
        (many-values l xs hs f.0) (omega (arith, counted l [] xs f.1)) (λ n. refl)
    on-built-in l built_in.SetFinalizer receiver xs e hs none h = cc
    on-built-in l built_in.NewCondition receiver xs e hs none h = let f =
        parts l (operand.BuiltIn built_in.NewCondition) xs none in single 0 receiver xs Instr.NewCond
        (plain base.Condition) h (many-values l xs hs f.0)
        (omega (arith, counted l (Some (plain base.Mutex) ∷ []) xs f.1)) (λ n. refl)
    on-built-in l built_in.Add receiver xs e hs none h = let f =
        parts l (operand.BuiltIn built_in.Add) xs none in silent 1 receiver xs Instr.GroupAdd h
        (many-values l xs hs f.0) (omega (arith, counted l (Some (plain base.Int) ∷ []) xs f.1)) (λ n. refl)
    on-built-in l built_in.Done receiver xs e hs none h =
        let f = parts l (operand.BuiltIn built_in.Done) xs none in
        operates 1 receiver xs (λ vs. visible taking Instr.GroupAdd [] (vs ++ Value.Int (negsuc 0) ∷ []))
        (λ vs. length vs ≡ 0) h (many-values l xs hs f.0)
        (λ vs len. none-left-over taking Instr.GroupAdd (vs ++ Value.Int (negsuc 0) ∷ [])
        (omega (arith, length-append vs (Value.Int (negsuc 0) ∷ []), len, counted l [] xs f.1)) (λ n. refl))
    on-built-in l b receiver xs e hs none h =
        alone l receiver xs (only_instr (C.operation l b 0)) hs (parts l (operand.BuiltIn b) xs none) h refl (λ n. refl)

    -- finalisers

    sets : (m : Operand) (vs : List Value) → length vs ≡ 1 → Many taking 0 (finaliser taking m vs)
    sets (operand.Function k) vs len = none-left-over taking (Instr.SetFinalizer (k + 1)) vs len (λ n. refl)
    sets _ vs len = none-left-over taking Instr.ClearFinalizer vs len (λ n. refl)

    on-finaliser : (l : ℕ) (f : Operand) (xs : List Arg) → Stands l xs → (finaliser_call l s f (judgeds xs)).faults ≡ []
        → Gi (finaliser_call l s f (judgeds xs)).meaning (finalising taking (arguments xs))
    on-finaliser l f (x ∷ (y ∷ ys)) hs none =
        many-then taking 1 x.value (finaliser taking y.judged.meaning) (λ vs. length vs ≡ 0)
        (hs.0 (none-left (used l x.judged) _ none)) (sets y.judged.meaning)
    on-finaliser l f [] hs none = let e = none-right (steady_faults l s.initialises f) _
        (none-right (flat_map (used l) (judgeds [])) _ none) in cc
    on-finaliser l f (x ∷ []) hs none = let e =
        none-right (steady_faults l s.initialises f) _ (none-right (flat_map (used l) (judgeds (x ∷ []))) _ none) in cc

    -- any call

    module _ (l : ℕ) (receiver : Gives) (p : Location) (q : Gives) (xs : List Arg) (hs : Stands l xs) where
      abbrev Calls : Operand → Type 0
      Calls m = (called_with l s m (judgeds xs)).faults ≡ [] → Me taking types t s env m receiver p q
          → Gi (called_with l s m (judgeds xs)).meaning
          (call taking m (called_with l s m (judgeds xs)).meaning receiver (arguments xs))

      pub on-call : (m : Operand) → Calls m
      on-call (operand.Function k) none h = let f =
          parts l (operand.Function k) xs none in file-call l k 0 (length (arguments xs)) [] h.1 receiver xs h.0
          (many-values l xs hs f.0) (omega arith)
      on-call (operand.Method k) none h = let f =
          parts l (operand.Method k) xs none in file-call l k 1 (length (arguments xs) + 1)
          (ValueType.Struct h.0 ∷ []) h.2 receiver xs h.1 (many-values l xs hs f.0) (omega arith)
      on-call (operand.BuiltIn built_in.SetFinalizer) none h =
          on-finaliser l (operand.BuiltIn built_in.SetFinalizer) xs hs none
      on-call (operand.BuiltIn b) none h = on-built-in l b receiver xs refl hs none h
      on-call operand.Unknown none h = absurd h
      on-call m none h = let e = (parts l m xs none).1 in cc
