-- The code of each kind of expression does what the expression does, if the code of its parts does.
-- For: `expressions_mean`, src/lib.rt
-- By: cases of the kind of expression; induction over lists of elements, of fields and of arguments
use Rattle.std.proofs.Common.{◌≡◌, ℕ, suc, ◌+◌, negsuc, pos, Bool, true, false, cond, List, [], ◌∷◌, ◌++◌, length}
use Rattle.std.proofs.Common.{Option, Some, None, refl, ap, sym, subst}
use Rattle.std.specs.Option.{option_map}
use Rattle.golf_syntax_trees.specs.declared.expressions.UnaryOperator.{UnaryOperator}
use Rattle.golf_syntax_trees.specs.declared.expressions.UnaryOperator.TheVariants as unary
use Rattle.golf_syntax_trees.specs.declared.expressions.BinaryOperator.{BinaryOperator}
use Rattle.golf_syntax_trees.specs.declared.expressions.BinaryOperator.TheVariants as binary
use Rattle.std.specs.Prelude.{int_lt, int_le}
use Rattle.golf_data.specs.declared.value.Value.{Value}
use Rattle.golf_data.specs.declared.code.Instr.{Instr}
use Rattle.golf_model.specs.Values.{zero_of}
use Rattle.golf_model.specs.Arithmetic.{sum, difference, product, quotient, remainder}
use Rattle.golf_check_types.specs.declared.types.Base.{Base}
use Rattle.golf_check_types.specs.declared.types.Base.TheVariants as base
use Rattle.golf_check_types.specs.declared.types.GoType.{GoType}
use Rattle.golf_check_types.specs.declared.operands.Operand.{Operand}
use Rattle.golf_check_types.specs.declared.operands.Operand.TheVariants as operand
use Rattle.golf_check_types.specs.declared.operands.Where.TheVariants as place
use Rattle.golf_check_types.specs.declared.operands.BuiltIn.{BuiltIn}
use Rattle.golf_check_types.specs.declared.operands.BuiltIn.TheVariants as built_in
use Rattle.golf_check_types.specs.declared.locals.Local.{Local}
use Rattle.golf_check_types.specs.declared.scopes.FileScope.{FileScope}
use Rattle.golf_check_types.specs.Names.{look}
use Rattle.golf_check_types.specs.Scopes.{or_else, local_operand}
use Rattle.golf_check_types.specs.Expressions.{leaf, known_name, field_place}
use Rattle.golf_check_types.specs.Calls.{sets_finaliser}
use Rattle.golf_code_layout.specs.Piece.{Piece, all, op}
use Rattle.golf_code_of.specs.declared.tables.Tables.{Tables}
use Rattle.golf_code_of.specs.Values.{push, constant, makes}
use Rattle.golf_code_of.specs.Expressions.{Made}
use Rattle.golf_code_of.specs.Expressions as C
use Rattle.golf_code_of.specs.Calls as K
use Rattle.golf_meaning_flat.specs.Worlds.{World, Part, bind, pushed}
use Rattle.golf_meaning_flat.specs.InstructionEffects.{unfit, negated, inverted, computed, divided, compared, equated}
use Rattle.golf_meaning_flat.specs.Structured.{PieceExit, run}
use Rattle.golf_meaning_source.specs.Names.{Env, find}
use Rattle.golf_meaning_source.specs.Operations.{Taking, Gives, gives, both, then_do, visible, on_one, on_two}
use Rattle.golf_meaning_source.specs.Exprs as X
use Rattle.golf_meaning_source.specs.Exprs.{Location, found, if_none, one_reference, puts_in}
use Rattle.golf_meaning_source.specs.Does.{frame, Sim, OnTop, Turns, Changed, Tail, Matches, Known}
use Rattle.golf_meaning_source.proofs.Turning.{bind-assoc, turn-none, turn-then, turn-last, turn-over, turn-both}
use Rattle.golf_meaning_source.proofs.Turning.{turn-after, turn-after-two, turn-visible, turn-panic, turn-one}
use Rattle.golf_meaning_source.proofs.Turning.{turn-calculate, turn-either, over}
use Rattle.golf_meaning_source.proofs.Environments.{last, look-last, Together, together}
use Rattle.golf_meaning_source.proofs.Places.{turn-step, turn-over-more, matches-only, matches-field, matches-global}
use Rattle.golf_meaning_source.proofs.Places.{matches-local, matches-blank}

module _ (taking : Taking) where
  module _ (slots : List Value) where
    abbrev T : Piece → List Value → Gives → Type 0
    T = Turns taking slots

    pub turn-unfit : (p : Piece) (vs : List Value) → T p vs unfit
    turn-unfit p vs n at ts rest w = tt

    -- what is put into a struct or a slice

    sim-less : (x : Value) (rest : List Value) (q : Part (List Value)) (o : PieceExit)
        → Sim (bind q (λ ys v. Part.Gives ((x ∷ []) ++ ys) v)) (OnTop slots rest) o
        → Sim (bind q (λ us v. if_none us v (Part.Gives (x ∷ []) v))) (OnTop slots rest) o
    sim-less x rest (Part.Gives [] v) o h = h
    sim-less x rest (Part.Gives (y ∷ ys) v) o h = tt
    sim-less x rest (Part.Stops s os) o h = h

    -- after the doubled reference
    turn-tail : (l : ℕ) (i : Instr) (e : Piece) (f : Gives) (x : Value) (more : List Value) → T e [] f
        → ((vs : List Value) → T (op l i) vs (visible taking i [] vs))
        → T (all (e ∷ op l i ∷ [])) ((x ∷ []) ++ ((x ∷ []) ++ more)) (puts_in taking i (x ∷ []) f more)
    turn-tail l i e f x more h k n at ts rest w =
        let takes : List Value = (x ∷ []) ++ more in
        let core : Gives = then_do (over taking slots takes f) (visible taking i []) in
        subst (λ q. Sim q (OnTop slots rest) (run taking.gives n (all (e ∷ op l i ∷ [])) at ts
        (frame slots (pushed ((x ∷ []) ++ takes) rest)) w))
        (sym (bind-assoc (over taking slots takes f w) (visible taking i [])
        (λ us v. if_none us v (Part.Gives (x ∷ []) v))))
        (sim-less x rest (core w) (run taking.gives n (all (e ∷ op l i ∷ [])) at ts
        (frame slots (pushed ((x ∷ []) ++ takes) rest)) w)
        (turn-over-more taking slots (all (e ∷ op l i ∷ [])) (x ∷ []) takes core
        (turn-then taking slots e (all (op l i ∷ [])) takes (over taking slots takes f) (visible taking i [])
        (turn-over taking slots e takes f h)
        (λ us. turn-last taking slots (op l i) us (visible taking i [] us) (k us))) n at ts rest w))

    turn-put : (l i : ℕ) (e : Piece) (f : Gives) (p : List Value) → T e [] f
        → T (C.put l i e) p (one_reference p (puts_in taking (Instr.SetField i) p f []))
    turn-put l i e f [] h = turn-unfit (C.put l i e) []
    turn-put l i e f (x ∷ []) h =
        turn-step taking slots (op l Instr.Dup) (all (e ∷ op l (Instr.SetField i) ∷ [])) (x ∷ []) (x ∷ x ∷ [])
        (puts_in taking (Instr.SetField i) (x ∷ []) f []) (λ n at ts rest w. refl)
        (turn-tail l (Instr.SetField i) e f x [] h (λ vs. turn-visible taking slots l (Instr.SetField i) [] vs refl))
    turn-put l i e f (x ∷ (y ∷ p)) h = turn-unfit (C.put l i e) (x ∷ (y ∷ p))

    -- values that are put into fields: the names of these for the code and for the meaning, the pieces, and what they
    -- give
    pub record Puts (l : ℕ) (f : FileScope) (b : Option Base) : Type 0 where
      pub names : List (List ℕ)
      pub meant_names : List (List ℕ)
      pub pieces : List Piece
      pub values : List Gives
      pub turn : (q : List Value) → T (C.puts l f b names pieces) q (X.puts taking f b meant_names values q)

    -- a value is put into the field of this name, and then others
    pub turn-puts : (l : ℕ) (f : FileScope) (b : Option Base) (n : List ℕ) (e : Piece) (g : Gives) (p : List Value)
        → T e [] g → (others : Puts l f b)
        → T (C.puts l f b (n ∷ others.names) (e ∷ others.pieces)) p
        (X.puts taking f b (n ∷ others.meant_names) (g ∷ others.values) p)
    turn-puts l f b n e g p h others =
        turn-then taking slots (C.put l (field_place f b n) e) (C.puts l f b others.names others.pieces) p
        (one_reference p (puts_in taking (Instr.SetField (field_place f b n)) p g []))
        (X.puts taking f b others.meant_names others.values) (turn-put l (field_place f b n) e g p h) others.turn

    turn-element : (l i : ℕ) (e : Piece) (f : Gives) (p : List Value) → T e [] f
        → T (all (op l Instr.Dup ∷ op l (Instr.Int (pos i)) ∷ e ∷ op l Instr.SetIndex ∷ [])) p
        (one_reference p (puts_in taking Instr.SetIndex p f (X.int_value i ∷ [])))
    turn-element l i e f [] h = turn-unfit
        (all (op l Instr.Dup ∷ op l (Instr.Int (pos i)) ∷ e ∷ op l Instr.SetIndex ∷ [])) []
    turn-element l i e f (x ∷ []) h =
        let last_value = X.int_value i in
        turn-step taking slots (op l Instr.Dup) (all (op l (Instr.Int (pos i)) ∷ e ∷ op l Instr.SetIndex ∷ [])) (x ∷ [])
        (x ∷ x ∷ []) (puts_in taking Instr.SetIndex (x ∷ []) f (last_value ∷ [])) (λ n at ts rest w. refl)
        (turn-step taking slots (op l (Instr.Int (pos i))) (all (e ∷ op l Instr.SetIndex ∷ [])) (x ∷ x ∷ [])
        (x ∷ x ∷ last_value ∷ []) (puts_in taking Instr.SetIndex (x ∷ []) f (last_value ∷ []))
        (λ n at ts rest w. refl)
        (turn-tail l Instr.SetIndex e f x (last_value ∷ []) h
        (λ vs. turn-visible taking slots l Instr.SetIndex [] vs refl)))
    turn-element l i e f (x ∷ (y ∷ p)) h =
        turn-unfit (all (op l Instr.Dup ∷ op l (Instr.Int (pos i)) ∷ e ∷ op l Instr.SetIndex ∷ [])) (x ∷ (y ∷ p))

    -- pieces and what they give, one by one
    abbrev pub AllTurn : List Piece → List Gives → Type 0
    AllTurn [] [] = Unit {0}
    AllTurn (e ∷ es) (f ∷ fs) = T e [] f × AllTurn es fs
    AllTurn _ _ = ⊥

    turn-elements : (l i : ℕ) (es : List Piece) (fs : List Gives) (p : List Value) → AllTurn es fs
        → T (C.elements l i es) p (X.elements taking i fs p)
    turn-elements l i [] [] p h = turn-none taking slots p
    turn-elements l i [] (f ∷ fs) p h = absurd h
    turn-elements l i (e ∷ es) [] p h = absurd h
    turn-elements l i (e ∷ es) (f ∷ fs) p h =
        turn-then taking slots (all (op l Instr.Dup ∷ op l (Instr.Int (pos i)) ∷ e ∷ op l Instr.SetIndex ∷ []))
        (C.elements l (i + 1) es) p (one_reference p (puts_in taking Instr.SetIndex p f (X.int_value i ∷ [])))
        (X.elements taking (i + 1) fs)
        (turn-element l i e f p h.0) (λ us. turn-elements l (i + 1) es fs us h.1)

    -- containers

    turn-container : (l : ℕ) (i : Instr) (t : Option GoType) (vs : List Value)
        → T (op l i) vs (X.container taking i t vs)
    turn-container l (Instr.NewSlice z) t vs = turn-visible taking slots l (Instr.NewSlice z) (t ∷ []) vs refl
    turn-container l (Instr.NewChan z) t vs = turn-visible taking slots l (Instr.NewChan z) (t ∷ []) vs refl
    turn-container l i t vs = turn-unfit (op l i) vs

    pub turn-made : (l : ℕ) (t : Option GoType)
        → T (all (op l (Instr.Int (pos 0)) ∷ op l (makes t) ∷ [])) [] (X.made taking t (X.int_value 0 ∷ []))
    turn-made l t =
        turn-step taking slots (op l (Instr.Int (pos 0))) (all (op l (makes t) ∷ [])) [] (X.int_value 0 ∷ [])
        (X.made taking t (X.int_value 0 ∷ [])) (λ n at ts rest w. refl)
        (turn-last taking slots (op l (makes t)) (X.int_value 0 ∷ []) (X.made taking t (X.int_value 0 ∷ []))
        (turn-container l (makes t) t (X.int_value 0 ∷ [])))

    pub turn-made-sized : (l : ℕ) (t : Option GoType) (e : Piece) (f : Gives) → T e [] f
        → T (all (e ∷ op l (makes t) ∷ [])) [] (then_do f (X.made taking t))
    turn-made-sized l t e f h = turn-after taking slots e (op l (makes t)) f (X.made taking t) h
        (λ us. turn-container l (makes t) t us)

    all-length : (es : List Piece) (fs : List Gives) → AllTurn es fs → length es ≡ length fs
    all-length [] [] h = refl
    all-length [] (f ∷ fs) h = absurd h
    all-length (e ∷ es) [] h = absurd h
    all-length (e ∷ es) (f ∷ fs) h = ap suc (all-length es fs h.1)

    pub turn-slice : (l : ℕ) (t : Option GoType) (es : List Piece) (fs : List Gives) → AllTurn es fs
        → T (C.slice_literal l t es).piece [] (X.slice_literal taking t fs)
    turn-slice l t es fs h =
        subst (λ n. T (all (op l (Instr.Int (pos n)) ∷ op l (makes t) ∷ C.elements l 0 es ∷ [])) []
        (X.slice_literal taking t fs)) (sym (all-length es fs h))
        (turn-step taking slots (op l (Instr.Int (pos (length fs)))) (all (op l (makes t) ∷ C.elements l 0 es ∷ [])) []
        (X.int_value (length fs) ∷ []) (X.slice_literal taking t fs) (λ n at ts rest w. refl)
        (turn-then taking slots (op l (makes t)) (all (C.elements l 0 es ∷ [])) (X.int_value (length fs) ∷ [])
        (X.made taking t (X.int_value (length fs) ∷ [])) (X.elements taking 0 fs)
        (turn-container l (makes t) t (X.int_value (length fs) ∷ []))
        (λ us. turn-last taking slots (C.elements l 0 es) us (X.elements taking 0 fs us)
        (turn-elements l 0 es fs us h))))

    pub turn-sync : (l : ℕ) (b : Option Base) → T (C.new_sync l b).piece [] (X.new_sync taking b)
    turn-sync l (Some base.Mutex) = turn-visible taking slots l Instr.NewMutex (X.plain_type base.Mutex) [] refl
    turn-sync l (Some base.Group) = turn-visible taking slots l Instr.NewGroup (X.plain_type base.Group) [] refl
    turn-sync l (Some base.ReadWriteMutex) =
        turn-visible taking slots l Instr.NewRw (X.plain_type base.ReadWriteMutex) [] refl
    turn-sync l _ = turn-none taking slots []

    -- operators

    turn-unary : (l : ℕ) (o : UnaryOperator) (m : Operand) (vs : List Value)
        → T (op l (C.unary_instr o)) vs (X.unary_does taking o m vs)
    turn-unary l unary.Negate m vs = turn-one taking slots l Instr.Neg negated vs refl
    turn-unary l unary.Not m vs = turn-one taking slots l Instr.Not inverted vs refl
    turn-unary l unary.Receive m vs = turn-visible taking slots l Instr.Receive (X.left_types m) vs refl

    pub turn-unary-operator : (l : ℕ) (o : UnaryOperator) (m : Operand) (e : Piece) (f : Gives) → T e [] f
        → T (C.unary_operator l o e).piece [] (then_do f (X.unary_does taking o m))
    turn-unary-operator l o m e f h = turn-after taking slots e (op l (C.unary_instr o)) f (X.unary_does taking o m) h
        (turn-unary l o m)

    turn-negated : (l : ℕ) (i : Instr) (f : List Value → Gives) (vs : List Value) → T (op l i) vs (f vs)
        → T (all (op l i ∷ op l Instr.Not ∷ [])) vs (X.negating f vs)
    turn-negated l i f vs h = turn-then taking slots (op l i) (all (op l Instr.Not ∷ [])) vs (f vs) (on_one inverted) h
        (λ us. turn-last taking slots (op l Instr.Not) us (on_one inverted us)
        (turn-one taking slots l Instr.Not inverted us refl))

    turn-combining : (l : ℕ) (o : BinaryOperator) (vs : List Value) → T (C.combining l o) vs (X.calculation o vs)
    turn-combining l binary.Equal vs = turn-calculate taking slots l Instr.Eq equated vs refl
    turn-combining l binary.NotEqual vs = turn-negated l Instr.Eq (on_two equated) vs
        (turn-calculate taking slots l Instr.Eq equated vs refl)
    turn-combining l binary.Less vs = turn-calculate taking slots l Instr.Less (compared int_lt) vs refl
    turn-combining l binary.AtMost vs = turn-calculate taking slots l Instr.AtMost (compared int_le) vs refl
    turn-combining l binary.Greater vs = turn-negated l Instr.AtMost (on_two (compared int_le)) vs
        (turn-calculate taking slots l Instr.AtMost (compared int_le) vs refl)
    turn-combining l binary.AtLeast vs = turn-negated l Instr.Less (on_two (compared int_lt)) vs
        (turn-calculate taking slots l Instr.Less (compared int_lt) vs refl)
    turn-combining l binary.Add vs = turn-calculate taking slots l Instr.Add (computed sum) vs refl
    turn-combining l binary.Subtract vs = turn-calculate taking slots l Instr.Sub (computed difference) vs refl
    turn-combining l binary.Multiply vs = turn-calculate taking slots l Instr.Mul (computed product) vs refl
    turn-combining l binary.Divide vs = turn-calculate taking slots l Instr.Div (divided quotient) vs refl
    turn-combining l binary.Remainder vs = turn-calculate taking slots l Instr.Rem (divided remainder) vs refl
    turn-combining l binary.Or vs = turn-unfit Piece.Empty vs
    turn-combining l binary.And vs = turn-unfit Piece.Empty vs

    turn-plain : (l : ℕ) (o : BinaryOperator) (a b : Piece) (f g : Gives) → T a [] f → T b [] g
        → T (all (a ∷ b ∷ C.combining l o ∷ [])) [] (then_do (both f g) (X.calculation o))
    turn-plain l o a b f g ha hb = turn-after-two taking slots a b (C.combining l o) f g (X.calculation o) ha hb
        (turn-combining l o)

    pub turn-binary : (l : ℕ) (o : BinaryOperator) (a b : Piece) (f g : Gives) → T a [] f → T b [] g
        → T (C.binary_operator l o a b).piece [] (X.binary_does o f g)
    turn-binary l binary.Or a b f g ha hb =
        turn-either taking slots l (all (a ∷ op l Instr.Not ∷ [])) b (op l (Instr.Bool true))
        (then_do f (on_one inverted)) g (gives (Value.Bool true ∷ []))
        (turn-after taking slots a (op l Instr.Not) f (on_one inverted) ha
        (λ us. turn-one taking slots l Instr.Not inverted us refl)) hb (λ n at ts rest w. refl)
    turn-binary l binary.And a b f g ha hb =
        turn-either taking slots l a b (op l (Instr.Bool false)) f g (gives (Value.Bool false ∷ [])) ha hb
        (λ n at ts rest w. refl)
    turn-binary l binary.Equal a b f g ha hb = turn-plain l binary.Equal a b f g ha hb
    turn-binary l binary.NotEqual a b f g ha hb = turn-plain l binary.NotEqual a b f g ha hb
    turn-binary l binary.Less a b f g ha hb = turn-plain l binary.Less a b f g ha hb
    turn-binary l binary.AtMost a b f g ha hb = turn-plain l binary.AtMost a b f g ha hb
    turn-binary l binary.Greater a b f g ha hb = turn-plain l binary.Greater a b f g ha hb
    turn-binary l binary.AtLeast a b f g ha hb = turn-plain l binary.AtLeast a b f g ha hb
    turn-binary l binary.Add a b f g ha hb = turn-plain l binary.Add a b f g ha hb
    turn-binary l binary.Subtract a b f g ha hb = turn-plain l binary.Subtract a b f g ha hb
    turn-binary l binary.Multiply a b f g ha hb = turn-plain l binary.Multiply a b f g ha hb
    turn-binary l binary.Divide a b f g ha hb = turn-plain l binary.Divide a b f g ha hb
    turn-binary l binary.Remainder a b f g ha hb = turn-plain l binary.Remainder a b f g ha hb

    -- calls

    abbrev pub AllArguments : List X.ArgumentMeaning → List K.ArgumentCode → Type 0
    AllArguments [] [] = Unit {0}
    AllArguments (x ∷ xs) (y ∷ ys) = (x.meaning ≡ y.meaning) × T y.piece [] x.value × AllArguments xs ys
    AllArguments _ _ = ⊥

    arguments-length : (xs : List X.ArgumentMeaning) (ys : List K.ArgumentCode) → AllArguments xs ys → length ys ≡ length xs
    arguments-length [] [] h = refl
    arguments-length [] (y ∷ ys) h = absurd h
    arguments-length (x ∷ xs) [] h = absurd h
    arguments-length (x ∷ xs) (y ∷ ys) h = ap suc (arguments-length xs ys h.2)

    turn-arguments : (xs : List X.ArgumentMeaning) (ys : List K.ArgumentCode) → AllArguments xs ys
        → T (K.pushes ys) [] (X.values_of xs)
    turn-arguments [] [] h = turn-none taking slots []
    turn-arguments [] (y ∷ ys) h = absurd h
    turn-arguments (x ∷ xs) [] h = absurd h
    turn-arguments (x ∷ xs) (y ∷ ys) h = turn-both taking slots y.piece (K.pushes ys) x.value (X.values_of xs) h.1
        (turn-arguments xs ys h.2)

    turn-done : (l : ℕ) (ts : List (Option GoType)) (vs : List Value)
        → T (all (op l (Instr.Int (negsuc 0)) ∷ op l Instr.GroupAdd ∷ [])) vs
        (visible taking Instr.GroupAdd ts (vs ++ Value.Int (negsuc 0) ∷ []))
    turn-done l ts vs =
        turn-then taking slots (op l (Instr.Int (negsuc 0))) (all (op l Instr.GroupAdd ∷ [])) vs
        (over taking slots vs (gives (Value.Int (negsuc 0) ∷ []))) (visible taking Instr.GroupAdd ts)
        (turn-over taking slots (op l (Instr.Int (negsuc 0))) vs (gives (Value.Int (negsuc 0) ∷ []))
        (λ n at us rest w. refl))
        (λ us. turn-last taking slots (op l Instr.GroupAdd) us (visible taking Instr.GroupAdd ts us)
        (turn-visible taking slots l Instr.GroupAdd ts us refl))

    pub turn-operation : (l n : ℕ) (b : BuiltIn) (ts : List (Option GoType)) (vs : List Value)
        → T (K.operation l b n) vs (X.operation taking n b ts vs)
    turn-operation l n built_in.Length ts vs = turn-visible taking slots l Instr.Len ts vs refl
    turn-operation l n built_in.Close ts vs = turn-visible taking slots l Instr.Close ts vs refl
    turn-operation l n built_in.Panic ts vs = turn-panic taking slots l vs
    turn-operation l n built_in.Print ts vs = turn-visible taking slots l (Instr.Print n) ts vs refl
    turn-operation l n built_in.Collect ts vs = turn-visible taking slots l Instr.Collect ts vs refl
    turn-operation l n built_in.SetFinalizer ts vs = turn-none taking slots vs
    turn-operation l n built_in.NewCondition ts vs = turn-visible taking slots l Instr.NewCond ts vs refl
    turn-operation l n built_in.Lock ts vs = turn-visible taking slots l Instr.Lock ts vs refl
    turn-operation l n built_in.Unlock ts vs = turn-visible taking slots l Instr.Unlock ts vs refl
    turn-operation l n built_in.Add ts vs = turn-visible taking slots l Instr.GroupAdd ts vs refl
    turn-operation l n built_in.Done ts vs = turn-done l ts vs
    turn-operation l n built_in.WaitGroup ts vs = turn-visible taking slots l Instr.GroupWait ts vs refl
    turn-operation l n built_in.WriteLock ts vs = turn-visible taking slots l Instr.RwLock ts vs refl
    turn-operation l n built_in.WriteUnlock ts vs = turn-visible taking slots l Instr.RwUnlock ts vs refl
    turn-operation l n built_in.ReadLock ts vs = turn-visible taking slots l Instr.ReadLock ts vs refl
    turn-operation l n built_in.ReadUnlock ts vs = turn-visible taking slots l Instr.ReadUnlock ts vs refl
    turn-operation l n built_in.WaitCondition ts vs = turn-visible taking slots l Instr.CondWait ts vs refl
    turn-operation l n built_in.Signal ts vs = turn-visible taking slots l Instr.CondSignal ts vs refl
    turn-operation l n built_in.Broadcast ts vs = turn-visible taking slots l Instr.CondBroadcast ts vs refl

    turn-calling : (l n : ℕ) (f : Operand) (ts : List (Option GoType)) (vs : List Value)
        → T (K.calling l f n) vs (X.calling taking n f ts vs)
    turn-calling l n (operand.Function k) ts vs = turn-visible taking slots l (Instr.Call (k + 1) n) ts vs refl
    turn-calling l n (operand.Method k) ts vs = turn-visible taking slots l (Instr.Call (k + 1) (n + 1)) ts vs refl
    turn-calling l n (operand.BuiltIn b) ts vs = turn-operation l n b ts vs
    turn-calling l n _ ts vs = turn-none taking slots vs

    turn-finaliser : (l : ℕ) (m : Operand) (vs : List Value) → T (K.finaliser l m) vs (X.finaliser taking m vs)
    turn-finaliser l (operand.Function k) vs = turn-visible taking slots l (Instr.SetFinalizer (k + 1)) [] vs refl
    turn-finaliser l _ vs = turn-visible taking slots l Instr.ClearFinalizer [] vs refl

    turn-finalising : (l : ℕ) (xs : List X.ArgumentMeaning) (ys : List K.ArgumentCode) → AllArguments xs ys
        → T (K.finalising l ys) [] (X.finalising taking xs)
    turn-finalising l [] [] h = turn-none taking slots []
    turn-finalising l [] (y ∷ ys) h = absurd h
    turn-finalising l (x ∷ xs) [] h = absurd h
    turn-finalising l (x ∷ []) (y ∷ []) h = turn-none taking slots []
    turn-finalising l (x ∷ []) (y ∷ (z ∷ ys)) h = absurd h.2
    turn-finalising l (x ∷ (k ∷ xs)) (y ∷ []) h = absurd h.2
    turn-finalising l (x ∷ (k ∷ xs)) (y ∷ (z ∷ ys)) h =
        subst (λ m. T (all (y.piece ∷ K.finaliser l m ∷ [])) [] (then_do x.value (X.finaliser taking k.meaning))) h.2.0
        (turn-after taking slots y.piece (K.finaliser l k.meaning) x.value (X.finaliser taking k.meaning) h.1
        (turn-finaliser l k.meaning))

    turn-call-by : (l : ℕ) (b : Bool) (f result : Operand) (p : Piece) (r : Gives) (xs : List X.ArgumentMeaning)
        (ys : List K.ArgumentCode) → T p [] r → AllArguments xs ys
        → T (cond b (K.finalising l ys) (all (p ∷ K.pushes ys ∷ K.calling l f (length ys) ∷ []))) []
        (cond b (X.finalising taking xs) (then_do (both r (X.values_of xs))
        (X.calling taking (length xs) f (X.left_types result))))
    turn-call-by l true f result p r xs ys h k = turn-finalising l xs ys k
    turn-call-by l false f result p r xs ys h k =
        turn-after-two taking slots p (K.pushes ys) (K.calling l f (length ys)) r (X.values_of xs)
        (X.calling taking (length xs) f (X.left_types result)) h (turn-arguments xs ys k)
        (λ us. subst (λ m. T (K.calling l f m) us (X.calling taking (length xs) f (X.left_types result) us))
        (sym (arguments-length xs ys k)) (turn-calling l (length xs) f (X.left_types result) us))

    pub turn-call : (l : ℕ) (f result : Operand) (p : Piece) (r : Gives) (xs : List X.ArgumentMeaning) (ys : List K.ArgumentCode)
        → T p [] r → AllArguments xs ys → T (K.call l f p ys).piece [] (X.call taking f result r xs)
    turn-call l f result p r xs ys h k = turn-call-by l (sets_finaliser f) f result p r xs ys h k

    -- selectors and names

    module _ (ds : List Local) (env : Env) where
      -- what this expression does as a value and as a left side
      abbrev pub MatchesDoes : X.Does → Made → Type 0
      MatchesDoes d m = Matches taking ds slots env (d.value env) (d.place env) (d.parts env) m

      pub matches-selector : (l next : ℕ) (m : Operand) (p : Piece) (f : Env → Gives) → Known ds next env slots
          → T p [] (f env) → MatchesDoes (X.selector taking m f) (C.selector l m p)
      matches-selector l next (operand.Field i t) p f ok h =
          matches-field taking slots ds env l i t p (f env) h ok.stored
      matches-selector l next (operand.Value t) p f ok h =
          matches-only taking slots ds env _ _
          (turn-after taking slots p (op l Instr.CondMutex) (f env)
          (visible taking Instr.CondMutex (X.plain_type base.Mutex)) h
          (λ us. turn-visible taking slots l Instr.CondMutex (X.plain_type base.Mutex) us refl))
      matches-selector l next (operand.Method k) p f ok h = matches-only taking slots ds env p (f env) h
      matches-selector l next (operand.BuiltIn b) p f ok h = matches-only taking slots ds env p (f env) h
      matches-selector l next _ p f ok h = matches-only taking slots ds env Piece.Empty (gives [])
          (turn-none taking slots [])

      turn-push : (l : ℕ) (v : Value) → T (op l (push v)) [] (gives (zero_of v ∷ []))
      turn-push l (Value.Int n) = λ m at ts rest w. refl
      turn-push l (Value.Bool b) = λ m at ts rest w. refl
      turn-push l (Value.Text k) = λ m at ts rest w. refl
      turn-push l Value.Unit = λ m at ts rest w. refl
      turn-push l Value.Nil = λ m at ts rest w. refl
      turn-push l (Value.Ref o) = λ m at ts rest w. refl

      pub matches-sync : (l : ℕ) (b : Option Base) → MatchesDoes (X.only (λ e. X.new_sync taking b)) (C.new_sync l b)
      matches-sync l (Some base.Mutex) = matches-only taking slots ds env (op l Instr.NewMutex)
          (X.new_sync taking (Some base.Mutex)) (turn-sync l (Some base.Mutex))
      matches-sync l (Some base.Group) = matches-only taking slots ds env (op l Instr.NewGroup)
          (X.new_sync taking (Some base.Group)) (turn-sync l (Some base.Group))
      matches-sync l (Some base.ReadWriteMutex) =
          matches-only taking slots ds env (op l Instr.NewRw) (X.new_sync taking (Some base.ReadWriteMutex))
          (turn-sync l (Some base.ReadWriteMutex))
      matches-sync l _ = matches-only taking slots ds env Piece.Empty (gives []) (turn-none taking slots [])

      -- a slot that no local has: no name of a file means one
      matches-stuck : (l i : ℕ) (n : List ℕ) → find env n ≡ None
          → Matches taking ds slots env unfit (Location.Local n) (gives [])
          (C.in_place Piece.Empty Piece.Empty (op l (Instr.Load i)) (op l (Instr.Store i)))
      matches-stuck l i n e = record {
        value_turns = turn-unfit (all (Piece.Empty ∷ op l (Instr.Load i) ∷ [])) [];
        parts_turn = turn-none taking slots [];
        again = by;
        stores = put;
      }
        where
          by : (rest vs : List Value) (q : Piece) (g : List Value → World → Part Env)
              → ((xs : List Value) → Tail taking slots rest q (vs ++ xs) (g xs) (Changed ds slots rest))
              → Tail taking slots rest (Piece.Then Piece.Empty (Piece.Then (op l (Instr.Load i)) q)) vs
              (λ w. bind (if_none vs w (found (find env n) w)) g) (Changed ds slots rest)
          by rest [] q g k = subst (λ o. Tail taking slots rest
              (Piece.Then Piece.Empty (Piece.Then (op l (Instr.Load i)) q)) [] (λ w. bind (found o w) g)
              (Changed ds slots rest)) (sym e) (λ n at ts w. tt)
          by rest (v ∷ vs) q g k = λ n at ts w. tt

          put : (vs : List Value) (m at : ℕ) (ts : List ℕ) (rest : List Value) (w : World)
              → Sim (X.store taking env (Location.Local n) vs w) (Changed ds slots rest)
              (run taking.gives m (op l (Instr.Store i)) at ts (frame slots (pushed vs rest)) w)
          put [] m at ts rest w = tt
          put (x ∷ []) m at ts rest w = subst (λ o. Sim (X.assigned env n o x w) (Changed ds slots rest)
              (run taking.gives m (op l (Instr.Store i)) at ts (frame slots (x ∷ rest)) w)) (sym e) tt
          put (x ∷ (y ∷ vs)) m at ts rest w = tt

      matches-nothing : Matches taking ds slots env (gives []) Location.Nowhere (gives []) (C.only Piece.Empty)
      matches-nothing = matches-only taking slots ds env Piece.Empty (gives []) (turn-none taking slots [])

      matches-outer : (t : Tables) (l next : ℕ) (g : Option ℕ) (n : List ℕ) (o : Option Operand)
          → Known ds next env slots → find env n ≡ None
          → Matches taking ds slots env (X.outer_value taking t o) (X.outer_place n o) (gives [])
          (C.name l t (known_name l g o).meaning)
      matches-outer t l next g n None ok e = matches-nothing
      matches-outer t l next g n (Some (operand.Variable (place.Slot i) e')) ok e = matches-stuck l i n e
      matches-outer t l next g n (Some (operand.Variable (place.Global k) e')) ok e =
          matches-global taking slots ds env l k e' ok.stored
      matches-outer t l next g n (Some (operand.Constant k b)) ok e =
          matches-only taking slots ds env (op l (push (constant t k))) (gives (zero_of (constant t k) ∷ []))
          (turn-push l (constant t k))
      matches-outer t l next g n (Some (operand.Truth b)) ok e =
          matches-only taking slots ds env (op l (Instr.Bool b)) (gives (Value.Bool b ∷ [])) (λ m at ts rest w. refl)
      matches-outer t l next g n (Some operand.Nil) ok e =
          matches-only taking slots ds env (op l Instr.Nil) (gives (Value.Nil ∷ [])) (λ m at ts rest w. refl)
      matches-outer t l next g n (Some operand.Blank) ok e = matches-blank taking slots ds env l ok.stored
      matches-outer t l next g n (Some _) ok e = matches-nothing

      -- what a name is among the locals, and its value
      record Named (n : List ℕ) (a : Option Local) (v : Option Value) : Type 0 where
        local : last ds n ≡ a
        value : find env n ≡ v
        together : Together slots a v

      matches-either : {next : ℕ} (t : Tables) (l : ℕ) (g : Option ℕ) (n : List ℕ) (o : Option Operand)
          (a : Option Local) (v : Option Value) → Known ds next env slots → Named n a v
          → Matches taking ds slots env (X.value_of_name taking t v o) (X.place_of_name n v o) (gives [])
          (C.name l t (known_name l g (or_else (option_map local_operand a) o)).meaning)
      matches-either {next} t l g n o None None ok is = matches-outer t l next g n o ok is.value
      matches-either {next} t l g n o None (Some v) ok is = absurd is.together
      matches-either {next} t l g n o (Some d) None ok is = absurd is.together
      matches-either {next} t l g n o (Some d) (Some v) ok is =
          matches-local taking slots ds env l next d n v ok is.local is.value is.together

      matches-known : (t : Tables) (l next : ℕ) (g : Option ℕ) (n : List ℕ) (o : Option Operand)
          → Known ds next env slots
          → Matches taking ds slots env (X.value_of_name taking t (find env n) o) (X.place_of_name n (find env n) o)
          (gives []) (C.name l t (known_name l g (or_else (option_map local_operand (look ds n)) o)).meaning)
      matches-known t l next g n o ok =
          subst (λ a. Matches taking ds slots env (X.value_of_name taking t (find env n) o)
          (X.place_of_name n (find env n) o) (gives [])
          (C.name l t (known_name l g (or_else (option_map local_operand a) o)).meaning)) (sym (look-last ds n))
          (matches-either t l g n o (last ds n) (find env n) ok
          (record { local = refl; value = refl; together = together ds env slots n ok.stored }))

      pub matches-name : (t : Tables) (l next : ℕ) (g : Option ℕ) (n : List ℕ) (blank : Bool) (o : Option Operand)
          → Known ds next env slots
          → MatchesDoes (X.name_does taking t blank n o)
          (C.name l t (cond blank (leaf operand.Blank [])
          (known_name l g (or_else (option_map local_operand (look ds n)) o))).meaning)
      matches-name t l next g n true o ok = matches-blank taking slots ds env l ok.stored
      matches-name t l next g n false o ok = matches-known t l next g n o ok
