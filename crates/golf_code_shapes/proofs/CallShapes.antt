-- The code of calls has shapes.
-- For: `expressions_fit`, src/lib.rt; `Shown`, specs/Sound.antt
-- By: induction over the list of arguments, with that of the parameters; cases of the callee
use Rattle.std.proofs.Common.{◌≡◌, inl, inr, ℕ, suc, ◌+◌, Bool, true, false, List, [], ◌∷◌, ◌++◌, map, length, Option}
use Rattle.std.proofs.Common.{Some, None, refl, sym, ap, ◌∙◌, subst, slice_get, arith, negsuc}
use Rattle.std.proofs.lemmas.Bool.{eqb-true, eq-eqb, and_parts, or_cases}
use Rattle.std.specs.Prelude.{flat_map, option_to_list}
use Rattle.std.specs.List.{list_all}
use Rattle.std.specs.Option.{option_map}
use Rattle.golf_theory.specs.Membership.{Every}
use Rattle.golf_data.specs.declared.code.Instr.{Instr}
use Rattle.golf_check_types.specs.declared.types.Layer.{Layer}
use Rattle.golf_check_types.specs.declared.types.Base.{Base}
use Rattle.golf_check_types.specs.declared.types.Base.TheVariants as base
use Rattle.golf_check_types.specs.declared.types.GoType.{GoType}
use Rattle.golf_check_types.specs.declared.operands.BuiltIn.{BuiltIn}
use Rattle.golf_check_types.specs.declared.operands.BuiltIn.TheVariants as built_in
use Rattle.golf_check_types.specs.declared.operands.Operand.{Operand}
use Rattle.golf_check_types.specs.declared.operands.Operand.TheVariants as operand
use Rattle.golf_check_types.specs.declared.operands.Given.{Given}
use Rattle.golf_check_types.specs.declared.operands.Given.TheVariants as given_as
use Rattle.golf_check_types.specs.declared.scopes.Scope.{Scope}
use Rattle.golf_check_types.specs.Faults.{broken}
use Rattle.golf_check_types.specs.Types.{plain, has_layer, has_base, is_any, takes, assignable, type_given}
use Rattle.golf_check_types.specs.Expressions.{Judged, used, named_or_used, given_by}
use Rattle.golf_check_types.specs.Calls.{argument_faults, same_number, parameter_faults, signature_faults}
use Rattle.golf_check_types.specs.Calls.{signature_result, of_result, built_in_faults, all_first, prints, rule_unless}
use Rattle.golf_check_types.specs.Calls.{steady_faults, call_faults, called, plain_call, finaliser_call, finalises}
use Rattle.golf_check_types.specs.Calls.{finalises_by, signature_takes, takes_alone, same_known, is_struct_pointer}
use Rattle.golf_check_types.specs.Calls.{is_struct_type, called_with, sets_finaliser}
use Rattle.golf_model_typing.specs.Types.{ValueType, Shape, Signature, FunctionTypes, Types}
use Rattle.golf_model_typing.specs.Shapes.{pushed, IsPrintable}
use Rattle.golf_code_layout.specs.Piece.{Piece, all, op}
use Rattle.golf_code_shapes.specs.Has.{shape, filled, To, Has}
use Rattle.golf_code_shapes.proofs.Pieces.{has-empty, has-op, has-then}
use Rattle.golf_code_of.specs.declared.tables.Tables.{Tables}
use Rattle.golf_code_of.specs.Expressions.{Made, only}
use Rattle.golf_code_of.specs.Calls.{ArgumentCode, pushes, operation, finaliser, finalising, receiver_base, call}
use Rattle.golf_code_shapes.specs.Types.{layers_type, value_type, known_type, known_types}
use Rattle.golf_code_shapes.specs.Sound.{IsKnown, Callee, TurnsOperands, Pushes, Silent, PushesReceiver}
use Rattle.golf_code_shapes.proofs.Typings.{none-left, none-right, kept, same-value}
use Rattle.golf_code_shapes.proofs.Turning.{turn-op, one-turn}
use Rattle.golf_code_shapes.proofs.Names.{Shows, GivesBy, based, given-to, of-taking, of-measured}
use Rattle.golf_code_shapes.proofs.Literals.{Arg, judgeds, arg-gives}

module _ (types : Types) (t : Tables) (ft : FunctionTypes) (A : List ℕ) (s : Scope) where
  abbrev Sh : Operand → Made → Type 0
  Sh = Shows types t ft A s

  abbrev Pu : Piece → ValueType → Type 0
  Pu = Pushes types ft A

  abbrev Tu : Piece → List ValueType → List ValueType → Type 0
  Tu = TurnsOperands types ft A

  abbrev Args : Type 0
  Args = List (Arg types t ft A s)

  abbrev js : Args → List Judged
  js xs = judgeds types t ft A s xs

  abbrev pub arguments : Args → List ArgumentCode
  arguments xs = map (λ x. record { meaning = x.judged.meaning; piece = x.made.piece }) xs

  -- arguments, one after the other
  abbrev pub Passes : Piece → List ValueType → Type 0
  Passes p ts = (ops : List ValueType) (exits : List Shape)
      → Has types ft p (shape ops A) (shape (pushed ts ops) A) exits

  one-more : (p q : Piece) (e : ValueType) (ts : List ValueType) → Pu p e → Passes q ts
      → Passes (Piece.Then p q) (e ∷ ts)
  one-more p q e ts hp hq ops exits = has-then types ft p q _ (shape (e ∷ ops) A) _ exits (hp ops exits)
      (hq (e ∷ ops) exits)

  known-argument : (l : ℕ) (x : Arg types t ft A s) (p : Option GoType) → IsKnown p → used l x.judged ≡ []
      → broken l 9 (assignable (given_by x.judged) p) ≡ [] → Pu x.made.piece (known_type p)
  known-argument l x p k u none = subst (λ o. Pu x.made.piece (known_type o)) (sym k.1)
      (given-to types t ft A s (given_by x.judged) k.0 x.made.piece
      (subst (λ o. assignable (given_by x.judged) o ≡ true) k.1 (kept l 9 (assignable (given_by x.judged) p) none))
      (arg-gives types t ft A s l x u))

  pub passes : (l : ℕ) (xs : Args) (ps : List (Option GoType)) → Every IsKnown ps → flat_map (used l) (js xs) ≡ []
      → argument_faults l ps (map given_by (js xs)) ≡ [] → same_number ps (map given_by (js xs)) ≡ true
      → (length (arguments xs) ≡ length (known_types ps)) × Passes (pushes (arguments xs)) (known_types ps)
  passes l [] [] known u none same = (refl, λ ops exits. has-empty types ft (shape ops A) exits)
  passes l [] (p ∷ ps) known u none same = absurd (omega (arith, eqb-true (length (p ∷ ps)) 0 same))
  passes l (x ∷ xs) [] known u none same = absurd (omega (arith, eqb-true 0 (length (map given_by (js (x ∷ xs)))) same))
  passes l (x ∷ xs) (p ∷ ps) known u none same =
      let both = eqb-true (length (p ∷ ps)) (length (map given_by (js (x ∷ xs)))) same in
      let rest = passes l xs ps known.1 (none-right (used l x.judged) _ u)
      (none-right (broken l 9 (assignable (given_by x.judged) p)) _ none)
      (eq-eqb (length ps) (length (map given_by (js xs))) (omega (arith, both))) in (
        ap (λ k. suc k) rest.0,
        one-more x.made.piece _ (known_type p) (known_types ps)
            (known-argument l x p known.0 (none-left (used l x.judged) _ u)
            (none-left (broken l 9 (assignable (given_by x.judged) p)) _ none)) rest.1,
      )

  -- functions and methods of the file

  gives-result : (r : Option GoType) (p : Piece)
      → ((ops : List ValueType) (exits : List Shape)
      → Has types ft p (shape ops A) (shape (option_to_list (option_map value_type r) ++ ops) A) exits)
      → Sh (of_result r) (only p)
  gives-result None p h = h
  gives-result (Some e) p h = h

  -- receiver and arguments leave what the function of this number takes, and are so many
  pub record Taken (f n : ℕ) (receiver args : Piece) : Type 0 where
    pub callee : Signature
    pub below : List ValueType
    pub above : List ValueType
    pub there : slice_get types.functions f ≡ Some callee
    pub count : n ≡ length callee.params
    pub stand : (ops : List ValueType) → pushed callee.params ops ≡ pushed above (below ++ ops)
    pub receiver_turns : Tu receiver [] below
    pub arguments_pass : Passes args above

  -- receiver and arguments stand, and the function takes them
  call-turns : (l k n : ℕ) (r : Option GoType) (receiver args : Piece) (c : Taken (k + 1) n receiver args)
      → c.callee.result ≡ option_map value_type r
      → (ops : List ValueType) (exits : List Shape)
      → Has types ft (all (receiver ∷ args ∷ op l (Instr.Call (k + 1) n) ∷ [])) (shape ops A)
      (shape (option_to_list (option_map value_type r) ++ ops) A) exits
  call-turns l k n r receiver args c result ops exits =
      let to = shape (option_to_list (option_map value_type r) ++ ops) A in
      let stood = shape (pushed c.above (c.below ++ ops)) A in
      has-then types ft receiver _ (shape ops A) (shape (c.below ++ ops) A) to exits (c.receiver_turns ops exits)
      (has-then types ft args _ (shape (c.below ++ ops) A) stood to exits (c.arguments_pass (c.below ++ ops) exits)
      (has-then types ft (op l (Instr.Call (k + 1) n)) Piece.Empty stood to to exits
      (has-op types ft (Instr.Call (k + 1) n) l stood to exits
      (λ full at g. (
        c.callee,
        ops,
        c.there,
        c.count,
        sym (c.stand ops),
        subst (λ z. To (filled ft full) (shape (option_to_list z ++ ops) A) (at + 1)) (sym result) g,
      )))
      (has-empty types ft to exits)))

  -- receiver and arguments are those of a function or method of the file
  abbrev pub file-taken : {n : ℕ} {receiver args : Piece} (k : ℕ) (below : List ValueType)
      (c : Callee types t s.file k below)
      → ((ts : List ValueType) (ops : List ValueType) → pushed (below ++ ts) ops ≡ pushed ts (below ++ ops))
      → n ≡ length (below ++ known_types c.0.parameters) → Passes args (known_types c.0.parameters)
      → Tu receiver [] below → Taken (k + 1) n receiver args
  file-taken k below c stand count pass hr = record {
    callee = c.1;
    below = below;
    above = known_types c.0.parameters;
    there = c.3;
    count = count ∙ ap length (sym c.4);
    stand = λ ops. ap (λ ps. pushed ps ops) c.4 ∙ stand (known_types c.0.parameters) ops;
    receiver_turns = hr;
    arguments_pass = pass;
  }

  of-signature : (l k : ℕ) (below : List ValueType) (c : Callee types t s.file k below) (vs : List Given)
      → call_faults l s.file (operand.Function k) vs ≡ [] → parameter_faults l c.0.parameters vs ≡ []
  of-signature l k below c vs none = subst (λ o. signature_faults l o vs ≡ []) c.2 none

  file-call : (l k n : ℕ) (below : List ValueType) (c : Callee types t s.file k below) (receiver : Piece) (xs : Args)
      → ((ts : List ValueType) (ops : List ValueType) → pushed (below ++ ts) ops ≡ pushed ts (below ++ ops))
      → n ≡ length (below ++ known_types c.0.parameters)
      → Passes (pushes (arguments xs)) (known_types c.0.parameters) → Tu receiver [] below
      → Sh (signature_result (slice_get s.file.functions k))
      (only (all (receiver ∷ pushes (arguments xs) ∷ op l (Instr.Call (k + 1) n) ∷ [])))
  file-call l k n below c receiver xs stand count pass hr =
      subst (λ o. Sh (signature_result o) (only
      (all (receiver ∷ pushes (arguments xs) ∷ op l (Instr.Call (k + 1) n) ∷ [])))) (sym c.2)
      (gives-result c.0.result _ (call-turns l k n c.0.result receiver (pushes (arguments xs))
      (file-taken k below c stand count pass hr) c.5))

  -- the plain faults of a call
  pub parts : (l : ℕ) (m : Operand) (xs : Args) → (plain_call l s m (js xs)).faults ≡ []
      → (flat_map (used l) (js xs) ≡ []) × (call_faults l s.file m (map given_by (js xs)) ≡ [])
  parts l m xs none = (
    none-left (flat_map (used l) (js xs)) _ none,
    none-right (steady_faults l s.initialises m) _ (none-right (flat_map (used l) (js xs)) _ none),
  )

  pub passed : (l k : ℕ) (below : List ValueType) (c : Callee types t s.file k below) (xs : Args)
      → flat_map (used l) (js xs) ≡ [] → call_faults l s.file (operand.Function k) (map given_by (js xs)) ≡ []
      → (length (arguments xs) ≡ length (known_types c.0.parameters))
      × Passes (pushes (arguments xs)) (known_types c.0.parameters)
  passed l k below c xs u none =
      let f = of-signature l k below c (map given_by (js xs)) none in
      passes l xs c.0.parameters c.6 u (none-left (argument_faults l c.0.parameters (map given_by (js xs))) _ f)
      (kept l 11 (same_number c.0.parameters (map given_by (js xs)))
      (none-right (argument_faults l c.0.parameters (map given_by (js xs))) _ f))

  on-function : (l k : ℕ) (receiver : Piece) (xs : Args) → (plain_call l s (operand.Function k) (js xs)).faults ≡ []
      → Silent types ft A receiver → Callee types t s.file k []
      → Sh (called s.file (operand.Function k) (map given_by (js xs)))
      (call l (operand.Function k) receiver (arguments xs))
  on-function l k receiver xs none h c =
      let f = parts l (operand.Function k) xs none in
      let p = passed l k [] c xs f.0 f.1 in
      file-call l k (length (arguments xs)) [] c receiver xs (λ ts ops. refl) p.0 p.1 h

  on-method : (l k j : ℕ) (receiver : Piece) (xs : Args) → (plain_call l s (operand.Method k) (js xs)).faults ≡ []
      → Pu receiver (ValueType.Struct j) → Callee types t s.file k (ValueType.Struct j ∷ [])
      → Sh (called s.file (operand.Method k) (map given_by (js xs))) (call l (operand.Method k) receiver (arguments xs))
  on-method l k j receiver xs none h c =
      let f = parts l (operand.Method k) xs none in
      let p = passed l k (ValueType.Struct j ∷ []) c xs f.0 f.1 in
      let e = p.0 in
      file-call l k (length (arguments xs) + 1) (ValueType.Struct j ∷ []) c receiver xs (λ ts ops. refl)
      (omega (arith, e)) p.1 h

  -- built-in calls

  -- an operation that takes receiver and arguments
  operates : (receiver args r : Piece) (below ts : List ValueType) (zs : List ValueType) → Tu receiver [] below
      → Passes args ts
      → ((ops : List ValueType) (exits : List Shape)
      → Has types ft r (shape (pushed ts (below ++ ops)) A) (shape (zs ++ ops) A) exits)
      → Tu (all (receiver ∷ args ∷ r ∷ [])) [] zs
  operates receiver args r below ts zs hr ha hh ops exits =
      let to = shape (zs ++ ops) A in
      has-then types ft receiver _ (shape ops A) (shape (below ++ ops) A) to exits (hr ops exits)
      (has-then types ft args _ (shape (below ++ ops) A) (shape (pushed ts (below ++ ops)) A) to exits
      (ha (below ++ ops) exits)
      (has-then types ft r Piece.Empty (shape (pushed ts (below ++ ops)) A) to to exits (hh ops exits)
      (has-empty types ft to exits)))

  none-passed : (l : ℕ) (xs : Args) → same_number [] (map given_by (js xs)) ≡ true → Passes (pushes (arguments xs)) []
  none-passed l [] e = λ ops exits. has-empty types ft (shape ops A) exits
  none-passed l (x ∷ xs) e = absurd (omega (arith, eqb-true 0 (length (map given_by (js (x ∷ xs)))) e))

  -- one argument, of any type
  pub one-passed : (l : ℕ) (xs : Args) → same_number (None ∷ []) (map given_by (js xs)) ≡ true
      → flat_map (used l) (js xs) ≡ [] → (x : Arg types t ft A s) × (xs ≡ x ∷ []) × (used l x.judged ≡ [])
  one-passed l [] e u = absurd (omega (arith, eqb-true 1 0 e))
  one-passed l (x ∷ []) e u = (x, refl, none-left (used l x.judged) _ u)
  one-passed l (x ∷ (y ∷ ys)) e u = absurd (omega (arith, eqb-true 1 (length (map given_by (js (x ∷ (y ∷ ys))))) e))

  passes-one : (p : Piece) (e : ValueType) → Pu p e → Passes (all (p ∷ [])) (e ∷ [])
  passes-one p e h ops exits = has-then types ft p Piece.Empty _ (shape (e ∷ ops) A) _ exits (h ops exits)
      (has-empty types ft (shape (e ∷ ops) A) exits)

  -- an operation of package sync on its receiver alone
  on-receiver : (l : ℕ) (u : ValueType) (r receiver : Piece) (xs : Args)
      → parameter_faults l [] (map given_by (js xs)) ≡ [] → Pu receiver u → Tu r (u ∷ []) []
      → Tu (all (receiver ∷ pushes (arguments xs) ∷ r ∷ [])) [] []
  on-receiver l u r receiver xs none h hr =
      operates receiver (pushes (arguments xs)) r (u ∷ []) [] [] h
      (none-passed l xs (kept l 11 _ (none-right (argument_faults l [] (map given_by (js xs))) _ none))) hr

  -- rules 21 and 22 stand after the call
  late-shown : (rule : ℕ) (holds : Bool) (x : Made) → (holds ≡ true → Silent types ft A x.piece)
      → Sh (operand.Nothing (rule_unless rule holds)) x
  late-shown rule true x h = h refl
  late-shown rule false x h = tt

  -- what is printed

  printable : (g : Given) (p : Piece) → prints g ≡ true → GivesBy types t ft A s g p → (e : ValueType) × IsPrintable e
      × Pu p e
  printable g p holds h = elim (or_cases (has_base base.Int g) _ holds) [
    | inl i ↦ (ValueType.Int, tt, based types t ft A s base.Int g p i h)
    | inr r ↦ (elim (or_cases (has_base base.Bool g) _ r) [
      | inl i ↦ (ValueType.Bool, tt, based types t ft A s base.Bool g p i h)
      | inr i ↦ (ValueType.Text, tt, based types t ft A s base.Text g p i h)
    ])
  ]

  printed : (l : ℕ) (xs : Args) → flat_map (used l) (js xs) ≡ [] → list_all prints (map given_by (js xs)) ≡ true
      → (ts : List ValueType) × (length (arguments xs) ≡ length ts) × Every IsPrintable ts
      × Passes (pushes (arguments xs)) ts
  printed l [] u holds = ([], refl, tt, λ ops exits. has-empty types ft (shape ops A) exits)
  printed l (x ∷ xs) u holds =
      let h = and_parts (prints (given_by x.judged)) (list_all prints (map given_by (js xs))) holds in
      let one = printable (given_by x.judged) x.made.piece h.0
      (arg-gives types t ft A s l x (none-left (used l x.judged) _ u)) in
      let rest = printed l xs (none-right (used l x.judged) _ u) h.1 in
      (one.0 ∷ rest.0, ap (λ k. suc k) rest.1, (one.1, rest.2), one-more x.made.piece _ one.0 rest.0 one.2 rest.3)

  on-print : (l : ℕ) (receiver : Piece) (xs : Args) → flat_map (used l) (js xs) ≡ [] → Silent types ft A receiver
      → list_all prints (map given_by (js xs)) ≡ true
      → Tu (all (receiver ∷ pushes (arguments xs) ∷ op l (Instr.Print (length (arguments xs))) ∷ [])) [] []
  on-print l receiver xs u h holds =
      let p = printed l xs u holds in
      operates receiver (pushes (arguments xs)) _ [] p.0 [] h p.3
      (λ ops exits. has-op types ft (Instr.Print (length (arguments xs))) l (shape (pushed p.0 ops) A)
      (shape ops A) exits (λ full at g. (p.0, ops, p.1, p.2, refl, g)))

  silent-one : (l : ℕ) (i : Instr) (receiver : Piece) (x : Arg types t ft A s) (e : ValueType) (zs : List ValueType)
      → Silent types ft A receiver → Pu x.made.piece e → Tu (op l i) (e ∷ []) zs
      → Tu (all (receiver ∷ pushes (arguments (x ∷ [])) ∷ op l i ∷ [])) [] zs
  silent-one l i receiver x e zs h hx hi =
      operates receiver (pushes (arguments (x ∷ []))) (op l i) [] (e ∷ []) zs h (passes-one x.made.piece e hx) hi

  on-length : (l : ℕ) (receiver : Piece) (xs : Args) → flat_map (used l) (js xs) ≡ []
      → built_in_faults l built_in.Length (map given_by (js xs)) ≡ [] → Silent types ft A receiver
      → Tu (all (receiver ∷ pushes (arguments xs) ∷ op l Instr.Len ∷ [])) [] (ValueType.Int ∷ [])
  on-length l receiver xs u none h =
      let rest = none-right (broken l 8 _) _ none in
      let one = one-passed l xs (kept l 11 _ (none-right (argument_faults l (None ∷ []) (map given_by (js xs))) _ rest))
      u in
      let fits = subst (λ ys. all_first (has_layer is_any) (map given_by (js ys)) ≡ true) one.1
      (kept l 8 _ (none-left (broken l 8 _) _ none)) in
      let c = of-measured types t ft A s (given_by one.0.judged) one.0.made.piece fits
      (arg-gives types t ft A s l one.0 one.2) in
      subst (λ ys. Tu (all (receiver ∷ pushes (arguments ys) ∷ op l Instr.Len ∷ [])) [] (ValueType.Int ∷ []))
      (sym one.1)
      (silent-one l Instr.Len receiver one.0 c.0 (ValueType.Int ∷ []) h c.3
      (turn-op types ft A Instr.Len l (c.0 ∷ []) (ValueType.Int ∷ [])
      (λ full k ops g. (c.0, c.1, c.2, (ops, refl, g)))))

  on-close : (l : ℕ) (receiver : Piece) (xs : Args) → flat_map (used l) (js xs) ≡ []
      → built_in_faults l built_in.Close (map given_by (js xs)) ≡ [] → Silent types ft A receiver
      → Tu (all (receiver ∷ pushes (arguments xs) ∷ op l Instr.Close ∷ [])) [] []
  on-close l receiver xs u none h =
      let first = none-left (parameter_faults l (None ∷ []) (map given_by (js xs))) _ none in
      let one = one-passed l xs (kept l 11 _
      (none-right (argument_faults l (None ∷ []) (map given_by (js xs))) _ first)) u in
      let fits = subst (λ ys. all_first (has_layer takes) (map given_by (js ys)) ≡ true) one.1
      (kept l 16 _ (none-right (parameter_faults l (None ∷ []) (map given_by (js xs))) _ none)) in
      let c = of-taking types t ft A s (given_by one.0.judged) one.0.made.piece fits
      (arg-gives types t ft A s l one.0 one.2) in
      subst (λ ys. Tu (all (receiver ∷ pushes (arguments ys) ∷ op l Instr.Close ∷ [])) [] []) (sym one.1)
      (silent-one l Instr.Close receiver one.0 (ValueType.Chan (value_type c.0)) [] h c.2
      (turn-op types ft A Instr.Close l (ValueType.Chan (value_type c.0) ∷ []) []
      (λ full k ops g. (value_type c.0, (ops, refl, g)))))

  on-panic : (l : ℕ) (receiver : Piece) (xs : Args) → flat_map (used l) (js xs) ≡ []
      → parameter_faults l (None ∷ []) (map given_by (js xs)) ≡ [] → Silent types ft A receiver
      → all_first (has_base base.Text) (map given_by (js xs)) ≡ true
      → Tu (all (receiver ∷ pushes (arguments xs) ∷ op l Instr.Panic ∷ [])) [] []
  on-panic l receiver xs u none h holds =
      let one = one-passed l xs (kept l 11 _ (none-right (argument_faults l (None ∷ []) (map given_by (js xs))) _ none))
      u in
      let fits = subst (λ ys. all_first (has_base base.Text) (map given_by (js ys)) ≡ true) one.1 holds in
      let p = based types t ft A s base.Text (given_by one.0.judged) one.0.made.piece fits
      (arg-gives types t ft A s l one.0 one.2) in
      subst (λ ys. Tu (all (receiver ∷ pushes (arguments ys) ∷ op l Instr.Panic ∷ [])) [] []) (sym one.1)
      (silent-one l Instr.Panic receiver one.0 ValueType.Text [] h p
      (turn-op types ft A Instr.Panic l (ValueType.Text ∷ []) [] (λ full k ops g. (ops, refl))))

  -- with parameters of these types
  with-parameters : (l : ℕ) (receiver : Piece) (xs : Args) (ps : List (Option GoType)) (below zs : List ValueType)
      (r : Piece) → Every IsKnown ps → (flat_map (used l) (js xs) ≡ [])
      × (parameter_faults l ps (map given_by (js xs)) ≡ []) → Tu receiver [] below
      → ((ops : List ValueType) (exits : List Shape)
      → Has types ft r (shape (pushed (known_types ps) (below ++ ops)) A) (shape (zs ++ ops) A) exits)
      → Tu (all (receiver ∷ pushes (arguments xs) ∷ r ∷ [])) [] zs
  with-parameters l receiver xs ps below zs r known f h hr =
      operates receiver (pushes (arguments xs)) r below (known_types ps) zs h
      (passes l xs ps known f.0 (none-left (argument_faults l ps (map given_by (js xs))) _ f.1)
      (kept l 11 _ (none-right (argument_faults l ps (map given_by (js xs))) _ f.1))).1 hr

  -- what a call of a built-in makes
  on-built-in : (l : ℕ) (b : BuiltIn) (receiver : Piece) (xs : Args) → sets_finaliser (operand.BuiltIn b) ≡ false
      → (plain_call l s (operand.BuiltIn b) (js xs)).faults ≡ [] → PushesReceiver types ft A (receiver_base b) receiver
      → Sh (called s.file (operand.BuiltIn b) (map given_by (js xs)))
      (only (all (receiver ∷ pushes (arguments xs) ∷ operation l b (length (arguments xs)) ∷ [])))
  on-built-in l built_in.Length receiver xs e none h = let f =
      parts l (operand.BuiltIn built_in.Length) xs none in on-length l receiver xs f.0 f.1 h
  on-built-in l built_in.Close receiver xs e none h = let f =
      parts l (operand.BuiltIn built_in.Close) xs none in on-close l receiver xs f.0 f.1 h
  on-built-in l built_in.Panic receiver xs e none h = let f =
      parts l (operand.BuiltIn built_in.Panic) xs none in late-shown 21
      (all_first (has_base base.Text) (map given_by (js xs))) _ (on-panic l receiver xs f.0 f.1 h)
  on-built-in l built_in.Print receiver xs e none h = let f =
      parts l (operand.BuiltIn built_in.Print) xs none in late-shown 21 (list_all prints (map given_by (js xs))) _
      (on-print l receiver xs f.0 h)
  on-built-in l built_in.Collect receiver xs e none h =
      let f = parts l (operand.BuiltIn built_in.Collect) xs none in
      with-parameters l receiver xs [] [] [] (op l Instr.Collect) tt f h
      (turn-op types ft A Instr.Collect l [] [] (λ full k ops g. (ops, refl, g)))
  on-built-in l built_in.SetFinalizer receiver xs e none h = cc
  on-built-in l built_in.NewCondition receiver xs e none h =
      let f = parts l (operand.BuiltIn built_in.NewCondition) xs none in
      with-parameters l receiver xs (Some (plain base.Mutex) ∷ []) [] (ValueType.Cond ∷ []) (op l Instr.NewCond)
      ((plain base.Mutex, refl), tt) f h (turn-op types ft A Instr.NewCond l (ValueType.Mutex ∷ [])
      (ValueType.Cond ∷ []) (λ full k ops g. (ops, refl, g)))
  on-built-in l built_in.Add receiver xs e none h =
      let f = parts l (operand.BuiltIn built_in.Add) xs none in
      with-parameters l receiver xs (Some (plain base.Int) ∷ []) (ValueType.Group ∷ []) [] (op l Instr.GroupAdd)
      ((plain base.Int, refl), tt) f h (turn-op types ft A Instr.GroupAdd l
      (ValueType.Int ∷ ValueType.Group ∷ []) [] (λ full k ops g. (ops, refl, g)))
  on-built-in l built_in.Done receiver xs e none h =
      let f = parts l (operand.BuiltIn built_in.Done) xs none in
      on-receiver l ValueType.Group _ receiver xs f.1 h
      (one-turn types ft A (op l (Instr.Int (negsuc 0))) (op l Instr.GroupAdd) (ValueType.Group ∷ [])
      (ValueType.Int ∷ ValueType.Group ∷ []) []
      (turn-op types ft A (Instr.Int (negsuc 0)) l (ValueType.Group ∷ []) (ValueType.Int ∷ ValueType.Group ∷ [])
      (λ full k ops g. (ValueType.Group ∷ ops, refl, g)))
      (turn-op types ft A Instr.GroupAdd l (ValueType.Int ∷ ValueType.Group ∷ []) [] (λ full k ops g. (ops, refl, g))))
  on-built-in l b receiver xs e none h =
      on-receiver l _ _ receiver xs (parts l (operand.BuiltIn b) xs none).1 h
      (turn-op types ft A _ l (_ ∷ []) [] (λ full k ops g. (ops, refl, g)))

  -- finalisers

  struct-type : (xs : List Layer) (b : Base) → is_struct_type xs b ≡ true → (j : ℕ)
      × (layers_type xs b ≡ ValueType.Struct j)
  struct-type [] (base.Pointer j) e = (j, refl)
  struct-type _ _ e = cc

  struct-pointer : (g : Given) (p : Piece) → is_struct_pointer g ≡ true → GivesBy types t ft A s g p → (e : GoType)
      × (j : ℕ) × (type_given g ≡ Some e) × (value_type e ≡ ValueType.Struct j) × Pu p (value_type e)
  struct-pointer (given_as.Typed a) p holds h = let k = struct-type a.layers a.base holds in (a, k.0, refl, k.1, h)
  struct-pointer given_as.Nil p holds h = cc
  struct-pointer given_as.Unknown p holds h = absurd h

  -- a function whose one parameter has this type
  alone : (e : GoType) (ps : List (Option GoType)) → takes_alone (Some e) ps ≡ true → Every IsKnown ps
      → known_types ps ≡ value_type e ∷ []
  alone e [] holds known = cc
  alone e (p ∷ []) holds known =
      let q = known.0 in
      let same = subst (λ o. same_known o (Some e) ≡ true) q.1 holds in
      ap (λ o. known_type o ∷ []) q.1 ∙ ap (λ v. v ∷ []) (same-value q.0.layers e.layers q.0.base e.base same)
  alone e (p ∷ (r ∷ rs)) holds known = cc

  takes-finaliser : (l j : ℕ) (e : GoType) (m : Operand) (y : Made) → value_type e ≡ ValueType.Struct j
      → finalises_by s.file (Some e) m ≡ true → Sh m y → Tu (finaliser l m) (value_type e ∷ []) []
  takes-finaliser l j e operand.Nil y struct holds h =
      turn-op types ft A Instr.ClearFinalizer l (value_type e ∷ []) []
      (λ full k ops g. (j, (ops, ap (λ v. v ∷ ops) struct, g)))
  takes-finaliser l j e (operand.Function k) y struct holds h =
      let c = h.1 in
      let fits = alone e c.0.parameters (subst (λ o. signature_takes (Some e) o ≡ true) c.2 holds) c.6 in
      turn-op types ft A (Instr.SetFinalizer (k + 1)) l (value_type e ∷ []) []
      (λ full at ops g. (j, c.1, c.3, c.4 ∙ fits ∙ ap (λ v. v ∷ []) struct, (ops, ap (λ v. v ∷ ops) struct, g)))
  takes-finaliser l j e operand.Unknown y struct holds h = absurd h
  takes-finaliser l j e _ y struct holds h = cc

  finalises-shown : (l : ℕ) (x y : Arg types t ft A s) → finalises s.file (given_by x.judged) y.judged.meaning ≡ true
      → used l x.judged ≡ [] → y.judged.faults ≡ [] → Tu (all (x.made.piece ∷ finaliser l y.judged.meaning ∷ [])) [] []
  finalises-shown l x y holds u v =
      let h = and_parts (is_struct_pointer (given_by x.judged))
      (finalises_by s.file (type_given (given_by x.judged)) y.judged.meaning) holds in
      let c = struct-pointer (given_by x.judged) x.made.piece h.0 (arg-gives types t ft A s l x u) in
      one-turn types ft A x.made.piece _ [] (value_type c.0 ∷ []) [] c.4
      (takes-finaliser l c.1 c.0 y.judged.meaning y.made c.3
      (subst (λ o. finalises_by s.file o y.judged.meaning ≡ true) c.2 h.1) (y.shows v))

  on-finaliser : (l : ℕ) (f : Operand) (xs : Args) → (finaliser_call l s f (js xs)).faults ≡ []
      → Sh (finaliser_call l s f (js xs)).meaning (only (finalising l (arguments xs)))
  on-finaliser l f (x ∷ (y ∷ ys)) none =
      let rest = none-right (used l x.judged) _ none in
      late-shown 22 (finalises s.file (given_by x.judged) y.judged.meaning) _
      (λ holds. finalises-shown l x y holds (none-left (used l x.judged) _ none)
      (none-left y.judged.faults _ (none-left (named_or_used l y.judged) _ rest)))
  on-finaliser l f [] none = let e = none-right (steady_faults l s.initialises f) _
      (none-right (flat_map (used l) (js [])) _ none) in cc
  on-finaliser l f (x ∷ []) none = let e =
      none-right (steady_faults l s.initialises f) _ (none-right (flat_map (used l) (js (x ∷ []))) _ none) in cc

  -- any call

  pub on-call : (l : ℕ) (m : Operand) (callee : Made) (xs : Args) → (called_with l s m (js xs)).faults ≡ []
      → Sh m callee → Sh (called_with l s m (js xs)).meaning (call l m callee.piece (arguments xs))
  on-call l (operand.Function k) callee xs none h = on-function l k callee.piece xs none h.0 h.1
  on-call l (operand.Method k) callee xs none h = on-method l k h.0 callee.piece xs none h.1 h.2
  on-call l (operand.BuiltIn built_in.SetFinalizer) callee xs none h =
      on-finaliser l (operand.BuiltIn built_in.SetFinalizer) xs none
  on-call l (operand.BuiltIn built_in.Length) callee xs none h =
      on-built-in l built_in.Length callee.piece xs refl none h
  on-call l (operand.BuiltIn built_in.Close) callee xs none h = on-built-in l built_in.Close callee.piece xs refl none h
  on-call l (operand.BuiltIn built_in.Panic) callee xs none h = on-built-in l built_in.Panic callee.piece xs refl none h
  on-call l (operand.BuiltIn built_in.Print) callee xs none h = on-built-in l built_in.Print callee.piece xs refl none h
  on-call l (operand.BuiltIn built_in.Collect) callee xs none h =
      on-built-in l built_in.Collect callee.piece xs refl none h
  on-call l (operand.BuiltIn built_in.NewCondition) callee xs none h =
      on-built-in l built_in.NewCondition callee.piece xs refl none h
  on-call l (operand.BuiltIn built_in.Lock) callee xs none h = on-built-in l built_in.Lock callee.piece xs refl none h
  on-call l (operand.BuiltIn built_in.Unlock) callee xs none h =
      on-built-in l built_in.Unlock callee.piece xs refl none h
  on-call l (operand.BuiltIn built_in.Add) callee xs none h = on-built-in l built_in.Add callee.piece xs refl none h
  on-call l (operand.BuiltIn built_in.Done) callee xs none h = on-built-in l built_in.Done callee.piece xs refl none h
  on-call l (operand.BuiltIn built_in.WaitGroup) callee xs none h =
      on-built-in l built_in.WaitGroup callee.piece xs refl none h
  on-call l (operand.BuiltIn built_in.WriteLock) callee xs none h =
      on-built-in l built_in.WriteLock callee.piece xs refl none h
  on-call l (operand.BuiltIn built_in.WriteUnlock) callee xs none h =
      on-built-in l built_in.WriteUnlock callee.piece xs refl none h
  on-call l (operand.BuiltIn built_in.ReadLock) callee xs none h =
      on-built-in l built_in.ReadLock callee.piece xs refl none h
  on-call l (operand.BuiltIn built_in.ReadUnlock) callee xs none h =
      on-built-in l built_in.ReadUnlock callee.piece xs refl none h
  on-call l (operand.BuiltIn built_in.WaitCondition) callee xs none h =
      on-built-in l built_in.WaitCondition callee.piece xs refl none h
  on-call l (operand.BuiltIn built_in.Signal) callee xs none h =
      on-built-in l built_in.Signal callee.piece xs refl none h
  on-call l (operand.BuiltIn built_in.Broadcast) callee xs none h =
      on-built-in l built_in.Broadcast callee.piece xs refl none h
  on-call l (operand.Value e) callee xs none h = let e = (parts l (operand.Value e) xs none).1 in cc
  on-call l (operand.Outcome e) callee xs none h = let e = (parts l (operand.Outcome e) xs none).1 in cc
  on-call l (operand.Constant k b) callee xs none h = let e = (parts l (operand.Constant k b) xs none).1 in cc
  on-call l (operand.Truth b) callee xs none h = let e = (parts l (operand.Truth b) xs none).1 in cc
  on-call l (operand.Variable w e) callee xs none h = let e = (parts l (operand.Variable w e) xs none).1 in cc
  on-call l (operand.Field i e) callee xs none h = let e = (parts l (operand.Field i e) xs none).1 in cc
  on-call l (operand.Element e) callee xs none h = let e = (parts l (operand.Element e) xs none).1 in cc
  on-call l operand.Nil callee xs none h = let e = (parts l operand.Nil xs none).1 in cc
  on-call l operand.Blank callee xs none h = let e = (parts l operand.Blank xs none).1 in cc
  on-call l (operand.Nothing late) callee xs none h = let e = (parts l (operand.Nothing late) xs none).1 in cc
  on-call l (operand.Package q) callee xs none h = let e = (parts l (operand.Package q) xs none).1 in cc
  on-call l (operand.Struct k) callee xs none h = let e = (parts l (operand.Struct k) xs none).1 in cc
  on-call l operand.TypeName callee xs none h = let e = (parts l operand.TypeName xs none).1 in cc
  on-call l operand.Unknown callee xs none h = absurd h
