-- What every expression that breaks no rule gives is what it is.
-- For: `expressions_fit`, src/lib.rt
-- By: one step for each kind of expression, and an induction over the tree of an expression
use Rattle.std.proofs.Common.{◌≡◌, ℕ, List, [], ◌∷◌, ◌++◌, map, true, Option, Some, None, refl, sym, ap, ◌∙◌, subst}
use Rattle.std.proofs.lemmas.Bool.{and_parts}
use Rattle.std.specs.Prelude.{flat_map, is_some}
use Rattle.golf_syntax_trees.specs.declared.expressions.Expr.{Expr, roll-Expr}
use Rattle.golf_syntax_trees.specs.declared.expressions.Expr.TheOpen as F
use Rattle.golf_syntax_trees.proofs.ExpressionInduction.{KnownExpr, KnownElement, bare_exprs, bare_elements, ExprLayer}
use Rattle.golf_syntax_trees.proofs.ExpressionInduction.{bare_expr, every-expr}
use Rattle.golf_syntax_trees.specs.declared.expressions.UnaryOperator.{UnaryOperator}
use Rattle.golf_syntax_trees.specs.declared.expressions.UnaryOperator.TheVariants as unary
use Rattle.golf_check_types.specs.declared.types.Layer.TheVariants as layer
use Rattle.golf_check_types.specs.declared.types.Base.{Base}
use Rattle.golf_check_types.specs.declared.types.Base.TheVariants as base
use Rattle.golf_check_types.specs.declared.types.GoType.{GoType}
use Rattle.golf_check_types.specs.declared.operands.Given.{Given}
use Rattle.golf_check_types.specs.declared.operands.Given.TheVariants as given_as
use Rattle.golf_check_types.specs.declared.operands.Operand.{Operand}
use Rattle.golf_check_types.specs.declared.operands.Operand.TheVariants as operand
use Rattle.golf_check_types.specs.declared.scopes.Scope.{Scope}
use Rattle.golf_check_types.specs.Faults.{broken}
use Rattle.golf_check_types.specs.Types.{with_layer, given, has_base, has_layer, is_any, is_channel}
use Rattle.golf_check_types.specs.Scopes.{meaning}
use Rattle.golf_check_types.specs.Written.{write, pointer_to, made_base}
use Rattle.golf_check_types.specs.Expressions.{used, named_or_used, given_by, without_package, pointer_value}
use Rattle.golf_check_types.specs.Expressions.{all_put_faults, fields_differ, selected_from, unary_judged}
use Rattle.golf_check_types.specs.Expressions.{unary_meaning, index_judged}
use Rattle.golf_check_types.specs.Calls.{called_with}
use Rattle.golf_check_types.specs.Judgments.{Judge, Put, judge}
use Rattle.golf_model_typing.specs.Types.{ValueType, Types}
use Rattle.golf_code_of.specs.declared.tables.Tables.{Tables}
use Rattle.golf_code_of.proofs.JudgeEquations.{element_judge, element-judge-is, judge_layer, judge-rolls}
use Rattle.golf_code_shapes.specs.Types.{value_type}
use Rattle.golf_code_shapes.specs.Sound.{IsKnown}
use Rattle.golf_code_shapes.proofs.Typings.{none-left, none-right, kept}
use Rattle.golf_code_shapes.proofs.Literals.{written-known}
use Rattle.golf_meaning_source.specs.Names.{Env}
use Rattle.golf_meaning_source.specs.Operations.{Taking, Gives, both, then_do}
use Rattle.golf_meaning_source.specs.Exprs as X
use Rattle.golf_meaning_source.specs.Exprs.{Location}
use Rattle.golf_meaning_source.specs.ExpressionMeaning as M
use Rattle.golf_meaning_source.specs.ExpressionMeaning.{Meant, MeantPut, meant}
use Rattle.golf_meaning_source.proofs.Meanings as A
use Rattle.golf_meaning_source.proofs.Meanings.{element_meant, element-meant-is, meant_layer, meant-rolls}
use Rattle.golf_meaning_runs.specs.Sound.{One, Yields, YieldsBy, ShownBySource, NamesHaveValues, FileTaken}
use Rattle.golf_meaning_runs.specs.Meets.{Many}
use Rattle.golf_meaning_runs.specs.TypingLaws.{ExpressionIsSound, ExpressionsAreSound}
use Rattle.golf_meaning_runs.proofs.Counts.{many-one, many-both, many-then, placed-element, EachOne}
use Rattle.golf_meaning_runs.proofs.Naming.{Me, of-used, on-name}
use Rattle.golf_meaning_runs.proofs.Selecting.{on-selector}
use Rattle.golf_meaning_runs.proofs.Making.{Pointed, new-yields, literal-yields, sync-yields, made-yields}
use Rattle.golf_meaning_runs.proofs.Making.{sized-yields, slice-yields}
use Rattle.golf_meaning_runs.proofs.Calling.{Arg, judgeds, arguments, Stands, on-call}
use Rattle.golf_meaning_runs.proofs.Operators.{operators-fit}

module _ (taking : Taking) where
  pub some-value : (g : Given) (f : Gives) → YieldsBy taking g f → Many taking 1 f
  some-value (given_as.Typed e) f h = many-one taking (value_type e) f h
  some-value given_as.Nil f h = many-one taking ValueType.Mutex f (h ValueType.Mutex tt)
  some-value given_as.Unknown f h = absurd h

  module _ (types : Types) (t : Tables) where
    abbrev P : Expr → Type 0
    P e = ExpressionIsSound taking types t (judge e) (meant taking t e).does

    abbrev judged : ExprLayer P → Judge
    judged y = judge_layer (bare_expr P y)

    abbrev does : ExprLayer P → ℕ → Scope → X.Does
    does y = (meant_layer taking t (bare_expr P y)).does

    -- the judge of a meaning is the checker's
    judges : (e : Expr) → (meant taking t e).judge ≡ judge e
    judges e = A.agree taking t e

    module _ (l : ℕ) (s : Scope) (env : Env) (file : FileTaken taking types t s.file)
        (fit : NamesHaveValues taking s.locals env) where
      abbrev Is : Operand → X.Does → Type 0
      Is m d = Me taking types t s env m (d.value env) (d.place env) (d.parts env)

      abbrev gives_of : KnownExpr P → Gives
      gives_of x = ((meant taking t x.0).does l s).value env

      -- what stands as a value gives it
      value : (x : KnownExpr P) → used l (judge x.0 l s) ≡ [] → YieldsBy taking (given_by (judge x.0 l s)) (gives_of x)
      value x none = of-used taking types t s env l (judge x.0 l s) (gives_of x)
          (((meant taking t x.0).does l s).place env) (((meant taking t x.0).does l s).parts env) none
          (x.1 l s env file fit)

      one : (x : KnownExpr P) → used l (judge x.0 l s) ≡ [] → Many taking 1 (gives_of x)
      one x none = some-value (given_by (judge x.0 l s)) (gives_of x) (value x none)

      arg : KnownExpr P → Arg
      arg x = record { judged = judge x.0 l s; value = gives_of x }

      abbrev args : List (KnownExpr P) → List Arg
      args xs = map arg xs

      stands : (xs : List (KnownExpr P)) → Stands taking l (args xs)
      unfolding arg
      stands [] = tt
      stands (x ∷ xs) = (one x, stands xs)

      js-are : (xs : List (KnownExpr P)) → judgeds (args xs) ≡ map (λ (j : Judge). j l s) (map judge (bare_exprs P xs))
      unfolding arg
      js-are [] = refl
      js-are (x ∷ xs) = ap (λ js. judge x.0 l s ∷ js) (js-are xs)

      meant-js-are : (xs : List (KnownExpr P))
          → judgeds (args xs) ≡ map (λ (x : Meant). x.judge l s) (map (meant taking t) (bare_exprs P xs))
      unfolding arg
      meant-js-are [] = refl
      meant-js-are (x ∷ xs) = ap (λ (j : Judge). j l s ∷ judgeds (args xs)) (sym (judges x.0))
          ∙ ap (λ js. (meant taking t x.0).judge l s ∷ js) (meant-js-are xs)

      argument_of : Expr → Judge → X.ArgumentMeaning
      argument_of e j = record { meaning = (j l s).meaning; value = ((meant taking t e).does l s).value env }

      arguments-are : (xs : List (KnownExpr P))
          → arguments (args xs) ≡ map (M.argument l s env) (map (meant taking t) (bare_exprs P xs))
      unfolding arg argument_of
      arguments-are [] = refl
      arguments-are (x ∷ xs) = ap (λ j. argument_of x.0 j ∷ arguments (args xs)) (sym (judges x.0))
          ∙ ap (λ ys. M.argument l s env (meant taking t x.0) ∷ ys) (arguments-are xs)

      each : (xs : List (KnownExpr P)) → flat_map (used l) (map (λ (j : Judge). j l s) (map judge (bare_exprs P xs)))
          ≡ [] → EachOne taking (map (λ (m : Meant). (m.does l s).value env) (map (meant taking t) (bare_exprs P xs)))
      each [] u = tt
      each (x ∷ xs) u = (
        one x (none-left (used l (judge x.0 l s)) _ u),
        each xs (none-right (used l (judge x.0 l s)) _ u),
      )

      each-put : (xs : List (KnownElement P))
          → flat_map (used l) (map (λ (p : Put). p.judge l s) (map element_judge (bare_elements P xs))) ≡ []
          → EachOne taking (map (λ (m : MeantPut). (m.value.does l s).value env)
          (map (element_meant taking t) (bare_elements P xs)))
      each-put [] u = tt
      each-put (x ∷ xs) u =
          let v = subst (λ (p : Put). used l (p.judge l s)
          ++ flat_map (used l) (map (λ (q : Put). q.judge l s) (map element_judge (bare_elements P xs))) ≡ [])
          (element-judge-is x.0) u in (
            subst (λ (m : MeantPut). Many taking 1 ((m.value.does l s).value env)) (sym (element-meant-is taking t x.0))
                (one (x.0.value, x.1) (none-left (used l (judge x.0.value l s)) _ v)),
            each-put xs (none-right (used l (judge x.0.value l s)) _ v),
          )

      -- a package in parentheses is no qualifier
      parenthesised : (m : Operand) (d : X.Does) → Is m d → Is (without_package m) d
      parenthesised (operand.Package q) d h = tt
      parenthesised operand.Unknown d h = absurd h
      parenthesised _ d h = h

      -- what is shown as the value of an operator
      shown : (m : Operand) (f : Gives) → ((e : Option GoType) → m ≡ operand.Element e → ⊥) → ShownBySource taking m f
          → Me taking types t s env m f Location.Nowhere (X.constant_gives [] env)
      shown (operand.Value (Some e)) f other h = h
      shown (operand.Outcome (Some e)) f other h = h
      shown (operand.Element (Some e)) f other h = absurd (other (Some e) refl)
      shown _ f other h = absurd h

      pointed : (b : Option Base) (f : Gives) → Pointed taking b f
          → Me taking types t s env (pointer_value b) f Location.Nowhere (X.constant_gives [] env)
      pointed None f h = absurd h
      pointed (Some b) f h = h

      no-element : (o : UnaryOperator) (g : Given) (e : Option GoType) → unary_meaning o g ≡ operand.Element e → ⊥
      no-element unary.Negate g e h = cc
      no-element unary.Not g e h = cc
      no-element unary.Receive g e h = cc

      typed : (o : Option GoType) → IsKnown o → (f : Option GoType → Gives)
          → ((e : GoType) → o ≡ Some e → Yields taking (value_type e) (f (Some e)))
          → Me taking types t s env (operand.Value o) (f o) Location.Nowhere (X.constant_gives [] env)
      typed o k f h = subst (λ z. Me taking types t s env (operand.Value z) (f z) Location.Nowhere
          (X.constant_gives [] env)) (sym k.1) (h k.0 k.1)

      element : (o : Operand) (f : Gives) → (a b : KnownExpr P)
          → ShownBySource taking o (then_do f (X.read taking env (Location.Element (X.element_type o))))
          → ((z : Operand) → o ≡ z → (e : Option GoType) × (z ≡ operand.Element e)) → Many taking 2 f
          → Me taking types t s env o (then_do f (X.read taking env (Location.Element (X.element_type o))))
          (Location.Element (X.element_type o)) f
      element (operand.Element (Some e)) f a b h is two = (h, placed-element taking s.locals env fit e f two)
      element (operand.Element None) f a b h is two = absurd h
      element (operand.Value e) f a b h is two = let z = (is (operand.Value e) refl).1 in cc
      element (operand.Outcome e) f a b h is two = let z = (is (operand.Outcome e) refl).1 in cc
      element _ f a b h is two = absurd h

      at : (y : ExprLayer P) → (judged y l s).faults ≡ [] → Is (judged y l s).meaning (does y l s)
      at (F.Name n) none = on-name taking types t s env fit l n file none
      at (F.Parens x) none = parenthesised (judge x.0 l s).meaning ((meant taking t x.0).does l s)
          (x.1 l s env file fit none)
      at (F.StructLiteral n xs) none =
          let b = pointer_to (meaning s n) in
          let ns = map (λ (p : Put). p.name) (map element_judge (bare_elements P xs)) in
          let js = map (λ (p : Put). p.judge l s) (map element_judge (bare_elements P xs)) in
          let rest = none-right (flat_map (used l) js) _ none in
          let there = and_parts (is_some b) (fields_differ s.file b [] ns)
          (kept l 20 _ (none-right (all_put_faults l s.file b ns (map given_by js)) _ rest)) in
          pointed b _ (literal-yields taking s.file (meaning s n)
          (map (λ (m : MeantPut). m.name) (map (element_meant taking t) (bare_elements P xs)))
          (map (λ (m : MeantPut). (m.value.does l s).value env) (map (element_meant taking t) (bare_elements P xs)))
          there.0 (each-put xs (none-left (flat_map (used l) js) _ none)))
      at (F.SyncLiteral n) none = pointed (made_base n) _
          (sync-yields taking n (kept l 4 _ (none-right (broken l 3 s.file.imports.sync) _ none)))
      at (F.SliceLiteral w xs) none =
          let k = written-known w l s (none-left (write w l s).faults _ none) in
          let js = map (λ (j : Judge). j l s) (map judge (bare_exprs P xs)) in
          let u = none-left (flat_map (used l) js) _ (none-right (write w l s).faults _ none) in
          subst (λ o. Me taking types t s env (operand.Value (with_layer layer.Slice o))
          (X.slice_literal taking (with_layer layer.Slice o)
          (map (λ (m : Meant). (m.does l s).value env) (map (meant taking t) (bare_exprs P xs)))) Location.Nowhere
          (X.constant_gives [] env)) (sym k.1) (slice-yields taking k.0 _ (each xs u))
      at (F.Make w) none =
          let k = written-known w l s (none-left (write w l s).faults _ none) in
          typed (write w l s).type k (λ o. X.made taking o (X.int_value 0 ∷ []))
          (λ e is. made-yields taking e (X.int_value 0 ∷ [])
          (subst (λ o. has_layer is_channel (given (operand.Value o)) ≡ true) is
          (kept l 11 _ (none-right (write w l s).faults _ none))) refl)
      at (F.MakeSized w x) none =
          let k = written-known w l s (none-left (write w l s).faults _ none) in
          let j = judge x.0 l s in
          let rest = none-right (write w l s).faults _ none in
          let two = none-right (used l j) _ rest in
          typed (write w l s).type k (λ o. then_do (gives_of x) (X.made taking o))
          (λ e is. many-then taking 1 (gives_of x) (X.made taking (Some e)) (One taking (value_type e))
          (one x (none-left (used l j) _ rest))
          (λ vs len. sized-yields taking e vs (subst (λ o. has_layer is_any (given (operand.Value o)) ≡ true) is
          (kept l 11 _ (none-right (broken l 8 (has_base base.Int (given_by j))) _ two))) len))
      at (F.New n) none = pointed (pointer_to (meaning s n)) _ (new-yields taking (meaning s n) (kept l 4 _ none))
      at (F.NewSync n) none = pointed (made_base n) _
          (sync-yields taking n (kept l 4 _ (none-right (broken l 3 s.file.imports.sync) _ none)))
      at (F.Selector e n) none =
          let j = judge e.0 l s in
          let d = (meant taking t e.0).does l s in
          subst (λ (w : Judge). Is (selected_from l s.file n j.meaning).meaning
          (X.selector taking (selected_from l s.file n (w l s).meaning).meaning (λ env. d.value env)))
          (sym (judges e.0))
          (on-selector taking types t s env fit file l n (λ env. d.value env) (d.place env) (d.parts env) j.meaning
          (none-right j.faults _ none) (e.1 l s env file fit (none-left j.faults _ none)))
      at (F.Index a i) none =
          let j = judge a.0 l s in
          let k = judge i.0 l s in
          let two = many-both taking 1 1 (gives_of a) (gives_of i) (one a (none-left (used l j) _ none))
          (one i (none-left (used l k) _ (none-right (used l j) _ none))) in
          let m = (index_judged l j k).meaning in
          subst (λ (v : Judge). Is m (X.in_place taking
          (λ env. Location.Element (X.element_type (index_judged l (v l s) ((meant taking t i.0).judge l s)).meaning))
          (λ env. both (((meant taking t a.0).does l s).value env) (((meant taking t i.0).does l s).value env))))
          (sym (judges a.0))
          (subst (λ (v : Judge). Is m (X.in_place taking
          (λ env. Location.Element (X.element_type (index_judged l j (v l s)).meaning))
          (λ env. both (((meant taking t a.0).does l s).value env) (((meant taking t i.0).does l s).value env))))
          (sym (judges i.0))
          (element m (both (gives_of a) (gives_of i)) a i
          ((operators-fit taking).2 l j k (gives_of a) (gives_of i) env (value a) (value i) none)
          (λ z is. (_, sym is)) two))
      at (F.Call f xs) none =
          let j = judge f.0 l s in
          let d = (meant taking t f.0).does l s in
          let js = map (λ (w : Judge). w l s) (map judge (bare_exprs P xs)) in
          let clean = subst (λ ks. (called_with l s j.meaning ks).faults ≡ []) (sym (js-are xs))
          (none-right (named_or_used l j) (called_with l s j.meaning js).faults none) in
          let start = on-call taking types t s env file l (d.value env) (d.place env) (d.parts env) (args xs)
          (stands xs) j.meaning clean (f.1 l s env file fit
          (none-left j.faults _ (none-left (named_or_used l j) _ none))) in
          let two = subst (λ ys. Me taking types t s env (called_with l s j.meaning (judgeds (args xs))).meaning
          (X.call taking j.meaning (called_with l s j.meaning (judgeds (args xs))).meaning (d.value env) ys)
          Location.Nowhere (X.constant_gives [] env)) (arguments-are xs) start in
          let three = subst (λ ks. Me taking types t s env (called_with l s j.meaning (judgeds (args xs))).meaning
          (X.call taking j.meaning (called_with l s j.meaning ks).meaning (d.value env)
          (map (M.argument l s env) (map (meant taking t) (bare_exprs P xs)))) Location.Nowhere
          (X.constant_gives [] env)) (meant-js-are xs) two in
          let four = subst (λ ks. Me taking types t s env (called_with l s j.meaning ks).meaning
          (X.call taking j.meaning (called_with l s j.meaning
          (map (λ (x : Meant). x.judge l s) (map (meant taking t) (bare_exprs P xs)))).meaning (d.value env)
          (map (M.argument l s env) (map (meant taking t) (bare_exprs P xs)))) Location.Nowhere
          (X.constant_gives [] env)) (js-are xs) three in
          subst (λ (w : Judge). Me taking types t s env (called_with l s j.meaning js).meaning
          (X.call taking (w l s).meaning (called_with l s (w l s).meaning
          (map (λ (x : Meant). x.judge l s) (map (meant taking t) (bare_exprs P xs)))).meaning (d.value env)
          (map (M.argument l s env) (map (meant taking t) (bare_exprs P xs)))) Location.Nowhere
          (X.constant_gives [] env)) (sym (judges f.0)) four
      at (F.Unary o e) none =
          let j = judge e.0 l s in
          subst (λ (w : Judge). Is (unary_judged l s o j).meaning
          (X.only (λ env. then_do (((meant taking t e.0).does l s).value env)
          (X.unary_does taking o (unary_judged l s o (w l s)).meaning)))) (sym (judges e.0))
          (shown (unary_judged l s o j).meaning _ (no-element o (given_by j))
          ((operators-fit taking).0 l s o j (gives_of e) (value e) none))
      at (F.Binary o a b) none = (operators-fit taking).1 l o (judge a.0 l s) (judge b.0 l s) (gives_of a) (gives_of b)
          (value a) (value b) none
      at _ none = λ w strict. refl

    rolled : (y : ExprLayer P) → P (roll-Expr (bare_expr P y))
    rolled y = subst (λ (j : Judge). ExpressionIsSound taking types t j
        (meant taking t (roll-Expr (bare_expr P y))).does)
        (sym (judge-rolls (bare_expr P y)))
        (subst (λ (m : Meant). ExpressionIsSound taking types t (judged y) m.does)
        (sym (meant-rolls taking t (bare_expr P y))) (λ l s env file fit none. at l s env file fit y none))

    pub fits : (e : Expr) → P e
    fits = every-expr P rolled

  pub expressions-fit : ExpressionsAreSound taking
  expressions-fit types t e = fits types t e
