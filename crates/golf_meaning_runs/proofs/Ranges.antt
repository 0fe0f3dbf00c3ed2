-- A loop over a slice or a channel that breaks no rule is unfit by an answer alone.
-- For: `statements_fit`, src/lib.rt
-- By: induction over the turns that the loop may still take; cases of the names and of the type
use Rattle.std.proofs.Common.{◌≡◌, ℕ, zero, suc, ℤ, pos, Bool, true, false, cond, not, ◌&&◌, List, [], ◌∷◌, ◌++◌}
use Rattle.std.proofs.Common.{length, Option, Some, None, refl, subst, append_assoc}
use Rattle.std.specs.Prelude.{int_lt, is_some}
use Rattle.golf_syntax_trees.specs.declared.expressions.Expr.{Expr}
use Rattle.golf_syntax_trees.specs.declared.statements.RangeNames.{RangeNames}
use Rattle.golf_syntax_trees.specs.declared.statements.RangeNames.TheVariants as range
use Rattle.golf_data.specs.declared.value.Value.{Value}
use Rattle.golf_data.specs.declared.code.Instr.{Instr}
use Rattle.golf_model.specs.Values.{int_of, bool_of}
use Rattle.golf_model.specs.Arithmetic.{sum}
use Rattle.golf_check_types.specs.declared.types.Layer.{Layer}
use Rattle.golf_check_types.specs.declared.types.Layer.TheVariants as layer
use Rattle.golf_check_types.specs.declared.types.Base.{Base}
use Rattle.golf_check_types.specs.declared.types.Base.TheVariants as base
use Rattle.golf_check_types.specs.declared.types.GoType.{GoType}
use Rattle.golf_check_types.specs.declared.operands.Given.{Given}
use Rattle.golf_check_types.specs.declared.operands.Given.TheVariants as given_as
use Rattle.golf_check_types.specs.declared.locals.Local.{Local}
use Rattle.golf_check_types.specs.declared.scopes.Scope.{Scope}
use Rattle.golf_check_types.specs.Faults.{broken}
use Rattle.golf_check_types.specs.Names.{is_blank}
use Rattle.golf_check_types.specs.Scopes.{begun}
use Rattle.golf_check_types.specs.Types.{plain, is_slice, element}
use Rattle.golf_check_types.specs.Expressions.{used, given_by}
use Rattle.golf_check_types.specs.Judgments.{judge}
use Rattle.golf_check_types.specs.Statements as W
use Rattle.golf_check_types.specs.Statements.{Walk, behind, one_new, int_type, bool_type, are_two, is_outer}
use Rattle.golf_check_types.specs.Statements.{range_faults, range_names_differ}
use Rattle.golf_model_typing.specs.Types.{ValueType, Types}
use Rattle.golf_code_of.specs.declared.tables.Tables.{Tables}
use Rattle.golf_code_of.specs.declared.surroundings.Around.{Around}
use Rattle.golf_code_shapes.specs.Types.{value_type}
use Rattle.golf_code_shapes.proofs.Typings.{none-left, none-right, kept}
use Rattle.golf_meaning_flat.specs.Worlds.{World, Part, bind}
use Rattle.golf_meaning_flat.specs.InstructionEffects.{on_kind, computed}
use Rattle.golf_meaning_source.specs.Names.{Env}
use Rattle.golf_meaning_source.specs.Operations.{Taking, visible}
use Rattle.golf_meaning_source.specs.Exprs.{int_value}
use Rattle.golf_meaning_statements.specs.Flows.{Course, Flow, cut, after, by_test, turned}
use Rattle.golf_meaning_statements.specs.Steps.{Deed, bound, declared, value_at, in_block, in_loop, named_one}
use Rattle.golf_meaning_statements.specs.Steps.{range_named, ranges, measured, range_step, over_slice, channel_named}
use Rattle.golf_meaning_statements.specs.Steps.{received_two, receives, channel_step, by_channel, over, ranging}
use Rattle.golf_meaning_runs.specs.Sound.{SoundPart, One, YieldsBy, Held, NamesHaveValues, FileTaken, IsOf, AllFit}
use Rattle.golf_meaning_runs.specs.SoundFlows.{Fitting, Out, Never}
use Rattle.golf_meaning_runs.proofs.Calculus.{lax, sound-visible, yields-visible}
use Rattle.golf_meaning_runs.proofs.NamesKept.{names-bound, names-cut}
use Rattle.golf_meaning_runs.proofs.Given.{at-one, at-two, two-fit}
use Rattle.golf_meaning_runs.proofs.Flows.{fitting-after, fitting-cut, fitting-turned}
use Rattle.golf_meaning_runs.proofs.Simples.{declaring, value-of}
use Rattle.golf_meaning_runs.proofs.Blocks.{quiet, exact-fits, block-cut, fits-begin, Fits, body-fits, left-fits}

one-name : (names : RangeNames) → not (are_two names && true) ≡ true → are_two names ≡ false
one-name range.Neither e = refl
one-name (range.One n) e = refl
one-name (range.Two n m) e = cc

module _ (taking : Taking) where
  -- a name that is `_` is not declared
  named-fit : (b : Bool) (ds : List Local) (at : Scope) (n : List ℕ) (o : Option GoType) (v : Value) (env : Env)
      → NamesHaveValues taking ds env → Held taking o v
      → NamesHaveValues taking (ds ++ (one_new (not b) n o at).declares) (cond b env (bound env n v))
  named-fit true ds at n o v env h k = quiet taking ds [] env refl h
  named-fit false ds at n o v env h k = names-bound taking ds at n o env v h k

  element-fit : (b : Bool) (ds : List Local) (at : Scope) (m : List ℕ) (e : GoType) (x i : Value) (env : Env)
      (w : World) → NamesHaveValues taking ds env → SoundPart taking
      (NamesHaveValues taking (ds ++ (one_new (not b) m (Some e) at).declares))
      (cond b (Part.Gives env w) (bind (visible taking Instr.Index (Some e ∷ []) (x ∷ (i ∷ [])) w) (declared env m)))
  element-fit true ds at m e x i env w h = quiet taking ds [] env refl h
  element-fit false ds at m e x i env w h =
      declaring taking ds at m (Some e) e env (visible taking Instr.Index (Some e ∷ []) (x ∷ (i ∷ []))) refl h
      (yields-visible taking Instr.Index e (x ∷ (i ∷ [])) refl (λ k. refl)) w

  range-named : (ds : List Local) (at : Scope) (names : RangeNames) (e : GoType) (x : Value) (i : ℤ) (env : Env)
      (w : World) → NamesHaveValues taking ds env → SoundPart taking
      (NamesHaveValues taking (ds ++ (W.range_names names true (Some e) at).declares))
      (range_named taking (Some e) names x (Value.Int i) env w)
  range-named ds at range.Neither e x i env w h = quiet taking ds [] env refl h
  range-named ds at (range.One n) e x i env w h =
      named-fit (is_blank n) ds at n int_type (Value.Int i) env h (λ strict. refl)
  range-named ds at (range.Two n m) e x i env w h =
      let v = W.range_name n int_type at in
      subst (λ es. SoundPart taking (NamesHaveValues taking es)
      (range_named taking (Some e) (range.Two n m) x (Value.Int i) env w))
      (append_assoc ds v.declares (W.range_name m (Some e) (behind at v)).declares)
      (element-fit (is_blank m) (ds ++ v.declares) (behind at v) m e x (Value.Int i) (named_one n (Value.Int i) env) w
      (named-fit (is_blank n) ds at n int_type (Value.Int i) env h (λ strict. refl)))

  channel-named : (ds : List Local) (at : Scope) (names : RangeNames) (e : GoType) (v : Value) (env : Env)
      → are_two names ≡ false → NamesHaveValues taking ds env → IsOf taking (value_type e) v
      → NamesHaveValues taking (ds ++ (W.range_names names false (Some e) at).declares) (channel_named names v env)
  channel-named ds at range.Neither e v env one h of = quiet taking ds [] env refl h
  channel-named ds at (range.One n) e v env one h of = named-fit (is_blank n) ds at n (Some e) v env h of
  channel-named ds at (range.Two n m) e v env one h of = cc

  -- Loops from names of these locals.
  module _ (ds : List Local) (B C : Env → Type 0) where
    abbrev I : Env → Type 0
    I = NamesHaveValues taking ds

    abbrev pub Loop : Flow → Type 0
    Loop f = Fitting taking (NamesHaveValues taking ds) B C Never f

    -- a turn ends with the names of before
    cut-turn : (es : List Local) (env : Env) (f : Flow) → NamesHaveValues taking ds env
        → Fitting taking (NamesHaveValues taking (ds ++ es)) (NamesHaveValues taking (ds ++ es))
        (NamesHaveValues taking (ds ++ es)) Never f
        → Fitting taking I I I I (cut (length env) f)
    cut-turn es env f fit h = fitting-cut taking (NamesHaveValues taking ds) (NamesHaveValues taking ds)
        (NamesHaveValues taking ds)
        (NamesHaveValues taking ds) (NamesHaveValues taking (ds ++ es)) (NamesHaveValues taking (ds ++ es))
        (NamesHaveValues taking (ds ++ es))
        (length env) f h
        (λ z k. names-cut taking ds env z fit (es, k)) (λ z k. names-cut taking ds env z fit (es, k))
        (λ z k. names-cut taking ds env z fit (es, k))

    slice-turns : (long : Value) → IsOf taking ValueType.Int long → (step : Value → Env → World → Flow)
        → ((i : ℤ) (env : Env) (w : World) → NamesHaveValues taking ds env
        → Fitting taking I I I I (step (Value.Int i) env w))
        → (m : ℕ) (i : ℤ) (env : Env) (w : World) → NamesHaveValues taking ds env
        → Loop (ranges m long step (Value.Int i) env w)
    slice-turns long of step h zero i env w k = tt
    slice-turns long of step h (suc m) i env w k =
        by (λ e v q. slice-turns long of step h m (sum i (pos 1)) e v q) (int_of long) of
      where
        test : ((e : Env) (v : World) → NamesHaveValues taking ds e
            → Loop (ranges m long step (Value.Int (sum i (pos 1))) e v)) → (c : Bool)
            → Loop (by_test (Some c) w (turned (step (Value.Int i) env w)
            (λ e v. after (computed sum v (Value.Int i) (int_value 1)) (λ j x. ranges m long step j e x)))
            (Flow.Goes Course.On env w))
        test next true = fitting-turned taking (NamesHaveValues taking ds) B C Never (NamesHaveValues taking ds)
            (step (Value.Int i) env w) _ (h i env w k) next
        test next false = k

        by : ((e : Env) (v : World) → NamesHaveValues taking ds e
            → Loop (ranges m long step (Value.Int (sum i (pos 1))) e v))
            → (o : Option ℤ) → (taking.strict ≡ true → is_some o ≡ true)
            → Loop (after (on_kind (λ n. Part.Gives (Value.Bool (int_lt i n)) w) w o)
            (λ b u. by_test (bool_of b) u (turned (step (Value.Int i) env u)
            (λ e v. after (computed sum v (Value.Int i) (int_value 1)) (λ j x. ranges m long step j e x)))
            (Flow.Goes Course.On env u)))
        by next None q = lax taking.strict q
        by next (Some b) q = test next (int_lt i b)

    -- over a slice
    pub slice-fits : (at : Scope) (names : RangeNames) (e : GoType) (n : ℕ) (d : Env → World → Flow) (x : Value)
        (env : Env) (w : World) → NamesHaveValues taking ds env
        → ((z : Env) (u : World) → NamesHaveValues taking (ds ++ (W.range_names names true (Some e) at).declares) z
        → Fitting taking (NamesHaveValues taking (ds ++ (W.range_names names true (Some e) at).declares))
        (NamesHaveValues taking (ds ++ (W.range_names names true (Some e) at).declares))
        (NamesHaveValues taking (ds ++ (W.range_names names true (Some e) at).declares)) Never (d z u))
        → Loop (over_slice taking n (Some e) names d x env w)
    slice-fits at names e n d x env w fit h =
        fitting-after taking (NamesHaveValues taking ds) B C Never
        (visible taking Instr.Len (int_type ∷ []) (x ∷ []) w) _
        (One taking ValueType.Int) (yields-visible taking Instr.Len (plain base.Int) (x ∷ []) refl (λ k. refl) w)
        (λ ls u q. at-one taking ValueType.Int
        (λ us. Loop (measured us u (λ long v. ranges n long (range_step taking (Some e) names x d)
        (int_value 0) env v)))
        (λ long of. slice-turns long of (range_step taking (Some e) names x d) one n (pos 0) env u fit) ls q)
      where
        one : (i : ℤ) (z : Env) (u : World) → NamesHaveValues taking ds z
            → Fitting taking I I I I (range_step taking (Some e) names x d (Value.Int i) z u)
        one i z u k =
            cut-turn (W.range_names names true (Some e) at).declares z
            (after (range_named taking (Some e) names x (Value.Int i) z u) d) k
            (fitting-after taking (NamesHaveValues taking (ds ++ (W.range_names names true (Some e) at).declares))
            (NamesHaveValues taking (ds ++ (W.range_names names true (Some e) at).declares))
            (NamesHaveValues taking (ds ++ (W.range_names names true (Some e) at).declares)) Never
            (range_named taking (Some e) names x (Value.Int i) z u) d
            (NamesHaveValues taking (ds ++ (W.range_names names true (Some e) at).declares))
            (range-named ds at names e x i z u k) h)

    chan-turns : (e : GoType) (c : Value) (step : Value → Env → World → Flow)
        → ((v : Value) (env : Env) (w : World) → NamesHaveValues taking ds env → IsOf taking (value_type e) v
        → Fitting taking I I I I (step v env w)) → (m : ℕ) (env : Env) (w : World) → NamesHaveValues taking ds env
        → Loop (receives taking m (Some e) c step env w)
    chan-turns e c step h zero env w k = tt
    chan-turns e c step h (suc m) env w k =
        fitting-after taking (NamesHaveValues taking ds) B C Never
        (visible taking Instr.ReceiveOk (Some e ∷ (bool_type ∷ [])) (c ∷ []) w) _
        (AllFit taking (Some e ∷ (bool_type ∷ [])))
        (sound-visible taking Instr.ReceiveOk (Some e ∷ (bool_type ∷ [])) (c ∷ []) w refl (λ k. refl))
        (λ vs u r. at-two taking (value_type e) ValueType.Bool
        (λ zs. Loop (received_two zs u (λ v ok y. by_test (bool_of ok) y
        (turned (step v env y) (receives taking m (Some e) c step)) (Flow.Goes Course.On env y))))
        (λ v ok p q. by (λ z2 y q2. chan-turns e c step h m z2 y q2) v p u (bool_of ok) q) vs
        (two-fit taking e (plain base.Bool) vs r))
      where
        by : ((z : Env) (y : World) → NamesHaveValues taking ds z → Loop (receives taking m (Some e) c step z y))
            → (v : Value)
            → IsOf taking (value_type e) v → (u : World) (b : Option Bool) → (taking.strict ≡ true → is_some b ≡ true)
            → Loop (by_test b u (turned (step v env u) (receives taking m (Some e) c step)) (Flow.Goes Course.On env u))
        by next v p u None q = lax taking.strict q
        by next v p u (Some true) q = fitting-turned taking (NamesHaveValues taking ds) B C Never
            (NamesHaveValues taking ds)
            (step v env u) (receives taking m (Some e) c step) (h v env u k p) next
        by next v p u (Some false) q = k

    -- over a channel
    pub channel-fits : (at : Scope) (names : RangeNames) (e : GoType) (n : ℕ) (d : Env → World → Flow) (x : Value)
        (env : Env) (w : World) → are_two names ≡ false → NamesHaveValues taking ds env
        → ((z : Env) (u : World) → NamesHaveValues taking (ds ++ (W.range_names names false (Some e) at).declares) z
        → Fitting taking (NamesHaveValues taking (ds ++ (W.range_names names false (Some e) at).declares))
        (NamesHaveValues taking (ds ++ (W.range_names names false (Some e) at).declares))
        (NamesHaveValues taking (ds ++ (W.range_names names false (Some e) at).declares)) Never (d z u))
        → Loop (over taking false n (Some e) names d x env w)
    channel-fits at names e n d x env w one fit h =
        by names one (chan-turns e x (channel_step names d) turn n env w fit)
      where
        turn : (v : Value) (z : Env) (u : World) → NamesHaveValues taking ds z → IsOf taking (value_type e) v
            → Fitting taking I I I I (channel_step names d v z u)
        turn v z u k of = cut-turn (W.range_names names false (Some e) at).declares z (d (channel_named names v z) u) k
            (h (channel_named names v z) u (channel-named ds at names e v z one k of))

        by : (r : RangeNames) → are_two r ≡ false → Loop (receives taking n (Some e) x (channel_step names d) env w)
            → Loop (by_channel r (receives taking n (Some e) x (channel_step names d) env w) w)
        by range.Neither p k = k
        by (range.One n) p k = k
        by (range.Two n m) p k = cc

  module _ (types : Types) (t : Tables) (w : Walk) (e : Deed) (he : Fits taking types t w e) where
    abbrev Body : Around → Scope → ℕ → Env → World → Flow
    Body = in_loop 2 0 (in_block e)

    -- a range over what is given stands if the file and the names fit, and neither its names nor its body break a rule
    record Clean (l : ℕ) (s : Scope) (names : RangeNames) (g : Given) (env : Env) : Type 0 where
      file : FileTaken taking types t s.file
      names_fit : NamesHaveValues taking s.locals env
      none : range_faults l names g ≡ []
      none_inside : (W.looping (W.in_block w) (behind s (W.range_slots names g s))).faults ≡ []

    over-typed : {l : ℕ} {s : Scope} {names : RangeNames} {env : Env} (n : ℕ) (a : Around) (xs : List Layer) (b : Base)
        (x : Value) (u : World) → Clean l s names (given_as.Typed (record { layers = xs; base = b })) env
        → Loop s.locals (Out taking s.breaks s.locals) (Out taking s.loops s.locals)
        (over taking (is_outer is_slice (given_as.Typed (record { layers = xs; base = b }))) n
        (element (given_as.Typed (record { layers = xs; base = b }))) names
        (Body a (behind s (W.range_slots names (given_as.Typed (record { layers = xs; base = b })) s)) n) x env u)
    over-typed {l} {s} {names} {env} n a [] b x u clean = let none = clean.none in let e : false ≡ true =
        kept l 17 false (none-right (broken l 16 true) (broken l 17 false)
        (none-right (broken l 2 (range_names_differ names)) _ none)) in cc
    over-typed {l} {s} {names} {env} n a (layer.Slice ∷ ys) b x u clean =
        slice-fits s.locals (Out taking s.breaks s.locals) (Out taking s.loops s.locals) _ names
        (record { layers = ys; base = b }) n _ x env u clean.names_fit
        (λ z y k. body-fits taking types t w e he 2 0 a
        (behind s (W.range_slots names (given_as.Typed (record { layers = layer.Slice ∷ ys; base = b })) s)) n z y
        clean.file k clean.none_inside)
    over-typed {l} {s} {names} {env} n a (layer.Chan ∷ ys) b x u clean =
        channel-fits s.locals (Out taking s.breaks s.locals) (Out taking s.loops s.locals) _ names
        (record { layers = ys; base = b }) n _ x env u
        (one-name names (kept l 17 _ (none-right (broken l 16 true) _ (none-right (broken l 2 _) _ clean.none))))
        clean.names_fit (λ z y k. body-fits taking types t w e he 2 0 a
        (behind s (W.range_slots names (given_as.Typed (record { layers = layer.Chan ∷ ys; base = b })) s)) n z y
        clean.file k clean.none_inside)
    over-typed {l} {s} {names} {env} n a (layer.ReceiveChan ∷ ys) b x u clean =
        channel-fits s.locals (Out taking s.breaks s.locals) (Out taking s.loops s.locals) _ names
        (record { layers = ys; base = b }) n _ x env u
        (one-name names (kept l 17 _ (none-right (broken l 16 true) _ (none-right (broken l 2 _) _ clean.none))))
        clean.names_fit (λ z y k. body-fits taking types t w e he 2 0 a
        (behind s (W.range_slots names (given_as.Typed (record { layers = layer.ReceiveChan ∷ ys; base = b })) s)) n
        z y clean.file k clean.none_inside)
    over-typed {l} {s} {names} {env} n a (layer.SendChan ∷ ys) b x u clean = let none =
        clean.none in let e : false ≡ true = kept l 16 false
        (none-left (broken l 16 false) (broken l 17 (not (are_two names && true)))
        (none-right (broken l 2 (range_names_differ names)) _ none)) in cc

    over-given : {l : ℕ} {s : Scope} {names : RangeNames} {env : Env} (n : ℕ) (a : Around) (g : Given)
        (f : World → Part (List Value)) (u : World) → Clean l s names g env → YieldsBy taking g f
        → Loop s.locals (Out taking s.breaks s.locals) (Out taking s.loops s.locals)
        (after (f u) (λ vs y. measured vs y (λ x z. over taking (is_outer is_slice g) n (element g) names
        (Body a (behind s (W.range_slots names g s)) n) x env z)))
    over-given {l} {s} {names} {env} n a (given_as.Typed c) f u clean h =
        fitting-after taking (NamesHaveValues taking s.locals) (Out taking s.breaks s.locals)
        (Out taking s.loops s.locals) Never (f u) _ (One taking (value_type c)) (h u)
        (λ vs y q. at-one taking (value_type c)
        (λ us. Loop s.locals (Out taking s.breaks s.locals) (Out taking s.loops s.locals)
        (measured us y (λ x z. over taking (is_outer is_slice (given_as.Typed c)) n
        (element (given_as.Typed c)) names (Body a (behind s (W.range_slots names (given_as.Typed c) s)) n) x env
        z)))
        (λ x of. over-typed n a c.layers c.base x y clean) vs q)
    over-given {l} {s} {names} {env} n a given_as.Nil f u clean h = let none = clean.none in let e : false ≡ true =
        kept l 17 false (none-right (broken l 16 true) (broken l 17 false)
        (none-right (broken l 2 (range_names_differ names)) _ none)) in cc
    over-given {l} {s} {names} {env} n a given_as.Unknown f u clean h = absurd h

    -- a `range` in its block: what the names declare is known inside alone
    pub range-fits : (l : ℕ) (names : RangeNames) (x : Expr)
        → Fits taking types t (W.in_block (λ s. W.both (W.range_head l names x s)
        (W.then (W.range_slots names (given_by (judge x l s))) (W.looping (W.in_block w)) s)))
        (in_block (ranging taking t l names x (in_loop 2 0 (in_block e))))
    range-fits l names x a s n env u file fit none =
        let r = begun s in
        let j = judge x l r in
        let g = given_by j in
        let head = none-left (used l j ++ range_faults l names g) _ none in
        let rest = none-right (used l j ++ range_faults l names g) _ none in
        let f = ranging taking t l names x (in_loop 2 0 (in_block e)) a r n env u in
        let clean : Clean l r names g env = record {
          file = file;
          names_fit = fit;
          none = none-right (used l j) _ head;
          none_inside = none-right (W.range_slots names g r).faults _ rest;
        } in
        exact-fits taking s (cut (length env) f) (block-cut taking s env f fit (fits-begin taking s [] f
        (left-fits taking types t w e he r [] f refl
        (over-given n a g (value_at taking t l r x env) u clean
        (value-of taking types t l r env file fit x (none-left (used l j) _ head))))))
