-- The code of every expression that breaks no rule has shapes: one step for each kind of expression.
-- For: `expressions_fit`, src/lib.rt
-- By: induction over the tree of an expression
use Rattle.std.proofs.Common.{◌≡◌, ℕ, ◌<◌, List, [], ◌∷◌, map, refl, sym, ap, ◌∙◌, subst, arith, pos}
use Rattle.golf_data.specs.declared.code.Instr.{Instr}
use Rattle.golf_syntax_trees.specs.declared.expressions.Expr.{Expr, roll-Expr}
use Rattle.golf_syntax_trees.specs.declared.expressions.Expr.TheOpen as F
use Rattle.golf_syntax_trees.proofs.ExpressionInduction.{KnownExpr, KnownElement, bare_exprs, bare_elements, ExprLayer}
use Rattle.golf_syntax_trees.proofs.ExpressionInduction.{bare_expr, every-expr}
use Rattle.golf_check_types.specs.declared.operands.Operand.{Operand}
use Rattle.golf_check_types.specs.declared.operands.Operand.TheVariants as operand
use Rattle.golf_check_types.specs.declared.scopes.Scope.{Scope}
use Rattle.golf_check_types.specs.declared.types.Layer.TheVariants as layer
use Rattle.golf_check_types.specs.Types.{with_layer}
use Rattle.golf_check_types.specs.Scopes.{meaning}
use Rattle.golf_check_types.specs.Written.{write, pointer_to}
use Rattle.golf_check_types.specs.Expressions.{without_package, used, named_or_used, value_from, pointer_value}
use Rattle.golf_check_types.specs.Expressions.{struct_literal, slice_literal, selected_from}
use Rattle.golf_check_types.specs.Calls.{called_with}
use Rattle.golf_check_types.specs.Judgments.{Judge, Put, judge}
use Rattle.golf_model_typing.specs.Types.{ValueType, FunctionTypes, Types}
use Rattle.golf_code_of.specs.Table.{text_number}
use Rattle.golf_code_of.specs.declared.tables.Tables.{Tables}
use Rattle.golf_code_of.specs.Expressions.{Made}
use Rattle.golf_code_of.specs.Expressions as C
use Rattle.golf_code_of.specs.Calls.{ArgumentCode, call}
use Rattle.golf_code_of.specs.ExpressionCode.{Coded, CodedPut, coded, argument}
use Rattle.golf_code_of.proofs.Judgments.{agree}
use Rattle.golf_code_of.proofs.JudgeEquations.{element_judge, element-judge-is, judge_layer, judge-rolls}
use Rattle.golf_code_of.proofs.ExprCodes.{element_coded, element-coded-is, coded_layer, coded-rolls}
use Rattle.golf_code_shapes.specs.Sound.{ScopeFits, Shown}
use Rattle.golf_code_shapes.specs.Laws.{ExpressionFits, ExpressionsFit}
use Rattle.golf_code_shapes.proofs.Typings.{none-left, none-right}
use Rattle.golf_code_shapes.proofs.Turning.{turn-op}
use Rattle.golf_code_shapes.proofs.Names.{on-name}
use Rattle.golf_code_shapes.proofs.Operators.{on-unary, on-binary, on-index}
use Rattle.golf_code_shapes.proofs.Selectors.{on-selector}
use Rattle.golf_code_shapes.proofs.Literals.{Arg, judgeds, args-pieces, written-known, on-made, on-made-sized, on-sync}
use Rattle.golf_code_shapes.proofs.Literals.{on-new, on-struct-literal, on-slice-literal}
use Rattle.golf_code_shapes.proofs.CallShapes.{arguments, on-call}

-- a package in parentheses is no qualifier
parenthesised : (types : Types) (t : Tables) (ft : FunctionTypes) (A : List ℕ) (s : Scope) (m : Operand) (x : Made)
    → Shown types t ft A s.file m x → Shown types t ft A s.file (without_package m) x
parenthesised types t ft A s (operand.Package q) x h = tt
parenthesised types t ft A s operand.Unknown x h = absurd h
parenthesised types t ft A s _ x h = h

module _ (types : Types) (t : Tables) (ft : FunctionTypes) where
  abbrev P : Expr → Type 0
  P e = ExpressionFits types t ft (judge e) (coded t e).code

  abbrev judged : ExprLayer P → Judge
  judged y = judge_layer (bare_expr P y)

  abbrev made : ExprLayer P → ℕ → Scope → Made
  made y = (coded_layer t (bare_expr P y)).code

  module _ (l : ℕ) (s : Scope) (A : List ℕ) (ok : ScopeFits types t ft A s) where
    abbrev Sh : Operand → Made → Type 0
    Sh = Shown types t ft A s.file

    arg : KnownExpr P → Arg types t ft A s
    arg x = record { judged = judge x.0 l s; made = (coded t x.0).code l s; shows = x.1 l s A ok }

    abbrev args : List (KnownExpr P) → List (Arg types t ft A s)
    args xs = map arg xs

    js-are : (xs : List (KnownExpr P)) → judgeds types t ft A s (args xs) ≡ map (λ (j : Judge). j l s)
        (map judge (bare_exprs P xs))
    unfolding arg
    js-are [] = refl
    js-are (x ∷ xs) = ap (λ js. judge x.0 l s ∷ js) (js-are xs)

    pieces-are : (xs : List (KnownExpr P))
        → args-pieces types t ft A s (args xs) ≡ map (λ (c : Coded). (c.code l s).piece)
        (map (coded t) (bare_exprs P xs))
    unfolding arg
    pieces-are [] = refl
    pieces-are (x ∷ xs) = ap (λ ps. ((coded t x.0).code l s).piece ∷ ps) (pieces-are xs)

    argument_of : Expr → Judge → ArgumentCode
    argument_of e j = record { meaning = (j l s).meaning; piece = ((coded t e).code l s).piece }

    arguments-are : (xs : List (KnownExpr P))
        → arguments types t ft A s (args xs) ≡ map (argument l s) (map (coded t) (bare_exprs P xs))
    unfolding arg argument_of
    arguments-are [] = refl
    arguments-are (x ∷ xs) = ap (λ j. argument_of x.0 j ∷ arguments types t ft A s (args xs)) (sym (agree t x.0))
        ∙ ap (λ ys. argument l s (coded t x.0) ∷ ys) (arguments-are xs)

    -- elements of struct literals

    put : KnownElement P → Arg types t ft A s
    put x = record { judged = judge x.0.value l s; made = (coded t x.0.value).code l s; shows = x.1 l s A ok }

    abbrev puts : List (KnownElement P) → List (Arg types t ft A s)
    puts xs = map put xs

    names-are : (xs : List (KnownElement P))
        → map (λ (p : Put). p.name) (map element_judge (bare_elements P xs)) ≡ map
        (λ (p : KnownElement P). p.0.field) xs
    names-are [] = refl
    names-are (x ∷ xs) = ap (λ (p : Put). p.name ∷ map (λ (q : Put). q.name) (map element_judge (bare_elements P xs)))
        (element-judge-is x.0) ∙ ap (λ ns. x.0.field ∷ ns) (names-are xs)

    coded-names-are : (xs : List (KnownElement P))
        → map (λ (p : CodedPut). p.name) (map (element_coded t) (bare_elements P xs)) ≡ map
        (λ (p : KnownElement P). p.0.field) xs
    coded-names-are [] = refl
    coded-names-are (x ∷ xs) = ap (λ (p : CodedPut). p.name
        ∷ map (λ (q : CodedPut). q.name) (map (element_coded t) (bare_elements P xs))) (element-coded-is t x.0)
        ∙ ap (λ ns. x.0.field ∷ ns) (coded-names-are xs)

    put-js-are : (xs : List (KnownElement P))
        → map (λ (p : Put). p.judge l s) (map element_judge (bare_elements P xs)) ≡ judgeds types t ft A s (puts xs)
    unfolding put
    put-js-are [] = refl
    put-js-are (x ∷ xs) = ap (λ (p : Put). p.judge l s
        ∷ map (λ (q : Put). q.judge l s) (map element_judge (bare_elements P xs))) (element-judge-is x.0)
        ∙ ap (λ js. judge x.0.value l s ∷ js) (put-js-are xs)

    put-pieces-are : (xs : List (KnownElement P))
        → map (λ (p : CodedPut). (p.value.code l s).piece) (map (element_coded t) (bare_elements P xs))
        ≡ args-pieces types t ft A s (puts xs)
    unfolding put
    put-pieces-are [] = refl
    put-pieces-are (x ∷ xs) = ap (λ (p : CodedPut). (p.value.code l s).piece
        ∷ map (λ (q : CodedPut). (q.value.code l s).piece) (map (element_coded t) (bare_elements P xs)))
        (element-coded-is t x.0) ∙ ap (λ ps. ((coded t x.0.value).code l s).piece ∷ ps) (put-pieces-are xs)

    few : 0 < types.texts
    few = let f = ok.file.texts [] in omega (arith, f)

    at : (y : ExprLayer P) → (judged y l s).faults ≡ [] → Sh (judged y l s).meaning (made y l s)
    at (F.Integer digits) none = turn-op types ft A (Instr.Int (pos (value_from 0 digits))) l [] (ValueType.Int ∷ [])
        (λ full k ops g. (ops, refl, g))
    at (F.Text bytes) none = turn-op types ft A (Instr.Text (text_number t.texts bytes)) l [] (ValueType.Text ∷ [])
        (λ full k ops g. (ok.file.texts bytes, (ops, refl, g)))
    at (F.Name n) none = on-name types t ft A s l n ok none
    at (F.Parens x) none = parenthesised types t ft A s (judge x.0 l s).meaning ((coded t x.0).code l s)
        (x.1 l s A ok none)
    at (F.StructLiteral n xs) none =
        let b = pointer_to (meaning s n) in
        let names = map (λ (p : KnownElement P). p.0.field) xs in
        let clean = subst (λ js. (struct_literal l s.file b names js).faults ≡ []) (put-js-are xs)
        (subst (λ ns. (struct_literal l s.file b ns
        (map (λ (p : Put). p.judge l s) (map element_judge (bare_elements P xs)))).faults ≡ [])
        (names-are xs) none) in
        subst (λ ns. Sh (pointer_value b) (C.struct_literal l s.file b ns
        (map (λ (p : CodedPut). (p.value.code l s).piece) (map (element_coded t) (bare_elements P xs)))))
        (sym (coded-names-are xs))
        (subst (λ ps. Sh (pointer_value b) (C.struct_literal l s.file b names ps)) (sym (put-pieces-are xs))
        (on-struct-literal types t ft A s l n names (puts xs) ok clean))
    at (F.SyncLiteral n) none = on-sync types t ft A s l n none
    at (F.SliceLiteral w xs) none =
        let clean = subst (λ js. (slice_literal l (write w l s) (with_layer layer.Slice (write w l s).type) js).faults
        ≡ []) (sym (js-are xs)) none in
        subst (λ ps. Sh (operand.Value (with_layer layer.Slice (write w l s).type))
        (C.slice_literal l (with_layer layer.Slice (write w l s).type) ps)) (pieces-are xs)
        (on-slice-literal types t ft A s l (write w l s) (args xs) few (written-known w l s) clean)
    at F.EmptyLiteral none = turn-op types ft A Instr.Unit l [] (ValueType.EmptyStruct ∷ [])
        (λ full k ops g. (ops, refl, g))
    at (F.Make w) none = on-made types t ft A s l (write w l s) few (written-known w l s) none
    at (F.MakeSized w e) none =
        on-made-sized types t ft A s l (write w l s) (judge e.0 l s) ((coded t e.0).code l s) few
        (written-known w l s) none
        (e.1 l s A ok (none-left (judge e.0 l s).faults _
        (none-left (used l (judge e.0 l s)) _ (none-right (write w l s).faults _ none))))
    at (F.New n) none = on-new types t ft A s l n ok none
    at (F.NewSync n) none = on-sync types t ft A s l n none
    at (F.Selector e n) none =
        let j = judge e.0 l s in
        let c = (coded t e.0).code l s in
        subst (λ (w : Judge). Sh (selected_from l s.file n j.meaning).meaning
        (C.selector l (selected_from l s.file n (w l s).meaning).meaning c.piece)) (sym (agree t e.0))
        (on-selector types t ft A s ok.file l n j.meaning c (none-right j.faults _ none)
        (e.1 l s A ok (none-left j.faults _ none)))
    at (F.Index a i) none =
        let j = judge a.0 l s in
        let k = judge i.0 l s in
        on-index types t ft A s l j k ((coded t a.0).code l s) ((coded t i.0).code l s) none
        (a.1 l s A ok (none-left j.faults _ (none-left (used l j) _ none)))
        (i.1 l s A ok (none-left k.faults _ (none-left (used l k) _ (none-right (used l j) _ none))))
    at (F.Call f xs) none =
        let j = judge f.0 l s in
        let c = (coded t f.0).code l s in
        let js = map (λ (w : Judge). w l s) (map judge (bare_exprs P xs)) in
        let clean = subst (λ ks. (called_with l s j.meaning ks).faults ≡ []) (sym (js-are xs))
        (none-right (named_or_used l j) (called_with l s j.meaning js).faults none) in
        subst (λ (w : Judge). Sh (called_with l s j.meaning js).meaning
        (call l (w l s).meaning c.piece (map (argument l s) (map (coded t) (bare_exprs P xs))))) (sym (agree t f.0))
        (subst (λ ys. Sh (called_with l s j.meaning js).meaning (call l j.meaning c.piece ys)) (arguments-are xs)
        (subst (λ ks. Sh (called_with l s j.meaning ks).meaning
        (call l j.meaning c.piece (arguments types t ft A s (args xs)))) (js-are xs)
        (on-call types t ft A s l j.meaning c (args xs) clean
        (f.1 l s A ok (none-left j.faults _ (none-left (named_or_used l j) _ none))))))
    at (F.Unary o e) none =
        let j = judge e.0 l s in
        on-unary types t ft A s l o j ((coded t e.0).code l s) none
        (e.1 l s A ok (none-left j.faults _ (none-left (used l j) _ none)))
    at (F.Binary o a b) none =
        let j = judge a.0 l s in
        let k = judge b.0 l s in
        on-binary types t ft A s l o j k ((coded t a.0).code l s) ((coded t b.0).code l s) none
        (a.1 l s A ok (none-left j.faults _ (none-left (used l j) _ none)))
        (b.1 l s A ok (none-left k.faults _ (none-left (used l k) _ (none-right (used l j) _ none))))

  rolled : (y : ExprLayer P) → P (roll-Expr (bare_expr P y))
  rolled y = subst (λ (j : Judge). ExpressionFits types t ft j (coded t (roll-Expr (bare_expr P y))).code)
      (sym (judge-rolls (bare_expr P y)))
      (subst (λ (c : Coded). ExpressionFits types t ft (judged y) c.code) (sym (coded-rolls t (bare_expr P y)))
      (λ l s A ok none. at l s A ok y none))

  pub fits : (e : Expr) → P e
  fits = every-expr P rolled

pub expressions-fit : ExpressionsFit
expressions-fit types t ft e = fits types t ft e
