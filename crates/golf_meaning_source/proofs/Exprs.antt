-- The code of every expression does what the expression does.
-- For: `expressions_mean`, src/lib.rt
-- By: one step for each kind of expression, and an induction over the tree of an expression
use Rattle.std.proofs.Common.{◌≡◌, ℕ, pos, List, [], ◌∷◌, map, refl, ap, sym, ◌∙◌, subst}
use Rattle.golf_data.specs.declared.value.Value.{Value}
use Rattle.golf_data.specs.declared.code.Instr.{Instr}
use Rattle.golf_syntax_trees.specs.declared.expressions.Expr.{Expr, roll-Expr}
use Rattle.golf_syntax_trees.specs.declared.expressions.Expr.TheOpen as F
use Rattle.golf_syntax_trees.proofs.ExpressionInduction.{KnownExpr, KnownElement, bare_exprs, bare_elements, ExprLayer}
use Rattle.golf_syntax_trees.proofs.ExpressionInduction.{bare_expr, every-expr}
use Rattle.golf_check_types.specs.declared.types.Base.{Base}
use Rattle.golf_check_types.specs.declared.scopes.Scope.{Scope}
use Rattle.golf_check_types.specs.declared.types.Layer.TheVariants as layer
use Rattle.golf_check_types.specs.Types.{with_layer}
use Rattle.golf_check_types.specs.Names.{is_blank}
use Rattle.golf_check_types.specs.Scopes.{meaning}
use Rattle.golf_check_types.specs.Written.{write, pointer_to, made_base}
use Rattle.golf_check_types.specs.Expressions.{value_from, selected_from, unary_judged, index_judged, struct_of}
use Rattle.golf_check_types.specs.Calls.{call_judged}
use Rattle.golf_check_types.specs.Judgments.{Judge}
use Rattle.golf_code_layout.specs.Piece.{Piece, op}
use Rattle.golf_code_of.specs.Table.{text_number}
use Rattle.golf_code_of.specs.declared.tables.Tables.{Tables}
use Rattle.golf_code_of.specs.Expressions.{Made}
use Rattle.golf_code_of.specs.Expressions as C
use Rattle.golf_code_of.specs.Calls as K
use Rattle.golf_code_of.specs.ExpressionCode as G
use Rattle.golf_code_of.specs.ExpressionCode.{Coded, CodedPut, coded}
use Rattle.golf_code_of.proofs.Judgments.{agree}
use Rattle.golf_code_of.proofs.ExprCodes.{element_coded, element-coded-is, coded_layer, coded-rolls}
use Rattle.golf_meaning_source.specs.Names.{Env}
use Rattle.golf_meaning_source.specs.Operations.{Taking, Gives}
use Rattle.golf_meaning_source.specs.Exprs as X
use Rattle.golf_meaning_source.specs.ExpressionMeaning as M
use Rattle.golf_meaning_source.specs.ExpressionMeaning.{Meant, MeantPut, meant, outer}
use Rattle.golf_meaning_source.specs.Does.{Turns, Known}
use Rattle.golf_meaning_source.specs.Laws.{ExpressionMeans, ExpressionsMean}
use Rattle.golf_meaning_source.proofs.Turning.{turn-none, turn-after, turn-visible, turn-pair}
use Rattle.golf_meaning_source.proofs.Places.{matches-only, matches-element}
use Rattle.golf_meaning_source.proofs.Constructs.{turn-puts, AllTurn, turn-made, turn-made-sized, turn-slice}
use Rattle.golf_meaning_source.proofs.Constructs.{turn-unary-operator, turn-binary, AllArguments, turn-call}
use Rattle.golf_meaning_source.proofs.Constructs.{MatchesDoes, matches-selector, matches-sync, matches-name}
use Rattle.golf_meaning_source.proofs.Meanings as A
use Rattle.golf_meaning_source.proofs.Meanings.{element_meant, element-meant-is, meant_layer, meant-rolls}

module _ (taking : Taking) where
  module _ (t : Tables) where
    -- both know the same of an expression
    judges : (e : Expr) → (meant taking t e).judge ≡ (coded t e).judge
    judges e = A.agree taking t e ∙ sym (agree t e)

    abbrev P : Expr → Type 0
    P e = ExpressionMeans taking (meant taking t e).does (coded t e).code

    abbrev does : ExprLayer P → ℕ → Scope → X.Does
    does y = (meant_layer taking t (bare_expr P y)).does

    abbrev made : ExprLayer P → ℕ → Scope → Made
    made y = (coded_layer t (bare_expr P y)).code

    module _ (l : ℕ) (s : Scope) (env : Env) (slots : List Value) (ok : Known s.locals s.next env slots) where
      abbrev Means : X.Does → Made → Type 0
      Means = MatchesDoes taking slots s.locals env

      abbrev T : Piece → List Value → Gives → Type 0
      T = Turns taking slots

      abbrev code_of : KnownExpr P → Piece
      code_of x = ((coded t x.0).code l s).piece

      abbrev value_of : KnownExpr P → Gives
      value_of x = ((meant taking t x.0).does l s).value env

      abbrev codes_of : List (KnownExpr P) → List Piece
      codes_of xs = map (λ (c : Coded). (c.code l s).piece) (map (coded t) (bare_exprs P xs))

      abbrev values_of : List (KnownExpr P) → List Gives
      values_of xs = map (λ (m : Meant). (m.does l s).value env) (map (meant taking t) (bare_exprs P xs))

      -- the value of a part
      turns : (x : KnownExpr P) → T ((coded t x.0).code l s).piece [] (((meant taking t x.0).does l s).value env)
      turns x = (x.1 l s env slots ok).value_turns

      all-turn : (xs : List (KnownExpr P)) → AllTurn taking slots
          (map (λ (c : Coded). (c.code l s).piece) (map (coded t) (bare_exprs P xs)))
          (map (λ (m : Meant). (m.does l s).value env) (map (meant taking t) (bare_exprs P xs)))
      all-turn [] = tt
      all-turn (x ∷ xs) = (turns x, all-turn xs)

      all-arguments : (xs : List (KnownExpr P))
          → AllArguments taking slots (map (M.argument l s env) (map (meant taking t) (bare_exprs P xs)))
          (map (G.argument l s) (map (coded t) (bare_exprs P xs)))
      all-arguments [] = tt
      all-arguments (x ∷ xs) = (ap (λ (j : Judge). (j l s).meaning) (judges x.0), turns x, all-arguments xs)

      all-puts : (b : Rattle.std.specs.Prelude.Option Base) (xs : List (KnownElement P)) (p : List Value)
          → T (C.puts l s.file b (map (λ (c : CodedPut). c.name) (map (element_coded t) (bare_elements P xs)))
          (map (λ (c : CodedPut). (c.value.code l s).piece) (map (element_coded t) (bare_elements P xs)))) p
          (X.puts taking s.file b (map (λ (m : MeantPut). m.name) (map (element_meant taking t) (bare_elements P xs)))
          (map (λ (m : MeantPut). (m.value.does l s).value env) (map (element_meant taking t) (bare_elements P xs)))
          p)
      all-puts b [] p = turn-none taking slots p
      all-puts b (x ∷ xs) p =
          let ns = map (λ (c : CodedPut). c.name) (map (element_coded t) (bare_elements P xs)) in
          let es = map (λ (c : CodedPut). (c.value.code l s).piece) (map (element_coded t) (bare_elements P xs)) in
          let ms = map (λ (m : MeantPut). m.name) (map (element_meant taking t) (bare_elements P xs)) in
          let gs = map (λ (m : MeantPut). (m.value.does l s).value env)
          (map (element_meant taking t) (bare_elements P xs)) in
          subst (λ (c : CodedPut). T (C.puts l s.file b (c.name ∷ ns) ((c.value.code l s).piece ∷ es)) p
          (X.puts taking s.file b ((element_meant taking t x.0).name ∷ ms)
          (((element_meant taking t x.0).value.does l s).value env ∷ gs) p)) (sym (element-coded-is t x.0))
          (subst (λ (m : MeantPut). T (C.puts l s.file b (x.0.field ∷ ns) (((coded t x.0.value).code l s).piece ∷ es)) p
          (X.puts taking s.file b (m.name ∷ ms) ((m.value.does l s).value env ∷ gs) p))
          (sym (element-meant-is taking t x.0))
          (same-names ns ms es gs (all-puts b xs)))
        where
          same-names : (ns ms : List (List ℕ)) (es : List Piece) (gs : List Gives)
              → ((q : List Value) → T (C.puts l s.file b ns es) q (X.puts taking s.file b ms gs q))
              → T (C.puts l s.file b (x.0.field ∷ ns) (((coded t x.0.value).code l s).piece ∷ es)) p
              (X.puts taking s.file b (x.0.field ∷ ms) (((meant taking t x.0.value).does l s).value env ∷ gs) p)
          same-names ns ms es gs h = turn-puts taking slots l s.file b x.0.field ((coded t x.0.value).code l s).piece
              (((meant taking t x.0.value).does l s).value env) p ((x.1 l s env slots ok).value_turns)
              (record { names = ns; meant_names = ms; pieces = es; values = gs; turn = h })

      only : (p : Piece) (f : Env → Gives) → T p [] (f env) → Means (X.only f) (C.only p)
      only p f h = matches-only taking slots s.locals env p (f env) h

      at : (y : ExprLayer P) → Means (does y l s) (made y l s)
      unfolding meaning
      at (F.Integer digits) = only (op l (Instr.Int (pos (value_from 0 digits))))
          (X.constant_gives (X.int_value (value_from 0 digits) ∷ [])) (λ n at ts rest w. refl)
      at (F.Text bytes) = only (op l (Instr.Text (text_number t.texts bytes)))
          (X.constant_gives (Value.Text (text_number t.texts bytes) ∷ [])) (λ n at ts rest w. refl)
      at (F.Name n) = matches-name taking slots s.locals env t l s.next s.initialises n (is_blank n) (outer s n) ok
      at (F.Parens x) = x.1 l s env slots ok
      at (F.StructLiteral n xs) =
          let b = pointer_to (meaning s n) in
          only (made (F.StructLiteral n xs) l s).piece (does (F.StructLiteral n xs) l s).value
          (turn-after taking slots (op l (Instr.NewStruct (struct_of b)))
          (C.puts l s.file b (map (λ (c : CodedPut). c.name) (map (element_coded t) (bare_elements P xs)))
          (map (λ (c : CodedPut). (c.value.code l s).piece) (map (element_coded t) (bare_elements P xs))))
          (X.new_struct taking b) (X.puts taking s.file b
          (map (λ (m : MeantPut). m.name) (map (element_meant taking t) (bare_elements P xs)))
          (map (λ (m : MeantPut). (m.value.does l s).value env)
          (map (element_meant taking t) (bare_elements P xs))))
          (turn-visible taking slots l (Instr.NewStruct (struct_of b)) (X.pointer_type b) [] refl) (all-puts b xs))
      at (F.SyncLiteral n) = matches-sync taking slots s.locals env l (made_base n)
      at (F.SliceLiteral w xs) = only (made (F.SliceLiteral w xs) l s).piece (does (F.SliceLiteral w xs) l s).value
          (turn-slice taking slots l (with_layer layer.Slice (write w l s).type) (codes_of xs) (values_of xs)
          (all-turn xs))
      at F.EmptyLiteral = only (op l Instr.Unit) (X.constant_gives (Value.Unit ∷ [])) (λ n at ts rest w. refl)
      at (F.Make w) = only (made (F.Make w) l s).piece (does (F.Make w) l s).value
          (turn-made taking slots l (write w l s).type)
      at (F.MakeSized w e) = only (made (F.MakeSized w e) l s).piece (does (F.MakeSized w e) l s).value
          (turn-made-sized taking slots l (write w l s).type (code_of e) (value_of e) (turns e))
      at (F.New n) = only (op l (Instr.NewStruct (struct_of (pointer_to (meaning s n)))))
          (λ env. X.new_struct taking (pointer_to (meaning s n)))
          (turn-visible taking slots l (Instr.NewStruct (struct_of (pointer_to (meaning s n))))
          (X.pointer_type (pointer_to (meaning s n))) [] refl)
      at (F.NewSync n) = matches-sync taking slots s.locals env l (made_base n)
      at (F.Selector e n) =
          subst (λ (j : Judge). Means (does (F.Selector e n) l s)
          (C.selector l (selected_from l s.file n (j l s).meaning).meaning ((coded t e.0).code l s).piece))
          (judges e.0)
          (matches-selector taking slots s.locals env l s.next
          (selected_from l s.file n ((meant taking t e.0).judge l s).meaning).meaning ((coded t e.0).code l s).piece
          (λ env. ((meant taking t e.0).does l s).value env) ok (turns e))
      at (F.Index a i) = matches-element taking slots s.locals env l
          (X.element_type (index_judged l ((meant taking t a.0).judge l s) ((meant taking t i.0).judge l s)).meaning)
          (Rattle.golf_code_layout.specs.Piece.all (code_of a ∷ code_of i ∷ []))
          (Rattle.golf_meaning_source.specs.Operations.both (value_of a) (value_of i))
          (turn-pair taking slots (code_of a) (code_of i) (value_of a) (value_of i) (turns a) (turns i)) ok.stored
      at (F.Call f xs) =
          subst (λ (j : Judge). Means (does (F.Call f xs) l s)
          (K.call l (j l s).meaning ((coded t f.0).code l s).piece
          (map (G.argument l s) (map (coded t) (bare_exprs P xs))))) (judges f.0)
          (only (K.call l ((meant taking t f.0).judge l s).meaning ((coded t f.0).code l s).piece
          (map (G.argument l s) (map (coded t) (bare_exprs P xs)))).piece (does (F.Call f xs) l s).value
          (turn-call taking slots l ((meant taking t f.0).judge l s).meaning
          (call_judged l s ((meant taking t f.0).judge l s)
          (map (λ (x : Meant). x.judge l s) (map (meant taking t) (bare_exprs P xs)))).meaning
          ((coded t f.0).code l s).piece (((meant taking t f.0).does l s).value env)
          (map (M.argument l s env) (map (meant taking t) (bare_exprs P xs)))
          (map (G.argument l s) (map (coded t) (bare_exprs P xs))) (turns f) (all-arguments xs)))
      at (F.Unary o e) = only (made (F.Unary o e) l s).piece (does (F.Unary o e) l s).value
          (turn-unary-operator taking slots l o (unary_judged l s o ((meant taking t e.0).judge l s)).meaning
          (code_of e) (value_of e) (turns e))
      at (F.Binary o a b) = only (made (F.Binary o a b) l s).piece (does (F.Binary o a b) l s).value
          (turn-binary taking slots l o (code_of a) (code_of b) (value_of a) (value_of b) (turns a) (turns b))

    rolled : (y : ExprLayer P) → P (roll-Expr (bare_expr P y))
    rolled y = subst (λ (m : Meant). ExpressionMeans taking m.does (coded t (roll-Expr (bare_expr P y))).code)
        (sym (meant-rolls taking t (bare_expr P y)))
        (subst (λ (c : Coded). ExpressionMeans taking (does y) c.code) (sym (coded-rolls t (bare_expr P y)))
        (λ l s env slots ok. at l s env slots ok y))

    pub means : (e : Expr) → P e
    means = every-expr P rolled

  pub expressions-mean : ExpressionsMean taking
  expressions-mean t e = means t e
