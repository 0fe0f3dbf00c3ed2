-- A variable is read exactly if it is printed.
-- For: `var_at` (golf_syntax_statements/specs/VariableReader.antt) and `var_at` (src/variables.rt)
-- By: cases of the content, with or without a type; no induction
use Rattle.std.proofs.Common.{◌≡◌, true, false, List, ◌∷◌, refl, ap, subst, ◌∙◌}
use Rattle.std.specs.Prelude.{Option, Some, None}
use Rattle.golf_lex_tokens.specs.declared.token.Token.{Token}
use Rattle.golf_lex_tokens.specs.declared.token.TokenKind.TheVariants as kinds
use Rattle.golf_lex_tokens.specs.declared.token.Punctuation.TheVariants as punctuations
use Rattle.golf_lex_tokens.specs.declared.token.Keyword.TheVariants as keywords
use Rattle.golf_syntax_trees.specs.declared.types.TypeExpr.{TypeExpr}
use Rattle.golf_syntax_trees.specs.declared.statements.Var.{Var}
use Rattle.golf_syntax_trees.specs.declared.statements.VarContent.{VarContent}
use Rattle.golf_syntax_trees.specs.declared.statements.VarContent.TheVariants as content
use Rattle.golf_syntax_trees.specs.Words as words
use Rattle.golf_syntax_trees.specs.Types.{print_type, type_form}
use Rattle.golf_syntax_trees.specs.Expressions.{print_expr, form}
use Rattle.golf_syntax_trees.specs.Simple.{print_content, print_var, content_good}
use Rattle.golf_syntax_expressions.specs.Plan.{◌>>=◌}
use Rattle.golf_syntax_expressions.specs.Front.{after, name_at}
use Rattle.golf_syntax_expressions.specs.TypeReader.{type_at, OfType}
use Rattle.golf_syntax_expressions.specs.ExpressionReader.{Level, expr_at}
use Rattle.golf_syntax_expressions.proofs.Plans.{bind_some}
use Rattle.golf_syntax_expressions.proofs.Fronts.{some-same, both, and-true, Spelt, kind-then, punctuation-then}
use Rattle.golf_syntax_expressions.proofs.Fronts.{name-then, join, split, behind-punctuation, behind-name, not-after}
use Rattle.golf_syntax_expressions.proofs.TypeLaws.{IsType, type-sound, type-complete}
use Rattle.golf_syntax_expressions.proofs.ExprFronts.{then}
use Rattle.golf_syntax_expressions.proofs.ExprSound.{expr-sound}
use Rattle.golf_syntax_expressions.proofs.ExprComplete.{expr-complete}
use Rattle.golf_syntax_expressions.proofs.SimpleLines.{on-line-then}
use Rattle.golf_syntax_statements.specs.VariableReader.{typed_by, untyped, content_by, content_at, var_at}
use Rattle.golf_syntax_statements.proofs.Nothing.{Stops, no-type}

-- a well-formed content in these tokens, up to those that are left
pub record IsContent (ts : List Token) (x : VarContent × List Token) : Type 0 where
  pub words : Spelt (print_content x.0) ts x.1
  pub good : content_good x.0 ≡ true

typed-sound : (ts : List Token) (t : TypeExpr) (us : List Token) (x : VarContent × List Token) → IsType ts (t, us)
    → (o : Option (List Token)) → after punctuations.Assign us ≡ o → typed_by t us o ≡ Some x → IsContent ts x
typed-sound ts t us x k None q e = subst (IsContent ts) (some-same (content.Zero t, us) x e)
    (record { words = k.words; good = k.good })
typed-sound ts t us x k (Some vs) q e =
    let b = bind_some (expr_at (Level false 1) vs) (λ v. Some (content.Typed t v.0, v.1)) x e in
    let v = expr-sound false vs b.0 b.1 in
    subst (IsContent ts) (some-same (content.Typed t b.0.0, b.0.1) x b.2)
    (record {
      words = join k.words (punctuation-then punctuations.Assign us q v.words);
      good = and-true (type_form t).good (form b.0.0).good k.good v.good;
    })

untyped-sound : (ts : List Token) (x : VarContent × List Token) → untyped ts ≡ Some x → IsContent ts x
untyped-sound ts x e =
    let a = bind_some (after punctuations.Assign ts)
    (λ us. expr_at (Level false 1) us >>= λ v. Some (content.Untyped v.0, v.1)) x e in
    let b = bind_some (expr_at (Level false 1) a.0) (λ v. Some (content.Untyped v.0, v.1)) x a.2 in
    let v = expr-sound false a.0 b.0 b.1 in
    subst (IsContent ts) (some-same (content.Untyped b.0.0, b.0.1) x b.2)
    (record { words = punctuation-then punctuations.Assign ts a.1 v.words; good = v.good })

pub content-sound : (ts : List Token) (x : VarContent × List Token) → content_at ts ≡ Some x → IsContent ts x
unfolding content_at
content-sound ts x e = at (type_at OfType ts) refl e
  where
    at : (o : Option (TypeExpr × List Token)) → type_at OfType ts ≡ o → content_by ts o ≡ Some x → IsContent ts x
    at None q f = untyped-sound ts x f
    at (Some t) q f = typed-sound ts t.0 t.1 x (type-sound ts t q) (after punctuations.Assign t.1) refl f

-- what is read after the word is a variable on its line
pub record IsVar (t : Token) (ts : List Token) (x : Var × List Token) : Type 0 where
  pub words : Spelt (print_var x.0) (t ∷ ts) x.1
  pub good : content_good x.0.content ≡ true

pub var-sound : (t : Token) (ts : List Token) (x : Var × List Token) → t.kind ≡ kinds.Keyword keywords.Var
    → var_at t.line ts ≡ Some x → IsVar t ts x
unfolding var_at
var-sound t ts x is e =
    let a = bind_some (name_at ts) (λ n. content_at n.1 >>= λ c. Some
    (record { line = t.line; name = n.0; content = c.0 }, c.1)) x e in
    let b = bind_some (content_at a.0.1) (λ c. Some (record { line = t.line; name = a.0.0; content = c.0 }, c.1)) x
    a.2 in
    let k = content-sound a.0.1 b.0 b.1 in
    subst (IsVar t ts) (some-same (record { line = t.line; name = a.0.0; content = b.0.0 }, b.0.1) x b.2)
    (record { words = on-line-then _ t ts b.0.1 (kind-then t _ is (name-then a.0.0 ts a.1 k.words)); good = k.good })

-- a variable that is printed is read, before what ends statements
pub content-complete : (c : VarContent) (ts rest : List Token) → content_good c ≡ true → Spelt (print_content c) ts rest
    → Stops rest → content_at ts ≡ Some (c, rest)
unfolding content_at
content-complete (content.Zero t) ts rest good h s = ap (content_by ts) (type-complete t good ts rest h s.dot)
    ∙ ap (typed_by t rest) s.assign
content-complete (content.Typed t v) ts rest good h s =
    let g = both (type_form t).good (form v).good good in
    let w = split (print_type t) (words.punctuation punctuations.Assign ∷ print_expr v) h in
    let a = behind-punctuation punctuations.Assign w.2 in
    ap (content_by ts) (type-complete t g.0 ts w.0 w.1
    (not-after punctuations.Dot (kinds.Punctuation punctuations.Assign) (λ us. refl) w.2))
    ∙ ap (typed_by t w.0) a.1
    ∙ then (λ v. Some (content.Typed t v.0, v.1)) (expr_at (Level false 1) a.0) (v, rest)
    (expr-complete v false a.0 rest (record { good = g.1; clear = refl; spelt = a.2 }) s.ends.quiet)
content-complete (content.Untyped v) ts rest good h s =
    let a = behind-punctuation punctuations.Assign h in
    ap (content_by ts) (no-type h)
    ∙ then (λ us. expr_at (Level false 1) us >>= λ v. Some (content.Untyped v.0, v.1))
    (after punctuations.Assign ts) a.0 a.1
    ∙ then (λ v. Some (content.Untyped v.0, v.1)) (expr_at (Level false 1) a.0) (v, rest)
    (expr-complete v false a.0 rest (record { good = good; clear = refl; spelt = a.2 }) s.ends.quiet)

pub var-complete : (v : Var) (ts rest : List Token) → content_good v.content ≡ true
    → Spelt (words.name v.name ∷ print_content v.content) ts rest → Stops rest → var_at v.line ts ≡ Some (v, rest)
unfolding var_at
var-complete v ts rest good h s =
    let n = behind-name v.name h in
    then (λ n. content_at n.1 >>= λ c. Some (record { line = v.line; name = n.0; content = c.0 }, c.1)) (name_at ts)
    (v.name, n.0) n.1
    ∙ then (λ c. Some (record { line = v.line; name = v.name; content = c.0 }, c.1)) (content_at n.0) (v.content, rest)
    (content-complete v.content n.0 rest good n.2 s)
