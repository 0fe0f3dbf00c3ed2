-- An expression that is printed is read.
-- For: `expr_at`, golf_syntax_expressions/specs/ExpressionReader.antt; the law `expressions_read`, src/laws.rt.
-- By: induction over the tree of an expression, and over the list of its arguments, items or fields.
use Rattle.std.proofs.Common.{◌≡◌, ℕ, suc, ◌≤◌, ◌<◌, Bool, true, false, not, ◌&&◌, ◌||◌, cond, List, [], ◌∷◌, ◌++◌, map}
use Rattle.std.proofs.Common.{refl, ap, sym, subst, ◌∙◌, append_assoc, arith}
use Rattle.std.proofs.lemmas.Bool.{not-true}
use Rattle.std.specs.Prelude.{Option, Some, None, nat_le, nat_lt}
use Rattle.std.specs.Str.{bytes_eq}
use Rattle.std.specs.List.{list_all}
use Rattle.std.proofs.lemmas.Bool.Decides.{nat_tests}
use Rattle.golf_lex_tokens.specs.declared.token.Token.{Token}
use Rattle.golf_lex_tokens.specs.declared.token.TokenKind.TheVariants as kinds
use Rattle.golf_lex_tokens.specs.declared.token.Punctuation.{Punctuation}
use Rattle.golf_lex_tokens.specs.declared.token.Punctuation.TheVariants as punctuations
use Rattle.golf_lex_tokens.specs.declared.token.Keyword.TheVariants as keywords
use Rattle.golf_syntax_trees.specs.declared.types.TypeExpr.{TypeExpr}
use Rattle.golf_syntax_trees.specs.declared.expressions.UnaryOperator.{UnaryOperator}
use Rattle.golf_syntax_trees.specs.declared.expressions.BinaryOperator.{BinaryOperator}
use Rattle.golf_syntax_trees.specs.declared.expressions.Expr.{Expr}
use Rattle.golf_syntax_trees.specs.declared.expressions.Expr.TheVariants as ex
use Rattle.golf_syntax_trees.specs.declared.expressions.Element.{Element}
use Rattle.golf_syntax_trees.specs.Words as words
use Rattle.golf_syntax_trees.specs.Words.{Word, separated, behind}
use Rattle.golf_syntax_trees.specs.Types.{sync, print_type, type_form}
use Rattle.golf_syntax_trees.specs.Expressions.{make, new, binds, binary_punctuation, print_expr, print_element, Form}
use Rattle.golf_syntax_trees.specs.Expressions.{form, element_form, all_good}
use Rattle.golf_syntax_expressions.specs.declared.starts.Start.{Start}
use Rattle.golf_syntax_expressions.specs.declared.starts.Start.TheVariants as starts
use Rattle.golf_syntax_expressions.specs.declared.starts.Suffix.{Suffix}
use Rattle.golf_syntax_expressions.specs.declared.starts.Suffix.TheVariants as suffixes
use Rattle.golf_syntax_expressions.specs.Plan.{◌>>=◌}
use Rattle.golf_syntax_expressions.specs.Front.{after, name_at}
use Rattle.golf_syntax_expressions.specs.Operators.{unary_at}
use Rattle.golf_syntax_expressions.specs.Starts.{whole, make_behind, make_start, new_behind, new_start, empty_start}
use Rattle.golf_syntax_expressions.specs.Starts.{slice_behind, slice_start, sync_start, struct_behind, literal_behind}
use Rattle.golf_syntax_expressions.specs.Starts.{literal_start, punctuation_start, named_start, start_from, start_at}
use Rattle.golf_syntax_expressions.specs.Starts.{call_behind, call_at, no_field, suffix_by, suffix_at}
use Rattle.golf_syntax_expressions.specs.ExpressionReader.{Extend, Suffixes, Prefixed, Level, Climb, Items, Elements}
use Rattle.golf_syntax_expressions.specs.ExpressionReader.{element, expr_at}
use Rattle.golf_syntax_expressions.proofs.Fronts.{both, Spelt, nothing, punctuation-then, split, ends}
use Rattle.golf_syntax_expressions.proofs.Fronts.{behind-punctuation, behind-name, not-after}
use Rattle.golf_syntax_expressions.proofs.TypeLaws.{type-complete}
use Rattle.golf_syntax_expressions.proofs.ExprShapes as shape
use Rattle.golf_syntax_expressions.proofs.ExprSteps.{inside_by, finish_by, expr-Finish, extend_by, expr-Extend}
use Rattle.golf_syntax_expressions.proofs.ExprSteps.{suffixes_by, expr-Suffixes, begun_by, prefixed_by, expr-Prefixed}
use Rattle.golf_syntax_expressions.proofs.ExprSteps.{expr-Level, grown_by, climb_by, expr-Climb, items_by, expr-Items}
use Rattle.golf_syntax_expressions.proofs.ExprSteps.{elements_by, expr-Elements}
use Rattle.golf_syntax_expressions.proofs.ExprFronts.{unary_behind, le-true, true-le, tight, head, binds-some, Quiet}
use Rattle.golf_syntax_expressions.proofs.ExprFronts.{quiet, quiet-head, operator-first, prefix-first, start-first}
use Rattle.golf_syntax_expressions.proofs.ExprFronts.{climb-stops, then}

-- a well-formed expression in these tokens, up to those that are left; in a header none of its operands outside
-- brackets begins with `&`
pub record Stands (header : Bool) (e : Expr) (ts rest : List Token) : Type 0 where
  pub good : (form e).good ≡ true
  pub clear : (header && (form e).ampersand) ≡ false
  pub spelt : Spelt (print_expr e) ts rest

pub record IsRead (e : Expr) : Type 0 where
  pub primary : (form e).top ≡ 7 → (header : Bool) (ts rest : List Token) → Stands header e ts rest
      → (unary_at ts ≡ None) × (begun_by (start_at header ts) ≡ expr_at (Suffixes e) rest)
  pub prefixed : 6 ≤ (form e).top → (header : Bool) (ts rest : List Token) → Stands header e ts rest
      → suffix_at rest ≡ None → expr_at (Prefixed header) ts ≡ Some (e, rest)
  pub level : (header : Bool) (l : ℕ) (ts rest : List Token) → Stands header e ts rest → l ≤ (form e).top
      → suffix_at rest ≡ None → head rest ≤ (form e).top → expr_at (Level header l) ts ≡ expr_at (Climb header l e) rest

level-by : (e : Expr) (header : Bool) (l : ℕ) (ts rest : List Token) → expr_at (Prefixed header) ts ≡ Some (e, rest)
    → expr_at (Level header l) ts ≡ expr_at (Climb header l e) rest
level-by e header l ts rest p = expr-Level header l ts
    ∙ then (λ x. expr_at (Climb header l x.0) x.1) (expr_at (Prefixed header) ts) (e, rest) p

by-prefixed : (e : Expr) → (form e).top ≡ 6
    → ((header : Bool) (ts rest : List Token) → Stands header e ts rest → suffix_at rest ≡ None
    → expr_at (Prefixed header) ts ≡ Some (e, rest)) → IsRead e
by-prefixed e top k = record {
  primary = λ is. absurd (omega (arith, top, is));
  prefixed = λ le header ts rest s q. k header ts rest s q;
  level = λ header l ts rest s le q hd. level-by e header l ts rest (k header ts rest s q);
}

by-primary : (e : Expr) → ((header : Bool) (ts rest : List Token) → Stands header e ts rest → (unary_at ts ≡ None)
    × (begun_by (start_at header ts) ≡ expr_at (Suffixes e) rest)) → IsRead e
by-primary e k = record {
  primary = λ is. k;
  prefixed = λ le. at;
  level = λ header l ts rest s le q hd. level-by e header l ts rest (at header ts rest s q);
}
  where
    at : (header : Bool) (ts rest : List Token) → Stands header e ts rest → suffix_at rest ≡ None
        → expr_at (Prefixed header) ts ≡ Some (e, rest)
    at header ts rest s q =
        let p = k header ts rest s in
        expr-Prefixed header ts ∙ ap (prefixed_by header ts) p.0 ∙ p.1 ∙ expr-Suffixes e rest
        ∙ ap (suffixes_by e rest) q

-- an operand that stands there whole
by-whole : (e : Expr) (ws : List Word) (f : Form) → print_expr e ≡ ws → form e ≡ f →
    ((header : Bool) (ts rest : List Token) → f.good ≡ true → (header && f.ampersand) ≡ false → Spelt ws ts rest
    → (unary_at ts ≡ None) × (start_at header ts ≡ Some (starts.Whole e, rest))) → IsRead e
by-whole e ws f p q k = by-primary e (λ header ts rest s.
    let r = k header ts rest (sym (ap (λ (f : Form). f.good) q) ∙ s.good)
    (ap (λ (g : Form). header && g.ampersand) (sym q) ∙ s.clear) (subst (λ vs. Spelt vs ts rest) p s.spelt) in
    (r.0, ap begun_by r.1 ∙ ap (λ o. o >>= λ x. expr_at (Suffixes x.0) x.1) (expr-Finish (starts.Whole e) rest)))

-- an operand whose brackets are read
by-start : (e : Expr) (ws : List Word) (f : Form) → print_expr e ≡ ws → form e ≡ f →
    ((header : Bool) (ts rest : List Token) → f.good ≡ true → (header && f.ampersand) ≡ false → Spelt ws ts rest
    → (unary_at ts ≡ None) × (s : Start) × (us : List Token) × (start_at header ts ≡ Some (s, us))
    × (finish_by s us ≡ Some (e, rest))) → IsRead e
by-start e ws f p q k = by-primary e (λ header ts rest s.
    let r = k header ts rest (sym (ap (λ (f : Form). f.good) q) ∙ s.good)
    (ap (λ (g : Form). header && g.ampersand) (sym q) ∙ s.clear) (subst (λ vs. Spelt vs ts rest) p s.spelt) in
    (r.0, ap begun_by r.3 ∙ ap (λ o. o >>= λ x. expr_at (Suffixes x.0) x.1) (expr-Finish r.1 r.2 ∙ r.4)))

integer : (digits : List ℕ) → IsRead (ex.Integer digits)
unfolding start_from
integer digits = by-whole (ex.Integer digits) _ _ (shape.print-Integer digits) (shape.form-Integer digits)
    (λ header ts rest good clear h.
    let f = start-first header (kinds.Integer digits)
    h in (f.2, f.1 ∙ ap (λ us. whole (ex.Integer digits) us) (ends f.3)))

text : (bytes : List ℕ) → IsRead (ex.Text bytes)
unfolding start_from
text bytes = by-whole (ex.Text bytes) _ _ (shape.print-Text bytes) (shape.form-Text bytes)
    (λ header ts rest good clear h.
    let f = start-first header (kinds.Text bytes) h in (f.2, f.1 ∙ ap (λ us. whole (ex.Text bytes) us) (ends f.3)))

named : (n : List ℕ) → IsRead (ex.Name n)
unfolding start_from named_start
named n = by-whole (ex.Name n) _ _ (shape.print-Name n) (shape.form-Name n) (λ header ts rest good clear h.
    let f = start-first header (kinds.Name n) h in
    let g = both (not (bytes_eq n make)) (not (bytes_eq n new)) good in (
      f.2,
      f.1
          ∙ ap (λ b. cond b (make_start f.0) (cond (bytes_eq n new) (new_start f.0) (whole (ex.Name n) f.0)))
          (not-true (bytes_eq n make) g.0)
          ∙ ap (λ b. cond b (new_start f.0) (whole (ex.Name n) f.0)) (not-true (bytes_eq n new) g.1)
          ∙ ap (λ us. whole (ex.Name n) us) (ends f.3),
    ))

made : (t : TypeExpr) → IsRead (ex.Make t)
unfolding start_from named_start make_start
made t = by-whole (ex.Make t) _ _ (shape.print-Make t) (shape.form-Make t) (λ header ts rest good clear h.
    let f = start-first header (kinds.Name make) h in
    let a = behind-punctuation punctuations.OpenParen f.3 in
    let s = split (print_type t) (words.punctuation punctuations.CloseParen ∷ []) a.2 in
    let c = behind-punctuation punctuations.CloseParen s.2 in (
      f.2,
      f.1 ∙ then _ _ _ a.1
          ∙ then _ _ _ (type-complete t good a.0 s.0 s.1
          (not-after punctuations.Dot (kinds.Punctuation punctuations.CloseParen) (λ us. refl) s.2))
          ∙ ap (make_behind t s.0) (not-after punctuations.Comma (kinds.Punctuation punctuations.CloseParen)
          (λ us. refl) s.2)
          ∙ then _ _ _ (c.1 ∙ ap Some (ends c.2)),
    ))

new_named : (n : List ℕ) → IsRead (ex.New n)
unfolding start_from named_start new_start
new_named n = by-whole (ex.New n) _ _ (shape.print-New n) (shape.form-New n) (λ header ts rest good clear h.
    let f = start-first header (kinds.Name new) h in
    let a = behind-punctuation punctuations.OpenParen f.3 in
    let b = behind-name n a.2 in
    let c = behind-punctuation punctuations.CloseParen b.2 in (
      f.2,
      f.1 ∙ then _ _ _ a.1 ∙ then _ _ _ b.1
          ∙ ap (new_behind n b.0) (not-after punctuations.Dot (kinds.Punctuation punctuations.CloseParen)
          (λ us. refl) b.2)
          ∙ then _ _ _ (c.1 ∙ ap Some (ends c.2)),
    ))

new_synced : (n : List ℕ) → IsRead (ex.NewSync n)
unfolding start_from named_start new_start
new_synced n = by-whole (ex.NewSync n) _ _ (shape.print-NewSync n) (shape.form-NewSync n)
    (λ header ts rest good clear h.
    let f = start-first header (kinds.Name new) h in
    let a = behind-punctuation punctuations.OpenParen f.3 in
    let b = behind-name sync a.2 in
    let d = behind-punctuation punctuations.Dot b.2 in
    let m = behind-name n d.2 in
    let c = behind-punctuation punctuations.CloseParen m.2 in (
      f.2,
      f.1 ∙ then _ _ _ a.1 ∙ then _ _ _ b.1
          ∙ ap (new_behind sync b.0) d.1
          ∙ then _ _ _ m.1
          ∙ then _ _ _ (c.1 ∙ ap Some (ends c.2)),
    ))

empty : IsRead ex.EmptyLiteral
unfolding start_from empty_start
empty = by-whole ex.EmptyLiteral _ _ shape.print-EmptyLiteral shape.form-EmptyLiteral (λ header ts rest good clear h.
    let f = start-first header (kinds.Keyword keywords.Struct) h in
    let a = behind-punctuation punctuations.OpenBrace f.3 in
    let b = behind-punctuation punctuations.CloseBrace a.2 in
    let c = behind-punctuation punctuations.OpenBrace b.2 in
    let d = behind-punctuation punctuations.CloseBrace c.2 in
    (f.2, f.1 ∙ then _ _ _ a.1 ∙ then _ _ _ b.1 ∙ then _ _ _ c.1 ∙ then _ _ _ (d.1 ∙ ap Some (ends d.2))))

free : (header : Bool) → (header && true) ≡ false → header ≡ false
free true e = cc
free false e = refl

synced : (n : List ℕ) → IsRead (ex.SyncLiteral n)
unfolding start_from punctuation_start literal_start sync_start
synced n = by-whole (ex.SyncLiteral n) _ _ (shape.print-SyncLiteral n) (shape.form-SyncLiteral n)
    (λ header ts rest good clear h.
    let f = start-first header (kinds.Punctuation punctuations.Ampersand) h in
    let a = behind-name sync f.3 in
    let d = behind-punctuation punctuations.Dot a.2 in
    let m = behind-name n d.2 in
    let b = behind-punctuation punctuations.OpenBrace m.2 in
    let c = behind-punctuation punctuations.CloseBrace b.2 in (
      f.2,
      f.1 ∙ ap (λ q. cond q None (literal_start f.0)) (free header clear)
          ∙ then _ _ _ a.1
          ∙ ap (literal_behind sync a.0) d.1
          ∙ then _ _ _ m.1 ∙ then _ _ _ b.1
          ∙ then _ _ _ (c.1 ∙ ap Some (ends c.2)),
    ))

-- an expression that nothing goes on with
pub inner : (e : Expr) → IsRead e → (ts rest : List Token) → (form e).good ≡ true → Spelt (print_expr e) ts rest
    → Quiet rest → 1 ≤ (form e).top → expr_at (Level false 1) ts ≡ Some (e, rest)
inner e ih ts rest good h q le =
    let hd = quiet-head rest q in
    ih.level false 1 ts rest (record { good = good; clear = refl; spelt = h }) le q.suffix (omega (arith, hd, le))
    ∙ climb-stops false 1 e rest (omega (arith, hd))

-- the top of every expression
pub top-some : (e : Expr) → (1 ≤ (form e).top) × ((form e).top ≤ 7)
top-some = shape.each (λ e. (1 ≤ (form e).top) × ((form e).top ≤ 7)) (λ x. Unit {0})
    (λ d. by (ex.Integer d) 7 (ap (λ (f : Form). f.top) (shape.form-Integer d)) (omega arith) (omega arith))
    (λ d. by (ex.Text d) 7 (ap (λ (f : Form). f.top) (shape.form-Text d)) (omega arith) (omega arith))
    (λ d. by (ex.Name d) 7 (ap (λ (f : Form). f.top) (shape.form-Name d)) (omega arith) (omega arith))
    (λ a ih. by (ex.Parens a) 7 (ap (λ (f : Form). f.top) (shape.form-Parens a)) (omega arith) (omega arith))
    (λ n xs. by (ex.StructLiteral n (map (λ p. p.0) xs)) 7
    (ap (λ (f : Form). f.top) (shape.form-StructLiteral n (map (λ p. p.0) xs))) (omega arith) (omega arith))
    (λ n. by (ex.SyncLiteral n) 7 (ap (λ (f : Form). f.top) (shape.form-SyncLiteral n)) (omega arith) (omega arith))
    (λ t xs. by (ex.SliceLiteral t (map (λ p. p.0) xs)) 7
    (ap (λ (f : Form). f.top) (shape.form-SliceLiteral t (map (λ p. p.0) xs))) (omega arith) (omega arith))
    (by ex.EmptyLiteral 7 (ap (λ (f : Form). f.top) shape.form-EmptyLiteral) (omega arith) (omega arith))
    (λ t. by (ex.Make t) 7 (ap (λ (f : Form). f.top) (shape.form-Make t)) (omega arith) (omega arith))
    (λ t a ih. by (ex.MakeSized t a) 7 (ap (λ (f : Form). f.top) (shape.form-MakeSized t a)) (omega arith)
    (omega arith))
    (λ n. by (ex.New n) 7 (ap (λ (f : Form). f.top) (shape.form-New n)) (omega arith) (omega arith))
    (λ n. by (ex.NewSync n) 7 (ap (λ (f : Form). f.top) (shape.form-NewSync n)) (omega arith) (omega arith))
    (λ a n ih. by (ex.Selector a n) 7 (ap (λ (f : Form). f.top) (shape.form-Selector a n)) (omega arith) (omega arith))
    (λ a b ih jh. by (ex.Index a b) 7 (ap (λ (f : Form). f.top) (shape.form-Index a b)) (omega arith) (omega arith))
    (λ a xs ih. by (ex.Call a (map (λ p. p.0) xs)) 7 (ap (λ (f : Form). f.top) (shape.form-Call a (map (λ p. p.0) xs)))
    (omega arith) (omega arith))
    (λ o a ih. by (ex.Unary o a) 6 (ap (λ (f : Form). f.top) (shape.form-Unary o a)) (omega arith) (omega arith))
    (λ o a b ih jh. by (ex.Binary o a b) (binds o) (ap (λ (f : Form). f.top) (shape.form-Binary o a b)) (binds-some o).0
    (five (binds o) (binds-some o).1))
    (λ n a ih. tt)
  where
    five : (k : ℕ) → k ≤ 5 → k ≤ 7
    five k h = omega arith

    by : (e : Expr) (k : ℕ) → (form e).top ≡ k → 1 ≤ k → k ≤ 7 → (1 ≤ (form e).top) × ((form e).top ≤ 7)
    by e k p h q = (omega (arith, p, h), omega (arith, p, q))

-- a closing punctuation mark goes on with nothing
closing-paren : {ws : List Word} {ts rest : List Token} → Spelt (words.punctuation punctuations.CloseParen ∷ ws) ts rest
    → Quiet ts
closing-paren h = quiet (kinds.Punctuation punctuations.CloseParen) (λ us. (refl, refl, refl, refl)) h

closing-bracket : {ws : List Word} {ts rest : List Token}
    → Spelt (words.punctuation punctuations.CloseBracket ∷ ws) ts rest → Quiet ts
closing-bracket h = quiet (kinds.Punctuation punctuations.CloseBracket) (λ us. (refl, refl, refl, refl)) h

inside-read : (close : Punctuation) (wrap : Expr → Expr) (e : Expr) → IsRead e → (form e).good ≡ true
    → (ts mid rest : List Token) → Spelt (print_expr e) ts mid → Quiet mid → after close mid ≡ Some rest
    → inside_by close wrap ts ≡ Some (wrap e, rest)
inside-read close wrap e ih good ts mid rest h q c =
    then (λ x. after close x.1 >>= λ us. Some (wrap x.0, us)) (expr_at (Level false 1) ts) (e, mid)
    (inner e ih ts mid good h q (top-some e).0)
    ∙ then (λ us. Some (wrap e, us)) (after close mid) rest c

grouped : (a : Expr) → IsRead a → IsRead (ex.Parens a)
unfolding start_from punctuation_start
grouped a ih = by-start (ex.Parens a) _ _ (shape.print-Parens a) (shape.form-Parens a) (λ header ts rest good clear h.
    let f = start-first header (kinds.Punctuation punctuations.OpenParen) h in
    let s = split (print_expr a) (words.punctuation punctuations.CloseParen ∷ []) f.3 in
    let c = behind-punctuation punctuations.CloseParen s.2 in (
      f.2,
      starts.Group,
      f.0,
      f.1,
      inside-read punctuations.CloseParen ex.Parens a ih good f.0 s.0 rest s.1
          (closing-paren s.2) (c.1 ∙ ap Some (ends c.2)),
    ))

sized : (t : TypeExpr) (a : Expr) → IsRead a → IsRead (ex.MakeSized t a)
unfolding start_from named_start make_start
sized t a ih = by-start (ex.MakeSized t a) _ _ (shape.print-MakeSized t a) (shape.form-MakeSized t a)
    (λ header ts rest good clear h.
    let f = start-first header (kinds.Name make) h in
    let p = behind-punctuation punctuations.OpenParen f.3 in
    let w = split (print_type t ++ words.punctuation punctuations.Comma ∷ print_expr a)
    (words.punctuation punctuations.CloseParen ∷ []) p.2 in
    let s = split (print_type t) (words.punctuation punctuations.Comma ∷ print_expr a) w.1 in
    let m = behind-punctuation punctuations.Comma s.2 in
    let c = behind-punctuation punctuations.CloseParen w.2 in
    let g = both (type_form t).good (form a).good good in (
      f.2,
      starts.Sized t,
      m.0,
      f.1 ∙ then _ _ _ p.1 ∙ then _ _ _ (type-complete t g.0 p.0 s.0 s.1
          (not-after punctuations.Dot (kinds.Punctuation punctuations.Comma) (λ us. refl) s.2))
          ∙ ap (make_behind t s.0) m.1,
      inside-read punctuations.CloseParen (ex.MakeSized t) a ih g.1 m.0 w.0 rest m.2 (closing-paren w.2)
          (c.1 ∙ ap Some (ends c.2)),
    ))

prefixed-read : (o : UnaryOperator) (a : Expr) → IsRead a → IsRead (ex.Unary o a)
prefixed-read o a ih = by-prefixed (ex.Unary o a) (ap (λ (f : Form). f.top) (shape.form-Unary o a))
    (λ header ts rest s q.
    let g = both (form a).good (nat_le 6 (form a).top)
    (sym (ap (λ (f : Form). f.good) (shape.form-Unary o a)) ∙ s.good) in
    let f = prefix-first o (subst (λ vs. Spelt vs ts rest) (shape.print-Unary o a) s.spelt) in
    let clear : (header && (form a).ampersand) ≡ false =
    ap (λ (f : Form). header && f.ampersand) (sym (shape.form-Unary o a)) ∙ s.clear in
    expr-Prefixed header ts ∙ ap (prefixed_by header ts) f.1
    ∙ then (λ x. Some (ex.Unary o x.0, x.1)) (expr_at (Prefixed header) f.0) (a, rest)
    (ih.prefixed (true-le 6 (form a).top g.1) header f.0 rest
    (record { good = g.0; clear = clear; spelt = f.2 }) q))

clear-or : (h a b : Bool) → (h && (a || b)) ≡ false → ((h && a) ≡ false) × ((h && b) ≡ false)
clear-or false a b e = (refl, refl)
clear-or true false b e = (refl, e)
clear-or true true b e = cc

lt-le : (a b : ℕ) → nat_lt a b ≡ true → a < b
lt-le a b h = grind (arith, nat_tests)

binary-read : (o : BinaryOperator) (a b : Expr) → IsRead a → IsRead b → IsRead (ex.Binary o a b)
binary-read o a b ia ib =
    let top : (form (ex.Binary o a b)).top ≡ binds o = ap (λ (f : Form). f.top) (shape.form-Binary o a b) in
    let small = (binds-some o).1 in
    record {
      primary = λ is. absurd (omega (arith, top, small, is));
      prefixed = λ le. absurd (omega (arith, top, small, le));
      level = λ header l ts rest s le q hd.
          let g = both ((form a).good && (form b).good) (nat_le (binds o) (form a).top && nat_lt (binds o) (form b).top)
          (sym (ap (λ (f : Form). f.good) (shape.form-Binary o a b)) ∙ s.good) in
          let goods = both (form a).good (form b).good g.0 in
          let tops = both (nat_le (binds o) (form a).top) (nat_lt (binds o) (form b).top) g.1 in
          let la = true-le (binds o) (form a).top tops.0 in
          let lb = lt-le (binds o) (form b).top tops.1 in
          let clear = clear-or header (form a).ampersand (form b).ampersand
          (ap (λ (f : Form). header && f.ampersand) (sym (shape.form-Binary o a b)) ∙ s.clear) in
          let w = split (print_expr a) (words.punctuation (binary_punctuation o) ∷ print_expr b)
          (subst (λ vs. Spelt vs ts rest) (shape.print-Binary o a b) s.spelt) in
          let f = operator-first o w.2 in
          let lo : l ≤ binds o = omega (arith, le, top) in
          let head_is : head w.0 ≡ binds o = ap tight f.1 in
          let right : expr_at (Level header (suc (binds o))) f.0 ≡ Some (b, rest) =
          ib.level header (suc (binds o)) f.0 rest (record { good = goods.1; clear = clear.1; spelt = f.3 })
          (omega (arith, lb)) q (omega (arith, hd, top, lb))
          ∙ climb-stops header (suc (binds o)) b rest (omega (arith, hd, top)) in
          ia.level header l ts w.0 (record { good = goods.0; clear = clear.0; spelt = w.1 }) (omega (arith, lo, la)) f.2
          (omega (arith, head_is, la))
          ∙ expr-Climb header l a w.0
          ∙ ap (climb_by header l a w.0) f.1
          ∙ ap (λ q. cond q (grown_by header l a o f.0) (Some (a, w.0))) (le-true l (binds o) lo)
          ∙ then (λ right. expr_at (Climb header l (ex.Binary o a right.0)) right.1)
          (expr_at (Level header (suc (binds o))) f.0) (b, rest) right;
    }

-- a punctuation mark with which no expression begins
closed-level : (m : Punctuation) (ts us : List Token)
    → ((qs : List Token) → unary_behind (kinds.Punctuation m) qs ≡ None)
    → ((qs : List Token) → start_from false (kinds.Punctuation m) qs ≡ None) → after m ts ≡ Some us
    → expr_at (Level false 1) ts ≡ None
closed-level m ts us no_unary no_start e =
    let f = start-first false (kinds.Punctuation m) (punctuation-then m ts e nothing) in
    expr-Level false 1 ts
    ∙ ap (λ o. o >>= λ x. expr_at (Climb false 1 x.0) x.1)
    (expr-Prefixed false ts ∙ ap (prefixed_by false ts) (f.2 ∙ no_unary f.0) ∙ ap begun_by (f.1 ∙ no_start f.0))

not-begun : (m : Punctuation) (ts : List Token) (x : Expr × List Token)
    → ((qs : List Token) → unary_behind (kinds.Punctuation m) qs ≡ None)
    → ((qs : List Token) → start_from false (kinds.Punctuation m) qs ≡ None) → expr_at (Level false 1) ts ≡ Some x
    → after m ts ≡ None
not-begun m ts x no_unary no_start e = at (after m ts) refl
  where
    at : (o : Option (List Token)) → after m ts ≡ o → o ≡ None
    at None f = refl
    at (Some us) f = let wrong : Some x ≡ None = sym e ∙ closed-level m ts us no_unary no_start f in cc

no-paren : (ts : List Token) (x : Expr × List Token) → expr_at (Level false 1) ts ≡ Some x
    → after punctuations.CloseParen ts ≡ None
unfolding start_from punctuation_start
no-paren ts x e = not-begun punctuations.CloseParen ts x (λ us. refl) (λ us. refl) e

no-brace : (ts : List Token) (x : Expr × List Token) → expr_at (Level false 1) ts ≡ Some x
    → after punctuations.CloseBrace ts ≡ None
unfolding start_from punctuation_start
no-brace ts x e = not-begun punctuations.CloseBrace ts x (λ us. refl) (λ us. refl) e

abbrev Parts : Type 0
Parts = List ((e : Expr) × IsRead e)

abbrev exprs : Parts → List Expr
exprs ys = map (λ p. p.0) ys

-- items between commas
items-read : (close : Punctuation) (ys : Parts) (y : (e : Expr) × IsRead e) (done : List Expr)
    (ts mid rest : List Token) →
    all_good (map form (exprs (y ∷ ys))) ≡ true
    → Spelt (print_expr y.0 ++ behind punctuations.Comma (map print_expr (exprs ys))) ts mid →
    Quiet mid → after punctuations.Comma mid ≡ None → after close mid ≡ Some rest →
    ((x : List Token) × (expr_at (Level false 1) ts ≡ Some (y.0, x)))
    × (expr_at (Items close done) ts ≡ Some (done ++ exprs (y ∷ ys), rest))
items-read close [] y done ts mid rest good h q comma c =
    let s = split (print_expr y.0) [] h in
    let g = both (form y.0).good true good in
    let read = inner y.0 y.1 ts mid g.0 (subst (λ m. Spelt (print_expr y.0) ts m) (ends s.2) s.1) q
    (top-some y.0).0 in (
      (mid, read),
      expr-Items close done ts
          ∙ then (λ x. items_by close (done ++ x.0 ∷ []) x.1 (after punctuations.Comma x.1))
          (expr_at (Level false 1) ts) (y.0, mid) read
          ∙ ap (items_by close (done ++ y.0 ∷ []) mid) comma
          ∙ then (λ us. Some (done ++ y.0 ∷ [], us)) (after close mid) rest c,
    )
items-read close (z ∷ zs) y done ts mid rest good h q comma c =
    let s = split (print_expr y.0) (behind punctuations.Comma (map print_expr (exprs (z ∷ zs)))) h in
    let b = behind-punctuation punctuations.Comma s.2 in
    let g = both (form y.0).good (all_good (map form (exprs (z ∷ zs)))) good in
    let read = inner y.0 y.1 ts s.0 g.0 s.1
    (quiet (kinds.Punctuation punctuations.Comma) (λ us. (refl, refl, refl, refl)) s.2) (top-some y.0).0 in
    let more = items-read close zs z (done ++ y.0 ∷ []) b.0 mid rest g.1 b.2 q comma c in (
      (s.0, read),
      expr-Items close done ts
          ∙ then (λ x. items_by close (done ++ x.0 ∷ []) x.1 (after punctuations.Comma x.1))
          (expr_at (Level false 1) ts) (y.0, s.0) read
          ∙ ap (items_by close (done ++ y.0 ∷ []) s.0) b.1
          ∙ more.1
          ∙ ap (λ xs. Some (xs, rest)) (append_assoc done (y.0 ∷ []) (exprs (z ∷ zs))),
    )

brace-quiet : {ws : List Word} {ts rest : List Token} → Spelt (words.punctuation punctuations.CloseBrace ∷ ws) ts rest
    → Quiet ts
brace-quiet h = quiet (kinds.Punctuation punctuations.CloseBrace) (λ us. (refl, refl, refl, refl)) h

-- an operand with one suffix more
by-suffix : (a e : Expr) (ws : List Word) (s : Suffix) → IsRead a → print_expr e ≡ print_expr a ++ ws
    → (form e).ampersand ≡ (form a).ampersand →
    ((form e).good ≡ true → ((form a).good ≡ true) × (nat_le 7 (form a).top ≡ true)) →
    ((mid rest : List Token) → (form e).good ≡ true → Spelt ws mid rest → (us : List Token)
    × (suffix_at mid ≡ Some (s, us)) × (extend_by a s us ≡ Some (e, rest))) → IsRead e
by-suffix a e ws s ia p amp good k = by-primary e (λ header ts rest st.
    let w = split (print_expr a) ws (subst (λ vs. Spelt vs ts rest) p st.spelt) in
    let g = good st.good in
    let le = true-le 7 (form a).top g.1 in
    let most = (top-some a).1 in
    let r = k w.0 rest st.good w.2 in
    let b = ia.primary (omega (arith, le, most)) header ts w.0
    (record { good = g.0; clear = ap (λ q. header && q) (sym amp) ∙ st.clear; spelt = w.1 }) in (
      b.0,
      b.1 ∙ expr-Suffixes a w.0 ∙ ap (suffixes_by a w.0) r.1
          ∙ then (λ x. expr_at (Suffixes x.0) x.1) (expr_at (Extend a s) r.0) (e, rest) (expr-Extend a s r.0 ∙ r.2),
    ))

selected : (a : Expr) (n : List ℕ) → IsRead a → IsRead (ex.Selector a n)
unfolding suffix_at
selected a n ia = by-suffix a (ex.Selector a n) _ (suffixes.Field n) ia (shape.print-Selector a n)
    (ap (λ (f : Form). f.ampersand) (shape.form-Selector a n))
    (λ good. both (form a).good (nat_le 7 (form a).top)
    (sym (ap (λ (f : Form). f.good) (shape.form-Selector a n)) ∙ good))
    (λ mid rest good h.
    let d = behind-punctuation punctuations.Dot h in
    let m = behind-name n d.2 in
    (rest, ap (suffix_by mid) d.1 ∙ then _ _ _ (m.1 ∙ ap (λ us. Some (n, us)) (ends m.2)), refl))

indexed : (a b : Expr) → IsRead a → IsRead b → IsRead (ex.Index a b)
unfolding suffix_at
indexed a b ia ib =
    let goods : (form (ex.Index a b)).good ≡ true → (((form a).good && (form b).good) ≡ true)
    × (nat_le 7 (form a).top ≡ true) =
    λ good. both ((form a).good && (form b).good) (nat_le 7 (form a).top)
    (sym (ap (λ (f : Form). f.good) (shape.form-Index a b)) ∙ good) in
    by-suffix a (ex.Index a b) _ suffixes.Index ia (shape.print-Index a b)
    (ap (λ (f : Form). f.ampersand) (shape.form-Index a b))
    (λ good. let g = goods good in ((both (form a).good (form b).good g.0).0, g.1))
    (λ mid rest good h.
    let g = goods good in
    let o = behind-punctuation punctuations.OpenBracket h in
    let s = split (print_expr b) (words.punctuation punctuations.CloseBracket ∷ []) o.2 in
    let c = behind-punctuation punctuations.CloseBracket s.2 in (
      o.0,
      ap (suffix_by mid) (not-after punctuations.Dot (kinds.Punctuation punctuations.OpenBracket) (λ us. refl) h)
          ∙ ap (no_field mid) o.1,
      inside-read punctuations.CloseBracket (ex.Index a) b ib (both (form a).good (form b).good g.0).1 o.0 s.0 rest s.1
          (closing-bracket s.2) (c.1 ∙ ap Some (ends c.2)),
    ))

called : (a : Expr) (ys : Parts) → IsRead a → IsRead (ex.Call a (exprs ys))
unfolding suffix_at call_at
called a [] ia = by-suffix a (ex.Call a []) _ suffixes.NoArguments ia (shape.print-Call a [])
    (ap (λ (f : Form). f.ampersand) (shape.form-Call a []))
    (λ good. let g = both ((form a).good && true) (nat_le 7 (form a).top)
    (sym (ap (λ (f : Form). f.good) (shape.form-Call a [])) ∙ good) in ((both (form a).good true g.0).0, g.1))
    (λ mid rest good h.
    let o = behind-punctuation punctuations.OpenParen h in
    let c = behind-punctuation punctuations.CloseParen o.2 in (
      rest,
      ap (suffix_by mid) (not-after punctuations.Dot (kinds.Punctuation punctuations.OpenParen) (λ us. refl) h)
          ∙ ap (no_field mid) (not-after punctuations.OpenBracket (kinds.Punctuation punctuations.OpenParen)
          (λ us. refl) h)
          ∙ then (λ us. call_behind us (after punctuations.CloseParen us)) (after punctuations.OpenParen mid) o.0 o.1
          ∙ ap (call_behind o.0) (c.1 ∙ ap Some (ends c.2)),
      refl,
    ))
called a (y ∷ ys) ia =
    let goods : (form (ex.Call a (exprs (y ∷ ys)))).good ≡ true
    → (((form a).good && all_good (map form (exprs (y ∷ ys)))) ≡ true) × (nat_le 7 (form a).top ≡ true) =
    λ good. both ((form a).good && all_good (map form (exprs (y ∷ ys)))) (nat_le 7 (form a).top)
    (sym (ap (λ (f : Form). f.good) (shape.form-Call a (exprs (y ∷ ys)))) ∙ good) in
    by-suffix a (ex.Call a (exprs (y ∷ ys))) _ suffixes.Arguments ia (shape.print-Call a (exprs (y ∷ ys)))
    (ap (λ (f : Form). f.ampersand) (shape.form-Call a (exprs (y ∷ ys))))
    (λ good. let g = goods good in ((both (form a).good (all_good (map form (exprs (y ∷ ys)))) g.0).0, g.1))
    (λ mid rest good h.
    let g = goods good in
    let o = behind-punctuation punctuations.OpenParen h in
    let s = split (separated punctuations.Comma (map print_expr (exprs (y ∷ ys))))
    (words.punctuation punctuations.CloseParen ∷ []) o.2 in
    let c = behind-punctuation punctuations.CloseParen s.2 in
    let r = items-read punctuations.CloseParen ys y [] o.0 s.0 rest
    (both (form a).good (all_good (map form (exprs (y ∷ ys)))) g.0).1 s.1 (closing-paren s.2)
    (not-after punctuations.Comma (kinds.Punctuation punctuations.CloseParen) (λ us. refl) s.2)
    (c.1 ∙ ap Some (ends c.2)) in (
      o.0,
      ap (suffix_by mid) (not-after punctuations.Dot (kinds.Punctuation punctuations.OpenParen) (λ us. refl) h)
          ∙ ap (no_field mid) (not-after punctuations.OpenBracket (kinds.Punctuation punctuations.OpenParen)
          (λ us. refl) h)
          ∙ then (λ us. call_behind us (after punctuations.CloseParen us)) (after punctuations.OpenParen mid) o.0 o.1
          ∙ ap (call_behind o.0) (no-paren o.0 (y.0, r.0.0) r.0.1),
      then (λ x. Some (ex.Call a x.0, x.1)) (expr_at (Items punctuations.CloseParen []) o.0) (exprs (y ∷ ys), rest) r.1,
    ))

sliced : (t : TypeExpr) (ys : Parts) → IsRead (ex.SliceLiteral t (exprs ys))
unfolding start_from punctuation_start slice_start
sliced t [] = by-whole (ex.SliceLiteral t []) _ _ (shape.print-SliceLiteral t []) (shape.form-SliceLiteral t [])
    (λ header ts rest good clear h.
    let f = start-first header (kinds.Punctuation punctuations.OpenBracket) h in
    let a = behind-punctuation punctuations.CloseBracket f.3 in
    let s = split (print_type t) (words.punctuation punctuations.OpenBrace ∷ words.punctuation punctuations.CloseBrace
    ∷ []) a.2 in
    let o = behind-punctuation punctuations.OpenBrace s.2 in
    let c = behind-punctuation punctuations.CloseBrace o.2 in (
      f.2,
      f.1 ∙ then _ _ _ a.1 ∙ then _ _ _ (type-complete t (both (type_form t).good true good).0 a.0 s.0 s.1
          (not-after punctuations.Dot (kinds.Punctuation punctuations.OpenBrace) (λ us. refl) s.2))
          ∙ then _ _ _ o.1 ∙ ap (slice_behind t o.0) (c.1 ∙ ap Some (ends c.2)),
    ))
sliced t (y ∷ ys) = by-start (ex.SliceLiteral t (exprs (y ∷ ys))) _ _ (shape.print-SliceLiteral t (exprs (y ∷ ys)))
    (shape.form-SliceLiteral t (exprs (y ∷ ys))) (λ header ts rest good clear h.
    let g = both (type_form t).good (all_good (map form (exprs (y ∷ ys)))) good in
    let f = start-first header (kinds.Punctuation punctuations.OpenBracket) h in
    let a = behind-punctuation punctuations.CloseBracket f.3 in
    let s = split (print_type t) (words.punctuation punctuations.OpenBrace
    ∷ (separated punctuations.Comma (map print_expr (exprs (y ∷ ys))) ++ words.punctuation punctuations.CloseBrace
    ∷ [])) a.2 in
    let o = behind-punctuation punctuations.OpenBrace s.2 in
    let w = split (separated punctuations.Comma (map print_expr (exprs (y ∷ ys))))
    (words.punctuation punctuations.CloseBrace ∷ []) o.2 in
    let c = behind-punctuation punctuations.CloseBrace w.2 in
    let r = items-read punctuations.CloseBrace ys y [] o.0 w.0 rest g.1 w.1 (brace-quiet w.2)
    (not-after punctuations.Comma (kinds.Punctuation punctuations.CloseBrace) (λ us. refl) w.2)
    (c.1 ∙ ap Some (ends c.2)) in (
      f.2,
      starts.Items t,
      o.0,
      f.1 ∙ then _ _ _ a.1 ∙ then _ _ _ (type-complete t g.0 a.0 s.0 s.1
          (not-after punctuations.Dot (kinds.Punctuation punctuations.OpenBrace) (λ us. refl) s.2))
          ∙ then _ _ _ o.1 ∙ ap (slice_behind t o.0) (no-brace o.0 (y.0, r.0.0) r.0.1),
      then (λ x. Some (ex.SliceLiteral t x.0, x.1)) (expr_at (Items punctuations.CloseBrace []) o.0)
          (exprs (y ∷ ys), rest) r.1,
    ))

abbrev ElementRead : Element → Type 0
ElementRead d = (n : List ℕ) × (x : Expr) × (d ≡ element n x) × IsRead x

abbrev Fields : Type 0
Fields = List ((d : Element) × ElementRead d)

abbrev fields : Fields → List Element
fields ys = map (λ p. p.0) ys

element-words : (y : (d : Element) × ElementRead d) → print_element y.0 ≡ words.name y.1.0
    ∷ words.punctuation punctuations.Colon ∷ print_expr y.1.1
element-words y = ap print_element y.1.2 ∙ shape.print-element y.1.0 y.1.1

-- an element, and what follows it
element-read : (y : (d : Element) × ElementRead d) (done : List Element) (ts mid : List Token) → element_form y.0 ≡ true
    → Spelt (print_element y.0) ts mid → Quiet mid →
    expr_at (Elements done) ts ≡ elements_by (done ++ y.0 ∷ []) mid (after punctuations.Comma mid)
element-read y done ts mid good h q =
    let n = y.1.0 in
    let x = y.1.1 in
    let m = behind-name n (subst (λ vs. Spelt vs ts mid) (element-words y) h) in
    let c = behind-punctuation punctuations.Colon m.2 in
    let good_x : (form x).good ≡ true = sym (ap element_form y.1.2 ∙ shape.form-element n x) ∙ good in
    expr-Elements done ts
    ∙ then (λ n. after punctuations.Colon n.1 >>= λ us. expr_at (Level false 1) us >>= λ x. elements_by
    (done ++ element n.0 x.0 ∷ []) x.1 (after punctuations.Comma x.1)) (name_at ts) (n, m.0) m.1
    ∙ then (λ us. expr_at (Level false 1) us >>= λ x. elements_by (done ++ element n x.0 ∷ []) x.1
    (after punctuations.Comma x.1)) (after punctuations.Colon m.0) c.0 c.1
    ∙ then (λ x. elements_by (done ++ element n x.0 ∷ []) x.1 (after punctuations.Comma x.1))
    (expr_at (Level false 1) c.0) (x, mid) (inner x y.1.3 c.0 mid good_x c.2 q (top-some x).0)
    ∙ ap (λ d. elements_by (done ++ d ∷ []) mid (after punctuations.Comma mid)) (sym y.1.2)

elements-read : (ys : Fields) (y : (d : Element) × ElementRead d) (done : List Element) (ts mid rest : List Token) →
    list_all (λ good. good) (map element_form (fields (y ∷ ys))) ≡ true
    → Spelt (print_element y.0 ++ behind punctuations.Comma (map print_element (fields ys))) ts mid →
    Quiet mid → after punctuations.Comma mid ≡ None → after punctuations.CloseBrace mid ≡ Some rest
    → expr_at (Elements done) ts ≡ Some (done ++ fields (y ∷ ys), rest)
elements-read [] y done ts mid rest good h q comma c =
    let s = split (print_element y.0) [] h in
    element-read y done ts mid (both (element_form y.0) true good).0
    (subst (λ m. Spelt (print_element y.0) ts m) (ends s.2) s.1) q
    ∙ ap (elements_by (done ++ y.0 ∷ []) mid) comma
    ∙ then (λ us. Some (done ++ y.0 ∷ [], us)) (after punctuations.CloseBrace mid) rest c
elements-read (z ∷ zs) y done ts mid rest good h q comma c =
    let s = split (print_element y.0) (behind punctuations.Comma (map print_element (fields (z ∷ zs)))) h in
    let b = behind-punctuation punctuations.Comma s.2 in
    let g = both (element_form y.0) (list_all (λ good. good) (map element_form (fields (z ∷ zs)))) good in
    element-read y done ts s.0 g.0 s.1 (quiet (kinds.Punctuation punctuations.Comma)
    (λ us. (refl, refl, refl, refl)) s.2)
    ∙ ap (elements_by (done ++ y.0 ∷ []) s.0) b.1
    ∙ elements-read zs z (done ++ y.0 ∷ []) b.0 mid rest g.1 b.2 q comma c
    ∙ ap (λ xs. Some (xs, rest)) (append_assoc done (y.0 ∷ []) (fields (z ∷ zs)))

structed : (n : List ℕ) (ys : Fields) → IsRead (ex.StructLiteral n (fields ys))
unfolding start_from punctuation_start literal_start
structed n [] = by-whole (ex.StructLiteral n []) _ _ (shape.print-StructLiteral n []) (shape.form-StructLiteral n [])
    (λ header ts rest good clear h.
    let f = start-first header (kinds.Punctuation punctuations.Ampersand) h in
    let a = behind-name n f.3 in
    let o = behind-punctuation punctuations.OpenBrace a.2 in
    let c = behind-punctuation punctuations.CloseBrace o.2 in (
      f.2,
      f.1 ∙ ap (λ q. cond q None (literal_start f.0)) (free header clear)
          ∙ then _ _ _ a.1
          ∙ ap (literal_behind n a.0) (not-after punctuations.Dot (kinds.Punctuation punctuations.OpenBrace)
          (λ us. refl) a.2)
          ∙ then _ _ _ o.1 ∙ ap (struct_behind n o.0) (c.1 ∙ ap Some (ends c.2)),
    ))
structed n (y ∷ ys) = by-start (ex.StructLiteral n (fields (y ∷ ys))) _ _
    (shape.print-StructLiteral n (fields (y ∷ ys))) (shape.form-StructLiteral n (fields (y ∷ ys)))
    (λ header ts rest good clear h.
    let f = start-first header (kinds.Punctuation punctuations.Ampersand) h in
    let a = behind-name n f.3 in
    let o = behind-punctuation punctuations.OpenBrace a.2 in
    let w = split (separated punctuations.Comma (map print_element (fields (y ∷ ys))))
    (words.punctuation punctuations.CloseBrace ∷ []) o.2 in
    let c = behind-punctuation punctuations.CloseBrace w.2 in
    let e = split (print_element y.0) (behind punctuations.Comma (map print_element (fields ys))) w.1 in
    let named = not-after punctuations.CloseBrace (kinds.Name y.1.0) (λ us. refl)
    (subst (λ vs. Spelt vs o.0 e.0) (element-words y) e.1) in (
      f.2,
      starts.Elements n,
      o.0,
      f.1 ∙ ap (λ q. cond q None (literal_start f.0)) (free header clear)
          ∙ then _ _ _ a.1
          ∙ ap (literal_behind n a.0) (not-after punctuations.Dot (kinds.Punctuation punctuations.OpenBrace)
          (λ us. refl) a.2)
          ∙ then _ _ _ o.1 ∙ ap (struct_behind n o.0) named,
      then (λ x. Some (ex.StructLiteral n x.0, x.1)) (expr_at (Elements []) o.0) (fields (y ∷ ys), rest)
          (elements-read ys y [] o.0 w.0 rest good w.1 (brace-quiet w.2)
          (not-after punctuations.Comma (kinds.Punctuation punctuations.CloseBrace) (λ us. refl) w.2)
          (c.1 ∙ ap Some (ends c.2))),
    ))

-- every expression that is printed is read
pub is_read : (e : Expr) → IsRead e
is_read = shape.each IsRead ElementRead integer text named grouped structed synced sliced empty made sized new_named
    new_synced
    (λ a n ih. selected a n ih) (λ a b ih jh. indexed a b ih jh) (λ a ys ih. called a ys ih)
    (λ o a ih. prefixed-read o a ih) (λ o a b ih jh. binary-read o a b ih jh)
    (λ n a ih. (n, a, refl, ih))

-- an expression is read if nothing that follows goes on with it
pub expr-complete : (e : Expr) (header : Bool) (ts rest : List Token) → Stands header e ts rest → Quiet rest
    → expr_at (Level header 1) ts ≡ Some (e, rest)
expr-complete e header ts rest s q =
    let hd = quiet-head rest q in
    let top = (top-some e).0 in
    (is_read e).level header 1 ts rest s top q.suffix (omega (arith, hd, top))
    ∙ climb-stops header 1 e rest (omega (arith, hd))

-- so is one that binds as tightly as a unary operator
pub prefixed-complete : (e : Expr) (header : Bool) (ts rest : List Token) → Stands header e ts rest → 6 ≤ (form e).top
    → Quiet rest → expr_at (Prefixed header) ts ≡ Some (e, rest)
prefixed-complete e header ts rest s le q = (is_read e).prefixed le header ts rest s q.suffix
