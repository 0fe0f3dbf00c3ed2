-- What is read as a header of `if` or `for` is printed there.
-- For: `test_at`, `header_at` (golf_syntax_statements/specs/HeaderReader.antt)
-- By: cases of the punctuation that comes next; no induction
use Rattle.std.proofs.Common.{◌≡◌, ℕ, Bool, true, false, not, cond, ◌&&◌, List, [], ◌∷◌, ◌++◌, refl, ap, sym, subst}
use Rattle.std.proofs.Common.{◌∙◌, append_assoc}
use Rattle.std.specs.Prelude.{Option, Some, None}
use Rattle.golf_lex_tokens.specs.declared.token.Token.{Token}
use Rattle.golf_lex_tokens.specs.declared.token.Punctuation.TheVariants as punctuations
use Rattle.golf_lex_tokens.specs.declared.token.Keyword.TheVariants as keywords
use Rattle.golf_syntax_trees.specs.declared.expressions.Expr.{Expr}
use Rattle.golf_syntax_trees.specs.declared.statements.Simple.{Simple}
use Rattle.golf_syntax_trees.specs.declared.statements.SimpleKind.{SimpleKind}
use Rattle.golf_syntax_trees.specs.declared.statements.SimpleKind.TheVariants as s
use Rattle.golf_syntax_trees.specs.declared.statements.Header.{Header}
use Rattle.golf_syntax_trees.specs.declared.statements.Header.TheVariants as headers
use Rattle.golf_syntax_trees.specs.declared.statements.RangeNames.{RangeNames}
use Rattle.golf_syntax_trees.specs.declared.statements.RangeNames.TheVariants as names
use Rattle.golf_syntax_trees.specs.Words as words
use Rattle.golf_syntax_trees.specs.Words.{Word}
use Rattle.golf_syntax_trees.specs.Expressions.{print_expr, form}
use Rattle.golf_syntax_trees.specs.Simple.{print_simple_kind, print_simple, simple_form, optional, all_of}
use Rattle.golf_syntax_trees.specs.Simple.{print_range_names, print_header, header_expr, header_simple, post_simple}
use Rattle.golf_syntax_trees.specs.Simple.{header_good}
use Rattle.golf_syntax_expressions.specs.Plan.{◌>>=◌}
use Rattle.golf_syntax_expressions.specs.Front.{after, after_keyword, name_at}
use Rattle.golf_syntax_expressions.specs.ExpressionReader.{Level, expr_at}
use Rattle.golf_syntax_expressions.specs.SimpleStatementReader.{simple_at}
use Rattle.golf_syntax_expressions.proofs.Plans.{bind_some}
use Rattle.golf_syntax_expressions.proofs.Fronts.{some-same, and-true, Spelt, nothing, punctuation-then, keyword-then}
use Rattle.golf_syntax_expressions.proofs.Fronts.{name-then, join}
use Rattle.golf_syntax_expressions.proofs.ExprSound.{expr-sound}
use Rattle.golf_syntax_expressions.proofs.SimpleLines.{Unlined, unlined, on-line-back, on-line-some, IsSimpleAt}
use Rattle.golf_syntax_expressions.proofs.SimpleLines.{simple-sound}
use Rattle.golf_syntax_statements.specs.HeaderReader.{expression_of, Test, test_by, test_at, names_behind, names_by}
use Rattle.golf_syntax_statements.specs.HeaderReader.{names_at, post_by, post_at, steps_by, steps_at, empty_by}
use Rattle.golf_syntax_statements.specs.HeaderReader.{first_by, without_range_by, without_range_at, header_by}
use Rattle.golf_syntax_statements.specs.HeaderReader.{header_at}

not-ampersand : (g a : Bool) → g ≡ true → a ≡ false → (g && not a) ≡ true
not-ampersand g a p q = ap (λ x. x && not a) p ∙ ap not q

expr-good : (e : Expr) → (form e).good ≡ true → (form e).ampersand ≡ false → header_expr e ≡ true
expr-good e g a = not-ampersand (form e).good (form e).ampersand g a

simple-good : (x : Simple) → (simple_form x.kind).good ≡ true → (simple_form x.kind).ampersand ≡ false
    → header_simple x ≡ true
simple-good x g a = not-ampersand (simple_form x.kind).good (simple_form x.kind).ampersand g a

-- the words without the line of the first
off-line : (l : ℕ) (ws : List Word) (ts rest : List Token) → Unlined ws → Spelt (words.on_line l ws) ts rest
    → Spelt ws ts rest
off-line l ws [] rest u h = absurd (on-line-some l ws rest u h)
off-line l ws (t ∷ ts) rest u h = (on-line-back l ws t ts rest u h).1

-- a simple statement that is an expression
expression-is : (k : SimpleKind) (e : Expr) → expression_of k ≡ Some e → k ≡ s.Expression e
expression-is (s.Expression a) e h = ap s.Expression (some-same a e h)
expression-is _ e h = cc

-- a well-formed condition of an `if`, with the simple statement before it
pub record IsTest (ts : List Token) (x : Test × List Token) : Type 0 where
  pub words : Spelt (optional (λ y. print_simple y ++ words.punctuation punctuations.Semicolon ∷ []) x.0.0
      ++ print_expr x.0.1) ts x.1
  pub first : all_of header_simple x.0.0 ≡ true
  pub good : header_expr x.0.1 ≡ true

-- the expression that is a simple statement
alone : (ts us : List Token) (x : Simple) (e : Expr) → IsSimpleAt true ts (x, us) → expression_of x.kind ≡ Some e
    → Spelt (print_expr e) ts us × (header_expr e ≡ true)
alone ts us x e k is =
    let same = expression-is x.kind e is in (
      off-line x.line (print_expr e) ts us (unlined e)
          (subst (λ q. Spelt (words.on_line x.line (print_simple_kind q)) ts us) same k.words),
      expr-good e (sym (ap (λ q. (simple_form q).good) same) ∙ k.good)
          (sym (ap (λ q. (simple_form q).ampersand) same) ∙ k.clear),
    )

pub test-sound : (ts : List Token) (x : Test × List Token) → test_at ts ≡ Some x → IsTest ts x
unfolding test_at
test-sound ts x e =
    let a = bind_some (simple_at true ts) (λ y. test_by y.0 y.1 (after punctuations.Semicolon y.1)) x e in
    at a.0.0 a.0.1 (simple-sound true ts a.0 a.1) (after punctuations.Semicolon a.0.1) refl a.2
  where
    at : (y : Simple) (us : List Token) → IsSimpleAt true ts (y, us) → (o : Option (List Token))
        → after punctuations.Semicolon us ≡ o → test_by y us o ≡ Some x → IsTest ts x
    at y us k (Some vs) q f =
        let b = bind_some (expr_at (Level true 1) vs) (λ e. Some ((Some y, e.0), e.1)) x f in
        let v = expr-sound true vs b.0 b.1 in
        subst (IsTest ts) (some-same ((Some y, b.0.0), b.0.1) x b.2)
        (record {
          words = join (join k.words (punctuation-then punctuations.Semicolon us q nothing)) v.words;
          first = simple-good y k.good k.clear;
          good = expr-good b.0.0 v.good v.clear;
        })
    at y us k None q f =
        let b = bind_some (expression_of y.kind) (λ e. Some ((None, e), us)) x f in
        let r = alone ts us y b.0 k b.1 in
        subst (IsTest ts) (some-same ((None, b.0), us) x b.2) (record { words = r.0; first = refl; good = r.1 })

-- a well-formed header in these tokens, up to those that are left
pub record IsHeader (ts : List Token) (x : Header × List Token) : Type 0 where
  pub words : Spelt (print_header x.0) ts x.1
  pub good : header_good x.0 ≡ true

-- the names of a `range` and the word
abbrev Named : List Token → RangeNames × List Token → Type 0
Named ts n = Spelt (print_range_names n.0 ++ words.keyword keywords.Range ∷ []) ts n.1

names-sound : (ts : List Token) (n : RangeNames × List Token) → names_at ts ≡ Some n → Named ts n
unfolding names_at
names-sound ts n e = at (after_keyword keywords.Range ts) refl e
  where
    behind : (m : List ℕ) (us : List Token) → name_at ts ≡ Some (m, us) → (d c : Option (List Token))
        → after punctuations.Define us ≡ d → after punctuations.Comma us ≡ c → names_behind m d c ≡ Some n → Named ts n
    behind m us p (Some vs) c q r f =
        let a = bind_some (after_keyword keywords.Range vs) (λ ws. Some (names.One m, ws)) n f in
        subst (Named ts) (some-same (names.One m, a.0) n a.2)
        (name-then m ts p (punctuation-then punctuations.Define us q (keyword-then keywords.Range vs a.1 nothing)))
    behind m us p None (Some vs) q r f =
        let a = bind_some (name_at vs) (λ k. after punctuations.Define k.1 >>= λ qs. after_keyword keywords.Range qs >>=
        λ ws. Some (names.Two m k.0, ws)) n f in
        let b = bind_some (after punctuations.Define a.0.1)
        (λ qs. after_keyword keywords.Range qs >>= λ ws. Some (names.Two m a.0.0, ws)) n a.2 in
        let c = bind_some (after_keyword keywords.Range b.0) (λ ws. Some (names.Two m a.0.0, ws)) n b.2 in
        subst (Named ts) (some-same (names.Two m a.0.0, c.0) n c.2)
        (name-then m ts p (punctuation-then punctuations.Comma us r
        (name-then a.0.0 vs a.1 (punctuation-then punctuations.Define a.0.1 b.1
        (keyword-then keywords.Range b.0 c.1 nothing)))))
    behind m us p None None q r f = cc

    at : (o : Option (List Token)) → after_keyword keywords.Range ts ≡ o → names_by ts o ≡ Some n → Named ts n
    at (Some us) p f = subst (Named ts) (some-same (names.Neither, us) n f) (keyword-then keywords.Range ts p nothing)
    at None p f =
        let a = bind_some (name_at ts) (λ m. names_behind m.0 (after punctuations.Define m.1)
        (after punctuations.Comma m.1)) n f in
        behind a.0.0 a.0.1 a.1 (after punctuations.Define a.0.1) (after punctuations.Comma a.0.1) refl refl a.2

-- a three-part header, from its parts
module _ (ts : List Token) (first : Option Simple) (firsts : List Token)
    (in_front : Spelt (optional print_simple first ++ words.punctuation punctuations.Semicolon ∷ []) ts firsts)
    (first_good : all_of header_simple first ≡ true) where
  post-sound : (test : Option Expr) (mid : List Token) (x : Header × List Token)
      → Spelt (optional print_expr test) firsts mid → all_of header_expr test ≡ true → post_at first test mid ≡ Some x
      → IsHeader ts x
  unfolding post_at
  post-sound test mid x h g e =
      let a = bind_some (after punctuations.Semicolon mid) (λ us. post_by first test us (simple_at true us)) x e in
      at a.0 a.1 (simple_at true a.0) refl a.2
    where
      whole : (post : Option Simple) (us rest : List Token) → after punctuations.Semicolon mid ≡ Some us
          → Spelt (optional print_simple post) us rest → Spelt (print_header (headers.Steps first test post)) ts rest
      whole post us rest q k = subst (λ ws. Spelt ws ts rest)
          (append_assoc (optional print_simple first) (words.punctuation punctuations.Semicolon ∷ [])
          (optional print_expr test ++ words.punctuation punctuations.Semicolon ∷ optional print_simple post))
          (join in_front (join h (punctuation-then punctuations.Semicolon mid q k)))

      at : (us : List Token) → after punctuations.Semicolon mid ≡ Some us → (o : Option (Simple × List Token))
          → simple_at true us ≡ o → post_by first test us o ≡ Some x → IsHeader ts x
      at us q None p f = subst (IsHeader ts) (some-same (headers.Steps first test None, us) x f)
          (record {
            words = whole None us us q nothing;
            good = and-true (all_of header_simple first) (all_of header_expr test && true) first_good
                (and-true (all_of header_expr test) true g refl);
          })
      at us q (Some y) p f = by (simple_form y.0.kind).defines refl f
        where
          by : (b : Bool) → (simple_form y.0.kind).defines ≡ b
              → cond b None (Some (headers.Steps first test (Some y.0), y.1)) ≡ Some x → IsHeader ts x
          by true d f = cc
          by false d f =
              let k = simple-sound true us y p in
              subst (IsHeader ts) (some-same (headers.Steps first test (Some y.0), y.1) x f) (record {
                words = whole (Some y.0) us y.1 q k.words;
                good = and-true (all_of header_simple first) (all_of header_expr test && post_simple y.0) first_good
                    (and-true (all_of header_expr test) (post_simple y.0) g
                    (and-true (header_simple y.0) (not (simple_form y.0.kind).defines)
                    (simple-good y.0 k.good k.clear) (ap not d)));
              })

  steps-sound : (x : Header × List Token) → steps_at first firsts ≡ Some x → IsHeader ts x
  unfolding steps_at
  steps-sound x e = at (expr_at (Level true 1) firsts) refl e
    where
      at : (o : Option (Expr × List Token)) → expr_at (Level true 1) firsts ≡ o → steps_by first firsts o ≡ Some x
          → IsHeader ts x
      at None p f = post-sound None firsts x nothing refl f
      at (Some v) p f = let k = expr-sound true firsts v p in post-sound (Some v.0) v.1 x k.words
          (expr-good v.0 k.good k.clear) f

without_range-sound : (ts : List Token) (x : Header × List Token) → without_range_at ts ≡ Some x → IsHeader ts x
unfolding without_range_at
without_range-sound ts x e = at (simple_at true ts) refl e
  where
    empty : (o : Option (List Token)) → after punctuations.Semicolon ts ≡ o → empty_by ts o ≡ Some x → IsHeader ts x
    empty None q f = subst (IsHeader ts) (some-same (headers.Forever, ts) x f) (record { words = nothing; good = refl })
    empty (Some us) q f = steps-sound ts None us (punctuation-then punctuations.Semicolon ts q nothing) refl x f

    begun : (y : Simple) (us : List Token) → IsSimpleAt true ts (y, us) → (o : Option (List Token))
        → after punctuations.Semicolon us ≡ o → first_by y us o ≡ Some x → IsHeader ts x
    begun y us k (Some vs) q f = steps-sound ts (Some y) vs
        (join k.words (punctuation-then punctuations.Semicolon us q nothing)) (simple-good y k.good k.clear) x f
    begun y us k None q f =
        let b = bind_some (expression_of y.kind) (λ e. Some (headers.While e, us)) x f in
        let r = alone ts us y b.0 k b.1 in
        subst (IsHeader ts) (some-same (headers.While b.0, us) x b.2) (record { words = r.0; good = r.1 })

    at : (o : Option (Simple × List Token)) → simple_at true ts ≡ o → without_range_by ts o ≡ Some x → IsHeader ts x
    at None p f = empty (after punctuations.Semicolon ts) refl f
    at (Some y) p f = begun y.0 y.1 (simple-sound true ts y p) (after punctuations.Semicolon y.1) refl f

pub header-sound : (ts : List Token) (x : Header × List Token) → header_at ts ≡ Some x → IsHeader ts x
unfolding header_at
header-sound ts x e = at (names_at ts) refl e
  where
    at : (o : Option (RangeNames × List Token)) → names_at ts ≡ o → header_by ts o ≡ Some x → IsHeader ts x
    at None p f = without_range-sound ts x f
    at (Some n) p f =
        let b = bind_some (expr_at (Level true 1) n.1) (λ e. Some (headers.Range n.0 e.0, e.1)) x f in
        let v = expr-sound true n.1 b.0 b.1 in
        let w = join (names-sound ts n p) v.words in
        subst (IsHeader ts) (some-same (headers.Range n.0 b.0.0, b.0.1) x b.2)
        (record {
          words = subst (λ ws. Spelt ws ts b.0.1)
              (append_assoc (print_range_names n.0) (words.keyword keywords.Range ∷ []) (print_expr b.0.0)) w;
          good =
              expr-good b.0.0 v.good v.clear;
        })
