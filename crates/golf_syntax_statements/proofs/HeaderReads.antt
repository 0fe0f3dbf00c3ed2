-- A header of `if` or `for` that is printed is read, before a brace.
-- For: `test_at`, `header_at` (golf_syntax_statements/specs/HeaderReader.antt)
-- By: cases of the header's form; induction over the tree of an expression for what it begins with
use Rattle.std.proofs.Common.{◌≡◌, ℕ, true, not, cond, ◌&&◌, List, [], ◌∷◌, ◌++◌, refl, ap, subst, ◌∙◌}
use Rattle.std.proofs.lemmas.Bool.{not-true}
use Rattle.std.specs.Prelude.{Option, Some, None}
use Rattle.golf_lex_tokens.specs.declared.token.Token.{Token}
use Rattle.golf_lex_tokens.specs.declared.token.TokenKind.{TokenKind}
use Rattle.golf_lex_tokens.specs.declared.token.TokenKind.TheVariants as kinds
use Rattle.golf_lex_tokens.specs.declared.token.Punctuation.{Punctuation}
use Rattle.golf_lex_tokens.specs.declared.token.Punctuation.TheVariants as punctuations
use Rattle.golf_lex_tokens.specs.declared.token.Keyword.TheVariants as keywords
use Rattle.golf_syntax_trees.specs.declared.expressions.Expr.{Expr}
use Rattle.golf_syntax_trees.specs.declared.statements.Simple.{Simple}
use Rattle.golf_syntax_trees.specs.declared.statements.SimpleKind.{SimpleKind}
use Rattle.golf_syntax_trees.specs.declared.statements.SimpleKind.TheVariants as s
use Rattle.golf_syntax_trees.specs.declared.statements.UpdateOperator.{UpdateOperator}
use Rattle.golf_syntax_trees.specs.declared.statements.UpdateOperator.TheVariants as update
use Rattle.golf_syntax_trees.specs.declared.statements.Header.{Header}
use Rattle.golf_syntax_trees.specs.declared.statements.Header.TheVariants as headers
use Rattle.golf_syntax_trees.specs.declared.statements.RangeNames.{RangeNames}
use Rattle.golf_syntax_trees.specs.declared.statements.RangeNames.TheVariants as names
use Rattle.golf_syntax_trees.specs.Words as words
use Rattle.golf_syntax_trees.specs.Words.{Word}
use Rattle.golf_syntax_trees.specs.Expressions.{make, new, unary_punctuation, print_expr, form}
use Rattle.golf_syntax_trees.specs.Simple.{update_punctuation, print_simple_kind, print_simple, simple_form, optional}
use Rattle.golf_syntax_trees.specs.Simple.{all_of, print_range_names, print_header, header_expr, header_simple}
use Rattle.golf_syntax_trees.specs.Simple.{post_simple, header_good}
use Rattle.golf_syntax_expressions.specs.Plan.{◌>>=◌}
use Rattle.golf_syntax_expressions.specs.Front.{after, after_kind, after_keyword, after_keyword_kind, name_at, name_of}
use Rattle.golf_syntax_expressions.specs.ExpressionReader.{Level, expr_at}
use Rattle.golf_syntax_expressions.specs.SimpleStatementReader.{simple_at}
use Rattle.golf_syntax_expressions.proofs.Fronts.{both, Spelt, split, first, ends, behind-punctuation, behind-keyword}
use Rattle.golf_syntax_expressions.proofs.Fronts.{behind-name, not-after}
use Rattle.golf_syntax_expressions.proofs.ExprShapes as shape
use Rattle.golf_syntax_expressions.proofs.ExprFronts.{then}
use Rattle.golf_syntax_expressions.proofs.ExprComplete.{expr-complete}
use Rattle.golf_syntax_expressions.proofs.SimpleLaws.{NameNotDefining, NotDefining, begins}
use Rattle.golf_syntax_expressions.proofs.SimpleLines.{unlined, unlined-kind, on-line-then, on-line-back, on-line-some}
use Rattle.golf_syntax_expressions.proofs.SimpleLines.{simple-complete}
use Rattle.golf_syntax_statements.specs.HeaderReader.{Test, test_by, test_at, names_behind, names_by, names_at}
use Rattle.golf_syntax_statements.specs.HeaderReader.{post_by, post_at, steps_by, steps_at, empty_by, first_by}
use Rattle.golf_syntax_statements.specs.HeaderReader.{without_range_by, without_range_at, header_by, header_at}
use Rattle.golf_syntax_statements.proofs.Nothing.{semicolon, open_brace, Stops, stops, no-expr, no-simple}

-- another kind of word in front than the word `range`
not-range : {ws : List Word} {ts rest : List Token} (k : TokenKind)
    → ((us : List Token) → after_keyword_kind keywords.Range k us ≡ None) → Spelt (words.word k ∷ ws) ts rest
    → after_keyword keywords.Range ts ≡ None
not-range k other h = let f = first h in ap (after_keyword keywords.Range) f.2
    ∙ ap (λ q. after_keyword_kind keywords.Range q f.1) f.3 ∙ other f.1

abbrev NoRange : Expr → Type 0
NoRange e = (ts rest : List Token) → Spelt (print_expr e) ts rest → after_keyword keywords.Range ts ≡ None

by-words : (e : Expr) (ws : List Word) → print_expr e ≡ ws
    → ((ts rest : List Token) → Spelt ws ts rest → after_keyword keywords.Range ts ≡ None) → NoRange e
by-words e ws p k ts rest h = k ts rest (subst (λ vs. Spelt vs ts rest) p h)

no-range : (e : Expr) → NoRange e
no-range = shape.each NoRange (λ x. Unit {0})
    (λ d. by-words _ _ (shape.print-Integer d) (λ ts rest h. not-range (kinds.Integer d) (λ us. refl) h))
    (λ d. by-words _ _ (shape.print-Text d) (λ ts rest h. not-range (kinds.Text d) (λ us. refl) h))
    (λ n. by-words _ _ (shape.print-Name n) (λ ts rest h. not-range (kinds.Name n) (λ us. refl) h))
    (λ a ih. by-words _ _ (shape.print-Parens a)
    (λ ts rest h. not-range (kinds.Punctuation punctuations.OpenParen) (λ us. refl) h))
    (λ n xs. by-words _ _ (shape.print-StructLiteral n _)
    (λ ts rest h. not-range (kinds.Punctuation punctuations.Ampersand) (λ us. refl) h))
    (λ n. by-words _ _ (shape.print-SyncLiteral n)
    (λ ts rest h. not-range (kinds.Punctuation punctuations.Ampersand) (λ us. refl) h))
    (λ t xs. by-words _ _ (shape.print-SliceLiteral t _)
    (λ ts rest h. not-range (kinds.Punctuation punctuations.OpenBracket) (λ us. refl) h))
    (by-words _ _ shape.print-EmptyLiteral (λ ts rest h. not-range (kinds.Keyword keywords.Struct) (λ us. refl) h))
    (λ t. by-words _ _ (shape.print-Make t) (λ ts rest h. not-range (kinds.Name make) (λ us. refl) h))
    (λ t a ih. by-words _ _ (shape.print-MakeSized t a) (λ ts rest h. not-range (kinds.Name make) (λ us. refl) h))
    (λ n. by-words _ _ (shape.print-New n) (λ ts rest h. not-range (kinds.Name new) (λ us. refl) h))
    (λ n. by-words _ _ (shape.print-NewSync n) (λ ts rest h. not-range (kinds.Name new) (λ us. refl) h))
    (λ a n ih. by-words _ _ (shape.print-Selector a n) (λ ts rest h. let w = split (print_expr a) _ h in ih ts w.0 w.1))
    (λ a b ih jh. by-words _ _ (shape.print-Index a b) (λ ts rest h. let w = split (print_expr a) _ h in ih ts w.0 w.1))
    (λ a xs ih. by-words _ _ (shape.print-Call a _) (λ ts rest h. let w = split (print_expr a) _ h in ih ts w.0 w.1))
    (λ o a ih. by-words _ _ (shape.print-Unary o a)
    (λ ts rest h. not-range (kinds.Punctuation (unary_punctuation o)) (λ us. refl) h))
    (λ o a b ih jh. by-words _ _ (shape.print-Binary o a b)
    (λ ts rest h. let w = split (print_expr a) _ h in ih ts w.0 w.1))
    (λ n a ih. tt)

-- no names of a `range` if no name is before `:=` or a comma
no-range-names : (ts : List Token) → after_keyword keywords.Range ts ≡ None → NotDefining ts → names_at ts ≡ None
unfolding names_at
no-range-names ts r p = ap (names_by ts) r ∙ at (name_at ts) p
  where
    at : (o : Option (List ℕ × List Token)) → NameNotDefining o
        → (o >>= λ n. names_behind n.0 (after punctuations.Define n.1) (after punctuations.Comma n.1)) ≡ None
    at None p = refl
    at (Some n) p = ap (λ q. names_behind n.0 q (after punctuations.Comma n.1)) p.0
        ∙ ap (λ q. names_behind n.0 None q) p.1

-- an expression before what is neither of the two
expr-names : (e : Expr) (ts mid : List Token) → Spelt (print_expr e) ts mid → after punctuations.Define mid ≡ None
    → after punctuations.Comma mid ≡ None → names_at ts ≡ None
expr-names e ts mid h d c = no-range-names ts (no-range e ts mid h) (begins e ts mid h d c)

punctuation-names : (e : Expr) (m : Punctuation) (ws : List Word) (ts rest : List Token)
    → ((us : List Token) → (after_kind punctuations.Define (kinds.Punctuation m) us ≡ None)
    × (after_kind punctuations.Comma (kinds.Punctuation m) us ≡ None))
    → Spelt (print_expr e ++ words.punctuation m ∷ ws) ts rest → names_at ts ≡ None
punctuation-names e m ws ts rest k h =
    let w = split (print_expr e) (words.punctuation m ∷ ws) h in
    expr-names e ts w.0 w.1 (not-after punctuations.Define (kinds.Punctuation m) (λ us. (k us).0) w.2)
    (not-after punctuations.Comma (kinds.Punctuation m) (λ us. (k us).1) w.2)

update-other : (o : UpdateOperator) (us : List Token)
    → (after_kind punctuations.Define (kinds.Punctuation (update_punctuation o)) us ≡ None)
    × (after_kind punctuations.Comma (kinds.Punctuation (update_punctuation o)) us ≡ None)
update-other update.Add us = (refl, refl)
update-other _ us = (refl, refl)

-- a simple statement begins with no names of a `range`
kind-names : (k : SimpleKind) (ts rest : List Token) → Spelt (print_simple_kind k) ts rest → Stops rest
    → names_at ts ≡ None
unfolding names_at
kind-names (s.Expression e) ts rest h st = expr-names e ts rest h st.ends.define st.ends.comma
kind-names (s.Send a b) ts rest h st = punctuation-names a punctuations.Arrow _ ts rest (λ us. (refl, refl)) h
kind-names (s.Increment a) ts rest h st = punctuation-names a punctuations.Increment _ ts rest (λ us. (refl, refl)) h
kind-names (s.Decrement a) ts rest h st = punctuation-names a punctuations.Decrement _ ts rest (λ us. (refl, refl)) h
kind-names (s.Assign a b) ts rest h st = punctuation-names a punctuations.Assign _ ts rest (λ us. (refl, refl)) h
kind-names (s.Update a o b) ts rest h st = punctuation-names a (update_punctuation o) _ ts rest (update-other o) h
kind-names (s.Define n v) ts rest h st =
    let f = behind-name n h in
    let d = behind-punctuation punctuations.Define f.2 in
    ap (names_by ts) (not-range (kinds.Name n) (λ us. refl) h)
    ∙ then (λ n. names_behind n.0 (after punctuations.Define n.1) (after punctuations.Comma n.1)) (name_at ts)
    (n, f.0) f.1
    ∙ ap (λ q. names_behind n q (after punctuations.Comma f.0)) d.1
    ∙ ap (λ q. q >>= λ vs. Some (names.One n, vs)) (no-range v d.0 rest d.2)
kind-names (s.DefineReceived n m c) ts rest h st =
    let f = behind-name n h in
    let a = behind-punctuation punctuations.Comma f.2 in
    let b = behind-name m a.2 in
    let d = behind-punctuation punctuations.Define b.2 in
    ap (names_by ts) (not-range (kinds.Name n) (λ us. refl) h)
    ∙ then (λ n. names_behind n.0 (after punctuations.Define n.1) (after punctuations.Comma n.1)) (name_at ts)
    (n, f.0) f.1
    ∙ ap (λ q. names_behind n q (after punctuations.Comma f.0))
    (not-after punctuations.Define (kinds.Punctuation punctuations.Comma) (λ us. refl) f.2)
    ∙ ap (λ q. names_behind n None q) a.1
    ∙ then (λ m. after punctuations.Define m.1 >>= λ us. after_keyword keywords.Range us >>= λ vs. Some
    (names.Two n m.0, vs)) (name_at a.0) (m, b.0) b.1
    ∙ then (λ us. after_keyword keywords.Range us >>= λ vs. Some (names.Two n m, vs))
    (after punctuations.Define b.0) d.0 d.1
    ∙ ap (λ q. q >>= λ vs. Some (names.Two n m, vs)) (not-range (kinds.Punctuation punctuations.Arrow) (λ us. refl) d.2)
kind-names (s.AssignReceived n m c) ts rest h st =
    let f = behind-name n h in
    let a = behind-punctuation punctuations.Comma f.2 in
    let b = behind-name m a.2 in
    ap (names_by ts) (not-range (kinds.Name n) (λ us. refl) h)
    ∙ then (λ n. names_behind n.0 (after punctuations.Define n.1) (after punctuations.Comma n.1)) (name_at ts)
    (n, f.0) f.1
    ∙ ap (λ q. names_behind n q (after punctuations.Comma f.0))
    (not-after punctuations.Define (kinds.Punctuation punctuations.Comma) (λ us. refl) f.2)
    ∙ ap (λ q. names_behind n None q) a.1
    ∙ then (λ m. after punctuations.Define m.1 >>= λ us. after_keyword keywords.Range us >>= λ vs. Some
    (names.Two n m.0, vs)) (name_at a.0) (m, b.0) b.1
    ∙ ap (λ q. q >>= λ us. after_keyword keywords.Range us >>= λ vs. Some (names.Two n m, vs))
    (not-after punctuations.Define (kinds.Punctuation punctuations.Assign) (λ us. refl) b.2)

-- a punctuation mark that begins no simple statement
no-names : {ws : List Word} {ts rest : List Token} (m : Punctuation) → Spelt (words.punctuation m ∷ ws) ts rest
    → names_at ts ≡ None
unfolding names_at
no-names {ws} {ts} {rest} m h =
    let f = first h in
    ap (names_by ts) (not-range (kinds.Punctuation m) (λ us. refl) h)
    ∙ ap (λ q. q >>= λ n. names_behind n.0 (after punctuations.Define n.1) (after punctuations.Comma n.1))
    (ap name_at f.2 ∙ ap (λ q. name_of q f.1) f.3)

kind-words : (x : Simple) (ts rest : List Token) → Spelt (print_simple x) ts rest
    → Spelt (print_simple_kind x.kind) ts rest
kind-words x [] rest h = absurd (on-line-some x.line (print_simple_kind x.kind) rest (unlined-kind x.kind) h)
kind-words x (t ∷ ts) rest h = (on-line-back x.line (print_simple_kind x.kind) t ts rest (unlined-kind x.kind) h).1

simple-read : (x : Simple) (ts rest : List Token) → header_simple x ≡ true → Spelt (print_simple x) ts rest → Stops rest
    → simple_at true ts ≡ Some (x, rest)
simple-read x ts rest g h st =
    let b = both (simple_form x.kind).good (not (simple_form x.kind).ampersand) g in
    simple-complete true x ts rest b.0 (not-true (simple_form x.kind).ampersand b.1) h st.ends

expr-read : (e : Expr) (ts rest : List Token) → header_expr e ≡ true → Spelt (print_expr e) ts rest → Stops rest
    → expr_at (Level true 1) ts ≡ Some (e, rest)
expr-read e ts rest g h st =
    let b = both (form e).good (not (form e).ampersand) g in
    expr-complete e true ts rest (record { good = b.0; clear = not-true (form e).ampersand b.1; spelt = h })
    st.ends.quiet

-- an expression is a simple statement on the line of its first token
alone-read : (e : Expr) (ts rest : List Token) → header_expr e ≡ true → Spelt (print_expr e) ts rest → Stops rest
    → (l : ℕ) × (simple_at true ts ≡ Some (record { line = l; kind = s.Expression e }, rest))
alone-read e [] rest g h st = let u = unlined e in absurd (subst (λ ws. Spelt ws [] rest) u.are h).are
alone-read e (t ∷ ts) rest g h st = (
  t.line,
  simple-read (record { line = t.line; kind = s.Expression e }) (t ∷ ts) rest g
      (on-line-then (print_expr e) t ts rest h) st,
)

-- a condition that is printed before a brace is read
pub test-complete : (x : Test) (ts rest last : List Token) (ws : List Word) → all_of header_simple x.0 ≡ true
    → header_expr x.1 ≡ true →
    Spelt (optional (λ y. print_simple y ++ words.punctuation punctuations.Semicolon ∷ []) x.0 ++ print_expr x.1) ts
    rest → Spelt (words.punctuation punctuations.OpenBrace ∷ ws) rest last → test_at ts ≡ Some (x, rest)
unfolding test_at
test-complete x ts rest last ws f g h b = at x.0 x.1 f g h
  where
    at : (o : Option Simple) (e : Expr) → all_of header_simple o ≡ true → header_expr e ≡ true
        → Spelt (optional (λ y. print_simple y ++ words.punctuation punctuations.Semicolon ∷ []) o ++ print_expr e) ts
        rest → test_at ts ≡ Some ((o, e), rest)
    at None e f g h =
        let a = alone-read e ts rest g h (stops punctuations.OpenBrace open_brace b) in
        then (λ x. test_by x.0 x.1 (after punctuations.Semicolon x.1)) (simple_at true ts)
        (record { line = a.0; kind = s.Expression e }, rest) a.1
        ∙ ap (test_by (record { line = a.0; kind = s.Expression e }) rest)
        (not-after punctuations.Semicolon (kinds.Punctuation punctuations.OpenBrace) (λ us. refl) b)
    at (Some y) e f g h =
        let w = split (print_simple y ++ words.punctuation punctuations.Semicolon ∷ []) (print_expr e) h in
        let v = split (print_simple y) (words.punctuation punctuations.Semicolon ∷ []) w.1 in
        let c = behind-punctuation punctuations.Semicolon v.2 in
        then (λ x. test_by x.0 x.1 (after punctuations.Semicolon x.1)) (simple_at true ts) (y, v.0)
        (simple-read y ts v.0 f v.1 (stops punctuations.Semicolon semicolon v.2))
        ∙ ap (test_by y v.0) c.1
        ∙ then (λ e. Some ((Some y, e.0), e.1)) (expr_at (Level true 1) c.0) (e, rest)
        (ap (expr_at (Level true 1)) (ends c.2)
        ∙ expr-read e w.0 rest g w.2 (stops punctuations.OpenBrace open_brace b))

module _ (rest last : List Token) (ws : List Word)
    (brace : Spelt (words.punctuation punctuations.OpenBrace ∷ ws) rest last) where
  abbrev stopped : Stops rest
  stopped = stops punctuations.OpenBrace open_brace brace

  post-read : (first : Option Simple) (test : Option Expr) (post : Option Simple) (ts : List Token)
      → all_of post_simple post ≡ true → Spelt
      (words.punctuation punctuations.Semicolon ∷ optional print_simple post) ts rest
      → post_at first test ts ≡ Some (headers.Steps first test post, rest)
  unfolding post_at
  post-read first test None ts g h =
      let c = behind-punctuation punctuations.Semicolon h in
      then (λ us. post_by first test us (simple_at true us)) (after punctuations.Semicolon ts) c.0 c.1
      ∙ ap (λ us. post_by first test us (simple_at true us)) (ends c.2)
      ∙ ap (post_by first test rest) (no-simple true punctuations.OpenBrace open_brace brace)
  post-read first test (Some y) ts g h =
      let c = behind-punctuation punctuations.Semicolon h in
      let b = both (header_simple y) (not (simple_form y.kind).defines) g in
      then (λ us. post_by first test us (simple_at true us)) (after punctuations.Semicolon ts) c.0 c.1
      ∙ ap (post_by first test c.0) (simple-read y c.0 rest b.0 c.2 stopped)
      ∙ ap (λ d. cond d None (Some (headers.Steps first test (Some y), rest)))
      (not-true (simple_form y.kind).defines b.1)

  steps-read : (first : Option Simple) (test : Option Expr) (post : Option Simple) (ts : List Token)
      → all_of header_expr test ≡ true → all_of post_simple post ≡ true →
      Spelt (optional print_expr test ++ words.punctuation punctuations.Semicolon ∷ optional print_simple post) ts rest
      → steps_at first ts ≡ Some (headers.Steps first test post, rest)
  unfolding steps_at
  steps-read first None post ts g p h = ap (steps_by first ts) (no-expr true 1 punctuations.Semicolon semicolon h)
      ∙ post-read first None post ts p h
  steps-read first (Some e) post ts g p h =
      let w = split (print_expr e) (words.punctuation punctuations.Semicolon ∷ optional print_simple post) h in
      ap (steps_by first ts) (expr-read e ts w.0 g w.1 (stops punctuations.Semicolon semicolon w.2))
      ∙ post-read first (Some e) post w.0 p w.2

  range-read : (n : RangeNames) (e : Expr) (ts : List Token)
      → Spelt (print_range_names n ++ words.keyword keywords.Range ∷ print_expr e) ts rest → (us : List Token)
      × (names_at ts ≡ Some (n, us)) × Spelt (print_expr e) us rest
  unfolding names_at
  range-read names.Neither e ts h = let r = behind-keyword keywords.Range h in (r.0, ap (names_by ts) r.1, r.2)
  range-read (names.One n) e ts h =
      let f = behind-name n h in
      let d = behind-punctuation punctuations.Define f.2 in
      let r = behind-keyword keywords.Range d.2 in (
        r.0,
        ap (names_by ts) (not-range (kinds.Name n) (λ us. refl) h)
            ∙ then (λ n. names_behind n.0 (after punctuations.Define n.1) (after punctuations.Comma n.1)) (name_at ts)
            (n, f.0) f.1
            ∙ ap (λ q. names_behind n q (after punctuations.Comma f.0)) d.1
            ∙ then (λ vs. Some (names.One n, vs)) (after_keyword keywords.Range d.0) r.0 r.1,
        r.2,
      )
  range-read (names.Two n m) e ts h =
      let f = behind-name n h in
      let a = behind-punctuation punctuations.Comma f.2 in
      let b = behind-name m a.2 in
      let d = behind-punctuation punctuations.Define b.2 in
      let r = behind-keyword keywords.Range d.2 in (
        r.0,
        ap (names_by ts) (not-range (kinds.Name n) (λ us. refl) h)
            ∙ then (λ n. names_behind n.0 (after punctuations.Define n.1) (after punctuations.Comma n.1)) (name_at ts)
            (n, f.0) f.1
            ∙ ap (λ q. names_behind n q (after punctuations.Comma f.0))
            (not-after punctuations.Define (kinds.Punctuation punctuations.Comma) (λ us. refl) f.2)
            ∙ ap (λ q. names_behind n None q) a.1
            ∙ then (λ m. after punctuations.Define m.1 >>= λ us. after_keyword keywords.Range us >>= λ vs. Some
            (names.Two n m.0, vs)) (name_at a.0) (m, b.0) b.1
            ∙ then (λ us. after_keyword keywords.Range us >>= λ vs. Some (names.Two n m, vs))
            (after punctuations.Define b.0) d.0 d.1
            ∙ then (λ vs. Some (names.Two n m, vs)) (after_keyword keywords.Range d.0) r.0 r.1,
        r.2,
      )

  pub header-complete : (h : Header) (ts : List Token) → header_good h ≡ true → Spelt (print_header h) ts rest
      → header_at ts ≡ Some (h, rest)
  unfolding header_at without_range_at
  header-complete headers.Forever ts g h =
      ap header_at (ends h) ∙ ap (header_by rest) (no-names punctuations.OpenBrace brace)
      ∙ ap (without_range_by rest) (no-simple true punctuations.OpenBrace open_brace brace)
      ∙ ap (empty_by rest) (not-after punctuations.Semicolon (kinds.Punctuation punctuations.OpenBrace)
      (λ us. refl) brace)
  header-complete (headers.While e) ts g h =
      let a = alone-read e ts rest g h stopped in
      ap (header_by ts) (expr-names e ts rest h stopped.ends.define stopped.ends.comma) ∙ ap (without_range_by ts) a.1
      ∙ ap (first_by (record { line = a.0; kind = s.Expression e }) rest)
      (not-after punctuations.Semicolon (kinds.Punctuation punctuations.OpenBrace) (λ us. refl) brace)
  header-complete (headers.Range n e) ts g h =
      let r = range-read n e ts h in
      ap (header_by ts) r.1 ∙ then (λ e. Some (headers.Range n e.0, e.1)) (expr_at (Level true 1) r.0) (e, rest)
      (expr-read e r.0 rest g r.2 stopped)
  header-complete (headers.Steps None test post) ts g h =
      let c = behind-punctuation punctuations.Semicolon h in
      let b = both (all_of header_expr test) (all_of post_simple post) g in
      ap (header_by ts) (no-names punctuations.Semicolon h)
      ∙ ap (without_range_by ts) (no-simple true punctuations.Semicolon semicolon h) ∙ ap (empty_by ts) c.1
      ∙ steps-read None test post c.0 b.0 b.1 c.2
  header-complete (headers.Steps (Some x) test post) ts g h =
      let w = split (print_simple x) (words.punctuation punctuations.Semicolon
      ∷ (optional print_expr test ++ words.punctuation punctuations.Semicolon ∷ optional print_simple post)) h in
      let c = behind-punctuation punctuations.Semicolon w.2 in
      let a = both (header_simple x) (all_of header_expr test && all_of post_simple post) g in
      let b = both (all_of header_expr test) (all_of post_simple post) a.1 in
      let st = stops punctuations.Semicolon semicolon w.2 in
      ap (header_by ts) (kind-names x.kind ts w.0 (kind-words x ts w.0 w.1) st)
      ∙ ap (without_range_by ts) (simple-read x ts w.0 a.0 w.1 st) ∙ ap (first_by x w.0) c.1
      ∙ steps-read (Some x) test post c.0 b.0 b.1 c.2
