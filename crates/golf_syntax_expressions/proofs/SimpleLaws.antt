-- A simple statement is read exactly if it is printed there.
-- For: `kind_at`, src/simple.rt and golf_syntax_expressions/specs/SimpleStatementReader.antt.
-- By: cases of the kind of statement; by induction over the tree of an expression, it begins no definition.
use Rattle.std.proofs.Common.{◌≡◌, ℕ, ◌≤◌, Bool, true, false, ◌&&◌, ◌||◌, List, [], ◌∷◌, ◌++◌, map, refl, ap, sym}
use Rattle.std.proofs.Common.{subst, ◌∙◌}
use Rattle.std.specs.Prelude.{Option, Some, None, nat_le}
use Rattle.golf_lex_tokens.specs.declared.token.Token.{Token}
use Rattle.golf_lex_tokens.specs.declared.token.TokenKind.{TokenKind}
use Rattle.golf_lex_tokens.specs.declared.token.TokenKind.TheVariants as kinds
use Rattle.golf_lex_tokens.specs.declared.token.Punctuation.{Punctuation}
use Rattle.golf_lex_tokens.specs.declared.token.Punctuation.TheVariants as punctuations
use Rattle.golf_lex_tokens.specs.declared.token.Keyword.TheVariants as keywords
use Rattle.golf_syntax_trees.specs.declared.expressions.UnaryOperator.{UnaryOperator}
use Rattle.golf_syntax_trees.specs.declared.expressions.UnaryOperator.TheVariants as unary
use Rattle.golf_syntax_trees.specs.declared.expressions.BinaryOperator.{BinaryOperator}
use Rattle.golf_syntax_trees.specs.declared.expressions.BinaryOperator.TheVariants as binary
use Rattle.golf_syntax_trees.specs.declared.expressions.Expr.{Expr}
use Rattle.golf_syntax_trees.specs.declared.expressions.Expr.TheVariants as ex
use Rattle.golf_syntax_trees.specs.declared.statements.UpdateOperator.{UpdateOperator}
use Rattle.golf_syntax_trees.specs.declared.statements.UpdateOperator.TheVariants as update
use Rattle.golf_syntax_trees.specs.declared.statements.SimpleKind.{SimpleKind}
use Rattle.golf_syntax_trees.specs.declared.statements.SimpleKind.TheVariants as s
use Rattle.golf_syntax_trees.specs.Words as words
use Rattle.golf_syntax_trees.specs.Words.{Word}
use Rattle.golf_syntax_trees.specs.Expressions.{make, new, unary_punctuation, binary_punctuation, print_expr, form}
use Rattle.golf_syntax_trees.specs.Simple.{update_punctuation, print_simple_kind, SimpleForm, two}
use Rattle.golf_syntax_trees.specs.Simple.{received as received_form, simple_form}
use Rattle.golf_syntax_expressions.specs.declared.simple.Follow.{Follow}
use Rattle.golf_syntax_expressions.specs.declared.simple.Follow.TheVariants as follows
use Rattle.golf_syntax_expressions.specs.Plan.{◌>>=◌}
use Rattle.golf_syntax_expressions.specs.Front.{after, after_kind, name_at, name_of}
use Rattle.golf_syntax_expressions.specs.Operators.{punctuation_of}
use Rattle.golf_syntax_expressions.specs.ExpressionReader.{Level, Prefixed, expr_at}
use Rattle.golf_syntax_expressions.specs.SimpleStatementReader.{follow_of, follow_at, second, followed, behind_expr}
use Rattle.golf_syntax_expressions.specs.SimpleStatementReader.{expression_at, received, behind_names, pair_at}
use Rattle.golf_syntax_expressions.specs.SimpleStatementReader.{behind_name}
use Rattle.golf_syntax_expressions.specs.SimpleStatementReader.{kind_by, kind_at}
use Rattle.golf_syntax_expressions.proofs.Fronts.{some-same, both, and-true, Spelt, nothing, kind-then}
use Rattle.golf_syntax_expressions.proofs.Fronts.{punctuation-then, name-then, join, split, first, ends}
use Rattle.golf_syntax_expressions.proofs.Fronts.{behind-punctuation, behind-name, not-after}
use Rattle.golf_syntax_expressions.proofs.ExprShapes as shape
use Rattle.golf_syntax_expressions.proofs.ExprFronts.{le-true, true-le, Quiet, quiet, then}
use Rattle.golf_syntax_expressions.proofs.Plans.{bind_some}
use Rattle.golf_syntax_expressions.proofs.ExprSound.{IsAtLevel, expr-sound, prefixed-is-sound}
use Rattle.golf_syntax_expressions.proofs.ExprComplete.{Stands, expr-complete, prefixed-complete}

-- if a name is in front, no `:=` and no comma is after it
abbrev pub NameNotDefining : Option (List ℕ × List Token) → Type 0
NameNotDefining None = Unit {0}
NameNotDefining (Some n) = (after punctuations.Define n.1 ≡ None) × (after punctuations.Comma n.1 ≡ None)

abbrev pub NotDefining : List Token → Type 0
NotDefining ts = NameNotDefining (name_at ts)

-- an expression before neither of the two begins no definition
abbrev pub BeginsNotDefining : Expr → Type 0
BeginsNotDefining e = (ts rest : List Token) → Spelt (print_expr e) ts rest → after punctuations.Define rest ≡ None
    → after punctuations.Comma rest ≡ None → NotDefining ts

-- another kind of token than a name
other-first : {ws : List Word} {ts rest : List Token} (k : TokenKind) → ((us : List Token) → name_of k us ≡ None)
    → Spelt (words.word k ∷ ws) ts rest → NotDefining ts
other-first k other h = let f = first h in subst NameNotDefining
    (sym (ap name_at f.2 ∙ ap (λ q. name_of q f.1) f.3 ∙ other f.1)) tt

name-first : {ws : List Word} {ts rest : List Token} (n : List ℕ) → Spelt (words.name n ∷ ws) ts rest
    → ((us : List Token) → Spelt ws us rest → (after punctuations.Define us ≡ None)
    × (after punctuations.Comma us ≡ None)) → NotDefining ts
name-first n h k = let f = behind-name n h in subst NameNotDefining (sym f.1) (k f.0 f.2)

begins-by : (e : Expr) (ws : List Word) → print_expr e ≡ ws
    → ((ts rest : List Token) → Spelt ws ts rest → after punctuations.Define rest ≡ None
    → after punctuations.Comma rest ≡ None → NotDefining ts) → BeginsNotDefining e
begins-by e ws p k ts rest h d c = k ts rest (subst (λ vs. Spelt vs ts rest) p h) d c

paren-behind : {ws : List Word} {ts rest : List Token} → Spelt (words.punctuation punctuations.OpenParen ∷ ws) ts rest
    → (after punctuations.Define ts ≡ None) × (after punctuations.Comma ts ≡ None)
paren-behind h = (
  not-after punctuations.Define (kinds.Punctuation punctuations.OpenParen) (λ us. refl) h,
  not-after punctuations.Comma (kinds.Punctuation punctuations.OpenParen) (λ us. refl) h,
)

no-define : (o : BinaryOperator) (us : List Token)
    → (after_kind punctuations.Define (kinds.Punctuation (binary_punctuation o)) us ≡ None)
    × (after_kind punctuations.Comma (kinds.Punctuation (binary_punctuation o)) us ≡ None)
no-define binary.Or us = (refl, refl)
no-define _ us = (refl, refl)

no-name : (o : UnaryOperator) (us : List Token) → name_of (kinds.Punctuation (unary_punctuation o)) us ≡ None
no-name unary.Negate us = refl
no-name _ us = refl

pub begins : (e : Expr) → BeginsNotDefining e
begins = shape.each BeginsNotDefining (λ x. Unit {0})
    (λ d. begins-by (ex.Integer d) _ (shape.print-Integer d)
    (λ ts rest h p q. other-first (kinds.Integer d) (λ us. refl) h))
    (λ d. begins-by (ex.Text d) _ (shape.print-Text d) (λ ts rest h p q. other-first (kinds.Text d) (λ us. refl) h))
    (λ n. begins-by (ex.Name n) _ (shape.print-Name n)
    (λ ts rest h p q. name-first n h (λ us
    g. (ap (after punctuations.Define) (ends g) ∙ p, ap (after punctuations.Comma) (ends g) ∙ q))))
    (λ a ih. begins-by (ex.Parens a) _ (shape.print-Parens a)
    (λ ts rest h p q. other-first (kinds.Punctuation punctuations.OpenParen) (λ us. refl) h))
    (λ n xs. begins-by (ex.StructLiteral n (map (λ p. p.0) xs)) _ (shape.print-StructLiteral n (map (λ p. p.0) xs))
    (λ ts rest h p q. other-first (kinds.Punctuation punctuations.Ampersand) (λ us. refl) h))
    (λ n. begins-by (ex.SyncLiteral n) _ (shape.print-SyncLiteral n)
    (λ ts rest h p q. other-first (kinds.Punctuation punctuations.Ampersand) (λ us. refl) h))
    (λ t xs. begins-by (ex.SliceLiteral t (map (λ p. p.0) xs)) _ (shape.print-SliceLiteral t (map (λ p. p.0) xs))
    (λ ts rest h p q. other-first (kinds.Punctuation punctuations.OpenBracket) (λ us. refl) h))
    (begins-by ex.EmptyLiteral _ shape.print-EmptyLiteral
    (λ ts rest h p q. other-first (kinds.Keyword keywords.Struct) (λ us. refl) h))
    (λ t. begins-by (ex.Make t) _ (shape.print-Make t) (λ ts rest h p q. name-first make h (λ us g. paren-behind g)))
    (λ t a ih. begins-by (ex.MakeSized t a) _ (shape.print-MakeSized t a)
    (λ ts rest h p q. name-first make h (λ us g. paren-behind g)))
    (λ n. begins-by (ex.New n) _ (shape.print-New n) (λ ts rest h p q. name-first new h (λ us g. paren-behind g)))
    (λ n. begins-by (ex.NewSync n) _ (shape.print-NewSync n)
    (λ ts rest h p q. name-first new h (λ us g. paren-behind g)))
    (λ a n ih. begins-by (ex.Selector a n) _ (shape.print-Selector a n) (λ ts rest h p q.
    let w = split (print_expr a) (words.punctuation punctuations.Dot ∷ words.name n ∷ []) h in
    ih ts w.0 w.1 (not-after punctuations.Define (kinds.Punctuation punctuations.Dot) (λ us. refl) w.2)
    (not-after punctuations.Comma (kinds.Punctuation punctuations.Dot) (λ us. refl) w.2)))
    (λ a b ih jh. begins-by (ex.Index a b) _ (shape.print-Index a b) (λ ts rest h p q.
    let w = split (print_expr a) (words.punctuation punctuations.OpenBracket
    ∷ (print_expr b ++ words.punctuation punctuations.CloseBracket ∷ [])) h in
    ih ts w.0 w.1 (not-after punctuations.Define (kinds.Punctuation punctuations.OpenBracket) (λ us. refl) w.2)
    (not-after punctuations.Comma (kinds.Punctuation punctuations.OpenBracket) (λ us. refl) w.2)))
    (λ a xs ih. begins-by (ex.Call a (map (λ p. p.0) xs)) _ (shape.print-Call a (map (λ p. p.0) xs)) (λ ts rest h p q.
    let w = split (print_expr a) (words.punctuation punctuations.OpenParen
    ∷ (words.separated punctuations.Comma (map print_expr (map (λ p. p.0) xs))
    ++ words.punctuation punctuations.CloseParen ∷ [])) h in
    let g = paren-behind w.2 in ih ts w.0 w.1 g.0 g.1))
    (λ o a ih. begins-by (ex.Unary o a) _ (shape.print-Unary o a)
    (λ ts rest h p q. other-first (kinds.Punctuation (unary_punctuation o)) (no-name o) h))
    (λ o a b ih jh. begins-by (ex.Binary o a b) _ (shape.print-Binary o a b) (λ ts rest h p q.
    let w = split (print_expr a) (words.punctuation (binary_punctuation o) ∷ print_expr b) h in
    ih ts w.0 w.1 (not-after punctuations.Define (kinds.Punctuation (binary_punctuation o))
    (λ us. (no-define o us).0) w.2) (not-after punctuations.Comma (kinds.Punctuation (binary_punctuation o))
    (λ us. (no-define o us).1) w.2)))
    (λ n a ih. tt)

-- what may stand after a simple statement
pub record Ends (ts : List Token) : Type 0 where
  pub quiet : Quiet ts
  pub follow : follow_at ts ≡ None
  pub define : after punctuations.Define ts ≡ None
  pub comma : after punctuations.Comma ts ≡ None

-- a statement whose first expression is before neither of the two
by-expression : (header : Bool) (e : Expr) (ts mid : List Token) → Stands header e ts mid → Quiet mid
    → after punctuations.Define mid ≡ None → after punctuations.Comma mid ≡ None
    → kind_at header ts ≡ behind_expr header e mid (follow_at mid)
unfolding kind_at expression_at
by-expression header e ts mid st q d c = at (name_at ts) (begins e ts mid st.spelt d c)
    ∙ then (λ x. behind_expr header x.0 x.1 (follow_at x.1)) (expr_at (Level header 1) ts) (e, mid)
    (expr-complete e header ts mid st q)
  where
    at : (o : Option (List ℕ × List Token)) → NameNotDefining o → kind_by header ts o ≡ expression_at header ts
    at None p = refl
    at (Some n) p = ap (λ o. behind_name header n.0 ts o (after punctuations.Comma n.1)) p.0
        ∙ ap (λ o. behind_name header n.0 ts None o) p.1

-- a punctuation mark that goes on with a simple statement
follow-first : {ws : List Word} {ts rest : List Token} (m : Punctuation) (f : Follow) → follow_of m ≡ Some f
    → Spelt (words.punctuation m ∷ ws) ts rest → (us : List Token) × (follow_at ts ≡ Some (f, us)) × Spelt ws us rest
unfolding follow_at
follow-first m f is h =
    let g = first h in (
      g.1,
      ap follow_at g.2 ∙ ap (λ k. punctuation_of k >>= λ m. follow_of m >>= λ f. Some (f, g.1)) g.3
          ∙ ap (λ o. o >>= λ f. Some (f, g.1)) is,
      g.5,
    )

clear-or : (h a b : Bool) → (h && (a || b)) ≡ false → ((h && a) ≡ false) × ((h && b) ≡ false)
clear-or false a b e = (refl, refl)
clear-or true false b e = (refl, e)
clear-or true true b e = cc

update-is : (o : UpdateOperator) → follow_of (update_punctuation o) ≡ Some (follows.Updates o)
update-is update.Add = refl
update-is _ = refl

update-quiet : {ws : List Word} {ts rest : List Token} (o : UpdateOperator)
    → Spelt (words.punctuation (update_punctuation o) ∷ ws) ts rest → Quiet ts × (after punctuations.Define ts ≡ None)
    × (after punctuations.Comma ts ≡ None)
update-quiet update.Add h = (
  quiet (kinds.Punctuation punctuations.PlusAssign) (λ us. (refl, refl, refl, refl)) h,
  not-after punctuations.Define (kinds.Punctuation punctuations.PlusAssign) (λ us. refl) h,
  not-after punctuations.Comma (kinds.Punctuation punctuations.PlusAssign) (λ us. refl) h,
)
update-quiet update.Subtract h = (
  quiet (kinds.Punctuation punctuations.MinusAssign) (λ us. (refl, refl, refl, refl)) h,
  not-after punctuations.Define (kinds.Punctuation punctuations.MinusAssign) (λ us. refl) h,
  not-after punctuations.Comma (kinds.Punctuation punctuations.MinusAssign) (λ us. refl) h,
)
update-quiet update.Multiply h = (
  quiet (kinds.Punctuation punctuations.StarAssign) (λ us. (refl, refl, refl, refl)) h,
  not-after punctuations.Define (kinds.Punctuation punctuations.StarAssign) (λ us. refl) h,
  not-after punctuations.Comma (kinds.Punctuation punctuations.StarAssign) (λ us. refl) h,
)
update-quiet update.Divide h = (
  quiet (kinds.Punctuation punctuations.SlashAssign) (λ us. (refl, refl, refl, refl)) h,
  not-after punctuations.Define (kinds.Punctuation punctuations.SlashAssign) (λ us. refl) h,
  not-after punctuations.Comma (kinds.Punctuation punctuations.SlashAssign) (λ us. refl) h,
)
update-quiet update.Remainder h = (
  quiet (kinds.Punctuation punctuations.PercentAssign)
      (λ us. (refl, refl, refl, refl)) h,
  not-after punctuations.Define (kinds.Punctuation punctuations.PercentAssign)
      (λ us. refl) h,
  not-after punctuations.Comma (kinds.Punctuation punctuations.PercentAssign) (λ us. refl) h,
)

-- two expressions with a punctuation mark between
by-two : (header : Bool) (a b : Expr) (m : Punctuation) (f : Follow) (wrap : Expr → SimpleKind)
    (ts mid rest : List Token) → follow_of m ≡ Some f
    → ((us : List Token) → followed header a f us ≡ second header wrap us) →
    (form a).good ≡ true → (form b).good ≡ true → (header && (form a).ampersand) ≡ false
    → (header && (form b).ampersand) ≡ false →
    Spelt (print_expr a) ts mid → Spelt (words.punctuation m ∷ print_expr b) mid rest → Quiet mid
    → after punctuations.Define mid ≡ None → after punctuations.Comma mid ≡ None → Quiet rest
    → kind_at header ts ≡ Some (wrap b, rest)
by-two header a b m f wrap ts mid rest is goes ga gb ca cb ha hb q d c qr =
    let g = follow-first m f is hb in
    by-expression header a ts mid (record { good = ga; clear = ca; spelt = ha }) q d c
    ∙ ap (behind_expr header a mid) g.1 ∙ goes g.0
    ∙ then (λ v. Some (wrap v.0, v.1)) (expr_at (Level header 1) g.0) (b, rest)
    (expr-complete b header g.0 rest (record { good = gb; clear = cb; spelt = g.2 }) qr)

defined : (header : Bool) (n : List ℕ) (v : Expr) (ts rest : List Token) → (form v).good ≡ true
    → (header && (form v).ampersand) ≡ false
    → Spelt (words.name n ∷ words.punctuation punctuations.Define ∷ print_expr v) ts rest → Ends rest
    → kind_at header ts ≡ Some (s.Define n v, rest)
unfolding kind_at
defined header n v ts rest good clear h en =
    let f = behind-name n h in
    let d = behind-punctuation punctuations.Define f.2 in
    ap (kind_by header ts) f.1 ∙ ap (λ o. behind_name header n ts o (after punctuations.Comma f.0)) d.1
    ∙ then (λ v. Some (s.Define n v.0, v.1)) (expr_at (Level header 1) d.0) (v, rest)
    (expr-complete v header d.0 rest (record { good = good; clear = clear; spelt = d.2 }) en.quiet)

-- a second name after a comma
paired : (header : Bool) (n : List ℕ) (ts us vs : List Token) → name_at ts ≡ Some (n, us)
    → after punctuations.Define us ≡ None → after punctuations.Comma us ≡ Some vs
    → kind_at header ts ≡ pair_at header n vs
unfolding kind_at
paired header n ts us vs e d c = ap (kind_by header ts) e
    ∙ ap (λ o. behind_name header n ts o (after punctuations.Comma us)) d ∙ ap (λ o. behind_name header n ts None o) c

named-pair : (header : Bool) (n m : List ℕ) (ts us : List Token) → name_at ts ≡ Some (m, us)
    → pair_at header n ts ≡ behind_names header n m us (after punctuations.Define us)
unfolding pair_at
named-pair header n m ts us e = then (λ m. behind_names header n m.0 m.1 (after punctuations.Define m.1)) (name_at ts)
    (m, us) e

-- `<-c`
got : (header : Bool) (wrap : Expr → SimpleKind) (c : Expr) (ts rest : List Token) → (form c).good ≡ true
    → (header && (form c).ampersand) ≡ false → 6 ≤ (form c).top
    → Spelt (words.punctuation punctuations.Arrow ∷ print_expr c) ts rest → Quiet rest
    → received header wrap ts ≡ Some (wrap c, rest)
got header wrap c ts rest good clear top h q =
    let a = behind-punctuation punctuations.Arrow h in
    then (λ us. expr_at (Prefixed header) us >>= λ c. Some (wrap c.0, c.1)) (after punctuations.Arrow ts) a.0 a.1
    ∙ then (λ c. Some (wrap c.0, c.1)) (expr_at (Prefixed header) a.0) (c, rest)
    (prefixed-complete c header a.0 rest (record { good = good; clear = clear; spelt = a.2 }) top q)

-- a simple statement that is printed is read
pub kind-complete : (header : Bool) (k : SimpleKind) (ts rest : List Token) → (simple_form k).good ≡ true
    → (header && (simple_form k).ampersand) ≡ false → Spelt (print_simple_kind k) ts rest → Ends rest
    → kind_at header ts ≡ Some (k, rest)
kind-complete header (s.Expression e) ts rest good clear h en =
    by-expression header e ts rest (record { good = good; clear = clear; spelt = h }) en.quiet en.define en.comma
    ∙ ap (behind_expr header e rest) en.follow
kind-complete header (s.Send a b) ts rest good clear h en =
    let g = both (form a).good (form b).good good in
    let c = clear-or header (form a).ampersand (form b).ampersand clear in
    let w = split (print_expr a) (words.punctuation punctuations.Arrow ∷ print_expr b) h in
    by-two header a b punctuations.Arrow follows.Sends (s.Send a) ts w.0 rest refl (λ us. refl) g.0 g.1 c.0 c.1 w.1 w.2
    (quiet (kinds.Punctuation punctuations.Arrow) (λ us. (refl, refl, refl, refl)) w.2)
    (not-after punctuations.Define (kinds.Punctuation punctuations.Arrow) (λ us. refl) w.2)
    (not-after punctuations.Comma (kinds.Punctuation punctuations.Arrow) (λ us. refl) w.2) en.quiet
kind-complete header (s.Assign a b) ts rest good clear h en =
    let g = both (form a).good (form b).good good in
    let c = clear-or header (form a).ampersand (form b).ampersand clear in
    let w = split (print_expr a) (words.punctuation punctuations.Assign ∷ print_expr b) h in
    by-two header a b punctuations.Assign follows.Assigns (s.Assign a) ts w.0 rest refl
    (λ us. refl) g.0 g.1 c.0 c.1 w.1 w.2
    (quiet (kinds.Punctuation punctuations.Assign) (λ us. (refl, refl, refl, refl)) w.2)
    (not-after punctuations.Define (kinds.Punctuation punctuations.Assign) (λ us. refl) w.2)
    (not-after punctuations.Comma (kinds.Punctuation punctuations.Assign) (λ us. refl) w.2) en.quiet
kind-complete header (s.Update a o b) ts rest good clear h en =
    let g = both (form a).good (form b).good good in
    let c = clear-or header (form a).ampersand (form b).ampersand clear in
    let w = split (print_expr a) (words.punctuation (update_punctuation o) ∷ print_expr b) h in
    let u = update-quiet o w.2 in
    by-two header a b (update_punctuation o) (follows.Updates o) (s.Update a o) ts w.0 rest (update-is o)
    (λ us. refl) g.0 g.1 c.0 c.1 w.1 w.2 u.0 u.1 u.2 en.quiet
kind-complete header (s.Increment a) ts rest good clear h en =
    let w = split (print_expr a) (words.punctuation punctuations.Increment ∷ []) h in
    let g = follow-first punctuations.Increment follows.Increments refl w.2 in
    by-expression header a ts w.0 (record { good = good; clear = clear; spelt = w.1 })
    (quiet (kinds.Punctuation punctuations.Increment) (λ us. (refl, refl, refl, refl)) w.2)
    (not-after punctuations.Define (kinds.Punctuation punctuations.Increment) (λ us. refl) w.2)
    (not-after punctuations.Comma (kinds.Punctuation punctuations.Increment) (λ us. refl) w.2)
    ∙ ap (behind_expr header a w.0) g.1 ∙ ap (λ us. Some (s.Increment a, us)) (ends g.2)
kind-complete header (s.Decrement a) ts rest good clear h en =
    let w = split (print_expr a) (words.punctuation punctuations.Decrement ∷ []) h in
    let g = follow-first punctuations.Decrement follows.Decrements refl w.2 in
    by-expression header a ts w.0 (record { good = good; clear = clear; spelt = w.1 })
    (quiet (kinds.Punctuation punctuations.Decrement) (λ us. (refl, refl, refl, refl)) w.2)
    (not-after punctuations.Define (kinds.Punctuation punctuations.Decrement) (λ us. refl) w.2)
    (not-after punctuations.Comma (kinds.Punctuation punctuations.Decrement) (λ us. refl) w.2)
    ∙ ap (behind_expr header a w.0) g.1 ∙ ap (λ us. Some (s.Decrement a, us)) (ends g.2)
kind-complete header (s.Define n v) ts rest good clear h en = defined header n v ts rest good clear h en
kind-complete header (s.DefineReceived n m c) ts rest good clear h en =
    let f = behind-name n h in
    let a = behind-punctuation punctuations.Comma f.2 in
    let b = behind-name m a.2 in
    let d = behind-punctuation punctuations.Define b.2 in
    let g = both (form c).good (nat_le 6 (form c).top) good in
    paired header n ts f.0 a.0 f.1 (not-after punctuations.Define (kinds.Punctuation punctuations.Comma)
    (λ us. refl) f.2) a.1
    ∙ named-pair header n m a.0 b.0 b.1 ∙ ap (behind_names header n m b.0) d.1
    ∙ got header (s.DefineReceived n m) c d.0 rest g.0 clear (true-le 6 (form c).top g.1) d.2 en.quiet
kind-complete header (s.AssignReceived n m c) ts rest good clear h en =
    let f = behind-name n h in
    let a = behind-punctuation punctuations.Comma f.2 in
    let b = behind-name m a.2 in
    let d = behind-punctuation punctuations.Assign b.2 in
    let g = both (form c).good (nat_le 6 (form c).top) good in
    paired header n ts f.0 a.0 f.1 (not-after punctuations.Define (kinds.Punctuation punctuations.Comma)
    (λ us. refl) f.2) a.1
    ∙ named-pair header n m a.0 b.0 b.1 ∙ ap (behind_names header n m b.0)
    (not-after punctuations.Define (kinds.Punctuation punctuations.Assign) (λ us. refl) b.2)
    ∙ then (received header (s.AssignReceived n m)) (after punctuations.Assign b.0) d.0 d.1
    ∙ got header (s.AssignReceived n m) c d.0 rest g.0 clear (true-le 6 (form c).top g.1) d.2 en.quiet

-- a well-formed simple statement in these tokens, up to those that are left
pub record IsSimple (header : Bool) (ts : List Token) (x : SimpleKind × List Token) : Type 0 where
  pub words : Spelt (print_simple_kind x.0) ts x.1
  pub good : (simple_form x.0).good ≡ true
  pub clear : (header && (simple_form x.0).ampersand) ≡ false

clear-both : (h a b : Bool) → (h && a) ≡ false → (h && b) ≡ false → (h && (a || b)) ≡ false
clear-both false a b p q = refl
clear-both true false b p q = q
clear-both true true b p q = cc

punctuation-kind : (k : TokenKind) (m : Punctuation) → punctuation_of k ≡ Some m → k ≡ kinds.Punctuation m
punctuation-kind (kinds.Punctuation n) m e = ap kinds.Punctuation (some-same n m e)
punctuation-kind _ m e = cc

-- the punctuation mark that is told
abbrev follow_punctuation : Follow → Punctuation
follow_punctuation follows.Sends = punctuations.Arrow
follow_punctuation follows.Increments = punctuations.Increment
follow_punctuation follows.Decrements = punctuations.Decrement
follow_punctuation follows.Assigns = punctuations.Assign
follow_punctuation (follows.Updates o) = update_punctuation o

follow-punctuation : (m : Punctuation) (f : Follow) → follow_of m ≡ Some f → m ≡ follow_punctuation f
follow-punctuation punctuations.Arrow f e = ap follow_punctuation (some-same follows.Sends f e)
follow-punctuation punctuations.Increment f e = ap follow_punctuation (some-same follows.Increments f e)
follow-punctuation punctuations.Decrement f e = ap follow_punctuation (some-same follows.Decrements f e)
follow-punctuation punctuations.Assign f e = ap follow_punctuation (some-same follows.Assigns f e)
follow-punctuation punctuations.PlusAssign f e = ap follow_punctuation (some-same (follows.Updates update.Add) f e)
follow-punctuation punctuations.MinusAssign f e =
    ap follow_punctuation (some-same (follows.Updates update.Subtract) f e)
follow-punctuation punctuations.StarAssign f e = ap follow_punctuation (some-same (follows.Updates update.Multiply) f e)
follow-punctuation punctuations.SlashAssign f e = ap follow_punctuation (some-same (follows.Updates update.Divide) f e)
follow-punctuation punctuations.PercentAssign f e =
    ap follow_punctuation (some-same (follows.Updates update.Remainder) f e)
follow-punctuation _ f e = cc

follow-sound : (ts : List Token) (x : Follow × List Token) → follow_at ts ≡ Some x
    → Spelt (words.punctuation (follow_punctuation x.0) ∷ []) ts x.1
unfolding follow_at
follow-sound [] x e = cc
follow-sound (t ∷ ts) x e =
    let a = bind_some (punctuation_of t.kind) (λ m. follow_of m >>= λ f. Some (f, ts)) x e in
    let b = bind_some (follow_of a.0) (λ f. Some (f, ts)) x a.2 in
    subst (λ (y : Follow × List Token). Spelt (words.punctuation (follow_punctuation y.0) ∷ []) (t ∷ ts) y.1)
    (some-same (b.0, ts) x b.2)
    (kind-then t (kinds.Punctuation (follow_punctuation b.0))
    (punctuation-kind t.kind a.0 a.1 ∙ ap kinds.Punctuation (follow-punctuation a.0 b.0 b.1)) nothing)

module _ (header : Bool) where
  -- a second expression after a punctuation mark
  second-sound : (e : Expr) (m : Punctuation) (wrap : Expr → SimpleKind) (ts mid us : List Token)
      (x : SimpleKind × List Token) → IsAtLevel header 1 ts (e, mid) → Spelt (words.punctuation m ∷ []) mid us →
      ((v : Expr) → print_simple_kind (wrap v) ≡ print_expr e ++ words.punctuation m ∷ print_expr v)
      → ((v : Expr) → simple_form (wrap v) ≡ two e v) → second header wrap us ≡ Some x → IsSimple header ts x
  second-sound e m wrap ts mid us x k w p f is =
      let b = bind_some (expr_at (Level header 1) us) (λ v. Some (wrap v.0, v.1)) x is in
      let v = expr-sound header us b.0 b.1 in
      subst (IsSimple header ts) (some-same (wrap b.0.0, b.0.1) x b.2) (record {
        words = subst (λ vs. Spelt vs ts b.0.1) (sym (p b.0.0)) (join k.words (join w v.words));
        good = ap (λ (g : SimpleForm). g.good) (f b.0.0) ∙ and-true (form e).good (form b.0.0).good k.good v.good;
        clear = ap (λ (g : SimpleForm). header && g.ampersand) (f b.0.0)
            ∙ clear-both header (form e).ampersand (form b.0.0).ampersand k.clear v.clear;
      })

  followed-sound : (e : Expr) (ts mid us : List Token) (f : Follow) (x : SimpleKind × List Token)
      → IsAtLevel header 1 ts (e, mid) → Spelt (words.punctuation (follow_punctuation f) ∷ []) mid us
      → followed header e f us ≡ Some x → IsSimple header ts x
  followed-sound e ts mid us follows.Sends x k w is =
      second-sound e punctuations.Arrow (s.Send e) ts mid us x k w (λ v. refl) (λ v. refl) is
  followed-sound e ts mid us follows.Assigns x k w is =
      second-sound e punctuations.Assign (s.Assign e) ts mid us x k w (λ v. refl) (λ v. refl) is
  followed-sound e ts mid us (follows.Updates o) x k w is =
      second-sound e (update_punctuation o) (s.Update e o) ts mid us x k w (λ v. refl) (λ v. refl) is
  followed-sound e ts mid us follows.Increments x k w is =
      subst (IsSimple header ts) (some-same (s.Increment e, us) x is)
      (record { words = join k.words w; good = k.good; clear = k.clear })
  followed-sound e ts mid us follows.Decrements x k w is =
      subst (IsSimple header ts) (some-same (s.Decrement e, us) x is)
      (record { words = join k.words w; good = k.good; clear = k.clear })

  expression-sound : (ts : List Token) (x : SimpleKind × List Token) → expression_at header ts ≡ Some x
      → IsSimple header ts x
  unfolding expression_at
  expression-sound ts x e =
      let a = bind_some (expr_at (Level header 1) ts) (λ y. behind_expr header y.0 y.1 (follow_at y.1)) x e in
      at a.0.0 a.0.1 (expr-sound header ts a.0 a.1) (follow_at a.0.1) refl a.2
    where
      at : (y : Expr) (mid : List Token) → IsAtLevel header 1 ts (y, mid) → (o : Option (Follow × List Token))
          → follow_at mid ≡ o → behind_expr header y mid o ≡ Some x → IsSimple header ts x
      at y mid k None f is = subst (IsSimple header ts) (some-same (s.Expression y, mid) x is)
          (record { words = k.words; good = k.good; clear = k.clear })
      at y mid k (Some g) f is = followed-sound y ts mid g.1 g.0 x k (follow-sound mid g f) is

  received-sound : (wrap : Expr → SimpleKind) (before : List Word) (d : Bool) (ts us : List Token)
      (x : SimpleKind × List Token) → Spelt before ts us →
      ((c : Expr) → print_simple_kind (wrap c) ≡ before ++ words.punctuation punctuations.Arrow ∷ print_expr c)
      → ((c : Expr) → simple_form (wrap c) ≡ received_form d c) → received header wrap us ≡ Some x
      → IsSimple header ts x
  received-sound wrap before d ts us x w p f e =
      let a = bind_some (after punctuations.Arrow us)
      (λ vs. expr_at (Prefixed header) vs >>= λ c. Some (wrap c.0, c.1)) x e in
      let b = bind_some (expr_at (Prefixed header) a.0) (λ c. Some (wrap c.0, c.1)) x a.2 in
      let c = prefixed-is-sound header a.0 b.0 b.1 in
      subst (IsSimple header ts) (some-same (wrap b.0.0, b.0.1) x b.2) (record {
        words = subst (λ vs. Spelt vs ts b.0.1) (sym (p b.0.0))
            (join w (punctuation-then punctuations.Arrow us a.1 c.words));
        good = ap (λ (g : SimpleForm). g.good) (f b.0.0)
            ∙ and-true (form b.0.0).good (nat_le 6 (form b.0.0).top) c.good (le-true 6 (form b.0.0).top c.top);
        clear = ap (λ (g : SimpleForm). header && g.ampersand) (f b.0.0) ∙ c.clear;
      })

  pair-sound : (n : List ℕ) (ts us vs : List Token) (x : SimpleKind × List Token) → name_at ts ≡ Some (n, us)
      → after punctuations.Comma us ≡ Some vs → pair_at header n vs ≡ Some x → IsSimple header ts x
  unfolding pair_at
  pair-sound n ts us vs x p c e =
      let a = bind_some (name_at vs) (λ m. behind_names header n m.0 m.1 (after punctuations.Define m.1)) x e in
      at a.0.0 a.0.1 a.1 (after punctuations.Define a.0.1) refl a.2
    where
      at : (m : List ℕ) (qs : List Token) → name_at vs ≡ Some (m, qs) → (o : Option (List Token))
          → after punctuations.Define qs ≡ o → behind_names header n m qs o ≡ Some x → IsSimple header ts x
      at m qs q (Some zs) d is =
          received-sound (s.DefineReceived n m)
          (words.name n ∷ words.punctuation punctuations.Comma ∷ words.name m
          ∷ words.punctuation punctuations.Define ∷ []) true ts zs x
          (name-then n ts p (punctuation-then punctuations.Comma us c
          (name-then m vs q (punctuation-then punctuations.Define qs d nothing)))) (λ c. refl) (λ c. refl) is
      at m qs q None d is =
          let b = bind_some (after punctuations.Assign qs) (received header (s.AssignReceived n m)) x is in
          received-sound (s.AssignReceived n m)
          (words.name n ∷ words.punctuation punctuations.Comma ∷ words.name m
          ∷ words.punctuation punctuations.Assign ∷ []) false ts b.0 x
          (name-then n ts p (punctuation-then punctuations.Comma us c
          (name-then m vs q (punctuation-then punctuations.Assign qs b.1 nothing)))) (λ c. refl) (λ c. refl) b.2

  -- what is read is a simple statement
  pub kind-sound : (ts : List Token) (x : SimpleKind × List Token) → kind_at header ts ≡ Some x → IsSimple header ts x
  unfolding kind_at
  kind-sound ts x e = at (name_at ts) refl e
    where
      named : (n : List ℕ) (us : List Token) → name_at ts ≡ Some (n, us) → (d c : Option (List Token))
          → after punctuations.Define us ≡ d → after punctuations.Comma us ≡ c → behind_name header n ts d c ≡ Some x
          → IsSimple header ts x
      named n us p (Some vs) c q r is =
          let b = bind_some (expr_at (Level header 1) vs) (λ v. Some (s.Define n v.0, v.1)) x is in
          let v = expr-sound header vs b.0 b.1 in
          subst (IsSimple header ts) (some-same (s.Define n b.0.0, b.0.1) x b.2)
          (record {
            words = name-then n ts p (punctuation-then punctuations.Define us q v.words);
            good = v.good;
            clear = v.clear;
          })
      named n us p None (Some vs) q r is = pair-sound n ts us vs x p r is
      named n us p None None q r is = expression-sound ts x is

      at : (o : Option (List ℕ × List Token)) → name_at ts ≡ o → kind_by header ts o ≡ Some x → IsSimple header ts x
      at None p is = expression-sound ts x is
      at (Some n) p is = named n.0 n.1 p (after punctuations.Define n.1) (after punctuations.Comma n.1) refl refl is
