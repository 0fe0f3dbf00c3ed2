-- A communication is read exactly if it is printed.
-- For: `comm_at` (golf_syntax_statements/specs/CommunicationReader.antt) and `comm_at` (src/communications.rt)
-- By: cases of the simple statement that is read; induction over the tree of an expression for what it begins with
use Rattle.std.proofs.Common.{◌≡◌, ℕ, true, false, ◌&&◌, List, [], ◌∷◌, refl, ap, sym, subst, ◌∙◌}
use Rattle.std.specs.Prelude.{Option, Some, None, nat_le}
use Rattle.golf_lex_tokens.specs.declared.token.Token.{Token}
use Rattle.golf_lex_tokens.specs.declared.token.TokenKind.{TokenKind}
use Rattle.golf_lex_tokens.specs.declared.token.TokenKind.TheVariants as kinds
use Rattle.golf_lex_tokens.specs.declared.token.Punctuation.{Punctuation}
use Rattle.golf_lex_tokens.specs.declared.token.Punctuation.TheVariants as punctuations
use Rattle.golf_lex_tokens.specs.declared.token.Keyword.TheVariants as keywords
use Rattle.golf_syntax_trees.specs.declared.expressions.UnaryOperator.{UnaryOperator}
use Rattle.golf_syntax_trees.specs.declared.expressions.UnaryOperator.TheVariants as unary
use Rattle.golf_syntax_trees.specs.declared.expressions.BinaryOperator.{BinaryOperator}
use Rattle.golf_syntax_trees.specs.declared.expressions.BinaryOperator.TheVariants as binary
use Rattle.golf_syntax_trees.specs.declared.expressions.Expr.{Expr}
use Rattle.golf_syntax_trees.specs.declared.expressions.Expr.TheVariants as ex
use Rattle.golf_syntax_trees.specs.declared.statements.Simple.{Simple}
use Rattle.golf_syntax_trees.specs.declared.statements.SimpleKind.{SimpleKind}
use Rattle.golf_syntax_trees.specs.declared.statements.SimpleKind.TheVariants as s
use Rattle.golf_syntax_trees.specs.declared.statements.Communication.{Communication}
use Rattle.golf_syntax_trees.specs.declared.statements.Communication.TheVariants as comm
use Rattle.golf_syntax_trees.specs.Words as words
use Rattle.golf_syntax_trees.specs.Words.{Word}
use Rattle.golf_syntax_trees.specs.Expressions.{make, new, unary_punctuation, binary_punctuation, print_expr, form}
use Rattle.golf_syntax_trees.specs.Expressions.{Form}
use Rattle.golf_syntax_trees.specs.Simple.{print_simple_kind, simple_form, print_comm, comm_good}
use Rattle.golf_syntax_expressions.specs.Plan.{◌>>=◌}
use Rattle.golf_syntax_expressions.specs.Front.{after, after_kind, name_at, name_of}
use Rattle.golf_syntax_expressions.specs.ExpressionReader.{Prefixed, expr_at}
use Rattle.golf_syntax_expressions.specs.SimpleStatementReader.{kind_at, simple_at}
use Rattle.golf_syntax_expressions.proofs.Plans.{bind_some}
use Rattle.golf_syntax_expressions.proofs.Fronts.{some-same, both, and-true, Spelt, punctuation-then, name-then, split}
use Rattle.golf_syntax_expressions.proofs.Fronts.{first, ends, behind-punctuation, behind-name, not-after}
use Rattle.golf_syntax_expressions.proofs.ExprShapes as shape
use Rattle.golf_syntax_expressions.proofs.ExprFronts.{le-true, true-le, then}
use Rattle.golf_syntax_expressions.proofs.ExprSound.{prefixed-is-sound}
use Rattle.golf_syntax_expressions.proofs.ExprComplete.{prefixed-complete}
use Rattle.golf_syntax_expressions.proofs.SimpleLaws.{kind-sound, kind-complete}
use Rattle.golf_syntax_expressions.proofs.SimpleLines.{unlined-kind}
use Rattle.golf_syntax_statements.specs.CommunicationReader.{channel_of, comm_of, assigned_at, comm_by, comm_at}
use Rattle.golf_syntax_statements.proofs.Nothing.{Stops}
use Rattle.golf_syntax_statements.proofs.Channels.{channel-is}
use Rattle.golf_syntax_trees.proofs.Parts.{channel_parts}

-- a well-formed communication in these tokens, up to those that are left
pub record IsComm (ts : List Token) (x : Communication × List Token) : Type 0 where
  pub words : Spelt (print_comm x.0) ts x.1
  pub good : comm_good x.0 ≡ true

-- what a receive prints, and its form
receive-words : (e c : Expr) → channel_of e ≡ Some c → print_expr e ≡ words.punctuation punctuations.Arrow
    ∷ print_expr c
receive-words e c h = ap print_expr (channel-is e c h) ∙ shape.print-Unary unary.Receive c

receive-good : (e c : Expr) → channel_of e ≡ Some c → (form e).good ≡ ((form c).good && nat_le 6 (form c).top)
receive-good e c h = ap (λ x. (form x).good) (channel-is e c h)
    ∙ ap (λ (f : Form). f.good) (shape.form-Unary unary.Receive c)

-- a simple statement that is a communication
of-simple : (k : SimpleKind) (ts rest : List Token) (c : Communication) → Spelt (print_simple_kind k) ts rest
    → (simple_form k).good ≡ true → comm_of k ≡ Some c → IsComm ts (c, rest)
of-simple (s.Expression e) ts rest c h g is =
    let a = bind_some (channel_of e) (λ d. Some (comm.Receive d)) c is in
    subst (λ x. IsComm ts (x, rest)) (some-same (comm.Receive a.0) c a.2)
    (record {
      words = subst (λ ws. Spelt ws ts rest) (receive-words e a.0 a.1) h;
      good = sym (receive-good e a.0 a.1) ∙ g;
    })
of-simple (s.Send d v) ts rest c h g is =
    subst (λ x. IsComm ts (x, rest)) (some-same (comm.Send d v) c is) (record { words = h; good = g })
of-simple (s.Define n v) ts rest c h g is =
    let a = bind_some (channel_of v) (λ d. Some (comm.Define n d)) c is in
    subst (λ x. IsComm ts (x, rest)) (some-same (comm.Define n a.0) c a.2)
    (record {
      words = subst (λ ws. Spelt (words.name n ∷ words.punctuation punctuations.Define ∷ ws) ts rest)
          (receive-words v a.0 a.1) h;
      good = sym (receive-good v a.0 a.1) ∙ g;
    })
of-simple (s.DefineReceived n m d) ts rest c h g is =
    subst (λ x. IsComm ts (x, rest)) (some-same (comm.DefineReceived n m d) c is) (record { words = h; good = g })
of-simple _ ts rest c h g is = cc

record Front (ts : List Token) (n : List ℕ × List Token) : Type 0 where
  behind : List Token
  name : name_at ts ≡ Some (n.0, behind)
  assign : after punctuations.Assign behind ≡ Some n.1

front : (ts : List Token) (n : List ℕ × List Token) → assigned_at ts ≡ Some n → Front ts n
front ts n e =
    let a = bind_some (name_at ts) (λ m. after punctuations.Assign m.1 >>= λ us. Some (m.0, us)) n e in
    let b = bind_some (after punctuations.Assign a.0.1) (λ us. Some (a.0.0, us)) n a.2 in
    subst (Front ts) (some-same (a.0.0, b.0) n b.2) (record { behind = a.0.1; name = a.1; assign = b.1 })

pub comm-sound : (ts : List Token) (x : Communication × List Token) → comm_at ts ≡ Some x → IsComm ts x
unfolding comm_at simple_at
comm-sound ts x e = at (assigned_at ts) refl e
  where
    without_name : (us : List Token) → us ≡ ts
        → (simple_at false us >>= λ y. comm_of y.0.kind >>= λ c. Some (c, y.1)) ≡ Some x → IsComm us x
    without_name [] p f = cc
    without_name (t ∷ us) p f =
        let a = bind_some (simple_at false (t ∷ us)) (λ y. comm_of y.0.kind >>= λ c. Some (c, y.1)) x f in
        let b = bind_some (kind_at false (t ∷ us)) (λ y. Some (record { line = t.line; kind = y.0 }, y.1)) a.0 a.1 in
        let k = kind-sound false (t ∷ us) b.0 b.1 in
        let same : (b.0.0 ≡ a.0.0.kind) × (b.0.1 ≡ a.0.1) = (
          ap (λ (y : Simple × List Token). y.0.kind)
              (some-same (record { line = t.line; kind = b.0.0 }, b.0.1) a.0 b.2),
          ap (λ (y : Simple × List Token). y.1)
              (some-same (record { line = t.line; kind = b.0.0 }, b.0.1) a.0 b.2),
        ) in
        let d = bind_some (comm_of a.0.0.kind) (λ c. Some (c, a.0.1)) x a.2 in
        let r = of-simple b.0.0 (t ∷ us) b.0.1 d.0 k.words k.good (ap comm_of same.0 ∙ d.1) in
        subst (IsComm (t ∷ us)) (ap (λ q. (d.0, q)) same.1 ∙ some-same (d.0, a.0.1) x d.2) r

    at : (o : Option (List ℕ × List Token)) → assigned_at ts ≡ o → comm_by ts o ≡ Some x → IsComm ts x
    at None q f = without_name ts refl f
    at (Some n) q f =
        let w = front ts n q in
        let a = bind_some (after punctuations.Arrow n.1)
        (λ us. expr_at (Prefixed false) us >>= λ c. Some (comm.Assign n.0 c.0, c.1)) x f in
        let b = bind_some (expr_at (Prefixed false) a.0) (λ c. Some (comm.Assign n.0 c.0, c.1)) x a.2 in
        let c = prefixed-is-sound false a.0 b.0 b.1 in
        subst (IsComm ts) (some-same (comm.Assign n.0 b.0.0, b.0.1) x b.2) (record {
          words = name-then n.0 ts w.name (punctuation-then punctuations.Assign w.behind w.assign
              (punctuation-then punctuations.Arrow n.1 a.1 c.words));
          good = and-true (form b.0.0).good (nat_le 6 (form b.0.0).top) c.good (le-true 6 (form b.0.0).top c.top);
        })

-- no `=` stands after a name in front
abbrev NameNotAssigning : Option (List ℕ × List Token) → Type 0
NameNotAssigning None = Unit {0}
NameNotAssigning (Some n) = after punctuations.Assign n.1 ≡ None

abbrev NotAssigning : List Token → Type 0
NotAssigning ts = NameNotAssigning (name_at ts)

abbrev BeginsNotAssigning : Expr → Type 0
BeginsNotAssigning e = (ts rest : List Token) → Spelt (print_expr e) ts rest → after punctuations.Assign rest ≡ None
    → NotAssigning ts

other-first : {ws : List Word} {ts rest : List Token} (k : TokenKind) → ((us : List Token) → name_of k us ≡ None)
    → Spelt (words.word k ∷ ws) ts rest → NotAssigning ts
other-first k other h = let f = first h in subst NameNotAssigning
    (sym (ap name_at f.2 ∙ ap (λ q. name_of q f.1) f.3 ∙ other f.1)) tt

name-first : {ws : List Word} {ts rest : List Token} (n : List ℕ) → Spelt (words.name n ∷ ws) ts rest
    → ((us : List Token) → Spelt ws us rest → after punctuations.Assign us ≡ None) → NotAssigning ts
name-first n h k = let f = behind-name n h in subst NameNotAssigning (sym f.1) (k f.0 f.2)

begins-by : (e : Expr) (ws : List Word) → print_expr e ≡ ws
    → ((ts rest : List Token) → Spelt ws ts rest → after punctuations.Assign rest ≡ None → NotAssigning ts)
    → BeginsNotAssigning e
begins-by e ws p k ts rest h d = k ts rest (subst (λ vs. Spelt vs ts rest) p h) d

no-assign : (m : Punctuation) → ((us : List Token) → after_kind punctuations.Assign (kinds.Punctuation m) us ≡ None)
    → {ws : List Word} {ts rest : List Token} → Spelt (words.punctuation m ∷ ws) ts rest
    → after punctuations.Assign ts ≡ None
no-assign m k h = not-after punctuations.Assign (kinds.Punctuation m) k h

no-operator : (o : BinaryOperator) (us : List Token)
    → after_kind punctuations.Assign (kinds.Punctuation (binary_punctuation o)) us ≡ None
no-operator binary.Or us = refl
no-operator _ us = refl

no-name : (o : UnaryOperator) (us : List Token) → name_of (kinds.Punctuation (unary_punctuation o)) us ≡ None
no-name unary.Negate us = refl
no-name _ us = refl

begins : (e : Expr) → BeginsNotAssigning e
begins = shape.each BeginsNotAssigning (λ x. Unit {0})
    (λ d. begins-by (ex.Integer d) _ (shape.print-Integer d)
    (λ ts rest h p. other-first (kinds.Integer d) (λ us. refl) h))
    (λ d. begins-by (ex.Text d) _ (shape.print-Text d) (λ ts rest h p. other-first (kinds.Text d) (λ us. refl) h))
    (λ n. begins-by (ex.Name n) _ (shape.print-Name n)
    (λ ts rest h p. name-first n h (λ us g. ap (after punctuations.Assign) (ends g) ∙ p)))
    (λ a ih. begins-by (ex.Parens a) _ (shape.print-Parens a)
    (λ ts rest h p. other-first (kinds.Punctuation punctuations.OpenParen) (λ us. refl) h))
    (λ n xs. begins-by (ex.StructLiteral n _) _ (shape.print-StructLiteral n _)
    (λ ts rest h p. other-first (kinds.Punctuation punctuations.Ampersand) (λ us. refl) h))
    (λ n. begins-by (ex.SyncLiteral n) _ (shape.print-SyncLiteral n)
    (λ ts rest h p. other-first (kinds.Punctuation punctuations.Ampersand) (λ us. refl) h))
    (λ t xs. begins-by (ex.SliceLiteral t _) _ (shape.print-SliceLiteral t _)
    (λ ts rest h p. other-first (kinds.Punctuation punctuations.OpenBracket) (λ us. refl) h))
    (begins-by ex.EmptyLiteral _ shape.print-EmptyLiteral
    (λ ts rest h p. other-first (kinds.Keyword keywords.Struct) (λ us. refl) h))
    (λ t. begins-by (ex.Make t) _ (shape.print-Make t)
    (λ ts rest h p. name-first make h (λ us g. no-assign punctuations.OpenParen (λ vs. refl) g)))
    (λ t a ih. begins-by (ex.MakeSized t a) _ (shape.print-MakeSized t a)
    (λ ts rest h p. name-first make h (λ us g. no-assign punctuations.OpenParen (λ vs. refl) g)))
    (λ n. begins-by (ex.New n) _ (shape.print-New n)
    (λ ts rest h p. name-first new h (λ us g. no-assign punctuations.OpenParen (λ vs. refl) g)))
    (λ n. begins-by (ex.NewSync n) _ (shape.print-NewSync n)
    (λ ts rest h p. name-first new h (λ us g. no-assign punctuations.OpenParen (λ vs. refl) g)))
    (λ a n ih. begins-by (ex.Selector a n) _ (shape.print-Selector a n)
    (λ ts rest h p. let w = split (print_expr a) _ h in ih ts w.0 w.1
    (no-assign punctuations.Dot (λ vs. refl) w.2)))
    (λ a b ih jh. begins-by (ex.Index a b) _ (shape.print-Index a b)
    (λ ts rest h p. let w = split (print_expr a) _ h in ih ts w.0 w.1
    (no-assign punctuations.OpenBracket (λ vs. refl) w.2)))
    (λ a xs ih. begins-by (ex.Call a _) _ (shape.print-Call a _)
    (λ ts rest h p. let w = split (print_expr a) _ h in ih ts w.0 w.1
    (no-assign punctuations.OpenParen (λ vs. refl) w.2)))
    (λ o a ih. begins-by (ex.Unary o a) _ (shape.print-Unary o a)
    (λ ts rest h p. other-first (kinds.Punctuation (unary_punctuation o)) (no-name o) h))
    (λ o a b ih jh. begins-by (ex.Binary o a b) _ (shape.print-Binary o a b)
    (λ ts rest h p. let w = split (print_expr a) _ h in ih ts w.0 w.1
    (no-assign (binary_punctuation o) (no-operator o) w.2)))
    (λ n a ih. tt)

not-assigned : (ts : List Token) → NotAssigning ts → assigned_at ts ≡ None
not-assigned ts p = at (name_at ts) p
  where
    at : (o : Option (List ℕ × List Token)) → NameNotAssigning o
        → ◌≡◌ {A = Option (List ℕ × List Token)}
        (o >>= λ n. after punctuations.Assign n.1 >>= λ us. Some (n.0, us)) None
    at None p = refl
    at (Some n) p = ap (λ q. ◌>>=◌ {B = List ℕ × List Token} q (λ us. Some (n.0, us))) p

-- a communication that is a simple statement
by-simple : (k : SimpleKind) (c : Communication) (ts rest : List Token) → NotAssigning ts → comm_of k ≡ Some c
    → (simple_form k).good ≡ true → Spelt (print_simple_kind k) ts rest → Stops rest → comm_at ts ≡ Some (c, rest)
unfolding comm_at simple_at
by-simple k c [] rest p is g h st = let u = unlined-kind k in absurd (subst (λ ws. Spelt ws [] rest) u.are h).are
by-simple k c (t ∷ ts) rest p is g h st =
    ap (comm_by (t ∷ ts)) (not-assigned (t ∷ ts) p)
    ∙ then (λ y. comm_of y.0.kind >>= λ c. Some (c, y.1)) (simple_at false (t ∷ ts))
    (record { line = t.line; kind = k }, rest)
    (then (λ y. Some (record { line = t.line; kind = y.0 }, y.1)) (kind_at false (t ∷ ts)) (k, rest)
    (kind-complete false k (t ∷ ts) rest g refl h st.ends))
    ∙ then (λ c. Some (c, rest)) (comm_of k) c is

receive-form : (c : Expr) → (form (ex.Unary unary.Receive c)).good ≡ ((form c).good && nat_le 6 (form c).top)
receive-form c = ap (λ (f : Form). f.good) (shape.form-Unary unary.Receive c)

received : (c : Expr) → channel_of (ex.Unary unary.Receive c) ≡ Some c
received c = channel_parts unary.Receive c

pub comm-complete : (c : Communication) (ts rest : List Token) → comm_good c ≡ true → Spelt (print_comm c) ts rest
    → Stops rest → comm_at ts ≡ Some (c, rest)
unfolding comm_at
comm-complete (comm.Send d v) ts rest good h st =
    let w = split (print_expr d) (words.punctuation punctuations.Arrow ∷ print_expr v) h in
    by-simple (s.Send d v) (comm.Send d v) ts rest
    (begins d ts w.0 w.1 (no-assign punctuations.Arrow (λ us. refl) w.2)) refl good h st
comm-complete (comm.Receive d) ts rest good h st =
    by-simple (s.Expression (ex.Unary unary.Receive d)) (comm.Receive d) ts rest
    (other-first (kinds.Punctuation punctuations.Arrow) (λ us. refl) h)
    (ap (λ o. o >>= λ d. Some (comm.Receive d)) (received d)) (receive-form d ∙ good)
    (subst (λ ws. Spelt ws ts rest) (sym (shape.print-Unary unary.Receive d)) h) st
comm-complete (comm.Define n d) ts rest good h st =
    by-simple (s.Define n (ex.Unary unary.Receive d)) (comm.Define n d) ts rest
    (name-first n h (λ us g. no-assign punctuations.Define (λ vs. refl) g))
    (ap (λ o. o >>= λ d. Some (comm.Define n d)) (received d)) (receive-form d ∙ good)
    (subst (λ ws. Spelt (words.name n ∷ words.punctuation punctuations.Define ∷ ws) ts rest)
    (sym (shape.print-Unary unary.Receive d)) h) st
comm-complete (comm.DefineReceived n m d) ts rest good h st =
    by-simple (s.DefineReceived n m d) (comm.DefineReceived n m d) ts rest
    (name-first n h (λ us g. no-assign punctuations.Comma (λ vs. refl) g)) refl good h st
comm-complete (comm.Assign n d) ts rest good h st =
    let f = behind-name n h in
    let a = behind-punctuation punctuations.Assign f.2 in
    let b = behind-punctuation punctuations.Arrow a.2 in
    let g = both (form d).good (nat_le 6 (form d).top) good in
    ap (comm_by ts) (then (λ n. after punctuations.Assign n.1 >>= λ us. Some (n.0, us)) (name_at ts) (n, f.0) f.1
    ∙ then (λ us. Some (n, us)) (after punctuations.Assign f.0) a.0 a.1)
    ∙ then (λ us. expr_at (Prefixed false) us >>= λ c. Some (comm.Assign n c.0, c.1))
    (after punctuations.Arrow a.0) b.0 b.1
    ∙ then (λ c. Some (comm.Assign n c.0, c.1)) (expr_at (Prefixed false) b.0) (d, rest)
    (prefixed-complete d false b.0 rest (record { good = g.0; clear = refl; spelt = b.2 })
    (true-le 6 (form d).top g.1) st.ends.quiet)
