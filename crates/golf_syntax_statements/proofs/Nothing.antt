-- Where nothing is read: no expression or simple statement at a stop such as `;` or `}`, no type at `=`.
-- For: `expr_at` (golf_syntax_expressions/specs/ExpressionReader.antt)
-- By: cases of the punctuation; no induction
use Rattle.std.proofs.Common.{◌≡◌, ℕ, Bool, List, [], ◌∷◌, refl, ap, ◌∙◌}
use Rattle.std.specs.Prelude.{Some, None}
use Rattle.golf_lex_tokens.specs.declared.token.Token.{Token}
use Rattle.golf_lex_tokens.specs.declared.token.TokenKind.TheVariants as kinds
use Rattle.golf_lex_tokens.specs.declared.token.Punctuation.{Punctuation}
use Rattle.golf_lex_tokens.specs.declared.token.Punctuation.TheVariants as punctuations
use Rattle.golf_syntax_trees.specs.Words as words
use Rattle.golf_syntax_trees.specs.Words.{Word}
use Rattle.golf_syntax_expressions.specs.Plan.{◌>>=◌}
use Rattle.golf_syntax_expressions.specs.Front.{after, name_at, name_of}
use Rattle.golf_syntax_expressions.specs.Starts.{punctuation_start, start_from}
use Rattle.golf_syntax_expressions.specs.ExpressionReader.{Level, Climb, expr_at}
use Rattle.golf_syntax_expressions.specs.SimpleStatementReader.{behind_expr, kind_by, kind_at, expression_at, follow_at}
use Rattle.golf_syntax_expressions.specs.SimpleStatementReader.{simple_at}
use Rattle.golf_syntax_expressions.specs.TypeReader.{type_at, OfType}
use Rattle.golf_syntax_expressions.proofs.Fronts.{Spelt, first, not-after}
use Rattle.golf_syntax_expressions.proofs.ExprFronts.{quiet, unary_behind, start-first}
use Rattle.golf_syntax_expressions.proofs.ExprSteps.{expr-Level}
use Rattle.golf_syntax_expressions.proofs.Moves.{prefixed-none}
use Rattle.golf_syntax_expressions.proofs.TypeSteps.{type-starts}
use Rattle.golf_syntax_expressions.proofs.SimpleLaws.{Ends}

-- punctuation marks that begin no expression and go on with none: `;`, `{`, `}`, `:`, `)`
pub data IsStop : Punctuation → Type 0 where
  semicolon : IsStop punctuations.Semicolon
  open_brace : IsStop punctuations.OpenBrace
  close_brace : IsStop punctuations.CloseBrace
  colon : IsStop punctuations.Colon
  close_paren : IsStop punctuations.CloseParen

no-start : (header : Bool) (m : Punctuation) → IsStop m → (us : List Token)
    → start_from header (kinds.Punctuation m) us ≡ None
unfolding start_from punctuation_start
no-start header m semicolon us = refl
no-start header m open_brace us = refl
no-start header m close_brace us = refl
no-start header m colon us = refl
no-start header m close_paren us = refl

no-unary : (m : Punctuation) → IsStop m → (us : List Token) → unary_behind (kinds.Punctuation m) us ≡ None
no-unary m semicolon us = refl
no-unary m open_brace us = refl
no-unary m close_brace us = refl
no-unary m colon us = refl
no-unary m close_paren us = refl

-- no expression begins with such a punctuation mark
pub no-expr : {ws : List Word} {ts rest : List Token} (header : Bool) (l : ℕ) (m : Punctuation) → IsStop m
    → Spelt (words.punctuation m ∷ ws) ts rest → expr_at (Level header l) ts ≡ None
no-expr {ws} {ts} {rest} header l m s h =
    let f = start-first header (kinds.Punctuation m) h in
    expr-Level header l ts ∙ ap (λ o. o >>= λ x. expr_at (Climb header l x.0) x.1)
    (prefixed-none header ts (f.2 ∙ no-unary m s f.0) (f.1 ∙ no-start header m s f.0))

-- no simple statement does
pub no-simple : {ws : List Word} {ts rest : List Token} (header : Bool) (m : Punctuation) → IsStop m
    → Spelt (words.punctuation m ∷ ws) ts rest → simple_at header ts ≡ None
unfolding simple_at kind_at expression_at
no-simple {ws} {ts = []} {rest} header m s h = refl
no-simple {ws} {ts = t ∷ us} {rest} header m s h =
    let f = first h in
    let no_name : name_at (t ∷ us) ≡ None = ap (λ k. name_of k us) h.are.0.0 in
    ap (λ o. o >>= λ x. Some (record { line = t.line; kind = x.0 }, x.1))
    (ap (kind_by header (t ∷ us)) no_name ∙ ap (λ o. o >>= λ e. behind_expr header e.0 e.1 (follow_at e.1))
    (no-expr header 1 m s h))

-- no type begins with `=`
pub no-type : {ws : List Word} {ts rest : List Token} → Spelt (words.punctuation punctuations.Assign ∷ ws) ts rest
    → type_at OfType ts ≡ None
no-type {ws} {ts = []} {rest} h = absurd h.are
no-type {ws} {ts = t ∷ us} {rest} h = type-starts t us (kinds.Punctuation punctuations.Assign) h.are.0.0

-- what ends statements
pub record Stops (ts : List Token) : Type 0 where
  pub ends : Ends ts
  pub dot : after punctuations.Dot ts ≡ None
  pub assign : after punctuations.Assign ts ≡ None

follow-none : {ws : List Word} {ts rest : List Token} (m : Punctuation) → IsStop m
    → Spelt (words.punctuation m ∷ ws) ts rest → follow_at ts ≡ None
unfolding follow_at
follow-none {ws} {ts = []} {rest} m s h = refl
follow-none {ws} {ts = t ∷ us} {rest} m s h = at m s h.are.0.0
  where
    at : (m : Punctuation) → IsStop m → t.kind ≡ kinds.Punctuation m → follow_at (t ∷ us) ≡ None
    at m semicolon e = ap (λ k. follow_at (record { kind = k; line = t.line } ∷ us)) e
    at m open_brace e = ap (λ k. follow_at (record { kind = k; line = t.line } ∷ us)) e
    at m close_brace e = ap (λ k. follow_at (record { kind = k; line = t.line } ∷ us)) e
    at m colon e = ap (λ k. follow_at (record { kind = k; line = t.line } ∷ us)) e
    at m close_paren e = ap (λ k. follow_at (record { kind = k; line = t.line } ∷ us)) e

-- such a punctuation mark ends statements
pub stops : {ws : List Word} {ts rest : List Token} (m : Punctuation) → IsStop m
    → Spelt (words.punctuation m ∷ ws) ts rest → Stops ts
stops m semicolon h = record {
  ends = record {
    quiet = quiet (kinds.Punctuation punctuations.Semicolon)
        (λ us. (refl, refl, refl, refl)) h;
    follow = follow-none m semicolon h;
    define =
        not-after punctuations.Define (kinds.Punctuation punctuations.Semicolon) (λ us. refl) h;
    comma =
        not-after punctuations.Comma (kinds.Punctuation punctuations.Semicolon) (λ us. refl) h;
  };
  dot = not-after punctuations.Dot (kinds.Punctuation punctuations.Semicolon) (λ us. refl) h;
  assign =
      not-after punctuations.Assign (kinds.Punctuation punctuations.Semicolon) (λ us. refl) h;
}
stops m open_brace h = record {
  ends = record {
    quiet = quiet (kinds.Punctuation punctuations.OpenBrace)
        (λ us. (refl, refl, refl, refl)) h;
    follow = follow-none m open_brace h;
    define =
        not-after punctuations.Define (kinds.Punctuation punctuations.OpenBrace) (λ us. refl) h;
    comma =
        not-after punctuations.Comma (kinds.Punctuation punctuations.OpenBrace) (λ us. refl) h;
  };
  dot = not-after punctuations.Dot (kinds.Punctuation punctuations.OpenBrace) (λ us. refl) h;
  assign =
      not-after punctuations.Assign (kinds.Punctuation punctuations.OpenBrace) (λ us. refl) h;
}
stops m close_brace h = record {
  ends = record {
    quiet = quiet (kinds.Punctuation punctuations.CloseBrace)
        (λ us. (refl, refl, refl, refl)) h;
    follow = follow-none m close_brace h;
    define =
        not-after punctuations.Define (kinds.Punctuation punctuations.CloseBrace) (λ us. refl) h;
    comma =
        not-after punctuations.Comma (kinds.Punctuation punctuations.CloseBrace) (λ us. refl) h;
  };
  dot = not-after punctuations.Dot (kinds.Punctuation punctuations.CloseBrace) (λ us. refl) h;
  assign =
      not-after punctuations.Assign (kinds.Punctuation punctuations.CloseBrace) (λ us. refl) h;
}
stops m colon h = record {
  ends = record {
    quiet = quiet (kinds.Punctuation punctuations.Colon)
        (λ us. (refl, refl, refl, refl)) h;
    follow = follow-none m colon h;
    define =
        not-after punctuations.Define (kinds.Punctuation punctuations.Colon) (λ us. refl) h;
    comma =
        not-after punctuations.Comma (kinds.Punctuation punctuations.Colon) (λ us. refl) h;
  };
  dot = not-after punctuations.Dot (kinds.Punctuation punctuations.Colon) (λ us. refl) h;
  assign =
      not-after punctuations.Assign (kinds.Punctuation punctuations.Colon) (λ us. refl) h;
}
stops m close_paren h = record {
  ends = record {
    quiet = quiet (kinds.Punctuation punctuations.CloseParen)
        (λ us. (refl, refl, refl, refl)) h;
    follow = follow-none m close_paren h;
    define =
        not-after punctuations.Define (kinds.Punctuation punctuations.CloseParen) (λ us. refl) h;
    comma =
        not-after punctuations.Comma (kinds.Punctuation punctuations.CloseParen) (λ us. refl) h;
  };
  dot = not-after punctuations.Dot (kinds.Punctuation punctuations.CloseParen) (λ us. refl) h;
  assign =
      not-after punctuations.Assign (kinds.Punctuation punctuations.CloseParen) (λ us. refl) h;
}
