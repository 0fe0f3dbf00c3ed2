-- The beginning of an expression, a suffix and an operator are printed as the tokens that were read.
-- For: `start_at`, `suffix_at`, golf_syntax_expressions/specs/Starts.antt; `unary_at`, specs/Operators.antt.
-- By: cases of the next token.
use Rattle.std.proofs.Common.{◌≡◌, ℕ, Bool, true, false, not, ◌&&◌, cond, List, [], ◌∷◌, ◌++◌, refl, ap, sym, subst}
use Rattle.std.proofs.Common.{◌∙◌}
use Rattle.std.specs.Prelude.{Option, Some, None}
use Rattle.std.specs.Str.{bytes_eq}
use Rattle.std.proofs.lemmas.Slice.Eq.{bytes_eq-Decides}
use Rattle.golf_lex_tokens.specs.declared.token.Token.{Token}
use Rattle.golf_lex_tokens.specs.declared.token.TokenKind.{TokenKind}
use Rattle.golf_lex_tokens.specs.declared.token.TokenKind.TheVariants as kinds
use Rattle.golf_lex_tokens.specs.declared.token.Punctuation.{Punctuation}
use Rattle.golf_lex_tokens.specs.declared.token.Punctuation.TheVariants as punctuations
use Rattle.golf_lex_tokens.specs.declared.token.Keyword.TheVariants as keywords
use Rattle.golf_lex_tokens.specs.declared.token.Keyword.{Keyword}
use Rattle.golf_syntax_trees.specs.declared.types.TypeExpr.{TypeExpr}
use Rattle.golf_syntax_trees.specs.declared.expressions.UnaryOperator.{UnaryOperator}
use Rattle.golf_syntax_trees.specs.declared.expressions.UnaryOperator.TheVariants as unary
use Rattle.golf_syntax_trees.specs.declared.expressions.BinaryOperator.{BinaryOperator}
use Rattle.golf_syntax_trees.specs.declared.expressions.BinaryOperator.TheVariants as binary
use Rattle.golf_syntax_trees.specs.declared.expressions.Expr.{Expr}
use Rattle.golf_syntax_trees.specs.declared.expressions.Expr.TheVariants as ex
use Rattle.golf_syntax_trees.specs.Words as words
use Rattle.golf_syntax_trees.specs.Words.{Word}
use Rattle.golf_syntax_trees.specs.Types.{sync, print_type, type_form}
use Rattle.golf_syntax_trees.specs.Expressions.{make, new, unary_punctuation, binary_punctuation, print_expr, Form}
use Rattle.golf_syntax_trees.specs.Expressions.{form}
use Rattle.golf_syntax_expressions.specs.declared.starts.Start.{Start}
use Rattle.golf_syntax_expressions.specs.declared.starts.Start.TheVariants as starts
use Rattle.golf_syntax_expressions.specs.declared.starts.Suffix.{Suffix}
use Rattle.golf_syntax_expressions.specs.declared.starts.Suffix.TheVariants as suffixes
use Rattle.golf_syntax_expressions.specs.Plan.{◌>>=◌}
use Rattle.golf_syntax_expressions.specs.Front.{after, name_at}
use Rattle.golf_syntax_expressions.specs.TypeReader.{type_at, OfType}
use Rattle.golf_syntax_expressions.specs.Operators.{unary_of, binary_of, punctuation_of, unary_at, binary_at}
use Rattle.golf_syntax_expressions.specs.Starts.{whole, make_behind, make_start, new_behind, new_start, empty_start}
use Rattle.golf_syntax_expressions.specs.Starts.{slice_behind, slice_start, sync_start, struct_behind, literal_behind}
use Rattle.golf_syntax_expressions.specs.Starts.{literal_start, punctuation_start, named_start, keyword_start}
use Rattle.golf_syntax_expressions.specs.Starts.{start_from, start_at, call_behind, call_at, no_field, suffix_by}
use Rattle.golf_syntax_expressions.specs.Starts.{suffix_at}
use Rattle.golf_syntax_expressions.proofs.Plans.{bind_some}
use Rattle.golf_syntax_expressions.proofs.Fronts.{some-same, and-true, Spelt, nothing, kind-then, punctuation-then}
use Rattle.golf_syntax_expressions.proofs.Fronts.{name-then, join}
use Rattle.golf_syntax_expressions.proofs.TypeLaws.{type-sound}
use Rattle.golf_syntax_expressions.proofs.ExprShapes as shape

-- a well-formed operand with its suffixes
pub record Primary (header : Bool) (e : Expr) : Type 0 where
  pub good : (form e).good ≡ true
  pub top : (form e).top ≡ 7
  pub clear : (header && (form e).ampersand) ≡ false

pub prim : (header : Bool) (e : Expr) (f : Form) → form e ≡ f → f.good ≡ true → f.top ≡ 7
    → (header && f.ampersand) ≡ false
    → Primary header e
prim header e f p g t c = record {
  good = ap (λ (f : Form). f.good) p ∙ g;
  top = ap (λ (f : Form). f.top) p ∙ t;
  clear = ap (λ (f : Form). header && f.ampersand) p ∙ c;
}

-- the words of a beginning
abbrev pub opening : Start → List Word
opening (starts.Whole e) = print_expr e
opening starts.Group = words.punctuation punctuations.OpenParen ∷ []
opening (starts.Sized t) = words.name make ∷ words.punctuation punctuations.OpenParen
    ∷ (print_type t ++ words.punctuation punctuations.Comma ∷ [])
opening (starts.Items t) = words.punctuation punctuations.OpenBracket ∷ words.punctuation punctuations.CloseBracket
    ∷ (print_type t ++ words.punctuation punctuations.OpenBrace ∷ [])
opening (starts.Elements n) = words.punctuation punctuations.Ampersand ∷ words.name n
    ∷ words.punctuation punctuations.OpenBrace ∷ []

abbrev pub StartGood : Bool → Start → Type 0
StartGood header (starts.Whole e) = Primary header e
StartGood header starts.Group = Unit {0}
StartGood header (starts.Sized t) = (type_form t).good ≡ true
StartGood header (starts.Items t) = (type_form t).good ≡ true
StartGood header (starts.Elements n) = header ≡ false

pub record Begins (header : Bool) (ts : List Token) (x : Start × List Token) : Type 0 where
  pub words : Spelt (opening x.0) ts x.1
  pub good : StartGood header x.0

pub false-and : (b : Bool) → (b && false) ≡ false
false-and true = refl
false-and false = refl

-- an operand of this form and these words, which stand before us
record StandsWhole (header : Bool) (e : Expr) (ts us : List Token) (ws : List Word) (f : Form) : Type 0 where
  print : print_expr e ≡ ws
  form : form e ≡ f
  spelt : Spelt ws ts us
  good : f.good ≡ true
  top : f.top ≡ 7
  clear : (header && f.ampersand) ≡ false

-- an operand that stands there whole
whole-begins : {ws : List Word} {f : Form} (header : Bool) (e : Expr) (ts us : List Token) (x : Start × List Token)
    → StandsWhole header e ts us ws f → whole e us ≡ Some x → Begins header ts x
whole-begins {f = f} header e ts us x s is =
    subst (Begins header ts) (some-same (starts.Whole e, us) x is)
    (record {
      words = subst (λ vs. Spelt vs ts us) (sym s.print) s.spelt;
      good = prim header e f s.form s.good s.top s.clear;
    })

module _ (header : Bool) (t : Token) (ts : List Token) where
  make-sound : t.kind ≡ kinds.Name make → (x : Start × List Token) → make_start ts ≡ Some x → Begins header (t ∷ ts) x
  unfolding make_start
  make-sound is x e =
      let a = bind_some (after punctuations.OpenParen ts)
      (λ us. type_at OfType us >>= λ x. make_behind x.0 x.1 (after punctuations.Comma x.1)) x e in
      let b = bind_some (type_at OfType a.0) (λ x. make_behind x.0 x.1 (after punctuations.Comma x.1)) x a.2 in
      at a.0 a.1 b.0.0 b.0.1 b.1 (after punctuations.Comma b.0.1) refl b.2
    where
      at : (us : List Token) → after punctuations.OpenParen ts ≡ Some us → (y : TypeExpr) (vs : List Token)
          → type_at OfType us ≡ Some (y, vs) → (o : Option (List Token)) → after punctuations.Comma vs ≡ o
          → make_behind y vs o ≡ Some x → Begins header (t ∷ ts) x
      at us p y vs q (Some qs) c f =
          let s = type-sound us (y, vs) q in
          subst (Begins header (t ∷ ts)) (some-same (starts.Sized y, qs) x f)
          (record {
            words = kind-then t _ is (punctuation-then punctuations.OpenParen ts p
                (join s.words (punctuation-then punctuations.Comma vs c nothing)));
            good = s.good;
          })
      at us p y vs q None c f =
          let s = type-sound us (y, vs) q in
          let d = bind_some (after punctuations.CloseParen vs) (whole (ex.Make y)) x f in
          whole-begins header (ex.Make y) (t ∷ ts) d.0 x (record {
            print = shape.print-Make y;
            form = shape.form-Make y;
            spelt = kind-then t _ is (punctuation-then punctuations.OpenParen ts p
                (join s.words (punctuation-then punctuations.CloseParen vs d.1 nothing)));
            good = s.good;
            top = refl;
            clear = false-and header;
          }) d.2

  new-sound : t.kind ≡ kinds.Name new → (x : Start × List Token) → new_start ts ≡ Some x → Begins header (t ∷ ts) x
  unfolding new_start
  new-sound is x e =
      let a = bind_some (after punctuations.OpenParen ts)
      (λ us. name_at us >>= λ n. new_behind n.0 n.1 (after punctuations.Dot n.1)) x e in
      let b = bind_some (name_at a.0) (λ n. new_behind n.0 n.1 (after punctuations.Dot n.1)) x a.2 in
      at a.0 a.1 b.0.0 b.0.1 b.1 (after punctuations.Dot b.0.1) refl b.2
    where
      sync_at : (us : List Token) → after punctuations.OpenParen ts ≡ Some us → (n : List ℕ) (vs qs : List Token)
          → name_at us ≡ Some (n, vs) → after punctuations.Dot vs ≡ Some qs → (b : Bool) → bytes_eq n sync ≡ b
          → cond b (name_at qs >>= λ m. after punctuations.CloseParen m.1 >>= whole (ex.NewSync m.0)) None ≡ Some x
          → Begins header (t ∷ ts) x
      sync_at us p n vs qs q r false eq f = absurd (never f)
        where
          never : ◌≡◌ {A = Option (Start × List Token)} None (Some x) → ⊥
          never f = cc
      sync_at us p n vs qs q r true eq f =
          let c = bind_some (name_at qs) (λ m. after punctuations.CloseParen m.1 >>= whole (ex.NewSync m.0)) x f in
          let d = bind_some (after punctuations.CloseParen c.0.1) (whole (ex.NewSync c.0.0)) x c.2 in
          let named = q ∙ ap (λ m. Some (m, vs)) ((bytes_eq-Decides n sync).0 eq) in
          whole-begins header (ex.NewSync c.0.0) (t ∷ ts) d.0 x (record {
            print = shape.print-NewSync c.0.0;
            form = shape.form-NewSync c.0.0;
            spelt = kind-then t _ is (punctuation-then punctuations.OpenParen ts p
                (name-then sync us named (punctuation-then punctuations.Dot vs r
                (name-then c.0.0 qs c.1 (punctuation-then punctuations.CloseParen c.0.1 d.1 nothing)))));
            good = refl;
            top = refl;
            clear = false-and header;
          }) d.2

      at : (us : List Token) → after punctuations.OpenParen ts ≡ Some us → (n : List ℕ) (vs : List Token)
          → name_at us ≡ Some (n, vs) → (o : Option (List Token)) → after punctuations.Dot vs ≡ o
          → new_behind n vs o ≡ Some x → Begins header (t ∷ ts) x
      at us p n vs q (Some qs) r f = sync_at us p n vs qs q r (bytes_eq n sync) refl f
      at us p n vs q None r f =
          let d = bind_some (after punctuations.CloseParen vs) (whole (ex.New n)) x f in
          whole-begins header (ex.New n) (t ∷ ts) d.0 x (record {
            print = shape.print-New n;
            form = shape.form-New n;
            spelt = kind-then t _ is (punctuation-then punctuations.OpenParen ts p
                (name-then n us q (punctuation-then punctuations.CloseParen vs d.1 nothing)));
            good = refl;
            top = refl;
            clear = false-and header;
          }) d.2

  named-sound : (n : List ℕ) → t.kind ≡ kinds.Name n → (x : Start × List Token) → named_start n ts ≡ Some x
      → Begins header (t ∷ ts) x
  unfolding named_start
  named-sound n is x e = at (bytes_eq n make) refl (bytes_eq n new) refl e
    where
      at : (b : Bool) → bytes_eq n make ≡ b → (c : Bool) → bytes_eq n new ≡ c
          → cond b (make_start ts) (cond c (new_start ts) (whole (ex.Name n) ts)) ≡ Some x → Begins header (t ∷ ts) x
      at true p c q f = make-sound (is ∙ ap kinds.Name ((bytes_eq-Decides n make).0 p)) x f
      at false p true q f = new-sound (is ∙ ap kinds.Name ((bytes_eq-Decides n new).0 q)) x f
      at false p false q f = whole-begins header (ex.Name n) (t ∷ ts) ts x (record {
        print = shape.print-Name n;
        form = shape.form-Name n;
        spelt = kind-then t _ is nothing;
        good = and-true (not (bytes_eq n make)) (not (bytes_eq n new)) (ap not p) (ap not q);
        top = refl;
        clear = false-and header;
      }) f

  empty-sound : t.kind ≡ kinds.Keyword keywords.Struct → (x : Start × List Token) → empty_start ts ≡ Some x
      → Begins header (t ∷ ts) x
  unfolding empty_start
  empty-sound is x e =
      let a = bind_some (after punctuations.OpenBrace ts)
      (λ a. after punctuations.CloseBrace a >>= λ b. after punctuations.OpenBrace b >>= λ c. after
      punctuations.CloseBrace c >>= whole ex.EmptyLiteral) x e in
      let b = bind_some (after punctuations.CloseBrace a.0)
      (λ b. after punctuations.OpenBrace b >>= λ c. after punctuations.CloseBrace c >>= whole ex.EmptyLiteral) x
      a.2 in
      let c = bind_some (after punctuations.OpenBrace b.0)
      (λ c. after punctuations.CloseBrace c >>= whole ex.EmptyLiteral) x b.2 in
      let d = bind_some (after punctuations.CloseBrace c.0) (whole ex.EmptyLiteral) x c.2 in
      whole-begins header ex.EmptyLiteral (t ∷ ts) d.0 x (record {
        print = shape.print-EmptyLiteral;
        form = shape.form-EmptyLiteral;
        spelt = kind-then t _ is (punctuation-then punctuations.OpenBrace ts a.1
            (punctuation-then punctuations.CloseBrace a.0 b.1
            (punctuation-then punctuations.OpenBrace b.0 c.1
            (punctuation-then punctuations.CloseBrace c.0 d.1 nothing))));
        good = refl;
        top = refl;
        clear = false-and header;
      }) d.2

  slice-sound : t.kind ≡ kinds.Punctuation punctuations.OpenBracket → (x : Start × List Token) → slice_start ts ≡ Some x
      → Begins header (t ∷ ts) x
  unfolding slice_start
  slice-sound is x e =
      let a = bind_some (after punctuations.CloseBracket ts)
      (λ us. type_at OfType us >>= λ x. after punctuations.OpenBrace x.1 >>= λ vs. slice_behind x.0 vs
      (after punctuations.CloseBrace vs)) x e in
      let b = bind_some (type_at OfType a.0)
      (λ x. after punctuations.OpenBrace x.1 >>= λ vs. slice_behind x.0 vs (after punctuations.CloseBrace vs)) x
      a.2 in
      let c = bind_some (after punctuations.OpenBrace b.0.1)
      (λ vs. slice_behind b.0.0 vs (after punctuations.CloseBrace vs)) x b.2 in
      at a.0 a.1 b.0.0 b.0.1 b.1 c.0 c.1 (after punctuations.CloseBrace c.0) refl c.2
    where
      at : (us : List Token) → after punctuations.CloseBracket ts ≡ Some us → (y : TypeExpr) (vs : List Token)
          → type_at OfType us ≡ Some (y, vs) → (qs : List Token) → after punctuations.OpenBrace vs ≡ Some qs
          → (o : Option (List Token)) → after punctuations.CloseBrace qs ≡ o → slice_behind y qs o ≡ Some x
          → Begins header (t ∷ ts) x
      at us p y vs q qs r None c f =
          let s = type-sound us (y, vs) q in
          subst (Begins header (t ∷ ts)) (some-same (starts.Items y, qs) x f)
          (record {
            words = kind-then t _ is (punctuation-then punctuations.CloseBracket ts p
                (join s.words (punctuation-then punctuations.OpenBrace vs r nothing)));
            good = s.good;
          })
      at us p y vs q qs r (Some zs) c f =
          let s = type-sound us (y, vs) q in
          whole-begins header (ex.SliceLiteral y []) (t ∷ ts) zs x (record {
            print = shape.print-SliceLiteral y [];
            form = shape.form-SliceLiteral y [];
            spelt = kind-then t _ is (punctuation-then punctuations.CloseBracket ts p
                (join s.words (punctuation-then punctuations.OpenBrace vs r
                (punctuation-then punctuations.CloseBrace qs c nothing))));
            good = and-true (type_form y).good true s.good refl;
            top = refl;
            clear = false-and header;
          }) f

  literal-sound : header ≡ false → t.kind ≡ kinds.Punctuation punctuations.Ampersand → (x : Start × List Token)
      → literal_start ts ≡ Some x → Begins header (t ∷ ts) x
  unfolding literal_start sync_start
  literal-sound off is x e =
      let a = bind_some (name_at ts) (λ n. literal_behind n.0 n.1 (after punctuations.Dot n.1)) x e in
      at a.0.0 a.0.1 a.1 (after punctuations.Dot a.0.1) refl a.2
    where
      clear : (b : Bool) → (header && b) ≡ false
      clear b = ap (λ h. h && b) off

      sync_at : (n : List ℕ) (us vs : List Token) → name_at ts ≡ Some (n, us) → after punctuations.Dot us ≡ Some vs
          → (b : Bool) → bytes_eq n sync ≡ b → cond b
          (name_at vs >>= λ m. after punctuations.OpenBrace m.1 >>= λ us. after punctuations.CloseBrace us >>= whole
          (ex.SyncLiteral m.0)) None ≡ Some x → Begins header (t ∷ ts) x
      sync_at n us vs p q false eq f = absurd (never f)
        where
          never : ◌≡◌ {A = Option (Start × List Token)} None (Some x) → ⊥
          never f = cc
      sync_at n us vs p q true eq f =
          let b = bind_some (name_at vs) (λ m. after punctuations.OpenBrace m.1 >>= λ us. after punctuations.CloseBrace
          us >>= whole (ex.SyncLiteral m.0)) x f in
          let c = bind_some (after punctuations.OpenBrace b.0.1)
          (λ us. after punctuations.CloseBrace us >>= whole (ex.SyncLiteral b.0.0)) x b.2 in
          let d = bind_some (after punctuations.CloseBrace c.0) (whole (ex.SyncLiteral b.0.0)) x c.2 in
          let named = p ∙ ap (λ m. Some (m, us)) ((bytes_eq-Decides n sync).0 eq) in
          whole-begins header (ex.SyncLiteral b.0.0) (t ∷ ts) d.0 x (record {
            print = shape.print-SyncLiteral b.0.0;
            form = shape.form-SyncLiteral b.0.0;
            spelt = kind-then t _ is (name-then sync ts named
                (punctuation-then punctuations.Dot us q
                (name-then b.0.0 vs b.1 (punctuation-then punctuations.OpenBrace b.0.1 c.1
                (punctuation-then punctuations.CloseBrace c.0 d.1 nothing)))));
            good = refl;
            top = refl;
            clear = clear true;
          }) d.2

      opened : (n : List ℕ) (us vs : List Token) → name_at ts ≡ Some (n, us) → after punctuations.OpenBrace us ≡ Some vs
          → (o : Option (List Token)) → after punctuations.CloseBrace vs ≡ o → struct_behind n vs o ≡ Some x
          → Begins header (t ∷ ts) x
      opened n us vs p q None c f =
          subst (Begins header (t ∷ ts)) (some-same (starts.Elements n, vs) x f)
          (record {
            words = kind-then t _ is (name-then n ts p
                (punctuation-then punctuations.OpenBrace us q nothing));
            good = off;
          })
      opened n us vs p q (Some zs) c f =
          whole-begins header (ex.StructLiteral n []) (t ∷ ts) zs x (record {
            print = shape.print-StructLiteral n [];
            form = shape.form-StructLiteral n [];
            spelt = kind-then t _ is (name-then n ts p
                (punctuation-then punctuations.OpenBrace us q (punctuation-then punctuations.CloseBrace vs c nothing)));
            good = refl;
            top = refl;
            clear = clear true;
          }) f

      at : (n : List ℕ) (us : List Token) → name_at ts ≡ Some (n, us) → (o : Option (List Token))
          → after punctuations.Dot us ≡ o → literal_behind n us o ≡ Some x → Begins header (t ∷ ts) x
      at n us p (Some vs) q f = sync_at n us vs p q (bytes_eq n sync) refl f
      at n us p None q f =
          let b = bind_some (after punctuations.OpenBrace us)
          (λ vs. struct_behind n vs (after punctuations.CloseBrace vs)) x f in
          opened n us b.0 p b.1 (after punctuations.CloseBrace b.0) refl b.2

  punctuation-sound : (m : Punctuation) → t.kind ≡ kinds.Punctuation m → (x : Start × List Token)
      → punctuation_start header m ts ≡ Some x → Begins header (t ∷ ts) x
  unfolding punctuation_start
  punctuation-sound punctuations.OpenParen is x e =
      subst (Begins header (t ∷ ts)) (some-same (starts.Group, ts) x e)
      (record { words = kind-then t _ is nothing; good = tt })
  punctuation-sound punctuations.OpenBracket is x e = slice-sound is x e
  punctuation-sound punctuations.Ampersand is x e = at header refl e
    where
      at : (h : Bool) → header ≡ h → cond h None (literal_start ts) ≡ Some x → Begins header (t ∷ ts) x
      at true p f = absurd (never f)
        where
          never : ◌≡◌ {A = Option (Start × List Token)} None (Some x) → ⊥
          never f = cc
      at false p f = literal-sound p is x f
  punctuation-sound _ is x e = cc

  keyword-sound : (w : Keyword) → t.kind ≡ kinds.Keyword w → (x : Start × List Token) → keyword_start w ts ≡ Some x
      → Begins header (t ∷ ts) x
  keyword-sound keywords.Struct is x e = empty-sound is x e
  keyword-sound _ is x e = cc

  kind-sound : (k : TokenKind) → t.kind ≡ k → (x : Start × List Token) → start_from header k ts ≡ Some x
      → Begins header (t ∷ ts) x
  unfolding start_from
  kind-sound (kinds.Integer digits) is x e = whole-begins header (ex.Integer digits) (t ∷ ts) ts x (record {
    print = shape.print-Integer digits;
    form = shape.form-Integer digits;
    spelt = kind-then t _ is nothing;
    good = refl;
    top = refl;
    clear = false-and header;
  }) e
  kind-sound (kinds.Text bytes) is x e = whole-begins header (ex.Text bytes) (t ∷ ts) ts x (record {
    print = shape.print-Text bytes;
    form = shape.form-Text bytes;
    spelt = kind-then t _ is nothing;
    good = refl;
    top = refl;
    clear = false-and header;
  }) e
  kind-sound (kinds.Name n) is x e = named-sound n is x e
  kind-sound (kinds.Keyword w) is x e = keyword-sound w is x e
  kind-sound (kinds.Punctuation m) is x e = punctuation-sound m is x e

pub start-sound : (header : Bool) (ts : List Token) (x : Start × List Token) → start_at header ts ≡ Some x
    → Begins header ts x
unfolding start_at
start-sound header [] x e = cc
start-sound header (t ∷ ts) x e = kind-sound header t ts t.kind refl x e

-- the words of a suffix
abbrev pub suffix_words : Suffix → List Word
suffix_words (suffixes.Field n) = words.punctuation punctuations.Dot ∷ words.name n ∷ []
suffix_words suffixes.Index = words.punctuation punctuations.OpenBracket ∷ []
suffix_words suffixes.NoArguments = words.punctuation punctuations.OpenParen ∷ words.punctuation punctuations.CloseParen
    ∷ []
suffix_words suffixes.Arguments = words.punctuation punctuations.OpenParen ∷ []

pub suffix-sound : (ts : List Token) (s : Suffix × List Token) → suffix_at ts ≡ Some s → Spelt (suffix_words s.0) ts s.1
unfolding suffix_at call_at
suffix-sound ts s e = at (after punctuations.Dot ts) refl e
  where
    called : (us : List Token) → after punctuations.OpenParen ts ≡ Some us → (o : Option (List Token))
        → after punctuations.CloseParen us ≡ o → call_behind us o ≡ Some s → Spelt (suffix_words s.0) ts s.1
    called us p None c f = subst (λ (x : Suffix × List Token). Spelt (suffix_words x.0) ts x.1)
        (some-same (suffixes.Arguments, us) s f) (punctuation-then punctuations.OpenParen ts p nothing)
    called us p (Some vs) c f = subst (λ (x : Suffix × List Token). Spelt (suffix_words x.0) ts x.1)
        (some-same (suffixes.NoArguments, vs) s f)
        (punctuation-then punctuations.OpenParen ts p (punctuation-then punctuations.CloseParen us c nothing))

    opened : (o : Option (List Token)) → after punctuations.OpenBracket ts ≡ o → no_field ts o ≡ Some s
        → Spelt (suffix_words s.0) ts s.1
    opened (Some us) p f = subst (λ (x : Suffix × List Token). Spelt (suffix_words x.0) ts x.1)
        (some-same (suffixes.Index, us) s f) (punctuation-then punctuations.OpenBracket ts p nothing)
    opened None p f = let a = bind_some (after punctuations.OpenParen ts)
        (λ us. call_behind us (after punctuations.CloseParen us)) s f in called a.0 a.1
        (after punctuations.CloseParen a.0) refl a.2

    at : (o : Option (List Token)) → after punctuations.Dot ts ≡ o → suffix_by ts o ≡ Some s
        → Spelt (suffix_words s.0) ts s.1
    at (Some us) p f =
        let a = bind_some (name_at us) (λ n. Some (suffixes.Field n.0, n.1)) s f in
        subst (λ (x : Suffix × List Token). Spelt (suffix_words x.0) ts x.1)
        (some-same (suffixes.Field a.0.0, a.0.1) s a.2)
        (punctuation-then punctuations.Dot ts p (name-then a.0.0 us a.1 nothing))
    at None p f = opened (after punctuations.OpenBracket ts) refl f

unary-punctuation : (m : Punctuation) (o : UnaryOperator) → unary_of m ≡ Some o → m ≡ unary_punctuation o
unary-punctuation punctuations.Minus o e = ap unary_punctuation (some-same unary.Negate o e)
unary-punctuation punctuations.Not o e = ap unary_punctuation (some-same unary.Not o e)
unary-punctuation punctuations.Arrow o e = ap unary_punctuation (some-same unary.Receive o e)
unary-punctuation _ o e = cc

binary-punctuation : (m : Punctuation) (o : BinaryOperator) → binary_of m ≡ Some o → m ≡ binary_punctuation o
binary-punctuation punctuations.Or o e = ap binary_punctuation (some-same binary.Or o e)
binary-punctuation punctuations.And o e = ap binary_punctuation (some-same binary.And o e)
binary-punctuation punctuations.Equal o e = ap binary_punctuation (some-same binary.Equal o e)
binary-punctuation punctuations.NotEqual o e = ap binary_punctuation (some-same binary.NotEqual o e)
binary-punctuation punctuations.Less o e = ap binary_punctuation (some-same binary.Less o e)
binary-punctuation punctuations.AtMost o e = ap binary_punctuation (some-same binary.AtMost o e)
binary-punctuation punctuations.Greater o e = ap binary_punctuation (some-same binary.Greater o e)
binary-punctuation punctuations.AtLeast o e = ap binary_punctuation (some-same binary.AtLeast o e)
binary-punctuation punctuations.Plus o e = ap binary_punctuation (some-same binary.Add o e)
binary-punctuation punctuations.Minus o e = ap binary_punctuation (some-same binary.Subtract o e)
binary-punctuation punctuations.Star o e = ap binary_punctuation (some-same binary.Multiply o e)
binary-punctuation punctuations.Slash o e = ap binary_punctuation (some-same binary.Divide o e)
binary-punctuation punctuations.Percent o e = ap binary_punctuation (some-same binary.Remainder o e)
binary-punctuation _ o e = cc

punctuation-kind : (k : TokenKind) (m : Punctuation) → punctuation_of k ≡ Some m → k ≡ kinds.Punctuation m
punctuation-kind (kinds.Punctuation n) m e = ap kinds.Punctuation (some-same n m e)
punctuation-kind _ m e = cc

pub unary-sound : (ts : List Token) (o : UnaryOperator × List Token) → unary_at ts ≡ Some o
    → Spelt (words.punctuation (unary_punctuation o.0) ∷ []) ts o.1
unfolding unary_at
unary-sound [] o e = cc
unary-sound (t ∷ ts) o e =
    let a = bind_some (punctuation_of t.kind) (λ m. unary_of m >>= λ o. Some (o, ts)) o e in
    let b = bind_some (unary_of a.0) (λ o. Some (o, ts)) o a.2 in
    subst (λ (x : UnaryOperator × List Token). Spelt (words.punctuation (unary_punctuation x.0) ∷ []) (t ∷ ts) x.1)
    (some-same (b.0, ts) o b.2)
    (kind-then t (kinds.Punctuation (unary_punctuation b.0))
    (punctuation-kind t.kind a.0 a.1 ∙ ap kinds.Punctuation (unary-punctuation a.0 b.0 b.1)) nothing)

pub binary-sound : (ts : List Token) (o : BinaryOperator × List Token) → binary_at ts ≡ Some o
    → Spelt (words.punctuation (binary_punctuation o.0) ∷ []) ts o.1
unfolding binary_at
binary-sound [] o e = cc
binary-sound (t ∷ ts) o e =
    let a = bind_some (punctuation_of t.kind) (λ m. binary_of m >>= λ o. Some (o, ts)) o e in
    let b = bind_some (binary_of a.0) (λ o. Some (o, ts)) o a.2 in
    subst (λ (x : BinaryOperator × List Token). Spelt (words.punctuation (binary_punctuation x.0) ∷ []) (t ∷ ts) x.1)
    (some-same (b.0, ts) o b.2)
    (kind-then t (kinds.Punctuation (binary_punctuation b.0))
    (punctuation-kind t.kind a.0 a.1 ∙ ap kinds.Punctuation (binary-punctuation a.0 b.0 b.1)) nothing)
