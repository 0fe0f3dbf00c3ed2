-- An expression is read as its plan says.
-- For: `expr_at` and `expr_plan`, golf_syntax_expressions/specs/ExpressionReader.antt.
-- By: cases of the mode and of the next token; the induction, over the size of what is left, is in Plans.antt.
use Rattle.std.proofs.Common.{◌≡◌, ℕ, suc, ◌+◌, ◌*◌, ◌≤◌, ◌<◌, Bool, true, false, cond, List, [], ◌∷◌, ◌++◌, length}
use Rattle.std.proofs.Common.{refl, ap, sym, subst, ◌∙◌, arith}
use Rattle.std.specs.Prelude.{Option, Some, None, nat_le}
use Rattle.std.specs.Str.{bytes_eq}
use Rattle.golf_lex_tokens.specs.declared.token.Token.{Token}
use Rattle.golf_lex_tokens.specs.declared.token.TokenKind.{TokenKind}
use Rattle.golf_lex_tokens.specs.declared.token.TokenKind.TheVariants as kinds
use Rattle.golf_lex_tokens.specs.declared.token.Punctuation.{Punctuation}
use Rattle.golf_lex_tokens.specs.declared.token.Punctuation.TheVariants as punctuations
use Rattle.golf_lex_tokens.specs.declared.token.Keyword.{Keyword}
use Rattle.golf_lex_tokens.specs.declared.token.Keyword.TheVariants as keywords
use Rattle.golf_syntax_trees.specs.declared.types.TypeExpr.{TypeExpr}
use Rattle.golf_syntax_trees.specs.declared.expressions.UnaryOperator.{UnaryOperator}
use Rattle.golf_syntax_trees.specs.declared.expressions.BinaryOperator.{BinaryOperator}
use Rattle.golf_syntax_trees.specs.declared.expressions.Expr.{Expr}
use Rattle.golf_syntax_trees.specs.declared.expressions.Expr.TheVariants as ex
use Rattle.golf_syntax_trees.specs.declared.expressions.Element.{Element}
use Rattle.golf_syntax_trees.specs.Types.{sync}
use Rattle.golf_syntax_trees.specs.Expressions.{make, new, binds}
use Rattle.golf_syntax_expressions.specs.declared.starts.Start.{Start}
use Rattle.golf_syntax_expressions.specs.declared.starts.Start.TheVariants as starts
use Rattle.golf_syntax_expressions.specs.declared.starts.Suffix.{Suffix}
use Rattle.golf_syntax_expressions.specs.declared.starts.Suffix.TheVariants as suffixes
use Rattle.golf_syntax_expressions.specs.Plan.{◌>>=◌, Ask, run, given}
use Rattle.golf_syntax_expressions.specs.Front.{after, name_at}
use Rattle.golf_syntax_expressions.specs.Operators.{unary_of, binary_of, punctuation_of, unary_at, binary_at}
use Rattle.golf_syntax_expressions.specs.TypeReader.{type_at, OfType}
use Rattle.golf_syntax_expressions.specs.Starts.{whole, make_behind, make_start, new_behind, new_start, empty_start}
use Rattle.golf_syntax_expressions.specs.Starts.{slice_behind, slice_start, sync_start, struct_behind, literal_behind}
use Rattle.golf_syntax_expressions.specs.Starts.{literal_start, punctuation_start, named_start, keyword_start}
use Rattle.golf_syntax_expressions.specs.Starts.{start_from, start_at, call_behind, call_at, no_field, suffix_by}
use Rattle.golf_syntax_expressions.specs.Starts.{suffix_at}
use Rattle.golf_syntax_expressions.specs.ExpressionReader.{ExpressionMode, Finish, Extend, Suffixes, Prefixed, Level}
use Rattle.golf_syntax_expressions.specs.ExpressionReader.{Climb, Items}
use Rattle.golf_syntax_expressions.specs.ExpressionReader.{Elements, ExpressionTree, ExprPlan, just, found, inside}
use Rattle.golf_syntax_expressions.specs.ExpressionReader.{finish, extend}
use Rattle.golf_syntax_expressions.specs.ExpressionReader.{suffixes_plan, prefixed_plan, climb_plan, items_behind}
use Rattle.golf_syntax_expressions.specs.ExpressionReader.{element}
use Rattle.golf_syntax_expressions.specs.ExpressionReader.{elements_behind, elements_plan, expr_plan, rank, expr_at}
use Rattle.golf_syntax_expressions.proofs.Plans.{bind-same, bind_some, Leaves, Within, within-given, whole-is}
use Rattle.golf_syntax_expressions.proofs.Plans.{whole-leaves}
use Rattle.golf_syntax_expressions.proofs.Fronts.{some-same, after-shorter, name-shorter}
use Rattle.golf_syntax_expressions.proofs.TypeSteps.{type-leaves}

abbrev size : ExpressionMode → List Token → ℕ
size m ts = 5 * length ts + rank m

abbrev pub gap : ExpressionMode → ℕ
gap (Finish s) = 0
gap (Extend base s) = 0
gap (Suffixes base) = 0
gap (Prefixed header) = 1
gap (Level header l) = 1
gap (Climb header l left) = 0
gap (Items close done) = 1
gap (Elements done) = 1

-- a plan after a list of this length, which leaves so much less
abbrev Fits : {A : Type 0} → ℕ → ℕ → ℕ → ExprPlan A → Type 0
Fits bound g all p = Within size gap bound g all p

-- what is found without asking is shorter
leaves-bind : {A X : Type 0} (g all : ℕ) (o : Option X) (f : X → Option (A × List Token))
    → ((x : X) → o ≡ Some x → Leaves g all (f x)) → Leaves g all (o >>= f)
leaves-bind g all None f k = tt
leaves-bind g all (Some x) f k = k x refl

pub left : {A : Type 0} (g all : ℕ) (o : Option (A × List Token)) (x : A × List Token) → Leaves g all o → o ≡ Some x
    → length x.1 + g ≤ all
left g all None x l e = cc
left g all (Some y) x l e = subst (λ (z : _ × List Token). length z.1 + g ≤ all) (some-same y x e) l

type-shorter : (ts : List Token) (x : TypeExpr × List Token) → type_at OfType ts ≡ Some x → length x.1 + 1 ≤ length ts
type-shorter ts x e = left 1 (length ts) (type_at OfType ts) x (type-leaves ts) e

make-leaves : (all : ℕ) (ts : List Token) → length ts ≤ all → Leaves 0 all (make_start ts)
unfolding make_start
make-leaves all ts h = leaves-bind 0 all (after punctuations.OpenParen ts) _
    (λ us e. let p = after-shorter punctuations.OpenParen ts us e in
    leaves-bind 0 all (type_at OfType us) _
    (λ x f. let q = type-shorter us x f in at x.0 x.1 (omega arith) (after punctuations.Comma x.1) refl))
  where
    at : (t : TypeExpr) (us : List Token) → length us ≤ all → (o : Option (List Token))
        → after punctuations.Comma us ≡ o → Leaves 0 all (make_behind t us o)
    at t us h (Some vs) e = let q = after-shorter punctuations.Comma us vs e in omega arith
    at t us h None e = leaves-bind 0 all (after punctuations.CloseParen us) _
        (λ vs f. let q = after-shorter punctuations.CloseParen us vs f in omega arith)

new-leaves : (all : ℕ) (ts : List Token) → length ts ≤ all → Leaves 0 all (new_start ts)
unfolding new_start
new-leaves all ts h = leaves-bind 0 all (after punctuations.OpenParen ts) _ (λ us e.
    let p = after-shorter punctuations.OpenParen ts us e in
    leaves-bind 0 all (name_at us) _ (λ n f. let q = name-shorter us n.1 n.0 f in at n.0 n.1 (omega arith)
    (after punctuations.Dot n.1) refl))
  where
    after-sync : (n : List ℕ) (us : List Token) → length us ≤ all → (b : Bool)
        → Leaves 0 all (cond b (name_at us >>= λ m. after punctuations.CloseParen m.1 >>= whole (ex.NewSync m.0)) None)
    after-sync n us h false = tt
    after-sync n us h true = leaves-bind 0 all (name_at us) _ (λ m e. let p = name-shorter us m.1 m.0 e in
        leaves-bind 0 all (after punctuations.CloseParen m.1) _
        (λ vs f. let q = after-shorter punctuations.CloseParen m.1 vs f in omega arith))

    at : (n : List ℕ) (us : List Token) → length us ≤ all → (o : Option (List Token)) → after punctuations.Dot us ≡ o
        → Leaves 0 all (new_behind n us o)
    at n us h None e = leaves-bind 0 all (after punctuations.CloseParen us) _
        (λ vs f. let q = after-shorter punctuations.CloseParen us vs f in omega arith)
    at n us h (Some vs) e = let q = after-shorter punctuations.Dot us vs e in after-sync n vs (omega arith)
        (bytes_eq n sync)

named-leaves : (all : ℕ) (n : List ℕ) (ts : List Token) → length ts ≤ all → Leaves 0 all (named_start n ts)
unfolding named_start
named-leaves all n ts h = at (bytes_eq n make) (bytes_eq n new)
  where
    at : (b c : Bool) → Leaves 0 all (cond b (make_start ts) (cond c (new_start ts) (whole (ex.Name n) ts)))
    at true c = make-leaves all ts h
    at false true = new-leaves all ts h
    at false false = omega arith

empty-leaves : (all : ℕ) (ts : List Token) → length ts ≤ all → Leaves 0 all (empty_start ts)
unfolding empty_start
empty-leaves all ts h = leaves-bind 0 all (after punctuations.OpenBrace ts) _
    (λ a e. let p = after-shorter punctuations.OpenBrace ts a e in
    leaves-bind 0 all (after punctuations.CloseBrace a) _ (λ b f. let q = after-shorter punctuations.CloseBrace a b f in
    leaves-bind 0 all (after punctuations.OpenBrace b) _ (λ c g. let r = after-shorter punctuations.OpenBrace b c g in
    leaves-bind 0 all (after punctuations.CloseBrace c) _
    (λ d i. let s = after-shorter punctuations.CloseBrace c d i in omega arith))))

slice-leaves : (all : ℕ) (ts : List Token) → length ts ≤ all → Leaves 0 all (slice_start ts)
unfolding slice_start
slice-leaves all ts h = leaves-bind 0 all (after punctuations.CloseBracket ts) _
    (λ us e. let p = after-shorter punctuations.CloseBracket ts us e in
    leaves-bind 0 all (type_at OfType us) _ (λ x f. let q = type-shorter us x f in
    leaves-bind 0 all (after punctuations.OpenBrace x.1) _
    (λ vs g. let r = after-shorter punctuations.OpenBrace x.1 vs g in at x.0 vs (omega arith)
    (after punctuations.CloseBrace vs) refl)))
  where
    at : (t : TypeExpr) (us : List Token) → length us ≤ all → (o : Option (List Token))
        → after punctuations.CloseBrace us ≡ o → Leaves 0 all (slice_behind t us o)
    at t us h None e = omega arith
    at t us h (Some vs) e = let q = after-shorter punctuations.CloseBrace us vs e in omega arith

sync-leaves : (all : ℕ) (n : List ℕ) (ts : List Token) → length ts ≤ all → Leaves 0 all (sync_start n ts)
unfolding sync_start
sync-leaves all n ts h = at (bytes_eq n sync)
  where
    at : (b : Bool) → Leaves 0 all (cond b
        (name_at ts >>= λ m. after punctuations.OpenBrace m.1 >>= λ us. after punctuations.CloseBrace us >>= whole
        (ex.SyncLiteral m.0)) None)
    at false = tt
    at true = leaves-bind 0 all (name_at ts) _ (λ m e. let p = name-shorter ts m.1 m.0 e in
        leaves-bind 0 all (after punctuations.OpenBrace m.1) _
        (λ us f. let q = after-shorter punctuations.OpenBrace m.1 us f in
        leaves-bind 0 all (after punctuations.CloseBrace us) _
        (λ vs g. let r = after-shorter punctuations.CloseBrace us vs g in omega arith)))

literal-leaves : (all : ℕ) (ts : List Token) → length ts ≤ all → Leaves 0 all (literal_start ts)
unfolding literal_start
literal-leaves all ts h = leaves-bind 0 all (name_at ts) _
    (λ n e. let p = name-shorter ts n.1 n.0 e in at n.0 n.1 (omega arith) (after punctuations.Dot n.1) refl)
  where
    opened : (n : List ℕ) (us : List Token) → length us ≤ all → (o : Option (List Token))
        → after punctuations.CloseBrace us ≡ o → Leaves 0 all (struct_behind n us o)
    opened n us h None e = omega arith
    opened n us h (Some vs) e = let q = after-shorter punctuations.CloseBrace us vs e in omega arith

    at : (n : List ℕ) (us : List Token) → length us ≤ all → (o : Option (List Token)) → after punctuations.Dot us ≡ o
        → Leaves 0 all (literal_behind n us o)
    at n us h None e = leaves-bind 0 all (after punctuations.OpenBrace us) _
        (λ vs f. let q = after-shorter punctuations.OpenBrace us vs f in opened n vs (omega arith)
        (after punctuations.CloseBrace vs) refl)
    at n us h (Some vs) e = let q = after-shorter punctuations.Dot us vs e in sync-leaves all n vs (omega arith)

punctuation-leaves : (header : Bool) (m : Punctuation) (all : ℕ) (ts : List Token) → length ts ≤ all
    → Leaves 0 all (punctuation_start header m ts)
unfolding punctuation_start
punctuation-leaves header punctuations.OpenParen all ts h = omega arith
punctuation-leaves header punctuations.OpenBracket all ts h = slice-leaves all ts h
punctuation-leaves true punctuations.Ampersand all ts h = tt
punctuation-leaves false punctuations.Ampersand all ts h = literal-leaves all ts h
punctuation-leaves header _ all ts h = tt

keyword-leaves : (w : Keyword) (all : ℕ) (ts : List Token) → length ts ≤ all → Leaves 0 all (keyword_start w ts)
keyword-leaves keywords.Struct all ts h = empty-leaves all ts h
keyword-leaves _ all ts h = tt

kind-leaves : (header : Bool) (k : TokenKind) (all : ℕ) (ts : List Token) → length ts ≤ all
    → Leaves 0 all (start_from header k ts)
unfolding start_from
kind-leaves header (kinds.Integer digits) all ts h = omega arith
kind-leaves header (kinds.Text bytes) all ts h = omega arith
kind-leaves header (kinds.Name n) all ts h = named-leaves all n ts h
kind-leaves header (kinds.Keyword w) all ts h = keyword-leaves w all ts h
kind-leaves header (kinds.Punctuation m) all ts h = punctuation-leaves header m all ts h

start-shorter : (header : Bool) (ts : List Token) (s : Start × List Token) → start_at header ts ≡ Some s
    → length s.1 + 1 ≤ length ts
unfolding start_at
start-shorter header [] s e = cc
start-shorter header (t ∷ ts) s e = let k =
    left 0 (length ts) (start_from header t.kind ts) s
    (kind-leaves header t.kind (length ts) ts (omega arith)) e in omega arith

suffix-shorter : (ts : List Token) (s : Suffix × List Token) → suffix_at ts ≡ Some s → length s.1 + 1 ≤ length ts
unfolding suffix_at call_at
suffix-shorter ts s e = left 1 (length ts) (suffix_by ts (after punctuations.Dot ts)) s
    (at (after punctuations.Dot ts) refl) e
  where
    called : (us : List Token) → length us + 1 ≤ length ts → (o : Option (List Token))
        → after punctuations.CloseParen us ≡ o → Leaves 1 (length ts) (call_behind us o)
    called us h None e = h
    called us h (Some vs) e = let q = after-shorter punctuations.CloseParen us vs e in omega arith

    call : Leaves 1 (length ts) (call_at ts)
    call = leaves-bind 1 (length ts) (after punctuations.OpenParen ts) _
        (λ us e. let p = after-shorter punctuations.OpenParen ts us e in called us (omega arith)
        (after punctuations.CloseParen us) refl)

    opened : (o : Option (List Token)) → after punctuations.OpenBracket ts ≡ o → Leaves 1 (length ts) (no_field ts o)
    opened None e = call
    opened (Some us) e = let p = after-shorter punctuations.OpenBracket ts us e in omega arith

    at : (o : Option (List Token)) → after punctuations.Dot ts ≡ o → Leaves 1 (length ts) (suffix_by ts o)
    at None e = opened (after punctuations.OpenBracket ts) refl
    at (Some us) e = let p = after-shorter punctuations.Dot ts us e in leaves-bind 1 (length ts) (name_at us) _
        (λ n f. let q = name-shorter us n.1 n.0 f in omega arith)

unary-shorter : (ts : List Token) (o : UnaryOperator × List Token) → unary_at ts ≡ Some o → suc (length o.1) ≡ length ts
unfolding unary_at
unary-shorter [] o e = cc
unary-shorter (t ∷ ts) o e =
    let b = bind_some (punctuation_of t.kind) (λ m. unary_of m >>= λ o. Some (o, ts)) o e in
    let c = bind_some (unary_of b.0) (λ o. Some (o, ts)) o b.2 in
    ap (λ (p : UnaryOperator × List Token). suc (length p.1)) (sym (some-same (c.0, ts) o c.2))

binary-shorter : (ts : List Token) (o : BinaryOperator × List Token) → binary_at ts ≡ Some o
    → suc (length o.1) ≡ length ts
unfolding binary_at
binary-shorter [] o e = cc
binary-shorter (t ∷ ts) o e =
    let b = bind_some (punctuation_of t.kind) (λ m. binary_of m >>= λ o. Some (o, ts)) o e in
    let c = bind_some (binary_of b.0) (λ o. Some (o, ts)) o b.2 in
    ap (λ (p : BinaryOperator × List Token). suc (length p.1)) (sym (some-same (c.0, ts) o c.2))

inside-fits : (bound all : ℕ) (close : Punctuation) (wrap : Expr → Expr) (ts : List Token) → 5 * length ts + 3 < bound
    → length ts ≤ all → Fits bound 0 all (inside close wrap ts)
inside-fits bound all close wrap ts h k = (
  h,
  λ x l. within-given size gap bound 0 all (after close x.1) (just (wrap x.0))
      (λ us e. let q = after-shorter close x.1 us e in omega arith),
)

finish-fits : (s : Start) (ts : List Token) → Fits (5 * length ts + 5) 0 (length ts) (finish s ts)
finish-fits (starts.Whole x) ts = omega arith
finish-fits starts.Group ts = inside-fits _ _ punctuations.CloseParen ex.Parens ts (omega arith) (omega arith)
finish-fits (starts.Sized t) ts = inside-fits _ _ punctuations.CloseParen (ex.MakeSized t) ts (omega arith)
    (omega arith)
finish-fits (starts.Items t) ts = (omega arith, λ x l. omega arith)
finish-fits (starts.Elements n) ts = (omega arith, λ x l. omega arith)

extend-fits : (base : Expr) (s : Suffix) (ts : List Token) → Fits (5 * length ts + 5) 0 (length ts) (extend base s ts)
extend-fits base (suffixes.Field n) ts = omega arith
extend-fits base suffixes.Index ts = inside-fits _ _ punctuations.CloseBracket (ex.Index base) ts (omega arith)
    (omega arith)
extend-fits base suffixes.NoArguments ts = omega arith
extend-fits base suffixes.Arguments ts = (omega arith, λ x l. omega arith)

suffixes-fits : (base : Expr) (ts : List Token) (o : Option (Suffix × List Token)) → suffix_at ts ≡ o
    → Fits (5 * length ts + 1) 0 (length ts) (suffixes_plan base ts o)
suffixes-fits base ts None e = omega arith
suffixes-fits base ts (Some s) e = let p =
    suffix-shorter ts s e in (omega arith, λ x l. (omega arith, λ y m. omega arith))

prefixed-fits : (header : Bool) (ts : List Token) (o : Option (UnaryOperator × List Token)) → unary_at ts ≡ o
    → Fits (5 * length ts + 2) 1 (length ts) (prefixed_plan header ts o)
prefixed-fits header ts (Some o) e = let p = unary-shorter ts o e in (omega arith, λ x l. omega arith)
prefixed-fits header ts None e = within-given size gap (5 * length ts + 2) 1 (length ts) (start_at header ts)
    (λ s. Ask (Finish s.0) s.1 (λ x. Ask (Suffixes x.0) x.1 found)) (λ s f.
    let p = start-shorter header ts s f in (omega arith, λ x l. (omega arith, λ y m. omega arith)))

climb-fits : (header : Bool) (l : ℕ) (left : Expr) (ts : List Token) (o : Option (BinaryOperator × List Token))
    → binary_at ts ≡ o → Fits (5 * length ts + 0) 0 (length ts) (climb_plan header l left ts o)
climb-fits header l left ts None e = omega arith
climb-fits header l left ts (Some o) e = test (binary-shorter ts o e) (nat_le l (binds o.0))
  where
    test : suc (length o.1) ≡ length ts → (b : Bool)
        → Fits (5 * length ts + 0) 0 (length ts)
        (cond b (Ask (Level header (suc (binds o.0))) o.1
        (λ right. Ask (Climb header l (ex.Binary o.0 left right.0)) right.1 found)) (just left ts))
    test s true = (omega arith, λ x p. (omega arith, λ y q. omega arith))
    test s false = omega arith

items-fits : (bound all : ℕ) (close : Punctuation) (done : List Expr) (ts : List Token) → 5 * length ts ≤ bound
    → length ts + 1 ≤ all → (o : Option (List Token)) → after punctuations.Comma ts ≡ o
    → Fits bound 1 all (items_behind close done ts o)
items-fits bound all close done ts h k None e =
    within-given size gap bound 1 all (after close ts) (just done)
    (λ us f. let q = after-shorter close ts us f in omega arith)
items-fits bound all close done ts h k (Some us) e = let q =
    after-shorter punctuations.Comma ts us e in (omega arith, λ x l. omega arith)

elements-behind-fits : (bound all : ℕ) (done : List Element) (ts : List Token) → 5 * length ts ≤ bound
    → length ts + 1 ≤ all → (o : Option (List Token)) → after punctuations.Comma ts ≡ o
    → Fits bound 1 all (elements_behind done ts o)
elements-behind-fits bound all done ts h k None e =
    within-given size gap bound 1 all (after punctuations.CloseBrace ts) (just done)
    (λ us f. let q = after-shorter punctuations.CloseBrace ts us f in omega arith)
elements-behind-fits bound all done ts h k (Some us) e = let q =
    after-shorter punctuations.Comma ts us e in (omega arith, λ x l. omega arith)

elements-fits : (done : List Element) (ts : List Token) → Fits (5 * length ts + 4) 1 (length ts) (elements_plan done ts)
elements-fits done ts =
    within-given size gap (5 * length ts + 4) 1 (length ts) (name_at ts) _ (λ n e. let p = name-shorter ts n.1 n.0 e in
    within-given size gap (5 * length ts + 4) 1 (length ts) (after punctuations.Colon n.1) _
    (λ us f. let q = after-shorter punctuations.Colon n.1 us f in (
      omega arith,
      λ x l. elements-behind-fits (5 * length ts + 4) (length ts) (done ++ element n.0 x.0 ∷ []) x.1
          (omega arith) (omega arith) (after punctuations.Comma x.1) refl,
    )))

expr-fits : (m : ExpressionMode) (ts : List Token) → Within size gap (size m ts) (gap m) (length ts) (expr_plan m ts)
expr-fits (Finish s) ts = finish-fits s ts
expr-fits (Extend base s) ts = extend-fits base s ts
expr-fits (Suffixes base) ts = suffixes-fits base ts (suffix_at ts) refl
expr-fits (Prefixed header) ts = prefixed-fits header ts (unary_at ts) refl
expr-fits (Level header l) ts = (omega arith, λ x p. (omega arith, λ y q. omega arith))
expr-fits (Climb header l left) ts = climb-fits header l left ts (binary_at ts) refl
expr-fits (Items close done) ts = (
  omega arith,
  λ x l. items-fits (5 * length ts + 4) (length ts) close (done ++ x.0 ∷ []) x.1 (omega arith) (omega arith)
      (after punctuations.Comma x.1) refl,
)
expr-fits (Elements done) ts = elements-fits done ts

-- what is read is what the plan finds
pub expr-is : (m : ExpressionMode) (ts : List Token) → expr_at m ts ≡ run expr_at (expr_plan m ts)
unfolding expr_at
expr-is m ts = whole-is Token ExpressionMode ExpressionTree expr_plan size gap expr-fits m ts

-- what is left is shorter
pub expr-leaves : (m : ExpressionMode) (ts : List Token) → Leaves (gap m) (length ts) (expr_at m ts)
unfolding expr_at
expr-leaves m ts = whole-leaves Token ExpressionMode ExpressionTree expr_plan size gap expr-fits m ts

-- a plan that gives on what it was given
given-just : {A : Type 0} (o : Option (List Token)) (a : A)
    → run expr_at (given o (just a)) ≡ (o >>= λ us. Some (a, us))
given-just None a = refl
given-just (Some us) a = refl

same-found : {A : Type 0} (o : Option (A × List Token)) → (o >>= λ x. Some x) ≡ o
same-found None = refl
same-found (Some x) = refl

abbrev pub inside_by : Punctuation → (Expr → Expr) → List Token → Option (Expr × List Token)
inside_by close wrap ts = expr_at (Level false 1) ts >>= λ x. after close x.1 >>= λ us. Some (wrap x.0, us)

inside-is : (close : Punctuation) (wrap : Expr → Expr) (ts : List Token)
    → run expr_at (inside close wrap ts) ≡ inside_by close wrap ts
inside-is close wrap ts = bind-same (expr_at (Level false 1) ts)
    (λ x. run expr_at (given (after close x.1) (just (wrap x.0)))) (λ x. after close x.1 >>= λ us. Some (wrap x.0, us))
    (λ x. given-just (after close x.1) (wrap x.0))

abbrev pub finish_by : Start → List Token → Option (Expr × List Token)
finish_by (starts.Whole x) ts = Some (x, ts)
finish_by starts.Group ts = inside_by punctuations.CloseParen ex.Parens ts
finish_by (starts.Sized t) ts = inside_by punctuations.CloseParen (ex.MakeSized t) ts
finish_by (starts.Items t) ts = expr_at (Items punctuations.CloseBrace []) ts >>= λ x. Some (ex.SliceLiteral t x.0, x.1)
finish_by (starts.Elements n) ts = expr_at (Elements []) ts >>= λ x. Some (ex.StructLiteral n x.0, x.1)

pub expr-Finish : (s : Start) (ts : List Token) → expr_at (Finish s) ts ≡ finish_by s ts
expr-Finish (starts.Whole x) ts = expr-is (Finish (starts.Whole x)) ts
expr-Finish starts.Group ts = expr-is (Finish starts.Group) ts ∙ inside-is punctuations.CloseParen ex.Parens ts
expr-Finish (starts.Sized t) ts = expr-is (Finish (starts.Sized t)) ts
    ∙ inside-is punctuations.CloseParen (ex.MakeSized t) ts
expr-Finish (starts.Items t) ts = expr-is (Finish (starts.Items t)) ts
expr-Finish (starts.Elements n) ts = expr-is (Finish (starts.Elements n)) ts

abbrev pub extend_by : Expr → Suffix → List Token → Option (Expr × List Token)
extend_by base (suffixes.Field n) ts = Some (ex.Selector base n, ts)
extend_by base suffixes.Index ts = inside_by punctuations.CloseBracket (ex.Index base) ts
extend_by base suffixes.NoArguments ts = Some (ex.Call base [], ts)
extend_by base suffixes.Arguments ts = expr_at (Items punctuations.CloseParen []) ts >>= λ x. Some
    (ex.Call base x.0, x.1)

pub expr-Extend : (base : Expr) (s : Suffix) (ts : List Token) → expr_at (Extend base s) ts ≡ extend_by base s ts
expr-Extend base (suffixes.Field n) ts = expr-is (Extend base (suffixes.Field n)) ts
expr-Extend base suffixes.Index ts = expr-is (Extend base suffixes.Index) ts
    ∙ inside-is punctuations.CloseBracket (ex.Index base) ts
expr-Extend base suffixes.NoArguments ts = expr-is (Extend base suffixes.NoArguments) ts
expr-Extend base suffixes.Arguments ts = expr-is (Extend base suffixes.Arguments) ts

abbrev pub suffixes_by : Expr → List Token → Option (Suffix × List Token) → Option (Expr × List Token)
suffixes_by base ts None = Some (base, ts)
suffixes_by base ts (Some s) = expr_at (Extend base s.0) s.1 >>= λ x. expr_at (Suffixes x.0) x.1

suffixes-is : (base : Expr) (ts : List Token) (o : Option (Suffix × List Token))
    → run expr_at (suffixes_plan base ts o) ≡ suffixes_by base ts o
suffixes-is base ts None = refl
suffixes-is base ts (Some s) = bind-same (expr_at (Extend base s.0) s.1)
    (λ x. expr_at (Suffixes x.0) x.1 >>= λ y. Some y) (λ x. expr_at (Suffixes x.0) x.1)
    (λ x. same-found (expr_at (Suffixes x.0) x.1))

pub expr-Suffixes : (base : Expr) (ts : List Token) → expr_at (Suffixes base) ts ≡ suffixes_by base ts (suffix_at ts)
expr-Suffixes base ts = expr-is (Suffixes base) ts ∙ suffixes-is base ts (suffix_at ts)

abbrev pub begun_by : Option (Start × List Token) → Option (Expr × List Token)
begun_by o = o >>= λ s. expr_at (Finish s.0) s.1 >>= λ x. expr_at (Suffixes x.0) x.1

begun-is : (o : Option (Start × List Token))
    → run expr_at (given o (λ s. Ask (Finish s.0) s.1 (λ x. Ask (Suffixes x.0) x.1 found))) ≡ begun_by o
begun-is None = refl
begun-is (Some s) = bind-same (expr_at (Finish s.0) s.1) (λ x. expr_at (Suffixes x.0) x.1 >>= λ y. Some y)
    (λ x. expr_at (Suffixes x.0) x.1) (λ x. same-found (expr_at (Suffixes x.0) x.1))

abbrev pub prefixed_by : Bool → List Token → Option (UnaryOperator × List Token) → Option (Expr × List Token)
prefixed_by header ts (Some o) = expr_at (Prefixed header) o.1 >>= λ x. Some (ex.Unary o.0 x.0, x.1)
prefixed_by header ts None = begun_by (start_at header ts)

prefixed-is : (header : Bool) (ts : List Token) (o : Option (UnaryOperator × List Token))
    → run expr_at (prefixed_plan header ts o) ≡ prefixed_by header ts o
prefixed-is header ts (Some o) = refl
prefixed-is header ts None = begun-is (start_at header ts)

pub expr-Prefixed : (header : Bool) (ts : List Token)
    → expr_at (Prefixed header) ts ≡ prefixed_by header ts (unary_at ts)
expr-Prefixed header ts = expr-is (Prefixed header) ts ∙ prefixed-is header ts (unary_at ts)

pub expr-Level : (header : Bool) (l : ℕ) (ts : List Token)
    → expr_at (Level header l) ts ≡ (expr_at (Prefixed header) ts >>= λ x. expr_at (Climb header l x.0) x.1)
expr-Level header l ts =
    expr-is (Level header l) ts
    ∙ bind-same (expr_at (Prefixed header) ts) (λ x. expr_at (Climb header l x.0) x.1 >>= λ y. Some y)
    (λ x. expr_at (Climb header l x.0) x.1) (λ x. same-found (expr_at (Climb header l x.0) x.1))

abbrev pub grown_by : Bool → ℕ → Expr → BinaryOperator → List Token → Option (Expr × List Token)
grown_by header l left o ts = expr_at (Level header (suc (binds o))) ts >>= λ right. expr_at
    (Climb header l (ex.Binary o left right.0)) right.1

abbrev pub climb_by : Bool → ℕ → Expr → List Token → Option (BinaryOperator × List Token) → Option (Expr × List Token)
climb_by header l left ts None = Some (left, ts)
climb_by header l left ts (Some o) = cond (nat_le l (binds o.0)) (grown_by header l left o.0 o.1) (Some (left, ts))

climb-is : (header : Bool) (l : ℕ) (left : Expr) (ts : List Token) (o : Option (BinaryOperator × List Token))
    → run expr_at (climb_plan header l left ts o) ≡ climb_by header l left ts o
climb-is header l left ts None = refl
climb-is header l left ts (Some o) = at (nat_le l (binds o.0))
  where
    at : (b : Bool) → run expr_at (cond b (Ask (Level header (suc (binds o.0))) o.1
        (λ right. Ask (Climb header l (ex.Binary o.0 left right.0)) right.1 found)) (just left ts)) ≡ cond b
        (grown_by header l left o.0 o.1) (Some (left, ts))
    at false = refl
    at true = bind-same (expr_at (Level header (suc (binds o.0))) o.1)
        (λ right. expr_at (Climb header l (ex.Binary o.0 left right.0)) right.1 >>= λ y. Some y)
        (λ right. expr_at (Climb header l (ex.Binary o.0 left right.0)) right.1)
        (λ right. same-found (expr_at (Climb header l (ex.Binary o.0 left right.0)) right.1))

pub expr-Climb : (header : Bool) (l : ℕ) (left : Expr) (ts : List Token)
    → expr_at (Climb header l left) ts ≡ climb_by header l left ts (binary_at ts)
expr-Climb header l left ts = expr-is (Climb header l left) ts ∙ climb-is header l left ts (binary_at ts)

abbrev pub items_by : Punctuation → List Expr → List Token → Option (List Token) → Option (List Expr × List Token)
items_by close done ts (Some us) = expr_at (Items close done) us
items_by close done ts None = after close ts >>= λ us. Some (done, us)

items-is : (close : Punctuation) (done : List Expr) (ts : List Token) (o : Option (List Token))
    → run expr_at (items_behind close done ts o) ≡ items_by close done ts o
items-is close done ts (Some us) = same-found (expr_at (Items close done) us)
items-is close done ts None = given-just (after close ts) done

pub expr-Items : (close : Punctuation) (done : List Expr) (ts : List Token)
    → expr_at (Items close done) ts ≡ (expr_at (Level false 1) ts >>= λ x. items_by close (done ++ x.0 ∷ []) x.1
    (after punctuations.Comma x.1))
expr-Items close done ts =
    expr-is (Items close done) ts
    ∙ bind-same (expr_at (Level false 1) ts)
    (λ x. run expr_at (items_behind close (done ++ x.0 ∷ []) x.1 (after punctuations.Comma x.1)))
    (λ x. items_by close (done ++ x.0 ∷ []) x.1 (after punctuations.Comma x.1))
    (λ x. items-is close (done ++ x.0 ∷ []) x.1 (after punctuations.Comma x.1))

abbrev pub elements_by : List Element → List Token → Option (List Token) → Option (List Element × List Token)
elements_by done ts (Some us) = expr_at (Elements done) us
elements_by done ts None = after punctuations.CloseBrace ts >>= λ us. Some (done, us)

elements-is : (done : List Element) (ts : List Token) (o : Option (List Token))
    → run expr_at (elements_behind done ts o) ≡ elements_by done ts o
elements-is done ts (Some us) = same-found (expr_at (Elements done) us)
elements-is done ts None = given-just (after punctuations.CloseBrace ts) done

pub expr-Elements : (done : List Element) (ts : List Token) →
    expr_at (Elements done) ts ≡ (name_at ts >>= λ n. after punctuations.Colon n.1 >>= λ us. expr_at
    (Level false 1) us >>= λ x. elements_by (done ++ element n.0 x.0 ∷ []) x.1 (after punctuations.Comma x.1))
expr-Elements done ts = expr-is (Elements done) ts ∙ named (name_at ts)
  where
    colon : (n : List ℕ) (o : Option (List Token))
        → run expr_at (given o (λ us. Ask (Level false 1) us
        (λ x. elements_behind (done ++ element n x.0 ∷ []) x.1 (after punctuations.Comma x.1)))) ≡
        (o >>= λ us. expr_at (Level false 1) us >>= λ x. elements_by (done ++ element n x.0 ∷ []) x.1
        (after punctuations.Comma x.1))
    colon n None = refl
    colon n (Some us) = bind-same (expr_at (Level false 1) us)
        (λ x. run expr_at (elements_behind (done ++ element n x.0 ∷ []) x.1 (after punctuations.Comma x.1)))
        (λ x. elements_by (done ++ element n x.0 ∷ []) x.1 (after punctuations.Comma x.1))
        (λ x. elements-is (done ++ element n x.0 ∷ []) x.1 (after punctuations.Comma x.1))

    named : (o : Option (List ℕ × List Token))
        → run expr_at (given o (λ n. given (after punctuations.Colon n.1)
        (λ us. Ask (Level false 1) us (λ x. elements_behind (done ++ element n.0 x.0 ∷ []) x.1
        (after punctuations.Comma x.1))))) ≡ (o >>= λ n. after punctuations.Colon n.1 >>= λ us. expr_at
        (Level false 1) us >>= λ x. elements_by (done ++ element n.0 x.0 ∷ []) x.1 (after punctuations.Comma x.1))
    named None = refl
    named (Some n) = colon n.0 (after punctuations.Colon n.1)

pub ruleset finish_steps = (expr-Finish)

pub ruleset extend_steps = (expr-Extend)

pub ruleset suffixes_steps = (expr-Suffixes)

pub ruleset prefixed_steps = (expr-Prefixed)

pub ruleset level_steps = (expr-Level)

pub ruleset climb_steps = (expr-Climb)

pub ruleset items_steps = (expr-Items)

pub ruleset elements_steps = (expr-Elements)
