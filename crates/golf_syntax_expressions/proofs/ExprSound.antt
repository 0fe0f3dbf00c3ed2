-- What is read is a good expression, and is printed as the tokens that were read.
-- For: `expr_at`, golf_syntax_expressions/specs/ExpressionReader.antt; the law `expressions_found`, src/laws.rt.
-- By: cases of the mode and of the next token; the induction, over how deep reading goes, is in Plans.antt.
use Rattle.std.proofs.Common.{◌≡◌, ℕ, suc, ◌+◌, ◌*◌, ◌-◌, ◌≤◌, ◌<◌, Bool, true, false, ◌&&◌, ◌||◌, cond, List, [], ◌∷◌}
use Rattle.std.proofs.Common.{◌++◌, map, length, refl, ap, sym, subst, ◌∙◌, append_assoc, arith}
use Rattle.std.specs.Prelude.{Option, Some, None, nat_le, nat_lt}
use Rattle.std.specs.List.{list_all}
use Rattle.std.proofs.lemmas.Bool.Decides.{nat_tests}
use Rattle.golf_lex_tokens.specs.declared.token.Token.{Token}
use Rattle.golf_lex_tokens.specs.declared.token.Punctuation.{Punctuation}
use Rattle.golf_lex_tokens.specs.declared.token.Punctuation.TheVariants as punctuations
use Rattle.golf_syntax_trees.specs.declared.expressions.UnaryOperator.{UnaryOperator}
use Rattle.golf_syntax_trees.specs.declared.expressions.BinaryOperator.{BinaryOperator}
use Rattle.golf_syntax_trees.specs.declared.expressions.Expr.{Expr}
use Rattle.golf_syntax_trees.specs.declared.expressions.Expr.TheVariants as ex
use Rattle.golf_syntax_trees.specs.declared.expressions.Element.{Element}
use Rattle.golf_syntax_trees.specs.Words as words
use Rattle.golf_syntax_trees.specs.Words.{Word, separated}
use Rattle.golf_syntax_trees.specs.Types.{print_type, type_form}
use Rattle.golf_syntax_trees.specs.Expressions.{make, binds, print_expr, print_element, Form, form, element_form}
use Rattle.golf_syntax_trees.specs.Expressions.{all_good}
use Rattle.golf_syntax_expressions.specs.declared.starts.Start.{Start}
use Rattle.golf_syntax_expressions.specs.declared.starts.Start.TheVariants as starts
use Rattle.golf_syntax_expressions.specs.declared.starts.Suffix.{Suffix}
use Rattle.golf_syntax_expressions.specs.declared.starts.Suffix.TheVariants as suffixes
use Rattle.golf_syntax_expressions.specs.Plan.{Ask, given}
use Rattle.golf_syntax_expressions.specs.Front.{after, name_at}
use Rattle.golf_syntax_expressions.specs.Operators.{unary_at, binary_at}
use Rattle.golf_syntax_expressions.specs.Starts.{start_at, suffix_at}
use Rattle.golf_syntax_expressions.specs.ExpressionReader.{ExpressionMode, ExpressionTree, just, found, finish, extend}
use Rattle.golf_syntax_expressions.specs.ExpressionReader.{suffixes_plan}
use Rattle.golf_syntax_expressions.specs.ExpressionReader.{prefixed_plan, climb_plan, items_behind, elements_behind}
use Rattle.golf_syntax_expressions.specs.ExpressionReader.{elements_plan, expr_plan, Finish, Extend, Suffixes, Prefixed}
use Rattle.golf_syntax_expressions.specs.ExpressionReader.{Level, Climb, Items, Elements, element, expr_at}
use Rattle.golf_syntax_expressions.proofs.Plans.{Keeps, keeps-given, reads-keeps}
use Rattle.golf_syntax_expressions.proofs.Fronts.{and-true, Spelt, nothing, punctuation-then, name-then, join}
use Rattle.golf_syntax_expressions.proofs.ExprShapes as shape
use Rattle.golf_syntax_expressions.proofs.ExprFronts.{le-true, true-le, tight, head, head-small, binds-some}
use Rattle.golf_syntax_expressions.proofs.StartSound.{Primary, prim, opening, StartGood, false-and, start-sound}
use Rattle.golf_syntax_expressions.proofs.StartSound.{suffix_words, suffix-sound, unary-sound, binary-sound}

-- read with operators in front
pub record IsPrefixed (header : Bool) (ts : List Token) (x : Expr × List Token) : Type 0 where
  pub words : Spelt (print_expr x.0) ts x.1
  pub good : (form x.0).good ≡ true
  pub top : 6 ≤ (form x.0).top
  pub clear : (header && (form x.0).ampersand) ≡ false

-- read at a level, from these tokens on: no operator of the level follows
pub record IsAtLevel (header : Bool) (l : ℕ) (ts : List Token) (x : Expr × List Token) : Type 0 where
  pub words : Spelt (print_expr x.0) ts x.1
  pub good : (form x.0).good ≡ true
  pub top : l ≤ (form x.0).top
  pub clear : (header && (form x.0).ampersand) ≡ false
  pub follows : head x.1 ≤ l - 1

-- an expression to which a climb may add
record MayGrow (header : Bool) (l : ℕ) (left : Expr) (ts : List Token) : Type 0 where
  good : (form left).good ≡ true
  top : l ≤ (form left).top
  clear : (header && (form left).ampersand) ≡ false
  follows : head ts ≤ (form left).top

-- a list that was read, after those that were read before, up to what closes it
record ListRead (close : Punctuation) (done : List Expr) (ts : List Token) (x : List Expr × List Token) : Type 0 where
  first : Expr
  more : List Expr
  are : x.0 ≡ done ++ first ∷ more
  good : all_good (map form (first ∷ more)) ≡ true
  mid : List Token
  words : Spelt (separated punctuations.Comma (map print_expr (first ∷ more))) ts mid
  closed : after close mid ≡ Some x.1

record ElementsRead (done : List Element) (ts : List Token) (x : List Element × List Token) : Type 0 where
  first : Element
  more : List Element
  are : x.0 ≡ done ++ first ∷ more
  good : list_all (λ good. good) (map element_form (first ∷ more)) ≡ true
  mid : List Token
  words : Spelt (separated punctuations.Comma (map print_element (first ∷ more))) ts mid
  closed : after punctuations.CloseBrace mid ≡ Some x.1

-- what is read after something that was read before
abbrev Grows : (List Word) → List Token → (Bool → Type 0) → Expr × List Token → Type 0
Grows ws ts good x = (header : Bool) (before : List Token) → Spelt ws before ts → good header
    → Spelt (print_expr x.0) before x.1 × Primary header x.0

abbrev Sound : (m : ExpressionMode) → List Token → ExpressionTree m × List Token → Type 0
Sound (Finish s) ts x = Grows (opening s) ts (λ h. StartGood h s) x
Sound (Extend base s) ts x = Grows (print_expr base ++ suffix_words s) ts (λ h. Primary h base) x
Sound (Suffixes base) ts x = Grows (print_expr base) ts (λ h. Primary h base) x
Sound (Prefixed header) ts x = IsPrefixed header ts x
Sound (Level header l) ts x = l ≤ 6 → IsAtLevel header l ts x
Sound (Climb header l left) ts x = (before : List Token) → Spelt (print_expr left) before ts → MayGrow header l left ts
    → IsAtLevel header l before x
Sound (Items close done) ts x = ListRead close done ts x
Sound (Elements done) ts x = ElementsRead done ts x

-- a primary expression, made of its words
built : (e : Expr) (before rest : List Token) (ws : List Word) (header : Bool) → print_expr e ≡ ws
    → Spelt ws before rest → Primary header e → Spelt (print_expr e) before rest × Primary header e
built e before rest ws header p h g = (subst (λ vs. Spelt vs before rest) (sym p) h, g)

finish-sound : (s : Start) (ts : List Token) → Keeps Sound (Sound (Finish s) ts) (finish s ts)
finish-sound (starts.Whole e) ts = λ header before w g. (w, g)
finish-sound starts.Group ts = λ x lvl. keeps-given Sound (Sound (Finish starts.Group) ts)
    (after punctuations.CloseParen x.1) (just (ex.Parens x.0)) (λ us c header before w g.
    let k = lvl (omega arith) in
    built (ex.Parens x.0) before us _ header (shape.print-Parens x.0)
    (join w (join k.words (punctuation-then punctuations.CloseParen x.1 c nothing)))
    (prim header (ex.Parens x.0) _ (shape.form-Parens x.0) k.good refl (false-and header)))
finish-sound (starts.Sized t) ts = λ x lvl. keeps-given Sound (Sound (Finish (starts.Sized t)) ts)
    (after punctuations.CloseParen x.1) (just (ex.MakeSized t x.0)) (λ us c header before w g.
    let k = lvl (omega arith) in
    let all = join w (join k.words (punctuation-then punctuations.CloseParen x.1 c nothing)) in
    let same : (words.name make ∷ words.punctuation punctuations.OpenParen
    ∷ (print_type t ++ words.punctuation punctuations.Comma ∷ []))
    ++ (print_expr x.0 ++ words.punctuation punctuations.CloseParen ∷ [])
    ≡ words.name make ∷ words.punctuation punctuations.OpenParen
    ∷ ((print_type t ++ words.punctuation punctuations.Comma ∷ print_expr x.0)
    ++ words.punctuation punctuations.CloseParen ∷ []) =
    ap (λ ws. words.name make ∷ words.punctuation punctuations.OpenParen ∷ ws)
    (append_assoc (print_type t) (words.punctuation punctuations.Comma ∷ [])
    (print_expr x.0 ++ words.punctuation punctuations.CloseParen ∷ [])
    ∙ sym (append_assoc (print_type t) (words.punctuation punctuations.Comma ∷ print_expr x.0)
    (words.punctuation punctuations.CloseParen ∷ []))) in
    built (ex.MakeSized t x.0) before us _ header (shape.print-MakeSized t x.0)
    (subst (λ ws. Spelt ws before us) same all)
    (prim header (ex.MakeSized t x.0) _ (shape.form-MakeSized t x.0)
    (and-true (type_form t).good (form x.0).good g k.good) refl (false-and header)))
finish-sound (starts.Items t) ts = λ x k header before w g.
    let e = ex.SliceLiteral t (k.first ∷ k.more) in
    let all = join w (join k.words (punctuation-then punctuations.CloseBrace k.mid k.closed nothing)) in
    let same = ap (λ ws. words.punctuation punctuations.OpenBracket ∷ words.punctuation punctuations.CloseBracket ∷ ws)
    (append_assoc (print_type t) (words.punctuation punctuations.OpenBrace ∷ [])
    (separated punctuations.Comma (map print_expr (k.first ∷ k.more)) ++ words.punctuation punctuations.CloseBrace
    ∷ [])) in
    subst (λ (q : List Expr). Spelt (print_expr (ex.SliceLiteral t q)) before x.1
    × Primary header (ex.SliceLiteral t q)) (sym k.are)
    (built e before x.1 _ header (shape.print-SliceLiteral t (k.first ∷ k.more))
    (subst (λ ws. Spelt ws before x.1) same all)
    (prim header e _ (shape.form-SliceLiteral t (k.first ∷ k.more))
    (and-true (type_form t).good (all_good (map form (k.first ∷ k.more))) g k.good) refl (false-and header)))
finish-sound (starts.Elements n) ts = λ x k header before w g.
    let e = ex.StructLiteral n (k.first ∷ k.more) in
    subst (λ (q : List Element). Spelt (print_expr (ex.StructLiteral n q)) before x.1
    × Primary header (ex.StructLiteral n q)) (sym k.are)
    (built e before x.1 _ header (shape.print-StructLiteral n (k.first ∷ k.more))
    (join w (join k.words (punctuation-then punctuations.CloseBrace k.mid k.closed nothing)))
    (prim header e _ (shape.form-StructLiteral n (k.first ∷ k.more)) k.good refl (ap (λ h. h && true) g)))

seven : (n : ℕ) → n ≡ 7 → nat_le 7 n ≡ true
seven n e = le-true 7 n (omega (arith, e))

extend-sound : (base : Expr) (s : Suffix) (ts : List Token) → Keeps Sound (Sound (Extend base s) ts) (extend base s ts)
extend-sound base (suffixes.Field n) ts = λ header before w g.
    built (ex.Selector base n) before ts _ header (shape.print-Selector base n) w
    (prim header (ex.Selector base n) _ (shape.form-Selector base n)
    (and-true (form base).good (nat_le 7 (form base).top) g.good (seven (form base).top g.top)) refl g.clear)
extend-sound base suffixes.Index ts = λ x lvl. keeps-given Sound (Sound (Extend base suffixes.Index) ts)
    (after punctuations.CloseBracket x.1) (just (ex.Index base x.0)) (λ us c header before w g.
    let k = lvl (omega arith) in
    let all = join w (join k.words (punctuation-then punctuations.CloseBracket x.1 c nothing)) in
    built (ex.Index base x.0) before us _ header (shape.print-Index base x.0)
    (subst (λ ws. Spelt ws before us) (append_assoc (print_expr base) (words.punctuation punctuations.OpenBracket ∷ [])
    (print_expr x.0 ++ words.punctuation punctuations.CloseBracket ∷ [])) all)
    (prim header (ex.Index base x.0) _ (shape.form-Index base x.0)
    (and-true ((form base).good && (form x.0).good) (nat_le 7 (form base).top)
    (and-true (form base).good (form x.0).good g.good k.good) (seven (form base).top g.top)) refl g.clear))
extend-sound base suffixes.NoArguments ts = λ header before w g.
    built (ex.Call base []) before ts _ header (shape.print-Call base []) w
    (prim header (ex.Call base []) _ (shape.form-Call base [])
    (and-true ((form base).good && true) (nat_le 7 (form base).top) (and-true (form base).good true g.good refl)
    (seven (form base).top g.top)) refl g.clear)
extend-sound base suffixes.Arguments ts = λ x k header before w g.
    let e = ex.Call base (k.first ∷ k.more) in
    let all = join w (join k.words (punctuation-then punctuations.CloseParen k.mid k.closed nothing)) in
    subst (λ (q : List Expr). Spelt (print_expr (ex.Call base q)) before x.1 × Primary header (ex.Call base q))
    (sym k.are)
    (built e before x.1 _ header (shape.print-Call base (k.first ∷ k.more))
    (subst (λ ws. Spelt ws before x.1) (append_assoc (print_expr base) (words.punctuation punctuations.OpenParen ∷ [])
    (separated punctuations.Comma (map print_expr (k.first ∷ k.more)) ++ words.punctuation punctuations.CloseParen
    ∷ [])) all)
    (prim header e _ (shape.form-Call base (k.first ∷ k.more))
    (and-true ((form base).good && all_good (map form (k.first ∷ k.more))) (nat_le 7 (form base).top)
    (and-true (form base).good (all_good (map form (k.first ∷ k.more))) g.good k.good)
    (seven (form base).top g.top)) refl g.clear))

suffixes-sound : (base : Expr) (ts : List Token) (o : Option (Suffix × List Token)) → suffix_at ts ≡ o
    → Keeps Sound (Sound (Suffixes base) ts) (suffixes_plan base ts o)
suffixes-sound base ts None e = λ header before w g. (w, g)
suffixes-sound base ts (Some s) e = λ x k y r header before w g.
    let a = k header before (join w (suffix-sound ts s e)) g in r header before a.0 a.1

from-primary : (header : Bool) (ts : List Token) (x : Expr × List Token) → Spelt (print_expr x.0) ts x.1
    → Primary header x.0 → IsPrefixed header ts x
from-primary header ts x w g = let t = g.top in record {
  words = w;
  good = g.good;
  top = omega (arith, t);
  clear = g.clear;
}

prefixed-sound : (header : Bool) (ts : List Token) (o : Option (UnaryOperator × List Token)) → unary_at ts ≡ o
    → Keeps Sound (Sound (Prefixed header) ts) (prefixed_plan header ts o)
prefixed-sound header ts (Some o) e = λ x p.
    let t = ap (λ (f : Form). f.top) (shape.form-Unary o.0 x.0) in
    record {
      words = subst (λ vs. Spelt vs ts x.1) (sym (shape.print-Unary o.0 x.0)) (join (unary-sound ts o e) p.words);
      good = ap (λ (f : Form). f.good) (shape.form-Unary o.0 x.0)
          ∙ and-true (form x.0).good (nat_le 6 (form x.0).top) p.good (le-true 6 (form x.0).top p.top);
      top = omega (arith, t);
      clear = ap (λ (f : Form). header && f.ampersand) (shape.form-Unary o.0 x.0) ∙ p.clear;
    }
prefixed-sound header ts None e = keeps-given Sound (Sound (Prefixed header) ts) (start_at header ts)
    (λ s. Ask (Finish s.0) s.1 (λ x. Ask (Suffixes x.0) x.1 found)) (λ s f x k y r.
    let b = start-sound header ts s f in
    let a = k header ts b.words b.good in
    let c = r header ts a.0 a.1 in
    from-primary header ts y c.0 c.1)

head-none : (ts : List Token) → binary_at ts ≡ None → head ts ≡ 0
head-none ts e = ap tight e

head-some : (ts : List Token) (o : BinaryOperator × List Token) → binary_at ts ≡ Some o → head ts ≡ binds o.0
head-some ts o e = ap tight e

lt-true : (a b : ℕ) → a < b → nat_lt a b ≡ true
lt-true a b h = grind (arith, nat_tests)

le-by : (a b : ℕ) → nat_le a b ≡ false → b < a
le-by a b h = grind (arith, nat_tests)

clear-both : (h a b : Bool) → (h && a) ≡ false → (h && b) ≡ false → (h && (a || b)) ≡ false
clear-both false a b p q = refl
clear-both true false b p q = q
clear-both true true b p q = cc

ended : (header : Bool) (l : ℕ) (left : Expr) (ts before : List Token) → Spelt (print_expr left) before ts
    → MayGrow header l left ts → head ts ≤ l - 1 → IsAtLevel header l before (left, ts)
ended header l left ts before w may hd =
    record { words = w; good = may.good; top = may.top; clear = may.clear; follows = hd }

-- an operator and what it takes on its right
grew : (header : Bool) (l : ℕ) (left : Expr) (ts : List Token) (o : BinaryOperator × List Token)
    (right : Expr × List Token) → binary_at ts ≡ Some o → l ≤ binds o.0 → IsAtLevel header (suc (binds o.0)) o.1 right →
    (before : List Token) → Spelt (print_expr left) before ts → MayGrow header l left ts
    → Spelt (print_expr (ex.Binary o.0 left right.0)) before right.1
    × MayGrow header l (ex.Binary o.0 left right.0) right.1
grew header l left ts o right e le k before w may =
    let t = ap (λ (f : Form). f.top) (shape.form-Binary o.0 left right.0) in
    let hd = head-some ts o e in
    let mf = may.follows in
    let kt = k.top in
    let kf = k.follows in (
      subst (λ vs. Spelt vs before right.1) (sym (shape.print-Binary o.0 left right.0))
          (join w (join (binary-sound ts o e) k.words)),
      record {
        good = ap (λ (f : Form). f.good) (shape.form-Binary o.0 left right.0)
            ∙ and-true ((form left).good && (form right.0).good)
            (nat_le (binds o.0) (form left).top && nat_lt (binds o.0) (form right.0).top)
            (and-true (form left).good (form right.0).good may.good k.good)
            (and-true (nat_le (binds o.0) (form left).top) (nat_lt (binds o.0) (form right.0).top)
            (le-true (binds o.0) (form left).top (omega (arith, hd, mf)))
            (lt-true (binds o.0) (form right.0).top (omega (arith, kt))));
        top = omega (arith, t, le);
        clear = ap (λ (f : Form). header && f.ampersand) (shape.form-Binary o.0 left right.0)
            ∙ clear-both header (form left).ampersand (form right.0).ampersand may.clear k.clear;
        follows = omega (arith, t, kf);
      },
    )

climb-sound : (header : Bool) (l : ℕ) (left : Expr) (ts : List Token) (o : Option (BinaryOperator × List Token))
    → binary_at ts ≡ o → Keeps Sound (Sound (Climb header l left) ts) (climb_plan header l left ts o)
climb-sound header l left ts None e = λ before w may. let hd =
    head-none ts e in ended header l left ts before w may (omega (arith, hd))
climb-sound header l left ts (Some o) e = at (nat_le l (binds o.0)) refl
  where
    at : (b : Bool) → nat_le l (binds o.0) ≡ b →
        Keeps Sound (Sound (Climb header l left) ts)
        (cond b (Ask (Level header (suc (binds o.0))) o.1
        (λ right. Ask (Climb header l (ex.Binary o.0 left right.0)) right.1 found)) (just left ts))
    at false is = λ before w may. let hd = head-some ts o e in let lt =
        le-by l (binds o.0) is in ended header l left ts before w may (omega (arith, hd, lt))
    at true is = λ right k y r before w may.
        let small = (binds-some o.0).1 in
        let g = grew header l left ts o right e (true-le l (binds o.0) is) (k (omega (arith, small))) before w may in
        r before g.0 g.1

items-sound : (close : Punctuation) (done : List Expr) (ts : List Token) (x : Expr × List Token)
    → IsAtLevel false 1 ts x → (o : Option (List Token)) → after punctuations.Comma x.1 ≡ o
    → Keeps Sound (Sound (Items close done) ts) (items_behind close (done ++ x.0 ∷ []) x.1 o)
items-sound close done ts x k None e = keeps-given Sound (Sound (Items close done) ts) (after close x.1)
    (just (done ++ x.0 ∷ [])) (λ us c.
    record {
      first = x.0;
      more = [];
      are = refl;
      good = and-true (form x.0).good true k.good refl;
      mid = x.1;
      words = join k.words nothing;
      closed = c;
    })
items-sound close done ts x k (Some us) e = λ y r.
    record {
      first = x.0;
      more = r.first ∷ r.more;
      are = r.are ∙ append_assoc done (x.0 ∷ []) (r.first ∷ r.more);
      good = and-true (form x.0).good (all_good (map form (r.first ∷ r.more))) k.good r.good;
      mid = r.mid;
      words = join k.words (punctuation-then punctuations.Comma x.1 e r.words);
      closed = r.closed;
    }

elements-behind-sound : (done : List Element) (ts : List Token) (n : List ℕ) (x : Expr × List Token)
    → Spelt (print_element (element n x.0)) ts x.1 → (form x.0).good ≡ true → (o : Option (List Token))
    → after punctuations.Comma x.1 ≡ o →
    Keeps Sound (Sound (Elements done) ts) (elements_behind (done ++ element n x.0 ∷ []) x.1 o)
elements-behind-sound done ts n x w g None e =
    keeps-given Sound (Sound (Elements done) ts) (after punctuations.CloseBrace x.1) (just (done ++ element n x.0 ∷ []))
    (λ us c.
    record {
      first = element n x.0;
      more = [];
      are = refl;
      good = and-true (element_form (element n x.0)) true (shape.form-element n x.0 ∙ g) refl;
      mid = x.1;
      words =
          join w nothing;
      closed = c;
    })
elements-behind-sound done ts n x w g (Some us) e = λ y r.
    record {
      first = element n x.0;
      more = r.first ∷ r.more;
      are = r.are ∙ append_assoc done (element n x.0 ∷ []) (r.first ∷ r.more);
      good = and-true (element_form (element n x.0)) (list_all (λ good. good) (map element_form (r.first ∷ r.more)))
          (shape.form-element n x.0 ∙ g) r.good;
      mid = r.mid;
      words = join w (punctuation-then punctuations.Comma x.1 e r.words);
      closed = r.closed;
    }

elements-sound : (done : List Element) (ts : List Token)
    → Keeps Sound (Sound (Elements done) ts) (elements_plan done ts)
elements-sound done ts =
    keeps-given Sound (Sound (Elements done) ts) (name_at ts)
    (λ n. given (after punctuations.Colon n.1)
    (λ us. Ask (Level false 1) us (λ x. elements_behind (done ++ element n.0 x.0 ∷ []) x.1
    (after punctuations.Comma x.1)))) (λ n e.
    keeps-given Sound (Sound (Elements done) ts) (after punctuations.Colon n.1)
    (λ us. Ask (Level false 1) us (λ x. elements_behind (done ++ element n.0 x.0 ∷ []) x.1
    (after punctuations.Comma x.1))) (λ us f x lvl.
    let k = lvl (omega arith) in
    elements-behind-sound done ts n.0 x (subst (λ vs. Spelt vs ts x.1) (sym (shape.print-element n.0 x.0))
    (name-then n.0 ts e (punctuation-then punctuations.Colon n.1 f k.words))) k.good
    (after punctuations.Comma x.1) refl))

plan-sound : (m : ExpressionMode) (ts : List Token) → Keeps Sound (Sound m ts) (expr_plan m ts)
plan-sound (Finish s) ts = finish-sound s ts
plan-sound (Extend base s) ts = extend-sound base s ts
plan-sound (Suffixes base) ts = suffixes-sound base ts (suffix_at ts) refl
plan-sound (Prefixed header) ts = prefixed-sound header ts (unary_at ts) refl
plan-sound (Level header l) ts = λ x p y r le.
    let pt = p.top in
    let hd = head-small x.1 in
    r ts p.words (record {
      good = p.good;
      top = omega (arith, pt, le);
      clear = p.clear;
      follows = omega (arith, pt, hd);
    })
plan-sound (Climb header l left) ts = climb-sound header l left ts (binary_at ts) refl
plan-sound (Items close done) ts = λ x lvl. items-sound close done ts x (lvl (omega arith))
    (after punctuations.Comma x.1) refl
plan-sound (Elements done) ts = elements-sound done ts

-- what is read is an expression
pub expr-sound : (header : Bool) (ts : List Token) (x : Expr × List Token) → expr_at (Level header 1) ts ≡ Some x
    → IsAtLevel header 1 ts x
unfolding expr_at
expr-sound header ts x e = reads-keeps Token ExpressionMode ExpressionTree expr_plan Sound plan-sound
    (suc (5 * length ts + 3))
    (Level header 1) ts x e (omega arith)

pub prefixed-is-sound : (header : Bool) (ts : List Token) (x : Expr × List Token)
    → expr_at (Prefixed header) ts ≡ Some x → IsPrefixed header ts x
unfolding expr_at
prefixed-is-sound header ts x e = reads-keeps Token ExpressionMode ExpressionTree expr_plan Sound plan-sound
    (suc (5 * length ts + 2))
    (Prefixed header) ts x e
