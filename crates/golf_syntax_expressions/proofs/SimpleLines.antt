-- A simple statement is read on its line exactly if it is printed there.
-- For: `simple_at`, src/simple.rt; the laws `simples_found` and `simples_read`, src/laws.rt.
-- By: cases of the kind of statement; by induction over the tree of an expression, no line is asked of it.
use Rattle.std.proofs.Common.{◌≡◌, ℕ, Bool, true, false, ◌&&◌, List, [], ◌∷◌, ◌++◌, refl, ap, sym, subst, ◌∙◌}
use Rattle.std.specs.Prelude.{Some, None}
use Rattle.golf_lex_tokens.specs.declared.token.Token.{Token}
use Rattle.golf_syntax_trees.specs.declared.expressions.Expr.{Expr}
use Rattle.golf_syntax_trees.specs.declared.statements.Simple.{Simple}
use Rattle.golf_syntax_trees.specs.declared.statements.SimpleKind.{SimpleKind}
use Rattle.golf_syntax_trees.specs.declared.statements.SimpleKind.TheVariants as s
use Rattle.golf_syntax_trees.specs.Words as words
use Rattle.golf_syntax_trees.specs.Words.{Word, on_line}
use Rattle.golf_syntax_trees.specs.Expressions.{print_expr}
use Rattle.golf_syntax_trees.specs.Simple.{print_simple_kind, print_simple, simple_form}
use Rattle.golf_syntax_expressions.specs.SimpleStatementReader.{kind_at, simple_at}
use Rattle.golf_syntax_expressions.proofs.Fronts.{some-same, Spelt}
use Rattle.golf_syntax_expressions.proofs.ExprShapes as shape
use Rattle.golf_syntax_expressions.proofs.ExprFronts.{then}
use Rattle.golf_syntax_expressions.proofs.Plans.{bind_some}
use Rattle.golf_syntax_expressions.proofs.SimpleLaws.{Ends, kind-sound, kind-complete}

-- words of which the first tells no line
pub record Unlined (ws : List Word) : Type 0 where
  pub first : Word
  pub more : List Word
  pub are : ws ≡ first ∷ more
  pub none : first.line ≡ None

by-words : (e : Expr) (ws : List Word) → print_expr e ≡ ws → Unlined ws → Unlined (print_expr e)
by-words e ws p u = subst Unlined (sym p) u

begun : (w : Word) (ws : List Word) → w.line ≡ None → Unlined (w ∷ ws)
begun w ws n = record { first = w; more = ws; are = refl; none = n }

pub joined : (ws vs : List Word) → Unlined ws → Unlined (ws ++ vs)
joined ws vs u = record { first = u.first; more = u.more ++ vs; are = ap (λ xs. xs ++ vs) u.are; none = u.none }

pub unlined : (e : Expr) → Unlined (print_expr e)
unlined = shape.each (λ e. Unlined (print_expr e)) (λ d. Unit {0})
    (λ d. by-words _ _ (shape.print-Integer d) (begun _ _ refl))
    (λ d. by-words _ _ (shape.print-Text d) (begun _ _ refl))
    (λ n. by-words _ _ (shape.print-Name n) (begun _ _ refl))
    (λ a ih. by-words _ _ (shape.print-Parens a) (begun _ _ refl))
    (λ n xs. by-words _ _ (shape.print-StructLiteral n _) (begun _ _ refl))
    (λ n. by-words _ _ (shape.print-SyncLiteral n) (begun _ _ refl))
    (λ t xs. by-words _ _ (shape.print-SliceLiteral t _) (begun _ _ refl))
    (by-words _ _ shape.print-EmptyLiteral (begun _ _ refl))
    (λ t. by-words _ _ (shape.print-Make t) (begun _ _ refl))
    (λ t a ih. by-words _ _ (shape.print-MakeSized t a) (begun _ _ refl))
    (λ n. by-words _ _ (shape.print-New n) (begun _ _ refl))
    (λ n. by-words _ _ (shape.print-NewSync n) (begun _ _ refl))
    (λ a n ih. by-words _ _ (shape.print-Selector a n) (joined _ _ ih))
    (λ a b ih jh. by-words _ _ (shape.print-Index a b) (joined _ _ ih))
    (λ a xs ih. by-words _ _ (shape.print-Call a _) (joined _ _ ih))
    (λ o a ih. by-words _ _ (shape.print-Unary o a) (begun _ _ refl))
    (λ o a b ih jh. by-words _ _ (shape.print-Binary o a b) (joined _ _ ih))
    (λ n a ih. tt)

pub unlined-kind : (k : SimpleKind) → Unlined (print_simple_kind k)
unlined-kind (s.Expression e) = unlined e
unlined-kind (s.Send c v) = joined _ _ (unlined c)
unlined-kind (s.Increment e) = joined _ _ (unlined e)
unlined-kind (s.Decrement e) = joined _ _ (unlined e)
unlined-kind (s.Assign p v) = joined _ _ (unlined p)
unlined-kind (s.Update p o v) = joined _ _ (unlined p)
unlined-kind (s.Define n v) = begun _ _ refl
unlined-kind (s.DefineReceived n m c) = begun _ _ refl
unlined-kind (s.AssignReceived n m c) = begun _ _ refl

-- words on the line of their first token
pub on-line-then : (ws : List Word) (t : Token) (ts rest : List Token) → Spelt ws (t ∷ ts) rest
    → Spelt (on_line t.line ws) (t ∷ ts) rest
on-line-then [] t ts rest h = h
on-line-then (w ∷ ws) t ts rest h = record { are = ((h.are.0.0, refl), h.are.1) }

pub on-line-back : (l : ℕ) (ws : List Word) (t : Token) (ts rest : List Token) → Unlined ws
    → Spelt (on_line l ws) (t ∷ ts) rest → (t.line ≡ l) × Spelt ws (t ∷ ts) rest
on-line-back l ws t ts rest u h = at (subst (λ vs. Spelt (on_line l vs) (t ∷ ts) rest) u.are h)
  where
    at : Spelt (on_line l (u.first ∷ u.more)) (t ∷ ts) rest → (t.line ≡ l) × Spelt ws (t ∷ ts) rest
    at g = (
      g.are.0.1,
      subst (λ vs. Spelt vs (t ∷ ts) rest) (sym u.are)
          (record { are = ((g.are.0.0, subst (λ o. words.OnLine o t.line) (sym u.none) tt), g.are.1) }),
    )

pub on-line-some : (l : ℕ) (ws : List Word) (rest : List Token) → Unlined ws → Spelt (on_line l ws) [] rest → ⊥
on-line-some l ws rest u h = (subst (λ vs. Spelt (on_line l vs) [] rest) u.are h).are

-- a well-formed simple statement on its line in these tokens, up to those that are left
pub record IsSimpleAt (header : Bool) (ts : List Token) (x : Simple × List Token) : Type 0 where
  pub words : Spelt (print_simple x.0) ts x.1
  pub good : (simple_form x.0.kind).good ≡ true
  pub clear : (header && (simple_form x.0.kind).ampersand) ≡ false

-- what is read is a simple statement
pub simple-sound : (header : Bool) (ts : List Token) (x : Simple × List Token) → simple_at header ts ≡ Some x
    → IsSimpleAt header ts x
unfolding simple_at
simple-sound header [] x e = cc
simple-sound header (t ∷ ts) x e =
    let a = bind_some (kind_at header (t ∷ ts)) (λ y. Some (record { line = t.line; kind = y.0 }, y.1)) x e in
    let k = kind-sound header (t ∷ ts) a.0 a.1 in
    subst (IsSimpleAt header (t ∷ ts)) (some-same (record { line = t.line; kind = a.0.0 }, a.0.1) x a.2)
    (record { words = on-line-then (print_simple_kind a.0.0) t ts a.0.1 k.words; good = k.good; clear = k.clear })

-- a simple statement that is printed is read
pub simple-complete : (header : Bool) (x : Simple) (ts rest : List Token) → (simple_form x.kind).good ≡ true
    → (header && (simple_form x.kind).ampersand) ≡ false → Spelt (print_simple x) ts rest → Ends rest
    → simple_at header ts ≡ Some (x, rest)
unfolding simple_at
simple-complete header x [] rest good clear h en =
    absurd (on-line-some x.line (print_simple_kind x.kind) rest (unlined-kind x.kind) h)
simple-complete header x (t ∷ ts) rest good clear h en =
    let b = on-line-back x.line (print_simple_kind x.kind) t ts rest (unlined-kind x.kind) h in
    then (λ y. Some (record { line = t.line; kind = y.0 }, y.1)) (kind_at header (t ∷ ts)) (x.kind, rest)
    (kind-complete header x.kind (t ∷ ts) rest good clear b.1 en)
    ∙ ap (λ n. Some (record { line = n; kind = x.kind }, rest)) b.0
