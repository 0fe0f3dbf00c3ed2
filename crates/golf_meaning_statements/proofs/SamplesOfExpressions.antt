-- How the expressions of the examples are written: each tree with what it means, by the equations for its kind.
-- For: `meant`, golf_meaning_source/specs/ExpressionMeaning.antt.
-- By: the equations for each kind, and induction over the list of the parts of a tree.
use Rattle.std.specs.Prelude.{◌≡◌, ℕ, true, List, [], ◌∷◌, map}
use Rattle.std.proofs.Common.{refl, ap, ap₂, ◌∙◌}
use Rattle.golf_syntax_trees.specs.declared.expressions.UnaryOperator.{UnaryOperator}
use Rattle.golf_syntax_trees.specs.declared.expressions.BinaryOperator.{BinaryOperator}
use Rattle.golf_syntax_trees.specs.declared.expressions.Expr.{Expr}
use Rattle.golf_syntax_trees.specs.declared.expressions.Element.{Element}
use Rattle.golf_syntax_trees.specs.declared.expressions.Expr.TheVariants as ex
use Rattle.golf_syntax_trees.specs.declared.expressions.Expr.TheOpen as E
use Rattle.golf_check_types.specs.declared.scopes.Scope.{Scope}
use Rattle.golf_check_types.specs.declared.types.Layer.TheVariants as layer
use Rattle.golf_check_types.specs.Types.{with_layer}
use Rattle.golf_check_types.specs.Expressions as T
use Rattle.golf_check_types.specs.Written.{WriteType}
use Rattle.golf_check_types.specs.Judgments.{Judge, Put, judge, judge_step}
use Rattle.golf_code_of.specs.Files.{giving}
use Rattle.golf_code_of.proofs.JudgeEquations as j
use Rattle.golf_code_of.proofs.Examples.Writing.{WrittenType, file, tables}
use Rattle.golf_meaning_source.specs.Names.{Env}
use Rattle.golf_meaning_source.specs.Operations.{Taking, Gives, then_do}
use Rattle.golf_meaning_source.specs.Exprs as X
use Rattle.golf_meaning_source.specs.Exprs.{only, int_value}
use Rattle.golf_meaning_source.specs.ExpressionMeaning.{Meant, MeantPut, meant, meant_step}
use Rattle.golf_meaning_source.proofs.Meanings.{meant_put}
use Rattle.golf_meaning_statements.proofs.Equations as e

-- the kinds of answers are looked at
abbrev pub strictly : Taking
strictly = record { gives = giving file; strict = true }

-- Expressions.

-- what a meaning gives on a line
abbrev pub gives_on : Meant → ℕ → Scope → Env → Gives
gives_on m l s env = (m.does l s).value env

pub record Sample : Type 0 where
  pub tree : Expr
  pub value : Meant
  pub judged : Judge
  pub same : meant strictly tables tree ≡ value
  pub alike : judge tree ≡ judged

abbrev sample : {m : Meant} {k : Judge} (x : Expr) → meant strictly tables x ≡ m → judge x ≡ k → Sample
sample {m} {k} x same alike = record { tree = x; value = m; judged = k; same = same; alike = alike }

abbrev pub name : List ℕ → Sample
name n = sample (ex.Name n) (e.meant-Name strictly tables n) (j.judge-Name n)

abbrev pub integer : List ℕ → Sample
integer n = sample (ex.Integer n) (e.meant-Integer strictly tables n) (j.judge-Integer n)

abbrev pub text : List ℕ → Sample
text n = sample (ex.Text n) (e.meant-Text strictly tables n) (j.judge-Text n)

abbrev pub parens : Sample → Sample
parens a = sample (ex.Parens a.tree) (e.meant-Parens strictly tables a.tree
    ∙ ap (λ m. meant_step strictly tables (E.Parens m)) a.same)
    (j.judge-Parens a.tree ∙ ap (λ m. judge_step (E.Parens m)) a.alike)

-- `a.n`
abbrev pub dot : Sample → List ℕ → Sample
dot a n = sample (ex.Selector a.tree n) (e.meant-Selector strictly tables a.tree n
    ∙ ap (λ m. meant_step strictly tables (E.Selector m n)) a.same)
    (j.judge-Selector a.tree n ∙ ap (λ m. judge_step (E.Selector m n)) a.alike)

abbrev pub index : Sample → Sample → Sample
index a b = sample (ex.Index a.tree b.tree)
    (e.meant-Index strictly tables a.tree b.tree ∙ ap₂ (λ m n. meant_step strictly tables (E.Index m n)) a.same b.same)
    (j.judge-Index a.tree b.tree ∙ ap₂ (λ m n. judge_step (E.Index m n)) a.alike b.alike)

abbrev pub unary_of : UnaryOperator → Sample → Sample
unary_of o a = sample (ex.Unary o a.tree)
    (e.meant-Unary strictly tables o a.tree ∙ ap (λ m. meant_step strictly tables (E.Unary o m)) a.same)
    (j.judge-Unary o a.tree ∙ ap (λ m. judge_step (E.Unary o m)) a.alike)

abbrev pub binary_of : BinaryOperator → Sample → Sample → Sample
binary_of o a b = sample (ex.Binary o a.tree b.tree)
    (e.meant-Binary strictly tables o a.tree b.tree
    ∙ ap₂ (λ m n. meant_step strictly tables (E.Binary o m n)) a.same b.same)
    (j.judge-Binary o a.tree b.tree ∙ ap₂ (λ m n. judge_step (E.Binary o m n)) a.alike b.alike)

-- two maps one after the other are one, if they agree at each value
pub maps-same : {A B C : Type 0} (f : B → C) (g : A → B) (h : A → C) → ((x : A) → f (g x) ≡ h x) → (xs : List A)
    → map f (map g xs) ≡ map h xs
maps-same f g h same [] = refl
maps-same f g h same (x ∷ xs) = ap₂ (λ y ys. y ∷ ys) (same x) (maps-same f g h same xs)

abbrev pub expressions : List Sample → List Expr
expressions xs = map (λ (x : Sample). x.tree) xs

abbrev pub meanings : List Sample → List Meant
meanings xs = map (λ (x : Sample). x.value) xs

abbrev pub judgments : List Sample → List Judge
judgments xs = map (λ (x : Sample). x.judged) xs

pub all-meant : (xs : List Sample) → map (meant strictly tables) (expressions xs) ≡ meanings xs
all-meant xs = maps-same (meant strictly tables) (λ (x : Sample). x.tree) (λ (x : Sample). x.value)
    (λ (x : Sample). x.same) xs

pub all-judged : (xs : List Sample) → map judge (expressions xs) ≡ judgments xs
all-judged xs = maps-same judge (λ (x : Sample). x.tree) (λ (x : Sample). x.judged) (λ (x : Sample). x.alike) xs

abbrev pub call : Sample → List Sample → Sample
call f xs = sample (ex.Call f.tree (expressions xs))
    (e.meant-Call strictly tables f.tree (expressions xs)
    ∙ ap (λ m. meant_step strictly tables (E.Call m (map (meant strictly tables) (expressions xs)))) f.same
    ∙ ap (λ ms. meant_step strictly tables (E.Call f.value ms)) (all-meant xs))
    (j.judge-Call f.tree (expressions xs) ∙ ap (λ k. judge_step (E.Call k (map judge (expressions xs)))) f.alike
    ∙ ap (λ ks. judge_step (E.Call f.judged ks)) (all-judged xs))

-- Literals, `make` and `new`.

abbrev pub empty_literal : Sample
empty_literal = sample ex.EmptyLiteral (e.meant-EmptyLiteral strictly tables) j.judge-EmptyLiteral

abbrev pub sync_literal : List ℕ → Sample
sync_literal n = sample (ex.SyncLiteral n) (e.meant-SyncLiteral strictly tables n) (j.judge-SyncLiteral n)

abbrev pub new : List ℕ → Sample
new n = sample (ex.New n) (e.meant-New strictly tables n) (j.judge-New n)

abbrev pub new_sync : List ℕ → Sample
new_sync n = sample (ex.NewSync n) (e.meant-NewSync strictly tables n) (j.judge-NewSync n)

abbrev make_meant : WriteType → Meant
make_meant x = record {
  judge = λ l s. T.made l (x l s);
  does = λ l s. only (λ env. X.made strictly (x l s).type (int_value 0 ∷ []));
}

abbrev make_judged : WriteType → Judge
make_judged x l s = T.made l (x l s)

abbrev pub make : WrittenType → Sample
make t = sample (ex.Make t.tree) (e.meant-Make strictly tables t.tree ∙ ap make_meant t.same)
    (j.judge-Make t.tree ∙ ap make_judged t.same)

abbrev sized_meant : WriteType → Meant → Meant
sized_meant x m = record {
  judge = λ l s. T.made_sized l (x l s) (m.judge l s);
  does = λ l s. only (λ env. then_do (gives_on m l s env) (X.made strictly (x l s).type));
}

abbrev sized_judged : WriteType → Judge → Judge
sized_judged x k l s = T.made_sized l (x l s) (k l s)

abbrev pub make_sized : WrittenType → Sample → Sample
make_sized t a = sample (ex.MakeSized t.tree a.tree)
    (e.meant-MakeSized strictly tables t.tree a.tree ∙ ap (λ x. sized_meant x (meant strictly tables a.tree)) t.same
    ∙ ap (sized_meant t.value) a.same) (j.judge-MakeSized t.tree a.tree ∙ ap (λ x. sized_judged x (judge a.tree)) t.same
    ∙ ap (sized_judged t.value) a.alike)

abbrev slice_judged : WriteType → List Judge → Judge
slice_judged x ks l s = T.slice_literal l (x l s) (with_layer layer.Slice (x l s).type) (map (λ k. k l s) ks)

abbrev slice_meant : WriteType → List Meant → Meant
slice_meant x ms = record {
  judge = slice_judged x (map (λ (m : Meant). m.judge) ms);
  does = λ l s. only (λ env. X.slice_literal strictly (with_layer layer.Slice (x l s).type)
      (map (λ (m : Meant). gives_on m l s env) ms));
}

abbrev pub slice_literal : WrittenType → List Sample → Sample
slice_literal t xs = sample (ex.SliceLiteral t.tree (expressions xs))
    (e.meant-SliceLiteral strictly tables t.tree (expressions xs)
    ∙ ap (λ x. slice_meant x (map (meant strictly tables) (expressions xs))) t.same
    ∙ ap (slice_meant t.value) (all-meant xs))
    (j.judge-SliceLiteral t.tree (expressions xs) ∙ ap (λ x. slice_judged x (map judge (expressions xs))) t.same
    ∙ ap (slice_judged t.value) (all-judged xs))

-- `field: value`
pub record PutSample : Type 0 where
  pub field : List ℕ
  pub value : Sample

abbrev element_of : PutSample → Element
element_of x = record { field = x.field; value = x.value.tree }

abbrev pub elements : List PutSample → List Element
elements xs = map element_of xs

abbrev put_meant : List ℕ → Meant → MeantPut
put_meant n m = record { name = n; value = m }

abbrev put_judged : List ℕ → Judge → Put
put_judged n k = record { name = n; judge = k }

abbrev pub puts_meant : List PutSample → List MeantPut
puts_meant xs = map (λ (x : PutSample). put_meant x.field x.value.value) xs

abbrev pub puts_judged : List PutSample → List Put
puts_judged xs = map (λ (x : PutSample). put_judged x.field x.value.judged) xs

pub puts-meant : (xs : List PutSample) → map (meant_put strictly tables) (elements xs) ≡ puts_meant xs
puts-meant xs = maps-same (meant_put strictly tables) element_of (λ (x : PutSample). put_meant x.field x.value.value)
    (λ (x : PutSample). ap (put_meant x.field) x.value.same) xs

pub puts-judged : (xs : List PutSample) → map j.put_of (elements xs) ≡ puts_judged xs
puts-judged xs = maps-same j.put_of element_of (λ (x : PutSample). put_judged x.field x.value.judged)
    (λ (x : PutSample). ap (put_judged x.field) x.value.alike) xs

abbrev pub struct_literal : List ℕ → List PutSample → Sample
struct_literal n xs = sample (ex.StructLiteral n (elements xs))
    (e.meant-StructLiteral strictly tables n (elements xs)
    ∙ ap (λ ms. meant_step strictly tables (E.StructLiteral n ms)) (puts-meant xs))
    (j.judge-StructLiteral n (elements xs) ∙ ap (λ ks. judge_step (E.StructLiteral n ks)) (puts-judged xs))
