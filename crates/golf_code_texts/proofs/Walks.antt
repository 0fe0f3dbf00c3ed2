-- Texts are added one part after the other, and what the texts of each construct are.
-- For: `expr_texts` and `stmt_texts`, golf_code_of/specs/Texts.antt; `with_texts`,
-- golf_code_texts/specs/AddedTexts.antt.
-- By: computing, for each construct; induction over the list of parts.
use Rattle.std.proofs.Common.{◌≡◌, ℕ, suc, ◌+◌, ◌<◌, ◌≤◌, List, [], ◌∷◌, ◌++◌, length, get_or, map, drop, drop-cons}
use Rattle.std.proofs.Common.{refl, ap, sym, ◌∙◌, arith}
use Rattle.std.specs.Prelude.{flat_map, Option}
use Rattle.std.proofs.lemmas.List.Sums.{fold-append}
use Rattle.std.proofs.Math.ListN.{drop_of_length-le}
use Rattle.golf_syntax_trees.specs.declared.types.TypeExpr.{TypeExpr}
use Rattle.golf_syntax_trees.specs.declared.expressions.UnaryOperator.{UnaryOperator}
use Rattle.golf_syntax_trees.specs.declared.expressions.BinaryOperator.{BinaryOperator}
use Rattle.golf_syntax_trees.specs.declared.expressions.Expr.{Expr}
use Rattle.golf_syntax_trees.specs.declared.expressions.Element.{Element}
use Rattle.golf_syntax_trees.specs.declared.expressions.Expr.TheVariants as ex
use Rattle.golf_syntax_trees.specs.declared.statements.Simple.{Simple}
use Rattle.golf_syntax_trees.specs.declared.statements.Var.{Var}
use Rattle.golf_syntax_trees.specs.declared.statements.Header.{Header}
use Rattle.golf_syntax_trees.specs.declared.statements.Communication.{Communication}
use Rattle.golf_syntax_trees.specs.declared.statements.Stmt.{Stmt}
use Rattle.golf_syntax_trees.specs.declared.statements.Stmt.TheVariants as st
use Rattle.golf_syntax_trees.specs.declared.statements.Clause.{Clause}
use Rattle.golf_syntax_trees.specs.declared.statements.Clause.TheVariants as cl
use Rattle.golf_syntax_trees.specs.declared.declarations.Decl.{Decl}
use Rattle.golf_code_of.specs.Table.{Texts, with_text}
use Rattle.golf_code_of.specs.Texts.{joined, expr_texts, call_texts, optional_simple_texts, header_texts, comm_texts}
use Rattle.golf_code_of.specs.Texts.{content_texts, simple_texts, optional_texts, stmt_texts, decl_texts, texts_of}
use Rattle.golf_code_of.proofs.TextEquations.{element_texts, clause_texts, texts-Integer, texts-Text, texts-Name}
use Rattle.golf_code_of.proofs.TextEquations.{texts-Parens, texts-StructLiteral, texts-SyncLiteral, texts-SliceLiteral}
use Rattle.golf_code_of.proofs.TextEquations.{texts-EmptyLiteral, texts-Make, texts-MakeSized, texts-New, texts-NewSync}
use Rattle.golf_code_of.proofs.TextEquations.{texts-Selector, texts-Index, texts-Call, texts-Unary, texts-Binary}
use Rattle.golf_code_of.proofs.TextEquations.{stmt_texts-Var, stmt_texts-Simple, stmt_texts-Go, stmt_texts-Defer}
use Rattle.golf_code_of.proofs.TextEquations.{stmt_texts-Return, stmt_texts-Break, stmt_texts-Continue}
use Rattle.golf_code_of.proofs.TextEquations.{stmt_texts-Block, stmt_texts-If, stmt_texts-IfElse, stmt_texts-For}
use Rattle.golf_code_of.proofs.TextEquations.{stmt_texts-Select, clause_texts-Case, clause_texts-Default}
use Rattle.golf_code_texts.specs.AddedTexts.{with_texts}

pub with_none : (t : Texts) → with_texts t [] ≡ t
unfolding with_texts
with_none t = refl

pub with_one : (t : Texts) (b : List ℕ) → with_texts t (b ∷ []) ≡ with_text t b
unfolding with_texts
with_one t b = refl

pub with_more : (t : Texts) (xs ys : Texts) → with_texts t (xs ++ ys) ≡ with_texts (with_texts t xs) ys
unfolding with_texts
with_more t xs ys = fold-append with_text t xs ys

pub with_three : (t : Texts) (xs ys zs : Texts)
    → with_texts t (xs ++ (ys ++ zs)) ≡ with_texts (with_texts (with_texts t xs) ys) zs
with_three t xs ys zs = with_more t xs (ys ++ zs) ∙ with_more (with_texts t xs) ys zs

pub joined_map : {A : Type 0} (f : A → Texts) (xs : List A) → joined (map f xs) ≡ flat_map f xs
joined_map f [] = refl
joined_map f (x ∷ xs) = ap (λ r. f x ++ r) (joined_map f xs)

-- A loop over parts adds the texts of one more, and at its end those of all.

pub one_more : {A : Type 0} (f : A → Texts) (xs : List A) (i : ℕ) (x : A) (old new all : Texts) → i < length xs
    → x ≡ get_or xs i x → new ≡ with_texts old (f x) → with_texts old (flat_map f (drop i xs)) ≡ all
    → with_texts new (flat_map f (drop (i + 1) xs)) ≡ all
one_more f xs i x old new all lt is adds so_far =
    let next : suc i ≡ i + 1 = omega arith in
    let there : drop i xs ≡ x ∷ drop (i + 1) xs = drop-cons xs i x lt ∙ ap (λ y. y ∷ drop (suc i) xs) (sym is)
    ∙ ap (λ n. x ∷ drop n xs) next in
    ap (λ t. with_texts t (flat_map f (drop (i + 1) xs))) adds
    ∙ sym (with_more old (f x) (flat_map f (drop (i + 1) xs)))
    ∙ sym (ap (λ ys. with_texts old (flat_map f ys)) there)
    ∙ so_far

pub no_more : {A : Type 0} (f : A → Texts) (xs : List A) (i : ℕ) (t all : Texts) → length xs ≤ i
    → with_texts t (flat_map f (drop i xs)) ≡ all → t ≡ all
no_more f xs i t all past so_far = sym (with_none t)
    ∙ sym (ap (λ ys. with_texts t (flat_map f ys)) (drop_of_length-le xs past)) ∙ so_far

-- A table, and then the texts of an expression.

pub at_Integer : (t : Texts) (e : Expr) (digits : List ℕ) → e ≡ ex.Integer digits → with_texts t (expr_texts e) ≡ t
at_Integer t e digits is = ap (λ x. with_texts t (expr_texts x)) is ∙ ap (with_texts t) (texts-Integer digits)
    ∙ with_none t

pub at_Text : (t : Texts) (e : Expr) (bytes : List ℕ) → e ≡ ex.Text bytes
    → with_texts t (expr_texts e) ≡ with_text t bytes
at_Text t e bytes is = ap (λ x. with_texts t (expr_texts x)) is ∙ ap (with_texts t) (texts-Text bytes)
    ∙ with_one t bytes

pub at_Name : (t : Texts) (e : Expr) (n : List ℕ) → e ≡ ex.Name n → with_texts t (expr_texts e) ≡ t
at_Name t e n is = ap (λ x. with_texts t (expr_texts x)) is ∙ ap (with_texts t) (texts-Name n) ∙ with_none t

pub at_Parens : (t : Texts) (e x : Expr) → e ≡ ex.Parens x → with_texts t (expr_texts e) ≡ with_texts t (expr_texts x)
at_Parens t e x is = ap (λ y. with_texts t (expr_texts y)) is ∙ ap (with_texts t) (texts-Parens x)

pub at_StructLiteral : (t : Texts) (e : Expr) (n : List ℕ) (xs : List Element) → e ≡ ex.StructLiteral n xs
    → with_texts t (expr_texts e) ≡ with_texts t (flat_map element_texts xs)
at_StructLiteral t e n xs is = ap (λ y. with_texts t (expr_texts y)) is
    ∙ ap (with_texts t) (texts-StructLiteral n xs ∙ joined_map element_texts xs)

pub at_SyncLiteral : (t : Texts) (e : Expr) (n : List ℕ) → e ≡ ex.SyncLiteral n → with_texts t (expr_texts e) ≡ t
at_SyncLiteral t e n is = ap (λ x. with_texts t (expr_texts x)) is ∙ ap (with_texts t) (texts-SyncLiteral n)
    ∙ with_none t

pub at_SliceLiteral : (t : Texts) (e : Expr) (of_type : TypeExpr) (xs : List Expr) → e ≡ ex.SliceLiteral of_type xs
    → with_texts t (expr_texts e) ≡ with_texts t (flat_map expr_texts xs)
at_SliceLiteral t e of_type xs is = ap (λ y. with_texts t (expr_texts y)) is
    ∙ ap (with_texts t) (texts-SliceLiteral of_type xs ∙ joined_map expr_texts xs)

pub at_EmptyLiteral : (t : Texts) (e : Expr) → e ≡ ex.EmptyLiteral → with_texts t (expr_texts e) ≡ t
at_EmptyLiteral t e is = ap (λ x. with_texts t (expr_texts x)) is ∙ ap (with_texts t) texts-EmptyLiteral ∙ with_none t

pub at_Make : (t : Texts) (e : Expr) (of_type : TypeExpr) → e ≡ ex.Make of_type → with_texts t (expr_texts e) ≡ t
at_Make t e of_type is = ap (λ x. with_texts t (expr_texts x)) is ∙ ap (with_texts t) (texts-Make of_type) ∙ with_none t

pub at_MakeSized : (t : Texts) (e : Expr) (of_type : TypeExpr) (x : Expr) → e ≡ ex.MakeSized of_type x
    → with_texts t (expr_texts e) ≡ with_texts t (expr_texts x)
at_MakeSized t e of_type x is = ap (λ y. with_texts t (expr_texts y)) is ∙ ap (with_texts t) (texts-MakeSized of_type x)

pub at_New : (t : Texts) (e : Expr) (n : List ℕ) → e ≡ ex.New n → with_texts t (expr_texts e) ≡ t
at_New t e n is = ap (λ x. with_texts t (expr_texts x)) is ∙ ap (with_texts t) (texts-New n) ∙ with_none t

pub at_NewSync : (t : Texts) (e : Expr) (n : List ℕ) → e ≡ ex.NewSync n → with_texts t (expr_texts e) ≡ t
at_NewSync t e n is = ap (λ x. with_texts t (expr_texts x)) is ∙ ap (with_texts t) (texts-NewSync n) ∙ with_none t

pub at_Selector : (t : Texts) (e x : Expr) (n : List ℕ) → e ≡ ex.Selector x n
    → with_texts t (expr_texts e) ≡ with_texts t (expr_texts x)
at_Selector t e x n is = ap (λ y. with_texts t (expr_texts y)) is ∙ ap (with_texts t) (texts-Selector x n)

pub at_Index : (t : Texts) (e a i : Expr) → e ≡ ex.Index a i
    → with_texts t (expr_texts e) ≡ with_texts t (expr_texts a ++ expr_texts i)
at_Index t e a i is = ap (λ y. with_texts t (expr_texts y)) is ∙ ap (with_texts t) (texts-Index a i)

pub at_Call : (t : Texts) (e f : Expr) (xs : List Expr) → e ≡ ex.Call f xs
    → with_texts t (expr_texts e) ≡ with_texts t (call_texts f xs)
at_Call t e f xs is = ap (λ y. with_texts t (expr_texts y)) is
    ∙ ap (with_texts t) (texts-Call f xs ∙ ap (λ r. expr_texts f ++ r) (joined_map expr_texts xs))

pub at_Unary : (t : Texts) (e : Expr) (o : UnaryOperator) (x : Expr) → e ≡ ex.Unary o x
    → with_texts t (expr_texts e) ≡ with_texts t (expr_texts x)
at_Unary t e o x is = ap (λ y. with_texts t (expr_texts y)) is ∙ ap (with_texts t) (texts-Unary o x)

pub at_Binary : (t : Texts) (e : Expr) (o : BinaryOperator) (a b : Expr) → e ≡ ex.Binary o a b
    → with_texts t (expr_texts e) ≡ with_texts t (expr_texts a ++ expr_texts b)
at_Binary t e o a b is = ap (λ y. with_texts t (expr_texts y)) is ∙ ap (with_texts t) (texts-Binary o a b)

-- The same of statements and clauses.

pub at_Var : (t : Texts) (s : Stmt) (v : Var) → s ≡ st.Var v
    → with_texts t (stmt_texts s) ≡ with_texts t (content_texts v.content)
at_Var t s v is = ap (λ y. with_texts t (stmt_texts y)) is ∙ ap (with_texts t) (stmt_texts-Var v)

pub at_Simple : (t : Texts) (s : Stmt) (x : Simple) → s ≡ st.Simple x
    → with_texts t (stmt_texts s) ≡ with_texts t (simple_texts x.kind)
at_Simple t s x is = ap (λ y. with_texts t (stmt_texts y)) is ∙ ap (with_texts t) (stmt_texts-Simple x)

pub at_Go : (t : Texts) (s : Stmt) (l : ℕ) (f : Expr) (xs : List Expr) → s ≡ st.Go l f xs
    → with_texts t (stmt_texts s) ≡ with_texts t (call_texts f xs)
at_Go t s l f xs is = ap (λ y. with_texts t (stmt_texts y)) is ∙ ap (with_texts t) (stmt_texts-Go l f xs)

pub at_Defer : (t : Texts) (s : Stmt) (l : ℕ) (f : Expr) (xs : List Expr) → s ≡ st.Defer l f xs
    → with_texts t (stmt_texts s) ≡ with_texts t (call_texts f xs)
at_Defer t s l f xs is = ap (λ y. with_texts t (stmt_texts y)) is ∙ ap (with_texts t) (stmt_texts-Defer l f xs)

pub at_Return : (t : Texts) (s : Stmt) (l : ℕ) (e : Option Expr) → s ≡ st.Return l e
    → with_texts t (stmt_texts s) ≡ with_texts t (optional_texts expr_texts e)
at_Return t s l e is = ap (λ y. with_texts t (stmt_texts y)) is ∙ ap (with_texts t) (stmt_texts-Return l e)

pub at_Break : (t : Texts) (s : Stmt) (l : ℕ) → s ≡ st.Break l → with_texts t (stmt_texts s) ≡ t
at_Break t s l is = ap (λ y. with_texts t (stmt_texts y)) is ∙ ap (with_texts t) (stmt_texts-Break l) ∙ with_none t

pub at_Continue : (t : Texts) (s : Stmt) (l : ℕ) → s ≡ st.Continue l → with_texts t (stmt_texts s) ≡ t
at_Continue t s l is = ap (λ y. with_texts t (stmt_texts y)) is ∙ ap (with_texts t) (stmt_texts-Continue l)
    ∙ with_none t

pub at_Block : (t : Texts) (s : Stmt) (l : ℕ) (body : List Stmt) → s ≡ st.Block l body
    → with_texts t (stmt_texts s) ≡ with_texts t (flat_map stmt_texts body)
at_Block t s l body is = ap (λ y. with_texts t (stmt_texts y)) is
    ∙ ap (with_texts t) (stmt_texts-Block l body ∙ joined_map stmt_texts body)

pub at_If : (t : Texts) (s : Stmt) (l : ℕ) (first : Option Simple) (test : Expr) (body : List Stmt)
    → s ≡ st.If l first test body → with_texts t (stmt_texts s) ≡ with_texts
    (with_texts (with_texts t (optional_simple_texts first)) (expr_texts test)) (flat_map stmt_texts body)
at_If t s l first test body is =
    ap (λ y. with_texts t (stmt_texts y)) is
    ∙ ap (with_texts t) (stmt_texts-If l first test body
    ∙ ap (λ r. optional_simple_texts first ++ (expr_texts test ++ r)) (joined_map stmt_texts body))
    ∙ with_three t (optional_simple_texts first) (expr_texts test) (flat_map stmt_texts body)

pub at_IfElse : (t : Texts) (s : Stmt) (l : ℕ) (first : Option Simple) (test : Expr) (body : List Stmt)
    (otherwise : Stmt) → s ≡ st.IfElse l first test body otherwise
    → with_texts t (stmt_texts s) ≡ with_texts
    (with_texts (with_texts (with_texts t (optional_simple_texts first)) (expr_texts test)) (flat_map stmt_texts body))
    (stmt_texts otherwise)
at_IfElse t s l first test body otherwise is =
    ap (λ y. with_texts t (stmt_texts y)) is
    ∙ ap (with_texts t) (stmt_texts-IfElse l first test body otherwise
    ∙ ap (λ r. optional_simple_texts first ++ (expr_texts test ++ (r ++ stmt_texts otherwise)))
    (joined_map stmt_texts body))
    ∙ with_three t (optional_simple_texts first) (expr_texts test) (flat_map stmt_texts body ++ stmt_texts otherwise)
    ∙ with_more (with_texts (with_texts t (optional_simple_texts first)) (expr_texts test)) (flat_map stmt_texts body)
    (stmt_texts otherwise)

pub at_For : (t : Texts) (s : Stmt) (l : ℕ) (h : Header) (body : List Stmt) → s ≡ st.For l h body
    → with_texts t (stmt_texts s) ≡ with_texts (with_texts t (header_texts h)) (flat_map stmt_texts body)
at_For t s l h body is =
    ap (λ y. with_texts t (stmt_texts y)) is
    ∙ ap (with_texts t) (stmt_texts-For l h body ∙ ap (λ r. header_texts h ++ r) (joined_map stmt_texts body))
    ∙ with_more t (header_texts h) (flat_map stmt_texts body)

pub at_Select : (t : Texts) (s : Stmt) (l : ℕ) (cs : List Clause) → s ≡ st.Select l cs
    → with_texts t (stmt_texts s) ≡ with_texts t (flat_map clause_texts cs)
at_Select t s l cs is = ap (λ y. with_texts t (stmt_texts y)) is
    ∙ ap (with_texts t) (stmt_texts-Select l cs ∙ joined_map clause_texts cs)

pub at_Case : (t : Texts) (s : Clause) (l : ℕ) (c : Communication) (body : List Stmt) → s ≡ cl.Case l c body
    → with_texts t (clause_texts s) ≡ with_texts (with_texts t (comm_texts c)) (flat_map stmt_texts body)
at_Case t s l c body is =
    ap (λ y. with_texts t (clause_texts y)) is
    ∙ ap (with_texts t) (clause_texts-Case l c body ∙ ap (λ r. comm_texts c ++ r) (joined_map stmt_texts body))
    ∙ with_more t (comm_texts c) (flat_map stmt_texts body)

pub at_Default : (t : Texts) (s : Clause) (l : ℕ) (body : List Stmt) → s ≡ cl.Default l body
    → with_texts t (clause_texts s) ≡ with_texts t (flat_map stmt_texts body)
at_Default t s l body is = ap (λ y. with_texts t (clause_texts y)) is
    ∙ ap (with_texts t) (clause_texts-Default l body ∙ joined_map stmt_texts body)

-- a file's texts begin with the empty one
pub whole_table : (xs : List Decl) → with_texts ([] ∷ []) (flat_map decl_texts xs) ≡ texts_of xs
unfolding with_texts texts_of
whole_table xs = refl

pub ruleset expressions = (
  with_none,
  with_one,
  with_more,
  at_Integer,
  at_Text,
  at_Name,
  at_Parens,
  at_StructLiteral,
  at_SyncLiteral,
  at_SliceLiteral,
  at_EmptyLiteral,
  at_Make,
  at_MakeSized,
  at_New,
  at_NewSync,
  at_Selector,
  at_Index,
  at_Call,
  at_Unary,
  at_Binary,
)

pub ruleset statements = (
  with_none,
  at_Var,
  at_Simple,
  at_Go,
  at_Defer,
  at_Return,
  at_Break,
  at_Continue,
  at_Block,
  at_If,
  at_IfElse,
  at_For,
  at_Select,
)
