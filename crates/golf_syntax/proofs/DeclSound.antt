-- What is read as an import or a declaration is a good one, and is printed as what was read.
-- For: `import_at`, src/imports.rt; `decl_at`, src/declarations.rt; the law `declarations_found`, src/laws.rt.
-- By: cases of the first token; induction over n, the names that may still be read.
use Rattle.std.proofs.Common.{◌≡◌, ℕ, zero, suc, Bool, true, false, ◌&&◌, cond, List, [], ◌∷◌, ◌++◌, length, map, refl}
use Rattle.std.proofs.Common.{ap, sym, subst, ◌∙◌, append_assoc}
use Rattle.std.specs.Prelude.{Option, Some, None, codes}
use Rattle.std.specs.List.{list_all}
use Rattle.std.specs.Str.{bytes_eq}
use Rattle.std.proofs.lemmas.Slice.Eq.{bytes_eq-Decides}
use Rattle.golf_lex_tokens.specs.declared.token.Token.{Token}
use Rattle.golf_lex_tokens.specs.declared.token.TokenKind.{TokenKind}
use Rattle.golf_lex_tokens.specs.declared.token.TokenKind.TheVariants as kinds
use Rattle.golf_lex_tokens.specs.declared.token.Punctuation.{Punctuation}
use Rattle.golf_lex_tokens.specs.declared.token.Punctuation.TheVariants as punctuations
use Rattle.golf_lex_tokens.specs.declared.token.Keyword.{Keyword}
use Rattle.golf_lex_tokens.specs.declared.token.Keyword.TheVariants as keywords
use Rattle.golf_syntax_trees.specs.declared.types.TypeExpr.{TypeExpr}
use Rattle.golf_syntax_trees.specs.declared.statements.Stmt.{Stmt}
use Rattle.golf_syntax_trees.specs.declared.declarations.Const.{Const}
use Rattle.golf_syntax_trees.specs.declared.declarations.Const.TheVariants as const
use Rattle.golf_syntax_trees.specs.declared.declarations.Import.{Import}
use Rattle.golf_syntax_trees.specs.declared.declarations.Import.TheVariants as imports
use Rattle.golf_syntax_trees.specs.declared.declarations.Field.{Field}
use Rattle.golf_syntax_trees.specs.declared.declarations.Receiver.{Receiver}
use Rattle.golf_syntax_trees.specs.declared.declarations.Decl.{Decl}
use Rattle.golf_syntax_trees.specs.declared.declarations.Decl.TheVariants as d
use Rattle.golf_syntax_trees.specs.Words as words
use Rattle.golf_syntax_trees.specs.Words.{behind, separated}
use Rattle.golf_syntax_trees.specs.Types.{print_type, type_form}
use Rattle.golf_syntax_trees.specs.Simple.{optional, all_of}
use Rattle.golf_syntax_trees.specs.Statements.{print_block, print_stmt, stmts_good, stmt_form}
use Rattle.golf_syntax_trees.specs.Declarations.{print_const, text, print_import, print_field, print_receiver}
use Rattle.golf_syntax_trees.specs.Declarations.{print_decl, field_good, decl_good}
use Rattle.golf_syntax_expressions.specs.Plan.{◌>>=◌, run, given}
use Rattle.golf_syntax_expressions.specs.Front.{after, after_keyword, name_at}
use Rattle.golf_syntax_expressions.specs.TypeReader.{type_at, OfType}
use Rattle.golf_syntax_expressions.proofs.Plans.{bind_some}
use Rattle.golf_syntax_expressions.proofs.Fronts.{some-same, and-true, Spelt, nothing, kind-then, punctuation-then}
use Rattle.golf_syntax_expressions.proofs.Fronts.{keyword-then, name-then, join}
use Rattle.golf_syntax_expressions.proofs.TypeLaws.{type-sound}
use Rattle.golf_syntax_expressions.proofs.SimpleLines.{on-line-then}
use Rattle.golf_syntax_statements.specs.VariableReader.{var_at}
use Rattle.golf_syntax_statements.specs.StatementReader.{body, found, stmt_at, Body, block_at}
use Rattle.golf_syntax.specs.Many.{list_at}
use Rattle.golf_syntax.specs.DeclarationReader.{text_of, text_at, import_by, import_at, integer_of, negative_at}
use Rattle.golf_syntax.specs.DeclarationReader.{const_of}
use Rattle.golf_syntax.specs.DeclarationReader.{const_at, names_by, names_in, names_at, field_at, receiver_by}
use Rattle.golf_syntax.specs.DeclarationReader.{result_by}
use Rattle.golf_syntax.specs.DeclarationReader.{func_behind, func_at, const_decl, struct_decl, decl_from, decl_kind}
use Rattle.golf_syntax.specs.DeclarationReader.{decl_at}
use Rattle.golf_syntax_statements.proofs.VarLaws.{var-sound}
use Rattle.golf_syntax_statements.proofs.StmtSound.{body-sound}
use Rattle.golf_syntax.proofs.ManyLaws.{AreItems, list-sound}

-- statements in braces
pub record IsBlock (ts : List Token) (x : List Stmt × List Token) : Type 0 where
  pub words : Spelt (print_block (map print_stmt x.0)) ts x.1
  pub good : stmts_good (map stmt_form x.0) ≡ true

pub block-sound : (ts : List Token) (x : List Stmt × List Token) → block_at ts ≡ Some x → IsBlock ts x
block-sound ts x e = at (after punctuations.OpenBrace ts) refl e
  where
    inner : (us : List Token) → after punctuations.OpenBrace ts ≡ Some us → (o : Option (List Token))
        → after punctuations.CloseBrace us ≡ o → run stmt_at (body us o found) ≡ Some x → IsBlock ts x
    inner us p (Some vs) q f = subst (IsBlock ts) (some-same ([], vs) x f)
        (record {
          words = punctuation-then punctuations.OpenBrace ts p
              (punctuation-then punctuations.CloseBrace us q nothing);
          good = refl;
        })
    inner us p None q f =
        let a = bind_some (stmt_at (Body []) us) (λ y. Some y) x f in
        let r = body-sound us a.0 a.1 in
        subst (IsBlock ts) (some-same a.0 x a.2) (subst (λ (b : List Stmt). IsBlock ts (b, a.0.1)) (sym r.are)
        (record {
          words = punctuation-then punctuations.OpenBrace ts p
              (join r.words (punctuation-then punctuations.CloseBrace r.mid r.close nothing));
          good = r.good;
        }))

    at : (o : Option (List Token)) → after punctuations.OpenBrace ts ≡ o
        → run stmt_at (given o (λ us. body us (after punctuations.CloseBrace us) found)) ≡ Some x → IsBlock ts x
    at (Some us) p f = inner us p (after punctuations.CloseBrace us) refl f
    at None p f = cc

abbrev pub any : List ℕ → Bool
any path = true

pub text-sound : (ts : List Token) (x : List ℕ × List Token) → text_at ts ≡ Some x → Spelt (text x.0) ts x.1
text-sound [] x e = cc
text-sound (t ∷ ts) x e = at t.kind refl e
  where
    at : (k : TokenKind) → t.kind ≡ k → text_of k ts ≡ Some x → Spelt (text x.0) (t ∷ ts) x.1
    at (kinds.Text bytes) is f = subst (λ (y : List ℕ × List Token). Spelt (text y.0) (t ∷ ts) y.1)
        (some-same (bytes, ts) x f) (kind-then t _ is nothing)
    at _ is f = cc

-- what is read after the word is an import on its line
pub import-sound : (t : Token) (ts : List Token) (x : Import × List Token) → t.kind ≡ kinds.Keyword keywords.Import
    → import_at t.line ts ≡ Some x → Spelt (print_import x.0) (t ∷ ts) x.1
unfolding import_at
import-sound t ts x is e = at (after punctuations.OpenParen ts) refl e
  where
    at : (o : Option (List Token)) → after punctuations.OpenParen ts ≡ o → import_by t.line ts o ≡ Some x
        → Spelt (print_import x.0) (t ∷ ts) x.1
    at None p f =
        let a = bind_some (text_at ts) (λ p. Some (imports.One t.line p.0, p.1)) x f in
        subst (λ (y : Import × List Token). Spelt (print_import y.0) (t ∷ ts) y.1)
        (some-same (imports.One t.line a.0.0, a.0.1) x a.2)
        (on-line-then _ t ts a.0.1 (kind-then t _ is (text-sound ts a.0 a.1)))
    at (Some us) p f =
        let a = bind_some (list_at text_at punctuations.Semicolon punctuations.CloseParen us)
        (λ ps. Some (imports.Group t.line ps.0, ps.1)) x f in
        let k = list-sound (List ℕ) text_at text any punctuations.Semicolon punctuations.CloseParen
        (λ vs y g. record { words = text-sound vs y g; good_item = refl }) us a.0 a.1 in
        subst (λ (y : Import × List Token). Spelt (print_import y.0) (t ∷ ts) y.1)
        (some-same (imports.Group t.line a.0.0, a.0.1) x a.2)
        (on-line-then _ t ts a.0.1 (kind-then t _ is (punctuation-then punctuations.OpenParen ts p k.words)))

const-sound : (ts : List Token) (x : Const × List Token) → const_at ts ≡ Some x → Spelt (print_const x.0) ts x.1
unfolding const_at
const-sound [] x e = cc
const-sound (t ∷ ts) x e = at t.kind refl e
  where
    named : (n : List ℕ) → t.kind ≡ kinds.Name n → (b c : Bool) → bytes_eq n (codes "true") ≡ b
        → bytes_eq n (codes "false") ≡ c → cond b (Some (const.True, ts)) (cond c (Some (const.False, ts)) None)
        ≡ Some x → Spelt (print_const x.0) (t ∷ ts) x.1
    named n is true c p q f = subst (λ (y : Const × List Token). Spelt (print_const y.0) (t ∷ ts) y.1)
        (some-same (const.True, ts) x f) (kind-then t _
        (is ∙ ap kinds.Name ((bytes_eq-Decides n (codes "true")).0 p)) nothing)
    named n is false true p q f = subst (λ (y : Const × List Token). Spelt (print_const y.0) (t ∷ ts) y.1)
        (some-same (const.False, ts) x f) (kind-then t _
        (is ∙ ap kinds.Name ((bytes_eq-Decides n (codes "false")).0 q)) nothing)
    named n is false false p q f = cc

    negative : (us : List Token) → t.kind ≡ kinds.Punctuation punctuations.Minus → negative_at us ≡ Some x
        → Spelt (print_const x.0) (t ∷ us) x.1
    negative [] is f = cc
    negative (u ∷ us) is f = by u.kind refl f
      where
        by : (k : TokenKind) → u.kind ≡ k → integer_of k us ≡ Some x → Spelt (print_const x.0) (t ∷ u ∷ us) x.1
        by (kinds.Integer digits) js g = subst (λ (y : Const × List Token). Spelt (print_const y.0) (t ∷ u ∷ us) y.1)
            (some-same (const.Negative digits, us) x g) (kind-then t _ is (kind-then u _ js nothing))
        by _ js g = cc

    punctuation : (m : Punctuation) → t.kind ≡ kinds.Punctuation m → const_of (kinds.Punctuation m) ts ≡ Some x
        → Spelt (print_const x.0) (t ∷ ts) x.1
    punctuation punctuations.Minus is f = negative ts is f
    punctuation _ is f = cc

    at : (k : TokenKind) → t.kind ≡ k → const_of k ts ≡ Some x → Spelt (print_const x.0) (t ∷ ts) x.1
    at (kinds.Integer digits) is f = subst (λ (y : Const × List Token). Spelt (print_const y.0) (t ∷ ts) y.1)
        (some-same (const.Integer digits, ts) x f) (kind-then t _ is nothing)
    at (kinds.Text bytes) is f = subst (λ (y : Const × List Token). Spelt (print_const y.0) (t ∷ ts) y.1)
        (some-same (const.Text bytes, ts) x f) (kind-then t _ is nothing)
    at (kinds.Name n) is f = named n is (bytes_eq n (codes "true")) (bytes_eq n (codes "false")) refl refl f
    at (kinds.Punctuation m) is f = punctuation m is f
    at (kinds.Keyword k) is f = cc

-- more names, after those that were read before
record More (done : List (List ℕ)) (ts : List Token) (x : List (List ℕ) × List Token) : Type 0 where
  others : List (List ℕ)
  are : x.0 ≡ done ++ others
  words : Spelt (behind punctuations.Comma (map (λ n. words.name n ∷ []) others)) ts x.1

names-sound : (n : ℕ) (done : List (List ℕ)) (ts : List Token) (x : List (List ℕ) × List Token)
    → names_in n done ts ≡ Some x → More done ts x
names-sound zero done ts x e = absurd (never e)
  where
    never : ◌≡◌ {A = Option (List (List ℕ) × List Token)} None (Some x) → ⊥
    never q = cc
names-sound (suc n) done ts x e = at (λ d us. names-sound n d us x) (after punctuations.Comma ts) refl e
  where
    append-nil : (xs : List (List ℕ)) → xs ++ [] ≡ xs
    append-nil [] = refl
    append-nil (y ∷ ys) = ap (λ zs. y ∷ zs) (append-nil ys)

    at : ((d : List (List ℕ)) (us : List Token) → names_in n d us ≡ Some x → More d us x) → (o : Option (List Token))
        → after punctuations.Comma ts ≡ o → names_by done ts (names_in n) o ≡ Some x → More done ts x
    at again None p f = subst (More done ts) (some-same (done, ts) x f)
        (record { others = []; are = sym (append-nil done); words = nothing })
    at again (Some us) p f =
        let a = bind_some (name_at us) (λ m. names_in n (done ++ m.0 ∷ []) m.1) x f in
        let r = again (done ++ a.0.0 ∷ []) a.0.1 a.2 in
        record {
          others = a.0.0 ∷ r.others;
          are = r.are ∙ append_assoc done (a.0.0 ∷ []) r.others;
          words = punctuation-then punctuations.Comma ts p (name-then a.0.0 us a.1 r.words);
        }

pub record IsField (ts : List Token) (x : Field × List Token) : Type 0 where
  pub words : Spelt (print_field x.0) ts x.1
  pub good : field_good x.0 ≡ true

pub field-sound : (ts : List Token) (x : Field × List Token) → field_at ts ≡ Some x → IsField ts x
unfolding field_at names_at
field-sound ts x e =
    let a = bind_some (name_at ts) (λ n. names_at n.1 >>= λ ms. type_at OfType ms.1 >>= λ t. Some
    (record { first = n.0; more = ms.0; of_type = t.0 }, t.1)) x e in
    let b = bind_some (names_at a.0.1) (λ ms. type_at OfType ms.1 >>= λ t. Some
    (record { first = a.0.0; more = ms.0; of_type = t.0 }, t.1)) x a.2 in
    let c = bind_some (type_at OfType b.0.1)
    (λ t. Some (record { first = a.0.0; more = b.0.0; of_type = t.0 }, t.1)) x b.2 in
    let m = names-sound (suc (length a.0.1)) [] a.0.1 b.0 b.1 in
    let k = type-sound b.0.1 c.0 c.1 in
    subst (IsField ts) (some-same (record { first = a.0.0; more = b.0.0; of_type = c.0.0 }, c.0.1) x c.2) (record {
      words = name-then a.0.0 ts a.1 (join (subst
          (λ ns. Spelt (behind punctuations.Comma (map (λ n. words.name n ∷ []) ns)) a.0.1 b.0.1) (sym m.are) m.words)
          k.words);
      good = k.good;
    })

fields-sound : (sep close : Punctuation) (ts : List Token) (x : List Field × List Token)
    → list_at field_at sep close ts ≡ Some x → AreItems Field field_at print_field field_good sep close x.0 ts x.1
fields-sound sep close ts x e = list-sound Field field_at print_field field_good sep close
    (λ us y g. let k = field-sound us y g in record { words = k.words; good_item = k.good }) ts x e

-- what is read is a declaration on the line of its word
pub record IsDeclAt (ts : List Token) (x : Decl × List Token) : Type 0 where
  pub words : Spelt (print_decl x.0) ts x.1
  pub good : decl_good x.0 ≡ true

module _ (t : Token) (ts : List Token) where
  const-decl : t.kind ≡ kinds.Keyword keywords.Const → (x : Decl × List Token) → const_decl t.line ts ≡ Some x
      → IsDeclAt (t ∷ ts) x
  const-decl is x e =
      let a = bind_some (name_at ts) (λ n. after punctuations.Assign n.1 >>= λ us. const_at us >>= λ c. Some
      (d.Const t.line n.0 c.0, c.1)) x e in
      let b = bind_some (after punctuations.Assign a.0.1)
      (λ us. const_at us >>= λ c. Some (d.Const t.line a.0.0 c.0, c.1)) x a.2 in
      let c = bind_some (const_at b.0) (λ c. Some (d.Const t.line a.0.0 c.0, c.1)) x b.2 in
      subst (IsDeclAt (t ∷ ts)) (some-same (d.Const t.line a.0.0 c.0.0, c.0.1) x c.2)
      (record {
        words = on-line-then _ t ts c.0.1
            (kind-then t _ is (name-then a.0.0 ts a.1
            (punctuation-then punctuations.Assign a.0.1 b.1 (const-sound b.0 c.0 c.1))));
        good = refl;
      })

  struct-decl : t.kind ≡ kinds.Keyword keywords.Type → (x : Decl × List Token) → struct_decl t.line ts ≡ Some x
      → IsDeclAt (t ∷ ts) x
  struct-decl is x e =
      let a = bind_some (name_at ts) (λ n. after_keyword keywords.Struct n.1 >>= λ us. after punctuations.OpenBrace us
      >>= λ vs. list_at field_at punctuations.Semicolon punctuations.CloseBrace vs >>= λ fs. Some
      (d.Struct t.line n.0 fs.0, fs.1)) x e in
      let b = bind_some (after_keyword keywords.Struct a.0.1)
      (λ us. after punctuations.OpenBrace us >>= λ vs. list_at field_at punctuations.Semicolon
      punctuations.CloseBrace vs >>= λ fs. Some (d.Struct t.line a.0.0 fs.0, fs.1)) x a.2 in
      let c = bind_some (after punctuations.OpenBrace b.0)
      (λ vs. list_at field_at punctuations.Semicolon punctuations.CloseBrace vs >>= λ fs. Some
      (d.Struct t.line a.0.0 fs.0, fs.1)) x b.2 in
      let f = bind_some (list_at field_at punctuations.Semicolon punctuations.CloseBrace c.0)
      (λ fs. Some (d.Struct t.line a.0.0 fs.0, fs.1)) x c.2 in
      let k = fields-sound punctuations.Semicolon punctuations.CloseBrace c.0 f.0 f.1 in
      subst (IsDeclAt (t ∷ ts)) (some-same (d.Struct t.line a.0.0 f.0.0, f.0.1) x f.2)
      (record {
        words = on-line-then _ t ts f.0.1
            (kind-then t _ is (name-then a.0.0 ts a.1
            (keyword-then keywords.Struct a.0.1 b.1 (punctuation-then punctuations.OpenBrace b.0 c.1 k.words))));
        good = k.goods;
      })

  var-decl : t.kind ≡ kinds.Keyword keywords.Var → (x : Decl × List Token)
      → (var_at t.line ts >>= λ v. Some (d.Var v.0, v.1)) ≡ Some x → IsDeclAt (t ∷ ts) x
  var-decl is x e =
      let a = bind_some (var_at t.line ts) (λ v. Some (d.Var v.0, v.1)) x e in
      let k = var-sound t ts a.0 is a.1 in
      subst (IsDeclAt (t ∷ ts)) (some-same (d.Var a.0.0, a.0.1) x a.2) (record { words = k.words; good = k.good })

  record IsReceiver (x : Option Receiver × List Token) : Type 0 where
    words : Spelt (optional print_receiver x.0) ts x.1

  receiver-sound : (x : Option Receiver × List Token) → (o : Option (List Token)) → after punctuations.OpenParen ts ≡ o
      → receiver_by ts o ≡ Some x → IsReceiver x
  receiver-sound x None p e = subst IsReceiver (some-same (None, ts) x e) (record { words = nothing })
  receiver-sound x (Some us) p e =
      let a = bind_some (name_at us) (λ n. after punctuations.Star n.1 >>= λ vs. name_at vs >>= λ m. after
      punctuations.CloseParen m.1 >>= λ ws. Some (Some (record { name = n.0; type_name = m.0 }), ws)) x e in
      let b = bind_some (after punctuations.Star a.0.1)
      (λ vs. name_at vs >>= λ m. after punctuations.CloseParen m.1 >>= λ ws. Some
      (Some (record { name = a.0.0; type_name = m.0 }), ws)) x a.2 in
      let c = bind_some (name_at b.0) (λ m. after punctuations.CloseParen m.1 >>= λ ws. Some
      (Some (record { name = a.0.0; type_name = m.0 }), ws)) x b.2 in
      let f = bind_some (after punctuations.CloseParen c.0.1)
      (λ ws. Some (Some (record { name = a.0.0; type_name = c.0.0 }), ws)) x c.2 in
      subst IsReceiver (some-same (Some (record { name = a.0.0; type_name = c.0.0 }), f.0) x f.2)
      (record {
        words = punctuation-then punctuations.OpenParen ts p
            (name-then a.0.0 us a.1 (punctuation-then punctuations.Star a.0.1 b.1
            (name-then c.0.0 b.0 c.1 (punctuation-then punctuations.CloseParen c.0.1 f.1 nothing))));
      })

  result-sound : (us : List Token) (o : Option (TypeExpr × List Token)) → type_at OfType us ≡ o
      → Spelt (optional print_type (result_by us o).0) us (result_by us o).1
      × (all_of (λ t. (type_form t).good) (result_by us o).0 ≡ true)
  result-sound us None p = (nothing, refl)
  result-sound us (Some y) p = let k = type-sound us y p in (k.words, k.good)

  func-decl : t.kind ≡ kinds.Keyword keywords.Func → (x : Decl × List Token) → func_at t.line ts ≡ Some x
      → IsDeclAt (t ∷ ts) x
  unfolding func_at
  func-decl is x e =
      let a = bind_some (receiver_by ts (after punctuations.OpenParen ts))
      (λ r. name_at r.1 >>= λ n. after punctuations.OpenParen n.1 >>= λ us. list_at field_at punctuations.Comma
      punctuations.CloseParen us >>= λ ps. func_behind t.line r.0 n.0 ps.0 (result_by ps.1 (type_at OfType ps.1))) x
      e in
      let b = bind_some (name_at a.0.1) (λ n. after punctuations.OpenParen n.1 >>= λ us. list_at field_at
      punctuations.Comma punctuations.CloseParen us >>= λ ps. func_behind t.line a.0.0 n.0 ps.0
      (result_by ps.1 (type_at OfType ps.1))) x a.2 in
      let c = bind_some (after punctuations.OpenParen b.0.1)
      (λ us. list_at field_at punctuations.Comma punctuations.CloseParen us >>= λ ps. func_behind t.line a.0.0 b.0.0
      ps.0 (result_by ps.1 (type_at OfType ps.1))) x b.2 in
      let f = bind_some (list_at field_at punctuations.Comma punctuations.CloseParen c.0)
      (λ ps. func_behind t.line a.0.0 b.0.0 ps.0 (result_by ps.1 (type_at OfType ps.1))) x c.2 in
      let res = result_by f.0.1 (type_at OfType f.0.1) in
      let g = bind_some (block_at res.1) (λ b'. Some (
        d.Func (record {
          line = t.line;
          receiver = a.0.0;
          name = b.0.0;
          parameters = f.0.0;
          result = res.0;
          body = b'.0;
        }),
        b'.1,
      )) x f.2 in
      let rk = receiver-sound a.0 (after punctuations.OpenParen ts) refl a.1 in
      let pk = fields-sound punctuations.Comma punctuations.CloseParen c.0 f.0 f.1 in
      let tk = result-sound f.0.1 (type_at OfType f.0.1) refl in
      let bk = block-sound res.1 g.0 g.1 in
      let plist = separated punctuations.Comma (map print_field f.0.0) in
      let tail = join tk.0 bk.words in
      subst (IsDeclAt (t ∷ ts)) (some-same (
        d.Func
            (record {
              line = t.line;
              receiver = a.0.0;
              name = b.0.0;
              parameters = f.0.0;
              result = res.0;
              body = g.0.0;
            }),
        g.0.1,
      ) x g.2) (record {
        words = on-line-then _ t ts g.0.1 (kind-then t _ is
            (join rk.words (name-then b.0.0 a.0.1 b.1 (punctuation-then punctuations.OpenParen b.0.1 c.1
            (subst (λ ws. Spelt ws c.0 g.0.1) (append_assoc plist (words.punctuation punctuations.CloseParen ∷ [])
            (optional print_type res.0 ++ print_block (map print_stmt g.0.0))) (join pk.words tail))))));
        good = and-true (list_all field_good f.0.0)
            (all_of (λ t. (type_form t).good) res.0 && stmts_good (map stmt_form g.0.0)) pk.goods
            (and-true (all_of (λ t. (type_form t).good) res.0) (stmts_good (map stmt_form g.0.0)) tk.1 bk.good);
      })

  decl-from : (k : Keyword) → t.kind ≡ kinds.Keyword k → (x : Decl × List Token) → decl_from t.line k ts ≡ Some x
      → IsDeclAt (t ∷ ts) x
  decl-from keywords.Const is x e = const-decl is x e
  decl-from keywords.Var is x e = var-decl is x e
  decl-from keywords.Type is x e = struct-decl is x e
  decl-from keywords.Func is x e = func-decl is x e
  decl-from _ is x e = cc

pub decl-sound : (ts : List Token) (x : Decl × List Token) → decl_at ts ≡ Some x → IsDeclAt ts x
unfolding decl_at
decl-sound [] x e = cc
decl-sound (t ∷ ts) x e = at t.kind refl e
  where
    at : (k : TokenKind) → t.kind ≡ k → decl_kind t.line k ts ≡ Some x → IsDeclAt (t ∷ ts) x
    at (kinds.Keyword k) is f = decl-from t ts k is x f
    at _ is f = cc
