-- An import or a declaration that is printed is read, before a semicolon.
-- For: `import_at`, src/imports.rt; `decl_at`, src/declarations.rt; the law `declarations_read`, src/laws.rt.
-- By: cases of the kind of declaration; induction over the list of names that share a type.
use Rattle.std.proofs.Common.{◌≡◌, inl, inr, ℕ, zero, suc, ◌≤◌, true, ◌&&◌, List, [], ◌∷◌, ◌++◌, length, map, refl, ap}
use Rattle.std.proofs.Common.{sym, subst, ◌∙◌, append_assoc, arith}
use Rattle.std.specs.Prelude.{Option, Some, None}
use Rattle.std.specs.List.{list_all}
use Rattle.golf_lex_tokens.specs.declared.token.Token.{Token}
use Rattle.golf_lex_tokens.specs.declared.token.TokenKind.{TokenKind}
use Rattle.golf_lex_tokens.specs.declared.token.TokenKind.TheVariants as kinds
use Rattle.golf_lex_tokens.specs.declared.token.Punctuation.{Punctuation}
use Rattle.golf_lex_tokens.specs.declared.token.Punctuation.TheVariants as punctuations
use Rattle.golf_lex_tokens.specs.declared.token.Keyword.{Keyword}
use Rattle.golf_lex_tokens.specs.declared.token.Keyword.TheVariants as keywords
use Rattle.golf_syntax_trees.specs.declared.types.TypeExpr.{TypeExpr}
use Rattle.golf_syntax_trees.specs.declared.statements.Stmt.{Stmt}
use Rattle.golf_syntax_trees.specs.declared.declarations.Const.{Const}
use Rattle.golf_syntax_trees.specs.declared.declarations.Const.TheVariants as const
use Rattle.golf_syntax_trees.specs.declared.declarations.Import.{Import}
use Rattle.golf_syntax_trees.specs.declared.declarations.Import.TheVariants as imports
use Rattle.golf_syntax_trees.specs.declared.declarations.Field.{Field}
use Rattle.golf_syntax_trees.specs.declared.declarations.Receiver.{Receiver}
use Rattle.golf_syntax_trees.specs.declared.declarations.Func.{Func}
use Rattle.golf_syntax_trees.specs.declared.declarations.Decl.{Decl}
use Rattle.golf_syntax_trees.specs.declared.declarations.Decl.TheVariants as d
use Rattle.golf_syntax_trees.specs.Words as words
use Rattle.golf_syntax_trees.specs.Words.{Word, on_line, behind, separated}
use Rattle.golf_syntax_trees.specs.Types.{print_type, type_form}
use Rattle.golf_syntax_trees.specs.Simple.{optional, all_of}
use Rattle.golf_syntax_trees.specs.Statements.{print_block, print_stmt, stmts_good, stmt_form}
use Rattle.golf_syntax_trees.specs.Declarations.{print_const, text, print_import, print_field, print_receiver}
use Rattle.golf_syntax_trees.specs.Declarations.{print_decl, field_good, func_good, decl_good}
use Rattle.golf_syntax_expressions.specs.Plan.{◌>>=◌}
use Rattle.golf_syntax_expressions.specs.Front.{after, after_kind, after_keyword, name_at, name_of}
use Rattle.golf_syntax_expressions.specs.TypeReader.{type_at, OfType}
use Rattle.golf_syntax_expressions.proofs.Fronts.{both, Spelt, nothing, punctuation-then, split, first, ends}
use Rattle.golf_syntax_expressions.proofs.Fronts.{behind-punctuation, behind-keyword, behind-name, not-after}
use Rattle.golf_syntax_expressions.proofs.Fronts.{after-shorter, name-shorter}
use Rattle.golf_syntax_expressions.proofs.ExprFronts.{then}
use Rattle.golf_syntax_expressions.proofs.TypeLaws.{type-complete}
use Rattle.golf_syntax_expressions.proofs.TypeSteps.{type-starts}
use Rattle.golf_syntax_statements.specs.VariableReader.{var_at}
use Rattle.golf_syntax_statements.specs.StatementReader.{found, block_at}
use Rattle.golf_syntax.specs.Many.{list_at}
use Rattle.golf_syntax.specs.DeclarationReader.{text_of, text_at, import_by, import_at, integer_of, negative_at}
use Rattle.golf_syntax.specs.DeclarationReader.{const_of}
use Rattle.golf_syntax.specs.DeclarationReader.{const_at, names_by, names_in, names_at, field_at, receiver_by}
use Rattle.golf_syntax.specs.DeclarationReader.{result_by}
use Rattle.golf_syntax.specs.DeclarationReader.{func_behind, func_at, decl_from, decl_kind, decl_at}
use Rattle.golf_syntax_statements.proofs.Nothing.{semicolon, stops}
use Rattle.golf_syntax_statements.proofs.VarLaws.{var-complete}
use Rattle.golf_syntax_statements.proofs.StmtComplete.{block-complete}
use Rattle.golf_syntax.proofs.ManyLaws.{Behind, list-complete}
use Rattle.golf_syntax.proofs.DeclSound.{any}

text-complete : (p : List ℕ) (ts rest : List Token) → Spelt (text p) ts rest → text_at ts ≡ Some (p, rest)
text-complete p ts rest h = let f = first h in ap text_at f.2 ∙ ap (λ k. text_of k f.1) f.3
    ∙ ap (λ us. Some (p, us)) (ends f.5)

apart : (sep close : Punctuation) → ((us : List Token) → after_kind sep (kinds.Punctuation close) us ≡ None)
    → (ts us : List Token) → after close ts ≡ Some us → after sep ts ≡ None
apart sep close k ts us e = not-after sep (kinds.Punctuation close) k (punctuation-then close ts e nothing)

text-opens : (ts : List Token) (x : List ℕ × List Token) → text_at ts ≡ Some x → after punctuations.CloseParen ts ≡ None
text-opens [] x e = refl
text-opens (t ∷ ts) x e = at t.kind e
  where
    at : (k : TokenKind) → text_of k ts ≡ Some x → after_kind punctuations.CloseParen k ts ≡ None
    at (kinds.Text bytes) e = refl
    at _ e = cc

-- an import after its word
pub import-complete : (i : Import) (ts rest : List Token) → Spelt (print_import i) ts rest → (t : Token)
    × (us : List Token) × (ts ≡ t ∷ us) × (t.kind ≡ kinds.Keyword keywords.Import)
    × (import_at t.line us ≡ Some (i, rest))
unfolding import_at
import-complete (imports.One l p) ts rest h =
    let f = first h in (
      f.0,
      f.1,
      f.2,
      f.3,
      ap (import_by f.0.line f.1) (not-after punctuations.OpenParen (kinds.Text p) (λ us. refl) f.5)
          ∙ then (λ q. Some (imports.One f.0.line q.0, q.1)) (text_at f.1) (p, rest) (text-complete p f.1 rest f.5)
          ∙ ap (λ n. Some (imports.One n p, rest)) f.4,
    )
import-complete (imports.Group l ps) ts rest h =
    let f = first h in
    let o = behind-punctuation punctuations.OpenParen f.5 in
    let r = list-complete (List ℕ) text_at text any punctuations.Semicolon punctuations.CloseParen
    (λ q vs ws g k b. text-complete q vs ws k)
    (apart punctuations.Semicolon punctuations.CloseParen (λ us. refl)) text-opens ps o.0 rest
    (record { words = o.2; goods = all-any ps }) in (
      f.0,
      f.1,
      f.2,
      f.3,
      ap (import_by f.0.line f.1) o.1 ∙ then (λ qs. Some (imports.Group f.0.line qs.0, qs.1))
          (list_at text_at punctuations.Semicolon punctuations.CloseParen o.0) (ps, rest) r
          ∙ ap (λ n. Some (imports.Group n ps, rest)) f.4,
    )
  where
    all-any : (qs : List (List ℕ)) → list_all any qs ≡ true
    all-any [] = refl
    all-any (q ∷ qs) = all-any qs

const-complete : (c : Const) (ts rest : List Token) → Spelt (print_const c) ts rest → const_at ts ≡ Some (c, rest)
unfolding const_at
const-complete (const.Integer digits) ts rest h = let f = first h in ap const_at f.2 ∙ ap (λ k. const_of k f.1) f.3
    ∙ ap (λ us. Some (const.Integer digits, us)) (ends f.5)
const-complete (const.Text bytes) ts rest h = let f = first h in ap const_at f.2 ∙ ap (λ k. const_of k f.1) f.3
    ∙ ap (λ us. Some (const.Text bytes, us)) (ends f.5)
const-complete const.True ts rest h = let f = first h in ap const_at f.2 ∙ ap (λ k. const_of k f.1) f.3
    ∙ ap (λ us. Some (const.True, us)) (ends f.5)
const-complete const.False ts rest h = let f = first h in ap const_at f.2 ∙ ap (λ k. const_of k f.1) f.3
    ∙ ap (λ us. Some (const.False, us)) (ends f.5)
const-complete (const.Negative digits) ts rest h =
    let f = first h in
    let g = first f.5 in
    ap const_at f.2 ∙ ap (λ k. const_of k f.1) f.3 ∙ ap negative_at g.2 ∙ ap (λ k. integer_of k g.1) g.3
    ∙ ap (λ us. Some (const.Negative digits, us)) (ends g.5)

-- no type begins with such a punctuation mark
no-type : (m : Punctuation) (ts us : List Token)
    → ((vs : List Token) → (t : Token) → t.kind ≡ kinds.Punctuation m → type_at OfType (t ∷ vs) ≡ None)
    → after m ts ≡ Some us → type_at OfType ts ≡ None
no-type m ts us k e = let f = first (punctuation-then m ts e nothing) in ap (type_at OfType) f.2 ∙ k f.1 f.0 f.3

type-clear : (m : Punctuation) (ts : List Token) (x : TypeExpr × List Token)
    → ((vs : List Token) → (t : Token) → t.kind ≡ kinds.Punctuation m → type_at OfType (t ∷ vs) ≡ None)
    → type_at OfType ts ≡ Some x → after m ts ≡ None
type-clear m ts x k e = at (after m ts) refl
  where
    at : (o : Option (List Token)) → after m ts ≡ o → after m ts ≡ None
    at None p = p
    at (Some us) p = absurd (never (sym (no-type m ts us k p) ∙ e))
      where
        never : ◌≡◌ {A = Option (TypeExpr × List Token)} None (Some x) → ⊥
        never q = cc

append-nil : (xs : List (List ℕ)) → xs ++ [] ≡ xs
append-nil [] = refl
append-nil (y ∷ ys) = ap (λ zs. y ∷ zs) (append-nil ys)

names-read : (ms : List (List ℕ)) (n : ℕ) (done : List (List ℕ)) (ts rest : List Token) → length ts ≤ n
    → Spelt (behind punctuations.Comma (map (λ n. words.name n ∷ []) ms)) ts rest → after punctuations.Comma rest ≡ None
    → names_in (suc n) done ts ≡ Some (done ++ ms, rest)
names-read [] n done ts rest le h c =
    ap (names_by done ts (names_in n)) (ap (after punctuations.Comma) (ends h) ∙ c)
    ∙ ap (λ us. Some (done, us)) (ends h) ∙ ap (λ xs. Some (xs, rest)) (sym (append-nil done))
names-read (m ∷ ms) zero done ts rest le h c =
    let a = behind-punctuation punctuations.Comma h in
    let q = after-shorter punctuations.Comma ts a.0 a.1 in
    absurd (omega arith)
names-read (m ∷ ms) (suc n) done ts rest le h c =
    let a = behind-punctuation punctuations.Comma h in
    let b = behind-name m a.2 in
    let q = after-shorter punctuations.Comma ts a.0 a.1 in
    let r = name-shorter a.0 b.0 m b.1 in
    ap (names_by done ts (names_in (suc n))) a.1
    ∙ then (λ k. names_in (suc n) (done ++ k.0 ∷ []) k.1) (name_at a.0) (m, b.0) b.1
    ∙ names-read ms n (done ++ m ∷ []) b.0 rest (omega arith) b.2 c
    ∙ ap (λ xs. Some (xs, rest)) (append_assoc done (m ∷ []) ms)

-- a field is read if no dot follows
field-complete : (x : Field) (ts rest : List Token) → field_good x ≡ true → Spelt (print_field x) ts rest
    → after punctuations.Dot rest ≡ None → field_at ts ≡ Some (x, rest)
unfolding field_at names_at
field-complete x ts rest good h dot =
    let n = behind-name x.first h in
    let w = split (behind punctuations.Comma (map (λ n. words.name n ∷ []) x.more)) (print_type x.of_type) n.2 in
    let t = type-complete x.of_type good w.0 rest w.2 dot in
    let clear = type-clear punctuations.Comma w.0 (x.of_type, rest)
    (λ vs u is. type-starts u vs (kinds.Punctuation punctuations.Comma) is) t in
    then (λ n. names_at n.1 >>= λ ms. type_at OfType ms.1 >>= λ t. Some
    (record { first = n.0; more = ms.0; of_type = t.0 }, t.1)) (name_at ts) (x.first, n.0) n.1
    ∙ then (λ ms. type_at OfType ms.1 >>= λ t. Some (record { first = x.first; more = ms.0; of_type = t.0 }, t.1))
    (names_at n.0) (x.more, w.0) (names-read x.more (length n.0) [] n.0 w.0 (omega arith) w.1 clear)
    ∙ then (λ t. Some (record { first = x.first; more = x.more; of_type = t.0 }, t.1)) (type_at OfType w.0)
    (x.of_type, rest) t

field-opens : (m : Punctuation) → (ts : List Token) (x : Field × List Token) → field_at ts ≡ Some x → after m ts ≡ None
unfolding field_at
field-opens m [] x e = refl
field-opens m (t ∷ ts) x e = at t.kind refl
  where
    nothing-read : name_at (t ∷ ts) ≡ None → after m (t ∷ ts) ≡ None
    nothing-read n = absurd (never (sym (ap
        (λ o. o >>= λ n. names_at n.1 >>= λ ms. type_at OfType ms.1 >>= λ t. Some
        (record { first = n.0; more = ms.0; of_type = t.0 }, t.1)) n) ∙ e))
      where
        never : ◌≡◌ {A = Option (Field × List Token)} None (Some x) → ⊥
        never q = cc

    at : (k : TokenKind) → t.kind ≡ k → after m (t ∷ ts) ≡ None
    at (kinds.Name n) is = ap (λ k. after_kind m k ts) is
    at (kinds.Punctuation q) is = nothing-read (ap (λ k. name_of k ts) is)
    at (kinds.Keyword w) is = ap (λ k. after_kind m k ts) is
    at (kinds.Integer digits) is = ap (λ k. after_kind m k ts) is
    at (kinds.Text bytes) is = ap (λ k. after_kind m k ts) is

fields-complete : (sep close : Punctuation)
    → ((us : List Token) → (after_kind sep (kinds.Punctuation close) us ≡ None)
    × (after_kind punctuations.Dot (kinds.Punctuation sep) us ≡ None)
    × (after_kind punctuations.Dot (kinds.Punctuation close) us ≡ None)) →
    (xs : List Field) (ts rest : List Token) → list_all field_good xs ≡ true
    → Spelt (separated sep (map print_field xs) ++ words.punctuation close ∷ []) ts rest
    → list_at field_at sep close ts ≡ Some (xs, rest)
fields-complete sep close k xs ts rest good h =
    list-complete Field field_at print_field field_good sep close
    (λ x us ws g w b. field-complete x us ws g w (no-dot ws b)) (apart sep close (λ us. (k us).0))
    (field-opens close) xs ts rest (record { words = h; goods = good })
  where
    no-dot : (ws : List Token) → Behind Field field_at print_field field_good sep close ws
        → after punctuations.Dot ws ≡ None
    no-dot ws (us, inl e) = apart punctuations.Dot sep (λ vs. (k vs).1) ws us e
    no-dot ws (us, inr e) = apart punctuations.Dot close (λ vs. (k vs).2) ws us e

receiver-read : (r : Option Receiver) (n : List ℕ) (ws : List Word) (ts rest : List Token)
    → Spelt (optional print_receiver r ++ words.name n ∷ ws) ts rest → (us : List Token)
    × (receiver_by ts (after punctuations.OpenParen ts) ≡ Some (r, us)) × Spelt (words.name n ∷ ws) us rest
receiver-read None n ws ts rest h = (
  ts,
  ap (receiver_by ts) (not-after punctuations.OpenParen (kinds.Name n) (λ us. refl) h),
  h,
)
receiver-read (Some r) n ws ts rest h =
    let s = split (print_receiver r) (words.name n ∷ ws) h in
    let o = behind-punctuation punctuations.OpenParen s.1 in
    let a = behind-name r.name o.2 in
    let b = behind-punctuation punctuations.Star a.2 in
    let c = behind-name r.type_name b.2 in
    let f = behind-punctuation punctuations.CloseParen c.2 in (
      s.0,
      ap (receiver_by ts) o.1
          ∙ then (λ n. after punctuations.Star n.1 >>= λ vs. name_at vs >>= λ m. after punctuations.CloseParen m.1 >>=
          λ ws. Some (Some (record { name = n.0; type_name = m.0 }), ws)) (name_at o.0) (r.name, a.0) a.1
          ∙ then (λ vs. name_at vs >>= λ m. after punctuations.CloseParen m.1 >>= λ ws. Some
          (Some (record { name = r.name; type_name = m.0 }), ws)) (after punctuations.Star a.0) b.0 b.1
          ∙ then (λ m. after punctuations.CloseParen m.1 >>= λ ws. Some
          (Some (record { name = r.name; type_name = m.0 }), ws)) (name_at b.0) (r.type_name, c.0) c.1
          ∙ then (λ ws. Some (Some r, ws)) (after punctuations.CloseParen c.0) s.0 (f.1 ∙ ap Some (ends f.2)),
      s.2,
    )

-- a result before a block
result-read : (o : Option TypeExpr) (b : List Stmt) (ts rest : List Token) → all_of (λ t. (type_form t).good) o ≡ true
    → Spelt (optional print_type o ++ print_block (map print_stmt b)) ts rest → (us : List Token)
    × (result_by ts (type_at OfType ts) ≡ (o, us)) × Spelt (print_block (map print_stmt b)) us rest
result-read None b ts rest g h =
    let o = behind-punctuation punctuations.OpenBrace h in (
      ts,
      ap (result_by ts) (no-type punctuations.OpenBrace ts o.0
          (λ vs u is. type-starts u vs (kinds.Punctuation punctuations.OpenBrace) is) o.1),
      h,
    )
result-read (Some t) b ts rest g h =
    let s = split (print_type t) (print_block (map print_stmt b)) h in (
      s.0,
      ap (result_by ts) (type-complete t g ts s.0 s.1
          (not-after punctuations.Dot (kinds.Punctuation punctuations.OpenBrace) (λ us. refl) s.2)),
      s.2,
    )

func-read : (f : Func) (us rest : List Token) → func_good f ≡ true
    → Spelt (optional print_receiver f.receiver ++ words.name f.name
    ∷ (words.punctuation punctuations.OpenParen
    ∷ (separated punctuations.Comma (map print_field f.parameters) ++ words.punctuation punctuations.CloseParen
    ∷ (optional print_type f.result ++ print_block (map print_stmt f.body))))) us rest
    → func_at f.line us ≡ Some (d.Func f, rest)
unfolding func_at
func-read f us rest good h =
    let g = both (list_all field_good f.parameters)
    (all_of (λ t. (type_form t).good) f.result && stmts_good (map stmt_form f.body)) good in
    let k = both (all_of (λ t. (type_form t).good) f.result) (stmts_good (map stmt_form f.body)) g.1 in
    let r = receiver-read f.receiver f.name _ us rest h in
    let n = behind-name f.name r.2 in
    let o = behind-punctuation punctuations.OpenParen n.2 in
    let behind_fields = optional print_type f.result ++ print_block (map print_stmt f.body) in
    let s = split (separated punctuations.Comma (map print_field f.parameters)
    ++ words.punctuation punctuations.CloseParen ∷ []) behind_fields
    (subst (λ ws. Spelt ws o.0 rest) (sym (append_assoc (separated punctuations.Comma (map print_field f.parameters))
    (words.punctuation punctuations.CloseParen ∷ []) behind_fields)) o.2) in
    let p = fields-complete punctuations.Comma punctuations.CloseParen
    (λ vs. (refl, refl, refl)) f.parameters o.0 s.0 g.0 s.1 in
    let t = result-read f.result f.body s.0 rest k.0 s.2 in
    then (λ r. name_at r.1 >>= λ n. after punctuations.OpenParen n.1 >>= λ us. list_at field_at punctuations.Comma
    punctuations.CloseParen us >>= λ ps. func_behind f.line r.0 n.0 ps.0 (result_by ps.1 (type_at OfType ps.1)))
    (receiver_by us (after punctuations.OpenParen us)) (f.receiver, r.0) r.1
    ∙ then (λ n. after punctuations.OpenParen n.1 >>= λ us. list_at field_at punctuations.Comma punctuations.CloseParen
    us >>= λ ps. func_behind f.line f.receiver n.0 ps.0 (result_by ps.1 (type_at OfType ps.1))) (name_at r.0)
    (f.name, n.0) n.1
    ∙ then (λ us. list_at field_at punctuations.Comma punctuations.CloseParen us >>= λ ps. func_behind f.line f.receiver
    f.name ps.0 (result_by ps.1 (type_at OfType ps.1))) (after punctuations.OpenParen n.0) o.0 o.1
    ∙ then (λ ps. func_behind f.line f.receiver f.name ps.0 (result_by ps.1 (type_at OfType ps.1)))
    (list_at field_at punctuations.Comma punctuations.CloseParen o.0) (f.parameters, s.0) p
    ∙ ap (func_behind f.line f.receiver f.name f.parameters) t.1
    ∙ then (λ b. Some (
      d.Func (record {
        line = f.line;
        receiver = f.receiver;
        name = f.name;
        parameters = f.parameters;
        result = f.result;
        body = b.0;
      }),
      b.1,
    )) (block_at t.0) (f.body, rest)
    (block-complete (List Stmt) f.body t.0 rest found k.1 t.2)

-- the word of a declaration, and what is read after it
declared : {ws : List Word} {ts rest : List Token} (l : ℕ) (k : Keyword) (x : Decl)
    → Spelt (on_line l (words.keyword k ∷ ws)) ts rest
    → ((us : List Token) → Spelt ws us rest → decl_from l k us ≡ Some (x, rest)) → decl_at ts ≡ Some (x, rest)
unfolding decl_at
declared l k x h goes = let f = first h in ap decl_at f.2 ∙ ap (λ n. decl_kind n f.0.kind f.1) f.4
    ∙ ap (λ q. decl_kind l q f.1) f.3 ∙ goes f.1 f.5

-- a declaration that is printed is read, before a semicolon
pub decl-complete : (x : Decl) (ts rest behind : List Token) → decl_good x ≡ true → Spelt (print_decl x) ts rest
    → after punctuations.Semicolon rest ≡ Some behind → decl_at ts ≡ Some (x, rest)
decl-complete (d.Const l n c) ts rest behind good h e = declared l keywords.Const (d.Const l n c) h (λ us w.
    let a = behind-name n w in
    let b = behind-punctuation punctuations.Assign a.2 in
    then (λ n. after punctuations.Assign n.1 >>= λ us. const_at us >>= λ c. Some (d.Const l n.0 c.0, c.1)) (name_at us)
    (n, a.0) a.1
    ∙ then (λ us. const_at us >>= λ c. Some (d.Const l n c.0, c.1)) (after punctuations.Assign a.0) b.0 b.1
    ∙ then (λ c. Some (d.Const l n c.0, c.1)) (const_at b.0) (c, rest) (const-complete c b.0 rest b.2))
decl-complete (d.Var v) ts rest behind good h e = declared v.line keywords.Var (d.Var v) h (λ us w.
    then (λ v. Some (d.Var v.0, v.1)) (var_at v.line us) (v, rest)
    (var-complete v us rest good w (stops punctuations.Semicolon semicolon
    (punctuation-then punctuations.Semicolon rest e nothing))))
decl-complete (d.Struct l n fs) ts rest behind good h e = declared l keywords.Type (d.Struct l n fs) h (λ us w.
    let a = behind-name n w in
    let b = behind-keyword keywords.Struct a.2 in
    let c = behind-punctuation punctuations.OpenBrace b.2 in
    then (λ n. after_keyword keywords.Struct n.1 >>= λ us. after punctuations.OpenBrace us >>= λ vs. list_at field_at
    punctuations.Semicolon punctuations.CloseBrace vs >>= λ fs. Some (d.Struct l n.0 fs.0, fs.1)) (name_at us)
    (n, a.0) a.1
    ∙ then (λ us. after punctuations.OpenBrace us >>= λ vs. list_at field_at punctuations.Semicolon
    punctuations.CloseBrace vs >>= λ fs. Some (d.Struct l n fs.0, fs.1)) (after_keyword keywords.Struct a.0) b.0 b.1
    ∙ then (λ vs. list_at field_at punctuations.Semicolon punctuations.CloseBrace vs >>= λ fs. Some
    (d.Struct l n fs.0, fs.1)) (after punctuations.OpenBrace b.0) c.0 c.1
    ∙ then (λ fs. Some (d.Struct l n fs.0, fs.1)) (list_at field_at punctuations.Semicolon punctuations.CloseBrace c.0)
    (fs, rest) (fields-complete punctuations.Semicolon punctuations.CloseBrace
    (λ vs. (refl, refl, refl)) fs c.0 rest good c.2))
decl-complete (d.Func f) ts rest behind good h e =
    declared f.line keywords.Func (d.Func f) h (λ us w. func-read f us rest good w)
