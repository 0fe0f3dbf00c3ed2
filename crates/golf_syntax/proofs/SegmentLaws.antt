-- A segment is read as an import, a declaration or the package clause exactly if it is one.
-- For: `import_of`, `decl_of` and `is_package`, src/parser.rt.
-- By: cases of the first token; no induction.
use Rattle.std.proofs.Common.{◌≡◌, ℕ, Bool, true, false, cond, List, [], ◌∷◌, refl, ap, sym, subst, ◌∙◌}
use Rattle.std.specs.Prelude.{Option, Some, None, codes}
use Rattle.std.specs.Str.{bytes_eq}
use Rattle.std.proofs.lemmas.Slice.Eq.{bytes_eq-Decides}
use Rattle.golf_lex_tokens.specs.declared.token.Token.{Token}
use Rattle.golf_lex_tokens.specs.declared.token.TokenKind.{TokenKind}
use Rattle.golf_lex_tokens.specs.declared.token.TokenKind.TheVariants as kinds
use Rattle.golf_lex_tokens.specs.declared.token.Punctuation.TheVariants as punctuations
use Rattle.golf_lex_tokens.specs.declared.token.Keyword.{Keyword}
use Rattle.golf_lex_tokens.specs.declared.token.Keyword.TheVariants as keywords
use Rattle.golf_syntax_trees.specs.declared.declarations.Import.{Import}
use Rattle.golf_syntax_trees.specs.declared.declarations.Import.TheVariants as imports
use Rattle.golf_syntax_trees.specs.declared.declarations.Decl.{Decl}
use Rattle.golf_syntax_trees.specs.declared.declarations.Decl.TheVariants as d
use Rattle.golf_syntax_trees.specs.Words as words
use Rattle.golf_syntax_trees.specs.Words.{Word, SpellsWords}
use Rattle.golf_syntax_trees.specs.Declarations.{print_import, print_decl, decl_good}
use Rattle.golf_syntax_trees.specs.Segments.{IsPackage, IsImport, IsDecl}
use Rattle.golf_syntax_expressions.specs.Plan.{◌>>=◌}
use Rattle.golf_syntax_expressions.specs.Front.{after, after_keyword, name_at}
use Rattle.golf_syntax_expressions.proofs.Plans.{bind_some}
use Rattle.golf_syntax_expressions.proofs.Fronts.{some-same, both, nothing, punctuation-then, keyword-then, name-then}
use Rattle.golf_syntax_expressions.proofs.Fronts.{behind-punctuation, ends}
use Rattle.golf_syntax_expressions.proofs.ExprFronts.{then}
use Rattle.golf_syntax_segments.specs.Laws.{EndedBySemicolon}
use Rattle.golf_syntax_segments.proofs.Spelling.{split, join}
use Rattle.golf_syntax.specs.DeclarationReader.{import_at, decl_at}
use Rattle.golf_syntax.specs.SegmentReader.{is_last, is_end, alone, import_by_word, import_of, decl_of, is_main}
use Rattle.golf_syntax.specs.SegmentReader.{is_package}
use Rattle.golf_syntax.proofs.Found.{imports-found, imports-read, declarations-found, declarations-read}

abbrev semicolon : List Word
semicolon = words.punctuation punctuations.Semicolon ∷ []

end-spelt : (ts : List Token) → is_end ts ≡ true → SpellsWords semicolon ts []
end-spelt ts e = at (after punctuations.Semicolon ts) refl e
  where
    at : (o : Option (List Token)) → after punctuations.Semicolon ts ≡ o → is_last o ≡ true
        → SpellsWords semicolon ts []
    at (Some []) q f = (punctuation-then punctuations.Semicolon ts q nothing).are
    at (Some (u ∷ us)) q f = cc
    at None q f = cc

spelt-end : (ts : List Token) → SpellsWords semicolon ts [] → is_end ts ≡ true
spelt-end ts h = let b = behind-punctuation {ts = ts} punctuations.Semicolon (record { are = h }) in ap is_last
    (b.1 ∙ ap Some (ends b.2))

alone-found : {A : Type 0} (x : A × List Token) (a : A) → alone x ≡ Some a → (x.0 ≡ a) × (is_end x.1 ≡ true)
alone-found x a e = at (is_end x.1) refl e
  where
    at : (b : Bool) → is_end x.1 ≡ b → cond b (Some x.0) None ≡ Some a → (x.0 ≡ a) × (is_end x.1 ≡ true)
    at true q f = (some-same x.0 a f, q)
    at false q f = cc

alone-is : {A : Type 0} (a : A) (ts : List Token) → SpellsWords semicolon ts [] → alone (a, ts) ≡ Some a
alone-is a ts h = ap (λ b. cond b (Some a) None) (spelt-end ts h)

behind-word : (t : Token) (ts : List Token) (i : Import) → t.kind ≡ kinds.Keyword keywords.Import
    → (import_at t.line ts >>= alone) ≡ Some i → EndedBySemicolon (print_import i) (t ∷ ts)
behind-word t ts i is e =
    let a = bind_some (import_at t.line ts) alone i e in
    let k = alone-found a.0 i a.2 in
    subst (λ j. EndedBySemicolon (print_import j) (t ∷ ts)) k.0
    (join (print_import a.0.0) semicolon (t ∷ ts) a.0.1 [] (imports-found t ts a.0 is a.1).words
    (end-spelt a.0.1 k.1))

by-word : (t : Token) (ts : List Token) (i : Import) (w : Keyword) → t.kind ≡ kinds.Keyword w
    → import_by_word t.line (kinds.Keyword w) ts ≡ Some i → EndedBySemicolon (print_import i) (t ∷ ts)
by-word t ts i keywords.Import is e = behind-word t ts i is e
by-word t ts i _ is e = cc

by-kind : (t : Token) (ts : List Token) (i : Import) (k : TokenKind) → t.kind ≡ k → import_by_word t.line k ts ≡ Some i
    → EndedBySemicolon (print_import i) (t ∷ ts)
by-kind t ts i (kinds.Keyword w) is e = by-word t ts i w is e
by-kind t ts i _ is e = cc

pub import-found : (p : List Token) (i : Import) → import_of p ≡ Some i → EndedBySemicolon (print_import i) p
import-found [] i e = cc
import-found (t ∷ ts) i e = by-kind t ts i t.kind refl e

pub import-read : (p : List Token) (i : Import) → EndedBySemicolon (print_import i) p → import_of p ≡ Some i
import-read p i h =
    let k = split (print_import i) semicolon p [] h in
    let r = imports-read p (i, k.0) (record { words = k.1 }) in
    ap import_of r.2
    ∙ ap (λ q. import_by_word r.0.line q r.1) r.3
    ∙ then alone (import_at r.0.line r.1) (i, k.0) r.4
    ∙ alone-is i k.0 k.2

pub decl-found : (p : List Token) (x : Decl) → decl_of p ≡ Some x → EndedBySemicolon (print_decl x) p
    × (decl_good x ≡ true)
decl-found p x e =
    let a = bind_some (decl_at p) alone x e in
    let k = alone-found a.0 x a.2 in
    let r = declarations-found p a.0 a.1 in
    subst (λ y. EndedBySemicolon (print_decl y) p × (decl_good y ≡ true)) k.0
    (join (print_decl a.0.0) semicolon p a.0.1 [] r.words (end-spelt a.0.1 k.1), r.good)

pub decl-read : (p : List Token) (x : Decl) → EndedBySemicolon (print_decl x) p → decl_good x ≡ true
    → decl_of p ≡ Some x
decl-read p x h good =
    let k = split (print_decl x) semicolon p [] h in
    let b = behind-punctuation {ws = []} {ts = k.0} {rest = []} punctuations.Semicolon (record { are = k.2 }) in
    then alone (decl_at p) (x, k.0) (declarations-read p b.0 (x, k.0) (record { words = k.1; good = good }) b.1)
    ∙ alone-is x k.0 k.2

pub no-import : (p : List Token) → import_of p ≡ None → IsImport p → ⊥
no-import p e k = never (sym e ∙ import-read p k.tree k.words)
  where
    never : {A : Type 0} {a : A} → ◌≡◌ {A = Option A} None (Some a) → ⊥
    never q = cc

pub no-decl : (p : List Token) → decl_of p ≡ None → IsDecl p → ⊥
no-decl p e k = never (sym e ∙ decl-read p k.tree k.words k.good)
  where
    never : {A : Type 0} {a : A} → ◌≡◌ {A = Option A} None (Some a) → ⊥
    never q = cc

main-is : (n : List ℕ) → bytes_eq n (codes "main") ≡ true → n ≡ codes "main"
main-is n e = (bytes_eq-Decides n (codes "main")).0 e

package-by : (p us : List Token) (n : List ℕ × List Token) → after_keyword keywords.Package p ≡ Some us
    → name_at us ≡ Some n → n.0 ≡ codes "main" → is_end n.1 ≡ true → IsPackage p
package-by p us n e f main end =
    (keyword-then {ws = words.name (codes "main") ∷ semicolon} {us = us} {rest = []} keywords.Package p e
    (name-then {ws = semicolon} {us = n.1} {rest = []} (codes "main") us (f ∙ ap (λ m. Some (m, n.1)) main)
    (record { are = end-spelt n.1 end }))).are

package-named : (p : List Token) (o : Option (List ℕ × List Token)) → (after_keyword keywords.Package p >>= name_at) ≡ o
    → is_main o ≡ true → IsPackage p
package-named p None q f = cc
package-named p (Some n) q f =
    let k = both (bytes_eq n.0 (codes "main")) (is_end n.1) f in
    let a = bind_some (after_keyword keywords.Package p) name_at n q in
    package-by p a.0 n a.1 a.2 (main-is n.0 k.0) k.1

pub package-found : (p : List Token) → is_package p ≡ true → IsPackage p
package-found p e = package-named p (after_keyword keywords.Package p >>= name_at) refl e

-- no segment is an import and a declaration
abbrev decl_word : Decl → Keyword
decl_word (d.Const l n c) = keywords.Const
decl_word (d.Var v) = keywords.Var
decl_word (d.Struct l n fs) = keywords.Type
decl_word (d.Func f) = keywords.Func

abbrev Begins : Keyword → List Token → Type 0
Begins w [] = ⊥
Begins w (t ∷ ts) = t.kind ≡ kinds.Keyword w

import-begins : (i : Import) (p : List Token) → EndedBySemicolon (print_import i) p → Begins keywords.Import p
import-begins (imports.One l path) [] h = absurd h
import-begins (imports.One l path) (t ∷ ts) h = h.0.0
import-begins (imports.Group l paths) [] h = absurd h
import-begins (imports.Group l paths) (t ∷ ts) h = h.0.0

decl-begins : (x : Decl) (p : List Token) → EndedBySemicolon (print_decl x) p → Begins (decl_word x) p
decl-begins (d.Const l n c) [] h = absurd h
decl-begins (d.Const l n c) (t ∷ ts) h = h.0.0
decl-begins (d.Var v) [] h = absurd h
decl-begins (d.Var v) (t ∷ ts) h = h.0.0
decl-begins (d.Struct l n fs) [] h = absurd h
decl-begins (d.Struct l n fs) (t ∷ ts) h = h.0.0
decl-begins (d.Func f) [] h = absurd h
decl-begins (d.Func f) (t ∷ ts) h = h.0.0

no-import-word : (x : Decl) (k : TokenKind) → k ≡ kinds.Keyword keywords.Import → k ≡ kinds.Keyword (decl_word x) → ⊥
no-import-word (d.Const l n c) k e f = cc
no-import-word (d.Var v) k e f = cc
no-import-word (d.Struct l n fs) k e f = cc
no-import-word (d.Func g) k e f = cc

both-begin : (x : Decl) (p : List Token) → Begins keywords.Import p → Begins (decl_word x) p → ⊥
both-begin x [] h k = h
both-begin x (t ∷ ts) h k = no-import-word x t.kind h k

pub apart : (i : Import) (x : Decl) (p : List Token) → EndedBySemicolon (print_import i) p
    → EndedBySemicolon (print_decl x) p → ⊥
apart i x p h k = both-begin x p (import-begins i p h) (decl-begins x p k)
