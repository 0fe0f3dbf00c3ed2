-- Words whose brackets are in pairs are one segment with a semicolon after them.
-- For: `imports_are_segments`, `declarations_are_segments` and `files_are_segments`, src/laws.rt
-- By: induction over how the words are nested, and over the lists of imports and declarations
use Rattle.std.proofs.Common.{◌≡◌, ℕ, zero, suc, Bool, true, false, List, [], ◌∷◌, ◌++◌, map, refl, ap, sym, subst, ◌∙◌}
use Rattle.std.proofs.Common.{arith}
use Rattle.std.specs.Prelude.{codes}
use Rattle.golf_lex_tokens.specs.declared.token.Token.{Token}
use Rattle.golf_lex_tokens.specs.declared.token.TokenKind.{TokenKind}
use Rattle.golf_lex_tokens.specs.declared.token.TokenKind.TheVariants as kinds
use Rattle.golf_lex_tokens.specs.declared.token.Punctuation.{Punctuation}
use Rattle.golf_lex_tokens.specs.declared.token.Punctuation.TheVariants as punctuations
use Rattle.golf_lex_tokens.specs.declared.token.Keyword.TheVariants as keywords
use Rattle.golf_syntax_trees.specs.declared.declarations.Import.{Import}
use Rattle.golf_syntax_trees.specs.declared.declarations.Decl.{Decl}
use Rattle.golf_syntax_trees.specs.Words as words
use Rattle.golf_syntax_trees.specs.Words.{Word, closed, SpellsWords}
use Rattle.golf_syntax_trees.specs.Declarations.{package_words, print_import, print_decl}
use Rattle.golf_syntax_trees.specs.Segments.{deeper, depth_behind, ends_segment, in_front, before_segment, segments}
use Rattle.golf_syntax_segments.specs.Laws.{EndedBySemicolon, IsSegment, DeclSegments, ImportSegments, FileSegments}
use Rattle.golf_syntax_segments.specs.Laws.{ImportsAreSegments, DeclsAreSegments, FilesAreSegments}
use Rattle.golf_syntax_segments.proofs.Nested.{Nested, none, ordinary, semicolon, bracket, is_open, is_close}
use Rattle.golf_syntax_segments.proofs.Nested.{is_ordinary_punctuation, is_ordinary, one}
use Rattle.golf_syntax_segments.proofs.Spelling.{split, part, closing}
use Rattle.golf_syntax_segments.proofs.Blocks.{import-nested, decl-nested}

-- the tokens that spell the words, put before the first segment
abbrev chop : List Word → List Token → List (List Token) → List (List Token)
chop [] ts ps = ps
chop (w ∷ ws) [] ps = ps
chop (w ∷ ws) (t ∷ ts) ps = in_front t (chop ws ts ps)

chop-append : (xs ys : List Word) (ts mid : List Token) (ps : List (List Token)) → SpellsWords xs ts mid
    → chop (xs ++ ys) ts ps ≡ chop xs ts (chop ys mid ps)
chop-append [] ys ts mid ps h = ap (λ us. chop ys us ps) h
chop-append (x ∷ xs) ys [] mid ps h = absurd h
chop-append (x ∷ xs) ys (t ∷ ts) mid ps h = ap (in_front t) (chop-append xs ys ts mid ps h.1)

chop-all : (ws : List Word) (ts mid : List Token) (ps : List (List Token)) → SpellsWords ws ts mid
    → chop ws ts (mid ∷ ps) ≡ ts ∷ ps
chop-all [] ts mid ps h = ap (λ us. us ∷ ps) (sym h)
chop-all (w ∷ ws) [] mid ps h = absurd h
chop-all (w ∷ ws) (t ∷ ts) mid ps h = ap (in_front t) (chop-all ws ts mid ps h.1)

-- what a token does to the depth
ordinary-punctuation-depth : (m : Punctuation) (depth : ℕ) → is_ordinary_punctuation m ≡ true
    → (ends_segment (kinds.Punctuation m) depth ≡ false) × (deeper m depth ≡ depth)
ordinary-punctuation-depth punctuations.OpenParen depth h = cc
ordinary-punctuation-depth punctuations.OpenBracket depth h = cc
ordinary-punctuation-depth punctuations.OpenBrace depth h = cc
ordinary-punctuation-depth punctuations.CloseParen depth h = cc
ordinary-punctuation-depth punctuations.CloseBracket depth h = cc
ordinary-punctuation-depth punctuations.CloseBrace depth h = cc
ordinary-punctuation-depth punctuations.Semicolon depth h = cc
ordinary-punctuation-depth _ depth h = (refl, refl)

ordinary-depth : (k : TokenKind) (depth : ℕ) → is_ordinary k ≡ true → (ends_segment k depth ≡ false)
    × (depth_behind k depth ≡ depth)
ordinary-depth (kinds.Punctuation m) depth h = ordinary-punctuation-depth m depth h
ordinary-depth _ depth h = (refl, refl)

open-depth : (m : Punctuation) (depth : ℕ) → is_open m ≡ true → (ends_segment (kinds.Punctuation m) depth ≡ false)
    × (deeper m depth ≡ suc depth)
open-depth punctuations.OpenParen depth h = (refl, refl)
open-depth punctuations.OpenBracket depth h = (refl, refl)
open-depth punctuations.OpenBrace depth h = (refl, refl)
open-depth _ depth h = cc

close-depth : (m : Punctuation) (depth : ℕ) → is_close m ≡ true
    → (ends_segment (kinds.Punctuation m) (suc depth) ≡ false) × (deeper m (suc depth) ≡ depth)
close-depth punctuations.CloseParen depth h = (refl, refl)
close-depth punctuations.CloseBracket depth h = (refl, refl)
close-depth punctuations.CloseBrace depth h = (refl, refl)
close-depth _ depth h = cc

-- one token on, inside a segment
on : (k : TokenKind) (depth next : ℕ) (t : Token) (ts : List Token) → t.kind ≡ k → ends_segment k depth ≡ false
    → depth_behind k depth ≡ next → segments depth (t ∷ ts) ≡ in_front t (segments next ts)
on k depth next t ts is ends behind =
    ap (λ q. before_segment (ends_segment q depth) t (segments (depth_behind q depth) ts)) is
    ∙ ap (λ b. before_segment b t (segments (depth_behind k depth) ts)) ends
    ∙ ap (λ d. in_front t (segments d ts)) behind

-- the depth at which words may stand: inside brackets, if semicolons may
abbrev Deep : Bool → ℕ → Type 0
Deep true depth = (outer : ℕ) × (depth ≡ suc outer)
Deep false depth = Unit {0}

closed-bracket : (last : Punctuation) (ws : List Word) (depth : ℕ) (m mid us : List Token) (ps : List (List Token))
    → is_close last ≡ true → SpellsWords (words.punctuation last ∷ ws) m mid →
    ((n : List Token) → SpellsWords ws n mid → segments depth (n ++ us) ≡ chop ws n ps)
    → segments (suc depth) (m ++ us) ≡ chop (words.punctuation last ∷ ws) m ps
closed-bracket last ws depth [] mid us ps c h k = absurd h
closed-bracket last ws depth (t ∷ n) mid us ps c h k =
    let d = close-depth last depth c in
    on (kinds.Punctuation last) (suc depth) depth t (n ++ us) h.0.0 d.0 d.1 ∙ ap (in_front t) (k n h.1)

semicolon-inside : (depth : ℕ) (t : Token) (ts : List Token) → Deep true depth
    → t.kind ≡ kinds.Punctuation punctuations.Semicolon → segments depth (t ∷ ts) ≡ in_front t (segments depth ts)
semicolon-inside zero t ts d is = let e = d.1 in absurd (omega (arith, e))
semicolon-inside (suc depth) t ts d is =
    on (kinds.Punctuation punctuations.Semicolon) (suc depth) (suc depth) t ts is refl refl

-- no segment ends within
cut : (b : Bool) (ws : List Word) → Nested b ws → (depth : ℕ) → Deep b depth → (ts mid us : List Token)
    → SpellsWords ws ts mid → segments depth (ts ++ us) ≡ chop ws ts (segments depth (mid ++ us))
cut _ _ (none b) depth f ts mid us h = ap (λ vs. segments depth (vs ++ us)) h
cut _ _ (ordinary b k l vs p n) depth f [] mid us h = absurd h
cut _ _ (ordinary b k l vs p n) depth f (t ∷ ts) mid us h =
    let d = ordinary-depth k depth p in
    on k depth depth t (ts ++ us) h.0.0 d.0 d.1 ∙ ap (in_front t) (cut b vs n depth f ts mid us h.1)
cut _ _ (semicolon l vs n) depth f [] mid us h = absurd h
cut _ _ (semicolon l vs n) depth f (t ∷ ts) mid us h = semicolon-inside depth t (ts ++ us) f h.0.0
    ∙ ap (in_front t) (cut true vs n depth f ts mid us h.1)
cut _ _ (bracket b first last l inner vs o c i n) depth f [] mid us h = absurd h
cut _ _ (bracket b first last l inner vs o c i n) depth f (t ∷ ts) mid us h =
    let d = open-depth first depth o in
    let k = split inner (words.punctuation last ∷ vs) ts mid h.1 in
    on (kinds.Punctuation first) depth (suc depth) t (ts ++ us) h.0.0 d.0 d.1
    ∙ ap (in_front t)
    (cut true inner i (suc depth) (depth, refl) ts k.0 us k.1
    ∙ ap (chop inner ts) (closed-bracket last vs depth k.0 mid us (segments depth (mid ++ us)) c k.2
    (λ m g. cut b vs n depth f m mid us g))
    ∙ sym (chop-append inner (words.punctuation last ∷ vs) ts k.0 (segments depth (mid ++ us)) k.1))

end : (mid us : List Token) → SpellsWords (words.punctuation punctuations.Semicolon ∷ []) mid []
    → segments 0 (mid ++ us) ≡ mid ∷ segments 0 us
end [] us h = absurd h
end (t ∷ ts) us h =
    ap (λ vs. segments 0 (t ∷ (vs ++ us))) h.1
    ∙ ap (λ k. before_segment (ends_segment k 0) t (segments (depth_behind k 0) us)) h.0.0
    ∙ ap (λ vs. (t ∷ vs) ∷ segments 0 us) (sym h.1)

pub nested-segment : (ws : List Word) → Nested false ws → IsSegment ws
nested-segment ws n p rest h =
    let k = split ws (words.punctuation punctuations.Semicolon ∷ []) p [] h in
    cut false ws n 0 tt p k.0 rest k.1
    ∙ ap (chop ws p) (end k.0 rest k.2)
    ∙ chop-all ws p k.0 (segments 0 rest) k.1

pub imports-are : ImportsAreSegments
imports-are i = nested-segment (print_import i) (import-nested i)

pub decls-are : DeclsAreSegments
decls-are d = nested-segment (print_decl d) (decl-nested d)

-- the first segment, taken off
abbrev pub Taken : List Word → List Token → List Token → Type 0
Taken ws ts mid = (p : List Token) × (EndedBySemicolon ws p) × (segments 0 ts ≡ p ∷ segments 0 mid)

pub taken : (ws : List Word) (ts mid : List Token) → IsSegment ws
    → SpellsWords (ws ++ words.punctuation punctuations.Semicolon ∷ []) ts mid → Taken ws ts mid
taken ws ts mid is h =
    let k = part (ws ++ words.punctuation punctuations.Semicolon ∷ []) ts mid h in
    (k.segment, k.words, ap (segments 0) k.whole ∙ is k.segment mid k.words)

decl-segments : (ds : List Decl) (ts : List Token) → SpellsWords (closed (map print_decl ds)) ts []
    → DeclSegments ds (segments 0 ts)
decl-segments [] ts h = ap (segments 0) h
decl-segments (d ∷ ds) ts h =
    let k = closing (print_decl d) (closed (map print_decl ds)) ts [] h in
    let p = taken (print_decl d) ts k.0 (decls-are d) k.1 in
    subst (DeclSegments (d ∷ ds)) (sym p.2) (p.1, decl-segments ds k.0 k.2)

import-segments : (is : List Import) (ds : List Decl) (ts mid : List Token)
    → SpellsWords (closed (map print_import is)) ts mid → DeclSegments ds (segments 0 mid)
    → ImportSegments is ds (segments 0 ts)
import-segments [] ds ts mid h rest = subst (λ us. DeclSegments ds (segments 0 us)) (sym h) rest
import-segments (i ∷ is) ds ts mid h rest =
    let k = closing (print_import i) (closed (map print_import is)) ts mid h in
    let p = taken (print_import i) ts k.0 (imports-are i) k.1 in
    subst (ImportSegments (i ∷ is) ds) (sym p.2) (p.1, import-segments is ds k.0 mid k.2 rest)

abbrev package_head : List Word
package_head = words.keyword keywords.Package ∷ words.name (codes "main") ∷ []

package-is : IsSegment package_head
package-is = nested-segment package_head (one false _ _ refl (one false _ _ refl (none false)))

pub files-are : FilesAreSegments
files-are f ts h =
    let k = split package_words (closed (map print_import f.imports) ++ closed (map print_decl f.declarations)) ts []
    h in
    let m = split (closed (map print_import f.imports)) (closed (map print_decl f.declarations)) k.0 [] k.2 in
    let p = taken package_head ts k.0 package-is k.1 in
    subst (FileSegments f) (sym p.2) (
      p.1,
      import-segments f.imports f.declarations k.0 m.0 m.1 (decl-segments f.declarations m.0 m.2),
    )
