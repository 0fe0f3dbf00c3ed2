-- What may stand after a lexeme is what ends it.
-- For: `MayPrecede` and `IsLongest`, golf_lex_tokens/specs/Lexemes.antt; `tokens`, src/lexer.rt.
-- By: cases of the state and of the next byte; induction over a list of bytes for the longer prefix.
use Rattle.std.proofs.Common.{◌≡◌, ℕ, ◌<◌, Bool, true, false, cond, not, ◌||◌, List, [], ◌∷◌, ◌++◌, length}
use Rattle.std.proofs.Common.{length-append, refl, sym, ap, ◌∙◌, append_assoc, arith}
use Rattle.std.proofs.lemmas.Bool.{eqb-true}
use Rattle.std.specs.Prelude.{Option, Some, None, option_and_then, nat_eq}
use Rattle.golf_lex_tokens.specs.declared.token.TokenKind.{TokenKind}
use Rattle.golf_lex_tokens.specs.declared.token.TokenKind.TheVariants.{Integer, Punctuation as PunctuationToken}
use Rattle.golf_lex_tokens.specs.declared.token.Keyword.{Keyword}
use Rattle.golf_lex_tokens.specs.declared.token.Punctuation.{Punctuation}
use Rattle.golf_lex_tokens.specs.declared.token.Punctuation.TheVariants as punctuations
use Rattle.golf_lex_tokens.specs.Bytes.{is_letter, is_digit, is_word_byte, is_ordinary}
use Rattle.golf_lex_tokens.specs.Spelling.{Spells}
use Rattle.golf_lex_tokens.specs.Lexemes.{Class, Blank, LineComment, GeneralComment, Of, IsLongest, stands_clear}
use Rattle.golf_lex_tokens.specs.Lexemes.{MayPrecede}
use Rattle.golf_lex.specs.declared.automaton.State.{State}
use Rattle.golf_lex.specs.declared.automaton.State.TheVariants as states
use Rattle.golf_lex.specs.declared.automaton.Growth.{Growth}
use Rattle.golf_lex.specs.declared.automaton.Growth.TheVariants.{To, Over, Fault}
use Rattle.golf_lex.specs.Automaton.{growth, is_complete, to_punctuation, after_punctuation, is_escape}
use Rattle.golf_lex.specs.Words.{keyword_of, word_kind, word_kind_by}
use Rattle.golf_lex.proofs.Growing.{to_only, grown, reached, reached-append, reached-more}
use Rattle.golf_lex.proofs.Punctuations.{Grows, over, longer, line, general, grows}
use Rattle.golf_lex.proofs.Whole.{class_at, whole}
use Rattle.golf_lex.proofs.Again.{again}

-- of two fronts of one list, the longer has the byte after the shorter
longer-front : (xs : List ℕ) (c : ℕ) (rest zs ws : List ℕ) → xs ++ c ∷ rest ≡ zs ++ ws → length xs < length zs
    → (more : List ℕ) × (zs ≡ xs ++ c ∷ more)
longer-front xs c rest [] ws e h = absurd (omega arith)
longer-front [] c rest (z ∷ zs) ws e h = let same : c ≡ z = cc in (zs, ap (λ x. x ∷ zs) (sym same))
longer-front (x ∷ xs) c rest (z ∷ zs) ws e h =
    let same : x ≡ z = cc in
    let tails : xs ++ c ∷ rest ≡ zs ++ ws = cc in
    let r = longer-front xs c rest zs ws tails (omega arith) in
    (r.0, ap (λ x. x ∷ zs) (sym same) ∙ ap (λ ys. x ∷ ys) r.1)

-- what cannot go on is the longest
pub longest : (b : ℕ) (bs : List ℕ) (last : State) (c : ℕ) (rest : List ℕ) → reached (b ∷ bs) ≡ Some last
    → growth last c ≡ Over → IsLongest (b ∷ bs) (c ∷ rest)
longest b bs last c rest r g zs ws e h kind spelled =
    let front = longer-front (b ∷ bs) c rest zs ws e h in
    let is = again (Of kind) zs spelled in
    let some : reached zs ≡ Some is.last = ap reached is.are ∙ is.reaches in
    let none : reached (b ∷ (bs ++ c ∷ front.0)) ≡ None = reached-append b bs (c ∷ front.0)
    ∙ ap (λ o. option_and_then (λ n. grown n (c ∷ front.0)) o) r ∙ ap (λ x. to_only x (λ n. grown n front.0)) g in
    let clash : None ≡ Some is.last = sym none ∙ ap reached (sym front.1) ∙ some in
    cc

pub longest-end : (bytes : List ℕ) → IsLongest bytes []
longest-end bytes zs ws e h kind spelled =
    let lengths : length (bytes ++ []) ≡ length (zs ++ ws) = ap length e in
    let left = length-append bytes [] in
    let right = length-append zs ws in
    omega arith

clear-end : (kind : TokenKind) → stands_clear kind [] ≡ true
clear-end (Integer digits) = refl
clear-end (PunctuationToken punctuations.Slash) = refl
clear-end _ = refl

-- a lexeme may stand at the end
pub follows-end : (class : Class) (bytes : List ℕ) → MayPrecede class bytes []
follows-end Blank bytes = tt
follows-end LineComment bytes = tt
follows-end GeneralComment bytes = tt
follows-end (Of kind) bytes = (longest-end bytes, clear-end kind)

word-clear : (bytes : List ℕ) (o : Option Keyword) (rest : List ℕ) → stands_clear (word_kind_by bytes o) rest ≡ true
word-clear bytes None rest = refl
word-clear bytes (Some k) rest = refl

zero-clear : (t : Bool) → cond t Fault Over ≡ Over → not t ≡ true
zero-clear true e = absurd (cc)
zero-clear false e = refl

digits-clear : (d l : Bool) → cond d (To states.Digits) (cond l Fault Over) ≡ Over → not (l || d) ≡ true
digits-clear true l e = absurd (cc)
digits-clear false true e = absurd (cc)
digits-clear false false e = refl

slash-clear : (s t : Bool) (next : Growth)
    → cond s (To states.LineComment) (cond t (To states.GeneralComment) next) ≡ Over → not (s || t) ≡ true
slash-clear true t next e = absurd (cc)
slash-clear false true next e = absurd (cc)
slash-clear false false next e = refl

punctuation-clear : (m : Punctuation) (c : ℕ) (rest : List ℕ) → after_punctuation m c ≡ Over
    → stands_clear (PunctuationToken m) (c ∷ rest) ≡ true
punctuation-clear punctuations.Slash c rest e = slash-clear (nat_eq c 47) (nat_eq c 42) _ e
punctuation-clear _ c rest e = refl

line-clear : (c : ℕ) → growth states.LineComment c ≡ Over → c ≡ 10
line-clear c = at (nat_eq c 0) (nat_eq c 10) refl
  where
    at : (z n : Bool) → nat_eq c 10 ≡ n → cond z Fault (cond n Over (To states.LineComment)) ≡ Over → c ≡ 10
    at true n en e = absurd (cc)
    at false true en e = eqb-true c 10 en
    at false false en e = absurd (cc)

-- if a byte ends a lexeme, the lexeme may stand before it
pub follows : (b : ℕ) (bs : List ℕ) (last : State) (c : ℕ) (rest : List ℕ) → reached (b ∷ bs) ≡ Some last
    → growth last c ≡ Over → MayPrecede (class_at last (b ∷ bs)) (b ∷ bs) (c ∷ rest)
follows b bs states.Word c rest r g = (
  longest b bs states.Word c rest r g,
  word-clear (b ∷ bs) (keyword_of (b ∷ bs)) (c ∷ rest),
)
follows b bs states.Zero c rest r g = (longest b bs states.Zero c rest r g, zero-clear (is_word_byte c) g)
follows b bs states.Digits c rest r g = (
  longest b bs states.Digits c rest r g,
  digits-clear (is_digit c) (is_letter c) g,
)
follows b bs states.Text c rest r g = (longest b bs states.Text c rest r g, refl)
follows b bs (states.Punctuation m) c rest r g =
    (longest b bs (states.Punctuation m) c rest r g, punctuation-clear m c rest g)
follows b bs states.LineComment c rest r g = line-clear c g
follows b bs _ c rest r g = tt

-- a longer token refutes that one is the longest
not-longest : (b : ℕ) (bs : List ℕ) (c : ℕ) (rest : List ℕ) (kind : TokenKind) → IsLongest (b ∷ bs) (c ∷ rest)
    → Spells kind (b ∷ (bs ++ c ∷ [])) → ⊥
not-longest b bs c rest kind h spelled =
    let less = length-append bs (c ∷ []) in
    h (b ∷ (bs ++ c ∷ [])) rest (ap (λ xs. b ∷ xs) (sym (append_assoc bs (c ∷ []) rest))) (omega arith) kind spelled

word-over : (b : ℕ) (bs : List ℕ) (c : ℕ) (rest : List ℕ) → reached (b ∷ bs) ≡ Some states.Word
    → IsLongest (b ∷ bs) (c ∷ rest) → growth states.Word c ≡ Over
word-over b bs c rest r h = at (is_word_byte c) refl
  where
    at : (t : Bool) → is_word_byte c ≡ t → cond t (To states.Word) Over ≡ Over
    at true et =
        let more = reached-more b c bs states.Word states.Word r (ap (λ t. cond t (To states.Word) Over) et) in
        absurd (not-longest b bs c rest (word_kind (b ∷ (bs ++ c ∷ []))) h
        (whole b (bs ++ c ∷ []) states.Word more refl))
    at false et = refl

zero-over : (t : Bool) → not t ≡ true → cond t Fault Over ≡ Over
zero-over true e = absurd (cc)
zero-over false e = refl

digits-over : (d l : Bool) → not (l || d) ≡ true → cond d (To states.Digits) (cond l Fault Over) ≡ Over
digits-over true true e = absurd (cc)
digits-over true false e = absurd (cc)
digits-over false true e = absurd (cc)
digits-over false false e = refl

punctuation-over : (m : Punctuation) (b : ℕ) (bs : List ℕ) (c : ℕ) (rest : List ℕ)
    → reached (b ∷ bs) ≡ Some (states.Punctuation m) → IsLongest (b ∷ bs) (c ∷ rest)
    → stands_clear (PunctuationToken m) (c ∷ rest) ≡ true → after_punctuation m c ≡ Over
punctuation-over m b bs c rest r h clear = by (grows m c)
  where
    by : Grows m c → after_punctuation m c ≡ Over
    by (over e) = e
    by (longer n e text ends) = absurd (not-longest b bs c rest (PunctuationToken n) h
        (whole b (bs ++ c ∷ []) (states.Punctuation n)
        (reached-more b c bs (states.Punctuation m) (states.Punctuation n) r e) refl))
    by (line em ec) = let wrong : false ≡ true =
        ap (λ x. stands_clear (PunctuationToken punctuations.Slash) (x ∷ rest)) (sym ec)
        ∙ ap (λ x. stands_clear (PunctuationToken x) (c ∷ rest)) (sym em) ∙ clear in absurd (cc)
    by (general em ec) = let wrong : false ≡ true =
        ap (λ x. stands_clear (PunctuationToken punctuations.Slash) (x ∷ rest)) (sym ec)
        ∙ ap (λ x. stands_clear (PunctuationToken x) (c ∷ rest)) (sym em) ∙ clear in absurd (cc)

-- if a whole lexeme may stand before a byte, the byte ends it
pub ends-there : (b : ℕ) (bs : List ℕ) (last : State) (c : ℕ) (rest : List ℕ) → reached (b ∷ bs) ≡ Some last
    → is_complete last ≡ true → MayPrecede (class_at last (b ∷ bs)) (b ∷ bs) (c ∷ rest) → growth last c ≡ Over
ends-there b bs states.Blank c rest r whole m = refl
ends-there b bs states.Word c rest r whole m = word-over b bs c rest r m.0
ends-there b bs states.Zero c rest r whole m = zero-over (is_word_byte c) m.1
ends-there b bs states.Digits c rest r whole m = digits-over (is_digit c) (is_letter c) m.1
ends-there b bs states.Text c rest r whole m = refl
ends-there b bs (states.Punctuation k) c rest r whole m = punctuation-over k b bs c rest r m.0 m.1
ends-there b bs states.LineComment c rest r whole m = ap (growth states.LineComment) m
ends-there b bs states.Closed c rest r whole m = refl
ends-there b bs _ c rest r whole m = absurd (cc)

-- only a whole lexeme ends
pub over-complete : (state : State) (c : ℕ) → growth state c ≡ Over → is_complete state ≡ true
over-complete states.Quoted c = at (nat_eq c 34) (nat_eq c 92) (is_ordinary c)
  where
    at : (q s p : Bool) → cond q (To states.Text) (cond s (To states.Escaped) (cond p (To states.Quoted) Fault)) ≡ Over
        → false ≡ true
    at true s p e = absurd (cc)
    at false true p e = absurd (cc)
    at false false true e = absurd (cc)
    at false false false e = absurd (cc)
over-complete states.Escaped c = at (is_escape c)
  where
    at : (t : Bool) → cond t (To states.Quoted) Fault ≡ Over → false ≡ true
    at true e = absurd (cc)
    at false e = absurd (cc)
over-complete states.Bar c = at (nat_eq c 124)
  where
    at : (t : Bool) → cond t (to_punctuation punctuations.Or) Fault ≡ Over → false ≡ true
    at true e = absurd (cc)
    at false e = absurd (cc)
over-complete states.GeneralComment c = at (nat_eq c 0) (nat_eq c 42)
  where
    at : (z t : Bool) → cond z Fault (cond t (To states.Star) (To states.GeneralComment)) ≡ Over → false ≡ true
    at true t e = absurd (cc)
    at false true e = absurd (cc)
    at false false e = absurd (cc)
over-complete states.Star c = at (nat_eq c 47) (nat_eq c 0) (nat_eq c 42)
  where
    at : (k z t : Bool) → cond k (To states.Closed) (cond z Fault (cond t (To states.Star) (To states.GeneralComment)))
        ≡ Over → false ≡ true
    at true z t e = absurd (cc)
    at false true t e = absurd (cc)
    at false false true e = absurd (cc)
    at false false false e = absurd (cc)
over-complete states.Blank c = λ _. refl
over-complete states.Word c = λ _. refl
over-complete states.Zero c = λ _. refl
over-complete states.Digits c = λ _. refl
over-complete states.Text c = λ _. refl
over-complete (states.Punctuation m) c = λ _. refl
over-complete states.LineComment c = λ _. refl
over-complete states.Closed c = λ _. refl
