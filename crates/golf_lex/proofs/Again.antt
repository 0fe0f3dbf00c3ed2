-- What is a lexeme is read as one by the automaton.
-- For: `Forms`, golf_lex_tokens/specs/Lexemes.antt; `growth`, golf_lex/specs/Automaton.antt.
-- By: induction over the bytes of the lexeme, for each kind of lexeme.
use Rattle.std.proofs.Common.{◌≡◌, ℕ, Bool, true, false, cond, not, ◌&&◌, ◌||◌, List, [], ◌∷◌, ◌++◌, refl, sym, ap, ◌∙◌}
use Rattle.std.proofs.Common.{append-nil, arith}
use Rattle.std.proofs.lemmas.Bool.{and_parts, eqb-true}
use Rattle.std.proofs.lemmas.Bool.Decides.{nat_tests}
use Rattle.std.specs.Prelude.{Option, Some, None, option_and_then, nat_eq, nat_le}
use Rattle.std.specs.Option.{option_map}
use Rattle.std.specs.List.{list_all}
use Rattle.golf_lex_tokens.specs.declared.token.TokenKind.TheVariants.{Name, Integer, Text, Keyword as KeywordToken}
use Rattle.golf_lex_tokens.specs.declared.token.TokenKind.TheVariants.{Punctuation as PunctuationToken}
use Rattle.golf_lex_tokens.specs.declared.token.Keyword.{Keyword}
use Rattle.golf_lex_tokens.specs.declared.token.Punctuation.{Punctuation}
use Rattle.golf_lex_tokens.specs.Bytes.{is_letter, is_digit, is_word_byte, is_blank, is_ordinary}
use Rattle.golf_lex_tokens.specs.Spelling.{StringPart, Itself, Newline, Tab, Backslash, Quote, is_part, parts_text}
use Rattle.golf_lex_tokens.specs.Spelling.{parts_bytes, keyword_text, punctuation_text, is_integer, Names, Quotes}
use Rattle.golf_lex_tokens.specs.Lexemes.{Class, Blank, LineComment, GeneralComment, Of, Forms, is_nonzero}
use Rattle.golf_lex.specs.declared.automaton.State.{State}
use Rattle.golf_lex.specs.declared.automaton.State.TheVariants as states
use Rattle.golf_lex.specs.declared.automaton.Growth.TheVariants.{To, Over, Fault}
use Rattle.golf_lex.specs.Automaton.{begun, begun_punctuation, is_complete}
use Rattle.golf_lex.specs.Words.{keyword_of, word_kind_by}
use Rattle.golf_lex.proofs.Growing.{to_only, grown, reached}
use Rattle.golf_lex.proofs.Comments.{comments-again}
use Rattle.golf_lex.proofs.Punctuations.{punctuations-again}
use Rattle.golf_lex.proofs.Told.{keyword_of-again, keyword_of-no, keywords-again}
use Rattle.golf_lex.proofs.Whole.{class_at, ordinary-other, content_from-parts}

-- the automaton reads the bytes as a lexeme of this class
pub record IsRead (class : Class) (bytes : List ℕ) : Type 0 where
  pub first : ℕ
  pub rest : List ℕ
  pub are : bytes ≡ first ∷ rest
  pub last : State
  pub reaches : reached (first ∷ rest) ≡ Some last
  pub complete : is_complete last ≡ true
  pub as_class : class_at last (first ∷ rest) ≡ class

words-again : (bs : List ℕ) → list_all is_word_byte bs ≡ true → grown states.Word bs ≡ Some states.Word
words-again [] v = refl
words-again (b ∷ bs) v =
    let w = and_parts (is_word_byte b) (list_all is_word_byte bs) v in
    ap (λ t. to_only (cond t (To states.Word) Over) (λ n. grown n bs)) w.0 ∙ words-again bs w.1

digits-again : (bs : List ℕ) → list_all is_digit bs ≡ true → grown states.Digits bs ≡ Some states.Digits
digits-again [] v = refl
digits-again (b ∷ bs) v =
    let w = and_parts (is_digit b) (list_all is_digit bs) v in
    ap (λ t. to_only (cond t (To states.Digits) (cond (is_letter b) Fault Over)) (λ n. grown n bs)) w.0
    ∙ digits-again bs w.1

line-again : (bs : List ℕ) → list_all (λ b. is_nonzero b && not (nat_eq b 10)) bs ≡ true
    → grown states.LineComment bs ≡ Some states.LineComment
line-again [] v = refl
line-again (b ∷ bs) v = at (nat_eq b 0) (nat_eq b 10) v (λ w. line-again bs w)
  where
    at : (z n : Bool) → ((not z && not n) && list_all (λ b. is_nonzero b && not (nat_eq b 10)) bs) ≡ true
        → (list_all (λ b. is_nonzero b && not (nat_eq b 10)) bs ≡ true
        → grown states.LineComment bs ≡ Some states.LineComment)
        → to_only (cond z Fault (cond n Over (To states.LineComment))) (λ n. grown n bs) ≡ Some states.LineComment
    at true n w again = absurd (cc)
    at false true w again = absurd (cc)
    at false false w again = again w

parts-again : (ps : List StringPart) → list_all is_part ps ≡ true
    → grown states.Quoted (parts_text ps ++ 34 ∷ []) ≡ Some states.Text
parts-again [] v = refl
parts-again (Itself b ∷ ps) v =
    let w = and_parts (is_ordinary b) (list_all is_part ps) v in
    let o = ordinary-other b w.0 in
    let rest = parts_text ps ++ 34 ∷ [] in
    ap (λ t. to_only (cond t (To states.Text)
    (cond (nat_eq b 92) (To states.Escaped) (cond (is_ordinary b) (To states.Quoted) Fault))) (λ n. grown n rest))
    o.0
    ∙ ap (λ t. to_only (cond t (To states.Escaped) (cond (is_ordinary b) (To states.Quoted) Fault)) (λ n. grown n rest))
    o.1
    ∙ ap (λ t. to_only (cond t (To states.Quoted) Fault) (λ n. grown n rest)) w.0
    ∙ parts-again ps w.1
parts-again (Newline ∷ ps) v = parts-again ps v
parts-again (Tab ∷ ps) v = parts-again ps v
parts-again (Backslash ∷ ps) v = parts-again ps v
parts-again (Quote ∷ ps) v = parts-again ps v

blank-again : (b : ℕ) → is_blank b ≡ true → begun b ≡ Some states.Blank
blank-again b h = at (nat_eq b 32) (nat_eq b 9) (nat_eq b 13) (nat_eq b 10) refl refl refl refl h
  where
    at : (s t r n : Bool) → nat_eq b 32 ≡ s → nat_eq b 9 ≡ t → nat_eq b 13 ≡ r → nat_eq b 10 ≡ n
        → (s || t || r || n) ≡ true → begun b ≡ Some states.Blank
    at true t r n es et er en e = ap begun (eqb-true b 32 es)
    at false true r n es et er en e = ap begun (eqb-true b 9 et)
    at false false true n es et er en e = ap begun (eqb-true b 13 er)
    at false false false true es et er en e = ap begun (eqb-true b 10 en)
    at false false false false es et er en e = absurd (cc)

-- how a byte begins a lexeme that is no digit, or no letter
abbrev behind_digit : ℕ → Option State
behind_digit b = cond (is_blank b) (Some states.Blank)
    (cond (nat_eq b 34) (Some states.Quoted)
    (cond (nat_eq b 124) (Some states.Bar) (option_map states.Punctuation (begun_punctuation b))))

abbrev behind_letter : ℕ → Option State
behind_letter b = cond (nat_eq b 48) (Some states.Zero) (cond (is_digit b) (Some states.Digits) (behind_digit b))

name-again : (name bytes : List ℕ) → Names name bytes → IsRead (Of (Name name)) bytes
name-again [] bytes h = absurd (let w = h.word in cc)
name-again (b ∷ bs) bytes h =
    let w = and_parts (is_letter b) (list_all is_word_byte bs) h.word in
    record {
      first = b;
      rest = bs;
      are = h.spelled;
      last = states.Word;
      reaches = ap (λ t. option_and_then (λ s. grown s bs) (cond t (Some states.Word) (behind_letter b))) w.0
          ∙ words-again bs w.1;
      complete = refl;
      as_class = ap (λ o. Of (word_kind_by (b ∷ bs) o)) (keyword_of-no (b ∷ bs) h.no_keyword);
    }

digit-other : (b : ℕ) → is_digit b ≡ true → is_letter b ≡ false
digit-other b h = grind (arith, nat_tests)

later-digit : (b : ℕ) → (nat_le 49 b && nat_le b 57) ≡ true → (is_digit b ≡ true) × (nat_eq b 48 ≡ false)
later-digit b h = (grind (arith, nat_tests), grind (arith, nat_tests))

-- an integer that does not begin with 0
digits-read : (b : ℕ) (bs bytes : List ℕ) → bytes ≡ b ∷ bs → (nat_eq b 48 ≡ false) → is_digit b ≡ true
    → list_all is_digit bs ≡ true → IsRead (Of (Integer (b ∷ bs))) bytes
digits-read b bs bytes e z d v = record {
  first = b;
  rest = bs;
  are = e;
  last = states.Digits;
  reaches = ap (λ t. option_and_then (λ s. grown s bs)
      (cond t (Some states.Word) (cond (nat_eq b 48) (Some states.Zero)
      (cond (is_digit b) (Some states.Digits) (behind_digit b))))) (digit-other b d)
      ∙ ap (λ t. option_and_then (λ s. grown s bs)
      (cond t (Some states.Zero) (cond (is_digit b) (Some states.Digits) (behind_digit b)))) z
      ∙ ap (λ t. option_and_then (λ s. grown s bs) (cond t (Some states.Digits) (behind_digit b))) d
      ∙ digits-again bs v;
  complete = refl;
  as_class = refl;
}

integer-again : (digits bytes : List ℕ) → bytes ≡ digits → is_integer digits ≡ true → IsRead (Of (Integer digits)) bytes
integer-again [] bytes e h = absurd (cc)
integer-again (b ∷ []) bytes e h = at (nat_eq b 48) refl
  where
    at : (t : Bool) → nat_eq b 48 ≡ t → IsRead (Of (Integer (b ∷ []))) bytes
    at true et = let same = eqb-true b 48 et in record {
      first = b;
      rest = [];
      are = e;
      last = states.Zero;
      reaches = ap (λ x. reached (x ∷ [])) same;
      complete = refl;
      as_class = refl;
    }
    at false et = digits-read b [] bytes e et h refl
integer-again (b ∷ c ∷ bs) bytes e h =
    let w = and_parts (nat_le 49 b && nat_le b 57) (list_all is_digit (c ∷ bs)) h in
    let d = later-digit b w.0 in
    digits-read b (c ∷ bs) bytes e d.1 d.0 w.1

text-again : (content bytes : List ℕ) → Quotes content bytes → IsRead (Of (Text content)) bytes
text-again content bytes q = record {
  first = 34;
  rest = parts_text q.parts ++ 34 ∷ [];
  are = q.spelled;
  last = states.Text;
  reaches = parts-again q.parts q.valid;
  complete = refl;
  as_class = ap (λ xs. Of (Text xs)) (content_from-parts q.parts (34 ∷ []) q.valid ∙ append-nil (parts_bytes q.parts)
      ∙ sym q.stands);
}

-- the bytes of a keyword or a punctuation mark, which are not none
read-text : (class : Class) (text bytes : List ℕ) (last : State) → bytes ≡ text → reached text ≡ Some last
    → is_complete last ≡ true → class_at last text ≡ class → (text ≡ [] → ⊥) → IsRead class bytes
read-text class [] bytes last e r whole same some = absurd (some refl)
read-text class (b ∷ bs) bytes last e r whole same some =
    record { first = b; rest = bs; are = e; last = last; reaches = r; complete = whole; as_class = same }

keyword_text-some : (k : Keyword) → keyword_text k ≡ [] → ⊥
keyword_text-some k e = let both_ways : None ≡ Some k = ap keyword_of (sym e) ∙ keyword_of-again k in cc

punctuation_text-some : (m : Punctuation) → punctuation_text m ≡ [] → ⊥
punctuation_text-some m e = let both_ways : Some states.Blank ≡ Some (states.Punctuation m) = ap reached (sym e)
    ∙ punctuations-again m in cc

pub again : (class : Class) (bytes : List ℕ) → Forms class bytes → IsRead class bytes
again Blank bytes (b, e, h) = record {
  first = b;
  rest = [];
  are = e;
  last = states.Blank;
  reaches = ap (λ o. option_and_then (λ s. grown s []) o) (blank-again b h);
  complete = refl;
  as_class = refl;
}
again LineComment bytes f = record {
  first = 47;
  rest = 47 ∷ f.body;
  are = f.spelled;
  last = states.LineComment;
  reaches = line-again f.body f.valid;
  complete = refl;
  as_class = refl;
}
again GeneralComment bytes f = record {
  first = 47;
  rest = 42 ∷ (f.body ++ 42 ∷ 47 ∷ []);
  are = f.spelled;
  last = states.Closed;
  reaches = comments-again false f.body f.valid f.first;
  complete = refl;
  as_class = refl;
}
again (Of (Name name)) bytes f = name-again name bytes f
again (Of (Integer digits)) bytes f = integer-again digits bytes f.0 f.1
again (Of (Text content)) bytes f = text-again content bytes f
again (Of (KeywordToken k)) bytes f = read-text (Of (KeywordToken k)) (keyword_text k) bytes states.Word f
    (keywords-again k) refl (ap (λ o. Of (word_kind_by (keyword_text k) o)) (keyword_of-again k)) (keyword_text-some k)
again (Of (PunctuationToken m)) bytes f =
    read-text (Of (PunctuationToken m)) (punctuation_text m) bytes (states.Punctuation m) f
    (punctuations-again m) refl refl (punctuation_text-some m)
