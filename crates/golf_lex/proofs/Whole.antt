-- What the bytes of a whole lexeme are, by the state that they end in.
-- For: `Forms`, golf_lex_tokens/specs/Lexemes.antt; `ended`, golf_lex/specs/LexemeScan.antt.
-- By: cases of the first byte and of the last state; induction over the parts of a string.
use Rattle.std.proofs.Common.{◌≡◌, ℕ, Bool, true, false, cond, not, ◌&&◌, ◌||◌, List, [], ◌∷◌, ◌++◌, refl, sym, ap, ◌∙◌}
use Rattle.std.proofs.Common.{subst, append-nil, arith}
use Rattle.std.proofs.lemmas.Bool.{and_parts, eqb-true}
use Rattle.std.proofs.lemmas.Bool.Decides.{nat_tests}
use Rattle.std.specs.Prelude.{Option, Some, None, option_and_then, nat_eq, nat_le}
use Rattle.std.specs.Option.{option_map}
use Rattle.std.specs.List.{list_all}
use Rattle.golf_lex_tokens.specs.declared.token.TokenKind.TheVariants.{Integer, Text, Punctuation as PunctuationToken}
use Rattle.golf_lex_tokens.specs.declared.token.Keyword.{Keyword}
use Rattle.golf_lex_tokens.specs.declared.token.Punctuation.{Punctuation}
use Rattle.golf_lex_tokens.specs.declared.token.Punctuation.TheVariants as punctuations
use Rattle.golf_lex_tokens.specs.Bytes.{is_letter, is_digit, is_word_byte, is_blank, is_ordinary}
use Rattle.golf_lex_tokens.specs.Spelling.{StringPart, Itself, Newline, Tab, Backslash, Quote, is_part, parts_text}
use Rattle.golf_lex_tokens.specs.Spelling.{parts_bytes, punctuation_text, is_word, is_integer, Spells}
use Rattle.golf_lex_tokens.specs.Lexemes.{Class, Blank, LineComment, GeneralComment, Of, Forms}
use Rattle.golf_lex.specs.declared.automaton.State.{State}
use Rattle.golf_lex.specs.declared.automaton.State.TheVariants as states
use Rattle.golf_lex.specs.declared.automaton.Growth.{Growth}
use Rattle.golf_lex.specs.declared.automaton.Growth.TheVariants.{To, Over, Fault}
use Rattle.golf_lex.specs.Automaton.{growth, begun, begun_punctuation, is_complete, to_punctuation}
use Rattle.golf_lex.specs.Words.{keyword_of, word_kind, word_kind_by}
use Rattle.golf_lex.specs.Strings.{content_from}
use Rattle.golf_lex.specs.LexemeScan.{ended}
use Rattle.golf_lex.proofs.Growing.{to_only, grown, reached}
use Rattle.golf_lex.proofs.GoingOn.{stays, words, digits, zeros, line_comments, strings, Closes}
use Rattle.golf_lex.proofs.Comments.{comments}
use Rattle.golf_lex.proofs.Punctuations.{Grows, over, longer, line, general, grows, begun_punctuation-text}
use Rattle.golf_lex.proofs.Told.{keyword_of-text, keyword_of-none}

-- what a lexeme is that ends in the state
abbrev pub class_at : State → List ℕ → Class
class_at states.Word bytes = Of (word_kind bytes)
class_at states.Zero bytes = Of (Integer bytes)
class_at states.Digits bytes = Of (Integer bytes)
class_at states.Text bytes = Of (Text (content_from false bytes))
class_at (states.Punctuation m) bytes = Of (PunctuationToken m)
class_at states.LineComment bytes = LineComment
class_at states.Closed bytes = GeneralComment
class_at _ bytes = Blank

pub ended-class : (state : State) (b : ℕ) (bs : List ℕ) → is_complete state ≡ true
    → ended state (b ∷ bs) ≡ record { class = class_at state (b ∷ bs); bytes = b ∷ bs } ∷ []
ended-class states.Quoted b bs whole = absurd (cc)
ended-class states.Escaped b bs whole = absurd (cc)
ended-class states.Bar b bs whole = absurd (cc)
ended-class states.GeneralComment b bs whole = absurd (cc)
ended-class states.Star b bs whole = absurd (cc)
ended-class _ b bs whole = refl

-- how a byte begins a lexeme
data Begins (b : ℕ) (s : State) : Type 0 where
  letter : is_letter b ≡ true → s ≡ states.Word → Begins b s
  nought : b ≡ 48 → s ≡ states.Zero → Begins b s
  digit : nat_eq b 48 ≡ false → is_digit b ≡ true → s ≡ states.Digits → Begins b s
  blank : is_blank b ≡ true → s ≡ states.Blank → Begins b s
  quote : b ≡ 34 → s ≡ states.Quoted → Begins b s
  bar : b ≡ 124 → s ≡ states.Bar → Begins b s
  punctuation : (m : Punctuation) → punctuation_text m ≡ b ∷ [] → s ≡ states.Punctuation m → Begins b s

begins-punctuation : (b : ℕ) (s : State) (o : Option Punctuation) → begun_punctuation b ≡ o
    → option_map states.Punctuation o ≡ Some s → Begins b s
begins-punctuation b s None e f = absurd (cc)
begins-punctuation b s (Some m) e f = let same : states.Punctuation m ≡ s =
    cc in punctuation m (begun_punctuation-text b m e) (sym same)

begins : (b : ℕ) (s : State) → begun b ≡ Some s → Begins b s
begins b s = worded (is_letter b) (nat_eq b 48) (is_digit b) refl refl refl
  where
    marked : (k q v : Bool) → is_blank b ≡ k → nat_eq b 34 ≡ q → nat_eq b 124 ≡ v
        → cond k (Some states.Blank) (cond q (Some states.Quoted)
        (cond v (Some states.Bar) (option_map states.Punctuation (begun_punctuation b)))) ≡ Some s → Begins b s
    marked true q v ek eq ev e = let same : states.Blank ≡ s = cc in blank ek (sym same)
    marked false true v ek eq ev e = let same : states.Quoted ≡ s = cc in quote (eqb-true b 34 eq) (sym same)
    marked false false true ek eq ev e = let same : states.Bar ≡ s = cc in bar (eqb-true b 124 ev) (sym same)
    marked false false false ek eq ev e = begins-punctuation b s (begun_punctuation b) refl e

    worded : (l z d : Bool) → is_letter b ≡ l → nat_eq b 48 ≡ z → is_digit b ≡ d
        → cond l (Some states.Word) (cond z (Some states.Zero)
        (cond d (Some states.Digits) (cond (is_blank b) (Some states.Blank)
        (cond (nat_eq b 34) (Some states.Quoted)
        (cond (nat_eq b 124) (Some states.Bar) (option_map states.Punctuation (begun_punctuation b))))))) ≡ Some s
        → Begins b s
    worded true z d el ez ed e = let same : states.Word ≡ s = cc in letter el (sym same)
    worded false true d el ez ed e = let same : states.Zero ≡ s = cc in nought (eqb-true b 48 ez) (sym same)
    worded false false true el ez ed e = let same : states.Digits ≡ s = cc in digit ez ed (sym same)
    worded false false false el ez ed e = marked (is_blank b) (nat_eq b 34) (nat_eq b 124) refl refl refl e

-- an ordinary byte is no quote and no backslash
pub ordinary-other : (b : ℕ) → is_ordinary b ≡ true → (nat_eq b 34 ≡ false) × (nat_eq b 92 ≡ false)
ordinary-other b = at (nat_eq b 0) (nat_eq b 10) (nat_eq b 34) (nat_eq b 92)
  where
    at : (z n q s : Bool) → not (z || n || q || s) ≡ true → (q ≡ false) × (s ≡ false)
    at true n q s e = absurd (cc)
    at false true q s e = absurd (cc)
    at false false true s e = absurd (cc)
    at false false false true e = absurd (cc)
    at false false false false e = (refl, refl)

-- parts stand for their bytes
pub content_from-parts : (ps : List StringPart) (rest : List ℕ) → list_all is_part ps ≡ true
    → content_from false (parts_text ps ++ rest) ≡ parts_bytes ps ++ content_from false rest
content_from-parts [] rest v = refl
content_from-parts (Itself b ∷ ps) rest v =
    let w = and_parts (is_ordinary b) (list_all is_part ps) v in
    let o = ordinary-other b w.0 in
    ap (λ t. cond t (content_from true (parts_text ps ++ rest))
    (cond (nat_eq b 34) (content_from false (parts_text ps ++ rest))
    (b ∷ content_from false (parts_text ps ++ rest)))) o.1
    ∙ ap (λ t. cond t (content_from false (parts_text ps ++ rest)) (b ∷ content_from false (parts_text ps ++ rest))) o.0
    ∙ ap (λ xs. b ∷ xs) (content_from-parts ps rest w.1)
content_from-parts (Newline ∷ ps) rest v = ap (λ xs. 10 ∷ xs) (content_from-parts ps rest v)
content_from-parts (Tab ∷ ps) rest v = ap (λ xs. 9 ∷ xs) (content_from-parts ps rest v)
content_from-parts (Backslash ∷ ps) rest v = ap (λ xs. 92 ∷ xs) (content_from-parts ps rest v)
content_from-parts (Quote ∷ ps) rest v = ap (λ xs. 34 ∷ xs) (content_from-parts ps rest v)

-- a word is a keyword or a name
word-forms : (bytes : List ℕ) (o : Option Keyword) → keyword_of bytes ≡ o → is_word bytes ≡ true
    → Spells (word_kind_by bytes o) bytes
word-forms bytes (Some k) e w = keyword_of-text bytes k e
word-forms bytes None e w = record { spelled = refl; word = w; no_keyword = keyword_of-none bytes e }

leading-digit : (b : ℕ) → nat_eq b 48 ≡ false → is_digit b ≡ true → (nat_le 49 b && nat_le b 57) ≡ true
leading-digit b e h = grind (arith, nat_tests)

integer-forms : (b : ℕ) (bs : List ℕ) → nat_eq b 48 ≡ false → is_digit b ≡ true → list_all is_digit bs ≡ true
    → is_integer (b ∷ bs) ≡ true
integer-forms b [] e h v = h
integer-forms b (c ∷ bs) e h v = ap (λ t. t && list_all is_digit (c ∷ bs)) (leading-digit b e h) ∙ v

-- the bytes are a lexeme of the class of their state
abbrev pub Whole : State → List ℕ → Type 0
Whole last bytes = Forms (class_at last bytes) bytes

pub at-state : (bytes : List ℕ) (state last : State) → last ≡ state → Whole state bytes → Whole last bytes
at-state bytes state last e w = subst (λ s. Whole s bytes) (sym e) w

string-whole : (b : ℕ) (bs : List ℕ) → b ≡ 34 → Closes bs → Whole states.Text (b ∷ bs)
string-whole b bs e c =
    let spelled : b ∷ bs ≡ 34 ∷ (parts_text c.parts ++ 34 ∷ []) = ap (λ x. x ∷ bs) e ∙ ap (λ xs. 34 ∷ xs) c.spelled in
    record {
      parts = c.parts;
      valid = c.valid;
      spelled = spelled;
      stands = ap (content_from false) spelled ∙ content_from-parts c.parts (34 ∷ []) c.valid
          ∙ append-nil (parts_bytes c.parts);
    }

bar-whole : (b : ℕ) (bs : List ℕ) (last : State) → b ≡ 124 → grown states.Bar bs ≡ Some last → is_complete last ≡ true
    → Whole last (b ∷ bs)
bar-whole b [] last e f whole = absurd (let same : states.Bar ≡ last = cc in let wrong : false
    ≡ true = ap is_complete same ∙ whole in cc)
bar-whole b (c ∷ bs) last e f whole = at (nat_eq c 124) refl f
  where
    at : (t : Bool) → nat_eq c 124 ≡ t → to_only (cond t (to_punctuation punctuations.Or) Fault) (λ n. grown n bs)
        ≡ Some last → Whole last (b ∷ c ∷ bs)
    at true et g =
        let s = stays (states.Punctuation punctuations.Or) (λ _. refl) bs last g in
        at-state (b ∷ c ∷ bs) (states.Punctuation punctuations.Or) last s.1
        (ap (λ x. x ∷ c ∷ bs) e ∙ ap (λ x. 124 ∷ x ∷ bs) (eqb-true c 124 et) ∙ ap (λ xs. 124 ∷ 124 ∷ xs) s.0)
    at false et g = absurd (cc)

punctuation-whole : (m : Punctuation) (b : ℕ) (bs : List ℕ) (last : State) → punctuation_text m ≡ b ∷ []
    → grown (states.Punctuation m) bs ≡ Some last → is_complete last ≡ true → Whole last (b ∷ bs)
punctuation-whole m b [] last e f whole = let same : states.Punctuation m ≡ last =
    cc in at-state (b ∷ []) (states.Punctuation m) last (sym same) (sym e)
punctuation-whole m b (c ∷ bs) last e f whole = by (grows m c)
  where
    slashed : m ≡ punctuations.Slash → b ≡ 47
    slashed em = let same : 47 ∷ [] ≡ b ∷ [] = ap punctuation_text (sym em) ∙ e in let is : 47 ≡ b = cc in sym is

    going : (g : Growth) → growth (states.Punctuation m) c ≡ g → to_only g (λ n. grown n bs) ≡ Some last
    going g eg = ap (λ x. to_only x (λ n. grown n bs)) (sym eg) ∙ f

    by : Grows m c → Whole last (b ∷ c ∷ bs)
    by (over eg) = let none : None ≡ Some last = going Over eg in absurd (cc)
    by (longer n eg text ends) =
        let s = stays (states.Punctuation n) ends bs last (going (to_punctuation n) eg) in
        at-state (b ∷ c ∷ bs) (states.Punctuation n) last s.1
        (ap (λ xs. b ∷ c ∷ xs) s.0 ∙ ap (λ xs. xs ++ c ∷ []) (sym e) ∙ sym text)
    by (line em ec) =
        let s = line_comments bs last (going (To states.LineComment)
        (ap (λ x. growth (states.Punctuation x) c) em ∙ ap (growth (states.Punctuation punctuations.Slash)) ec)) in
        at-state (b ∷ c ∷ bs) states.LineComment last s.0
        (record { body = bs; spelled = ap (λ x. x ∷ c ∷ bs) (slashed em) ∙ ap (λ x. 47 ∷ x ∷ bs) ec; valid = s.1 })
    by (general em ec) =
        let s = comments false bs last (going (To states.GeneralComment)
        (ap (λ x. growth (states.Punctuation x) c) em ∙ ap (growth (states.Punctuation punctuations.Slash)) ec))
        whole in
        at-state (b ∷ c ∷ bs) states.Closed last s.0 (record {
          body = s.1.body;
          spelled = ap (λ x. x ∷ c ∷ bs) (slashed em) ∙ ap (λ x. 47 ∷ x ∷ bs) ec ∙ ap (λ xs. 47 ∷ 42 ∷ xs) s.1.spelled;
          valid = s.1.valid;
          first = s.1.first;
        })

-- what ends in a complete state is a lexeme
pub whole : (b : ℕ) (bs : List ℕ) (last : State) → reached (b ∷ bs) ≡ Some last → is_complete last ≡ true
    → Whole last (b ∷ bs)
whole b bs last e complete = first (begun b) refl e
  where
    by : (s : State) → Begins b s → grown s bs ≡ Some last → Whole last (b ∷ bs)
    by s (letter h is) f =
        let r = words bs last (ap (λ x. grown x bs) (sym is) ∙ f) in
        at-state (b ∷ bs) states.Word last r.0
        (word-forms (b ∷ bs) (keyword_of (b ∷ bs)) refl (ap (λ t. t && list_all is_word_byte bs) h ∙ r.1))
    by s (nought h is) f =
        let r = zeros bs last (ap (λ x. grown x bs) (sym is) ∙ f) in
        at-state (b ∷ bs) states.Zero last r.1 (refl, ap (λ xs. is_integer (b ∷ xs)) r.0 ∙ ap is_digit h)
    by s (digit h d is) f =
        let r = digits bs last (ap (λ x. grown x bs) (sym is) ∙ f) in
        at-state (b ∷ bs) states.Digits last r.0 (refl, integer-forms b bs h d r.1)
    by s (blank h is) f =
        let r = stays states.Blank (λ _. refl) bs last (ap (λ x. grown x bs) (sym is) ∙ f) in
        at-state (b ∷ bs) states.Blank last r.1 (b, ap (λ xs. b ∷ xs) r.0, h)
    by s (quote h is) f =
        let r = strings bs last (ap (λ x. grown x bs) (sym is) ∙ f) complete in
        at-state (b ∷ bs) states.Text last r.0 (string-whole b bs h r.1)
    by s (bar h is) f = bar-whole b bs last h (ap (λ x. grown x bs) (sym is) ∙ f) complete
    by s (punctuation m text is) f = punctuation-whole m b bs last text (ap (λ x. grown x bs) (sym is) ∙ f) complete

    first : (o : Option State) → begun b ≡ o → option_and_then (λ s. grown s bs) o ≡ Some last → Whole last (b ∷ bs)
    first (Some s) eo f = by s (begins b s eo) f
    first None eo f = absurd (cc)
