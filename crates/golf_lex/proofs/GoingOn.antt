-- What words, integers, line comments and strings go on with.
-- For: `growth`, golf_lex/specs/Automaton.antt; `extend`, src/automaton.rt.
-- By: induction over the bytes that follow.
use Rattle.std.proofs.Common.{◌≡◌, ℕ, Bool, true, false, cond, not, ◌&&◌, ◌||◌, List, [], ◌∷◌, ◌++◌, refl, sym, ap, ◌∙◌}
use Rattle.std.proofs.Common.{append_assoc}
use Rattle.std.proofs.lemmas.Bool.{eqb-true}
use Rattle.std.specs.Prelude.{Some, nat_eq}
use Rattle.std.specs.List.{list_all}
use Rattle.golf_lex_tokens.specs.Bytes.{is_letter, is_digit, is_word_byte, is_ordinary}
use Rattle.golf_lex_tokens.specs.Spelling.{StringPart, Itself, Newline, Tab, Backslash, Quote, is_part, part_text}
use Rattle.golf_lex_tokens.specs.Spelling.{parts_text}
use Rattle.golf_lex_tokens.specs.Lexemes.{is_nonzero}
use Rattle.golf_lex.specs.declared.automaton.State.{State}
use Rattle.golf_lex.specs.declared.automaton.State.TheVariants as states
use Rattle.golf_lex.specs.declared.automaton.Growth.TheVariants.{To, Over, Fault}
use Rattle.golf_lex.specs.Automaton.{growth, is_escape, is_complete}
use Rattle.golf_lex.proofs.Growing.{to_only, grown}

-- a state that bytes never make longer ends where it begins
pub stays : (state : State) → ((b : ℕ) → growth state b ≡ Over) → (bs : List ℕ) (last : State)
    → grown state bs ≡ Some last → (bs ≡ []) × (last ≡ state)
stays state over [] last e = let same : state ≡ last = cc in (refl, sym same)
stays state over (b ∷ bs) last e = let none : to_only Over (λ s. grown s bs) ≡ Some last =
    ap (λ g. to_only g (λ s. grown s bs)) (sym (over b)) ∙ e in absurd (cc)

-- a word goes on with letters and digits
pub words : (bs : List ℕ) (last : State) → grown states.Word bs ≡ Some last → (last ≡ states.Word)
    × (list_all is_word_byte bs ≡ true)
words [] last e = let same : states.Word ≡ last = cc in (sym same, refl)
words (b ∷ bs) last e = at (is_word_byte b) (λ f. words bs last f) e
  where
    at : (t : Bool) → (grown states.Word bs ≡ Some last → (last ≡ states.Word) × (list_all is_word_byte bs ≡ true))
        → to_only (cond t (To states.Word) Over) (λ s. grown s bs) ≡ Some last → (last ≡ states.Word)
        × ((t && list_all is_word_byte bs) ≡ true)
    at true again f = again f
    at false again f = absurd (cc)

-- an integer goes on with digits
pub digits : (bs : List ℕ) (last : State) → grown states.Digits bs ≡ Some last → (last ≡ states.Digits)
    × (list_all is_digit bs ≡ true)
digits [] last e = let same : states.Digits ≡ last = cc in (sym same, refl)
digits (b ∷ bs) last e = at (is_digit b) (is_letter b) (λ f. digits bs last f) e
  where
    at : (t u : Bool) → (grown states.Digits bs ≡ Some last → (last ≡ states.Digits) × (list_all is_digit bs ≡ true))
        → to_only (cond t (To states.Digits) (cond u Fault Over)) (λ s. grown s bs) ≡ Some last → (last ≡ states.Digits)
        × ((t && list_all is_digit bs) ≡ true)
    at true u again f = again f
    at false true again f = absurd (cc)
    at false false again f = absurd (cc)

-- `0` alone is an integer
pub zeros : (bs : List ℕ) (last : State) → grown states.Zero bs ≡ Some last → (bs ≡ []) × (last ≡ states.Zero)
zeros [] last e = let same : states.Zero ≡ last = cc in (refl, sym same)
zeros (b ∷ bs) last e = absurd (at (is_word_byte b) e)
  where
    at : (t : Bool) → to_only (cond t Fault Over) (λ s. grown s bs) ≡ Some last → ⊥
    at true f = cc
    at false f = cc

-- a line comment goes on with what is no NUL and no newline
pub line_comments : (bs : List ℕ) (last : State) → grown states.LineComment bs ≡ Some last → (last ≡ states.LineComment)
    × (list_all (λ b. is_nonzero b && not (nat_eq b 10)) bs ≡ true)
line_comments [] last e = let same : states.LineComment ≡ last = cc in (sym same, refl)
line_comments (b ∷ bs) last e = at (nat_eq b 0) (nat_eq b 10) (λ f. line_comments bs last f) e
  where
    at : (t u : Bool) → (grown states.LineComment bs ≡ Some last → (last ≡ states.LineComment)
        × (list_all (λ b. is_nonzero b && not (nat_eq b 10)) bs ≡ true))
        → to_only (cond t Fault (cond u Over (To states.LineComment))) (λ s. grown s bs) ≡ Some last
        → (last ≡ states.LineComment) × (((not t && not u) && list_all (λ b. is_nonzero b && not (nat_eq b 10)) bs)
        ≡ true)
    at true u again f = absurd (cc)
    at false true again f = absurd (cc)
    at false false again f = again f

-- what a string goes on with, up to its closing quote
pub record Closes (bs : List ℕ) : Type 0 where
  pub parts : List StringPart
  pub valid : list_all is_part parts ≡ true
  pub spelled : bs ≡ parts_text parts ++ 34 ∷ []

-- a part in front
closes-more : (p : StringPart) (front : List ℕ) (bs all : List ℕ) → is_part p ≡ true → all ≡ front ++ bs
    → front ≡ part_text p
    → Closes bs → Closes all
closes-more p front bs all good e f c = record {
  parts = p ∷ c.parts;
  valid = ap (λ t. t && list_all is_part c.parts) good ∙ c.valid;
  spelled = e ∙ ap (λ r. front ++ r) c.spelled ∙ ap (λ r. r ++ (parts_text c.parts ++ 34 ∷ [])) f
      ∙ sym (append_assoc (part_text p) (parts_text c.parts) (34 ∷ []));
}

-- the part that a backslash and a byte are
escape-part : (e : ℕ) → is_escape e ≡ true → (p : StringPart) × (part_text p ≡ 92 ∷ e ∷ []) × (is_part p ≡ true)
escape-part e h = at (nat_eq e 110) (nat_eq e 116) (nat_eq e 92) (nat_eq e 34) refl refl refl refl h
  where
    at : (n t s q : Bool) → nat_eq e 110 ≡ n → nat_eq e 116 ≡ t → nat_eq e 92 ≡ s → nat_eq e 34 ≡ q
        → (n || t || s || q) ≡ true → (p : StringPart) × (part_text p ≡ 92 ∷ e ∷ []) × (is_part p ≡ true)
    at true t s q en et es eq h = (Newline, ap (λ x. 92 ∷ x ∷ []) (sym (eqb-true e 110 en)), refl)
    at false true s q en et es eq h = (Tab, ap (λ x. 92 ∷ x ∷ []) (sym (eqb-true e 116 et)), refl)
    at false false true q en et es eq h = (Backslash, ap (λ x. 92 ∷ x ∷ []) (sym (eqb-true e 92 es)), refl)
    at false false false true en et es eq h = (Quote, ap (λ x. 92 ∷ x ∷ []) (sym (eqb-true e 34 eq)), refl)
    at false false false false en et es eq h = absurd (cc)

-- a string that is whole went on to a closing quote
pub strings : (bs : List ℕ) (last : State) → grown states.Quoted bs ≡ Some last → is_complete last ≡ true
    → (last ≡ states.Text) × Closes bs
strings [] last e whole = absurd (let same : states.Quoted ≡ last = cc in let no : false ≡ true = ap is_complete same
    ∙ whole in cc)
strings (b ∷ []) last e whole = first (nat_eq b 34) (nat_eq b 92) (is_ordinary b) refl e
  where
    first : (q s p : Bool) → nat_eq b 34 ≡ q
        → to_only (cond q (To states.Text) (cond s (To states.Escaped) (cond p (To states.Quoted) Fault))) (λ n. Some n)
        ≡ Some last → (last ≡ states.Text) × Closes (b ∷ [])
    first true s p eq f = let same : states.Text ≡ last =
        cc in (sym same, record { parts = []; valid = refl; spelled = ap (λ x. x ∷ []) (eqb-true b 34 eq) })
    first false true p eq f = absurd (let same : states.Escaped ≡ last = cc in let no : false
        ≡ true = ap is_complete same ∙ whole in cc)
    first false false true eq f = absurd (let same : states.Quoted ≡ last = cc in let no : false
        ≡ true = ap is_complete same ∙ whole in cc)
    first false false false eq f = absurd (cc)
strings (b ∷ c ∷ bs) last e whole = first (nat_eq b 34) (nat_eq b 92) (is_ordinary b) refl refl refl
    (λ f. strings (c ∷ bs) last f whole) (λ f. strings bs last f whole) e
  where
    second : (t : Bool) → is_escape c ≡ t → nat_eq b 92 ≡ true
        → (grown states.Quoted bs ≡ Some last → (last ≡ states.Text) × Closes bs)
        → to_only (cond t (To states.Quoted) Fault) (λ n. grown n bs) ≡ Some last → (last ≡ states.Text)
        × Closes (b ∷ c ∷ bs)
    second true et es again f =
        let r = again f in
        let p = escape-part c et in
        (r.0, closes-more p.0 (92 ∷ c ∷ []) bs (b ∷ c ∷ bs) p.2 (ap (λ x. x ∷ c ∷ bs) (eqb-true b 92 es)) (sym p.1) r.1)
    second false et es again f = absurd (cc)

    first : (q s p : Bool) → nat_eq b 34 ≡ q → nat_eq b 92 ≡ s → is_ordinary b ≡ p
        → (grown states.Quoted (c ∷ bs) ≡ Some last → (last ≡ states.Text) × Closes (c ∷ bs))
        → (grown states.Quoted bs ≡ Some last → (last ≡ states.Text) × Closes bs)
        → to_only (cond q (To states.Text) (cond s (To states.Escaped) (cond p (To states.Quoted) Fault)))
        (λ n. grown n (c ∷ bs)) ≡ Some last → (last ≡ states.Text) × Closes (b ∷ c ∷ bs)
    first true s p eq es ep one two f = absurd (cc)
    first false true p eq es ep one two f = second (is_escape c) refl es two f
    first false false true eq es ep one two f = let r =
        one f in (r.0, closes-more (Itself b) (b ∷ []) (c ∷ bs) (b ∷ c ∷ bs) ep refl refl r.1)
    first false false false eq es ep one two f = absurd (cc)
