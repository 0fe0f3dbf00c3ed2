-- The automaton that reads a file byte by byte.
use Rattle.std.specs.Prelude.{ℕ, Bool, true, false, ◌||◌, nat_eq, cond, List, [], ◌∷◌, Option, Some, None}
use Rattle.std.specs.Prelude.{option_and_then}
use Rattle.std.specs.Option.{option_map}
use Rattle.golf_lex_tokens.specs.declared.token.Punctuation.{Punctuation}
use Rattle.golf_lex_tokens.specs.declared.token.Punctuation.TheVariants as punctuations
use Rattle.golf_lex_tokens.specs.Bytes.{is_letter, is_digit, is_word_byte, is_blank, is_ordinary}
use Rattle.golf_lex.specs.declared.automaton.State.{State}
use Rattle.golf_lex.specs.declared.automaton.State.TheVariants as states
use Rattle.golf_lex.specs.declared.automaton.Growth.{Growth}
use Rattle.golf_lex.specs.declared.automaton.Growth.TheVariants.{To, Over, Fault}

-- the punctuation mark of one byte
abbrev pub begun_punctuation : ℕ → Option Punctuation
begun_punctuation b =
    cond (nat_eq b 43) (Some punctuations.Plus) (
    cond (nat_eq b 45) (Some punctuations.Minus) (
    cond (nat_eq b 42) (Some punctuations.Star) (
    cond (nat_eq b 47) (Some punctuations.Slash) (
    cond (nat_eq b 37) (Some punctuations.Percent) (
    cond (nat_eq b 60) (Some punctuations.Less) (
    cond (nat_eq b 62) (Some punctuations.Greater) (
    cond (nat_eq b 33) (Some punctuations.Not) (
    cond (nat_eq b 38) (Some punctuations.Ampersand) (
    cond (nat_eq b 40) (Some punctuations.OpenParen) (
    cond (nat_eq b 41) (Some punctuations.CloseParen) (
    cond (nat_eq b 91) (Some punctuations.OpenBracket) (
    cond (nat_eq b 93) (Some punctuations.CloseBracket) (
    cond (nat_eq b 123) (Some punctuations.OpenBrace) (
    cond (nat_eq b 125) (Some punctuations.CloseBrace) (
    cond (nat_eq b 44) (Some punctuations.Comma) (
    cond (nat_eq b 59) (Some punctuations.Semicolon) (
    cond (nat_eq b 58) (Some punctuations.Colon) (
    cond (nat_eq b 46) (Some punctuations.Dot) (
    cond (nat_eq b 61) (Some punctuations.Assign) None)))))))))))))))))))

-- the state after the first byte of a lexeme
abbrev pub begun : ℕ → Option State
begun b =
    cond (is_letter b) (Some states.Word) (
    cond (nat_eq b 48) (Some states.Zero) (
    cond (is_digit b) (Some states.Digits) (
    cond (is_blank b) (Some states.Blank) (
    cond (nat_eq b 34) (Some states.Quoted) (
    cond (nat_eq b 124) (Some states.Bar) (
    option_map states.Punctuation (begun_punctuation b)))))))

abbrev pub to_punctuation : Punctuation → Growth
to_punctuation m = To (states.Punctuation m)

-- a punctuation mark with `=` after it
abbrev pub with_equals : Punctuation → ℕ → Growth
with_equals m b = cond (nat_eq b 61) (to_punctuation m) Over

-- a punctuation mark with this second byte, or with `=` after it
abbrev pub after_doubling : ℕ → ℕ → Punctuation → Punctuation → Growth
after_doubling b second doubled assigning = cond (nat_eq b second) (to_punctuation doubled) (with_equals assigning b)

abbrev pub after_slash : ℕ → Growth
after_slash b = cond (nat_eq b 47) (To states.LineComment)
    (cond (nat_eq b 42) (To states.GeneralComment) (with_equals punctuations.SlashAssign b))

abbrev pub after_punctuation : Punctuation → ℕ → Growth
after_punctuation punctuations.Plus b = after_doubling b 43 punctuations.Increment punctuations.PlusAssign
after_punctuation punctuations.Minus b = after_doubling b 45 punctuations.Decrement punctuations.MinusAssign
after_punctuation punctuations.Star b = with_equals punctuations.StarAssign b
after_punctuation punctuations.Slash b = after_slash b
after_punctuation punctuations.Percent b = with_equals punctuations.PercentAssign b
after_punctuation punctuations.Assign b = with_equals punctuations.Equal b
after_punctuation punctuations.Not b = with_equals punctuations.NotEqual b
after_punctuation punctuations.Less b = after_doubling b 45 punctuations.Arrow punctuations.AtMost
after_punctuation punctuations.Greater b = with_equals punctuations.AtLeast b
after_punctuation punctuations.Ampersand b = cond (nat_eq b 38) (to_punctuation punctuations.And) Over
after_punctuation punctuations.Colon b = with_equals punctuations.Define b
after_punctuation _ b = Over

-- whether the byte ends an escape
abbrev pub is_escape : ℕ → Bool
is_escape b = nat_eq b 110 || nat_eq b 116 || nat_eq b 92 || nat_eq b 34

-- the effect of a byte on a lexeme
abbrev pub growth : State → ℕ → Growth
growth states.Blank b = Over
growth states.Word b = cond (is_word_byte b) (To states.Word) Over
growth states.Zero b = cond (is_word_byte b) Fault Over
growth states.Digits b = cond (is_digit b) (To states.Digits) (cond (is_letter b) Fault Over)
growth states.Quoted b = cond (nat_eq b 34) (To states.Text)
    (cond (nat_eq b 92) (To states.Escaped) (cond (is_ordinary b) (To states.Quoted) Fault))
growth states.Escaped b = cond (is_escape b) (To states.Quoted) Fault
growth states.Text b = Over
growth (states.Punctuation m) b = after_punctuation m b
growth states.Bar b = cond (nat_eq b 124) (to_punctuation punctuations.Or) Fault
growth states.LineComment b = cond (nat_eq b 0) Fault (cond (nat_eq b 10) Over (To states.LineComment))
growth states.GeneralComment b = cond (nat_eq b 0) Fault
    (cond (nat_eq b 42) (To states.Star) (To states.GeneralComment))
growth states.Star b = cond (nat_eq b 47) (To states.Closed)
    (cond (nat_eq b 0) Fault (cond (nat_eq b 42) (To states.Star) (To states.GeneralComment)))
growth states.Closed b = Over

-- whether the bytes so far can be a whole lexeme
abbrev pub is_complete : State → Bool
is_complete states.Quoted = false
is_complete states.Escaped = false
is_complete states.Bar = false
is_complete states.GeneralComment = false
is_complete states.Star = false
is_complete _ = true

-- the state after a byte
abbrev pub step_by : Growth → Option State → Option State
step_by (To next) fresh = Some next
step_by Over fresh = fresh
step_by Fault fresh = None

abbrev pub step : State → ℕ → Option State
step state b = step_by (growth state b) (begun b)

-- the state after the bytes
abbrev pub run : State → List ℕ → Option State
run state [] = Some state
run state (b ∷ bs) = option_and_then (λ next. run next bs) (step state b)
