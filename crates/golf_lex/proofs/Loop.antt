-- What the loop over the bytes of a file keeps.
-- For: `tokens`, src/lexer.rt; `read`, golf_lex/specs/Output.antt.
-- By: computing, one byte more; induction over the list of lexemes to add them in two parts.
use Rattle.std.proofs.Common.{◌≡◌, ℕ, suc, ◌+◌, ◌-◌, ◌<◌, ◌≤◌, Bool, true, false, cond, List, [], ◌∷◌, ◌++◌, length}
use Rattle.std.proofs.Common.{length-drop, take, drop, get_or, refl, sym, ap, subst, ◌∙◌, add-one, add-zero, arith}
use Rattle.std.specs.Prelude.{Option, Some, None, option_and_then, nat_eq}
use Rattle.std.specs.Option.{option_map}
use Rattle.std.proofs.Math.Seq.{take-suc, drop-cons}
use Rattle.std.proofs.lemmas.List.{get_or-drop, take_all}
use Rattle.std.proofs.Math.ListN.{drop_of_length-le}
use Rattle.golf_lex_tokens.specs.declared.token.Token.{Token}
use Rattle.golf_lex_tokens.specs.Bytes.{newlines}
use Rattle.golf_lex_tokens.specs.Lexemes.{Class, Blank, LineComment, GeneralComment, Of, Lexeme}
use Rattle.golf_lex_tokens.specs.Semicolons.{semicolon}
use Rattle.golf_lex_tokens.specs.Lexes.{Lexes}
use Rattle.golf_lex.specs.declared.automaton.State.{State}
use Rattle.golf_lex.specs.declared.automaton.State.TheVariants as states
use Rattle.golf_lex.specs.declared.automaton.Growth.TheVariants.{To, Over}
use Rattle.golf_lex.specs.declared.output.Output.{Output}
use Rattle.golf_lex.specs.Automaton.{growth, begun, is_complete, step, run}
use Rattle.golf_lex.specs.Output.{empty, read, moved, with_class, with_space, line_ended, line_ended_by, with_lexemes}
use Rattle.golf_lex.specs.Output.{finished}
use Rattle.golf_lex.specs.LexemeScan.{ended, behind, scan_by, scan}
use Rattle.golf_lex.proofs.Runs.{run-append, scans-lexes}
use Rattle.golf_lex.proofs.Scans.{map-some}
use Rattle.golf_lex.proofs.Whole.{class_at}
use Rattle.golf_lex.proofs.Writing.{pushed-line, writes-tokens}

pub with_lexemes-append : (o : Output) (ps qs : List Lexeme)
    → with_lexemes o (ps ++ qs) ≡ with_lexemes (with_lexemes o ps) qs
with_lexemes-append o [] qs = refl
with_lexemes-append o (p ∷ ps) qs = with_lexemes-append (moved (with_class o p.class p.bytes) p.bytes) ps qs

-- the line moves by the newlines alone
with_space-line : (o : Output) (bytes : List ℕ) → (with_space o bytes).line ≡ o.line
with_space-line o bytes = at (nat_eq (newlines bytes) 0)
  where
    by : (wanted : Option ℕ) → (line_ended_by o wanted).line ≡ o.line
    by None = refl
    by (Some line) = (pushed-line (record o { semicolon = None }) (semicolon line)).0

    at : (t : Bool) → (cond t o (line_ended o)).line ≡ o.line
    at true = refl
    at false = by o.semicolon

with_class-line : (o : Output) (class : Class) (bytes : List ℕ) → (with_class o class bytes).line ≡ o.line
with_class-line o Blank bytes = with_space-line o bytes
with_class-line o LineComment bytes = with_space-line o bytes
with_class-line o GeneralComment bytes = with_space-line o bytes
with_class-line o (Of kind) bytes = (pushed-line o (record { kind = kind; line = o.line })).0

pub ended-line : (o : Output) (state : State) (bytes : List ℕ) → is_complete state ≡ true
    → (with_lexemes o (ended state bytes)).line ≡ o.line + newlines bytes
ended-line o states.Blank [] whole = sym (add-zero o.line)
ended-line o states.Word bytes whole = ap (λ n. n + newlines bytes)
    (with_class-line o (class_at states.Word bytes) bytes)
ended-line o states.Zero bytes whole = ap (λ n. n + newlines bytes)
    (with_class-line o (class_at states.Zero bytes) bytes)
ended-line o states.Digits bytes whole =
    ap (λ n. n + newlines bytes) (with_class-line o (class_at states.Digits bytes) bytes)
ended-line o states.Text bytes whole = ap (λ n. n + newlines bytes)
    (with_class-line o (class_at states.Text bytes) bytes)
ended-line o (states.Punctuation m) bytes whole =
    ap (λ n. n + newlines bytes) (with_class-line o (class_at (states.Punctuation m) bytes) bytes)
ended-line o states.LineComment bytes whole =
    ap (λ n. n + newlines bytes) (with_class-line o (class_at states.LineComment bytes) bytes)
ended-line o states.Closed bytes whole =
    ap (λ n. n + newlines bytes) (with_class-line o (class_at states.Closed bytes) bytes)
ended-line o states.Blank (b ∷ bytes) whole = ap (λ n. n + newlines (b ∷ bytes)) (with_class-line o Blank (b ∷ bytes))
ended-line o _ bytes whole = absurd (cc)

-- one more byte of a lexeme
pub slice-more : (bytes : List ℕ) (start i : ℕ) → start ≤ i → i < length bytes
    → take (i + 1 - start) (drop start bytes) ≡ take (i - start) (drop start bytes) ++ get_or bytes i 0 ∷ []
slice-more bytes start i h k =
    let j = i - start in
    let less : j < length (drop start bytes) = omega (arith, length-drop start bytes) in
    let next : i + 1 - start ≡ suc j = omega arith in
    let place : start + j ≡ i = omega arith in
    ap (λ n. take n (drop start bytes)) next
    ∙ take-suc (drop start bytes) j 0 less
    ∙ ap (λ b. take j (drop start bytes) ++ b ∷ []) (get_or-drop start bytes j 0 ∙ ap (λ n. get_or bytes n 0) place)

-- the first byte of a lexeme
pub slice-one : (bytes : List ℕ) (i : ℕ) → i < length bytes → take (i + 1 - i) (drop i bytes) ≡ get_or bytes i 0 ∷ []
slice-one bytes i h =
    let one : i + 1 - i ≡ 1 = omega arith in
    ap (λ n. take n (drop i bytes)) one ∙ ap (take 1) (drop-cons bytes i 0 h)

rest-more : (bytes : List ℕ) (i : ℕ) → i < length bytes → drop i bytes ≡ get_or bytes i 0 ∷ drop (i + 1) bytes
rest-more bytes i h = drop-cons bytes i 0 h ∙ ap (λ n. get_or bytes i 0 ∷ drop n bytes) (sym (add-one i))

-- the automaton has taken one more byte
pub run-more : (bytes : List ℕ) (i : ℕ) (state after : State) → i < length bytes
    → run states.Blank (take i bytes) ≡ Some state → step state (get_or bytes i 0) ≡ Some after
    → run states.Blank (take (i + 1) bytes) ≡ Some after
run-more bytes i state after h r e =
    ap (λ n. run states.Blank (take n bytes)) (add-one i)
    ∙ ap (run states.Blank) (take-suc bytes i 0 h)
    ∙ run-append states.Blank (take i bytes) (get_or bytes i 0 ∷ [])
    ∙ ap (λ o. option_and_then (λ n. run n (get_or bytes i 0 ∷ [])) o) r
    ∙ ap (λ o. option_and_then (λ n. Some n) o) e

-- the lexeme has one more byte
pub reads-more : (o : Output) (bytes : List ℕ) (start i : ℕ) (state next : State) → start ≤ i → i < length bytes
    → growth state (get_or bytes i 0) ≡ To next
    → read o next (take (i + 1 - start) (drop start bytes)) (drop (i + 1) bytes) ≡ read o state
    (take (i - start) (drop start bytes)) (drop i bytes)
reads-more o bytes start i state next h k g =
    let rest = drop (i + 1) bytes in
    let front = take (i - start) (drop start bytes) in
    ap (λ xs. read o next xs rest) (slice-more bytes start i h k)
    ∙ sym (ap (λ x. option_map (λ ps. finished (with_lexemes o ps))
    (scan_by (λ n xs. scan n xs rest) state front (get_or bytes i 0) x)) g)
    ∙ sym (ap (read o state front) (rest-more bytes i k))

read-behind : (o : Output) (ps : List Lexeme) (rest : Option (List Lexeme))
    → option_map (λ qs. finished (with_lexemes o qs)) (behind ps rest) ≡ option_map
    (λ qs. finished (with_lexemes (with_lexemes o ps) qs)) rest
read-behind o ps None = refl
read-behind o ps (Some qs) = ap (λ x. Some (finished x)) (with_lexemes-append o ps qs)

-- the lexeme ends, and the next one begins
pub reads-next : (o : Output) (bytes : List ℕ) (start i : ℕ) (state next : State) → i < length bytes
    → growth state (get_or bytes i 0) ≡ Over → begun (get_or bytes i 0) ≡ Some next
    → read (with_lexemes o (ended state (take (i - start) (drop start bytes)))) next (take (i + 1 - i) (drop i bytes))
    (drop (i + 1) bytes) ≡ read o state (take (i - start) (drop start bytes)) (drop i bytes)
reads-next o bytes start i state next k g e =
    let rest = drop (i + 1) bytes in
    let b = get_or bytes i 0 in
    let front = take (i - start) (drop start bytes) in
    let done = with_lexemes o (ended state front) in
    ap (λ xs. read done next xs rest) (slice-one bytes i k)
    ∙ sym (read-behind o (ended state front) (scan next (b ∷ []) rest))
    ∙ sym (ap (λ x. option_map (λ ps. finished (with_lexemes o ps))
    (option_and_then (λ n. behind (ended state front) (scan n (b ∷ []) rest)) x)) e)
    ∙ sym (ap (λ x. option_map (λ ps. finished (with_lexemes o ps)) (scan_by (λ n xs. scan n xs rest) state front b x))
    g)
    ∙ sym (ap (read o state front) (rest-more bytes i k))

-- if all is read, the tokens are those that the bytes lex as
pub reads-lexes : (bytes : List ℕ) (tokens : List Token) → read empty states.Blank [] bytes ≡ Some tokens
    → Lexes bytes tokens
reads-lexes bytes tokens e =
    let m = map-some (λ ps. finished (with_lexemes empty ps)) (scan states.Blank [] bytes) tokens e in
    subst (Lexes bytes) (sym (m.2 ∙ writes-tokens m.0)) (scans-lexes bytes m.0 m.1)

-- all bytes are taken
pub run-end : (bytes : List ℕ) (i : ℕ) (state : State) → length bytes ≤ i → run states.Blank (take i bytes) ≡ Some state
    → run states.Blank bytes ≡ Some state
run-end bytes i state h r = sym (ap (run states.Blank) (take_all i bytes h)) ∙ r

-- the last lexeme is whole
pub reads-end : (o : Output) (bytes : List ℕ) (start i : ℕ) (state : State) → length bytes ≤ i
    → is_complete state ≡ true → read o state (take (i - start) (drop start bytes)) (drop i bytes) ≡ Some
    (finished (with_lexemes o (ended state (take (length bytes - start) (drop start bytes)))))
reads-end o bytes start i state h whole =
    let text = drop start bytes in
    let size = length-drop start bytes in
    let within : length text ≤ i - start = omega arith in
    let all : length text ≤ length bytes - start = omega arith in
    ap (read o state (take (i - start) text)) (drop_of_length-le bytes h)
    ∙ ap (λ xs. read o state xs []) (take_all (i - start) text within ∙ sym (take_all (length bytes - start) text all))
    ∙ ap (λ t. option_map (λ ps. finished (with_lexemes o ps))
    (cond t (Some (ended state (take (length bytes - start) text))) None)) whole
