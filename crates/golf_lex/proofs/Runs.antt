-- Where the automaton stops is the fault.
-- For: `run`, golf_lex/specs/Automaton.antt; `scan`, golf_lex/specs/LexemeScan.antt.
-- By: induction over the bytes of the file.
use Rattle.std.proofs.Common.{◌≡◌, ℕ, suc, ◌<◌, Bool, true, false, cond, List, [], ◌∷◌, ◌++◌, length, take, drop}
use Rattle.std.proofs.Common.{get_or, refl, sym, ap, subst, ◌∙◌, arith}
use Rattle.std.specs.Prelude.{Option, Some, None, option_and_then, nat_lt}
use Rattle.std.specs.List.{list_all}
use Rattle.std.proofs.Math.Seq.{take-suc, take-length}
use Rattle.std.proofs.lemmas.List.{take-append-drop}
use Rattle.golf_lex_tokens.specs.declared.token.Token.{Token}
use Rattle.golf_lex_tokens.specs.Lexemes.{Lexeme}
use Rattle.golf_lex_tokens.specs.Semicolons.{tokens_of}
use Rattle.golf_lex_tokens.specs.Lexes.{Lexes, CanGoOn, IsFault}
use Rattle.golf_lex_tokens.specs.declared.token.Punctuation.TheVariants as punctuations
use Rattle.golf_lex.specs.declared.automaton.State.{State}
use Rattle.golf_lex.specs.declared.automaton.State.TheVariants as states
use Rattle.golf_lex.specs.declared.automaton.Growth.{Growth}
use Rattle.golf_lex.specs.declared.automaton.Growth.TheVariants.{To, Over, Fault}
use Rattle.golf_lex.specs.Automaton.{growth, begun, is_complete, step, step_by, run}
use Rattle.golf_lex.specs.LexemeScan.{ended, behind, scan_by, scan}
use Rattle.golf_lex.proofs.Scans.{scan-cuts, cut-scans}

pub run-append : (state : State) (xs ys : List ℕ)
    → run state (xs ++ ys) ≡ option_and_then (λ next. run next ys) (run state xs)
run-append state [] ys = refl
run-append state (b ∷ xs) ys = at (step state b) (λ next. run-append next xs ys)
  where
    at : (o : Option State) → ((next : State) → run next (xs ++ ys) ≡ option_and_then (λ n. run n ys) (run next xs))
        → option_and_then (λ n. run n (xs ++ ys)) o ≡ option_and_then (λ n. run n ys)
        (option_and_then (λ n. run n xs) o)
    at None again = refl
    at (Some next) again = again next

-- a run to a whole lexeme scans
pub run-scans : (state : State) (bytes bs : List ℕ) (last : State) → run state bs ≡ Some last → is_complete last ≡ true
    → (ps : List Lexeme) × (scan state bytes bs ≡ Some ps)
run-scans state bytes [] last e whole =
    let same : state ≡ last = cc in
    (ended state bytes, ap (λ t. cond t (Some (ended state bytes)) None) (ap is_complete same ∙ whole))
run-scans state bytes (b ∷ bs) last e whole = at (growth state b) e (λ next more f. run-scans next more bs last f whole)
  where
    fresh : (o : Option State) → option_and_then (λ n. run n bs) o ≡ Some last
        → ((next : State) (more : List ℕ) → run next bs ≡ Some last → (ps : List Lexeme)
        × (scan next more bs ≡ Some ps)) → (ps : List Lexeme)
        × (option_and_then (λ next. behind (ended state bytes) (scan next (b ∷ []) bs)) o ≡ Some ps)
    fresh None f again = absurd (cc)
    fresh (Some next) f again = let r = again next
        (b ∷ []) f in (ended state bytes ++ r.0, ap (behind (ended state bytes)) r.1)

    at : (g : Growth) → option_and_then (λ n. run n bs) (step_by g (begun b)) ≡ Some last
        → ((next : State) (more : List ℕ) → run next bs ≡ Some last → (ps : List Lexeme)
        × (scan next more bs ≡ Some ps)) → (ps : List Lexeme)
        × (scan_by (λ next more. scan next more bs) state bytes b g ≡ Some ps)
    at (To next) f again = again next (bytes ++ b ∷ []) f
    at Over f again = fresh (begun b) f again
    at Fault f again = absurd (cc)

-- what scans runs to a whole lexeme
scan-runs : (state : State) (bytes bs : List ℕ) (ps : List Lexeme) → scan state bytes bs ≡ Some ps → (last : State)
    × (run state bs ≡ Some last) × (is_complete last ≡ true)
scan-runs state bytes [] ps e = at (is_complete state) refl e
  where
    at : (t : Bool) → is_complete state ≡ t → cond t (Some (ended state bytes)) None ≡ Some ps → (last : State)
        × (Some state ≡ Some last) × (is_complete last ≡ true)
    at true et f = (state, refl, et)
    at false et f = absurd (cc)
scan-runs state bytes (b ∷ bs) ps e = at (growth state b) e (λ next more qs f. scan-runs next more bs qs f)
  where
    fresh : (o : Option State) → option_and_then (λ next. behind (ended state bytes) (scan next (b ∷ []) bs)) o
        ≡ Some ps → ((next : State) (more : List ℕ) (qs : List Lexeme) → scan next more bs ≡ Some qs → (last : State)
        × (run next bs ≡ Some last) × (is_complete last ≡ true)) → (last : State)
        × (option_and_then (λ n. run n bs) o ≡ Some last) × (is_complete last ≡ true)
    fresh None f again = absurd (cc)
    fresh (Some next) f again = scanned (scan next (b ∷ []) bs) refl f
      where
        scanned : (o : Option (List Lexeme)) → scan next (b ∷ []) bs ≡ o → behind (ended state bytes) o ≡ Some ps
            → (last : State) × (run next bs ≡ Some last) × (is_complete last ≡ true)
        scanned None eo g = absurd (cc)
        scanned (Some qs) eo g = again next (b ∷ []) qs eo

    at : (g : Growth) → scan_by (λ next more. scan next more bs) state bytes b g ≡ Some ps
        → ((next : State) (more : List ℕ) (qs : List Lexeme) → scan next more bs ≡ Some qs → (last : State)
        × (run next bs ≡ Some last) × (is_complete last ≡ true)) → (last : State)
        × (option_and_then (λ n. run n bs) (step_by g (begun b)) ≡ Some last) × (is_complete last ≡ true)
    at (To next) f again = again next (bytes ++ b ∷ []) ps f
    at Over f again = fresh (begun b) f again
    at Fault f again = absurd (cc)

-- bytes that make a lexeme whole
completion : State → List ℕ
completion states.Quoted = 34 ∷ []
completion states.Escaped = 34 ∷ 34 ∷ []
completion states.Bar = 124 ∷ []
completion states.GeneralComment = 42 ∷ 47 ∷ []
completion states.Star = 47 ∷ []
completion _ = []

-- they do, and are bytes
record Completes (state : State) (more : List ℕ) : Type 0 where
  last : State
  runs : run state more ≡ Some last
  complete : is_complete last ≡ true
  small : list_all (λ b. nat_lt b 256) more ≡ true

completes : (state : State) → Completes state (completion state)
unfolding completion
completes states.Quoted = record { last = states.Text; runs = refl; complete = refl; small = refl }
completes states.Escaped = record { last = states.Text; runs = refl; complete = refl; small = refl }
completes states.Bar = record { last = states.Punctuation punctuations.Or; runs = refl; complete = refl; small = refl }
completes states.GeneralComment = record { last = states.Closed; runs = refl; complete = refl; small = refl }
completes states.Star = record { last = states.Closed; runs = refl; complete = refl; small = refl }
completes states.Blank = record { last = states.Blank; runs = refl; complete = refl; small = refl }
completes states.Word = record { last = states.Word; runs = refl; complete = refl; small = refl }
completes states.Zero = record { last = states.Zero; runs = refl; complete = refl; small = refl }
completes states.Digits = record { last = states.Digits; runs = refl; complete = refl; small = refl }
completes states.Text = record { last = states.Text; runs = refl; complete = refl; small = refl }
completes (states.Punctuation m) = record { last = states.Punctuation m; runs = refl; complete = refl; small = refl }
completes states.LineComment = record { last = states.LineComment; runs = refl; complete = refl; small = refl }
completes states.Closed = record { last = states.Closed; runs = refl; complete = refl; small = refl }

-- what is scanned lexes
pub scans-lexes : (bytes : List ℕ) (ps : List Lexeme) → scan states.Blank [] bytes ≡ Some ps
    → Lexes bytes (tokens_of ps)
scans-lexes bytes ps e =
    let c = scan-cuts states.Blank [] bytes ps refl e in
    record { lexemes = ps; cut = c.cut; text = c.text; are = refl }

-- what lexes is scanned
pub lexes-scans : (bytes : List ℕ) (tokens : List Token) → Lexes bytes tokens → (ps : List Lexeme)
    × (scan states.Blank [] bytes ≡ Some ps) × (tokens ≡ tokens_of ps)
lexes-scans bytes tokens l = (l.lexemes, ap (scan states.Blank []) l.text ∙ cut-scans l.lexemes l.cut, l.are)

lexes-runs : (bytes : List ℕ) (tokens : List Token) → Lexes bytes tokens → (last : State)
    × (run states.Blank bytes ≡ Some last) × (is_complete last ≡ true)
lexes-runs bytes tokens l = let s = lexes-scans bytes tokens l in scan-runs states.Blank [] bytes s.0 s.1

-- bytes that run begin a text that lexes
pub begins : (bytes : List ℕ) (state : State) → run states.Blank bytes ≡ Some state → CanGoOn bytes
begins bytes state e =
    let c = completes state in
    let more = completion state in
    let r = run-scans states.Blank [] (bytes ++ more) c.last
    (run-append states.Blank bytes more ∙ ap (λ o. option_and_then (λ n. run n more) o) e ∙ c.runs) c.complete in
    record { more = more; small = c.small; tokens = tokens_of r.0; lexes = scans-lexes (bytes ++ more) r.0 r.1 }

-- bytes that do not run begin none
pub stuck : (bytes more : List ℕ) (tokens : List Token) → run states.Blank bytes ≡ None → Lexes (bytes ++ more) tokens
    → ⊥
stuck bytes more tokens e l =
    let r = lexes-runs (bytes ++ more) tokens l in
    let clash : None ≡ Some r.0 = ap (λ o. option_and_then (λ n. run n more) o) (sym e)
    ∙ sym (run-append states.Blank bytes more) ∙ r.1 in
    cc

-- the automaton stops at a byte
pub fault-at : (bytes : List ℕ) (place b : ℕ) (state : State) → place < length bytes → get_or bytes place 0 ≡ b
    → run states.Blank (take place bytes) ≡ Some state → step state b ≡ None → IsFault bytes place
fault-at bytes place b state h eb e stops =
    let front = take (suc place) bytes in
    let none : run states.Blank front ≡ None =
    ap (run states.Blank) (take-suc bytes place 0 h)
    ∙ run-append states.Blank (take place bytes) (get_or bytes place 0 ∷ [])
    ∙ ap (λ o. option_and_then (λ n. run n (get_or bytes place 0 ∷ [])) o) e
    ∙ ap (λ x. option_and_then (λ n. Some n) (step state x)) eb
    ∙ ap (λ o. option_and_then (λ n. Some n) o) stops in
    record {
      refused = λ tokens l. stuck front (drop (suc place) bytes) tokens none
          (subst (λ xs. Lexes xs tokens) (sym (take-append-drop (suc place) bytes)) l);
      within = omega arith;
      before = begins (take place bytes) state e;
      behind = λ _ more. stuck front more.more more.tokens none more.lexes;
    }

-- the bytes end within a lexeme
pub fault-end : (bytes : List ℕ) (state : State) → run states.Blank bytes ≡ Some state → is_complete state ≡ false
    → IsFault bytes (length bytes)
fault-end bytes state e unfinished =
    record {
      refused = λ tokens l. cut_off (lexes-runs bytes tokens l);
      within = omega arith;
      before = begins (take (length bytes) bytes) state (ap (run states.Blank) (take-length bytes) ∙ e);
      behind = λ h. absurd (omega arith);
    }
  where
    cut_off : ((last : State) × (run states.Blank bytes ≡ Some last) × (is_complete last ≡ true)) → ⊥
    cut_off (last, r, whole) =
        let same : state ≡ last = cc in
        let wrong : false ≡ true = sym unfinished ∙ ap is_complete same ∙ whole in cc
