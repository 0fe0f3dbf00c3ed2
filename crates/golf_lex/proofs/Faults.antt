-- The fault is one place, and what is answered follows from it.
-- For: `tokens`, src/lexer.rt; the laws `faults_once` and `lexes_or_faults`, src/laws.rt.
-- By: induction over n, the bytes that were looked at.
use Rattle.std.proofs.Common.{◌≡◌, ℕ, zero, suc, ◌<◌, ◌≤◌, Bool, true, false, List, [], ◌∷◌, ◌++◌, length, take, drop}
use Rattle.std.proofs.Common.{get_or, refl, sym, ap, subst, ◌∙◌, append_assoc, add-one, inl, inr, arith}
use Rattle.std.specs.Prelude.{◌⊎◌, Option, Some, None, Result, Ok, Err}
use Rattle.std.proofs.Math.Seq.{take-length}
use Rattle.std.proofs.lemmas.List.{take-append-drop}
use Rattle.std.proofs.lemmas.Bool.{cases_order}
use Rattle.golf_lex_tokens.specs.declared.token.Token.{Token}
use Rattle.golf_lex_tokens.specs.Semicolons.{tokens_of}
use Rattle.golf_lex_tokens.specs.Lexes.{Lexes, IsFault, line_at}
use Rattle.golf_lex.specs.declared.automaton.State.{State}
use Rattle.golf_lex.specs.declared.automaton.State.TheVariants as states
use Rattle.golf_lex.specs.declared.lexer.LexFault.{LexFault}
use Rattle.golf_lex.specs.declared.lexer.LexFault.TheVariants.{At, Memory}
use Rattle.golf_lex.specs.Answers.{Answers, AcceptsBytes, RefusesBytes}
use Rattle.golf_lex.specs.Automaton.{is_complete, step, run}
use Rattle.golf_lex.proofs.Loop.{run-more}
use Rattle.golf_lex.proofs.Runs.{run-scans, scans-lexes, begins, stuck, fault-at, fault-end}
use Rattle.golf_lex.proofs.Scans.{lexes-once}

-- a prefix of a prefix
take-front : (xs : List ℕ) (n m : ℕ) → n ≤ m → take n (take m xs) ≡ take n xs
take-front xs zero m h = refl
take-front xs (suc n) zero h = absurd (omega arith)
take-front [] (suc n) (suc m) h = refl
take-front (x ∷ xs) (suc n) (suc m) h = ap (λ ys. x ∷ ys) (take-front xs n m (omega arith))

-- a fault has none after it
first-fault : (bytes : List ℕ) (place other : ℕ) → place < other → IsFault bytes place → IsFault bytes other → ⊥
first-fault bytes place other h f g =
    let front = take (suc place) bytes in
    let less : suc place ≤ other = omega arith in
    let within : other ≤ length bytes = g.within in
    let parts : front ++ drop (suc place) (take other bytes) ≡ take other bytes =
    ap (λ xs. xs ++ drop (suc place) (take other bytes)) (sym (take-front bytes (suc place) other less))
    ∙ take-append-drop (suc place) (take other bytes) in
    at (run states.Blank front) refl parts (omega arith)
  where
    at : (o : Option State) → run states.Blank (take (suc place) bytes) ≡ o → take (suc place) bytes
        ++ drop (suc place) (take other bytes) ≡ take other bytes → place < length bytes → ⊥
    at None e parts less = stuck (take (suc place) bytes)
        (drop (suc place) (take other bytes) ++ g.before.more) g.before.tokens e
        (subst (λ xs. Lexes xs g.before.tokens)
        (sym (ap (λ xs. xs ++ g.before.more) parts)
        ∙ append_assoc (take (suc place) bytes) (drop (suc place) (take other bytes)) g.before.more) g.before.lexes)
    at (Some state) e parts less = f.behind less (begins (take (suc place) bytes) state e)

pub faults-once : (bytes : List ℕ) (place other : ℕ) → IsFault bytes place → IsFault bytes other → place ≡ other
faults-once bytes place other f g = by (cases_order place other)
  where
    by : (place ≡ other) ⊎ ((place < other) ⊎ (other < place)) → place ≡ other
    by (inl same) = same
    by (inr (inl less)) = absurd (first-fault bytes place other less f g)
    by (inr (inr less)) = absurd (first-fault bytes other place less g f)

-- so many bytes run, or there is a fault
runs-or-faults : (bytes : List ℕ) (n : ℕ) → n ≤ length bytes
    → ((state : State) × (run states.Blank (take n bytes) ≡ Some state)) ⊎ ((place : ℕ) × IsFault bytes place)
runs-or-faults bytes zero h = inl (states.Blank, refl)
runs-or-faults bytes (suc n) h = by (runs-or-faults bytes n (omega arith))
  where
    at : (state : State) → run states.Blank (take n bytes) ≡ Some state → (o : Option State)
        → step state (get_or bytes n 0) ≡ o → ((state : State) × (run states.Blank (take (suc n) bytes) ≡ Some state))
        ⊎ ((place : ℕ) × IsFault bytes place)
    at state r None e = inr (n, fault-at bytes n (get_or bytes n 0) state (omega arith) refl r e)
    at state r (Some after) e = inl (
      after,
      ap (λ m. run states.Blank (take m bytes)) (sym (add-one n))
          ∙ run-more bytes n state after (omega arith) r e,
    )

    by : ((state : State) × (run states.Blank (take n bytes) ≡ Some state)) ⊎ ((place : ℕ) × IsFault bytes place)
        → ((state : State) × (run states.Blank (take (suc n) bytes) ≡ Some state)) ⊎ ((place : ℕ) × IsFault bytes place)
    by (inl (state, r)) = at state r (step state (get_or bytes n 0)) refl
    by (inr f) = inr f

pub lexes-or-faults : (bytes : List ℕ) → ((tokens : List Token) × Lexes bytes tokens)
    ⊎ ((place : ℕ) × IsFault bytes place)
lexes-or-faults bytes = by (runs-or-faults bytes (length bytes) (omega arith))
  where
    at : (state : State) (t : Bool) → is_complete state ≡ t → run states.Blank bytes ≡ Some state
        → ((tokens : List Token) × Lexes bytes tokens) ⊎ ((place : ℕ) × IsFault bytes place)
    at state true e r = let s = run-scans states.Blank [] bytes state r e in inl
        (tokens_of s.0, scans-lexes bytes s.0 s.1)
    at state false e r = inr (length bytes, fault-end bytes state r e)

    by : ((state : State) × (run states.Blank (take (length bytes) bytes) ≡ Some state))
        ⊎ ((place : ℕ) × IsFault bytes place) → ((tokens : List Token) × Lexes bytes tokens)
        ⊎ ((place : ℕ) × IsFault bytes place)
    by (inl (state, r)) = at state (is_complete state) refl (sym (ap (run states.Blank) (take-length bytes)) ∙ r)
    by (inr f) = inr f

-- what is answered at a fault
pub answers-fault : (bytes : List ℕ) (place : ℕ) (fault : LexFault) → fault ≡ At (line_at bytes place) place
    → IsFault bytes place → Answers bytes (Err fault)
answers-fault bytes place fault e f = subst (λ x. Answers bytes (Err x)) (sym e) (f, refl)

-- a right answer accepts what lexes
pub answers-accepts : (bytes : List ℕ) (result : Result (List Token) LexFault) → Answers bytes result
    → AcceptsBytes bytes result
answers-accepts bytes (Ok tokens) a = λ others l. inl (ap Ok (lexes-once bytes tokens others a l))
answers-accepts bytes (Err (At line place)) a = λ tokens l. absurd (a.0.refused tokens l)
answers-accepts bytes (Err Memory) a = λ tokens l. inr refl

-- and refuses what does not
pub answers-refuses : (bytes : List ℕ) (result : Result (List Token) LexFault) → Answers bytes result
    → RefusesBytes bytes result
answers-refuses bytes (Ok tokens) a = λ place f. absurd (f.refused tokens a)
answers-refuses bytes (Err (At line place)) a = λ other f. inl (
    ap (λ n. Err (At n place)) a.1 ∙ ap (λ p. Err (At (line_at bytes p) p)) (faults-once bytes place other a.0 f))
answers-refuses bytes (Err Memory) a = λ place f. inr refl
