-- The line that was asked for.
-- For: `serve`, `serve_line`, src/top.rt; `threads_asked`, specs/Asked.antt
-- By: cases of what the parsing came to; no induction
use Rattle.std.proofs.Common.{◌≡◌, ◌∙◌, ℕ, List, Option, Some, None, Result, Ok, Err, IfOk, IfSome, sym, ap, subst}
use Rattle.golf_base.specs.declared.Memory.{Memory}
use Rattle.golf_command_words.specs.declared.line.CommandLine.{CommandLine}
use Rattle.golf_command_words.specs.Words.{line_of, IsWithin}
use Rattle.golf_command.specs.Asked.{threads_asked}
use Rattle.golf_command.specs.Promises.{StandFor}

same : (m n : ℕ) → ◌≡◌ {A = Option ℕ} (Some m) (Some n) → m ≡ n
same m n e = cc

never : (n : ℕ) → ◌≡◌ {A = Option ℕ} None (Some n) → ⊥
never n e = cc

-- the words stand for that threads line
pub asked-line : (words : List (List ℕ)) (r : Result (Option CommandLine) Memory) (n : ℕ) → threads_asked r ≡ Some n
    → IfOk r (λ line. line ≡ line_of words) → StandFor words (CommandLine.Threads n)
asked-line words (Ok (Some (CommandLine.Threads m))) n e is = sym is
    ∙ ap (λ k. Some (CommandLine.Threads k)) (same m n e)
asked-line words (Ok (Some (CommandLine.Run options))) n e is = absurd (never n e)
asked-line words (Ok (Some (CommandLine.Generate m))) n e is = absurd (never n e)
asked-line words (Ok (Some CommandLine.Meaning)) n e is = absurd (never n e)
asked-line words (Ok None) n e is = absurd (never n e)
asked-line words (Err m) n e is = absurd (never n e)

-- so many threads are within the limits
pub asked-within : (r : Result (Option CommandLine) Memory) (n : ℕ) → threads_asked r ≡ Some n
    → IfOk r (λ line. IfSome line IsWithin) → IsWithin (CommandLine.Threads n)
asked-within (Ok (Some (CommandLine.Threads m))) n e is = subst (λ (k : ℕ). IsWithin (CommandLine.Threads k))
    (same m n e) is
asked-within (Ok (Some (CommandLine.Run options))) n e is = absurd (never n e)
asked-within (Ok (Some (CommandLine.Generate m))) n e is = absurd (never n e)
asked-within (Ok (Some CommandLine.Meaning)) n e is = absurd (never n e)
asked-within (Ok None) n e is = absurd (never n e)
asked-within (Err m) n e is = absurd (never n e)

-- the words stand for what was found
pub found-line : (words : List (List ℕ)) (r : Result (Option CommandLine) Memory) (found line : Option CommandLine)
    → r ≡ Ok found → found ≡ line → IfOk r (λ asked. asked ≡ line_of words) → line_of words ≡ line
found-line words r found line e f is = sym
    (subst (λ (q : Result (Option CommandLine) Memory). IfOk q (λ asked. asked ≡ line_of words)) e is) ∙ f
