-- A text that grew piece by piece.
-- For: `file` (golf_command_sample/specs/File.antt) and `add_part`, `add_parts`, `add_calls` (src/file.rt)
-- By: computing, as joining is associative; no induction
use Rattle.std.proofs.Common.{◌≡◌, ℕ, suc, ◌+◌, List, [], ◌++◌, ap, sym, ◌∙◌, append_assoc, codes, arith}
use Rattle.golf_command_sample.specs.File.{head, part, parts, call, calls, tail, file}

pub three : (old a b c one two all : List ℕ) → one ≡ old ++ a → two ≡ one ++ b → all ≡ two ++ c → all ≡ old
    ++ (a ++ (b ++ c))
three old a b c one two all e f g = g ∙ ap (λ x. x ++ c) (f ∙ ap (λ x. x ++ b) e) ∙ append_assoc (old ++ a) b c
    ∙ append_assoc old a (b ++ c)

pub more_parts : (old text new : List ℕ) (k : ℕ) → text ≡ old ++ parts k → new ≡ text ++ part (k + 1) → new ≡ old
    ++ parts (k + 1)
more_parts old text new k so grown =
    let next : suc k ≡ k + 1 = omega arith in
    grown ∙ ap (λ x. x ++ part (k + 1)) so ∙ append_assoc old (parts k) (part (k + 1))
    ∙ ap (λ n. old ++ (parts k ++ part n)) (sym next) ∙ ap (λ n. old ++ parts n) next

pub more_calls : (old text new : List ℕ) (k : ℕ) → text ≡ old ++ calls k → new ≡ text ++ call (k + 1) → new ≡ old
    ++ calls (k + 1)
more_calls old text new k so grown =
    let next : suc k ≡ k + 1 = omega arith in
    grown ∙ ap (λ x. x ++ call (k + 1)) so ∙ append_assoc old (calls k) (call (k + 1))
    ∙ ap (λ n. old ++ (calls k ++ call n)) (sym next) ∙ ap (λ n. old ++ calls n) next

-- the whole file
pub whole : (n : ℕ) (none one two three_ four all : List ℕ) → none ≡ [] → one ≡ none ++ head → two ≡ one ++ parts n
    → three_ ≡ two ++ codes "func main() {\n" → four ≡ three_ ++ calls n → all ≡ four ++ tail n
    → all ≡ file n
unfolding file
whole n none one two three_ four all empty e f g h last =
    let main = codes "func main() {\n" in
    last
    ∙ ap (λ x. x ++ tail n) (three head (parts n) main (calls n) two three_ four
    (f ∙ ap (λ x. x ++ parts n) (e ∙ ap (λ x. x ++ head) empty)) g h)
    ∙ append_assoc head (parts n ++ (main ++ calls n)) (tail n)
    ∙ ap (λ x. head ++ x) (append_assoc (parts n) (main ++ calls n) (tail n)
    ∙ ap (λ x. parts n ++ x) (append_assoc main (calls n) (tail n)))
