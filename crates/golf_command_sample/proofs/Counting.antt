-- The newlines of the generated file.
-- For: `HasLines` (golf_command_sample/specs/Lines.antt) and `file_lines` (src/file.rt)
-- By: induction over the number of parts or calls
use Rattle.std.proofs.Common.{◌≡◌, ℕ, zero, suc, ◌+◌, ◌*◌, ◌<◌, ◌%◌, ◌^◌, ◌==◌, Bool, cond, true, false, refl, ◌∙◌}
use Rattle.std.proofs.Common.{List, [], ◌∷◌, ◌++◌, codes, decimal, arith}
use Rattle.std.proofs.lemmas.Fmt.{decimal_by_steps}
use Rattle.std.proofs.lemmas.List.Sums.{sum_by-append}
use Rattle.golf_command_sample.specs.File.{head, part, part_body, parts, call, calls, tail, file}
use Rattle.golf_command_sample.specs.Lines.{newlines, HasLines}

newlines-append : (xs ys : List ℕ) → newlines (xs ++ ys) ≡ newlines xs + newlines ys
newlines-append xs ys = sum_by-append (λ x. cond (x == 10) 1 0) xs ys

-- a digit is no newline
one_digit : (n : ℕ) → newlines ((48 + n) ∷ []) ≡ 0
one_digit n = go ((48 + n) == 10) refl
  where
    go : (b : Bool) → ((48 + n) == 10) ≡ b → newlines ((48 + n) ∷ []) ≡ 0
    go true e = grind (arith, e)
    go false e = rw e refl

decimal_newlines : (n : ℕ) → n < 2 ^ 64 → newlines (decimal n) ≡ 0
decimal_newlines = decimal_by_steps (λ n ds. newlines ds ≡ 0) (λ n small. one_digit n)
    (λ n ds large none. newlines-append ds ((48 + n % 10) ∷ []) ∙ grind (arith, none, one_digit (n % 10)))

part_newlines : (k : ℕ) → k < 2 ^ 64 → newlines (part k) ≡ 8
part_newlines k fits =
    let front : newlines (codes "func part") ≡ 0 = refl in
    let body : newlines part_body ≡ 8 = refl in
    newlines-append (codes "func part") (decimal k ++ part_body)
    ∙ omega (arith, front, body, newlines-append (decimal k) part_body, decimal_newlines k fits)

parts_newlines : (n : ℕ) → n < 2 ^ 64 → newlines (parts n) ≡ 8 * n
parts_newlines zero fits = refl
parts_newlines (suc n) fits =
    newlines-append (parts n) (part (suc n)) ∙ omega (arith, parts_newlines n (omega arith), part_newlines (suc n) fits)

call_newlines : (k : ℕ) → k < 2 ^ 64 → newlines (call k) ≡ 1
call_newlines k fits =
    let front : newlines (codes "\tpart") ≡ 0 = refl in
    let opening : newlines (codes "(") ≡ 0 = refl in
    let end : newlines (codes ")\n") ≡ 1 = refl in
    newlines-append (codes "\tpart") (decimal k ++ (codes "(" ++ (decimal k ++ codes ")\n")))
    ∙ omega (
      arith,
      front,
      opening,
      end,
      decimal_newlines k fits,
      newlines-append (decimal k) (codes "(" ++ (decimal k ++ codes ")\n")),
      newlines-append (codes "(") (decimal k ++ codes ")\n"),
      newlines-append (decimal k) (codes ")\n"),
    )

calls_newlines : (n : ℕ) → n < 2 ^ 64 → newlines (calls n) ≡ n
calls_newlines zero fits = refl
calls_newlines (suc n) fits =
    newlines-append (calls n) (call (suc n)) ∙ omega (arith, calls_newlines n (omega arith), call_newlines (suc n) fits)

abbrev tail_end : List ℕ
tail_end = codes "; i++ {\n\t}\n\truntime.GC()\n}\n"

tail_newlines : (n : ℕ) → n < 2 ^ 64 → newlines (tail n) ≡ 4
tail_newlines n fits =
    let front : newlines (codes "\tfor i := 0; i < ") ≡ 0 = refl in
    let end : newlines tail_end ≡ 4 = refl in
    newlines-append (codes "\tfor i := 0; i < ") (decimal n ++ tail_end)
    ∙ omega (arith, front, end, newlines-append (decimal n) tail_end, decimal_newlines n fits)

pub lines : HasLines
unfolding file
lines n fits =
    let main : newlines (codes "func main() {\n") ≡ 1 = refl in
    let front : newlines head ≡ 15 = refl in
    newlines-append head (parts n ++ (codes "func main() {\n" ++ (calls n ++ tail n)))
    ∙ omega (
      arith,
      main,
      front,
      newlines-append (parts n) (codes "func main() {\n" ++ (calls n ++ tail n)),
      newlines-append (codes "func main() {\n") (calls n ++ tail n),
      newlines-append (calls n) (tail n),
      parts_newlines n (omega arith),
      calls_newlines n (omega arith),
      tail_newlines n (omega arith),
    )
