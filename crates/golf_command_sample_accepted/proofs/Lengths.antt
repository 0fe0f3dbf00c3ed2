-- How long a generated file is.
-- For: `file` (golf_command_sample/specs/File.antt)
-- By: induction over the number of parts or calls
use Rattle.std.proofs.Common.{◌≡◌, ℕ, zero, suc, ◌*◌, ◌≤◌, refl, List, ◌++◌, length, length-append, codes, decimal}
use Rattle.std.proofs.Common.{arith, lit<}
use Rattle.std.proofs.lemmas.Fmt.{length-decimal-le}
use Rattle.golf_command_sample.specs.File.{head, most_parts, part, part_body, parts, call, calls, tail, file}

number-length : (k : ℕ) → k ≤ most_parts → length (decimal k) ≤ 4
number-length k fits = length-decimal-le 4 k (lit< tt) (omega arith) (omega arith)

part-length : (k : ℕ) → k ≤ most_parts → length (part k) ≤ 110
part-length k fits =
    let front : length (codes "func part") ≡ 9 = refl in
    let body : length part_body ≡ 97 = refl in
    omega (
      arith,
      front,
      body,
      number-length k fits,
      length-append (codes "func part") (decimal k ++ part_body),
      length-append (decimal k) part_body,
    )

parts-length : (n : ℕ) → n ≤ most_parts → length (parts n) ≤ 110 * n
parts-length zero fits = omega arith
parts-length (suc n) fits = omega (
  arith,
  length-append (parts n) (part (suc n)),
  parts-length n (omega arith),
  part-length (suc n) fits,
)

call-length : (k : ℕ) → k ≤ most_parts → length (call k) ≤ 17
call-length k fits =
    let front : length (codes "\tpart") ≡ 5 = refl in
    let opening : length (codes "(") ≡ 1 = refl in
    let end : length (codes ")\n") ≡ 2 = refl in
    omega (
      arith,
      front,
      opening,
      end,
      number-length k fits,
      length-append (codes "\tpart") (decimal k ++ (codes "(" ++ (decimal k ++ codes ")\n"))),
      length-append (decimal k) (codes "(" ++ (decimal k ++ codes ")\n")),
      length-append (codes "(") (decimal k ++ codes ")\n"),
      length-append (decimal k) (codes ")\n"),
    )

calls-length : (n : ℕ) → n ≤ most_parts → length (calls n) ≤ 17 * n
calls-length zero fits = omega arith
calls-length (suc n) fits = omega (
  arith,
  length-append (calls n) (call (suc n)),
  calls-length n (omega arith),
  call-length (suc n) fits,
)

abbrev tail_end : List ℕ
tail_end = codes "; i++ {\n\t}\n\truntime.GC()\n}\n"

tail-length : (n : ℕ) → n ≤ most_parts → length (tail n) ≤ 60
tail-length n fits =
    let front : length (codes "\tfor i := 0; i < ") ≡ 17 = refl in
    let end : length tail_end ≡ 27 = refl in
    omega (
      arith,
      front,
      end,
      number-length n fits,
      length-append (codes "\tfor i := 0; i < ") (decimal n ++ tail_end),
      length-append (decimal n) tail_end,
    )

pub short : (n : ℕ) → n ≤ most_parts → length (file n) ≤ 1048576
unfolding file
short n fits =
    let main : length (codes "func main() {\n") ≡ 14 = refl in
    let front : length head ≡ 126 = refl in
    omega (
      arith,
      main,
      front,
      length-append head (parts n ++ (codes "func main() {\n" ++ (calls n ++ tail n))),
      length-append (parts n) (codes "func main() {\n" ++ (calls n ++ tail n)),
      length-append (codes "func main() {\n") (calls n ++ tail n),
      length-append (calls n) (tail n),
      parts-length n fits,
      calls-length n fits,
      tail-length n fits,
    )
