-- Classes of bytes (Go specification, "Characters", "Letters and digits").
use Rattle.std.specs.Prelude.{ℕ, Bool, ◌&&◌, ◌||◌, not, nat_eq, nat_le, List, count_by}

-- `A` to `Z`, `a` to `z` or `_`
abbrev pub is_letter : ℕ → Bool
is_letter b = (nat_le 65 b && nat_le b 90) || (nat_le 97 b && nat_le b 122) || nat_eq b 95

-- `0` to `9`
abbrev pub is_digit : ℕ → Bool
is_digit b = nat_le 48 b && nat_le b 57

-- whether it can be in a name
abbrev pub is_word_byte : ℕ → Bool
is_word_byte b = is_letter b || is_digit b

-- space, tab, carriage return, newline
abbrev pub is_blank : ℕ → Bool
is_blank b = nat_eq b 32 || nat_eq b 9 || nat_eq b 13 || nat_eq b 10

-- whether it stands for itself between the quotes of a string: all bytes but NUL, newline, quote and backslash
abbrev pub is_ordinary : ℕ → Bool
is_ordinary b = not (nat_eq b 0 || nat_eq b 10 || nat_eq b 34 || nat_eq b 92)

-- the number of newlines
abbrev pub newlines : List ℕ → ℕ
newlines bytes = count_by (λ b. nat_eq b 10) bytes
