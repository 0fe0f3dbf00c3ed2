-- The number of lines of the generated file.
use Rattle.std.specs.Prelude.{◌≡◌, ℕ, ◌+◌, ◌*◌, ◌<◌, ◌^◌, ◌==◌, List, count_by}
use Rattle.golf_command_sample.specs.File.{file}

-- the newlines (10) of a text
abbrev pub newlines : List ℕ → ℕ
newlines text = count_by (λ b. b == 10) text

abbrev pub HasLines : Type 0
HasLines = (n : ℕ) → n < 2 ^ 32 → newlines (file n) ≡ 20 + 9 * n
