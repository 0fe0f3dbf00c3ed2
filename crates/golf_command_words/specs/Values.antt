-- The values of options: numbers and schedules (profile).
use Rattle.std.specs.Prelude.{◌≡◌, ◌++◌, ℕ, zero, suc, ◌+◌, ◌-◌, ◌*◌, ◌^◌, ◌&&◌, ◌==◌, Bool, true, false, if◌then◌else◌}
use Rattle.std.specs.Prelude.{List, [], ◌∷◌, length, Option, Some, None, option_and_then, option_map, nat_lt, nat_le}
use Rattle.std.specs.Prelude.{codes, bytes_eq}
use Rattle.std.specs.List.{position_or_len, before_first, after_first}
use Rattle.golf_run_schedules.specs.declared.schedule.Schedule.{Schedule}

-- the bytes of a word, or of a part of one
abbrev pub Text : Type 0
Text = List ℕ

-- the text before the first byte c, and the text behind it, if the text has c
abbrev pub cut : ℕ → Text → Option (Text × Text)
cut c text =
    if nat_lt (position_or_len (λ b. b == c) text) (length text)
    then Some (before_first (λ b. b == c) text, after_first (λ b. b == c) text) else None

-- ---- numbers

abbrev pub is_digit : ℕ → Bool
is_digit b = nat_le 48 b && nat_le b 57

-- the number that digits write behind those of n; `None` if a byte is no digit, or the number is above 2^64 - 1
abbrev pub digits_after : ℕ → Text → Option ℕ
digits_after n [] = Some n
digits_after n (b ∷ bs) =
    if is_digit b && nat_lt (n * 10 + (b - 48)) (2 ^ 64) then digits_after (n * 10 + (b - 48)) bs else None

-- one to twenty decimal digits, leading zeros allowed
abbrev pub number_of : Text → Option ℕ
number_of text = if nat_le 1 (length text) && nat_le (length text) 20 then digits_after 0 text else None

abbrev pub if_within : ℕ → ℕ → ℕ → Option ℕ
if_within least most n = if nat_le least n && nat_le n most then Some n else None

abbrev pub number_within : ℕ → ℕ → Text → Option ℕ
number_within least most text = option_and_then (if_within least most) (number_of text)

-- ---- schedules

-- the most numbers of written choices that `golf run` takes
abbrev pub most_choices : ℕ
most_choices = 4096

-- the numbers of a list that is cut at its first comma, and whose rest `next` reads
abbrev pub after_comma : Option (Text × Text) → Text → (Text → Option (List ℕ)) → Option (List ℕ)
after_comma None text next = option_map (λ n. n ∷ []) (number_of text)
after_comma (Some parts) text next = option_and_then (λ n. option_map (λ ns. n ∷ ns) (next parts.1)) (number_of parts.0)

-- one number or more, at most as many as the first argument says, with a comma (44) between two of them
unfoldable pub numbers_of : ℕ → Text → Option (List ℕ)
numbers_of zero text = None
numbers_of (suc more) text = after_comma (cut 44 text) text (numbers_of more)

abbrev pub schedule_with : ℕ → Option (Text × Text) → Text → Option Schedule
schedule_with most None text = if bytes_eq (codes "rotate") text then Some Schedule.Rotate else None
schedule_with most (Some parts) text =
    if bytes_eq (codes "seed") parts.0 then option_map (λ n. Schedule.Seed n) (number_of parts.1)
    else (if bytes_eq (codes "choices") parts.0 then option_map (λ ns. Schedule.Choices ns)
    (numbers_of most parts.1)
    else None)

-- `rotate`, `seed:N` or `choices:N,N,..`, with at most this many choices
abbrev pub schedule_of : ℕ → Text → Option Schedule
schedule_of most text = schedule_with most (cut 58 text) text

-- a list that has gained the numbers of a text; a text that is no list may leave some of them
abbrev pub GainsNumbers : Option (List ℕ) → List ℕ → List ℕ → Bool → Type 0
GainsNumbers None old new is_list = is_list ≡ false
GainsNumbers (Some ns) old new is_list = (is_list ≡ true) × (new ≡ old ++ ns)
