-- A text that is cut at its first separator.
-- For: `at_comma`, `at_colon`, src/values.rt; `cut`, specs/Values.antt
-- By: cases of whether the separator is there; no induction
use Rattle.std.proofs.Common.{◌≡◌, ℕ, ◌<◌, Bool, cond, sym, ap, ap₂, ◌∙◌, ◌==◌, length, Option, Some, None, Bor, lt-ltb}
use Rattle.std.proofs.Common.{le-ltb, arith}
use Rattle.std.specs.Option.{option_map}
use Rattle.std.specs.List.{position_or_len, before_first, after_first}
use Rattle.std.proofs.lemmas.Str.Pattern.{IsSplitOnceResult, split_once_first}
use Rattle.golf_command_words.specs.Values.{Text, cut}

abbrev place : ℕ → Text → ℕ
place c text = position_or_len (λ b. b == c) text

abbrev cut_if : ℕ → Text → Bool → Option (Text × Text)
cut_if c text inside = cond inside (Some (before_first (λ b. b == c) text, after_first (λ b. b == c) text)) None

pub cut_is : (c : ℕ) (text : Text) (r : Option (Bor Text × Bor Text)) → IsSplitOnceResult c text r → c < 128
    → option_map (λ parts. (parts.0.now, parts.1.now)) r ≡ cut c text
cut_is c text None h low =
    let past : place c text ≡ length text = split_once_first c text None h low in
    ap (cut_if c text) (sym (le-ltb (place c text) (length text) (omega (arith, past))))
cut_is c text (Some x) h low =
    let parts = split_once_first c text (Some x) h low in
    ap₂ (λ (a b : Text). Some (a, b)) parts.1 parts.2
    ∙ ap (cut_if c text) (sym (lt-ltb (place c text) (length text) parts.0))
