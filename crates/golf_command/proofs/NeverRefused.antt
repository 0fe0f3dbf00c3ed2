-- No generated file is refused.
-- For: `run_generated`, src/generated.rt
-- By: cases of the refusal; no induction
use Rattle.std.proofs.Common.{◌≡◌, ℕ, ◌≤◌, List, length, subst}
use Rattle.golf_syntax_trees.specs.declared.declarations.File.{File}
use Rattle.golf_command_sample.specs.File.{file as generated_file, most_parts}
use Rattle.golf_reader.specs.declared.refusal.Refusal.{Refusal}
use Rattle.golf_reader.specs.declared.refusal.Refusal.TheVariants as refusals
use Rattle.golf_reader.specs.Refusals.{HasTypedTree, IsRefusedBy}
use Rattle.golf_run_texts.specs.Fixed.{most_bytes}
use Rattle.golf_command_sample_accepted.proofs.Accepting as generated

module _ (n : ℕ) (some : 1 ≤ n) (most : n ≤ most_parts) where
  pub short : length (generated_file n) ≤ most_bytes
  short = (generated.accepted n some most).1.short

  typed : (file : File) × HasTypedTree (generated_file n) file
  typed = let a = generated.accepted n some most in (a.0, record { tree = a.1.reads; keeps = a.1.typed })

  module _ (bytes : List ℕ) (same : bytes ≡ generated_file n) (refusal : Refusal)
      (why : IsRefusedBy bytes refusal) where
    refused-by : (other : Refusal) → refusal ≡ other → IsRefusedBy (generated_file n) other
    refused-by other e = subst (λ (bs : List ℕ). IsRefusedBy bs other) same (subst (IsRefusedBy bytes) e why)

    pub not-lexical : (line byte : ℕ) → refusal ≡ refusals.Lexical line byte → ⊥
    not-lexical line byte e = let r = typed in (refused-by (refusals.Lexical line byte) e).none r.0 r.1

    pub not-syntax : (line : ℕ) → refusal ≡ refusals.Syntax line → ⊥
    not-syntax line e = let r = typed in (refused-by (refusals.Syntax line) e).none r.0 r.1

    pub not-untyped : (line rule : ℕ) → refusal ≡ refusals.Untyped line rule → ⊥
    not-untyped line rule e = let r = typed in (refused-by (refusals.Untyped line rule) e).none r.0 r.1
