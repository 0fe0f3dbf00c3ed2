-- The meaning of the status of each part of the top call.
use Rattle.std.specs.Prelude.{◌≡◌, ℕ, ◌⊎◌, List, Option}
use Rattle.std.specs.Io.KnownBytes.{Appends}
use Rattle.golf_base.specs.Causes.{Rose, WritesPrefix}
use Rattle.golf_reader.specs.declared.refusal.Refusal.{Refusal}
use Rattle.golf_reader.specs.declared.refusal.Refusal.TheVariants as refusals
use Rattle.golf_run_texts.specs.Texts.{lexical_line, syntax_line, rule_line}
use Rattle.golf_run_texts.specs.Fixed.{no_memory_text}
use Rattle.golf_run_texts.specs.declared.status.Status.{Status}
use Rattle.golf_run_texts.specs.declared.status.Status.TheVariants as s

-- the line was written, with that status; or the write failed in the middle of it
abbrev pub EndsWith : Status → Status → List ℕ → Option (List ℕ) → Option (List ℕ) → ℕ → ℕ → Type 0
EndsWith result status line err err' before now = ((result ≡ status) × Appends err err' line × (now ≡ before))
    ⊎ ((result ≡ s.WriteFault) × WritesPrefix err err' line × Rose before now)

-- the line of a refusal
abbrev pub refusal_line : Refusal → List ℕ
refusal_line (refusals.Lexical line byte) = lexical_line line byte
refusal_line (refusals.Syntax line) = syntax_line line
refusal_line (refusals.Untyped line rule) = rule_line line rule
refusal_line refusals.Memory = no_memory_text

-- the status of the program after a refusal
abbrev pub refusal_status : Refusal → Status
refusal_status (refusals.Lexical line byte) = s.Refused
refusal_status (refusals.Syntax line) = s.Refused
refusal_status (refusals.Untyped line rule) = s.Refused
refusal_status refusals.Memory = s.Memory

-- the line of the refusal was written with its status; or memory ran out for that line
abbrev pub Refuses : Status → Refusal → Option (List ℕ) → Option (List ℕ) → ℕ → ℕ → Type 0
Refuses result refusal err err' before now =
    EndsWith result (refusal_status refusal) (refusal_line refusal) err err' before now
    ⊎ EndsWith result s.Memory no_memory_text err err' before now
