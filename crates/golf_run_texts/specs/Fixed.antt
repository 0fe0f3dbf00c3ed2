-- The limit of a file, and the texts that are the same in every run (profile).
use Rattle.std.specs.Prelude.{◌≡◌, ℕ, List, codes}
use Rattle.golf_run_texts.specs.declared.status.TheConstants.{LIMIT, USAGE, READ_FAULT, TOO_LONG, NO_MEMORY}

-- the most bytes of a file
abbrev pub most_bytes : ℕ
most_bytes = 1048576

-- the usage, for words that are no command line
abbrev pub usage_text : List ℕ
usage_text =
    codes
    "usage: golf run [--schedule S] [--turns N] [--every N] [--markers N] [--recover] [--why]\n       golf run --threads N\n       golf generate N\n       golf meaning\n"

-- the line of a source that fails
abbrev pub read_fault_text : List ℕ
read_fault_text = codes "read fault\n"

-- the line of a file that has more bytes
abbrev pub too_long_text : List ℕ
too_long_text = codes "refused: more than 1048576 bytes\n"

-- the line of a program that is out of memory
abbrev pub no_memory_text : List ℕ
no_memory_text = codes "out of memory\n"

-- the constants of the program are these
pub record AreFixed : Type 0 where
  pub limit : LIMIT ≡ most_bytes
  pub usage : USAGE.now ≡ usage_text
  pub read_fault : READ_FAULT.now ≡ read_fault_text
  pub too_long : TOO_LONG.now ≡ too_long_text
  pub no_memory : NO_MEMORY.now ≡ no_memory_text
