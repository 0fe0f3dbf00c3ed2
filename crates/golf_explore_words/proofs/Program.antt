-- What the program's commands are.
-- For: `split`, src/clap_commands.rt
-- By: computing
use Rattle.std.proofs.Common.{◌≡◌, true, refl}
use Rattle.clap.proofs.OnLiterals.{clap_on_literals}
use Rattle.clap.specs.Faults.{is_simple_and_free}
use Rattle.golf_explore_words.specs.Words.{explorer_app}

pub simple_and_free : is_simple_and_free explorer_app ≡ true
unfolding clap_on_literals
simple_and_free = refl
