use denote.Enum.Bare.{sameb}
use Rattle.std.proofs.Common.{◌≡◌, ◌∙◌, refl, sym, ap, inl, inr, true, true≢false, map, string_bytes}
use Rattle.std.proofs.lemmas.Bool.{and_parts}
use Rattle.clap.specs.Simple.{app_of, subcommand_of, subcommand_rows_of}
use Rattle.clap.specs.Faults.{fault_of}
use Rattle.clap.specs.contracts.error.kind.ErrorKind.{the_type}
use Rattle.clap.specs.declared.error.kind.ErrorKind.TheVariants.{OutOfMemory}
use Rattle.golf_command_words.proofs.Commands.{answered, refused}
use Rattle.golf_command_words.proofs.clap_commands.match_words.Goals as goal

pub returns-in-Ok : goal.returns-in-Ok
returns-in-Ok c =
    answered (app_of c.args.command) (map string_bytes c.args.words.now) (subcommand_rows_of c.in-Ok.matches)
    (c.in-Ok.ensures.kinds c.requires) (c.in-Ok.ensures.matches (and_parts _ _ c.requires).0).1

pub returns : goal.returns
returns c =
    let a = app_of c.args.command in
    let words = map string_bytes c.args.words.now in
    refused c.in-Err.error.kind (fault_of a words) (subcommand_of a words)
    (elim (c.in-Err.ensures.kinds c.requires) [
      | inl memory ↦
          let same : true ≡ sameb the_type OutOfMemory OutOfMemory = refl in
          absurd (true≢false (same ∙ ap (λ k. sameb the_type k OutOfMemory) (sym (c.kind.ensures ∙ memory))
          ∙ sym c.eq.ensures ∙ c.if-eq.false))
      | inr among ↦ among
    ])
