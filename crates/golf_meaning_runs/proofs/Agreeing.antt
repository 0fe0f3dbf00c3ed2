-- The code of a program's functions agrees with their sources, for all answers.
-- For: `ProgramsAgree`, golf_meaning_runs/specs/Agreement.antt; the law `programs_agree`, src/lib.rt.
-- By: cases of a halt; no induction.
use Rattle.std.proofs.Common.{false, ◌∙◌}
use Rattle.std.proofs.lemmas.Bool.{false≢true}
use Rattle.golf_code_shapes.proofs.Globals.{names-fit}
use Rattle.golf_meaning_flat.specs.Worlds.{Misfit, Halt, End}
use Rattle.golf_meaning_flat.specs.Laws.{IsRuled}
use Rattle.golf_meaning_statements.specs.Files.{MeaningOf}
use Rattle.golf_meaning_statements.proofs.WholeFiles.{files-agree}
use Rattle.golf_meaning_runs.specs.SoundFlows.{EndSound}
use Rattle.golf_meaning_runs.proofs.WholeFiles.{files-sound}
use Rattle.golf_meaning_runs.specs.Agreement.{ProgramsAgree}
use Rattle.golf_meaning_runs.proofs.Files.{files-have-signatures}
use Rattle.golf_meaning_runs.proofs.Arguments.{any-arguments}

-- if no rule is lacking and kinds are not looked at in answers, a rule fits
pub ruled : (e : End) → EndSound false e → IsRuled e
ruled (End.Halts (Halt.Unfit Misfit.OfAnswer)) h = false≢true h
ruled (End.Halts (Halt.Unfit Misfit.OfRule)) h = h
ruled (End.Halts (Halt.Unfit Misfit.OfCount)) h = tt
ruled (End.Halts (Halt.Unfit Misfit.OfKind)) h = tt
ruled (End.Halts (Halt.Returned v)) h = tt
ruled (End.Halts Halt.Divided) h = tt
ruled (End.Halts Halt.Waits) h = tt
ruled End.Short h = tt

pub programs-agree : ProgramsAgree
programs-agree file program = record {
  count = (files-agree file).0;
  each = λ k fn is arguments answers long.
      let sig = files-have-signatures file k fn is in
      let given = any-arguments file k sig.0 arguments (names-fit file program.typed) sig.1 (long ∙ sig.2) in
      (files-agree file).1 k fn is arguments answers long
      (λ n. ruled (MeaningOf file k arguments answers n).end
      (files-sound file program.typed program.good false k arguments answers n given));
}
