-- What a call has shown is what its source means.
-- For: `LivesMeanSource`, golf_meaning_runs/specs/Lives.antt; the law `lives_mean_the_source`, src/lib.rt.
-- By: cases of where the call stands; induction over its life.
use Rattle.std.proofs.Common.{◌≡◌, ℕ, Bool, List, length, Option, subst}
use Rattle.golf_syntax_trees.specs.declared.declarations.File.{File}
use Rattle.golf_data.specs.declared.value.Value.{Value}
use Rattle.golf_data.specs.declared.code.Function.{Function}
use Rattle.golf_meaning_flat.specs.Worlds.{Operation, Answer, Told}
use Rattle.golf_meaning_flat.specs.Laws.{IsPartOf, Agree}
use Rattle.golf_meaning_statements.specs.Functions.{CodeMeaning}
use Rattle.golf_meaning_statements.specs.Files.{giving_in, MeaningOf}
use Rattle.golf_meaning_statements.proofs.WholeFiles.{files-agree}
use Rattle.golf_meaning_runs.specs.FrameShapes.{Shaping}
use Rattle.golf_meaning_runs.specs.Life.{Now, Life, HasShown}
use Rattle.golf_meaning_runs.proofs.Living.{lives-mean}
use Rattle.golf_meaning_runs.specs.Lives.{SourceMeans, LivesMeanSource}

module _ (file : File) (k : ℕ) (fn : Function) (arguments : List Value) (shown : List Operation) (got : List Answer)
    (agree : Agree (MeaningOf file k arguments got) (CodeMeaning (giving_in file) fn arguments got)) where
  source-means : (now : Now) → HasShown (giving_in file) fn arguments shown got now
      → SourceMeans file k arguments shown got now
  source-means (Now.Stands at c) h = let b =
      agree.back h.0 in (b.0, subst (λ (t : Told). IsPartOf t (MeaningOf file k arguments got b.0)) h.1 b.1)
  source-means (Now.Asks at c before) h = let b =
      agree.back h.0 in (b.0, subst (λ (t : Told). IsPartOf t (MeaningOf file k arguments got b.0)) h.1 b.1)
  source-means (Now.Halted halt) h = let b =
      agree.back h.0 in (b.0, subst (λ (t : Told). IsPartOf t (MeaningOf file k arguments got b.0)) h.1 b.1)

-- a call has as many arguments as its function has parameters
counted : (fn : Function) (shaping : Option Shaping) (arguments : List Value) (shown : List Operation)
    (got : List Answer) (now : Now) → Life fn shaping arguments shown got now → length arguments ≡ fn.params
counted fn shaping arguments shown got now (Life.Begins e) = e
counted fn shaping arguments shown got now (Life.Turns l to d life is step) = counted fn shaping arguments _ _ _ life
counted fn shaping arguments shown got now (Life.Clears slots life alike) = counted fn shaping arguments _ _ _ life
counted fn shaping arguments shown got now (Life.Shows l o life good is step) = counted fn shaping arguments _ _ _ life
counted fn shaping arguments shown got now (Life.Answered l a to d life good is step) =
    counted fn shaping arguments _ _ _ life
counted fn shaping arguments shown got now (Life.Halts l h life is step) = counted fn shaping arguments _ _ _ life

pub lives-mean-source : LivesMeanSource
lives-mean-source file k fn shaping arguments shown got now is gives ruled life =
    let agree = (files-agree file).1 k fn is arguments got (counted fn shaping arguments shown got now life) ruled in
    source-means file k fn arguments shown got agree now
    (subst (λ (bs : List Bool). HasShown bs fn arguments shown got now) gives
    (lives-mean fn shaping arguments shown got now life))
