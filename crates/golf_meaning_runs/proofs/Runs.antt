-- The sources of the functions of a program mean what its calls show in a run.
-- For: `RunsMeanSources`, golf_meaning_runs/specs/Laws.antt; the law `runs_mean_their_sources`, src/lib.rt.
-- By: cases of where a call stands; induction over lists of calls.
use Rattle.std.proofs.Common.{◌≡◌, ℕ, Bool, false, List, [], ◌∷◌, Some, slice_get, refl, ap, sym, ◌∙◌, subst}
use Rattle.std.proofs.Common.{append-nil}
use Rattle.golf_theory.proofs.Lists.{Every-weaker}
use Rattle.golf_syntax_trees.specs.declared.declarations.File.{File}
use Rattle.golf_data.specs.declared.value.Value.{Value}
use Rattle.golf_data.specs.declared.code.Code.{Code}
use Rattle.golf_data.specs.declared.code.Function.{Function}
use Rattle.golf_model.specs.State.{State, start}
use Rattle.golf_model.specs.Runs.{Event, happens}
use Rattle.golf_model_typing.specs.Types.{ValueType, Shape, Typing}
use Rattle.golf_model_typing.specs.Grows.{Grows}
use Rattle.golf_model_typing.specs.Shapes.{HasShapes}
use Rattle.golf_code_of.specs.Files.{CodeOf}
use Rattle.golf_code_shapes.specs.FileLaws.{types_of_file}
use Rattle.golf_code_shapes.proofs.Globals.{names-fit}
use Rattle.golf_code_never_stuck.specs.Reached.{IsProgram}
use Rattle.golf_code_never_stuck.proofs.Plain.{Sound, sound-start, sound-event, plain-runs-go-on}
use Rattle.golf_code_never_stuck.proofs.Reaching.{files-have-shapes}
use Rattle.golf_meaning_flat.specs.Worlds.{Operation, Answer, Halt, End, Told, halted}
use Rattle.golf_meaning_flat.specs.Laws.{BeginsWith}
use Rattle.golf_meaning_statements.specs.Functions.{CodeMeaning}
use Rattle.golf_meaning_statements.specs.Files.{giving_in, MeaningOf}
use Rattle.golf_meaning_runs.specs.SoundFlows.{EndSound}
use Rattle.golf_meaning_runs.proofs.Giving.{gives-are}
use Rattle.golf_meaning_runs.proofs.WholeFiles.{files-sound}
use Rattle.golf_meaning_runs.specs.FrameShapes.{giving}
use Rattle.golf_meaning_runs.specs.Life.{Now, HasShown}
use Rattle.golf_meaning_runs.proofs.Living.{lives-mean}
use Rattle.golf_meaning_runs.specs.Books.{IsBooked, AreArguments, RunTypes, shaping, book_of, left_of, StandsSo}
use Rattle.golf_meaning_runs.specs.CallRecords.{Standing, Call}
use Rattle.golf_meaning_runs.specs.Books.{HasLife, TypedAlong}
use Rattle.golf_meaning_runs.specs.Books.{CallHasLeft}
use Rattle.golf_meaning_runs.proofs.Others.{one-some}
use Rattle.golf_meaning_runs.proofs.BookedRuns.{runs-are-booked}
use Rattle.golf_meaning_runs.specs.Lives.{SourceMeans}
use Rattle.golf_meaning_runs.proofs.Sources.{lives-mean-source}
use Rattle.golf_meaning_runs.specs.Laws.{SaysOf, IsMeant, RunsMeanSources}
use Rattle.golf_meaning_runs.proofs.Agreeing.{ruled}
use Rattle.golf_meaning_runs.proofs.Files.{files-have-masks, files-have-parameters}
use Rattle.golf_meaning_runs.proofs.Arguments.{typed-arguments}

-- a life that has come to this has a meaning which says what is so of the call
module _ (meaning : ℕ → Told) (shown : List Operation) where
  MeansSo : Now → Type 0
  MeansSo (Now.Stands at c) = (n : ℕ) × BeginsWith (meaning n).operations shown
  MeansSo (Now.Asks at c before) = (n : ℕ) × (meaning n ≡ record { operations = shown; end = End.Halts Halt.Waits })
  MeansSo (Now.Halted h) = (n : ℕ) × (meaning n ≡ record { operations = shown; end = End.Halts h })

  says : (standing : Standing) (now : Now) → StandsSo standing now → MeansSo now → SaysOf meaning shown standing
  unfolding MeansSo
  says Standing.Goes (Now.Stands at c) e h = h
  says Standing.Goes (Now.Asks at c before) e h = absurd e
  says Standing.Goes (Now.Halted i) e h = absurd e
  says (Standing.Asks q) (Now.Stands at c) e h = absurd e
  says (Standing.Asks q) (Now.Asks at c before) e h = h
  says (Standing.Asks q) (Now.Halted i) e h = absurd e
  says (Standing.Ended j) (Now.Stands at c) e h = absurd e
  says (Standing.Ended j) (Now.Asks at c before) e h = absurd e
  says (Standing.Ended j) (Now.Halted i) e h = (h.0, h.1 ∙ ap (λ z. halted z shown) (sym e))

of-source : (file : File) (k : ℕ) (arguments : List Value) (shown : List Operation) (got : List Answer) (now : Now)
    → SourceMeans file k arguments shown got now → MeansSo (MeaningOf file k arguments got) shown now
unfolding MeansSo
of-source file k arguments shown got (Now.Stands at c) h = h
of-source file k arguments shown got (Now.Asks at c before) h = h
of-source file k arguments shown got (Now.Halted i) h = h

of-code : (gives : List Bool) (fn : Function) (arguments : List Value) (shown : List Operation) (got : List Answer)
    (now : Now) → HasShown gives fn arguments shown got now → MeansSo (CodeMeaning gives fn arguments got) shown now
unfolding MeansSo
of-code gives fn arguments shown got (Now.Stands at c) h =
    (h.0, ([], ap (λ (t : Told). t.operations) h.1 ∙ sym (append-nil shown)))
of-code gives fn arguments shown got (Now.Asks at c before) h = h
of-code gives fn arguments shown got (Now.Halted i) h = h

same-function : (code : Code) (k : ℕ) (f g : Function) → slice_get code.functions k ≡ Some f
    → slice_get code.functions k ≡ Some g → f ≡ g
same-function code k f g a b = one-some f g (sym a ∙ b)

-- the states of a run are well typed, by what is known of objects in the end
typed-along : (code : Code) (types : Typing) (shapes : HasShapes code types) (es : List Event) (s : State)
    (h : Sound code types shapes s) → (later : List (ℕ × ValueType)) × Grows h.known later
    × TypedAlong code types later s es
typed-along code types shapes [] s h = (h.known, (λ o t known. known), (h.known, h.typed, λ o t known. known))
typed-along code types shapes (e ∷ es) s h =
    let u = sound-event code types shapes s e h in
    let r = typed-along code types shapes es (happens code s e) u.0 in
    let grows : Grows h.known r.0 = λ o t known. r.1 o t (u.1 o t known) in
    (r.0, grows, ((h.known, h.typed, grows), r.2))

module _ (file : File) (program : IsProgram file) (shapes : List (List Shape)) (known : List (ℕ × ValueType)) where
  abbrev pub types : RunTypes
  types = record { typing = record { of = types_of_file file; shapes = shapes }; known = known }

  -- with such arguments the source of a function lacks no rule
  sound : (k : ℕ) (arguments : List Value) (got : List Answer) → AreArguments types k arguments → (n : ℕ)
      → EndSound false (MeaningOf file k arguments got n).end
  sound k arguments got (sig, is, fit) n = files-sound file program.typed program.good false k arguments got n
      (typed-arguments file false known k sig arguments (names-fit file program.typed) is fit)

  pub live-meant : (k : Call) → HasLife (CodeOf file) types k → IsMeant file k
  live-meant k (fn, is, (given, (now, life, stands))) = (
    says (MeaningOf file k.function k.arguments k.got) k.shown k.standing now stands
        (of-source file k.function k.arguments k.shown k.got now
        (lives-mean-source file k.function fn (shaping types k.function) k.arguments k.shown k.got now is
        (sym (gives-are file))
        (λ n. ruled (MeaningOf file k.function k.arguments k.got n).end
        (sound k.function k.arguments k.got given n)) life)),
    λ other found.
        let gives = giving (types_of_file file) in
        subst (λ (f : Function). SaysOf (CodeMeaning (giving_in file) f k.arguments k.got) k.shown k.standing)
        (same-function (CodeOf file) k.function fn other is found)
        (subst (λ bs. SaysOf (CodeMeaning bs fn k.arguments k.got) k.shown k.standing) (sym (gives-are file))
        (says (CodeMeaning gives fn k.arguments k.got) k.shown k.standing now stands
        (of-code gives fn k.arguments k.shown k.got now
        (lives-mean fn (shaping types k.function) k.arguments k.shown k.got now life)))),
  )

-- the calls of the run in their book
pub booked-run : (file : File) (program : IsProgram file) (events : List Event) → (known : List (ℕ × ValueType))
    × IsBooked (CodeOf file) (types file program (files-have-shapes file program).0 known) events
booked-run file program events =
    let x = files-have-shapes file program in
    let of_file : Typing = record { of = types_of_file file; shapes = x.0 } in
    let code = CodeOf file in
    let typed : (es : List Event) → (known : List (ℕ × ValueType)) × TypedAlong code of_file known (start code) es =
    λ es. let t = typed-along code of_file x.1 es (start code) (sound-start code of_file x.1) in (t.0, t.2) in
    runs-are-booked code of_file (files-have-masks file) x.1 (files-have-parameters file x.0)
    (typed, (plain-runs-go-on file program).0) events

pub runs-mean-sources : RunsMeanSources
runs-mean-sources file program events =
    let x = files-have-shapes file program in
    let code = CodeOf file in
    let b = booked-run file program events in record {
      types = types file program x.0 b.0;
      of_file = refl;
      shaped = x.1;
      booked = b.1;
      meant = λ g. Every-weaker (HasLife code (types file program x.0 b.0)) (IsMeant file)
          (λ k h. live-meant file program x.0 b.0 k h) (book_of code events g) (b.1.always g);
      left_meant = Every-weaker (CallHasLeft code (types file program x.0 b.0)) (IsMeant file)
          (λ k h. live-meant file program x.0 b.0 k h.life) (left_of code events) b.1.left;
    }
