-- What each kind of line means, worked out on small files: the status, and what standard output and standard error get.
use Rattle.std.proofs.Common.{◌≡◌, ℕ, zero, suc, false, List, [], ◌∷◌, Some, None, refl, lit<}
use Rattle.std.specs.Prelude.{codes, slice_get}
use Rattle.std.specs.Fmt.{digits}
use Rattle.golf_lex.proofs.Runs.{scans-lexes, fault-at}
use Rattle.golf_syntax_trees.specs.declared.declarations.Decl.TheVariants as d
use Rattle.golf_syntax_trees.specs.declared.declarations.File.{File}
use Rattle.golf_syntax_trees.specs.Reads.{most, Reads}
use Rattle.golf_check_types.specs.Files.{may_be_named, is_main, Broken, Typed}
use Rattle.golf_check_types.specs.Scopes.{is_reserved, type_name, value_name, call_name, package_name}
use Rattle.golf_code_layout.specs.Depth.{depth}
use Rattle.golf_live.specs.Live.{needed, live}
use Rattle.golf_code_of.specs.Texts.{texts_of}
use Rattle.golf_code_of.specs.Files.{CodeOf}
use Rattle.golf_reader.specs.Refusals.{IsUnlexed}
use Rattle.golf_command_sample.specs.File.{file as generated_file}
use Rattle.golf_command_sample_accepted.specs.Trees.{tree as generated_tree}
use Rattle.golf_command_sample_accepted.proofs.Heads.{tree-reads}
use Rattle.golf_command_sample_accepted.proofs.Lengths.{short}
use Rattle.golf_command_sample_accepted.proofs.Typing.{tree-typed}
use Rattle.golf_run_schedules.specs.declared.schedule.Schedule.{Schedule}
use Rattle.golf_command_words.specs.Words.{uses_after}
use Rattle.golf_command_words.specs.declared.line.CommandLine.{CommandLine}
use Rattle.golf_run_texts.specs.declared.status.Status.TheVariants as s
use Rattle.golf_run_texts.specs.Fixed.{usage_text}
use Rattle.golf_run_texts.specs.Texts.{history_line}
use Rattle.golf_run_texts.specs.Output.{events_of, last_of, out_of, reports_of, end_of, real_stops_of, err_of}
use Rattle.golf_run_texts.specs.Output.{status_of}
use Rattle.golf_command.specs.GeneratedRuns.{generated_options, generated_summary}
use Rattle.golf_command.specs.Ways.{Way, AreTurns, IsTurnAt, after_turns, history_options}
use Rattle.golf_command.specs.Promises.{Accepts, RefusedBy, WordsMean}

-- ---- a file whose `main` does nothing

abbrev small : List ℕ
small = codes "package main\n\nfunc main() {\n}\n"

abbrev tree : File
tree = record {
  imports = [];
  declarations = d.Func
      (record { line = 3; receiver = None; name = codes "main"; parameters = []; result = None; body = [] }) ∷ [];
}

reads : Reads small tree
unfolding most
reads = record {
  tokens = _;
  lexes = scans-lexes small _ refl;
  reads = record {
    prints = (
      (refl, tt),
      (
        (refl, tt),
        (
          (refl, tt),
          ((refl, refl), ((refl, tt), ((refl, tt), ((refl, tt), ((refl, tt), ((refl, tt), ((refl, tt), refl))))))),
        ),
      ),
    );
    form = record { good = refl; cost = refl };
  };
}

keeps : Typed tree
unfolding Broken is_main may_be_named is_reserved type_name value_name call_name package_name
keeps = refl

accepts : Accepts small tree
accepts = record { within = lit< tt; typed = record { tree = reads; keeps = keeps } }

-- ---- words that are no line

pub no_line : WordsMean (codes "run" ∷ codes "--turns" ∷ codes "0" ∷ []) (Some small) s.Usage [] usage_text
unfolding uses_after
no_line = WordsMean.Misused refl

-- ---- a run line

-- the program returns after three turns
pub run_line : WordsMean (codes "run" ∷ codes "--turns" ∷ codes "3" ∷ []) (Some small) s.Clean [] []
unfolding uses_after events_of last_of out_of reports_of end_of real_stops_of err_of status_of CodeOf texts_of depth
    is_main live needed
run_line = WordsMean.Goes (CommandLine.Run
    (record { schedule = Schedule.Rotate; turns = 3; every = None; markers = 1; recover = false; why = false })) small
    tree (Way.ByOptions _) refl refl accepts refl

-- it has not ended after two
pub spent_line : WordsMean (codes "run" ∷ codes "--turns" ∷ codes "2" ∷ []) (Some small) s.Spent []
    (codes "stopped after 2 turns\n")
unfolding uses_after events_of last_of out_of reports_of end_of real_stops_of err_of status_of CodeOf texts_of depth
    is_main live needed digits
spent_line = WordsMean.Goes (CommandLine.Run
    (record { schedule = Schedule.Rotate; turns = 2; every = None; markers = 1; recover = false; why = false })) small
    tree (Way.ByOptions _) refl refl accepts refl

-- ---- a refused file

-- `01` on line 2 is no integer
abbrev unlexed : List ℕ
unlexed = codes "package main\nvar n = 01\n"

refused : IsUnlexed unlexed 2 22
refused =
    let fault = fault-at unlexed 22 49 _ (lit< tt) refl refl refl in
    record { fault = fault; on = refl; none = λ file typed. fault.refused typed.tree.tokens typed.tree.lexes }

pub refused_line : WordsMean (codes "run" ∷ []) (Some unlexed) s.Refused [] (codes "refused: line 2: byte 22\n")
unfolding uses_after digits
refused_line = WordsMean.Refused (CommandLine.Run _) unlexed _ refl tt refl (RefusedBy.Unlexed 2 22 (lit< tt) refused)

-- ---- a threads line

-- with one goroutine the turn at place t has the number t, whichever thread takes it
abbrev numbers : List ℕ
numbers = 0 ∷ 1 ∷ 2 ∷ []

turn_at : (t n : ℕ) → slice_get numbers t ≡ Some n → IsTurnAt (CodeOf tree) 2 numbers t n
unfolding after_turns CodeOf texts_of depth is_main live needed
turn_at zero n e = record { thread = 0; is_one = lit< tt; number = cc; goes = refl }
turn_at (suc zero) n e = record { thread = 1; is_one = lit< tt; number = cc; goes = refl }
turn_at (suc (suc zero)) n e = record { thread = 0; is_one = lit< tt; number = cc; goes = refl }
turn_at (suc (suc (suc t))) n e = cc

all_turns : AreTurns (CodeOf tree) 2 numbers
unfolding after_turns events_of history_options CodeOf texts_of depth is_main live needed
all_turns = record { each = turn_at; few = lit< tt; whole = λ e. cc; events = refl }

pub threads_line : WordsMean (codes "run" ∷ codes "--threads" ∷ codes "2" ∷ []) (Some small) s.Clean []
    (codes "history: 0,1,2\n")
unfolding uses_after events_of last_of out_of reports_of end_of real_stops_of err_of status_of history_options
    history_line CodeOf texts_of depth is_main live needed digits
threads_line = WordsMean.Goes (CommandLine.Threads 2) small tree (Way.ByThreads numbers) refl refl accepts
    (numbers, refl, all_turns)

-- ---- a meaning line

pub meaning_line : WordsMean (codes "meaning" ∷ []) (Some small) s.Clean (codes "meaning: 1 functions agree\n") []
unfolding digits
meaning_line = WordsMean.Goes CommandLine.Meaning small tree (Way.Compared 1) refl refl accepts refl

-- ---- a generate line

generated_accepted : Accepts (generated_file 1) (generated_tree 1)
generated_accepted = record {
  within = short 1 (lit< tt);
  typed = record { tree = tree-reads 1 (lit< tt) (lit< tt); keeps = tree-typed 1 (lit< tt) };
}

-- the file of one part runs by the options of a generated file, whatever the source has; what its run comes to is not
-- worked out
pub generate_line : WordsMean (codes "generate" ∷ codes "1" ∷ []) None
    (status_of (CodeOf (generated_tree 1)) generated_options)
    (generated_summary 1 (CodeOf (generated_tree 1)))
    (end_of (CodeOf (generated_tree 1)) generated_options)
generate_line = WordsMean.Goes (CommandLine.Generate 1) (generated_file 1) (generated_tree 1)
    (Way.Generated 1) refl refl generated_accepted refl

-- no part is too few
pub no_parts : WordsMean (codes "generate" ∷ codes "0" ∷ []) None s.Usage [] usage_text
no_parts = WordsMean.Misused refl
