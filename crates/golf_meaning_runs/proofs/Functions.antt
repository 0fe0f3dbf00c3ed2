-- The functions of a file that break no rule are unfit by an answer alone.
-- For: `functions_fit`, src/lib.rt
-- By: induction over the lists of locals, of parameters and of statements
use Rattle.std.proofs.Common.{◌≡◌, ℕ, true, false, List, [], ◌∷◌, ◌++◌, map, Option, Some, None, refl, sym, ap, ◌∙◌}
use Rattle.std.proofs.Common.{subst}
use Rattle.std.proofs.lemmas.Bool.{and_parts, false≢true}
use Rattle.golf_syntax_trees.specs.declared.declarations.Receiver.{Receiver}
use Rattle.golf_syntax_trees.specs.declared.statements.Stmt.{Stmt}
use Rattle.golf_syntax_trees.specs.Statements.{stmts_good, stmt_form}
use Rattle.golf_data.specs.declared.value.Value.{Value}
use Rattle.golf_check_types.specs.declared.types.GoType.{GoType}
use Rattle.golf_check_types.specs.declared.locals.Local.{Local}
use Rattle.golf_check_types.specs.declared.scopes.Scope.{Scope}
use Rattle.golf_check_types.specs.Statements as W
use Rattle.golf_check_types.specs.Statements.{behind, walk}
use Rattle.golf_check_types.specs.Files.{outside, result_type, receiver_walk, parameter_walk, all_typed_names}
use Rattle.golf_check_types.specs.Files.{body_scope}
use Rattle.golf_model_typing.specs.Types.{Types}
use Rattle.golf_code_of.specs.declared.tables.Tables.{Tables}
use Rattle.golf_code_of.specs.Statements.{StatementPart}
use Rattle.golf_code_of.specs.Statements as L
use Rattle.golf_code_of.proofs.Walks.{statement}
use Rattle.golf_code_shapes.specs.FunctionLaws.{result_scope}
use Rattle.golf_code_shapes.proofs.Typings.{none-left, none-right}
use Rattle.golf_meaning_statements.specs.Flows.{Course, Flow}
use Rattle.golf_meaning_statements.specs.Steps.{parts, in_order}
use Rattle.golf_meaning_statements.specs.Statements.{step}
use Rattle.golf_meaning_statements.proofs.Stmts.{step-part}
use Rattle.golf_meaning_statements.specs.Functions.{named, begins, told_by}
use Rattle.golf_meaning_runs.specs.Sound.{NamesHaveValues}
use Rattle.golf_meaning_runs.specs.SoundFlows.{EndSound, FlowFits}
use Rattle.golf_meaning_runs.specs.TypingLaws.{ArgumentsFit, FunctionsAreSound}
use Rattle.golf_meaning_runs.proofs.Blocks.{EachFits, order-fits}
use Rattle.golf_meaning_runs.proofs.Statements.{right-stmt}
use Rattle.golf_meaning_source.specs.Operations.{Taking}

-- receiver and parameters have their arguments

abbrev types_of : List Local → List (Option GoType)
types_of ds = map (λ (d : Local). d.of_type) ds

types-append : (xs ys : List Local) → types_of (xs ++ ys) ≡ types_of xs ++ types_of ys
types-append [] ys = refl
types-append (x ∷ xs) ys = ap (λ os. x.of_type ∷ os) (types-append xs ys)

receiver-types : (l : ℕ) (file : Scope) (o : Option Receiver) (s : Scope)
    → types_of (receiver_walk l file o s).declares ≡ (receiver_walk l file o s).slots
receiver-types l file None s = refl
receiver-types l file (Some r) s = refl

parameter-types : (l : ℕ) (ps : List (List ℕ × Option GoType)) (s : Scope)
    → types_of (W.in_order (map (parameter_walk l) ps) s).declares ≡ (W.in_order (map (parameter_walk l) ps) s).slots
parameter-types l [] s = refl
parameter-types l (p ∷ ps) s = ap (λ os. p.1 ∷ os) (parameter-types l ps (behind s (parameter_walk l p s)))

module _ (taking : Taking) where
  names-given : (ds : List Local) (vs : List Value) → ArgumentsFit taking (types_of ds) vs
      → NamesHaveValues taking ds (named ds vs)
  names-given [] [] h = tt
  names-given [] (v ∷ vs) h = absurd h
  names-given (d ∷ ds) [] h = absurd h
  names-given (d ∷ ds) (v ∷ vs) h = (refl, h.0, names-given ds vs h.1)

  -- a body is in no loop
  told-sound : (r : Option GoType) (s : Scope) (after : List Local) (f : Flow) → s.breaks ≡ false → s.loops ≡ false
      → FlowFits taking s after f → EndSound taking.strict (told_by r f).end
  told-sound r s after (Flow.Goes Course.On env w) p q h = tt
  told-sound r s after (Flow.Goes Course.Breaks env w) p q h = absurd (false≢true (sym p ∙ h.0))
  told-sound r s after (Flow.Goes Course.Continues env w) p q h = absurd (false≢true (sym q ∙ h.0))
  told-sound r s after (Flow.Goes Course.Skips env w) p q h = h
  told-sound r s after (Flow.Ends t) p q h = h

  each-right : (types : Types) (t : Tables) (xs : List Stmt) → stmts_good (map stmt_form xs) ≡ true
      → EachFits taking types t (map (step taking t) xs)
  each-right types t [] g = tt
  each-right types t (x ∷ xs) g = let b =
      and_parts (stmt_form x).good (stmts_good (map stmt_form xs))
      g in (right-stmt taking types t x b.0, each-right types t xs b.1)

  walks-are : (t : Tables) (xs : List Stmt)
      → map (λ (p : StatementPart). p.walk) (parts (map (step taking t) xs)) ≡ map walk xs
  walks-are t [] = refl
  walks-are t (x ∷ xs) = ap (λ w. w ∷ map (λ (p : StatementPart). p.walk) (parts (map (step taking t) xs)))
      (ap (λ (p : StatementPart). p.walk) (step-part taking t x) ∙ statement t x)
      ∙ ap (λ ws. walk x ∷ ws) (walks-are t xs)

  pub functions-fit : FunctionsAreSound taking
  functions-fit types t names f k arguments answers n file ok given =
      let out = outside names in
      let s0 = result_scope out f in
      let r = receiver_walk f.line out f.receiver s0 in
      let s1 = behind s0 r in
      let ps = all_typed_names out f.parameters in
      let p = W.in_order (map (parameter_walk f.line) ps) s1 in
      let sb = body_scope out f in
      let same = types-append r.declares p.declares
      ∙ ap (λ os. os ++ types_of p.declares) (receiver-types f.line out f.receiver s0)
      ∙ ap (λ os. r.slots ++ os) (parameter-types f.line ps s1) in
      let fit = names-given sb.locals arguments (subst (λ os. ArgumentsFit taking os arguments) (sym same) given) in
      let later = none-right p.faults _ (none-right r.faults _ ok.none) in
      let clean = subst (λ ws. (W.in_order ws sb).faults ≡ []) (sym (walks-are t f.body))
      (none-left (W.in_order (map walk f.body) sb).faults _ later) in
      let flow = in_order (map (step taking t) f.body) (record { breaks = 0; continues = 0; functions = k }) sb n
      (named sb.locals arguments) (begins answers) in
      told-sound (result_type out f.result) sb
      (behind sb ((L.in_order (parts (map (step taking t) f.body))).walk sb)).locals flow refl refl
      (order-fits taking types t (map (step taking t) f.body) (each-right types t f.body ok.good)
      (record { breaks = 0; continues = 0; functions = k }) sb n (named sb.locals arguments)
      (begins answers) file fit clean)
