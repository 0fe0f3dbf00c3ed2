-- `select`: the operands of all clauses, and the clause that is chosen.
-- For: `select_deed`, golf_meaning_statements/specs/Selects.antt; `statements_fit`, src/lib.rt
-- By: induction over the list of clauses; cases of the communication
use Rattle.std.proofs.Common.{◌≡◌, ℕ, zero, suc, ◌+◌, ◌==◌, ◌<◌, Bool, true, false, cond, List, [], ◌∷◌, ◌++◌, length}
use Rattle.std.proofs.Common.{map, Option, Some, None, refl, sym, ap, ◌∙◌, subst, arith, append_assoc, append-nil}
use Rattle.std.proofs.lemmas.Bool.{eq-eqb, eqb-true, false≢true}
use Rattle.std.specs.Prelude.{is_some}
use Rattle.golf_syntax_trees.specs.declared.expressions.Expr.{Expr}
use Rattle.golf_syntax_trees.specs.declared.statements.Communication.{Communication}
use Rattle.golf_syntax_trees.specs.declared.statements.Communication.TheVariants as comm
use Rattle.golf_data.specs.declared.value.Value.{Value}
use Rattle.golf_data.specs.declared.code.Instr.{Instr}
use Rattle.golf_data.specs.declared.code.SelectCase.{SelectCase}
use Rattle.golf_data.specs.declared.code.CaseKind.{CaseKind}
use Rattle.golf_check_types.specs.declared.types.Base.TheVariants as base
use Rattle.golf_check_types.specs.declared.locals.Local.{Local}
use Rattle.golf_check_types.specs.declared.scopes.Scope.{Scope}
use Rattle.golf_check_types.specs.Faults.{broken}
use Rattle.golf_check_types.specs.Scopes.{begun}
use Rattle.golf_check_types.specs.Types.{plain, element}
use Rattle.golf_check_types.specs.Expressions.{Judged, used, given_by}
use Rattle.golf_check_types.specs.Judgments.{judge}
use Rattle.golf_check_types.specs.Statements as W
use Rattle.golf_check_types.specs.Statements.{Walked, behind, received, carried, bool_type, pair, pair_faults}
use Rattle.golf_check_types.specs.Statements.{assigned_name, assigned_faults, put_in_faults}
use Rattle.golf_model_typing.specs.Types.{ValueType, Types}
use Rattle.golf_data.specs.Effects.{case_taken, cases_taken, case_left}
use Rattle.golf_code_of.specs.declared.tables.Tables.{Tables}
use Rattle.golf_code_of.specs.declared.surroundings.Around.{Around}
use Rattle.golf_code_of.specs.Statements as L
use Rattle.golf_code_of.specs.Statements.{past}
use Rattle.golf_code_of.specs.Selects as K
use Rattle.golf_code_of.specs.Selects.{ClausePart, case_to, cases_from, default_or, default_from, in_clause}
use Rattle.golf_code_of.specs.Selects.{select_part}
use Rattle.golf_code_shapes.specs.Types.{value_type}
use Rattle.golf_code_shapes.proofs.Typings.{none-left, none-right, kept}
use Rattle.golf_check_types.proofs.NamesAlone.{judged-by-names}
use Rattle.golf_meaning_flat.specs.Worlds as V
use Rattle.golf_meaning_flat.specs.Worlds.{Answer, World, bind, asked, done}
use Rattle.golf_meaning_flat.specs.Counts.{clause_left, is_so_many, is_counted}
use Rattle.golf_meaning_flat.specs.InstructionEffects.{miscount, chosen_by, gets}
use Rattle.golf_meaning_source.specs.Names.{Env}
use Rattle.golf_meaning_source.specs.Operations as O
use Rattle.golf_meaning_source.specs.Operations.{Taking, all_fit}
use Rattle.golf_meaning_source.specs.Exprs.{dropped, store}
use Rattle.golf_meaning_statements.specs.Flows.{Flow, cut}
use Rattle.golf_meaning_statements.specs.Steps.{Step, declared, in_order, parts, then_deed, name_place, defines_pair}
use Rattle.golf_meaning_statements.specs.Steps.{value_at}
use Rattle.golf_meaning_statements.specs.Selects.{ClauseStep, operands_given, received_types, takes_in, communicates}
use Rattle.golf_meaning_statements.specs.Selects.{breaking, case_step, default_step, clause_parts, many, one_default}
use Rattle.golf_meaning_statements.specs.Selects.{out_of_select, chosen, chooses, select_deed}
use Rattle.golf_meaning_statements.proofs.Ranks.{OneDefault}
use Rattle.golf_meaning_statements.proofs.Numbers.{one-of as one-of-clauses}
use Rattle.golf_meaning_runs.specs.Sound.{SoundPart, NamesHaveValues, FileTaken, AllFit}
use Rattle.golf_meaning_runs.specs.Meets.{Many}
use Rattle.golf_meaning_runs.specs.SoundFlows.{Fitting, Out, Never}
use Rattle.golf_meaning_runs.proofs.ValueKinds.{one-fits}
use Rattle.golf_meaning_runs.proofs.Counts.{many-both}
use Rattle.golf_meaning_runs.proofs.NamesKept.{names-bound}
use Rattle.golf_meaning_runs.proofs.Given.{at-one, at-two, two-fit}
use Rattle.golf_meaning_runs.proofs.Flows.{fitting-on, fitting-after, fitting-if, fitting-guarded, fitting-as}
use Rattle.golf_meaning_runs.proofs.Flows.{fitting-then, fitting-select}
use Rattle.golf_meaning_runs.proofs.Simples.{still, one-of}
use Rattle.golf_meaning_runs.proofs.Stores.{receives, stores-assigned, defines-both}
use Rattle.golf_meaning_runs.proofs.Blocks.{out-in, out-self, quiet, loud, Exact, Exactly, block-cut, fits-begin}
use Rattle.golf_meaning_runs.proofs.Blocks.{Fits, EachFits, order-fits}

-- expressions are judged alike in two scopes
abbrev pub Alike : Scope → Scope → Type 0
Alike r s = (x : Expr) (l : ℕ) → judge x l s ≡ judge x l r

alike-begun : (s : Scope) → Alike s (begun s)
alike-begun s x l = judged-by-names (s.depth + 1) s.result s.breaks s.loops s.next x l s

-- after what declares nothing
alike-behind : (r s : Scope) (w : Walked) → w.declares ≡ [] → Alike r s → Alike r (behind s w)
alike-behind r s w e h x l =
    ap (λ ds. judge x l (record s { locals = s.locals ++ ds; next = (behind s w).next })) e
    ∙ ap (λ ls. judge x l (record s { locals = ls; next = (behind s w).next })) (append-nil s.locals)
    ∙ judged-by-names s.depth s.result s.breaks s.loops (behind s w).next x l s ∙ h x l

-- how many operands a clause has
abbrev pub taken_by : Option CaseKind → ℕ
taken_by None = 0
taken_by (Some kind) = case_taken kind

taken-first : (i : ℕ) (o : Option CaseKind) (cs : List SelectCase)
    → cases_taken (case_to i o ++ cs) ≡ taken_by o + cases_taken cs
taken-first i None cs = omega arith
taken-first i (Some kind) cs = refl

-- how many values it leaves
abbrev pub left_by : Option CaseKind → ℕ
left_by None = 0
left_by (Some kind) = case_left kind

-- How many values the answer has that names a clause.

neq-eqb : (m n : ℕ) → (m ≡ n → ⊥) → (m == n) ≡ false
neq-eqb m n other = by (m == n) refl
  where
    by : (b : Bool) → (m == n) ≡ b → b ≡ false
    by true e = absurd (other (eqb-true m n e))
    by false e = refl

-- among these no case has this number
later-left : (i k : ℕ) (cs : List ClausePart) (o : Option ℕ) → k < i
    → clause_left k (cases_from i cs) o ≡ clause_left k [] o
later-left i k [] o lt = refl
later-left i k (c ∷ cs) o lt = by c.kind (later-left (i + 1) k cs o (omega (arith, lt)))
  where
    unlike : i ≡ k → ⊥
    unlike e = omega (arith, lt, e)

    by : (q : Option CaseKind) → clause_left k (cases_from (i + 1) cs) o ≡ clause_left k [] o
        → clause_left k (case_to i q ++ cases_from (i + 1) cs) o ≡ clause_left k [] o
    by None e = e
    by (Some kind) e = ap (λ b. cond b (Some (case_left kind)) (clause_left k (cases_from (i + 1) cs) o))
        (neq-eqb i k unlike) ∙ e

-- a default that has another number
without-default : (i k : ℕ) (xs : List SelectCase) → (i ≡ k → ⊥) → clause_left k xs (Some i) ≡ clause_left k xs None
without-default i k [] other = ap (λ b. cond b (Some 0) None) (neq-eqb i k other)
without-default i k (c ∷ xs) other = ap (λ m. cond (c.target == k) (Some (case_left c.kind)) m)
    (without-default i k xs other)

-- so many values are left by the clause of this number, of these that are numbered from i on
abbrev LeftBy : ℕ → List ClausePart → ℕ → ℕ → Type 0
LeftBy i cs k n = clause_left k (cases_from i cs) (default_from i cs) ≡ Some n

number-of : (m n : ℕ) → Some m ≡ Some n → n ≡ m
number-of m n e = cc

first-left : (i n : ℕ) (c : ClausePart) (cs : List ClausePart) → LeftBy i (c ∷ cs) i n → n ≡ left_by c.kind
first-left i n c cs = by c.kind
  where
    by : (q : Option CaseKind) → clause_left i (case_to i q ++ cases_from (i + 1) cs)
        (default_or i q (default_from (i + 1) cs)) ≡ Some n → n ≡ left_by q
    by None e = number-of 0 n (sym (later-left (i + 1) i cs (Some i) (omega arith)
        ∙ ap (λ b. cond b (Some 0) None) (eq-eqb i i refl)) ∙ e)
    by (Some kind) e = number-of (case_left kind) n
        (sym (ap (λ b. cond b (Some (case_left kind)) (clause_left i (cases_from (i + 1) cs) (default_from (i + 1) cs)))
        (eq-eqb i i refl)) ∙ e)

next-left : (i k n : ℕ) (c : ClausePart) (cs : List ClausePart) → OneDefault (c ∷ cs) → i < k → LeftBy i (c ∷ cs) k n
    → LeftBy (i + 1) cs k n
next-left i k n c cs one lt = by c.kind refl
  where
    unlike : i ≡ k → ⊥
    unlike e = omega (arith, lt, e)

    by : (q : Option CaseKind) → c.kind ≡ q
        → clause_left k (case_to i q ++ cases_from (i + 1) cs) (default_or i q (default_from (i + 1) cs)) ≡ Some n
        → LeftBy (i + 1) cs k n
    by None is e = ap (λ o. clause_left k (cases_from (i + 1) cs) o) (one.0 is (i + 1))
        ∙ sym (without-default i k (cases_from (i + 1) cs) unlike) ∙ e
    by (Some kind) is e = sym (ap (λ b. cond b (Some (case_left kind))
        (clause_left k (cases_from (i + 1) cs) (default_from (i + 1) cs))) (neq-eqb i k unlike)) ∙ e

module _ (taking : Taking) where
  module _ (types : Types) (t : Tables) where
    pub record ClauseFits (c : ClauseStep) : Type 0 where
      pub calm : (l : ℕ) (s : Scope) → (c.part.walk l s).declares ≡ []
      pub leaves : (l : ℕ) (s : Scope) → length (c.leaves l s) ≡ left_by c.part.kind
      pub gives : (l : ℕ) (s r : Scope) (env : Env) → FileTaken taking types t r.file
          → NamesHaveValues taking r.locals env
          → Alike r s → (c.part.walk l s).faults ≡ [] → Many taking (taken_by c.part.kind) (c.operands l r env)
      pub does : (l : ℕ) (vs : List Value) (a : Around) (s : Scope) (n : ℕ) (env : Env) (u : World)
          → FileTaken taking types t s.file → NamesHaveValues taking s.locals env → (c.part.walk l s).faults ≡ []
          → AllFit taking (c.leaves l s) vs
          → Exactly taking (record s { breaks = true }) (c.deed l vs a s n env u)

    -- the names of before are there at the end of a clause
    clause-cut : (s : Scope) (env : Env) (es : List Local) (f : Flow) → NamesHaveValues taking s.locals env
        → Fitting taking (NamesHaveValues taking (s.locals ++ es)) (Out taking true s.locals)
        (Out taking s.loops s.locals) Never f → Exactly taking (record s { breaks = true }) (cut (length env) f)
    clause-cut s env es f fit h = block-cut taking (record s { breaks = true }) env f fit
        (fits-begin taking (record s { breaks = true }) es f h)

    pub default-fits : (k : ℕ) (xs : List Step) → EachFits taking types t xs → ClauseFits (default_step k xs)
    default-fits k xs each = record {
      calm = λ l s. refl;
      leaves = λ l s. refl;
      gives = λ l s r env file fit same none w. refl;
      does = λ l vs a s n env u file fit none holds.
          clause-cut s env ((L.in_order (parts xs)).walk (record (begun s) { breaks = true })).declares
          (breaking (in_order xs) a (begun s) n env u) fit
          (order-fits taking types t xs each a (record (begun s) { breaks = true }) n env u file fit none);
    }

    -- Communications.

    one-given : (l : ℕ) (e : Expr) (s r : Scope) (env : Env) → FileTaken taking types t r.file
        → NamesHaveValues taking r.locals env → Alike r s → used l (judge e l s) ≡ []
        → Many taking 1 (value_at taking t l r e env)
    one-given l e s r env file fit same none =
        one-of taking types t l r env file fit e (subst (λ (j : Judged). used l j ≡ []) (same e l) none)

    operands-fit : (c : Communication) (l k : ℕ) (s r : Scope) (env : Env) → FileTaken taking types t r.file
        → NamesHaveValues taking r.locals env → Alike r s → (W.communication l k c s).faults ≡ []
        → Many taking (case_taken (K.kind_of c)) (operands_given taking t c l r env)
    operands-fit (comm.Send c e) l k s r env file fit same none =
        let rest = none-right (used l (judge c l s)) _ none in
        many-both taking 1 1 _ _ (one-given l c s r env file fit same (none-left (used l (judge c l s)) _ none))
        (one-given l e s r env file fit same (none-left (used l (judge e l s)) _ rest))
    operands-fit (comm.Receive e) l k s r env file fit same none =
        one-given l e s r env file fit same (none-left (used l (judge e l s)) _ none)
    operands-fit (comm.Define n e) l k s r env file fit same none =
        one-given l e s r env file fit same (none-left (used l (judge e l s)) _
        (none-left (received l e s).faults _ none))
    operands-fit (comm.Assign n e) l k s r env file fit same none =
        one-given l e s r env file fit same (none-left (used l (judge e l s)) _
        (none-left (received l e s).faults _ none))
    operands-fit (comm.DefineReceived n m e) l k s r env file fit same none =
        one-given l e s r env file fit same (none-left (used l (judge e l s)) _
        (none-left (received l e s).faults _ none))

    module _ (l k : ℕ) (s : Scope) (env : Env) (file : FileTaken taking types t s.file)
        (fit : NamesHaveValues taking s.locals env) where
      pub takes-fit : (c : Communication) (vs : List Value) (w : World) → (W.communication l k c s).faults ≡ []
          → AllFit taking (received_types c l s) vs
          → SoundPart taking (NamesHaveValues taking (behind s (W.communication l k c s)).locals)
          (takes_in taking t c vs s env w)
      takes-fit (comm.Send c e) vs w none holds = quiet taking s.locals [] env refl fit
      takes-fit (comm.Receive e) vs w none holds =
          let r = receives taking types t l s file env fit e none in
          still taking s.locals (dropped env vs w)
          (at-one taking (value_type r.0) (λ us. SoundPart taking (NamesHaveValues taking s.locals) (dropped env us w))
          (λ v of. fit) vs (one-fits taking r.0 vs (subst (λ o. AllFit taking (o ∷ []) vs) r.1 holds)))
      takes-fit (comm.Define n e) vs w none holds =
          let r = receives taking types t l s file env fit e (none-left (received l e s).faults _ none) in
          subst (λ o. SoundPart taking (NamesHaveValues taking
          (behind s (W.both (received l e s) (W.define_name k n o s))).locals)
          (declared env n vs w)) (sym r.1)
          (at-one taking (value_type r.0) (λ us. SoundPart taking
          (NamesHaveValues taking (behind s (W.both (received l e s) (W.define_name k n (Some r.0) s))).locals)
          (declared env n us w)) (λ v of. names-bound taking s.locals s n (Some r.0) env v fit of) vs
          (one-fits taking r.0 vs (subst (λ o. AllFit taking (o ∷ []) vs) r.1 holds)))
      takes-fit (comm.Assign n e) vs w none holds =
          let r = receives taking types t l s file env fit e (none-left (received l e s).faults _ none) in
          let p = assigned_name s n in
          let clean = subst (λ o. assigned_faults k (assigned_name s n) o ≡ []) r.1
          (none-right (received l e s).faults _ none) in
          let rest = none-right (broken k 3 (is_some p)) _ clean in
          still taking s.locals (store taking env (name_place taking t s n env) vs w)
          (at-one taking (value_type r.0) (λ us. SoundPart taking (NamesHaveValues taking s.locals)
          (store taking env (name_place taking t s n env) us w))
          (λ v of. stores-assigned taking types t k s env file fit n r.0 v
          (kept k 3 _ (none-left (broken k 3 (is_some p)) _ clean))
          (none-left (put_in_faults k p (Some r.0)) _ rest)
          (kept k 10 _ (none-right (put_in_faults k p (Some r.0)) _ rest)) of w)
          vs (one-fits taking r.0 vs (subst (λ o. AllFit taking (o ∷ []) vs) r.1 holds)))
      takes-fit (comm.DefineReceived n m e) vs w none holds =
          let r = receives taking types t l s file env fit e (none-left (received l e s).faults _ none) in
          let faults = none-right (received l e s).faults _ none in
          let clean = subst (λ o. pair_faults k s n m o ≡ []) r.1
          (none-left (pair_faults k s n m (carried l e s)) _ faults) in
          subst (λ o. SoundPart taking (NamesHaveValues taking
          (behind s (W.both (received l e s) (pair k n m o s))).locals)
          (defines_pair taking t s n m env vs w)) (sym r.1)
          (at-two taking (value_type r.0) ValueType.Bool
          (λ us. SoundPart taking (NamesHaveValues taking
          (behind s (W.both (received l e s) (pair k n m (Some r.0) s))).locals)
          (defines_pair taking t s n m env us w))
          (λ x ok of isb. defines-both taking types t k s file n m r.0 env x ok fit clean of isb w)
          vs (two-fit taking r.0 (plain base.Bool) vs (subst (λ o. AllFit taking (o ∷ (bool_type ∷ [])) vs) r.1 holds)))

    received-left : (c : Communication) (l : ℕ) (s : Scope) → length (received_types c l s) ≡ case_left (K.kind_of c)
    received-left (comm.Send c e) l s = refl
    received-left (comm.Receive e) l s = refl
    received-left (comm.Define n e) l s = refl
    received-left (comm.Assign n e) l s = refl
    received-left (comm.DefineReceived n m e) l s = refl

    -- what is received has its types in the block of the clause
    types-alike : (c : Communication) (l : ℕ) (s : Scope) → received_types c l s ≡ received_types c l (begun s)
    types-alike (comm.Send c e) l s = refl
    types-alike (comm.Receive e) l s = ap (λ (j : Judged). element (given_by j) ∷ []) (sym (alike-begun s e l))
    types-alike (comm.Define n e) l s = ap (λ (j : Judged). element (given_by j) ∷ []) (sym (alike-begun s e l))
    types-alike (comm.Assign n e) l s = ap (λ (j : Judged). element (given_by j) ∷ []) (sym (alike-begun s e l))
    types-alike (comm.DefineReceived n m e) l s =
        ap (λ (j : Judged). element (given_by j) ∷ (bool_type ∷ [])) (sym (alike-begun s e l))

    pub case-fits : (k : ℕ) (c : Communication) (xs : List Step) → EachFits taking types t xs
        → ClauseFits (case_step taking t k c xs)
    case-fits k c xs each = record {
      calm = λ l s. refl;
      leaves = λ l s. received-left c l s;
      gives = λ l s r env file fit same none. operands-fit c l k (begun s) r env file fit
          (λ x m. alike-begun s x m ∙ same x m) (none-left (W.communication l k c (begun s)).faults _ none);
      does = λ l vs a s n env u file fit none holds. chosen-does l vs a s n env u file fit none
          (subst (λ ts. AllFit taking ts vs) (types-alike c l s) holds);
    }
      where
        chosen-does : (l : ℕ) (vs : List Value) (a : Around) (s : Scope) (n : ℕ) (env : Env) (u : World)
            → FileTaken taking types t s.file → NamesHaveValues taking s.locals env
            → ((case_step taking t k c xs).part.walk l s).faults ≡ [] → AllFit taking (received_types c l (begun s)) vs
            → Exactly taking (record s { breaks = true }) ((case_step taking t k c xs).deed l vs a s n env u)
        chosen-does l vs a s n env u file fit none holds =
            let r = begun s in
            let v = W.communication l k c r in
            let r1 = behind r v in
            let r2 = record r1 { breaks = true } in
            let walked = (L.in_order (parts xs)).walk r2 in
            let a1 = past a ((K.communication t l k c).lay a r) in
            let f = then_deed (K.communication t l k c) (communicates taking t c vs)
            (breaking (in_order xs)) a r n env u in
            clause-cut s env (v.declares ++ walked.declares) f fit
            (fitting-then taking (NamesHaveValues taking (s.locals ++ (v.declares ++ walked.declares)))
            (Out taking true s.locals) (Out taking s.loops s.locals) Never (NamesHaveValues taking r1.locals)
            (communicates taking t c vs a r n env u) (breaking (in_order xs) a1 r1 n)
            (fitting-on taking (NamesHaveValues taking r1.locals) (Out taking true s.locals)
            (Out taking s.loops s.locals) Never (takes_in taking t c vs r env u)
            (takes-fit l k r env file fit c vs u (none-left v.faults _ none) holds))
            (λ e1 u1 q. fitting-as taking (NamesHaveValues taking (behind r2 walked).locals) (Out taking true r2.locals)
            (Out taking s.loops r2.locals) Never (NamesHaveValues taking (s.locals ++ (v.declares ++ walked.declares)))
            (Out taking true s.locals) (Out taking s.loops s.locals) Never (breaking (in_order xs) a1 r1 n e1 u1)
            (order-fits taking types t xs each a1 r2 n e1 u1 file q (none-right v.faults _ none))
            (λ z p. subst (λ ds. NamesHaveValues taking ds z) (append_assoc s.locals v.declares walked.declares) p)
            (out-in taking true s.locals v.declares) (out-in taking s.loops s.locals v.declares) (λ z p. p)))

    -- All clauses.

    abbrev pub EachClause : List ClauseStep → Type 0
    EachClause [] = Unit {0}
    EachClause (c ∷ cs) = ClauseFits c × EachClause cs

    abbrev walked : ℕ → List ClauseStep → W.Walk
    walked l cs = W.in_order (map (λ (c : ClausePart). c.walk l) (clause_parts cs))

    calm-all : (l : ℕ) (cs : List ClauseStep) → EachClause cs → (s : Scope) → (walked l cs s).declares ≡ []
    calm-all l [] each s = refl
    calm-all l (c ∷ cs) each s = ap (λ ds. ds ++ (walked l cs (behind s (c.part.walk l s))).declares) (each.0.calm l s)
        ∙ calm-all l cs each.1 (behind s (c.part.walk l s))

    all-given : (l : ℕ) (cs : List ClauseStep) → EachClause cs → (s r : Scope) (env : Env)
        → FileTaken taking types t r.file → NamesHaveValues taking r.locals env → Alike r s
        → (walked l cs s).faults ≡ []
        → (i : ℕ) → Many taking (cases_taken (cases_from i (clause_parts cs)))
        (O.in_order (map (λ (c : ClauseStep). c.operands l r env) cs))
    all-given l [] each s r env file fit same none i = λ w. refl
    all-given l (c ∷ cs) each s r env file fit same none i =
        let v = c.part.walk l s in
        subst (λ n. Many taking n (O.in_order (map (λ (d : ClauseStep). d.operands l r env) (c ∷ cs))))
        (sym (taken-first i c.part.kind (cases_from (i + 1) (clause_parts cs))))
        (many-both taking (taken_by c.part.kind) (cases_taken (cases_from (i + 1) (clause_parts cs)))
        (c.operands l r env) (O.in_order (map (λ (d : ClauseStep). d.operands l r env) cs))
        (each.0.gives l s r env file fit same (none-left v.faults _ none))
        (all-given l cs each.1 (behind s v) r env file fit (alike-behind r s v (each.0.calm l s) same)
        (none-right v.faults _ none) (i + 1)))

    -- clauses are walked in a scope where the file and the names fit, and break no rule
    record Clean (l : ℕ) (cs : List ClauseStep) (s : Scope) (env : Env) : Type 0 where
      file : FileTaken taking types t s.file
      names : NamesHaveValues taking s.locals env
      none : (walked l cs s).faults ≡ []

    -- the clause at place k of those that are numbered from i on, with as many values as it leaves
    chosen-fits : {l : ℕ} {s : Scope} {env : Env} (i k : ℕ) (vs : List Value) (cs : List ClauseStep) → EachClause cs
        → OneDefault (clause_parts cs) → LeftBy i (clause_parts cs) (i + k) (length vs)
        → (a : Around) (n : ℕ) (u : World) → Clean l cs s env
        → Fitting taking (NamesHaveValues taking s.locals) (NamesHaveValues taking s.locals)
        (Exact taking s.loops s.locals) Never
        (chosen taking l k vs cs a s n env u)
    chosen-fits {l} {s} {env} i k vs [] each one left a n u clean = absurd (none-is left)
      where
        none-is : ◌≡◌ {A = Option ℕ} None (Some (length vs)) → ⊥
        none-is e = cc
    chosen-fits {l} {s} {env} i zero vs (c ∷ cs) each one left a n u clean =
        let here : LeftBy i (c.part ∷ clause_parts cs) i (length vs) =
        subst (λ z. LeftBy i (c.part ∷ clause_parts cs) z (length vs)) (omega arith) left in
        let long : length vs ≡ length (c.leaves l s) = first-left i (length vs) c.part (clause_parts cs) here
        ∙ sym (each.0.leaves l s) in
        fitting-guarded taking (NamesHaveValues taking s.locals) (NamesHaveValues taking s.locals)
        (Exact taking s.loops s.locals) Never (length vs == length (c.leaves l s)) u _
        (eq-eqb (length vs) (length (c.leaves l s)) long)
        (fitting-if taking (NamesHaveValues taking s.locals) (NamesHaveValues taking s.locals)
        (Exact taking s.loops s.locals) Never
        (all_fit (c.leaves l s) vs) taking.strict u (c.deed l vs (in_clause (many cs) a) s n env u) refl
        (λ holds. fitting-as taking (NamesHaveValues taking s.locals) (Exact taking true s.locals)
        (Exact taking s.loops s.locals) Never (NamesHaveValues taking s.locals) (NamesHaveValues taking s.locals)
        (Exact taking s.loops s.locals) Never (c.deed l vs (in_clause (many cs) a) s n env u)
        (each.0.does l vs (in_clause (many cs) a) s n env u clean.file clean.names
        (none-left (c.part.walk l s).faults _ clean.none) (long, holds)) (λ z p. p) (λ z p. p.1) (λ z p. p)
        (λ z p. p)))
    chosen-fits {l} {s} {env} i (suc k) vs (c ∷ cs) each one left a n u clean =
        let v = c.part.walk l s in
        let calm = each.0.calm l s in
        let a1 = past a (c.part.lay l (in_clause (many cs) a) s) in
        let s1 = behind s v in
        let rest : Clean l cs s1 env = record {
          file = clean.file;
          names = quiet taking s.locals v.declares env calm clean.names;
          none = none-right v.faults _ clean.none;
        } in
        let later : LeftBy (i + 1) (clause_parts cs) (i + 1 + k) (length vs) =
        subst (λ z. LeftBy (i + 1) (clause_parts cs) z (length vs)) (omega arith)
        (next-left i (i + suc k) (length vs) c.part (clause_parts cs) one (omega arith) left) in
        fitting-as taking (NamesHaveValues taking s1.locals) (NamesHaveValues taking s1.locals)
        (Exact taking s.loops s1.locals) Never
        (NamesHaveValues taking s.locals) (NamesHaveValues taking s.locals) (Exact taking s.loops s.locals) Never
        (chosen taking l k vs cs a1 s1 n env u)
        (chosen-fits {s = s1} (i + 1) k vs cs each.1 one.1 later a1 n u rest)
        (λ z. loud taking s.locals v.declares z calm) (λ z. loud taking s.locals v.declares z calm)
        (λ z p. (p.0, loud taking s.locals v.declares z calm p.1)) (λ z p. p)

    pub select-fits : (l : ℕ) (cs : List ClauseStep) → EachClause cs → one_default (clause_parts cs) ≡ true
        → Fits taking types t (select_part l (clause_parts cs)).walk (select_deed taking l cs)
    select-fits l cs each one a s n env u file fit none =
        fitting-as taking (NamesHaveValues taking s.locals) (Out taking s.breaks s.locals)
        (Out taking s.loops s.locals) Never
        (NamesHaveValues taking (s.locals ++ (walked l cs s).declares)) (Out taking s.breaks s.locals)
        (Out taking s.loops s.locals) Never (select_deed taking l cs a s n env u)
        (fitting-guarded taking (NamesHaveValues taking s.locals) (Out taking s.breaks s.locals)
        (Out taking s.loops s.locals) Never (one_default (clause_parts cs)) u _ one
        (fitting-after taking (NamesHaveValues taking s.locals) (Out taking s.breaks s.locals)
        (Out taking s.loops s.locals) Never (O.in_order (map (λ (c : ClauseStep). c.operands l s env) cs) u)
        (λ vs v. chooses taking l cs vs a s n env v)
        (λ vs. length vs ≡ cases_taken (cases_from 0 (clause_parts cs)))
        (all-given l cs each s s env file fit (λ x m. refl) none 0 u)
        (λ vs v len. fitting-guarded taking (NamesHaveValues taking s.locals) (Out taking s.breaks s.locals)
        (Out taking s.loops s.locals) Never (length vs == cases_taken (cases_from 0 (clause_parts cs))) v _
        (eq-eqb (length vs) (cases_taken (cases_from 0 (clause_parts cs))) len)
        (fitting-after taking (NamesHaveValues taking s.locals) (Out taking s.breaks s.locals)
        (Out taking s.loops s.locals) Never (gets taking.gives
        (Instr.Select (cases_from 0 (clause_parts cs)) (default_from 0 (clause_parts cs))) vs v)
        (λ x y. out_of_select (chosen taking l x.clause x.values cs a s n env y))
        (λ x. LeftBy 0 (clause_parts cs) x.clause (length x.values))
        (any v vs v.answers) taken))))
        (λ z. quiet taking s.locals (walked l cs s).declares z (calm-all l cs each s)) (λ z p. p) (λ z p. p) (λ z p. p)
      where
        counted : (x : Answer) (m : Option ℕ) → is_so_many m (length x.values) ≡ true → m ≡ Some (length x.values)
        counted x None e = absurd (false≢true e)
        counted x (Some n) e = ap (λ z. Some z) (eqb-true n (length x.values) e)

        fits : (x : Answer) (u : World) (b : Bool)
            → is_counted taking.gives (Instr.Select (cases_from 0 (clause_parts cs)) (default_from 0 (clause_parts cs)))
            x ≡ b → SoundPart taking (λ (y : Answer). LeftBy 0 (clause_parts cs) y.clause (length y.values))
            (chosen_by b (V.Part.Gives x u) (miscount u))
        fits x u true e = counted x (clause_left x.clause (cases_from 0 (clause_parts cs))
            (default_from 0 (clause_parts cs))) e
        fits x u false e = tt

        any : (v : World) (vs : List Value) (answers : List Answer)
            → SoundPart taking (λ (x : Answer). LeftBy 0 (clause_parts cs) x.clause (length x.values))
            (bind (asked answers (done v (Instr.Select (cases_from 0 (clause_parts cs))
            (default_from 0 (clause_parts cs))) vs))
            (λ x u. chosen_by (is_counted taking.gives
            (Instr.Select (cases_from 0 (clause_parts cs)) (default_from 0 (clause_parts cs))) x) (V.Part.Gives x u)
            (miscount u)))
        any v vs [] = tt
        any v vs (x ∷ later) = fits x (record {
          answers = later;
          operations = done v (Instr.Select (cases_from 0 (clause_parts cs)) (default_from 0 (clause_parts cs))) vs;
        })
            (is_counted taking.gives (Instr.Select (cases_from 0 (clause_parts cs)) (default_from 0 (clause_parts cs)))
            x) refl

        taken : (x : Answer) (y : World) → LeftBy 0 (clause_parts cs) x.clause (length x.values)
            → Fitting taking (NamesHaveValues taking s.locals) (Out taking s.breaks s.locals)
            (Out taking s.loops s.locals) Never (out_of_select (chosen taking l x.clause x.values cs a s n env y))
        taken x y left =
            let clean : Clean l cs s env = record { file = file; names = fit; none = none } in
            fitting-select taking (NamesHaveValues taking s.locals) (Out taking s.breaks s.locals)
            (Out taking s.loops s.locals) Never (chosen taking l x.clause x.values cs a s n env y)
            (fitting-as taking (NamesHaveValues taking s.locals) (NamesHaveValues taking s.locals)
            (Exact taking s.loops s.locals) Never (NamesHaveValues taking s.locals) (NamesHaveValues taking s.locals)
            (Out taking s.loops s.locals) Never (chosen taking l x.clause x.values cs a s n env y)
            (chosen-fits 0 x.clause x.values cs each (one-of-clauses (clause_parts cs) one)
            (subst (λ z. LeftBy 0 (clause_parts cs) z (length x.values)) (omega arith) left) a n y clean) (λ z p. p)
            (λ z p. p) (out-self taking s.loops s.locals) (λ z p. p))
