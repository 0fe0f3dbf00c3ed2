-- Statements one after the other, blocks, conditions and loops.
-- For: `FlowFits`, specs/Flowing.antt; `statements_fit`, src/lib.rt
-- By: induction over the list of statements; for one part, by how its flow is put together
use Rattle.std.proofs.Common.{◌≡◌, ℕ, Bool, true, List, [], ◌∷◌, ◌++◌, length, Option, Some, None, refl, sym, subst}
use Rattle.std.proofs.Common.{arith, append_assoc, append-nil}
use Rattle.golf_syntax_trees.specs.declared.expressions.Expr.{Expr}
use Rattle.golf_data.specs.declared.value.Value.{Value}
use Rattle.golf_check_types.specs.declared.locals.Local.{Local}
use Rattle.golf_check_types.specs.declared.scopes.Scope.{Scope}
use Rattle.golf_check_types.specs.Scopes.{begun}
use Rattle.golf_check_types.specs.Expressions.{used}
use Rattle.golf_check_types.specs.Judgments.{judge}
use Rattle.golf_check_types.specs.Statements as W
use Rattle.golf_check_types.specs.Statements.{Walk, Walked, behind}
use Rattle.golf_model_typing.specs.Types.{Types}
use Rattle.golf_code_of.specs.declared.tables.Tables.{Tables}
use Rattle.golf_code_of.specs.declared.surroundings.Around.{Around}
use Rattle.golf_code_of.specs.Statements as L
use Rattle.golf_code_of.specs.Statements.{StatementPart, past, within}
use Rattle.golf_code_shapes.proofs.Typings.{none-left, none-right, kept}
use Rattle.golf_meaning_flat.specs.Worlds.{World}
use Rattle.golf_meaning_source.specs.Names.{Env}
use Rattle.golf_meaning_source.specs.Operations.{Taking}
use Rattle.golf_meaning_statements.specs.Flows.{Course, Flow, on, cut, ends_here, or_else}
use Rattle.golf_meaning_statements.specs.Steps.{Deed, Step, nothing, then_deed, in_order, in_block, parts, value_at}
use Rattle.golf_meaning_statements.specs.Steps.{after_test, returned, return_deed, forever, while, in_loop}
use Rattle.golf_meaning_runs.specs.Sound.{NamesHaveValues, FileTaken}
use Rattle.golf_meaning_runs.specs.TypingLaws.{IsTruth}
use Rattle.golf_meaning_runs.specs.SoundFlows.{Fitting, BeginsWithLocals, Out, Never, FlowFits, StatementIsSound}
use Rattle.golf_meaning_runs.proofs.Operators.{conditions-decide}
use Rattle.golf_meaning_runs.proofs.NamesKept.{names-cut, begins-self, begins-on, begins-in}
use Rattle.golf_meaning_runs.proofs.Flows.{fitting-on, fitting-after, fitting-tested, fitting-as, fitting-then}
use Rattle.golf_meaning_runs.proofs.Flows.{fitting-cut, fitting-ends, fitting-else, fitting-turns}
use Rattle.golf_meaning_runs.proofs.Simples.{DealsFit, value-of, one-of}
use Rattle.golf_meaning_statements.specs.Steps.{Deals}

module _ (taking : Taking) where
  pub out-in : (b : Bool) (ds es : List Local) (env : Env) → Out taking b (ds ++ es) env → Out taking b ds env
  out-in b ds es env o = (o.0, begins-in taking ds es env o.1)

  pub out-self : (b : Bool) (ds : List Local) (env : Env) → (b ≡ true) × NamesHaveValues taking ds env
      → Out taking b ds env
  out-self b ds env o = (o.0, begins-self taking ds env o.1)

  pub quiet : (ds es : List Local) (env : Env) → es ≡ [] → NamesHaveValues taking ds env
      → NamesHaveValues taking (ds ++ es) env
  quiet ds es env e h = subst (λ xs. NamesHaveValues taking (ds ++ xs) env) (sym e)
      (subst (λ xs. NamesHaveValues taking xs env) (sym (append-nil ds)) h)

  pub loud : (ds es : List Local) (env : Env) → es ≡ [] → NamesHaveValues taking (ds ++ es) env
      → NamesHaveValues taking ds env
  loud ds es env e h = subst (λ xs. NamesHaveValues taking xs env) (append-nil ds)
      (subst (λ xs. NamesHaveValues taking (ds ++ xs) env) e h)

  -- in a block, all ways have the names of before
  abbrev pub Exact : Bool → List Local → Env → Type 0
  Exact b ds env = (b ≡ true) × NamesHaveValues taking ds env

  abbrev pub Exactly : Scope → Flow → Type 0
  Exactly s = Fitting taking (NamesHaveValues taking s.locals) (Exact s.breaks s.locals) (Exact s.loops s.locals) Never

  pub exact-fits : (s : Scope) (f : Flow) → Exactly s f → FlowFits taking s (s.locals ++ []) f
  exact-fits s f h = fitting-as taking (NamesHaveValues taking s.locals) (Exact s.breaks s.locals)
      (Exact s.loops s.locals) Never (NamesHaveValues taking (s.locals ++ [])) (Out taking s.breaks s.locals)
      (Out taking s.loops s.locals) Never f h
      (λ env k. quiet s.locals [] env refl k) (out-self s.breaks s.locals) (out-self s.loops s.locals) (λ env k. k)

  pub block-cut : (s : Scope) (env : Env) (f : Flow) → NamesHaveValues taking s.locals env
      → Fitting taking (BeginsWithLocals taking s.locals) (Out taking s.breaks s.locals)
      (Out taking s.loops s.locals) Never f
      → Exactly s (cut (length env) f)
  block-cut s env f fit h = fitting-cut taking (NamesHaveValues taking s.locals) (Exact s.breaks s.locals)
      (Exact s.loops s.locals) Never (BeginsWithLocals taking s.locals) (Out taking s.breaks s.locals)
      (Out taking s.loops s.locals) (length env) f h
      (λ e k. names-cut taking s.locals env e fit k) (λ e o. (o.0, names-cut taking s.locals env e fit o.1))
      (λ e o. (o.0, names-cut taking s.locals env e fit o.1))

  -- what a statement leaves begins with the names of before
  pub fits-begin : (s : Scope) (es : List Local) (f : Flow) → FlowFits taking s (s.locals ++ es) f
      → Fitting taking (BeginsWithLocals taking s.locals) (Out taking s.breaks s.locals)
      (Out taking s.loops s.locals) Never f
  fits-begin s es f h = fitting-as taking (NamesHaveValues taking (s.locals ++ es)) (Out taking s.breaks s.locals)
      (Out taking s.loops s.locals) Never (BeginsWithLocals taking s.locals) (Out taking s.breaks s.locals)
      (Out taking s.loops s.locals) Never f h
      (λ env k. begins-on taking s.locals es env k) (λ env k. k) (λ env k. k) (λ env k. k)

  -- a later statement, seen from before
  pub later-fits : (s : Scope) (v w : Walked) (f : Flow) → FlowFits taking (behind s v) (behind (behind s v) w).locals f
      → FlowFits taking s (behind s (W.both v w)).locals f
  later-fits s v w f h = fitting-as taking (NamesHaveValues taking (behind (behind s v) w).locals)
      (Out taking s.breaks (behind s v).locals) (Out taking s.loops (behind s v).locals) Never
      (NamesHaveValues taking (behind s (W.both v w)).locals) (Out taking s.breaks s.locals)
      (Out taking s.loops s.locals) Never f h
      (λ env k. subst (λ xs. NamesHaveValues taking xs env) (append_assoc s.locals v.declares w.declares) k)
      (out-in s.breaks s.locals v.declares) (out-in s.loops s.locals v.declares) (λ env k. k)

  -- after a test: if it is true this deed goes so, in every world, and if it is false these names stand
  pub record AfterTest (K B C S : Env → Type 0) (d : Deed) (a : Around) (s : Scope) (n : ℕ) (env : Env) : Type 0 where
    pub if_true : (x : World) → Fitting taking K B C S (d a s n env x)
    pub if_false : S env

  module _ (types : Types) (t : Tables) where
    abbrev pub Fits : Walk → Deed → Type 0
    Fits = StatementIsSound taking types t

    pub nothing-fits : Fits (λ s. W.nothing) nothing
    nothing-fits a s n env u file fit none = quiet s.locals [] env refl fit

    pub then-fits : (x : StatementPart) (w : Walk) (d e : Deed) → Fits x.walk d → Fits w e
        → Fits (W.then x.walk w) (then_deed x d e)
    then-fits x w d e hd he a s n env u file fit none =
        let v = x.walk s in
        let s1 = behind s v in
        let a1 = past a (x.lay a s) in
        fitting-then taking (NamesHaveValues taking (behind s (W.then x.walk w s)).locals)
        (Out taking s.breaks s.locals)
        (Out taking s.loops s.locals) Never (NamesHaveValues taking s1.locals) (d a s n env u) (e a1 s1 n)
        (hd a s n env u file fit (none-left v.faults _ none))
        (λ e1 u1 k. later-fits s v (w s1) (e a1 s1 n e1 u1) (he a1 s1 n e1 u1 file k (none-right v.faults _ none)))

    abbrev pub EachFits : List Step → Type 0
    EachFits [] = Unit {0}
    EachFits (x ∷ xs) = Fits x.part.walk x.deed × EachFits xs

    pub order-fits : (xs : List Step) → EachFits xs → Fits (L.in_order (parts xs)).walk (in_order xs)
    order-fits [] h = nothing-fits
    order-fits (x ∷ xs) h = then-fits x.part (L.in_order (parts xs)).walk x.deed (in_order xs) h.0 (order-fits xs h.1)

    -- blocks

    pub block-exact : (w : Walk) (d : Deed) → Fits w d → (a : Around) (s : Scope) (n : ℕ) (env : Env) (u : World)
        → FileTaken taking types t s.file → NamesHaveValues taking s.locals env → (W.in_block w s).faults ≡ []
        → Exactly s (in_block d a s n env u)
    block-exact w d h a s n env u file fit none =
        block-cut s env (d a (begun s) n env u) fit
        (fits-begin s (w (begun s)).declares (d a (begun s) n env u) (h a (begun s) n env u file fit none))

    pub block-fits : (w : Walk) (d : Deed) → Fits w d → Fits (W.in_block w) (in_block d)
    block-fits w d h a s n env u file fit none =
        exact-fits s (in_block d a s n env u) (block-exact w d h a s n env u file fit none)

    -- simple statements, which go on if they go anywhere

    abbrev pub Goes : Walk → Deed → Type 0
    Goes w d = (a : Around) (s : Scope) (n : ℕ) (env : Env) (u : World) → FileTaken taking types t s.file
        → NamesHaveValues taking s.locals env → (w s).faults ≡ []
        → Fitting taking (NamesHaveValues taking (behind s (w s)).locals) Never Never Never (d a s n env u)

    pub goes-fits : (w : Walk) (d : Deed) → Goes w d → Fits w d
    goes-fits w d h a s n env u file fit none =
        fitting-as taking (NamesHaveValues taking (behind s (w s)).locals) Never Never Never
        (NamesHaveValues taking (behind s (w s)).locals) (Out taking s.breaks s.locals)
        (Out taking s.loops s.locals) Never
        (d a s n env u) (h a s n env u file fit none)
        (λ e k. k) (λ e k. absurd k) (λ e k. absurd k) (λ e k. k)

    pub deals-go : (w : Walk) (d : Scope → Deals) → DealsFit taking types t w d → Goes w (λ a s n env u. on (d s env u))
    deals-go w d h a s n env u file fit none =
        fitting-on taking (NamesHaveValues taking (behind s (w s)).locals) Never Never Never (d s env u)
        (h s env u file fit none)

    pub nothing-goes : Goes (λ s. W.nothing) nothing
    nothing-goes a s n env u file fit none = quiet s.locals [] env refl fit

    -- return, break, continue

    pub return-fits : (l : ℕ) (o : Option Expr) → Fits (L.return_part t l o).walk (return_deed taking t l o)
    return-fits l None a s n env u file fit none = tt
    return-fits l (Some e) a s n env u file fit none =
        fitting-after taking (NamesHaveValues taking (behind s (W.returned l (Some e) s)).locals)
        (Out taking s.breaks s.locals) (Out taking s.loops s.locals) Never (value_at taking t l s e env u) returned
        (λ vs. length vs ≡ 1) (one-of taking types t l s env file fit e (none-left (used l (judge e l s)) _ none) u)
        gives
      where
        gives : (vs : List Value) (w : World) → length vs ≡ 1
            → Fitting taking (NamesHaveValues taking (behind s (W.returned l (Some e) s)).locals)
            (Out taking s.breaks s.locals) (Out taking s.loops s.locals) Never (returned vs w)
        gives [] w len = absurd (omega (arith, len))
        gives (v ∷ []) w len = tt
        gives (v ∷ (x ∷ vs)) w len = absurd (omega (arith, len))

    pub break-fits : (l : ℕ) → Fits (W.break_walk l) (λ a s n env w. Flow.Goes Course.Breaks env w)
    break-fits l a s n env u file fit none = (kept l 15 s.breaks none, begins-self taking s.locals env fit)

    pub continue-fits : (l : ℕ) → Fits (W.continue_walk l) (λ a s n env w. Flow.Goes Course.Continues env w)
    continue-fits l a s n env u file fit none = (kept l 15 s.loops none, begins-self taking s.locals env fit)

    -- conditions

    module _ (l : ℕ) (test : Expr) where
      pub test-fits : {K B C S : Env → Type 0} {d : Deed} {a : Around} {s : Scope} {n : ℕ} {env : Env} (u : World)
          → FileTaken taking types t s.file → NamesHaveValues taking s.locals env → (W.condition l test s).faults ≡ []
          → AfterTest K B C S d a s n env → Fitting taking K B C S (after_test taking t l test d a s n env u)
      test-fits {K} {B} {C} {S} {d} {a} {s} {n} {env} u file fit none next =
          fitting-after taking K B C S (value_at taking t l s test env u) _ (IsTruth taking)
          (conditions-decide taking l (judge test l s) (value_at taking t l s test env)
          (value-of taking types t l s env file fit test) none u)
          (λ vs x is. fitting-tested taking K B C S vs x (d a s n env x) (Flow.Goes Course.Skips env x) is
          (next.if_true x) next.if_false)

      module _ (x : StatementPart) (d : Deed) (hx : Fits x.walk d) (w : Walk) (e : Deed) (he : Fits w e) where
        abbrev pub First : Deed
        First = then_deed x d (after_test taking t l test (in_block e))

        abbrev pub Test : Walk
        Test = W.then x.walk (W.behind_test l test (W.in_block w))

        -- a simple statement, a condition and a block; if it is false, the names of the statement are there still
        pub first-fits : (a : Around) (s : Scope) (n : ℕ) (env : Env) (u : World) → FileTaken taking types t s.file
            → NamesHaveValues taking s.locals env → (Test s).faults ≡ []
            → Fitting taking (NamesHaveValues taking (behind s (x.walk s)).locals) (Out taking s.breaks s.locals)
            (Out taking s.loops s.locals) (NamesHaveValues taking (behind s (x.walk s)).locals) (First a s n env u)
        first-fits a s n env u file fit none =
            let v = x.walk s in
            let s1 = behind s v in
            let a1 = past a (x.lay a s) in
            let rest = none-right v.faults _ none in
            fitting-then taking (NamesHaveValues taking s1.locals) (Out taking s.breaks s.locals)
            (Out taking s.loops s.locals)
            (NamesHaveValues taking s1.locals) (NamesHaveValues taking s1.locals) (d a s n env u)
            (after_test taking t l test (in_block e) a1 s1 n) (hx a s n env u file fit (none-left v.faults _ none))
            (λ e1 u1 k.
            let next : AfterTest (NamesHaveValues taking s1.locals) (Out taking s.breaks s.locals)
            (Out taking s.loops s.locals) (NamesHaveValues taking s1.locals) (in_block e) a1 s1 n e1 = record {
              if_true = λ y.
                  fitting-as taking (NamesHaveValues taking s1.locals) (Exact s.breaks s1.locals)
                  (Exact s.loops s1.locals) Never (NamesHaveValues taking s1.locals) (Out taking s.breaks s.locals)
                  (Out taking s.loops s.locals) (NamesHaveValues taking s1.locals) (in_block e a1 s1 n e1 y)
                  (block-exact w e he a1 s1 n e1 y file k (none-right (W.condition l test s1).faults _ rest))
                  (λ z q. q) (λ z q. (q.0, begins-on taking s.locals v.declares z q.1))
                  (λ z q. (q.0, begins-on taking s.locals v.declares z q.1)) (λ z q. absurd q);
              if_false = k;
            } in
            test-fits u1 file k (none-left (W.condition l test s1).faults _ rest) next)

        pub if-fits : Fits (W.in_block Test) (in_block (λ a s n env u. ends_here (First (within 1 a) s n env u)))
        if-fits a s n env u file fit none =
            let r = begun s in
            let f = ends_here (First (within 1 a) r n env u) in
            exact-fits s (cut (length env) f) (block-cut s env f fit
            (fits-begin s (x.walk r).declares f
            (fitting-ends taking (NamesHaveValues taking (behind r (x.walk r)).locals) (Out taking s.breaks s.locals)
            (Out taking s.loops s.locals) Never (First (within 1 a) r n env u)
            (first-fits (within 1 a) r n env u file fit none))))

        pub else-fits : (y : StatementPart) (g : Deed) → Fits y.walk g → (p : Around → Scope → Around)
            → Fits (W.in_block (W.then Test y.walk))
            (in_block (λ a s n env u. or_else (First (within 2 a) s n env u)
            (λ e1 u1. ends_here (g (p a s) (behind s (Test s)) n e1 u1))))
        else-fits y g hy p a s n env u file fit none =
            let r = begun s in
            let v = x.walk r in
            let r1 = behind r (Test r) in
            let first = First (within 2 a) r n env u in
            let f = or_else first (λ e1 u1. ends_here (g (p a r) r1 n e1 u1)) in
            exact-fits s (cut (length env) f) (block-cut s env f fit
            (fitting-else taking (BeginsWithLocals taking s.locals) (Out taking s.breaks s.locals)
            (Out taking s.loops s.locals) Never (NamesHaveValues taking (s.locals ++ v.declares)) first
            (λ e1 u1. ends_here (g (p a r) r1 n e1 u1))
            (fitting-as taking (NamesHaveValues taking (s.locals ++ v.declares)) (Out taking s.breaks s.locals)
            (Out taking s.loops s.locals) (NamesHaveValues taking (s.locals ++ v.declares))
            (BeginsWithLocals taking s.locals)
            (Out taking s.breaks s.locals) (Out taking s.loops s.locals)
            (NamesHaveValues taking (s.locals ++ v.declares)) first
            (first-fits (within 2 a) r n env u file fit (none-left (Test r).faults _ none))
            (λ z q. begins-on taking s.locals v.declares z q) (λ z q. q) (λ z q. q) (λ z q. q))
            (λ e1 u1 k. fitting-ends taking (BeginsWithLocals taking s.locals) (Out taking s.breaks s.locals)
            (Out taking s.loops s.locals) Never (g (p a r) r1 n e1 u1)
            (fitting-as taking (NamesHaveValues taking (behind r1 (y.walk r1)).locals) (Out taking s.breaks r1.locals)
            (Out taking s.loops r1.locals) Never (BeginsWithLocals taking s.locals) (Out taking s.breaks s.locals)
            (Out taking s.loops s.locals) (BeginsWithLocals taking s.locals) (g (p a r) r1 n e1 u1)
            (hy (p a r) r1 n e1 u1 file (subst (λ ds. NamesHaveValues taking (s.locals ++ ds) e1)
            (sym (append-nil v.declares)) k) (none-right (Test r).faults _ none))
            (λ z q. begins-in taking s.locals (v.declares ++ []) z
            (begins-on taking r1.locals (y.walk r1).declares z q)) (out-in s.breaks s.locals (v.declares ++ []))
            (out-in s.loops s.locals (v.declares ++ [])) (λ z q. absurd q)))))

    -- loops

    module _ (w : Walk) (e : Deed) (he : Fits w e) where
      -- the body of a loop leaves the names of before on each way
      pub body-fits : (b c : ℕ) (a : Around) (s : Scope) (n : ℕ) (env : Env) (u : World)
          → FileTaken taking types t s.file → NamesHaveValues taking s.locals env
          → (W.looping (W.in_block w) s).faults ≡ []
          → Fitting taking (NamesHaveValues taking s.locals) (NamesHaveValues taking s.locals)
          (NamesHaveValues taking s.locals) Never
          (in_loop b c (in_block e) a s n env u)
      body-fits b c a s n env u file fit none =
          fitting-as taking (NamesHaveValues taking s.locals) (Exact true s.locals) (Exact true s.locals) Never
          (NamesHaveValues taking s.locals) (NamesHaveValues taking s.locals) (NamesHaveValues taking s.locals) Never
          (in_loop b c (in_block e) a s n env u)
          (block-exact w e he (record { breaks = b; continues = c; functions = a.functions })
          (record s { breaks = true; loops = true }) n env u file fit none) (λ z q. q) (λ z q. q.1) (λ z q. q.1)
          (λ z q. q)

      -- after a loop the names of before are there
      abbrev pub Leaves : Scope → Flow → Type 0
      Leaves s f = Fitting taking (NamesHaveValues taking s.locals) (Out taking s.breaks s.locals)
          (Out taking s.loops s.locals) Never f

      pub left-fits : (s : Scope) (es : List Local) (f : Flow) → es ≡ [] → Leaves s f
          → FlowFits taking s (s.locals ++ es) f
      left-fits s es f is h = fitting-as taking (NamesHaveValues taking s.locals) (Out taking s.breaks s.locals)
          (Out taking s.loops s.locals) Never (NamesHaveValues taking (s.locals ++ es)) (Out taking s.breaks s.locals)
          (Out taking s.loops s.locals) Never f h
          (λ z q. quiet s.locals es z is q) (λ z q. q) (λ z q. q) (λ z q. q)

      pub forever-fits : (b c : ℕ) → Fits (W.looping (W.in_block w)) (forever (in_loop b c (in_block e)))
      forever-fits b c a s n env u file fit none =
          left-fits s [] (forever (in_loop b c (in_block e)) a s n env u) refl
          (fitting-turns taking (NamesHaveValues taking s.locals) (Out taking s.breaks s.locals)
          (Out taking s.loops s.locals) Never (NamesHaveValues taking s.locals) (in_loop b c (in_block e) a s n)
          (λ e1 u1 k. fitting-as taking (NamesHaveValues taking s.locals) (NamesHaveValues taking s.locals)
          (NamesHaveValues taking s.locals) Never (NamesHaveValues taking s.locals) (NamesHaveValues taking s.locals)
          (NamesHaveValues taking s.locals) (NamesHaveValues taking s.locals) (in_loop b c (in_block e) a s n e1 u1)
          (body-fits b c a s n e1 u1 file k none) (λ z q. q) (λ z q. q) (λ z q. q) (λ z q. absurd q))
          n env u fit)

      pub while-fits : (b c l : ℕ) (test : Expr)
          → Fits (W.behind_test l test (W.looping (W.in_block w))) (while taking t l test (in_loop b c (in_block e)))
      while-fits b c l test a s n env u file fit none =
          left-fits s [] (while taking t l test (in_loop b c (in_block e)) a s n env u) refl
          (fitting-turns taking (NamesHaveValues taking s.locals) (Out taking s.breaks s.locals)
          (Out taking s.loops s.locals) Never (NamesHaveValues taking s.locals)
          (after_test taking t l test (in_loop b c (in_block e)) a s n)
          (λ e1 u1 k.
          let next : AfterTest (NamesHaveValues taking s.locals) (NamesHaveValues taking s.locals)
          (NamesHaveValues taking s.locals)
          (NamesHaveValues taking s.locals) (in_loop b c (in_block e)) a s n e1 = record {
            if_true = λ y.
                fitting-as taking (NamesHaveValues taking s.locals) (NamesHaveValues taking s.locals)
                (NamesHaveValues taking s.locals) Never
                (NamesHaveValues taking s.locals) (NamesHaveValues taking s.locals) (NamesHaveValues taking s.locals)
                (NamesHaveValues taking s.locals) (in_loop b c (in_block e) a s n e1 y)
                (body-fits b c a s n e1 y file k (none-right (W.condition l test s).faults _ none)) (λ z q. q)
                (λ z q. q) (λ z q. q) (λ z q. absurd q);
            if_false = k;
          } in
          test-fits l test u1 file k (none-left (W.condition l test s).faults _ none) next)
          n env u fit)
