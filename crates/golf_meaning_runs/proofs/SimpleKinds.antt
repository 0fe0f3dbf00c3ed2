-- Each kind of simple statement, variables, and loops with steps.
-- For: `statements_fit`, src/lib.rt
-- By: cases of the kind of statement; no induction
use Rattle.std.proofs.Common.{◌≡◌, ℕ, true, not, List, [], ◌∷◌, ◌++◌, Option, Some, None, refl, sym, ap, ◌∙◌, subst}
use Rattle.std.proofs.lemmas.Bool.{and_parts}
use Rattle.golf_syntax_trees.specs.declared.expressions.Expr.{Expr}
use Rattle.golf_syntax_trees.specs.declared.statements.UpdateOperator.TheVariants as update
use Rattle.golf_syntax_trees.specs.declared.statements.Simple.{Simple}
use Rattle.golf_syntax_trees.specs.declared.statements.SimpleKind.{SimpleKind}
use Rattle.golf_syntax_trees.specs.declared.statements.SimpleKind.TheVariants as simple
use Rattle.golf_syntax_trees.specs.declared.statements.VarContent.{VarContent}
use Rattle.golf_syntax_trees.specs.Simple.{simple_form, header_simple, post_simple, all_of}
use Rattle.golf_data.specs.declared.code.Instr.{Instr}
use Rattle.golf_check_types.specs.declared.types.GoType.{GoType}
use Rattle.golf_check_types.specs.declared.scopes.Scope.{Scope}
use Rattle.golf_check_types.specs.Statements as W
use Rattle.golf_check_types.specs.Statements.{Walk, behind, carried, received, pair, pair_faults, bool_type}
use Rattle.golf_check_types.specs.Statements.{assigned_name, assigned_pair_faults}
use Rattle.golf_model_typing.specs.Types.{ValueType, Types}
use Rattle.golf_code_of.specs.declared.tables.Tables.{Tables}
use Rattle.golf_code_of.specs.declared.surroundings.Around.{Around}
use Rattle.golf_code_of.specs.Statements as L
use Rattle.golf_code_of.specs.Statements.{past}
use Rattle.golf_code_shapes.specs.Types.{value_type}
use Rattle.golf_code_shapes.proofs.Typings.{none-left, none-right}
use Rattle.golf_meaning_flat.specs.Worlds.{World, bind}
use Rattle.golf_meaning_source.specs.Names.{Env}
use Rattle.golf_meaning_source.specs.Operations.{Taking, visible}
use Rattle.golf_meaning_statements.specs.Steps.{Deed, declared, first_value, var_deed, simple_deals, simple_deed}
use Rattle.golf_meaning_statements.specs.Steps.{optional, value_at, stores_pair, defines_pair, in_block, in_loop}
use Rattle.golf_meaning_statements.specs.Steps.{is_plain, is_plain_kind, after_optional, with_post, stepping}
use Rattle.golf_meaning_runs.specs.Sound.{SoundPart, Yields, NamesHaveValues, FileTaken}
use Rattle.golf_meaning_runs.specs.SoundFlows.{Fitting, Out, Never}
use Rattle.golf_meaning_runs.proofs.Flows.{fitting-guarded, fitting-as, fitting-turns, fitting-post}
use Rattle.golf_meaning_runs.proofs.Simples.{DealsFit, still, acts, sends, assigns-to, steps-on, updates-by, defines}
use Rattle.golf_meaning_runs.proofs.Simples.{begins}
use Rattle.golf_meaning_runs.proofs.Stores.{defines-both, assigns-both, receives, receiving}
use Rattle.golf_meaning_runs.proofs.Blocks.{AfterTest, quiet, loud, Fits, Goes, goes-fits, deals-go, nothing-goes}
use Rattle.golf_meaning_runs.proofs.Blocks.{test-fits, body-fits, left-fits}

-- a post statement declares nothing

quiet-kind : (l : ℕ) (x : SimpleKind) (s : Scope) → not (simple_form x).defines ≡ true
    → ((W.simple_kind l x s).declares ≡ []) × (is_plain_kind x ≡ true)
quiet-kind l (simple.Define n e) s h = cc
quiet-kind l (simple.DefineReceived n m e) s h = cc
quiet-kind l _ s h = (refl, refl)

pub quiet-post : (t : Tables) (o : Option Simple) (s : Scope) → all_of post_simple o ≡ true
    → (((L.optional t o).walk s).declares ≡ []) × (is_plain o ≡ true)
quiet-post t None s h = (refl, refl)
quiet-post t (Some x) s h = quiet-kind x.line x.kind s
    (and_parts (header_simple x) (not (simple_form x.kind).defines) h).1

module _ (taking : Taking) where
  module _ (types : Types) (t : Tables) where
    abbrev Deals : Walk → ℕ → SimpleKind → Type 0
    Deals w l x = DealsFit taking types t w (λ s. simple_deals taking t l x s)

    define-received : (l : ℕ) (n m : List ℕ) (e : Expr)
        → Deals (W.define_received l l n m e) l (simple.DefineReceived n m e)
    define-received l n m e s env w file fit none =
        let r = receives taking types t l s file env fit e (none-left (received l e s).faults _ none) in
        moved r.0 r.1 r.2 (none-right (received l e s).faults _ none)
      where
        moved : (v : GoType) → carried l e s ≡ Some v
            → Yields taking (ValueType.Chan (value_type v)) (value_at taking t l s e env)
            → (pair l n m (carried l e s) s).faults ≡ []
            → SoundPart taking (NamesHaveValues taking (behind s (W.define_received l l n m e s)).locals)
            (simple_deals taking t l (simple.DefineReceived n m e) s env w)
        moved v is h faults =
            let clean = subst (λ o. pair_faults l s n m o ≡ []) is
            (none-left (pair_faults l s n m (carried l e s)) _ faults) in
            subst (λ o. SoundPart taking (NamesHaveValues taking
            (behind s (W.both (received l e s) (pair l n m o s))).locals)
            (bind (value_at taking t l s e env w)
            (λ vs u. bind (visible taking Instr.ReceiveOk (o ∷ (bool_type ∷ [])) vs u)
            (defines_pair taking t s n m env)))) (sym is)
            (receiving taking types t l s file env fit e v
            (NamesHaveValues taking (behind s (pair l n m (Some v) s)).locals)
            (defines_pair taking t s n m env) h
            (λ x ok of isb u. defines-both taking types t l s file n m v env x ok fit clean of isb u) w)

    assign-received : (l : ℕ) (n m : List ℕ) (e : Expr)
        → Deals (W.assign_received l n m e) l (simple.AssignReceived n m e)
    assign-received l n m e s env w file fit none =
        let r = receives taking types t l s file env fit e (none-left (received l e s).faults _ none) in
        still taking s.locals _ (moved r.0 r.1 r.2 (none-right (received l e s).faults _ none))
      where
        moved : (v : GoType) → carried l e s ≡ Some v
            → Yields taking (ValueType.Chan (value_type v)) (value_at taking t l s e env)
            → assigned_pair_faults l (assigned_name s n) (assigned_name s m) (carried l e s) ≡ []
            → SoundPart taking (NamesHaveValues taking s.locals)
            (simple_deals taking t l (simple.AssignReceived n m e) s env w)
        moved v is h faults =
            let clean = subst (λ o. assigned_pair_faults l (assigned_name s n) (assigned_name s m) o ≡ []) is faults in
            subst (λ o. SoundPart taking (NamesHaveValues taking s.locals)
            (bind (value_at taking t l s e env w)
            (λ vs u. bind (visible taking Instr.ReceiveOk (o ∷ (bool_type ∷ [])) vs u)
            (stores_pair taking t s n m env)))) (sym is)
            (receiving taking types t l s file env fit e v (NamesHaveValues taking s.locals)
            (stores_pair taking t s n m env) h
            (λ x ok of isb u. assigns-both taking types t l s file n m v env x ok fit clean of isb u) w)

    pub kind-fits : (l : ℕ) (x : SimpleKind) → Deals (W.simple_kind l x) l x
    kind-fits l (simple.Expression e) s env w file fit none =
        still taking s.locals _ (acts taking types t l s env file fit e w none)
    kind-fits l (simple.Send c e) s env w file fit none =
        still taking s.locals _ (sends taking types t l s env file fit c e w none)
    kind-fits l (simple.Increment p) s env w file fit none =
        still taking s.locals _ (steps-on taking types t l s env file fit p update.Add w none)
    kind-fits l (simple.Decrement p) s env w file fit none =
        still taking s.locals _ (steps-on taking types t l s env file fit p update.Subtract w none)
    kind-fits l (simple.Assign p e) s env w file fit none =
        still taking s.locals _ (assigns-to taking types t l s env file fit p e w none)
    kind-fits l (simple.Update p o e) s env w file fit none =
        still taking s.locals _ (updates-by taking types t l s env file fit p o e w none)
    kind-fits l (simple.Define n e) s env w file fit none = defines taking types t l s env file fit n e w none
    kind-fits l (simple.DefineReceived n m e) s env w file fit none = define-received l n m e s env w file fit none
    kind-fits l (simple.AssignReceived n m e) s env w file fit none = assign-received l n m e s env w file fit none

    pub simple-goes : (x : Simple) → Goes taking types t (W.simple_walk x) (simple_deed taking t x)
    simple-goes x = deals-go taking types t (W.simple_walk x) (λ s. simple_deals taking t x.line x.kind s)
        (kind-fits x.line x.kind)

    pub simple-fits : (x : Simple) → Fits taking types t (W.simple_walk x) (simple_deed taking t x)
    simple-fits x = goes-fits taking types t (W.simple_walk x) (simple_deed taking t x) (simple-goes x)

    pub optional-goes : (o : Option Simple) → Goes taking types t (L.optional t o).walk (optional taking t o)
    optional-goes None = nothing-goes taking types t
    optional-goes (Some x) = simple-goes x

    pub optional-fits : (o : Option Simple) → Fits taking types t (L.optional t o).walk (optional taking t o)
    optional-fits o = goes-fits taking types t (L.optional t o).walk (optional taking t o) (optional-goes o)

    pub var-fits : (l : ℕ) (n : List ℕ) (x : VarContent)
        → Fits taking types t (W.var_content l n x) (var_deed taking t l n x)
    var-fits l n x = goes-fits taking types t (W.var_content l n x) (var_deed taking t l n x)
        (deals-go taking types t (W.var_content l n x)
        (λ s env w. bind (first_value taking t l x s env w) (declared env n))
        (λ s env w file fit none. begins taking types t l s env file fit n x w none))

    -- a test that may be missing

    optional-tested : {K B C S : Env → Type 0} {d : Deed} {a : Around} {s : Scope} {n : ℕ} {env : Env} (l : ℕ)
        (o : Option Expr) (u : World) → FileTaken taking types t s.file → NamesHaveValues taking s.locals env
        → (W.optional_test l o s).faults ≡ [] → AfterTest taking K B C S d a s n env
        → Fitting taking K B C S (after_optional taking t l o d a s n env u)
    optional-tested l None u file fit none next = next.if_true u
    optional-tested l (Some e) u file fit none next = test-fits taking types t l e u file fit none next

    -- test, body, post statement
    pub stepping-fits : (b c l : ℕ) (test : Option Expr) (post : Option Simple) → all_of post_simple post ≡ true
        → (w : Walk) (e : Deed) → Fits taking types t w e
        → Fits taking types t (W.behind_optional l test (W.then (L.optional t post).walk (W.looping (W.in_block w))))
        (stepping taking t l test post (in_loop b c (in_block e)))
    stepping-fits b c l test post plain w e he a s n env u file fit none =
        let p = (L.optional t post).walk s in
        let s1 = behind s p in
        let a1 = past a ((L.optional t post).lay a s) in
        let q = quiet-post t post s plain in
        let rest = none-right (W.optional_test l test s).faults _ none in
        let silent = quiet-test l test s in
        let no : (W.behind_optional l test (W.then (L.optional t post).walk (W.looping (W.in_block w))) s).declares
        ≡ [] = ap (λ ds. ds ++ (p.declares ++ [])) silent ∙ ap (λ ds. ds ++ []) q.0 in
        fitting-guarded taking (NamesHaveValues taking
        (behind s (W.behind_optional l test (W.then (L.optional t post).walk (W.looping (W.in_block w))) s)).locals)
        (Out taking s.breaks s.locals) (Out taking s.loops s.locals) Never (is_plain post) u _ q.1
        (left-fits taking types t w e he s (W.behind_optional l test
        (W.then (L.optional t post).walk (W.looping (W.in_block w))) s).declares _ no
        (fitting-turns taking (NamesHaveValues taking s.locals) (Out taking s.breaks s.locals)
        (Out taking s.loops s.locals) Never (NamesHaveValues taking s.locals)
        (after_optional taking t l test (with_post taking t post (in_loop b c (in_block e))) a s n)
        (λ e1 u1 k.
        let next : AfterTest taking (NamesHaveValues taking s.locals) (NamesHaveValues taking s.locals)
        (NamesHaveValues taking s.locals)
        (NamesHaveValues taking s.locals) (with_post taking t post (in_loop b c (in_block e))) a s n e1 = record {
          if_true = λ y.
              fitting-post taking (NamesHaveValues taking s.locals) (NamesHaveValues taking s.locals)
              (NamesHaveValues taking s.locals)
              (NamesHaveValues taking s.locals) (NamesHaveValues taking s.locals)
              (in_loop b c (in_block e) a1 s1 n e1 y)
              (optional taking t post a s n)
              (fitting-as taking (NamesHaveValues taking s1.locals) (NamesHaveValues taking s1.locals)
              (NamesHaveValues taking s1.locals) Never (NamesHaveValues taking s.locals)
              (NamesHaveValues taking s.locals)
              (NamesHaveValues taking s.locals) Never (in_loop b c (in_block e) a1 s1 n e1 y)
              (body-fits taking types t w e he b c a1 s1 n e1 y file (quiet taking s.locals p.declares e1 q.0 k)
              (none-right p.faults _ rest))
              (λ z. loud taking s.locals p.declares z q.0) (λ z. loud taking s.locals p.declares z q.0)
              (λ z. loud taking s.locals p.declares z q.0) (λ z r. r))
              (λ e2 u2 m. fitting-as taking (NamesHaveValues taking s1.locals) Never Never Never
              (NamesHaveValues taking s.locals)
              (NamesHaveValues taking s.locals) (NamesHaveValues taking s.locals) (NamesHaveValues taking s.locals)
              (optional taking t post a s n e2 u2)
              (optional-goes post a s n e2 u2 file m (none-left p.faults _ rest))
              (λ z. loud taking s.locals p.declares z q.0) (λ z r. absurd r) (λ z r. absurd r) (λ z r. absurd r));
          if_false = k;
        } in
        optional-tested l test u1 file k (none-left (W.optional_test l test s).faults _ none) next)
        n env u fit))
      where
        quiet-test : (l : ℕ) (o : Option Expr) (s : Scope) → (W.optional_test l o s).declares ≡ []
        quiet-test l None s = refl
        quiet-test l (Some e) s = refl
