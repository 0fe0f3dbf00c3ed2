-- The stores of what was received: names that are there, new names, and `_`.
-- For: `pair_faults`, golf_check_types/specs/Statements.antt; `statements_fit`, src/lib.rt
-- By: cases of what each name stands for; no induction
use Rattle.std.proofs.Common.{◌≡◌, ℕ, ◌==◌, Bool, true, false, cond, not, ◌&&◌, List, [], ◌∷◌, ◌++◌, Option, Some}
use Rattle.std.proofs.Common.{None, refl, sym, subst, append_assoc, append-nil}
use Rattle.std.proofs.lemmas.Bool.{and_parts}
use Rattle.std.specs.Prelude.{is_some}
use Rattle.golf_syntax_trees.specs.declared.expressions.Expr.{Expr}
use Rattle.golf_data.specs.declared.value.Value.{Value}
use Rattle.golf_data.specs.declared.code.Instr.{Instr}
use Rattle.golf_check_types.specs.declared.types.Base.TheVariants as base
use Rattle.golf_check_types.specs.declared.types.GoType.{GoType}
use Rattle.golf_check_types.specs.declared.operands.Given.TheVariants as given_as
use Rattle.golf_check_types.specs.declared.operands.Operand.{Operand}
use Rattle.golf_check_types.specs.declared.operands.Operand.TheVariants as operand
use Rattle.golf_check_types.specs.declared.locals.Local.{Local}
use Rattle.golf_check_types.specs.declared.scopes.Scope.{Scope}
use Rattle.golf_check_types.specs.Faults.{broken}
use Rattle.golf_check_types.specs.Types.{plain, assignable}
use Rattle.golf_check_types.specs.Names.{is_blank}
use Rattle.golf_check_types.specs.Scopes.{meaning, is_here, is_at_depth}
use Rattle.golf_check_types.specs.Expressions.{leaf, known_name, used, given_by}
use Rattle.golf_check_types.specs.Judgments.{judge}
use Rattle.golf_check_types.specs.Statements.{behind, is_new, kept_local, kept_faults}
use Rattle.golf_check_types.specs.Statements.{pair_faults, one_new, pair, bool_type, assigned_name, put_in_faults}
use Rattle.golf_check_types.specs.Statements.{takes_value, assigned_pair_faults, received, carried}
use Rattle.golf_model_typing.specs.Types.{ValueType, Types}
use Rattle.golf_code_of.specs.declared.tables.Tables.{Tables}
use Rattle.golf_code_shapes.specs.Types.{value_type}
use Rattle.golf_code_shapes.proofs.Typings.{none-left, none-right, kept, assigned-value}
use Rattle.golf_code_shapes.proofs.Receives.{kept-known}
use Rattle.golf_meaning_flat.specs.Worlds.{World, Part, bind}
use Rattle.golf_meaning_source.specs.Names.{Env, find}
use Rattle.golf_meaning_source.specs.Operations.{Taking, Gives, gives, visible}
use Rattle.golf_meaning_source.specs.Exprs.{Location, assigned, place_of_name, value_of_name, store}
use Rattle.golf_meaning_source.specs.ExpressionMeaning.{outer}
use Rattle.golf_meaning_source.proofs.Environments.{last, look-last}
use Rattle.golf_meaning_statements.specs.Steps.{name_place, stores_pair, stores_unless, with_new, defines_pair}
use Rattle.golf_meaning_statements.specs.Steps.{value_at}
use Rattle.golf_meaning_runs.specs.Sound.{SoundPart, One, Yields, Held, NamesHaveValues, FileTaken, IsOf, AllFit}
use Rattle.golf_meaning_runs.specs.Meets.{Placed}
use Rattle.golf_meaning_runs.proofs.Calculus.{sound-bind, sound-visible}
use Rattle.golf_meaning_runs.proofs.NameValues.{Paired, paired}
use Rattle.golf_meaning_runs.proofs.Counts.{held-known, Takes, kept-names}
use Rattle.golf_meaning_runs.proofs.Naming.{Me, on-name}
use Rattle.golf_meaning_runs.proofs.Operators.{giving}
use Rattle.golf_meaning_runs.proofs.NamesKept.{names-bound}
use Rattle.golf_meaning_runs.proofs.Given.{at-one, at-two, two-fit}
use Rattle.golf_meaning_runs.proofs.Simples.{value-of}

module _ (taking : Taking) where
  -- a place of this type takes a value of another that is assignable to it
  stores-in : (ds : List Local) (env : Env) (p : Location) (e v : GoType) (x : Value)
      → Placed taking ds env (value_type e) p (gives []) → assignable (given_as.Typed v) (Some e) ≡ true
      → IsOf taking (value_type v) x → (w : World)
      → SoundPart taking (NamesHaveValues taking ds) (store taking env p (x ∷ []) w)
  stores-in ds env p e v x h fit of w = h.stores [] x (h.parts w)
      (subst (λ u. IsOf taking u x) (assigned-value v e fit) of) w

  module _ (types : Types) (t : Tables) (l : ℕ) (s : Scope) (env : Env) (file : FileTaken taking types t s.file)
      (fit : NamesHaveValues taking s.locals env) where
    -- names left of `=`

    named-stores : (m : Operand) (f : Gives) (p : Location) (v : GoType) (x : Value)
        → put_in_faults l (Some m) (Some v) ≡ [] → takes_value (Some m) ≡ true
        → Me taking types t s env m f p (gives []) → IsOf taking (value_type v) x → (w : World)
        → SoundPart taking (NamesHaveValues taking s.locals) (store taking env p (x ∷ []) w)
    unfolding put_in_faults
    named-stores (operand.Variable y (Some e)) f p v x none takes h of w =
        stores-in s.locals env p e v x h.1 (kept l 9 _ none) of w
    named-stores (operand.Field i (Some e)) f p v x none takes h of w =
        stores-in s.locals env p e v x h.1 (kept l 9 _ none) of w
    named-stores (operand.Element (Some e)) f p v x none takes h of w =
        stores-in s.locals env p e v x h.1 (kept l 9 _ none) of w
    named-stores (operand.Variable y None) f p v x none takes h of w = absurd h
    named-stores (operand.Field i None) f p v x none takes h of w = absurd h
    named-stores (operand.Element None) f p v x none takes h of w = absurd h
    named-stores operand.Blank f p v x none takes h of w =
        subst (λ z. SoundPart taking (NamesHaveValues taking s.locals) (store taking env z (x ∷ []) w)) (sym h.0) fit
    named-stores operand.Unknown f p v x none takes h of w = absurd h
    named-stores _ f p v x none takes h of w = cc

    pub stores-assigned : (n : List ℕ) (v : GoType) (x : Value) → is_some (assigned_name s n) ≡ true
        → put_in_faults l (assigned_name s n) (Some v) ≡ [] → takes_value (assigned_name s n) ≡ true
        → IsOf taking (value_type v) x
        → (w : World) → SoundPart taking (NamesHaveValues taking s.locals)
        (store taking env (name_place taking t s n env) (x ∷ []) w)
    unfolding assigned_name meaning
    stores-assigned n v x there none takes of w =
        by (is_blank n) (meaning s n) there none takes
        (on-name taking types t (record s { initialises = None }) env fit l n file)
      where
        by : (b : Bool) (o : Option Operand) → is_some (cond b (Some operand.Blank) o) ≡ true
            → put_in_faults l (cond b (Some operand.Blank) o) (Some v) ≡ []
            → takes_value (cond b (Some operand.Blank) o) ≡ true
            → ((cond b (leaf operand.Blank []) (known_name l None o)).faults ≡ []
            → Me taking types t s env (cond b (leaf operand.Blank []) (known_name l None o)).meaning
            (cond b (gives []) (value_of_name taking t (find env n) (outer s n)))
            (cond b Location.Blank (place_of_name n (find env n) (outer s n))) (gives []))
            → SoundPart taking (NamesHaveValues taking s.locals)
            (store taking env (cond b Location.Blank (place_of_name n (find env n) (outer s n))) (x ∷ []) w)
        by true o e f g h = fit
        by false None e f g h = cc
        by false (Some m) e f g h = named-stores m (value_of_name taking t (find env n) (outer s n))
            (place_of_name n (find env n) (outer s n)) v x f g (h refl) of w

    -- names left of `:=`

    -- what a name is among the locals, and its value
    record Named (n : List ℕ) (a : Option Local) (o : Option Value) : Type 0 where
      local : last s.locals n ≡ a
      together : Paired taking a o
      value : find env n ≡ o

    -- a local of this block takes a value that is assignable to it
    here-stores : (n : List ℕ) (v : GoType) (x : Value) (a : Option Local) (o : Option Value) → Named n a o
        → is_at_depth a s.depth ≡ true → kept_local l s.depth a (Some v) ≡ [] → IsOf taking (value_type v) x
        → (w : World) → SoundPart taking (NamesHaveValues taking s.locals)
        (store taking env (place_of_name n o (outer s n)) (x ∷ []) w)
    here-stores n v x None o named depth none of w = cc
    here-stores n v x (Some d) None named depth none of w = absurd named.together
    here-stores n v x (Some d) (Some y) named depth none of w =
        let h = named.together in
        let e = held-known taking d.of_type y h in
        let test : (b : Bool) → b ≡ true → cond b (broken l 9 (assignable (given_as.Typed v) d.of_type)) [] ≡ []
        → assignable (given_as.Typed v) d.of_type ≡ true = by-depth in
        let holds = subst (λ z. assignable (given_as.Typed v) z ≡ true) e.1 (test (d.depth == s.depth) depth none) in
        let held = subst (λ z. Held taking z x) (sym e.1)
        (subst (λ u. IsOf taking u x) (assigned-value v e.0 holds) of) in
        subst (λ z. SoundPart taking (NamesHaveValues taking s.locals) (assigned env n z x w)) (sym named.value)
        (kept-names taking s.locals env n x fit (subst (λ z. Takes taking z x) (sym named.local) held))
      where
        by-depth : (b : Bool) → b ≡ true → cond b (broken l 9 (assignable (given_as.Typed v) d.of_type)) [] ≡ []
            → assignable (given_as.Typed v) d.of_type ≡ true
        by-depth true e q = kept l 9 _ q
        by-depth false e q = cc

    -- a name that is not new is `_` or in this block
    stores-old : (n : List ℕ) (v : GoType) (x : Value) → is_new s n ≡ false → kept_faults l s n (Some v) ≡ []
        → IsOf taking (value_type v) x → (w : World)
        → SoundPart taking (NamesHaveValues taking s.locals) (store taking env (name_place taking t s n env) (x ∷ []) w)
    unfolding is_here kept_faults
    stores-old n v x old none of w = by (is_blank n) (is_here s n) refl old
      where
        by : (b h : Bool) → is_here s n ≡ h → (not b && not h) ≡ false
            → SoundPart taking (NamesHaveValues taking s.locals)
            (store taking env (cond b Location.Blank (place_of_name n (find env n) (outer s n))) (x ∷ []) w)
        by true h e q = fit
        by false true e q =
            here-stores n v x (last s.locals n) (find env n)
            (record { local = refl; together = paired taking s.locals env n fit; value = refl })
            (subst (λ a. is_at_depth a s.depth ≡ true) (look-last s.locals n) e)
            (subst (λ a. kept_local l s.depth a (Some v) ≡ []) (look-last s.locals n) none) of w
        by false false e q = cc

    pub unless-stores : (n : List ℕ) (v : GoType) (x : Value) → (is_new s n ≡ false → kept_faults l s n (Some v) ≡ [])
        → IsOf taking (value_type v) x → (w : World)
        → SoundPart taking (NamesHaveValues taking s.locals) (stores_unless taking (is_new s n) t s n env x w)
    unless-stores n v x none of w = by (is_new s n) refl
      where
        by : (b : Bool) → is_new s n ≡ b → SoundPart taking (NamesHaveValues taking s.locals)
            (stores_unless taking b t s n env x w)
        by true e = fit
        by false e = stores-old n v x e (none e) of w

  -- a new name stands after those of before
  new-names : (b : Bool) (ds : List Local) (at : Scope) (n : List ℕ) (o : Option GoType) (x : Value) (env : Env)
      → NamesHaveValues taking ds env → Held taking o x
      → NamesHaveValues taking (ds ++ (one_new b n o at).declares) (with_new b n x env)
  new-names true ds at n o x env h k = names-bound taking ds at n o env x h k
  new-names false ds at n o x env h k = subst (λ es. NamesHaveValues taking es env) (sym (append-nil ds)) h

  module _ (types : Types) (t : Tables) (l : ℕ) (s : Scope) (file : FileTaken taking types t s.file) where
    -- two names left of `:=`: `ok` is stored first
    pub defines-both : (n m : List ℕ) (v : GoType) (env : Env) (x ok : Value) → NamesHaveValues taking s.locals env
        → pair_faults l s n m (Some v) ≡ [] → IsOf taking (value_type v) x → IsOf taking ValueType.Bool ok
        → (w : World) → SoundPart taking (NamesHaveValues taking (behind s (pair l n m (Some v) s)).locals)
        (defines_pair taking t s n m env (x ∷ (ok ∷ [])) w)
    defines-both n m v env x ok fit none of isb w =
        let both = kept-known l s n m v none in
        sound-bind taking (stores_unless taking (is_new s m) t s m env ok w) _ (NamesHaveValues taking s.locals)
        (NamesHaveValues taking (behind s (pair l n m (Some v) s)).locals)
        (unless-stores types t l s env file fit m (plain base.Bool) ok
        (λ e. none-right (kept_faults l s n (Some v)) _ both) isb w)
        (λ e1 u k. sound-bind taking (stores_unless taking (is_new s n) t s n e1 x u) _
        (NamesHaveValues taking s.locals)
        (NamesHaveValues taking (behind s (pair l n m (Some v) s)).locals)
        (unless-stores types t l s e1 file k n v x (λ e. none-left (kept_faults l s n (Some v)) _ both) of u)
        (λ e2 y q. named e2 q))
      where
        named : (e2 : Env) → NamesHaveValues taking s.locals e2
            → NamesHaveValues taking (behind s (pair l n m (Some v) s)).locals
            (with_new (is_new s m) m ok (with_new (is_new s n) n x e2))
        named e2 q =
            let one = one_new (is_new s n) n (Some v) s in
            let s1 = behind s one in
            subst (λ ds. NamesHaveValues taking ds (with_new (is_new s m) m ok (with_new (is_new s n) n x e2)))
            (append_assoc s.locals one.declares (one_new (is_new s m) m bool_type s1).declares)
            (new-names (is_new s m) s1.locals s1 m bool_type ok (with_new (is_new s n) n x e2)
            (new-names (is_new s n) s.locals s n (Some v) x e2 q of) isb)

    -- two names left of `=`
    pub assigns-both : (n m : List ℕ) (v : GoType) (env : Env) (x ok : Value) → NamesHaveValues taking s.locals env
        → assigned_pair_faults l (assigned_name s n) (assigned_name s m) (Some v) ≡ [] → IsOf taking (value_type v) x
        → IsOf taking ValueType.Bool ok
        → (w : World) → SoundPart taking (NamesHaveValues taking s.locals)
        (stores_pair taking t s n m env (x ∷ (ok ∷ [])) w)
    assigns-both n m v env x ok fit none of isb w =
        let p = assigned_name s n in
        let q = assigned_name s m in
        let there = and_parts (is_some p) (is_some q)
        (kept l 3 _ (none-left (broken l 3 (is_some p && is_some q)) _ none)) in
        let one = none-right (broken l 3 (is_some p && is_some q)) _ none in
        let two = none-right (put_in_faults l p (Some v)) _ one in
        let takes = and_parts (takes_value p) (takes_value q)
        (kept l 10 _ (none-right (put_in_faults l q bool_type) _ two)) in
        sound-bind taking (store taking env (name_place taking t s m env) (ok ∷ []) w)
        (λ e u. store taking e (name_place taking t s n e) (x ∷ []) u) (NamesHaveValues taking s.locals)
        (NamesHaveValues taking s.locals)
        (stores-assigned types t l s env file fit m (plain base.Bool) ok there.1
        (none-left (put_in_faults l q bool_type) _ two) takes.1 isb w)
        (λ e u k. stores-assigned types t l s e file k n v x there.0
        (none-left (put_in_faults l p (Some v)) _ one) takes.0 of u)

    module _ (env : Env) (fit : NamesHaveValues taking s.locals env) where
      -- a channel that is received from, and what it carries
      pub receives : (e : Expr) → (received l e s).faults ≡ [] → (v : GoType) × (carried l e s ≡ Some v)
          × Yields taking (ValueType.Chan (value_type v)) (value_at taking t l s e env)
      receives e none = let j = judge e l s in giving taking (given_by j) (value_at taking t l s e env)
          (kept l 16 _ (none-right (used l j) _ none))
          (value-of taking types t l s env file fit e (none-left (used l j) _ none))

      -- the value and `ok` are received, and taken
      pub receiving : (e : Expr) (v : GoType) (K : Env → Type 0) (f : List Value → World → Part Env)
          → Yields taking (ValueType.Chan (value_type v)) (value_at taking t l s e env)
          → ((x ok : Value) → IsOf taking (value_type v) x → IsOf taking ValueType.Bool ok → (w : World)
          → SoundPart taking K (f (x ∷ (ok ∷ [])) w))
          → (w : World) → SoundPart taking K (bind (value_at taking t l s e env w)
          (λ vs u. bind (visible taking Instr.ReceiveOk (Some v ∷ (bool_type ∷ [])) vs u) f))
      receiving e v K f h k w =
          sound-bind taking (value_at taking t l s e env w)
          (λ vs u. bind (visible taking Instr.ReceiveOk (Some v ∷ (bool_type ∷ [])) vs u) f)
          (One taking (ValueType.Chan (value_type v))) K (h w)
          (λ vs u q. at-one taking (ValueType.Chan (value_type v))
          (λ us. SoundPart taking K (bind (visible taking Instr.ReceiveOk (Some v ∷ (bool_type ∷ [])) us u) f))
          (λ c of. sound-bind taking (visible taking Instr.ReceiveOk (Some v ∷ (bool_type ∷ [])) (c ∷ []) u) f
          (AllFit taking (Some v ∷ (bool_type ∷ []))) K
          (sound-visible taking Instr.ReceiveOk (Some v ∷ (bool_type ∷ [])) (c ∷ []) u refl (λ k. refl))
          (λ us y r. at-two taking (value_type v) ValueType.Bool (λ zs. SoundPart taking K (f zs y))
          (λ x ok p q. k x ok p q y) us (two-fit taking v (plain base.Bool) us r))) vs q)
