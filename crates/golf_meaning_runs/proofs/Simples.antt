-- Simple statements without two names, variables, and what they store.
-- For: `simple_deals`, golf_meaning_statements/specs/Steps.antt; `statements_fit`, src/lib.rt
-- By: cases of the operands; no induction
use Rattle.std.proofs.Common.{◌≡◌, ℕ, ◌&&◌, true, List, [], ◌∷◌, ◌++◌, length, length-append, Option, Some, None, refl}
use Rattle.std.proofs.Common.{sym, subst, arith, append-nil}
use Rattle.std.proofs.lemmas.Bool.{and_parts}
use Rattle.golf_syntax_trees.specs.declared.expressions.Expr.{Expr}
use Rattle.golf_syntax_trees.specs.declared.statements.UpdateOperator.{UpdateOperator}
use Rattle.golf_syntax_trees.specs.declared.statements.UpdateOperator.TheVariants as update
use Rattle.golf_syntax_trees.specs.declared.statements.SimpleKind.TheVariants as simple
use Rattle.golf_syntax_trees.specs.declared.statements.VarContent.{VarContent}
use Rattle.golf_syntax_trees.specs.declared.statements.VarContent.TheVariants as content
use Rattle.golf_data.specs.declared.value.Value.{Value}
use Rattle.golf_data.specs.declared.code.Instr.{Instr}
use Rattle.golf_model.specs.Values.{zero_of}
use Rattle.golf_model.specs.Arithmetic.{sum, difference, product, quotient, remainder}
use Rattle.golf_check_types.specs.declared.types.Base.TheVariants as base
use Rattle.golf_check_types.specs.declared.types.GoType.{GoType}
use Rattle.golf_check_types.specs.declared.operands.Given.{Given}
use Rattle.golf_check_types.specs.declared.operands.Operand.{Operand}
use Rattle.golf_check_types.specs.declared.operands.Operand.TheVariants as operand
use Rattle.golf_check_types.specs.declared.locals.Local.{Local}
use Rattle.golf_check_types.specs.declared.scopes.Scope.{Scope}
use Rattle.golf_check_types.specs.Faults.{broken}
use Rattle.golf_check_types.specs.Types.{given, type_of, type_given, has_base, assignable}
use Rattle.golf_check_types.specs.Scopes.{variable}
use Rattle.golf_check_types.specs.Written.{write}
use Rattle.golf_check_types.specs.Expressions.{used, named_or_used, given_by, value_faults}
use Rattle.golf_check_types.specs.Judgments.{judge}
use Rattle.golf_check_types.specs.Statements as W
use Rattle.golf_check_types.specs.Statements.{Walk, behind, action_faults, is_place, left_faults, assign_faults}
use Rattle.golf_model_typing.specs.Types.{ValueType, Types}
use Rattle.golf_code_of.specs.declared.tables.Tables.{Tables}
use Rattle.golf_code_of.specs.Values.{zero_value}
use Rattle.golf_code_shapes.specs.Types.{value_type}
use Rattle.golf_code_shapes.proofs.Typings.{none-left, none-right, kept, same-value}
use Rattle.golf_code_shapes.proofs.Literals.{written-known}
use Rattle.golf_meaning_flat.specs.Worlds.{World, Part, bind}
use Rattle.golf_meaning_source.specs.Names.{Env}
use Rattle.golf_meaning_source.specs.Operations.{Taking, Gives, both, visible, on_two}
use Rattle.golf_meaning_source.specs.Exprs.{Location, if_none, read, store, dropped}
use Rattle.golf_meaning_statements.specs.Steps.{Deals, does_at, value_at, declared, drops, update_operation, updates}
use Rattle.golf_meaning_statements.specs.Steps.{one, simple_deals, first_value}
use Rattle.golf_meaning_runs.specs.Sound.{SoundPart, One, Yields, YieldsBy, Held, NamesHaveValues, FileTaken, IsOf}
use Rattle.golf_meaning_runs.specs.Meets.{Many, Placed}
use Rattle.golf_meaning_runs.proofs.Calculus.{sound-bind}
use Rattle.golf_meaning_runs.proofs.Counts.{many-one, many-both, stored}
use Rattle.golf_meaning_runs.proofs.Naming.{Me, of-used}
use Rattle.golf_meaning_runs.proofs.Operators.{based, computes, divides}
use Rattle.golf_meaning_runs.proofs.Expressions.{some-value, expressions-fit}
use Rattle.golf_meaning_runs.proofs.NamesKept.{names-bound}
use Rattle.golf_meaning_runs.proofs.Given.{assigned-to, typed, zero-fits, at-one}

module _ (taking : Taking) where
  -- if names have values of their types, a part that breaks no rule gives names that have
  abbrev pub DealsFit : Types → Tables → Walk → (Scope → Deals) → Type 0
  DealsFit types t walk d = (s : Scope) (env : Env) (w : World) → FileTaken taking types t s.file
      → NamesHaveValues taking s.locals env → (walk s).faults ≡ []
      → SoundPart taking (NamesHaveValues taking (behind s (walk s)).locals) (d s env w)

  -- nothing is declared
  pub still : (ds : List Local) (p : Part Env) → SoundPart taking (NamesHaveValues taking ds) p
      → SoundPart taking (NamesHaveValues taking (ds ++ [])) p
  still ds p h = subst (λ es. SoundPart taking (NamesHaveValues taking es) p) (sym (append-nil ds)) h

  -- one value is dropped
  pub dropping : (ds : List Local) (env : Env) → NamesHaveValues taking ds env → (vs : List Value) (w : World)
      → length vs ≡ 1
      → SoundPart taking (NamesHaveValues taking ds) (dropped env vs w)
  dropping ds env fit [] w e = absurd (omega (arith, e))
  dropping ds env fit (v ∷ []) w e = fit
  dropping ds env fit (v ∷ (x ∷ vs)) w e = absurd (omega (arith, e))

  pub nothing-left : (ds : List Local) (env : Env) → NamesHaveValues taking ds env → (vs : List Value) (w : World)
      → length vs ≡ 0 → SoundPart taking (NamesHaveValues taking ds) (if_none vs w (Part.Gives env w))
  nothing-left ds env fit [] w e = fit
  nothing-left ds env fit (v ∷ vs) w e = absurd (omega (arith, e))

  -- a new name takes one value of its type
  pub declaring : (ds : List Local) (at : Scope) (n : List ℕ) (o : Option GoType) (e : GoType) (env : Env) (f : Gives)
      → o ≡ Some e → NamesHaveValues taking ds env → Yields taking (value_type e) f → (w : World)
      → SoundPart taking (NamesHaveValues taking (ds ++ variable at n o ∷ [])) (bind (f w) (declared env n))
  declaring ds at n o e env f is fit h w =
      sound-bind taking (f w) (declared env n) (One taking (value_type e))
      (NamesHaveValues taking (ds ++ variable at n o ∷ [])) (h w)
      (λ vs u q. at-one taking (value_type e)
      (λ us. SoundPart taking (NamesHaveValues taking (ds ++ variable at n o ∷ [])) (declared env n us u))
      (λ v k. names-bound taking ds at n o env v fit (subst (λ z. Held taking z v) (sym is) k)) vs q)

  -- Places.

  module _ (ds : List Local) (env : Env) (place : Location) (tells : Gives) where
    pub assigning : (u : ValueType) (e : Gives) → Placed taking ds env u place tells → Yields taking u e → (w : World)
        → SoundPart taking (NamesHaveValues taking ds) (bind (tells w)
        (λ told x. bind (e x) (λ xs y. store taking env place (told ++ xs) y)))
    assigning u e h k w =
        sound-bind taking (tells w) (λ told x. bind (e x) (λ xs y. store taking env place (told ++ xs) y))
        (λ vs. length vs ≡ h.told) (NamesHaveValues taking ds) (h.parts w)
        (λ told x len. sound-bind taking (e x) (λ xs y. store taking env place (told ++ xs) y) (One taking u)
        (NamesHaveValues taking ds) (k x)
        (λ xs y q. at-one taking u (λ us. SoundPart taking (NamesHaveValues taking ds)
        (store taking env place (told ++ us) y))
        (λ v of. h.stores told v len of y) xs q))

    pub updating : (e : Gives) (f : World → Value → Value → Part Value)
        → ((v x : Value) → IsOf taking ValueType.Int v → IsOf taking ValueType.Int x → (w : World)
        → SoundPart taking (One taking ValueType.Int) (on_two f (v ∷ (x ∷ [])) w))
        → Placed taking ds env ValueType.Int place tells → Yields taking ValueType.Int e
        → (w : World) → SoundPart taking (NamesHaveValues taking ds)
        (bind (tells w) (λ told u. bind (read taking env place told u)
        (λ xs v. bind (e v) (λ ys x. bind (on_two f (xs ++ ys) x)
        (λ zs y. store taking env place (told ++ zs) y)))))
    updating e f calc h k w =
        sound-bind taking (tells w) (λ told u. bind (read taking env place told u)
        (λ xs v. bind (e v) (λ ys x. bind (on_two f (xs ++ ys) x) (λ zs y. store taking env place (told ++ zs) y))))
        (λ vs. length vs ≡ h.told) (NamesHaveValues taking ds) (h.parts w)
        (λ told u len. sound-bind taking (read taking env place told u)
        (λ xs v. bind (e v) (λ ys x. bind (on_two f (xs ++ ys) x) (λ zs y. store taking env place (told ++ zs) y)))
        (One taking ValueType.Int) (NamesHaveValues taking ds) (h.reads told len u)
        (λ xs v q. at-one taking ValueType.Int
        (λ us. SoundPart taking (NamesHaveValues taking ds)
        (bind (e v) (λ ys x. bind (on_two f (us ++ ys) x) (λ zs y. store taking env place (told ++ zs) y))))
        (λ a qa. second told len v a qa) xs q))
      where
        third : (told : List Value) → length told ≡ h.told → (zs : List Value) (y : World) → One taking ValueType.Int zs
            → SoundPart taking (NamesHaveValues taking ds) (store taking env place (told ++ zs) y)
        third told len zs y q = at-one taking ValueType.Int
            (λ us. SoundPart taking (NamesHaveValues taking ds) (store taking env place (told ++ us) y))
            (λ v of. h.stores told v len of y) zs q

        second : (told : List Value) → length told ≡ h.told → (v : World) (a : Value) → IsOf taking ValueType.Int a
            → SoundPart taking (NamesHaveValues taking ds) (bind (e v)
            (λ ys x. bind (on_two f ((a ∷ []) ++ ys) x) (λ zs y. store taking env place (told ++ zs) y)))
        second told len v a qa =
            sound-bind taking (e v) (λ ys x. bind (on_two f ((a ∷ []) ++ ys) x)
            (λ zs y. store taking env place (told ++ zs) y)) (One taking ValueType.Int) (NamesHaveValues taking ds)
            (k v)
            (λ ys x q. at-one taking ValueType.Int
            (λ us. SoundPart taking (NamesHaveValues taking ds)
            (bind (on_two f ((a ∷ []) ++ us) x) (λ zs y. store taking env place (told ++ zs) y)))
            (λ b qb. sound-bind taking (on_two f (a ∷ (b ∷ [])) x) (λ zs y. store taking env place (told ++ zs) y)
            (One taking ValueType.Int) (NamesHaveValues taking ds) (calc a b qa qb x) (third told len)) ys q)

  pub calculates : (o : UpdateOperator) (v x : Value) → IsOf taking ValueType.Int v → IsOf taking ValueType.Int x
      → (w : World) → SoundPart taking (One taking ValueType.Int) (on_two (update_operation o) (v ∷ (x ∷ [])) w)
  calculates update.Add = computes taking sum
  calculates update.Subtract = computes taking difference
  calculates update.Multiply = computes taking product
  calculates update.Divide = divides taking quotient
  calculates update.Remainder = divides taking remainder

  module _ (types : Types) (t : Tables) (l : ℕ) (s : Scope) (env : Env) (file : FileTaken taking types t s.file)
      (fit : NamesHaveValues taking s.locals env) where
    abbrev Is : Operand → Gives → Location → Gives → Type 0
    Is = Me taking types t s env

    pub shown : (e : Expr) → (judge e l s).faults ≡ []
        → Is (judge e l s).meaning (value_at taking t l s e env) ((does_at taking t l s e).place env)
        ((does_at taking t l s e).parts env)
    shown e none = expressions-fit taking types t e l s env file fit none

    -- the value of an expression that is used
    pub value-of : (e : Expr) → used l (judge e l s) ≡ []
        → YieldsBy taking (given_by (judge e l s)) (value_at taking t l s e env)
    value-of e none = of-used taking types t s env l (judge e l s) (value_at taking t l s e env)
        ((does_at taking t l s e).place env) ((does_at taking t l s e).parts env) none (shown e)

    pub one-of : (e : Expr) → used l (judge e l s) ≡ [] → Many taking 1 (value_at taking t l s e env)
    one-of e none = some-value taking (given_by (judge e l s)) (value_at taking t l s e env) (value-of e none)

    -- expressions as statements

    forgets : (m : Operand) (v : Gives) (p : Location) (q : Gives) → action_faults l m ≡ [] → Is m v p q → (w : World)
        → SoundPart taking (NamesHaveValues taking s.locals) (bind (v w) (drops m env))
    forgets (operand.Outcome (Some e)) v p q none h w =
        sound-bind taking (v w) (dropped env) (λ vs. length vs ≡ 1) (NamesHaveValues taking s.locals)
        (many-one taking (value_type e) v h w) (dropping s.locals env fit)
    forgets (operand.Outcome None) v p q none h w = absurd h
    forgets (operand.Nothing late) v p q none h w =
        sound-bind taking (v w) (λ vs u. if_none vs u (Part.Gives env u)) (λ vs. length vs ≡ 0)
        (NamesHaveValues taking s.locals) (h w) (nothing-left s.locals env fit)
    forgets operand.Unknown v p q none h w = absurd h
    forgets m v p q none h w = let e = none-right (value_faults l m) _ none in cc

    -- `=`

    assigned-in : (m : Operand) (v : Gives) (p : Location) (q : Gives) (g : Given) (e : Gives)
        → assign_faults l m g ≡ []
        → left_faults l m ≡ [] → Is m v p q → YieldsBy taking g e
        → (w : World) → SoundPart taking (NamesHaveValues taking s.locals)
        (bind (q w) (λ told x. bind (e x) (λ xs y. store taking env p (told ++ xs) y)))
    assigned-in operand.Blank v p q g e none left h k w =
        subst (λ z. SoundPart taking (NamesHaveValues taking s.locals)
        (bind (q w) (λ told x. bind (e x) (λ xs y. store taking env z (told ++ xs) y)))) (sym h.0)
        (sound-bind taking (q w) (λ told x. bind (e x) (λ xs y. dropped env (told ++ xs) y)) (λ vs. length vs ≡ 0)
        (NamesHaveValues taking s.locals) (h.1 w)
        (λ told x len. sound-bind taking (e x) (λ xs y. dropped env (told ++ xs) y) (λ vs. length vs ≡ 1)
        (NamesHaveValues taking s.locals) (some-value taking g e k x)
        (λ xs y one. dropping s.locals env fit (told ++ xs) y (omega (arith, length-append told xs, len, one)))))
    assigned-in (operand.Variable x (Some o)) v p q g e none left h k w =
        assigning s.locals env p q (value_type o) e h.1
        (assigned-to taking g o e (kept l 9 (assignable g (Some o))
        (none-left (broken l 9 (assignable g (Some o))) _ none)) k) w
    assigned-in (operand.Field i (Some o)) v p q g e none left h k w =
        assigning s.locals env p q (value_type o) e h.1
        (assigned-to taking g o e (kept l 9 (assignable g (Some o))
        (none-left (broken l 9 (assignable g (Some o))) _ none)) k) w
    assigned-in (operand.Element (Some o)) v p q g e none left h k w =
        assigning s.locals env p q (value_type o) e h.1
        (assigned-to taking g o e (kept l 9 (assignable g (Some o))
        (none-left (broken l 9 (assignable g (Some o))) _ none)) k) w
    assigned-in (operand.Variable x None) v p q g e none left h k w = absurd h
    assigned-in (operand.Field i None) v p q g e none left h k w = absurd h
    assigned-in (operand.Element None) v p q g e none left h k w = absurd h
    assigned-in operand.Unknown v p q g e none left h k w = absurd h
    assigned-in (operand.Nothing late) v p q g e none left h k w = cc
    assigned-in m v p q g e none left h k w = let e = none-right (broken l 9 (assignable g (type_of m))) _ none in cc

    -- `op=`, `++` and `--`

    int-place : (m : Operand) (v : Gives) (p : Location) (q : Gives) → has_base base.Int (given m) ≡ true
        → is_place m ≡ true → Is m v p q → Placed taking s.locals env ValueType.Int p q
    int-place (operand.Variable x (Some e)) v p q int place h =
        subst (λ u. Placed taking s.locals env u p q) (same-value e.layers [] e.base base.Int int) h.1
    int-place (operand.Field i (Some e)) v p q int place h =
        subst (λ u. Placed taking s.locals env u p q) (same-value e.layers [] e.base base.Int int) h.1
    int-place (operand.Element (Some e)) v p q int place h =
        subst (λ u. Placed taking s.locals env u p q) (same-value e.layers [] e.base base.Int int) h.1
    int-place (operand.Variable x None) v p q int place h = absurd h
    int-place (operand.Field i None) v p q int place h = absurd h
    int-place (operand.Element None) v p q int place h = absurd h
    int-place operand.Unknown v p q int place h = absurd h
    int-place _ v p q int place h = cc

    pub acts : (e : Expr) (w : World) → (W.action l e s).faults ≡ []
        → SoundPart taking (NamesHaveValues taking s.locals) (simple_deals taking t l (simple.Expression e) s env w)
    acts e w none = let j = judge e l s in forgets j.meaning (value_at taking t l s e env)
        ((does_at taking t l s e).place env) ((does_at taking t l s e).parts env) (none-right j.faults _ none)
        (shown e (none-left j.faults _ none)) w

    pub sends : (c e : Expr) (w : World) → (W.send l c e s).faults ≡ []
        → SoundPart taking (NamesHaveValues taking s.locals) (simple_deals taking t l (simple.Send c e) s env w)
    sends c e w none =
        let rest = none-right (used l (judge c l s)) _ none in
        sound-bind taking (both (value_at taking t l s c env) (value_at taking t l s e env) w)
        (λ vs u. bind (visible taking Instr.Send [] vs u) (λ us v. if_none us v (Part.Gives env v)))
        (λ vs. length vs ≡ 2) (NamesHaveValues taking s.locals)
        (many-both taking 1 1 (value_at taking t l s c env) (value_at taking t l s e env)
        (one-of c (none-left (used l (judge c l s)) _ none)) (one-of e (none-left (used l (judge e l s)) _ rest)) w)
        (λ vs u len. stored taking (NamesHaveValues taking s.locals) env Instr.Send vs u len (λ k. refl) fit)

    pub assigns-to : (p e : Expr) (w : World) → (W.assignment l p e s).faults ≡ []
        → SoundPart taking (NamesHaveValues taking s.locals) (simple_deals taking t l (simple.Assign p e) s env w)
    assigns-to p e w none =
        let j = judge p l s in
        let k = judge e l s in
        let one = none-right j.faults _ none in
        let two = none-right (left_faults l j.meaning) _ one in
        assigned-in j.meaning (value_at taking t l s p env) ((does_at taking t l s p).place env)
        ((does_at taking t l s p).parts env) (given_by k) (value_at taking t l s e env)
        (none-right (used l k) _ two) (none-left (left_faults l j.meaning) _ one)
        (shown p (none-left j.faults _ none)) (value-of e (none-left (used l k) _ two)) w

    pub steps-on : (p : Expr) (o : UpdateOperator) (w : World) → (W.step l p s).faults ≡ []
        → SoundPart taking (NamesHaveValues taking s.locals)
        (updates taking (does_at taking t l s p) one (update_operation o) env w)
    steps-on p o w none =
        let j = judge p l s in
        let rest = none-right (named_or_used l j) _ none in
        updating s.locals env ((does_at taking t l s p).place env) ((does_at taking t l s p).parts env) one
        (update_operation o) (calculates o)
        (int-place j.meaning (value_at taking t l s p env) ((does_at taking t l s p).place env)
        ((does_at taking t l s p).parts env)
        (kept l 8 _ (none-left (broken l 8 (has_base base.Int (given j.meaning))) _ rest))
        (kept l 10 _ (none-right (broken l 8 (has_base base.Int (given j.meaning))) _ rest))
        (shown p (none-left j.faults _ (none-left (named_or_used l j) _ none))))
        (λ u strict. refl) w

    pub updates-by : (p : Expr) (o : UpdateOperator) (e : Expr) (w : World) → (W.update l p e s).faults ≡ []
        → SoundPart taking (NamesHaveValues taking s.locals) (simple_deals taking t l (simple.Update p o e) s env w)
    updates-by p o e w none =
        let j = judge p l s in
        let k = judge e l s in
        let one = none-right (named_or_used l j) _ none in
        let two = none-right (used l k) _ one in
        let ints = and_parts (has_base base.Int (given j.meaning)) (has_base base.Int (given_by k))
        (kept l 8 _ (none-left (broken l 8 (has_base base.Int (given j.meaning) && has_base base.Int (given_by k)))
        _ two)) in
        updating s.locals env ((does_at taking t l s p).place env) ((does_at taking t l s p).parts env)
        (value_at taking t l s e env) (update_operation o) (calculates o)
        (int-place j.meaning (value_at taking t l s p env) ((does_at taking t l s p).place env)
        ((does_at taking t l s p).parts env) ints.0
        (kept l 10 _ (none-right (broken l 8
        (has_base base.Int (given j.meaning) && has_base base.Int (given_by k))) _ two))
        (shown p (none-left j.faults _ (none-left (named_or_used l j) _ none))))
        (based taking base.Int (given_by k) (value_at taking t l s e env) ints.1
        (value-of e (none-left (used l k) _ one))) w

    pub defines : (n : List ℕ) (e : Expr) (w : World) → (W.definition l n e s).faults ≡ []
        → SoundPart taking (NamesHaveValues taking (behind s (W.definition l n e s)).locals)
        (simple_deals taking t l (simple.Define n e) s env w)
    defines n e w none =
        let j = judge e l s in
        let one = none-right (used l j) _ none in
        let two = none-right (broken l 2 _) _ one in
        let v = typed taking (given_by j) (value_at taking t l s e env) (kept l 23 _ (none-left (broken l 23 _) _ two))
        (value-of e (none-left (used l j) _ none)) in
        declaring s.locals s n (type_given (given_by j)) v.0 env (value_at taking t l s e env) v.1 fit v.2 w

    -- variables

    pub begins : (n : List ℕ) (x : VarContent) (w : World) → (W.var_content l n x s).faults ≡ []
        → SoundPart taking (NamesHaveValues taking (behind s (W.var_content l n x s)).locals)
        (bind (first_value taking t l x s env w) (declared env n))
    begins n (content.Zero x) w none =
        let k = written-known x l s (none-left (write x l s).faults _ none) in
        declaring s.locals s n (write x l s).type k.0 env (first_value taking t l (content.Zero x) s env) k.1 fit
        (subst (λ o. Yields taking (value_type k.0) (λ u. Part.Gives (zero_of (zero_value o) ∷ []) u)) (sym k.1)
        (λ u strict. zero-fits k.0.layers k.0.base)) w
    begins n (content.Typed x e) w none =
        let j = judge e l s in
        let k = written-known x l s (none-left (write x l s).faults _ none) in
        let one = none-right (write x l s).faults _ none in
        let two = none-right (used l j) _ one in
        let holds = subst (λ o. assignable (given_by j) o ≡ true) k.1 (kept l 9 _ (none-right (broken l 2 _) _ two)) in
        declaring s.locals s n (write x l s).type k.0 env (value_at taking t l s e env) k.1 fit
        (assigned-to taking (given_by j) k.0 (value_at taking t l s e env) holds
        (value-of e (none-left (used l j) _ one))) w
    begins n (content.Untyped e) w none =
        let j = judge e l s in
        let one = none-right (used l j) _ none in
        let v = typed taking (given_by j) (value_at taking t l s e env) (kept l 23 _ (none-right (broken l 2 _) _ one))
        (value-of e (none-left (used l j) _ none)) in
        declaring s.locals s n (type_given (given_by j)) v.0 env (value_at taking t l s e env) v.1 fit v.2 w
