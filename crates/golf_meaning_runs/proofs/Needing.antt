-- A slot that is not needed at a place decides nothing of what the code means from there on.
-- For: `NeededDecide`, golf_meaning_runs/specs/TurnLaws.antt; the law `needed_slots_decide`, src/lib.rt.
-- By: induction over n, the instructions that may still be done; cases of the instruction.
use Rattle.std.proofs.Common.{◌≡◌, ℕ, zero, suc, ◌+◌, ◌==◌, Bool, true, false, cond, List, [], ◌∷◌, ◌++◌, length, map}
use Rattle.std.proofs.Common.{Option, Some, None, inl, inr, refl, ap, sym, ◌∙◌, subst, slice_get, slice_set, int_lt}
use Rattle.std.proofs.Common.{int_le, arith}
use Rattle.std.specs.Prelude.{option_to_list}
use Rattle.std.specs.Option.{option_map}
use Rattle.std.proofs.lemmas.Bool.{eqb-true, eqb-false}
use Rattle.golf_theory.specs.Membership.{In}
use Rattle.golf_data.specs.declared.value.Value.{Value}
use Rattle.golf_data.specs.declared.code.Instr.{Instr}
use Rattle.golf_data.specs.declared.code.CodeLine.{CodeLine}
use Rattle.golf_data.specs.declared.code.SelectCase.{SelectCase}
use Rattle.golf_data.specs.Effects.{taken, cases_taken}
use Rattle.golf_live.specs.Paths.{successors, Needed}
use Rattle.golf_model.specs.Values.{bool_of}
use Rattle.golf_model.specs.Arithmetic.{sum, difference, product, quotient, remainder}
use Rattle.golf_meaning_flat.specs.Worlds.{Answer, Told, World, Part, bind, asks, pushed}
use Rattle.golf_meaning_flat.specs.InstructionEffects.{Frame, Act, on_some, on_kind, one, two, some_from, doing}
use Rattle.golf_meaning_flat.specs.InstructionEffects as D
use Rattle.golf_meaning_flat.specs.Flat.{on_clause, targets, lower, relabelled, default_of, clause_of, Next, ended}
use Rattle.golf_meaning_flat.specs.Flat.{does, at_line, exec}
use Rattle.golf_meaning_runs.specs.TurnLaws.{AlikeAt, NeededDecide}

-- slots of the same number, one of which is stored

set-length : (xs : List Value) (i : ℕ) (v : Value) → length (slice_set xs i v) ≡ length xs
set-length [] i v = refl
set-length (x ∷ xs) zero v = refl
set-length (x ∷ xs) (suc i) v = ap suc (set-length xs i v)

set-other : (xs : List Value) (i j : ℕ) (v : Value) → (j ≡ i → ⊥) → slice_get (slice_set xs i v) j ≡ slice_get xs j
set-other [] i j v n = refl
set-other (x ∷ xs) zero zero v n = absurd (n refl)
set-other (x ∷ xs) zero (suc j) v n = refl
set-other (x ∷ xs) (suc i) zero v n = refl
set-other (x ∷ xs) (suc i) (suc j) v n = set-other xs i j v (λ e. n (ap suc e))

set-both : (xs ys : List Value) (i : ℕ) (v : Value) → length xs ≡ length ys
    → slice_get (slice_set xs i v) i ≡ slice_get (slice_set ys i v) i
set-both [] [] i v e = refl
set-both [] (y ∷ ys) i v e = absurd (omega (arith, e))
set-both (x ∷ xs) [] i v e = absurd (omega (arith, e))
set-both (x ∷ xs) (y ∷ ys) zero v e = refl
set-both (x ∷ xs) (y ∷ ys) (suc i) v e = set-both xs ys i v (omega (arith, e))

-- both are there, or neither is
abbrev Together : Option Value → Option Value → Type 0
Together None None = Unit {0}
Together (Some x) (Some y) = Unit {0}
Together _ _ = ⊥

together : (xs ys : List Value) (i : ℕ) → length xs ≡ length ys → Together (slice_get xs i) (slice_get ys i)
together [] [] i e = tt
together [] (y ∷ ys) i e = absurd (omega (arith, e))
together (x ∷ xs) [] i e = absurd (omega (arith, e))
together (x ∷ xs) (y ∷ ys) zero e = tt
together (x ∷ xs) (y ∷ ys) (suc i) e = together xs ys i (omega (arith, e))

-- two parts after which the same is told

module _ {A : Type 0} (k : A → World → Told) where
  abbrev Alike : Part A → Part A → Type 0
  Alike p q = ended p k ≡ ended q k

  alike-one : (w : World) (f g : Value → List Value → Part A) (os : List Value)
      → ((x : Value) (rest : List Value) → Alike (f x rest) (g x rest)) → Alike (one w f os) (one w g os)
  alike-one w f g [] h = refl
  alike-one w f g (x ∷ rest) h = h x rest

  alike-two : (w : World) (f g : Value → Value → List Value → Part A) (os : List Value)
      → ((x y : Value) (rest : List Value) → Alike (f x y rest) (g x y rest)) → Alike (two w f os) (two w g os)
  alike-two w f g [] h = refl
  alike-two w f g (y ∷ []) h = refl
  alike-two w f g (y ∷ (x ∷ rest)) h = h x y rest

  alike-some : {X : Type 0} (w : World) (f g : X → Part A) (m : Option X) → ((x : X) → Alike (f x) (g x))
      → Alike (on_some f w m) (on_some g w m)
  alike-some w f g None h = refl
  alike-some w f g (Some x) h = h x

  alike-from : (w : World) (n : ℕ) (acc os : List Value) (f g : List Value → List Value → Part A)
      → ((vs rest : List Value) → Alike (f vs rest) (g vs rest))
      → Alike (some_from w n acc f os) (some_from w n acc g os)
  alike-from w zero acc os f g h = h acc os
  alike-from w (suc n) acc [] f g h = refl
  alike-from w (suc n) acc (v ∷ os) f g h = alike-from w n (v ∷ acc) os f g h

  alike-bind : {B : Type 0} (p : Part B) (f g : B → World → Part A) → ((x : B) (u : World) → Alike (f x u) (g x u))
      → Alike (bind p f) (bind p g)
  alike-bind (Part.Gives x u) f g h = h x u
  alike-bind (Part.Stops s os) f g h = refl

  alike-kind : {X : Type 0} (w : World) (f g : X → Part A) (m : Option X) → ((x : X) → Alike (f x) (g x))
      → Alike (on_kind f w m) (on_kind g w m)
  alike-kind w f g None h = refl
  alike-kind w f g (Some x) h = h x

  alike-clause : {X : Type 0} (w : World) (f g : X → Part A) (m : Option X) → ((x : X) → m ≡ Some x → Alike (f x) (g x))
      → Alike (on_clause f w m) (on_clause g w m)
  alike-clause w f g None h = refl
  alike-clause w f g (Some x) h = h x refl

-- the clause that an answer names goes on at one of the targets

default-in : (label : ℕ → ℕ) (clause : ℕ) (o : Option ℕ) (t : ℕ) → default_of label clause o ≡ Some t
    → In t (option_to_list o)
default-in label clause None t e = cc
default-in label clause (Some x) t e = elim (label x == clause) as (λ b. cond b (Some x) None ≡ Some t
    → In t (x ∷ [])) [ true ↦ λ q. inl (cc) | false ↦ λ q. absurd (none q) ] e
  where
    none : ◌≡◌ {A = Option ℕ} None (Some t) → ⊥
    none q = cc

clause-in : (label : ℕ → ℕ) (clause : ℕ) (cs : List SelectCase) (o : Option ℕ) (t : ℕ)
    → clause_of label clause cs o ≡ Some t → In t (map (λ (c : SelectCase). c.target) cs ++ option_to_list o)
clause-in label clause [] o t e = default-in label clause o t e
clause-in label clause (c ∷ cs) o t e = elim (label c.target == clause) as (λ b. cond b (Some c.target)
    (clause_of label clause cs o) ≡ Some t
    → In t (map (λ (c : SelectCase). c.target) (c ∷ cs) ++ option_to_list o)) [
      | true ↦ λ q. inl (same q)
      | false ↦
          λ q. inr (clause-in label clause cs o t q)
    ] e
  where
    same : Some c.target ≡ Some t → t ≡ c.target
    same q = cc

module _ (gives : List Bool) (body : List CodeLine) where
  -- the same is told from a place on, whatever its slots hold that are not needed
  abbrev Same : Next → Type 0
  Same f = (at : ℕ) (xs ys os : List Value) (w : World) → AlikeAt body at xs ys
      → f at (record { slots = xs; operands = os }) w ≡ f at (record { slots = ys; operands = os }) w

  module _ (f : Next) (h : Same f) (at : ℕ) (l : CodeLine) (is : slice_get body at ≡ Some l) (xs ys : List Value)
      (same : AlikeAt body at xs ys) where
    abbrev X : List Value → Frame
    X os = record { slots = xs; operands = os }

    abbrev Y : List Value → Frame
    Y os = record { slots = ys; operands = os }

    -- an instruction that stores nothing
    abbrev Storing : Instr → Type 0
    Storing i = (slot : ℕ) → i ≡ Instr.Store slot → ⊥

    on-to : (i : Instr) → l.instr ≡ i → Storing i → (to : ℕ) → In to (successors i at) → AlikeAt body to xs ys
    on-to i e keeps to m = (
      same.0,
      λ slot n. same.1 slot
          (Needed.Later at to l is (λ q. keeps slot (sym e ∙ q)) (subst (λ z. In to (successors z at)) (sym e) m) n),
    )

    abbrev AlikeAct : Act → Type 0
    AlikeAct g = (os : List Value) (w : World) → ended (g (X os) w) (f (at + 1)) ≡ ended (g (Y os) w) (f (at + 1))

    -- an operation with these operands, and its answer
    abbrev answered-in : (List Value → Frame) → List Value → Answer → World → Part Frame
    answered-in Z rest a u = D.goes (Z []) (pushed a.values rest) u

    abbrev shown-in : (List Value → Frame) → Instr → World → List Value → List Value → Part Frame
    shown-in Z i w vs rest = bind (D.gets gives i vs w) (answered-in Z rest)

    module _ (r : AlikeAt body (at + 1) xs ys) where
      -- with these operands it goes on
      go-on : (os : List Value) (w : World) → f (at + 1) (X os) w ≡ f (at + 1) (Y os) w
      go-on os w = h (at + 1) xs ys os w r

      on-push : (v : Value) → AlikeAct (D.pushes v)
      on-push v os w = go-on (v ∷ os) w

      on-one : (g : World → Value → Part Value) → AlikeAct (D.acts_on_one g)
      on-one g os w = alike-one (f (at + 1)) w _ _ os
          (λ x rest. alike-bind (f (at + 1)) (g w x) _ _ (λ v u. go-on (v ∷ rest) u))

      on-two : (g : World → Value → Value → Part Value) → AlikeAct (D.acts_on_two g)
      on-two g os w = alike-two (f (at + 1)) w _ _ os
          (λ x y rest. alike-bind (f (at + 1)) (g w x y) _ _ (λ v u. go-on (v ∷ rest) u))

      on-shows : (i : Instr) → AlikeAct (D.shows gives i)
      on-shows i os w = alike-from (f (at + 1)) w (taken i) [] os (shown-in X i w) (shown-in Y i w)
          (λ vs rest. alike-bind (f (at + 1)) (D.gets gives i vs w) (answered-in X rest) (answered-in Y rest)
          (λ a u. go-on (pushed a.values rest) u))

      load-from : (os : List Value) (w : World) (m n : Option Value) → m ≡ n
          → ended (on_some (λ v. D.goes (X os) (v ∷ os) w) w m) (f (at + 1)) ≡ ended
          (on_some (λ v. D.goes (Y os) (v ∷ os) w) w n) (f (at + 1))
      load-from os w m n e = subst (λ z. ended (on_some (λ v. D.goes (X os) (v ∷ os) w) w m) (f (at + 1)) ≡ ended
          (on_some (λ v. D.goes (Y os) (v ∷ os) w) w z) (f (at + 1))) e
          (alike-some (f (at + 1)) w _ _ m (λ v. go-on (v ∷ os) w))

    stored-alike : (i : ℕ) (v : Value) → l.instr ≡ Instr.Store i
        → AlikeAt body (at + 1) (slice_set xs i v) (slice_set ys i v)
    stored-alike i v e = (
      set-length xs i v ∙ same.0 ∙ sym (set-length ys i v),
      λ slot n. elim (slot == i) as (λ b. slot == i ≡ b
          → slice_get (slice_set xs i v) slot ≡ slice_get (slice_set ys i v) slot) [
            | true ↦ λ q. subst (λ z. slice_get (slice_set xs i v) z ≡ slice_get (slice_set ys i v) z)
                (sym (eqb-true slot i q)) (set-both xs ys i v same.0)
            | false ↦ λ q. let other = eqb-false slot i q in
                set-other xs i slot v other
                ∙ same.1 slot (Needed.Later at (at + 1) l is (λ z. differs slot other (sym e ∙ z))
                (subst (λ y. In (at + 1) (successors y at)) (sym e) (inl refl)) n)
                ∙ sym (set-other ys i slot v other)
          ] refl,
    )
      where
        differs : (slot : ℕ) → (slot ≡ i → ⊥) → Instr.Store i ≡ Instr.Store slot → ⊥
        differs slot n q = n cc

    store-from : (i : ℕ) (v : Value) (rest : List Value) (w : World) → l.instr ≡ Instr.Store i → (m n : Option Value)
        → Together m n
        → ended (on_some (λ (old : Value). Part.Gives (record { slots = slice_set xs i v; operands = rest }) w) w m)
        (f (at + 1)) ≡ ended (on_some (λ (old : Value). Part.Gives
        (record { slots = slice_set ys i v; operands = rest }) w) w n) (f (at + 1))
    store-from i v rest w e None None t = refl
    store-from i v rest w e None (Some y) t = absurd t
    store-from i v rest w e (Some x) None t = absurd t
    store-from i v rest w e (Some x) (Some y) t =
        h (at + 1) (slice_set xs i v) (slice_set ys i v) rest w (stored-alike i v e)

    -- a choice with these operands, and its answer
    abbrev choosing : ℕ × Frame → World → Told
    choosing r u = f r.0 r.1 u

    abbrev chosen-instr : List SelectCase → Option ℕ → Instr
    chosen-instr cs o = Instr.Select (map (relabelled (lower (targets cs o))) cs) (option_map (lower (targets cs o)) o)

    abbrev chosen-in : (List Value → Frame) → List SelectCase → Option ℕ → List Value → Answer → World
        → Part (ℕ × Frame)
    chosen-in Z cs o rest a u = on_clause (λ t. Part.Gives (t, Z (pushed a.values rest)) u) u
        (clause_of (lower (targets cs o)) a.clause cs o)

    abbrev picked-in : (List Value → Frame) → List SelectCase → Option ℕ → World → List Value → List Value
        → Part (ℕ × Frame)
    picked-in Z cs o w vs rest = bind (D.gets gives (chosen-instr cs o) vs w) (chosen-in Z cs o rest)

    abbrev Stepping : Instr → Type 0
    Stepping i = (os : List Value) (w : World)
        → does gives (doing gives i) f at (X os) w ≡ does gives (doing gives i) f at (Y os) w

    steps : (i : Instr) → l.instr ≡ i → Stepping i
    steps (Instr.Int n) e = on-push (on-to (Instr.Int n) e (λ slot q. cc) (at + 1) (inl refl)) (Value.Int n)
    steps (Instr.Bool b) e = on-push (on-to (Instr.Bool b) e (λ slot q. cc) (at + 1) (inl refl)) (Value.Bool b)
    steps (Instr.Text k) e = on-push (on-to (Instr.Text k) e (λ slot q. cc) (at + 1) (inl refl)) (Value.Text k)
    steps Instr.Unit e = on-push (on-to Instr.Unit e (λ slot q. cc) (at + 1) (inl refl)) Value.Unit
    steps Instr.Nil e = on-push (on-to Instr.Nil e (λ slot q. cc) (at + 1) (inl refl)) Value.Nil
    steps (Instr.Load i) e = λ os w. load-from (on-to (Instr.Load i) e (λ slot q. cc) (at + 1) (inl refl)) os w
        (slice_get xs i) (slice_get ys i) (same.1 i (Needed.Read at l is e))
    steps (Instr.Store i) e = λ os w. alike-one (f (at + 1)) w _ _ os
        (λ v rest. store-from i v rest w e (slice_get xs i) (slice_get ys i) (together xs ys i same.0))
    steps Instr.Drop e = λ os w. alike-one (f (at + 1)) w _ _ os
        (λ v rest. go-on (on-to Instr.Drop e (λ slot q. cc) (at + 1) (inl refl)) rest w)
    steps Instr.Dup e = λ os w. alike-one (f (at + 1)) w _ _ os
        (λ v rest. go-on (on-to Instr.Dup e (λ slot q. cc) (at + 1) (inl refl)) (v ∷ (v ∷ rest)) w)
    steps Instr.Dup2 e = λ os w. alike-two (f (at + 1)) w _ _ os
        (λ x y rest. go-on (on-to Instr.Dup2 e (λ slot q. cc) (at + 1) (inl refl)) (y ∷ (x ∷ (y ∷ (x ∷ rest)))) w)
    steps Instr.Neg e = on-one (on-to Instr.Neg e (λ slot q. cc) (at + 1) (inl refl)) D.negated
    steps Instr.Not e = on-one (on-to Instr.Not e (λ slot q. cc) (at + 1) (inl refl)) D.inverted
    steps Instr.Add e = on-two (on-to Instr.Add e (λ slot q. cc) (at + 1) (inl refl)) (D.computed sum)
    steps Instr.Sub e = on-two (on-to Instr.Sub e (λ slot q. cc) (at + 1) (inl refl)) (D.computed difference)
    steps Instr.Mul e = on-two (on-to Instr.Mul e (λ slot q. cc) (at + 1) (inl refl)) (D.computed product)
    steps Instr.Div e = on-two (on-to Instr.Div e (λ slot q. cc) (at + 1) (inl refl)) (D.divided quotient)
    steps Instr.Rem e = on-two (on-to Instr.Rem e (λ slot q. cc) (at + 1) (inl refl)) (D.divided remainder)
    steps Instr.Eq e = on-two (on-to Instr.Eq e (λ slot q. cc) (at + 1) (inl refl)) D.equated
    steps Instr.Less e = on-two (on-to Instr.Less e (λ slot q. cc) (at + 1) (inl refl)) (D.compared int_lt)
    steps Instr.AtMost e = on-two (on-to Instr.AtMost e (λ slot q. cc) (at + 1) (inl refl)) (D.compared int_le)
    steps (Instr.Jump t) e = λ os w. h t xs ys os w (on-to (Instr.Jump t) e (λ slot q. cc) t (inl refl))
    steps (Instr.JumpIfNot t) e = λ os w. alike-one (λ r u. f (cond r.0 (at + 1) t) r.1 u) w _ _ os
        (λ x rest. alike-kind (λ r u. f (cond r.0 (at + 1) t) r.1 u) w _ _ (bool_of x) (λ b. either b rest w))
      where
        either : (b : Bool) (rest : List Value) (w : World)
            → f (cond b (at + 1) t) (X rest) w ≡ f (cond b (at + 1) t) (Y rest) w
        either true rest w = h (at + 1) xs ys rest w (on-to (Instr.JumpIfNot t) e (λ slot q. cc) (at + 1) (inl refl))
        either false rest w = h t xs ys rest w (on-to (Instr.JumpIfNot t) e (λ slot q. cc) t (inr (inl refl)))
    steps (Instr.Select cases otherwise) e =
        λ os w. alike-from {A = ℕ × Frame} choosing w (cases_taken cases) [] os (picked-in X cases otherwise w)
        (picked-in Y cases otherwise w)
        (λ vs rest. alike-bind {A = ℕ × Frame} choosing (D.gets gives (chosen-instr cases otherwise) vs w)
        (chosen-in X cases otherwise rest) (chosen-in Y cases otherwise rest)
        (λ a u. alike-clause {A = ℕ × Frame} choosing u (λ t. Part.Gives (t, X (pushed a.values rest)) u)
        (λ t. Part.Gives (t, Y (pushed a.values rest)) u)
        (clause_of (lower (targets cases otherwise)) a.clause cases otherwise)
        (λ t q. h t xs ys (pushed a.values rest) u
        (on-to (Instr.Select cases otherwise) e (λ slot z. cc) t
        (clause-in (lower (targets cases otherwise)) a.clause cases otherwise t q)))))
    steps Instr.Return e = λ os w. refl
    steps Instr.ReturnValue e = λ os w. alike-one (f (at + 1)) w _ _ os (λ v rest. refl)
    steps Instr.Panic e = λ os w. alike-from (f (at + 1)) w 1 [] os
        (λ vs rest. bind (asks Instr.Panic vs w) (λ a u. D.miscount u))
        (λ vs rest. bind (asks Instr.Panic vs w) (λ a u. D.miscount u)) (λ vs rest. refl)
    steps i e = on-shows (on-to i e (λ slot q. cc) (at + 1) (inl refl)) i

  at-line : (f : Next) → Same f → (at : ℕ) (xs ys os : List Value) (w : World) → AlikeAt body at xs ys
      → (o : Option CodeLine) → slice_get body at ≡ o
      → at_line gives o f at (record { slots = xs; operands = os }) w ≡ at_line gives o f at
      (record { slots = ys; operands = os }) w
  at-line f h at xs ys os w same None is = refl
  at-line f h at xs ys os w same (Some l) is = steps f h at l is xs ys same l.instr refl os w

  same-exec : (n : ℕ) → Same (exec gives body n)
  same-exec zero at xs ys os w same = refl
  same-exec (suc n) at xs ys os w same = at-line (exec gives body n) (same-exec n) at xs ys os w same
      (slice_get body at) refl

pub needed-decide : NeededDecide
needed-decide gives body n at xs ys operands w same = same-exec gives body n at xs ys operands w same
