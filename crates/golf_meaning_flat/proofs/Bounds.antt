-- If the code does at each bound what is meant, the two agree, whichever way they are bounded.
-- For: `exec`, golf_meaning_flat/specs/Flat.antt; the law `both_ways`, src/lib.rt.
-- By: induction over n, the instructions that may still be done.
use Rattle.std.proofs.Common.{◌≡◌, ℕ, zero, suc, ◌+◌, ◌≤◌, Bool, true, false, cond, List, [], ◌∷◌, ◌++◌, Option, Some}
use Rattle.std.proofs.Common.{None, refl, ap, sym, ◌∙◌, subst, ⊎_elim, slice_get, arith, append_assoc, append-nil, ℤ}
use Rattle.std.proofs.Common.{int_lt, int_le}
use Rattle.std.proofs.lemmas.Bool.{cases_lt}
use Rattle.golf_data.specs.declared.value.Value.{Value}
use Rattle.golf_data.specs.declared.code.Instr.{Instr}
use Rattle.golf_data.specs.declared.code.CodeLine.{CodeLine}
use Rattle.golf_data.specs.declared.code.SelectCase.{SelectCase}
use Rattle.golf_model.specs.Values.{int_of, bool_of, equality, is_zero}
use Rattle.golf_model.specs.Arithmetic.{sum, difference, product, quotient, remainder}
use Rattle.golf_meaning_flat.specs.Worlds.{Misfit, Operation, Answer, Halt, End, Told, World, Part, bind, asks, asked}
use Rattle.golf_meaning_flat.specs.Worlds.{done}
use Rattle.golf_meaning_flat.specs.Counts.{is_counted}
use Rattle.golf_meaning_flat.specs.InstructionEffects.{Frame, Act, on_some, on_kind, gets, one, two, some_from}
use Rattle.golf_meaning_flat.specs.InstructionEffects.{chosen_by, negated}
use Rattle.golf_meaning_flat.specs.InstructionEffects.{inverted, ints, computed, divided, compared, equated, Doing}
use Rattle.golf_meaning_flat.specs.InstructionEffects.{doing}
use Rattle.golf_meaning_flat.specs.InstructionEffects as D
use Rattle.golf_meaning_flat.specs.Flat.{on_clause, targets, lower, clause_of, picks, tests, Next, ended, does, at_line}
use Rattle.golf_meaning_flat.specs.Flat.{exec}
use Rattle.golf_meaning_flat.specs.Laws.{BeginsWith, IsPrefix, IsPartOf, Said, Done, IsRuled, BothWays}

begins-self : (os : List Operation) → BeginsWith os os
begins-self os = ([], sym (append-nil os))

begins-then : (a b c : List Operation) → BeginsWith b a → BeginsWith c b → BeginsWith c a
begins-then a b c h k = (h.0 ++ k.0, k.1 ∙ ap (λ x. x ++ k.0) h.1 ∙ append_assoc a h.0 k.0)

-- what is done before stays done

abbrev Keeps : {A : Type 0} → List Operation → Part A → Type 0
Keeps os (Part.Gives a u) = BeginsWith u.operations os
Keeps os (Part.Stops h done) = BeginsWith done os

keeps-some : {A X : Type 0} (w : World) (f : X → Part A) (m : Option X) → ((x : X) → Keeps w.operations (f x))
    → Keeps w.operations (on_some f w m)
keeps-some w f None h = begins-self w.operations
keeps-some w f (Some x) h = h x

keeps-kind : {A X : Type 0} (w : World) (f : X → Part A) (m : Option X) → ((x : X) → Keeps w.operations (f x))
    → Keeps w.operations (on_kind f w m)
keeps-kind w f None h = begins-self w.operations
keeps-kind w f (Some x) h = h x

keeps-one : {A : Type 0} (w : World) (f : Value → List Value → Part A) (vs : List Value)
    → ((x : Value) (rest : List Value) → Keeps w.operations (f x rest)) → Keeps w.operations (one w f vs)
keeps-one w f [] h = begins-self w.operations
keeps-one w f (v ∷ vs) h = h v vs

keeps-two : {A : Type 0} (w : World) (f : Value → Value → List Value → Part A) (vs : List Value)
    → ((x y : Value) (rest : List Value) → Keeps w.operations (f x y rest)) → Keeps w.operations (two w f vs)
keeps-two w f [] h = begins-self w.operations
keeps-two w f (v ∷ []) h = begins-self w.operations
keeps-two w f (y ∷ x ∷ vs) h = h x y vs

keeps-from : {A : Type 0} (w : World) (n : ℕ) (acc ops : List Value) (f : List Value → List Value → Part A)
    → ((vs rest : List Value) → Keeps w.operations (f vs rest)) → Keeps w.operations (some_from w n acc f ops)
keeps-from w zero acc ops f h = h acc ops
keeps-from w (suc n) acc [] f h = begins-self w.operations
keeps-from w (suc n) acc (v ∷ ops) f h = keeps-from w n (v ∷ acc) ops f h

keeps-bind : {A B : Type 0} (os : List Operation) (p : Part A) (f : A → World → Part B) → Keeps os p
    → ((a : A) (u : World) → Keeps u.operations (f a u)) → Keeps os (bind p f)
keeps-bind {B = B} os (Part.Gives a u) f h k = keeps-on (f a u) (k a u)
  where
    keeps-on : (q : Part B) → Keeps u.operations q → Keeps os q
    keeps-on (Part.Gives b v) r = begins-then os u.operations v.operations h r
    keeps-on (Part.Stops s done) r = begins-then os u.operations done h r
keeps-bind {B = B} os (Part.Stops s done) f h k = h

keeps-asked : (os : List Operation) (o : Operation) (xs : List Answer) → Keeps os (asked xs (os ++ o ∷ []))
keeps-asked os o [] = (o ∷ [], refl)
keeps-asked os o (a ∷ more) = (o ∷ [], refl)

keeps-asks : (i : Instr) (vs : List Value) (w : World) → Keeps w.operations (asks i vs w)
keeps-asks i vs w = keeps-asked w.operations (record { instr = i; operands = vs }) w.answers

keeps-chosen : {A : Type 0} (os : List Operation) (b : Bool) (p q : Part A) → Keeps os p → Keeps os q
    → Keeps os (chosen_by b p q)
keeps-chosen os true p q h k = h
keeps-chosen os false p q h k = k

abbrev KeepsAct : Act → Type 0
KeepsAct f = (c : Frame) (w : World) → Keeps w.operations (f c w)

abbrev KeepsDoing : Doing → Type 0
KeepsDoing (Doing.Acts f) = KeepsAct f
KeepsDoing _ = Unit {0}

keeps-push : (v : Value) → KeepsAct (D.pushes v)
keeps-push v c w = begins-self w.operations

keeps-on-one : (f : World → Value → Part Value) → ((w : World) (x : Value) → Keeps w.operations (f w x))
    → KeepsAct (D.acts_on_one f)
keeps-on-one f h c w = keeps-one w _ c.operands
    (λ x rest. keeps-bind w.operations (f w x) _ (h w x) (λ v u. begins-self u.operations))

keeps-on-two : (f : World → Value → Value → Part Value) → ((w : World) (x y : Value) → Keeps w.operations (f w x y))
    → KeepsAct (D.acts_on_two f)
keeps-on-two f h c w = keeps-two w _ c.operands
    (λ x y rest. keeps-bind w.operations (f w x y) _ (h w x y) (λ v u. begins-self u.operations))

keeps-ints : {A : Type 0} (w : World) (f : ℤ → ℤ → Part A) (x y : Value) → ((m n : ℤ) → Keeps w.operations (f m n))
    → Keeps w.operations (ints w f x y)
keeps-ints w f x y h = keeps-kind w _ (int_of x) (λ m. keeps-kind w _ (int_of y) (λ n. h m n))

keeps-computed : (f : ℤ → ℤ → ℤ) → KeepsAct (D.acts_on_two (computed f))
keeps-computed f = keeps-on-two (computed f) (λ w x y. keeps-ints w _ x y (λ m n. begins-self w.operations))

keeps-divided : (f : ℤ → ℤ → ℤ) → KeepsAct (D.acts_on_two (divided f))
keeps-divided f = keeps-on-two (divided f)
    (λ w x y. keeps-ints w _ x y (λ m n. keeps-chosen w.operations (is_zero n) _ _ (begins-self w.operations)
    (begins-self w.operations)))

keeps-compared : (f : ℤ → ℤ → Bool) → KeepsAct (D.acts_on_two (compared f))
keeps-compared f = keeps-on-two (compared f) (λ w x y. keeps-ints w _ x y (λ m n. begins-self w.operations))

keeps-gets : (gives : List Bool) (i : Instr) (vs : List Value) (w : World) → Keeps w.operations (gets gives i vs w)
keeps-gets gives i vs w = keeps-bind w.operations (asks i vs w) _ (keeps-asks i vs w)
    (λ a u. keeps-chosen u.operations (is_counted gives i a) _ _ (begins-self u.operations) (begins-self u.operations))

keeps-shows : (gives : List Bool) (i : Instr) → KeepsAct (D.shows gives i)
keeps-shows gives i c w = keeps-from w _ [] c.operands _
    (λ vs rest. keeps-bind w.operations (gets gives i vs w) _ (keeps-gets gives i vs w)
    (λ a u. begins-self u.operations))

keeps-doing : (gives : List Bool) (i : Instr) → KeepsDoing (doing gives i)
keeps-doing gives (Instr.Int n) = keeps-push (Value.Int n)
keeps-doing gives (Instr.Bool b) = keeps-push (Value.Bool b)
keeps-doing gives (Instr.Text k) = keeps-push (Value.Text k)
keeps-doing gives Instr.Unit = keeps-push Value.Unit
keeps-doing gives Instr.Nil = keeps-push Value.Nil
keeps-doing gives (Instr.Load i) = λ c w. keeps-some w _ (slice_get c.slots i) (λ v. begins-self w.operations)
keeps-doing gives (Instr.Store i) = λ c w. keeps-one w _ c.operands
    (λ v rest. keeps-some w _ (slice_get c.slots i) (λ old. begins-self w.operations))
keeps-doing gives Instr.Drop = λ c w. keeps-one w _ c.operands (λ v rest. begins-self w.operations)
keeps-doing gives Instr.Dup = λ c w. keeps-one w _ c.operands (λ v rest. begins-self w.operations)
keeps-doing gives Instr.Dup2 = λ c w. keeps-two w _ c.operands (λ x y rest. begins-self w.operations)
keeps-doing gives Instr.Neg = keeps-on-one negated (λ w x. keeps-kind w _ (int_of x) (λ n. begins-self w.operations))
keeps-doing gives Instr.Not = keeps-on-one inverted (λ w x. keeps-kind w _ (bool_of x) (λ b. begins-self w.operations))
keeps-doing gives Instr.Add = keeps-computed sum
keeps-doing gives Instr.Sub = keeps-computed difference
keeps-doing gives Instr.Mul = keeps-computed product
keeps-doing gives Instr.Div = keeps-divided quotient
keeps-doing gives Instr.Rem = keeps-divided remainder
keeps-doing gives Instr.Eq = keeps-on-two equated
    (λ w x y. keeps-kind w _ (equality x y) (λ b. begins-self w.operations))
keeps-doing gives Instr.Less = keeps-compared int_lt
keeps-doing gives Instr.AtMost = keeps-compared int_le
keeps-doing gives (Instr.Jump t) = tt
keeps-doing gives (Instr.JumpIfNot t) = tt
keeps-doing gives (Instr.Select cases otherwise) = tt
keeps-doing gives Instr.Return = λ c w. begins-self w.operations
keeps-doing gives Instr.ReturnValue = λ c w. keeps-one w _ c.operands (λ v rest. begins-self w.operations)
keeps-doing gives Instr.Panic = λ c w. keeps-from w 1 [] c.operands _
    (λ vs rest. keeps-bind w.operations (asks Instr.Panic vs w) (λ a u. D.miscount u) (keeps-asks Instr.Panic vs w)
    (λ a u. begins-self u.operations))
keeps-doing gives i = keeps-shows gives i

keeps-tests : (c : Frame) (w : World) → Keeps w.operations (tests c w)
keeps-tests c w = keeps-one w _ c.operands (λ x rest. keeps-kind w _ (bool_of x) (λ b. begins-self w.operations))

keeps-clause : {A X : Type 0} (w : World) (f : X → Part A) (m : Option X) → ((x : X) → Keeps w.operations (f x))
    → Keeps w.operations (on_clause f w m)
keeps-clause w f None h = begins-self w.operations
keeps-clause w f (Some x) h = h x

keeps-picks : (gives : List Bool) (label : ℕ → ℕ) (cs : List SelectCase) (o : Option ℕ) (c : Frame) (w : World)
    → Keeps w.operations (picks gives label cs o c w)
keeps-picks gives label cs o c w = keeps-from w _ [] c.operands _
    (λ vs rest. keeps-bind w.operations (gets gives _ vs w) _ (keeps-gets gives _ vs w)
    (λ a u. keeps-clause u _ (clause_of label a.clause cs o) (λ t. begins-self u.operations)))

abbrev KeepsNext : Next → Type 0
KeepsNext f = (at : ℕ) (c : Frame) (w : World) → BeginsWith (f at c w).operations w.operations

ended-keeps : {A : Type 0} (os : List Operation) (p : Part A) (f : A → World → Told) → Keeps os p
    → ((a : A) (u : World) → BeginsWith (f a u).operations u.operations) → BeginsWith (ended p f).operations os
ended-keeps os (Part.Gives a u) f h k = begins-then os u.operations (f a u).operations h (k a u)
ended-keeps os (Part.Stops s done) f h k = h

does-keeps : (gives : List Bool) (d : Doing) (f : Next) → KeepsDoing d → KeepsNext f → KeepsNext (does gives d f)
does-keeps gives (Doing.Acts g) f h k at c w = ended-keeps w.operations (g c w) _ (h c w) (λ d u. k (at + 1) d u)
does-keeps gives (Doing.Jumps t) f h k at c w = k t c w
does-keeps gives (Doing.Tests t) f h k at c w =
    ended-keeps w.operations (tests c w) _ (keeps-tests c w) (λ r u. k (cond r.0 (at + 1) t) r.1 u)
does-keeps gives (Doing.Chooses cs o) f h k at c w =
    ended-keeps w.operations (picks gives (lower (targets cs o)) cs o c w) _
    (keeps-picks gives (lower (targets cs o)) cs o c w) (λ r u. k r.0 r.1 u)

line-keeps : (gives : List Bool) (o : Option CodeLine) (f : Next) → KeepsNext f → KeepsNext (at_line gives o f)
line-keeps gives None f k at c w = begins-self w.operations
line-keeps gives (Some l) f k at c w = does-keeps gives (doing gives l.instr) f (keeps-doing gives l.instr) k at c w

exec-keeps : (gives : List Bool) (code : List CodeLine) (n : ℕ) → KeepsNext (exec gives code n)
exec-keeps gives code zero at c w = begins-self w.operations
exec-keeps gives code (suc n) at c w = line-keeps gives (slice_get code at) (exec gives code n)
    (exec-keeps gives code n) at c w

-- more instructions change nothing of what has ended

abbrev Grows : Next → Next → Type 0
Grows f g = (at : ℕ) (c : Frame) (w : World) → IsPartOf (f at c w) (g at c w)

ended-grows : {A : Type 0} (p : Part A) (f g : A → World → Told) → ((a : A) (u : World) → IsPartOf (f a u) (g a u))
    → IsPartOf (ended p f) (ended p g)
ended-grows (Part.Gives a u) f g h = h a u
ended-grows (Part.Stops s done) f g h = refl

does-grows : (gives : List Bool) (d : Doing) (f g : Next) → Grows f g → Grows (does gives d f) (does gives d g)
does-grows gives (Doing.Acts a) f g h at c w = ended-grows (a c w) _ _ (λ d u. h (at + 1) d u)
does-grows gives (Doing.Jumps t) f g h at c w = h t c w
does-grows gives (Doing.Tests t) f g h at c w = ended-grows (tests c w) _ _ (λ r u. h (cond r.0 (at + 1) t) r.1 u)
does-grows gives (Doing.Chooses cs o) f g h at c w =
    ended-grows (picks gives (lower (targets cs o)) cs o c w) _ _ (λ r u. h r.0 r.1 u)

line-grows : (gives : List Bool) (o : Option CodeLine) (f g : Next) → Grows f g
    → Grows (at_line gives o f) (at_line gives o g)
line-grows gives None f g h at c w = refl
line-grows gives (Some l) f g h at c w = does-grows gives (doing gives l.instr) f g h at c w

exec-grows : (gives : List Bool) (code : List CodeLine) (m n : ℕ) → m ≤ n
    → Grows (exec gives code m) (exec gives code n)
exec-grows gives code zero n le at c w = exec-keeps gives code n at c w
exec-grows gives code (suc m) zero le at c w = absurd (omega (arith, le))
exec-grows gives code (suc m) (suc n) le at c w =
    line-grows gives (slice_get code at) (exec gives code m) (exec gives code n)
    (exec-grows gives code m n (omega (arith, le))) at c w

-- both ways

within-self : (os : List Operation) (e : End)
    → IsPrefix e (record { operations = os; end = e }) (record { operations = os; end = e })
within-self os (End.Halts h) = refl
within-self os End.Short = begins-self os

-- a halt that is ruled is said
halts : (h : Halt) {P : Type 0} → IsRuled (End.Halts h) → Said h P → P
halts (Halt.Unfit Misfit.OfAnswer) ruled d = absurd ruled
halts (Halt.Unfit Misfit.OfRule) ruled d = absurd ruled
halts _ ruled d = d

module _ (gives : List Bool) (code : List CodeLine) (c : Frame) (w : World) where
  abbrev G : ℕ → Told
  G m = exec gives code m 0 c w

  abbrev T : List Operation → End → Told
  T os e = record { operations = os; end = e }

  ahead : (os : List Operation) (e : End) → (j : ℕ) × (G j ≡ T os e) → (m : ℕ) × IsPartOf (T os e) (G m)
  ahead os e d = (d.0, subst (λ t. IsPrefix e (T os e) t) (sym d.1) (within-self os e))

  forth-from : (n : ℕ) (os : List Operation) (e : End) → Done gives code c w n (T os e) e → IsRuled e → (m : ℕ)
      × IsPartOf (T os e) (G m)
  forth-from n os (End.Halts h) d ruled = ahead os (End.Halts h) (halts h ruled d)
  forth-from n os End.Short d ruled = ahead os End.Short (d.0, d.2)

  -- what has ended after j instructions has ended so after m
  ended-same : (m j : ℕ) (os : List Operation) (h : Halt) → G j ≡ T os (End.Halts h)
      → IsPartOf (G m) (T os (End.Halts h))
  ended-same m j os h e =
      ⊎_elim
      (λ lt. subst (λ t. IsPartOf (G m) t) e (exec-grows gives code m j (omega (arith, lt)) 0 c w))
      (λ le.
      let same : G m ≡ T os (End.Halts h) = subst (λ t. IsPartOf t (G m)) e (exec-grows gives code j m le 0 c w) in
      subst (λ t. IsPartOf t (T os (End.Halts h))) (sym same) refl)
      (cases_lt m j)

  back-from : (m : ℕ) (os : List Operation) (e : End) → Done gives code c w m (T os e) e → IsRuled e
      → IsPartOf (G m) (T os e)
  back-from m os (End.Halts h) d ruled = let j = halts h ruled d in ended-same m j.0 os h j.1
  back-from m os End.Short d ruled = subst (λ t. IsPartOf (G m) t) d.2 (exec-grows gives code m d.0 d.1 0 c w)

pub both-ways : BothWays
both-ways gives code c w f d ruled = record {
  forth = λ n. forth-from gives code c w n (f n).operations (f n).end (d n) (ruled n);
  back = λ m. (m, back-from gives code c w m (f m).operations (f m).end (d m) (ruled m));
}
