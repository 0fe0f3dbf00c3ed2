-- A turn of the machine on the frame of a call is one step of its life.
-- For: `TurnsAreLived`, golf_meaning_runs/specs/TurnsInLives.antt; the law `turns_are_lived`, src/lib.rt.
-- By: cases of the instruction; induction over the number of operands, and over the cases of a `select`.
use Rattle.std.proofs.Common.{◌≡◌, ℕ, zero, suc, ◌+◌, ◌<◌, ◌≤◌, ◌==◌, Bool, true, false, cond, List, [], ◌∷◌, ◌++◌}
use Rattle.std.proofs.Common.{length, Option, Some, None, inl, inr, refl, ap, sym, ◌∙◌, subst, slice_get, arith}
use Rattle.std.specs.Prelude.{nat_lt}
use Rattle.std.proofs.lemmas.Bool.{eqb-true, eqb-false, ltb-true, ltb-false}
use Rattle.golf_theory.specs.Membership.{In}
use Rattle.golf_data.specs.declared.value.Value.{Value}
use Rattle.golf_data.specs.declared.code.Code.{Code}
use Rattle.golf_data.specs.declared.code.CodeLine.{CodeLine}
use Rattle.golf_data.specs.declared.code.Function.{Function}
use Rattle.golf_data.specs.declared.code.Instr.{Instr}
use Rattle.golf_data.specs.declared.code.SelectCase.{SelectCase}
use Rattle.golf_data.specs.declared.goroutine.PanicKind.{PanicKind}
use Rattle.golf_data.specs.Effects.{taken, cases_taken}
use Rattle.golf_model.specs.Values.{text_of}
use Rattle.golf_model.specs.State.{State}
use Rattle.golf_model.specs.Changes.{Change}
use Rattle.golf_model.specs.Actors as M
use Rattle.golf_model.specs.Actors.{Actor, taking_one}
use Rattle.golf_model.specs.Turn.{changes}
use Rattle.golf_meaning_flat.specs.Worlds.{Operation, Answer, Halt, World, Part, bind, asks, pushed}
use Rattle.golf_meaning_flat.specs.InstructionEffects.{Frame, some_from, chosen_by, Doing, doing}
use Rattle.golf_meaning_flat.specs.InstructionEffects as D
use Rattle.golf_meaning_flat.specs.Counts.{is_counted}
use Rattle.golf_meaning_flat.specs.Flat.{on_clause, targets, lower, default_of, clause_of}
use Rattle.golf_meaning_runs.specs.FrameShapes.{Shaping, IsShaped, FitsShaping, giving_by}
use Rattle.golf_meaning_runs.specs.FlatSteps.{Stepped, stepped_by, stepped, frame_of, is_inner}
use Rattle.golf_meaning_runs.specs.FlatSteps.{IsTurnStep as I}
use Rattle.golf_meaning_runs.specs.VisibleOutcomes.{split_from, ComesBy, IsAwake}
use Rattle.golf_meaning_runs.specs.TurnLaws.{After, WaitsAfter, WaitsFor}
use Rattle.golf_meaning_runs.specs.Life.{world, frame, Now, Life}
use Rattle.golf_meaning_runs.specs.TurnsInLives.{operation, answer, choice_of, plain_shown, choice_shown, shows}
use Rattle.golf_meaning_runs.specs.TurnsInLives.{ended_by}
use Rattle.golf_meaning_runs.specs.TurnsInLives.{ends_with, Asking, IsLived, TurnsAreLived}
use Rattle.golf_meaning_runs.specs.TurnsInLives.IsLived.{Silent, Returns, Divides, NoRule, Shows, Chooses, Throws}
use Rattle.golf_meaning_runs.proofs.Counted.{plain-answer, choice-answer}
use Rattle.golf_meaning_runs.proofs.Inner.{inner-turns}
use Rattle.golf_meaning_runs.proofs.Showing.{visible-turns, choosing-turns}

one-some : {A : Type 0} (x y : A) → Some x ≡ Some y → x ≡ y
one-some x y e = cc

-- operands that are taken are those that are split off
abbrev pub of_split : {A : Type 0} → World → (List Value → List Value → Part A) → Option (List Value × List Value)
    → Part A
of_split w f None = D.unfit w
of_split w f (Some o) = f o.0 o.1

pub some-is : {A : Type 0} (w : World) (n : ℕ) (acc os : List Value) (f : List Value → List Value → Part A)
    → some_from w n acc f os ≡ of_split w f (split_from n acc os)
some-is w zero acc os f = refl
some-is w (suc n) acc [] f = refl
some-is w (suc n) acc (v ∷ os) f = some-is w n (v ∷ acc) os f

-- operands that are split off lie on the others
pub split-pushed : (n : ℕ) (acc os vs rest : List Value) → split_from n acc os ≡ Some (vs, rest)
    → pushed acc os ≡ pushed vs rest
split-pushed zero acc os vs rest e = ap (λ (x : List Value × List Value). pushed x.0 x.1)
    (one-some (acc, os) (vs, rest) e)
split-pushed (suc n) acc [] vs rest e = cc
split-pushed (suc n) acc (v ∷ os) vs rest e = split-pushed n (v ∷ acc) os vs rest e

pub split-length : (n : ℕ) (acc os vs rest : List Value) → split_from n acc os ≡ Some (vs, rest)
    → length vs ≡ n + length acc
split-length zero acc os vs rest e = let same =
    ap (λ (x : List Value × List Value). length x.0) (one-some (acc, os) (vs, rest) e) in omega (arith, same)
split-length (suc n) acc [] vs rest e = cc
split-length (suc n) acc (v ∷ os) vs rest e = let ih = split-length n (v ∷ acc) os vs rest e in omega (arith, ih)

-- a visible instruction without targets that has an answer
pub shows-it : (gives : List Bool) (i : Instr) → is_inner i ≡ false
    → ((cases : List SelectCase) (otherwise : Option ℕ) → i ≡ Instr.Select cases otherwise → ⊥) → (i ≡ Instr.Panic → ⊥)
    → doing gives i ≡ Doing.Acts (D.shows gives i)
shows-it gives (Instr.Select cases otherwise) e ns np = absurd (ns cases otherwise refl)
shows-it gives Instr.Panic e ns np = absurd (np refl)
shows-it gives i e ns np = cc

eqb-same : (n : ℕ) → (n == n) ≡ true
eqb-same n = elim (n == n) as (λ b. (n == n) ≡ b
    → b ≡ true) [ true ↦ λ q. refl | false ↦ λ q. absurd (eqb-false n n q refl) ] refl

shows-plain : (i : Instr) (os : List Value)
    → ((cases : List SelectCase) (otherwise : Option ℕ) → i ≡ Instr.Select cases otherwise → ⊥)
    → shows i os ≡ cond (is_inner i) None (plain_shown i (split_from (taken i) [] os))
shows-plain (Instr.Select cases otherwise) os ns = absurd (ns cases otherwise refl)
shows-plain i os ns = refl

-- the clause of a target leads to that target

lower-more : (ts : List ℕ) (x y : ℕ) → x ≤ y → lower ts x ≤ lower ts y
lower-more [] x y le = omega arith
lower-more (t ∷ ts) x y le = let ih = lower-more ts x y le in
    elim (nat_lt t x) as (λ b. nat_lt t x ≡ b
    → cond b (suc (lower ts x)) (lower ts x) ≤ cond (nat_lt t y) (suc (lower ts y)) (lower ts y)) [
      | true ↦ λ p. let lt = ltb-true t x p in elim (nat_lt t y) as (λ b. nat_lt t y ≡ b
          → suc (lower ts x) ≤ cond b (suc (lower ts y)) (lower ts y)) [
            | true ↦ λ q. omega (arith, ih)
            | false ↦ λ q. absurd (let ge = ltb-false t y q in omega (arith, lt, ge, le))
          ] refl
      | false ↦ λ p. elim (nat_lt t y) as (λ b. lower ts x ≤ cond b (suc (lower ts y)) (lower ts y)) [
        | true ↦ omega
            (arith, ih)
        | false ↦ ih
      ]
    ] refl

lower-less : (ts : List ℕ) (x y : ℕ) → In x ts → x < y → lower ts x < lower ts y
lower-less [] x y m lt = absurd m
lower-less (t ∷ ts) x y (inl e) lt =
    let ih = lower-more ts x y (omega (arith, lt)) in
    elim (nat_lt t x) as (λ b. nat_lt t x ≡ b
    → cond b (suc (lower ts x)) (lower ts x) < cond (nat_lt t y) (suc (lower ts y)) (lower ts y)) [
      | true ↦ λ p. absurd (let less = ltb-true t x p in omega (arith, less, e))
      | false ↦ λ p. elim (nat_lt t y) as (λ b. nat_lt t y ≡ b → lower ts x < cond b (suc (lower ts y)) (lower ts y)) [
        | true ↦ λ q. omega (arith, ih)
        | false ↦ λ q. absurd (let ge = ltb-false t y q in omega (arith, ge, lt, e))
      ] refl
    ] refl
lower-less (t ∷ ts) x y (inr m) lt =
    let ih = lower-less ts x y m lt in
    elim (nat_lt t x) as (λ b. nat_lt t x ≡ b
    → cond b (suc (lower ts x)) (lower ts x) < cond (nat_lt t y) (suc (lower ts y)) (lower ts y)) [
      | true ↦ λ p. let less = ltb-true t x p in elim (nat_lt t y) as (λ b. nat_lt t y ≡ b
          → suc (lower ts x) < cond b (suc (lower ts y)) (lower ts y)) [
            | true ↦ λ q. omega (arith, ih)
            | false ↦ λ q. absurd (let ge = ltb-false t y q in omega (arith, less, ge, lt))
          ] refl
      | false ↦ λ p. elim (nat_lt t y) as (λ b. lower ts x < cond b (suc (lower ts y)) (lower ts y)) [
        | true ↦ omega
            (arith, ih)
        | false ↦ ih
      ]
    ] refl

same-rank : (ts : List ℕ) (x y : ℕ) → In x ts → In y ts → lower ts x ≡ lower ts y → x ≡ y
same-rank ts x y m n e =
    elim (nat_lt x y) as (λ b. nat_lt x y ≡ b → x ≡ y) [
      | true ↦ λ p. absurd (let l = lower-less ts x y m (ltb-true x y p) in omega (arith, l, e))
      | false ↦ λ p. elim (nat_lt y x) as (λ b. nat_lt y x ≡ b → x ≡ y) [
        | true ↦ λ q. absurd (let l = lower-less ts y x n (ltb-true y x q) in omega (arith, l, e))
        | false ↦ λ q. let g = ltb-false x y p in let h = ltb-false y x q in omega (arith, g, h)
      ] refl
    ] refl

-- all targets that are looked through are targets of the choice
module _ (ts : List ℕ) (to : ℕ) (m : In to ts) where
  leads-default : (o : Option ℕ) → ((t : ℕ) → In t (targets [] o) → In t ts) → In to (targets [] o)
      → default_of (lower ts) (lower ts to) o ≡ Some to
  leads-default None h n = absurd n
  leads-default (Some t) h (inl e) = subst (λ z. cond (lower ts t == lower ts z) (Some t) None ≡ Some z) (sym e)
      (ap (λ b. cond b (Some t) None) (eqb-same (lower ts t)))
  leads-default (Some t) h (inr n) = absurd n

  leads-clause : (cs : List SelectCase) (o : Option ℕ) → ((t : ℕ) → In t (targets cs o) → In t ts)
      → In to (targets cs o) → clause_of (lower ts) (lower ts to) cs o ≡ Some to
  leads-clause [] o h n = leads-default o h n
  leads-clause (c ∷ cs) o h n = elim (lower ts c.target == lower ts to) as (λ b. (lower ts c.target == lower ts to) ≡ b
      → cond b (Some c.target) (clause_of (lower ts) (lower ts to) cs o) ≡ Some to) [
        | true ↦ λ q. ap (λ z. Some z) (same-rank ts c.target to (h c.target (inl refl)) m (eqb-true _ _ q))
        | false ↦ λ q. elim n [
          | inl e ↦ absurd (eqb-false _ _ q (ap (lower ts) (sym e)))
          | inr k ↦ leads-clause cs o (λ t i. h t (inr i)) k
        ]
      ] refl

-- which functions give a value decides nothing of an instruction that shows nothing
inner-alike : (gives : List Bool) (i : Instr) (at : ℕ) (c : Frame) (w : World) → is_inner i ≡ true
    → stepped [] (doing [] i) at c w ≡ stepped gives (doing gives i) at c w
inner-alike gives (Instr.Int n) at c w e = refl
inner-alike gives (Instr.Bool b) at c w e = refl
inner-alike gives (Instr.Text k) at c w e = refl
inner-alike gives Instr.Unit at c w e = refl
inner-alike gives Instr.Nil at c w e = refl
inner-alike gives (Instr.Load i) at c w e = refl
inner-alike gives (Instr.Store i) at c w e = refl
inner-alike gives Instr.Drop at c w e = refl
inner-alike gives Instr.Dup at c w e = refl
inner-alike gives Instr.Dup2 at c w e = refl
inner-alike gives Instr.Neg at c w e = refl
inner-alike gives Instr.Not at c w e = refl
inner-alike gives Instr.Add at c w e = refl
inner-alike gives Instr.Sub at c w e = refl
inner-alike gives Instr.Mul at c w e = refl
inner-alike gives Instr.Div at c w e = refl
inner-alike gives Instr.Rem at c w e = refl
inner-alike gives Instr.Eq at c w e = refl
inner-alike gives Instr.Less at c w e = refl
inner-alike gives Instr.AtMost at c w e = refl
inner-alike gives (Instr.Jump t) at c w e = refl
inner-alike gives (Instr.JumpIfNot t) at c w e = refl
inner-alike gives Instr.Return at c w e = refl
inner-alike gives Instr.ReturnValue at c w e = refl
inner-alike gives i at c w e = cc

module _ (code : Code) (fn : Function) (shaping : Option Shaping) (arguments : List Value) (shown : List Operation)
    (got : List Answer) (a : Actor) (choice : ℕ) (s : State) (l : CodeLine) (is : slice_get fn.body a.frame.at ≡ Some l)
    (fitting : FitsShaping fn shaping) (life : Life fn shaping arguments shown got
    (Now.Stands a.frame.at (frame_of a.frame))) (good : IsShaped shaping a.frame.at (frame_of a.frame))
    (awake : IsAwake s a.number) where
  abbrev gives : List Bool
  gives = giving_by shaping

  abbrev at : ℕ
  at = a.frame.at

  abbrev c : Frame
  c = frame_of a.frame

  abbrev L : List Change → Type 0
  L cs = IsLived code s fn shaping arguments shown got a l.instr (shows l.instr a.frame.operands)
      (ends_with l.instr at c) cs

  abbrev Line : Instr → Type 0
  Line i = (line : CodeLine) × (slice_get fn.body at ≡ Some line) × (line.instr ≡ i)

  -- how the step of an instruction that shows nothing ends the call
  ends-by : is_inner l.instr ≡ true → (x : Stepped) → stepped gives (doing gives l.instr) at c (world [] []) ≡ x
      → ends_with l.instr at c ≡ ended_by x
  ends-by inner x e = ap ended_by (inner-alike gives l.instr at c (world [] []) inner ∙ e)

  from-inner : is_inner l.instr ≡ true → shows l.instr a.frame.operands ≡ None → (cs : List Change)
      → I a (λ w. stepped gives (doing gives l.instr) at c w) cs → L cs
  from-inner inner none cs (I.GoesOn to d step e) =
      Silent to d (Life.Turns l to d life is step) none (ends-by inner _ (step (world [] []))) e
  from-inner inner none cs (I.Returns v rest step e) =
      Returns v rest (Life.Halts l (Halt.Returned v) life is step) none (ends-by inner _ (step (world [] []))) e
  from-inner inner none cs (I.Divides step e) =
      Divides (Life.Halts l Halt.Divided life is step) none (ends-by inner _ (step (world [] []))) e
  from-inner inner none cs (I.NoRule of step e) = NoRule e

  -- a visible instruction without targets

  module _ (visible : is_inner l.instr ≡ false)
      (ns : (cases : List SelectCase) (otherwise : Option ℕ) → l.instr ≡ Instr.Select cases otherwise → ⊥)
      (np : l.instr ≡ Instr.Panic → ⊥) (o : List Value × List Value)
      (split : split_from (taken l.instr) [] a.frame.operands ≡ Some o) where
    abbrev answered : Answer → World → Part Frame
    answered x u = D.goes c (pushed x.values o.1) u

    abbrev after : Frame → World → Stepped
    after d u = Stepped.Goes (at + 1) d u

    acted : (w : World) → stepped gives (doing gives l.instr) at c w ≡ stepped_by
        (bind (D.gets gives l.instr o.0 w) answered) after
    acted w =
        ap (λ d. stepped gives d at c w) (shows-it gives l.instr visible ns np)
        ∙ ap (λ p. stepped_by p after) (some-is w (taken l.instr) [] a.frame.operands
        (λ vs rest. bind (D.gets gives l.instr vs w) (λ x u. D.goes c (pushed x.values rest) u))
        ∙ ap (of_split w (λ vs rest. bind (D.gets gives l.instr vs w) (λ x u. D.goes c (pushed x.values rest) u)))
        split)

    -- with a counted answer
    onward-with : (values : List Value) (later : List Answer) (os : List Operation)
        → is_counted gives l.instr (answer 0 values) ≡ true
        → stepped_by (bind (D.gets gives l.instr o.0 (world (answer 0 values ∷ later) os)) answered) after
        ≡ Stepped.Goes (at + 1) (frame a.frame.slots (pushed values o.1))
        (world later (os ++ operation l.instr o.0 ∷ []))
    onward-with values later os count = let u =
        world later (os ++ operation l.instr o.0 ∷ []) in ap
        (λ b. stepped_by (bind (chosen_by b (Part.Gives (answer 0 values) u) (D.miscount u)) answered) after) count

    lives-on : Life fn shaping arguments (shown ++ operation l.instr o.0 ∷ []) got (Now.Asks at c shown)
        → (values : List Value) → IsShaped shaping (at + 1) (frame a.frame.slots (pushed values o.1))
        → Life fn shaping arguments (shown ++ operation l.instr o.0 ∷ []) (got ++ answer 0 values ∷ [])
        (Now.Stands (at + 1) (frame a.frame.slots (pushed values o.1)))
    lives-on asks values fits =
        let many = split-length (taken l.instr) [] a.frame.operands o.0 o.1 split in
        let count = plain-answer fn l at c (frame a.frame.slots (pushed values o.1)) o.0 values o.1 is
        (split-pushed (taken l.instr) [] a.frame.operands o.0 o.1 split) refl shaping fitting good fits visible ns
        np (omega (arith, many)) in
        Life.Answered l (answer 0 values) (at + 1) (frame a.frame.slots (pushed values o.1)) asks fits is
        (λ later. acted (world (answer 0 values ∷ later) shown) ∙ onward-with values later shown count)

    asking : Asking fn shaping arguments shown got (operation l.instr o.0) a o.1 (After a) (λ to. 0)
    asking =
        let asks = Life.Shows l (operation l.instr o.0) life good is (acted (world [] shown)) in record {
          asks = asks;
          lives_on = λ to values e fits. subst
              (λ z. Life fn shaping arguments (shown ++ operation l.instr o.0 ∷ []) (got ++ answer 0 values ∷ [])
              (Now.Stands z (frame a.frame.slots (pushed values o.1)))) (sym e)
              (lives-on asks values (subst (λ z. IsShaped shaping z (frame a.frame.slots (pushed values o.1))) e fits));
        }

  -- a choice

  module _ (cases : List SelectCase) (otherwise : Option ℕ) (same : l.instr ≡ Instr.Select cases otherwise)
      (o : List Value × List Value) (split : split_from (cases_taken cases) [] a.frame.operands ≡ Some o) where
    abbrev ts : List ℕ
    ts = targets cases otherwise

    abbrev chosen : List Value → Answer → World → Part (ℕ × Frame)
    chosen rest x u = on_clause (λ t. Part.Gives (t, frame a.frame.slots (pushed x.values rest)) u) u
        (clause_of (lower ts) x.clause cases otherwise)

    abbrev onward : ℕ × Frame → World → Stepped
    onward r u = Stepped.Goes r.0 r.1 u

    picked : (w : World) → stepped gives (doing gives l.instr) at c w ≡ stepped_by
        (bind (D.gets gives (choice_of cases otherwise) o.0 w) (chosen o.1)) onward
    picked w =
        ap (λ i. stepped gives (doing gives i) at c w) same
        ∙ ap (λ p. stepped_by p onward) (some-is w (cases_taken cases) [] a.frame.operands
        (λ vs rest. bind (D.gets gives (choice_of cases otherwise) vs w) (chosen rest))
        ∙ ap (of_split w (λ vs rest. bind (D.gets gives (choice_of cases otherwise) vs w) (chosen rest))) split)

    -- with a counted answer that names the clause of a target
    onward-to : (to : ℕ) (m : In to ts) (values : List Value) (later : List Answer) (os : List Operation)
        → is_counted gives (choice_of cases otherwise) (answer (lower ts to) values) ≡ true
        → stepped_by (bind (D.gets gives (choice_of cases otherwise) o.0
        (world (answer (lower ts to) values ∷ later) os)) (chosen o.1)) onward ≡ Stepped.Goes to
        (frame a.frame.slots (pushed values o.1))
        (world later (os ++ operation (choice_of cases otherwise) o.0 ∷ []))
    onward-to to m values later os count =
        let u = world later (os ++ operation (choice_of cases otherwise) o.0 ∷ []) in
        ap (λ b. stepped_by (bind (chosen_by b (Part.Gives (answer (lower ts to) values) u) (D.miscount u))
        (chosen o.1)) onward) count
        ∙ ap (λ z. stepped_by (on_clause (λ t. Part.Gives (t, frame a.frame.slots (pushed values o.1)) u) u z) onward)
        (leads-clause ts to m cases otherwise (λ t n. n) m)

    choosing : Asking fn shaping arguments shown got (operation (choice_of cases otherwise) o.0) a o.1 (λ to. In to ts)
        (lower ts)
    choosing =
        let asks = Life.Shows l (operation (choice_of cases otherwise) o.0) life good is (picked (world [] shown)) in
        let many = split-length (cases_taken cases) [] a.frame.operands o.0 o.1 split in
        let enough : length o.0 ≡ cases_taken cases = omega (arith, many) in record {
          asks = asks;
          lives_on = λ to values m fits.
              let count = choice-answer fn l at c (frame a.frame.slots (pushed values o.1)) o.0 values o.1 is
              (split-pushed (cases_taken cases) [] a.frame.operands o.0 o.1 split) refl cases otherwise
              (lower ts to) to same shaping fitting good fits enough
              (leads-clause ts to m cases otherwise (λ t n. n) m) in
              Life.Answered l (answer (lower ts to) values) to (frame a.frame.slots (pushed values o.1)) asks fits is
              (λ later. picked (world (answer (lower ts to) values ∷ later) shown)
              ∙ onward-to to m values later shown count);
        }

  from-visible : shows l.instr a.frame.operands ≡ plain_shown l.instr (split_from (taken l.instr) [] a.frame.operands)
      → is_inner l.instr ≡ false → ((cases : List SelectCase) (otherwise : Option ℕ)
      → l.instr ≡ Instr.Select cases otherwise → ⊥) → (l.instr ≡ Instr.Panic → ⊥)
      → (m : Option (List Value × List Value)) → split_from (taken l.instr) [] a.frame.operands ≡ m → (cs : List Change)
      → ComesBy code s a l.instr (After a) (WaitsAfter a) m cs → L cs
  from-visible shown_is visible ns np None e cs h = NoRule h
  from-visible shown_is visible ns np (Some o) e cs h =
      Shows o.0 o.1 (asking visible ns np o e) (shown_is ∙ ap (plain_shown l.instr) e) h

  from-choice : (cases : List SelectCase) (otherwise : Option ℕ) → l.instr ≡ Instr.Select cases otherwise
      → (m : Option (List Value × List Value)) → split_from (cases_taken cases) [] a.frame.operands ≡ m
      → (cs : List Change)
      → ComesBy code s a l.instr (λ to. In to (targets cases otherwise)) (WaitsFor (targets cases otherwise)) m cs
      → L cs
  from-choice cases otherwise same None e cs h = NoRule h
  from-choice cases otherwise same (Some o) e cs h =
      Chooses cases otherwise o.0 o.1 same (choosing cases otherwise same o e)
      (ap (λ i. shows i a.frame.operands) same
      ∙ ap (choice_shown (choice_of cases otherwise) (targets cases otherwise)) e) h

  abbrev thrown : World → List Value → Stepped
  thrown w os = stepped_by {A = Frame} (some_from w 1 []
      (λ vs rest. bind (asks Instr.Panic vs w) (λ x u. D.miscount u)) os) (λ d u. Stepped.Goes (at + 1) d u)

  from-panic : l.instr ≡ Instr.Panic → (os : List Value) → a.frame.operands ≡ os
      → L (taking_one (λ x rest. M.on_some (λ k. M.panics a (PanicKind.Custom k)) (text_of x)) os)
  from-panic same [] e = NoRule refl
  from-panic same (x ∷ rest) e = go (text_of x)
    where
      go : (m : Option ℕ) → L (M.on_some (λ k. M.panics a (PanicKind.Custom k)) m)
      go None = NoRule refl
      go (Some k) = Throws x k (Life.Shows l (operation Instr.Panic (x ∷ [])) life good is
          (ap (λ i. stepped gives (doing gives i) at c (world [] shown)) same ∙ ap (thrown (world [] shown)) e)) rest
          (ap (λ i. shows i a.frame.operands) same ∙ ap (λ os. shows Instr.Panic os) e) refl

  plain : (b : Bool) → is_inner l.instr ≡ b
      → ((cases : List SelectCase) (otherwise : Option ℕ) → l.instr ≡ Instr.Select cases otherwise → ⊥)
      → (l.instr ≡ Instr.Panic → ⊥) → L (changes code l.instr a choice s)
  plain true e ns np = from-inner e (shows-plain l.instr a.frame.operands ns
      ∙ ap (λ b. cond b None (plain_shown l.instr (split_from (taken l.instr) [] a.frame.operands))) e) _
      (inner-turns gives code l.instr a choice s e)
  plain false e ns np = from-visible (shows-plain l.instr a.frame.operands ns
      ∙ ap (λ b. cond b None (plain_shown l.instr (split_from (taken l.instr) [] a.frame.operands))) e) e ns np
      (split_from (taken l.instr) [] a.frame.operands) refl _ (visible-turns code l.instr a choice s e ns awake)

  by-instr : (i : Instr) → l.instr ≡ i → L (changes code i a choice s)
  by-instr (Instr.Select cases otherwise) e =
      from-choice cases otherwise e (split_from (cases_taken cases) [] a.frame.operands) refl _
      (subst (λ z. ComesBy code s a z (λ to. In to (targets cases otherwise)) (WaitsFor (targets cases otherwise))
      (split_from (cases_taken cases) [] a.frame.operands) (changes code (Instr.Select cases otherwise) a choice s))
      (sym e) (choosing-turns code cases otherwise a choice s awake))
  by-instr Instr.Panic e = from-panic e a.frame.operands refl
  by-instr i e = subst (λ z. L (changes code z a choice s)) e
      (plain (is_inner l.instr) refl (λ cases otherwise q. not-choice (sym e ∙ q)) (λ q. not-panic (sym e ∙ q)))
    where
      not-choice : {cases : List SelectCase} {otherwise : Option ℕ} → i ≡ Instr.Select cases otherwise → ⊥
      not-choice q = cc

      not-panic : i ≡ Instr.Panic → ⊥
      not-panic q = cc

pub turns-are-lived : TurnsAreLived
turns-are-lived code fn shaping arguments shown got a choice s l is fitting life good awake =
    by-instr code fn shaping arguments shown got a choice s l is fitting life good awake l.instr refl
