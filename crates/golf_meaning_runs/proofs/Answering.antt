-- Each answer that a call got is of the types that its operation leaves.
-- For: `AnswersAreTyped`, golf_meaning_runs/specs/AnswerTypes.antt; the law `answers_are_typed`, src/lib.rt.
-- By: induction over the life of the call; cases of the instruction.
use Rattle.std.proofs.Common.{◌≡◌, ℕ, ◌+◌, ◌==◌, Bool, true, false, cond, List, [], ◌∷◌, ◌++◌, length, Option, Some}
use Rattle.std.proofs.Common.{None, refl, ap, sym, ◌∙◌, subst, slice_get, arith, length-append}
use Rattle.std.proofs.lemmas.Bool.{eqb-true}
use Rattle.std.proofs.lemmas.List.{append_cancel_left}
use Rattle.golf_data.specs.declared.value.Value.{Value}
use Rattle.golf_data.specs.declared.code.Code.{Code}
use Rattle.golf_data.specs.declared.code.CodeLine.{CodeLine}
use Rattle.golf_data.specs.declared.code.Function.{Function}
use Rattle.golf_data.specs.declared.code.Instr.{Instr}
use Rattle.golf_data.specs.declared.code.SelectCase.{SelectCase}
use Rattle.golf_data.specs.declared.goroutine.Leaving.{Leaving}
use Rattle.golf_data.specs.Effects.{taken, left, cases_taken}
use Rattle.golf_model.specs.State.{start}
use Rattle.golf_model.specs.Changes.{Change}
use Rattle.golf_model.specs.Actors.{Actor}
use Rattle.golf_model_typing.specs.Types.{ValueType, FunctionTypes, Types, ValuesFit}
use Rattle.golf_model_typing.specs.Shapes.{InstructionFits, FunctionFits}
use Rattle.golf_meaning_flat.specs.Worlds.{Operation, Answer, Halt, World, Part, bind, asks, pushed}
use Rattle.golf_meaning_flat.specs.InstructionEffects.{Frame, some_from, chosen_by, Doing, doing}
use Rattle.golf_meaning_flat.specs.InstructionEffects as D
use Rattle.golf_meaning_flat.specs.Counts.{is_so_many, is_counted}
use Rattle.golf_meaning_flat.specs.Flat.{on_clause, targets, lower, clause_of}
use Rattle.golf_meaning_runs.specs.FlatSteps.{Stepped, stepped_by, stepped, is_inner, IsTurnStep}
use Rattle.golf_meaning_runs.specs.VisibleOutcomes.{split_from}
use Rattle.golf_meaning_runs.specs.FrameShapes.{Shaping, IsShaped, giving}
use Rattle.golf_meaning_runs.specs.Life.{world, Now, Life}
use Rattle.golf_meaning_runs.specs.TurnsInLives.{choice_of}
use Rattle.golf_meaning_runs.specs.AnswerTypes.{operands_taken, GoesOnTo, AnswerFits, AreAnswers, AnswersAreTyped}
use Rattle.golf_meaning_runs.proofs.Inner.{inner-turns}
use Rattle.golf_meaning_runs.proofs.Turning.{of_split, some-is, split-pushed, split-length, shows-it}

last-one : {A : Type 0} (xs : List A) (x y : A) → xs ++ x ∷ [] ≡ xs ++ y ∷ [] → x ≡ y
last-one xs x y e = let same = append_cancel_left xs (x ∷ []) (y ∷ []) e in cc

shown-one : (xs ys : List Operation) → Stepped.Halts Halt.Waits xs ≡ Stepped.Halts Halt.Waits ys → xs ≡ ys
shown-one xs ys e = cc

-- ---- one operation and its answer

-- an operation was shown with operands of the frame, and its values lie on those below them
record Answered (i : Instr) (at : ℕ) (c : Frame) (o : Operation) (a : Answer) (to : ℕ) (d : Frame) : Type 0 where
  rest : List Value
  count : length o.operands ≡ operands_taken i
  operands : c.operands ≡ pushed o.operands rest
  values : d.operands ≡ pushed a.values rest
  leads : GoesOnTo i at o.instr a.clause to

module _ (gives : List Bool) (at : ℕ) (c : Frame) (before : List Operation) (o : Operation) (a : Answer) (to : ℕ)
    (d : Frame) (os : List Operation) where
  -- an instruction shows the operation, and goes on with the answer
  abbrev Shows : Stepped → Type 0
  Shows step = step ≡ Stepped.Halts Halt.Waits (before ++ o ∷ [])

  abbrev GoesOn : Stepped → Type 0
  GoesOn step = step ≡ Stepped.Goes to d (world [] os)

  abbrev asking : World
  asking = world [] before

  abbrev having : World
  having = world (a ∷ []) before

  -- an instruction that shows nothing
  no-inner : (i : Instr) → is_inner i ≡ true → Shows (stepped gives (doing gives i) at c asking) → ⊥
  no-inner i e h = by _ (inner-turns gives code i actor 0 (start code) e)
    where
      code : Code
      code = record { functions = []; globals = []; structs = []; texts = []; main_line = 0 }

      actor : Actor
      actor = record {
        number = 0;
        frame = record {
          function = 0;
          at = at;
          slots = c.slots;
          operands = c.operands;
          deferred = [];
          leaving = Leaving.No;
          discards = false;
        };
        callers = [];
        started = 0;
        line = 0;
      }

      by : (cs : List Change) → IsTurnStep actor (λ w. stepped gives (doing gives i) at c w) cs → ⊥
      by cs (IsTurnStep.GoesOn t f step q) = let s = step asking in cc
      by cs (IsTurnStep.Returns v rest step q) = let s = step asking in cc
      by cs (IsTurnStep.Divides step q) = let s = step asking in cc
      by cs (IsTurnStep.NoRule of step q) = let s = step asking in cc

  -- one that panics
  no-panic : GoesOn (stepped gives (doing gives Instr.Panic) at c having) → ⊥
  no-panic k = by c.operands k
    where
      by : (vs : List Value) → GoesOn (stepped_by {A = Frame}
          (some_from having 1 [] (λ us rest. bind (asks Instr.Panic us having) (λ x u. D.miscount u)) vs)
          (λ f u. Stepped.Goes (at + 1) f u)) → ⊥
      by [] e = cc
      by (v ∷ vs) e = cc

  -- one without targets
  module _ (i : Instr) (plain : (cases : List SelectCase) (otherwise : Option ℕ) → i ≡ Instr.Select cases otherwise → ⊥)
      (calm : i ≡ Instr.Panic → ⊥) (visible : is_inner i ≡ false) where
    abbrev answered : World → List Value → List Value → Part Frame
    answered w vs rest = bind (D.gets gives i vs w) (λ x u. D.goes c (pushed x.values rest) u)

    abbrev onward : Frame → World → Stepped
    onward f u = Stepped.Goes (at + 1) f u

    plain-leads : (j shown : Instr) (clause : ℕ)
        → ((cases : List SelectCase) (otherwise : Option ℕ) → j ≡ Instr.Select cases otherwise → ⊥)
        → (j ≡ Instr.Panic → ⊥) → is_inner j ≡ false → shown ≡ j → clause ≡ 0 → to ≡ at + 1
        → GoesOnTo j at shown clause to
    plain-leads (Instr.Select cases otherwise) shown clause n p v e f g = absurd (n cases otherwise refl)
    plain-leads Instr.Panic shown clause n p v e f g = absurd (p refl)
    plain-leads j shown clause n p v e f g = (v, e, f, g)

    plain-taken : (j : Instr) → ((cases : List SelectCase) (otherwise : Option ℕ) → j ≡ Instr.Select cases otherwise
        → ⊥) → taken j ≡ operands_taken j
    plain-taken (Instr.Select cases otherwise) n = absurd (n cases otherwise refl)
    plain-taken j n = refl

    plain-clause : (j : Instr) → ((cases : List SelectCase) (otherwise : Option ℕ) → j ≡ Instr.Select cases otherwise
        → ⊥) → is_counted gives j a ≡ true → a.clause ≡ 0
    plain-clause (Instr.Select cases otherwise) n e = absurd (n cases otherwise refl)
    plain-clause j n e = named (left gives j) (a.clause == 0) refl e
      where
        named : (n : ℕ) (b : Bool) → (a.clause == 0) ≡ b → is_so_many (cond b (Some n) None) (length a.values) ≡ true
            → a.clause ≡ 0
        named n true q e = eqb-true a.clause 0 q
        named n false q e = cc

    by-count : (vs rest : List Value) → length vs ≡ taken i → c.operands ≡ pushed vs rest
        → o ≡ record { instr = i; operands = vs } → (b : Bool) → is_counted gives i a ≡ b
        → GoesOn (stepped_by (bind (chosen_by b
        (Part.Gives a (world [] (before ++ record { instr = i; operands = vs } ∷ [])))
        (D.miscount (world [] (before ++ record { instr = i; operands = vs } ∷ []))))
        (λ x u. D.goes c (pushed x.values rest) u)) onward) → Answered i at c o a to d
    by-count vs rest many ops is true q k = record {
      rest = rest;
      count = ap (λ (x : Operation). length x.operands) is ∙ many ∙ plain-taken i plain;
      operands = ops ∙ ap (λ (x : Operation). pushed x.operands rest) (sym is);
      values = (let same : d ≡ record { slots = c.slots; operands = pushed a.values rest } = cc in ap
          (λ (x : Frame). x.operands) same);
      leads = (let there : to ≡ at + 1 = cc in plain-leads i o.instr a.clause plain calm visible
          (ap (λ (x : Operation). x.instr) is) (plain-clause i plain q) there);
    }
    by-count vs rest many ops is false q k = cc

    by-split : (m : Option (List Value × List Value)) → split_from (taken i) [] c.operands ≡ m
        → Shows (stepped_by (of_split asking (answered asking) m) onward)
        → GoesOn (stepped_by (of_split having (answered having) m) onward) → Answered i at c o a to d
    by-split None e h k = cc
    by-split (Some x) e h k =
        let same = shown-one (before ++ record { instr = i; operands = x.0 } ∷ []) (before ++ o ∷ []) h in
        by-count x.0 x.1 (let l = split-length (taken i) [] c.operands x.0 x.1 e in omega (arith, l))
        (split-pushed (taken i) [] c.operands x.0 x.1 e)
        (sym (last-one before (record { instr = i; operands = x.0 }) o same)) (is_counted gives i a) refl k

    by-plain : doing gives i ≡ Doing.Acts (D.shows gives i) → Shows (stepped gives (doing gives i) at c asking)
        → GoesOn (stepped gives (doing gives i) at c having) → Answered i at c o a to d
    by-plain acts h k =
        let step : (w : World) → stepped gives (doing gives i) at c w ≡ stepped_by
        (of_split w (answered w) (split_from (taken i) [] c.operands)) onward =
        λ w. ap (λ z. stepped gives z at c w) acts
        ∙ ap (λ p. stepped_by p onward) (some-is w (taken i) [] c.operands (answered w)) in
        by-split (split_from (taken i) [] c.operands) refl (sym (step asking) ∙ h) (sym (step having) ∙ k)

  -- a choice
  module _ (cases : List SelectCase) (otherwise : Option ℕ) where
    abbrev label : ℕ → ℕ
    label = lower (targets cases otherwise)

    abbrev chosen : World → List Value → List Value → Part (ℕ × Frame)
    chosen w vs rest = bind (D.gets gives (choice_of cases otherwise) vs w)
        (λ x u. on_clause (λ t. Part.Gives (t, record { slots = c.slots; operands = pushed x.values rest }) u) u
        (clause_of label x.clause cases otherwise))

    abbrev led : ℕ × Frame → World → Stepped
    led r u = Stepped.Goes r.0 r.1 u

    by-target : (vs rest : List Value) → length vs ≡ cases_taken cases → c.operands ≡ pushed vs rest
        → o ≡ record { instr = choice_of cases otherwise; operands = vs } → (u : World) → (m : Option ℕ)
        → clause_of label a.clause cases otherwise ≡ m
        → GoesOn (stepped_by (on_clause (λ t. Part.Gives
        (t, record { slots = c.slots; operands = pushed a.values rest }) u) u m) led)
        → Answered (Instr.Select cases otherwise) at c o a to d
    by-target vs rest many ops is u None q k = cc
    by-target vs rest many ops is u (Some t) q k = record {
      rest = rest;
      count = ap (λ (x : Operation). length x.operands) is ∙ many;
      operands = ops ∙ ap (λ (x : Operation). pushed x.operands rest) (sym is);
      values = (let same : d ≡ record { slots = c.slots; operands = pushed a.values rest } = cc in ap
          (λ (x : Frame). x.operands) same);
      leads = (ap (λ (x : Operation). x.instr) is, (let there : t ≡ to = cc in q ∙ ap (λ z. Some z) there));
    }

    by-number : (vs rest : List Value) → length vs ≡ cases_taken cases → c.operands ≡ pushed vs rest
        → o ≡ record { instr = choice_of cases otherwise; operands = vs } → (u : World) → (b : Bool)
        → GoesOn (stepped_by (bind (chosen_by b (Part.Gives a u) (D.miscount u))
        (λ x z. on_clause (λ t. Part.Gives (t, record { slots = c.slots; operands = pushed x.values rest }) z) z
        (clause_of label x.clause cases otherwise))) led) → Answered (Instr.Select cases otherwise) at c o a to d
    by-number vs rest many ops is u true k =
        by-target vs rest many ops is u (clause_of label a.clause cases otherwise) refl k
    by-number vs rest many ops is u false k = cc

    by-cases : (m : Option (List Value × List Value)) → split_from (cases_taken cases) [] c.operands ≡ m
        → Shows (stepped_by (of_split asking (chosen asking) m) led)
        → GoesOn (stepped_by (of_split having (chosen having) m) led)
        → Answered (Instr.Select cases otherwise) at c o a to d
    by-cases None e h k = cc
    by-cases (Some x) e h k =
        let same = shown-one (before ++ record { instr = choice_of cases otherwise; operands = x.0 } ∷ [])
        (before ++ o ∷ []) h in
        by-number x.0 x.1 (let l = split-length (cases_taken cases) [] c.operands x.0 x.1 e in omega (arith, l))
        (split-pushed (cases_taken cases) [] c.operands x.0 x.1 e)
        (sym (last-one before (record { instr = choice_of cases otherwise; operands = x.0 }) o same))
        (world [] (before ++ record { instr = choice_of cases otherwise; operands = x.0 } ∷ []))
        (is_counted gives (choice_of cases otherwise) a) k

    by-choice : Shows (stepped gives (doing gives (Instr.Select cases otherwise)) at c asking)
        → GoesOn (stepped gives (doing gives (Instr.Select cases otherwise)) at c having)
        → Answered (Instr.Select cases otherwise) at c o a to d
    by-choice h k =
        let step : (w : World) → stepped gives (doing gives (Instr.Select cases otherwise)) at c w ≡ stepped_by
        (of_split w (chosen w) (split_from (cases_taken cases) [] c.operands)) led =
        λ w. ap (λ p. stepped_by p led) (some-is w (cases_taken cases) [] c.operands (chosen w)) in
        by-cases (split_from (cases_taken cases) [] c.operands) refl (sym (step asking) ∙ h) (sym (step having) ∙ k)

  by-inner : (i : Instr) → ((cases : List SelectCase) (otherwise : Option ℕ) → i ≡ Instr.Select cases otherwise → ⊥)
      → (i ≡ Instr.Panic → ⊥) → (b : Bool) → is_inner i ≡ b → Shows (stepped gives (doing gives i) at c asking)
      → GoesOn (stepped gives (doing gives i) at c having) → Answered i at c o a to d
  by-inner i plain np true e h k = absurd (no-inner i e h)
  by-inner i plain np false e h k = by-plain i plain np e (shows-it gives i e plain np) h k

  is-answered : (i : Instr) → Shows (stepped gives (doing gives i) at c asking)
      → GoesOn (stepped gives (doing gives i) at c having) → Answered i at c o a to d
  is-answered (Instr.Select cases otherwise) h k = by-choice cases otherwise h k
  is-answered Instr.Panic h k = absurd (no-panic k)
  is-answered i h k = by-inner i (λ cases otherwise q. cc) (λ q. cc) (is_inner i) refl h k

-- ---- the answers of a life

module _ (P : Operation → Answer → Type 0) where
  answers-end : (os : List Operation) (got : List Answer) (o : Operation) (a : Answer) → length os ≡ length got
      → AreAnswers P os got → P o a → AreAnswers P (os ++ o ∷ []) (got ++ a ∷ [])
  answers-end [] [] o a e h k = (k, tt)
  answers-end [] (b ∷ got) o a e h k = absurd h
  answers-end (p ∷ os) [] o a e h k = absurd (omega (arith, e))
  answers-end (p ∷ os) (b ∷ got) o a e h k = (h.0, answers-end os got o a (omega (arith, e)) h.1 k)

  answers-more : (os more : List Operation) (got : List Answer) → AreAnswers P os got → AreAnswers P (os ++ more) got
  answers-more os more [] h = tt
  answers-more [] more (a ∷ got) h = absurd h
  answers-more (o ∷ os) more (a ∷ got) h = (h.0, answers-more os more got h.1)

same-line : (x y : CodeLine) (m : Option CodeLine) → m ≡ Some x → m ≡ Some y → x ≡ y
same-line x y m a b = cc

module _ (types : Types) (known : List (ℕ × ValueType)) (fn : Function) (ft : FunctionTypes) (arguments : List Value)
    (fits : FunctionFits types fn ft) where
  abbrev shaping : Option Shaping
  shaping = Some (record { types = types; known = known; shapes = ft.shapes })

  abbrev P : Operation → Answer → Type 0
  P = AnswerFits types known ft

  -- the operation of a call that waits, before which it had shown these
  record Asks (os : List Operation) (at : ℕ) (c : Frame) (before : List Operation) : Type 0 where
    line : CodeLine
    here : slice_get fn.body at ≡ Some line
    shaped : IsShaped shaping at c
    operation : Operation
    is : os ≡ before ++ operation ∷ []
    shows : stepped (giving types) (doing (giving types) line.instr) at c (world [] before) ≡ Stepped.Halts Halt.Waits
        (before ++ operation ∷ [])

  abbrev There : List Operation → List Answer → Now → Type 0
  There os got (Now.Stands at c) = (length os ≡ length got) × AreAnswers P os got
  There os got (Now.Asks at c before) = (length before ≡ length got) × AreAnswers P before got × Asks os at c before
  There os got (Now.Halted h) = AreAnswers P os got

  -- the answer to an operation
  module _ (os before : List Operation) (at : ℕ) (c : Frame) (asks : Asks os at c before) (l : CodeLine) (a : Answer)
      (to : ℕ) (d : Frame) (there : IsShaped shaping to d) (is : slice_get fn.body at ≡ Some l)
      (step : stepped (giving types) (doing (giving types) l.instr) at c (world (a ∷ []) before) ≡ Stepped.Goes to d
      (world [] os)) where
    answer-fits : P asks.operation a
    answer-fits =
        let o = asks.operation in
        let shows = subst (λ (z : CodeLine). stepped (giving types) (doing (giving types) z.instr) at c
        (world [] before) ≡ Stepped.Halts Halt.Waits (before ++ o ∷ []))
        (same-line asks.line l (slice_get fn.body at) asks.here is) asks.shows in
        let x = is-answered (giving types) at c before o a to d os l.instr shows step in
        let sh = asks.shaped.0 in
        let f = fits.each at sh asks.shaped.1 in record {
          at = at;
          instr = l.instr;
          before = sh;
          here = asks.shaped.1;
          fits = subst (λ (z : CodeLine). InstructionFits types ft at z.instr sh)
              (same-line f.0 l (slice_get fn.body at) f.1 is) f.2;
          to = to;
          leads = x.leads;
          later = there.0;
          there = there.1;
          rest = x.rest;
          count = x.count;
          operands = subst (λ vs. ValuesFit types known vs sh.operands) x.operands asks.shaped.2;
          values = subst (λ vs. ValuesFit types known vs there.0.operands) x.values there.2;
        }

  typed : {os : List Operation} {got : List Answer} {now : Now} → Life fn shaping arguments os got now
      → There os got now
  typed (Life.Begins e) = (refl, tt)
  typed (Life.Turns l to d life is step) = typed life
  typed (Life.Clears slots life alike) = typed life
  typed (Life.Shows l o life good is step) = let h =
      typed life in (h.0, h.1, record { line = l; here = is; shaped = good; operation = o; is = refl; shows = step })
  typed (Life.Answered {os} {before} {got} {at} {c} l a to d life good is step) =
      let h = typed life in
      let o = h.2.operation in
      let k = answers-end P before got o a h.0 h.1 (answer-fits os before at c h.2 l a to d good is (step [])) in
      let long : length (before ++ o ∷ []) ≡ length (got ++ a ∷ []) = length-append before (o ∷ [])
      ∙ ap (λ n. n + 1) h.0 ∙ sym (length-append got (a ∷ [])) in
      subst (λ xs. (length xs ≡ length (got ++ a ∷ [])) × AreAnswers P xs (got ++ a ∷ [])) (sym h.2.is) (long, k)
  typed (Life.Halts l h life is step) = (typed life).1

  typed-now : (os : List Operation) (got : List Answer) (now : Now) → There os got now → AreAnswers P os got
  typed-now os got (Now.Stands at c) h = h.1
  typed-now os got (Now.Asks at c before) h =
      subst (λ xs. AreAnswers P xs got) (sym h.2.is) (answers-more P before (h.2.operation ∷ []) got h.1)
  typed-now os got (Now.Halted x) h = h

pub answers-are-typed : AnswersAreTyped
answers-are-typed types known fn ft arguments os got now fits life =
    typed-now types known fn ft arguments fits os got now (typed types known fn ft arguments fits life)
