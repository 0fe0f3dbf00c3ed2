-- An answer that fits has as many values as its operation leaves.
-- For: `AnswersAreCounted`, golf_meaning_runs/specs/AnswerTypes.antt; the law `answers_are_counted`, src/lib.rt.
-- By: cases of the instruction; induction over the cases of a `select`, and over lists of values.
use Rattle.std.proofs.Common.{◌≡◌, ℕ, zero, suc, ◌+◌, ◌==◌, Bool, true, false, cond, List, [], ◌∷◌, ◌++◌, length, map}
use Rattle.std.proofs.Common.{Option, Some, None, refl, ap, sym, ◌∙◌, subst, slice_get, arith, length-append}
use Rattle.std.specs.Prelude.{is_some, option_map, option_to_list, unwrap_or}
use Rattle.golf_data.specs.declared.value.Value.{Value}
use Rattle.golf_data.specs.declared.code.CaseKind.{CaseKind}
use Rattle.golf_data.specs.declared.code.Instr.{Instr}
use Rattle.golf_data.specs.declared.code.SelectCase.{SelectCase}
use Rattle.golf_data.specs.Effects.{taken, left, case_taken, case_left, cases_taken}
use Rattle.golf_model_typing.specs.Types.{ValueType, Shape, Signature, FunctionTypes, Types, ValuesFit}
use Rattle.golf_model_typing.specs.Shapes as S
use Rattle.golf_model_typing.specs.Shapes.{LeadsToShape, Takes, case_takes, case_leaves, CasesFit, DefaultFits}
use Rattle.golf_model_typing.specs.Shapes.{InstructionFits}
use Rattle.golf_model_typing.proofs.Lengths.{values-length, pushed-length}
use Rattle.golf_meaning_flat.specs.Worlds.{Operation, Answer, pushed}
use Rattle.golf_meaning_flat.specs.Counts.{clause_left, answer_left}
use Rattle.golf_meaning_flat.specs.Flat.{targets, lower, relabelled, default_of, clause_of}
use Rattle.golf_meaning_runs.specs.FrameShapes.{giving}
use Rattle.golf_meaning_runs.specs.FlatSteps.{is_inner}
use Rattle.golf_meaning_runs.specs.AnswerTypes.{operands_taken, GoesOnTo, AnswerFits, AnswersAreCounted}

-- ---- lengths

pushed-values : (vs rest : List Value) → length (pushed vs rest) ≡ length vs + length rest
pushed-values [] rest = omega arith
pushed-values (v ∷ vs) rest = let ih = pushed-values vs (v ∷ rest) in omega (arith, ih)

same-shape : (x y : Shape) (m : Option Shape) → m ≡ Some x → m ≡ Some y → x ≡ y
same-shape x y m a b = cc

some-number : (m n : ℕ) → m ≡ n → Some m ≡ Some n
some-number m n e = ap (λ k. Some k) e

-- a function that gives a value leaves one
gives-length : (m : Option ValueType) → length (option_to_list m) ≡ cond (is_some m) 1 0
gives-length None = refl
gives-length (Some t) = refl

gives-at : (sigs : List Signature) (f : ℕ) (sig : Signature) → slice_get sigs f ≡ Some sig
    → unwrap_or (slice_get (map (λ (s : Signature). is_some s.result) sigs) f) false ≡ is_some sig.result
gives-at [] f sig e = cc
gives-at (s ∷ sigs) zero sig e = let same : s ≡ sig = cc in ap (λ (z : Signature). is_some z.result) same
gives-at (s ∷ sigs) (suc f) sig e = gives-at sigs f sig e

left-call : (types : Types) (f n : ℕ) (callee : Signature) → slice_get types.functions f ≡ Some callee
    → length (option_to_list callee.result) ≡ left (giving types) (Instr.Call f n)
left-call types f n callee e = gives-length callee.result
    ∙ ap (λ b. cond b 1 0) (sym (gives-at types.functions f callee e))

-- ---- an operation with its answer

module _ (types : Types) (known : List (ℕ × ValueType)) (ft : FunctionTypes) (before later : Shape)
    (operands values rest : List Value) (given : ValuesFit types known (pushed operands rest) before.operands)
    (gets : ValuesFit types known (pushed values rest) later.operands) where
  -- so many operands are taken, and so many values left
  counted : (takes leaves below : ℕ) → length before.operands ≡ takes + below → length later.operands ≡ leaves + below
      → length operands ≡ takes → length values ≡ leaves
  counted takes leaves below b l many =
      let x = values-length types known (pushed operands rest) before.operands given in
      let y = values-length types known (pushed values rest) later.operands gets in
      let p = pushed-values operands rest in
      let q = pushed-values values rest in
      omega (arith, b, l, many, x, y, p, q)

  later-length : (ts : List ValueType) (assigned : List ℕ) (to : ℕ) → LeadsToShape ft ts assigned to
      → slice_get ft.shapes to ≡ Some later → length later.operands ≡ length ts
  later-length ts assigned to h there = ap (λ (sh : Shape). length sh.operands)
      (same-shape later h.0 (slice_get ft.shapes to) there h.1) ∙ ap (λ (us : List ValueType). length us) h.2

  module _ (at : ℕ) (there : slice_get ft.shapes (at + 1) ≡ Some later) where
    takes-counted : (takes leaves : List ValueType) → Takes ft at before takes leaves → length operands ≡ length takes
        → length values ≡ length leaves
    takes-counted takes leaves h many =
        counted (length takes) (length leaves) (length h.0)
        (ap (λ (us : List ValueType). length us) h.1 ∙ length-append takes h.0)
        (later-length (leaves ++ h.0) before.assigned (at + 1) h.2 there ∙ length-append leaves h.0) many

    pushed-counted : (params leaves rest_types : List ValueType) → before.operands ≡ S.pushed params rest_types
        → LeadsToShape ft (leaves ++ rest_types) before.assigned (at + 1) → length operands ≡ length params
        → length values ≡ length leaves
    pushed-counted params leaves rest_types b h many =
        counted (length params) (length leaves) (length rest_types)
        (ap (λ (us : List ValueType). length us) b ∙ pushed-length params rest_types)
        (later-length (leaves ++ rest_types) before.assigned (at + 1) h there ∙ length-append leaves rest_types)
        many

    pub plain-counted : (i : Instr) → is_inner i ≡ false
        → ((cases : List SelectCase) (otherwise : Option ℕ) → i ≡ Instr.Select cases otherwise → ⊥)
        → (i ≡ Instr.Panic → ⊥) → InstructionFits types ft at i before → length operands ≡ taken i
        → length values ≡ left (giving types) i
    plain-counted (Instr.LoadGlobal g) v s p h many = takes-counted [] (h.0 ∷ []) h.2 many
    plain-counted (Instr.StoreGlobal g) v s p h many = takes-counted (h.0 ∷ []) [] h.2 many
    plain-counted (Instr.NewStruct k) v s p h many = takes-counted [] (ValueType.Struct k ∷ []) h.2 many
    plain-counted Instr.NewMutex v s p h many = takes-counted [] (ValueType.Mutex ∷ []) h many
    plain-counted Instr.NewGroup v s p h many = takes-counted [] (ValueType.Group ∷ []) h many
    plain-counted Instr.NewRw v s p h many = takes-counted [] (ValueType.Rw ∷ []) h many
    plain-counted Instr.NewCond v s p h many = takes-counted (ValueType.Mutex ∷ []) (ValueType.Cond ∷ []) h many
    plain-counted (Instr.Field i) v s p h many = takes-counted (ValueType.Struct h.0 ∷ []) (h.2 ∷ []) h.5 many
    plain-counted (Instr.SetField i) v s p h many = takes-counted (h.2 ∷ ValueType.Struct h.0 ∷ []) [] h.5 many
    plain-counted (Instr.NewSlice z) v s p h many =
        takes-counted (ValueType.Int ∷ []) (ValueType.Slice h.0 ∷ []) h.2 many
    plain-counted (Instr.NewChan z) v s p h many = takes-counted (ValueType.Int ∷ []) (ValueType.Chan h.0 ∷ []) h.2 many
    plain-counted Instr.Index v s p h many =
        takes-counted (ValueType.Int ∷ ValueType.Slice h.0 ∷ []) (h.0 ∷ []) h.1 many
    plain-counted Instr.SetIndex v s p h many =
        takes-counted (h.0 ∷ ValueType.Int ∷ ValueType.Slice h.0 ∷ []) [] h.1 many
    plain-counted Instr.Len v s p h many = takes-counted (h.0 ∷ []) (ValueType.Int ∷ []) h.3 many
    plain-counted Instr.Send v s p h many = takes-counted (h.0 ∷ ValueType.Chan h.0 ∷ []) [] h.1 many
    plain-counted Instr.Receive v s p h many = takes-counted (ValueType.Chan h.0 ∷ []) (h.0 ∷ []) h.1 many
    plain-counted Instr.ReceiveOk v s p h many =
        takes-counted (ValueType.Chan h.0 ∷ []) (ValueType.Bool ∷ h.0 ∷ []) h.1 many
    plain-counted Instr.Close v s p h many = takes-counted (ValueType.Chan h.0 ∷ []) [] h.1 many
    plain-counted Instr.Lock v s p h many = takes-counted (ValueType.Mutex ∷ []) [] h many
    plain-counted Instr.Unlock v s p h many = takes-counted (ValueType.Mutex ∷ []) [] h many
    plain-counted Instr.GroupAdd v s p h many = takes-counted (ValueType.Int ∷ ValueType.Group ∷ []) [] h many
    plain-counted Instr.GroupWait v s p h many = takes-counted (ValueType.Group ∷ []) [] h many
    plain-counted Instr.RwLock v s p h many = takes-counted (ValueType.Rw ∷ []) [] h many
    plain-counted Instr.RwUnlock v s p h many = takes-counted (ValueType.Rw ∷ []) [] h many
    plain-counted Instr.ReadLock v s p h many = takes-counted (ValueType.Rw ∷ []) [] h many
    plain-counted Instr.ReadUnlock v s p h many = takes-counted (ValueType.Rw ∷ []) [] h many
    plain-counted Instr.CondMutex v s p h many = takes-counted (ValueType.Cond ∷ []) (ValueType.Mutex ∷ []) h many
    plain-counted Instr.CondWait v s p h many = takes-counted (ValueType.Cond ∷ []) [] h many
    plain-counted Instr.CondSignal v s p h many = takes-counted (ValueType.Cond ∷ []) [] h many
    plain-counted Instr.CondBroadcast v s p h many = takes-counted (ValueType.Cond ∷ []) [] h many
    plain-counted (Instr.Call f n) v s p h many =
        pushed-counted h.0.params (option_to_list h.0.result) h.1 h.4 h.5 (many ∙ h.3) ∙ left-call types f n h.0 h.2
    plain-counted (Instr.Go f n) v s p h many = pushed-counted h.0.params [] h.1 h.4 h.5 (many ∙ h.3)
    plain-counted (Instr.Defer f n) v s p h many = pushed-counted h.0.params [] h.1 h.4 h.5 (many ∙ h.3)
    plain-counted (Instr.Print n) v s p h many = pushed-counted h.0 [] h.1 h.4 h.5 (many ∙ h.2)
    plain-counted Instr.Collect v s p h many = takes-counted [] [] h many
    plain-counted (Instr.SetFinalizer f) v s p h many = takes-counted (ValueType.Struct h.0 ∷ []) [] h.4 many
    plain-counted Instr.ClearFinalizer v s p h many = takes-counted (ValueType.Struct h.0 ∷ []) [] h.1 many
    plain-counted (Instr.Select cases otherwise) v s p h many = absurd (s cases otherwise refl)
    plain-counted Instr.Panic v s p h many = absurd (p refl)
    plain-counted i v s p h many = cc

  -- ---- a choice

  case-size : (k : CaseKind) (e : ValueType) (ts : List ValueType)
      → length (case_takes k e ts) ≡ case_taken k + length ts
  case-size CaseKind.Send e ts = omega arith
  case-size CaseKind.Take e ts = omega arith
  case-size CaseKind.TakeOk e ts = omega arith

  case-left-size : (k : CaseKind) (e : ValueType) → length (case_leaves k e) ≡ case_left k
  case-left-size CaseKind.Send e = refl
  case-left-size CaseKind.Take e = refl
  case-left-size CaseKind.TakeOk e = refl

  cases-size : (assigned : List ℕ) (below : List ValueType) (cs : List SelectCase) (ts all : List ValueType)
      → CasesFit ft assigned below cs ts all → length all ≡ cases_taken cs + length ts
  cases-size assigned below [] ts all h = let same = ap (λ (us : List ValueType). length us) h in omega (arith, same)
  cases-size assigned below (c ∷ cs) ts all h = let ih =
      cases-size assigned below cs (case_takes c.kind h.0 ts) all h.2 in let one =
      case-size c.kind h.0 ts in omega (arith, ih, one)

  module _ (label : ℕ → ℕ) (clause to : ℕ) (there : slice_get ft.shapes to ≡ Some later) (assigned : List ℕ)
      (below : List ValueType) (long : length later.operands ≡ length values + length below) where
    left-there : (t n : ℕ) (ts : List ValueType) → t ≡ to → length ts ≡ n → LeadsToShape ft (ts ++ below) assigned t
        → n ≡ length values
    left-there t n ts same count h =
        let l = later-length (ts ++ below) assigned to
        (subst (λ z. LeadsToShape ft (ts ++ below) assigned z) same h) there in
        let a = length-append ts below in
        omega (arith, l, a, long, count)

    default-counted : (o : Option ℕ) → DefaultFits ft assigned below o → default_of label clause o ≡ Some to
        → clause_left clause [] (option_map label o) ≡ Some (length values)
    default-counted None h e = cc
    default-counted (Some t) h e = elim (label t == clause) as (λ b. cond b (Some t) None ≡ Some to
        → cond b (Some 0) None ≡ Some (length values)) [
          | true ↦ λ q. (let same : t ≡ to = cc in some-number 0 (length values) (left-there t 0 [] same refl h))
          | false ↦ λ q. cc
        ] e

    clause-counted : (cs : List SelectCase) (o : Option ℕ) (ts all : List ValueType)
        → CasesFit ft assigned below cs ts all → DefaultFits ft assigned below o → clause_of label clause cs o ≡ Some to
        → clause_left clause (map (relabelled label) cs) (option_map label o) ≡ Some (length values)
    clause-counted [] o ts all h d e = default-counted o d e
    clause-counted (c ∷ cs) o ts all h d e =
        elim (label c.target == clause) as (λ b. cond b (Some c.target) (clause_of label clause cs o) ≡ Some to
        → cond b (Some (case_left c.kind)) (clause_left clause (map (relabelled label) cs) (option_map label o))
        ≡ Some (length values)) [
          | true ↦ λ q. (let same : c.target ≡ to = cc in some-number (case_left c.kind) (length values)
              (left-there c.target (case_left c.kind) (case_leaves c.kind h.0) same (case-left-size c.kind h.0) h.1))
          | false ↦ λ q. clause-counted cs o (case_takes c.kind h.0 ts) all h.2 d q
        ] e

  pub choice-counted : (at clause to : ℕ) (cases : List SelectCase) (otherwise : Option ℕ)
      → InstructionFits types ft at (Instr.Select cases otherwise) before → length operands ≡ cases_taken cases
      → clause_of (lower (targets cases otherwise)) clause cases otherwise ≡ Some to
      → slice_get ft.shapes to ≡ Some later
      → clause_left clause (map (relabelled (lower (targets cases otherwise))) cases)
      (option_map (lower (targets cases otherwise)) otherwise) ≡ Some (length values)
  choice-counted at clause to cases otherwise h many leads there =
      let size = cases-size before.assigned h.0 cases h.0 before.operands h.1 in
      let x = values-length types known (pushed operands rest) before.operands given in
      let y = values-length types known (pushed values rest) later.operands gets in
      let p = pushed-values operands rest in
      let q = pushed-values values rest in
      clause-counted (lower (targets cases otherwise)) clause to there before.assigned h.0
      (omega (arith, size, many, x, y, p, q)) cases otherwise h.0 before.operands h.1 h.2 leads

-- ---- any operation

pub plain-left : (gives : List Bool) (i : Instr) (k : ℕ)
    → ((cases : List SelectCase) (otherwise : Option ℕ) → i ≡ Instr.Select cases otherwise → ⊥)
    → answer_left gives i k ≡ cond (k == 0) (Some (left gives i)) None
plain-left gives (Instr.Select cases otherwise) k n = absurd (n cases otherwise refl)
plain-left gives i k n = refl

module _ (types : Types) (known : List (ℕ × ValueType)) (ft : FunctionTypes) (o : Operation) (a : Answer)
    (h : AnswerFits types known ft o a) where
  abbrev Counted : Instr → Type 0
  Counted i = InstructionFits types ft h.at i h.before → GoesOnTo i h.at o.instr a.clause h.to
      → length o.operands ≡ operands_taken i → answer_left (giving types) o.instr a.clause ≡ Some (length a.values)

  by-plain : (i : Instr) → ((cases : List SelectCase) (otherwise : Option ℕ) → i ≡ Instr.Select cases otherwise → ⊥)
      → (i ≡ Instr.Panic → ⊥) → InstructionFits types ft h.at i h.before → is_inner i ≡ false → o.instr ≡ i
      → a.clause ≡ 0 → h.to ≡ h.at + 1 → length o.operands ≡ taken i
      → answer_left (giving types) o.instr a.clause ≡ Some (length a.values)
  by-plain i plain calm fits visible shown clause to many =
      let count = plain-counted types known ft h.before h.later o.operands a.values h.rest h.operands h.values h.at
      (ap (λ n. slice_get ft.shapes n) (sym to) ∙ h.there) i visible plain calm fits many in
      ap (λ j. answer_left (giving types) j a.clause) shown ∙ plain-left (giving types) i a.clause plain
      ∙ ap (λ k. cond (k == 0) (Some (left (giving types) i)) None) clause
      ∙ some-number (left (giving types) i) (length a.values) (sym count)

  by-instr : (i : Instr) → Counted i
  by-instr (Instr.Select cases otherwise) fits leads many =
      ap (λ j. answer_left (giving types) j a.clause) leads.0
      ∙ choice-counted types known ft h.before h.later o.operands a.values h.rest h.operands h.values h.at a.clause
      h.to cases otherwise fits many leads.1 h.there
  by-instr Instr.Panic fits leads many = absurd leads
  by-instr i fits leads many = by-plain i (λ cases otherwise q. cc) (λ q. cc) fits leads.0 leads.1 leads.2 leads.3 many

pub answers-are-counted : AnswersAreCounted
answers-are-counted types known ft o a h = by-instr types known ft o a h h.instr h.fits h.leads h.count
