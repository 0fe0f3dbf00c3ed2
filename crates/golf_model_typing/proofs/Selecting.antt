-- `select`: its turn has changes, and keeps types.
-- For: `selects`, golf_model/specs/Selects.antt; `turns_keep_types`, src/lib.rt
-- By: induction over the list of cases, and over the list of offers
use Rattle.std.proofs.Common.{◌≡◌, ℕ, ◌%◌, Bool, true, false, List, [], ◌∷◌, ◌++◌, Option, Some, None, length, inl, inr}
use Rattle.std.proofs.Common.{refl, sym, ap, ◌∙◌, subst}
use Rattle.std.proofs.lemmas.Bool.{and_from}
use Rattle.golf_theory.specs.Maps.{find}
use Rattle.golf_theory.specs.Membership.{In, Every}
use Rattle.golf_theory.proofs.Lists.{In-slice_get, Every-at, Every-append}
use Rattle.golf_data.specs.declared.value.Value.{Value}
use Rattle.golf_data.specs.declared.value.Object.{Object}
use Rattle.golf_data.specs.declared.code.SelectCase.{SelectCase}
use Rattle.golf_data.specs.declared.code.CaseKind.{CaseKind}
use Rattle.golf_data.specs.declared.goroutine.Side.{Side}
use Rattle.golf_data.specs.declared.goroutine.Wait.{Wait}
use Rattle.golf_model.specs.State.{State}
use Rattle.golf_model.specs.Changes.{Change}
use Rattle.golf_model.specs.Actors.{Actor, next, choose, at_reference_or}
use Rattle.golf_model.specs.Presence.{Present}
use Rattle.golf_model.specs.Selects.{Offer, Taken, take_case, and_case, offers_of, is_channel, is_nil_or_channel}
use Rattle.golf_model.specs.Selects.{all_on_channels, is_ready, is_ready_on, kept_if, ready, proceeds_by, wait_of}
use Rattle.golf_model.specs.Selects.{case_waits, offered_waits, select_kind, selects_none, selects_one, chosen}
use Rattle.golf_model.specs.Selects.{selects_from, selects}
use Rattle.golf_model_futures.proofs.RefLaws.{Val, Vals, vals-head, vals-tail}
use Rattle.golf_model_typing.specs.Types.{ValueType, Shape, FunctionTypes, Typing, HasType, ValueFits, ValuesFit}
use Rattle.golf_model_typing.specs.Shapes.{LeadsToShape, case_takes, case_leaves, CasesFit, DefaultFits}
use Rattle.golf_model_typing.specs.WellTyped.{WaitFits, WellTyped}
use Rattle.golf_model_typing.proofs.Acting.{Proceeds, there, ActorFits, proceeds-jumps, proceeds-blocks, on_no, lands}
use Rattle.golf_model_typing.proofs.Channels.{After, proceeds-sends_on, proceeds-receives_on}

module _ (types : Typing) (known : List (ℕ × ValueType)) (s : State) (w : WellTyped types known s) (a : Actor)
    (ft : FunctionTypes) (sh : Shape) (i : ActorFits types known s a ft sh) (below : List ValueType) where
  abbrev Goes : List Change → Type 0
  Goes cs = Proceeds types known s cs

  abbrev SentFits : CaseKind → Value → ValueType → Type 0
  SentFits CaseKind.Send v e = ValueFits types.of known v e
  SentFits CaseKind.Take v e = Unit {0}
  SentFits CaseKind.TakeOk v e = Unit {0}

  -- a case with its operands
  abbrev OfferFits : Offer → Type 0
  OfferFits x = (e : ValueType) × ValueFits types.of known x.channel (ValueType.Chan e) × Val (Present s) x.channel
      × SentFits x.kind x.value e × LeadsToShape ft (case_leaves x.kind e ++ below) sh.assigned x.target

  record Took (rest : List ValueType) (t : Taken) : Type 0 where
    offers : Every OfferFits t.0
    held : ValuesFit types.of known t.1 rest
    present : Vals (Present s) t.1

  -- the operands of one case
  take-fits : (k : SelectCase) (kind : CaseKind) (e : ValueType) (rest : List ValueType) (t : Taken) → k.kind ≡ kind
      → LeadsToShape ft (case_leaves k.kind e ++ below) sh.assigned k.target → Took (case_takes kind e rest) t
      → (u : Taken)
      × (take_case k kind t ≡ Some u) × Took rest u
  take-fits k CaseKind.Send e rest (os, []) q l h = absurd h.held
  take-fits k CaseKind.Send e rest (os, v ∷ []) q l h = absurd h.held.1
  take-fits k CaseKind.Send e rest (os, v ∷ c ∷ vs) q l h =
      let p = vals-tail (Present s) v (c ∷ vs) h.present in (
        (record { kind = k.kind; channel = c; value = v; target = k.target } ∷ os, vs),
        refl,
        record {
          offers = (
            (
              e,
              h.held.1.0,
              vals-head (Present s) c vs p,
              subst (λ z. SentFits z v e) (sym q) h.held.0,
              l,
            ),
            h.offers,
          );
          held = h.held.1.1;
          present = vals-tail (Present s) c vs p;
        },
      )
  take-fits k _ e rest (os, []) q l h = absurd h.held
  take-fits k _ e rest (os, c ∷ vs) q l h = (
    (record { kind = k.kind; channel = c; value = Value.Nil; target = k.target } ∷ os, vs),
    refl,
    record {
      offers = (
        (
          e,
          h.held.0,
          vals-head (Present s) c vs h.present,
          subst (λ z. SentFits z Value.Nil e) (sym q) tt,
          l,
        ),
        h.offers,
      );
      held = h.held.1;
      present = vals-tail (Present s) c vs h.present;
    },
  )

  offered : (ks : List SelectCase) (rest ops : List ValueType) (vs : List Value)
      → CasesFit ft sh.assigned below ks rest ops → ValuesFit types.of known vs ops → Vals (Present s) vs → (t : Taken)
      × (offers_of ks vs ≡ Some t) × Took rest t
  offered [] rest ops vs h hv p = (
    ([], vs),
    refl,
    record { offers = tt; held = subst (ValuesFit types.of known vs) h hv; present = p },
  )
  offered (k ∷ ks) rest ops vs h hv p =
      let later = offered ks (case_takes k.kind h.0 rest) ops vs h.2 hv p in
      let one = take-fits k k.kind h.0 rest later.0 refl h.1 later.2 in
      (one.0, ap (and_case k) later.1 ∙ one.1, one.2)

  ready-in : (xs : List Offer) (x : Offer) → In x (ready s xs) → In x xs × (is_ready s x ≡ true)
  ready-in [] x m = absurd m
  ready-in (y ∷ ys) x m = go (λ n. ready-in ys x n) (is_ready s y) refl m
    where
      go : (In x (ready s ys) → In x ys × (is_ready s x ≡ true)) → (b : Bool) → is_ready s y ≡ b
          → In x (kept_if b y (ready s ys)) → In x (y ∷ ys) × (is_ready s x ≡ true)
      go f true e (inl q) = (inl q, ap (is_ready s) q ∙ e)
      go f true e (inr n) = let r = f n in (inr r.0, r.1)
      go f false e n = let r = f n in (inr r.0, r.1)

  -- each case is on nil or on a channel
  is-channel : (o : ℕ) (e : ValueType) → HasType known o (ValueType.Chan e) → Present s o → (m : Option Object)
      → find o s.objects ≡ m → is_channel m ≡ true
  is-channel o e k p None i = absurd (there types known s Goes w o (ValueType.Chan e) k p i)
  is-channel o e k p (Some (Object.Struct fields)) i = let x =
      w.objects o (ValueType.Chan e) (Object.Struct fields) k i in let y = x.2 in cc
  is-channel o e k p (Some (Object.Slice elements)) i = let x =
      w.objects o (ValueType.Chan e) (Object.Slice elements) k i in let y = x.1 in cc
  is-channel o e k p (Some (Object.Chan c)) i = refl
  is-channel o e k p (Some (Object.Mutex locked)) i = let x =
      w.objects o (ValueType.Chan e) (Object.Mutex locked) k i in cc
  is-channel o e k p (Some (Object.Group n)) i = let x = w.objects o (ValueType.Chan e) (Object.Group n) k i in cc
  is-channel o e k p (Some (Object.Rw n)) i = let x = w.objects o (ValueType.Chan e) (Object.Rw n) k i in cc
  is-channel o e k p (Some (Object.Cond m)) i = let x = w.objects o (ValueType.Chan e) (Object.Cond m) k i in let y =
      x.0 in cc

  nil-or-channel : (v : Value) (e : ValueType) → ValueFits types.of known v (ValueType.Chan e) → Val (Present s) v
      → is_nil_or_channel s v ≡ true
  nil-or-channel (Value.Text k) e h p = let f = h.0 in cc
  nil-or-channel Value.Nil e h p = refl
  nil-or-channel (Value.Ref o) e h p = is-channel o.0 e h.0 p.0 (find o.0 s.objects) refl
  nil-or-channel _ e h p = cc

  on-channels : (xs : List Offer) → Every OfferFits xs → all_on_channels s xs ≡ true
  on-channels [] h = refl
  on-channels (x ∷ xs) h = and_from (is_nil_or_channel s x.channel) (all_on_channels s xs)
      (nil-or-channel x.channel h.0.0 h.0.1 h.0.2) (on-channels xs h.1)

  -- a ready case has a channel
  on-channel : (kind : CaseKind) (act : ℕ → List Change) (v : Value) (e : ValueType)
      → ValueFits types.of known v (ValueType.Chan e) → Val (Present s) v → is_ready_on kind s v ≡ true
      → ((o : ℕ) → HasType known o (ValueType.Chan e) → Present s o → Goes (act o)) → Goes (at_reference_or [] act v)
  on-channel kind act (Value.Ref o) e h p r f = f o.0 h.0 p.0
  on-channel kind act _ e h p r f = cc

  -- a chosen case leads to its target
  at_target : (rest : List Value) (kind : CaseKind) (e : ValueType) (target : ℕ) → ValuesFit types.of known rest below
      → LeadsToShape ft (case_leaves kind e ++ below) sh.assigned target
      → After types known s w a ft i.holds (case_leaves kind e) (record a.frame { at = target; operands = rest })
  at_target rest kind e target hs l = record {
    base = i.holds.base;
    stands = on_no types known s a ft sh i (case_leaves kind e) target rest a.frame.slots
        (lands below sh.assigned l hs i.assigned);
    callers = i.holds.callers;
  }

  proceeds-proceeds_by : (rest : List Value) (kind : CaseKind) (v : Value) (e : ValueType) (target o : ℕ)
      → ValuesFit types.of known rest below → SentFits kind v e
      → LeadsToShape ft (case_leaves kind e ++ below) sh.assigned target → HasType known o (ValueType.Chan e)
      → Present s o
      → Goes (proceeds_by a (record a.frame { at = target; operands = rest }) kind v s o)
  proceeds-proceeds_by rest CaseKind.Send v e target o hs hv l k p =
      proceeds-sends_on types known s w a ft i.holds _ v o e (at_target rest CaseKind.Send e target hs l) k p hv
  proceeds-proceeds_by rest CaseKind.Take v e target o hs hv l k p =
      proceeds-receives_on types known s w a ft i.holds _ false o e (at_target rest CaseKind.Take e target hs l) k p
  proceeds-proceeds_by rest CaseKind.TakeOk v e target o hs hv l k p =
      proceeds-receives_on types known s w a ft i.holds _ true o e (at_target rest CaseKind.TakeOk e target hs l) k p

  -- what a blocked goroutine is given by each case
  wait-fits : (rest : List Value) (x : Offer) (kind : CaseKind) (e : ValueType) (o : ℕ)
      → ValuesFit types.of known rest below → SentFits kind x.value e
      → LeadsToShape ft (case_leaves kind e ++ below) sh.assigned x.target → HasType known o (ValueType.Chan e)
      → WaitFits types known ft (next a.frame rest) (wait_of x kind o)
  wait-fits rest x CaseKind.Send e o hs hv l k = (e, k, hv, (at_target rest CaseKind.Send e x.target hs l).stands)
  wait-fits rest x CaseKind.Take e o hs hv l k = (e, k, (at_target rest CaseKind.Take e x.target hs l).stands)
  wait-fits rest x CaseKind.TakeOk e o hs hv l k = (e, k, (at_target rest CaseKind.TakeOk e x.target hs l).stands)

  case-fits : (rest : List Value) (x : Offer) (v : Value) (e : ValueType) → ValuesFit types.of known rest below
      → SentFits x.kind x.value e → LeadsToShape ft (case_leaves x.kind e ++ below) sh.assigned x.target
      → ValueFits types.of known v (ValueType.Chan e)
      → Every (WaitFits types known ft (next a.frame rest)) (case_waits x v)
  case-fits rest x (Value.Ref o) e hs hv l h = (wait-fits rest x x.kind e o.0 hs hv l h.0, tt)
  case-fits rest x _ e hs hv l h = tt

  waits-fits : (rest : List Value) (xs : List Offer) → ValuesFit types.of known rest below → Every OfferFits xs
      → Every (WaitFits types known ft (next a.frame rest)) (offered_waits xs)
  waits-fits rest [] hs h = tt
  waits-fits rest (x ∷ xs) hs h = Every-append (WaitFits types known ft (next a.frame rest)) (case_waits x x.channel)
      (offered_waits xs) (case-fits rest x x.channel h.0.0 hs h.0.3 h.0.4 h.0.1) (waits-fits rest xs hs h.1)

  -- none of them is on a condition
  no-condition : (all : List Wait) (x : Offer) (kind : CaseKind) (o : ℕ) → (wait_of x kind o).side ≡ Side.Cond
      → all ≡ wait_of x kind o ∷ []
  no-condition all x CaseKind.Send o e = cc
  no-condition all x CaseKind.Take o e = cc
  no-condition all x CaseKind.TakeOk o e = cc

  case-alone : (all : List Wait) (x : Offer) (v : Value)
      → Every (λ (u : Wait). u.side ≡ Side.Cond → all ≡ u ∷ []) (case_waits x v)
  case-alone all x (Value.Ref o) = ((λ e. no-condition all x x.kind o.0 e), tt)
  case-alone all x _ = tt

  alone : (all : List Wait) (xs : List Offer)
      → Every (λ (u : Wait). u.side ≡ Side.Cond → all ≡ u ∷ []) (offered_waits xs)
  alone all [] = tt
  alone all (x ∷ xs) = Every-append (λ (u : Wait). u.side ≡ Side.Cond → all ≡ u ∷ []) (case_waits x x.channel)
      (offered_waits xs) (case-alone all x x.channel) (alone all xs)

  proceeds-none : (rest : List Value) (xs : List Offer) (otherwise : Option ℕ) → ValuesFit types.of known rest below
      → Every OfferFits xs → DefaultFits ft sh.assigned below otherwise → Goes (selects_none a rest xs otherwise)
  proceeds-none rest xs None hs h d = proceeds-blocks types known s a ft sh i (next a.frame rest) (select_kind xs)
      (offered_waits xs) i.holds.base (waits-fits rest xs hs h) (alone (offered_waits xs) xs) i.holds.callers
  proceeds-none rest xs (Some target) hs h d = proceeds-jumps types known s a ft sh i target rest below hs d

  proceeds-one : (rest : List Value) (xs : List Offer) (otherwise : Option ℕ) (m : Option Offer)
      → ((x : Offer) → m ≡ Some x → In x (ready s xs)) → ValuesFit types.of known rest below → Every OfferFits xs
      → DefaultFits ft sh.assigned below otherwise → Goes (selects_one a rest s xs otherwise m)
  proceeds-one rest xs otherwise None f hs h d = proceeds-none rest xs otherwise hs h d
  proceeds-one rest xs otherwise (Some x) f hs h d =
      let r = ready-in xs x (f x refl) in
      let ok = Every-at OfferFits xs x h r.0 in
      on-channel x.kind _ x.channel ok.0 ok.1 ok.2 r.1
      (λ o k p. proceeds-proceeds_by rest x.kind x.value ok.0 x.target o hs ok.3 ok.4 k p)

  proceeds-from : (choice : ℕ) (otherwise : Option ℕ) (m : Option Taken) (t : Taken) → m ≡ Some t → Took below t
      → DefaultFits ft sh.assigned below otherwise → Goes (selects_from a s choice otherwise m)
  proceeds-from choice otherwise None t e h d = cc
  proceeds-from choice otherwise (Some u) t e h d =
      let same : t ≡ u = cc in
      let k = subst (Took below) same h in
      subst (λ b. Goes (choose b (selects_one a u.1 s u.0 otherwise (chosen choice (ready s u.0))) []))
      (sym (on-channels u.0 k.offers))
      (proceeds-one u.1 u.0 otherwise (chosen choice (ready s u.0))
      (λ x q. In-slice_get (ready s u.0) (choice % length (ready s u.0)) x q) k.held k.offers d)

  pub proceeds-selects : (choice : ℕ) (cases : List SelectCase) (otherwise : Option ℕ)
      → CasesFit ft sh.assigned below cases below sh.operands → DefaultFits ft sh.assigned below otherwise
      → Goes (selects a s choice cases otherwise)
  proceeds-selects choice cases otherwise h d =
      let t = offered cases below sh.operands a.frame.operands h i.held i.present in
      proceeds-from choice otherwise (offers_of cases a.frame.operands) t.0 t.1 t.2 d
