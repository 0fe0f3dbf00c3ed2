-- A body that fits shapes fits them when they ask for needed slots alone.
-- For: `live_shapes`, golf_model_typing/specs/NeededSlots.antt; the law `needed_slots_suffice`, src/lib.rt.
-- By: induction over the list of shapes; cases of the instruction.
use Rattle.std.proofs.Common.{◌≡◌, ℕ, zero, suc, ◌+◌, Bool, true, false, List, [], ◌∷◌, ◌++◌, Option, Some, None, ◌==◌}
use Rattle.std.proofs.Common.{filter, map, inl, inr, refl, sym, ap, ◌∙◌, subst, slice_get, arith}
use Rattle.std.specs.Prelude.{option_to_list}
use Rattle.std.proofs.lemmas.Bool.{eqb-true, eqb-false}
use Rattle.golf_theory.specs.Membership.{In, Every}
use Rattle.golf_theory.proofs.Lists.{In-left, In-right, In-filter, In-filter_old, Every-at, Every-from}
use Rattle.golf_data.specs.declared.code.Function.{Function}
use Rattle.golf_data.specs.declared.code.Instr.{Instr}
use Rattle.golf_data.specs.declared.code.CodeLine.{CodeLine}
use Rattle.golf_data.specs.declared.code.SelectCase.{SelectCase}
use Rattle.golf_model_typing.specs.Types.{ValueType, Shape, FunctionTypes, Types}
use Rattle.golf_model_typing.specs.Shapes.{LeadsToShape, Takes, CasesFit, DefaultFits, case_takes, case_leaves}
use Rattle.golf_model_typing.specs.Shapes.{InstructionFits, MasksCover}
use Rattle.golf_live.specs.Paths.{successors, Needed}
use Rattle.golf_live.specs.Live.{is_needed, live as live_of}
use Rattle.golf_live.proofs.Paths.{is_needed-sound, is_needed-complete}
use Rattle.golf_live.proofs.MainLaws.{needed-stay}
use Rattle.golf_data.specs.Masks.{stays_under}
use Rattle.golf_model_typing.specs.NeededSlots.{only_live, live_shapes, live_types, NeededSlotsSuffice, MaskedFit}

live-at : (live : ℕ → ℕ → Bool) (shs : List Shape) (n k : ℕ) (sh : Shape) → slice_get shs k ≡ Some sh
    → slice_get (live_shapes live n shs) k ≡ Some (only_live live (n + k) sh)
live-at live [] n k sh e = cc
live-at live (x ∷ shs) n zero sh e = let same : x ≡ sh = cc in ap (λ z. Some (only_live live n z)) same
    ∙ ap (λ m. Some (only_live live m sh)) (omega arith)
live-at live (x ∷ shs) n (suc k) sh e = live-at live shs (n + 1) k sh e
    ∙ ap (λ m. Some (only_live live m sh)) (omega arith)

live-back : (live : ℕ → ℕ → Bool) (shs : List Shape) (n k : ℕ) (sh : Shape)
    → slice_get (live_shapes live n shs) k ≡ Some sh → (old : Shape) × (slice_get shs k ≡ Some old)
live-back live [] n k sh e = cc
live-back live (x ∷ shs) n zero sh e = (x, refl)
live-back live (x ∷ shs) n (suc k) sh e = live-back live shs (n + 1) k sh e

one_only : {X : Type 0} (m : Option X) (a b : X) → m ≡ Some a → m ≡ Some b → a ≡ b
one_only m a b e f = cc

module _ (types : Types) (fn : Function) (ft : FunctionTypes) (live : ℕ → ℕ → Bool)
    (sound : (k slot : ℕ) → live k slot ≡ true → Needed fn.body slot k)
    (complete : (k slot : ℕ) → Needed fn.body slot k → live k slot ≡ true) where
  abbrev lt : FunctionTypes
  lt = live_types live ft

  lead : (ts : List ValueType) (A B : List ℕ) (j : ℕ) → ((s : ℕ) → In s A → Needed fn.body s j → In s B)
      → LeadsToShape ft ts A j → LeadsToShape lt ts B j
  lead ts A B j f l = (
    only_live live j l.0,
    live-at live ft.shapes 0 j l.0 l.1 ∙ ap (λ m. Some (only_live live m l.0)) (omega arith),
    l.2,
    Every-from (λ s. In s B) (filter (live j) l.0.assigned)
        (λ s m. let p = In-filter (live j) s l.0.assigned m in f s (Every-at (λ t. In t A) l.0.assigned s l.3 p.0)
        (sound j s p.1)),
  )

  module _ (k : ℕ) (sh : Shape) (l : CodeLine) (at : slice_get fn.body k ≡ Some l) where
    -- at an instruction that stores nothing
    next : (i : Instr) → l.instr ≡ i → ((s : ℕ) → i ≡ Instr.Store s → ⊥) → (ts : List ValueType) (j : ℕ)
        → In j (successors i k) → LeadsToShape ft ts sh.assigned j → LeadsToShape lt ts (only_live live k sh).assigned j
    next i is keeps_all ts j f h = lead ts sh.assigned (filter (live k) sh.assigned) j
        (λ s m n. In-filter_old (live k) s sh.assigned
        (complete k s (Needed.Later k j l at (λ q. keeps_all s (sym is ∙ q))
        (subst (λ z. In j (successors z k)) (sym is) f) n)) m) h

    simple : (i : Instr) → l.instr ≡ i → ((s : ℕ) → i ≡ Instr.Store s → ⊥) → In (k + 1) (successors i k)
        → (us vs : List ValueType) → Takes ft k sh us vs → Takes lt k (only_live live k sh) us vs
    simple i is keeps_all f us vs r = (r.0, r.1, next i is keeps_all (vs ++ r.0) (k + 1) f r.2)

    reads : (i : ℕ) → l.instr ≡ Instr.Load i → In i sh.assigned → In i (filter (live k) sh.assigned)
    reads i is m = In-filter_old (live k) i sh.assigned (complete k i (Needed.Read k l at is)) m

    stored : (i : ℕ) → l.instr ≡ Instr.Store i → (ts : List ValueType) → LeadsToShape ft ts (i ∷ sh.assigned) (k + 1)
        → LeadsToShape lt ts (i ∷ filter (live k) sh.assigned) (k + 1)
    stored i is ts h = lead ts (i ∷ sh.assigned) (i ∷ filter (live k) sh.assigned) (k + 1)
        (λ s m n. elim (s == i) as (λ b. s == i ≡ b → In s (i ∷ filter (live k) sh.assigned)) [
          | true ↦ λ q. inl (eqb-true s i q)
          | false ↦ λ q. elim m [
            | inl e ↦ inl e
            | inr e ↦ inr (In-filter_old (live k) s sh.assigned
                (complete k s (Needed.Later k (k + 1) l at (λ z. other i s (sym is ∙ z) (eqb-false s i q))
                (subst (λ y. In (k + 1) (successors y k)) (sym is) (inl refl)) n)) e)
          ]
        ] refl) h
      where
        other : (i s : ℕ) → Instr.Store i ≡ Instr.Store s → (s ≡ i → ⊥) → ⊥
        other i s e n = n (cc)

    chosen : (cases : List SelectCase) (otherwise : Option ℕ) → l.instr ≡ Instr.Select cases otherwise
        → (ks : List SelectCase) → ((j : ℕ) → In j (map (λ (c : SelectCase). c.target) ks)
        → In j (successors (Instr.Select cases otherwise) k)) → (below rest ops : List ValueType)
        → CasesFit ft sh.assigned below ks rest ops → CasesFit lt (only_live live k sh).assigned below ks rest ops
    chosen cases otherwise is [] f below rest ops h = h
    chosen cases otherwise is (c ∷ ks) f below rest ops h = (
      h.0,
      next (Instr.Select cases otherwise) is (λ s q. cc) (case_leaves c.kind h.0 ++ below) c.target
          (f c.target (inl refl)) h.1,
      chosen cases otherwise is ks (λ j m. f j (inr m)) below (case_takes c.kind h.0 rest) ops h.2,
    )

    by_default : (cases : List SelectCase) (otherwise : Option ℕ) → l.instr ≡ Instr.Select cases otherwise
        → (m : Option ℕ) → otherwise ≡ m → (below : List ValueType) → DefaultFits ft sh.assigned below m
        → DefaultFits lt (only_live live k sh).assigned below m
    by_default cases otherwise is None e below h = tt
    by_default cases otherwise is (Some t) e below h =
        next (Instr.Select cases otherwise) is (λ s q. cc) below t
        (In-right t (map (λ (c : SelectCase). c.target) cases) (option_to_list otherwise)
        (subst (λ o. In t (option_to_list o)) (sym e) (inl refl))) h

    fits-live : (i : Instr) → l.instr ≡ i → InstructionFits types ft k i sh
        → InstructionFits types lt k i (only_live live k sh)
    fits-live (Instr.Int n) is r = simple (Instr.Int n) is (λ s q. cc) (inl refl) [] (ValueType.Int ∷ []) r
    fits-live (Instr.Bool b) is r = simple (Instr.Bool b) is (λ s q. cc) (inl refl) [] (ValueType.Bool ∷ []) r
    fits-live (Instr.Text j) is r = (r.0, simple (Instr.Text j) is (λ s q. cc) (inl refl) [] (ValueType.Text ∷ []) r.1)
    fits-live Instr.Unit is r = simple Instr.Unit is (λ s q. cc) (inl refl) [] (ValueType.EmptyStruct ∷ []) r
    fits-live Instr.Nil is r = (r.0, r.1, simple Instr.Nil is (λ s q. cc) (inl refl) [] (r.0 ∷ []) r.2)
    fits-live (Instr.Load i) is r = (
      r.0,
      reads i is r.1,
      r.2,
      simple (Instr.Load i) is (λ s q. cc) (inl refl) [] (r.0 ∷ []) r.3,
    )
    fits-live (Instr.Store i) is r = (r.0, r.1, r.2, r.3, stored i is r.1 r.4)
    fits-live (Instr.LoadGlobal i) is r = (
      r.0,
      r.1,
      simple (Instr.LoadGlobal i) is (λ s q. cc) (inl refl) [] (r.0 ∷ []) r.2,
    )
    fits-live (Instr.StoreGlobal i) is r =
        (r.0, r.1, simple (Instr.StoreGlobal i) is (λ s q. cc) (inl refl) (r.0 ∷ []) [] r.2)
    fits-live Instr.Drop is r = (r.0, simple Instr.Drop is (λ s q. cc) (inl refl) (r.0 ∷ []) [] r.1)
    fits-live Instr.Dup is r = (r.0, simple Instr.Dup is (λ s q. cc) (inl refl) (r.0 ∷ []) (r.0 ∷ r.0 ∷ []) r.1)
    fits-live Instr.Dup2 is r = (
      r.0,
      r.1,
      simple Instr.Dup2 is (λ s q. cc) (inl refl) (r.1 ∷ r.0 ∷ []) (r.1 ∷ r.0 ∷ r.1 ∷ r.0 ∷ []) r.2,
    )
    fits-live Instr.Neg is r = simple Instr.Neg is (λ s q. cc) (inl refl) (ValueType.Int ∷ []) (ValueType.Int ∷ []) r
    fits-live Instr.Not is r = simple Instr.Not is (λ s q. cc) (inl refl) (ValueType.Bool ∷ []) (ValueType.Bool ∷ []) r
    fits-live Instr.Add is r = simple Instr.Add is (λ s q. cc) (inl refl) (ValueType.Int ∷ ValueType.Int ∷ [])
        (ValueType.Int ∷ []) r
    fits-live Instr.Sub is r = simple Instr.Sub is (λ s q. cc) (inl refl) (ValueType.Int ∷ ValueType.Int ∷ [])
        (ValueType.Int ∷ []) r
    fits-live Instr.Mul is r = simple Instr.Mul is (λ s q. cc) (inl refl) (ValueType.Int ∷ ValueType.Int ∷ [])
        (ValueType.Int ∷ []) r
    fits-live Instr.Div is r = simple Instr.Div is (λ s q. cc) (inl refl) (ValueType.Int ∷ ValueType.Int ∷ [])
        (ValueType.Int ∷ []) r
    fits-live Instr.Rem is r = simple Instr.Rem is (λ s q. cc) (inl refl) (ValueType.Int ∷ ValueType.Int ∷ [])
        (ValueType.Int ∷ []) r
    fits-live Instr.Eq is r = (
      r.0,
      simple Instr.Eq is (λ s q. cc) (inl refl) (r.0 ∷ r.0 ∷ [])
          (ValueType.Bool ∷ []) r.1,
    )
    fits-live Instr.Less is r = simple Instr.Less is (λ s q. cc) (inl refl) (ValueType.Int ∷ ValueType.Int ∷ [])
        (ValueType.Bool ∷ []) r
    fits-live Instr.AtMost is r = simple Instr.AtMost is (λ s q. cc) (inl refl) (ValueType.Int ∷ ValueType.Int ∷ [])
        (ValueType.Bool ∷ []) r
    fits-live (Instr.Jump target) is r = next (Instr.Jump target) is (λ s q. cc) sh.operands target (inl refl) r
    fits-live (Instr.JumpIfNot target) is r = (
      r.0,
      r.1,
      next (Instr.JumpIfNot target) is (λ s q. cc) r.0 (k + 1) (inl refl) r.2,
      next (Instr.JumpIfNot target) is (λ s q. cc) r.0 target (inr (inl refl)) r.3,
    )
    fits-live (Instr.NewStruct j) is r = (
      r.0,
      r.1,
      simple (Instr.NewStruct j) is (λ s q. cc) (inl refl) [] (ValueType.Struct j ∷ []) r.2,
    )
    fits-live Instr.NewMutex is r = simple Instr.NewMutex is (λ s q. cc) (inl refl) [] (ValueType.Mutex ∷ []) r
    fits-live Instr.NewGroup is r = simple Instr.NewGroup is (λ s q. cc) (inl refl) [] (ValueType.Group ∷ []) r
    fits-live Instr.NewRw is r = simple Instr.NewRw is (λ s q. cc) (inl refl) [] (ValueType.Rw ∷ []) r
    fits-live Instr.NewCond is r = simple Instr.NewCond is (λ s q. cc) (inl refl) (ValueType.Mutex ∷ [])
        (ValueType.Cond ∷ []) r
    fits-live (Instr.Field i) is r = (
      r.0,
      r.1,
      r.2,
      r.3,
      r.4,
      simple (Instr.Field i) is (λ s q. cc) (inl refl) (ValueType.Struct r.0 ∷ []) (r.2 ∷ []) r.5,
    )
    fits-live (Instr.SetField i) is r = (
      r.0,
      r.1,
      r.2,
      r.3,
      r.4,
      simple (Instr.SetField i) is (λ s q. cc) (inl refl) (r.2 ∷ ValueType.Struct r.0 ∷ []) [] r.5,
    )
    fits-live (Instr.NewSlice z) is r = (
      r.0,
      r.1,
      simple (Instr.NewSlice z) is (λ s q. cc) (inl refl) (ValueType.Int ∷ []) (ValueType.Slice r.0 ∷ []) r.2,
    )
    fits-live (Instr.NewChan z) is r = (
      r.0,
      r.1,
      simple (Instr.NewChan z) is (λ s q. cc) (inl refl) (ValueType.Int ∷ []) (ValueType.Chan r.0 ∷ []) r.2,
    )
    fits-live Instr.Index is r = (
      r.0,
      simple Instr.Index is (λ s q. cc) (inl refl)
          (ValueType.Int ∷ ValueType.Slice r.0 ∷ []) (r.0 ∷ []) r.1,
    )
    fits-live Instr.SetIndex is r = (
      r.0,
      simple Instr.SetIndex is (λ s q. cc) (inl refl)
          (r.0 ∷ ValueType.Int ∷ ValueType.Slice r.0 ∷ []) [] r.1,
    )
    fits-live Instr.Len is r = (
      r.0,
      r.1,
      r.2,
      simple Instr.Len is (λ s q. cc) (inl refl) (r.0 ∷ []) (ValueType.Int ∷ []) r.3,
    )
    fits-live Instr.Send is r = (
      r.0,
      simple Instr.Send is (λ s q. cc) (inl refl)
          (r.0 ∷ ValueType.Chan r.0 ∷ []) [] r.1,
    )
    fits-live Instr.Receive is r = (
      r.0,
      simple Instr.Receive is (λ s q. cc) (inl refl) (ValueType.Chan r.0 ∷ [])
          (r.0 ∷ []) r.1,
    )
    fits-live Instr.ReceiveOk is r = (
      r.0,
      simple Instr.ReceiveOk is (λ s q. cc) (inl refl) (ValueType.Chan r.0 ∷ []) (ValueType.Bool ∷ r.0 ∷ []) r.1,
    )
    fits-live Instr.Close is r = (r.0, simple Instr.Close is (λ s q. cc) (inl refl) (ValueType.Chan r.0 ∷ []) [] r.1)
    fits-live (Instr.Select cases otherwise) is r = (
      r.0,
      chosen cases otherwise is cases
          (λ j m. In-left j (map (λ (c : SelectCase). c.target) cases) (option_to_list otherwise) m) r.0 r.0 sh.operands
          r.1,
      by_default cases otherwise is otherwise refl r.0 r.2,
    )
    fits-live Instr.Lock is r = simple Instr.Lock is (λ s q. cc) (inl refl) (ValueType.Mutex ∷ []) [] r
    fits-live Instr.Unlock is r = simple Instr.Unlock is (λ s q. cc) (inl refl) (ValueType.Mutex ∷ []) [] r
    fits-live Instr.GroupAdd is r = simple Instr.GroupAdd is (λ s q. cc) (inl refl)
        (ValueType.Int ∷ ValueType.Group ∷ []) [] r
    fits-live Instr.GroupWait is r = simple Instr.GroupWait is (λ s q. cc) (inl refl) (ValueType.Group ∷ []) [] r
    fits-live Instr.RwLock is r = simple Instr.RwLock is (λ s q. cc) (inl refl) (ValueType.Rw ∷ []) [] r
    fits-live Instr.RwUnlock is r = simple Instr.RwUnlock is (λ s q. cc) (inl refl) (ValueType.Rw ∷ []) [] r
    fits-live Instr.ReadLock is r = simple Instr.ReadLock is (λ s q. cc) (inl refl) (ValueType.Rw ∷ []) [] r
    fits-live Instr.ReadUnlock is r = simple Instr.ReadUnlock is (λ s q. cc) (inl refl) (ValueType.Rw ∷ []) [] r
    fits-live Instr.CondMutex is r = simple Instr.CondMutex is (λ s q. cc) (inl refl) (ValueType.Cond ∷ [])
        (ValueType.Mutex ∷ []) r
    fits-live Instr.CondWait is r = simple Instr.CondWait is (λ s q. cc) (inl refl) (ValueType.Cond ∷ []) [] r
    fits-live Instr.CondSignal is r = simple Instr.CondSignal is (λ s q. cc) (inl refl) (ValueType.Cond ∷ []) [] r
    fits-live Instr.CondBroadcast is r = simple Instr.CondBroadcast is (λ s q. cc) (inl refl) (ValueType.Cond ∷ []) [] r
    fits-live (Instr.Call f n) is r = (
      r.0,
      r.1,
      r.2,
      r.3,
      r.4,
      next (Instr.Call f n) is (λ s q. cc) (option_to_list r.0.result ++ r.1) (k + 1) (inl refl) r.5,
    )
    fits-live (Instr.Go f n) is r = (
      r.0,
      r.1,
      r.2,
      r.3,
      r.4,
      next (Instr.Go f n) is (λ s q. cc) (r.1) (k + 1) (inl refl) r.5,
    )
    fits-live (Instr.Defer f n) is r = (
      r.0,
      r.1,
      r.2,
      r.3,
      r.4,
      next (Instr.Defer f n) is (λ s q. cc) (r.1) (k + 1) (inl refl) r.5,
    )
    fits-live Instr.Return is r = r
    fits-live Instr.ReturnValue is r = (r.0, r.1, r.2, r.3)
    fits-live (Instr.Print n) is r = (
      r.0,
      r.1,
      r.2,
      r.3,
      r.4,
      next (Instr.Print n) is (λ s q. cc) r.1 (k + 1) (inl refl) r.5,
    )
    fits-live Instr.Collect is r = simple Instr.Collect is (λ s q. cc) (inl refl) [] [] r
    fits-live (Instr.SetFinalizer f) is r =
        (r.0, r.1, r.2, r.3, simple (Instr.SetFinalizer f) is (λ s q. cc) (inl refl) (ValueType.Struct r.0 ∷ []) [] r.4)
    fits-live Instr.ClearFinalizer is r = (
      r.0,
      simple Instr.ClearFinalizer is (λ s q. cc) (inl refl) (ValueType.Struct r.0 ∷ []) [] r.1,
    )
    fits-live Instr.Panic is r = (r.0, r.1)

pub needed-slots-suffice : NeededSlotsSuffice
needed-slots-suffice types fn ft live ok sound complete = record {
  slots = ok.slots;
  begins = let b = ok.begins in (
    only_live live 0 b.0,
    live-at live ft.shapes 0 0 b.0 b.1,
    b.2,
    Every-from _ (filter (live 0) b.0.assigned)
        (λ s m. Every-at _ b.0.assigned s b.3 (In-filter (live 0) s b.0.assigned m).0),
  );
  each = λ k sh e.
      let old = live-back live ft.shapes 0 k sh e in
      let now = live-at live ft.shapes 0 k old.0 old.1 ∙ ap (λ m. Some (only_live live m old.0)) (omega arith) in
      let same : only_live live k old.0 ≡ sh =
      one_only (slice_get (live_shapes live 0 ft.shapes) k) (only_live live k old.0) sh now e in
      let line = ok.each k old.0 old.1 in (
        line.0,
        line.1,
        subst (λ z. InstructionFits types (live_types live ft) k line.0.instr z) same
            (fits-live types fn ft live sound complete k old.0 line.0 line.1 line.0.instr refl line.2),
      );
}

-- what is asked for stays under the masks
covered : (fn : Function) (shs : List Shape) → fn.live ≡ live_of fn.slots fn.body
    → MasksCover fn (live_shapes (is_needed fn.body) 0 shs)
covered fn shs e k sh at =
    let old = live-back (is_needed fn.body) shs 0 k sh at in
    let now = live-at (is_needed fn.body) shs 0 k old.0 old.1
    ∙ ap (λ m. Some (only_live (is_needed fn.body) m old.0)) (omega arith) in
    let same : only_live (is_needed fn.body) k old.0 ≡ sh =
    one_only (slice_get (live_shapes (is_needed fn.body) 0 shs) k)
    (only_live (is_needed fn.body) k old.0) sh now at in
    subst (λ (z : Shape). Every (λ i. stays_under (slice_get fn.live k) i ≡ true) z.assigned) same
    (Every-from (λ i. stays_under (slice_get fn.live k) i ≡ true) (filter (is_needed fn.body k) old.0.assigned)
    (λ i m. ap (λ (ms : List ℕ). stays_under (slice_get ms k) i) e
    ∙ needed-stay fn.slots fn.body k i (is_needed-sound fn.body i k
    (In-filter (is_needed fn.body k) i old.0.assigned m).1)))

pub masked-fit : MaskedFit
masked-fit types fn ft ok e = (
  live_shapes (is_needed fn.body) 0 ft.shapes,
  needed-slots-suffice types fn ft (is_needed fn.body) ok (λ k slot t. is_needed-sound fn.body slot k t)
      (λ k slot n. is_needed-complete fn.body slot k n),
  covered fn ft.shapes e,
)
