-- Values, variables, arithmetic, comparisons and jumps: their turns have changes, and keep types.
-- For: `computes` and `loads`, golf_model/specs/Arithmetic.antt; `turns_keep_types`, src/lib.rt
-- By: induction over the list of slots; else cases of the values that are taken
use Rattle.std.proofs.Common.{◌≡◌, ℕ, zero, suc, ◌+◌, Bool, true, false, not, List, [], ◌∷◌, Option, Some, None, refl}
use Rattle.std.proofs.Common.{sym, ap, ◌∙◌, subst, ℤ, slice_get, length, arith, ◌==◌, slice_set}
use Rattle.std.specs.Int.{w64, int_wrapping_neg}
use Rattle.golf_theory.proofs.Lists.{Every-from, Every-at}
use Rattle.golf_data.specs.declared.value.Value.{Value}
use Rattle.golf_data.specs.declared.code.Code.{Code}
use Rattle.golf_data.specs.declared.code.Instr.{Instr}
use Rattle.golf_data.specs.declared.goroutine.PanicKind.{PanicKind}
use Rattle.golf_model.specs.Values.{equality, is_zero, same_int, same_bool}
use Rattle.golf_model.specs.State.{State}
use Rattle.golf_model.specs.Changes.{Change}
use Rattle.golf_model.specs.Actors.{Actor, leaves}
use Rattle.golf_model.specs.Arithmetic.{loads_global, stores_global, doubles_two, negates, inverts, equates, pushes}
use Rattle.golf_model.specs.Arithmetic.{loads, stores, drops, doubles, computes, divides, compares, jumps_unless}
use Rattle.golf_model.specs.Arithmetic.{two_ints}
use Rattle.golf_model_typing.specs.Types.{ValueType, IsNilable, Shape, FunctionTypes, Typing, ValueFits, ValuesFit}
use Rattle.golf_model_typing.specs.Shapes.{Takes, InstructionFits, HasShapes, slot_types}
use Rattle.golf_model_typing.specs.WellTyped.{WellTyped, SlotFits}
use Rattle.golf_model_typing.proofs.Changing.{values-get}
use Rattle.golf_model_typing.proofs.Gets.{slice_set-same}
use Rattle.golf_model_typing.proofs.Acting.{Proceeds, of-choose, of-some, of-taking_one, of-taking_two, of-int}
use Rattle.golf_model_typing.proofs.Acting.{of-bool, ActorFits, proceeds-panics, proceeds-goes, taken, on_no, lands}
use Rattle.golf_model_typing.proofs.Acting.{proceeds-stands, proceeds-jumps, takes-one, takes-two}
use Rattle.std.proofs.lemmas.Bool.{eqb-true, eqb-false}

slice_set-other : {X : Type 0} (xs : List X) (i j : ℕ) (v : X) → (j ≡ i → ⊥)
    → slice_get (slice_set xs i v) j ≡ slice_get xs j
slice_set-other [] i j v n = refl
slice_set-other (x ∷ xs) zero zero v n = absurd (n refl)
slice_set-other (x ∷ xs) zero (suc j) v n = refl
slice_set-other (x ∷ xs) (suc i) zero v n = refl
slice_set-other (x ∷ xs) (suc i) (suc j) v n = slice_set-other xs i j v (λ e. n (ap suc e))

slice_set-length : {X : Type 0} (xs : List X) (i : ℕ) (v : X) → length (slice_set xs i v) ≡ length xs
slice_set-length [] i v = refl
slice_set-length (x ∷ xs) zero v = refl
slice_set-length (x ∷ xs) (suc i) v = ap suc (slice_set-length xs i v)

-- a list of the same length has something at the same places
slice_get-both : {X Y : Type 0} (xs : List X) (ys : List Y) (i : ℕ) (y : Y) → length xs ≡ length ys
    → slice_get ys i ≡ Some y → (x : X) × (slice_get xs i ≡ Some x)
slice_get-both xs [] i y h e = cc
slice_get-both [] (z ∷ ys) i y h e = absurd (omega (arith, h))
slice_get-both (x ∷ xs) (z ∷ ys) zero y h e = (x, refl)
slice_get-both (x ∷ xs) (z ∷ ys) (suc i) y h e = slice_get-both xs ys i y (omega (arith, h)) e

-- values of one type can be compared
some-equality : (types : Typing) (known : List (ℕ × ValueType)) (t : ValueType) (x y : Value)
    → ValueFits types.of known x t → ValueFits types.of known y t → (b : Bool) × (equality x y ≡ Some b)
some-equality types known t (Value.Int m) (Value.Int n) hx hy = (same_int m n, refl)
some-equality types known t (Value.Int m) (Value.Bool c) hx hy = let e = hx in let f = hy in cc
some-equality types known t (Value.Int m) (Value.Text k) hx hy = let e = hx in let f = hy.0 in cc
some-equality types known t (Value.Int m) Value.Unit hx hy = let e = hx in let f = hy in cc
some-equality types known t (Value.Int m) Value.Nil hx hy = absurd (subst IsNilable hx hy)
some-equality types known t (Value.Int m) (Value.Ref p) hx hy = absurd (subst IsNilable hx hy.1)
some-equality types known t (Value.Bool b) (Value.Int n) hx hy = let e = hx in let f = hy in cc
some-equality types known t (Value.Bool b) (Value.Bool c) hx hy = (same_bool b c, refl)
some-equality types known t (Value.Bool b) (Value.Text k) hx hy = let e = hx in let f = hy.0 in cc
some-equality types known t (Value.Bool b) Value.Unit hx hy = let e = hx in let f = hy in cc
some-equality types known t (Value.Bool b) Value.Nil hx hy = absurd (subst IsNilable hx hy)
some-equality types known t (Value.Bool b) (Value.Ref p) hx hy = absurd (subst IsNilable hx hy.1)
some-equality types known t (Value.Text j) (Value.Int n) hx hy = let e = hx.0 in let f = hy in cc
some-equality types known t (Value.Text j) (Value.Bool c) hx hy = let e = hx.0 in let f = hy in cc
some-equality types known t (Value.Text j) (Value.Text k) hx hy = (j == k, refl)
some-equality types known t (Value.Text j) Value.Unit hx hy = let e = hx.0 in let f = hy in cc
some-equality types known t (Value.Text j) Value.Nil hx hy = absurd (subst IsNilable hx.0 hy)
some-equality types known t (Value.Text j) (Value.Ref p) hx hy = absurd (subst IsNilable hx.0 hy.1)
some-equality types known t Value.Unit (Value.Int n) hx hy = let e = hx in let f = hy in cc
some-equality types known t Value.Unit (Value.Bool c) hx hy = let e = hx in let f = hy in cc
some-equality types known t Value.Unit (Value.Text k) hx hy = let e = hx in let f = hy.0 in cc
some-equality types known t Value.Unit Value.Unit hx hy = (true, refl)
some-equality types known t Value.Unit Value.Nil hx hy = absurd (subst IsNilable hx hy)
some-equality types known t Value.Unit (Value.Ref p) hx hy = absurd (subst IsNilable hx hy.1)
some-equality types known t Value.Nil (Value.Int n) hx hy = absurd (subst IsNilable hy hx)
some-equality types known t Value.Nil (Value.Bool c) hx hy = absurd (subst IsNilable hy hx)
some-equality types known t Value.Nil (Value.Text k) hx hy = absurd (subst IsNilable hy.0 hx)
some-equality types known t Value.Nil Value.Unit hx hy = absurd (subst IsNilable hy hx)
some-equality types known t Value.Nil Value.Nil hx hy = (true, refl)
some-equality types known t Value.Nil (Value.Ref p) hx hy = (false, refl)
some-equality types known t (Value.Ref o) (Value.Int n) hx hy = absurd (subst IsNilable hy hx.1)
some-equality types known t (Value.Ref o) (Value.Bool c) hx hy = absurd (subst IsNilable hy hx.1)
some-equality types known t (Value.Ref o) (Value.Text k) hx hy = absurd (subst IsNilable hy.0 hx.1)
some-equality types known t (Value.Ref o) Value.Unit hx hy = absurd (subst IsNilable hy hx.1)
some-equality types known t (Value.Ref o) Value.Nil hx hy = (false, refl)
some-equality types known t (Value.Ref o) (Value.Ref p) hx hy = (o.0 == p.0, refl)

module _ (code : Code) (types : Typing) (shapes : HasShapes code types) (known : List (ℕ × ValueType)) (s : State)
    (w : WellTyped types known s) (a : Actor) (ft : FunctionTypes) (sh : Shape)
    (i : ActorFits types known s a ft sh) where
  abbrev Goes : List Change → Type 0
  Goes cs = Proceeds types known s cs

  -- what takes nothing
  pub proceeds-pushes : (v : Value) (t : ValueType) → ValueFits types.of known v t → Takes ft a.frame.at sh [] (t ∷ [])
      → Goes (pushes a v)
  proceeds-pushes v t h r = proceeds-goes types known s a ft sh i (v ∷ a.frame.operands) (t ∷ r.0)
      (h, taken types known s a ft sh i r.0 r.1) r.2

  pub proceeds-loads : (k : ℕ) → InstructionFits types.of ft a.frame.at (Instr.Load k) sh → Goes (loads a k)
  proceeds-loads k r =
      let slot = Every-at (SlotFits types known (slot_types ft) a.frame.slots) sh.assigned k i.assigned r.1 in
      let same : slot.0 ≡ r.0 = (let e = slot.2 in let f = r.2 in cc) in
      go (slice_get a.frame.slots k) slot.1 slot.3 (subst (ValueFits types.of known slot.1) same slot.4)
    where
      go : (m : Option Value) (v : Value) → m ≡ Some v → ValueFits types.of known v r.0
          → Goes (leaves a a.frame.operands m)
      go None v e h = cc
      go (Some u) v e h = let is : v ≡ u = cc in proceeds-pushes u r.0
          (subst (λ z. ValueFits types.of known z r.0) is h) r.3

  pub proceeds-stores : (k : ℕ) → InstructionFits types.of ft a.frame.at (Instr.Store k) sh → Goes (stores a k)
  proceeds-stores k r = of-taking_one types known s Goes _ a.frame.operands r.0 r.1
      (taken types known s a ft sh i (r.0 ∷ r.1) r.3) i.present
      (λ v rest h hs p.
      let old = slice_get-both a.frame.slots (slot_types ft) k r.0 i.holds.base.full r.2 in
      let slots = slice_set a.frame.slots k v in
      of-some types known s Goes _ (slice_get a.frame.slots k) old.0 old.1
      (proceeds-stands types known s a ft (record a.frame { at = a.frame.at + 1; slots = slots; operands = rest })
      (record {
        typed = i.holds.base.typed;
        shaped = i.holds.base.shaped;
        full = slice_set-length a.frame.slots k v
            ∙ i.holds.base.full;
        deferred_calls = i.holds.base.deferred_calls;
      })
      (on_no types known s a ft sh i [] (a.frame.at + 1) rest slots (lands r.1 (k ∷ sh.assigned) r.4 hs (
        here v old.0 old.1 h,
        Every-from (SlotFits types known (slot_types ft) slots) sh.assigned
            (λ j m. elim (j == k) as (λ b. j == k ≡ b → SlotFits types known (slot_types ft) slots j) [
              | true ↦ λ q. subst (SlotFits types known (slot_types ft) slots) (sym (eqb-true j k q))
                  (here v old.0 old.1 h)
              | false ↦ λ q.
                  let slot = Every-at (SlotFits types known (slot_types ft) a.frame.slots) sh.assigned j i.assigned m in
                  (slot.0, slot.1, slot.2, slice_set-other a.frame.slots k j v (eqb-false j k q) ∙ slot.3, slot.4)
            ] refl),
      )))
      i.holds.callers))
    where
      here : (v old : Value) → slice_get a.frame.slots k ≡ Some old → ValueFits types.of known v r.0
          → SlotFits types known (slot_types ft) (slice_set a.frame.slots k v) k
      here v old e h = (r.0, v, r.2, slice_set-same a.frame.slots k v old e, h)

  pub proceeds-loads_global : (k : ℕ) → InstructionFits types.of ft a.frame.at (Instr.LoadGlobal k) sh
      → Goes (loads_global a k s)
  proceeds-loads_global k r = let v = values-get types known s.globals types.of.globals k r.0 r.1 w.globals in go
      (slice_get s.globals k) v.0 v.1 v.2
    where
      go : (m : Option Value) (v : Value) → m ≡ Some v → ValueFits types.of known v r.0
          → Goes (leaves a a.frame.operands m)
      go None v e h = cc
      go (Some u) v e h = let is : v ≡ u = cc in proceeds-goes types known s a ft sh i (u ∷ a.frame.operands)
          (r.0 ∷ r.2.0) (subst (λ z. ValueFits types.of known z r.0) is h, taken types known s a ft sh i r.2.0 r.2.1)
          r.2.2

  pub proceeds-stores_global : (k : ℕ) → InstructionFits types.of ft a.frame.at (Instr.StoreGlobal k) sh
      → Goes (stores_global a k s)
  proceeds-stores_global k r = takes-one types known s a ft sh i r.0 _ [] r.2 (λ v rest h hs p.
      let old = values-get types known s.globals types.of.globals k r.0 r.1 w.globals in
      of-some types known s Goes _ (slice_get s.globals k) old.0 old.1
      (record {
        moves = refl;
        keeps = (
          (r.0, r.1, h),
          (proceeds-goes types known s a ft sh i rest r.2.0 hs r.2.2).keeps,
        );
      }))

  pub proceeds-drops : (t : ValueType) → Takes ft a.frame.at sh (t ∷ []) [] → Goes (drops a)
  proceeds-drops t r = of-taking_one types known s Goes _ a.frame.operands t r.0
      (taken types known s a ft sh i (t ∷ r.0) r.1) i.present
      (λ v rest h hs p. proceeds-goes types known s a ft sh i rest r.0 hs r.2)

  pub proceeds-doubles : (t : ValueType) → Takes ft a.frame.at sh (t ∷ []) (t ∷ t ∷ []) → Goes (doubles a)
  proceeds-doubles t r = of-taking_one types known s Goes _ a.frame.operands t r.0
      (taken types known s a ft sh i (t ∷ r.0) r.1) i.present
      (λ v rest h hs p. proceeds-goes types known s a ft sh i (v ∷ v ∷ rest) (t ∷ t ∷ r.0) (h, (h, hs)) r.2)

  pub proceeds-doubles_two : InstructionFits types.of ft a.frame.at Instr.Dup2 sh → Goes (doubles_two a)
  proceeds-doubles_two r = takes-two types known s a ft sh i r.0 r.1 _ (r.1 ∷ r.0 ∷ r.1 ∷ r.0 ∷ []) r.2
      (λ x y rest hx hy hs p. proceeds-goes types known s a ft sh i (y ∷ x ∷ y ∷ x ∷ rest)
      (r.1 ∷ r.0 ∷ r.1 ∷ r.0 ∷ r.2.0) (hy, (hx, (hy, (hx, hs)))) r.2.2)

  pub proceeds-negates : InstructionFits types.of ft a.frame.at Instr.Neg sh → Goes (negates a)
  proceeds-negates r = takes-one types known s a ft sh i ValueType.Int _ (ValueType.Int ∷ []) r
      (λ x rest h hs p. of-int types known s Goes _ x h
      (λ n. proceeds-goes types known s a ft sh i (Value.Int (int_wrapping_neg w64 n) ∷ rest) (ValueType.Int ∷ r.0)
      (refl, hs) r.2))

  pub proceeds-inverts : InstructionFits types.of ft a.frame.at Instr.Not sh → Goes (inverts a)
  proceeds-inverts r = takes-one types known s a ft sh i ValueType.Bool _ (ValueType.Bool ∷ []) r
      (λ x rest h hs p. of-bool types known s Goes _ x h
      (λ b. proceeds-goes types known s a ft sh i (Value.Bool (not b) ∷ rest) (ValueType.Bool ∷ r.0) (refl, hs) r.2))

  proceeds-two_ints : (act : ℤ → ℤ → List Value → List Change) (ts : List ValueType) → sh.operands ≡ ValueType.Int
      ∷ ValueType.Int ∷ ts → ((m n : ℤ) (rest : List Value) → ValuesFit types.of known rest ts → Goes (act m n rest))
      → Goes (two_ints act a.frame.operands)
  proceeds-two_ints act ts e h = of-taking_two types known s Goes _ a.frame.operands ValueType.Int ValueType.Int ts
      (taken types known s a ft sh i (ValueType.Int ∷ ValueType.Int ∷ ts) e) i.present
      (λ x y rest hx hy hs p. of-int types known s Goes _ x hx
      (λ m. of-int types known s Goes _ y hy (λ n. h m n rest hs)))

  pub proceeds-computes : (op : ℤ → ℤ → ℤ)
      → Takes ft a.frame.at sh (ValueType.Int ∷ ValueType.Int ∷ []) (ValueType.Int ∷ []) → Goes (computes op a)
  proceeds-computes op r = proceeds-two_ints _ r.0 r.1
      (λ m n rest hs. proceeds-goes types known s a ft sh i (Value.Int (op m n) ∷ rest) (ValueType.Int ∷ r.0)
      (refl, hs) r.2)

  pub proceeds-divides : (op : ℤ → ℤ → ℤ)
      → Takes ft a.frame.at sh (ValueType.Int ∷ ValueType.Int ∷ []) (ValueType.Int ∷ []) → Goes (divides op a)
  proceeds-divides op r = proceeds-two_ints _ r.0 r.1
      (λ m n rest hs. of-choose types known s Goes (is_zero n) _ _
      (proceeds-panics types known s a ft PanicKind.DivideByZero i.holds)
      (proceeds-goes types known s a ft sh i (Value.Int (op m n) ∷ rest) (ValueType.Int ∷ r.0) (refl, hs) r.2))

  pub proceeds-compares : (test : ℤ → ℤ → Bool)
      → Takes ft a.frame.at sh (ValueType.Int ∷ ValueType.Int ∷ []) (ValueType.Bool ∷ []) → Goes (compares test a)
  proceeds-compares test r = proceeds-two_ints _ r.0 r.1
      (λ m n rest hs. proceeds-goes types known s a ft sh i (Value.Bool (test m n) ∷ rest) (ValueType.Bool ∷ r.0)
      (refl, hs) r.2)

  pub proceeds-equates : InstructionFits types.of ft a.frame.at Instr.Eq sh → Goes (equates a)
  proceeds-equates r = takes-two types known s a ft sh i r.0 r.0 _ (ValueType.Bool ∷ []) r.1 (λ x y rest hx hy hs p.
      let e = some-equality types known r.0 x y hx hy in
      of-some types known s Goes _ (equality x y) e.0 e.1
      (proceeds-goes types known s a ft sh i (Value.Bool e.0 ∷ rest) (ValueType.Bool ∷ r.1.0) (refl, hs) r.1.2))

  pub proceeds-jumps_unless : (target : ℕ) → InstructionFits types.of ft a.frame.at (Instr.JumpIfNot target) sh
      → Goes (jumps_unless a target)
  proceeds-jumps_unless target r = of-taking_one types known s Goes _ a.frame.operands ValueType.Bool r.0
      (taken types known s a ft sh i (ValueType.Bool ∷ r.0) r.1) i.present
      (λ x rest h hs p. of-bool types known s Goes _ x h
      (λ b. of-choose types known s Goes b _ _ (proceeds-goes types known s a ft sh i rest r.0 hs r.2)
      (proceeds-jumps types known s a ft sh i target rest r.0 hs r.3)))
