-- Structs, slices and new objects: their turns have changes, and keep types.
-- For: `makes_struct` and `gets_field`, golf_model/specs/Structures.antt; `turns_keep_types`, src/lib.rt
-- By: induction over n, the length of a new slice; else cases of the object
use Rattle.std.proofs.Common.{◌≡◌, ℕ, zero, suc, ◌+◌, List, [], ◌∷◌, Option, Some, None, inl, inr, refl, sym, subst, ℤ}
use Rattle.std.proofs.Common.{pos, negsuc, slice_get, length}
use Rattle.std.specs.Prelude.{unsigned_abs, replicate}
use Rattle.golf_theory.specs.Maps.{add}
use Rattle.golf_theory.specs.Membership.{Every}
use Rattle.golf_theory.proofs.Lists.{Every-slice_set, Every-slice_get, Every-weaker}
use Rattle.golf_data.specs.declared.value.Value.{Value}
use Rattle.golf_data.specs.declared.value.Object.{Object}
use Rattle.golf_data.specs.declared.code.Code.{Code}
use Rattle.golf_data.specs.declared.code.Instr.{Instr}
use Rattle.golf_data.specs.declared.goroutine.PanicKind.{PanicKind}
use Rattle.golf_model.specs.Values.{zero_of, reference, zeros_of}
use Rattle.golf_model.specs.State.{State}
use Rattle.golf_model.specs.Changes.{Change}
use Rattle.golf_model.specs.Actors.{Actor, next, leaves}
use Rattle.golf_model.specs.Structures.{sets_field, makes_slice, is_bad_size, element, within, gets_element}
use Rattle.golf_model.specs.Structures.{sets_element, measures, makes, makes_struct, gets_field, makes_channel}
use Rattle.golf_model.specs.Structures.{new_channel}
use Rattle.golf_model_typing.specs.Types.{ValueType, IsNilable, Shape, FunctionTypes, Typing, ValueFits, ValuesFit}
use Rattle.golf_model_typing.specs.Types.{ObjectFits}
use Rattle.golf_model_typing.specs.Shapes.{LeadsToShape, InstructionFits, HasShapes, slot_types}
use Rattle.golf_model_typing.specs.WellTyped.{LeavingFits, WellTyped, gives, SlotFits}
use Rattle.golf_model_typing.proofs.Growing.{value-more, values-more, frames-more, base-more}
use Rattle.golf_model_typing.proofs.Changing.{values-get, values-set}
use Rattle.golf_model_typing.proofs.Acting.{Proceeds, of-choose, of-some, of-taking_one, of-taking_three, of-int}
use Rattle.golf_model_typing.proofs.Acting.{of-reference, of-reference_or, of-struct, of-slice, of-measured}
use Rattle.golf_model_typing.proofs.Acting.{ActorFits, proceeds-panics, proceeds-goes, taken, lands, proceeds-stands}
use Rattle.golf_model_typing.proofs.Acting.{takes-one, takes-two, of-mutex}
use Rattle.golf_model.specs.Conditions.{makes_condition}
use Rattle.golf_model_typing.proofs.Keeping.{known-more}

every-replicate : (P : Value → Type 0) (n : ℕ) (v : Value) → P v → Every P (replicate n v)
every-replicate P zero v h = tt
every-replicate P (suc n) v h = (h, every-replicate P n v h)

module _ (code : Code) (types : Typing) (shapes : HasShapes code types) (known : List (ℕ × ValueType)) (s : State)
    (w : WellTyped types known s) (a : Actor) (ft : FunctionTypes) (sh : Shape)
    (i : ActorFits types known s a ft sh) where
  abbrev Goes : List Change → Type 0
  Goes cs = Proceeds types known s cs

  -- a new object of this type, and the reference to it
  pub proceeds-makes : (x : Object) (t : ValueType) (rest : List Value) (ts : List ValueType) → IsNilable t
      → ObjectFits types.of known x t → ValuesFit types.of known rest ts
      → LeadsToShape ft (t ∷ ts) sh.assigned (a.frame.at + 1) → Goes (makes a x rest s)
  proceeds-makes x t rest ts n h hs l =
      let later = add (s.last_object + 1) t known in
      let m = known-more types known s w t in
      let g = proceeds-stands types later s a ft (next a.frame (reference (s.last_object + 1) ∷ rest))
      (base-more types known later m.0 ft a.frame.function a.frame.slots a.frame.deferred i.holds.base)
      (subst (LeavingFits types later ft [] (a.frame.at + 1) (reference (s.last_object + 1) ∷ rest) a.frame.slots)
      (sym i.no)
      (lands (t ∷ ts) sh.assigned l ((m.1, n), values-more types known later m.0 rest ts hs)
      (Every-weaker (SlotFits types known (slot_types ft) a.frame.slots)
      (SlotFits types later (slot_types ft) a.frame.slots)
      (λ j b. (b.0, b.1, b.2, b.3, value-more types known later m.0 b.1 b.0 b.4)) sh.assigned i.assigned)))
      (frames-more types known later m.0 (gives a.frame.discards ft.result) a.callers i.holds.callers) in
      record { moves = refl; keeps = (t, h, (g.keeps.0, tt)) }

  -- a struct of zero values, and a channel
  pub proceeds-makes_struct : (j : ℕ) → InstructionFits types.of ft a.frame.at (Instr.NewStruct j) sh
      → Goes (makes_struct code a j s)
  proceeds-makes_struct j r =
      let row = shapes.structs j r.0 r.1 in
      of-some types known s Goes _ (slice_get code.structs j) row.0 row.1
      (proceeds-makes (Object.Struct (zeros_of row.0)) (ValueType.Struct j) a.frame.operands r.2.0 tt
      (j, r.0, refl, r.1, from-none (zeros_of row.0) r.0 row.2) (taken types known s a ft sh i r.2.0 r.2.1) r.2.2)
    where
      from-none : (vs : List Value) (ts : List ValueType) → ValuesFit types.of [] vs ts → ValuesFit types.of known vs ts
      from-none vs ts h = values-more types [] known (λ o t e. cc) vs ts h

  pub proceeds-makes_slice : (z : Value) → InstructionFits types.of ft a.frame.at (Instr.NewSlice z) sh
      → Goes (makes_slice a z s)
  proceeds-makes_slice z r = takes-one types known s a ft sh i ValueType.Int _ (ValueType.Slice r.0 ∷ []) r.2
      (λ x rest h hs p. of-int types known s Goes _ x h
      (λ n. of-choose types known s Goes (is_bad_size n) _ _
      (proceeds-panics types known s a ft PanicKind.SliceSize i.holds)
      (proceeds-makes (Object.Slice (replicate (unsigned_abs n) (zero_of z))) (ValueType.Slice r.0) rest r.2.0 tt (
        r.0,
        refl,
        every-replicate (λ v. ValueFits types.of known v r.0) (unsigned_abs n) (zero_of z)
            (value-more types [] known (λ o t e. cc) (zero_of z) r.0 r.1),
      ) hs r.2.2)))

  pub proceeds-makes_channel : (z : Value) → InstructionFits types.of ft a.frame.at (Instr.NewChan z) sh
      → Goes (makes_channel a z s)
  proceeds-makes_channel z r = of-taking_one types known s Goes _ a.frame.operands ValueType.Int r.2.0
      (taken types known s a ft sh i (ValueType.Int ∷ r.2.0) r.2.1) i.present
      (λ x rest h hs p. of-int types known s Goes _ x h
      (λ n. of-choose types known s Goes (is_bad_size n) _ _
      (proceeds-panics types known s a ft PanicKind.ChanSize i.holds)
      (proceeds-makes (Object.Chan (new_channel (unsigned_abs n) z)) (ValueType.Chan r.0) rest r.2.0 tt
      (r.0, refl, record { buffer = tt; zero = value-more types [] known (λ o t e. cc) (zero_of z) r.0 r.1 }) hs
      r.2.2)))

  pub proceeds-makes_condition : InstructionFits types.of ft a.frame.at Instr.NewCond sh → Goes (makes_condition a s)
  proceeds-makes_condition r = of-taking_one types known s Goes _ a.frame.operands ValueType.Mutex r.0
      (taken types known s a ft sh i (ValueType.Mutex ∷ r.0) r.1) i.present
      (λ x rest h hs p. of-reference_or types known s Goes _ _ x ValueType.Mutex tt h p
      (proceeds-makes (Object.Cond x) ValueType.Cond rest r.0 tt (refl, h) hs r.2)
      (λ o k there. of-mutex types known s Goes w o ValueType.Mutex k there _ refl
      (λ locked. proceeds-makes (Object.Cond x) ValueType.Cond rest r.0 tt (refl, h) hs r.2)))

  pub proceeds-gets_field : (k : ℕ) → InstructionFits types.of ft a.frame.at (Instr.Field k) sh
      → Goes (gets_field a k s)
  proceeds-gets_field k r = of-taking_one types known s Goes _ a.frame.operands (ValueType.Struct r.0) r.5.0
      (taken types known s a ft sh i (ValueType.Struct r.0 ∷ r.5.0) r.5.1) i.present
      (λ x rest h hs p. of-reference types known s Goes a _ x (ValueType.Struct r.0) tt h p
      (proceeds-panics types known s a ft PanicKind.NilPointer i.holds)
      (λ o q there. of-struct types known s Goes w o (ValueType.Struct r.0) q there _ r.0 r.1 refl r.3 (λ fields hf.
      let v = values-get types known fields r.1 k r.2 r.4 hf in
      go rest hs (slice_get fields k) v.0 v.1 v.2)))
    where
      go : (rest : List Value) → ValuesFit types.of known rest r.5.0 → (m : Option Value) (v : Value) → m ≡ Some v
          → ValueFits types.of known v r.2 → Goes (leaves a rest m)
      go rest hs None v e h = cc
      go rest hs (Some u) v e h = let is : v ≡ u =
          cc in proceeds-goes types known s a ft sh i (u ∷ rest) (r.2 ∷ r.5.0)
          (subst (λ z. ValueFits types.of known z r.2) is h, hs) r.5.2

  pub proceeds-sets_field : (k : ℕ) → InstructionFits types.of ft a.frame.at (Instr.SetField k) sh
      → Goes (sets_field a k s)
  proceeds-sets_field k r = takes-two types known s a ft sh i (ValueType.Struct r.0) r.2 _ [] r.5
      (λ x v rest hx hv hs p. of-reference types known s Goes a _ x (ValueType.Struct r.0) tt hx p
      (proceeds-panics types known s a ft PanicKind.NilPointer i.holds)
      (λ o q there. of-struct types known s Goes w o (ValueType.Struct r.0) q there _ r.0 r.1 refl r.3 (λ fields hf.
      let old = values-get types known fields r.1 k r.2 r.4 hf in
      of-some types known s Goes _ (slice_get fields k) old.0 old.1
      (record {
        moves = refl;
        keeps = (
          (
            ValueType.Struct r.0,
            q,
            (r.0, r.1, refl, r.3, values-set types known fields r.1 k r.2 v r.4 hv hf),
          ),
          (proceeds-goes types known s a ft sh i rest r.5.0 hs r.5.2).keeps,
        );
      }))))

  in-element : (P : Value → Type 0) (xs : List Value) (n : ℤ) (v : Value) → Every P xs → element xs n ≡ Some v → P v
  in-element P xs (pos k) v h e = Every-slice_get P xs k v h e
  in-element P xs (negsuc k) v h e = cc

  proceeds-within : (n : ℤ) (l : ℕ) (act : Value → List Change) (m : Option Value)
      → ((v : Value) → m ≡ Some v → Goes (act v)) → Goes (within a n l act m)
  proceeds-within n l act None h = proceeds-panics types known s a ft (PanicKind.Index n l) i.holds
  proceeds-within n l act (Some v) h = h v refl

  pub proceeds-gets_element : InstructionFits types.of ft a.frame.at Instr.Index sh → Goes (gets_element a s)
  proceeds-gets_element r = takes-two types known s a ft sh i (ValueType.Slice r.0) ValueType.Int _ (r.0 ∷ []) r.1
      (λ x y rest hx hy hs p. of-int types known s Goes _ y hy
      (λ n. of-reference_or types known s Goes _ _ x (ValueType.Slice r.0) tt hx p
      (proceeds-panics types known s a ft (PanicKind.Index n 0) i.holds)
      (λ o k there. of-slice types known s Goes w o (ValueType.Slice r.0) k there _ r.0 refl
      (λ xs h. proceeds-within n (length xs) _ (element xs n) (λ v e.
      proceeds-goes types known s a ft sh i (v ∷ rest) (r.0 ∷ r.1.0)
      (in-element (λ z. ValueFits types.of known z r.0) xs n v h e, hs) r.1.2)))))

  pub proceeds-sets_element : InstructionFits types.of ft a.frame.at Instr.SetIndex sh → Goes (sets_element a s)
  proceeds-sets_element r = of-taking_three types known s Goes _ a.frame.operands
      (ValueType.Slice r.0) ValueType.Int r.0 r.1.0
      (taken types known s a ft sh i (r.0 ∷ ValueType.Int ∷ ValueType.Slice r.0 ∷ r.1.0) r.1.1) i.present
      (λ x y v rest hx hy hv hs p. of-int types known s Goes _ y hy
      (λ n. of-reference_or types known s Goes _ _ x (ValueType.Slice r.0) tt hx p
      (proceeds-panics types known s a ft (PanicKind.Index n 0) i.holds)
      (λ o k there. of-slice types known s Goes w o (ValueType.Slice r.0) k there _ r.0 refl
      (λ xs h. proceeds-within n (length xs) _ (element xs n) (λ old e.
      record {
        moves = refl;
        keeps = (
          (
            ValueType.Slice r.0,
            k,
            (r.0, refl, Every-slice_set (λ z. ValueFits types.of known z r.0) xs (unsigned_abs n) v hv h),
          ),
          (proceeds-goes types known s a ft sh i rest r.1.0 hs r.1.2).keeps,
        );
      })))))

  pub proceeds-measures : InstructionFits types.of ft a.frame.at Instr.Len sh → Goes (measures a s)
  proceeds-measures r = takes-one types known s a ft sh i r.0 _ (ValueType.Int ∷ []) r.3
      (λ x rest h hs p. of-reference_or types known s Goes _ _ x r.0 nilable h p
      (proceeds-goes types known s a ft sh i (Value.Int (pos 0) ∷ rest) (ValueType.Int ∷ r.3.0) (refl, hs) r.3.2)
      (λ o k there. of-measured types known s Goes w o r.0 k there _ r.1 r.2
      (λ n. proceeds-goes types known s a ft sh i (Value.Int (pos n) ∷ rest) (ValueType.Int ∷ r.3.0)
      (refl, hs) r.3.2)))
    where
      nilable : IsNilable r.0
      nilable = elim r.2 [ inl e ↦ subst IsNilable (sym e) tt | inr e ↦ subst IsNilable (sym e) tt ]
