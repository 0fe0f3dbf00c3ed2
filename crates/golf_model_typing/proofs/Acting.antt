-- The goroutine whose turn it is: the ways in which it goes have changes, and keep types.
-- For: `Actor` and `taking_one`, golf_model/specs/Actors.antt; `turns_keep_types`, src/lib.rt
-- By: cases of the values on the stack and of the object; no induction
use Rattle.std.proofs.Common.{◌≡◌, ℕ, ◌+◌, Bool, true, false, List, [], ◌∷◌, ◌++◌, Option, Some, None, ◌==◌, refl, sym}
use Rattle.std.proofs.Common.{ap, ◌∙◌, subst, ℤ, slice_get, ◌⊎◌, inl, inr, length}
use Rattle.golf_theory.specs.Maps.{find}
use Rattle.golf_theory.specs.Membership.{In, Every}
use Rattle.golf_theory.proofs.Lists.{Every-weaker, Every-at}
use Rattle.golf_theory.proofs.MapEntries.{Entry-keys}
use Rattle.golf_theory.proofs.MapFinds.{none-find}
use Rattle.golf_data.specs.declared.value.Value.{Value}
use Rattle.golf_data.specs.declared.value.Object.{Object}
use Rattle.golf_data.specs.declared.value.Channel.{Channel}
use Rattle.golf_data.specs.declared.goroutine.Leaving.{Leaving}
use Rattle.golf_data.specs.declared.goroutine.PanicKind.{PanicKind}
use Rattle.golf_data.specs.declared.goroutine.Wait.{Wait}
use Rattle.golf_data.specs.declared.goroutine.WaitKind.{WaitKind}
use Rattle.golf_model.specs.Views.{FrameView}
use Rattle.golf_model.specs.Values.{int_of, bool_of, text_of}
use Rattle.golf_model.specs.State.{State, not_empty}
use Rattle.golf_model.specs.Wakes.{fault, unwinding}
use Rattle.golf_model.specs.Changes.{Change}
use Rattle.golf_model.specs.Actors.{Actor, stands, goes, jumps, panics, dies, blocks, on_some, taking_one, taking_two}
use Rattle.golf_model.specs.Actors.{choose, at_reference, at_reference_or, at_struct, at_channel, at_mutex, at_group}
use Rattle.golf_model.specs.Actors.{at_rw, at_slice, taking_three}
use Rattle.golf_model.specs.Structures.{length_of}
use Rattle.golf_model.specs.Presence.{Present}
use Rattle.golf_model_futures.proofs.RefLaws.{Val, Vals, vals-head, vals-tail}
use Rattle.golf_model_typing.specs.Types.{ValueType, IsNilable, Shape, FunctionTypes, Typing, HasType, ValueFits}
use Rattle.golf_model_typing.specs.Types.{ValuesFit, ChannelFits}
use Rattle.golf_model_typing.specs.Shapes.{slot_types, LeadsToShape, Takes}
use Rattle.golf_model_typing.specs.WellTyped.{gives, SlotFits, FrameStands, LeavingFits, FrameBase, FramesFit, WaitFits}
use Rattle.golf_model_typing.specs.WellTyped.{WaitsAlone, WellTyped, ChangesFit}
use Rattle.golf_model_typing.proofs.Changing.{or_true}

-- there are changes, and they keep types
pub record Proceeds (types : Typing) (known : List (ℕ × ValueType)) (s : State) (cs : List Change) : Type 0 where
  pub moves : not_empty cs ≡ true
  pub keeps : ChangesFit types known s cs

-- if each outcome has a property, what takes typed operands has it
module _ (types : Typing) (known : List (ℕ × ValueType)) (s : State) (P : List Change → Type 0) where
  pub of-choose : (b : Bool) (cs ds : List Change) → P cs → P ds → P (choose b cs ds)
  of-choose true cs ds p q = p
  of-choose false cs ds p q = q

  pub of-some : {X : Type 0} (act : X → List Change) (m : Option X) (x : X) → m ≡ Some x → P (act x) → P (on_some act m)
  of-some act None x e p = cc
  of-some act (Some y) x e p = let same : x ≡ y = cc in subst (λ z. P (act z)) same p

  pub of-taking_one : (act : Value → List Value → List Change) (vs : List Value) (t : ValueType) (ts : List ValueType)
      → ValuesFit types.of known vs (t ∷ ts) → Vals (Present s) vs
      → ((x : Value) (rest : List Value) → ValueFits types.of known x t → ValuesFit types.of known rest ts
      → Val (Present s) x → P (act x rest)) → P (taking_one act vs)
  of-taking_one act [] t ts a p h = absurd a
  of-taking_one act (x ∷ rest) t ts a p h = h x rest a.0 a.1 (vals-head (Present s) x rest p)

  pub of-taking_two : (act : Value → Value → List Value → List Change) (vs : List Value) (t u : ValueType)
      (ts : List ValueType) → ValuesFit types.of known vs (u ∷ t ∷ ts) → Vals (Present s) vs
      → ((x y : Value) (rest : List Value) → ValueFits types.of known x t → ValueFits types.of known y u
      → ValuesFit types.of known rest ts → Val (Present s) x → P (act x y rest)) → P (taking_two act vs)
  of-taking_two act [] t u ts a p h = absurd a
  of-taking_two act (y ∷ []) t u ts a p h = absurd a.1
  of-taking_two act (y ∷ x ∷ rest) t u ts a p h =
      h x y rest a.1.0 a.0 a.1.1 (vals-head (Present s) x rest (vals-tail (Present s) y (x ∷ rest) p))

  pub of-taking_three : (act : Value → Value → Value → List Value → List Change) (vs : List Value) (t u v : ValueType)
      (ts : List ValueType) → ValuesFit types.of known vs (v ∷ u ∷ t ∷ ts) → Vals (Present s) vs
      → ((x y z : Value) (rest : List Value) → ValueFits types.of known x t → ValueFits types.of known y u
      → ValueFits types.of known z v → ValuesFit types.of known rest ts → Val (Present s) x → P (act x y z rest))
      → P (taking_three act vs)
  of-taking_three act [] t u v ts a p h = absurd a
  of-taking_three act (z ∷ []) t u v ts a p h = absurd a.1
  of-taking_three act (z ∷ y ∷ []) t u v ts a p h = absurd a.1.1
  of-taking_three act (z ∷ y ∷ x ∷ rest) t u v ts a p h =
      h x y z rest a.1.1.0 a.1.0 a.0 a.1.1.1
      (vals-head (Present s) x rest (vals-tail (Present s) y (x ∷ rest) (vals-tail (Present s) z (y ∷ x ∷ rest) p)))

  pub of-text : (act : ℕ → List Change) (x : Value) → ValueFits types.of known x ValueType.Text → ((n : ℕ) → P (act n))
      → P (on_some act (text_of x))
  of-text act (Value.Text k) a h = h k
  of-text act Value.Nil a h = absurd a
  of-text act (Value.Ref o) a h = absurd a.1
  of-text act _ a h = cc

  pub of-int : (act : ℤ → List Change) (x : Value) → ValueFits types.of known x ValueType.Int → ((n : ℤ) → P (act n))
      → P (on_some act (int_of x))
  of-int act (Value.Int n) a h = h n
  of-int act (Value.Bool b) a h = cc
  of-int act (Value.Text k) a h = let e = a.0 in cc
  of-int act Value.Unit a h = cc
  of-int act Value.Nil a h = absurd a
  of-int act (Value.Ref o) a h = absurd a.1

  pub of-bool : (act : Bool → List Change) (x : Value) → ValueFits types.of known x ValueType.Bool
      → ((b : Bool) → P (act b)) → P (on_some act (bool_of x))
  of-bool act (Value.Int n) a h = cc
  of-bool act (Value.Bool b) a h = h b
  of-bool act (Value.Text k) a h = let e = a.0 in cc
  of-bool act Value.Unit a h = cc
  of-bool act Value.Nil a h = absurd a
  of-bool act (Value.Ref o) a h = absurd a.1

  pub of-reference_or : (nil : List Change) (act : ℕ → List Change) (x : Value) (t : ValueType) → IsNilable t
      → ValueFits types.of known x t → Val (Present s) x → P nil
      → ((o : ℕ) → HasType known o t → Present s o → P (act o)) → P (at_reference_or nil act x)
  of-reference_or nil act (Value.Text k) t i a p z h = absurd (subst IsNilable a.0 i)
  of-reference_or nil act Value.Nil t i a p z h = z
  of-reference_or nil act (Value.Ref o) t i a p z h = h o.0 a.0 p.0
  of-reference_or nil act _ t i a p z h = absurd (subst IsNilable a i)

  pub of-reference : (a : Actor) (act : ℕ → List Change) (x : Value) (t : ValueType) → IsNilable t
      → ValueFits types.of known x t → Val (Present s) x → P (panics a PanicKind.NilPointer)
      → ((o : ℕ) → HasType known o t → Present s o → P (act o)) → P (at_reference a act x)
  of-reference b act (Value.Text k) t i a p z h = absurd (subst IsNilable a.0 i)
  of-reference b act Value.Nil t i a p z h = z
  of-reference b act (Value.Ref o) t i a p z h = h o.0 a.0 p.0
  of-reference b act _ t i a p z h = absurd (subst IsNilable a i)

  module _ (w : WellTyped types known s) (o : ℕ) (t : ValueType) (k : HasType known o t) (p : Present s o) where
    -- an object that is known is there, and of its type
    pub there : (find o s.objects ≡ None) → ⊥
    there e = let i = Entry-keys s.objects o p in none-find o s.objects i.0 e i.1

    pub of-channel : (act : Channel → List Change) (e : ValueType) → t ≡ ValueType.Chan e
        → ((c : Channel) → find o s.objects ≡ Some (Object.Chan c) → ChannelFits types.of known c e → P (act c))
        → P (at_channel act (find o s.objects))
    of-channel act e q h = go (find o s.objects) refl
      where
        go : (m : Option Object) → find o s.objects ≡ m → P (at_channel act m)
        go None i = absurd (there i)
        go (Some (Object.Struct fields)) i = let x = w.objects o t (Object.Struct fields) k i in let y = x.2 in cc
        go (Some (Object.Slice elements)) i = let x = w.objects o t (Object.Slice elements) k i in let y = x.1 in cc
        go (Some (Object.Chan c)) i = let x = w.objects o t (Object.Chan c) k i in let y = x.1 in let same : x.0 ≡ e =
            cc in h c i (subst (ChannelFits types.of known c) same x.2)
        go (Some (Object.Mutex locked)) i = let x = w.objects o t (Object.Mutex locked) k i in cc
        go (Some (Object.Group n)) i = let x = w.objects o t (Object.Group n) k i in cc
        go (Some (Object.Rw n)) i = let x = w.objects o t (Object.Rw n) k i in cc
        go (Some (Object.Cond m)) i = let x = w.objects o t (Object.Cond m) k i in let y = x.0 in cc

    pub of-struct : (act : List Value → List Change) (j : ℕ) (ts : List ValueType) → t ≡ ValueType.Struct j
        → slice_get types.of.structs j ≡ Some ts
        → ((fields : List Value) → ValuesFit types.of known fields ts → P (act fields))
        → P (at_struct act (find o s.objects))
    of-struct act j ts q u h = go (find o s.objects) refl
      where
        go : (m : Option Object) → find o s.objects ≡ m → P (at_struct act m)
        go None i = absurd (there i)
        go (Some (Object.Struct fields)) i =
            let x = w.objects o t (Object.Struct fields) k i in
            let y = x.2 in
            let z = x.3 in
            let same : x.0 ≡ j = cc in
            let row : x.1 ≡ ts = cc (ap (λ n. slice_get types.of.structs n) same, z, u) in
            h fields (subst (ValuesFit types.of known fields) row x.4)
        go (Some (Object.Slice elements)) i = let x = w.objects o t (Object.Slice elements) k i in let y = x.1 in cc
        go (Some (Object.Chan c)) i = let x = w.objects o t (Object.Chan c) k i in let y = x.1 in cc
        go (Some (Object.Mutex locked)) i = let x = w.objects o t (Object.Mutex locked) k i in cc
        go (Some (Object.Group n)) i = let x = w.objects o t (Object.Group n) k i in cc
        go (Some (Object.Rw n)) i = let x = w.objects o t (Object.Rw n) k i in cc
        go (Some (Object.Cond m)) i = let x = w.objects o t (Object.Cond m) k i in let y = x.0 in cc

    -- whatever the struct
    pub of-any_struct : (act : List Value → List Change) (j : ℕ) → t ≡ ValueType.Struct j
        → ((fields : List Value) → P (act fields)) → P (at_struct act (find o s.objects))
    of-any_struct act j q h = go (find o s.objects) refl
      where
        go : (m : Option Object) → find o s.objects ≡ m → P (at_struct act m)
        go None i = absurd (there i)
        go (Some (Object.Struct fields)) i = h fields
        go (Some (Object.Slice elements)) i = let x = w.objects o t (Object.Slice elements) k i in let y = x.1 in cc
        go (Some (Object.Chan c)) i = let x = w.objects o t (Object.Chan c) k i in let y = x.1 in cc
        go (Some (Object.Mutex locked)) i = let x = w.objects o t (Object.Mutex locked) k i in cc
        go (Some (Object.Group n)) i = let x = w.objects o t (Object.Group n) k i in cc
        go (Some (Object.Rw n)) i = let x = w.objects o t (Object.Rw n) k i in cc
        go (Some (Object.Cond m)) i = let x = w.objects o t (Object.Cond m) k i in let y = x.0 in cc

    pub of-mutex : (act : Bool → List Change) → t ≡ ValueType.Mutex → ((locked : Bool) → P (act locked))
        → P (at_mutex act (find o s.objects))
    of-mutex act q h = go (find o s.objects) refl
      where
        go : (m : Option Object) → find o s.objects ≡ m → P (at_mutex act m)
        go None i = absurd (there i)
        go (Some (Object.Struct fields)) i = let x = w.objects o t (Object.Struct fields) k i in let y = x.2 in cc
        go (Some (Object.Slice elements)) i = let x = w.objects o t (Object.Slice elements) k i in let y = x.1 in cc
        go (Some (Object.Chan c)) i = let x = w.objects o t (Object.Chan c) k i in let y = x.1 in cc
        go (Some (Object.Mutex locked)) i = h locked
        go (Some (Object.Group n)) i = let x = w.objects o t (Object.Group n) k i in cc
        go (Some (Object.Rw n)) i = let x = w.objects o t (Object.Rw n) k i in cc
        go (Some (Object.Cond m)) i = let x = w.objects o t (Object.Cond m) k i in let y = x.0 in cc

    pub of-group : (act : ℤ → List Change) → t ≡ ValueType.Group → ((n : ℤ) → P (act n))
        → P (at_group act (find o s.objects))
    of-group act q h = go (find o s.objects) refl
      where
        go : (m : Option Object) → find o s.objects ≡ m → P (at_group act m)
        go None i = absurd (there i)
        go (Some (Object.Struct fields)) i = let x = w.objects o t (Object.Struct fields) k i in let y = x.2 in cc
        go (Some (Object.Slice elements)) i = let x = w.objects o t (Object.Slice elements) k i in let y = x.1 in cc
        go (Some (Object.Chan c)) i = let x = w.objects o t (Object.Chan c) k i in let y = x.1 in cc
        go (Some (Object.Mutex locked)) i = let x = w.objects o t (Object.Mutex locked) k i in cc
        go (Some (Object.Group n)) i = h n
        go (Some (Object.Rw n)) i = let x = w.objects o t (Object.Rw n) k i in cc
        go (Some (Object.Cond m)) i = let x = w.objects o t (Object.Cond m) k i in let y = x.0 in cc

    pub of-rw : (act : ℤ → List Change) → t ≡ ValueType.Rw → ((n : ℤ) → P (act n)) → P (at_rw act (find o s.objects))
    of-rw act q h = go (find o s.objects) refl
      where
        go : (m : Option Object) → find o s.objects ≡ m → P (at_rw act m)
        go None i = absurd (there i)
        go (Some (Object.Struct fields)) i = let x = w.objects o t (Object.Struct fields) k i in let y = x.2 in cc
        go (Some (Object.Slice elements)) i = let x = w.objects o t (Object.Slice elements) k i in let y = x.1 in cc
        go (Some (Object.Chan c)) i = let x = w.objects o t (Object.Chan c) k i in let y = x.1 in cc
        go (Some (Object.Mutex locked)) i = let x = w.objects o t (Object.Mutex locked) k i in cc
        go (Some (Object.Group n)) i = let x = w.objects o t (Object.Group n) k i in cc
        go (Some (Object.Rw n)) i = h n
        go (Some (Object.Cond m)) i = let x = w.objects o t (Object.Cond m) k i in let y = x.0 in cc

    pub of-slice : (act : List Value → List Change) (e : ValueType) → t ≡ ValueType.Slice e
        → ((xs : List Value) → Every (λ v. ValueFits types.of known v e) xs → P (act xs))
        → P (at_slice act (find o s.objects))
    of-slice act e q h = go (find o s.objects) refl
      where
        go : (m : Option Object) → find o s.objects ≡ m → P (at_slice act m)
        go None i = absurd (there i)
        go (Some (Object.Struct fields)) i = let x = w.objects o t (Object.Struct fields) k i in let y = x.2 in cc
        go (Some (Object.Slice elements)) i = let x = w.objects o t (Object.Slice elements) k i in let y =
            x.1 in let same : x.0 ≡ e = cc in h elements
            (subst (λ u. Every (λ v. ValueFits types.of known v u) elements) same x.2)
        go (Some (Object.Chan c)) i = let x = w.objects o t (Object.Chan c) k i in let y = x.1 in cc
        go (Some (Object.Mutex locked)) i = let x = w.objects o t (Object.Mutex locked) k i in cc
        go (Some (Object.Group n)) i = let x = w.objects o t (Object.Group n) k i in cc
        go (Some (Object.Rw n)) i = let x = w.objects o t (Object.Rw n) k i in cc
        go (Some (Object.Cond m)) i = let x = w.objects o t (Object.Cond m) k i in let y = x.0 in cc

    -- what has a length
    pub of-measured : (act : ℕ → List Change) (e : ValueType) → (t ≡ ValueType.Slice e) ⊎ (t ≡ ValueType.Chan e)
        → ((n : ℕ) → P (act n)) → P (on_some (λ y. on_some act (length_of y)) (find o s.objects))
    of-measured act e q h = go (find o s.objects) refl
      where
        no : {A : Type 0} (u : ValueType) → t ≡ u → (u ≡ ValueType.Slice e → ⊥) → (u ≡ ValueType.Chan e → ⊥) → A
        no u i a b = elim q [ inl x ↦ absurd (a (sym i ∙ x)) | inr x ↦ absurd (b (sym i ∙ x)) ]

        go : (m : Option Object) → find o s.objects ≡ m → P (on_some (λ y. on_some act (length_of y)) m)
        go None i = absurd (there i)
        go (Some (Object.Struct fields)) i = let x =
            w.objects o t (Object.Struct fields) k i in no (ValueType.Struct x.0) x.2 (λ y. cc) (λ y. cc)
        go (Some (Object.Slice elements)) i = h (length elements)
        go (Some (Object.Chan c)) i = h (length c.buffer)
        go (Some (Object.Mutex locked)) i = no ValueType.Mutex (w.objects o t (Object.Mutex locked) k i) (λ y. cc)
            (λ y. cc)
        go (Some (Object.Group n)) i = no ValueType.Group (w.objects o t (Object.Group n) k i) (λ y. cc) (λ y. cc)
        go (Some (Object.Rw n)) i = no ValueType.Rw (w.objects o t (Object.Rw n) k i) (λ y. cc) (λ y. cc)
        go (Some (Object.Cond m)) i = no ValueType.Cond (w.objects o t (Object.Cond m) k i).0 (λ y. cc) (λ y. cc)

-- the acting goroutine, wherever its innermost frame stands
pub record Holds (types : Typing) (known : List (ℕ × ValueType)) (a : Actor) (ft : FunctionTypes) : Type 0 where
  pub base : FrameBase types known ft a.frame.function a.frame.slots a.frame.deferred
  pub callers : FramesFit types known (gives a.frame.discards ft.result) a.callers

-- the acting goroutine at an instruction
pub record ActorFits (types : Typing) (known : List (ℕ × ValueType)) (s : State) (a : Actor) (ft : FunctionTypes)
    (sh : Shape) : Type 0 where
  pub holds : Holds types known a ft
  pub no : a.frame.leaving ≡ Leaving.No
  pub held : ValuesFit types.of known a.frame.operands sh.operands
  pub assigned : Every (SlotFits types known (slot_types ft) a.frame.slots) sh.assigned
  pub present : Vals (Present s) a.frame.operands

-- if a position is led to, a frame stands there
pub lands : {types : Typing} {known : List (ℕ × ValueType)} {ft : FunctionTypes} {lacking : List ValueType} {k : ℕ}
    {vs slots : List Value} (ts : List ValueType) (assigned : List ℕ) → LeadsToShape ft (lacking ++ ts) assigned k
    → ValuesFit types.of known vs ts → Every (SlotFits types known (slot_types ft) slots) assigned
    → FrameStands types known ft lacking k vs slots
lands {types} {known} {ft} {lacking} {k} {vs} {slots} ts assigned l a h = record {
  shape = l.0;
  here = l.1;
  rest = ts;
  lacks = l.2;
  held = a;
  assigned = Every-weaker (λ i. In i assigned) (SlotFits types known (slot_types ft) slots)
      (λ i m. Every-at (SlotFits types known (slot_types ft) slots) assigned i h m) l.0.assigned l.3;
}

module _ (types : Typing) (known : List (ℕ × ValueType)) (s : State) (a : Actor) (ft : FunctionTypes) where
  pub proceeds-stands : (f : FrameView) → FrameBase types known ft f.function f.slots f.deferred
      → LeavingFits types known ft [] f.at f.operands f.slots f.leaving
      → FramesFit types known (gives f.discards ft.result) a.callers → Proceeds types known s (stands a f)
  proceeds-stands f b l c = record { moves = refl; keeps = (((ft, (b, l), c), or_true (a.number == 0)), tt) }

  pub proceeds-panics : (kind : PanicKind) → Holds types known a ft → Proceeds types known s (panics a kind)
  proceeds-panics kind i = proceeds-stands (unwinding (fault kind a.line) a.frame) i.base tt i.callers

  pub proceeds-dies : (kind : PanicKind) → Proceeds types known s (dies a kind)
  proceeds-dies kind = record { moves = refl; keeps = (tt, tt) }

  module _ (sh : Shape) (i : ActorFits types known s a ft sh) where
    pub on_no : (lacking : List ValueType) (k : ℕ) (vs slots : List Value)
        → FrameStands types known ft lacking k vs slots
        → LeavingFits types known ft lacking k vs slots a.frame.leaving
    on_no lacking k vs slots h = subst (LeavingFits types known ft lacking k vs slots) (sym i.no) h

    pub proceeds-jumps : (k : ℕ) (vs : List Value) (ts : List ValueType) → ValuesFit types.of known vs ts
        → LeadsToShape ft ts sh.assigned k → Proceeds types known s (jumps a k vs)
    proceeds-jumps k vs ts h l = proceeds-stands (record a.frame { at = k; operands = vs }) i.holds.base
        (on_no [] k vs a.frame.slots (lands ts sh.assigned l h i.assigned)) i.holds.callers

    pub proceeds-goes : (vs : List Value) (ts : List ValueType) → ValuesFit types.of known vs ts
        → LeadsToShape ft ts sh.assigned (a.frame.at + 1) → Proceeds types known s (goes a vs)
    proceeds-goes vs ts h l = proceeds-jumps (a.frame.at + 1) vs ts h l

    -- the operands, if the shape's are these
    pub taken : (ts : List ValueType) → sh.operands ≡ ts → ValuesFit types.of known a.frame.operands ts
    taken ts e = subst (ValuesFit types.of known a.frame.operands) e i.held

    pub proceeds-blocks : (f : FrameView) (kind : WaitKind) (waits : List Wait)
        → FrameBase types known ft f.function f.slots f.deferred → Every (WaitFits types known ft f) waits
        → WaitsAlone types known waits → FramesFit types known (gives f.discards ft.result) a.callers
        → Proceeds types known s (blocks a f kind waits)
    proceeds-blocks f kind waits b h l c = record { moves = refl; keeps = (((ft, b, h, c), l), tt) }

    -- one operand of this type is taken, or two
    pub takes-one : (t : ValueType) (act : Value → List Value → List Change) (us : List ValueType)
        (r : Takes ft a.frame.at sh (t ∷ []) us)
        → ((x : Value) (rest : List Value) → ValueFits types.of known x t → ValuesFit types.of known rest r.0
        → Val (Present s) x → Proceeds types known s (act x rest))
        → Proceeds types known s (taking_one act a.frame.operands)
    takes-one t act us r h = of-taking_one types known s
        (λ (cs : List Change). Proceeds types known s cs) act a.frame.operands t r.0 (taken (t ∷ r.0) r.1) i.present h

    pub takes-two : (t u : ValueType) (act : Value → Value → List Value → List Change) (us : List ValueType)
        (r : Takes ft a.frame.at sh (u ∷ t ∷ []) us)
        → ((x y : Value) (rest : List Value) → ValueFits types.of known x t → ValueFits types.of known y u
        → ValuesFit types.of known rest r.0 → Val (Present s) x → Proceeds types known s (act x y rest))
        → Proceeds types known s (taking_two act a.frame.operands)
    takes-two t u act us r h = of-taking_two types known s
        (λ (cs : List Change). Proceeds types known s cs) act a.frame.operands t u r.0
        (taken (u ∷ t ∷ r.0) r.1) i.present h
