-- The code of selectors has shapes.
-- For: `expressions_fit`, src/lib.rt
-- By: cases of what stands before the dot; no induction
use Rattle.std.proofs.Common.{◌≡◌, ℕ, Bool, true, false, cond, List, [], ◌∷◌, Option, Some, None, refl, sym, subst}
use Rattle.std.proofs.Common.{slice_get}
use Rattle.golf_data.specs.declared.code.Instr.{Instr}
use Rattle.golf_check_types.specs.declared.types.Layer.{Layer}
use Rattle.golf_check_types.specs.declared.types.Base.{Base}
use Rattle.golf_check_types.specs.declared.types.Base.TheVariants as base
use Rattle.golf_check_types.specs.declared.operands.BuiltIn.{BuiltIn}
use Rattle.golf_check_types.specs.declared.operands.Operand.{Operand}
use Rattle.golf_check_types.specs.declared.operands.Operand.TheVariants as operand
use Rattle.golf_check_types.specs.declared.operands.Given.{Given}
use Rattle.golf_check_types.specs.declared.operands.Given.TheVariants as given_as
use Rattle.golf_check_types.specs.declared.scopes.Member.{Member}
use Rattle.golf_check_types.specs.declared.scopes.Member.TheVariants as members
use Rattle.golf_check_types.specs.declared.scopes.Scope.{Scope}
use Rattle.golf_check_types.specs.Types.{given}
use Rattle.golf_check_types.specs.Scopes.{member}
use Rattle.golf_check_types.specs.Expressions.{Judged, value_faults, value_member, type_member, base_member}
use Rattle.golf_check_types.specs.Expressions.{struct_member, called_name, condition_member, condition_method}
use Rattle.golf_check_types.specs.Expressions.{mutex_method, group_method, read_method, package_member}
use Rattle.golf_check_types.specs.Expressions.{has_type, selected_from, leaf}
use Rattle.golf_check_types.specs.Expressions.{value}
use Rattle.golf_model_typing.specs.Types.{ValueType, FunctionTypes, Types}
use Rattle.golf_code_layout.specs.Piece.{Piece, op}
use Rattle.golf_code_shapes.proofs.Pieces.{has-op}
use Rattle.golf_code_of.specs.declared.tables.Tables.{Tables}
use Rattle.golf_code_of.specs.Expressions.{Made, selector}
use Rattle.golf_code_of.specs.Calls.{receiver_base}
use Rattle.golf_code_shapes.specs.Types.{base_type, value_type}
use Rattle.golf_code_shapes.specs.Sound.{MemberFits, FileFits, Pushes, Silent, PlaceOf, PushesReceiver}
use Rattle.golf_code_shapes.proofs.Typings.{none-left, none-right}
use Rattle.golf_code_shapes.proofs.Turning.{turn-op, one-turn}
use Rattle.golf_code_shapes.proofs.Chosen.{of-mutex, of-group, of-readers, of-condition, from-package}
use Rattle.golf_code_shapes.proofs.Names.{Shows, GivesBy, valued}
use Rattle.golf_code_shapes.proofs.Operators.{by-one}

module _ (types : Types) (t : Tables) (ft : FunctionTypes) (A : List ℕ) (s : Scope)
    (file : FileFits types t s.file) where
  abbrev Sh : Operand → Made → Type 0
  Sh = Shows types t ft A s

  abbrev Pu : Piece → ValueType → Type 0
  Pu = Pushes types ft A

  field-place : (l i k : ℕ) (ts : List ValueType) (v : ValueType) (p : Piece) → slice_get types.structs k ≡ Some ts
      → slice_get ts i ≡ Some v → Pu p (ValueType.Struct k)
      → PlaceOf types ft A (selector l (operand.Field i None) p) v
  field-place l i k ts v p there typed h =
      let read = turn-op types ft A (Instr.Field i) l (ValueType.Struct k ∷ []) (v ∷ [])
      (λ full at ops m. (k, ts, v, there, typed, (ops, refl, m))) in (
        one-turn types ft A p (op l (Instr.Field i)) [] (ValueType.Struct k ∷ []) (v ∷ []) h read,
        record {
          told = ValueType.Struct k ∷ [];
          parts = h;
          twice = λ ops exits. has-op types ft Instr.Dup l _ _ exits
              (λ full at m. (ValueType.Struct k, (ops, refl, m)));
          read = read;
          store = turn-op types ft A (Instr.SetField i) l (v ∷ ValueType.Struct k ∷ []) []
              (λ full at ops m. (k, ts, v, there, typed, (ops, refl, m)));
        },
      )

  -- a member of a struct
  of-struct : (l k : ℕ) (p : Piece) (o : Option Member) → ((m : Member) → o ≡ Some m → MemberFits types t s.file k m)
      → (struct_member l s.file k o).faults ≡ [] → Pu p (ValueType.Struct k)
      → Sh (struct_member l s.file k o).meaning (selector l (struct_member l s.file k o).meaning p)
  of-struct l k p None fits none h = cc
  of-struct l k p (Some (members.Field i)) fits none h =
      let f = fits (members.Field i) refl in
      subst (λ o. Sh (operand.Field i o) (selector l (operand.Field i o) p)) (sym f.3)
      (field-place l i k f.0 (value_type f.1) p f.2 f.4 h)
  of-struct l k p (Some (members.Method q)) fits none h = (k, h, fits (members.Method q) refl)

  -- a name of a method of package sync, if its receiver has this type
  named-method : (l : ℕ) (p : Piece) (b : Base) (o : Option BuiltIn)
      → ((m : BuiltIn) → o ≡ Some m → receiver_base m ≡ Some b) → (called_name l o).faults ≡ [] → Pu p (base_type b)
      → Sh (called_name l o).meaning (selector l (called_name l o).meaning p)
  named-method l p b None fits none h = cc
  named-method l p b (Some m) fits none h = subst (λ o. PushesReceiver types ft A o p) (sym (fits m refl)) h

  -- a method of a condition, or its mutex
  condition-name : (l : ℕ) (p : Piece) (test : Bool) (j : Judged)
      → (j.faults ≡ [] → Sh j.meaning (selector l j.meaning p)) → (cond test (leaf (value base.Mutex) []) j).faults ≡ []
      → Pu p ValueType.Cond
      → Sh (cond test (leaf (value base.Mutex) []) j).meaning
      (selector l (cond test (leaf (value base.Mutex) []) j).meaning p)
  condition-name l p true j k none h = by-one types t ft A s Instr.CondMutex l ValueType.Cond ValueType.Mutex p h
      (λ full at ops m. (ops, refl, m))
  condition-name l p false j k none h = k none

  of-condition-name : (l : ℕ) (n : List ℕ) (p : Piece) → (condition_member l n).faults ≡ [] → Pu p ValueType.Cond
      → Sh (condition_member l n).meaning (selector l (condition_member l n).meaning p)
  unfolding condition_member
  of-condition-name l n p none h = condition-name l p _ (called_name l (condition_method n))
      (λ e. named-method l p base.Condition (condition_method n) (of-condition n) e h) none h

  of-base : (l : ℕ) (n : List ℕ) (b : Base) (p : Piece) → (base_member l s.file n b).faults ≡ [] → Pu p (base_type b)
      → Sh (base_member l s.file n b).meaning (selector l (base_member l s.file n b).meaning p)
  of-base l n (base.Pointer k) p none h = of-struct l k p (member s.file k n) (λ m e. file.members k n m e) none h
  of-base l n base.Mutex p none h = named-method l p base.Mutex (mutex_method n) (of-mutex n) none h
  of-base l n base.Group p none h = named-method l p base.Group (group_method n) (of-group n) none h
  of-base l n base.ReadWriteMutex p none h = named-method l p base.ReadWriteMutex (read_method n) (of-readers n) none h
  of-base l n base.Condition p none h = of-condition-name l n p none h
  of-base l n _ p none h = cc

  of-type : (l : ℕ) (n : List ℕ) (xs : List Layer) (b : Base) (p : Piece) → (type_member l s.file n xs b).faults ≡ []
      → Pu p (value_type (record { layers = xs; base = b }))
      → Sh (type_member l s.file n xs b).meaning (selector l (type_member l s.file n xs b).meaning p)
  of-type l n [] b p none h = of-base l n b p none h
  of-type l n (x ∷ xs) b p none h = cc

  -- a member of a package

  of-package : (l : ℕ) (p : Piece) (o : Option BuiltIn) → ((m : BuiltIn) → o ≡ Some m → receiver_base m ≡ None)
      → (called_name l o).faults ≡ [] → Silent types ft A p
      → Sh (called_name l o).meaning (selector l (called_name l o).meaning p)
  of-package l p None fits none h = cc
  of-package l p (Some m) fits none h = subst (λ o. PushesReceiver types ft A o p) (sym (fits m refl)) h

  -- a type of a package, or what is called
  package-name : (l : ℕ) (p : Piece) (test : Bool) (j : Judged)
      → (j.faults ≡ [] → Sh j.meaning (selector l j.meaning p)) → (cond test (leaf operand.TypeName []) j).faults ≡ []
      → Sh (cond test (leaf operand.TypeName []) j).meaning
      (selector l (cond test (leaf operand.TypeName []) j).meaning p)
  package-name l p true j k none = tt
  package-name l p false j k none = k none

  of-given : (l : ℕ) (n : List ℕ) (g : Given) (p : Piece) → (value_member l s.file n g).faults ≡ []
      → GivesBy types t ft A s g p → Sh (value_member l s.file n g).meaning
      (selector l (value_member l s.file n g).meaning p)
  of-given l n (given_as.Typed e) p none h = of-type l n e.layers e.base p none h
  of-given l n given_as.Nil p none h = cc
  of-given l n given_as.Unknown p none h = absurd h

  -- `e.n`, if this is what e is
  pub on-selector : (l : ℕ) (n : List ℕ) (m : Operand) (x : Made) → (selected_from l s.file n m).faults ≡ [] → Sh m x
      → Sh (selected_from l s.file n m).meaning (selector l (selected_from l s.file n m).meaning x.piece)
  on-selector l n (operand.Package q) x none h =
      package-name l x.piece (has_type q n) (called_name l (package_member q n))
      (λ e. of-package l x.piece (package_member q n) (from-package q n) e h) none
  on-selector l n operand.Unknown x none h = absurd h
  on-selector l n m x none h =
      of-given l n (given m) x.piece (none-right (value_faults l m) _ none)
      (valued types t ft A s l m x (none-left (value_faults l m) _ none) h)
