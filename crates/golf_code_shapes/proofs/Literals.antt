-- The code of literals, `make` and `new` has shapes.
-- For: `expressions_fit`, src/lib.rt; `Shown`, specs/Sound.antt
-- By: induction over the tree of a written type, and over the list of elements
use Rattle.std.proofs.Common.{◌≡◌, ℕ, ◌+◌, ◌<◌, true, ◌&&◌, not, List, [], ◌∷◌, ◌++◌, map, length}
use Rattle.std.proofs.Common.{Option, Some, None, refl, sym, subst, slice_get, pos}
use Rattle.std.proofs.lemmas.Bool.{and_parts}
use Rattle.std.specs.Prelude.{flat_map, is_some}
use Rattle.std.specs.List.{list_any}
use Rattle.std.specs.Str.{bytes_eq}
use Rattle.std.specs.Option.{option_map}
use Rattle.golf_data.specs.declared.code.Instr.{Instr}
use Rattle.golf_syntax_trees.specs.declared.types.TypeExpr.{TypeExpr, roll-TypeExpr}
use Rattle.golf_syntax_trees.specs.declared.types.TypeExpr.TheOpen as F
use Rattle.golf_syntax_trees.proofs.TypeInduction.{TypeLayer, bare_type, every-type}
use Rattle.golf_check_types.specs.declared.types.Layer.{Layer}
use Rattle.golf_check_types.specs.declared.types.Layer.TheVariants as layer
use Rattle.golf_check_types.specs.declared.types.Base.{Base}
use Rattle.golf_check_types.specs.declared.types.Base.TheVariants as base
use Rattle.golf_check_types.specs.declared.types.GoType.{GoType}
use Rattle.golf_check_types.specs.declared.operands.Operand.{Operand}
use Rattle.golf_check_types.specs.declared.operands.Operand.TheVariants as operand
use Rattle.golf_check_types.specs.declared.operands.Given.{Given}
use Rattle.golf_check_types.specs.declared.scopes.Member.{Member}
use Rattle.golf_check_types.specs.declared.scopes.Member.TheVariants as members
use Rattle.golf_check_types.specs.declared.scopes.Scope.{Scope}
use Rattle.golf_check_types.specs.Faults.{broken}
use Rattle.golf_check_types.specs.Types.{plain, with_layer, given, has_layer, is_channel, is_any, starts_with}
use Rattle.golf_check_types.specs.Types.{assignable}
use Rattle.golf_check_types.specs.Scopes.{meaning, member}
use Rattle.golf_check_types.specs.Written.{Written, WriteType, write, made_base, of_base, pointer_to}
use Rattle.golf_check_types.specs.Expressions.{Judged, used, given_by, made_sync, made_struct, pointer_value}
use Rattle.golf_check_types.specs.Expressions.{field_type, field_of_member, put_faults, all_put_faults, fields_differ}
use Rattle.golf_check_types.specs.Expressions.{struct_literal, slice_literal, made, made_sized, place_of, field_place}
use Rattle.golf_model.specs.Values.{zero_of}
use Rattle.golf_model_typing.specs.Types.{ValueType, FunctionTypes, Types, ValueFits}
use Rattle.golf_code_layout.specs.Piece.{Piece, all, op}
use Rattle.golf_code_of.specs.declared.tables.Tables.{Tables}
use Rattle.golf_code_of.specs.Values.{type_zero, new_container}
use Rattle.golf_code_of.specs.Expressions as C
use Rattle.golf_code_of.specs.Expressions.{Made, put, puts, elements, new_sync, new_struct}
use Rattle.golf_code_of.proofs.TypeWrites.{write_layer, write-rolls}
use Rattle.golf_code_shapes.specs.Types.{layers_type, value_type}
use Rattle.golf_code_shapes.specs.Sound.{IsKnown, type_of_field, FileFits, ScopeFits, MemberFits, TurnsOperands, Pushes}
use Rattle.golf_code_shapes.proofs.Typings.{none-left, none-right, kept}
use Rattle.golf_code_shapes.proofs.Turning.{turn-op, turn-none, turn-then, turn-last, one-turn, over}
use Rattle.golf_code_shapes.proofs.Chosen.{IsMade, is-made}
use Rattle.golf_code_shapes.proofs.Names.{Shows, GivesBy, of-used, based, given-to, name-means}

-- Written types that break no rule are known.

known-if : (b : Option Base) → is_some b ≡ true → IsKnown (option_map plain b)
known-if None e = cc
known-if (Some b) e = (plain b, refl)

of-base-known : (l : ℕ) (b : Option Base) → (of_base l b).faults ≡ [] → IsKnown (of_base l b).type
of-base-known l b none = known-if b (kept l 4 (is_some b) none)

layered-known : (x : Layer) (o : Option GoType) → IsKnown o → IsKnown (with_layer x o)
layered-known x o h = subst (λ z. IsKnown (with_layer x z)) (sym h.1)
    (record { layers = x ∷ h.0.layers; base = h.0.base }, refl)

module _ where
  abbrev P : TypeExpr → Type 0
  P x = (l : ℕ) (s : Scope) → (write x l s).faults ≡ [] → IsKnown (write x l s).type

  known-at : (y : TypeLayer P) (l : ℕ) (s : Scope) → (write_layer (bare_type P y) l s).faults ≡ []
      → IsKnown (write_layer (bare_type P y) l s).type
  known-at (F.Named n) l s none = of-base-known l _ none
  known-at (F.Pointer n) l s none = of-base-known l _ none
  known-at (F.SyncPointer n) l s none = known-if _ (kept l 4 _ (none-right (broken l 3 s.file.imports.sync) _ none))
  known-at (F.Slice x) l s none = layered-known layer.Slice (write x.0 l s).type (x.1 l s none)
  known-at (F.Chan x) l s none = layered-known layer.Chan (write x.0 l s).type (x.1 l s none)
  known-at (F.SendChan x) l s none = layered-known layer.SendChan (write x.0 l s).type (x.1 l s none)
  known-at (F.ReceiveChan x) l s none = layered-known layer.ReceiveChan (write x.0 l s).type (x.1 l s none)
  known-at F.EmptyStruct l s none = of-base-known l (Some base.Unit) none

  known-rolled : (y : TypeLayer P) → P (roll-TypeExpr (bare_type P y))
  known-rolled y l s = subst (λ (w : WriteType). (w l s).faults ≡ [] → IsKnown (w l s).type)
      (sym (write-rolls (bare_type P y))) (known-at y l s)

  pub written-known : (x : TypeExpr) → P x
  written-known = every-type P known-rolled

module _ (types : Types) (t : Tables) (ft : FunctionTypes) (A : List ℕ) (s : Scope) where
  abbrev Sh : Operand → Made → Type 0
  Sh = Shows types t ft A s

  abbrev Pu : Piece → ValueType → Type 0
  Pu = Pushes types ft A

  abbrev Tu : Piece → List ValueType → List ValueType → Type 0
  Tu = TurnsOperands types ft A

  -- zero values

  pub zero-fits : 0 < types.texts → (xs : List Layer) (b : Base)
      → ValueFits types [] (type_zero xs b) (layers_type xs b)
  zero-fits few [] base.Int = refl
  zero-fits few [] base.Bool = refl
  zero-fits few [] base.Text = (refl, few)
  zero-fits few [] base.Unit = refl
  zero-fits few (layer.Slice ∷ xs) b = tt
  zero-fits few _ b = tt

  pub zero-same : (xs : List Layer) (b : Base) → zero_of (type_zero xs b) ≡ type_zero xs b
  zero-same [] base.Int = refl
  zero-same _ b = refl

  made-zero : 0 < types.texts → (xs : List Layer) (b : Base)
      → ValueFits types [] (zero_of (type_zero xs b)) (layers_type xs b)
  made-zero few xs b = subst (λ v. ValueFits types [] v (layers_type xs b)) (sym (zero-same xs b)) (zero-fits few xs b)

  new-any : (l : ℕ) → 0 < types.texts → (xs : List Layer) (b : Base) → starts_with is_any xs ≡ true
      → Tu (op l (new_container xs b)) (ValueType.Int ∷ []) (layers_type xs b ∷ [])
  new-any l few [] b e = cc
  new-any l few (layer.Slice ∷ xs) b e = turn-op types ft A (Instr.NewSlice (type_zero xs b)) l (ValueType.Int ∷ [])
      (ValueType.Slice (layers_type xs b) ∷ []) (λ full k ops g. (layers_type xs b, made-zero few xs b, (ops, refl, g)))
  new-any l few (layer.Chan ∷ xs) b e = turn-op types ft A (Instr.NewChan (type_zero xs b)) l (ValueType.Int ∷ [])
      (ValueType.Chan (layers_type xs b) ∷ []) (λ full k ops g. (layers_type xs b, made-zero few xs b, (ops, refl, g)))
  new-any l few (layer.SendChan ∷ xs) b e =
      turn-op types ft A (Instr.NewChan (type_zero xs b)) l (ValueType.Int ∷ [])
      (ValueType.Chan (layers_type xs b) ∷ []) (λ full k ops g. (layers_type xs b, made-zero few xs b, (ops, refl, g)))
  new-any l few (layer.ReceiveChan ∷ xs) b e =
      turn-op types ft A (Instr.NewChan (type_zero xs b)) l (ValueType.Int ∷ [])
      (ValueType.Chan (layers_type xs b) ∷ []) (λ full k ops g. (layers_type xs b, made-zero few xs b, (ops, refl, g)))

  is-any : (xs : List Layer) → starts_with is_channel xs ≡ true → starts_with is_any xs ≡ true
  is-any [] e = cc
  is-any (x ∷ xs) e = refl

  pushes-int : (l : ℕ) (n : ℕ) → Pu (op l (Instr.Int (pos n))) ValueType.Int
  pushes-int l n = turn-op types ft A (Instr.Int (pos n)) l [] (ValueType.Int ∷ []) (λ full k ops g. (ops, refl, g))

  -- `make`

  pub on-made : (l : ℕ) (w : Written) → 0 < types.texts → (w.faults ≡ [] → IsKnown w.type) → (made l w).faults ≡ []
      → Sh (made l w).meaning (C.made l w.type)
  on-made l w few known none =
      let k = known (none-left w.faults _ none) in
      let fits = subst (λ o. has_layer is_channel (given (operand.Value o)) ≡ true) k.1
      (kept l 11 _ (none-right w.faults _ none)) in
      subst (λ o. Sh (operand.Value o) (C.made l o)) (sym k.1)
      (one-turn types ft A _ _ [] (ValueType.Int ∷ []) (value_type k.0 ∷ []) (pushes-int l 0)
      (new-any l few k.0.layers k.0.base (is-any k.0.layers fits)))

  pub on-made-sized : (l : ℕ) (w : Written) (j : Judged) (x : Made) → 0 < types.texts → (w.faults ≡ [] → IsKnown w.type)
      → (made_sized l w j).faults ≡ [] → Sh j.meaning x → Sh (made_sized l w j).meaning (C.made_sized l w.type x.piece)
  on-made-sized l w j x few known none h =
      let k = known (none-left w.faults _ none) in
      let one = none-right w.faults _ none in
      let two = none-right (used l j) _ one in
      let size = based types t ft A s base.Int (given_by j) x.piece (kept l 8 _ (none-left (broken l 8 _) _ two))
      (of-used types t ft A s l j x (none-left (used l j) _ one) h) in
      let fits = subst (λ o. has_layer is_any (given (operand.Value o)) ≡ true) k.1
      (kept l 11 _ (none-right (broken l 8 _) _ two)) in
      subst (λ o. Sh (operand.Value o) (C.made_sized l o x.piece)) (sym k.1)
      (one-turn types ft A x.piece _ [] (ValueType.Int ∷ []) (value_type k.0 ∷ []) size
      (new-any l few k.0.layers k.0.base fits))

  -- `new` and literals of package sync

  makes-sync : (l : ℕ) (b : Option Base) → ((c : Base) → b ≡ Some c → IsMade c) → is_some b ≡ true
      → Sh (operand.Value (option_map plain b)) (new_sync l b)
  makes-sync l None which e = cc
  makes-sync l (Some base.Mutex) which e =
      turn-op types ft A Instr.NewMutex l [] (ValueType.Mutex ∷ []) (λ full k ops g. (ops, refl, g))
  makes-sync l (Some base.Group) which e =
      turn-op types ft A Instr.NewGroup l [] (ValueType.Group ∷ []) (λ full k ops g. (ops, refl, g))
  makes-sync l (Some base.ReadWriteMutex) which e =
      turn-op types ft A Instr.NewRw l [] (ValueType.Rw ∷ []) (λ full k ops g. (ops, refl, g))
  makes-sync l (Some base.Int) which e = absurd (which base.Int refl)
  makes-sync l (Some base.Bool) which e = absurd (which base.Bool refl)
  makes-sync l (Some base.Text) which e = absurd (which base.Text refl)
  makes-sync l (Some base.Unit) which e = absurd (which base.Unit refl)
  makes-sync l (Some (base.Pointer k)) which e = absurd (which (base.Pointer k) refl)
  makes-sync l (Some base.Condition) which e = absurd (which base.Condition refl)

  pub on-sync : (l : ℕ) (n : List ℕ) → (made_sync l s n).faults ≡ []
      → Sh (made_sync l s n).meaning (new_sync l (made_base n))
  on-sync l n none = makes-sync l (made_base n) (is-made n)
      (kept l 4 _ (none-right (broken l 3 s.file.imports.sync) _ none))

  -- structs

  -- what is a pointer to a struct of the file
  pub record IsStruct (b : Option Base) : Type 0 where
    pub k : ℕ
    pub is : b ≡ Some (base.Pointer k)
    pub ts : List ValueType
    pub there : slice_get types.structs k ≡ Some ts

  struct-there : (o : Option Operand) → ((k : ℕ) → o ≡ Some (operand.Struct k) → (ts : List ValueType)
      × (slice_get types.structs k ≡ Some ts)) → is_some (pointer_to o) ≡ true → IsStruct (pointer_to o)
  struct-there (Some (operand.Struct k)) h e = let r = h k refl in record { k = k; is = refl; ts = r.0; there = r.1 }
  struct-there _ h e = cc

  named-struct : (n : List ℕ) → ScopeFits types t ft A s → is_some (pointer_to (meaning s n)) ≡ true
      → IsStruct (pointer_to (meaning s n))
  named-struct n ok e = struct-there (meaning s n) (λ k is. name-means types t ft A s n ok (operand.Struct k) is) e

  new-of : (l : ℕ) (b : Option Base) → IsStruct b → Sh (pointer_value b) (new_struct l b)
  new-of l b h = subst (λ o. Sh (pointer_value o) (new_struct l o)) (sym h.is)
      (turn-op types ft A (Instr.NewStruct h.k) l [] (ValueType.Struct h.k ∷ [])
      (λ full at ops g. (h.ts, h.there, (ops, refl, g))))

  pub on-new : (l : ℕ) (n : List ℕ) → ScopeFits types t ft A s → (made_struct l (pointer_to (meaning s n))).faults ≡ []
      → Sh (made_struct l (pointer_to (meaning s n))).meaning (new_struct l (pointer_to (meaning s n)))
  on-new l n ok none = new-of l (pointer_to (meaning s n)) (named-struct n ok (kept l 4 _ none))

  -- an expression that was judged, and its code
  pub record Arg : Type 0 where
    pub judged : Judged
    pub made : Made
    pub shows : judged.faults ≡ [] → Sh judged.meaning made

  abbrev pub judgeds : List Arg → List Judged
  judgeds xs = map (λ x. x.judged) xs

  abbrev pub args-pieces : List Arg → List Piece
  args-pieces xs = map (λ x. x.made.piece) xs

  pub arg-gives : (l : ℕ) (x : Arg) → used l x.judged ≡ [] → GivesBy types t ft A s (given_by x.judged) x.made.piece
  arg-gives l x none = of-used types t ft A s l x.judged x.made none (x.shows (none-left x.judged.faults _ none))

  -- a value is put into a field

  put-turns : (l k i : ℕ) (ts : List ValueType) (v : ValueType) (p : Piece) → slice_get types.structs k ≡ Some ts
      → slice_get ts i ≡ Some v → Pu p v → Tu (put l i p) (ValueType.Struct k ∷ []) (ValueType.Struct k ∷ [])
  put-turns l k i ts v p there typed h =
      turn-then types ft A (op l Instr.Dup) _ (ValueType.Struct k ∷ []) (ValueType.Struct k ∷ ValueType.Struct k ∷ [])
      (ValueType.Struct k ∷ [])
      (turn-op types ft A Instr.Dup l (ValueType.Struct k ∷ []) (ValueType.Struct k ∷ ValueType.Struct k ∷ [])
      (λ full at ops g. (ValueType.Struct k, (ops, refl, g))))
      (turn-then types ft A p _ (ValueType.Struct k ∷ ValueType.Struct k ∷ [])
      (v ∷ ValueType.Struct k ∷ ValueType.Struct k ∷ []) (ValueType.Struct k ∷ [])
      (over types ft A p v (ValueType.Struct k ∷ ValueType.Struct k ∷ []) h)
      (turn-last types ft A (op l (Instr.SetField i)) (v ∷ ValueType.Struct k ∷ ValueType.Struct k ∷ [])
      (ValueType.Struct k ∷ [])
      (turn-op types ft A (Instr.SetField i) l (v ∷ ValueType.Struct k ∷ ValueType.Struct k ∷ [])
      (ValueType.Struct k ∷ []) (λ full at ops g. (k, ts, v, there, typed, (ValueType.Struct k ∷ ops, refl, g))))))

  -- the field of this name
  field-put : (l k : ℕ) (o : Option Member) (g : Given) (p : Piece)
      → ((m : Member) → o ≡ Some m → MemberFits types t s.file k m) → is_some (field_of_member s.file k o) ≡ true
      → put_faults l (field_of_member s.file k o) g ≡ []
      → GivesBy types t ft A s g p → Tu (put l (place_of o) p) (ValueType.Struct k ∷ []) (ValueType.Struct k ∷ [])
  field-put l k None g p fits e none h = cc
  field-put l k (Some (members.Field i)) g p fits e none h =
      let f = fits (members.Field i) refl in
      put-turns l k i f.0 (value_type f.1) p f.2 f.4
      (given-to types t ft A s g f.1 p (subst (λ z. assignable g z ≡ true) f.3
      (kept l 9 (assignable g (type_of_field s.file k i)) none)) h)
  field-put l k (Some (members.Method q)) g p fits e none h = cc

  field-put-named : (l k : ℕ) (n : List ℕ) (g : Given) (p : Piece) → FileFits types t s.file
      → is_some (field_type s.file (Some (base.Pointer k)) n) ≡ true
      → put_faults l (field_type s.file (Some (base.Pointer k)) n) g ≡ []
      → GivesBy types t ft A s g p → Tu (put l (field_place s.file (Some (base.Pointer k)) n) p)
      (ValueType.Struct k ∷ []) (ValueType.Struct k ∷ [])
  unfolding field_type
  field-put-named l k n g p file e none h =
      field-put l k (member s.file k n) g p (λ m is. file.members k n m is) e none h

  puts-turn : (l k : ℕ) (seen names : List (List ℕ)) (xs : List Arg) → FileFits types t s.file
      → fields_differ s.file (Some (base.Pointer k)) seen names ≡ true → flat_map (used l) (judgeds xs) ≡ []
      → all_put_faults l s.file (Some (base.Pointer k)) names (map given_by (judgeds xs)) ≡ []
      → Tu (puts l s.file (Some (base.Pointer k)) names (args-pieces xs)) (ValueType.Struct k ∷ [])
      (ValueType.Struct k ∷ [])
  puts-turn l k seen [] xs file e u none = turn-none types ft A (ValueType.Struct k ∷ [])
  puts-turn l k seen (n ∷ ns) [] file e u none = turn-none types ft A (ValueType.Struct k ∷ [])
  puts-turn l k seen (n ∷ ns) (x ∷ xs) file e u none =
      let each = and_parts (is_some (field_type s.file (Some (base.Pointer k)) n) && not (list_any (bytes_eq n) seen))
      (fields_differ s.file (Some (base.Pointer k)) (seen ++ n ∷ []) ns) e in
      let first = and_parts (is_some (field_type s.file (Some (base.Pointer k)) n))
      (not (list_any (bytes_eq n) seen)) each.0 in
      turn-then types ft A _ _ (ValueType.Struct k ∷ []) (ValueType.Struct k ∷ []) (ValueType.Struct k ∷ [])
      (field-put-named l k n (given_by x.judged) x.made.piece file first.0
      (none-left (put_faults l (field_type s.file (Some (base.Pointer k)) n) (given_by x.judged)) _ none)
      (arg-gives l x (none-left (used l x.judged) _ u)))
      (puts-turn l k (seen ++ n ∷ []) ns xs file each.1 (none-right (used l x.judged) _ u)
      (none-right (put_faults l (field_type s.file (Some (base.Pointer k)) n) (given_by x.judged)) _ none))

  literal-of : (l : ℕ) (b : Option Base) (names : List (List ℕ)) (xs : List Arg) → FileFits types t s.file → IsStruct b
      → (struct_literal l s.file b names (judgeds xs)).faults ≡ []
      → Sh (pointer_value b) (C.struct_literal l s.file b names (args-pieces xs))
  literal-of l b names xs file h none =
      let all_used = none-left (flat_map (used l) (judgeds xs)) _ none in
      let rest = none-right (flat_map (used l) (judgeds xs)) _ none in
      let puts-none = subst (λ o. all_put_faults l s.file o names (map given_by (judgeds xs)) ≡ []) h.is
      (none-left (all_put_faults l s.file b names (map given_by (judgeds xs))) _ rest) in
      let differ = subst (λ o. fields_differ s.file o [] names ≡ true) h.is
      (and_parts (is_some b) (fields_differ s.file b [] names)
      (kept l 20 _ (none-right (all_put_faults l s.file b names (map given_by (judgeds xs))) _ rest))).1 in
      subst (λ o. Sh (pointer_value o) (C.struct_literal l s.file o names (args-pieces xs))) (sym h.is)
      (one-turn types ft A (op l (Instr.NewStruct h.k)) _ [] (ValueType.Struct h.k ∷ []) (ValueType.Struct h.k ∷ [])
      (turn-op types ft A (Instr.NewStruct h.k) l [] (ValueType.Struct h.k ∷ [])
      (λ full at ops g. (h.ts, h.there, (ops, refl, g))))
      (puts-turn l h.k [] names xs file differ all_used puts-none))

  pub on-struct-literal : (l : ℕ) (n : List ℕ) (names : List (List ℕ)) (xs : List Arg) → ScopeFits types t ft A s
      → (struct_literal l s.file (pointer_to (meaning s n)) names (judgeds xs)).faults ≡ []
      → Sh (struct_literal l s.file (pointer_to (meaning s n)) names (judgeds xs)).meaning
      (C.struct_literal l s.file (pointer_to (meaning s n)) names (args-pieces xs))
  on-struct-literal l n names xs ok none =
      let b = pointer_to (meaning s n) in
      let rest = none-right (flat_map (used l) (judgeds xs)) _ none in
      let last = and_parts (is_some b) (fields_differ s.file b [] names)
      (kept l 20 _ (none-right (all_put_faults l s.file b names (map given_by (judgeds xs))) _ rest)) in
      literal-of l b names xs ok.file (named-struct n ok last.0) none

  -- slices

  element-turns : (l i : ℕ) (v : ValueType) (p : Piece) → Pu p v
      → Tu (all (op l Instr.Dup ∷ op l (Instr.Int (pos i)) ∷ p ∷ op l Instr.SetIndex ∷ [])) (ValueType.Slice v ∷ [])
      (ValueType.Slice v ∷ [])
  element-turns l i v p h =
      turn-then types ft A (op l Instr.Dup) _ (ValueType.Slice v ∷ []) (ValueType.Slice v ∷ ValueType.Slice v ∷ [])
      (ValueType.Slice v ∷ [])
      (turn-op types ft A Instr.Dup l (ValueType.Slice v ∷ []) (ValueType.Slice v ∷ ValueType.Slice v ∷ [])
      (λ full k ops g. (ValueType.Slice v, (ops, refl, g))))
      (turn-then types ft A (op l (Instr.Int (pos i))) _ (ValueType.Slice v ∷ ValueType.Slice v ∷ [])
      (ValueType.Int ∷ ValueType.Slice v ∷ ValueType.Slice v ∷ []) (ValueType.Slice v ∷ [])
      (over types ft A _ ValueType.Int (ValueType.Slice v ∷ ValueType.Slice v ∷ []) (pushes-int l i))
      (turn-then types ft A p _ (ValueType.Int ∷ ValueType.Slice v ∷ ValueType.Slice v ∷ [])
      (v ∷ ValueType.Int ∷ ValueType.Slice v ∷ ValueType.Slice v ∷ []) (ValueType.Slice v ∷ [])
      (over types ft A p v (ValueType.Int ∷ ValueType.Slice v ∷ ValueType.Slice v ∷ []) h)
      (turn-last types ft A (op l Instr.SetIndex) (v ∷ ValueType.Int ∷ ValueType.Slice v ∷ ValueType.Slice v ∷ [])
      (ValueType.Slice v ∷ [])
      (turn-op types ft A Instr.SetIndex l (v ∷ ValueType.Int ∷ ValueType.Slice v ∷ ValueType.Slice v ∷ [])
      (ValueType.Slice v ∷ []) (λ full k ops g. (v, (ValueType.Slice v ∷ ops, refl, g)))))))

  elements-turn : (l i : ℕ) (e : GoType) (xs : List Arg) → flat_map (used l) (judgeds xs) ≡ []
      → flat_map (λ v. broken l 9 (assignable v (Some e))) (map given_by (judgeds xs)) ≡ []
      → Tu (elements l i (args-pieces xs)) (ValueType.Slice (value_type e) ∷ []) (ValueType.Slice (value_type e) ∷ [])
  elements-turn l i e [] u none = turn-none types ft A (ValueType.Slice (value_type e) ∷ [])
  elements-turn l i e (x ∷ xs) u none =
      turn-then types ft A _ _ (ValueType.Slice (value_type e) ∷ []) (ValueType.Slice (value_type e) ∷ [])
      (ValueType.Slice (value_type e) ∷ [])
      (element-turns l i (value_type e) x.made.piece
      (given-to types t ft A s (given_by x.judged) e x.made.piece
      (kept l 9 _ (none-left (broken l 9 (assignable (given_by x.judged) (Some e))) _ none))
      (arg-gives l x (none-left (used l x.judged) _ u))))
      (elements-turn l (i + 1) e xs (none-right (used l x.judged) _ u)
      (none-right (broken l 9 (assignable (given_by x.judged) (Some e))) _ none))

  slice-of-known : (l : ℕ) (e : GoType) (xs : List Arg) → 0 < types.texts → flat_map (used l) (judgeds xs) ≡ []
      → flat_map (λ v. broken l 9 (assignable v (Some e))) (map given_by (judgeds xs)) ≡ []
      → Sh (operand.Value (with_layer layer.Slice (Some e)))
      (C.slice_literal l (with_layer layer.Slice (Some e)) (args-pieces xs))
  slice-of-known l e xs few u none =
      turn-then types ft A (op l (Instr.Int (pos (length (args-pieces xs))))) _ [] (ValueType.Int ∷ [])
      (ValueType.Slice (value_type e) ∷ []) (pushes-int l (length (args-pieces xs)))
      (turn-then types ft A (op l (Instr.NewSlice (type_zero e.layers e.base))) _ (ValueType.Int ∷ [])
      (ValueType.Slice (value_type e) ∷ []) (ValueType.Slice (value_type e) ∷ [])
      (new-any l few (layer.Slice ∷ e.layers) e.base refl)
      (turn-last types ft A _ (ValueType.Slice (value_type e) ∷ []) (ValueType.Slice (value_type e) ∷ [])
      (elements-turn l 0 e xs u none)))

  pub on-slice-literal : (l : ℕ) (w : Written) (xs : List Arg) → 0 < types.texts → (w.faults ≡ [] → IsKnown w.type)
      → (slice_literal l w (with_layer layer.Slice w.type) (judgeds xs)).faults ≡ []
      → Sh (slice_literal l w (with_layer layer.Slice w.type) (judgeds xs)).meaning
      (C.slice_literal l (with_layer layer.Slice w.type) (args-pieces xs))
  on-slice-literal l w xs few known none =
      let k = known (none-left w.faults _ none) in
      let rest = none-right w.faults _ none in
      let fits = subst (λ o. flat_map (λ v. broken l 9 (assignable v o)) (map given_by (judgeds xs)) ≡ []) k.1
      (none-right (flat_map (used l) (judgeds xs)) _ rest) in
      subst (λ o. Sh (operand.Value (with_layer layer.Slice o))
      (C.slice_literal l (with_layer layer.Slice o) (args-pieces xs))) (sym k.1)
      (slice-of-known l k.0 xs few (none-left (flat_map (used l) (judgeds xs)) _ rest) fits)
