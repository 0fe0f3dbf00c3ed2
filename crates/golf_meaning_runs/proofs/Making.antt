-- What literals, `make` and `new` give.
-- For: `expressions_fit`, src/lib.rt; `puts`, golf_meaning_source/specs/Exprs.antt
-- By: induction over the list of fields or elements of a literal; cases of the type
use Rattle.std.proofs.Common.{◌≡◌, ℕ, ◌+◌, true, List, [], ◌∷◌, ◌++◌, length, Option, Some, None}
use Rattle.std.proofs.Common.{refl, sym, subst, arith}
use Rattle.std.specs.Prelude.{is_some}
use Rattle.golf_data.specs.declared.value.Value.{Value}
use Rattle.golf_data.specs.declared.code.Instr.{Instr}
use Rattle.golf_check_types.specs.declared.types.Layer.{Layer}
use Rattle.golf_check_types.specs.declared.types.Layer.TheVariants as layer
use Rattle.golf_check_types.specs.declared.types.Base.{Base}
use Rattle.golf_check_types.specs.declared.types.Base.TheVariants as base
use Rattle.golf_check_types.specs.declared.types.GoType.{GoType}
use Rattle.golf_check_types.specs.declared.operands.Operand.{Operand}
use Rattle.golf_check_types.specs.declared.operands.Operand.TheVariants as operand
use Rattle.golf_check_types.specs.declared.scopes.FileScope.{FileScope}
use Rattle.golf_check_types.specs.Types.{plain, given, has_layer, is_channel, is_any, starts_with}
use Rattle.golf_check_types.specs.Written.{made_base, pointer_to}
use Rattle.golf_model_typing.specs.Types.{ValueType}
use Rattle.golf_data.specs.Effects.{taken}
use Rattle.golf_code_of.specs.Values.{type_zero}
use Rattle.golf_check_types.specs.Expressions.{field_place}
use Rattle.golf_code_shapes.specs.Types.{layers_type, value_type}
use Rattle.golf_code_shapes.proofs.Chosen.{IsMade, is-made}
use Rattle.golf_meaning_flat.specs.Worlds.{World, Part, bind}
use Rattle.golf_meaning_source.specs.Operations.{Taking, Gives, gives, both, visible}
use Rattle.golf_meaning_source.specs.Exprs as X
use Rattle.golf_meaning_source.specs.Exprs.{if_none, one_reference, puts_in, puts, elements, new_struct, new_sync}
use Rattle.golf_meaning_source.specs.Exprs.{int_value}
use Rattle.golf_meaning_runs.specs.Sound.{SoundPart, One, Yields, IsOf}
use Rattle.golf_meaning_runs.specs.Meets.{Many}
use Rattle.golf_meaning_runs.proofs.Calculus.{sound-bind, Leaves}
use Rattle.golf_meaning_runs.proofs.Counts.{many-both, none-left-over, one-left, EachOne}

-- a pointer to a struct of the file
abbrev IsStruct : Option Base → Type 0
IsStruct b = (k : ℕ) × (b ≡ Some (base.Pointer k))

is-struct : (o : Option Operand) → is_some (pointer_to o) ≡ true → IsStruct (pointer_to o)
is-struct (Some (operand.Struct k)) e = (k, refl)
is-struct _ e = cc

is-any : (xs : List Layer) → starts_with is_channel xs ≡ true → starts_with is_any xs ≡ true
is-any [] e = cc
is-any (x ∷ xs) e = refl

module _ (taking : Taking) where
  -- a value that is put in leaves the reference
  puts-once : (u : ValueType) (i : Instr) (p : Value) (e : Gives) (more : List Value) → IsOf taking u p
      → Many taking 1 e → Leaves taking i 0 → ((n : ℕ) → n ≡ length ((p ∷ []) ++ more) + 1 → n ≡ taken i)
      → Yields taking u (puts_in taking i (p ∷ []) e more)
  puts-once u i p e more held h many takes w =
      sound-bind taking (both (gives ((p ∷ []) ++ more)) e w)
      (λ us v. bind (visible taking i [] us v) (λ xs x. if_none xs x (Part.Gives (p ∷ []) x)))
      (λ us. length us ≡ length ((p ∷ []) ++ more) + 1) (One taking u)
      (many-both taking (length ((p ∷ []) ++ more)) 1 (gives ((p ∷ []) ++ more)) e (λ x. refl) h w)
      (λ us v len. sound-bind taking (visible taking i [] us v) (λ xs x. if_none xs x (Part.Gives (p ∷ []) x))
      (λ xs. length xs ≡ 0) (One taking u) (none-left-over taking i us (takes (length us) len) many v) (left held))
    where
      left : IsOf taking u p → (xs : List Value) (x : World) → length xs ≡ 0
          → SoundPart taking (One taking u) (if_none xs x (Part.Gives (p ∷ []) x))
      left q [] x len = q
      left q (y ∷ xs) x len = absurd (omega (arith, len))

  -- one reference goes through
  through : (u : ValueType) (ps : List Value) (f : List Value → Gives) → One taking u ps
      → ((p : Value) → IsOf taking u p → Yields taking u (one_reference (p ∷ []) (f (p ∷ []))))
      → Yields taking u (one_reference ps (f ps))
  through u [] f h k = absurd h
  through u (p ∷ []) f h k = k p h
  through u (p ∷ (q ∷ ps)) f h k = absurd h

  pub puts-yield : (u : ValueType) (f : FileScope) (b : Option Base) (ns : List (List ℕ)) (es : List Gives)
      → EachOne taking es → (ps : List Value) → One taking u ps → Yields taking u (puts taking f b ns es ps)
  puts-yield u f b [] es all ps h w = h
  puts-yield u f b (n ∷ ns) [] all ps h w = h
  puts-yield u f b (n ∷ ns) (e ∷ es) all ps h w =
      sound-bind taking (one_reference ps (puts_in taking (Instr.SetField (field_place f b n)) ps e []) w)
      (puts taking f b ns es) (One taking u) (One taking u)
      (through u ps (λ qs. puts_in taking (Instr.SetField (field_place f b n)) qs e []) h
      (λ p q. puts-once u (Instr.SetField (field_place f b n)) p e [] q all.0 (λ k. refl) (λ m is. is)) w)
      (λ qs v q. puts-yield u f b ns es all.1 qs q v)

  pub elements-yield : (u : ValueType) (i : ℕ) (es : List Gives) → EachOne taking es → (ps : List Value)
      → One taking u ps → Yields taking u (elements taking i es ps)
  elements-yield u i [] all ps h w = h
  elements-yield u i (e ∷ es) all ps h w =
      sound-bind taking (one_reference ps (puts_in taking Instr.SetIndex ps e (int_value i ∷ [])) w)
      (elements taking (i + 1) es) (One taking u) (One taking u)
      (through u ps (λ qs. puts_in taking Instr.SetIndex qs e (int_value i ∷ [])) h
      (λ p q. puts-once u Instr.SetIndex p e (int_value i ∷ []) q all.0 (λ k. refl) (λ m is. is)) w)
      (λ qs v q. elements-yield u (i + 1) es all.1 qs q v)

  -- `new` of a struct

  -- what is given as this pointer
  abbrev pub Pointed : Option Base → Gives → Type 0
  Pointed None v = ⊥
  Pointed (Some b) v = Yields taking (value_type (plain b)) v

  pub new-yields : (o : Option Operand) → is_some (pointer_to o) ≡ true
      → Pointed (pointer_to o) (new_struct taking (pointer_to o))
  new-yields o e = let k = is-struct o e in subst (λ b. Pointed b (new_struct taking b)) (sym k.1)
      (one-left taking (Instr.NewStruct k.0) (plain (base.Pointer k.0)) [] refl (λ n. refl))

  pub literal-yields : (f : FileScope) (o : Option Operand) (names : List (List ℕ)) (es : List Gives)
      → is_some (pointer_to o) ≡ true → EachOne taking es
      → Pointed (pointer_to o) (X.struct_literal taking f (pointer_to o) names es)
  literal-yields f o names es e all = let k =
      is-struct o e in subst (λ b. Pointed b (X.struct_literal taking f b names es)) (sym k.1)
      (λ w. sound-bind taking (new_struct taking (Some (base.Pointer k.0)) w)
      (puts taking f (Some (base.Pointer k.0)) names es) (One taking (ValueType.Struct k.0))
      (One taking (ValueType.Struct k.0)) (one-left taking (Instr.NewStruct k.0) (plain (base.Pointer k.0)) [] refl
      (λ n. refl) w)
      (λ ps v h. puts-yield (ValueType.Struct k.0) f (Some (base.Pointer k.0)) names es all ps h v))

  -- `new` and literals of package sync

  makes-sync : (b : Option Base) → ((c : Base) → b ≡ Some c → IsMade c) → is_some b ≡ true
      → Pointed b (new_sync taking b)
  makes-sync None which e = cc
  makes-sync (Some base.Mutex) which e = one-left taking Instr.NewMutex (plain base.Mutex) [] refl (λ k. refl)
  makes-sync (Some base.Group) which e = one-left taking Instr.NewGroup (plain base.Group) [] refl (λ k. refl)
  makes-sync (Some base.ReadWriteMutex) which e =
      one-left taking Instr.NewRw (plain base.ReadWriteMutex) [] refl (λ k. refl)
  makes-sync (Some b) which e = absurd (which b refl)

  pub sync-yields : (n : List ℕ) → is_some (made_base n) ≡ true → Pointed (made_base n) (new_sync taking (made_base n))
  sync-yields n e = makes-sync (made_base n) (is-made n) e

  -- slices and channels

  pub container-yields : (xs : List Layer) (b : Base) (vs : List Value) → starts_with is_any xs ≡ true → length vs ≡ 1
      → Yields taking (layers_type xs b) (X.made taking (Some (record { layers = xs; base = b })) vs)
  container-yields [] b vs e len = cc
  container-yields (layer.Slice ∷ xs) b vs e len =
      one-left taking (Instr.NewSlice (type_zero xs b)) (record { layers = layer.Slice ∷ xs; base = b }) vs len
      (λ k. refl)
  container-yields (x ∷ xs) b vs e len =
      one-left taking (Instr.NewChan (type_zero xs b)) (record { layers = x ∷ xs; base = b }) vs len (λ k. refl)

  pub made-yields : (e : GoType) (vs : List Value) → has_layer is_channel (given (operand.Value (Some e))) ≡ true
      → length vs ≡ 1 → Yields taking (value_type e) (X.made taking (Some e) vs)
  made-yields e vs holds len = container-yields e.layers e.base vs (is-any e.layers holds) len

  pub sized-yields : (e : GoType) (vs : List Value) → has_layer is_any (given (operand.Value (Some e))) ≡ true
      → length vs ≡ 1 → Yields taking (value_type e) (X.made taking (Some e) vs)
  sized-yields e vs holds len = container-yields e.layers e.base vs holds len

  pub slice-yields : (e : GoType) (es : List Gives) → EachOne taking es
      → Yields taking (value_type (record { layers = layer.Slice ∷ e.layers; base = e.base }))
      (X.slice_literal taking (Some (record { layers = layer.Slice ∷ e.layers; base = e.base })) es)
  slice-yields e es all w = sound-bind taking
      (X.made taking (Some (record { layers = layer.Slice ∷ e.layers; base = e.base })) (int_value (length es) ∷ []) w)
      (elements taking 0 es) (One taking (ValueType.Slice (value_type e))) (One taking (ValueType.Slice (value_type e)))
      (container-yields (layer.Slice ∷ e.layers) e.base (int_value (length es) ∷ []) refl refl w)
      (λ ps v h. elements-yield (ValueType.Slice (value_type e)) 0 es all ps h v)
