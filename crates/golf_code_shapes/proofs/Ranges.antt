-- The code of a `range` leads on.
-- For: `statements_fit`, src/lib.rt
-- By: cases of what is ranged over, and of the names; no induction
use Rattle.std.proofs.Common.{◌≡◌, inl, inr, ℕ, ◌+◌, Bool, true, false, cond, not, ◌&&◌, List, [], ◌∷◌, ◌++◌, Some}
use Rattle.std.proofs.Common.{refl, sym, subst, slice_get, arith, pos, append-nil}
use Rattle.golf_theory.specs.Membership.{In, Every}
use Rattle.golf_theory.proofs.Lists.{Every-at, Every-from, Every-append}
use Rattle.golf_data.specs.declared.code.Instr.{Instr}
use Rattle.golf_syntax_trees.specs.declared.statements.RangeNames.{RangeNames}
use Rattle.golf_syntax_trees.specs.declared.statements.RangeNames.TheVariants as range
use Rattle.golf_check_types.specs.declared.types.Layer.{Layer}
use Rattle.golf_check_types.specs.declared.types.Layer.TheVariants as layer
use Rattle.golf_check_types.specs.declared.types.Base.{Base}
use Rattle.golf_check_types.specs.declared.types.Base.TheVariants as base
use Rattle.golf_check_types.specs.declared.types.GoType.{GoType}
use Rattle.golf_check_types.specs.declared.operands.Given.{Given}
use Rattle.golf_check_types.specs.declared.operands.Given.TheVariants as given_as
use Rattle.golf_check_types.specs.declared.scopes.Scope.{Scope}
use Rattle.golf_check_types.specs.Faults.{broken}
use Rattle.golf_check_types.specs.Types.{plain}
use Rattle.golf_check_types.specs.Names.{is_blank}
use Rattle.golf_check_types.specs.Statements as W
use Rattle.golf_check_types.specs.Statements.{behind, are_two, range_names_differ, range_faults, range_name, int_type}
use Rattle.golf_model_typing.specs.Types.{ValueType, Shape, FunctionTypes, Types}
use Rattle.golf_model_typing.specs.Shapes.{slot_types}
use Rattle.golf_code_layout.specs.Piece.{Piece, all, op}
use Rattle.golf_code_shapes.specs.Has.{shape, Has, Reaches}
use Rattle.golf_code_shapes.proofs.Pieces.{every-self, has-empty, has-op, has-then, has-weaker, has-exit, has-unless}
use Rattle.golf_code_shapes.proofs.Pieces.{has-block, has-again}
use Rattle.golf_code_of.specs.declared.tables.Tables.{Tables}
use Rattle.golf_code_of.specs.Loops.{slice_names, over_slice, channel_name, over_channel, behind_hidden, range_piece}
use Rattle.golf_code_shapes.specs.Types.{layers_type, value_type}
use Rattle.golf_code_shapes.specs.Sound.{LocalFits, ScopeFits, PushesGiven, Pushes}
use Rattle.golf_code_shapes.specs.StatementFlow.{Slotted}
use Rattle.golf_code_shapes.proofs.Typings.{none-left, none-right, kept}
use Rattle.golf_code_shapes.proofs.Flows.{then-in, locals-wider, scope-more, slotted-left, slotted-right}

module _ (types : Types) (t : Tables) (ft : FunctionTypes) where
  abbrev Fits : List ℕ → Scope → Type 0
  Fits = ScopeFits types t ft

  abbrev H : Piece → List ValueType → List ℕ → List ValueType → List ℕ → List Shape → Type 0
  H p ts A us B exits = Has types ft p (shape ts A) (shape us B) exits

  load : (l i : ℕ) (v : ValueType) (ts : List ValueType) (A : List ℕ) (exits : List Shape) → In i A
      → slice_get (slot_types ft) i ≡ Some v → H (op l (Instr.Load i)) ts A (v ∷ ts) A exits
  load l i v ts A exits inside typed = has-op types ft (Instr.Load i) l (shape ts A) (shape (v ∷ ts) A) exits
      (λ full k g. (v, inside, typed, (ts, refl, g)))

  -- into a slot that is new, and into one that is assigned already
  store : (l i : ℕ) (v : ValueType) (ts : List ValueType) (A : List ℕ) (exits : List Shape)
      → slice_get (slot_types ft) i ≡ Some v → H (op l (Instr.Store i)) (v ∷ ts) A ts (i ∷ A) exits
  store l i v ts A exits typed = has-op types ft (Instr.Store i) l (shape (v ∷ ts) A) (shape ts (i ∷ A)) exits
      (λ full k g. (v, ts, typed, refl, g))

  wide : (i : ℕ) (A : List ℕ) → Every (λ j. In j (i ∷ A)) A
  wide i A = Every-from (λ j. In j (i ∷ A)) A (λ j m. inr m)

  -- A name that is stored, or left out: the slots that are assigned then, and what is declared.
  pub record NameTaken (n : List ℕ) (v : GoType) (at : Scope) (A : List ℕ) (ts : List ValueType)
      (left_out stored : Piece) : Type 0 where
    pub slots : List ℕ
    pub more : Every (λ i. In i slots) A
    pub declares : Every (LocalFits types t ft slots) (range_name n (Some v) at).declares
    pub has : (exits : List Shape) → H (cond (is_blank n) left_out stored) ts A [] slots exits

  name-taken : (n : List ℕ) (v : GoType) (at : Scope) (A : List ℕ) (ts : List ValueType) (left_out stored : Piece)
      → Slotted ft at.next (range_name n (Some v) at).slots
      → ((exits : List Shape) → H left_out ts A [] A exits)
      → (slice_get (slot_types ft) at.next ≡ Some (value_type v) → (exits : List Shape)
      → H stored ts A [] (at.next ∷ A) exits) → NameTaken n v at A ts left_out stored
  name-taken n v at A ts left_out stored slots out put = by-blank (is_blank n) refl slots
    where
      by-blank : (b : Bool) → is_blank n ≡ b → Slotted ft at.next (W.one_new (not b) n (Some v) at).slots
          → NameTaken n v at A ts left_out stored
      by-blank true e h = record {
        slots = A;
        more = every-self A;
        declares = subst (λ b. Every (LocalFits types t ft A) (W.one_new (not b) n (Some v) at).declares) (sym e) tt;
        has = λ exits. subst (λ b. H (cond b left_out stored) ts A [] A exits) (sym e) (out exits);
      }
      by-blank false e h = record {
        slots = at.next ∷ A;
        more = wide at.next A;
        declares = subst (λ b. Every (LocalFits types t ft (at.next ∷ A)) (W.one_new (not b) n (Some v) at).declares)
            (sym e) ((v, refl, inl refl, h.0), tt);
        has = λ exits. subst (λ b. H (cond b left_out stored) ts A [] (at.next ∷ A) exits) (sym e) (put h.0 exits);
      }

  -- The names of a range over a slice, after the hidden slots.
  pub record NamesTaken (names : RangeNames) (e : GoType) (s : Scope) (A : List ℕ) (p : Piece) : Type 0 where
    pub slots : List ℕ
    pub more : Every (λ i. In i slots) A
    pub fits : Fits slots (behind s (W.range_names names true (Some e) s))
    pub has : (exits : List Shape) → H p [] A [] slots exits

  -- the hidden slots of a range over a slice are assigned: slot h has the slice, and slot h + 2 the index
  record Hidden (h : ℕ) (e : GoType) (A : List ℕ) : Type 0 where
    slice_in : In h A
    index_in : In (h + 2) A
    slice_typed : slice_get (slot_types ft) h ≡ Some (ValueType.Slice (value_type e))
    index_typed : slice_get (slot_types ft) (h + 2) ≡ Some ValueType.Int

  slice-names : (l h : ℕ) (names : RangeNames) (e : GoType) (s : Scope) (A : List ℕ) → Fits A s → Hidden h e A
      → Slotted ft s.next (W.range_names names true (Some e) s).slots → NamesTaken names e s A (slice_names l h names s)
  slice-names l h range.Neither e s A ok hidden slots = record {
    slots = A;
    more = every-self A;
    fits = record {
      file = ok.file;
      locals = subst (Every (LocalFits types t ft A))
          (sym (append-nil s.locals)) ok.locals;
      result = ok.result;
    };
    has = λ exits. has-empty types ft (shape [] A) exits;
  }
  slice-names l h (range.One n) e s A ok hidden slots =
      let x = name-taken n (plain base.Int) s A [] Piece.Empty
      (all (op l (Instr.Load (h + 2)) ∷ op l (Instr.Store s.next) ∷ [])) slots
      (λ exits. has-empty types ft (shape [] A) exits)
      (λ typed exits. has-then types ft _ _ (shape [] A) (shape (ValueType.Int ∷ []) A) (shape [] (s.next ∷ A)) exits
      (load l (h + 2) ValueType.Int [] A exits hidden.index_in hidden.index_typed)
      (has-then types ft _ Piece.Empty (shape (ValueType.Int ∷ []) A) (shape [] (s.next ∷ A))
      (shape [] (s.next ∷ A)) exits (store l s.next ValueType.Int [] A exits typed)
      (has-empty types ft (shape [] (s.next ∷ A)) exits))) in
      record {
        slots = x.slots;
        more = x.more;
        fits = record {
          file = ok.file;
          locals = Every-append (LocalFits types t ft x.slots) s.locals _
              (locals-wider types t ft A x.slots x.more s.locals ok.locals) x.declares;
          result = ok.result;
        };
        has = x.has;
      }
  slice-names l h (range.Two n m) e s A ok hidden slots =
      let v = range_name n int_type s in
      let s1 = behind s v in
      let w = range_name m (Some e) s1 in
      let x = name-taken n (plain base.Int) s A [] Piece.Empty
      (all (op l (Instr.Load (h + 2)) ∷ op l (Instr.Store s.next) ∷ []))
      (slotted-left types t ft s.next v.slots w.slots slots) (λ exits. has-empty types ft (shape [] A) exits)
      (λ typed exits. has-then types ft _ _ (shape [] A) (shape (ValueType.Int ∷ []) A) (shape [] (s.next ∷ A)) exits
      (load l (h + 2) ValueType.Int [] A exits hidden.index_in hidden.index_typed)
      (has-then types ft _ Piece.Empty (shape (ValueType.Int ∷ []) A) (shape [] (s.next ∷ A))
      (shape [] (s.next ∷ A)) exits (store l s.next ValueType.Int [] A exits typed)
      (has-empty types ft (shape [] (s.next ∷ A)) exits))) in
      let still : Hidden h e x.slots = record {
        slice_in = Every-at (λ j. In j x.slots) A h x.more hidden.slice_in;
        index_in = Every-at (λ j. In j x.slots) A (h + 2) x.more hidden.index_in;
        slice_typed = hidden.slice_typed;
        index_typed = hidden.index_typed;
      } in
      let y = name-taken m e s1 x.slots [] Piece.Empty
      (all (op l (Instr.Load h) ∷ op l (Instr.Load (h + 2)) ∷ op l Instr.Index ∷ op l (Instr.Store s1.next) ∷ []))
      (slotted-right types t ft s.next s1.next v.slots w.slots refl slots)
      (λ exits. has-empty types ft (shape [] x.slots) exits)
      (λ typed exits. element-stored l h s1.next e x.slots exits still typed) in
      let more = then-in A x.slots y.slots x.more y.more in
      record {
        slots = y.slots;
        more = more;
        fits = scope-more types t ft A y.slots s (W.range_names (range.Two n m) true (Some e) s) more ok
            (Every-append (LocalFits types t ft y.slots) v.declares w.declares
            (locals-wider types t ft x.slots y.slots y.more v.declares x.declares) y.declares);
        has = λ exits. has-then types ft _ _ (shape [] A) (shape [] x.slots) (shape [] y.slots) exits (x.has exits)
            (has-then types ft _ Piece.Empty (shape [] x.slots) (shape [] y.slots) (shape [] y.slots) exits
            (y.has exits) (has-empty types ft (shape [] y.slots) exits));
      }
    where
      element-stored : (l h i : ℕ) (e : GoType) (B : List ℕ) (exits : List Shape) → Hidden h e B
          → slice_get (slot_types ft) i ≡ Some (value_type e)
          → H (all (op l (Instr.Load h) ∷ op l (Instr.Load (h + 2)) ∷ op l Instr.Index ∷ op l (Instr.Store i) ∷ [])) []
          B [] (i ∷ B) exits
      element-stored l h i e B exits hidden typed =
          let sl = ValueType.Slice (value_type e) in
          let end = shape [] (i ∷ B) in
          has-then types ft _ _ (shape [] B) (shape (sl ∷ []) B) end exits
          (load l h sl [] B exits hidden.slice_in hidden.slice_typed)
          (has-then types ft _ _ (shape (sl ∷ []) B) (shape (ValueType.Int ∷ sl ∷ []) B) end exits
          (load l (h + 2) ValueType.Int (sl ∷ []) B exits hidden.index_in hidden.index_typed)
          (has-then types ft _ _ (shape (ValueType.Int ∷ sl ∷ []) B) (shape (value_type e ∷ []) B) end exits
          (has-op types ft Instr.Index l (shape (ValueType.Int ∷ sl ∷ []) B) (shape (value_type e ∷ []) B) exits
          (λ full k g. (value_type e, ([], refl, g))))
          (has-then types ft _ Piece.Empty (shape (value_type e ∷ []) B) end end exits
          (store l i (value_type e) [] B exits typed) (has-empty types ft end exits))))

  -- A loop over a slice in slots from h on: these have the types of the slice, its length and the index; the names take
  -- their slots, and the body keeps them.
  record SliceLoop (M : Type 0) (h : ℕ) (A : List ℕ) (p name_piece body : Piece) : Type 0 where
    element : GoType
    named : List ℕ
    slice_typed : slice_get (slot_types ft) h ≡ Some (ValueType.Slice (value_type element))
    length_typed : slice_get (slot_types ft) (h + 1) ≡ Some ValueType.Int
    index_typed : slice_get (slot_types ft) (h + 2) ≡ Some ValueType.Int
    pushes : Pushes types ft A p (ValueType.Slice (value_type element))
    more : Every (λ i. In i named) ((h + 2) ∷ (h + 1) ∷ h ∷ A)
    names_have : (exits : List Shape) → H name_piece [] ((h + 2) ∷ (h + 1) ∷ h ∷ A) [] named exits
    body_has : (E : List Shape) → Reaches E [] named 2 → Reaches E [] named 0 → H body [] named [] named E × M

  -- the loop over a slice
  slice-loop : (M : Type 0) (l h : ℕ) (A : List ℕ) (p name_piece body : Piece) (exits : List Shape)
      → SliceLoop M h A p name_piece body → H (over_slice l h p name_piece body) [] A [] A exits × M
  slice-loop M l h A p name_piece body exits loop =
      let e = loop.element in
      let B = loop.named in
      let more = loop.more in
      let typedh = loop.slice_typed in
      let typedn = loop.length_typed in
      let typedk = loop.index_typed in
      let sl = ValueType.Slice (value_type e) in
      let A1 = h ∷ A in
      let A2 = (h + 1) ∷ h ∷ A in
      let A3 = (h + 2) ∷ (h + 1) ∷ h ∷ A in
      let inh : In h A3 = inr (inr (inl refl)) in
      let inn : In (h + 1) A3 = inr (inl refl) in
      let ink : In (h + 2) A3 = inl refl in
      let sh = shape [] A3 in
      let F : List Shape = sh ∷ sh ∷ exits in
      let end = shape [] A in
      let back : Every (λ j. In j A3) A = then-in A A1 A3 (wide h A)
      (then-in A1 A2 A3 (wide (h + 1) A1) (wide (h + 2) A2)) in
      let block_shape = shape [] B in
      let E : List Shape = sh ∷ F in
      let b = loop.body_has E (A3, refl, more) (A3, refl, more) in (
        has-then types ft p _ end (shape (sl ∷ []) A) end exits (loop.pushes [] exits)
            (has-then types ft _ _ (shape (sl ∷ []) A) (shape [] A1) end exits (store l h sl [] A exits typedh)
            (has-then types ft _ _ (shape [] A1) (shape (sl ∷ []) A1) end exits
            (load l h sl [] A1 exits (inl refl) typedh)
            (has-then types ft _ _ (shape (sl ∷ []) A1) (shape (ValueType.Int ∷ []) A1) end exits
            (has-op types ft Instr.Len l (shape (sl ∷ []) A1) (shape (ValueType.Int ∷ []) A1) exits
            (λ full k g. (sl, value_type e, inl refl, ([], refl, g))))
            (has-then types ft _ _ (shape (ValueType.Int ∷ []) A1) (shape [] A2) end exits
            (store l (h + 1) ValueType.Int [] A1 exits typedn)
            (has-then types ft _ _ (shape [] A2) (shape (ValueType.Int ∷ []) A2) end exits
            (has-op types ft (Instr.Int (pos 0)) l (shape [] A2) (shape (ValueType.Int ∷ []) A2) exits
            (λ full k g. ([], refl, g)))
            (has-then types ft _ _ (shape (ValueType.Int ∷ []) A2) sh end exits
            (store l (h + 2) ValueType.Int [] A2 exits typedk)
            (has-then types ft _ Piece.Empty sh end end exits
            (has-weaker types ft _ sh [] A A3 exits back
            (has-block types ft _ sh sh exits (has-again types ft _ sh sh (sh ∷ exits)
            (has-then types ft _ _ sh (shape (ValueType.Int ∷ []) A3) sh F
            (load l (h + 2) ValueType.Int [] A3 F ink typedk)
            (has-then types ft _ _ (shape (ValueType.Int ∷ []) A3) (shape (ValueType.Int ∷ ValueType.Int ∷ []) A3) sh F
            (load l (h + 1) ValueType.Int (ValueType.Int ∷ []) A3 F inn typedn)
            (has-then types ft _ _ (shape (ValueType.Int ∷ ValueType.Int ∷ []) A3) (shape (ValueType.Bool ∷ []) A3) sh F
            (has-op types ft Instr.Less l (shape (ValueType.Int ∷ ValueType.Int ∷ []) A3)
            (shape (ValueType.Bool ∷ []) A3) F (λ full k g. ([], refl, g)))
            (has-then types ft _ _ (shape (ValueType.Bool ∷ []) A3) sh sh F
            (has-unless types ft l 1 [] A3 F (A3, refl, every-self A3))
            (has-then types ft name_piece _ sh block_shape sh F (loop.names_have F)
            (has-then types ft (Piece.Block body) _ block_shape sh sh F
            (has-block types ft body block_shape sh F (has-weaker types ft body block_shape [] A3 B E more b.0))
            (has-then types ft _ _ sh (shape (ValueType.Int ∷ []) A3) sh F
            (load l (h + 2) ValueType.Int [] A3 F ink typedk)
            (has-then types ft _ _ (shape (ValueType.Int ∷ []) A3) (shape (ValueType.Int ∷ ValueType.Int ∷ []) A3) sh F
            (has-op types ft (Instr.Int (pos 1)) l (shape (ValueType.Int ∷ []) A3)
            (shape (ValueType.Int ∷ ValueType.Int ∷ []) A3) F (λ full k g. (ValueType.Int ∷ [], refl, g)))
            (has-then types ft _ _ (shape (ValueType.Int ∷ ValueType.Int ∷ []) A3) (shape (ValueType.Int ∷ []) A3) sh F
            (has-op types ft Instr.Add l (shape (ValueType.Int ∷ ValueType.Int ∷ []) A3)
            (shape (ValueType.Int ∷ []) A3) F (λ full k g. ([], refl, g)))
            (has-then types ft _ _ (shape (ValueType.Int ∷ []) A3) sh sh F
            (has-weaker types ft _ (shape (ValueType.Int ∷ []) A3) [] A3 ((h + 2) ∷ A3) F (wide (h + 2) A3)
            (store l (h + 2) ValueType.Int [] A3 F typedk))
            (has-then types ft (Piece.Exit l 0) Piece.Empty sh sh sh F
            (has-exit types ft l 0 [] A3 sh F (A3, refl, every-self A3)) (has-empty types ft sh F)))))))))))))))
            (has-empty types ft end exits)))))))),
        b.1,
      )

  -- A loop over a channel in slot h, which has its type: what is received takes its slot, and the body keeps it.
  record ChannelLoop (M : Type 0) (h : ℕ) (A : List ℕ) (p name_piece body : Piece) : Type 0 where
    element : GoType
    named : List ℕ
    channel_typed : slice_get (slot_types ft) h ≡ Some (ValueType.Chan (value_type element))
    pushes : Pushes types ft A p (ValueType.Chan (value_type element))
    more : Every (λ i. In i named) (h ∷ A)
    names_have : (exits : List Shape) → H name_piece (value_type element ∷ []) (h ∷ A) [] named exits
    body_has : (E : List Shape) → Reaches E [] named 2 → Reaches E [] named 0 → H body [] named [] named E × M

  -- the loop over a channel: what a closed one gives is dropped after the loop
  channel-loop : (M : Type 0) (l h : ℕ) (A : List ℕ) (p name_piece body : Piece) (exits : List Shape)
      → ChannelLoop M h A p name_piece body → H (over_channel l h p name_piece body) [] A [] A exits × M
  channel-loop M l h A p name_piece body exits loop =
      let e = loop.element in
      let B = loop.named in
      let more = loop.more in
      let typedh = loop.channel_typed in
      let ch = ValueType.Chan (value_type e) in
      let A1 = h ∷ A in
      let sh = shape [] A1 in
      let end = shape [] A in
      let left = shape (value_type e ∷ []) A1 in
      let D : List Shape = sh ∷ exits in
      let E : List Shape = sh ∷ left ∷ sh ∷ exits in
      let b = loop.body_has E (A1, refl, more) (A1, refl, more) in (
        has-then types ft p _ end (shape (ch ∷ []) A) end exits (loop.pushes [] exits)
            (has-then types ft _ _ (shape (ch ∷ []) A) sh end exits (store l h ch [] A exits typedh)
            (has-then types ft _ Piece.Empty sh end end exits
            (has-weaker types ft _ sh [] A A1 exits (wide h A)
            (has-block types ft _ sh sh exits
            (has-then types ft _ _ sh left sh D
            (has-block types ft _ sh left D (has-again types ft _ sh left (left ∷ D)
            (has-then types ft _ _ sh (shape (ch ∷ []) A1) left E (load l h ch [] A1 E (inl refl) typedh)
            (has-then types ft _ _ (shape (ch ∷ []) A1) (shape (ValueType.Bool ∷ value_type e ∷ []) A1) left E
            (has-op types ft Instr.ReceiveOk l (shape (ch ∷ []) A1)
            (shape (ValueType.Bool ∷ value_type e ∷ []) A1) E (λ full k g. (value_type e, ([], refl, g))))
            (has-then types ft _ _ (shape (ValueType.Bool ∷ value_type e ∷ []) A1) left left E
            (has-unless types ft l 1 (value_type e ∷ []) A1 E (A1, refl, every-self A1))
            (has-then types ft name_piece _ left (shape [] B) left E (loop.names_have E)
            (has-then types ft body _ (shape [] B) (shape [] B) left E b.0
            (has-then types ft (Piece.Exit l 0) Piece.Empty (shape [] B) left left E
            (has-exit types ft l 0 [] B left E (A1, refl, more)) (has-empty types ft left E)))))))))
            (has-then types ft _ Piece.Empty left sh sh D
            (has-op types ft Instr.Drop l left sh D (λ full k g. (value_type e, ([], refl, g))))
            (has-empty types ft sh D)))))
            (has-empty types ft end exits))),
        b.1,
      )

  -- what is known of the body, wherever it is laid
  abbrev BodyFits : Type 0 → RangeNames → Given → Scope → Piece → Type 0
  BodyFits M names g s body = (B : List ℕ) (E : List Shape) → Fits B (behind s (W.range_slots names g s))
      → Reaches E [] B 2 → Reaches E [] B 0 → H body [] B [] B E × M

  -- a range over what is given stands in this scope: the scope fits, the slots of the range have their types, and the
  -- body has its shape
  pub record RangeFits (M : Type 0) (names : RangeNames) (g : Given) (s : Scope) (body : Piece)
      (A : List ℕ) : Type 0 where
    pub scope_fits : Fits A s
    pub slots : Slotted ft s.next (W.range_slots names g s).slots
    pub body_fits : BodyFits M names g s body

  drops : (l : ℕ) (v : ValueType) (A : List ℕ) (exits : List Shape) → H (op l Instr.Drop) (v ∷ []) A [] A exits
  drops l v A exits = has-op types ft Instr.Drop l (shape (v ∷ []) A) (shape [] A) exits
      (λ full k g. (v, ([], refl, g)))

  over-known-slice : {M : Type 0} {names : RangeNames} {s : Scope} {body : Piece} {A : List ℕ} (l : ℕ) (ys : List Layer)
      (b : Base) (p : Piece) (exits : List Shape)
      → RangeFits M names (given_as.Typed (record { layers = layer.Slice ∷ ys; base = b })) s body A
      → Pushes types ft A p (layers_type (layer.Slice ∷ ys) b)
      → H (range_piece l names (given_as.Typed (record { layers = layer.Slice ∷ ys; base = b })) p s body) [] A [] A
      exits × M
  over-known-slice {M} {names} {s} {body} {A} l ys b p exits fit hp =
      let ok = fit.scope_fits in
      let slots = fit.slots in
      let g = given_as.Typed (record { layers = layer.Slice ∷ ys; base = b }) in
      let e : GoType = record { layers = ys; base = b } in
      let h = s.next in
      let s1 = behind_hidden g s in
      let A3 = (h + 2) ∷ (h + 1) ∷ h ∷ A in
      let typedn = subst (λ k. slice_get (slot_types ft) k ≡ Some ValueType.Int)
      (let q : h + 1 ≡ h + 1 = refl in q) slots.1.0 in
      let typedk = subst (λ k. slice_get (slot_types ft) k ≡ Some ValueType.Int)
      (let q : h + 1 + 1 ≡ h + 2 = omega arith in q) slots.1.1.0 in
      let back : Every (λ j. In j A3) A = then-in A (h ∷ A) A3 (wide h A)
      (then-in (h ∷ A) ((h + 1) ∷ h ∷ A) A3 (wide (h + 1) (h ∷ A)) (wide (h + 2) ((h + 1) ∷ h ∷ A))) in
      let known : Fits A3 s1 = record {
        file = ok.file;
        locals = subst (Every (LocalFits types t ft A3)) (sym (append-nil s.locals))
            (locals-wider types t ft A A3 back s.locals ok.locals);
        result = ok.result;
      } in
      let later = subst (λ k. Slotted ft k (W.range_names names true (Some e) s1).slots)
      (let q : h + 1 + 1 + 1 ≡ s1.next = omega arith in q) slots.1.1.1 in
      let n = slice-names l h names e s1 A3 known
      (record { slice_in = inr (inr (inl refl)); index_in = inl refl; slice_typed = slots.0; index_typed = typedk })
      later in
      slice-loop M l h A p (slice_names l h names s1) body exits (record {
        element = e;
        named = n.slots;
        slice_typed = slots.0;
        length_typed = typedn;
        index_typed = typedk;
        pushes = hp;
        more = n.more;
        names_have = n.has;
        body_has = λ E r2 r0. fit.body_fits n.slots E
            (record {
              file = ok.file;
              locals = subst
                  (λ ls. Every (LocalFits types t ft n.slots) (ls ++ (W.range_names names true (Some e) s1).declares))
                  (append-nil s.locals) n.fits.locals;
              result = ok.result;
            }) r2 r0;
      })

  -- the name of a range over a channel
  channel-names : (l : ℕ) (names : RangeNames) (e : GoType) (s : Scope) (A : List ℕ) → are_two names ≡ false → Fits A s
      → Slotted ft s.next (W.range_names names false (Some e) s).slots
      → (B : List ℕ) × Every (λ i. In i B) A × Fits B (behind s (W.range_names names false (Some e) s))
      × ((exits : List Shape) → H (channel_name l names s) (value_type e ∷ []) A [] B exits)
  channel-names l range.Neither e s A two ok slots = (
    A,
    every-self A,
    record {
      file = ok.file;
      locals = subst (Every (LocalFits types t ft A)) (sym (append-nil s.locals)) ok.locals;
      result = ok.result;
    },
    λ exits. drops l (value_type e) A exits,
  )
  channel-names l (range.One n) e s A two ok slots =
      let x = name-taken n e s A (value_type e ∷ []) (op l Instr.Drop) (op l (Instr.Store s.next)) slots
      (λ exits. drops l (value_type e) A exits) (λ typed exits. store l s.next (value_type e) [] A exits typed) in (
        x.slots,
        x.more,
        record {
          file = ok.file;
          locals = Every-append (LocalFits types t ft x.slots) s.locals _
              (locals-wider types t ft A x.slots x.more s.locals ok.locals) x.declares;
          result = ok.result;
        },
        x.has,
      )
  channel-names l (range.Two n m) e s A two ok slots = cc

  -- over a value of this type, which is a channel that can be received from
  abbrev OverChannel : Type 0 → ℕ → RangeNames → Layer → List Layer → Base → Type 0
  OverChannel M l names x ys b = (p : Piece) (s : Scope) (body : Piece) (A : List ℕ) (exits : List Shape)
      → RangeFits M names (given_as.Typed (record { layers = x ∷ ys; base = b })) s body A
      → Pushes types ft A p (ValueType.Chan (layers_type ys b))
      → H (range_piece l names (given_as.Typed (record { layers = x ∷ ys; base = b })) p s body) [] A [] A exits × M

  over-chan : (M : Type 0) (l : ℕ) (names : RangeNames) (ys : List Layer) (b : Base) → are_two names ≡ false
      → OverChannel M l names layer.Chan ys b
  over-chan M l names ys b two p s body A exits fit hp =
      let ok = fit.scope_fits in
      let slots = fit.slots in
      let g = given_as.Typed (record { layers = layer.Chan ∷ ys; base = b }) in
      let e : GoType = record { layers = ys; base = b } in
      let A1 = s.next ∷ A in
      let s1 = behind_hidden g s in
      let known : Fits A1 s1 = record {
        file = ok.file;
        locals = subst (Every (LocalFits types t ft A1)) (sym (append-nil s.locals))
            (locals-wider types t ft A A1 (wide s.next A) s.locals ok.locals);
        result = ok.result;
      } in
      let n = channel-names l names e s1 A1 two known slots.1 in
      channel-loop M l s.next A p (channel_name l names s1) body exits (record {
        element = e;
        named = n.0;
        channel_typed = slots.0;
        pushes = hp;
        more = n.1;
        names_have = n.3;
        body_has = λ E r2 r0. fit.body_fits n.0 E
            (record {
              file = ok.file;
              locals = subst
                  (λ ls. Every (LocalFits types t ft n.0) (ls ++ (W.range_names names false (Some e) s1).declares))
                  (append-nil s.locals) n.2.locals;
              result = ok.result;
            }) r2 r0;
      })

  over-receive-chan : (M : Type 0) (l : ℕ) (names : RangeNames) (ys : List Layer) (b : Base) → are_two names ≡ false
      → OverChannel M l names layer.ReceiveChan ys b
  over-receive-chan M l names ys b two p s body A exits fit hp = over-chan M l names ys b two p s body A exits
      (record { scope_fits = fit.scope_fits; slots = fit.slots; body_fits = fit.body_fits }) hp

  one-name : (names : RangeNames) → not (are_two names && true) ≡ true → are_two names ≡ false
  one-name range.Neither e = refl
  one-name (range.One n) e = refl
  one-name (range.Two n m) e = cc

  over-typed : {M : Type 0} {names : RangeNames} {s : Scope} {body : Piece} {A : List ℕ} (l : ℕ) (xs : List Layer)
      (b : Base) (p : Piece) (exits : List Shape)
      → RangeFits M names (given_as.Typed (record { layers = xs; base = b })) s body A
      → range_faults l names (given_as.Typed (record { layers = xs; base = b })) ≡ []
      → Pushes types ft A p (layers_type xs b)
      → H (range_piece l names (given_as.Typed (record { layers = xs; base = b })) p s body) [] A [] A exits × M
  over-typed {M} {names} {s} {body} {A} l [] b p exits fit none hp = let e : false ≡ true =
      kept l 17 false (none-right (broken l 16 true) (broken l 17 false)
      (none-right (broken l 2 (range_names_differ names)) _ none)) in cc
  over-typed {M} {names} {s} {body} {A} l (layer.Slice ∷ ys) b p exits fit none hp =
      over-known-slice l ys b p exits fit hp
  over-typed {M} {names} {s} {body} {A} l (layer.Chan ∷ ys) b p exits fit none hp =
      over-chan M l names ys b (one-name names
      (kept l 17 _ (none-right (broken l 16 true) _ (none-right (broken l 2 _) _ none)))) p s body A exits fit hp
  over-typed {M} {names} {s} {body} {A} l (layer.ReceiveChan ∷ ys) b p exits fit none hp =
      over-receive-chan M l names ys b (one-name names
      (kept l 17 _ (none-right (broken l 16 true) _ (none-right (broken l 2 _) _ none)))) p s body A exits fit hp
  over-typed {M} {names} {s} {body} {A} l (layer.SendChan ∷ ys) b p exits fit none hp = let e : false ≡ true =
      kept l 16 false (none-left (broken l 16 false) _ (none-right (broken l 2 _) _ none)) in cc

  -- a `range` over what is given
  pub over-given : {M : Type 0} {names : RangeNames} {s : Scope} {body : Piece} {A : List ℕ} (l : ℕ) (g : Given)
      (p : Piece) (exits : List Shape) → RangeFits M names g s body A → range_faults l names g ≡ []
      → PushesGiven types t ft A s.file g p
      → H (range_piece l names g p s body) [] A [] A exits × M
  over-given {M} {names} {s} {body} {A} l (given_as.Typed a) p exits fit none h =
      over-typed l a.layers a.base p exits fit none h
  over-given {M} {names} {s} {body} {A} l given_as.Nil p exits fit none h = let e : false ≡ true =
      kept l 17 false (none-right (broken l 16 true) (broken l 17 false)
      (none-right (broken l 2 (range_names_differ names)) _ none)) in cc
  over-given {M} {names} {s} {body} {A} l given_as.Unknown p exits fit none h = absurd h
