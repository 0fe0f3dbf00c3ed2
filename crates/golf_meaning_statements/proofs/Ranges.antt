-- The code of a range over a slice or a channel does what the range does; hidden slots hold its state.
-- For: `ranging`, golf_meaning_statements/specs/Steps.antt.
-- By: induction over n, the turns that are left; cases of the names that are declared or stored to.
use Rattle.std.proofs.Common.{◌≡◌, ℕ, zero, suc, ◌+◌, ◌<◌, ◌≤◌, pos, Bool, true, false, not, cond, List, [], ◌∷◌, ◌++◌}
use Rattle.std.proofs.Common.{length, take, Option, Some, None, refl, ap, sym, ◌∙◌, subst, slice_get, slice_set, arith}
use Rattle.std.proofs.Common.{append-nil, append_assoc, length-append}
use Rattle.std.specs.Prelude.{int_lt}
use Rattle.std.proofs.lemmas.List.{length-set}
use Rattle.std.proofs.lemmas.Option.{slice_get_within}
use Rattle.golf_syntax_trees.specs.declared.expressions.Expr.{Expr}
use Rattle.golf_syntax_trees.specs.declared.statements.Header.TheVariants as header
use Rattle.golf_syntax_trees.specs.declared.statements.RangeNames.{RangeNames}
use Rattle.golf_syntax_trees.specs.declared.statements.RangeNames.TheVariants as range
use Rattle.golf_data.specs.declared.value.Value.{Value}
use Rattle.golf_data.specs.declared.code.Instr.{Instr}
use Rattle.golf_model.specs.Values.{bool_of}
use Rattle.golf_model.specs.Arithmetic.{sum}
use Rattle.golf_check_types.specs.declared.types.GoType.{GoType}
use Rattle.golf_check_types.specs.declared.locals.Local.{Local}
use Rattle.golf_check_types.specs.declared.scopes.Scope.{Scope}
use Rattle.golf_check_types.specs.Scopes.{begun, variable}
use Rattle.golf_check_types.specs.Names.{is_blank}
use Rattle.golf_check_types.specs.Types.{is_slice, element, type_given}
use Rattle.golf_check_types.specs.Expressions.{given_by}
use Rattle.golf_check_types.specs.Judgments.{judge_at}
use Rattle.golf_check_types.specs.Statements as W
use Rattle.golf_check_types.specs.Statements.{behind, is_outer, hides, hidden, range_names, int_type}
use Rattle.golf_code_layout.specs.Piece.{Piece, all, op, size}
use Rattle.golf_code_of.specs.declared.surroundings.Around.{Around}
use Rattle.golf_code_of.specs.declared.tables.Tables.{Tables}
use Rattle.golf_code_of.specs.ExpressionCode.{piece_at}
use Rattle.golf_code_of.specs.Loops as O
use Rattle.golf_meaning_flat.specs.Worlds as V
use Rattle.golf_meaning_flat.specs.Worlds.{Halt, World, Operation, halted, bind, pushed}
use Rattle.golf_meaning_flat.proofs.Halting.{said, said-as}
use Rattle.golf_meaning_flat.specs.InstructionEffects.{Frame, on_kind, computed, compared}
use Rattle.golf_meaning_flat.specs.Structured.{PieceExit, from_part, then_way, unless_true, out_of, once_more, rounds}
use Rattle.golf_meaning_flat.specs.Structured.{run}
use Rattle.golf_meaning_source.specs.Names.{Env}
use Rattle.golf_meaning_source.specs.Operations.{Taking, visible}
use Rattle.golf_meaning_source.specs.Exprs.{int_value}
use Rattle.golf_meaning_source.specs.Does.{frame, Sim, OnTop, Stored, SlotsRise, Apart, Kept, Known}
use Rattle.golf_meaning_source.proofs.Turning.{turn-visible, tail-then, tail-end, then-end}
use Rattle.golf_meaning_source.proofs.Environments.{set-other, set-same, stored-below}
use Rattle.golf_meaning_statements.specs.Flows.{Course, Flow, after, cut, by_test, turned}
use Rattle.golf_meaning_statements.specs.Steps.{value_at, Step, bound, declared, block, in_loop, parts, named_one}
use Rattle.golf_meaning_statements.specs.Steps.{range_named, ranges, measured, range_step, over_slice, receives}
use Rattle.golf_meaning_statements.specs.Steps.{channel_step, by_channel, over, ranging, for_deed}
use Rattle.golf_meaning_statements.specs.Follows.{IsEnvStored, EndsAlike, Goes, StatementMeans}
use Rattle.golf_meaning_statements.proofs.Flowing.{ends-in, Came, MayBegin, stored-prefix, stored-take, stored-length}
use Rattle.golf_meaning_statements.proofs.Flowing.{rising-append, apart-rising, apart-append, apart-below, goes-after}
use Rattle.golf_meaning_statements.proofs.Flowing.{Exactly, GoesPrefix, exactly-prefix, exactly-goes, EachMeans}
use Rattle.golf_meaning_statements.proofs.Simples.{value-turns, there-is}
use Rattle.golf_meaning_statements.proofs.Loops.{goes-trans, B, inside, looped, body-exactly}
use Rattle.golf_meaning_statements.proofs.RangeSteps.{Below, NamedNow, names-rise, Single, load-step}
use Rattle.golf_meaning_statements.proofs.RangeSteps.{store-step, tail-store}
use Rattle.golf_meaning_statements.proofs.ChannelRanges.{receiving, receives-go}

then-assoc : (o : PieceExit) (f g : Frame → World → PieceExit)
    → then_way (then_way o f) g ≡ then_way o (λ c w. then_way (f c w) g)
then-assoc (PieceExit.Through c w) f g = refl
then-assoc (PieceExit.Leaves k c w) f g = refl
then-assoc (PieceExit.Ends t) f g = refl
then-assoc PieceExit.Lost f g = refl

-- a calculation on the two operands on top
sim-act : {A : Type 0} (p : V.Part A) (to : A → Frame)
    → Sim p (λ a u o. o ≡ PieceExit.Through (to a) u) (from_part (bind p (λ a u. V.Part.Gives (to a) u)))
sim-act (V.Part.Gives a u) to = refl
sim-act (V.Part.Stops s os) to = said s _ refl

-- the slice that is ranged over is in this slot, and the index two slots later
record Ranged (slots : List Value) (h : ℕ) (x i : Value) : Type 0 where
  slice : slice_get slots h ≡ Some x
  index : slice_get slots (h + 2) ≡ Some i

-- the code of a turn
abbrev incr_of : ℕ → ℕ → Piece
incr_of l h = all (op l (Instr.Load (h + 2)) ∷ op l (Instr.Int (pos 1)) ∷ op l Instr.Add ∷ op l (Instr.Store (h + 2))
    ∷ Piece.Exit l 0 ∷ [])

abbrev turn_of : ℕ → ℕ → Piece → Piece → Piece
turn_of l h nm bp = Piece.Then (op l (Instr.Load (h + 2)))
    (Piece.Then (op l (Instr.Load (h + 1)))
    (Piece.Then (op l Instr.Less) (Piece.Then (Piece.Unless l 1)
    (Piece.Then nm (Piece.Then (Piece.Block bp) (incr_of l h))))))

module _ (taking : Taking) where
  module _ (l : ℕ) (el : Option GoType) (rest : List Value) where
    -- the index
    index-named : {s : Scope} {env : Env} {slots : List Value} {v : Value} (b : Bool) (n : List ℕ) (k : ℕ)
        → MayBegin s (W.one_new (not b) n int_type s) env slots → slice_get slots k ≡ Some v
        → (m at : ℕ) (ts : List ℕ) (u : World)
        → NamedNow (behind s (W.one_new (not b) n int_type s)).locals s.next slots rest
        (cond b env (bound env n v)) u (run taking.gives m
        (cond b Piece.Empty (all (op l (Instr.Load k) ∷ op l (Instr.Store s.next) ∷ []))) at ts
        (frame slots rest) u)
    index-named {s} {env} {slots} {v} true n k ready e m at ts u = (
      slots,
      refl,
      subst (λ ds. Stored ds env slots) (sym (append-nil s.locals)) ready.known.stored,
      refl,
      λ j lt. refl,
    )
    index-named {s} {env} {slots} {v} false n k ready e m at ts u =
        let room = ready.room in
        subst (λ o. NamedNow (s.locals ++ variable s n int_type ∷ []) s.next slots rest (bound env n v) u o)
        (sym (load-step taking m l k (all (op l (Instr.Store s.next) ∷ [])) at ts slots rest u e))
        (tail-end taking slots rest (op l (Instr.Store s.next)) (v ∷ []) (declared env n (v ∷ []))
        (NamedNow (s.locals ++ variable s n int_type ∷ []) s.next slots rest)
        (tail-store taking s rest n int_type l ready.known (omega (arith, room)) (v ∷ [])) m (at + 1) ts u)

    -- the element
    element-goes : {s : Scope} {env : Env} {slots : List Value} {h : ℕ} {x i : Value} (b : Bool) (n : List ℕ)
        → MayBegin s (W.one_new (not b) n el s) env slots → Ranged slots h x i
        → (m at : ℕ) (ts : List ℕ) (u : World)
        → Sim (cond b (V.Part.Gives env u) (bind (visible taking Instr.Index (el ∷ []) (x ∷ (i ∷ [])) u)
        (declared env n))) (NamedNow (behind s (W.one_new (not b) n el s)).locals s.next slots rest)
        (run taking.gives m (cond b Piece.Empty
        (all (op l (Instr.Load h) ∷ op l (Instr.Load (h + 2)) ∷ op l Instr.Index ∷ op l (Instr.Store s.next) ∷ [])))
        at ts (frame slots rest) u)
    element-goes {s} {env} {slots} {h} {x} {i} true n ready ranged m at ts u = (
      slots,
      refl,
      subst (λ ds. Stored ds env slots) (sym (append-nil s.locals)) ready.known.stored,
      refl,
      λ j lt. refl,
    )
    element-goes {s} {env} {slots} {h} {x} {i} false n ready ranged m at ts u =
        let K = NamedNow (s.locals ++ variable s n el ∷ []) s.next slots rest in
        let last = all (op l (Instr.Store s.next) ∷ []) in
        let two : List Value = x ∷ (i ∷ []) in
        let room = ready.room in
        subst (λ o. Sim (bind (visible taking Instr.Index (el ∷ []) two u) (declared env n)) K o)
        (sym (load-step taking m l h (all (op l (Instr.Load (h + 2)) ∷ op l Instr.Index ∷ op l (Instr.Store s.next)
        ∷ []))
        at ts slots rest u ranged.slice ∙ load-step taking m l (h + 2)
        (all (op l Instr.Index ∷ op l (Instr.Store s.next) ∷ [])) (at + 1) ts slots (x ∷ rest) u ranged.index))
        (tail-then taking slots rest (op l Instr.Index) last two (visible taking Instr.Index (el ∷ []) two)
        (declared env n) K (turn-visible taking slots l Instr.Index (el ∷ []) two refl)
        (λ vs. tail-end taking slots rest (op l (Instr.Store s.next)) vs (declared env n vs) K
        (tail-store taking s rest n el l ready.known (omega (arith, room)) vs)) m (at + 1 + 1) ts u)

    -- both, with the slice in slot h and the index in slot h + 2
    names-go : {s : Scope} {env : Env} {slots : List Value} {h : ℕ} {x i : Value} (names : RangeNames)
        → MayBegin s (range_names names true el s) env slots → Ranged slots h x i → h + 3 ≤ s.next
        → (m at : ℕ) (ts : List ℕ) (u : World)
        → Sim (range_named taking el names x i env u)
        (NamedNow (behind s (range_names names true el s)).locals s.next slots rest)
        (run taking.gives m (O.slice_names l h names s) at ts (frame slots rest) u)
    names-go {s} {env} {slots} {h} {x} {i} range.Neither ready ranged under m at ts u = (
      slots,
      refl,
      subst (λ ds. Stored ds env slots) (sym (append-nil s.locals)) ready.known.stored,
      refl,
      λ j lt. refl,
    )
    names-go {s} {env} {slots} {h} {x} {i} (range.One n) ready ranged under m at ts u =
        let first : MayBegin s (W.one_new (not (is_blank n)) n int_type s) env slots =
        record { known = ready.known; room = ready.room } in
        index-named (is_blank n) n (h + 2) first ranged.index m at ts u
    names-go {s} {env} {slots} {h} {x} {i} (range.Two n k) ready ranged under m at ts u =
        let v = W.range_name n int_type s in
        let s1 = behind s v in
        let w = W.range_name k el s1 in
        let z = length-append v.slots w.slots in
        let room = ready.room in
        let rising = ready.known.rising in
        let first = cond (is_blank n) Piece.Empty (all (op l (Instr.Load (h + 2)) ∷ op l (Instr.Store s.next) ∷ [])) in
        let second = cond (is_blank k) Piece.Empty
        (all (op l (Instr.Load h) ∷ op l (Instr.Load (h + 2)) ∷ op l Instr.Index ∷ op l (Instr.Store s1.next)
        ∷ [])) in
        let ready1 : MayBegin s (W.one_new (not (is_blank n)) n int_type s) env slots =
        record { known = ready.known; room = omega (arith, room, z) } in
        let one = index-named (is_blank n) n (h + 2) ready1 ranged.index m at ts u in
        let now = one.0 in
        let long = one.3 in
        let rising1 = rising-append s.locals v.declares 0 s.next s1.next rising
        (one-rises (not (is_blank n)) n int_type s) in
        let env1 = named_one n i env in
        let ready2 : MayBegin s1 (W.one_new (not (is_blank k)) k el s1) env1 now =
        record { known = record { stored = one.2; rising = rising1 }; room = omega (arith, room, z, long) } in
        let ranged1 : Ranged now h x i = record {
          slice = one.4 h (omega (arith, under)) ∙ ranged.slice;
          index = one.4 (h + 2) (omega (arith, under)) ∙ ranged.index;
        } in
        let two = element-goes (is_blank k) k ready2 ranged1 m (at + size first) ts u in
        subst (λ o. Sim (range_named taking el (range.Two n k) x i env u)
        (NamedNow (behind s (range_names (range.Two n k) true el s)).locals s.next slots rest)
        (then_way o (run taking.gives m (all (second ∷ [])) (at + size first) ts))) (sym one.1)
        (subst (λ o. Sim (range_named taking el (range.Two n k) x i env u)
        (NamedNow (behind s (range_names (range.Two n k) true el s)).locals s.next slots rest) o)
        (sym (then-end (run taking.gives m second (at + size first) ts (frame now rest) u)))
        (sim-in-one (range_named taking el (range.Two n k) x i env u)
        (run taking.gives m second (at + size first) ts (frame now rest) u) two
        (λ env2 u2 o y. (
          y.0,
          y.1,
          subst (λ ds. Stored ds env2 y.0) (append_assoc s.locals v.declares w.declares) y.2,
          y.3 ∙ long,
          λ j lt. y.4 j (omega (arith, lt)) ∙ one.4 j lt,
        ))))
      where
        one-rises : (b : Bool) (n : List ℕ) (t : Option GoType) (s : Scope)
            → SlotsRise s.next (s.next + length (W.one_new b n t s).slots) (W.one_new b n t s).declares
        one-rises true n t s = (omega arith, omega arith)
        one-rises false n t s = omega arith

        sim-in-one : {A : Type 0} {K M : A → World → PieceExit → Type 0} (p : V.Part A) (o : PieceExit) → Sim p K o
            → ((a : A) (u : World) (o : PieceExit) → K a u o → M a u o) → Sim p M o
        sim-in-one (V.Part.Gives a u) o h k = k a u o h
        sim-in-one (V.Part.Stops s os) o h k = h

  -- Turns over a slice, with these names and this body in a scope.
  module _ (body : List Step) (means-body : EachMeans taking body) (l : ℕ) (names : RangeNames) (el ty : Option GoType)
      (a : Around) (s : Scope) (n : ℕ) (rest : List Value) (x long : Value) (count : ℕ) where
    abbrev ds : List Local
    ds = s.locals

    abbrev h : ℕ
    h = s.next

    abbrev S3 : Scope
    S3 = behind s (hides (ty ∷ (int_type ∷ (int_type ∷ []))))

    abbrev Sb : Scope
    Sb = behind s (W.then (λ s. hides (ty ∷ (int_type ∷ (int_type ∷ [])))) (range_names names true el) s)

    abbrev decl : List Local
    decl = (range_names names true el S3).declares

    abbrev b2 : Around
    b2 = inside taking body means-body 2 0 a

    abbrev bp : Piece
    bp = ((B taking body means-body).lay b2 (looped taking body means-body Sb)).piece

    abbrev d : Env → World → Flow
    d = in_loop 2 0 (block body) a Sb n

    abbrev step : Value → Env → World → Flow
    step = range_step taking el names x d

    abbrev Hidden : List Value → Value → Type 0
    Hidden now i = (slice_get now h ≡ Some x) × (slice_get now (h + 1) ≡ Some long) × (slice_get now (h + 2) ≡ Some i)

    abbrev Ready : Env → List Value → Value → Type 0
    Ready env now i = Stored ds env now × (length now ≡ count) × Hidden now i

    -- a turn but for its last steps
    abbrev Half : List Value → Value → Flow → PieceExit → Type 0
    Half now i (Flow.Goes Course.On env u) o = (then_now : List Value) × (o ≡ PieceExit.Through (frame then_now rest) u)
        × Ready env then_now i × Kept ds h now then_now
    Half now i (Flow.Goes Course.Continues env u) o = (then_now : List Value)
        × (o ≡ PieceExit.Through (frame then_now rest) u) × Ready env then_now i × Kept ds h now then_now
    Half now i (Flow.Goes Course.Breaks env u) o = (then_now : List Value)
        × (o ≡ PieceExit.Leaves 1 (frame then_now rest) u)
        × IsEnvStored ds h now ds env then_now
    Half now i (Flow.Goes Course.Skips env u) o = ⊥
    Half now i (Flow.Ends t) o = EndsAlike t t.end o

    module _ (rising : SlotsRise 0 h ds) (rises : SlotsRise S3.next
        (behind S3 (range_names names true el S3)).next decl)
        (room : Sb.next + length ((B taking body means-body).walk (looped taking body means-body Sb)).slots
        ≤ count) where
      next-is : (behind S3 (range_names names true el S3)).next ≡ Sb.next
      next-is = let z = length-append (ty ∷ (int_type ∷ (int_type ∷ []))) (range_names names true el S3).slots in omega
          (arith, z)

      apart-all : (j : ℕ) → j < h + 3 → Apart j ds → Apart j (ds ++ decl)
      apart-all j lt q = apart-append ds decl j q
          (apart-rising decl S3.next (behind S3 (range_names names true el S3)).next j lt rises)

      -- what the body leaves
      left : (now now2 now3 : List Value) (i : Value) (env : Env) → length now ≡ count → Hidden now i
          → (length now2 ≡ length now) → Below (h + 3) now now2
          → IsEnvStored (ds ++ decl) Sb.next now2 (ds ++ decl) env now3
          → Ready (take (length ds) env) now3 i × Kept ds h now now3
      left now now2 now3 i env q hid long2 below st =
          let z = length-append (ty ∷ (int_type ∷ (int_type ∷ []))) (range_names names true el S3).slots in
          let same : (j : ℕ) → h ≤ j → j < h + 3 → slice_get now3 j ≡ slice_get now j =
          λ j le lt. st.2 j (omega (arith, lt, z)) (apart-all j lt (apart-below ds 0 h j rising le))
          ∙ below j lt in (
            (
              stored-prefix ds decl env now3 st.0,
              st.1 ∙ long2 ∙ q,
              (
                same h (omega arith) (omega arith) ∙ hid.0,
                same (h + 1) (omega arith) (omega arith) ∙ hid.1,
                same (h + 2) (omega arith) (omega arith) ∙ hid.2,
              ),
            ),
            λ j lt ap'. st.2 j (omega (arith, lt, z)) (apart-all j (omega (arith, lt)) ap')
                ∙ below j (omega (arith, lt)),
          )

      half-of : (now now2 : List Value) (i : Value) (f : Flow) (o : PieceExit) → length now ≡ count → Hidden now i
          → (length now2 ≡ length now) → Below (h + 3) now now2 → Exactly rest b2 (ds ++ decl) Sb.next now2 f o
          → Half now i (cut (length ds) f) (out_of o)
      half-of now now2 i (Flow.Goes Course.On env u) o q hid long2 below e = let r =
          left now now2 e.0 i env q hid long2 below e.2 in (e.0, ap out_of e.1, r.0, r.1)
      half-of now now2 i (Flow.Goes Course.Continues env u) o q hid long2 below e = let r =
          left now now2 e.0 i env q hid long2 below e.2 in (e.0, ap out_of e.1, r.0, r.1)
      half-of now now2 i (Flow.Goes Course.Breaks env u) o q hid long2 below e = let r =
          left now now2 e.0 i env q hid long2 below e.2 in (e.0, ap out_of e.1, (r.0.0, r.0.1 ∙ sym q, r.1))
      half-of now now2 i (Flow.Goes Course.Skips env u) o q hid long2 below e = absurd e
      half-of now now2 i (Flow.Ends t) o q hid long2 below e = ends-in t t.end out_of o refl e

      half-after : (now : List Value) (i : Value) (k : ℕ) (p : V.Part Env) (K : Env → World → PieceExit → Type 0)
          (C : PieceExit → PieceExit) (o : PieceExit) → ((g : Halt) (os : List Operation)
          → C (PieceExit.Ends (halted g os)) ≡ PieceExit.Ends (halted g os)) → Sim p K o
          → ((env : Env) (u : World) (o : PieceExit) → K env u o → Half now i (cut k (d env u)) (C o))
          → Half now i (cut k (after p d)) (C o)
      half-after now i k (V.Part.Gives env u) K C o strict g f = f env u o g
      half-after now i k (V.Part.Stops s os) K C o strict g f = said-as s _ _ g (λ e. ap C e ∙ strict s os)

      half : (env : Env) (now : List Value) (i : Value) → Ready env now i → (at at2 : ℕ) (us : List ℕ) (u : World)
          → Half now i (step i env u) (then_way
          (run taking.gives n (O.slice_names l h names S3) at us (frame now rest) u)
          (λ c v. out_of (run taking.gives n bp at2 ((at2 + size bp) ∷ us) c v)))
      half env now i ready at at2 us u =
          let K = NamedNow (behind S3 (range_names names true el S3)).locals S3.next now rest in
          let stored3 = subst (λ es. Stored es env now) (sym (append-nil ds)) ready.0 in
          let rising3 = subst (λ es. SlotsRise 0 S3.next es) (sym (append-nil ds)) (wider ds 0 h rising) in
          let q = ready.1 in
          let nx = next-is in
          let ready3 : MayBegin S3 (range_names names true el S3) env now =
          record { known = record { stored = stored3; rising = rising3 }; room = omega (arith, room, q, nx) } in
          let ranged : Ranged now h x i = record { slice = ready.2.0; index = ready.2.2 } in
          let named = names-go l el rest names ready3 ranged (omega arith) n at us u in
          subst (λ k. Half now i (cut k (after (range_named taking el names x i env u) d))
          (then_way (run taking.gives n (O.slice_names l h names S3) at us (frame now rest) u)
          (λ c v. out_of (run taking.gives n bp at2 ((at2 + size bp) ∷ us) c v))))
          (sym (stored-length ds env now ready.0))
          (half-after now i (length ds) (range_named taking el names x i env u) K
          (λ o. then_way o (λ c v. out_of (run taking.gives n bp at2 ((at2 + size bp) ∷ us) c v)))
          (run taking.gives n (O.slice_names l h names S3) at us (frame now rest) u) (λ g os. refl) named
          (λ env2 u2 o k.
          let long2 = k.3 in
          let known : Known Sb.locals Sb.next env2 k.0 = record {
            stored = subst (λ es. Stored es env2 k.0) (append_assoc ds [] decl) k.2;
            rising = subst (λ m. SlotsRise 0 m (ds ++ decl)) next-is
                (rising-append ds decl 0 S3.next (behind S3 (range_names names true el S3)).next
                (wider ds 0 h rising) rises);
          } in
          subst (λ z. Half now i (cut (length ds) (d env2 u2))
          (then_way z (λ c v. out_of (run taking.gives n bp at2 ((at2 + size bp) ∷ us) c v)))) (sym k.1)
          (half-of now k.0 i (d env2 u2) (run taking.gives n bp at2 ((at2 + size bp) ∷ us) (frame k.0 rest) u2) ready.1
          ready.2 k.3 k.4
          (body-exactly taking body means-body b2 Sb n env2 k.0 known (omega (arith, room, q, long2)) at2
          ((at2 + size bp) ∷ us) rest u2))))
        where
          wider : (es : List Local) (low high : ℕ) → SlotsRise low high es → SlotsRise low (high + 3) es
          wider [] low high r = omega (arith, r)
          wider (e ∷ es) low high r = (r.0, wider es (e.slot + 1) high r.1)

      abbrev incr : Piece
      incr = incr_of l h

      abbrev P3 : Piece
      P3 = Piece.Then (O.slice_names l h names S3) (Piece.Then (Piece.Block bp) incr)

      abbrev P2 : Piece
      P2 = Piece.Then (Piece.Unless l 1) P3

      abbrev P : Piece
      P = turn_of l h (O.slice_names l h names S3) bp

      module _ (at : ℕ) (us : List ℕ) where
        abbrev turn : Frame → World → PieceExit
        turn = run taking.gives n P at us

        abbrev G : List Value → Flow → PieceExit → Type 0
        G now f o = Goes ds h now rest ds a f o

        -- the last steps of a turn, and what comes after it
        last-steps : (m : ℕ) (to : Frame → World → PieceExit) (at5 : ℕ)
            → ((i : Value) (env : Env) (now : List Value) (u : World) → Ready env now i
            → G now (ranges m long step i env u) (out_of (to (frame now rest) u)))
            → (i : Value) (env : Env) (now : List Value) (u : World) → Ready env now i
            → G now (after (computed sum u i (int_value 1)) (λ k v. ranges m long step k env v))
            (out_of (once_more (run taking.gives n incr at5 us (frame now rest) u) to))
        last-steps m to at5 rec i env now u ready =
            let store = all (op l (Instr.Store (h + 2)) ∷ Piece.Exit l 0 ∷ []) in
            let at6 = at5 + 1 + 1 + 1 in
            let p = computed sum u i (int_value 1) in
            subst (λ o. G now (after p (λ k v. ranges m long step k env v)) (out_of (once_more o to)))
            (sym (load-step taking n l (h + 2) (all
            (op l (Instr.Int (pos 1)) ∷ op l Instr.Add ∷ op l (Instr.Store (h + 2))
            ∷ Piece.Exit l 0 ∷ [])) at5 us now rest u ready.2.2))
            (goes-after (Goes ds h now rest ds a) (λ t o h. h) p (λ k v. ranges m long step k env v)
            (λ k v o. o ≡ PieceExit.Through (frame now (k ∷ rest)) v)
            (λ o. out_of (once_more (then_way o (run taking.gives n store at6 us)) to))
            (from_part (bind p (λ k v. V.Part.Gives (frame now (k ∷ rest)) v))) (λ g os. refl)
            (sim-act p (λ k. frame now (k ∷ rest)))
            (λ k v o e.
            let now4 = slice_set now (h + 2) k in
            let q = ready.1 in
            let within = slice_get_within now (h + 2) i ready.2.2 in
            let ready4 : Ready env now4 k = (
              stored-below ds env now (h + 2) 0 h k (omega arith) rising ready.0,
              length-set now (h + 2) k ∙ q,
              (
                set-other now (h + 2) h k (λ z. omega (arith, z)) ∙ ready.2.0,
                set-other now (h + 2) (h + 1) k (λ z. omega (arith, z)) ∙ ready.2.1,
                set-same now (h + 2) k within,
              ),
            ) in
            let came : Came ds h now now4 = record {
              long = length-set now (h + 2) k;
              kept = λ j lt ap'. set-other now (h + 2) j k (λ z. omega (arith, z, lt));
            } in
            subst (λ z. G now (ranges m long step k env v)
            (out_of (once_more (then_way z (run taking.gives n store at6 us)) to))) (sym e)
            (subst (λ z. G now (ranges m long step k env v) (out_of (once_more z to)))
            (sym (store-step taking n l (h + 2) (all (Piece.Exit l 0 ∷ [])) at6 us now rest v k ready.2.2))
            (goes-trans rest a ds (ranges m long step k env v) (out_of (to (frame now4 rest) v)) came
            (rec k env now4 v ready4)))))

        -- after a body that goes on or continues
        turn-done : (m : ℕ) (to : Frame → World → PieceExit) (at5 : ℕ)
            → ((i : Value) (env : Env) (now : List Value) (u : World) → Ready env now i
            → G now (ranges m long step i env u) (out_of (to (frame now rest) u)))
            → (now : List Value) (i : Value) (env : Env) (u : World) (o : PieceExit) → length now ≡ count
            → Half now i (Flow.Goes Course.On env u) o
            → G now (after (computed sum u i (int_value 1)) (λ k y. ranges m long step k env y))
            (out_of (once_more (then_way o (run taking.gives n incr at5 us)) to))
        turn-done m to at5 rec now i env u o q g =
            let came : Came ds h now g.0 = record { long = g.2.1 ∙ sym q; kept = g.3 } in
            subst (λ z. G now (after (computed sum u i (int_value 1)) (λ k y. ranges m long step k env y))
            (out_of (once_more (then_way z (run taking.gives n incr at5 us)) to))) (sym g.1)
            (goes-trans rest a ds (after (computed sum u i (int_value 1)) (λ k y. ranges m long step k env y))
            (out_of (once_more (run taking.gives n incr at5 us (frame g.0 rest) u) to)) came
            (last-steps m to at5 rec i env g.0 u g.2))

        -- after the body
        half-goes : (m : ℕ) (to : Frame → World → PieceExit) (at5 : ℕ)
            → ((i : Value) (env : Env) (now : List Value) (u : World) → Ready env now i
            → G now (ranges m long step i env u) (out_of (to (frame now rest) u)))
            → (now : List Value) (i : Value) (f : Flow) (o : PieceExit) → length now ≡ count → Half now i f o
            → G now (turned f (λ e v. after (computed sum v i (int_value 1)) (λ k y. ranges m long step k e y)))
            (out_of (once_more (then_way o (run taking.gives n incr at5 us)) to))
        half-goes m to at5 rec now i (Flow.Goes Course.On env u) o q g = turn-done m to at5 rec now i env u o q g
        half-goes m to at5 rec now i (Flow.Goes Course.Continues env u) o q g = turn-done m to at5 rec now i env u o q g
        half-goes m to at5 rec now i (Flow.Goes Course.Breaks env u) o q g =
            (g.0, ap (λ z. out_of (once_more (then_way z (run taking.gives n incr at5 us)) to)) g.1, g.2)
        half-goes m to at5 rec now i (Flow.Goes Course.Skips env u) o q g = absurd g
        half-goes m to at5 rec now i (Flow.Ends t) o q g =
            ends-in t t.end (λ z. out_of (once_more (then_way z (run taking.gives n incr at5 us)) to)) o refl g

        -- if the index is below the length, and if it is not
        bool-goes : (m : ℕ) (to : Frame → World → PieceExit) (at3 : ℕ)
            → ((i : Value) (env : Env) (now : List Value) (u : World) → Ready env now i
            → G now (ranges m long step i env u) (out_of (to (frame now rest) u)))
            → (i : Value) (env : Env) (now : List Value) (u : World) → Ready env now i → (b : Option Bool)
            → G now (by_test b u (turned (step i env u)
            (λ e v. after (computed sum v i (int_value 1)) (λ k y. ranges m long step k e y)))
            (Flow.Goes Course.On env u)) (out_of
            (once_more (then_way (unless_true (on_kind (λ c. V.Part.Gives (c, frame now rest) u) u b) 1)
            (run taking.gives n P3 at3 us)) to))
        bool-goes m to at3 rec i env now u ready None = refl
        bool-goes m to at3 rec i env now u ready (Some true) =
            let nm = O.slice_names l h names S3 in
            let at2 = at3 + size nm in
            let at5 = at2 + size bp in
            subst (λ o. G now (turned (step i env u)
            (λ e v. after (computed sum v i (int_value 1)) (λ k y. ranges m long step k e y)))
            (out_of (once_more o to))) (then-assoc (run taking.gives n nm at3 us (frame now rest) u)
            (λ c v. out_of (run taking.gives n bp at2 ((at2 + size bp) ∷ us) c v)) (run taking.gives n incr at5 us))
            (half-goes m to at5 rec now i (step i env u)
            (then_way (run taking.gives n nm at3 us (frame now rest) u)
            (λ c v. out_of (run taking.gives n bp at2 ((at2 + size bp) ∷ us) c v))) ready.1
            (half env now i ready at3 at2 us u))
        bool-goes m to at3 rec i env now u ready (Some false) = (now, refl, (ready.0, refl, λ j lt q. refl))

        ranges-go : (m : ℕ) (i : Value) (env : Env) (now : List Value) (u : World) → Ready env now i
            → G now (ranges m long step i env u) (out_of (rounds m turn (frame now rest) u))
        ranges-go zero i env now u ready = refl
        ranges-go (suc m) i env now u ready =
            let at3 = at + 1 + 1 + 1 in
            let p = compared int_lt u i long in
            let f : Value → World → Flow = λ b v. by_test (bool_of b) v
            (turned (step i env v) (λ e y. after (computed sum y i (int_value 1))
            (λ k z. ranges m long step k e z))) (Flow.Goes Course.On env v) in
            subst (λ o. G now (after p f) (out_of (once_more o (rounds m turn))))
            (sym (load-step taking n l (h + 2) (Piece.Then (op l (Instr.Load (h + 1)))
            (Piece.Then (op l Instr.Less) P2))
            at us now rest u ready.2.2 ∙ load-step taking n l (h + 1) (Piece.Then (op l Instr.Less) P2) (at + 1) us now
            (i ∷ rest) u ready.2.1))
            (goes-after (Goes ds h now rest ds a) (λ t o h. h) p f
            (λ k v o. o ≡ PieceExit.Through (frame now (k ∷ rest)) v)
            (λ o. out_of (once_more (then_way o (run taking.gives n P2 at3 us)) (rounds m turn)))
            (from_part (bind p (λ k v. V.Part.Gives (frame now (k ∷ rest)) v))) (λ g os. refl)
            (sim-act p (λ k. frame now (k ∷ rest)))
            (λ k v o e.
            subst (λ z. G now (f k v) (out_of (once_more (then_way z (run taking.gives n P2 at3 us)) (rounds m turn))))
            (sym e)
            (bool-goes m (rounds m turn) (at3 + 1) (ranges-go m) i env now v ready (bool_of k))))

  -- all ways have the names of before
  prefix-of : (rest : List Value) (a : Around) (ds : List Local) (next : ℕ) (slots : List Value) (f : Flow)
      (o : PieceExit)
      → Goes ds next slots rest ds a f o → GoesPrefix rest a ds next slots f o
  prefix-of rest a locals next slots (Flow.Goes Course.On env u) o k =
      (k.0, k.1, (stored-take locals env k.0 k.2.0, k.2.1, k.2.2))
  prefix-of rest a locals next slots (Flow.Goes Course.Skips env u) o k = tt
  prefix-of rest a locals next slots _ o k = k

  module _ (body : List Step) (means-body : EachMeans taking body) (t : Tables) (l : ℕ) (names : RangeNames) (e : Expr)
      (el ty : Option GoType) (a : Around) (s : Scope) (n : ℕ) (env : Env) (slots rest : List Value)
      (ok : Known s.locals s.next env slots) where
    abbrev scope_by : Bool → Scope
    scope_by b = behind s (W.then (λ s. hides (hidden b ty)) (range_names names b el) s)

    abbrev hidden_by : Bool → Scope
    hidden_by b = behind s (hides (hidden b ty))

    abbrev body_by : Bool → Piece
    body_by b = ((B taking body means-body).lay (inside taking body means-body 2 0 a)
        (looped taking body means-body (scope_by b))).piece

    abbrev piece_by : Bool → Piece
    piece_by b = cond b (O.over_slice l s.next (piece_at t l s e) (O.slice_names l s.next names (hidden_by b))
        (body_by b)) (O.over_channel l s.next (piece_at t l s e) (O.channel_name l names (hidden_by b)) (body_by b))

    abbrev rest_by : Bool → List Value → World → Flow
    rest_by b vs y = measured vs y (λ x z. over taking b n el names (in_loop 2 0 (block body) a (scope_by b) n) x env z)

    abbrev Room : Bool → Type 0
    Room b = s.next + length ((hidden b ty ++ (range_names names b el (hidden_by b)).slots)
        ++ ((B taking body means-body).walk (looped taking body means-body (scope_by b))).slots) ≤ length slots

    abbrev R : Flow → PieceExit → Type 0
    R f o = Goes s.locals s.next slots rest s.locals a f o

    -- the slice is kept, and its length
    begun-goes : Room true → (x : Value) (at : ℕ) (ts : List ℕ) (y : World)
        → R (over_slice taking n el names (in_loop 2 0 (block body) a (scope_by true) n) x env y)
        (run taking.gives n (all (op l (Instr.Store s.next) ∷ op l (Instr.Load s.next) ∷ op l Instr.Len
        ∷ op l (Instr.Store (s.next + 1)) ∷ op l (Instr.Int (pos 0)) ∷ op l (Instr.Store (s.next + 2))
        ∷ O.round (turn_of l s.next (O.slice_names l s.next names (hidden_by true)) (body_by true)) ∷ [])) at ts
        (frame slots (x ∷ rest)) y)
    begun-goes room x at ts y =
        let h = s.next in
        let H = ty ∷ (int_type ∷ (int_type ∷ [])) in
        let ns = (range_names names true el (hidden_by true)).slots in
        let bs = ((B taking body means-body).walk (looped taking body means-body (scope_by true))).slots in
        let z1 = length-append H ns in
        let z2 = length-append (H ++ ns) bs in
        let loop = O.round (turn_of l s.next (O.slice_names l s.next names (hidden_by true)) (body_by true)) in
        let X3 = all (op l (Instr.Store (h + 1)) ∷ op l (Instr.Int (pos 0)) ∷ op l (Instr.Store (h + 2)) ∷ loop ∷ []) in
        let X2 = Piece.Then (op l Instr.Len) X3 in
        let slots1 = slice_set slots h x in
        let old = there-is slots h (omega (arith, room, z1, z2)) in
        let F : List Value → World → Flow = λ ls u. measured ls u
        (λ long v. ranges n long (range_step taking el names x (in_loop 2 0 (block body) a (scope_by true) n))
        (int_value 0) env v) in
        let p = visible taking Instr.Len (int_type ∷ []) (x ∷ []) y in
        let at3 = at + 1 + 1 + 1 in
        subst (λ o. R (after p F) o) (sym (store-step taking n l h
        (Piece.Then (op l (Instr.Load h)) X2) at ts slots rest y x old.1
        ∙ load-step taking n l h X2 (at + 1) ts slots1 rest y (set-same slots h x (omega (arith, room, z1, z2)))))
        (goes-after (Goes s.locals h slots rest s.locals a) (λ t o h. h) p F (OnTop slots1 rest)
        (λ o. then_way o (run taking.gives n X3 at3 ts))
        (run taking.gives n (op l Instr.Len) (at + 1 + 1) ts (frame slots1 (x ∷ rest)) y) (λ g os. refl)
        (turn-visible taking slots1 l Instr.Len (int_type ∷ []) (x ∷ []) refl n (at + 1 + 1) ts rest y)
        (λ ls v o q. subst (λ w. R (F ls v) (then_way w (run taking.gives n X3 at3 ts))) (sym q)
        (by ls v at3 (omega (arith, room, z1, z2)) (omega (arith, room, z2)))))
      where
        by : (ls : List Value) (v : World) (at3 : ℕ) → s.next + 3 ≤ length slots
            → (scope_by true).next + length ((B taking body means-body).walk
            (looped taking body means-body (scope_by true))).slots ≤ length slots
            → R (measured ls v (λ long v. ranges n long
            (range_step taking el names x (in_loop 2 0 (block body) a (scope_by true) n)) (int_value 0) env v))
            (run taking.gives n (all (op l (Instr.Store (s.next + 1)) ∷ op l (Instr.Int (pos 0))
            ∷ op l (Instr.Store (s.next + 2)) ∷ O.round
            (turn_of l s.next (O.slice_names l s.next names (hidden_by true)) (body_by true)) ∷ [])) at3 ts
            (frame (slice_set slots s.next x) (pushed ls rest)) v)
        by [] v at3 few enough = tt
        by (long ∷ []) v at3 few enough =
            let h = s.next in
            let loop = O.round (turn_of l s.next (O.slice_names l s.next names (hidden_by true)) (body_by true)) in
            let slots1 = slice_set slots h x in
            let slots2 = slice_set slots1 (h + 1) long in
            let i = int_value 0 in
            let slots3 = slice_set slots2 (h + 2) i in
            let l1 = length-set slots h x in
            let l2 = length-set slots1 (h + 1) long in
            let l3 = length-set slots2 (h + 2) i in
            let old1 = there-is slots1 (h + 1) (omega (arith, few, l1)) in
            let old2 = there-is slots2 (h + 2) (omega (arith, few, l1, l2)) in
            let D = in_loop 2 0 (block body) a (scope_by true) n in
            let f = ranges n long (range_step taking el names x D) i env v in
            let at5 = at3 + 1 + 1 + 1 in
            let us : List ℕ = at5 ∷ ((at5 + size
            (turn_of l s.next (O.slice_names l s.next names (hidden_by true)) (body_by true))) ∷ ts) in
            let st1 = stored-below s.locals env slots h 0 h x (omega arith) ok.rising ok.stored in
            let st2 = stored-below s.locals env slots1 (h + 1) 0 h long (omega arith) ok.rising st1 in
            let st3 = stored-below s.locals env slots2 (h + 2) 0 h i (omega arith) ok.rising st2 in
            let at0 : slice_get slots3 h ≡ Some x = set-other slots2 (h + 2) h i (λ z. omega (arith, z))
            ∙ set-other slots1 (h + 1) h long (λ z. omega (arith, z)) ∙ set-same slots h x (omega (arith, few)) in
            let at1 : slice_get slots3 (h + 1) ≡ Some long = set-other slots2 (h + 2) (h + 1) i (λ z. omega (arith, z))
            ∙ set-same slots1 (h + 1) long (omega (arith, few, l1)) in
            let at2 : slice_get slots3 (h + 2) ≡ Some i = set-same slots2 (h + 2) i (omega (arith, few, l1, l2)) in
            let came : Came s.locals h slots slots3 = record {
              long = l3 ∙ l2 ∙ l1;
              kept = λ j lt q. set-other slots2 (h + 2) j i (λ z. omega (arith, z, lt))
                  ∙ set-other slots1 (h + 1) j long (λ z. omega (arith, z, lt))
                  ∙ set-other slots h j x (λ z. omega (arith, z, lt));
            } in
            subst (λ o. R f o) (sym (store-step taking n l (h + 1)
            (all (op l (Instr.Int (pos 0)) ∷ op l (Instr.Store (h + 2)) ∷ loop ∷ [])) at3 ts slots1 rest v long
            old1.1 ∙ store-step taking n l (h + 2) (all (loop ∷ [])) (at3 + 1 + 1) ts slots2 rest v i old2.1
            ∙ then-end (run taking.gives n loop at5 ts (frame slots3 rest) v)))
            (goes-trans rest a s.locals f (run taking.gives n loop at5 ts (frame slots3 rest) v) came
            (ranges-go body means-body l names el ty a s n rest x long (length slots) ok.rising
            (names-rise names true el (hidden_by true)) enough at5 us n i env slots3 v
            (st3, l3 ∙ l2 ∙ l1, (at0, at1, at2))))
        by (long ∷ (k ∷ ls)) v at3 few enough = tt

    -- the channel is kept
    begun-channel : Room false → (x : Value) (at : ℕ) (ts : List ℕ) (y : World)
        → Single names → R (receives taking n el x
        (channel_step names (in_loop 2 0 (block body) a (scope_by false) n)) env y)
        (run taking.gives n (all (op l (Instr.Store s.next)
        ∷ Piece.Block (all (O.round (receiving l s.next (O.channel_name l names (hidden_by false)) (body_by false))
        ∷ op l Instr.Drop ∷ [])) ∷ [])) at ts (frame slots (x ∷ rest)) y)
    begun-channel room x at ts y single =
        let h = s.next in
        let ns = (range_names names false el (hidden_by false)).slots in
        let bs = ((B taking body means-body).walk (looped taking body means-body (scope_by false))).slots in
        let z1 = length-append (ty ∷ []) ns in
        let z2 = length-append ((ty ∷ []) ++ ns) bs in
        let p = receiving l h (O.channel_name l names (hidden_by false)) (body_by false) in
        let inner = all (O.round p ∷ op l Instr.Drop ∷ []) in
        let slots1 = slice_set slots h x in
        let old = there-is slots h (omega (arith, room, z1, z2)) in
        let l1 = length-set slots h x in
        let at1 = at + 1 in
        let us : List ℕ = at1 ∷ ((at1 + size p) ∷ ((at1 + size inner) ∷ ts)) in
        let f = receives taking n el x (channel_step names (in_loop 2 0 (block body) a (scope_by false) n)) env y in
        let came : Came s.locals h slots slots1 =
        record { long = l1; kept = λ j lt q. set-other slots h j x (λ z. omega (arith, z, lt)) } in
        subst (λ o. R f o) (sym (store-step taking n l h (all (Piece.Block inner ∷ [])) at ts slots rest y x old.1
        ∙ then-end (run taking.gives n (Piece.Block inner) at1 ts (frame slots1 rest) y)))
        (goes-trans rest a s.locals f (run taking.gives n (Piece.Block inner) at1 ts (frame slots1 rest) y) came
        (receives-go taking body means-body l names el ty a s n rest x (length slots) ok.rising
        (names-rise names false el (hidden_by false)) (omega (arith, room, z2)) single at1 us n env slots1 y (
          stored-below s.locals env slots h 0 h x (omega arith) ok.rising ok.stored,
          l1,
          set-same slots h x (omega (arith, room, z1, z2)),
        )))

    by-names : (nm : RangeNames) (f : Flow) (w : World) (o : PieceExit) → (Single nm → R f o) → R (by_channel nm f w) o
    by-names range.Neither f w o k = k tt
    by-names (range.One m) f w o k = k tt
    by-names (range.Two m q) f w o k = tt

    range-goes : (b : Bool) → Room b → (at : ℕ) (ts : List ℕ) (u : World)
        → R (after (value_at taking t l s e env u) (rest_by b))
        (run taking.gives n (piece_by b) at ts (frame slots rest) u)
    range-goes true room at ts u =
        let E = piece_at t l s e in
        let h = s.next in
        let tail = all (op l (Instr.Store h) ∷ op l (Instr.Load h) ∷ op l Instr.Len ∷ op l (Instr.Store (h + 1))
        ∷ op l (Instr.Int (pos 0)) ∷ op l (Instr.Store (h + 2))
        ∷ O.round (turn_of l h (O.slice_names l h names (hidden_by true)) (body_by true)) ∷ []) in
        goes-after (Goes s.locals h slots rest s.locals a) (λ t o h. h) (value_at taking t l s e env u) (rest_by true)
        (OnTop slots rest) (λ o. then_way o (run taking.gives n tail (at + size E) ts))
        (run taking.gives n E at ts (frame slots rest) u) (λ g os. refl)
        (value-turns taking t l e s env slots ok n at ts rest u)
        (λ vs v o q. subst (λ z. R (rest_by true vs v) (then_way z (run taking.gives n tail (at + size E) ts))) (sym q)
        (by tail vs v (at + size E) (λ x y. begun-goes room x (at + size E) ts y)))
      where
        by : (tail : Piece) (vs : List Value) (v : World) (at : ℕ)
            → ((x : Value) (y : World) → R (over_slice taking n el names
            (in_loop 2 0 (block body) a (scope_by true) n) x env y)
            (run taking.gives n tail at ts (frame slots (x ∷ rest)) y))
            → R (rest_by true vs v) (run taking.gives n tail at ts (frame slots (pushed vs rest)) v)
        by tail [] v at k = tt
        by tail (x ∷ []) v at k = k x v
        by tail (x ∷ (y ∷ vs)) v at k = tt
    range-goes false room at ts u =
        let E = piece_at t l s e in
        let h = s.next in
        let loop = O.round (receiving l h (O.channel_name l names (hidden_by false)) (body_by false)) in
        let tail = all (op l (Instr.Store h) ∷ Piece.Block (all (loop ∷ op l Instr.Drop ∷ [])) ∷ []) in
        goes-after (Goes s.locals h slots rest s.locals a) (λ t o h. h) (value_at taking t l s e env u) (rest_by false)
        (OnTop slots rest) (λ o. then_way o (run taking.gives n tail (at + size E) ts))
        (run taking.gives n E at ts (frame slots rest) u) (λ g os. refl)
        (value-turns taking t l e s env slots ok n at ts rest u)
        (λ vs v o q. subst (λ z. R (rest_by false vs v) (then_way z (run taking.gives n tail (at + size E) ts))) (sym q)
        (by tail vs v (at + size E) (λ x y. by-names names
        (receives taking n el x (channel_step names (in_loop 2 0 (block body) a (scope_by false) n)) env y) y
        (run taking.gives n tail (at + size E) ts (frame slots (x ∷ rest)) y)
        (begun-channel room x (at + size E) ts y))))
      where
        by : (tail : Piece) (vs : List Value) (v : World) (at : ℕ)
            → ((x : Value) (y : World) → R (by_channel names
            (receives taking n el x (channel_step names (in_loop 2 0 (block body) a (scope_by false) n)) env y) y)
            (run taking.gives n tail at ts (frame slots (x ∷ rest)) y))
            → R (rest_by false vs v) (run taking.gives n tail at ts (frame slots (pushed vs rest)) v)
        by tail [] v at k = tt
        by tail (x ∷ []) v at k = k x v
        by tail (x ∷ (y ∷ vs)) v at k = tt

  pub means-range : (body : List Step) → EachMeans taking body → (t : Tables) (l : ℕ) (names : RangeNames) (e : Expr)
      → StatementMeans taking (O.for_part t l (header.Range names e) (parts body)).walk
      (O.for_part t l (header.Range names e) (parts body)).lay (for_deed taking t l (header.Range names e) body)
  means-range body h t l names e = record {
    rises = λ s. omega arith;
    goes = λ a s0 n env slots ok0 room at ts rest u.
        let s = begun s0 in
        let ok : Known s.locals s.next env slots = record { stored = ok0.stored; rising = ok0.rising } in
        let v = given_by (judge_at l s e) in
        let b = is_outer is_slice v in
        let piece = piece_by body h t l names e (element v) (type_given v) a s n env slots rest ok b in
        exactly-goes rest a s0.locals s0.next slots (for_deed taking t l (header.Range names e) body a s0 n env u)
        (run taking.gives n piece at ts (frame slots rest) u)
        (exactly-prefix rest a s0 (ranging taking t l names e (in_loop 2 0 (block body)) a s n env u)
        (run taking.gives n piece at ts (frame slots rest) u) ok0
        (prefix-of rest a s0.locals s0.next slots (ranging taking t l names e (in_loop 2 0 (block body)) a s n env u)
        (run taking.gives n piece at ts (frame slots rest) u)
        (range-goes body h t l names e (element v) (type_given v) a s n env slots rest ok b room at ts u)));
  }
