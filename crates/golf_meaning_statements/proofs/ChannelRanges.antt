-- The code of the turns of a range over a channel does what the turns do; a hidden slot holds the channel.
-- For: `receives`, golf_meaning_statements/specs/Steps.antt.
-- By: induction over m, the turns that are left; cases of the names that are declared.
use Rattle.std.proofs.Common.{◌≡◌, ℕ, zero, suc, ◌+◌, ◌<◌, ◌≤◌, Bool, true, false, not, cond, List, [], ◌∷◌, ◌++◌}
use Rattle.std.proofs.Common.{length, take, Option, Some, None, refl, ap, sym, ◌∙◌, subst, slice_get, arith, append-nil}
use Rattle.std.proofs.Common.{append_assoc, length-append}
use Rattle.golf_syntax_trees.specs.declared.statements.RangeNames.{RangeNames}
use Rattle.golf_syntax_trees.specs.declared.statements.RangeNames.TheVariants as range
use Rattle.golf_data.specs.declared.value.Value.{Value}
use Rattle.golf_data.specs.declared.code.Instr.{Instr}
use Rattle.golf_model.specs.Values.{bool_of}
use Rattle.golf_check_types.specs.declared.types.GoType.{GoType}
use Rattle.golf_check_types.specs.declared.locals.Local.{Local}
use Rattle.golf_check_types.specs.declared.scopes.Scope.{Scope}
use Rattle.golf_check_types.specs.Names.{is_blank}
use Rattle.golf_check_types.specs.Statements as W
use Rattle.golf_check_types.specs.Statements.{behind, hides, range_names}
use Rattle.golf_code_layout.specs.Piece.{Piece, all, op, size}
use Rattle.golf_code_of.specs.declared.surroundings.Around.{Around}
use Rattle.golf_code_of.specs.Loops as O
use Rattle.golf_meaning_flat.specs.Worlds as V
use Rattle.golf_meaning_flat.specs.Worlds.{World, pushed}
use Rattle.golf_meaning_flat.specs.InstructionEffects.{Frame, on_kind}
use Rattle.golf_meaning_flat.specs.Structured.{PieceExit, then_way, unless_true, out_of, once_more, rounds, run}
use Rattle.golf_meaning_source.specs.Names.{Env}
use Rattle.golf_meaning_source.specs.Operations.{Taking, visible}
use Rattle.golf_meaning_source.specs.Does.{frame, OnTop, Stored, SlotsRise, Apart, Kept, Known}
use Rattle.golf_meaning_source.proofs.Turning.{turn-visible}
use Rattle.golf_meaning_statements.specs.Flows.{Course, Flow, after, cut, by_test, turned}
use Rattle.golf_meaning_statements.specs.Steps.{Step, bound, block, in_loop, channel_named, received_two, receives}
use Rattle.golf_meaning_statements.specs.Steps.{channel_step}
use Rattle.golf_meaning_statements.specs.Follows.{IsEnvStored, EndsAlike, Goes}
use Rattle.golf_meaning_statements.proofs.Flowing.{ends-in, Came, MayBegin, stored-prefix, stored-length, rising-append}
use Rattle.golf_meaning_statements.proofs.Flowing.{apart-rising, apart-append, apart-below, goes-after, Exactly}
use Rattle.golf_meaning_statements.proofs.Flowing.{EachMeans}
use Rattle.golf_meaning_statements.proofs.Loops.{goes-trans, B, inside, looped, body-exactly}
use Rattle.golf_meaning_statements.proofs.RangeSteps.{Below, NamedNow, Single, load-step, tail-store}

-- the code of a turn over a channel
abbrev pub receiving : ℕ → ℕ → Piece → Piece → Piece
receiving l h nm bp = all (op l (Instr.Load h) ∷ op l Instr.ReceiveOk ∷ Piece.Unless l 1 ∷ nm ∷ bp ∷ Piece.Exit l 0
    ∷ [])

module _ (taking : Taking) where
  -- Turns over a channel: if it is closed, what was received stands on top.
  module _ (body : List Step) (means-body : EachMeans taking body) (l : ℕ) (names : RangeNames) (el ty : Option GoType)
      (a : Around) (s : Scope) (n : ℕ) (rest : List Value) (c : Value) (count : ℕ) where
    abbrev cds : List Local
    cds = s.locals

    abbrev ch : ℕ
    ch = s.next

    abbrev C3 : Scope
    C3 = behind s (hides (ty ∷ []))

    abbrev Cb : Scope
    Cb = behind s (W.then (λ s. hides (ty ∷ [])) (range_names names false el) s)

    abbrev cdecl : List Local
    cdecl = (range_names names false el C3).declares

    abbrev c2 : Around
    c2 = inside taking body means-body 2 0 a

    abbrev cbp : Piece
    cbp = ((B taking body means-body).lay c2 (looped taking body means-body Cb)).piece

    abbrev cd : Env → World → Flow
    cd = in_loop 2 0 (block body) a Cb n

    abbrev CReady : Env → List Value → Type 0
    CReady env now = Stored cds env now × (length now ≡ count) × (slice_get now ch ≡ Some c)

    -- seen from the inside
    abbrev CHalf : List Value → Flow → PieceExit → Type 0
    CHalf now (Flow.Goes Course.On env u) o = (then_now : List Value) × (o ≡ PieceExit.Leaves 0 (frame then_now rest) u)
        × CReady env then_now × Kept cds ch now then_now
    CHalf now (Flow.Goes Course.Continues env u) o = (then_now : List Value)
        × (o ≡ PieceExit.Leaves 0 (frame then_now rest) u) × CReady env then_now × Kept cds ch now then_now
    CHalf now (Flow.Goes Course.Breaks env u) o = (then_now : List Value)
        × (o ≡ PieceExit.Leaves 2 (frame then_now rest) u)
        × IsEnvStored cds ch now cds env then_now
    CHalf now (Flow.Goes Course.Skips env u) o = ⊥
    CHalf now (Flow.Ends t) o = EndsAlike t t.end o

    module _ (rising : SlotsRise 0 ch cds)
        (rises : SlotsRise C3.next (behind C3 (range_names names false el C3)).next cdecl)
        (room : Cb.next + length ((B taking body means-body).walk (looped taking body means-body Cb)).slots ≤ count)
        (single : Single names) where
      cnext-is : (behind C3 (range_names names false el C3)).next ≡ Cb.next
      cnext-is = let z = length-append (ty ∷ []) (range_names names false el C3).slots in omega (arith, z)

      capart-all : (j : ℕ) → j < ch + 1 → Apart j cds → Apart j (cds ++ cdecl)
      capart-all j lt q = apart-append cds cdecl j q
          (apart-rising cdecl C3.next (behind C3 (range_names names false el C3)).next j lt rises)

      cleft : (now now2 now3 : List Value) (env : Env) → length now ≡ count → slice_get now ch ≡ Some c
          → (length now2 ≡ length now) → Below (ch + 1) now now2
          → IsEnvStored (cds ++ cdecl) Cb.next now2 (cds ++ cdecl) env now3 → CReady (take (length cds) env) now3
          × Kept cds ch now now3
      cleft now now2 now3 env q hid long2 below st =
          let z = length-append (ty ∷ []) (range_names names false el C3).slots in (
            (
              stored-prefix cds cdecl env now3 st.0,
              st.1 ∙ long2 ∙ q,
              st.2 ch (omega (arith, z)) (capart-all ch (omega arith) (apart-below cds 0 ch ch rising (omega arith)))
                  ∙ below ch (omega arith) ∙ hid,
            ),
            λ j lt ap'. st.2 j (omega (arith, lt, z)) (capart-all j (omega (arith, lt)) ap')
                ∙ below j (omega (arith, lt)),
          )

      chalf-of : (now now2 : List Value) (f : Flow) (o : PieceExit) → length now ≡ count → slice_get now ch ≡ Some c
          → (length now2 ≡ length now) → Below (ch + 1) now now2 → Exactly rest c2 (cds ++ cdecl) Cb.next now2 f o
          → CHalf now (cut (length cds) f) (then_way o (λ d x. PieceExit.Leaves 0 d x))
      chalf-of now now2 (Flow.Goes Course.On env u) o q hid long2 below e = let r =
          cleft now now2 e.0 env q hid long2 below
          e.2 in (e.0, ap (λ z. then_way z (λ d x. PieceExit.Leaves 0 d x)) e.1, r.0, r.1)
      chalf-of now now2 (Flow.Goes Course.Continues env u) o q hid long2 below e = let r =
          cleft now now2 e.0 env q hid long2 below
          e.2 in (e.0, ap (λ z. then_way z (λ d x. PieceExit.Leaves 0 d x)) e.1, r.0, r.1)
      chalf-of now now2 (Flow.Goes Course.Breaks env u) o q hid long2 below e = let r =
          cleft now now2 e.0 env q hid long2 below
          e.2 in (e.0, ap (λ z. then_way z (λ d x. PieceExit.Leaves 0 d x)) e.1, (r.0.0, r.0.1 ∙ sym q, r.1))
      chalf-of now now2 (Flow.Goes Course.Skips env u) o q hid long2 below e = absurd e
      chalf-of now now2 (Flow.Ends t) o q hid long2 below e =
          ends-in t t.end (λ z. then_way z (λ d x. PieceExit.Leaves 0 d x)) o refl e

      -- the name, or what is received is dropped
      name-goes : (env : Env) (now : List Value) (v : Value) → CReady env now → (m at : ℕ) (us : List ℕ) (u : World)
          → NamedNow (behind C3 (range_names names false el C3)).locals C3.next now rest (channel_named names v env) u
          (run taking.gives m (O.channel_name l names C3) at us (frame now (v ∷ rest)) u)
      name-goes env now v ready m at us u =
          let q = ready.1 in
          let nx = cnext-is in
          let known : Known C3.locals C3.next env now = record {
            stored = subst (λ es. Stored es env now) (sym (append-nil cds)) ready.0;
            rising = subst (λ es. SlotsRise 0 C3.next es) (sym (append-nil cds)) (wider cds 0 ch rising);
          } in
          let ready3 : MayBegin C3 (range_names names false el C3) env now =
          record { known = known; room = omega (arith, room, q, nx) } in
          received-name names v ready3 single m at us u
        where
          wider : (es : List Local) (low high : ℕ) → SlotsRise low high es → SlotsRise low (high + 1) es
          wider [] low high r = omega (arith, r)
          wider (e ∷ es) low high r = (r.0, wider es (e.slot + 1) high r.1)

          by-blank : {s : Scope} {env : Env} {now : List Value} (b : Bool) (n : List ℕ) (v : Value)
              → MayBegin s (W.one_new (not b) n el s) env now → (m at : ℕ) (us : List ℕ) (u : World)
              → NamedNow (behind s (W.one_new (not b) n el s)).locals s.next now rest (cond b env (bound env n v)) u
              (run taking.gives m (cond b (op l Instr.Drop) (op l (Instr.Store s.next))) at us
              (frame now (v ∷ rest)) u)
          by-blank {s} {env} {now} true n v ready3 m at us u = (
            now,
            refl,
            subst (λ es. Stored es env now) (sym (append-nil s.locals)) ready3.known.stored,
            refl,
            λ j lt. refl,
          )
          by-blank {s} {env} {now} false n v ready3 m at us u = let few =
              ready3.room in tail-store taking s rest n el l ready3.known (omega (arith, few)) (v ∷ []) m at us u

          received-name : {s : Scope} {env : Env} {now : List Value} (names : RangeNames) (v : Value)
              → MayBegin s (range_names names false el s) env now → Single names → (m at : ℕ) (us : List ℕ) (u : World)
              → NamedNow (behind s (range_names names false el s)).locals s.next now rest (channel_named names v env) u
              (run taking.gives m (O.channel_name l names s) at us (frame now (v ∷ rest)) u)
          received-name {s} {env} {now} range.Neither v ready3 one m at us u = (
            now,
            refl,
            subst (λ es. Stored es env now) (sym (append-nil s.locals)) ready3.known.stored,
            refl,
            λ j lt. refl,
          )
          received-name {s} {env} {now} (range.One n) v ready3 one m at us u =
              let first : MayBegin s (W.one_new (not (is_blank n)) n el s) env now =
              record { known = ready3.known; room = ready3.room } in
              by-blank (is_blank n) n v first m at us u
          received-name (range.Two n k) v ready3 one m at us u = absurd one

      chalf : (env : Env) (now : List Value) (v : Value) → CReady env now → (at at2 : ℕ) (us : List ℕ) (u : World)
          → CHalf now (channel_step names cd v env u)
          (then_way (run taking.gives n (O.channel_name l names C3) at us (frame now (v ∷ rest)) u)
          (λ d x. then_way (run taking.gives n cbp at2 us d x) (λ d x. PieceExit.Leaves 0 d x)))
      chalf env now v ready at at2 us u =
          let k = name-goes env now v ready n at us u in
          let q = ready.1 in
          let env2 = channel_named names v env in
          let long2 = k.3 in
          let known : Known Cb.locals Cb.next env2 k.0 = record {
            stored = subst (λ es. Stored es env2 k.0) (append_assoc cds [] cdecl) k.2;
            rising = subst (λ m. SlotsRise 0 m (cds ++ cdecl)) cnext-is
                (rising-append cds cdecl 0 C3.next (behind C3 (range_names names false el C3)).next
                (wider cds 0 ch rising) rises);
          } in
          subst (λ z. CHalf now (cut z (cd env2 u))
          (then_way (run taking.gives n (O.channel_name l names C3) at us (frame now (v ∷ rest)) u)
          (λ d x. then_way (run taking.gives n cbp at2 us d x) (λ d x. PieceExit.Leaves 0 d x))))
          (sym (stored-length cds env now ready.0))
          (subst (λ z. CHalf now (cut (length cds) (cd env2 u))
          (then_way z (λ d x. then_way (run taking.gives n cbp at2 us d x) (λ d x. PieceExit.Leaves 0 d x)))) (sym k.1)
          (chalf-of now k.0 (cd env2 u) (run taking.gives n cbp at2 us (frame k.0 rest) u) ready.1 ready.2 k.3 k.4
          (body-exactly taking body means-body c2 Cb n env2 k.0 known
          (omega (arith, room, q, long2)) at2 us rest u)))
        where
          wider : (es : List Local) (low high : ℕ) → SlotsRise low high es → SlotsRise low (high + 1) es
          wider [] low high r = omega (arith, r)
          wider (e ∷ es) low high r = (r.0, wider es (e.slot + 1) high r.1)

      module _ (at : ℕ) (us : List ℕ) where
        abbrev cturn : Frame → World → PieceExit
        cturn = run taking.gives n (receiving l ch (O.channel_name l names C3) cbp) at us

        abbrev CG : List Value → Flow → PieceExit → Type 0
        CG now f o = Goes cds ch now rest cds a f o

        -- out of both blocks, with the drop between
        abbrev outside : PieceExit → PieceExit
        outside o = out_of (then_way (out_of o)
            (λ d x. then_way (run taking.gives n (op l Instr.Drop) 0 [] d x) (λ d x. PieceExit.Through d x)))

        -- after a body that goes on or continues
        turn-done : (m : ℕ) (to : Frame → World → PieceExit)
            → ((env : Env) (now : List Value) (u : World) → CReady env now
            → CG now (receives taking m el c (channel_step names cd) env u) (outside (to (frame now rest) u)))
            → (now : List Value) (env : Env) (u : World) (o : PieceExit) → length now ≡ count
            → CHalf now (Flow.Goes Course.On env u) o
            → CG now (receives taking m el c (channel_step names cd) env u) (outside (once_more o to))
        turn-done m to rec now env u o q g =
            let came : Came cds ch now g.0 = record { long = g.2.1 ∙ sym q; kept = g.3 } in
            subst (λ z. CG now (receives taking m el c (channel_step names cd) env u) (outside (once_more z to)))
            (sym g.1) (goes-trans rest a cds (receives taking m el c (channel_step names cd) env u)
            (outside (to (frame g.0 rest) u)) came (rec env g.0 u g.2))

        chalf-goes : (m : ℕ) (to : Frame → World → PieceExit)
            → ((env : Env) (now : List Value) (u : World) → CReady env now
            → CG now (receives taking m el c (channel_step names cd) env u) (outside (to (frame now rest) u)))
            → (now : List Value) (f : Flow) (o : PieceExit) → length now ≡ count → CHalf now f o
            → CG now (turned f (receives taking m el c (channel_step names cd))) (outside (once_more o to))
        chalf-goes m to rec now (Flow.Goes Course.On env u) o q g = turn-done m to rec now env u o q g
        chalf-goes m to rec now (Flow.Goes Course.Continues env u) o q g = turn-done m to rec now env u o q g
        chalf-goes m to rec now (Flow.Goes Course.Breaks env u) o q g =
            (g.0, ap (λ z. outside (once_more z to)) g.1, g.2)
        chalf-goes m to rec now (Flow.Goes Course.Skips env u) o q g = absurd g
        chalf-goes m to rec now (Flow.Ends t) o q g = ends-in t t.end (λ z. outside (once_more z to)) o refl g

        cbool-goes : (m : ℕ) (to : Frame → World → PieceExit) (at3 : ℕ)
            → ((env : Env) (now : List Value) (u : World) → CReady env now
            → CG now (receives taking m el c (channel_step names cd) env u) (outside (to (frame now rest) u)))
            → (env : Env) (now : List Value) (v : Value) (u : World) → CReady env now → (b : Option Bool)
            → CG now (by_test b u (turned (channel_step names cd v env u)
            (receives taking m el c (channel_step names cd))) (Flow.Goes Course.On env u))
            (outside (once_more (then_way (unless_true
            (on_kind (λ x. V.Part.Gives (x, frame now (v ∷ rest)) u) u b) 1)
            (run taking.gives n (all (O.channel_name l names C3 ∷ cbp ∷ Piece.Exit l 0 ∷ [])) at3 us)) to))
        cbool-goes m to at3 rec env now v u ready None = refl
        cbool-goes m to at3 rec env now v u ready (Some true) =
            chalf-goes m to rec now (channel_step names cd v env u)
            (run taking.gives n (all (O.channel_name l names C3 ∷ cbp ∷ Piece.Exit l 0 ∷ [])) at3 us
            (frame now (v ∷ rest)) u) ready.1 (chalf env now v ready at3
            (at3 + size (O.channel_name l names C3)) us u)
        cbool-goes m to at3 rec env now v u ready (Some false) = (now, refl, (ready.0, refl, λ j lt q. refl))

        pub receives-go : (m : ℕ) (env : Env) (now : List Value) (u : World) → CReady env now
            → CG now (receives taking m el c (channel_step names cd) env u)
            (outside (rounds m cturn (frame now rest) u))
        receives-go zero env now u ready = refl
        receives-go (suc m) env now u ready =
            let p = visible taking Instr.ReceiveOk (el ∷ (W.bool_type ∷ [])) (c ∷ []) u in
            let f : List Value → World → Flow = λ vs y. received_two vs y
            (λ v ok z. by_test (bool_of ok) z (turned (channel_step names cd v env z)
            (receives taking m el c (channel_step names cd))) (Flow.Goes Course.On env z)) in
            let after_it = all (Piece.Unless l 1 ∷ O.channel_name l names C3 ∷ cbp ∷ Piece.Exit l 0 ∷ []) in
            subst (λ o. CG now (after p f) (outside (once_more o (rounds m cturn))))
            (sym (load-step taking n l ch (Piece.Then (op l Instr.ReceiveOk) after_it) at us now rest u ready.2))
            (goes-after (Goes cds ch now rest cds a) (λ t o h. h) p f (OnTop now rest)
            (λ o. outside (once_more (then_way o (run taking.gives n after_it (at + 1 + 1) us)) (rounds m cturn)))
            (run taking.gives n (op l Instr.ReceiveOk) (at + 1) us (frame now (c ∷ rest)) u) (λ g os. refl)
            (turn-visible taking now l Instr.ReceiveOk (el ∷ (W.bool_type ∷ [])) (c ∷ []) refl n (at + 1) us rest u)
            (λ vs y o e. subst (λ z. CG now (f vs y)
            (outside (once_more (then_way z (run taking.gives n after_it (at + 1 + 1) us)) (rounds m cturn))))
            (sym e) (by vs y (λ v ok z. cbool-goes m (rounds m cturn) (at + 1 + 1 + 1)
            (receives-go m) env now v z ready (bool_of ok)))))
          where
            by : (vs : List Value) (y : World) → ((v ok : Value) (z : World)
                → CG now (by_test (bool_of ok) z (turned (channel_step names cd v env z)
                (receives taking m el c (channel_step names cd))) (Flow.Goes Course.On env z))
                (outside (once_more (then_way (unless_true
                (on_kind (λ x. V.Part.Gives (x, frame now (v ∷ rest)) z) z (bool_of ok)) 1)
                (run taking.gives n (all (O.channel_name l names C3 ∷ cbp ∷ Piece.Exit l 0 ∷ [])) (at + 1 + 1 + 1) us))
                (rounds m cturn))))
                → CG now (received_two vs y (λ v ok z. by_test (bool_of ok) z
                (turned (channel_step names cd v env z) (receives taking m el c (channel_step names cd)))
                (Flow.Goes Course.On env z)))
                (outside (once_more (run taking.gives n
                (all (Piece.Unless l 1 ∷ O.channel_name l names C3 ∷ cbp ∷ Piece.Exit l 0 ∷ [])) (at + 1 + 1) us
                (frame now (pushed vs rest)) y) (rounds m cturn)))
            by [] y k = tt
            by (v ∷ []) y k = tt
            by (v ∷ (ok ∷ [])) y k = k v ok y
            by (v ∷ (ok ∷ (x ∷ vs))) y k = tt
