-- The code of a left side reads and stores its place.
-- For: `Location`, specs/Exprs.antt; `Matches`, specs/Does.antt
-- By: cases of the kind of place and of the outcome of its parts; no induction
use Rattle.std.proofs.Common.{◌≡◌, ℕ, ◌+◌, ◌==◌, Bool, true, false, List, [], ◌∷◌, ◌++◌, length, Option, Some, refl, ap}
use Rattle.std.proofs.Common.{sym, ◌∙◌, subst, slice_get, slice_set, arith}
use Rattle.std.proofs.lemmas.Map.Views.{exact_unsigned_eq}
use Rattle.std.proofs.lemmas.List.{length-set}
use Rattle.std.proofs.lemmas.Option.{slice_get_within}
use Rattle.golf_data.specs.declared.value.Value.{Value}
use Rattle.golf_data.specs.declared.code.Instr.{Instr}
use Rattle.golf_check_types.specs.declared.types.GoType.{GoType}
use Rattle.golf_check_types.specs.declared.locals.Local.{Local}
use Rattle.golf_code_layout.specs.Piece.{Piece, all, op, size}
use Rattle.golf_data.specs.Effects.{taken}
use Rattle.golf_code_of.specs.Expressions as C
use Rattle.golf_meaning_flat.specs.Worlds.{World, Part, bind, pushed}
use Rattle.golf_meaning_flat.specs.InstructionEffects.{unfit, on_some, chosen_by, shows, Doing, doing}
use Rattle.golf_meaning_flat.specs.Structured.{PieceExit, from_part, then_way, run}
use Rattle.golf_meaning_source.specs.Names.{Env, find}
use Rattle.golf_meaning_source.specs.Operations.{Taking, Gives, gives, then_do, answered, visible}
use Rattle.golf_meaning_source.specs.Exprs.{Location, found, if_none, read, store, assigned}
use Rattle.golf_meaning_source.specs.Does.{frame, Sim, OnTop, Turns, Stored, Changed, Tail, Matches, Known}
use Rattle.golf_meaning_source.proofs.Turning.{sim-in, turn-none, tail-then, tail-over, turn-last, turn-visible}
use Rattle.golf_meaning_source.proofs.Turning.{turn-after, over, pushed-append}
use Rattle.golf_meaning_source.proofs.Environments.{last, IsLocal, stored-assign, set-other, apart-last}

module _ (taking : Taking) where
  module _ (slots : List Value) where
    abbrev T : Piece → List Value → Gives → Type 0
    T = Turns taking slots

    -- nothing stands before it
    pub turn-skip : (q : Piece) (vs : List Value) (f : Gives) → T q vs f → T (Piece.Then Piece.Empty q) vs f
    turn-skip q vs f h n at ts rest w = h n (at + 0) ts rest w

    -- what is known to give these
    pub turn-step : (p q : Piece) (vs us : List Value) (f : Gives) → T p vs (gives us) → T q us f
        → T (Piece.Then p q) vs f
    turn-step p q vs us f hp hq n at ts rest w =
        subst (λ z. Sim (f w) (OnTop slots rest) (then_way z (run taking.gives n q (at + size p) ts)))
        (sym (hp n at ts rest w)) (hq n (at + size p) ts rest w)

    -- on top of others
    pub turn-over-more : (q : Piece) (xs vs : List Value) (g : Gives) → T q vs g
        → T q (xs ++ vs) (over taking slots xs g)
    turn-over-more q xs vs g h n at ts rest w =
        subst (λ z. Sim (over taking slots xs g w) (OnTop slots rest) (run taking.gives n q at ts (frame slots z) w))
        (sym (pushed-append xs vs rest))
        (sim-in (g w) (λ ys v. Part.Gives (xs ++ ys) v) (OnTop slots (pushed xs rest)) (OnTop slots rest) (λ o. o)
        (run taking.gives n q at ts (frame slots (pushed vs (pushed xs rest))) w) (λ h os. refl)
        (h n at ts (pushed xs rest) w)
        (λ ys v i e. e ∙ ap (λ z. PieceExit.Through (frame slots z) v) (sym (pushed-append xs ys rest))))

    pub tail-skip : {B : Type 0} (rest : List Value) (q : Piece) (vs : List Value) (f : World → Part B)
        (L : B → World → PieceExit → Type 0) → Tail taking slots rest q vs f L
        → Tail taking slots rest (Piece.Then Piece.Empty q) vs f L
    tail-skip rest q vs f L h n at ts w = h n (at + 0) ts w

    pub tail-step : {B : Type 0} (rest : List Value) (p q : Piece) (vs us : List Value) (f : World → Part B)
        (L : B → World → PieceExit → Type 0) → T p vs (gives us) → Tail taking slots rest q us f L
        → Tail taking slots rest (Piece.Then p q) vs f L
    tail-step rest p q vs us f L hp hq n at ts w =
        subst (λ z. Sim (f w) L (then_way z (run taking.gives n q (at + size p) ts))) (sym (hp n at ts rest w))
        (hq n (at + size p) ts w)

    -- if an operation has as many operands as it takes
    pub tail-when : {B : Type 0} (rest : List Value) (p : Piece) (i : Instr) (leaves : List (Option GoType))
        (vs : List Value) (k : List Value → World → Part B) (L : B → World → PieceExit → Type 0)
        → (length vs ≡ taken i → Tail taking slots rest p vs (λ w. bind (visible taking i leaves vs w) k) L)
        → Tail taking slots rest p vs (λ w. bind (visible taking i leaves vs w) k) L
    tail-when rest p i leaves vs k L h n at ts w = by (length vs == taken i) refl
      where
        by : (b : Bool) → (length vs == taken i) ≡ b
            → Sim (bind (chosen_by b (answered taking i leaves vs w) (unfit w)) k) L
            (run taking.gives n p at ts (frame slots (pushed vs rest)) w)
        by true e = subst (λ b. Sim (bind (chosen_by b (answered taking i leaves vs w) (unfit w)) k) L
            (run taking.gives n p at ts (frame slots (pushed vs rest)) w)) e
            (h (exact_unsigned_eq (length vs) (taken i) e) n at ts w)
        by false e = tt

    -- a place is read on top of its one operand, or of its two
    pub again-one : {B : Type 0} (rest : List Value) (l : ℕ) (i : Instr) (leaves : List (Option GoType))
        (vs : List Value) (q : Piece) (g : List Value → World → Part B) (L : B → World → PieceExit → Type 0)
        → doing taking.gives i ≡ Doing.Acts (shows taking.gives i) → taken i ≡ 1
        → ((xs : List Value) → Tail taking slots rest q (vs ++ xs) (g xs) L)
        → Tail taking slots rest (Piece.Then (op l Instr.Dup) (Piece.Then (op l i) q)) vs
        (λ w. bind (visible taking i leaves vs w) g) L
    again-one rest l i leaves [] q g L e one h =
        tail-when rest (Piece.Then (op l Instr.Dup) (Piece.Then (op l i) q)) i leaves [] g L
        (λ f. absurd {0} (omega (arith, one, f)))
    again-one rest l i leaves (x ∷ []) q g L e one h =
        let vs : List Value = (x ∷ []) in
        tail-step rest (op l Instr.Dup) (Piece.Then (op l i) q) vs (vs ++ vs)
        (λ w. bind (visible taking i leaves vs w) g) L (λ n at ts rest w. refl)
        (tail-over taking slots rest (op l i) q (vs ++ vs) vs (visible taking i leaves vs) g L
        (turn-over-more (op l i) vs vs (visible taking i leaves vs) (turn-visible taking slots l i leaves vs e)) h)
    again-one rest l i leaves (x ∷ (y ∷ vs)) q g L e one h =
        tail-when rest (Piece.Then (op l Instr.Dup) (Piece.Then (op l i) q)) i leaves (x ∷ (y ∷ vs)) g L
        (λ f. absurd {0} (omega (arith, one, f)))

    pub again-two : {B : Type 0} (rest : List Value) (l : ℕ) (i : Instr) (leaves : List (Option GoType))
        (vs : List Value) (q : Piece) (g : List Value → World → Part B) (L : B → World → PieceExit → Type 0)
        → doing taking.gives i ≡ Doing.Acts (shows taking.gives i) → taken i ≡ 2
        → ((xs : List Value) → Tail taking slots rest q (vs ++ xs) (g xs) L)
        → Tail taking slots rest (Piece.Then (op l Instr.Dup2) (Piece.Then (op l i) q)) vs
        (λ w. bind (visible taking i leaves vs w) g) L
    again-two rest l i leaves [] q g L e two h =
        tail-when rest (Piece.Then (op l Instr.Dup2) (Piece.Then (op l i) q)) i leaves [] g L
        (λ f. absurd {0} (omega (arith, two, f)))
    again-two rest l i leaves (x ∷ []) q g L e two h =
        tail-when rest (Piece.Then (op l Instr.Dup2) (Piece.Then (op l i) q)) i leaves (x ∷ []) g L
        (λ f. absurd {0} (omega (arith, two, f)))
    again-two rest l i leaves (x ∷ (y ∷ [])) q g L e two h =
        let vs : List Value = (x ∷ (y ∷ [])) in
        tail-step rest (op l Instr.Dup2) (Piece.Then (op l i) q) vs (vs ++ vs)
        (λ w. bind (visible taking i leaves vs w) g) L (λ n at ts rest w. refl)
        (tail-over taking slots rest (op l i) q (vs ++ vs) vs (visible taking i leaves vs) g L
        (turn-over-more (op l i) vs vs (visible taking i leaves vs) (turn-visible taking slots l i leaves vs e)) h)
    again-two rest l i leaves (x ∷ (y ∷ (z ∷ vs))) q g L e two h =
        tail-when rest (Piece.Then (op l Instr.Dup2) (Piece.Then (op l i) q)) i leaves (x ∷ (y ∷ (z ∷ vs))) g L
        (λ f. absurd {0} (omega (arith, two, f)))

    module _ (ds : List Local) (env : Env) where
      -- a store that is an operation
      pub stores-visible : (p : Piece) (vs : List Value) (f : Gives) → T p vs f → Stored ds env slots
          → (n at : ℕ) (ts : List ℕ) (rest : List Value) (w : World)
          → Sim (bind (f w) (λ us u. if_none us u (Part.Gives env u))) (Changed ds slots rest)
          (run taking.gives n p at ts (frame slots (pushed vs rest)) w)
      stores-visible p vs f h ok n at ts rest w =
          sim-in (f w) (λ us u. if_none us u (Part.Gives env u)) (OnTop slots rest) (Changed ds slots rest) (λ o. o)
          (run taking.gives n p at ts (frame slots (pushed vs rest)) w) (λ s os. refl) (h n at ts rest w) by
        where
          by : (us : List Value) (u : World) (o : PieceExit) → OnTop slots rest us u o
              → Sim (if_none us u (Part.Gives env u)) (Changed ds slots rest) o
          by [] u o e = (slots, e, ok, refl, λ i a. refl)
          by (x ∷ us) u o e = tt

      -- no place
      pub matches-only : (p : Piece) (f : Gives) → T p [] f
          → Matches taking ds slots env f Location.Nowhere (λ w. Part.Gives [] w) (C.only p)
      matches-only p f h = record {
        value_turns = h;
        parts_turn = turn-none taking slots [];
        again = by;
        stores = λ vs n at ts rest w. tt;
      }
        where
          by : (rest vs : List Value) (q : Piece) (g : List Value → World → Part Env)
              → ((xs : List Value) → Tail taking slots rest q (vs ++ xs) (g xs) (Changed ds slots rest))
              → Tail taking slots rest (Piece.Then Piece.Empty (Piece.Then Piece.Empty q)) vs
              (λ w. bind (if_none vs w (Part.Gives [] w)) g) (Changed ds slots rest)
          by rest [] q g k = tail-skip rest (Piece.Then Piece.Empty q) [] (g []) (Changed ds slots rest)
              (tail-skip rest q [] (g []) (Changed ds slots rest) (k []))
          by rest (v ∷ vs) q g k = λ n at ts w. tt

      pub matches-field : (l i : ℕ) (t : Option GoType) (p : Piece) (f : Gives) → T p [] f → Stored ds env slots
          → Matches taking ds slots env (then_do f (read taking env (Location.Field i t))) (Location.Field i t) f
          (C.in_place p (op l Instr.Dup) (op l (Instr.Field i)) (op l (Instr.SetField i)))
      matches-field l i t p f h ok = record {
        value_turns = turn-after taking slots p (op l (Instr.Field i)) f _ h
            (λ us. turn-visible taking slots l (Instr.Field i) (t ∷ []) us refl);
        parts_turn = h;
        again = λ rest vs q g k. again-one rest l (Instr.Field i) (t ∷ []) vs q g (Changed ds slots rest) refl refl k;
        stores = λ vs. stores-visible (op l (Instr.SetField i)) vs (visible taking (Instr.SetField i) [] vs)
            (turn-visible taking slots l (Instr.SetField i) [] vs refl) ok;
      }

      pub matches-element : (l : ℕ) (t : Option GoType) (p : Piece) (f : Gives) → T p [] f → Stored ds env slots
          → Matches taking ds slots env (then_do f (read taking env (Location.Element t))) (Location.Element t) f
          (C.in_place p (op l Instr.Dup2) (op l Instr.Index) (op l Instr.SetIndex))
      matches-element l t p f h ok = record {
        value_turns = turn-after taking slots p (op l Instr.Index) f _ h
            (λ us. turn-visible taking slots l Instr.Index (t ∷ []) us refl);
        parts_turn = h;
        again = λ rest vs q g k. again-two rest l Instr.Index (t ∷ []) vs q g (Changed ds slots rest) refl refl k;
        stores = λ vs. stores-visible (op l Instr.SetIndex) vs (visible taking Instr.SetIndex [] vs)
            (turn-visible taking slots l Instr.SetIndex [] vs refl) ok;
      }

      -- a global
      pub matches-global : (l g : ℕ) (t : Option GoType) → Stored ds env slots
          → Matches taking ds slots env (visible taking (Instr.LoadGlobal g) (t ∷ []) []) (Location.Global g t)
          (gives [])
          (C.in_place Piece.Empty Piece.Empty (op l (Instr.LoadGlobal g)) (op l (Instr.StoreGlobal g)))
      matches-global l g t ok = record {
        value_turns = turn-skip (all (op l (Instr.LoadGlobal g) ∷ [])) [] _
            (turn-last taking slots (op l (Instr.LoadGlobal g)) [] _
            (turn-visible taking slots l (Instr.LoadGlobal g) (t ∷ []) [] refl));
        parts_turn = turn-none taking slots [];
        again = by;
        stores = λ vs. stores-visible (op l (Instr.StoreGlobal g)) vs (visible taking (Instr.StoreGlobal g) [] vs)
            (turn-visible taking slots l (Instr.StoreGlobal g) [] vs refl) ok;
      }
        where
          by : (rest vs : List Value) (q : Piece) (f : List Value → World → Part Env)
              → ((xs : List Value) → Tail taking slots rest q (vs ++ xs) (f xs) (Changed ds slots rest))
              → Tail taking slots rest (Piece.Then Piece.Empty (Piece.Then (op l (Instr.LoadGlobal g)) q)) vs
              (λ w. bind (if_none vs w (visible taking (Instr.LoadGlobal g) (t ∷ []) [] w)) f) (Changed ds slots rest)
          by rest [] q f k =
              tail-skip rest (Piece.Then (op l (Instr.LoadGlobal g)) q) []
              (λ w. bind (visible taking (Instr.LoadGlobal g) (t ∷ []) [] w) f) (Changed ds slots rest)
              (tail-then taking slots rest (op l (Instr.LoadGlobal g)) q []
              (visible taking (Instr.LoadGlobal g) (t ∷ []) []) f (Changed ds slots rest)
              (turn-visible taking slots l (Instr.LoadGlobal g) (t ∷ []) [] refl) k)
          by rest (v ∷ vs) q f k = λ n at ts w. tt

      turn-load : (l i : ℕ) (v : Value) → slice_get slots i ≡ Some v → T (op l (Instr.Load i)) [] (gives (v ∷ []))
      turn-load l i v e n at ts rest w = ap (λ o. from_part
          (on_some (λ x. Part.Gives (record { slots = slots; operands = x ∷ rest }) w) w o)) e

      -- a local
      pub matches-local : (l next : ℕ) (d : Local) (n : List ℕ) (v : Value) → Known ds next env slots
          → last ds n ≡ Some d → find env n ≡ Some v → slice_get slots d.slot ≡ Some v
          → Matches taking ds slots env (gives (v ∷ [])) (Location.Local n) (gives [])
          (C.in_place Piece.Empty Piece.Empty (op l (Instr.Load d.slot)) (op l (Instr.Store d.slot)))
      matches-local l next d n v ok there is e = record {
        value_turns = turn-skip (all (op l (Instr.Load d.slot) ∷ [])) [] (gives (v ∷ []))
            (turn-last taking slots (op l (Instr.Load d.slot)) [] (gives (v ∷ [])) (turn-load l d.slot v e));
        parts_turn = turn-none taking slots [];
        again = by;
        stores = put;
      }
        where
          by : (rest vs : List Value) (q : Piece) (f : List Value → World → Part Env)
              → ((xs : List Value) → Tail taking slots rest q (vs ++ xs) (f xs) (Changed ds slots rest))
              → Tail taking slots rest (Piece.Then Piece.Empty (Piece.Then (op l (Instr.Load d.slot)) q)) vs
              (λ w. bind (if_none vs w (found (find env n) w)) f) (Changed ds slots rest)
          by rest [] q f k =
              subst (λ o. Tail taking slots rest (Piece.Then Piece.Empty (Piece.Then (op l (Instr.Load d.slot)) q)) []
              (λ w. bind (found o w) f) (Changed ds slots rest)) (sym is)
              (tail-skip rest (Piece.Then (op l (Instr.Load d.slot)) q) [] (f (v ∷ [])) (Changed ds slots rest)
              (tail-then taking slots rest (op l (Instr.Load d.slot)) q [] (gives (v ∷ [])) f
              (Changed ds slots rest) (turn-load l d.slot v e) k))
          by rest (x ∷ vs) q f k = λ m at ts w. tt

          put : (vs : List Value) (m at : ℕ) (ts : List ℕ) (rest : List Value) (w : World)
              → Sim (store taking env (Location.Local n) vs w) (Changed ds slots rest)
              (run taking.gives m (op l (Instr.Store d.slot)) at ts (frame slots (pushed vs rest)) w)
          put [] m at ts rest w = tt
          put (x ∷ []) m at ts rest w =
              let local : IsLocal ds env slots n 0 next d =
              record {
                rising = ok.rising;
                stored = ok.stored;
                means = there;
                within = slice_get_within slots d.slot v e;
              } in
              subst (λ o. Sim (assigned env n o x w) (Changed ds slots rest)
              (run taking.gives m (op l (Instr.Store d.slot)) at ts (frame slots (x ∷ rest)) w)) (sym is) (
                slice_set slots d.slot x,
                ap (λ o. from_part (on_some (λ (old : Value). Part.Gives
                    (record { slots = slice_set slots d.slot x; operands = rest }) w) w o)) e,
                stored-assign ds env x local,
                length-set slots d.slot x,
                λ i a. set-other slots d.slot i x (λ q. apart-last ds n i d a there (sym q)),
              )
          put (x ∷ (y ∷ vs)) m at ts rest w = tt

      -- what is put into `_` is dropped
      pub matches-blank : (l : ℕ) → Stored ds env slots
          → Matches taking ds slots env (gives []) Location.Blank (gives [])
          (C.in_place Piece.Empty Piece.Empty Piece.Empty (op l Instr.Drop))
      matches-blank l ok = record {
        value_turns = turn-skip (all (Piece.Empty ∷ [])) [] (gives [])
            (turn-skip Piece.Empty [] (gives []) (turn-none taking slots []));
        parts_turn = turn-none taking slots [];
        again = by;
        stores = put;
      }
        where
          by : (rest vs : List Value) (q : Piece) (g : List Value → World → Part Env)
              → ((xs : List Value) → Tail taking slots rest q (vs ++ xs) (g xs) (Changed ds slots rest))
              → Tail taking slots rest (Piece.Then Piece.Empty (Piece.Then Piece.Empty q)) vs
              (λ w. bind (if_none vs w (Part.Gives [] w)) g) (Changed ds slots rest)
          by rest [] q g k = tail-skip rest (Piece.Then Piece.Empty q) [] (g []) (Changed ds slots rest)
              (tail-skip rest q [] (g []) (Changed ds slots rest) (k []))
          by rest (v ∷ vs) q g k = λ n at ts w. tt

          put : (vs : List Value) (m at : ℕ) (ts : List ℕ) (rest : List Value) (w : World)
              → Sim (store taking env Location.Blank vs w) (Changed ds slots rest)
              (run taking.gives m (op l Instr.Drop) at ts (frame slots (pushed vs rest)) w)
          put [] m at ts rest w = tt
          put (x ∷ []) m at ts rest w = (slots, refl, ok, refl, λ i a. refl)
          put (x ∷ (y ∷ vs)) m at ts rest w = tt
