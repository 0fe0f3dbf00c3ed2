-- Code that does what is said, put together.
-- For: `Turns` and `Tail`, specs/Does.antt
-- By: cases of the outcome of a part; induction over the list of values on the stack
use Rattle.std.proofs.Common.{◌≡◌, ℕ, suc, ◌+◌, ◌==◌, ◌||◌, Bool, true, false, not, List, [], ◌∷◌, ◌++◌, length, Option}
use Rattle.std.proofs.Common.{Some, None, refl, ap, sym, ◌∙◌, subst, arith, append-nil}
use Rattle.std.proofs.lemmas.Map.Views.{exact_unsigned_eq}
use Rattle.golf_data.specs.declared.value.Value.{Value}
use Rattle.golf_data.specs.declared.code.Instr.{Instr}
use Rattle.golf_check_types.specs.declared.types.GoType.{GoType}
use Rattle.golf_code_layout.specs.Piece.{Piece, all, op, size}
use Rattle.golf_data.specs.Effects.{taken}
use Rattle.golf_model.specs.Values.{bool_of}
use Rattle.golf_code_of.specs.Expressions.{either}
use Rattle.golf_meaning_flat.specs.Worlds.{Answer, Halt, World, Part, halted, bind, asked, done, pushed}
use Rattle.golf_meaning_flat.specs.InstructionEffects.{Frame, unfit, miscount, goes, gets, on_kind, some_from}
use Rattle.golf_meaning_flat.specs.InstructionEffects.{chosen_by}
use Rattle.golf_meaning_flat.specs.InstructionEffects.{acts_on_one, acts_on_two, shows, panics, Doing, doing}
use Rattle.golf_meaning_flat.specs.Flat.{tests}
use Rattle.golf_meaning_flat.specs.Structured.{PieceExit, from_part, acted, then_way, unless_true, out_of, run}
use Rattle.golf_meaning_flat.proofs.Halting.{said, said-as}
use Rattle.golf_meaning_source.specs.Operations.{Taking, Gives, gives, both, then_do, all_fit, misfit, answered}
use Rattle.golf_meaning_source.specs.Operations.{visible, panicking, on_one, on_two, by_bool, if_true}
use Rattle.golf_meaning_source.specs.Does.{frame, Sim, OnTop, Turns, Tail}

pub then-end : (o : PieceExit) → then_way o (λ c w. PieceExit.Through c w) ≡ o
then-end (PieceExit.Through c w) = refl
then-end (PieceExit.Leaves k c w) = refl
then-end (PieceExit.Ends t) = refl
then-end PieceExit.Lost = refl

-- under a context that lets ends through
pub sim-in : {A B : Type 0} (p : Part A) (f : A → World → Part B) (K : A → World → PieceExit → Type 0)
    (L : B → World → PieceExit → Type 0) (C : PieceExit → PieceExit) (o : PieceExit)
    → ((h : Halt) (os : List Rattle.golf_meaning_flat.specs.Worlds.Operation)
    → C (PieceExit.Ends (halted h os)) ≡ PieceExit.Ends (halted h os)) → Sim p K o
    → ((a : A) (u : World) (i : PieceExit) → K a u i → Sim (f a u) L (C i)) → Sim (bind p f) L (C o)
sim-in (Part.Gives a u) f K L C o strict h k = k a u o h
sim-in (Part.Stops s os) f K L C o strict h k = said-as s _ _ h (λ e. ap C e ∙ strict s os)

-- the same with nothing after it
pub sim-into : {A : Type 0} (p : Part A) (K : A → World → PieceExit → Type 0) (L : A → World → PieceExit → Type 0)
    (C : PieceExit → PieceExit)
    (o : PieceExit) → ((h : Halt) (os : List Rattle.golf_meaning_flat.specs.Worlds.Operation)
    → C (PieceExit.Ends (halted h os)) ≡ PieceExit.Ends (halted h os)) → Sim p K o
    → ((a : A) (u : World) (i : PieceExit) → K a u i → L a u (C i)) → Sim p L (C o)
sim-into (Part.Gives a u) K L C o strict h k = k a u o h
sim-into (Part.Stops s os) K L C o strict h k = said-as s _ _ h (λ e. ap C e ∙ strict s os)

pub bind-assoc : {A B C : Type 0} (p : Part A) (f : A → World → Part B) (g : B → World → Part C)
    → bind p (λ a u. bind (f a u) g) ≡ bind (bind p f) g
bind-assoc (Part.Gives a u) f g = refl
bind-assoc (Part.Stops h os) f g = refl

-- a part by which an instruction acts
pub sim-part : {A B : Type 0} (p : Part A) (f : A → B) (to : A → Frame) (L : B → World → PieceExit → Type 0)
    → ((a : A) (u : World) → L (f a) u (PieceExit.Through (to a) u))
    → Sim (bind p (λ a u. Part.Gives (f a) u)) L (from_part (bind p (λ a u. Part.Gives (to a) u)))
sim-part (Part.Gives a u) f to L k = k a u
sim-part (Part.Stops s os) f to L k = said s _ refl

-- operands

pub pushed-append : (xs ys rest : List Value) → pushed (xs ++ ys) rest ≡ pushed ys (pushed xs rest)
pushed-append [] ys rest = refl
pushed-append (x ∷ xs) ys rest = pushed-append xs ys (x ∷ rest)

some-take : {A : Type 0} (w : World) (vs acc rest : List Value) (m : ℕ) (f : List Value → List Value → Part A)
    → some_from w (length vs + m) acc f (pushed vs rest) ≡ some_from w m (vs ++ acc) f rest
some-take w [] acc rest m f = ap (λ k. some_from w k acc f rest) (omega arith)
some-take w (v ∷ vs) acc rest m f = ap (λ k. some_from w k acc f (pushed vs (v ∷ rest))) (omega arith)
    ∙ some-take w vs acc (v ∷ rest) (suc m) f

pub takes-all : {A : Type 0} (w : World) (n : ℕ) (vs rest : List Value) (f : List Value → List Value → Part A)
    → length vs ≡ n → some_from w n [] f (pushed vs rest) ≡ f vs rest
takes-all w n vs rest f e =
    ap (λ k. some_from w k [] f (pushed vs rest)) (omega (arith, e)) ∙ some-take w vs [] rest 0 f
    ∙ ap (λ xs. f xs rest) (append-nil vs)

module _ (taking : Taking) where
  module _ (slots : List Value) where
    abbrev T : Piece → List Value → Gives → Type 0
    T = Turns taking slots

    -- the same, said in another way
    pub turn-as : (p : Piece) (vs : List Value) (f g : Gives) → ((w : World) → f w ≡ g w) → T p vs f → T p vs g
    turn-as p vs f g e h n at ts rest w = subst
        (λ x. Sim x (OnTop slots rest) (run taking.gives n p at ts (frame slots (pushed vs rest)) w)) (e w)
        (h n at ts rest w)

    pub turn-none : (vs : List Value) → T Piece.Empty vs (gives vs)
    turn-none vs n at ts rest w = refl

    pub turn-then : (p q : Piece) (vs : List Value) (f : Gives) (g : List Value → Gives) → T p vs f
        → ((us : List Value) → T q us (g us)) → T (Piece.Then p q) vs (then_do f g)
    turn-then p q vs f g hp hq n at ts rest w =
        sim-in (f w) g (OnTop slots rest) (OnTop slots rest) (λ o. then_way o (run taking.gives n q (at + size p) ts))
        (run taking.gives n p at ts (frame slots (pushed vs rest)) w) (λ h os. refl) (hp n at ts rest w)
        (λ us u i e. subst (λ z. Sim (g us u) (OnTop slots rest) (then_way z (run taking.gives n q (at + size p) ts)))
        (sym e) (hq us n (at + size p) ts rest u))

    -- the same, followed by something else
    pub tail-then : {B : Type 0} (rest : List Value) (p q : Piece) (vs : List Value) (f : Gives)
        (g : List Value → World → Part B) (L : B → World → PieceExit → Type 0) → T p vs f
        → ((us : List Value) → Tail taking slots rest q us (g us) L)
        → Tail taking slots rest (Piece.Then p q) vs (λ w. bind (f w) g) L
    tail-then rest p q vs f g L hp hq n at ts w =
        sim-in (f w) g (OnTop slots rest) L (λ o. then_way o (run taking.gives n q (at + size p) ts))
        (run taking.gives n p at ts (frame slots (pushed vs rest)) w) (λ h os. refl) (hp n at ts rest w)
        (λ us u i e. subst (λ z. Sim (g us u) L (then_way z (run taking.gives n q (at + size p) ts))) (sym e)
        (hq us n (at + size p) ts u))

    pub tail-end : {B : Type 0} (rest : List Value) (p : Piece) (vs : List Value) (f : World → Part B)
        (L : B → World → PieceExit → Type 0) → Tail taking slots rest p vs f L
        → Tail taking slots rest (all (p ∷ [])) vs f L
    tail-end rest p vs f L h n at ts w = subst (λ o. Sim (f w) L o)
        (sym (then-end (run taking.gives n p at ts (frame slots (pushed vs rest)) w))) (h n at ts w)

    pub turn-last : (p : Piece) (vs : List Value) (f : Gives) → T p vs f → T (all (p ∷ [])) vs f
    turn-last p vs f h n at ts rest w = subst (λ o. Sim (f w) (OnTop slots rest) o)
        (sym (then-end (run taking.gives n p at ts (frame slots (pushed vs rest)) w))) (h n at ts rest w)

    -- on top of others
    abbrev pub over : List Value → Gives → Gives
    over xs g w = bind (g w) (λ ys v. Part.Gives (xs ++ ys) v)

    pub turn-over : (q : Piece) (xs : List Value) (g : Gives) → T q [] g → T q xs (over xs g)
    turn-over q xs g h n at ts rest w =
        sim-in (g w) (λ ys v. Part.Gives (xs ++ ys) v) (OnTop slots (pushed xs rest)) (OnTop slots rest) (λ o. o)
        (run taking.gives n q at ts (frame slots (pushed xs rest)) w) (λ h os. refl) (h n at ts (pushed xs rest) w)
        (λ ys v i e. e ∙ ap (λ z. PieceExit.Through (frame slots z) v) (sym (pushed-append xs ys rest)))

    sim-over : {B : Type 0} (rest vs : List Value) (p : Part (List Value)) (g : List Value → World → Part B)
        (L : B → World → PieceExit → Type 0) (o : PieceExit) (to : Frame → World → PieceExit)
        → Sim (bind p (λ ys v. Part.Gives (vs ++ ys) v)) (OnTop slots rest) o
        → ((ys : List Value) (u : World) → Sim (g ys u) L (to (frame slots (pushed (vs ++ ys) rest)) u))
        → Sim (bind p g) L (then_way o to)
    sim-over rest vs (Part.Gives ys u) g L o to h k = subst (λ z. Sim (g ys u) L (then_way z to)) (sym h) (k ys u)
    sim-over rest vs (Part.Stops s os) g L o to h k = said-as s _ _ h (λ e. ap (λ z. then_way z to) e)

    -- on top of others, followed by something else
    pub tail-over : {B : Type 0} (rest : List Value) (p q : Piece) (takes vs : List Value) (f : Gives)
        (g : List Value → World → Part B) (L : B → World → PieceExit → Type 0) → T p takes (over vs f)
        → ((ys : List Value) → Tail taking slots rest q (vs ++ ys) (g ys) L)
        → Tail taking slots rest (Piece.Then p q) takes (λ w. bind (f w) g) L
    tail-over rest p q takes vs f g L hp hq n at ts w =
        sim-over rest vs (f w) g L (run taking.gives n p at ts (frame slots (pushed takes rest)) w)
        (run taking.gives n q (at + size p) ts) (hp n at ts rest w) (λ ys u. hq ys n (at + size p) ts u)

    -- one after the other, and then what takes both
    pub turn-two : (p q r : Piece) (f g : Gives) (h : List Value → Gives) → T p [] f → T q [] g
        → ((us : List Value) → T r us (h us)) → T (Piece.Then p (Piece.Then q r)) [] (then_do (both f g) h)
    turn-two p q r f g h hp hq hr =
        turn-as (Piece.Then p (Piece.Then q r)) [] (then_do f (λ xs. then_do (over xs g) h)) (then_do (both f g) h)
        (λ w. bind-assoc (f w) (λ xs u. over xs g u) h)
        (turn-then p (Piece.Then q r) [] f (λ xs. then_do (over xs g) h) hp
        (λ xs. turn-then q r xs (over xs g) h (turn-over q xs g hq) hr))

    pub turn-both : (p q : Piece) (f g : Gives) → T p [] f → T q [] g → T (Piece.Then p q) [] (both f g)
    turn-both p q f g hp hq = turn-then p q [] f (λ xs. over xs g) hp (λ xs. turn-over q xs g hq)

    pub turn-pair : (p q : Piece) (f g : Gives) → T p [] f → T q [] g → T (all (p ∷ q ∷ [])) [] (both f g)
    turn-pair p q f g hp hq = turn-both p (all (q ∷ [])) f g hp (turn-last q [] g hq)

    -- a piece and an operation on what it gives
    pub turn-after : (p r : Piece) (f : Gives) (h : List Value → Gives) → T p [] f → ((us : List Value) → T r us (h us))
        → T (all (p ∷ r ∷ [])) [] (then_do f h)
    turn-after p r f h hp hr = turn-then p (all (r ∷ [])) [] f h hp (λ us. turn-last r us (h us) (hr us))

    pub turn-after-two : (p q r : Piece) (f g : Gives) (h : List Value → Gives) → T p [] f → T q [] g
        → ((us : List Value) → T r us (h us)) → T (all (p ∷ q ∷ r ∷ [])) [] (then_do (both f g) h)
    turn-after-two p q r f g h hp hq hr = turn-two p q (all (r ∷ [])) f g h hp hq (λ us. turn-last r us (h us) (hr us))

    -- instructions

    sim-answered : (rest : List Value) (leaves : List (Option GoType)) (p : Part Answer)
        → Sim (bind p (λ a u. chosen_by (not taking.strict || all_fit leaves a.values) (Part.Gives a.values u)
        (misfit u))) (OnTop slots rest) (from_part (bind p (λ a u. goes (frame slots []) (pushed a.values rest) u)))
    sim-answered rest leaves (Part.Gives a u) = by (not taking.strict || all_fit leaves a.values)
      where
        by : (b : Bool) → Sim (chosen_by b (Part.Gives a.values u) (misfit u)) (OnTop slots rest)
            (PieceExit.Through (frame slots (pushed a.values rest)) u)
        by true = refl
        by false = tt
    sim-answered rest leaves (Part.Stops s os) = said s _ refl

    pub turn-visible : (l : ℕ) (i : Instr) (leaves : List (Option GoType)) (vs : List Value)
        → doing taking.gives i ≡ Doing.Acts (shows taking.gives i) → T (op l i) vs (visible taking i leaves vs)
    turn-visible l i leaves vs e n at ts rest w = by (length vs == taken i) refl
      where
        c : Frame
        c = frame slots (pushed vs rest)

        by : (b : Bool) → (length vs == taken i) ≡ b
            → Sim (chosen_by b (answered taking i leaves vs w) (unfit w)) (OnTop slots rest)
            (acted (doing taking.gives i) (frame slots (pushed vs rest)) w)
        by true same =
            subst (λ d. Sim (answered taking i leaves vs w) (OnTop slots rest)
            (acted d (frame slots (pushed vs rest)) w)) (sym e)
            (subst (λ p. Sim (answered taking i leaves vs w) (OnTop slots rest) (from_part p))
            (sym (takes-all w (taken i) vs rest (λ us r. bind (gets taking.gives i us w)
            (λ a u. goes (frame slots (pushed vs rest)) (pushed a.values r) u))
            (exact_unsigned_eq (length vs) (taken i) same)))
            (sim-answered rest leaves (gets taking.gives i vs w)))
        by false same = tt

    pub turn-panic : (l : ℕ) (vs : List Value) → T (op l Instr.Panic) vs (panicking vs)
    turn-panic l vs n at ts rest w = by (length vs == 1) refl
      where
        ended : (p : Part Answer) → Sim {A = List Value} (bind p (λ a u. miscount u)) (OnTop slots rest)
            (from_part (bind p (λ a u. miscount u)))
        ended (Part.Gives a u) = refl
        ended (Part.Stops s os) = said s _ refl

        by : (b : Bool) → (length vs == 1) ≡ b
            → Sim (chosen_by b (bind (asked w.answers (done w Instr.Panic vs)) (λ a u. miscount u)) (unfit w))
            (OnTop slots rest) (from_part (panics (frame slots (pushed vs rest)) w))
        by true same =
            subst (λ p. Sim {A = List Value} (bind (asked w.answers (done w Instr.Panic vs)) (λ a u. miscount u))
            (OnTop slots rest) (from_part p))
            (sym (takes-all w 1 vs rest (λ us r. bind (asked w.answers (done w Instr.Panic us)) (λ a u. miscount u))
            (exact_unsigned_eq (length vs) 1 same)))
            (ended (asked w.answers (done w Instr.Panic vs)))
        by false same = tt

    pub turn-one : (l : ℕ) (i : Instr) (f : World → Value → Part Value) (vs : List Value)
        → doing taking.gives i ≡ Doing.Acts (acts_on_one f) → T (op l i) vs (on_one f vs)
    turn-one l i f [] e n at ts rest w = tt
    turn-one l i f (x ∷ []) e n at ts rest w =
        subst (λ d. Sim (bind (f w x) (λ v u. Part.Gives (v ∷ []) u)) (OnTop slots rest)
        (acted d (frame slots (x ∷ rest)) w)) (sym e)
        (sim-part (f w x) (λ v. v ∷ []) (λ v. frame slots (v ∷ rest)) (OnTop slots rest) (λ v u. refl))
    turn-one l i f (x ∷ (y ∷ vs)) e n at ts rest w = tt

    pub turn-calculate : (l : ℕ) (i : Instr) (f : World → Value → Value → Part Value) (vs : List Value)
        → doing taking.gives i ≡ Doing.Acts (acts_on_two f) → T (op l i) vs (on_two f vs)
    turn-calculate l i f [] e n at ts rest w = tt
    turn-calculate l i f (x ∷ []) e n at ts rest w = tt
    turn-calculate l i f (x ∷ (y ∷ [])) e n at ts rest w =
        subst (λ d. Sim (bind (f w x y) (λ v u. Part.Gives (v ∷ []) u)) (OnTop slots rest)
        (acted d (frame slots (y ∷ x ∷ rest)) w)) (sym e)
        (sim-part (f w x y) (λ v. v ∷ []) (λ v. frame slots (v ∷ rest)) (OnTop slots rest) (λ v u. refl))
    turn-calculate l i f (x ∷ (y ∷ (z ∷ vs))) e n at ts rest w = tt

    -- p, and if it gives true q; else r

    abbrev outer_of : ℕ → Piece → ℕ → List ℕ → Frame → World → PieceExit
    outer_of n r at ts c v = then_way (run taking.gives n r at ts c v) (λ d x. PieceExit.Through d x)

    abbrev after_of : ℕ → Piece → ℕ → List ℕ → Frame → World → PieceExit
    after_of n q at ts c v = then_way (run taking.gives n q at ts c v) (λ d x. PieceExit.Leaves 1 d x)

    abbrev choice_of : (Frame → World → PieceExit) → (Frame → World → PieceExit) → PieceExit → PieceExit
    choice_of behind outer o = out_of (then_way
        (out_of (then_way o (λ c v. then_way (unless_true (tests c v) 0) behind))) outer)

    -- two pieces that give these, and where they stand
    record Branches (g h : Gives) : Type 0 where
      first : Piece
      second : Piece
      first_turns : T first [] g
      second_turns : T second [] h
      turns : ℕ
      first_at : ℕ
      second_at : ℕ
      inner_targets : List ℕ
      outer_targets : List ℕ
      rest : List Value

    either-bool : {g h : Gives} (b : Branches g h) (m : Option Bool) (u : World)
        → Sim (by_bool m u (g u) (h u)) (OnTop slots b.rest)
        (out_of (then_way (out_of (then_way (unless_true
        (on_kind (λ z. Part.Gives (z, frame slots b.rest) u) u m) 0)
        (after_of b.turns b.first b.first_at b.inner_targets)))
        (outer_of b.turns b.second b.second_at b.outer_targets)))
    either-bool b None u = refl
    either-bool {g} {h} b (Some true) u =
        let outer = outer_of b.turns b.second b.second_at b.outer_targets in
        sim-into (g u) (OnTop slots b.rest) (OnTop slots b.rest)
        (λ o. out_of (then_way (out_of (then_way o (λ d x. PieceExit.Leaves 1 d x))) outer))
        (run taking.gives b.turns b.first b.first_at b.inner_targets (frame slots b.rest) u) (λ s os. refl)
        (b.first_turns b.turns b.first_at b.inner_targets b.rest u)
        (λ vs v i e. ap (λ o. out_of (then_way (out_of (then_way o (λ d x. PieceExit.Leaves 1 d x))) outer)) e)
    either-bool {g} {h} b (Some false) u =
        sim-into (h u) (OnTop slots b.rest) (OnTop slots b.rest)
        (λ o. out_of (then_way o (λ d x. PieceExit.Through d x)))
        (run taking.gives b.turns b.second b.second_at b.outer_targets (frame slots b.rest) u) (λ s os. refl)
        (b.second_turns b.turns b.second_at b.outer_targets b.rest u)
        (λ vs v i e. ap (λ o. out_of (then_way o (λ d x. PieceExit.Through d x))) e)

    either-tested : {g h : Gives} (b : Branches g h) (vs : List Value) (u : World)
        → Sim (if_true vs g h u) (OnTop slots b.rest)
        (choice_of (after_of b.turns b.first b.first_at b.inner_targets)
        (outer_of b.turns b.second b.second_at b.outer_targets) (PieceExit.Through (frame slots (pushed vs b.rest)) u))
    either-tested b [] u = tt
    either-tested b (x ∷ []) u = either-bool b (bool_of x) u
    either-tested b (x ∷ (y ∷ vs)) u = tt

    pub turn-either : (l : ℕ) (p q r : Piece) (f g h : Gives) → T p [] f → T q [] g → T r [] h
        → T (either l p q r) [] (then_do f (λ vs. if_true vs g h))
    turn-either l p q r f g h hp hq hr n at ts rest w =
        let end = at + size (either l p q r) in
        let to = at + (size p + (1 + (size q + (1 + 0)))) in
        let us : List ℕ = end ∷ ts in
        let inside : List ℕ = to ∷ us in
        let b : Branches g h = record {
          first = q;
          second = r;
          first_turns = hq;
          second_turns = hr;
          turns = n;
          first_at = at + size p + 1;
          second_at = to;
          inner_targets = inside;
          outer_targets = us;
          rest = rest;
        } in
        sim-in (f w) (λ vs u. if_true vs g h u) (OnTop slots rest) (OnTop slots rest)
        (choice_of (after_of n q (at + size p + 1) inside) (outer_of n r to us))
        (run taking.gives n p at inside (frame slots rest) w) (λ s os. refl) (hp n at inside rest w)
        (λ vs u i e. subst (λ z. Sim (if_true vs g h u) (OnTop slots rest)
        (choice_of (after_of n q (at + size p + 1) inside) (outer_of n r to us) z)) (sym e) (either-tested b vs u))
