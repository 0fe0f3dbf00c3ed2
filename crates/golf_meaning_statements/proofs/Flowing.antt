-- If the code of each part does what the part does, so does that of parts in order and of a block.
-- For: `Goes`, golf_meaning_statements/specs/Follows.antt; `in_order`, golf_meaning_statements/specs/Steps.antt.
-- By: induction over the list of statements, and over the list of local variables.
use Rattle.std.proofs.Common.{◌≡◌, ℕ, suc, ◌+◌, ◌<◌, ◌≤◌, Bool, true, false, List, [], ◌∷◌, ◌++◌, length, take, Option}
use Rattle.std.proofs.Common.{Some, None, refl, ap, sym, ◌∙◌, subst, arith, append_assoc, append-nil, length-append}
use Rattle.golf_data.specs.declared.value.Value.{Value}
use Rattle.golf_check_types.specs.declared.locals.Local.{Local}
use Rattle.golf_check_types.specs.declared.scopes.Scope.{Scope}
use Rattle.golf_check_types.specs.Scopes.{begun}
use Rattle.golf_check_types.specs.Statements as W
use Rattle.golf_check_types.specs.Statements.{Walk, behind}
use Rattle.golf_code_layout.specs.Piece.{size}
use Rattle.golf_code_of.specs.declared.surroundings.Around.{Around}
use Rattle.golf_code_of.specs.Statements.{StatementPart, Lay, then_lay}
use Rattle.golf_code_of.specs.Statements as L
use Rattle.golf_meaning_flat.specs.Worlds as V
use Rattle.golf_meaning_flat.specs.Worlds.{Misfit, Halt, End, Told, World, Operation, halted}
use Rattle.golf_meaning_flat.specs.InstructionEffects.{Frame, on_kind}
use Rattle.golf_meaning_flat.specs.Structured.{PieceExit, then_way, unless_true, run}
use Rattle.golf_meaning_flat.proofs.Halting.{said-as}
use Rattle.golf_meaning_source.specs.Names.{Env}
use Rattle.golf_meaning_source.specs.Operations.{Taking}
use Rattle.golf_meaning_source.specs.Does.{frame, Sim, Stored, SlotsRise, Apart, Kept, Changed, Known}
use Rattle.golf_meaning_statements.specs.Flows.{Course, Flow, unfit_flow, wrong_kind_flow, on, after, then_flow, cut}
use Rattle.golf_meaning_statements.specs.Flows.{guarded, by_test}
use Rattle.golf_meaning_statements.specs.Steps.{Deed, Step, nothing, in_order, in_block, parts}
use Rattle.golf_meaning_statements.specs.Follows.{IsEnvStored, EndsAlike, Goes, StatementMeans}

-- ends go through what lets them through

pub ends-in : (t : Told) (e : End) (C : PieceExit → PieceExit) (o : PieceExit) → C (PieceExit.Ends t) ≡ PieceExit.Ends t
    → EndsAlike t e o
    → EndsAlike t e (C o)
ends-in t (End.Halts s) C o strict h = said-as s _ _ h (λ e. ap C e ∙ strict)
ends-in t End.Short C o strict h = ap C h ∙ strict

-- names and slots

pub stored-prefix : (ds es : List Local) (env : Env) (now : List Value) → Stored (ds ++ es) env now
    → Stored ds (take (length ds) env) now
stored-prefix [] es [] now h = tt
stored-prefix [] es (x ∷ env) now h = tt
stored-prefix (d ∷ ds) es [] now h = absurd h
stored-prefix (d ∷ ds) es (x ∷ env) now h = (h.0, h.1, stored-prefix ds es env now h.2)

stored-shorter : (ds es : List Local) (env : Env) (now : List Value)
    → Stored (ds ++ es) (take (length (ds ++ es)) env) now → Stored ds (take (length ds) env) now
stored-shorter [] es [] now h = tt
stored-shorter [] es (x ∷ env) now h = tt
stored-shorter (d ∷ ds) es [] now h = absurd h
stored-shorter (d ∷ ds) es (x ∷ env) now h = (h.0, h.1, stored-shorter ds es env now h.2)

pub stored-take : (ds : List Local) (env : Env) (now : List Value) → Stored ds env now
    → Stored ds (take (length ds) env) now
stored-take [] [] now h = tt
stored-take [] (x ∷ env) now h = absurd h
stored-take (d ∷ ds) [] now h = absurd h
stored-take (d ∷ ds) (x ∷ env) now h = (h.0, h.1, stored-take ds env now h.2)

pub stored-length : (ds : List Local) (env : Env) (now : List Value) → Stored ds env now → length env ≡ length ds
stored-length [] [] now h = refl
stored-length [] (x ∷ env) now h = absurd h
stored-length (d ∷ ds) [] now h = absurd h
stored-length (d ∷ ds) (x ∷ env) now h = ap suc (stored-length ds env now h.2)

pub rising-append : (ds es : List Local) (low mid high : ℕ) → SlotsRise low mid ds → SlotsRise mid high es
    → SlotsRise low high (ds ++ es)
rising-append [] [] low mid high h k = omega (arith, h, k)
rising-append [] (e ∷ es) low mid high h k = let l = k.0 in (omega (arith, h, l), k.1)
rising-append (d ∷ ds) es low mid high h k = (h.0, rising-append ds es (d.slot + 1) mid high h.1 k)

pub apart-rising : (es : List Local) (low high i : ℕ) → i < low → SlotsRise low high es → Apart i es
apart-rising [] low high i lt r = tt
apart-rising (e ∷ es) low high i lt r = let l =
    r.0 in (λ q. omega (arith, q, lt, l), apart-rising es (e.slot + 1) high i (omega (arith, lt, l)) r.1)

pub apart-append : (ds es : List Local) (i : ℕ) → Apart i ds → Apart i es → Apart i (ds ++ es)
apart-append [] es i h k = k
apart-append (d ∷ ds) es i h k = (h.0, apart-append ds es i h.1 k)

pub apart-below : (ds : List Local) (low high j : ℕ) → SlotsRise low high ds → high ≤ j → Apart j ds
apart-below [] low high j r le = tt
apart-below (d ∷ ds) low high j r le = let k =
    reaches ds (d.slot + 1) high r.1 in (λ q. omega (arith, q, le, k), apart-below ds (d.slot + 1) high j r.1 le)
  where
    reaches : (es : List Local) (a b : ℕ) → SlotsRise a b es → a ≤ b
    reaches [] a b h = h
    reaches (e ∷ es) a b h = let k = reaches es (e.slot + 1) b h.1 in let l = h.0 in omega (arith, k, l)

-- A frame came of another one: it has as many slots, and of those below this one only these locals' may have changed.
pub record Came (ds : List Local) (next : ℕ) (slots now : List Value) : Type 0 where
  pub long : length now ≡ length slots
  pub kept : Kept ds next slots now

-- a first part declared these locals, in slots of their own
pub record Declared (ds es : List Local) (next next1 : ℕ) (slots now : List Value) : Type 0 where
  pub onward : next ≤ next1
  pub rising : SlotsRise next next1 es
  pub came : Came ds next slots now

-- a first change and a second one, from more names and slots on
pub kept-then : {ds es : List Local} {next next1 : ℕ} {slots now1 : List Value} (now : List Value)
    → Declared ds es next next1 slots now1 → Kept (ds ++ es) next1 now1 now → Kept ds next slots now
kept-then {ds} {es} {next} {next1} now first k i lt a = let le =
    first.onward in k i (omega (arith, lt, le)) (apart-append ds es i a (apart-rising es next next1 i lt first.rising))
    ∙ first.came.kept i lt a

pub kept-trans : (ds : List Local) (next : ℕ) (slots now1 now : List Value) → Kept ds next slots now1
    → Kept ds next now1 now → Kept ds next slots now
kept-trans ds next slots now1 now h k i lt a = k i lt a ∙ h i lt a

-- after an expression, under a relation of flows to ways by which ends go with ends that are alike
pub goes-after : {A : Type 0} (R : Flow → PieceExit → Type 0)
    → ((t : Told) (o : PieceExit) → EndsAlike t t.end o → R (Flow.Ends t) o)
    → (p : V.Part A) (f : A → World → Flow) (K : A → World → PieceExit → Type 0) (C : PieceExit → PieceExit)
    (o : PieceExit)
    → ((h : Halt) (os : List Operation) → C (PieceExit.Ends (halted h os)) ≡ PieceExit.Ends (halted h os)) → Sim p K o
    → ((x : A) (u : World) (i : PieceExit) → K x u i → R (f x u) (C i)) → R (after p f) (C o)
goes-after R ends (V.Part.Gives x u) f K C o strict h k = k x u o h
goes-after R ends (V.Part.Stops s os) f K C o strict h k =
    ends (halted s os) (C o) (said-as s _ _ h (λ e. ap C e ∙ strict s os))

-- What a test leads to, under a relation of flows to ways: a flow and a way if it is true, another flow and a target if
-- it is false.
pub record Branches (R : Flow → PieceExit → Type 0) (c : Frame) (u : World) (k : ℕ) (f g : Flow)
    (to : Frame → World → PieceExit) : Type 0 where
  pub if_true : R f (to c u)
  pub if_false : R g (PieceExit.Leaves k c u)
  pub if_wrong : R (wrong_kind_flow u) (PieceExit.Ends (halted (Halt.Unfit Misfit.OfKind) u.operations))
  pub if_neither : (o : PieceExit) → R (unfit_flow u) o

-- a test of a truth value
pub goes-test : {R : Flow → PieceExit → Type 0} {c : Frame} {u : World} {k : ℕ} {f g : Flow}
    {to : Frame → World → PieceExit}
    (m : Option Bool) → Branches R c u k f g to
    → R (by_test m u f g) (then_way (unless_true (on_kind (λ b. V.Part.Gives (b, c) u) u m) k) to)
goes-test None h = h.if_wrong
goes-test (Some true) h = h.if_true
goes-test (Some false) h = h.if_false

-- what is guarded goes as it does if it is let through, under a relation that asks nothing of what is unfit
pub goes-guarded : (R : Flow → PieceExit → Type 0) → ((u : World) (o : PieceExit) → R (unfit_flow u) o)
    → (b : Bool) (u : World) (f : Flow) (o : PieceExit) → (b ≡ true → R f o) → R (guarded b u f) o
goes-guarded R unfit true u f o h = h refl
goes-guarded R unfit false u f o h = unfit u o

module _ (rest : List Value) (a : Around) where
  -- after a first part, which declares these
  pub goes-base : {ds es : List Local} {next next1 : ℕ} {slots now1 : List Value} (al : List Local) (f : Flow)
      (o : PieceExit)
      → Declared ds es next next1 slots now1 → Goes (ds ++ es) next1 now1 rest al a f o
      → Goes ds next slots rest al a f o
  goes-base {ds} {es} al (Flow.Goes Course.On env u) o first h =
      (h.0, h.1, (h.2.0, h.2.1 ∙ first.came.long, kept-then h.0 first h.2.2))
  goes-base {ds} {es} al (Flow.Goes Course.Skips env u) o first h =
      (h.0, h.1, (h.2.0, h.2.1 ∙ first.came.long, kept-then h.0 first h.2.2))
  goes-base {ds} {es} al (Flow.Goes Course.Breaks env u) o first h =
      (h.0, h.1, (stored-shorter ds es env h.0 h.2.0, h.2.1 ∙ first.came.long, kept-then h.0 first h.2.2))
  goes-base {ds} {es} al (Flow.Goes Course.Continues env u) o first h =
      (h.0, h.1, (stored-shorter ds es env h.0 h.2.0, h.2.1 ∙ first.came.long, kept-then h.0 first h.2.2))
  goes-base {ds} {es} al (Flow.Ends t) o first h = h

  pub goes-then : (ds mid after : List Local) (next : ℕ) (slots : List Value) (f : Flow) (g : Env → World → Flow)
      (o : PieceExit) (to : Frame → World → PieceExit) → Goes ds next slots rest mid a f o
      → ((env : Env) (u : World) (now : List Value) → IsEnvStored ds next slots mid env now
      → Goes ds next slots rest after a (g env u) (to (frame now rest) u))
      → Goes ds next slots rest after a (then_flow f g) (then_way o to)
  goes-then ds mid after next slots (Flow.Goes Course.On env u) g o to h k =
      subst (λ z. Goes ds next slots rest after a (g env u) (then_way z to)) (sym h.1) (k env u h.0 h.2)
  goes-then ds mid after next slots (Flow.Goes Course.Skips env u) g o to h k = tt
  goes-then ds mid after next slots (Flow.Goes Course.Breaks env u) g o to h k = (h.0, ap (λ z. then_way z to) h.1, h.2)
  goes-then ds mid after next slots (Flow.Goes Course.Continues env u) g o to h k =
      (h.0, ap (λ z. then_way z to) h.1, h.2)
  goes-then ds mid after next slots (Flow.Ends t) g o to h k = ends-in t t.end (λ z. then_way z to) o refl h

  -- a part that changes names
  pub goes-on : (ds al : List Local) (next : ℕ) (slots : List Value) (p : V.Part Env) (o : PieceExit)
      → Sim p (λ env u i. (now : List Value) × (i ≡ PieceExit.Through (frame now rest) u)
      × IsEnvStored ds next slots al env now) o
      → Goes ds next slots rest al a (on p) o
  goes-on ds al next slots (V.Part.Gives env u) o h = h
  goes-on ds al next slots (V.Part.Stops s os) o h = h

  pub goes-changed : (ds : List Local) (next : ℕ) (slots : List Value) (p : V.Part Env) (o : PieceExit)
      → Sim p (Changed ds slots rest) o → Goes ds next slots rest (ds ++ []) a (on p) o
  goes-changed ds next slots p o h = goes-on ds (ds ++ []) next slots p o (by p h)
    where
      by : (q : V.Part Env) → Sim q (Changed ds slots rest) o
          → Sim q (λ env u i. (now : List Value) × (i ≡ PieceExit.Through (frame now rest) u)
          × IsEnvStored ds next slots (ds ++ []) env now) o
      by (V.Part.Gives env u) k = (
        k.0,
        k.1,
        (subst (λ xs. Stored xs env k.0) (sym (append-nil ds)) k.2, k.3, λ i lt ap'. k.4 i ap'),
      )
      by (V.Part.Stops s os) k = k

  -- blocks: what is declared inside is forgotten

  -- all ways have the names of before
  abbrev pub Exactly : List Local → ℕ → List Value → Flow → PieceExit → Type 0
  Exactly ds next slots (Flow.Goes Course.On env u) o = (now : List Value) × (o ≡ PieceExit.Through (frame now rest) u)
      × IsEnvStored ds next slots ds env now
  Exactly ds next slots (Flow.Goes Course.Skips env u) o = ⊥
  Exactly ds next slots (Flow.Goes Course.Breaks env u) o = (now : List Value)
      × (o ≡ PieceExit.Leaves a.breaks (frame now rest) u) × IsEnvStored ds next slots ds env now
  Exactly ds next slots (Flow.Goes Course.Continues env u) o = (now : List Value)
      × (o ≡ PieceExit.Leaves a.continues (frame now rest) u) × IsEnvStored ds next slots ds env now
  Exactly ds next slots (Flow.Ends t) o = EndsAlike t t.end o

  -- the names of before have their values first, before those of others
  abbrev pub GoesPrefix : List Local → ℕ → List Value → Flow → PieceExit → Type 0
  GoesPrefix ds next slots (Flow.Goes Course.On env u) o = (now : List Value)
      × (o ≡ PieceExit.Through (frame now rest) u)
      × IsEnvStored ds next slots ds (take (length ds) env) now
  GoesPrefix ds next slots (Flow.Goes Course.Skips env u) o = Unit {0}
  GoesPrefix ds next slots (Flow.Goes Course.Breaks env u) o = (now : List Value)
      × (o ≡ PieceExit.Leaves a.breaks (frame now rest) u) × IsEnvStored ds next slots ds (take (length ds) env) now
  GoesPrefix ds next slots (Flow.Goes Course.Continues env u) o = (now : List Value)
      × (o ≡ PieceExit.Leaves a.continues (frame now rest) u) × IsEnvStored ds next slots ds (take (length ds) env) now
  GoesPrefix ds next slots (Flow.Ends t) o = EndsAlike t t.end o

  pub goes-prefix : (ds es : List Local) (next : ℕ) (slots : List Value) (f : Flow) (o : PieceExit)
      → Goes ds next slots rest (ds ++ es) a f o → GoesPrefix ds next slots f o
  goes-prefix ds es next slots (Flow.Goes Course.On env u) o h =
      (h.0, h.1, (stored-prefix ds es env h.0 h.2.0, h.2.1, h.2.2))
  goes-prefix ds es next slots (Flow.Goes Course.Skips env u) o h = tt
  goes-prefix ds es next slots _ o h = h

  pub cut-exactly : (ds : List Local) (next : ℕ) (slots : List Value) (f : Flow) (o : PieceExit)
      → GoesPrefix ds next slots f o → Exactly ds next slots (cut (length ds) f) o
  cut-exactly ds next slots (Flow.Goes Course.Skips env u) o h = tt
  cut-exactly ds next slots _ o h = h

  pub exactly-goes : (ds : List Local) (next : ℕ) (slots : List Value) (f : Flow) (o : PieceExit)
      → Exactly ds next slots f o
      → Goes ds next slots rest (ds ++ []) a f o
  exactly-goes ds next slots f o h = subst (λ xs. Goes ds next slots rest xs a f o) (sym (append-nil ds)) (by f h)
    where
      by : (g : Flow) → Exactly ds next slots g o → Goes ds next slots rest ds a g o
      by (Flow.Goes Course.On env u) k = k
      by (Flow.Goes Course.Skips env u) k = absurd k
      by (Flow.Goes Course.Breaks env u) k = (k.0, k.1, (stored-take ds env k.0 k.2.0, k.2.1, k.2.2))
      by (Flow.Goes Course.Continues env u) k = (k.0, k.1, (stored-take ds env k.0 k.2.0, k.2.1, k.2.2))
      by (Flow.Ends t) k = k

-- break and continue lead to the same targets
pub record LeadsAlike (a b : Around) : Type 0 where
  pub breaks : b.breaks ≡ a.breaks
  pub continues : b.continues ≡ a.continues

pub around-same : {a b : Around} (ds : List Local) (next : ℕ) (slots rest : List Value) (al : List Local) (f : Flow)
    (o : PieceExit) → LeadsAlike a b → Goes ds next slots rest al b f o → Goes ds next slots rest al a f o
around-same ds next slots rest al (Flow.Goes Course.Breaks env u) o alike h =
    (h.0, h.1 ∙ ap (λ k. PieceExit.Leaves k (frame h.0 rest) u) alike.breaks, h.2)
around-same ds next slots rest al (Flow.Goes Course.Continues env u) o alike h =
    (h.0, h.1 ∙ ap (λ k. PieceExit.Leaves k (frame h.0 rest) u) alike.continues, h.2)
around-same ds next slots rest al _ o alike h = h

-- past a piece that was laid
pub past-alike : (a : Around) (m : L.Laid) → LeadsAlike a (L.past a m)
past-alike a m = record { breaks = refl; continues = refl }

-- A statement may begin: the names that are known have their values, and the slots of what it declares are there.
pub record MayBegin (s : Scope) (walked : W.Walked) (env : Env) (slots : List Value) : Type 0 where
  pub known : Known s.locals s.next env slots
  pub room : (behind s walked).next ≤ length slots

-- in a block, all ways have the names of before
pub exactly-prefix : {env : Env} {slots : List Value} (rest : List Value) (a : Around) (s : Scope) (f : Flow)
    (o : PieceExit)
    → Known s.locals s.next env slots → GoesPrefix rest a s.locals s.next slots f o
    → Exactly rest a s.locals s.next slots (cut (length env) f) o
exactly-prefix {env} {slots} rest a s f o ok h =
    subst (λ k. Exactly rest a s.locals s.next slots (cut k f) o) (sym (stored-length s.locals env slots ok.stored))
    (cut-exactly rest a s.locals s.next slots f o h)

module _ (taking : Taking) where
  -- statements that mean what their code does

  pub means-nothing : StatementMeans taking (λ s. W.nothing) (λ b s. L.no_code) nothing
  means-nothing = record {
    rises = λ s. omega arith;
    goes = λ a s n env slots ok room at ts rest
        u. (
          slots,
          refl,
          (
            subst (λ xs. Stored xs env slots) (sym (append-nil s.locals)) ok.stored,
            refl,
            λ i lt q. refl,
          ),
        );
  }

  -- A first part went as it is told, where it stands: what it declares has slots of its own, and its code goes as this
  -- flow does.
  pub record Went (v : Walk) (x : Lay) (s : Scope) (slots : List Value) : Type 0 where
    pub around : Around
    pub turns : ℕ
    pub at : ℕ
    pub targets : List ℕ
    pub rest : List Value
    pub start : Frame
    pub world : World
    pub flow : Flow
    pub rises : SlotsRise s.next (behind s (v s)).next (v s).declares
    pub goes : Goes s.locals s.next slots rest (behind s (v s)).locals around flow
        (run taking.gives turns (x around s).piece at targets start world)

  -- after it comes a statement
  pub goes-and : {w : Walk} {y : Lay} {e : Deed} (v : Walk) (x : Lay) (s : Scope) (slots : List Value)
      (first : Went v x s slots) → StatementMeans taking w y e → SlotsRise 0 s.next s.locals
      → (behind s (W.then v w s)).next ≤ length slots
      → Goes s.locals s.next slots first.rest (behind s (W.then v w s)).locals first.around
      (then_flow first.flow (e (L.past first.around (x first.around s)) (behind s (v s)) first.turns))
      (run taking.gives first.turns (then_lay x v y first.around s).piece first.at first.targets first.start
      first.world)
  goes-and {w} {y} {e} v x s slots first hy rising room =
      let a = first.around in
      let n = first.turns in
      let at = first.at in
      let ts = first.targets in
      let rest = first.rest in
      let s1 = behind s (v s) in
      let b = L.past a (x a s) in
      let l = length-append (v s).slots (w s1).slots in
      let piece = (x a s).piece in
      subst (λ xs. Goes s.locals s.next slots rest xs a (then_flow first.flow (e b s1 n))
      (run taking.gives n (then_lay x v y a s).piece at ts first.start first.world))
      (append_assoc s.locals (v s).declares (w s1).declares)
      (goes-then rest a s.locals s1.locals (behind s1 (w s1)).locals s.next slots first.flow (e b s1 n)
      (run taking.gives n piece at ts first.start first.world)
      (run taking.gives n (y b s1).piece (at + size piece) ts) first.goes
      (λ env1 u1 now st.
      let more : Declared s.locals (v s).declares s.next s1.next slots now =
      record { onward = omega arith; rising = first.rises; came = record { long = st.1; kept = st.2 } } in
      goes-base rest a (behind s1 (w s1)).locals (e b s1 n env1 u1) _ more
      (around-same s1.locals s1.next now rest (behind s1 (w s1)).locals (e b s1 n env1 u1) _ (past-alike a (x a s))
      (hy.goes b s1 n env1 now (record {
        stored = st.0;
        rising = rising-append s.locals (v s).declares 0 s.next s1.next rising first.rises;
      })
      (let q = st.1 in omega (arith, room, l, q)) (at + size piece) ts rest u1))))

  pub means-then : (v w : Walk) (x y : Lay) (d e : Deed) → StatementMeans taking v x d → StatementMeans taking w y e
      → StatementMeans taking (W.then v w) (then_lay x v y)
      (λ a s n env u. then_flow (d a s n env u) (e (L.past a (x a s)) (behind s (v s)) n))
  means-then v w x y d e hx hy = record {
    rises = λ s.
        let s1 = behind s (v s) in
        let l = length-append (v s).slots (w s1).slots in
        subst (λ k. SlotsRise s.next k ((v s).declares ++ (w s1).declares)) (omega (arith, l))
        (rising-append (v s).declares (w s1).declares s.next s1.next (behind s1 (w s1)).next (hx.rises s)
        (hy.rises s1));
    goes = λ a s n env slots ok room at ts rest u.
        let l = length-append (v s).slots (w (behind s (v s))).slots in
        goes-and v x s slots (record {
          around = a;
          turns = n;
          at = at;
          targets = ts;
          rest = rest;
          start = frame slots rest;
          world = u;
          flow = d a s n env u;
          rises = hx.rises s;
          goes = hx.goes a s n env slots ok (omega (arith, room, l)) at ts rest u;
        }) hy ok.rising room;
  }

  abbrev pub StepMeans : Step → Type 0
  StepMeans x = StatementMeans taking x.part.walk x.part.lay x.deed

  abbrev pub EachMeans : List Step → Type 0
  EachMeans [] = Unit {0}
  EachMeans (x ∷ xs) = StepMeans x × EachMeans xs

  pub means-order : (xs : List Step) → EachMeans xs
      → StatementMeans taking (L.in_order (parts xs)).walk (L.in_order (parts xs)).lay (in_order xs)
  means-order [] h = means-nothing
  means-order (x ∷ xs) h = means-then x.part.walk (L.in_order (parts xs)).walk x.part.lay
      (L.in_order (parts xs)).lay x.deed (in_order xs) h.0 (means-order xs h.1)

  pub exactly-block : {w : Walk} {x : Lay} {d : Deed} {s : Scope} {env : Env} {slots : List Value}
      → StatementMeans taking w x d → (a : Around) (n : ℕ) → MayBegin s (W.in_block w s) env slots
      → (at : ℕ) (ts : List ℕ) (rest : List Value) (u : World)
      → Exactly rest a s.locals s.next slots (in_block d a s n env u)
      (run taking.gives n (x a (begun s)).piece at ts (frame slots rest) u)
  exactly-block {w} {x} {d} {s} {env} {slots} h a n ready at ts rest u =
      let f = d a (begun s) n env u in
      let o = run taking.gives n (x a (begun s)).piece at ts (frame slots rest) u in
      exactly-prefix rest a s f o ready.known
      (goes-prefix rest a s.locals (w (begun s)).declares s.next slots f o
      (h.goes a (begun s) n env slots (record { stored = ready.known.stored; rising = ready.known.rising })
      ready.room at ts rest u))

  pub means-block : (w : Walk) (x : Lay) (d : Deed) → StatementMeans taking w x d
      → StatementMeans taking (W.in_block w) (λ a s. x a (begun s)) (in_block d)
  means-block w x d h = record {
    rises = λ s. omega arith;
    goes = λ a s n env slots ok room at ts rest u.
        let ready : MayBegin s (W.in_block w s) env slots = record { known = ok; room = room } in
        exactly-goes rest a s.locals s.next slots (in_block d a s n env u)
        (run taking.gives n (x a (begun s)).piece at ts (frame slots rest) u)
        (exactly-block h a n ready at ts rest u);
  }
