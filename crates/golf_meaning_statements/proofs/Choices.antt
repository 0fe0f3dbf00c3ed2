-- The code of a `select` does what the `select` does.
-- For: `select_deed`, golf_meaning_statements/specs/Selects.antt; `select_part`, golf_code_of/specs/Selects.antt.
-- By: induction over the list of clauses.
use Rattle.std.proofs.Common.{◌≡◌, ℕ, zero, suc, ◌+◌, ◌==◌, ◌<◌, ◌≤◌, ◌||◌, Bool, true, false, not, List, [], ◌∷◌, ◌++◌}
use Rattle.std.proofs.Common.{length, map, Option, refl, ap, sym, ◌∙◌, subst, arith, append-nil, length-append}
use Rattle.std.specs.Option.{option_map}
use Rattle.std.proofs.lemmas.Map.Views.{exact_unsigned_eq}
use Rattle.golf_syntax_trees.specs.declared.statements.Communication.{Communication}
use Rattle.golf_syntax_trees.specs.declared.statements.Communication.TheVariants as comm
use Rattle.golf_data.specs.declared.value.Value.{Value}
use Rattle.golf_data.specs.declared.code.Instr.{Instr}
use Rattle.golf_data.specs.declared.code.SelectCase.{SelectCase}
use Rattle.golf_check_types.specs.declared.locals.Local.{Local}
use Rattle.golf_check_types.specs.declared.scopes.Scope.{Scope}
use Rattle.golf_check_types.specs.Scopes.{begun}
use Rattle.golf_check_types.specs.Statements as W
use Rattle.golf_check_types.specs.Statements.{Walk, behind}
use Rattle.golf_code_layout.specs.Piece.{Piece, all, op, size, target}
use Rattle.golf_data.specs.Effects.{cases_taken}
use Rattle.golf_code_of.specs.declared.surroundings.Around.{Around}
use Rattle.golf_code_of.specs.declared.tables.Tables.{Tables}
use Rattle.golf_code_of.specs.ExpressionCode.{piece_at}
use Rattle.golf_code_of.specs.Statements.{StatementPart, Lay, past}
use Rattle.golf_code_of.specs.Statements as L
use Rattle.golf_code_of.specs.Selects as K
use Rattle.golf_code_of.specs.Selects.{ClausePart, cases_from, default_from, choice, in_clause, clauses_lay}
use Rattle.golf_code_of.specs.Selects.{select_part}
use Rattle.golf_meaning_flat.specs.Worlds as V
use Rattle.golf_meaning_flat.specs.Worlds.{Answer, World, bind, halted, pushed}
use Rattle.golf_meaning_flat.proofs.Halting.{said}
use Rattle.golf_meaning_flat.specs.InstructionEffects.{Frame, gets}
use Rattle.golf_meaning_flat.specs.Flat.{on_clause, relabelled, lower, clause_of, picks}
use Rattle.golf_meaning_flat.specs.Structured.{PieceExit, then_way, picked, out_of, placed_targets, run}
use Rattle.golf_meaning_source.specs.Names.{Env}
use Rattle.golf_meaning_source.specs.Operations as O
use Rattle.golf_meaning_source.specs.Operations.{Taking, Gives, all_fit}
use Rattle.golf_meaning_source.specs.Exprs.{store, dropped}
use Rattle.golf_meaning_source.specs.Does.{frame, Sim, OnTop, Turns, Stored, SlotsRise, Changed, Known}
use Rattle.golf_meaning_source.proofs.Turning.{takes-all, turn-none, turn-both, turn-pair}
use Rattle.golf_meaning_statements.specs.Flows.{Course, Flow, on, after, guarded, if_fits}
use Rattle.golf_meaning_statements.specs.Steps.{Deed, Step, value_at, declared, name_place, defines_pair, in_order}
use Rattle.golf_meaning_statements.specs.Steps.{in_block, then_deed, parts}
use Rattle.golf_meaning_statements.specs.Selects.{ClauseStep, operands_given, received_types, takes_in, communicates}
use Rattle.golf_meaning_statements.specs.Selects.{breaking, case_step, default_step, clause_parts, many, one_default}
use Rattle.golf_meaning_statements.specs.Selects.{out_of_select, chosen, chooses, select_deed}
use Rattle.golf_meaning_statements.specs.Follows.{Goes, StatementMeans}
use Rattle.golf_meaning_statements.proofs.Ranks.{OneDefault, Rise, rank-is}
use Rattle.golf_meaning_statements.proofs.Numbers.{one-of, relabel, relabel-default, clause-is}
use Rattle.golf_meaning_statements.proofs.Flowing.{ends-in, goes-guarded, rising-append, Exactly, goes-prefix}
use Rattle.golf_meaning_statements.proofs.Flowing.{exactly-prefix, exactly-goes, LeadsAlike, past-alike, MayBegin}
use Rattle.golf_meaning_statements.proofs.Flowing.{exactly-block, goes-after, goes-on, goes-changed, goes-and}
use Rattle.golf_meaning_statements.proofs.Flowing.{means-order, EachMeans}
use Rattle.golf_meaning_statements.proofs.Simples.{value-turns, declares-top, name-stores, pair-two, pair-rises}

-- what takes nothing is given nothing
nothing-given : (vs : List Value) → (length vs == 0) ≡ true → vs ≡ []
nothing-given [] fits = refl
nothing-given (v ∷ vs) fits = let none = exact_unsigned_eq (length (v ∷ vs)) 0 fits in absurd (omega (arith, none))

module _ (rest : List Value) (ds : List Local) (next : ℕ) (slots : List Value) where
  exactly-around : {a b : Around} (f : Flow) (o : PieceExit) → LeadsAlike a b → Exactly rest b ds next slots f o
      → Exactly rest a ds next slots f o
  exactly-around (Flow.Goes Course.Breaks env u) o alike h =
      (h.0, h.1 ∙ ap (λ k. PieceExit.Leaves k (frame h.0 rest) u) alike.breaks, h.2)
  exactly-around (Flow.Goes Course.Continues env u) o alike h =
      (h.0, h.1 ∙ ap (λ k. PieceExit.Leaves k (frame h.0 rest) u) alike.continues, h.2)
  exactly-around _ o alike h = h

  -- seen from fewer slots
  exactly-lower : (a : Around) (high : ℕ) (f : Flow) (o : PieceExit) → next ≤ high → Exactly rest a ds high slots f o
      → Exactly rest a ds next slots f o
  exactly-lower a high (Flow.Goes Course.On env u) o le h =
      (h.0, h.1, (h.2.0, h.2.1, λ i lt q. h.2.2 i (omega (arith, lt, le)) q))
  exactly-lower a high (Flow.Goes Course.Skips env u) o le h = h
  exactly-lower a high (Flow.Goes Course.Breaks env u) o le h =
      (h.0, h.1, (h.2.0, h.2.1, λ i lt q. h.2.2 i (omega (arith, lt, le)) q))
  exactly-lower a high (Flow.Goes Course.Continues env u) o le h =
      (h.0, h.1, (h.2.0, h.2.1, λ i lt q. h.2.2 i (omega (arith, lt, le)) q))
  exactly-lower a high (Flow.Ends t) o le h = h

  -- a clause, and then the end of the `select`, after so many clauses more
  after-clause : (a : Around) (m : ℕ) (C : PieceExit → PieceExit)
      → ((t : V.Told) → C (PieceExit.Ends t) ≡ PieceExit.Ends t)
      → ((k q : ℕ) (d : Frame) (u : World) → k ≡ m + q → C (PieceExit.Leaves k d u) ≡ PieceExit.Leaves q d u)
      → (f : Flow) (o : PieceExit) → Exactly rest (in_clause m a) ds next slots f o
      → Exactly rest a ds next slots (out_of_select f) (out_of (C (then_way o (λ c v. PieceExit.Leaves m c v))))
  after-clause a m C strict sink (Flow.Goes Course.On env u) o h = (
    h.0,
    ap (λ z. out_of (C (then_way z (λ c v. PieceExit.Leaves m c v)))) h.1
        ∙ ap out_of (sink m 0 (frame h.0 rest) u (omega arith)),
    h.2,
  )
  after-clause a m C strict sink (Flow.Goes Course.Breaks env u) o h = (
    h.0,
    ap (λ z. out_of (C (then_way z (λ c v. PieceExit.Leaves m c v)))) h.1
        ∙ ap out_of (sink m 0 (frame h.0 rest) u (omega arith)),
    h.2,
  )
  after-clause a m C strict sink (Flow.Goes Course.Continues env u) o h = (
    h.0,
    ap (λ z. out_of (C (then_way z (λ c v. PieceExit.Leaves m c v)))) h.1
        ∙ ap out_of (sink (a.continues + (m + 1)) (suc a.continues) (frame h.0 rest) u (omega arith)),
    h.2,
  )
  after-clause a m C strict sink (Flow.Goes Course.Skips env u) o h = absurd h
  after-clause a m C strict sink (Flow.Ends t) o h =
      ends-in t t.end (λ z. out_of (C (then_way z (λ c v. PieceExit.Leaves m c v)))) o (ap out_of (strict t)) h

-- the names are known in the scope after a clause
known-after : (s : Scope) (w : W.Walked) (env : Env) (slots : List Value) → w.declares ≡ []
    → Known s.locals s.next env slots → Known (behind s w).locals (behind s w).next env slots
known-after s w env slots quiet ok = record {
  stored = subst (λ es. Stored (s.locals ++ es) env slots) (sym quiet)
      (subst (λ xs. Stored xs env slots) (sym (append-nil s.locals)) ok.stored);
  rising = subst (λ es. SlotsRise 0 (behind s w).next (s.locals ++ es)) (sym quiet)
      (rising-append s.locals [] 0 s.next (behind s w).next ok.rising (omega arith));
}

-- where a `select` stands, the locals and slots of before it, and the values that its choice gave
record Selection : Type 0 where
  turns : ℕ
  line : ℕ
  at : ℕ
  targets : List ℕ
  rest : List Value
  locals : List Local
  next : ℕ
  slots : List Value
  env : Env
  values : List Value
  world : World

-- The scope of these clauses: its names are those of before and have their values, its slots are none of those, and
-- those of the clauses are there.
record OfClauses (here : Selection) (cs : List ClauseStep) (s : Scope) : Type 0 where
  same : s.locals ≡ here.locals
  above : here.next ≤ s.next
  known : Known s.locals s.next here.env here.slots
  room : (behind s (W.in_order (map (λ (c : ClausePart). c.walk here.line) (clause_parts cs)) s)).next
      ≤ length here.slots

sim-picked : (q : V.Part Answer) (g : Answer → World → V.Part (ℕ × Frame))
    → Sim q (λ x w i. i ≡ picked (g x w)) (picked (bind q g))
sim-picked (V.Part.Gives x w) g = refl
sim-picked (V.Part.Stops s os) g = said s _ refl

-- what a choice gives, by the target of the clause
abbrev chosen_frame : List Value → List Value → Option ℕ → Answer → World → V.Part (ℕ × Frame)
chosen_frame slots rest o x w = on_clause (λ t. V.Part.Gives (t, frame slots (pushed x.values rest)) w) w o

module _ (taking : Taking) where
  -- Clauses.

  -- wherever this piece stands, it does with these values what the flow tells, and all ways have the names of before
  abbrev pub Does : Around → Scope → ℕ → List Value → List Value → (World → Flow) → Piece → Type 0
  Does a s n slots vs f p = (at : ℕ) (ts : List ℕ) (rest : List Value) (u : World)
      → Exactly rest a s.locals s.next slots (f u) (run taking.gives n p at ts (frame slots (pushed vs rest)) u)

  -- the code of a clause does what the clause does: its operands in the scope of the `select`, and what it does with
  -- the values that it is given
  pub record ClauseMeans (c : ClauseStep) : Type 0 where
    pub quiet : (l : ℕ) (s : Scope) → (c.part.walk l s).declares ≡ []
    pub operands_turn : (l : ℕ) (s : Scope) (env : Env) (slots : List Value) → Known s.locals s.next env slots
        → Turns taking slots (c.part.operands l s) [] (c.operands l s env)
    pub does : (l : ℕ) (a : Around) (s : Scope) (n : ℕ) (env : Env) (slots : List Value)
        → MayBegin s (c.part.walk l s) env slots → (vs : List Value) → (length vs == length (c.leaves l s)) ≡ true
        → Does a s n slots vs (c.deed l vs a s n env) (c.part.lay l a s).piece

  means-breaking : (w : Walk) (x : Lay) (d : Deed) → StatementMeans taking w x d
      → StatementMeans taking (W.breaking w) (λ a s. x a (record s { breaks = true })) (breaking d)
  means-breaking w x d h = record {
    rises = λ s. h.rises (record s { breaks = true });
    goes = λ a s n env slots ok room at ts rest u. h.goes a (record s { breaks = true }) n env slots
        (record { stored = ok.stored; rising = ok.rising }) room at ts rest u;
  }

  module _ (t : Tables) (l k : ℕ) where
    communication-rises : (c : Communication) (s : Scope)
        → SlotsRise s.next (behind s (W.communication l k c s)).next (W.communication l k c s).declares
    communication-rises (comm.Define n e) s = (omega arith, omega arith)
    communication-rises (comm.DefineReceived n m e) s = pair-rises n m (W.carried l e s) s
    communication-rises _ s = omega arith

    dropped-goes : (s : Scope) (env : Env) (slots : List Value) → Known s.locals s.next env slots
        → (vs : List Value) (n at : ℕ) (ts : List ℕ) (rest : List Value) (u : World)
        → Sim (dropped env vs u) (Changed s.locals slots rest)
        (run taking.gives n (op k Instr.Drop) at ts (frame slots (pushed vs rest)) u)
    dropped-goes s env slots ok [] n at ts rest u = tt
    dropped-goes s env slots ok (v ∷ []) n at ts rest u = (slots, refl, ok.stored, refl, λ i a. refl)
    dropped-goes s env slots ok (v ∷ (x ∷ vs)) n at ts rest u = tt

    communication-goes : {s : Scope} {env : Env} {slots : List Value} (c : Communication) (a : Around) (r : Scope)
        (n : ℕ) → MayBegin s (W.communication l k c s) env slots → (vs : List Value)
        → (length vs == length (received_types c l r)) ≡ true → (at : ℕ) (ts : List ℕ) (rest : List Value) (u : World)
        → Goes s.locals s.next slots rest (behind s (W.communication l k c s)).locals a
        (on (takes_in taking t c vs s env u))
        (run taking.gives n (K.takes_in t l k c s) at ts (frame slots (pushed vs rest)) u)
    communication-goes {s} {env} {slots} (comm.Send c e) a r n ready [] fits at ts rest u =
        goes-changed rest a s.locals s.next slots (V.Part.Gives env u) (PieceExit.Through (frame slots rest) u)
        (slots, refl, ready.known.stored, refl, λ i q. refl)
    communication-goes {s} {env} {slots} (comm.Send c e) a r n ready (v ∷ vs) fits at ts rest u = let none =
        exact_unsigned_eq (length (v ∷ vs)) 0 fits in absurd (omega (arith, none))
    communication-goes {s} {env} {slots} (comm.Receive e) a r n ready vs fits at ts rest u =
        goes-changed rest a s.locals s.next slots (dropped env vs u)
        (run taking.gives n (op k Instr.Drop) at ts (frame slots (pushed vs rest)) u)
        (dropped-goes s env slots ready.known vs n at ts rest u)
    communication-goes {s} {env} {slots} (comm.Define m e) a r n ready vs fits at ts rest u =
        let room = ready.room in
        goes-on rest a s.locals (behind s (W.communication l k (comm.Define m e) s)).locals s.next slots
        (declared env m vs u) (run taking.gives n (op k (Instr.Store s.next)) at ts
        (frame slots (pushed vs rest)) u) (declares-top taking s env slots rest m (W.carried l e s) k ready.known
        (omega (arith, room)) vs n at ts u)
    communication-goes {s} {env} {slots} (comm.Assign m e) a r n ready vs fits at ts rest u =
        goes-changed rest a s.locals s.next slots (store taking env (name_place taking t s m env) vs u)
        (run taking.gives n (L.stores_name k t s m) at ts (frame slots (pushed vs rest)) u)
        (name-stores taking t k s m env slots ready.known vs n at ts rest u)
    communication-goes {s} {env} {slots} (comm.DefineReceived m q e) a r n ready vs fits at ts rest u =
        goes-on rest a s.locals (behind s (W.communication l k (comm.DefineReceived m q e) s)).locals s.next slots
        (defines_pair taking t s m q env vs u)
        (run taking.gives n (L.stores_pair k t s m q (W.carried l e s)) at ts (frame slots (pushed vs rest)) u)
        (pair-two taking t k m q s rest (W.carried l e s) ready.known ready.room vs n at ts u)

  operands-turn : (t : Tables) (c : Communication) (l : ℕ) (s : Scope) (env : Env) (slots : List Value)
      → Known s.locals s.next env slots → Turns taking slots (K.operands_of t c l s) []
      (operands_given taking t c l s env)
  operands-turn t (comm.Send c e) l s env slots ok =
      turn-pair taking slots (piece_at t l s c) (piece_at t l s e) (value_at taking t l s c env)
      (value_at taking t l s e env) (value-turns taking t l c s env slots ok) (value-turns taking t l e s env slots ok)
  operands-turn t (comm.Receive e) l s env slots ok = value-turns taking t l e s env slots ok
  operands-turn t (comm.Define n e) l s env slots ok = value-turns taking t l e s env slots ok
  operands-turn t (comm.Assign n e) l s env slots ok = value-turns taking t l e s env slots ok
  operands-turn t (comm.DefineReceived n m e) l s env slots ok = value-turns taking t l e s env slots ok

  pub case-means : (t : Tables) (k : ℕ) (c : Communication) (body : List Step) → EachMeans taking body
      → ClauseMeans (case_step taking t k c body)
  case-means t k c body h =
      let b = L.in_order (parts body) in
      let bm = means-breaking b.walk b.lay (in_order body) (means-order taking body h) in
      record {
        quiet = λ l s. refl;
        operands_turn = λ l s env slots ok. operands-turn t c l s env slots ok;
        does = λ l a s n env slots before vs fits at ts rest u.
            let ok = before.known in
            let room = before.room in
            let s0 = begun s in
            let v = W.communication l k c in
            let w = W.breaking b.walk in
            let f = then_deed (K.communication t l k c) (communicates taking t c vs)
            (breaking (in_order body)) a s0 n env u in
            let o = run taking.gives n (K.case_lay t l k c (parts body) a s).piece at ts
            (frame slots (pushed vs rest)) u in
            let e = length-append (v s0).slots (w (behind s0 (v s0))).slots in
            let ready : MayBegin s0 (v s0) env slots =
            record { known = record { stored = ok.stored; rising = ok.rising }; room = omega (arith, room, e) } in
            exactly-prefix rest a s f o ok
            (goes-prefix rest a s.locals (W.then v w s0).declares s.next slots f o
            (goes-and taking v (K.communication t l k c).lay s0 slots (record {
              around = a;
              turns = n;
              at = at;
              targets = ts;
              rest = rest;
              start = frame slots (pushed vs rest);
              world = u;
              flow = on (takes_in taking t c vs s0 env u);
              rises = communication-rises t l k c s0;
              goes = communication-goes t l k c a s n ready vs fits at ts rest u;
            }) bm ok.rising room));
      }

  pub default-means : (k : ℕ) (body : List Step) → EachMeans taking body → ClauseMeans (default_step k body)
  default-means k body h =
      let b = L.in_order (parts body) in
      let bm = means-breaking b.walk b.lay (in_order body) (means-order taking body h) in
      record {
        quiet = λ l s. refl;
        operands_turn = λ l s env slots ok. turn-none taking slots [];
        does = λ l a s n env slots before vs fits at ts rest u.
            let ready : MayBegin s (W.in_block (W.breaking b.walk) s) env slots =
            record { known = before.known; room = before.room } in
            subst (λ xs. Exactly rest a s.locals s.next slots (in_block (breaking (in_order body)) a s n env u)
            (run taking.gives n (b.lay a (record (begun s) { breaks = true })).piece at ts
            (frame slots (pushed xs rest)) u)) (sym (nothing-given vs fits))
            (exactly-block taking bm a n ready at ts rest u);
      }

  abbrev pub EachClause : List ClauseStep → Type 0
  EachClause [] = Unit {0}
  EachClause (c ∷ cs) = ClauseMeans c × EachClause cs

  -- The clauses one after the other: what stands around the choice, with its targets.

  module _ (n l at : ℕ) where
    abbrev joined : Piece → Piece → ℕ → ℕ → Piece
    joined p x line later = all (Piece.Block p ∷ x ∷ Piece.Exit line later ∷ [])

    -- the targets inside of p
    abbrev inner : Piece → List ClausePart → Around → Scope → List ℕ → List ℕ
    inner p [] a s ts = ts
    inner p (c ∷ cs) a s ts = (at + size p)
        ∷ inner (joined p (c.lay l (in_clause (length cs) a) s).piece c.line (length cs)) cs
        (past a (c.lay l (in_clause (length cs) a) s)) (behind s (c.walk l s)) ts

    -- what comes of a way of p
    abbrev around : Piece → List ClausePart → Around → Scope → List ℕ → PieceExit → PieceExit
    around p [] a s ts o = o
    around p (c ∷ cs) a s ts o =
        around (joined p (c.lay l (in_clause (length cs) a) s).piece c.line (length cs)) cs
        (past a (c.lay l (in_clause (length cs) a) s)) (behind s (c.walk l s)) ts
        (then_way (out_of o) (run taking.gives n
        (all ((c.lay l (in_clause (length cs) a) s).piece ∷ Piece.Exit c.line (length cs) ∷ [])) (at + size p)
        (inner (joined p (c.lay l (in_clause (length cs) a) s).piece c.line (length cs)) cs
        (past a (c.lay l (in_clause (length cs) a) s)) (behind s (c.walk l s)) ts)))

    around-is : (cs : List ClausePart) (p : Piece) (a : Around) (s : Scope) (ts : List ℕ) (c : Frame) (w : World)
        → run taking.gives n (clauses_lay l p cs a s).piece at ts c w ≡ around p cs a s ts
        (run taking.gives n p at (inner p cs a s ts) c w)
    around-is [] p a s ts c w = refl
    around-is (x ∷ cs) p a s ts c w = around-is cs
        (joined p (x.lay l (in_clause (length cs) a) s).piece x.line (length cs))
        (past a (x.lay l (in_clause (length cs) a) s)) (behind s (x.walk l s)) ts c w

    around-ends : (cs : List ClausePart) (p : Piece) (a : Around) (s : Scope) (ts : List ℕ) (t : V.Told)
        → around p cs a s ts (PieceExit.Ends t) ≡ PieceExit.Ends t
    around-ends [] p a s ts t = refl
    around-ends (x ∷ cs) p a s ts t = around-ends cs
        (joined p (x.lay l (in_clause (length cs) a) s).piece x.line (length cs))
        (past a (x.lay l (in_clause (length cs) a) s)) (behind s (x.walk l s)) ts t

    -- past all clauses
    sinks : (cs : List ClausePart) (p : Piece) (a : Around) (s : Scope) (ts : List ℕ) (k q : ℕ) (d : Frame) (u : World)
        → k ≡ length cs + q → around p cs a s ts (PieceExit.Leaves k d u) ≡ PieceExit.Leaves q d u
    sinks [] p a s ts k q d u e = ap (λ j. PieceExit.Leaves j d u) (omega (arith, e))
    sinks (x ∷ cs) p a s ts zero q d u e = absurd (omega (arith, e))
    sinks (x ∷ cs) p a s ts (suc k) q d u e =
        sinks cs (joined p (x.lay l (in_clause (length cs) a) s).piece x.line (length cs))
        (past a (x.lay l (in_clause (length cs) a) s)) (behind s (x.walk l s)) ts k q d u (omega (arith, e))

    target-after : (cs : List ClausePart) (p : Piece) (a : Around) (s : Scope) (ts : List ℕ) (j : ℕ) → j < length cs
        → at + size p ≤ target (inner p cs a s ts) j
    target-after [] p a s ts j h = absurd (omega (arith, h))
    target-after (x ∷ cs) p a s ts zero h = omega arith
    target-after (x ∷ cs) p a s ts (suc j) h = let r =
        target-after cs (joined p (x.lay l (in_clause (length cs) a) s).piece x.line (length cs))
        (past a (x.lay l (in_clause (length cs) a) s)) (behind s (x.walk l s)) ts j (omega (arith, h)) in omega
        (arith, r)

    rises-on : (cs : List ClausePart) (p : Piece) (a : Around) (s : Scope) (ts : List ℕ)
        → Rise (target (inner p cs a s ts)) (length cs)
    rises-on [] p a s ts i j lt le = absurd (omega (arith, le))
    rises-on (x ∷ cs) p a s ts i zero lt le = absurd (omega (arith, lt))
    rises-on (x ∷ cs) p a s ts zero (suc j) lt le = let r =
        target-after cs (joined p (x.lay l (in_clause (length cs) a) s).piece x.line (length cs))
        (past a (x.lay l (in_clause (length cs) a) s)) (behind s (x.walk l s)) ts j (omega (arith, le)) in omega
        (arith, r)
    rises-on (x ∷ cs) p a s ts (suc i) (suc j) lt le =
        rises-on cs (joined p (x.lay l (in_clause (length cs) a) s).piece x.line (length cs))
        (past a (x.lay l (in_clause (length cs) a) s)) (behind s (x.walk l s)) ts i j (omega (arith, lt))
        (omega (arith, le))

  -- Ways of a `select`.

  -- what leaves p at the place of a clause goes as that clause does
  clause-goes : (here : Selection) (cs : List ClauseStep) → EachClause cs → (p : Piece) (a : Around) (s : Scope)
      → OfClauses here cs s → (k : ℕ) (o : PieceExit)
      → (k < many cs → o ≡ PieceExit.Leaves k (frame here.slots (pushed here.values here.rest)) here.world)
      → Exactly here.rest a here.locals here.next here.slots
      (out_of_select (chosen taking here.line k here.values cs a s here.turns here.env here.world))
      (out_of (around here.turns here.line here.at p (clause_parts cs) a s here.targets o))
  clause-goes here [] each p a s scope k o h = tt
  clause-goes here (c ∷ cs) each p a s scope zero o h =
      by (length here.values == length (c.leaves here.line s))
      (not taking.strict || all_fit (c.leaves here.line s) here.values) refl
    where
      means : ClauseMeans c
      means = each.0

      by : (m b : Bool) → (length here.values == length (c.leaves here.line s)) ≡ m
          → Exactly here.rest a here.locals here.next here.slots
          (out_of_select (guarded m here.world
          (if_fits b here.world (c.deed here.line here.values
          (in_clause (many cs) a) s here.turns here.env here.world))))
          (out_of (around here.turns here.line here.at p (c.part ∷ clause_parts cs) a s here.targets o))
      by false b e = tt
      by true false e = tt
      by true true e =
          let n = here.turns in
          let l = here.line in
          let ts = here.targets in
          let rest = here.rest in
          let slots = here.slots in
          let vs = here.values in
          let u = here.world in
          let room = scope.room in
          let b = in_clause (many cs) a in
          let x = c.part.lay l b s in
          let s1 = behind s (c.part.walk l s) in
          let q = joined n l here.at p x.piece c.part.line (many cs) in
          let us = inner n l here.at q (clause_parts cs) (past a x) s1 ts in
          let C = around n l here.at q (clause_parts cs) (past a x) s1 ts in
          let f = c.deed l vs b s n here.env u in
          let way = run taking.gives n x.piece (here.at + size p) us (frame slots (pushed vs rest)) u in
          let long = length-append (c.part.walk l s).slots
          (W.in_order (map (λ (d : ClausePart). d.walk l) (clause_parts cs)) s1).slots in
          subst (λ z. Exactly rest a here.locals here.next slots (out_of_select f)
          (out_of (around n l here.at p (c.part ∷ clause_parts cs) a s ts z))) (sym (h (omega arith)))
          (after-clause rest here.locals here.next slots a (many cs) C
          (around-ends n l here.at (clause_parts cs) q (past a x) s1 ts)
          (sinks n l here.at (clause_parts cs) q (past a x) s1 ts) f way
          (exactly-lower rest here.locals here.next slots b s.next f way scope.above
          (subst (λ es. Exactly rest b es s.next slots f way) scope.same
          (means.does l b s n here.env slots (record { known = scope.known; room = omega (arith, room, long) }) vs e
          (here.at + size p) us rest u))))
  clause-goes here (c ∷ cs) each p a s scope (suc k) o h =
      let n = here.turns in
      let l = here.line in
      let ts = here.targets in
      let room = scope.room in
      let above = scope.above in
      let b = in_clause (many cs) a in
      let x = c.part.lay l b s in
      let w = c.part.walk l s in
      let s1 = behind s w in
      let q = joined n l here.at p x.piece c.part.line (many cs) in
      let us = inner n l here.at q (clause_parts cs) (past a x) s1 ts in
      let to = run taking.gives n (all (x.piece ∷ Piece.Exit c.part.line (many cs) ∷ [])) (here.at + size p) us in
      let means : ClauseMeans c = each.0 in
      let quiet : w.declares ≡ [] = means.quiet l s in
      let long = length-append w.slots (W.in_order (map (λ (d : ClausePart). d.walk l) (clause_parts cs)) s1).slots in
      let scope1 : OfClauses here cs s1 = record {
        same = ap (λ es. s.locals ++ es) quiet ∙ append-nil s.locals ∙ scope.same;
        above = omega (arith, above);
        known = known-after s w here.env here.slots quiet scope.known;
        room = omega (arith, room, long);
      } in
      exactly-around here.rest here.locals here.next here.slots
      (out_of_select (chosen taking l k here.values cs (past a x) s1 n here.env here.world))
      (out_of (around n l here.at q (clause_parts cs) (past a x) s1 ts (then_way (out_of o) to))) (past-alike a x)
      (clause-goes here cs each.1 q (past a x) s1 scope1 k (then_way (out_of o) to)
      (λ lt. ap (λ z. then_way (out_of z) to) (h (omega (arith, lt)))))

  -- The choice.

  operands-of : (l : ℕ) (s : Scope) (env : Env) (slots : List Value) → Known s.locals s.next env slots
      → (cs : List ClauseStep) → EachClause cs
      → Turns taking slots (all (map (λ (c : ClausePart). c.operands l s) (clause_parts cs))) []
      (O.in_order (map (λ (c : ClauseStep). c.operands l s env) cs))
  operands-of l s env slots ok [] each = turn-none taking slots []
  operands-of l s env slots ok (c ∷ cs) each =
      let means : ClauseMeans c = each.0 in
      turn-both taking slots (c.part.operands l s) (all (map (λ (c : ClausePart). c.operands l s) (clause_parts cs)))
      (c.operands l s env) (O.in_order (map (λ (c : ClauseStep). c.operands l s env) cs))
      (means.operands_turn l s env slots ok) (operands-of l s env slots ok cs each.1)

  quiet-all : (l : ℕ) (cs : List ClauseStep) → EachClause cs → (s : Scope)
      → (W.in_order (map (λ (c : ClausePart). c.walk l) (clause_parts cs)) s).declares ≡ []
  quiet-all l [] each s = refl
  quiet-all l (c ∷ cs) each s =
      let means : ClauseMeans c = each.0 in
      ap (λ es. es ++ (W.in_order (map (λ (d : ClausePart). d.walk l) (clause_parts cs))
      (behind s (c.part.walk l s))).declares) (means.quiet l s) ∙ quiet-all l cs each.1 (behind s (c.part.walk l s))

  module _ (l : ℕ) (cs : List ClauseStep) (each : EachClause cs) where
    abbrev ps : List ClausePart
    ps = clause_parts cs

    abbrev cases : List SelectCase
    cases = cases_from 0 ps

    abbrev otherwise : Option ℕ
    otherwise = default_from 0 ps

    -- if the number of a clause is its place
    picks-is : (label : ℕ → ℕ) → OneDefault ps → ((j : ℕ) → 0 ≤ j → j < 0 + length ps → label j ≡ j)
        → (slots rest vs : List Value) (u : World) → length vs ≡ cases_taken cases
        → picks taking.gives label cases otherwise (frame slots (pushed vs rest)) u ≡ bind
        (gets taking.gives (Instr.Select cases otherwise) vs u)
        (λ x w. chosen_frame slots rest (clause_of label x.clause cases otherwise) x w)
    picks-is label one h slots rest vs u e =
        takes-all u (cases_taken cases) vs rest
        (λ us r. bind (gets taking.gives (Instr.Select (map (relabelled label) cases) (option_map label otherwise))
        us u) (λ x w. chosen_frame slots r (clause_of label x.clause cases otherwise) x w)) e
        ∙ ap (λ xs. bind (gets taking.gives (Instr.Select xs (option_map label otherwise)) vs u)
        (λ x w. chosen_frame slots rest (clause_of label x.clause cases otherwise) x w)) (relabel label 0 ps h)
        ∙ ap (λ m. bind (gets taking.gives (Instr.Select cases m) vs u)
        (λ x w. chosen_frame slots rest (clause_of label x.clause cases otherwise) x w))
        (relabel-default label 0 ps h)

    module _ (a : Around) (s : Scope) (n at : ℕ) (us : List ℕ) (env : Env) (slots rest : List Value)
        (ok : Known s.locals s.next env slots)
        (room : (behind s (W.in_order (map (λ (c : ClausePart). c.walk l) ps) s)).next ≤ length slots)
        (one : OneDefault ps) where
      abbrev p : Piece
      p = choice l ps s

      abbrev is : List ℕ
      is = inner n l at p ps a s us

      abbrev label : ℕ → ℕ
      label k = lower (placed_targets cases otherwise is) (target is k)

      abbrev C : PieceExit → PieceExit
      C o = out_of (around n l at p ps a s us o)

      label-is : (j : ℕ) → 0 ≤ j → j < 0 + length ps → label j ≡ j
      label-is j le lt = rank-is is j ps (rises-on n l at ps p a s us) (omega (arith, lt)) one

      abbrev X : Flow → PieceExit → Type 0
      X = Exactly rest a s.locals s.next slots

      answered-goes : (x : Answer) (w : World)
          → X (out_of_select (chosen taking l x.clause x.values cs a s n env w))
          (C (then_way (picked (chosen_frame slots rest (clause_of label x.clause cases otherwise) x w))
          (λ c v. PieceExit.Through c v)))
      answered-goes x w =
          let here : Selection = record {
            turns = n;
            line = l;
            at = at;
            targets = us;
            rest = rest;
            locals = s.locals;
            next = s.next;
            slots = slots;
            env = env;
            values = x.values;
            world = w;
          } in
          let scope : OfClauses here cs s = record { same = refl; above = omega arith; known = ok; room = room } in
          clause-goes here cs each p a s scope x.clause
          (then_way (picked (chosen_frame slots rest (clause_of label x.clause cases otherwise) x w))
          (λ c v. PieceExit.Through c v))
          (λ lt. ap (λ m. then_way (picked (chosen_frame slots rest m x w)) (λ c v. PieceExit.Through c v))
          (clause-is label 0 x.clause ps one label-is (omega arith) (omega (arith, lt))))

      choice-goes : (vs : List Value) (u : World)
          → X (chooses taking l cs vs a s n env u)
          (C (then_way (picked (picks taking.gives label cases otherwise (frame slots (pushed vs rest)) u))
          (λ c v. PieceExit.Through c v)))
      choice-goes vs u = by (length vs == cases_taken cases) refl
        where
          by : (b : Bool) → (length vs == cases_taken cases) ≡ b
              → X (guarded b u (after (gets taking.gives (Instr.Select cases otherwise) vs u)
              (λ x w. out_of_select (chosen taking l x.clause x.values cs a s n env w))))
              (C (then_way (picked (picks taking.gives label cases otherwise (frame slots (pushed vs rest)) u))
              (λ c v. PieceExit.Through c v)))
          by false e = tt
          by true e =
              subst (λ q. X (after (gets taking.gives (Instr.Select cases otherwise) vs u)
              (λ x w. out_of_select (chosen taking l x.clause x.values cs a s n env w)))
              (C (then_way (picked q) (λ c v. PieceExit.Through c v))))
              (sym (picks-is label one label-is slots rest vs u
              (exact_unsigned_eq (length vs) (cases_taken cases) e)))
              (goes-after X (λ t o h. h) (gets taking.gives (Instr.Select cases otherwise) vs u)
              (λ x w. out_of_select (chosen taking l x.clause x.values cs a s n env w))
              (λ x w i. i ≡ picked (chosen_frame slots rest (clause_of label x.clause cases otherwise) x w))
              (λ z. C (then_way z (λ c v. PieceExit.Through c v)))
              (picked (bind (gets taking.gives (Instr.Select cases otherwise) vs u)
              (λ x w. chosen_frame slots rest (clause_of label x.clause cases otherwise) x w)))
              (λ h os. ap out_of (around-ends n l at ps p a s us (halted h os)))
              (sim-picked (gets taking.gives (Instr.Select cases otherwise) vs u)
              (λ x w. chosen_frame slots rest (clause_of label x.clause cases otherwise) x w))
              (λ x w i q. subst (λ z. X (out_of_select (chosen taking l x.clause x.values cs a s n env w))
              (C (then_way z (λ c v. PieceExit.Through c v)))) (sym q) (answered-goes x w)))

      abbrev ops : Piece
      ops = all (map (λ (c : ClausePart). c.operands l s) ps)

      whole-goes : (u : World) → X (after (O.in_order (map (λ (c : ClauseStep). c.operands l s env) cs) u)
          (λ vs v. chooses taking l cs vs a s n env v)) (C (run taking.gives n p at is (frame slots rest) u))
      whole-goes u =
          let to = run taking.gives n (all (Piece.Choose l cases otherwise ∷ [])) (at + size ops) is in
          goes-after X (λ t o h. h) (O.in_order (map (λ (c : ClauseStep). c.operands l s env) cs) u)
          (λ vs v. chooses taking l cs vs a s n env v) (OnTop slots rest) (λ z. C (then_way z to))
          (run taking.gives n ops at is (frame slots rest) u)
          (λ h os. ap out_of (around-ends n l at ps p a s us (halted h os)))
          (operands-of l s env slots ok cs each n at is rest u)
          (λ vs v i q. subst (λ z. X (chooses taking l cs vs a s n env v) (C (then_way z to))) (sym q)
          (choice-goes vs v))

  pub means-select : (l : ℕ) (cs : List ClauseStep) → EachClause cs
      → StatementMeans taking (select_part l (clause_parts cs)).walk (select_part l (clause_parts cs)).lay
      (select_deed taking l cs)
  means-select l cs each = record {
    rises = λ s. subst (λ ds. SlotsRise s.next
        (behind s (W.in_order (map (λ (c : ClausePart). c.walk l) (clause_parts cs)) s)).next ds)
        (sym (quiet-all l cs each s)) (omega arith);
    goes = λ a s n env slots ok room at ts rest u.
        let q = (clauses_lay l (choice l (clause_parts cs) s) (clause_parts cs) a s).piece in
        let us : List ℕ = (at + size q) ∷ ts in
        let f = after (O.in_order (map (λ (c : ClauseStep). c.operands l s env) cs) u)
        (λ vs v. chooses taking l cs vs a s n env v) in
        let al = (behind s (W.in_order (map (λ (c : ClausePart). c.walk l) (clause_parts cs)) s)).locals in
        goes-guarded (Goes s.locals s.next slots rest al a) (λ v o. tt) (one_default (clause_parts cs)) u f
        (run taking.gives n ((select_part l (clause_parts cs)).lay a s).piece at ts (frame slots rest) u) (λ e.
        subst (λ es. Goes s.locals s.next slots rest (s.locals ++ es) a f
        (out_of (run taking.gives n q at us (frame slots rest) u))) (sym (quiet-all l cs each s))
        (exactly-goes rest a s.locals s.next slots f (out_of (run taking.gives n q at us (frame slots rest) u))
        (subst (λ z. Exactly rest a s.locals s.next slots f (out_of z))
        (sym (around-is n l at (clause_parts cs) (choice l (clause_parts cs) s) a s us (frame slots rest) u))
        (whole-goes l cs each a s n at us env slots rest ok room (one-of (clause_parts cs) e) u))));
  }
