-- The code of simple statements, variables, calls begun, return, break and continue does what they do.
-- For: `simple_deed`, `var_deed` and `return_deed`, golf_meaning_statements/specs/Steps.antt.
-- By: cases of the kind of statement; induction over the list of arguments of a call that is begun.
use Rattle.std.proofs.Common.{◌≡◌, ℕ, zero, suc, ◌+◌, ◌<◌, ◌≤◌, pos, Bool, true, false, cond, List, [], ◌∷◌, ◌++◌}
use Rattle.std.proofs.Common.{length, map, Option, Some, None, refl, ap, sym, ◌∙◌, subst, slice_get, slice_set, arith}
use Rattle.std.proofs.Common.{append_assoc, append-nil, length-append}
use Rattle.std.proofs.lemmas.Bool.{false≢true}
use Rattle.std.proofs.lemmas.List.{length-set}
use Rattle.golf_syntax_trees.specs.declared.expressions.Expr.{Expr}
use Rattle.golf_syntax_trees.specs.declared.statements.UpdateOperator.{UpdateOperator}
use Rattle.golf_syntax_trees.specs.declared.statements.UpdateOperator.TheVariants as update
use Rattle.golf_syntax_trees.specs.declared.statements.Simple.{Simple}
use Rattle.golf_syntax_trees.specs.declared.statements.SimpleKind.{SimpleKind}
use Rattle.golf_syntax_trees.specs.declared.statements.SimpleKind.TheVariants as simple
use Rattle.golf_syntax_trees.specs.declared.statements.VarContent.{VarContent}
use Rattle.golf_syntax_trees.specs.declared.statements.VarContent.TheVariants as content
use Rattle.golf_data.specs.declared.value.Value.{Value}
use Rattle.golf_data.specs.declared.code.Instr.{Instr}
use Rattle.golf_model.specs.Values.{zero_of}
use Rattle.golf_model.specs.Arithmetic.{sum, difference, product, quotient, remainder}
use Rattle.golf_check_types.specs.declared.types.GoType.{GoType}
use Rattle.golf_check_types.specs.declared.operands.Operand.{Operand}
use Rattle.golf_check_types.specs.declared.operands.Operand.TheVariants as operand
use Rattle.golf_check_types.specs.declared.locals.Local.{Local}
use Rattle.golf_check_types.specs.declared.scopes.Scope.{Scope}
use Rattle.golf_check_types.specs.Scopes.{variable, meaning}
use Rattle.golf_check_types.specs.Names.{is_blank}
use Rattle.golf_check_types.specs.Types.{type_given}
use Rattle.golf_check_types.specs.Written.{write_at}
use Rattle.golf_check_types.specs.Expressions.{given_by, leaf, known_name}
use Rattle.golf_check_types.specs.Judgments.{judge_at}
use Rattle.golf_check_types.specs.Statements as W
use Rattle.golf_check_types.specs.Statements.{Walk, behind, assigned_name}
use Rattle.golf_code_layout.specs.Piece.{Piece, all, op, size}
use Rattle.golf_code_of.specs.declared.tables.Tables.{Tables}
use Rattle.golf_code_of.specs.Values.{push, zero_value}
use Rattle.golf_code_of.specs.Calls as K
use Rattle.golf_code_of.specs.ExpressionCode.{code_at, piece_at, argument_at}
use Rattle.golf_code_of.specs.Statements.{StatementPart, laid}
use Rattle.golf_code_of.specs.Statements as L
use Rattle.golf_meaning_flat.specs.Worlds as V
use Rattle.golf_meaning_flat.specs.Worlds.{World, bind}
use Rattle.golf_meaning_flat.specs.InstructionEffects.{Doing, doing, on_some, acts_on_two, shows, computed, divided}
use Rattle.golf_meaning_flat.specs.Structured.{PieceExit, from_part, then_way, run}
use Rattle.golf_meaning_source.specs.Names.{Env}
use Rattle.golf_meaning_source.specs.Operations.{Taking, Gives, gives, both, then_do, visible, on_two}
use Rattle.golf_meaning_source.specs.Exprs.{values_of, if_none, store}
use Rattle.golf_meaning_source.specs.Does.{frame, Sim, OnTop, Turns, Stored, SlotsRise, Apart, Kept, Changed, Tail}
use Rattle.golf_meaning_source.specs.Does.{Matches, Known}
use Rattle.golf_meaning_source.proofs.Turning.{sim-in, bind-assoc, turn-none, turn-both, turn-after-two, turn-visible}
use Rattle.golf_meaning_source.proofs.Turning.{turn-calculate, turn-over, tail-then, tail-end, tail-over}
use Rattle.golf_meaning_source.proofs.Places.{turn-over-more, stores-visible}
use Rattle.golf_meaning_source.proofs.Environments.{set-other, set-same, stored-below}
use Rattle.golf_meaning_source.proofs.Constructs.{matches-name}
use Rattle.golf_meaning_source.proofs.Exprs.{means}
use Rattle.golf_meaning_source.specs.ExpressionMeaning.{outer}
use Rattle.golf_meaning_statements.specs.Flows.{Course, Flow, on}
use Rattle.golf_meaning_statements.specs.Steps.{name_place, stores_pair, stores_unless, with_new, defines_pair, does_at}
use Rattle.golf_meaning_statements.specs.Steps.{value_at, Deals, declared, bound, drops, update_operation, updates}
use Rattle.golf_meaning_statements.specs.Steps.{assigns, one, simple_deals, simple_deed, is_plain_kind, first_value}
use Rattle.golf_meaning_statements.specs.Steps.{var_deed, argument, beginning, begin_deals, begin_deed, returned}
use Rattle.golf_meaning_statements.specs.Steps.{return_deed}
use Rattle.golf_meaning_statements.specs.Follows.{IsEnvStored, Goes, StatementMeans}
use Rattle.golf_meaning_statements.proofs.Flowing.{goes-on, goes-changed, goes-after, stored-take, apart-below}
use Rattle.golf_meaning_statements.proofs.Flowing.{rising-append}

pub stored-new : (ds : List Local) (env : Env) (now : List Value) (d : Local) (v : Value) → Stored ds env now
    → slice_get now d.slot ≡ Some v → Stored (ds ++ d ∷ []) (bound env d.name v) now
stored-new [] [] now d v h e = (refl, e, tt)
stored-new [] (x ∷ env) now d v h e = absurd h
stored-new (k ∷ ds) [] now d v h e = absurd h
stored-new (k ∷ ds) (x ∷ env) now d v h e = (h.0, h.1, stored-new ds env now d v h.2 e)

pub there-is : (slots : List Value) (i : ℕ) → i < length slots → (v : Value) × (slice_get slots i ≡ Some v)
there-is [] i h = absurd (omega (arith, h))
there-is (x ∷ xs) zero h = (x, refl)
there-is (x ∷ xs) (suc i) h = there-is xs i (omega (arith, h))

-- changed, and changed on
pub changed-on : (ds : List Local) (slots now rest : List Value) (p : V.Part Env) (o : PieceExit)
    → length now ≡ length slots
    → ((i : ℕ) → Apart i ds → slice_get now i ≡ slice_get slots i) → Sim p (Changed ds now rest) o
    → Sim p (Changed ds slots rest) o
changed-on ds slots now rest (V.Part.Gives env u) o long kept h = (h.0, h.1, h.2, h.3 ∙ long, λ i a. h.4 i a ∙ kept i a)
changed-on ds slots now rest (V.Part.Stops s os) o long kept h = h

one-rises : (b : Bool) (n : List ℕ) (t : Option GoType) (s : Scope)
    → SlotsRise s.next (s.next + length (W.one_new b n t s).slots) (W.one_new b n t s).declares
one-rises true n t s = (omega arith, omega arith)
one-rises false n t s = omega arith

-- two names left of `:=`
pub pair-rises : (n m : List ℕ) (t : Option GoType) (s : Scope)
    → SlotsRise s.next (s.next + length (W.then (W.one_new (W.is_new s n) n t)
    (W.one_new (W.is_new s m) m W.bool_type) s).slots)
    (W.then (W.one_new (W.is_new s n) n t) (W.one_new (W.is_new s m) m W.bool_type) s).declares
pair-rises n m t s =
    let v = W.one_new (W.is_new s n) n t s in
    let s1 = behind s v in
    let w = W.one_new (W.is_new s m) m W.bool_type s1 in
    let k = length-append v.slots w.slots in
    subst (λ z. SlotsRise s.next z (v.declares ++ w.declares)) (omega (arith, k))
    (rising-append v.declares w.declares s.next s1.next (s1.next + length w.slots) (one-rises (W.is_new s n) n t s)
    (one-rises (W.is_new s m) m W.bool_type s1))

module _ (taking : Taking) where
  -- a statement that declares nothing
  pub means-quiet : (w : Walk) (p : Scope → Piece) (d : Scope → Deals) → ((s : Scope) → (w s).declares ≡ [])
      → ((s : Scope) (env : Env) (slots : List Value) → Known s.locals s.next env slots → (rest : List Value)
      → Tail taking slots rest (p s) [] (d s env) (Changed s.locals slots rest))
      → StatementMeans taking w (λ a s. laid (p s)) (λ a s n env u. on (d s env u))
  means-quiet w p d e h = record {
    rises = λ s. subst (λ ds. SlotsRise s.next (behind s (w s)).next ds) (sym (e s)) (omega arith);
    goes = λ a s n env slots ok room at ts rest u.
        subst (λ ds. Goes s.locals s.next slots rest (s.locals ++ ds) a (on (d s env u))
        (run taking.gives n (p s) at ts (frame slots rest) u)) (sym (e s))
        (goes-changed rest a s.locals s.next slots (d s env u) (run taking.gives n (p s) at ts (frame slots rest) u)
        (h s env slots ok rest n at ts u));
  }

  -- a new name gets the value on top, and its slot too
  pub declares-top : (s : Scope) (env : Env) (slots rest : List Value) (n : List ℕ) (t : Option GoType) (l : ℕ)
      → Known s.locals s.next env slots → s.next < length slots → (vs : List Value)
      → Tail taking slots rest (op l (Instr.Store s.next)) vs (declared env n vs)
      (λ e u i. (now : List Value) × (i ≡ PieceExit.Through (frame now rest) u)
      × IsEnvStored s.locals s.next slots (s.locals ++ variable s n t ∷ []) e now)
  declares-top s env slots rest n t l ok lt [] m at ts u = tt
  declares-top s env slots rest n t l ok lt (v ∷ []) m at ts u =
      let old = there-is slots s.next lt in (
        slice_set slots s.next v,
        ap (λ o. from_part (on_some (λ (x : Value). V.Part.Gives
            (record { slots = slice_set slots s.next v; operands = rest }) u) u o)) old.1,
        (
          stored-new s.locals env (slice_set slots s.next v) (variable s n t) v
              (stored-below s.locals env slots s.next 0 s.next v (omega arith) ok.rising ok.stored)
              (set-same slots s.next v lt),
          length-set slots s.next v,
          λ i under a. set-other slots s.next i v (λ q. omega (arith, q, under)),
        ),
      )
  declares-top s env slots rest n t l ok lt (v ∷ (x ∷ vs)) m at ts u = tt

  -- a statement that declares one name
  pub means-declares : (l : ℕ) (n : List ℕ) (w : Walk) (ty : Scope → Option GoType) (p : Scope → Piece)
      (f : Scope → Env → Gives) → ((s : Scope) → (w s).declares ≡ variable s n (ty s) ∷ [])
      → ((s : Scope) → (w s).slots ≡ ty s ∷ [])
      → ((s : Scope) (env : Env) (slots : List Value) → Known s.locals s.next env slots
      → Turns taking slots (p s) [] (f s env))
      → StatementMeans taking w (λ a s. laid (all (p s ∷ op l (Instr.Store s.next) ∷ [])))
      (λ a s k env u. on (bind (f s env u) (declared env n)))
  means-declares l n w ty p f e1 e2 h = record {
    rises = λ s. subst (λ ds. SlotsRise s.next (behind s (w s)).next ds) (sym (e1 s))
        (subst (λ ts. SlotsRise s.next (s.next + length ts) (variable s n (ty s) ∷ [])) (sym (e2 s))
        (omega arith, omega arith));
    goes = λ a s k env slots ok room at ts rest u.
        let room1 = subst (λ ts. s.next + length ts ≤ length slots) (e2 s) room in
        let q = all (op l (Instr.Store s.next) ∷ []) in
        subst (λ ds. Goes s.locals s.next slots rest (s.locals ++ ds) a (on (bind (f s env u) (declared env n)))
        (run taking.gives k (all (p s ∷ op l (Instr.Store s.next) ∷ [])) at ts (frame slots rest) u)) (sym (e1 s))
        (goes-on rest a s.locals (s.locals ++ variable s n (ty s) ∷ []) s.next slots (bind (f s env u) (declared env n))
        (run taking.gives k (all (p s ∷ op l (Instr.Store s.next) ∷ [])) at ts (frame slots rest) u)
        (tail-then taking slots rest (p s) q [] (f s env) (declared env n)
        (λ e u i. (now : List Value) × (i ≡ PieceExit.Through (frame now rest) u)
        × IsEnvStored s.locals s.next slots (s.locals ++ variable s n (ty s) ∷ []) e now) (h s env slots ok)
        (λ vs. tail-end taking slots rest (op l (Instr.Store s.next)) vs (declared env n vs)
        (λ e u i. (now : List Value) × (i ≡ PieceExit.Through (frame now rest) u)
        × IsEnvStored s.locals s.next slots (s.locals ++ variable s n (ty s) ∷ []) e now)
        (declares-top s env slots rest n (ty s) l ok (omega (arith, room1)) vs)) k at ts u));
  }

  module _ (t : Tables) (l : ℕ) where
    module _ (s : Scope) (env : Env) (slots : List Value) (ok : Known s.locals s.next env slots)
        (rest : List Value) where
      abbrev M : Expr → Type 0
      M e = Matches taking s.locals slots env (value_at taking t l s e env) ((does_at taking t l s e).place env)
          ((does_at taking t l s e).parts env) (code_at t l s e)

      matches : (e : Expr) → M e
      matches e = means taking t e l s env slots ok

      abbrev C : Env → World → PieceExit → Type 0
      C = Changed s.locals slots rest

      tail-drops : (m : Operand) (vs : List Value) → Tail taking slots rest (L.drops l m) vs (drops m env vs) C
      tail-drops (operand.Nothing late) [] n at ts u = (slots, refl, ok.stored, refl, λ i a. refl)
      tail-drops (operand.Nothing late) (v ∷ vs) n at ts u = tt
      tail-drops _ [] n at ts u = tt
      tail-drops _ (v ∷ []) n at ts u = (slots, refl, ok.stored, refl, λ i a. refl)
      tail-drops _ (v ∷ (x ∷ vs)) n at ts u = tt

      -- the place is told once, and read before e
      tail-updates : (p : Expr) (e : Piece) (g : Gives) (i : Instr) (f : World → Value → Value → V.Part Value)
          → Turns taking slots e [] g → doing taking.gives i ≡ Doing.Acts (acts_on_two f)
          → Tail taking slots rest (L.updates l (code_at t l s p) e i) []
          (updates taking (does_at taking t l s p) g f env) C
      tail-updates p e g i f h q =
          let m = matches p in
          let d = does_at taking t l s p in
          let k = code_at t l s p in
          let place = d.place env in
          let last = all (k.store ∷ []) in
          let after_op = Piece.Then (op l i) last in
          let after_read = Piece.Then e after_op in
          tail-then taking slots rest k.parts (Piece.Then k.twice (Piece.Then k.read after_read)) []
          (d.parts env) _ C m.parts_turn (λ told.
          m.again rest told after_read (λ xs v. bind (g v)
          (λ ys x. bind (on_two f (xs ++ ys) x) (λ zs y. store taking env place (told ++ zs) y))) (λ xs.
          tail-over taking slots rest e after_op (told ++ xs) (told ++ xs) g
          (λ ys x. bind (on_two f (xs ++ ys) x) (λ zs y. store taking env place (told ++ zs) y)) C
          (turn-over taking slots e (told ++ xs) g h) (λ ys.
          subst (λ us. Tail taking slots rest after_op us
          (λ x. bind (on_two f (xs ++ ys) x) (λ zs y. store taking env place (told ++ zs) y)) C)
          (sym (append_assoc told xs ys))
          (tail-over taking slots rest (op l i) last (told ++ (xs ++ ys)) told (on_two f (xs ++ ys))
          (λ zs y. store taking env place (told ++ zs) y) C
          (turn-over-more taking slots (op l i) told (xs ++ ys) (on_two f (xs ++ ys))
          (turn-calculate taking slots l i f (xs ++ ys) q)) (λ zs.
          tail-end taking slots rest k.store (told ++ zs) (store taking env place (told ++ zs)) C
          (λ n at ts u. m.stores (told ++ zs) n at ts rest u))))))

      tail-assigns : (p : Expr) (e : Piece) (g : Gives) → Turns taking slots e [] g
          → Tail taking slots rest (L.assigns (code_at t l s p) e) [] (assigns taking (does_at taking t l s p) g env) C
      tail-assigns p e g h =
          let m = matches p in
          let d = does_at taking t l s p in
          let k = code_at t l s p in
          let place = d.place env in
          tail-then taking slots rest k.parts (all (e ∷ k.store ∷ [])) [] (d.parts env) _ C m.parts_turn (λ told.
          tail-over taking slots rest e (all (k.store ∷ [])) told told g
          (λ xs v. store taking env place (told ++ xs) v) C (turn-over taking slots e told g h) (λ xs.
          tail-end taking slots rest k.store (told ++ xs) (store taking env place (told ++ xs)) C
          (λ n at ts u. m.stores (told ++ xs) n at ts rest u)))

      tail-one : Turns taking slots (op l (Instr.Int (pos 1))) [] one
      tail-one n at ts r u = refl

      tail-update : (p : Expr) (o : UpdateOperator) (e : Expr)
          → Tail taking slots rest (L.updates l (code_at t l s p) (piece_at t l s e) (L.update_instr o)) []
          (updates taking (does_at taking t l s p) (value_at taking t l s e env) (update_operation o) env) C
      tail-update p update.Add e = tail-updates p (piece_at t l s e) (value_at taking t l s e env) Instr.Add
          (computed sum) ((matches e).value_turns) refl
      tail-update p update.Subtract e = tail-updates p (piece_at t l s e) (value_at taking t l s e env) Instr.Sub
          (computed difference) ((matches e).value_turns) refl
      tail-update p update.Multiply e = tail-updates p (piece_at t l s e) (value_at taking t l s e env) Instr.Mul
          (computed product) ((matches e).value_turns) refl
      tail-update p update.Divide e = tail-updates p (piece_at t l s e) (value_at taking t l s e env) Instr.Div
          (divided quotient) ((matches e).value_turns) refl
      tail-update p update.Remainder e = tail-updates p (piece_at t l s e) (value_at taking t l s e env) Instr.Rem
          (divided remainder) ((matches e).value_turns) refl

      tail-expression : (e : Expr) → Tail taking slots rest
          (all (piece_at t l s e ∷ L.drops l (judge_at l s e).meaning ∷ [])) []
          (λ w. bind (value_at taking t l s e env w) (drops (judge_at l s e).meaning env)) C
      tail-expression e =
          tail-then taking slots rest (piece_at t l s e) (all (L.drops l (judge_at l s e).meaning ∷ [])) []
          (value_at taking t l s e env) (drops (judge_at l s e).meaning env) C ((matches e).value_turns) (λ vs.
          tail-end taking slots rest (L.drops l (judge_at l s e).meaning) vs (drops (judge_at l s e).meaning env vs) C
          (tail-drops (judge_at l s e).meaning vs))

      tail-send : (c e : Expr) → Tail taking slots rest
          (all (piece_at t l s c ∷ piece_at t l s e ∷ op l Instr.Send ∷ [])) []
          (λ w. bind (both (value_at taking t l s c env) (value_at taking t l s e env) w)
          (λ vs u. bind (visible taking Instr.Send [] vs u) (λ us v. if_none us v (V.Part.Gives env v)))) C
      tail-send c e n at ts u =
          let f = both (value_at taking t l s c env) (value_at taking t l s e env) in
          subst (λ p. Sim p C (run taking.gives n
          (all (piece_at t l s c ∷ piece_at t l s e ∷ op l Instr.Send ∷ [])) at ts (frame slots rest) u))
          (sym (bind-assoc (f u) (visible taking Instr.Send []) (λ us v. if_none us v (V.Part.Gives env v))))
          (stores-visible taking slots s.locals env
          (all (piece_at t l s c ∷ piece_at t l s e ∷ op l Instr.Send ∷ [])) []
          (then_do f (visible taking Instr.Send []))
          (turn-after-two taking slots (piece_at t l s c) (piece_at t l s e) (op l Instr.Send)
          (value_at taking t l s c env) (value_at taking t l s e env) (visible taking Instr.Send [])
          ((matches c).value_turns) ((matches e).value_turns)
          (λ us. turn-visible taking slots l Instr.Send [] us refl)) ok.stored n at ts rest u)

    -- a name left of `=`
    same-store : (b : Bool) (g : Option ℕ) (m : Option Operand)
        → (Rattle.golf_code_of.specs.Expressions.name l t
        (cond b (leaf operand.Blank []) (known_name l g m)).meaning).store ≡ L.stores_to l t
        (cond b (Some operand.Blank) m)
    same-store true g m = refl
    same-store false g None = refl
    same-store false g (Some m) = refl

    pub name-stores : (s : Scope) (n : List ℕ) (env : Env) (slots : List Value) → Known s.locals s.next env slots
        → (vs : List Value) (k at : ℕ) (ts : List ℕ) (rest : List Value) (u : World)
        → Sim (store taking env (name_place taking t s n env) vs u) (Changed s.locals slots rest)
        (run taking.gives k (L.stores_name l t s n) at ts (frame slots (V.pushed vs rest)) u)
    unfolding meaning assigned_name
    name-stores s n env slots ok vs k at ts rest u =
        subst (λ p. Sim (store taking env (name_place taking t s n env) vs u) (Changed s.locals slots rest)
        (run taking.gives k p at ts (frame slots (V.pushed vs rest)) u))
        (same-store (is_blank n) s.initialises (meaning s n))
        ((matches-name taking slots s.locals env t l s.next s.initialises n (is_blank n) (outer s n) ok).stores vs k at
        ts rest u)

    pair-stores : (s : Scope) (n m : List ℕ) (env : Env) (slots rest : List Value) → Known s.locals s.next env slots
        → (vs : List Value) → Tail taking slots rest (all (L.stores_name l t s m ∷ L.stores_name l t s n ∷ [])) vs
        (stores_pair taking t s n m env vs) (Changed s.locals slots rest)
    pair-stores s n m env slots rest ok [] k at ts u = tt
    pair-stores s n m env slots rest ok (v ∷ []) k at ts u = tt
    pair-stores s n m env slots rest ok (v ∷ (y ∷ [])) k at ts u =
        let M = L.stores_name l t s m in
        let N = L.stores_name l t s n in
        sim-in (store taking env (name_place taking t s m env) (y ∷ []) u)
        (λ e w. store taking e (name_place taking t s n e) (v ∷ []) w) (Changed s.locals slots (v ∷ rest))
        (Changed s.locals slots rest) (λ o. then_way o (run taking.gives k (all (N ∷ [])) (at + size M) ts))
        (run taking.gives k M at ts (frame slots (y ∷ v ∷ rest)) u) (λ h os. refl)
        (name-stores s m env slots ok (y ∷ []) k at ts (v ∷ rest) u)
        (λ e w o c.
        subst (λ z. Sim (store taking e (name_place taking t s n e) (v ∷ []) w) (Changed s.locals slots rest)
        (then_way z (run taking.gives k (all (N ∷ [])) (at + size M) ts))) (sym c.1)
        (tail-end taking c.0 rest N (v ∷ []) (λ x. store taking e (name_place taking t s n e) (v ∷ []) x)
        (Changed s.locals slots rest)
        (λ k at ts w. changed-on s.locals slots c.0 rest (store taking e (name_place taking t s n e) (v ∷ []) w)
        (run taking.gives k N at ts (frame c.0 (v ∷ rest)) w) c.3 c.4
        (name-stores s n e c.0 (record { stored = c.2; rising = ok.rising }) (v ∷ []) k at ts rest w)) k
        (at + size M) ts w))
    pair-stores s n m env slots rest ok (v ∷ (y ∷ (z ∷ vs))) k at ts u = tt

    tail-received : (s : Scope) (n m : List ℕ) (e : Expr) (env : Env) (slots : List Value)
        → Known s.locals s.next env slots → (rest : List Value)
        → Tail taking slots rest (L.simple_piece t l (simple.AssignReceived n m e) s) []
        (simple_deals taking t l (simple.AssignReceived n m e) s env) (Changed s.locals slots rest)
    tail-received s n m e env slots ok rest =
        let leaves : List (Option GoType) = W.carried l e s ∷ (W.bool_type ∷ []) in
        let pair = all (L.stores_name l t s m ∷ L.stores_name l t s n ∷ []) in
        tail-then taking slots rest (piece_at t l s e) (Piece.Then (op l Instr.ReceiveOk) pair) []
        (value_at taking t l s e env) (λ vs u. bind (visible taking Instr.ReceiveOk leaves vs u)
        (stores_pair taking t s n m env)) (Changed s.locals slots rest)
        ((means taking t e l s env slots ok).value_turns)
        (λ vs. tail-then taking slots rest (op l Instr.ReceiveOk) pair vs (visible taking Instr.ReceiveOk leaves vs)
        (stores_pair taking t s n m env) (Changed s.locals slots rest)
        (turn-visible taking slots l Instr.ReceiveOk leaves vs refl) (λ us. pair-stores s n m env slots rest ok us))

    pub value-turns : (e : Expr) (s : Scope) (env : Env) (slots : List Value) → Known s.locals s.next env slots
        → Turns taking slots (piece_at t l s e) [] (value_at taking t l s e env)
    value-turns e s env slots ok = (means taking t e l s env slots ok).value_turns

    -- two names left of `:=`

    module _ (s : Scope) (n m : List ℕ) (ty : Option GoType) (v y : Value) (slots rest : List Value) where
      abbrev PS1 : Bool → Scope
      PS1 bn = behind s (W.one_new bn n ty s)

      abbrev HasNew : Bool → ℕ → Value → List Value → Type 0
      HasNew true i x now = slice_get now i ≡ Some x
      HasNew false i x now = Unit {0}

      abbrev Middle : Bool → Bool → Env → World → PieceExit → Type 0
      Middle bn bm e u o = (now : List Value) × (o ≡ PieceExit.Through (frame now (v ∷ rest)) u) × Stored s.locals e now
          × (length now ≡ length slots) × Kept s.locals s.next slots now × HasNew bm (PS1 bn).next y now

      second-first : (bn bm : Bool) (env : Env) → Known s.locals s.next env slots
          → (PS1 bn).next + length (W.one_new bm m W.bool_type (PS1 bn)).slots ≤ length slots
          → (k at : ℕ) (ts : List ℕ) (u : World)
          → Sim (stores_unless taking bm t s m env y u) (Middle bn bm)
          (run taking.gives k (cond bm (op l (Instr.Store (PS1 bn).next)) (L.stores_name l t s m)) at ts
          (frame slots (y ∷ v ∷ rest)) u)
      second-first bn true env ok room k at ts u =
          let i = (PS1 bn).next in
          let old = there-is slots i (omega (arith, room)) in (
            slice_set slots i y,
            ap (λ o. from_part (on_some (λ (x : Value). V.Part.Gives
                (record { slots = slice_set slots i y; operands = v ∷ rest }) u) u o)) old.1,
            stored-below s.locals env slots i 0 s.next y (omega arith) ok.rising ok.stored,
            length-set slots i y,
            λ j lt a. set-other slots i j y (λ q. omega (arith, q, lt)),
            set-same slots i y (omega (arith, room)),
          )
      second-first bn false env ok room k at ts u =
          middled (store taking env (name_place taking t s m env) (y ∷ []) u)
          (run taking.gives k (L.stores_name l t s m) at ts (frame slots (y ∷ v ∷ rest)) u)
          (name-stores s m env slots ok (y ∷ []) k at ts (v ∷ rest) u)
        where
          middled : (p : V.Part Env) (o : PieceExit) → Sim p (Changed s.locals slots (v ∷ rest)) o
              → Sim p (Middle bn false) o
          middled (V.Part.Gives e w) o h = (h.0, h.1, h.2, h.3, λ j lt a. h.4 j a, tt)
          middled (V.Part.Stops x os) o h = h

      abbrev Last : Bool → Bool → List Value → Env → World → PieceExit → Type 0
      Last bn bm now1 e u o = (now : List Value) × (o ≡ PieceExit.Through (frame now rest) u) × Stored s.locals e now
          × (length now ≡ length now1) × Kept s.locals s.next now1 now × HasNew bn s.next v now
          × HasNew bm (PS1 bn).next y now

      keeps-new : (bm : Bool) (i : ℕ) (now1 now : List Value) → slice_get now i ≡ slice_get now1 i → HasNew bm i y now1
          → HasNew bm i y now
      keeps-new true i now1 now e h = e ∙ h
      keeps-new false i now1 now e h = tt

      first-last : (bn bm : Bool) (env : Env) (now1 : List Value) → Known s.locals s.next env now1
          → s.next + length (W.one_new bn n ty s).slots ≤ length now1 → HasNew bm (PS1 bn).next y now1
          → (k at : ℕ) (ts : List ℕ) (u : World)
          → Sim (stores_unless taking bn t s n env v u) (Last bn bm now1)
          (run taking.gives k (cond bn (op l (Instr.Store s.next)) (L.stores_name l t s n)) at ts
          (frame now1 (v ∷ rest)) u)
      first-last true bm env now1 ok room new k at ts u =
          let i = s.next in
          let old = there-is now1 i (omega (arith, room)) in (
            slice_set now1 i v,
            ap (λ o. from_part (on_some (λ (x : Value). V.Part.Gives
                (record { slots = slice_set now1 i v; operands = rest }) u) u o)) old.1,
            stored-below s.locals env now1 i 0 s.next v (omega arith) ok.rising ok.stored,
            length-set now1 i v,
            λ j lt a. set-other now1 i j v (λ q. omega (arith, q, lt)),
            set-same now1 i v (omega (arith, room)),
            keeps-new bm (PS1 true).next now1 (slice_set now1 i v)
                (set-other now1 i (PS1 true).next v (λ q. omega (arith, q))) new,
          )
      first-last false bm env now1 ok room new k at ts u =
          lasted (store taking env (name_place taking t s n env) (v ∷ []) u)
          (run taking.gives k (L.stores_name l t s n) at ts (frame now1 (v ∷ rest)) u)
          (name-stores s n env now1 ok (v ∷ []) k at ts rest u)
        where
          lasted : (p : V.Part Env) (o : PieceExit) → Sim p (Changed s.locals now1 rest) o
              → Sim p (Last false bm now1) o
          lasted (V.Part.Gives e w) o h = (
            h.0,
            h.1,
            h.2,
            h.3,
            λ j lt a. h.4 j a,
            tt,
            keeps-new bm (PS1 false).next now1 h.0
                (h.4 (PS1 false).next (apart-below s.locals 0 s.next (PS1 false).next ok.rising (omega arith))) new,
          )
          lasted (V.Part.Stops x os) o h = h

      both-new : (bn bm : Bool) (env : Env) (now : List Value) → Stored s.locals env now → HasNew bn s.next v now
          → HasNew bm (PS1 bn).next y now
          → Stored (s.locals ++ ((W.one_new bn n ty s).declares ++ (W.one_new bm m W.bool_type (PS1 bn)).declares))
          (with_new bm m y (with_new bn n v env)) now
      both-new true true env now h p q = subst (λ es. Stored es (bound (bound env n v) m y) now)
          (append_assoc s.locals (variable s n ty ∷ []) (variable (PS1 true) m W.bool_type ∷ []))
          (stored-new (s.locals ++ variable s n ty ∷ []) (bound env n v) now (variable (PS1 true) m W.bool_type) y
          (stored-new s.locals env now (variable s n ty) v h p) q)
      both-new true false env now h p q = stored-new s.locals env now (variable s n ty) v h p
      both-new false true env now h p q = stored-new s.locals env now (variable (PS1 false) m W.bool_type) y h q
      both-new false false env now h p q = subst (λ es. Stored es env now) (sym (append-nil s.locals)) h

      abbrev After : Bool → Bool → Env → World → PieceExit → Type 0
      After bn bm e u o = (now : List Value) × (o ≡ PieceExit.Through (frame now rest) u)
          × IsEnvStored s.locals s.next slots (s.locals
          ++ ((W.one_new bn n ty s).declares ++ (W.one_new bm m W.bool_type (PS1 bn)).declares)) e now

      pair-goes : (bn bm : Bool) (env : Env) → Known s.locals s.next env slots
          → s.next + length ((W.one_new bn n ty s).slots ++ (W.one_new bm m W.bool_type (PS1 bn)).slots) ≤ length slots
          → (k at : ℕ) (ts : List ℕ) (u : World)
          → Sim (bind (stores_unless taking bm t s m env y u)
          (λ e w. bind (stores_unless taking bn t s n e v w)
          (λ e2 x. V.Part.Gives (with_new bm m y (with_new bn n v e2)) x))) (After bn bm)
          (run taking.gives k (all (cond bm (op l (Instr.Store (PS1 bn).next)) (L.stores_name l t s m)
          ∷ cond bn (op l (Instr.Store s.next)) (L.stores_name l t s n) ∷ [])) at ts (frame slots (y ∷ v ∷ rest)) u)
      pair-goes bn bm env ok room k at ts u =
          let M = cond bm (op l (Instr.Store (PS1 bn).next)) (L.stores_name l t s m) in
          let N = cond bn (op l (Instr.Store s.next)) (L.stores_name l t s n) in
          let z = length-append (W.one_new bn n ty s).slots (W.one_new bm m W.bool_type (PS1 bn)).slots in
          sim-in (stores_unless taking bm t s m env y u)
          (λ e w. bind (stores_unless taking bn t s n e v w)
          (λ e2 x. V.Part.Gives (with_new bm m y (with_new bn n v e2)) x)) (Middle bn bm) (After bn bm)
          (λ o. then_way o (run taking.gives k (all (N ∷ [])) (at + size M) ts))
          (run taking.gives k M at ts (frame slots (y ∷ v ∷ rest)) u) (λ h os. refl)
          (second-first bn bm env ok (omega (arith, room, z)) k at ts u)
          (λ e w o c.
          let now1 = c.0 in
          let long1 = c.3 in
          let f = λ (e2 : Env) (x : World). V.Part.Gives (with_new bm m y (with_new bn n v e2)) x in
          subst (λ q. Sim (bind (stores_unless taking bn t s n e v w) f) (After bn bm)
          (then_way q (run taking.gives k (all (N ∷ [])) (at + size M) ts))) (sym c.1)
          (tail-end taking now1 rest N (v ∷ []) (λ x. bind (stores_unless taking bn t s n e v x) f) (After bn bm)
          (λ k at ts w.
          sim-in (stores_unless taking bn t s n e v w) f (Last bn bm now1) (After bn bm) (λ o. o)
          (run taking.gives k N at ts (frame now1 (v ∷ rest)) w) (λ h os. refl)
          (first-last bn bm e now1 (record { stored = c.2; rising = ok.rising })
          (omega (arith, room, z, long1)) c.5 k at ts w)
          (λ e2 x o d. (d.0, d.1, (both-new bn bm e2 d.0 d.2 d.5 d.6, d.3 ∙ c.3, λ j lt a. d.4 j lt a ∙ c.4 j lt a)))) k
          (at + size M) ts w))

    -- a value and `ok`, and two names left of `:=`
    pub pair-two : {env : Env} {slots : List Value} (n m : List ℕ) (s : Scope) (rest : List Value) (ty : Option GoType)
        → Known s.locals s.next env slots → s.next + length
        ((W.one_new (W.is_new s n) n ty s).slots
        ++ (W.one_new (W.is_new s m) m W.bool_type (behind s (W.one_new (W.is_new s n) n ty s))).slots) ≤ length slots
        → (us : List Value) → Tail taking slots rest (L.stores_pair l t s n m ty) us
        (defines_pair taking t s n m env us)
        (λ e2 x o. (now : List Value) × (o ≡ PieceExit.Through (frame now rest) x)
        × IsEnvStored s.locals s.next slots (s.locals
        ++ ((W.one_new (W.is_new s n) n ty s).declares
        ++ (W.one_new (W.is_new s m) m W.bool_type (behind s (W.one_new (W.is_new s n) n ty s))).declares)) e2 now)
    pair-two {env} {slots} n m s rest ty ok room [] k at ts u = tt
    pair-two {env} {slots} n m s rest ty ok room (v ∷ []) k at ts u = tt
    pair-two {env} {slots} n m s rest ty ok room (v ∷ (y ∷ [])) k at ts u =
        pair-goes s n m ty v y slots rest (W.is_new s n) (W.is_new s m) env ok room k at ts u
    pair-two {env} {slots} n m s rest ty ok room (v ∷ (y ∷ (z ∷ us))) k at ts u = tt

    means-pair : (n m : List ℕ) (e : Expr)
        → StatementMeans taking (W.simple_kind l (simple.DefineReceived n m e))
        (λ a s. laid (L.simple_piece t l (simple.DefineReceived n m e) s))
        (λ a s k env u. on (simple_deals taking t l (simple.DefineReceived n m e) s env u))
    means-pair n m e = record {
      rises = λ s. pair-rises n m (W.carried l e s) s;
      goes = λ a s k env slots ok room at ts rest u.
          let leaves : List (Option GoType) = W.carried l e s ∷ (W.bool_type ∷ []) in
          let ty = W.carried l e s in
          let pair = all (L.stores_pair l t s n m ty ∷ []) in
          let al = (behind s (W.simple_kind l (simple.DefineReceived n m e) s)).locals in
          let A : Env → World → PieceExit → Type 0 = λ e2 x o. (now : List Value)
          × (o ≡ PieceExit.Through (frame now rest) x)
          × IsEnvStored s.locals s.next slots al e2 now in
          goes-on rest a s.locals al s.next slots (simple_deals taking t l (simple.DefineReceived n m e) s env u)
          (run taking.gives k (L.simple_piece t l (simple.DefineReceived n m e) s) at ts (frame slots rest) u)
          (tail-then taking slots rest (piece_at t l s e) (Piece.Then (op l Instr.ReceiveOk) pair) []
          (value_at taking t l s e env) (λ vs u. bind (visible taking Instr.ReceiveOk leaves vs u)
          (defines_pair taking t s n m env)) A (value-turns e s env slots ok)
          (λ vs. tail-then taking slots rest (op l Instr.ReceiveOk) pair vs (visible taking Instr.ReceiveOk leaves vs)
          (defines_pair taking t s n m env) A (turn-visible taking slots l Instr.ReceiveOk leaves vs refl)
          (λ us. tail-end taking slots rest (L.stores_pair l t s n m ty) us (defines_pair taking t s n m env us) A
          (pair-two n m s rest ty ok room us))) k at ts u);
    }

    pub means-kind : (k : SimpleKind) → StatementMeans taking (W.simple_kind l k) (λ a s. laid (L.simple_piece t l k s))
        (λ a s n env u. on (simple_deals taking t l k s env u))
    means-kind (simple.Expression e) = means-quiet (W.action l e) (L.simple_piece t l (simple.Expression e))
        (simple_deals taking t l (simple.Expression e)) (λ s. refl)
        (λ s env slots ok rest. tail-expression s env slots ok rest e)
    means-kind (simple.Send c e) = means-quiet (W.send l c e) (L.simple_piece t l (simple.Send c e))
        (simple_deals taking t l (simple.Send c e)) (λ s. refl)
        (λ s env slots ok rest. tail-send s env slots ok rest c e)
    means-kind (simple.Increment p) = means-quiet (W.step l p) (L.simple_piece t l (simple.Increment p))
        (simple_deals taking t l (simple.Increment p)) (λ s. refl)
        (λ s env slots ok rest. tail-updates s env slots ok rest p (op l (Instr.Int (pos 1))) one Instr.Add
        (computed sum) (tail-one s env slots ok rest) refl)
    means-kind (simple.Decrement p) = means-quiet (W.step l p) (L.simple_piece t l (simple.Decrement p))
        (simple_deals taking t l (simple.Decrement p)) (λ s. refl)
        (λ s env slots ok rest. tail-updates s env slots ok rest p (op l (Instr.Int (pos 1))) one Instr.Sub
        (computed difference) (tail-one s env slots ok rest) refl)
    means-kind (simple.Assign p e) = means-quiet (W.assignment l p e) (L.simple_piece t l (simple.Assign p e))
        (simple_deals taking t l (simple.Assign p e)) (λ s. refl)
        (λ s env slots ok rest. tail-assigns s env slots ok rest p (piece_at t l s e) (value_at taking t l s e env)
        (value-turns e s env slots ok))
    means-kind (simple.Update p o e) = means-quiet (W.update l p e) (L.simple_piece t l (simple.Update p o e))
        (simple_deals taking t l (simple.Update p o e)) (λ s. refl)
        (λ s env slots ok rest. tail-update s env slots ok rest p o e)
    means-kind (simple.Define n e) = means-declares l n (W.definition l n e)
        (λ s. type_given (given_by (judge_at l s e))) (λ s. piece_at t l s e) (λ s. value_at taking t l s e) (λ s. refl)
        (λ s. refl) (value-turns e)
    means-kind (simple.DefineReceived n m e) = means-pair n m e
    means-kind (simple.AssignReceived n m e) =
        means-quiet (W.assign_received l n m e) (L.simple_piece t l (simple.AssignReceived n m e))
        (simple_deals taking t l (simple.AssignReceived n m e)) (λ s. refl)
        (λ s env slots ok rest. tail-received s n m e env slots ok rest)

    -- a statement that declares nothing, as a part of a loop
    pub plain-quiet : (k : SimpleKind) → is_plain_kind k ≡ true → (s : Scope) → ((W.simple_kind l k s).declares ≡ [])
        × ((W.simple_kind l k s).slots ≡ [])
    plain-quiet (simple.Define n e) h s = absurd (false≢true h)
    plain-quiet (simple.DefineReceived n m e) h s = absurd (false≢true h)
    plain-quiet _ h s = (refl, refl)

    pub plain-tail : (k : SimpleKind) → is_plain_kind k ≡ true → (s : Scope) (env : Env) (slots : List Value)
        → Known s.locals s.next env slots → (rest : List Value)
        → Tail taking slots rest (L.simple_piece t l k s) [] (simple_deals taking t l k s env)
        (Changed s.locals slots rest)
    plain-tail (simple.Expression e) h s env slots ok rest = tail-expression s env slots ok rest e
    plain-tail (simple.Send c e) h s env slots ok rest = tail-send s env slots ok rest c e
    plain-tail (simple.Increment p) h s env slots ok rest =
        tail-updates s env slots ok rest p (op l (Instr.Int (pos 1))) one Instr.Add (computed sum)
        (tail-one s env slots ok rest) refl
    plain-tail (simple.Decrement p) h s env slots ok rest =
        tail-updates s env slots ok rest p (op l (Instr.Int (pos 1))) one Instr.Sub (computed difference)
        (tail-one s env slots ok rest) refl
    plain-tail (simple.Assign p e) h s env slots ok rest =
        tail-assigns s env slots ok rest p (piece_at t l s e) (value_at taking t l s e env)
        (value-turns e s env slots ok)
    plain-tail (simple.Update p o e) h s env slots ok rest = tail-update s env slots ok rest p o e
    plain-tail (simple.Define n e) h s env slots ok rest = absurd (false≢true h)
    plain-tail (simple.DefineReceived n m e) h s env slots ok rest = absurd (false≢true h)
    plain-tail (simple.AssignReceived n m e) h s env slots ok rest = tail-received s n m e env slots ok rest

    -- variables

    turn-zero : (v : Value) (slots : List Value) → Turns taking slots (op l (push v)) [] (gives (zero_of v ∷ []))
    turn-zero (Value.Int n) slots = λ m at ts rest w. refl
    turn-zero (Value.Bool b) slots = λ m at ts rest w. refl
    turn-zero (Value.Text k) slots = λ m at ts rest w. refl
    turn-zero Value.Unit slots = λ m at ts rest w. refl
    turn-zero Value.Nil slots = λ m at ts rest w. refl
    turn-zero (Value.Ref o) slots = λ m at ts rest w. refl

    pub means-var : (n : List ℕ) (x : VarContent)
        → StatementMeans taking (L.var_part t l n x).walk (L.var_part t l n x).lay (var_deed taking t l n x)
    means-var n (content.Zero w) = means-declares l n (W.zero l n w) (λ s. (write_at l s w).type)
        (L.first_value t l (content.Zero w)) (first_value taking t l (content.Zero w)) (λ s. refl) (λ s. refl)
        (λ s env slots ok. turn-zero (zero_value (write_at l s w).type) slots)
    means-var n (content.Typed w e) = means-declares l n (W.typed l n w e) (λ s. (write_at l s w).type)
        (L.first_value t l (content.Typed w e)) (first_value taking t l (content.Typed w e)) (λ s. refl) (λ s. refl)
        (value-turns e)
    means-var n (content.Untyped e) = means-declares l n (W.untyped l n e) (λ s. type_given (given_by (judge_at l s e)))
        (L.first_value t l (content.Untyped e)) (first_value taking t l (content.Untyped e)) (λ s. refl) (λ s. refl)
        (value-turns e)

    -- return, break, continue

    pub means-return : (e : Option Expr) → StatementMeans taking (L.return_part t l e).walk (L.return_part t l e).lay
        (return_deed taking t l e)
    means-return None = record { rises = λ s. omega arith; goes = λ a s n env slots ok room at ts rest u. refl }
    means-return (Some e) = record {
      rises = λ s. omega arith;
      goes = λ a s n env slots ok room at ts rest u.
          goes-after (Goes s.locals s.next slots rest (s.locals ++ []) a) (λ t o h. h)
          (value_at taking t l s e env u) returned (OnTop slots rest)
          (λ o. then_way o (run taking.gives n (all (op l Instr.ReturnValue ∷ []))
          (at + size (piece_at t l s e)) ts)) (run taking.gives n (piece_at t l s e) at ts (frame slots rest) u)
          (λ h os. refl) (value-turns e s env slots ok n at ts rest u)
          (λ vs v i q. subst (λ z. Goes s.locals s.next slots rest (s.locals ++ []) a (returned vs v)
          (then_way z (run taking.gives n (all (op l Instr.ReturnValue ∷ [])) (at + size (piece_at t l s e)) ts)))
          (sym q) (by a s slots rest n (at + size (piece_at t l s e)) ts vs v));
    }
      where
        by : (a : Rattle.golf_code_of.specs.declared.surroundings.Around.Around) (s : Scope) (slots rest : List Value)
            (n at : ℕ) (ts : List ℕ) (vs : List Value) (v : World)
            → Goes s.locals s.next slots rest (s.locals ++ []) a (returned vs v)
            (run taking.gives n (all (op l Instr.ReturnValue ∷ [])) at ts (frame slots (V.pushed vs rest)) v)
        by a s slots rest n at ts [] v = tt
        by a s slots rest n at ts (x ∷ []) v = refl
        by a s slots rest n at ts (x ∷ (y ∷ vs)) v = tt

  -- go and defer

  module _ (t : Tables) (l : ℕ) (begin : ℕ → ℕ → Instr)
      (shown : (j m : ℕ) → doing taking.gives (begin j m) ≡ Doing.Acts (shows taking.gives (begin j m))) where
    module _ (s : Scope) (env : Env) (slots : List Value) (ok : Known s.locals s.next env slots) where
      arguments-turn : (xs : List Expr) → Turns taking slots (K.pushes (map (argument_at t l s) xs)) []
          (values_of (map (argument taking t l s env) xs))
      arguments-turn [] = turn-none taking slots []
      arguments-turn (x ∷ xs) = turn-both taking slots (piece_at t l s x) (K.pushes (map (argument_at t l s) xs))
          (value_at taking t l s x env) (values_of (map (argument taking t l s env) xs))
          (value-turns t l x s env slots ok) (arguments-turn xs)

      beginning-turns : (next : ℕ) (m : Operand) (xs : List K.ArgumentCode) (vs : List Value)
          → Turns taking slots (K.beginning l begin next m xs) vs (beginning taking begin next m xs vs)
      beginning-turns next (operand.Function k) xs vs =
          turn-visible taking slots l (begin (k + 1) (length xs)) [] vs (shown (k + 1) (length xs))
      beginning-turns next (operand.Method k) xs vs =
          turn-visible taking slots l (begin (k + 1) (length xs + 1)) [] vs (shown (k + 1) (length xs + 1))
      beginning-turns next (operand.BuiltIn b) xs vs =
          turn-visible taking slots l (begin next (length (K.begun_parameters b xs))) [] vs
          (shown next (length (K.begun_parameters b xs)))
      beginning-turns next _ xs vs = turn-none taking slots vs

      begin-tail : (f : Expr) (xs : List Expr) (next : ℕ) (rest : List Value)
          → Tail taking slots rest (all (piece_at t l s f ∷ K.pushes (map (argument_at t l s) xs)
          ∷ K.beginning l begin next (judge_at l s f).meaning (map (argument_at t l s) xs) ∷ [])) []
          (begin_deals taking t l begin f xs next s env) (Changed s.locals slots rest)
      begin-tail f xs next rest n at ts u =
          let m = (judge_at l s f).meaning in
          let ys = map (argument_at t l s) xs in
          let p = all (piece_at t l s f ∷ K.pushes ys ∷ K.beginning l begin next m ys ∷ []) in
          let g = both (value_at taking t l s f env) (values_of (map (argument taking t l s env) xs)) in
          subst (λ q. Sim q (Changed s.locals slots rest) (run taking.gives n p at ts (frame slots rest) u))
          (sym (bind-assoc (g u) (beginning taking begin next m ys) (λ us v. if_none us v (V.Part.Gives env v))))
          (stores-visible taking slots s.locals env p [] (then_do g (beginning taking begin next m ys))
          (turn-after-two taking slots (piece_at t l s f) (K.pushes ys) (K.beginning l begin next m ys)
          (value_at taking t l s f env) (values_of (map (argument taking t l s env) xs))
          (beginning taking begin next m ys) (value-turns t l f s env slots ok) (arguments-turn xs)
          (beginning-turns next m ys)) ok.stored n at ts rest u)

    pub means-begin : (f : Expr) (xs : List Expr)
        → StatementMeans taking (L.begin_part t l begin f xs).walk (L.begin_part t l begin f xs).lay
        (begin_deed taking t l begin f xs)
    means-begin f xs = record {
      rises = λ s. omega arith;
      goes = λ a s n env slots ok room at ts rest u.
          goes-changed rest a s.locals s.next slots (begin_deals taking t l begin f xs a.functions s env u)
          (run taking.gives n (L.begin_lay t l begin f xs a s).piece at ts (frame slots rest) u)
          (begin-tail s env slots ok f xs a.functions rest n at ts u);
    }

  pub means-break : (l : ℕ) → StatementMeans taking (L.break_part l).walk (L.break_part l).lay
      (λ a s n env w. Flow.Goes Course.Breaks env w)
  means-break l = record {
    rises = λ s. omega arith;
    goes = λ a s n env slots ok room at ts rest
        u. (slots, refl, (stored-take s.locals env slots ok.stored, refl, λ i lt q. refl));
  }

  pub means-continue : (l : ℕ) → StatementMeans taking (L.continue_part l).walk (L.continue_part l).lay
      (λ a s n env w. Flow.Goes Course.Continues env w)
  means-continue l = record {
    rises = λ s. omega arith;
    goes = λ a s n env slots ok room at ts rest
        u. (slots, refl, (stored-take s.locals env slots ok.stored, refl, λ i lt q. refl));
  }

  pub means-simple : (t : Tables) (x : Simple)
      → StatementMeans taking (L.simple_part t x).walk (L.simple_part t x).lay (simple_deed taking t x)
  means-simple t x = means-kind t x.line x.kind
