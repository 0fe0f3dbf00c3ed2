-- The code of `select` leads on.
-- For: `statements_fit`, src/lib.rt
-- By: induction over the list of clauses
use Rattle.std.proofs.Common.{◌≡◌, inl, inr, ℕ, zero, suc, ◌+◌, true, List, [], ◌∷◌, ◌++◌, length, map, Option, Some}
use Rattle.std.proofs.Common.{None, refl, sym, ap, ◌∙◌, subst, slice_get, arith, append_assoc, append-nil}
use Rattle.std.proofs.Common.{length-append}
use Rattle.std.specs.Prelude.{is_some}
use Rattle.golf_theory.specs.Membership.{In, Every}
use Rattle.golf_theory.proofs.Lists.{Every-from, Every-append}
use Rattle.golf_data.specs.declared.code.Instr.{Instr}
use Rattle.golf_data.specs.declared.code.CaseKind.{CaseKind}
use Rattle.golf_syntax_trees.specs.declared.expressions.Expr.{Expr}
use Rattle.golf_syntax_trees.specs.declared.statements.Communication.{Communication}
use Rattle.golf_syntax_trees.specs.declared.statements.Communication.TheVariants as comm
use Rattle.golf_check_types.specs.declared.types.GoType.{GoType}
use Rattle.golf_check_types.specs.declared.scopes.Scope.{Scope}
use Rattle.golf_check_types.specs.Faults.{broken}
use Rattle.golf_check_types.specs.Types.{element, assignable}
use Rattle.golf_check_types.specs.Scopes.{begun}
use Rattle.golf_check_types.specs.Expressions.{used, given_by}
use Rattle.golf_check_types.specs.Judgments.{judge}
use Rattle.golf_check_types.specs.Statements as W
use Rattle.golf_check_types.specs.Statements.{Walk, Walked, both, behind, carried, received, pair, pair_faults}
use Rattle.golf_check_types.specs.Statements.{assigned_name, assigned_faults, put_in_faults}
use Rattle.golf_model_typing.specs.Types.{ValueType, Shape, FunctionTypes, Types}
use Rattle.golf_model_typing.specs.Shapes.{case_takes, case_leaves}
use Rattle.golf_code_layout.specs.Piece.{Piece, all, op}
use Rattle.golf_code_shapes.specs.Has.{shape, Has, Reaches, CasesReach, DefaultReaches}
use Rattle.golf_code_shapes.proofs.Pieces.{every-self, has-empty, has-op, has-then, has-weaker, has-exit, has-choose}
use Rattle.golf_code_shapes.proofs.Pieces.{has-block}
use Rattle.golf_code_of.specs.declared.tables.Tables.{Tables}
use Rattle.golf_code_of.specs.ExpressionCode.{piece_at}
use Rattle.golf_code_of.specs.declared.surroundings.Around.{Around}
use Rattle.golf_code_of.specs.Statements.{StatementPart, Lay, laid, past, then_lay, in_order, stores_name, stores_pair}
use Rattle.golf_code_of.specs.Selects.{ClausePart, case_clause, default_clause, breaking, case_to, cases_from}
use Rattle.golf_code_of.specs.Selects.{default_or, default_from, choice, in_clause, clauses_lay, select_part}
use Rattle.golf_code_shapes.specs.Types.{value_type, known_type}
use Rattle.golf_code_shapes.specs.Sound.{ScopeFits, Pushes}
use Rattle.golf_code_shapes.specs.StatementFlow.{IsMaking, Slotted, MadeFit}
use Rattle.golf_code_shapes.proofs.Typings.{none-left, none-right, kept, carried-on}
use Rattle.golf_code_shapes.proofs.Names.{of-taking, of-giving, given-to}
use Rattle.golf_code_shapes.proofs.Branches.{further}
use Rattle.golf_code_shapes.proofs.Flows.{Right, then-in, scope-more, slotted-left, slotted-right}
use Rattle.golf_code_shapes.proofs.Flows.{made-left, made-right, quiet, scope-quiet}
use Rattle.golf_code_shapes.proofs.Simples.{value-of}
use Rattle.golf_code_shapes.proofs.Receives.{pair-taken, stores-assigned}
use Rattle.golf_check_types.proofs.NamesAlone.{judged-by-names}

-- what a clause leaves at its target, and what it takes, if it is on a channel of this type; `default` takes and leaves
-- nothing
abbrev leaves_of : Option CaseKind → ValueType → List ValueType
leaves_of None e = []
leaves_of (Some kind) e = case_leaves kind e

abbrev takes_of : Option CaseKind → ValueType → List ValueType → List ValueType
takes_of None e rest = rest
takes_of (Some kind) e rest = case_takes kind e rest

-- expressions are judged alike in two scopes
abbrev Alike : Scope → Scope → Type 0
Alike r s = (x : Expr) (l : ℕ) → judge x l s ≡ judge x l r

alike-begun : (r s : Scope) → Alike r s → Alike r (begun s)
alike-begun r s h x l = judged-by-names (s.depth + 1) s.result s.breaks s.loops s.next x l s ∙ h x l

-- after what declares nothing
alike-behind : (r s : Scope) (w : Walked) → w.declares ≡ [] → Alike r s → Alike r (behind s w)
alike-behind r s w e h x l =
    ap (λ ds. judge x l (record s { locals = s.locals ++ ds; next = (behind s w).next })) e
    ∙ ap (λ ls. judge x l (record s { locals = ls; next = (behind s w).next })) (append-nil s.locals)
    ∙ judged-by-names s.depth s.result s.breaks s.loops (behind s w).next x l s ∙ h x l

module _ (types : Types) (t : Tables) (ft : FunctionTypes) where
  abbrev Fits : List ℕ → Scope → Type 0
  Fits = ScopeFits types t ft

  -- code in this scope has its shape from these operands on, wherever it is laid and `break` and `continue` lead on
  abbrev pub BodyHas : Lay → Scope → Scope → List ValueType → List ℕ → Type 0
  BodyHas lay s at leaves A = (b : Around) (exits : List Shape) → Reaches exits [] A b.breaks
      → (s.loops ≡ true → Reaches exits [] A b.continues) → MadeFit types b.functions (lay b at).made
      → Has types ft (lay b at).piece (shape leaves A) (shape [] A) exits × Every IsMaking (lay b at).made

  -- What a clause does: its operands, in the scope of the `select`, and its code after the choice.
  pub record ClauseGives (l : ℕ) (c : ClausePart) (s r : Scope) (A : List ℕ) : Type 0 where
    pub e : ValueType
    pub operands : (ops : List ValueType) (exits : List Shape)
        → Has types ft (c.operands l r) (shape ops A) (shape (takes_of c.kind e ops) A) exits
    pub body : BodyHas (c.lay l) s s (leaves_of c.kind e) A

  pub record ClauseFits (c : ClausePart) : Type 0 where
    pub calm : (l : ℕ) (s : Scope) → (c.walk l s).declares ≡ []
    pub gives : (l : ℕ) (s r : Scope) (A : List ℕ) → Fits A s → Fits A r → Alike r s
        → Slotted ft s.next (c.walk l s).slots → (c.walk l s).faults ≡ [] → ClauseGives l c s r A

  -- what a communication leaves is taken in by this piece, and these slots are assigned then
  record TakesIn (w : Walk) (p : Scope → Piece) (s : Scope) (A : List ℕ) (leaves : List ValueType)
      (exits : List Shape) : Type 0 where
    assigned : List ℕ
    more : Every (λ i. In i assigned) A
    fits : Fits assigned (behind (begun s) (w (begun s)))
    has : Has types ft (p (begun s)) (shape leaves A) (shape [] assigned) exits

  -- a clause stands if its body can: `break` and `continue` lead on, its slots have their types, what is made fits, and
  -- no rule is broken
  record Stands (w : Walk) (p : Scope → Piece) (x : StatementPart) (b : Around) (s : Scope) (A : List ℕ)
      (exits : List Shape) : Type 0 where
    breaks : Reaches exits [] A b.breaks
    continues : s.loops ≡ true → Reaches exits [] A b.continues
    slots : Slotted ft s.next (W.in_block (W.then w (W.breaking x.walk)) s).slots
    made : MadeFit types b.functions (then_lay (λ a r. laid (p r)) w (breaking x).lay b (begun s)).made
    none : (W.in_block (W.then w (W.breaking x.walk)) s).faults ≡ []

  -- the statements of a clause after its communication
  body-has : (w : Walk) (p : Scope → Piece) (x : StatementPart) → Right types t ft x
      → (b : Around) (s : Scope) (A : List ℕ) (leaves : List ValueType) (exits : List Shape)
      → TakesIn w p s A leaves exits → Stands w p x b s A exits
      → Has types ft (then_lay (λ a r. laid (p r)) w (breaking x).lay b (begun s)).piece (shape leaves A)
      (shape [] A) exits × Every IsMaking (then_lay (λ a r. laid (p r)) w (breaking x).lay b (begun s)).made
  body-has w p x right b s A leaves exits taken stands =
      let B = taken.assigned in
      let more = taken.more in
      let ok = taken.fits in
      let slots = stands.slots in
      let made = stands.made in
      let s0 = begun s in
      let v = w s0 in
      let s1 = behind s0 v in
      let s2 = record s1 { breaks = true } in
      let b1 = past b (laid (p s0)) in
      let wide : (k : ℕ) → Reaches exits [] A k → Reaches exits [] B k = λ k q. (q.0, q.1, then-in q.0 A B q.2 more) in
      let h = right b1 s2 B exits (record { file = ok.file; locals = ok.locals; result = ok.result })
      (record { breaks = λ e. wide b.breaks stands.breaks; continues = λ e. wide b.continues (stands.continues e) })
      (slotted-right types t ft s.next s1.next v.slots (x.walk s2).slots refl slots)
      (made-right types t ft b.functions (b.functions + 0) [] (x.lay b1 s2).made refl made)
      (none-right v.faults _ stands.none) in
      let g = h.0 in (
        has-then types ft (p s0) (x.lay b1 s2).piece (shape leaves A) (shape [] B) (shape [] A) exits taken.has
            (has-weaker types ft (x.lay b1 s2).piece (shape [] B) [] A g.0 exits (then-in A B g.0 more g.1) g.3),
        h.1,
      )

  -- `default`
  pub right-default : (k : ℕ) (xs : List StatementPart) → Right types t ft (in_order xs)
      → ClauseFits (default_clause k xs)
  right-default k xs right = record {
    calm = λ l s. refl;
    gives = λ l s r A ok okr alike slots none. record {
      e = ValueType.Int;
      operands = λ ops exits. has-empty types ft (shape ops A) exits;
      body = λ b exits rb rc made.
          let s2 = record s { depth = s.depth + 1; breaks = true } in
          let h = right b s2 A exits (record { file = ok.file; locals = ok.locals; result = ok.result })
          (record { breaks = λ e. rb; continues = rc }) slots made none in
          let g = h.0 in
          (has-weaker types ft ((in_order xs).lay b s2).piece (shape [] A) [] A g.0 exits g.1 g.3, h.1);
    };
  }

  -- a channel that is received from, in the scope of the clause, and its code in that of the `select`
  receives : (l : ℕ) (e : Expr) (s r : Scope) (A : List ℕ) → Fits A r → Alike r s → (received l e (begun s)).faults ≡ []
      → (v : GoType) × (carried l e (begun s) ≡ Some v)
      × Pushes types ft A (piece_at t l r e) (ValueType.Chan (value_type v))
  receives l e s r A ok alike none =
      let same = alike-begun r s alike e l in
      let clean = subst (λ j. used l j ++ W.receive_faults l (given_by j) ≡ []) same none in
      let g = of-giving types t ft A r (given_by (judge e l r)) (piece_at t l r e)
      (kept l 16 _ (none-right (used l (judge e l r)) _ clean))
      (value-of types t ft l e r A ok (none-left (used l (judge e l r)) _ clean)) in
      (g.0, ap (λ j. element (given_by j)) same ∙ g.1, g.2)

  fits-begun : (A : List ℕ) (s : Scope) → Fits A s → Fits A (begun s)
  fits-begun A s ok = record { file = ok.file; locals = ok.locals; result = ok.result }

  -- `case c <- e`
  right-send : (k : ℕ) (c e : Expr) (xs : List StatementPart) → Right types t ft (in_order xs)
      → ClauseFits (case_clause t k (comm.Send c e) xs)
  right-send k c e xs right = record {
    calm = λ l s. refl;
    gives = λ l s r A ok okr alike slots none.
        let s0 = begun s in
        let x = (in_order xs).walk in
        let comm_none = none-left (W.send l c e s0).faults _ none in
        let clean = subst (λ j. used l j ++ (used l (judge e l s0)
        ++ W.send_faults l (given_by j) (given_by (judge e l s0))) ≡ []) (alike-begun r s alike c l) comm_none in
        let clean2 = subst (λ j. used l (judge c l r)
        ++ (used l j ++ W.send_faults l (given_by (judge c l r)) (given_by j)) ≡ [])
        (alike-begun r s alike e l) clean in
        let one = none-right (used l (judge c l r)) _ clean2 in
        let two = none-right (used l (judge e l r)) _ one in
        let v = given_by (judge e l r) in
        let carries = broken l 9 (W.is_carried (given_by (judge c l r)) v) in
        let may = kept l 16 _ (none-right carries _ two) in
        let ch = of-taking types t ft A r (given_by (judge c l r)) (piece_at t l r c) may
        (value-of types t ft l c r A okr (none-left (used l (judge c l r)) _ clean2)) in
        let fit = subst (λ o. assignable v o ≡ true) ch.1
        (carried-on (given_by (judge c l r)) v may (kept l 9 _ (none-left carries _ two))) in
        let pv = given-to types t ft A r v ch.0 (piece_at t l r e) fit
        (value-of types t ft l e r A okr (none-left (used l (judge e l r)) _ one)) in
        let T = value_type ch.0 in
        record {
          e = T;
          operands = λ ops exits.
              has-then types ft (piece_at t l r c) _ (shape ops A) (shape (ValueType.Chan T ∷ ops) A)
              (shape (T ∷ ValueType.Chan T ∷ ops) A) exits (ch.2 ops exits)
              (has-then types ft (piece_at t l r e) Piece.Empty (shape (ValueType.Chan T ∷ ops) A)
              (shape (T ∷ ValueType.Chan T ∷ ops) A) (shape (T ∷ ValueType.Chan T ∷ ops) A) exits
              (pv (ValueType.Chan T ∷ ops) exits)
              (has-empty types ft (shape (T ∷ ValueType.Chan T ∷ ops) A) exits));
          body = λ b exits rb rc made.
              body-has (W.send l c e) (λ q. Piece.Empty) (in_order xs) right b s A [] exits
              (record {
                assigned = A;
                more = every-self A;
                fits = scope-quiet types t ft A s0 (W.send l c e s0) refl (fits-begun A s ok);
                has =
                    has-empty types ft (shape [] A) exits;
              })
              (record { breaks = rb; continues = rc; slots = slots; made = made; none = none });
        };
  }

  -- a receive whose value is taken in by this piece
  receive-clause : (w : Walk) (p : Scope → Piece) (x : StatementPart) → Right types t ft x
      → (s : Scope) (A : List ℕ) (v : GoType) → ((exits : List Shape) → TakesIn w p s A (value_type v ∷ []) exits)
      → Slotted ft s.next (W.in_block (W.then w (W.breaking x.walk)) s).slots
      → (W.in_block (W.then w (W.breaking x.walk)) s).faults ≡ []
      → BodyHas (then_lay (λ a q. laid (p q)) w (breaking x).lay) s (begun s) (value_type v ∷ []) A
  receive-clause w p x right s A v taken slots none b exits rb rc made =
      body-has w p x right b s A (value_type v ∷ []) exits (taken exits)
      (record { breaks = rb; continues = rc; slots = slots; made = made; none = none })

  -- `case <-c`
  right-receive : (k : ℕ) (e : Expr) (xs : List StatementPart) → Right types t ft (in_order xs)
      → ClauseFits (case_clause t k (comm.Receive e) xs)
  right-receive k e xs right = record {
    calm = λ l s. refl;
    gives = λ l s r A ok okr alike slots none.
        let s0 = begun s in
        let c = receives l e s r A okr alike (none-left (received l e s0).faults _ none) in
        record {
          e = value_type c.0;
          operands = λ ops exits. c.2 ops exits;
          body = receive-clause (received l e) (λ q. op k Instr.Drop) (in_order xs) right s A c.0 (λ exits. record {
            assigned = A;
            more = every-self A;
            fits = scope-quiet types t ft A s0 (received l e s0) refl (fits-begun A s ok);
            has = has-op types ft Instr.Drop k (shape (value_type c.0 ∷ []) A) (shape [] A) exits
                (λ full at g. (value_type c.0, ([], refl, g)));
          }) slots none;
        };
  }

  -- `case n := <-c`
  right-define : (k : ℕ) (n : List ℕ) (e : Expr) (xs : List StatementPart) → Right types t ft (in_order xs)
      → ClauseFits (case_clause t k (comm.Define n e) xs)
  right-define k n e xs right = record {
    calm = λ l s. refl;
    gives = λ l s r A ok okr alike slots none.
        let s0 = begun s in
        let w : Walk = λ q. both (received l e q) (W.define_name k n (carried l e q) q) in
        let c = receives l e s r A okr alike (none-left (received l e s0).faults _ (none-left (w s0).faults _ none)) in
        let B : List ℕ = s.next ∷ A in
        let wide = Every-from (λ j. In j B) A (λ j m. inr m) in
        let typed = slots.0 ∙ ap (λ o. Some (known_type o)) c.1 in
        record {
          e = value_type c.0;
          operands = λ ops exits. c.2 ops exits;
          body = receive-clause w (λ q. op k (Instr.Store q.next)) (in_order xs) right s A c.0 (λ exits. record {
            assigned = B;
            more = wide;
            fits = scope-more types t ft A B s0 (w s0) wide (fits-begun A s ok) ((c.0, c.1, inl refl, typed), tt);
            has = has-op types ft (Instr.Store s.next) k (shape (value_type c.0 ∷ []) A) (shape [] B) exits
                (λ full at g. (value_type c.0, [], typed, refl, g));
          }) slots none;
        };
  }

  -- `case n = <-c`
  right-assign : (k : ℕ) (n : List ℕ) (e : Expr) (xs : List StatementPart) → Right types t ft (in_order xs)
      → ClauseFits (case_clause t k (comm.Assign n e) xs)
  right-assign k n e xs right = record {
    calm = λ l s. refl;
    gives = λ l s r A ok okr alike slots none.
        let s0 = begun s in
        let w : Walk = λ q. both (received l e q) (W.assign_name k n (carried l e q) q) in
        let c = receives l e s r A okr alike (none-left (received l e s0).faults _ (none-left (w s0).faults _ none)) in
        let p = assigned_name s0 n in
        let faults = subst (λ o. assigned_faults k p o ≡ []) c.1
        (none-right (received l e s0).faults _ (none-left (w s0).faults _ none)) in
        let rest = none-right (broken k 3 (is_some p)) _ faults in
        let st = stores-assigned types t ft k s0 A n c.0 (fits-begun A s ok)
        (kept k 3 _ (none-left (broken k 3 (is_some p)) _ faults)) (none-left (put_in_faults k p (Some c.0)) _ rest)
        (kept k 10 _ (none-right (put_in_faults k p (Some c.0)) _ rest)) in
        record {
          e = value_type c.0;
          operands = λ ops exits. c.2 ops exits;
          body = receive-clause w (λ q. stores_name k t q n) (in_order xs) right s A c.0
              (λ exits. record {
                assigned = A;
                more = every-self A;
                fits = scope-quiet types t ft A s0 (w s0) refl (fits-begun A s ok);
                has = st [] exits;
              }) slots none;
        };
  }

  -- `case n, m := <-c`
  right-pair : (k : ℕ) (n m : List ℕ) (e : Expr) (xs : List StatementPart) → Right types t ft (in_order xs)
      → ClauseFits (case_clause t k (comm.DefineReceived n m e) xs)
  right-pair k n m e xs right = record {
    calm = λ l s. refl;
    gives = λ l s r A ok okr alike slots none.
        let s0 = begun s in
        let w = W.define_received l k n m e in
        let c = receives l e s r A okr alike (none-left (received l e s0).faults _ (none-left (w s0).faults _ none)) in
        paired l s r A ok slots none c.0 c.1 c.2;
  }
    where
      paired : (l : ℕ) (s r : Scope) (A : List ℕ) → Fits A s
          → Slotted ft s.next ((case_clause t k (comm.DefineReceived n m e) xs).walk l s).slots
          → ((case_clause t k (comm.DefineReceived n m e) xs).walk l s).faults ≡ []
          → (v : GoType) → carried l e (begun s) ≡ Some v
          → Pushes types ft A (piece_at t l r e) (ValueType.Chan (value_type v))
          → ClauseGives l (case_clause t k (comm.DefineReceived n m e) xs) s r A
      paired l s r A ok slots none v is hc =
          let s0 = begun s in
          let w = W.define_received l k n m e in
          let names = none-right (received l e s0).faults _ (none-left (w s0).faults _ none) in
          let clean = subst (λ o. pair_faults k s0 n m o ≡ []) is
          (none-left (pair_faults k s0 n m (carried l e s0)) _ names) in
          let front = slotted-left types t ft s.next (w s0).slots _ slots in
          let p = pair-taken types t ft k s0 n m v A (fits-begun A s ok) clean
          (subst (λ o. Slotted ft s.next (pair k n m o s0).slots) is front) in
          record {
            e = value_type v;
            operands = λ ops exits. hc ops exits;
            body = λ b exits rb rc made.
                body-has w (λ q. stores_pair k t q n m (carried l e q)) (in_order xs) right b s A
                (ValueType.Bool ∷ value_type v ∷ []) exits (record {
                  assigned = p.slots;
                  more = p.more;
                  fits = subst (λ o. Fits p.slots (behind s0 (both (received l e s0) (pair k n m o s0))))
                      (sym is) p.fits;
                  has = subst (λ o. Has types ft (stores_pair k t s0 n m o)
                      (shape (ValueType.Bool ∷ value_type v ∷ []) A) (shape [] p.slots) exits) (sym is)
                      (p.has [] exits);
                })
                (record { breaks = rb; continues = rc; slots = slots; made = made; none = none });
          }

  pub right-case : (k : ℕ) (c : Communication) (xs : List StatementPart) → Right types t ft (in_order xs)
      → ClauseFits (case_clause t k c xs)
  right-case k (comm.Send c e) xs h = right-send k c e xs h
  right-case k (comm.Receive e) xs h = right-receive k e xs h
  right-case k (comm.Define n e) xs h = right-define k n e xs h
  right-case k (comm.Assign n e) xs h = right-assign k n e xs h
  right-case k (comm.DefineReceived n m e) xs h = right-pair k n m e xs h

  -- Clauses one after the other.

  abbrev pub EachClause : List ClausePart → Type 0
  EachClause [] = Unit {0}
  EachClause (c ∷ cs) = ClauseFits c × EachClause cs

  -- what each does, if each is in the scope after those before it
  abbrev AllGive : ℕ → List ClausePart → Scope → Scope → List ℕ → Type 0
  AllGive l [] s r A = Unit {0}
  AllGive l (c ∷ cs) s r A = ClauseGives l c s r A × AllGive l cs (behind s (c.walk l s)) r A

  all-give : (l : ℕ) (cs : List ClausePart) → EachClause cs → (s r : Scope) (A : List ℕ) → Fits A s → Fits A r
      → Alike r s → Slotted ft s.next (W.in_order (map (λ (c : ClausePart). c.walk l) cs) s).slots
      → (W.in_order (map (λ (c : ClausePart). c.walk l) cs) s).faults ≡ [] → AllGive l cs s r A
  all-give l [] h s r A ok okr alike slots none = tt
  all-give l (c ∷ cs) h s r A ok okr alike slots none =
      let w = c.walk l s in
      let s1 = behind s w in
      let rest = W.in_order (map (λ (c : ClausePart). c.walk l) cs) s1 in
      let one = h.0 in (
        one.gives l s r A ok okr alike (slotted-left types t ft s.next w.slots rest.slots slots)
            (none-left w.faults rest.faults none),
        all-give l cs h.1 s1 r A (scope-quiet types t ft A s w (one.calm l s) ok) okr
            (alike-behind r s w (one.calm l s) alike)
            (slotted-right types t ft s.next s1.next w.slots rest.slots refl slots)
            (none-right w.faults rest.faults none),
      )

  calm-all : (l : ℕ) (cs : List ClausePart) → EachClause cs → (s : Scope)
      → (W.in_order (map (λ (c : ClausePart). c.walk l) cs) s).declares ≡ []
  calm-all l [] h s = refl
  calm-all l (c ∷ cs) h s = let one = h.0 in ap
      (λ ds. ds ++ (W.in_order (map (λ (d : ClausePart). d.walk l) cs) (behind s (c.walk l s))).declares) (one.calm l s)
      ∙ calm-all l cs h.1 (behind s (c.walk l s))

  -- the shape at the beginning of each clause
  entries : (l : ℕ) (cs : List ClausePart) (s r : Scope) (A : List ℕ) → AllGive l cs s r A → List Shape
  entries l [] s r A g = []
  entries l (c ∷ cs) s r A g = shape (leaves_of c.kind g.0.e) A ∷ entries l cs (behind s (c.walk l s)) r A g.1

  -- the operands of all
  stacked : (l : ℕ) (cs : List ClausePart) (s r : Scope) (A : List ℕ) → AllGive l cs s r A → List ValueType
      → List ValueType
  stacked l [] s r A g ops = ops
  stacked l (c ∷ cs) s r A g ops = stacked l cs (behind s (c.walk l s)) r A g.1 (takes_of c.kind g.0.e ops)

  operands-has : (l : ℕ) (cs : List ClausePart) (s r : Scope) (A : List ℕ) (g : AllGive l cs s r A)
      (ops : List ValueType) (exits : List Shape)
      → Has types ft (all (map (λ (c : ClausePart). c.operands l r) cs)) (shape ops A)
      (shape (stacked l cs s r A g ops) A) exits
  unfolding stacked
  operands-has l [] s r A g ops exits = has-empty types ft (shape ops A) exits
  operands-has l (c ∷ cs) s r A g ops exits =
      let one = g.0 in
      has-then types ft (c.operands l r) _ (shape ops A) (shape (takes_of c.kind one.e ops) A) _ exits
      (one.operands ops exits) (operands-has l cs (behind s (c.walk l s)) r A g.1 (takes_of c.kind one.e ops) exits)

  -- each clause begins at the target of its number
  abbrev Entered : List Shape → ℕ → List Shape → Type 0
  Entered exits i [] = Unit {0}
  Entered exits i (sh ∷ shs) = (slice_get exits i ≡ Some sh) × Entered exits (i + 1) shs

  entered-behind : (pre shs post : List Shape) (i : ℕ) → i ≡ length pre → Entered (pre ++ (shs ++ post)) i shs
  entered-behind pre [] post i e = tt
  entered-behind pre (sh ∷ shs) post i e = (
    at-length pre i e,
    subst (λ zs. Entered zs (i + 1) shs) (append_assoc pre (sh ∷ []) (shs ++ post))
        (entered-behind (pre ++ sh ∷ []) shs post (i + 1) (let f = length-append pre (sh ∷ []) in omega (arith, e, f))),
  )
    where
      at-length : (pre : List Shape) (i : ℕ) → i ≡ length pre → slice_get (pre ++ (sh ∷ (shs ++ post))) i ≡ Some sh
      at-length [] i q = subst (λ k. slice_get (sh ∷ (shs ++ post)) k ≡ Some sh) (sym q) refl
      at-length (x ∷ xs) zero q = absurd (omega (arith, q))
      at-length (x ∷ xs) (suc i) q = at-length xs i (omega (arith, q))

  leaves-alone : (kind : CaseKind) (e : ValueType) → case_leaves kind e ++ [] ≡ case_leaves kind e
  leaves-alone CaseKind.Send e = refl
  leaves-alone CaseKind.Take e = refl
  leaves-alone CaseKind.TakeOk e = refl

  cases-reach : (l : ℕ) (cs : List ClausePart) (s r : Scope) (A : List ℕ) (g : AllGive l cs s r A) (exits : List Shape)
      (i : ℕ) (ops : List ValueType) → Entered exits i (entries l cs s r A g)
      → CasesReach exits A [] (cases_from i cs) ops (stacked l cs s r A g ops)
  unfolding stacked entries
  cases-reach l [] s r A g exits i ops h = refl
  cases-reach l (c ∷ cs) s r A g exits i ops h =
      by-kind c.kind g.0.e h.0 (cases-reach l cs (behind s (c.walk l s)) r A g.1 exits (i + 1)
      (takes_of c.kind g.0.e ops) h.1)
    where
      by-kind : (o : Option CaseKind) (e : ValueType) → slice_get exits i ≡ Some (shape (leaves_of o e) A)
          → CasesReach exits A [] (cases_from (i + 1) cs) (takes_of o e ops)
          (stacked l cs (behind s (c.walk l s)) r A g.1 (takes_of c.kind g.0.e ops))
          → CasesReach exits A [] (case_to i o ++ cases_from (i + 1) cs) ops
          (stacked l cs (behind s (c.walk l s)) r A g.1 (takes_of c.kind g.0.e ops))
      by-kind None e there k = k
      by-kind (Some kind) e there k = (
        e,
        (
          A,
          subst (λ ts. slice_get exits i ≡ Some (shape ts A)) (sym (leaves-alone kind e)) there,
          every-self A,
        ),
        k,
      )

  default-reach : (l : ℕ) (cs : List ClausePart) (s r : Scope) (A : List ℕ) (g : AllGive l cs s r A)
      (exits : List Shape) (i : ℕ) → Entered exits i (entries l cs s r A g)
      → DefaultReaches exits A [] (default_from i cs)
  unfolding entries
  default-reach l [] s r A g exits i h = tt
  default-reach l (c ∷ cs) s r A g exits i h =
      by-kind c.kind g.0.e h.0 (default-reach l cs (behind s (c.walk l s)) r A g.1 exits (i + 1) h.1)
    where
      by-kind : (o : Option CaseKind) (e : ValueType) → slice_get exits i ≡ Some (shape (leaves_of o e) A)
          → DefaultReaches exits A [] (default_from (i + 1) cs)
          → DefaultReaches exits A [] (default_or i o (default_from (i + 1) cs))
      by-kind None e there k = (A, there, every-self A)
      by-kind (Some kind) e there k = k

  entries-long : (l : ℕ) (cs : List ClausePart) (s r : Scope) (A : List ℕ) (g : AllGive l cs s r A)
      → length (entries l cs s r A g) ≡ length cs
  unfolding entries
  entries-long l [] s r A g = refl
  entries-long l (c ∷ cs) s r A g = ap (λ n. suc n) (entries-long l cs (behind s (c.walk l s)) r A g.1)

  -- a target after so many others
  past-shapes : (pre post : List Shape) (n k : ℕ) → n ≡ length pre → slice_get (pre ++ post) (k + n) ≡ slice_get post k
  past-shapes [] post n k e = ap (slice_get post) (let f = e in omega (arith, f))
  past-shapes (x ∷ xs) post zero k e = absurd (omega (arith, e))
  past-shapes (x ∷ xs) post (suc n) k e =
      ap (slice_get (x ∷ (xs ++ post))) (let f : k + suc n ≡ suc (k + n) = omega arith in f)
      ∙ past-shapes xs post n k (omega (arith, e))

  reaches-past : (pre post : List Shape) (A : List ℕ) (n k : ℕ) → n ≡ length pre → Reaches post [] A k
      → Reaches (pre ++ post) [] A (k + n)
  reaches-past pre post A n k e w = (w.0, past-shapes pre post n k e ∙ w.1, w.2)

  -- clauses stand after p: each does what it does, `continue` leads on, what is made fits, and p leads to the first of
  -- them by target 0
  record ClausesStand (l : ℕ) (cs : List ClausePart) (p : Piece) (a : Around) (s r : Scope) (A : List ℕ)
      (exits : List Shape) (from : Shape) : Type 0 where
    gives : AllGive l cs s r A
    continues : s.loops ≡ true → Reaches exits [] A a.continues
    made : MadeFit types a.functions (clauses_lay l p cs a s).made
    has : (to : Shape) → Has types ft p from to (entries l cs s r A gives ++ (shape [] A ∷ exits))

  -- clauses after p, of which the first begins if p leads to target 0
  clauses-has : {l : ℕ} {r : Scope} {A : List ℕ} {exits : List Shape} {from : Shape} (cs : List ClausePart) (p : Piece)
      (a : Around) (s : Scope) → ClausesStand l cs p a s r A exits from
      → Has types ft (clauses_lay l p cs a s).piece from (shape [] A) (shape [] A ∷ exits)
      × Every IsMaking (clauses_lay l p cs a s).made
  unfolding entries
  clauses-has {l} {r} {A} {exits} {from} [] p a s stand = (stand.has (shape [] A), tt)
  clauses-has {l} {r} {A} {exits} {from} (c ∷ cs) p a s stand =
      let g = stand.gives in
      let rc = stand.continues in
      let made = stand.made in
      let sh = shape [] A in
      let one = g.0 in
      let s1 = behind s (c.walk l s) in
      let b = in_clause (length cs) a in
      let x = c.lay l b s in
      let E = entries l cs s1 r A g.1 ++ (sh ∷ exits) in
      let entry = shape (leaves_of c.kind one.e) A in
      let long = entries-long l cs s1 r A g.1 in
      let out : Reaches E [] A (length cs) =
      subst (Reaches E [] A) (let q : 0 + length cs ≡ length cs = omega arith in q)
      (reaches-past (entries l cs s1 r A g.1) (sh ∷ exits) A (length cs) 0 (sym long) (A, refl, every-self A)) in
      let on : s.loops ≡ true → Reaches E [] A (a.continues + (length cs + 1)) =
      λ q. subst (Reaches E [] A) (let f : a.continues + 1 + length cs ≡ a.continues +
      (length cs + 1) = omega arith in f)
      (reaches-past (entries l cs s1 r A g.1) (sh ∷ exits) A (length cs) (a.continues + 1) (sym long)
      (further A exits sh a.continues (rc q))) in
      let rest = (clauses_lay l (all (Piece.Block p ∷ x.piece ∷ Piece.Exit c.line (length cs) ∷ [])) cs
      (past a x) s1).made in
      let body = one.body b E out on (made-left types t ft a.functions x.made rest made) in
      let q = all (Piece.Block p ∷ x.piece ∷ Piece.Exit c.line (length cs) ∷ []) in
      let next : ClausesStand l cs q (past a x) s1 r A exits from = record {
        gives = g.1;
        continues = rc;
        made = made-right types t ft a.functions (a.functions + length x.made) x.made rest refl made;
        has = λ to.
            has-then types ft (Piece.Block p) _ from entry to E (has-block types ft p from entry E (stand.has entry))
            (has-then types ft x.piece _ entry sh to E body.0
            (has-then types ft (Piece.Exit c.line (length cs)) Piece.Empty sh to to E
            (has-exit types ft c.line (length cs) [] A to E out) (has-empty types ft to E)));
      } in
      let k = clauses-has cs q (past a x) s1 next in
      (k.0, Every-append IsMaking x.made rest body.1 k.1)

  pub right-select : (l : ℕ) (cs : List ClausePart) → EachClause cs → Right types t ft (select_part l cs)
  unfolding entries stacked
  right-select l cs each a s A exits ok ways slots made none =
      let sh = shape [] A in
      let g = all-give l cs each s s A ok ok (λ x k. refl) slots none in
      let E = entries l cs s s A g ++ (sh ∷ exits) in
      let entered = entered-behind [] (entries l cs s s A g) (sh ∷ exits) 0 refl in
      let stand : ClausesStand l cs (choice l cs s) a s s A exits sh = record {
        gives = g;
        continues = ways.continues;
        made = made;
        has = λ to.
            has-then types ft _ _ sh (shape (stacked l cs s s A g []) A) to E (operands-has l cs s s A g [] E)
            (has-then types ft _ Piece.Empty (shape (stacked l cs s s A g []) A) to to E
            (has-choose types ft l (cases_from 0 cs) (default_from 0 cs) [] (stacked l cs s s A g []) A to E
            (cases-reach l cs s s A g E 0 [] entered) (default-reach l cs s s A g E 0 entered))
            (has-empty types ft to E));
      } in
      let h = clauses-has cs (choice l cs s) a s stand in (
        quiet types t ft A exits s ((select_part l cs).walk s) _ (calm-all l cs each s) ok
            (has-block types ft _ sh sh exits h.0),
        h.1,
      )
