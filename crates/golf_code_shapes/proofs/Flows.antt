-- Statements put together: what is known after them.
-- For: `statements_fit`, src/lib.rt; `StatementFits`, specs/StatementFlow.antt
-- By: induction over the lists of slots, of made functions and of statements
use Rattle.std.proofs.Common.{◌≡◌, inl, inr, ℕ, ◌+◌, List, [], ◌∷◌, ◌++◌, length, map, Option, Some, refl, sym, ap, ◌∙◌}
use Rattle.std.proofs.Common.{subst, slice_get, arith, append_assoc, append-nil}
use Rattle.golf_theory.specs.Membership.{In, Every}
use Rattle.golf_theory.proofs.Lists.{Every-weaker, Every-at, Every-from, Every-append}
use Rattle.golf_data.specs.declared.code.Instr.{Instr}
use Rattle.golf_check_types.specs.declared.types.GoType.{GoType}
use Rattle.golf_check_types.specs.declared.locals.Local.{Local}
use Rattle.golf_check_types.specs.declared.scopes.Scope.{Scope}
use Rattle.golf_check_types.specs.Scopes.{begun, variable as variable_of}
use Rattle.golf_check_types.specs.Statements as W
use Rattle.golf_check_types.specs.Statements.{Walk, Walked, both, behind}
use Rattle.golf_model_typing.specs.Types.{Shape, FunctionTypes, Types}
use Rattle.golf_model_typing.specs.Shapes.{slot_types}
use Rattle.golf_code_layout.specs.Piece.{Piece, all, op}
use Rattle.golf_code_shapes.specs.Has.{shape, Has, Reaches}
use Rattle.golf_code_shapes.proofs.Pieces.{every-self, has-empty, has-op, has-then, has-weaker}
use Rattle.golf_code_of.specs.declared.tables.Tables.{Tables}
use Rattle.golf_code_of.specs.declared.surroundings.Making.{Making}
use Rattle.golf_code_of.specs.Statements.{Lay, StatementPart, laid, nothing, then, then_lay, lay_all, in_order}
use Rattle.golf_code_of.specs.Statements.{in_block, past}
use Rattle.golf_code_shapes.specs.Types.{known_type, value_type}
use Rattle.golf_code_shapes.specs.Sound.{LocalFits, ScopeFits, Pushes, Silent}
use Rattle.golf_code_shapes.specs.StatementFlow.{IsMaking, Slotted, MadeFit, LeadsOnward, Moves, SimpleFits}
use Rattle.golf_code_shapes.specs.StatementFlow.{StatementFits}
use Rattle.golf_code_shapes.proofs.Typings.{none-left, none-right}

pub then-in : (A B C : List ℕ) → Every (λ i. In i B) A → Every (λ i. In i C) B → Every (λ i. In i C) A
then-in A B C h k = Every-weaker (λ i. In i B) (λ i. In i C) (λ i m. Every-at (λ j. In j C) B i k m) A h

pub reaches-wider : (A B : List ℕ) (exits : List Shape) (k : ℕ) → Every (λ i. In i B) A → Reaches exits [] A k
    → Reaches exits [] B k
reaches-wider A B exits k h w = (w.0, w.1, then-in w.0 A B w.2 h)

module _ (types : Types) (t : Tables) (ft : FunctionTypes) where
  abbrev Fits : List ℕ → Scope → Type 0
  Fits = ScopeFits types t ft

  abbrev pub Right : StatementPart → Type 0
  Right x = StatementFits types t ft x.walk x.lay

  local-wider : (A B : List ℕ) → Every (λ i. In i B) A → (d : Local) → LocalFits types t ft A d
      → LocalFits types t ft B d
  local-wider A B h d k = (k.0, k.1, Every-at (λ j. In j B) A d.slot h k.2, k.3)

  pub locals-wider : (A B : List ℕ) → Every (λ i. In i B) A → (ds : List Local) → Every (LocalFits types t ft A) ds
      → Every (LocalFits types t ft B) ds
  locals-wider A B h ds k = Every-weaker (LocalFits types t ft A) (LocalFits types t ft B)
      (λ d m. local-wider A B h d m) ds k

  pub scope-wider : (A B : List ℕ) (s : Scope) → Every (λ i. In i B) A → Fits A s → Fits B s
  scope-wider A B s h ok = record { file = ok.file; locals = locals-wider A B h s.locals ok.locals; result = ok.result }

  -- a scope with more locals, of which more slots are assigned
  pub scope-more : (A B : List ℕ) (s : Scope) (w : Walked) → Every (λ i. In i B) A → Fits A s
      → Every (LocalFits types t ft B) w.declares → Fits B (behind s w)
  scope-more A B s w h ok more = record {
    file = ok.file;
    locals = Every-append (LocalFits types t ft B) s.locals w.declares (locals-wider A B h s.locals ok.locals) more;
    result = ok.result;
  }

  pub slotted-left : (n : ℕ) (xs ys : List (Option GoType)) → Slotted ft n (xs ++ ys) → Slotted ft n xs
  slotted-left n [] ys h = tt
  slotted-left n (x ∷ xs) ys h = (h.0, slotted-left (n + 1) xs ys h.1)

  pub slotted-right : (n m : ℕ) (xs ys : List (Option GoType)) → m ≡ n + length xs → Slotted ft n (xs ++ ys)
      → Slotted ft m ys
  slotted-right n m [] ys e h = subst (λ k. Slotted ft k ys) (let f = e in omega (arith, f)) h
  slotted-right n m (x ∷ xs) ys e h = slotted-right (n + 1) m xs ys (omega (arith, e)) h.1

  pub made-left : (n : ℕ) (xs ys : List Making) → MadeFit types n (xs ++ ys) → MadeFit types n xs
  made-left n [] ys h = tt
  made-left n (x ∷ xs) ys h = (h.0, made-left (n + 1) xs ys h.1)

  pub made-right : (n m : ℕ) (xs ys : List Making) → m ≡ n + length xs → MadeFit types n (xs ++ ys) → MadeFit types m ys
  made-right n m [] ys e h = subst (λ k. MadeFit types k ys) (let f = e in omega (arith, f)) h
  made-right n m (x ∷ xs) ys e h = made-right (n + 1) m xs ys (omega (arith, e)) h.1

  -- nothing is declared
  pub scope-quiet : (A : List ℕ) (s : Scope) (w : Walked) → w.declares ≡ [] → Fits A s → Fits A (behind s w)
  scope-quiet A s w e ok = record {
    file = ok.file;
    locals = subst (λ ds. Every (LocalFits types t ft A) (s.locals ++ ds)) (sym e)
        (subst (Every (LocalFits types t ft A)) (sym (append-nil s.locals)) ok.locals);
    result = ok.result;
  }

  pub quiet : (A : List ℕ) (exits : List Shape) (s : Scope) (w : Walked) (p : Piece) → w.declares ≡ [] → Fits A s
      → Has types ft p (shape [] A) (shape [] A) exits → LeadsOnward types t ft A exits (behind s w) p
  quiet A exits s w p e ok h = (A, every-self A, scope-quiet A s w e ok, h)

  pub right-nothing : Right nothing
  right-nothing a s A exits ok ways slots made none =
      (quiet A exits s W.nothing Piece.Empty refl ok (has-empty types ft (shape [] A) exits), tt)

  -- one after the other, if both are known
  pub leads-both : (A : List ℕ) (exits : List Shape) (s : Scope) (v w : Walked) (p q : Piece)
      (h : LeadsOnward types t ft A exits (behind s v) p) → LeadsOnward types t ft h.0 exits (behind (behind s v) w) q
      → LeadsOnward types t ft A exits (behind s (both v w)) (Piece.Then p q)
  leads-both A exits s v w p q h k = (
    k.0,
    then-in A h.0 k.0 h.1 k.1,
    record {
      file = k.2.file;
      locals = subst (Every (LocalFits types t ft k.0))
          (append_assoc s.locals v.declares w.declares) k.2.locals;
      result = k.2.result;
    },
    has-then types ft p q (shape [] A) (shape [] h.0) (shape [] k.0) exits h.3 k.3,
  )

  pub right-then-lay : (v w : Walk) (x y : Lay) → StatementFits types t ft v x → StatementFits types t ft w y
      → StatementFits types t ft (W.then v w) (then_lay x v y)
  right-then-lay v w x y hx hy a s A exits ok ways slots made none =
      let s1 = behind s (v s) in
      let first = x a s in
      let second = y (past a first) s1 in
      let l = hx a s A exits ok ways (slotted-left s.next (v s).slots (w s1).slots slots)
      (made-left a.functions first.made second.made made) (none-left (v s).faults (w s1).faults none) in
      let h = l.0 in
      let k = hy (past a first) s1 h.0 exits h.2
      (record {
        breaks = λ e. reaches-wider A h.0 exits a.breaks h.1 (ways.breaks e);
        continues = λ e. reaches-wider A h.0 exits a.continues h.1 (ways.continues e);
      })
      (slotted-right s.next s1.next (v s).slots (w s1).slots refl slots)
      (made-right a.functions (a.functions + length first.made) first.made second.made refl made)
      (none-right (v s).faults (w s1).faults none) in (
        leads-both A exits s (v s) (w s1) first.piece second.piece h k.0,
        Every-append IsMaking first.made second.made l.1 k.1,
      )

  pub right-then : (x y : StatementPart) → Right x → Right y → Right (then x y)
  right-then x y hx hy = right-then-lay x.walk y.walk x.lay y.lay hx hy

  -- what is declared inside is forgotten
  pub right-block-lay : (w : Walk) (x : Lay) → StatementFits types t ft w x
      → StatementFits types t ft (W.in_block w) (λ a s. x a (begun s))
  right-block-lay w x h a s A exits ok ways slots made none =
      let r = h a (begun s) A exits (record { file = ok.file; locals = ok.locals; result = ok.result })
      (record { breaks = ways.breaks; continues = ways.continues }) slots made none in
      let h0 = r.0 in (
        quiet A exits s (W.in_block w s) (x a (begun s)).piece refl ok
            (has-weaker types ft (x a (begun s)).piece (shape [] A) [] A h0.0 exits h0.1 h0.3),
        r.1,
      )

  pub right-block : (x : StatementPart) → Right x → Right (in_block x)
  right-block x h = right-block-lay x.walk x.lay h

  -- lists of statements that are right one by one
  abbrev pub EachRight : List StatementPart → Type 0
  EachRight [] = Unit {0}
  EachRight (x ∷ xs) = Right x × EachRight xs

  pub right-order : (xs : List StatementPart) → EachRight xs → Right (in_order xs)
  right-order [] h = right-nothing
  right-order (x ∷ xs) h = right-then-lay x.walk (W.in_order (map (λ (y : StatementPart). y.walk) xs)) x.lay
      (lay_all xs) h.0
      (right-order xs h.1)

  -- a simple statement is a statement
  pub right-simple : (w : Walk) (p : Scope → Piece) → SimpleFits types t ft w p
      → StatementFits types t ft w (λ a s. laid (p s))
  right-simple w p h a s A exits ok ways slots made none = let m =
      h s A ok slots none in ((m.0, m.1, m.2, m.3 exits), tt)

  pub still : (A : List ℕ) (s : Scope) (w : Walked) (p : Piece) → w.declares ≡ [] → Fits A s → Silent types ft A p
      → Moves types t ft A (behind s w) p
  still A s w p e ok h = (A, every-self A, scope-quiet A s w e ok, λ exits. h [] exits)

  -- a statement declares one variable of a known type, whose slot has this type, and this piece leaves its value
  pub record Fresh (n : List ℕ) (o : Option GoType) (e : GoType) (A : List ℕ) (s : Scope) (w : Walked)
      (p : Piece) : Type 0 where
    pub known : o ≡ Some e
    pub declares : w.declares ≡ variable_of s n o ∷ []
    pub slot : slice_get (slot_types ft) s.next ≡ Some (known_type o)
    pub fits : Fits A s
    pub pushes : Pushes types ft A p (value_type e)

  -- a new variable that is stored
  pub moves-fresh : (l : ℕ) (n : List ℕ) (o : Option GoType) (e : GoType) (A : List ℕ) (s : Scope) (w : Walked)
      (p : Piece) → Fresh n o e A s w p → Moves types t ft A (behind s w) (all (p ∷ op l (Instr.Store s.next) ∷ []))
  moves-fresh l n o e A s w p is =
      let ok = is.fits in
      let i = s.next in
      let B : List ℕ = i ∷ A in
      let wide = Every-from (λ j. In j B) A (λ j m. inr m) in
      let typed = is.slot ∙ ap (λ z. Some (known_type z)) is.known in (
        B,
        wide,
        record {
          file = ok.file;
          locals = subst (λ ds. Every (LocalFits types t ft B) (s.locals ++ ds)) (sym is.declares)
              (Every-append (LocalFits types t ft B) s.locals (variable_of s n o ∷ [])
              (locals-wider A B wide s.locals ok.locals) ((e, is.known, inl refl, typed), tt));
          result = ok.result;
        },
        λ exits.
            has-then types ft p _ (shape [] A) (shape (value_type e ∷ []) A) (shape [] B) exits (is.pushes [] exits)
            (has-then types ft (op l (Instr.Store i)) Piece.Empty _ (shape [] B) (shape [] B) exits
            (has-op types ft (Instr.Store i) l (shape (value_type e ∷ []) A) (shape [] B) exits
            (λ full k m. (value_type e, [], typed, refl, m)))
            (has-empty types ft (shape [] B) exits)),
      )
