-- The code of conditions, `if` and loops without `range` leads on.
-- For: `statements_fit`, src/lib.rt; `WaysFit`, specs/StatementFlow.antt
-- By: putting the shapes of the parts together; no induction
use Rattle.std.proofs.Common.{◌≡◌, ℕ, suc, ◌+◌, true, List, [], ◌∷◌, ◌++◌, length, Option, Some, None, refl, sym, ap}
use Rattle.std.proofs.Common.{◌∙◌, subst, slice_get, arith, append_assoc}
use Rattle.golf_theory.specs.Membership.{In, Every}
use Rattle.golf_theory.proofs.Lists.{Every-append}
use Rattle.golf_syntax_trees.specs.declared.expressions.Expr.{Expr}
use Rattle.golf_check_types.specs.declared.types.Base.TheVariants as base
use Rattle.golf_check_types.specs.declared.scopes.Scope.{Scope}
use Rattle.golf_check_types.specs.Expressions.{used, given_by}
use Rattle.golf_check_types.specs.Scopes.{begun}
use Rattle.golf_check_types.specs.Judgments.{judge}
use Rattle.golf_check_types.specs.declared.locals.Local.{Local}
use Rattle.golf_check_types.specs.declared.facts.Fact.{Fact}
use Rattle.golf_check_types.specs.Faults.{Fault}
use Rattle.golf_check_types.specs.Statements as W
use Rattle.golf_check_types.specs.Statements.{Walk, Walked, both, behind}
use Rattle.golf_model_typing.specs.Types.{ValueType, Shape, FunctionTypes, Types}
use Rattle.golf_code_layout.specs.Piece.{Piece, all}
use Rattle.golf_code_shapes.specs.Has.{shape, Has, Reaches}
use Rattle.golf_code_shapes.proofs.Pieces.{every-self, has-empty, has-then, has-weaker, has-exit, has-unless, has-block}
use Rattle.golf_code_shapes.proofs.Pieces.{has-again}
use Rattle.golf_code_of.specs.declared.tables.Tables.{Tables}
use Rattle.golf_code_of.specs.ExpressionCode.{piece_at}
use Rattle.golf_code_of.specs.declared.surroundings.Around.{Around}
use Rattle.golf_code_of.specs.Statements.{StatementPart, laid, within, past, then, in_block, behind_test, ends_here}
use Rattle.golf_code_of.specs.Statements.{or_else}
use Rattle.golf_code_of.specs.Statements.{break_part, continue_part}
use Rattle.golf_code_of.specs.Loops.{in_loop, forever, while, optional_test, stepping}
use Rattle.golf_code_shapes.specs.Sound.{LocalFits, ScopeFits, Pushes}
use Rattle.golf_code_shapes.specs.StatementFlow.{IsMaking, Slotted, MadeFit, WaysFit, Moves, SimpleFits}
use Rattle.golf_code_shapes.proofs.Typings.{none-left, none-right, kept}
use Rattle.golf_code_shapes.proofs.Names.{based}
use Rattle.golf_code_shapes.proofs.Flows.{Right, reaches-wider, slotted-left, slotted-right, made-left, made-right}
use Rattle.golf_code_shapes.proofs.Flows.{quiet, scope-quiet}
use Rattle.golf_code_shapes.proofs.Simples.{value-of}

-- a simple statement as a part
abbrev pub simply : Walk → (Scope → Piece) → StatementPart
simply w p = record { walk = w; lay = λ a s. laid (p s) }

pub further : (A : List ℕ) (exits : List Shape) (x : Shape) (k : ℕ) → Reaches exits [] A k
    → Reaches (x ∷ exits) [] A (k + 1)
further A exits x k w = let e : suc k ≡ k + 1 =
    omega arith in (w.0, subst (λ n. slice_get (x ∷ exits) n ≡ Some (shape [] w.0)) e w.1, w.2)

pub further-two : (A : List ℕ) (exits : List Shape) (x y : Shape) (k : ℕ) → Reaches exits [] A k
    → Reaches (x ∷ y ∷ exits) [] A (k + 2)
further-two A exits x y k w = let e : k + 1 + 1 ≡ k + 2 =
    omega arith in subst (Reaches (x ∷ y ∷ exits) [] A) e (further A (y ∷ exits) x (k + 1) (further A exits y k w))

pub within-one : (A : List ℕ) (exits : List Shape) (x : Shape) (s : Scope) (a : Around) → WaysFit A exits s a
    → WaysFit A (x ∷ exits) s (within 1 a)
within-one A exits x s a w = record {
  breaks = λ e. further A exits x a.breaks (w.breaks e);
  continues = λ e. further A exits x a.continues (w.continues e);
}

pub within-two : (A : List ℕ) (exits : List Shape) (x y : Shape) (s : Scope) (a : Around) → WaysFit A exits s a
    → WaysFit A (x ∷ y ∷ exits) s (within 2 a)
within-two A exits x y s a w = record {
  breaks = λ e. further-two A exits x y a.breaks (w.breaks e);
  continues = λ e. further-two A exits x y a.continues (w.continues e);
}

pub ways-wider : (A B : List ℕ) (exits : List Shape) (s r : Scope) (a : Around) → Every (λ i. In i B) A
    → r.breaks ≡ s.breaks → r.loops ≡ s.loops → WaysFit A exits s a → WaysFit B exits r a
ways-wider A B exits s r a h e f w = record {
  breaks = λ k. reaches-wider A B exits a.breaks h (w.breaks (sym e ∙ k));
  continues = λ k. reaches-wider A B exits a.continues h (w.continues (sym f ∙ k));
}

module _ (types : Types) (t : Tables) (ft : FunctionTypes) where
  abbrev Fits : List ℕ → Scope → Type 0
  Fits = ScopeFits types t ft

  abbrev Calm : StatementPart → Type 0
  Calm x = (s : Scope) → (x.walk s).declares ≡ []

  tests : (l : ℕ) (e : Expr) (s : Scope) (A : List ℕ) → Fits A s → (W.condition l e s).faults ≡ []
      → Pushes types ft A (piece_at t l s e) ValueType.Bool
  tests l e s A ok none = let j = judge e l s in based types t ft A s base.Bool (given_by j) (piece_at t l s e)
      (kept l 8 _ (none-right (used l j) _ none)) (value-of types t ft l e s A ok (none-left (used l j) _ none))

  -- a test, and after it what leads from these slots to these
  tested : (l k : ℕ) (A : List ℕ) (exits : List Shape) (p q : Piece) → Pushes types ft A p ValueType.Bool
      → Reaches exits [] A k → Has types ft q (shape [] A) (shape [] A) exits
      → Has types ft (all (p ∷ Piece.Unless l k ∷ q ∷ [])) (shape [] A) (shape [] A) exits
  tested l k A exits p q hp r hq =
      let sh = shape [] A in
      has-then types ft p _ sh (shape (ValueType.Bool ∷ []) A) sh exits (hp [] exits)
      (has-then types ft (Piece.Unless l k) _ (shape (ValueType.Bool ∷ []) A) sh sh exits
      (has-unless types ft l k [] A exits r)
      (has-then types ft q Piece.Empty sh sh sh exits hq (has-empty types ft sh exits)))

  -- what a part does that declares nothing, if more slots after it are not asked for
  calm-has : (x : StatementPart) → Right types t ft x → (a : Around) (s : Scope) (A : List ℕ) (exits : List Shape)
      → Fits A s
      → WaysFit A exits s a → Slotted ft s.next (x.walk s).slots → MadeFit types a.functions (x.lay a s).made
      → (x.walk s).faults ≡ []
      → Has types ft (x.lay a s).piece (shape [] A) (shape [] A) exits × Every IsMaking (x.lay a s).made
  calm-has x h a s A exits ok ways slots made none =
      let r = h a s A exits ok ways slots made none in
      let l = r.0 in
      (has-weaker types ft (x.lay a s).piece (shape [] A) [] A l.0 exits l.1 l.3, r.1)

  -- after a test nothing is known that was not before it
  fits-tested : (A : List ℕ) (s : Scope) (w : Walked) (fs : List Fault) (ts : List Fact) → w.declares ≡ [] → Fits A s
      → Fits A (behind s (both (W.judges fs ts) w))
  fits-tested A s w fs ts calm ok = scope-quiet types t ft A s (both (W.judges fs ts) w) calm ok

  fits-both : (A : List ℕ) (s : Scope) (v w : Walked) → Fits A (behind (behind s v) w) → Fits A (behind s (both v w))
  fits-both A s v w ok = record {
    file = ok.file;
    locals = subst (Every (LocalFits types t ft A)) (append_assoc s.locals v.declares w.declares) ok.locals;
    result =
        ok.result;
  }

  -- A simple statement, a test, and a body after it.
  module _ (w : Walk) (p : Scope → Piece) (simple : SimpleFits types t ft w p) (l : ℕ) (test : Expr)
      (body : StatementPart)
      (calm : Calm body) (right : Right types t ft body) where
    abbrev First : StatementPart
    First = then (simply w p) (behind_test t l test body)

    abbrev Inner : Walk
    Inner s = both (W.condition l test s) (body.walk s)

    -- the slots after the simple statement, which are kept if the condition is false
    abbrev Simply : List ℕ → Scope → Type 0
    Simply A s = Moves types t ft A (behind s (w s)) (p s)

    first-moves : (s : Scope) (A : List ℕ) → Fits A s → Slotted ft s.next (First.walk s).slots
        → (First.walk s).faults ≡ [] → Simply A s
    first-moves s A ok slots none = simple s A ok
        (slotted-left types t ft s.next (w s).slots (Inner (behind s (w s))).slots slots)
        (none-left (w s).faults _ none)

    first-fits : (s : Scope) (A : List ℕ) (m : Simply A s) → Fits m.0 (behind s (First.walk s))
    first-fits s A m =
        let s1 = behind s (w s) in
        fits-both m.0 s (w s) (Inner s1) (fits-tested m.0 s1 (body.walk s1) (W.condition l test s1).faults
        (W.condition l test s1).facts (calm s1) m.2)

    first-has : (a : Around) (s : Scope) (A : List ℕ) (exits : List Shape) (m : Simply A s)
        → Slotted ft s.next (First.walk s).slots → MadeFit types a.functions (First.lay a s).made
        → (First.walk s).faults ≡ []
        → WaysFit m.0 exits s a → slice_get exits 0 ≡ Some (shape [] m.0)
        → Has types ft (First.lay a s).piece (shape [] A) (shape [] m.0) exits × Every IsMaking (First.lay a s).made
    first-has a s A exits m slots made none ways zero =
        let s1 = behind s (w s) in
        let a1 = past a (laid (p s)) in
        let rest = none-right (w s).faults (Inner s1).faults none in
        let b = calm-has body right a1 s1 m.0 exits m.2 (record { breaks = ways.breaks; continues = ways.continues })
        (slotted-right types t ft s.next s1.next (w s).slots (Inner s1).slots refl slots)
        (made-right types t ft a.functions (a.functions + 0) [] (body.lay a1 s1).made refl made)
        (none-right (W.condition l test s1).faults _ rest) in (
          has-then types ft (p s) _ (shape [] A) (shape [] m.0) (shape [] m.0) exits (m.3 exits)
              (tested l 0 m.0 exits (piece_at t l s1 test) (body.lay a1 s1).piece
              (tests l test s1 m.0 m.2 (none-left (W.condition l test s1).faults _ rest))
              (m.0, zero, every-self m.0) b.0),
          b.1,
        )

    -- `if` without `else`
    pub right-ends : Right types t ft (in_block (ends_here First))
    right-ends a s A exits ok ways slots made none =
        let r = begun s in
        let k : Fits A r = record { file = ok.file; locals = ok.locals; result = ok.result } in
        let m = first-moves r A k slots none in
        let end = shape [] m.0 in
        let wider = ways-wider A m.0 exits s r a m.1 refl refl ways in
        let h = first-has (within 1 a) r A (end ∷ exits) m slots made none
        (within-one m.0 exits end r a wider) refl in (
          quiet types t ft A exits s (W.in_block First.walk s) _ refl ok
              (has-weaker types ft _ (shape [] A) [] A m.0 exits m.1 (has-block types ft _ (shape [] A) end exits h.0)),
          h.1,
        )

    -- `if` with `else`
    pub right-or-else : (y : StatementPart) → Right types t ft y → Right types t ft (in_block (or_else l First y))
    right-or-else y right-y a s A exits ok ways slots made none =
        let r = begun s in
        let k : Fits A r = record { file = ok.file; locals = ok.locals; result = ok.result } in
        let v = First.walk r in
        let r1 = behind r v in
        let first = First.lay (within 2 a) r in
        let second = y.lay (within 1 (past a first)) r1 in
        let front = slotted-left types t ft r.next v.slots (y.walk r1).slots slots in
        let m = first-moves r A k front (none-left v.faults _ none) in
        let B = shape [] m.0 in
        let wider = ways-wider A m.0 exits s r a m.1 refl refl ways in
        let made-first = made-left types t ft a.functions first.made second.made made in
        let made-second = made-right types t ft a.functions
        (a.functions + length first.made) first.made second.made refl made in
        let h = first-has (within 2 a) r A (B ∷ B ∷ exits) m front made-first (none-left v.faults _ none)
        (within-two m.0 exits B B r a wider) refl in
        let g = calm-has y right-y (within 1 (past a first)) r1 m.0 (B ∷ exits) (first-fits r A m)
        (within-one m.0 exits B r1 (past a first) (record { breaks = wider.breaks; continues = wider.continues }))
        (slotted-right types t ft r.next r1.next v.slots (y.walk r1).slots refl slots) made-second
        (none-right v.faults _ none) in (
          quiet types t ft A exits s (W.in_block (or_else l First y).walk s) _ refl ok
              (has-weaker types ft _ (shape [] A) [] A m.0 exits m.1
              (has-block types ft _ (shape [] A) B exits
              (has-then types ft _ _ (shape [] A) B B (B ∷ exits)
              (has-block types ft _ (shape [] A) B (B ∷ exits)
              (has-then types ft first.piece _ (shape [] A) B B (B ∷ B ∷ exits) h.0
              (has-then types ft (Piece.Exit l 1) Piece.Empty B B B (B ∷ B ∷ exits)
              (has-exit types ft l 1 [] m.0 B (B ∷ B ∷ exits) (m.0, refl, every-self m.0))
              (has-empty types ft B (B ∷ B ∷ exits)))))
              (has-then types ft second.piece Piece.Empty B B B (B ∷ exits) g.0 (has-empty types ft B (B ∷ exits)))))),
          Every-append IsMaking first.made second.made h.1 g.1,
        )

  -- loops

  -- the body of a loop stands in this scope, and `break` and `continue` leave it by these targets
  pub record Loops (x : StatementPart) (b c : ℕ) (a : Around) (s : Scope) (A : List ℕ)
      (exits : List Shape) : Type 0 where
    pub fits : Fits A s
    pub breaks : Reaches exits [] A b
    pub continues : Reaches exits [] A c
    pub slots : Slotted ft s.next ((in_loop b c x).walk s).slots
    pub made : MadeFit types a.functions ((in_loop b c x).lay a s).made
    pub none : ((in_loop b c x).walk s).faults ≡ []

  -- a loop without a step behind its body
  bare : {x : StatementPart} {a : Around} {s : Scope} (A : List ℕ) (exits : List Shape) → Fits A s
      → Slotted ft s.next ((in_loop 1 0 x).walk s).slots → MadeFit types a.functions ((in_loop 1 0 x).lay a s).made
      → ((in_loop 1 0 x).walk s).faults ≡ [] → Loops x 1 0 a s A (shape [] A ∷ shape [] A ∷ exits)
  bare A exits ok slots made none = record {
    fits = ok;
    breaks = (A, refl, every-self A);
    continues = (A, refl, every-self A);
    slots = slots;
    made = made;
    none = none;
  }

  pub looped : (x : StatementPart) → Right types t ft x
      → (b c : ℕ) (a : Around) (s : Scope) (A : List ℕ) (exits : List Shape)
      → Loops x b c a s A exits
      → Has types ft ((in_loop b c x).lay a s).piece (shape [] A) (shape [] A) exits
      × Every IsMaking ((in_loop b c x).lay a s).made
  looped x h b c a s A exits is =
      calm-has x h (record { breaks = b; continues = c; functions = a.functions })
      (record s { breaks = true; loops = true }) A exits
      (record { file = is.fits.file; locals = is.fits.locals; result = is.fits.result })
      (record { breaks = λ e. is.breaks; continues = λ e. is.continues }) is.slots is.made is.none

  pub right-forever : (l : ℕ) (x : StatementPart) → Calm x → Right types t ft x
      → Right types t ft (forever l (in_loop 1 0 x))
  right-forever l x calm h a s A exits ok ways slots made none =
      let sh = shape [] A in
      let E : List Shape = sh ∷ sh ∷ exits in
      let b = looped x h 1 0 a s A E (bare A exits ok slots made none) in (
        quiet types t ft A exits s ((forever l (in_loop 1 0 x)).walk s) _
            (calm (record s { breaks = true; loops = true })) ok
            (has-block types ft _ sh sh exits (has-again types ft _ sh sh (sh ∷ exits)
            (has-then types ft _ _ sh sh sh E b.0
            (has-then types ft (Piece.Exit l 0) Piece.Empty sh sh sh E
            (has-exit types ft l 0 [] A sh E (A, refl, every-self A)) (has-empty types ft sh E))))),
        b.1,
      )

  pub right-while : (l : ℕ) (test : Expr) (x : StatementPart) → Calm x → Right types t ft x
      → Right types t ft (while t l test (in_loop 1 0 x))
  right-while l test x calm h a s A exits ok ways slots made none =
      let sh = shape [] A in
      let E : List Shape = sh ∷ sh ∷ exits in
      let body = ((in_loop 1 0 x).lay a s).piece in
      let b = looped x h 1 0 a s A E
      (bare A exits ok slots made (none-right (W.condition l test s).faults _ none)) in (
        quiet types t ft A exits s ((while t l test (in_loop 1 0 x)).walk s) _
            (calm (record s { breaks = true; loops = true })) ok
            (has-block types ft _ sh sh exits (has-again types ft _ sh sh (sh ∷ exits)
            (has-then types ft (piece_at t l s test) _ sh (shape (ValueType.Bool ∷ []) A) sh E
            (tests l test s A ok (none-left (W.condition l test s).faults _ none) [] E)
            (has-then types ft (Piece.Unless l 1) _ (shape (ValueType.Bool ∷ []) A) sh sh E
            (has-unless types ft l 1 [] A E (A, refl, every-self A))
            (has-then types ft body _ sh sh sh E b.0
            (has-then types ft (Piece.Exit l 0) Piece.Empty sh sh sh E
            (has-exit types ft l 0 [] A sh E (A, refl, every-self A)) (has-empty types ft sh E))))))),
        b.1,
      )

  -- a test that may be missing
  optional-tested : (l : ℕ) (o : Option Expr) (s : Scope) (A : List ℕ) (exits : List Shape) → Fits A s
      → Reaches exits [] A 1 → (W.optional_test l o s).faults ≡ []
      → Has types ft (optional_test t l o s) (shape [] A) (shape [] A) exits
  optional-tested l None s A exits ok r none = has-empty types ft (shape [] A) exits
  optional-tested l (Some e) s A exits ok r none =
      has-then types ft (piece_at t l s e) _ (shape [] A) (shape (ValueType.Bool ∷ []) A) (shape [] A) exits
      (tests l e s A ok none [] exits)
      (has-then types ft (Piece.Unless l 1) Piece.Empty (shape (ValueType.Bool ∷ []) A) (shape [] A) (shape [] A) exits
      (has-unless types ft l 1 [] A exits r) (has-empty types ft (shape [] A) exits))

  quiet-test : (l : ℕ) (o : Option Expr) (s : Scope) → (W.optional_test l o s).declares ≡ []
  quiet-test l None s = refl
  quiet-test l (Some e) s = refl

  slotless-test : (l : ℕ) (o : Option Expr) (s : Scope) → (W.optional_test l o s).slots ≡ []
  slotless-test l None s = refl
  slotless-test l (Some e) s = refl

  -- test, body, post statement
  pub right-stepping : (l : ℕ) (test : Option Expr) (w : Walk) (p : Scope → Piece) → SimpleFits types t ft w p
      → ((s : Scope) → (w s).declares ≡ []) → (x : StatementPart) → Calm x → Right types t ft x
      → Right types t ft (stepping t l test (simply w p) (in_loop 2 0 x))
  right-stepping l test w p simple quiet-post x calm h a s A exits ok ways slots made none =
      let o = W.optional_test l test s in
      let inner = both (w s) ((in_loop 2 0 x).walk (behind s (w s))) in
      let s1 = behind s (w s) in
      let a1 = past a (laid (p s)) in
      let sh = shape [] A in
      let F : List Shape = sh ∷ sh ∷ exits in
      let E : List Shape = sh ∷ F in
      let rest = none-right o.faults inner.faults none in
      let slots1 = subst (λ os. Slotted ft s.next (os ++ inner.slots)) (slotless-test l test s) slots in
      let m = simple s A ok (slotted-left types t ft s.next (w s).slots _ slots1) (none-left (w s).faults _ rest) in
      let ok1 : Fits A s1 = scope-quiet types t ft A s (w s) (quiet-post s) ok in
      let body = ((in_loop 2 0 x).lay a1 s1).piece in
      let hb = looped x h 2 0 a1 s1 A E (record {
        fits = ok1;
        breaks = (A, refl, every-self A);
        continues = (A, refl, every-self A);
        slots = slotted-right types t ft s.next s1.next (w s).slots _ refl slots1;
        made = made-right types t ft a.functions (a.functions + 0) [] ((in_loop 2 0 x).lay a1 s1).made refl made;
        none = none-right (w s).faults _ rest;
      }) in (
        quiet types t ft A exits s ((stepping t l test (simply w p) (in_loop 2 0 x)).walk s) _
            (same-nil o.declares (w s).declares (x.walk (record s1 { breaks = true; loops = true })).declares
            (quiet-test l test s) (quiet-post s) (calm (record s1 { breaks = true; loops = true }))) ok
            (has-block types ft _ sh sh exits (has-again types ft _ sh sh (sh ∷ exits)
            (has-then types ft (optional_test t l test s) _ sh sh sh F
            (optional-tested l test s A F ok (A, refl, every-self A) (none-left o.faults _ none))
            (has-then types ft (Piece.Block body) _ sh sh sh F (has-block types ft body sh sh F hb.0)
            (has-then types ft (p s) _ sh sh sh F (has-weaker types ft (p s) sh [] A m.0 F m.1 (m.3 F))
            (has-then types ft (Piece.Exit l 0) Piece.Empty sh sh sh F
            (has-exit types ft l 0 [] A sh F (A, refl, every-self A)) (has-empty types ft sh F))))))),
        hb.1,
      )
    where
      same-nil : (xs ys zs : List Local) → xs ≡ [] → ys ≡ [] → zs ≡ [] → xs ++ (ys ++ zs) ≡ []
      same-nil xs ys zs e f g = ap (λ d. d ++ (ys ++ zs)) e ∙ ap (λ d. d ++ zs) f ∙ g

  pub right-break : (l : ℕ) → Right types t ft (break_part l)
  right-break l a s A exits ok ways slots made none = (
    quiet types t ft A exits s (W.break_walk l s) _ refl ok
        (has-exit types ft l a.breaks [] A (shape [] A) exits (ways.breaks (kept l 15 s.breaks none))),
    tt,
  )

  pub right-continue : (l : ℕ) → Right types t ft (continue_part l)
  right-continue l a s A exits ok ways slots made none = (
    quiet types t ft A exits s (W.continue_walk l s) _ refl ok
        (has-exit types ft l a.continues [] A (shape [] A) exits (ways.continues (kept l 15 s.loops none))),
    tt,
  )
