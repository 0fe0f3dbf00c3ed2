-- The code of a function and its source agree.
-- For: `functions_agree`, src/lib.rt
-- By: induction over the list of statements of the body; cases of how the body ends
use Rattle.std.proofs.Common.{◌≡◌, ℕ, zero, suc, ◌+◌, ◌-◌, pos, List, [], ◌∷◌, ◌++◌, length, map, Option, Some, None}
use Rattle.std.proofs.Common.{refl, ap, sym, ◌∙◌, subst, slice_get, arith, append_assoc, length-append}
use Rattle.std.specs.Prelude.{replicate}
use Rattle.golf_syntax_trees.specs.declared.statements.Stmt.{Stmt}
use Rattle.golf_syntax_trees.specs.declared.declarations.Func.{Func}
use Rattle.golf_data.specs.declared.value.Value.{Value}
use Rattle.golf_data.specs.declared.code.Instr.{Instr}
use Rattle.golf_data.specs.declared.code.CodeLine.{CodeLine}
use Rattle.golf_model.specs.Values.{zero_of}
use Rattle.golf_check_types.specs.declared.types.GoType.{GoType}
use Rattle.golf_check_types.specs.declared.locals.Local.{Local}
use Rattle.golf_check_types.specs.Statements.{behind}
use Rattle.golf_check_types.specs.Files.{outside, result_type, body_scope}
use Rattle.golf_code_layout.specs.Piece.{all, op, size, placed}
use Rattle.golf_code_of.specs.declared.surroundings.Around.{Around}
use Rattle.golf_code_of.specs.declared.tables.Tables.{Tables}
use Rattle.golf_code_of.specs.Values.{push, zero_value}
use Rattle.golf_code_of.specs.Statements as L
use Rattle.golf_code_of.specs.StatementCode.{stmt_part}
use Rattle.golf_code_of.specs.Files.{body_part, body_laid, last_return, function_of}
use Rattle.golf_meaning_flat.specs.Worlds.{Halt, End, Told, World, halted}
use Rattle.golf_meaning_flat.specs.InstructionEffects.{Frame}
use Rattle.golf_meaning_flat.specs.Flat.{exec}
use Rattle.golf_meaning_flat.specs.Structured.{PieceExit, then_way, run}
use Rattle.golf_meaning_flat.specs.Laws.{Stand, Enough, FollowsPiece, Done}
use Rattle.golf_meaning_flat.proofs.Placing.{placed-follows}
use Rattle.golf_meaning_flat.proofs.Bounds.{both-ways}
use Rattle.golf_meaning_flat.proofs.Halting.{said-as}
use Rattle.golf_meaning_source.specs.Operations.{Taking}
use Rattle.golf_meaning_source.specs.Does.{frame}
use Rattle.golf_meaning_statements.specs.Flows.{Course, Flow}
use Rattle.golf_meaning_statements.specs.Steps.{in_order, parts}
use Rattle.golf_meaning_statements.specs.Statements.{step}
use Rattle.golf_meaning_statements.specs.Follows.{EndsAlike, Goes, StatementMeans}
use Rattle.golf_meaning_statements.proofs.Flowing.{EachMeans, means-order}
use Rattle.golf_meaning_statements.proofs.Stmts.{step-part, step-means}
use Rattle.golf_meaning_statements.specs.Functions.{named, begins, at_end, told_by, Meaning}
use Rattle.golf_meaning_statements.specs.FunctionLaws.{FunctionsAgree}
use Rattle.golf_meaning_statements.proofs.Entering.{body-known}

pub stand-whole : (xs ys : List CodeLine) (n : ℕ) → n ≡ length xs → Stand (xs ++ ys) n ys
stand-whole xs [] n e = tt
stand-whole xs (y ∷ ys) n e = (
  at-length xs y ys n e,
  subst (λ zs. Stand zs (n + 1) ys) (append_assoc xs (y ∷ []) ys)
      (stand-whole (xs ++ y ∷ []) ys (n + 1) (let f = length-append xs (y ∷ []) in omega (arith, e, f))),
)
  where
    at-length : (xs : List CodeLine) (y : CodeLine) (ys : List CodeLine) (n : ℕ) → n ≡ length xs
        → slice_get (xs ++ y ∷ ys) n ≡ Some y
    at-length [] y ys n e = subst (λ k. slice_get (y ∷ ys) k ≡ Some y) (sym e) refl
    at-length (x ∷ xs) y ys zero e = absurd (omega (arith, e))
    at-length (x ∷ xs) y ys (suc n) e = at-length xs y ys n (omega (arith, e))

-- the body of a function goes as this flow does, from these locals and this frame
record BodyGoes (f : Flow) (o : PieceExit) : Type 0 where
  locals : List Local
  locals_after : List Local
  next : ℕ
  slots : List Value
  around : Around
  goes : Goes locals next slots [] locals_after around f o

length-replicate : (k : ℕ) (v : Value) → length (replicate k v) ≡ k
length-replicate zero v = refl
length-replicate (suc k) v = ap suc (length-replicate k v)

module _ (taking : Taking) where
  module _ (t : Tables) where
    each : (xs : List Stmt) → EachMeans taking (map (step taking t) xs)
    each [] = tt
    each (x ∷ xs) = (step-means taking t x, each xs)

    parts-are : (xs : List Stmt) → parts (map (step taking t) xs) ≡ map (stmt_part t) xs
    parts-are [] = refl
    parts-are (x ∷ xs) = ap (λ p. p ∷ parts (map (step taking t) xs)) (step-part taking t x)
        ∙ ap (λ ps. stmt_part t x ∷ ps) (parts-are xs)

    pub body-means : (f : Func) → StatementMeans taking (body_part t f).walk (body_part t f).lay
        (in_order (map (step taking t) f.body))
    body-means f = subst (λ ps. StatementMeans taking (L.in_order ps).walk (L.in_order ps).lay
        (in_order (map (step taking t) f.body))) (parts-are f.body)
        (means-order taking (map (step taking t) f.body) (each f.body))

  -- the return at the end
  last-push : (l : ℕ) (v : Value) (n at : ℕ) (ts : List ℕ) (now : List Value) (u : World)
      → run taking.gives n (all (op l (push v) ∷ op l Instr.ReturnValue ∷ [])) at ts (frame now []) u ≡ PieceExit.Ends
      (halted (Halt.Returned (Some (zero_of v))) u.operations)
  last-push l (Value.Int k) n at ts now u = refl
  last-push l (Value.Bool b) n at ts now u = refl
  last-push l (Value.Text k) n at ts now u = refl
  last-push l Value.Unit n at ts now u = refl
  last-push l Value.Nil n at ts now u = refl
  last-push l (Value.Ref o) n at ts now u = refl

  last-ends : (l : ℕ) (r : Option GoType) (n at : ℕ) (ts : List ℕ) (now : List Value) (u : World)
      → run taking.gives n (last_return l r) at ts (frame now []) u ≡ PieceExit.Ends
      (halted (Halt.Returned (at_end r)) u.operations)
  last-ends l None n at ts now u = refl
  last-ends l (Some t) n at ts now u = last-push l (zero_value (Some t)) n at ts now u

  -- if the way ends as it is told, so does the code
  module _ (code : List CodeLine) (c : Frame) (w : World) (n to : ℕ) where
    done-ends : (t : Told) (e : End) (o : PieceExit) → EndsAlike t e o
        → ((r : Told) → o ≡ PieceExit.Ends r → (j : ℕ) × Enough r.end n j × (exec taking.gives code j 0 c w ≡ r))
        → t.end ≡ e
        → Done taking.gives code c w n t e
    done-ends t (End.Halts s) o h k q = said-as s _ _ h (λ e. let r = k t e in (r.0, r.2))
    done-ends t End.Short o h k q = let r = k t h in (r.0, subst (λ e. Enough e n r.0) q r.1, r.2)

    from-ends : (o : PieceExit) → FollowsPiece taking.gives code n 0 [] to c w o → (r : Told) → o ≡ PieceExit.Ends r
        → (j : ℕ)
        × Enough r.end n j × (exec taking.gives code j 0 c w ≡ r)
    from-ends o h r e = subst (FollowsPiece taking.gives code n 0 [] to c w) e h

    body-done : (l : ℕ) (r : Option GoType) (f : Flow) (o : PieceExit) (at : ℕ) → BodyGoes f o
        → FollowsPiece taking.gives code n 0 [] to c w
        (then_way o (run taking.gives n (all (last_return l r ∷ [])) at []))
        → Done taking.gives code c w n (told_by r f) (told_by r f).end
    body-done l r (Flow.Goes Course.On env u) o at body k =
        let h = body.goes in
        let ways : then_way o (run taking.gives n (all (last_return l r ∷ [])) at []) ≡ PieceExit.Ends
        (halted (Halt.Returned (at_end r)) u.operations) =
        ap (λ z. then_way z (run taking.gives n (all (last_return l r ∷ [])) at [])) h.1
        ∙ ap (λ z. then_way z (λ d x. PieceExit.Through d x)) (last-ends l r n at [] h.0 u) in
        let d = from-ends (then_way o (run taking.gives n (all (last_return l r ∷ [])) at [])) k
        (halted (Halt.Returned (at_end r)) u.operations) ways in
        (d.0, d.2)
    body-done l r (Flow.Ends t) o at body k =
        done-ends t t.end (then_way o (run taking.gives n (all (last_return l r ∷ [])) at []))
        (through t t.end body.goes) (from-ends
        (then_way o (run taking.gives n (all (last_return l r ∷ [])) at [])) k) refl
      where
        through : (t : Told) (e : End) → EndsAlike t e o
            → EndsAlike t e (then_way o (run taking.gives n (all (last_return l r ∷ [])) at []))
        through t e q = Rattle.golf_meaning_statements.proofs.Flowing.ends-in t e
            (λ z. then_way z (run taking.gives n (all (last_return l r ∷ [])) at [])) o refl q
    body-done l r _ o at body k = tt

pub functions-agree : FunctionsAgree
functions-agree taking t gives names k f arguments answers enough never =
    let out = outside names in
    let s = body_scope out f in
    let a : Around = record { breaks = 0; continues = 0; functions = k } in
    let body = (body_laid t out k f).piece in
    let r = result_type out f.result in
    let last = last_return f.line r in
    let fn = function_of t gives out f body in
    let zs = replicate (fn.slots - length arguments) (Value.Int (pos 0)) in
    let slots = arguments ++ zs in
    let long = length-append arguments zs in
    let many = length-replicate (fn.slots - length arguments) (Value.Int (pos 0)) in
    let c : Frame = frame slots [] in
    let w = begins answers in
    let means = body-means taking t f in
    let known = body-known names f arguments zs enough in
    both-ways taking.gives fn.body c w (Meaning taking t out k f arguments answers)
    (λ n. body-done taking fn.body c w n (0 + size (all (body ∷ last ∷ []))) f.line r
    (in_order (map (step taking t) f.body) a s n (named s.locals arguments) w) (run taking.gives n body 0 [] c w)
    (0 + size body)
    (record {
      locals = s.locals;
      locals_after = (behind s ((body_part t f).walk s)).locals;
      next = s.next;
      slots = slots;
      around = a;
      goes = means.goes a s n (named s.locals arguments) slots known (omega (arith, long, many, enough)) 0 [] [] w;
    })
    (placed-follows taking.gives fn.body n (all (body ∷ last ∷ [])) 0 [] c w
    (stand-whole [] (placed (all (body ∷ last ∷ [])) 0 []) 0 refl)))
    never
