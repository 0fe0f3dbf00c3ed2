-- Structured code has shapes if its parts have: once for each way of putting parts together.
-- For: `pieces_have_shapes`, src/lib.rt; `Has`, specs/Has.antt
-- By: cases of how it is put together; induction over the lists of shapes, of lines of code and of cases
use Rattle.std.proofs.Common.{◌≡◌, ℕ, zero, suc, ◌+◌, List, [], ◌∷◌, ◌++◌, map, Option, Some, None, refl, subst}
use Rattle.std.proofs.Common.{slice_get, arith, length, length-append}
use Rattle.std.specs.Option.{option_map}
use Rattle.golf_theory.specs.Membership.{In, Every}
use Rattle.golf_theory.proofs.Lists.{Every-weaker, Every-at, Every-from}
use Rattle.golf_data.specs.declared.code.Instr.{Instr}
use Rattle.golf_data.specs.declared.code.CodeLine.{CodeLine}
use Rattle.golf_data.specs.declared.code.SelectCase.{SelectCase}
use Rattle.golf_model_typing.specs.Types.{ValueType, Shape, FunctionTypes, Types}
use Rattle.golf_model_typing.specs.Shapes.{LeadsToShape, InstructionFits, CasesFit, DefaultFits, case_takes}
use Rattle.golf_model_typing.specs.Shapes.{case_leaves}
use Rattle.golf_code_layout.specs.Piece.{Piece, size, target, case_at, placed}
use Rattle.golf_code_layout.proofs.Sizes.{placed-size}
use Rattle.golf_code_shapes.specs.Has.{shape, filled, ShapesStand, Fit, To, Exits, Has, Reaches, CasesReach}
use Rattle.golf_code_shapes.specs.Has.{DefaultReaches}
use Rattle.golf_code_shapes.specs.LayoutLaws.{PiecesHaveShapes}

pub stand-left : (full : List Shape) (at : ℕ) (xs ys : List Shape) → ShapesStand full at (xs ++ ys)
    → ShapesStand full at xs
stand-left full at [] ys h = tt
stand-left full at (x ∷ xs) ys h = (h.0, stand-left full (at + 1) xs ys h.1)

pub stand-right : (full : List Shape) (at n : ℕ) (xs ys : List Shape) → n ≡ at + length xs
    → ShapesStand full at (xs ++ ys)
    → ShapesStand full n ys
stand-right full at n [] ys e h = subst (λ k. ShapesStand full k ys) (let f = e in omega (arith, f)) h
stand-right full at n (x ∷ xs) ys e h = stand-right full (at + 1) n xs ys (omega (arith, e)) h.1

pub fit-append : (types : Types) (ft : FunctionTypes) (at n : ℕ) (xs ys : List CodeLine) → n ≡ at + length xs
    → Fit types ft at xs → Fit types ft n ys → Fit types ft at (xs ++ ys)
fit-append types ft at n [] ys e h k = subst (λ m. Fit types ft m ys) (omega (arith, e)) k
fit-append types ft at n (x ∷ xs) ys e h k = (h.0, fit-append types ft (at + 1) n xs ys (omega (arith, e)) h.1 k)

pub to-wider : (ft : FunctionTypes) (ts : List ValueType) (A B : List ℕ) (k : ℕ) → Every (λ i. In i B) A
    → LeadsToShape ft ts A k → LeadsToShape ft ts B k
to-wider ft ts A B k h l = (
  l.0,
  l.1,
  l.2,
  Every-weaker (λ i. In i A) (λ i. In i B) (λ i m. Every-at (λ j. In j B) A i h m) l.0.assigned l.3,
)

pub every-self : (A : List ℕ) → Every (λ i. In i A) A
every-self A = Every-from (λ i. In i A) A (λ i m. m)

-- a target may be gone on at with its shape
exit-at : (ft : FunctionTypes) (exits : List Shape) (ts : List ℕ) (k : ℕ) (sh : Shape) → slice_get exits k ≡ Some sh
    → Exits ft exits ts → To ft sh (target ts k)
exit-at ft [] ts k sh e h = cc
exit-at ft (x ∷ xs) [] k sh e h = absurd h
exit-at ft (x ∷ xs) (t ∷ ts) zero sh e h = let same : x ≡ sh = cc in subst (λ z. To ft z t) same h.0
exit-at ft (x ∷ xs) (t ∷ ts) (suc k) sh e h = exit-at ft xs ts k sh e h.1

-- it may be gone on at with more slots assigned
reached : (ft : FunctionTypes) (exits : List Shape) (us : List ℕ) (ts : List ValueType) (assigned : List ℕ) (k : ℕ)
    → Reaches exits ts assigned k → Exits ft exits us → LeadsToShape ft ts assigned (target us k)
reached ft exits us ts assigned k r e = to-wider ft ts r.0 assigned (target us k) r.2
    (exit-at ft exits us k (shape ts r.0) r.1 e)

cases-reached : (ft : FunctionTypes) (exits : List Shape) (us : List ℕ) (assigned : List ℕ) (below : List ValueType)
    (cs : List SelectCase) (rest ts : List ValueType)
    → CasesReach exits assigned below cs rest ts → Exits ft exits us
    → CasesFit ft assigned below (map (case_at us) cs) rest ts
cases-reached ft exits us assigned below [] rest ts h e = h
cases-reached ft exits us assigned below (c ∷ cs) rest ts h e = (
  h.0,
  reached ft exits us (case_leaves c.kind h.0 ++ below) assigned c.target h.1 e,
  cases-reached ft exits us assigned below cs (case_takes c.kind h.0 rest) ts h.2 e,
)

default-reached : (ft : FunctionTypes) (exits : List Shape) (us : List ℕ) (assigned : List ℕ) (below : List ValueType)
    (o : Option ℕ)
    → DefaultReaches exits assigned below o → Exits ft exits us
    → DefaultFits ft assigned below (option_map (target us) o)
default-reached ft exits us assigned below None h e = tt
default-reached ft exits us assigned below (Some k) h e = reached ft exits us below assigned k h e

module _ (types : Types) (ft : FunctionTypes) where
  -- a shape that stands somewhere may be gone on with there
  pub stands-to : (full : List Shape) (sh : Shape) (k : ℕ) → slice_get full k ≡ Some sh → To (filled ft full) sh k
  stands-to full sh k h = (sh, h, refl, every-self sh.assigned)

  pub has-empty : (sh : Shape) (exits : List Shape) → Has types ft Piece.Empty sh sh exits
  has-empty sh exits = record {
    shapes = [];
    long = refl;
    enters = λ full at st l. subst (To (filled ft full) sh) (omega arith) l;
    fits = λ full at ts st l e. tt;
  }

  pub has-op : (i : Instr) (line : ℕ) (from to : Shape) (exits : List Shape)
      → ((full : List Shape) (k : ℕ) → To (filled ft full) to (k + 1) → InstructionFits types (filled ft full) k i from)
      → Has types ft (Piece.Op i line) from to exits
  has-op i line from to exits r = record {
    shapes = from ∷ [];
    long = refl;
    enters = λ full at st l. stands-to full from at st.0;
    fits =
        λ full at ts st l e. ((from, st.0, r full at l), tt);
  }

  pub has-then : (p q : Piece) (from mid to : Shape) (exits : List Shape) → Has types ft p from mid exits
      → Has types ft q mid to exits → Has types ft (Piece.Then p q) from to exits
  has-then p q from mid to exits hp hq = record {
    shapes = hp.shapes ++ hq.shapes;
    long = (let e = length-append hp.shapes hq.shapes in let f = hp.long in let g = hq.long in omega (arith, e, f, g));
    enters = λ full at st l. hp.enters full at (left full at st) (behind full at st l);
    fits = λ full at ts st l e.
        let s = placed-size p at ts in
        fit-append types (filled ft full) at (at + size p) (placed p at ts) (placed q (at + size p) ts)
        (omega (arith, s))
        (hp.fits full at ts (left full at st) (behind full at st l) e)
        (hq.fits full (at + size p) ts (right full at st) (end full at l) e);
  }
    where
      left : (full : List Shape) (at : ℕ) → ShapesStand full at (hp.shapes ++ hq.shapes) → ShapesStand full at hp.shapes
      left full at st = stand-left full at hp.shapes hq.shapes st

      right : (full : List Shape) (at : ℕ) → ShapesStand full at (hp.shapes ++ hq.shapes)
          → ShapesStand full (at + size p) hq.shapes
      right full at st = let f = hp.long in stand-right full at (at + size p) hp.shapes hq.shapes (omega (arith, f)) st

      end : (full : List Shape) (at : ℕ) → To (filled ft full) to (at + (size p + size q))
          → To (filled ft full) to (at + size p + size q)
      end full at l = subst (To (filled ft full) to) (omega arith) l

      behind : (full : List Shape) (at : ℕ) → ShapesStand full at (hp.shapes ++ hq.shapes)
          → To (filled ft full) to (at + (size p + size q)) → To (filled ft full) mid (at + size p)
      behind full at st l = hq.enters full (at + size p) (right full at st) (end full at l)

  pub has-weaker : (p : Piece) (from : Shape) (ts : List ValueType) (needed assigned : List ℕ) (exits : List Shape)
      → Every (λ i. In i assigned) needed → Has types ft p from (shape ts assigned) exits
      → Has types ft p from (shape ts needed) exits
  has-weaker p from ts A B exits h hp = record {
    shapes = hp.shapes;
    long = hp.long;
    enters = λ full at st l. hp.enters full at st (to-wider (filled ft full) ts A B (at + size p) h l);
    fits = λ full at us st l e. hp.fits full at us st (to-wider (filled ft full) ts A B (at + size p) h l) e;
  }

  pub has-exit : (line k : ℕ) (ts : List ValueType) (assigned : List ℕ) (to : Shape) (exits : List Shape)
      → Reaches exits ts assigned k → Has types ft (Piece.Exit line k) (shape ts assigned) to exits
  has-exit line k ts A to exits r = record {
    shapes = shape ts A ∷ [];
    long = refl;
    enters = λ full at st l. stands-to full (shape ts A) at st.0;
    fits = λ full at us st l e. ((shape ts A, st.0, reached (filled ft full) exits us ts A k r e), tt);
  }

  pub has-unless : (line k : ℕ) (ts : List ValueType) (assigned : List ℕ) (exits : List Shape)
      → Reaches exits ts assigned k → Has types ft (Piece.Unless line k) (shape (ValueType.Bool ∷ ts) assigned)
      (shape ts assigned) exits
  has-unless line k ts A exits r = record {
    shapes = shape (ValueType.Bool ∷ ts) A ∷ [];
    long = refl;
    enters = λ full at st l. stands-to full (shape (ValueType.Bool ∷ ts) A) at st.0;
    fits = λ full at us st l e. (
      (
        shape (ValueType.Bool ∷ ts) A,
        st.0,
        (ts, refl, l, reached (filled ft full) exits us ts A k r e),
      ),
      tt,
    );
  }

  pub has-choose : (line : ℕ) (cases : List SelectCase) (otherwise : Option ℕ) (below ts : List ValueType)
      (assigned : List ℕ) (to : Shape) (exits : List Shape)
      → CasesReach exits assigned below cases below ts → DefaultReaches exits assigned below otherwise
      → Has types ft (Piece.Choose line cases otherwise) (shape ts assigned) to exits
  has-choose line cases otherwise below ts A to exits c d = record {
    shapes = shape ts A ∷ [];
    long = refl;
    enters = λ full at st l. stands-to full (shape ts A) at st.0;
    fits = λ full at us st l e. (
      (
        shape ts A,
        st.0,
        (
          below,
          cases-reached (filled ft full) exits us A below cases below ts c e,
          default-reached (filled ft full) exits us A below otherwise d e,
        ),
      ),
      tt,
    );
  }

  pub has-block : (p : Piece) (from to : Shape) (exits : List Shape) → Has types ft p from to (to ∷ exits)
      → Has types ft (Piece.Block p) from to exits
  has-block p from to exits h = record {
    shapes = h.shapes;
    long = h.long;
    enters = h.enters;
    fits = λ full at ts st l e. h.fits full at ((at + size p) ∷ ts) st l (l, e);
  }

  pub has-again : (p : Piece) (from to : Shape) (exits : List Shape) → Has types ft p from to (from ∷ exits)
      → Has types ft (Piece.Again p) from to exits
  has-again p from to exits h = record {
    shapes = h.shapes;
    long = h.long;
    enters = h.enters;
    fits = λ full at ts st l e. h.fits full at (at ∷ ts) st l (h.enters full at st l, e);
  }

pub pieces-have-shapes : PiecesHaveShapes
pieces-have-shapes types ft = record {
  empty = has-empty types ft;
  op = has-op types ft;
  then = has-then types ft;
  exit = has-exit types ft;
  unless = has-unless types ft;
  choose = has-choose types ft;
  block = has-block types ft;
  again = has-again types ft;
  weaker = has-weaker types ft;
}
