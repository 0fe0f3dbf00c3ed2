-- Bodies that end fit their types.
-- For: `bodies_fit`, src/lib.rt; `StopsAfter`, specs/Has.antt
-- By: cases of how a body ends; induction over the list of lines of code
use Rattle.std.proofs.Common.{◌≡◌, ℕ, zero, suc, ◌+◌, ◌<◌, List, [], ◌∷◌, ◌++◌, Option, Some, refl, ap, ◌∙◌, sym, subst}
use Rattle.std.proofs.Common.{slice_get, arith, length, length-append}
use Rattle.golf_theory.specs.Membership.{In}
use Rattle.golf_theory.proofs.Lists.{Every-weaker, Every-at}
use Rattle.golf_data.specs.declared.code.Instr.{Instr}
use Rattle.golf_data.specs.declared.code.CodeLine.{CodeLine}
use Rattle.golf_model_typing.specs.Types.{Shape, FunctionTypes, Types, with_shapes}
use Rattle.golf_model_typing.specs.Shapes.{InstructionFits}
use Rattle.golf_code_layout.specs.Piece.{Piece, size, placed}
use Rattle.golf_code_layout.proofs.Sizes.{placed-size}
use Rattle.golf_code_shapes.specs.Has.{filled, ShapesStand, Fit, Has, StopsAfter}
use Rattle.golf_code_shapes.specs.LayoutLaws.{BodiesFit}
use Rattle.golf_code_shapes.proofs.Pieces.{stand-left, stand-right, fit-append, stands-to}

module _ (types : Types) (ft : FunctionTypes) where
  pub ends-op : (i : Instr) (line : ℕ) (from : Shape)
      → ((full : List Shape) (k : ℕ) → InstructionFits types (filled ft full) k i from)
      → StopsAfter types ft (Piece.Op i line) from
  ends-op i line from r = record {
    shapes = from ∷ [];
    long = refl;
    enters = λ full at st. stands-to types ft full from at st.0;
    fits = λ full at st. ((from, st.0, r full at), tt);
  }

  -- a piece, and one that ends
  pub ends-then : (p q : Piece) (from mid : Shape) → Has types ft p from mid [] → StopsAfter types ft q mid
      → StopsAfter types ft (Piece.Then p q) from
  ends-then p q from mid hp hq = record {
    shapes = hp.shapes ++ hq.shapes;
    long = (let e = length-append hp.shapes hq.shapes in let f = hp.long in let g = hq.long in omega (arith, e, f, g));
    enters = λ full at st. hp.enters full at (stand-left full at hp.shapes hq.shapes st)
        (hq.enters full (at + size p) (right full at st));
    fits = λ full at st.
        let s = placed-size p at [] in
        fit-append types (filled ft full) at (at + size p) (placed p at []) (placed q (at + size p) [])
        (omega (arith, s))
        (hp.fits full at [] (stand-left full at hp.shapes hq.shapes st)
        (hq.enters full (at + size p) (right full at st)) tt) (hq.fits full (at + size p) (right full at st));
  }
    where
      right : (full : List Shape) (at : ℕ) → ShapesStand full at (hp.shapes ++ hq.shapes)
          → ShapesStand full (at + size p) hq.shapes
      right full at st = let f = hp.long in stand-right full at (at + size p) hp.shapes hq.shapes (omega (arith, f)) st

  -- nothing stands after it
  pub ends-last : (p : Piece) (from : Shape) → StopsAfter types ft p from
      → StopsAfter types ft (Piece.Then p Piece.Empty) from
  ends-last p from h = record {
    shapes = h.shapes;
    long = (let e = h.long in omega (arith, e));
    enters = h.enters;
    fits = λ full at st. let s = placed-size p at [] in fit-append types (filled ft full) at (at + size p)
        (placed p at []) [] (omega (arith, s)) (h.fits full at st) tt;
  }

stand-whole : (xs ys : List Shape) (n : ℕ) → n ≡ length xs → ShapesStand (xs ++ ys) n ys
stand-whole xs [] n e = tt
stand-whole xs (y ∷ ys) n e = (
  at-length xs y ys n e,
  subst (λ zs. ShapesStand zs (n + 1) ys) (seam xs y ys)
      (stand-whole (xs ++ y ∷ []) ys (n + 1) (let f = length-append xs (y ∷ []) in omega (arith, e, f))),
)
  where
    at-length : (xs : List Shape) (y : Shape) (ys : List Shape) (n : ℕ) → n ≡ length xs
        → slice_get (xs ++ y ∷ ys) n ≡ Some y
    at-length [] y ys n e = subst (λ k. slice_get (y ∷ ys) k ≡ Some y) (sym e) refl
    at-length (x ∷ xs) y ys zero e = absurd (omega (arith, e))
    at-length (x ∷ xs) y ys (suc n) e = at-length xs y ys n (omega (arith, e))

    seam : (xs : List Shape) (y : Shape) (ys : List Shape) → (xs ++ y ∷ []) ++ ys ≡ xs ++ y ∷ ys
    seam [] y ys = refl
    seam (x ∷ xs) y ys = ap (λ zs. x ∷ zs) (seam xs y ys)

-- what fits at a place, line by line
fit-at : (types : Types) (ft : FunctionTypes) (ls : List CodeLine) (at k : ℕ) → k < length ls → Fit types ft at ls
    → (l : CodeLine) × (sh : Shape) × (slice_get ls k ≡ Some l) × (slice_get ft.shapes (at + k) ≡ Some sh)
    × InstructionFits types ft (at + k) l.instr sh
fit-at types ft [] at k lt h = absurd (omega (arith, lt))
fit-at types ft (l ∷ ls) at zero lt h = (
  l,
  h.0.0,
  refl,
  subst (λ n. slice_get ft.shapes n ≡ Some h.0.0) (omega arith) h.0.1,
  subst (λ n. InstructionFits types ft n l.instr h.0.0) (omega arith) h.0.2,
)
fit-at types ft (l ∷ ls) at (suc k) lt h =
    let r = fit-at types ft ls (at + 1) k (omega (arith, lt)) h.1 in (
      r.0,
      r.1,
      r.2,
      subst (λ n. slice_get ft.shapes n ≡ Some r.1) (omega arith) r.3,
      subst (λ n. InstructionFits types ft n r.0.instr r.1) (omega arith) r.4,
    )

within-length : {X : Type 0} (xs : List X) (k : ℕ) (x : X) → slice_get xs k ≡ Some x → k < length xs
within-length [] k x e = cc
within-length (y ∷ ys) zero x e = omega arith
within-length (y ∷ ys) (suc k) x e = let h = within-length ys k x e in omega (arith, h)

one_only : {X : Type 0} (m : Option X) (a b : X) → m ≡ Some a → m ≡ Some b → a ≡ b
one_only m a b e f = cc

pub bodies-fit : BodiesFit
bodies-fit types sig p assigned fn h params slots body =
    let ft = with_shapes sig [] in
    let full = h.shapes in
    let stand : ShapesStand full 0 full = stand-whole [] full 0 refl in
    let begins = h.enters full 0 stand in
    let fits = h.fits full 0 stand in
    let long = h.long in
    let sized = placed-size p 0 [] in (
      full,
      record {
        slots = slots;
        begins = (
          begins.0,
          begins.1,
          begins.2,
          Every-weaker (λ i. In i assigned) (λ i. i < length sig.params)
              (λ i m. Every-at (λ j. j < length sig.params) assigned i params m) begins.0.assigned begins.3,
        );
        each = λ k sh e.
            let inside = within-length full k sh e in
            let r = fit-at types (filled ft full) (placed p 0 []) 0 k (omega (arith, inside, long, sized)) fits in
            let here = subst (λ n. slice_get full n ≡ Some r.1) (omega arith) r.3 in
            let same : r.1 ≡ sh = one_only (slice_get full k) r.1 sh here e in (
              r.0,
              ap (λ ls. slice_get ls k) body ∙ r.2,
              subst (λ z. InstructionFits types (filled ft full) k r.0.instr z) same
                  (subst (λ n. InstructionFits types (filled ft full) n r.0.instr r.1) (omega arith) r.4),
            );
      },
    )
