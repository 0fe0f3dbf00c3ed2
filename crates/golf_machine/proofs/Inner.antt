-- What instructions do that touch the innermost frame alone.
-- For: `Becomes` (golf_machine/specs/Within.antt) and `double`, `load`, `store` (src/within.rt)
-- By: cases of the operands on top; no induction
use Rattle.std.proofs.Common.{◌≡◌, ℕ, ◌+◌, Bool, List, [], ◌∷◌, Some, refl, sym}
use Rattle.std.proofs.Common.{ap, ◌∙◌}
use Rattle.std.specs.Prelude.{slice_get, slice_set}
use Rattle.golf_data.specs.declared.value.Value.{Value}
use Rattle.golf_model.specs.Views.{FrameView}
use Rattle.golf_model.specs.Changes.{Change}
use Rattle.golf_model.specs.Actors.{Actor, stands, next, goes, taking_two}
use Rattle.golf_model.specs.Arithmetic.{stores, drops, doubles_two}
use Rattle.golf_model.specs.Turn.{acting}
use Rattle.golf_state.specs.FrameChanges.{went}
use Rattle.golf_state.specs.Operands.{two_of}
use Rattle.golf_machine.proofs.TurnLaws.{first-is}
use Rattle.golf_machine.specs.Within.{Becomes, ActsAs, HasTriedWithin}
use Rattle.golf_machine.specs.declared.within.Within.{Within}

-- an act that gives the same changes is done alike
pub done-same : (b : Bool) (came : Within) (act other : Actor → List Change) (f h : FrameView) → ActsAs other act f
    → HasTriedWithin b came act f h → HasTriedWithin b came other f h
done-same b Within.Done act other f h same d =
    record {
      stands = λ g r callers line. same g r callers line ∙ d.stands g r callers line;
      function = d.function;
      leaving = d.leaving;
    }
done-same b Within.ZeroDivisor act other f h same d =
    (d.0, λ g r callers line. same g r callers line ∙ d.1 g r callers line)
done-same b Within.Stuck act other f h same d = (d.0, λ g r callers line. same g r callers line ∙ d.1 g r callers line)
done-same b Within.Beyond act other f h same d = d

-- ---- instructions

module _ (f h : FrameView) where
  -- it stands with another frame of the same function
  becomes : (act : Actor → List Change) (k : FrameView)
      → ActsAs act (λ a. stands a k) f → h ≡ k → k.function ≡ f.function → k.leaving ≡ f.leaving → Becomes act f h
  becomes act k does is function leaving = record {
    stands = λ g r callers line. does g r callers line ∙ ap (stands (acting g r f callers line)) (sym is);
    function = ap (λ (x : FrameView). x.function) is ∙ function;
    leaving = ap (λ (x : FrameView). x.leaving) is ∙ leaving;
  }

pub drops-done : (f h : FrameView) (v : Value) → Some v ≡ slice_get f.operands 0 → h ≡ went (f.at + 1) 1 [] f
    → Becomes drops f h
drops-done f h v e is = becomes f h drops (went (f.at + 1) 1 [] f)
    (λ g r callers line. rw (first-is f.operands v e)) is refl refl

pub stores-done : (f h : FrameView) (i : ℕ) (v old : Value) (rest : List Value) → f.operands ≡ v ∷ rest
    → slice_get f.slots i ≡ Some old → h ≡ record f { at = f.at + 1; slots = slice_set f.slots i v; operands = rest }
    → Becomes (λ a. stores a i) f h
stores-done f h i v old rest e s is = becomes f h (λ a. stores a i)
    (record f { at = f.at + 1; slots = slice_set f.slots i v; operands = rest })
    (λ g r callers line. rw (e, s)) is refl refl

twice : (os : List Value) (x y : Value) (act : List Value → List Change) → Some (x, y) ≡ two_of os
    → taking_two (λ v w rest. act (w ∷ v ∷ w ∷ v ∷ rest)) os ≡ act (y ∷ x ∷ os)
twice [] x y act h = cc
twice (w ∷ []) x y act h = cc
twice (w ∷ v ∷ os) x y act h = let e : ◌≡◌ {A = Value × Value} (x, y) (v, w) = cc in
    ap (λ (p : Value × Value). act (p.1 ∷ p.0 ∷ w ∷ v ∷ os)) (sym e)

-- two values more
pub doubled-two : (f h : FrameView) (x y : Value) → Some (x, y) ≡ two_of f.operands → h ≡ next f (y ∷ x ∷ f.operands)
    → Becomes doubles_two f h
doubled-two f h x y e is = becomes f h doubles_two (next f (y ∷ x ∷ f.operands))
    (λ g r callers line. twice f.operands x y (λ os. goes (acting g r f callers line) os) e) is refl refl
