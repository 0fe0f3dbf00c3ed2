-- Finalisers: their turns have changes, and keep types.
-- For: `finalises` and `unfinalises`, golf_model/specs/Finalisers.antt; `turns_keep_types`, src/lib.rt
-- By: cases of the object; no induction
use Rattle.std.proofs.Common.{ℕ, List, [], ◌∷◌, Option, Some, None, refl, sym, subst}
use Rattle.golf_theory.specs.Maps.{find}
use Rattle.golf_data.specs.declared.value.Value.{Value}
use Rattle.golf_data.specs.declared.code.Code.{Code}
use Rattle.golf_data.specs.declared.code.Instr.{Instr}
use Rattle.golf_data.specs.declared.goroutine.PanicKind.{PanicKind}
use Rattle.golf_model.specs.State.{State}
use Rattle.golf_model.specs.Changes.{Change}
use Rattle.golf_model.specs.Actors.{Actor}
use Rattle.golf_model.specs.Finalisers.{finalises, finalises_by, unfinalises}
use Rattle.golf_model_typing.specs.Types.{ValueType, Shape, FunctionTypes, Typing, HasType, ValuesFit}
use Rattle.golf_model_typing.specs.Shapes.{InstructionFits, HasShapes}
use Rattle.golf_model_typing.specs.WellTyped.{WellTyped}
use Rattle.golf_model_typing.proofs.Acting.{Proceeds, of-reference, of-reference_or, ActorFits, proceeds-panics}
use Rattle.golf_model_typing.proofs.Acting.{proceeds-dies, proceeds-goes, takes-one, of-any_struct}

module _ (code : Code) (types : Typing) (shapes : HasShapes code types) (known : List (ℕ × ValueType)) (s : State)
    (w : WellTyped types known s) (a : Actor) (ft : FunctionTypes) (sh : Shape)
    (i : ActorFits types known s a ft sh) where
  abbrev Goes : List Change → Type 0
  Goes cs = Proceeds types known s cs

  pub proceeds-finalises : (f : ℕ) → InstructionFits types.of ft a.frame.at (Instr.SetFinalizer f) sh
      → Goes (finalises a f s)
  proceeds-finalises f r = takes-one types known s a ft sh i (ValueType.Struct r.0) _ [] r.4
      (λ x rest h hs p. of-reference types known s Goes a _ x (ValueType.Struct r.0) tt h p
      (proceeds-panics types known s a ft PanicKind.NilPointer i.holds)
      (λ o k there. of-any_struct types known s Goes w o (ValueType.Struct r.0) k there _ r.0 refl
      (λ fields. go o rest hs k (find o s.finalisers))))
    where
      go : (o : ℕ) (rest : List Value) → ValuesFit types.of known rest r.4.0 → HasType known o (ValueType.Struct r.0)
          → (m : Option ℕ) → Goes (finalises_by a rest f o m)
      go o rest hs k None = record {
        moves = refl;
        keeps = (
          (
            r.1,
            r.2,
            subst (ValuesFit types.of known (Value.Ref (record { 0 = o }) ∷ [])) (sym r.3)
                ((k, tt), tt),
          ),
          (proceeds-goes types known s a ft sh i rest r.4.0 hs r.4.2).keeps,
        );
      }
      go o rest hs k (Some old) = proceeds-dies types known s a ft PanicKind.FinalizerSet

  pub proceeds-unfinalises : InstructionFits types.of ft a.frame.at Instr.ClearFinalizer sh → Goes (unfinalises a s)
  proceeds-unfinalises r = takes-one types known s a ft sh i (ValueType.Struct r.0) _ [] r.1
      (λ x rest h hs p. of-reference_or types known s Goes _ _ x (ValueType.Struct r.0) tt h p
      (proceeds-goes types known s a ft sh i rest r.1.0 hs r.1.2)
      (λ o k there. of-any_struct types known s Goes w o (ValueType.Struct r.0) k there _ r.0 refl
      (λ fields. record {
        moves = refl;
        keeps =
            (tt, (proceeds-goes types known s a ft sh i rest r.1.0 hs r.1.2).keeps);
      })))
