-- What is printed, and panics with a text: their turns have changes, and keep types.
-- For: `prints` and `panics_with`, golf_model/specs/Turn.antt; `turns_keep_types`, src/lib.rt
-- By: induction over the values that are printed, with their types
use Rattle.std.proofs.Common.{◌≡◌, ℕ, List, [], ◌∷◌, ◌++◌, Option, Some, None, refl, ap, ◌∙◌, subst, arith}
use Rattle.std.specs.Fmt.{signed_decimal}
use Rattle.golf_theory.specs.Membership.{Every}
use Rattle.golf_data.specs.declared.value.Value.{Value}
use Rattle.golf_data.specs.declared.code.Code.{Code}
use Rattle.golf_data.specs.declared.code.Instr.{Instr}
use Rattle.golf_data.specs.declared.goroutine.PanicKind.{PanicKind}
use Rattle.golf_model.specs.Values.{bytes_of, bool_bytes, before, spaced_bytes, line_bytes}
use Rattle.golf_model.specs.State.{State}
use Rattle.golf_model.specs.Changes.{Change}
use Rattle.golf_model.specs.Actors.{Actor}
use Rattle.golf_model.specs.Turn.{prints, panics_with}
use Rattle.golf_model_typing.specs.Types.{ValueType, IsNilable, Shape, FunctionTypes, Typing, ValueFits, ValuesFit}
use Rattle.golf_model_typing.specs.Shapes.{pushed, IsPrintable, InstructionFits, HasShapes}
use Rattle.golf_model_typing.specs.WellTyped.{WellTyped}
use Rattle.golf_model_typing.proofs.Acting.{Proceeds, of-some, of-taking_one, of-text, ActorFits, proceeds-panics}
use Rattle.golf_model_typing.proofs.Acting.{proceeds-goes, taken}
use Rattle.golf_model_typing.proofs.Calls.{of-taking, slice_get-at}

-- what is printed is never nil
not-both : (t : ValueType) → IsPrintable t → IsNilable t → ⊥
not-both (ValueType.Struct k) p h = p
not-both ValueType.Mutex p h = p
not-both ValueType.Group p h = p
not-both ValueType.Rw p h = p
not-both ValueType.Cond p h = p
not-both (ValueType.Slice e) p h = p
not-both (ValueType.Chan e) p h = p
not-both _ p h = h

module _ (code : Code) (types : Typing) (shapes : HasShapes code types) (known : List (ℕ × ValueType)) (s : State)
    (w : WellTyped types known s) (a : Actor) (ft : FunctionTypes) (sh : Shape)
    (i : ActorFits types known s a ft sh) where
  abbrev Goes : List Change → Type 0
  Goes cs = Proceeds types known s cs

  -- what is printed
  some-bytes : (t : ValueType) (v : Value) → IsPrintable t → ValueFits types.of known v t → (bs : List ℕ)
      × (bytes_of code.texts v ≡ Some bs)
  some-bytes t (Value.Int n) p h = (signed_decimal n, refl)
  some-bytes t (Value.Bool b) p h = (bool_bytes b, refl)
  some-bytes t (Value.Text k) p h = slice_get-at code.texts k
      (let e = shapes.texts in let l = h.1 in omega (arith, e, l))
  some-bytes t Value.Unit p h = absurd (subst IsPrintable h p)
  some-bytes t Value.Nil p h = absurd (not-both t p h)
  some-bytes t (Value.Ref o) p h = absurd (not-both t p h.1)

  joined : (m n : Option (List ℕ)) (xs ys : List ℕ) → m ≡ Some xs → n ≡ Some ys → before m n ≡ Some (xs ++ ys)
  joined None n xs ys e f = cc
  joined (Some x) None xs ys e f = cc
  joined (Some x) (Some y) xs ys e f = let a : x ≡ xs = cc in let b : y ≡ ys = cc in ap (λ z. Some (z ++ y)) a
      ∙ ap (λ z. Some (xs ++ z)) b

  some-spaced : (ts : List ValueType) (vs : List Value) → Every IsPrintable ts → ValuesFit types.of known vs ts
      → (bs : List ℕ) × (spaced_bytes code.texts vs ≡ Some bs)
  some-spaced [] [] p h = (10 ∷ [], refl)
  some-spaced [] (v ∷ vs) p h = absurd h
  some-spaced (t ∷ ts) [] p h = absurd h
  some-spaced (t ∷ ts) (v ∷ vs) p h =
      let x = some-bytes t v p.0 h.0 in
      let y = some-spaced ts vs p.1 h.1 in (
        32 ∷ (x.0 ++ y.0),
        joined (Some (32 ∷ [])) (before (bytes_of code.texts v) (spaced_bytes code.texts vs))
            (32 ∷ []) (x.0 ++ y.0) refl (joined (bytes_of code.texts v) (spaced_bytes code.texts vs) x.0 y.0 x.1 y.1),
      )

  some-line : (ts : List ValueType) (vs : List Value) → Every IsPrintable ts → ValuesFit types.of known vs ts
      → (bs : List ℕ) × (line_bytes code.texts vs ≡ Some bs)
  some-line [] [] p h = (10 ∷ [], refl)
  some-line [] (v ∷ vs) p h = absurd h
  some-line (t ∷ ts) [] p h = absurd h
  some-line (t ∷ ts) (v ∷ vs) p h =
      let x = some-bytes t v p.0 h.0 in
      let y = some-spaced ts vs p.1 h.1 in
      (x.0 ++ y.0, joined (bytes_of code.texts v) (spaced_bytes code.texts vs) x.0 y.0 x.1 y.1)

  pub proceeds-prints : (n : ℕ) → InstructionFits types.of ft a.frame.at (Instr.Print n) sh → Goes (prints code a n)
  proceeds-prints n r = of-taking types known Goes r.0 r.1 n a.frame.operands _ r.2
      (taken types known s a ft sh i (pushed r.0 r.1) r.4) (λ xs rest hx hs.
      let l = some-line r.0 xs r.3 hx in
      of-some types known s Goes _ (line_bytes code.texts xs) l.0 l.1
      (record { moves = refl; keeps = (tt, (proceeds-goes types known s a ft sh i rest r.1 hs r.5).keeps) }))

  pub proceeds-panics_with : InstructionFits types.of ft a.frame.at Instr.Panic sh → Goes (panics_with a)
  proceeds-panics_with r = of-taking_one types known s Goes _ a.frame.operands ValueType.Text r.0
      (taken types known s a ft sh i (ValueType.Text ∷ r.0) r.1) i.present
      (λ x rest h hs p. of-text types known s Goes _ x h
      (λ k. proceeds-panics types known s a ft (PanicKind.Custom k) i.holds))
