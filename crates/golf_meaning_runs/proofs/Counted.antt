-- An answer that leads to a place whose shape the frame has, has as many values as its operation leaves.
-- For: `Asking`, golf_meaning_runs/specs/TurnsInLives.antt.
-- By: cases of whether there are shapes; no induction.
use Rattle.std.proofs.Common.{◌≡◌, ℕ, ◌+◌, true, false, List, length, Option, Some, None, refl, ap, sym, ◌∙◌, subst}
use Rattle.std.proofs.Common.{slice_get}
use Rattle.std.proofs.lemmas.Bool.{eq-eqb}
use Rattle.golf_data.specs.declared.value.Value.{Value}
use Rattle.golf_data.specs.declared.code.CodeLine.{CodeLine}
use Rattle.golf_data.specs.declared.code.Function.{Function}
use Rattle.golf_data.specs.declared.code.Instr.{Instr}
use Rattle.golf_data.specs.declared.code.SelectCase.{SelectCase}
use Rattle.golf_data.specs.Effects.{taken, left, cases_taken}
use Rattle.golf_model_typing.specs.Types.{Shape, ValuesFit}
use Rattle.golf_model_typing.specs.Shapes.{InstructionFits}
use Rattle.golf_meaning_flat.specs.Worlds.{pushed}
use Rattle.golf_meaning_flat.specs.Counts.{is_so_many, is_counted}
use Rattle.golf_meaning_flat.specs.InstructionEffects.{Frame}
use Rattle.golf_meaning_flat.specs.Flat.{targets, lower, clause_of}
use Rattle.golf_meaning_runs.specs.FrameShapes.{Shaping, IsShaped, FitsShaping, giving, giving_by}
use Rattle.golf_meaning_runs.specs.FlatSteps.{is_inner}
use Rattle.golf_meaning_runs.specs.TurnsInLives.{answer, choice_of}
use Rattle.golf_meaning_runs.proofs.AnswerCounts.{plain-counted, plain-left, choice-counted}

same-line : (x y : CodeLine) (m : Option CodeLine) → m ≡ Some x → m ≡ Some y → x ≡ y
same-line x y m a b = cc

module _ (fn : Function) (l : CodeLine) (at : ℕ) (c d : Frame) (vs values rest : List Value)
    (is : slice_get fn.body at ≡ Some l) (given : c.operands ≡ pushed vs rest)
    (gets : d.operands ≡ pushed values rest) where
  -- the instruction fits the shape of its place
  fits-here : (s : Shaping) (h : FitsShaping fn (Some s)) (good : IsShaped (Some s) at c)
      → InstructionFits s.types h.0 at l.instr good.0
  fits-here s h good =
      let f = h.2.each at good.0 (ap (λ (ss : List Shape). slice_get ss at) h.1 ∙ good.1) in
      subst (λ (z : CodeLine). InstructionFits s.types h.0 at z.instr good.0)
      (same-line f.0 l (slice_get fn.body at) f.1 is) f.2

  pub plain-answer : (shaping : Option Shaping) → FitsShaping fn shaping → IsShaped shaping at c
      → IsShaped shaping (at + 1) d → is_inner l.instr ≡ false
      → ((cases : List SelectCase) (otherwise : Option ℕ) → l.instr ≡ Instr.Select cases otherwise → ⊥)
      → (l.instr ≡ Instr.Panic → ⊥) → length vs ≡ taken l.instr
      → is_counted (giving_by shaping) l.instr (answer 0 values) ≡ true
  plain-answer None h good there visible ns np many = absurd h
  plain-answer (Some s) h good there visible ns np many =
      let count = plain-counted s.types s.known h.0 good.0 there.0 vs values rest
      (subst (λ os. ValuesFit s.types s.known os good.0.operands) given good.2)
      (subst (λ os. ValuesFit s.types s.known os there.0.operands) gets there.2)
      at (ap (λ (ss : List Shape). slice_get ss (at + 1)) h.1 ∙ there.1) l.instr visible ns np
      (fits-here s h good) many in
      ap (λ m. is_so_many m (length values)) (plain-left (giving s.types) l.instr 0 ns)
      ∙ eq-eqb (left (giving s.types) l.instr) (length values) (sym count)

  -- a choice, whose answer names the clause that begins there
  pub choice-answer : (cases : List SelectCase) (otherwise : Option ℕ) (clause to : ℕ)
      → l.instr ≡ Instr.Select cases otherwise → (shaping : Option Shaping) → FitsShaping fn shaping
      → IsShaped shaping at c → IsShaped shaping to d → length vs ≡ cases_taken cases
      → clause_of (lower (targets cases otherwise)) clause cases otherwise ≡ Some to
      → is_counted (giving_by shaping) (choice_of cases otherwise) (answer clause values) ≡ true
  choice-answer cases otherwise clause to same None h good there many leads = absurd h
  choice-answer cases otherwise clause to same (Some s) h good there many leads =
      let count = choice-counted s.types s.known h.0 good.0 there.0 vs values rest
      (subst (λ os. ValuesFit s.types s.known os good.0.operands) given good.2)
      (subst (λ os. ValuesFit s.types s.known os there.0.operands) gets there.2)
      at clause to cases otherwise (subst (λ i. InstructionFits s.types h.0 at i good.0) same (fits-here s h good)) many
      leads (ap (λ (ss : List Shape). slice_get ss to) h.1 ∙ there.1) in
      ap (λ m. is_so_many m (length values)) count ∙ eq-eqb (length values) (length values) refl
