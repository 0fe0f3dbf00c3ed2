-- What is said of a halt is said of what follows from it.
-- For: `Said`, golf_meaning_flat/specs/Laws.antt.
-- By: cases of the halt; no induction.
use Rattle.golf_meaning_flat.specs.Worlds.{Misfit, Halt}
use Rattle.golf_meaning_flat.specs.Laws.{Said}

pub said : (h : Halt) (P : Type 0) → P → Said h P
said (Halt.Unfit Misfit.OfAnswer) P p = tt
said (Halt.Unfit Misfit.OfRule) P p = tt
said _ P p = p

pub said-as : (h : Halt) (P Q : Type 0) → Said h P → (P → Q) → Said h Q
said-as (Halt.Unfit Misfit.OfAnswer) P Q p f = tt
said-as (Halt.Unfit Misfit.OfRule) P Q p f = tt
said-as _ P Q p f = f p
