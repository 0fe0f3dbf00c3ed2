-- What a turn tells.
-- For: `advance`, src/turns.rt
-- By: cases of what the turn came to; no induction
use Rattle.std.proofs.Common.{◌≡◌, ℕ, Bool, true, false, Option, Some, None, ◌⊎◌, inl, inr, refl, sym, ap, ◌∙◌}
use Rattle.golf_data.specs.declared.code.Code.{Code}
use Rattle.golf_data.specs.declared.goroutine.Ending.{Ending}
use Rattle.golf_model.specs.State.{State, ending}
use Rattle.golf_model.specs.Turn.{step, wants_collection}
use Rattle.golf_machine.specs.Turns.{turned_of}
use Rattle.golf_machine.specs.declared.turns.Turned.{Turned}
use Rattle.golf_machine.specs.declared.turns.Turned.TheVariants as t
use Rattle.golf_model_futures.proofs.OrderedCollecting.{collecting-goes}

silent-end : (code : Code) (s : State) (k : ℕ) (b : Bool) (e : Ending) → wants_collection code s k ≡ b → ending s ≡ None
    → ending (step code s k) ≡ Some e → wants_collection code s k ≡ false
silent-end code s k true e w goes h = let n = collecting-goes code s k goes w in cc
silent-end code s k false e w goes h = w

loud-by : (turned : Turned) (o : Option Ending) (b : Bool) → turned ≡ t.WantsCollection → turned ≡ turned_of o b
    → b ≡ true
loud-by turned (Some e) b is h = let f : t.WantsCollection ≡ t.Ended e = sym is ∙ h in cc
loud-by turned None true is h = refl
loud-by turned None false is h = let f : t.WantsCollection ≡ t.Went = sym is ∙ h in cc

pub loud-turn : (turned : Turned) (code : Code) (s after : State) (k : ℕ) → turned ≡ t.WantsCollection
    → turned ≡ turned_of (ending after) (wants_collection code s k) → wants_collection code s k ≡ true
loud-turn turned code s after k is h = loud-by turned (ending after) (wants_collection code s k) is h

quiet-by : (turned : Turned) (o : Option Ending) (b : Bool) → (turned ≡ t.WantsCollection → ⊥) → turned ≡ turned_of o b
    → ((e : Ending) → o ≡ Some e → b ≡ false) → b ≡ false
quiet-by turned (Some e) b n h ends = ends e refl
quiet-by turned None true n h ends = absurd (n h)
quiet-by turned None false n h ends = refl

pub quiet-turn : (turned : Turned) (code : Code) (s after : State) (k : ℕ) → (turned ≡ t.WantsCollection → ⊥)
    → after ≡ step code s k → ending s ≡ None → turned ≡ turned_of (ending after) (wants_collection code s k)
    → wants_collection code s k ≡ false
quiet-turn turned code s after k n is goes h =
    quiet-by turned (ending after) (wants_collection code s k) n h
    (λ e f. silent-end code s k (wants_collection code s k) e refl goes (sym (ap ending is) ∙ f))

pub other-turn : (turned : Turned) → (turned ≡ t.Went) ⊎ ((x : Ending) × (turned ≡ t.Ended x))
    → turned ≡ t.WantsCollection → ⊥
other-turn turned (inl e) h = let f : t.Went ≡ t.WantsCollection = sym e ∙ h in cc
other-turn turned (inr (x, e)) h = let f : t.Ended x ≡ t.WantsCollection = sym e ∙ h in cc
