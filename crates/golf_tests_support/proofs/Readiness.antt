-- Code whose functions are all ready has places.
-- For: `HasSmallPlaces`, specs/Ready.antt
-- By: induction on the list of functions
use Rattle.std.specs.Prelude.{slice_get}
use Rattle.std.proofs.Common.{ℕ, zero, suc, List, [], ◌∷◌, All, Option, Some, None}
use Rattle.std.proofs.lemmas.List.Elements.{All-head, All-tail}
use Rattle.golf_data.specs.declared.code.Code.{Code}
use Rattle.golf_data.specs.Places.{IsShort, HasPlaces}
use Rattle.golf_tests_support.specs.Ready.{HasSmallPlaces}

-- what is so of each item, and of none, is so of what stands at a place
everywhere : {X : Type 0} (P : X → Type 0) (Q : Option X → Type 0) → Q None → ((x : X) → P x → Q (Some x))
    → (xs : List X) → All P xs → (k : ℕ) → Q (slice_get xs k)
everywhere P Q none some [] h k = none
everywhere P Q none some (x ∷ xs) h zero = some x (All-head P x xs h)
everywhere P Q none some (x ∷ xs) h (suc k) = everywhere P Q none some xs (All-tail P x xs h) k

pub ready_places : (code : Code) → All HasSmallPlaces code.functions → HasPlaces code
ready_places code each = everywhere HasSmallPlaces IsShort tt (λ f h. h) code.functions each
