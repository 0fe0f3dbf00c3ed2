-- The least set that is closed under a rule, computed: the list of its members, the newest first.
use Rattle.std.specs.Prelude.{ℕ, zero, suc, Bool, cond, List, [], ◌∷◌, length, Option, Some, None}

-- the picked item, with the passed item added to the rest
abbrev pub with_rest : {X : Type 0} → X → Option (X × List X) → Option (X × List X)
with_rest x None = None
with_rest x (Some p) = Some (p.0, x ∷ p.1)

-- the first item of the list that satisfies the test, and the other items
abbrev pub pick : {X : Type 0} → (X → Bool) → List X → Option (X × List X)
pick test [] = None
pick test (x ∷ xs) = cond (test x) (Some (x, xs)) (with_rest x (pick test xs))

-- goes on with the picked item, or stays if there is none
abbrev pub next_of : {X : Type 0} → (List X → List X → List X) → List X → Option (X × List X) → List X
next_of go_on got None = got
next_of go_on got (Some p) = go_on (p.0 ∷ got) p.1

-- the items got, and up to n more of the items left, each given by the rule from the items got before it
abbrev pub grown : {X : Type 0} → (List X → X → Bool) → ℕ → List X → List X → List X
grown rule zero got left = got
grown rule (suc n) got left = next_of (grown rule n) got (pick (rule got) left)

-- the candidates that the rule gives in the end
abbrev pub least : {X : Type 0} → (List X → X → Bool) → List X → List X
least rule candidates = grown rule (length candidates) [] candidates
