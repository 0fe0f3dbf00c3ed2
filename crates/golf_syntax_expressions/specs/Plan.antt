-- Readers that ask each other, and what they find.
use Rattle.std.specs.Prelude.{ℕ, zero, suc, List, [], ◌∷◌, Option, Some, None, option_and_then}
use Rattle.std.specs.Borrow.{Bor}

infixl 10 ◌>>=◌
abbrev pub ◌>>=◌ : {A B : Type 0} → Option A → (A → Option B) → Option B
o >>= f = option_and_then f o

-- How a reader goes on: it has found something or nothing, or it asks for what is read in a mode from these tokens.
pub data Plan (Token Mode : Type 0) (Node : Mode → Type 0) (A : Type 0) : Type 0 where
  Done : Option (A × List Token) → Plan Token Mode Node A
  Ask : (m : Mode) → List Token → (Node m × List Token → Plan Token Mode Node A) → Plan Token Mode Node A

-- what a plan finds, if each question gets the answer of `answer`
abbrev pub run : {Token Mode : Type 0} {Node : Mode → Type 0} {A : Type 0}
    → ((m : Mode) → List Token → Option (Node m × List Token)) → Plan Token Mode Node A → Option (A × List Token)
run answer (Done found) = found
run answer (Ask m ts more) = answer m ts >>= λ x. run answer (more x)

-- what is found within n rounds of questions
abbrev pub reads : {Token Mode : Type 0} {Node : Mode → Type 0}
    → ((m : Mode) → List Token → Plan Token Mode Node (Node m)) → ℕ → (m : Mode) → List Token
    → Option (Node m × List Token)
reads plan zero m ts = None
reads plan (suc n) m ts = run (reads plan n) (plan m ts)

-- a plan goes on with the value, or finds nothing if there is none
abbrev pub given : {Token Mode : Type 0} {Node : Mode → Type 0} {A X : Type 0} → Option X → (X → Plan Token Mode Node A)
    → Plan Token Mode Node A
given None more = Done None
given (Some x) more = more x

-- what is found by the next move of a reader, if there is one
abbrev pub moved_by : {Move Rest X : Type 0} → (Move → Rest → Option X) → Option (Move × Bor Rest) → Option X
moved_by move_at o = o >>= λ x. move_at x.0 x.1.now

-- what is found once all waiting constructs have theirs, the last one first
abbrev pub waited_by : {Pending X : Type 0} → (Pending → X → Option X) → List Pending → Option X → Option X
waited_by pending_at [] o = o
waited_by pending_at (f ∷ fs) o = waited_by pending_at fs o >>= pending_at f
