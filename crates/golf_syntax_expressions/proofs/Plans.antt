-- Readers that ask only for less than they were given find what their plans say.
-- For: `reads` and `run`, golf_syntax_expressions/specs/Plan.antt.
-- By: induction over the plan, and over how deep reading may go; over the list of what waits.
use Rattle.std.proofs.Common.{◌≡◌, ℕ, zero, suc, ◌+◌, ◌≤◌, ◌<◌, List, [], ◌∷◌, ◌++◌, length, refl, ap, subst, ◌∙◌}
use Rattle.std.proofs.Common.{arith}
use Rattle.std.specs.Prelude.{Option, Some, None, MatchOption}
use Rattle.golf_syntax_expressions.specs.Plan.{◌>>=◌, Plan, Done, Ask, run, reads, given, waited_by}

pub bind_some : {A B : Type 0} (o : Option A) (f : A → Option B) (y : B) → (o >>= f) ≡ Some y → (x : A) × (o ≡ Some x)
    × (f x ≡ Some y)
bind_some None f y e = cc
bind_some (Some x) f y e = (x, refl, e)

pub bind-assoc : {A B C : Type 0} (o : Option A) (f : A → Option B) (g : B → Option C)
    → ((o >>= f) >>= g) ≡ (o >>= λ x. f x >>= g)
bind-assoc None f g = refl
bind-assoc (Some x) f g = refl

pub bind-same : {A B : Type 0} (o : Option A) (f g : A → Option B) → ((x : A) → f x ≡ g x) → (o >>= f) ≡ (o >>= g)
bind-same None f g k = refl
bind-same (Some x) f g k = k x

-- the last of those that wait goes on first
pub waits-last : {Pending X : Type 0} (pending_at : Pending → X → Option X) (fs : List Pending) (f : Pending)
    (o : Option X) → waited_by pending_at (fs ++ f ∷ []) o ≡ waited_by pending_at fs (o >>= pending_at f)
waits-last pending_at [] f o = refl
waits-last pending_at (g ∷ fs) f o = ap (λ q. q >>= pending_at g) (waits-last pending_at fs f o)

pub waits-none : {Pending X : Type 0} (pending_at : Pending → X → Option X) (fs : List Pending)
    → waited_by pending_at fs None ≡ None
waits-none pending_at [] = refl
waits-none pending_at (g ∷ fs) = ap (λ q. q >>= pending_at g) (waits-none pending_at fs)

-- what is found leaves so much less than there was
abbrev pub Leaves : {A Token : Type 0} → ℕ → ℕ → Option (A × List Token) → Type 0
Leaves gap all None = Unit {0}
Leaves gap all (Some x) = length x.1 + gap ≤ all

leaves-behind : {A B Token : Type 0} (h full g all : ℕ) (f : A × List Token → Option (B × List Token))
    (o : Option (A × List Token)) → Leaves h full o
    → ((x : A × List Token) → length x.1 + h ≤ full → Leaves g all (f x)) → Leaves g all (o >>= f)
leaves-behind h full g all f None l k = tt
leaves-behind h full g all f (Some x) l k = k x l

same-behind : {A B Token : Type 0} (h full : ℕ) (f g : A × List Token → Option (B × List Token))
    (o : Option (A × List Token)) → Leaves h full o → ((x : A × List Token) → length x.1 + h ≤ full → f x ≡ g x)
    → (o >>= f) ≡ (o >>= g)
same-behind h full f g None l k = refl
same-behind h full f g (Some x) l k = k x l

-- A plan asks only for what is smaller, and leaves so much less than there was.
abbrev pub Within : {Token Mode : Type 0} {Node : Mode → Type 0} {A : Type 0} → (Mode → List Token → ℕ) → (Mode → ℕ) → ℕ
    → ℕ → ℕ → Plan Token Mode Node A → Type 0
Within size gap bound g all (Done found) = Leaves g all found
Within size gap bound g all (Ask m ts more) = (size m ts < bound)
    × ((x : _) → length x.1 + gap m ≤ length ts → Within size gap bound g all (more x))

-- A plan keeps a property of what is read.
abbrev pub Keeps : {Token Mode : Type 0} {Node : Mode → Type 0} {A : Type 0}
    → ((m : Mode) → List Token → Node m × List Token → Type 0) → (A × List Token → Type 0) → Plan Token Mode Node A
    → Type 0
Keeps P Q (Done found) = MatchOption found (Unit {0}) Q
Keeps P Q (Ask m ts more) = (x : _) → P m ts x → Keeps P Q (more x)

module _ (Token Mode : Type 0) (Node : Mode → Type 0)
    (plan : (m : Mode) → List Token → Plan Token Mode Node (Node m)) where
  -- an induction over what is read
  module _ (P : (m : Mode) → List Token → Node m × List Token → Type 0)
      (keeps : (m : Mode) (ts : List Token) → Keeps P (P m ts) (plan m ts)) where
    run-keeps : (A : Type 0) (Q : A × List Token → Type 0) (n : ℕ)
        (ih : (m : Mode) (ts : List Token) (x : Node m × List Token) → reads plan n m ts ≡ Some x → P m ts x)
        (p : Plan Token Mode Node A) → Keeps P Q p → (x : A × List Token) → run (reads plan n) p ≡ Some x → Q x
    run-keeps A Q n ih (Done None) k x e = absurd (never x e)
      where
        never : (x : A × List Token) → ◌≡◌ {A = Option (A × List Token)} None (Some x) → ⊥
        never x e = cc
    run-keeps A Q n ih (Done (Some y)) k x e = let same : y ≡ x = cc in subst Q same k
    run-keeps A Q n ih (Ask m ts more) k x e =
        let b = bind_some (reads plan n m ts) (λ y. run (reads plan n) (more y)) x e in
        run-keeps A Q n ih (more b.0) (k b.0 (ih m ts b.0 b.1)) x b.2

    pub reads-keeps : (n : ℕ) (m : Mode) (ts : List Token) (x : Node m × List Token) → reads plan n m ts ≡ Some x
        → P m ts x
    reads-keeps zero m ts x e = absurd (never x e)
      where
        never : (x : Node m × List Token) → ◌≡◌ {A = Option (Node m × List Token)} None (Some x) → ⊥
        never x e = cc
    reads-keeps (suc n) m ts x e = run-keeps (Node m) (P m ts) n (reads-keeps n) (plan m ts) (keeps m ts) x e

  module _ (size : Mode → List Token → ℕ) (gap : Mode → ℕ)
      (fits : (m : Mode) (ts : List Token) → Within size gap (size m ts) (gap m) (length ts) (plan m ts)) where
    leaves-run : (A : Type 0) (bound g all n : ℕ)
        (ih : (m : Mode) (ts : List Token) → Leaves (gap m) (length ts) (reads plan n m ts))
        (p : Plan Token Mode Node A) → Within size gap bound g all p → Leaves g all (run (reads plan n) p)
    leaves-run A bound g all n ih (Done found) w = w
    leaves-run A bound g all n ih (Ask m ts more) w =
        leaves-behind (gap m) (length ts) g all (λ x. run (reads plan n) (more x)) (reads plan n m ts) (ih m ts)
        (λ x l. leaves-run A bound g all n ih (more x) (w.1 x l))

    leaves : (n : ℕ) (m : Mode) (ts : List Token) → Leaves (gap m) (length ts) (reads plan n m ts)
    leaves zero m ts = tt
    leaves (suc n) m ts = leaves-run (Node m) (size m ts) (gap m) (length ts) n (leaves n) (plan m ts) (fits m ts)

    -- two answers that agree on what is smaller
    same-run : (A : Type 0) (bound g all n : ℕ) (other : (m : Mode) (ts : List Token) → Option (Node m × List Token))
        (agree : (m : Mode) (ts : List Token) → size m ts < bound → reads plan n m ts ≡ other m ts)
        (p : Plan Token Mode Node A) → Within size gap bound g all p → run (reads plan n) p ≡ run other p
    same-run A bound g all n other agree (Done found) w = refl
    same-run A bound g all n other agree (Ask m ts more) w =
        same-behind (gap m) (length ts) (λ x. run (reads plan n) (more x)) (λ x. run other (more x)) (reads plan n m ts)
        (leaves n m ts) (λ x l. same-run A bound g all n other agree (more x) (w.1 x l))
        ∙ ap (λ o. o >>= λ x. run other (more x)) (agree m ts w.0)

    stable : (bound n k : ℕ) (m : Mode) (ts : List Token) → size m ts < bound → size m ts < n → size m ts < k
        → reads plan n m ts ≡ reads plan k m ts
    stable zero n k m ts b hn hk = absurd (omega arith)
    stable (suc bound) zero k m ts b hn hk = absurd (omega arith)
    stable (suc bound) (suc n) zero m ts b hn hk = absurd (omega arith)
    stable (suc bound) (suc n) (suc k) m ts b hn hk =
        same-run (Node m) (size m ts) (gap m) (length ts) n (reads plan k)
        (λ q us less. stable bound n k q us (omega arith) (omega arith) (omega arith)) (plan m ts) (fits m ts)

    -- what is read in as many rounds as that takes
    abbrev pub whole : (m : Mode) (ts : List Token) → Option (Node m × List Token)
    whole m ts = reads plan (suc (size m ts)) m ts

    -- what is read is what the plan finds
    pub whole-is : (m : Mode) (ts : List Token) → whole m ts ≡ run whole (plan m ts)
    whole-is m ts =
        same-run (Node m) (size m ts) (gap m) (length ts) (size m ts) whole
        (λ q us less. stable (suc (size q us)) (size m ts) (suc (size q us)) q us (omega arith) less (omega arith))
        (plan m ts) (fits m ts)

    pub whole-leaves : (m : Mode) (ts : List Token) → Leaves (gap m) (length ts) (whole m ts)
    whole-leaves m ts = leaves (suc (size m ts)) m ts

-- what is given keeps what its uses keep
pub within-given : {Token Mode : Type 0} {Node : Mode → Type 0} {A X : Type 0} (size : Mode → List Token → ℕ)
    (gap : Mode → ℕ) (bound g all : ℕ) (o : Option X) (more : X → Plan Token Mode Node A) →
    ((x : X) → o ≡ Some x → Within size gap bound g all (more x)) → Within size gap bound g all (given o more)
within-given size gap bound g all None more k = tt
within-given size gap bound g all (Some x) more k = k x refl

pub keeps-given : {Token Mode : Type 0} {Node : Mode → Type 0} {A X : Type 0}
    (P : (m : Mode) → List Token → Node m × List Token → Type 0) (Q : A × List Token → Type 0) (o : Option X)
    (more : X → Plan Token Mode Node A) →
    ((x : X) → o ≡ Some x → Keeps P Q (more x)) → Keeps P Q (given o more)
keeps-given P Q None more k = tt
keeps-given P Q (Some x) more k = k x refl
