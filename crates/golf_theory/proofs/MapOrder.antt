-- The order of keys is kept by each operation.
-- For: `Rises` and `AllBelow`, specs/Maps.antt; `order_laws`, src/lib.rt
-- By: induction over the list of entries
use Rattle.std.proofs.Common.{ℕ, suc, ◌<◌, ◌≤◌, Bool, true, false, cond, List, [], ◌∷◌, arith}
use Rattle.golf_theory.specs.Maps.{put, add, only, map_values, Rises, AllBelow}

module _ {X : Type 0} where
  pub Rises-less : (j k : ℕ) (es : List (ℕ × X)) → j ≤ k → Rises k es → Rises j es
  Rises-less j k [] l r = tt
  Rises-less j k (e ∷ es) l r = (omega arith, r.1)

  pub Rises-put : (j g : ℕ) (v : X) (es : List (ℕ × X)) → Rises j es → Rises j (put g v es)
  Rises-put j g v [] r = tt
  Rises-put j g v (e ∷ es) r = (r.0, Rises-put (suc e.0) g v es r.1)

  pub Rises-add : (j g : ℕ) (v : X) (es : List (ℕ × X)) → j ≤ g → AllBelow g es → Rises j es → Rises j (add g v es)
  Rises-add j g v [] l a r = (l, tt)
  Rises-add j g v (e ∷ es) l a r = (r.0, Rises-add (suc e.0) g v es (omega arith) a.1 r.1)

  pub Rises-only : (j : ℕ) (p : ℕ → Bool) (es : List (ℕ × X)) → Rises j es → Rises j (only p es)
  Rises-only j p [] r = tt
  Rises-only j p (e ∷ es) r = elim (p e.0) as (λ b. Rises j (cond b (e ∷ only p es) (only p es))) [
    | true ↦ (r.0, Rises-only (suc e.0) p es r.1)
    | false ↦ Rises-less j (suc e.0) (only p es) (omega arith) (Rises-only (suc e.0) p es r.1)
  ]

  pub AllBelow-more : (m n : ℕ) (es : List (ℕ × X)) → m ≤ n → AllBelow m es → AllBelow n es
  AllBelow-more m n [] l a = tt
  AllBelow-more m n (e ∷ es) l a = (omega arith, AllBelow-more m n es l a.1)

  pub AllBelow-put : (n g : ℕ) (v : X) (es : List (ℕ × X)) → AllBelow n es → AllBelow n (put g v es)
  AllBelow-put n g v [] a = tt
  AllBelow-put n g v (e ∷ es) a = (a.0, AllBelow-put n g v es a.1)

  pub AllBelow-add : (n g : ℕ) (v : X) (es : List (ℕ × X)) → g < n → AllBelow n es → AllBelow n (add g v es)
  AllBelow-add n g v [] l a = (l, tt)
  AllBelow-add n g v (e ∷ es) l a = (a.0, AllBelow-add n g v es l a.1)

  pub AllBelow-only : (n : ℕ) (p : ℕ → Bool) (es : List (ℕ × X)) → AllBelow n es → AllBelow n (only p es)
  AllBelow-only n p [] a = tt
  AllBelow-only n p (e ∷ es) a = elim (p e.0) as (λ b. AllBelow n (cond b (e ∷ only p es) (only p es))) [
    | true ↦ (a.0, AllBelow-only n p es a.1)
    | false ↦ AllBelow-only n p es a.1
  ]

module _ {X Y : Type 0} (f : ℕ → X → Y) where
  pub Rises-map_values : (j : ℕ) (es : List (ℕ × X)) → Rises j es → Rises j (map_values f es)
  Rises-map_values j [] r = tt
  Rises-map_values j (e ∷ es) r = (r.0, Rises-map_values (suc e.0) es r.1)

  pub AllBelow-map_values : (n : ℕ) (es : List (ℕ × X)) → AllBelow n es → AllBelow n (map_values f es)
  AllBelow-map_values n [] a = tt
  AllBelow-map_values n (e ∷ es) a = (a.0, AllBelow-map_values n es a.1)
