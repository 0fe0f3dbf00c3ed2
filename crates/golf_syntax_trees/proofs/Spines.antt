-- What a tree is by its spine, and how a spine grows at its end and is taken off there.
-- For: `spine`, src/left_operands.rt, and all that use it; specs/Spines.antt
-- By: induction over the spine
use Rattle.std.proofs.Common.{◌≡◌, ℕ, ◌≤◌, List, [], ◌∷◌, ◌++◌, refl, sym, ap, ◌∙◌, subst}
use Rattle.std.specs.Prelude.{Option, Some}
use Rattle.std.specs.Borrow.{Bor}
use Rattle.std.proofs.lemmas.List.{map-append}
use Rattle.golf_syntax_trees.specs.Spines.{shown, IsSpine, AreNoLarger, risen}

module _ {T : Type 0} where
  module _ (below : T → Option T) where
    -- what holds of each tree by the one below it holds of the whole by the innermost one
    pub along : {A : Type 0} (value : T → A) (raise : T → A → A)
        → ((e next : T) → below e ≡ Some next → value e ≡ raise e (value next)) → (e : T) (es : List T) (inner : T)
        → IsSpine below e es inner → risen raise es (value inner) ≡ value e
    along value raise splits e [] inner h = ap value (sym h)
    along value raise splits e (x ∷ xs) inner h =
        let next = h.1.0 in
        ap (raise x) (along value raise splits next xs inner h.1.1.1)
        ∙ (sym (splits x next h.1.1.0) ∙ ap value (sym h.0))

    -- a spine goes on with what is below its innermost one
    spine-last : (e : T) (es : List T) (inner next : T) → IsSpine below e es inner → below inner ≡ Some next
        → IsSpine below e (es ++ inner ∷ []) next
    spine-last e [] inner next h has = (h, (next, (has, refl)))
    spine-last e (x ∷ xs) inner next h has = (h.0, (h.1.0, (h.1.1.0, spine-last h.1.0 xs inner next h.1.1.1 has)))

  -- what each tree keeps comes to the whole
  pub kept_up : {A : Type 0} (P : A → Type 0) (raise : T → A → A) → ((e : T) (x : A) → P x → P (raise e x))
      → (es : List T) (x : A) → P x → P (risen raise es x)
  kept_up P raise keeps [] x h = h
  kept_up P raise keeps (e ∷ es) x h = keeps e (risen raise es x) (kept_up P raise keeps es x h)

  pub risen-last : {A : Type 0} (raise : T → A → A) (es : List T) (e : T) (x : A)
      → risen raise (es ++ e ∷ []) x ≡ risen raise es (raise e x)
  risen-last raise [] e x = refl
  risen-last raise (f ∷ es) e x = ap (raise f) (risen-last raise es e x)

  within-last : (size : T → ℕ) (n : ℕ) (es : List T) (e : T) → AreNoLarger size n es → size e ≤ n
      → AreNoLarger size n (es ++ e ∷ [])
  within-last size n [] e h low = (low, tt)
  within-last size n (f ∷ es) e h low = (h.0, within-last size n es e h.1 low)

  last-within : (size : T → ℕ) (n : ℕ) (es : List T) (e : T) → AreNoLarger size n (es ++ e ∷ []) → AreNoLarger size n es
      × (size e ≤ n)
  last-within size n [] e h = (tt, h.0)
  last-within size n (f ∷ es) e h = let rest = last-within size n es e h.1 in ((h.0, rest.0), rest.1)

  shown-last : (ws : List (Bor T)) (b : Bor T) → shown (ws ++ b ∷ []) ≡ shown ws ++ b.now ∷ []
  shown-last ws b = map-append (λ (y : Bor T). y.now) ws (b ∷ [])

  -- one step down
  module _ (ws vs : List (Bor T)) (b : Bor T) (inner : T) (is : b.now ≡ inner) (more : vs ≡ ws ++ b ∷ []) where
    pub longer : shown vs ≡ shown ws ++ inner ∷ []
    longer = ap shown more ∙ (shown-last ws b ∙ ap (λ z. shown ws ++ z ∷ []) is)

    pub down : (below : T → Option T) (e next : T) → IsSpine below e (shown ws) inner → below inner ≡ Some next
        → IsSpine below e (shown vs) next
    down below e next h has = subst (λ es. IsSpine below e es next) (sym longer)
        (spine-last below e (shown ws) inner next h has)

    pub deeper : (size : T → ℕ) (n : ℕ) → AreNoLarger size n (shown ws) → size inner ≤ n → AreNoLarger size n (shown vs)
    deeper size n h low = subst (AreNoLarger size n) (sym longer) (within-last size n (shown ws) inner h low)

  -- one step up: the last one is taken off
  module _ (ws vs : List (Bor T)) (b : Bor T) (last : ws ≡ vs ++ b ∷ []) where
    pub shorter : shown ws ≡ shown vs ++ b.now ∷ []
    shorter = ap shown last ∙ shown-last vs b

    pub up : {A : Type 0} (raise : T → A → A) (x : A)
        → risen raise (shown ws) x ≡ risen raise (shown vs) (raise b.now x)
    up raise x = ap (λ es. risen raise es x) shorter ∙ risen-last raise (shown vs) b.now x

    pub no_deeper : (size : T → ℕ) (n : ℕ) → AreNoLarger size n (shown ws) → AreNoLarger size n (shown vs)
        × (size b.now ≤ n)
    no_deeper size n h = last-within size n (shown vs) b.now (subst (AreNoLarger size n) shorter h)
