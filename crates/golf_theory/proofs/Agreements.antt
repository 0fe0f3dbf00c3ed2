-- What each operation on a map leaves as it was.
-- For: `AgreeOutside`, specs/Agreement.antt
-- By: putting the laws of entries together; no induction
use Rattle.std.proofs.Common.{◌≡◌, ℕ, Bool, false, List, inl, inr, sym, ◌∙◌, subst}
use Rattle.std.proofs.lemmas.Bool.{cases_Bool}
use Rattle.golf_theory.specs.Maps.{Entry, put, add, insert, only, map_values}
use Rattle.golf_theory.specs.Agreement.{AgreeOutside}
use Rattle.golf_theory.proofs.MapEntries.{Entry-put, Entry-put_other, Entry-add, Entry-add_old, Entry-only}
use Rattle.golf_theory.proofs.MapEntries.{Entry-only_old, Entry-map_values, Entry-map_values_back}
use Rattle.golf_theory.proofs.Insert.{Entry-insert, Entry-insert_old}

module _ {X : Type 0} (P : ℕ → Type 0) where
  pub agree-same : (es : List (ℕ × X)) → AgreeOutside P es es
  agree-same es = record { there = λ k x n h. h; back = λ k x n h. h }

  pub agree-then : (es fs gs : List (ℕ × X)) → AgreeOutside P es fs → AgreeOutside P fs gs → AgreeOutside P es gs
  agree-then es fs gs a b = record {
    there = λ k x n h. b.there k x n (a.there k x n h);
    back = λ k x n h. a.back k x n (b.back k x n h);
  }

  pub agree-put : (g : ℕ) (v : X) (es : List (ℕ × X)) → P g → AgreeOutside P es (put g v es)
  agree-put g v es p = record {
    there = λ k x n h. Entry-put_other g v es k x (λ e. n (subst P (sym e) p)) h;
    back = λ k x n h. elim (Entry-put g v es k x h) [ inl a ↦ absurd (n (subst P (sym a.0) p)) | inr a ↦ a ];
  }

  pub agree-add : (g : ℕ) (v : X) (es : List (ℕ × X)) → P g → AgreeOutside P es (add g v es)
  agree-add g v es p = record {
    there = λ k x n h. Entry-add_old g v es k x h;
    back = λ k x n h. elim (Entry-add g v es k x h) [ inl a ↦ absurd (n (subst P (sym a.0) p)) | inr a ↦ a ];
  }

  pub agree-insert : (g : ℕ) (v : X) (es : List (ℕ × X)) → P g → AgreeOutside P es (insert g v es)
  agree-insert g v es p = record {
    there = λ k x n h. Entry-insert_old g v es k x h;
    back = λ k x n h. elim (Entry-insert g v es k x h) [ inl a ↦ absurd (n (subst P (sym a.0) p)) | inr a ↦ a ];
  }

  pub agree-only : (p : ℕ → Bool) (es : List (ℕ × X)) → ((k : ℕ) → p k ≡ false → P k) → AgreeOutside P es (only p es)
  agree-only p es f = record {
    there = λ k x n h. elim (cases_Bool (p k)) [ inl t ↦ Entry-only_old p es k x t h | inr u ↦ absurd (n (f k u)) ];
    back = λ k x n h. (Entry-only p es k x h).1;
  }

  pub agree-map_values : (f : ℕ → X → X) (es : List (ℕ × X)) → ((k : ℕ) (x : X) → (P k → ⊥) → Entry es k x → f k x ≡ x)
      → AgreeOutside P es (map_values f es)
  agree-map_values f es s = record {
    there = λ k x n h. subst (λ y. Entry (map_values f es) k y) (s k x n h) (Entry-map_values f es k x h);
    back = λ k y n h. let r = Entry-map_values_back f es k y h in subst (λ z. Entry es k z)
        (sym (r.2 ∙ s k r.0 n r.1)) r.1;
  }

  -- agreement outside a set is agreement outside a wider one
  pub agree-wider : (Q : ℕ → Type 0) (es fs : List (ℕ × X)) → ((k : ℕ) → P k → Q k) → AgreeOutside P es fs
      → AgreeOutside Q es fs
  agree-wider Q es fs w a = record {
    there = λ k x n h. a.there k x (λ p. n (w k p)) h;
    back = λ k x n h. a.back k x (λ p. n (w k p)) h;
  }
