-- A printed line, value by value; zero values, one by one.
-- For: `line_bytes` (golf_model/specs/Values.antt) and `line_of` (src/printed_lines.rt), `zeros_of` (src/structures.rt)
-- By: induction over the list of values for the zeros; otherwise what one more value adds
use Rattle.std.specs.Prelude.{MatchOption}
use Rattle.std.proofs.Common.{◌≡◌, ℕ, zero, suc, ◌+◌, ◌<◌, ◌≤◌, Bool, true, false, List, [], ◌∷◌, ◌++◌, length, take}
use Rattle.std.proofs.Common.{drop, get_or, Option, Some, None, refl, sym, ap, ◌∙◌, arith, append_assoc}
use Rattle.std.proofs.lemmas.List.{drop_more, take_more}
use Rattle.golf_data.specs.declared.value.Value.{Value}
use Rattle.golf_model.specs.Values.{bytes_of, before, spaced_bytes, line_bytes, zero_of, zeros_of}

before-some : (xs ys : List ℕ) (o : Option (List ℕ))
    → before (Some xs) (before (Some ys) o) ≡ before (Some (xs ++ ys)) o
before-some xs ys None = refl
before-some xs ys (Some zs) = ap (λ (r : List ℕ). Some r) (sym (append_assoc xs ys zs))

-- what is still to be printed after so many values
abbrev pub rest_bytes : List (List ℕ) → ℕ → List Value → Option (List ℕ)
rest_bytes texts zero vs = line_bytes texts vs
rest_bytes texts (suc i) vs = spaced_bytes texts vs

module _ (texts : List (List ℕ)) (values : List Value) where
  -- what has been printed, and the rest, are the line
  abbrev pub IsPrinted : ℕ → List ℕ → Type 0
  IsPrinted i text = line_bytes texts values ≡ before (Some text) (rest_bytes texts i (drop i values))

  pub printed_first : (i : ℕ) (v : Value) (text bytes : List ℕ) → i ≤ 0 → i < length values → v ≡ get_or values i v
      → bytes_of texts v ≡ Some bytes → IsPrinted i text → IsPrinted (i + 1) (text ++ bytes)
  printed_first (suc i) v text bytes z l h e so_far = absurd (omega arith)
  printed_first zero v text bytes z l h e so_far =
      so_far ∙ ap (λ (vs : List Value). before (Some text) (line_bytes texts vs)) (drop_more values 0 v l)
      ∙ rw (← h, e) (before-some text bytes (spaced_bytes texts (drop 1 values)))

  later : (n : ℕ) (i : ℕ) (vs : List Value) → n ≡ i + 1 → rest_bytes texts n vs ≡ spaced_bytes texts vs
  later zero i vs e = absurd (omega arith)
  later (suc n) i vs e = refl

  pub printed_later : (i : ℕ) (v : Value) (text bytes : List ℕ) → 0 < i → i < length values → v ≡ get_or values i v
      → bytes_of texts v ≡ Some bytes → IsPrinted i text → IsPrinted (i + 1) ((text ++ 32 ∷ []) ++ bytes)
  printed_later zero v text bytes z l h e so_far = absurd (omega arith)
  printed_later (suc i) v text bytes z l h e so_far =
      let rest = spaced_bytes texts (drop (suc i + 1) values) in
      so_far ∙ ap (λ (vs : List Value). before (Some text) (spaced_bytes texts vs)) (drop_more values (suc i) v l)
      ∙ rw (
        ← h,
        e,
        before-some text (32 ∷ []) (before (Some bytes) rest),
        before-some (text ++ 32 ∷ []) bytes rest,
        later (suc i + 1) (suc i) (drop (suc i + 1) values) refl,
      )

-- ---- zero values

zeros-push : (vs : List Value) (v : Value) → zeros_of (vs ++ v ∷ []) ≡ zeros_of vs ++ zero_of v ∷ []
zeros-push [] v = refl
zeros-push (w ∷ vs) v = rw (zeros-push vs v)

pub zeros_more : (vs : List Value) (i : ℕ) (v : Value) (zs : List Value) → i < length vs → v ≡ get_or vs i v
    → zs ≡ zeros_of (take i vs) → zs ++ zero_of v ∷ [] ≡ zeros_of (take (i + 1) vs)
zeros_more vs i v zs l h e = rw (e, take_more vs i v l, ← h, zeros-push (take i vs) v)

-- a value that was added
pub was_added : (o : Option (List ℕ)) (b : Bool) (t old : List ℕ) → b ≡ true
    → MatchOption o (b ≡ false) (λ bytes. (b ≡ true) × (t ≡ old ++ bytes)) → (bytes : List ℕ) × (o ≡ Some bytes)
    × (t ≡ old ++ bytes)
was_added None b t old e h = cc
was_added (Some bytes) b t old e h = (bytes, refl, h.1)
