-- The queue's entries for finalisers whose flag is false, one after another.
-- For: `add_unflagged`, `unflagged_in` (src/walks.rt)
-- By: the laws of flagged lists (golf_theory/proofs/Flagged.antt)
use Rattle.std.proofs.Common.{◌≡◌, ℕ, ◌+◌, ◌<◌, Bool, true, false, List, [], ◌∷◌, ◌++◌, length, take, drop, get_or, sym}
use Rattle.std.proofs.Common.{ap, ◌∙◌, append_assoc}
use Rattle.std.proofs.lemmas.List.{append-nil, map-append}
use Rattle.std.proofs.lemmas.Option.{slice_get-get_or}
use Rattle.golf_data.specs.declared.goroutine.Queued.{Queued}
use Rattle.golf_model.specs.Collections.{queued}
use Rattle.golf_theory.specs.Flags.{left_out}
use Rattle.golf_theory.proofs.Flagged.{left_out-at}
use Rattle.golf_blocks.proofs.Parts.{left-split}

abbrev entry : ℕ × ℕ → Queued
entry e = record { object = record { 0 = e.0 }; function = e.1 }

module _ (start : List Queued) (flags : List Bool) (fs : List (ℕ × ℕ)) where
  -- those of the first that leave
  abbrev pub queued-by : ℕ → List Queued
  queued-by i = start ++ queued (left_out (take i flags) (take i fs))

  pub queued-next : (i : ℕ) (d : ℕ × ℕ) (now later : List Queued) → i < length flags → i < length fs
      → get_or flags i false ≡ false → now ≡ queued-by i → later ≡ now
      ++ record { object = record { 0 = (get_or fs i d).0 }; function = (get_or fs i d).1 } ∷ []
      → later ≡ queued-by (i + 1)
  queued-next i d now later l m f so is =
      let before : List (ℕ × ℕ) = left_out (take i flags) (take i fs) in
      let x : ℕ × ℕ = get_or fs i d in
      is ∙ ap (λ (z : List Queued). z ++ entry x ∷ []) so
      ∙ append_assoc start (queued before) (entry x ∷ [])
      ∙ ap (λ (z : List Queued). start ++ z)
      (sym (map-append entry before (x ∷ []))
      ∙ ap queued (sym (left_out-at flags fs i x false false l (slice_get-get_or fs i d m) f)))

  pub queued-same : (i : ℕ) (now : List Queued) → i < length flags → i < length fs → get_or flags i false ≡ true
      → now ≡ queued-by i → now ≡ queued-by (i + 1)
  queued-same i now l m f so =
      let d : ℕ × ℕ = (0, 0) in
      let before : List (ℕ × ℕ) = left_out (take i flags) (take i fs) in
      so ∙ ap (λ (z : List (ℕ × ℕ)). start ++ queued z)
      (sym (append-nil before) ∙ sym (left_out-at flags fs i (get_or fs i d) false true l
      (slice_get-get_or fs i d m) f))

-- the entries of two lists
pub queued-split : (start : List Queued) (m : ℕ) (bits : List Bool) (xs ys : List (ℕ × ℕ)) → m ≡ length xs
    → (start ++ queued (left_out (take m bits) xs)) ++ queued (left_out (drop m bits) ys) ≡ start
    ++ queued (left_out bits (xs ++ ys))
queued-split start m bits xs ys e =
    let a = left_out (take m bits) xs in
    let b = left_out (drop m bits) ys in
    append_assoc start (queued a) (queued b)
    ∙ ap (λ (z : List Queued). start ++ z) (sym (map-append entry a b) ∙ ap queued (sym (left-split m bits xs ys e)))
