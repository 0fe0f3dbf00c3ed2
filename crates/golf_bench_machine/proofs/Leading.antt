-- What freeing needs: there are as many flags as goroutines, and goroutine 0 stays.
-- For: `free`, src/collections.rt
-- By: induction over the entries of the map of goroutines; otherwise equations of lists and their lengths
use Rattle.std.proofs.Common.{◌≡◌, ◌<◌, ◌==◌, ℕ, suc, cond, Bool, true, false, List, [], ◌∷◌, length, map, Some, None}
use Rattle.std.proofs.Common.{refl, sym, ap, ◌∙◌, arith, slice_get}
use Rattle.std.specs.Prelude.{is_some}
use Rattle.std.proofs.lemmas.Bool.{ne_eqb}
use Rattle.std.proofs.lemmas.List.{length-map}
use Rattle.golf_theory.specs.Flags.{kept}
use Rattle.golf_theory.specs.Maps.{find, keys, Rises}
use Rattle.golf_base.specs.declared.ids.GoroutineId.{GoroutineId}
use Rattle.golf_model.specs.Views.{GoroutineView}

find-above : (k g : ℕ) (es : List (ℕ × GoroutineView)) → Rises k es → g < k → find g es ≡ None
find-above k g [] r l = refl
find-above k g (e ∷ es) r l = ap (λ t. cond t (Some e.1) (find g es)) (ne_eqb g e.0 (λ q. omega (arith, q, r.0, l)))
    ∙ find-above (suc e.0) g es r.1 (omega (arith, r.0, l))

-- goroutine 0 stays if the first flag is true
pub first-stays : (k : ℕ) (flags : List Bool) (es : List (ℕ × GoroutineView)) → Rises k es → is_some (find 0 es) ≡ true
    → slice_get flags 0 ≡ Some true → is_some (find 0 (kept flags es)) ≡ true
first-stays k [] es r there first = cc
first-stays k (b ∷ bs) [] r there first = cc
first-stays k (b ∷ bs) (e ∷ es) r there first =
    let yes : b ≡ true = cc in
    rw yes (elim (0 == e.0) as (λ t. 0 == e.0 ≡ t → is_some (cond t (Some e.1) (find 0 es)) ≡ true
    → is_some (cond t (Some e.1) (find 0 (kept bs es))) ≡ true) [
      | true ↦ λ t i. refl
      | false ↦ λ t i. let none = find-above (suc e.0) 0 es r.1 (omega arith) in cc
    ] refl there)

-- a flag for each of the goroutines is as many as there are
pub stays-count : (stays : List Bool) (f : GoroutineId → Bool) (gs : List GoroutineId) (es : List (ℕ × GoroutineView))
    → stays ≡ map f gs → map (λ (g : GoroutineId). g.0) gs ≡ keys es → length stays ≡ length es
stays-count stays f gs es is there =
    ap length is ∙ length-map gs f ∙ sym (length-map gs (λ (g : GoroutineId). g.0)) ∙ ap length there
    ∙ length-map es (λ (e : ℕ × GoroutineView). e.0)
