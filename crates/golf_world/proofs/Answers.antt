-- When each answer of a step comes.
use Rattle.std.proofs.Common.{◌≡◌, ℕ, List, [], ◌∷◌, ◌++◌, length, Result, Some, None, Ok, Err, refl, sym, ap, ◌∙◌}
use Rattle.std.proofs.Common.{arith, length-append}
use Rattle.std.specs.Prelude.{IfOk, OnErr}
use Rattle.golf_base.specs.declared.Memory.{Memory}
use Rattle.golf_base.specs.declared.ids.GoroutineId.{GoroutineId}
use Rattle.golf_data.specs.declared.code.Code.{Code}
use Rattle.golf_data.specs.declared.goroutine.Ending.{Ending}
use Rattle.golf_world.specs.declared.history.Stepped.{Stepped}
use Rattle.golf_world.specs.History.{most_entries}
use Rattle.golf_world.specs.Steps.{Pass, HasStepped, PassHasTurned, HasEnded, IsSpent, HasDoneNothing, ComesExactly}

-- a list is not itself with one item more
longer : (xs : List (ℕ × ℕ)) (x : ℕ × ℕ) → xs ≡ xs ++ x ∷ [] → ⊥
longer xs x e = let l = ap length e in let k = length-append xs (x ∷ []) in absurd (omega arith)

-- the last items of equal lists are equal
last-is : (xs : List (ℕ × ℕ)) (x y : ℕ × ℕ) → xs ++ x ∷ [] ≡ xs ++ y ∷ [] → x ≡ y
last-is [] x y e = cc
last-is (z ∷ xs) x y e = let f : xs ++ x ∷ [] ≡ xs ++ y ∷ [] = cc in last-is xs x y f

module _ (code : Code) (old new : Pass) where
  turned : (at : ℕ) (g : GoroutineId) (number : ℕ) → PassHasTurned code old new at g number
      → ComesExactly code (Ok (Stepped.Turned at g number)) old new
  turned at g number h = record {
    turned = λ k n. (
      (λ i. h.mine ∙ ap (λ (y : ℕ × ℕ). old.mine ++ y ∷ []) (λ j. (i.0 j, i.1 j))),
      (λ e. let s = last-is old.mine (at, number) (k, n)
          (sym h.mine ∙ e) in (ap (λ (y : ℕ × ℕ). y.0) s, ap (λ (y : ℕ × ℕ). y.1) s)),
    );
    ended = λ e. ((λ i. cc), (λ i. absurd (longer old.mine (at, number) (sym i.0 ∙ h.mine))));
    spent = ((λ i. cc), (λ i. absurd (longer old.mine (at, number) (sym i.0 ∙ h.mine))));
  }

  ended : (e : Ending) → HasEnded code old new e → ComesExactly code (Ok (Stepped.Ended e)) old new
  ended e h = record {
    turned = λ k n. ((λ i. absurd i), (λ i. absurd (longer old.mine (k, n) (sym h.mine ∙ i))));
    ended = λ f. (
      (λ i. let s : e ≡ f = cc in (h.mine, h.ends ∙ ap (λ (y : Ending). Some y) s)),
      (λ i. let s : e ≡ f = let t : Some e ≡ Some f = sym h.ends
          ∙ i.1 in cc in ap (λ (y : Ending). Ok (Stepped.Ended y)) s),
    );
    spent = ((λ i. cc), (λ i. let t : Some e ≡ None = sym h.ends ∙ i.1 in cc));
  }

  spent : IsSpent code old new → ComesExactly code (Ok Stepped.Spent) old new
  spent h = record {
    turned = λ k n. ((λ i. absurd i), (λ i. absurd (longer old.mine (k, n) (sym h.mine ∙ i))));
    ended = λ f. ((λ i. cc), (λ i. let t : None ≡ Some f = sym h.goes ∙ i.1 in cc));
    spent = ((λ i. (h.mine, h.goes, h.full)), (λ i. refl));
  }

  failed : (m : Memory) → HasDoneNothing code old new → ComesExactly code (Err m) old new
  failed m h = record {
    turned = λ k n. ((λ i. absurd i), (λ i. absurd (longer old.mine (k, n) (sym h.mine ∙ i))));
    ended = λ f. ((λ i. cc), (λ i. let t : None ≡ Some f = sym h.goes ∙ i.1 in cc));
    spent = ((λ i. cc), (λ i. let l = h.few in let k : length new.seen ≡ most_entries = i.2 in absurd (omega arith)));
  }

  by-step : (s : Stepped) → HasStepped code s old new → ComesExactly code (Ok s) old new
  by-step (Stepped.Turned at g number) h = turned at g number h
  by-step (Stepped.Ended e) h = ended e h
  by-step Stepped.Spent h = spent h

  -- the causes of the answers exclude one another
  pub exactly : (r : Result Stepped Memory) → IfOk r (λ s. HasStepped code s old new)
      → OnErr r (HasDoneNothing code old new)
      → ComesExactly code r old new
  exactly (Ok s) h f = by-step s h
  exactly (Err m) h f = failed m f
