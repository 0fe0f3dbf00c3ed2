-- With equal tickets the first waiters of alike lists are not partners: tickets must differ.
-- For: `AreAlike`, specs/Alike.antt
-- By: computing
use Rattle.std.proofs.Common.{◌≡◌, ℕ, [], ◌∷◌, Some, refl}
use Rattle.std.specs.Prelude.{option_map}
use Rattle.golf_data.specs.declared.goroutine.Mode.{Mode}
use Rattle.golf_data.specs.declared.goroutine.Side.{Side}
use Rattle.golf_data.specs.declared.goroutine.WaitKind.{WaitKind}
use Rattle.golf_model.specs.Views.{GoroutineView}
use Rattle.golf_model.specs.Waiters.{Waiter, bare_wait, first}

abbrev tied : ℕ → GoroutineView
tied line = record {
  frames = [];
  mode = Mode.Blocked WaitKind.Lock 1 (bare_wait 1 Side.Lock ∷ []) 5;
  started = line;
}

-- 2 with 3 and 3 with 2 are pairs of these lists, and the order of tickets is the same; but the first of the first list
-- was started at line 7, and the first of the second one at line 8
ties-left : option_map (λ (w : Waiter). w.goroutine.started) (first 1 Side.Lock ((2, tied 7) ∷ (3, tied 8) ∷ []))
    ≡ Some 7
ties-left = refl

ties-right : option_map (λ (w : Waiter). w.goroutine.started) (first 1 Side.Lock ((2, tied 8) ∷ (3, tied 7) ∷ []))
    ≡ Some 8
ties-right = refl
