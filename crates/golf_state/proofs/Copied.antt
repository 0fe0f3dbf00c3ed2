-- A copy of the goroutines is kept as they are.
-- For: `State::copy` (src/state.rt)
-- By: the entries are the same
use Rattle.std.proofs.Common.{◌≡◌, ℕ, List, length, is_some, true, sym, ap, ◌∙◌, subst, arith}
use Rattle.std.proofs.lemmas.List.{length-map}
use Rattle.golf_theory.specs.Maps.{find, Rises, AllBelow}
use Rattle.golf_data.specs.declared.goroutine.Goroutine.{Goroutine}
use Rattle.golf_model.specs.Views.{GoroutineView}
use Rattle.golf_state_goroutines.specs.Places.{plain_entry, plain_entries, running_of}
use Rattle.golf_state_goroutines.specs.Ready.{AllReady}
use Rattle.golf_state.specs.Inside.{AreKept}

pub kept-copied : (gs hs : List (ℕ × Goroutine)) (ms ns : List ℕ) (n : ℕ) → plain_entries hs ≡ plain_entries gs
    → ns ≡ running_of (plain_entries hs) → AllReady hs → AreKept gs ms n → AreKept hs ns n
kept-copied gs hs ms ns n same listed ready k = record {
  rises = subst (λ (es : List (ℕ × GoroutineView)). Rises 0 es) (sym same) k.rises;
  below = subst (λ (es : List (ℕ × GoroutineView)). AllBelow n es) (sym same) k.below;
  zero = ap (λ (es : List (ℕ × GoroutineView)). is_some (find 0 es)) same ∙ k.zero;
  running = listed;
  few = omega (
    arith,
    ap (λ (es : List (ℕ × GoroutineView)). length es) same,
    length-map hs plain_entry,
    length-map gs plain_entry,
    k.few,
  );
  limit = k.limit;
  ready = ready;
}
