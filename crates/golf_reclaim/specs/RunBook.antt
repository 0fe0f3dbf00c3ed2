-- The book of a run: the goroutines that stay reported, and the change by a collection.
use Rattle.std.specs.Prelude.{◌≡◌, ◌≤◌, ℕ, ◌+◌, Bool, true, false, cond, ◌||◌, List, ◌++◌, nat_lt}
use Rattle.std.specs.List.Sorted.{IsNonDecreasingBy}
use Rattle.golf_theory.specs.Counts.{times}
use Rattle.golf_theory.specs.Maps.{keys}
use Rattle.golf_theory.specs.Membership.{In, is_in}
use Rattle.golf_base.specs.declared.ids.GoroutineId.{GoroutineId}
use Rattle.golf_data.specs.declared.report.Book.{Book}
use Rattle.golf_model.specs.State.{State}
use Rattle.golf_model.specs.Reports.{numbers}

-- a goroutine stays reported if the book has reported its number more often than it has removed it
abbrev pub stays_reported : Book → ℕ → Bool
stays_reported book g = nat_lt (times g (numbers book.reclaimed)) (times g (numbers book.reported))

-- The numbers that stay reported rise. Each of them was reported once more than it was removed. Any other number was
-- reported as often as it was removed.
pub record HasStaying (reported reclaimed staying : List GoroutineId) : Type 0 where
  pub rises : IsNonDecreasingBy (λ (g : GoroutineId). g.0) staying
  pub counts : (g : ℕ) → times g (numbers reported) ≡ times g (numbers reclaimed) + cond (is_in g (numbers staying)) 1 0

-- `new` are new to the book, `gone` stay reported or are new, and no number is twice in either list
pub record CanNote (new gone : List ℕ) (book : Book) : Type 0 where
  pub new_once : (g : ℕ) → times g new ≤ 1
  pub gone_once : (g : ℕ) → times g gone ≤ 1
  pub unreported : (g : ℕ) → In g new → stays_reported book g ≡ false
  pub reported : (g : ℕ) → In g gone → (stays_reported book g || is_in g new) ≡ true

-- the book after one more collection, which reported `new` and removed `gone`
abbrev pub noted : List GoroutineId → List GoroutineId → Book → Book
noted new gone book = record {
  collections = book.collections + 1;
  reported = book.reported ++ new;
  reclaimed = book.reclaimed ++ gone;
}

-- no goroutine of the state was removed before
abbrev pub AreGone : Book → State → Type 0
AreGone book s = (g : ℕ) → In g (keys s.goroutines) → In g (numbers book.reclaimed) → ⊥
