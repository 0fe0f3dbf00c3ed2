-- The rule of a world's table: its invariant between any two steps of any threads, and what each step tells its seat.
use Rattle.std.specs.Prelude.{◌≡◌, ◌⊎◌, ℕ, zero, suc, ◌+◌, ◌<◌, ◌==◌, Bool, true, false, not, List, [], ◌∷◌, ◌++◌}
use Rattle.std.specs.Prelude.{length, filter}
use mathlib.Core.Option.{some}
use mathlib.Core.List.{IsPrefix}
use lib.ListN.{get_elem?}
use Rattle.atomic_table.specs.Table.{State, Me, Step}
use Rattle.atomic_table.specs.Seated.{TableId}
use Rattle.golf_theory.specs.Membership.{In, Every}
use Rattle.golf_data.specs.declared.code.Code.{Code}
use Rattle.golf_world.specs.declared.history.HistoryEntry.{HistoryEntry}
use Rattle.golf_world.specs.declared.rule.PassEntries.{PassEntries}
use Rattle.golf_world.specs.declared.rule.View.{View}
use Rattle.golf_world.specs.History.{entry, next_number, own}

-- the table and the code of no world
abbrev pub no_table : TableId
no_table = record { words = 0; slots = 0; views_name = 0; atom = 0; block = 0; offset = 0; slot_names = [] }

abbrev pub no_code : Code
no_code = record { functions = []; globals = []; structs = []; texts = []; main_line = 0 }

abbrev pub pass_entries : ℕ → List (ℕ × ℕ) → PassEntries
pass_entries p mine = record { pass = p; mine = mine }

abbrev pub view_of : ℕ → Bool → List PassEntries → List HistoryEntry → List (List HistoryEntry) → View
view_of passes keeps held seen earlier =
    record { passes = passes; keeps = keeps; held = held; seen = seen; earlier = earlier }

-- the keeper's view while no pass is joined to it, and the view of one pass
abbrev pub keeper_view : ℕ → List HistoryEntry → View
keeper_view passes seen = view_of passes true [] seen []

abbrev pub pass_view : ℕ → ℕ → List (ℕ × ℕ) → List HistoryEntry → View
pass_view passes p mine seen = view_of passes false (pass_entries p mine ∷ []) seen []

-- a spent view has no pass and has seen nothing
abbrev pub spent_view : View
spent_view = view_of 0 false [] [] []

-- n passes from p on, without an entry
abbrev pub idle_passes : ℕ → ℕ → List PassEntries
idle_passes p zero = []
idle_passes p (suc n) = pass_entries p [] ∷ idle_passes (p + 1) n

-- the first view is the keeper's, and has all passes
abbrev pub first_view : ℕ → View
first_view passes = view_of passes true (idle_passes 0 passes) [] []

-- A view is spent, or it names the number of passes. The keeper's view has seen the whole history. A pass in a view is
-- one of the world's, is in this view, and has exactly its entries. A view has seen a prefix of the history, and its
-- `earlier` ones are prefixes of that.
pub record WorldViewFits (passes keeper : ℕ) (owner : ℕ → ℕ) (history : List HistoryEntry) (seat : ℕ)
    (v : View) : Type 0 where
  pub named : (v ≡ spent_view) ⊎ (v.passes ≡ passes)
  pub keeps : v.keeps ≡ true → (seat ≡ keeper) × (v.seen ≡ history)
  pub held : (h : PassEntries) → In h v.held → (h.pass < passes) × (owner h.pass ≡ seat) × (h.mine ≡ own h.pass history)
  pub seen : IsPrefix v.seen history
  pub earlier : Every (λ o. IsPrefix o v.seen) v.earlier

-- the view at this seat is the keeper's
abbrev pub KeepsAt : List View → ℕ → Type 0
KeepsAt views seat = (v : View) × (get_elem? views seat ≡ some v) × (v.keeps ≡ true)

-- the pass is one of these
abbrev pub HoldsPass : ℕ → List PassEntries → Type 0
HoldsPass p [] = ⊥
HoldsPass p (h ∷ hs) = (h.pass ≡ p) ⊎ HoldsPass p hs

-- the view at this seat has the pass
abbrev pub HoldsAt : List View → ℕ → ℕ → Type 0
HoldsAt views p seat = (v : View) × (get_elem? views seat ≡ some v) × HoldsPass p v.held

-- the word is the length of the history; the keeper, and each pass, is in exactly one view
pub record HoldsHistory (passes : ℕ) (s : State (Unit {0}) View) : Type 0 where
  pub keeper : ℕ
  pub owner : ℕ → ℕ
  pub history : List HistoryEntry
  pub word : s.words ≡ length history ∷ []
  pub views : (seat : ℕ) (v : View) → get_elem? s.views seat ≡ some v → WorldViewFits passes keeper owner history seat v
  pub kept : KeepsAt s.views keeper
  pub owned : (p : ℕ) → p < passes → HoldsAt s.views p (owner p)

-- the entry of the pass that the view stands for is added to the history that it has seen, and to the pass
abbrev pub appended_by : Code → ℕ → Bool → List PassEntries → List HistoryEntry → List (List HistoryEntry) → View
appended_by code passes keeps [] seen earlier = view_of passes keeps [] seen earlier
appended_by code passes keeps (h ∷ hs) seen earlier =
    view_of passes keeps (pass_entries h.pass (h.mine ++ (length seen, next_number code h.pass seen) ∷ []) ∷ hs)
    (seen ++ entry h.pass (next_number code h.pass seen) ∷ []) earlier

abbrev pub appended : Code → View → View
appended code v = appended_by code v.passes v.keeps v.held v.seen v.earlier

-- what an append tells: it found the length of the seen history, and the earlier prefixes are prefixes of that
abbrev pub AppendTells : Code → Step (Unit {0}) → Me (Unit {0}) View → ℕ → Me (Unit {0}) View → Type 0
AppendTells code step me n now = (now ≡ (appended code me.0, me.1)) × (n ≡ length me.0.seen)
    × Every (λ o. IsPrefix o me.0.seen) me.0.earlier

abbrev pub HistoryLookTells : Step (Unit {0}) → Me (Unit {0}) View → ℕ → Me (Unit {0}) View → Type 0
HistoryLookTells step me n now = (now ≡ me) × Every (λ o. IsPrefix o me.0.seen) me.0.earlier

-- a split gives the first pass away
abbrev pub others : List PassEntries → List PassEntries
others [] = []
others (h ∷ hs) = filter (λ k. not (k.pass == h.pass)) hs

abbrev pub first_held : List PassEntries → List PassEntries
first_held [] = []
first_held (h ∷ hs) = h ∷ []

abbrev pub left_view : View → View
left_view v = view_of v.passes v.keeps (others v.held) v.seen []

abbrev pub right_view : View → View
right_view v = view_of v.passes false (first_held v.held) v.seen []

-- a join takes the passes of the other view, and the prefix that it had seen
abbrev pub both_views : View → View → View
both_views v w = view_of v.passes v.keeps (w.held ++ v.held) v.seen (w.seen ∷ v.earlier)
