-- The goroutines that stay, one after another, and what the nodes with a finaliser refer to.
-- For: `add_others`, `add_finalised_rows` and `source_nodes`, src/retained.rt.
-- By: induction over the list of entries, and over flags and rows.
use Rattle.std.proofs.Common.{◌≡◌, ℕ, zero, suc, ◌+◌, ◌<◌, Bool, true, false, not, cond, List, [], ◌∷◌, ◌++◌, length}
use Rattle.std.proofs.Common.{map, filter, take, Option, Some, None, inl, inr, refl, sym, ap, subst, ◌∙◌, arith}
use Rattle.std.proofs.Common.{slice_get, append_assoc, append-nil, length-append}
use Rattle.std.specs.Prelude.{option_map, unwrap_or}
use Rattle.std.proofs.lemmas.Bool.{cases_Bool}
use Rattle.std.proofs.lemmas.Option.{slice_get-map, slice_get_within}
use Rattle.golf_theory.specs.Maps.{find, IsRising}
use Rattle.golf_theory.proofs.Lists.{In-filter, In-slice_get}
use Rattle.golf_theory.proofs.MapFinds.{find-Entry}
use Rattle.golf_base.specs.declared.ids.GoroutineId.{GoroutineId}
use Rattle.golf_data.specs.declared.value.Object.{Object}
use Rattle.golf_model.specs.Views.{GoroutineView}
use Rattle.golf_model.specs.State.{State}
use Rattle.golf_model.specs.Graph.{goroutine_at, sleeper_references}
use Rattle.golf_model.specs.Refs.{object_refs, goroutine_refs, refs_if, refs_where}
use Rattle.golf_model.specs.declared.graph.GraphParts.{GraphParts}
use Rattle.golf_model.specs.Sleepers.{Sleeper}
use Rattle.golf_snapshot.specs.Parts.{ranks, is_awake, sleeping, sleeper_of, row_of, live_parts}
use Rattle.golf_snapshot.specs.MapEntries.{entry_at, sleepers_of, sleeps_at, finalised_rows}
use Rattle.golf_snapshot.proofs.Gathering.{TestedNodes, ranks-append, sleepers-append}
use Rattle.golf_snapshot.proofs.Ranking.{Entry-In, cases_at}
use Rattle.golf_snapshot.proofs.Stepping.{take-next}

abbrev asleep : List (ℕ × GoroutineView) → List (ℕ × GoroutineView)
asleep es = filter (λ e. not (is_awake e.0 e.1)) es

abbrev pub by_one : Bool → ℕ
by_one true = 1
by_one false = 0

-- ---- the sleepers

-- a sleeper whose goroutine is told is one
pub next-within : (g : GraphParts) (sleeper : ℕ) (h : GoroutineId) → goroutine_at g sleeper ≡ Some h
    → sleeper < length g.sleepers
next-within g sleeper h e = elim (cases_at g.sleepers sleeper) [
  | inl a ↦ slice_get_within g.sleepers sleeper a.0 a.1
  | inr n ↦ (let no : ◌≡◌ {A = Option GoroutineId} None (Some h) = sym
      (ap (option_map (λ (x : Sleeper). x.goroutine)) n) ∙ e in cc)
]

-- as many as sleep before a place is the place of who sleeps there
next-sleeper : (objects : List (ℕ × Object)) (es : List (ℕ × GoroutineView)) (i : ℕ) (e : ℕ × GoroutineView)
    → slice_get es i ≡ Some e → not (is_awake e.0 e.1) ≡ true
    → slice_get (sleepers_of objects es) (length (sleepers_of objects (take i es))) ≡ Some (sleeper_of objects e)
next-sleeper objects [] i e at test = cc
next-sleeper objects (d ∷ es) zero e at test =
    let same : d ≡ e = cc in
    ap (λ b. slice_get (map (sleeper_of objects) (cond b (d ∷ asleep es) (asleep es))) 0)
    (ap (λ (x : ℕ × GoroutineView). not (is_awake x.0 x.1)) same ∙ test)
    ∙ ap (λ (x : ℕ × GoroutineView). Some (sleeper_of objects x)) same
next-sleeper objects (d ∷ es) (suc i) e at test = let rest = next-sleeper objects es i e at test in
    elim (not (is_awake d.0 d.1)) as (λ b. slice_get (map (sleeper_of objects) (cond b (d ∷ asleep es) (asleep es)))
    (length (map (sleeper_of objects) (cond b (d ∷ asleep (take i es)) (asleep (take i es))))) ≡ Some
    (sleeper_of objects e)) [
      | true ↦ rest
      | false ↦ rest
    ]

one-sleeper : (objects : List (ℕ × Object)) (e : ℕ × GoroutineView)
    → length (sleepers_of objects (e ∷ [])) ≡ by_one (not (is_awake e.0 e.1))
one-sleeper objects e = elim (not (is_awake e.0 e.1)) as (λ b. length (map (sleeper_of objects) (cond b (e ∷ []) []))
    ≡ by_one b) [ true ↦ refl | false ↦ refl ]

more-sleepers : (objects : List (ℕ × Object)) (es : List (ℕ × GoroutineView)) (i : ℕ) (e : ℕ × GoroutineView) (b : Bool)
    → slice_get es i ≡ Some e → not (is_awake e.0 e.1) ≡ b
    → length (sleepers_of objects (take (i + 1) es)) ≡ length (sleepers_of objects (take i es)) + by_one b
more-sleepers objects es i e b at is =
    ap (λ (l : List (ℕ × GoroutineView)). length (sleepers_of objects l)) (take-next es i e at)
    ∙ ap (λ (l : List Sleeper). length l) (sleepers-append objects (take i es) (e ∷ []))
    ∙ length-append (sleepers_of objects (take i es)) (sleepers_of objects (e ∷ []))
    ∙ ap (λ n. length (sleepers_of objects (take i es)) + n) (one-sleeper objects e ∙ ap by_one is)

same-id : (x y : GoroutineId) → ◌≡◌ {A = Option GoroutineId} (Some x) (Some y) → x ≡ y
same-id x y e = cc

twice : (objects : List (ℕ × Object)) (o : Option (ℕ × GoroutineView))
    → option_map (λ (x : Sleeper). x.goroutine) (option_map (sleeper_of objects) o) ≡ option_map
    (λ (d : ℕ × GoroutineView). (sleeper_of objects d).goroutine) o
twice objects (Some d) = refl
twice objects None = refl

by-sleeping : (objects : List (ℕ × Object)) (es : List (ℕ × GoroutineView)) (sleeper : ℕ)
    → option_map (λ (x : Sleeper). x.goroutine) (slice_get (map (sleeper_of objects) es) sleeper) ≡ option_map
    (λ (d : ℕ × GoroutineView). (sleeper_of objects d).goroutine) (slice_get es sleeper)
by-sleeping objects es sleeper = ap (option_map (λ (x : Sleeper). x.goroutine))
    (slice_get-map (sleeper_of objects) es sleeper) ∙ twice objects (slice_get es sleeper)

ranks-if : (objects : List (ℕ × Object)) (b : Bool) (os : List ℕ)
    → refs_if b (ranks objects os) ≡ ranks objects (refs_if b os)
ranks-if objects true os = refl
ranks-if objects false os = refl

module _ (s : State) (live : GraphParts) (same : live ≡ live_parts s) where
  -- the goroutine of a sleeper is there and sleeps
  pub next-sleeps : (sleeper : ℕ) (g : GoroutineId) → IsRising s.goroutines → goroutine_at live sleeper ≡ Some g
      → sleeps_at g.0 (find g.0 s.goroutines) ≡ true
  next-sleeps sleeper g rises e =
      let goes : ℕ × GoroutineView → GoroutineId = λ d. (sleeper_of s.objects d).goroutine in
      let there : option_map goes (slice_get (sleeping s) sleeper) ≡ Some g =
      sym (by-sleeping s.objects (sleeping s) sleeper) ∙ sym (ap (λ (p : GraphParts). goroutine_at p sleeper) same)
      ∙ e in
      elim (cases_at (sleeping s) sleeper) [
        | inl a ↦
            let number : a.0.0 ≡ g.0 = ap (λ (h : GoroutineId). h.0)
            (same-id (goes a.0) g (sym (ap (option_map goes) a.1) ∙ there)) in
            let sleeps = In-filter (λ (d : ℕ × GoroutineView). not (is_awake d.0 d.1)) a.0 s.goroutines
            (In-slice_get (sleeping s) sleeper a.0 a.1) in
            let found = find-Entry s.goroutines a.0.0 a.0.1 rises (Entry-In s.goroutines a.0 sleeps.0) in
            subst (λ k. sleeps_at k (find k s.goroutines) ≡ true) number (ap (sleeps_at a.0.0) found ∙ sleeps.1)
        | inr n ↦ (let no : ◌≡◌ {A = Option GoroutineId} None (Some g) = sym (ap (option_map goes) n) ∙ there in cc)
      ]

  -- of the goroutine at a place, by how many before it sleep
  module _ (i k sleeper : ℕ) (x : GoroutineView) (at : slice_get s.goroutines i ≡ Some (k, x))
      (found : find k s.goroutines ≡ Some x)
      (count : sleeper ≡ length (sleepers_of s.objects (take i s.goroutines))) where
    pub next-stands : sleeps_at k (find k s.goroutines) ≡ true
        → slice_get live.sleepers sleeper ≡ Some (sleeper_of s.objects (k, x))
    next-stands test =
        ap (λ (p : GraphParts). slice_get p.sleepers sleeper) same
        ∙ ap (slice_get (sleepers_of s.objects s.goroutines)) count
        ∙ next-sleeper s.objects s.goroutines i (k, x) at (sym (ap (sleeps_at k) found) ∙ test)

    pub else-awake : (goroutine_at live sleeper ≡ Some (record { 0 = k }) → ⊥)
        → sleeps_at k (find k s.goroutines) ≡ false
    else-awake other = elim (cases_Bool (sleeps_at k (find k s.goroutines))) [
      | inl t ↦ absurd (other (ap (option_map (λ (y : Sleeper). y.goroutine)) (next-stands t)))
      | inr awake ↦ awake
    ]

    pub count-next : (b : Bool) → sleeps_at k (find k s.goroutines) ≡ b
        → length (sleepers_of s.objects (take (i + 1) s.goroutines)) ≡ sleeper + by_one b
    count-next b is = more-sleepers s.objects s.goroutines i (k, x) b at (sym (ap (sleeps_at k) found) ∙ is)
        ∙ ap (λ n. n + by_one b) (sym count)

    -- what the live graph tells of it is what it refers to
    pub sleeper-nodes : (test : ℕ → Bool) (text later : List ℕ) → sleeps_at k (find k s.goroutines) ≡ true
        → later ≡ text ++ refs_if (test k) (sleeper_references live sleeper) → later ≡ text
        ++ TestedNodes s.objects test (entry_at k (find k s.goroutines))
    sleeper-nodes test text later sleeps is =
        is ∙ ap (λ (o : Option Sleeper). text
        ++ refs_if (test k) (unwrap_or (option_map (λ (y : Sleeper). y.references) o) [])) (next-stands sleeps)
        ∙ ap (λ (l : List ℕ). text ++ l)
        (ranks-if s.objects (test k) (goroutine_refs x)
        ∙ ap (ranks s.objects) (sym (append-nil (refs_if (test k) (goroutine_refs x))))
        ∙ ap (λ (m : Option GoroutineView). TestedNodes s.objects test (entry_at k m)) (sym found))

-- ---- the objects with a finaliser

rows-next : (bs : List Bool) (rows : List (List ℕ)) (i : ℕ) (b : Bool) (row : List ℕ) → slice_get bs i ≡ Some b
    → slice_get rows i ≡ Some row → finalised_rows (take (suc i) bs) (take (suc i) rows) ≡ finalised_rows (take i bs)
    (take i rows) ++ refs_if b row
rows-next [] rows i b row e f = cc
rows-next (c ∷ bs) [] i b row e f = cc
rows-next (c ∷ bs) (r ∷ rows) zero b row e f =
    let flag : c ≡ b = cc in
    let that : r ≡ row = cc in
    append-nil (refs_if c r) ∙ ap (λ t. refs_if t r) flag ∙ ap (refs_if b) that
rows-next (c ∷ bs) (r ∷ rows) (suc i) b row e f =
    ap (λ (l : List ℕ). refs_if c r ++ l) (rows-next bs rows i b row e f)
    ∙ sym (append_assoc (refs_if c r) (finalised_rows (take i bs) (take i rows)) (refs_if b row))

pub rows-more : {text later : List ℕ} (bs : List Bool) (rows : List (List ℕ)) (i : ℕ) (b : Bool) (row old : List ℕ)
    → slice_get bs i ≡ Some b → slice_get rows i ≡ Some row → text ≡ old ++ finalised_rows (take i bs) (take i rows)
    → later ≡ text ++ refs_if b row
    → later ≡ old ++ finalised_rows (take (i + 1) bs) (take (i + 1) rows)
rows-more bs rows i b row old e f so is =
    let next : suc i ≡ i + 1 = omega arith in
    is ∙ ap (λ (l : List ℕ). l ++ refs_if b row) so
    ∙ append_assoc old (finalised_rows (take i bs) (take i rows)) (refs_if b row)
    ∙ ap (λ (l : List ℕ). old ++ l) (sym (rows-next bs rows i b row e f)
    ∙ ap (λ k. finalised_rows (take k bs) (take k rows)) next)

-- of a state they are the references in the objects with a finaliser
pub rows-ranks : (objects : List (ℕ × Object)) (test : ℕ → Bool) (es : List (ℕ × Object))
    → finalised_rows (map (λ e. test e.0) es) (map (row_of objects) es) ≡ ranks objects (refs_where test es)
rows-ranks objects test [] = refl
rows-ranks objects test (e ∷ es) =
    ap (λ (l : List ℕ). refs_if (test e.0) (row_of objects e) ++ l) (rows-ranks objects test es)
    ∙ ap (λ (l : List ℕ). l ++ ranks objects (refs_where test es)) (ranks-if objects (test e.0) (object_refs e.1))
    ∙ sym (ranks-append objects (refs_if (test e.0) (object_refs e.1)) (refs_where test es))
