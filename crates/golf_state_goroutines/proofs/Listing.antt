-- The list of those that run, place by place and block by block.
-- For: `running_of` (golf_state_goroutines/specs/Places.antt) and `start_these`, `start_all` (src/places.rt)
-- By: induction over the entries of the map of goroutines
use Rattle.std.proofs.Common.{◌≡◌, ℕ, zero, suc, ◌+◌, ◌/◌, true, false, cond, List, [], ◌∷◌, ◌++◌, take}
use Rattle.std.proofs.Common.{drop, Some, inl, inr, refl, sym, ap, ◌∙◌, subst, arith, slice_get, add-one, append_assoc}
use Rattle.std.specs.Prelude.{option_map}
use Rattle.std.proofs.lemmas.List.{take-map, take-append-drop}
use Rattle.std.proofs.lemmas.Option.{slice_get-map}
use Rattle.golf_data.specs.declared.goroutine.Goroutine.{Goroutine}
use Rattle.golf_theory.specs.Maps.{Entry, Rises, IsRising}
use Rattle.golf_theory.specs.Membership.{In}
use Rattle.golf_theory.specs.Stored.{placed}
use Rattle.golf_theory.proofs.MapFinds.{Entry-above}
use Rattle.golf_theory.proofs.MapOrder.{Rises-less}
use Rattle.golf_model.specs.Views.{GoroutineView, goroutine_view}
use Rattle.golf_model.specs.State.{is_running}
use Rattle.golf_state_goroutines.specs.Goroutines.{AllUnder}
use Rattle.golf_state_goroutines.specs.Places.{plain_entry, plain_entries, running_of}
use Rattle.golf_state_goroutines.specs.RunLists.{Runners, CanStart, AreAbove}
use Rattle.golf_state_goroutines.proofs.Middles.{placed-last}
use Rattle.golf_state_goroutines.proofs.PlaceLaws.{entries-append}

running-more_at : (i : ℕ) (es : List (ℕ × GoroutineView)) (e : ℕ × GoroutineView) → slice_get es i ≡ Some e
    → is_running e.1.mode ≡ true → running_of (take i es) ++ e.0 ∷ [] ≡ running_of (take (suc i) es)
running-more_at i [] e h t = cc
running-more_at zero (f ∷ es) e h t =
    let same : f ≡ e = cc in
    sym (ap (λ (d : ℕ × GoroutineView). running_of (d ∷ [])) same ∙ ap (λ b. cond b (e.0 ∷ []) []) t)
running-more_at (suc i) (f ∷ es) e h t =
    let more = running-more_at i es e h t in
    elim (is_running f.1.mode) as (λ b. cond b (f.0 ∷ running_of (take i es)) (running_of (take i es)) ++ e.0
    ∷ [] ≡ cond b (f.0 ∷ running_of (take (suc i) es)) (running_of (take (suc i) es))) [
      | true ↦ ap (λ (ns : List ℕ). f.0 ∷ ns) more
      | false ↦ more
    ]

running-same_at : (i : ℕ) (es : List (ℕ × GoroutineView)) (e : ℕ × GoroutineView) → slice_get es i ≡ Some e
    → is_running e.1.mode ≡ false → running_of (take i es) ≡ running_of (take (suc i) es)
running-same_at i [] e h t = cc
running-same_at zero (f ∷ es) e h t =
    let same : f ≡ e = cc in
    sym (ap (λ (d : ℕ × GoroutineView). running_of (d ∷ [])) same ∙ ap (λ b. cond b (e.0 ∷ []) []) t)
running-same_at (suc i) (f ∷ es) e h t =
    ap (λ (ns : List ℕ). cond (is_running f.1.mode) (f.0 ∷ ns) ns) (running-same_at i es e h t)

pub running-more : (i : ℕ) (es : List (ℕ × GoroutineView)) (e : ℕ × GoroutineView) → slice_get es i ≡ Some e
    → is_running e.1.mode ≡ true → running_of (take i es) ++ e.0 ∷ [] ≡ running_of (take (i + 1) es)
running-more i es e h t = rw add-one (running-more_at i es e h t)

pub running-same : (i : ℕ) (es : List (ℕ × GoroutineView)) (e : ℕ × GoroutineView) → slice_get es i ≡ Some e
    → is_running e.1.mode ≡ false → running_of (take i es) ≡ running_of (take (i + 1) es)
running-same i es e h t = rw add-one (running-same_at i es e h t)

-- the entry of a place, read
pub entry-at : (ps : List (ℕ × Goroutine)) (i : ℕ) (p : ℕ × Goroutine) → slice_get ps i ≡ Some p
    → slice_get (plain_entries ps) i ≡ Some (plain_entry p)
entry-at ps i p h = slice_get-map plain_entry ps i ∙ ap (option_map plain_entry) h

-- ---- one that is to start, after those before it

pub in-entries : {X : Type 0} (es : List (ℕ × X)) (i : ℕ) (e : ℕ × X) → slice_get es i ≡ Some e → Entry es e.0 e.1
in-entries [] i e h = absurd (cc)
in-entries {X} (d ∷ es) zero e h =
    let same : d ≡ e = cc in
    inl (ap (λ (y : ℕ × X). y.0) (sym same), ap (λ (y : ℕ × X). y.1) (sym same))
in-entries (d ∷ es) (suc i) e h = inr (in-entries es i e h)

pub Entry-right : {X : Type 0} (us vs : List (ℕ × X)) (k : ℕ) (x : X) → Entry vs k x → Entry (us ++ vs) k x
Entry-right [] vs k x h = h
Entry-right (u ∷ us) vs k x h = inr (Entry-right us vs k x h)

Entry-left : {X : Type 0} (us vs : List (ℕ × X)) (k : ℕ) (x : X) → Entry us k x → Entry (us ++ vs) k x
Entry-left [] vs k x h = absurd h
Entry-left (u ∷ us) vs k x (inl h) = inl h
Entry-left (u ∷ us) vs k x (inr h) = inr (Entry-left us vs k x h)

rises-right : {X : Type 0} (j : ℕ) (us vs : List (ℕ × X)) → Rises j (us ++ vs) → Rises j vs
rises-right j [] vs r = r
rises-right j (u ∷ us) vs r = Rises-less j (suc u.0) vs (omega (arith, r.0)) (rises-right (suc u.0) us vs r.1)

rises-left : {X : Type 0} (j : ℕ) (us vs : List (ℕ × X)) → Rises j (us ++ vs) → Rises j us
rises-left j [] vs r = tt
rises-left j (u ∷ us) vs r = (r.0, rises-left (suc u.0) us vs r.1)

-- those before one have smaller numbers
before-under : (j : ℕ) (us vs : List (ℕ × Goroutine)) (k : ℕ) (x : Goroutine) → Rises j (us ++ vs) → Entry vs k x
    → AllUnder k (running_of (plain_entries us))
before-under j [] vs k x r i = tt
before-under j (u ∷ us) vs k x r i =
    let less = Entry-above (suc u.0) (us ++ vs) k x r.1 (Entry-right us vs k x i) in
    let rest = before-under (suc u.0) us vs k x r.1 i in
    elim (is_running (goroutine_view u.1).mode) as (λ b. AllUnder k
    (cond b (u.0 ∷ running_of (plain_entries us)) (running_of (plain_entries us)))) [
      | true ↦ (omega (arith, less), rest)
      | false ↦ rest
    ]

under-append : (n : ℕ) (xs ys : List ℕ) → AllUnder n xs → AllUnder n ys → AllUnder n (xs ++ ys)
under-append n [] ys u v = v
under-append n (x ∷ xs) ys u v = (u.0, under-append n xs ys u.1 v)

-- there is room for it, and it is above all that run so far
pub record Starts (ks ms : List ℕ) (p : ℕ × Goroutine) : Type 0 where
  pub room : In (p.0 / 256) ks
  pub under : AllUnder p.0 ms

pub starts : (ks ns : List ℕ) (ps : List (ℕ × Goroutine)) (i : ℕ) (p : ℕ × Goroutine) → IsRising ps → CanStart ks ps
    → AreAbove ns ps → slice_get ps i ≡ Some p → Starts ks (ns ++ running_of (take i (plain_entries ps))) p
starts ks ns ps i p r room above h = record {
  room = room p.0 p.1 (in-entries ps i p h);
  under = under-append p.0 ns (running_of (take i (plain_entries ps))) (above p.0 p.1 (in-entries ps i p h))
      (subst (λ (es : List (ℕ × GoroutineView)). AllUnder p.0 (running_of es)) (sym (take-map plain_entry i ps))
      (before-under 0 (take i ps) (drop i ps) p.0 p.1
      (subst (λ (es : List (ℕ × Goroutine)). IsRising es) (sym (take-append-drop i ps)) r)
      (in-entries (drop i ps) 0 p (dropped ps i h))));
}
  where
    dropped : (qs : List (ℕ × Goroutine)) (n : ℕ) → slice_get qs n ≡ Some p → slice_get (drop n qs) 0 ≡ Some p
    dropped [] n h = absurd (cc)
    dropped (q ∷ qs) zero h = h
    dropped (q ∷ qs) (suc n) h = dropped qs n h

pub runs-on : (ns ms : List ℕ) (ks : List ℕ) (n : ℕ) (all : List ℕ) → AllUnder n (ns ++ ms) → ms ++ n ∷ [] ≡ all
    → ◌≡◌ {A = Runners} (record { numbers = placed n (ns ++ ms); keys = ks }) (record { numbers = ns ++ all; keys = ks })
runs-on ns ms ks n all u e = ap (λ (xs : List ℕ). record { numbers = xs; keys = ks })
    (placed-last n (ns ++ ms) u ∙ append_assoc ns ms (n ∷ []) ∙ ap (λ (xs : List ℕ). ns ++ xs) e)

-- ---- block by block

running-append : (es fs : List (ℕ × GoroutineView)) → running_of (es ++ fs) ≡ running_of es ++ running_of fs
running-append [] fs = refl
running-append (e ∷ es) fs = elim (is_running e.1.mode) as (λ b. cond b (e.0 ∷ running_of (es ++ fs))
    (running_of (es ++ fs)) ≡ cond b (e.0 ∷ running_of es) (running_of es) ++ running_of fs) [
      | true ↦ ap (λ (zs : List ℕ). e.0 ∷ zs) (running-append es fs)
      | false ↦ running-append es fs
    ]

-- the goroutines of one block, after those of the blocks before
pub record IsPart (ks ms : List ℕ) (ps : List (ℕ × Goroutine)) : Type 0 where
  pub rises : IsRising ps
  pub room : CanStart ks ps
  pub above : AreAbove ms ps

pub part-of : (ks ns : List ℕ) (all us ps vs : List (ℕ × Goroutine)) → all ≡ us ++ (ps ++ vs) → IsRising all
    → CanStart ks all → AreAbove ns all → IsPart ks (ns ++ running_of (plain_entries us)) ps
part-of ks ns all us ps vs e r room above =
    let rises : IsRising (us ++ (ps ++ vs)) = subst (λ (es : List (ℕ × Goroutine)). IsRising es) e r in
    let inside : (g : ℕ) (x : Goroutine) → Entry ps g x → Entry all g x =
    λ g x i. subst (λ (es : List (ℕ × Goroutine)). Entry es g x) (sym e)
    (Entry-right us (ps ++ vs) g x (Entry-left ps vs g x i)) in
    record {
      rises = rises-left 0 ps vs (rises-right 0 us (ps ++ vs) rises);
      room = λ g x i. room g x (inside g x i);
      above = λ g x i. under-append g ns (running_of (plain_entries us)) (above g x (inside g x i))
          (before-under 0 us (ps ++ vs) g x rises (Entry-left ps vs g x i));
    }

pub part-more : (ns : List ℕ) (us ps : List (ℕ × Goroutine)) → (ns ++ running_of (plain_entries us))
    ++ running_of (plain_entries ps) ≡ ns ++ running_of (plain_entries (us ++ ps))
part-more ns us ps =
    append_assoc ns (running_of (plain_entries us)) (running_of (plain_entries ps))
    ∙ ap (λ (xs : List ℕ). ns ++ xs) (sym (running-append (plain_entries us) (plain_entries ps)))
    ∙ ap (λ (es : List (ℕ × GoroutineView)). ns ++ running_of es) (sym (entries-append us ps))
