-- Frames and goroutines that are copied one after another.
-- For: `copied_frames`, `add_copy`, `add_copies`, `copied_roster` (src/copies.rt)
-- By: induction over the list of frames, or over the entries of the map of goroutines
use Rattle.std.proofs.Common.{◌≡◌, ℕ, zero, suc, ◌+◌, ◌-◌, ◌<◌, ◌≤◌, true, false, cond, List, [], ◌∷◌, ◌++◌, length}
use Rattle.std.proofs.Common.{map, take, drop, Some, refl, sym, ap, ◌∙◌, subst, arith, slice_get, append_assoc, add-one}
use Rattle.std.specs.Prelude.{Result, OnOk, OnErr}
use Rattle.std.proofs.Common.{Ok, Err}
use Rattle.std.proofs.lemmas.List.{map-append}
use Rattle.golf_data.specs.declared.goroutine.Frame.{Frame}
use Rattle.golf_data.specs.declared.goroutine.Mode.{Mode}
use Rattle.golf_data.specs.declared.goroutine.Goroutine.{Goroutine}
use Rattle.golf_theory.specs.Maps.{Rises, IsRising, AllBelow}
use Rattle.golf_model.specs.Views.{GoroutineView}
use Rattle.golf_model.specs.State.{is_running}
use Rattle.golf_state_goroutines.specs.Places.{plain_entry, plain_entries, running_of}
use Rattle.golf_state_goroutines.specs.Roominess.{HasRoom, HasRoomIn, IsReadyIn, AllRoomy}
use Rattle.golf_state_goroutines.specs.Goroutines.{Goroutines, IsListed, added}
use Rattle.golf_state_goroutines.specs.Ready.{HasRoomToWake, AllReady}

-- ---- one more

pub map-more : {X Y : Type 0} (f : X → Y) (xs : List X) (i : ℕ) (x : X) → slice_get xs i ≡ Some x
    → map f (take (i + 1) xs) ≡ map f (take i xs) ++ f x ∷ []
map-more {X} {Y} f xs i x h = rw add-one (more xs i h)
  where
    more : (ys : List X) (n : ℕ) → slice_get ys n ≡ Some x → map f (take (suc n) ys) ≡ map f (take n ys) ++ f x ∷ []
    more [] n h = absurd (cc)
    more (y ∷ ys) zero h = let same : y ≡ x = cc in ap (λ (z : X). f z ∷ []) same
    more (y ∷ ys) (suc n) h = ap (λ (zs : List Y). f y ∷ zs) (more ys n h)

-- ---- room

pub roomy-push : (fs : List Frame) (f : Frame) → AllRoomy fs → 2 ≤ f.values.spare → AllRoomy (fs ++ f ∷ [])
roomy-push [] f r h = (h, tt)
roomy-push (g ∷ fs) f r h = (r.0, roomy-push fs f r.1 h)

pub roomy-room : (fs : List Frame) → AllRoomy fs → HasRoom fs
roomy-room fs r = at fs (length fs - 1) r
  where
    at : (fs : List Frame) (n : ℕ) → AllRoomy fs → HasRoomIn (slice_get fs n)
    at [] n r = tt
    at (f ∷ fs) zero r = r.0
    at (f ∷ fs) (suc n) r = at fs n r.1

pub ready-more : (ps : List (ℕ × Goroutine)) (q : ℕ × Goroutine) → AllReady ps → HasRoomToWake q → AllReady (ps ++ q ∷ [])
ready-more [] q r h = (h, tt)
ready-more (p ∷ ps) q r h = (r.0, ready-more ps q r.1 h)

-- ---- who runs

pub running-push : (es : List (ℕ × GoroutineView)) (e : ℕ × GoroutineView) → is_running e.1.mode ≡ true
    → running_of es ++ e.0 ∷ [] ≡ running_of (es ++ e ∷ [])
running-push [] e t = ap (λ b. cond b (e.0 ∷ []) []) (sym t)
running-push (d ∷ es) e t = elim (is_running d.1.mode) as (λ b. cond b (d.0 ∷ running_of es) (running_of es) ++ e.0 ∷ []
    ≡ cond b (d.0 ∷ running_of (es ++ e ∷ [])) (running_of (es ++ e ∷ []))) [
      | true ↦ ap (λ (ns : List ℕ). d.0 ∷ ns) (running-push es e t)
      | false ↦ running-push es e t
    ]

pub blocked-push : (es : List (ℕ × GoroutineView)) (e : ℕ × GoroutineView) → is_running e.1.mode ≡ false
    → running_of es ≡ running_of (es ++ e ∷ [])
blocked-push [] e t = ap (λ b. cond b (e.0 ∷ []) []) (sym t)
blocked-push (d ∷ es) e t = elim (is_running d.1.mode) as (λ b. cond b (d.0 ∷ running_of es) (running_of es)
    ≡ cond b (d.0 ∷ running_of (es ++ e ∷ [])) (running_of (es ++ e ∷ []))) [
      | true ↦ ap (λ (ns : List ℕ). d.0 ∷ ns) (blocked-push es e t)
      | false ↦ blocked-push es e t
    ]

-- ---- rising order

module _ {X : Type 0} where
  at-least : (j : ℕ) (us : List (ℕ × X)) (e : ℕ × X) (vs : List (ℕ × X)) → Rises j (us ++ e ∷ vs) → j ≤ e.0
  at-least j [] e vs r = r.0
  at-least j (u ∷ us) e vs r = let more = at-least (suc u.0) us e vs r.1 in omega (arith, r.0, more)

  -- those before one have smaller numbers
  pub before-below : (j : ℕ) (us : List (ℕ × X)) (e : ℕ × X) (vs : List (ℕ × X)) → Rises j (us ++ e ∷ vs)
      → AllBelow e.0 us
  before-below j [] e vs r = tt
  before-below j (u ∷ us) e vs r =
      let more = at-least (suc u.0) us e vs r.1 in (omega (arith, more), before-below (suc u.0) us e vs r.1)

  pub rises-front : (j : ℕ) (us vs : List (ℕ × X)) → Rises j (us ++ vs) → Rises j us
  rises-front j [] vs r = tt
  rises-front j (u ∷ us) vs r = (r.0, rises-front (suc u.0) us vs r.1)

  split-at : (xs : List X) (i : ℕ) (x : X) → slice_get xs i ≡ Some x → xs ≡ take i xs ++ x ∷ drop (suc i) xs
  split-at [] i x h = absurd (cc)
  split-at (y ∷ xs) zero x h = let same : y ≡ x = cc in ap (λ (z : X). z ∷ xs) same
  split-at (y ∷ xs) (suc i) x h = ap (λ (zs : List X). y ∷ zs) (split-at xs i x h)

-- the goroutines that come before place i of the second list have smaller numbers
pub copied-below : (us : List (ℕ × GoroutineView)) (ps : List (ℕ × Goroutine)) (i : ℕ) (p : ℕ × Goroutine)
    → slice_get ps i ≡ Some p → IsRising (us ++ plain_entries ps) → AllBelow p.0 (us ++ plain_entries (take i ps))
copied-below us ps i p h r =
    let parts : us ++ plain_entries ps ≡ (us ++ plain_entries (take i ps))
    ++ plain_entry p ∷ plain_entries (drop (suc i) ps) =
    ap (λ (qs : List (ℕ × Goroutine)). us ++ plain_entries qs) (split-at ps i p h)
    ∙ ap (λ (es : List (ℕ × GoroutineView)). us ++ es) (parted (take i ps) (drop (suc i) ps))
    ∙ sym (append_assoc us (plain_entries (take i ps)) (plain_entry p ∷ plain_entries (drop (suc i) ps))) in
    before-below 0 (us ++ plain_entries (take i ps)) (plain_entry p) (plain_entries (drop (suc i) ps))
    (subst (λ (es : List (ℕ × GoroutineView)). IsRising es) parts r)
  where
    parted : (xs ys : List (ℕ × Goroutine)) → plain_entries (xs ++ p ∷ ys) ≡ plain_entries xs
        ++ plain_entry p ∷ plain_entries ys
    parted [] ys = refl
    parted (x ∷ xs) ys = ap (λ (es : List (ℕ × GoroutineView)). plain_entry x ∷ es) (parted xs ys)

-- the goroutines of the blocks before, and those of this block
pub parts-rise : (all us ps vs : List (ℕ × Goroutine)) → all ≡ us ++ (ps ++ vs) → IsRising (plain_entries all)
    → IsRising (plain_entries us ++ plain_entries ps)
parts-rise all us ps vs e r =
    let form : plain_entries all ≡ (plain_entries us ++ plain_entries ps) ++ plain_entries vs =
    ap (λ (qs : List (ℕ × Goroutine)). plain_entries qs) e ∙ map-append plain_entry us (ps ++ vs)
    ∙ ap (λ (es : List (ℕ × GoroutineView)). plain_entries us ++ es) (map-append plain_entry ps vs)
    ∙ sym (append_assoc (plain_entries us) (plain_entries ps) (plain_entries vs)) in
    rises-front 0 (plain_entries us ++ plain_entries ps) (plain_entries vs)
    (subst (λ (es : List (ℕ × GoroutineView)). IsRising es) form r)

-- ---- one more goroutine, or an error

pub room-ready : (m : Mode) (fs : List Frame) → HasRoom fs → IsReadyIn m fs
room-ready Mode.Running fs h = tt
room-ready (Mode.Blocked kind line waits ticket) fs h = h

module _ {A E : Type 0} (old new : Goroutines) (p : ℕ × Goroutine) where
  pub listed-added : (r : Result A E) → OnOk r (new ≡ added p old) → OnErr r (new ≡ old) → is_running p.1.mode ≡ true
      → IsListed old → IsListed new
  listed-added (Ok u) ok err t l = subst (λ (g : Goroutines). IsListed g) (sym ok)
      (ap (λ (ns : List ℕ). ns ++ p.0 ∷ []) l ∙ running-push (plain_entries old.places) (plain_entry p) t
      ∙ ap running_of (sym (map-append plain_entry old.places (p ∷ []))))
  listed-added (Err e) ok err t l = subst (λ (g : Goroutines). IsListed g) (sym err) l

  pub listed-blocked : (r : Result A E) → OnOk r (new ≡ record old { places = old.places ++ p ∷ [] }) → OnErr r (new ≡ old)
      → is_running p.1.mode ≡ false → IsListed old → IsListed new
  listed-blocked (Ok u) ok err t l = subst (λ (g : Goroutines). IsListed g) (sym ok)
      (l ∙ blocked-push (plain_entries old.places) (plain_entry p) t
      ∙ ap running_of (sym (map-append plain_entry old.places (p ∷ []))))
  listed-blocked (Err e) ok err t l = subst (λ (g : Goroutines). IsListed g) (sym err) l

  pub ready-added : (r : Result A E) → OnOk r (new ≡ added p old) → OnErr r (new ≡ old) → HasRoomToWake p
      → AllReady old.places → AllReady new.places
  ready-added (Ok u) ok err h a = subst (λ (g : Goroutines). AllReady g.places) (sym ok) (ready-more old.places p a h)
  ready-added (Err e) ok err h a = subst (λ (g : Goroutines). AllReady g.places) (sym err) a

  pub ready-blocked : (r : Result A E) → OnOk r (new ≡ record old { places = old.places ++ p ∷ [] }) → OnErr r (new ≡ old)
      → HasRoomToWake p → AllReady old.places → AllReady new.places
  ready-blocked (Ok u) ok err h a = subst (λ (g : Goroutines). AllReady g.places) (sym ok) (ready-more old.places p a h)
  ready-blocked (Err e) ok err h a = subst (λ (g : Goroutines). AllReady g.places) (sym err) a
