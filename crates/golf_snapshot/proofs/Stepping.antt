-- Lists and maps, one place or one number after another.
-- For: `add_awake`, src/goroutines.rt; `add_others`, src/retained.rt; `numbers` and `children`, src/nodes.rt.
-- By: induction over the list of entries.
use Rattle.std.proofs.Common.{◌≡◌, ℕ, zero, suc, ◌+◌, ◌<◌, ◌≤◌, true, false, ◌||◌, cond, List, [], ◌∷◌, ◌++◌, length}
use Rattle.std.proofs.Common.{map, take, get_or, Option, Some, ◌==◌, refl, sym, ap, ◌∙◌, arith, slice_get, append_assoc}
use Rattle.std.proofs.Common.{append-nil}
use Rattle.std.specs.Prelude.{is_some, option_map}
use Rattle.std.proofs.lemmas.List.{take_more, take_all, map-append, length-map}
use Rattle.std.proofs.lemmas.Option.{slice_get-map, slice_get_within, get_or_from_slice_get}
use Rattle.golf_theory.specs.Membership.{is_in}
use Rattle.golf_theory.specs.Maps.{find, keys, IsRising}
use Rattle.golf_theory.proofs.MapFinds.{find-Entry}
use Rattle.golf_base.specs.declared.ids.GoroutineId.{GoroutineId}
use Rattle.golf_snapshot.specs.MapEntries.{entry_at}
use Rattle.golf_snapshot.proofs.Ranking.{Entry-at}

-- ---- by places

pub take-next : {X : Type 0} (xs : List X) (i : ℕ) (x : X) → slice_get xs i ≡ Some x → take (i + 1) xs ≡ take i xs ++ x
    ∷ []
take-next {X = X} xs i x e = take_more xs i x (slice_get_within xs i x e)
    ∙ ap (λ (y : X). take i xs ++ y ∷ []) (get_or_from_slice_get xs i x x e)

pub map-next : {X Y : Type 0} (f : X → Y) (xs : List X) (i : ℕ) (x : X) (old new : List Y) → slice_get xs i ≡ Some x
    → old ≡ map f (take i xs) → new ≡ old ++ f x ∷ [] → new ≡ map f (take (i + 1) xs)
map-next {Y = Y} f xs i x old new e so is =
    is ∙ ap (λ (l : List Y). l ++ f x ∷ []) so ∙ sym (map-append f (take i xs) (x ∷ []))
    ∙ ap (map f) (sym (take-next xs i x e))

pub map-done : {X Y : Type 0} (f : X → Y) (xs : List X) (n : ℕ) (all : List Y) → length xs ≤ n → all ≡ map f (take n xs)
    → all ≡ map f xs
map-done f xs n all h e = e ∙ ap (map f) (take_all n xs h)

-- the entry whose key stands at a place
pub entry-of-key : {X : Type 0} (es : List (ℕ × X)) (i k : ℕ) → slice_get (keys es) i ≡ Some k → (x : X)
    × (slice_get es i ≡ Some (k, x))
entry-of-key [] i k h = cc
entry-of-key (e ∷ es) zero k h = let s : e.0 ≡ k = cc in (e.1, ap (λ (n : ℕ). Some (n, e.1)) s)
entry-of-key (e ∷ es) (suc i) k h = entry-of-key es i k h

pub find-at : {X : Type 0} (es : List (ℕ × X)) (i k : ℕ) (x : X) → IsRising es → slice_get es i ≡ Some (k, x)
    → find k es ≡ Some x
find-at es i k x r e = find-Entry es k x r (Entry-at es i (k, x) e)

pub take-entry : {X : Type 0} (es : List (ℕ × X)) (i k : ℕ) → IsRising es → slice_get (keys es) i ≡ Some k
    → take (i + 1) es ≡ take i es ++ entry_at k (find k es)
take-entry es i k r h =
    let e = entry-of-key es i k h in
    take-next es i (k, e.0) e.1 ∙ ap (λ (m : Option _). take i es ++ entry_at k m) (sym (find-at es i k e.0 r e.1))

-- a value is found at the keys
pub found-in_keys : {X : Type 0} (k : ℕ) (es : List (ℕ × X)) → is_some (find k es) ≡ is_in k (keys es)
found-in_keys k [] = refl
found-in_keys k (e ∷ es) = elim (k == e.0) as (λ b. is_some (cond b (Some e.1) (find k es)) ≡
    (b || is_in k (keys es))) [
      | true ↦ refl
      | false ↦ found-in_keys k es
    ]

abbrev numbers : List GoroutineId → List ℕ
numbers gs = map (λ g. g.0) gs

-- the number at a place, by the list of numbers
listed-at : {X : Type 0} (es : List (ℕ × X)) (gs : List GoroutineId) (i : ℕ) (d : GoroutineId) → numbers gs ≡ keys es
    → i < length gs → slice_get (keys es) i ≡ Some (get_or gs i d).0
listed-at es gs i d e l =
    ap (λ (ns : List ℕ). slice_get ns i) (sym e) ∙ slice_get-map (λ (g : GoroutineId). g.0) gs i
    ∙ ap (option_map (λ (g : GoroutineId). g.0)) (read gs i d l)
  where
    read : (gs : List GoroutineId) (i : ℕ) (d : GoroutineId) → i < length gs → slice_get gs i ≡ Some (get_or gs i d)
    read [] i d l = absurd (omega arith)
    read (g ∷ gs) zero d l = refl
    read (g ∷ gs) (suc i) d l = read gs i d (omega arith)

-- who is listed at a place is there
pub entry-listed : {X : Type 0} (es : List (ℕ × X)) (gs : List GoroutineId) (i : ℕ) (d : GoroutineId) → IsRising es
    → numbers gs ≡ keys es → i < length gs
    → (x : X) × (slice_get es i ≡ Some ((get_or gs i d).0, x)) × (find (get_or gs i d).0 es ≡ Some x)
entry-listed es gs i d r e l = let x = entry-of-key es i (get_or gs i d).0
    (listed-at es gs i d e l) in (x.0, x.1, find-at es i (get_or gs i d).0 x.0 r x.1)

-- G gathers from pieces of a map what it gathers from the whole
module _ {X Y : Type 0} (G : List (ℕ × X) → List Y) (nil : G [] ≡ [])
    (append : (xs ys : List (ℕ × X)) → G (xs ++ ys) ≡ G xs ++ G ys) where
  pub gather-init : (old : List Y) (es : List (ℕ × X)) → old ≡ old ++ G (take 0 es)
  gather-init old es = sym (append-nil old) ∙ ap (λ (l : List Y). old ++ l) (sym nil)

  gather-more : (old text later : List Y) (xs ys zs : List (ℕ × X)) → zs ≡ xs ++ ys → text ≡ old ++ G xs → later ≡ text
      ++ G ys → later ≡ old ++ G zs
  gather-more old text later xs ys zs cut so is =
      is ∙ ap (λ (l : List Y). l ++ G ys) so ∙ append_assoc old (G xs) (G ys)
      ∙ ap (λ (l : List Y). old ++ l) (sym (append xs ys) ∙ ap G (sym cut))

  pub gather-next : (old text later : List Y) (es : List (ℕ × X)) (i k : ℕ) → IsRising es
      → slice_get (keys es) i ≡ Some k → text ≡ old ++ G (take i es) → later ≡ text ++ G (entry_at k (find k es))
      → later ≡ old ++ G (take (i + 1) es)
  gather-next old text later es i k r at so is =
      gather-more old text later (take i es) (entry_at k (find k es)) (take (i + 1) es) (take-entry es i k r at) so is

  pub gather-done : (old all : List Y) (es : List (ℕ × X)) (i : ℕ) → length es ≤ i → all ≡ old ++ G (take i es)
      → all ≡ old ++ G es
  gather-done old all es i l e = e ∙ ap (λ (z : List (ℕ × X)). old ++ G z) (take_all i es l)

  -- the same along the list of the keys
  pub gather-listed : {text later : List Y} (old : List Y) (es : List (ℕ × X)) (gs : List GoroutineId) (i : ℕ)
      (d : GoroutineId) → IsRising es → numbers gs ≡ keys es → i < length gs → text ≡ old ++ G (take i es)
      → later ≡ text ++ G (entry_at (get_or gs i d).0 (find (get_or gs i d).0 es)) → later ≡ old ++ G (take (i + 1) es)
  gather-listed {text} {later} old es gs i d r e l so is =
      gather-next old text later es i (get_or gs i d).0 r (listed-at es gs i d e l) so is

  pub gather-end : (old all : List Y) (es : List (ℕ × X)) (gs : List GoroutineId) (i : ℕ) → numbers gs ≡ keys es
      → length gs ≤ i → all ≡ old ++ G (take i es) → all ≡ old ++ G es
  gather-end old all es gs i e l is =
      gather-done old all es i (omega (
        arith,
        l,
        length-map gs (λ (g : GoroutineId). g.0),
        ap length e,
        length-map es (λ (z : ℕ × X). z.0),
      )) is
