-- Names have the values that stand in their slots.
-- For: `Stored` and `SlotsRise`, specs/Does.antt; `find`, specs/Names.antt
-- By: induction over the list of locals
use Rattle.std.proofs.Common.{◌≡◌, ℕ, zero, suc, ◌+◌, ◌<◌, ◌≤◌, Bool, true, false, cond, is_some, List, [], ◌∷◌, length}
use Rattle.std.proofs.Common.{Option, Some, None, refl, ap, sym, ◌∙◌, subst, slice_get, slice_set, arith}
use Rattle.std.proofs.lemmas.Option.{slice_get_within}
use Rattle.std.specs.Str.{bytes_eq}
use Rattle.golf_data.specs.declared.value.Value.{Value}
use Rattle.golf_check_types.specs.declared.locals.Local.{Local}
use Rattle.golf_check_types.specs.Names.{look_from, look}
use Rattle.golf_meaning_source.specs.Names.{Env, first_some, here, find, assign}
use Rattle.golf_meaning_source.specs.Does.{Stored, SlotsRise, Apart}

-- the last local with a name

abbrev pub last : List Local → List ℕ → Option Local
last [] n = None
last (d ∷ ds) n = first_some (last ds n) (here (bytes_eq n d.name) d)

first-first : (a : Option Local) (b : Bool) (d : Local) (f : Option Local)
    → first_some a (cond b (Some d) f) ≡ first_some (first_some a (here b d)) f
first-first None true d f = refl
first-first None false d f = refl
first-first (Some x) b d f = refl

first-none : (a : Option Local) → first_some a None ≡ a
first-none None = refl
first-none (Some x) = refl

look-from-last : (ds : List Local) (n : List ℕ) (f : Option Local) → look_from f ds n ≡ first_some (last ds n) f
look-from-last [] n f = refl
look-from-last (d ∷ ds) n f = look-from-last ds n (cond (bytes_eq n d.name) (Some d) f)
    ∙ first-first (last ds n) (bytes_eq n d.name) d f

pub look-last : (ds : List Local) (n : List ℕ) → look ds n ≡ last ds n
look-last ds n = look-from-last ds n None ∙ first-none (last ds n)

-- the last local and the last value of a name go together

abbrev pub Together : List Value → Option Local → Option Value → Type 0
Together slots None None = Unit {0}
Together slots None (Some v) = ⊥
Together slots (Some d) None = ⊥
Together slots (Some d) (Some v) = slice_get slots d.slot ≡ Some v

one-together : (slots : List Value) (b : Bool) (d : Local) (v : Value) (a : Option Local) (o : Option Value)
    → slice_get slots d.slot ≡ Some v → Together slots a o
    → Together slots (first_some a (here b d)) (first_some o (here b v))
one-together slots true d v None None e h = e
one-together slots false d v None None e h = tt
one-together slots b d v None (Some y) e h = absurd h
one-together slots b d v (Some x) None e h = absurd h
one-together slots b d v (Some x) (Some y) e h = h

pub together : (ds : List Local) (env : Env) (slots : List Value) (n : List ℕ) → Stored ds env slots
    → Together slots (last ds n) (find env n)
together [] [] slots n h = tt
together [] (x ∷ xs) slots n h = absurd h
together (d ∷ ds) [] slots n h = absurd h
together (d ∷ ds) (x ∷ xs) slots n h =
    subst (λ m. Together slots (first_some (last ds n) (here (bytes_eq n d.name) d))
    (first_some (find xs n) (here (bytes_eq n m) x.value))) (sym h.0)
    (one-together slots (bytes_eq n d.name) d x.value (last ds n) (find xs n) h.1 (together ds xs slots n h.2))

-- slots that are set

pub set-other : (xs : List Value) (i j : ℕ) (v : Value) → (j ≡ i → ⊥) → slice_get (slice_set xs i v) j ≡ slice_get xs j
set-other [] i j v n = refl
set-other (x ∷ xs) zero zero v n = absurd (n refl)
set-other (x ∷ xs) zero (suc j) v n = refl
set-other (x ∷ xs) (suc i) zero v n = refl
set-other (x ∷ xs) (suc i) (suc j) v n = set-other xs i j v (λ e. n (ap suc e))

pub set-same : (xs : List Value) (i : ℕ) (v : Value) → i < length xs → slice_get (slice_set xs i v) i ≡ Some v
set-same [] i v h = absurd (omega (arith, h))
set-same (x ∷ xs) zero v h = refl
set-same (x ∷ xs) (suc i) v h = set-same xs i v (omega (arith, h))

stored-above : (ds : List Local) (env : Env) (slots : List Value) (i low high : ℕ) (v : Value) → i < low
    → SlotsRise low high ds → Stored ds env slots → Stored ds env (slice_set slots i v)
stored-above [] [] slots i low high v lt r h = tt
stored-above [] (x ∷ xs) slots i low high v lt r h = absurd h
stored-above (d ∷ ds) [] slots i low high v lt r h = absurd h
stored-above (d ∷ ds) (x ∷ xs) slots i low high v lt r h =
    let le = r.0 in (
      h.0,
      set-other slots i d.slot v (λ e. omega (arith, e, lt, le)) ∙ h.1,
      stored-above ds xs slots i (d.slot + 1) high v (omega (arith, lt, le)) r.1 h.2,
    )

pub stored-below : (ds : List Local) (env : Env) (slots : List Value) (i low high : ℕ) (v : Value) → high ≤ i
    → SlotsRise low high ds → Stored ds env slots → Stored ds env (slice_set slots i v)
stored-below [] [] slots i low high v le r h = tt
stored-below [] (x ∷ xs) slots i low high v le r h = absurd h
stored-below (d ∷ ds) [] slots i low high v le r h = absurd h
stored-below (d ∷ ds) (x ∷ xs) slots i low high v le r h =
    let under = rising-reaches ds (d.slot + 1) high r.1 in (
      h.0,
      set-other slots i d.slot v (λ e. omega (arith, e, le, under)) ∙ h.1,
      stored-below ds xs slots i (d.slot + 1) high v le r.1 h.2,
    )
  where
    rising-reaches : (es : List Local) (a b : ℕ) → SlotsRise a b es → a ≤ b
    rising-reaches [] a b h = h
    rising-reaches (e ∷ es) a b h = let k = rising-reaches es (e.slot + 1) b h.1 in let l = h.0 in omega (arith, k, l)

last-low : (ds : List Local) (n : List ℕ) (low high : ℕ) (d : Local) → SlotsRise low high ds → last ds n ≡ Some d
    → low ≤ d.slot
last-low [] n low high d r e = absurd (cc)
last-low (x ∷ ds) n low high d r e = by (last ds n) refl (λ f. last-low ds n (x.slot + 1) high d r.1 f)
  where
    by : (o : Option Local) → last ds n ≡ o → (last ds n ≡ Some d → x.slot + 1 ≤ d.slot) → low ≤ d.slot
    by (Some y) f rec =
        let same : y ≡ d = some-of y d (sym (ap (λ a. first_some a (here (bytes_eq n x.name) x)) f) ∙ e) in
        let l = r.0 in
        let k = rec (f ∙ ap Some same) in
        omega (arith, l, k)
      where
        some-of : (a b : Local) → Some a ≡ Some b → a ≡ b
        some-of a b q = cc
    by None f rec = one (bytes_eq n x.name) (sym (ap (λ a. first_some a (here (bytes_eq n x.name) x)) f) ∙ e)
      where
        one : (b : Bool) → here b x ≡ Some d → low ≤ d.slot
        one true q = let same : x ≡ d = cc in subst (λ z. low ≤ z.slot) same r.0
        one false q = cc

-- a name is that of a local, whose slot is there, and the locals have their values in slots that rise
pub record IsLocal (ds : List Local) (env : Env) (slots : List Value) (n : List ℕ) (low high : ℕ)
    (d : Local) : Type 0 where
  pub rising : SlotsRise low high ds
  pub stored : Stored ds env slots
  pub means : last ds n ≡ Some d
  pub within : d.slot < length slots

-- a name that is there gets a value, and so does its slot
pub stored-assign : {slots : List Value} {n : List ℕ} {low high : ℕ} {d : Local} (ds : List Local) (env : Env)
    (v : Value) → IsLocal ds env slots n low high d → Stored ds (assign env n v) (slice_set slots d.slot v)
stored-assign [] [] v is = let e = is.means in cc
stored-assign [] (x ∷ xs) v is = absurd is.stored
stored-assign (k ∷ ds) [] v is = absurd is.stored
stored-assign {slots} {n} {low} {high} {d} (k ∷ ds) (x ∷ xs) v is =
    by (last ds n) (find xs n) refl refl (together ds xs slots n is.stored.2) (λ f.
    let below : IsLocal ds xs slots n (k.slot + 1) high d =
    record { rising = is.rising.1; stored = is.stored.2; means = f; within = is.within } in
    stored-assign {low = k.slot + 1} ds xs v below)
  where
    by : (a : Option Local) (o : Option Value) → last ds n ≡ a → find xs n ≡ o → Together slots a o
        → (last ds n ≡ Some d → Stored ds (assign xs n v) (slice_set slots d.slot v))
        → Stored (k ∷ ds) (assign (x ∷ xs) n v) (slice_set slots d.slot v)
    by None (Some y) f g t rec = absurd t
    by (Some z) None f g t rec = absurd t
    by (Some z) (Some y) f g t rec =
        let same : z ≡ d = the-one z (sym (ap (λ a. first_some a (here (bytes_eq n k.name) k)) f) ∙ is.means) in
        let low2 = last-low ds n (k.slot + 1) high d is.rising.1 (f ∙ ap Some same) in
        subst (λ o. Stored (k ∷ ds) (cond (is_some o) (x ∷ assign xs n v)
        (cond (bytes_eq n x.name) (record { name = x.name; value = v } ∷ xs) (x ∷ xs))) (slice_set slots d.slot v))
        (sym g) (
          is.stored.0,
          set-other slots d.slot k.slot v (λ q. omega (arith, q, low2)) ∙ is.stored.1,
          rec (f ∙ ap Some same),
        )
      where
        the-one : (z : Local) → Some z ≡ Some d → z ≡ d
        the-one z q = cc
    by None None f g t rec =
        subst (λ o. Stored (k ∷ ds) (cond (is_some o) (x ∷ assign xs n v)
        (cond (bytes_eq n x.name) (record { name = x.name; value = v } ∷ xs) (x ∷ xs))) (slice_set slots d.slot v))
        (sym g)
        (subst (λ m. Stored (k ∷ ds) (cond (bytes_eq n m) (record { name = x.name; value = v } ∷ xs) (x ∷ xs))
        (slice_set slots d.slot v)) (sym is.stored.0)
        (one (bytes_eq n k.name) (sym (ap (λ a. first_some a (here (bytes_eq n k.name) k)) f) ∙ is.means)))
      where
        one : (b : Bool) → here b k ≡ Some d → Stored (k ∷ ds)
            (cond b (record { name = x.name; value = v } ∷ xs) (x ∷ xs)) (slice_set slots d.slot v)
        one true q =
            let same : k ≡ d = cc in
            subst (λ z. Stored (k ∷ ds) (record { name = x.name; value = v } ∷ xs) (slice_set slots z.slot v)) same (
              is.stored.0,
              set-same slots k.slot v (slice_get_within slots k.slot x.value is.stored.1),
              stored-above ds xs slots k.slot (k.slot + 1) high v (omega arith) is.rising.1 is.stored.2,
            )
        one false q = cc

-- whoever is apart from the locals is apart from each
pub apart-last : (ds : List Local) (n : List ℕ) (i : ℕ) (d : Local) → Apart i ds → last ds n ≡ Some d → d.slot ≡ i → ⊥
apart-last [] n i d h e = cc
apart-last (x ∷ ds) n i d h e = by (last ds n) refl (λ f. apart-last ds n i d h.1 f)
  where
    by : (o : Option Local) → last ds n ≡ o → (last ds n ≡ Some d → d.slot ≡ i → ⊥) → d.slot ≡ i → ⊥
    by (Some y) f rec =
        let same : y ≡ d = some-of y d (sym (ap (λ a. first_some a (here (bytes_eq n x.name) x)) f) ∙ e) in
        rec (f ∙ ap Some same)
      where
        some-of : (a b : Local) → Some a ≡ Some b → a ≡ b
        some-of a b q = cc
    by None f rec = one (bytes_eq n x.name) (sym (ap (λ a. first_some a (here (bytes_eq n x.name) x)) f) ∙ e)
      where
        one : (b : Bool) → here b x ≡ Some d → d.slot ≡ i → ⊥
        one true q = let same : x ≡ d = cc in subst (λ z. z.slot ≡ i → ⊥) same h.0
        one false q = cc
