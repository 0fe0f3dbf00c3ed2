-- Members of lists, and what each member has.
-- For: `In` and `Every`, specs/Membership.antt
-- By: induction over the list
use Rattle.std.proofs.Common.{◌≡◌, ℕ, zero, suc, ◌<◌, Bool, true, false, cond, List, [], ◌∷◌, ◌++◌, map, length, get_or}
use Rattle.std.proofs.Common.{Some, ◌⊎◌, inl, inr, refl, sym, ap, ◌∙◌, subst, arith, slice_set, slice_get, filter}
use Rattle.std.proofs.Common.{Contains}
use Rattle.golf_theory.specs.Membership.{In, Every}

pub In-left : {X : Type 0} (x : X) (xs ys : List X) → In x xs → In x (xs ++ ys)
In-left x [] ys h = absurd h
In-left x (y ∷ xs) ys (inl e) = inl e
In-left x (y ∷ xs) ys (inr h) = inr (In-left x xs ys h)

pub In-right : {X : Type 0} (x : X) (xs ys : List X) → In x ys → In x (xs ++ ys)
In-right x [] ys h = h
In-right x (y ∷ xs) ys h = inr (In-right x xs ys h)

pub In-cases : {X : Type 0} (x : X) (xs ys : List X) → In x (xs ++ ys) → In x xs ⊎ In x ys
In-cases x [] ys h = inr h
In-cases x (y ∷ xs) ys (inl e) = inl (inl e)
In-cases x (y ∷ xs) ys (inr h) = elim (In-cases x xs ys h) [ inl a ↦ inl (inr a) | inr a ↦ inr a ]

pub In-push : {X : Type 0} (x : X) (xs : List X) → In x (xs ++ x ∷ [])
In-push x [] = inl refl
In-push x (y ∷ xs) = inr (In-push x xs)

pub In-map : {X Y : Type 0} (f : X → Y) (x : X) (xs : List X) → In x xs → In (f x) (map f xs)
In-map f x [] h = absurd h
In-map f x (y ∷ xs) (inl e) = inl (ap f e)
In-map f x (y ∷ xs) (inr h) = inr (In-map f x xs h)

pub In-map_back : {X Y : Type 0} (f : X → Y) (y : Y) (xs : List X) → In y (map f xs) → (x : X) × (y ≡ f x) × In x xs
In-map_back f y [] h = absurd h
In-map_back f y (x ∷ xs) (inl e) = (x, e, inl refl)
In-map_back f y (x ∷ xs) (inr h) = let r = In-map_back f y xs h in (r.0, r.1, inr r.2)

pub In-filter : {X : Type 0} (p : X → Bool) (x : X) (xs : List X) → In x (filter p xs) → In x xs × (p x ≡ true)
In-filter p x [] h = absurd h
In-filter p x (y ∷ ys) h =
    elim (p y) as (λ b. p y ≡ b → In x (cond b (y ∷ filter p ys) (filter p ys)) → In x (y ∷ ys) × (p x ≡ true)) [
      | true ↦ λ t i. elim i [ inl e ↦ (inl e, ap p e ∙ t) | inr a ↦ let r = In-filter p x ys a in (inr r.0, r.1) ]
      | false ↦ λ t i. let r = In-filter p x ys i in (inr r.0, r.1)
    ] refl h

pub In-filter_old : {X : Type 0} (p : X → Bool) (x : X) (xs : List X) → p x ≡ true → In x xs → In x (filter p xs)
In-filter_old p x [] t h = absurd h
In-filter_old p x (y ∷ ys) t h =
    elim (p y) as (λ b. p y ≡ b → In x (cond b (y ∷ filter p ys) (filter p ys))) [
      | true ↦ λ u. elim h [ inl e ↦ inl e | inr a ↦ inr (In-filter_old p x ys t a) ]
      | false ↦ λ u. elim h [ inl e ↦ cc (sym (ap p e)) | inr a ↦ In-filter_old p x ys t a ]
    ] refl

pub In-slice_get : {X : Type 0} (xs : List X) (i : ℕ) (x : X) → slice_get xs i ≡ Some x → In x xs
In-slice_get [] i x h = cc
In-slice_get (y ∷ ys) zero x h = inl (cc)
In-slice_get (y ∷ ys) (suc i) x h = inr (In-slice_get ys i x h)

pub In-get_or : {X : Type 0} (xs : List X) (i : ℕ) (d : X) → i < length xs → In (get_or xs i d) xs
In-get_or [] i d h = absurd (omega arith)
In-get_or (y ∷ ys) zero d h = inl refl
In-get_or (y ∷ ys) (suc i) d h = inr (In-get_or ys i d (omega arith))

-- the library's membership by place is the same
pub In-Contains : {X : Type 0} (xs : List X) (x : X) → Contains xs x → In x xs
In-Contains [] x (k, l, e) = absurd (omega arith)
In-Contains (y ∷ ys) x (zero, l, e) = inl (sym e)
In-Contains (y ∷ ys) x (suc k, l, e) = inr (In-Contains ys x (k, omega arith, e))

pub Contains-In : {X : Type 0} (xs : List X) (x : X) → In x xs → Contains xs x
Contains-In [] x h = absurd h
Contains-In (y ∷ ys) x (inl e) = (zero, omega arith, sym e)
Contains-In (y ∷ ys) x (inr h) = let r = Contains-In ys x h in (suc r.0, omega (arith, r.1), r.2)

module _ {X : Type 0} (P : X → Type 0) where
  pub Every-at : (xs : List X) (x : X) → Every P xs → In x xs → P x
  Every-at [] x a h = absurd h
  Every-at (y ∷ ys) x a (inl e) = subst P (sym e) a.0
  Every-at (y ∷ ys) x a (inr h) = Every-at ys x a.1 h

  pub Every-from : (xs : List X) → ((x : X) → In x xs → P x) → Every P xs
  Every-from [] f = tt
  Every-from (x ∷ xs) f = (f x (inl refl), Every-from xs (λ y h. f y (inr h)))

  pub Every-append : (xs ys : List X) → Every P xs → Every P ys → Every P (xs ++ ys)
  Every-append [] ys a b = b
  Every-append (x ∷ xs) ys a b = (a.0, Every-append xs ys a.1 b)

  pub Every-left : (xs ys : List X) → Every P (xs ++ ys) → Every P xs
  Every-left [] ys a = tt
  Every-left (x ∷ xs) ys a = (a.0, Every-left xs ys a.1)

  pub Every-right : (xs ys : List X) → Every P (xs ++ ys) → Every P ys
  Every-right [] ys a = a
  Every-right (x ∷ xs) ys a = Every-right xs ys a.1

  pub Every-push : (xs : List X) (x : X) → Every P xs → P x → Every P (xs ++ x ∷ [])
  Every-push [] x a b = (b, tt)
  Every-push (y ∷ xs) x a b = (a.0, Every-push xs x a.1 b)

  pub Every-slice_set : (xs : List X) (i : ℕ) (v : X) → P v → Every P xs → Every P (slice_set xs i v)
  Every-slice_set [] i v a b = tt
  Every-slice_set (x ∷ xs) zero v a b = (a, b.1)
  Every-slice_set (x ∷ xs) (suc i) v a b = (b.0, Every-slice_set xs i v a b.1)

  pub Every-slice_get : (xs : List X) (i : ℕ) (x : X) → Every P xs → slice_get xs i ≡ Some x → P x
  Every-slice_get xs i x a e = Every-at xs x a (In-slice_get xs i x e)

pub Every-weaker : {X : Type 0} (P Q : X → Type 0) → ((x : X) → P x → Q x) → (xs : List X) → Every P xs → Every Q xs
Every-weaker P Q f [] a = tt
Every-weaker P Q f (x ∷ xs) a = (f x a.0, Every-weaker P Q f xs a.1)

pub Every-both : {X : Type 0} (P Q : X → Type 0) (xs : List X) → Every P xs → Every Q xs → Every (λ x. P x × Q x) xs
Every-both P Q [] a b = tt
Every-both P Q (x ∷ xs) a b = ((a.0, b.0), Every-both P Q xs a.1 b.1)

pub Every-map : {X Y : Type 0} (P : Y → Type 0) (f : X → Y) (xs : List X) → Every (λ x. P (f x)) xs → Every P (map f xs)
Every-map P f [] a = tt
Every-map P f (x ∷ xs) a = (a.0, Every-map P f xs a.1)

-- a filter that all members pass leaves the list, and one that none passes leaves nothing
pub filter-all : {X : Type 0} (p : X → Bool) (xs : List X) → Every (λ x. p x ≡ true) xs → filter p xs ≡ xs
filter-all p [] a = refl
filter-all p (x ∷ xs) a = ap (λ b. cond b (x ∷ filter p xs) (filter p xs)) a.0
    ∙ ap (λ (r : List _). x ∷ r) (filter-all p xs a.1)

pub filter-same : {X : Type 0} (p q : X → Bool) (xs : List X) → Every (λ x. p x ≡ q x) xs → filter p xs ≡ filter q xs
filter-same p q [] a = refl
filter-same p q (x ∷ xs) a = ap (λ b. cond b (x ∷ filter p xs) (filter p xs)) a.0
    ∙ ap (λ r. cond (q x) (x ∷ r) r) (filter-same p q xs a.1)

-- a filter after one that lets all of its own through
pub filter-within : {X : Type 0} (p q : X → Bool) (xs : List X) → ((x : X) → p x ≡ true → q x ≡ true)
    → filter p (filter q xs) ≡ filter p xs
filter-within p q [] h = refl
filter-within p q (x ∷ xs) h =
    let rest = filter-within p q xs h in
    elim (q x) as (λ b. q x ≡ b → filter p (cond b (x ∷ filter q xs) (filter q xs)) ≡ cond (p x) (x ∷ filter p xs)
    (filter p xs)) [
      | true ↦ λ t. ap (λ (r : List _). cond (p x) (x ∷ r) r) rest
      | false ↦ λ t. rest ∙ elim (p x) as (λ b. p x ≡ b → filter p xs ≡ cond b (x ∷ filter p xs) (filter p xs)) [
        | true ↦ λ u. cc (h x u)
        | false ↦ λ u. refl
      ] refl
    ] refl

pub filter-swap : {X : Type 0} (p q : X → Bool) (xs : List X) → filter p (filter q xs) ≡ filter q (filter p xs)
filter-swap p q [] = refl
filter-swap p q (x ∷ xs) =
    let rest = filter-swap p q xs in
    elim (q x) as (λ b. q x ≡ b → filter p (cond b (x ∷ filter q xs) (filter q xs)) ≡ filter q
    (cond (p x) (x ∷ filter p xs) (filter p xs))) [
      | true ↦ λ t. elim (p x) as (λ c. cond c (x ∷ filter p (filter q xs)) (filter p (filter q xs)) ≡ filter q
          (cond c (x ∷ filter p xs) (filter p xs))) [
            | true ↦ ap (λ (r : List _). x ∷ r) rest
                ∙ ap (λ b. cond b (x ∷ filter q (filter p xs)) (filter q (filter p xs))) (sym t)
            | false ↦ rest
          ]
      | false ↦ λ t. rest ∙ elim (p x) as (λ c. filter q (filter p xs) ≡ filter q
          (cond c (x ∷ filter p xs) (filter p xs))) [
            | true ↦ ap (λ b. cond b (x ∷ filter q (filter p xs)) (filter q (filter p xs))) (sym t)
            | false ↦ refl
          ]
    ] refl
