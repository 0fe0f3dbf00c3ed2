-- What changes of a map from names to places leave at each name, and where a look-up finds.
-- For: `Locals::look`, `add_place` and `take_place`, src/locals.rt; `places_from`, specs/Places.antt
-- By: induction over the list of local names
use Rattle.std.proofs.Common.{◌≡◌, ℕ, ◌+◌, ◌-◌, Bool, true, false, cond, List, [], ◌∷◌, ◌++◌, length, take, refl, sym}
use Rattle.std.proofs.Common.{ap, subst, ◌∙◌, append_assoc, append-nil, ◌<◌, ◌≤◌, Bor, inl, inr, ◌⊎◌, arith}
use Rattle.std.specs.Prelude.{Option, Some, None, nat_eq, unwrap_or, slice_get, if◌then◌else◌, MatchOption}
use Rattle.std.specs.Option.{option_and_then, option_map}
use Rattle.std.specs.Str.{bytes_eq}
use Rattle.std.specs.Cmp.Lexicographic.{pointwise, bytes_decides, nat_list_eq_equiv}
use Rattle.std.specs.Global.{Vec}
use Rattle.std.specs.HashMap.{HashMap, get_by, UpdatesBy}
use Rattle.std.specs.Map.{lookup, IsKeyTest, AreApart, KeepsOthers}
use Rattle.std.proofs.lemmas.Bool.{cases_Bool, cond-true, cond-false}
use Rattle.std.proofs.lemmas.Option.{slice_get-get_or, slice_get_past}
use Rattle.std.specs.List.{HoldsAt}
use Rattle.std.proofs.lemmas.Grind.{common_steps}
use Rattle.std.proofs.Math.Seq.{get_or-append_seam, take-append_seam}
use Rattle.golf_check_types.specs.declared.locals.Local.{Local}
use Rattle.golf_check_types.specs.Names.{look_from, look}
use Rattle.golf_check_types.specs.Places.{places_from, places_in, places_at, with_place, without_place, last_place}

apart : (bs cs ks : List ℕ) → bytes_eq bs cs ≡ false → bytes_eq bs ks ≡ true → bytes_eq cs ks ≡ false
apart bs cs ks n y = nat_list_eq_equiv.symm cs ks ∙ sym (nat_list_eq_equiv.congr bs ks cs y) ∙ n

abbrev same_vec : Vec ℕ → Vec ℕ → Bool
same_vec x y = pointwise nat_eq x.items y.items

abbrev is_vec : List ℕ → Vec ℕ → Bool
is_vec bs k = pointwise nat_eq bs k.items

other_entries : {X : Type 0} (test : Vec ℕ → Bool) (old new : List (Vec ℕ × X)) → KeepsOthers same_vec test old new
    → (other : Vec ℕ → Bool) → IsKeyTest same_vec other → AreApart test other → lookup other new ≡ lookup other old
unfolding KeepsOthers
other_entries test old new h = h

-- g is w at bs, and f at other bytes
by_bytes : {W : Type 0} (f g : List ℕ → W) (bs : List ℕ) (w : W) → g bs ≡ w
    → ((cs : List ℕ) → bytes_eq bs cs ≡ false → g cs ≡ f cs) → (cs : List ℕ) → g cs ≡ cond (bytes_eq bs cs) w (f cs)
by_bytes f g bs w here other cs = at (cases_Bool (bytes_eq bs cs))
  where
    at : (bytes_eq bs cs ≡ true) ⊎ (bytes_eq bs cs ≡ false) → g cs ≡ cond (bytes_eq bs cs) w (f cs)
    at (inl y) = subst (λ l. g l ≡ w) ((bytes_decides bs cs).0 y) here ∙ sym (cond-true (bytes_eq bs cs) w (f cs) y)
    at (inr n) = other cs n ∙ sym (cond-false (bytes_eq bs cs) w (f cs) n)

-- a change at these bytes
changed : {X S : Type 0} (bs : List ℕ) (m n : HashMap (Vec ℕ) X S) (w : Option X) → UpdatesBy same_vec (is_vec bs) m n w
    → (cs : List ℕ) → get_by (is_vec cs) n ≡ cond (bytes_eq bs cs) w (get_by (is_vec cs) m)
changed bs m n w h = by_bytes (λ cs. get_by (is_vec cs) m) (λ cs. get_by (is_vec cs) n) bs w h.1
    (λ cs e. other_entries _ _ _ h.3 _ (λ x y. nat_list_eq_equiv.congr cs x.items y.items) (λ k. apart bs cs k.items e))

-- the places of a name are taken out of a map, and others are put in, under a key of the same bytes
pub record PutAnew {S : Type 0} (name : List ℕ) (m new : HashMap (Vec ℕ) (List ℕ) S) (own : List ℕ) : Type 0 where
  pub key : Vec ℕ
  pub between : HashMap (Vec ℕ) (List ℕ) S
  pub places : List ℕ
  pub key_is : key.items ≡ name
  pub places_are : places ≡ own
  pub removed : UpdatesBy same_vec (is_vec name) m between None
  pub inserted : UpdatesBy same_vec (is_vec key.items) between new (Some places)

-- what is put in place of what was taken out
pub put_law : {S : Type 0} (name : List ℕ) (m new : HashMap (Vec ℕ) (List ℕ) S) (own : List ℕ) → PutAnew name m new own
    → (n : List ℕ) → places_at new n ≡ cond (bytes_eq name n) own (places_at m n)
put_law name m new own put n =
    ap (λ o. unwrap_or o []) (changed put.key.items put.between new (Some put.places) put.inserted n
    ∙ ap (λ o. cond (bytes_eq put.key.items n) (Some put.places) o) (changed name m put.between None put.removed n))
    ∙ ap (λ k. unwrap_or (cond (bytes_eq k n) (Some put.places) (cond (bytes_eq name n) None (get_by (is_vec n) m))) [])
    put.key_is
    ∙ ap (λ v. unwrap_or (cond (bytes_eq name n) (Some v) (cond (bytes_eq name n) None (get_by (is_vec n) m))) [])
    put.places_are
    ∙ at (bytes_eq name n) (get_by (is_vec n) m)
  where
    at : (b : Bool) (o : Option (List ℕ)) → unwrap_or (cond b (Some own) (cond b None o)) [] ≡ cond b own
        (unwrap_or o [])
    at true o = refl
    at false o = refl

-- a value that speaks of the name itself speaks of each name that is equal
pub at_name : (name n : List ℕ) (P : List ℕ → List ℕ) (f : List ℕ → List ℕ)
    → cond (bytes_eq name n) (f (P name)) (P n) ≡ (if bytes_eq name n then f (P n) else P n)
at_name name n P f = at (cases_Bool (bytes_eq name n))
  where
    at : (bytes_eq name n ≡ true) ⊎ (bytes_eq name n ≡ false)
        → cond (bytes_eq name n) (f (P name)) (P n) ≡ (if bytes_eq name n then f (P n) else P n)
    at (inl y) = cond-true (bytes_eq name n) _ _ y ∙ ap (λ k. f (P k)) ((bytes_decides name n).0 y)
        ∙ sym (cond-true (bytes_eq name n) _ _ y)
    at (inr e) = cond-false (bytes_eq name n) _ _ e ∙ sym (cond-false (bytes_eq name n) _ _ e)

-- the places when one variable more comes

pub places_from-push : (at : ℕ) (ds : List Local) (d : Local) (n : List ℕ)
    → places_from at (ds ++ d ∷ []) n ≡ cond (bytes_eq n d.name) (places_from at ds n ++ (at + length ds) ∷ [])
    (places_from at ds n)
places_from-push at [] d n = ap (λ k. cond (bytes_eq n d.name) (k ∷ []) []) (let e : at ≡ at + 0 = omega arith in e)
places_from-push at (x ∷ ds) d n =
    ap (λ ps. cond (bytes_eq n x.name) (at ∷ ps) ps) (places_from-push (at + 1) ds d n)
    ∙ by (bytes_eq n x.name) (bytes_eq n d.name) (places_from (at + 1) ds n)
    ∙ ap (λ k. cond (bytes_eq n d.name) (cond (bytes_eq n x.name) (at ∷ places_from (at + 1) ds n)
    (places_from (at + 1) ds n) ++ k ∷ [])
    (cond (bytes_eq n x.name) (at ∷ places_from (at + 1) ds n) (places_from (at + 1) ds n)))
    (let e : at + 1 + length ds ≡ at + length (x ∷ ds) = omega arith in e)
  where
    by : (b c : Bool) (ps : List ℕ) → cond b (at ∷ cond c (ps ++ (at + 1 + length ds) ∷ []) ps)
        (cond c (ps ++ (at + 1 + length ds) ∷ []) ps) ≡ cond c (cond b (at ∷ ps) ps ++ (at + 1 + length ds) ∷ [])
        (cond b (at ∷ ps) ps)
    by true true ps = refl
    by true false ps = refl
    by false true ps = refl
    by false false ps = refl

-- where a look-up finds

seam : {A : Type 0} (xs : List A) (x : A) (ys : List A) → slice_get (xs ++ x ∷ ys) (length xs) ≡ Some x
seam xs x ys = let inside : length xs < length (xs ++ x ∷ ys) =
    grind (arith, common_steps) in slice_get-get_or (xs ++ x ∷ ys) (length xs) x inside
    ∙ ap Some (get_or-append_seam xs x ys x)

last_place-push : (ps : List ℕ) (p : ℕ) → last_place (ps ++ p ∷ []) ≡ Some p
last_place-push ps p = ap (slice_get (ps ++ p ∷ []))
    (let e : length (ps ++ p ∷ []) - 1 ≡ length ps = grind (arith, common_steps) in e) ∙ seam ps p []

abbrev found_at : List Local → List ℕ → Option Local
found_at ds ps = option_and_then (slice_get ds) (last_place ps)

step : (pre : List Local) (d : Local) (ds : List Local) (n : List ℕ) (found : Option Local) (ps : List ℕ)
    → found ≡ found_at (pre ++ d ∷ ds) ps → (b : Bool)
    → ((f : Option Local) (qs : List ℕ) → f ≡ found_at ((pre ++ d ∷ []) ++ ds) qs
    → look_from f ds n ≡ found_at ((pre ++ d ∷ []) ++ ds) (qs ++ places_from (length (pre ++ d ∷ [])) ds n))
    → look_from (cond b (Some d) found) ds n ≡ found_at (pre ++ d ∷ ds)
    (ps ++ cond b (length pre ∷ places_from (length pre + 1) ds n) (places_from (length pre + 1) ds n))
step pre d ds n found ps h b more = at b
  where
    same : (pre ++ d ∷ []) ++ ds ≡ pre ++ d ∷ ds
    same = append_assoc pre (d ∷ []) ds

    longer : length (pre ++ d ∷ []) ≡ length pre + 1
    longer = grind (arith, common_steps)

    next : (f : Option Local) (qs : List ℕ) → f ≡ found_at (pre ++ d ∷ ds) qs
        → look_from f ds n ≡ found_at (pre ++ d ∷ ds) (qs ++ places_from (length pre + 1) ds n)
    next f qs e =
        more f qs (e ∙ ap (λ l. found_at l qs) (sym same))
        ∙ ap (λ l. found_at l (qs ++ places_from (length (pre ++ d ∷ [])) ds n)) same
        ∙ ap (λ k. found_at (pre ++ d ∷ ds) (qs ++ places_from k ds n)) longer

    at : (b : Bool) → look_from (cond b (Some d) found) ds n ≡ found_at (pre ++ d ∷ ds)
        (ps ++ cond b (length pre ∷ places_from (length pre + 1) ds n) (places_from (length pre + 1) ds n))
    at true = next (Some d) (ps ++ length pre ∷ [])
        (sym (ap (option_and_then (slice_get (pre ++ d ∷ ds))) (last_place-push ps (length pre)) ∙ seam pre d ds))
        ∙ ap (found_at (pre ++ d ∷ ds)) (append_assoc ps (length pre ∷ []) (places_from (length pre + 1) ds n))
    at false = next found ps h

look_from-places : (pre ds : List Local) (n : List ℕ) (found : Option Local) (ps : List ℕ)
    → found ≡ found_at (pre ++ ds) ps → look_from found ds n ≡ found_at (pre ++ ds)
    (ps ++ places_from (length pre) ds n)
look_from-places pre [] n found ps h = h ∙ ap (found_at (pre ++ [])) (sym (append-nil ps))
look_from-places pre (d ∷ ds) n found ps h =
    step pre d ds n found ps h (bytes_eq n d.name) (λ f qs e. look_from-places (pre ++ d ∷ []) ds n f qs e)

pub look-places : (ds : List Local) (n : List ℕ)
    → look ds n ≡ option_and_then (slice_get ds) (last_place (places_in ds n))
look-places ds n = look_from-places [] ds n None [] refl

-- a list without what was taken from its end
pub popped : (old new : List ℕ) (last : Option ℕ)
    → MatchOption last ((old ≡ []) × (new ≡ [])) (λ x. old ≡ new ++ x ∷ []) → new ≡ without_place old
popped old new None h = h.1 ∙ ap without_place (sym h.0)
popped old new (Some x) h = sym (take-append_seam new (x ∷ [])) ∙ ap (λ l. take (length new) l) (sym h)
    ∙ ap (λ k. take k old) (let e : length new ≡ length old - 1 = let l : length old ≡ length new + 1 = ap length h
    ∙ grind (arith, common_steps) in omega arith in e)

-- what `get` gives of a slice
pub got : {X : Type 0} (xs : List X) (i : ℕ) (r : Option (Bor X))
    → MatchOption r (length xs ≤ i) (λ x. (i < length xs) × HoldsAt (λ y. x.now ≡ y) xs i)
    → option_map (λ r. r.now) r ≡ slice_get xs i
got xs i None h = sym (slice_get_past xs i h)
got xs i (Some x) h = ap Some (h.1 x.now) ∙ sym (slice_get-get_or xs i x.now h.0)

-- An added variable, and the map with its place.
pub invariant-add : {S : Type 0} (m n : HashMap (Vec ℕ) (List ℕ) S) (ds : List Local) (d : Local)
    → ((q : List ℕ) → places_at m q ≡ places_in ds q)
    → ((q : List ℕ) → places_at n q ≡ (if bytes_eq d.name q then with_place (places_at m q)
    (length ds) else places_at m q)) → (q : List ℕ) → places_at n q ≡ places_in (ds ++ d ∷ []) q
invariant-add m n ds d old step q =
    step q
    ∙ ap (λ ps. cond (bytes_eq d.name q) (ps ++ length ds ∷ []) ps) (old q)
    ∙ ap (λ b. cond b (places_in ds q ++ length ds ∷ []) (places_in ds q)) (nat_list_eq_equiv.symm d.name q)
    ∙ sym (places_from-push 0 ds d q ∙ ap (λ k. cond (bytes_eq q d.name) (places_in ds q ++ k ∷ []) (places_in ds q))
    (let e : 0 + length ds ≡ length ds = omega arith in e))

-- The last variable goes, and its place.
pub invariant-drop : {S : Type 0} (m n : HashMap (Vec ℕ) (List ℕ) S) (ds : List Local) (d : Local)
    → ((q : List ℕ) → places_at m q ≡ places_in (ds ++ d ∷ []) q)
    → ((q : List ℕ) → places_at n q ≡ (if bytes_eq d.name q then without_place (places_at m q) else places_at m q))
    → (q : List ℕ) → places_at n q ≡ places_in ds q
invariant-drop m n ds d old step q =
    step q
    ∙ ap (λ ps. cond (bytes_eq d.name q) (without_place ps) ps) (old q ∙ places_from-push 0 ds d q)
    ∙ ap (λ b. cond b (without_place (cond (bytes_eq q d.name) (places_in ds q ++ (0 + length ds) ∷ [])
    (places_in ds q))) (cond (bytes_eq q d.name) (places_in ds q ++ (0 + length ds) ∷ []) (places_in ds q)))
    (nat_list_eq_equiv.symm d.name q)
    ∙ at (bytes_eq q d.name)
  where
    at : (b : Bool) → cond b (without_place (cond b (places_in ds q ++ (0 + length ds) ∷ []) (places_in ds q)))
        (cond b (places_in ds q ++ (0 + length ds) ∷ []) (places_in ds q)) ≡ places_in ds q
    at true = sym (popped (places_in ds q ++ (0 + length ds) ∷ []) (places_in ds q) (Some (0 + length ds)) refl)
    at false = refl
