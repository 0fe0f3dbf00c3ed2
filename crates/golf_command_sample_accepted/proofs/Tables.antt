-- The names of a generated file.
-- For: `part_name`, `parts_before` (golf_command_sample_accepted/specs/Trees.antt)
-- By: induction over the number of parts
use Rattle.std.proofs.Common.{◌≡◌, ℕ, zero, suc, ◌+◌, ◌<◌, ◌^◌, ◌⊎◌, inl, inr, Bool, true, false, cond, refl, sym, ap}
use Rattle.std.proofs.Common.{subst, ◌∙◌, List, [], ◌∷◌, ◌++◌, length, length-append, append_assoc, append-nil, codes}
use Rattle.std.proofs.Common.{decimal, arith}
use Rattle.std.specs.Prelude.{Option, Some, None, slice_get, nat_lt, fold}
use Rattle.std.specs.Str.{bytes_eq}
use Rattle.std.proofs.lemmas.Bool.Decides.{nat_tests}
use Rattle.std.proofs.lemmas.Slice.Eq.{bytes_eq-Decides}
use Rattle.std.proofs.lemmas.Fmt.{decimal_injective}
use Rattle.golf_syntax_trees.specs.declared.declarations.Decl.{Decl}
use Rattle.golf_check_types.specs.declared.scopes.Entity.{Entity}
use Rattle.golf_check_types.specs.declared.scopes.Entity.TheVariants as meant_as
use Rattle.golf_check_types.specs.declared.scopes.Member.TheVariants as members
use Rattle.golf_check_types.specs.declared.scopes.Naming.{Naming}
use Rattle.golf_check_types.specs.Names.{Table, number_of, with_found}
use Rattle.golf_check_types.specs.Files.{decl_added}
use Rattle.golf_command_sample_accepted.specs.Trees.{part_name, part_decl, part_line, parts_before, main_decl}

-- the number of the name of the part after n of them
abbrev pub place : ℕ → ℕ
place n = suc (suc (suc n))

abbrev pub entries : ℕ → Table
entries zero = []
entries (suc n) = entries n ++ (part_name (suc n), place n) ∷ []

abbrev pub meant : ℕ → List Entity
meant zero = []
meant (suc n) = meant n ++ meant_as.Function (suc n) ∷ []

pub below : (j n : ℕ) → j < suc n → (j < n) ⊎ (j ≡ n)
below j n h = at (nat_lt j n) refl
  where
    at : (b : Bool) → nat_lt j n ≡ b → (j < n) ⊎ (j ≡ n)
    at true e = inl (grind (arith, nat_tests))
    at false e = inr (grind (arith, nat_tests))

pub same : (n : List ℕ) → bytes_eq n n ≡ true
same n = (bytes_eq-Decides n n).1 refl

decimals-differ : (k j : ℕ) → k < 2 ^ 64 → j < 2 ^ 64 → j < k → part_name k ≡ part_name j → ⊥
decimals-differ k j big small less e =
    let d : decimal k ≡ decimal j = cc in
    let s = decimal_injective k j big small d in
    omega arith

pub differ : (k j : ℕ) → k < 2 ^ 64 → j < 2 ^ 64 → j < k → bytes_eq (part_name k) (part_name j) ≡ false
differ k j big small less = at (bytes_eq (part_name k) (part_name j)) refl
  where
    at : (b : Bool) → bytes_eq (part_name k) (part_name j) ≡ b → b ≡ false
    at false e = refl
    at true e = absurd (decimals-differ k j big small less ((bytes_eq-Decides (part_name k) (part_name j)).0 e))

-- the names of parts are not this one
pub skip : (n k : ℕ) (rest : Table) → n < k → k < 2 ^ 64
    → number_of (entries n ++ rest) (part_name k) ≡ number_of rest (part_name k)
skip zero k rest less fits = refl
skip (suc n) k rest less fits =
    ap (λ t. number_of t (part_name k)) (append_assoc (entries n) ((part_name (suc n), place n) ∷ []) rest)
    ∙ skip n k ((part_name (suc n), place n) ∷ rest) (omega arith) fits
    ∙ ap (λ b. cond b (Some (place n)) (number_of rest (part_name k))) (differ k (suc n) fits (omega arith) less)

pub skip-word : (word : List ℕ) → ((k : ℕ) → bytes_eq word (part_name k) ≡ false) → (n : ℕ) (rest : Table)
    → number_of (entries n ++ rest) word ≡ number_of rest word
skip-word word other zero rest = refl
skip-word word other (suc n) rest =
    ap (λ t. number_of t word) (append_assoc (entries n) ((part_name (suc n), place n) ∷ []) rest)
    ∙ skip-word word other n ((part_name (suc n), place n) ∷ rest)
    ∙ ap (λ b. cond b (Some (place n)) (number_of rest word)) (other (suc n))

pub found-part : (n j : ℕ) (rest : Table) → j < n → n < 2 ^ 64
    → number_of (entries n ++ rest) (part_name (suc j)) ≡ Some (place j)
found-part zero j rest less fits = absurd (omega arith)
found-part (suc n) j rest less fits =
    ap (λ t. number_of t (part_name (suc j))) (append_assoc (entries n) ((part_name (suc n), place n) ∷ []) rest)
    ∙ at (below j n less) (λ h. found-part n j ((part_name (suc n), place n) ∷ rest) h (omega arith))
  where
    at : (j < n) ⊎ (j ≡ n) → (j < n → number_of (entries n ++ ((part_name (suc n), place n) ∷ rest)) (part_name (suc j))
        ≡ Some (place j)) → number_of (entries n ++ ((part_name (suc n), place n) ∷ rest)) (part_name (suc j)) ≡ Some
        (place j)
    at (inl h) again = again h
    at (inr e) again =
        subst (λ i. number_of (entries n ++ ((part_name (suc n), place n) ∷ rest)) (part_name (suc i)) ≡ Some (place i))
        (sym e)
        (skip n (suc n) ((part_name (suc n), place n) ∷ rest) (omega arith) fits
        ∙ ap (λ b. cond b (Some (place n)) (number_of rest (part_name (suc n)))) (same (part_name (suc n))))

pub seam : {A : Type 0} (xs : List A) (y : A) (ys : List A) → slice_get (xs ++ y ∷ ys) (length xs) ≡ Some y
seam [] y ys = refl
seam (x ∷ xs) y ys = seam xs y ys

pub meant-length : (n : ℕ) → length (meant n) ≡ n
meant-length zero = refl
meant-length (suc n) = omega (arith, length-append (meant n) (meant_as.Function (suc n) ∷ []), meant-length n)

pub meant-at : (n j : ℕ) (rest : List Entity) → j < n → slice_get (meant n ++ rest) j ≡ Some (meant_as.Function (suc j))
meant-at zero j rest less = absurd (omega arith)
meant-at (suc n) j rest less =
    ap (λ t. slice_get t j) (append_assoc (meant n) (meant_as.Function (suc n) ∷ []) rest)
    ∙ at (below j n less) (λ h. meant-at n j (meant_as.Function (suc n) ∷ rest) h)
  where
    at : (j < n) ⊎ (j ≡ n) → (j < n → slice_get (meant n ++ (meant_as.Function (suc n) ∷ rest)) j ≡ Some
        (meant_as.Function (suc j))) → slice_get (meant n ++ (meant_as.Function (suc n) ∷ rest)) j ≡ Some
        (meant_as.Function (suc j))
    at (inl h) again = again h
    at (inr e) again =
        subst (λ i. slice_get (meant n ++ (meant_as.Function (suc n) ∷ rest)) i ≡ Some (meant_as.Function (suc i)))
        (sym e)
        (ap (λ i. slice_get (meant n ++ (meant_as.Function (suc n) ∷ rest)) i) (sym (meant-length n))
        ∙ seam (meant n) (meant_as.Function (suc n)) rest)

-- what the names are after n parts
abbrev naming : Table → List Entity → ℕ → Naming
naming names entities functions = record {
  constants = 0;
  globals = 1;
  functions = functions;
  names = (codes "Node", 0) ∷ (codes "root", 1) ∷ (codes "wait", 2) ∷ names;
  entities = meant_as.Struct 0 ∷ meant_as.Global 0 ∷ meant_as.Function 0 ∷ entities;
  structs = record { names = (codes "c", 0) ∷ (codes "next", 1) ∷ []; kinds = members.Field 0 ∷ members.Field 1 ∷ [] }
      ∷ [];
}

-- a table with a name that is new
abbrev base : Table → Table
base names = (codes "Node", 0) ∷ (codes "root", 1) ∷ (codes "wait", 2) ∷ names

abbrev pub named : ℕ → Naming
named n = naming (entries n) (meant n) (suc n)

abbrev grown : Option ℕ → Table → List Entity → List ℕ → ℕ → ℕ → ℕ → Naming
grown o names entities name len functions more =
    record (naming names (entities ++ meant_as.Function functions ∷ []) more) {
      names = with_found o
          (base names) name len;
    }

entities-length : (n : ℕ) → length (meant_as.Struct 0 ∷ meant_as.Global 0 ∷ meant_as.Function 0 ∷ meant n) ≡ place n
entities-length n = ap (λ k. place k) (meant-length n)

add-part : (n l : ℕ) → suc n < 2 ^ 64 → decl_added (named n) (part_decl (suc n) l) ≡ named (suc n)
add-part n l fits =
    let none : number_of (entries n) (part_name (suc n)) ≡ None =
    ap (λ t. number_of t (part_name (suc n))) (sym (append-nil (entries n)))
    ∙ skip n (suc n) [] (omega arith) fits in
    ap (λ o. grown o (entries n) (meant n) (part_name (suc n))
    (length (meant_as.Struct 0 ∷ meant_as.Global 0 ∷ meant_as.Function 0 ∷ meant n)) (suc n) (suc n + 1)) none
    ∙ ap (λ k. grown None (entries n) (meant n) (part_name (suc n)) k (suc n) (suc n + 1)) (entities-length n)
    ∙ ap (λ k. grown None (entries n) (meant n) (part_name (suc n)) (place n) (suc n) k)
    (let e : suc n + 1 ≡ suc (suc n) = omega arith in e)

pub naming-parts : (n : ℕ) (ds : List Decl) → n < 2 ^ 64
    → fold decl_added (named 0) (parts_before n ds) ≡ fold decl_added (named n) ds
naming-parts zero ds fits = refl
naming-parts (suc n) ds fits = naming-parts n (part_decl (suc n) (part_line n) ∷ ds) (omega arith)
    ∙ ap (λ k. fold decl_added k ds) (add-part n (part_line n) fits)

abbrev pub all_entries : ℕ → Table
all_entries n = entries n ++ (codes "main", place n) ∷ []

abbrev pub all_meant : ℕ → List Entity
all_meant n = meant n ++ meant_as.Function (suc n) ∷ []

pub add-main : (n m l : ℕ) → decl_added (named n) (main_decl m l) ≡ naming (all_entries n) (all_meant n) (suc (suc n))
add-main n m l =
    let none : number_of (entries n) (codes "main") ≡ None =
    ap (λ t. number_of t (codes "main")) (sym (append-nil (entries n)))
    ∙ skip-word (codes "main") (λ k. refl) n [] in
    ap (λ o. grown o (entries n) (meant n) (codes "main")
    (length (meant_as.Struct 0 ∷ meant_as.Global 0 ∷ meant_as.Function 0 ∷ meant n)) (suc n) (suc n + 1)) none
    ∙ ap (λ k. grown None (entries n) (meant n) (codes "main") k (suc n) (suc n + 1)) (entities-length n)
    ∙ ap (λ k. grown None (entries n) (meant n) (codes "main") (place n) (suc n) k)
    (let e : suc n + 1 ≡ suc (suc n) = omega arith in e)
