-- Taking the facts of one expression from the list, and of several expressions one after the other.
-- For: `skip`, golf_code_facts/specs/Facts.antt; `arguments`, golf_code_facts/specs/Expressions.antt.
-- By: induction over the list of arguments, and over the list of fields.
use Rattle.std.proofs.Common.{◌≡◌, ℕ, Bool, true, false, cond, List, [], ◌∷◌, ◌++◌, length, map, refl, ap, ◌∙◌}
use Rattle.std.proofs.Common.{append_assoc}
use Rattle.std.specs.Prelude.{Option, Some, None, flat_map}
use Rattle.std.specs.Option.{option_map}
use Rattle.std.proofs.Math.Seq.{drop-append_seam}
use Rattle.golf_check_types.specs.declared.facts.Fact.{Fact}
use Rattle.golf_check_types.specs.declared.facts.Fact.TheVariants as fact
use Rattle.golf_check_types.specs.declared.types.Base.{Base}
use Rattle.golf_check_types.specs.declared.operands.Operand.{Operand}
use Rattle.golf_check_types.specs.declared.scopes.FileScope.{FileScope}
use Rattle.golf_check_types.specs.declared.scopes.Scope.{Scope}
use Rattle.golf_check_types.specs.Facts.{with_parts}
use Rattle.golf_check_types.specs.Types.{plain}
use Rattle.golf_check_types.specs.Expressions.{Judged, facts_of, field_place}
use Rattle.golf_check_types.specs.Calls.{sets_finaliser, plain_call as plain_judged, finaliser_call, called_with}
use Rattle.golf_code_layout.specs.Piece.{Piece}
use Rattle.golf_code_of.specs.Expressions.{Made, put, puts as puts_of}
use Rattle.golf_code_of.specs.Calls.{ArgumentCode}
use Rattle.golf_code_facts.specs.Facts.{base_of, skip, skip_all}
use Rattle.golf_code_facts.specs.Expressions.{Take, arguments, puts}

-- The facts of an expression are skipped.
pub skipped : (m : Operand) (fs rest : List Fact) → skip (with_parts m fs ++ rest) ≡ rest
skipped m fs rest = drop-append_seam fs rest

-- also if more facts of the same part follow
pub skipped-among : (m : Operand) (fs gs rest : List Fact) → skip ((with_parts m fs ++ gs) ++ rest) ≡ gs ++ rest
skipped-among m fs gs rest = ap skip (append_assoc (with_parts m fs) gs rest) ∙ skipped m fs (gs ++ rest)

-- Two parts, one after the other.
pub two_parts : (k : Piece → Piece → Made) (x y : List Fact → Made) (m : Operand) (fs q r : List Fact) (a b : Made)
    → x (with_parts m fs ++ (q ++ r)) ≡ a → y (q ++ r) ≡ b
    → k (x ((with_parts m fs ++ q) ++ r)).piece (y (skip ((with_parts m fs ++ q) ++ r))).piece ≡ k a.piece b.piece
two_parts k x y m fs q r a b h i =
    ap (λ z. k (x z).piece (y (skip z)).piece) (append_assoc (with_parts m fs) q r)
    ∙ ap (λ (c : Made). k c.piece (y (skip (with_parts m fs ++ (q ++ r)))).piece) h
    ∙ ap (λ z. k a.piece (y z).piece) (skipped m fs (q ++ r))
    ∙ ap (λ (c : Made). k a.piece c.piece) i

-- Lists of parts: each is made by the first facts.

pub record Reads (l : ℕ) (x : Take) (m : Operand) (fs : List Fact) (c : Made) : Type 0 where
  pub code : (rest : List Fact) → x l (with_parts m fs ++ rest) ≡ c

-- an expression among others: how its code is made, its facts and its code
pub record One (l : ℕ) : Type 0 where
  pub take : Take
  pub meaning : Operand
  pub inner : List Fact
  pub code : Made
  pub reads : Reads l take meaning inner code

module _ (l : ℕ) where
  abbrev pub takes : List (One l) → List Take
  takes xs = map (λ x. x.take) xs

  abbrev pub facts : List (One l) → List Fact
  facts xs = flat_map (λ x. with_parts x.meaning x.inner) xs

  abbrev argument_of : Operand → Made → ArgumentCode
  argument_of m c = record { meaning = m; piece = c.piece }

  abbrev pub args : List (One l) → List ArgumentCode
  args xs = map (λ x. record { meaning = x.meaning; piece = x.code.piece }) xs

  pub all_taken : (xs : List (One l)) (rest : List Fact) → arguments l (takes xs) (facts xs ++ rest) ≡ args xs
  all_taken [] rest = refl
  all_taken (x ∷ xs) rest =
      ap (λ fs. argument_of x.meaning (x.take l fs) ∷ arguments l (takes xs) (skip fs))
      (append_assoc (with_parts x.meaning x.inner) (facts xs) rest)
      ∙ ap (λ c. argument_of x.meaning c ∷ arguments l (takes xs)
      (skip (with_parts x.meaning x.inner ++ (facts xs ++ rest)))) (x.reads.code (facts xs ++ rest))
      ∙ ap (λ fs. argument_of x.meaning x.code ∷ arguments l (takes xs) fs)
      (skipped x.meaning x.inner (facts xs ++ rest))
      ∙ ap (λ ys. argument_of x.meaning x.code ∷ ys) (all_taken xs rest)

  pub all_skipped : (xs : List (One l)) (rest : List Fact) → skip_all (length xs) (facts xs ++ rest) ≡ rest
  all_skipped [] rest = refl
  all_skipped (x ∷ xs) rest = ap (λ fs. skip_all (length xs) fs) (skipped-among x.meaning x.inner (facts xs) rest)
      ∙ all_skipped xs rest

  -- the places of fields stand before what is put into them
  abbrev pub fields : FileScope → Option Base → List (List ℕ × One l) → List Fact
  fields s b [] = []
  fields s b (x ∷ xs) = fact.Field (field_place s b x.0) ∷ (with_parts x.1.meaning x.1.inner ++ fields s b xs)

  pub all_put : (s : FileScope) (b : Option Base) (xs : List (List ℕ × One l)) (rest : List Fact)
      → puts l (map (λ x. x.1.take) xs) (fields s b xs ++ rest) ≡ puts_of l s b (map (λ x. x.0) xs)
      (map (λ x. x.1.code.piece) xs)
  all_put s b [] rest = refl
  all_put s b (x ∷ xs) rest =
      ap (λ fs. Piece.Then (into (x.1.take l fs)) (others (skip fs)))
      (append_assoc (with_parts x.1.meaning x.1.inner) (fields s b xs) rest)
      ∙ ap (λ c. Piece.Then (into c) (others (skip (with_parts x.1.meaning x.1.inner ++ (fields s b xs ++ rest)))))
      (x.1.reads.code (fields s b xs ++ rest))
      ∙ ap (λ fs. Piece.Then (into x.1.code) (others fs)) (skipped x.1.meaning x.1.inner (fields s b xs ++ rest))
      ∙ ap (λ p. Piece.Then (into x.1.code) p) (all_put s b xs rest)
    where
      into : Made → Piece
      into c = put l (field_place s b x.0) c.piece

      others : List Fact → Piece
      others fs = puts l (map (λ y. y.1.take) xs) fs

-- The facts of the arguments of a call stand in their order, whatever is called.

finaliser_inner : (l : ℕ) (s : Scope) (m : Operand) (js : List Judged)
    → (finaliser_call l s m js).inner ≡ flat_map facts_of js
finaliser_inner l s m [] = refl
finaliser_inner l s m (x ∷ []) = refl
finaliser_inner l s m (x ∷ (y ∷ ys)) = refl

either_inner : (b : Bool) (x y : Judged) (fs : List Fact) → x.inner ≡ fs → y.inner ≡ fs → (cond b x y).inner ≡ fs
either_inner true x y fs h i = h
either_inner false x y fs h i = i

pub called_inner : (l : ℕ) (s : Scope) (m : Operand) (js : List Judged)
    → (called_with l s m js).inner ≡ flat_map facts_of js
called_inner l s m js = either_inner (sets_finaliser m) (finaliser_call l s m js) (plain_judged l s m js)
    (flat_map facts_of js) (finaliser_inner l s m js) refl

-- a type of no layers has its base
pub base_is : (b : Option Base) → base_of (option_map plain b) ≡ b
base_is None = refl
base_is (Some b) = refl
