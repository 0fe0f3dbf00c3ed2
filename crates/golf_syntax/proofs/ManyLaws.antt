-- Items are read exactly if they are printed with separators between.
-- For: `list_at`, golf_syntax/specs/Many.antt.
-- By: induction over n, the items that may still be read, and over the list of items that are printed.
use Rattle.std.proofs.Common.{◌≡◌, ◌⊎◌, inl, inr, ℕ, zero, suc, ◌≤◌, Bool, true, List, [], ◌∷◌, ◌++◌, length, map, refl}
use Rattle.std.proofs.Common.{ap, sym, subst, ◌∙◌, arith, append_assoc}
use Rattle.std.specs.Prelude.{Option, Some, None}
use Rattle.std.specs.List.{list_all}
use Rattle.golf_lex_tokens.specs.declared.token.Token.{Token}
use Rattle.golf_lex_tokens.specs.declared.token.Punctuation.{Punctuation}
use Rattle.golf_syntax_trees.specs.Words as words
use Rattle.golf_syntax_trees.specs.Words.{Word, separated, behind}
use Rattle.golf_syntax_expressions.specs.Front.{after}
use Rattle.golf_syntax_expressions.proofs.Plans.{bind_some}
use Rattle.golf_syntax_expressions.proofs.Fronts.{some-same, both, and-true, Spelt, nothing, punctuation-then, join}
use Rattle.golf_syntax_expressions.proofs.Fronts.{split, ends, behind-punctuation, after-shorter}
use Rattle.golf_syntax_expressions.proofs.ExprFronts.{then}
use Rattle.golf_syntax_statements.proofs.StmtSteps.{spelt-within}
use Rattle.golf_syntax.specs.Many.{Listed, many_behind, many_in, many_at, list_by, list_at}

module _ (A : Type 0) (item : Listed A) (print : A → List Word) (good : A → Bool) (sep close : Punctuation) where
  -- one item in these tokens, up to those that are left
  pub record IsItem (ts : List Token) (x : A × List Token) : Type 0 where
    pub words : Spelt (print x.0) ts x.1
    pub good_item : good x.0 ≡ true

  -- items in these tokens, up to those after the closing punctuation mark
  pub record AreItems (xs : List A) (ts rest : List Token) : Type 0 where
    pub words : Spelt (separated sep (map print xs) ++ words.punctuation close ∷ []) ts rest
    pub goods : list_all good xs ≡ true

  record More (done : List A) (ts : List Token) (x : List A × List Token) : Type 0 where
    first : A
    others : List A
    are : x.0 ≡ done ++ first ∷ others
    items : AreItems (first ∷ others) ts x.1

  module _ (sound : (ts : List Token) (x : A × List Token) → item ts ≡ Some x → IsItem ts x) where
    many-sound : (n : ℕ) (done : List A) (ts : List Token) (x : List A × List Token)
        → many_in item sep close n done ts ≡ Some x → More done ts x
    many-sound zero done ts x e = absurd (never e)
      where
        never : ◌≡◌ {A = Option (List A × List Token)} None (Some x) → ⊥
        never q = cc
    many-sound (suc n) done ts x e =
        let a = bind_some (item ts) (λ y. many_behind close (done ++ y.0 ∷ []) y.1
        (many_in item sep close n (done ++ y.0 ∷ [])) (after sep y.1)) x e in
        at (λ y. many-sound n (done ++ y.0 ∷ [])) a.0 (sound ts a.0 a.1) (after sep a.0.1) refl a.2
      where
        at : ((y : A × List Token) (us : List Token) (x : List A × List Token)
            → many_in item sep close n (done ++ y.0 ∷ []) us ≡ Some x → More (done ++ y.0 ∷ []) us x)
            → (y : A × List Token) → IsItem ts y → (o : Option (List Token)) → after sep y.1 ≡ o →
            many_behind close (done ++ y.0 ∷ []) y.1 (many_in item sep close n (done ++ y.0 ∷ [])) o ≡ Some x
            → More done ts x
        at again y k (Some us) q f =
            let r = again y us x f in
            record {
              first = y.0;
              others = r.first ∷ r.others;
              are = r.are ∙ append_assoc done (y.0 ∷ []) (r.first ∷ r.others);
              items = record {
                words = subst (λ ws. Spelt ws ts x.1)
                    (sym (append_assoc (print y.0) (behind sep (map print (r.first ∷ r.others)))
                    (words.punctuation close ∷ []))) (join k.words (punctuation-then sep y.1 q r.items.words));
                goods = and-true (good y.0) (list_all good (r.first ∷ r.others)) k.good_item r.items.goods;
              };
            }
        at again y k None q f =
            let b = bind_some (after close y.1) (λ us. Some (done ++ y.0 ∷ [], us)) x f in
            subst (More done ts) (some-same (done ++ y.0 ∷ [], b.0) x b.2) (record {
              first = y.0;
              others = [];
              are = refl;
              items = record {
                words = join (join k.words nothing) (punctuation-then close y.1 b.1 nothing);
                goods = and-true (good y.0) true k.good_item refl;
              };
            })

    pub list-sound : (ts : List Token) (x : List A × List Token) → list_at item sep close ts ≡ Some x
        → AreItems x.0 ts x.1
    unfolding list_at many_at
    list-sound ts x e = at (after close ts) refl e
      where
        at : (o : Option (List Token)) → after close ts ≡ o → list_by item sep close ts o ≡ Some x → AreItems x.0 ts x.1
        at (Some us) q f = subst (λ (y : List A × List Token). AreItems y.0 ts y.1) (some-same ([], us) x f)
            (record { words = punctuation-then close ts q nothing; goods = refl })
        at None q f = let r = many-sound (suc (length ts)) [] ts x f in subst (λ (xs : List A). AreItems xs ts x.1)
            (sym r.are) r.items

  -- a separator or the closing punctuation mark stands here
  abbrev pub Behind : List Token → Type 0
  Behind ts = (us : List Token) × ((after sep ts ≡ Some us) ⊎ (after close ts ≡ Some us))

  module _ (complete : (x : A) (ts rest : List Token) → good x ≡ true → Spelt (print x) ts rest → Behind rest
      → item ts ≡ Some (x, rest)) (apart : (ts us : List Token) → after close ts ≡ Some us → after sep ts ≡ None)
      (opens : (ts : List Token) (x : A × List Token) → item ts ≡ Some x → after close ts ≡ None) where
    many-read : (ys : List A) (y : A) (n : ℕ) (done : List A) (ts mid rest : List Token) → length ts ≤ n
        → list_all good (y ∷ ys) ≡ true → Spelt (separated sep (map print (y ∷ ys))) ts mid
        → after close mid ≡ Some rest → many_in item sep close (suc n) done ts ≡ Some (done ++ y ∷ ys, rest)
    many-read [] y n done ts mid rest le g h c =
        let s = split (print y) [] h in
        then (λ x. many_behind close (done ++ x.0 ∷ []) x.1 (many_in item sep close n (done ++ x.0 ∷ []))
        (after sep x.1)) (item ts) (y, mid)
        (complete y ts mid (both (good y) true g).0 (subst (λ m. Spelt (print y) ts m) (ends s.2) s.1) (rest, inr c))
        ∙ ap (many_behind close (done ++ y ∷ []) mid (many_in item sep close n (done ++ y ∷ []))) (apart mid rest c)
        ∙ then (λ us. Some (done ++ y ∷ [], us)) (after close mid) rest c
    many-read (z ∷ zs) y zero done ts mid rest le g h c =
        let s = split (print y) (behind sep (map print (z ∷ zs))) h in
        let b = behind-punctuation sep s.2 in
        let q = after-shorter sep s.0 b.0 b.1 in
        let w = spelt-within (print y) ts s.0 s.1 in
        absurd (omega arith)
    many-read (z ∷ zs) y (suc n) done ts mid rest le g h c =
        let s = split (print y) (behind sep (map print (z ∷ zs))) h in
        let b = behind-punctuation sep s.2 in
        let q = after-shorter sep s.0 b.0 b.1 in
        let w = spelt-within (print y) ts s.0 s.1 in
        let k = both (good y) (list_all good (z ∷ zs)) g in
        then (λ x. many_behind close (done ++ x.0 ∷ []) x.1 (many_in item sep close (suc n) (done ++ x.0 ∷ []))
        (after sep x.1)) (item ts) (y, s.0) (complete y ts s.0 k.0 s.1 (b.0, inl b.1))
        ∙ ap (many_behind close (done ++ y ∷ []) s.0 (many_in item sep close (suc n) (done ++ y ∷ []))) b.1
        ∙ many-read zs z n (done ++ y ∷ []) b.0 mid rest (omega arith) k.1 b.2 c
        ∙ ap (λ xs. Some (xs, rest)) (append_assoc done (y ∷ []) (z ∷ zs))

    pub list-complete : (xs : List A) (ts rest : List Token) → AreItems xs ts rest
        → list_at item sep close ts ≡ Some (xs, rest)
    unfolding list_at many_at
    list-complete [] ts rest k = let c = behind-punctuation close k.words in ap (list_by item sep close ts)
        (c.1 ∙ ap Some (ends c.2))
    list-complete (y ∷ ys) ts rest k =
        let s = split (separated sep (map print (y ∷ ys))) (words.punctuation close ∷ []) k.words in
        let c = behind-punctuation close s.2 in
        let e = c.1 ∙ ap Some (ends c.2) in
        let w = split (print y) (behind sep (map print ys)) s.1 in
        let first = complete y ts w.0 (both (good y) (list_all good ys) k.goods).0 w.1 (next ys w.0 s.0 w.2 e) in
        ap (list_by item sep close ts) (opens ts (y, w.0) first)
        ∙ many-read ys y (length ts) [] ts s.0 rest (omega arith) k.goods s.1 e
      where
        next : (ys : List A) (ts mid : List Token) → Spelt (behind sep (map print ys)) ts mid
            → after close mid ≡ Some rest → Behind ts
        next [] ts mid h c = (rest, inr (ap (after close) (ends h) ∙ c))
        next (z ∷ zs) ts mid h c = let b = behind-punctuation sep h in (b.0, inl b.1)
