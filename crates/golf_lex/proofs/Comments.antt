-- What bytes a general comment goes on with, until it closes.
-- For: `after_general_comment` and `after_star`, src/automaton.rt.
-- By: induction over the bytes of the comment.
use Rattle.std.proofs.Common.{◌≡◌, ℕ, Bool, true, false, cond, not, ◌&&◌, ◌||◌, List, [], ◌∷◌, ◌++◌, refl, sym, ap, ◌∙◌}
use Rattle.std.proofs.lemmas.Bool.{eqb-true, or_parts}
use Rattle.std.specs.Prelude.{Some, nat_eq}
use Rattle.std.specs.List.{list_all}
use Rattle.golf_lex_tokens.specs.Lexemes.{is_nonzero, has_end}
use Rattle.golf_lex.specs.declared.automaton.State.{State}
use Rattle.golf_lex.specs.declared.automaton.State.TheVariants as states
use Rattle.golf_lex.specs.declared.automaton.Growth.TheVariants.{To, Fault}
use Rattle.golf_lex.specs.Automaton.{is_complete}
use Rattle.golf_lex.proofs.Growing.{to_only, grown}
use Rattle.golf_lex.proofs.GoingOn.{stays}

-- inside a comment, after a star or not
abbrev pub inside : Bool → State
inside true = states.Star
inside false = states.GeneralComment

abbrev pub star : Bool → List ℕ
star true = 42 ∷ []
star false = []

-- what a comment goes on with up to its `*/`, after these bytes
pub record Ends (front bs : List ℕ) : Type 0 where
  pub body : List ℕ
  pub valid : list_all is_nonzero body ≡ true
  pub spelled : front ++ bs ≡ body ++ 42 ∷ 47 ∷ []
  pub first : has_end (body ++ 42 ∷ []) ≡ false

has_end-other : (b : ℕ) (xs : List ℕ) → nat_eq b 42 ≡ false → has_end (b ∷ xs) ≡ has_end xs
has_end-other b [] e = refl
has_end-other b (c ∷ xs) e = ap (λ t. (t && nat_eq c 47) || has_end (c ∷ xs)) e

-- no `*/` begins with a star that a star follows
has_end-stars : (body bs : List ℕ) → 42 ∷ bs ≡ body ++ 42 ∷ 47 ∷ [] → has_end (body ++ 42 ∷ []) ≡ false
    → has_end (42 ∷ (body ++ 42 ∷ [])) ≡ false
has_end-stars [] bs e h = refl
has_end-stars (c ∷ body) bs e h =
    let same : 42 ≡ c = cc in
    ap (λ t. t || has_end (c ∷ (body ++ 42 ∷ []))) (ap (λ x. nat_eq x 47) (sym same)) ∙ h

unfinished : (starred : Bool) (last : State) → grown (inside starred) [] ≡ Some last → is_complete last ≡ true → ⊥
unfinished true last e whole = let same : states.Star ≡ last = cc in let no : false ≡ true = ap is_complete same
    ∙ whole in cc
unfinished false last e whole = let same : states.GeneralComment ≡ last = cc in let no : false ≡ true =
    ap is_complete same ∙ whole in cc

-- a comment that is whole went on to `*/`
pub comments : (starred : Bool) (bs : List ℕ) (last : State) → grown (inside starred) bs ≡ Some last
    → is_complete last ≡ true → (last ≡ states.Closed) × Ends (star starred) bs
comments starred [] last e whole = absurd (unfinished starred last e whole)
comments false (b ∷ bs) last e whole = at (nat_eq b 0) (nat_eq b 42) refl refl (λ f. comments true bs last f whole)
    (λ f. comments false bs last f whole) e
  where
    at : (z t : Bool) → nat_eq b 0 ≡ z → nat_eq b 42 ≡ t
        → (grown states.Star bs ≡ Some last → (last ≡ states.Closed) × Ends (42 ∷ []) bs)
        → (grown states.GeneralComment bs ≡ Some last → (last ≡ states.Closed) × Ends [] bs)
        → to_only (cond z Fault (cond t (To states.Star) (To states.GeneralComment))) (λ n. grown n bs) ≡ Some last
        → (last ≡ states.Closed) × Ends [] (b ∷ bs)
    at true t ez et starred other f = absurd (cc)
    at false true ez et starred other f = let r =
        starred f in (
          r.0,
          record {
            body = r.1.body;
            valid = r.1.valid;
            spelled = ap (λ x. x ∷ bs) (eqb-true b 42 et)
                ∙ r.1.spelled;
            first = r.1.first;
          },
        )
    at false false ez et starred other f = let r = other f in (
      r.0,
      record {
        body = b ∷ r.1.body;
        valid = ap (λ t. not t && list_all is_nonzero r.1.body) ez ∙ r.1.valid;
        spelled = ap (λ xs. b ∷ xs) r.1.spelled;
        first = has_end-other b (r.1.body ++ 42 ∷ []) et ∙ r.1.first;
      },
    )
comments true (b ∷ bs) last e whole = at (nat_eq b 47) (nat_eq b 0) (nat_eq b 42) refl refl refl
    (λ f. comments true bs last f whole) (λ f. comments false bs last f whole) e
  where
    at : (k z t : Bool) → nat_eq b 47 ≡ k → nat_eq b 0 ≡ z → nat_eq b 42 ≡ t
        → (grown states.Star bs ≡ Some last → (last ≡ states.Closed) × Ends (42 ∷ []) bs)
        → (grown states.GeneralComment bs ≡ Some last → (last ≡ states.Closed) × Ends [] bs)
        → to_only (cond k (To states.Closed) (cond z Fault (cond t (To states.Star) (To states.GeneralComment))))
        (λ n. grown n bs) ≡ Some last → (last ≡ states.Closed) × Ends (42 ∷ []) (b ∷ bs)
    at true z t ek ez et starred other f =
        let s = stays states.Closed (λ _. refl) bs last f in (
          s.1,
          record {
            body = [];
            valid = refl;
            spelled = ap (λ x. 42 ∷ x ∷ bs) (eqb-true b 47 ek)
                ∙ ap (λ xs. 42 ∷ 47 ∷ xs) s.0;
            first = refl;
          },
        )
    at false true t ek ez et starred other f = absurd (cc)
    at false false true ek ez et starred other f = let r = starred f in (
      r.0,
      record {
        body = 42 ∷ r.1.body;
        valid = r.1.valid;
        spelled = ap (λ x. 42 ∷ x ∷ bs) (eqb-true b 42 et) ∙ ap (λ xs. 42 ∷ xs) r.1.spelled;
        first = has_end-stars r.1.body bs r.1.spelled r.1.first;
      },
    )
    at false false false ek ez et starred other f = let r = other f in (
      r.0,
      record {
        body = 42 ∷ b ∷ r.1.body;
        valid = ap (λ t. not t && list_all is_nonzero r.1.body) ez ∙ r.1.valid;
        spelled = ap (λ xs. 42 ∷ b ∷ xs) r.1.spelled;
        first = ap (λ t. t || has_end (b ∷ (r.1.body ++ 42 ∷ []))) ek ∙ has_end-other b (r.1.body ++ 42 ∷ []) et
            ∙ r.1.first;
      },
    )

-- no `*/` stands in the body, after these bytes
abbrev pub NoEnd : Bool → List ℕ → Type 0
NoEnd starred body = has_end (star starred ++ (body ++ 42 ∷ [])) ≡ false

-- such a body is read, and the `*/` after it
pub comments-again : (starred : Bool) (body : List ℕ) → list_all is_nonzero body ≡ true → NoEnd starred body
    → grown (inside starred) (body ++ 42 ∷ 47 ∷ []) ≡ Some states.Closed
comments-again true [] v h = refl
comments-again false [] v h = refl
comments-again false (b ∷ body) v h = at (nat_eq b 0) (nat_eq b 42) refl v (λ w k. comments-again true body w k)
    (λ w k. comments-again false body w k)
  where
    at : (z t : Bool) → nat_eq b 42 ≡ t → (not z && list_all is_nonzero body) ≡ true
        → (list_all is_nonzero body ≡ true → NoEnd true body
        → grown states.Star (body ++ 42 ∷ 47 ∷ []) ≡ Some states.Closed)
        → (list_all is_nonzero body ≡ true → NoEnd false body
        → grown states.GeneralComment (body ++ 42 ∷ 47 ∷ []) ≡ Some states.Closed)
        → to_only (cond z Fault (cond t (To states.Star) (To states.GeneralComment)))
        (λ n. grown n (body ++ 42 ∷ 47 ∷ [])) ≡ Some states.Closed
    at true t et w starred other = absurd (cc)
    at false true et w starred other = starred w
        (ap (λ x. has_end (x ∷ (body ++ 42 ∷ []))) (sym (eqb-true b 42 et)) ∙ h)
    at false false et w starred other = other w (sym (has_end-other b (body ++ 42 ∷ []) et) ∙ h)
comments-again true (b ∷ body) v h =
    let split = or_parts (nat_eq b 47) (has_end (b ∷ (body ++ 42 ∷ []))) h in
    at (nat_eq b 47) (nat_eq b 0) (nat_eq b 42) split.0 refl v split.1 (λ w k. comments-again true body w k)
    (λ w k. comments-again false body w k)
  where
    at : (k z t : Bool) → k ≡ false → nat_eq b 42 ≡ t → (not z && list_all is_nonzero body) ≡ true
        → has_end (b ∷ (body ++ 42 ∷ [])) ≡ false
        → (list_all is_nonzero body ≡ true → NoEnd true body
        → grown states.Star (body ++ 42 ∷ 47 ∷ []) ≡ Some states.Closed)
        → (list_all is_nonzero body ≡ true → NoEnd false body
        → grown states.GeneralComment (body ++ 42 ∷ 47 ∷ []) ≡ Some states.Closed)
        → to_only (cond k (To states.Closed) (cond z Fault (cond t (To states.Star) (To states.GeneralComment))))
        (λ n. grown n (body ++ 42 ∷ 47 ∷ [])) ≡ Some states.Closed
    at true z t ek et w j starred other = absurd (cc)
    at false true t ek et w j starred other = absurd (cc)
    at false false true ek et w j starred other =
        starred w (ap (λ x. has_end (x ∷ (body ++ 42 ∷ []))) (sym (eqb-true b 42 et)) ∙ j)
    at false false false ek et w j starred other = other w (sym (has_end-other b (body ++ 42 ∷ []) et) ∙ j)
