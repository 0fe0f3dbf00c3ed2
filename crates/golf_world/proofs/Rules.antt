-- Each step of a world's table keeps its rule.
-- For: `split_passes`, `join_passes`, src/passes.rt; `append`, `look`, src/seats.rt
-- By: cases of the step; induction over the list of held passes, and over n, those that are idle
use Rattle.std.proofs.Common.{◌≡◌, ◌≢◌, ℕ, zero, suc, ◌+◌, ◌%◌, ◌^◌, ◌==◌, ◌<◌, ◌≤◌, ◌⊎◌, inl, inr, Bool, true, false}
use Rattle.std.proofs.Common.{true≢false, cond, not, List, [], ◌∷◌, ◌++◌, length, filter, set, refl, sym, ap, ◌∙◌}
use Rattle.std.proofs.Common.{subst, arith, ⊎_elim, eq-eqb, ne_eqb}
use Rattle.std.specs.Prelude.{slice_index}
use Rattle.std.proofs.Math.ListN.{length-set}
use Rattle.std.proofs.Math.Nat.{mod-eq_of_lt}
use Rattle.std.proofs.Common.{length-append}
use Rattle.std.proofs.lemmas.Bool.{not-true}
use native.Mathlib.Decide.{ℕ_discrete}
use mathlib.Core.Option.{some, none, some-injective, some-ne-none}
use mathlib.Core.List.{IsPrefix}
use lib.ListN.{get_elem?}
use Rattle.atomic_table.specs.Table.{Me, Allows, Splits, Joins, opening, keeps, step}
use Rattle.atomic_table.proofs.Lists.{at_set, at_last, at_longer, set_again, set_else}
use Rattle.golf_theory.specs.Membership.{In, Every}
use Rattle.golf_theory.proofs.Lists.{In-cases, In-filter}
use Rattle.golf_data.specs.declared.code.Code.{Code}
use Rattle.golf_world.specs.declared.history.HistoryEntry.{HistoryEntry}
use Rattle.golf_world.specs.declared.rule.PassEntries.{PassEntries}
use Rattle.golf_world.specs.declared.rule.View.{View}
use Rattle.golf_world.specs.History.{entry, most_entries, next_number, own}
use Rattle.golf_world.specs.Rule.{pass_entries, view_of, keeper_view, pass_view, idle_passes, first_view, WorldViewFits}
use Rattle.golf_world.specs.Rule.{HoldsPass, HoldsHistory, appended, AppendTells, HistoryLookTells, others, left_view}
use Rattle.golf_world.specs.Rule.{right_view}
use Rattle.golf_world.specs.Rule.{both_views, spent_view}
use Rattle.golf_world.proofs.Lists.{prefix_self, prefix_push, prefixes_push, at_push, set_at, own-mine, own-other}

off : false ≡ true → ⊥
off e = true≢false (sym e)

-- one view is changed
fits_set : (P : ℕ → View → Type 0) (views : List View) (id : ℕ) (w : View)
    → ((k : ℕ) (v : View) → k ≢ id → get_elem? views k ≡ some v → P k v) → P id w → (k : ℕ) (v : View)
    → get_elem? (set views id w) k ≡ some v → P k v
fits_set P views id w old mine k v e = ⊎_elim
    (λ (t : (k ≡ id) × (w ≡ v)). subst (λ (y : ℕ × View). P y.0 y.1) (λ i. (sym t.0 i, t.1 i)) mine)
    (λ (t : (k ≢ id) × (get_elem? views k ≡ some v)). old k v t.0 t.1)
    (at_set views id k w v e)

-- a view with the property stands at this seat
abbrev There : (View → Type 0) → List View → ℕ → Type 0
There P views k = (v : View) × (get_elem? views k ≡ some v) × P v

abbrev Has : ℕ → View → Type 0
Has p v = HoldsPass p v.held

there_set : (P : View → Type 0) (views : List View) (id k : ℕ) (old w : View) → get_elem? views id ≡ some old
    → (P old → P w) → There P views k → There P (set views id w) k
there_set P views id k old w at keep t = elim (ℕ_discrete k id) [
  | yes e ↦ (
    w,
    ap (λ (j : ℕ). get_elem? (set views id w) j) e ∙ set_at views id old w at,
    keep (subst P (some-injective t.0 old (sym t.1 ∙ ap (λ (j : ℕ). get_elem? views j) e ∙ at)) t.2),
  )
  | no n ↦ (t.0, set_else views id k w n ∙ t.1, t.2)
]

there_else : (P : View → Type 0) (views : List View) (id k : ℕ) (w : View) → k ≢ id → There P views k
    → There P (set views id w) k
there_else P views id k w ne t = (t.0, set_else views id k w ne ∙ t.1, t.2)

there_at : (P : View → Type 0) (views : List View) (j k : ℕ) → j ≡ k → There P views j → There P views k
there_at P views j k e t = subst (There P views) e t

-- a view that stands for something names the number of passes
named-is : (passes : ℕ) (v : View) → v.keeps ≡ true → (v ≡ spent_view) ⊎ (v.passes ≡ passes) → (v.passes ≡ passes)
named-is passes v k (inl e) = absurd (off (sym (ap (λ (x : View). x.keeps) e) ∙ k))
named-is passes v k (inr e) = e

holds-left : (p : ℕ) (xs ys : List PassEntries) → HoldsPass p xs → HoldsPass p (xs ++ ys)
holds-left p [] ys h = absurd h
holds-left p (x ∷ xs) ys (inl e) = inl e
holds-left p (x ∷ xs) ys (inr h) = inr (holds-left p xs ys h)

holds-right : (p : ℕ) (xs ys : List PassEntries) → HoldsPass p ys → HoldsPass p (xs ++ ys)
holds-right p [] ys h = h
holds-right p (x ∷ xs) ys h = inr (holds-right p xs ys h)

-- the other passes stay
holds-others : (p q : ℕ) (xs : List PassEntries) → q ≢ p → HoldsPass q xs
    → HoldsPass q (filter (λ (k : PassEntries). not (k.pass == p)) xs)
holds-others p q [] ne h = absurd h
holds-others p q (x ∷ xs) ne (inl e) =
    let rest : List PassEntries = filter (λ (k : PassEntries). not (k.pass == p)) xs in
    subst (λ (b : Bool). HoldsPass q (cond (not b) (x ∷ rest) rest)) (sym (ne_eqb x.pass p (λ t. ne (sym e ∙ t))))
    (inl e)
holds-others p q (x ∷ xs) ne (inr h) =
    let rest : List PassEntries = filter (λ (k : PassEntries). not (k.pass == p)) xs in
    let there : HoldsPass q rest = holds-others p q xs ne h in
    elim (x.pass == p) as (λ b. HoldsPass q (cond (not b) (x ∷ rest) rest)) [ true ↦ there | false ↦ inr there ]

idle_passes-empty : (p n : ℕ) (h : PassEntries) → In h (idle_passes p n) → (h.pass < p + n) × (h.mine ≡ [])
idle_passes-empty p zero h i = absurd i
idle_passes-empty p (suc n) h (inl e) = let same : h.pass ≡ p =
    ap (λ (x : PassEntries). x.pass) e in (omega arith, ap (λ (x : PassEntries). x.mine) e)
idle_passes-empty p (suc n) h (inr i) = let t = idle_passes-empty (p + 1) n h i in (omega (arith, t.0), t.1)

idle_passes-hold : (p n q : ℕ) → p ≤ q → q < p + n → HoldsPass q (idle_passes p n)
idle_passes-hold p zero q low high = absurd (omega arith)
idle_passes-hold p (suc n) q low high = elim (ℕ_discrete p q) [
  | yes e ↦ inl e
  | no ne ↦ inr
      (idle_passes-hold (p + 1) n q (omega arith) (omega arith))
]

pub begins : (passes : ℕ) → HoldsHistory passes (opening (0 ∷ []) [] (first_view passes))
begins passes = record {
  keeper = 0;
  owner = λ _. 0;
  history = [];
  word = refl;
  views = first;
  kept = (first_view passes, refl, refl);
  owned = λ p less. (first_view passes, refl, idle_passes-hold 0 passes p (omega arith) (omega (arith, less)));
}
  where
    first : (k : ℕ) (v : View) → get_elem? (first_view passes ∷ []) k ≡ some v → WorldViewFits passes 0 (λ _. 0) [] k v
    first zero v e = subst (WorldViewFits passes 0 (λ _. 0) [] 0) (some-injective (first_view passes) v e) (record {
      named = inr refl;
      keeps = λ _. (refl, refl);
      held = λ h i. let t = idle_passes-empty 0 passes h i in (omega (arith, t.0), refl, t.1);
      seen = ([], refl);
      earlier = tt;
    })
    first (suc k) v e = absurd (some-ne-none v (sym e))

module _ (passes : ℕ) where
  pub appends : (code : Code) (slots id n p : ℕ) (mine : List (ℕ × ℕ)) (seen : List HistoryEntry)
      (earlier : List (List HistoryEntry)) → length seen < most_entries
      → Allows (HoldsHistory passes) slots id (view_of n true (pass_entries p mine ∷ []) seen earlier, []) 0
      (λ n. (n + 1) % 2 ^ 64) (AppendTells code (step slots 0 1 0 none)
      (view_of n true (pass_entries p mine ∷ []) seen earlier, []))
  appends code slots id n p mine seen earlier few s h len at small =
      let v : View = view_of n true (pass_entries p mine ∷ []) seen earlier in
      let f = h.views id v at in
      let seat : id ≡ h.keeper = (f.keeps refl).0 in
      let same : seen ≡ h.history = (f.keeps refl).1 in
      let owns : (p < passes) × (h.owner p ≡ id) × (mine ≡ own p h.history) = f.held (pass_entries p mine) (inl refl) in
      let number : ℕ = next_number code p seen in
      let now : List HistoryEntry = h.history ++ entry p number ∷ [] in
      let found : slice_index s.words 0 ≡ length seen = ap (λ (ws : List ℕ). slice_index ws 0) h.word
      ∙ ap length (sym same) in
      let longer : (length h.history + 1) % 2 ^ 64 ≡ length now = mod-eq_of_lt (omega (arith, few, ap length same))
      ∙ omega (arith, length-append h.history (entry p number ∷ [])) in
      let fits : WorldViewFits passes h.keeper h.owner now id (appended code v) = record {
        named = inr (named-is passes v refl f.named);
        keeps = λ _. (seat, ap (λ l. l ++ entry p number ∷ []) same);
        held = λ x i. elim i [
          | inl e ↦ subst (λ (y : PassEntries). (y.pass < passes) × (h.owner y.pass ≡ id) × (y.mine ≡ own y.pass now))
              (sym e) (
                owns.0,
                owns.1,
                ap (λ m. m ++ (length seen, number) ∷ []) owns.2
                    ∙ sym (own-mine p (length seen) number h.history (ap length same)),
              )
          | inr e ↦ absurd e
        ];
        seen = subst (IsPrefix (seen ++ entry p number ∷ [])) (ap (λ l. l ++ entry p number ∷ []) same)
            (prefix_self (seen ++ entry p number ∷ []));
        earlier = prefixes_push earlier seen (entry p number ∷ []) f.earlier;
      } in
      let rest : (k : ℕ) (u : View) → k ≢ id → get_elem? s.views k ≡ some u
      → WorldViewFits passes h.keeper h.owner now k u =
      λ k u apart e.
      let g = h.views k u e in
      record {
        named = g.named;
        keeps = λ t. absurd (apart ((g.keeps t).0 ∙ sym seat));
        held = λ x i. let o = g.held x i in (
          o.0,
          o.1,
          o.2
              ∙ sym (own-other x.pass p number h.history (λ q. apart (sym o.1 ∙ ap h.owner (sym q) ∙ owns.1))),
        );
        seen = prefix_push u.seen h.history (entry p number ∷ []) g.seen;
        earlier = g.earlier;
      } in (
        appended code v,
        keeps,
        tt,
        record {
          keeper = h.keeper;
          owner = h.owner;
          history = now;
          word = ap (λ (ws : List ℕ). set ws 0 ((slice_index ws 0 + 1) % 2 ^ 64)) h.word
              ∙ ap (λ (k : ℕ). k ∷ []) longer;
          views = fits_set (WorldViewFits passes h.keeper h.owner now) s.views id (appended code v) rest fits;
          kept = there_set (λ x. x.keeps ≡ true) s.views id h.keeper v (appended code v) at (λ x. x) h.kept;
          owned = λ q less. there_set (Has q) s.views id (h.owner q) v (appended code v) at (λ x. x) (h.owned q less);
        },
        (refl, found, f.earlier),
      )

  pub looks : (slots id : ℕ) (me : Me (Unit {0}) View)
      → Allows (HoldsHistory passes) slots id me 0 (λ n. n) (HistoryLookTells (step slots 0 0 0 none) me)
  looks slots id me s h len at small = (
    me.0,
    keeps,
    tt,
    record {
      keeper = h.keeper;
      owner = h.owner;
      history = h.history;
      word = ap (λ (ws : List ℕ). set ws 0 (slice_index ws 0)) h.word;
      views = λ k u e. h.views k u (subst (λ (l : List View). get_elem? l k ≡ some u) (set_again s.views id me.0 at) e);
      kept = there_set (λ x. x.keeps ≡ true) s.views id h.keeper me.0 me.0 at (λ x. x) h.kept;
      owned = λ q less. there_set (Has q) s.views id (h.owner q) me.0 me.0 at (λ x. x) (h.owned q less);
    },
    (refl, (h.views id me.0 at).earlier),
  )

  pub splits : (id n p : ℕ) (mine : List (ℕ × ℕ)) (hs : List PassEntries) (seen : List HistoryEntry)
      (earlier : List (List HistoryEntry))
      → Splits (HoldsHistory passes) id (view_of n true (pass_entries p mine ∷ hs) seen earlier)
      (left_view (view_of n true (pass_entries p mine ∷ hs) seen earlier))
      (right_view (view_of n true (pass_entries p mine ∷ hs) seen earlier))
  splits id n p mine hs seen earlier s h at =
      let v : View = view_of n true (pass_entries p mine ∷ hs) seen earlier in
      let f = h.views id v at in
      let owns : (p < passes) × (h.owner p ≡ id) × (mine ≡ own p h.history) = f.held (pass_entries p mine) (inl refl) in
      let next : ℕ = length s.views in
      let owner : ℕ → ℕ = λ (q : ℕ). cond (q == p) next (h.owner q) in
      let other : (q : ℕ) → q ≢ p → owner q ≡ h.owner q =
      λ q ne. ap (λ (b : Bool). cond b next (h.owner q)) (ne_eqb q p ne) in
      let own_is : (q : ℕ) → q ≡ p → owner q ≡ next =
      λ q e. ap (λ (b : Bool). cond b next (h.owner q)) (eq-eqb q p e) in
      let name : n ≡ passes = named-is passes v refl f.named in
      let left : WorldViewFits passes h.keeper owner h.history id (left_view v) = record {
        named = inr name;
        keeps = f.keeps;
        held = λ x i.
            let t = In-filter (λ (k : PassEntries). not (k.pass == p)) x hs i in
            let o = f.held x (inr t.0) in
            (o.0, other x.pass (λ q. true≢false (sym (eq-eqb x.pass p q) ∙ not-true (x.pass == p) t.1)) ∙ o.1, o.2);
        seen = f.seen;
        earlier = tt;
      } in
      let right : WorldViewFits passes h.keeper owner h.history next (right_view v) = record {
        named = inr name;
        keeps = λ t. absurd (off t);
        held = λ x i. elim i [
          | inl e ↦ subst (λ (y : PassEntries). (y.pass < passes) × (owner y.pass ≡ next)
              × (y.mine ≡ own y.pass h.history)) (sym e) (owns.0, own_is p refl, owns.2)
          | inr e ↦ absurd e
        ];
        seen = f.seen;
        earlier = tt;
      } in
      let rest : (k : ℕ) (u : View) → k ≢ id → get_elem? s.views k ≡ some u
      → WorldViewFits passes h.keeper owner h.history k u =
      λ k u apart e.
      let g = h.views k u e in
      record {
        named = g.named;
        keeps = g.keeps;
        held = λ x i. let o = g.held x i in (
          o.0,
          other x.pass (λ q. apart (sym o.1 ∙ ap h.owner q ∙ owns.1)) ∙ o.1,
          o.2,
        );
        seen = g.seen;
        earlier = g.earlier;
      } in
      let most : List View = set s.views id (left_view v) in
      let remains : (q : ℕ) → q ≢ p → HoldsPass q (pass_entries p mine ∷ hs)
      → HoldsPass q (others (pass_entries p mine ∷ hs)) =
      λ q ne i. elim i [ inl e ↦ absurd (ne (sym e)) | inr t ↦ holds-others p q hs ne t ] in
      let longer : (P : View → Type 0) (k : ℕ) → There P most k → There P (most ++ right_view v ∷ []) k =
      λ P k t. (t.0, at_longer most (right_view v ∷ []) k t.0 t.1, t.2) in
      record {
        keeper = h.keeper;
        owner = owner;
        history = h.history;
        word = h.word;
        views = λ k u e. ⊎_elim
            (λ (was : get_elem? most k ≡ some u). fits_set (WorldViewFits passes h.keeper owner h.history) s.views id
            (left_view v) rest left k u was)
            (λ (t : (k ≡ length most) × (right_view v ≡ u)).
            let there : next ≡ k = sym (length-set s.views id (left_view v)) ∙ sym t.0 in
            subst (λ (y : ℕ × View). WorldViewFits passes h.keeper owner h.history y.0 y.1)
            (λ i. (there i, t.1 i)) right)
            (at_push most (right_view v) u k e);
        kept = longer (λ x. x.keeps ≡ true) h.keeper
            (there_set (λ x. x.keeps ≡ true) s.views id h.keeper v (left_view v) at (λ x. x) h.kept);
        owned = λ q less. elim (ℕ_discrete q p) [
          | yes e ↦ there_at (Has q) (most ++ right_view v ∷ []) next (owner q) (sym (own_is q e))
              (right_view v, at_last most (right_view v) next (length-set s.views id (left_view v)), inl (sym e))
          | no ne ↦ there_at (Has q) (most ++ right_view v ∷ []) (h.owner q) (owner q) (sym (other q ne))
              (longer (Has q) (h.owner q) (there_set (Has q) s.views id (h.owner q) v (left_view v) at (remains q ne)
              (h.owned q less)))
        ];
      }

  pub joins : (id n : ℕ) (held : List PassEntries) (seen : List HistoryEntry) (earlier : List (List HistoryEntry))
      (other : ℕ) (w : View)
      → Joins (HoldsHistory passes) id (view_of n true held seen earlier) other w
      (both_views (view_of n true held seen earlier) w) spent_view
  joins id n held seen earlier other w s h at apart at' =
      let v : View = view_of n true held seen earlier in
      let both : View = both_views v w in
      let f = h.views id v at in
      let there : get_elem? s.views other ≡ some w =
      ⊎_elim (λ (t : (other ≡ id) × (both ≡ w)). absurd (apart t.0))
      (λ (t : (other ≢ id) × (get_elem? s.views other ≡ some w)). t.1) (at_set s.views id other both w at') in
      let theirs = h.views other w there in
      let owner : ℕ → ℕ = λ (q : ℕ). cond (h.owner q == other) id (h.owner q) in
      let moved : (q : ℕ) → h.owner q ≡ other → owner q ≡ id =
      λ q e. ap (λ (b : Bool). cond b id (h.owner q)) (eq-eqb (h.owner q) other e) in
      let stays : (q k : ℕ) → k ≢ other → h.owner q ≡ k → owner q ≡ k =
      λ q k ne e. ap (λ (b : Bool). cond b id (h.owner q)) (ne_eqb (h.owner q) other (λ t. ne (sym e ∙ t))) ∙ e in
      let joined : WorldViewFits passes h.keeper owner h.history id both = record {
        named = inr (named-is passes v refl f.named);
        keeps = f.keeps;
        held = λ x i. elim (In-cases x w.held held i) [
          | inl k ↦ let o = theirs.held x k in (o.0, moved x.pass o.1, o.2)
          | inr k ↦ let o = f.held x k in (o.0, stays x.pass id (λ e. apart (sym e)) o.1, o.2)
        ];
        seen = f.seen;
        earlier = (subst (IsPrefix w.seen) (sym (f.keeps refl).1) theirs.seen, f.earlier);
      } in
      let spent : WorldViewFits passes h.keeper owner h.history other spent_view = record {
        named = inl refl;
        keeps = λ t. absurd (off t);
        held = λ x i. absurd i;
        seen = (h.history, refl);
        earlier = tt;
      } in
      let old : (k : ℕ) (u : View) → k ≢ other → get_elem? s.views k ≡ some u
      → WorldViewFits passes h.keeper owner h.history k u = λ k u ne e.
      let g = h.views k u e in
      record {
        named = g.named;
        keeps = g.keeps;
        held = λ x i. let o = g.held x i in (o.0, stays x.pass k ne o.1, o.2);
        seen = g.seen;
        earlier = g.earlier;
      } in
      let most : List View = set s.views id both in
      let mine : (P : View → Type 0) → P both → There P (set most other spent_view) id =
      λ P t. there_else P most other id spent_view (λ e. apart (sym e)) (both, set_at s.views id v both at, t) in
      record {
        keeper = h.keeper;
        owner = owner;
        history = h.history;
        word = h.word;
        views = fits_set (WorldViewFits passes h.keeper owner h.history) most other spent_view
            (λ k u ne e. ⊎_elim
            (λ (t : (k ≡ id) × (both ≡ u)). subst
            (λ (y : ℕ × View). WorldViewFits passes h.keeper owner h.history y.0 y.1)
            (λ i. (sym t.0 i, t.1 i)) joined)
            (λ (t : (k ≢ id) × (get_elem? s.views k ≡ some u)). old k u ne t.1)
            (at_set s.views id k both u e))
            spent;
        kept = there_at (λ x. x.keeps ≡ true) (set most other spent_view) id h.keeper (f.keeps refl).0
            (mine (λ x. x.keeps ≡ true) refl);
        owned = λ q less.
            let t = h.owned q less in
            elim (ℕ_discrete (h.owner q) other) [
              | yes e ↦
                  let is : t.0 ≡ w = some-injective t.0 w (sym t.1 ∙ ap (λ (j : ℕ). get_elem? s.views j) e ∙ there) in
                  there_at (Has q) (set most other spent_view) id (owner q) (sym (moved q e))
                  (mine (Has q) (holds-left q w.held held (subst (Has q) is t.2)))
              | no ne ↦ there_at (Has q) (set most other spent_view) (h.owner q) (owner q)
                  (sym (stays q (h.owner q) ne refl))
                  (there_else (Has q) most other (h.owner q) spent_view ne
                  (there_set (Has q) s.views id (h.owner q) v both at (holds-right q w.held held) t))
            ];
      }

-- the keeper's view with one pass joined to it
abbrev pub joined : ℕ → ℕ → List (ℕ × ℕ) → List HistoryEntry → List HistoryEntry → Me (Unit {0}) View
joined n p mine h old = (view_of n true (pass_entries p mine ∷ []) h (old ∷ []), [])

pub joined_is : (n : ℕ) (k o : Me (Unit {0}) View) (p : ℕ) (mine : List (ℕ × ℕ)) (h old : List HistoryEntry)
    → k ≡ (keeper_view n h, []) → o ≡ (pass_view n p mine old, []) → (both_views k.0 o.0, k.1) ≡ joined n p mine h old
joined_is n k o p mine h old e f = λ i. (both_views (e i).0 (f i).0, (e i).1)

-- the steps, at a view that is known
pub joins_as : (passes id : ℕ) (me : Me (Unit {0}) View) (other : ℕ) (w : View) (n : ℕ) (held : List PassEntries)
    (seen : List HistoryEntry) (earlier : List (List HistoryEntry)) → me ≡ (view_of n true held seen earlier, [])
    → Joins (HoldsHistory passes) id me.0 other w (both_views me.0 w) spent_view
joins_as passes id me other w n held seen earlier e =
    subst (λ (m : Me (Unit {0}) View). Joins (HoldsHistory passes) id m.0 other w (both_views m.0 w) spent_view) (sym e)
    (joins passes id n held seen earlier other w)

pub splits_as : (passes id : ℕ) (me : Me (Unit {0}) View) (n p : ℕ) (mine : List (ℕ × ℕ)) (hs : List PassEntries)
    (seen : List HistoryEntry) (earlier : List (List HistoryEntry))
    → me ≡ (view_of n true (pass_entries p mine ∷ hs) seen earlier, [])
    → Splits (HoldsHistory passes) id me.0 (left_view me.0) (right_view me.0)
splits_as passes id me n p mine hs seen earlier e =
    subst (λ (m : Me (Unit {0}) View). Splits (HoldsHistory passes) id m.0 (left_view m.0) (right_view m.0)) (sym e)
    (splits passes id n p mine hs seen earlier)

pub appends_as : {me : Me (Unit {0}) View} (passes : ℕ) (code : Code) (slots id n p : ℕ) (mine : List (ℕ × ℕ))
    (seen : List HistoryEntry) (earlier : List (List HistoryEntry)) → length seen < most_entries
    → me ≡ (view_of n true (pass_entries p mine ∷ []) seen earlier, [])
    → Allows (HoldsHistory passes) slots id me 0 (λ n. (n + 1) % 2 ^ 64) (AppendTells code (step slots 0 1 0 none) me)
appends_as {me} passes code slots id n p mine seen earlier few e =
    subst (λ (m : Me (Unit {0}) View). Allows (HoldsHistory passes) slots id m 0 (λ n. (n + 1) % 2 ^ 64)
    (AppendTells code (step slots 0 1 0 none) m)) (sym e) (appends passes code slots id n p mine seen earlier few)

-- what others had seen is a prefix of what the keeper has seen
pub first_earlier : (me : Me (Unit {0}) View) (n p : ℕ) (mine : List (ℕ × ℕ)) (h old : List HistoryEntry)
    → me ≡ joined n p mine h old → Every (λ o. IsPrefix o me.0.seen) me.0.earlier → IsPrefix old h
first_earlier me n p mine h old e all = (subst
    (λ (m : Me (Unit {0}) View). Every (λ o. IsPrefix o m.0.seen) m.0.earlier) e all).0
