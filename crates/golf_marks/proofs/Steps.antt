-- Each step of the mark words keeps their rule.
-- For: `Holds`, golf_marks/specs/Rule.antt; `claim`, `find_bit` and `glance`, src/marks.rt.
-- By: cases of the step; induction over the list of views only for the view that was set.
use Rattle.std.proofs.Common.{◌≡◌, ◌≢◌, ℕ, zero, suc, ◌+◌, ◌==◌, ◌^◌, ◌<◌, ◌≤◌, ◌⊎◌, List, [], ◌∷◌, ◌++◌, length, set}
use Rattle.std.proofs.Common.{Bool, cond}
use Rattle.std.proofs.Common.{refl, sym, ap, ◌∙◌, subst, arith, ⊎_elim, inl, inr, eq-eqb, ne_eqb}
use Rattle.std.specs.Prelude.{bit_or, replicate, slice_index}
use Rattle.std.proofs.lemmas.List.{get_or-replicate, get_or_past, get_or_default}
use Rattle.std.proofs.lemmas.List.Sums.{sum_by_push}
use Rattle.std.proofs.lemmas.Bool.{cases_lt, cases_eq}
use Rattle.std.proofs.Math.ListN.{length-set, length-replicate}
use mathlib.Core.Option.{some, some-injective, some-ne-none}
use prog.Atomic.{either}
use lib.ListN.{get_elem?}
use Rattle.atomic_table.specs.Table.{State, Allows, Splits, Joins, opening, keeps, step}
use Rattle.atomic_table.proofs.Lists.{at_set, at_snoc, at_index, set_again, exchanged}
use Rattle.golf_theory.specs.Membership.{In}
use Rattle.golf_theory.specs.Counts.{times}
use Rattle.golf_theory.specs.Reached.{Follows}
use Rattle.golf_theory.proofs.Lists.{In-left, In-right, In-cases, Every-from}
use Rattle.golf_theory.proofs.Derivations.{Follows-grows, Derived-closed}
use Rattle.golf_theory.proofs.Sums.{total_set, total_at, total_alone}
use Rattle.golf_theory.proofs.Times.{times-append, length-counted, sum-bits}
use Rattle.golf_model.specs.declared.graph.GraphParts.{GraphParts}
use Rattle.golf_model.specs.Graph.{Justifies, Least}
use Rattle.golf_marks.specs.declared.rule.View.{View}
use Rattle.golf_marks.specs.declared.rule.Plan.{Plan}
use Rattle.golf_marks.specs.Bits.{word_of, mask_of, bit_in, bit_at, marked_in, unset_in}
use Rattle.golf_marks.specs.Places.{place_count, word_count, IsJustified}
use Rattle.golf_marks.specs.Rule.{view_of, graph_of, MarkViewFits, Holds, first_view, Claims, Looks, Glances}
use Rattle.golf_marks.specs.Rule.{ClaimTells}
use Rattle.golf_marks.specs.Rule.{LookTells, GlanceTells, left_view, right_view, both_views, spent_view}
use Rattle.golf_marks.proofs.BitLaws.{bit_small, one_bit, no_bit, or_bit, unset_bit, gained_bit, with_bits, bits_there}
use Rattle.golf_marks.proofs.BitLaws.{bits_elsewhere, marked_set, set_marked, marked_times, marked_elsewhere}

-- what is justified by places of the least closed set is in it
least_justified : (g : GraphParts) (known : List ℕ) (p : ℕ) → ((q : ℕ) → In q known → Least g q) → IsJustified g known p
    → Least g p
least_justified g known p all h = Derived-closed (Follows (λ q. In q g.roots) (Justifies g))
    (Follows-grows (λ q. In q g.roots) (Justifies g)) known p (Every-from (Least g) known all) h

abbrev WithWords : State (Unit {0}) View → List ℕ → ℕ → View → State (Unit {0}) View
WithWords s words id w = record { words = words; homes = s.homes; views = set s.views id w }

abbrev AllFit : GraphParts → List ℕ → List View → Type 0
AllFit g words views = (k : ℕ) (v : View) → get_elem? views k ≡ some v → MarkViewFits g words v

-- a view that is changed fits, and the others still do
views_set : (g : GraphParts) (old words : List ℕ) (views : List View) (id : ℕ) (w : View)
    → ((x : ℕ) → bit_at old x ≡ 1 → bit_at words x ≡ 1) → AllFit g old views → MarkViewFits g words w
    → AllFit g words (set views id w)
views_set g old words views id w grows all mine k v e = ⊎_elim
    (λ (t : (k ≡ id) × (w ≡ v)). subst (MarkViewFits g words) t.1 mine)
    (λ (t : (k ≢ id) × (get_elem? views k ≡ some v)). let f = all k v
    t.1 in record {
      idle = f.idle;
      ignorant = f.ignorant;
      graph = f.graph;
      own = f.own;
      known = λ x h. grows x (f.known x h);
    })
    (at_set views id k w v e)

-- the view w and these words may come after the view v and the words of the state
record MayFollow (plan : Plan) (s : State (Unit {0}) View) (v w : View) (words : List ℕ) : Type 0 where
  long : length words ≡ length s.words
  parts : w.parts ≡ v.parts
  claims : (x : ℕ) → times x w.claimed + bit_at s.words x ≡ times x v.claimed + bit_at words x
  grows : (x : ℕ) → bit_at s.words x ≡ 1 → bit_at words x ≡ 1
  fits : MarkViewFits (graph_of plan) words w
  low : (x : ℕ) → bit_at words x ≡ 1 → x < place_count (graph_of plan)
  sound : (x : ℕ) → bit_at words x ≡ 1 → Least (graph_of plan) x

-- a step by which a view and the words change
stepped : (plan : Plan) (s : State (Unit {0}) View) (id : ℕ) (v w : View) (words : List ℕ) → Holds plan s
    → get_elem? s.views id ≡ some v → MayFollow plan s v w words → Holds plan (WithWords s words id w)
stepped plan s id v w words h at m = record {
  size = m.long ∙ h.size;
  claims = λ x. omega (arith, total_set (λ (u : View). times x u.claimed) s.views id v w at, h.claims x, m.claims x);
  parts = omega (arith, total_set (λ (u : View). u.parts) s.views id v w at, h.parts, m.parts);
  views = views_set (graph_of plan) s.words words s.views id w m.grows h.views m.fits;
  low = m.low;
  sound = m.sound;
}

-- a view that has claimed the same may follow with the same words
words_stay : (plan : Plan) (s : State (Unit {0}) View) (v w : View) → Holds plan s → w.parts ≡ v.parts
    → w.claimed ≡ v.claimed → MarkViewFits (graph_of plan) s.words w → MayFollow plan s v w s.words
words_stay plan s v w h parts claimed fits = record {
  long = refl;
  parts = parts;
  claims = λ x. ap (λ (l : List ℕ). times x l + bit_at s.words x) claimed;
  grows = λ x e. e;
  fits = fits;
  low = h.low;
  sound = h.sound;
}

-- a view has claimed no more places than there are
claimed_bound : (plan : Plan) (s : State (Unit {0}) View) (id : ℕ) (v : View) → Holds plan s
    → get_elem? s.views id ≡ some v → length v.claimed ≤ place_count (graph_of plan)
claimed_bound plan s id v h at =
    let count : ℕ = place_count (graph_of plan) in
    let ones : List ℕ = replicate count 1 in
    let most : (x : ℕ) → times x v.claimed ≤ bit_at s.words x =
    λ x. omega (arith, total_at (λ (u : View). times x u.claimed) s.views id v at, h.claims x) in
    let counted : (x : ℕ) → times x v.claimed ≤ slice_index ones x = λ x. elim (cases_lt x count) [
      | inl less ↦ omega (
        arith,
        most x,
        bit_small x (slice_index s.words (word_of x)),
        get_or-replicate {A = ℕ} count x 1 0 less,
      )
      | inr past ↦ elim (cases_eq (bit_at s.words x) 1) [
        | inl one ↦ absurd (let l = h.low x one in omega (arith, l, past))
        | inr other ↦ omega (arith, most x, bit_small x (slice_index s.words (word_of x)), other)
      ]
    ] in
    let bits : (x : ℕ) → slice_index ones x ≤ 1 = λ x. elim (cases_lt x count) [
      | inl less ↦ omega (arith, get_or-replicate {A = ℕ} count x 1 0 less)
      | inr past ↦ omega (arith, get_or_past ones x 0 (omega (arith, length-replicate {A = ℕ} count 1, past)))
    ] in
    omega (arith, length-counted v.claimed ones counted, sum-bits ones bits, length-replicate {A = ℕ} count 1)

still_there : {V : Type 0} (views : List V) (id : ℕ) (v w : V) → get_elem? views id ≡ some v
    → get_elem? (set views id w) id ≡ some w
still_there [] id v w e = absurd (some-ne-none v (sym e))
still_there (x ∷ xs) zero v w e = refl
still_there (x ∷ xs) (suc k) v w e = still_there xs k v w e

-- the word that a step finds
module _ (plan : Plan) (s : State (Unit {0}) View) (id : ℕ) (v : View) (i : ℕ) (h : Holds plan s)
    (at : get_elem? s.views id ≡ some v) (live : 0 < v.parts) (low : i < place_count v.graph) where
  abbrev found : ℕ
  found = slice_index s.words (word_of i)

  same_graph : v.graph ≡ graph_of plan
  same_graph = (h.views id v at).graph live

  in_range : i < place_count (graph_of plan)
  in_range = subst (λ (g : GraphParts). i < place_count g) same_graph low

  here : word_of i < length s.words
  here = omega (arith, h.size, in_range)

  -- what was claimed is known still
  own_more : (x : ℕ) → In x v.claimed → In x (v.known ++ i ∷ [])
  own_more x c = In-left x v.known (i ∷ []) ((h.views id v at).own x c)

  bounded_now : length v.claimed ≤ place_count v.graph
  bounded_now = omega (arith, claimed_bound plan s id v h at, ap place_count same_graph)

  -- who has claimed the place finds it set
  unclaimed : bit_in i found ≡ 0 → times i v.claimed ≡ 0
  unclaimed zero_is = let b = total_at (λ (u : View). times i u.claimed) s.views id v at in omega
      (arith, b, h.claims i, zero_is)

  words_same : set s.words (word_of i) found ≡ s.words
  words_same = set_again s.words (word_of i) found
      (at_index s.words (word_of i) found here (get_or_default s.words (word_of i) 0 found here))

  look_keeps : (known : List ℕ) → ((x : ℕ) → In x v.claimed → In x known)
      → ((x : ℕ) → In x known → bit_at s.words x ≡ 1)
      → Holds plan (WithWords s (set s.words (word_of i) found) id (view_of v.graph v.parts v.claimed known))
  look_keeps known own k =
      let w : View = view_of v.graph v.parts v.claimed known in
      let f = h.views id v at in
      subst (λ (ws : List ℕ). Holds plan (WithWords s ws id w)) (sym words_same)
      (stepped plan s id v w s.words h at (words_stay plan s v w h refl refl
      (record { idle = f.idle; ignorant = λ none. absurd (omega arith); graph = f.graph; own = own; known = k })))

  looks_at : (w : View) × Holds plan (WithWords s (set s.words (word_of i) found) id w) × Looks i v (bit_in i found) w
  looks_at = elim (cases_eq (bit_in i found) 1) [
    | inl one ↦ (
      view_of v.graph v.parts v.claimed (v.known ++ i ∷ []),
      look_keeps (v.known ++ i ∷ []) own_more (λ x c. elim (In-cases x v.known (i ∷ []) c) [
        | inl k ↦ (h.views id v at).known x k
        | inr k ↦ elim k [ inl e ↦ ap (λ (j : ℕ). bit_at s.words j) e ∙ one | inr none ↦ absurd none ]
      ]),
      record {
        small = bit_small i found;
        view = ap (λ (b : Bool). view_of v.graph v.parts v.claimed (cond b (v.known ++ i ∷ []) v.known))
            (sym (eq-eqb (bit_in i found) 1 one));
        known = λ _. one;
        unclaimed = unclaimed;
        bounded = bounded_now;
      },
    )
    | inr other ↦ (
      view_of v.graph v.parts v.claimed v.known,
      look_keeps v.known (h.views id v at).own (h.views id v at).known,
      record {
        small = bit_small i found;
        view = ap (λ (b : Bool). view_of v.graph v.parts v.claimed (cond b (v.known ++ i ∷ []) v.known))
            (sym (ne_eqb (bit_in i found) 1 other));
        known = λ c. (h.views id v at).known i c;
        unclaimed = unclaimed;
        bounded = bounded_now;
      },
    )
  ]

-- a claim of the places in the mask m of the word w
module _ (plan : Plan) (s : State (Unit {0}) View) (id : ℕ) (v : View) (w m : ℕ) (h : Holds plan s)
    (at : get_elem? s.views id ≡ some v) (live : 0 < v.parts) (within : w < length s.words)
    (small : slice_index s.words w < 2 ^ 64) (low : (p : ℕ) → In p (marked_in w m) → p < place_count v.graph)
    (just : (p : ℕ) → In p (marked_in w m) → IsJustified v.graph v.known p) where
  abbrev before : ℕ
  before = slice_index s.words w

  abbrev after : List ℕ
  after = with_bits s.words w m

  abbrev fresh : List ℕ
  fresh = marked_in w (unset_in m before)

  abbrev claimer : View
  claimer = view_of v.graph v.parts (v.claimed ++ fresh) (v.known ++ marked_in w m)

  own_graph : v.graph ≡ graph_of plan
  own_graph = (h.views id v at).graph live

  bit_before : (x : ℕ) → word_of x ≡ w → bit_at s.words x ≡ bit_in x before
  bit_before x e = ap (λ (k : ℕ). bit_in x (slice_index s.words k)) e

  claim_grows : (x : ℕ) → bit_at s.words x ≡ 1 → bit_at after x ≡ 1
  claim_grows x one = elim (cases_eq (word_of x) w) [
    | inl e ↦ omega (
      arith,
      bits_there s.words w m x within e,
      or_bit x before m,
      bit_before x e,
      one,
      bit_small x m,
    )
    | inr ne ↦ bits_elsewhere s.words w m x ne ∙ one
  ]

  claim_sets : (x : ℕ) → In x (marked_in w m) → bit_at after x ≡ 1
  claim_sets x k = let t = marked_set w m x k in omega (
    arith,
    bits_there s.words w m x within t.0,
    or_bit x before m,
    t.1,
    bit_small x before,
  )

  -- a bit that is set after it was set before, or is in the mask
  set_by : (x : ℕ) → bit_at after x ≡ 1 → (bit_at s.words x ≡ 1) ⊎ In x (marked_in w m)
  set_by x one = elim (cases_eq (word_of x) w) [
    | inl e ↦ elim (cases_eq (bit_in x m) 1) [
      | inl mine ↦ inr (set_marked w m x e mine)
      | inr other ↦ inl (omega (
        arith,
        bits_there s.words w m x within e,
        or_bit x before m,
        bit_before x e,
        bit_small x m,
        one,
        other,
      ))
    ]
    | inr ne ↦ inl (sym (bits_elsewhere s.words w m x ne) ∙ one)
  ]

  fresh_part : (x : ℕ) → In x fresh → In x (marked_in w m)
  fresh_part x k =
      let t = marked_set w (unset_in m before) x k in
      set_marked w m x t.0 (omega (arith, unset_bit x m before small, t.1, bit_small x m))

  claim_counts : (x : ℕ) → times x (v.claimed ++ fresh) + bit_at s.words x ≡ times x v.claimed + bit_at after x
  claim_counts x = elim (cases_eq (word_of x) w) [
    | inl e ↦ omega (
      arith,
      times-append x v.claimed fresh,
      marked_times w (unset_in m before) x e,
      gained_bit x m before small,
      bit_before x e,
      bits_there s.words w m x within e,
    )
    | inr ne ↦ omega (
      arith,
      times-append x v.claimed fresh,
      marked_elsewhere w (unset_in m before) x ne,
      bits_elsewhere s.words w m x ne,
    )
  ]

  claim_fits : MarkViewFits (graph_of plan) after claimer
  claim_fits =
      let f = h.views id v at in
      record {
        idle = λ none. absurd (omega arith);
        ignorant = λ none. absurd (omega arith);
        graph = f.graph;
        own = λ x c. elim (In-cases x v.claimed fresh c) [
          | inl k ↦ In-left x v.known (marked_in w m) (f.own x k)
          | inr k ↦ In-right x v.known (marked_in w m) (fresh_part x k)
        ];
        known = λ x c. elim (In-cases x v.known (marked_in w m) c) [
          | inl k ↦ claim_grows x (f.known x k)
          | inr k ↦ claim_sets x k
        ];
      }

  claim_sound : (x : ℕ) → bit_at after x ≡ 1 → Least (graph_of plan) x
  claim_sound x one = elim (set_by x one) [
    | inl was ↦ h.sound x was
    | inr k ↦
        let f = h.views id v at in
        least_justified (graph_of plan) v.known x (λ y c. h.sound y (f.known y c))
        (subst (λ (g : GraphParts). IsJustified g v.known x) own_graph (just x k))
  ]

  claim_holds : Holds plan (WithWords s after id claimer)
  claim_holds = stepped plan s id v claimer after h at (record {
    long = length-set s.words w (bit_or before m);
    parts = refl;
    claims = claim_counts;
    grows = claim_grows;
    fits = claim_fits;
    low = λ x one. elim (set_by x one) [
      | inl was ↦ h.low x was
      | inr k ↦ omega (arith, low x k, ap place_count own_graph)
    ];
    sound = claim_sound;
  })

  claim_tells : Claims w m v before claimer
  claim_tells = record {
    view = refl;
    once = λ x k.
        let t = marked_set w (unset_in m before) x k in
        let b = total_at (λ (u : View). times x u.claimed) s.views id v at in omega (
          arith,
          b,
          h.claims x,
          bit_before x t.0,
          unset_bit x m before small,
          t.1,
        );
    bounded = omega (
      arith,
      claimed_bound plan (WithWords s after id claimer) id claimer claim_holds (still_there s.views id v claimer at),
      ap place_count own_graph,
    );
  }

pub claims : (plan : Plan) (slots id : ℕ) (v : View) (c : List (ℕ × Unit {0})) (w m : ℕ) → 0 < v.parts
    → w < word_count v.graph → ((p : ℕ) → In p (marked_in w m) → p < place_count v.graph)
    → ((p : ℕ) → In p (marked_in w m) → IsJustified v.graph v.known p)
    → Allows (Holds plan) slots id (v, c) w (λ n. bit_or n m)
    (ClaimTells (step slots w m 0 mathlib.Core.Option.none) (v, c))
claims plan slots id v c w m live word low just s h _ at small =
    let within : w < length s.words = omega (arith, h.size, word, ap word_count ((h.views id v at).graph live)) in (
      claimer plan s id v w m h at live within small low just,
      keeps,
      tt,
      claim_holds plan s id v w m h at live within small low just,
      (claim_tells plan s id v w m h at live within small low just, refl),
    )

-- a glance at a word
glances_at : (plan : Plan) (s : State (Unit {0}) View) (id : ℕ) (v : View) (i : ℕ) → Holds plan s
    → get_elem? s.views id ≡ some v → 0 < v.parts → i < length s.words
    → (w : View) × Holds plan (WithWords s (set s.words i (slice_index s.words i)) id w)
    × Glances i v (slice_index s.words i) w
glances_at plan s id v i h at live here =
    let n : ℕ = slice_index s.words i in
    let f = h.views id v at in
    let w : View = view_of v.graph v.parts v.claimed (v.known ++ marked_in i n) in
    let bit_of : (p : ℕ) → word_of p ≡ i → bit_at s.words p ≡ bit_in p n =
    λ p e. ap (λ (k : ℕ). bit_in p (slice_index s.words k)) e in
    let same : set s.words i n ≡ s.words =
    set_again s.words i n (at_index s.words i n here (get_or_default s.words i 0 n here)) in (
      w,
      subst (λ (ws : List ℕ). Holds plan (WithWords s ws id w)) (sym same)
          (stepped plan s id v w s.words h at (words_stay plan s v w h refl refl (record {
            idle = f.idle;
            ignorant = λ none. absurd (omega arith);
            graph = f.graph;
            own = λ x c. In-left x v.known (marked_in i n) (f.own x c);
            known = λ x c. elim (In-cases x v.known (marked_in i n) c) [
              | inl k ↦ f.known x k
              | inr k ↦ let t = marked_set i n x k in bit_of x t.0 ∙ t.1
            ];
          }))),
      record {
        view = refl;
        known = λ p e k. sym (bit_of p e) ∙ f.known p k;
        unclaimed = λ p e z. let b = total_at (λ (u : View). times p u.claimed) s.views id v at in omega
            (arith, b, h.claims p, bit_of p e, z);
      },
    )

pub glances : (plan : Plan) (slots id : ℕ) (v : View) (c : List (ℕ × Unit {0})) (i : ℕ) → 0 < v.parts
    → i < word_count v.graph
    → Allows (Holds plan) slots id (v, c) i (λ n. n) (GlanceTells (step slots i 0 0 mathlib.Core.Option.none) (v, c))
glances plan slots id v c i live low s h _ at small =
    let here : i < length s.words = omega (arith, h.size, low, ap word_count ((h.views id v at).graph live)) in
    let r = glances_at plan s id v i h at live here in
    (r.0, keeps, tt, r.1, (r.2, refl))

-- a look leaves the word as it is
pub looks : (plan : Plan) (slots id : ℕ) (v : View) (c : List (ℕ × Unit {0})) (i : ℕ) → 0 < v.parts
    → i < place_count v.graph
    → Allows (Holds plan) slots id (v, c) (word_of i) (λ n. either (n == mask_of i) (mask_of i) n)
    (LookTells (step slots (word_of i) (mask_of i) (mask_of i) mathlib.Core.Option.none) (v, c))
looks plan slots id v c i live low s h _ at small =
    let r = looks_at plan s id v i h at live low in
    let n : ℕ = slice_index s.words (word_of i) in
    let Keeps : ℕ → Type 0 = λ m. Holds plan (WithWords s (set s.words (word_of i) m) id r.0) in (
      r.0,
      keeps,
      tt,
      exchanged n (mask_of i) (mask_of i) Keeps (λ e. subst Keeps e r.1) (λ _. r.1),
      ((λ p word mask. subst (λ (q : ℕ). Looks q v (bit_in q n) r.0) (one_bit i p (sym word) (sym mask)) r.2), refl),
    )

pub forks : (plan : Plan) (id : ℕ) (v : View) → 1 < v.parts → Splits (Holds plan) id v (left_view v) (right_view v)
forks plan id v two s h at =
    let f = h.views id v at in
    let w : View = left_view v in
    let live : 0 < v.parts = omega arith in record {
      size = h.size;
      claims = λ x. omega (
        arith,
        sum_by_push (λ (u : View). times x u.claimed) (set s.views id w) (right_view v),
        total_set (λ (u : View). times x u.claimed) s.views id v w at,
        h.claims x,
      );
      parts = omega (
        arith,
        sum_by_push (λ (u : View). u.parts) (set s.views id w) (right_view v),
        total_set (λ (u : View). u.parts) s.views id v w at,
        h.parts,
      );
      views = λ k u e. ⊎_elim
          (λ (was : get_elem? (set s.views id w) k ≡ some u). views_set (graph_of plan) s.words s.words s.views id w
          (λ x e. e) h.views (record {
            idle = λ none. absurd (omega arith);
            ignorant = λ none. absurd (omega arith);
            graph = λ _. f.graph live;
            own = f.own;
            known = f.known;
          }) k u was)
          (λ (same : right_view v ≡ u). subst (MarkViewFits (graph_of plan) s.words) same
          (record {
            idle = λ none. refl;
            ignorant = λ none. absurd (omega arith);
            graph = λ _. f.graph live;
            own = λ x c. absurd c;
            known = f.known;
          }))
          (at_snoc (set s.views id w) (right_view v) u k e);
      low = h.low;
      sound = h.sound;
    }

pub merges : (plan : Plan) (id : ℕ) (v : View) (other : ℕ) (u : View) → 0 < v.parts → 0 < u.parts
    → Joins (Holds plan) id v other u (both_views v u) spent_view
merges plan id v other u live there s h at apart at' =
    let both : View = both_views v u in
    let mine = h.views id v at in
    let was : get_elem? s.views other ≡ some u =
    ⊎_elim (λ (t : (other ≡ id) × (both ≡ u)). absurd (apart t.0))
    (λ (t : (other ≢ id) × (get_elem? s.views other ≡ some u)). t.1) (at_set s.views id other both u at') in
    let theirs = h.views other u was in
    let fits : MarkViewFits (graph_of plan) s.words both = record {
      idle = λ none. absurd (omega arith);
      ignorant = λ none. absurd (omega arith);
      graph = λ _. mine.graph live;
      own = λ x c. elim (In-cases x v.claimed u.claimed c) [
        | inl k ↦ In-left x v.known u.known (mine.own x k)
        | inr k ↦
            In-right x v.known u.known (theirs.own x k)
      ];
      known = λ x c. elim (In-cases x v.known u.known c) [ inl k ↦ mine.known x k | inr k ↦ theirs.known x k ];
    } in
    let gone : MarkViewFits (graph_of plan) s.words spent_view =
    record {
      idle = λ _. refl;
      ignorant = λ _. refl;
      graph = λ some_part. absurd (omega arith);
      own = λ x c. absurd c;
      known = λ x c. absurd c;
    } in
    let mid = views_set (graph_of plan) s.words s.words s.views id both (λ x e. e) h.views fits in record {
      size = h.size;
      claims = λ x. omega (
        arith,
        total_set (λ (y : View). times x y.claimed) s.views id v both at,
        total_set (λ (y : View). times x y.claimed) (set s.views id both) other u spent_view at',
        times-append x v.claimed u.claimed,
        h.claims x,
      );
      parts = omega (
        arith,
        total_set (λ (y : View). y.parts) s.views id v both at,
        total_set (λ (y : View). y.parts) (set s.views id both) other u spent_view at',
        h.parts,
      );
      views = views_set (graph_of plan) s.words s.words (set s.views id both) other spent_view (λ x e. e) mid gone;
      low = h.low;
      sound = h.sound;
    }

pub begins : (plan : Plan) → 0 < plan.seats
    → Holds plan (opening (replicate (word_count (graph_of plan)) 0) [] (first_view plan))
begins plan some_seat = record {
  size = length-replicate (word_count (graph_of plan)) 0;
  claims = λ x. sym (no_bit (word_count (graph_of plan)) x);
  parts = omega arith;
  views = first;
  low = λ x e. absurd (omega (arith, no_bit (word_count (graph_of plan)) x, e));
  sound = λ x e. absurd (omega (arith, no_bit (word_count (graph_of plan)) x, e));
}
  where
    first : (k : ℕ) (v : View) → get_elem? (first_view plan ∷ []) k ≡ some v
        → MarkViewFits (graph_of plan) (replicate (word_count (graph_of plan)) 0) v
    first zero v e = subst (MarkViewFits (graph_of plan) (replicate (word_count (graph_of plan)) 0))
        (some-injective (first_view plan) v e)
        (record {
          idle = λ _. refl;
          ignorant = λ _. refl;
          graph = λ _. refl;
          own = λ x c. absurd c;
          known = λ x c. absurd c;
        })
    first (suc k) v e = absurd (some-ne-none v (sym e))

-- if one view has all parts, a bit is set exactly if its place stands in what that view has claimed
pub closes : (plan : Plan) (s : State (Unit {0}) View) (id : ℕ) (v : View) → Holds plan s
    → get_elem? s.views id ≡ some v → v.parts ≡ plan.seats → (x : ℕ) → bit_at s.words x ≡ times x v.claimed
closes plan s id v h at all x = sym (h.claims x)
    ∙ total_alone (λ (u : View). u.parts) (λ (u : View). times x u.claimed) s.views id v at
    (λ k u there none. ap (times x) ((h.views k u there).idle none)) (h.parts ∙ sym all)
