-- Which links a graph has.
-- For: `IsEdge`, `IsFinding` (golf_cert/specs/Edges.antt) and `edge_flags` (src/edges.rt)
-- By: induction over the list of sleepers for one that refers; otherwise what one more turn of a loop adds
use Rattle.std.proofs.Common.{◌≡◌, ℕ, zero, suc, ◌+◌, ◌-◌, ◌<◌, ◌≤◌, ◌⊎◌, inl, inr, List, [], ◌∷◌, ◌++◌, length, get_or}
use Rattle.std.proofs.Common.{set, take, replicate, Option, Some, None, Bool, true, false, refl, sym, ap, ◌∙◌, subst}
use Rattle.std.proofs.Common.{arith}
use Rattle.std.specs.Prelude.{◌↔◌, slice_get, unwrap_or, option_map}
use Rattle.std.proofs.lemmas.Bool.{cases_eq, cases_lt}
use Rattle.std.proofs.lemmas.List.{get_or-set_same, get_or-set_other, length-set, take_more, get_or_past}
use Rattle.std.proofs.lemmas.List.{get_or-replicate, length-replicate}
use Rattle.std.proofs.lemmas.Option.{slice_get_within}
use Rattle.golf_theory.specs.Membership.{In}
use Rattle.golf_theory.proofs.Lists.{Every-at, In-left, In-right, In-cases}
use Rattle.golf_rows.specs.Rows.{row_of, AddsTo}
use Rattle.golf_model.specs.declared.graph.GraphParts.{GraphParts}
use Rattle.golf_model.specs.Sleepers.{Sleeper}
use Rattle.golf_model.specs.Graph.{node_count, sleeper_count, children_of, sleeper_waits, sleeper_references, Justifies}
use Rattle.golf_model.specs.Graph.{IsInRange}
use Rattle.golf_cert.specs.declared.links.Link.{Link}
use Rattle.golf_cert.specs.declared.links.Link.TheVariants.{Root, Child, Woken, Held}
use Rattle.golf_cert.specs.declared.edges.Step.{Step}
use Rattle.golf_marks.specs.Flags.{IsSet}
use Rattle.golf_cert.specs.Parents.{parent_in}
use Rattle.golf_cert.specs.Steps.{place_count}
use Rattle.golf_cert.specs.Edges.{source_of, IsEdge, IsEdgeAt, IsStepOf, HasLeading, Enters, Stamps, FindsEdges}
use Rattle.golf_cert.specs.Edges.{IsFinding}
use Rattle.golf_cert.specs.Edges.{HasEdges}
use Rattle.golf_mark.proofs.Ranges.{row_past, children-nodes, waits-nodes, references-nodes, waits-below}
use Rattle.golf_marks.proofs.Flags.{IsSet-set, set-IsSet}
use Rattle.golf_cert.proofs.FlagLaws.{unset, same_item}
use Rattle.golf_cert.proofs.StepLaws.{child_from, refers_from, wakes_from}

-- the numbers of a link that the graph has are in range
pub child_in : (g : GraphParts) (from to : ℕ) → IsInRange g → In to (children_of g from) → (from < node_count g)
    × (to < node_count g)
child_in g from to fit i = (
  row_past g.children from to i,
  Every-at (λ x. x < node_count g) (children_of g from) to (children-nodes g fit from) i,
)

pub woken_in : (g : GraphParts) (node s : ℕ) → IsInRange g → In node (sleeper_waits g s) → (node < node_count g)
    × (s < sleeper_count g)
woken_in g node s fit i = (
  Every-at (λ x. x < node_count g) (sleeper_waits g s) node (waits-nodes g fit s) i,
  waits-below g s node i,
)

-- who refers to a node is a sleeper
references_past : (xs : List Sleeper) (s p : ℕ) → In p (unwrap_or (option_map (λ x. x.references) (slice_get xs s)) [])
    → s < length xs
references_past [] s p h = absurd h
references_past (x ∷ xs) zero p h = omega arith
references_past (x ∷ xs) (suc s) p h = omega (arith, references_past xs s p h)

pub held_in : (g : GraphParts) (s node : ℕ) → IsInRange g → In node (sleeper_references g s) → (s < sleeper_count g)
    × (node < node_count g)
held_in g s node fit i = (
  references_past g.sleepers s node i,
  Every-at (λ x. x < node_count g) (sleeper_references g s) node (references-nodes g fit s) i,
)

pub child_step-is : (g : GraphParts) (from to : ℕ) → IsInRange g → from < node_count g → to < node_count g
    → IsStepOf g (Child from to) (record { from = from; to = to })
child_step-is g from to fit low near = record {
  from_low = omega (arith, low);
  to_low = omega (arith, near);
  source = refl;
  target = refl;
  edge = (λ i. Justifies.child i, λ j. child_from g from to low near j);
}

pub woken_step-is : (g : GraphParts) (node s to : ℕ) → IsInRange g → node < node_count g → s < sleeper_count g
    → to ≡ node_count g + s → IsStepOf g (Woken node s) (record { from = node; to = to })
woken_step-is g node s to fit low near is = record {
  from_low = omega (arith, low);
  to_low = omega (arith, near, is);
  source = refl;
  target = is;
  edge = (
    λ i. Justifies.wakes s is i,
    λ j.
        let w = wakes_from g node to fit low (omega (arith, is)) j in
        let same : to - node_count g ≡ s = omega (arith, is) in
        subst (λ (t : ℕ). In node (sleeper_waits g t)) same w,
  );
}

pub held_step-is : (g : GraphParts) (s node from : ℕ) → IsInRange g → s < sleeper_count g → node < node_count g
    → from ≡ node_count g + s → IsStepOf g (Held s node) (record { from = from; to = node })
held_step-is g s node from fit low near is = record {
  from_low = omega (arith, low, is);
  to_low = omega (arith, near);
  source = is;
  target = refl;
  edge = (
    λ i. Justifies.refers s is i,
    λ j.
        let r = refers_from g from node fit (omega (arith, is)) j in
        let same : from - node_count g ≡ s = omega (arith, is) in
        subst (λ (t : ℕ). In node (sleeper_references g t)) same r,
  );
}

pub Enters-one : (g : GraphParts) (link : Link) (step : Step) (number : ℕ) (old new : List (List ℕ))
    → IsStepOf g link step → AddsTo (λ n. In n (step.from ∷ [])) number old new → Enters g link number old new
Enters-one g link step number old new s adds = record {
  kept = λ n i h. elim ((adds n i).0 h) [ inl j ↦ inl j | inr e ↦ inr e.0 ];
  stays = λ n i h. (adds n i).1 (inl h);
  there = λ e. (adds (source_of g link) number).1 (inr (refl, inl (sym s.source)));
}

pub HasLeading-none : (g : GraphParts) (links : List Link) (rows : List (List ℕ)) → length rows ≡ place_count g
    → ((n s : ℕ) → In s (row_of rows n) → ⊥) → HasLeading g links 0 rows
HasLeading-none g links rows size none =
    record { row_count = size; within = λ n i h. absurd (none n i h); all = λ i link low. absurd (omega (arith, low)) }

pub HasLeading-more : (g : GraphParts) (links : List Link) (number : ℕ) (link : Link) (old new : List (List ℕ))
    → slice_get links number ≡ Some link → length new ≡ length old → HasLeading g links number old
    → Enters g link number old new → HasLeading g links (number + 1) new
HasLeading-more g links number link old new at size h e = record {
  row_count = size ∙ h.row_count;
  within = λ n i k. elim (e.kept n i k) [ inl j ↦ omega (arith, h.within n i j) | inr same ↦ omega (arith, same) ];
  all = λ i other low get edge. elim (cases_lt i number) [
    | inl less ↦ e.stays (source_of g other) i (h.all i other less get edge)
    | inr more ↦
        let same : i ≡ number = omega (arith, low, more) in
        let is : other ≡ link = same_item links number other link
        (subst (λ (k : ℕ). slice_get links k ≡ Some other) same get) at in
        let mine : IsEdge g link = subst (IsEdge g) is edge in
        subst (λ (k : ℕ). In k (row_of new (source_of g other))) (sym same)
        (subst (λ (l : Link). In number (row_of new (source_of g l))) (sym is) (e.there mine))
  ];
}

no_stamp : (o : Option ℕ) (x : ℕ) → o ≡ Some x → o ≡ None → ⊥
no_stamp o x e f = cc

stamp_same : (x y : ℕ) → Some x ≡ Some y → x ≡ y
stamp_same x y e = cc

-- stamps
pub Stamps-none : (from : ℕ) (stamps : List (Option ℕ)) → Stamps from [] stamps stamps
Stamps-none from stamps = record {
  size = refl;
  stamped = λ p. (λ h. inl h, λ h. elim h [ inl e ↦ e | inr none ↦ absurd none ]);
  others = λ p x h. inr h;
}

pub Stamps-more : (from : ℕ) (places : List ℕ) (i : ℕ) (old mid : List (Option ℕ)) → i < length places
    → get_or places i 0 < length mid → Stamps from (take i places) old mid
    → Stamps from (take (i + 1) places) old (set mid (get_or places i 0) (Some from))
Stamps-more from places i old mid low fits s =
    let q : ℕ = get_or places i 0 in
    let new : List (Option ℕ) = set mid q (Some from) in
    let step : take (i + 1) places ≡ take i places ++ q ∷ [] = take_more places i 0 low in
    let here : parent_in new q ≡ Some from = get_or-set_same mid q (Some from) None fits in
    let other : (p : ℕ) → (p ≡ q → ⊥) → parent_in new p ≡ parent_in mid p =
    λ p apart. get_or-set_other mid q p (Some from) None apart in
    record {
      size = length-set mid q (Some from) ∙ s.size;
      stamped = λ p. (
        λ h. elim (cases_eq p q) [
          | inl same ↦ inr (subst (λ (l : List ℕ). In p l) (sym step) (In-right p (take i places) (q ∷ []) (inl same)))
          | inr apart ↦ elim ((s.stamped p).0 (sym (other p apart) ∙ h)) [
            | inl e ↦ inl e
            | inr k ↦ inr (subst (λ (l : List ℕ). In p l) (sym step) (In-left p (take i places) (q ∷ []) k))
          ]
        ],
        λ h. elim (cases_eq p q) [
          | inl same ↦ subst (λ (x : ℕ). parent_in new x ≡ Some from) (sym same) here
          | inr apart ↦ other p apart ∙ (s.stamped p).1 (elim h [
            | inl e ↦ inl e
            | inr k ↦ elim (In-cases p (take i places) (q ∷ []) (subst (λ (l : List ℕ). In p l) step k)) [
              | inl j ↦ inr j
              | inr j ↦ elim j [ inl same ↦ absurd (apart same) | inr none ↦ absurd none ]
            ]
          ])
        ],
      );
      others = λ p x h. elim (cases_eq p q) [
        | inl same ↦ inl (stamp_same x from (sym (subst (λ (y : ℕ). parent_in new y ≡ Some x) same h) ∙ here))
        | inr apart ↦ s.others p x (sym (other p apart) ∙ h)
      ];
    }

-- after both parts, a place has stamped exactly what it justifies
pub stamped_all : {from : ℕ} {first second : List ℕ} {a b c : List (Option ℕ)} (g : GraphParts)
    → ((p x : ℕ) → parent_in a p ≡ Some x → x < from) → ((p : ℕ) → In p first → Justifies g from p)
    → ((p : ℕ) → In p second → Justifies g from p)
    → ((p : ℕ) → Justifies g from p → In p first ⊎ In p second) → Stamps from first a b → Stamps from second b c
    → (p : ℕ) → (parent_in c p ≡ Some from) ↔ Justifies g from p
stamped_all {from} {first} {second} {a} {b} {c} g old left right parts s t p = (
  λ h. elim ((t.stamped p).0 h) [
    | inl e ↦ elim ((s.stamped p).0 e) [ inl f ↦ absurd (omega (arith, old p from f)) | inr i ↦ left p i ]
    | inr i ↦ right p i
  ],
  λ j. (t.stamped p).1 (elim (parts p j) [ inl i ↦ inl ((s.stamped p).1 (inr i)) | inr i ↦ inr i ]),
)

-- found links
pub FindsEdges-none : (g : GraphParts) (links : List Link) (from : ℕ) (flags : List Bool)
    → FindsEdges g links from [] flags flags
FindsEdges-none g links from flags = record {
  size = refl;
  kept = λ i h. h;
  sound = λ i h. inl h;
  found = λ i link h. absurd h;
}

-- the flag of the next number is set if the graph has its link, and it leads from there
pub FindsEdges-more : {link : Link} {old mid new : List Bool} (g : GraphParts) (links : List Link) (from : ℕ)
    (numbers : List ℕ) (k : ℕ) → k < length numbers → slice_get links (get_or numbers k 0) ≡ Some link
    → length mid ≡ length links
    → ((new ≡ set mid (get_or numbers k 0) true) × IsEdge g link)
    ⊎ ((new ≡ mid) × ((IsEdge g link × (source_of g link ≡ from)) → ⊥))
    → FindsEdges g links from (take k numbers) old mid → FindsEdges g links from (take (k + 1) numbers) old new
FindsEdges-more {link} {old} {mid} {new} g links from numbers k low at size cases f =
    let n : ℕ = get_or numbers k 0 in
    let step : take (k + 1) numbers ≡ take k numbers ++ n ∷ [] = take_more numbers k 0 low in
    let fits : n < length mid = omega (arith, size, slice_get_within links n link at) in
    let split : (i : ℕ) → In i (take (k + 1) numbers) → In i (take k numbers) ⊎ (i ≡ n) =
    λ i h. elim (In-cases i (take k numbers) (n ∷ []) (subst (λ (l : List ℕ). In i l) step h)) [
      | inl j ↦ inl j
      | inr j ↦ elim j [ inl e ↦ inr e | inr none ↦ absurd none ]
    ] in
    elim cases [
      | inl (is, edge) ↦ subst (FindsEdges g links from (take (k + 1) numbers) old) (sym is) record {
        size = length-set mid n true ∙ f.size;
        kept = λ i h. set-IsSet mid n i fits (inr (f.kept i h));
        sound = λ i h. elim (IsSet-set mid n i fits h) [
          | inl e ↦ inr (subst (λ (x : ℕ). IsEdgeAt g links x) (sym e) (link, at, edge))
          | inr j ↦ f.sound i j
        ];
        found = λ i other h get e s. elim (split i h) [
          | inl j ↦ set-IsSet mid n i fits (inr (f.found i other j get e s))
          | inr same ↦ set-IsSet mid n i fits (inl same)
        ];
      }
      | inr (is, none) ↦ subst (FindsEdges g links from (take (k + 1) numbers) old) (sym is) record {
        size = f.size;
        kept = f.kept;
        sound = f.sound;
        found = λ i other h get e s. elim (split i h) [
          | inl j ↦ f.found i other j get e s
          | inr same ↦
              let it : other ≡ link = same_item links n other link
              (subst (λ (x : ℕ). slice_get links x ≡ Some other) same get) at in
              absurd (none (subst (IsEdge g) it e, subst (λ (l : Link). source_of g l ≡ from) it s))
        ];
      }
    ]

pub IsFinding-none : (g : GraphParts) (links : List Link) (stamps : List (Option ℕ)) (flags : List Bool)
    → stamps ≡ replicate (place_count g) None → flags ≡ replicate (length links) false
    → IsFinding g links 0 stamps flags
IsFinding-none g links stamps flags es ef =
    let none : (p : ℕ) → parent_in stamps p ≡ None = λ p. ap (λ (l : List (Option ℕ)). get_or l p None) es
    ∙ elim (cases_lt p (place_count g)) [
      | inl low ↦ get_or-replicate (place_count g) p None None low
      | inr past ↦ get_or_past (replicate (place_count g) None) p None
          (omega (arith, length-replicate {A = Option ℕ} (place_count g) None))
    ] in
    record {
      stamp_count = ap length es ∙ length-replicate {A = Option ℕ} (place_count g) None;
      flag_count = ap length ef ∙ length-replicate {A = Bool} (length links) false;
      stamps_below = λ p x h. absurd (no_stamp (parent_in stamps p) x h (none p));
      sound = λ i h. absurd (unset (length links) i (subst (λ (l : List Bool). IsSet l i) ef h));
      found = λ i link get e low. absurd (omega (arith, low));
    }

pub IsFinding-more : {g : GraphParts} {links : List Link} {place : ℕ} {leading : List (List ℕ)}
    {a b c : List (Option ℕ)} {first second : List ℕ} {old new : List Bool} → HasLeading g links (length links) leading
    → IsFinding g links place a old
    → Stamps place first a b → Stamps place second b c → FindsEdges g links place (row_of leading place) old new
    → IsFinding g links (place + 1) c new
IsFinding-more {g} {links} {place} {leading} {a} {b} {c} {first} {second} {old} {new} l h s t f = record {
  stamp_count = t.size ∙ s.size ∙ h.stamp_count;
  flag_count = f.size ∙ h.flag_count;
  stamps_below = λ p x e. elim (t.others p x e) [
    | inl same ↦ omega (arith, same)
    | inr d ↦ elim (s.others p x d) [ inl same ↦ omega (arith, same) | inr k ↦ omega (arith, h.stamps_below p x k) ]
  ];
  sound = λ i k. elim (f.sound i k) [ inl j ↦ h.sound i j | inr e ↦ e ];
  found = λ i link get e low. elim (cases_lt (source_of g link) place) [
    | inl less ↦ f.kept i (h.found i link get e less)
    | inr more ↦
        let same : source_of g link ≡ place = omega (arith, low, more) in
        let there : In i (row_of leading place) =
        subst (λ (n : ℕ). In i (row_of leading n)) same (l.all i link (slice_get_within links i link get) get e) in
        f.found i link there get e same
  ];
}

-- what the graph has leads from one of its places
source_below : (g : GraphParts) (link : Link) → IsInRange g → IsEdge g link → source_of g link < place_count g
source_below g (Root node) fit e = absurd e
source_below g (Child from to) fit e = omega (arith, (child_in g from to fit e).0)
source_below g (Woken node s) fit e = omega (arith, (woken_in g node s fit e).0)
source_below g (Held s node) fit e = omega (arith, (held_in g s node fit e).0)

pub found_all : (g : GraphParts) (links : List Link) (bound : ℕ) (stamps : List (Option ℕ)) (flags : List Bool)
    → IsInRange g → place_count g ≤ bound → IsFinding g links bound stamps flags → HasEdges g links flags
found_all g links bound stamps flags fit all h = record {
  flag_count = h.flag_count;
  is_edge = λ i link get. (
    λ k. let r = h.sound i k in subst (IsEdge g) (same_item links i r.0 link r.1 get) r.2,
    λ e. h.found i link get e (omega (arith, source_below g link fit e, all)),
  );
}
