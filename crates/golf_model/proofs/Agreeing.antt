-- What is computed is what is derived: the objects that are reached, the live set and the dead goroutines.
-- For: `reach` (golf_model/specs/Reach.antt) and `live_list`, `dead` (golf_model/specs/LiveSet.antt)
-- By: induction over the list of objects, goroutines or nodes; otherwise the laws of what is reached
use Rattle.golf_theory.specs.Maps.{find}
use Rattle.golf_model.specs.Refs.{refs_of_goroutine}
use Rattle.golf_model.specs.Reach.{sources}
use Rattle.golf_model.specs.Collections.{prevents_removal, keeps, Keeps, retained, Retained}
use Rattle.std.proofs.Common.{◌≡◌, ◌⊎◌, ℕ, Bool, true, false, not, ◌&&◌, List, [], ◌∷◌, ◌++◌, map, inl, inr, refl, sym}
use Rattle.std.proofs.Common.{ap, ◌∙◌, subst, ◌==◌}
use Rattle.std.proofs.lemmas.Bool.{or_cases, or_left, or_right, and_parts, and_from, eqb-true, eq-eqb}
use Rattle.std.proofs.lemmas.Bool.{false_from_ne_true, both_ways, not_from_false, not-true}
use Rattle.golf_theory.specs.Membership.{In, is_in, any_of}
use Rattle.golf_theory.specs.Maps.{Entry, keys}
use Rattle.golf_theory.specs.Reached.{Follows}
use Rattle.golf_theory.proofs.Derivations.{Follows-grows}
use Rattle.golf_theory.proofs.LeastLaws.{Monotone, Covers, decided-sound, decided-complete}
use Rattle.golf_theory.proofs.Lists.{In-left, In-right, In-cases, In-map}
use Rattle.golf_theory.proofs.MapEntries.{In-keys_where, Entry-keys_where}
use Rattle.golf_theory.proofs.Tests.{is_in-from, In-from, any_of-from, from_any_of}
use Rattle.golf_data.specs.declared.value.Object.{Object}
use Rattle.golf_model.specs.Views.{GoroutineView}
use Rattle.golf_model.specs.Values.{refs}
use Rattle.golf_model.specs.Waiters.{waits_of}
use Rattle.golf_model.specs.State.{State, is_running}
use Rattle.golf_model.specs.Refs.{object_refs, goroutine_refs, waited, queue_refs, refs_if, refs_where}
use Rattle.golf_model.specs.Refs.{goroutine_refs_where, has_finaliser}
use Rattle.golf_model.specs.Reach.{RefersTo, Reach, is_near, reach}
use Rattle.golf_model.specs.LiveSet.{Node, LiveRoot, LiveStep, Live, has_object, has_goroutine, is_awakened, awakes}
use Rattle.golf_model.specs.LiveSet.{is_live_next, named_objects, nodes, live_list, is_dead, dead, Dead}

-- ---- references in what satisfies a test

refs_if-true : (b : Bool) (o : ℕ) (xs : List ℕ) → In o (refs_if b xs) → (b ≡ true) × In o xs
refs_if-true true o xs h = (refl, h)
refs_if-true false o xs h = absurd h

refs_if-from : (b : Bool) (o : ℕ) (xs : List ℕ) → b ≡ true → In o xs → In o (refs_if b xs)
refs_if-from true o xs t h = h
refs_if-from false o xs t h = cc

-- an object that passes refers to it
abbrev pub InTested : (ℕ → Bool) → List (ℕ × Object) → ℕ → Type 0
InTested test es o = (p : ℕ) × (x : Object) × (test p ≡ true) × Entry es p x × In o (object_refs x)

pub refs_where-sound : (test : ℕ → Bool) (es : List (ℕ × Object)) (o : ℕ) → In o (refs_where test es)
    → InTested test es o
refs_where-sound test [] o h = absurd h
refs_where-sound test (e ∷ es) o h = elim (In-cases o (refs_if (test e.0) (object_refs e.1)) (refs_where test es) h) [
  | inl a ↦ let r = refs_if-true (test e.0) o (object_refs e.1) a in (e.0, e.1, r.0, inl (refl, refl), r.1)
  | inr a ↦ let r = refs_where-sound test es o a in (r.0, r.1, r.2, inr r.3, r.4)
]

pub refs_where-complete : (test : ℕ → Bool) (es : List (ℕ × Object)) (o p : ℕ) (x : Object) → test p ≡ true
    → Entry es p x → In o (object_refs x) → In o (refs_where test es)
refs_where-complete test [] o p x t h i = absurd h
refs_where-complete test (e ∷ es) o p x t (inl k) i =
    In-left o (refs_if (test e.0) (object_refs e.1)) (refs_where test es)
    (refs_if-from (test e.0) o (object_refs e.1) (ap test (sym k.0) ∙ t) (subst (λ y. In o (object_refs y)) k.1 i))
refs_where-complete test (e ∷ es) o p x t (inr k) i =
    In-right o (refs_if (test e.0) (object_refs e.1)) (refs_where test es) (refs_where-complete test es o p x t k i)

abbrev pub InTestedGoroutine : (ℕ → Bool) → List (ℕ × GoroutineView) → ℕ → Type 0
InTestedGoroutine test es o = (g : ℕ) × (r : GoroutineView) × (test g ≡ true) × Entry es g r × In o (goroutine_refs r)

pub goroutine_refs_where-sound : (test : ℕ → Bool) (es : List (ℕ × GoroutineView)) (o : ℕ)
    → In o (goroutine_refs_where test es) → InTestedGoroutine test es o
goroutine_refs_where-sound test [] o h = absurd h
goroutine_refs_where-sound test (e ∷ es) o h =
    elim (In-cases o (refs_if (test e.0) (goroutine_refs e.1)) (goroutine_refs_where test es) h) [
      | inl a ↦ let r = refs_if-true (test e.0) o (goroutine_refs e.1) a in (e.0, e.1, r.0, inl (refl, refl), r.1)
      | inr a ↦ let r = goroutine_refs_where-sound test es o a in (r.0, r.1, r.2, inr r.3, r.4)
    ]

pub goroutine_refs_where-complete : (test : ℕ → Bool) (es : List (ℕ × GoroutineView)) (o g : ℕ) (r : GoroutineView)
    → test g ≡ true → Entry es g r → In o (goroutine_refs r) → In o (goroutine_refs_where test es)
goroutine_refs_where-complete test [] o g r t h i = absurd h
goroutine_refs_where-complete test (e ∷ es) o g r t (inl k) i =
    In-left o (refs_if (test e.0) (goroutine_refs e.1)) (goroutine_refs_where test es)
    (refs_if-from (test e.0) o (goroutine_refs e.1) (ap test (sym k.0) ∙ t)
    (subst (λ y. In o (goroutine_refs y)) k.1 i))
goroutine_refs_where-complete test (e ∷ es) o g r t (inr k) i =
    In-right o (refs_if (test e.0) (goroutine_refs e.1)) (goroutine_refs_where test es)
    (goroutine_refs_where-complete test es o g r t k i)

-- ---- what is reached

near-sound : (s : State) (xs got : List ℕ) (o : ℕ) → is_near s xs got o ≡ true
    → Follows (λ p. In p xs) (RefersTo s) got o
near-sound s xs got o h = elim (or_cases (is_in o xs) (is_in o (refs_where (λ p. is_in p got) s.objects)) h) [
  | inl t ↦ inl (In-from o xs t)
  | inr t ↦ let r = refs_where-sound (λ p. is_in p got) s.objects o (In-from o _ t) in inr
      (r.0, In-from r.0 got r.2, (r.1, r.3, r.4))
]

near-complete : (s : State) (xs got : List ℕ) (o : ℕ) → Follows (λ p. In p xs) (RefersTo s) got o
    → is_near s xs got o ≡ true
near-complete s xs got o (inl i) = or_left (is_in o xs) _ (is_in-from o xs i)
near-complete s xs got o (inr r) = or_right (is_in o xs) _
    (is_in-from o _ (refs_where-complete (λ p. is_in p got) s.objects o r.0 r.2.0 (is_in-from r.0 got r.1) r.2.1 r.2.2))

pub near-grows : (s : State) (xs : List ℕ) → Monotone (is_near s xs)
near-grows s xs got more o h t =
    near-complete s xs more o (Follows-grows (λ p. In p xs) (RefersTo s) got more o h (near-sound s xs got o t))

pub near-covered : (s : State) (xs : List ℕ) → Covers (is_near s xs) (xs ++ refs_where (λ p. true) s.objects)
near-covered s xs got o h t = elim (near-sound s xs got o t) [
  | inl i ↦ In-left o xs _ i
  | inr r ↦ In-right o xs _ (refs_where-complete (λ p. true) s.objects o r.0 r.2.0 refl r.2.1 r.2.2)
]

pub reach-sound : (s : State) (xs : List ℕ) (o : ℕ) → In o (reach s xs) → Reach s xs o
unfolding reach
reach-sound s xs o h = decided-sound (is_near s xs) (Follows (λ p. In p xs) (RefersTo s)) (near-sound s xs)
    (near-complete s xs) (xs ++ refs_where (λ p. true) s.objects) o h

pub reach-complete : (s : State) (xs : List ℕ) (o : ℕ) → Reach s xs o → In o (reach s xs)
unfolding reach
reach-complete s xs o d = decided-complete (is_near s xs) (Follows (λ p. In p xs) (RefersTo s)) (near-sound s xs)
    (near-complete s xs) (xs ++ refs_where (λ p. true) s.objects) (near-grows s xs) (near-covered s xs) o d

-- ---- what is live

pub has_object-sound : (xs : List Node) (o : ℕ) → has_object xs o ≡ true → In (Node.AnObject o) xs
has_object-sound [] o h = cc
has_object-sound (Node.AnObject p ∷ xs) o h = elim (or_cases (o == p) (has_object xs o) h) [
  | inl t ↦ inl (ap Node.AnObject (eqb-true o p t))
  | inr t ↦ inr (has_object-sound xs o t)
]
has_object-sound (Node.AGoroutine g ∷ xs) o h = inr (has_object-sound xs o h)

pub has_goroutine-sound : (xs : List Node) (g : ℕ) → has_goroutine xs g ≡ true → In (Node.AGoroutine g) xs
has_goroutine-sound [] g h = cc
has_goroutine-sound (Node.AnObject p ∷ xs) g h = inr (has_goroutine-sound xs g h)
has_goroutine-sound (Node.AGoroutine f ∷ xs) g h = elim (or_cases (g == f) (has_goroutine xs g) h) [
  | inl t ↦ inl (ap Node.AGoroutine (eqb-true g f t))
  | inr t ↦ inr (has_goroutine-sound xs g t)
]

-- the number of a node
object_number : Node → ℕ
object_number (Node.AnObject o) = o
object_number (Node.AGoroutine g) = g

abbrev is_an_object : Node → Bool
is_an_object (Node.AnObject o) = true
is_an_object (Node.AGoroutine g) = false

same_object : (o p : ℕ) → Node.AnObject o ≡ Node.AnObject p → o ≡ p
unfolding object_number
same_object o p e = ap object_number e

same_goroutine : (g f : ℕ) → Node.AGoroutine g ≡ Node.AGoroutine f → g ≡ f
unfolding object_number
same_goroutine g f e = ap object_number e

pub has_object-complete : (xs : List Node) (o : ℕ) → In (Node.AnObject o) xs → has_object xs o ≡ true
has_object-complete [] o h = absurd h
has_object-complete (Node.AnObject p ∷ xs) o (inl e) = or_left (o == p) _ (eq-eqb o p (same_object o p e))
has_object-complete (Node.AnObject p ∷ xs) o (inr h) = or_right (o == p) _ (has_object-complete xs o h)
has_object-complete (Node.AGoroutine g ∷ xs) o (inl e) = let f = ap is_an_object e in cc
has_object-complete (Node.AGoroutine g ∷ xs) o (inr h) = has_object-complete xs o h

pub has_goroutine-complete : (xs : List Node) (g : ℕ) → In (Node.AGoroutine g) xs → has_goroutine xs g ≡ true
has_goroutine-complete [] g h = absurd h
has_goroutine-complete (Node.AnObject p ∷ xs) g (inl e) = let f = ap is_an_object e in cc
has_goroutine-complete (Node.AnObject p ∷ xs) g (inr h) = has_goroutine-complete xs g h
has_goroutine-complete (Node.AGoroutine f ∷ xs) g (inl e) = or_left (g == f) _ (eq-eqb g f (same_goroutine g f e))
has_goroutine-complete (Node.AGoroutine f ∷ xs) g (inr h) = or_right (g == f) _ (has_goroutine-complete xs g h)

pub awakes-sound : (live : ℕ → Bool) (g : ℕ) (es : List (ℕ × GoroutineView)) → awakes live g es ≡ true
    → (r : GoroutineView) × Entry es g r × (is_awakened live r ≡ true)
awakes-sound live g [] h = cc
awakes-sound live g (e ∷ es) h = elim (or_cases ((g == e.0) && is_awakened live e.1) (awakes live g es) h) [
  | inl t ↦ let b = and_parts (g == e.0) (is_awakened live e.1) t in (e.1, inl (eqb-true g e.0 b.0, refl), b.1)
  | inr t ↦ let r = awakes-sound live g es t in (r.0, inr r.1, r.2)
]

pub awakes-complete : (live : ℕ → Bool) (g : ℕ) (es : List (ℕ × GoroutineView)) (r : GoroutineView) → Entry es g r
    → is_awakened live r ≡ true → awakes live g es ≡ true
awakes-complete live g [] r h t = absurd h
awakes-complete live g (e ∷ es) r (inl k) t =
    or_left ((g == e.0) && is_awakened live e.1) _
    (and_from (g == e.0) (is_awakened live e.1) (eq-eqb g e.0 k.0) (ap (is_awakened live) (sym k.1) ∙ t))
awakes-complete live g (e ∷ es) r (inr k) t =
    or_right ((g == e.0) && is_awakened live e.1) _ (awakes-complete live g es r k t)

abbrev LiveFollows : State → List Node → Node → Type 0
LiveFollows s = Follows (LiveRoot s) (LiveStep s)

pub live-sound : (s : State) (got : List Node) (x : Node) → is_live_next s got x ≡ true → LiveFollows s got x
live-sound s got (Node.AnObject o) h = elim (or_cases (is_in o (refs s.globals)) _ h) [
  | inl t ↦ inl (LiveRoot.Global o (In-from o (refs s.globals) t))
  | inr h1 ↦ elim (or_cases (is_in o (queue_refs s.queue)) _ h1) [
    | inl t ↦ inl (LiveRoot.InQueue o (In-from o (queue_refs s.queue) t))
    | inr h2 ↦ elim (or_cases (is_in o (refs_where (has_finaliser s) s.objects)) _ h2) [
      | inl t ↦ let r = refs_where-sound (has_finaliser s) s.objects o
          (In-from o (refs_where (has_finaliser s) s.objects) t) in inl
          (LiveRoot.InFinalised o r.0 r.1 (In-from r.0 (keys s.finalisers) r.2) r.3 r.4)
      | inr h3 ↦ elim (or_cases (is_in o (refs_where (has_object got) s.objects))
          (is_in o (goroutine_refs_where (has_goroutine got) s.goroutines)) h3) [
            | inl t ↦ let r = refs_where-sound (has_object got) s.objects o
                (In-from o (refs_where (has_object got) s.objects) t) in inr
                (Node.AnObject r.0, has_object-sound got r.0 r.2, LiveStep.InObject r.0 o r.1 r.3 r.4)
            | inr t ↦ let r = goroutine_refs_where-sound (has_goroutine got) s.goroutines o
                (In-from o (goroutine_refs_where (has_goroutine got) s.goroutines) t) in inr
                (Node.AGoroutine r.0, has_goroutine-sound got r.0 r.2, LiveStep.InGoroutine r.0 o r.1 r.3 r.4)
          ]
    ]
  ]
]
live-sound s got (Node.AGoroutine g) h = elim (or_cases (g == 0) (awakes (has_object got) g s.goroutines) h) [
  | inl t ↦ inl (subst (λ n. LiveRoot s (Node.AGoroutine n)) (sym (eqb-true g 0 t)) LiveRoot.FinaliserGoroutine)
  | inr t ↦ let r = awakes-sound (has_object got) g s.goroutines
      t in elim (or_cases (is_running r.0.mode) (any_of (has_object got) (waited (waits_of r.0.mode))) r.2) [
        | inl u ↦ inl (LiveRoot.Running g r.0 r.1 u)
        | inr u ↦ let w = from_any_of (has_object got) (waited (waits_of r.0.mode)) u in inr
            (Node.AnObject w.0, has_object-sound got w.0 w.2, LiveStep.Awakened w.0 g r.0 r.1 w.1)
      ]
]

live-complete_root : (s : State) (got : List Node) (x : Node) → LiveRoot s x → is_live_next s got x ≡ true
live-complete_root s got _ (LiveRoot.Global o i) =
    or_left (is_in o (refs s.globals)) _ (is_in-from o (refs s.globals) i)
live-complete_root s got _ (LiveRoot.InQueue o i) =
    or_right (is_in o (refs s.globals)) _ (or_left (is_in o (queue_refs s.queue)) _
    (is_in-from o (queue_refs s.queue) i))
live-complete_root s got _ (LiveRoot.InFinalised o p x k h i) =
    or_right (is_in o (refs s.globals)) _ (or_right (is_in o (queue_refs s.queue)) _
    (or_left (is_in o (refs_where (has_finaliser s) s.objects)) _
    (is_in-from o _ (refs_where-complete (has_finaliser s) s.objects o p x (is_in-from p (keys s.finalisers) k) h i))))
live-complete_root s got _ (LiveRoot.Running g r h t) =
    or_right (g == 0) _ (awakes-complete (has_object got) g s.goroutines r h (or_left (is_running r.mode) _ t))
live-complete_root s got _ LiveRoot.FinaliserGoroutine = refl

live-complete_step : (s : State) (got : List Node) (q x : Node) → In q got → LiveStep s q x
    → is_live_next s got x ≡ true
live-complete_step s got _ _ k (LiveStep.InObject p o x h i) =
    or_right (is_in o (refs s.globals)) _ (or_right (is_in o (queue_refs s.queue)) _
    (or_right (is_in o (refs_where (has_finaliser s) s.objects)) _
    (or_left (is_in o (refs_where (has_object got) s.objects)) _
    (is_in-from o _ (refs_where-complete (has_object got) s.objects o p x (has_object-complete got p k) h i)))))
live-complete_step s got _ _ k (LiveStep.InGoroutine g o r h i) =
    or_right (is_in o (refs s.globals)) _ (or_right (is_in o (queue_refs s.queue)) _
    (or_right (is_in o (refs_where (has_finaliser s) s.objects)) _
    (or_right (is_in o (refs_where (has_object got) s.objects)) _
    (is_in-from o _ (goroutine_refs_where-complete (has_goroutine got) s.goroutines o g r
    (has_goroutine-complete got g k) h i)))))
live-complete_step s got _ _ k (LiveStep.Awakened o g r h i) =
    or_right (g == 0) _ (awakes-complete (has_object got) g s.goroutines r h
    (or_right (is_running r.mode) _ (any_of-from (has_object got) (waited (waits_of r.mode)) o i
    (has_object-complete got o k))))

pub live-complete : (s : State) (got : List Node) (x : Node) → LiveFollows s got x → is_live_next s got x ≡ true
live-complete s got x (inl r) = live-complete_root s got x r
live-complete s got x (inr t) = live-complete_step s got t.0 x t.1 t.2

pub live-grows : (s : State) → Monotone (is_live_next s)
live-grows s got more x h t = live-complete s more x
    (Follows-grows (LiveRoot s) (LiveStep s) got more x h (live-sound s got x t))

-- each is among the candidates
object_node : (s : State) (o : ℕ) → In o (named_objects s) → In (Node.AnObject o) (nodes s)
object_node s o i = In-left (Node.AnObject o) (map Node.AnObject (named_objects s)) _
    (In-map Node.AnObject o (named_objects s) i)

goroutine_node : (s : State) (g : ℕ) → In g (keys s.goroutines) → In (Node.AGoroutine g) (nodes s)
goroutine_node s g i = In-right (Node.AGoroutine g) (map Node.AnObject (named_objects s)) _
    (inr (In-map Node.AGoroutine g (keys s.goroutines) i))

Entry-key : {X : Type 0} (es : List (ℕ × X)) (k : ℕ) (x : X) → Entry es k x → In k (keys es)
Entry-key [] k x h = absurd h
Entry-key (e ∷ es) k x (inl h) = inl h.0
Entry-key (e ∷ es) k x (inr h) = inr (Entry-key es k x h)

-- a reference in an object, and one in a goroutine, are named
in_object : (s : State) (o p : ℕ) (x : Object) → Entry s.objects p x → In o (object_refs x)
    → In (Node.AnObject o) (nodes s)
in_object s o p x h i =
    object_node s o (In-right o (refs s.globals) _
    (In-right o (queue_refs s.queue) _ (In-left o (refs_where (λ n. true) s.objects) _
    (refs_where-complete (λ n. true) s.objects o p x refl h i))))

in_goroutine : (s : State) (o g : ℕ) (r : GoroutineView) → Entry s.goroutines g r → In o (goroutine_refs r)
    → In (Node.AnObject o) (nodes s)
in_goroutine s o g r h i =
    object_node s o (In-right o (refs s.globals) _
    (In-right o (queue_refs s.queue) _ (In-right o (refs_where (λ n. true) s.objects) _
    (goroutine_refs_where-complete (λ n. true) s.goroutines o g r refl h i))))

covered_root : (s : State) (x : Node) → LiveRoot s x → In x (nodes s)
covered_root s _ (LiveRoot.Global o i) = object_node s o (In-left o (refs s.globals) _ i)
covered_root s _ (LiveRoot.InQueue o i) =
    object_node s o (In-right o (refs s.globals) _ (In-left o (queue_refs s.queue) _ i))
covered_root s _ (LiveRoot.InFinalised o p x k h i) = in_object s o p x h i
covered_root s _ (LiveRoot.Running g r h t) = goroutine_node s g (Entry-key s.goroutines g r h)
covered_root s _ LiveRoot.FinaliserGoroutine =
    In-right (Node.AGoroutine 0) (map Node.AnObject (named_objects s)) _ (inl refl)

covered_step : (s : State) (q x : Node) → LiveStep s q x → In x (nodes s)
covered_step s _ _ (LiveStep.InObject p o x h i) = in_object s o p x h i
covered_step s _ _ (LiveStep.InGoroutine g o r h i) = in_goroutine s o g r h i
covered_step s _ _ (LiveStep.Awakened o g r h i) = goroutine_node s g (Entry-key s.goroutines g r h)

pub live-covered : (s : State) → Covers (is_live_next s) (nodes s)
live-covered s got x h t = elim (live-sound s got x t) [ inl r ↦ covered_root s x r | inr u ↦ covered_step s u.0 x u.2 ]

pub live_list-sound : (s : State) (x : Node) → In x (live_list s) → Live s x
unfolding live_list
live_list-sound s x h = decided-sound (is_live_next s) (LiveFollows s) (live-sound s) (live-complete s) (nodes s) x h

pub live_list-complete : (s : State) (x : Node) → Live s x → In x (live_list s)
unfolding live_list
live_list-complete s x d = decided-complete (is_live_next s) (LiveFollows s) (live-sound s) (live-complete s) (nodes s)
    (live-grows s) (live-covered s) x d

-- ---- what is dead

pub dead-sound : (s : State) (g : ℕ) → In g (dead s) → Dead s g
dead-sound s g h =
    let r = Entry-keys_where (is_dead (live_list s)) s.goroutines g h in
    let t = and_parts (not (is_running r.0.mode)) (not (has_goroutine (live_list s) g)) r.2 in (
      r.0,
      r.1,
      not-true (is_running r.0.mode) t.0,
      λ d. both_ways (has_goroutine (live_list s) g) (not-true (has_goroutine (live_list s) g) t.1)
          (has_goroutine-complete (live_list s) g (live_list-complete s (Node.AGoroutine g) d)),
    )

pub dead-complete : (s : State) (g : ℕ) → Dead s g → In g (dead s)
dead-complete s g (r, h, f, n) =
    In-keys_where (is_dead (live_list s)) s.goroutines g r h
    (and_from (not (is_running r.mode)) (not (has_goroutine (live_list s) g)) (not_from_false (is_running r.mode) f)
    (not_from_false (has_goroutine (live_list s) g)
    (false_from_ne_true (has_goroutine (live_list s) g)
    (λ t. n (live_list-sound s (Node.AGoroutine g) (has_goroutine-sound (live_list s) g t))))))

-- a blocked goroutine that is not dead is live
pub others-live : (s : State) (g : ℕ) (r : GoroutineView) → Entry s.goroutines g r → is_running r.mode ≡ false
    → (In g (dead s) → ⊥) → Live s (Node.AGoroutine g)
others-live s g r h f n = elim (has_goroutine (live_list s) g) as (λ b. has_goroutine (live_list s) g ≡ b
    → Live s (Node.AGoroutine g)) [
      | true ↦ λ t. live_list-sound s (Node.AGoroutine g) (has_goroutine-sound (live_list s) g t)
      | false ↦ λ t. absurd (n (In-keys_where (is_dead (live_list s)) s.goroutines g r h
          (and_from (not (is_running r.mode)) (not (has_goroutine (live_list s) g))
          (not_from_false (is_running r.mode) f) (not_from_false (has_goroutine (live_list s) g) t))))
    ] refl

-- ---- what is kept and retained

prevents_removal-sound : (s : State) (sets_finalisers : Bool) (o : ℕ) → prevents_removal s sets_finalisers o ≡ true
    → In o (keys s.finalisers) ⊎ ((sets_finalisers ≡ true) × Live s (Node.AnObject o))
prevents_removal-sound s sets_finalisers o h =
    elim (or_cases (has_finaliser s o) (sets_finalisers && has_object (live_list s) o) h) [
      | inl t ↦ inl (In-from o (keys s.finalisers) t)
      | inr t ↦ let b = and_parts sets_finalisers (has_object (live_list s) o) t in inr
          (b.0, live_list-sound s (Node.AnObject o) (has_object-sound (live_list s) o b.1))
    ]

prevents_removal-complete : (s : State) (sets_finalisers : Bool) (o : ℕ) → In o (keys s.finalisers)
    ⊎ ((sets_finalisers ≡ true) × Live s (Node.AnObject o)) → prevents_removal s sets_finalisers o ≡ true
prevents_removal-complete s sets_finalisers o (inl i) =
    or_left (has_finaliser s o) _ (is_in-from o (keys s.finalisers) i)
prevents_removal-complete s sets_finalisers o (inr r) =
    or_right (has_finaliser s o) _ (and_from sets_finalisers (has_object (live_list s) o) r.0
    (has_object-complete (live_list s) o (live_list-complete s (Node.AnObject o) r.1)))

pub keeps-sound : (s : State) (sets_finalisers : Bool) (g : ℕ) → keeps s sets_finalisers g ≡ true
    → Keeps s sets_finalisers g
keeps-sound s sets_finalisers g h =
    let xs : List ℕ = refs_of_goroutine (find g s.goroutines) in
    let r = from_any_of (prevents_removal s sets_finalisers) (reach s xs) h in
    (r.0, reach-sound s xs r.0 r.1, prevents_removal-sound s sets_finalisers r.0 r.2)

pub keeps-complete : (s : State) (sets_finalisers : Bool) (g : ℕ) → Keeps s sets_finalisers g
    → keeps s sets_finalisers g ≡ true
keeps-complete s sets_finalisers g (o, d, h) =
    any_of-from (prevents_removal s sets_finalisers) (reach s (refs_of_goroutine (find g s.goroutines))) o
    (reach-complete s (refs_of_goroutine (find g s.goroutines)) o d)
    (prevents_removal-complete s sets_finalisers o h)

pub retained-sound : (s : State) (gone : List ℕ) (o : ℕ) → In o (retained s gone) → Retained s gone o
retained-sound s gone o h = elim (In-cases o (reach s (sources s gone)) (keys s.finalisers) h) [
  | inl a ↦ inl
      (reach-sound s (sources s gone) o a)
  | inr a ↦ inr a
]

pub retained-complete : (s : State) (gone : List ℕ) (o : ℕ) → Retained s gone o → In o (retained s gone)
retained-complete s gone o (inl d) = In-left o (reach s (sources s gone)) (keys s.finalisers)
    (reach-complete s (sources s gone) o d)
retained-complete s gone o (inr i) = In-right o (reach s (sources s gone)) (keys s.finalisers) i
