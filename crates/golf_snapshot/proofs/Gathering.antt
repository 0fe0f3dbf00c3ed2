-- What is gathered from a list, one member after the other.
-- For: `add_values` and `add_frames`, src/references.rt; `ranks`, golf_snapshot/specs/Parts.antt.
-- By: induction over the list that is gone through.
use Rattle.std.proofs.Common.{◌≡◌, ℕ, suc, zero, ◌+◌, ◌-◌, ◌<◌, ◌≤◌, List, [], ◌∷◌, ◌++◌, length, take, drop, reverse}
use Rattle.std.proofs.Common.{get_or, Bool, not, map, filter, refl, sym, ap, ◌∙◌, append_assoc, append-nil, arith}
use Rattle.std.proofs.lemmas.List.{reverse-append, map-append, drop_all}
use Rattle.std.proofs.lemmas.List.Elements.{filter-append}
use Rattle.std.proofs.Math.Seq.{take-suc}
use Rattle.golf_data.specs.declared.value.Object.{Object}
use Rattle.golf_data.specs.declared.value.Value.{Value}
use Rattle.golf_data.specs.declared.goroutine.Deferred.{Deferred}
use Rattle.golf_data.specs.declared.goroutine.Wait.{Wait}
use Rattle.golf_model.specs.Views.{FrameView, GoroutineView}
use Rattle.golf_model.specs.Values.{value_refs, refs}
use Rattle.golf_model.specs.Refs.{object_refs, deferred_refs, frame_refs, frames_refs, waited, wait_refs}
use Rattle.golf_model.specs.Refs.{goroutine_refs, queue_refs, refs_if, refs_where, goroutine_refs_where}
use Rattle.golf_data.specs.declared.goroutine.Queued.{Queued}
use Rattle.golf_theory.specs.Maps.{rank}
use Rattle.golf_snapshot.specs.Parts.{ranks, is_awake, awake_refs, sleeper_of}
use Rattle.golf_snapshot.specs.MapEntries.{sleepers_of}

drop-suc : {X : Type 0} (xs : List X) (i : ℕ) (d : X) → i < length xs → drop i xs ≡ get_or xs i d ∷ drop (suc i) xs
drop-suc [] i d h = absurd (omega arith)
drop-suc (x ∷ xs) zero d h = refl
drop-suc (x ∷ xs) (suc i) d h = drop-suc xs i d (omega arith)

drop-at : {X : Type 0} (xs : List X) (i : ℕ) (d : X) → i < length xs → drop i xs ≡ get_or xs i d ∷ drop (i + 1) xs
drop-at xs i d h = let next : suc i ≡ i + 1 = omega arith in drop-suc xs i d h
    ∙ ap (λ n. get_or xs i d ∷ drop n xs) next

reverse-cons : {X : Type 0} (x : X) (xs : List X) → reverse (x ∷ xs) ≡ reverse xs ++ x ∷ []
reverse-cons x xs = reverse-append (x ∷ []) xs

-- G gathers what F gives for each member
module _ {X : Type 0} (F : X → List ℕ) (G : List X → List ℕ) (nil : G [] ≡ [])
    (cons : (x : X) (xs : List X) → G (x ∷ xs) ≡ F x ++ G xs) where
  pub gather-append : (xs ys : List X) → G (xs ++ ys) ≡ G xs ++ G ys
  gather-append [] ys = ap (λ a. a ++ G ys) (sym nil)
  gather-append (x ∷ xs) ys =
      cons x (xs ++ ys) ∙ ap (λ a. F x ++ a) (gather-append xs ys) ∙ sym (append_assoc (F x) (G xs) (G ys))
      ∙ ap (λ a. a ++ G ys) (sym (cons x xs))

  gather-one : (x : X) → G (x ∷ []) ≡ F x
  gather-one x = cons x [] ∙ ap (λ a. F x ++ a) nil ∙ append-nil (F x)

  gather-push : (old text later : List ℕ) (xs : List X) (x : X) → text ≡ old ++ G xs → later ≡ text ++ F x → later ≡ old
      ++ G (xs ++ x ∷ [])
  gather-push old text later xs x so is =
      is ∙ ap (λ a. a ++ F x) so ∙ append_assoc old (G xs) (F x) ∙ ap (λ a. old ++ (G xs ++ a)) (sym (gather-one x))
      ∙ ap (λ a. old ++ a) (sym (gather-append xs (x ∷ [])))

  -- one member more from the front
  pub one-more : (old text later : List ℕ) (xs : List X) (i : ℕ) (d : X) → i < length xs → text ≡ old ++ G (take i xs)
      → later ≡ text ++ F (get_or xs i d) → later ≡ old ++ G (take (i + 1) xs)
  one-more old text later xs i d h so is =
      let next : i + 1 ≡ suc i = omega arith in
      gather-push old text later (take i xs) (get_or xs i d) so is
      ∙ ap (λ ys. old ++ G ys) (sym (ap (λ n. take n xs) next ∙ take-suc xs i d h))

  -- one member more from the back
  pub one-back : (old text later : List ℕ) (xs : List X) (n : ℕ) (d : X) → 0 < n → n ≤ length xs → text ≡ old
      ++ G (reverse (drop n xs)) → later ≡ text ++ F (get_or xs (n - 1) d) → later ≡ old
      ++ G (reverse (drop (n - 1) xs))
  one-back old text later xs n d h l so is =
      let i = n - 1 in
      let same : n ≡ i + 1 = omega (arith, h) in
      gather-push old text later (reverse (drop (i + 1) xs)) (get_or xs i d)
      (so ∙ ap (λ k. old ++ G (reverse (drop k xs))) same) is
      ∙ ap (λ ys. old ++ G ys) (sym (reverse-cons (get_or xs i d) (drop (i + 1) xs))
      ∙ ap reverse (sym (drop-at xs i d (omega (arith, h, l)))))

-- the nodes of what is gathered
module _ (objects : List (ℕ × Object)) where
  pub ranks-append : (xs ys : List ℕ) → ranks objects (xs ++ ys) ≡ ranks objects xs ++ ranks objects ys
  ranks-append xs ys = map-append (λ o. rank o objects) xs ys

  abbrev pub ValueNodes : Value → List ℕ
  ValueNodes v = ranks objects (value_refs v)

  abbrev pub ValuesNodes : List Value → List ℕ
  ValuesNodes vs = ranks objects (refs vs)

  pub values-cons : (v : Value) (vs : List Value) → ValuesNodes (v ∷ vs) ≡ ValueNodes v ++ ValuesNodes vs
  values-cons v vs = ranks-append (value_refs v) (refs vs)

  abbrev pub DeferredNodes : List Deferred → List ℕ
  DeferredNodes ds = ranks objects (deferred_refs ds)

  pub deferred-cons : (d : Deferred) (ds : List Deferred) → DeferredNodes (d ∷ ds) ≡ ValuesNodes d.arguments
      ++ DeferredNodes ds
  deferred-cons d ds = ranks-append (refs d.arguments) (deferred_refs ds)

  abbrev pub FrameNodes : FrameView → List ℕ
  FrameNodes f = ranks objects (frame_refs f)

  abbrev pub FramesNodes : List FrameView → List ℕ
  FramesNodes fs = ranks objects (frames_refs fs)

  pub frames-cons : (f : FrameView) (fs : List FrameView) → FramesNodes (f ∷ fs) ≡ FrameNodes f ++ FramesNodes fs
  frames-cons f fs = ranks-append (frame_refs f) (frames_refs fs)

  abbrev pub WaitNodes : Wait → List ℕ
  WaitNodes w = rank w.object.0 objects ∷ ranks objects (value_refs w.value)

  abbrev pub WaitsNodes : List Wait → List ℕ
  WaitsNodes ws = ranks objects (wait_refs ws)

  pub waits-cons : (w : Wait) (ws : List Wait) → WaitsNodes (w ∷ ws) ≡ WaitNodes w ++ WaitsNodes ws
  waits-cons w ws = ranks-append (w.object.0 ∷ value_refs w.value) (wait_refs ws)

  -- what is waited on, and then what is to be sent
  pub wait-nodes : (w : Wait) (nodes pushed later : List ℕ) → pushed ≡ nodes ++ rank w.object.0 objects ∷ []
      → later ≡ pushed ++ ranks objects (value_refs w.value) → later ≡ nodes ++ WaitNodes w
  wait-nodes w nodes pushed later p q = q ∙ ap (λ l. l ++ ranks objects (value_refs w.value)) p
      ∙ append_assoc nodes (rank w.object.0 objects ∷ []) (ranks objects (value_refs w.value))

  abbrev pub WaitedNodes : List Wait → List ℕ
  WaitedNodes ws = ranks objects (waited ws)

  abbrev pub QueueNodes : List Queued → List ℕ
  QueueNodes qs = ranks objects (queue_refs qs)

  -- those that are live at once, and those that satisfy a test
  abbrev pub AwakeNodes : List (ℕ × GoroutineView) → List ℕ
  AwakeNodes es = ranks objects (awake_refs es)

  pub awake-append : (xs ys : List (ℕ × GoroutineView)) → AwakeNodes (xs ++ ys) ≡ AwakeNodes xs ++ AwakeNodes ys
  awake-append xs ys =
      gather-append (λ e. ranks objects (refs_if (is_awake e.0 e.1) (goroutine_refs e.1))) AwakeNodes refl
      (λ e es. ranks-append (refs_if (is_awake e.0 e.1) (goroutine_refs e.1)) (awake_refs es)) xs ys

  abbrev pub TestedNodes : (ℕ → Bool) → List (ℕ × GoroutineView) → List ℕ
  TestedNodes test es = ranks objects (goroutine_refs_where test es)

  pub tested-append : (test : ℕ → Bool) (xs ys : List (ℕ × GoroutineView))
      → TestedNodes test (xs ++ ys) ≡ TestedNodes test xs ++ TestedNodes test ys
  tested-append test xs ys =
      gather-append (λ e. ranks objects (refs_if (test e.0) (goroutine_refs e.1))) (TestedNodes test) refl
      (λ e es. ranks-append (refs_if (test e.0) (goroutine_refs e.1)) (goroutine_refs_where test es)) xs ys

  abbrev pub TestedObjects : (ℕ → Bool) → List (ℕ × Object) → List ℕ
  TestedObjects test es = ranks objects (refs_where test es)

  pub tested_objects-append : (test : ℕ → Bool) (xs ys : List (ℕ × Object))
      → TestedObjects test (xs ++ ys) ≡ TestedObjects test xs ++ TestedObjects test ys
  tested_objects-append test xs ys =
      gather-append (λ e. ranks objects (refs_if (test e.0) (object_refs e.1))) (TestedObjects test) refl
      (λ e es. ranks-append (refs_if (test e.0) (object_refs e.1)) (refs_where test es)) xs ys

  pub sleepers-append : (xs ys : List (ℕ × GoroutineView)) → sleepers_of objects (xs ++ ys) ≡ sleepers_of objects xs
      ++ sleepers_of objects ys
  sleepers-append xs ys =
      ap (map (sleeper_of objects)) (filter-append (λ (e : ℕ × GoroutineView). not (is_awake e.0 e.1)) xs ys)
      ∙ map-append (sleeper_of objects) (filter (λ e. not (is_awake e.0 e.1)) xs)
      (filter (λ e. not (is_awake e.0 e.1)) ys)

  -- four pieces one after another are one
  pub four-pieces : {a b c d : List ℕ} (old xs ys zs ws : List ℕ) → a ≡ old ++ ranks objects xs → b ≡ a
      ++ ranks objects ys → c ≡ b ++ ranks objects zs → d ≡ c ++ ranks objects ws → d ≡ old
      ++ ranks objects (xs ++ (ys ++ (zs ++ ws)))
  four-pieces old xs ys zs ws p q r s =
      s ∙ ap (λ l. l ++ ranks objects ws) (r ∙ ap (λ l. l ++ ranks objects zs) (q ∙ ap (λ l. l ++ ranks objects ys) p))
      ∙ append_assoc ((old ++ ranks objects xs) ++ ranks objects ys) (ranks objects zs) (ranks objects ws)
      ∙ append_assoc (old ++ ranks objects xs) (ranks objects ys) (ranks objects zs ++ ranks objects ws)
      ∙ append_assoc old (ranks objects xs) (ranks objects ys ++ (ranks objects zs ++ ranks objects ws))
      ∙ ap (λ l. old ++ l)
      (ap (λ l. ranks objects xs ++ (ranks objects ys ++ l)) (sym (ranks-append zs ws))
      ∙ ap (λ l. ranks objects xs ++ l) (sym (ranks-append ys (zs ++ ws)))
      ∙ sym (ranks-append xs (ys ++ (zs ++ ws))))

-- nothing is after the end
pub past-end : {X : Type 0} (old : List ℕ) (G : List X → List ℕ) (xs : List X) (n : ℕ) → G [] ≡ [] → length xs ≤ n
    → old ≡ old ++ G (reverse (drop n xs))
past-end old G xs n nil h = sym (append-nil old)
    ∙ ap (λ l. old ++ l) (sym (ap (λ ys. G (reverse ys)) (drop_all n xs h) ∙ nil))
