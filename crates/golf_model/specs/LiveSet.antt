-- The live set, by root growth (Saioc, Lee, Møller, Chabbi, "Dynamic Partial Deadlock Detection and Recovery via
-- Garbage Collection", 2025): a blocked goroutine is live once an object that it waits on is live. Three kinds of root
-- are this runtime's rule: the contents of finalised objects, the finaliser queue, and goroutine 0.
use Rattle.std.specs.Prelude.{◌≡◌, ℕ, Bool, true, false, not, ◌&&◌, ◌||◌, List, [], ◌∷◌, ◌++◌, map, filter, ◌==◌}
use Rattle.golf_theory.specs.Maps.{Entry, keys, keys_where}
use Rattle.golf_theory.specs.Membership.{In, is_in, any_of}
use Rattle.golf_theory.specs.Reached.{Reached}
use Rattle.golf_theory.specs.Least.{least}
use Rattle.golf_data.specs.declared.value.Object.{Object}
use Rattle.golf_model.specs.Views.{GoroutineView}
use Rattle.golf_model.specs.Values.{refs}
use Rattle.golf_model.specs.Waiters.{waits_of}
use Rattle.golf_model.specs.State.{State, is_running}
use Rattle.golf_model.specs.Refs.{object_refs, goroutine_refs, waited, queue_refs, refs_where, goroutine_refs_where}
use Rattle.golf_model.specs.Refs.{has_finaliser}

-- an object or a goroutine, by its number
pub data Node : Type 0 where
  AnObject : (o : ℕ) → Node
  AGoroutine : (g : ℕ) → Node

-- the roots: the nodes that are live at once
pub data LiveRoot (s : State) : Node → Type 0 where
  Global : (o : ℕ) → In o (refs s.globals) → LiveRoot s (Node.AnObject o)
  InQueue : (o : ℕ) → In o (queue_refs s.queue) → LiveRoot s (Node.AnObject o)
  -- in the references of an object that has a finaliser
  InFinalised : (o p : ℕ) (x : Object) → In p (keys s.finalisers) → Entry s.objects p x → In o (object_refs x)
      → LiveRoot s (Node.AnObject o)
  Running : (g : ℕ) (r : GoroutineView) → Entry s.goroutines g r → is_running r.mode ≡ true
      → LiveRoot s (Node.AGoroutine g)
  FinaliserGoroutine : LiveRoot s (Node.AGoroutine 0)

-- one live node makes another one live
pub data LiveStep (s : State) : Node → Node → Type 0 where
  InObject : (p o : ℕ) (x : Object) → Entry s.objects p x → In o (object_refs x)
      → LiveStep s (Node.AnObject p) (Node.AnObject o)
  InGoroutine : (g o : ℕ) (r : GoroutineView) → Entry s.goroutines g r → In o (goroutine_refs r)
      → LiveStep s (Node.AGoroutine g) (Node.AnObject o)
  -- a blocked goroutine that waits on the object
  Awakened : (o g : ℕ) (r : GoroutineView) → Entry s.goroutines g r → In o (waited (waits_of r.mode))
      → LiveStep s (Node.AnObject o) (Node.AGoroutine g)

-- the node is live: it ends a list in which each entry is a root, or an earlier entry makes it live
abbrev pub Live : State → Node → Type 0
Live s = Reached (LiveRoot s) (LiveStep s)

abbrev pub has_object : List Node → ℕ → Bool
has_object [] o = false
has_object (Node.AnObject p ∷ xs) o = (o == p) || has_object xs o
has_object (Node.AGoroutine g ∷ xs) o = has_object xs o

abbrev pub has_goroutine : List Node → ℕ → Bool
has_goroutine [] h = false
has_goroutine (Node.AnObject p ∷ xs) h = has_goroutine xs h
has_goroutine (Node.AGoroutine g ∷ xs) h = (h == g) || has_goroutine xs h

-- the goroutine runs, or it waits on an object that is live already
abbrev pub is_awakened : (ℕ → Bool) → GoroutineView → Bool
is_awakened live r = is_running r.mode || any_of live (waited (waits_of r.mode))

abbrev pub awakes : (ℕ → Bool) → ℕ → List (ℕ × GoroutineView) → Bool
awakes live g [] = false
awakes live g (e ∷ es) = ((g == e.0) && is_awakened live e.1) || awakes live g es

-- the node is a root, or a node in the list makes it live
abbrev pub is_live_next : State → List Node → Node → Bool
is_live_next s got (Node.AnObject o) =
    is_in o (refs s.globals) || (is_in o (queue_refs s.queue)
    || (is_in o (refs_where (has_finaliser s) s.objects)
    || (is_in o (refs_where (has_object got) s.objects)
    || is_in o (goroutine_refs_where (has_goroutine got) s.goroutines))))
is_live_next s got (Node.AGoroutine g) = (g == 0) || awakes (has_object got) g s.goroutines

-- every object to which something refers, and every goroutine
abbrev pub named_objects : State → List ℕ
named_objects s =
    refs s.globals ++ (queue_refs s.queue ++
    (refs_where (λ o. true) s.objects ++ goroutine_refs_where (λ g. true) s.goroutines))

abbrev pub nodes : State → List Node
nodes s = map Node.AnObject (named_objects s) ++ (Node.AGoroutine 0 ∷ map Node.AGoroutine (keys s.goroutines))

-- the live set, computed
unfoldable pub live_list : State → List Node
live_list s = least (is_live_next s) (nodes s)

-- the live objects of the state, in rising order
abbrev pub live_objects : State → List ℕ
live_objects s = filter (has_object (live_list s)) (keys s.objects)

-- the goroutine is blocked and not in the list
abbrev pub is_dead : List Node → ℕ → GoroutineView → Bool
is_dead live g r = not (is_running r.mode) && not (has_goroutine live g)

-- the blocked goroutines outside the live set, in rising order
abbrev pub dead : State → List ℕ
dead s = keys_where (is_dead (live_list s)) s.goroutines

-- the goroutine is blocked and not live
abbrev pub Dead : State → ℕ → Type 0
Dead s g = (r : GoroutineView) × Entry s.goroutines g r × (is_running r.mode ≡ false) × (Live s (Node.AGoroutine g) → ⊥)
