-- Reach between objects, and the sources from which a collection starts.
use Rattle.std.specs.Prelude.{ℕ, Bool, true, not, ◌||◌, List, ◌++◌}
use Rattle.golf_theory.specs.Maps.{Entry}
use Rattle.golf_theory.specs.Membership.{In, is_in}
use Rattle.golf_theory.specs.Reached.{Reached}
use Rattle.golf_theory.specs.Least.{least}
use Rattle.golf_data.specs.declared.value.Object.{Object}
use Rattle.golf_model.specs.Values.{refs}
use Rattle.golf_model.specs.State.{State}
use Rattle.golf_model.specs.Refs.{object_refs, queue_refs, refs_where, goroutine_refs_where, has_finaliser}

-- object o refers to object p
abbrev pub RefersTo : State → ℕ → ℕ → Type 0
RefersTo s o p = (x : Object) × Entry s.objects o x × In p (object_refs x)

-- the object is reached: it ends a list in which each entry is one of xs, or an earlier entry refers to it
abbrev pub Reach : State → List ℕ → ℕ → Type 0
Reach s xs = Reached (λ o. In o xs) (RefersTo s)

-- the object is one of xs, or an object in the list refers to it
abbrev pub is_near : State → List ℕ → List ℕ → ℕ → Bool
is_near s xs got o = is_in o xs || is_in o (refs_where (λ p. is_in p got) s.objects)

-- the reached objects, computed
unfoldable pub reach : State → List ℕ → List ℕ
reach s xs = least (is_near s xs) (xs ++ refs_where (λ p. true) s.objects)

-- the sources: the objects to which globals, the queue, the goroutines that are not removed, and the objects with a
-- finaliser refer
abbrev pub sources : State → List ℕ → List ℕ
sources s removed =
    refs s.globals ++ (queue_refs s.queue ++
    (goroutine_refs_where (λ g. not (is_in g removed)) s.goroutines ++ refs_where (has_finaliser s) s.objects))
