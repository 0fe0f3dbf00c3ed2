-- States in which every reference is to an object that exists.
use Rattle.std.specs.Prelude.{ℕ}
use Rattle.golf_theory.specs.Maps.{Entry, keys}
use Rattle.golf_theory.specs.Membership.{In, Every}
use Rattle.golf_data.specs.declared.value.Object.{Object}
use Rattle.golf_model.specs.Views.{GoroutineView}
use Rattle.golf_model.specs.Values.{refs}
use Rattle.golf_model.specs.State.{State}
use Rattle.golf_model.specs.Refs.{object_refs, goroutine_refs, queue_refs}

-- the object exists
abbrev pub Present : State → ℕ → Type 0
Present s o = In o (keys s.objects)

-- globals, queue, objects and goroutines refer only to objects that exist, and each object with a finaliser exists
pub record IsWhole (s : State) : Type 0 where
  pub globals : Every (Present s) (refs s.globals)
  pub queue : Every (Present s) (queue_refs s.queue)
  pub finalised : (o f : ℕ) → Entry s.finalisers o f → Present s o
  pub objects : (o : ℕ) (x : Object) → Entry s.objects o x → Every (Present s) (object_refs x)
  pub goroutines : (g : ℕ) (r : GoroutineView) → Entry s.goroutines g r → Every (Present s) (goroutine_refs r)
