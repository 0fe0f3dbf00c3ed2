-- A good change leaves as it was what is outside closed sets.
-- For: `Confined`, `Good`, specs/Invariant.antt; `apply`, golf_model/specs/Changes.antt
-- By: cases of the change; no induction
use Rattle.std.proofs.Common.{◌≡◌, ℕ, ◌+◌, Bool, true, false, not, Option, Some, None, sym, subst, arith, ◌==◌}
use Rattle.std.proofs.lemmas.Bool.{eqb-true, not-false}
use Rattle.golf_theory.specs.Maps.{find}
use Rattle.golf_theory.proofs.Agreements.{agree-same, agree-then, agree-put, agree-add, agree-insert, agree-only}
use Rattle.golf_theory.proofs.Agreements.{agree-map_values}
use Rattle.golf_data.specs.declared.value.Object.{Object}
use Rattle.golf_model.specs.Views.{GoroutineView}
use Rattle.golf_model.specs.State.{State}
use Rattle.golf_model.specs.Wakes.{woken_by}
use Rattle.golf_model.specs.Changes.{Change, apply, requeue, requeue_at, requeue_by}
use Rattle.golf_model_futures.specs.Invariant.{Closed, Confined, Good}
use Rattle.golf_model_futures.proofs.Waking.{woken-still}

module _ (O G : ℕ → Type 0) where
  pub confined-same : (s : State) → Confined O G s s
  confined-same s = record {
    objects = agree-same O s.objects;
    finalisers = agree-same O s.finalisers;
    goroutines = agree-same G s.goroutines;
  }

  pub confined-then : (s t u : State) → Confined O G s t → Confined O G t u → Confined O G s u
  confined-then s t u a b = record {
    objects = agree-then O s.objects t.objects u.objects a.objects b.objects;
    finalisers = agree-then O s.finalisers t.finalisers u.finalisers a.finalisers b.finalisers;
    goroutines = agree-then G s.goroutines t.goroutines u.goroutines a.goroutines b.goroutines;
  }

  -- a cut of one key is a change there
  but_one : (P : ℕ → Type 0) (g : ℕ) → P g → (k : ℕ) → not (k == g) ≡ false → P k
  but_one P g p k f = subst P (sym (eqb-true k g (not-false (k == g) f))) p

  confined-requeue_by : (s : State) (g m : ℕ) (locked : Bool) (r : GoroutineView) → G g → O m
      → Confined O G s (requeue_by locked g m r s)
  confined-requeue_by s g m false r i j =
      record {
        objects = agree-put O m (Object.Mutex true) s.objects j;
        finalisers = agree-same O s.finalisers;
        goroutines = agree-put G g _ s.goroutines i;
      }
  confined-requeue_by s g m true r i j = record {
    objects = agree-same O s.objects;
    finalisers = agree-same O s.finalisers;
    goroutines = agree-put G g _ s.goroutines i;
  }

  confined-requeue_at : (s : State) (g m : ℕ) (x : Object) (r : GoroutineView) → G g → O m
      → Confined O G s (requeue_at x g m r s)
  confined-requeue_at s g m (Object.Mutex locked) r i j = confined-requeue_by s g m locked r i j
  confined-requeue_at s g m _ r i j = confined-same s

  confined-requeue : (s : State) (g m : ℕ) (r : Option GoroutineView) (x : Option Object) → G g → O m
      → Confined O G s (requeue g m r x s)
  confined-requeue s g m None x i j = confined-same s
  confined-requeue s g m (Some r) None i j = confined-same s
  confined-requeue s g m (Some r) (Some x) i j = confined-requeue_at s g m x r i j

  -- once for each kind of change
  pub confined_change : (F : ℕ → Type 0) (s : State) (c : Change) → Closed s O G → Good O G F c
      → Confined O G s (apply c s)
  confined_change F s (Change.Make x) h a =
      record {
        objects = agree-add O (s.last_object + 1) x s.objects (h.new_objects (s.last_object + 1) (omega arith));
        finalisers = agree-same O s.finalisers;
        goroutines = agree-same G s.goroutines;
      }
  confined_change F s (Change.Replace p x) h a =
      record {
        objects = agree-put O p x s.objects a.0;
        finalisers = agree-same O s.finalisers;
        goroutines = agree-same G s.goroutines;
      }
  confined_change F s (Change.SetGlobal i v) h a =
      record {
        objects = agree-same O s.objects;
        finalisers = agree-same O s.finalisers;
        goroutines = agree-same G s.goroutines;
      }
  confined_change F s (Change.Become g r) h a =
      record {
        objects = agree-same O s.objects;
        finalisers = agree-same O s.finalisers;
        goroutines = agree-put G g r s.goroutines a.0;
      }
  confined_change F s (Change.Block g kind line waits r) h a =
      record {
        objects = agree-same O s.objects;
        finalisers = agree-same O s.finalisers;
        goroutines = agree-put G g _ s.goroutines a.0;
      }
  confined_change F s (Change.Spawn r) h a =
      record {
        objects = agree-same O s.objects;
        finalisers = agree-same O s.finalisers;
        goroutines = agree-add G s.next_goroutine r s.goroutines (h.new_goroutines s.next_goroutine (omega arith));
      }
  confined_change F s (Change.Leave g) h a =
      record {
        objects = agree-same O s.objects;
        finalisers = agree-same O s.finalisers;
        goroutines = agree-only G (λ k. not (k == g)) s.goroutines (but_one G g a);
      }
  confined_change F s (Change.Finish e) h a =
      record {
        objects = agree-same O s.objects;
        finalisers = agree-same O s.finalisers;
        goroutines = agree-same G s.goroutines;
      }
  confined_change F s (Change.SetFinaliser p k) h a =
      record {
        objects = agree-same O s.objects;
        finalisers = agree-insert O p k s.finalisers a.0;
        goroutines = agree-same G s.goroutines;
      }
  confined_change F s (Change.ClearFinaliser p) h a =
      record {
        objects = agree-same O s.objects;
        finalisers = agree-only O (λ q. not (q == p)) s.finalisers (but_one O p a);
        goroutines =
            agree-same G s.goroutines;
      }
  confined_change F s Change.TakeQueued h a =
      record {
        objects = agree-same O s.objects;
        finalisers = agree-same O s.finalisers;
        goroutines = agree-same G s.goroutines;
      }
  confined_change F s (Change.Output bytes) h a =
      record {
        objects = agree-same O s.objects;
        finalisers = agree-same O s.finalisers;
        goroutines = agree-same G s.goroutines;
      }
  confined_change F s (Change.WakeAll o how) h a =
      record {
        objects = agree-same O s.objects;
        finalisers = agree-same O s.finalisers;
        goroutines = agree-map_values G (λ g. woken_by how o) s.goroutines
            (λ g r n e. woken-still how o r (λ w. n (h.awake g r o e w a.0)));
      }
  confined_change F s (Change.Requeue g m) h a = confined-requeue s g m (find g s.goroutines) (find m s.objects) a.0 a.1
