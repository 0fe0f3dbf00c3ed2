-- Whatever happens, closed sets stay closed, and what is outside them stands as it stood.
-- For: `run`, golf_model/specs/Runs.antt; `Closed`, specs/Invariant.antt
-- By: induction over the list of events
use Rattle.std.proofs.Common.{◌≡◌, ℕ, ◌%◌, Bool, true, false, List, [], ◌∷◌, length, Some, inl, ◌/◌}
use Rattle.std.proofs.lemmas.Bool.{and_parts}
use Rattle.golf_theory.specs.Membership.{In}
use Rattle.golf_theory.specs.Maps.{Entry}
use Rattle.golf_theory.specs.Agreement.{AgreeOutside}
use Rattle.golf_theory.proofs.Lists.{In-slice_get}
use Rattle.golf_theory.proofs.MapEntries.{Entry-keys_where}
use Rattle.golf_theory.proofs.Agreements.{agree-same, agree-then, agree-wider}
use Rattle.golf_data.specs.declared.code.Code.{Code}
use Rattle.golf_model.specs.Views.{GoroutineView}
use Rattle.golf_model.specs.State.{State, is_running, can_run, runnable}
use Rattle.golf_model.specs.Turn.{turned, cleared_after, step, turn_changes, whose_turn, wants_collection}
use Rattle.golf_model.specs.Turn.{clears_nothing}
use Rattle.golf_model.specs.Collections.{plain_collect}
use Rattle.golf_model.specs.Runs.{Event, has_ended, collected_if, happens_in, happens, run}
use Rattle.golf_model_futures.specs.Invariant.{Closed, Confined, Nothing, Sound, Unfinalised}
use Rattle.golf_model_futures.proofs.Closing.{closed-ground}
use Rattle.golf_model_futures.proofs.Goodness.{good-sound}
use Rattle.golf_model_futures.proofs.Confining.{confined-then}
use Rattle.golf_model_futures.proofs.Changing.{closed_changes, confined_changes}
use Rattle.golf_model_futures.proofs.Clearing.{closed-clearing}
use Rattle.golf_model_futures.proofs.GoodTurn.{sound_turn}
use Rattle.golf_model_futures.proofs.Collecting.{Joined, closed-collect}

-- the state t comes after s: wider sets are closed for it, and what is outside stands as it stood
pub record After (O G : ℕ → Type 0) (s t : State) : Type 1 where
  pub wide : ℕ → Type 0
  pub wider : (o : ℕ) → O o → wide o
  pub closed : Closed t wide G
  pub objects : AgreeOutside wide s.objects t.objects
  pub goroutines : AgreeOutside G s.goroutines t.goroutines

module _ (O G : ℕ → Type 0) where
  after-same : (s : State) → Closed s O G → After O G s s
  after-same s c = record {
    wide = O;
    wider = λ o h. h;
    closed = c;
    objects = agree-same O s.objects;
    goroutines = agree-same G s.goroutines;
  }

  after-then : (s t u : State) (a : After O G s t) → After a.wide G t u → After O G s u
  after-then s t u a b = record {
    wide = b.wide;
    wider = λ o h. b.wider o (a.wider o h);
    closed = b.closed;
    objects = agree-then b.wide s.objects t.objects u.objects
        (agree-wider a.wide b.wide s.objects t.objects b.wider a.objects) b.objects;
    goroutines = agree-then G s.goroutines t.goroutines u.goroutines a.goroutines b.goroutines;
  }

  after-collect : (s : State) → Closed s O G → After O G s (plain_collect s)
  after-collect s c = record {
    wide = Joined s O;
    wider = λ o h. inl h;
    closed = closed-collect O G s c;
    objects = agree-same (Joined s O) s.objects;
    goroutines = agree-same G s.goroutines;
  }

-- whose turn it is runs
pub turn-running : (s : State) (c g : ℕ) → whose_turn s c ≡ Some g → (r : GoroutineView) × Entry s.goroutines g r
    × (is_running r.mode ≡ true)
turn-running s c g h =
    let i : In g (runnable s) = In-slice_get (runnable s) (c % length (runnable s)) g h in
    let r = Entry-keys_where (can_run s.queue) s.goroutines g i in
    (r.0, r.1, (and_parts (is_running r.0.mode) _ r.2).0)

module _ (code : Code) (G : ℕ → Type 0) where
  module _ (O : ℕ → Type 0) (s : State) (c : Closed s O G) where
    turn-in : (k g : ℕ) → whose_turn s k ≡ Some g → G g
    turn-in k g h = let r = turn-running s k g h in c.running g r.0 r.1 r.2

    pub turn-sound : (k : ℕ) → Sound O G (Unfinalised s) s.last_object
        (turn_changes code (k / length (runnable s)) s (whose_turn s k))
    turn-sound k = sound_turn O G (Unfinalised s) code s (closed-ground O G s c) (λ f at l is t o h. h)
        (k / length (runnable s)) (whose_turn s k) (λ g h. turn-in k g h)

    turned-closed : (k : ℕ) → Closed (turned code s k) O G
    turned-closed k = closed_changes O G (Unfinalised s) s.last_object
        (turn_changes code (k / length (runnable s)) s (whose_turn s k)) s c.new_objects c (turn-sound k)

    turned-confined : (k : ℕ) → Confined O G s (turned code s k)
    turned-confined k = confined_changes O G (Unfinalised s) s.last_object
        (turn_changes code (k / length (runnable s)) s (whose_turn s k)) s c.new_objects c (turn-sound k)

    pub behind-sound : (k : ℕ) → Sound O G Nothing (turned code s k).last_object (cleared_after code s k)
    behind-sound k = good-sound O G Nothing (turned code s k).last_object (cleared_after code s k)
        (closed-clearing O G code (clears_nothing code s k) (whose_turn s k) (turned code s k) (turned-closed k))

    pub step-closed : (k : ℕ) → Closed (step code s k) O G
    step-closed k = let t = turned-closed k in closed_changes O G Nothing (turned code s k).last_object
        (cleared_after code s k) (turned code s k) t.new_objects t (behind-sound k)

    pub step-confined : (k : ℕ) → Confined O G s (step code s k)
    step-confined k =
        let t = turned-closed k in
        confined-then O G s (turned code s k) (step code s k) (turned-confined k)
        (confined_changes O G Nothing (turned code s k).last_object (cleared_after code s k)
        (turned code s k) t.new_objects t (behind-sound k))

    pub after-step : (k : ℕ) → After O G s (step code s k)
    after-step k = let f = step-confined k in record {
      wide = O;
      wider = λ o h. h;
      closed = step-closed k;
      objects = f.objects;
      goroutines = f.goroutines;
    }

    after-turn : (k : ℕ) (b : Bool) → After O G s (collected_if plain_collect code b (step code s k))
    after-turn k true = let a = after-step k in after-then O G s (step code s k) (plain_collect (step code s k)) a
        (after-collect a.wide G (step code s k) a.closed)
    after-turn k false = after-step k

    after-in : (b : Bool) (e : Event) → After O G s (happens_in plain_collect code b s e)
    after-in true e = after-same O G s c
    after-in false (Event.Turn k) = after-turn k (wants_collection code s k)
    after-in false Event.Collect = after-collect O G s c

    pub after-happens : (e : Event) → After O G s (happens code s e)
    after-happens e = after-in (has_ended s) e

  -- for every list of events
  pub after-run : (events : List Event) (O : ℕ → Type 0) (s : State) → Closed s O G → After O G s (run code s events)
  after-run [] O s c = after-same O G s c
  after-run (e ∷ es) O s c =
      let a = after-happens O s c e in
      after-then O G s (happens code s e) (run code (happens code s e) es) a
      (after-run es a.wide (happens code s e) a.closed)
