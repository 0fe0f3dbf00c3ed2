-- Every state that moves lead to from the opening state of a code with shapes is typed, so it is never stuck.
-- For: `leads_are_typed`, `collections_keep_types` and `never_stuck`, src/lib.rt
-- By: induction over the moves that lead to the state
use Rattle.std.proofs.Common.{◌≡◌, ℕ, Bool, not, List, [], ◌∷◌, None, inl, inr, refl}
use Rattle.golf_theory.specs.Maps.{Entry, find, only}
use Rattle.golf_theory.specs.Membership.{Every, is_in}
use Rattle.golf_theory.proofs.Lists.{Every-append}
use Rattle.golf_theory.proofs.MapEntries.{Entry-only, Entry-find}
use Rattle.golf_theory.proofs.MapFinds.{find-none, none-find, find-Entry}
use Rattle.golf_data.specs.declared.code.Code.{Code}
use Rattle.golf_data.specs.declared.goroutine.Queued.{Queued}
use Rattle.golf_model.specs.State.{State}
use Rattle.golf_model.specs.Reach.{reach, sources}
use Rattle.golf_model.specs.Collections.{queued, real_collect, removed, retained, sets_finalisers}
use Rattle.golf_model.specs.Futures.{Numbered, Leads}
use Rattle.golf_model_futures.proofs.Leading.{leads-numbered}
use Rattle.golf_model_futures.proofs.OrderedLeading.{leads-whole, leads-orderly}
use Rattle.golf_model_typing.specs.Types.{ValueType, Typing}
use Rattle.golf_model_typing.specs.Shapes.{HasShapes}
use Rattle.golf_model_typing.specs.WellTyped.{FinaliserFits, WellTyped}
use Rattle.golf_model_typing.specs.ProgressLaws.{NeverStuck}
use Rattle.golf_model_typing.proofs.Turning.{move-on, turns-keep-types, start-is-typed}

-- a collection keeps types, and so does emptying the output
module _ (types : Typing) (known : List (ℕ × ValueType)) (s : State) (w : WellTyped types known s) where
  queued-fits : (es : List (ℕ × ℕ)) → ((o f : ℕ) → Entry es o f → FinaliserFits types known o f)
      → Every (λ (q : Queued). FinaliserFits types known q.object.0 q.function) (queued es)
  queued-fits [] h = tt
  queued-fits (e ∷ es) h = (h e.0 e.1 (inl (refl, refl)), queued-fits es (λ o f i. h o f (inr i)))

  find-only_none : {X : Type 0} (p : ℕ → Bool) (es : List (ℕ × X)) (o : ℕ) → find o es ≡ None
      → find o (only p es) ≡ None
  find-only_none p es o h = find-none o (only p es) (λ x e. none-find o es x h (Entry-only p es o x e).1)

  pub typed-real : Numbered s → (recover may_set : Bool) → WellTyped types known (real_collect s recover may_set)
  typed-real n recover may_set =
      let kept : ℕ → Bool = λ o. is_in o (retained s (removed s recover may_set)) in
      let stays : ℕ → Bool = λ g. not (is_in g (removed s recover may_set)) in
      let reached : List ℕ = reach s (sources s []) in record {
        globals = w.globals;
        objects = λ o t x k e. w.objects o t x k
            (find-Entry s.objects o x n.objects_rise
            (Entry-only kept s.objects o x (Entry-find o (only kept s.objects) x e)).1);
        goroutines = λ g r e. w.goroutines g r (Entry-only stays s.goroutines g r e).1;
        finalisers = λ o f e. w.finalisers o f (Entry-only (λ p. is_in p reached) s.finalisers o f e).1;
        queue = Every-append (λ (q : Queued). FinaliserFits types known q.object.0 q.function) s.queue
            (queued (only (λ p. not (is_in p reached)) s.finalisers)) w.queue
            (queued-fits (only (λ p. not (is_in p reached)) s.finalisers)
            (λ o f e. w.finalisers o f (Entry-only (λ p. not (is_in p reached)) s.finalisers o f e).1));
        below = w.below;
        fresh = λ o l. find-only_none kept s.objects o (w.fresh o l);
      }

  pub typed-emptied : WellTyped types known (record s { output = [] })
  typed-emptied = record {
    globals = w.globals;
    objects = w.objects;
    goroutines = w.goroutines;
    finalisers = w.finalisers;
    queue = w.queue;
    below = w.below;
    fresh = w.fresh;
  }

pub leads-typed : (code : Code) (types : Typing) → HasShapes code types → (s : State) → Leads code s
    → (known : List (ℕ × ValueType)) × WellTyped types known s
leads-typed code types shapes s Leads.Start = ([], start-is-typed code types shapes)
leads-typed code types shapes s (Leads.Turn t c l e) =
    let f = leads-typed code types shapes t l in
    let u = turns-keep-types code types f.0 t c shapes f.1 (leads-whole code t l) (leads-numbered code t l)
    (leads-orderly code t l) in
    (u.0, u.1)
leads-typed code types shapes s (Leads.Collection t recover l e) = let f =
    leads-typed code types shapes t l in (
      f.0,
      typed-real types f.0 t f.1 (leads-numbered code t l) recover (sets_finalisers code),
    )
leads-typed code types shapes s (Leads.Emptied t l) = let f =
    leads-typed code types shapes t l in (f.0, typed-emptied types f.0 t f.1)

pub never-stuck : NeverStuck
never-stuck code types shapes s c l e =
    let f = leads-typed code types shapes s l in
    move-on code types f.0 s c shapes f.1 (leads-whole code s l) (leads-numbered code s l) (leads-orderly code s l) e
