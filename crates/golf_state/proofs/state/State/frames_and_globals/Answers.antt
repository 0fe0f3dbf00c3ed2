use Rattle.std.proofs.Common.{ℕ, List, Option, refl, sym, ap, ◌∙◌, subst}
use Rattle.golf_data.specs.declared.goroutine.Goroutine.{Goroutine}
use Rattle.golf_theory.specs.Maps.{find}
use Rattle.golf_model.specs.Views.{GoroutineView, frame_views, goroutine_view}
use Rattle.golf_model.specs.State.{State}
use Rattle.golf_model.specs.Changes.{become}
use Rattle.golf_state.specs.Inside.{plain_state}
use Rattle.golf_state.specs.Looked.{on_goroutine, runs, frames_in}
use Rattle.golf_state_goroutines.specs.Places.{plain_entries}
use Rattle.golf_state.specs.Enqueued.{AreEnqueued}
use Rattle.golf_state.proofs.EnqueuedLaws.{enqueued-same}
use Rattle.golf_state.proofs.PlaceLaws.{put-same, running-there, lent-found, lent-runs, lent-set, lent-kept, runs-same}
use Rattle.golf_state.proofs.Readiness.{running-ready}
use Rattle.golf_state.proofs.state.State.frames_and_globals.Goals as goal

pub get_mut-goroutine-requires : goal.get_mut-goroutine-requires
get_mut-goroutine-requires c =
    let g = c.args.g.0 in
    running-there (find g (plain_entries c.self.inside.roster.places)) (ap (runs g) c.self.view_is ∙ c.requires)

pub invariant_of-self-lent : goal.invariant_of-self-lent
invariant_of-self-lent c = λ w.
    let s = c.self.inside in
    let gs = s.roster.places in
    let g = c.args.g.0 in
    let k = c.self.invariant.kept in
    let lent = c.get_mut-goroutine.result.now in
    let here = c.get_mut-goroutine.ensures.here in
    let x : Goroutine = record lent { frames = w } in
    let found = lent-found gs g lent here k.rises in
    let running = lent-runs gs g lent here k.rises (ap (runs g) c.self.view_is ∙ c.requires) in
    record {
      kept = lent-kept gs g lent here k.rises x k (running-ready lent.mode w running)
          (k.running ∙ runs-same (plain_entries gs) g (goroutine_view lent) (goroutine_view x) k.rises found refl);
      enqueued = subst (λ (es : List (ℕ × GoroutineView)). AreEnqueued s.are_mutexes_enqueued es s.waiting
          s.next_ticket) (sym (lent-set gs g lent here k.rises x))
          (enqueued-same s.are_mutexes_enqueued (plain_entries gs) s.waiting s.next_ticket g (goroutine_view lent)
          (goroutine_view x) c.self.invariant.enqueued k.rises found refl);
      finalisers = c.self.invariant.finalisers;
    }

pub returns : goal.returns
returns c =
    let s = c.self.inside in
    let gs = s.roster.places in
    let g = c.args.g.0 in
    let k = c.self.invariant.kept in
    let lent = c.get_mut-goroutine.result.now in
    let here = c.get_mut-goroutine.ensures.here in
    let found = lent-found gs g lent here k.rises in (
      (
        refl,
        λ w.
            let x : Goroutine = record lent { frames = w } in
            let act : GoroutineView → State → State = λ r. become g (record r { frames = frame_views w }) in
            rw (← c.self.view_is)
            (ap (λ (es : List (ℕ × GoroutineView)). record (plain_state s) { goroutines = es })
            (lent-set gs g lent here k.rises x)
            ∙ sym (ap (λ (o : Option GoroutineView). on_goroutine act o (plain_state s)) found)),
      ),
      record {
        writes_back = tt;
        globals = rw (← c.self.view_is) c.as_slice-globals.ensures;
        value = rw (← c.self.view_is) (sym (ap frames_in found));
        same = rw (← c.self.view_is)
            (ap (λ (o : Option GoroutineView). on_goroutine (λ r. become g (record r { frames = frames_in o })) o
            (plain_state s)) found
            ∙ ap (λ (es : List (ℕ × GoroutineView)). record (plain_state s) { goroutines = es })
            (put-same g 0 (goroutine_view lent) (plain_entries gs) k.rises found));
        rises = rw (← c.self.view_is) k.rises;
      },
    )
