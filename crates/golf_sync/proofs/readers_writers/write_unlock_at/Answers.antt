use Rattle.std.proofs.Common.{◌≡◌, List, ◌++◌, drop, refl, ap, ◌∙◌, arith}
use Rattle.std.proofs.lemmas.Grind.{common_steps}
use Rattle.golf_theory.specs.Maps.{find}
use Rattle.golf_model.specs.Views.{FrameView}
use Rattle.golf_model.specs.Changes.{Change}
use Rattle.golf_model.specs.Actors.{Actor, stands, next, at_rw}
use Rattle.golf_model.specs.ReadersWriters.{write_unlocks_by, serves}
use Rattle.golf_state.specs.Looked.{runs}
use Rattle.golf_state.proofs.Doings.{actor_of}
use Rattle.golf_state.proofs.Outcomings.{done-standing}
use Rattle.golf_sync.proofs.Outcomes.{serves-free}
use Rattle.golf_sync.proofs.Serves.{next-is, next-ready, served-runs}
use Rattle.golf_sync.proofs.readers_writers.write_unlock_at.Goals as goal

pub serve-requires : goal.serve-requires
serve-requires c =
    next-ready c.args.acting.goroutine.0 c.args.acting.after c.args.rw.0 c.args.acting.line c.args.state.now
    c.proceed.new.state c.next_served-served.result c.requires c.proceed.ensures.state
    c.next_served-served.ensures.next c.next_served-served.ensures.blocked

pub returns : goal.returns
returns c =
    let g = c.args.acting.goroutine.0 in
    let o = c.args.rw.0 in
    let t = c.proceed.new.state in
    let e = c.serve.ensures ∙ next-is g c.args.acting.after o c.args.acting.line c.args.state.now t
    c.next_served-served.result c.requires c.proceed.ensures.state c.next_served-served.ensures.next
    c.next_served-served.ensures.blocked in
    let s = c.args.state.now in
    let st = c.requires in
    let act : Actor → List Change = λ a. at_rw (write_unlocks_by a (drop 1 a.frame.operands) s o) (find o s.objects) in
    let h : FrameView = next st.frame (drop 1 st.frame.operands) in
    let is : act (actor_of st c.args.acting.line) ≡ stands (actor_of st c.args.acting.line) h ++ serves o s.goroutines =
    grind (arith, common_steps) in (
      (
        grind (arith, common_steps, e),
        ap (runs g) c.serve.ensures
            ∙ served-runs g o c.next_served-served.result t c.proceed.ensures.runs,
      ),
      done-standing g c.args.acting.after c.args.acting.line s st act h (serves o s.goroutines) refl
          (serves-free o s.goroutines) is,
    )
