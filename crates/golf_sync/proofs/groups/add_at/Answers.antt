use Rattle.std.proofs.Common.{◌≡◌, List, [], ◌∷◌, ◌++◌, drop, refl, ap, ◌∙◌, arith}
use Rattle.std.proofs.lemmas.Grind.{common_steps}
use Rattle.golf_data.specs.declared.value.Object.{Object}
use Rattle.golf_theory.specs.Maps.{find}
use Rattle.golf_model.specs.Views.{FrameView}
use Rattle.golf_model.specs.Changes.{Change}
use Rattle.golf_model.specs.Actors.{Actor, at_group, next, stands}
use Rattle.golf_model.specs.Arithmetic.{sum}
use Rattle.golf_model.specs.Wakes.{Waking}
use Rattle.golf_model.specs.Mutexes.{counts}
use Rattle.golf_state.specs.Looked.{runs}
use Rattle.golf_state.specs.Woken.{waking_of}
use Rattle.golf_state.specs.declared.wake_causes.Waking.TheVariants as k
use Rattle.golf_state.proofs.Doings.{actor_of}
use Rattle.golf_state.proofs.Outcomings.{done-replacing}
use Rattle.golf_state.proofs.Runnings.{runs-all}
use Rattle.golf_sync.proofs.groups.add_at.Goals as goal

pub returns-then-count-eq0 : goal.returns-then-count-eq0
returns-then-count-eq0 c =
    let g = c.args.acting.goroutine.0 in
    let s = c.args.state.now in
    let st = c.requires in
    let o = c.args.group.0 in
    let act : Actor → List Change = λ a. at_group (λ n. counts a (drop 2 a.frame.operands) o (sum n c.args.delta))
    (find o s.objects) in
    let h : FrameView = next st.frame (drop 2 st.frame.operands) in
    let x : Object = Object.Group (sum c.in-Some.count c.args.delta) in
    let rest : List Change = Change.WakeAll o Waking.AtZero ∷ [] in
    let is : act (actor_of st c.args.acting.line) ≡ Change.Replace o x
    ∷ (stands (actor_of st c.args.acting.line) h ++ rest) = grind (arith, common_steps) in (
      (
        grind (arith, common_steps),
        ap (runs g) c.wake_all.ensures
            ∙ runs-all g c.args.group.0 (waking_of k.AtZero) c.proceed.new.state c.proceed.ensures.runs,
      ),
      done-replacing g c.args.acting.after c.args.acting.line s st act h rest refl refl o x is,
    )
