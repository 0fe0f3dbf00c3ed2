use Rattle.std.proofs.Common.{◌≡◌, List, [], ◌∷◌, Some, sym, ap, ◌∙◌, arith}
use Rattle.std.proofs.lemmas.Grind.{common_steps}
use Rattle.std.proofs.lemmas.Result.{IfOk-weaker}
use Rattle.golf_data.specs.declared.value.Value.{Value}
use Rattle.golf_theory.specs.Maps.{find}
use Rattle.golf_model.specs.Changes.{Change}
use Rattle.golf_model.specs.Actors.{Actor}
use Rattle.golf_model.specs.Channels.{sends, sends_on}
use Rattle.golf_state.specs.ActorChanges.{does_by}
use Rattle.golf_state.specs.FrameChanges.{went}
use Rattle.golf_state.specs.Operands.{two_of}
use Rattle.golf_state.proofs.Doings.{actor_of, operands-is}
use Rattle.golf_state.proofs.References.{is-reference}
use Rattle.golf_state.proofs.Outcomings.{comes-same}
use Rattle.golf_chan.proofs.sends.send.Goals as goal

two-operands : (vs : List Value) (x y : Value) → Some (x, y) ≡ two_of vs → (rest : List Value) × (vs ≡ y ∷ x ∷ rest)
two-operands [] x y e = cc
two-operands (v ∷ []) x y e = cc
two-operands (v ∷ w ∷ vs) x y e = let same : (x, y) ≡ (w, v) =
    cc in (vs, ap (λ (q : Value × Value). q.1 ∷ q.0 ∷ vs) (sym same))

pub returns-in-To-clause-ok : goal.returns-in-To-clause-ok
returns-in-To-clause-ok c =
    let s = c.args.state.now in
    let g = c.args.acting.goroutine.0 in
    let after = c.args.acting.after in
    let line = c.args.acting.line in
    let st = c.requires in
    let v = c.in-Some.value in
    let o = c.in-To.object.0 in
    let on : Actor → List Change = λ a. sends_on a (went after 2 [] a.frame) v s o in
    let k = two-operands st.frame.operands c.in-Some.channel v
    (sym c.in-Some.is ∙ c.last_operands.ensures ∙ ap two_of (operands-is g after s st)) in
    let is : on (actor_of st line) ≡ sends (actor_of st line) s =
    grind (
      arith,
      common_steps,
      k.1,
      st.next,
      is-reference c.in-Some.channel c.in-To.object (sym c.reference_in.ensures ∙ c.in-To.is),
    ) in
    let same : does_by on g line (find g s.goroutines) ≡ does_by (λ a. sends a s) g line (find g s.goroutines) =
    ap (does_by on g line) st.found ∙ is ∙ sym (ap (does_by (λ a. sends a s) g line) st.found) in
    IfOk-weaker c.send_on.result _ _ (λ outcome h. comes-same outcome on
    (λ a. sends a s) g line s c.send_on.new.state same h) c.send_on.ensures.ok
