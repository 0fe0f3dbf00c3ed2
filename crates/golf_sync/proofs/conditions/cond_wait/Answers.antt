use Rattle.std.proofs.Common.{◌≡◌, List, [], ◌∷◌, drop, Some, slice_get, sym, ap, ◌∙◌, arith}
use Rattle.std.proofs.lemmas.Grind.{common_steps}
use Rattle.std.proofs.lemmas.Result.{IfOk-weaker}
use Rattle.golf_data.specs.declared.value.Value.{Value}
use Rattle.golf_theory.specs.Maps.{find}
use Rattle.golf_model.specs.Changes.{Change}
use Rattle.golf_model.specs.Actors.{Actor, at_condition, at_mutex, at_reference}
use Rattle.golf_model.specs.Conditions.{awaits, awaits_by}
use Rattle.golf_state.proofs.Doings.{actor_of, operands-is}
use Rattle.golf_state.proofs.References.{is-reference}
use Rattle.golf_state.proofs.Outcomings.{comes-same, acts-same}
use Rattle.golf_sync.proofs.conditions.cond_wait.Goals as goal

one-operand : (vs : List Value) (x : Value) → Some x ≡ slice_get vs 0 → (rest : List Value) × (vs ≡ x ∷ rest)
one-operand [] x e = cc
one-operand (v ∷ vs) x e = let same : x ≡ v = cc in (vs, ap (λ (w : Value). w ∷ vs) (sym same))

pub returns-in-To-clause-ok : goal.returns-in-To-clause-ok
returns-in-To-clause-ok c =
    let s = c.args.state.now in
    let g = c.args.acting.goroutine.0 in
    let after = c.args.acting.after in
    let line = c.args.acting.line in
    let st = c.requires in
    let o = c.in-To.object.0 in
    let on : Actor → List Change = λ a. at_condition
    (λ m. at_reference a (λ p. at_mutex (awaits_by a (drop 1 a.frame.operands) s o p) (find p s.objects)) m)
    (find o s.objects) in
    let k = one-operand st.frame.operands c.in-Some.condition
    (sym c.in-Some.is ∙ c.last_operand.ensures
    ∙ ap (λ (vs : List Value). slice_get vs 0) (operands-is g after s st)) in
    let is : on (actor_of st line) ≡ awaits (actor_of st line) s =
    grind (
      arith,
      common_steps,
      k.1,
      is-reference c.in-Some.condition c.in-To.object
          (sym c.reference_in.ensures ∙ c.in-To.is),
    ) in
    IfOk-weaker c.await_at.result _ _ (λ outcome h. comes-same outcome on
    (λ a. awaits a s) g line s c.await_at.new.state (acts-same g after line s st on (λ a. awaits a s) is) h)
    c.await_at.ensures.ok
