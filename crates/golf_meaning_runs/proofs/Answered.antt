-- The answers of a call with a life are of the types that its operations leave.
-- For: `IsAnswered`, golf_meaning_runs/specs/Books.antt.
-- By: the law of lives, with the shapes of the call's function; no induction.
use Rattle.std.proofs.Common.{ℕ, List, [], Option, ap, sym, ◌∙◌, subst}
use Rattle.std.specs.Prelude.{unwrap_or, Some}
use Rattle.golf_data.specs.declared.code.Code.{Code}
use Rattle.golf_data.specs.declared.code.Function.{Function}
use Rattle.golf_model_typing.specs.Types.{ValueType, Shape, Typing, with_shapes}
use Rattle.golf_model_typing.specs.Shapes.{FunctionFits, HasShapes}
use Rattle.golf_meaning_runs.specs.Life.{Life}
use Rattle.golf_meaning_runs.proofs.Answering.{answers-are-typed}
use Rattle.golf_meaning_runs.specs.Books.{HasLife, IsAnswered}
use Rattle.golf_meaning_runs.specs.CallRecords.{Call}
use Rattle.golf_meaning_runs.proofs.Others.{one-some}

pub is-answered : (code : Code) (types : Typing) → HasShapes code types → (known : List (ℕ × ValueType)) (k : Call)
    → HasLife code (record { typing = types; known = known }) k
    → IsAnswered (record { typing = types; known = known }) k
is-answered code types shapes known k (fn, is, (given, (now, life, stands))) =
    let sig = given.0 in
    let x = shapes.functions k.function sig given.1 in
    let own = x.0 in
    let same = one-some x.1 fn (sym x.3 ∙ is) in
    let fits : FunctionFits types.of fn (with_shapes sig own) =
    subst (λ (f : Function). FunctionFits types.of f (with_shapes sig own)) same x.4 in
    let there : Life fn (Some (record { types = types.of; known = known; shapes = own })) k.arguments k.shown k.got
    now =
    subst (λ (ss : List Shape). Life fn (Some (record { types = types.of; known = known; shapes = ss })) k.arguments
    k.shown k.got now) (ap (λ (m : Option (List Shape)). unwrap_or m []) x.2) life in (
      with_shapes sig own,
      given.1,
      answers-are-typed types.of known fn
          (with_shapes sig own) k.arguments k.shown k.got now fits there,
    )
