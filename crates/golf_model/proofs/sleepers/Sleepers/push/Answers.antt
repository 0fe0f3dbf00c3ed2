use Rattle.std.proofs.Common.{◌≡◌, ℕ, List, ◌∷◌, ◌++◌, [], false, Result, Ok, Err, ap, ◌∙◌}
use Rattle.std.specs.Prelude.{OnOk, is_err}
use Rattle.golf_base.specs.declared.ids.GoroutineId.{GoroutineId}
use Rattle.golf_model.specs.Sleepers.{Sleeper, sleepers_of}
use Rattle.golf_model.proofs.SleeperLists.{sleepers-push}
use Rattle.golf_model.proofs.sleepers.Sleepers.push.Goals as goal

-- what holds if all went well, and it did
held : {T E P : Type 0} (r : Result T E) → false ≡ is_err r → OnOk r P → P
held (Ok x) e p = p
held (Err x) e p = cc

pub returns-clause-ok : goal.returns-clause-ok
returns-clause-ok c =
    let s = c.self.inside in
    let w = c.args.waits.now in
    let r = c.args.references.now in
    let one : Sleeper = record { goroutine = c.args.goroutine; waits = w; references = r } in
    let waits = held c.push-2.result c.if-is_err.ensures.value c.push-2.ensures.ok in
    let references = held c.push-3.result c.if-is_err-2.ensures.value c.push-3.ensures.ok in
    ap (λ (gs : List GoroutineId). sleepers_of gs c.push-2.new.self c.push-3.new.self) c.in_ok-push.ensures.ok
    ∙ ap (λ (ws : List (List ℕ)). sleepers_of (s.goroutines ++ c.args.goroutine ∷ []) ws c.push-3.new.self) waits
    ∙ ap (λ (rs : List (List ℕ)). sleepers_of (s.goroutines ++ c.args.goroutine ∷ []) (s.waits ++ w ∷ []) rs) references
    ∙ sleepers-push s.goroutines s.waits s.references c.args.goroutine w r c.self.invariant.0 c.self.invariant.1
    ∙ ap (λ (xs : List Sleeper). xs ++ one ∷ []) c.self.view_is
