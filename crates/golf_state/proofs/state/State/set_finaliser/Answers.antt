use Rattle.std.proofs.Common.{◌≡◌, ℕ, List, None, Ok, Err, sym, ap, ◌∙◌, arith, subst}
use Rattle.std.specs.Prelude.{Result, OnOk, OnErr}
use Rattle.golf_base.specs.declared.Memory.{Memory}
use Rattle.golf_theory.specs.Maps.{Rises, find, insert}
use Rattle.golf_theory.proofs.Insert.{Rises-insert}
use Rattle.golf_model.specs.State.{State}
use Rattle.golf_state.proofs.state.State.set_finaliser.Goals as goal

-- one more or not, the numbers rise
rises : (r : Result (Unit {0}) Memory) (old new : List (ℕ × ℕ)) (k f : ℕ) → find k old ≡ None → Rises 0 old
    → OnOk r (new ≡ insert k f old) → OnErr r (new ≡ old) → Rises 0 new
rises (Ok u) old new k f none low ok err = subst (Rises 0) (sym ok) (Rises-insert 0 k f old (omega arith) none low)
rises (Err e) old new k f none low ok err = subst (Rises 0) (sym err) low

pub invariant_of-self : goal.invariant_of-self
invariant_of-self c =
    let s = c.self.inside in
    let none : find c.args.object.0 s.finalisers ≡ None =
    ap (λ (t : State). find c.args.object.0 t.finalisers) c.self.view_is ∙ c.requires in
    record {
      kept = c.self.invariant.kept;
      enqueued = c.self.invariant.enqueued;
      finalisers = rises c.put.result s.finalisers c.put.new.self c.args.object.0 c.args.function none
          c.self.invariant.finalisers c.put.ensures.ok c.put.ensures.err;
    }
