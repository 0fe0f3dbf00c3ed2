use Rattle.std.proofs.Common.{◌≡◌, ℕ, ◌%◌, [], Some, refl, sym, ap, ◌∙◌, subst, ◌⊎◌, inl, inr}
use Rattle.golf_data.specs.declared.goroutine.Ending.{Ending}
use Rattle.golf_model.specs.State.{State}
use Rattle.golf_model.specs.Turn.{step, whose_turn}
use Rattle.golf_model.specs.Wakes.{on_top}
use Rattle.golf_model.specs.Futures.{Leads}
use Rattle.golf_model.specs.Presence.{IsWhole}
use Rattle.golf_model_futures.proofs.Leading.{leads-numbered}
use Rattle.golf_model_futures.proofs.OrderedLeading.{leads-whole}
use Rattle.golf_state.specs.FrameChanges.{went}
use Rattle.golf_state.specs.Looked.{frames_of, reframed, runs}
use Rattle.golf_machine.proofs.TurnLaws.{whose}
use Rattle.golf_machine.specs.declared.turns.Turned.{Turned}
use Rattle.golf_machine.specs.declared.turns.Turned.TheVariants as t
use Rattle.golf_world.proofs.Advancing.{at-collect, runs_after, put-back-is, loud, quiet}
use Rattle.golf_world.proofs.turn_with_collection.turn_and_collect.Goals as goal

other : (turned : Turned) → (turned ≡ t.Went) ⊎ ((x : Ending) × (turned ≡ t.Ended x)) → turned ≡ t.WantsCollection → ⊥
other turned (inl e) h = let f : t.Went ≡ t.WantsCollection = sym e ∙ h in cc
other turned (inr (x, e)) h = let f : t.Ended x ≡ t.WantsCollection = sym e ∙ h in cc

pub returns-in-Went : goal.returns-in-Went
returns-in-Went g c = record {
  ok = (
    quiet c.in_ok-turn.field-0 c.args.code.now c.args.state.now c.turn.new.state c.args.number
        (other c.in_ok-turn.field-0 c.in-Went.is) c.in_ok-turn.ensures.ok c.requires.goes c.in_ok-turn.ensures.turned,
    c.in_ok-turn.ensures.ok,
    refl,
  );
  state = tt;
  book = tt;
}

pub collect-requires-clause-whole : goal.collect-requires-clause-whole
collect-requires-clause-whole g c κs within =
    let code = c.args.code.now in
    let s = c.args.state.now in
    subst IsWhole (sym c.in_ok-turn.ensures.ok)
    (leads-whole code (step code s c.args.number) (Leads.Turn s c.args.number c.requires.leads c.requires.goes))

pub put_back-requires : goal.put_back-requires
put_back-requires g c =
    let code = c.args.code.now in
    let s = c.args.state.now in
    let n : ℕ = c.args.number in
    let who : ℕ = c.runnable_at-g.result.0 in
    let turn : whose_turn s n ≡ Some who =
    whose s n who (n % c.runnable_count-count.result) c.runnable_count-count.result c.runnable_at-g.ensures.at refl
    c.runnable_count-count.ensures in
    let wants = loud c.in_ok-turn.field-0 code s c.turn.new.state n c.in-WantsCollection.is
    c.in_ok-turn.ensures.turned in
    let at = at-collect code s n who c.runnable_at-g.ensures.rises turn wants in
    ap (runs who) (c.in-Err.ensures.err_state ∙ c.in_ok-turn.ensures.ok) ∙ runs_after who s (step code s n) at

pub returns-in-Err-clause-state : goal.returns-in-Err-clause-state
returns-in-Err-clause-state g c =
    let code = c.args.code.now in
    let s = c.args.state.now in
    let n : ℕ = c.args.number in
    let who : ℕ = c.runnable_at-g.result.0 in
    let turn : whose_turn s n ≡ Some who =
    whose s n who (n % c.runnable_count-count.result) c.runnable_count-count.result c.runnable_at-g.ensures.at refl
    c.runnable_count-count.ensures in
    let wants = loud c.in_ok-turn.field-0 code s c.turn.new.state n c.in-WantsCollection.is
    c.in_ok-turn.ensures.turned in
    let at = at-collect code s n who c.runnable_at-g.ensures.rises turn wants in
    let rises = (leads-numbered code (step code s n)
    (Leads.Turn s n c.requires.leads c.requires.goes)).goroutines_rise in
    c.put_back.ensures ∙ ap (λ (u : State). reframed who (on_top (went c.place_of-at.result 0 []) (frames_of who u)) u)
    (c.in-Err.ensures.err_state ∙ c.in_ok-turn.ensures.ok)
    ∙ put-back-is who c.place_of-at.result s (step code s n) at c.place_of-at.ensures rises
