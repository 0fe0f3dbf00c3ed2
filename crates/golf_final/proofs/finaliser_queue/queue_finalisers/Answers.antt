use Rattle.std.proofs.Common.{◌≡◌, ℕ, List, Bool, map, length, ap, ◌∙◌}
use Rattle.std.proofs.lemmas.List.{length-map}
use Rattle.golf_theory.specs.Maps.{keys}
use Rattle.golf_theory.specs.Membership.{is_in}
use Rattle.golf_theory.specs.Flags.{kept}
use Rattle.golf_final.proofs.Flagging.{queued-outside, where-ok}
use Rattle.golf_final.proofs.finaliser_queue.queue_finalisers.Goals as goal

pub queue_finalisers-requires : goal.queue_finalisers-requires
queue_finalisers-requires c =
    let s = c.args.state.now in
    ap length (c.as_slice-2.ensures ∙ c.in_ok-stays.ensures)
    ∙ length-map s.finalisers (λ (e : ℕ × ℕ). is_in e.0 (kept c.as_slice.result.now (keys s.objects)))

pub returns-clause-ok : goal.returns-clause-ok
returns-clause-ok c =
    let s = c.args.state.now in
    let xs : List ℕ = kept c.args.retained.now.flags (keys s.objects) in
    let flags : c.as_slice-2.result.now ≡ map (λ (e : ℕ × ℕ). is_in e.0 xs) s.finalisers =
    c.as_slice-2.ensures ∙ c.in_ok-stays.ensures
    ∙ ap (λ (fs : List Bool). map (λ (e : ℕ × ℕ). is_in e.0 (kept fs (keys s.objects))) s.finalisers)
    c.as_slice.ensures in
    where-ok c.queue_finalisers.result _ _
    (λ e. e ∙ queued-outside s xs c.as_slice-2.result.now flags) c.queue_finalisers.ensures.ok
