use Rattle.std.proofs.Common.{◌≡◌, ◌++◌, ◌∷◌, [], ℕ, List, Bool, false, length, Some, get_or, slice_get, sym, ap, ◌∙◌}
use Rattle.std.proofs.Common.{arith}
use Rattle.std.proofs.lemmas.Option.{slice_get-get_or}
use Rattle.golf_theory.specs.Maps.{keys, rank}
use Rattle.golf_theory.specs.Membership.{is_in}
use Rattle.golf_theory.proofs.MapEntries.{Entry-keys}
use Rattle.golf_heap.specs.Objects.{NumberedObjects}
use Rattle.golf_theory.specs.Flags.{kept}
use Rattle.golf_snapshot.proofs.Ranking.{Entry-at}
use Rattle.golf_snapshot.proofs.Stepping.{map-next, map-done}
use Rattle.golf_final.proofs.Flagging.{flag-of, is-flag}
use Rattle.golf_final.proofs.finaliser_queue.flagged.Goals as goal

pub loop-finaliser-preserved : goal.loop-finaliser-preserved
loop-finaliser-preserved c =
    let s = c.args.state.now in
    let flags = c.args.flags.now in
    let fs = c.as_slice-finaliser-items.result.now in
    let i = c.loop-finaliser.finaliser-index in
    let f : ℕ × ℕ → Bool = λ e. is_in e.0 (kept flags (keys s.objects)) in
    let e : ℕ × ℕ = get_or fs i (0, 0) in
    let at : slice_get s.finalisers i ≡ Some e =
    ap (λ (xs : List (ℕ × ℕ)). slice_get xs i)
    (sym (c.as_slice-finaliser-items.ensures ∙ c.in_ok-finalisers.ensures))
    ∙ slice_get-get_or fs i (0, 0) c.loop-finaliser-test.true in
    let x = Entry-keys s.objects e.0 (c.requires.whole.finalised e.0 e.1 (Entry-at s.finalisers i e at)) in
    let ranked : c.rank-node.result ≡ rank e.0 s.objects = c.rank-node.ensures
    ∙ ap (λ (h : NumberedObjects). rank e.0 h.objects) c.heap.ensures.objects in
    let flag : c.is_set.result ≡ f e = is-flag c.is_set.result flags c.rank-node.result c.is_set.ensures
    ∙ ap (λ (k : ℕ). get_or flags k false) ranked
    ∙ flag-of 0 flags s.objects e.0 x.0 (c.heap.ensures.numbered c.requires.whole).objects_rise c.requires.count
    x.1 in
    map-next f s.finalisers i e c.loop-finaliser.stays c.push.new.self at c.loop-finaliser.invariant
    (c.in_ok-push.ensures.ok ∙ ap (λ (b : Bool). c.loop-finaliser.stays ++ b ∷ []) flag)

pub returns : goal.returns
returns c =
    let s = c.args.state.now in
    let all : length s.finalisers ≡ length c.as_slice-finaliser-items.result.now =
    ap (λ (xs : List (ℕ × ℕ)). length xs) (sym (c.as_slice-finaliser-items.ensures ∙ c.in_ok-finalisers.ensures)) in
    map-done (λ (e : ℕ × ℕ). is_in e.0 (kept c.args.flags.now (keys s.objects))) s.finalisers
    c.loop-finaliser.finaliser-index c.loop-finaliser.stays
    (omega (arith, all, c.loop-finaliser-test.false)) c.loop-finaliser.invariant
