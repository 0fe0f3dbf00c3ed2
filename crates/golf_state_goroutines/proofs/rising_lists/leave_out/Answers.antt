use Rattle.std.proofs.Common.{◌≡◌, ℕ, ◌<◌, ◌≤◌, List, length, Some, sym, ap, ◌∙◌, arith, slice_get}
use Rattle.std.specs.Prelude.{remove}
use Rattle.std.proofs.lemmas.Option.{slice_get_past}
use Rattle.std.proofs.lemmas.List.{length-map}
use Rattle.golf_base.specs.declared.ids.GoroutineId.{GoroutineId}
use Rattle.golf_state_goroutines.specs.RunBlocks.{numbers}
use Rattle.golf_state_goroutines.specs.RisingLists.{leading}
use Rattle.golf_state_goroutines.proofs.Numbered.{numbers-remove}
use Rattle.golf_state_goroutines.proofs.Rises.{at-number, without-there, without-absent}
use Rattle.golf_state_goroutines.proofs.rising_lists.leave_out.Goals as goal
use Rattle.golf_state_goroutines.proofs.rising_lists.leave_out.Goals.{else-at-len-via-then-at-len+else-index-g}
use Rattle.golf_state_goroutines.proofs.rising_lists.leave_out.Goals.{else-at-len-via-else-at-len}

pub returns-then-index-g-clause-others : goal.returns-then-index-g-clause-others
returns-then-index-g-clause-others c =
    let xs = c.args.goroutines.now.items in
    let ns = numbers xs in
    let g = c.args.g.0 in
    let at : c.leading-at.result ≡ leading g ns = c.leading-at.ensures.place
    ∙ ap (λ (k : ℕ). leading k (numbers c.as_slice.result.now)) c.from.ensures
    ∙ ap (λ (ys : List GoroutineId). leading g (numbers ys)) c.as_slice.ensures.value in
    let within : c.leading-at.result < length xs =
    omega (arith, c.if-at-len.true, c.len.ensures, c.args.goroutines.now.ok.0) in
    let here : slice_get ns (leading g ns) ≡ Some g = ap (slice_get ns) (sym at)
    ∙ at-number xs c.leading-at.result c.index.result.now within c.index.ensures ∙ ap Some c.if-index-g.true in
    ap numbers c.take_out.ensures.items ∙ numbers-remove xs c.leading-at.result ∙ ap (remove ns) at
    ∙ sym (without-there 0 g ns c.requires here)

pub returns-else-at-len-clause-others : goal.returns-else-at-len-clause-others
returns-else-at-len-clause-others c =
    let xs = c.args.goroutines.now.items in
    let ns = numbers xs in
    let g = c.args.g.0 in
    let at : c.leading-at.result ≡ leading g ns = c.leading-at.ensures.place
    ∙ ap (λ (k : ℕ). leading k (numbers c.as_slice.result.now)) c.from.ensures
    ∙ ap (λ (ys : List GoroutineId). leading g (numbers ys)) c.as_slice.ensures.value in
    sym (without-absent 0 g ns c.requires (λ here.
    elim c.else-at-len.branch [
      | else-at-len-via-then-at-len+else-index-g w ↦
          let within : c.leading-at.result < length xs =
          omega (arith, w.if-at-len.true, c.len.ensures, c.args.goroutines.now.ok.0) in
          let other = at-number xs c.leading-at.result w.index.result.now within w.index.ensures in
          let read : slice_get ns c.leading-at.result ≡ Some g = ap (slice_get ns) at ∙ here in
          w.if-index-g.false (cc)
      | else-at-len-via-else-at-len w ↦
          let past : length ns ≤ c.leading-at.result =
          omega (
            arith,
            w.if-at-len.false,
            c.len.ensures,
            c.args.goroutines.now.ok.0,
            length-map xs (λ (h : GoroutineId). h.0),
          ) in
          let none = slice_get_past ns c.leading-at.result past in
          let read : slice_get ns c.leading-at.result ≡ Some g = ap (slice_get ns) at ∙ here in
          absurd (cc)
    ]))
