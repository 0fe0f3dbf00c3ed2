use Rattle.std.proofs.Common.{◌≡◌, ℕ, ◌-◌, ◌≤◌, List, length, Some, refl, sym, ap, ◌∙◌, arith}
use Rattle.std.specs.Prelude.{slice_get}
use Rattle.std.proofs.lemmas.Option.{slice_get_read}
use Rattle.std.proofs.lemmas.Result.{on_ok_weaker, on_err_weaker}
use Rattle.golf_data.specs.declared.goroutine.Frame.{Frame}
use Rattle.golf_state.proofs.Tops.{handed_none, handed_nowhere, handed_to, handed_not}
use Rattle.golf_state.proofs.calls.hand_back.Goals as goal
use Rattle.golf_state.proofs.calls.hand_back.Goals.{then-count-lt2-via-then-count-lt2}
use Rattle.golf_state.proofs.calls.hand_back.Goals.{then-count-lt2-via-else-count-lt2+then-as_slice-count}

-- the last frame, read from the slice
top : (fs xs : List Frame) (n : ℕ) (t : Frame) → n ≡ length fs → 1 ≤ n → xs ≡ fs → Some t ≡ slice_get xs (n - 1)
    → slice_get fs (length fs - 1) ≡ Some t
top fs xs n t same l e is = ap (λ k. slice_get fs (k - 1)) (sym same)
    ∙ ap (λ (ys : List Frame). slice_get ys (n - 1)) (sym e) ∙ sym is

pub returns-then-count-lt2-clause-ok : goal.returns-then-count-lt2-clause-ok
returns-then-count-lt2-clause-ok c =
    let fs = c.args.frames.now in
    elim c.then-count-lt2.branch [
      | then-count-lt2-via-then-count-lt2 w ↦ handed_none c.args.value fs
          (omega (arith, c.len-count.ensures, w.if-count-lt2.true))
      | then-count-lt2-via-else-count-lt2+then-as_slice-count w ↦
          let t = w.index-as_slice-count.result in
          let at = slice_get_read w.as_slice.result.now (length w.as_slice.result.now) (c.len-count.result - 1) t refl
          (omega (arith, c.len-count.ensures, w.if-count-lt2.false, ap length w.as_slice.ensures))
          w.index-as_slice-count.is in
          handed_nowhere c.args.value fs t (top fs w.as_slice.result.now c.len-count.result t c.len-count.ensures
          (omega (arith, w.if-count-lt2.false)) w.as_slice.ensures (sym at))
          (ap (λ (f : Frame). f.discards) w.index-as_slice-count.is ∙ w.if-as_slice-count.true)
    ]

pub returns-clause-ok : goal.returns-clause-ok
returns-clause-ok c =
    let fs = c.args.frames.now in
    let t = c.index-as_slice-count.result in
    let at = slice_get_read c.as_slice.result.now (length c.as_slice.result.now) (c.len-count.result - 1) t refl
    (omega (arith, c.len-count.ensures, c.if-count-lt2.false, ap length c.as_slice.ensures))
    c.index-as_slice-count.is in
    let last = top fs c.as_slice.result.now c.len-count.result t c.len-count.ensures
    (omega (arith, c.if-count-lt2.false)) c.as_slice.ensures (sym at) in
    on_ok_weaker c.add_operand.result (handed_to c.args.value fs t c.item_mut.result.now c.add_operand.new.frame
    c.len-count.result
    (record { count = c.len-count.ensures; two = c.if-count-lt2.false; last = last; caller = c.item_mut.ensures.value })
    (ap (λ (f : Frame). f.discards) c.index-as_slice-count.is ∙ c.if-as_slice-count.false)) c.add_operand.ensures.ok

pub returns-clause-err : goal.returns-clause-err
returns-clause-err c =
    let fs = c.args.frames.now in
    let t = c.index-as_slice-count.result in
    let at = slice_get_read c.as_slice.result.now (length c.as_slice.result.now) (c.len-count.result - 1) t refl
    (omega (arith, c.len-count.ensures, c.if-count-lt2.false, ap length c.as_slice.ensures))
    c.index-as_slice-count.is in
    let last = top fs c.as_slice.result.now c.len-count.result t c.len-count.ensures
    (omega (arith, c.if-count-lt2.false)) c.as_slice.ensures (sym at) in
    on_err_weaker c.add_operand.result (handed_not fs t c.item_mut.result.now c.add_operand.new.frame c.len-count.result
    (record {
      count = c.len-count.ensures;
      two = c.if-count-lt2.false;
      last = last;
      caller = c.item_mut.ensures.value;
    })) c.add_operand.ensures.err
