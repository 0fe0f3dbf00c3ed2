use Rattle.std.proofs.Common.{◌≡◌, ◌∙◌, ◌-◌, length, take, drop, sym, ap, arith, length-drop, length-append}
use Rattle.std.proofs.lemmas.List.{nil_from_length}
use Rattle.golf_base.specs.InMemory.{Supply}
use Rattle.golf_base.proofs.Gives.{gives}
use Rattle.golf_base.proofs.in_memory.MemorySourceSource.read.Goals as goal

pub returns-clause-bytes : goal.returns-clause-bytes
returns-clause-bytes c =
    let s = c.self.inside in
    let same = c.as_slice-2.ensures in
    let left : drop s.at s.bytes ≡ c.args.self.now.left = ap (λ (v : Supply). v.left) c.self.view_is in
    let rest : c.split_at.result.1.now ≡ drop s.at s.bytes = c.split_at.ensures.back ∙ ap (drop s.at) same in
    let long : length c.split_at.result.1.now ≡ length s.bytes - s.at = ap length rest ∙ length-drop s.at s.bytes in
    let is = c.copy_from_slice.ensures.after in (
      sym left ∙ gives s.bytes s.at c.min-count.result c.copy_from_slice.new.self _
          (is ∙ ap (take c.min-count.result) rest) (omega (arith, c.min.ensures, c.min-count.ensures, long)),
      λ zero room. nil_from_length _ (simp length-drop
          (omega (
            arith,
            c.min.ensures,
            c.min-count.ensures,
            long,
            c.copy_from_slice.ensures.len,
            length-append c.copy_from_slice.new.self (drop c.min-count.result c.args.into.now),
            length-drop c.min-count.result c.args.into.now,
          ))),
    )
