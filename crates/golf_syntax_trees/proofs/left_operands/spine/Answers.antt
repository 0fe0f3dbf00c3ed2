use Rattle.std.proofs.Common.{refl, sym, arith}
use Rattle.golf_syntax_trees.specs.declared.expressions.Expr.{size-Expr}
use Rattle.golf_syntax_trees.specs.Spines.{left_of}
use Rattle.golf_syntax_trees.proofs.Spines.{down, deeper}
use Rattle.golf_syntax_trees.proofs.left_operands.spine.Goals as goal

pub loop-left-preserved : goal.loop-left-preserved
loop-left-preserved c =
    let inner = c.loop-left.inner in
    let less = c.in-Some.ensures.smaller in
    let low = c.loop-left.invariant.smaller in
    record {
      down = down c.loop-left.waiting c.push.new.self inner inner.now refl c.in_ok-push.ensures.ok left_of c.args.e.now
          c.in-Some.left.now c.loop-left.invariant.down (sym c.in-Some.ensures.is);
      within = deeper c.loop-left.waiting c.push.new.self inner inner.now refl c.in_ok-push.ensures.ok size-Expr
          (size-Expr c.args.e.now) c.loop-left.invariant.within low;
      smaller = omega (arith, less, low);
    }
