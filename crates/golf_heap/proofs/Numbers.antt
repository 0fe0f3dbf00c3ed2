-- What the changes of a heap keep of its numbers.
-- For: `IsNumbered` (golf_heap/specs/Objects.antt) and `put`, `retain` (src/heap.rt)
-- By: the laws of maps and arithmetic; no induction
use Rattle.std.proofs.Common.{◌≡◌, ◌<◌, ℕ, ◌+◌, Bool, List, false, ap, sym, arith, Option, Some, None, refl}
use Rattle.std.specs.Prelude.{is_some}
use Rattle.golf_data.specs.declared.value.Object.{Object}
use Rattle.golf_theory.specs.Maps.{find}
use Rattle.golf_theory.proofs.MapFinds.{put-none}
use Rattle.golf_theory.proofs.MapOrder.{Rises-add, AllBelow-add, AllBelow-more, Rises-put, AllBelow-put}
use Rattle.golf_heap.specs.Objects.{NumberedObjects, IsNumbered, appended, replaced}
use Rattle.golf_theory.specs.Flags.{kept}
use Rattle.golf_theory.proofs.Ranks.{Rises-kept, AllBelow-kept}

absent : {X : Type 0} (o : Option X) → is_some o ≡ false → o ≡ None
absent None h = refl
absent (Some x) h = cc

-- a number that is not there stays away
pub unchanged : (h : NumberedObjects) (o : ℕ) (x : Object) → is_some (find o h.objects) ≡ false → h ≡ replaced o x h
unchanged h o x n = ap (λ (es : List (ℕ × Object)). record { objects = es; last = h.last })
    (sym (put-none o x h.objects (absent (find o h.objects) n)))

pub IsNumbered-appended : (h : NumberedObjects) (n : ℕ) (x : Object) → h.last < n → IsNumbered h
    → IsNumbered (appended n x h)
IsNumbered-appended h n x l i =
    let below = AllBelow-more (h.last + 1) n h.objects (omega (arith, l)) i.within in
    record {
      rises = Rises-add 1 n x h.objects (omega (arith, l)) below i.rises;
      within = AllBelow-add (n + 1) n x h.objects (omega arith) (AllBelow-more n (n + 1) h.objects (omega arith) below);
    }

pub IsNumbered-replaced : (h : NumberedObjects) (o : ℕ) (x : Object) → IsNumbered h → IsNumbered (replaced o x h)
IsNumbered-replaced h o x n = record {
  rises = Rises-put 1 o x h.objects n.rises;
  within = AllBelow-put (h.last + 1) o x h.objects n.within;
}

pub IsNumbered-kept : (h : NumberedObjects) (keep : List Bool) → IsNumbered h
    → IsNumbered (record h { objects = kept keep h.objects })
IsNumbered-kept h keep n = record {
  rises = Rises-kept 1 keep h.objects n.rises;
  within = AllBelow-kept (h.last + 1) keep h.objects n.within;
}
