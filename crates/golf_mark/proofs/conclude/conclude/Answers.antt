use Rattle.std.proofs.Common.{◌≡◌, ◌+◌, ◌<◌, ◌∷◌, [], ◌++◌, ◌∙◌, inl, inr, ℕ, List, length, length-append, refl, sym}
use Rattle.std.proofs.Common.{subst, ap, arith}
use Rattle.std.specs.Prelude.{sum_by}
use Rattle.std.proofs.lemmas.List.{length_push}
use Rattle.std.proofs.lemmas.List.Sums.{sum_by-append}
use Rattle.golf_theory.specs.Membership.{In}
use Rattle.golf_theory.proofs.Lists.{In-left, In-right}
use Rattle.golf_theory.proofs.Times.{times-In}
use Rattle.golf_model.specs.declared.graph.GraphParts.{GraphParts}
use Rattle.golf_model.specs.Graph.{node_count, sleeper_count, Least, IsInRange}
use Rattle.golf_marks.specs.declared.marks.MarkSeat.{MarkSeat}
use Rattle.golf_marks.specs.Seats.{graph_in, claimed, known, claim_count}
use Rattle.golf_grey.specs.declared.hand.GreyHand.{GreyHand}
use Rattle.golf_grey.specs.Hands.{AreAllHands, pushed_by, taken_by}
use Rattle.golf_grey.proofs.Stages.{at_end}
use Rattle.golf_mark.specs.MarkingResult.{MarksLeast}
use Rattle.golf_mark.specs.MergedMarkers.{Finisher, IsHandedOver}
use Rattle.golf_mark.proofs.Gathers.{gathered_first, gathered_more, last_in, AllTakenIn, covers, handed_first}
use Rattle.golf_mark.proofs.Gathers.{handed_more, hands_of, even_of}
use Rattle.golf_mark.proofs.Marked.{HasMarked-same}
use Rattle.golf_mark.proofs.Whole.{claimed_least}
use Rattle.golf_mark.proofs.conclude.conclude.Goals as goal

pub loop-marker-init : goal.loop-marker-init
loop-marker-init c =
    let ms = c.args.markers.items in
    let more = c.pop.new.self.items in
    let first = c.in-Some.first in
    let is = c.in-Some.ensures.items in
    let run = c.requires.run (length more) first (at_end ms more first _ is refl) in
    let hands : c.push_ready.new.self.items ≡ first.hand ∷ [] = c.push_ready.ensures.items
    ∙ ap (λ (l : List GreyHand). l ++ first.hand ∷ []) c.requires.hands.0 in
    record {
      gathered = gathered_first c.args.marks ms more first c.add_all.new.self is run.fits.scanner.seat
          (c.add_all.ensures.length ∙ run.fits.deferred) (λ x low n. elim n [
            | inl d ↦ c.add_all.ensures.kept x d
            | inr w ↦ c.add_all.ensures.noted x (omega (arith, low, run.fits.deferred))
                (subst (λ (l : List ℕ). In x l) (sym c.as_slice.ensures) w)
          ]);
      handed = subst (λ (l : List GreyHand). IsHandedOver ms more l) (sym hands) (handed_first ms more first is);
      idle = c.clear.ensures.items;
      room = omega (arith, run.fits.scanner.room, c.clear.ensures.spare);
      spare = omega (arith, c.requires.hands.1, ap length is, length_push more first, c.push_ready.ensures.spare);
    }

pub join-requires-clause-other : goal.join-requires-clause-other
join-requires-clause-other c =
    let more = c.pop-in-loop-marker.new.self.items in
    let m = c.in-Some-pop.marker in
    (c.requires.run (length more) m (last_in c.args.marks c.args.markers.items c.loop-marker.rest.items more m _
    c.in-Some-pop.ensures.items c.loop-marker.invariant.gathered)).fits.scanner.seat

pub merge-requires : goal.merge-requires
merge-requires c =
    let more = c.pop-in-loop-marker.new.self.items in
    let m = c.in-Some-pop.marker in
    (c.requires.run (length more) m (last_in c.args.marks c.args.markers.items c.loop-marker.rest.items more m _
    c.in-Some-pop.ensures.items c.loop-marker.invariant.gathered)).fits.deferred
    ∙ sym c.loop-marker.invariant.gathered.fits.todo

pub loop-marker-preserved : goal.loop-marker-preserved
loop-marker-preserved c =
    let ms = c.args.markers.items in
    let rest = c.loop-marker.rest.items in
    let more = c.pop-in-loop-marker.new.self.items in
    let m = c.in-Some-pop.marker in
    let g = c.loop-marker.invariant.gathered in
    let is = c.in-Some-pop.ensures.items in
    let f : Finisher = record { seat = c.loop-marker.scanner.seat; todo = c.loop-marker.todo } in
    let e : Finisher = record { seat = c.join.new.seat; todo = c.add_all-in-Some-pop.new.self } in
    record {
      gathered = gathered_more c.args.marks ms rest more m f e is g (record {
        fits = record {
          seat = c.join.ensures.seat;
          todo = c.add_all-in-Some-pop.ensures.length
              ∙ (c.merge.ensures.length ∙ g.fits.todo);
        };
        sums = λ h. ap (sum_by h) c.join.ensures.claimed ∙ sum_by-append h (claimed f.seat) (claimed m.scanner.seat);
        parts = c.join.ensures.parts;
        knew = λ x h. subst (λ (l : List ℕ). In x l) (sym c.join.ensures.known)
            (In-left x (known f.seat) (known m.scanner.seat) h);
        learns = λ x h. subst (λ (l : List ℕ). In x l) (sym c.join.ensures.known)
            (In-right x (known f.seat) (known m.scanner.seat) h);
        kept = λ x h. c.add_all-in-Some-pop.ensures.kept x (c.merge.ensures.kept x h);
        noted = λ x low n. elim n [
          | inl d ↦ c.add_all-in-Some-pop.ensures.kept x (c.merge.ensures.noted x d)
          | inr w ↦ c.add_all-in-Some-pop.ensures.noted x (omega (arith, low, c.merge.ensures.length, g.fits.todo))
              (subst (λ (l : List ℕ). In x l) (sym c.as_slice-in-Some-pop.ensures) w)
        ];
      });
      handed = subst (λ (l : List GreyHand). IsHandedOver ms more l) (sym c.push_ready-in-Some-pop.ensures.items)
          (handed_more ms rest more m c.loop-marker.hands.items is
          (last_in c.args.marks ms rest more m f is g) c.loop-marker.invariant.handed);
      idle = c.loop-marker.invariant.idle;
      room = omega (
        arith,
        c.loop-marker.invariant.room,
        ap length c.join.ensures.claimed,
        length-append (claimed f.seat) (claimed m.scanner.seat),
      );
      spare = omega (
        arith,
        c.loop-marker.invariant.spare,
        ap length is,
        length_push more m,
        c.push_ready-in-Some-pop.ensures.spare,
      );
    }

pub close-left-requires : goal.close-left-requires
close-left-requires c =
    let rest = c.loop-marker.rest.items in
    let none : length rest ≡ 0 = omega (arith, c.in_default-pop.ensures.cases.0, c.loop-marker.rest.ok.0) in
    subst (λ (l : List GreyHand). AreAllHands c.args.pool l) (sym c.into_list.ensures)
    (hands_of c.args.marks c.args.pool c.args.markers.items rest c.loop-marker.hands.items none c.requires.count
    c.requires.run c.loop-marker.invariant.handed)

pub settle-requires-clause-covered : goal.settle-requires-clause-covered
settle-requires-clause-covered c = λ p low h.
    let rest = c.loop-marker.rest.items in
    let none : length rest ≡ 0 = omega (arith, c.in_default-pop.ensures.cases.0, c.loop-marker.rest.ok.0) in
    let g = c.loop-marker.invariant.gathered in
    let f : Finisher = record { seat = c.loop-marker.scanner.seat; todo = c.loop-marker.todo } in
    let left = c.close-left.result.places in
    let closed = c.close-left.ensures.all in
    let even = even_of c.args.markers.items rest c.loop-marker.hands.items left none c.loop-marker.invariant.handed
    (subst (λ (l : List GreyHand). (w : ℕ → ℕ) → pushed_by w l ≡ taken_by w l + sum_by w left) c.into_list.ensures
    closed) in
    let all : AllTakenIn c.args.marks c.args.pool c.args.markers.items rest left f c.add_all-2.new.self = record {
      none = none;
      run = c.requires.run;
      even = even;
      gathered = g;
      kept = c.add_all-2.ensures.kept;
      noted = λ x small i. c.add_all-2.ensures.noted x (omega (arith, g.fits.todo, small))
          (subst (λ (l : List ℕ). In x l) (sym c.as_slice-2.ensures) i);
    } in
    elim (covers all p low (times-In p (claimed f.seat) h)) [
      | inl done ↦ inl done
      | inr set ↦ inr (inr (omega arith, set))
    ]

pub returns : goal.returns
returns c =
    let marks = c.args.marks in
    let graph = c.args.graph.now in
    let rest = c.loop-marker.rest.items in
    let none : length rest ≡ 0 = omega (arith, c.in_default-pop.ensures.cases.0, c.loop-marker.rest.ok.0) in
    let s = c.settle.new.scanner in
    let seats = c.into_list-2.result in
    let one : seats ≡ s.seat ∷ [] = c.into_list-2.ensures ∙ c.push_ready-2.ensures.items
    ∙ ap (λ (l : List MarkSeat). l ++ s.seat ∷ []) c.requires.seats.0 in
    let same = claimed_least marks c.add_all-2.new.self s seats
    (subst IsInRange (sym c.requires.graph) c.requires.in_range) (record {
      one = one;
      sound = c.close.ensures.sound;
      covered = c.settle.ensures.covered;
      idle = c.settle.ensures.idle.none;
      roots = λ p r.
          let t = c.requires.rooted p (subst (λ (d : GraphParts). In p d.roots) c.requires.graph r) in
          c.settle.ensures.keeps.known p (c.loop-marker.invariant.gathered.told t.0 t.1 t.2
          (omega (arith, none)) p t.3);
      known = c.close.ensures.known;
    }) in
    subst (λ (d : GraphParts). MarksLeast d c.close.result) c.requires.graph
    (HasMarked-same (node_count (graph_in marks)) (sleeper_count (graph_in marks)) (sleeper_count (graph_in marks))
    (λ p. 0 < claim_count p seats) (Least (graph_in marks)) c.close.result refl same c.close.ensures.marked)
