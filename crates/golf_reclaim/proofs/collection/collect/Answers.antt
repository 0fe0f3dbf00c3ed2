use Rattle.std.proofs.Common.{◌≡◌, ℕ, ◌-◌, not, filter, length, map, refl, ◌∙◌, arith}
use Rattle.std.proofs.lemmas.List.{length-map}
use Rattle.golf_theory.specs.Membership.{is_in}
use Rattle.golf_model.specs.Views.{GoroutineView}
use Rattle.golf_model.specs.Collections.{removed}
use Rattle.golf_model.specs.Reports.{numbers}
use Rattle.golf_reclaim.specs.RunBook.{stays_reported}
use Rattle.golf_reclaim.proofs.Reports.{report-is, book-is, can-note}
use Rattle.golf_reclaim.proofs.PlainReports.{report-plain, book-plain}
use Rattle.golf_reclaim.proofs.States.{zero-stays, queued-alike, collected, stays-are}
use Rattle.golf_reclaim.proofs.Translating.{retained-flags}
use Rattle.golf_reclaim.proofs.Promises.{are-still, is-unseen, leaves-exactly, moves-on}
use Rattle.golf_reclaim.proofs.collection.collect.Given.{Over}
use Rattle.golf_reclaim.proofs.collection.collect.Goals.{In_ok-new}
use Rattle.golf_reclaim.proofs.collection.collect.Goals as goal

-- ---- what was found, once the new goroutines are listed

out : (g : Over) (c : In_ok-new g) → numbers c.as_slice-gone.result.now ≡ removed c.args.state.now
    c.args.options.recover c.args.options.sets_finalisers
out g c = rw c.as_slice-gone.ensures c.in_ok-found.ensures.gone

fresh : (g : Over) (c : In_ok-new g)
    → c.in_ok-new.new ≡ filter (λ h. not (stays_reported c.args.book.now h.0)) c.in_ok-found.found.dead
fresh g c = rw c.as_slice-2.ensures at c.in_ok-new.ensures

stays : (g : Over) (c : In_ok-new g) → c.in_ok-stays.stays ≡ map (λ (e : ℕ × GoroutineView). not (is_in e.0
    (removed c.args.state.now c.args.options.recover c.args.options.sets_finalisers))) c.args.state.now.goroutines
stays g c = rw (c.in_ok-stays.ensures, out g c)
    (stays-are (λ k. not (is_in k (removed c.args.state.now c.args.options.recover c.args.options.sets_finalisers)))
    c.as_slice.result.now c.args.state.now.goroutines (rw c.as_slice.ensures c.in_ok-goroutines.ensures.present))

pub outside-requires : goal.outside-requires
outside-requires g c = rw c.as_slice-gone.ensures c.in_ok-found.ensures.rises

pub note-requires-clause-rises : goal.note-requires-clause-rises
note-requires-clause-rises g c = rw c.as_slice-gone.ensures c.in_ok-found.ensures.rises

pub note-requires-clause-known : goal.note-requires-clause-known
note-requires-clause-known g c = let at = (goal.at.note-requires-clause-known g c).In_ok-new in
    can-note c.args.state.now c.args.options.recover c.args.options.sets_finalisers c.in_ok-found.found.dead _
    c.in_ok-found.ensures.dead (out g at) c.args.book.now c.as_slice-4.result.now
    (c.as_slice-4.ensures ∙ fresh g at) c.in_ok-found.ensures.numbered

pub retain_goroutines-requires-clause-count : goal.retain_goroutines-requires-clause-count
retain_goroutines-requires-clause-count g c =
    rw (
      c.as_slice-5.ensures,
      stays g (goal.at.retain_goroutines-requires-clause-count g c).In_ok-new,
      c.in_ok-note.ensures.state,
    ) (length-map c.args.state.now.goroutines _)

pub retain_goroutines-requires-clause-zero : goal.retain_goroutines-requires-clause-zero
retain_goroutines-requires-clause-zero g c =
    rw (c.as_slice-5.ensures, c.in_ok-note.ensures.state)
    (zero-stays c.args.state.now c.args.options.recover c.args.options.sets_finalisers _
    (stays g (goal.at.retain_goroutines-requires-clause-zero g c).In_ok-new) c.goroutines.ensures.zero)

pub returns-clause-state : goal.returns-clause-state
returns-clause-state g c =
    let s = c.args.state.now in
    let n = c.in_ok-found.ensures.numbered in
    let at = (goal.at.returns-clause-state g c).In_ok-new in
    rw (c.retain_objects.ensures, c.retain_goroutines.ensures)
    (collected s n c.args.options.recover c.args.options.sets_finalisers c.note.new.state _ _
    (rw c.in_ok-note.ensures.state (queued-alike s n c.args.options.recover c.args.options.sets_finalisers
    c.requires.whole _ (rw (out g at) at (retained-flags s n c.requires.whole _ _ c.in_ok-rest.ensures.marked))))
    (rw c.as_slice-5.ensures (stays g at)) (rw c.as_slice-6.ensures (rw (out g at) at c.in_ok-rest.ensures.keep)))

pub returns-clause-report : goal.returns-clause-report
returns-clause-report g c =
    let at = (goal.at.returns-clause-report g c).In_ok-new in
    let less = rw (← c.as_slice-gone.ensures) at c.in_ok-found.ensures.fewer in
    report-is c.args.state.now c.args.options.recover c.args.options.sets_finalisers c.in_ok-found.found.dead
    c.as_slice-gone.result.now c.in_ok-found.ensures.dead (out g at) c.args.book.now c.in_ok-new.new (fresh g at)
    (record {
      number = c.collections.result;
      marked = c.in_ok-found.found.objects;
      reported = c.in_ok-reported.reported;
      kept = c.len.result - length c.as_slice-gone.result.now;
      reclaimed = length c.as_slice-gone.result.now;
      objects = c.in_ok-rest.rest.objects;
    })
    (rw c.collections.ensures (rw c.in_ok-note.ensures.book refl)) c.in_ok-found.ensures.objects
    (rw c.as_slice-3.ensures at c.in_ok-reported.ensures) (omega (arith, less)) refl
    (rw (out g at) at c.in_ok-rest.ensures.objects)

pub returns-clause-book : goal.returns-clause-book
returns-clause-book g c = let at = (goal.at.returns-clause-book g c).In_ok-new in
    rw (c.in_ok-note.ensures.book, c.as_slice-4.ensures) (book-is c.args.state.now c.args.options.recover
    c.args.options.sets_finalisers c.in_ok-found.found.dead _ c.in_ok-found.ensures.dead (out g at) c.args.book.now
    c.in_ok-new.new (fresh g at))

pub returns-clause-plain_report : goal.returns-clause-plain_report
returns-clause-plain_report g c apart = returns-clause-report g c
    ∙ report-plain c.args.state.now c.args.book.now c.args.options.recover c.args.options.sets_finalisers apart

pub returns-clause-plain_book : goal.returns-clause-plain_book
returns-clause-plain_book g c apart = returns-clause-book g c
    ∙ book-plain c.args.state.now c.args.book.now c.args.options.recover c.args.options.sets_finalisers apart

pub returns-clause-still : goal.returns-clause-still
returns-clause-still g c = are-still c.args.state.now c.args.book.now c.args.options.recover
    c.args.options.sets_finalisers _ c.in_ok-found.ensures.numbered (returns-clause-report g c)

pub returns-clause-unseen : goal.returns-clause-unseen
returns-clause-unseen g c = is-unseen _ _ c.args.options.recover _ (returns-clause-state g c)

pub returns-clause-exactly : goal.returns-clause-exactly
returns-clause-exactly g c = leaves-exactly _ _ c.args.options.recover _ (returns-clause-state g c)

pub returns-clause-moves_on : goal.returns-clause-moves_on
returns-clause-moves_on g c = moves-on _ _ c.args.options.recover _ (returns-clause-state g c)
