use Rattle.std.proofs.Common.{◌≡◌, List, [], ◌∷◌, ◌∙◌, ap, sym, subst, get_or, None}
use Rattle.std.specs.Prelude.{Option, IfSome, MatchOption, slice_get, unwrap_or}
use Rattle.golf_model.specs.Graph.{sleeper_place}
use Rattle.golf_cert.specs.ComputedLevels.{reason_in}
use Rattle.golf_cert.specs.Levels.{IsReason}
use Rattle.golf_cert.specs.Links.{places_of, AreJustified}
use Rattle.golf_cert.specs.declared.links.Link.{Link}
use Rattle.golf_why.specs.Members.{members_before}
use Rattle.golf_why.specs.Explanations.{reached_at}
use Rattle.golf_why.specs.declared.explanation.Reached.{Reached}
use Rattle.golf_why.proofs.Saying.{none-told, one-told, at-is, none-of}
use Rattle.golf_why.proofs.explanation.Explanation.reached.Goals as goal

pub returns-in_default : goal.returns-in_default
returns-in_default c =
    let g = c.args.self.now.graph in
    let none = subst (λ (o : Option (List Link)). MatchOption o (reason_in g c.args.sleeper ≡ [])
    (λ links. places_of g links ≡ reason_in g c.args.sleeper)) c.in_default.is c.in_ok-links.ensures.computed in
    none-told g c.args.sleeper (unwrap_or (slice_get c.args.self.now.sleeper_entries c.args.sleeper) None) none

pub returns-in_default-as_slice : goal.returns-in_default-as_slice
returns-in_default-as_slice c =
    let g = c.args.self.now.graph in
    let k = c.args.sleeper in
    let none = at-is c.args.self.now.sleeper_entries k ∙ ap (λ os. get_or os k None) (sym c.as_slice.ensures)
    ∙ none-of (get_or c.as_slice.result.now k None) c.in_default-as_slice.not-Some in
    ap (reached_at g k) (sym none)

pub before_last-requires : goal.before_last-requires
before_last-requires c =
    let g = c.args.self.now.graph in
    subst (AreJustified g) (sym c.as_slice-2.ensures)
    (subst (λ (o : Option (List Link)). IfSome o (AreJustified g)) c.in-Some.is c.in_ok-links.ensures.justified)

pub returns : goal.returns
returns c =
    let g = c.args.self.now.graph in
    let k = c.args.sleeper in
    let place = sleeper_place g k in
    let links = c.in-Some.links in
    let e = c.in-Some-as_slice.entry in
    let here = at-is c.args.self.now.sleeper_entries k ∙ ap (λ os. get_or os k None) (sym c.as_slice.ensures)
    ∙ c.in-Some-as_slice.is in
    let reason = subst (λ (o : Option (List Link)). IfSome o (λ ls. IsReason g place (places_of g ls))) c.in-Some.is
    c.in_ok-links.ensures.reason in
    let is = subst (λ (o : Option (List Link)). MatchOption o (reason_in g k ≡ [])
    (λ ls. places_of g ls ≡ reason_in g k)) c.in-Some.is c.in_ok-links.ensures.computed in
    let by = c.in_ok-by.ensures ∙ ap (λ ls. members_before g (places_of g ls)) c.as_slice-2.ensures in
    ap (λ ms. let r : Reached = record { goroutine = e.goroutine; wait = e.wait; line = e.line; by = ms } in r ∷ []) by
    ∙ one-told g k place c.args.self.now.sleeper_entries e (places_of g links) here reason is
