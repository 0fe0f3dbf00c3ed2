use Rattle.std.proofs.Common.{ℕ, List, sym, subst, inl, inr}
use Rattle.std.proofs.lemmas.Bool.{both_ways}
use Rattle.golf_theory.specs.Membership.{Every}
use Rattle.golf_theory.proofs.Lists.{Every-at, Every-from}
use Rattle.golf_rows.specs.Rows.{row_of}
use Rattle.golf_marks.specs.Flags.{IsSet}
use Rattle.golf_cert.specs.Steps.{referred_by}
use Rattle.golf_cert.proofs.StepLaws.{referred-justifies, woken-justifies, justified-in}
use Rattle.golf_cert.proofs.verdicts.is_scanned.Goals as goal

pub returns-then-not-are_set : goal.returns-then-not-are_set
returns-then-not-are_set c =
    let g = c.args.graph.now in
    let rows = c.args.rows.now in
    let P : ℕ → Type 0 = IsSet c.args.placed.now in (
      λ h. absurd (cc),
      λ f.
          let all : Every P (referred_by g c.args.place) =
          Every-from P (referred_by g c.args.place)
          (λ q i. f (c.is_set.ensures.0 c.if-not-is_set.false) q
          (referred-justifies g rows c.places_in-places.ensures.in_range c.requires.rows c.args.place q i)) in
          absurd (both_ways c.are_set.result c.if-not-are_set.true
          (c.are_set.ensures.1 (subst (λ (l : List ℕ). Every P l) (sym c.referred.ensures) all))),
    )

pub returns : goal.returns
returns c =
    let g = c.args.graph.now in
    let rows = c.args.rows.now in
    let P : ℕ → Type 0 = IsSet c.args.placed.now in
    let fit = c.places_in-places.ensures.in_range in (
      λ h s q j.
          let first : Every P (referred_by g c.args.place) =
          subst (λ (l : List ℕ). Every P l) c.referred.ensures (c.are_set.ensures.0 c.if-not-are_set.false) in
          let second : Every P (row_of rows c.args.place) =
          subst (λ (l : List ℕ). Every P l) c.row.ensures (c.are_set-2.ensures.0 h) in
          elim (justified-in g rows fit c.requires.rows c.args.place q j) [
            | inl i ↦ Every-at P (referred_by g c.args.place) q first i
            | inr i ↦ Every-at P (row_of rows c.args.place) q second i
          ],
      λ f.
          let all : Every P (row_of rows c.args.place) =
          Every-from P (row_of rows c.args.place)
          (λ q i. f (c.is_set.ensures.0 c.if-not-is_set.false) q
          (woken-justifies g rows fit c.requires.rows c.args.place q i)) in
          c.are_set-2.ensures.1 (subst (λ (l : List ℕ). Every P l) (sym c.row.ensures) all),
    )
