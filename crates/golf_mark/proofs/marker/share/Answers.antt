use Rattle.std.proofs.Common.{◌-◌, ◌∷◌, [], ◌++◌, ◌∙◌, ℕ, List, inl, refl, sym, ap, subst, arith}
use Rattle.golf_theory.specs.Membership.{In}
use Rattle.golf_mark.proofs.Running.{TakesTurns-idle, TakesTurns-shared}
use Rattle.golf_mark.proofs.marker.share.Goals as goal

pub returns-then-len-ge-SHARED : goal.returns-then-len-ge-SHARED
returns-then-len-ge-SHARED c =
    let a = c.args.marker.now in
    TakesTurns-idle c.args.shared.now.marks.now c.args.shared.now.pool.now a a.scanner.won c.len-2.new.hand c.requires
    refl
    refl
    (record {
      fits = c.len-2.ensures.hand;
      pushed = c.len-2.ensures.pushed;
      took = λ f. c.len-2.ensures.took (λ _. f);
      number = c.len-2.ensures.number;
    })

pub returns : goal.returns
returns c =
    let a = c.args.marker.now in
    TakesTurns-shared c.args.shared.now.marks.now c.args.shared.now.pool.now
    (a.budget - 1) a c.shift.new.self c.push.new.hand c.requires c.in-Some.ensures.items c.in-Some.ensures.spare
    (record {
      fits = c.push.ensures.hand;
      pushed = c.push.ensures.pushed ∙ ap (λ (l : List ℕ). l ++ c.in-Some.place ∷ []) c.len-2.ensures.pushed;
      took = λ f. c.push.ensures.took (λ _. f) ∙ c.len-2.ensures.took (λ _. f);
      number = c.push.ensures.number ∙ c.len-2.ensures.number;
    }) (omega arith)

pub push-requires-clause-place : goal.push-requires-clause-place
push-requires-clause-place c =
    let fits = c.requires in
    let low = (fits.own c.in-Some.place (subst (λ (l : List ℕ). In c.in-Some.place l) (sym c.in-Some.ensures.items)
    (inl refl))).0 in
    omega (arith, low, fits.places)
