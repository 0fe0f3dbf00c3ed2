use Rattle.std.proofs.Common.{◌≡◌, ◌∷◌, [], ◌++◌, length, ap, ◌∙◌, arith}
use Rattle.crossbeam_deque.specs.Handles.{worker_view}
use Rattle.golf_grey.specs.declared.rule.GreyView.{GreyView}
use Rattle.golf_grey.specs.Rule.{all_parts, count, grey, unbound}
use Rattle.golf_grey.proofs.Steps.{even, names, pushes, takes}
use Rattle.golf_grey.proofs.named.name.Goals as goal

pub push_as-requires-clause-pushes : goal.push_as-requires-clause-pushes
push_as-requires-clause-pushes c =
    let v = c.requires.view in
    pushes _ _ _ (omega (arith, ap (λ (u : GreyView). u.parts) v)) (ap (λ (u : GreyView). u.pushers) v)
    (omega (arith, ap (λ (u : GreyView). u.places) v, c.ranges.capacity.fits), tt)
    (omega (arith, ap (λ (u : GreyView). length u.pushed) v, ap (λ (u : GreyView). u.capacity) v))

pub push_as-requires-2-clause-pushes : goal.push_as-requires-2-clause-pushes
push_as-requires-2-clause-pushes c =
    let v : worker_view c.push_as.new.self ≡ grey all_parts 1 unbound unbound (c.args.capacity ∷ []) [] =
    c.in-Ok.ensures.rule.0.view ∙ ap (λ (u : GreyView). grey u.parts u.pushers u.places u.capacity
    (u.pushed ++ c.args.capacity ∷ []) u.taken) c.requires.view in
    pushes _ _ _ (omega (arith, ap (λ (u : GreyView). u.parts) v)) (ap (λ (u : GreyView). u.pushers) v)
    (omega (arith, ap (λ (u : GreyView). u.places) v, c.ranges.places.fits), tt)
    (omega (arith, ap (λ (u : GreyView). length u.pushed) v, ap (λ (u : GreyView). u.capacity) v))

pub pop_as-requires-clause-fifo : goal.pop_as-requires-clause-fifo
pop_as-requires-clause-fifo c = λ _.
    let v : worker_view c.push_as.new.self ≡ grey all_parts 1 unbound unbound (c.args.capacity ∷ []) [] =
    c.in-Ok.ensures.rule.0.view ∙ ap (λ (u : GreyView). grey u.parts u.pushers u.places u.capacity
    (u.pushed ++ c.args.capacity ∷ []) u.taken) c.requires.view in
    takes _ _ (omega (
      arith,
      ap (λ (u : GreyView). u.parts) c.in-Ok-push_as.ensures.rule.0.view,
      ap (λ (u : GreyView). u.parts) v,
    ))

pub unreachable-requires-in-None : goal.unreachable-requires-in-None
unreachable-requires-in-None c =
    let v : worker_view c.push_as.new.self ≡ grey all_parts 1 unbound unbound (c.args.capacity ∷ []) [] =
    c.in-Ok.ensures.rule.0.view ∙ ap (λ (u : GreyView). grey u.parts u.pushers u.places u.capacity
    (u.pushed ++ c.args.capacity ∷ []) u.taken) c.requires.view in
    let w : worker_view c.push_as-2.new.self ≡ grey all_parts 1 unbound unbound
    (c.args.capacity ∷ c.args.places ∷ []) [] = c.in-Ok-push_as.ensures.rule.0.view
    ∙ ap (λ (u : GreyView). grey u.parts u.pushers u.places u.capacity (u.pushed ++ c.args.places ∷ []) u.taken)
    v in
    let same = even (worker_view c.push_as-2.new.self) c.in-None.ensures.rule.1 (ap (λ (u : GreyView). u.parts) w)
    (λ _. 1) in
    omega (arith, same, ap (λ (u : GreyView). count u.pushed) w, ap (λ (u : GreyView). count u.taken) w)

pub pop_as-requires-2-clause-fifo : goal.pop_as-requires-2-clause-fifo
pop_as-requires-2-clause-fifo c = λ _.
    let v : worker_view c.push_as.new.self ≡ grey all_parts 1 unbound unbound (c.args.capacity ∷ []) [] =
    c.in-Ok.ensures.rule.0.view ∙ ap (λ (u : GreyView). grey u.parts u.pushers u.places u.capacity
    (u.pushed ++ c.args.capacity ∷ []) u.taken) c.requires.view in
    let w : worker_view c.push_as-2.new.self ≡ grey all_parts 1 unbound unbound
    (c.args.capacity ∷ c.args.places ∷ []) [] = c.in-Ok-push_as.ensures.rule.0.view
    ∙ ap (λ (u : GreyView). grey u.parts u.pushers u.places u.capacity (u.pushed ++ c.args.places ∷ []) u.taken)
    v in
    let x : worker_view c.pop_as.new.self ≡ grey all_parts 1 unbound unbound (c.args.capacity ∷ c.args.places ∷ [])
    (c.in-Some.field-0 ∷ []) = c.in-Some.ensures.rule.view
    ∙ ap (λ (u : GreyView). grey u.parts u.pushers u.places u.capacity u.pushed (u.taken ++ c.in-Some.field-0 ∷ []))
    w in
    names _ _ (ap (λ (u : GreyView). u.parts) x)
    (omega (arith, ap (λ (u : GreyView). length u.pushed) x, ap (λ (u : GreyView). length u.taken) x))

pub unreachable-requires-in-None-pop_as : goal.unreachable-requires-in-None-pop_as
unreachable-requires-in-None-pop_as c =
    let v : worker_view c.push_as.new.self ≡ grey all_parts 1 unbound unbound (c.args.capacity ∷ []) [] =
    c.in-Ok.ensures.rule.0.view ∙ ap (λ (u : GreyView). grey u.parts u.pushers u.places u.capacity
    (u.pushed ++ c.args.capacity ∷ []) u.taken) c.requires.view in
    let w : worker_view c.push_as-2.new.self ≡ grey all_parts 1 unbound unbound
    (c.args.capacity ∷ c.args.places ∷ []) [] = c.in-Ok-push_as.ensures.rule.0.view
    ∙ ap (λ (u : GreyView). grey u.parts u.pushers u.places u.capacity (u.pushed ++ c.args.places ∷ []) u.taken)
    v in
    let x : worker_view c.pop_as.new.self ≡ grey all_parts 1 unbound unbound (c.args.capacity ∷ c.args.places ∷ [])
    (c.in-Some.field-0 ∷ []) = c.in-Some.ensures.rule.view
    ∙ ap (λ (u : GreyView). grey u.parts u.pushers u.places u.capacity u.pushed (u.taken ++ c.in-Some.field-0 ∷ []))
    w in
    let same = even (worker_view c.pop_as.new.self) c.in-None-pop_as.ensures.rule.1 (ap (λ (u : GreyView). u.parts) x)
    (λ _. 1) in
    omega (arith, same, ap (λ (u : GreyView). count u.pushed) x, ap (λ (u : GreyView). count u.taken) x)
