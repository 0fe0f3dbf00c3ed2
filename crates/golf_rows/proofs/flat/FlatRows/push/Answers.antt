use Rattle.std.proofs.Common.{◌+◌, ◌++◌, ◌∷◌, [], ℕ, List, length, take, ap, ap₂, sym, subst, subst₂, ◌∙◌}
use Rattle.std.proofs.lemmas.Result.{err_from_is_err_and}
use Rattle.golf_rows.specs.Ends.{rows_from, AreEnds}
use Rattle.golf_rows.proofs.Places.{cut-same, push-same, start-last}
use Rattle.golf_rows.proofs.flat.FlatRows.push.Goals as goal

pub invariant_of-self : goal.invariant_of-self
invariant_of-self c =
    let r = c.self.inside in
    let start = start-last r.ends c.as_slice.result.now c.len.result c.start_of-start.result c.start_of-start.ensures
    c.as_slice.ensures c.len.ensures in
    let is = c.in_err-extend_from_slice.ensures.err ∙ c.truncate.ensures ∙ ap (λ (n : ℕ). take n r.members) start in
    subst (λ (members : List ℕ). AreEnds 0 r.ends (length members)) (sym is)
    (cut-same r.ends r.members c.self.invariant).1

pub returns-in_err-extend_from_slice-clause-err : goal.returns-in_err-extend_from_slice-clause-err
returns-in_err-extend_from_slice-clause-err c =
    let r = c.self.inside in
    let start = start-last r.ends c.as_slice.result.now c.len.result c.start_of-start.result c.start_of-start.ensures
    c.as_slice.ensures c.len.ensures in
    let is = c.in_err-extend_from_slice.ensures.err ∙ c.truncate.ensures ∙ ap (λ (n : ℕ). take n r.members) start in
    let p = err_from_is_err_and c.from_residual-in_err-extend_from_slice.result
    c.from_residual-in_err-extend_from_slice.ensures.1 in
    rw p.1 (ap (λ (members : List ℕ). rows_from 0 r.ends members) is ∙ (cut-same r.ends r.members c.self.invariant).2
    ∙ c.self.view_is)

pub invariant_of-self-in_err-push : goal.invariant_of-self-in_err-push
invariant_of-self-in_err-push c =
    let r = c.self.inside in
    let start = start-last r.ends c.as_slice.result.now c.len.result c.start_of-start.result c.start_of-start.ensures
    c.as_slice.ensures c.len.ensures in
    let is = c.in_ok-extend_from_slice.ensures.ok
    ∙ ap (λ (members : List ℕ). members ++ c.args.row.now)
    (c.truncate.ensures ∙ ap (λ (n : ℕ). take n r.members) start) in
    let end = c.in_ok-end.ensures ∙ ap (λ (n : ℕ). n + length c.args.row.now) start in
    subst₂ (λ (ends members : List ℕ). AreEnds 0 ends (length members)) (sym c.in_err-push.ensures.err) (sym is)
    (push-same r.ends r.members c.args.row.now c.in_ok-end.end c.self.invariant end).0

pub returns-in_err-push-clause-err : goal.returns-in_err-push-clause-err
returns-in_err-push-clause-err c =
    let r = c.self.inside in
    let start = start-last r.ends c.as_slice.result.now c.len.result c.start_of-start.result c.start_of-start.ensures
    c.as_slice.ensures c.len.ensures in
    let is = c.in_ok-extend_from_slice.ensures.ok
    ∙ ap (λ (members : List ℕ). members ++ c.args.row.now)
    (c.truncate.ensures ∙ ap (λ (n : ℕ). take n r.members) start) in
    let end = c.in_ok-end.ensures ∙ ap (λ (n : ℕ). n + length c.args.row.now) start in
    let p = err_from_is_err_and c.from_residual-in_err-push.result c.from_residual-in_err-push.ensures.1 in
    rw p.1 (ap₂ (λ (ends members : List ℕ). rows_from 0 ends members) c.in_err-push.ensures.err is
    ∙ (push-same r.ends r.members c.args.row.now c.in_ok-end.end c.self.invariant end).1 ∙ c.self.view_is)

pub invariant_of-self-2 : goal.invariant_of-self-2
invariant_of-self-2 c =
    let r = c.self.inside in
    let start = start-last r.ends c.as_slice.result.now c.len.result c.start_of-start.result c.start_of-start.ensures
    c.as_slice.ensures c.len.ensures in
    let is = c.in_ok-extend_from_slice.ensures.ok
    ∙ ap (λ (members : List ℕ). members ++ c.args.row.now)
    (c.truncate.ensures ∙ ap (λ (n : ℕ). take n r.members) start) in
    let end = c.in_ok-end.ensures ∙ ap (λ (n : ℕ). n + length c.args.row.now) start in
    subst₂ (λ (ends members : List ℕ). AreEnds 0 ends (length members)) (sym c.in_ok-push.ensures.ok) (sym is)
    (push-same r.ends r.members c.args.row.now c.in_ok-end.end c.self.invariant end).2

pub returns-clause-ok : goal.returns-clause-ok
returns-clause-ok c =
    let r = c.self.inside in
    let start = start-last r.ends c.as_slice.result.now c.len.result c.start_of-start.result c.start_of-start.ensures
    c.as_slice.ensures c.len.ensures in
    let is = c.in_ok-extend_from_slice.ensures.ok
    ∙ ap (λ (members : List ℕ). members ++ c.args.row.now)
    (c.truncate.ensures ∙ ap (λ (n : ℕ). take n r.members) start) in
    let end = c.in_ok-end.ensures ∙ ap (λ (n : ℕ). n + length c.args.row.now) start in
    ap₂ (λ (ends members : List ℕ). rows_from 0 ends members) c.in_ok-push.ensures.ok is
    ∙ (push-same r.ends r.members c.args.row.now c.in_ok-end.end c.self.invariant end).3
    ∙ ap (λ (rows : List (List ℕ)). rows ++ c.args.row.now ∷ []) c.self.view_is
