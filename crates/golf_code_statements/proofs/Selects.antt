-- The clauses of a `select` one after the other are its code.
-- For: `select_at` and `clauses_at`, src/statements.rt.
-- By: induction over the list of clauses.
use Rattle.std.proofs.Common.{◌≡◌, ℕ, suc, ◌+◌, ◌<◌, List, [], ◌∷◌, ◌++◌, length, map, drop, get_or, add-one, ap, sym}
use Rattle.std.proofs.Common.{◌∙◌}
use Rattle.std.proofs.Math.Seq.{drop-cons}
use Rattle.golf_check_types.specs.declared.facts.Fact.{Fact}
use Rattle.golf_code_layout.specs.Piece.{Piece, all}
use Rattle.golf_code_of.specs.Selects.{in_clause}
use Rattle.golf_code_layout.specs.declared.emitted.Emitted.{Emitted}
use Rattle.golf_code_layout.specs.declared.emitted.Emitted.TheVariants as emit
use Rattle.golf_code_layout.specs.Emission.{onto}
use Rattle.golf_code_facts.specs.Selects.{ClauseBy, choice, clauses_lay, select_lay}
use Rattle.golf_code_expressions.specs.declared.writer.Draft.{Draft}
use Rattle.golf_code_expressions.specs.declared.writer.Writer.{Writer}
use Rattle.golf_code_statements.specs.declared.targets.Targets.{Targets}
use Rattle.golf_code_statements.specs.Lays.{around, with_laid, after}
use Rattle.golf_code_statements.specs.Clauses.{opened, ended, leaving, with_clauses}
use Rattle.golf_code_statements.proofs.Seams.{written, quiet, made_twice}

-- with these parts
abbrev marked : List Fact → Draft → List Emitted → Writer
marked fs d ms = written fs (record d { emitted = ms })

-- the clauses after p, with what was there before
pub clauses_are : (p : Piece) (cs : List ClauseBy) (u : Targets) (fs : List Fact) (d : Draft) (ms : List Emitted)
    → with_clauses cs u (marked fs d (onto (opened (length cs) ms) p)) ≡ after (marked fs d ms)
    (clauses_lay p cs (around (marked fs d ms) u) fs)
clauses_are p [] u fs d ms = quiet (marked fs d ms) p fs
clauses_are p (c ∷ cs) u fs d ms =
    let a = around (marked fs d ms) u in
    let x = c.lay (in_clause (length cs) a) fs in
    let q = all (Piece.Block p ∷ x.laid.piece ∷ Piece.Exit c.line (length cs) ∷ []) in
    let e = with_laid d x.laid in
    let rest = clauses_lay q cs (around (marked x.left e ms) u) x.left in
    clauses_are q cs u x.left e ms
    ∙ ap (written rest.left) (made_twice d (onto ms rest.laid.piece) x.laid.made rest.laid.made)

-- a block is emitted, then the blocks of the clauses; the choice is written, then the clauses; last the end is emitted
pub record WritesSelect (l : ℕ) (cs : List ClauseBy) (u : Targets) (w chosen written : Writer)
    (block blocks ended : List Emitted) : Type 0 where
  pub block_is : block ≡ w.draft.emitted ++ emit.Block ∷ []
  pub blocks_are : blocks ≡ opened (length cs) block
  pub chosen_is : chosen ≡ marked w.facts w.draft (onto blocks (choice l cs w.facts))
  pub written_is : written ≡ with_clauses cs u chosen
  pub ended_is : ended ≡ written.draft.emitted ++ emit.End ∷ []

pub select_lays : {l : ℕ} {cs : List ClauseBy} {u : Targets} {w w3 w4 : Writer} {m1 m2 m5 : List Emitted}
    → WritesSelect l cs u w w3 w4 m1 m2 m5
    → written w4.facts (record w4.draft { emitted = m5 }) ≡ after w (select_lay l cs (around w u) w.facts)
select_lays {l} {cs} {u} {w} {w3} {w4} {m1} {m2} {m5} how =
    let begin = w.draft.emitted ++ emit.Block ∷ [] in
    let p = choice l cs w.facts in
    ap (λ ms. written w4.facts (record w4.draft { emitted = ms })) how.ended_is
    ∙ ap (λ (v : Writer). written v.facts (record v.draft { emitted = v.draft.emitted ++ emit.End ∷ [] })) (
    how.written_is
    ∙ ap (with_clauses cs u) (how.chosen_is
    ∙ ap (λ ms. marked w.facts w.draft (onto ms p)) (how.blocks_are ∙ ap (opened (length cs)) how.block_is))
    ∙ clauses_are p cs u w.facts w.draft begin)

-- the end of a block is emitted, the clause is written with its targets, then the exit past the later blocks
pub record WritesClause (later : ℕ) (c : ClauseBy) (u inner : Targets) (w written : Writer)
    (ended left : List Emitted) : Type 0 where
  pub inner_is : inner ≡ record { breaks = later; continues = u.continues + (later + 1) }
  pub ended_is : ended ≡ w.draft.emitted ++ emit.End ∷ []
  pub written_is : written ≡ after (marked w.facts w.draft ended) (c.lay (around w inner) w.facts)
  pub left_is : left ≡ onto written.draft.emitted (Piece.Exit c.line later)

-- one clause and then the others
pub clause_step : {later : ℕ} {c : ClauseBy} {u inner : Targets} {w w2 : Writer} {m1 m3 : List Emitted}
    (cs : List ClauseBy) → later ≡ length cs → WritesClause later c u inner w w2 m1 m3
    → with_clauses cs u (marked w2.facts w2.draft m3) ≡ with_clauses (c ∷ cs) u w
clause_step {later} {c} {u} {inner} {w} {w2} {m1} {m3} cs counted how =
    ap (with_clauses cs u) (
    ap (marked w2.facts w2.draft) (how.left_is ∙ ap (λ k. onto w2.draft.emitted (Piece.Exit c.line k)) counted)
    ∙ ap (leaving c.line (length cs)) (
    how.written_is
    ∙ ap (λ ms. after (marked w.facts w.draft ms) (c.lay (around w inner) w.facts)) how.ended_is
    ∙ ap (λ i. after (ended w) (c.lay (around w i) w.facts)) (how.inner_is ∙ ap inside counted)))
  where
    inside : ℕ → Targets
    inside k = record { breaks = k; continues = u.continues + (k + 1) }

-- what is left from one place on
pub left_from : {A B : Type 0} (f : A → B) (xs : List A) (i : ℕ) (x : A) → i < length xs → x ≡ get_or xs i x
    → map f (drop i xs) ≡ f x ∷ map f (drop (i + 1) xs)
left_from f xs i x within is =
    ap (map f) (drop-cons xs i x within) ∙ ap (λ y. f y ∷ map f (drop (suc i) xs)) (sym is)
    ∙ ap (λ n. f x ∷ map f (drop n xs)) (sym (add-one i))
