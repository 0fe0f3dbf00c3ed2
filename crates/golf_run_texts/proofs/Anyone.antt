-- Whether a report names a goroutine, report by report.
-- For: `anyone_reported` (golf_run_texts/specs/Output.antt) and `anyone_reported` (src/runs.rt)
-- By: induction over the list of reports
use Rattle.std.proofs.Common.{◌≡◌, ℕ, zero, suc, ◌+◌, ◌<◌, ◌||◌, true, false, List, [], ◌∷◌, length, take, get_or, refl}
use Rattle.std.proofs.Common.{sym, ap, ap₂, ◌∙◌, arith}
use Rattle.std.proofs.lemmas.Bool.{or_parts}
use Rattle.golf_data.specs.declared.report.Entry.{Entry}
use Rattle.golf_data.specs.declared.report.Report.{Report}
use Rattle.golf_run_texts.specs.Output.{names_someone, anyone_reported}

some-named : (es : List Entry) → (es ≡ [] → ⊥) → names_someone es ≡ true
some-named [] e = absurd (e refl)
some-named (e ∷ es) h = refl

none-named : (es : List Entry) → es ≡ [] → names_someone es ≡ false
none-named es e = ap names_someone e

-- none of the first reports names one, and the next does not either
more : (rs : List Report) (i : ℕ) (d : Report) → anyone_reported (take i rs) ≡ false
    → names_someone (get_or rs i d).reported ≡ false → anyone_reported (take (suc i) rs) ≡ false
more [] i d a b = refl
more (r ∷ rs) zero d a b = ap (λ x. x || false) b
more (r ∷ rs) (suc i) d a b = let p = or_parts (names_someone r.reported) (anyone_reported (take i rs)) a in ap₂
    (λ x y. x || y) p.0 (more rs i d p.1 b)

pub none-more : (rs : List Report) (i : ℕ) (d : Report) → anyone_reported (take i rs) ≡ false
    → (get_or rs i d).reported ≡ [] → anyone_reported (take (i + 1) rs) ≡ false
none-more rs i d a b =
    let next : i + 1 ≡ suc i = omega arith in
    ap (λ n. anyone_reported (take n rs)) next ∙ more rs i d a (none-named (get_or rs i d).reported b)

here : (rs : List Report) (i : ℕ) (d : Report) → i < length rs → names_someone (get_or rs i d).reported ≡ true
    → anyone_reported rs ≡ true
here [] i d w a = absurd (omega arith)
here (r ∷ rs) zero d w a = ap (λ x. x || anyone_reported rs) a
here (r ∷ rs) (suc i) d w a = let later =
    here rs i d (omega arith) a in elim (names_someone r.reported) as (λ b. (b || anyone_reported rs) ≡ true) [
      | true ↦
          refl
      | false ↦ later
    ]

-- one that names someone
pub one-named : (rs : List Report) (i : ℕ) (d : Report) → i < length rs → ((get_or rs i d).reported ≡ [] → ⊥)
    → true ≡ anyone_reported rs
one-named rs i d w h = sym (here rs i d w (some-named (get_or rs i d).reported h))
