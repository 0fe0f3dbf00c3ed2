-- What is told of a sleeper that has a reason.
-- For: `reached`, src/explanation.rt; `reached_at`, specs/Explanations.antt
-- By: cases of the reason; induction over the list of entries
use Rattle.std.proofs.Common.{◌≡◌, ℕ, zero, suc, List, [], ◌∷◌, ◌++◌, get_or, Some, None, refl, sym, ap, ◌∙◌}
use Rattle.std.specs.Prelude.{Option, slice_get, unwrap_or}
use Rattle.golf_data.specs.declared.report.Entry.{Entry}
use Rattle.golf_model.specs.declared.graph.GraphParts.{GraphParts}
use Rattle.golf_cert.specs.ComputedLevels.{reason_in}
use Rattle.golf_cert.specs.Levels.{IsReason}
use Rattle.golf_why.specs.Members.{members_before}
use Rattle.golf_why.specs.Explanations.{reached_by, reached_at}

-- nothing of one that has none
pub none-told : (g : GraphParts) (k : ℕ) (o : Option Entry) → reason_in g k ≡ [] → [] ≡ reached_at g k o
none-told g k None h = refl
none-told g k (Some e) h = ap (reached_by g e) (sym h)

told-by : (g : GraphParts) (e : Entry) (places before : List ℕ) (p : ℕ) → places ≡ before ++ p ∷ []
    → reached_by g e places ≡ record {
      goroutine = e.goroutine;
      wait = e.wait;
      line = e.line;
      by = members_before g places;
    } ∷ []
told-by g e [] [] p h = cc
told-by g e [] (b ∷ bs) p h = cc
told-by g e (q ∷ qs) before p h = refl

pub one-told : (g : GraphParts) (k place : ℕ) (entries : List (Option Entry)) (e : Entry) (places : List ℕ)
    → unwrap_or (slice_get entries k) None ≡ Some e → IsReason g place places → places ≡ reason_in g k
    → record { goroutine = e.goroutine; wait = e.wait; line = e.line; by = members_before g places }
    ∷ [] ≡ reached_at g k (unwrap_or (slice_get entries k) None)
one-told g k place entries e places here r is =
    sym (told-by g e places r.ends.0 place r.ends.1) ∙ ap (reached_by g e) is ∙ ap (reached_at g k) (sym here)

pub at-is : (entries : List (Option Entry)) (k : ℕ) → unwrap_or (slice_get entries k) None ≡ get_or entries k None
at-is [] k = refl
at-is (e ∷ es) zero = refl
at-is (e ∷ es) (suc k) = at-is es k

pub none-of : (o : Option Entry) → ((e : Entry) → o ≡ Some e → ⊥) → o ≡ None
none-of None h = refl
none-of (Some e) h = absurd (h e refl)
