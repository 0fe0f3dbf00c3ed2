-- What two sinks got by one write more, after some writes.
-- For: `tell_answer`, src/top.rt; `tell_turns`, `tell_threads`, src/traces.rt; `Wrote`, specs/Means.antt
-- By: cases of whether the write failed; no induction
use Rattle.std.proofs.Common.{◌≡◌, ℕ, List, [], ◌∷◌, ◌++◌, inl, inr, refl, sym, ap, subst, ◌∙◌, append-nil}
use Rattle.std.proofs.Common.{append_assoc}
use Rattle.std.specs.Prelude.{Option}
use Rattle.std.specs.Io.KnownBytes.{Appends}
use Rattle.std.proofs.KnownBytes.{Appends-nil, Appends-trans}
use Rattle.golf_base.specs.Causes.{Rose, WritesPrefix}
use Rattle.golf_run_texts.specs.declared.status.Status.{Status}
use Rattle.golf_run_texts.specs.declared.status.Status.TheVariants as s
use Rattle.golf_run_texts.specs.Writes.{Write, out_bytes, err_bytes}
use Rattle.golf_run_texts.proofs.Writings.{out-append, err-append}
use Rattle.golf_run.specs.HasRun.{Sinks, sinks, GotWrites, IsSteady}
use Rattle.golf_command.specs.Ends.{EndsWith}
use Rattle.golf_explore_command.specs.Means.{Wrote}

-- nothing was written
pub nothing-written : (old : Sinks) → GotWrites [] old old
nothing-written old = (Appends-nil old.out, Appends-nil old.err)

pub still-steady : (old : Sinks) → IsSteady old old
still-steady old = record { out = refl; err = refl }

-- ---- after some writes

module _ (done : List Write) (old now : Sinks) (got : GotWrites done old now) (steady : IsSteady old now) where
  abbrev more-out : List ℕ → List Write
  more-out text = done ++ Write.ToOut text ∷ []

  abbrev more-err : List ℕ → List Write
  more-err text = done ++ Write.ToErr text ∷ []

  -- ---- one more write to standard error

  pub got-err : (err : Option (List ℕ)) (ef : ℕ) (text : List ℕ) → Appends now.err err text
      → GotWrites (more-err text) old (sinks now.out now.out_faults err ef)
  got-err err ef text a = (
    subst (Appends old.out now.out)
        (sym (append-nil (out_bytes done)) ∙ sym (out-append done (Write.ToErr text ∷ []))) got.0,
    subst (Appends old.err err)
        (ap (λ t. err_bytes done ++ t) (sym (append-nil text)) ∙ sym (err-append done (Write.ToErr text ∷ [])))
        (Appends-trans _ _ _ _ _ got.1 a),
  )

  pub err-whole : (err : Option (List ℕ)) (ef : ℕ) (status : Status) (text : List ℕ) → Appends now.err err text
      → ef ≡ now.err_faults → Wrote status (more-err text) status old (sinks now.out now.out_faults err ef)
  err-whole err ef status text a quiet =
      inl (refl, got-err err ef text a, record { out = steady.out; err = quiet ∙ steady.err })

  pub err-cut : (err : Option (List ℕ)) (ef : ℕ) (status : Status) (text : List ℕ) (later : List Write)
      → WritesPrefix now.err err text → Rose now.err_faults ef
      → Wrote status (done ++ Write.ToErr text ∷ later) s.WriteFault old (sinks now.out now.out_faults err ef)
  err-cut err ef status text later f rose = inr (
    refl,
    record {
      done = done;
      cut = Write.ToErr text;
      prefix = Write.ToErr f.0;
      later = later;
      order = refl;
      is_prefix = (f.1, f.2);
      got = got-err err ef f.0 f.3;
      failed = (steady.out, subst (λ n. Rose n ef) steady.err rose);
    },
  )

  -- the line of a cause
  pub ends : (err : Option (List ℕ)) (ef : ℕ) (status r : Status) (text : List ℕ)
      → EndsWith r status text now.err err now.err_faults ef
      → Wrote status (more-err text) r old (sinks now.out now.out_faults err ef)
  ends err ef status r text (inl e) =
      subst (λ x. Wrote status (more-err text) x old (sinks now.out now.out_faults err ef)) (sym e.0)
      (err-whole err ef status text e.1 e.2)
  ends err ef status r text (inr e) =
      subst (λ x. Wrote status (more-err text) x old (sinks now.out now.out_faults err ef)) (sym e.0)
      (err-cut err ef status text [] e.1 e.2)

  -- ---- one more write to standard output

  pub got-out : (out : Option (List ℕ)) (of : ℕ) (text : List ℕ) → Appends now.out out text
      → GotWrites (more-out text) old (sinks out of now.err now.err_faults)
  got-out out of text a = (
    subst (Appends old.out out)
        (ap (λ t. out_bytes done ++ t) (sym (append-nil text)) ∙ sym (out-append done (Write.ToOut text ∷ [])))
        (Appends-trans _ _ _ _ _ got.0 a),
    subst (Appends old.err now.err)
        (sym (append-nil (err_bytes done)) ∙ sym (err-append done (Write.ToOut text ∷ []))) got.1,
  )

  pub out-whole : (out : Option (List ℕ)) (of : ℕ) (status : Status) (text : List ℕ) → Appends now.out out text
      → of ≡ now.out_faults → Wrote status (more-out text) status old (sinks out of now.err now.err_faults)
  out-whole out of status text a quiet =
      inl (refl, got-out out of text a, record { out = quiet ∙ steady.out; err = steady.err })

  pub out-cut : (out : Option (List ℕ)) (of : ℕ) (status : Status) (text : List ℕ) → WritesPrefix now.out out text
      → Rose now.out_faults of
      → Wrote status (more-out text) s.WriteFault old (sinks out of now.err now.err_faults)
  out-cut out of status text f rose = inr (
    refl,
    record {
      done = done;
      cut = Write.ToOut text;
      prefix = Write.ToOut f.0;
      later = [];
      order = refl;
      is_prefix = (f.1, f.2);
      got = got-out out of f.0 f.3;
      failed = (subst (λ n. Rose n of) steady.out rose, steady.err);
    },
  )

  -- the line of a request that reads no file
  pub out-ends : (out : Option (List ℕ)) (of : ℕ) (status r : Status) (text : List ℕ)
      → EndsWith r status text now.out out now.out_faults of
      → Wrote status (more-out text) r old (sinks out of now.err now.err_faults)
  out-ends out of status r text (inl e) =
      subst (λ x. Wrote status (more-out text) x old (sinks out of now.err now.err_faults)) (sym e.0)
      (out-whole out of status text e.1 e.2)
  out-ends out of status r text (inr e) =
      subst (λ x. Wrote status (more-out text) x old (sinks out of now.err now.err_faults)) (sym e.0)
      (out-cut out of status text e.1 e.2)
