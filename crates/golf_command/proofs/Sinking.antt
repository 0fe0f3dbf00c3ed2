-- What sinks got by one write after another, and by the line of a cause.
-- For: `write_texts`, `write_told`, src/texts.rt; `Says`, specs/Means.antt
-- By: cases of the write and of what the sinks have; no induction
use Rattle.std.proofs.Common.{ℕ, List, [], ◌∷◌, ◌++◌, refl, sym, subst, ◌∙◌, inl, inr, append-nil}
use Rattle.std.specs.Prelude.{Option}
use Rattle.std.specs.Io.KnownBytes.{Appends}
use Rattle.std.proofs.KnownBytes.{Appends-nil, Appends-trans}
use Rattle.golf_base.specs.Causes.{Rose, WritesPrefix}
use Rattle.golf_run_texts.specs.declared.status.Status.{Status}
use Rattle.golf_run_texts.specs.declared.status.Status.TheVariants as s
use Rattle.golf_run_texts.specs.Writes.{Write, out_bytes, err_bytes}
use Rattle.golf_run_texts.proofs.Writings.{out-append, err-append}
use Rattle.golf_run.specs.HasRun.{Sinks, sinks, GotWrites, HasFailed, IsSteady}
use Rattle.golf_command.specs.Ends.{EndsWith}
use Rattle.golf_command.specs.Means.{Breaks, Says, SinkCauses}

-- some writes and then others
pub gets-more : (a b c : Sinks) (xs ys : List Write) → GotWrites xs a b → GotWrites ys b c → GotWrites (xs ++ ys) a c
gets-more a b c xs ys first more = (
  subst (Appends a.out c.out) (sym (out-append xs ys))
      (Appends-trans a.out b.out c.out (out_bytes xs) (out_bytes ys) first.0 more.0),
  subst (Appends a.err c.err) (sym (err-append xs ys))
      (Appends-trans a.err b.err c.err (err_bytes xs) (err_bytes ys) first.1 more.1),
)

fails-later : (cut : Write) (a b c : Sinks) → IsSteady a b → HasFailed cut b c → HasFailed cut a c
fails-later (Write.ToOut bytes) a b c steady f = (subst (λ n. Rose n c.out_faults) steady.out f.0, f.1 ∙ steady.err)
fails-later (Write.ToErr bytes) a b c steady f = (f.0 ∙ steady.out, subst (λ n. Rose n c.err_faults) steady.err f.1)

-- a write that fails after others
pub breaks-later : (a b c : Sinks) (done : List Write) (cut : Write) → GotWrites done a b → IsSteady a b
    → Breaks b c [] cut → Breaks a c done cut
breaks-later a b c done cut first steady h =
    record {
      prefix = h.prefix;
      is_prefix = h.is_prefix;
      got = gets-more a b c done (h.prefix ∷ []) first h.got;
      failed = fails-later cut a b c steady h.failed;
    }

-- a write that fails raises a count
pub some-rose : (cut : Write) (a b : Sinks) → HasFailed cut a b → SinkCauses s.WriteFault a b
some-rose (Write.ToOut bytes) a b f = inl f.0
some-rose (Write.ToErr bytes) a b f = inr f.1

-- ---- the line of a cause

module _ (out : Option (List ℕ)) (of : ℕ) (err err' : Option (List ℕ)) (ef ef' : ℕ) where
  abbrev old : Sinks
  old = sinks out of err ef

  abbrev new : Sinks
  new = sinks out of err' ef'

  one-line : (text : List ℕ) → Appends err err' text → GotWrites (Write.ToErr text ∷ []) old new
  one-line text written = (Appends-nil out, subst (Appends err err') (sym (append-nil text)) written)

  line-breaks : (text : List ℕ) → WritesPrefix err err' text → Rose ef ef' → Breaks old new [] (Write.ToErr text)
  line-breaks text f rose = record {
    prefix = Write.ToErr f.0;
    is_prefix = (f.1, f.2);
    got = one-line f.0 f.3;
    failed = (refl, rose);
  }

  pub says : (status r : Status) (text : List ℕ) → EndsWith r status text err err' ef ef' → Says status text r old new
  says status r text (inl e) = inl (e.0, one-line text e.1, record { out = refl; err = e.2 })
  says status r text (inr e) = inr (e.0, line-breaks text e.1 e.2)
