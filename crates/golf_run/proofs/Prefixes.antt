-- What follows from where the writes of a run were cut: each sink got a prefix of its text.
-- For: `FaultsLeavePrefixes`, specs/Laws.antt
-- By: cases of the sink of the write that was cut; no induction
use Rattle.std.proofs.Common.{◌≡◌, ℕ, List, [], ◌∷◌, ◌++◌, sym, ap, ◌∙◌, append_assoc, append-nil}
use Rattle.golf_data.specs.declared.code.Code.{Code}
use Rattle.golf_run_schedules.specs.declared.options.RunOptions.{RunOptions}
use Rattle.golf_run_texts.specs.Writes.{Write, out_bytes, err_bytes, writes_of}
use Rattle.golf_run.specs.declared.fault.RunFault.TheVariants as faults
use Rattle.golf_run.specs.HasRun.{Sinks, IsPrefixOf, WasCut, WasStopped}
use Rattle.golf_run.specs.Laws.{GotPrefixes, FaultsLeavePrefixes}
use Rattle.golf_run_texts.proofs.Writings.{out-append, err-append}
use Rattle.golf_run.proofs.Writing.{out-whole, err-whole}

-- a text that begins so
abbrev Begins : List ℕ → List ℕ → Type 0
Begins prefix text = (more : List ℕ) × (text ≡ prefix ++ more)

joined : (done prefix more text : List ℕ) → text ≡ done ++ (prefix ++ more) → (start : List ℕ) → start ≡ done ++ prefix
    → text ≡ start ++ more
joined done prefix more text e start s = e ∙ sym (append_assoc done prefix more) ∙ ap (λ t. t ++ more) (sym s)

module _ (done later : List Write) where
  out-begins : (prefix cut : Write) → IsPrefixOf prefix cut
      → Begins (out_bytes (done ++ prefix ∷ [])) (out_bytes (done ++ cut ∷ later))
  out-begins (Write.ToOut f) (Write.ToOut b) (rest, e) = (
    rest ++ out_bytes later,
    joined (out_bytes done) (f ++ []) (rest ++ out_bytes later) _
        (out-append done (Write.ToOut b ∷ later) ∙ ap (λ t. out_bytes done ++ (t ++ out_bytes later)) e
        ∙ ap (λ t. out_bytes done ++ t) (append_assoc f rest (out_bytes later)
        ∙ ap (λ t. t ++ (rest ++ out_bytes later)) (sym (append-nil f)))) _ (out-append done (Write.ToOut f ∷ [])),
  )
  out-begins (Write.ToErr f) (Write.ToErr b) h = (
    out_bytes later,
    joined (out_bytes done) [] (out_bytes later) _ (out-append done (Write.ToErr b ∷ later)) _
        (out-append done (Write.ToErr f ∷ [])),
  )
  out-begins (Write.ToOut f) (Write.ToErr b) h = absurd h
  out-begins (Write.ToErr f) (Write.ToOut b) h = absurd h

  err-begins : (prefix cut : Write) → IsPrefixOf prefix cut
      → Begins (err_bytes (done ++ prefix ∷ [])) (err_bytes (done ++ cut ∷ later))
  err-begins (Write.ToErr f) (Write.ToErr b) (rest, e) = (
    rest ++ err_bytes later,
    joined (err_bytes done) (f ++ []) (rest ++ err_bytes later) _
        (err-append done (Write.ToErr b ∷ later) ∙ ap (λ t. err_bytes done ++ (t ++ err_bytes later)) e
        ∙ ap (λ t. err_bytes done ++ t) (append_assoc f rest (err_bytes later)
        ∙ ap (λ t. t ++ (rest ++ err_bytes later)) (sym (append-nil f)))) _ (err-append done (Write.ToErr f ∷ [])),
  )
  err-begins (Write.ToOut f) (Write.ToOut b) h = (
    err_bytes later,
    joined (err_bytes done) [] (err_bytes later) _ (err-append done (Write.ToOut b ∷ later)) _
        (err-append done (Write.ToOut f ∷ [])),
  )
  err-begins (Write.ToOut f) (Write.ToErr b) h = absurd h
  err-begins (Write.ToErr f) (Write.ToOut b) h = absurd h

module _ (code : Code) (options : RunOptions) (old new : Sinks) where
  cut-prefixes : WasCut (writes_of code options) old new → GotPrefixes code options old new
  cut-prefixes w =
      let o = out-begins w.done w.later w.prefix w.cut w.is_prefix in
      let e = err-begins w.done w.later w.prefix w.cut w.is_prefix in
      record {
        out = (
          out_bytes (w.done ++ w.prefix ∷ []),
          o.0,
          sym (out-whole code options) ∙ ap out_bytes w.order ∙ o.1,
          w.got.0,
        );
        err = (
          err_bytes (w.done ++ w.prefix ∷ []),
          e.0,
          sym (err-whole code options) ∙ ap err_bytes w.order ∙ e.1,
          w.got.1,
        );
      }

  stopped-prefixes : WasStopped (writes_of code options) old new → GotPrefixes code options old new
  stopped-prefixes w = record {
    out = (
      out_bytes w.done,
      out_bytes w.later,
      sym (out-whole code options) ∙ ap out_bytes w.order
          ∙ out-append w.done w.later,
      w.got.0,
    );
    err = (
      err_bytes w.done,
      err_bytes w.later,
      sym (err-whole code options) ∙ ap err_bytes w.order
          ∙ err-append w.done w.later,
      w.got.1,
    );
  }

pub prefixes : FaultsLeavePrefixes
prefixes faults.Write code options old new w = cut-prefixes code options old new w
prefixes faults.Memory code options old new w = stopped-prefixes code options old new w
