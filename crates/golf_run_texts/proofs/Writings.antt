-- What each sink got by some writes and then others.
-- For: `out_bytes`, `err_bytes` (golf_run_texts/specs/Writes.antt)
-- By: induction over the list of writes
use Rattle.std.proofs.Common.{◌≡◌, List, [], ◌∷◌, ◌++◌, refl, sym, ap, ◌∙◌, append_assoc}
use Rattle.golf_run_texts.specs.Writes.{Write, out_bytes, err_bytes}

pub out-append : (ws vs : List Write) → out_bytes (ws ++ vs) ≡ out_bytes ws ++ out_bytes vs
out-append [] vs = refl
out-append (Write.ToOut b ∷ ws) vs = ap (λ t. b ++ t) (out-append ws vs)
    ∙ sym (append_assoc b (out_bytes ws) (out_bytes vs))
out-append (Write.ToErr b ∷ ws) vs = out-append ws vs

pub err-append : (ws vs : List Write) → err_bytes (ws ++ vs) ≡ err_bytes ws ++ err_bytes vs
err-append [] vs = refl
err-append (Write.ToOut b ∷ ws) vs = err-append ws vs
err-append (Write.ToErr b ∷ ws) vs = ap (λ t. b ++ t) (err-append ws vs)
    ∙ sym (append_assoc b (err_bytes ws) (err_bytes vs))
