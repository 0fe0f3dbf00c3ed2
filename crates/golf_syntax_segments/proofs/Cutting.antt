-- How a list of tokens is cut.
-- For: `front_segment`, src/segments.rt
-- By: induction over the list of tokens
use Rattle.std.proofs.Common.{◌≡◌, ℕ, zero, suc, ◌<◌, ◌≤◌, Bool, true, false, cond, List, [], ◌∷◌, length, take, drop}
use Rattle.std.proofs.Common.{refl, ap, sym, subst, ◌∙◌, arith, ◌⊎◌, inl, inr}
use Rattle.std.proofs.lemmas.List.{take-append-drop}
use Rattle.golf_lex_tokens.specs.declared.token.Token.{Token}
use Rattle.golf_lex_tokens.specs.declared.token.TokenKind.{TokenKind}
use Rattle.golf_lex_tokens.specs.declared.token.TokenKind.TheVariants as kinds
use Rattle.golf_lex_tokens.specs.declared.token.Punctuation.{Punctuation}
use Rattle.golf_lex_tokens.specs.declared.token.Punctuation.TheVariants as punctuations
use Rattle.golf_syntax_trees.specs.Segments.{deeper, depth_behind, ends_segment, in_front, before_segment, segments}
use Rattle.golf_syntax_segments.specs.Cut.{front_length, CutsOff}

-- if a segment ends no bracket is open
ends-punctuation : (m : Punctuation) (depth : ℕ) → ends_segment (kinds.Punctuation m) depth ≡ true → deeper m depth ≡ 0
ends-punctuation punctuations.Semicolon zero h = refl
ends-punctuation punctuations.Semicolon (suc depth) h = cc
ends-punctuation _ depth h = cc

pub ends-shallow : (k : TokenKind) (depth : ℕ) → ends_segment k depth ≡ true → depth_behind k depth ≡ 0
ends-shallow (kinds.Punctuation m) depth h = ends-punctuation m depth h
ends-shallow _ depth h = cc

-- the first segment, and those after it
abbrev pub Front : ℕ → List Token → Type 0
Front depth ts = segments depth ts ≡ take (front_length depth ts) ts ∷ segments 0 (drop (front_length depth ts) ts)

ended : (t : Token) (ts : List Token) (depth : ℕ) (b : Bool) → ends_segment t.kind depth ≡ b
    → (b ≡ false → (ts ≡ []) ⊎ Front (depth_behind t.kind depth) ts) →
    before_segment b t (segments (depth_behind t.kind depth) ts) ≡ take
    (cond b 1 (suc (front_length (depth_behind t.kind depth) ts))) (t ∷ ts)
    ∷ segments 0 (drop (cond b 1 (suc (front_length (depth_behind t.kind depth) ts))) (t ∷ ts))
ended t ts depth true e h = ap (λ d. (t ∷ []) ∷ segments d ts) (ends-shallow t.kind depth e)
ended t ts depth false e h = elim (h refl) as (λ _. in_front t (segments (depth_behind t.kind depth) ts) ≡
    (t ∷ take (front_length (depth_behind t.kind depth) ts) ts)
    ∷ segments 0 (drop (front_length (depth_behind t.kind depth) ts) ts)) [
      | inl none ↦ nothing ts none
      | inr front ↦ ap (in_front t) front
    ]
  where
    nothing : (us : List Token) → us ≡ [] → in_front t (segments (depth_behind t.kind depth) us) ≡
        (t ∷ take (front_length (depth_behind t.kind depth) us) us)
        ∷ segments 0 (drop (front_length (depth_behind t.kind depth) us) us)
    nothing [] h = refl
    nothing (u ∷ us) h = cc

pub front : (t : Token) (ts : List Token) (depth : ℕ) → Front depth (t ∷ ts)
front t [] depth = ended t [] depth (ends_segment t.kind depth) refl (λ _. inl refl)
front t (u ∷ us) depth = ended t (u ∷ us) depth (ends_segment t.kind depth) refl
    (λ _. inr (front u us (depth_behind t.kind depth)))

pub front-is : (ts : List Token) → 0 < length ts
    → CutsOff ts (take (front_length 0 ts) ts) (drop (front_length 0 ts) ts)
front-is [] h = absurd (omega (arith, h))
front-is (t ∷ ts) h = record {
  whole = sym (take-append-drop (front_length 0 (t ∷ ts)) (t ∷ ts));
  segments = front t ts 0;
}

pub length-within : (depth : ℕ) (ts : List Token) → front_length depth ts ≤ length ts
length-within depth [] = omega arith
length-within depth (t ∷ ts) = by (ends_segment t.kind depth) (length-within (depth_behind t.kind depth) ts)
  where
    by : (b : Bool) → front_length (depth_behind t.kind depth) ts ≤ length ts
        → cond b 1 (suc (front_length (depth_behind t.kind depth) ts)) ≤ suc (length ts)
    by true h = omega arith
    by false h = omega arith

pub length-some : (depth : ℕ) (ts : List Token) → 0 < length ts → 0 < front_length depth ts
length-some depth [] h = h
length-some depth (t ∷ ts) h = by (ends_segment t.kind depth)
  where
    by : (b : Bool) → 0 < cond b 1 (suc (front_length (depth_behind t.kind depth) ts))
    by true = omega arith
    by false = omega arith

pub cut-is : (ts front back : List Token) (n : ℕ) → n ≡ front_length 0 ts → 0 < length ts → front ≡ take n ts
    → back ≡ drop n ts → CutsOff ts front back
cut-is ts front back n is some f b =
    subst (λ us. CutsOff ts us back) (sym (f ∙ ap (λ m. take m ts) is))
    (subst (λ us. CutsOff ts (take (front_length 0 ts) ts) us) (sym (b ∙ ap (λ m. drop m ts) is)) (front-is ts some))
