-- A type that is read is printed so, and a type that is printed is read.
-- For: `type_at`, golf_syntax_expressions/specs/TypeReader.antt; the laws `types_found` and `types_read`, src/laws.rt.
-- By: induction over the tree of a type; of what is read, cases of the token and the induction in Plans.antt.
use Rattle.std.proofs.Common.{◌≡◌, ℕ, suc, Bool, true, false, not, ◌&&◌, cond, List, [], ◌∷◌, length, refl, ap, sym}
use Rattle.std.proofs.Common.{subst, ◌∙◌}
use Rattle.std.specs.Prelude.{Option, Some, None}
use Rattle.std.specs.Str.{bytes_eq}
use Rattle.std.proofs.lemmas.Slice.Eq.{bytes_eq-Decides}
use Rattle.golf_lex_tokens.specs.declared.token.Token.{Token}
use Rattle.golf_lex_tokens.specs.declared.token.TokenKind.{TokenKind}
use Rattle.golf_lex_tokens.specs.declared.token.TokenKind.TheVariants as kinds
use Rattle.golf_lex_tokens.specs.declared.token.Punctuation.{Punctuation}
use Rattle.golf_lex_tokens.specs.declared.token.Punctuation.TheVariants as punctuations
use Rattle.golf_lex_tokens.specs.declared.token.Keyword.{Keyword}
use Rattle.golf_lex_tokens.specs.declared.token.Keyword.TheVariants as keywords
use Rattle.golf_syntax_trees.specs.declared.types.TypeExpr.{TypeExpr}
use Rattle.golf_syntax_trees.specs.declared.types.TypeExpr.TheVariants.{Named, Pointer, SyncPointer, Slice, Chan}
use Rattle.golf_syntax_trees.specs.declared.types.TypeExpr.TheVariants.{SendChan, ReceiveChan, EmptyStruct}
use Rattle.golf_syntax_trees.specs.Words as words
use Rattle.golf_syntax_trees.specs.Words.{Word}
use Rattle.golf_syntax_trees.specs.Types.{sync, print_type, TypeForm, type_form}
use Rattle.golf_syntax_expressions.specs.Plan.{◌>>=◌, run, given}
use Rattle.golf_syntax_expressions.specs.Front.{after, after_keyword, name_at}
use Rattle.golf_syntax_expressions.specs.TypeReader.{TypeMode, OfType, TypeTree, inside, pointer_to, pointer}
use Rattle.golf_syntax_expressions.specs.TypeReader.{empty_struct}
use Rattle.golf_syntax_expressions.specs.TypeReader.{chan_of, type_from_keyword, type_from_punctuation, type_from}
use Rattle.golf_syntax_expressions.specs.TypeReader.{type_plan, type_at}
use Rattle.golf_syntax_expressions.proofs.Plans.{bind_some, Keeps, keeps-given, reads-keeps}
use Rattle.golf_syntax_expressions.proofs.Fronts.{some-same, both, found, Spelt, nothing, kind-then, punctuation-then}
use Rattle.golf_syntax_expressions.proofs.Fronts.{keyword-then, name-then, first, ends, behind-punctuation}
use Rattle.golf_syntax_expressions.proofs.Fronts.{behind-keyword, behind-name, not-after}
use Rattle.golf_syntax_expressions.proofs.TypeShapes as shape
use Rattle.golf_syntax_expressions.proofs.TypeSteps.{type-starts}

-- whether an arrow come first
abbrev ArrowIs : Bool → Option (List Token) → Type 0
ArrowIs false o = o ≡ None
ArrowIs true o = (us : List Token) × (o ≡ Some us)

abbrev BeginsSo : TypeExpr → Type 0
BeginsSo x = (ts rest : List Token) → Spelt (print_type x) ts rest
    → ArrowIs (type_form x).arrow (after punctuations.Arrow ts)

begins-by : (x : TypeExpr) (ws : List Word) (f : TypeForm) → print_type x ≡ ws → type_form x ≡ f
    → ((ts rest : List Token) → Spelt ws ts rest → ArrowIs f.arrow (after punctuations.Arrow ts)) → BeginsSo x
begins-by x ws f p q k ts rest h = subst (λ (g : TypeForm). ArrowIs g.arrow (after punctuations.Arrow ts)) (sym q)
    (k ts rest (subst (λ vs. Spelt vs ts rest) p h))

begins : (x : TypeExpr) → BeginsSo x
begins = shape.each BeginsSo
    (λ n. begins-by (Named n) _ _ (shape.print-Named n) (shape.form-Named n)
    (λ ts rest h. not-after punctuations.Arrow (kinds.Name n) (λ us. refl) h))
    (λ n. begins-by (Pointer n) _ _ (shape.print-Pointer n) (shape.form-Pointer n)
    (λ ts rest h. not-after punctuations.Arrow (kinds.Punctuation punctuations.Star) (λ us. refl) h))
    (λ n. begins-by (SyncPointer n) _ _ (shape.print-SyncPointer n) (shape.form-SyncPointer n)
    (λ ts rest h. not-after punctuations.Arrow (kinds.Punctuation punctuations.Star) (λ us. refl) h))
    (λ t ih. begins-by (Slice t) _ _ (shape.print-Slice t) (shape.form-Slice t)
    (λ ts rest h. not-after punctuations.Arrow (kinds.Punctuation punctuations.OpenBracket) (λ us. refl) h))
    (λ t ih. begins-by (Chan t) _ _ (shape.print-Chan t) (shape.form-Chan t)
    (λ ts rest h. not-after punctuations.Arrow (kinds.Keyword keywords.Chan) (λ us. refl) h))
    (λ t ih. begins-by (SendChan t) _ _ (shape.print-SendChan t) (shape.form-SendChan t)
    (λ ts rest h. not-after punctuations.Arrow (kinds.Keyword keywords.Chan) (λ us. refl) h))
    (λ t ih. begins-by (ReceiveChan t) _ _ (shape.print-ReceiveChan t) (shape.form-ReceiveChan t)
    (λ ts rest h. let a = behind-punctuation punctuations.Arrow h in (a.0, a.1)))
    (begins-by EmptyStruct _ _ shape.print-EmptyStruct shape.form-EmptyStruct
    (λ ts rest h. not-after punctuations.Arrow (kinds.Keyword keywords.Struct) (λ us. refl) h))

no-arrow : (b : Bool) (o : Option (List Token)) → ArrowIs b o → o ≡ None → b ≡ false
no-arrow false o a e = refl
no-arrow true o a e = let same : Some a.0 ≡ None = sym a.1 ∙ e in cc

-- a well-formed type, in these tokens up to those that are left
pub record IsType (ts : List Token) (x : TypeExpr × List Token) : Type 0 where
  pub words : Spelt (print_type x.0) ts x.1
  pub good : (type_form x.0).good ≡ true

made : (x : TypeExpr) (ts us : List Token) (ws : List Word) (f : TypeForm) → print_type x ≡ ws → type_form x ≡ f
    → Spelt ws ts us → f.good ≡ true → IsType ts (x, us)
made x ts us ws f p q h g = record {
  words = subst (λ vs. Spelt vs ts us) (sym p) h;
  good = ap (λ (f : TypeForm). f.good) q ∙ g;
}

abbrev Sound : (m : TypeMode) → List Token → TypeTree m × List Token → Type 0
Sound m ts x = IsType ts x

module _ (t : Token) (ts : List Token) where
  abbrev Kept : (x : TypeExpr × List Token) → Type 0
  Kept x = IsType (t ∷ ts) x

  named-pointer : t.kind ≡ kinds.Punctuation punctuations.Star → (n : List ℕ) (us : List Token)
      → name_at ts ≡ Some (n, us) → IsType (t ∷ ts) (Pointer n, us)
  named-pointer is n us e = made (Pointer n) (t ∷ ts) us _ _ (shape.print-Pointer n) (shape.form-Pointer n)
      (kind-then t _ is (name-then n ts e nothing)) refl

  sync-pointer : t.kind ≡ kinds.Punctuation punctuations.Star → (us vs qs : List Token) (m : List ℕ)
      → name_at ts ≡ Some (sync, us) → after punctuations.Dot us ≡ Some vs → name_at vs ≡ Some (m, qs)
      → IsType (t ∷ ts) (SyncPointer m, qs)
  sync-pointer is us vs qs m e f g =
      made (SyncPointer m) (t ∷ ts) qs _ _ (shape.print-SyncPointer m) (shape.form-SyncPointer m)
      (kind-then t _ is (name-then sync ts e (punctuation-then punctuations.Dot us f (name-then m vs g nothing)))) refl

  pointer-sound : t.kind ≡ kinds.Punctuation punctuations.Star → (x : TypeExpr × List Token) → pointer ts ≡ Some x
      → IsType (t ∷ ts) x
  pointer-sound is x e =
      let b = bind_some (name_at ts) (λ n. cond (bytes_eq n.0 sync) (pointer_to n.0 n.1) (Some (Pointer n.0, n.1))) x
      e in
      at b.0.0 b.0.1 b.1 (bytes_eq b.0.0 sync) refl b.2
    where
      to : (n : List ℕ) (us : List Token) → n ≡ sync → name_at ts ≡ Some (n, us) → (o : Option (List Token))
          → after punctuations.Dot us ≡ o → elim o [
            | None ↦ Some (Pointer n, us)
            | Some vs ↦ name_at vs >>= λ m. Some
                (SyncPointer m.0, m.1)
          ] ≡ Some x → IsType (t ∷ ts) x
      to n us same f None g h = subst (IsType (t ∷ ts)) (some-same (Pointer n, us) x h) (named-pointer is n us f)
      to n us same f (Some vs) g h =
          let c = bind_some (name_at vs) (λ m. Some (SyncPointer m.0, m.1)) x h in
          subst (IsType (t ∷ ts)) (some-same (SyncPointer c.0.0, c.0.1) x c.2)
          (sync-pointer is us vs c.0.1 c.0.0 (f ∙ ap (λ m. Some (m, us)) same) g c.1)

      at : (n : List ℕ) (us : List Token) → name_at ts ≡ Some (n, us) → (b : Bool) → bytes_eq n sync ≡ b
          → cond b (pointer_to n us) (Some (Pointer n, us)) ≡ Some x → IsType (t ∷ ts) x
      at n us f false is_not h = subst (IsType (t ∷ ts)) (some-same (Pointer n, us) x h) (named-pointer is n us f)
      at n us f true is_sync h = to n us ((bytes_eq-Decides n sync).0 is_sync) f (after punctuations.Dot us) refl h

  empty-sound : t.kind ≡ kinds.Keyword keywords.Struct → (x : TypeExpr × List Token) → empty_struct ts ≡ Some x
      → IsType (t ∷ ts) x
  empty-sound is x e =
      let b = bind_some (after punctuations.OpenBrace ts)
      (λ us. after punctuations.CloseBrace us >>= λ vs. Some (EmptyStruct, vs)) x e in
      let c = bind_some (after punctuations.CloseBrace b.0) (λ vs. Some (EmptyStruct, vs)) x b.2 in
      subst (IsType (t ∷ ts)) (some-same (EmptyStruct, c.0) x c.2)
      (made EmptyStruct (t ∷ ts) c.0 _ _ shape.print-EmptyStruct shape.form-EmptyStruct
      (kind-then t _ is (punctuation-then punctuations.OpenBrace ts b.1
      (punctuation-then punctuations.CloseBrace b.0 c.1 nothing))) refl)

  keyword-sound : (w : Keyword) → t.kind ≡ kinds.Keyword w → Keeps Sound Kept (type_from_keyword w ts)
  keyword-sound keywords.Chan is = at (after punctuations.Arrow ts) refl
    where
      at : (o : Option (List Token)) → after punctuations.Arrow ts ≡ o → Keeps Sound Kept (chan_of ts o)
      at None e = λ x s.
          made (Chan x.0) (t ∷ ts) x.1 _ _ (shape.print-Chan x.0) (shape.form-Chan x.0) (kind-then t _ is s.words)
          (ap (λ b. b && not (type_form x.0).arrow) s.good
          ∙ ap not (no-arrow (type_form x.0).arrow (after punctuations.Arrow ts) (begins x.0 ts x.1 s.words) e))
      at (Some us) e = λ x s.
          made (SendChan x.0) (t ∷ ts) x.1 _ _ (shape.print-SendChan x.0) (shape.form-SendChan x.0)
          (kind-then t _ is (punctuation-then punctuations.Arrow ts e s.words)) s.good
  keyword-sound keywords.Struct is = found Kept (empty_struct ts) (empty-sound is)
  keyword-sound _ is = tt

  punctuation-sound : (m : Punctuation) → t.kind ≡ kinds.Punctuation m → Keeps Sound Kept (type_from_punctuation m ts)
  punctuation-sound punctuations.Star is = found Kept (pointer ts) (pointer-sound is)
  punctuation-sound punctuations.OpenBracket is =
      keeps-given Sound Kept (after punctuations.CloseBracket ts) (inside Slice) (λ us e x s.
      made (Slice x.0) (t ∷ ts) x.1 _ _ (shape.print-Slice x.0) (shape.form-Slice x.0)
      (kind-then t _ is (punctuation-then punctuations.CloseBracket ts e s.words)) s.good)
  punctuation-sound punctuations.Arrow is =
      keeps-given Sound Kept (after_keyword keywords.Chan ts) (inside ReceiveChan) (λ us e x s.
      made (ReceiveChan x.0) (t ∷ ts) x.1 _ _ (shape.print-ReceiveChan x.0) (shape.form-ReceiveChan x.0)
      (kind-then t _ is (keyword-then keywords.Chan ts e s.words)) s.good)
  punctuation-sound _ is = tt

  kind-sound : (k : TokenKind) → t.kind ≡ k → Keeps Sound Kept (type_from k ts)
  kind-sound (kinds.Name n) is = made (Named n) (t ∷ ts) ts _ _ (shape.print-Named n) (shape.form-Named n)
      (kind-then t _ is nothing) refl
  kind-sound (kinds.Keyword w) is = keyword-sound w is
  kind-sound (kinds.Punctuation m) is = punctuation-sound m is
  kind-sound _ is = tt

plan-sound : (m : TypeMode) (ts : List Token) → Keeps Sound (Sound m ts) (type_plan m ts)
plan-sound m [] = tt
plan-sound m (t ∷ ts) = kind-sound t ts t.kind refl

-- what is read is a type
pub type-sound : (ts : List Token) (x : TypeExpr × List Token) → type_at OfType ts ≡ Some x → IsType ts x
unfolding type_at
type-sound ts x e = reads-keeps Token TypeMode TypeTree type_plan Sound plan-sound (suc (length ts)) OfType ts x e

-- a type is read if no dot follows
abbrev IsRead : TypeExpr → Type 0
IsRead x = (type_form x).good ≡ true → (ts rest : List Token) → Spelt (print_type x) ts rest
    → after punctuations.Dot rest ≡ None → type_at OfType ts ≡ Some (x, rest)

read-by : (x : TypeExpr) (ws : List Word) (f : TypeForm) → print_type x ≡ ws → type_form x ≡ f →
    (f.good ≡ true → (ts rest : List Token) → Spelt ws ts rest → after punctuations.Dot rest ≡ None
    → type_at OfType ts ≡ Some (x, rest)) → IsRead x
read-by x ws f p q k good ts rest h dot =
    k (sym (ap (λ (f : TypeForm). f.good) q) ∙ good) ts rest (subst (λ vs. Spelt vs ts rest) p h) dot

type-first : {ws : List Word} {ts rest : List Token} (k : TokenKind) → Spelt (words.word k ∷ ws) ts rest
    → (us : List Token) × (type_at OfType ts ≡ run type_at (type_from k us)) × Spelt ws us rest
type-first {ws} {ts} {rest} k h = let f = first h in (f.1, ap (type_at OfType) f.2 ∙ type-starts f.0 f.1 k f.3, f.5)

pub type-complete : (x : TypeExpr) → IsRead x
type-complete = shape.each IsRead
    (λ n. read-by (Named n) _ _ (shape.print-Named n) (shape.form-Named n) (λ good ts rest h dot.
    let r = type-first (kinds.Name n) h in r.1 ∙ ap (λ us. Some (Named n, us)) (ends r.2)))
    (λ n. read-by (Pointer n) _ _ (shape.print-Pointer n) (shape.form-Pointer n) (λ good ts rest h dot.
    let r = type-first (kinds.Punctuation punctuations.Star) h in
    let a = behind-name n r.2 in
    r.1 ∙ ap (λ o. o >>= λ n. cond (bytes_eq n.0 sync) (pointer_to n.0 n.1) (Some (Pointer n.0, n.1)))
    (a.1 ∙ ap (λ us. Some (n, us)) (ends a.2)) ∙ either n rest dot (bytes_eq n sync)))
    (λ n. read-by (SyncPointer n) _ _ (shape.print-SyncPointer n) (shape.form-SyncPointer n) (λ good ts rest h dot.
    let r = type-first (kinds.Punctuation punctuations.Star) h in
    let a = behind-name sync r.2 in
    let b = behind-punctuation punctuations.Dot a.2 in
    let c = behind-name n b.2 in
    r.1 ∙ ap (λ o. o >>= λ n. cond (bytes_eq n.0 sync) (pointer_to n.0 n.1) (Some (Pointer n.0, n.1))) a.1
    ∙ ap (λ o. elim o [ None ↦ Some (Pointer sync, a.0) | Some us ↦ name_at us >>= λ m. Some (SyncPointer m.0, m.1) ])
    b.1
    ∙ ap (λ o. o >>= λ m. Some (SyncPointer m.0, m.1)) (c.1 ∙ ap (λ us. Some (n, us)) (ends c.2))))
    (λ t ih. read-by (Slice t) _ _ (shape.print-Slice t) (shape.form-Slice t) (λ good ts rest h dot.
    let r = type-first (kinds.Punctuation punctuations.OpenBracket) h in
    let a = behind-punctuation punctuations.CloseBracket r.2 in
    r.1 ∙ ap (λ o. run type_at (given o (inside Slice))) a.1
    ∙ ap (λ o. o >>= λ x. Some (Slice x.0, x.1)) (ih good a.0 rest a.2 dot)))
    (λ t ih. read-by (Chan t) _ _ (shape.print-Chan t) (shape.form-Chan t) (λ good ts rest h dot.
    let r = type-first (kinds.Keyword keywords.Chan) h in
    let g = both (type_form t).good (not (type_form t).arrow) good in
    let free = arrow-free (type_form t).arrow (after punctuations.Arrow r.0) g.1 (begins t r.0 rest r.2) in
    r.1 ∙ ap (λ o. run type_at (chan_of r.0 o)) free
    ∙ ap (λ o. o >>= λ x. Some (Chan x.0, x.1)) (ih g.0 r.0 rest r.2 dot)))
    (λ t ih. read-by (SendChan t) _ _ (shape.print-SendChan t) (shape.form-SendChan t) (λ good ts rest h dot.
    let r = type-first (kinds.Keyword keywords.Chan) h in
    let a = behind-punctuation punctuations.Arrow r.2 in
    r.1 ∙ ap (λ o. run type_at (chan_of r.0 o)) a.1
    ∙ ap (λ o. o >>= λ x. Some (SendChan x.0, x.1)) (ih good a.0 rest a.2 dot)))
    (λ t ih. read-by (ReceiveChan t) _ _ (shape.print-ReceiveChan t) (shape.form-ReceiveChan t) (λ good ts rest h dot.
    let r = type-first (kinds.Punctuation punctuations.Arrow) h in
    let a = behind-keyword keywords.Chan r.2 in
    r.1 ∙ ap (λ o. run type_at (given o (inside ReceiveChan))) a.1
    ∙ ap (λ o. o >>= λ x. Some (ReceiveChan x.0, x.1)) (ih good a.0 rest a.2 dot)))
    (read-by EmptyStruct _ _ shape.print-EmptyStruct shape.form-EmptyStruct (λ good ts rest h dot.
    let r = type-first (kinds.Keyword keywords.Struct) h in
    let a = behind-punctuation punctuations.OpenBrace r.2 in
    let b = behind-punctuation punctuations.CloseBrace a.2 in
    r.1 ∙ ap (λ o. o >>= λ us. after punctuations.CloseBrace us >>= λ vs. Some (EmptyStruct, vs)) a.1
    ∙ ap (λ o. o >>= λ vs. Some (EmptyStruct, vs)) (b.1 ∙ ap Some (ends b.2))))
  where
    either : (n : List ℕ) (us : List Token) → after punctuations.Dot us ≡ None → (b : Bool)
        → cond b (pointer_to n us) (Some (Pointer n, us)) ≡ Some (Pointer n, us)
    either n us dot true = ap (λ o. elim o [
      | None ↦ Some (Pointer n, us)
      | Some vs ↦ name_at vs >>= λ m. Some
          (SyncPointer m.0, m.1)
    ]) dot
    either n us dot false = refl

    arrow-free : (b : Bool) (o : Option (List Token)) → not b ≡ true → ArrowIs b o → o ≡ None
    arrow-free false o g a = a
    arrow-free true o g a = cc
