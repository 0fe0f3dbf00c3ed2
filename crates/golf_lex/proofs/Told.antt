-- Keywords are told from names.
-- For: `keyword`, src/words.rt; `keyword_of`, golf_lex/specs/Words.antt.
-- By: induction over the list of keywords that is searched.
use Rattle.std.proofs.Common.{◌≡◌, ◌≢◌, ℕ, Bool, true, false, cond, List, [], ◌∷◌, refl, sym, ap, ◌∙◌}
use Rattle.std.specs.Prelude.{Some, None, find}
use Rattle.std.specs.Str.{bytes_eq}
use Rattle.std.proofs.lemmas.Slice.Eq.{bytes_eq-Decides}
use Rattle.golf_lex_tokens.specs.declared.token.Keyword.{Keyword}
use Rattle.golf_lex_tokens.specs.declared.token.Keyword.TheVariants as keywords
use Rattle.golf_lex_tokens.specs.Spelling.{keyword_text}
use Rattle.golf_lex.specs.Words.{keyword_of}
use Rattle.golf_lex.specs.declared.words.TheConstants.{KEYWORDS}
use Rattle.golf_lex.specs.declared.automaton.State.TheVariants as states
use Rattle.golf_lex.proofs.Growing.{reached}

-- what is found satisfies the test
find-passes : {X : Type 0} (test : X → Bool) (xs : List X) (x : X) → find test xs ≡ Some x → test x ≡ true
find-passes test [] x e = absurd (cc)
find-passes test (y ∷ ys) x e = at (test y) refl (find-passes test ys x) e
  where
    at : (t : Bool) → test y ≡ t → (find test ys ≡ Some x → test x ≡ true) → cond t (Some y) (find test ys) ≡ Some x
        → test x ≡ true
    at true et again f = let same : y ≡ x = cc in ap test (sym same) ∙ et
    at false et again f = again f

-- nothing is found if nothing passes
find-none : {X : Type 0} (test : X → Bool) (xs : List X) → ((x : X) → test x ≡ false) → find test xs ≡ None
find-none test [] fails = refl
find-none test (y ∷ ys) fails = ap (λ t. cond t (Some y) (find test ys)) (fails y) ∙ find-none test ys fails

pub keyword_of-text : (word : List ℕ) (k : Keyword) → keyword_of word ≡ Some k → word ≡ keyword_text k
keyword_of-text word k e = sym ((bytes_eq-Decides (keyword_text k) word).0
    (find-passes (λ j. bytes_eq (keyword_text j) word) KEYWORDS k e))

-- each keyword is told
pub keyword_of-again : (k : Keyword) → keyword_of (keyword_text k) ≡ Some k
keyword_of-again keywords.Break = refl
keyword_of-again keywords.Case = refl
keyword_of-again keywords.Chan = refl
keyword_of-again keywords.Const = refl
keyword_of-again keywords.Continue = refl
keyword_of-again keywords.Default = refl
keyword_of-again keywords.Defer = refl
keyword_of-again keywords.Else = refl
keyword_of-again keywords.For = refl
keyword_of-again keywords.Func = refl
keyword_of-again keywords.Go = refl
keyword_of-again keywords.If = refl
keyword_of-again keywords.Import = refl
keyword_of-again keywords.Package = refl
keyword_of-again keywords.Range = refl
keyword_of-again keywords.Return = refl
keyword_of-again keywords.Select = refl
keyword_of-again keywords.Struct = refl
keyword_of-again keywords.Type = refl
keyword_of-again keywords.Var = refl
keyword_of-again keywords.Fallthrough = refl
keyword_of-again keywords.Goto = refl
keyword_of-again keywords.Interface = refl
keyword_of-again keywords.Map = refl
keyword_of-again keywords.Switch = refl

-- if none is told, the word is none
pub keyword_of-none : (word : List ℕ) → keyword_of word ≡ None → (k : Keyword) → keyword_text k ≢ word
keyword_of-none word e k same = let both : Some k ≡ None = sym (keyword_of-again k) ∙ ap keyword_of same ∙ e in cc

pub keyword_of-no : (word : List ℕ) → ((k : Keyword) → keyword_text k ≢ word) → keyword_of word ≡ None
keyword_of-no word other = find-none (λ k. bytes_eq (keyword_text k) word) KEYWORDS
    (λ k. different (bytes_eq (keyword_text k) word) (λ t. other k ((bytes_eq-Decides (keyword_text k) word).0 t)))
  where
    different : (t : Bool) → (t ≡ true → ⊥) → t ≡ false
    different true h = absurd (h refl)
    different false h = refl

-- each keyword is a word
pub keywords-again : (k : Keyword) → reached (keyword_text k) ≡ Some states.Word
keywords-again keywords.Break = refl
keywords-again keywords.Case = refl
keywords-again keywords.Chan = refl
keywords-again keywords.Const = refl
keywords-again keywords.Continue = refl
keywords-again keywords.Default = refl
keywords-again keywords.Defer = refl
keywords-again keywords.Else = refl
keywords-again keywords.For = refl
keywords-again keywords.Func = refl
keywords-again keywords.Go = refl
keywords-again keywords.If = refl
keywords-again keywords.Import = refl
keywords-again keywords.Package = refl
keywords-again keywords.Range = refl
keywords-again keywords.Return = refl
keywords-again keywords.Select = refl
keywords-again keywords.Struct = refl
keywords-again keywords.Type = refl
keywords-again keywords.Var = refl
keywords-again keywords.Fallthrough = refl
keywords-again keywords.Goto = refl
keywords-again keywords.Interface = refl
keywords-again keywords.Map = refl
keywords-again keywords.Switch = refl
