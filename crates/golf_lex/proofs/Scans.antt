-- What is scanned is what lexes.
-- For: `scan`, golf_lex/specs/LexemeScan.antt; the law `lexes_once`, src/laws.rt.
-- By: induction over the bytes, and over the list of lexemes.
use Rattle.std.proofs.Common.{◌≡◌, ℕ, Bool, true, false, cond, List, [], ◌∷◌, ◌++◌, refl, sym, ap, subst, ◌∙◌}
use Rattle.std.proofs.Common.{append_assoc, append-nil}
use Rattle.std.specs.Prelude.{Option, Some, None, option_and_then}
use Rattle.std.specs.Option.{option_map}
use Rattle.golf_lex_tokens.specs.declared.token.Token.{Token}
use Rattle.golf_lex_tokens.specs.Lexemes.{Class, Lexeme, lexemes_text, Cut, MayPrecede}
use Rattle.golf_lex_tokens.specs.Semicolons.{tokens_of}
use Rattle.golf_lex_tokens.specs.Lexes.{Lexes}
use Rattle.golf_lex.specs.declared.automaton.State.{State}
use Rattle.golf_lex.specs.declared.automaton.State.TheVariants as states
use Rattle.golf_lex.specs.declared.automaton.Growth.{Growth}
use Rattle.golf_lex.specs.declared.automaton.Growth.TheVariants.{To, Over, Fault}
use Rattle.golf_lex.specs.Automaton.{growth, begun, is_complete}
use Rattle.golf_lex.specs.LexemeScan.{ended, behind, scan_by, scan}
use Rattle.golf_lex.proofs.Growing.{to_only, grown, reached, reached-more}
use Rattle.golf_lex.proofs.Whole.{class_at, ended-class, whole}
use Rattle.golf_lex.proofs.Again.{IsRead, again}
use Rattle.golf_lex.proofs.Follows.{follows, follows-end, ends-there, over-complete}

-- the bytes are cut into these lexemes
pub record Cuts (bytes : List ℕ) (lexemes : List Lexeme) : Type 0 where
  pub cut : Cut lexemes
  pub text : bytes ≡ lexemes_text lexemes

-- the lexeme so far before those that follow
cuts-front : (state : State) (bytes rest : List ℕ) (qs : List Lexeme) → reached bytes ≡ Some state
    → is_complete state ≡ true → ((b : ℕ) (bs : List ℕ) → bytes ≡ b ∷ bs
    → MayPrecede (class_at state (b ∷ bs)) (b ∷ bs) rest) → Cuts rest qs
    → Cuts (bytes ++ rest) (ended state bytes ++ qs)
cuts-front state [] rest qs r complete may c =
    let same : states.Blank ≡ state = cc in
    subst (λ s. Cuts rest (ended s [] ++ qs)) same c
cuts-front state (b ∷ bs) rest qs r complete may c =
    subst (λ ps. Cuts (b ∷ (bs ++ rest)) (ps ++ qs)) (sym (ended-class state b bs complete)) (record {
      cut = (
        whole b bs state r complete,
        subst (MayPrecede (class_at state (b ∷ bs)) (b ∷ bs)) c.text (may b bs refl),
        c.cut,
      );
      text = ap (λ xs. b ∷ (bs ++ xs)) c.text;
    })

pub map-some : {A B : Type 0} (f : A → B) (o : Option A) (y : B) → option_map f o ≡ Some y → (x : A) × (o ≡ Some x)
    × (y ≡ f x)
map-some f None y e = absurd (cc)
map-some f (Some x) y e = let same : f x ≡ y = cc in (x, refl, sym same)

-- what is scanned is lexemes
pub scan-cuts : (state : State) (bytes rest : List ℕ) (ps : List Lexeme) → reached bytes ≡ Some state
    → scan state bytes rest ≡ Some ps → Cuts (bytes ++ rest) ps
scan-cuts state bytes [] ps r e = at (is_complete state) refl e
  where
    at : (t : Bool) → is_complete state ≡ t → cond t (Some (ended state bytes)) None ≡ Some ps → Cuts (bytes ++ []) ps
    at true et f =
        let same : ended state bytes ≡ ps = cc in
        subst (Cuts (bytes ++ [])) (append-nil (ended state bytes) ∙ same)
        (cuts-front state bytes [] [] r et (λ b bs _. follows-end (class_at state (b ∷ bs)) (b ∷ bs))
        (record { cut = tt; text = refl }))
    at false et f = absurd (cc)
scan-cuts state bytes (c ∷ rest) ps r e =
    at (growth state c) refl e (λ next more h k. scan-cuts next more rest ps h k)
    (λ next qs h k. scan-cuts next (c ∷ []) rest qs h k)
  where
    more-reached : (bs : List ℕ) (next : State) → reached bs ≡ Some state → growth state c ≡ To next
        → reached (bs ++ c ∷ []) ≡ Some next
    more-reached [] next h g =
        let same : states.Blank ≡ state = cc in
        let wrong : Over ≡ To next = ap (λ s. growth s c) same ∙ g in absurd (cc)
    more-reached (b ∷ bs) next h g = reached-more b c bs state next h g

    fresh : (o : Option State) → begun c ≡ o → growth state c ≡ Over
        → option_and_then (λ next. behind (ended state bytes) (scan next (c ∷ []) rest)) o ≡ Some ps
        → ((next : State) (qs : List Lexeme) → reached (c ∷ []) ≡ Some next → scan next (c ∷ []) rest ≡ Some qs
        → Cuts (c ∷ rest) qs) → Cuts (bytes ++ c ∷ rest) ps
    fresh None eo g f later = absurd (cc)
    fresh (Some next) eo g f later =
        let m = map-some (λ lexemes. ended state bytes ++ lexemes) (scan next (c ∷ []) rest) ps f in
        let c = later next m.0 (ap (λ o. option_and_then (λ s. grown s []) o) eo) m.1 in
        subst (Cuts (bytes ++ _)) (sym m.2) (cuts-front state bytes _ m.0 r (over-complete state _ g)
        (λ b bs eb. follows b bs state _ rest (ap reached (sym eb) ∙ r) g) c)

    at : (g : Growth) → growth state c ≡ g → scan_by (λ next more. scan next more rest) state bytes c g ≡ Some ps
        → ((next : State) (more : List ℕ) → reached more ≡ Some next → scan next more rest ≡ Some ps
        → Cuts (more ++ rest) ps) → ((next : State) (qs : List Lexeme) → reached (c ∷ []) ≡ Some next
        → scan next (c ∷ []) rest ≡ Some qs → Cuts (c ∷ rest) qs) → Cuts (bytes ++ c ∷ rest) ps
    at (To next) g f again later = subst (λ xs. Cuts xs ps) (append_assoc bytes (c ∷ []) rest)
        (again next (bytes ++ c ∷ []) (more-reached bytes next r g) f)
    at Over g f again later = fresh (begun c) refl g f later
    at Fault g f again later = absurd (cc)

-- bytes that make a lexeme longer are scanned in one go
scan-grown : (state : State) (bytes more rest : List ℕ) (last : State) → grown state more ≡ Some last
    → scan state bytes (more ++ rest) ≡ scan last (bytes ++ more) rest
scan-grown state bytes [] rest last e =
    let same : state ≡ last = cc in
    ap (λ s. scan s bytes rest) same ∙ ap (λ xs. scan last xs rest) (sym (append-nil bytes))
scan-grown state bytes (b ∷ more) rest last e =
    at (growth state b) e (λ next f. scan-grown next (bytes ++ b ∷ []) more rest last f)
  where
    at : (g : Growth) → to_only g (λ n. grown n more) ≡ Some last
        → ((next : State) → grown next more ≡ Some last
        → scan next (bytes ++ b ∷ []) (more ++ rest) ≡ scan last ((bytes ++ b ∷ []) ++ more) rest)
        → scan_by (λ next xs. scan next xs (more ++ rest)) state bytes b g ≡ scan last (bytes ++ b ∷ more) rest
    at (To next) f again = again next f ∙ ap (λ xs. scan last xs rest) (append_assoc bytes (b ∷ []) more)
    at Over f again = absurd (cc)
    at Fault f again = absurd (cc)

-- the next lexeme begins with the byte that ends this one
scan-fresh : (state : State) (front : List Lexeme) (d : ℕ) (ds rest : List ℕ) (last : State) (ps : List Lexeme)
    → reached (d ∷ ds) ≡ Some last → scan last (d ∷ ds) rest ≡ Some ps
    → option_and_then (λ next. behind front (scan next (d ∷ []) (ds ++ rest))) (begun d) ≡ Some (front ++ ps)
scan-fresh state front d ds rest last ps r e = at (begun d) r
  where
    at : (o : Option State) → option_and_then (λ s. grown s ds) o ≡ Some last
        → option_and_then (λ next. behind front (scan next (d ∷ []) (ds ++ rest))) o ≡ Some (front ++ ps)
    at None f = absurd (cc)
    at (Some next) f = ap (behind front) (scan-grown next (d ∷ []) ds rest last f ∙ e)

-- a lexeme and those after it are scanned
scan-lexeme : (state : State) (b : ℕ) (bs : List ℕ) (class : Class) (qs : List Lexeme) → reached (b ∷ bs) ≡ Some state
    → is_complete state ≡ true → class_at state (b ∷ bs) ≡ class → MayPrecede class (b ∷ bs) (lexemes_text qs) → Cut qs
    → scan state (b ∷ bs) (lexemes_text qs) ≡ Some (record { class = class; bytes = b ∷ bs } ∷ qs)
scan-lexeme state b bs class [] r complete of_class may c =
    ap (λ t. cond t (Some (ended state (b ∷ bs))) None) complete
    ∙ ap Some (ended-class state b bs complete)
    ∙ ap (λ k. Some (record { class = k; bytes = b ∷ bs } ∷ [])) of_class
scan-lexeme state b bs class (q ∷ qs) r complete of_class may c =
    by (again q.class q.bytes c.0) (λ s d ds h i j. scan-lexeme s d ds q.class qs h i j)
  where
    by : IsRead q.class q.bytes → ((s : State) (d : ℕ) (ds : List ℕ) → reached (d ∷ ds) ≡ Some s → is_complete s ≡ true
        → class_at s (d ∷ ds) ≡ q.class → MayPrecede q.class (d ∷ ds) (lexemes_text qs) → Cut qs
        → scan s (d ∷ ds) (lexemes_text qs) ≡ Some (record { class = q.class; bytes = d ∷ ds } ∷ qs))
        → scan state (b ∷ bs) (q.bytes ++ lexemes_text qs) ≡ Some (record { class = class; bytes = b ∷ bs } ∷ q ∷ qs)
    by i later =
        let d = i.first in
        let ds = i.rest in
        let rest = lexemes_text qs in
        let may_here : MayPrecede (class_at state (b ∷ bs)) (b ∷ bs) (d ∷ (ds ++ rest)) =
        subst (λ k. MayPrecede k (b ∷ bs) (d ∷ (ds ++ rest))) (sym of_class)
        (subst (λ xs. MayPrecede class (b ∷ bs) (xs ++ rest)) i.are may) in
        let ends = ends-there b bs state d (ds ++ rest) r complete may_here in
        let behind_it = later i.last d ds i.reaches i.complete i.as_class
        (subst (λ xs. MayPrecede q.class xs rest) i.are c.1) c.2 in
        ap (λ xs. scan state (b ∷ bs) (xs ++ rest)) i.are
        ∙ ap (λ g. scan_by (λ next xs. scan next xs (ds ++ rest)) state (b ∷ bs) d g) ends
        ∙ scan-fresh state (ended state (b ∷ bs)) d ds rest i.last _ i.reaches behind_it
        ∙ ap (λ ps. Some (ps ++ record { class = q.class; bytes = d ∷ ds } ∷ qs)) (ended-class state b bs complete)
        ∙ ap (λ k. Some (record { class = k; bytes = b ∷ bs } ∷ record { class = q.class; bytes = d ∷ ds } ∷ qs))
        of_class
        ∙ ap (λ xs. Some (record { class = class; bytes = b ∷ bs } ∷ record { class = q.class; bytes = xs } ∷ qs))
        (sym i.are)

-- lexemes are scanned as they are
pub cut-scans : (ps : List Lexeme) → Cut ps → scan states.Blank [] (lexemes_text ps) ≡ Some ps
cut-scans [] c = refl
cut-scans (p ∷ ps) c =
    let i = again p.class p.bytes c.0 in
    let rest = lexemes_text ps in
    let e = scan-lexeme i.last i.first i.rest p.class ps i.reaches i.complete i.as_class
    (subst (λ xs. MayPrecede p.class xs rest) i.are c.1) c.2 in
    ap (λ xs. scan states.Blank [] (xs ++ rest)) i.are
    ∙ scan-fresh states.Blank [] i.first i.rest rest i.last _ i.reaches e
    ∙ ap (λ xs. Some (record { class = p.class; bytes = xs } ∷ ps)) (sym i.are)

-- bytes lex in at most one way
pub lexes-once : (bytes : List ℕ) (xs ys : List Token) → Lexes bytes xs → Lexes bytes ys → xs ≡ ys
lexes-once bytes xs ys l m =
    let once = ap (scan states.Blank []) l.text ∙ cut-scans l.lexemes l.cut in
    let twice = ap (scan states.Blank []) m.text ∙ cut-scans m.lexemes m.cut in
    let same : l.lexemes ≡ m.lexemes = cc in
    l.are ∙ ap tokens_of same ∙ sym m.are
