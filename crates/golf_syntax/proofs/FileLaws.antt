-- A file is read exactly if a tree prints it; else the first broken segment is found.
-- For: `parse`, src/parser.rt; the law `one_reads`, src/laws.rt.
-- By: induction over the list of imports, and over the list of declarations.
use Rattle.std.proofs.Common.{◌≡◌, inl, inr, ℕ, Bool, true, false, ◌&&◌, List, [], ◌∷◌, ◌++◌, map, refl, ap, sym, subst}
use Rattle.std.proofs.Common.{◌∙◌}
use Rattle.std.specs.Prelude.{Option, Some, None, Result, Ok, Err}
use Rattle.std.specs.List.{list_all}
use Rattle.golf_lex_tokens.specs.declared.token.Token.{Token}
use Rattle.golf_lex_tokens.specs.declared.token.Punctuation.TheVariants as punctuations
use Rattle.golf_syntax_trees.specs.declared.declarations.Import.{Import}
use Rattle.golf_syntax_trees.specs.declared.declarations.Decl.{Decl}
use Rattle.golf_syntax_trees.specs.declared.declarations.File.{File}
use Rattle.golf_syntax_trees.specs.Words as words
use Rattle.golf_syntax_trees.specs.Words.{Word, closed, SpellsWords}
use Rattle.golf_syntax_trees.specs.Declarations.{package_words, print_import, print_decl, print_file, decl_good}
use Rattle.golf_syntax_trees.specs.Segments.{before_segment, depth_behind, ends_segment, segments, BeginsOn}
use Rattle.golf_syntax_trees.specs.Segments.{IsWholeSegment}
use Rattle.golf_syntax_trees.specs.Segments.{BreaksOn, FileBreaksOn}
use Rattle.golf_syntax_trees.specs.Reads.{no_counts, is_affordable, first_too_complex, ReadsTokens, BrokenOn, FaultOn}
use Rattle.golf_syntax_expressions.proofs.Fronts.{both, and-true}
use Rattle.golf_syntax_segments.specs.Cut.{CutsOff}
use Rattle.golf_syntax_segments.specs.Laws.{EndedBySemicolon, DeclSegments, ImportSegments, FileSegments}
use Rattle.golf_syntax_segments.proofs.CostLaws.{Costs, costs-same}
use Rattle.golf_syntax_segments.proofs.Spelling.{join, longer, closing}
use Rattle.golf_syntax_segments.proofs.Whole.{imports-are, decls-are, files-are, taken}
use Rattle.golf_syntax.specs.SegmentReader.{import_of, decl_of, is_package}
use Rattle.golf_syntax.specs.Parses.{Parsed, AcceptsTokens, RefusesTokens, NoImport, Imported, Declared, FirstLine}
use Rattle.golf_syntax.specs.declared.parser.SyntaxFault.{SyntaxFault}
use Rattle.golf_syntax.specs.declared.parser.SyntaxFault.TheVariants as faults
use Rattle.golf_syntax.proofs.SegmentLaws.{import-found, import-read, decl-found, decl-read, no-import, no-decl}
use Rattle.golf_syntax.proofs.SegmentLaws.{package-found, apart}

-- no segment is empty
no-empty-in-front : (t : Token) (b : Bool) (qs ps : List (List Token)) → before_segment b t qs ≡ [] ∷ ps → ⊥
no-empty-in-front t true qs ps e = cc
no-empty-in-front t false [] ps e = cc
no-empty-in-front t false (q ∷ qs) ps e = cc

no-empty : (ts : List Token) (ps : List (List Token)) → segments 0 ts ≡ [] ∷ ps → ⊥
no-empty [] ps e = cc
no-empty (t ∷ ts) ps e = no-empty-in-front t (ends_segment t.kind 0) (segments (depth_behind t.kind 0) ts) ps e

begins-on : (p : List Token) (line : ℕ) → (p ≡ [] → ⊥) → FirstLine p line → BeginsOn line p
begins-on [] line some f = absurd (some refl)
begins-on (t ∷ ts) line some f = f

first-begins : (ts p rest : List Token) (line : ℕ) → CutsOff ts p rest → FirstLine p line → BeginsOn line p
first-begins ts p rest line c f = begins-on p line
    (λ e. no-empty ts (segments 0 rest) (c.segments ∙ ap (λ q. q ∷ segments 0 rest) e)) f

abbrev Ended-up-to : List Word → List Token → List Token → Type 0
Ended-up-to ws ts mid = SpellsWords (ws ++ words.punctuation punctuations.Semicolon ∷ []) ts mid

-- one printed text more
behind-closed : (ws vs : List Word) (ts mid rest : List Token) → Ended-up-to ws ts mid → SpellsWords vs mid rest
    → SpellsWords (ws ++ words.punctuation punctuations.Semicolon ∷ vs) ts rest
behind-closed [] vs [] mid rest h k = absurd h
behind-closed [] vs (t ∷ ts) mid rest h k = (h.0, subst (λ us. SpellsWords vs us rest) (sym h.1) k)
behind-closed (w ∷ ws) vs [] mid rest h k = absurd h
behind-closed (w ∷ ws) vs (t ∷ ts) mid rest h k = (h.0, behind-closed ws vs ts mid rest h.1 k)

module _ (A : Type 0) (print : A → List Word) where
  closed-more : (xs : List A) (x : A) (ts mid rest : List Token) → SpellsWords (closed (map print xs)) ts mid
      → Ended-up-to (print x) mid rest → SpellsWords (closed (map print (xs ++ x ∷ []))) ts rest
  closed-more [] x ts mid rest h k = subst (λ us. Ended-up-to (print x) us rest) (sym h) k
  closed-more (y ∷ ys) x ts mid rest h k =
      let c = closing (print y) (closed (map print ys)) ts mid h in
      behind-closed (print y) (closed (map print (ys ++ x ∷ []))) ts c.0 rest c.1 (closed-more ys x c.0 mid rest c.2 k)

  -- a segment more
  pub one-more : (xs : List A) (x : A) (ts left p rest : List Token) → SpellsWords (closed (map print xs)) ts left
      → CutsOff left p rest → EndedBySemicolon (print x) p → SpellsWords (closed (map print (xs ++ x ∷ []))) ts rest
  one-more xs x ts left p rest h c k = closed-more xs x ts left rest h
      (subst (λ us. Ended-up-to (print x) us rest) (sym c.whole)
      (longer (print x ++ words.punctuation punctuations.Semicolon ∷ []) p [] rest k))

all-more : (xs : List Decl) (x : Decl) → list_all decl_good xs ≡ true → decl_good x ≡ true
    → list_all decl_good (xs ++ x ∷ []) ≡ true
all-more [] x h k = ap (λ b. b && true) k
all-more (y ∷ ys) x h k = let a = both (decl_good y) (list_all decl_good ys) h in and-true (decl_good y)
    (list_all decl_good (ys ++ x ∷ [])) a.0 (all-more ys x a.1 k)

-- imports
pub import-more : (xs : List Import) (x : Import) (ts left p rest : List Token)
    → SpellsWords (closed (map print_import xs)) ts left → CutsOff left p rest → import_of p ≡ Some x
    → SpellsWords (closed (map print_import (xs ++ x ∷ []))) ts rest
import-more xs x ts left p rest h c e = one-more Import print_import xs x ts left p rest h c (import-found p x e)

pub imports-end : (xs : List Import) (ts left p rest : List Token) → SpellsWords (closed (map print_import xs)) ts left
    → CutsOff left p rest → import_of p ≡ None → Imported ts xs left
imports-end xs ts left p rest h c e = record { words = h; over = subst NoImport (sym c.segments) (no-import p e) }

-- declarations
pub record Known (ts : List Token) (xs : List Decl) (left : List Token) : Type 0 where
  pub words : SpellsWords (closed (map print_decl xs)) ts left
  pub good : list_all decl_good xs ≡ true

pub decl-more : (xs : List Decl) (x : Decl) (ts left p rest : List Token) → Known ts xs left → CutsOff left p rest
    → decl_of p ≡ Some x → Known ts (xs ++ x ∷ []) rest
decl-more xs x ts left p rest h c e =
    let k = decl-found p x e in
    record { words = one-more Decl print_decl xs x ts left p rest h.words c k.0; good = all-more xs x h.good k.1 }

breaks-behind : (xs : List Decl) (ts mid : List Token) (line : ℕ) → SpellsWords (closed (map print_decl xs)) ts mid
    → list_all decl_good xs ≡ true → BreaksOn true (segments 0 mid) line → BreaksOn true (segments 0 ts) line
breaks-behind [] ts mid line h good b = subst (λ us. BreaksOn true (segments 0 us) line) (sym h) b
breaks-behind (x ∷ xs) ts mid line h good b =
    let a = both (decl_good x) (list_all decl_good xs) good in
    let k = closing (print_decl x) (closed (map print_decl xs)) ts mid h in
    let p = taken (print_decl x) ts k.0 (decls-are x) k.1 in
    subst (λ ps. BreaksOn true ps line) (sym p.2)
    (inr (inr (record { tree = x; words = p.1; good = a.0 }, breaks-behind xs k.0 mid line k.2 a.1 b)))

true-no-false : ◌≡◌ {A = Bool} true false → ⊥
true-no-false e = cc

pub decls-broken : (xs : List Decl) (ts left p rest : List Token) (line : ℕ) → Known ts xs left → CutsOff left p rest
    → decl_of p ≡ None → FirstLine p line → Declared ts (Err (faults.At line))
decls-broken xs ts left p rest line h c e f =
    breaks-behind xs ts left line h.words h.good
    (subst (λ ps. BreaksOn true ps line) (sym c.segments) (inl (neither, first-begins left p rest line c f)))
  where
    neither : IsWholeSegment true p → ⊥
    neither (inl i) = true-no-false i.1
    neither (inr x) = no-decl p e x

-- after imports, the first segment that is no declaration is broken
not-declared : (ps : List (List Token)) (line : ℕ) → NoImport ps → BreaksOn true ps line → BreaksOn false ps line
not-declared [] line n b = b
not-declared (p ∷ ps) line n (inl b) = inl (neither, b.1)
  where
    neither : IsWholeSegment false p → ⊥
    neither (inl i) = n i.0
    neither (inr x) = b.0 (inr x)
not-declared (p ∷ ps) line n (inr (inl b)) = absurd (true-no-false b.0.1)
not-declared (p ∷ ps) line n (inr (inr b)) = inr (inr b)

behind-imports : (xs : List Import) (ts mid : List Token) (line : ℕ) → SpellsWords (closed (map print_import xs)) ts mid
    → BreaksOn false (segments 0 mid) line → BreaksOn false (segments 0 ts) line
behind-imports [] ts mid line h b = subst (λ us. BreaksOn false (segments 0 us) line) (sym h) b
behind-imports (x ∷ xs) ts mid line h b =
    let k = closing (print_import x) (closed (map print_import xs)) ts mid h in
    let p = taken (print_import x) ts k.0 (imports-are x) k.1 in
    subst (λ ps. BreaksOn false ps line) (sym p.2)
    (inr (inl ((record { tree = x; words = p.1 }, refl), behind-imports xs k.0 mid line k.2 b)))

-- what a tree prints has no broken segment
decls-unbroken : (declared : Bool) (ds : List Decl) (ps : List (List Token)) (line : ℕ) → list_all decl_good ds ≡ true
    → DeclSegments ds ps → BreaksOn declared ps line → ⊥
decls-unbroken declared [] ps line g k b = subst (λ qs. BreaksOn declared qs line) k b
decls-unbroken declared (x ∷ ds) [] line g k b = k
decls-unbroken declared (x ∷ ds) (p ∷ ps) line g k (inl e) =
    e.0 (inr (record { tree = x; words = k.0; good = (both (decl_good x) (list_all decl_good ds) g).0 }))
decls-unbroken declared (x ∷ ds) (p ∷ ps) line g k (inr (inl e)) = apart e.0.0.tree x p e.0.0.words k.0
decls-unbroken declared (x ∷ ds) (p ∷ ps) line g k (inr (inr e)) =
    decls-unbroken true ds ps line (both (decl_good x) (list_all decl_good ds) g).1 k.1 e.1

imports-unbroken : (is : List Import) (ds : List Decl) (ps : List (List Token)) (line : ℕ)
    → list_all decl_good ds ≡ true → ImportSegments is ds ps → BreaksOn false ps line → ⊥
imports-unbroken [] ds ps line g k b = decls-unbroken false ds ps line g k b
imports-unbroken (i ∷ is) ds [] line g k b = k
imports-unbroken (i ∷ is) ds (p ∷ ps) line g k (inl e) = e.0 (inl (record { tree = i; words = k.0 }, refl))
imports-unbroken (i ∷ is) ds (p ∷ ps) line g k (inr (inl e)) = imports-unbroken is ds ps line g k.1 e.1
imports-unbroken (i ∷ is) ds (p ∷ ps) line g k (inr (inr e)) = apart i e.0.tree p k.0 e.0.words

file-unbroken : (f : File) (ps : List (List Token)) (line : ℕ) → list_all decl_good f.declarations ≡ true
    → FileSegments f ps → FileBreaksOn ps line → ⊥
file-unbroken f [] line g k b = k
file-unbroken f (p ∷ ps) line g k (inl e) = e.0 k.0
file-unbroken f (p ∷ ps) line g k (inr e) = imports-unbroken f.imports f.declarations ps line g k.1 e.1

pub unread : (ts : List Token) (line : ℕ) → FileBreaksOn (segments 0 ts) line → (f : File) → ReadsTokens ts f → ⊥
unread ts line b f r = file-unbroken f (segments 0 ts) line r.form.good (files-are f ts r.prints) b

-- no token costs too much if a tree reads the tokens
costs-none : (b : Bool) (o : Option ℕ) → Costs b o → b ≡ true → o ≡ None
costs-none true o c e = c
costs-none false o c e = cc

costs-true : (b : Bool) (o : Option ℕ) → Costs b o → o ≡ None → b ≡ true
costs-true true o c e = refl
costs-true false o c e = absurd (never (sym c.1 ∙ e))
  where
    never : {n : ℕ} → ◌≡◌ {A = Option ℕ} (Some n) None → ⊥
    never q = cc

reads-cheaply : (ts : List Token) (f : File) → ReadsTokens ts f → first_too_complex no_counts ts ≡ None
reads-cheaply ts f r = costs-none (is_affordable no_counts (map (λ w. w.kind) (print_file f)))
    (first_too_complex no_counts ts) (costs-same (print_file f) ts no_counts r.prints) r.form.cost

-- the answers
pub too_complex : (ts : List Token) (line : ℕ) → first_too_complex no_counts ts ≡ Some line
    → Parsed ts (Err (faults.At line))
too_complex ts line e = (λ f r. never (sym e ∙ reads-cheaply ts f r), subst (λ o. FaultOn o ts line) (sym e) refl)
  where
    never : ◌≡◌ {A = Option ℕ} (Some line) None → ⊥
    never q = cc

broken-on : (ts : List Token) (line : ℕ) → FileBreaksOn (segments 0 ts) line → BrokenOn ts line
broken-on [] line b = absurd b
broken-on (t ∷ ts) line b = b

broken : (ts : List Token) (line : ℕ) → first_too_complex no_counts ts ≡ None → FileBreaksOn (segments 0 ts) line
    → Parsed ts (Err (faults.At line))
broken ts line c b = (unread ts line b, subst (λ o. FaultOn o ts line) (sym c) (broken-on ts line b))

no-decls : (ts p rest left : List Token) (is : List Import) (line : ℕ) → first_too_complex no_counts ts ≡ None
    → CutsOff ts p rest → is_package p ≡ true → Imported rest is left → Declared left (Err (faults.At line))
    → Parsed ts (Err (faults.At line))
no-decls ts p rest left is line c cut main i b =
    broken ts line c (subst (λ ps. FileBreaksOn ps line) (sym cut.segments)
    (inr (
      package-found p main,
      behind-imports is rest left line i.words
          (not-declared (segments 0 left) line i.over b),
    )))

pub not-read : (ts p rest left : List Token) (is : List Import) (fault : SyntaxFault)
    → first_too_complex no_counts ts ≡ None → CutsOff ts p rest → is_package p ≡ true → Imported rest is left
    → Declared left (Err fault) → Parsed ts (Err fault)
not-read ts p rest left is (faults.At line) c cut main i b = no-decls ts p rest left is line c cut main i b
not-read ts p rest left is faults.Memory c cut main i b = tt

abbrev file : List Import → List Decl → File
file is ds = record { imports = is; declarations = ds }

prints : (ts p rest left : List Token) (is : List Import) (ds : List Decl) → CutsOff ts p rest → is_package p ≡ true
    → Imported rest is left → Declared left (Ok ds) → SpellsWords (print_file (file is ds)) ts []
prints ts p rest left is ds cut main i k =
    join package_words (closed (map print_import is) ++ closed (map print_decl ds)) ts rest []
    (subst (λ us. SpellsWords package_words us rest) (sym cut.whole)
    (longer package_words p [] rest (package-found p main)))
    (join (closed (map print_import is)) (closed (map print_decl ds)) rest left [] i.words k.0)

pub all-read : (ts p rest left : List Token) (is : List Import) (ds : List Decl) → first_too_complex no_counts ts ≡ None
    → CutsOff ts p rest → is_package p ≡ true → Imported rest is left → Declared left (Ok ds)
    → Parsed ts (Ok (file is ds))
all-read ts p rest left is ds c cut main i k =
    let spelt = prints ts p rest left is ds cut main i k in
    record {
      prints = spelt;
      form = record {
        good = k.1;
        cost = costs-true (is_affordable no_counts (map (λ w. w.kind) (print_file (file is ds))))
            (first_too_complex no_counts ts) (costs-same (print_file (file is ds)) ts no_counts spelt) c;
      };
    }

-- a segment is read in one way
never-none : {A : Type 0} (x y : A) → Some x ≡ Some y → x ≡ y
never-none x y e = cc

same-import : (p : List Token) (i j : Import) → EndedBySemicolon (print_import i) p
    → EndedBySemicolon (print_import j) p → i ≡ j
same-import p i j h k = never-none i j (sym (import-read p i h) ∙ import-read p j k)

same-decl : (p : List Token) (x y : Decl) → EndedBySemicolon (print_decl x) p → EndedBySemicolon (print_decl y) p
    → decl_good x ≡ true
    → decl_good y ≡ true → x ≡ y
same-decl p x y h k g l = never-none x y (sym (decl-read p x h g) ∙ decl-read p y k l)

no-segment : (p : List Token) (ps : List (List Token)) → p ∷ ps ≡ [] → ⊥
no-segment p ps e = cc

same-decls : (xs ys : List Decl) (ps : List (List Token)) → list_all decl_good xs ≡ true → list_all decl_good ys ≡ true
    → DeclSegments xs ps → DeclSegments ys ps → xs ≡ ys
same-decls [] [] ps g l h k = refl
same-decls [] (y ∷ ys) [] g l h k = absurd k
same-decls [] (y ∷ ys) (p ∷ ps) g l h k = absurd (no-segment p ps h)
same-decls (x ∷ xs) ys [] g l h k = absurd h
same-decls (x ∷ xs) [] (p ∷ ps) g l h k = absurd (no-segment p ps k)
same-decls (x ∷ xs) (y ∷ ys) (p ∷ ps) g l h k =
    let a = both (decl_good x) (list_all decl_good xs) g in
    let b = both (decl_good y) (list_all decl_good ys) l in
    ap (λ z. z ∷ xs) (same-decl p x y h.0 k.0 a.0 b.0) ∙ ap (λ zs. y ∷ zs) (same-decls xs ys ps a.1 b.1 h.1 k.1)

record Same (is js : List Import) (xs ys : List Decl) : Type 0 where
  imports : is ≡ js
  decls : xs ≡ ys

decls-no-import : (xs : List Decl) (j : Import) (js : List Import) (ys : List Decl) (ps : List (List Token))
    → DeclSegments xs ps → ImportSegments (j ∷ js) ys ps → ⊥
decls-no-import xs j js ys [] h k = k
decls-no-import [] j js ys (p ∷ ps) h k = no-segment p ps h
decls-no-import (x ∷ xs) j js ys (p ∷ ps) h k = apart j x p k.0 h.0

same-all : (is js : List Import) (xs ys : List Decl) (ps : List (List Token)) → list_all decl_good xs ≡ true
    → list_all decl_good ys ≡ true → ImportSegments is xs ps → ImportSegments js ys ps → Same is js xs ys
same-all [] [] xs ys ps g l h k = record { imports = refl; decls = same-decls xs ys ps g l h k }
same-all [] (j ∷ js) xs ys ps g l h k = absurd (decls-no-import xs j js ys ps h k)
same-all (i ∷ is) [] xs ys ps g l h k = absurd (decls-no-import ys i is xs ps k h)
same-all (i ∷ is) (j ∷ js) xs ys [] g l h k = absurd h
same-all (i ∷ is) (j ∷ js) xs ys (p ∷ ps) g l h k =
    let r = same-all is js xs ys ps g l h.1 k.1 in
    record { imports = ap (λ z. z ∷ is) (same-import p i j h.0 k.0) ∙ ap (λ zs. j ∷ zs) r.imports; decls = r.decls }

same-file : (f g : File) (ps : List (List Token)) → list_all decl_good f.declarations ≡ true
    → list_all decl_good g.declarations ≡ true → FileSegments f ps → FileSegments g ps → f ≡ g
same-file f g [] a b h k = absurd h
same-file f g (p ∷ ps) a b h k =
    let s = same-all f.imports g.imports f.declarations g.declarations ps a b h.1 k.1 in
    ap (λ is. record { imports = is; declarations = f.declarations }) s.imports
    ∙ ap (λ ds. record { imports = g.imports; declarations = ds }) s.decls

-- at most one tree reads the tokens
pub one-reads : (ts : List Token) (f g : File) → ReadsTokens ts f → ReadsTokens ts g → f ≡ g
one-reads ts f g r s = same-file f g (segments 0 ts) r.form.good s.form.good (files-are f ts r.prints)
    (files-are g ts s.prints)

pub accepts : (ts : List Token) (result : Result File SyntaxFault) → Parsed ts result → AcceptsTokens ts result
accepts ts (Ok f) a = λ g r. inl (ap Ok (one-reads ts f g a r))
accepts ts (Err (faults.At line)) a = λ g r. absurd (a.0 g r)
accepts ts (Err faults.Memory) a = λ g r. inr refl

pub refuses : (ts : List Token) (result : Result File SyntaxFault) → Parsed ts result → RefusesTokens ts result
refuses ts (Ok f) a = λ n. absurd (n f a)
refuses ts (Err (faults.At line)) a = λ n. inl (line, refl, a.1)
refuses ts (Err faults.Memory) a = λ n. inr refl
