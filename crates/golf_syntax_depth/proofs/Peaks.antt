-- How high the counts rise over printed words, and how texts put together rise.
-- For: Types, Exprs, Simples, Stmts, Files
-- By: induction over lists of words
use Rattle.std.proofs.Common.{◌≡◌, ◌∙◌, ℕ, ◌+◌, ◌≤◌, max, List, [], ◌∷◌, ◌++◌, sum, refl, sym, ap, subst, arith}
use Rattle.std.specs.List.{fold}
use Rattle.std.proofs.Math.Nat.{le-max_left, le-max_right, max-le, add-max-add_right}
use Rattle.golf_lex_tokens.specs.declared.token.Punctuation.{Punctuation}
use Rattle.golf_lex_tokens.specs.declared.token.Punctuation.TheVariants as punctuations
use Rattle.golf_lex_tokens.specs.Cost.{counted}
use Rattle.golf_syntax_trees.specs.Words.{Word, punctuation, on_line, behind, separated, closed}
use Rattle.golf_syntax_depth.specs.Depths.{largest}

fold-from : (a : ℕ) (ns : List ℕ) → fold ◌+◌ a ns ≡ a + fold ◌+◌ 0 ns
fold-from a [] = omega arith
fold-from a (n ∷ ns) =
    let with_a = fold-from (a + n) ns in
    let with_zero = fold-from (0 + n) ns in
    omega (arith, with_a, with_zero)

pub sum-cons : (c : ℕ) (cs : List ℕ) → sum (c ∷ cs) ≡ c + sum cs
sum-cons c cs = let from = fold-from (0 + c) cs in omega (arith, from)

-- the counts after the words
abbrev pub after : List ℕ → List Word → List ℕ
after counts [] = counts
after counts (w ∷ ws) = after (counted w.kind counts) ws

-- the highest sum of the counts, before the words or after one of them
abbrev pub peak : List ℕ → List Word → ℕ
peak counts [] = sum counts
peak counts (w ∷ ws) = max (sum counts) (peak (counted w.kind counts) ws)

pub after-append : (counts : List ℕ) (xs ys : List Word) → after counts (xs ++ ys) ≡ after (after counts xs) ys
after-append counts [] ys = refl
after-append counts (x ∷ xs) ys = after-append (counted x.kind counts) xs ys

pub begins : (counts : List ℕ) (ws : List Word) → sum counts ≤ peak counts ws
begins counts [] = omega arith
begins counts (w ∷ ws) = le-max_left (sum counts) (peak (counted w.kind counts) ws)

pub rises-first : (counts : List ℕ) (xs ys : List Word) → peak counts xs ≤ peak counts (xs ++ ys)
rises-first counts [] ys = begins counts ys
rises-first counts (x ∷ xs) ys =
    let more = rises-first (counted x.kind counts) xs ys in
    let top = le-max_left (sum counts) (peak (counted x.kind counts) (xs ++ ys)) in
    let rest = le-max_right (sum counts) (peak (counted x.kind counts) (xs ++ ys)) in
    max-le top (omega (arith, more, rest))

pub rises-second : (counts : List ℕ) (xs ys : List Word) → peak (after counts xs) ys ≤ peak counts (xs ++ ys)
rises-second counts [] ys = omega arith
rises-second counts (x ∷ xs) ys =
    let more = rises-second (counted x.kind counts) xs ys in
    let rest = le-max_right (sum counts) (peak (counted x.kind counts) (xs ++ ys)) in
    omega (arith, more, rest)

-- A text without `,` and `;` outside brackets, which adds n to the count, and rises by d.
pub record Adds (ws : List Word) (d : ℕ) : Type 0 where
  pub n : ℕ
  pub ends : (c : ℕ) (cs : List ℕ) → after (c ∷ cs) ws ≡ (c + n) ∷ cs
  pub peaks : (c : ℕ) (cs : List ℕ) → c + sum cs + d ≤ peak (c ∷ cs) ws

-- A text that leaves the counts outside as they are, and rises above them by d.
pub record Rises (ws : List Word) (d : ℕ) : Type 0 where
  pub count : ℕ → ℕ
  pub ends : (c : ℕ) (cs : List ℕ) → after (c ∷ cs) ws ≡ count c ∷ cs
  pub peaks : (c : ℕ) (cs : List ℕ) → sum cs + d ≤ peak (c ∷ cs) ws

largest-within : (below d e top : ℕ) → below + d ≤ top → below + e ≤ top → below + max d e ≤ top
largest-within below d e top first second =
    let reached : max d e + below ≤ top = subst (λ m. m ≤ top) (add-max-add_right d e below)
    (max-le (omega (arith, first)) (omega (arith, second))) in
    omega (arith, reached)

-- a word that is no bracket and no separator
abbrev pub Plain : Word → Type 0
Plain w = (c : ℕ) (cs : List ℕ) → counted w.kind (c ∷ cs) ≡ (c + 1) ∷ cs

pub nothing : Adds [] 0
nothing = record {
  n = 0;
  ends = λ c cs. let same : c ≡ c + 0 = omega arith in ap (λ m. m ∷ cs) same;
  peaks = λ c cs. let is : peak (c ∷ cs) [] ≡ c + sum cs = sum-cons c cs in omega (arith, is);
}

abbrev pub one : (w : Word) → Plain w → Adds (w ∷ []) 1
one w plain = record {
  n = 1;
  ends = plain;
  peaks = λ c cs.
      let top : sum (counted w.kind (c ∷ cs)) ≤ peak (c ∷ cs) (w ∷ []) =
      le-max_right (sum (c ∷ cs)) (sum (counted w.kind (c ∷ cs))) in
      let is : sum (counted w.kind (c ∷ cs)) ≡ c + 1 + sum cs = ap sum (plain c cs) ∙ sum-cons (c + 1) cs in
      omega (arith, top, is);
}

-- less deep
pub less : {ws : List Word} {d : ℕ} (e : ℕ) → e ≤ d → Adds ws d → Adds ws e
less e few a = record { n = a.n; ends = a.ends; peaks = λ c cs. let most = a.peaks c cs in omega (arith, most, few) }

pub lower : {ws : List Word} {d : ℕ} (e : ℕ) → e ≤ d → Rises ws d → Rises ws e
lower e few a = record {
  count = a.count;
  ends = a.ends;
  peaks = λ c cs. let most = a.peaks c cs in omega (arith, most, few);
}

pub loose : {ws : List Word} {d : ℕ} → Adds ws d → Rises ws d
loose a = record { count = λ c. c + a.n; ends = a.ends; peaks = λ c cs. let most = a.peaks c cs in omega (arith, most) }

-- one after the other: as deep as the first, and as the second with n more
pub both : (n : ℕ) (xs ys : List Word) {d e : ℕ} (a : Adds xs d) → n ≤ a.n → Adds ys e → Adds (xs ++ ys) (max d (n + e))
both n xs ys {d} {e} a few b = record {
  n = a.n + b.n;
  ends = λ c cs. after-append (c ∷ cs) xs ys ∙ ap (λ counts. after counts ys) (a.ends c cs) ∙ b.ends (c + a.n) cs
      ∙ ap (λ m. m ∷ cs) (omega arith);
  peaks = λ c cs.
      let first = a.peaks c cs in
      let front = rises-first (c ∷ cs) xs ys in
      let second = subst (λ counts. c + a.n + sum cs + e ≤ peak counts ys) (sym (a.ends c cs)) (b.peaks (c + a.n) cs) in
      let back = rises-second (c ∷ cs) xs ys in
      largest-within (c + sum cs) d (n + e) (peak (c ∷ cs) (xs ++ ys)) (omega (arith, first, front))
      (omega (arith, second, back, few));
}

-- one after the other, as deep as the deeper one
pub joined : (xs ys : List Word) {d e : ℕ} → Rises xs d → Rises ys e → Rises (xs ++ ys) (max d e)
joined xs ys {d} {e} a b = record {
  count = λ c. b.count (a.count c);
  ends = λ c cs. after-append (c ∷ cs) xs ys ∙ ap (λ counts. after counts ys) (a.ends c cs) ∙ b.ends (a.count c) cs;
  peaks = λ c cs.
      let first = a.peaks c cs in
      let front = rises-first (c ∷ cs) xs ys in
      let second = subst (λ counts. sum cs + e ≤ peak counts ys) (sym (a.ends c cs)) (b.peaks (a.count c) cs) in
      let back = rises-second (c ∷ cs) xs ys in
      largest-within (sum cs) d e (peak (c ∷ cs) (xs ++ ys)) (omega (arith, first, front))
      (omega (arith, second, back));
}

-- a word before a text: one more
pub word-before : (w : Word) (ws : List Word) {d : ℕ} → Plain w → Adds ws d → Adds (w ∷ ws) (1 + d)
word-before w ws {d} plain a = less (1 + d) (le-max_right 1 (1 + d)) (both 1 (w ∷ []) ws (one w plain) (omega arith) a)

pub plain-before : (w : Word) (ws : List Word) {d : ℕ} → Plain w → Rises ws d → Rises (w ∷ ws) d
plain-before w ws {d} plain a = lower d (le-max_right 1 d) (joined (w ∷ []) ws (loose (one w plain)) a)

-- ---- brackets

abbrev pub Opens : Word → Type 0
Opens w = (c : ℕ) (cs : List ℕ) → counted w.kind (c ∷ cs) ≡ 0 ∷ (c + 1) ∷ cs

abbrev pub Closes : Word → Type 0
Closes w = (k c : ℕ) (cs : List ℕ) → counted w.kind (k ∷ c ∷ cs) ≡ (c + 1) ∷ cs

-- a text in brackets: one more
abbrev pub bracketed : (first last : Word) (ws : List Word) {d : ℕ} → Opens first → Closes last → Rises ws d
    → Adds (first ∷ (ws ++ last ∷ [])) (1 + d)
bracketed first last ws {d} opens closes a = record {
  n = 2;
  ends = λ c cs.
      ap (λ counts. after counts (ws ++ last ∷ [])) (opens c cs)
      ∙ after-append (0 ∷ (c + 1) ∷ cs) ws (last ∷ [])
      ∙ ap (λ counts. after counts (last ∷ [])) (a.ends 0 ((c + 1) ∷ cs))
      ∙ closes (a.count 0) (c + 1) cs
      ∙ ap (λ m. m ∷ cs) (omega arith);
  peaks = λ c cs.
      let inner : sum ((c + 1) ∷ cs) + d ≤ peak (0 ∷ (c + 1) ∷ cs) ws = a.peaks 0 ((c + 1) ∷ cs) in
      let outside = sum-cons (c + 1) cs in
      let front = rises-first (0 ∷ (c + 1) ∷ cs) ws (last ∷ []) in
      let outer : peak (0 ∷ (c + 1) ∷ cs) (ws ++ last ∷ []) ≤ peak (c ∷ cs) (first ∷ (ws ++ last ∷ [])) =
      subst (λ counts. peak counts (ws ++ last ∷ []) ≤ peak (c ∷ cs) (first ∷ (ws ++ last ∷ []))) (opens c cs)
      (le-max_right (sum (c ∷ cs)) (peak (counted first.kind (c ∷ cs)) (ws ++ last ∷ []))) in
      omega (arith, inner, outside, front, outer);
}

-- ---- separators

abbrev pub Separates : Word → Type 0
Separates w = (c : ℕ) (cs : List ℕ) → counted w.kind (c ∷ cs) ≡ 0 ∷ cs

pub separator : (w : Word) → Separates w → Rises (w ∷ []) 0
separator w separates = record {
  count = λ c. 0;
  ends = separates;
  peaks = λ c cs. let top : sum (c ∷ cs) ≤ peak (c ∷ cs) (w ∷ []) = begins (c ∷ cs) (w ∷ []) in
      let is = sum-cons c cs in
      omega (arith, top, is);
}

pub separator-before : (w : Word) (ws : List Word) {d : ℕ} → Separates w → Rises ws d → Rises (w ∷ ws) d
separator-before w ws {d} separates a = lower d (le-max_right 0 d) (joined (w ∷ []) ws (separator w separates) a)

-- each text rises by its number
abbrev pub AllRise : List (List Word) → List ℕ → Type 0
AllRise [] [] = Unit {0}
AllRise [] (d ∷ ds) = ⊥
AllRise (x ∷ xs) [] = ⊥
AllRise (x ∷ xs) (d ∷ ds) = Rises x d × AllRise xs ds

pub empty : Rises [] 0
empty = loose nothing

pub behind-rises : (m : Punctuation) → Separates (punctuation m) → (xs : List (List Word)) (ds : List ℕ) → AllRise xs ds
    → Rises (behind m xs) (largest ds)
behind-rises m separates [] [] all = empty
behind-rises m separates [] (d ∷ ds) all = absurd all
behind-rises m separates (x ∷ xs) [] all = absurd all
behind-rises m separates (x ∷ xs) (d ∷ ds) all =
    separator-before (punctuation m) (x ++ behind m xs) separates
    (joined x (behind m xs) all.0 (behind-rises m separates xs ds all.1))

pub separated-rises : (m : Punctuation) → Separates (punctuation m) → (xs : List (List Word)) (ds : List ℕ)
    → AllRise xs ds → Rises (separated m xs) (largest ds)
separated-rises m separates [] [] all = empty
separated-rises m separates [] (d ∷ ds) all = absurd all
separated-rises m separates (x ∷ xs) [] all = absurd all
separated-rises m separates (x ∷ xs) (d ∷ ds) all = joined x (behind m xs) all.0 (behind-rises m separates xs ds all.1)

pub closed-rises : (xs : List (List Word)) (ds : List ℕ) → AllRise xs ds → Rises (closed xs) (largest ds)
closed-rises [] [] all = empty
closed-rises [] (d ∷ ds) all = absurd all
closed-rises (x ∷ xs) [] all = absurd all
closed-rises (x ∷ xs) (d ∷ ds) all =
    joined x (punctuation punctuations.Semicolon ∷ closed xs) all.0
    (separator-before (punctuation punctuations.Semicolon) (closed xs) (λ c cs. refl) (closed-rises xs ds all.1))

-- ---- lines: what a word's line is tells nothing of its cost

pub on-line : (l : ℕ) (ws : List Word) {d : ℕ} → Rises ws d → Rises (on_line l ws) d
on-line l [] a = a
on-line l (w ∷ ws) a = record { count = a.count; ends = a.ends; peaks = a.peaks }
