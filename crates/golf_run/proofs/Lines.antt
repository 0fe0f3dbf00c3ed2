-- Lines that are written one by one.
-- For: `write_told` and `write_entries`, src/collection_lines.rt; `HasWritten`, specs/Lines.antt
-- By: cases of the outcome of a write; for a loop over entries, induction over their list
use Rattle.std.proofs.Common.{◌≡◌, ℕ, zero, suc, ◌+◌, ◌<◌, List, [], ◌∷◌, ◌++◌, length, take, drop, get_or, refl, sym}
use Rattle.std.proofs.Common.{ap, subst, ◌∙◌, append_assoc, append-nil, arith}
use Rattle.std.specs.Prelude.{Option, Result, Ok, Err, IsErr, IsErrAnd}
use Rattle.std.specs.Io.KnownBytes.{Appends}
use Rattle.std.proofs.KnownBytes.{Appends-trans}
use Rattle.golf_base.specs.Causes.{Rose, WritesPrefix}
use Rattle.golf_run_texts.specs.Output.{joined}
use Rattle.golf_run.specs.declared.fault.RunFault.{RunFault}
use Rattle.golf_run.specs.declared.fault.RunFault.TheVariants as faults
use Rattle.golf_run.specs.Lines.{HasWritten}
use Rattle.golf_run.proofs.Writing.{joined-append}

module _ {A : Type 0} where
  -- the first line was cut
  pub line-broken : (r : Result A RunFault) (line : List ℕ) (more : List (List ℕ)) (old new : Option (List ℕ)) (f h : ℕ)
      → IsErr r → IsErrAnd r (λ e. e ≡ faults.Write) → WritesPrefix old new line → Rose f h
      → HasWritten r (line ∷ more) old new f h
  line-broken (Ok x) line more old new f h i a w rose = cc
  line-broken (Err faults.Write) line more old new f h i a w rose = (
    record {
      done = [];
      cut = line;
      prefix = w.0;
      rest = w.1;
      later = more;
      order = refl;
      is_prefix = w.2;
      got = w.3;
    },
    rose,
  )
  line-broken (Err faults.Memory) line more old new f h i a w rose = cc

  -- after lines that are whole
  pub written-after : {f g : ℕ} (r : Result A RunFault) (a b : List (List ℕ)) (old mid new : Option (List ℕ)) (h : ℕ)
      → Appends old mid (joined a) → g ≡ f → HasWritten r b mid new g h → HasWritten r (a ++ b) old new f h
  written-after (Ok x) a b old mid new h before steady w =
      (subst (Appends old new) (sym (joined-append a b)) (Appends-trans _ _ _ _ _ before w.0), w.1 ∙ steady)
  written-after (Err faults.Write) a b old mid new h before steady w = (
    record {
      done = a ++ w.0.done;
      cut = w.0.cut;
      prefix = w.0.prefix;
      rest = w.0.rest;
      later = w.0.later;
      order = ap (λ ls. a ++ ls) w.0.order ∙ sym (append_assoc a w.0.done (w.0.cut ∷ w.0.later));
      is_prefix = w.0.is_prefix;
      got = subst (Appends old new) (sym (append_assoc (joined a) (joined w.0.done) w.0.prefix)
          ∙ ap (λ t. t ++ w.0.prefix) (sym (joined-append a w.0.done))) (Appends-trans _ _ _ _ _ before w.0.got);
    },
    subst (λ n. Rose n h) steady w.1,
  )
  written-after (Err faults.Memory) a b old mid new h before steady w = (
    record {
      done = a ++ w.0.done;
      later = w.0.later;
      order = ap (λ ls. a ++ ls) w.0.order ∙ sym (append_assoc a w.0.done w.0.later);
      got = subst (Appends old new) (sym (joined-append a w.0.done)) (Appends-trans _ _ _ _ _ before w.0.got);
    },
    w.1 ∙ steady,
  )

-- lines of which the first ones did not come about
early : (A : Type 0) (e : RunFault) (a more : List (List ℕ)) (old new : Option (List ℕ)) (f h : ℕ)
    → HasWritten {X = A} (Err e) a old new f h → HasWritten {X = A} (Err e) (a ++ more) old new f h
early A faults.Write a more old new f h w = (
  record {
    done = w.0.done;
    cut = w.0.cut;
    prefix = w.0.prefix;
    rest = w.0.rest;
    later = w.0.later ++ more;
    order = ap (λ ls. ls ++ more) w.0.order ∙ append_assoc w.0.done (w.0.cut ∷ w.0.later) more;
    is_prefix = w.0.is_prefix;
    got = w.0.got;
  },
  w.1,
)
early A faults.Memory a more old new f h w = (
  record {
    done = w.0.done;
    later = w.0.later ++ more;
    order = ap (λ ls. ls ++ more) w.0.order
        ∙ append_assoc w.0.done w.0.later more;
    got = w.0.got;
  },
  w.1,
)

-- the same error, of another call
same-error : (A B : Type 0) (e : RunFault) (lines : List (List ℕ)) (old new : Option (List ℕ)) (f h : ℕ)
    → HasWritten {X = A} (Err e) lines old new f h → HasWritten {X = B} (Err e) lines old new f h
same-error A B faults.Write lines old new f h w = w
same-error A B faults.Memory lines old new f h w = w

-- a call that was to write these lines failed, and its error is the answer
pub record PassesOn (A : Type 0) {B : Type 0} (answer : Result B RunFault) (lines : List (List ℕ))
    (old new : Option (List ℕ)) (f h : ℕ) : Type 0 where
  pub fault : RunFault
  pub outcome : Result A RunFault
  pub was : outcome ≡ Err fault
  pub written : HasWritten outcome lines old new f h
  pub failed : IsErr answer
  pub same : IsErrAnd answer (λ e. e ≡ fault)

pub passed : {A B : Type 0} {answer : Result B RunFault} {lines : List (List ℕ)} {old new : Option (List ℕ)} {f h : ℕ}
    → PassesOn A answer lines old new f h → HasWritten answer lines old new f h
passed {answer = Ok x} p = let i = p.failed in cc
passed {A} {B} {answer = Err x} {lines} {old} {new} {f} {h} p =
    let there : p.outcome ≡ Err x = p.was ∙ ap (λ y. Err y) (sym p.same) in
    same-error A B x lines old new f h (subst (λ y. HasWritten y lines old new f h) there p.written)

pub passed-early : {A B : Type 0} {answer : Result B RunFault} {lines : List (List ℕ)} {old new : Option (List ℕ)}
    {f h : ℕ} (more : List (List ℕ)) → PassesOn A answer lines old new f h
    → HasWritten answer (lines ++ more) old new f h
passed-early {A} {B} {answer} {lines} {old} {new} {f} {h} more p =
    let first : PassesOn A answer (lines ++ more) old new f h = record {
      fault = p.fault;
      outcome = Err p.fault;
      was = refl;
      written = early A p.fault lines more old new f h (subst (λ y. HasWritten y lines old new f h) p.was p.written);
      failed = p.failed;
      same = p.same;
    } in
    passed first

-- ---- the lines of things that are counted from 0

module _ {X : Type 0} (one : ℕ → X → List (List ℕ)) (all : ℕ → List X → List (List ℕ)) (none : (k : ℕ) → all k [] ≡ [])
    (more : (k : ℕ) (x : X) (xs : List X) → all k (x ∷ xs) ≡ one k x ++ all (k + 1) xs) where
  split : (xs : List X) (k i n : ℕ) (d : X) → n ≡ k + i → i < length xs → all k xs ≡ all k (take i xs)
      ++ (one n (get_or xs i d) ++ all (n + 1) (drop (suc i) xs))
  split [] k i n d is l = absurd (omega (arith, l))
  split (x ∷ xs) k zero n d is l =
      let here : k ≡ n = omega (arith, is) in
      more k x xs ∙ ap (λ m. one m x ++ all (m + 1) xs) here
      ∙ ap (λ ls. ls ++ (one n x ++ all (n + 1) xs)) (sym (none k))
  split (x ∷ xs) k (suc i) n d is l =
      let rest = one n (get_or xs i d) ++ all (n + 1) (drop (suc i) xs) in
      more k x xs ∙ ap (λ ls. one k x ++ ls) (split xs (k + 1) i n d (omega (arith, is)) (omega (arith, l)))
      ∙ sym (append_assoc (one k x) (all (k + 1) (take i xs)) rest) ∙ ap (λ ls. ls ++ rest) (sym (more k x (take i xs)))

  grown : (xs : List X) (k i n : ℕ) (d : X) → n ≡ k + i → i < length xs → all k (take (suc i) xs) ≡ all k (take i xs)
      ++ one n (get_or xs i d)
  grown [] k i n d is l = absurd (omega (arith, l))
  grown (x ∷ xs) k zero n d is l =
      let here : k ≡ n = omega (arith, is) in
      more k x [] ∙ ap (λ ls. one k x ++ ls) (none (k + 1)) ∙ append-nil (one k x) ∙ ap (λ m. one m x) here
      ∙ ap (λ ls. ls ++ one n x) (sym (none k))
  grown (x ∷ xs) k (suc i) n d is l =
      more k x (take (suc i) xs) ∙ ap (λ ls. one k x ++ ls)
      (grown xs (k + 1) i n d (omega (arith, is)) (omega (arith, l)))
      ∙ sym (append_assoc (one k x) (all (k + 1) (take i xs)) (one n (get_or xs i d)))
      ∙ ap (λ ls. ls ++ one n (get_or xs i d)) (sym (more k x (take i xs)))

  pub loop-next : (xs : List X) (i : ℕ) (d : X) (old mid new : Option (List ℕ)) → i < length xs
      → Appends old mid (joined (all 0 (take i xs))) → Appends mid new (joined (one i (get_or xs i d)))
      → Appends old new (joined (all 0 (take (i + 1) xs)))
  loop-next xs i d old mid new l before a =
      let next : suc i ≡ i + 1 = omega arith in
      subst (Appends old new) (sym (joined-append (all 0 (take i xs)) (one i (get_or xs i d)))
      ∙ ap joined (sym (grown xs 0 i i d (omega arith) l) ∙ ap (λ n. all 0 (take n xs)) next))
      (Appends-trans _ _ _ _ _ before a)

  pub loop-cut : {A B : Type 0} {answer : Result B RunFault} {mid new : Option (List ℕ)} {f g h : ℕ} (xs : List X)
      (i : ℕ) (d : X) (old : Option (List ℕ)) → i < length xs → Appends old mid (joined (all 0 (take i xs))) → g ≡ f
      → PassesOn A answer (one i (get_or xs i d)) mid new g h
      → HasWritten answer (all 0 xs) old new f h
  loop-cut {answer = answer} {mid = mid} {new = new} {f = f} {h = h} xs i d old l before steady p =
      let this = one i (get_or xs i d) in
      let rest = all (i + 1) (drop (suc i) xs) in
      subst (λ ls. HasWritten answer ls old new f h) (sym (split xs 0 i i d (omega arith) l))
      (written-after answer (all 0 (take i xs)) (this ++ rest) old mid new h before steady (passed-early rest p))

-- what is told of each of them by number, one line or none
pub one-line : (line : List ℕ) (old new : Option (List ℕ)) → Appends old new line → Appends old new (joined (line ∷ []))
one-line line old new a = subst (Appends old new) (sym (append-nil line)) a
