-- Code with the same parameters, slots and body agrees with the source as well.
-- For: `Agrees` (golf_meaning/specs/Judged.antt) and `check_body`, `check_all` (src/comparison.rt)
-- By: cases of the function that stands at a number; no induction
use Rattle.std.proofs.Common.{◌≡◌, ◌↔◌, ℕ, zero, suc, ◌+◌, ◌-◌, ◌<◌, pos, Bool, List, [], ◌∷◌, ◌++◌, length, drop}
use Rattle.std.proofs.Common.{replicate, map, refl, sym, ap, subst, ◌∙◌, slice_get, arith}
use Rattle.std.specs.Prelude.{Option, Some, None}
use Rattle.golf_syntax_trees.specs.declared.declarations.Decl.{Decl}
use Rattle.golf_syntax_trees.specs.declared.declarations.Decl.TheVariants as d
use Rattle.golf_syntax_trees.specs.declared.declarations.File.{File}
use Rattle.golf_data.specs.declared.value.Value.{Value}
use Rattle.golf_data.specs.declared.code.Code.{Code}
use Rattle.golf_data.specs.declared.code.Function.{Function}
use Rattle.golf_data.specs.declared.code.CodeLine.{CodeLine}
use Rattle.golf_check_types.specs.declared.facts.Fact.{Fact}
use Rattle.golf_check_types.specs.declared.operands.Signature.{Signature}
use Rattle.golf_check_types.specs.declared.scopes.Scope.{Scope}
use Rattle.golf_check_types.specs.Files.{facts_in}
use Rattle.golf_check.specs.Heads.{scope_of}
use Rattle.golf_code_of.specs.declared.tables.Tables.{Tables}
use Rattle.golf_code_of.specs.Files.{CodeOf, function, giving, main_line, main_number, made_function}
use Rattle.golf_code_facts.specs.Files.{past_const, past_signature, initial_by, body_by, entry_by, decls_by, file_by}
use Rattle.golf_code_facts.specs.Files.{tables_by}
use Rattle.golf_code.specs.Comparison.{HasSameBody, BeginAs}
use Rattle.golf_meaning_flat.specs.Worlds.{Answer, Told}
use Rattle.golf_meaning_flat.specs.Flat.{exec}
use Rattle.golf_meaning_flat.specs.Laws.{Agree}
use Rattle.golf_meaning_statements.specs.Functions.{CodeMeaning, begins}
use Rattle.golf_meaning_statements.specs.Files.{function_count, giving_in, MeaningOf}
use Rattle.golf_meaning_statements.proofs.WholeFiles.{files-agree}
use Rattle.golf_code.proofs.Laws.{code_is}
use Rattle.golf_meaning.specs.Judged.{AreSame, IsCodeOf, IsFunctionNumber, FunctionAgrees, Agrees, AllAreCodeOf}
use Rattle.golf_meaning.specs.Judged.{AllAgree}

-- what code means goes by its slots and its body
means : List Bool → ℕ → List CodeLine → List Value → List Answer → ℕ → Told
means gives slots body arguments answers n =
    let filled = arguments ++ replicate (slots - length arguments) (Value.Int (pos 0)) in
    exec gives body n 0 (record { slots = filled; operands = [] }) (begins answers)

same-means : (gives : List Bool) (f g : Function) → HasSameBody f g → (arguments : List Value) (answers : List Answer)
    → CodeMeaning gives g arguments answers ≡ CodeMeaning gives f arguments answers
unfolding means
same-means gives f g s arguments answers =
    ap (λ k. means gives k g.body arguments answers) (sym s.slots)
    ∙ ap (λ ls. means gives f.slots ls arguments answers) (sym s.body)

same-agrees : (file : File) (k : ℕ) (x y : Option Function) → AreSame x y → FunctionAgrees file k y
    → FunctionAgrees file k x
same-agrees file k (Some f) (Some g) s h =
    λ arguments answers enough ruled.
    subst (λ (t : ℕ → Told). Agree (MeaningOf file k arguments answers) t)
    (same-means (giving_in file) f g s arguments answers) (h arguments answers (enough ∙ s.params) ruled)
same-agrees file k (Some f) None s h = absurd s
same-agrees file k None y s h = absurd s

file-agrees : (file : File) (k : ℕ) (x y : Option Function) → AreSame x y → slice_get (CodeOf file).functions k ≡ y
    → FunctionAgrees file k y
file-agrees file k x (Some f) s is = (files-agree file).1 k f is
file-agrees file k (Some f) None s is = absurd s
file-agrees file k None None s is = absurd s

pub body-agrees : (file : File) (code : Code) (k : ℕ) → IsCodeOf file code k → Agrees file code k
body-agrees file code k s =
    let theirs = slice_get (CodeOf file).functions k in
    same-agrees file k (slice_get code.functions k) theirs s
    (file-agrees file k (slice_get code.functions k) theirs s refl)

-- a function that is there is the same as itself
own : (fs : List Function) (k : ℕ) → k < length fs → AreSame (slice_get fs k) (slice_get fs k)
own [] k less = absurd (omega (arith, less))
own (f ∷ fs) zero less = record { params = refl; slots = refl; body = refl }
own (f ∷ fs) (suc k) less = own fs k (omega (arith, less))

-- the functions of a file are there, and so are the same as themselves
pub same-as-itself : (file : File) (code : Code) (k : ℕ) → code ≡ CodeOf file → IsFunctionNumber file k
    → AreSame (slice_get code.functions k) (slice_get code.functions k)
same-as-itself file code k e h =
    let count = (files-agree file).0 in
    subst (λ (c : Code). AreSame (slice_get c.functions k) (slice_get c.functions k)) (sym e)
    (own (CodeOf file).functions k (omega (arith, h.1, count)))

module _ (t : Tables) (gives : List Bool) where
  -- there are as many functions as are declared
  counted : (ss : List Signature) (g n : ℕ) (xs : List Decl) (fs : List Fact)
      → length (decls_by t gives ss g n xs fs).functions.own ≡ function_count xs
  counted ss g n [] fs = refl
  counted ss g n (d.Const l m c ∷ xs) fs = counted ss g n xs (past_const c fs)
  counted ss g n (d.Var v ∷ xs) fs = counted ss (g + 1) n xs (initial_by t g v.line v.content fs).left
  counted ss g n (d.Struct l m fields ∷ xs) fs = counted ss g n xs fs
  counted ss g n (d.Func f ∷ xs) fs = let x =
      body_by t n f fs in ap suc (counted (past_signature ss) g (n + length x.laid.made) xs x.left)

by-number : (fs gs more : List Function) → BeginAs fs gs
    ↔ ((k : ℕ) → k < length gs → AreSame (slice_get fs k) (slice_get (gs ++ more) k))
by-number fs [] more = (λ t k lt. absurd (omega (arith, lt)), λ h. tt)
by-number [] (g ∷ gs) more = (λ t. absurd t, λ h. h 0 (omega arith))
by-number (f ∷ fs) (g ∷ gs) more = let both =
    by-number fs gs more in (
      λ t. forth t.0 (both.0 t.1),
      λ h. (h 0 (omega arith), both.1 (λ k lt. h (suc k) (omega (arith, lt)))),
    )
  where
    forth : HasSameBody f g → ((k : ℕ) → k < length gs → AreSame (slice_get fs k) (slice_get (gs ++ more) k))
        → (k : ℕ) → k < length (g ∷ gs) → AreSame (slice_get (f ∷ fs) k) (slice_get (g ∷ (gs ++ more)) k)
    forth s h zero lt = s
    forth s h (suc k) lt = h k (omega (arith, lt))

past-first : (fs : List Function) (k : ℕ) → slice_get (drop 1 fs) k ≡ slice_get fs (suc k)
past-first [] k = refl
past-first (f ∷ fs) k = refl

-- the functions and methods of a file stand after function 0
all-same : (file : File) (code : Code) (e : Function) (gs more : List Function) → e
    ∷ (gs ++ more) ≡ (CodeOf file).functions → length gs ≡ function_count file.declarations
    → BeginAs (drop 1 code.functions) gs ↔ AllAreCodeOf file code
all-same file code e gs more is count = (
  λ t k n. subst (λ fs. AreSame (slice_get code.functions k) (slice_get fs k)) is
      (forth t k n),
  λ h. both.1 (back h),
)
  where
    both : BeginAs (drop 1 code.functions) gs
        ↔ ((k : ℕ) → k < length gs → AreSame (slice_get (drop 1 code.functions) k) (slice_get (gs ++ more) k))
    both = by-number (drop 1 code.functions) gs more

    forth : BeginAs (drop 1 code.functions) gs → (k : ℕ) → IsFunctionNumber file k
        → AreSame (slice_get code.functions k) (slice_get (e ∷ (gs ++ more)) k)
    forth t zero n = absurd (omega (arith, n.0))
    forth t (suc k) n = subst (λ o. AreSame o (slice_get (gs ++ more) k)) (past-first code.functions k)
        (both.0 t k (omega (arith, n.1, count)))

    back : AllAreCodeOf file code → (k : ℕ) → k < length gs
        → AreSame (slice_get (drop 1 code.functions) k) (slice_get (gs ++ more) k)
    back h k lt =
        subst (λ o. AreSame o (slice_get (gs ++ more) k)) (sym (past-first code.functions k))
        (subst (λ fs. AreSame (slice_get code.functions (suc k)) (slice_get fs (suc k))) (sym is)
        (h (suc k) (omega arith, omega (arith, lt, count))))

-- the functions that the facts of a file make are its functions and methods
pub all-by-facts : (file : File) (code : Code) (s : Scope) (xs : List Decl) (fs : List Fact) (gs : List Function)
    → s ≡ scope_of file → xs ≡ file.declarations → fs ≡ facts_in file → gs ≡ drop 1 code.functions
    → BeginAs gs (file_by (tables_by xs fs) s.file xs fs).functions.own ↔ AllAreCodeOf file code
all-by-facts file code s xs fs gs is at told past =
    let by = file_by (tables_by xs fs) s.file xs fs in
    subst (λ (hs : List Function). BeginAs hs by.functions.own ↔ AllAreCodeOf file code) (sym past)
    (all-same file code (function (giving s.file) 0 0 (main_line xs)
    (entry_by (main_number s.file) (main_line xs) by.initials)) by.functions.own
    (map (made_function (giving s.file)) by.functions.made)
    (ap (λ (c : Code). c.functions) (code_is file s xs fs is at told))
    (counted (tables_by xs fs) (giving s.file) s.file.functions 0 (length s.file.functions + 1) xs fs
    ∙ ap function_count at))

pub all-agree : (file : File) (code : Code) → AllAreCodeOf file code → AllAgree file code
all-agree file code h = λ k n. body-agrees file code k (h k n)

-- the code of a file has each of its functions
pub own-code : (file : File) (code : Code) → code ≡ CodeOf file → AllAreCodeOf file code
own-code file code is = λ k n. subst (λ (c : Code). AreSame (slice_get code.functions k) (slice_get c.functions k)) is
    (same-as-itself file code k is n)
