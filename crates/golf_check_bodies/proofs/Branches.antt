-- How the blocks of `else if` open one in another, and end all at once.
-- For: `if_else`, `case`, `otherwise` and `end_all`, src/statements.rt; `else_walk`,
-- golf_check_types/specs/Statements.antt
-- By: computing; no induction
use Rattle.std.proofs.Common.{◌≡◌, ℕ, ◌+◌, ◌-◌, List, [], ◌∷◌, ◌++◌, map, length, take, refl, sym, ap, ◌∙◌, subst}
use Rattle.std.proofs.Common.{append_assoc, append-nil, arith, length-append}
use Rattle.std.specs.Prelude.{Option}
use Rattle.golf_syntax_trees.specs.declared.expressions.Expr.{Expr}
use Rattle.golf_syntax_trees.specs.declared.statements.Simple.{Simple}
use Rattle.golf_syntax_trees.specs.declared.statements.Stmt.{Stmt}
use Rattle.golf_syntax_trees.specs.declared.statements.Stmt.TheVariants as st
use Rattle.golf_syntax_trees.specs.declared.statements.Clause.TheOpen as S
use Rattle.golf_syntax_trees.specs.declared.statements.Clause.TheFolds.{fold-roll-Stmt}
use Rattle.golf_syntax_trees.specs.Spines.{risen}
use Rattle.golf_syntax_trees.proofs.Spines.{risen-last}
use Rattle.golf_check_types.specs.declared.fault.TypeFault.{TypeFault}
use Rattle.golf_check_types.specs.declared.facts.Fact.{Fact}
use Rattle.golf_check_types.specs.declared.scopes.Scope.{Scope}
use Rattle.golf_check_types.specs.declared.locals.Local.{Local}
use Rattle.golf_check_types.specs.Faults.{StopsAt}
use Rattle.golf_check_types.specs.Scopes.{begun, closed_to}
use Rattle.golf_check_types.specs.Statements.{Walked, Walk, both, closed, behind, then_walk, else_walk, clause_step}
use Rattle.golf_check_types.specs.Statements.{stmt_step, walk}
use Rattle.golf_check_types.proofs.Seams.{refuses_front}

walk-IfElse : (l : ℕ) (first : Option Simple) (test : Expr) (body : List Stmt) (next : Stmt) (s : Scope)
    → walk (st.IfElse l first test body next) s ≡ else_walk l first test (map walk body) (walk next) s
unfolding walk
walk-IfElse l first test body next s =
    ap (λ w. w s) (ap walk (sym (st.rolls-IfElse l first test body next))
    ∙ fold-roll-Stmt (ℕ → Walk) Walk clause_step stmt_step (S.IfElse l first test body next))

taken : {A : Type 0} (xs ys zs : List A) → take (length xs) ((xs ++ ys) ++ zs) ≡ xs ++ []
taken [] ys zs = refl
taken (x ∷ xs) ys zs = ap (λ us. x ∷ us) (taken xs ys zs)

-- the block of an `if` with its `else` is ended
pub block_ended : (s : Scope) (a b : Walked)
    → closed_to (length s.locals) (behind (behind (begun s) a) b) ≡ behind s (closed (both a b))
block_ended s a b =
    let sum : s.next + length a.slots + length b.slots ≡ s.next + length (a.slots ++ b.slots) =
    omega (arith, length-append a.slots b.slots) in
    let back : s.depth + 1 - 1 ≡ s.depth = omega arith in
    ap (λ (known : List Local). record s {
      locals = known;
      depth = s.depth + 1 - 1;
      next = s.next + length a.slots + length b.slots;
    }) (taken s.locals a.declares b.declares)
    ∙ (ap (λ (depth : ℕ). record s {
      locals = s.locals ++ [];
      depth = depth;
      next = s.next + length a.slots + length b.slots;
    }) back
    ∙ ap (λ (next : ℕ). record s { locals = s.locals ++ []; next = next }) sum)

-- The branches so far keep the rules. The blocks with these marks are still to be ended.
abbrev pub Behind : Stmt → Scope → List Fact → Stmt → Scope → List Fact → List ℕ → Type 0
Behind whole s old last t new marks = record {
  faults : (walk last t).faults ≡ (walk whole s).faults;
  facts : new ++ (walk last t).facts ≡ old ++ (walk whole s).facts;
  scope : risen closed_to marks (behind t (walk last t)) ≡ behind s (walk whole s);
}

-- one branch more
pub branches : (whole last next : Stmt) (s t u v : Scope) (old mid new : List Fact) (marks more : List ℕ) (mark l : ℕ)
    (first : Option Simple) (test k : Expr) (body sts : List Stmt)
    → Behind whole s old last t mid marks → last ≡ st.IfElse l first test body next → k ≡ test → sts ≡ body
    → u ≡ begun t → mark ≡ length t.locals → more ≡ marks ++ mark ∷ []
    → (then_walk l first k (map walk sts) u).faults ≡ [] → v ≡ behind u (then_walk l first k (map walk sts) u)
    → new ≡ mid ++ (then_walk l first k (map walk sts) u).facts
    → Behind whole s old next v new more
branches whole last next s t u v old mid new marks more mark l first test k body sts h is same also begins marked adds
    none then_is found =
    let a = then_walk l first test (map walk body) (begun t) in
    let same_part : then_walk l first k (map walk sts) u ≡ a =
    ap (λ e. then_walk l first e (map walk sts) u) same
    ∙ (ap (λ xs. then_walk l first test (map walk xs) u) also
    ∙ ap (then_walk l first test (map walk body)) begins) in
    let here : v ≡ behind (begun t) a = then_is ∙ (ap (behind u) same_part ∙ ap (λ z. behind z a) begins) in
    let b = walk next (behind (begun t) a) in
    let there : walk next v ≡ b = ap (walk next) here in
    let all : walk last t ≡ closed (both a b) = ap (λ z. walk z t) is ∙ walk-IfElse l first test body next t in
    let clean : a.faults ≡ [] = sym (ap (λ (w : Walked). w.faults) same_part) ∙ none in
    record {
      faults = ap (λ (w : Walked). w.faults) there
          ∙ (sym (ap (λ fs. fs ++ b.faults) clean) ∙ (sym (ap (λ (w : Walked). w.faults) all) ∙ h.faults));
      facts = ap (λ (w : Walked). new ++ w.facts) there
          ∙ (ap (λ fs. fs ++ b.facts) (found ∙ ap (λ (w : Walked). mid ++ w.facts) same_part)
          ∙ (append_assoc mid a.facts b.facts
          ∙ (sym (ap (λ (w : Walked). mid ++ w.facts) all) ∙ h.facts)));
      scope = ap (λ ms. risen closed_to ms (behind v (walk next v))) adds
          ∙ (risen-last closed_to marks mark (behind v (walk next v))
          ∙ (ap (risen closed_to marks) (ap (λ n. closed_to n (behind v (walk next v))) marked
          ∙ (ap (λ w. closed_to (length t.locals) (behind v w)) there
          ∙ (ap (λ z. closed_to (length t.locals) (behind z b)) here
          ∙ (block_ended t a b
          ∙ sym (ap (behind t) all)))))
          ∙ h.scope));
    }

-- a branch breaks a rule
pub branch_refused : (f : TypeFault) (whole last next : Stmt) (s t u : Scope) (old mid : List Fact) (marks : List ℕ)
    (l : ℕ) (first : Option Simple) (test k : Expr) (body sts : List Stmt)
    → Behind whole s old last t mid marks → last ≡ st.IfElse l first test body next → k ≡ test → sts ≡ body
    → u ≡ begun t
    → StopsAt f (then_walk l first k (map walk sts) u).faults → StopsAt f (walk whole s).faults
branch_refused f whole last next s t u old mid marks l first test k body sts h is same also begins refuses =
    let a = then_walk l first test (map walk body) (begun t) in
    let same_part : then_walk l first k (map walk sts) u ≡ a =
    ap (λ e. then_walk l first e (map walk sts) u) same
    ∙ (ap (λ xs. then_walk l first test (map walk xs) u) also
    ∙ ap (then_walk l first test (map walk body)) begins) in
    let b = walk next (behind (begun t) a) in
    let all : walk last t ≡ closed (both a b) = ap (λ z. walk z t) is ∙ walk-IfElse l first test body next t in
    let front : StopsAt f (a.faults ++ b.faults) =
    refuses_front f a.faults b.faults (subst (λ (w : Walked). StopsAt f w.faults) same_part refuses) in
    subst (StopsAt f) (sym (ap (λ (w : Walked). w.faults) all) ∙ h.faults) front
