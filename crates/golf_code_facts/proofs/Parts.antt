-- The code by facts of statements put together, and of `go` and `defer`, is their code.
-- For: `then`, `or_else` and `begin_lay`, golf_code_facts/specs/Statements.antt.
-- By: computing; induction over the list of arguments for `go` and `defer`.
use Rattle.std.proofs.Common.{◌≡◌, ℕ, suc, ◌+◌, List, [], ◌∷◌, ◌++◌, length, map, refl, sym, ap, ◌∙◌, append_assoc}
use Rattle.std.proofs.Common.{arith}
use Rattle.std.specs.Prelude.{flat_map}
use Rattle.golf_syntax_trees.specs.declared.expressions.Expr.{Expr}
use Rattle.golf_data.specs.declared.code.Instr.{Instr}
use Rattle.golf_check_types.specs.declared.facts.Fact.{Fact}
use Rattle.golf_check_types.specs.declared.operands.Operand.{Operand}
use Rattle.golf_check_types.specs.declared.scopes.Scope.{Scope}
use Rattle.golf_check_types.specs.Scopes.{begun}
use Rattle.golf_check_types.specs.Expressions.{facts_of}
use Rattle.golf_check_types.specs.Judgments.{judge_at, Judge}
use Rattle.golf_check_types.specs.Statements.{Walk, behind}
use Rattle.golf_code_layout.specs.Piece.{Piece, all}
use Rattle.golf_code_of.specs.declared.surroundings.Around.{Around}
use Rattle.golf_code_of.specs.declared.tables.Tables.{Tables}
use Rattle.golf_code_of.specs.Expressions.{Made}
use Rattle.golf_code_of.specs.ExpressionCode.{piece_at, argument_at, coded}
use Rattle.golf_code_of.specs.Calls.{ArgumentCode, pushes, makings, beginning}
use Rattle.golf_code_of.proofs.Judgments.{judgments-agree}
use Rattle.golf_code_of.specs.Statements.{Laid, StatementPart, laid, follow, past, within, wrapped, then, in_block}
use Rattle.golf_code_of.specs.Statements.{behind_test}
use Rattle.golf_code_of.specs.Statements.{ends_here as ends_here_part, or_else as or_else_part, begin_part}
use Rattle.golf_code_facts.specs.Facts.{skip, skip_all}
use Rattle.golf_code_facts.specs.Expressions.{taking, arguments}
use Rattle.golf_code_facts.specs.Statements.{LaidBy, LayBy, PieceBy, by, by_piece, then as then_by, after, after_test}
use Rattle.golf_code_facts.specs.Statements.{ends_here, branches, or_else, begin_lay}
use Rattle.golf_code_facts.proofs.Steps.{One, takes, facts, args, all_taken, all_skipped, called_inner}
use Rattle.golf_code_facts.proofs.Expressions.{made-alone, made-among, past-among}
use Rattle.golf_code_facts.proofs.Simple.{PieceFollows}

-- a statement: whatever names are known, its code is that by the first facts, and those after them are left
pub record Follows (x : StatementPart) (k : LayBy) : Type 0 where
  pub code : (a : Around) (s : Scope) (rest : List Fact) → k a ((x.walk s).facts ++ rest) ≡ by (x.lay a s) rest

pub on_piece : (w : Walk) (p : Scope → Piece) (k : List Fact → PieceBy) → PieceFollows w p k
    → Follows (record { walk = w; lay = λ a s. laid (p s) }) (by_piece k)
on_piece w p k f = record { code = λ a s rest. ap (λ (z : PieceBy). by (laid z.piece) z.left) (f.code s rest) }

-- if no function is made, as many stand before the next one
pub none_made : (a : Around) → record a { functions = a.functions + 0 } ≡ a
none_made a = ap (λ n. record a { functions = n }) (let e : a.functions + 0 ≡ a.functions = omega arith in e)

module _ (x y : StatementPart) (k j : LayBy) (fx : Follows x k) (fy : Follows y j) where
  pub on_then : Follows (then x y) (then_by k j)
  on_then = record { code = at }
    where
      step : Around → LaidBy → LaidBy
      step a f = let g = j (past a f.laid) f.left in by (follow f.laid g.laid) g.left

      at : (a : Around) (s : Scope) (rest : List Fact)
          → then_by k j a (((x.walk s).facts ++ (y.walk (behind s (x.walk s))).facts) ++ rest) ≡ by
          ((then x y).lay a s) rest
      at a s rest =
          ap (λ fs. step a (k a fs)) (append_assoc (x.walk s).facts (y.walk (behind s (x.walk s))).facts rest)
          ∙ ap (step a) (fx.code a s ((y.walk (behind s (x.walk s))).facts ++ rest))
          ∙ ap (λ (g : LaidBy). by (follow (x.lay a s) g.laid) g.left)
          (fy.code (past a (x.lay a s)) (behind s (x.walk s)) rest)

  pub on_or_else : (l : ℕ) → Follows (or_else_part l x y) (or_else l k j)
  on_or_else l = record { code = at }
    where
      step : Around → LaidBy → LaidBy
      step a f = let g = j (within 1 (past a f.laid)) f.left in by (branches l f.laid g.laid) g.left

      at : (a : Around) (s : Scope) (rest : List Fact)
          → or_else l k j a (((x.walk s).facts ++ (y.walk (behind s (x.walk s))).facts) ++ rest) ≡ by
          ((or_else_part l x y).lay a s) rest
      at a s rest =
          ap (λ fs. step a (k (within 2 a) fs))
          (append_assoc (x.walk s).facts (y.walk (behind s (x.walk s))).facts rest)
          ∙ ap (step a) (fx.code (within 2 a) s ((y.walk (behind s (x.walk s))).facts ++ rest))
          ∙ ap (λ (g : LaidBy). by (branches l (x.lay (within 2 a) s) g.laid) g.left)
          (fy.code (within 1 (past a (x.lay (within 2 a) s))) (behind s (x.walk s)) rest)

-- after code for which no function is made
pub on_after : (x y : StatementPart) (p : Scope → Piece) (k : List Fact → PieceBy) (j : LayBy) → PieceFollows x.walk p k
    → ((a : Around) (s : Scope) → x.lay a s ≡ laid (p s)) → Follows y j → Follows (then x y) (after k j)
on_after x y p k j fx is fy = record { code = at }
  where
    step : Around → PieceBy → LaidBy
    step a f = let g = j a f.left in by (wrapped (λ q. Piece.Then f.piece q) g.laid) g.left

    at : (a : Around) (s : Scope) (rest : List Fact)
        → after k j a (((x.walk s).facts ++ (y.walk (behind s (x.walk s))).facts) ++ rest) ≡ by
        ((then x y).lay a s) rest
    at a s rest =
        ap (λ fs. step a (k fs)) (append_assoc (x.walk s).facts (y.walk (behind s (x.walk s))).facts rest)
        ∙ ap (step a) (fx.code s ((y.walk (behind s (x.walk s))).facts ++ rest))
        ∙ ap (λ (g : LaidBy). by (wrapped (λ q. Piece.Then (p s) q) g.laid) g.left)
        (fy.code a (behind s (x.walk s)) rest)
        ∙ ap (λ b. by (follow (laid (p s)) (y.lay b (behind s (x.walk s)))) rest) (sym (none_made a))
        ∙ ap (λ f. by (follow f (y.lay (past a f) (behind s (x.walk s)))) rest) (sym (is a s))

module _ (x : StatementPart) (k : LayBy) (fx : Follows x k) where
  pub on_block : Follows (in_block x) k
  on_block = record { code = λ a s rest. fx.code a (begun s) rest }

  pub on_end : Follows (ends_here_part x) (ends_here k)
  on_end = record {
    code = λ a s rest. ap (λ (g : LaidBy). by (wrapped Piece.Block g.laid) g.left)
        (fx.code (within 1 a) s rest);
  }

  pub on_test : (t : Tables) (l : ℕ) (e : Expr) → Follows (behind_test t l e x) (after_test t l e k)
  on_test t l e = record { code = at }
    where
      tested : Piece → Laid → Laid
      tested p q = wrapped (λ r. all (p ∷ Piece.Unless l 0 ∷ r ∷ [])) q

      step : Piece → LaidBy → LaidBy
      step p g = by (tested p g.laid) g.left

      at : (a : Around) (s : Scope) (rest : List Fact)
          → after_test t l e k a ((facts_of (judge_at l s e) ++ (x.walk s).facts) ++ rest) ≡ by
          ((behind_test t l e x).lay a s) rest
      at a s rest =
          ap (λ (c : Made). step c.piece (k a (skip ((facts_of (judge_at l s e) ++ (x.walk s).facts) ++ rest))))
          (made-among t l s e (x.walk s).facts rest)
          ∙ ap (λ fs. step (piece_at t l s e) (k a fs)) (past-among t l s e (x.walk s).facts rest)
          ∙ ap (λ (g : LaidBy). by (tested (piece_at t l s e) g.laid) g.left) (fx.code a s rest)

-- Go and defer statements.

module _ (t : Tables) (l : ℕ) (s : Scope) where
  abbrev one : Expr → One l
  one e = record {
    take = taking t e;
    meaning = (judge_at l s e).meaning;
    inner = (judge_at l s e).inner;
    code = (coded t e).code l s;
    reads = record { code = made-alone t l s e };
  }

  takes-are : (xs : List Expr) → map (taking t) xs ≡ takes l (map one xs)
  takes-are [] = refl
  takes-are (x ∷ xs) = ap (λ z. taking t x ∷ z) (takes-are xs)

  facts-are : (xs : List Expr) → flat_map facts_of (map (judge_at l s) xs) ≡ facts l (map one xs)
  facts-are [] = refl
  facts-are (x ∷ xs) = ap (λ z. facts_of (judge_at l s x) ++ z) (facts-are xs)

  abbrev known : Expr → Judge → ArgumentCode
  known x j = record { meaning = (j l s).meaning; piece = ((coded t x).code l s).piece }

  args-are : (xs : List Expr) → args l (map one xs) ≡ map (argument_at t l s) xs
  args-are [] = refl
  args-are (x ∷ xs) = ap (λ j. known x j ∷ args l (map one xs)) (sym (judgments-agree t x))
      ∙ ap (λ z. argument_at t l s x ∷ z) (args-are xs)

  -- the arguments of a call that is begun
  pub all-pushed : (xs : List Expr) (rest : List Fact)
      → arguments l (map (taking t) xs) (flat_map facts_of (map (judge_at l s) xs) ++ rest) ≡ map (argument_at t l s) xs
  all-pushed xs rest =
      ap (λ fs. arguments l (map (taking t) xs) (fs ++ rest)) (facts-are xs)
      ∙ ap (λ ts. arguments l ts (facts l (map one xs) ++ rest)) (takes-are xs)
      ∙ all_taken l (map one xs) rest
      ∙ args-are xs

  as-many : (xs : List Expr) → length xs ≡ length (map one xs)
  as-many [] = refl
  as-many (x ∷ xs) = ap (λ n. suc n) (as-many xs)

  pub all-past : (xs : List Expr) (rest : List Fact)
      → skip_all (length xs) (flat_map facts_of (map (judge_at l s) xs) ++ rest) ≡ rest
  all-past xs rest =
      ap (λ fs. skip_all (length xs) (fs ++ rest)) (facts-are xs)
      ∙ ap (λ n. skip_all n (facts l (map one xs) ++ rest)) (as-many xs)
      ∙ all_skipped l (map one xs) rest

pub on_begin : (t : Tables) (l : ℕ) (begin : ℕ → ℕ → Instr) (f : Expr) (xs : List Expr)
    → Follows (begin_part t l begin f xs) (begin_lay t l begin f xs)
on_begin t l begin f xs = record { code = at }
  where
    at : (a : Around) (s : Scope) (rest : List Fact)
        → begin_lay t l begin f xs a (((begin_part t l begin f xs).walk s).facts ++ rest) ≡ by
        ((begin_part t l begin f xs).lay a s) rest
    at a s rest =
        ap (λ gs. begin_lay t l begin f xs a ((facts_of (judge_at l s f) ++ gs) ++ rest))
        (called_inner l s m (map (judge_at l s) xs))
        ∙ ap (λ (c : Made). begun c.piece (skip ((facts_of (judge_at l s f) ++ X) ++ rest))) (made-among t l s f X rest)
        ∙ ap (begun (piece_at t l s f)) (past-among t l s f X rest)
        ∙ ap (λ ys. last (piece_at t l s f) ys (skip_all (length xs) (X ++ rest))) (all-pushed t l s xs rest)
        ∙ ap (last (piece_at t l s f) (map (argument_at t l s) xs)) (all-past t l s xs rest)
      where
        m : Operand
        m = (judge_at l s f).meaning

        X : List Fact
        X = flat_map facts_of (map (judge_at l s) xs)

        last : Piece → List ArgumentCode → List Fact → LaidBy
        last p ys fs = by (record {
          piece = all (p ∷ pushes ys ∷ beginning l begin a.functions m ys ∷ []);
          made = makings l m ys;
        }) fs

        begun : Piece → List Fact → LaidBy
        begun p fs = last p (arguments l (map (taking t) xs) fs) (skip_all (length xs) fs)
