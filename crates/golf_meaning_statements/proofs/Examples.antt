-- Small meanings, against what was worked out by hand.
use Rattle.std.specs.Prelude.{◌≡◌, ℕ, pos, true, List, [], ◌∷◌, Some, codes}
use Rattle.std.proofs.Common.{refl, ap, ◌∙◌}
use Rattle.golf_syntax_trees.specs.declared.expressions.Expr.{Expr, roll-Expr}
use Rattle.golf_syntax_trees.specs.declared.expressions.Expr.TheOpen as F
use Rattle.golf_syntax_trees.specs.declared.expressions.Expr.TheFolds.{fold-roll-Expr}
use Rattle.golf_syntax_trees.specs.declared.expressions.BinaryOperator.TheVariants as binary
use Rattle.golf_data.specs.declared.value.Value.{Value}
use Rattle.golf_data.specs.declared.code.Instr.{Instr}
use Rattle.golf_data.specs.declared.code.CaseKind.{CaseKind}
use Rattle.golf_code_layout.specs.Piece.{Piece, all, op, placed}
use Rattle.golf_check_types.specs.declared.scopes.Scope.{Scope}
use Rattle.golf_code_of.specs.declared.tables.Tables.{Tables}
use Rattle.golf_meaning_flat.specs.Worlds.{Answer, Misfit, Halt, End, World, Part}
use Rattle.golf_meaning_flat.specs.Flat.{exec}
use Rattle.golf_meaning_source.specs.Names.{Env}
use Rattle.golf_meaning_source.specs.Operations.{Taking}
use Rattle.golf_meaning_source.specs.Does.{frame}
use Rattle.golf_meaning_source.specs.ExpressionMeaning.{Meant, MeantPut, meant, meant_step, element_meant_step}

int : ℕ → Value
int n = Value.Int (pos n)

abbrev world : List Answer → World
world answers = record { answers = answers; operations = [] }

-- return 1 + 2
three : exec [] (placed (all (op 1 (Instr.Int (pos 1)) ∷ op 1 (Instr.Int (pos 2)) ∷ op 1 Instr.Add
    ∷ op 1 Instr.ReturnValue ∷ [])) 0 []) 4 0 (frame [] []) (world [])
    ≡ record { operations = []; end = End.Halts (Halt.Returned (Some (Value.Int (pos 3)))) }
three = refl

-- with too few instructions
short : exec [] (placed (all (op 1 (Instr.Int (pos 1)) ∷ op 1 (Instr.Int (pos 2)) ∷ op 1 Instr.Add
    ∷ op 1 Instr.ReturnValue ∷ [])) 0 []) 3 0 (frame [] []) (world []) ≡ record { operations = []; end = End.Short }
short = refl

-- for { <-c }: each turn asks once, and waits if there is no answer
receiving : Piece
receiving = Piece.Block (Piece.Again (all
    (op 1 (Instr.Load 0) ∷ op 1 Instr.Receive ∷ op 1 Instr.Drop ∷ Piece.Exit 1 0 ∷ [])))

asks_again : exec [] (placed receiving 0 []) 9 0 (frame (Value.Nil ∷ []) [])
    (world (record { clause = 0; values = Value.Int (pos 7) ∷ [] } ∷ []))
    ≡ record {
      operations = record { instr = Instr.Receive; operands = Value.Nil ∷ [] }
          ∷ record { instr = Instr.Receive; operands = Value.Nil ∷ [] } ∷ [];
      end = End.Halts Halt.Waits;
    }
unfolding receiving
asks_again = refl

-- return <-c + 1: a truth value that is received is unfit where it is added, and two values are no answer
adding : Piece
adding = all (op 1 (Instr.Load 0) ∷ op 1 Instr.Receive ∷ op 1 (Instr.Int (pos 1)) ∷ op 1 Instr.Add
    ∷ op 1 Instr.ReturnValue ∷ [])

unfit_where_used : exec [] (placed adding 0 []) 9 0 (frame (Value.Nil ∷ []) [])
    (world (record { clause = 0; values = Value.Bool true ∷ [] } ∷ []))
    ≡ record {
      operations = record { instr = Instr.Receive; operands = Value.Nil ∷ [] } ∷ [];
      end = End.Halts (Halt.Unfit Misfit.OfKind);
    }
unfolding adding
unfit_where_used = refl

too_many_values : exec [] (placed adding 0 []) 9 0 (frame (Value.Nil ∷ []) [])
    (world (record { clause = 0; values = Value.Int (pos 7) ∷ Value.Bool true ∷ [] } ∷ []))
    ≡ record {
      operations = record { instr = Instr.Receive; operands = Value.Nil ∷ [] } ∷ [];
      end = End.Halts (Halt.Unfit Misfit.OfCount);
    }
unfolding adding
too_many_values = refl

-- a choice with the targets 5, 9 and, for `default`, 7: its places are 0, 2 and 1, and the answer names place 2
chooses : exec [] (record {
  instr = Instr.Select
      (record { kind = CaseKind.Take; target = 2 } ∷ record { kind = CaseKind.Take; target = 4 } ∷ []) (Some 3);
  line =
      1;
} ∷ record { instr = Instr.Return; line = 1 } ∷ record { instr = Instr.Return; line = 1 }
    ∷ record { instr = Instr.Return; line = 1 } ∷ record { instr = Instr.ReturnValue; line = 1 } ∷ []) 2 0
    (frame [] (Value.Nil ∷ Value.Nil ∷ [])) (world (record { clause = 2; values = Value.Int (pos 7) ∷ [] } ∷ []))
    ≡ record {
      operations = record {
        instr = Instr.Select
            (record { kind = CaseKind.Take; target = 0 } ∷ record { kind = CaseKind.Take; target = 2 } ∷ []) (Some 1);
        operands = Value.Nil ∷ Value.Nil ∷ [];
      } ∷ [];
      end = End.Halts (Halt.Returned (Some (Value.Int (pos 7))));
    }
chooses = refl

-- 1 + 2, as its source says
module _ (taking : Taking) (t : Tables) (l : ℕ) (s : Scope) (env : Env) (w : World) where
  number : List ℕ → Expr
  number digits = roll-Expr (F.Integer digits)

  number-is : (digits : List ℕ) → meant taking t (roll-Expr (F.Integer digits)) ≡ meant_step taking t (F.Integer digits)
  unfolding meant
  number-is digits = fold-roll-Expr Meant MeantPut (meant_step taking t) element_meant_step (F.Integer digits)

  sum-is : (a b : Expr) → meant taking t (roll-Expr (F.Binary binary.Add a b)) ≡ meant_step taking t
      (F.Binary binary.Add (meant taking t a) (meant taking t b))
  unfolding meant
  sum-is a b = fold-roll-Expr Meant MeantPut (meant_step taking t) element_meant_step (F.Binary binary.Add a b)

  sums : ((meant taking t (roll-Expr (F.Binary binary.Add (roll-Expr (F.Integer (codes "1")))
      (roll-Expr (F.Integer (codes "2")))))).does l s).value env w ≡ Part.Gives (Value.Int (pos 3) ∷ []) w
  sums =
      ap (λ (m : Meant). (m.does l s).value env w)
      (sum-is (roll-Expr (F.Integer (codes "1"))) (roll-Expr (F.Integer (codes "2"))))
      ∙ ap (λ (m : Meant). ((meant_step taking t
      (F.Binary binary.Add m (meant taking t (roll-Expr (F.Integer (codes "2")))))).does l s).value env w)
      (number-is (codes "1"))
      ∙ ap (λ (m : Meant). ((meant_step taking t
      (F.Binary binary.Add (meant_step taking t (F.Integer (codes "1"))) m)).does l s).value env w)
      (number-is (codes "2"))
