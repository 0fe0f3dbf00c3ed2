-- Function 0 and the functions that are made do what is said of them.
-- For: `EntryAgrees`, `MadeFunctionsAgree`, specs/MadeFunctions.antt
-- By: induction over the lists of declarations and of parameters; cases of how the meaning ends
use Rattle.std.proofs.Common.{◌≡◌, ℕ, zero, suc, ◌+◌, ◌-◌, pos, List, [], ◌∷◌, ◌++◌, length, Option, Some}
use Rattle.std.proofs.Common.{refl, ap, sym, ◌∙◌, subst, slice_get, arith, append_assoc, length-append}
use Rattle.std.specs.Prelude.{replicate}
use Rattle.golf_syntax_trees.specs.declared.expressions.Expr.{Expr}
use Rattle.golf_syntax_trees.specs.declared.declarations.Decl.{Decl}
use Rattle.golf_syntax_trees.specs.declared.declarations.Decl.TheVariants as d
use Rattle.golf_syntax_trees.specs.declared.statements.VarContent.{VarContent}
use Rattle.golf_syntax_trees.specs.declared.statements.VarContent.TheVariants as content
use Rattle.golf_data.specs.declared.value.Value.{Value}
use Rattle.golf_data.specs.declared.code.Instr.{Instr}
use Rattle.golf_data.specs.declared.code.CodeLine.{CodeLine}
use Rattle.golf_check_types.specs.declared.types.GoType.{GoType}
use Rattle.golf_check_types.specs.declared.scopes.FileScope.{FileScope}
use Rattle.golf_check_types.specs.declared.scopes.Scope.{Scope}
use Rattle.golf_check_types.specs.Files.{outside}
use Rattle.golf_code_layout.specs.Piece.{Piece, all, op, size, placed}
use Rattle.golf_code_of.specs.declared.tables.Tables.{Tables}
use Rattle.golf_code_of.specs.Calls as K
use Rattle.golf_code_of.specs.ExpressionCode.{piece_at}
use Rattle.golf_code_of.specs.Files.{loads, initial, initials}
use Rattle.golf_meaning_flat.specs.Worlds.{Part, World, bind, pushed}
use Rattle.golf_meaning_flat.specs.Flat.{exec}
use Rattle.golf_meaning_flat.specs.Structured.{PieceExit, from_part, then_way, run}
use Rattle.golf_meaning_flat.specs.InstructionEffects.{on_some, goes}
use Rattle.golf_meaning_flat.specs.Laws.{FollowsPiece, Done, HasRules, Agree}
use Rattle.golf_meaning_flat.proofs.Placing.{placed-follows}
use Rattle.golf_meaning_flat.proofs.Bounds.{both-ways}
use Rattle.golf_meaning_flat.proofs.Halting.{said-as}
use Rattle.golf_meaning_source.specs.Operations.{Gives, gives, then_do, Taking, visible}
use Rattle.golf_meaning_source.specs.Exprs.{operation}
use Rattle.golf_meaning_source.specs.ExpressionMeaning.{meant}
use Rattle.golf_meaning_source.specs.Does.{frame, Sim, OnTop, Stored, SlotsRise, Turns}
use Rattle.golf_meaning_source.proofs.Turning.{turn-none, turn-both, turn-after, turn-visible, over, turn-over}
use Rattle.golf_meaning_source.proofs.Constructs.{turn-operation}
use Rattle.golf_meaning_source.proofs.Exprs.{expressions-mean}
use Rattle.golf_meaning_statements.specs.Functions.{begins}
use Rattle.golf_meaning_statements.specs.MadeFunctions.{then_returns, initial_does, initials_do}
use Rattle.golf_meaning_statements.specs.MadeFunctions.{MadeFunctionsAgree, EntryAgrees}
use Rattle.golf_meaning_statements.proofs.Agreeing.{stand-whole}

-- ---- code that does something, and then something more, and returns nothing

module _ (taking : Taking) (slots : List Value) (p q : Piece) (l : ℕ) (f : Gives) (g : List Value → Gives)
    (first : Turns taking slots p [] f) (then : (us : List Value) → Turns taking slots q us (g us)) where
  abbrev whole : Piece
  whole = all (p ∷ q ∷ op l Instr.Return ∷ [])

  abbrev code : List CodeLine
  code = placed whole 0 []

  abbrev Follows : World → ℕ → PieceExit → Type 0
  Follows w n o = FollowsPiece taking.gives code n 0 [] (0 + size whole) (frame slots []) w o

  abbrev last : ℕ → PieceExit → PieceExit
  last n o = then_way o (run taking.gives n (all (op l Instr.Return ∷ [])) (0 + size p + size q) [])

  last-done : (w : World) (n : ℕ) (x : Part (List Value)) (o : PieceExit) → Sim x (OnTop slots []) o
      → Follows w n (last n o) → Done taking.gives code (frame slots []) w n (then_returns x) (then_returns x).end
  last-done w n (Part.Gives vs u) o h k = let r = subst (λ z. Follows w n (last n z)) h k in (r.0, r.2)
  last-done w n (Part.Stops s os) o h k = said-as s _ _ h
      (λ e. let r = subst (λ z. Follows w n (last n z)) e k in (r.0, r.2))

  abbrev later : ℕ → PieceExit → PieceExit
  later n o = then_way o (run taking.gives n (all (q ∷ op l Instr.Return ∷ [])) (0 + size p) [])

  done : (w : World) (n : ℕ) (x : Part (List Value)) (o : PieceExit) → Sim x (OnTop slots []) o
      → Follows w n (later n o)
      → Done taking.gives code (frame slots []) w n (then_returns (bind x g)) (then_returns (bind x g)).end
  done w n (Part.Gives vs u) o h k =
      last-done w n (g vs u) (run taking.gives n q (0 + size p) [] (frame slots (pushed vs [])) u)
      (then vs n (0 + size p) [] [] u) (subst (λ z. Follows w n (later n z)) h k)
  done w n (Part.Stops s os) o h k = said-as s _ _ h
      (λ e. let r = subst (λ z. Follows w n (later n z)) e k in (r.0, r.2))

  pub returns-agree : (w : World) → HasRules (λ n. then_returns (then_do f g w))
      → Agree (λ n. then_returns (then_do f g w)) (λ m. exec taking.gives code m 0 (frame slots []) w)
  returns-agree w never = both-ways taking.gives code (frame slots []) w (λ n. then_returns (then_do f g w))
      (λ n. done w n (f w) (run taking.gives n p 0 [] (frame slots []) w) (first n 0 [] [] w)
      (placed-follows taking.gives code n whole 0 [] (frame slots []) w (stand-whole [] code 0 refl))) never

-- ---- function 0

module _ (taking : Taking) (t : Tables) (slots : List Value) where
  set-turns : (s : Scope) (g l : ℕ) (e : Expr) → s.locals ≡ []
      → Turns taking slots (all (piece_at t l s e ∷ op l (Instr.StoreGlobal g) ∷ [])) []
      (then_do (((meant taking t e).does l s).value []) (visible taking (Instr.StoreGlobal g) []))
  set-turns s g l e none =
      turn-after taking slots (piece_at t l s e) (op l (Instr.StoreGlobal g)) (((meant taking t e).does l s).value [])
      (visible taking (Instr.StoreGlobal g) [])
      (expressions-mean taking t e l s [] slots (record {
        stored = subst (λ ds. Stored ds [] slots) (sym none) tt;
        rising = subst (λ ds. SlotsRise 0 s.next ds) (sym none) (omega arith);
      })).value_turns
      (λ us. turn-visible taking slots l (Instr.StoreGlobal g) [] us refl)

  initial-turns : (s : Scope) (g l : ℕ) (c : VarContent) → s.locals ≡ []
      → Turns taking slots (initial t s g l c) [] (initial_does taking t s g l c)
  initial-turns s g l (content.Zero of_type) none = turn-none taking slots []
  initial-turns s g l (content.Typed of_type e) none = set-turns s g l e none
  initial-turns s g l (content.Untyped e) none = set-turns s g l e none

  initials-turn : (f : FileScope) (g : ℕ) (xs : List Decl)
      → Turns taking slots (initials t f g xs) [] (initials_do taking t f g xs)
  initials-turn f g [] = turn-none taking slots []
  initials-turn f g (d.Var v ∷ xs) =
      let s : Scope = record (outside f) { initialises = Some g } in
      turn-both taking slots (initial t s g v.line v.content) (initials t f (g + 1) xs)
      (initial_does taking t s g v.line v.content) (initials_do taking t f (g + 1) xs)
      (initial-turns s g v.line v.content refl) (initials-turn f (g + 1) xs)
  initials-turn f g (d.Const l m c ∷ xs) = initials-turn f g xs
  initials-turn f g (d.Struct l m fs ∷ xs) = initials-turn f g xs
  initials-turn f g (d.Func x ∷ xs) = initials-turn f g xs

pub entry-agrees : EntryAgrees
entry-agrees taking t gives f main line xs answers never =
    let call = visible taking (Instr.Call main 0) [] [] in
    returns-agree taking [] (initials t f 0 xs) (op line (Instr.Call main 0)) line (initials_do taking t f 0 xs)
    (λ us. over taking [] us call) (initials-turn taking t [] f 0 xs)
    (λ us. turn-over taking [] (op line (Instr.Call main 0)) us call
    (turn-visible taking [] line (Instr.Call main 0) [] [] refl)) (begins answers) never

-- ---- functions that are made

load-turns : (taking : Taking) (slots : List Value) (l i : ℕ) (v : Value) → slice_get slots i ≡ Some v
    → Turns taking slots (op l (Instr.Load i)) [] (gives (v ∷ []))
load-turns taking slots l i v e n at ts rest w =
    ap (λ (m : Option Value). from_part (on_some (λ x. goes (frame slots rest) (x ∷ rest) w) w m)) e

at-length : (xs : List Value) (v : Value) (ys : List Value) (i : ℕ) → i ≡ length xs
    → slice_get (xs ++ (v ∷ ys)) i ≡ Some v
at-length [] v ys i e = ap (λ k. slice_get (v ∷ ys) k) e
at-length (x ∷ xs) v ys zero e = absurd (omega (arith, e))
at-length (x ∷ xs) v ys (suc i) e = at-length xs v ys i (omega (arith, e))

loads-turn : (taking : Taking) (slots before now after : List Value) (l i : ℕ) (ts : List (Option GoType))
    → slots ≡ before ++ (now ++ after) → i ≡ length before → length now ≡ length ts
    → Turns taking slots (loads l i ts) [] (gives now)
loads-turn taking slots before [] after l i [] e at count = turn-none taking slots []
loads-turn taking slots before [] after l i (t ∷ ts) e at count = absurd (omega (arith, count))
loads-turn taking slots before (v ∷ vs) after l i [] e at count = absurd (omega (arith, count))
loads-turn taking slots before (v ∷ vs) after l i (t ∷ ts) e at count =
    turn-both taking slots (op l (Instr.Load i)) (loads l (i + 1) ts) (gives (v ∷ [])) (gives vs)
    (load-turns taking slots l i v (ap (λ zs. slice_get zs i) e ∙ at-length before v (vs ++ after) i at))
    (loads-turn taking slots (before ++ v ∷ []) vs after l (i + 1) ts
    (e ∙ sym (append_assoc before (v ∷ []) (vs ++ after)))
    (let m = length-append before (v ∷ []) in omega (arith, at, m)) (omega (arith, count)))

pub made-functions-agree : MadeFunctionsAgree
made-functions-agree taking gives m arguments answers count never =
    let zs = replicate (length m.parameters - length arguments) (Value.Int (pos 0)) in
    let n = length m.parameters in
    returns-agree taking (arguments ++ zs) (loads m.line 0 m.parameters) (K.operation m.line m.operation n) m.line
    (λ w. Part.Gives arguments w) (operation taking n m.operation [])
    (loads-turn taking (arguments ++ zs) [] arguments zs m.line 0 m.parameters refl refl count)
    (turn-operation taking (arguments ++ zs) m.line n m.operation []) (begins answers) never
