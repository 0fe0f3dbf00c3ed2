-- The code of every loop by its facts is its code.
-- For: `for_lay`, golf_code_facts/specs/Loops.antt.
-- By: cases of the header of the loop and of its names; no induction.
use Rattle.std.proofs.Common.{◌≡◌, ℕ, ◌+◌, Bool, true, false, cond, List, [], ◌∷◌, ◌++◌, refl, sym, ap, ◌∙◌}
use Rattle.std.proofs.Common.{append_assoc}
use Rattle.std.specs.Prelude.{Option, Some, None, not}
use Rattle.std.proofs.Math.Seq.{drop-append_seam}
use Rattle.golf_syntax_trees.specs.declared.expressions.Expr.{Expr}
use Rattle.golf_syntax_trees.specs.declared.statements.Simple.{Simple}
use Rattle.golf_syntax_trees.specs.declared.statements.Header.{Header}
use Rattle.golf_syntax_trees.specs.declared.statements.Header.TheVariants as header
use Rattle.golf_syntax_trees.specs.declared.statements.RangeNames.{RangeNames}
use Rattle.golf_syntax_trees.specs.declared.statements.RangeNames.TheVariants as range
use Rattle.golf_data.specs.declared.code.Instr.{Instr}
use Rattle.golf_check_types.specs.declared.facts.Fact.{Fact}
use Rattle.golf_check_types.specs.declared.facts.Fact.TheVariants as fact
use Rattle.golf_check_types.specs.declared.types.GoType.{GoType}
use Rattle.golf_check_types.specs.declared.operands.Operand.TheVariants as operand
use Rattle.golf_check_types.specs.declared.operands.Given.{Given}
use Rattle.golf_check_types.specs.declared.scopes.Scope.{Scope}
use Rattle.golf_check_types.specs.Facts.{part, target}
use Rattle.golf_check_types.specs.Types.{is_slice, element}
use Rattle.golf_check_types.specs.Names.{is_blank}
use Rattle.golf_check_types.specs.Expressions.{facts_of, given_by}
use Rattle.golf_check_types.specs.Judgments.{judge_at}
use Rattle.golf_check_types.specs.Statements as W
use Rattle.golf_check_types.specs.Statements.{behind, is_outer}
use Rattle.golf_code_layout.specs.Piece.{Piece, all, op}
use Rattle.golf_code_of.specs.declared.surroundings.Around.{Around}
use Rattle.golf_code_of.specs.declared.tables.Tables.{Tables}
use Rattle.golf_code_of.specs.Expressions.{Made}
use Rattle.golf_code_of.specs.ExpressionCode.{piece_at}
use Rattle.golf_code_of.specs.Statements.{Laid, StatementPart, past, wrapped, in_order, block, optional}
use Rattle.golf_code_of.specs.Loops as C
use Rattle.golf_code_of.specs.Loops.{round, over_slice, over_channel, behind_hidden}
use Rattle.golf_code_facts.specs.Facts.{operand_in, hidden_in, next, past_one, skip}
use Rattle.golf_code_facts.specs.Statements.{LaidBy, LayBy, PieceBy, by, piece_by, stores, in_order as in_order_by}
use Rattle.golf_code_facts.specs.Statements.{optional_by}
use Rattle.golf_code_facts.specs.Loops.{in_loop, forever, while, optional_test, stepping, past_names, slice_names}
use Rattle.golf_code_facts.specs.Loops.{channel_name, range_piece, ranging, for_lay}
use Rattle.golf_code_facts.proofs.Expressions.{made-alone, past-alone, made-among, past-among}
use Rattle.golf_code_facts.proofs.Simple.{named, optional_piece, optional-lay, on_optional}
use Rattle.golf_code_facts.proofs.Parts.{Follows, none_made, on_after, on_block}

module _ (x : StatementPart) (k : LayBy) (fx : Follows x k) where
  pub on_loop : (b c : ℕ) → Follows (C.in_loop b c x) (in_loop b c k)
  on_loop b c = record {
    code = λ a s rest. fx.code (record { breaks = b; continues = c; functions = a.functions })
        (record s { breaks = true; loops = true }) rest;
  }

  pub on_forever : (l : ℕ) → Follows (C.forever l x) (forever l k)
  on_forever l = record {
    code = λ a s rest. ap
        (λ (g : LaidBy). by (wrapped (λ p. round (all (p ∷ Piece.Exit l 0 ∷ []))) g.laid) g.left) (fx.code a s rest);
  }

  pub on_while : (t : Tables) (l : ℕ) (e : Expr) → Follows (C.while t l e x) (while t l e k)
  on_while t l e = record { code = at }
    where
      looped : Piece → Laid → Laid
      looped p q = wrapped (λ r. round (all (p ∷ Piece.Unless l 1 ∷ r ∷ Piece.Exit l 0 ∷ []))) q

      step : Piece → LaidBy → LaidBy
      step p g = by (looped p g.laid) g.left

      at : (a : Around) (s : Scope) (rest : List Fact)
          → while t l e k a ((facts_of (judge_at l s e) ++ (x.walk s).facts) ++ rest) ≡ by
          ((C.while t l e x).lay a s) rest
      at a s rest =
          ap (λ (c : Made). step c.piece (k a (skip ((facts_of (judge_at l s e) ++ (x.walk s).facts) ++ rest))))
          (made-among t l s e (x.walk s).facts rest)
          ∙ ap (λ fs. step (piece_at t l s e) (k a fs)) (past-among t l s e (x.walk s).facts rest)
          ∙ ap (λ (g : LaidBy). by (looped (piece_at t l s e) g.laid) g.left) (fx.code a s rest)

  on_optional_test : (t : Tables) (l : ℕ) (s : Scope) (test : Option Expr) (rest : List Fact)
      → optional_test t l test ((W.optional_test l test s).facts ++ rest) ≡ piece_by (C.optional_test t l test s) rest
  on_optional_test t l s None rest = refl
  on_optional_test t l s (Some e) rest =
      ap (λ (c : Made). piece_by (all (c.piece ∷ Piece.Unless l 1 ∷ [])) (skip (facts_of (judge_at l s e) ++ rest)))
      (made-alone t l s e rest)
      ∙ ap (piece_by (all (piece_at t l s e ∷ Piece.Unless l 1 ∷ []))) (past-alone t l s e rest)

  -- the scope of the body
  abbrev in_body : Tables → Option Simple → Scope → Scope
  in_body t post s = behind s ((optional t post).walk s)

  pub on_stepping : (t : Tables) (l : ℕ) (test : Option Expr) (post : Option Simple)
      → Follows (C.stepping t l test (optional t post) x) (stepping t l test post k)
  on_stepping t l test post = record { code = at }
    where
      stepped : Piece → Piece → LaidBy → LaidBy
      stepped c p b = by (wrapped (λ q. round (all (c ∷ Piece.Block q ∷ p ∷ Piece.Exit l 0 ∷ []))) b.laid) b.left

      behind_test : Around → PieceBy → LaidBy
      behind_test a c = stepped c.piece (optional_by t post (past_one c.left)).piece (k a (skip c.left))

      at : (a : Around) (s : Scope) (rest : List Fact)
          → stepping t l test post k a (((W.optional_test l test s).facts
          ++ (part ((optional t post).walk s).facts ++ (x.walk (in_body t post s)).facts)) ++ rest)
          ≡ by ((C.stepping t l test (optional t post) x).lay a s) rest
      at a s rest =
          let P = ((optional t post).walk s).facts in
          let B = (x.walk (in_body t post s)).facts in
          let c = C.optional_test t l test s in
          ap (λ fs. behind_test a (optional_test t l test fs))
          (append_assoc (W.optional_test l test s).facts (part P ++ B) rest)
          ∙ ap (behind_test a) (on_optional_test t l s test ((part P ++ B) ++ rest))
          ∙ ap (λ fs. stepped c (optional_by t post (past_one fs)).piece (k a (skip fs))) (append_assoc (part P) B rest)
          ∙ ap (λ (p : PieceBy). stepped c p.piece (k a (skip (part P ++ (B ++ rest)))))
          ((on_optional t post).code s (B ++ rest))
          ∙ ap (λ fs. stepped c (optional_piece t post s) (k a fs)) (drop-append_seam P (B ++ rest))
          ∙ ap (stepped c (optional_piece t post s)) (fx.code a (in_body t post s) rest)
          ∙ ap (λ b. stepped c (optional_piece t post s) (by (x.lay b (in_body t post s)) rest)) (sym (none_made a))
          ∙ ap (λ (p : Laid). stepped c p.piece (by (x.lay (past a p) (in_body t post s)) rest))
          (sym (optional-lay t post a s))

-- Range.

module _ (t : Tables) (l : ℕ) where
  -- what the facts of the names say; the types do not matter for the code
  abbrev name_facts : RangeNames → Bool → Option GoType → Scope → List Fact
  name_facts names slice of_type s = (W.range_names names slice of_type s).facts

  pub past_them : (names : RangeNames) (slice : Bool) (of_type : Option GoType) (s : Scope) (gs : List Fact)
      → past_names names (name_facts names slice of_type s ++ gs) ≡ gs
  past_them range.Neither slice of_type s gs = refl
  past_them (range.One n) slice of_type s gs = refl
  past_them (range.Two n m) slice of_type s gs = refl

  unless_blank : (blank : Bool) (k : Piece → Piece) (s : Scope) (of_type : Option GoType)
      → cond blank Piece.Empty (k (stores l t (operand_in (target (not blank) operand.Blank s of_type))))
      ≡ cond blank Piece.Empty (k (op l (Instr.Store s.next)))
  unless_blank true k s of_type = refl
  unless_blank false k s of_type = refl

  in_slice : (names : RangeNames) (h : ℕ) (of_type : Option GoType) (s : Scope) (gs : List Fact)
      → slice_names t l h names (name_facts names true of_type s ++ gs) ≡ C.slice_names l h names s
  in_slice range.Neither h of_type s gs = refl
  in_slice (range.One n) h of_type s gs =
      unless_blank (is_blank n) (λ p. all (op l (Instr.Load (h + 2)) ∷ p ∷ [])) s W.int_type
  in_slice (range.Two n m) h of_type s gs =
      ap (λ p. all (p ∷ second ∷ [])) (unless_blank (is_blank n)
      (λ p. all (op l (Instr.Load (h + 2)) ∷ p ∷ [])) s W.int_type)
      ∙ ap (λ p. all (C.slice_names l h (range.One n) s ∷ p ∷ []))
      (unless_blank (is_blank m) (λ p. all
      (op l (Instr.Load h) ∷ op l (Instr.Load (h + 2)) ∷ op l Instr.Index ∷ p ∷ [])) s2 of_type)
    where
      s2 : Scope
      s2 = behind s (W.range_name n W.int_type s)

      second : Piece
      second = cond (is_blank m) Piece.Empty
          (all (op l (Instr.Load h) ∷ op l (Instr.Load (h + 2)) ∷ op l Instr.Index
          ∷ stores l t (operand_in (target (not (is_blank m)) operand.Blank s2 of_type)) ∷ []))

  in_channel : (names : RangeNames) (of_type : Option GoType) (s : Scope) (gs : List Fact)
      → channel_name t l names (name_facts names false of_type s ++ gs) ≡ C.channel_name l names s
  in_channel range.Neither of_type s gs = refl
  in_channel (range.One n) of_type s gs = named l t (is_blank n) s of_type
  in_channel (range.Two n m) of_type s gs = refl

  either : (slice : Bool) (names : RangeNames) (h : ℕ) (of_type : Option GoType) (s : Scope) (gs : List Fact)
      (e body : Piece)
      → cond slice (over_slice l h e (slice_names t l h names (name_facts names slice of_type s ++ gs)) body)
      (over_channel l h e (channel_name t l names (name_facts names slice of_type s ++ gs)) body)
      ≡ cond slice (over_slice l h e (C.slice_names l h names s) body)
      (over_channel l h e (C.channel_name l names s) body)
  either true names h of_type s gs e body = ap (λ p. over_slice l h e p body) (in_slice names h of_type s gs)
  either false names h of_type s gs e body = ap (λ p. over_channel l h e p body) (in_channel names of_type s gs)

  module _ (names : RangeNames) (e : Expr) (xs : List StatementPart) (ks : List LayBy)
      (f : Follows (in_order xs) (in_order_by ks)) where
    on_body : Follows (C.in_loop 2 0 (block xs)) (in_loop 2 0 (in_order_by ks))
    on_body = on_loop (block xs) (in_order_by ks) (on_block (in_order xs) (in_order_by ks) f) 2 0

    pub on_range : Follows (C.ranging t l names e xs) (ranging t l names e ks)
    on_range = record { code = at }
      where
        at : (a : Around) (s : Scope) (rest : List Fact)
            → ranging t l names e ks a (((C.ranging t l names e xs).walk s).facts ++ rest) ≡ by
            ((C.ranging t l names e xs).lay a s) rest
        at a s rest =
            ap (ranging t l names e ks a) (append_assoc (E ++ H ∷ []) (N ++ B) rest
            ∙ append_assoc E (H ∷ []) ((N ++ B) ++ rest))
            ∙ ap (λ (c : Made). first c.piece (skip (E ++ (H ∷ ((N ++ B) ++ rest)))))
            (made-alone t l s e (H ∷ ((N ++ B) ++ rest)))
            ∙ ap (first (piece_at t l s e)) (past-alone t l s e (H ∷ ((N ++ B) ++ rest)))
            ∙ ap second (append_assoc N B rest)
            ∙ ap (λ gs. third (N ++ (B ++ rest)) (in_loop 2 0 (in_order_by ks) a gs))
            (past_them names slice of_type s0 (B ++ rest))
            ∙ ap (third (N ++ (B ++ rest))) (on_body.code a s1 rest)
            ∙ ap (λ p. by (record { piece = p; made = body.made }) rest)
            (either slice names s.next of_type s0 (B ++ rest) (piece_at t l s e) body.piece)
          where
            v : Given
            v = given_by (judge_at l s e)

            slice : Bool
            slice = is_outer is_slice v

            of_type : Option GoType
            of_type = element v

            s0 : Scope
            s0 = behind_hidden v s

            s1 : Scope
            s1 = behind s (W.range_slots names v s)

            E : List Fact
            E = facts_of (judge_at l s e)

            H : Fact
            H = fact.Hidden s.next

            N : List Fact
            N = name_facts names slice of_type s0

            B : List Fact
            B = ((C.in_loop 2 0 (block xs)).walk s1).facts

            body : Laid
            body = (C.in_loop 2 0 (block xs)).lay a s1

            third : List Fact → LaidBy → LaidBy
            third ns g = by (wrapped (range_piece t l names v s.next ns (piece_at t l s e)) g.laid) g.left

            second : List Fact → LaidBy
            second ns = third ns (in_loop 2 0 (in_order_by ks) a (past_names names ns))

            first : Piece → List Fact → LaidBy
            first p fs =
                let ns = past_one fs in
                let g = in_loop 2 0 (in_order_by ks) a (past_names names ns) in
                by (wrapped (range_piece t l names v (hidden_in (next fs)) ns p) g.laid) g.left

-- Headers.

module _ (t : Tables) (l : ℕ) (xs : List StatementPart) (ks : List LayBy)
    (f : Follows (in_order xs) (in_order_by ks)) where
  looped : (b : ℕ) → Follows (C.in_loop b 0 (block xs)) (in_loop b 0 (in_order_by ks))
  looped b = on_loop (block xs) (in_order_by ks) (on_block (in_order xs) (in_order_by ks) f) b 0

  on_header : (h : Header) → Follows (C.header_part t l h xs) (for_lay t l h ks)
  on_header header.Forever = on_forever (C.in_loop 1 0 (block xs)) (in_loop 1 0 (in_order_by ks)) (looped 1) l
  on_header (header.While e) = on_while (C.in_loop 1 0 (block xs)) (in_loop 1 0 (in_order_by ks)) (looped 1) t l e
  on_header (header.Steps first test post) =
      on_after (optional t first) (C.stepping t l test (optional t post) (C.in_loop 2 0 (block xs)))
      (optional_piece t first) (optional_by t first) (stepping t l test post (in_loop 2 0 (in_order_by ks)))
      (on_optional t first) (optional-lay t first)
      (on_stepping (C.in_loop 2 0 (block xs)) (in_loop 2 0 (in_order_by ks)) (looped 2) t l test post)
  on_header (header.Range names e) = on_range t l names e xs ks f

  pub on_for : (h : Header) → Follows (C.for_part t l h xs) (for_lay t l h ks)
  on_for h = on_block (C.header_part t l h xs) (for_lay t l h ks) (on_header h)
