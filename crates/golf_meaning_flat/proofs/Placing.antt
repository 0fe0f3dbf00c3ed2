-- Placed code does what its piece does.
-- For: `FollowsPiece`, golf_meaning_flat/specs/Laws.antt; the law `placed_code_follows`, src/lib.rt.
-- By: induction over the tree of a piece, and over n, the rounds of a loop that are left.
use Rattle.std.proofs.Common.{◌≡◌, ℕ, zero, suc, ◌+◌, ◌<◌, ◌≤◌, ◌==◌, Bool, true, false, cond, List, [], ◌∷◌, ◌++◌, map}
use Rattle.std.proofs.Common.{length, Option, Some, None, refl, ap, ◌∙◌, subst, slice_get, arith}
use Rattle.std.specs.Option.{option_map}
use Rattle.golf_data.specs.declared.value.Value.{Value}
use Rattle.golf_data.specs.declared.code.Instr.{Instr}
use Rattle.golf_data.specs.declared.code.CodeLine.{CodeLine}
use Rattle.golf_data.specs.declared.code.SelectCase.{SelectCase}
use Rattle.golf_code_layout.specs.Piece.{Piece, size, on, target, case_at, placed}
use Rattle.golf_code_layout.proofs.Sizes.{placed-size}
use Rattle.golf_data.specs.Effects.{case_taken, cases_taken}
use Rattle.golf_meaning_flat.specs.Worlds.{Answer, End, World, Part, bind, pushed}
use Rattle.golf_meaning_flat.specs.InstructionEffects.{Frame, Doing, doing, gets, some_from}
use Rattle.golf_meaning_flat.specs.Flat.{on_clause, relabelled, lower, clause_of, picks, tests, ended, does, at_line}
use Rattle.golf_meaning_flat.specs.Flat.{exec}
use Rattle.golf_meaning_flat.specs.Structured.{PieceExit, from_part, acted, then_way, unless_true, picked, out_of}
use Rattle.golf_meaning_flat.specs.Structured.{once_more}
use Rattle.golf_meaning_flat.specs.Structured.{rounds, placed_targets, run}
use Rattle.golf_meaning_flat.specs.Laws.{Stand, AdvancesTo, RunsTo, Enough, FollowsPiece, PlacedFollows}

stand-left : (code : List CodeLine) (at : ℕ) (xs ys : List CodeLine) → Stand code at (xs ++ ys) → Stand code at xs
stand-left code at [] ys h = tt
stand-left code at (x ∷ xs) ys h = (h.0, stand-left code (at + 1) xs ys h.1)

stand-right : (code : List CodeLine) (at n : ℕ) (xs ys : List CodeLine) → n ≡ at + length xs → Stand code at (xs ++ ys)
    → Stand code n ys
stand-right code at n [] ys e h = subst (λ k. Stand code k ys) (omega (arith, e)) h
stand-right code at n (x ∷ xs) ys e h = stand-right code (at + 1) n xs ys (omega (arith, e)) h.1

enough-more : (e : End) (n k j : ℕ) → k ≤ j → Enough e n k → Enough e n j
enough-more (End.Halts h) n k j le r = tt
enough-more End.Short n k j le r = omega (arith, le, r)

enough-fewer : (e : End) (m n j : ℕ) → m ≤ n → Enough e n j → Enough e m j
enough-fewer (End.Halts h) m n j le r = tt
enough-fewer End.Short m n j le r = omega (arith, le, r)

-- one round more, if one instruction more is executed
enough-one : (e : End) (n k j : ℕ) → k < j → Enough e n k → Enough e (suc n) j
enough-one (End.Halts h) n k j le r = tt
enough-one End.Short n k j le r = omega (arith, le, r)

-- the labels of placed targets
labels : (label : ℕ → ℕ) (ts : List ℕ) (cs : List SelectCase)
    → map (relabelled label) (map (case_at ts) cs) ≡ map (relabelled (λ k. label (target ts k))) cs
labels label ts [] = refl
labels label ts (c ∷ cs) = ap (λ xs. relabelled label (case_at ts c) ∷ xs) (labels label ts cs)

default-label : (label : ℕ → ℕ) (ts : List ℕ) (o : Option ℕ)
    → option_map label (option_map (target ts) o) ≡ option_map (λ k. label (target ts k)) o
default-label label ts None = refl
default-label label ts (Some k) = refl

-- a choice whose target is moved
moved : Part (ℕ × Frame) → (ℕ → ℕ) → Part (ℕ × Frame)
moved (Part.Gives r w) f = Part.Gives (f r.0, r.1) w
moved (Part.Stops h os) f = Part.Stops h os

taken-placed : (ts : List ℕ) (cs : List SelectCase) → cases_taken (map (case_at ts) cs) ≡ cases_taken cs
taken-placed ts [] = refl
taken-placed ts (c ∷ cs) = ap (λ n. case_taken c.kind + n) (taken-placed ts cs)

some-moved : (f : ℕ → ℕ) (w : World) (n : ℕ) (acc ops : List Value) (g h : List Value → List Value → Part (ℕ × Frame))
    → ((vs rest : List Value) → h vs rest ≡ moved (g vs rest) f)
    → some_from w n acc h ops ≡ moved (some_from w n acc g ops) f
unfolding moved
some-moved f w zero acc ops g h e = e acc ops
some-moved f w (suc n) acc [] g h e = refl
some-moved f w (suc n) acc (v ∷ ops) g h e = some-moved f w n (v ∷ acc) ops g h e

bound-moved : (f : ℕ → ℕ) (p : Part Answer) (g h : Answer → World → Part (ℕ × Frame))
    → ((a : Answer) (u : World) → h a u ≡ moved (g a u) f) → bind p h ≡ moved (bind p g) f
unfolding moved
bound-moved f (Part.Gives a u) g h e = e a u
bound-moved f (Part.Stops k os) g h e = refl

goes-moved : (f : ℕ → ℕ) (u : World) (d : Frame) (m : Option ℕ)
    → on_clause (λ t. Part.Gives (t, d) u) u (option_map f m) ≡ moved (on_clause (λ t. Part.Gives (t, d) u) u m) f
unfolding moved
goes-moved f u d None = refl
goes-moved f u d (Some t) = refl

cond-moved : (f : ℕ → ℕ) (b : Bool) (t : ℕ) (m : Option ℕ)
    → cond b (Some (f t)) (option_map f m) ≡ option_map f (cond b (Some t) m)
cond-moved f true t m = refl
cond-moved f false t m = refl

clause-placed : (label : ℕ → ℕ) (ts : List ℕ) (k : ℕ) (cs : List SelectCase) (o : Option ℕ)
    → clause_of label k (map (case_at ts) cs) (option_map (target ts) o) ≡ option_map (target ts)
    (clause_of (λ q. label (target ts q)) k cs o)
clause-placed label ts k [] None = refl
clause-placed label ts k [] (Some q) = cond-moved (target ts) (label (target ts q) == k) q None
clause-placed label ts k (c ∷ cs) o =
    ap (λ m. cond (label (target ts c.target) == k) (Some (target ts c.target)) m) (clause-placed label ts k cs o)
    ∙ cond-moved (target ts) (label (target ts c.target) == k) c.target (clause_of (λ q. label (target ts q)) k cs o)

abbrev picks_with : List Bool → ℕ → Instr → (ℕ → ℕ) → List SelectCase → Option ℕ → Frame → World → Part (ℕ × Frame)
picks_with gives n i label cs o c w =
    some_from w n [] (λ vs rest. bind (gets gives i vs w)
    (λ a u. on_clause (λ t. Part.Gives (t, record { slots = c.slots; operands = pushed a.values rest }) u) u
    (clause_of label a.clause cs o))) c.operands

abbrev placed_label : (ℕ → ℕ) → List ℕ → ℕ → ℕ
placed_label label ts k = label (target ts k)

instr-placed : (label : ℕ → ℕ) (ts : List ℕ) (cs : List SelectCase) (o : Option ℕ)
    → Instr.Select (map (relabelled label) (map (case_at ts) cs)) (option_map label (option_map (target ts) o))
    ≡ Instr.Select (map (relabelled (placed_label label ts)) cs) (option_map (placed_label label ts) o)
instr-placed label ts cs o = ap (λ xs. Instr.Select xs (option_map label (option_map (target ts) o)))
    (labels label ts cs) ∙ ap (λ m. Instr.Select (map (relabelled (placed_label label ts)) cs) m)
    (default-label label ts o)

pick-placed : (gives : List Bool) (label : ℕ → ℕ) (ts : List ℕ) (cs : List SelectCase) (o : Option ℕ) (c : Frame)
    (w : World) → picks gives label (map (case_at ts) cs) (option_map (target ts) o) c w ≡ moved
    (picks gives (placed_label label ts) cs o c w) (target ts)
pick-placed gives label ts cs o c w =
    ap (λ n. picks_with gives n (Instr.Select (map (relabelled label) (map (case_at ts) cs))
    (option_map label (option_map (target ts) o))) label (map (case_at ts) cs) (option_map (target ts) o) c w)
    (taken-placed ts cs)
    ∙ ap (λ i. picks_with gives (cases_taken cs) i label (map (case_at ts) cs) (option_map (target ts) o) c w)
    (instr-placed label ts cs o)
    ∙ some-moved (target ts) w (cases_taken cs) [] c.operands _ _
    (λ vs rest. bound-moved (target ts) (gets gives
    (Instr.Select (map (relabelled (placed_label label ts)) cs) (option_map (placed_label label ts) o)) vs w) _ _
    (λ a u.
    ap (λ m. on_clause (λ t. Part.Gives (t, record { slots = c.slots; operands = pushed a.values rest }) u) u m)
    (clause-placed label ts a.clause cs o)
    ∙ goes-moved (target ts) u (record { slots = c.slots; operands = pushed a.values rest })
    (clause_of (placed_label label ts) a.clause cs o)))

module _ (gives : List Bool) (code : List CodeLine) where
  step : (at : ℕ) (l : CodeLine) (c : Frame) (w : World) → slice_get code at ≡ Some l → (k : ℕ)
      → exec gives code (suc k) at c w ≡ does gives (doing gives l.instr) (exec gives code k) at c w
  step at l c w h k = ap (λ o. at_line gives o (exec gives code k) at c w) h

  -- what follows a way of no instructions or more
  after : {at mid : ℕ} {c d : Frame} {w u : World} (n to : ℕ) (ts : List ℕ) (o : PieceExit)
      → RunsTo gives code at c w mid d u
      → FollowsPiece gives code n mid ts to d u o → FollowsPiece gives code n at ts to c w o
  after n to ts (PieceExit.Through f v) h r = record {
    by = λ k. let b = r.by k in let a = h.by
        b.0 in (a.0, omega (arith, a.1, b.1), a.2 ∙ b.2);
  }
  after n to ts (PieceExit.Leaves q f v) h r = record {
    by = λ k. let b = r.by k in let a = h.by
        b.0 in (a.0, omega (arith, a.1, b.1), a.2 ∙ b.2);
  }
  after n to ts (PieceExit.Ends t) h r = let a = h.by r.0 in (a.0, enough-more t.end n r.0 a.0 a.1 r.1, a.2 ∙ r.2)
  after n to ts PieceExit.Lost h r = tt

  then-follows : (n at mid to : ℕ) (ts : List ℕ) (c : Frame) (w : World) (o : PieceExit)
      (next : Frame → World → PieceExit)
      → FollowsPiece gives code n at ts mid c w o
      → ((d : Frame) (u : World) → FollowsPiece gives code n mid ts to d u (next d u))
      → FollowsPiece gives code n at ts to c w (then_way o next)
  then-follows n at mid to ts c w (PieceExit.Through d u) next h k = after n to ts (next d u) h (k d u)
  then-follows n at mid to ts c w (PieceExit.Leaves q d u) next h k = h
  then-follows n at mid to ts c w (PieceExit.Ends t) next h k = h
  then-follows n at mid to ts c w PieceExit.Lost next h k = tt

  part-follows : (n at to : ℕ) (ts : List ℕ) (c : Frame) (w : World) (p : Part Frame)
      → ((k : ℕ) → exec gives code (suc k) at c w ≡ ended p (exec gives code k to))
      → FollowsPiece gives code n at ts to c w (from_part p)
  part-follows n at to ts c w (Part.Gives d u) st = record { by = λ k. (suc k, omega arith, st k) }
  part-follows n at to ts c w (Part.Stops h os) st = (1, tt, st 0)

  acted-follows : (n at : ℕ) (ts : List ℕ) (c : Frame) (w : World) (d : Doing)
      → ((k : ℕ) → exec gives code (suc k) at c w ≡ does gives d (exec gives code k) at c w)
      → FollowsPiece gives code n at ts (at + 1) c w (acted d c w)
  acted-follows n at ts c w (Doing.Acts f) st = part-follows n at (at + 1) ts c w (f c w) st
  acted-follows n at ts c w _ st = tt

  unless-follows : (n at k : ℕ) (ts : List ℕ) (c : Frame) (w : World) (p : Part (Bool × Frame))
      → ((j : ℕ) → exec gives code (suc j) at c w ≡ ended p
      (λ r u. exec gives code j (cond r.0 (at + 1) (target ts k)) r.1 u))
      → FollowsPiece gives code n at ts (at + 1) c w (unless_true p k)
  unless-follows n at k ts c w (Part.Gives (true, d) u) st = record { by = λ j. (suc j, omega arith, st j) }
  unless-follows n at k ts c w (Part.Gives (false, d) u) st = record { by = λ j. (suc j, omega arith, st j) }
  unless-follows n at k ts c w (Part.Stops h os) st = (1, tt, st 0)

  -- out of a block
  out-follows : (n at to : ℕ) (ts : List ℕ) (c : Frame) (w : World) (o : PieceExit)
      → FollowsPiece gives code n at (to ∷ ts) to c w o → FollowsPiece gives code n at ts to c w (out_of o)
  out-follows n at to ts c w (PieceExit.Leaves zero d u) h =
      record { by = λ k. let a = h.by k in (a.0, omega (arith, a.1), a.2) }
  out-follows n at to ts c w PieceExit.Lost h = tt
  out-follows n at to ts c w _ h = h

  -- after a jump to the beginning, one round more
  again-after : {at : ℕ} {c d : Frame} {w u : World} (m to : ℕ) (ts : List ℕ) (o : PieceExit)
      → AdvancesTo gives code at c w at d u
      → FollowsPiece gives code m at ts to d u o → FollowsPiece gives code (suc m) at ts to c w o
  again-after m to ts (PieceExit.Through f v) h r =
      record { by = λ k. let b = r.by k in let a = h.by b.0 in (a.0, omega (arith, a.1, b.1), a.2 ∙ b.2) }
  again-after m to ts (PieceExit.Leaves q f v) h r =
      record { by = λ k. let b = r.by k in let a = h.by b.0 in (a.0, omega (arith, a.1, b.1), a.2 ∙ b.2) }
  again-after m to ts (PieceExit.Ends t) h r = let a = h.by r.0 in (a.0, enough-one t.end m r.0 a.0 a.1 r.1, a.2 ∙ r.2)
  again-after m to ts PieceExit.Lost h r = tt

  -- a round within this many rounds, and what comes of the rounds after it
  record Round (n m at to : ℕ) (ts : List ℕ) (c : Frame) (w : World) (o : PieceExit)
      (next : Frame → World → PieceExit) : Type 0 where
    within : suc m ≤ n
    once : FollowsPiece gives code n at (at ∷ ts) to c w o
    onward : (d : Frame) (u : World) → FollowsPiece gives code m at ts to d u (next d u)

  once-follows : {n m at to : ℕ} {ts : List ℕ} {c : Frame} {w : World} {next : Frame → World → PieceExit}
      (o : PieceExit)
      → Round n m at to ts c w o next → FollowsPiece gives code (suc m) at ts to c w (once_more o next)
  once-follows (PieceExit.Through d u) round = round.once
  once-follows {n} {m} {at} {to} {ts} {c} {w} {next} (PieceExit.Leaves zero d u) round =
      again-after m to ts (next d u) round.once (round.onward d u)
  once-follows (PieceExit.Leaves (suc q) d u) round = round.once
  once-follows {n} {m} {at} {to} {ts} {c} {w} {next} (PieceExit.Ends t) round = let h =
      round.once in (h.0, enough-fewer t.end (suc m) n h.0 round.within h.1, h.2)
  once-follows PieceExit.Lost round = tt

  rounds-follow : (n at to : ℕ) (ts : List ℕ) (f : Frame → World → PieceExit)
      → ((d : Frame) (u : World) → FollowsPiece gives code n at (at ∷ ts) to d u (f d u)) → (m : ℕ) → m ≤ n
      → (c : Frame) (w : World) → FollowsPiece gives code m at ts to c w (rounds m f c w)
  rounds-follow n at to ts f h zero le c w = (0, omega arith, refl)
  rounds-follow n at to ts f h (suc m) le c w =
      let round : Round n m at to ts c w (f c w) (rounds m f) =
      record { within = le; once = h c w; onward = rounds-follow n at to ts f h m (omega (arith, le)) } in
      once-follows (f c w) round

  -- a choice
  picked-follows : (n at to : ℕ) (ts : List ℕ) (c : Frame) (w : World) (p q : Part (ℕ × Frame))
      → q ≡ moved p (target ts) → ((k : ℕ) → exec gives code (suc k) at c w ≡ ended q
      (λ r u. exec gives code k r.0 r.1 u)) → FollowsPiece gives code n at ts to c w (picked p)
  unfolding moved
  picked-follows n at to ts c w (Part.Gives r u) q e st =
      record { by = λ k. (suc k, omega arith, st k ∙ ap (λ z. ended z (λ r u. exec gives code k r.0 r.1 u)) e) }
  picked-follows n at to ts c w (Part.Stops h os) q e st =
      (1, tt, st 0 ∙ ap (λ z. ended z (λ r u. exec gives code 0 r.0 r.1 u)) e)

  follows : (n : ℕ) (p : Piece) (at : ℕ) (ts : List ℕ) (c : Frame) (w : World) → Stand code at (placed p at ts)
      → FollowsPiece gives code n at ts (at + size p) c w (run gives n p at ts c w)
  follows n Piece.Empty at ts c w h = record {
    by = λ k. (k, omega arith, ap (λ m. exec gives code k m c w) (omega arith));
  }
  follows n (Piece.Op i line) at ts c w h = acted-follows n at ts c w (doing gives i) (step at (on i line) c w h.0)
  follows n (Piece.Then p q) at ts c w h =
      let s = placed-size p at ts in
      let right = stand-right code at (at + size p) (placed p at ts) (placed q (at + size p) ts) (omega (arith, s)) h in
      then-follows n at (at + size p) (at + (size p + size q)) ts c w (run gives n p at ts c w)
      (run gives n q (at + size p) ts)
      (follows n p at ts c w (stand-left code at (placed p at ts) (placed q (at + size p) ts) h))
      (λ d u. subst (λ to. FollowsPiece gives code n (at + size p) ts to d u (run gives n q (at + size p) ts d u))
      (omega arith) (follows n q (at + size p) ts d u right))
  follows n (Piece.Exit line k) at ts c w h = record { by = λ j. (suc j, omega arith, step at _ c w h.0 j) }
  follows n (Piece.Unless line k) at ts c w h = unless-follows n at k ts c w (tests c w) (step at _ c w h.0)
  follows n (Piece.Choose line cs o) at ts c w h =
      picked-follows n at (at + 1) ts c w (picks gives (λ k. lower (placed_targets cs o ts) (target ts k)) cs o c w) _
      (pick-placed gives (lower (placed_targets cs o ts)) ts cs o c w) (step at _ c w h.0)
  follows n (Piece.Block p) at ts c w h =
      out-follows n at (at + size p) ts c w (run gives n p at ((at + size p) ∷ ts) c w)
      (follows n p at ((at + size p) ∷ ts) c w h)
  follows n (Piece.Again p) at ts c w h =
      rounds-follow n at (at + size p) ts (run gives n p at (at ∷ ts)) (λ d u. follows n p at (at ∷ ts) d u h) n
      (omega arith) c w

pub placed-follows : PlacedFollows
placed-follows gives code n p at ts c w h = follows gives code n p at ts c w h
