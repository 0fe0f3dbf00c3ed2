-- The code of a condition, an `if` and an `else` does what these do.
-- For: `if_deed` and `else_deed`, golf_meaning_statements/specs/Steps.antt.
-- By: cases of the value of the test and of how a part ends; no induction.
use Rattle.std.proofs.Common.{◌≡◌, ℕ, suc, ◌+◌, List, [], ◌∷◌, ◌++◌, Option, Some, None, refl, ap, sym, ◌∙◌, subst}
use Rattle.std.proofs.Common.{arith, append-nil, length-append, append_assoc}
use Rattle.golf_syntax_trees.specs.declared.expressions.Expr.{Expr}
use Rattle.golf_syntax_trees.specs.declared.statements.Simple.{Simple}
use Rattle.golf_data.specs.declared.value.Value.{Value}
use Rattle.golf_model.specs.Values.{bool_of}
use Rattle.golf_check_types.specs.declared.locals.Local.{Local}
use Rattle.golf_check_types.specs.declared.scopes.Scope.{Scope}
use Rattle.golf_check_types.specs.Scopes.{begun}
use Rattle.golf_check_types.specs.Statements.{behind}
use Rattle.golf_code_layout.specs.Piece.{Piece, all, size}
use Rattle.golf_code_of.specs.declared.surroundings.Around.{Around}
use Rattle.golf_code_of.specs.declared.tables.Tables.{Tables}
use Rattle.golf_code_of.specs.ExpressionCode.{piece_at}
use Rattle.golf_code_of.specs.Statements.{StatementPart, within, past}
use Rattle.golf_code_of.specs.Statements as L
use Rattle.golf_meaning_flat.specs.Worlds.{World, pushed}
use Rattle.golf_meaning_flat.specs.InstructionEffects.{Frame}
use Rattle.golf_meaning_flat.specs.Flat.{tests}
use Rattle.golf_meaning_flat.specs.Structured.{PieceExit, then_way, unless_true, out_of, run}
use Rattle.golf_meaning_source.specs.Names.{Env}
use Rattle.golf_meaning_source.specs.Operations.{Taking}
use Rattle.golf_meaning_source.specs.Does.{frame, OnTop, Stored, Known}
use Rattle.golf_meaning_source.proofs.Turning.{then-end}
use Rattle.golf_meaning_statements.specs.Flows.{Course, Flow, ends_here, or_else, tested}
use Rattle.golf_meaning_statements.specs.Steps.{value_at, Deed, Step, optional, block, in_order, after_test, then_step}
use Rattle.golf_meaning_statements.specs.Steps.{if_deed, else_deed, parts}
use Rattle.golf_meaning_statements.specs.Follows.{IsEnvStored, Goes, StatementMeans}
use Rattle.golf_meaning_statements.proofs.Flowing.{ends-in, Declared, Branches, LeadsAlike, goes-base, goes-after}
use Rattle.golf_meaning_statements.proofs.Flowing.{goes-test, GoesPrefix, goes-prefix, exactly-prefix, exactly-goes}
use Rattle.golf_meaning_statements.proofs.Flowing.{around-same, means-then, means-nothing, means-order, means-block}
use Rattle.golf_meaning_statements.proofs.Flowing.{StepMeans, EachMeans, rising-append}
use Rattle.golf_meaning_statements.proofs.Simples.{value-turns, means-simple}

-- operands under a test
pub goes-tested : {R : Flow → PieceExit → Type 0} {u : World} {k : ℕ} {f g : Flow} {to : Frame → World → PieceExit}
    (slots rest vs : List Value) → Branches R (frame slots rest) u k f g to
    → R (tested vs u f g) (then_way (unless_true (tests (frame slots (pushed vs rest)) u) k) to)
goes-tested slots rest [] h = h.if_neither _
goes-tested slots rest (x ∷ []) h = goes-test (bool_of x) h
goes-tested slots rest (x ∷ (y ∷ vs)) h = h.if_neither _

out-leaves : (k : ℕ) (c : Frame) (u : World) → out_of (PieceExit.Leaves (k + 1) c u) ≡ PieceExit.Leaves k c u
out-leaves k c u = ap (λ j. out_of (PieceExit.Leaves j c u)) (suc-is k)
  where
    suc-is : (j : ℕ) → j + 1 ≡ suc j
    suc-is j = omega arith

-- what is false is no more than that
pub goes-ends-here : (rest : List Value) (a : Around) (ds al : List Local) (next : ℕ) (slots : List Value) (f : Flow)
    (o : PieceExit) → Goes ds next slots rest al (within 1 a) f o
    → Goes ds next slots rest al a (ends_here f) (out_of o)
goes-ends-here rest a ds al next slots (Flow.Goes Course.On env u) o h = (h.0, ap out_of h.1, h.2)
goes-ends-here rest a ds al next slots (Flow.Goes Course.Skips env u) o h = (h.0, ap out_of h.1, h.2)
goes-ends-here rest a ds al next slots (Flow.Goes Course.Breaks env u) o h =
    (h.0, ap out_of h.1 ∙ out-leaves a.breaks (frame h.0 rest) u, h.2)
goes-ends-here rest a ds al next slots (Flow.Goes Course.Continues env u) o h =
    (h.0, ap out_of h.1 ∙ out-leaves a.continues (frame h.0 rest) u, h.2)
goes-ends-here rest a ds al next slots (Flow.Ends t) o h = ends-in t t.end out_of o refl h

out-out-leaves : (k : ℕ) (c : Frame) (u : World) (to : Frame → World → PieceExit)
    → out_of (then_way (out_of (PieceExit.Leaves (k + 2) c u)) to) ≡ PieceExit.Leaves k c u
out-out-leaves k c u to = ap (λ j. out_of (then_way (out_of (PieceExit.Leaves j c u)) to)) (suc-is k)
  where
    suc-is : (j : ℕ) → j + 2 ≡ suc (suc j)
    suc-is j = omega arith

-- one part, and another one for if its condition is false: what they declare, and how they go
record OrElse (rest : List Value) (a : Around) (ds : List Local) (next : ℕ) (slots : List Value)
    (f : Flow) : Type 0 where
  one_declares : List Local
  other_declares : List Local
  other : Env → World → Flow
  way : PieceExit
  to : Frame → World → PieceExit
  one_goes : Goes ds next slots rest (ds ++ one_declares) (within 2 a) f way
  other_goes : (env : Env) (u : World) (now : List Value) → IsEnvStored ds next slots (ds ++ one_declares) env now
      → Goes ds next slots rest (ds ++ other_declares) (within 1 a) (other env u) (to (frame now rest) u)

goes-or-else : (rest : List Value) (a : Around) (ds : List Local) (next : ℕ) (slots : List Value) (f : Flow)
    (p : OrElse rest a ds next slots f)
    → GoesPrefix rest a ds next slots (or_else f (λ env u. ends_here (p.other env u)))
    (out_of (then_way (out_of (then_way p.way (λ c v. PieceExit.Leaves 1 c v)))
    (λ c v. then_way (p.to c v) (λ d x. PieceExit.Through d x))))
goes-or-else rest a ds next slots (Flow.Goes Course.On env u) p =
    let h = p.one_goes in
    goes-prefix rest a ds p.one_declares next slots (Flow.Goes Course.On env u) _ (
      h.0,
      ap (λ z. out_of (then_way (out_of (then_way z (λ c v. PieceExit.Leaves 1 c v)))
          (λ c v. then_way (p.to c v) (λ d x. PieceExit.Through d x)))) h.1,
      h.2,
    )
goes-or-else rest a ds next slots (Flow.Goes Course.Skips env u) p =
    let h = p.one_goes in
    let to = p.to in
    let g = p.other in
    subst (λ z. GoesPrefix rest a ds next slots (ends_here (g env u))
    (out_of (then_way (out_of (then_way z (λ c v. PieceExit.Leaves 1 c v)))
    (λ c v. then_way (to c v) (λ d x. PieceExit.Through d x))))) (sym h.1)
    (subst (λ z. GoesPrefix rest a ds next slots (ends_here (g env u)) (out_of z))
    (sym (then-end (to (frame h.0 rest) u)))
    (goes-prefix rest a ds p.other_declares next slots (ends_here (g env u)) (out_of (to (frame h.0 rest) u))
    (goes-ends-here rest a ds (ds ++ p.other_declares) next slots (g env u) (to (frame h.0 rest) u)
    (p.other_goes env u h.0 h.2))))
goes-or-else rest a ds next slots (Flow.Goes Course.Breaks env u) p =
    let h = p.one_goes in (
      h.0,
      ap (λ z. out_of (then_way (out_of (then_way z (λ c v. PieceExit.Leaves 1 c v)))
          (λ c v. then_way (p.to c v) (λ d x. PieceExit.Through d x)))) h.1
          ∙ out-out-leaves a.breaks (frame h.0 rest) u (λ c v. then_way (p.to c v) (λ d x. PieceExit.Through d x)),
      h.2,
    )
goes-or-else rest a ds next slots (Flow.Goes Course.Continues env u) p =
    let h = p.one_goes in (
      h.0,
      ap (λ z. out_of (then_way (out_of (then_way z (λ c v. PieceExit.Leaves 1 c v)))
          (λ c v. then_way (p.to c v) (λ d x. PieceExit.Through d x)))) h.1
          ∙ out-out-leaves a.continues (frame h.0 rest) u (λ c v. then_way (p.to c v) (λ d x. PieceExit.Through d x)),
      h.2,
    )
goes-or-else rest a ds next slots (Flow.Ends t) p =
    ends-in t t.end (λ z. out_of (then_way (out_of (then_way z (λ c v. PieceExit.Leaves 1 c v)))
    (λ c v. then_way (p.to c v) (λ d x. PieceExit.Through d x)))) p.way refl p.one_goes

module _ (taking : Taking) where
  module _ (t : Tables) (l : ℕ) where
    -- a condition, and what it guards
    pub means-test : (test : Expr) (x : StatementPart) (d : Deed) → ((s : Scope) → (x.walk s).declares ≡ [])
        → StatementMeans taking x.walk x.lay d
        → StatementMeans taking (L.behind_test t l test x).walk (L.behind_test t l test x).lay
        (after_test taking t l test d)
    means-test test x d quiet h = record {
      rises = h.rises;
      goes = λ a s n env slots ok room at ts rest u.
          let e = piece_at t l s test in
          let p = (x.lay a s).piece in
          let al = (behind s (x.walk s)).locals in
          let tail = all (Piece.Unless l 0 ∷ p ∷ []) in
          goes-after (Goes s.locals s.next slots rest al a) (λ t o h. h) (value_at taking t l s test env u)
          (λ vs v. tested vs v (d a s n env v) (Flow.Goes Course.Skips env v)) (OnTop slots rest)
          (λ o. then_way o (run taking.gives n tail (at + size e) ts))
          (run taking.gives n e at ts (frame slots rest) u) (λ k os. refl)
          (value-turns taking t l test s env slots ok n at ts rest u)
          (λ vs v i q.
          let branches : Branches (Goes s.locals s.next slots rest al a) (frame slots rest) v 0 (d a s n env v)
          (Flow.Goes Course.Skips env v) (run taking.gives n (all (p ∷ [])) (at + size e + 1) ts) = record {
            if_true = subst (λ o. Goes s.locals s.next slots rest al a (d a s n env v) o)
                (sym (then-end (run taking.gives n p (at + size e + 1) ts (frame slots rest) v)))
                (h.goes a s n env slots ok room (at + size e + 1) ts rest v);
            if_false = (
              slots,
              refl,
              (
                subst (λ ds. Stored (s.locals ++ ds) env slots) (sym (quiet s))
                    (subst (λ ds. Stored ds env slots) (sym (append-nil s.locals)) ok.stored),
                refl,
                λ i lt z. refl,
              ),
            );
            if_wrong = refl;
            if_neither = λ o. tt;
          } in
          subst (λ z. Goes s.locals s.next slots rest al a (tested vs v (d a s n env v) (Flow.Goes Course.Skips env v))
          (then_way z (run taking.gives n tail (at + size e) ts))) (sym q) (goes-tested slots rest vs branches));
    }

    pub means-optional : (x : Option Simple)
        → StatementMeans taking (L.optional t x).walk (L.optional t x).lay (optional taking t x)
    means-optional None = means-nothing taking
    means-optional (Some x) = means-simple taking t x

    -- first, and then a condition with what it guards
    pub means-then-part : (first : Option Simple) (test : Expr) (body : List Step) → EachMeans taking body
        → StatementMeans taking (L.then_part t l first test (parts body)).walk
        (L.then_part t l first test (parts body)).lay (then_step taking t l first test body)
    means-then-part first test body h =
        let x = L.optional t first in
        let y = L.behind_test t l test (L.block (parts body)) in
        means-then taking x.walk y.walk x.lay y.lay (optional taking t first) (after_test taking t l test (block body))
        (means-optional first) (means-test test (L.block (parts body)) (block body) (λ s. refl)
        (means-block taking (L.in_order (parts body)).walk (L.in_order (parts body)).lay (in_order body)
        (means-order taking body h)))

  -- out of one block more

  pub means-if : (t : Tables) (l : ℕ) (first : Option Simple) (test : Expr) (body : List Step) → EachMeans taking body
      → StatementMeans taking (L.if_part t l first test (parts body)).walk (L.if_part t l first test (parts body)).lay
      (if_deed taking t l first test body)
  means-if t l first test body h =
      let x = L.then_part t l first test (parts body) in
      means-block taking x.walk (L.ends_here x).lay
      (λ a s n env w. ends_here (then_step taking t l first test body (within 1 a) s n env w)) (record {
        rises = (means-then-part t l first test body h).rises;
        goes = λ a s n env slots ok room at ts rest u.
            let p = (x.lay (within 1 a) s).piece in
            goes-ends-here rest a s.locals (behind s (x.walk s)).locals s.next slots
            (then_step taking t l first test body (within 1 a) s n env u)
            (run taking.gives n p at ((at + size p) ∷ ts) (frame slots rest) u)
            ((means-then-part t l first test body h).goes (within 1 a) s n env slots ok room at
            ((at + size p) ∷ ts) rest u);
      })

  pub means-else : (t : Tables) (l : ℕ) (first : Option Simple) (test : Expr) (body : List Step) (y : Step)
      → EachMeans taking body → StepMeans taking y
      → StatementMeans taking (L.else_part t l first test (parts body) y.part).walk
      (L.else_part t l first test (parts body) y.part).lay (else_deed taking t l first test body y)
  means-else t l first test body y hb hy = record {
    rises = λ s. omega arith;
    goes = λ a s0 n env slots ok0 room at ts rest u.
        let s = begun s0 in
        let ok : Known s.locals s.next env slots = record { stored = ok0.stored; rising = ok0.rising } in
        let one = (x.lay (within 2 a) s) in
        let b = within 1 (past a one) in
        let s1 = behind s (x.walk s) in
        let two = y.part.lay b s1 in
        let inner = all (one.piece ∷ Piece.Exit l 1 ∷ []) in
        let outer = all (Piece.Block inner ∷ two.piece ∷ []) in
        let us : List ℕ = (at + size outer) ∷ ts in
        let vs : List ℕ = (at + size inner) ∷ us in
        let sized = length-append (x.walk s).slots (y.part.walk s1).slots in
        exactly-goes rest a s0.locals s0.next slots (else_deed taking t l first test body y a s0 n env u)
        (run taking.gives n (Piece.Block outer) at ts (frame slots rest) u)
        (exactly-prefix rest a s0 (or_else (then_step taking t l first test body (within 2 a) s n env u)
        (λ env u. ends_here (y.deed b s1 n env u)))
        (run taking.gives n (Piece.Block outer) at ts (frame slots rest) u) ok0
        (goes-or-else rest a s.locals s.next slots (then_step taking t l first test body (within 2 a) s n env u)
        (record {
          one_declares = (x.walk s).declares;
          other_declares = (x.walk s).declares ++ (y.part.walk s1).declares;
          other = y.deed b s1 n;
          way = run taking.gives n one.piece at vs (frame slots rest) u;
          to = run taking.gives n two.piece (at + size inner) us;
          one_goes = hx.goes (within 2 a) s n env slots ok (omega (arith, room, sized)) at vs rest u;
          other_goes = λ env1 u1 now st.
              let more : Declared s.locals (x.walk s).declares s.next s1.next slots now =
              record { onward = omega arith; rising = hx.rises s; came = record { long = st.1; kept = st.2 } } in
              let alike : LeadsAlike (within 1 a) b = record { breaks = refl; continues = refl } in
              subst (λ al. Goes s.locals s.next slots rest al (within 1 a) (y.deed b s1 n env1 u1)
              (run taking.gives n two.piece (at + size inner) us (frame now rest) u1))
              (append_assoc s.locals (x.walk s).declares (y.part.walk s1).declares)
              (goes-base rest (within 1 a) (behind s1 (y.part.walk s1)).locals (y.deed b s1 n env1 u1)
              (run taking.gives n two.piece (at + size inner) us (frame now rest) u1) more
              (around-same s1.locals s1.next now rest (behind s1 (y.part.walk s1)).locals (y.deed b s1 n env1 u1)
              (run taking.gives n two.piece (at + size inner) us (frame now rest) u1) alike
              (hy.goes b s1 n env1 now (record {
                stored = st.0;
                rising = rising-append s.locals (x.walk s).declares 0 s.next s1.next ok.rising (hx.rises s);
              })
              (let q = st.1 in omega (arith, room, sized, q)) (at + size inner) us rest u1)));
        })));
  }
    where
      x : StatementPart
      x = L.then_part t l first test (parts body)

      hx : StatementMeans taking x.walk x.lay (then_step taking t l first test body)
      hx = means-then-part t l first test body hb
