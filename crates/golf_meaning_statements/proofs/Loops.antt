-- The code of `for` without a range does what the loop does.
-- For: `forever`, `while` and `stepping`, golf_meaning_statements/specs/Steps.antt.
-- By: induction over n, the turns that are left.
use Rattle.std.proofs.Common.{◌≡◌, ℕ, zero, suc, ◌+◌, ◌≤◌, Bool, true, false, List, [], ◌∷◌, ◌++◌, length, Option, Some}
use Rattle.std.proofs.Common.{None, refl, ap, sym, ◌∙◌, subst, arith, append-nil, length-append}
use Rattle.golf_syntax_trees.specs.declared.expressions.Expr.{Expr}
use Rattle.golf_syntax_trees.specs.declared.statements.Simple.{Simple}
use Rattle.golf_data.specs.declared.value.Value.{Value}
use Rattle.golf_model.specs.Values.{bool_of}
use Rattle.golf_check_types.specs.declared.locals.Local.{Local}
use Rattle.golf_check_types.specs.declared.scopes.Scope.{Scope}
use Rattle.golf_check_types.specs.Statements as W
use Rattle.golf_check_types.specs.Statements.{behind}
use Rattle.golf_code_layout.specs.Piece.{Piece, all, size}
use Rattle.golf_code_of.specs.declared.surroundings.Around.{Around}
use Rattle.golf_code_of.specs.declared.tables.Tables.{Tables}
use Rattle.golf_code_of.specs.ExpressionCode.{piece_at}
use Rattle.golf_code_of.specs.Statements.{StatementPart, past}
use Rattle.golf_code_of.specs.Statements as L
use Rattle.golf_code_of.specs.Loops as O
use Rattle.golf_meaning_flat.specs.Worlds as V
use Rattle.golf_meaning_flat.specs.Worlds.{World, pushed}
use Rattle.golf_meaning_flat.proofs.Halting.{said-as}
use Rattle.golf_meaning_flat.specs.InstructionEffects.{Frame, on_kind}
use Rattle.golf_meaning_flat.specs.Flat.{tests}
use Rattle.golf_meaning_flat.specs.Structured.{PieceExit, then_way, unless_true, out_of, once_more, rounds, run}
use Rattle.golf_meaning_source.specs.Names.{Env}
use Rattle.golf_meaning_source.specs.Operations.{Taking}
use Rattle.golf_meaning_source.specs.Does.{frame, Sim, OnTop, Stored, SlotsRise, Changed, Known}
use Rattle.golf_meaning_source.proofs.Turning.{then-end}
use Rattle.golf_meaning_statements.specs.Flows.{Course, Flow, on, by_test, tested, turned, turns, then_post}
use Rattle.golf_meaning_statements.specs.Steps.{value_at, Deed, Step, optional, simple_deals, block, after_test}
use Rattle.golf_meaning_statements.specs.Steps.{in_loop, forever, while, is_plain, after_optional, with_post, stepping}
use Rattle.golf_meaning_statements.specs.Steps.{parts}
use Rattle.golf_meaning_statements.specs.Follows.{IsEnvStored, EndsAlike, Goes, StatementMeans}
use Rattle.golf_meaning_statements.proofs.Flowing.{ends-in, Came, kept-trans, goes-guarded, Exactly, MayBegin}
use Rattle.golf_meaning_statements.proofs.Flowing.{exactly-block, goes-after, means-order, EachMeans, rising-append}
use Rattle.golf_meaning_statements.proofs.Simples.{value-turns, plain-quiet, plain-tail}
use Rattle.golf_meaning_statements.proofs.Conditions.{means-optional}

-- from a frame that has changed on
pub goes-trans : {ds : List Local} {next : ℕ} {slots now : List Value} (rest : List Value) (a : Around)
    (al : List Local) (f : Flow) (o : PieceExit) → Came ds next slots now → Goes ds next now rest al a f o
    → Goes ds next slots rest al a f o
goes-trans {ds} {next} {slots} {now} rest a al (Flow.Goes Course.On env u) o came h =
    (h.0, h.1, (h.2.0, h.2.1 ∙ came.long, kept-trans ds next slots now h.0 came.kept h.2.2))
goes-trans {ds} {next} {slots} {now} rest a al (Flow.Goes Course.Skips env u) o came h =
    (h.0, h.1, (h.2.0, h.2.1 ∙ came.long, kept-trans ds next slots now h.0 came.kept h.2.2))
goes-trans {ds} {next} {slots} {now} rest a al (Flow.Goes Course.Breaks env u) o came h =
    (h.0, h.1, (h.2.0, h.2.1 ∙ came.long, kept-trans ds next slots now h.0 came.kept h.2.2))
goes-trans {ds} {next} {slots} {now} rest a al (Flow.Goes Course.Continues env u) o came h =
    (h.0, h.1, (h.2.0, h.2.1 ∙ came.long, kept-trans ds next slots now h.0 came.kept h.2.2))
goes-trans {ds} {next} {slots} {now} rest a al (Flow.Ends t) o came h = h

-- a turn of a loop, seen from the inside: target 0 is the beginning and target 1 the end
abbrev pub Turning : List Value → List Local → ℕ → List Value → Flow → PieceExit → Type 0
Turning rest ds next slots (Flow.Goes Course.On env u) o = (now : List Value)
    × (o ≡ PieceExit.Leaves 0 (frame now rest) u)
    × IsEnvStored ds next slots ds env now
Turning rest ds next slots (Flow.Goes Course.Continues env u) o = (now : List Value)
    × (o ≡ PieceExit.Leaves 0 (frame now rest) u) × IsEnvStored ds next slots ds env now
Turning rest ds next slots (Flow.Goes Course.Breaks env u) o = (now : List Value)
    × (o ≡ PieceExit.Leaves 1 (frame now rest) u) × IsEnvStored ds next slots ds env now
Turning rest ds next slots (Flow.Goes Course.Skips env u) o = (now : List Value)
    × (o ≡ PieceExit.Leaves 1 (frame now rest) u)
    × IsEnvStored ds next slots ds env now
Turning rest ds next slots (Flow.Ends t) o = EndsAlike t t.end o

module _ (rest : List Value) (a : Around) (ds : List Local) (next : ℕ) where
  turned-goes : (slots : List Value) (f : Flow) (o : PieceExit) (g : Env → World → Flow)
      (to : Frame → World → PieceExit)
      → Turning rest ds next slots f o
      → ((env : Env) (now : List Value) (u : World) → Stored ds env now → length now ≡ length slots
      → Goes ds next now rest ds a (g env u) (out_of (to (frame now rest) u)))
      → Goes ds next slots rest ds a (turned f g) (out_of (once_more o to))
  turned-goes slots (Flow.Goes Course.On env u) o g to h k =
      let came : Came ds next slots h.0 = record { long = h.2.1; kept = h.2.2 } in
      subst (λ z. Goes ds next slots rest ds a (g env u) (out_of (once_more z to))) (sym h.1)
      (goes-trans rest a ds (g env u) _ came (k env h.0 u h.2.0 h.2.1))
  turned-goes slots (Flow.Goes Course.Continues env u) o g to h k =
      let came : Came ds next slots h.0 = record { long = h.2.1; kept = h.2.2 } in
      subst (λ z. Goes ds next slots rest ds a (g env u) (out_of (once_more z to))) (sym h.1)
      (goes-trans rest a ds (g env u) _ came (k env h.0 u h.2.0 h.2.1))
  turned-goes slots (Flow.Goes Course.Breaks env u) o g to h k = (h.0, ap (λ z. out_of (once_more z to)) h.1, h.2)
  turned-goes slots (Flow.Goes Course.Skips env u) o g to h k = (h.0, ap (λ z. out_of (once_more z to)) h.1, h.2)
  turned-goes slots (Flow.Ends t) o g to h k = ends-in t t.end (λ z. out_of (once_more z to)) o refl h

  -- as many turns as the blocks that are begun anew
  turns-go : (long : ℕ) (step : Env → World → Flow) (turn : Frame → World → PieceExit)
      → ((env : Env) (now : List Value) (u : World) → Stored ds env now → length now ≡ long
      → Turning rest ds next now (step env u) (turn (frame now rest) u))
      → (m : ℕ) (env : Env) (slots : List Value) (u : World) → Stored ds env slots → length slots ≡ long
      → Goes ds next slots rest ds a (turns m step env u) (out_of (rounds m turn (frame slots rest) u))
  turns-go long step turn h zero env slots u ok e = refl
  turns-go long step turn h (suc m) env slots u ok e =
      turned-goes slots (step env u) (turn (frame slots rest) u) (turns m step) (rounds m turn) (h env slots u ok e)
      (λ env1 now u1 ok1 e1. turns-go long step turn h m env1 now u1 ok1 (e1 ∙ e))

  -- a body, and then a jump to the beginning
  body-turning : (slots : List Value) (f : Flow) (o : PieceExit)
      → Exactly rest (record { breaks = 1; continues = 0; functions = a.functions }) ds next slots f o
      → Turning rest ds next slots f (then_way o (λ c v. PieceExit.Leaves 0 c v))
  body-turning slots (Flow.Goes Course.On env u) o h =
      (h.0, ap (λ z. then_way z (λ c v. PieceExit.Leaves 0 c v)) h.1, h.2)
  body-turning slots (Flow.Goes Course.Continues env u) o h =
      (h.0, ap (λ z. then_way z (λ c v. PieceExit.Leaves 0 c v)) h.1, h.2)
  body-turning slots (Flow.Goes Course.Breaks env u) o h =
      (h.0, ap (λ z. then_way z (λ c v. PieceExit.Leaves 0 c v)) h.1, h.2)
  body-turning slots (Flow.Goes Course.Skips env u) o h = absurd h
  body-turning slots (Flow.Ends t) o h = ends-in t t.end (λ z. then_way z (λ c v. PieceExit.Leaves 0 c v)) o refl h

  turning-test : (slots : List Value) (m : Option Bool) (u : World) (f : Flow) (env : Env)
      (to : Frame → World → PieceExit)
      → Stored ds env slots → Turning rest ds next slots f (to (frame slots rest) u)
      → Turning rest ds next slots (by_test m u f (Flow.Goes Course.Skips env u))
      (then_way (unless_true (on_kind (λ b. V.Part.Gives (b, frame slots rest) u) u m) 1) to)
  turning-test slots None u f env to ok h = refl
  turning-test slots (Some true) u f env to ok h = h
  turning-test slots (Some false) u f env to ok h = (slots, refl, (ok, refl, λ i lt q. refl))

  turning-tested : (slots vs : List Value) (u : World) (f : Flow) (env : Env) (to : Frame → World → PieceExit)
      → Stored ds env slots → Turning rest ds next slots f (to (frame slots rest) u)
      → Turning rest ds next slots (tested vs u f (Flow.Goes Course.Skips env u))
      (then_way (unless_true (tests (frame slots (pushed vs rest)) u) 1) to)
  turning-tested slots [] u f env to ok h = tt
  turning-tested slots (x ∷ []) u f env to ok h = turning-test slots (bool_of x) u f env to ok h
  turning-tested slots (x ∷ (y ∷ vs)) u f env to ok h = tt

  -- a part that changes names, and then a jump to the beginning
  turning-on : (slots : List Value) (p : V.Part Env) (o : PieceExit) → Sim p (Changed ds slots rest) o
      → Turning rest ds next slots (on p) (then_way o (λ c v. PieceExit.Leaves 0 c v))
  turning-on slots (V.Part.Gives env u) o h =
      (h.0, ap (λ z. then_way z (λ c v. PieceExit.Leaves 0 c v)) h.1, (h.2, h.3, λ i lt q. h.4 i q))
  turning-on slots (V.Part.Stops s os) o h =
      said-as s _ _ h (λ e. ap (λ z. then_way z (λ c v. PieceExit.Leaves 0 c v)) e)

  turning-trans : {slots now : List Value} (f : Flow) (o : PieceExit) → Came ds next slots now
      → Turning rest ds next now f o
      → Turning rest ds next slots f o
  turning-trans {slots} {now} (Flow.Goes Course.On env u) o came h =
      (h.0, h.1, (h.2.0, h.2.1 ∙ came.long, kept-trans ds next slots now h.0 came.kept h.2.2))
  turning-trans {slots} {now} (Flow.Goes Course.Continues env u) o came h =
      (h.0, h.1, (h.2.0, h.2.1 ∙ came.long, kept-trans ds next slots now h.0 came.kept h.2.2))
  turning-trans {slots} {now} (Flow.Goes Course.Breaks env u) o came h =
      (h.0, h.1, (h.2.0, h.2.1 ∙ came.long, kept-trans ds next slots now h.0 came.kept h.2.2))
  turning-trans {slots} {now} (Flow.Goes Course.Skips env u) o came h =
      (h.0, h.1, (h.2.0, h.2.1 ∙ came.long, kept-trans ds next slots now h.0 came.kept h.2.2))
  turning-trans {slots} {now} (Flow.Ends t) o came h = h

  -- a body in a block of its own, and the post statement
  post-turning : (k : ℕ) (slots : List Value) (f : Flow) (o : PieceExit) (g : Env → World → Flow)
      (to : Frame → World → PieceExit)
      → Exactly rest (record { breaks = 2; continues = 0; functions = k }) ds next slots f o
      → ((env : Env) (now : List Value) (u : World) → Stored ds env now → length now ≡ length slots
      → Turning rest ds next now (g env u) (to (frame now rest) u))
      → Turning rest ds next slots (then_post f g) (then_way (out_of o) to)
  post-turning k0 slots (Flow.Goes Course.On env u) o g to h k =
      let came : Came ds next slots h.0 = record { long = h.2.1; kept = h.2.2 } in
      subst (λ z. Turning rest ds next slots (g env u) (then_way (out_of z) to)) (sym h.1)
      (turning-trans (g env u) (to (frame h.0 rest) u) came (k env h.0 u h.2.0 h.2.1))
  post-turning k0 slots (Flow.Goes Course.Continues env u) o g to h k =
      let came : Came ds next slots h.0 = record { long = h.2.1; kept = h.2.2 } in
      subst (λ z. Turning rest ds next slots (g env u) (then_way (out_of z) to)) (sym h.1)
      (turning-trans (g env u) (to (frame h.0 rest) u) came (k env h.0 u h.2.0 h.2.1))
  post-turning k0 slots (Flow.Goes Course.Breaks env u) o g to h k = (h.0, ap (λ z. then_way (out_of z) to) h.1, h.2)
  post-turning k0 slots (Flow.Goes Course.Skips env u) o g to h k = absurd h
  post-turning k0 slots (Flow.Ends t) o g to h k = ends-in t t.end (λ z. then_way (out_of z) to) o refl h

module _ (taking : Taking) where
  -- loops whose body is a block

  module _ (body : List Step) (means-body : EachMeans taking body) where
    abbrev pub B : StatementPart
    B = L.block (parts body)

    abbrev pub inside : ℕ → ℕ → Around → Around
    inside breaks continues a = record { breaks = breaks; continues = continues; functions = a.functions }

    abbrev pub looped : Scope → Scope
    looped s = record s { breaks = true; loops = true }

    -- what the body of a loop does
    pub body-exactly : (b : Around) (s : Scope) (n : ℕ) (env : Env) (slots : List Value)
        → Known s.locals s.next env slots → s.next + length (B.walk (looped s)).slots ≤ length slots
        → (at : ℕ) (ts : List ℕ) (rest : List Value) (u : World)
        → Exactly rest b s.locals s.next slots (block body b (looped s) n env u)
        (run taking.gives n (B.lay b (looped s)).piece at ts (frame slots rest) u)
    body-exactly b s n env slots ok room at ts rest u =
        let ready : MayBegin (looped s) (B.walk (looped s)) env slots =
        record { known = record { stored = ok.stored; rising = ok.rising }; room = room } in
        exactly-block taking (means-order taking body means-body) b n ready at ts rest u

    pub means-forever : (l : ℕ) → StatementMeans taking (O.forever l (O.in_loop 1 0 B)).walk
        (O.forever l (O.in_loop 1 0 B)).lay (forever (in_loop 1 0 (block body)))
    means-forever l = record {
      rises = λ s. omega arith;
      goes = λ a s n env slots ok room at ts rest u.
          let b = inside 1 0 a in
          let p = (B.lay b (looped s)).piece in
          let q = all (p ∷ Piece.Exit l 0 ∷ []) in
          let us : List ℕ = at ∷ ((at + size q) ∷ ts) in
          subst (λ al. Goes s.locals s.next slots rest al a (turns n (in_loop 1 0 (block body) a s n) env u)
          (run taking.gives n (O.round q) at ts (frame slots rest) u)) (sym (append-nil s.locals))
          (turns-go rest a s.locals s.next (length slots) (in_loop 1 0 (block body) a s n) (run taking.gives n q at us)
          (λ env1 now u1 ok1 e1. body-turning rest a s.locals s.next now (block body b (looped s) n env1 u1)
          (run taking.gives n p at us (frame now rest) u1)
          (body-exactly b s n env1 now (record { stored = ok1; rising = ok.rising })
          (omega (arith, room, e1)) at us rest u1))
          n env slots u ok.stored refl);
    }

    pub means-while : (t : Tables) (l : ℕ) (test : Expr)
        → StatementMeans taking (O.while t l test (O.in_loop 1 0 B)).walk (O.while t l test (O.in_loop 1 0 B)).lay
        (while taking t l test (in_loop 1 0 (block body)))
    means-while t l test = record {
      rises = λ s. omega arith;
      goes = λ a s n env slots ok room at ts rest u.
          let b = inside 1 0 a in
          let p = (B.lay b (looped s)).piece in
          let e = piece_at t l s test in
          let q = all (e ∷ Piece.Unless l 1 ∷ p ∷ Piece.Exit l 0 ∷ []) in
          let us : List ℕ = at ∷ ((at + size q) ∷ ts) in
          let tail = all (Piece.Unless l 1 ∷ p ∷ Piece.Exit l 0 ∷ []) in
          let d = in_loop 1 0 (block body) a s n in
          subst (λ al. Goes s.locals s.next slots rest al a
          (turns n (after_test taking t l test (in_loop 1 0 (block body)) a s n) env u)
          (run taking.gives n (O.round q) at ts (frame slots rest) u)) (sym (append-nil s.locals))
          (turns-go rest a s.locals s.next (length slots) (after_test taking t l test (in_loop 1 0 (block body)) a s n)
          (run taking.gives n q at us)
          (λ env1 now u1 ok1 e1.
          let known : Known s.locals s.next env1 now = record { stored = ok1; rising = ok.rising } in
          goes-after (Turning rest s.locals s.next now) (λ t o h. h) (value_at taking t l s test env1 u1)
          (λ vs v. tested vs v (d env1 v) (Flow.Goes Course.Skips env1 v)) (OnTop now rest)
          (λ o. then_way o (run taking.gives n tail (at + size e) us))
          (run taking.gives n e at us (frame now rest) u1) (λ k os. refl)
          (value-turns taking t l test s env1 now known n at us rest u1)
          (λ vs v i z. subst (λ y. Turning rest s.locals s.next now
          (tested vs v (d env1 v) (Flow.Goes Course.Skips env1 v))
          (then_way y (run taking.gives n tail (at + size e) us))) (sym z)
          (turning-tested rest a s.locals s.next now vs v (d env1 v) env1
          (run taking.gives n (all (p ∷ Piece.Exit l 0 ∷ [])) (at + size e + 1) us) ok1
          (body-turning rest a s.locals s.next now (d env1 v)
          (run taking.gives n p (at + size e + 1) us (frame now rest) v)
          (body-exactly b s n env1 now known (omega (arith, room, e1)) (at + size e + 1) us rest v)))))
          n env slots u ok.stored refl);
    }

    -- the post statement

    post-quiet : (t : Tables) (post : Option Simple) → is_plain post ≡ true → (s : Scope)
        → (((L.optional t post).walk s).declares ≡ []) × (((L.optional t post).walk s).slots ≡ [])
    post-quiet t None h s = (refl, refl)
    post-quiet t (Some x) h s = plain-quiet taking t x.line x.kind h s

    post-goes : {env : Env} {now : List Value} (t : Tables) (post : Option Simple) → is_plain post ≡ true
        → (a : Around) (s : Scope) (n : ℕ) → Known s.locals s.next env now
        → (at : ℕ) (ts : List ℕ) (rest : List Value) (u : World)
        → Turning rest s.locals s.next now (optional taking t post a s n env u)
        (then_way (run taking.gives n ((L.optional t post).lay a s).piece at ts (frame now rest) u)
        (λ c v. PieceExit.Leaves 0 c v))
    post-goes {env} {now} t None h a s n ok at ts rest u = (now, refl, (ok.stored, refl, λ i lt q. refl))
    post-goes {env} {now} t (Some x) h a s n ok at ts rest u =
        turning-on rest a s.locals s.next now (simple_deals taking t x.line x.kind s env u)
        (run taking.gives n ((L.optional t (Some x)).lay a s).piece at ts (frame now rest) u)
        (plain-tail taking t x.line x.kind h s env now ok rest n at ts u)

    module _ (t : Tables) (l : ℕ) (test : Option Expr) (post : Option Simple) where
      abbrev X : StatementPart
      X = O.stepping t l test (L.optional t post) (O.in_loop 2 0 B)

      abbrev D : Deed
      D = stepping taking t l test post (in_loop 2 0 (block body))

      module _ (plain : is_plain post ≡ true) (a : Around) (s : Scope) (n : ℕ) (env0 : Env) (slots : List Value)
          (ok0 : Known s.locals s.next env0 slots) (rest : List Value) where
        abbrev P : L.Laid
        P = (L.optional t post).lay a s

        abbrev s1 : Scope
        s1 = behind s ((L.optional t post).walk s)

        abbrev b : Around
        b = inside 2 0 (past a P)

        same-locals : s1.locals ≡ s.locals
        same-locals = ap (λ ds. s.locals ++ ds) (post-quiet t post plain s).0 ∙ append-nil s.locals

        same-next : s1.next ≡ s.next
        same-next = ap (λ ts. s.next + length ts) (post-quiet t post plain s).1 ∙ nothing-more s.next
          where
            nothing-more : (k : ℕ) → k + 0 ≡ k
            nothing-more k = omega arith

        abbrev tail_of : Piece
        tail_of = all (Piece.Block (B.lay b (looped s1)).piece ∷ P.piece ∷ Piece.Exit l 0 ∷ [])

        -- a turn, after its condition
        guarded-turn : s1.next + length (B.walk (looped s1)).slots ≤ length slots
            → (env : Env) (now : List Value) (u : World) → Stored s.locals env now → length now ≡ length slots
            → (at : ℕ) (us : List ℕ)
            → Turning rest s.locals s.next now (with_post taking t post (in_loop 2 0 (block body)) a s n env u)
            (run taking.gives n tail_of at us (frame now rest) u)
        guarded-turn room env now u ok1 e1 at us =
            let bp = (B.lay b (looped s1)).piece in
            let vs : List ℕ = (at + size bp) ∷ us in
            let known : Known s1.locals s1.next env now =
            subst (λ ds. Known ds s1.next env now) (sym same-locals)
            (subst (λ k. Known s.locals k env now) (sym same-next)
            (record { stored = ok1; rising = ok0.rising })) in
            let exact = body-exactly b s1 n env now known
            (subst (λ k. s1.next + length (B.walk (looped s1)).slots ≤ k) (sym e1) room) at vs rest u in
            post-turning rest a s.locals s.next (past a P).functions now (block body b (looped s1) n env u)
            (run taking.gives n bp at vs (frame now rest) u) (optional taking t post a s n)
            (λ c v. then_way (run taking.gives n P.piece (at + size bp) us c v) (λ d x. PieceExit.Leaves 0 d x))
            (subst (λ k. Exactly rest b s.locals k now (block body b (looped s1) n env u)
            (run taking.gives n bp at vs (frame now rest) u)) same-next
            (subst (λ ds. Exactly rest b ds s1.next now (block body b (looped s1) n env u)
            (run taking.gives n bp at vs (frame now rest) u)) same-locals exact))
            (λ env2 now2 u2 ok2 e2.
            let known2 : Known s.locals s.next env2 now2 = record { stored = ok2; rising = ok0.rising } in
            post-goes t post plain a s n known2 (at + size bp) us rest u2)

        -- a turn with its condition
        whole-turn : (o : Option Expr) → s1.next + length (B.walk (looped s1)).slots ≤ length slots
            → (env : Env) (now : List Value) (u : World) → Stored s.locals env now → length now ≡ length slots
            → (at : ℕ) (us : List ℕ)
            → Turning rest s.locals s.next now (after_optional taking t l o
            (with_post taking t post (in_loop 2 0 (block body))) a s n env u)
            (run taking.gives n (Piece.Then (O.optional_test t l o s) tail_of) at us (frame now rest) u)
        whole-turn None room env now u ok1 e1 at us = guarded-turn room env now u ok1 e1 (at + 0) us
        whole-turn (Some test) room env now u ok1 e1 at us =
            let e = piece_at t l s test in
            let d = with_post taking t post (in_loop 2 0 (block body)) a s n in
            let to = run taking.gives n tail_of (at + (size e + (1 + 0))) us in
            let unless = all (Piece.Unless l 1 ∷ []) in
            goes-after (Turning rest s.locals s.next now) (λ t o h. h) (value_at taking t l s test env u)
            (λ vs v. tested vs v (d env v) (Flow.Goes Course.Skips env v)) (OnTop now rest)
            (λ o. then_way (then_way o (run taking.gives n unless (at + size e) us)) to)
            (run taking.gives n e at us (frame now rest) u) (λ k os. refl)
            (value-turns taking t l test s env now (record { stored = ok1; rising = ok0.rising }) n at us rest u)
            (λ vs v i z. subst (λ y. Turning rest s.locals s.next now
            (tested vs v (d env v) (Flow.Goes Course.Skips env v))
            (then_way (then_way y (run taking.gives n unless (at + size e) us)) to)) (sym z)
            (subst (λ y. Turning rest s.locals s.next now (tested vs v (d env v) (Flow.Goes Course.Skips env v))
            (then_way y to)) (sym (then-end (unless_true (tests (frame now (pushed vs rest)) v) 1)))
            (turning-tested rest a s.locals s.next now vs v (d env v) env to ok1
            (guarded-turn room env now v ok1 e1 (at + (size e + (1 + 0))) us))))

      stepping-locals : (o : Option Expr) (s : Scope) → ((L.optional t post).walk s).declares ≡ []
          → s.locals ≡ (behind s (W.behind_optional l o
          (W.then (L.optional t post).walk (O.in_loop 2 0 B).walk) s)).locals
      stepping-locals None s e = sym (ap (λ ds. s.locals ++ (ds ++ [])) e ∙ append-nil s.locals)
      stepping-locals (Some test) s e = sym (ap (λ ds. s.locals ++ (ds ++ [])) e ∙ append-nil s.locals)

      stepping-room : (o : Option Expr) (s : Scope) (k : ℕ)
          → (behind s (W.behind_optional l o (W.then (L.optional t post).walk (O.in_loop 2 0 B).walk) s)).next ≤ k
          → (behind s ((L.optional t post).walk s)).next + length
          (B.walk (looped (behind s ((L.optional t post).walk s)))).slots ≤ k
      stepping-room None s k room = let z = length-append ((L.optional t post).walk s).slots
          (B.walk (looped (behind s ((L.optional t post).walk s)))).slots in omega (arith, room, z)
      stepping-room (Some test) s k room = let z =
          length-append ((L.optional t post).walk s).slots
          (B.walk (looped (behind s ((L.optional t post).walk s)))).slots in omega (arith, room, z)

      post-rises : (s : Scope) → SlotsRise s.next
          (behind s (W.then (L.optional t post).walk (O.in_loop 2 0 B).walk s)).next
          (W.then (L.optional t post).walk (O.in_loop 2 0 B).walk s).declares
      post-rises s =
          let v = (L.optional t post).walk s in
          let w = (O.in_loop 2 0 B).walk (behind s v) in
          let z = length-append v.slots w.slots in
          subst (λ k. SlotsRise s.next k (v.declares ++ [])) (omega (arith, z))
          (rising-append v.declares [] s.next (behind s v).next (s.next + length v.slots + length w.slots)
          ((means-optional taking t l post).rises s) (omega arith))

      stepping-rises : (o : Option Expr) (s : Scope)
          → SlotsRise s.next (behind s (W.behind_optional l o
          (W.then (L.optional t post).walk (O.in_loop 2 0 B).walk) s)).next
          (W.behind_optional l o (W.then (L.optional t post).walk (O.in_loop 2 0 B).walk) s).declares
      stepping-rises None s = post-rises s
      stepping-rises (Some test) s = post-rises s

      pub means-stepping : StatementMeans taking X.walk X.lay D
      means-stepping = record {
        rises = stepping-rises test;
        goes = λ a s n env slots ok room at ts rest u.
            let flow = turns n (after_optional taking t l test
            (with_post taking t post (in_loop 2 0 (block body))) a s n) env u in
            goes-guarded (Goes s.locals s.next slots rest (behind s (X.walk s)).locals a) (λ v o. tt)
            (is_plain post) u flow (run taking.gives n (X.lay a s).piece at ts (frame slots rest) u) (λ e.
            let q = Piece.Then (O.optional_test t l test s) (tail_of e a s n env slots ok rest) in
            let us : List ℕ = at ∷ ((at + size q) ∷ ts) in
            subst (λ al. Goes s.locals s.next slots rest al a flow
            (run taking.gives n (O.round q) at ts (frame slots rest) u))
            (stepping-locals test s (post-quiet t post e s).0)
            (turns-go rest a s.locals s.next (length slots)
            (after_optional taking t l test (with_post taking t post (in_loop 2 0 (block body))) a s n)
            (run taking.gives n q at us)
            (λ env1 now u1 ok1 e1. whole-turn e a s n env slots ok rest test
            (stepping-room test s (length slots) room) env1 now u1 ok1 e1 at us)
            n env slots u ok.stored refl));
      }
