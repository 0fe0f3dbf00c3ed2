-- The walks over what was emitted give the function of the piece.
-- For: `function`, src/functions.rt; `IsFunction`, specs/Functions.antt
-- By: induction over the tree of a piece, and over the list of what was emitted
use Rattle.std.proofs.Common.{◌≡◌, ℕ, ◌+◌, Bool, true, false, List, [], ◌∷◌, ◌++◌, length, refl, ap, ◌∙◌, sym}
use Rattle.std.proofs.Common.{append_assoc, append-nil, length-append, slice_set, arith}
use Rattle.std.specs.Prelude.{max, Option, Some, None, slice_get, unwrap_or}
use Rattle.std.proofs.Math.Nat.{zero-max}
use Rattle.std.proofs.Math.Seq.{set-append_seam}
use Rattle.golf_data.specs.declared.code.CodeLine.{CodeLine}
use Rattle.golf_data.specs.declared.code.Function.{Function}
use Rattle.golf_code_layout.specs.Piece.{Piece, size, placed}
use Rattle.golf_live.specs.Live.{live}
use Rattle.golf_code_layout.specs.Depth.{flow, depth}
use Rattle.golf_code_layout.specs.declared.emitted.Emitted.{Emitted}
use Rattle.golf_code_layout.specs.declared.emitted.Emitted.TheVariants as emit
use Rattle.golf_code_layout.specs.Emission.{onto, flat}
use Rattle.golf_code_targets.specs.declared.targets.Targets.{Targets}
use Rattle.golf_code_targets.specs.declared.bodies.Body.{Body}
use Rattle.golf_code_targets.specs.declared.heights.Heights.{Heights}
use Rattle.golf_code_targets.specs.Walks.{target_step, target_steps, targets_of, line_step, line_steps, lines_of}
use Rattle.golf_code_targets.specs.Walks.{no_lines}
use Rattle.golf_code_targets.specs.Heights.{height_step, height_steps, most_of}
use Rattle.golf_code_targets.specs.Functions.{IsFunction}
use Rattle.golf_code_targets.proofs.Looks.{max_both}

-- A piece is added as a list.

onto_flat : (ms : List Emitted) (p : Piece) → onto ms p ≡ ms ++ flat p
onto_flat ms Piece.Empty = sym (append-nil ms)
onto_flat ms (Piece.Op i line) = refl
onto_flat ms (Piece.Then p q) =
    onto_flat (onto ms p) q ∙ ap (λ xs. xs ++ flat q) (onto_flat ms p) ∙ append_assoc ms (flat p) (flat q)
    ∙ ap (λ xs. ms ++ xs) (sym (onto_flat (flat p) q))
onto_flat ms (Piece.Exit line k) = refl
onto_flat ms (Piece.Unless line k) = refl
onto_flat ms (Piece.Choose line cases otherwise) = refl
onto_flat ms (Piece.Block p) =
    ap (λ xs. xs ++ emit.End ∷ []) (onto_flat (ms ++ emit.Block ∷ []) p ∙ append_assoc ms (emit.Block ∷ []) (flat p)
    ∙ ap (λ xs. ms ++ xs) (sym (onto_flat (emit.Block ∷ []) p)))
    ∙ append_assoc ms (onto (emit.Block ∷ []) p) (emit.End ∷ [])
onto_flat ms (Piece.Again p) =
    ap (λ xs. xs ++ emit.End ∷ []) (onto_flat (ms ++ emit.Again ∷ []) p ∙ append_assoc ms (emit.Again ∷ []) (flat p)
    ∙ ap (λ xs. ms ++ xs) (sym (onto_flat (emit.Again ∷ []) p)))
    ∙ append_assoc ms (onto (emit.Again ∷ []) p) (emit.End ∷ [])

flat_then : (p q : Piece) → flat (Piece.Then p q) ≡ flat p ++ flat q
flat_then p q = onto_flat (flat p) q

flat_block : (p : Piece) → flat (Piece.Block p) ≡ emit.Block ∷ (flat p ++ emit.End ∷ [])
flat_block p = ap (λ xs. xs ++ emit.End ∷ []) (onto_flat (emit.Block ∷ []) p)

flat_again : (p : Piece) → flat (Piece.Again p) ≡ emit.Again ∷ (flat p ++ emit.End ∷ [])
flat_again p = ap (λ xs. xs ++ emit.End ∷ []) (onto_flat (emit.Again ∷ []) p)

-- Walks over lists that were put together.

targets_both : (xs ys : List Emitted) (s : Targets) → target_steps (xs ++ ys) s ≡ target_steps ys (target_steps xs s)
targets_both [] ys s = refl
targets_both (x ∷ xs) ys s = targets_both xs ys (target_step x s)

lines_both : (found : List ℕ) (xs ys : List Emitted) (s : Body)
    → line_steps found (xs ++ ys) s ≡ line_steps found ys (line_steps found xs s)
lines_both found [] ys s = refl
lines_both found (x ∷ xs) ys s = lines_both found xs ys (line_step found x s)

heights_both : (gives : List Bool) (xs ys : List Emitted) (s : Heights)
    → height_steps gives (xs ++ ys) s ≡ height_steps gives ys (height_steps gives xs s)
heights_both gives [] ys s = refl
heights_both gives (x ∷ xs) ys s = heights_both gives xs ys (height_step gives x s)

-- The targets.

-- the targets of a piece's blocks, in order
abbrev targets : Piece → ℕ → List ℕ
targets Piece.Empty at = []
targets (Piece.Op i line) at = []
targets (Piece.Then p q) at = targets p at ++ targets q (at + size p)
targets (Piece.Exit line k) at = []
targets (Piece.Unless line k) at = []
targets (Piece.Choose line cases otherwise) at = []
targets (Piece.Block p) at = (at + size p) ∷ targets p at
targets (Piece.Again p) at = at ∷ targets p at

abbrev finding : ℕ → List (Option ℕ) → List ℕ → Targets
finding at waiting found = record { at = at; waiting = waiting; found = found }

same_finding : (at here : ℕ) (waiting : List (Option ℕ)) (found others : List ℕ) → at ≡ here → found ≡ others
    → finding at waiting found ≡ finding here waiting others
same_finding at here waiting found others is same = ap (λ n. finding n waiting found) is
    ∙ ap (finding here waiting) same

finds : (p : Piece) (at : ℕ) (waiting : List (Option ℕ)) (found : List ℕ)
    → target_steps (flat p) (finding at waiting found) ≡ finding (at + size p) waiting (found ++ targets p at)
finds Piece.Empty at waiting found = same_finding at (at + 0) waiting found (found ++ []) (omega arith)
    (sym (append-nil found))
finds (Piece.Op i line) at waiting found = ap (finding (at + 1) waiting) (sym (append-nil found))
finds (Piece.Exit line k) at waiting found = ap (finding (at + 1) waiting) (sym (append-nil found))
finds (Piece.Unless line k) at waiting found = ap (finding (at + 1) waiting) (sym (append-nil found))
finds (Piece.Choose line cases otherwise) at waiting found = ap (finding (at + 1) waiting) (sym (append-nil found))
finds (Piece.Then p q) at waiting found =
    ap (λ ms. target_steps ms (finding at waiting found)) (flat_then p q)
    ∙ targets_both (flat p) (flat q) (finding at waiting found)
    ∙ ap (target_steps (flat q)) (finds p at waiting found)
    ∙ finds q (at + size p) waiting (found ++ targets p at)
    ∙ same_finding ((at + size p) + size q) (at + (size p + size q)) waiting
    ((found ++ targets p at) ++ targets q (at + size p)) (found ++ (targets p at ++ targets q (at + size p)))
    (omega arith) (append_assoc found (targets p at) (targets q (at + size p)))
finds (Piece.Block p) at waiting found =
    ap (λ ms. target_steps ms (finding at waiting found)) (flat_block p)
    ∙ targets_both (flat p) (emit.End ∷ []) (finding at (Some (length found) ∷ waiting) (found ++ 0 ∷ []))
    ∙ ap (target_step emit.End) (finds p at (Some (length found) ∷ waiting) (found ++ 0 ∷ []))
    ∙ ap (λ z. finding (at + size p) waiting (slice_set z (length found) (at + size p)))
    (append_assoc found (0 ∷ []) (targets p at))
    ∙ ap (finding (at + size p) waiting) (set-append_seam found 0 (targets p at) (at + size p))
finds (Piece.Again p) at waiting found =
    ap (λ ms. target_steps ms (finding at waiting found)) (flat_again p)
    ∙ targets_both (flat p) (emit.End ∷ []) (finding at (None ∷ waiting) (found ++ at ∷ []))
    ∙ ap (target_step emit.End) (finds p at (None ∷ waiting) (found ++ at ∷ []))
    ∙ ap (finding (at + size p) waiting) (append_assoc found (at ∷ []) (targets p at))

-- The lines.

abbrev laying : List ℕ → ℕ → List CodeLine → Body
laying around n lines = record { around = around; next = n; lines = lines }

-- after these the targets of a piece are the next ones
record Next (found : List ℕ) (n : ℕ) (ts : List ℕ) : Type 0 where
  pub before : List ℕ
  pub after : List ℕ
  pub many : n ≡ length before
  pub is : found ≡ before ++ (ts ++ after)

next_first : (found ts us : List ℕ) (n : ℕ) → Next found n (ts ++ us) → Next found n ts
next_first found ts us n x = record {
  before = x.before;
  after = us ++ x.after;
  many = x.many;
  is = x.is
      ∙ ap (λ z. x.before ++ z) (append_assoc ts us x.after);
}

next_second : (found ts us : List ℕ) (n : ℕ) → Next found n (ts ++ us) → Next found (n + length ts) us
next_second found ts us n x =
    record {
      before = x.before ++ ts;
      after = x.after;
      many = ap (λ k. k + length ts) x.many ∙ sym (length-append x.before ts);
      is = x.is ∙ ap (λ z. x.before ++ z) (append_assoc ts us x.after) ∙ sym (append_assoc x.before ts (us ++ x.after));
    }

got_seam : (xs : List ℕ) (y : ℕ) (ys : List ℕ) → unwrap_or (slice_get (xs ++ y ∷ ys) (length xs)) 0 ≡ y
got_seam [] y ys = refl
got_seam (x ∷ xs) y ys = got_seam xs y ys

next_got : (found ts : List ℕ) (n t : ℕ) → Next found n (t ∷ ts) → unwrap_or (slice_get found n) 0 ≡ t
next_got found ts n t x = ap (λ k. unwrap_or (slice_get found k) 0) x.many
    ∙ ap (λ z. unwrap_or (slice_get z (length x.before)) 0) x.is ∙ got_seam x.before t (ts ++ x.after)

same_laying : (around : List ℕ) (n m : ℕ) (lines others : List CodeLine) → n ≡ m → lines ≡ others
    → laying around n lines ≡ laying around m others
same_laying around n m lines others is same = ap (λ k. laying around k lines) is ∙ ap (laying around m) same

writes : (p : Piece) (found : List ℕ) (at n : ℕ) (around : List ℕ) (lines : List CodeLine) → Next found n (targets p at)
    → line_steps found (flat p) (laying around n lines) ≡ laying around (n + length (targets p at))
    (lines ++ placed p at around)
writes Piece.Empty found at n around lines x =
    same_laying around n (n + 0) lines (lines ++ []) (omega arith) (sym (append-nil lines))
writes (Piece.Op i line) found at n around lines x =
    ap (λ k. laying around k (lines ++ placed (Piece.Op i line) at around)) (omega arith)
writes (Piece.Exit line k) found at n around lines x =
    ap (λ m. laying around m (lines ++ placed (Piece.Exit line k) at around)) (omega arith)
writes (Piece.Unless line k) found at n around lines x =
    ap (λ m. laying around m (lines ++ placed (Piece.Unless line k) at around)) (omega arith)
writes (Piece.Choose line cases otherwise) found at n around lines x =
    ap (λ m. laying around m (lines ++ placed (Piece.Choose line cases otherwise) at around)) (omega arith)
writes (Piece.Then p q) found at n around lines x =
    let ps = targets p at in
    let qs = targets q (at + size p) in
    ap (λ ms. line_steps found ms (laying around n lines)) (flat_then p q)
    ∙ lines_both found (flat p) (flat q) (laying around n lines)
    ∙ ap (line_steps found (flat q)) (writes p found at n around lines (next_first found ps qs n x))
    ∙ writes q found (at + size p) (n + length ps) around (lines ++ placed p at around) (next_second found ps qs n x)
    ∙ same_laying around ((n + length ps) + length qs) (n + length (ps ++ qs))
    ((lines ++ placed p at around) ++ placed q (at + size p) around)
    (lines ++ (placed p at around ++ placed q (at + size p) around))
    (let e = length-append ps qs in omega (arith, e))
    (append_assoc lines (placed p at around) (placed q (at + size p) around))
writes (Piece.Block p) found at n around lines x =
    let t = at + size p in
    ap (λ ms. line_steps found ms (laying around n lines)) (flat_block p)
    ∙ ap (λ u. line_steps found (flat p ++ emit.End ∷ []) (laying (u ∷ around) (n + 1) lines))
    (next_got found (targets p at) n t x)
    ∙ lines_both found (flat p) (emit.End ∷ []) (laying (t ∷ around) (n + 1) lines)
    ∙ ap (line_step found emit.End) (writes p found at (n + 1) (t ∷ around) lines
    (next_second found (t ∷ []) (targets p at) n x))
    ∙ ap (λ k. laying around k (lines ++ placed p at (t ∷ around))) (omega arith)
writes (Piece.Again p) found at n around lines x =
    ap (λ ms. line_steps found ms (laying around n lines)) (flat_again p)
    ∙ ap (λ u. line_steps found (flat p ++ emit.End ∷ []) (laying (u ∷ around) (n + 1) lines))
    (next_got found (targets p at) n at x)
    ∙ lines_both found (flat p) (emit.End ∷ []) (laying (at ∷ around) (n + 1) lines)
    ∙ ap (line_step found emit.End) (writes p found at (n + 1) (at ∷ around) lines
    (next_second found (at ∷ []) (targets p at) n x))
    ∙ ap (λ k. laying around k (lines ++ placed p at (at ∷ around))) (omega arith)

targets_are : (p : Piece) → targets_of (flat p) ≡ targets p 0
targets_are p = ap (λ (s : Targets). s.found) (finds p 0 [] [])

lines_are : (p : Piece) → lines_of (flat p) ≡ placed p 0 []
lines_are p =
    ap (λ found. (line_steps found (flat p) no_lines).lines) (targets_are p)
    ∙ ap (λ (s : Body). s.lines) (writes p (targets p 0) 0 0 [] []
    (record { before = []; after = []; many = refl; is = sym (append-nil (targets p 0)) }))

-- The heights.

abbrev standing : ℕ → Option ℕ → List Bool → List (Option ℕ) → Heights
standing most here kinds targets = record { most = most; here = here; kinds = kinds; targets = targets }

max_zero : (m : ℕ) → max m 0 ≡ m
max_zero m = omega arith

stands_at : (gives : List Bool) (p : Piece) (m : ℕ) (h : Option ℕ) (kinds : List Bool) (ts : List (Option ℕ))
    → height_steps gives (flat p) (standing m h kinds ts) ≡ standing (max m (flow gives p h ts).most)
    (flow gives p h ts).behind kinds (flow gives p h ts).targets
stands_at gives Piece.Empty m h kinds ts = ap (λ n. standing n h kinds ts) (sym (max_zero m))
stands_at gives (Piece.Op i line) m h kinds ts = refl
stands_at gives (Piece.Exit line k) m h kinds ts =
    ap (λ n. standing n None kinds (flow gives (Piece.Exit line k) h ts).targets) (sym (max_zero m))
stands_at gives (Piece.Unless line k) m h kinds ts = refl
stands_at gives (Piece.Choose line cases otherwise) m h kinds ts = refl
stands_at gives (Piece.Then p q) m h kinds ts =
    let a = flow gives p h ts in
    let b = flow gives q a.behind a.targets in
    ap (λ ms. height_steps gives ms (standing m h kinds ts)) (flat_then p q)
    ∙ heights_both gives (flat p) (flat q) (standing m h kinds ts)
    ∙ ap (height_steps gives (flat q)) (stands_at gives p m h kinds ts)
    ∙ stands_at gives q (max m a.most) a.behind kinds a.targets
    ∙ ap (λ n. standing n b.behind kinds b.targets) (max_both m a.most b.most)
stands_at gives (Piece.Block p) m h kinds ts =
    ap (λ ms. height_steps gives ms (standing m h kinds ts)) (flat_block p)
    ∙ heights_both gives (flat p) (emit.End ∷ []) (standing m h (true ∷ kinds) (None ∷ ts))
    ∙ ap (height_step gives emit.End) (stands_at gives p m h (true ∷ kinds) (None ∷ ts))
stands_at gives (Piece.Again p) m h kinds ts =
    ap (λ ms. height_steps gives ms (standing m h kinds ts)) (flat_again p)
    ∙ heights_both gives (flat p) (emit.End ∷ []) (standing m h (false ∷ kinds) (h ∷ ts))
    ∙ ap (height_step gives emit.End) (stands_at gives p m h (false ∷ kinds) (h ∷ ts))

most_is : (gives : List Bool) (p : Piece) → most_of gives (flat p) ≡ depth gives p
unfolding depth
most_is gives p = ap (λ (s : Heights). s.most) (stands_at gives p 0 (Some 0) [] [])
    ∙ zero-max (flow gives p (Some 0) []).most

-- Together.

abbrev with_parts : ℕ → ℕ → ℕ → ℕ → List CodeLine → List ℕ → Function
with_parts params slots line depth body masks =
    record { params = params; slots = slots; depth = depth; line = line; body = body; live = masks }

pub resolves : (gives : List Bool) (params slots line most : ℕ) (body : List CodeLine) (masks : List ℕ)
    (emitted : List Emitted) → most ≡ most_of gives emitted → body ≡ lines_of emitted → masks ≡ live slots body
    → IsFunction gives params slots line emitted (with_parts params slots line most body masks)
resolves gives params slots line most body masks emitted height lines found = λ p is.
    ap (with_parts params slots line most body) found
    ∙ ap (λ n. with_parts params slots line n body (live slots body)) (height ∙ ap (most_of gives) is ∙ most_is gives p)
    ∙ ap (λ (ls : List CodeLine). with_parts params slots line (depth gives p) ls (live slots ls))
    (lines ∙ ap lines_of is ∙ lines_are p)
