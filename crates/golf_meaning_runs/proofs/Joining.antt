-- What a call instruction, a `go` and a `defer` come to; and the calls that are joined by them.
-- For: `JoinsTop`, golf_meaning_runs/specs/Joins.antt.
-- By: cases of the instruction; induction over lists of operands and of operations.
use Rattle.std.proofs.Common.{◌≡◌, ℕ, ◌+◌, Bool, true, false, zero, suc, List, [], ◌∷◌, ◌++◌, Option, Some, None, inl, inr, refl, ap, sym, ◌∙◌}
use Rattle.std.proofs.Common.{subst, append-nil, map}
use Rattle.golf_theory.specs.Membership.{In, Every}
use Rattle.golf_data.specs.declared.value.Value.{Value}
use Rattle.golf_data.specs.declared.code.Code.{Code}
use Rattle.golf_data.specs.declared.code.Instr.{Instr}
use Rattle.golf_data.specs.declared.goroutine.Deferred.{Deferred}
use Rattle.golf_model.specs.Views.{FrameView}
use Rattle.golf_model.specs.State.{State, call_frame}
use Rattle.golf_model.specs.Changes.{Change}
use Rattle.golf_model.specs.Actors.{Actor, stands, next, goes, on_some, taking_from}
use Rattle.golf_model.specs.Calls.{enters}
use Rattle.golf_model.specs.Turn.{changes}
use Rattle.golf_meaning_flat.specs.Worlds.{Operation}
use Rattle.golf_meaning_runs.specs.VisibleOutcomes.{split_from, CalledBy, DefersBy, started_on}
use Rattle.golf_meaning_runs.specs.TurnsInLives.{operation, Asked, plain_shown, shows}
use Rattle.golf_meaning_runs.specs.CallRecords.{Standing, Child, Call, deferral, deferrals_from, deferrals, starting, starts}
use Rattle.golf_meaning_runs.proofs.Others.{one-some}
use Rattle.golf_meaning_runs.specs.Joins.{GoesNoMore, Calls, IsNoCall, JoinsEnded, deferred_of, DeferredHaveRun, StillDefers, NonePanicked, HasLeftSo}

-- neither a call instruction, nor `go`, nor `defer`
abbrev pub IsPlain : Instr → Type 0
IsPlain (Instr.Call f n) = ⊥
IsPlain (Instr.Go f n) = ⊥
IsPlain (Instr.Defer f n) = ⊥
IsPlain _ = Unit {0}

pub plain-calls : (i : Instr) (g : ℕ) → IsPlain i → CalledBy i g → ⊥
plain-calls (Instr.Call f n) g p c = p
plain-calls (Instr.Go f n) g p c = p
plain-calls _ g p c = c

pub plain-defers : (i : Instr) → IsPlain i → DefersBy i → ⊥
plain-defers (Instr.Defer f n) p d = p
plain-defers _ p d = d

pub plain-no-call : (i : Instr) → IsPlain i → IsNoCall i
plain-no-call (Instr.Call f n) p = p
plain-no-call _ p = tt

-- the deferrals with one more operation

deferrals-more : (os : List Operation) (o : Operation) (ds : List Deferred)
    → deferrals_from (os ++ o ∷ []) ds ≡ deferral o.instr o.operands (deferrals_from os ds)
deferrals-more [] o ds = refl
deferrals-more (x ∷ os) o ds = deferrals-more os o (deferral x.instr x.operands ds)

pub deferrals-next : (os : List Operation) (o : Operation)
    → deferrals (os ++ o ∷ []) ≡ deferral o.instr o.operands (deferrals os)
deferrals-next os o = deferrals-more os o []

plain-deferral : (i : Instr) (vs : List Value) (ds : List Deferred) → IsPlain i → deferral i vs ds ≡ ds
plain-deferral (Instr.Defer f n) vs ds p = absurd p
plain-deferral _ vs ds p = refl

pub deferrals-plain : (os : List Operation) (o : Operation) → IsPlain o.instr → deferrals (os ++ o ∷ []) ≡ deferrals os
deferrals-plain os o p = deferrals-next os o ∙ plain-deferral o.instr o.operands (deferrals os) p

pub calls-deferral : (i : Instr) (g : ℕ) (vs : List Value) (ds : List Deferred) → Calls i g → deferral i vs ds ≡ ds
calls-deferral (Instr.Call f n) g vs ds c = refl
calls-deferral _ g vs ds c = absurd c

-- the goroutines that are started, with one more operation

joined-lists : {X : Type 0} (xs ys zs : List X) → (xs ++ ys) ++ zs ≡ xs ++ (ys ++ zs)
joined-lists [] ys zs = refl
joined-lists (x ∷ xs) ys zs = ap (λ ws. x ∷ ws) (joined-lists xs ys zs)

pub starts-next : (os : List Operation) (o : Operation)
    → starts (os ++ o ∷ []) ≡ starts os ++ starting o.instr o.operands
starts-next [] o = append-nil (starting o.instr o.operands)
starts-next (x ∷ os) o = ap (λ zs. starting x.instr x.operands ++ zs) (starts-next os o)
    ∙ sym (joined-lists (starting x.instr x.operands) (starts os) (starting o.instr o.operands))

pub starts-none : (os : List Operation) (o : Operation) → starting o.instr o.operands ≡ []
    → starts (os ++ o ∷ []) ≡ starts os
starts-none os o e = starts-next os o ∙ ap (λ zs. starts os ++ zs) e ∙ append-nil (starts os)

pub plain-starting : (i : Instr) (vs : List Value) → IsPlain i → starting i vs ≡ []
plain-starting (Instr.Go f n) vs p = absurd p
plain-starting _ vs p = refl

pub calls-starting : (i : Instr) (g : ℕ) (vs : List Value) → Calls i g → starting i vs ≡ []
calls-starting (Instr.Call f n) g vs c = refl
calls-starting _ g vs c = absurd c

pub map-last : {X Y : Type 0} (g : X → Y) (xs : List X) (x : X) → map g (xs ++ x ∷ []) ≡ map g xs ++ (g x ∷ [])
map-last g [] x = refl
map-last g (y ∷ xs) x = ap (λ zs. g y ∷ zs) (map-last g xs x)

-- ---- a call that is left

pub ended-more : (k : Call) (o : Standing) → JoinsEnded k o → GoesNoMore o
ended-more k Standing.Goes h = h
ended-more k (Standing.Asks q) h = tt
ended-more k (Standing.Ended i) h = tt

-- it leaves as it stands

pub ended-so : (k : Call) (panicked : Bool) (o : Standing) → JoinsEnded k o
    → JoinsEnded (record k { panicked = panicked }) o
ended-so k panicked Standing.Goes h = h
ended-so k panicked (Standing.Asks q) h = h
ended-so k panicked (Standing.Ended i) h = h

pub left-so : (k : Call) (panicked m : Bool) → HasLeftSo m k → HasLeftSo m (record k { panicked = panicked })
left-so k panicked true h = h
left-so k panicked false h = h

-- none of its deferred calls is still to run
pub all-ran : (k : Call) (f : FrameView) → f.deferred ≡ [] → StillDefers k [] f → DeferredHaveRun k (deferrals k.shown)
all-ran k f none h = (
  sym (append-nil (map deferred_of k.late)) ∙ ap (λ ds. map deferred_of k.late ++ ds) (sym none) ∙ h.0,
  h.1,
)

pub none-panicked : (k : Call) → k.late ≡ [] → NonePanicked k
none-panicked k e = subst (λ (xs : List Child). Every (λ (x : Child). x.panicked ≡ false) xs) (sym e) tt

pub in-middle : {X : Type 0} (xs : List X) (x : X) (ys : List X) → In x (xs ++ (x ∷ ys))
in-middle [] x ys = inl refl
in-middle (y ∷ xs) x ys = inr (in-middle xs x ys)

-- ---- the changes of the three instructions

abbrev pub Comes : Code → Actor → Instr → List Value → List Value → List Change → Type 0
Comes code a (Instr.Call f n) vs rest cs = cs
    ≡ on_some (enters a (next a.frame rest ∷ a.callers)) (call_frame code f vs false)
Comes code a (Instr.Go f n) vs rest cs = cs
    ≡ on_some (λ x. Change.Spawn (started_on a x) ∷ goes a rest) (call_frame code f vs true)
Comes code a (Instr.Defer f n) vs rest cs = cs ≡ stands a (record
    a.frame {
      at = a.frame.at + 1;
      operands = rest;
      deferred = record { function = f; arguments = vs }
          ∷ a.frame.deferred;
    })
Comes code a _ vs rest cs = Unit {0}

taking-is : (n : ℕ) (taken os : List Value) (act : List Value → List Value → List Change) (vs rest : List Value)
    → split_from n taken os ≡ Some (vs, rest) → taking_from n taken act os ≡ act vs rest
taking-is zero taken os act vs rest e =
    ap (λ (p : List Value × List Value). act p.0 p.1) (one-some (taken, os) (vs, rest) e)
taking-is (suc n) taken [] act vs rest e = cc
taking-is (suc n) taken (v ∷ os) act vs rest e = taking-is n (v ∷ taken) os act vs rest e

plain-split : (i : Instr) (m : Option (List Value × List Value)) (vs : List Value) (q : Asked)
    → plain_shown i m ≡ Some (operation i vs, q) → m ≡ Some (vs, q.rest)
plain-split i None vs q e = cc
plain-split i (Some o) vs q e = ap (λ (p : Operation × Asked). Some (p.0.operands, p.1.rest))
    (one-some (operation i o.0, record { ranks = []; rest = o.1 }) (operation i vs, q) e)

pub comes : (code : Code) (a : Actor) (choice : ℕ) (s : State) (i : Instr) (vs : List Value) (q : Asked)
    → shows i a.frame.operands ≡ Some (operation i vs, q) → Comes code a i vs q.rest (changes code i a choice s)
comes code a choice s (Instr.Call f n) vs q e =
    taking-is n [] a.frame.operands _ vs q.rest (plain-split (Instr.Call f n) _ vs q e)
comes code a choice s (Instr.Go f n) vs q e =
    taking-is n [] a.frame.operands _ vs q.rest (plain-split (Instr.Go f n) _ vs q e)
comes code a choice s (Instr.Defer f n) vs q e =
    taking-is n [] a.frame.operands _ vs q.rest (plain-split (Instr.Defer f n) _ vs q e)
comes code a choice s _ vs q e = tt
