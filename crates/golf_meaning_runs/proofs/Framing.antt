-- Frames that are begun, cleared, returned to or unwound still match their calls.
-- For: `FramesMatch`, golf_meaning_runs/specs/Books.antt.
-- By: cases of how a frame is left, and of whether its call waits; induction over lists of slots and values.
use Rattle.std.proofs.Common.{◌≡◌, ℕ, zero, suc, ◌+◌, ◌-◌, Bool, true, false, cond, pos, List, [], ◌∷◌, ◌++◌, length}
use Rattle.std.proofs.Common.{Option, Some, None, inl, inr, refl, ap, sym, ◌∙◌, subst, slice_get, arith, append-nil}
use Rattle.std.specs.Prelude.{option_and_then, map, option_to_list}
use Rattle.golf_theory.specs.Membership.{In, Every}
use Rattle.golf_data.specs.declared.value.Value.{Value}
use Rattle.golf_data.specs.declared.code.Code.{Code}
use Rattle.golf_data.specs.declared.code.Function.{Function}
use Rattle.golf_data.specs.declared.goroutine.Leaving.{Leaving}
use Rattle.golf_data.specs.declared.goroutine.Fault.{Fault}
use Rattle.golf_data.specs.declared.goroutine.Mode.{Mode}
use Rattle.golf_data.specs.Masks.{stays_under}
use Rattle.golf_data.specs.Slots.{cleared_from, cleared_slots}
use Rattle.golf_live.specs.Live.{live}
use Rattle.golf_live.proofs.MainLaws.{needed-stay}
use Rattle.golf_model.specs.Views.{FrameView}
use Rattle.golf_model.specs.State.{opened}
use Rattle.golf_model.specs.Wakes.{unwinding}
use Rattle.golf_model.specs.ClearedSlots.{mask_at, stays_in, cleared}
use Rattle.golf_model.specs.Calls.{handed_back}
use Rattle.golf_meaning_flat.specs.Worlds.{Halt, pushed}
use Rattle.golf_meaning_flat.specs.Flat.{lower}
use Rattle.golf_meaning_runs.specs.TurnLaws.{AlikeAt}
use Rattle.golf_meaning_runs.specs.Life.{frame, Now, Life, first_slots}
use Rattle.golf_meaning_runs.specs.TurnsInLives.{answer, Asked}
use Rattle.golf_meaning_runs.specs.Books.{RunTypes, shaping, Shaped, AreArguments, popped}
use Rattle.golf_meaning_runs.specs.CallRecords.{Standing, CallSnapshot, Child, Origin, Call, fresh, as_seen, call_of}
use Rattle.golf_meaning_runs.specs.CallRecords.{beginning, beginners, child, noted, noted_below}
use Rattle.golf_meaning_runs.specs.Books.{IsOnTop, Top, WaitsBelow, Below, Of, FramesStand, FramesMatch}
use Rattle.golf_meaning_runs.specs.Joins.{GoesNoMore, IsBegun, DiscardsSo, Joined, AsksCall, JoinsEnded, JoinsOnTop}
use Rattle.golf_meaning_runs.specs.Joins.{HasPanicCause, deferred_of, StillDefers, DefersAll, JoinsTop, DefersIt, JoinsBelow}
use Rattle.golf_meaning_runs.specs.Books.{one_of, AreLived, TiesOf, HasLife}
use Rattle.golf_meaning_runs.proofs.Serving.{none-late}
use Rattle.golf_meaning_runs.specs.Books.{HasMasks}

-- ---- clearing

cleared-length : (test : ℕ → Bool) (j : ℕ) (xs : List Value) → length (cleared_from test j xs) ≡ length xs
cleared-length test j [] = refl
cleared-length test j (x ∷ xs) = ap suc (cleared-length test (j + 1) xs)

cleared-get : (test : ℕ → Bool) (j i n : ℕ) (xs : List Value) → n ≡ j + i → test n ≡ true
    → slice_get (cleared_from test j xs) i ≡ slice_get xs i
cleared-get test j i n [] e t = refl
cleared-get test j zero n (x ∷ xs) e t = let same : n ≡ j =
    omega (arith, e) in ap (λ b. Some (cond b x (Value.Int (pos 0)))) (subst (λ m. test m ≡ true) same t)
cleared-get test j (suc i) n (x ∷ xs) e t = cleared-get test (j + 1) i n xs (omega (arith, e)) t

-- under its mask a position is left with all that is needed there
masked-alike : (fn : Function) (at : ℕ) (mask : Option ℕ) (xs : List Value) → fn.live ≡ live fn.slots fn.body
    → mask ≡ slice_get fn.live at → AlikeAt fn.body at xs (cleared_slots (stays_under mask) xs)
masked-alike fn at mask xs masks is = (
  sym (cleared-length (stays_under mask) 0 xs),
  λ i needed. sym (cleared-get (stays_under mask) 0 i i xs (omega arith)
      (subst (λ (m : Option ℕ). stays_under m i ≡ true) (sym (is ∙ ap (λ ms. slice_get ms at) masks))
      (needed-stay fn.slots fn.body at i needed))),
)

module _ (code : Code) (types : RunTypes) (masks : HasMasks code) where
  own-mask : (f : ℕ) (at : ℕ) (fn : Function) → slice_get code.functions f ≡ Some fn
      → mask_at code f at ≡ slice_get fn.live at
  own-mask f at fn is = ap (λ o. option_and_then (λ (g : Function). slice_get g.live at) o) is

  module _ (fn : Function) (k : Call) (f : FrameView) (is : slice_get code.functions f.function ≡ Some fn) where
    cleared-alike : AlikeAt fn.body f.at f.slots (cleared_slots (stays_under (mask_at code f.function f.at)) f.slots)
    cleared-alike = masked-alike fn f.at (mask_at code f.function f.at) f.slots (masks f.function fn is)
        (own-mask f.function f.at fn is)

    cleared-asks : (o : Standing) → IsOnTop types fn k f o Mode.Running
        → IsOnTop types fn k (record f { slots = cleared_slots (stays_under (mask_at code f.function f.at)) f.slots }) o
        Mode.Running
    cleared-asks Standing.Goes h = Life.Clears
        (cleared_slots (stays_under (mask_at code f.function f.at)) f.slots) h cleared-alike
    cleared-asks (Standing.Ended i) h = absurd h
    cleared-asks (Standing.Asks q) h = (
      h.0,
      h.1,
      λ fits. Life.Clears (cleared_slots (stays_under (mask_at code f.function f.at)) f.slots)
          (h.2 fits) cleared-alike,
    )

    cleared-top : (l : Leaving) → Top types fn k f l Mode.Running
        → Top types fn k (record f { slots = cleared_slots (stays_in l (mask_at code f.function f.at)) f.slots }) l
        Mode.Running
    cleared-top Leaving.No h = cleared-asks k.standing h
    cleared-top (Leaving.Returning v) h = h
    cleared-top (Leaving.Unwinding x) h = h

  -- the innermost frame is cleared
  pub cleared-matches : (f : FrameView) (fs : List FrameView) (ks : List Call)
      → FramesMatch code types Mode.Running (f ∷ fs) ks → FramesMatch code types Mode.Running (cleared code f ∷ fs) ks
  cleared-matches f fs [] h = absurd h
  cleared-matches f fs (k ∷ ks) h = let o =
      h.0 in (
        (o.0, o.1, o.2, o.3, cleared-top o.0 k f (ap (λ n. slice_get code.functions n) o.2 ∙ o.1) f.leaving o.4),
        h.1,
        h.2,
        h.3,
      )

  -- a call that is begun
  pub fresh-top : (by : Origin) (g : ℕ) (vs : List Value) (discards : Bool) (fn : Function) → slice_get code.functions g ≡ Some fn
      → (length vs ≡ fn.params) × AreArguments types g vs
      → Of code types (fresh by g vs) (opened g vs discards fn)
      (λ z. Top types z (fresh by g vs) (opened g vs discards fn) Leaving.No Mode.Running)
  fresh-top by g vs discards fn is count =
      let begun = Life.Clears (cleared_slots (stays_under (slice_get fn.live 0)) (first_slots fn vs))
      (Life.Begins count.0) (masked-alike fn 0 (slice_get fn.live 0) (first_slots fn vs) (masks g fn is) refl) in (
        fn,
        is,
        refl,
        (
          count.1,
          (
            Now.Stands 0
                (frame (cleared_slots (stays_under (slice_get fn.live 0)) (first_slots fn vs)) []),
            begun,
            tt,
          ),
        ),
        begun,
      )

-- a call that is begun has made none, and no deferred call of it has run
pub fresh-joins : (by : Origin) (g : ℕ) (vs : List Value) (discards : Bool) (fn : Function)
    → JoinsTop (fresh by g vs) (opened g vs discards fn) Leaving.No Mode.Running
fresh-joins by g vs discards fn = (Joined.Empty, (refl, refl))

pub fresh-ties : (code : Code) (types : RunTypes) (by : Origin) (g : ℕ) (vs : List Value) (discards : Bool)
    → IsBegun by g vs → AreLived code types (beginners by) → DiscardsSo by discards
    → TiesOf code types (fresh by g vs) discards
fresh-ties code types by g vs discards begun lived so =
    record { begun = begun; by = lived; discards_so = so; made_live = tt; late_live = tt; starts_so = refl }

-- ---- the answer that is written down

pushed-length : (vs rest : List Value) → length (pushed vs rest) ≡ length vs + length rest
pushed-length [] rest = omega arith
pushed-length (v ∷ vs) rest = let ih = pushed-length vs (v ∷ rest) in omega (arith, ih)

popped-pushed : (vs acc rest : List Value) (n : ℕ)
    → popped (length vs + n) acc (pushed vs rest) ≡ popped n (vs ++ acc) rest
popped-pushed [] acc rest n = ap (λ m. popped m acc rest) (omega arith)
popped-pushed (v ∷ vs) acc rest n = ap (λ m. popped m acc (pushed vs (v ∷ rest)))
    (let e : length (v ∷ vs) + n ≡ length vs + suc n = omega arith in e) ∙ popped-pushed vs acc (v ∷ rest) (suc n)

pub answer-is : (vs rest : List Value) → popped (length (pushed vs rest) - length rest) [] (pushed vs rest) ≡ vs
answer-is vs rest = ap (λ m. popped m [] (pushed vs rest))
    (let l = pushed-length vs rest in let e : length (pushed vs rest) - length rest ≡ length vs + 0 = omega
    (arith, l) in e) ∙ popped-pushed vs [] rest 0 ∙ append-nil vs

-- once it is written down, the call stands at its frame
pub settled-lives : (types : RunTypes) (fn : Function) (k : Call) (f : FrameView) (q : Asked)
    → Shaped types k.function f.at (frame f.slots f.operands) → IsOnTop types fn k f (Standing.Asks q) Mode.Running
    → Life fn (shaping types k.function) k.arguments k.shown
    (k.got ++ answer (lower q.ranks f.at) (popped (length f.operands - length q.rest) [] f.operands) ∷ [])
    (Now.Stands f.at (frame f.slots f.operands))
settled-lives types fn k f q fits h =
    subst (λ os. Life fn (shaping types k.function) k.arguments k.shown
    (k.got ++ answer (lower q.ranks f.at) (popped (length os - length q.rest) [] os) ∷ [])
    (Now.Stands f.at (frame f.slots os))) (sym h.1)
    (subst (λ vs. Life fn (shaping types k.function) k.arguments k.shown (k.got ++ answer (lower q.ranks f.at) vs ∷ [])
    (Now.Stands f.at (frame f.slots (pushed h.0 q.rest)))) (sym (answer-is h.0 q.rest))
    (h.2 (subst (λ os. Shaped types k.function f.at (frame f.slots os)) h.1 fits)))

-- ---- a frame that is returned to, or unwound

module _ (code : Code) (types : RunTypes) where
  module _ (fn : Function) (k : Call) (f : FrameView) where
    back-asks : (discards : Bool) (v : Option Value) (o : Standing) → WaitsBelow types fn k f o
        → IsOnTop types fn k (handed_back discards v f) o Mode.Running
    back-asks discards v Standing.Goes h = absurd h
    back-asks discards v (Standing.Ended i) h = absurd h
    back-asks true v (Standing.Asks q) h = ([], h.0, h.1 [])
    back-asks false None (Standing.Asks q) h = ([], h.0, h.1 [])
    back-asks false (Some v) (Standing.Asks q) h = (v ∷ [], ap (λ os. v ∷ os) h.0, h.1 (v ∷ []))

    back-leaving : (discards : Bool) (v : Option Value) → (handed_back discards v f).leaving ≡ f.leaving
    back-leaving true v = refl
    back-leaving false None = refl
    back-leaving false (Some v) = refl

    back-function : (discards : Bool) (v : Option Value) → (handed_back discards v f).function ≡ f.function
    back-function true v = refl
    back-function false None = refl
    back-function false (Some v) = refl

    back-top : (discards : Bool) (v : Option Value) (l : Leaving) → Below types fn k f l
        → Top types fn k (handed_back discards v f) l Mode.Running
    back-top discards v Leaving.No h = back-asks discards v k.standing h
    back-top discards v (Leaving.Returning r) h = h
    back-top discards v (Leaving.Unwinding x) h = h

  waiting-ends : (fn : Function) (k : Call) (f : FrameView) (o : Standing) → WaitsBelow types fn k f o → GoesNoMore o
  waiting-ends fn k f Standing.Goes h = absurd h
  waiting-ends fn k f (Standing.Asks q) h = tt
  waiting-ends fn k f (Standing.Ended i) h = tt

  below-ends : (fn : Function) (k : Call) (f : FrameView) (l : Leaving) → Below types fn k f l → GoesNoMore k.standing
  below-ends fn k f Leaving.No h = waiting-ends fn k f k.standing h
  below-ends fn k f (Leaving.Returning v) h = subst GoesNoMore (sym h) tt
  below-ends fn k f (Leaving.Unwinding x) h = h

-- ---- the call below notes the one that leaves

every-more : {X Y : Type 0} (P : Y → Type 0) (g : X → Y) (xs : List X) (x : X) → Every P (map g xs) → P (g x)
    → Every P (map g (xs ++ x ∷ []))
every-more P g [] x h p = (p, tt)
every-more P g (y ∷ xs) x h p = (h.0, every-more P g xs x h.1 p)

every-added : {X : Type 0} (P : X → Type 0) (xs : List X) (x : X) → Every P xs → P x → Every P (xs ++ x ∷ [])
every-added P [] x h p = (p, tt)
every-added P (y ∷ xs) x h p = (h.0, every-added P xs x h.1 p)

added-in : {X : Type 0} (xs : List X) (x : X) → In x (xs ++ x ∷ [])
added-in [] x = inl refl
added-in (y ∷ xs) x = inr (added-in xs x)

old-in : {X : Type 0} (xs : List X) (y x : X) → In y xs → In y (xs ++ x ∷ [])
old-in [] y x m = absurd m
old-in (z ∷ xs) y x (inl e) = inl e
old-in (z ∷ xs) y x (inr m) = inr (old-in xs y x m)

-- a cause stays one
still-caused : (k : Call) (x : Child) → HasPanicCause k → HasPanicCause (record k { late = k.late ++ x ∷ [] })
still-caused k x (inl h) = inl h
still-caused k x (inr (y, m, e)) = inr (y, old-in k.late y x m, e)

-- what has run next comes before what is still to run
map-more : {X Y : Type 0} (g : X → Y) (xs : List X) (x : X) (ys : List Y)
    → map g (xs ++ x ∷ []) ++ ys ≡ map g xs ++ (g x ∷ ys)
map-more g [] x ys = refl
map-more g (y ∷ xs) x ys = ap (λ zs. g y ∷ zs) (map-more g xs x ys)

-- a deferred call that has run changes nothing of what its call has shown and got
ended-late : (k : Call) (late : List Child) (o : Standing) → JoinsEnded k o → JoinsEnded (record k { late = late }) o
ended-late k late Standing.Goes h = h
ended-late k late (Standing.Asks q) h = h
ended-late k late (Standing.Ended i) h = h

module _ (code : Code) (types : RunTypes) (x : Call) (lived : HasLife code types x) where
  -- as the call that began it
  abbrev called : Call → Call
  called k = noted (Origin.Calling (as_seen k)) x k

  abbrev ran : Call → Call
  ran k = noted (Origin.Deferring (as_seen k)) x k

  called-ties : (k : Call) (d : Bool) → TiesOf code types k d → TiesOf code types (called k) d
  called-ties k d h = record {
    begun = h.begun;
    by = h.by;
    discards_so = h.discards_so;
    made_live = every-more (λ (y : CallSnapshot). HasLife code types (call_of y)) one_of k.made (child x (as_seen k))
        h.made_live lived;
    late_live = h.late_live;
    starts_so = h.starts_so;
  }

  ran-ties : (k : Call) (d : Bool) → TiesOf code types k d → TiesOf code types (ran k) d
  ran-ties k d h = record {
    begun = h.begun;
    by = h.by;
    discards_so = h.discards_so;
    made_live = h.made_live;
    late_live = every-more (λ (y : CallSnapshot). HasLife code types (call_of y)) one_of k.late (child x (as_seen k))
        h.late_live lived;
    starts_so = h.starts_so;
  }

  ran-defers : (k : Call) (f : FrameView) → StillDefers k (record { function = x.function; arguments = x.arguments } ∷ [])
      f → StillDefers (ran k) [] f
  ran-defers k f h = (
    map-more deferred_of k.late (child x (as_seen k)) f.deferred ∙ h.0,
    every-added (λ (y : Child). y.after ≡ as_seen k) k.late (child x (as_seen k)) h.1 refl,
  )

  ran-joins : (k : Call) (f : FrameView) → DefersIt (beginning x) k f → JoinsEnded (ran k) k.standing
      × StillDefers (ran k) [] f
  ran-joins k f h = (
    ended-late k (k.late ++ child x (as_seen k) ∷ []) k.standing h.1,
    ran-defers k f h.2,
  )

-- ---- it has returned

module _ (code : Code) (types : RunTypes) (x : Call) (lived : HasLife code types x) (v : Option Value)
    (returned : x.standing ≡ Standing.Ended (Halt.Returned v)) (calm : x.panicked ≡ false) where
  module _ (fn : Function) (k : Call) where
    back-joins : (f : FrameView) (o : Standing) → WaitsBelow types fn k f o → AsksCall k x.function x.arguments
        → JoinsOnTop (called code types x lived k) (handed_back false v f) o Mode.Running
    back-joins f Standing.Goes w h = absurd w
    back-joins f (Standing.Ended i) w h = absurd w
    back-joins f (Standing.Asks q) w h = inr (
      v,
      (h.0, h.1, h.2, (k.made, child x (as_seen k), refl, (h.3.0, h.3.1), (calm, returned), h.3.2)),
      handed v w.0,
    )
      where
        handed : (u : Option Value) → f.operands ≡ q.rest
            → (handed_back false u f).operands ≡ option_to_list u ++ q.rest
        handed None e = e
        handed (Some u) e = ap (λ os. u ∷ os) e

  -- the calls of the frames that are left
  abbrev BackIn : FrameView → List FrameView → List Call → Type 0
  BackIn f fs ks = FramesMatch code types Mode.Running (f ∷ fs) ks

  module _ (f : FrameView) (fs : List FrameView) (k : Call) (ks : List Call)
      (o : Of code types k f (λ fn. Below types fn k f f.leaving)) (ties : TiesOf code types k f.discards)
      (below : FramesStand code types (beginning k) fs ks) where
    same-leaving : (d : Bool) (u : Option Value) → (handed_back d u f).leaving ≡ f.leaving
    same-leaving d u = back-leaving code types o.0 k f d u

    same-deferred : (d : Bool) (u : Option Value) → (handed_back d u f).deferred ≡ f.deferred
    same-deferred true u = refl
    same-deferred false None = refl
    same-deferred false (Some u) = refl

    same-discards : (d : Bool) (u : Option Value) → (handed_back d u f).discards ≡ f.discards
    same-discards true u = refl
    same-discards false None = refl
    same-discards false (Some u) = refl

    -- with the call below, and its joins
    back-in : (d : Bool) (c : Call)
        → Of code types c (handed_back d v f) (λ fn. Top types fn c (handed_back d v f) f.leaving Mode.Running)
        → JoinsTop c (handed_back d v f) f.leaving Mode.Running → TiesOf code types c f.discards
        → FramesStand code types (beginning c) fs ks → BackIn (handed_back d v f) fs (c ∷ ks)
    back-in d c of joins t b = (
      (
        of.0,
        of.1,
        of.2,
        of.3,
        subst (λ l. Top types of.0 c (handed_back d v f) l Mode.Running)
            (sym (same-leaving d v)) of.4,
      ),
      subst (λ l. JoinsTop c (handed_back d v f) l Mode.Running) (sym (same-leaving d v)) joins,
      subst (λ z. TiesOf code types c z) (sym (same-discards d v)) t,
      b,
    )

    back-called : f.leaving ≡ Leaving.No → x.origin ≡ Origin.Calling (as_seen k) → AsksCall k x.function x.arguments
        → DefersAll k f → BackIn (handed_back false v f) fs (called code types x lived k ∷ ks)
    back-called stays by asks all =
        let c = called code types x lived k in
        let w : WaitsBelow types o.0 k f k.standing = subst (λ l. Below types o.0 k f l) stays o.4 in
        back-in false c
        (o.0, o.1, back-function code types o.0 k f false v ∙ o.2, o.3, back-top code types o.0 k f false v f.leaving o.4)
        (subst (λ l. JoinsTop c (handed_back false v f) l Mode.Running) (sym stays)
        (back-joins o.0 k f k.standing w asks, (all.0, same-deferred false v ∙ all.1)))
        (called-ties code types x lived k f.discards ties) below

    back-ran : (d : Bool) → JoinsEnded (ran code types x lived k) k.standing
        × StillDefers (ran code types x lived k) [] f
        → ((g : FrameView) → JoinsEnded (ran code types x lived k) k.standing
        × StillDefers (ran code types x lived k) [] g → JoinsTop (ran code types x lived k) g f.leaving Mode.Running)
        → BackIn (handed_back d v f) fs (ran code types x lived k ∷ ks)
    back-ran d h leaves =
        let c = ran code types x lived k in
        back-in d c
        (o.0, o.1, back-function code types o.0 k f d v ∙ o.2, o.3, back-top code types o.0 k f d v f.leaving o.4)
        (leaves (handed_back d v f)
        (h.0, (ap (λ ds. map deferred_of c.late ++ ds) (same-deferred d v) ∙ h.1.0, h.1.1)))
        (ran-ties code types x lived k f.discards ties) below

    back-by : (d : Bool) → DiscardsSo x.origin d → (l : Leaving) → f.leaving ≡ l → JoinsBelow (beginning x) k f l
        → BackIn (handed_back d v f) fs (noted_below x.origin x (k ∷ ks))
    back-by d so Leaving.No e h =
        subst (λ g. DiscardsSo g d → BackIn (handed_back d v f) fs (noted_below g x (k ∷ ks))) (sym h.0)
        (λ is. subst (λ z. BackIn (handed_back z v f) fs (called code types x lived k ∷ ks)) (sym is)
        (back-called e h.0 h.1 h.2)) so
    back-by d so (Leaving.Returning r) e h =
        subst (λ g. BackIn (handed_back d v f) fs (noted_below g x (k ∷ ks))) (sym h.0.0)
        (back-ran d (ran-joins code types x lived k f h.0)
        (λ g j. subst (λ l. JoinsTop (ran code types x lived k) g l Mode.Running) (sym e) (
          j.0,
          j.1,
          every-added (λ (z : Child). z.panicked ≡ false) k.late (child x (as_seen k)) h.1 calm,
          tt,
        )))
    back-by d so (Leaving.Unwinding y) e h =
        subst (λ g. BackIn (handed_back d v f) fs (noted_below g x (k ∷ ks))) (sym h.0.0)
        (back-ran d (ran-joins code types x lived k f h.0)
        (λ g j. subst (λ l. JoinsTop (ran code types x lived k) g l Mode.Running) (sym e)
        (j.0, j.1, still-caused k (child x (as_seen k)) h.1)))

  -- the caller goes on with what it is given
  pub returned-matches : (d : Bool) → DiscardsSo x.origin d → (f : FrameView) (fs : List FrameView) (ks : List Call)
      → FramesStand code types (beginning x) (f ∷ fs) ks
      → BackIn (handed_back d v f) fs (noted_below x.origin x ks)
  returned-matches d so f fs [] h = absurd h
  returned-matches d so f fs (k ∷ ks) h = back-by f fs k ks h.0 h.2 h.3 d so f.leaving refl h.1

-- ---- it was unwound

module _ (code : Code) (types : RunTypes) (x : Call) (lived : HasLife code types x)
    (panics : x.panicked ≡ true) (y : Fault) where
  unwound-call : (fn : Function) (k : Call) (f : FrameView) (o : Standing) → WaitsBelow types fn k f o
      → AsksCall k x.function x.arguments → JoinsEnded (called code types x lived k) o
  unwound-call fn k f Standing.Goes w h = absurd w
  unwound-call fn k f (Standing.Ended i) w h = absurd w
  unwound-call fn k f (Standing.Asks q) w h =
      inr (h.0, h.1, h.2, (k.made, child x (as_seen k), refl, (h.3.0, h.3.1), panics, h.3.2))

  -- who calls has not returned
  caller-waits : (fn : Function) (k : Call) (f : FrameView) (o : Standing) → WaitsBelow types fn k f o
      → (v : Option Value) → o ≡ Standing.Ended (Halt.Returned v) → ⊥
  caller-waits fn k f Standing.Goes w v e = absurd w
  caller-waits fn k f (Standing.Ended i) w v e = absurd w
  caller-waits fn k f (Standing.Asks q) w v e = cc

  -- a deferred call that panicked is the cause
  unwound-ran : (k : Call) (f : FrameView) → JoinsEnded (ran code types x lived k) k.standing
      × StillDefers (ran code types x lived k) [] f → JoinsEnded (ran code types x lived k) k.standing
      × StillDefers (ran code types x lived k) [] f × HasPanicCause (ran code types x lived k)
  unwound-ran k f h = (h.0, h.1, inr (child x (as_seen k), added-in k.late (child x (as_seen k)), panics))

  module _ (f : FrameView) (fs : List FrameView) (k : Call) (ks : List Call)
      (o : Of code types k f (λ fn. Below types fn k f f.leaving)) (ties : TiesOf code types k f.discards)
      (below : FramesStand code types (beginning k) fs ks) where
    unwound-by : (l : Leaving) → Below types o.0 k f l → JoinsBelow (beginning x) k f l
        → FramesMatch code types Mode.Running (unwinding y f ∷ fs) (noted_below x.origin x (k ∷ ks))
    unwound-by Leaving.No b h =
        subst (λ g. FramesMatch code types Mode.Running (unwinding y f ∷ fs) (noted_below g x (k ∷ ks))) (sym h.0) (
          (o.0, o.1, o.2, o.3, below-ends code types o.0 k f Leaving.No b),
          (
            unwound-call o.0 k f k.standing b h.1,
            none-late (called code types x lived k) f h.2,
            inl (caller-waits o.0 k f k.standing b),
          ),
          called-ties code types x lived k f.discards ties,
          below,
        )
    unwound-by (Leaving.Returning r) b h =
        subst (λ g. FramesMatch code types Mode.Running (unwinding y f ∷ fs) (noted_below g x (k ∷ ks))) (sym h.0.0) (
          (o.0, o.1, o.2, o.3, below-ends code types o.0 k f (Leaving.Returning r) b),
          unwound-ran k f (ran-joins code types x lived k f h.0),
          ran-ties code types x lived k f.discards ties,
          below,
        )
    unwound-by (Leaving.Unwinding z) b h =
        subst (λ g. FramesMatch code types Mode.Running (unwinding y f ∷ fs) (noted_below g x (k ∷ ks))) (sym h.0.0) (
          (o.0, o.1, o.2, o.3, below-ends code types o.0 k f (Leaving.Unwinding z) b),
          unwound-ran k f (ran-joins code types x lived k f h.0),
          ran-ties code types x lived k f.discards ties,
          below,
        )

  pub unwound-below : (f : FrameView) (fs : List FrameView) (ks : List Call)
      → FramesStand code types (beginning x) (f ∷ fs) ks
      → FramesMatch code types Mode.Running (unwinding y f ∷ fs) (noted_below x.origin x ks)
  unwound-below f fs [] h = absurd h
  unwound-below f fs (k ∷ ks) h = unwound-by f fs k ks h.0 h.2 h.3 f.leaving h.0.4 h.1
