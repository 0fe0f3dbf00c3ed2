-- The calls of a goroutine after its turn: as many more or fewer as its frames are.
-- For: `calls_after`, golf_meaning_runs/specs/Books.antt.
-- By: induction over lists of frames.
use Rattle.std.proofs.Common.{◌≡◌, true, false, cond, List, [], ◌∷◌, refl, ap, ◌∙◌, ℕ, Option, Some, None}
use Rattle.golf_data.specs.declared.goroutine.Leaving.{Leaving}
use Rattle.golf_model.specs.Turn.{line_at}
use Rattle.golf_meaning_flat.specs.Worlds.{Operation, Halt}
use Rattle.golf_meaning_runs.specs.TurnsInLives.{Asked}
use Rattle.golf_meaning_runs.specs.Books.{settled_by, with_turn, line_shows, line_ends}
use Rattle.golf_theory.specs.Membership.{Every}
use Rattle.golf_data.specs.declared.code.Code.{Code}
use Rattle.golf_data.specs.declared.goroutine.Mode.{Mode}
use Rattle.golf_data.specs.declared.goroutine.Queued.{Queued}
use Rattle.golf_model.specs.Views.{FrameView}
use Rattle.golf_model.specs.ClearedSlots.{cleared}
use Rattle.golf_meaning_runs.specs.Books.{RunTypes, turned_call, passed, is_longer, rebooked, calls_after}
use Rattle.golf_meaning_runs.specs.CallRecords.{Standing, Call, Beginning, fresh, beginning, origin_by, leaving_so, noted_below}
use Rattle.golf_meaning_runs.specs.Books.{left_by, HasLife, FramesStand, FramesMatch}

is-same : {X : Type 0} (xs : List X) → is_longer xs xs ≡ false
is-same [] = refl
is-same (x ∷ xs) = is-same xs

one-longer : {X : Type 0} (x : X) (xs : List X) → is_longer (x ∷ xs) xs ≡ true
one-longer x [] = refl
one-longer x (y ∷ xs) = one-longer y xs

one-shorter : {X : Type 0} (x : X) (xs : List X) → is_longer xs (x ∷ xs) ≡ false
one-shorter x [] = refl
one-shorter x (y ∷ xs) = one-shorter y xs

module _ (code : Code) (f : FrameView) (k : Call) (ks : List Call) where
  abbrev kept : List Call
  kept = turned_call code f f.leaving k ∷ ks

  -- the call below it, once it has left
  abbrev left_with : List Call
  left_with = noted_below k.origin (leaving_so f.leaving (turned_call code f f.leaving k)) ks

  -- the call that is entered, and who begins it
  abbrev pub entered : ℕ → Call
  entered n = fresh (origin_by f.leaving (turned_call code f f.leaving k)) n (passed code f f.leaving)

  -- as many frames
  pub rebooked-same : (g : FrameView) (callers : List FrameView) → rebooked code f callers (g ∷ callers) k ks ≡ kept
  rebooked-same g callers = ap (λ b. cond b (entered g.function ∷ kept) (cond b left_with kept))
      (is-same callers)

  -- one more
  pub rebooked-more : (x g : FrameView) (callers : List FrameView)
      → rebooked code f callers (x ∷ (g ∷ callers)) k ks ≡ entered x.function ∷ kept
  rebooked-more x g callers = ap (λ b. cond b (entered x.function ∷ kept)
      (cond (is_longer callers (g ∷ callers)) left_with kept)) (one-longer g callers)

  -- one fewer
  pub rebooked-fewer : (g h : FrameView) (callers : List FrameView)
      → rebooked code f (g ∷ callers) (h ∷ callers) k ks ≡ left_with
  rebooked-fewer g h callers =
      ap (λ b. cond b (entered h.function ∷ kept)
      (cond (is_longer (g ∷ callers) callers) left_with kept)) (one-shorter g callers)
      ∙ ap (λ b. cond b left_with kept) (one-longer g callers)

  -- only with a frame fewer the innermost call has left

  pub left-same : (g : FrameView) (callers : List FrameView) → left_by code (f ∷ callers) (g ∷ callers) (k ∷ ks) ≡ []
  left-same g callers = ap (λ b. cond b (leaving_so f.leaving (turned_call code f f.leaving k) ∷ []) []) (is-same callers)

  pub left-more : (x g : FrameView) (callers : List FrameView)
      → left_by code (f ∷ callers) (x ∷ (g ∷ callers)) (k ∷ ks) ≡ []
  left-more x g callers = ap (λ b. cond b (leaving_so f.leaving (turned_call code f f.leaving k) ∷ []) []) (one-shorter g callers)

  pub left-fewer : (g h : FrameView) (callers : List FrameView)
      → left_by code (f ∷ (g ∷ callers)) (h ∷ callers) (k ∷ ks)
      ≡ leaving_so f.leaving (turned_call code f f.leaving k) ∷ []
  left-fewer g h callers = ap (λ b. cond b (leaving_so f.leaving (turned_call code f f.leaving k) ∷ []) []) (one-longer g callers)

-- a frame that is cleared counts as it did
pub left-cleared : (code : Code) (frames : List FrameView) (f : FrameView) (fs : List FrameView) (ks : List Call)
    → left_by code frames (cleared code f ∷ fs) ks ≡ left_by code frames (f ∷ fs) ks
left-cleared code [] f fs ks = refl
left-cleared code (g ∷ callers) f fs [] = refl
left-cleared code (g ∷ callers) f fs (k ∷ ks) = refl

pub calls-cleared : (code : Code) (queue : List Queued) (frames : List FrameView) (f : FrameView) (fs : List FrameView)
    (ks : List Call) → calls_after code queue frames (cleared code f ∷ fs) ks ≡ calls_after code queue frames
    (f ∷ fs) ks
calls-cleared code queue [] f fs ks = refl
calls-cleared code queue (g ∷ callers) f fs [] = refl
calls-cleared code queue (g ∷ callers) f fs (k ∷ ks) = refl

-- how a call was begun stays

settled-beginning : (o : Standing) (f : FrameView) (k : Call) → beginning (settled_by o f k) ≡ beginning k
settled-beginning Standing.Goes f k = refl
settled-beginning (Standing.Asks q) f k = refl
settled-beginning (Standing.Ended i) f k = refl

shown-beginning : (m : Option (Operation × Asked)) (e : Option Halt) (k : Call)
    → beginning (with_turn m e k) ≡ beginning k
shown-beginning (Some x) e k = refl
shown-beginning None None k = refl
shown-beginning None (Some i) k = refl

pub turned-beginning : (code : Code) (f : FrameView) (l : Leaving) (k : Call)
    → beginning (turned_call code f l k) ≡ beginning k
turned-beginning code f Leaving.No k =
    shown-beginning (line_shows (line_at code f.function f.at) f) (line_ends (line_at code f.function f.at) f)
    (settled_by k.standing f k) ∙ settled-beginning k.standing f k
turned-beginning code f (Leaving.Returning v) k = refl
turned-beginning code f (Leaving.Unwinding x) k = refl

-- calls that have frames have lives

pub below-live : (code : Code) (types : RunTypes) (above : Beginning) (fs : List FrameView) (ks : List Call) → FramesStand code types above fs ks
    → Every (HasLife code types) ks
below-live code types above [] [] h = tt
below-live code types above [] (k ∷ ks) h = absurd h
below-live code types above (f ∷ fs) [] h = tt
below-live code types above (f ∷ fs) (k ∷ ks) h = let o = h.0 in ((o.0, o.1, o.3), below-live code types (beginning k) fs ks h.3)

pub matches-live : (code : Code) (types : RunTypes) (mode : Mode) (fs : List FrameView) (ks : List Call)
    → FramesMatch code types mode fs ks → Every (HasLife code types) ks
matches-live code types mode [] [] h = tt
matches-live code types mode [] (k ∷ ks) h = absurd h
matches-live code types mode (f ∷ fs) [] h = tt
matches-live code types mode (f ∷ fs) (k ∷ ks) h = let o = h.0 in ((o.0, o.1, o.3), below-live code types (beginning k) fs ks h.3)

-- without a frame there is no call

pub none-below : (code : Code) (types : RunTypes) (above : Beginning) (ks : List Call) → FramesStand code types above [] ks → ks ≡ []
none-below code types above [] h = refl
none-below code types above (k ∷ ks) h = absurd h
