-- The outermost call of a goroutine stays, until it leaves.
-- For: `OutermostIs`, golf_meaning_runs/specs/Joins.antt.
-- By: cases of lists of frames and of calls.
use Rattle.std.proofs.Common.{◌≡◌, ℕ, Bool, true, false, cond, List, [], ◌∷◌, ◌++◌, refl, sym, ap, subst}
use Rattle.golf_data.specs.declared.value.Value.{Value}
use Rattle.golf_data.specs.declared.code.Code.{Code}
use Rattle.golf_data.specs.declared.goroutine.Queued.{Queued}
use Rattle.golf_model.specs.Views.{FrameView}
use Rattle.golf_meaning_runs.specs.CallRecords.{Origin, Call, Beginning, as_seen, origin_by, leaving_so, noted}
use Rattle.golf_meaning_runs.specs.CallRecords.{noted_below, noting_start}
use Rattle.golf_meaning_runs.specs.Joins.{OutermostIs}
use Rattle.golf_meaning_runs.specs.Books.{turned_call, passed, is_longer, begun_in, calls_after, begun_by}
use Rattle.golf_meaning_runs.proofs.Rebooking.{turned-beginning}

module _ (P : Origin → Type 0) where
  abbrev Keeps : List Call → Type 0
  Keeps ks = OutermostIs P ks

  below : (k : Call) (ks : List Call) → Keeps (k ∷ ks) → Keeps ks
  below k [] h = tt
  below k (c ∷ cs) h = h

  -- with another call in place of the innermost
  in-place : (k x : Call) (ks : List Call) → x.origin ≡ k.origin → Keeps (k ∷ ks) → Keeps (x ∷ ks)
  in-place k x [] e h = subst P (sym e) h
  in-place k x (c ∷ cs) e h = h

  noted-origin : (o : Origin) (x k : Call) → (noted o x k).origin ≡ k.origin
  noted-origin Origin.Opening x k = refl
  noted-origin Origin.Finalising x k = refl
  noted-origin (Origin.Calling by) x k = refl
  noted-origin (Origin.Starting by) x k = refl
  noted-origin (Origin.Deferring by) x k = refl

  notes : (o : Origin) (x : Call) (ks : List Call) → Keeps ks → Keeps (noted_below o x ks)
  notes o x [] h = tt
  notes o x (k ∷ ks) h = in-place k (noted o x k) ks (noted-origin o x k) h

  pub notes-start : (n : ℕ) (xs ks : List Call) → Keeps ks → Keeps (noting_start n xs ks)
  notes-start n [] ks h = h
  notes-start n (x ∷ xs) [] h = tt
  notes-start n (x ∷ xs) (k ∷ []) h = h
  notes-start n (x ∷ xs) (k ∷ (c ∷ cs)) h = h

  enters : (o : Origin) (after : List FrameView) (vs : List Value) (k : Call) (ks : List Call) → Keeps (k ∷ ks)
      → Keeps (begun_in o after vs ++ (k ∷ ks))
  enters o [] vs k ks h = h
  enters o (f ∷ fs) vs k ks h = h

  chosen : (a b : Bool) (xs ys zs : List Call) → Keeps xs → Keeps ys → Keeps zs → Keeps (cond a xs (cond b ys zs))
  chosen true b xs ys zs x y z = x
  chosen false true xs ys zs x y z = y
  chosen false false xs ys zs x y z = z

  pub after-turn : (code : Code) (queue : List Queued) (before after : List FrameView) (ks : List Call)
      → (before ≡ [] → P Origin.Finalising) → Keeps ks → Keeps (calls_after code queue before after ks)
  after-turn code queue [] [] ks first h = tt
  after-turn code queue [] (f ∷ fs) ks first h = first refl
  after-turn code queue (f ∷ callers) after [] first h = tt
  after-turn code queue (f ∷ callers) after (k ∷ ks) first h =
      let x = turned_call code f f.leaving k in
      let now = in-place k x ks (ap (λ (b : Beginning). b.origin) (turned-beginning code f f.leaving k)) h in
      chosen (is_longer after (f ∷ callers)) (is_longer (f ∷ callers) after)
      (begun_in (origin_by f.leaving x) after (passed code f f.leaving) ++ (x ∷ ks))
      (noted_below k.origin (leaving_so f.leaving x) ks) (x ∷ ks)
      (enters (origin_by f.leaving x) after (passed code f f.leaving) x ks now)
      (notes k.origin (leaving_so f.leaving x) ks (below k ks h)) now

  pub by-go : (code : Code) (fs : List FrameView) (ks : List Call) (after : List FrameView)
      → ((f : FrameView) (k : Call) → P (Origin.Starting (as_seen (turned_call code f f.leaving k))))
      → Keeps (begun_by code fs ks after)
  by-go code [] ks after h = tt
  by-go code (f ∷ fs) [] after h = tt
  by-go code (f ∷ fs) (k ∷ ks) [] h = tt
  by-go code (f ∷ fs) (k ∷ ks) (g ∷ gs) h = h f k
