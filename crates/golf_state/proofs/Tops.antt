-- The innermost frame, and the last operands.
-- For: `frame_views` (golf_model/specs/Views.antt) and `on_top` (golf_model/specs/Wakes.antt)
-- By: induction over the list for an item of its first part; otherwise computing with the last frame
use Rattle.std.proofs.Common.{◌≡◌, ℕ, zero, suc, ◌+◌, ◌-◌, ◌<◌, ◌≤◌, Bool, true, false, not, List, [], ◌∷◌, ◌++◌}
use Rattle.std.proofs.Common.{length, take, drop, map, Some, refl, sym, ap, ◌∙◌, inl, inr, arith, slice_get, slice_set}
use Rattle.std.specs.Prelude.{reverse, IsTrue, ◌↔◌}
use Rattle.std.proofs.lemmas.Bool.{cases_lt}
use Rattle.std.proofs.lemmas.List.{take_more, take_all, set_at, length-take-le, reverse-append, length-reverse, drop_at}
use Rattle.std.proofs.lemmas.List.{drop_all, take-append-drop, length-drop, set-append_left}
use Rattle.std.proofs.lemmas.Option.{slice_get_within, get_or_from_slice_get}
use Rattle.golf_data.specs.declared.goroutine.Frame.{Frame}
use Rattle.golf_model.specs.Views.{FrameView, frame_view, frame_views}
use Rattle.golf_model.specs.State.{not_empty}
use Rattle.golf_model.specs.Wakes.{on_top}
use Rattle.golf_model.specs.Calls.{handed_back}
use Rattle.golf_data.specs.declared.value.Value.{Value}
use Rattle.golf_model.proofs.ViewForms.{reverse-push, frame_views-push}
use Rattle.golf_state.specs.FrameChanges.{given_back, handed}

module _ {X : Type 0} where
  -- a list with a last item is the items before it, and it
  pub split_last : (xs : List X) (x : X) → slice_get xs (length xs - 1) ≡ Some x → xs ≡ take (length xs - 1) xs ++ x
      ∷ []
  split_last xs x h =
      let l = slice_get_within xs (length xs - 1) x h in
      let n : length xs ≤ length xs - 1 + 1 = omega arith in
      sym (take_all (length xs - 1 + 1) xs n)
      ∙ take_more xs (length xs - 1) x l
      ∙ ap (λ (y : X). take (length xs - 1) xs ++ y ∷ []) (get_or_from_slice_get xs (length xs - 1) x x h)

  -- and with another last item
  pub set_last : (xs : List X) (x y : X) → slice_get xs (length xs - 1) ≡ Some x
      → slice_set xs (length xs - 1) y ≡ take (length xs - 1) xs ++ y ∷ []
  set_last xs x y h =
      ap (λ (zs : List X). slice_set zs (length xs - 1) y) (split_last xs x h)
      ∙ set_at (take (length xs - 1) xs) x [] y (length xs - 1) (length-take-le (length xs - 1) xs (omega arith))

  -- without the last items, the first ones of the list turned round are gone
  pub reverse-take : (n : ℕ) (xs : List X) → reverse (take (length xs - n) xs) ≡ drop n (reverse xs)
  reverse-take n xs =
      let m = length xs - n in
      let parts : reverse xs ≡ reverse (drop m xs) ++ reverse (take m xs) = ap reverse (sym (take-append-drop m xs))
      ∙ reverse-append (take m xs) (drop m xs) in
      let front = length-reverse (drop m xs) in
      let tail = length-drop m xs in
      elim (cases_lt n (length xs)) [
        | inl l ↦ sym (ap (drop n) parts ∙ drop_at (reverse (drop m xs)) (reverse (take m xs)) n (omega arith))
        | inr g ↦
            let none : m ≡ 0 = omega arith in
            let all = length-reverse xs in
            ap (λ k. reverse (take k xs)) none ∙ sym (drop_all n (reverse xs) (omega arith))
      ]

  not_empty-cons : (xs : List X) → 0 < length xs → not_empty xs ≡ true
  not_empty-cons [] l = absurd (omega arith)
  not_empty-cons (x ∷ xs) l = refl

slice_get-append : {X : Type 0} (xs ys : List X) (i : ℕ) → i < length xs → slice_get (xs ++ ys) i ≡ slice_get xs i
slice_get-append [] ys i l = absurd (omega arith)
slice_get-append (x ∷ xs) ys zero l = refl
slice_get-append (x ∷ xs) ys (suc i) l = slice_get-append xs ys i (omega arith)

-- a change of the last frame is one of the frame on top
pub top_changed : (fs : List Frame) (f w : Frame) (change : FrameView → FrameView)
    → slice_get fs (length fs - 1) ≡ Some f → frame_view w ≡ change (frame_view f)
    → frame_views (slice_set fs (length fs - 1) w) ≡ on_top change (frame_views fs)
top_changed fs f w change h e =
    let below = take (length fs - 1) fs in
    ap frame_views (set_last fs f w h) ∙ frame_views-push below w ∙ ap (λ (x : FrameView). x ∷ frame_views below) e
    ∙ sym (ap (λ (gs : List Frame). on_top change (frame_views gs)) (split_last fs f h)
    ∙ ap (on_top change) (frame_views-push below f))

-- a last frame whose plain form stays changes nothing
pub top_same : (fs : List Frame) (f w : Frame) → slice_get fs (length fs - 1) ≡ Some f → frame_view w ≡ frame_view f
    → frame_views (slice_set fs (length fs - 1) w) ≡ frame_views fs
top_same fs f w h e =
    let below = take (length fs - 1) fs in
    ap frame_views (set_last fs f w h) ∙ frame_views-push below w ∙ ap (λ (x : FrameView). x ∷ frame_views below) e
    ∙ sym (ap frame_views (split_last fs f h) ∙ frame_views-push below f)

-- whether there is a frame
pub no_frames : (b : Bool) (fs : List Frame) → (IsTrue b ↔ (fs ≡ [])) → b ≡ not (not_empty (frame_views fs))
no_frames b [] h = h.1 refl
no_frames true (f ∷ fs) h = cc (h.0 refl)
no_frames false (f ∷ fs) h =
    let n = length-reverse (map frame_view (f ∷ fs)) in
    sym (ap not (not_empty-cons (frame_views (f ∷ fs)) (omega arith)))

-- ---- operands

module _ {X : Type 0} (os ts : List X) (n : ℕ) (kept : ts ≡ take (length os - n) os) where
  pub left-over : reverse ts ≡ drop n (reverse os)
  left-over = ap reverse kept ∙ reverse-take n os

  pub one_more : (us : List X) (v : X) → us ≡ ts ++ v ∷ [] → reverse us ≡ v ∷ drop n (reverse os)
  one_more us v e = ap reverse e ∙ reverse-push ts v ∙ ap (λ (rs : List X). v ∷ rs) left-over

-- ---- a frame more

-- of n frames f is the last, and on top of it stands the new one
pub record IsBelow (fs gs : List Frame) (n : ℕ) (new f : Frame) : Type 0 where
  pub count : n ≡ length fs
  pub some : 0 < n
  pub pushed : gs ≡ fs ++ new ∷ []
  pub at : slice_get gs (n - 1) ≡ Some f

-- under a new frame the one below it changes
pub below_changed : (fs gs : List Frame) (n : ℕ) (new f w : Frame) (change : FrameView → FrameView)
    → IsBelow fs gs n new f → frame_view w ≡ change (frame_view f)
    → frame_views (slice_set gs (n - 1) w) ≡ frame_view new ∷ on_top change (frame_views fs)
below_changed fs gs n new f w change below e =
    let i = length fs - 1 in
    let here : n - 1 ≡ i = ap (λ k. k - 1) below.count in
    let some : i < length fs = omega (arith, below.count, below.some) in
    let was : slice_get fs i ≡ Some f = sym (slice_get-append fs (new ∷ []) i some)
    ∙ ap (λ (xs : List Frame). slice_get xs i) (sym below.pushed) ∙ ap (slice_get gs) (sym here) ∙ below.at in
    ap (λ k. frame_views (slice_set gs k w)) here
    ∙ ap (λ (xs : List Frame). frame_views (slice_set xs i w)) below.pushed
    ∙ ap frame_views (set-append_left fs (new ∷ []) i w some)
    ∙ frame_views-push (slice_set fs i w) new
    ∙ ap (λ (xs : List FrameView). frame_view new ∷ xs) (top_changed fs f w change was e)

-- a frame less
pub without_last : (fs gs : List Frame) (f : Frame) → fs ≡ gs ++ f ∷ [] → frame_views fs ≡ frame_view f ∷ frame_views gs
without_last fs gs f e = ap frame_views e ∙ frame_views-push gs f

-- ---- the value of a frame

pub handed_none : (v : Value) (fs : List Frame) → length fs < 2 → frame_views fs ≡ handed v (frame_views fs)
handed_none v [] l = refl
handed_none v (f ∷ []) l = refl
handed_none v (f ∷ g ∷ fs) l = absurd (omega arith)

same_top : (d : Bool) (v : Value) (fs : List FrameView) → d ≡ true → fs ≡ on_top (handed_back d (Some v)) fs
same_top d v [] e = refl
same_top d v (f ∷ fs) e = ap (λ (b : Bool). handed_back b (Some v) f ∷ fs) (sym e)

pub handed_nowhere : (v : Value) (fs : List Frame) (t : Frame) → slice_get fs (length fs - 1) ≡ Some t
    → t.discards ≡ true → frame_views fs ≡ handed v (frame_views fs)
handed_nowhere v fs t at d =
    let below = take (length fs - 1) fs in
    let parts = without_last fs below t (split_last fs t at) in
    parts ∙ ap (λ (xs : List FrameView). frame_view t ∷ xs) (same_top t.discards v (frame_views below) d)
    ∙ sym (ap (handed v) parts)

-- of n frames t is the last, and f the one below it
pub record IsCalledBy (fs : List Frame) (n : ℕ) (t f : Frame) : Type 0 where
  pub count : n ≡ length fs
  pub two : 2 ≤ n
  pub last : slice_get fs (length fs - 1) ≡ Some t
  pub caller : slice_get fs (n - 2) ≡ Some f

-- the caller's frame changes
pub caller_changed : (fs : List Frame) (t f w : Frame) (n : ℕ) (change : FrameView → FrameView) → IsCalledBy fs n t f
    → frame_view w ≡ change (frame_view f)
    → frame_views (slice_set fs (n - 2) w) ≡ frame_view t ∷ on_top change (frame_views (take (length fs - 1) fs))
caller_changed fs t f w n change called e =
    let below = take (length fs - 1) fs in
    let size = length-take-le (length fs - 1) fs (omega arith) in
    let one : n - 2 ≡ n - 1 - 1 = omega arith in
    ap (λ k. frame_views (slice_set fs k w)) one
    ∙ below_changed below fs (n - 1) t f w change (record {
      count = omega (arith, size, called.count);
      some = omega (arith, called.two);
      pushed = split_last fs t called.last;
      at = ap (slice_get fs) (sym one) ∙ called.caller;
    }) e

pub handed_to : (v : Value) (fs : List Frame) (t f w : Frame) (n : ℕ) → IsCalledBy fs n t f → t.discards ≡ false
    → frame_view w ≡ given_back v (frame_view f)
    → frame_views (slice_set fs (n - 2) w) ≡ handed v (frame_views fs)
handed_to v fs t f w n called d e =
    let below = take (length fs - 1) fs in
    caller_changed fs t f w n (given_back v) called e
    ∙ ap (λ (b : Bool). frame_view t ∷ on_top (handed_back b (Some v)) (frame_views below)) (sym d)
    ∙ sym (ap (handed v) (without_last fs below t (split_last fs t called.last)))

same_on_top : (fs : List FrameView) → on_top (λ f. f) fs ≡ fs
same_on_top [] = refl
same_on_top (f ∷ fs) = refl

pub handed_not : (fs : List Frame) (t f w : Frame) (n : ℕ) → IsCalledBy fs n t f → frame_view w ≡ frame_view f
    → frame_views (slice_set fs (n - 2) w) ≡ frame_views fs
handed_not fs t f w n called e =
    let below = take (length fs - 1) fs in
    caller_changed fs t f w n (λ g. g) called e
    ∙ ap (λ (xs : List FrameView). frame_view t ∷ xs) (same_on_top (frame_views below))
    ∙ sym (without_last fs below t (split_last fs t called.last))
