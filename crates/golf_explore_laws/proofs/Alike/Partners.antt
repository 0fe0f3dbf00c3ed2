-- Alike states: the relation is symmetric, and each single change keeps it.
-- For: `IsAlike`, specs/Alike.antt
-- By: cases of the change; no induction but over the list of pairs
use Rattle.std.proofs.Common.{◌≡◌, ℕ, List, [], ◌∷◌, Option, Some, None, inl, inr, refl, sym, ap, ◌∙◌, subst}
use Rattle.std.specs.Prelude.{option_map}
use Rattle.golf_theory.specs.Membership.{In}
use Rattle.golf_theory.specs.Maps.{find}
use Rattle.golf_data.specs.declared.goroutine.Mode.{Mode}
use Rattle.golf_model.specs.Views.{GoroutineView}
use Rattle.golf_model.specs.State.{State, is_running}
use Rattle.golf_model.specs.Waiters.{waits_of}
use Rattle.golf_model.specs.Refs.{waited}
use Rattle.golf_explore_laws.specs.Alike.{untimed, blank, WaitsOn, AlikeBy, IsAlike}

-- ---- entries that differ in tickets alone

pub untimed-waits : (m : Mode) → waits_of (untimed m) ≡ waits_of m
untimed-waits Mode.Running = refl
untimed-waits (Mode.Blocked kind line waits ticket) = refl

pub untimed-running : (m : Mode) → is_running (untimed m) ≡ is_running m
untimed-running Mode.Running = refl
untimed-running (Mode.Blocked kind line waits ticket) = refl

pub same-waits : (r q : GoroutineView) → blank r ≡ blank q → waits_of r.mode ≡ waits_of q.mode
same-waits r q e =
    sym (untimed-waits r.mode) ∙ ap (λ (u : GoroutineView). waits_of u.mode) e ∙ untimed-waits q.mode

pub same-running : (r q : GoroutineView) → blank r ≡ blank q → is_running r.mode ≡ is_running q.mode
same-running r q e =
    sym (untimed-running r.mode) ∙ ap (λ (u : GoroutineView). is_running u.mode) e ∙ untimed-running q.mode

pub waits-moved : (o : ℕ) (r q : GoroutineView) → blank r ≡ blank q → WaitsOn o r → WaitsOn o q
waits-moved o r q e i = subst (λ ws. In o (waited ws)) (same-waits r q e) i

some-inner : (r q : GoroutineView) → Some (blank r) ≡ Some (blank q) → blank r ≡ blank q
some-inner r q e = cc

-- ---- the partner of a goroutine

partner : (r : GoroutineView) (m : Option GoroutineView) → Some (blank r) ≡ option_map blank m
    → (q : GoroutineView) × (m ≡ Some q) × (blank r ≡ blank q)
partner r None e = cc
partner r (Some q) e = (q, refl, some-inner r q e)

absent : (m : Option GoroutineView) → None ≡ option_map blank m → m ≡ None
absent None e = refl
absent (Some q) e = cc

module _ (ps : List (ℕ × ℕ)) (s t : State) (a : AlikeBy ps s t) where
  pub partner-of : (g h : ℕ) → In (g, h) ps → (r : GoroutineView) → find g s.goroutines ≡ Some r
      → (q : GoroutineView) × (find h t.goroutines ≡ Some q) × (blank r ≡ blank q)
  partner-of g h i r f =
      partner r (find h t.goroutines) (ap (option_map blank) (sym f) ∙ a.entries g h i)

  pub absent-of : (g h : ℕ) → In (g, h) ps → find g s.goroutines ≡ None → find h t.goroutines ≡ None
  absent-of g h i f = absent (find h t.goroutines) (ap (option_map blank) (sym f) ∙ a.entries g h i)

-- ---- alike states are alike the other way round

flip : ℕ × ℕ → ℕ × ℕ
flip p = (p.1, p.0)

abbrev pub flips : List (ℕ × ℕ) → List (ℕ × ℕ)
flips [] = []
flips (p ∷ ps) = (p.1, p.0) ∷ flips ps

pub In-flips : (g h : ℕ) (ps : List (ℕ × ℕ)) → In (g, h) ps → In (h, g) (flips ps)
In-flips g h [] i = i
In-flips g h (p ∷ ps) (inl e) = inl (ap (λ (x : ℕ × ℕ). let y : ℕ × ℕ = (x.1, x.0) in y) e)
In-flips g h (p ∷ ps) (inr i) = inr (In-flips g h ps i)

In-flips_back : (g h : ℕ) (ps : List (ℕ × ℕ)) → In (g, h) (flips ps) → In (h, g) ps
In-flips_back g h [] i = i
In-flips_back g h (p ∷ ps) (inl e) = inl (ap (λ (x : ℕ × ℕ). let y : ℕ × ℕ = (x.1, x.0) in y) e)
In-flips_back g h (p ∷ ps) (inr i) = inr (In-flips_back g h ps i)

pub alike-flip : (ps : List (ℕ × ℕ)) (s t : State) → AlikeBy ps s t → AlikeBy (flips ps) t s
alike-flip ps s t a = record {
  others = sym a.others;
  entries = λ g h i. sym (a.entries h g (In-flips_back g h ps i));
  left = λ g r f. let p = a.right g r f in (p.0, In-flips p.0 g ps p.1);
  right = λ h q f. let p = a.left h q f in (p.0, In-flips h p.0 ps p.1);
  one = λ g h k l i j. sym (a.one h g l k (In-flips_back g h ps i) (In-flips_back k l ps j));
  zero_one = λ g h i. let p = a.zero_one h g (In-flips_back g h ps i) in (sym p.0, sym p.1);
  given = λ g h i. let p = a.given h g (In-flips_back g h ps i) in (p.1, p.0);
  two = (a.two.1, a.two.0);
  order = λ g h k l i j r q u v fr fq fu fv o wr wu.
      let ib = In-flips_back g h ps i in
      let jb = In-flips_back k l ps j in
      let er : blank q ≡ blank r = some-inner q r
      (ap (option_map blank) (sym fq) ∙ a.entries h g ib ∙ ap (option_map blank) fr) in
      let eu : blank v ≡ blank u = some-inner v u
      (ap (option_map blank) (sym fv) ∙ a.entries l k jb ∙ ap (option_map blank) fu) in
      sym (a.order h g l k ib jb q r v u fq fr fv fu o (waits-moved o r q (sym er) wr) (waits-moved o u v (sym eu) wu));
  early = (a.early.1, a.early.0);
}

pub alike-back : (s t : State) → IsAlike s t → IsAlike t s
alike-back s t a = (flips a.0, alike-flip a.0 s t a.1)
