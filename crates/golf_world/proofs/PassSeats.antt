-- Passes that are split off, and joined again.
-- For: `split_passes`, `join_passes`, src/passes.rt; `close`, src/world.rt
-- By: induction over k, the passes that are idle, and over the list of new passes
use Rattle.std.proofs.Common.{◌≡◌, ℕ, zero, suc, ◌+◌, ◌-◌, ◌==◌, ◌<◌, ◌⊎◌, inl, inr, Bool, true, cond, not, List, []}
use Rattle.std.proofs.Common.{◌∷◌, ◌++◌, length, filter, Some, slice_get, refl, sym, ap, ◌∙◌, subst, arith, ne_eqb}
use mathlib.Core.Option.{some}
use mathlib.Core.List.{IsPrefix}
use lib.ListN.{get_elem?}
use Rattle.atomic_table.specs.Table.{State, Me}
use Rattle.golf_theory.specs.Membership.{In, Every}
use Rattle.golf_theory.proofs.Lists.{In-cases, Every-from, Every-at}
use Rattle.golf_world.specs.declared.history.HistoryEntry.{HistoryEntry}
use Rattle.golf_world.specs.declared.rule.PassEntries.{PassEntries}
use Rattle.golf_world.specs.declared.rule.View.{View}
use Rattle.golf_world.specs.Rule.{pass_entries, view_of, pass_view, idle_passes, left_view, both_views, HoldsHistory}
use Rattle.golf_world.specs.History.{own}
use Rattle.golf_world.specs.Steps.{Pass, IsNewPass, IsPassIn}

-- the keeper's view when it stands for the passes from one on
abbrev pub keeper_from : ℕ → ℕ → View
keeper_from n passes = view_of passes true (idle_passes n (passes - n)) [] []

others_stay : (n p k : ℕ) → n < p → filter (λ (x : PassEntries). not (x.pass == n)) (idle_passes p k) ≡ idle_passes p k
others_stay n p zero less = refl
others_stay n p (suc k) less =
    let rest = others_stay n (p + 1) k (omega arith) in
    ap (λ (b : Bool). cond (not b) (pass_entries p []
    ∷ filter (λ (x : PassEntries). not (x.pass == n)) (idle_passes (p + 1) k))
    (filter (λ (x : PassEntries). not (x.pass == n)) (idle_passes (p + 1) k))) (ne_eqb p n (λ e. omega arith))
    ∙ ap (λ l. pass_entries p [] ∷ l) rest

-- the next pass stands first
pub keeper_from-next : (n passes : ℕ) → n < passes
    → keeper_from n passes ≡ view_of passes true (pass_entries n [] ∷ idle_passes (n + 1) (passes - (n + 1))) [] []
keeper_from-next n passes less =
    let h : passes - n ≡ suc (passes - (n + 1)) = omega arith in
    ap (λ (k : ℕ). view_of passes true (idle_passes n k) [] []) h

pub keeper_from-left : (n passes : ℕ) (v : View) → n < passes → v ≡ keeper_from n passes
    → left_view v ≡ keeper_from (n + 1) passes
keeper_from-left n passes v less e = ap left_view (e ∙ keeper_from-next n passes less)
    ∙ ap (λ hs. view_of passes true hs [] []) (others_stay n (n + 1) (passes - (n + 1)) (omega arith))

-- a list of new passes, one longer
pub new_push : (ps : List Pass) (n : ℕ) (p : Pass) → n ≡ length ps → IsNewPass n p
    → ((k : ℕ) (q : Pass) → slice_get ps k ≡ Some q → IsNewPass k q) → (k : ℕ) (q : Pass)
    → slice_get (ps ++ p ∷ []) k ≡ Some q → IsNewPass k q
new_push ps n p here new old k q at = elim (get_push ps p q k at) [
  | inl h ↦ old k q h
  | inr h ↦ subst (λ (y : ℕ × Pass). IsNewPass y.0 y.1) (λ i. ((here ∙ sym h.0) i, h.1 i)) new
]
  where
    get_push : (xs : List Pass) (y z : Pass) (t : ℕ) → slice_get (xs ++ y ∷ []) t ≡ Some z → (slice_get xs t ≡ Some z)
        ⊎ ((t ≡ length xs) × (y ≡ z))
    get_push [] y z zero e = inr (refl, cc)
    get_push [] y z (suc t) e = absurd cc
    get_push (x ∷ xs) y z zero e = inl e
    get_push (x ∷ xs) y z (suc t) e = elim (get_push xs y z t e) [ inl h ↦ inl h | inr h ↦ inr (ap suc h.0, h.1) ]

-- what the keeper knows of a pass that was joined to it
abbrev pub Knows : View → Pass → Type 0
Knows v p = In (pass_entries p.number p.mine) v.held × In p.seen v.earlier

-- all passes but those that are left were joined to the keeper
pub record HasJoined (passes : ℕ) (h : List HistoryEntry) (all left : List Pass)
    (me : Me (Unit {0}) View) : Type 0 where
  pub view : me ≡ (view_of passes true me.0.held h me.0.earlier, [])
  pub each : (p : Pass) → In p all → In p left ⊎ Knows me.0 p

pub joins_next : {passes : ℕ} {h : List HistoryEntry} {all before : List Pass} {me now o : Me (Unit {0}) View}
    (left : List Pass) (p : Pass) → HasJoined passes h all before me → before ≡ left ++ p ∷ []
    → o ≡ (pass_view passes p.number p.mine p.seen, []) → now ≡ (both_views me.0 o.0, me.1)
    → HasJoined passes h all left now
joins_next {passes} {h} {all} {before} {me} {now} {o} left p g e f made =
    let shape : now ≡ (view_of passes true (pass_entries p.number p.mine ∷ me.0.held) h (p.seen ∷ me.0.earlier), []) =
    made ∙ (λ i. (both_views (g.view i).0 (f i).0, (g.view i).1)) in
    record {
      view = shape ∙ sym (λ i. (view_of passes true (shape i).0.held h (shape i).0.earlier, []));
      each = λ q i. elim (g.each q i) [
        | inl k ↦ elim (In-cases q left (p ∷ []) (subst (In q) e k)) [
          | inl l ↦ inl l
          | inr l ↦ inr (subst (λ (m : Me (Unit {0}) View). Knows m.0 q) (sym shape)
              (elim l [
                | inl same ↦ (
                  inl (ap (λ (x : Pass). pass_entries x.number x.mine) same),
                  inl (ap (λ (x : Pass). x.seen) same),
                )
                | inr e ↦ absurd e
              ]))
        ]
        | inr k ↦ inr (subst (λ (m : Me (Unit {0}) View). Knows m.0 q) (sym shape) (inr k.0, inr k.1))
      ];
    }

pub joins_all : (passes : ℕ) (h : List HistoryEntry) (all : List Pass) (me : Me (Unit {0}) View)
    → HasJoined passes h all [] me → Every (Knows me.0) all
joins_all passes h all me g = Every-from (Knows me.0) all (λ p i. elim (g.each p i) [ inl e ↦ absurd e | inr k ↦ k ])

-- what the rule says of the passes, if the keeper has taken them in
pub closes : {passes : ℕ} {es h : List HistoryEntry} {s : State (Unit {0}) View} {v : View} (id : ℕ) (all : List Pass)
    → HoldsHistory passes s → get_elem? s.views id ≡ some v → v.keeps ≡ true → v.seen ≡ h → es ≡ h → Every (Knows v) all
    → Every (IsPassIn es) all
closes {passes} {es} {h} {s} {v} id all holds at keeps seen same knows =
    let f = holds.views id v at in
    let is : holds.history ≡ es = sym (f.keeps keeps).1 ∙ seen ∙ sym same in
    Every-from (IsPassIn es) all (λ p i.
    let k = Every-at (Knows v) all p knows i in
    let prefix : IsPrefix p.seen v.seen = Every-at (λ o. IsPrefix o v.seen) v.earlier p.seen f.earlier k.1 in (
      subst (IsPrefix p.seen) (seen ∙ sym same) prefix,
      sym ((f.held (pass_entries p.number p.mine) k.0).2 ∙ ap (own p.number) is),
    ))
