-- The main laws, from the lemmas.
-- For: `map_laws`, `order_laws` and `least_law`, src/lib.rt
-- By: putting the lemmas together; no induction
use Rattle.std.proofs.Common.{◌≡◌, true, arith}
use Rattle.golf_theory.specs.Membership.{In}
use Rattle.golf_theory.specs.Laws.{FindPut, FindAdd, FindOnly, OnlyGoes, KeysSatisfy, EntriesFound, KeysRise}
use Rattle.golf_theory.specs.Laws.{ReachedLeast}
use Rattle.golf_theory.specs.Laws.{LeastDerived, Counted, MembersCount}
use Rattle.golf_theory.proofs.Lists.{Every-at}
use Rattle.golf_theory.proofs.Tests.{is_in-from, In-from}
use Rattle.golf_theory.proofs.MapEntries.{Entry-find, In-keys_where, Entry-keys_where}
use Rattle.golf_theory.proofs.MapFinds.{find-put, find-put_other, put-none, find-add, find-add_other, find-only}
use Rattle.golf_theory.proofs.MapFinds.{find-only_out, find-Entry, find_above}
use Rattle.golf_theory.proofs.MapCuts.{only-put, only-add, only-map_values}
use Rattle.golf_theory.proofs.MapOrder.{Rises-put, Rises-only, Rises-add}
use Rattle.golf_theory.proofs.Derivations.{Reached-root, Reached-step, Reached-least}
use Rattle.golf_theory.proofs.LeastLaws.{Derived-least, least-Derived}
use Rattle.golf_theory.proofs.Times.{length-counted, times-In, In-times}

module _ (X : Type 0) where
  pub find_put : FindPut X
  find_put k v es = (λ old h. find-put k v es old h, λ h. put-none k v es h, λ j n. find-put_other k v es j n)

  pub find_add : FindAdd X
  find_add k v es = (λ a. find-add k v es (find_above k es k a (omega arith)), λ j n. find-add_other k v es j n)

  pub find_only : FindOnly X
  find_only p k es = (λ t. find-only p es k t, λ f. find-only_out p es k f)

  pub only_goes : OnlyGoes X
  only_goes p k v es = (only-put p k v es, λ t. only-add p k v es t, λ f. only-map_values f p es)

  pub keys_satisfy : KeysSatisfy X
  keys_satisfy p k es = (λ h. Entry-keys_where p es k h, λ r. In-keys_where p es k r.0 r.1 r.2)

  pub entries_found : EntriesFound X
  entries_found k x es r = (λ h. find-Entry es k x r h, λ h. Entry-find k es x h)

  pub keys_rise : KeysRise X
  keys_rise p k v es r = (Rises-put 0 k v es r, Rises-only 0 p es r, λ a. Rises-add 0 k v es (omega arith) a r)

  pub reached_least : ReachedLeast X
  reached_least leads roots =
      let Root : X → Type 0 = λ y. In y roots in
      let Leads : X → X → Type 0 = λ q y. leads q y ≡ true in (
        λ x h. Reached-root Root Leads x h,
        λ q x h l. Reached-step Root Leads q x h l,
        λ test a closed x h. Reached-least Root Leads (λ y. test y ≡ true)
            (λ y i. Every-at (λ z. test z ≡ true) roots y a i) (λ q y t l. closed q y t l) x h,
      )

  pub least_derived : LeastDerived X
  least_derived rule candidates more covers x =
      (λ i. Derived-least rule candidates x i, λ d. least-Derived rule candidates more covers x d)

pub counted : Counted
counted xs words h = length-counted xs words h

pub members_count : MembersCount
members_count x xs = ((λ i. times-In x xs i, λ l. In-times x xs l), (λ i. is_in-from x xs i, λ t. In-from x xs t))
