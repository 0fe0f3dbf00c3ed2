-- A collection that removes goroutines and frees objects leaves references to objects that are left alone.
-- For: `collections_keep_whole`, src/lib.rt; `real_collect`, golf_model/specs/Collections.antt
-- By: putting the laws of cuts together; no induction
use Rattle.std.proofs.Common.{◌≡◌, ℕ, Bool, true, List, sym, subst}
use Rattle.golf_theory.specs.Maps.{keys}
use Rattle.golf_theory.specs.Membership.{In, Every}
use Rattle.golf_theory.proofs.Lists.{In-filter_old, Every-from, Every-at}
use Rattle.golf_theory.proofs.MapEntries.{Entry-only}
use Rattle.golf_theory.proofs.MapKeys.{keys-only}
use Rattle.golf_model.specs.State.{State}
use Rattle.golf_model.specs.Collections.{plain_collect, real_collect, removed, cut}
use Rattle.golf_model.specs.Futures.{Numbered}
use Rattle.golf_model.specs.Presence.{Present, IsWhole}
use Rattle.golf_model_futures.proofs.Flowing.{Flow, flow-collect}
use Rattle.golf_model_futures.proofs.Presence.{whole-collect}
use Rattle.golf_model_futures.proofs.Removing.{stays_by, kept_by, removed-ok, flow-kept, collect-cut}

module _ (s : State) (recover sets_finalisers : Bool) (n : Numbered s) (w : IsWhole s) where
  abbrev gone : List ℕ
  gone = removed s recover sets_finalisers

  abbrev kept : ℕ → Bool
  kept = kept_by s gone

  abbrev stays : ℕ → Bool
  stays = stays_by gone

  abbrev left : State
  left = cut stays kept (plain_collect s)

  flows : Flow (λ o. kept o ≡ true) (λ g. stays g ≡ true) (plain_collect s)
  flows = flow-collect (λ o. kept o ≡ true) (λ g. stays g ≡ true) s
      (flow-kept s n gone (removed-ok s recover sets_finalisers).dead)

  there : (o : ℕ) → kept o ≡ true → Present (plain_collect s) o → Present left o
  there o k i = subst (In o) (sym (keys-only kept s.objects)) (In-filter_old kept o (keys s.objects) k i)

  all-there : (os : List ℕ) → Every (λ o. kept o ≡ true) os → Every (Present (plain_collect s)) os
      → Every (Present left) os
  all-there os k h = Every-from (Present left) os
      (λ o i. there o (Every-at (λ p. kept p ≡ true) os o k i) (Every-at (Present (plain_collect s)) os o h i))

  whole-left : IsWhole left
  whole-left =
      let p = whole-collect s n w in record {
        globals = all-there _ flows.globals p.globals;
        queue = all-there _ flows.queue p.queue;
        finalised = λ o f e. there o (flows.finalised o f e) (p.finalised o f e);
        objects = λ o x e. let i = Entry-only kept s.objects o x e in all-there _ (flows.objects o x i.0 i.1)
            (p.objects o x i.1);
        goroutines = λ g r e. let i = Entry-only stays s.goroutines g r e in all-there _ (flows.goroutines g r i.0 i.1)
            (p.goroutines g r i.1);
      }

  pub whole-real : IsWhole (real_collect s recover sets_finalisers)
  whole-real = subst IsWhole (sym (collect-cut s n gone (removed-ok s recover sets_finalisers).dead)) whole-left
