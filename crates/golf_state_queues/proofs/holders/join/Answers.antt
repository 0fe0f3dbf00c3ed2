use Rattle.std.proofs.Common.{◌≡◌, ℕ, ◌+◌, ◌<◌, List, [], ◌∷◌, ◌++◌, false, take, subst, sym, ap, ◌∙◌, arith}
use Rattle.golf_theory.specs.Maps.{Entry, Rises, AllBelow, rank}
use Rattle.golf_theory.proofs.MapOrder.{Rises-add, AllBelow-add, AllBelow-more}
use Rattle.golf_theory.proofs.MapEntries.{Entry-add_old, Entry-add_new}
use Rattle.golf_state_queues.specs.Lines.{spots}
use Rattle.golf_state_queues.specs.WaitQueues.{held, AddsOnlyIn}
use Rattle.golf_state_queues.specs.declared.holders.TicketHolder.{TicketHolder}
use Rattle.golf_state_queues.proofs.Held.{Entry-front, Entry-take, AllBelow-front, Rises-take, spots-take, held-append}
use Rattle.golf_state_queues.proofs.Held.{held-front}
use Rattle.golf_state_queues.proofs.Adding.{adds-last}
use Rattle.golf_state_queues.proofs.holders.join.Goals as goal

-- the front of a queue, cut at the rank of the ticket
front-is : (t at : ℕ) (old seen cut : List TicketHolder) → Rises 0 (spots old) → seen ≡ old → at ≡ rank t (spots seen)
    → cut ≡ take at old → held cut ≡ take (rank t (held old)) (held old)
front-is t at old seen cut rises e r c =
    ap held c ∙ ap (λ (n : ℕ). held (take n old)) (r ∙ ap (λ (hs : List TicketHolder). rank t (spots hs)) e)
    ∙ held-front t 0 old rises

record Front (t : ℕ) (old cut : List (ℕ × ℕ)) : Type 0 where
  rises : Rises 0 cut
  below : AllBelow t cut
  kept : (u g : ℕ) → u < t → Entry old u g → Entry cut u g
  only : (u g : ℕ) → Entry cut u g → Entry old u g

front : (t : ℕ) (old cut : List (ℕ × ℕ)) → Rises 0 old → cut ≡ take (rank t old) old → Front t old cut
front t old cut r e = record {
  rises = subst (Rises 0) (sym e) (Rises-take (rank t old) 0 old r);
  below = subst (AllBelow t) (sym e) (AllBelow-front t old);
  kept = λ u g l i. subst (λ (es : List (ℕ × ℕ)). Entry es u g) (sym e) (Entry-front t 0 old u g r l i);
  only = λ u g i. Entry-take (rank t old) old u g (subst (λ (es : List (ℕ × ℕ)). Entry es u g) e i);
}

record Joined (t g : ℕ) (old new : List (ℕ × ℕ)) : Type 0 where
  rises : Rises 0 new
  joins : Entry new t g
  kept : (u h : ℕ) → u < t → Entry old u h → Entry new u h
  only : AddsOnlyIn t g old new
  below : AllBelow (t + 1) new

joined : (t g : ℕ) (old cut new : List (ℕ × ℕ)) → Front t old cut → new ≡ cut ++ (t, g) ∷ [] → Joined t g old new
joined t g old cut new f e = record {
  rises = subst (Rises 0) (sym e) (Rises-add 0 t g cut (omega arith) f.below f.rises);
  joins = subst (λ (es : List (ℕ × ℕ)). Entry es t g) (sym e) (Entry-add_new t g cut);
  kept = λ u h l i. subst (λ (es : List (ℕ × ℕ)). Entry es u h) (sym e) (Entry-add_old t g cut u h (f.kept u h l i));
  only = subst (λ (es : List (ℕ × ℕ)). AddsOnlyIn t g old es) (sym e) (adds-last t g old cut f.only);
  below = subst (AllBelow (t + 1)) (sym e)
      (AllBelow-add (t + 1) t g cut (omega arith) (AllBelow-more t (t + 1) cut (omega arith) f.below));
}

-- the queue without those that were cut off
was-cut : (c : goal.In_ok-push) → Front c.args.ticket (held c.args.holders.now) (held c.truncate.new.self)
was-cut c =
    let hs = c.args.holders.now in
    let cut = c.truncate.new.self in
    front c.args.ticket (held hs) (held cut) c.requires
    (front-is c.args.ticket c.rank_of-at.result hs c.as_slice.result.now cut c.as_slice.ensures.rises
    c.as_slice.ensures.value c.rank_of-at.ensures.place c.truncate.ensures)

pub push-requires : goal.push-requires
push-requires c =
    let hs = c.args.holders.now in
    let t = c.args.ticket in
    let place : c.rank_of-at.result ≡ rank t (spots hs) = c.rank_of-at.ensures.place
    ∙ ap (λ (es : List TicketHolder). rank t (spots es)) c.as_slice.ensures.value in
    let cut : spots c.truncate.new.self ≡ take (rank t (spots hs)) (spots hs) = ap spots c.truncate.ensures
    ∙ spots-take c.rank_of-at.result hs ∙ ap (λ (n : ℕ). take n (spots hs)) place in
    subst (AllBelow t) (sym cut) (AllBelow-front t (spots hs))

has-joined : (c : goal.In_ok-push) → Joined c.args.ticket c.args.goroutine.0 (held c.args.holders.now)
    (held c.push.new.self)
has-joined c =
    let hs = c.args.holders.now in
    let cut = c.truncate.new.self in
    joined c.args.ticket c.args.goroutine.0 (held hs) (held cut) (held c.push.new.self) (was-cut c)
    (ap held c.in_ok-push.ensures.ok ∙ held-append cut
    (record { ticket = c.args.ticket; goroutine = c.args.goroutine; is_gone = false } ∷ []))

-- the same if memory ran out
stays-cut : (c : goal.After-from_residual) → Front c.args.ticket (held c.args.holders.now) (held c.push.new.self)
stays-cut c =
    let hs = c.args.holders.now in
    let new = c.push.new.self in
    front c.args.ticket (held hs) (held new) c.requires
    (front-is c.args.ticket c.rank_of-at.result hs c.as_slice.result.now new c.as_slice.ensures.rises
    c.as_slice.ensures.value c.rank_of-at.ensures.place (c.in_err-push.ensures.err ∙ c.truncate.ensures))

pub returns-clause-rises : goal.returns-clause-rises
returns-clause-rises c = (has-joined c).rises

pub returns-clause-joins : goal.returns-clause-joins
returns-clause-joins c = (has-joined c).joins

pub returns-clause-kept : goal.returns-clause-kept
returns-clause-kept c = (has-joined c).kept

pub returns-clause-only : goal.returns-clause-only
returns-clause-only c = (has-joined c).only

pub returns-clause-below : goal.returns-clause-below
returns-clause-below c = (has-joined c).below

pub returns-in_err-push-clause-rises : goal.returns-in_err-push-clause-rises
returns-in_err-push-clause-rises c = (stays-cut c).rises

pub returns-in_err-push-clause-kept : goal.returns-in_err-push-clause-kept
returns-in_err-push-clause-kept c = (stays-cut c).kept

pub returns-in_err-push-clause-only : goal.returns-in_err-push-clause-only
returns-in_err-push-clause-only c = λ u h n i. (stays-cut c).only u h i

pub returns-in_err-push-clause-below : goal.returns-in_err-push-clause-below
returns-in_err-push-clause-below c = AllBelow-more c.args.ticket (c.args.ticket + 1) (held c.push.new.self)
    (omega arith) (stays-cut c).below
