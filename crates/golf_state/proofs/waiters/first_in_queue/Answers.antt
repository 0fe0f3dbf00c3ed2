use Rattle.std.proofs.Common.{◌≡◌, ℕ, ◌+◌, ◌<◌, cond, false, List, [], ◌∷◌, length, drop, get_or, Option, Some, None}
use Rattle.std.proofs.Common.{sym, ap, ◌∙◌, arith, drop_of_length-le}
use Rattle.std.specs.Prelude.{option_map}
use Rattle.std.proofs.lemmas.List.{drop_more}
use Rattle.golf_data.specs.declared.goroutine.Side.{Side}
use Rattle.golf_model.specs.Views.{GoroutineView}
use Rattle.golf_model.specs.Waiters.{Waiter}
use Rattle.golf_state_queues.specs.WaitQueues.{held}
use Rattle.golf_state_queues.specs.declared.holders.TicketHolder.{TicketHolder}
use Rattle.golf_state_goroutines.specs.Places.{plain_entries}
use Rattle.golf_state.specs.Seen.{waiter_by, or_later, first_held}
use Rattle.golf_state.specs.Waited.{waiting_of}
use Rattle.golf_state.specs.declared.waiters.Waiting.{Waiting}
use Rattle.golf_state.proofs.FirstLaws.{first-in-queue}
use Rattle.golf_state.proofs.waiters.first_in_queue.Goals as goal

module _ (o : ℕ) (side : Side) (gs : List (ℕ × GoroutineView)) where
  one-more : (hs : List TicketHolder) (i : ℕ) (d : TicketHolder) → i < length hs → (get_or hs i d).is_gone ≡ false
      → first_held o side gs (held (drop i hs)) ≡ or_later
      (waiter_by o side gs ((get_or hs i d).ticket, (get_or hs i d).goroutine.0))
      (first_held o side gs (held (drop (i + 1) hs)))
  one-more hs i d l g =
      let h = get_or hs i d in
      let es = held (drop (i + 1) hs) in
      ap (λ (ks : List TicketHolder). first_held o side gs (held ks)) (drop_more hs i d l)
      ∙ ap (λ b. first_held o side gs (cond b es ((h.ticket, h.goroutine.0) ∷ es))) g

  told-some : (m n : Option Waiter) (x : Waiting) → Some x ≡ option_map waiting_of m
      → Some x ≡ option_map waiting_of (or_later m n)
  told-some None n x e = cc
  told-some (Some w) n x e = e

pub returns-in-Some : goal.returns-in-Some
returns-in-Some c =
    let o = c.args.object.0 in
    let side = c.args.side in
    let gs = plain_entries c.args.roster.now.places in
    let hs = c.args.queue.now in
    let i = c.loop-holder.holder-index in
    told-some o side gs _ (first_held o side gs (held (drop (i + 1) hs))) c.in-Some.waiting c.in-Some.ensures
    ∙ ap (λ (m : Option Waiter). option_map waiting_of m)
    (sym (one-more o side gs hs i _ c.loop-holder-test.true c.if-not-holder.true) ∙ sym c.loop-holder.invariant
    ∙ first-in-queue o side gs c.requires.rises (held hs) c.requires.order c.requires.all)

pub returns : goal.returns
returns c =
    let o = c.args.object.0 in
    let side = c.args.side in
    let gs = plain_entries c.args.roster.now.places in
    let hs = c.args.queue.now in
    let end : held (drop c.loop-holder.holder-index hs) ≡ [] = ap held (drop_of_length-le hs (omega arith)) in
    ap (λ (m : Option Waiter). option_map waiting_of m)
    (sym (ap (first_held o side gs) end) ∙ sym c.loop-holder.invariant
    ∙ first-in-queue o side gs c.requires.rises (held hs) c.requires.order c.requires.all)
