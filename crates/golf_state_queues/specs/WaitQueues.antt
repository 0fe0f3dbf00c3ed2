-- The model of the wait queues: for each object and side the goroutines that wait, by ticket.
use Rattle.std.specs.Prelude.{◌≡◌, ℕ, ◌+◌, ◌*◌, ◌<◌, ◌≤◌, Bool, true, false, cond, not, ◌&&◌, List, [], ◌∷◌, map}
use Rattle.std.specs.Prelude.{filter, Option, Some, None, ◌==◌}
use Rattle.golf_theory.specs.Maps.{Entry, find, Rises, AllBelow}
use Rattle.golf_theory.specs.Membership.{is_in}
use Rattle.golf_base.specs.declared.ids.GoroutineId.{GoroutineId}
use Rattle.golf_data.specs.declared.goroutine.Side.{Side}
use Rattle.golf_data.specs.declared.goroutine.Wait.{Wait}
use Rattle.golf_model.specs.Waiters.{side_number}
use Rattle.golf_state_queues.specs.declared.holders.TicketHolder.{TicketHolder}
use Rattle.golf_state_queues.specs.declared.queues.Queue.{Queue}

-- the goroutines in the queue, by their tickets
abbrev pub held : List TicketHolder → List (ℕ × ℕ)
held [] = []
held (h ∷ hs) = cond h.is_gone (held hs) ((h.ticket, h.goroutine.0) ∷ held hs)

-- the key of a queue: queues are in rising order of object, and those of one object in the order of their sides
abbrev pub key : ℕ → Side → ℕ
key o side = o * 7 + side_number side

abbrev pub WaitQueues : Type 0
WaitQueues = List (ℕ × List (ℕ × ℕ))

abbrev pub wait_queues_of : List Queue → WaitQueues
wait_queues_of qs = map (λ q. (key q.object.0 q.side, held q.holders)) qs

abbrev pub wait_queue_in : Option (List (ℕ × ℕ)) → List (ℕ × ℕ)
wait_queue_in None = []
wait_queue_in (Some es) = es

-- the goroutines in the queue of this key, by their tickets
abbrev pub wait_queue_at : ℕ → WaitQueues → List (ℕ × ℕ)
wait_queue_at k ls = wait_queue_in (find k ls)

-- whether the queue has a waiter
abbrev pub has_anyone : List (ℕ × ℕ) → Bool
has_anyone [] = false
has_anyone (e ∷ es) = true

-- the queues that have a waiter
abbrev pub standing : WaitQueues → WaitQueues
standing ls = filter (λ e. has_anyone e.1) ls

-- the waiters of a queue whose goroutine is in the list
abbrev pub among : List ℕ → List (ℕ × ℕ) → List (ℕ × ℕ)
among gs es = filter (λ e. is_in e.1 gs) es

-- the queues, each with only the waiters whose goroutine is in the list
abbrev pub narrowed : List ℕ → WaitQueues → WaitQueues
narrowed gs ls = map (λ e. (e.0, among gs e.1)) ls

-- goroutines by their numbers
abbrev pub listed : List GoroutineId → List (ℕ × ℕ)
listed gs = map (λ g. (g.0, g.0)) gs

abbrev pub has_key : {X : Type 0} → ℕ → Option (ℕ × X) → Bool
has_key k None = false
has_key k (Some e) = e.0 == k

-- all tickets are below n
abbrev pub TicketsBelow : ℕ → WaitQueues → Type 0
TicketsBelow n ls = (k : ℕ) → AllBelow n (wait_queue_at k ls)

-- the last waiter of a queue whose ticket is below this one; `None` if all tickets are this one or later
abbrev pub IsLastBefore : ℕ → List (ℕ × ℕ) → Option TicketHolder → Type 0
IsLastBefore t es None = (u g : ℕ) → Entry es u g → t ≤ u
IsLastBefore t es (Some h) = Entry es h.ticket h.goroutine.0 × (h.ticket < t)
    × ((u g : ℕ) → Entry es u g → u < t → u ≤ h.ticket)

-- each waiter of the queue that satisfies the test is still in it
abbrev pub KeepsIn : (ℕ → ℕ → Type 0) → List (ℕ × ℕ) → List (ℕ × ℕ) → Type 0
KeepsIn P old new = (t g : ℕ) → P t g → Entry old t g → Entry new t g

-- each waiter of each queue that satisfies the test is still in its queue
abbrev pub KeepsWaiters : (ℕ → ℕ → Type 0) → WaitQueues → WaitQueues → Type 0
KeepsWaiters P old new = (k : ℕ) → KeepsIn P (wait_queue_at k old) (wait_queue_at k new)

-- whether this waiter is the goroutine with this ticket
abbrev pub is_holder : ℕ → ℕ → ℕ × ℕ → Bool
is_holder t g h = (h.1 == g) && (h.0 == t)

-- whether this entry is the goroutine with this ticket, and not gone
abbrev pub is_held_in : ℕ → ℕ → Option TicketHolder → Bool
is_held_in t g None = false
is_held_in t g (Some h) = not h.is_gone && is_holder t g (h.ticket, h.goroutine.0)

-- the queue without the goroutine with this ticket
abbrev pub parted : ℕ → ℕ → List (ℕ × ℕ) → List (ℕ × ℕ)
parted t g es = filter (λ h. not (is_holder t g h)) es

-- The waiters that satisfy the test for the key of their queue are removed. All others keep their order.
abbrev pub IsWithout : (ℕ → ℕ × ℕ → Bool) → WaitQueues → WaitQueues → Type 0
IsWithout gone old new = (k : ℕ) → wait_queue_at k new ≡ filter (λ h. not (gone k h)) (wait_queue_at k old)

-- whether the waiter in the queue of key k is the goroutine with this ticket, and k is one of these keys
abbrev pub leaves : ℕ → ℕ → List ℕ → ℕ → ℕ × ℕ → Bool
leaves t g ks k h = is_in k ks && is_holder t g h

-- the keys of the queues of these waits
abbrev pub keys_of : List Wait → List ℕ
keys_of ws = map (λ w. key w.object.0 w.side) ws

-- each waiter in the queue, except for this goroutine with this ticket, was in it before
abbrev pub AddsOnlyIn : ℕ → ℕ → List (ℕ × ℕ) → List (ℕ × ℕ) → Type 0
AddsOnlyIn t g old new = (u h : ℕ) → is_holder t g (u, h) ≡ false → Entry new u h → Entry old u h

-- each waiter in a queue was in it before, except for this goroutine with this ticket in the queues of these keys
abbrev pub AddsOnly : ℕ → ℕ → List ℕ → WaitQueues → WaitQueues → Type 0
AddsOnly t g ks old new = (k u h : ℕ) → leaves t g ks k (u, h) ≡ false → Entry (wait_queue_at k new) u h
    → Entry (wait_queue_at k old) u h

-- the goroutine is in the queue of the wait
abbrev pub StandsIn : ℕ → ℕ → Wait → WaitQueues → Type 0
StandsIn t g w ls = Entry (wait_queue_at (key w.object.0 w.side) ls) t g

abbrev pub StandsInAll : ℕ → ℕ → List Wait → WaitQueues → Type 0
StandsInAll t g [] ls = Unit {0}
StandsInAll t g (w ∷ ws) ls = StandsIn t g w ls × StandsInAll t g ws ls

-- the tickets of each queue rise
abbrev pub AllRise : WaitQueues → Type 0
AllRise [] = Unit {0}
AllRise (e ∷ es) = Rises 0 e.1 × AllRise es

pub record IsInOrder (ls : WaitQueues) : Type 0 where
  pub keys : Rises 0 ls
  pub queues : AllRise ls
