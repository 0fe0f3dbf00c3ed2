use Rattle.std.proofs.Common.{◌≡◌, ℕ, suc, ◌+◌, ◌<◌, List, Some, length, refl, sym, ap, ◌∙◌, arith, slice_get}
use Rattle.std.proofs.Common.{slice_set}
use Rattle.std.specs.Prelude.{option_map}
use Rattle.std.proofs.lemmas.List.{length-map, length-set}
use Rattle.std.proofs.lemmas.Option.{slice_get_read, slice_get-map}
use Rattle.golf_theory.specs.Maps.{keys}
use Rattle.golf_state_goroutines.specs.Places.{plain_entries}
use Rattle.golf_state_queues.specs.WaitQueues.{WaitQueues, key, held, among, wait_queues_of}
use Rattle.golf_state_queues.specs.declared.queues.Queue.{Queue}
use Rattle.golf_state_queues.proofs.Narrowing.{changed_to, changed-read, changed-more, changed-all, map-set}
use Rattle.golf_state_queues.proofs.queues.narrow_all.Goals as goal

-- the queue r is q, but for holders that are not among these goroutines
record IsNarrowed (gs : List ℕ) (q r : Queue) : Type 0 where
  object : r.object ≡ q.object
  side : r.side ≡ q.side
  holders : held r.holders ≡ among gs (held q.holders)

-- one queue more
more : (gs : List ℕ) (at n : ℕ) (qs : List Queue) (ls : WaitQueues) (q r : Queue)
    → wait_queues_of qs ≡ changed_to (λ (e : ℕ × List (ℕ × ℕ)). (e.0, among gs e.1)) at ls → slice_get qs at ≡ Some q
    → IsNarrowed gs q r → n ≡ suc at → wait_queues_of (slice_set qs at r) ≡ changed_to
    (λ (e : ℕ × List (ℕ × ℕ)). (e.0, among gs e.1)) n ls
more gs at n qs ls q r is here narrowed next =
    let f : ℕ × List (ℕ × ℕ) → ℕ × List (ℕ × ℕ) = λ e. (e.0, among gs e.1) in
    let there : slice_get (wait_queues_of qs) at ≡ Some (key q.object.0 q.side, held q.holders) =
    slice_get-map (λ (q : Queue). (key q.object.0 q.side, held q.holders)) qs at
    ∙ ap (option_map (λ (q : Queue). (key q.object.0 q.side, held q.holders))) here in
    let first : slice_get ls at ≡ Some (key q.object.0 q.side, held q.holders) = sym (changed-read f at ls)
    ∙ ap (λ (ms : WaitQueues). slice_get ms at) (sym is) ∙ there in
    let changed : (key r.object.0 r.side, held r.holders) ≡ f (key q.object.0 q.side, held q.holders) =
    ap (λ (o : ℕ). (o, held r.holders)) (ap (λ o. key o.0 r.side) narrowed.object
    ∙ ap (λ d. key q.object.0 d) narrowed.side)
    ∙ ap (λ (es : List (ℕ × ℕ)). (key q.object.0 q.side, es)) narrowed.holders in
    map-set (λ (q : Queue). (key q.object.0 q.side, held q.holders)) qs at r
    ∙ ap (λ (ms : WaitQueues). slice_set ms at (key r.object.0 r.side, held r.holders)) is
    ∙ ap (λ (e : ℕ × List (ℕ × ℕ)). slice_set (changed_to f at ls) at e) changed
    ∙ changed-more f at ls (key q.object.0 q.side, held q.holders) first
    ∙ ap (λ (k : ℕ). changed_to f k ls) (sym next)

pub loop-at-init : goal.loop-at-init
loop-at-init c = record { size = refl; queues = refl }

pub loop-at-preserved : goal.loop-at-preserved
loop-at-preserved c =
    let qs = c.loop-at.queues.items in
    let q = c.index_mut.result.now in
    let r : Queue = record { object = q.object; side = q.side; holders = c.narrow.new.self } in
    let within : c.loop-at.at < length qs = omega (arith, c.loop-at.invariant.size) in
    record {
      size = length-set qs c.loop-at.at r ∙ c.loop-at.invariant.size;
      queues = more (keys (plain_entries c.args.roster.now.places)) c.loop-at.at (c.loop-at.at + 1) qs
          (wait_queues_of c.args.queues.now.items) q r
          c.loop-at.invariant.queues (slice_get_read qs
          (length qs) c.loop-at.at q refl within c.index_mut.ensures.value)
          (record { object = refl; side = refl; holders = c.narrow.ensures }) (omega arith);
    }

pub returns : goal.returns
returns c =
    let same : length (wait_queues_of c.args.queues.now.items) ≡ length c.args.queues.now.items =
    length-map c.args.queues.now.items _ in
    c.loop-at.invariant.queues
    ∙ changed-all (λ (e : ℕ × List (ℕ × ℕ)). (e.0, among (keys (plain_entries c.args.roster.now.places)) e.1))
    c.loop-at.at (wait_queues_of c.args.queues.now.items) (omega (arith, same))
