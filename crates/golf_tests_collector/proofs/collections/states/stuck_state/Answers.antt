use Rattle.std.proofs.Common.{◌≡◌, sym, ap, subst}
use Rattle.golf_model.specs.Futures.{Numbered}
use Rattle.golf_model.specs.Views.{frame_views}
use Rattle.golf_model.specs.Presence.{IsWhole}
use Rattle.golf_tests_collector.proofs.StuckStates.{stuck, stuck-is, stuck-numbered, stuck-whole}
use Rattle.golf_tests_collector.proofs.collections.states.stuck_state.Goals as goal

made : (c : goal.In_ok-block) → c.block.new.self ≡ stuck
made c =
    stuck-is (record {
      no_globals = c.new-globals.ensures;
      no_first = ap frame_views c.new-first.ensures;
      no_second = ap frame_views c.new-second.ensures;
      no_buffer = c.new-buffer.ensures;
      one_wait = c.one.ensures;
      opened = c.in_ok-state.ensures;
      channel = c.in_ok-channel.ensures.ok;
      object = c.in_ok-channel.ensures.number;
      goroutine = c.in_ok-g.ensures.ok;
      number = c.in_ok-g.ensures.number;
      stands = c.in_ok-block.ensures.ok;
    })

pub returns-clause-numbered : goal.returns-clause-numbered
returns-clause-numbered c = subst Numbered (sym (made c)) stuck-numbered

pub returns-clause-whole : goal.returns-clause-whole
returns-clause-whole c = subst IsWhole (sym (made c)) stuck-whole
