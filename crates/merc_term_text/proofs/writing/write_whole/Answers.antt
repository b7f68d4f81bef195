-- Each round writes a mark of what is pending.
use Rattle.std.proofs.Common.{◌++◌}
use Rattle.merc_term_text.specs.Walking.{mark_pieces}
use Rattle.merc_term_text.proofs.WalkLemmas.{round_appended, round_whole, round_falls}
use Rattle.merc_term_text.proofs.writing.write_whole.Goals as goal

pub loop-work-smaller : goal.loop-work-smaller
loop-work-smaller c = round_falls c.args.names.now c.loop-work.stack.items c.pop.new.self.items c.next_mark.new.stack.items c.in-Some.work c.in_ok-mark.mark c.in-Some.ensures.items c.in_ok-mark.ensures

pub loop-work-preserved : goal.loop-work-preserved
loop-work-preserved c = record {
  done = c.loop-work.invariant.done ++ mark_pieces c.args.names.now c.in_ok-mark.mark;
  appended = round_appended c.args.names.now c.args.into.now c.loop-work.into c.write_mark.new.into c.loop-work.invariant.done (mark_pieces c.args.names.now c.in_ok-mark.mark) c.loop-work.invariant.appended c.in_ok-write_mark.ensures.ok;
  whole = round_whole c.args.names.now c.loop-work.stack.items c.pop.new.self.items c.next_mark.new.stack.items c.in-Some.work c.in_ok-mark.mark c.in-Some.ensures.items c.in_ok-mark.ensures c.loop-work.invariant.done _ c.loop-work.invariant.whole;
}
