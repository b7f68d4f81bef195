use Rattle.std.proofs.Common.{arith, sym, ◌∙◌}
use Rattle.merc_det.specs.Seen.{back_to, known_in}
use Rattle.merc_det.proofs.SeenLaws.{back_one, back_all}
use Rattle.merc_det.proofs.seen.remove_entries.Goals as goal

pub loop-entries-preserved : goal.loop-entries-preserved
loop-entries-preserved c = record {
  finds = c.remove_last.ensures.finds;
  known = back_one c.args.length c.loop-entries.entries.items c.remove_last.new.entries.items (back_to c.args.length (known_in c.args.entries.now.items))
      (omega (arith, c.len.ensures, c.loop-entries.entries.ok, c.loop-entries-test.true)) c.remove_last.ensures.entries c.loop-entries.invariant.known;
}

pub returns-clause-known : goal.returns-clause-known
returns-clause-known c =
    sym (back_all c.args.length c.loop-entries.entries.items (omega (arith, c.len.ensures, c.loop-entries.entries.ok, c.loop-entries-test.false)))
    ∙ c.loop-entries.invariant.known
