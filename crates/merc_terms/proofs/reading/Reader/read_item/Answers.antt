use Rattle.merc_terms.proofs.ItemLaws.{no_item, item_read, item_shorter}
use Rattle.merc_terms.proofs.reading.Reader.read_item.Goals as goal

pub returns-then-not-branch-clause-there : goal.returns-then-not-branch-clause-there
returns-then-not-branch-clause-there c = no_item c.args.self.now.progress c.read_whole.new.self.progress (rw c.if-not-branch.true at c.in_ok-read_whole.ensures)

pub returns-clause-there : goal.returns-clause-there
returns-clause-there c =
    item_read c.args.self.now.progress c.read_whole.new.self.progress c.take_stop.new.self.progress c.take_stop.result (rw c.if-not-branch.false at c.in_ok-read_whole.ensures) c.take_stop.ensures.stop c.take_stop.ensures.built

pub returns-clause-shorter : goal.returns-clause-shorter
returns-clause-shorter c =
    item_shorter c.args.self.now.progress c.read_whole.new.self.progress c.take_stop.new.self.progress c.take_stop.result (rw c.if-not-branch.false at c.in_ok-read_whole.ensures) c.take_stop.ensures.stop
