use Rattle.merc_terms.proofs.ItemLaws.{no_goal, goal_read}
use Rattle.merc_terms.proofs.reading.Reader.read_goal.Goals as goal

pub returns-then-not-branch : goal.returns-then-not-branch
returns-then-not-branch c = no_goal c.args.self.now.progress c.read_whole.new.self.progress (rw c.if-not-branch.true at c.in_ok-read_whole.ensures)

pub returns : goal.returns
returns c =
    goal_read c.args.self.now.progress c.read_whole.new.self.progress c.is_at_end.result (rw c.if-not-branch.false at c.in_ok-read_whole.ensures) c.is_at_end.ensures
