use Rattle.merc_fork_tests.proofs.Stopping.{rejoined}
use Rattle.merc_fork_tests.proofs.driving.join_at.Goals as goal

pub returns-then-is_fine-clause-goes_on : goal.returns-then-is_fine-clause-goes_on
returns-then-is_fine-clause-goes_on c = rejoined c.args.outcome c.args.site.number c.args.machine.now c.rejoin.new.self c.if-is_fine.ensures c.rejoin.ensures.goes_on c.requires.means
