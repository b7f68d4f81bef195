use Rattle.merc_board.specs.Boarding.{lost_at}
use Rattle.merc_pool.proofs.turn.run_branch.Goals as goal

pub returns-then-is_over : goal.returns-then-is_over
returns-then-is_over g c = (lost_at c.requires.live.0 c.requires.live.1, c.requires.allowed)

pub make_slice-come-requires-clause-live : goal.make_slice-come-requires-clause-live
make_slice-come-requires-clause-live g c = λ κs within. rw c.deref_mut.ensures.value c.requires.live
