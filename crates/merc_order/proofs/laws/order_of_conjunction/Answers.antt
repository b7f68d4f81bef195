use Rattle.std.specs.Prelude.{length, refl}
use Rattle.merc_order.specs.Order.{moves}
use Rattle.merc_order.proofs.laws.order_of_conjunction.Goals as goal
use Rattle.merc_order.proofs.FromLaws.{moves-more}
use Rattle.merc_order.proofs.MoveLaws.{all-settled, settled-all}
use Rattle.merc_order.proofs.Sequence.{settled-sequence}

pub returns-clause-any_way : goal.returns-clause-any_way
returns-clause-any_way c total modes goals bound = (
  (λ ready. all-settled (length (moves total modes goals)) (moves total modes goals) bound refl ready),
  (λ can. settled-all (length (moves total modes goals)) (moves total modes goals) bound refl (moves-more total modes goals) can),
)

pub returns-clause-leftmost_first : goal.returns-clause-leftmost_first
returns-clause-leftmost_first c total modes goals bound ordered is = settled-sequence (length (moves total modes goals)) (moves total modes goals) bound ordered is refl
