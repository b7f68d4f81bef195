use Rattle.merc_deque.proofs.Keeping.{pushed}
use Rattle.merc_deque.proofs.sparks.Sparks.push.Goals as goal

pub push_as-requires-clause-pushes : goal.push_as-requires-clause-pushes
push_as-requires-clause-pushes g c = pushed _ _ _
