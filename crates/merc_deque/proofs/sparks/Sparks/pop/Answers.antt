use Rattle.merc_deque.proofs.Keeping.{popped, found_none}
use Rattle.merc_deque.proofs.sparks.Sparks.pop.Goals as goal

pub pop_as-requires-clause-lifo : goal.pop_as-requires-clause-lifo
pop_as-requires-clause-lifo g c = λ _. popped _ _

pub pop_as-requires-clause-empty : goal.pop_as-requires-clause-empty
pop_as-requires-clause-empty g c = found_none _ _
