use Rattle.std.proofs.Common.{◌≡◌, ℕ, min, sym, subst}
use Rattle.crossbeam_deque.specs.Tasks.{FindsFew}
use Rattle.crossbeam_deque.specs.Handles.{view}
use Rattle.merc_deque.specs.History.{Kept, HeldFew}
use Rattle.merc_deque.proofs.Keeping.{stolen, found_few}
use Rattle.merc_deque.proofs.sparks.Thief.steal.Goals as goal

pub steal_as-requires-clause-takes : goal.steal_as-requires-clause-takes
steal_as-requires-clause-takes g c = stolen _ _

pub steal_as-requires-clause-empty : goal.steal_as-requires-clause-empty
steal_as-requires-clause-empty g c = subst (λ (flavor : ℕ). FindsFew Kept (min flavor 1) c.args.pass.now.id (view c.args.pass.now) (HeldFew (view c.args.pass.now))) (sym c.args.self.now.pops_at_back) (found_few _ _)
