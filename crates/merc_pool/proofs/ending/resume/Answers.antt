use Rattle.merc_pool.proofs.Ends.{never-allowed, parent-goes-on, parent-joins, parent-lost, parent-restarts, parent-starves}
use Rattle.merc_pool.proofs.ending.resume.Goals as goal

pub rejoin-requires-after_bounds : goal.rejoin-requires-after_bounds
rejoin-requires-after_bounds g c κs within =
    parent-joins g.M.Engine g.N.Asked g.B.Board c.args.shared.now.board c.resume.new.seat c.args.worker.now.seat c.args.parent.value c.deref_mut.result.now c.deref_mut-in_default.result.now c.resume.new.hold
    c.in-Outcome.outcome c.requires.parent c.deref_mut.ensures.value c.deref_mut-in_default.ensures.value c.in-Outcome.ensures.rights c.in-Outcome.ensures.resumed c.in_default.not-NoMemory c.in_default.not-Starved

pub returns-in-NoMemory : goal.returns-in-NoMemory
returns-in-NoMemory g c = (
  parent-lost g.M.Engine g.N.Asked g.B.Board c.args.shared.now.board c.resume.new.seat c.args.worker.now.seat c.args.parent.value c.deref_mut.result.now c.resume.new.hold c.in-Outcome.outcome c.requires.parent
      c.deref_mut.ensures.value c.in-Outcome.ensures.resumed c.in-NoMemory.is,
  never-allowed,
)

pub returns-in-Starved : goal.returns-in-Starved
returns-in-Starved g c = (
  parent-starves g.M.Engine g.N.Asked g.B.Board c.args.shared.now.board c.resume.new.seat c.args.worker.now.seat c.args.parent.value c.deref_mut.result.now c.resume.new.hold c.in-Outcome.outcome c.requires.parent
      c.deref_mut.ensures.value c.in-Outcome.ensures.resumed c.in-Starved.is,
  never-allowed,
)

pub returns-in_default : goal.returns-in_default
returns-in_default g c = (
  parent-goes-on g.M.Engine g.N.Asked g.B.Board c.args.shared.now.board c.resume.new.seat c.args.worker.now.seat c.args.parent.value c.deref_mut.result.now c.deref_mut-in_default.result.now c.resume.new.hold
      c.in-Outcome.outcome c.rejoin.new.progress c.requires.parent c.deref_mut.ensures.value c.deref_mut-in_default.ensures.value c.in-Outcome.ensures.rights c.in-Outcome.ensures.resumed c.in_default.not-NoMemory
      c.in_default.not-Starved c.rejoin.ensures,
  never-allowed,
)

pub returns-in-Restart : goal.returns-in-Restart
returns-in-Restart g c = (
  parent-restarts g.M.Engine g.N.Asked g.B.Board c.args.shared.now.board c.resume.new.seat c.args.worker.now.seat c.args.parent.value c.deref_mut.result.now c.resume.new.hold c.requires.parent c.deref_mut.ensures.value
      c.in-Restart.ensures.resumed,
  never-allowed,
)
