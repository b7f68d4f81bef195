use Rattle.std.proofs.Common.{[], ◌∷◌, ◌++◌, ◌∙◌, List, ap}
use Rattle.merc_core.specs.declared.branch.Branch.{Branch}
use Rattle.merc_core.proofs.Starts.{workers-first, workers-more}
use Rattle.merc_core.proofs.making.make_workers.Goals as goal

pub loop-init : goal.loop-init
loop-init c =
    workers-first c.new-workers.result.items c.push.new.self.items c.push_back.new.self c.worker_of.result c.new-workers.ensures.items c.in_ok-push.ensures.items c.worker_of.ensures
    (c.in_ok-push_back.ensures.items ∙ ap (λ (hand : List Branch). hand ++ c.root_branch.result ∷ []) c.new-hand.ensures ∙ ap (λ (branch : Branch). branch ∷ []) c.root_branch.ensures)

pub loop-preserved : goal.loop-preserved
loop-preserved c =
    workers-more c.loop.counter c.loop.workers.items c.push-in-loop.new.self.items c.new.result c.worker_of-in-loop.result c.loop.auto.counter c.loop.invariant c.in_ok-push-2.ensures.items
    c.worker_of-in-loop.ensures c.new.ensures
