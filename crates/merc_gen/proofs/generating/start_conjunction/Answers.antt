use Rattle.std.proofs.Common.{ap}
use Rattle.std.proofs.lemmas.Result.{on_ok_weaker}
use Rattle.merc_graded_tree.specs.declared.entries.Running.TheVariants.{Parallel}
use Rattle.merc_graded_tree.specs.Nodes.{Conjunction, nodes_of}
use Rattle.merc_gen.proofs.Performing.{performs_goal}
use Rattle.merc_gen.proofs.Parting.{conjuncts_start, in_order}
use Rattle.merc_gen.proofs.generating.start_conjunction.Goals as goal

pub returns-in-Parallel : goal.returns-in-Parallel
returns-in-Parallel c =
    let goals = nodes_of c.args.goals in
    on_ok_weaker c.start_parallel.result (λ started single. performs_goal single (Conjunction c.args.running goals) (Conjunction (Parallel c.in-Parallel.site) goals) c.args.mark
    c.args.tasks.now.items c.start_parallel.new.tasks.items c.args.code.now c.start_parallel.new.code (ap (λ how. Conjunction how goals) c.in-Parallel.is) (started single)) c.start_parallel.ensures

pub returns-in-Sequential : goal.returns-in-Sequential
returns-in-Sequential c =
    on_ok_weaker c.leave.result (λ left single. conjuncts_start single c.args.running c.args.goals c.args.mark c.args.tasks.now.items c.leave.new.tasks.items c.args.code.now
    (in_order c.args.running c.in-Sequential.is) left) c.leave.ensures
