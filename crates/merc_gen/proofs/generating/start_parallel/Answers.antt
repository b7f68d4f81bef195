use Rattle.std.proofs.lemmas.Result.{on_ok_weaker}
use Rattle.std.proofs.Common.{ap}
use Rattle.merc_graded_tree.specs.declared.entries.Running.TheVariants.{Parallel}
use Rattle.merc_gen.proofs.Parting.{alone, conjuncts_start}
use Rattle.merc_gen.proofs.generating.start_parallel.Goals as goal

pub returns-in-None : goal.returns-in-None
returns-in-None c =
    on_ok_weaker c.leave.result (λ left single. conjuncts_start single (Parallel c.args.site) c.args.goals c.args.mark c.args.tasks.now.items c.leave.new.tasks.items c.args.code.now
    (alone c.args.site c.in-None.is) left) c.leave.ensures
