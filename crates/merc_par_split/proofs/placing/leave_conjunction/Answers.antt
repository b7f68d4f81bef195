use Rattle.std.proofs.Common.{sym, subst, refl}
use Rattle.std.proofs.lemmas.Result.{on_ok_weaker}
use Rattle.merc_par_split.specs.Constructs.{LeavesRunning}
use Rattle.merc_par_split.proofs.placing.leave_conjunction.Goals as goal

pub returns-in-Sequential : goal.returns-in-Sequential
returns-in-Sequential c =
    on_ok_weaker c.leave_turns.result
    (λ are. subst (λ r. LeavesRunning r c.args.placing.now c.args.goals c.args.sites.now.items c.args.sites.now.items c.args.tasks.now c.leave_turns.new.tasks) (sym c.in-Sequential.is) (are, refl))
    c.leave_turns.ensures

pub returns-in-Parallel : goal.returns-in-Parallel
returns-in-Parallel c =
    on_ok_weaker c.leave_conjuncts.result
    (λ leaves. subst (λ r. LeavesRunning r c.args.placing.now c.args.goals c.args.sites.now.items c.leave_conjuncts.new.sites.items c.args.tasks.now c.leave_conjuncts.new.tasks)
    (sym c.in-Parallel.is) leaves)
    c.leave_conjuncts.ensures
