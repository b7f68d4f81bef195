-- What is planned and compiled is split so.
use Rattle.std.proofs.Common.{◌∙◌, sym}
use Rattle.merc_prepared.proofs.Compiling.{compiled, sites_behind}
use Rattle.merc_prepared.proofs.preparing.prepare.Goals as goal

pub returns-clause-plan : goal.returns-clause-plan
returns-clause-plan c = c.in_ok-plan.ensures ∙ (c.in_ok-all.ensures.sites ∙ sym (sites_behind c.args.trees.now c.args.goal.now))

pub returns-clause-program : goal.returns-clause-program
returns-clause-program c =
    let split = c.in_ok-all.ensures in
    compiled c.args.predicates.now c.args.trees.now c.args.goal.now c.args.answers c.in_ok-program.field-0 c.in_ok-all.all.module.trees split.trees (c.in_ok-program.ensures _ split.goal)
