use Rattle.std.proofs.Common.{length, sym, subst}
use Rattle.std.proofs.lemmas.Result.{on_ok_weaker}
use Rattle.merc_par_split.specs.Tasks.{AllLie}
use Rattle.merc_par_split.proofs.PerformLaws.{first_lies, first_enough, first_performed}
use Rattle.merc_par_split.proofs.splitting.split.Goals as goal

pub perform_all-requires-clause-lie : goal.perform_all-requires-clause-lie
perform_all-requires-clause-lie c =
    subst (λ whole. AllLie whole c.in_ok-tasks.tasks) (sym c.in_ok-occurrences.ensures) (first_lies c.args.goal.now c.in_ok-tasks.tasks c.in_ok-tasks.ensures)

pub perform_all-requires-clause-enough : goal.perform_all-requires-clause-enough
perform_all-requires-clause-enough c = first_enough c.args.goal.now c.in_ok-tasks.tasks (length c.args.nodes.now) c.in_ok-tasks.ensures

pub returns-clause-tree : goal.returns-clause-tree
returns-clause-tree c =
    on_ok_weaker c.perform_all.result (λ done. (first_performed c.args.goal.now c.in_ok-tasks.tasks c.args.nodes.now c.perform_all.new.nodes c.args.sites.now.items c.perform_all.new.sites.items
    c.in_ok-tasks.ensures done).0) c.perform_all.ensures

pub returns-clause-sites : goal.returns-clause-sites
returns-clause-sites c =
    on_ok_weaker c.perform_all.result (λ done. (first_performed c.args.goal.now c.in_ok-tasks.tasks c.args.nodes.now c.perform_all.new.nodes c.args.sites.now.items c.perform_all.new.sites.items
    c.in_ok-tasks.ensures done).1) c.perform_all.ensures
