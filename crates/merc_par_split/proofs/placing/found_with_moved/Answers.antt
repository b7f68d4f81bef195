use Rattle.std.proofs.Common.{◌∙◌, ap, subst}
use Rattle.merc_graded_tree.specs.Nodes.{outputs_of}
use Rattle.merc_rights.specs.Members.{Finds}
use Rattle.merc_par_split.specs.declared.tasks.Placing.{Placing}
use Rattle.merc_par_split.proofs.placing.found_with_moved.Goals as goal

pub returns-clause-found : goal.returns-clause-found
returns-clause-found c =
    let goals = c.args.members.now.goals.items in
    let found = c.in_ok-found.found in
    let outputs = c.as_slice-outputs.ensures ∙ c.outputs.ensures ∙ ap (λ (p : Placing). outputs_of p.goal) c.take_signals-signals.ensures.left in
    record {
      own = found;
      finds =
          subst (λ l. Finds goals (outputs_of c.args.placing.now.goal) l found) c.take_signals-signals.ensures.taken
          (subst (λ l. Finds goals l c.take_signals-signals.result found) outputs c.in_ok-found.ensures);
      adds = c.in_ok-put_moved.ensures;
    }
