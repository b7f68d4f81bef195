use Rattle.std.proofs.Common.{◌∙◌, [], ap}
use Rattle.merc_graded_tree.specs.Nodes.{outputs_of}
use Rattle.merc_order.specs.Bound.{among}
use Rattle.merc_switch_choice.specs.Variables.{all_behind}
use Rattle.merc_switch_choice.proofs.Members.{among-all_behind}
use Rattle.merc_switch.proofs.whole.Whole.has_output.Goals as goal

pub returns : goal.returns
returns c =
    let variable = c.args.variable in
    c.contains.ensures ∙ ap (λ l. among l variable) (c.deref.ensures ∙ c.self.invariant ∙ ap (λ w. all_behind [] (outputs_of w)) c.self.view_is) ∙ among-all_behind [] (outputs_of c.args.self.now) variable
