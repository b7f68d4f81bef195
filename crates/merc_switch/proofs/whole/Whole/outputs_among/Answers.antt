use Rattle.std.proofs.Common.{◌≡◌, ◌∙◌, [], ap, sym, length}
use Rattle.std.proofs.lemmas.Result.{IfOk-weaker}
use Rattle.std.specs.List.{filter}
use Rattle.merc_graded_tree.specs.Nodes.{outputs_of}
use Rattle.merc_order.specs.Bound.{among}
use Rattle.merc_switch_choice.specs.Variables.{all_behind}
use Rattle.merc_switch.proofs.OrderedOutputs.{each_once}
use Rattle.merc_switch.proofs.whole.Whole.outputs_among.Goals as goal

pub returns-then-len-outputs-2 : goal.returns-then-len-outputs-2
returns-then-len-outputs-2 c =
    let outputs = outputs_of c.args.self.now in
    let once = c.as_ref-once.result.now in
    let is : once ≡ all_behind [] outputs = c.as_ref-once.ensures ∙ c.self.invariant ∙ ap (λ w. all_behind [] (outputs_of w)) c.self.view_is in
    let size : length once ≡ length outputs = sym c.len-then-len-outputs.ensures ∙ c.if-len-outputs-2.true ∙ ap length c.outputs-outputs.ensures in
    IfOk-weaker c.in_order.result _ _ (λ kept same. same ∙ ap (λ l. filter (λ output. among c.args.variables.now output) l) (each_once outputs once is size)) c.in_order.ensures
