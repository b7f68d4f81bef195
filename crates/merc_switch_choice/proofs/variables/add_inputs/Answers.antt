use Rattle.std.proofs.Common.{◌∙◌}
use Rattle.merc_switch_choice.proofs.Inputs.{input_bound, output_unbound}
use Rattle.merc_switch_choice.proofs.variables.add_inputs.Goals as goal
use Rattle.merc_switch_choice.proofs.variables.add_inputs.Goals.{in-Input+in_ok-add-in-Input, in-Output}

pub loop-index-preserved : goal.loop-index-preserved
loop-index-preserved c = λ variable.
    let places = c.args.inputs.now in
    let index = c.loop-index.index in
    elim c.match-place.branch [
      | in-Input+in_ok-add-in-Input w ↦
          input_bound places index w.new.result variable c.loop-index.bound c.match-place.bound c.loop-index-test.true w.in-Input.is w.new.ensures
          (w.bound-is ∙ w.in_ok-add-in-Input.ensures) (c.loop-index.invariant variable)
      | in-Output w ↦ output_unbound places index variable c.loop-index.bound c.match-place.bound c.loop-index-test.true w.in-Output.is w.bound-is (c.loop-index.invariant variable)
    ]
