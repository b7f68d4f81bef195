use Rattle.std.proofs.Common.{◌+◌, ◌-◌, ◌∙◌, ℕ, ap}
use Rattle.std.proofs.lemmas.Result.{on_ok_weaker}
use Rattle.merc_graded_tree.specs.Nodes.{outputs_of}
use Rattle.merc_switch_choice.specs.Counting.{count_of, all_counting}
use Rattle.merc_switch.specs.Selections.{has_output}
use Rattle.merc_switch.proofs.OutputCounts.{one_left, behind_index}
use Rattle.merc_switch.proofs.handing.remove_others.Goals as goal

pub returns : goal.returns
returns c =
    let groups = c.args.groups.now in
    let index = c.args.index in
    let test = λ (variable : ℕ). has_output (outputs_of c.args.whole.now) variable in
    let between = c.remove_groups.new.counts in
    on_ok_weaker c.remove_groups-2.result
    (λ taken variable. one_left groups index (test variable) (count_of c.args.counts.now variable) (count_of between variable) (count_of c.remove_groups-2.new.counts variable) c.requires.within (c.requires.counts variable)
    (c.in_ok-remove_groups.ensures variable) (taken variable ∙ ap (λ l. count_of between variable - all_counting (test variable) l) (behind_index groups (index + 1)))) c.remove_groups-2.ensures
