use Rattle.std.proofs.Common.{◌∙◌, ap}
use Rattle.std.specs.Prelude.{nat_lt}
use Rattle.std.specs.List.{filter}
use Rattle.std.proofs.lemmas.Result.{IfOk-weaker}
use Rattle.merc_graded_tree.specs.Nodes.{outputs_of}
use Rattle.merc_switch_choice.specs.Counting.{count_of}
use Rattle.merc_switch.proofs.OutputCounts.{kept_among, kept_counted}
use Rattle.merc_switch.proofs.counting.outputs_counted.Goals as goal

pub returns-then-len-outputs : goal.returns-then-len-outputs
returns-then-len-outputs c =
    let counts = c.args.counts.now in
    let outputs = outputs_of c.args.whole.now in
    IfOk-weaker c.outputs_among-kept.result _ _ (λ kept is disjuncts counted. kept_counted outputs counts disjuncts kept counted (kept_among outputs counts c.in_ok-variables.variables kept c.in_ok-variables.ensures is))
    c.outputs_among-kept.ensures

pub returns : goal.returns
returns c =
    let counts = c.args.counts.now in
    IfOk-weaker c.those_counted.result _ _
    (λ kept is disjuncts counted. kept_counted (outputs_of c.args.whole.now) counts disjuncts kept counted (is ∙ ap (λ l. filter (λ v. nat_lt 0 (count_of counts v)) l) c.outputs-outputs.ensures))
    c.those_counted.ensures
