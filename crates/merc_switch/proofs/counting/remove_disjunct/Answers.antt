use Rattle.std.proofs.Common.{◌∙◌, ◌-◌, ap}
use Rattle.std.proofs.lemmas.Result.{on_ok_weaker}
use Rattle.merc_switch_choice.specs.Counting.{one_if, count_of}
use Rattle.merc_switch.proofs.counting.remove_disjunct.Goals as goal

pub returns : goal.returns
returns c =
    on_ok_weaker c.remove_each-removed.result (λ put variable. put variable ∙ ap (λ n. count_of c.args.counts.now variable - n) (c.numbers.ensures.once variable ∙ ap one_if (c.in_ok-outputs.ensures variable))) c.remove_each-removed.ensures
