use Rattle.std.proofs.Common.{◌≡◌, drop}
use Rattle.merc_switch_choice.specs.Variables.{all_behind}
use Rattle.merc_switch_choice.proofs.variables.VarSet.add_both.Given as goal

abbrev pub invariant-loop-number : goal.invariant-loop-number
invariant-loop-number l = all_behind l.self (drop l.number-index l.number-items) ≡ all_behind l.fn.self l.others
