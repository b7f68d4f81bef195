use Rattle.std.proofs.Common.{◌≡◌, drop}
use Rattle.merc_goal_facts.specs.Bounds.{all_behind}
use Rattle.merc_goal_facts.proofs.finding.put_all.Given as goal

abbrev pub invariant-loop-variable : goal.invariant-loop-variable
invariant-loop-variable l = record {
  same : l.set ≡ l.found;
  found : all_behind l.found (drop l.variable-index l.variables) ≡ all_behind l.fn.found l.variables;
}
