use Rattle.std.proofs.Common.{◌≡◌, ℕ, drop}
use Rattle.merc_answer_variables.specs.Statuses.{bound}
use Rattle.merc_answer_variables.specs.Reading.{status}
use Rattle.merc_answer_variables.proofs.variables.Variables.bind.Given as goal

abbrev pub invariant-loop-variable : goal.invariant-loop-variable
invariant-loop-variable l = (q : ℕ) → bound (drop l.variable-index l.variables) q (status l.self q) ≡ bound l.variables q (status l.fn.self q)
