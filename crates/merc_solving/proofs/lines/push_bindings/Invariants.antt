-- The line goes on with the bindings before this one, with a comma and a blank between each two.
use Rattle.std.proofs.Common.{◌≡◌, ◌++◌, take}
use Rattle.merc_value.specs.Block.{root_values}
use Rattle.merc_solving.specs.Lines.{joined}
use Rattle.merc_solving.specs.RunLines.{bindings}
use Rattle.merc_solving.proofs.LineLemmas.{separator_at}
use Rattle.merc_solving.proofs.lines.push_bindings.Given as goal

abbrev pub invariant-loop-variable : goal.invariant-loop-variable
invariant-loop-variable l = record {
  line : l.line ≡ l.fn.line ++ joined (take l.variable-index (bindings l.names l.variables (root_values l.values)));
  separator : l.separator ≡ separator_at l.variable-index;
  root : l.root ≡ l.variable-index;
}
