-- Those of the variables so far are put behind the others.
use Rattle.std.proofs.Common.{◌≡◌, ◌++◌, take}
use Rattle.merc_store.specs.Frozen.{held_variables, held_words}
use Rattle.merc_store.proofs.freezing.add_all.Given as goal

abbrev pub invariant-loop-variable : goal.invariant-loop-variable
invariant-loop-variable l = record {
  variables : l.held.items ≡ l.fn.held.items ++ held_variables l.frames.stacks.current (take l.variable-index l.variables);
  words : l.words.items ≡ l.fn.words.items ++ held_words l.frames.stacks.current (take l.variable-index l.variables);
}
