use Rattle.std.proofs.Common.{◌≡◌, drop, reverse, vec_len}
use Rattle.merc_flat_form.specs.Levels.{levels_of, AreLevels}
use Rattle.merc_flat_form.proofs.scope_stack.ScopeStack.leave.Given as goal

abbrev pub invariant-loop-change : goal.invariant-loop-change
invariant-loop-change l = record {
  levels : AreLevels l.self-inside.current (reverse l.self-inside.changes.items);
  below : drop 1 (levels_of (reverse l.self-inside.changes.items)) ≡ drop 1 l.fn.self;
}

abbrev pub decreases-loop-change : goal.decreases-loop-change
decreases-loop-change l = vec_len l.self-inside.changes
