use Rattle.std.proofs.Common.{◌≡◌, ◌≤◌}
use Rattle.merc_type_check.specs.Checked.{head_of}
use Rattle.merc_type_check.specs.Progress.{Knows}
use Rattle.merc_type_check.proofs.Told.{IsTypedUpTo}
use Rattle.merc_type_check.proofs.checking.checked.Given as goal

abbrev pub invariant-loop-index : goal.invariant-loop-index
invariant-loop-index l = record {
  knows : Knows l.checker (IsTypedUpTo l.known (head_of l.known l.fn.predicate) l.goal l.index);
  table : l.declared.table ≡ l.checker.graph.table;
  part : l.checker.part ≤ l.index;
  mode : l.checker.may_wait ≡ l.may_wait;
}
