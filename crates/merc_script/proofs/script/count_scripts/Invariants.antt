-- The items that are left stand before those that are read, which are so many scripts.
use Rattle.std.proofs.Common.{◌≡◌, ◌++◌, ◌≤◌, List, length}
use Rattle.std.specs.Prelude.{Some}
use Rattle.merc_script.specs.declared.items.Item.{Item}
use Rattle.merc_script.specs.Counting.{count_in}
use Rattle.merc_script.proofs.script.count_scripts.Given as goal

abbrev pub invariant-loop-rest : goal.invariant-loop-rest
invariant-loop-rest l = record {
  read : List Item;
  whole : l.rest ++ read ≡ l.items;
  scripts : count_in read ≡ Some l.count;
  few : l.count ≤ length read;
}

abbrev pub decreases-loop-rest : goal.decreases-loop-rest
decreases-loop-rest l = length l.rest
