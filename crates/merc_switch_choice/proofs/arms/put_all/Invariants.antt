use Rattle.std.proofs.Common.{◌≡◌}
use Rattle.merc_grading.specs.Switches.{grouped}
use Rattle.merc_switch_choice.specs.Arms.{AreArms}
use Rattle.merc_switch_choice.proofs.arms.put_all.Given as goal

abbrev pub invariant-loop-disjunct : goal.invariant-loop-disjunct
invariant-loop-disjunct l = record {
  arms : AreArms l.symbols.items l.groups.items (grouped l.variable l.yielded);
  places : l.places ≡ l.symbols.items;
}
