use Rattle.std.proofs.Common.{reverse}
use Rattle.merc_type_table.specs.Table.{type_at}
use Rattle.merc_type_check.specs.Building.{frames_weight, IsUnderWay}
use Rattle.merc_type_check.specs.Progress.{Keeps}
use Rattle.merc_type_check.proofs.checker.Checker.declared.Given as goal

abbrev pub invariant-loop-first : goal.invariant-loop-first
invariant-loop-first l = record {
  way : IsUnderWay l.fn.user l.fn.self l.self l.built l.top (reverse l.below.items) (type_at l.fn.self.graph.table l.fn.number);
  kept : Keeps l.fn.self l.self;
}

abbrev pub decreases-loop-first : goal.decreases-loop-first
decreases-loop-first l = frames_weight l.fn.self.graph.table l.top (reverse l.below.items)
