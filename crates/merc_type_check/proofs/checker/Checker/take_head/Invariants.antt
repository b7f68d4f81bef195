use Rattle.std.proofs.Common.{◌≡◌, map, take}
use Rattle.merc_tree.specs.declared.declarations.Module.{Module}
use Rattle.merc_type_table.specs.Table.{type_at}
use Rattle.merc_type_check.specs.Progress.{IsSound, Step}
use Rattle.merc_type_check.specs.Typing.{AreArguments}
use Rattle.merc_type_check.proofs.checker.Checker.take_head.Given as goal

abbrev pub invariant-loop-index : goal.invariant-loop-index
invariant-loop-index l = record {
  sound : IsSound l.self;
  table : l.self.graph.table ≡ l.fn.self.graph.table;
  have : (known : Module) → Step l.fn.self l.self (λ types instance. AreArguments known types 0 (take l.index (map (type_at l.fn.self.graph.table) l.numbers)));
}
