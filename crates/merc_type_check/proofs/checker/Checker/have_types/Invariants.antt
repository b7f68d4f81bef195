use Rattle.std.proofs.Common.{◌≡◌, take}
use Rattle.merc_tree.specs.declared.declarations.Module.{Module}
use Rattle.merc_type_check.specs.Progress.{IsSound, Step}
use Rattle.merc_type_check.specs.Typing.{HaveTypes}
use Rattle.merc_type_check.proofs.checker.Checker.have_types.Given as goal

abbrev pub invariant-loop-index : goal.invariant-loop-index
invariant-loop-index l = record {
  sound : IsSound l.self;
  part : l.self.part ≡ l.fn.self.part;
  table : l.self.graph.table ≡ l.fn.self.graph.table;
  have : (known : Module) → Step l.fn.self l.self (λ types instance. HaveTypes known types (instance l.fn.user) (take l.index l.variables) (take l.index l.declared));
}
