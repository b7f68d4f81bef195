use Rattle.std.proofs.Common.{reverse, drop}
use Rattle.merc_goals.specs.Entries.{goals_in}
use Rattle.merc_value.specs.Text.{is_blank}
use Rattle.merc_scopes.specs.Bindings.{AreBindings}
use Rattle.merc_scopes.specs.Standing.{Stands}
use Rattle.merc_scopes.proofs.introducing.bindings.Given as goal

abbrev pub invariant-loop-index : goal.invariant-loop-index
invariant-loop-index l = record {
  stands : Stands (is_blank l.names) l.stack.items (goals_in (drop l.index l.entries));
  found : AreBindings (is_blank l.names) (drop l.index l.entries) (reverse l.lists.items);
}
