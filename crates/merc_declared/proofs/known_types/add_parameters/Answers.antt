use Rattle.std.specs.Ordering.{nat_cmp}
use Rattle.std.specs.List.{list_any}
use Rattle.std.specs.BTreeSet.{contains}
use Rattle.merc_tree.specs.Shape.{arguments_of}
use Rattle.merc_item_forms.specs.Forms.{is_this_variable}
use Rattle.merc_declared.proofs.TypeLaws.{variable-step}
use Rattle.merc_declared.proofs.known_types.add_parameters.Goals as goal

pub loop-argument-preserved-in_ok-insert : goal.loop-argument-preserved-in_ok-insert
loop-argument-preserved-in_ok-insert c = λ name.
    variable-step name c.in-Variable.name c.in-Some.argument c.take_last.new.self c.loop-argument.rest
    (contains nat_cmp c.loop-argument.parameters name) (contains nat_cmp c.insert.new.self name) (list_any (is_this_variable name) (arguments_of c.args.head.now))
    c.in-Variable.ensures c.in-Some.ensures (c.in_ok-insert.ensures.updates.0 name) (c.loop-argument.invariant name)
