use Rattle.std.proofs.Common.{◌≡◌, length}
use Rattle.std.specs.List.{list_any}
use Rattle.merc_tree.specs.Postfix.{shapes_of}
use Rattle.merc_tree.specs.Shape.{arguments_of}
use Rattle.merc_item_forms.specs.Forms.{argument_type}
use Rattle.merc_declared.specs.declared.known_types.Variables.TheVariants.{Any}
use Rattle.merc_declared.specs.KnownTypes.{is_wrong_shape}
use Rattle.merc_declared.proofs.known_types.KnownTypes.has_wrong_argument.Given as goal

abbrev pub invariant-loop-argument : goal.invariant-loop-argument
invariant-loop-argument l =
    list_any (λ argument. list_any (is_wrong_shape l.names l.self Any) (shapes_of (argument_type argument))) l.rest
    ≡ list_any (λ argument. list_any (is_wrong_shape l.names l.self Any) (shapes_of (argument_type argument))) (arguments_of l.head)

abbrev pub decreases-loop-argument : goal.decreases-loop-argument
decreases-loop-argument l = length l.rest
