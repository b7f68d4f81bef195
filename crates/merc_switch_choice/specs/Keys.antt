-- Symbols as they are looked up.
use Rattle.merc_goal_tree.specs.declared.goal.Symbol.{Symbol}
use Rattle.merc_goal_tree.specs.declared.goal.Symbol.TheVariants.{Constructor, Integer, Text}
use Rattle.merc_switch_choice.specs.declared.symbols.Key.{Key}
use Rattle.merc_switch_choice.specs.declared.symbols.Key.TheVariants.{Constructor as ConstructorKey, Integer as IntegerKey, Text as TextKey}

abbrev pub symbol_of_key : Key → Symbol
symbol_of_key (ConstructorKey name arity) = Constructor name arity
symbol_of_key (IntegerKey value) = Integer value
symbol_of_key (TextKey text) = Text text
