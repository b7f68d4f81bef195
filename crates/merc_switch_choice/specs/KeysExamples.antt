-- A few symbols as they are looked up.
use Rattle.std.specs.Prelude.{◌≡◌, pos, refl}
use Rattle.merc_goal_tree.specs.declared.goal.Symbol.TheVariants.{Integer, Text}
use Rattle.merc_grading.specs.GradingExamples.{red}
use Rattle.merc_switch_choice.specs.declared.symbols.Key.TheVariants.{Constructor as ConstructorKey, Integer as IntegerKey, Text as TextKey}
use Rattle.merc_switch_choice.specs.Keys.{symbol_of_key}

constructor : symbol_of_key (ConstructorKey 51 0) ≡ red
constructor = refl

integer : symbol_of_key (IntegerKey (pos 60)) ≡ Integer (pos 60)
integer = refl

text : symbol_of_key (TextKey 60) ≡ Text 60
text = refl

text_is_no_integer : symbol_of_key (TextKey 60) ≡ Integer (pos 60) → ⊥
text_is_no_integer wrong = cc
