-- Whether symbols are all those of their type, and symbols that are found by name and number of arguments.
use Rattle.std.specs.Prelude.{◌≡◌, ℕ, ◌==◌, Bool, false, not, List, [], ◌∷◌, length}
use Rattle.merc_base.specs.Groups.{kept}
use Rattle.merc_base.specs.declared.groups.Groups.{Groups}
use Rattle.merc_tree.specs.declared.declarations.TypeDef.{TypeDef}
use Rattle.merc_goal_tree.specs.declared.goal.Symbol.{Symbol}
use Rattle.merc_goal_tree.specs.declared.goal.Symbol.TheVariants.{Constructor}
use Rattle.merc_grading.specs.Fitting.{fellows}
use Rattle.merc_grading.specs.Known.{are_complete, has_symbol}

-- whether symbols are all those of the type to which the first of them belongs
abbrev pub is_complete_by : List TypeDef → List Symbol → Bool
is_complete_by declared [] = false
is_complete_by declared (first ∷ rest) = are_complete (fellows declared first) (first ∷ rest)

-- Of each constructor it is found whether it is among these symbols.
abbrev pub AreKeys : Groups Symbol → List Symbol → Type 0
AreKeys keys symbols = (name arity : ℕ) → not (length (kept keys name arity) == 0) ≡ has_symbol symbols (Constructor name arity)
