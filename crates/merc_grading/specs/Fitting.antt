-- When the symbols in ordered goals fit the types of their variables.
use Rattle.std.specs.Prelude.{◌≡◌, ℕ, Bool, false, ◌==◌, ◌&&◌, List, [], ◌∷◌, length, map, Option, None}
use Rattle.std.specs.List.{list_any}
use Rattle.std.specs.Option.{option_map}
use Rattle.merc_tree.specs.Types.{TypeExpr}
use Rattle.merc_tree.specs.declared.declarations.TypeDef.{TypeDef}
use Rattle.merc_goal_tree.specs.declared.goal.Symbol.{Symbol}
use Rattle.merc_goal_tree.specs.declared.goal.Symbol.TheVariants.{Constructor, Integer, Text}
use Rattle.merc_name_resolution.specs.Known.{constructor_in}
use Rattle.merc_graded_tree.specs.declared.basic.BasicGoal.{BasicGoal}
use Rattle.merc_graded_tree.specs.declared.basic.BasicGoal.TheVariants.{Split}
use Rattle.merc_graded_tree.specs.Nodes.{Node, node, Goal, Basic, Conjunction, Disjunction, Switch, Conditional, Negation, Quantified, Nodes, no_nodes, more_nodes, Arms, no_arms, more_arms}
use Rattle.merc_grading.specs.Known.{symbol_of, symbols_of_type}

abbrev pub are_alike : TypeDef → TypeDef → Bool
are_alike one other = (other.name == one.name) && (length other.params == length one.params)

-- Types are told apart by their names and their numbers of parameters.
abbrev pub AreToldApart : List TypeDef → Type 0
AreToldApart [] = Unit {0}
AreToldApart (first ∷ rest) = (list_any (are_alike first) rest ≡ false) × AreToldApart rest

-- all symbols of the type to which a symbol belongs, none where they have no end
abbrev pub fellows : List TypeDef → Symbol → Option (List Symbol)
fellows declared (Constructor name arity) = option_map (λ found. map symbol_of found.0.constructors) (constructor_in declared name arity)
fellows declared (Integer value) = None
fellows declared (Text text) = None

-- Given are the declared types and the type of each variable.
module _ (declared : List TypeDef) (types : ℕ → TypeExpr) where
  -- a variable is of the type to which a symbol belongs
  abbrev pub FitsSymbol : ℕ → Symbol → Type 0
  FitsSymbol variable symbol = symbols_of_type declared (types variable) ≡ fellows declared symbol

  abbrev pub FitsBasic : BasicGoal → Type 0
  FitsBasic (Split whole symbol arguments) = FitsSymbol whole symbol
  FitsBasic other = Unit {0}

  abbrev pub HasArms : Arms → Type 0
  HasArms no_arms = ⊥
  HasArms (more_arms symbol body rest) = Unit {0}

  abbrev mutual
    -- The variables of splits and switches are of the types of their symbols, and each switch has an arm.
    pub Fits : Node → Type 0
    Fits (node goal outputs category span) = FitsGoal goal

    pub FitsGoal : Goal → Type 0
    FitsGoal (Basic goal) = FitsBasic goal
    FitsGoal (Conjunction running goals) = FitsAll goals
    FitsGoal (Disjunction goals) = FitsAll goals
    FitsGoal (Switch variable arms) = HasArms arms × FitsArms variable arms
    FitsGoal (Conditional condition then_part else_part) = Fits condition × Fits then_part × Fits else_part
    FitsGoal (Negation goal) = Fits goal
    FitsGoal (Quantified own goal) = Fits goal

    pub FitsAll : Nodes → Type 0
    FitsAll no_nodes = Unit {0}
    FitsAll (more_nodes first rest) = Fits first × FitsAll rest

    pub FitsArms : ℕ → Arms → Type 0
    FitsArms variable no_arms = Unit {0}
    FitsArms variable (more_arms symbol body rest) = FitsSymbol variable symbol × Fits body × FitsArms variable rest
