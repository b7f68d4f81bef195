-- The arms of a switch as they are put together.
use Rattle.std.specs.Prelude.{◌≡◌, List, [], ◌∷◌, ◌++◌, map, if◌then◌else◌}
use Rattle.merc_goal_tree.specs.declared.goal.Symbol.{Symbol}
use Rattle.merc_graded_tree.specs.Nodes.{Node}
use Rattle.merc_grading.specs.Known.{same_symbol}
use Rattle.merc_grading.specs.Switches.{Group}

-- the symbols and the disjuncts of these groups
pub record AreArms (symbols : List Symbol) (disjuncts : List (List Node)) (groups : List Group) : Type 0 where
  pub symbols_are : symbols ≡ map (λ group. group.0) groups
  pub groups_are : disjuncts ≡ map (λ group. group.1) groups

-- one disjunct more behind those of its symbol
abbrev pub joined_in : Symbol → Node → List Group → List Group
joined_in symbol disjunct [] = (symbol, disjunct ∷ []) ∷ []
joined_in symbol disjunct (group ∷ groups) =
    if same_symbol symbol group.0 then (group.0, group.1 ++ disjunct ∷ []) ∷ groups else group ∷ joined_in symbol disjunct groups
