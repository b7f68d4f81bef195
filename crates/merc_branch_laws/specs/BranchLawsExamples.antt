-- A worked example of what stands at the sites of split trees: `X = 1 & Y = X`, of which Y is asked.
use Rattle.std.specs.Prelude.{◌≡◌, pos, [], ◌∷◌, Some, None, refl}
use Rattle.merc_base.specs.declared.category.Category.TheVariants.{Det}
use Rattle.merc_base.specs.declared.place.Span.{Span}
use Rattle.merc_goal_tree.specs.declared.goal.Symbol.TheVariants.{Integer}
use Rattle.merc_graded_tree.specs.declared.basic.BasicGoal.TheVariants.{Assign, Build}
use Rattle.merc_graded_tree.specs.declared.entries.Running.TheVariants.{Parallel}
use Rattle.merc_graded_tree.specs.Nodes.{Node, node, Basic, Conjunction, no_nodes, more_nodes}
use Rattle.merc_branch_laws.specs.BranchLaws.{split_sites}

abbrev nowhere : Span
nowhere = record { first = 0; past = 0; line = 1 }

abbrev x_is_one : Node
x_is_one = node (Basic (Build 0 (Integer (pos 1)) [])) (0 ∷ []) (Some Det) nowhere

abbrev y_is_x : Node
y_is_x = node (Basic (Assign 1 0)) (1 ∷ []) (Some Det) nowhere

abbrev beside : Node
beside = node (Conjunction (Parallel None) (more_nodes x_is_one (more_nodes y_is_x no_nodes))) (1 ∷ []) (Some Det) nowhere

-- X goes from the first conjunct to the second, and Y from that one to the goals behind them; nothing moves.
split_sites-example : split_sites [] beside
    ≡ record { children = 2; cells = record { variable = 0; producer = 1; consumer = 2 } ∷ record { variable = 1; producer = 2; consumer = 0 } ∷ []; moves = [] } ∷ []
split_sites-example = refl

split_sites-not : split_sites (x_is_one ∷ []) y_is_x ≡ split_sites [] beside → ⊥
split_sites-not without_forks = cc
