-- That an accepted module becomes a good program, and an accepted goal over it a good one.
use Rattle.std.specs.Prelude.{ℕ, List}
use Rattle.std.specs.List.{IsDistinct}
use Rattle.std.specs.Str.{bytes_eq}
use Rattle.merc_base.specs.Names.{HoldsFixed}
use Rattle.merc_tree.specs.Term.{Term}
use Rattle.merc_tree.specs.declared.declarations.Module.{Module}
use Rattle.merc_check.specs.Accepted.{query_answers}
use Rattle.merc_check.specs.Checked.{IsAccepted, IsGoal}
use Rattle.merc_program_laws.specs.ModuleLaws.{BecomesGood, BecomesGoodQuery}

-- A text that is accepted as a module becomes a good program. The table of names is as each is: the constants come first, and each text stands once.
abbrev pub AcceptedBecomesGood : Type 0
AcceptedBecomesGood = (before after : List (List ℕ)) (text : List ℕ) (items : List Term) (found : Module)
    → HoldsFixed before → IsDistinct bytes_eq before → IsAccepted before after text items found → BecomesGood after found

-- A text that is accepted as a goal over such a module becomes a good one.
abbrev pub AcceptedGoalBecomesGood : Type 0
AcceptedGoalBecomesGood = (before read after : List (List ℕ)) (text goal_text : List ℕ) (items : List Term) (found : Module) (goal : Term)
    → IsAccepted before read text items found → IsGoal read after found goal_text goal → BecomesGoodQuery after found (query_answers after found goal) goal
