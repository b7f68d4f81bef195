-- The category of goals that are joined, one by one from the last.
use Rattle.std.specs.Prelude.{List, Option, Some, None}
use Rattle.merc_base.specs.declared.category.Category.{Category}
use Rattle.merc_base.specs.declared.category.Category.TheVariants.{Nondet}
use Rattle.merc_graded_tree.specs.Nodes.{Node}
use Rattle.merc_grading.specs.Categories.{conjunction_category, disjunction_category, arms_category}
use Rattle.merc_grading.specs.Grading.{category_at}
use Rattle.merc_det.specs.declared.folding.Joint.{Joint}
use Rattle.merc_det.specs.declared.folding.Joint.TheVariants.{InTurn, Choice, Arms}

-- the category of goals that are joined so, from theirs
abbrev pub joined_category : Joint → List Category → Category
joined_category InTurn categories = conjunction_category categories
joined_category Choice categories = disjunction_category categories
joined_category Arms categories = arms_category categories

-- the category of a goal that is found
abbrev pub category_in : Option Node → Category
category_in None = Nondet
category_in (Some found) = category_at found
