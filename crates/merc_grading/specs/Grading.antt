-- The category of a goal, from those that its parts have, and a goal with all categories.
use Rattle.std.specs.Prelude.{ℕ, Bool, true, false, List, [], ◌∷◌, map, Option, Some, None, slice_get, if◌then◌else◌}
use Rattle.merc_base.specs.Category.{most_of}
use Rattle.merc_base.specs.declared.category.Category.{Category}
use Rattle.merc_base.specs.declared.category.Category.TheVariants.{Det, Semidet, Nondet, Erroneous, Failure}
use Rattle.merc_tree.specs.Types.{TypeExpr}
use Rattle.merc_tree.specs.declared.declarations.ModeDecl.{ModeDecl}
use Rattle.merc_tree.specs.declared.declarations.TypeDef.{TypeDef}
use Rattle.merc_goal_tree.specs.declared.goal.Symbol.{Symbol}
use Rattle.merc_graded_tree.specs.declared.basic.BasicGoal.{BasicGoal}
use Rattle.merc_graded_tree.specs.declared.basic.BasicGoal.TheVariants.{True, Fail, Assign, Test, Build, Split, Arithmetic, Compare, Raise, Call, Wait, Signal}
use Rattle.merc_graded_tree.specs.declared.entries.Running.{Running}
use Rattle.merc_graded_tree.specs.declared.entries.Running.TheVariants.{Sequential, Parallel}
use Rattle.merc_graded_tree.specs.Nodes.{Node, node, Goal, Basic, Conjunction, Disjunction, Switch, Conditional, Negation, Quantified, Nodes, no_nodes, more_nodes, Arms, no_arms, more_arms, list_of, category_of}
use Rattle.merc_graded_tree.specs.Roots.{symbols_of, bodies_of}
use Rattle.merc_grading.specs.Categories.{conjunction_category, disjunction_category, switch_category, conditional_category, negation_category, once, is_zero}
use Rattle.merc_grading.specs.Known.{same_symbol, symbols_of_type, are_complete, is_single, Known, known_of, known_behind}

-- A split where the type has one symbol alone or not, by the symbol that is known.
abbrev pub split_category : Bool → Symbol → Option Symbol → Category
split_category single symbol (Some known) = if same_symbol symbol known then Det else Failure
split_category true symbol None = Det
split_category false symbol None = Semidet

-- the category that a mode has declared
abbrev pub declared_in : Option ModeDecl → Category
declared_in None = Nondet
declared_in (Some mode) = mode.category

-- the category that a goal has, where it has one
abbrev pub given : Option Category → Category
given None = Nondet
given (Some category) = category

abbrev pub category_at : Node → Category
category_at whole = given (category_of whole)

abbrev pub categories : List Node → List Category
categories goals = map category_at goals

-- a goal without outputs has at most one solution
abbrev pub capped : List ℕ → Category → Category
capped [] inner = once inner
capped (output ∷ outputs) inner = inner

-- What is known at the next goal of a conjunction. A conjunct of `&` that has no solution hands on no symbol: those to its right run beside it.
abbrev pub handed_on : Running → Category → Known → Known → Known
handed_on Sequential category behind before = behind
handed_on (Parallel site) category behind before = if is_zero (most_of category) then before else behind

-- Given are the declared types, the modes of each predicate, and the type of each variable.
module _ (declared : List TypeDef) (modes : ℕ → List ModeDecl) (types : ℕ → TypeExpr) where
  abbrev pub basic_category : Known → BasicGoal → Category
  basic_category known True = Det
  basic_category known Fail = Failure
  basic_category known (Assign to from) = Det
  basic_category known (Test one other) = Semidet
  basic_category known (Build whole symbol arguments) = Det
  basic_category known (Split whole symbol arguments) = split_category (is_single (symbols_of_type declared (types whole))) symbol (known_of known whole)
  basic_category known (Arithmetic operation result left right) = Det
  basic_category known (Compare comparison left right) = Semidet
  basic_category known (Raise text) = Erroneous
  basic_category known (Call procedure arguments) = declared_in (slice_get (modes procedure.predicate) procedure.mode)
  basic_category known (Wait variable conjunct) = Det
  basic_category known (Signal variable conjunct) = Det

  -- the category of a goal, from the symbols known before it and the categories of its parts
  abbrev pub rule : Known → Goal → Category
  rule known (Basic goal) = basic_category known goal
  rule known (Conjunction running goals) = conjunction_category (categories (list_of goals))
  rule known (Disjunction goals) = disjunction_category (categories (list_of goals))
  rule known (Switch variable arms) = switch_category (are_complete (symbols_of_type declared (types variable)) (symbols_of arms)) (categories (bodies_of arms))
  rule known (Conditional condition then_part else_part) = conditional_category (category_at condition) (category_at then_part) (category_at else_part)
  rule known (Negation goal) = negation_category (category_at goal)
  rule known (Quantified own goal) = category_at goal

  -- a goal of these outputs with its category
  abbrev pub with_category : Known → List ℕ → Goal → Category
  with_category known outputs goal = capped outputs (rule known goal)

  abbrev mutual
    -- a goal with all categories, from the symbols known before it
    pub graded : Known → Node → Node
    graded known (node goal outputs category span) =
        node (graded_goal known goal) outputs (Some (with_category known outputs (graded_goal known goal))) span

    pub graded_goal : Known → Goal → Goal
    graded_goal known (Basic goal) = Basic goal
    graded_goal known (Conjunction running goals) = Conjunction running (graded_all running known goals)
    graded_goal known (Disjunction goals) = Disjunction (graded_each known goals)
    graded_goal known (Switch variable arms) = Switch variable (graded_arms known variable arms)
    graded_goal known (Conditional condition then_part else_part) =
        Conditional (graded known condition) (graded (known_behind condition known) then_part) (graded known else_part)
    graded_goal known (Negation goal) = Negation (graded known goal)
    graded_goal known (Quantified own goal) = Quantified own (graded known goal)

    -- goals one after the other, or beside one another
    pub graded_all : Running → Known → Nodes → Nodes
    graded_all running known no_nodes = no_nodes
    graded_all running known (more_nodes first rest) =
        more_nodes (graded known first) (graded_all running (handed_on running (category_at (graded known first)) (known_behind first known) known) rest)

    -- goals of which each starts from what is known before all
    pub graded_each : Known → Nodes → Nodes
    graded_each known no_nodes = no_nodes
    graded_each known (more_nodes first rest) = more_nodes (graded known first) (graded_each known rest)

    -- arms of a variable, in each of which its symbol is known
    pub graded_arms : Known → ℕ → Arms → Arms
    graded_arms known variable no_arms = no_arms
    graded_arms known variable (more_arms symbol body rest) =
        more_arms symbol (graded ((variable, symbol) ∷ known) body) (graded_arms known variable rest)

-- the category of a goal that has all of them, where nothing is known before
abbrev pub category_from : List TypeDef → (ℕ → List ModeDecl) → (ℕ → TypeExpr) → Node → Category
category_from declared modes types tree = category_at (graded declared modes types [] tree)
