-- Laws of ordered goals.
use Rattle.std.specs.Prelude.{◌≡◌, ◌⊎◌, ◌<◌, ◌≤◌, ℕ, true, false, ◌||◌, nat_lt, List, length}
use Rattle.std.specs.List.{AllByRecursion}
use Rattle.merc_tree.specs.declared.declarations.ModeDecl.{ModeDecl}
use Rattle.merc_goal_tree.specs.declared.goal.SimpleGoal.{SimpleGoal}
use Rattle.merc_goal_tree.specs.declared.goal.SimpleGoal.TheVariants.{Call}
use Rattle.merc_goal_tree.specs.Nodes.{Node, Nodes, Simple, Conjunction, Parallel, Disjunction, Conditional, Negation, Quantified, no_nodes, more_nodes}
use Rattle.merc_goal_tree.specs.Variables.{variables, count}
use Rattle.merc_graded_tree.specs.Nodes.{Node as OrderedNode, outputs_of}
use Rattle.merc_graded_tree.specs.Variables.{in_node}
use Rattle.merc_order.specs.Bound.{Bound, nothing, among}
use Rattle.merc_order.specs.Order.{from, reached}
use Rattle.merc_order.specs.Ordered.{Ordered, Ready}
use Rattle.merc_order.specs.Procedures.{bound_at, numbers_below, first_fresh, IsProcedure, IsQuery}
use Rattle.merc_order.specs.Spelt.{spelt, twins}
use Rattle.merc_order_laws.specs.Bindings.{Variables}
use Rattle.merc_order_laws.specs.GoodOrdered.{Good}
use Rattle.merc_order_laws.specs.GoodTree.{node_ends, GoodNode}
use Rattle.merc_order_laws.specs.OrderedVariables.{in_ordered, ordered_outputs, ends}
use Rattle.merc_order_laws.specs.MadeOf.{original, IsMadeOf}

-- Each call has as many arguments as each mode of its predicate has places.

abbrev pub SizedSimple : (ℕ → List ModeDecl) → SimpleGoal → Type 0
SizedSimple modes (Call predicate arguments) = AllByRecursion (λ mode. length mode.args ≡ length arguments) (modes predicate)
SizedSimple modes other = Unit {0}

abbrev mutual
  pub Sized : (ℕ → List ModeDecl) → Node → Type 0
  Sized modes (Simple goal span) = SizedSimple modes goal
  Sized modes (Conjunction goals span) = AllSized modes goals
  Sized modes (Parallel goals span) = AllSized modes goals
  Sized modes (Disjunction goals span) = AllSized modes goals
  Sized modes (Conditional condition then_part else_part span) = Sized modes condition × Sized modes then_part × Sized modes else_part
  Sized modes (Negation goal span) = Sized modes goal
  Sized modes (Quantified own goal span) = Sized modes goal

  pub AllSized : (ℕ → List ModeDecl) → Nodes → Type 0
  AllSized modes no_nodes = Unit {0}
  AllSized modes (more_nodes first rest) = Sized modes first × AllSized modes rest

-- Those of these variables occur outside that are counted more often than they stand here.
abbrev pub Outer : (ℕ → ℕ) → Variables → List ℕ → Type 0
Outer total outside inside =
    ((variable : ℕ) → among inside variable ≡ true → outside variable ≡ nat_lt (count variable inside) (total variable))
    × ((variable : ℕ) → count variable inside ≤ total variable)

-- The ordered form of a goal is good.
abbrev pub OrderedIsGood : Type 0
OrderedIsGood = (total : ℕ → ℕ) (modes : ℕ → List ModeDecl) (goal : Node) (bound : Bound) (ordered : Ordered) → Sized modes goal → from total modes goal bound ≡ Ready ordered
    → (outside : Variables) → Outer total outside (variables goal) → Good modes outside bound ordered

-- The same variables occur in it, and its end can be reached where the goal's can.

abbrev pub OrderedKeepsVariables : Type 0
OrderedKeepsVariables = (total : ℕ → ℕ) (modes : ℕ → List ModeDecl) (goal : Node) (bound : Bound) (ordered : Ordered) → Sized modes goal → from total modes goal bound ≡ Ready ordered
    → (variable : ℕ) → in_ordered ordered variable ≡ among (variables goal) variable

abbrev pub OrderedEnds : Type 0
OrderedEnds = (total : ℕ → ℕ) (modes : ℕ → List ModeDecl) (goal : Node) (bound : Bound) (ordered : Ordered) → Sized modes goal → from total modes goal bound ≡ Ready ordered
    → ends modes ordered ≡ reached total modes goal

-- all of these have numbers below this one
abbrev pub AllBelow : ℕ → Variables → Type 0
AllBelow number these = (variable : ℕ) → these variable ≡ true → variable < number

-- A good goal is good with its tests written out, where the fresh variables are behind its own, those that occur outside, and those that are bound.
abbrev pub SpeltIsGood : Type 0
SpeltIsGood = (modes : ℕ → List ModeDecl) (ordered : Ordered) (number : ℕ) (outside : Variables) (bound : Bound) → Good modes outside bound ordered
    → AllBelow number (in_ordered ordered) → AllBelow number outside → AllBelow number bound → GoodNode modes outside bound (spelt modes number ordered)

-- It has the same outputs, its end can be reached where it could before, and of the variables below the fresh ones the same occur in it.

abbrev pub SpeltOutputs : Type 0
SpeltOutputs = (modes : ℕ → List ModeDecl) (ordered : Ordered) (number : ℕ) → outputs_of (spelt modes number ordered) ≡ ordered_outputs ordered

abbrev pub SpeltEnds : Type 0
SpeltEnds = (modes : ℕ → List ModeDecl) (ordered : Ordered) (number : ℕ) → node_ends modes (spelt modes number ordered) ≡ ends modes ordered

abbrev pub SpeltVariables : Type 0
SpeltVariables = (modes : ℕ → List ModeDecl) (ordered : Ordered) (number variable : ℕ) → variable < number → in_node (spelt modes number ordered) variable ≡ in_ordered ordered variable

-- A body has these head variables, and from what is bound all of them are bound at its end, if it can be reached.
abbrev pub BindsHeads : (ℕ → List ModeDecl) → List ℕ → Bound → OrderedNode → Type 0
BindsHeads modes heads bound tree =
    (node_ends modes tree ≡ false) ⊎ ((variable : ℕ) → among heads variable ≡ true → (bound variable || among (outputs_of tree) variable) ≡ true)

-- A predicate's body in a mode is good where its head variables occur outside it and the mode's inputs are bound, and binds its head variables.

abbrev pub ProcedureIsGood : Type 0
ProcedureIsGood = (modes : ℕ → List ModeDecl) (arity : ℕ) (mode : ModeDecl) (goal : Node) (tree : OrderedNode) → Sized modes goal → length mode.args ≡ arity
    → IsProcedure modes arity mode goal tree → GoodNode modes (among (numbers_below arity)) (bound_at mode.args) tree

abbrev pub ProcedureBindsHeads : Type 0
ProcedureBindsHeads = (modes : ℕ → List ModeDecl) (arity : ℕ) (mode : ModeDecl) (goal : Node) (tree : OrderedNode) → Sized modes goal
    → IsProcedure modes arity mode goal tree → BindsHeads modes (numbers_below arity) (bound_at mode.args) tree

-- The same of a goal that is asked, with its answer variables, where nothing is bound.

abbrev pub QueryIsGood : Type 0
QueryIsGood = (modes : ℕ → List ModeDecl) (answers : List ℕ) (goal : Node) (tree : OrderedNode) → Sized modes goal → IsQuery modes answers goal tree → GoodNode modes (among answers) nothing tree

abbrev pub QueryBindsAnswers : Type 0
QueryBindsAnswers = (modes : ℕ → List ModeDecl) (answers : List ℕ) (goal : Node) (tree : OrderedNode) → Sized modes goal → IsQuery modes answers goal tree → BindsHeads modes answers nothing tree

-- An ordered goal with its tests written out is made of the goal as it is written, where each fresh variable is taken for the one that it stands for.
abbrev pub SpeltIsMadeOf : Type 0
SpeltIsMadeOf = (total : ℕ → ℕ) (modes : ℕ → List ModeDecl) (goal : Node) (bound : Bound) (ordered : Ordered) (number : ℕ) → from total modes goal bound ≡ Ready ordered
    → AllBelow number (in_ordered ordered) → IsMadeOf goal (original number (twins ordered)) (spelt modes number ordered)

-- a tree is made of a goal, where variables below this number stand for themselves
abbrev pub IsMadeFrom : ℕ → Node → OrderedNode → Type 0
IsMadeFrom number goal tree = (new : ℕ → ℕ) × ((variable : ℕ) → variable < number → new variable ≡ variable) × IsMadeOf goal new tree

abbrev pub ProcedureIsMadeFrom : Type 0
ProcedureIsMadeFrom = (modes : ℕ → List ModeDecl) (arity : ℕ) (mode : ModeDecl) (goal : Node) (tree : OrderedNode) → Sized modes goal
    → IsProcedure modes arity mode goal tree → IsMadeFrom (first_fresh (numbers_below arity) goal) goal tree

abbrev pub QueryIsMadeFrom : Type 0
QueryIsMadeFrom = (modes : ℕ → List ModeDecl) (answers : List ℕ) (goal : Node) (tree : OrderedNode) → Sized modes goal → IsQuery modes answers goal tree → IsMadeFrom (first_fresh answers goal) goal tree
