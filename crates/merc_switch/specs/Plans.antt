-- How goals and disjuncts are taken apart into tasks.
use Rattle.std.specs.Prelude.{◌≡◌, ◌≤◌, ℕ, zero, suc, ◌-◌, List, [], ◌∷◌, ◌++◌, length, map, Option, Some, None}
use Rattle.std.specs.List.{AllByRecursion, filter}
use Rattle.merc_goal_tree.specs.declared.goal.Symbol.{Symbol}
use Rattle.merc_graded_tree.specs.declared.entries.Label.{Label}
use Rattle.merc_graded_tree.specs.declared.entries.Root.TheVariants.{Disjunction as DisjunctionRoot, Switch as SwitchRoot}
use Rattle.merc_graded_tree.specs.Nodes.{Node, Goal, Basic, Conjunction, Disjunction, Switch, Conditional, Negation, Quantified, list_of, nodes_of, goal_of, outputs_of, category_of, span_of}
use Rattle.merc_graded_tree.specs.Roots.{label_of}
use Rattle.merc_graded_tree.specs.Variables.{in_nodes}
use Rattle.merc_grading.specs.Switches.{Group as Arm, symbol_at, grouped, split_variables}
use Rattle.merc_switch.specs.declared.tasks.Group.{Group}
use Rattle.merc_switch.specs.declared.tasks.Task.{Task}
use Rattle.merc_switch.specs.declared.tasks.Task.TheVariants.{Find, Keep, Bind, Unbind, Judge, Close}
use Rattle.merc_switch_choice.specs.Variables.{behind, all_behind}

-- goals one after the other, behind which no more is bound than before them
abbrev pub in_turn : ℕ → List Node → List Task
in_turn mark [] = Unbind mark ∷ []
in_turn mark (first ∷ rest) = Find first ∷ Bind first ∷ in_turn mark rest

-- a condition with its then part and its else part
abbrev pub decided : ℕ → Label → Node → Node → Node → List Task
decided mark label condition then_part else_part = Find condition ∷ Bind condition ∷ Find then_part ∷ Unbind mark ∷ Find else_part ∷ Close label ∷ []

-- the disjuncts of a disjunction
abbrev pub disjoined : Node → List Node → Task
disjoined whole disjuncts =
    Judge (record { selected = record { whole = whole; disjuncts = disjuncts }; used = []; left = length (split_variables disjuncts); outputs = outputs_of whole; category = category_of whole })

abbrev pub plan_of : ℕ → Node → Goal → List Task
plan_of mark whole (Basic goal) = Keep whole ∷ []
plan_of mark whole (Conjunction running goals) = in_turn mark (list_of goals) ++ Close (label_of whole) ∷ []
plan_of mark whole (Disjunction goals) = disjoined whole (list_of goals) ∷ []
plan_of mark whole (Switch variable arms) = Keep whole ∷ []
plan_of mark whole (Conditional condition then_part else_part) = decided mark (label_of whole) condition then_part else_part
plan_of mark whole (Negation goal) = Find goal ∷ Close (label_of whole) ∷ []
plan_of mark whole (Quantified own goal) = Find goal ∷ Close (label_of whole) ∷ []

-- a goal, where so many variables are bound
abbrev pub plan : ℕ → Node → List Task
plan mark whole = plan_of mark whole (goal_of whole)

abbrev pub finds : List Node → List Task
finds goals = map (λ goal. Find goal) goals

-- disjuncts as a disjunction
abbrev pub disjunction_plan : Group → List Task
disjunction_plan group =
    finds group.selected.disjuncts
    ++ Close (record { root = DisjunctionRoot (length group.selected.disjuncts); outputs = group.outputs; category = group.category; span = span_of group.selected.whole }) ∷ []

-- What an arm becomes, of a switch on a variable. One disjunct is the arm itself; several have come together by one more variable, and have the outputs of
-- the whole that occur in them.
abbrev pub arm_plan : Node → List ℕ → ℕ → ℕ → List Node → Task
arm_plan whole used left variable (only ∷ []) = Find only
arm_plan whole used left variable disjuncts = Judge (record {
  selected = record { whole = whole; disjuncts = disjuncts };
  used = behind (all_behind [] used) variable;
  left = left - 1;
  outputs = filter (λ output. in_nodes (nodes_of disjuncts) output) (outputs_of whole);
  category = None;
})

abbrev pub arm_plans : ℕ → Group → List Arm → List Task
arm_plans variable group arms = map (λ arm. arm_plan group.selected.whole group.used group.left variable arm.1) arms

-- disjuncts as a switch on a variable
abbrev pub switch_plan : ℕ → Group → List Task
switch_plan variable group =
    arm_plans variable group (grouped variable group.selected.disjuncts)
    ++ Close (record {
      root = SwitchRoot variable (map (λ arm. arm.0) (grouped variable group.selected.disjuncts));
      outputs = group.outputs;
      category = group.category;
      span = span_of group.selected.whole;
    }) ∷ []

-- disjuncts that have this choice
abbrev pub group_plan : Option ℕ → Group → List Task
group_plan None group = disjunction_plan group
group_plan (Some variable) group = switch_plan variable group

-- they have none where they can come together no more
abbrev pub choice_left : ℕ → Option ℕ → Option ℕ
choice_left zero choice = None
choice_left (suc left) choice = choice

-- the group of all disjuncts in one arm of a switch on a variable
abbrev pub inner_group : ℕ → Group → Group
inner_group variable group = record {
  selected = group.selected;
  used = behind group.used variable;
  left = group.left - 1;
  outputs = filter (λ output. in_nodes (nodes_of group.selected.disjuncts) output) (outputs_of group.selected.whole);
  category = None;
}

-- the switch of that one arm, whose goal comes before it
abbrev pub outer_label : ℕ → Symbol → Group → Label
outer_label variable symbol group = record { root = SwitchRoot variable (symbol ∷ []); outputs = group.outputs; category = group.category; span = span_of group.selected.whole }

-- the outputs of a group are those of the whole that occur in its disjuncts
abbrev pub AreNarrowed : Group → Type 0
AreNarrowed group = group.outputs ≡ filter (λ output. in_nodes (nodes_of group.selected.disjuncts) output) (outputs_of group.selected.whole)

-- there are several disjuncts, and all split a variable by one symbol
pub record HaveSymbol (variable : ℕ) (symbol : Symbol) (disjuncts : List Node) : Type 0 where
  pub several : 2 ≤ length disjuncts
  pub symbols_are : AllByRecursion (λ disjunct. symbol_at variable disjunct ≡ Some symbol) disjuncts
