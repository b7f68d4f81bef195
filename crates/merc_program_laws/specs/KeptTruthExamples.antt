-- Bodies with their switches of the module `p.` and of the goal `true` over it, and programs whose calls are the same or not.
use Rattle.std.specs.Prelude.{◌≡◌, [], ◌∷◌, Some, None, refl}
use Rattle.merc_base.specs.Names.{true_name}
use Rattle.merc_base.specs.declared.category.Category.TheVariants.{Det}
use Rattle.merc_tree.specs.Term.{no_span}
use Rattle.merc_tree.specs.declared.declarations.Arg.TheVariants.{Input, Output}
use Rattle.merc_graded_tree.specs.declared.basic.BasicGoal.{BasicGoal}
use Rattle.merc_graded_tree.specs.declared.basic.BasicGoal.TheVariants.{True, Fail}
use Rattle.merc_graded_tree.specs.Nodes.{Node, node, Basic, Goal, Disjunction, Switch, nodes_of, no_arms, more_arms}
use Rattle.merc_order.specs.Procedures.{bound_at}
use Rattle.merc_grading.specs.Faults.{Body}
use Rattle.merc_grading.specs.GradingExamples.{red, green, c, declared, types}
use Rattle.merc_meaning.specs.Runs.{Program}
use Rattle.merc_program_laws.specs.InstancesExamples.{texts, texts_are_values}
use Rattle.merc_program_laws.specs.ModuleLawsExamples.{body, example, has_body, mode, predicate, tree, word}
use Rattle.merc_program_laws.specs.SwitchExamples.{goal, is}
use Rattle.merc_program_laws.specs.KeptTruth.{AreSwitchedBodies, IsSwitchedBody, SameCalls, switched}

-- `C = red ; C = green` is a switch where C is an input

abbrev with_tree : Goal → Body
with_tree inner = record { types = types; tree = goal inner }

switch : switched declared (bound_at (Input ∷ [])) (with_tree (Disjunction (nodes_of (is red ∷ is green ∷ [])))) ≡ with_tree (Switch c (more_arms red (is red) (more_arms green (is green) no_arms)))
switch = refl

no_switch : switched declared (bound_at (Output ∷ [])) (with_tree (Disjunction (nodes_of (is red ∷ is green ∷ [])))) ≡ with_tree (Disjunction (nodes_of (is red ∷ is green ∷ [])))
no_switch = refl

-- The module and the goal. Without a category the tree is not the one that is kept.

abbrev kept : Node
kept = node (Basic True) [] (Some Det) no_span

module_body : AreSwitchedBodies [] (example None Det) (kept ∷ []) (body ∷ [])
module_body = record { ordered = body ∷ []; have = has_body None Det; switches = refl; categories = refl }

no_category : AreSwitchedBodies [] (example None Det) (tree ∷ []) (body ∷ []) → ⊥
no_category h = cc h.categories

goal_body : IsSwitchedBody [] (example None Det) (word true_name) kept body
goal_body = record { ordered = body; has = record { tree = (_, refl, refl); typed = (tt, tt) }; switches = refl; categories = refl }

no_goal_category : IsSwitchedBody [] (example None Det) (word true_name) tree body → ⊥
no_goal_category h = cc h.categories

-- Programs of one goal.

abbrev always : BasicGoal → Program
always inner procedure = Some (record { places = []; body = node (Basic inner) [] None no_span })

same : SameCalls (example None Det) (always True) (always True)
same procedure _ _ there stage arguments values = ((λ h. h, λ h. h), (λ h. h, λ h. h))

not_same : SameCalls (example None Det) (always True) (always Fail) → ⊥
not_same h =
    let calls = h (record { predicate = 0; mode = 0 }) (predicate None Det) (mode Det) (record { predicate = refl; mode_there = refl }) 1 [] (texts 7) in
    (calls.0.0 (texts 7, texts_are_values 7, tt, ((λ none. none), (texts 7, texts_are_values 7, (λ variable outside. refl), tt)))).3.1.3
