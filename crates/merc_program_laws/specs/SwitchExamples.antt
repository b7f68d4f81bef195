-- Worked examples of switches and truth, over the types and symbols of the examples of categories. The variable 0 is an input.
use Rattle.std.specs.Prelude.{ℕ, List, [], ◌∷◌, Option, Some, None, refl}
use Rattle.std.proofs.Common.{inr}
use Rattle.merc_tree.specs.declared.declarations.Arg.TheVariants.{Input}
use Rattle.merc_tree.specs.declared.declarations.ModeDecl.{ModeDecl}
use Rattle.merc_goal_tree.specs.declared.goal.Symbol.{Symbol}
use Rattle.merc_graded_tree.specs.declared.basic.BasicGoal.TheVariants.{True, Fail, Split}
use Rattle.merc_graded_tree.specs.Nodes.{Node, node, Goal, Basic, Disjunction, Switch, nodes_of, no_arms, more_arms}
use Rattle.merc_order.specs.Bound.{among}
use Rattle.merc_order.specs.Procedures.{bound_at, numbers_below}
use Rattle.merc_order_laws.specs.GoodTree.{GoodNode}
use Rattle.merc_grading.specs.GradingExamples.{at, red, green, c, declared, types}
use Rattle.merc_meaning.specs.Runs.{ProcedureBody}
use Rattle.merc_meaning.specs.Truth.{Outside}
use Rattle.merc_program_laws.specs.Switches.{IsSwitched}

abbrev no_modes : ℕ → List ModeDecl
no_modes predicate = []

abbrev pub goal : Goal → Node
goal inner = node inner [] None (at 20)

abbrev pub is : Symbol → Node
is symbol = goal (Basic (Split c symbol []))

abbrev procedure : Goal → Option ProcedureBody
procedure inner = Some (record { places = Input ∷ []; body = goal inner })

is-good : (outside : Outside) (symbol : Symbol) → GoodNode no_modes outside (bound_at (Input ∷ [])) (is symbol)
is-good outside symbol = (λ variable is_output. absurd cc, tt, (refl, tt, λ variable occurs is_outside. refl))

-- `C = red ; C = green`, and the switch on C
red_or_green : IsSwitched declared no_modes (procedure (Disjunction (nodes_of (is red ∷ is green ∷ [])))) (procedure (Switch c (more_arms red (is red) (more_arms green (is green) no_arms))))
red_or_green = (
  refl,
  (
    λ variable is_output. absurd cc,
    tt,
    (
      (is-good (among (numbers_below 1)) red, (is-good (among (numbers_below 1)) green, tt)),
      (inr (λ variable occurs is_outside. refl), (inr (λ variable occurs is_outside. refl), tt)),
    ),
  ),
  (types, refl),
)

-- a goal without a disjunction stays what it is
as_it_is : IsSwitched declared no_modes (procedure (Basic True)) (procedure (Basic True))
as_it_is = (refl, (λ variable is_output. absurd cc, tt, tt), (types, refl))

no_other : IsSwitched declared no_modes (procedure (Basic True)) (procedure (Basic Fail)) → ⊥
no_other h = let body_is = h.2.1 in cc

no_procedure : IsSwitched declared no_modes (procedure (Basic True)) None → ⊥
no_procedure h = h
