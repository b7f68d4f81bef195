-- The literals of goals as they are written, and the ordered bodies of a module's procedures.
use Rattle.std.specs.Prelude.{◌≡◌, true, is_some, List, [], ◌∷◌}
use Rattle.std.specs.List.{AllByRecursion}
use Rattle.merc_tree.specs.declared.declarations.Module.{Module}
use Rattle.merc_goal_tree.specs.declared.goal.SimpleGoal.{SimpleGoal}
use Rattle.merc_goal_tree.specs.declared.goal.SimpleGoal.TheVariants.{Shape}
use Rattle.merc_goal_tree.specs.Nodes.{Node}
use Rattle.merc_order.specs.Procedures.{bound_at}
use Rattle.merc_grading.specs.Grading.{category_at}
use Rattle.merc_grading.specs.Faults.{allows, Procedure, Body}
use Rattle.merc_order_laws.specs.WrittenGoals.{simple_goals}
use Rattle.merc_program_laws.specs.GoodPrograms.{FitsArguments}
use Rattle.merc_program_laws.specs.OrderedBodies.{IsOrderedProcedure, finished_body}

-- In a written goal an integer or a text has no arguments, and an integer is one of 64 bits.

abbrev pub WrittenLiteral : SimpleGoal → Type 0
WrittenLiteral (Shape whole symbol arguments) = FitsArguments symbol arguments
WrittenLiteral other = Unit {0}

abbrev pub HasWrittenLiterals : Node → Type 0
HasWrittenLiterals goal = AllByRecursion WrittenLiteral (simple_goals goal)

-- Given is a module.
module _ (known : Module) where
  -- each of these procedures has its ordered body
  abbrev pub AreOrderedProcedures : List Procedure → List Body → Type 0
  AreOrderedProcedures [] [] = Unit {0}
  AreOrderedProcedures [] (body ∷ bodies) = ⊥
  AreOrderedProcedures (procedure ∷ procedures) [] = ⊥
  AreOrderedProcedures (procedure ∷ procedures) (body ∷ bodies) =
      IsOrderedProcedure known procedure.predicate procedure.mode body × AreOrderedProcedures procedures bodies

  abbrev pub finished_for : Procedure → Body → Body
  finished_for procedure body = finished_body known (bound_at procedure.mode.args) body

  -- their bodies with switches and categories
  abbrev pub finished_bodies : List Procedure → List Body → List Body
  finished_bodies [] bodies = []
  finished_bodies (procedure ∷ procedures) [] = []
  finished_bodies (procedure ∷ procedures) (body ∷ bodies) = finished_for procedure body ∷ finished_bodies procedures bodies

  -- The declared categories of procedures of library units allow those of their bodies.
  abbrev pub UnitsAllow : List Procedure → List Body → Type 0
  UnitsAllow [] bodies = Unit {0}
  UnitsAllow (procedure ∷ procedures) [] = Unit {0}
  UnitsAllow (procedure ∷ procedures) (body ∷ bodies) =
      (is_some procedure.predicate.unit ≡ true → allows procedure.mode.category (category_at (finished_for procedure body).tree) ≡ true) × UnitsAllow procedures bodies
