-- The bodies of procedures and of goals that are asked, with types for their variables.
use Rattle.std.specs.Prelude.{ℕ, List, [], ◌∷◌, length}
use Rattle.merc_tree.specs.declared.declarations.Clause.{Clause}
use Rattle.merc_tree.specs.declared.declarations.Module.{Module}
use Rattle.merc_goal_tree.specs.Nodes.{Node}
use Rattle.merc_bodies.specs.Bodies.{body_of}
use Rattle.merc_order.specs.Procedures.{modes_of, IsProcedure, IsQuery}
use Rattle.merc_grading.specs.Faults.{Body, Procedure}
use Rattle.merc_order_laws.specs.TypedTree.{IsTypedTree}

-- Given are a module and the flat form of each clause.
module _ (known : Module) (form : Clause → Node) where
  -- A body of a procedure is its goals in the order in which they run, and types of their variables by which they are typed.
  pub record IsBodyOf (procedure : Procedure) (body : Body) : Type 0 where
    pub tree : IsProcedure (modes_of known.preds) (length procedure.predicate.args) procedure.mode (body_of form known.clauses procedure.predicate) body.tree
    pub typed : IsTypedTree known body.types body.tree

  -- these procedures have these bodies
  abbrev pub AreBodiesOf : List Procedure → List Body → Type 0
  AreBodiesOf [] [] = Unit {0}
  AreBodiesOf [] (body ∷ bodies) = ⊥
  AreBodiesOf (procedure ∷ procedures) [] = ⊥
  AreBodiesOf (procedure ∷ procedures) (body ∷ bodies) = IsBodyOf procedure body × AreBodiesOf procedures bodies

-- a body of a goal that is asked, with these answer variables
pub record IsAskedBody (known : Module) (answers : List ℕ) (goal : Node) (body : Body) : Type 0 where
  pub tree : IsQuery (modes_of known.preds) answers goal body.tree
  pub typed : IsTypedTree known body.types body.tree
