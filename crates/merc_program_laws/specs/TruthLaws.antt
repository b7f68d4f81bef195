-- What the order of goals keeps of truth.
use Rattle.std.specs.Prelude.{◌↔◌, ℕ, List, length}
use Rattle.merc_tree.specs.declared.declarations.ModeDecl.{ModeDecl}
use Rattle.merc_tree.specs.declared.declarations.PredDecl.{PredDecl}
use Rattle.merc_goal_tree.specs.Nodes.{Node}
use Rattle.merc_graded_tree.specs.declared.basic.Procedure.{Procedure}
use Rattle.merc_graded_tree.specs.Nodes.{Node as OrderedNode}
use Rattle.merc_order.specs.Bound.{among}
use Rattle.merc_order.specs.Procedures.{modes_of, IsProcedure, IsQuery}
use Rattle.merc_meaning.specs.Runs.{Program}
use Rattle.merc_meaning.specs.Truth.{Assignment, IsAssignment, Outside, is_argument, YesCall, NoCall, YesAt, NoAt}
use Rattle.merc_program_laws.specs.Plain.{plain}
use Rattle.merc_program_laws.specs.Programs.{flat_program, IsThere, IsOrderedProgram}

-- A goal of one program is yes, and no, exactly where a goal of another program is, at every stage and for all values.
abbrev pub SameTruth : Program → Program → Outside → OrderedNode → OrderedNode → Type 0
SameTruth program other outside goal tree = (stage : ℕ) (values : Assignment) → IsAssignment values
    → (YesAt program stage outside goal values ↔ YesAt other stage outside tree values) × (NoAt program stage outside goal values ↔ NoAt other stage outside tree values)

-- Ordering keeps truth: of calls, at every stage and for all values,
abbrev pub CallsKeepTruth : Type 0
CallsKeepTruth = (predicates : List PredDecl) (goals : List Node) (program : Program) → IsOrderedProgram predicates goals program
    → (procedure : Procedure) (declared : PredDecl) (goal : Node) (mode : ModeDecl) → IsThere predicates goals procedure declared goal mode
    → (stage : ℕ) (arguments : List ℕ) (values : Assignment)
    → (YesCall (flat_program predicates goals) stage procedure arguments values ↔ YesCall program stage procedure arguments values)
    × (NoCall (flat_program predicates goals) stage procedure arguments values ↔ NoCall program stage procedure arguments values)

-- of the body of each procedure, where its arguments occur outside,
abbrev pub BodiesKeepTruth : Type 0
BodiesKeepTruth = (predicates : List PredDecl) (goals : List Node) (program : Program) → IsOrderedProgram predicates goals program
    → (procedure : Procedure) (declared : PredDecl) (goal : Node) (mode : ModeDecl) → IsThere predicates goals procedure declared goal mode
    → (tree : OrderedNode) → IsProcedure (modes_of predicates) (length declared.args) mode goal tree
    → SameTruth (flat_program predicates goals) program (is_argument mode.args) (plain goal) tree

-- and of a goal that is asked, where the variables of its answer occur outside.
abbrev pub QueriesKeepTruth : Type 0
QueriesKeepTruth = (predicates : List PredDecl) (goals : List Node) (program : Program) → IsOrderedProgram predicates goals program
    → (answers : List ℕ) (goal : Node) (tree : OrderedNode) → IsQuery (modes_of predicates) answers goal tree
    → SameTruth (flat_program predicates goals) program (among answers) (plain goal) tree
