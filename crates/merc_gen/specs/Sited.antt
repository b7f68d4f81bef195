-- Goals that fork at each of their sites the conjuncts that stand at it.
use Rattle.std.specs.Prelude.{◌≡◌, Option, Some, None}
use Rattle.merc_graded_tree.specs.declared.basic.Procedure.{Procedure}
use Rattle.merc_graded_tree.specs.declared.entries.Running.TheVariants.{Sequential, Parallel}
use Rattle.merc_graded_tree.specs.Nodes.{Node, node, Goal, Basic, Conjunction, Disjunction, Switch, Conditional, Negation, Quantified, Nodes, no_nodes, more_nodes, Arms, no_arms, more_arms}
use Rattle.merc_meaning.specs.Runs.{Program, ProcedureBody}
use Rattle.merc_gen.specs.Sites.{Sites}

-- Given is what stands at the sites.
module _ (sites : Sites) where
  abbrev mutual
    pub IsSitedGoal : Goal → Type 0
    IsSitedGoal (Basic goal) = Unit {0}
    IsSitedGoal (Conjunction Sequential goals) = AreSited goals
    IsSitedGoal (Conjunction (Parallel None) goals) = AreSited goals
    IsSitedGoal (Conjunction (Parallel (Some site)) goals) = (sites site.number ≡ goals) × AreSited goals
    IsSitedGoal (Disjunction goals) = AreSited goals
    IsSitedGoal (Switch variable arms) = AreSitedArms arms
    IsSitedGoal (Conditional condition then_part else_part) = IsSited condition × IsSited then_part × IsSited else_part
    IsSitedGoal (Negation goal) = IsSited goal
    IsSitedGoal (Quantified own goal) = IsSited goal

    pub IsSited : Node → Type 0
    IsSited (node goal outputs category span) = IsSitedGoal goal

    pub AreSited : Nodes → Type 0
    AreSited no_nodes = Unit {0}
    AreSited (more_nodes first rest) = IsSited first × AreSited rest

    pub AreSitedArms : Arms → Type 0
    AreSitedArms no_arms = Unit {0}
    AreSitedArms (more_arms symbol body rest) = IsSited body × AreSitedArms rest

  abbrev pub IsSitedBody : Option ProcedureBody → Type 0
  IsSitedBody None = Unit {0}
  IsSitedBody (Some procedure) = IsSited procedure.body

  pub record IsSitedProgram (program : Program) : Type 0 where
    pub bodies : (procedure : Procedure) → IsSitedBody (program procedure)
