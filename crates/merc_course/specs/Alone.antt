-- Goals that meet nobody: they wait for nothing, hand nothing on, and fork nothing.
use Rattle.std.specs.Prelude.{Option, Some, None}
use Rattle.merc_graded_tree.specs.declared.basic.BasicGoal.{BasicGoal}
use Rattle.merc_graded_tree.specs.declared.basic.BasicGoal.TheVariants.{True, Fail, Assign, Test, Build, Split, Arithmetic, Compare, Raise, Call, Wait, Signal}
use Rattle.merc_graded_tree.specs.declared.basic.Procedure.{Procedure}
use Rattle.merc_graded_tree.specs.declared.entries.Running.{Running}
use Rattle.merc_graded_tree.specs.declared.entries.Running.TheVariants.{Sequential, Parallel}
use Rattle.merc_graded_tree.specs.Nodes.{Node, node, Goal, Basic, Conjunction, Disjunction, Switch, Conditional, Negation, Quantified, Nodes, no_nodes, more_nodes, Arms, no_arms, more_arms}
use Rattle.merc_meaning.specs.Runs.{Program, ProcedureBody}

-- a call meets only those whom its procedure meets
abbrev pub BasicMeetsNobody : BasicGoal → Type 0
BasicMeetsNobody True = Unit {0}
BasicMeetsNobody Fail = Unit {0}
BasicMeetsNobody (Assign to from) = Unit {0}
BasicMeetsNobody (Test one other) = Unit {0}
BasicMeetsNobody (Build whole symbol arguments) = Unit {0}
BasicMeetsNobody (Split whole symbol arguments) = Unit {0}
BasicMeetsNobody (Arithmetic operation result left right) = Unit {0}
BasicMeetsNobody (Compare test left right) = Unit {0}
BasicMeetsNobody (Raise text) = Unit {0}
BasicMeetsNobody (Call procedure arguments) = Unit {0}
BasicMeetsNobody (Wait variable conjunct) = ⊥
BasicMeetsNobody (Signal variable conjunct) = ⊥

-- goals that run side by side without a site are not forked
abbrev pub ForksNothing : Running → Type 0
ForksNothing Sequential = Unit {0}
ForksNothing (Parallel None) = Unit {0}
ForksNothing (Parallel (Some site)) = ⊥

abbrev mutual
  pub GoalMeetsNobody : Goal → Type 0
  GoalMeetsNobody (Basic goal) = BasicMeetsNobody goal
  GoalMeetsNobody (Conjunction running goals) = ForksNothing running × AllMeetNobody goals
  GoalMeetsNobody (Disjunction goals) = AllMeetNobody goals
  GoalMeetsNobody (Switch variable arms) = ArmsMeetNobody arms
  GoalMeetsNobody (Conditional condition then_part else_part) = MeetsNobody condition × MeetsNobody then_part × MeetsNobody else_part
  GoalMeetsNobody (Negation goal) = MeetsNobody goal
  GoalMeetsNobody (Quantified own goal) = MeetsNobody goal

  pub MeetsNobody : Node → Type 0
  MeetsNobody (node goal outputs category span) = GoalMeetsNobody goal

  pub AllMeetNobody : Nodes → Type 0
  AllMeetNobody no_nodes = Unit {0}
  AllMeetNobody (more_nodes first rest) = MeetsNobody first × AllMeetNobody rest

  pub ArmsMeetNobody : Arms → Type 0
  ArmsMeetNobody no_arms = Unit {0}
  ArmsMeetNobody (more_arms symbol body rest) = MeetsNobody body × ArmsMeetNobody rest

abbrev pub BodyMeetsNobody : Option ProcedureBody → Type 0
BodyMeetsNobody None = Unit {0}
BodyMeetsNobody (Some procedure) = MeetsNobody procedure.body

pub record ProgramMeetsNobody (program : Program) : Type 0 where
  pub bodies : (procedure : Procedure) → BodyMeetsNobody (program procedure)
