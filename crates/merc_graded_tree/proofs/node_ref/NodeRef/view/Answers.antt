-- A goal's root and the goals that it joins make the goal.
use Rattle.std.proofs.Common.{◌≡◌, List, ap, sym, ◌∙◌}
use Rattle.merc_graded_tree.specs.declared.entries.Root.{Root}
use Rattle.merc_graded_tree.specs.declared.entries.Root.TheVariants.{Conjunction as ConjunctionRoot, Disjunction as DisjunctionRoot, Switch as SwitchRoot}
use Rattle.merc_graded_tree.specs.Nodes.{Node, Goal, goal_of}
use Rattle.merc_graded_tree.specs.Roots.{root_of, goals_in, joining}
use Rattle.merc_graded_tree.specs.RootLaws.{joining_is}
use Rattle.merc_graded_tree.proofs.node_ref.NodeRef.view.Goals as goal

made_of : (whole : Goal) (root : Root) (goals : List Node) → root ≡ root_of whole → goals ≡ goals_in whole → joining root goals ≡ whole
made_of whole root goals same_root same_goals =
    ap (λ r. joining r goals) same_root ∙ ap (joining (root_of whole)) same_goals ∙ joining_is whole

pub returns-in-Conjunction : goal.returns-in-Conjunction
returns-in-Conjunction c =
    made_of (goal_of c.args.self.now) (ConjunctionRoot c.in-Conjunction.running c.in-Conjunction.field-1) c.goals-goals.result (sym c.in-Conjunction.is ∙ ap (λ l. l.root) c.label.ensures) c.goals-goals.ensures

pub returns-in-Disjunction : goal.returns-in-Disjunction
returns-in-Disjunction c =
    made_of (goal_of c.args.self.now) (DisjunctionRoot c.in-Disjunction.field-0) c.goals-goals.result (sym c.in-Disjunction.is ∙ ap (λ l. l.root) c.label.ensures) c.goals-goals.ensures

pub returns-in-Switch : goal.returns-in-Switch
returns-in-Switch c =
    made_of (goal_of c.args.self.now) (SwitchRoot c.in-Switch.variable c.in-Switch.symbols) c.goals-goals.result (sym c.in-Switch.is ∙ ap (λ l. l.root) c.label.ensures) c.goals-goals.ensures
