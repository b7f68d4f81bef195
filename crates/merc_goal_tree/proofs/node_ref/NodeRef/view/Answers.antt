-- A goal's root and the goals that it joins make the goal.
use Rattle.std.proofs.Common.{◌≡◌, List, ap, sym, ◌∙◌}
use Rattle.merc_goal_tree.specs.declared.entries.Root.{Root}
use Rattle.merc_goal_tree.specs.declared.entries.Root.TheVariants.{Conjunction as ConjunctionRoot, Parallel as ParallelRoot, Disjunction as DisjunctionRoot}
use Rattle.merc_goal_tree.specs.Nodes.{Node, span_of}
use Rattle.merc_goal_tree.specs.Roots.{root_of, goals_of, joining}
use Rattle.merc_goal_tree.specs.RootLaws.{joining_is}
use Rattle.merc_goal_tree.proofs.node_ref.NodeRef.view.Goals as goal

made_of : (node : Node) (root : Root) (goals : List Node) → root ≡ root_of node → goals ≡ goals_of node → joining root (span_of node) goals ≡ node
made_of node root goals same_root same_goals =
    ap (λ r. joining r (span_of node) goals) same_root ∙ ap (joining (root_of node) (span_of node)) same_goals ∙ joining_is node

pub returns-in-Conjunction : goal.returns-in-Conjunction
returns-in-Conjunction c =
    made_of c.args.self.now (ConjunctionRoot c.in-Conjunction.field-0) c.goals-goals.result (sym c.in-Conjunction.is ∙ c.root.ensures) c.goals-goals.ensures

pub returns-in-Parallel : goal.returns-in-Parallel
returns-in-Parallel c = made_of c.args.self.now (ParallelRoot c.in-Parallel.field-0) c.goals-goals.result (sym c.in-Parallel.is ∙ c.root.ensures) c.goals-goals.ensures

pub returns-in-Disjunction : goal.returns-in-Disjunction
returns-in-Disjunction c =
    made_of c.args.self.now (DisjunctionRoot c.in-Disjunction.field-0) c.goals-goals.result (sym c.in-Disjunction.is ∙ c.root.ensures) c.goals-goals.ensures
