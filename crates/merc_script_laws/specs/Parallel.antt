-- What accepted trees have besides being good: outputs are outputs of the parts that bind them, parallel conjuncts are det or erroneous, and there are few of them.
use Rattle.std.specs.Prelude.{◌≡◌, ◌≤◌, ◌⊎◌, ℕ, false, true, List, [], ◌++◌}
use Rattle.merc_tree.specs.declared.declarations.ModeDecl.{ModeDecl}
use Rattle.merc_graded_tree.specs.declared.entries.Running.TheVariants.{Sequential, Parallel}
use Rattle.merc_graded_tree.specs.Nodes.{Node, node, Goal, Basic, Conjunction, Disjunction, Switch, Conditional, Negation, Quantified, Nodes, no_nodes, more_nodes, Arms, no_arms, more_arms, outputs_of}
use Rattle.merc_order.specs.Bound.{among}
use Rattle.merc_grading.specs.Faults.{parallel_faults}
use Rattle.merc_order_laws.specs.GoodTree.{node_ends}
use Rattle.merc_par_split.specs.Sites.{count}

abbrev pub AreWithin : List ℕ → List ℕ → Type 0
AreWithin some all = (variable : ℕ) → among some variable ≡ true → among all variable ≡ true

abbrev pub all_outputs : Nodes → List ℕ
all_outputs no_nodes = []
all_outputs (more_nodes first rest) = outputs_of first ++ all_outputs rest

-- Given are the modes of each predicate.
module _ (modes : ℕ → List ModeDecl) where
  -- an arm has the outputs of the whole, unless its end cannot be reached
  abbrev pub ArmHas : List ℕ → Node → Type 0
  ArmHas outputs arm = (node_ends modes arm ≡ false) ⊎ AreWithin outputs (outputs_of arm)

  abbrev mutual
    -- the outputs of each part of a goal that joins others are outputs of those that it joins
    pub KeepsOutputs : Node → Type 0
    KeepsOutputs (node goal outputs category span) = GoalKeepsOutputs outputs goal

    pub GoalKeepsOutputs : List ℕ → Goal → Type 0
    GoalKeepsOutputs outputs (Basic goal) = Unit {0}
    GoalKeepsOutputs outputs (Conjunction running goals) = AllKeepOutputs goals × AreWithin outputs (all_outputs goals)
    GoalKeepsOutputs outputs (Disjunction goals) = EachKeepsOutputs outputs goals
    GoalKeepsOutputs outputs (Switch variable arms) = ArmsKeepOutputs outputs arms
    GoalKeepsOutputs outputs (Conditional condition then_part else_part) =
        KeepsOutputs condition
        × (KeepsOutputs then_part × ((node_ends modes condition ≡ false) ⊎ ArmHas outputs then_part))
        × (KeepsOutputs else_part × ArmHas outputs else_part)
    GoalKeepsOutputs outputs (Negation goal) = KeepsOutputs goal × (outputs ≡ [])
    GoalKeepsOutputs outputs (Quantified own goal) = KeepsOutputs goal × AreWithin outputs (outputs_of goal)

    pub AllKeepOutputs : Nodes → Type 0
    AllKeepOutputs no_nodes = Unit {0}
    AllKeepOutputs (more_nodes first rest) = KeepsOutputs first × AllKeepOutputs rest

    pub EachKeepsOutputs : List ℕ → Nodes → Type 0
    EachKeepsOutputs outputs no_nodes = Unit {0}
    EachKeepsOutputs outputs (more_nodes first rest) = (KeepsOutputs first × ArmHas outputs first) × EachKeepsOutputs outputs rest

    pub ArmsKeepOutputs : List ℕ → Arms → Type 0
    ArmsKeepOutputs outputs no_arms = Unit {0}
    ArmsKeepOutputs outputs (more_arms symbol body rest) = (KeepsOutputs body × ArmHas outputs body) × ArmsKeepOutputs outputs rest

-- the most conjuncts of a parallel conjunction
abbrev pub most_conjuncts : ℕ
most_conjuncts = 64

abbrev mutual
  -- each parallel conjunction has from one to so many conjuncts
  pub HasFew : Node → Type 0
  HasFew (node goal outputs category span) = GoalHasFew goal

  pub GoalHasFew : Goal → Type 0
  GoalHasFew (Basic goal) = Unit {0}
  GoalHasFew (Conjunction Sequential goals) = AllHaveFew goals
  GoalHasFew (Conjunction (Parallel site) goals) = (1 ≤ count goals) × ((count goals ≤ most_conjuncts) × AllHaveFew goals)
  GoalHasFew (Disjunction goals) = AllHaveFew goals
  GoalHasFew (Switch variable arms) = ArmsHaveFew arms
  GoalHasFew (Conditional condition then_part else_part) = HasFew condition × (HasFew then_part × HasFew else_part)
  GoalHasFew (Negation goal) = HasFew goal
  GoalHasFew (Quantified own goal) = HasFew goal

  pub AllHaveFew : Nodes → Type 0
  AllHaveFew no_nodes = Unit {0}
  AllHaveFew (more_nodes first rest) = HasFew first × AllHaveFew rest

  pub ArmsHaveFew : Arms → Type 0
  ArmsHaveFew no_arms = Unit {0}
  ArmsHaveFew (more_arms symbol body rest) = HasFew body × ArmsHaveFew rest

-- what is needed of a tree besides being good
pub record IsParallelTree (modes : ℕ → List ModeDecl) (tree : Node) : Type 0 where
  pub outputs : KeepsOutputs modes tree
  pub beside : parallel_faults tree ≡ []
  pub few : HasFew tree
