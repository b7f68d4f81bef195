-- What is known of the parts of a body before any of them is ordered.
use Rattle.std.specs.Prelude.{◌≡◌, ℕ, Bool, true, List, [], ◌∷◌, ◌++◌, length}
use Rattle.merc_tree.specs.declared.declarations.ModeDecl.{ModeDecl}
use Rattle.merc_goal_tree.specs.Nodes.{Node, Nodes, Simple, Conjunction, Parallel, Disjunction, Conditional, Negation, Quantified, no_nodes, more_nodes}
use Rattle.merc_goal_tree.specs.Variables.{variables, all_variables}
use Rattle.merc_order.specs.Bound.{Bound, among, are_bound}
use Rattle.merc_order.specs.Order.{agree, arms, binds, binds_inside, decision_arms, from, reached}
use Rattle.merc_order.specs.Ordered.{is_ready}
use Rattle.merc_goal_facts.specs.declared.facts.Facts.{Facts}

-- the goals that the parts of a goal are, in the order of the parts
abbrev mutual
  pub subgoals : Node → List Node
  subgoals (Simple goal span) = Simple goal span ∷ []
  subgoals (Conjunction goals span) = all_subgoals goals ++ Conjunction goals span ∷ []
  subgoals (Parallel goals span) = all_subgoals goals ++ Parallel goals span ∷ []
  subgoals (Disjunction goals span) = all_subgoals goals ++ Disjunction goals span ∷ []
  subgoals (Conditional condition then_part else_part span) =
      subgoals condition ++ subgoals then_part ++ subgoals else_part ++ Conditional condition then_part else_part span ∷ []
  subgoals (Negation goal span) = subgoals goal ++ Negation goal span ∷ []
  subgoals (Quantified own goal span) = subgoals goal ++ Quantified own goal span ∷ []

  pub all_subgoals : Nodes → List Node
  all_subgoals no_nodes = []
  all_subgoals (more_nodes first rest) = subgoals first ++ all_subgoals rest

-- Given are how often each variable occurs in the whole, and the modes of each predicate.
module _ (total : ℕ → ℕ) (modes : ℕ → List ModeDecl) where
  -- From what is bound, what a goal binds agrees with what occurs outside: arms bind the same, and a negated goal binds nothing.
  abbrev pub keeps_apart : Node → Bound → Bool
  keeps_apart (Disjunction goals span) bound = agree total modes bound (all_variables goals) (arms total modes goals)
  keeps_apart (Conditional condition then_part else_part span) bound =
      agree total modes bound (variables (Conditional condition then_part else_part span)) (decision_arms total modes condition then_part else_part)
  keeps_apart (Negation goal span) bound = binds_inside total modes bound (variables goal) (variables goal) (binds total modes goal)
  keeps_apart other bound = true

  -- the same of the condition of an if-then-else
  abbrev pub condition_keeps_apart : Node → Bound → Bool
  condition_keeps_apart (Conditional condition then_part else_part span) bound =
      binds_inside total modes bound (variables condition ++ variables then_part) (variables condition) (binds total modes condition)
  condition_keeps_apart other bound = true

  pub record AreFactsOf (goal : Node) (facts : Facts) : Type 0 where
    pub reached_is : facts.reached ≡ reached total modes goal
    pub binds_are : (variable : ℕ) → among facts.binds variable ≡ binds total modes goal variable
    pub owed_are : (bound : Bound) → are_bound bound facts.owed ≡ keeps_apart goal bound
    pub owed_by_condition_are : (bound : Bound) → are_bound bound facts.owed_by_condition ≡ condition_keeps_apart goal bound
    pub needed : (bound : Bound) → is_ready (from total modes goal bound) ≡ true → are_bound bound facts.needs ≡ true
    pub occurrences_are : facts.occurrences ≡ length (variables goal)

  -- facts of each of these goals
  abbrev pub AreKnown : List Node → List Facts → Type 0
  AreKnown [] [] = Unit {0}
  AreKnown [] (found ∷ rest) = ⊥
  AreKnown (part ∷ parts) [] = ⊥
  AreKnown (part ∷ parts) (found ∷ rest) = AreFactsOf part found × AreKnown parts rest
