-- The parts of a goal, each with what it is at its root and its span, those of the goals that it joins before its own.
use Rattle.std.specs.Prelude.{List, [], ◌∷◌, ◌++◌, length, map}
use Rattle.merc_base.specs.declared.place.Span.{Span}
use Rattle.merc_goal_tree.specs.declared.entries.Entry.{Entry}
use Rattle.merc_goal_tree.specs.declared.entries.Root.{Root}
use Rattle.merc_goal_tree.specs.declared.entries.Root.TheVariants.{Simple as SimpleRoot, Conjunction as ConjunctionRoot, Parallel as ParallelRoot, Disjunction as DisjunctionRoot, Conditional as ConditionalRoot, Negation as NegationRoot, Quantified as QuantifiedRoot}
use Rattle.merc_goal_tree.specs.Nodes.{Node, Nodes, Simple, Conjunction, Parallel, Disjunction, Conditional, Negation, Quantified, no_nodes, more_nodes, list_of}

abbrev mutual
  pub parts_of : Node → List (Root × Span)
  parts_of (Simple goal span) = (SimpleRoot goal, span) ∷ []
  parts_of (Conjunction goals span) = all_parts goals ++ (ConjunctionRoot (length (list_of goals)), span) ∷ []
  parts_of (Parallel goals span) = all_parts goals ++ (ParallelRoot (length (list_of goals)), span) ∷ []
  parts_of (Disjunction goals span) = all_parts goals ++ (DisjunctionRoot (length (list_of goals)), span) ∷ []
  parts_of (Conditional condition then_part else_part span) = parts_of condition ++ parts_of then_part ++ parts_of else_part ++ (ConditionalRoot, span) ∷ []
  parts_of (Negation goal span) = parts_of goal ++ (NegationRoot, span) ∷ []
  parts_of (Quantified variables goal span) = parts_of goal ++ (QuantifiedRoot variables, span) ∷ []

  pub all_parts : Nodes → List (Root × Span)
  all_parts no_nodes = []
  all_parts (more_nodes first rest) = parts_of first ++ all_parts rest

-- the roots and spans of entries, in order
abbrev pub parts_in : List Entry → List (Root × Span)
parts_in entries = map (λ entry. (entry.root, entry.span)) entries
