-- What is known of several disjuncts together.
use Rattle.std.specs.Prelude.{◌≡◌, ℕ, List}
use Rattle.std.specs.List.{AllByRecursion}
use Rattle.merc_graded_tree.specs.Nodes.{Node}
use Rattle.merc_switch_choice.specs.declared.summary.Summary.{Summary}
use Rattle.merc_switch_choice.specs.Counting.{count_of, all_splitting, Counts}
use Rattle.merc_switch_choice.specs.Gaps.{AreGaps}

-- the counts and the gaps are those of the disjuncts
pub record Describes (summary : Summary) (disjuncts : List Node) : Type 0 where
  pub counts_are : Counts summary.counts disjuncts
  pub gaps_are : AreGaps summary.gaps disjuncts

-- several lists of disjuncts have the counts together, and each has the gaps
pub record DescribesAll (summary : Summary) (groups : List (List Node)) : Type 0 where
  pub counts_are : (variable : ℕ) → count_of summary.counts variable ≡ all_splitting groups variable
  pub gaps_are : AllByRecursion (AreGaps summary.gaps) groups
