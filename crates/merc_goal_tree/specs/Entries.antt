-- How goals lie in a list of entries: the goals that are joined one after the other, then the root that joins them.
use Rattle.std.specs.Prelude.{◌≡◌, ℕ, suc, ◌+◌, List, [], ◌∷◌, ◌++◌, length}
use Rattle.merc_base.specs.declared.place.Span.{Span}
use Rattle.merc_goal_tree.specs.declared.entries.Entry.{Entry}
use Rattle.merc_goal_tree.specs.declared.entries.Root.{Root}
use Rattle.merc_goal_tree.specs.Nodes.{Node, Nodes, Simple, Conjunction, Parallel, Disjunction, Conditional, Negation, Quantified, no_nodes, more_nodes}
use Rattle.merc_goal_tree.specs.Roots.{root_of, goal_at, joined}

-- what goals become where entries are read behind them
abbrev pub built : List Entry → List Node → List Node
built [] goals = goals
built (entry ∷ entries) goals = built entries (joined entry.root entry.span goals)

-- the goal that entries stand for
abbrev pub node_of : List Entry → Node
node_of entries = goal_at (built entries []) 0

-- a root behind the entries of the goals that it joins
abbrev pub closed : Root → Span → List Entry → List Entry
closed root span inner = inner ++ record { root = root; span = span; size = suc (length inner) } ∷ []

-- the entries of a goal, and of goals
abbrev mutual
  pub entries_of : Node → List Entry
  entries_of (Simple goal span) = closed (root_of (Simple goal span)) span []
  entries_of (Conjunction goals span) = closed (root_of (Conjunction goals span)) span (joined_entries goals)
  entries_of (Parallel goals span) = closed (root_of (Parallel goals span)) span (joined_entries goals)
  entries_of (Disjunction goals span) = closed (root_of (Disjunction goals span)) span (joined_entries goals)
  entries_of (Conditional condition then_part else_part span) =
      closed (root_of (Conditional condition then_part else_part span)) span (entries_of condition ++ (entries_of then_part ++ (entries_of else_part ++ [])))
  entries_of (Negation goal span) = closed (root_of (Negation goal span)) span (entries_of goal ++ [])
  entries_of (Quantified variables goal span) = closed (root_of (Quantified variables goal span)) span (entries_of goal ++ [])

  pub joined_entries : Nodes → List Entry
  joined_entries no_nodes = []
  joined_entries (more_nodes first rest) = entries_of first ++ joined_entries rest

abbrev pub all_entries : List Node → List Entry
all_entries [] = []
all_entries (first ∷ rest) = entries_of first ++ all_entries rest

-- where each goal's entries start, from this index on
abbrev pub starts_from : ℕ → List Node → List ℕ
starts_from start [] = []
starts_from start (first ∷ rest) = start ∷ starts_from (start + length (entries_of first)) rest

-- Entries are as those of the one goal that they stand for, or of goals.
abbrev pub IsNode : List Entry → Type 0
IsNode entries = entries_of (node_of entries) ≡ entries

abbrev pub AreNodes : List Entry → Type 0
AreNodes entries = all_entries (built entries []) ≡ entries
