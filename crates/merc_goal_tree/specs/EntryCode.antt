-- The entries of goals stand for these goals, by which the logic stores a goal.
use Rattle.std.specs.Prelude.{◌≡◌, List, [], ◌∷◌, ◌++◌, refl}
use Rattle.std.specs.Coded.{Coded, code_by, coded_list}
use Rattle.std.proofs.Common.{◌∙◌, ap, sym}
use Rattle.std.proofs.lemmas.List.{append_assoc, append-nil}
use Rattle.merc_goal_tree.specs.declared.entries.Entry.{Entry}
use Rattle.merc_goal_tree.specs.contracts.entries.Entry as entry
use Rattle.merc_goal_tree.specs.Nodes.{Node, Nodes, Simple, Conjunction, Parallel, Disjunction, Conditional, Negation, Quantified, no_nodes, more_nodes, list_of, span_of}
use Rattle.merc_goal_tree.specs.Roots.{root_of, goals_of, goal_at, joined}
use Rattle.merc_goal_tree.specs.RootLaws.{rejoined}
use Rattle.merc_goal_tree.specs.Entries.{built, node_of, closed, entries_of, joined_entries}

-- entries one after the other
pub built-append : (front back : List Entry) (goals : List Node) → built (front ++ back) goals ≡ built back (built front goals)
built-append [] back goals = refl
built-append (entry ∷ front) back goals = built-append front back (joined entry.root entry.span goals)

-- entries of goals, and a root behind them
closed_is : (node : Node) (inner : List Entry) (goals : List Node) → built inner goals ≡ goals ++ goals_of node
    → built (closed (root_of node) (span_of node) inner) goals ≡ goals ++ node ∷ []
closed_is node inner goals same =
    built-append inner _ goals ∙ ap (joined (root_of node) (span_of node)) same ∙ rejoined node goals

-- one goal in front of others
in_front : (first : Node) (back : List Entry) (rest goals : List Node) → built (entries_of first) goals ≡ goals ++ first ∷ []
    → built back (goals ++ first ∷ []) ≡ (goals ++ first ∷ []) ++ rest → built (entries_of first ++ back) goals ≡ goals ++ first ∷ rest
in_front first back rest goals one others =
    built-append (entries_of first) back goals ∙ ap (built back) one ∙ others ∙ append_assoc goals (first ∷ []) rest

mutual
  pub built-entries_of : (node : Node) (goals : List Node) → built (entries_of node) goals ≡ goals ++ node ∷ []
  built-entries_of (Simple goal span) goals = closed_is (Simple goal span) [] goals (sym (append-nil goals))
  built-entries_of (Conjunction joined_goals span) goals =
      closed_is (Conjunction joined_goals span) (joined_entries joined_goals) goals (built-joined_entries joined_goals goals)
  built-entries_of (Parallel joined_goals span) goals =
      closed_is (Parallel joined_goals span) (joined_entries joined_goals) goals (built-joined_entries joined_goals goals)
  built-entries_of (Disjunction joined_goals span) goals =
      closed_is (Disjunction joined_goals span) (joined_entries joined_goals) goals (built-joined_entries joined_goals goals)
  built-entries_of (Conditional condition then_part else_part span) goals =
      let two = goals ++ condition ∷ [] in
      let three = two ++ then_part ∷ [] in
      closed_is (Conditional condition then_part else_part span) (entries_of condition ++ (entries_of then_part ++ (entries_of else_part ++ []))) goals
      (in_front condition (entries_of then_part ++ (entries_of else_part ++ [])) (then_part ∷ else_part ∷ []) goals (built-entries_of condition goals)
      (in_front then_part (entries_of else_part ++ []) (else_part ∷ []) two (built-entries_of then_part two)
      (in_front else_part [] [] three (built-entries_of else_part three) (sym (append-nil (three ++ else_part ∷ []))))))
  built-entries_of (Negation goal span) goals =
      closed_is (Negation goal span) (entries_of goal ++ []) goals
      (in_front goal [] [] goals (built-entries_of goal goals) (sym (append-nil (goals ++ goal ∷ []))))
  built-entries_of (Quantified variables goal span) goals =
      closed_is (Quantified variables goal span) (entries_of goal ++ []) goals
      (in_front goal [] [] goals (built-entries_of goal goals) (sym (append-nil (goals ++ goal ∷ []))))

  pub built-joined_entries : (joined_goals : Nodes) (goals : List Node) → built (joined_entries joined_goals) goals ≡ goals ++ list_of joined_goals
  built-joined_entries no_nodes goals = sym (append-nil goals)
  built-joined_entries (more_nodes first rest) goals =
      in_front first (joined_entries rest) (list_of rest) goals (built-entries_of first goals) (built-joined_entries rest (goals ++ first ∷ []))

pub node_of-entries_of : (node : Node) → node_of (entries_of node) ≡ node
node_of-entries_of node = ap (λ l. goal_at l 0) (built-entries_of node [])

-- a goal is stored as its entries
abbrev pub node_code : Coded Node
node_code = code_by (List Entry) (coded_list entry.the_row.coded) entries_of node_of node_of-entries_of

abbrev pub node_list_code : Coded (List Node)
node_list_code = coded_list node_code
