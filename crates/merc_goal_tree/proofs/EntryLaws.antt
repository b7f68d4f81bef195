-- What the entries of goals are once goals are taken apart, put together, or joined.
use Rattle.std.proofs.Common.{◌≡◌, ℕ, suc, zero, ◌+◌, ◌-◌, ◌≤◌, List, [], ◌∷◌, ◌++◌, length, take, drop, get_or, refl, ap, sym, ◌∙◌, arith}
use Rattle.std.proofs.lemmas.List.{length-append, length-drop, append_assoc, append-nil, take-append-drop}
use Rattle.merc_base.specs.declared.place.Span.{Span}
use Rattle.merc_goal_tree.specs.declared.entries.Entry.{Entry}
use Rattle.merc_goal_tree.specs.declared.entries.Root.{Root}
use Rattle.merc_goal_tree.specs.declared.entries.Root.TheVariants.{Simple as SimpleRoot, Conjunction as ConjunctionRoot, Parallel as ParallelRoot, Disjunction as DisjunctionRoot, Conditional as ConditionalRoot, Negation as NegationRoot, Quantified as QuantifiedRoot}
use Rattle.merc_goal_tree.specs.Nodes.{Node, Nodes, Simple, Conjunction, Parallel, Disjunction, Conditional, Negation, Quantified, no_nodes, more_nodes, nodes_of, list_of, span_of}
use Rattle.merc_goal_tree.specs.Roots.{root_of, goals_of, arity_of, joining, joined}
use Rattle.merc_goal_tree.specs.Entries.{built, node_of, closed, entries_of, joined_entries, all_entries, starts_from, IsNode, AreNodes}
use Rattle.merc_goal_tree.specs.RootLaws.{list_of-nodes_of}
use Rattle.merc_goal_tree.specs.EntryCode.{built-append, built-entries_of, node_of-entries_of}

-- goals and their entries

joined_entries-nodes_of : (goals : List Node) → joined_entries (nodes_of goals) ≡ all_entries goals
joined_entries-nodes_of [] = refl
joined_entries-nodes_of (first ∷ rest) = ap (λ l. entries_of first ++ l) (joined_entries-nodes_of rest)

joined_entries-all : (goals : Nodes) → joined_entries goals ≡ all_entries (list_of goals)
joined_entries-all no_nodes = refl
joined_entries-all (more_nodes first rest) = ap (λ l. entries_of first ++ l) (joined_entries-all rest)

pub all_entries-append : (front back : List Node) → all_entries (front ++ back) ≡ all_entries front ++ all_entries back
all_entries-append [] back = refl
all_entries-append (first ∷ front) back =
    ap (λ l. entries_of first ++ l) (all_entries-append front back) ∙ sym (append_assoc (entries_of first) (all_entries front) (all_entries back))

built-all_entries : (goals before : List Node) → built (all_entries goals) before ≡ before ++ goals
built-all_entries [] before = sym (append-nil before)
built-all_entries (first ∷ rest) before =
    built-append (entries_of first) (all_entries rest) before
    ∙ ap (built (all_entries rest)) (built-entries_of first before)
    ∙ built-all_entries rest (before ++ first ∷ [])
    ∙ append_assoc before (first ∷ []) rest

-- a goal's entries are those of the goals that it joins, and its root
pub entries_are : (node : Node) → entries_of node ≡ closed (root_of node) (span_of node) (all_entries (goals_of node))
entries_are (Simple goal span) = refl
entries_are (Conjunction goals span) = ap (closed (ConjunctionRoot (length (list_of goals))) span) (joined_entries-all goals)
entries_are (Parallel goals span) = ap (closed (ParallelRoot (length (list_of goals))) span) (joined_entries-all goals)
entries_are (Disjunction goals span) = ap (closed (DisjunctionRoot (length (list_of goals))) span) (joined_entries-all goals)
entries_are (Conditional condition then_part else_part span) = refl
entries_are (Negation goal span) = refl
entries_are (Quantified variables goal span) = refl

-- entries that are those of goals stand for them
pub built_from : (entries : List Entry) (goals : List Node) → entries ≡ all_entries goals → built entries [] ≡ goals
built_from entries goals same = ap (λ l. built l []) same ∙ built-all_entries goals []

pub AreNodes_from : (entries : List Entry) (goals : List Node) → entries ≡ all_entries goals → AreNodes entries
AreNodes_from entries goals same = ap all_entries (built_from entries goals same) ∙ sym same

pub node_from : (entries : List Entry) (node : Node) → entries ≡ entries_of node → node_of entries ≡ node
node_from entries node same = ap node_of same ∙ node_of-entries_of node

pub IsNode_from : (entries : List Entry) (node : Node) → entries ≡ entries_of node → IsNode entries
IsNode_from entries node same = ap entries_of (node_from entries node same) ∙ sym same

-- starts

pub length-starts_from : (start : ℕ) (goals : List Node) → length (starts_from start goals) ≡ length goals
length-starts_from start [] = refl
length-starts_from start (first ∷ rest) = ap suc (length-starts_from (start + length (entries_of first)) rest)

starts_from-take : (count start : ℕ) (goals : List Node) → take count (starts_from start goals) ≡ starts_from start (take count goals)
starts_from-take zero start [] = refl
starts_from-take (suc count) start [] = refl
starts_from-take zero start (first ∷ rest) = refl
starts_from-take (suc count) start (first ∷ rest) = ap (λ l. start ∷ l) (starts_from-take count (start + length (entries_of first)) rest)

starts_from-last : (start : ℕ) (goals : List Node) (last : Node)
    → starts_from start (goals ++ last ∷ []) ≡ starts_from start goals ++ (start + length (all_entries goals)) ∷ []
starts_from-last start [] last = ap (λ n. n ∷ []) (omega arith)
starts_from-last start (first ∷ rest) last =
    let entries = entries_of first in
    let behind : start + length entries + length (all_entries rest) ≡ start + length (entries ++ all_entries rest) = omega (arith, length-append entries (all_entries rest)) in
    ap (λ l. start ∷ l) (starts_from-last (start + length entries) rest last ∙ ap (λ n. starts_from (start + length entries) rest ++ n ∷ []) behind)

start_at : (count start : ℕ) (goals : List Node) (end : ℕ) → count ≤ length goals → end ≡ start + length (all_entries goals)
    → get_or (starts_from start goals) count end ≡ start + length (all_entries (take count goals))
start_at zero start [] end within is_end = is_end
start_at (suc count) start [] end within is_end = absurd (omega arith)
start_at zero start (first ∷ rest) end within is_end = omega arith
start_at (suc count) start (first ∷ rest) end within is_end =
    let entries = entries_of first in
    let behind : end ≡ start + length entries + length (all_entries rest) = omega (arith, is_end, length-append entries (all_entries rest)) in
    start_at count (start + length entries) rest end (omega arith) behind ∙ omega (arith, length-append entries (all_entries (take count rest)))

-- the entries of a goal that is joined

three_joined : (span : Span) (goals : List Node) → 3 ≡ length goals → entries_of (joining ConditionalRoot span goals) ≡ closed ConditionalRoot span (all_entries goals)
three_joined span [] count = absurd (omega arith)
three_joined span (first ∷ []) count = absurd (omega arith)
three_joined span (first ∷ second ∷ []) count = absurd (omega arith)
three_joined span (first ∷ second ∷ third ∷ []) count = refl
three_joined span (first ∷ second ∷ third ∷ fourth ∷ rest) count = absurd (omega arith)

pub entries_joined : (root : Root) (span : Span) (goals : List Node) → arity_of root ≡ length goals
    → entries_of (joining root span goals) ≡ closed root span (all_entries goals)
entries_joined (SimpleRoot goal) span [] count = refl
entries_joined (SimpleRoot goal) span (first ∷ rest) count = absurd (omega arith)
entries_joined (ConjunctionRoot many) span goals count =
    ap (λ n. closed (ConjunctionRoot n) span (joined_entries (nodes_of goals))) (ap length (list_of-nodes_of goals) ∙ sym count)
    ∙ ap (closed (ConjunctionRoot many) span) (joined_entries-nodes_of goals)
entries_joined (ParallelRoot many) span goals count =
    ap (λ n. closed (ParallelRoot n) span (joined_entries (nodes_of goals))) (ap length (list_of-nodes_of goals) ∙ sym count)
    ∙ ap (closed (ParallelRoot many) span) (joined_entries-nodes_of goals)
entries_joined (DisjunctionRoot many) span goals count =
    ap (λ n. closed (DisjunctionRoot n) span (joined_entries (nodes_of goals))) (ap length (list_of-nodes_of goals) ∙ sym count)
    ∙ ap (closed (DisjunctionRoot many) span) (joined_entries-nodes_of goals)
entries_joined ConditionalRoot span goals count = three_joined span goals count
entries_joined NegationRoot span [] count = absurd (omega arith)
entries_joined NegationRoot span (only ∷ []) count = refl
entries_joined NegationRoot span (first ∷ second ∷ rest) count = absurd (omega arith)
entries_joined (QuantifiedRoot variables) span [] count = absurd (omega arith)
entries_joined (QuantifiedRoot variables) span (only ∷ []) count = refl
entries_joined (QuantifiedRoot variables) span (first ∷ second ∷ rest) count = absurd (omega arith)

-- a root behind the entries of goals
module _ (goals : List Node) (entries : List Entry) (starts : List ℕ) (are : all_entries goals ≡ entries) (start : starts ≡ starts_from 0 goals) where
  pub front_and_back : (count : ℕ) → entries ≡ all_entries (take count goals) ++ all_entries (drop count goals)
  front_and_back count =
      sym are ∙ ap all_entries (sym (take-append-drop count goals)) ∙ all_entries-append (take count goals) (drop count goals)

  pub start_is : (count : ℕ) → count ≤ length goals → get_or starts count (length entries) ≡ length (all_entries (take count goals))
  start_is count within =
      ap (λ s. get_or s count (length entries)) start ∙ start_at count 0 goals (length entries) within (ap length (sym are) ∙ omega arith) ∙ omega arith

  pub start_within : (count : ℕ) → count ≤ length goals → get_or starts count (length entries) ≤ length entries
  start_within count within =
      omega (arith, start_is count within, ap length (front_and_back count), length-append (all_entries (take count goals)) (all_entries (drop count goals)))

  module _ (root : Root) (span : Span) (enough : arity_of root ≤ length goals) (kept : ℕ) (kept_is : kept ≡ length goals - arity_of root) where
    abbrev last_goals : List Node
    last_goals = drop (length goals - arity_of root) goals

    abbrev root_entry : Entry
    root_entry = record { root = root; span = span; size = length entries - get_or starts kept (length entries) + 1 }

    pub entries_behind : entries ++ root_entry ∷ [] ≡ all_entries (joined root span goals)
    entries_behind =
        let front = take (length goals - arity_of root) goals in
        let made = joining root span last_goals in
        let parts : entries ≡ all_entries front ++ all_entries last_goals = front_and_back (length goals - arity_of root) in
        let at : get_or starts kept (length entries) ≡ length (all_entries front) =
        ap (λ k. get_or starts k (length entries)) kept_is ∙ start_is (length goals - arity_of root) (omega arith) in
        let size : length entries - get_or starts kept (length entries) + 1 ≡ suc (length (all_entries last_goals)) =
        omega (arith, at, ap length parts, length-append (all_entries front) (all_entries last_goals)) in
        let count : arity_of root ≡ length last_goals = omega (arith, length-drop (length goals - arity_of root) goals) in
        ap (λ n. entries ++ record { root = root; span = span; size = n } ∷ []) size
        ∙ ap (λ l. l ++ record { root = root; span = span; size = suc (length (all_entries last_goals)) } ∷ []) parts
        ∙ append_assoc (all_entries front) (all_entries last_goals) _
        ∙ ap (λ l. all_entries front ++ l) (sym (entries_joined root span last_goals count) ∙ sym (append-nil (entries_of made)))
        ∙ sym (all_entries-append front (made ∷ []))

    pub starts_behind : take kept starts ++ get_or starts kept (length entries) ∷ [] ≡ starts_from 0 (joined root span goals)
    starts_behind =
        let before = length goals - arity_of root in
        let at : get_or starts kept (length entries) ≡ 0 + length (all_entries (take before goals)) =
        ap (λ k. get_or starts k (length entries)) kept_is ∙ start_is before (omega arith) ∙ omega arith in
        ap (λ n. take kept starts ++ n ∷ []) at
        ∙ ap (λ l. l ++ (0 + length (all_entries (take before goals))) ∷ []) (ap (λ k. take k starts) kept_is ∙ ap (take before) start ∙ starts_from-take before 0 goals)
        ∙ sym (starts_from-last 0 (take before goals) (joining root span last_goals))
