-- What the entries of goals are once goals are taken apart, put together, or joined.
use Rattle.std.proofs.Common.{◌≡◌, ℕ, suc, zero, ◌+◌, ◌-◌, ◌≤◌, List, [], ◌∷◌, ◌++◌, length, take, drop, get_or, refl, ap, sym, ◌∙◌, arith}
use Rattle.std.proofs.lemmas.List.{length-append, length-drop, length-map, map-append, append_assoc, append-nil, take-append-drop}
use Rattle.merc_graded_tree.specs.declared.entries.Entry.{Entry}
use Rattle.merc_graded_tree.specs.declared.entries.Label.{Label}
use Rattle.merc_graded_tree.specs.Nodes.{Node, node, Goal, Basic, Conjunction, Disjunction, Switch, Conditional, Negation, Quantified, Nodes, no_nodes, more_nodes, Arms, no_arms, more_arms, list_of}
use Rattle.merc_graded_tree.specs.Roots.{bodies_of, goals_in, goals_of, label_of, arity_of, goal_at, joining, labelled, last_joined}
use Rattle.merc_graded_tree.specs.Labels.{labels_of, all_labels, built}
use Rattle.merc_graded_tree.specs.Induction.{of_all}
use Rattle.merc_graded_tree.specs.LabelCode.{labels_are, built-all_labels}
use Rattle.merc_graded_tree.specs.Entries.{labels_in, nodes_from, node_from, closed, entries_of, inner_entries, joined_entries, arm_entries, all_entries, starts_from, IsNode, AreNodes}
use Rattle.merc_graded_tree.proofs.JoinLaws.{root_joined, goals_joined}

-- a goal's entries are those of the goals that it joins, and its label's

joined_entries-all : (goals : Nodes) → joined_entries goals ≡ all_entries (list_of goals)
joined_entries-all no_nodes = refl
joined_entries-all (more_nodes first rest) = ap (λ l. entries_of first ++ l) (joined_entries-all rest)

arm_entries-all : (arms : Arms) → arm_entries arms ≡ all_entries (bodies_of arms)
arm_entries-all no_arms = refl
arm_entries-all (more_arms symbol body rest) = ap (λ l. entries_of body ++ l) (arm_entries-all rest)

inner_entries-all : (goal : Goal) → inner_entries goal ≡ all_entries (goals_in goal)
inner_entries-all (Basic goal) = refl
inner_entries-all (Conjunction running goals) = joined_entries-all goals
inner_entries-all (Disjunction goals) = joined_entries-all goals
inner_entries-all (Switch variable arms) = arm_entries-all arms
inner_entries-all (Conditional condition then_part else_part) =
    ap (λ l. entries_of condition ++ (entries_of then_part ++ l)) (sym (append-nil (entries_of else_part)))
inner_entries-all (Negation goal) = sym (append-nil (entries_of goal))
inner_entries-all (Quantified own goal) = sym (append-nil (entries_of goal))

pub entries_are : (whole : Node) → entries_of whole ≡ closed (label_of whole) (all_entries (goals_of whole))
entries_are (node goal outputs category span) = ap (closed (label_of (node goal outputs category span))) (inner_entries-all goal)

pub entries_joined : (label : Label) (goals : List Node) → arity_of label.root ≡ length goals
    → entries_of (labelled label goals) ≡ closed label (all_entries goals)
entries_joined label goals count =
    ap (closed (label_of (labelled label goals))) (inner_entries-all (joining label.root goals) ∙ ap all_entries (goals_joined label.root goals count))
    ∙ ap (λ r. closed (record { root = r; outputs = label.outputs; category = label.category; span = label.span }) (all_entries goals)) (root_joined label.root goals count)

pub all_entries-append : (front back : List Node) → all_entries (front ++ back) ≡ all_entries front ++ all_entries back
all_entries-append [] back = refl
all_entries-append (first ∷ front) back =
    ap (λ l. entries_of first ++ l) (all_entries-append front back) ∙ sym (append_assoc (entries_of first) (all_entries front) (all_entries back))

-- the labels of goals' entries are those of the goals

labels_in-append : (front back : List Entry) → labels_in (front ++ back) ≡ labels_in front ++ labels_in back
labels_in-append front back = map-append (λ e. e.label) front back

abbrev HasLabels : List Node → Type 0
HasLabels goals = labels_in (all_entries goals) ≡ all_labels goals

labels_more : (first : Node) (rest : List Node) → HasLabels (first ∷ []) → HasLabels rest → HasLabels (first ∷ rest)
labels_more first rest one others =
    labels_in-append (entries_of first) (all_entries rest)
    ∙ ap (λ l. labels_in l ++ labels_in (all_entries rest)) (sym (append-nil (entries_of first)))
    ∙ ap (λ l. l ++ labels_in (all_entries rest)) (one ∙ append-nil (labels_of first))
    ∙ ap (λ l. labels_of first ++ l) others

labels_one : (whole : Node) → HasLabels (goals_of whole) → HasLabels (whole ∷ [])
labels_one whole inner =
    ap labels_in (append-nil (entries_of whole) ∙ entries_are whole)
    ∙ labels_in-append (all_entries (goals_of whole)) _
    ∙ ap (λ l. l ++ label_of whole ∷ []) inner
    ∙ sym (labels_are whole)
    ∙ sym (append-nil (labels_of whole))

pub labels_in-all_entries : (goals : List Node) → labels_in (all_entries goals) ≡ all_labels goals
labels_in-all_entries goals = of_all HasLabels refl labels_more labels_one goals

pub labels_in-entries_of : (whole : Node) → labels_in (entries_of whole) ≡ labels_of whole
labels_in-entries_of whole =
    ap labels_in (sym (append-nil (entries_of whole))) ∙ labels_in-all_entries (whole ∷ []) ∙ append-nil (labels_of whole)

-- entries that are those of goals stand for them

pub nodes_are : (entries : List Entry) (goals : List Node) → entries ≡ all_entries goals → nodes_from entries ≡ goals
nodes_are entries goals same = ap (λ l. built l []) (ap labels_in same ∙ labels_in-all_entries goals) ∙ built-all_labels goals []

pub AreNodes_from : (entries : List Entry) (goals : List Node) → entries ≡ all_entries goals → AreNodes entries
AreNodes_from entries goals same = ap all_entries (nodes_are entries goals same) ∙ sym same

pub node_is : (entries : List Entry) (whole : Node) → entries ≡ entries_of whole → node_from entries ≡ whole
node_is entries whole same = ap (λ l. goal_at l 0) (nodes_are entries (whole ∷ []) (same ∙ sym (append-nil (entries_of whole))))

pub IsNode_from : (entries : List Entry) (whole : Node) → entries ≡ entries_of whole → IsNode entries
IsNode_from entries whole same = ap entries_of (node_is entries whole same) ∙ sym same

pub labels_from : (entries : List Entry) (whole : Node) → IsNode entries → node_from entries ≡ whole → labels_in entries ≡ labels_of whole
labels_from entries whole is same = ap labels_in (sym is) ∙ ap (λ n. labels_in (entries_of n)) same ∙ labels_in-entries_of whole

pub part_count_is : (entries : List Entry) (whole : Node) → IsNode entries → node_from entries ≡ whole → length entries ≡ length (labels_of whole)
part_count_is entries whole is same = sym (length-map entries (λ e. e.label)) ∙ ap length (labels_from entries whole is same)

-- starts

pub length-starts_from : (start : ℕ) (goals : List Node) → length (starts_from start goals) ≡ length goals
length-starts_from start [] = refl
length-starts_from start (first ∷ rest) = ap suc (length-starts_from (start + length (entries_of first)) rest)

pub starts_from-take : (count start : ℕ) (goals : List Node) → take count (starts_from start goals) ≡ starts_from start (take count goals)
starts_from-take zero start [] = refl
starts_from-take (suc count) start [] = refl
starts_from-take zero start (first ∷ rest) = refl
starts_from-take (suc count) start (first ∷ rest) = ap (λ l. start ∷ l) (starts_from-take count (start + length (entries_of first)) rest)

starts_from-last : (start : ℕ) (goals : List Node) (last : Node)
    → starts_from start (goals ++ last ∷ []) ≡ starts_from start goals ++ (start + length (all_entries goals)) ∷ []
starts_from-last start [] last = ap (λ n. n ∷ []) (omega arith)
starts_from-last start (first ∷ rest) last =
    let entries = entries_of first in
    let behind : start + length entries + length (all_entries rest) ≡ start + length (entries ++ all_entries rest) = omega (arith, length-append entries (all_entries rest)) in
    ap (λ l. start ∷ l) (starts_from-last (start + length entries) rest last ∙ ap (λ n. starts_from (start + length entries) rest ++ n ∷ []) behind)

start_at : (count start : ℕ) (goals : List Node) (end : ℕ) → count ≤ length goals → end ≡ start + length (all_entries goals)
    → get_or (starts_from start goals) count end ≡ start + length (all_entries (take count goals))
start_at zero start [] end within is_end = is_end
start_at (suc count) start [] end within is_end = absurd (omega arith)
start_at zero start (first ∷ rest) end within is_end = omega arith
start_at (suc count) start (first ∷ rest) end within is_end =
    let entries = entries_of first in
    let behind : end ≡ start + length entries + length (all_entries rest) = omega (arith, is_end, length-append entries (all_entries rest)) in
    start_at count (start + length entries) rest end (omega arith) behind ∙ omega (arith, length-append entries (all_entries (take count rest)))

-- a label behind the entries of goals
module _ (goals : List Node) (entries : List Entry) (starts : List ℕ) (are : all_entries goals ≡ entries) (start : starts ≡ starts_from 0 goals) where
  pub front_and_back : (count : ℕ) → entries ≡ all_entries (take count goals) ++ all_entries (drop count goals)
  front_and_back count =
      sym are ∙ ap all_entries (sym (take-append-drop count goals)) ∙ all_entries-append (take count goals) (drop count goals)

  pub start_is : (count : ℕ) → count ≤ length goals → get_or starts count (length entries) ≡ length (all_entries (take count goals))
  start_is count within =
      ap (λ s. get_or s count (length entries)) start ∙ start_at count 0 goals (length entries) within (ap length (sym are) ∙ omega arith) ∙ omega arith

  pub start_within : (count : ℕ) → count ≤ length goals → get_or starts count (length entries) ≤ length entries
  start_within count within =
      omega (arith, start_is count within, ap length (front_and_back count), length-append (all_entries (take count goals)) (all_entries (drop count goals)))

  module _ (label : Label) (enough : arity_of label.root ≤ length goals) (kept : ℕ) (kept_is : kept ≡ length goals - arity_of label.root) where
    abbrev last_goals : List Node
    last_goals = drop (length goals - arity_of label.root) goals

    abbrev start_of_last : ℕ
    start_of_last = get_or starts kept (length entries)

    entries_behind : entries ++ record { label = label; size = length entries - start_of_last + 1 } ∷ [] ≡ all_entries (last_joined label goals)
    entries_behind =
        let front = take (length goals - arity_of label.root) goals in
        let made = labelled label last_goals in
        let parts : entries ≡ all_entries front ++ all_entries last_goals = front_and_back (length goals - arity_of label.root) in
        let at : start_of_last ≡ length (all_entries front) =
        ap (λ k. get_or starts k (length entries)) kept_is ∙ start_is (length goals - arity_of label.root) (omega arith) in
        let size : length entries - start_of_last + 1 ≡ suc (length (all_entries last_goals)) =
        omega (arith, at, ap length parts, length-append (all_entries front) (all_entries last_goals)) in
        let count : arity_of label.root ≡ length last_goals = omega (arith, length-drop (length goals - arity_of label.root) goals) in
        ap (λ n. entries ++ record { label = label; size = n } ∷ []) size
        ∙ ap (λ l. l ++ record { label = label; size = suc (length (all_entries last_goals)) } ∷ []) parts
        ∙ append_assoc (all_entries front) (all_entries last_goals) _
        ∙ ap (λ l. all_entries front ++ l) (sym (entries_joined label last_goals count) ∙ sym (append-nil (entries_of made)))
        ∙ sym (all_entries-append front (made ∷ []))

    starts_behind : take kept starts ++ start_of_last ∷ [] ≡ starts_from 0 (last_joined label goals)
    starts_behind =
        let before = length goals - arity_of label.root in
        let at : start_of_last ≡ 0 + length (all_entries (take before goals)) =
        ap (λ k. get_or starts k (length entries)) kept_is ∙ start_is before (omega arith) ∙ omega arith in
        ap (λ n. take kept starts ++ n ∷ []) at
        ∙ ap (λ l. l ++ (0 + length (all_entries (take before goals))) ∷ []) (ap (λ k. take k starts) kept_is ∙ ap (take before) start ∙ starts_from-take before 0 goals)
        ∙ sym (starts_from-last 0 (take before goals) (labelled label last_goals))

    pub record Behind (new_entries : List Entry) (new_starts : List ℕ) : Type 0 where
      pub nodes : nodes_from new_entries ≡ last_joined label goals
      pub are_nodes : AreNodes new_entries
      pub starts_are : new_starts ≡ starts_from 0 (nodes_from new_entries)

    pub behind : (new_entries : List Entry) (new_starts : List ℕ) → new_entries ≡ entries ++ record { label = label; size = length entries - start_of_last + 1 } ∷ []
        → new_starts ≡ take kept starts ++ start_of_last ∷ [] → Behind new_entries new_starts
    behind new_entries new_starts same_entries same_starts =
        let made : new_entries ≡ all_entries (last_joined label goals) = same_entries ∙ entries_behind in
        let nodes = nodes_are new_entries (last_joined label goals) made in
        record {
          nodes = nodes;
          are_nodes = AreNodes_from new_entries (last_joined label goals) made;
          starts_are = same_starts ∙ starts_behind ∙ ap (starts_from 0) (sym nodes);
        }
