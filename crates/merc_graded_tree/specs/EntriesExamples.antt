-- How a few goals lie in entries.
use Rattle.std.specs.Prelude.{◌≡◌, ℕ, List, [], ◌∷◌, map, refl, None}
use Rattle.std.proofs.Common.{ap}
use Rattle.merc_graded_tree.specs.declared.entries.Entry.{Entry}
use Rattle.merc_graded_tree.specs.declared.entries.Label.{Label}
use Rattle.merc_graded_tree.specs.declared.entries.Root.TheVariants.{Disjunction as DisjunctionRoot}
use Rattle.merc_graded_tree.specs.Nodes.{Node, node, Conditional}
use Rattle.merc_graded_tree.specs.Roots.{label_of, arity_of}
use Rattle.merc_graded_tree.specs.Entries.{labels_in, nodes_from, node_from, closed, entries_of, all_entries, starts_from, IsNode, AreNodes}
use Rattle.merc_graded_tree.specs.NodesExamples.{at, a, b, c, both, not_c, switch}

abbrev entry : Label → ℕ → Entry
entry label size = record { label = label; size = size }

abbrev not_c_entries : List Entry
not_c_entries = entry (label_of c) 1 ∷ entry (label_of not_c) 2 ∷ []

entries_of-example : entries_of not_c ≡ not_c_entries
entries_of-example = refl

entries_of-conjunction : entries_of both ≡ entry (label_of a) 1 ∷ entry (label_of b) 1 ∷ entry (label_of both) 3 ∷ []
entries_of-conjunction = refl

entries_of-switch : entries_of switch ≡ entry (label_of a) 1 ∷ entry (label_of b) 1 ∷ entry (label_of switch) 3 ∷ []
entries_of-switch = refl

abbrev decision : Node
decision = node (Conditional c a not_c) [] None (at 5)

entries_of-conditional : entries_of decision ≡ entry (label_of c) 1 ∷ entry (label_of a) 1 ∷ entry (label_of c) 1 ∷ entry (label_of not_c) 2 ∷ entry (label_of decision) 5 ∷ []
entries_of-conditional = refl

entries_of-not : entries_of not_c ≡ entry (label_of not_c) 2 ∷ entry (label_of c) 1 ∷ [] → ⊥
entries_of-not root_first =
    let sizes : ◌≡◌ {A = List ℕ} (1 ∷ 2 ∷ []) (2 ∷ 1 ∷ []) = ap (map (λ e. e.size)) root_first in
    cc

closed-example : closed (label_of not_c) (entry (label_of c) 1 ∷ []) ≡ not_c_entries
closed-example = refl

closed-not : closed (label_of not_c) (entry (label_of c) 1 ∷ []) ≡ entry (label_of c) 1 ∷ entry (label_of not_c) 1 ∷ [] → ⊥
closed-not counts_joined =
    let sizes : ◌≡◌ {A = List ℕ} (1 ∷ 2 ∷ []) (1 ∷ 1 ∷ []) = ap (map (λ e. e.size)) counts_joined in
    cc

all_entries-example : all_entries (a ∷ not_c ∷ []) ≡ entry (label_of a) 1 ∷ not_c_entries
all_entries-example = refl

all_entries-not : all_entries (not_c ∷ a ∷ []) ≡ entry (label_of a) 1 ∷ not_c_entries → ⊥
all_entries-not backwards =
    let sizes : ◌≡◌ {A = List ℕ} (1 ∷ 2 ∷ 1 ∷ []) (1 ∷ 1 ∷ 2 ∷ []) = ap (map (λ e. e.size)) backwards in
    cc

labels_in-example : labels_in not_c_entries ≡ label_of c ∷ label_of not_c ∷ []
labels_in-example = refl

labels_in-not : labels_in not_c_entries ≡ label_of not_c ∷ [] → ⊥
labels_in-not last_alone = cc

nodes_from-example : nodes_from (entry (label_of a) 1 ∷ not_c_entries) ≡ a ∷ not_c ∷ []
nodes_from-example = refl

nodes_from-not : nodes_from not_c_entries ≡ c ∷ not_c ∷ [] → ⊥
nodes_from-not keeps_goals = cc

node_from-example : node_from not_c_entries ≡ not_c
node_from-example = refl

node_from-not : node_from not_c_entries ≡ c → ⊥
node_from-not first = cc

starts_from-example : starts_from 0 (both ∷ not_c ∷ a ∷ []) ≡ 0 ∷ 3 ∷ 5 ∷ []
starts_from-example = refl

starts_from-not : starts_from 0 (both ∷ not_c ∷ []) ≡ 0 ∷ 1 ∷ [] → ⊥
starts_from-not counts_goals = cc

IsNode-example : IsNode not_c_entries
IsNode-example = refl

IsNode-not : IsNode (entry (label_of c) 2 ∷ []) → ⊥
IsNode-not wrong_size =
    let sizes : ◌≡◌ {A = List ℕ} (1 ∷ []) (2 ∷ []) = ap (map (λ e. e.size)) wrong_size in
    cc

AreNodes-example : AreNodes (entry (label_of a) 1 ∷ not_c_entries)
AreNodes-example = refl

AreNodes-not : AreNodes (entry (record { root = DisjunctionRoot 2; outputs = []; category = None; span = at 3 }) 1 ∷ []) → ⊥
AreNodes-not short =
    let arities : ◌≡◌ {A = List ℕ} (0 ∷ []) (2 ∷ []) = ap (map (λ e. arity_of e.label.root)) short in
    cc
