-- Worked examples of goals: what they are at their roots, their parts, and goals that become one.
use Rattle.std.specs.Prelude.{◌≡◌, ℕ, List, [], ◌∷◌, map, refl}
use Rattle.std.proofs.Common.{ap}
use Rattle.merc_base.specs.declared.place.Span.{Span}
use Rattle.merc_goal_tree.specs.declared.goal.SimpleGoal.TheVariants.{Call}
use Rattle.merc_goal_tree.specs.declared.entries.Entry.{Entry}
use Rattle.merc_goal_tree.specs.declared.entries.Root.{Root}
use Rattle.merc_goal_tree.specs.declared.entries.Root.TheVariants.{Simple as SimpleRoot, Conjunction as ConjunctionRoot, Parallel as ParallelRoot, Disjunction as DisjunctionRoot, Conditional as ConditionalRoot, Negation as NegationRoot, Quantified as QuantifiedRoot}
use Rattle.merc_goal_tree.specs.declared.node_ref.NodeView.TheVariants.{Conjunction as ConjunctionView, Parallel as ParallelView, Disjunction as DisjunctionView, Conditional as ConditionalView, Negation as NegationView}
use Rattle.merc_goal_tree.specs.Nodes.{Node, Simple, Conjunction, Parallel, Disjunction, Conditional, Negation, Quantified, no_nodes, more_nodes}
use Rattle.merc_goal_tree.specs.Roots.{root_of, goals_of, arity_of, joining, joined}
use Rattle.merc_goal_tree.specs.Parts.{parts_of}
use Rattle.merc_goal_tree.specs.Views.{viewed}
use Rattle.merc_goal_tree.specs.Entries.{built, node_of, entries_of, starts_from, IsNode, AreNodes}

abbrev at : ℕ → Span
at first = record { first = first; past = first; line = 1 }

-- calls of predicates without arguments, and `( a, b ; not c )`

abbrev call : ℕ → Node
call number = Simple (Call number []) (at number)

abbrev a : Node
a = call 0

abbrev b : Node
b = call 1

abbrev c : Node
c = call 2

abbrev both : Node
both = Conjunction (more_nodes a (more_nodes b no_nodes)) (at 3)

abbrev not_c : Node
not_c = Negation c (at 4)

abbrev choice : Node
choice = Disjunction (more_nodes both (more_nodes not_c no_nodes)) (at 5)

-- roots

pub root_of-example : root_of choice ≡ DisjunctionRoot 2
root_of-example = refl

pub root_of-not : root_of both ≡ ConjunctionRoot 3 → ⊥
root_of-not counts_itself = cc

pub goals_of-example : goals_of choice ≡ both ∷ not_c ∷ []
goals_of-example = refl

pub goals_of-not : goals_of choice ≡ a ∷ b ∷ c ∷ [] → ⊥
goals_of-not all_below = cc

pub arity_of-example : arity_of (root_of (Quantified (7 ∷ 8 ∷ []) c (at 4))) ≡ 1
arity_of-example = refl

pub arity_of-not : arity_of (QuantifiedRoot (7 ∷ 8 ∷ [])) ≡ 2 → ⊥
arity_of-not counts_variables = cc

-- goals that become one

pub joining-example : joining ConditionalRoot (at 5) (c ∷ a ∷ b ∷ []) ≡ Conditional c a b (at 5)
joining-example = refl

pub joining-not : joining ConditionalRoot (at 5) (c ∷ a ∷ b ∷ []) ≡ Conditional b a c (at 5) → ⊥
joining-not backwards = cc

pub joined-example : joined NegationRoot (at 4) (both ∷ c ∷ []) ≡ both ∷ not_c ∷ []
joined-example = refl

pub joined-all : joined (DisjunctionRoot 2) (at 5) (both ∷ not_c ∷ []) ≡ choice ∷ []
joined-all = refl

pub joined-parallel : joined (ParallelRoot 2) (at 3) (c ∷ a ∷ b ∷ []) ≡ c ∷ Parallel (more_nodes a (more_nodes b no_nodes)) (at 3) ∷ []
joined-parallel = refl

pub joined-quantified : joined (QuantifiedRoot (7 ∷ [])) (at 4) (a ∷ c ∷ []) ≡ a ∷ Quantified (7 ∷ []) c (at 4) ∷ []
joined-quantified = refl

pub joined-not : joined (ConjunctionRoot 2) (at 3) (c ∷ a ∷ b ∷ []) ≡ c ∷ Conjunction (more_nodes b (more_nodes a no_nodes)) (at 3) ∷ [] → ⊥
joined-not backwards = cc

-- the parts of a goal

pub parts_of-example : parts_of choice
    ≡ (SimpleRoot (Call 0 []), at 0) ∷ (SimpleRoot (Call 1 []), at 1) ∷ (ConjunctionRoot 2, at 3) ∷ (SimpleRoot (Call 2 []), at 2) ∷ (NegationRoot, at 4) ∷ (DisjunctionRoot 2, at 5) ∷ []
parts_of-example = refl

pub parts_of-conditional : parts_of (Conditional c a b (at 5)) ≡ (SimpleRoot (Call 2 []), at 2) ∷ (SimpleRoot (Call 0 []), at 0) ∷ (SimpleRoot (Call 1 []), at 1) ∷ (ConditionalRoot, at 5) ∷ []
parts_of-conditional = refl

pub parts_of-parallel : parts_of (Parallel (more_nodes a (more_nodes b no_nodes)) (at 3)) ≡ (SimpleRoot (Call 0 []), at 0) ∷ (SimpleRoot (Call 1 []), at 1) ∷ (ParallelRoot 2, at 3) ∷ []
parts_of-parallel = refl

pub parts_of-quantified : parts_of (Quantified (7 ∷ 8 ∷ []) c (at 4)) ≡ (SimpleRoot (Call 2 []), at 2) ∷ (QuantifiedRoot (7 ∷ 8 ∷ []), at 4) ∷ []
parts_of-quantified = refl

pub parts_of-not : parts_of not_c ≡ (NegationRoot, at 4) ∷ (SimpleRoot (Call 2 []), at 2) ∷ [] → ⊥
parts_of-not root_first =
    let roots : ◌≡◌ {A = List Root} (SimpleRoot (Call 2 []) ∷ NegationRoot ∷ []) (NegationRoot ∷ SimpleRoot (Call 2 []) ∷ []) = ap (map (λ p. p.0)) root_first in
    cc

-- what is seen of a goal

pub viewed-example : viewed (ConjunctionView (a ∷ b ∷ [])) (at 3) ≡ both
viewed-example = refl

pub viewed-disjunction : viewed (DisjunctionView (both ∷ not_c ∷ [])) (at 5) ≡ choice
viewed-disjunction = refl

pub viewed-conditional : viewed (ConditionalView c a b) (at 5) ≡ Conditional c a b (at 5)
viewed-conditional = refl

pub viewed-negation : viewed (NegationView c) (at 4) ≡ not_c
viewed-negation = refl

pub viewed-not : viewed (ParallelView (a ∷ b ∷ [])) (at 3) ≡ both → ⊥
viewed-not same = cc

-- how goals lie in entries

abbrev entry : Root → ℕ → ℕ → Entry
entry root span size = record { root = root; span = at span; size = size }

abbrev not_c_entries : List Entry
not_c_entries = entry (SimpleRoot (Call 2 [])) 2 1 ∷ entry NegationRoot 4 2 ∷ []

pub entries_of-example : entries_of not_c ≡ not_c_entries
entries_of-example = refl

pub entries_of-not : entries_of not_c ≡ entry NegationRoot 4 2 ∷ entry (SimpleRoot (Call 2 [])) 2 1 ∷ [] → ⊥
entries_of-not root_first =
    let sizes : ◌≡◌ {A = List ℕ} (1 ∷ 2 ∷ []) (2 ∷ 1 ∷ []) = ap (map (λ e. e.size)) root_first in
    cc

pub built-example : built not_c_entries (both ∷ []) ≡ both ∷ not_c ∷ []
built-example = refl

pub built-not : built not_c_entries [] ≡ c ∷ not_c ∷ [] → ⊥
built-not keeps_goals = cc

pub node_of-example : node_of not_c_entries ≡ not_c
node_of-example = refl

pub node_of-not : node_of not_c_entries ≡ c → ⊥
node_of-not first = cc

pub starts_from-example : starts_from 0 (both ∷ not_c ∷ a ∷ []) ≡ 0 ∷ 3 ∷ 5 ∷ []
starts_from-example = refl

pub starts_from-not : starts_from 0 (both ∷ not_c ∷ []) ≡ 0 ∷ 1 ∷ [] → ⊥
starts_from-not counts_goals = cc

pub IsNode-example : IsNode not_c_entries
IsNode-example = refl

pub IsNode-not : IsNode (entry (SimpleRoot (Call 2 [])) 2 2 ∷ []) → ⊥
IsNode-not wrong_size =
    let sizes : ◌≡◌ {A = List ℕ} (1 ∷ []) (2 ∷ []) = ap (map (λ e. e.size)) wrong_size in
    cc

pub AreNodes-example : AreNodes (entry (SimpleRoot (Call 0 [])) 0 1 ∷ not_c_entries)
AreNodes-example = refl

pub AreNodes-not : AreNodes (entry (ConjunctionRoot 2) 3 1 ∷ []) → ⊥
AreNodes-not short =
    let arities : ◌≡◌ {A = List ℕ} (0 ∷ []) (2 ∷ []) = ap (map (λ e. arity_of e.root)) short in
    cc
