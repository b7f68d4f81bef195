-- Bodies that are known, trees that are put behind others, and what is found of several procedures.
use Rattle.std.specs.Prelude.{◌≡◌, ℕ, false, List, [], ◌∷◌, None, Some, Ok, Err, refl}
use Rattle.merc_base.specs.declared.refusal.Fault.TheVariants.{Refused}
use Rattle.merc_base.specs.declared.refusal.Refusal.{Refusal}
use Rattle.merc_goal_tree.specs.Nodes.{Node}
use Rattle.merc_graded_tree.specs.Nodes.{Node as OrderedNode}
use Rattle.merc_order.specs.Faults.{never_ready, unbound_output}
use Rattle.merc_order.specs.OrderExamples.{at, modes, f, x, y, call}
use Rattle.merc_order.specs.Ordered.{Ordered, put, Called, Ready, Stuck}
use Rattle.merc_order.specs.Procedures.{total_of}
use Rattle.merc_order.specs.Spelt.{spelt}
use Rattle.merc_goal_facts.specs.Facts.{AreKnown, subgoals}
use Rattle.merc_modes.specs.Bodies.{IsKnown, PutsTree, AreFound}
use Rattle.merc_modes.specs.declared.ordering.Body.{Body}
use Rattle.merc_modes.specs.declared.ordering.Found.{Found}

-- `q(X, Y) :- f(X, Y).`: the variables of the head stand before those of the goal, and the first fresh one behind them

abbrev heads : List ℕ
heads = x ∷ y ∷ []

abbrev goal : Node
goal = call f (x ∷ y ∷ []) 10

known : (body : Body) → body.all ≡ x ∷ y ∷ x ∷ y ∷ [] → AreKnown (total_of heads goal) modes (subgoals goal) body.facts.items → body.fresh ≡ 2 → IsKnown modes heads goal body
known body all facts fresh = record { all_are = all; facts_are = facts; fresh_is = fresh }

without_head : (body : Body) → body.all ≡ x ∷ y ∷ [] → IsKnown modes heads goal body → ⊥
without_head body all is = let e : x ∷ y ∷ [] ≡ x ∷ y ∷ x ∷ y ∷ [] = rw all at is.all_are in cc

not_fresh : (body : Body) → body.fresh ≡ 1 → IsKnown modes heads goal body → ⊥
not_fresh body fresh is = let e : ◌≡◌ {A = ℕ} 1 2 = rw fresh at is.fresh_is in cc

-- the tree of its order

abbrev ordered : Ordered
ordered = put (Called f 0 (x ∷ y ∷ []) (false ∷ false ∷ [])) (y ∷ []) (at 10)

abbrev tree : OrderedNode
tree = spelt modes 2 ordered

behind_another : (other : OrderedNode) → PutsTree modes heads goal (Ready ordered) (other ∷ []) (other ∷ tree ∷ []) (Ok tt)
behind_another other = (tree, (ordered, refl, refl), refl)

nothing_put : PutsTree modes heads goal (Ready ordered) [] [] (Ok tt) → ⊥
nothing_put (one, is, puts) = let e : [] ≡ one ∷ [] = puts in cc

told : PutsTree modes heads goal (Stuck (never_ready (at 10))) [] [] (Err (Refused (never_ready (at 10))))
told = refl

without_fault : PutsTree modes heads goal (Ready ordered) [] [] (Err (Refused (never_ready (at 10)))) → ⊥
without_fault stuck = cc

-- two faults, the second at the lesser byte

abbrev faults : List Refusal
faults = never_ready (at 9) ∷ unbound_output (at 4) ∷ []

abbrev found : Refusal → Found
found fault = record { bound = []; written = record { nodes = []; fresh = 2; seen = [] }; fault = Some fault }

first_found : (trees : List OrderedNode) → AreFound faults trees (found (unbound_output (at 4)))
first_found trees = record { fault_is = refl; trees_are = λ none. absurd cc }

not_first : (trees : List OrderedNode) → AreFound faults trees (found (never_ready (at 9))) → ⊥
not_first trees are = let e : Some (never_ready (at 9)) ≡ Some (unbound_output (at 4)) = are.fault_is in cc

-- without a fault the trees are

abbrev without : List OrderedNode → Found
without trees = record { bound = []; written = record { nodes = trees; fresh = 2; seen = [] }; fault = None }

all_trees : AreFound [] (tree ∷ []) (without (tree ∷ []))
all_trees = record { fault_is = refl; trees_are = λ none. refl }

tree_missing : AreFound [] (tree ∷ []) (without []) → ⊥
tree_missing are = let e : [] ≡ tree ∷ [] = are.trees_are refl in cc
