-- What is known of a body before it is ordered, and what becomes of it and of several.
use Rattle.std.specs.Prelude.{◌≡◌, ℕ, List, [], ◌∷◌, ◌++◌, None, Result, Ok, Err}
use Rattle.merc_base.specs.FirstFault.{first_of_faults}
use Rattle.merc_base.specs.declared.refusal.Fault.{Fault}
use Rattle.merc_base.specs.declared.refusal.Fault.TheVariants.{Refused, NoMemory}
use Rattle.merc_base.specs.declared.refusal.Refusal.{Refusal}
use Rattle.merc_tree.specs.declared.declarations.ModeDecl.{ModeDecl}
use Rattle.merc_goal_tree.specs.Nodes.{Node}
use Rattle.merc_goal_tree.specs.Variables.{variables}
use Rattle.merc_graded_tree.specs.Nodes.{Node as OrderedNode}
use Rattle.merc_order.specs.Ordered.{Outcome, Stuck}
use Rattle.merc_order.specs.Procedures.{IsBody, first_fresh, total_of}
use Rattle.merc_goal_facts.specs.Facts.{AreKnown, subgoals}
use Rattle.merc_modes.specs.declared.ordering.Body.{Body}
use Rattle.merc_modes.specs.declared.ordering.Found.{Found}

-- A body is known: where the head variables and those of its goal occur, the facts of the goal's parts, and the first fresh variable.
pub record IsKnown (modes : ℕ → List ModeDecl) (heads : List ℕ) (goal : Node) (body : Body) : Type 0 where
  pub all_are : body.all ≡ heads ++ variables goal
  pub facts_are : AreKnown (total_of heads goal) modes (subgoals goal) body.facts.items
  pub fresh_is : body.fresh ≡ first_fresh heads goal

-- The tree of a body is put behind others, or its fault is given.
abbrev pub PutsTree : (ℕ → List ModeDecl) → List ℕ → Node → Outcome → List OrderedNode → List OrderedNode → Result (Unit {0}) Fault → Type 0
PutsTree modes heads goal outcome old new (Ok done) = (tree : OrderedNode) × IsBody modes heads outcome goal tree × (new ≡ old ++ tree ∷ [])
PutsTree modes heads goal outcome old new (Err (Refused refusal)) = outcome ≡ Stuck refusal
PutsTree modes heads goal outcome old new (Err NoMemory) = Unit {0}

-- Of these faults the first is found, and where there is none these trees are.
pub record AreFound (faults : List Refusal) (trees : List OrderedNode) (found : Found) : Type 0 where
  pub fault_is : found.fault ≡ first_of_faults faults
  pub trees_are : found.fault ≡ None → found.written.nodes ≡ trees
