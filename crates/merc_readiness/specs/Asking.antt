-- Whether a goal is ready, asked again and again while more is bound, and the marks of how far its parts have come.
use Rattle.std.specs.Prelude.{◌≡◌, ℕ, Bool, true, List, [], ◌∷◌, ◌++◌}
use Rattle.merc_tree.specs.declared.declarations.ModeDecl.{ModeDecl}
use Rattle.merc_tree.specs.declared.declarations.PredDecl.{PredDecl}
use Rattle.merc_goal_tree.specs.Nodes.{Node, Nodes, Simple, Conjunction, Parallel, Disjunction, Conditional, Negation, Quantified, no_nodes, more_nodes}
use Rattle.merc_order.specs.Bound.{Bound}
use Rattle.merc_order.specs.Marks.{Marked, no_marks, more_marks, part, IsSound}
use Rattle.merc_order.specs.Order.{from}
use Rattle.merc_order.specs.Ordered.{is_ready}
use Rattle.merc_order.specs.Procedures.{modes_of}
use Rattle.merc_goal_facts.specs.Facts.{AreFactsOf, AreKnown, subgoals, all_subgoals}
use Rattle.merc_goal_facts.specs.declared.facts.Facts.{Facts}

-- marks in the order of the parts: those of a part's own parts before its own
abbrev pub flags_of : Marked → List Bool
flags_of no_marks = []
flags_of (more_marks went inner rest) = flags_of inner ++ went ∷ flags_of rest

-- the goals that a goal joins
abbrev pub joined_by : Node → Nodes
joined_by (Simple goal span) = no_nodes
joined_by (Conjunction goals span) = goals
joined_by (Parallel goals span) = goals
joined_by (Disjunction goals span) = goals
joined_by (Conditional condition then_part else_part span) = more_nodes condition (more_nodes then_part (more_nodes else_part no_nodes))
joined_by (Negation goal span) = more_nodes goal no_nodes
joined_by (Quantified own goal span) = more_nodes goal no_nodes

-- There is a mark for each of these goals and for each of their parts.
pub data Fits : Nodes → Marked → Type 0 where
  none : Fits no_nodes no_marks
  more : (first : Node) (rest : Nodes) (went : Bool) (inner others : Marked) → Fits (joined_by first) inner → Fits rest others → Fits (more_nodes first rest) (more_marks went inner others)

-- Given are how often each variable occurs in the whole, and the modes of each predicate.
module _ (total : ℕ → ℕ) (modes : ℕ → List ModeDecl) where
  -- The marks of a goal's parts, its own the last. A goal that is marked can be ordered, and of one that is not the parts have come as far as they are marked.
  pub record IsMarked (goal : Node) (flags : List Bool) (bound : Bound) : Type 0 where
    pub inner : Marked
    pub went : Bool
    pub fits : Fits (joined_by goal) inner
    pub flags_are : flags ≡ flags_of inner ++ went ∷ []
    pub sound : part went (is_ready (from total modes goal bound) ≡ true) (IsSound total modes goal inner bound)

  -- The same of the parts of a goal that is not marked, without its own mark.
  pub record AreMarked (goal : Node) (flags : List Bool) (bound : Bound) : Type 0 where
    pub inner : Marked
    pub fits : Fits (joined_by goal) inner
    pub flags_are : flags ≡ flags_of inner
    pub sound : IsSound total modes goal inner bound

-- A goal that is asked with right marks tells whether it is ready. Its marks stay right, and it is marked where it is ready.
abbrev pub Asked : List PredDecl → Node → List Facts → List Bool → List Bool → Bound → Bool → Type 0
Asked predicates goal facts old new bound ready =
    (total : ℕ → ℕ) → AreKnown total (modes_of predicates) (subgoals goal) facts → IsMarked total (modes_of predicates) goal old bound
    → (is_ready (from total (modes_of predicates) goal bound) ≡ ready) × ((marked : IsMarked total (modes_of predicates) goal new bound) × (marked.went ≡ ready))

-- The same of a goal that is not marked, by its parts. It is given the facts of the parts, and its own.
abbrev pub AskedParts : List PredDecl → Node → List Facts → Facts → List Bool → List Bool → Bound → Bool → Type 0
AskedParts predicates goal facts own old new bound ready =
    (total : ℕ → ℕ) → AreKnown total (modes_of predicates) (all_subgoals (joined_by goal)) facts → AreFactsOf total (modes_of predicates) goal own
    → AreMarked total (modes_of predicates) goal old bound
    → (is_ready (from total (modes_of predicates) goal bound) ≡ ready) × AreMarked total (modes_of predicates) goal new bound
