-- What is known of goals that are complete, by the parts that they are.
use Rattle.std.specs.Prelude.{◌≡◌, ℕ, List, [], ◌∷◌, Some, slice_get}
use Rattle.merc_tree.specs.declared.declarations.ModeDecl.{ModeDecl}
use Rattle.merc_goal_tree.specs.Nodes.{Node, Nodes, no_nodes, more_nodes}
use Rattle.merc_goal_facts.specs.declared.facts.Facts.{Facts}
use Rattle.merc_goal_facts.specs.declared.complete.Complete.{Complete}
use Rattle.merc_goal_facts.specs.Facts.{AreFactsOf}

-- Given are how often each variable occurs in the whole, the modes of each predicate, and the facts of the parts in order.
module _ (total : ℕ → ℕ) (modes : ℕ → List ModeDecl) (facts : List Facts) where
  -- a goal's facts are those of this part
  pub record IsKnown (complete : Complete) (goal : Node) : Type 0 where
    pub found : Facts
    pub there : slice_get facts complete.part ≡ Some found
    pub are : AreFactsOf total modes goal found

  -- the same of goals that are joined
  abbrev pub AreKnown : List Complete → Nodes → Type 0
  AreKnown [] no_nodes = Unit {0}
  AreKnown [] (more_nodes first rest) = ⊥
  AreKnown (complete ∷ others) no_nodes = ⊥
  AreKnown (complete ∷ others) (more_nodes first rest) = IsKnown complete first × AreKnown others rest
