-- Where the parts of goals stand among those of a whole.
use Rattle.std.specs.Prelude.{◌≡◌, ℕ, ◌+◌, List, [], ◌∷◌, ◌++◌, length}
use Rattle.merc_graded_tree.specs.declared.entries.Label.{Label}
use Rattle.merc_graded_tree.specs.Nodes.{Node}
use Rattle.merc_graded_tree.specs.Labels.{labels_of}

-- Labels stand among others from an index on.
pub record Lies (all : List Label) (first : ℕ) (labels : List Label) : Type 0 where
  pub front : List Label
  pub back : List Label
  pub are : all ≡ front ++ (labels ++ back)
  pub count : length front ≡ first

-- where the parts of goals begin that stand one behind the other, and where they end
abbrev pub starts_of : ℕ → List Node → List ℕ
starts_of start [] = start ∷ []
starts_of start (first ∷ rest) = start ∷ starts_of (start + length (labels_of first)) rest
