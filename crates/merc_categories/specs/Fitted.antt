-- Trees with types for their variables.
use Rattle.std.specs.Prelude.{◌≡◌, ℕ, List, [], ◌∷◌}
use Rattle.merc_tree.specs.Types.{TypeExpr}
use Rattle.merc_tree.specs.declared.declarations.TypeDef.{TypeDef}
use Rattle.merc_graded_tree.specs.Nodes.{Node}
use Rattle.merc_grading.specs.Faults.{Body}
use Rattle.merc_grading.specs.Fitting.{Fits}

-- a tree with a type for each variable
abbrev pub typed_as : (ℕ → TypeExpr) → Node → Body
typed_as types tree = record { types = types; tree = tree }

-- These are bodies of the trees, whose symbols fit the types of their variables.
abbrev pub AreFitted : List TypeDef → List Body → List Node → Type 0
AreFitted declared [] [] = Unit {0}
AreFitted declared [] (tree ∷ trees) = ⊥
AreFitted declared (body ∷ bodies) [] = ⊥
AreFitted declared (body ∷ bodies) (tree ∷ trees) = (body.tree ≡ tree) × Fits declared body.types tree × AreFitted declared bodies trees
