-- Laws of categories.
use Rattle.std.specs.Prelude.{◌≡◌, ℕ, List, [], ◌∷◌, Some, None}
use Rattle.merc_base.specs.declared.category.Category.{Category}
use Rattle.merc_base.specs.declared.category.Category.TheVariants.{Det}
use Rattle.merc_tree.specs.Types.{TypeExpr}
use Rattle.merc_tree.specs.declared.declarations.ModeDecl.{ModeDecl}
use Rattle.merc_tree.specs.declared.declarations.TypeDef.{TypeDef}
use Rattle.merc_graded_tree.specs.Nodes.{Node}
use Rattle.merc_order.specs.Bound.{Bound}
use Rattle.merc_grading.specs.Categories.{then_category, conjunction_category}
use Rattle.merc_grading.specs.Known.{Known}
use Rattle.merc_grading.specs.Grading.{graded}
use Rattle.merc_grading.specs.Switches.{choice}
use Rattle.merc_grading.specs.Choices.{CanSwitch, IsChoice}

-- the category of goals one after the other from the left, behind those of this category
abbrev pub from_left : Category → List Category → Category
from_left before [] = before
from_left before (first ∷ rest) = from_left (then_category before first) rest

-- From the left it is the same as from the right.
abbrev pub FoldsEitherWay : Type 0
FoldsEitherWay = (categories : List Category) → from_left Det categories ≡ conjunction_category categories

-- Grading a graded goal changes nothing.
abbrev pub GradesOnce : Type 0
GradesOnce = (declared : List TypeDef) (modes : ℕ → List ModeDecl) (types : ℕ → TypeExpr) (known : Known) (tree : Node)
    → graded declared modes types known (graded declared modes types known tree) ≡ graded declared modes types known tree

-- The variable that is chosen is the one on which the disjuncts are a switch.
abbrev pub Chooses : Type 0
Chooses = (declared : List TypeDef) (types : ℕ → TypeExpr) (bound : Bound) (used : List ℕ) (disjuncts : List Node) (variable : ℕ)
    → choice declared types bound used disjuncts ≡ Some variable → IsChoice declared types bound used disjuncts variable

-- Where none is chosen, they can be a switch on none.
abbrev pub ChoosesNone : Type 0
ChoosesNone = (declared : List TypeDef) (types : ℕ → TypeExpr) (bound : Bound) (used : List ℕ) (first : Node) (rest : List Node) (variable : ℕ)
    → choice declared types bound used (first ∷ rest) ≡ None → CanSwitch bound used (first ∷ rest) variable → ⊥
