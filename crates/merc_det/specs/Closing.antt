-- Goals that become one, with its category.
use Rattle.std.specs.Prelude.{ℕ, ◌-◌, List, [], ◌∷◌, drop, length, Some}
use Rattle.merc_base.specs.declared.category.Category.{Category}
use Rattle.merc_tree.specs.Types.{TypeExpr}
use Rattle.merc_tree.specs.declared.declarations.ModeDecl.{ModeDecl}
use Rattle.merc_tree.specs.declared.declarations.TypeDef.{TypeDef}
use Rattle.merc_goal_tree.specs.declared.goal.Symbol.{Symbol}
use Rattle.merc_graded_tree.specs.declared.entries.Label.{Label}
use Rattle.merc_graded_tree.specs.declared.entries.Root.{Root}
use Rattle.merc_graded_tree.specs.declared.entries.Root.TheVariants.{Basic, Conjunction, Disjunction, Switch, Conditional, Negation, Quantified}
use Rattle.merc_graded_tree.specs.Nodes.{Node}
use Rattle.merc_graded_tree.specs.Roots.{label_of, arity_of, joining, last_joined}
use Rattle.merc_grading.specs.Fitting.{FitsSymbol, FitsBasic}
use Rattle.merc_grading.specs.Grading as grading
use Rattle.merc_grading.specs.Known.{Known, known_behind_basic}

abbrev pub with_category : Label → Category → Label
with_category label category = record { root = label.root; outputs = label.outputs; category = Some category; span = label.span }

-- what is known behind a goal with this root, where what the goals that it joins tell is known already
abbrev pub known_behind_root : Root → Known → Known
known_behind_root (Basic goal) known = known_behind_basic goal known
known_behind_root (Conjunction running count) known = known
known_behind_root (Disjunction count) known = known
known_behind_root (Switch variable symbols) known = known
known_behind_root Conditional known = known
known_behind_root Negation known = known
known_behind_root (Quantified own) known = known

-- Given are the declared types, the modes of each predicate, and the type of each variable.
module _ (declared : List TypeDef) (types : ℕ → TypeExpr) where
  -- a variable is of the type to which the first of these symbols belongs
  abbrev pub FitsFirst : ℕ → List Symbol → Type 0
  FitsFirst variable [] = ⊥
  FitsFirst variable (first ∷ rest) = FitsSymbol declared types variable first

  -- the variable of a split or a switch is of the type of its symbols
  abbrev pub FitsRoot : Root → Type 0
  FitsRoot (Basic goal) = FitsBasic declared types goal
  FitsRoot (Conjunction running count) = Unit {0}
  FitsRoot (Disjunction count) = Unit {0}
  FitsRoot (Switch variable symbols) = FitsFirst variable symbols
  FitsRoot Conditional = Unit {0}
  FitsRoot Negation = Unit {0}
  FitsRoot (Quantified own) = Unit {0}

module _ (declared : List TypeDef) (modes : ℕ → List ModeDecl) (types : ℕ → TypeExpr) where
  -- the category of a goal with this label that joins these, from what is known before it
  abbrev pub category_of : Known → Label → List Node → Category
  category_of known label parts = grading.with_category declared modes types known label.outputs (joining label.root parts)

  -- The last goals, as many as a goal joins, become that goal with its category.
  abbrev pub closed : Known → Node → List Node → List Node
  closed known whole goals =
      let label = label_of whole in
      last_joined (with_category label (category_of known label (drop (length goals - arity_of label.root) goals))) goals
