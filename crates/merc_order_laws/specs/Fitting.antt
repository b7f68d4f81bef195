-- Laws of symbols and the types of their variables.
use Rattle.std.specs.Prelude.{ℕ, List}
use Rattle.std.specs.List.{IsDistinct}
use Rattle.std.specs.Str.{bytes_eq}
use Rattle.merc_base.specs.Names.{HoldsFixed}
use Rattle.merc_tree.specs.Term.{Term}
use Rattle.merc_tree.specs.Types.{TypeExpr}
use Rattle.merc_tree.specs.declared.declarations.ModeDecl.{ModeDecl}
use Rattle.merc_tree.specs.declared.declarations.Module.{Module}
use Rattle.merc_tree.specs.declared.declarations.TypeDef.{TypeDef}
use Rattle.merc_graded_tree.specs.Nodes.{Node, node, Goal, Basic, Conjunction, Disjunction, Switch, Conditional, Negation, Quantified, Nodes, no_nodes, more_nodes}
use Rattle.merc_order.specs.Bound.{Bound}
use Rattle.merc_order.specs.Ordered.{Ordered}
use Rattle.merc_order.specs.Spelt.{spelt}
use Rattle.merc_items.specs.ReadModule.{IsModule}
use Rattle.merc_grading.specs.Fitting.{AreToldApart, Fits}
use Rattle.merc_grading.specs.Switches.{find}
use Rattle.merc_order_laws.specs.TypedTree.{IsTypedTree}

abbrev mutual
  -- no part of a goal is a switch
  pub HasNoSwitch : Node → Type 0
  HasNoSwitch (node goal outputs category span) = HasNoSwitchIn goal

  pub HasNoSwitchIn : Goal → Type 0
  HasNoSwitchIn (Basic goal) = Unit {0}
  HasNoSwitchIn (Conjunction running goals) = HaveNoSwitch goals
  HasNoSwitchIn (Disjunction goals) = HaveNoSwitch goals
  HasNoSwitchIn (Switch variable arms) = ⊥
  HasNoSwitchIn (Conditional condition then_part else_part) = HasNoSwitch condition × HasNoSwitch then_part × HasNoSwitch else_part
  HasNoSwitchIn (Negation goal) = HasNoSwitch goal
  HasNoSwitchIn (Quantified own goal) = HasNoSwitch goal

  pub HaveNoSwitch : Nodes → Type 0
  HaveNoSwitch no_nodes = Unit {0}
  HaveNoSwitch (more_nodes first rest) = HasNoSwitch first × HaveNoSwitch rest

-- An ordered goal with its tests written out has no switch yet.
abbrev pub SpeltHasNoSwitch : Type 0
SpeltHasNoSwitch = (modes : ℕ → List ModeDecl) (number : ℕ) (ordered : Ordered) → HasNoSwitch (spelt modes number ordered)

-- In a typed goal the symbols fit the types of their variables, where the declared types are told apart.
abbrev pub TypedFits : Type 0
TypedFits = (known : Module) (types : ℕ → TypeExpr) (tree : Node) → AreToldApart known.types → HasNoSwitch tree → IsTypedTree known types tree → Fits known.types types tree

-- They still fit once switches are found.
abbrev pub FoundFits : Type 0
FoundFits = (declared : List TypeDef) (types : ℕ → TypeExpr) (bound : Bound) (tree : Node) → Fits declared types tree → Fits declared types (find declared types bound tree)

-- The types of a module that a text is are told apart, those of library units among them. The table of names is as each is: the constants come first, and
-- each text stands once.
abbrev pub TypesAreToldApart : Type 0
TypesAreToldApart = (before after : List (List ℕ)) (text : List ℕ) (terms : List Term) (found : Module)
    → HoldsFixed before → IsDistinct bytes_eq before → IsModule before after text terms found → AreToldApart found.types
