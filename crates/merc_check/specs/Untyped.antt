-- The first clause of a module that is not typed, whatever the flat forms of its clauses are.
use Rattle.std.specs.Prelude.{◌≡◌, List, ◌∷◌, ◌++◌, Option, Some, None}
use Rattle.std.specs.List.{AllByRecursion}
use Rattle.merc_base.specs.declared.place.Span.{Span}
use Rattle.merc_tree.specs.declared.declarations.Clause.{Clause}
use Rattle.merc_tree.specs.declared.declarations.Module.{Module}
use Rattle.merc_goal_tree.specs.Nodes.{Node}
use Rattle.merc_type_check.specs.Typing.{HasTyping}
use Rattle.merc_order_laws.specs.HeadTypes.{declared_arguments}

-- Given are a module and the flat form of each clause.
module _ (known : Module) (form : Clause → Node) where
  abbrev pub IsTypedAs : Clause → Type 0
  IsTypedAs clause = HasTyping known (declared_arguments known clause.head) (form clause)

  -- the first clause that is not typed has this span
  pub record IsUntypedAt (at : Span) : Type 0 where
    pub before : List Clause
    pub clause : Clause
    pub behind : List Clause
    pub whole : known.clauses ≡ before ++ clause ∷ behind
    pub typed : AllByRecursion IsTypedAs before
    pub wrong : IsTypedAs clause → ⊥
    pub spanned : clause.span ≡ at

  -- all clauses are typed, or the first that is not has a span
  abbrev pub FindsUntyped : Option Span → Type 0
  FindsUntyped None = AllByRecursion IsTypedAs known.clauses
  FindsUntyped (Some span) = IsUntypedAt span
