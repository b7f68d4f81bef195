-- The predicates and constructors of a name with so many arguments.
use Rattle.std.specs.Prelude.{◌≡◌, ℕ, ◌+◌, Bool, ◌==◌, ◌&&◌, List, [], ◌∷◌, ◌++◌, length, map, Option, if◌then◌else◌}
use Rattle.std.specs.Borrow.{Bor}
use Rattle.std.specs.List.{list_any}
use Rattle.merc_tree.specs.declared.declarations.Constructor.{Constructor}
use Rattle.merc_tree.specs.declared.declarations.TypeDef.{TypeDef}
use Rattle.merc_tree.specs.declared.declarations.PredDecl.{PredDecl}
use Rattle.merc_tree.specs.declared.declarations.Module.{Module}
use Rattle.merc_base.specs.declared.groups.Groups.{Groups}
use Rattle.merc_base.specs.Groups.{kept}
use Rattle.merc_base.specs.Names.{require_name}
use Rattle.merc_name_resolution.specs.Known.{allows, has_name}

abbrev pub is_named : ℕ → ℕ → PredDecl → Bool
is_named name arity declared = (declared.name == name) && (length declared.args == arity)

-- those among predicates, of which the first has this number
abbrev pub predicates_from : ℕ → List PredDecl → ℕ → ℕ → List (ℕ × PredDecl)
predicates_from number [] name arity = []
predicates_from number (declared ∷ rest) name arity =
    if is_named name arity declared then (number, declared) ∷ predicates_from (number + 1) rest name arity else predicates_from (number + 1) rest name arity

-- the number of the first of these predicates that is allowed
abbrev pub first_allowed : ℕ → Option ℕ → List (ℕ × PredDecl) → ℕ → ℕ
first_allowed own qualifier [] none = none
first_allowed own qualifier (found ∷ rest) none = if allows own qualifier found.1.unit then found.0 else first_allowed own qualifier rest none

-- whether the type of one of these constructors is allowed
abbrev pub any_allowed : ℕ → Option ℕ → List (TypeDef × Constructor) → Bool
any_allowed own qualifier found = list_any (λ each. allows own qualifier each.0.unit) found

abbrev pub constructors_among : TypeDef → List Constructor → ℕ → ℕ → List (TypeDef × Constructor)
constructors_among declared [] name arity = []
constructors_among declared (constructor ∷ rest) name arity =
    if has_name name arity constructor then (declared, constructor) ∷ constructors_among declared rest name arity else constructors_among declared rest name arity

abbrev pub constructors_of : List TypeDef → ℕ → ℕ → List (TypeDef × Constructor)
constructors_of [] name arity = []
constructors_of (declared ∷ rest) name arity = constructors_among declared declared.constructors name arity ++ constructors_of rest name arity

-- what the code keeps: a predicate with its number, a constructor with its type

abbrev pub predicate_seen : ℕ × Bor PredDecl → ℕ × PredDecl
predicate_seen found = (found.0, found.1.now)

abbrev pub constructor_seen : Bor TypeDef × Bor Constructor → TypeDef × Constructor
constructor_seen found = (found.0.now, found.1.now)

-- what is kept of a module: whether `require` is imported, its predicates and its constructors by their names
pub record Indexes (found : Module) (requires : Bool) (predicates : Groups (ℕ × Bor PredDecl)) (constructors : Groups (Bor TypeDef × Bor Constructor)) : Type 0 where
  pub requires_is : requires ≡ list_any (λ unit. unit == require_name) found.units
  pub predicates_are : (name arity : ℕ) → map predicate_seen (kept predicates name arity) ≡ predicates_from 0 found.preds name arity
  pub constructors_are : (name arity : ℕ) → map constructor_seen (kept constructors name arity) ≡ constructors_of found.types name arity
