-- What names mean in a module.
use Rattle.std.specs.Prelude.{ℕ, Bool, true, ◌==◌, ◌&&◌, nat_lt, List, [], ◌∷◌, length, Option, Some, None, if◌then◌else◌}
use Rattle.std.specs.Option.{option_map}
use Rattle.std.specs.List.{find, list_any, position_or_len}
use Rattle.merc_base.specs.Names.{error_name, require_name}
use Rattle.merc_tree.specs.declared.declarations.Constructor.{Constructor}
use Rattle.merc_tree.specs.declared.declarations.TypeDef.{TypeDef}
use Rattle.merc_tree.specs.declared.declarations.PredDecl.{PredDecl}
use Rattle.merc_tree.specs.declared.declarations.Module.{Module}
use Rattle.merc_name_resolution.specs.declared.callee.Callee.{Callee}
use Rattle.merc_name_resolution.specs.declared.callee.Callee.TheVariants.{Predicate, Error}

-- Whether a name with this qualifier may be that of an item of this unit, none for the module's own, in the module of this name.
abbrev pub allows : ℕ → Option ℕ → Option ℕ → Bool
allows own None unit = true
allows own (Some qualifier) None = qualifier == own
allows own (Some qualifier) (Some unit) = qualifier == unit

-- `error/1`, where `require` is imported
abbrev pub is_error : Module → ℕ → Option ℕ → ℕ → Bool
is_error found name qualifier arity =
    (name == error_name) && (arity == 1) && list_any (λ unit. unit == require_name) found.units && allows found.name qualifier (Some require_name)

abbrev pub is_predicate : ℕ → ℕ → Option ℕ → ℕ → PredDecl → Bool
is_predicate own name qualifier arity declared = (declared.name == name) && (length declared.args == arity) && allows own qualifier declared.unit

-- What a call of a name with a qualifier and so many arguments is of: `error`, or the first such predicate, by its number. Where there is none, that is the
-- number of all predicates.
abbrev pub callee_in : Module → ℕ → Option ℕ → ℕ → Callee
callee_in found name qualifier arity =
    if is_error found name qualifier arity then Error
    else Predicate (position_or_len (is_predicate found.name name qualifier arity) found.preds)

-- whether it is there
abbrev pub is_callee : Module → Callee → Bool
is_callee found (Predicate number) = nat_lt number (length found.preds)
is_callee found Error = true

abbrev pub has_name : ℕ → ℕ → Constructor → Bool
has_name name arity constructor = (constructor.name == name) && (length constructor.args == arity)

-- whether a name with a qualifier and so many arguments is a constructor
abbrev pub is_constructor : Module → ℕ → Option ℕ → ℕ → Bool
is_constructor found name qualifier arity =
    list_any (λ declared. allows found.name qualifier declared.unit && list_any (has_name name arity) declared.constructors) found.types

-- the first constructor of this name with so many arguments, and its type
abbrev pub constructor_in : List TypeDef → ℕ → ℕ → Option (TypeDef × Constructor)
constructor_in [] name arity = None
constructor_in (declared ∷ rest) name arity =
    if list_any (has_name name arity) declared.constructors then option_map (λ constructor. (declared, constructor)) (find (has_name name arity) declared.constructors) else constructor_in rest name arity
