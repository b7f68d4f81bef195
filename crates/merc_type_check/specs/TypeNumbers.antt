-- The declared types of a module by numbers.
use Rattle.std.specs.Prelude.{◌≡◌, ℕ, List, [], ◌∷◌, ◌++◌, map, Option, Some, None, slice_get}
use Rattle.std.specs.List.{find}
use Rattle.std.specs.Option.{IfSome}
use Rattle.std.proofs.Common.{refl}
use Rattle.merc_tree.specs.Term.{no_span}
use Rattle.merc_tree.specs.Types.{TypeExpr, TypeVariable, IntType, TextType}
use Rattle.merc_tree.specs.declared.declarations.Constructor.{Constructor}
use Rattle.merc_tree.specs.declared.declarations.TypeDef.{TypeDef}
use Rattle.merc_tree.specs.declared.declarations.PredDecl.{PredDecl}
use Rattle.merc_tree.specs.declared.declarations.Module.{Module}
use Rattle.merc_base.specs.Groups.{kept}
use Rattle.merc_base.specs.declared.groups.Groups.{Groups}
use Rattle.merc_name_resolution.specs.Known.{constructor_in, has_name}
use Rattle.merc_type_table.specs.Table.{types_made}
use Rattle.merc_type_table.specs.Numbering.{Extends, IsNumbering}
use Rattle.merc_type_table.specs.declared.numbering.TypeNumbering.{TypeNumbering}
use Rattle.merc_type_matching.specs.Listed.{AreWithin}
use Rattle.merc_type_check.specs.declared.declared.DeclaredTypes.{DeclaredTypes}

-- the types at these numbers are these
abbrev pub AreNumbers : List TypeExpr → List ℕ → List TypeExpr → Type 0
AreNumbers table numbers types = map (slice_get table) numbers ≡ map Some types

AreNumbers-yes : AreNumbers (IntType ∷ TextType ∷ TypeVariable 8 ∷ []) (2 ∷ 0 ∷ 2 ∷ []) (TypeVariable 8 ∷ IntType ∷ TypeVariable 8 ∷ [])
AreNumbers-yes = refl

AreNumbers-not : AreNumbers (IntType ∷ TextType ∷ []) (1 ∷ []) (IntType ∷ []) → ⊥
AreNumbers-not are = cc

AreNumbers-few : AreNumbers (IntType ∷ TextType ∷ []) (0 ∷ []) (IntType ∷ TextType ∷ []) → ⊥
AreNumbers-few are = cc

-- there are types at the numbers that are kept for constructors
abbrev pub AreAllWithin : List TypeExpr → Groups (List ℕ) → Type 0
AreAllWithin table constructors = (name arity : ℕ) → IfSome (slice_get (kept constructors name arity) 0) (AreWithin table)

-- there are numbers where something is declared, and they are those of its types
abbrev pub NumberOf : {A : Type 0} → (A → List TypeExpr) → List TypeExpr → Option (List ℕ) → Option A → Type 0
NumberOf types table None None = Unit {0}
NumberOf types table None (Some declared) = ⊥
NumberOf types table (Some numbers) None = ⊥
NumberOf types table (Some numbers) (Some declared) = AreNumbers table numbers (types declared)

-- `p(int, A)`
NumberOf-yes : NumberOf (λ (declared : PredDecl). declared.args) (IntType ∷ TextType ∷ TypeVariable 8 ∷ []) (Some (0 ∷ 2 ∷ []))
    (Some (record { name = 7; args = IntType ∷ TypeVariable 8 ∷ []; modes = []; span = no_span; unit = None }))
NumberOf-yes = refl

NumberOf-none : NumberOf (λ (declared : Constructor). declared.args) (IntType ∷ TextType ∷ []) None (Some (record { name = 7; args = [] })) → ⊥
NumberOf-none number = number

pub record AreDeclared (known : Module) (declared : DeclaredTypes) : Type 0 where
  pub predicates : (number : ℕ) → NumberOf (λ (one : PredDecl). one.args) declared.table (slice_get declared.predicates.items number) (slice_get known.preds number)
  pub constructors : (name arity : ℕ) → NumberOf (λ (found : TypeDef × Constructor). found.1.args) declared.table (slice_get (kept declared.constructors name arity) 0) (constructor_in known.types name arity)

-- the numbers that are there
abbrev pub numbers_found : Option (List ℕ) → List ℕ
numbers_found None = []
numbers_found (Some numbers) = numbers

numbers_found-there : numbers_found (slice_get ((3 ∷ 1 ∷ []) ∷ []) 0) ≡ 3 ∷ 1 ∷ []
numbers_found-there = refl

numbers_found-past : numbers_found (slice_get ((3 ∷ 1 ∷ []) ∷ []) 1) ≡ []
numbers_found-past = refl

-- types are added, and those that were there keep their numbers
pub record Grows (old new : TypeNumbering) : Type 0 where
  pub sound : IsNumbering new
  pub extends : Extends (types_made old.nodes.items) (types_made new.nodes.items)

pub record Numbered (old new : TypeNumbering) (numbers : List ℕ) (types : List TypeExpr) : Type 0 where
  pub grows : Grows old new
  pub are : AreNumbers (types_made new.nodes.items) numbers types

pub record NumbersPredicates (old new : TypeNumbering) (predicates : List (List ℕ)) (preds : List PredDecl) : Type 0 where
  pub grows : Grows old new
  pub each : (number : ℕ) → NumberOf (λ (one : PredDecl). one.args) (types_made new.nodes.items) (slice_get predicates number) (slice_get preds number)

-- the first constructor of each name with so many arguments has numbers
abbrev pub NumbersFirst : List TypeExpr → Groups (List ℕ) → List Constructor → Type 0
NumbersFirst table constructors declared =
    (name arity : ℕ) → NumberOf (λ (one : Constructor). one.args) table (slice_get (kept constructors name arity) 0) (find (has_name name arity) declared)

-- constructors are added behind others
pub record Renumbers (old new : TypeNumbering) (before after : Groups (List ℕ)) (added : List Constructor) : Type 0 where
  pub grows : Grows old new
  pub first : (declared : List Constructor) → NumbersFirst (types_made old.nodes.items) before declared → NumbersFirst (types_made new.nodes.items) after (declared ++ added)

pub record NumbersConstructors (old new : TypeNumbering) (constructors : Groups (List ℕ)) (types : List TypeDef) : Type 0 where
  pub grows : Grows old new
  pub each : (name arity : ℕ) → NumberOf (λ (found : TypeDef × Constructor). found.1.args) (types_made new.nodes.items) (slice_get (kept constructors name arity) 0) (constructor_in types name arity)
