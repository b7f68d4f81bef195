-- Looking names up among the predicates and constructors of those names alone.
use Rattle.std.proofs.Common.{◌≡◌, ℕ, ◌+◌, Bool, true, false, cond, ◌&&◌, ◌||◌, not, Option, Some, List, [], ◌∷◌, ◌++◌, length, suc, refl, sym, ap, ◌∙◌, arith, if◌then◌else◌, add-zero, zero-add, add_assoc, slice_get}
use Rattle.std.specs.List.{find, list_any, position_or_len}
use Rattle.std.specs.Option.{option_map}
use Rattle.std.proofs.lemmas.List.Folds.{list_any-append}
use Rattle.merc_tree.specs.declared.declarations.Constructor.{Constructor}
use Rattle.merc_tree.specs.declared.declarations.TypeDef.{TypeDef}
use Rattle.merc_tree.specs.declared.declarations.PredDecl.{PredDecl}
use Rattle.merc_tree.specs.declared.declarations.Module.{Module}
use Rattle.merc_name_resolution.specs.declared.callee.Callee.TheVariants.{Predicate, Error}
use Rattle.merc_name_resolution.specs.Known.{allows, callee_in, constructor_in, has_name, is_error, is_predicate}
use Rattle.merc_name_resolution.specs.Indexing.{any_allowed, constructors_among, constructors_of, first_allowed, is_named, predicates_from}

-- one predicate more in front
first_with : (own : ℕ) (qualifier : Option ℕ) (n none : ℕ) (declared : PredDecl) (others : List (ℕ × PredDecl)) (place : ℕ) → first_allowed own qualifier others none ≡ (n + 1) + place
    → (named allowed : Bool) → allows own qualifier declared.unit ≡ allowed
    → first_allowed own qualifier (if named then (n, declared) ∷ others else others) none ≡ n + cond (not (named && allowed)) (1 + place) 0
first_with own qualifier n none declared others place rest false allowed is = rest ∙ add_assoc n 1 place
first_with own qualifier n none declared others place rest true true is = rw is (sym (add-zero n))
first_with own qualifier n none declared others place rest true false is = rw is (rest ∙ add_assoc n 1 place)

pub first_place : (own name arity : ℕ) (qualifier : Option ℕ) (n : ℕ) (preds : List PredDecl)
    → first_allowed own qualifier (predicates_from n preds name arity) (n + length preds) ≡ n + position_or_len (is_predicate own name qualifier arity) preds
first_place own name arity qualifier n [] = refl
first_place own name arity qualifier n (declared ∷ rest) =
    let count : n + suc (length rest) ≡ (n + 1) + length rest = omega arith in
    first_with own qualifier n (n + suc (length rest)) declared (predicates_from (n + 1) rest name arity) (position_or_len (is_predicate own name qualifier arity) rest)
    (rw count (first_place own name arity qualifier (n + 1) rest)) (is_named name arity declared) (allows own qualifier declared.unit) refl

-- what a call is of where it is not of `error/1`
pub callee_at : (found : Module) (name : ℕ) (qualifier : Option ℕ) (arity place : ℕ) → is_error found name qualifier arity ≡ false
    → place ≡ first_allowed found.name qualifier (predicates_from 0 found.preds name arity) (length found.preds)
    → Predicate place ≡ callee_in found name qualifier arity
callee_at found name qualifier arity place no_error place_is =
    let number = position_or_len (is_predicate found.name name qualifier arity) found.preds in
    let first = first_allowed found.name qualifier (predicates_from 0 found.preds name arity) in
    let same : place ≡ number =
    place_is ∙ ap first (sym (zero-add (length found.preds))) ∙ first_place found.name name arity qualifier 0 found.preds ∙ zero-add number in
    ap Predicate same ∙ ap (λ (b : Bool). if b then Error else Predicate number) (sym no_error)

and_false : (b : Bool) → false ≡ (b && false)
and_false true = refl
and_false false = refl

module _ (own : ℕ) (qualifier : Option ℕ) (name arity : ℕ) where
  any_with : (declared : TypeDef) (constructor : Constructor) (others : List (TypeDef × Constructor)) (named allowed any : Bool)
      → allows own qualifier declared.unit ≡ allowed → any_allowed own qualifier others ≡ (allowed && any)
      → any_allowed own qualifier (if named then (declared, constructor) ∷ others else others) ≡ (allowed && (named || any))
  any_with declared constructor others false allowed any is rest = rest
  any_with declared constructor others true true any is rest = rw is refl
  any_with declared constructor others true false any is rest = rw is rest

  any_of_type : (declared : TypeDef) (all : List Constructor) → any_allowed own qualifier (constructors_among declared all name arity) ≡ (allows own qualifier declared.unit && list_any (has_name name arity) all)
  any_of_type declared [] = and_false (allows own qualifier declared.unit)
  any_of_type declared (constructor ∷ rest) =
      any_with declared constructor (constructors_among declared rest name arity) (has_name name arity constructor) (allows own qualifier declared.unit) (list_any (has_name name arity) rest)
      refl (any_of_type declared rest)

  pub any_place : (types : List TypeDef) → any_allowed own qualifier (constructors_of types name arity) ≡ list_any (λ declared. allows own qualifier declared.unit && list_any (has_name name arity) declared.constructors) types
  any_place [] = refl
  any_place (declared ∷ rest) =
      list_any-append (λ (each : TypeDef × Constructor). allows own qualifier each.0.unit) (constructors_among declared declared.constructors name arity) (constructors_of rest name arity)
      ∙ ap (λ (b : Bool). b || any_allowed own qualifier (constructors_of rest name arity)) (any_of_type declared declared.constructors)
      ∙ ap (λ (b : Bool). (allows own qualifier declared.unit && list_any (has_name name arity) declared.constructors) || b) (any_place rest)

-- the first of a type's constructors, or of others behind them
first_with_type : (declared : TypeDef) (constructor : Constructor) (these others : List (TypeDef × Constructor)) (named any : Bool) (found : Option Constructor)
    → slice_get (these ++ others) 0 ≡ (if any then option_map (λ each. (declared, each)) found else slice_get others 0)
    → slice_get ((if named then (declared, constructor) ∷ these else these) ++ others) 0
    ≡ (if named || any then option_map (λ each. (declared, each)) (cond named (Some constructor) found) else slice_get others 0)
first_with_type declared constructor these others true any found rest = refl
first_with_type declared constructor these others false any found rest = rest

first_of_type : (declared : TypeDef) (all : List Constructor) (others : List (TypeDef × Constructor)) (name arity : ℕ) →
    slice_get (constructors_among declared all name arity ++ others) 0 ≡
    (if list_any (has_name name arity) all then option_map (λ constructor. (declared, constructor)) (find (has_name name arity) all) else slice_get others 0)
first_of_type declared [] others name arity = refl
first_of_type declared (constructor ∷ rest) others name arity =
    first_with_type declared constructor (constructors_among declared rest name arity) others (has_name name arity constructor) (list_any (has_name name arity) rest)
    (find (has_name name arity) rest) (first_of_type declared rest others name arity)

pub first_constructor : (types : List TypeDef) (name arity : ℕ) → slice_get (constructors_of types name arity) 0 ≡ constructor_in types name arity
first_constructor [] name arity = refl
first_constructor (declared ∷ rest) name arity =
    first_of_type declared declared.constructors (constructors_of rest name arity) name arity
    ∙ ap (λ (o : Option (TypeDef × Constructor)).
    if list_any (has_name name arity) declared.constructors then option_map (λ constructor. (declared, constructor)) (find (has_name name arity) declared.constructors) else o)
    (first_constructor rest name arity)
