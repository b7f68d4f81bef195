-- How a declared type is built, part by part.
use Rattle.std.specs.Prelude.{◌≡◌, ℕ, ◌+◌, ◌<◌, true, List, [], ◌∷◌, ◌++◌, length, map, Option, Some, None}
use Rattle.std.specs.Option.{IfSome}
use Rattle.std.specs.Ordering.{nat_cmp}
use Rattle.std.specs.BTreeMap.{BTreeMap, get}
use Rattle.merc_tree.specs.Types.{TypeExpr, replaced}
use Rattle.merc_type_table.specs.Table.{type_at, with_first, is_application}
use Rattle.merc_type_table.specs.Frames.{with_all}
use Rattle.merc_type_matching.specs.Weights.{type_weight}
use Rattle.merc_type_check.specs.declared.building.Frame.{Frame}
use Rattle.merc_type_check.specs.declared.checker.Checker.{Checker}
use Rattle.merc_type_check.specs.Progress.{Types, Instances, Step, Nothing, Stands, AllStand}

-- one more place
pub record HasMore (old new : Frame) (place : ℕ) : Type 0 where
  pub same_number : new.number ≡ old.number
  pub same_rest : new.rest ≡ old.rest
  pub more_places : new.places.items ≡ old.places.items ++ place ∷ []

-- a type's name over arguments is the first one before the others
pub record IsSplit (table : List TypeExpr) (number first rest : ℕ) : Type 0 where
  pub first_there : first < length table
  pub rest_there : rest < length table
  pub complete : is_application (type_at table rest) ≡ true
  pub is : type_at table number ≡ with_first (type_at table first) (type_at table rest)

-- Given are the declared types, by numbers.
module _ (table : List TypeExpr) where
  -- how much is left to build
  abbrev pub waiting_weight : List Frame → ℕ
  waiting_weight [] = 0
  waiting_weight (frame ∷ frames) = type_weight (type_at table frame.rest) + waiting_weight frames

  abbrev pub frames_weight : Frame → List Frame → ℕ
  frames_weight top below = type_weight (type_at table top.rest) + waiting_weight below

-- Given is the number of the part of the goal that uses the declaration.
module _ (user : ℕ) where
  -- the declared type at a number, in which type variables are what they stand for
  abbrev pub instance_at : List TypeExpr → ℕ → Types → Instances → TypeExpr
  instance_at table number types instance = replaced (instance user) (type_at table number)

  -- these declared types
  abbrev pub instances_of : List TypeExpr → Types → Instances → List TypeExpr
  instances_of declared types instance = map (replaced (instance user)) declared

  -- at the places of numbers stand their types
  abbrev pub AreBuilt : List TypeExpr → Checker → BTreeMap ℕ ℕ → Type 0
  AreBuilt table checker built = (number : ℕ) → IfSome (get nat_cmp built number) (λ place. Stands checker place (instance_at table number))

  -- a type stands at a place, or its arguments have to be built
  abbrev pub IsFound : Checker → TypeExpr → Option ℕ → Type 0
  IsFound checker type None = is_application type ≡ true
  IsFound checker type (Some place) = Stands checker place (λ types instance. replaced (instance user) type)

  pub record Finds (old new : Checker) (built : BTreeMap ℕ ℕ) (number : ℕ) (found : Option ℕ) : Type 0 where
    pub grows : Step old new Nothing
    pub parts : AreBuilt old.graph.table new built
    pub stands : IsFound new (type_at old.graph.table number) found

  pub record Finishes (old new : Checker) (built : BTreeMap ℕ ℕ) (number place : ℕ) : Type 0 where
    pub grows : Step old new Nothing
    pub parts : AreBuilt old.graph.table new built
    pub stands : Stands new place (instance_at old.graph.table number)

  -- At these places stand the first arguments of a whole type, of which the rest is its name over the others.
  pub record IsFilled (checker : Checker) (places : List ℕ) (rest whole : TypeExpr) : Type 0 where
    pub arguments : List TypeExpr
    pub stand : AllStand checker places (instances_of arguments)
    pub is : with_all arguments rest ≡ whole

  -- Given are the declared types, by numbers.
  module _ (table : List TypeExpr) where
    -- a frame lacks this type as its next argument, the next one lacks what becomes of that, and so on up to the whole
    abbrev pub AreWaiting : Checker → TypeExpr → List Frame → TypeExpr → Type 0
    AreWaiting checker type [] whole = type ≡ whole
    AreWaiting checker type (frame ∷ frames) whole =
        (frame.rest < length table) × (is_application (type_at table frame.rest) ≡ true)
        × IsFilled checker frame.places.items (with_first type (type_at table frame.rest)) (type_at table frame.number)
        × AreWaiting checker (type_at table frame.number) frames whole

  -- a whole type is built: the frame in work, and those that wait for it, the last one first
  pub record IsUnderWay (start now : Checker) (built : BTreeMap ℕ ℕ) (top : Frame) (below : List Frame) (whole : TypeExpr) : Type 0 where
    pub grows : Step start now Nothing
    pub parts : AreBuilt start.graph.table now built
    pub here : top.rest < length start.graph.table
    pub named : is_application (type_at start.graph.table top.rest) ≡ true
    pub filled : IsFilled now top.places.items (type_at start.graph.table top.rest) (type_at start.graph.table top.number)
    pub waiting : AreWaiting start.graph.table now (type_at start.graph.table top.number) below whole
