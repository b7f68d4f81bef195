-- Types that are not known yet, as entries that name each other by their places, and what solves them.
use Rattle.std.specs.Prelude.{◌≡◌, ℕ, ◌+◌, List, [], ◌∷◌, map}
use Rattle.merc_tree.specs.Types.{TypeExpr, TypeApplication, types_of}

-- What is known of the type at a place: nothing; that it is a whole type, in which type variables stand for themselves, or a type's name over the types at other
-- places; or that it is the type at another place.
pub data Entry : Type 0 where
  Unknown : Entry
  WholeEntry : (whole : TypeExpr) → Entry
  Applied : (name : ℕ) (arguments : List ℕ) → Entry
  Link : (place : ℕ) → Entry

-- a type at each place agrees with an entry
abbrev pub Agrees : (ℕ → TypeExpr) → ℕ → Entry → Type 0
Agrees types place Unknown = Unit {0}
Agrees types place (WholeEntry whole) = types place ≡ whole
Agrees types place (Applied name arguments) = types place ≡ TypeApplication name (types_of (map types arguments))
Agrees types place (Link other) = types place ≡ types other

-- it agrees with each of some entries, which stand at the places from this one on
abbrev pub SolvesFrom : ℕ → (ℕ → TypeExpr) → List Entry → Type 0
SolvesFrom place types [] = Unit {0}
SolvesFrom place types (first ∷ rest) = Agrees types place first × SolvesFrom (place + 1) types rest

-- types for all places that agree with all entries
abbrev pub Solves : List Entry → (ℕ → TypeExpr) → Type 0
Solves entries types = SolvesFrom 0 types entries

-- a graph: the declared types by numbers, and what is known at each place
pub record Graph : Type 0 where
  pub table : List TypeExpr
  pub entries : List Entry
