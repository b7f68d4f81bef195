-- Places that are given a whole type.
use Rattle.std.specs.Prelude.{◌≡◌, ℕ, ◌+◌, ◌<◌, Bool, true, false, ◌↔◌, List, [], ◌∷◌, map, length, Option, Some, None}
use Rattle.merc_tree.specs.Types.{TypeExpr, TypeApplication, types_of}
use Rattle.merc_type_table.specs.Table.{type_at}
use Rattle.merc_type_graph.specs.Solutions.{Entry, Unknown, WholeEntry, Applied, Link, Solves}
use Rattle.merc_type_graph.specs.Changes.{AllWithin}
use Rattle.merc_type_graph.specs.Cells.{entries_of, needs_of, roots, IsSound}
use Rattle.merc_type_graph.specs.Joining.{is_whole}
use Rattle.merc_type_graph.specs.Visiting.{size}
use Rattle.merc_type_graph.specs.declared.cell.Known.{Known}
use Rattle.merc_type_graph.specs.declared.cell.Known.TheVariants.{Whole}
use Rattle.merc_type_graph.specs.declared.cell.Cell.{Cell}
use Rattle.merc_type_graph.specs.declared.store.Store.{Store}
use Rattle.merc_type_graph.specs.declared.fixing.Fixing.{Fixing}

-- a type, at whatever place, agrees with an entry
abbrev pub Fits : (ℕ → TypeExpr) → TypeExpr → Entry → Type 0
Fits types type Unknown = Unit {0}
Fits types type (WholeEntry whole) = type ≡ whole
Fits types type (Applied name arguments) = type ≡ TypeApplication name (types_of (map types arguments))
Fits types type (Link other) = type ≡ types other

-- Given are the declared types, by numbers.
module _ (table : List TypeExpr) where
  -- each place has its type
  abbrev pub AllFixed : (ℕ → TypeExpr) → List Fixing → Type 0
  AllFixed types [] = Unit {0}
  AllFixed types (fixing ∷ fixings) = (types fixing.place ≡ type_at table fixing.whole) × AllFixed types fixings

  -- the places are among so many, and the types are there
  abbrev pub AllThere : ℕ → List Fixing → Type 0
  AllThere bound [] = Unit {0}
  AllThere bound (fixing ∷ fixings) = (fixing.place < bound) × (fixing.whole < length table) × AllThere bound fixings

  -- the number of names in the types
  abbrev pub left : List Fixing → ℕ
  left [] = 0
  left (fixing ∷ fixings) = size (type_at table fixing.whole) + left fixings

  -- A whole type fits what is known of a type just where the fixings that are added to the list hold.
  pub record FitsBy (old new : List Fixing) (entry : Entry) (whole : TypeExpr) : Type 0 where
    pub there : (bound : ℕ) → AllThere bound old → AllWithin bound (needs_of entry) → AllThere bound new
    pub equal : (types : ℕ → TypeExpr) → AllFixed types new ↔ (AllFixed types old × Fits types whole entry)
    pub less : left new < left old + size whole

  -- or it does not where those on the list hold
  abbrev pub FitsOrDiffers : Bool → List Fixing → List Fixing → Entry → TypeExpr → Type 0
  FitsOrDiffers true old new entry whole = FitsBy old new entry whole
  FitsOrDiffers false old new entry whole = (types : ℕ → TypeExpr) → AllFixed types old → Fits types whole entry → ⊥

-- One place is given its type, but for those that are added to the list.
pub record Steps (store : Store) (old new : List Cell) (fixings fixings' : List Fixing) (fixing : Fixing) : Type 0 where
  pub sound : IsSound store new
  pub count : length new ≡ length old
  pub same_roots : roots new ≡ roots old
  pub there : AllThere store.table.now (length new) fixings'
  pub equal : (types : ℕ → TypeExpr) → (Solves (entries_of store new) types × AllFixed store.table.now types fixings')
      ↔ (Solves (entries_of store old) types × AllFixed store.table.now types fixings × (types fixing.place ≡ type_at store.table.now fixing.whole))
  pub less : left store.table.now fixings' < left store.table.now fixings + size (type_at store.table.now fixing.whole)

-- or no solution has this type there
abbrev pub StepsOrDiffers : Bool → Store → List Cell → List Cell → List Fixing → List Fixing → Fixing → Type 0
StepsOrDiffers true store old new fixings fixings' fixing = Steps store old new fixings fixings' fixing
StepsOrDiffers false store old new fixings fixings' fixing =
    (types : ℕ → TypeExpr) → Solves (entries_of store old) types → AllFixed store.table.now types fixings → types fixing.place ≡ type_at store.table.now fixing.whole → ⊥

-- A place is given a type.
pub record Fixes (store : Store) (old new : List Cell) (place : ℕ) (whole : TypeExpr) : Type 0 where
  pub sound : IsSound store new
  pub count : length new ≡ length old
  pub same_roots : roots new ≡ roots old
  pub equal : (types : ℕ → TypeExpr) → Solves (entries_of store new) types ↔ (Solves (entries_of store old) types × (types place ≡ whole))

abbrev pub FixesOrDiffers : Bool → Store → List Cell → List Cell → ℕ → TypeExpr → Type 0
FixesOrDiffers true store old new place whole = Fixes store old new place whole
FixesOrDiffers false store old new place whole =
    (types : ℕ → TypeExpr) → Solves (entries_of store old) types → types place ≡ whole → ⊥

-- the whole type that is known, if any
abbrev pub WholeAt : Known → Option ℕ → Type 0
WholeAt known None = is_whole known ≡ false
WholeAt known (Some whole) = known ≡ Whole whole
