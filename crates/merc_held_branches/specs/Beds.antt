-- What goes through cells and joins.
use Rattle.std.specs.Prelude.{◌≡◌, ℕ, suc, List, [], ◌∷◌, ◌++◌, Some}
use Rattle.merc_value.specs.Block.{BlockData}
use Rattle.merc_script.specs.declared.outcome.Outcome.{Outcome}
use Rattle.merc_script.specs.declared.outcome.Outcome.TheVariants.{Ok as Fine, Raise, Limit, Starved, NoMemory}
use Rattle.merc_script.specs.Script.{Script, WaitThen, end_of}
use Rattle.merc_script.specs.Places.{Name, left_of, script_named}
use Rattle.atomic_table.specs.Seated.{TableId}
use Rattle.merc_yard.specs.declared.berth.Berth.{Berth}
use Rattle.merc_yard.specs.declared.spot.Fill.{Fill}
use Rattle.merc_yard.specs.declared.spot.Fill.TheVariants.{Filled}
use Rattle.merc_yard.specs.declared.spot.Purpose.{Purpose}
use Rattle.merc_yard.specs.declared.spot.Purpose.TheVariants.{Waits}
use Rattle.merc_yard.specs.Berths.{IsBerth, spot_of}
use Rattle.merc_yard.specs.Slots.{no_table}
use Rattle.merc_held_branches.specs.Spots.{place}

-- a table as numbers
abbrev pub numbers : TableId → List ℕ
numbers z = z.words ∷ z.slots ∷ z.views_name ∷ z.atom ∷ z.block ∷ z.offset ∷ z.slot_names

-- the name of a cell of a board with this yard
abbrev pub cell_name : TableId → ℕ → List ℕ
cell_name table cell = cell ∷ numbers table

abbrev pub cell_named : List ℕ → ℕ
cell_named [] = 0
cell_named (cell ∷ table) = cell

-- the table of numbers
abbrev pub table_from : List ℕ → TableId
table_from (words ∷ slots ∷ views_name ∷ atom ∷ block ∷ offset ∷ slot_names) = record { words = words; slots = slots; views_name = views_name; atom = atom; block = block; offset = offset; slot_names = slot_names }
table_from _ = no_table

abbrev pub table_named : List ℕ → TableId
table_named [] = no_table
table_named (cell ∷ table) = table_from table

-- the name is that of a cell of a board with this yard
abbrev pub IsNamed : TableId → List ℕ → Type 0
IsNamed table name = name ≡ cell_name table (cell_named name)

abbrev pub FitsCell : (ℕ → BlockData → Type 0) → List ℕ → BlockData → Type 0
FitsCell shows name value = shows (cell_named name) value

-- a berth of this yard, whose spot names the yard too
abbrev pub IsMoored : TableId → Fill → Purpose → Berth → Type 0
IsMoored table fill purpose berth = IsBerth table fill (spot_of berth) berth × ((spot_of berth).yard.table_id ≡ table) × ((spot_of berth).purpose ≡ purpose)

-- a branch lies there that waits for the cell of this name
pub record WaitsFor (root : Script) (name : List ℕ) (berth : Berth) : Type 0 where
  pub cell : ℕ
  pub rest : Script
  pub named : name ≡ cell_name berth.badge.table_id cell
  pub moored : IsMoored berth.badge.table_id Filled Waits berth
  pub left : left_of (place root (spot_of berth)) ≡ Some (WaitThen cell rest)

-- the script of this name ends so
abbrev pub IsEnd : Script → Name → Outcome → Type 0
IsEnd root name outcome = (script : Script) × (script_named name (Some root) ≡ Some script) × (end_of script ≡ outcome)

-- an outcome is the end of the script of this name, or want of memory, or a value that does not come
abbrev pub EndsAs : Script → Name → Outcome → Type 0
EndsAs root name (Fine steps) = IsEnd root name (Fine steps)
EndsAs root name (Raise text steps) = IsEnd root name (Raise text steps)
EndsAs root name Limit = IsEnd root name Limit
EndsAs root name Starved = Unit {0}
EndsAs root name NoMemory = Unit {0}

-- the name of a child of the branch in a berth; children are numbered from 0
abbrev pub child_name : Berth → ℕ → Name
child_name berth child = (spot_of berth).name ++ ((spot_of berth).passed, suc child) ∷ []

abbrev pub EndsChild : Script → Berth → ℕ → Outcome → Type 0
EndsChild root berth child outcome = EndsAs root (child_name berth child) outcome
