-- What a berth knows of its slot.
use Rattle.std.specs.Prelude.{◌≡◌, ◌<◌, List, [], ◌∷◌}
use Rattle.atomic_table.specs.Seated.{TableId}
use Rattle.merc_yard.specs.declared.spot.Spot.{Spot}
use Rattle.merc_yard.specs.declared.spot.Label.{Label}
use Rattle.merc_yard.specs.declared.spot.Fill.{Fill}
use Rattle.merc_yard.specs.declared.spot.Fill.TheVariants.{Vacant, Filled}
use Rattle.merc_yard.specs.declared.berth.Berth.{Berth}
use Rattle.merc_yard.specs.Slots.{label, nowhere}

abbrev pub spot_told : List Label → Spot
spot_told [] = nowhere
spot_told (view ∷ others) = view.spot

-- the spot for which a berth is
abbrev pub spot_of : Berth → Spot
spot_of berth = spot_told berth.badge.views

-- A berth of this yard: it has a slot there, and its one view says what is known of this slot, and for which spot it is.
abbrev pub IsBerth : TableId → Fill → Spot → Berth → Type 0
IsBerth table fill spot berth = (berth.badge.table_id ≡ table) × (berth.slot < table.slots) × (berth.badge.views ≡ label berth.slot fill spot ∷ [])

-- nothing lies there
abbrev pub IsVacant : TableId → Spot → Berth → Type 0
IsVacant table spot berth = IsBerth table Vacant spot berth

-- something lies there, which fits the spot
abbrev pub IsFilled : TableId → Spot → Berth → Type 0
IsFilled table spot berth = IsBerth table Filled spot berth
