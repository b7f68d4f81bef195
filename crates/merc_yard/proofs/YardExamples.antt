-- What the definitions of a yard say.
use Rattle.std.proofs.Common.{◌≡◌, ℕ, List, [], ◌∷◌, refl, ap, arith}
use Rattle.std.specs.Prelude.{Option, Some, None}
use mathlib.Core.Option.{none, some}
use Rattle.atomic_table.specs.Table.{State}
use Rattle.atomic_table.specs.Seated.{TableId}
use Rattle.merc_yard.specs.declared.spot.Spot.{Spot}
use Rattle.merc_yard.specs.declared.spot.Label.{Label}
use Rattle.merc_yard.specs.declared.spot.Fill.{Fill}
use Rattle.merc_yard.specs.declared.spot.Fill.TheVariants.{Dealer, Vacant, Filled, Held}
use Rattle.merc_yard.specs.declared.spot.Purpose.TheVariants.{Ready, Waits}
use Rattle.merc_yard.specs.declared.berth.Berth.{Berth}
use Rattle.merc_yard.specs.Slots.{spot, label, nowhere, no_table, HoldsAs, IsHome}
use Rattle.merc_yard.specs.Berths.{spot_told, spot_of, IsVacant, IsFilled}

-- a yard of two slots, and the place behind two items of the script of the first child of the root's fork behind three items
abbrev yard : TableId
yard = record { words = 1; slots = 2; views_name = 0; atom = 0; block = 0; offset = 0; slot_names = [] }

abbrev there : Spot
there = spot yard ((3, 1) ∷ []) 2 Waits

-- the berth of the second slot, of which this is known
abbrev berth : Fill → Berth
berth fill = record { slot = 1; badge = record { marker = record {}; table_id = yard; id = 1; views = label 1 fill there ∷ [] } }

abbrev fill_told : List Label → Fill
fill_told [] = Held
fill_told (view ∷ others) = view.fill

pub filled-there : IsFilled yard there (berth Filled) × (spot_of (berth Filled) ≡ there)
filled-there = ((refl, omega arith, refl), refl)

-- a berth in which something lies is not vacant
pub filled-vacant : IsVacant yard there (berth Filled) → ⊥
filled-vacant vacant = absurd (let same : Filled ≡ Vacant = ap fill_told vacant.2 in cc (same))

-- and none of another yard, nor for another spot
pub filled-elsewhere : IsFilled no_table there (berth Filled) → ⊥
filled-elsewhere elsewhere = absurd (let near = elsewhere.1 in omega (arith, near))

pub filled-otherwise : IsFilled yard (spot yard ((3, 1) ∷ []) 1 Waits) (berth Filled) → ⊥
filled-otherwise otherwise = absurd (let same : ◌≡◌ {A = ℕ} 2 1 = ap (λ views. (spot_told views).passed) otherwise.2 in omega (arith, same))

-- the number of items that are passed may lie in a berth
abbrev fits : Spot → ℕ → Type 0
fits there number = number ≡ there.passed

pub holds-each : HoldsAs fits Vacant there None × HoldsAs fits Filled there (Some 2)
holds-each = (refl, (2, refl, refl))

pub holds-other : HoldsAs fits Filled there (Some 3) → ⊥
holds-other other = absurd (let is = other.1 in let same : ◌≡◌ {A = ℕ} 3 other.0 = cc (is) in let at = other.2 in omega (arith, same, at))

-- of two slots the first is with its owner, and the second at home
pub home-second : IsHome fits (none ∷ some (Some 2) ∷ []) (λ slot. slot) 0 2 1 1 there Filled
home-second = λ near. (Some 2, refl, (2, refl, refl))

pub home-first : IsHome fits (none ∷ some (Some 2) ∷ []) (λ slot. slot) 0 2 0 0 there Filled → ⊥
home-first home = absurd (let found = (home (omega arith)).1 in cc (found))
