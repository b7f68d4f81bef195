-- The rule of a yard: slots, each with one berth, which is a seat whose view names the slot and says what is known of it. And what each step tells.
use Rattle.std.specs.Prelude.{◌≡◌, ℕ, ◌<◌, ◌≤◌, List, [], ◌∷◌, length, Option, Some, None}
use mathlib.Core.Option.{some}
use mathlib.Core.Option as maybe
use lib.ListN.{get_elem?}
use Rattle.atomic_table.specs.Table.{State, Me}
use Rattle.atomic_table.specs.Seated.{TableId}
use Rattle.atomic_table.specs.declared.badge.Badge.{Badge}
use Rattle.merc_yard.specs.declared.spot.Label.{Label}
use Rattle.merc_yard.specs.declared.spot.Purpose.{Purpose}
use Rattle.merc_yard.specs.declared.spot.Purpose.TheVariants.{Free}
use Rattle.merc_yard.specs.declared.spot.Spot.{Spot}
use Rattle.merc_yard.specs.declared.spot.Fill.{Fill}
use Rattle.merc_yard.specs.declared.spot.Fill.TheVariants.{Dealer, Vacant, Filled, Held}

-- what names a yard by its table
abbrev pub names : TableId → Badge (Unit {0})
names table = record { marker = record {}; table_id = table; id = 0; views = [] }

abbrev pub spot : TableId → List (ℕ × ℕ) → ℕ → Purpose → Spot
spot table name passed purpose = record { name = name; passed = passed; purpose = purpose; yard = names table }

-- no yard's table: it has no word
abbrev pub no_table : TableId
no_table = record { words = 0; slots = 0; views_name = 0; atom = 0; block = 0; offset = 0; slot_names = [] }

-- the spot of a berth for which none was picked
abbrev pub nowhere : Spot
nowhere = spot no_table [] 0 Free

abbrev pub label : ℕ → Fill → Spot → Label
label slot fill spot = record { slot = slot; fill = fill; spot = spot }

module _ {T : Type 0} (lies : Spot → T → Type 0) where
  -- what a slot holds of which this is known
  abbrev pub HoldsAs : Fill → Spot → Option T → Type 0
  HoldsAs Dealer spot slot = ⊥
  HoldsAs Vacant spot slot = slot ≡ None
  HoldsAs Filled spot slot = (value : T) × (slot ≡ Some value) × lies spot value
  HoldsAs Held spot slot = ⊥

  module _ (homes : List (maybe.Option (Option T))) (owner : ℕ → ℕ) (dealer next seat slot : ℕ) (spot : Spot) where
    -- the slot is at home, and holds what is known of it
    abbrev pub IsHome : Fill → Type 0
    IsHome fill = slot < length homes → (held : Option T) × (get_elem? homes slot ≡ some (some held)) × HoldsAs fill spot held

    -- a seat's view fits: it deals the berths from the next slot on, or it is the one seat of a slot whose berth was dealt
    abbrev pub Fits : Fill → Type 0
    Fits Dealer = (seat ≡ dealer) × (slot ≡ next)
    Fits Vacant = (owner slot ≡ seat) × (slot < next) × IsHome Vacant
    Fits Filled = (owner slot ≡ seat) × (slot < next) × IsHome Filled
    Fits Held = (owner slot ≡ seat) × (slot < next)

  -- Berths of the slots below `next` were dealt, each to the seat that is its owner, and nothing lies in the others.
  pub record Kept (s : State (Option T) Label) : Type 0 where
    pub owner : ℕ → ℕ
    pub dealer : ℕ
    pub next : ℕ
    pub each_view : (seat : ℕ) (view : Label) → get_elem? s.views seat ≡ some view → Fits s.homes owner dealer next seat view.slot view.spot view.fill
    pub rest_vacant : (slot : ℕ) → next ≤ slot → slot < length s.homes → get_elem? s.homes slot ≡ some (some None)

  -- the seat has its slot, with what was known to lie there, and is for another spot
  abbrev pub Opened : Spot → Me (Option T) Label → Me (Option T) Label → Type 0
  Opened spot m n = (n.0 ≡ label m.0.slot Held spot) × ((held : Option T) × (n.1 ≡ (m.0.slot, held) ∷ m.1) × HoldsAs m.0.fill m.0.spot held)

module _ {T : Type 0} where
  abbrev pub GaveFilled : Me (Option T) Label → Me (Option T) Label → Type 0
  GaveFilled m n = (n.1 ≡ []) × (n.0 ≡ label m.0.slot Filled m.0.spot)

  abbrev pub GaveEmpty : Me (Option T) Label → Me (Option T) Label → Type 0
  GaveEmpty m n = (n.1 ≡ []) × (n.0 ≡ label m.0.slot Vacant m.0.spot)

  abbrev pub Moved : Spot → Me (Option T) Label → Me (Option T) Label → Type 0
  Moved spot m n = (n.1 ≡ []) × (n.0 ≡ label m.0.slot Vacant spot)
