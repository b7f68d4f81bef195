-- The cells of a fork that are made for its children.
use Rattle.std.specs.Prelude.{ℕ, zero, suc, List, [], ◌∷◌, Option, Some, None}
use Rattle.merc_script.specs.Script.{Script, Ends, TickThen, WaitThen, SignalThen, ForkThen}
use Rattle.merc_script.specs.Places.{left_of}
use Rattle.merc_yard.specs.declared.spot.Spot.{Spot}
use Rattle.merc_yard.specs.declared.spot.Purpose.TheVariants.{Forks}
use Rattle.merc_board.specs.declared.fork.SharedCell.{SharedCell}
use Rattle.merc_board.specs.Rights.{Rights, own_waits, own_signals}
use Rattle.merc_board.specs.Boarding.{numbers_of}
use Rattle.merc_held_branches.specs.Spots.{place, parked_for}

-- the cells of the fork with which a script begins
abbrev pub cells_of : Option Script → List ℕ
cells_of None = []
cells_of (Some (Ends end)) = []
cells_of (Some (TickThen rest)) = []
cells_of (Some (WaitThen cell rest)) = []
cells_of (Some (SignalThen cell rest)) = []
cells_of (Some (ForkThen limit cells moves children rest)) = numbers_of cells

-- those of the fork at which a branch of a spot parks next
abbrev pub cells_ahead : Script → Spot → List ℕ
cells_ahead root o = cells_of (left_of (place root (parked_for Forks root o)))

abbrev pub number_at : List ℕ → ℕ → ℕ
number_at [] place = 0
number_at (first ∷ rest) zero = first
number_at (first ∷ rest) (suc place) = number_at rest place

-- the rights to these cells of a fork that a child has, or the parent, which is 0
abbrev pub own_rights : List SharedCell → List ℕ → ℕ → Rights
own_rights shared cells number = record { waits = own_waits number shared cells; signals = own_signals number shared cells }
