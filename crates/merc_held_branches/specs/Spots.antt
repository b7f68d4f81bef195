-- Spots and places.
use Rattle.std.specs.Prelude.{◌≡◌, ℕ, suc, ◌+◌, [], ◌∷◌, ◌++◌, Option, Some, None}
use Rattle.merc_script.specs.Script.{Script, Ends, TickThen, WaitThen, SignalThen, ForkThen, count}
use Rattle.merc_script.specs.Places.{Place, left_of}
use Rattle.merc_yard.specs.declared.spot.Spot.{Spot}
use Rattle.merc_yard.specs.declared.spot.Purpose.{Purpose}
use Rattle.merc_yard.specs.declared.spot.Purpose.TheVariants.{Ready, Waits, Forks, Free}

-- the place of a spot in a root script
abbrev pub place : Script → Spot → Place
place root o = record { root = root; name = o.name; passed = o.passed }

-- how many items stand before the next one at which a branch parks, or the end
abbrev pub parking : Script → ℕ
parking (Ends end) = 0
parking (TickThen rest) = suc (parking rest)
parking (WaitThen cell rest) = 0
parking (SignalThen cell rest) = suc (parking rest)
parking (ForkThen limit cells moves children rest) = 0

abbrev pub parking_in : Option Script → ℕ
parking_in None = 0
parking_in (Some script) = parking script

-- how many items are passed where a branch parks next that stands at a place
abbrev pub parked : Place → ℕ
parked at = at.passed + parking_in (left_of at)

-- this spot for another purpose
abbrev pub used : Purpose → Spot → Spot
used purpose o = record { name = o.name; passed = o.passed; purpose = purpose; yard = o.yard }

-- where a branch of this spot parks next
abbrev pub parked_for : Purpose → Script → Spot → Spot
parked_for purpose root o = record { name = o.name; passed = parked (place root o); purpose = purpose; yard = o.yard }

-- behind the item of a spot
abbrev pub behind : Spot → Spot
behind o = record { name = o.name; passed = suc o.passed; purpose = Ready; yard = o.yard }

-- where a branch stands that comes out of a berth
abbrev pub after_as : Purpose → Spot → Spot
after_as Ready o = used Ready o
after_as Waits o = behind o
after_as Forks o = behind o
after_as Free o = used Free o

abbrev pub after : Spot → Spot
after o = after_as o.purpose o

-- the beginning of a child of the Fork at a spot; children are numbered from 1
abbrev pub child_spot : Spot → ℕ → Spot
child_spot o child = record { name = o.name ++ (o.passed, child) ∷ []; passed = 0; purpose = Ready; yard = o.yard }

-- From the spot the branch has passed Ticks and Signals alone.
pub record Reaches (root : Script) (o : Spot) (at : Place) : Type 0 where
  pub same_root : at.root ≡ root
  pub same_name : at.name ≡ o.name
  pub same_end : parked at ≡ parked (place root o)

-- the number of children of the Fork that is left
abbrev pub fork_count : Option Script → ℕ
fork_count None = 0
fork_count (Some (Ends end)) = 0
fork_count (Some (TickThen rest)) = 0
fork_count (Some (WaitThen cell rest)) = 0
fork_count (Some (SignalThen cell rest)) = 0
fork_count (Some (ForkThen limit cells moves children rest)) = count children
