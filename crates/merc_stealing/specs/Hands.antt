-- What a seat of the stealing board has in hand.
use Rattle.std.specs.Prelude.{◌≡◌, Bool, true, false, List, Option, Some, None}
use Rattle.std.specs.declared.alloc.Global.{Global}
use Rattle.merc_script.specs.Script.{Script}
use Rattle.merc_script.specs.Places.{Place}
use Rattle.atomic_table.specs.Seated.{TableId}
use Rattle.crossbeam_deque.specs.Handles.{Pass}
use Rattle.merc_deque.specs.declared.moves.Known.{Known}
use Rattle.merc_deque.specs.declared.sparks.Thief.{Thief}
use Rattle.merc_yard.specs.declared.spot.Spot.{Spot}
use Rattle.merc_held_branches.specs.declared.branch.Hold.{Hold}
use Rattle.merc_held_branches.specs.Spots.{place}
use Rattle.merc_held_branches.specs.Owning.{Runs, Own}
use Rattle.merc_stealing.specs.Parents.{HoldsAt}
use Rattle.merc_stealing.specs.Seats.{ArePasses}

-- the root has no place in a join
abbrev pub is_none : {A : Type 0} → Option A → Bool
is_none None = true
is_none (Some x) = false

abbrev pub is_root_hold : {L : Type 0} → Hold L → Bool
is_root_hold hold = is_none hold.place

module _ {L T : Type 0} (root : Script) (table : TableId) (thieves : List (Thief T)) (passes : List (Pass T (Known T) Global)) where
  abbrev pub OwnOf : Hold L → Place → Type 0
  OwnOf hold at = ArePasses thieves passes × Own root table hold at

  abbrev pub RunsOf : Hold L → Type 0
  RunsOf hold = ArePasses thieves passes × Runs root table hold

  abbrev pub HoldsOf : Hold L → Place → Type 0
  HoldsOf hold at = ArePasses thieves passes × ((o : Spot) × (place root o ≡ at) × HoldsAt root table o hold)
