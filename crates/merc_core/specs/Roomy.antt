-- Room for branches that are woken.
use Rattle.std.specs.Prelude.{◌≡◌, ℕ, ◌<◌, ◌^◌, List, length, Option}
use Rattle.merc_script.specs.declared.items.Item.{Item}
use Rattle.merc_core.specs.declared.branch.Branch.{Branch}
use Rattle.merc_core.specs.declared.cell.Cell.{Cell}
use Rattle.merc_core.specs.World.{Spot}
use Rattle.merc_core.specs.Queues.{waiting_of}
use Rattle.merc_core.specs.Mirror.{Key, Row, Waiting, ShowsPool}

-- a list and those that wait for cells are branches of a pool, of which there are not too many
pub record IsRoomy (cells : ℕ → Option Cell) (list : List Branch) : Type 0 where
  pub items : List Item
  pub queues : Key → List Branch
  pub holds : ℕ → Option ℕ
  pub pool : List Spot
  pub worker : ℕ
  pub shows : ShowsPool items queues holds pool
  pub waits : (cell : ℕ) → queues (Waiting cell) ≡ waiting_of (cells cell)
  pub row : queues (Row worker) ≡ list
  pub few : length pool < 2 ^ 63
