-- What a board is told of a fork, and the rights that it hands out there.
use Rattle.std.specs.Prelude.{◌≡◌, ℕ, ◌≤◌, List, map}
use Rattle.merc_script.specs.Script.{Cell, Children, count}
use Rattle.merc_rights.specs.declared.sites.CellInfo.{CellInfo}
use Rattle.merc_rights.specs.declared.sites.Moved.{Moved}
use Rattle.merc_rights.specs.declared.sites.SiteInfo.{SiteInfo}
use Rattle.merc_board.specs.declared.fork.SharedCell.{SharedCell}
use Rattle.merc_board.specs.declared.fork.Handover.{Handover}
use Rattle.merc_board.specs.Rights.{Rights, child_rights, parent_rights}
use Rattle.merc_board.specs.Boarding.{AreCells, numbers_of}

-- cells, as a board is told them
abbrev pub cells_shared : List CellInfo → List SharedCell
cells_shared cells = map (λ one. record { variable = one.variable; producer = one.producer; consumer = one.consumer }) cells

-- rights that move, as it is told them
abbrev pub moves_given : List Moved → List Handover
moves_given moves = map (λ one. record { variable = one.variable; child = one.child; signal = one.signal }) moves

-- the cells of a site, and the rights that move there
abbrev pub shared_of : SiteInfo → List SharedCell
shared_of info = cells_shared info.cells

abbrev pub given_of : SiteInfo → List Handover
given_of info = moves_given info.moves

-- the rights of a conjunct, numbered from 1, that a branch with these rights forks at a site
abbrev pub rights_of_child : SiteInfo → List Cell → Rights → ℕ → Rights
rights_of_child info cells rights child = child_rights (shared_of info) (given_of info) (numbers_of cells) rights child

-- the rights that it has behind the fork
abbrev pub rights_behind : SiteInfo → List Cell → Rights → Rights
rights_behind info cells rights = parent_rights (shared_of info) (given_of info) (numbers_of cells) rights

-- A fork of a site has the site's cells and conjuncts, which are 1 to 64.
pub record IsForkOf (info : SiteInfo) (cells : List Cell) (children : Children) : Type 0 where
  pub are_cells : AreCells (shared_of info) cells
  pub same_count : count children ≡ info.children
  pub some : 1 ≤ info.children
  pub few : info.children ≤ 64
