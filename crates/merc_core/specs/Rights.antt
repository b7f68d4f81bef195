-- Rights to signal a cell and to wait for one, and how a Fork hands them out.
use Rattle.std.specs.Prelude.{ℕ, Bool, true, false, not, ◌&&◌, List, ◌++◌, nat_eq, filter, map}
use Rattle.std.specs.List.{list_any}
use Rattle.merc_script.specs.declared.cells.Move.{Move}
use Rattle.merc_script.specs.Script.{Cell}

-- a cell is among these
abbrev pub has : ℕ → List ℕ → Bool
has cell cells = list_any (λ one. nat_eq one cell) cells

-- it is in one of these lists
abbrev pub has_in : ℕ → List (List ℕ) → Bool
has_in cell lists = list_any (has cell) lists

-- the cells that are not among those gone
abbrev pub without : List ℕ → List ℕ → List ℕ
without gone cells = filter (λ one. not (has one gone)) cells

abbrev pub numbers_of : List Cell → List ℕ
numbers_of cells = map (λ one. one.cell) cells

-- the cells that a child produces
abbrev pub made_by : ℕ → List Cell → List ℕ
made_by child cells = numbers_of (filter (λ one. nat_eq one.producer child) cells)

-- the cells that a child consumes, 0 for the parent behind its Fork
abbrev pub used_by : ℕ → List Cell → List ℕ
used_by child cells = numbers_of (filter (λ one. nat_eq one.consumer child) cells)

abbrev pub cells_moved : List Move → List ℕ
cells_moved moves = map (λ one. one.cell) moves

-- a move of a right to signal, or of one to wait
abbrev pub is_kind : Bool → Move → Bool
is_kind true move = move.signal
is_kind false move = not move.signal

-- the cells whose rights of a kind move
abbrev pub moved : Bool → List Move → List ℕ
moved signal moves = cells_moved (filter (is_kind signal) moves)

-- .. and those of which they move into a child
abbrev pub moved_to : ℕ → Bool → List Move → List ℕ
moved_to child signal moves = cells_moved (filter (λ one. nat_eq one.child child && is_kind signal one) moves)

-- What a child may signal and wait for at first: the Fork's own cells, in their order, and then what moves into it.
abbrev pub signals_at : ℕ → List Cell → List Move → List ℕ
signals_at child cells moves = made_by child cells ++ moved_to child true moves

abbrev pub waits_at : ℕ → List Cell → List Move → List ℕ
waits_at child cells moves = used_by child cells ++ moved_to child false moves

-- What the parent may signal and wait for behind the Fork: what it had and did not give up, and the cells that it consumes.
abbrev pub signals_behind : List ℕ → List Move → List ℕ
signals_behind had moves = without (moved true moves) had

abbrev pub waits_behind : List ℕ → List Cell → List Move → List ℕ
waits_behind had cells moves = used_by 0 cells ++ without (moved false moves) had
