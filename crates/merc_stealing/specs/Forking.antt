-- What is made for a fork before a right of its parent moves.
use Rattle.std.specs.Prelude.{◌≡◌, ◌+◌, ◌≤◌, List, [], length, map}
use Rattle.std.specs.List.{All}
use Rattle.std.specs.Vec.{vec_capacity}
use Rattle.merc_script.specs.Script.{Script}
use Rattle.atomic_table.specs.Seated.{TableId}
use Rattle.merc_cell.specs.Ends.{consumer_name}
use Rattle.merc_board.specs.declared.fork.SharedCell.{SharedCell}
use Rattle.merc_board.specs.Rights.{own_waits}
use Rattle.merc_held_branches.specs.declared.branch.Hold.{Hold}
use Rattle.merc_stealing.specs.declared.preparing.Made.{Made}
use Rattle.merc_held_branches.specs.Beds.{IsNamed}
use Rattle.merc_held_branches.specs.Lying.{due_of}
use Rattle.merc_held_branches.specs.Owning.{spot_held}
use Rattle.merc_held_branches.specs.Kids.{AreFor, HaveBerths}
use Rattle.merc_held_branches.specs.Sharing.{cells_ahead, own_rights}

module _ {L : Type 0} (root : Script) (table : TableId) (hold : Hold L) (shared : List SharedCell) (loads : List L) where
  -- A branch for each load has its rights to the cells of the fork ahead, and the parent those behind it, with room for all rights that the parent has.
  pub record IsMade (made : Made L) : Type 0 where
    pub kids : AreFor table (length hold.waits.items + (length hold.signals.items + 0)) loads (own_rights shared (cells_ahead root (spot_held hold.berth))) made.kids.items
    pub berths : HaveBerths table made.kids.items
    pub behind : map due_of made.behind.items ≡ own_waits 0 shared (cells_ahead root (spot_held hold.berth))
    pub named : All (λ right. IsNamed table (consumer_name right.end)) made.behind.items
    pub waits_room : length made.behind.items + length hold.waits.items ≤ vec_capacity made.behind
    pub none_kept : made.kept.items ≡ []
    pub signals_room : length hold.signals.items ≤ vec_capacity made.kept
