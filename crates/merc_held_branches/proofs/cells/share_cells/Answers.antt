use Rattle.std.proofs.Common.{arith, ◌∙◌, ◌+◌, ◌*◌, ◌-◌, sym, length, take}
use Rattle.merc_held_branches.specs.Owning.{spot_held}
use Rattle.merc_held_branches.specs.Sharing.{cells_ahead, own_rights}
use Rattle.merc_held_branches.proofs.CellLaws.{as_many, one_less, number_of, shared_more, waits_more, all_shared}
use Rattle.merc_held_branches.proofs.cells.share_cells.Goals as goal

pub share_cell-requires-clause-kids : goal.share_cell-requires-clause-kids
share_cell-requires-clause-kids g c =
    let are = c.requires.kids in let shared = c.args.shared.now in let place = c.loop-place.place in let cells = cells_ahead g.M.Load.root (spot_held c.args.hold.now.berth) in (
      2 * (length shared - (place + 1)) + are.0,
      are.1,
      own_rights (take place shared) (take place cells),
      one_less g.N.Room.table are.0 place (length shared) are.1 (own_rights (take place shared) (take place cells)) _ c.loop-place-test.true (c.loop-place.invariant.given are.0 are.1 are.2),
    )

pub loop-place-preserved : goal.loop-place-preserved
loop-place-preserved g c =
    let was = c.loop-place.invariant in let made = c.share_cell.ensures in let shared = c.args.shared.now in let place = c.loop-place.place in let cells = cells_ahead g.M.Load.root (spot_held c.args.hold.now.berth) in
    let count = c.requires.count in let near = c.loop-place-test.true in let same = as_many place shared cells (sym count) in let cell = number_of _ _ _ c.in_ok-ends.ensures.consumer in record {
      given = λ room loads are. shared_more shared cells count place near _ c.index-shared-place.is _ cell g.N.Room.table _ loads _
          (made.given (2 * (length shared - (place + 1)) + room) loads (take place shared) (take place cells) same
          (one_less g.N.Room.table room place (length shared) loads (own_rights (take place shared) (take place cells)) _ near (was.given room loads are)));
      behind = made.behind (take place shared) (take place cells) same was.behind ∙ waits_more shared cells count place near _ c.index-shared-place.is _ cell;
      named = made.named;
      room = let r = made.room in let w = was.room in (omega (arith, r, w), omega (arith, r, w));
      berths = λ b. made.berths (was.berths b);
    }

pub returns-clause-given : goal.returns-clause-given
returns-clause-given g c = λ room loads are. all_shared g.N.Room.table room c.loop-place.place loads c.args.shared.now (cells_ahead g.M.Load.root (spot_held c.args.hold.now.berth)) _ c.requires.count (omega (arith, c.loop-place-test.false))
    (c.loop-place.invariant.given room loads are)
