-- A parent at a fork whose children were made and given their rights.
use Rattle.std.proofs.Common.{◌≡◌, ℕ, suc, List, length, sym, ap, ◌∙◌, subst, arith}
use Rattle.std.specs.Prelude.{Option, Some}
use Rattle.std.proofs.lemmas.List.{length-map}
use Rattle.std.specs.List.{All}
use Rattle.std.specs.declared.boxed.Box.{Box}
use Rattle.std.specs.declared.alloc.Global.{Global}
use Rattle.atomic_table.specs.Seated.{TableId}
use Rattle.merc_value.specs.Block.{BlockData}
use Rattle.merc_script.specs.Script.{Script, ForkThen, Children, Cell, Move}
use Rattle.merc_script.specs.Places.{Place, left_of}
use Rattle.merc_board.specs.declared.branch.Branch.{Branch}
use Rattle.merc_board.specs.declared.fork.SharedCell.{SharedCell}
use Rattle.merc_board.specs.declared.fork.Handover.{Handover}
use Rattle.merc_board.specs.Rights.{Rights, child_rights, parent_rights}
use Rattle.merc_board.specs.Going.{child_place}
use Rattle.merc_board.specs.Boarding.{Prepares, AreCells, numbers_of}
use Rattle.merc_join.specs.declared.ends.Ticket.{Ticket}
use Rattle.merc_yard.specs.declared.berth.Berth.{Berth}
use Rattle.merc_yard.specs.declared.spot.Spot.{Spot}
use Rattle.merc_held_branches.specs.declared.types.Bed.{Bed}
use Rattle.merc_held_branches.specs.declared.branch.Hold.{Hold}
use Rattle.merc_held_branches.specs.Spots.{place, fork_count, Reaches}
use Rattle.merc_held_branches.specs.Lying.{AreNamed, Placed, rights}
use Rattle.merc_held_branches.specs.Owning.{HasBerth, Own, spot_held}
use Rattle.merc_held_branches.specs.Kids.{AreFor, HaveBerths, Joins, with_waits, with_signals}
use Rattle.merc_held_branches.specs.Sharing.{cells_of, cells_ahead, own_rights}
use Rattle.merc_stealing.proofs.Dealing.{lands}
use Rattle.merc_held_branches.proofs.Lists.{got_or}

cells_there : (root : Script) (o : Spot) (at : Place) (limit : ℕ) (cells : List Cell) (moves : List Move) (children : Children) (rest : Script) → Reaches root o at → left_of at ≡ Some (ForkThen limit cells moves children rest)
    → cells_ahead root o ≡ numbers_of cells
cells_there root o at limit cells moves children rest reaches left = ap (λ (a : Place). cells_of (left_of a)) (lands root o at limit cells moves children rest reaches left) ∙ ap cells_of left

cell_count : (shared : List SharedCell) (cells : List Cell) → AreCells shared cells → length (numbers_of cells) ≡ length shared
cell_count shared cells are = length-map cells (λ (cell : Cell). cell.cell) ∙ sym (length-map cells (λ (cell : Cell). cell.producer)) ∙ ap length (sym are.producers) ∙ length-map shared (λ (one : SharedCell). one.producer)

-- a branch whose rights have changed
moved_own : {L : Type 0} (root : Script) (table : TableId) (old new : Hold L) (at : Place) → new.berth ≡ old.berth → new.place ≡ old.place → new.link ≡ old.link → AreNamed table new → Own root table old at → Own root table new at
moved_own {L} root table old new at berth place link named own = record {
  runs = record {
    berthed = subst (HasBerth table) (sym berth) own.runs.berthed;
    placed = subst (λ (x : Option Berth × Option (Ticket (Bed L))). Placed root (spot_held x.0) x.1) (λ i. (sym berth i, sym place i)) own.runs.placed;
    unlinked = link ∙ own.runs.unlinked;
    named = named;
  };
  reaches = subst (λ b. Reaches root (spot_held b) at) (sym berth) own.reaches;
}

module _ {L : Type 0} (root : Script) (stands awaits forked : L → Rights → Place → Type 0) (shows : ℕ → BlockData → Type 0) (table : TableId) (old : Branch L (Hold L)) (shared : List SharedCell) (given : List Handover) (limit : ℕ) (loads : List L)
    (p : Prepares (Own root table old.hold) forked stands old.load (rights old.hold) shared given limit loads) where
  -- the cells of the fork ahead are those that the load tells
  pub ahead : cells_ahead root (spot_held old.hold.berth) ≡ numbers_of p.cells
  ahead = cells_there root (spot_held old.hold.berth) p.at limit p.cells p.moves p.children p.rest p.owned.reaches p.left

  pub ahead_count : length (cells_ahead root (spot_held old.hold.berth)) ≡ length shared
  ahead_count = ap length ahead ∙ cell_count shared p.cells p.are_cells

  pub joins : (room : ℕ) (kids : List (Box (Branch L (Hold L)) Global)) (new : Branch L (Hold L)) → new.load ≡ old.load → new.hold.limit ≡ limit → new.hold.berth ≡ old.hold.berth → new.hold.place ≡ old.hold.place → new.hold.link ≡ old.hold.link
      → AreNamed table new.hold → rights new.hold ≡ parent_rights shared given (cells_ahead root (spot_held old.hold.berth)) (rights old.hold)
      → AreFor table room loads (with_signals given (rights old.hold).signals (with_waits given (rights old.hold).waits (own_rights shared (cells_ahead root (spot_held old.hold.berth))))) kids → HaveBerths table kids
      → Joins root stands awaits forked shows table kids new
  joins room kids new load is_limit berth place link named has are berths =
      let count : length kids ≡ length loads = are.count in
      record {
        at = p.at;
        owned = moved_own root table old.hold new.hold p.at berth place link named p.owned;
        forks = record {
          cells = p.cells;
          moves = p.moves;
          children = p.children;
          rest = p.rest;
          left = p.left ∙ ap (λ n. Some (ForkThen n p.cells p.moves p.children p.rest)) (sym is_limit);
          waiting = subst (λ (x : L × Rights). forked x.0 x.1 p.at) (λ i. (sym load i, sym (has ∙ ap (λ cells. parent_rights shared given cells (rights old.hold)) ahead) i)) p.parent;
        };
        count = count ∙ p.same_count ∙ ap fork_count (sym p.left);
        some = let some = p.some in omega (arith, count, some);
        few = let few = p.few in omega (arith, count, few);
        each = λ i kid at. let m = are.each i kid at in (
          m.2.kid,
          subst (λ (x : L × Rights). stands x.0 x.1 (child_place p.at (suc i)))
              (λ k. (sym m.2.same k, sym (m.2.given ∙ ap (λ cells. child_rights shared given cells (rights old.hold) (suc i)) ahead) k))
              (p.each i m.0 m.1),
        );
        berths = berths;
      }

-- the children of a fork have rights to cells of this yard
pub all_named : {L : Type 0} (root : Script) (stands awaits forked : L → Rights → Place → Type 0) (shows : ℕ → BlockData → Type 0) (table : TableId) (kids : List (Box (Branch L (Hold L)) Global)) (parent : Branch L (Hold L))
    → Joins root stands awaits forked shows table kids parent → All (λ kid. AreNamed table kid.value.hold) kids
all_named root stands awaits forked shows table kids parent j k d near = (j.each k _ (got_or kids k d near)).0.named
