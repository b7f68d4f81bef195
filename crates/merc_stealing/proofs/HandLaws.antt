-- What workers ask of a board, as the stealing board asks it.
use Rattle.std.proofs.Common.{◌≡◌, Bool, true, false, ℕ, List, [], refl, sym, ap, ◌∙◌, subst}
use Rattle.std.specs.Prelude.{Option, Some, None}
use Rattle.std.specs.declared.alloc.Global.{Global}
use Rattle.merc_script.specs.declared.outcome.Outcome.{Outcome}
use Rattle.merc_script.specs.declared.outcome.Outcome.TheVariants.{Ok as Fine, Raise, Limit, Starved, NoMemory}
use Rattle.merc_script.specs.Script.{Script, Ends, Children, ends}
use Rattle.merc_script.specs.Places.{Place, left_of}
use Rattle.merc_script.specs.Joining.{joined}
use Rattle.atomic_table.specs.Seated.{TableId}
use Rattle.crossbeam_deque.specs.Handles.{Pass}
use Rattle.merc_deque.specs.declared.moves.Known.{Known}
use Rattle.merc_deque.specs.declared.sparks.Thief.{Thief}
use Rattle.merc_yard.specs.declared.spot.Spot.{Spot}
use Rattle.merc_yard.specs.declared.spot.Purpose.TheVariants.{Ready}
use Rattle.merc_yard.specs.Slots.{spot}
use Rattle.merc_board.specs.Going.{start, next}
use Rattle.merc_board.specs.Rights.{Rights}
use Rattle.merc_board.specs.declared.fork.SharedCell.{SharedCell}
use Rattle.merc_board.specs.declared.fork.Handover.{Handover}
use Rattle.merc_board.specs.Boarding.{MayEnd as MayEndAs, Prepares, MayGoOn, at_end, lost, lost_at, lost_starved, starves, IsJoined}
use Rattle.merc_board.specs.declared.branch.Pace.TheVariants.{On}
use Rattle.merc_held_branches.specs.declared.branch.Hold.{Hold}
use Rattle.merc_held_branches.specs.Spots.{place, parked}
use Rattle.merc_held_branches.specs.Owning.{Runs, Own, MayEnd, spot_held}
use Rattle.merc_stealing.specs.Parents.{Near}
use Rattle.merc_stealing.specs.Seats.{ArePasses}
use Rattle.merc_stealing.specs.Hands.{OwnOf, RunsOf, is_none, is_root_hold}
use Rattle.merc_held_branches.specs.Lying.{Placed}
use Rattle.merc_held_branches.specs.Owning.{HasBerth}
use Rattle.merc_held_branches.specs.Spots.{Reaches}
use Rattle.merc_held_branches.specs.Picking.{IsKept}
use Rattle.merc_held_branches.specs.declared.types.Bed.{Bed}
use Rattle.merc_join.specs.declared.ends.Ticket.{Ticket}
use Rattle.merc_yard.specs.declared.berth.Berth.{Berth}

-- the root of a board that was opened stands at its beginning
pub begins_own : {L : Type 0} (root : Script) (table : TableId) (hold : Hold L) → Runs root table hold → spot_held hold.berth ≡ spot table [] 0 Ready → Own root table hold (start root)
begins_own root table hold runs is = record {
  runs = runs;
  reaches = record { same_root = refl; same_name = ap (λ (o : Spot). o.name) (sym is); same_end = ap (λ o. parked (place root o)) (sym is) };
}

-- a right was taken out of a branch
pub kept_own : {L : Type 0} (root : Script) (table : TableId) (old new : Hold L) (at : Place) → IsKept old new → Own root table old at → Own root table new at
kept_own {L} root table old new at kept own = record {
  runs = record {
    berthed = subst (HasBerth table) (sym kept.berth) own.runs.berthed;
    placed = subst (λ (x : Option Berth × Option (Ticket (Bed L))). Placed root (spot_held x.0) x.1) (λ i. (sym kept.berth i, sym kept.place i)) own.runs.placed;
    unlinked = kept.link ∙ own.runs.unlinked;
    named = kept.named table own.runs.named;
  };
  reaches = subst (λ b. Reaches root (spot_held b) at) (sym kept.berth) own.reaches;
}

module _ {L T : Type 0} (root : Script) (table : TableId) (thieves : List (Thief T)) (passes : List (Pass T (Known T) Global)) (hold : Hold L) where
  ended : (at : Place) (end : Outcome) → Own root table hold at → left_of at ≡ Some (Ends end) → MayEnd (Own root table hold) (Runs root table hold) end
  ended at (Fine n) own left = (at, own, left)
  ended at (Raise x n) own left = (at, own, left)
  ended at Limit own left = (at, own, left)
  ended at Starved own left = own.runs
  ended at NoMemory own left = own.runs

  pub may_end_as : (stands : Place → Type 0) (outcome : Outcome) → MayEndAs (OwnOf root table thieves passes hold) stands (RunsOf root table thieves passes hold) (RunsOf root table thieves passes hold) outcome
      → ArePasses thieves passes × MayEnd (Own root table hold) (Runs root table hold) outcome
  may_end_as stands _ (at_end at end own left there) = (own.0, ended at end own.1 left)
  may_end_as stands _ (lost runs) = (runs.0, runs.1)
  may_end_as stands _ (lost_at at own) = (own.0, own.1.runs)
  may_end_as stands _ (lost_starved runs) = (runs.0, runs.1)
  may_end_as stands _ (starves runs) = (runs.0, runs.1)

  pub resumed : (at : Place) (limit : ℕ) (children : Children) (outcome : Outcome) → ArePasses thieves passes → Runs root table hold → Own root table hold (next at) → Near (joined limit (ends children)) outcome
      → IsJoined (OwnOf root table thieves passes hold) (RunsOf root table thieves passes hold) (RunsOf root table thieves passes hold) at limit children outcome
  resumed at limit children (Fine n) are runs own near = (near, (are, own))
  resumed at limit children (Raise x n) are runs own near = (near, (are, own))
  resumed at limit children Limit are runs own near = (near, (are, own))
  resumed at limit children Starved are runs own near = (are, runs)
  resumed at limit children NoMemory are runs own near = (are, runs)

-- a branch without a place in a join is the root's
root_placed : {L : Type 0} (root : Script) (o : Spot) (place : Option (Ticket (Bed L))) → is_none place ≡ true → Placed root o place → o.name ≡ []
root_placed root o None is placed = placed
root_placed root o (Some ticket) is placed = absurd (cc)

pub root_named : {L : Type 0} (root : Script) (table : TableId) (hold : Hold L) (at : Place) → is_root_hold hold ≡ true → Own root table hold at → at.name ≡ []
root_named root table hold at is own = own.reaches.same_name ∙ root_placed root (spot_held hold.berth) hold.place is own.runs.placed

-- what a branch was woken with is no part of its position
pub kept_runs : {L : Type 0} (root : Script) (table : TableId) (old new : Hold L) → IsKept old new → Runs root table old → Runs root table new
kept_runs {L} root table old new kept runs = record {
  berthed = subst (HasBerth table) (sym kept.berth) runs.berthed;
  placed = subst (λ (x : Option Berth × Option (Ticket (Bed L))). Placed root (spot_held x.0) x.1) (λ i. (sym kept.berth i, sym kept.place i)) runs.placed;
  unlinked = kept.link ∙ runs.unlinked;
  named = kept.named table runs.named;
}

pub may_go_on : (is_root : Bool) → MayGoOn (Unit {0}) is_root On
may_go_on true = tt
may_go_on false = tt

-- what is asked of a fork
pub prepares : {L T : Type 0} (root : Script) (table : TableId) (thieves : List (Thief T)) (passes : List (Pass T (Known T) Global)) (hold : Hold L) (forked stands : L → Rights → Place → Type 0) (load : L) (rights : Rights) (shared : List SharedCell)
    (given : List Handover) (limit : ℕ) (loads : List L) → Prepares (OwnOf root table thieves passes hold) forked stands load rights shared given limit loads → ArePasses thieves passes × Prepares (Own root table hold) forked stands load rights shared given limit loads
prepares root table thieves passes hold forked stands load rights shared given limit loads p = (
  p.owned.0,
  record {
    at = p.at;
    cells = p.cells;
    moves = p.moves;
    children = p.children;
    rest = p.rest;
    owned = p.owned.1;
    left = p.left;
    are_cells = p.are_cells;
    parent = p.parent;
    same_count = p.same_count;
    some = p.some;
    few = p.few;
    each = p.each;
  },
)
