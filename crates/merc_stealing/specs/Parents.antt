-- Parents behind their children. And what the end of a child found.
use Rattle.std.specs.Prelude.{◌≡◌, ℕ, List, Option, Some, None, length, slice_get, ⊤, false}
use Rattle.merc_value.specs.Block.{BlockData}
use Rattle.merc_script.specs.declared.outcome.Outcome.{Outcome}
use Rattle.merc_script.specs.declared.outcome.Outcome.TheVariants.{Ok as Fine, Raise, Limit, Starved, NoMemory}
use Rattle.merc_script.specs.Script.{Script, ForkThen, Children, Cell, Move, ends}
use Rattle.merc_script.specs.Places.{Place, left_of}
use Rattle.merc_script.specs.Joining.{joined, lacks_memory}
use Rattle.atomic_table.specs.Seated.{TableId}
use Rattle.merc_join.specs.declared.stub.Stage.{Stage}
use Rattle.merc_join.specs.declared.stub.Stage.TheVariants.{Stopped, Over}
use Rattle.merc_join.specs.declared.ends.Ticket.{Ticket}
use Rattle.merc_join.specs.declared.ends.SpentTicket.{SpentTicket}
use Rattle.merc_join.specs.Tickets.{ticket_child, ticket_table, spent_table, spent_view}
use Rattle.merc_yard.specs.declared.berth.Berth.{Berth}
use Rattle.merc_yard.specs.declared.spot.Spot.{Spot}
use Rattle.merc_yard.specs.declared.spot.Fill.TheVariants.{Filled}
use Rattle.merc_yard.specs.declared.spot.Purpose.TheVariants.{Forks}
use Rattle.merc_yard.specs.Berths.{spot_of}
use Rattle.merc_held_branches.specs.declared.branch.Hold.{Hold}
use Rattle.merc_board.specs.declared.branch.Branch.{Branch}
use Rattle.merc_board.specs.Rights.{Rights}
use Rattle.merc_held_branches.specs.Spots.{place, behind, fork_count}
use Rattle.merc_held_branches.specs.Beds.{IsMoored, EndsChild}
use Rattle.merc_held_branches.specs.Lying.{rights, ForksAt}
use Rattle.merc_held_branches.specs.Owning.{Runs, spot_held}

-- the outcomes of the children of the Fork at which a branch lies in this berth
pub record AreEnds (root : Script) (table : TableId) (berth : Berth) (outcomes : List Outcome) : Type 0 where
  pub moored : IsMoored table Filled Forks berth
  pub count : length outcomes ≡ fork_count (left_of (place root (spot_of berth)))
  pub each : (child : ℕ) (outcome : Outcome) → slice_get outcomes child ≡ Some outcome → EndsChild root berth child outcome

-- One outcome beside the true one: the same, or want of memory, or a value that does not come
abbrev pub Near : Outcome → Outcome → Type 0
Near true NoMemory = ⊤
Near true Starved = ⊤
Near true (Fine steps) = true ≡ Fine steps
Near true (Raise text steps) = true ≡ Raise text steps
Near true Limit = true ≡ Limit

-- what the children of the Fork at a spot make together, if memory was never refused in a script
abbrev pub IsJoin : Script → Spot → Outcome → Type 0
IsJoin root o outcome = (limit : ℕ) (cells : List Cell) (moves : List Move) (children : Children) (rest : Script)
    → left_of (place root o) ≡ Some (ForkThen limit cells moves children rest) → lacks_memory (ends children) ≡ false → Near (joined limit (ends children)) outcome

abbrev pub IsJoined : Script → Spot → Option Outcome → Type 0
IsJoined root o None = Unit {0}
IsJoined root o (Some outcome) = IsJoin root o outcome

module _ {L : Type 0} (root : Script) (table : TableId) where
  -- a parent behind the Fork of this spot
  pub record HoldsAt (o : Spot) (hold : Hold L) : Type 0 where
    pub runs : Runs root table hold
    pub spot : spot_held hold.berth ≡ behind o
    pub held : IsJoined root o hold.held

module _ {L : Type 0} (root : Script) (stands awaits forked : L → Rights → Place → Type 0) (shows : ℕ → BlockData → Type 0) (table : TableId) where
  -- a parent behind its Fork, which has not gone on
  pub record IsParent (branch : Branch L (Hold L)) : Type 0 where
    pub fork : Spot
    pub holds : HoldsAt root table fork branch.hold
    pub forks : ForksAt root stands awaits forked shows branch.load (rights branch.hold) branch.hold.limit (place root fork)

module _ {P : Type 0} where
  -- the seat of this ticket, which has come so far
  abbrev pub HasCome : Stage → Ticket P → SpentTicket P → Type 0
  HasCome stage ticket spent = (spent_table spent ≡ ticket_table ticket) × ((spent_view spent).child ≡ ticket_child ticket) × ((spent_view spent).stage ≡ stage)

  -- the one step of the ticket's seat found others of the join still to come. The root has no ticket
  abbrev pub OthersAreToCome : Option (Ticket P) → Option (SpentTicket P) → Type 0
  OthersAreToCome None spent = Unit {0}
  OthersAreToCome (Some ticket) None = ⊥
  OthersAreToCome (Some ticket) (Some spent) = HasCome Stopped ticket spent

  -- it found that all others had come
  abbrev pub AllHaveCome : Option (Ticket P) → Option (SpentTicket P) → Type 0
  AllHaveCome None spent = ⊥
  AllHaveCome (Some ticket) None = ⊥
  AllHaveCome (Some ticket) (Some spent) = HasCome Over ticket spent
