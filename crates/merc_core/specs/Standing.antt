-- Where scripts stand in the root's items.
use Rattle.std.specs.Prelude.{◌≡◌, ℕ, suc, ◌+◌, List, ◌++◌, drop, Option, Some, None, slice_get}
use Rattle.merc_script.specs.declared.outcome.Outcome.{Outcome}
use Rattle.merc_script.specs.declared.items.Item.{Item}
use Rattle.merc_script.specs.declared.items.Item.TheVariants.{Wait as WaitItem}
use Rattle.merc_script.specs.declared.items.Fork.{Fork as ForkData}
use Rattle.merc_script.specs.Script.{Script, Ends, TickThen, WaitThen, SignalThen, ForkThen, Children, count, sizes}
use Rattle.merc_script.specs.Items.{items_of, items_in}
use Rattle.merc_core.specs.declared.branch.Branch.{Branch}
use Rattle.merc_core.specs.declared.course.Next.{Next}
use Rattle.merc_core.specs.declared.course.Next.TheVariants.{Tick, Wait, Signal, Fork, End}

-- the items from a place on begin with those of a script
abbrev pub StandsAt : List Item → ℕ → Script → Type 0
StandsAt items place script = (behind : List Item) × (drop place items ≡ items_of script ++ behind)

-- .. or with those of children
abbrev pub StandAt : List Item → ℕ → Children → Type 0
StandAt items place children = (behind : List Item) × (drop place items ≡ items_in children ++ behind)

-- what is left of the script of a branch at a place, which may end early
abbrev pub LeftAt : List Item → ℕ → Option Outcome → Script → Type 0
LeftAt items place None left = StandsAt items place left
LeftAt items place (Some end) left = left ≡ Ends end

abbrev pub IsLeft : List Item → Branch → Script → Type 0
IsLeft items branch left = LeftAt items branch.at branch.ended left

abbrev pub IsFork : ForkData → ℕ → List Item → Script → Type 0
IsFork fork place items (ForkThen limit cells moves children rest) =
    (fork ≡ record { limit = limit; children = count children; cells = cells; moves = moves })
    × StandAt items (suc place) children × StandsAt items (suc place + sizes children) rest
IsFork fork place items (Ends end) = ⊥
IsFork fork place items (TickThen rest) = ⊥
IsFork fork place items (WaitThen cell rest) = ⊥
IsFork fork place items (SignalThen cell rest) = ⊥

abbrev pub IsTick : ℕ → List Item → Script → Type 0
IsTick place items (TickThen rest) = StandsAt items (suc place) rest
IsTick place items (Ends end) = ⊥
IsTick place items (WaitThen cell rest) = ⊥
IsTick place items (SignalThen cell rest) = ⊥
IsTick place items (ForkThen limit cells moves children rest) = ⊥

abbrev pub IsWait : ℕ → ℕ → List Item → Script → Type 0
IsWait cell place items (WaitThen other rest) = (cell ≡ other) × StandsAt items (suc place) rest × (slice_get items place ≡ Some (WaitItem cell))
IsWait cell place items (Ends end) = ⊥
IsWait cell place items (TickThen rest) = ⊥
IsWait cell place items (SignalThen other rest) = ⊥
IsWait cell place items (ForkThen limit cells moves children rest) = ⊥

abbrev pub IsSignal : ℕ → ℕ → List Item → Script → Type 0
IsSignal cell place items (SignalThen other rest) = (cell ≡ other) × StandsAt items (suc place) rest
IsSignal cell place items (Ends end) = ⊥
IsSignal cell place items (TickThen rest) = ⊥
IsSignal cell place items (WaitThen other rest) = ⊥
IsSignal cell place items (ForkThen limit cells moves children rest) = ⊥

abbrev pub IsEnd : Outcome → Script → Type 0
IsEnd end (Ends other) = end ≡ other
IsEnd end (TickThen rest) = ⊥
IsEnd end (WaitThen cell rest) = ⊥
IsEnd end (SignalThen cell rest) = ⊥
IsEnd end (ForkThen limit cells moves children rest) = ⊥

-- a branch at a place, with this left of its script, comes to this next
abbrev pub IsNext : List Item → ℕ → Next → Script → Type 0
IsNext items place Tick left = IsTick place items left
IsNext items place (Wait cell) left = IsWait cell place items left
IsNext items place (Signal cell) left = IsSignal cell place items left
IsNext items place (Fork fork) left = IsFork fork.now place items left
IsNext items place (End end) left = IsEnd end left
