-- What a well-formed script says of branches that run, after every list of events.
use Rattle.std.proofs.Common.{ℕ, ◌≤◌, inl, inr, List, subst, sym}
use Rattle.std.specs.Prelude.{Option}
use Rattle.merc_script.specs.declared.outcome.Outcome.{Outcome}
use Rattle.merc_script.specs.declared.outcome.Outcome.TheVariants.{Ok as Fine, Raise, Limit, Starved, NoMemory}
use Rattle.merc_script.specs.Script.{Script, Ends, TickThen, WaitThen, SignalThen, ForkThen}
use Rattle.merc_script.specs.Joining.{HasFewSteps}
use Rattle.merc_script.specs.declared.items.Item.{Item}
use Rattle.merc_script.specs.Items.{script_of}
use Rattle.merc_value.specs.Value.{Value}
use Rattle.merc_core.specs.declared.event.Event.{Event}
use Rattle.merc_core.specs.World.{Branch, Location, Listed, Runs, Holds, AtCell, AtJoin, Join, Stored, World}
use Rattle.merc_core.specs.WellFormed.{Formed, EndsWell, WellFormed, value_in, cells_of}
use Rattle.merc_core.specs.Laws.{LeadsTo, IsCutEnd}
use Rattle.merc_core.specs.Mirror.{IsFit, IsFitAt, AreFit}
use Rattle.merc_core.proofs.Pool.{each-weaker}
use Rattle.merc_core.proofs.Truth.{IsCut, StateAt, Good}
use Rattle.merc_core.proofs.Losses.{Excused, Spoiled, truth-lost}
use Rattle.merc_core.specs.Given.{IsOpenAt}
use Rattle.merc_core.proofs.Live.{Stuck, StuckAt}
use Rattle.merc_core.proofs.Dues.{live-after}
use Rattle.merc_core.proofs.Names.{all_stand}
use Rattle.merc_core.proofs.KeptRights.{keeps-rights}

few-ends : (o : Outcome) (left : List ℕ) → EndsWell o left → HasFewSteps o
few-ends (Fine n) left well = well.1
few-ends (Raise e n) left well = well
few-ends Limit left well = tt
few-ends Starved left well = tt
few-ends NoMemory left well = absurd well

few-cut : (o : Outcome) → IsCutEnd o → HasFewSteps o
few-cut (Fine n) cut = absurd cut
few-cut (Raise e n) cut = absurd cut
few-cut Limit cut = absurd cut
few-cut Starved cut = tt
few-cut NoMemory cut = tt

formed-fit : (value : ℕ → Option Value) (steps : ℕ) (signals waits : List ℕ) (rest : Script) → Formed value steps signals waits rest → IsFit steps rest
formed-fit value steps signals waits (Ends o) formed = few-ends o signals formed.1
formed-fit value steps signals waits (TickThen rest) formed = tt
formed-fit value steps signals waits (WaitThen cell rest) formed = tt
formed-fit value steps signals waits (SignalThen cell rest) formed = tt
formed-fit value steps signals waits (ForkThen limit cells moves children rest) formed = (formed.0.early, formed.0.limited, formed.0.some, formed.0.few)

module _ (value : ℕ → Option Value) (lost : Type 0) (joins : List Join) where
  cut-fit : (steps join child : ℕ) (rest : Script) → IsCut value (Excused lost) (Spoiled lost) join child rest → IsFit steps rest
  cut-fit steps join child rest cut = subst (IsFit steps) (sym cut.is) (few-cut cut.end cut.excused.1)

  fit-at : (location : Location) (b : Branch) → StateAt value (Excused lost) (Spoiled lost) joins location b b.rest → IsFitAt location b.steps b.rest
  fit-at (Runs v) b (inl honest) = formed-fit value b.steps b.signals b.waits b.rest honest.formed
  fit-at (Runs v) b (inr cut) = cut-fit b.steps b.join b.child b.rest cut
  fit-at (Listed v) b state = tt
  fit-at (Holds v number) b state = tt
  fit-at (AtCell cell) b state = tt
  fit-at (AtJoin number) b state = tt

-- a branch is parked where it cannot go on
parked-open : (full : List ℕ) (poisoned : List (List ℕ)) (joins : List Join) (stored : List Stored) (location : Location) → StuckAt full poisoned joins stored location → IsOpenAt full poisoned location
parked-open full poisoned joins stored (AtCell cell) stuck = stuck
parked-open full poisoned joins stored (Listed v) stuck = tt
parked-open full poisoned joins stored (Runs v) stuck = tt
parked-open full poisoned joins stored (Holds v number) stuck = tt
parked-open full poisoned joins stored (AtJoin number) stuck = tt

pub are-fit : (items : List Item) (workers : ℕ) (events : List Event) (w : World) → WellFormed (script_of items) → 1 ≤ workers → LeadsTo (script_of items) workers events w → AreFit items w
are-fit items workers events w well some leads =
    let root = script_of items in
    let value : ℕ → Option Value = value_in (cells_of root) in
    let truth = truth-lost root workers events w well leads in
    let live = live-after root workers events w well some leads in
    record {
      each = each-weaker (Good value (Excused (Unit {0})) (Spoiled (Unit {0})) w.joins) (λ one. IsFitAt one.location one.branch.steps one.branch.rest)
          (λ x good. fit-at value (Unit {0}) w.joins x.location x.branch good) w.pool truth.spots;
      stand = all_stand root workers events w leads;
      rights = (keeps-rights root workers events w well leads).each;
      opened = each-weaker (Stuck w.full w.poisoned w.joins w.stored) (λ one. IsOpenAt w.full w.poisoned one.location)
          (λ x stuck. parked-open w.full w.poisoned w.joins w.stored x.location stuck) w.pool live.stuck;
      stored = live.numbered;
    }
