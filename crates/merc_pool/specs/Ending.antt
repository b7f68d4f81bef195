-- How branches end.
use Rattle.std.specs.Prelude.{◌≡◌, ◌≢◌, List}
use Rattle.merc_meaning.specs.Trace.{Run}
use Rattle.merc_script.specs.declared.outcome.Outcome.{Outcome}
use Rattle.merc_script.specs.declared.outcome.Outcome.TheVariants.{Ok as Fine, Raise, Limit, Starved, NoMemory}
use Rattle.merc_script.specs.Script.{Script, ends}
use Rattle.merc_script.specs.Joining.{joined}
use Rattle.merc_script.specs.Places.{Place}
use Rattle.merc_rights.specs.declared.sites.SiteInfo.{SiteInfo}
use Rattle.merc_machine.specs.declared.machine.Machine.{Machine}
use Rattle.merc_machine.specs.declared.running.Stop.{Stop}
use Rattle.merc_machine.specs.declared.running.Stop.TheVariants.{Answer, Ended, Raised, LimitPassed, Starved as StarvedStop, AtFork, AtWait, AtSignal, SliceOver, NoMemory as NoMemoryStop}
use Rattle.merc_board.specs.Rights.{Rights}
use Rattle.merc_pool.specs.declared.engine.Engine as Engine
use Rattle.merc_pool.specs.declared.load.Progress.{Progress}
use Rattle.merc_pool.specs.Carrying.{made_by, ForkedAt}

-- the outcome of a branch other than the root whose machine has stopped so
abbrev pub IsOutcomeOf : Machine → Stop → Outcome → Type 0
IsOutcomeOf machine Ended outcome = outcome ≡ Fine (made_by machine)
IsOutcomeOf machine (Raised text) outcome = outcome ≡ Raise text (made_by machine)
IsOutcomeOf machine LimitPassed outcome = outcome ≡ Limit
IsOutcomeOf machine Answer outcome = outcome ≡ NoMemory
IsOutcomeOf machine StarvedStop outcome = outcome ≡ NoMemory
IsOutcomeOf machine (AtFork site) outcome = outcome ≡ NoMemory
IsOutcomeOf machine (AtWait variable) outcome = outcome ≡ NoMemory
IsOutcomeOf machine (AtSignal variable) outcome = outcome ≡ NoMemory
IsOutcomeOf machine SliceOver outcome = outcome ≡ NoMemory
IsOutcomeOf machine NoMemoryStop outcome = outcome ≡ NoMemory

module _ {M : Type 0} (m : Engine.Ghosts M) (sites : List SiteInfo) (root : Script) (whole : Run) where
  -- A machine stands at a fork whose conjuncts join to this outcome, and behind which it can go on.
  pub record IsJoinedFork (progress : Progress M) (rights : Rights) (at : Place) (outcome : Outcome) : Type 0 where
    pub fork : ForkedAt m sites root whole progress rights at
    pub joins : joined fork.limit (ends fork.children) ≡ outcome
    pub has_memory : outcome ≢ NoMemory
    pub is_fed : outcome ≢ Starved
