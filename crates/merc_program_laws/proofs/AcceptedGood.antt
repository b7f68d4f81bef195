-- An accepted module becomes a good program, and an accepted goal over it a good one.
use Rattle.std.proofs.Common.{◌≡◌, None, refl}
use Rattle.merc_order.specs.Ordered.{Ordered, Outcome, Ready, Stuck}
use Rattle.merc_modes.specs.Told.{fault_in}
use Rattle.merc_order_laws.proofs.ModesFitting.{module_modes_fit}
use Rattle.merc_check.specs.Accepted.{query_answers, query_order}
use Rattle.merc_program_laws.proofs.GoodModules.{asked_becomes_good, module_becomes_good}
use Rattle.merc_program_laws.specs.GoodModules.{AcceptedBecomesGood, AcceptedGoalBecomesGood}
use Rattle.merc_program_laws.proofs.Allowed.{units_allowed}

pub accepted_becomes_good : AcceptedBecomesGood
accepted_becomes_good before after text items found fixed distinct is =
    module_becomes_good before after text items found fixed distinct is.module_is
    (record { typed = is.clauses.typed; ordered = is.clauses.ordered; categories = is.clauses.categories })
    (λ bodies are. units_allowed before after text items found bodies fixed distinct is.module_is are)

-- an outcome without a fault is an ordered goal
ready : (outcome : Outcome) → fault_in outcome ≡ None → (ordered : Ordered) × (outcome ≡ Ready ordered)
ready (Ready ordered) none = (ordered, refl)
ready (Stuck fault) none = absurd cc

pub accepted_goal_becomes_good : AcceptedGoalBecomesGood
accepted_goal_becomes_good before read after text goal_text items found goal is asked =
    let order = ready (query_order after found goal) asked.accepted.ordered in
    asked_becomes_good read after goal_text goal found (query_answers after found goal) order.0 (module_modes_fit before read text items found is.module_is) asked.reads asked.accepted.typed order.1
