use Rattle.std.proofs.Common.{◌≡◌, ◌∙◌, ap}
use Rattle.merc_script.specs.declared.outcome.Outcome.TheVariants.{Ok as Fine}
use Rattle.merc_core.specs.Outcomes.{joined_on}
use Rattle.merc_core.proofs.StoredOutcomes.{joined_on-all}
use Rattle.merc_core.proofs.join.Join.joined.Goals as goal

pub loop-stored-init : goal.loop-stored-init
loop-stored-init c =
    let all : c.into_iter-stored-iterator.result ≡ c.args.self.now.outcomes = cc in
    ap (joined_on c.args.self.now.limit (Fine 0)) all ∙ joined_on-all c.args.self.now.limit c.args.self.now.outcomes
