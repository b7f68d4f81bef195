use Rattle.std.proofs.Common.{◌≡◌, sym, ◌∙◌}
use Rattle.std.proofs.lemmas.Result.{IfOk-weaker}
use Rattle.merc_type_check.proofs.Steps.{takes_as}
use Rattle.merc_type_check.proofs.checker.Checker.is_alike.Goals as goal

pub leads-requires-clause-waits : goal.leads-requires-clause-waits
leads-requires-clause-waits c = sym c.waits_with.ensures ∙ c.in-Some.is

pub returns-in-Some : goal.returns-in-Some
returns-in-Some c =
    IfOk-weaker c.leads.result _ _
    (λ done takes. takes_as done c.args.self.now c.leads.new.self (λ types instance. types c.args.other ≡ types c.args.one) (λ types instance. types c.args.one ≡ types c.args.other)
    (λ types instance same. sym same) (λ types instance same. sym same) takes) c.leads.ensures
