use Rattle.std.proofs.Common.{sym, ◌∙◌}
use Rattle.std.proofs.lemmas.Result.{IfOk-weaker}
use Rattle.merc_type_matching.proofs.Linking.{links_joined, links_new}
use Rattle.merc_type_matching.proofs.linked.LinkedNames.link.Goals as goal

pub returns-in-Some : goal.returns-in-Some
returns-in-Some c =
    IfOk-weaker c.join.result _ _
    (λ is_new joins. links_joined is_new c.args.self.now c.join.new.self c.args.one c.args.other c.in-Some.first (sym c.get.ensures.value ∙ sym c.in-Some.ensures) joins)
    c.join.ensures

pub returns-in_ok-insert-in-None : goal.returns-in_ok-insert-in-None
returns-in_ok-insert-in-None c =
    links_new c.args.self.now c.insert.new.self c.args.one c.args.other c.requires (sym c.get.ensures.value ∙ sym c.in-None.ensures) c.in_ok-insert-in-None.ensures.updates.0
