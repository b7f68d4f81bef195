use Rattle.std.proofs.Common.{◌∙◌, ◌∷◌, ap}
use Rattle.std.proofs.lemmas.Result.{on_ok_weaker}
use Rattle.merc_switch.proofs.JudgedGroups.{judges_parts}
use Rattle.merc_switch.proofs.judging.push_group.Goals as goal

pub returns-in-Ok : goal.returns-in-Ok
returns-in-Ok c =
    on_ok_weaker c.push.result
    (λ put. put ∙ ap (λ t. t ∷ c.args.tasks.now) (judges_parts c.args.selected _ _ _ _ _ _ _ c.in-Ok.ensures.selection c.in-Ok.ensures.used c.saturating_sub.ensures c.in-Ok.ensures.outputs)) c.push.ensures
