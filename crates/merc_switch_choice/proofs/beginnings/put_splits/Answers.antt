use Rattle.std.proofs.Common.{◌∙◌, ap, [], ◌∷◌, ◌++◌}
use Rattle.merc_switch_choice.proofs.BeginningLaws.{at_start}
use Rattle.merc_switch_choice.proofs.beginnings.put_splits.Goals as goal

pub loop-next-init : goal.loop-next-init
loop-next-init c =
    at_start c.args.splits.now.items c.args.goal.now c.push.new.self.items c.requires.splits
    (c.in_ok-push.ensures.items ∙ ap (λ l. l ++ c.copy.result ∷ []) c.requires.rest ∙ ap (λ n. n ∷ []) c.copy.ensures)
