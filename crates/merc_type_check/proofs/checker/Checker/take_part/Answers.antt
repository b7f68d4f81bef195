use Rattle.std.proofs.lemmas.Result.{IfOk-weaker}
use Rattle.merc_type_check.proofs.checker.Checker.take_part.Goals as goal

pub returns-in-Simple : goal.returns-in-Simple
returns-in-Simple c = rw c.in-Simple.is (IfOk-weaker c.take_goal.result _ _ (λ done takes. λ span. takes) c.take_goal.ensures)
