use Rattle.merc_join.proofs.Laws.{one_last}
use Rattle.merc_join.proofs.steps.one_is_last.Goals as goal

pub returns : goal.returns
returns g c = λ parent. one_last g.P.Forked.ends parent
