use Rattle.merc_top.proofs.Dues.{usage-found}
use Rattle.merc_top.proofs.answering.find_usage.Goals as goal

pub returns : goal.returns
returns c = λ words told before none.
    let line = c.in_ok-usage_due.ensures in
    usage-found words told before c.in_ok-usage_due.field-0 none line.0 line.1
