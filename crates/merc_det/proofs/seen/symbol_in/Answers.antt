use Rattle.std.proofs.Common.{◌∙◌}
use Rattle.merc_det.proofs.SeenLaws.{symbol_none, symbol_some}
use Rattle.merc_det.proofs.seen.symbol_in.Goals as goal

pub returns-in_err-index : goal.returns-in_err-index
returns-in_err-index c =
    c.from_residual.ensures
    ∙ symbol_none c.args.entries.now c.args.latest.now c.args.variable c.number.result c.latest_at.result c.requires c.number.ensures c.latest_at.ensures c.in_err-index.was

pub returns : goal.returns
returns c =
    c.symbol_at.ensures
    ∙ symbol_some c.args.entries.now c.args.latest.now c.args.variable c.number.result c.in_ok-index.index c.latest_at.result c.requires c.number.ensures c.latest_at.ensures c.in_ok-index.was
