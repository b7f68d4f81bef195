use Rattle.std.proofs.Common.{ap, sym, ◌∙◌}
use Rattle.merc_type_expr.specs.Solving.{walked}
use Rattle.merc_type_expr.proofs.Lists.{walked-append}
use Rattle.merc_type_expr.proofs.following.walked.Goals as goal

pub returns : goal.returns
returns c =
    c.walked_found.ensures ∙ ap (walked c.args.found.now) c.walked_under-inner.ensures ∙ sym (walked-append c.args.under.now c.args.found.now c.args.of.now)
