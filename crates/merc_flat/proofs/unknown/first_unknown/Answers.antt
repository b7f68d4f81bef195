use Rattle.std.proofs.Common.{ap, ◌∙◌}
use Rattle.std.proofs.lemmas.Result.{IfOk-weaker}
use Rattle.merc_goals.specs.Faults.{first_span}
use Rattle.merc_flat.specs.UnknownNames.{entries_unknown}
use Rattle.merc_flat.proofs.UnknownLaws.{unknown-entries}
use Rattle.merc_flat.proofs.unknown.first_unknown.Goals as goal

pub returns : goal.returns
returns c =
    IfOk-weaker c.first_among.result _ _
    (λ first is. is ∙ ap (λ es. first_span (entries_unknown c.args.known.now es)) c.entries.ensures ∙ ap first_span (unknown-entries c.args.known.now c.args.goal.now))
    c.first_among.ensures
