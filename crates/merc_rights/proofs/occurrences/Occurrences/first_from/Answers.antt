use Rattle.std.proofs.Common.{ap, ◌∙◌}
use Rattle.merc_graded_tree.specs.Variables.{among}
use Rattle.merc_rights.specs.Rows.{next_from}
use Rattle.merc_rights.specs.Uses.{uses_of}
use Rattle.merc_rights.proofs.Indexes.{next_is}
use Rattle.merc_rights.proofs.occurrences.Occurrences.first_from.Goals as goal

pub returns : goal.returns
returns c =
    next_is c.args.variable c.args.from c.self.inside.index (uses_of c.self.inside.goal) c.next.result c.self.invariant c.next.ensures
    ∙ ap (λ whole. next_from (λ list. among list c.args.variable) c.args.from 0 (uses_of whole)) c.self.view_is
