use Rattle.std.proofs.Common.{ap, ◌∙◌}
use Rattle.merc_goals.specs.Faults.{first_of_both, first_span}
use Rattle.merc_goals.specs.Found.{wrong_spans, outside_spans}
use Rattle.merc_goals.proofs.FoundLaws.{first_fault-entries}
use Rattle.merc_goals.proofs.goal.WrittenGoal.first_fault.Goals as goal

pub returns : goal.returns
returns c =
    c.first_fault.ensures
    ∙ ap (λ es. first_of_both (first_span (wrong_spans es)) (first_span (outside_spans es))) c.entries.ensures
    ∙ first_fault-entries c.args.self.now
