use Rattle.std.proofs.Common.{◌==◌, ◌∙◌, Some, ap, cond}
use Rattle.merc_switch_choice.specs.Gaps.{gap_of}
use Rattle.merc_switch_choice.proofs.GapLaws.{one_more_gap}
use Rattle.merc_switch_choice.proofs.gaps.Gaps.put.Goals as goal

pub returns : goal.returns
returns c = λ disjuncts before avoid.
    one_more_gap c.args.self.now (record { by_number = c.insert.new.self }) c.args.variable c.args.gap disjuncts
    (λ v. c.in_ok-insert.ensures.updates.0 v ∙ ap (λ n. cond (n == v) (Some c.args.gap) (gap_of c.args.self.now v)) c.number.ensures) before avoid
