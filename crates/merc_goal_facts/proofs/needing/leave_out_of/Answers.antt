use Rattle.std.proofs.Common.{◌∙◌, ap, sym}
use Rattle.merc_goal_facts.specs.declared.facts.Facts.{Facts}
use Rattle.merc_goal_facts.proofs.Keeping.{all_same, left_kept}
use Rattle.merc_goal_facts.proofs.needing.leave_out_of.Goals as goal

pub returns-then-part-facts : goal.returns-then-part-facts
returns-then-part-facts c = all_same c.args.facts.now

pub returns : goal.returns
returns c =
    left_kept c.args.facts.now c.args.part c.index-facts-part.result c.index-facts-part-2.result c.in_ok-left.left c.as_slice.result.now c.args.set.now c.index-facts-part.is
    (c.as_slice.ensures ∙ ap (λ (f : Facts). f.needs) (sym c.index-facts-part.is)) c.in_ok-left.ensures
