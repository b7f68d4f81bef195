use Rattle.merc_switch_choice.proofs.GapLaws.{no_gaps}
use Rattle.merc_switch_choice.proofs.summary.Summary.of.Goals as goal

pub returns : goal.returns
returns c = record { counts_are = c.in_ok-counts_of.ensures; gaps_are = no_gaps c.new.result c.args.disjuncts.now c.new.ensures }
