use Rattle.merc_plan.proofs.laws.branches_play.Goals as goal
use Rattle.merc_plan.proofs.PlaysNodes.{node_plays}

abbrev pub returns : goal.returns
returns c = node_plays
