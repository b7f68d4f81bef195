use Rattle.merc_meaning.proofs.laws.run_at_any_depth.Goals as goal
use Rattle.merc_meaning.proofs.DepthLaw.{run-at_depth}

abbrev pub returns : goal.returns
returns c = run-at_depth
