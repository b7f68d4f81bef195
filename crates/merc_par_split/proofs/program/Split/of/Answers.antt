use Rattle.merc_par_split.proofs.PlannedCounts.{trees_more, sites_more, first_left}
use Rattle.merc_par_split.proofs.program.Split.of.Goals as goal

pub loop-index-preserved : goal.loop-index-preserved
loop-index-preserved c =
    let next = first_left c.args.graded.now c.loop-index.index _ c.in-Some.ensures in
    let done = c.in_ok-split-in-Some.ensures in
    record {
      trees = trees_more _ _ _ _ _ _ _ _ next done.tree done.sites c.loop-index.invariant.trees;
      sites = sites_more _ _ _ _ _ _ next done.sites c.loop-index.invariant.sites;
    }
