use Rattle.std.proofs.Common.{◌≡◌, ◌++◌, drop, length}
use Rattle.merc_par_split.specs.Split.{all_split}
use Rattle.merc_par_split.specs.Sites.{all_sites}
use Rattle.merc_par_split.proofs.program.Split.of.Given as goal

abbrev pub invariant-loop-index : goal.invariant-loop-index
invariant-loop-index l = record {
  trees : l.trees ++ all_split (length l.sites.items) (drop l.index l.graded) ≡ all_split 0 l.graded;
  sites : l.sites.items ++ all_sites (drop l.index l.graded) ≡ all_sites l.graded;
}
