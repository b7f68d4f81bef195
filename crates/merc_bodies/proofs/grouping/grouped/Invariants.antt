use Rattle.std.proofs.Common.{◌≡◌, ◌++◌, length, map, drop}
use Rattle.merc_tree.specs.declared.declarations.PredDecl.{PredDecl}
use Rattle.merc_base.specs.Groups.{kept}
use Rattle.merc_bodies.specs.Grouping.{formed_seen, headed, paired}
use Rattle.merc_bodies.proofs.grouping.grouped.Given as goal

abbrev pub invariant-loop-index : goal.invariant-loop-index
invariant-loop-index l = (declared : PredDecl)
    → map formed_seen (kept l.groups declared.name (length declared.args)) ++ headed declared (paired (drop l.index l.clauses) (drop l.index l.forms)) ≡ headed declared (paired l.clauses l.forms)
