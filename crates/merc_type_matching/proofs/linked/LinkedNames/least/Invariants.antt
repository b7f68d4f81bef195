use Rattle.std.proofs.Common.{◌≡◌, ℕ}
use Rattle.merc_tree.specs.Types.{TypeExpr}
use Rattle.merc_type_matching.specs.Linked.{Agree, SameLinks}
use Rattle.merc_type_matching.proofs.linked.LinkedNames.least.Given as goal

abbrev pub invariant-loop-next : goal.invariant-loop-next
invariant-loop-next l = record {
  links : SameLinks l.fn.self l.self;
  same : (one other : ℕ → TypeExpr) → Agree l.fn.self one other → one l.at ≡ one l.fn.name;
}

abbrev pub decreases-loop-next : goal.decreases-loop-next
decreases-loop-next l = l.at
