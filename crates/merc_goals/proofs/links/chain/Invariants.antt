use Rattle.std.proofs.Common.{◌≡◌, ◌++◌, ◌∷◌, []}
use Rattle.merc_goals.specs.Links.{chain}
use Rattle.merc_goals.proofs.ChainLaws.{stacked, parts_all}
use Rattle.merc_goals.proofs.links.chain.Given as goal

abbrev pub invariant-loop-link : goal.invariant-loop-link
invariant-loop-link l = l.members.items ++ stacked l.kind (l.stack.items ++ l.numbered ∷ []) ≡ chain l.kind l.root.at l.root.term

abbrev pub decreases-loop-link : goal.decreases-loop-link
decreases-loop-link l = parts_all (l.stack.items ++ l.numbered ∷ [])
