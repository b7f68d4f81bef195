use Rattle.std.proofs.Common.{◌≡◌, ◌++◌, map, take}
use Rattle.merc_rights.specs.Rights.{right_to}
use Rattle.merc_rights.proofs.signals.put_rights.Given as goal

abbrev pub invariant-loop-conjunct : goal.invariant-loop-conjunct
invariant-loop-conjunct l = l.rights ≡ l.fn.rights ++ map (λ conjunct. right_to conjunct l.variable) (take l.conjunct-index l.conjunct-items)
