use Rattle.std.proofs.Common.{◌≡◌, ◌++◌, map, drop}
use Rattle.merc_rights.specs.Rows.{numbers_from}
use Rattle.merc_rights.specs.Members.{spared}
use Rattle.merc_rights.proofs.arms.spared_by.Given as goal

abbrev pub invariant-loop-number : goal.invariant-loop-number
invariant-loop-number l = l.numbers.items ++ map (λ number. number) (numbers_from (spared l.variable) l.number l.number (drop l.number l.members.goals.items)) ≡ numbers_from (spared l.variable) 0 0 l.members.goals.items
