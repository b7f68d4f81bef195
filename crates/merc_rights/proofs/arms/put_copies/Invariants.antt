use Rattle.std.proofs.Common.{◌≡◌, ◌++◌, map, take}
use Rattle.std.specs.List.{flat_map}
use Rattle.merc_rights.specs.Groups.{numbered, rights_in}
use Rattle.merc_rights.proofs.arms.put_copies.Given as goal

abbrev pub invariant-loop-number : goal.invariant-loop-number
invariant-loop-number l = numbered l.found.items ≡ numbered l.fn.found.items ++ flat_map (λ number. map (λ right. (number, right)) (rights_in l.group)) (take l.number-index l.numbers)
