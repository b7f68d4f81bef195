use Rattle.std.proofs.Common.{◌≡◌, ◌==◌, take}
use Rattle.merc_rights.specs.Waits.{others, rights_of, those_waits}
use Rattle.merc_rights.proofs.parting.part_by_variable.Given as goal

abbrev pub invariant-loop-wait : goal.invariant-loop-wait
invariant-loop-wait l = record { before : l.parted.before ≡ rights_of (those_waits (λ other. other == l.variable) (take l.wait-index l.waits)); inside : l.parted.inside ≡ those_waits (others (λ other. other == l.variable)) (take l.wait-index l.waits) }
