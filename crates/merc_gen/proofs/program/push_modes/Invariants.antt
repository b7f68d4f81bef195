use Rattle.std.proofs.Common.{◌≡◌, ◌++◌, drop, length, map}
use Rattle.merc_gen.specs.Generated.{procedure_code}
use Rattle.merc_gen.specs.Procedures.{mode_bodies}
use Rattle.merc_gen.specs.Singles.{contained}
use Rattle.merc_gen.proofs.program.push_modes.Given as goal

abbrev pub invariant-loop-mode : goal.invariant-loop-mode
invariant-loop-mode l =
    (l.procedures ++ map (procedure_code (contained l.singles)) (mode_bodies (drop l.mode-index l.modes) l.left)
    ≡ map (procedure_code (contained l.singles)) (mode_bodies l.modes l.fn.left))
    × (drop (length (drop l.mode-index l.modes)) l.left ≡ drop (length l.modes) l.fn.left)
