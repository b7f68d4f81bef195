use Rattle.std.proofs.Common.{◌≡◌, ◌++◌, drop, length}
use Rattle.merc_gen.specs.Procedures.{mode_bodies, answer_once}
use Rattle.merc_gen.proofs.program.push_flags.Given as goal

abbrev pub invariant-loop-mode : goal.invariant-loop-mode
invariant-loop-mode l =
    (l.flags ++ answer_once (mode_bodies (drop l._mode-index l.modes) l.left) ≡ answer_once (mode_bodies l.modes l.fn.left))
    × (drop (length (drop l._mode-index l.modes)) l.left ≡ drop (length l.modes) l.fn.left)
